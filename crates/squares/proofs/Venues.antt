-- A team plays at a venue in one round only. Assumes nothing.
use Rattle.std.proofs.Common.{◌≡◌, ℕ, ◌<◌, ◌≤◌, true, ◌⊎◌, List, length, sym, ap, ◌∙◌, inl, inr, arith}
use Rattle.groups.specs.Tables.{Table, Laws, difference}
use Rattle.groups.specs.Algebra.{some, add_zero, cancel_right, difference_only}
use Rattle.starters.specs.Pairs.{at, Holds}
use Rattle.starters.specs.Starters.{Strong}
use Rattle.starters.specs.declared.pair.Pair.{Pair}
use Rattle.starters.proofs.Likeness.{one_pair}
use Rattle.starters.proofs.StrongStarters.{numbers_right}
use Rattle.squares.specs.Cells.{plays}
use Rattle.squares.specs.Squares.{venue_of, square}
use Rattle.squares.proofs.Rounds.{plays_where, moved_team, sum_below}
use Rattle.squares.proofs.Meetings.{Moved, assoc_swap}

module _ (g : Table) (l : Laws g) (ps : List Pair) (s : Strong g ps) where
  -- the pair of a meeting at venue v holds v − u, where u is one of its teams
  meeting_holds : (r : ℕ) → r < g.order → (u v k : ℕ) → u < g.order → v < g.order → k < length ps → venue_of g r (at ps k) ≡ v
      → Moved g r u (at ps k) → Holds (difference g v u) (at ps k)
  meeting_holds r hr u v k hu hv h ev m =
      let p = s.starter.pairs k h in
      grind (arith, difference_only g l v u, assoc_swap g l ps s, l.commutative)

  -- one pair plays at one venue in one round only
  round_apart : (r q k : ℕ) → r < g.order → q < g.order → k < length ps → venue_of g r (at ps k) ≡ venue_of g q (at ps k) → r ≡ q
  round_apart r q k hr hq h e = cancel_right g l (g.add (at ps k).first (at ps k).second) r q (sum_below g l ps s r hr k h) hr hq e

  -- the guest, and the team whose number the venue has, play there in no pair's meeting
  own_apart : (r : ℕ) → r < g.order → (u v k : ℕ) → v < g.order → k < length ps → venue_of g r (at ps k) ≡ v
      → (v ≡ u) ⊎ (g.order ≡ u) → Moved g r u (at ps k) → ⊥
  own_apart r hr u v k hv h ev own m =
      let p = s.starter.pairs k h in
      let team = moved_team g l ps s r hr k h u m in
      let same : v ≡ u = grind arith in
      let zero : difference g v u ≡ 0 = sym (difference_only g l v u 0 hv team.0 (some g l) (add_zero g l u team.0 ∙ sym same)) in
      let holds = meeting_holds r hr u v k team.0 hv h ev m in
      grind arith

  pub rounds_apart : (r q v u : ℕ) → r < g.order → q < g.order → v < g.order → u ≤ g.order
      → plays u (square g ps r v) ≡ true → plays u (square g ps q v) ≡ true → r ≡ q
  rounds_apart r q v u hr hq hv hu t t' =
      elim (plays_where g l ps s r hr u v t) [
        | inl x ↦
            elim (plays_where g l ps s q hq u v t') [
              | inl y ↦ sym x.0 ∙ y.0
              | inr y ↦ absurd (own_apart q hq u v y.0 hv y.1 y.2 (grind arith) y.3)
            ]
        | inr x ↦
            elim (plays_where g l ps s q hq u v t') [
              | inl y ↦ absurd (own_apart r hr u v x.0 hv x.1 x.2 (grind arith) x.3)
              | inr y ↦
                  let team = (moved_team g l ps s r hr x.0 x.1 u x.3).0 in
                  let same : x.0 ≡ y.0 =
                  one_pair ps (numbers_right g l ps s).different (difference g v u) x.0 y.0 x.1 y.1
                  (meeting_holds r hr u v x.0 team hv x.1 x.2 x.3) (meeting_holds q hq u v y.0 team hv y.1 y.2 y.3) in
                  round_apart r q x.0 hr hq x.1 (x.2 ∙ sym y.2 ∙ ap (λ (k : ℕ). venue_of g q (at ps k)) (sym same))
            ]
      ]

-- Two teams meet in one round only. Assumes nothing.
use Rattle.std.proofs.Common.{◌≡◌, ℕ, ◌<◌, ◌≤◌, ◌≢◌, ◌⊎◌, List, length, sym, refl, ap, ◌∙◌, subst, inl, inr, arith}
use Rattle.groups.specs.Tables.{Table, Laws, difference}
use Rattle.groups.specs.Algebra.{cancel_left, difference_below, difference_adds, difference_only}
use Rattle.starters.specs.Pairs.{at, Alike}
use Rattle.starters.specs.Starters.{Strong}
use Rattle.starters.specs.declared.pair.Pair.{Pair}
use Rattle.starters.proofs.Places.{length_both, both_first, both_second}
use Rattle.starters.proofs.StrongStarters.{differences_right}
use Rattle.squares.specs.Squares.{square}
use Rattle.squares.specs.RoomSquares.{Together}
use Rattle.squares.proofs.Rounds.{plays_where, venue_not_own, venue_apart}
use Rattle.squares.proofs.Meetings.{Moved, assoc_swap}

module _ (g : Table) (l : Laws g) (ps : List Pair) (s : Strong g ps) where
  -- a directed difference stands at one place
  directed_once : (d k p q k' p' q' : ℕ) → k < length ps → k' < length ps → Alike (at ps k) (record { first = p; second = q })
      → Alike (at ps k') (record { first = p'; second = q' }) → difference g p q ≡ d → difference g p' q' ≡ d → (k ≡ k') × (p ≡ p')
  directed_once d k p q k' p' q' h h' a a' e e' =
      let f : Pair → ℕ = λ x. difference g x.first x.second in
      let long = length_both f ps in
      let first = both_first f ps k h in
      let second = both_second f ps k h in
      let first' = both_first f ps k' h' in
      let second' = both_second f ps k' h' in
      grind (arith, differences_right g l ps s)

  -- numbers p and q moved by r to u and w have the difference u − w
  moved_difference : (p q r u w : ℕ) → p < g.order → q < g.order → r < g.order → w < g.order → u < g.order
      → g.add p r ≡ u → g.add q r ≡ w → difference g p q ≡ difference g u w
  moved_difference p q r u w hp hq hr hw hu eu ew =
      let hd = difference_below g l p q hp hq in
      grind (arith, difference_only g l u w, assoc_swap g l ps s q (difference g p q) r, difference_adds g l p q, l.commutative)

  -- the two teams of a meeting, in the direction from u to w
  meeting_directed : (r : ℕ) → (k u w : ℕ) → k < length ps → u ≢ w → Moved g r u (at ps k) → Moved g r w (at ps k)
      → (p : ℕ) × ((q : ℕ) × (Alike (at ps k) (record { first = p; second = q }) × (p < g.order) × (q < g.order) × (g.add p r ≡ u) × (g.add q r ≡ w)))
  meeting_directed r k u w h ne (inl x) (inl y) = absurd (ne (sym x ∙ y))
  meeting_directed r k u w h ne (inl x) (inr y) =
      let p = s.starter.pairs k h in ((at ps k).first, ((at ps k).second, (inl refl, p.first_below, p.second_below, x, y)))
  meeting_directed r k u w h ne (inr x) (inl y) =
      let p = s.starter.pairs k h in ((at ps k).second, ((at ps k).first, (inr refl, p.second_below, p.first_below, x, y)))
  meeting_directed r k u w h ne (inr x) (inr y) = absurd (ne (sym x ∙ y))

  -- how two teams meet in round r: at the venue of the round, where one of them is the guest, or as two numbers of a pair
  Meeting : (r u w : ℕ) → Type 0
  Meeting r u w =
      (((r ≡ u) × (g.order ≡ w)) ⊎ ((g.order ≡ u) × (r ≡ w)))
      ⊎ ((k : ℕ) × (k < length ps) × ((p : ℕ) × ((q : ℕ) × (Alike (at ps k) (record { first = p; second = q }) × (p < g.order) × (q < g.order) × (g.add p r ≡ u) × (g.add q r ≡ w)))))

  meeting : (r v u w : ℕ) → r < g.order → u ≢ w → Together u w (square g ps r v) → Meeting r u w
  unfolding Meeting
  meeting r v u w hr ne t =
      elim (plays_where g l ps s r hr u v t.0) [
        | inl x ↦
            elim (plays_where g l ps s r hr w v t.1) [
              | inl y ↦ inl (grind arith)
              | inr y ↦ absurd (venue_not_own g l ps s r hr y.0 y.1 (y.2 ∙ x.0))
            ]
        | inr x ↦
            elim (plays_where g l ps s r hr w v t.1) [
              | inl y ↦ absurd (venue_not_own g l ps s r hr x.0 x.1 (x.2 ∙ y.0))
              | inr y ↦
                  let one : y.0 ≡ x.0 = venue_apart g l ps s r hr y.0 x.0 y.1 x.1 (y.2 ∙ sym x.2) in
                  inr (x.0, x.1, meeting_directed r x.0 u w x.1 ne x.3 (subst (λ (k : ℕ). Moved g r w (at ps k)) one y.3))
            ]
      ]

  pub meetings_apart : (r a v b u w : ℕ) → r < g.order → a < g.order → v < g.order → b < g.order → u ≤ g.order → w ≤ g.order → u ≢ w
      → Together u w (square g ps r v) → Together u w (square g ps a b) → r ≡ a
  unfolding Meeting
  meetings_apart r a v b u w hr ha hv hb hu hw ne t t' =
      elim (meeting r v u w hr ne t) [
        | inl x ↦ elim (meeting a b u w ha ne t') [ inl y ↦ grind arith | inr (k, h, (p, (q, m))) ↦ absurd (grind (arith, l.closed)) ]
        | inr (k, h, (p, (q, m))) ↦
            elim (meeting a b u w ha ne t') [
              | inl y ↦ absurd (grind (arith, l.closed))
              | inr (k', h', (p', (q', m'))) ↦
                  let below_u : u < g.order = subst (λ (x : ℕ). x < g.order) m.3 (l.closed p r m.1 hr) in
                  let below_w : w < g.order = subst (λ (x : ℕ). x < g.order) m.4 (l.closed q r m.2 hr) in
                  let same = directed_once (difference g u w) k p q k' p' q' h h' m.0 m'.0
                  (moved_difference p q r u w m.1 m.2 hr below_w below_u m.3 m.4)
                  (moved_difference p' q' a u w m'.1 m'.2 ha below_w below_u m'.3 m'.4) in
                  cancel_left g l p r a m.1 hr ha (m.3 ∙ sym m'.3 ∙ ap (λ (x : ℕ). g.add x a) (sym same.1))
            ]
      ]

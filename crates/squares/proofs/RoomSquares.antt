-- The square of a strong starter is a Room square. Assumes nothing.
use Rattle.std.proofs.Common.{◌≡◌, ℕ, ◌<◌, ◌≤◌, true, ◌≢◌, List, length, sym, ap, ◌∙◌, subst, inl, inr, arith}
use Rattle.std.proofs.lemmas.Bool.{cases_eq}
use Rattle.groups.specs.Numbers.{OnlyOne}
use Rattle.groups.specs.Tables.{Table, Laws, difference}
use Rattle.groups.specs.Algebra.{cancel_right, difference_below}
use Rattle.starters.specs.Pairs.{at}
use Rattle.starters.specs.Starters.{Strong}
use Rattle.starters.specs.declared.pair.Pair.{Pair}
use Rattle.squares.specs.Cells.{plays}
use Rattle.squares.specs.Squares.{teams_of, square}
use Rattle.squares.specs.RoomSquares.{Proper, RoomSquare}
use Rattle.squares.specs.Cards.{Line}
use Rattle.squares.proofs.Teams.{plays_first}
use Rattle.squares.proofs.Rounds.{line_of_guest, line_by_pair, line_by_none}
use Rattle.squares.proofs.Meetings.{holder}
use Rattle.squares.proofs.Encounters.{meetings_apart}
use Rattle.squares.proofs.Venues.{rounds_apart}
use Rattle.squares.proofs.Counting.{room_square_by}

module _ (g : Table) (l : Laws g) (ps : List Pair) (s : Strong g ps) where
  -- each team has a line in each round, and so plays exactly once
  pub line_of : (r u : ℕ) → r < g.order → u ≤ g.order → (a : ℕ) × ((v : ℕ) × ((o : ℕ) × Line g ps u r a v o))
  line_of r u hr hu =
      elim (cases_eq u g.order) [
        | inl e ↦ (0, (r, (r, subst (λ (x : ℕ). Line g ps x r 0 r r) (sym e) (line_of_guest g l ps s r hr))))
        | inr ne ↦
            let less : u < g.order = omega arith in
            let d : ℕ = difference g u r in
            elim (cases_eq d 0) [
              | inl zero ↦ (_, (_, (_, line_by_none g l ps s r hr u less (λ k h holds. let p = s.starter.pairs k h in grind arith))))
              | inr nz ↦
                  let w = holder g l ps s d (omega arith) (difference_below g l u r less hr) in
                  (_, (_, (_, line_by_pair g l ps s r hr w.0 w.1 u w.2.0 less w.2.1)))
            ]
      ]

  round_once : (r u : ℕ) → r < g.order → u ≤ g.order → OnlyOne g.order (λ v. plays u (square g ps r v) ≡ true)
  round_once r u hr hu =
      let w = line_of r u hr hu in
      let m = w.1.1.1 in
      record {
        here = w.1.0;
        below = m.there.0;
        holds = ap (plays u) m.there.1 ∙ plays_first u w.1.1.0;
        alone = m.nowhere_else;
      }

  -- the cell of two moved numbers of a pair
  proper_teams : (r k : ℕ) → r < g.order → k < length ps → Proper g.order (teams_of g r (at ps k))
  proper_teams r k hr h =
      let p = s.starter.pairs k h in
      let x : g.add (at ps k).first r < g.order = l.closed (at ps k).first r p.first_below hr in
      let y : g.add (at ps k).second r < g.order = l.closed (at ps k).second r p.second_below hr in
      let ne : g.add (at ps k).first r ≢ g.add (at ps k).second r = λ e. p.two (cancel_right g l r (at ps k).first (at ps k).second hr p.first_below p.second_below e) in
      grind arith

  proper_cell : (r v : ℕ) → r < g.order → v < g.order → Proper g.order (square g ps r v)
  proper_cell r v hr hv = grind (arith, proper_teams)

  pub room_square : RoomSquare g.order (square g ps)
  room_square = room_square_by g.order (square g ps) proper_cell round_once (rounds_apart g l ps s) (meetings_apart g l ps s)

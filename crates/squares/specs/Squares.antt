-- The square of a strong starter ps of a group g of order n. The teams are 0 to n, and team n is the guest. Assumes nothing.
--     venue_of g r p          the venue at which the pair p = {x, y} plays round r: r + (x + y)
--     teams_of g r p          the cell of that meeting, between the teams x + r and y + r
--     place_of g ps r v       the place, from 0, of the pair that plays round r at venue v, or the length of ps where none does
--     square g ps             the cells: in round r the guest meets team r at venue r, each pair plays at its venue, and all
--                             other cells are empty
use Rattle.std.specs.Prelude.{◌≡◌, ℕ, cond, List, [], ◌∷◌, length, ◌==◌, nat_eq, nat_lt, refl}
use Rattle.groups.specs.Numbers.{lowest}
use Rattle.groups.specs.Tables.{Table, cyclic}
use Rattle.starters.specs.Pairs.{at, paired}
use Rattle.starters.specs.declared.pair.Pair.{Pair}
use Rattle.squares.specs.Cells.{Cell, Cells, empty, meet, lower_first}

module _ (g : Table) where
  abbrev pub venue_of : ℕ → Pair → ℕ
  venue_of r p = g.add r (g.add p.first p.second)

  abbrev pub teams_of : ℕ → Pair → Cell
  teams_of r p = lower_first (g.add p.first r) (g.add p.second r)

  abbrev pub place_of : List Pair → ℕ → ℕ → ℕ
  place_of ps r v = lowest (λ k. nat_eq (venue_of r (at ps k)) v) (length ps) 0

  abbrev pub square : List Pair → Cells
  square ps r v =
      let k : ℕ = place_of ps r v in
      cond (v == r) (meet r g.order) (cond (nat_lt k (length ps)) (teams_of r (at ps k)) empty)

-- Examples.

guests_meeting : square (cyclic 7) (paired (1 ∷ 3 ∷ 2 ∷ 6 ∷ 4 ∷ 5 ∷ [])) 1 1 ≡ meet 1 7
guests_meeting = refl

a_meeting : square (cyclic 7) (paired (1 ∷ 3 ∷ 2 ∷ 6 ∷ 4 ∷ 5 ∷ [])) 1 2 ≡ meet 0 3
a_meeting = refl

an_empty_cell : square (cyclic 7) (paired (1 ∷ 3 ∷ 2 ∷ 6 ∷ 4 ∷ 5 ∷ [])) 1 0 ≡ empty
an_empty_cell = refl

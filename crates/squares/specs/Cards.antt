-- The movement card of a team in the square of a written strong starter ps of a group g of order n. Assumes nothing.
--     venue_in n cells r u      the venue at which the team u plays round r
--     table_in g ps r v         the table of round r at venue v: 0 for the guest's meeting, else the place, from 1, of its pair
--     line g ps u r             three bytes of round r: table, venue, opponent
--     lines g ps u r k          the lines of the k rounds from r on
--     card g ps u               the lines of all rounds
--     Line g ps u r a v o       what a line says: in round r the team plays at venue v and nowhere else, against o, at table a
--     CardWritten g bs u ..     what a card call writes: the card of the team in a Room square, the square of the starter
--     CardRefused g bs u ..     the first question of a card call that is answered no
--     Carded g bs u ..          what a card call answers, and what the caller's place holds before and after it
use Rattle.std.specs.Prelude.{◌≡◌, ℕ, zero, suc, ◌+◌, ◌*◌, ◌<◌, ◌≤◌, true, cond, ◌≢◌, ◌⊎◌, List, [], ◌∷◌, ◌++◌, length, drop, None, Result, MatchResult, ◌==◌, slice_index, refl}
use Rattle.groups.specs.Numbers.{lowest}
use Rattle.groups.specs.Tables.{Table, cyclic}
use Rattle.groups.specs.declared.refusal.Refusal.TheVariants.{Team, Place}
use Rattle.starters.specs.Claims.{WrittenList, Refused, fault}
use Rattle.starters.specs.Pairs.{at, paired}
use Rattle.starters.specs.Starters.{Strong}
use Rattle.starters.specs.declared.fault.Fault.{Fault}
use Rattle.starters.specs.declared.pair.Pair.{Pair}
use Rattle.squares.specs.Cells.{Cells, lower_first, plays, opponent}
use Rattle.squares.specs.RoomSquares.{RoomSquare}
use Rattle.squares.specs.Squares.{venue_of, teams_of, place_of, square}

abbrev pub venue_in : ℕ → Cells → ℕ → ℕ → ℕ
venue_in n cells r u = lowest (λ v. plays u (cells r v)) n 0

module _ (g : Table) (ps : List Pair) where
  abbrev pub table_in : ℕ → ℕ → ℕ
  table_in r v = cond (v == r) 0 (place_of g ps r v + 1)

  abbrev pub line : ℕ → ℕ → List ℕ
  line u r =
      let v : ℕ = venue_in g.order (square g ps) r u in
      table_in r v ∷ (v ∷ (opponent u (square g ps r v) ∷ []))

  abbrev pub lines : ℕ → ℕ → ℕ → List ℕ
  lines u r zero = []
  lines u r (suc k) = line u r ++ lines u (r + 1) k

  abbrev pub card : ℕ → List ℕ
  card u = lines u 0 g.order

  pub record Line (u r table venue other : ℕ) : Type 0 where
    pub there : (venue < g.order) × (square g ps r venue ≡ lower_first u other)
    pub nowhere_else : (v : ℕ) → v < g.order → plays u (square g ps r v) ≡ true → v ≡ venue
    pub against : (other ≤ g.order) × (other ≢ u)
    pub at_table : ((table ≡ 0) × ((u ≡ g.order) ⊎ (other ≡ g.order)))
        ⊎ ((k : ℕ) × (k < length ps) × (table ≡ k + 1) × (venue_of g r (at ps k) ≡ venue) × (teams_of g r (at ps k) ≡ lower_first u other))

pub record CardWritten (g : Table) (bs : List ℕ) (u : ℕ) (before after : List ℕ) (long : ℕ) : Type 0 where
  pub starter : List Pair
  pub listed : WrittenList g bs starter
  pub team : u ≤ g.order
  pub size : long ≡ 3 * g.order
  pub room : long ≤ length before
  pub bytes : after ≡ card g starter u ++ drop long before
  pub fair : RoomSquare g.order (square g starter)
  pub says : (r : ℕ) → r < g.order → Line g starter u r (slice_index after (3 * r)) (slice_index after (3 * r + 1)) (slice_index after (3 * r + 2))

pub data CardRefused (g : Table) (bs : List ℕ) (u : ℕ) (before : List ℕ) (f : Fault) : Type 0 where
  by_claim : Refused g bs f → CardRefused g bs u before f
  by_team : f ≡ fault Team None → length bs + 1 ≡ g.order → Strong g (paired bs) → g.order < u → CardRefused g bs u before f
  by_place : f ≡ fault Place None → length bs + 1 ≡ g.order → Strong g (paired bs) → u ≤ g.order → length before < 3 * g.order
      → CardRefused g bs u before f

abbrev pub Carded : Table → List ℕ → ℕ → List ℕ → List ℕ → Result ℕ Fault → Type 0
Carded g bs u before after r =
    MatchResult r (CardWritten g bs u before after) (λ f. (after ≡ before) × CardRefused g bs u before f)

-- Examples.

first_line : line (cyclic 7) (paired (1 ∷ 3 ∷ 2 ∷ 6 ∷ 4 ∷ 5 ∷ [])) 0 0 ≡ 0 ∷ 0 ∷ 7 ∷ []
first_line = refl

second_line : line (cyclic 7) (paired (1 ∷ 3 ∷ 2 ∷ 6 ∷ 4 ∷ 5 ∷ [])) 0 1 ≡ 2 ∷ 2 ∷ 3 ∷ []
second_line = refl

guests_second_line : line (cyclic 7) (paired (1 ∷ 3 ∷ 2 ∷ 6 ∷ 4 ∷ 5 ∷ [])) 7 1 ≡ 0 ∷ 1 ∷ 1 ∷ []
guests_second_line = refl

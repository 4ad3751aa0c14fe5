-- Starters of a group g of order n, as lists of pairs. Assumes nothing.
--     IsPair g p          two different nonzero elements
--     IsStarter g ps      (n − 1)/2 pairs in which each nonzero element stands exactly once, and of which it is exactly once
--                         a difference, x − y and y − x both counted
--     Strong g ps         a starter whose sums x + y are nonzero and all different
--     Written ps          the smaller number first in each pair, and the first numbers rising
--     Lowest xs a         a is the lowest nonzero number that is not in xs
--     Sound g ps          what makes a list of pairs sound: it may grow into a written strong starter
use Rattle.std.specs.Prelude.{◌≡◌, ℕ, ◌+◌, ◌/◌, ◌<◌, ◌≢◌, List, length, take, slice_index}
use Rattle.groups.specs.Numbers.{Once, Different}
use Rattle.groups.specs.Tables.{Table}
use Rattle.starters.specs.Pairs.{at, numbers, differences, sums}
use Rattle.starters.specs.declared.pair.Pair.{Pair}

pub record IsPair (g : Table) (p : Pair) : Type 0 where
  pub first_nonzero : 0 < p.first
  pub first_below : p.first < g.order
  pub second_nonzero : 0 < p.second
  pub second_below : p.second < g.order
  pub two : p.first ≢ p.second

pub record IsStarter (g : Table) (ps : List Pair) : Type 0 where
  pub size : length ps + length ps + 1 ≡ g.order
  pub pairs : (k : ℕ) → k < length ps → IsPair g (at ps k)
  pub each_number_once : (a : ℕ) → 0 < a → a < g.order → Once (numbers ps) a
  pub each_difference_once : (a : ℕ) → 0 < a → a < g.order → Once (differences g ps) a

pub record Strong (g : Table) (ps : List Pair) : Type 0 where
  pub starter : IsStarter g ps
  pub sums_nonzero : (k : ℕ) → k < length ps → 0 < slice_index (sums g ps) k
  pub sums_different : Different (sums g ps)

pub record Written (ps : List Pair) : Type 0 where
  pub smaller_first : (k : ℕ) → k < length ps → (at ps k).first < (at ps k).second
  pub rising : (j k : ℕ) → j < k → k < length ps → (at ps j).first < (at ps k).first

pub record Lowest (xs : List ℕ) (a : ℕ) : Type 0 where
  pub nonzero : 0 < a
  pub absent : (j : ℕ) → j < length xs → slice_index xs j ≢ a
  pub none_lower : (b : ℕ) → 0 < b → b < a → (j : ℕ) × (j < length xs) × (slice_index xs j ≡ b)

pub record Sound (g : Table) (ps : List Pair) : Type 0 where
  pub begins_lowest : (k : ℕ) → k < length ps → Lowest (numbers (take k ps)) (at ps k).first
  pub second_greater : (k : ℕ) → k < length ps → (at ps k).first < (at ps k).second
  pub second_below : (k : ℕ) → k < length ps → (at ps k).second < g.order
  pub numbers_different : Different (numbers ps)
  pub differences_apart : (i j : ℕ) → i < length (differences g ps) → j < length (differences g ps)
      → slice_index (differences g ps) i ≡ slice_index (differences g ps) j → i / 2 ≡ j / 2
  pub sums_nonzero : (k : ℕ) → k < length ps → 0 < slice_index (sums g ps) k
  pub sums_different : Different (sums g ps)

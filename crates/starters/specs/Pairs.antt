-- Lists of pairs of a group's elements, by their numbers. Assumes nothing.
--     nobody                  the pair of zeros, for places past the end of a list
--     at ps k                 the pair at place k, from 0
--     flipped p               the pair with its numbers exchanged
--     both f ps               f of each pair and then of the pair flipped
--     numbers ps              the numbers x and y of each pair
--     differences g ps        x − y and then y − x of each pair
--     sums g ps               x + y of each pair
--     paired bs               the pairs that bytes list, two by two
--     Holds a p               the number a is one of the pair's
--     Alike p q               the same pair, with either number first
--     Listed ps p             p stands in ps, with either number first
--     SamePairs ps qs         the two lists hold the same pairs
--     pairs_of s              the list that a starter's value holds
use Rattle.std.specs.Prelude.{◌≡◌, ℕ, ◌<◌, ◌⊎◌, List, [], ◌∷◌, map, length, take, slice_index_or, refl}
use Rattle.groups.specs.Tables.{Table, difference, cyclic}
use Rattle.starters.specs.declared.pair.Pair.{Pair}
use Rattle.starters.specs.declared.starter.Starter.{Starter}

abbrev pub nobody : Pair
nobody = record { first = 0; second = 0 }

abbrev pub at : List Pair → ℕ → Pair
at ps k = slice_index_or ps k nobody

abbrev pub flipped : Pair → Pair
flipped p = record { first = p.second; second = p.first }

abbrev pub both : (Pair → ℕ) → List Pair → List ℕ
both f [] = []
both f (p ∷ ps) = f p ∷ (f (flipped p) ∷ both f ps)

abbrev pub numbers : List Pair → List ℕ
numbers = both (λ p. p.first)

abbrev pub differences : Table → List Pair → List ℕ
differences g = both (λ p. difference g p.first p.second)

abbrev pub sums : Table → List Pair → List ℕ
sums g = map (λ p. g.add p.first p.second)

abbrev pub paired : List ℕ → List Pair
paired [] = []
paired (x ∷ []) = []
paired (x ∷ (y ∷ bs)) = record { first = x; second = y } ∷ paired bs

abbrev pub Holds : ℕ → Pair → Type 0
Holds a p = (p.first ≡ a) ⊎ (p.second ≡ a)

abbrev pub Alike : Pair → Pair → Type 0
Alike p q = (p ≡ q) ⊎ (p ≡ flipped q)

abbrev pub Listed : List Pair → Pair → Type 0
Listed ps p = (k : ℕ) × (k < length ps) × Alike (at ps k) p

abbrev pub SamePairs : List Pair → List Pair → Type 0
SamePairs ps qs = ((k : ℕ) → k < length ps → Listed qs (at ps k)) × ((k : ℕ) → k < length qs → Listed ps (at qs k))

abbrev pub pairs_of : Starter → List Pair
pairs_of s = take s.count s.pairs

-- Examples.

some_numbers : numbers (paired (1 ∷ 3 ∷ 2 ∷ 6 ∷ 4 ∷ 5 ∷ [])) ≡ 1 ∷ 3 ∷ 2 ∷ 6 ∷ 4 ∷ 5 ∷ []
some_numbers = refl

some_differences : differences (cyclic 7) (paired (1 ∷ 3 ∷ 2 ∷ 6 ∷ 4 ∷ 5 ∷ [])) ≡ 5 ∷ 2 ∷ 3 ∷ 4 ∷ 6 ∷ 1 ∷ []
some_differences = refl

some_sums : sums (cyclic 7) (paired (1 ∷ 3 ∷ 2 ∷ 6 ∷ 4 ∷ 5 ∷ [])) ≡ 4 ∷ 1 ∷ 2 ∷ []
some_sums = refl

-- A claimed starter of a group g of order n: bytes that list pairs, two by two. Assumes nothing.
--     OutOfPlace n xs j        the number at place j of xs is 0, or n or more, or there more than once
--     AtFault n xs w k         the pair k, from 1, has a number out of place in xs, where xs has w numbers for each pair
--     NumbersRight n xs        each number of xs is from 1 to n − 1, and there once
--     Found n xs r             r is Ok where the numbers of xs are right, else the Err of a place out of place
--     DifferencesRight g ps    all differences of the pairs, in both directions, are different
--     SumsRight g ps           all sums of the pairs are nonzero and different
--     fault q k                the refusal q with the pair k, where it names one
--     WrittenList g bs ps      the bytes list a strong starter, and ps is its one written list
--     Refused g bs f           the first question that is answered no, and a pair at fault
--     Claimed g bs r           what a claim answers
use Rattle.std.specs.Prelude.{◌≡◌, ℕ, ◌+◌, ◌/◌, ◌<◌, ◌≤◌, ◌≢◌, ◌⊎◌, List, length, Some, None, Option, Result, MatchResult, slice_index}
use Rattle.groups.specs.Numbers.{Different}
use Rattle.groups.specs.Tables.{Table}
use Rattle.groups.specs.declared.refusal.Refusal.{Refusal}
use Rattle.groups.specs.declared.refusal.Refusal.TheVariants.{Length, Numbers, Differences, Sums}
use Rattle.starters.specs.Pairs.{paired, differences, sums, SamePairs, pairs_of}
use Rattle.starters.specs.Starters.{Strong, Written}
use Rattle.starters.specs.declared.pair.Pair.{Pair}
use Rattle.starters.specs.declared.starter.Starter.{Starter}
use Rattle.starters.specs.declared.fault.Fault.{Fault}

abbrev pub OutOfPlace : ℕ → List ℕ → ℕ → Type 0
OutOfPlace n xs j =
    (slice_index xs j ≡ 0) ⊎ ((n ≤ slice_index xs j) ⊎ ((i : ℕ) × (i < length xs) × (i ≢ j) × (slice_index xs i ≡ slice_index xs j)))

abbrev pub AtFault : ℕ → List ℕ → ℕ → ℕ → Type 0
AtFault n xs w k = (j : ℕ) × (j < length xs) × (j / w + 1 ≡ k) × OutOfPlace n xs j

pub record NumbersRight (n : ℕ) (xs : List ℕ) : Type 0 where
  pub nonzero : (j : ℕ) → j < length xs → 0 < slice_index xs j
  pub below : (j : ℕ) → j < length xs → slice_index xs j < n
  pub different : Different xs

abbrev pub Found : ℕ → List ℕ → Result Unit ℕ → Type 0
Found n xs r = MatchResult r (λ _. NumbersRight n xs) (λ j. (j < length xs) × OutOfPlace n xs j)

abbrev pub DifferencesRight : Table → List Pair → Type 0
DifferencesRight g ps = Different (differences g ps)

pub record SumsRight (g : Table) (ps : List Pair) : Type 0 where
  pub nonzero : (k : ℕ) → k < length ps → 0 < slice_index (sums g ps) k
  pub different : Different (sums g ps)

abbrev pub fault : Refusal → Option ℕ → Fault
fault q k = record { refusal = q; pair = k }

pub record WrittenList (g : Table) (bs : List ℕ) (ps : List Pair) : Type 0 where
  pub size : length bs + 1 ≡ g.order
  pub listed_strong : Strong g (paired bs)
  pub same : SamePairs (paired bs) ps
  pub written : Written ps
  pub strong : Strong g ps
  pub only : (qs : List Pair) → Written qs → SamePairs (paired bs) qs → qs ≡ ps

pub data Refused (g : Table) (bs : List ℕ) (f : Fault) : Type 0 where
  by_length : f ≡ fault Length None → (length bs + 1 ≢ g.order) → Refused g bs f
  by_numbers : (k : ℕ) → f ≡ fault Numbers (Some k) → length bs + 1 ≡ g.order → (NumbersRight g.order bs → ⊥)
      → AtFault g.order bs 2 k → Refused g bs f
  by_differences : (k : ℕ) → f ≡ fault Differences (Some k) → length bs + 1 ≡ g.order → NumbersRight g.order bs
      → (DifferencesRight g (paired bs) → ⊥) → AtFault g.order (differences g (paired bs)) 2 k → Refused g bs f
  by_sums : (k : ℕ) → f ≡ fault Sums (Some k) → length bs + 1 ≡ g.order → NumbersRight g.order bs
      → DifferencesRight g (paired bs) → (SumsRight g (paired bs) → ⊥) → AtFault g.order (sums g (paired bs)) 1 k → Refused g bs f

abbrev pub Claimed : Table → List ℕ → Result Starter Fault → Type 0
Claimed g bs r = MatchResult r (λ s. WrittenList g bs (pairs_of s)) (Refused g bs)

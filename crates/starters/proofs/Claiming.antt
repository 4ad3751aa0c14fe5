-- What a claim answers, from what its questions found. Assumes nothing.
use Rattle.std.proofs.Common.{◌≡◌, ℕ, ◌+◌, ◌/◌, ◌%◌, ◌<◌, List, length, get_or, Some, Ok, Err, Result, IsOk, IsErrAnd, MatchResult, ◌↔◌, sym, refl, subst, inl, inr, arith}
use Rattle.std.proofs.lemmas.Bool.{false≢true}
use Rattle.groups.specs.Tables.{Table, Laws}
use Rattle.groups.specs.declared.refusal.Refusal.TheVariants.{Numbers, Differences, Sums}
use Rattle.starters.specs.Claims.{OutOfPlace, NumbersRight, DifferencesRight, SumsRight, Found, fault, WrittenList, Refused, Claimed}
use Rattle.starters.specs.Claims.Refused.{by_length, by_numbers, by_differences, by_sums}
use Rattle.starters.specs.Pairs.{paired, numbers, differences, sums, SamePairs}
use Rattle.starters.specs.Starters.{Strong, Written}
use Rattle.starters.specs.declared.fault.Fault.{Fault}
use Rattle.starters.specs.declared.pair.Pair.{Pair}
use Rattle.starters.specs.declared.starter.Starter.{Starter}
use Rattle.starters.proofs.Uniqueness.{written_only}
use Rattle.starters.proofs.Places.{length-paired, length-sums, sums_at, numbers-paired}
use Rattle.starters.proofs.StrongStarters.{strong_from, strong_again, pairs_from, differences_within, numbers_right, differences_right, sums_right}

-- a number out of place is not right
not_right : (n : ℕ) (xs : List ℕ) (j : ℕ) → j < length xs → OutOfPlace n xs j → NumbersRight n xs → ⊥
not_right n xs j h (inl zero) r = omega (arith, r.nonzero j h)
not_right n xs j h (inr (inl more)) r = omega (arith, r.below j h)
not_right n xs j h (inr (inr (i, x, ne, e))) r = ne (r.different i j x h e)

module _ (g : Table) (l : Laws g) (bs : List ℕ) (size : length bs + 1 ≡ g.order) where
  even : length bs % 2 ≡ 0
  even = omega (arith, l.odd_order.0)

  listed : numbers (paired bs) ≡ bs
  listed = numbers-paired bs even

  right_pairs : NumbersRight g.order bs → NumbersRight g.order (numbers (paired bs))
  right_pairs r = subst (NumbersRight g.order) (sym listed) r

  pub refused_numbers : (f : Fault) (j : ℕ) → f ≡ fault Numbers (Some (j / 2 + 1)) → j < length bs → OutOfPlace g.order bs j → Refused g bs f
  refused_numbers f j e h o = by_numbers (j / 2 + 1) e size (not_right g.order bs j h o) (j, h, refl, o)

  pub refused_differences : (f : Fault) (j : ℕ) → f ≡ fault Differences (Some (j / 2 + 1)) → NumbersRight g.order bs
      → j < length (differences g (paired bs)) → OutOfPlace g.order (differences g (paired bs)) j → Refused g bs f
  refused_differences f j e r h o =
      let w = differences_within g l (paired bs) (pairs_from g l (paired bs) (right_pairs r)) in
      by_differences (j / 2 + 1) e size r
      (λ d. not_right g.order (differences g (paired bs)) j h o (record { nonzero = λ k x. (w k x).0; below = λ k x. (w k x).1; different = d }))
      (j, h, refl, o)

  sums_below : NumbersRight g.order bs → (k : ℕ) → k < length (sums g (paired bs)) → get_or (sums g (paired bs)) k 0 < g.order
  sums_below r k h =
      let m = length-sums g (paired bs) in
      let x : k < length (paired bs) = omega arith in
      let p = pairs_from g l (paired bs) (right_pairs r) k x in
      subst (λ (v : ℕ). v < g.order) (sym (sums_at g (paired bs) k x)) (l.closed _ _ p.first_below p.second_below)

  pub refused_sums : (f : Fault) (j : ℕ) → f ≡ fault Sums (Some (j / 1 + 1)) → NumbersRight g.order bs → DifferencesRight g (paired bs)
      → j < length (sums g (paired bs)) → OutOfPlace g.order (sums g (paired bs)) j → Refused g bs f
  refused_sums f j e r d h o =
      let m = length-sums g (paired bs) in
      by_sums (j / 1 + 1) e size r d
      (λ s. not_right g.order (sums g (paired bs)) j h o
      (record { nonzero = λ k x. s.nonzero k (omega arith); below = sums_below r; different = s.different }))
      (j, h, refl, o)

  -- What a question answers, from the place r that it found and the fault s that was made of it, as P says.
  pub asked_numbers : (P : ℕ → Fault → Type 0) → ((j : ℕ) (f : Fault) → P j f → f ≡ fault Numbers (Some (j / 2 + 1)))
      → (r : Result Unit ℕ) (s : Result Unit Fault) → MatchResult r (λ x. s ≡ Ok x) (λ j. IsErrAnd s (P j))
      → Found g.order bs r → MatchResult s (λ _. NumbersRight g.order bs) (Refused g bs)
  asked_numbers P names (Ok x) s made right = rw made right
  asked_numbers P names (Err j) (Ok x) made found = absurd made
  asked_numbers P names (Err j) (Err f) made found = refused_numbers f j (names j f made) found.0 found.1

  pub asked_differences : (P : ℕ → Fault → Type 0) → ((j : ℕ) (f : Fault) → P j f → f ≡ fault Differences (Some (j / 2 + 1)))
      → (r : Result Unit ℕ) (s : Result Unit Fault) → MatchResult r (λ x. s ≡ Ok x) (λ j. IsErrAnd s (P j))
      → NumbersRight g.order bs → Found g.order (differences g (paired bs)) r → MatchResult s (λ _. DifferencesRight g (paired bs)) (Refused g bs)
  asked_differences P names (Ok x) s made right found = rw made found.different
  asked_differences P names (Err j) (Ok x) made right found = absurd made
  asked_differences P names (Err j) (Err f) made right found = refused_differences f j (names j f made) right found.0 found.1

  pub asked_sums : (P : ℕ → Fault → Type 0) → ((j : ℕ) (f : Fault) → P j f → f ≡ fault Sums (Some (j / 1 + 1)))
      → (r : Result Unit ℕ) (s : Result Unit Fault) → MatchResult r (λ x. s ≡ Ok x) (λ j. IsErrAnd s (P j))
      → NumbersRight g.order bs → DifferencesRight g (paired bs) → Found g.order (sums g (paired bs)) r
      → MatchResult s (λ _. SumsRight g (paired bs)) (Refused g bs)
  asked_sums P names (Ok x) s made right d found =
      let m = length-sums g (paired bs) in
      rw made (record { nonzero = λ k h. found.nonzero k (omega arith); different = found.different })
  asked_sums P names (Err j) (Ok x) made right d found = absurd made
  asked_sums P names (Err j) (Err f) made right d found = refused_sums f j (names j f made) right d found.0 found.1

  pub accepted : (ps : List Pair) → NumbersRight g.order bs → DifferencesRight g (paired bs) → SumsRight g (paired bs)
      → SamePairs (paired bs) ps → length ps ≡ length (paired bs) → Written ps → WrittenList g bs ps
  accepted ps r d t same long w =
      let half = length-paired bs in
      let twice = even in
      let strong = strong_from g l (paired bs) (omega arith) (right_pairs r) d t in
      record {
        size = size;
        listed_strong = strong;
        same = same;
        written = w;
        strong = strong_again g l (paired bs) ps strong same long;
        only = λ qs v also. written_only (paired bs) qs ps v w also same;
      }

-- a refused claim is no strong starter
pub refused_weak : (g : Table) (l : Laws g) (bs : List ℕ) (f : Fault) → Refused g bs f → (length bs + 1 ≡ g.order) × Strong g (paired bs) → ⊥
refused_weak g l bs f (by_length e ne) s = ne s.0
refused_weak g l bs f (by_numbers k e size no-right at) s =
    no-right (subst (NumbersRight g.order) (listed g l bs size) (numbers_right g l (paired bs) s.1))
refused_weak g l bs f (by_differences k e size r no-right at) s = no-right (differences_right g l (paired bs) s.1)
refused_weak g l bs f (by_sums k e size r d no-right at) s = no-right (sums_right g l (paired bs) s.1)

pub decided : (g : Table) (l : Laws g) (bs : List ℕ) (r : Result Starter Fault) → Claimed g bs r
    → IsOk r ↔ ((length bs + 1 ≡ g.order) × Strong g (paired bs))
decided g l bs (Ok s) a = ((λ _. (a.size, a.listed_strong)), (λ _. refl))
decided g l bs (Err f) a = ((λ e. absurd (false≢true e)), (λ s. absurd (refused_weak g l bs f a s)))

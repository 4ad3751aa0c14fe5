-- A table that marks the numbers of the front of a list. Assumes nothing.
use Rattle.std.proofs.Common.{◌≡◌, ℕ, ◌+◌, ◌<◌, ◌≤◌, Bool, true, false, ◌≢◌, List, length, get_or, set, replicate, sym, refl, ap, ◌∙◌, subst, inl, inr, arith}
use Rattle.std.proofs.lemmas.List.{get_or-set_same, get_or-set_other, get_or-replicate, length-set}
use Rattle.std.proofs.lemmas.Bool.{cases_eq, both_ways}
use Rattle.starters.specs.Claims.{NumbersRight, OutOfPlace}

-- the first i numbers of xs are right, and the table marks just these
pub record Marked (n : ℕ) (xs : List ℕ) (i : ℕ) (table : List Bool) : Type 0 where
  pub long : length table ≡ 128
  pub nonzero : (j : ℕ) → j < i → 0 < get_or xs j 0
  pub below : (j : ℕ) → j < i → get_or xs j 0 < n
  pub different : (j k : ℕ) → j < i → k < i → get_or xs j 0 ≡ get_or xs k 0 → j ≡ k
  pub marks : (j : ℕ) → j < i → get_or table (get_or xs j 0) false ≡ true
  pub only : (a : ℕ) → a < 128 → get_or table a false ≡ true → (j : ℕ) × (j < i) × (get_or xs j 0 ≡ a)

module _ (n : ℕ) (xs : List ℕ) where
  pub marked_none : Marked n xs 0 (replicate 128 false)
  marked_none = record {
    long = refl;
    nonzero = λ j h. absurd (omega arith);
    below = λ j h. absurd (omega arith);
    different = λ j k h x e. absurd (omega arith);
    marks = λ j h. absurd (omega arith);
    only = λ a h e. absurd (both_ways (get_or (replicate 128 false) a false) (get_or-replicate 128 a false false h) e);
  }

  pub marked_more : (i : ℕ) (table : List Bool) → Marked n xs i table → n ≤ 128 → 0 < get_or xs i 0 → get_or xs i 0 < n
      → get_or table (get_or xs i 0) false ≡ false → Marked n xs (i + 1) (set table (get_or xs i 0) true)
  marked_more i table m most some less new =
      let a : ℕ = get_or xs i 0 in
      let l = m.long in
      let same = get_or-set_same table a true false (omega arith) in
      let fresh : (j : ℕ) → j < i → get_or xs j 0 ≢ a = λ j h e.
      both_ways (get_or table a false) new (subst (λ (b : ℕ). get_or table b false ≡ true) e (m.marks j h)) in
      record {
        long = length-set table a true ∙ l;
        nonzero = λ j h. elim (cases_eq j i) [ inl e ↦ subst (λ (k : ℕ). 0 < get_or xs k 0) (sym e) some | inr o ↦ m.nonzero j (omega arith) ];
        below = λ j h. elim (cases_eq j i) [ inl e ↦ subst (λ (k : ℕ). get_or xs k 0 < n) (sym e) less | inr o ↦ m.below j (omega arith) ];
        different = λ j k hj hk e.
            elim (cases_eq j i) [
              | inl x ↦ elim (cases_eq k i) [ inl y ↦ x ∙ sym y | inr y ↦ absurd (fresh k (omega arith) (sym e ∙ ap (λ (z : ℕ). get_or xs z 0) x)) ]
              | inr x ↦
                  elim (cases_eq k i) [
                    | inl y ↦ absurd (fresh j (omega arith) (e ∙ ap (λ (z : ℕ). get_or xs z 0) y))
                    | inr y ↦ m.different j k (omega arith) (omega arith) e
                  ]
            ];
        marks = λ j h.
            elim (cases_eq j i) [
              | inl e ↦ subst (λ (k : ℕ). get_or (set table a true) (get_or xs k 0) false ≡ true) (sym e) same
              | inr o ↦ let x : j < i = omega arith in get_or-set_other table a (get_or xs j 0) true false (fresh j x) ∙ m.marks j x
            ];
        only = λ b h e.
            elim (cases_eq b a) [
              | inl x ↦ (i, omega arith, sym x)
              | inr x ↦
                  let r = m.only b h (sym (get_or-set_other table a b true false x) ∙ e) in
                  (r.0, omega (arith, r.1), r.2)
            ];
      }

  pub marked_all : (i : ℕ) (table : List Bool) → Marked n xs i table → length xs ≤ i → NumbersRight n xs
  marked_all i table m h = record {
    nonzero = λ j x. m.nonzero j (omega arith);
    below = λ j x. m.below j (omega arith);
    different = λ j k x y e. m.different j k (omega arith) (omega arith) e;
  }

  -- a number that is marked already is out of place
  pub marked_again : (i : ℕ) (table : List Bool) → Marked n xs i table → i < length xs → get_or xs i 0 < 128
      → get_or table (get_or xs i 0) false ≡ true → OutOfPlace n xs i
  marked_again i table m h less e =
      let r = m.only (get_or xs i 0) less e in
      inr (inr (r.0, omega (arith, r.1), (λ x. omega (arith, r.1)), r.2))

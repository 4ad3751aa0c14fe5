-- The bytes of numbers in a row, with one number more behind them. Assumes nothing.
use Rattle.std.proofs.Common.{◌≡◌, ℕ, zero, suc, ◌+◌, ◌<◌, ◌≤◌, List, [], ◌++◌, sym, ap, ◌∙◌, inl, inr, arith}
use Rattle.std.proofs.lemmas.List.{append_assoc, append-nil}
use Rattle.std.proofs.lemmas.Bool.{cases_eq}
use Rattle.sheets.specs.Sheets.{each}

pub each_more : (f : ℕ → List ℕ) (a k : ℕ) → each f a (suc k) ≡ each f a k ++ f (a + k)
each_more f a zero = let e : a ≡ a + 0 = omega arith in append-nil (f a) ∙ ap f e
each_more f a (suc k) =
    let e : a + 1 + k ≡ a + suc k = omega arith in
    ap (λ xs. f a ++ xs) (each_more f (a + 1) k) ∙ sym (append_assoc (f a) (each f (a + 1) k) (f (a + 1 + k)))
    ∙ ap (λ (x : ℕ). each f a (suc k) ++ f x) e

-- from 0 on, the number behind k numbers is k
pub each_next : (f : ℕ → List ℕ) (k : ℕ) → each f 0 (suc k) ≡ each f 0 k ++ f k
each_next f k = let e : 0 + k ≡ k = omega arith in each_more f 0 k ∙ ap (λ (x : ℕ). each f 0 k ++ f x) e

-- numbers without bytes add nothing
pub each_quiet : (f : ℕ → List ℕ) (j k : ℕ) → j ≤ k → ((i : ℕ) → j ≤ i → i < k → f i ≡ []) → each f 0 k ≡ each f 0 j
each_quiet f j zero h none = let e : zero ≡ j = omega arith in ap (each f 0) e
each_quiet f j (suc k) h none =
    elim (cases_eq j (suc k)) [
      | inl e ↦ ap (each f 0) (sym e)
      | inr n ↦
          each_next f k ∙ ap (λ xs. each f 0 k ++ xs) (none k (omega arith) (omega arith)) ∙ append-nil (each f 0 k)
          ∙ each_quiet f j k (omega arith) (λ i x y. none i x (omega arith))
    ]

pub each_split : (f : ℕ → List ℕ) (a j k : ℕ) → each f a (j + k) ≡ each f a j ++ each f (a + j) k
each_split f a zero k = let e : a + 0 ≡ a = omega arith in let z : 0 + k ≡ k = omega arith in ap (each f a) z ∙ ap (λ (x : ℕ). each f x k) (sym e)
each_split f a (suc j) k =
    let e : a + 1 + j ≡ a + suc j = omega arith in
    let z : suc j + k ≡ suc (j + k) = omega arith in
    ap (each f a) z ∙ ap (λ xs. f a ++ xs) (each_split f (a + 1) j k ∙ ap (λ (x : ℕ). each f (a + 1) j ++ each f x k) e)
    ∙ sym (append_assoc (f a) (each f (a + 1) j) (each f (a + suc j) k))

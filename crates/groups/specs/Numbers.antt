-- Words on numbers and lists of numbers that every later crate uses. Assumes nothing.
--     OnlyOne m P         exactly one number below m has the property P
--     Once xs a           the number a stands exactly once in the list xs
--     Different xs        no two places of the list xs hold the same number
--     lowest p k a        the lowest of the k numbers from a on that passes the test p, or a + k where none does
use Rattle.std.specs.Prelude.{◌≡◌, ℕ, zero, suc, ◌+◌, ◌<◌, Bool, cond, List, length, nat_lt, slice_index, refl}

pub record OnlyOne (m : ℕ) (P : ℕ → Type 0) : Type 0 where
  pub here : ℕ
  pub below : here < m
  pub holds : P here
  pub alone : (k : ℕ) → k < m → P k → k ≡ here

abbrev pub Once : List ℕ → ℕ → Type 0
Once xs a = OnlyOne (length xs) (λ k. slice_index xs k ≡ a)

abbrev pub Different : List ℕ → Type 0
Different xs = (j k : ℕ) → j < length xs → k < length xs → slice_index xs j ≡ slice_index xs k → j ≡ k

abbrev pub lowest : (ℕ → Bool) → ℕ → ℕ → ℕ
lowest p zero a = a
lowest p (suc k) a = cond (p a) a (lowest p k (a + 1))

-- Examples.

lowest_above_two : lowest (λ a. nat_lt 2 a) 5 0 ≡ 3
lowest_above_two = refl

none_of_three : lowest (λ a. nat_lt 7 a) 3 1 ≡ 4
none_of_three = refl

-- Lemmas: what `lowest` finds. Assumes nothing.
--     lowest_from         it is not below where the search begins
--     lowest_least        it is not above a number that passes
--     lowest_passes       it passes, unless it is the end
--     lowest_only         it is the only number that passes, where there is only one
use Rattle.std.specs.Prelude.{◌≡◌, ℕ, zero, suc, ◌+◌, ◌<◌, ◌≤◌, Bool, true, false}
use Rattle.std.proofs.Common.{inl, inr, subst, arith}
use Rattle.std.proofs.lemmas.Bool.{cases_Bool, cases_eq, both_ways}
use Rattle.groups.specs.Numbers.{lowest}

module _ (p : ℕ → Bool) where
  pub lowest_from : (k a : ℕ) → a ≤ lowest p k a
  lowest_from zero a = omega arith
  lowest_from (suc k) a =
      elim (cases_Bool (p a)) [ inl t ↦ simp t (omega arith) | inr f ↦ simp f (omega (arith, lowest_from k (a + 1))) ]

  -- what passes is not missed
  pub lowest_least : (k a b : ℕ) → a ≤ b → b < a + k → p b ≡ true → lowest p k a ≤ b
  lowest_least zero a b l h t = absurd (omega arith)
  lowest_least (suc k) a b l h t =
      elim (cases_Bool (p a)) [
        | inl yes_a ↦ simp yes_a l
        | inr no_a ↦
            elim (cases_eq a b) [
              | inl same ↦ absurd (both_ways (p b) (subst (λ (x : ℕ). p x ≡ false) same no_a) t)
              | inr other ↦ simp no_a (lowest_least k (a + 1) b (omega arith) (omega arith) t)
            ]
      ]

  -- what is found passes
  pub lowest_passes : (k a : ℕ) → lowest p k a < a + k → p (lowest p k a) ≡ true
  lowest_passes zero a h = absurd (omega arith)
  lowest_passes (suc k) a h =
      elim (cases_Bool (p a)) [
        | inl t ↦ simp t
        | inr f ↦ let g : lowest p k (a + 1) < a + suc k = simp f at h in simp f (lowest_passes k (a + 1) (omega arith))
      ]

  -- the only one that passes is found
  pub lowest_only : (k a b : ℕ) → a ≤ b → b < a + k → p b ≡ true → ((c : ℕ) → p c ≡ true → c < a + k → c ≡ b) → lowest p k a ≡ b
  lowest_only k a b l h t only =
      let least = lowest_least k a b l h t in
      only (lowest p k a) (lowest_passes k a (omega arith)) (omega arith)

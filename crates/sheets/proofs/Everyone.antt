-- What `everyone` asks of each number. Assumes nothing.
use Rattle.std.proofs.Common.{◌≡◌, ℕ, zero, suc, ◌+◌, ◌≤◌, Bool, true, [], ◌∷◌, map, sym, ap, ◌∙◌, subst, inl, inr, arith}
use Rattle.std.proofs.lemmas.Bool.{cases_eq, and_parts, and_from}
use Rattle.std.proofs.lemmas.List.Folds.{list_all-append, list_all-map}
use Rattle.std.proofs.lemmas.List.FromFn.{map-range_with_len_more}
use Rattle.std.specs.List.{list_all, range_with_len}
use Rattle.sheets.specs.Judgements.{everyone}

module _ (test : ℕ → Bool) where
  pub everyone_passes : (n u : ℕ) → everyone n test ≡ true → u ≤ n → test u ≡ true
  everyone_passes zero u e h = let z : u ≡ 0 = omega arith in subst (λ (x : ℕ). test x ≡ true) (sym z) e
  everyone_passes (suc n) u e h =
      let parts = and_parts (everyone n test) (test (suc n)) e in
      elim (cases_eq u (suc n)) [
        | inl last ↦ subst (λ (x : ℕ). test x ≡ true) (sym last) parts.1
        | inr other ↦ everyone_passes n u parts.0 (omega arith)
      ]

  pub everyone_from : (n : ℕ) → ((u : ℕ) → u ≤ n → test u ≡ true) → everyone n test ≡ true
  everyone_from zero h = h 0 (omega arith)
  everyone_from (suc n) h =
      and_from (everyone n test) (test (suc n)) (everyone_from n (λ u x. h u (omega arith))) (h (suc n) (omega arith))

  all_answers : (n : ℕ) → list_all (λ b. b) (map test (range_with_len 0 (n + 1))) ≡ everyone n test
  all_answers zero = grind arith
  all_answers (suc n) =
      let more = map-range_with_len_more test 0 (suc n) (suc n) (omega arith) in
      let apart = list_all-append (λ (b : Bool). b) (map test (range_with_len 0 (suc n))) (test (suc n) ∷ []) in
      ap (list_all (λ b. b)) more ∙ apart ∙ grind (arith, all_answers n)

  -- the numbers that `all` goes through are those that `everyone` asks
  pub all_numbers : (n : ℕ) → list_all test (range_with_len 0 (n + 1)) ≡ everyone n test
  all_numbers n = sym (list_all-map (λ b. b) test (range_with_len 0 (n + 1))) ∙ all_answers n

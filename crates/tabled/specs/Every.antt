-- A test that passes for all numbers below n passes at each of them. Assumes nothing.
--     every p n           the test p passes for all numbers below n
--     each                a lemma: then it passes at each of them
use Rattle.std.specs.Prelude.{◌≡◌, ℕ, zero, suc, ◌<◌, Bool, true, ◌&&◌}
use Rattle.std.proofs.Common.{arith}

-- the test p passes for all numbers below n
abbrev pub every : (ℕ → Bool) → ℕ → Bool
every p zero = true
every p (suc n) = p n && every p n

pub each : (p : ℕ → Bool) (n : ℕ) → every p n ≡ true → (a : ℕ) → a < n → p a ≡ true
each p zero t a h = absurd (omega arith)
each p (suc n) t a h = grind (arith, each p n)

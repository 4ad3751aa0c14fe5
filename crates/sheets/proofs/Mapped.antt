-- An answer whose error was made into another one on the way. Assumes nothing.
use Rattle.std.proofs.Common.{◌≡◌, Ok, Err, Result, subst}
use Rattle.std.specs.Result.{MatchResult}

module _ {T E : Type 0} (P : T → Type 0) (Q : E → Type 0) (D : Type 0) (r : Result T E) where
  -- the value is that of the first answer
  pub mapped_ok : (y : T) → MatchResult r P Q → MatchResult r (λ x. ◌≡◌ {A = Result T D} (Ok y) (Ok x)) (λ e. ⊥) → P y
  mapped_ok y first same =
      elim r as (λ a. MatchResult a P Q → MatchResult a (λ x. ◌≡◌ {A = Result T D} (Ok y) (Ok x)) (λ e. ⊥) → P y) [
        | Ok x ↦ λ p e. let back : x ≡ y = cc in subst P back p
        | Err e ↦ λ q none. absurd none
      ] first same

  -- the error is made of that of the first answer
  pub mapped_err : (R : E → Type 0) (d : D) → MatchResult r P Q → MatchResult r (λ x. ◌≡◌ {A = Result T D} (Err d) (Ok x)) R
      → (e : E) × Q e × R e
  mapped_err R d first made =
      elim r as (λ a. MatchResult a P Q → MatchResult a (λ x. ◌≡◌ {A = Result T D} (Err d) (Ok x)) R → (e : E) × Q e × R e) [
        | Ok x ↦ λ p e. absurd (cc)
        | Err e ↦ λ q m. (e, q, m)
      ] first made

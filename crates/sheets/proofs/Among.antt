-- Meetings of a list, and tests of them. Assumes nothing.
use Rattle.std.proofs.Common.{◌≡◌, Bool, true, false, List, [], ◌∷◌, sym, refl, subst, inl, inr}
use Rattle.std.proofs.lemmas.Bool.{cases_Bool, or_cases, or_left, or_right, or_parts, false≢true}
use Rattle.sheets.specs.Meetings.{Meeting, Among, any}

module _ (test : Meeting → Bool) where
  pub any_found : (ms : List Meeting) → any test ms ≡ true → (m : Meeting) × Among ms m × (test m ≡ true)
  any_found [] t = absurd (false≢true t)
  any_found (x ∷ ms) t =
      elim (or_cases (test x) (any test ms) t) [
        | inl here ↦ (x, inl refl, here)
        | inr later ↦ let f = any_found ms later in (f.0, inr f.1, f.2)
      ]

  pub any_among : (ms : List Meeting) (m : Meeting) → Among ms m → test m ≡ true → any test ms ≡ true
  any_among [] m a t = absurd a
  any_among (x ∷ ms) m (inl e) t = or_left (test x) (any test ms) (subst (λ (y : Meeting). test y ≡ true) (sym e) t)
  any_among (x ∷ ms) m (inr a) t = or_right (test x) (any test ms) (any_among ms m a t)

  pub none_among : (ms : List Meeting) (m : Meeting) → any test ms ≡ false → Among ms m → test m ≡ false
  none_among [] m f a = absurd a
  none_among (x ∷ ms) m f (inl e) = subst (λ (y : Meeting). test y ≡ false) e (or_parts (test x) (any test ms) f).0
  none_among (x ∷ ms) m f (inr a) = none_among ms m (or_parts (test x) (any test ms) f).1 a

  pub none_from : (ms : List Meeting) → ((m : Meeting) → Among ms m → test m ≡ true → ⊥) → any test ms ≡ false
  none_from ms no_one =
      elim (cases_Bool (any test ms)) [
        | inl t ↦ let f = any_found ms t in absurd (no_one f.0 f.1 f.2)
        | inr f ↦ f
      ]

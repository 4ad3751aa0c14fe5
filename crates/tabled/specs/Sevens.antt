-- Lemmas: the table of seven keeps the laws. Each law is one test over all entries, which the checker computes.
-- Assumes nothing.
--     negative a          the opposite of a, as the code has it
--     seven_opposite      it is the opposite
--     seven_laws          the table keeps the laws
use Rattle.std.specs.Prelude.{◌≡◌, ℕ, ◌<◌, Bool, true, ◌&&◌, ltb, [], ◌∷◌, ◌==◌, nat_eq, nat_lt, slice_index, refl}
use Rattle.std.proofs.Common.{lit≤}
use Rattle.std.proofs.lemmas.Bool.{and_parts, eqb-true, ltb-true}
use Rattle.groups.specs.Tables.{Laws, Opposite}
use Rattle.tabled.specs.Seven.{seven}
use Rattle.tabled.specs.Every.{every, each}

-- the sum
abbrev plus : ℕ → ℕ → ℕ
plus = seven.add

-- the opposite, as the code has it
abbrev pub negative : ℕ → ℕ
negative a = slice_index (0 ∷ 6 ∷ 4 ∷ 5 ∷ 2 ∷ 3 ∷ 1 ∷ []) a

-- a test of two or of three numbers that passes for all below 7 passes at each of them
each_two : (p : ℕ → ℕ → Bool) → every (λ a. every (p a) 7) 7 ≡ true → (a b : ℕ) → a < 7 → b < 7 → p a b ≡ true
each_two p t a b x y = each (p a) 7 (each (λ a. every (p a) 7) 7 t a x) b y

each_three : (p : ℕ → ℕ → ℕ → Bool) → every (λ a. every (λ b. every (p a b) 7) 7) 7 ≡ true
    → (a b c : ℕ) → a < 7 → b < 7 → c < 7 → p a b c ≡ true
each_three p t a b c x y z = each_two (p a) (each (λ a. every (λ b. every (p a b) 7) 7) 7 t a x) b c y z

pub seven_opposite : (a : ℕ) → a < 7 → Opposite seven a (negative a)
seven_opposite a x =
    let both = and_parts (nat_lt (negative a) 7) (plus a (negative a) == 0)
    (each (λ a. nat_lt (negative a) 7 && plus a (negative a) == 0) 7 refl a x) in
    (ltb-true (negative a) 7 both.0, eqb-true (plus a (negative a)) 0 both.1)

pub seven_laws : Laws seven
seven_laws =
    record {
      odd_order = (refl, lit≤ tt, lit≤ tt);
      closed = λ a b x y. ltb-true (plus a b) 7 (each_two (λ a b. ltb (plus a b) 7) refl a b x y);
      commutative = λ a b x y. eqb-true (plus a b) (plus b a) (each_two (λ a b. nat_eq (plus a b) (plus b a)) refl a b x y);
      associative = λ a b c x y z.
          eqb-true (plus (plus a b) c) (plus a (plus b c))
          (each_three (λ a b c. nat_eq (plus (plus a b) c) (plus a (plus b c))) refl a b c x y z);
      neutral = λ a x. eqb-true (plus 0 a) a (each (λ a. nat_eq (plus 0 a) a) 7 refl a x);
      has_opposite = λ a x. let o = seven_opposite a x in (negative a, o.0, o.1);
    }

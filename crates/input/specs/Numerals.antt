-- Numerals: words of decimal digits. A word is the list of its bytes. Assumes nothing.
--     Digit c             the byte c is a decimal digit, 0x30 to 0x39
--     is_digit c          the test of the same
--     digit_of c          the number that the digit c stands for
--     value_of w          the number that the digits w write in base ten, but at most 255
--     Numeral w v         the word w is a numeral, and v is its value
--     all_digits w        each byte of the word w is a digit
--     numeral_of w        the value of the word w, or None where w is no numeral
use Rattle.std.specs.Prelude.{◌≡◌, ℕ, ◌-◌, ◌≤◌, min, Bool, true, cond, ◌&&◌, List, [], ◌∷◌, map, Some, None, codes, Option, nat_le, refl}
use Rattle.std.specs.Int.Digits.{number_from_digits}
use Rattle.std.specs.List.{AllByRecursion}

abbrev pub Digit : ℕ → Type 0
Digit c = (0x30 ≤ c) × (c ≤ 0x39)

abbrev pub is_digit : ℕ → Bool
is_digit c = nat_le 0x30 c && nat_le c 0x39

abbrev pub digit_of : ℕ → ℕ
digit_of c = c - 0x30

abbrev pub value_of : List ℕ → ℕ
value_of w = min (number_from_digits 10 (map digit_of w)) 255

pub record Numeral (w : List ℕ) (v : ℕ) : Type 0 where
  pub not_empty : w ≡ [] → ⊥
  pub digits : AllByRecursion Digit w
  pub value : v ≡ value_of w

abbrev pub all_digits : List ℕ → Bool
all_digits [] = true
all_digits (c ∷ cs) = is_digit c && all_digits cs

abbrev pub numeral_of : List ℕ → Option ℕ
numeral_of [] = None
numeral_of (c ∷ cs) = cond (all_digits (c ∷ cs)) (Some (value_of (c ∷ cs))) None

-- examples

leading_zeros_count_nothing : numeral_of (codes "007") ≡ Some 7
leading_zeros_count_nothing = refl

the_largest_value : numeral_of (codes "300") ≡ Some 255
the_largest_value = refl

a_letter_is_refused : numeral_of (codes "7a") ≡ None
a_letter_is_refused = refl

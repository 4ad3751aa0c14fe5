-- What may stand on a line, as a grammar, and that a reading keeps to it. Assumes nothing.
--     OrdersLine bytes vs         the line is numerals with the values vs, joined by an x
--     NumbersLine bytes vs        the line is numerals with the values vs, a blank or more between any two, and any
--                                 number of blanks before the first and after the last
--     OrdersLaw bytes answer      each line of the grammar is read as its values, and no other line is read
--     NumbersLaw bytes answer     the same of a line of numbers
use Rattle.std.specs.Prelude.{◌≡◌, ℕ, List, [], ◌∷◌, ◌++◌, Some, Option}
use Rattle.input.specs.Numerals.{Numeral}
use Rattle.input.specs.Read.{as_orders, listed}
use Rattle.input.specs.declared.orders.Orders.{Orders}

pub data OrdersLine : List ℕ → List ℕ → Type 0 where
  last_order : {w : List ℕ} {v : ℕ} → Numeral w v → OrdersLine w (v ∷ [])
  next_order : {w rest vs : List ℕ} {v : ℕ} → Numeral w v → OrdersLine rest vs → OrdersLine (w ++ (0x78 ∷ rest)) (v ∷ vs)

pub data NumbersLine : List ℕ → List ℕ → Type 0 where
  no_byte : NumbersLine [] []
  blank : {rest vs : List ℕ} → NumbersLine rest vs → NumbersLine (0x20 ∷ rest) vs
  last_number : {w : List ℕ} {v : ℕ} → Numeral w v → NumbersLine w (v ∷ [])
  next_number : {w rest vs : List ℕ} {v : ℕ} → Numeral w v → NumbersLine rest vs → NumbersLine (w ++ (0x20 ∷ rest)) (v ∷ vs)

-- more than three orders are read as None
pub record OrdersLaw (bytes : List ℕ) (answer : Option Orders) : Type 0 where
  pub every : (vs : List ℕ) → OrdersLine bytes vs → answer ≡ as_orders vs
  pub only : (o : Orders) → answer ≡ Some o → OrdersLine bytes (listed o)

pub record NumbersLaw (bytes : List ℕ) (answer : Option (List ℕ)) : Type 0 where
  pub every : (vs : List ℕ) → NumbersLine bytes vs → answer ≡ Some vs
  pub only : (vs : List ℕ) → answer ≡ Some vs → NumbersLine bytes vs

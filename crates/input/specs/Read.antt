-- What is read from a line. Assumes nothing.
--     words s bytes       the bytes between the separators s: n separators part n + 1 words, of which any may be empty
--     onto c ws           the words ws with the byte c before the first
--     filled ws           those of the words ws that are not empty
--     before v vs         the value v before the values vs, or None where one of the two is None
--     values_of ws        the values of the words ws, or None where one is no numeral
--     as_orders vs        one, two or three values as orders, or None where there are none or more
--     listed o            the orders o in a list
--     so_far o            the same where there may be none yet
--     and_then o f        what f gives of the value in o, or None where there is none
--     orders_of bytes     the orders that the line types: numerals joined by an x
--     numbers_of bytes    the numbers that the line types: numerals separated by blanks
use Rattle.std.specs.Prelude.{◌≡◌, ℕ, cond, List, [], ◌∷◌, Some, None, codes, Option, ◌==◌, refl}
use Rattle.input.specs.Numerals.{numeral_of}
use Rattle.input.specs.declared.orders.Orders.{Orders}
use Rattle.input.specs.declared.orders.Orders.TheVariants.{One, Two, Three}

abbrev pub onto : ℕ → List (List ℕ) → List (List ℕ)
onto c [] = (c ∷ []) ∷ []
onto c (w ∷ ws) = (c ∷ w) ∷ ws

abbrev pub words : ℕ → List ℕ → List (List ℕ)
words s [] = [] ∷ []
words s (c ∷ cs) = cond (c == s) ([] ∷ words s cs) (onto c (words s cs))

abbrev pub filled : List (List ℕ) → List (List ℕ)
filled [] = []
filled ([] ∷ ws) = filled ws
filled ((c ∷ w) ∷ ws) = (c ∷ w) ∷ filled ws

abbrev pub before : Option ℕ → Option (List ℕ) → Option (List ℕ)
before None vs = None
before (Some v) None = None
before (Some v) (Some vs) = Some (v ∷ vs)

abbrev pub values_of : List (List ℕ) → Option (List ℕ)
values_of [] = Some []
values_of (w ∷ ws) = before (numeral_of w) (values_of ws)

abbrev pub as_orders : List ℕ → Option Orders
as_orders [] = None
as_orders (a ∷ []) = Some (One a)
as_orders (a ∷ (b ∷ [])) = Some (Two a b)
as_orders (a ∷ (b ∷ (c ∷ []))) = Some (Three a b c)
as_orders (a ∷ (b ∷ (c ∷ (d ∷ ds)))) = None

abbrev pub listed : Orders → List ℕ
listed (One a) = a ∷ []
listed (Two a b) = a ∷ b ∷ []
listed (Three a b c) = a ∷ b ∷ c ∷ []

abbrev pub so_far : Option Orders → List ℕ
so_far None = []
so_far (Some o) = listed o

abbrev pub and_then : {A B : Type 0} → Option A → (A → Option B) → Option B
and_then None f = None
and_then (Some x) f = f x

abbrev pub orders_of : List ℕ → Option Orders
orders_of bytes = and_then (values_of (words 0x78 bytes)) as_orders

abbrev pub numbers_of : List ℕ → Option (List ℕ)
numbers_of bytes = values_of (filled (words 0x20 bytes))

-- examples

the_words : words 0x78 (codes "3xx15") ≡ codes "3" ∷ [] ∷ codes "15" ∷ []
the_words = refl

one_order : orders_of (codes "007") ≡ Some (One 7)
one_order = refl

two_orders : orders_of (codes "3x5") ≡ Some (Two 3 5)
two_orders = refl

three_orders : orders_of (codes "3x300x7") ≡ Some (Three 3 255 7)
three_orders = refl

no_order : orders_of [] ≡ None
no_order = refl

nothing_before_x : orders_of (codes "x7") ≡ None
nothing_before_x = refl

four_orders : orders_of (codes "3x3x3x3") ≡ None
four_orders = refl

two_numbers : numbers_of (codes " 1  3 ") ≡ Some (1 ∷ 3 ∷ [])
two_numbers = refl

no_numbers : numbers_of (codes "  ") ≡ Some []
no_numbers = refl

a_comma_is_refused : numbers_of (codes "1,3") ≡ None
a_comma_is_refused = refl

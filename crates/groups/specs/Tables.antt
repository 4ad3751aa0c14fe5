-- A group as its table of sums. Assumes nothing.
--     Table               an order and a sum of any two numbers
--     OddOrder n          n is odd and from 3 to 127: the orders that are made
--     Laws g              what makes a table that of a finite abelian group of odd order
--     counted g a         the number that an operand stands for: itself, or 0 where it is the order or more
--     Opposite g a b      b is the opposite of a
--     opposite g a        the opposite of a
--     difference g a b    a − b
--     cyclic n            the numbers below n, summed modulo n
--     parts g h           the numbers a·k + b of the parts a of g and b of h, where k is the order of h
--     product g h         the table of a product: that of its parts, or past 127 that of its second group
use Rattle.std.specs.Prelude.{◌≡◌, ℕ, ◌+◌, ◌*◌, ◌/◌, ◌%◌, ◌<◌, ◌≤◌, cond, nat_eq, nat_le, nat_lt, refl}
use Rattle.groups.specs.Numbers.{lowest}

pub record Table : Type 0 where
  pub order : ℕ
  pub add : ℕ → ℕ → ℕ

abbrev pub OddOrder : ℕ → Type 0
OddOrder n = (n % 2 ≡ 1) × (3 ≤ n) × (n ≤ 127)

pub record Laws (g : Table) : Type 0 where
  pub odd_order : OddOrder g.order
  pub closed : (a b : ℕ) → a < g.order → b < g.order → g.add a b < g.order
  pub commutative : (a b : ℕ) → a < g.order → b < g.order → g.add a b ≡ g.add b a
  pub associative : (a b c : ℕ) → a < g.order → b < g.order → c < g.order → g.add (g.add a b) c ≡ g.add a (g.add b c)
  pub neutral : (a : ℕ) → a < g.order → g.add 0 a ≡ a
  pub has_opposite : (a : ℕ) → a < g.order → (b : ℕ) × (b < g.order) × (g.add a b ≡ 0)

abbrev pub counted : Table → ℕ → ℕ
counted g a = cond (nat_lt a g.order) a 0

abbrev pub Opposite : Table → ℕ → ℕ → Type 0
Opposite g a b = (b < g.order) × (g.add a b ≡ 0)

abbrev pub opposite : Table → ℕ → ℕ
opposite g a = lowest (λ b. nat_eq (g.add a b) 0) g.order 0

abbrev pub difference : Table → ℕ → ℕ → ℕ
difference g a b = g.add a (opposite g b)

abbrev pub cyclic : ℕ → Table
cyclic n = record { order = n; add = λ a b. (a + b) % n }

abbrev pub parts : Table → Table → Table
parts g h =
    let k : ℕ = h.order in
    record { order = g.order * k; add = λ a b. g.add (a / k) (b / k) * k + h.add (a % k) (b % k) }

abbrev pub product : Table → Table → Table
product g h = cond (nat_le (g.order * h.order) 127) (parts g h) h

-- Examples.

large_operand : counted (cyclic 7) 9 ≡ 0
large_operand = refl

an_opposite : opposite (cyclic 7) 3 ≡ 4
an_opposite = refl

a_difference : difference (cyclic 7) 1 3 ≡ 5
a_difference = refl

parts_apart : (product (cyclic 3) (cyclic 3)).add 2 2 ≡ 1
parts_apart = refl

opposite_parts : (product (cyclic 3) (cyclic 3)).add 5 7 ≡ 0
opposite_parts = refl

past_127 : (product (cyclic 11) (cyclic 13)).order ≡ 13
past_127 = refl

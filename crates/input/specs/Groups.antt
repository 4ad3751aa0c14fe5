-- The group that typed orders stand for. Assumes nothing.
--     table_of o        its table: a cyclic group, the product of two, or the product of that product and a third
--     Made o            each order on the way is odd and from 3 to 127, so that the group is made
--     letter_of o       the letter of its kind
use Rattle.std.specs.Prelude.{ℕ, ◌*◌}
use Rattle.groups.specs.Tables.{Table, OddOrder, cyclic, product}
use Rattle.input.specs.declared.orders.Orders.{Orders}
use Rattle.input.specs.declared.orders.Orders.TheVariants.{One, Two, Three}

abbrev pub table_of : Orders → Table
table_of (One a) = cyclic a
table_of (Two a b) = product (cyclic a) (cyclic b)
table_of (Three a b c) = product (product (cyclic a) (cyclic b)) (cyclic c)

abbrev pub Made : Orders → Type 0
Made (One a) = OddOrder a
Made (Two a b) = OddOrder a × OddOrder b × OddOrder (a * b)
Made (Three a b c) = OddOrder a × OddOrder b × OddOrder (a * b) × OddOrder c × OddOrder (a * b * c)

abbrev pub letter_of : Orders → ℕ
letter_of (One a) = 0x43
letter_of (Two a b) = 0x50
letter_of (Three a b c) = 0x50

-- The refusals of the whole product. Assumes nothing.
--     number_of r         the number of the question whose answer is no
use Rattle.std.specs.Prelude.{ℕ}
use Rattle.groups.specs.declared.refusal.Refusal.{Refusal}
use Rattle.groups.specs.declared.refusal.Refusal.TheVariants.{Order, Allowance, Exhausted, NoStarter, Place, Length, Numbers, Differences, Sums, Command, Operands, Turn, Range, Round, Venue, Met, Idle, Count, Team}

abbrev pub number_of : Refusal → ℕ
number_of Order = 1
number_of Allowance = 5
number_of Exhausted = 6
number_of NoStarter = 7
number_of Place = 8
number_of Length = 9
number_of Numbers = 10
number_of Differences = 11
number_of Sums = 12
number_of Command = 13
number_of Operands = 14
number_of Turn = 15
number_of Range = 16
number_of Round = 17
number_of Venue = 18
number_of Met = 19
number_of Idle = 20
number_of Count = 21
number_of Team = 22

-- How far a reading has come. A list of commands read so far has the latest one first. Assumes nothing.
--     side_of s             the side, at the stage s
--     rounds_of s           the number of the rounds closed
--     begun_of s            the number of the rounds begun
--     after s c             the stage after the command c
--     stage past            the stage after the commands read so far
--     is_start .. is_done   what stage it is
use Rattle.std.specs.Prelude.{◌≡◌, ℕ, ◌+◌, Bool, true, false, List, [], ◌∷◌, refl}
use Rattle.sheets.specs.declared.command.Command.{Command}
use Rattle.sheets.specs.declared.command.Command.TheVariants.{Side, Round, Meet, Close, End}
use Rattle.sheets.specs.declared.stage.Stage.{Stage}
use Rattle.sheets.specs.declared.stage.Stage.TheVariants.{Start, Between, Open, Done}

abbrev pub side_of : Stage → ℕ
side_of Start = 0
side_of (Between n k) = n
side_of (Open n r) = n
side_of Done = 0

abbrev pub rounds_of : Stage → ℕ
rounds_of Start = 0
rounds_of (Between n k) = k
rounds_of (Open n r) = r
rounds_of Done = 0

abbrev pub begun_of : Stage → ℕ
begun_of Start = 0
begun_of (Between n k) = k
begun_of (Open n r) = r + 1
begun_of Done = 0

abbrev pub after : Stage → Command → Stage
after s (Side n) = Between n 0
after s (Round r) = Open (side_of s) r
after s (Meet v a b) = s
after s Close = Between (side_of s) (rounds_of s + 1)
after s (End m) = Done

abbrev pub stage : List Command → Stage
stage [] = Start
stage (c ∷ past) = after (stage past) c

abbrev pub is_start : Stage → Bool
is_start Start = true
is_start (Between n k) = false
is_start (Open n r) = false
is_start Done = false

abbrev pub is_between : Stage → Bool
is_between Start = false
is_between (Between n k) = true
is_between (Open n r) = false
is_between Done = false

abbrev pub is_open : Stage → Bool
is_open Start = false
is_open (Between n k) = false
is_open (Open n r) = true
is_open Done = false

abbrev pub is_done : Stage → Bool
is_done Start = false
is_done (Between n k) = false
is_done (Open n r) = false
is_done Done = true

-- Examples.

between_rounds : stage (Close ∷ Round 0 ∷ Side 7 ∷ []) ≡ Between 7 1
between_rounds = refl

in_a_round : stage (Meet 1 2 6 ∷ Round 0 ∷ Side 7 ∷ []) ≡ Open 7 0
in_a_round = refl

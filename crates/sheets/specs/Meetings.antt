-- The meetings that commands tell of. A list of commands read so far has the latest one first. Assumes nothing.
--     Meeting               who meets: a round, a venue, and two teams, the lower one first
--     told past             the bytes of the commands read so far
--     last_round past       the round of the last ROUND
--     meetings past         each MEET, in the round of the last ROUND before it, the latest one first
--     taken k past bytes    the commands read so far, and k or fewer that the bytes begin with
--     meetings_of bytes     the meetings of the commands of the bytes
--     Among ms m            the meeting m stands in the list ms
--     any test ms           whether a meeting passes the test
--     in_round r u m        the team u plays in the meeting m, and m is in round r
--     at_venue v u m        the team u plays in the meeting m, and m is at venue v
--     of_two a b m          m is the meeting of the teams a and b, of which a is the lower
use Rattle.std.specs.Prelude.{◌≡◌, ℕ, zero, suc, Bool, true, false, ◌&&◌, ◌||◌, ◌⊎◌, List, [], ◌∷◌, ◌++◌, length, Ok, Err, ◌==◌, refl}
use Rattle.squares.specs.Cells.{meet, plays}
use Rattle.sheets.specs.Commands.{written, first}
use Rattle.sheets.specs.declared.command.Command.{Command}
use Rattle.sheets.specs.declared.command.Command.TheVariants.{Side, Round, Meet, Close, End}

pub record Meeting : Type 0 where
  pub round : ℕ
  pub venue : ℕ
  pub lower : ℕ
  pub higher : ℕ

abbrev pub told : List Command → List ℕ
told [] = []
told (c ∷ past) = told past ++ written c

abbrev pub last_round : List Command → ℕ
last_round [] = 0
last_round (Side n ∷ past) = last_round past
last_round (Round r ∷ past) = r
last_round (Meet v a b ∷ past) = last_round past
last_round (Close ∷ past) = last_round past
last_round (End m ∷ past) = last_round past

abbrev pub meetings : List Command → List Meeting
meetings [] = []
meetings (Side n ∷ past) = meetings past
meetings (Round r ∷ past) = meetings past
meetings (Meet v a b ∷ past) = record { round = last_round past; venue = v; lower = a; higher = b } ∷ meetings past
meetings (Close ∷ past) = meetings past
meetings (End m ∷ past) = meetings past

abbrev pub taken : ℕ → List Command → List ℕ → List Command
taken zero past bytes = past
taken (suc k) past bytes = elim (first bytes) [ Ok f ↦ taken k (f.0 ∷ past) f.1 | Err q ↦ past ]

abbrev pub meetings_of : List ℕ → List Meeting
meetings_of bytes = meetings (taken (length bytes) [] bytes)

abbrev pub Among : List Meeting → Meeting → Type 0
Among [] m = ⊥
Among (x ∷ ms) m = (x ≡ m) ⊎ Among ms m

abbrev pub any : (Meeting → Bool) → List Meeting → Bool
any test [] = false
any test (m ∷ ms) = test m || any test ms

abbrev pub in_round : ℕ → ℕ → Meeting → Bool
in_round r u m = m.round == r && plays u (meet m.lower m.higher)

abbrev pub at_venue : ℕ → ℕ → Meeting → Bool
at_venue v u m = m.venue == v && plays u (meet m.lower m.higher)

abbrev pub of_two : ℕ → ℕ → Meeting → Bool
of_two a b m = m.lower == a && m.higher == b

-- Examples.

two_rounds : List Command
two_rounds = Meet 3 0 2 ∷ Round 1 ∷ Close ∷ Meet 1 0 3 ∷ Meet 0 1 2 ∷ Round 0 ∷ Side 3 ∷ []

in_their_rounds : meetings two_rounds ≡ record { round = 1; venue = 3; lower = 0; higher = 2 }
    ∷ record { round = 0; venue = 1; lower = 0; higher = 3 } ∷ record { round = 0; venue = 0; lower = 1; higher = 2 } ∷ []
unfolding two_rounds
in_their_rounds = refl

from_bytes : meetings_of (told two_rounds) ≡ meetings two_rounds
unfolding two_rounds
from_bytes = refl

team_2_in_round_1 : any (in_round 1 2) (meetings two_rounds) ≡ true
unfolding two_rounds
team_2_in_round_1 = refl

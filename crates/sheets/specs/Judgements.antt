-- The reading of a sheet, question by question. A list of commands read so far has the latest one first. Assumes nothing.
--     odd_order n                whether n is odd and from 3 to 127
--     rises v past               whether the venue v is above that of the MEET just before, if there is one
--     everyone n test            whether the numbers 0 to n pass the test
--     questions past c           the questions of the command c after the commands read so far, in order, and their answers
--     first_no qs                the first of the questions qs that is answered no
--     question past c            that of the command c after the commands read so far
--     Verdict                    accepted, or a fault
--     at_end past                what is said where the bytes stop
--     reading k past bytes       what is said of the bytes after the commands read so far, of which k or fewer follow
--     judge bytes                what is said of the bytes
use Rattle.std.specs.Prelude.{◌≡◌, ℕ, zero, suc, ◌%◌, Bool, true, cond, not, ◌&&◌, ◌||◌, List, [], ◌∷◌, length, Some, None, Ok, Err, Option, Result, ◌==◌, nat_le, nat_lt, refl}
use Rattle.groups.specs.declared.refusal.Refusal.{Refusal}
use Rattle.groups.specs.declared.refusal.Refusal.TheVariants.{Operands, Turn, Range, Round as RoundTaken, Venue as VenueTaken, Met, Idle, Count}
use Rattle.groups.specs.Tables.{cyclic}
use Rattle.starters.specs.Pairs.{paired}
use Rattle.squares.specs.Squares.{square}
use Rattle.sheets.specs.Commands.{first}
use Rattle.sheets.specs.Faults.{bytes_fault, fault_of}
use Rattle.sheets.specs.Sheets.{meetings_in, sheet}
use Rattle.sheets.specs.Stages.{side_of, rounds_of, stage, is_start, is_between, is_open, is_done}
use Rattle.sheets.specs.Meetings.{Meeting, told, meetings, any, in_round, at_venue, of_two}
use Rattle.sheets.specs.declared.command.Command.{Command}
use Rattle.sheets.specs.declared.command.Command.TheVariants.{Side, Round, Meet, Close, End}
use Rattle.sheets.specs.declared.fault.Fault.{Fault}
use Rattle.sheets.specs.declared.fault.Layer.TheVariants.{Form, League}
use Rattle.sheets.specs.declared.stage.Stage.{Stage}

abbrev pub odd_order : ℕ → Bool
odd_order n = n % 2 == 1 && (nat_le 3 n && nat_le n 127)

abbrev pub rises : ℕ → List Command → Bool
rises v [] = true
rises v (Side n ∷ past) = true
rises v (Round r ∷ past) = true
rises v (Meet w a b ∷ past) = nat_lt w v
rises v (Close ∷ past) = true
rises v (End m ∷ past) = true

abbrev pub everyone : ℕ → (ℕ → Bool) → Bool
everyone zero test = test 0
everyone (suc n) test = everyone n test && test (suc n)

abbrev pub questions : List Command → Command → List (Refusal × Bool)
questions past (Side n) = (Turn, is_start (stage past)) ∷ (Range, odd_order n) ∷ []
questions past (Round r) =
    let s : Stage = stage past in
    (Turn, is_between s && nat_lt (rounds_of s) (side_of s)) ∷ (Range, (r == rounds_of s)) ∷ []
questions past (Meet v a b) =
    let s : Stage = stage past in
    let ms : List Meeting = meetings past in
    (Turn, is_open s)
    ∷ (Range, (nat_lt v (side_of s) && rises v past) && (nat_lt a b && nat_le b (side_of s)))
    ∷ (RoundTaken, not (any (in_round (rounds_of s) a) ms || any (in_round (rounds_of s) b) ms))
    ∷ (VenueTaken, not (any (at_venue v a) ms || any (at_venue v b) ms))
    ∷ (Met, not (any (of_two a b) ms)) ∷ []
questions past Close =
    let s : Stage = stage past in
    (Turn, is_open s) ∷ (Idle, everyone (side_of s) (λ u. any (in_round (rounds_of s) u) (meetings past))) ∷ []
questions past (End m) =
    let s : Stage = stage past in
    (Turn, is_between s && rounds_of s == side_of s) ∷ (Count, (m == meetings_in (side_of s))) ∷ []

abbrev pub first_no : List (Refusal × Bool) → Option Refusal
first_no [] = None
first_no (q ∷ qs) = cond q.1 (first_no qs) (Some q.0)

abbrev pub question : List Command → Command → Option Refusal
question past c = first_no (questions past c)

abbrev pub Verdict : Type 0
Verdict = Result (Unit {0}) Fault

-- where the bytes stop
abbrev pub at_end : List Command → Verdict
at_end past = cond (is_done (stage past)) (Ok tt) (Err (bytes_fault (length (told past)) Operands))

abbrev pub reading : ℕ → List Command → List ℕ → Verdict
reading zero past bytes = at_end past
reading (suc k) past [] = at_end past
reading (suc k) past (b ∷ bs) =
    elim (first (b ∷ bs)) [
      | Err q ↦ Err (bytes_fault (length (told past)) q)
      | Ok f ↦
          elim (question past f.0) [
            | Some q ↦ Err (fault_of (stage past) f.0 (length (told past)) q)
            | None ↦ reading k (f.0 ∷ past) f.1
          ]
    ]

abbrev pub judge : List ℕ → Verdict
judge bytes = reading (length bytes) [] bytes

-- Examples.

no_bytes : judge [] ≡ Err (bytes_fault 0 Operands)
no_bytes = refl

no_end : judge (0x01 ∷ 0x07 ∷ []) ≡ Err (bytes_fault 2 Operands)
no_end = refl

side_even : judge (0x01 ∷ 0x08 ∷ []) ≡ Err (record { refusal = Range; place = 0; layer = Form; round = None; venue = None })
side_even = refl

team_0_plays_twice : judge (0x01 ∷ 0x07 ∷ 0x02 ∷ 0x00 ∷ 0x03 ∷ 0x00 ∷ 0x00 ∷ 0x07 ∷ 0x03 ∷ 0x01 ∷ 0x00 ∷ 0x06 ∷ [])
    ≡ Err (record { refusal = RoundTaken; place = 8; layer = League; round = Some 0; venue = Some 1 })
team_0_plays_twice = refl

first_of_cyclic_7 : judge (sheet 7 (square (cyclic 7) (paired (1 ∷ 3 ∷ 2 ∷ 6 ∷ 4 ∷ 5 ∷ [])))) ≡ Ok tt
first_of_cyclic_7 = refl

-- The answer of the questions accepts exactly the sheets of Room squares. Assumes nothing.
use Rattle.std.proofs.Common.{◌≡◌, ℕ, zero, suc, ◌+◌, ◌*◌, ◌/◌, ◌%◌, ◌≤◌, List, [], ◌++◌, length, Ok, Err, sym, refl, ap, ◌∙◌, subst, arith}
use Rattle.std.proofs.lemmas.List.{append_assoc, length-append}
use Rattle.groups.specs.Refusals.{number_of}
use Rattle.groups.specs.Tables.{OddOrder}
use Rattle.groups.specs.declared.refusal.Refusal.{Refusal}
use Rattle.groups.specs.declared.refusal.Refusal.TheVariants.{Order, Allowance, Exhausted, NoStarter, Place, Length, Numbers, Differences, Sums, Command as Unknown, Operands, Turn, Range, Round, Venue, Met, Idle, Count, Team}
use Rattle.squares.specs.Cells.{Cells}
use Rattle.squares.specs.RoomSquares.{RoomSquare}
use Rattle.sheets.specs.Commands.{written}
use Rattle.sheets.specs.Judgements.{Verdict, reading, judge}
use Rattle.sheets.specs.Meetings.{Meeting, Among, told, meetings, meetings_of}
use Rattle.sheets.specs.Readings.{RoomSheet, Tells, Checked, packed, Packed}
use Rattle.sheets.specs.Sheets.{each, round_bytes, meetings_in, sheet, sheet_size}
use Rattle.sheets.specs.Stages.{stage}
use Rattle.sheets.specs.declared.command.Command.{Command}
use Rattle.sheets.specs.declared.command.Command.TheVariants.{Side, End}
use Rattle.sheets.specs.declared.fault.Fault.{Fault}
use Rattle.sheets.specs.declared.stage.Stage.TheVariants.{Done}
use Rattle.sheets.proofs.Accepted.{Ended, well, refused, judge_ends, passed_sheet}
use Rattle.sheets.proofs.Front.{front_decides}
use Rattle.sheets.proofs.Passing.{Passed, reads_to_end, taken_told}
use Rattle.sheets.proofs.SheetPasses.{rounds_read, sheet_read}
use Rattle.sheets.proofs.Sizes.{between_size, told_short}
use Rattle.sheets.proofs.Written.{AllBytes}

ended_well : (bytes : List ℕ) (r : Verdict) → Ended bytes r → r ≡ Ok tt → RoomSheet bytes
ended_well bytes r (well past p e w) t = subst RoomSheet (sym w) (passed_sheet past p e)
ended_well bytes r (refused past f p e) t = absurd (cc)

ended_near : (bytes : List ℕ) (r : Verdict) → Ended bytes r → (f : Fault) → r ≡ Err f → f.place ≤ sheet_size 127
ended_near bytes r (well past p e w) f t = absurd (cc)
ended_near bytes r (refused past g p e) f t =
    let same : g.place ≡ f.place = cc in
    omega (arith, told_short past p)

at_done : (k : ℕ) (past : List Command) → stage past ≡ Done → reading k past [] ≡ Ok tt
at_done zero past e = simp e
at_done (suc k) past e = simp e

-- commands that passed up to END are accepted
pub passed_accepted : (past : List Command) → Passed past → stage past ≡ Done → judge (told past) ≡ Ok tt
passed_accepted past p e = let o = reads_to_end past p in o.1 ∙ at_done o.0 past e

-- the sheet of a Room square
module _ (n : ℕ) (cells : Cells) (odd : OddOrder n) (room : RoomSquare n cells) where
  pub sheet_accepted : judge (sheet n cells) ≡ Ok tt
  sheet_accepted =
      let s = sheet_read n cells odd room in
      subst (λ (xs : List ℕ). judge xs ≡ Ok tt) s.bytes (passed_accepted s.past s.passed s.reached)

  pub front_size : (r : ℕ) → r ≤ n → length (written (Side n) ++ each (round_bytes n cells) 0 r) ≡ 2 + r * (2 * n + 5)
  front_size r h =
      let s = rounds_read n cells odd room r h in
      ap length (sym s.bytes) ∙ (between_size s.past n r s.passed s.reached).size

  pub size_of_sheet : length (sheet n cells) ≡ sheet_size n
  size_of_sheet =
      let rounds : List ℕ = each (round_bytes n cells) 0 n in
      let l = length-append (written (Side n) ++ rounds) (written (End (meetings_in n))) in
      ap length (sym (append_assoc (written (Side n)) rounds (written (End (meetings_in n))))) ∙ omega (arith, l, front_size n (omega arith))

  pub sheet_tells : Tells (sheet n cells) n cells
  sheet_tells =
      let s = sheet_read n cells odd room in
      let same : meetings_of (sheet n cells) ≡ meetings s.past =
      ap meetings_of (sym s.bytes) ∙ ap meetings (taken_told s.past) in
      record {
        told_cells = λ m h. s.told_cells m (subst (λ (ms : List Meeting). Among ms m) same h);
        cells_told = λ r v a b hr hv e. subst (λ (ms : List Meeting). Among ms (record { round = r; venue = v; lower = a; higher = b })) (sym same) (s.cells_told r v a b hr hv e);
        count = ap length same ∙ s.count;
        size = size_of_sheet;
      }

pub room_sheet_accepted : (bytes : List ℕ) → RoomSheet bytes → judge bytes ≡ Ok tt
room_sheet_accepted bytes s =
    subst (λ (xs : List ℕ). judge xs ≡ Ok tt) (sym s.same) (sheet_accepted s.side s.square s.odd_side s.fair)

module _ (bytes : List ℕ) (small : AllBytes bytes) where
  pub checked : (r : Verdict) → r ≡ judge bytes → Checked bytes r
  checked r e =
      record {
        judged = e;
        only_sheets = λ t. ended_well bytes (judge bytes) (judge_ends bytes small) (sym e ∙ t);
        every_sheet = λ s. e ∙ room_sheet_accepted bytes s;
        tells = λ s. subst (λ (xs : List ℕ). Tells xs s.side s.square) (sym s.same)
            (sheet_tells s.side s.square s.odd_side s.fair);
        near = λ f t. ended_near bytes (judge bytes) (judge_ends bytes small) f (sym e ∙ t);
        front_decides = front_decides bytes;
      }

numbered : (q : Refusal) → 1 ≤ number_of q
numbered Order = omega arith
numbered Allowance = omega arith
numbered Exhausted = omega arith
numbered NoStarter = omega arith
numbered Place = omega arith
numbered Length = omega arith
numbered Numbers = omega arith
numbered Differences = omega arith
numbered Sums = omega arith
numbered Unknown = omega arith
numbered Operands = omega arith
numbered Turn = omega arith
numbered Range = omega arith
numbered Round = omega arith
numbered Venue = omega arith
numbered Met = omega arith
numbered Idle = omega arith
numbered Count = omega arith
numbered Team = omega arith

module _ (bytes : List ℕ) (p : ℕ) where
  -- the answer packed into one number
  pub packed_by : (r : Verdict) → Checked bytes r → p ≡ packed r → Packed bytes p
  packed_by (Ok u) c e =
      record {
        answer = e ∙ ap packed c.judged;
        zero_accepted = λ z. c.only_sheets refl;
        accepted_zero = λ s. e;
        unpacks = λ f j. absurd (cc);
      }
  packed_by (Err f) c e =
      let some = numbered f.refusal in
      record {
        answer = e ∙ ap packed c.judged;
        zero_accepted = λ z. absurd (omega arith);
        accepted_zero = λ s. let ok = c.every_sheet s in absurd (cc);
        unpacks = λ g j.
            let same : f ≡ g = cc (c.judged) in
            let near = c.near f refl in
            let number : p / 65536 ≡ number_of f.refusal = omega arith in
            let place : p % 65536 ≡ f.place = omega arith in
            subst (λ (h : Fault). (p / 65536 ≡ number_of h.refusal) × (p % 65536 ≡ h.place)) same (number, place);
      }

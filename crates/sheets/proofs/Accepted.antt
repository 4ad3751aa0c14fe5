-- What is accepted is the sheet of a Room square, and a refusal has a place within the longest sheet. Assumes nothing.
--     Ended whole r      how a reading ends: after commands that passed
use Rattle.std.proofs.Common.{◌≡◌, ℕ, zero, suc, ◌+◌, ◌≤◌, Bool, true, cond, List, [], ◌∷◌, ◌++◌, length, Some, None, Ok, Err, Option, sym, refl, ap, ◌∙◌, subst, inl, inr, arith}
use Rattle.std.proofs.lemmas.List.{append_assoc, append-nil, length-append}
use Rattle.std.proofs.lemmas.Bool.{cases_Bool, false≢true}
use Rattle.groups.specs.declared.refusal.Refusal.{Refusal}
use Rattle.groups.specs.declared.refusal.Refusal.TheVariants.{Operands}
use Rattle.squares.specs.Cells.{Cells}
use Rattle.sheets.specs.Commands.{First, written, first}
use Rattle.sheets.specs.Faults.{bytes_fault, fault_of}
use Rattle.sheets.specs.Judgements.{Verdict, question, at_end, reading, judge}
use Rattle.sheets.specs.Meetings.{Meeting, told, meetings}
use Rattle.sheets.specs.Readings.{RoomSheet}
use Rattle.sheets.specs.Sheets.{each, round_bytes}
use Rattle.sheets.specs.Stages.{stage, rounds_of, is_done}
use Rattle.sheets.specs.declared.command.Command.{Command}
use Rattle.sheets.specs.declared.command.Command.TheVariants.{Side, Round, Meet, Close, End}
use Rattle.sheets.specs.declared.fault.Fault.{Fault}
use Rattle.sheets.specs.declared.stage.Stage.{Stage}
use Rattle.sheets.specs.declared.stage.Stage.TheVariants.{Start, Between, Open, Done}
use Rattle.sheets.proofs.Fair.{Fits, kept}
use Rattle.sheets.proofs.Lookup.{cells_of, cell_told, told_cell, room_square_of}
use Rattle.sheets.proofs.Passing.{Passed, written_some}
use Rattle.sheets.proofs.Shape.{so_far, Covers, Shaped, shape}
use Rattle.sheets.proofs.Sizes.{between_size}
use Rattle.sheets.proofs.Written.{AllBytes, rest_small, written_first}
use Rattle.sheets.proofs.Yes.{EndYes, meet_yes, end_yes}

pub data Ended (whole : List ℕ) : Verdict → Type 0 where
  well : (past : List Command) → Passed past → stage past ≡ Done → whole ≡ told past → Ended whole (Ok tt)
  refused : (past : List Command) (f : Fault) → Passed past → f.place ≡ length (told past) → Ended whole (Err f)

at_done : (s : Stage) → is_done s ≡ true → s ≡ Done
at_done Start t = absurd (false≢true t)
at_done (Between n k) t = absurd (false≢true t)
at_done (Open n r) t = absurd (false≢true t)
at_done Done t = refl

stops : (past : List Command) → Passed past → Ended (told past) (at_end past)
stops past p =
    elim (cases_Bool (is_done (stage past))) [
      | inl t ↦ subst (λ (b : Bool). Ended (told past) (cond b (Ok tt) (Err (bytes_fault (length (told past)) Operands)))) (sym t)
          (well past p (at_done (stage past) t) refl)
      | inr f ↦ subst (λ (b : Bool). Ended (told past) (cond b (Ok tt) (Err (bytes_fault (length (told past)) Operands)))) (sym f)
          (refused past _ p refl)
    ]

-- what is said of a first command and the bytes after it
module _ (k : ℕ) (past : List Command) (p : Passed past)
    (again : (next : List Command) (bytes : List ℕ) → Passed next → AllBytes bytes → length bytes ≤ k
    → Ended (told next ++ bytes) (reading k next bytes)) where
  ends_asked : (bytes rest : List ℕ) (c : Command) (o : Option Refusal) → question past c ≡ o → AllBytes bytes → length bytes ≤ suc k
      → bytes ≡ written c ++ rest
      → Ended (told past ++ bytes) (elim o [ Some q ↦ Err (fault_of (stage past) c (length (told past)) q) | None ↦ reading k (c ∷ past) rest ])
  ends_asked bytes rest c (Some q) e small h w = refused past _ p refl
  ends_asked bytes rest c None e small h w =
      let l : length bytes ≡ length (written c) + length rest = ap length w ∙ length-append (written c) rest in
      let joined : (told past ++ written c) ++ rest ≡ told past ++ bytes = append_assoc (told past) (written c) rest ∙ ap (λ xs. told past ++ xs) (sym w) in
      subst (λ (xs : List ℕ). Ended xs (reading k (c ∷ past) rest)) joined
      (again (c ∷ past) rest (e, p) (rest_small (written c) rest (subst AllBytes w small)) (omega (arith, written_some c)))

  ends_first : (b : ℕ) (bs : List ℕ) (o : First) → first (b ∷ bs) ≡ o → AllBytes (b ∷ bs) → length (b ∷ bs) ≤ suc k
      → Ended (told past ++ (b ∷ bs)) (elim o [
        | Err q ↦ Err (bytes_fault (length (told past)) q)
        | Ok f ↦ elim (question past f.0) [
          | Some q ↦ Err (fault_of (stage past) f.0 (length (told past)) q)
          | None ↦ reading k (f.0 ∷ past) f.1
        ]
      ])
  ends_first b bs (Err q) e small h = refused past _ p refl
  ends_first b bs (Ok f) e small h =
      ends_asked (b ∷ bs) f.1 f.0 (question past f.0) refl small h (written_first (b ∷ bs) f.1 f.0 small e)

reading_ends : (k : ℕ) (past : List Command) (bytes : List ℕ) → Passed past → AllBytes bytes → length bytes ≤ k
    → Ended (told past ++ bytes) (reading k past bytes)
reading_ends zero past [] p small h = subst (λ (xs : List ℕ). Ended xs (at_end past)) (sym (append-nil (told past))) (stops past p)
reading_ends zero past (b ∷ bs) p small h = absurd (omega arith)
reading_ends (suc k) past [] p small h = subst (λ (xs : List ℕ). Ended xs (at_end past)) (sym (append-nil (told past))) (stops past p)
reading_ends (suc k) past (b ∷ bs) p small h = ends_first k past p (reading_ends k) b bs (first (b ∷ bs)) refl small h

pub judge_ends : (bytes : List ℕ) → AllBytes bytes → Ended bytes (judge bytes)
judge_ends bytes small = reading_ends (length bytes) [] bytes tt small (omega arith)

-- the bytes of commands that passed up to END are the sheet of a Room square
complete : (past : List Command) (m : ℕ) → Passed past → EndYes past m → RoomSheet (told past ++ written (End m))
complete past m p y =
    let n : ℕ = y.side in
    let ms : List Meeting = meetings past in
    let cells : Cells = cells_of ms in
    let fits : Fits n (stage past) = subst (Fits n) (sym y.between) refl in
    let k = kept n past p fits in
    let closed : rounds_of (stage past) ≡ n = ap rounds_of y.between in
    let covers : Covers n cells past n 0 = record {
      rounds_told = λ r v a b hr hv e. cell_told ms r v a b e;
      cells_told = λ v a b h. absurd (omega arith);
      told_cells = λ x h. told_cell ms x k.fair.cell_apart h;
    } in
    let shaped : told past ≡ so_far n cells n = subst (λ (s : Stage). Shaped n cells s past) y.between (shape n cells past p fits) covers in
    record {
      side = n;
      square = cells;
      odd_side = (between_size past n n p y.between).odd;
      fair = room_square_of n ms k.fair (λ r u hr hu. k.all_play r u (omega arith) hu);
      same = ap (λ xs. xs ++ written (End m)) shaped ∙ append_assoc (written (Side n)) (each (round_bytes n cells) 0 n) (written (End m))
          ∙ ap (λ (x : ℕ). written (Side n) ++ (each (round_bytes n cells) 0 n ++ written (End x))) y.count;
    }

pub passed_sheet : (past : List Command) → Passed past → stage past ≡ Done → RoomSheet (told past)
passed_sheet [] p e = absurd (false≢true (ap is_done e))
passed_sheet (Side n ∷ past) p e = absurd (false≢true (ap is_done e))
passed_sheet (Round r ∷ past) p e = absurd (false≢true (ap is_done e))
passed_sheet (Meet v a b ∷ past) p e =
    let y = meet_yes past v a b p.0 in
    absurd (false≢true (ap is_done (sym y.open_round ∙ e)))
passed_sheet (Close ∷ past) p e = absurd (false≢true (ap is_done e))
passed_sheet (End m ∷ past) p e = complete past m p.1 (end_yes past m p.0)

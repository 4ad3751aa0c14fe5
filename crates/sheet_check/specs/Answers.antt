-- What the program answers. Assumes nothing.
--     Answer input text    the text that is printed for the input: of a sheet of a Room square the accepted line of its side,
--                          of other bytes the refused line of their fault
use Rattle.std.specs.Prelude.{◌≡◌, ℕ, List, Err}
use Rattle.sheets.specs.Judgements.{judge}
use Rattle.sheets.specs.Readings.{RoomSheet}
use Rattle.sheets.specs.declared.fault.Fault.{Fault}
use Rattle.sheet_check.specs.Texts.{accepted_line, refused_line}

pub data Answer (input text : List ℕ) : Type 0 where
  accepted : RoomSheet input → ((s : RoomSheet input) → text ≡ accepted_line s.side) → Answer input text
  refused : (RoomSheet input → ⊥) → (f : Fault) → judge input ≡ Err f → text ≡ refused_line f → Answer input text

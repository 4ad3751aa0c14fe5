-- What a reading says of bytes, in the words of the subject. Assumes nothing.
--     RoomSheet bytes             the bytes are the sheet of a Room square, whose side is odd and from 3 to 127
--     Tells bytes n cells         the meetings of the bytes are the cells of the square that are not empty, n(n + 1)/2 in all
--     Checked bytes r             the answer r is what the questions say of the bytes; it accepts exactly the sheets of Room
--                                 squares; a refusal has a place within the longest sheet or just behind it; and no byte
--                                 counts behind the longest sheet and the longest command after it
--     packed r                    the answer as one number: 0, or the refusal's number · 65,536 + the place
--     Packed bytes p              the number p is the packed answer, and the answer can be read off it
--     cell_of o                   the cell that an answer about a meeting stands for
--     SideOf bytes n              n is the side of the square whose sheet the bytes are
--     CellOf bytes r v o          the answer o is the cell of that square in round r at venue v, and empty outside of it
use Rattle.std.specs.Prelude.{◌≡◌, ℕ, ◌+◌, ◌*◌, ◌/◌, ◌%◌, ◌<◌, ◌≤◌, cond, ◌&&◌, List, length, take, Some, None, Ok, Err, Option, nat_lt}
use Rattle.groups.specs.Refusals.{number_of}
use Rattle.groups.specs.Tables.{OddOrder}
use Rattle.squares.specs.Cells.{Cell, Cells, empty, meet}
use Rattle.squares.specs.RoomSquares.{RoomSquare}
use Rattle.sheets.specs.Judgements.{Verdict, judge}
use Rattle.sheets.specs.Meetings.{Meeting, Among, meetings_of}
use Rattle.sheets.specs.Sheets.{meetings_in, sheet, sheet_size}
use Rattle.sheets.specs.declared.fault.Fault.{Fault}
use Rattle.sheets.specs.declared.teams.Teams.{Teams}

pub record RoomSheet (bytes : List ℕ) : Type 0 where
  pub side : ℕ
  pub square : Cells
  pub odd_side : OddOrder side
  pub fair : RoomSquare side square
  pub same : bytes ≡ sheet side square

pub record Tells (bytes : List ℕ) (n : ℕ) (cells : Cells) : Type 0 where
  pub told_cells : (m : Meeting) → Among (meetings_of bytes) m
      → (m.round < n) × (m.venue < n) × (cells m.round m.venue ≡ meet m.lower m.higher)
  pub cells_told : (r v a b : ℕ) → r < n → v < n → cells r v ≡ meet a b
      → Among (meetings_of bytes) (record { round = r; venue = v; lower = a; higher = b })
  pub count : length (meetings_of bytes) ≡ meetings_in n
  pub size : length bytes ≡ sheet_size n

pub record Checked (bytes : List ℕ) (r : Verdict) : Type 0 where
  pub judged : r ≡ judge bytes
  pub only_sheets : r ≡ Ok tt → RoomSheet bytes
  pub every_sheet : RoomSheet bytes → r ≡ Ok tt
  pub tells : (s : RoomSheet bytes) → Tells bytes s.side s.square
  pub near : (f : Fault) → r ≡ Err f → f.place ≤ sheet_size 127
  pub front_decides : judge (take (sheet_size 127 + 4) bytes) ≡ judge bytes

abbrev pub packed : Verdict → ℕ
packed (Ok u) = 0
packed (Err f) = number_of f.refusal * 65536 + f.place

pub record Packed (bytes : List ℕ) (p : ℕ) : Type 0 where
  pub answer : p ≡ packed (judge bytes)
  pub zero_accepted : p ≡ 0 → RoomSheet bytes
  pub accepted_zero : RoomSheet bytes → p ≡ 0
  pub unpacks : (f : Fault) → judge bytes ≡ Err f → (p / 65536 ≡ number_of f.refusal) × (p % 65536 ≡ f.place)

abbrev pub cell_of : Option Teams → Cell
cell_of None = empty
cell_of (Some t) = meet t.lower t.higher

abbrev pub SideOf : List ℕ → ℕ → Type 0
SideOf bytes n = (s : RoomSheet bytes) → n ≡ s.side

abbrev pub CellOf : List ℕ → ℕ → ℕ → Option Teams → Type 0
CellOf bytes r v o = (s : RoomSheet bytes) → cell_of o ≡ cond (nat_lt r s.side && nat_lt v s.side) (s.square r v) empty

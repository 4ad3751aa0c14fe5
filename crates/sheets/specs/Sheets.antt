-- The sheet of a square. Assumes nothing.
--     each f a k             the bytes f a, f (a + 1), .. of the k numbers from a on, one after the other
--     cell_bytes v c         the bytes of the cell c at venue v: MEET, or none where the cell is empty
--     round_bytes n cells r  the bytes of round r: ROUND, its cells with rising venues, CLOSE
--     meetings_in n          how many meetings a Room square of side n has: n(n + 1)/2
--     sheet n cells          the bytes of the square: SIDE, its rounds in turn, END
--     sheet_size n           how many bytes the sheet of a Room square of side n has: 5 + n(2n + 5)
use Rattle.std.specs.Prelude.{◌≡◌, ℕ, zero, suc, ◌+◌, ◌*◌, ◌/◌, List, [], ◌∷◌, ◌++◌, length, take, drop, refl}
use Rattle.groups.specs.Tables.{cyclic}
use Rattle.starters.specs.Pairs.{paired}
use Rattle.squares.specs.Cells.{Cell, Cells, empty, meet}
use Rattle.squares.specs.Squares.{square}
use Rattle.sheets.specs.Commands.{written}
use Rattle.sheets.specs.declared.command.Command.TheVariants.{Side, Round, Meet, Close, End}

abbrev pub each : (ℕ → List ℕ) → ℕ → ℕ → List ℕ
each f a zero = []
each f a (suc k) = f a ++ each f (a + 1) k

abbrev pub cell_bytes : ℕ → Cell → List ℕ
cell_bytes v empty = []
cell_bytes v (meet a b) = written (Meet v a b)

abbrev pub round_bytes : ℕ → Cells → ℕ → List ℕ
round_bytes n cells r = written (Round r) ++ (each (λ v. cell_bytes v (cells r v)) 0 n ++ written Close)

abbrev pub meetings_in : ℕ → ℕ
meetings_in n = n * (n + 1) / 2

abbrev pub sheet : ℕ → Cells → List ℕ
sheet n cells = written (Side n) ++ (each (round_bytes n cells) 0 n ++ written (End (meetings_in n)))

abbrev pub sheet_size : ℕ → ℕ
sheet_size n = 5 + n * (2 * n + 5)

-- Examples, of the first starter of cyclic 7.

first_seven : Cells
first_seven = square (cyclic 7) (paired (1 ∷ 3 ∷ 2 ∷ 6 ∷ 4 ∷ 5 ∷ []))

begins : take 12 (sheet 7 first_seven) ≡ 0x01 ∷ 0x07 ∷ 0x02 ∷ 0x00 ∷ 0x03 ∷ 0x00 ∷ 0x00 ∷ 0x07 ∷ 0x03 ∷ 0x01 ∷ 0x02 ∷ 0x06 ∷ []
unfolding first_seven
begins = refl

ends : drop 135 (sheet 7 first_seven) ≡ 0x05 ∷ 0x1c ∷ 0x00 ∷ []
unfolding first_seven
ends = refl

size : length (sheet 7 first_seven) ≡ sheet_size 7
unfolding first_seven
size = refl

longest : sheet_size 127 ≡ 32898
longest = refl

-- A group of order 7 as data: the cyclic one under another numbering. Assumes nothing.
--     rows                the 49 sums, a row for each first number
--     seven               the table: the sum of a and b is read at place b of row a
use Rattle.std.specs.Prelude.{ℕ, List, [], ◌∷◌, slice_index, slice_index_or}
use Rattle.groups.specs.Tables.{Table}

abbrev pub rows : List (List ℕ)
rows =
    (0 ∷ 1 ∷ 2 ∷ 3 ∷ 4 ∷ 5 ∷ 6 ∷ []) ∷
    (1 ∷ 4 ∷ 6 ∷ 2 ∷ 5 ∷ 3 ∷ 0 ∷ []) ∷
    (2 ∷ 6 ∷ 5 ∷ 4 ∷ 0 ∷ 1 ∷ 3 ∷ []) ∷
    (3 ∷ 2 ∷ 4 ∷ 1 ∷ 6 ∷ 0 ∷ 5 ∷ []) ∷
    (4 ∷ 5 ∷ 0 ∷ 6 ∷ 3 ∷ 2 ∷ 1 ∷ []) ∷
    (5 ∷ 3 ∷ 1 ∷ 0 ∷ 2 ∷ 6 ∷ 4 ∷ []) ∷
    (6 ∷ 0 ∷ 3 ∷ 5 ∷ 1 ∷ 4 ∷ 2 ∷ []) ∷ []

abbrev pub seven : Table
seven = record { order = 7; add = λ a b. slice_index (slice_index_or rows a []) b }

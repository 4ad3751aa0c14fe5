-- A table with one mark more. Assumes nothing.
use Rattle.std.proofs.Common.{ℕ, ◌<◌, Bool, true, ◌&&◌, ◌||◌, ◌==◌, List, [], length, arith, slice_index_or, slice_set}
use Rattle.std.proofs.lemmas.List.{get_or-set_other}
use Rattle.std.proofs.lemmas.Grind.{common_steps, get_or-set_at}
use Rattle.sheets.specs.Tables.{Shows}

pub one_marked : (rows : List (List Bool)) (a b : ℕ) (test : ℕ → ℕ → Bool) → a < length rows → b < length (slice_index_or rows a [])
    → Shows rows test
    → Shows (slice_set rows a (slice_set (slice_index_or rows a []) b true)) (λ x y. (a == x && b == y) || test x y)
one_marked rows a b test ha hb s =
    record {
      at = λ x y hx hy.
          let old = s.at x y hx hy in
          grind (arith, common_steps, get_or-set_at, get_or-set_other);
    }

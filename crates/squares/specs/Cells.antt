-- Who meets where and when. Rounds and venues are numbered from 0, and so are the teams. Assumes nothing.
--     Cell              one round at one venue: empty, or two teams that meet there, the lower one first
--     Cells             a cell for each round and venue
--     lower_first a b   the cell in which the teams a and b meet
--     plays u c         whether the team u plays in the cell c
--     opponent u c      the team that u meets in the cell c
use Rattle.std.specs.Prelude.{◌≡◌, ℕ, Bool, true, false, cond, ◌||◌, ◌==◌, nat_lt, refl}

pub data Cell : Type 0 where
  empty : Cell
  meet : (lower higher : ℕ) → Cell

abbrev pub Cells : Type 0
Cells = (round venue : ℕ) → Cell

abbrev pub lower_first : ℕ → ℕ → Cell
lower_first a b = cond (nat_lt a b) (meet a b) (meet b a)

abbrev pub plays : ℕ → Cell → Bool
plays u empty = false
plays u (meet a b) = a == u || b == u

abbrev pub opponent : ℕ → Cell → ℕ
opponent u empty = u
opponent u (meet a b) = cond (a == u) b a

-- Examples.

either_order : lower_first 5 2 ≡ meet 2 5
either_order = refl

both_play : plays 5 (lower_first 5 2) ≡ true
both_play = refl

others_do_not : plays 3 (lower_first 5 2) ≡ false
others_do_not = refl

met_by_five : opponent 5 (lower_first 5 2) ≡ 2
met_by_five = refl

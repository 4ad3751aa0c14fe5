-- Room squares of side n: rounds and venues 0 to n − 1, teams 0 to n. Assumes nothing.
--     Proper n c               the cell c is empty, or holds two different teams, the lower one first
--     Together u w c           the teams u and w meet in the cell c
--     OnlyCell n P             exactly one cell, by its round and its venue, has the property P
--     RoomSquare n cells       each team stands exactly once in each round and exactly once at each venue, and any two teams
--                              share exactly one cell
use Rattle.std.specs.Prelude.{◌≡◌, ℕ, ◌<◌, ◌≤◌, true, ◌≢◌}
use Rattle.groups.specs.Numbers.{OnlyOne}
use Rattle.squares.specs.Cells.{Cell, Cells, empty, meet, plays}

abbrev pub Proper : ℕ → Cell → Type 0
Proper n empty = Unit {0}
Proper n (meet a b) = (a < b) × (b ≤ n)

abbrev pub Together : ℕ → ℕ → Cell → Type 0
Together u w c = (plays u c ≡ true) × (plays w c ≡ true)

pub record OnlyCell (n : ℕ) (P : ℕ → ℕ → Type 0) : Type 0 where
  pub round : ℕ
  pub venue : ℕ
  pub round_below : round < n
  pub venue_below : venue < n
  pub holds : P round venue
  pub alone : (r v : ℕ) → r < n → v < n → P r v → (r ≡ round) × (v ≡ venue)

pub record RoomSquare (n : ℕ) (cells : Cells) : Type 0 where
  pub proper : (r v : ℕ) → r < n → v < n → Proper n (cells r v)
  pub once_a_round : (r u : ℕ) → r < n → u ≤ n → OnlyOne n (λ v. plays u (cells r v) ≡ true)
  pub once_a_venue : (v u : ℕ) → v < n → u ≤ n → OnlyOne n (λ r. plays u (cells r v) ≡ true)
  pub met_once : (u w : ℕ) → u ≤ n → w ≤ n → u ≢ w → OnlyCell n (λ r v. Together u w (cells r v))

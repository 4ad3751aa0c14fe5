-- Cells of two teams. Assumes nothing.
use Rattle.std.proofs.Common.{◌≡◌, ℕ, ◌<◌, ◌≤◌, true, ◌≢◌, ◌⊎◌, arith}
use Rattle.squares.specs.Cells.{meet, lower_first, plays, opponent}

pub lower_first_less : (a b : ℕ) → a < b → lower_first a b ≡ meet a b
lower_first_less a b h = grind arith

pub lower_first_more : (a b : ℕ) → b ≤ a → lower_first a b ≡ meet b a
lower_first_more a b h = grind arith

pub lower_first_swap : (a b : ℕ) → a ≢ b → lower_first a b ≡ lower_first b a
lower_first_swap a b ne = grind arith

-- the teams of a cell play in it, and no others do
pub plays_first : (a b : ℕ) → plays a (lower_first a b) ≡ true
plays_first a b = grind arith

pub plays_either : (u a b : ℕ) → plays u (lower_first a b) ≡ true → (a ≡ u) ⊎ (b ≡ u)
plays_either u a b t = grind arith

pub opponent_of_first : (a b : ℕ) → a ≢ b → opponent a (lower_first a b) ≡ b
opponent_of_first a b ne = grind arith

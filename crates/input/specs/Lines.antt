-- The lines of an input. Assumes nothing.
--     Ends c                      the byte c ends a line: it is a line feed
--     FirstLine bytes w rest      w is the first line of the bytes, and the rest stands after its line feed
--     NoLine bytes                no line ends in the bytes
--     LastLine bytes w            the bytes are the line w alone, with or without its line feed
use Rattle.std.specs.Prelude.{◌≡◌, ℕ, ◌⊎◌, List, [], ◌∷◌, ◌++◌, refl}
use Rattle.std.specs.List.{AllByRecursion}
use Rattle.std.proofs.lemmas.Bool.{eqb-false}

abbrev pub Ends : ℕ → Type 0
Ends c = c ≡ 0x0a

abbrev pub NoLine : List ℕ → Type 0
NoLine bytes = AllByRecursion (λ c. Ends c → ⊥) bytes

pub record FirstLine (bytes w rest : List ℕ) : Type 0 where
  pub whole : bytes ≡ w ++ (0x0a ∷ rest)
  pub unbroken : NoLine w

pub record LastLine (bytes w : List ℕ) : Type 0 where
  pub alone : (bytes ≡ w) ⊎ (bytes ≡ w ++ (0x0a ∷ []))
  pub unbroken : NoLine w

-- an example: the line 7 before the line 1

two_lines : FirstLine (0x37 ∷ 0x0a ∷ 0x31 ∷ 0x0a ∷ []) (0x37 ∷ []) (0x31 ∷ 0x0a ∷ [])
two_lines = record { whole = refl; unbroken = (eqb-false 0x37 0x0a refl, tt) }

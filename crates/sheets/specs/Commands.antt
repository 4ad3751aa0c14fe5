-- The commands of a sheet, as bytes. Assumes nothing.
--     side_byte .. end_byte     the byte that each command begins with
--     written c                 the bytes of the command c
--     First                     a first command and the bytes after it, or a refusal
--     one f, two f, three f     the command f of that many operands, and the bytes after it; refused where they are cut off
--     first bytes               the first command and the bytes after it; refused where it is no command, or cut off
--     is_meet f                 whether the first command f is a MEET
use Rattle.std.specs.Prelude.{◌≡◌, ℕ, ◌+◌, ◌*◌, ◌/◌, ◌%◌, Bool, true, false, cond, List, [], ◌∷◌, Ok, Err, Result, ◌==◌, refl}
use Rattle.groups.specs.declared.refusal.Refusal.{Refusal}
use Rattle.groups.specs.declared.refusal.Refusal.TheVariants.{Command as Unknown, Operands}
use Rattle.sheets.specs.declared.command.Command.{Command}
use Rattle.sheets.specs.declared.command.Command.TheVariants.{Side, Round, Meet, Close, End}

abbrev pub side_byte : ℕ
side_byte = 0x01

abbrev pub round_byte : ℕ
round_byte = 0x02

abbrev pub meet_byte : ℕ
meet_byte = 0x03

abbrev pub close_byte : ℕ
close_byte = 0x04

abbrev pub end_byte : ℕ
end_byte = 0x05

abbrev pub written : Command → List ℕ
written (Side n) = side_byte ∷ n ∷ []
written (Round r) = round_byte ∷ r ∷ []
written (Meet v a b) = meet_byte ∷ v ∷ a ∷ b ∷ []
written Close = close_byte ∷ []
written (End m) = end_byte ∷ m % 256 ∷ m / 256 ∷ []

abbrev pub First : Type 0
First = Result (Command × List ℕ) Refusal

abbrev pub one : (ℕ → Command) → List ℕ → First
one f [] = Err Operands
one f (a ∷ rest) = Ok (f a, rest)

abbrev pub two : (ℕ → ℕ → Command) → List ℕ → First
two f [] = Err Operands
two f (a ∷ rest) = one (f a) rest

abbrev pub three : (ℕ → ℕ → ℕ → Command) → List ℕ → First
three f [] = Err Operands
three f (a ∷ rest) = two (f a) rest

abbrev pub first : List ℕ → First
first [] = Err Operands
first (b ∷ rest) =
    cond (b == side_byte) (one Side rest)
    (cond (b == round_byte) (one Round rest)
    (cond (b == meet_byte) (three Meet rest)
    (cond (b == close_byte) (Ok (Close, rest))
    (cond (b == end_byte) (two (λ low high. End (low + 256 * high)) rest) (Err Unknown)))))

abbrev pub is_meet : First → Bool
is_meet (Err q) = false
is_meet (Ok (Side n, rest)) = false
is_meet (Ok (Round r, rest)) = false
is_meet (Ok (Meet v a b, rest)) = true
is_meet (Ok (Close, rest)) = false
is_meet (Ok (End m, rest)) = false

-- Examples.

a_meeting_written : written (Meet 4 1 3) ≡ 0x03 ∷ 0x04 ∷ 0x01 ∷ 0x03 ∷ []
a_meeting_written = refl

longest_count_written : written (End 8128) ≡ 0x05 ∷ 0xc0 ∷ 0x1f ∷ []
longest_count_written = refl

a_meeting_first : first (0x03 ∷ 0x04 ∷ 0x01 ∷ 0x03 ∷ 0x04 ∷ []) ≡ Ok (Meet 4 1 3, 0x04 ∷ [])
a_meeting_first = refl

no_command : first (0x06 ∷ 0x01 ∷ []) ≡ Err Unknown
no_command = refl

cut_off : first (0x05 ∷ 0x1c ∷ []) ≡ Err Operands
cut_off = refl

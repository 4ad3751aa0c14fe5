-- What is said of bytes after commands that passed. Assumes nothing.
--     Passed past      of each command read so far no question was answered no
use Rattle.std.proofs.Common.{◌≡◌, ℕ, zero, suc, ◌<◌, ◌≤◌, List, [], ◌∷◌, ◌++◌, length, None, Ok, sym, refl, ap, ◌∙◌, subst, arith}
use Rattle.std.proofs.lemmas.List.{append_assoc, append-nil, length-append}
use Rattle.sheets.specs.Commands.{written, first}
use Rattle.sheets.specs.Judgements.{question, reading, judge}
use Rattle.sheets.specs.Meetings.{told, taken}
use Rattle.sheets.specs.declared.command.Command.{Command}
use Rattle.sheets.specs.declared.command.Command.TheVariants.{Side, Round, Meet, Close, End}
use Rattle.sheets.proofs.Written.{first_written}

abbrev pub Passed : List Command → Type 0
Passed [] = Unit {0}
Passed (c ∷ past) = (question past c ≡ None) × Passed past

pub written_some : (c : Command) → 0 < length (written c)
written_some (Side n) = omega arith
written_some (Round r) = omega arith
written_some (Meet v a b) = omega arith
written_some Close = omega arith
written_some (End m) = omega arith

-- what is said of bytes is what is said of the rest, after the commands read so far, with steps enough for it
pub record Onward {A : Type 0} (says : ℕ → List Command → List ℕ → A) (k : ℕ) (bytes : List ℕ) (past : List Command) (rest : List ℕ)
    : Type 0 where
  pub more : ℕ
  pub enough : length rest ≤ more
  pub same : says k [] bytes ≡ says more past rest

-- a reading that takes each command of a list goes on behind the list
module _ {A : Type 0} (says : ℕ → List Command → List ℕ → A) (Takes : List Command → Command → Type 0)
    (step : (past : List Command) (c : Command) (bytes rest : List ℕ) (k : ℕ) → 0 < length bytes → first bytes ≡ Ok (c, rest)
    → Takes past c → says (suc k) past bytes ≡ says k (c ∷ past) rest) where
  abbrev pub AllTaken : List Command → Type 0
  AllTaken [] = Unit {0}
  AllTaken (c ∷ past) = Takes past c × AllTaken past

  one_more : (past : List Command) (c : Command) (rest : List ℕ) (k : ℕ) → Takes past c → length (written c ++ rest) ≤ k
      → (j : ℕ) × (length rest ≤ j) × (says k past (written c ++ rest) ≡ says j (c ∷ past) rest)
  one_more past c rest zero t h = let l = length-append (written c) rest in absurd (omega (arith, written_some c))
  one_more past c rest (suc k) t h =
      let l = length-append (written c) rest in
      (k, omega (arith, written_some c), step past c (written c ++ rest) rest k (omega (arith, written_some c)) (first_written c rest) t)

  pub goes_behind : (past : List Command) (rest : List ℕ) (k : ℕ) → AllTaken past → length (told past ++ rest) ≤ k
      → Onward says k (told past ++ rest) past rest
  goes_behind [] rest k p h = record { more = k; enough = h; same = refl }
  goes_behind (c ∷ past) rest k p h =
      let a : (told past ++ written c) ++ rest ≡ told past ++ (written c ++ rest) = append_assoc (told past) (written c) rest in
      let o = goes_behind past (written c ++ rest) k p.1 (subst (λ (xs : List ℕ). length xs ≤ k) a h) in
      let m = one_more past c rest o.more p.0 o.enough in
      record { more = m.0; enough = m.1; same = ap (λ xs. says k [] xs) a ∙ o.same ∙ m.2 }

  -- of the bytes of commands alone nothing is left
  pub goes_to_end : (past : List Command) → AllTaken past → (k : ℕ) × (says (length (told past)) [] (told past) ≡ says k past [])
  goes_to_end past p =
      let whole : told past ++ [] ≡ told past = append-nil (told past) in
      let enough : length (told past ++ []) ≤ length (told past) = simp whole (omega arith) in
      let o = goes_behind past [] (length (told past)) p enough in
      (o.more, ap (says (length (told past)) []) (sym whole) ∙ o.same)

read_next : (past : List Command) (c : Command) (bytes rest : List ℕ) (k : ℕ) → 0 < length bytes → first bytes ≡ Ok (c, rest)
    → question past c ≡ None → reading (suc k) past bytes ≡ reading k (c ∷ past) rest
read_next past c [] rest k h e q = absurd (omega arith)
read_next past c (b ∷ bs) rest k h e q = rw (e, reading) (rw (q, reading))

pub reads_on : (past : List Command) (rest : List ℕ) (k : ℕ) → Passed past → length (told past ++ rest) ≤ k
    → Onward reading k (told past ++ rest) past rest
reads_on = goes_behind reading (λ past c. question past c ≡ None) read_next

pub reads_to_end : (past : List Command) → Passed past → (k : ℕ) × (judge (told past) ≡ reading k past [])
reads_to_end = goes_to_end reading (λ past c. question past c ≡ None) read_next

take_next : (past : List Command) (c : Command) (bytes rest : List ℕ) (k : ℕ) → 0 < length bytes → first bytes ≡ Ok (c, rest)
    → Unit {0} → taken (suc k) past bytes ≡ taken k (c ∷ past) rest
take_next past c bytes rest k h e u = rw (e, taken)

all_taken : (past : List Command) → AllTaken taken (λ before c. Unit {0}) take_next past
all_taken [] = tt
all_taken (c ∷ past) = (tt, all_taken past)

none_taken : (past : List Command) (k : ℕ) → taken k past [] ≡ past
none_taken past zero = refl
none_taken past (suc k) = refl

-- the commands of their bytes are the commands
pub taken_told : (past : List Command) → taken (length (told past)) [] (told past) ≡ past
taken_told past = let o = goes_to_end taken (λ before c. Unit {0}) take_next past (all_taken past) in o.1 ∙ none_taken past o.0

-- The loop of the reader. Assumes nothing.
--     Going bytes rest reader    the bytes are those of commands that passed and the rest, and the reader keeps the commands
use Rattle.std.proofs.Common.{◌≡◌, ℕ, zero, suc, ◌+◌, ◌-◌, ◌<◌, ◌≤◌, Bool, false, cond, List, [], ◌∷◌, ◌++◌, length, Some, None, Ok, Err, sym, refl, ap, ◌∙◌, subst, arith}
use Rattle.std.proofs.lemmas.List.{append_assoc, length-append}
use Rattle.groups.specs.declared.refusal.Refusal.{Refusal}
use Rattle.groups.specs.declared.refusal.Refusal.TheVariants.{Operands}
use Rattle.sheets.specs.Commands.{written, first}
use Rattle.sheets.specs.Faults.{bytes_fault, fault_of}
use Rattle.sheets.specs.Judgements.{question, at_end, reading, judge}
use Rattle.sheets.specs.Meetings.{told}
use Rattle.sheets.specs.Stages.{stage, is_done}
use Rattle.sheets.specs.Tables.{Keeps}
use Rattle.sheets.specs.declared.command.Command.{Command}
use Rattle.sheets.specs.declared.reader.Reader.{Reader}
use Rattle.sheets.specs.declared.stage.Stage.{Stage}
use Rattle.sheets.specs.declared.stage.Stage.TheVariants.{Start, Between, Open, Done}
use Rattle.sheets.proofs.Passing.{Passed, reads_on}
use Rattle.sheets.proofs.Written.{AllBytes, rest_small, written_first}

pub record Going (bytes rest : List ℕ) (reader : Reader) : Type 0 where
  pub past : List Command
  pub passed : Passed past
  pub whole : bytes ≡ told past ++ rest
  pub keeps : Keeps reader past

pub begins : (bytes : List ℕ) (reader : Reader) → Keeps reader [] → Going bytes bytes reader
begins bytes reader k = record { past = []; passed = tt; whole = refl; keeps = k }

not_done : (s : Stage) → (s ≡ Done → ⊥) → is_done s ≡ false
not_done Start d = refl
not_done (Between n k) d = refl
not_done (Open n r) d = refl
not_done Done d = absurd (d refl)

module _ (bytes rest : List ℕ) (reader : Reader) (going : Going bytes rest reader) where
  abbrev before : List Command
  before = going.past

  pub whole_size : length bytes ≡ length (told before) + length rest
  whole_size = ap length going.whole ∙ length-append (told before) rest

  place_is : length bytes - length rest ≡ length (told before)
  place_is = omega (arith, whole_size)

  -- what is said of the bytes is what is said of the rest
  judged_on : (j : ℕ) × (length rest ≤ j) × (judge bytes ≡ reading j before rest)
  judged_on =
      let o = reads_on before rest (length bytes) going.passed (subst (λ (xs : List ℕ). length xs ≤ length bytes) going.whole (omega arith)) in
      (o.more, o.enough, ap (λ xs. reading (length bytes) [] xs) going.whole ∙ o.same)

  pub goes_on : (next : Reader) (c : Command) (tail : List ℕ) → AllBytes bytes → first rest ≡ Ok (c, tail) → question before c ≡ None
      → Keeps next (c ∷ before) → Going bytes tail next
  goes_on next c tail small e q k =
      let r : rest ≡ written c ++ tail = written_first rest tail c (rest_small (told before) rest (subst AllBytes going.whole small)) e in
      record {
        past = c ∷ before;
        passed = (q, going.passed);
        whole = going.whole ∙ ap (λ xs. told before ++ xs) r ∙ sym (append_assoc (told before) (written c) tail);
        keeps = k;
      }

  refused_first : (q : Refusal) (j : ℕ) (xs : List ℕ) → 0 < length xs → length xs ≤ j → first xs ≡ Err q
      → reading j before xs ≡ Err (bytes_fault (length (told before)) q)
  refused_first q zero xs h l e = absurd (omega arith)
  refused_first q (suc j) [] h l e = absurd (omega arith)
  refused_first q (suc j) (b ∷ bs) h l e = rw (e, reading)

  refused_command : (c : Command) (tail : List ℕ) (q : Refusal) (j : ℕ) (xs : List ℕ) → 0 < length xs → length xs ≤ j
      → first xs ≡ Ok (c, tail) → question before c ≡ Some q → reading j before xs ≡ Err (fault_of (stage before) c (length (told before)) q)
  refused_command c tail q zero xs h l e s = absurd (omega arith)
  refused_command c tail q (suc j) [] h l e s = absurd (omega arith)
  refused_command c tail q (suc j) (b ∷ bs) h l e s = rw (e, reading) (rw (s, reading))

  stops : (j : ℕ) (xs : List ℕ) → length xs ≡ 0 → reading j before xs ≡ at_end before
  stops zero xs e = refl
  stops (suc j) [] e = refl
  stops (suc j) (b ∷ bs) e = absurd (omega arith)

  pub no_command : (q : Refusal) → 0 < length rest → first rest ≡ Err q → Err (bytes_fault (length bytes - length rest) q) ≡ judge bytes
  no_command q h e =
      let j = judged_on in
      ap (λ (p : ℕ). Err (bytes_fault p q)) place_is ∙ sym (j.2 ∙ refused_first q j.0 rest h j.1 e)

  pub refuses : (c : Command) (tail : List ℕ) (q : Refusal) → 0 < length rest → first rest ≡ Ok (c, tail) → question before c ≡ Some q
      → Err (fault_of reader.stage c (length bytes - length rest) q) ≡ judge bytes
  refuses c tail q h e s =
      let j = judged_on in
      let f = refused_command c tail q j.0 rest h j.1 e s in
      ap (λ (t : Stage). Err (fault_of t c (length bytes - length rest) q)) going.keeps.reached
      ∙ ap (λ (p : ℕ). Err (fault_of (stage before) c p q)) place_is ∙ sym (j.2 ∙ f)

  -- where the bytes stop
  said_at_end : length rest ≡ 0 → cond (is_done reader.stage) (Ok tt) (Err (bytes_fault (length bytes) Operands)) ≡ judge bytes
  said_at_end e =
      let j = judged_on in
      let all : length bytes ≡ length (told before) = omega (arith, whole_size) in
      ap (λ (t : Stage). cond (is_done t) (Ok tt) (Err (bytes_fault (length bytes) Operands))) going.keeps.reached
      ∙ ap (λ (p : ℕ). cond (is_done (stage before)) (Ok tt) (Err (bytes_fault p Operands))) all ∙ sym (j.2 ∙ stops j.0 rest e)

  pub ends : length rest ≡ 0 → reader.stage ≡ Done → Ok tt ≡ judge bytes
  ends e d = ap (λ (t : Stage). cond (is_done t) (Ok tt) (Err (bytes_fault (length bytes) Operands))) (sym d) ∙ said_at_end e

  pub ends_early : length rest ≡ 0 → (reader.stage ≡ Done → ⊥) → Err (bytes_fault (length bytes) Operands) ≡ judge bytes
  ends_early e d =
      ap (λ (t : Bool). cond t (Ok tt) (Err (bytes_fault (length bytes) Operands))) (sym (not_done reader.stage d)) ∙ said_at_end e

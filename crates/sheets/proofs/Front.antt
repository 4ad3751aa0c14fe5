-- No byte behind the longest sheet and the longest command after it counts. Assumes nothing.
--     cut m f      the first command f, with m of the bytes after it
use Rattle.std.proofs.Common.{◌≡◌, ℕ, zero, suc, ◌+◌, ◌-◌, ◌*◌, ◌<◌, ◌≤◌, Bool, true, false, cond, eqb, List, [], ◌∷◌, length, take, Some, None, Ok, Err, Option, sym, refl, ap, ◌∙◌, arith}
use Rattle.std.proofs.lemmas.List.{length-append}
use Rattle.groups.specs.declared.refusal.Refusal.{Refusal}
use Rattle.sheets.specs.Commands.{First, written, one, two, three, first, side_byte, round_byte, meet_byte, close_byte, end_byte}
use Rattle.sheets.specs.Faults.{bytes_fault, fault_of}
use Rattle.sheets.specs.Judgements.{Verdict, question, at_end, reading, judge}
use Rattle.sheets.specs.Meetings.{told}
use Rattle.sheets.specs.Sheets.{sheet_size}
use Rattle.sheets.specs.Stages.{stage}
use Rattle.sheets.specs.declared.command.Command.{Command}
use Rattle.sheets.specs.declared.command.Command.TheVariants.{Side, Round, Meet, Close, End}
use Rattle.sheets.proofs.Passing.{Passed}
use Rattle.sheets.proofs.Sizes.{told_short}
use Rattle.sheets.proofs.Written.{first_shorter}

-- a first command, with as many bytes less after it as it has itself
abbrev cut : ℕ → First → First
cut m (Err q) = Err q
cut m (Ok f) = Ok (f.0, take (m - length (written f.0)) f.1)

one_cut : (f : ℕ → Command) (m : ℕ) (bs : List ℕ) → ((x : ℕ) → length (written (f x)) ≡ 2) → one f (take (suc m) bs) ≡ cut (suc (suc m)) (one f bs)
one_cut f m [] size = refl
one_cut f m (x ∷ bs) size =
    let e : m ≡ suc (suc m) - length (written (f x)) = omega (arith, size x) in
    ap (λ (j : ℕ). Ok (f x, take j bs)) e

two_cut : (f : ℕ → ℕ → Command) (m : ℕ) (bs : List ℕ) → ((x y : ℕ) → length (written (f x y)) ≡ 3)
    → two f (take (suc (suc m)) bs) ≡ cut (suc (suc (suc m))) (two f bs)
two_cut f m [] size = refl
two_cut f m (x ∷ []) size = refl
two_cut f m (x ∷ y ∷ bs) size =
    let e : m ≡ suc (suc (suc m)) - length (written (f x y)) = omega (arith, size x y) in
    ap (λ (j : ℕ). Ok (f x y, take j bs)) e

meet_cut : (m : ℕ) (bs : List ℕ) → three Meet (take (suc (suc (suc m))) bs) ≡ cut (suc (suc (suc (suc m)))) (three Meet bs)
meet_cut m [] = refl
meet_cut m (v ∷ []) = refl
meet_cut m (v ∷ a ∷ []) = refl
meet_cut m (v ∷ a ∷ b ∷ bs) = let e : m ≡ suc (suc (suc (suc m))) - 4 = omega arith in ap (λ (j : ℕ). Ok (Meet v a b, take j bs)) e

-- a choice of two first commands, cut
cond_cut : (m : ℕ) (t : Bool) (x y u w : First) → x ≡ cut m u → y ≡ cut m w → cond t x y ≡ cut m (cond t u w)
cond_cut m true x y u w e f = e
cond_cut m false x y u w e f = f

-- four bytes show the first command
first_cut : (m : ℕ) (bytes : List ℕ) → first (take (suc (suc (suc (suc m)))) bytes) ≡ cut (suc (suc (suc (suc m)))) (first bytes)
first_cut m [] = refl
first_cut m (b ∷ bs) =
    let all : ℕ = suc (suc (suc (suc m))) in
    let less : suc (suc (suc m)) ≡ all - 1 = omega arith in
    cond_cut all (eqb b side_byte) _ _ _ _ (one_cut Side (suc (suc m)) bs (λ x. refl))
    (cond_cut all (eqb b round_byte) _ _ _ _ (one_cut Round (suc (suc m)) bs (λ x. refl))
    (cond_cut all (eqb b meet_byte) _ _ _ _ (meet_cut m bs)
    (cond_cut all (eqb b close_byte) _ _ _ _ (ap (λ (j : ℕ). Ok (Close, take j bs)) less)
    (cond_cut all (eqb b end_byte) _ _ _ _ (two_cut (λ low high. End (low + 256 * high)) (suc m) bs (λ x y. refl)) refl))))

nothing_left : (k : ℕ) (past : List Command) → reading k past [] ≡ at_end past
nothing_left zero past = refl
nothing_left (suc k) past = refl

written_few : (c : Command) → length (written c) ≤ 4
written_few (Side n) = omega arith
written_few (Round r) = omega arith
written_few (Meet v a b) = omega arith
written_few Close = omega arith
written_few (End m) = omega arith

-- enough bytes are left for the longest sheet and a command
abbrev Enough : List Command → ℕ → Type 0
Enough past m = sheet_size 127 + 4 ≤ length (told past) + m

-- what is said of a first command is said of it where the bytes are cut later
module _ (j k : ℕ) (past : List Command) (p : Passed past) (bytes : List ℕ) (m : ℕ) (enough : Enough past m)
    (short : length bytes ≤ suc k) (shorter : length (take m bytes) ≤ suc j) (shown : first (take m bytes) ≡ cut m (first bytes))
    (again : (next : List Command) (rest : List ℕ) (i : ℕ) → Passed next → Enough next i → length rest ≤ k → length (take i rest) ≤ j
    → reading j next (take i rest) ≡ reading k next rest) where
  abbrev asked : ℕ → Command → List ℕ → Option Refusal → Verdict
  asked i c rest o = elim o [ Some q ↦ Err (fault_of (stage past) c (length (told past)) q) | None ↦ reading i (c ∷ past) rest ]

  asked_same : (c : Command) (rest : List ℕ) (o : Option Refusal) → question past c ≡ o → first bytes ≡ Ok (c, rest)
      → asked j c (take (m - length (written c)) rest) o ≡ asked k c rest o
  asked_same c rest (Some q) e f = refl
  asked_same c rest None e f =
      let l = length-append (told past) (written c) in
      let small : length rest < length bytes = first_shorter bytes rest c f in
      let smaller : length (take (m - length (written c)) rest) < length (take m bytes) =
      first_shorter (take m bytes) _ c (shown ∙ ap (cut m) f) in
      again (c ∷ past) rest (m - length (written c)) (e, p) (omega (arith, written_few c, told_short past p)) (omega arith) (omega arith)

  abbrev said : ℕ → First → Verdict
  said i o = elim o [ Err q ↦ Err (bytes_fault (length (told past)) q) | Ok f ↦ asked i f.0 f.1 (question past f.0) ]

  said_same : (o : First) → first bytes ≡ o → said j (cut m o) ≡ said k o
  said_same (Err q) e = refl
  said_same (Ok f) e = asked_same f.0 f.1 (question past f.0) refl e

  pub step_same : said j (first (take m bytes)) ≡ said k (first bytes)
  step_same = ap (said j) shown ∙ said_same (first bytes) refl

front_says : (k j : ℕ) (past : List Command) (bytes : List ℕ) (m : ℕ) → Passed past → Enough past m → length bytes ≤ k
    → length (take m bytes) ≤ j → reading j past (take m bytes) ≡ reading k past bytes
front_says k j past [] zero p en h l = nothing_left j past ∙ sym (nothing_left k past)
front_says k j past [] (suc m) p en h l = nothing_left j past ∙ sym (nothing_left k past)
front_says zero j past (b ∷ bs) m p en h l = absurd (omega arith)
front_says (suc k) j past (b ∷ bs) zero p en h l = absurd (omega (arith, told_short past p))
front_says (suc k) j past (b ∷ bs) (suc zero) p en h l = absurd (omega (arith, told_short past p))
front_says (suc k) j past (b ∷ bs) (suc (suc zero)) p en h l = absurd (omega (arith, told_short past p))
front_says (suc k) j past (b ∷ bs) (suc (suc (suc zero))) p en h l = absurd (omega (arith, told_short past p))
front_says (suc k) zero past (b ∷ bs) (suc (suc (suc (suc m)))) p en h l = absurd (omega arith)
front_says (suc k) (suc j) past (b ∷ bs) (suc (suc (suc (suc m)))) p en h l =
    step_same j k past p (b ∷ bs) (suc (suc (suc (suc m)))) en h l (first_cut m (b ∷ bs)) (λ next rest i q e. front_says k j next rest i q e)

pub front_decides : (bytes : List ℕ) → judge (take (sheet_size 127 + 4) bytes) ≡ judge bytes
front_decides bytes =
    let m : ℕ = sheet_size 127 + 4 in
    front_says (length bytes) (length (take m bytes)) [] bytes m tt (omega arith) (omega arith) (omega arith)

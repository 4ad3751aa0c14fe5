-- Commands are written so that they can be read: the first command of the bytes of a command is that command. Assumes nothing.
--     AllBytes bytes          each number of the list is below 256
--     Parted bytes rest c     the bytes of the command c stand before the rest
use Rattle.std.proofs.Common.{◌≡◌, ℕ, ◌+◌, ◌*◌, ◌/◌, ◌%◌, ◌<◌, true, eqb, List, [], ◌∷◌, ◌++◌, length, get_or, Ok, Err, sym, refl, ap, ◌∙◌, subst, inl, inr, arith}
use Rattle.std.proofs.lemmas.List.{get_or-append-add, length-append}
use Rattle.std.proofs.lemmas.Bool.{cases_Bool, eqb-true}
use Rattle.groups.specs.declared.refusal.Refusal.TheVariants.{Command as Unknown}
use Rattle.sheets.specs.Commands.{First, written, one, two, three, first, side_byte, round_byte, meet_byte, close_byte, end_byte}
use Rattle.sheets.specs.declared.command.Command.{Command}
use Rattle.sheets.specs.declared.command.Command.TheVariants.{Side, Round, Meet, Close, End}

abbrev pub AllBytes : List ℕ → Type 0
AllBytes bytes = (i : ℕ) → get_or bytes i 0 < 256

-- the rest of bytes are bytes
pub rest_small : (front rest : List ℕ) → AllBytes (front ++ rest) → AllBytes rest
rest_small front rest small i = subst (λ (x : ℕ). x < 256) (get_or-append-add front rest i 0) (small (length front + i))

-- what is read, with a default where nothing is
abbrev pub command_in : Command → First → Command
command_in c (Ok f) = f.0
command_in c (Err q) = c

abbrev pub rest_in : List ℕ → First → List ℕ
rest_in rest (Ok f) = f.1
rest_in rest (Err q) = rest

pub first_written : (c : Command) (rest : List ℕ) → first (written c ++ rest) ≡ Ok (c, rest)
first_written (Side n) rest = refl
first_written (Round r) rest = refl
first_written (Meet v a b) rest = refl
first_written Close rest = refl
first_written (End m) rest = let e : m % 256 + 256 * (m / 256) ≡ m = omega arith in ap (λ (x : ℕ). Ok (End x, rest)) e

-- the operands of a command that was read, and the bytes after them
one_back : (f : ℕ → Command) (bs rest : List ℕ) (c : Command) → one f bs ≡ Ok (c, rest) → (x : ℕ) × (bs ≡ x ∷ rest) × (c ≡ f x)
one_back f [] rest c e = absurd (cc)
one_back f (x ∷ bs) rest c e = (x, ap (λ ys. x ∷ ys) (ap (rest_in bs) e), sym (ap (command_in c) e))

two_back : (f : ℕ → ℕ → Command) (bs rest : List ℕ) (c : Command) → two f bs ≡ Ok (c, rest)
    → (x y : ℕ) × (bs ≡ x ∷ y ∷ rest) × (c ≡ f x y)
two_back f [] rest c e = absurd (cc)
two_back f (x ∷ bs) rest c e = let o = one_back (f x) bs rest c e in (x, o.0, ap (λ ys. x ∷ ys) o.1, o.2)

three_back : (f : ℕ → ℕ → ℕ → Command) (bs rest : List ℕ) (c : Command) → three f bs ≡ Ok (c, rest)
    → (x y z : ℕ) × (bs ≡ x ∷ y ∷ z ∷ rest) × (c ≡ f x y z)
three_back f [] rest c e = absurd (cc)
three_back f (x ∷ bs) rest c e = let o = two_back (f x) bs rest c e in (x, o.0, o.1, ap (λ ys. x ∷ ys) o.2, o.3)

-- bytes whose first command is c: its own bytes stand before the rest
pub record Parted (bytes rest : List ℕ) (c : Command) : Type 0 where
  pub front : List ℕ
  pub joined : bytes ≡ front ++ rest
  pub some : 0 < length front
  pub same : AllBytes bytes → front ≡ written c

-- the byte and the operands of the command d stand in front
parted_by : (k b : ℕ) (operands bs rest : List ℕ) (c d : Command) → eqb b k ≡ true → bs ≡ operands ++ rest → c ≡ d
    → (AllBytes (b ∷ bs) → k ∷ operands ≡ written d) → Parted (b ∷ bs) rest c
parted_by k b operands bs rest c d t e f w =
    record {
      front = k ∷ operands;
      joined = ap (λ (x : ℕ). x ∷ bs) (eqb-true b k t) ∙ ap (λ xs. k ∷ xs) e;
      some = omega arith;
      same = λ small. w small ∙ ap written (sym f);
    }

-- the count of END gives its two bytes back
end_written : (b low high : ℕ) (bs rest : List ℕ) → bs ≡ low ∷ high ∷ rest → AllBytes (b ∷ bs)
    → end_byte ∷ low ∷ high ∷ [] ≡ written (End (low + 256 * high))
end_written b low high bs rest e small =
    let fits : low < 256 = subst (λ (xs : List ℕ). get_or xs 0 0 < 256) e (small 1) in
    let p : low ≡ (low + 256 * high) % 256 = omega arith in
    let q : high ≡ (low + 256 * high) / 256 = omega arith in
    ap (λ (x : ℕ). end_byte ∷ x ∷ high ∷ []) p ∙ ap (λ (x : ℕ). end_byte ∷ (low + 256 * high) % 256 ∷ x ∷ []) q

parted_first : (b : ℕ) (bs rest : List ℕ) (c : Command) → first (b ∷ bs) ≡ Ok (c, rest) → Parted (b ∷ bs) rest c
parted_first b bs rest c e =
    elim (cases_Bool (eqb b side_byte)) [
      | inl t ↦
          let o = one_back Side bs rest c (simp t at e) in
          parted_by side_byte b (o.0 ∷ []) bs rest c (Side o.0) t o.1 o.2 (λ small. refl)
      | inr no1 ↦
          elim (cases_Bool (eqb b round_byte)) [
            | inl t ↦
                let o = one_back Round bs rest c (simp (no1, t) at e) in
                parted_by round_byte b (o.0 ∷ []) bs rest c (Round o.0) t o.1 o.2 (λ small. refl)
            | inr no2 ↦
                elim (cases_Bool (eqb b meet_byte)) [
                  | inl t ↦
                      let o = three_back Meet bs rest c (simp (no1, no2, t) at e) in
                      let d : Command = Meet o.0 o.1 o.2 in
                      parted_by meet_byte b (o.0 ∷ o.1 ∷ o.2 ∷ []) bs rest c d t o.3 o.4 (λ small. refl)
                  | inr no3 ↦
                      elim (cases_Bool (eqb b close_byte)) [
                        | inl t ↦
                            let f : ◌≡◌ {A = First} (Ok (Close, bs)) (Ok (c, rest)) = simp (no1, no2, no3, t) at e in
                            parted_by close_byte b [] bs rest c Close t (ap (rest_in bs) f) (sym (ap (command_in c) f)) (λ small. refl)
                        | inr no4 ↦
                            elim (cases_Bool (eqb b end_byte)) [
                              | inl t ↦
                                  let o = two_back (λ low high. End (low + 256 * high)) bs rest c (simp (no1, no2, no3, no4, t) at e) in
                                  let d : Command = End (o.0 + 256 * o.1) in
                                  parted_by end_byte b (o.0 ∷ o.1 ∷ []) bs rest c d t o.2 o.3 (end_written b o.0 o.1 bs rest o.2)
                              | inr no5 ↦ let none : ◌≡◌ {A = First} (Err Unknown) (Ok (c, rest)) = simp (no1, no2, no3, no4, no5) at e in absurd (cc)
                            ]
                      ]
                ]
          ]
    ]

parted : (bytes rest : List ℕ) (c : Command) → first bytes ≡ Ok (c, rest) → Parted bytes rest c
parted [] rest c e = absurd (cc)
parted (b ∷ bs) rest c e = parted_first b bs rest c e

pub written_first : (bytes rest : List ℕ) (c : Command) → AllBytes bytes → first bytes ≡ Ok (c, rest) → bytes ≡ written c ++ rest
written_first bytes rest c small e = let p = parted bytes rest c e in p.joined ∙ ap (λ xs. xs ++ rest) (p.same small)

pub first_shorter : (bytes rest : List ℕ) (c : Command) → first bytes ≡ Ok (c, rest) → length rest < length bytes
first_shorter bytes rest c e =
    let p = parted bytes rest c e in
    let l = ap length p.joined ∙ length-append p.front rest in
    omega (arith, p.some)

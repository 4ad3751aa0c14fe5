-- What is read from a line is what the grammar says. Assumes nothing.
use Rattle.std.proofs.Common.{◌≡◌, ℕ, true, false, eqb, List, [], ◌∷◌, ◌++◌, Some, None, Option, sym, refl, ap, ◌∙◌, inl, inr, append_assoc, arith}
use Rattle.std.specs.List.{AllByRecursion}
use Rattle.std.proofs.lemmas.List.{append-nil}
use Rattle.std.proofs.lemmas.Bool.{both_ways, cases_Bool, eqb-true, eq-eqb, ne_eqb, and_from, and_parts}
use Rattle.input.specs.Grammar.{OrdersLine, NumbersLine, last_order, next_order, no_byte, blank, last_number, next_number, OrdersLaw, NumbersLaw}
use Rattle.input.specs.Numerals.{Digit, is_digit, value_of, Numeral, all_digits, numeral_of}
use Rattle.input.specs.Read.{words, filled, before, values_of, as_orders, listed, and_then, orders_of, numbers_of}
use Rattle.input.specs.declared.orders.Orders.{Orders}
use Rattle.input.specs.declared.orders.Orders.TheVariants.{One, Two, Three}
use Rattle.input.proofs.Bytewise.{glue, glue_push, glue_end, digit_is, digit_from}

never : {X : Type 0} (x : X) → None ≡ Some x → ⊥
never x e = let z : ◌≡◌ {A = ℕ} 0 1 = cc in omega arith

-- numerals

all_true : (w : List ℕ) → AllByRecursion Digit w → all_digits w ≡ true
all_true [] ds = refl
all_true (c ∷ w) ds = and_from (is_digit c) (all_digits w) (digit_is c ds.0) (all_true w ds.1)

all_from : (w : List ℕ) → all_digits w ≡ true → AllByRecursion Digit w
all_from [] e = tt
all_from (c ∷ w) e =
    let p = and_parts (is_digit c) (all_digits w) e in
    (digit_from c p.0, all_from w p.1)

numeral_read : (w : List ℕ) (v : ℕ) → Numeral w v → numeral_of w ≡ Some v
numeral_read [] v n = absurd (n.not_empty refl)
numeral_read (c ∷ w) v n = rw (all_true (c ∷ w) n.digits) (ap Some (sym n.value))

numeral_found : (w : List ℕ) (v : ℕ) → numeral_of w ≡ Some v → Numeral w v
numeral_found [] v e = absurd (never v e)
numeral_found (c ∷ w) v e =
    elim (cases_Bool (all_digits (c ∷ w))) [
      | inl t ↦
          let same : Some (value_of (c ∷ w)) ≡ Some v = rw t at e in
          record { not_empty = λ none. let z : ◌≡◌ {A = ℕ} 0 1 = cc in omega arith; digits = all_from (c ∷ w) t; value = cc }
      | inr f ↦ let none : None ≡ Some v = rw f at e in absurd (never v none)
    ]

-- a word of digits holds no separator

module _ (s : ℕ) (no_digit : is_digit s ≡ false) where
  apart : (c : ℕ) → Digit c → eqb c s ≡ false
  apart c d = ne_eqb c s (λ e. let f : is_digit c ≡ false = rw e no_digit in both_ways (is_digit c) f (digit_is c d))

  word_last : (w : List ℕ) → AllByRecursion Digit w → words s w ≡ w ∷ []
  word_last [] ds = refl
  word_last (c ∷ w) ds = rw (apart c ds.0, word_last w ds.1)

  word_next : (w rest : List ℕ) → AllByRecursion Digit w → words s (w ++ (s ∷ rest)) ≡ w ∷ words s rest
  word_next [] rest ds = rw (eq-eqb s s refl)
  word_next (c ∷ w) rest ds = rw (apart c ds.0, word_next w rest ds.1)

-- a value before others

before_parts : (n : Option ℕ) (rest : Option (List ℕ)) (vs : List ℕ) → before n rest ≡ Some vs
    → (v : ℕ) × (us : List ℕ) × (n ≡ Some v) × (rest ≡ Some us) × (v ∷ us ≡ vs)
before_parts None rest vs e = absurd (never vs e)
before_parts (Some v) None vs e = absurd (never vs e)
before_parts (Some v) (Some us) vs e = (v, us, refl, refl, cc)

-- orders

orders_complete : {bytes vs : List ℕ} → OrdersLine bytes vs → values_of (words 0x78 bytes) ≡ Some vs
orders_complete (last_order {w} {v} n) = rw (word_last 0x78 refl w n.digits, numeral_read w v n)
orders_complete (next_order {w} {rest} {vs} {v} n r) =
    rw (word_next 0x78 refl w rest n.digits, numeral_read w v n, orders_complete r)

orders_sound : (w bytes vs : List ℕ) → values_of (glue w (words 0x78 bytes)) ≡ Some vs → OrdersLine (w ++ bytes) vs
orders_sound w [] vs e =
    let p = before_parts (numeral_of w) (Some []) vs (rw (glue_end w []) at e) in
    let none : [] ≡ p.1 = cc p.3 in
    rw (append-nil w, sym p.4, sym none) (last_order (numeral_found w p.0 p.2))
orders_sound w (c ∷ cs) vs e =
    elim (cases_Bool (eqb c 0x78)) [
      | inl x ↦
          let f : before (numeral_of w) (values_of (words 0x78 cs)) ≡ Some vs = rw (x, glue_end w (words 0x78 cs)) at e in
          let p = before_parts (numeral_of w) (values_of (words 0x78 cs)) vs f in
          rw (eqb-true c 0x78 x, sym p.4) (next_order (numeral_found w p.0 p.2) (orders_sound [] cs p.1 p.3))
      | inr other ↦
          let f : values_of (glue (w ++ (c ∷ [])) (words 0x78 cs)) ≡ Some vs = rw (other, glue_push w c (words 0x78 cs)) at e in
          rw append_assoc at (orders_sound (w ++ (c ∷ [])) cs vs f)
    ]

same_orders : (vs : List ℕ) (o : Orders) → as_orders vs ≡ Some o → vs ≡ listed o
same_orders [] o e = absurd (never o e)
same_orders (a ∷ []) o e = let f : One a ≡ o = cc in rw (sym f)
same_orders (a ∷ (b ∷ [])) o e = let f : Two a b ≡ o = cc in rw (sym f)
same_orders (a ∷ (b ∷ (c ∷ []))) o e = let f : Three a b c ≡ o = cc in rw (sym f)
same_orders (a ∷ (b ∷ (c ∷ (d ∷ ds)))) o e = absurd (never o e)

some_orders : (found : Option (List ℕ)) (o : Orders) → and_then found as_orders ≡ Some o → found ≡ Some (listed o)
some_orders None o e = absurd (never o e)
some_orders (Some vs) o e = ap Some (same_orders vs o e)

pub orders_law : (bytes : List ℕ) (answer : Option Orders) → answer ≡ orders_of bytes → OrdersLaw bytes answer
orders_law bytes answer same =
    record {
      every = λ vs l. same ∙ rw (orders_complete l);
      only = λ o e. orders_sound [] bytes (listed o) (some_orders (values_of (words 0x78 bytes)) o (sym same ∙ e));
    }

-- numbers

fill_word : (w : List ℕ) (v : ℕ) (ws : List (List ℕ)) → Numeral w v → filled (w ∷ ws) ≡ w ∷ filled ws
fill_word [] v ws n = absurd (n.not_empty refl)
fill_word (c ∷ w) v ws n = refl

numbers_complete : {bytes vs : List ℕ} → NumbersLine bytes vs → values_of (filled (words 0x20 bytes)) ≡ Some vs
numbers_complete no_byte = refl
numbers_complete (blank r) = numbers_complete r
numbers_complete (last_number {w} {v} n) = rw (word_last 0x20 refl w n.digits, fill_word w v [] n, numeral_read w v n)
numbers_complete (next_number {w} {rest} {vs} {v} n r) =
    rw (word_next 0x20 refl w rest n.digits, fill_word w v (words 0x20 rest) n, numeral_read w v n, numbers_complete r)

-- a word ends at a blank or at the line's end
number_next : (w cs vs : List ℕ) → ((us : List ℕ) → values_of (filled (words 0x20 cs)) ≡ Some us → NumbersLine cs us)
    → values_of (filled (w ∷ words 0x20 cs)) ≡ Some vs → NumbersLine (w ++ (0x20 ∷ cs)) vs
number_next [] cs vs rest e = blank (rest vs e)
number_next (a ∷ w) cs vs rest e =
    let p = before_parts (numeral_of (a ∷ w)) (values_of (filled (words 0x20 cs))) vs e in
    rw (sym p.4) (next_number (numeral_found (a ∷ w) p.0 p.2) (rest p.1 p.3))

number_last : (w vs : List ℕ) → values_of (filled (w ∷ [])) ≡ Some vs → NumbersLine w vs
number_last [] vs e = let none : [] ≡ vs = cc in rw (sym none) no_byte
number_last (a ∷ w) vs e =
    let p = before_parts (numeral_of (a ∷ w)) (Some []) vs e in
    let none : [] ≡ p.1 = cc p.3 in
    rw (sym p.4, sym none) (last_number (numeral_found (a ∷ w) p.0 p.2))

numbers_sound : (w bytes vs : List ℕ) → values_of (filled (glue w (words 0x20 bytes))) ≡ Some vs → NumbersLine (w ++ bytes) vs
numbers_sound w [] vs e = rw (append-nil w) (number_last w vs (rw (glue_end w []) at e))
numbers_sound w (c ∷ cs) vs e =
    elim (cases_Bool (eqb c 0x20)) [
      | inl x ↦
          let f : values_of (filled (w ∷ words 0x20 cs)) ≡ Some vs = rw (x, glue_end w (words 0x20 cs)) at e in
          rw (eqb-true c 0x20 x) (number_next w cs vs (numbers_sound [] cs) f)
      | inr other ↦
          let f : values_of (filled (glue (w ++ (c ∷ [])) (words 0x20 cs))) ≡ Some vs = rw (other, glue_push w c (words 0x20 cs)) at e in
          rw append_assoc at (numbers_sound (w ++ (c ∷ [])) cs vs f)
    ]

pub numbers_law : (bytes : List ℕ) (answer : Option (List ℕ)) → answer ≡ numbers_of bytes → NumbersLaw bytes answer
numbers_law bytes answer same =
    record {
      every = λ vs l. same ∙ numbers_complete l;
      only = λ vs e. numbers_sound [] bytes vs (sym same ∙ e);
    }

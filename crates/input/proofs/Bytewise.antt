-- A line is read byte by byte: what is read so far and the bytes that are left give what the whole line gives. Assumes nothing.
--     glue w ws               the words ws with the bytes w before the first
--     front w                 the value of the digits w at the start of a word, or None before the first digit
--     after n c               the same with the digit c behind them
--     closed o n              the orders o with the numeral n, which ends here
--     orders_from o n cs      what the bytes cs give where the orders o and the numeral n are read
--     numbers_from vs n cs    what the bytes cs give where the numbers vs and the numeral n are read
--     with_rest o vs          the orders o with the values vs of the words that are left
use Rattle.std.proofs.Common.{◌≡◌, ℕ, ◌+◌, ◌*◌, min, true, false, cond, eqb, leb, List, [], ◌∷◌, ◌++◌, map, Some, None, Option, unwrap_or, sym, refl, ap, ◌∙◌, inl, inr, append_assoc, arith}
use Rattle.std.specs.Option.{option_map, option_to_list}
use Rattle.std.specs.Int.Digits.{number_from_digits}
use Rattle.std.proofs.lemmas.Int.Digits.{number_push}
use Rattle.std.proofs.lemmas.List.{append-nil, map_push}
use Rattle.std.proofs.lemmas.Bool.{cases_Bool, eqb-true, leb-true, le-leb, and_from, and_parts}
use Rattle.input.specs.Numerals.{Digit, is_digit, digit_of, value_of, all_digits, numeral_of}
use Rattle.input.specs.Read.{onto, words, filled, before, values_of, as_orders, so_far, and_then, orders_of, numbers_of}
use Rattle.input.specs.declared.orders.Orders.{Orders}
use Rattle.input.specs.declared.orders.Orders.TheVariants.{One, Two, Three}

abbrev pub glue : List ℕ → List (List ℕ) → List (List ℕ)
glue [] ws = ws
glue (c ∷ cs) ws = onto c (glue cs ws)

abbrev pub front : List ℕ → Option ℕ
front [] = None
front (c ∷ cs) = Some (value_of (c ∷ cs))

abbrev pub after : Option ℕ → ℕ → Option ℕ
after n c = Some (min (unwrap_or n 0 * 10 + digit_of c) 255)

abbrev pub closed : Option Orders → Option ℕ → Option Orders
closed o None = None
closed o (Some v) = as_orders (so_far o ++ (v ∷ []))

abbrev pub orders_from : Option Orders → Option ℕ → List ℕ → Option Orders
orders_from o n [] = closed o n
orders_from o n (c ∷ cs) =
    cond (is_digit c)
    (orders_from o (after n c) cs)
    (cond (eqb c 0x78) (and_then (closed o n) (λ more. orders_from (Some more) None cs)) None)

abbrev pub numbers_from : List ℕ → Option ℕ → List ℕ → Option (List ℕ)
numbers_from vs n [] = Some (vs ++ option_to_list n)
numbers_from vs n (c ∷ cs) =
    cond (is_digit c)
    (numbers_from vs (after n c) cs)
    (cond (eqb c 0x20) (numbers_from (vs ++ option_to_list n) None cs) None)

-- words

pub glue_push : (w : List ℕ) (c : ℕ) (ws : List (List ℕ)) → glue w (onto c ws) ≡ glue (w ++ (c ∷ [])) ws
glue_push [] c ws = refl
glue_push (a ∷ w) c ws = ap (onto a) (glue_push w c ws)

glue_word : (w u : List ℕ) (us : List (List ℕ)) → glue w (u ∷ us) ≡ (w ++ u) ∷ us
glue_word [] u us = refl
glue_word (a ∷ w) u us = ap (onto a) (glue_word w u us)

pub glue_end : (w : List ℕ) (us : List (List ℕ)) → glue w ([] ∷ us) ≡ w ∷ us
glue_end w us = glue_word w [] us ∙ ap (λ (x : List ℕ). x ∷ us) (append-nil w)

-- the first word of those that begin with the byte c
onto_word : (c : ℕ) (ws : List (List ℕ)) → (u : List ℕ) × (us : List (List ℕ)) × (onto c ws ≡ (c ∷ u) ∷ us)
onto_word c [] = ([], [], refl)
onto_word c (w ∷ ws) = (w, ws, refl)

-- numerals

pub digit_is : (c : ℕ) → Digit c → is_digit c ≡ true
digit_is c d = and_from (leb 0x30 c) (leb c 0x39) (le-leb 0x30 c d.0) (le-leb c 0x39 d.1)

pub digit_from : (c : ℕ) → is_digit c ≡ true → Digit c
digit_from c e =
    let p = and_parts (leb 0x30 c) (leb c 0x39) e in
    (leb-true 0x30 c p.0, leb-true c 0x39 p.1)

saturates : (n d : ℕ) → min (n * 10 + d) 255 ≡ min (min n 255 * 10 + d) 255
saturates n d = omega arith

front_push : (w : List ℕ) (c : ℕ) → front (w ++ (c ∷ [])) ≡ after (front w) c
front_push [] c = refl
front_push (a ∷ w) c =
    ap Some
    (ap (λ (ds : List ℕ). min (number_from_digits 10 ds) 255) (map_push digit_of (a ∷ w) c)
    ∙ ap (λ (n : ℕ). min n 255) (number_push 10 (map digit_of (a ∷ w)) (digit_of c))
    ∙ saturates (number_from_digits 10 (map digit_of (a ∷ w))) (digit_of c))

digits_push : (w : List ℕ) (c : ℕ) → all_digits w ≡ true → is_digit c ≡ true → all_digits (w ++ (c ∷ [])) ≡ true
digits_push [] c ds d = and_from (is_digit c) true d refl
digits_push (a ∷ w) c ds d =
    let p = and_parts (is_digit a) (all_digits w) ds in
    and_from (is_digit a) (all_digits (w ++ (c ∷ []))) p.0 (digits_push w c p.1 d)

front_is : (w : List ℕ) → all_digits w ≡ true → numeral_of w ≡ front w
front_is [] ds = refl
front_is (a ∷ w) ds = rw ds

-- another byte than a digit spoils its word
spoiled : (w : List ℕ) (c : ℕ) (u : List ℕ) → is_digit c ≡ false → all_digits (w ++ (c ∷ u)) ≡ false
spoiled [] c u e = rw e
spoiled (a ∷ w) c u e =
    elim (cases_Bool (is_digit a)) [ inl t ↦ rw (t, spoiled w c u e) | inr f ↦ rw f ]

no_numeral : (w : List ℕ) (c : ℕ) (u : List ℕ) → is_digit c ≡ false → numeral_of (w ++ (c ∷ u)) ≡ None
no_numeral [] c u e = rw e
no_numeral (a ∷ w) c u e = rw (spoiled (a ∷ w) c u e)

-- orders

abbrev with_rest : Option Orders → Option (List ℕ) → Option Orders
with_rest o None = None
with_rest o (Some vs) = as_orders (so_far o ++ vs)

one_more : (o : Option Orders) (v : ℕ) (rest : Option (List ℕ))
    → and_then (as_orders (so_far o ++ (v ∷ []))) (λ more. with_rest (Some more) rest) ≡ with_rest o (before (Some v) rest)
one_more None v None = refl
one_more None v (Some vs) = refl
one_more (Some (One a)) v None = refl
one_more (Some (One a)) v (Some vs) = refl
one_more (Some (Two a b)) v None = refl
one_more (Some (Two a b)) v (Some vs) = refl
one_more (Some (Three a b c)) v None = refl
one_more (Some (Three a b c)) v (Some vs) = refl

goes_on : (x : Option Orders) (F G : Orders → Option Orders) → ((more : Orders) → F more ≡ G more)
    → and_then x F ≡ and_then x G
goes_on None F G same = refl
goes_on (Some more) F G same = same more

closes : (o : Option Orders) (n : Option ℕ) (rest : Option (List ℕ))
    → and_then (closed o n) (λ more. with_rest (Some more) rest) ≡ with_rest o (before n rest)
closes o None rest = refl
closes o (Some v) rest = one_more o v rest

ends : (o : Option Orders) (n : Option ℕ) → closed o n ≡ with_rest o (before n (Some []))
ends o None = refl
ends o (Some v) = refl

pub orders_bytewise : (o : Option Orders) (w cs : List ℕ) → all_digits w ≡ true
    → orders_from o (front w) cs ≡ with_rest o (values_of (glue w (words 0x78 cs)))
orders_bytewise o w [] ds = rw (glue_end w [], front_is w ds) (ends o (front w))
orders_bytewise o w (c ∷ cs) ds =
    elim (cases_Bool (eqb c 0x78)) [
      | inl x ↦
          let no_digit : is_digit c ≡ false = rw (eqb-true c 0x78 x) in
          let next : (more : Orders) → orders_from (Some more) None cs ≡ with_rest (Some more) (values_of (words 0x78 cs)) = λ more. orders_bytewise (Some more) [] cs refl in
          rw (no_digit, x, glue_end w (words 0x78 cs), front_is w ds)
          (goes_on (closed o (front w)) (λ more. orders_from (Some more) None cs) (λ more. with_rest (Some more) (values_of (words 0x78 cs))) next
          ∙ closes o (front w) (values_of (words 0x78 cs)))
      | inr other ↦
          elim (cases_Bool (is_digit c)) [
            | inl d ↦
                rw (d, other, ← front_push w c, glue_push w c (words 0x78 cs)) (orders_bytewise o (w ++ (c ∷ [])) cs (digits_push w c ds d))
            | inr no_digit ↦
                let p = onto_word c (words 0x78 cs) in
                rw (no_digit, other, p.2, glue_word w (c ∷ p.0) p.1, no_numeral w c p.0 no_digit)
          ]
    ]

whole : (rest : Option (List ℕ)) → with_rest None rest ≡ and_then rest as_orders
whole None = refl
whole (Some vs) = refl

pub orders_start : (bytes : List ℕ) → orders_from None None bytes ≡ orders_of bytes
orders_start bytes = orders_bytewise None [] bytes refl ∙ whole (values_of (words 0x78 bytes))

-- numbers

same_values : (o : Option (List ℕ)) → option_map (λ us. [] ++ us) o ≡ o
same_values None = refl
same_values (Some vs) = refl

spoils : (vs w : List ℕ) (c : ℕ) (u : List ℕ) (us : List (List ℕ)) → is_digit c ≡ false
    → None ≡ option_map (λ us. vs ++ us) (values_of (filled ((w ++ (c ∷ u)) ∷ us)))
spoils vs [] c u us e = rw e
spoils vs (a ∷ w) c u us e = rw (spoiled (a ∷ w) c u e)

numbers_close : (vs : List ℕ) (w : List ℕ) (ws : List (List ℕ)) → all_digits w ≡ true
    → option_map (λ us. (vs ++ option_to_list (front w)) ++ us) (values_of (filled ws)) ≡ option_map (λ us. vs ++ us) (values_of (filled (w ∷ ws)))
numbers_close vs [] ws ds = rw append-nil
numbers_close vs (c ∷ w) ws ds =
    rw ds (elim (values_of (filled ws)) as (λ o. option_map (λ us. (vs ++ (value_of (c ∷ w) ∷ [])) ++ us) o ≡ option_map (λ us. vs ++ us) (before (Some (value_of (c ∷ w))) o))
    [ None ↦ refl | Some us ↦ ap Some (append_assoc vs (value_of (c ∷ w) ∷ []) us) ])

pub numbers_bytewise : (vs w cs : List ℕ) → all_digits w ≡ true
    → numbers_from vs (front w) cs ≡ option_map (λ us. vs ++ us) (values_of (filled (glue w (words 0x20 cs))))
numbers_bytewise vs w [] ds =
    rw (glue_end w []) (ap Some (sym (append-nil (vs ++ option_to_list (front w)))) ∙ numbers_close vs w [] ds)
numbers_bytewise vs w (c ∷ cs) ds =
    elim (cases_Bool (eqb c 0x20)) [
      | inl x ↦
          let no_digit : is_digit c ≡ false = rw (eqb-true c 0x20 x) in
          rw (no_digit, x, glue_end w (words 0x20 cs)) (numbers_bytewise (vs ++ option_to_list (front w)) [] cs refl ∙ numbers_close vs w (words 0x20 cs) ds)
      | inr other ↦
          elim (cases_Bool (is_digit c)) [
            | inl d ↦
                rw (d, other, ← front_push w c, glue_push w c (words 0x20 cs)) (numbers_bytewise vs (w ++ (c ∷ [])) cs (digits_push w c ds d))
            | inr no_digit ↦
                let p = onto_word c (words 0x20 cs) in
                rw (no_digit, other, p.2, glue_word w (c ∷ p.0) p.1) (spoils vs w c p.0 p.1 no_digit)
          ]
    ]

pub numbers_start : (bytes : List ℕ) → numbers_from [] None bytes ≡ numbers_of bytes
numbers_start bytes = numbers_bytewise [] [] bytes refl ∙ same_values (numbers_of bytes)

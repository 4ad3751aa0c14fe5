-- The written list of a claimed starter. Assumes nothing.
use Rattle.std.proofs.Common.{◌≡◌, ℕ, ◌+◌, ◌*◌, ◌/◌, ◌%◌, ◌<◌, ◌≤◌, ◌≢◌, List, [], ◌∷◌, ◌++◌, length, get_or, sym, refl, ap, ◌∙◌, subst, inl, inr, arith}
use Rattle.std.proofs.lemmas.List.{get_or_append_left, get_or_push, length_push}
use Rattle.std.proofs.lemmas.Bool.{cases_eq, cases_lt}
use Rattle.groups.specs.Numbers.{Different}
use Rattle.starters.specs.Pairs.{nobody, at, flipped, numbers, paired, Alike, Listed, SamePairs}
use Rattle.starters.specs.Claims.{NumbersRight}
use Rattle.starters.specs.Starters.{Written}
use Rattle.starters.specs.declared.pair.Pair.{Pair}
use Rattle.starters.proofs.Likeness.{no_longer, alike_by_first, no_twins_from_numbers, no_twins_from_written}
use Rattle.starters.proofs.Places.{halved, length_both, both_first, both_second, length-paired, paired_at, numbers-paired}

-- the two places of a pair hold its numbers
pub couple : (bs : List ℕ) (i j : ℕ) → i < length bs → length bs % 2 ≡ 0 → j / 2 ≡ i / 2 → j ≢ i
    → (j < length bs) × Alike (at (paired bs) (i / 2)) (record { first = get_or bs i 0; second = get_or bs j 0 })
couple bs i j h even half ne =
    let p = paired_at bs (i / 2) (omega arith) in
    let pair : ℕ → ℕ → Pair = λ x y. record { first = get_or bs x 0; second = get_or bs y 0 } in
    elim (halved i) [
      | inl a ↦
          elim (halved j) [
            | inl b ↦ absurd (ne (omega arith))
            | inr b ↦
                let c : 2 * (i / 2) + 1 ≡ j = omega arith in
                (omega arith, inl (p ∙ ap (λ (x : ℕ). pair x (2 * (i / 2) + 1)) (sym a) ∙ ap (pair i) c))
          ]
      | inr a ↦
          elim (halved j) [
            | inl b ↦
                let c : 2 * (i / 2) ≡ j = omega arith in
                (omega arith, inr (p ∙ ap (λ (x : ℕ). pair x (2 * (i / 2) + 1)) c ∙ ap (pair j) (sym a)))
            | inr b ↦ absurd (ne (omega arith))
          ]
    ]

-- The list so far holds, in rising order, the pairs of ps whose smaller number is below a.
pub record Below (ps : List Pair) (a : ℕ) (qs : List Pair) : Type 0 where
  pub lower : (k : ℕ) → k < length qs → (at qs k).first < a
  pub written : Written qs
  pub listed : (k : ℕ) → k < length qs → Listed ps (at qs k)
  pub complete : (p : Pair) → Listed ps p → 0 < p.first → p.first < a → p.first < p.second → (k : ℕ) × (k < length qs) × (at qs k ≡ p)

module _ (ps : List Pair) where
  module _ (d : Different (numbers ps)) (a b : ℕ) (qs : List Pair) (here : Listed ps (record { first = a; second = b })) (m : Below ps a qs) where
    -- the pair of a has its smaller number elsewhere
    pub below_skip : b ≤ a → Below ps (a + 1) qs
    below_skip more = record {
      lower = λ k h. omega (arith, m.lower k h);
      written = m.written;
      listed = m.listed;
      complete = λ p l some less order.
          elim (cases_eq p.first a) [
            | inl e ↦
                elim (alike_by_first ps d (record { first = a; second = b }) p here l (sym e)) [
                  | inl x ↦ absurd (omega (arith, ap (λ (q : Pair). q.second) x))
                  | inr x ↦ absurd (omega (arith, ap (λ (q : Pair). q.first) x))
                ]
            | inr o ↦ m.complete p l some (omega arith) order
          ];
    }

    old : (k : ℕ) → k < length qs → at (qs ++ (record { first = a; second = b } ∷ [])) k ≡ at qs k
    old k h = get_or_append_left qs (record { first = a; second = b } ∷ []) nobody k h

    -- the pair of a has its smaller number in a
    pub below_more : 0 < a → a < b → Below ps (a + 1) (qs ++ (record { first = a; second = b } ∷ []))
    below_more some order =
        let p : Pair = record { first = a; second = b } in
        let rs : List Pair = qs ++ (p ∷ []) in
        let long : length rs ≡ length qs + 1 = length_push qs p in
        let last : at rs (length qs) ≡ p = get_or_push qs p nobody (length qs) refl in
        -- what holds of the pairs so far, and of the new one
        let each : (P : Pair → Type 0) → ((k : ℕ) → k < length qs → P (at qs k)) → P p → (k : ℕ) → k < length rs → P (at rs k) = λ P before it k h.
        elim (cases_eq k (length qs)) [
          | inl e ↦ subst P (sym (ap (at rs) e ∙ last)) it
          | inr o ↦ subst P (sym (old k (omega arith))) (before k (omega arith))
        ] in
        record {
          lower = each (λ q. q.first < a + 1) (λ k h. omega (arith, m.lower k h)) (omega arith);
          written = record {
            smaller_first = each (λ q. q.first < q.second) m.written.smaller_first order;
            rising = λ j k x h.
                let front : at rs j ≡ at qs j = old j (omega arith) in
                let f : (at rs j).first ≡ (at qs j).first = ap (λ (q : Pair). q.first) front in
                elim (cases_eq k (length qs)) [
                  | inl e ↦
                      let s : (at rs k).first ≡ a = ap (λ (q : Pair). q.first) (ap (at rs) e ∙ last) in
                      omega (arith, m.lower j (omega arith))
                  | inr o ↦
                      let s : (at rs k).first ≡ (at qs k).first = ap (λ (q : Pair). q.first) (old k (omega arith)) in
                      omega (arith, m.written.rising j k x (omega arith))
                ];
          };
          listed = each (Listed ps) m.listed here;
          complete = λ q l some' less order'.
              elim (cases_eq q.first a) [
                | inl e ↦
                    elim (alike_by_first ps d p q here l (sym e)) [
                      | inl x ↦ (length qs, omega arith, last ∙ x)
                      | inr x ↦ absurd (omega (arith, ap (λ (y : Pair). y.second) x))
                    ]
                | inr o ↦
                    let r = m.complete q l some' (omega arith) order' in
                    (r.0, omega (arith, r.1), old r.0 r.1 ∙ r.2)
              ];
        }

  -- the list never outgrows ps
  pub below_room : (a : ℕ) (qs : List Pair) → Below ps a qs → length qs ≤ length ps
  below_room a qs m = no_longer qs ps (no_twins_from_written qs m.written) m.listed

  -- past all numbers the list has the pairs of ps
  pub below_all : (n : ℕ) (qs : List Pair) → NumbersRight n (numbers ps) → Below ps n qs → SamePairs ps qs × (length qs ≡ length ps)
  below_all n qs r m =
      let first : Pair → ℕ = λ p. p.first in
      let long = length_both first ps in
      let there : (k : ℕ) → k < length ps → Listed qs (at ps k) = λ k h.
      let x : 2 * k < length (numbers ps) = omega arith in
      let y : 2 * k + 1 < length (numbers ps) = omega arith in
      let a = both_first first ps k h in
      let b = both_second first ps k h in
      let ne : (at ps k).first ≢ (at ps k).second = λ e. omega (arith, r.different (2 * k) (2 * k + 1) x y (a ∙ e ∙ sym b)) in
      elim (cases_lt (at ps k).first (at ps k).second) [
        | inl less ↦
            let c = m.complete (at ps k) (k, h, inl refl) (omega (arith, r.nonzero (2 * k) x)) (omega (arith, r.below (2 * k) x)) less in
            (c.0, c.1, inl c.2)
        | inr more ↦
            let c = m.complete (flipped (at ps k)) (k, h, inr refl) (omega (arith, r.nonzero (2 * k + 1) y)) (omega (arith, r.below (2 * k + 1) y)) (omega arith) in
            (c.0, c.1, inr c.2)
      ] in
      let up = below_room n qs m in
      let down = no_longer ps qs (no_twins_from_numbers ps r.different) there in
      ((there, m.listed), omega arith)

-- One number of the bytes: a stands at place i, and j is the other place of its pair.
module _ (bs : List ℕ) (n : ℕ) (right : NumbersRight n bs) (even : length bs % 2 ≡ 0) (i j a : ℕ) (at_i : (i < length bs) × (get_or bs i 0 ≡ a))
    (half : j / 2 ≡ i / 2) (other : j ≢ i) (qs : List Pair) (m : Below (paired bs) a qs) where
  here : Listed (paired bs) (record { first = a; second = get_or bs j 0 })
  here =
      let c = couple bs i j at_i.0 even half other in
      let p : ℕ → Pair = λ x. record { first = x; second = get_or bs j 0 } in
      let h = at_i.0 in
      let l = length-paired bs in
      (i / 2, omega arith, subst (λ (x : ℕ). Alike (at (paired bs) (i / 2)) (p x)) at_i.1 c.1)

  apart : Different (numbers (paired bs))
  apart = subst Different (sym (numbers-paired bs even)) right.different

  pub number_skip : get_or bs j 0 ≤ a → Below (paired bs) (a + 1) qs
  number_skip more = below_skip (paired bs) apart a (get_or bs j 0) qs here m more

  pub number_more : 0 < a → a < get_or bs j 0 → Below (paired bs) (a + 1) (qs ++ (record { first = a; second = get_or bs j 0 } ∷ []))
  number_more some less = below_more (paired bs) apart a (get_or bs j 0) qs here m some less

  pub number_room : 0 < a → a < get_or bs j 0 → length qs < length bs / 2
  number_room some less =
      let p : Pair = record { first = a; second = get_or bs j 0 } in
      let r = below_room (paired bs) (a + 1) (qs ++ (p ∷ [])) (number_more some less) in
      omega (arith, length_push qs p, length-paired bs)

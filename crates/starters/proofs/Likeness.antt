-- Pairs that are the same but for the order of their numbers. Assumes nothing.
use Rattle.std.proofs.Common.{◌≡◌, ℕ, ◌+◌, ◌*◌, ◌/◌, ◌<◌, ◌≤◌, List, length, get_or, sym, ap, ◌∙◌, subst, inl, inr, arith}
use Rattle.std.proofs.lemmas.Bool.{cases_eq, cases_lt}
use Rattle.groups.specs.Numbers.{Different}
use Rattle.groups.proofs.Pigeonhole.{at_most_by}
use Rattle.starters.specs.Pairs.{at, flipped, numbers, Holds, Alike, Listed}
use Rattle.starters.specs.Starters.{Written}
use Rattle.starters.specs.declared.pair.Pair.{Pair}
use Rattle.starters.proofs.Places.{length_both, both_first, both_second}

-- no two places hold the same pair
abbrev pub NoTwins : List Pair → Type 0
NoTwins ps = (i j : ℕ) → i < length ps → j < length ps → Alike (at ps i) (at ps j) → i ≡ j

pub alike_both : (p q r : Pair) → Alike r p → Alike r q → Alike p q
alike_both p q r (inl x) (inl y) = inl (sym x ∙ y)
alike_both p q r (inl x) (inr y) = inr (sym x ∙ y)
alike_both p q r (inr x) (inl y) = inr (ap flipped (sym x ∙ y))
alike_both p q r (inr x) (inr y) = inl (ap flipped (sym x ∙ y))

pub alike_trans : (p q r : Pair) → Alike p q → Alike q r → Alike p r
alike_trans p q r (inl x) (inl y) = inl (x ∙ y)
alike_trans p q r (inl x) (inr y) = inr (x ∙ y)
alike_trans p q r (inr x) (inl y) = inr (x ∙ ap flipped y)
alike_trans p q r (inr x) (inr y) = inl (x ∙ ap flipped y)

-- a list whose pairs are listed in another is no longer than that
pub no_longer : (ps qs : List Pair) → NoTwins ps → ((k : ℕ) → k < length ps → Listed qs (at ps k)) → length ps ≤ length qs
no_longer ps qs apart listed =
    at_most_by (length ps) (length qs) (λ i v. Alike (at qs v) (at ps i)) listed
    (λ i j v x y p q. apart i j x y (alike_both (at ps i) (at ps j) (at qs v) p q))

pub no_twins_from_numbers : (ps : List Pair) → Different (numbers ps) → NoTwins ps
no_twins_from_numbers ps d i j x y e =
    let first : Pair → ℕ = λ p. p.first in
    let m = length_both first ps in
    let a = both_first first ps i x in
    let b = both_first first ps j y in
    let c = both_second first ps j y in
    elim e [
      | inl z ↦ omega (arith, d (2 * i) (2 * j) (omega arith) (omega arith) (a ∙ ap first z ∙ sym b))
      | inr z ↦ absurd (omega (arith, d (2 * i) (2 * j + 1) (omega arith) (omega arith) (a ∙ ap first z ∙ sym c)))
    ]

pub no_twins_from_written : (ps : List Pair) → Written ps → NoTwins ps
no_twins_from_written ps w i j x y e =
    let si = w.smaller_first i x in
    let sj = w.smaller_first j y in
    elim e [
      | inl z ↦
          let f : (at ps i).first ≡ (at ps j).first = ap (λ (p : Pair). p.first) z in
          elim (cases_lt i j) [
            | inl less ↦ absurd (omega (arith, w.rising i j less y))
            | inr most ↦ elim (cases_eq i j) [ inl same ↦ same | inr other ↦ absurd (omega (arith, w.rising j i (omega arith) x)) ]
          ]
      | inr z ↦
          let f : (at ps i).first ≡ (at ps j).second = ap (λ (p : Pair). p.first) z in
          let s : (at ps i).second ≡ (at ps j).first = ap (λ (p : Pair). p.second) z in
          absurd (omega arith)
    ]

-- a number of a pair stands at a place of the pair
pub place_of_number : (ps : List Pair) (a k : ℕ) → k < length ps → Holds a (at ps k)
    → (j : ℕ) × (j < length (numbers ps)) × (get_or (numbers ps) j 0 ≡ a) × (j / 2 ≡ k)
place_of_number ps a k h holds =
    let first : Pair → ℕ = λ q. q.first in
    let m = length_both first ps in
    elim holds [
      | inl e ↦ (2 * k, omega arith, both_first first ps k h ∙ e, omega arith)
      | inr e ↦ (2 * k + 1, omega arith, both_second first ps k h ∙ e, omega arith)
    ]

-- a number stands in one pair only
pub one_pair : (ps : List Pair) → Different (numbers ps) → (a i j : ℕ) → i < length ps → j < length ps
    → Holds a (at ps i) → Holds a (at ps j) → i ≡ j
one_pair ps d a i j x y hi hj =
    let p = place_of_number ps a i x hi in
    let q = place_of_number ps a j y hj in
    let same : p.0 ≡ q.0 = d p.0 q.0 p.1 q.1 (p.2 ∙ sym q.2) in
    sym p.3 ∙ ap (λ (k : ℕ). k / 2) same ∙ q.3

-- two pairs of a list with the same first number are the same pair
pub alike_by_first : (ps : List Pair) → Different (numbers ps) → (p q : Pair) → Listed ps p → Listed ps q → p.first ≡ q.first → Alike p q
alike_by_first ps d p q lp lq e =
    let holds : (r : Pair) (l : Listed ps r) → Holds r.first (at ps l.0) = λ r l.
    elim l.2 [ inl x ↦ inl (ap (λ (y : Pair). y.first) x) | inr x ↦ inr (ap (λ (y : Pair). y.second) x) ] in
    let one : lp.0 ≡ lq.0 = one_pair ps d q.first lp.0 lq.0 lp.1 lq.1
    (subst (λ (a : ℕ). Holds a (at ps lp.0)) e (holds p lp)) (holds q lq) in
    alike_both p q (at ps lq.0) (subst (λ (k : ℕ). Alike (at ps k) p) one lp.2) lq.2

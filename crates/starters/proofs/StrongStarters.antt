-- Strong starters by the questions of a claim, and under another order of the pairs. Assumes nothing.
use Rattle.std.proofs.Common.{◌≡◌, ℕ, ◌+◌, ◌-◌, ◌*◌, ◌/◌, ◌<◌, ◌≢◌, List, length, get_or, sym, refl, ap, ◌∙◌, subst, inl, inr, arith}
use Rattle.groups.specs.Numbers.{Once, Different}
use Rattle.groups.specs.Tables.{Table, Laws, difference}
use Rattle.groups.specs.Algebra.{difference_below, difference_zero}
use Rattle.groups.proofs.Pigeonhole.{Reaches, once_each, all_different}
use Rattle.starters.specs.Pairs.{at, flipped, both, numbers, differences, sums, Alike, Listed, SamePairs}
use Rattle.starters.specs.Starters.{IsPair, Strong}
use Rattle.starters.specs.Claims.{NumbersRight, DifferencesRight, SumsRight}
use Rattle.starters.specs.declared.pair.Pair.{Pair}
use Rattle.starters.proofs.Likeness.{alike_both, no_twins_from_numbers}
use Rattle.starters.proofs.Places.{length_both, both_first, both_second, both_at, length-sums, sums_at}

-- where each of the numbers from 1 on stands once, no number from 1 on stands twice
pub different_from_once : (n : ℕ) (xs : List ℕ) → ((j : ℕ) → j < length xs → (0 < get_or xs j 0) × (get_or xs j 0 < n))
    → ((a : ℕ) → 0 < a → a < n → Once xs a) → Different xs
different_from_once n xs w once i j x y e =
    let o = once (get_or xs i 0) (w i x).0 (w i x).1 in
    o.alone i x refl ∙ sym (o.alone j y (sym e))

module _ (g : Table) (l : Laws g) where
  -- the differences of pairs are nonzero elements
  pub differences_within : (ps : List Pair) → ((k : ℕ) → k < length ps → IsPair g (at ps k))
      → (j : ℕ) → j < length (differences g ps) → (0 < get_or (differences g ps) j 0) × (get_or (differences g ps) j 0 < g.order)
  differences_within ps pairs j h =
      let f : Pair → ℕ = λ p. difference g p.first p.second in
      let b = both_at f ps j h in
      let p : Pair = at ps (j / 2) in
      let q = pairs (j / 2) b.0 in
      let within : (x y : ℕ) → x < g.order → y < g.order → x ≢ y → (0 < difference g x y) × (difference g x y < g.order) = λ x y hx hy ne.
      let z : difference g x y ≢ 0 = λ e. ne (difference_zero g l x y hx hy e) in
      (omega arith, difference_below g l x y hx hy) in
      let P : ℕ → Type 0 = λ v. (0 < v) × (v < g.order) in
      elim b.1 [
        | inl e ↦ subst P (sym e) (within p.first p.second q.first_below q.second_below q.two)
        | inr e ↦ subst P (sym e) (within p.second p.first q.second_below q.first_below (λ x. q.two (sym x)))
      ]

  numbers_within : (ps : List Pair) → ((k : ℕ) → k < length ps → IsPair g (at ps k))
      → (j : ℕ) → j < length (numbers ps) → (0 < get_or (numbers ps) j 0) × (get_or (numbers ps) j 0 < g.order)
  numbers_within ps pairs j h =
      let b = both_at (λ p. p.first) ps j h in
      let q = pairs (j / 2) b.0 in
      let P : ℕ → Type 0 = λ v. (0 < v) × (v < g.order) in
      elim b.1 [
        | inl e ↦ subst P (sym e) (q.first_nonzero, q.first_below)
        | inr e ↦ subst P (sym e) (q.second_nonzero, q.second_below)
      ]

  -- pairs of different numbers from 1 on
  pub pairs_from : (ps : List Pair) → NumbersRight g.order (numbers ps) → (k : ℕ) → k < length ps → IsPair g (at ps k)
  pairs_from ps r k h =
      let m = length_both (λ p. p.first) ps in
      let x : 2 * k < length (numbers ps) = omega arith in
      let y : 2 * k + 1 < length (numbers ps) = omega arith in
      let a = both_first (λ p. p.first) ps k h in
      let b = both_second (λ p. p.first) ps k h in
      record {
        first_nonzero = omega (arith, r.nonzero (2 * k) x);
        first_below = omega (arith, r.below (2 * k) x);
        second_nonzero = omega (arith, r.nonzero (2 * k + 1) y);
        second_below = omega (arith, r.below (2 * k + 1) y);
        two = λ e. omega (arith, r.different (2 * k) (2 * k + 1) x y (a ∙ e ∙ sym b));
      }

  -- the questions of a claim answered yes make a strong starter
  pub strong_from : (ps : List Pair) → length ps + length ps + 1 ≡ g.order → NumbersRight g.order (numbers ps)
      → DifferencesRight g ps → SumsRight g ps → Strong g ps
  strong_from ps size r d s =
      let pairs = pairs_from ps r in
      let m = length_both (λ p. p.first) ps in
      let k = length_both (λ p. difference g p.first p.second) ps in
      let n : ℕ = g.order - 1 in
      record {
        starter = record {
          size = size;
          pairs = pairs;
          each_number_once = λ a p h.
              once_each (numbers ps) n (omega arith) (λ j x. (r.nonzero j x, omega (arith, r.below j x))) r.different a p (omega arith);
          each_difference_once = λ a p h.
              once_each (differences g ps) n (omega arith)
              (λ j x. let w = differences_within ps pairs j x in (w.0, omega (arith, w.1))) d a p (omega arith);
        };
        sums_nonzero = s.nonzero;
        sums_different = s.different;
      }

  -- and a strong starter answers them yes
  pub numbers_right : (ps : List Pair) → Strong g ps → NumbersRight g.order (numbers ps)
  numbers_right ps s =
      let w = numbers_within ps s.starter.pairs in
      record {
        nonzero = λ j h. (w j h).0;
        below = λ j h. (w j h).1;
        different = different_from_once g.order (numbers ps) w s.starter.each_number_once;
      }

  pub differences_right : (ps : List Pair) → Strong g ps → DifferencesRight g ps
  differences_right ps s =
      different_from_once g.order (differences g ps) (differences_within ps s.starter.pairs) s.starter.each_difference_once

  pub sums_right : (ps : List Pair) → Strong g ps → SumsRight g ps
  sums_right ps s = record { nonzero = s.sums_nonzero; different = s.sums_different }

  -- a value of ps is a value of qs, where qs has the pairs of ps
  carried : (f : Pair → ℕ) (ps qs : List Pair) → ((k : ℕ) → k < length ps → Listed qs (at ps k))
      → (a : ℕ) → Once (both f ps) a → Reaches (λ j. get_or (both f qs) j 0) (length (both f qs)) a
  carried f ps qs listed a o =
      let j : ℕ = o.here in
      let b = both_at f ps j o.below in
      let p : Pair = at ps (j / 2) in
      let q = listed (j / 2) b.0 in
      let m = length_both f qs in
      let first = both_first f qs q.0 q.1 in
      let second = both_second f qs q.0 q.1 in
      let R : Type 0 = Reaches (λ i. get_or (both f qs) i 0) (length (both f qs)) a in
      let at_first : f (at qs q.0) ≡ a → R = λ e. (2 * q.0, omega (arith, q.1), first ∙ e) in
      let at_second : f (flipped (at qs q.0)) ≡ a → R = λ e. (2 * q.0 + 1, omega (arith, q.1), second ∙ e) in
      elim b.1 [
        | inl e ↦
            let v : f p ≡ a = sym e ∙ o.holds in
            elim q.2 [ inl same ↦ at_first (ap f same ∙ v) | inr turned ↦ at_second (ap (λ (x : Pair). f (flipped x)) turned ∙ v) ]
        | inr e ↦
            let v : f (flipped p) ≡ a = sym e ∙ o.holds in
            elim q.2 [ inl same ↦ at_second (ap (λ (x : Pair). f (flipped x)) same ∙ v) | inr turned ↦ at_first (ap f turned ∙ v) ]
      ]

  pair_flipped : (p : Pair) → IsPair g (flipped p) → IsPair g p
  pair_flipped p q = record {
    first_nonzero = q.second_nonzero;
    first_below = q.second_below;
    second_nonzero = q.first_nonzero;
    second_below = q.first_below;
    two = λ e. q.two (sym e);
  }

  -- qs has pairs of ps only
  module _ (ps qs : List Pair) (pairs : (k : ℕ) → k < length ps → IsPair g (at ps k)) (listed : (k : ℕ) → k < length qs → Listed ps (at qs k)) where
    pairs_again : (k : ℕ) → k < length qs → IsPair g (at qs k)
    pairs_again k h =
        let q = listed k h in
        let p = pairs q.0 q.1 in
        elim q.2 [ inl e ↦ subst (IsPair g) e p | inr e ↦ pair_flipped (at qs k) (subst (IsPair g) e p) ]

    -- a sum of qs is the sum of the pair of ps
    sum_again : (k : ℕ) (h : k < length qs) → get_or (sums g qs) k 0 ≡ get_or (sums g ps) (listed k h).0 0
    sum_again k h =
        let q = listed k h in
        let p = pairs_again k h in
        let f : Pair → ℕ = λ x. g.add x.first x.second in
        sums_at g qs k h
        ∙ elim q.2 [
          | inl e ↦ ap f (sym e)
          | inr e ↦ l.commutative (at qs k).first (at qs k).second p.first_below p.second_below ∙ ap f (sym e)
        ]
        ∙ sym (sums_at g ps q.0 q.1)

  -- the same pairs in another order, with either number first, are a strong starter again
  pub strong_again : (ps qs : List Pair) → Strong g ps → SamePairs ps qs → length qs ≡ length ps → Strong g qs
  strong_again ps qs s same e =
      let size = s.starter.size in
      let n : ℕ = g.order - 1 in
      let pairs = pairs_again ps qs s.starter.pairs same.1 in
      let first : Pair → ℕ = λ p. p.first in
      let apart : Pair → ℕ = λ p. difference g p.first p.second in
      let m = length_both first qs in
      let k = length_both apart qs in
      let w = numbers_within qs pairs in
      let numbers_different : Different (numbers qs) =
      all_different (numbers qs) n (omega arith) (λ a p h. carried first ps qs same.0 a (s.starter.each_number_once a p (omega arith))) in
      let differences_different : Different (differences g qs) =
      all_different (differences g qs) n (omega arith) (λ a p h. carried apart ps qs same.0 a (s.starter.each_difference_once a p (omega arith))) in
      let sum = sum_again ps qs s.starter.pairs same.1 in
      let sums_different : Different (sums g qs) = λ i j x y q.
      let ls = length-sums g qs in
      let lp = length-sums g ps in
      let hi : i < length qs = omega arith in
      let hj : j < length qs = omega arith in
      let one : (same.1 i hi).0 ≡ (same.1 j hj).0 =
      s.sums_different (same.1 i hi).0 (same.1 j hj).0 (omega (arith, (same.1 i hi).1)) (omega (arith, (same.1 j hj).1))
      (sym (sum i hi) ∙ q ∙ sum j hj) in
      let a = same.1 i hi in
      let b = same.1 j hj in
      no_twins_from_numbers qs numbers_different i j hi hj
      (alike_both (at qs i) (at qs j) (at ps b.0) (subst (λ (m : ℕ). Alike (at ps m) (at qs i)) one a.2) b.2) in
      strong_from qs (omega arith)
      (record { nonzero = λ j h. (w j h).0; below = λ j h. (w j h).1; different = numbers_different })
      differences_different
      (record {
        nonzero = λ j h. subst (λ (v : ℕ). 0 < v) (sym (sum j h)) (s.sums_nonzero (same.1 j h).0 (same.1 j h).1);
        different = sums_different;
      })

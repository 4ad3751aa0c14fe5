-- What stands at each place of the lists made from pairs. Assumes nothing.
use Rattle.std.proofs.Common.{◌≡◌, ℕ, zero, suc, ◌+◌, ◌*◌, ◌/◌, ◌%◌, ◌<◌, ◌⊎◌, List, [], ◌∷◌, ◌++◌, map, length, get_or, take, drop, sym, refl, ap, ◌∙◌, inl, inr, arith, lit<, append_assoc, zero-add}
use Rattle.std.proofs.lemmas.List.{get_or-map, length-map, get_or-take, get_or-drop, map-append, take_more}
use Rattle.std.specs.Simd.{first_chunks}
use Rattle.std.proofs.lemmas.Bool.{cases_eq}
use Rattle.groups.specs.Tables.{Table, counted}
use Rattle.groups.specs.Algebra.{counted_is}
use Rattle.starters.specs.Pairs.{nobody, at, flipped, both, sums, paired, numbers}
use Rattle.starters.specs.declared.pair.Pair.{Pair}

-- a place is that of a first number or that of a second
pub halved : (j : ℕ) → (j ≡ 2 * (j / 2)) ⊎ (j ≡ 2 * (j / 2) + 1)
halved j = elim (cases_eq (j % 2) 0) [ inl e ↦ inl (omega arith) | inr n ↦ inr (omega arith) ]

module _ (f : Pair → ℕ) where
  pub length_both : (ps : List Pair) → length (both f ps) ≡ 2 * length ps
  length_both [] = refl
  length_both (p ∷ ps) = omega (arith, length_both ps)

  pub both_first : (ps : List Pair) (k : ℕ) → k < length ps → get_or (both f ps) (2 * k) 0 ≡ f (at ps k)
  both_first [] k h = absurd (omega arith)
  both_first (p ∷ ps) zero h = refl
  both_first (p ∷ ps) (suc k) h =
      let e : 2 * suc k ≡ suc (suc (2 * k)) = omega arith in
      ap (λ (j : ℕ). get_or (both f (p ∷ ps)) j 0) e ∙ both_first ps k (omega arith)

  pub both_second : (ps : List Pair) (k : ℕ) → k < length ps → get_or (both f ps) (2 * k + 1) 0 ≡ f (flipped (at ps k))
  both_second [] k h = absurd (omega arith)
  both_second (p ∷ ps) zero h = refl
  both_second (p ∷ ps) (suc k) h =
      let e : 2 * suc k + 1 ≡ suc (suc (2 * k + 1)) = omega arith in
      ap (λ (j : ℕ). get_or (both f (p ∷ ps)) j 0) e ∙ both_second ps k (omega arith)

  -- the value at a place is that of its pair, or of its pair flipped
  pub both_at : (ps : List Pair) (j : ℕ) → j < length (both f ps)
      → (j / 2 < length ps) × ((get_or (both f ps) j 0 ≡ f (at ps (j / 2))) ⊎ (get_or (both f ps) j 0 ≡ f (flipped (at ps (j / 2)))))
  both_at ps j h =
      let l = length_both ps in
      let k : j / 2 < length ps = omega arith in (
        k,
        elim (halved j) [
          | inl e ↦ inl (ap (λ (i : ℕ). get_or (both f ps) i 0) e ∙ both_first ps (j / 2) k)
          | inr e ↦ inr (ap (λ (i : ℕ). get_or (both f ps) i 0) e ∙ both_second ps (j / 2) k)
        ],
      )

module _ (g : Table) where
  pub length-sums : (ps : List Pair) → length (sums g ps) ≡ length ps
  length-sums ps = length-map ps (λ p. g.add p.first p.second)

  pub sums_at : (ps : List Pair) (k : ℕ) → k < length ps → get_or (sums g ps) k 0 ≡ g.add (at ps k).first (at ps k).second
  sums_at ps k h = get_or-map (λ p. g.add p.first p.second) ps k nobody 0 h

pub length-paired : (bs : List ℕ) → length (paired bs) ≡ length bs / 2
length-paired [] = refl
length-paired (x ∷ []) = refl
length-paired (x ∷ (y ∷ bs)) = omega (arith, length-paired bs)

pub paired_at : (bs : List ℕ) (k : ℕ) → k < length bs / 2
    → at (paired bs) k ≡ record { first = get_or bs (2 * k) 0; second = get_or bs (2 * k + 1) 0 }
paired_at [] k h = absurd (omega arith)
paired_at (x ∷ []) k h = absurd (omega arith)
paired_at (x ∷ (y ∷ bs)) zero h = refl
paired_at (x ∷ (y ∷ bs)) (suc k) h =
    let a : 2 * suc k ≡ suc (suc (2 * k)) = omega arith in
    let b : 2 * suc k + 1 ≡ suc (suc (2 * k + 1)) = omega arith in
    let pair : ℕ → ℕ → Pair = λ i j. record { first = get_or (x ∷ (y ∷ bs)) i 0; second = get_or (x ∷ (y ∷ bs)) j 0 } in
    paired_at bs k (omega arith) ∙ sym (ap (λ (i : ℕ). pair i (2 * suc k + 1)) a ∙ ap (pair (suc (suc (2 * k)))) b)

-- bytes two by two and back
pub numbers-paired : (bs : List ℕ) → length bs % 2 ≡ 0 → numbers (paired bs) ≡ bs
numbers-paired [] e = refl
numbers-paired (x ∷ []) e = absurd (omega arith)
numbers-paired (x ∷ (y ∷ bs)) e = ap (λ (ys : List ℕ). x ∷ (y ∷ ys)) (numbers-paired bs (omega arith))

-- the numbers of a chunk of two
pub chunk_at : (bs : List ℕ) (m k i : ℕ) → k < m → i < 2 → get_or (get_or (first_chunks 2 m bs) k []) i 0 ≡ get_or bs (2 * k + i) 0
chunk_at bs zero k i h x = absurd (omega arith)
chunk_at bs (suc m) zero i h x = get_or-take 2 bs i 0 x ∙ sym (ap (λ (j : ℕ). get_or bs j 0) (zero-add i))
chunk_at bs (suc m) (suc k) i h x =
    let e : 2 + (2 * k + i) ≡ 2 * suc k + i = omega arith in
    chunk_at (drop 2 bs) m k i (omega arith) x ∙ get_or-drop 2 bs (2 * k + i) 0 ∙ ap (λ (j : ℕ). get_or bs j 0) e

-- one pair more of a list of one value for each pair
pub sums_more : (g : Table) (ps : List Pair) (k v : ℕ) (xs : List ℕ) → k < length ps → xs ≡ sums g (take k ps)
    → v ≡ g.add (at ps k).first (at ps k).second → xs ++ (v ∷ []) ≡ sums g (take (k + 1) ps)
sums_more g ps k v xs h e ev =
    let f : Pair → ℕ = λ p. g.add p.first p.second in
    rw (e, ev) (sym (ap (map f) (take_more ps k nobody h) ∙ map-append f (take k ps) (at ps k ∷ [])))

both-append : (f : Pair → ℕ) (ps qs : List Pair) → both f (ps ++ qs) ≡ both f ps ++ both f qs
both-append f [] qs = refl
both-append f (p ∷ ps) qs = ap (λ (ys : List ℕ). f p ∷ (f (flipped p) ∷ ys)) (both-append f ps qs)

-- and of a list of two values for each pair
pub both_more : (f : Pair → ℕ) (ps : List Pair) (k x y : ℕ) (xs : List ℕ) → k < length ps → xs ≡ both f (take k ps)
    → x ≡ f (at ps k) → y ≡ f (flipped (at ps k)) → (xs ++ (x ∷ [])) ++ (y ∷ []) ≡ both f (take (k + 1) ps)
both_more f ps k x y xs h e ex ey =
    rw (append_assoc, e, ex, ey) (sym (ap (both f) (take_more ps k nobody h) ∙ both-append f (take k ps) (at ps k ∷ [])))

-- the calls of a group on the numbers of a listed pair
module _ (g : Table) (bs : List ℕ) (below : (j : ℕ) → j < length bs → get_or bs j 0 < g.order) (k : ℕ) (h : k < length bs / 2) where
  -- the operand that stands at place i of the chunk of the pair
  operand : (i : ℕ) → i < 2 → counted g (get_or (get_or (first_chunks 2 (length bs / 2) bs) k []) i 0) ≡ get_or bs (2 * k + i) 0
  operand i x = ap (counted g) (chunk_at bs (length bs / 2) k i h x) ∙ counted_is g (get_or bs (2 * k + i) 0) (below (2 * k + i) (omega arith))

  pub counted_first : counted g (get_or (get_or (first_chunks 2 (length bs / 2) bs) k []) 0 0) ≡ (at (paired bs) k).first
  counted_first =
      let e : 2 * k + 0 ≡ 2 * k = omega arith in
      operand 0 (lit< tt) ∙ ap (λ (j : ℕ). get_or bs j 0) e ∙ sym (ap (λ (p : Pair). p.first) (paired_at bs k h))

  pub counted_second : counted g (get_or (get_or (first_chunks 2 (length bs / 2) bs) k []) 1 0) ≡ (at (paired bs) k).second
  counted_second = operand 1 (lit< tt) ∙ sym (ap (λ (p : Pair). p.second) (paired_at bs k h))

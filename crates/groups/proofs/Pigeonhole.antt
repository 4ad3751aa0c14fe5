-- Finite counting over a function f on the numbers below k. Assumes nothing.
--     Within f k m       the values of f below k are below m
--     OneToOne f k       f takes no value twice below k
--     Reaches f k v      f takes the value v below k
use Rattle.std.proofs.Common.{◌≡◌, ℕ, zero, suc, ◌+◌, ◌-◌, ◌<◌, ◌≤◌, true, false, true≢false, Bool, [], ◌∷◌, eqb, ◌≢◌, ◌⊎◌, List, length, get_or, sym, refl, ap, ◌∙◌, subst, inl, inr, arith}
use Rattle.std.proofs.lemmas.Bool.{cases_lt, cases_eq, eq-eqb, eqb-true, or_cases, or_parts, false_from_ne_true}
use Rattle.std.proofs.lemmas.Map.Steps.{length-le_from_distinct_below}
use Rattle.std.specs.List.{AllByRecursion, IsDistinct, list_any}
use Rattle.groups.specs.Numbers.{Once, Different, lowest}
use Rattle.groups.specs.Lowest.{lowest_least, lowest_passes}

abbrev pub Within : (ℕ → ℕ) → ℕ → ℕ → Type 0
Within f k m = (i : ℕ) → i < k → f i < m

abbrev pub OneToOne : (ℕ → ℕ) → ℕ → Type 0
OneToOne f k = (i j : ℕ) → i < k → j < k → f i ≡ f j → i ≡ j

abbrev pub Reaches : (ℕ → ℕ) → ℕ → ℕ → Type 0
Reaches f k v = (i : ℕ) × (i < k) × (f i ≡ v)

-- the values of f below k, that of the last place first
abbrev values : (ℕ → ℕ) → ℕ → List ℕ
values f zero = []
values f (suc k) = f k ∷ values f k

length-values : (f : ℕ → ℕ) (k : ℕ) → length (values f k) ≡ k
length-values f zero = refl
length-values f (suc k) = omega (arith, length-values f k)

reached : (f : ℕ → ℕ) (k v : ℕ) → list_any (eqb v) (values f k) ≡ true → Reaches f k v
reached f zero v h = absurd (true≢false (sym h))
reached f (suc k) v h =
    elim (or_cases (eqb v (f k)) (list_any (eqb v) (values f k)) h) [
      | inl e ↦ (k, omega arith, sym (eqb-true v (f k) e))
      | inr e ↦ let r = reached f k v e in (r.0, omega (arith, r.1), r.2)
    ]

absent : (v : ℕ) (xs : List ℕ) → list_any (eqb v) xs ≡ false → AllByRecursion (λ y. eqb v y ≡ false) xs
absent v [] h = tt
absent v (x ∷ xs) h = let parts = or_parts (eqb v x) (list_any (eqb v) xs) h in (parts.0, absent v xs parts.1)

one_more : (v : ℕ) (xs : List ℕ) → list_any (eqb v) xs ≡ false → IsDistinct eqb xs → IsDistinct eqb (v ∷ xs)
unfolding IsDistinct
one_more v xs h d = (absent v xs h, d)

distinct : (f : ℕ → ℕ) (k : ℕ) → OneToOne f k → IsDistinct eqb (values f k)
unfolding IsDistinct
distinct f zero o = tt
distinct f (suc k) o =
    let new = false_from_ne_true (list_any (eqb (f k)) (values f k))
    (λ t. let r = reached f k (f k) t in omega (arith, o r.0 k (omega (arith, r.1)) (omega arith) r.2, r.1)) in
    one_more (f k) (values f k) new (distinct f k (λ i j x y e. o i j (omega arith) (omega arith) e))

-- different values below m are at most m
pub at_most : (k m : ℕ) (f : ℕ → ℕ) → Within f k m → OneToOne f k → k ≤ m
at_most k m f w o =
    let few = length-le_from_distinct_below (values f k) m (distinct f k o)
    (λ v h. let r = reached f k v h in subst (λ (x : ℕ). x < m) r.2 (w r.0 r.1)) in
    omega (arith, few, length-values f k)

-- the same where a relation R gives each place a value: places with a common value are one place
module _ (k m : ℕ) (R : ℕ → ℕ → Type 0) (valued : (i : ℕ) → i < k → (v : ℕ) × (v < m) × R i v) where
  value : (i : ℕ) → (i < k) ⊎ (k ≤ i) → ℕ
  value i (inl h) = (valued i h).0
  value i (inr h) = 0

  value_related : (i : ℕ) → i < k → (s : (i < k) ⊎ (k ≤ i)) → (value i s < m) × R i (value i s)
  unfolding value
  value_related i h (inl x) = ((valued i x).1, (valued i x).2)
  value_related i h (inr x) = absurd (omega arith)

  pub at_most_by : ((i j v : ℕ) → i < k → j < k → R i v → R j v → i ≡ j) → k ≤ m
  at_most_by apart =
      let f : ℕ → ℕ = λ i. value i (cases_lt i k) in
      at_most k m f (λ i h. (value_related i h (cases_lt i k)).0)
      (λ i j x y e. apart i j (f i) x y (value_related i x (cases_lt i k)).1 (subst (R j) (sym e) (value_related j y (cases_lt j k)).1))

-- a value is reached or not
pub reaches_or_not : (f : ℕ → ℕ) (k v : ℕ) → Reaches f k v ⊎ (Reaches f k v → ⊥)
reaches_or_not f zero v = inr (λ r. omega (arith, r.1))
reaches_or_not f (suc k) v =
    elim (cases_eq (f k) v) [
      | inl e ↦ inl (k, omega arith, e)
      | inr n ↦
          elim (reaches_or_not f k v) [
            | inl r ↦ inl (r.0, omega (arith, r.1), r.2)
            | inr no_one ↦ inr (λ r.
                elim (cases_eq r.0 k) [
                  | inl last ↦ n (ap f (sym last) ∙ r.2)
                  | inr other ↦ no_one (r.0, omega (arith, r.1), r.2)
                ])
          ]
    ]

-- k different values below k are all of them: one more would be one too many
module _ (k : ℕ) (f : ℕ → ℕ) (within : Within f k k) (apart : OneToOne f k) (v : ℕ) (below : v < k) where
  below_all : (w : ℕ) → list_any (eqb w) (v ∷ values f k) ≡ true → w < k
  below_all w h =
      elim (or_cases (eqb w v) (list_any (eqb w) (values f k)) h) [
        | inl e ↦ omega (arith, eqb-true w v e)
        | inr e ↦ let r = reached f k w e in omega (arith, within r.0 r.1, r.2)
      ]

  reached_by : (b : Bool) → list_any (eqb v) (values f k) ≡ b → Reaches f k v
  reached_by true h = reached f k v h
  reached_by false h =
      let few = length-le_from_distinct_below (v ∷ values f k) k (one_more v (values f k) h (distinct f k apart)) below_all in
      absurd (omega (arith, few, length-values f k))

  pub reaches_all : Reaches f k v
  reaches_all = reached_by (list_any (eqb v) (values f k)) refl

-- n different numbers up to n, none of them u, are all numbers up to n but u
module _ (n u : ℕ) (f : ℕ → ℕ) (below : u ≤ n) (within : Within f n (suc n)) (never : (i : ℕ) → i < n → f i ≢ u)
    (apart : OneToOne f n) where
  -- u, and then the values of f
  abbrev led : ℕ → ℕ
  led zero = u
  led (suc i) = f i

  led_within : Within led (suc n) (suc n)
  led_within zero h = omega arith
  led_within (suc i) h = within i (omega arith)

  led_apart : OneToOne led (suc n)
  led_apart zero zero x y e = refl
  led_apart zero (suc j) x y e = absurd (never j (omega arith) (sym e))
  led_apart (suc i) zero x y e = absurd (never i (omega arith) e)
  led_apart (suc i) (suc j) x y e = ap suc (apart i j (omega arith) (omega arith) e)

  not_first : (w i : ℕ) → i < suc n → led i ≡ w → w ≢ u → Reaches f n w
  not_first w zero h e ne = absurd (ne (sym e))
  not_first w (suc i) h e ne = (i, omega arith, e)

  pub reaches_others : (w : ℕ) → w ≤ n → w ≢ u → Reaches f n w
  reaches_others w h ne =
      let r = reaches_all (suc n) led led_within led_apart w (omega arith) in
      not_first w r.0 r.1 r.2 ne

module _ (f : ℕ → ℕ) (k : ℕ) where
  -- the lowest place of a value
  abbrev place : ℕ → ℕ
  place v = lowest (λ i. eqb (f i) v) k 0

  place_below : (v : ℕ) → Reaches f k v → place v < k
  place_below v r =
      let least = lowest_least (λ i. eqb (f i) v) k 0 r.0 (omega arith) (omega (arith, r.1)) (eq-eqb (f r.0) v r.2) in
      omega (arith, r.1)

  place_is : (v : ℕ) → Reaches f k v → f (place v) ≡ v
  place_is v r = eqb-true (f (place v)) v (lowest_passes (λ i. eqb (f i) v) k 0 (omega (arith, place_below v r)))

  -- m values want m places
  pub at_least : (m : ℕ) → ((v : ℕ) → v < m → Reaches f k v) → m ≤ k
  at_least m r =
      at_most m k place (λ v x. place_below v (r v x)) (λ v w x y e. sym (place_is v (r v x)) ∙ ap f e ∙ place_is w (r w y))

  -- k values at k places are different
  pub one_to_one : ((v : ℕ) → v < k → Reaches f k v) → OneToOne f k
  one_to_one r i j x y e =
      let apart : OneToOne place k = λ v w hv hw p. sym (place_is v (r v hv)) ∙ ap f p ∙ place_is w (r w hw) in
      let all = reaches_all k place (λ v h. place_below v (r v h)) apart in
      let a = all i x in
      let b = all j y in
      let same : a.0 ≡ b.0 = sym (place_is a.0 (r a.0 a.1)) ∙ ap f a.2 ∙ e ∙ ap f (sym b.2) ∙ place_is b.0 (r b.0 b.1) in
      sym a.2 ∙ ap place same ∙ b.2

-- a number of a list of different numbers stands there once
pub once_at : (xs : List ℕ) (a k : ℕ) → k < length xs → get_or xs k 0 ≡ a → Different xs → Once xs a
once_at xs a k x e d = record { here = k; below = x; holds = e; alone = λ j y q. d j k y x (q ∙ sym e) }

-- m different numbers from 1 to m are all of them, each once
pub once_each : (xs : List ℕ) (m : ℕ) → length xs ≡ m
    → ((j : ℕ) → j < length xs → (0 < get_or xs j 0) × (get_or xs j 0 ≤ m)) → Different xs
    → (a : ℕ) → 0 < a → a ≤ m → Once xs a
once_each xs m e w d a p h =
    let f : ℕ → ℕ = λ j. get_or xs j 0 - 1 in
    let within : Within f m m = λ j x. let y : j < length xs = omega arith in omega (arith, (w j y).0, (w j y).1) in
    let apart : OneToOne f m = λ i j x y q.
    let xi : i < length xs = omega arith in
    let xj : j < length xs = omega arith in
    d i j xi xj (omega (arith, (w i xi).0, (w j xj).0)) in
    let r = reaches_all m f within apart (a - 1) (omega arith) in
    let below : r.0 < length xs = omega (arith, r.1) in
    once_at xs a r.0 below (omega (arith, r.2, (w r.0 below).0)) d

-- m places that hold each number from 1 to m hold different numbers
pub all_different : (xs : List ℕ) (m : ℕ) → length xs ≡ m
    → ((a : ℕ) → 0 < a → a ≤ m → Reaches (λ j. get_or xs j 0) (length xs) a) → Different xs
all_different xs m e r i j x y q =
    let f : ℕ → ℕ = λ k. get_or xs k 0 - 1 in
    let all : (v : ℕ) → v < m → Reaches f m v = λ v h.
    let z = r (v + 1) (omega arith) (omega arith) in
    (z.0, omega (arith, z.1), omega (arith, z.2)) in
    one_to_one f m all i j (omega arith) (omega arith) (ap (λ (n : ℕ). n - 1) q)

-- Lemmas: what follows from the laws of a table alone. Assumes nothing.
--     counted_..          the number that an operand stands for is an element, and an element stands for itself
--     cancel_..           equal sums with one equal part have equal other parts
--     opposite_..         each element has one opposite
--     difference_..       a − b is the one element that added to b gives a
--     translate_..        the translation by r takes u − r to u, and nothing else to u
--     reflection_cancel   the reflection a ↦ c − a is one-to-one
use Rattle.std.specs.Prelude.{◌≡◌, ℕ, ◌<◌, nat_eq, nat_lt}
use Rattle.std.proofs.Common.{inl, inr, sym, ◌∙◌, ap, subst, arith}
use Rattle.std.proofs.lemmas.Bool.{cases_Bool, ltb-true, lt-ltb, eq-eqb, eqb-true}
use Rattle.groups.specs.Tables.{Table, Laws, Opposite, counted, opposite, difference}
use Rattle.groups.specs.Lowest.{lowest_only}

pub counted_below : (g : Table) (a : ℕ) → 0 < g.order → counted g a < g.order
counted_below g a p =
    elim (cases_Bool (nat_lt a g.order)) [ inl t ↦ simp t (ltb-true a g.order t) | inr f ↦ simp f p ]

pub counted_is : (g : Table) (a : ℕ) → a < g.order → counted g a ≡ a
counted_is g a h = simp (lt-ltb a g.order h)

-- what sum answers of two elements
pub sum_of_elements : (g : Table) (a b c : ℕ) → a < g.order → b < g.order → c ≡ g.add (counted g a) (counted g b) → c ≡ g.add a b
sum_of_elements g a b c x y e = e ∙ ap (λ (s : ℕ). g.add s (counted g b)) (counted_is g a x) ∙ ap (g.add a) (counted_is g b y)

module _ (g : Table) (l : Laws g) where
  pub some : 0 < g.order
  some = omega (arith, l.odd_order.1)

  pub add_zero : (a : ℕ) → a < g.order → g.add a 0 ≡ a
  add_zero a x = l.commutative a 0 x some ∙ l.neutral a x

  pub cancel_left : (a b c : ℕ) → a < g.order → b < g.order → c < g.order → g.add a b ≡ g.add a c → b ≡ c
  cancel_left a b c x y z e =
      let o = l.has_opposite a x in
      let back : (d : ℕ) → d < g.order → g.add o.0 (g.add a d) ≡ d = λ d h.
      sym (l.associative o.0 a d o.1 x h)
      ∙ ap (λ (s : ℕ). g.add s d) (l.commutative o.0 a o.1 x ∙ o.2)
      ∙ l.neutral d h in
      sym (back b y) ∙ ap (g.add o.0) e ∙ back c z

  pub cancel_right : (a b c : ℕ) → a < g.order → b < g.order → c < g.order → g.add b a ≡ g.add c a → b ≡ c
  cancel_right a b c x y z e = cancel_left a b c x y z (l.commutative a b x y ∙ e ∙ l.commutative c a z x)

  -- an opposite is the opposite
  pub opposite_is : (a b : ℕ) → a < g.order → Opposite g a b → opposite g a ≡ b
  opposite_is a b x o =
      lowest_only (λ c. nat_eq (g.add a c) 0) g.order 0 b (omega arith) (omega (arith, o.0)) (eq-eqb (g.add a b) 0 o.1)
      (λ c t h. cancel_left a c b x (omega arith) o.0 (eqb-true (g.add a c) 0 t ∙ sym o.1))

  pub opposite_opposes : (a : ℕ) → a < g.order → Opposite g a (opposite g a)
  opposite_opposes a x =
      let o = l.has_opposite a x in
      subst (Opposite g a) (sym (opposite_is a o.0 x (o.1, o.2))) (o.1, o.2)

  pub difference_below : (a b : ℕ) → a < g.order → b < g.order → difference g a b < g.order
  difference_below a b x y = l.closed a (opposite g b) x (opposite_opposes b y).0

  -- a − b added to b gives a
  pub difference_adds : (a b : ℕ) → a < g.order → b < g.order → g.add b (difference g a b) ≡ a
  difference_adds a b x y =
      let o = opposite_opposes b y in
      ap (g.add b) (l.commutative a (opposite g b) x o.0)
      ∙ sym (l.associative b (opposite g b) a y o.0 x)
      ∙ ap (λ (s : ℕ). g.add s a) o.1
      ∙ l.neutral a x

  -- only a − b does
  pub difference_only : (a b d : ℕ) → a < g.order → b < g.order → d < g.order → g.add b d ≡ a → d ≡ difference g a b
  difference_only a b d x y z e = cancel_left b d (difference g a b) y z (difference_below a b x y) (e ∙ sym (difference_adds a b x y))

  -- different numbers have a nonzero difference
  pub difference_zero : (a b : ℕ) → a < g.order → b < g.order → difference g a b ≡ 0 → a ≡ b
  difference_zero a b x y e = sym (difference_adds a b x y) ∙ ap (g.add b) e ∙ add_zero b y

  -- the translation by r takes u − r to u, and nothing else to u
  pub translate_back : (u r : ℕ) → u < g.order → r < g.order → g.add (difference g u r) r ≡ u
  translate_back u r x y = l.commutative (difference g u r) r (difference_below u r x y) y ∙ difference_adds u r x y

  pub translate_only : (u r x : ℕ) → u < g.order → r < g.order → x < g.order → g.add x r ≡ u → x ≡ difference g u r
  translate_only u r x hu hr hx e = difference_only u r x hu hr hx (l.commutative r x hr hx ∙ e)

  -- the reflection a ↦ c − a is one-to-one
  pub reflection_cancel : (c a b : ℕ) → c < g.order → a < g.order → b < g.order → difference g c a ≡ difference g c b → a ≡ b
  reflection_cancel c a b x y z e =
      let d : ℕ = difference g c a in
      cancel_right d a b (difference_below c a x y) y z
      (difference_adds c a x y ∙ sym (difference_adds c b x z) ∙ ap (g.add b) (sym e))

  -- a − b by the calls of a group: c is what opposite answers of b, and d what sum answers of a and c
  pub difference_by_calls : (a b c d : ℕ) → Opposite g (counted g b) c → d ≡ g.add (counted g a) (counted g c)
      → d ≡ difference g (counted g a) (counted g b)
  difference_by_calls a b c d o e =
      e ∙ ap (g.add (counted g a)) (counted_is g c o.0 ∙ sym (opposite_is (counted g b) c (counted_below g b some) o))

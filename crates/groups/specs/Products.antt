-- Lemmas: the product of two lawful tables keeps the laws. Assumes nothing.
--     upper, lower        the parts of an element are elements of the two groups
--     parts_..            the table of the parts keeps the laws, and what is opposite there
--     product_within      up to order 127 a product is the table of its parts
--     product_past        past 127 it is its second group
--     product_laws        either way it keeps the laws
use Rattle.std.specs.Prelude.{◌≡◌, ℕ, ◌+◌, ◌*◌, ◌/◌, ◌%◌, ◌<◌, ◌≤◌, nat_le}
use Rattle.std.proofs.Common.{inl, inr, sym, ◌∙◌, ap, subst, mod-lt, mod-eq_of_lt, add-mul, mul_assoc, arith}
use Rattle.std.proofs.Math.Nat.{div-eq_of_lt, mul-add-mod_self_left}
use Rattle.std.proofs.Math.Arith.{digits_lt, digits_div, digits_mod}
use Rattle.std.proofs.lemmas.Nat.{div_below, div-add-mod', mul-le}
use Rattle.std.proofs.lemmas.Bool.{cases_lt, le-leb, lt-leb, cond-true, cond-false}
use Rattle.groups.specs.Tables.{Table, Laws, Opposite, parts, product}

-- odd times odd is odd
odd_mul : (a b : ℕ) → a % 2 ≡ 1 → b % 2 ≡ 1 → (a * b) % 2 ≡ 1
odd_mul a b x y =
    let q : ℕ = a / 2 in
    let e : a ≡ 2 * q + 1 = omega arith in
    let d : a * b ≡ 2 * (q * b) + b = ap (λ (s : ℕ). s * b) e ∙ add-mul (2 * q) 1 b ∙ omega (arith, mul_assoc 2 q b) in
    ap (λ (s : ℕ). s % 2) d ∙ mul-add-mod_self_left 2 (q * b) b ∙ y

module _ (g h : Table) (lg : Laws g) (lh : Laws h) where
  some : 0 < h.order
  some = omega (arith, lh.odd_order.1)

  -- the parts of a number are numbers of the two groups
  pub upper : (a : ℕ) → a < g.order * h.order → a / h.order < g.order
  upper a x = div_below a h.order g.order some x

  pub lower : (a : ℕ) → a % h.order < h.order
  lower a = mod-lt a some

  pub parts_opposite : (a p q : ℕ) → a < g.order * h.order → Opposite g (a / h.order) p → Opposite h (a % h.order) q
      → Opposite (parts g h) a (p * h.order + q)
  parts_opposite a p q x op oq =
      let k : ℕ = h.order in (
        digits_lt op.0 oq.0,
        ap (λ (s : ℕ). g.add (a / k) s * k + h.add (a % k) ((p * k + q) % k)) (digits_div p oq.0)
            ∙ ap (λ (s : ℕ). g.add (a / k) p * k + h.add (a % k) s) (digits_mod p oq.0)
            ∙ ap (λ (s : ℕ). s * k + h.add (a % k) q) op.1
            ∙ ap (λ (s : ℕ). 0 * k + s) oq.1
            ∙ omega arith,
      )

  pub parts_laws : g.order * h.order ≤ 127 → Laws (parts g h)
  parts_laws most =
      let n : ℕ = g.order in
      let k : ℕ = h.order in
      let add : ℕ → ℕ → ℕ = (parts g h).add in
      record {
        odd_order = (odd_mul n k lg.odd_order.0 lh.odd_order.0, mul-le 3 1 n k lg.odd_order.1 some, most);
        closed = λ a b x y. digits_lt (lg.closed (a / k) (b / k) (upper a x) (upper b y)) (lh.closed (a % k) (b % k) (lower a) (lower b));
        commutative = λ a b x y.
            ap (λ (s : ℕ). s * k + h.add (a % k) (b % k)) (lg.commutative (a / k) (b / k) (upper a x) (upper b y))
            ∙ ap (λ (s : ℕ). g.add (b / k) (a / k) * k + s) (lh.commutative (a % k) (b % k) (lower a) (lower b));
        associative = λ a b c x y z.
            let first = lh.closed (a % k) (b % k) (lower a) (lower b) in
            let second = lh.closed (b % k) (c % k) (lower b) (lower c) in
            let e1 = digits_div (g.add (a / k) (b / k)) first in
            let e2 = digits_mod (g.add (a / k) (b / k)) first in
            let e3 = digits_div (g.add (b / k) (c / k)) second in
            let e4 = digits_mod (g.add (b / k) (c / k)) second in
            let up = lg.associative (a / k) (b / k) (c / k) (upper a x) (upper b y) (upper c z) in
            let low = lh.associative (a % k) (b % k) (c % k) (lower a) (lower b) (lower c) in
            cc;
        neutral = λ a x.
            let up = lg.neutral (a / k) (upper a x) in
            let low = lh.neutral (a % k) (lower a) in
            let e1 = div-eq_of_lt some in
            let e2 = mod-eq_of_lt some in
            let e3 = div-add-mod' a k in
            cc;
        has_opposite = λ a x.
            let p = lg.has_opposite (a / k) (upper a x) in
            let q = lh.has_opposite (a % k) (lower a) in
            let o = parts_opposite a p.0 q.0 x (p.1, p.2) (q.1, q.2) in
            (p.0 * k + q.0, o.0, o.1);
      }

  -- within the bound a product is the table of its parts, past it that of its second group
  pub product_within : g.order * h.order ≤ 127 → product g h ≡ parts g h
  product_within most = cond-true (nat_le (g.order * h.order) 127) (parts g h) h (le-leb (g.order * h.order) 127 most)

  pub product_past : 127 < g.order * h.order → product g h ≡ h
  product_past more = cond-false (nat_le (g.order * h.order) 127) (parts g h) h (lt-leb (g.order * h.order) 127 more)

  pub product_laws : Laws (product g h)
  product_laws =
      elim (cases_lt 127 (g.order * h.order)) [
        | inl more ↦ subst Laws (sym (product_past more)) lh
        | inr most ↦ subst Laws (sym (product_within most)) (parts_laws most)
      ]

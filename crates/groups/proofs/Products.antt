-- What the calls of the two groups of a product answer, put together, is what the product answers. Assumes nothing.
--     product_sum         of their sums
--     product_opposite    of their opposites
use Rattle.std.proofs.Common.{◌≡◌, ℕ, ◌+◌, ◌*◌, ◌/◌, ◌%◌, ◌<◌, ◌≤◌, cond, nat_lt, sym, ◌∙◌, ap, subst, arith}
use Rattle.groups.specs.Algebra.{some as some_of, counted_is, counted_below}
use Rattle.groups.specs.Products.{upper, lower, parts_opposite, parts_laws, product_within}
use Rattle.groups.specs.Tables.{Table, Laws, Opposite, counted, parts, product}

-- Here n is the order of the product and k that of the second group, and A and B are the operands as they count.
module _ (g h : Table) (lg : Laws g) (lh : Laws h) (n k : ℕ) (en : n ≡ g.order * h.order) (ek : k ≡ h.order) (fits : n ≤ 127) where
  most : g.order * h.order ≤ 127
  most = rw en at fits

  operand : (a A : ℕ) → A ≡ cond (nat_lt a n) a 0 → A ≡ counted (parts g h) a
  operand a A e = cc

  operand_below : (a A : ℕ) → A ≡ cond (nat_lt a n) a 0 → A < g.order * h.order
  operand_below a A e =
      subst (λ (s : ℕ). s < g.order * h.order) (sym (operand a A e)) (counted_below (parts g h) a (some_of (parts g h) (parts_laws g h lg lh most)))

  pub product_sum : (a b A B p q : ℕ) → A ≡ cond (nat_lt a n) a 0 → B ≡ cond (nat_lt b n) b 0
      → p ≡ g.add (counted g (A / k)) (counted g (B / k)) → q ≡ h.add (counted h (A % k)) (counted h (B % k))
      → (p * k + q < 128) × (p * k + q ≡ (product g h).add (counted (product g h) a) (counted (product g h) b))
  product_sum a b A B p q eA eB ep eq =
      let x = operand_below a A eA in
      let y = operand_below b B eB in
      let oA = operand a A eA in
      let oB = operand b B eB in
      let c1 = counted_is g (A / h.order) (upper g h lg lh A x) in
      let c2 = counted_is g (B / h.order) (upper g h lg lh B y) in
      let c3 = counted_is h (A % h.order) (lower g h lg lh A) in
      let c4 = counted_is h (B % h.order) (lower g h lg lh B) in
      let joined : p * k + q ≡ (parts g h).add A B = cc in
      let small = (parts_laws g h lg lh most).closed A B x y in
      let all = most in (
        omega arith,
        joined
            ∙ ap (λ (s : ℕ). (parts g h).add s B) oA ∙ ap (λ (s : ℕ). (parts g h).add (counted (parts g h) a) s) oB
            ∙ ap (λ (t : Table). t.add (counted t a) (counted t b)) (sym (product_within g h lg lh most)),
      )

  pub product_opposite : (a A p q : ℕ) → A ≡ cond (nat_lt a n) a 0
      → Opposite g (counted g (A / k)) p → Opposite h (counted h (A % k)) q
      → (p * k + q < 128) × Opposite (product g h) (counted (product g h) a) (p * k + q)
  product_opposite a A p q eA op oq =
      let x = operand_below a A eA in
      let c1 : counted g (A / k) ≡ A / h.order = ap (λ (s : ℕ). counted g (A / s)) ek ∙ counted_is g (A / h.order) (upper g h lg lh A x) in
      let c2 : counted h (A % k) ≡ A % h.order = ap (λ (s : ℕ). counted h (A % s)) ek ∙ counted_is h (A % h.order) (lower g h lg lh A) in
      let o : Opposite (parts g h) A (p * k + q) =
      subst (λ (s : ℕ). Opposite (parts g h) A (p * s + q)) (sym ek)
      (parts_opposite g h lg lh A p q x (subst (λ (s : ℕ). Opposite g s p) c1 op) (subst (λ (s : ℕ). Opposite h s q) c2 oq)) in
      let small = o.0 in
      let all = most in (
        omega arith,
        subst (λ (t : Table). Opposite t (counted t a) (p * k + q)) (sym (product_within g h lg lh most))
            (subst (λ (s : ℕ). Opposite (parts g h) s (p * k + q)) (operand a A eA) o),
      )

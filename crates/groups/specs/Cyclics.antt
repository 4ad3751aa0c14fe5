-- Lemmas: the cyclic tables keep the laws. Assumes nothing.
--     cyclic_opposite     n − a, taken modulo n, is the opposite of a
--     cyclic_laws         the cyclic table of an order that is made keeps the laws
use Rattle.std.proofs.Common.{sym, ◌∙◌, ap, add_comm, add_assoc, zero-add, mod-lt, mod-eq_of_lt, arith}
use Rattle.std.specs.Prelude.{◌≡◌, ℕ, ◌+◌, ◌-◌, ◌%◌, ◌<◌}
use Rattle.std.proofs.Math.Nat.{mod-add-mod, mod_self}
use Rattle.groups.specs.Tables.{Laws, OddOrder, Opposite, cyclic}

-- a remainder on the right of a sum
mod_right : (n a b : ℕ) → (a + b % n) % n ≡ (a + b) % n
mod_right n a b = ap (λ (x : ℕ). x % n) (add_comm a (b % n)) ∙ mod-add-mod b n a ∙ ap (λ (x : ℕ). x % n) (add_comm b a)

pub cyclic_opposite : (n a : ℕ) → a < n → Opposite (cyclic n) a ((n - a) % n)
cyclic_opposite n a h =
    let p : 0 < n = omega arith in
    let s : a + (n - a) ≡ n = omega arith in
    (mod-lt (n - a) p, mod_right n a (n - a) ∙ ap (λ (x : ℕ). x % n) s ∙ mod_self n)

pub cyclic_laws : (n : ℕ) → OddOrder n → Laws (cyclic n)
cyclic_laws n o =
    let p : 0 < n = omega (arith, o.1) in
    record {
      odd_order = o;
      closed = λ a b x y. mod-lt (a + b) p;
      commutative = λ a b x y. ap (λ (s : ℕ). s % n) (add_comm a b);
      associative = λ a b c x y z. mod-add-mod (a + b) n c ∙ ap (λ (s : ℕ). s % n) (add_assoc a b c) ∙ sym (mod_right n a (b + c));
      neutral = λ a x. ap (λ (s : ℕ). s % n) (zero-add a) ∙ mod-eq_of_lt x;
      has_opposite = λ a x. let q = cyclic_opposite n a x in ((n - a) % n, q.0, q.1);
    }

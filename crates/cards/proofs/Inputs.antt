-- Inputs that are not of the form. Assumes nothing.
use Rattle.std.proofs.Common.{◌≡◌, ℕ, List, Some, None, Option, sym, ap, ◌∙◌, subst, arith}
use Rattle.input.specs.Lines.{FirstLine, LastLine}
use Rattle.input.specs.Read.{orders_of, numbers_of}
use Rattle.input.specs.declared.orders.Orders.{Orders}
use Rattle.input.proofs.Cut.{first_line_once, last_line_once}
use Rattle.cards.specs.Answers.{Typed}

none_some : {X : Type 0} (o : Option X) (x : X) → o ≡ None → o ≡ Some x → ⊥
none_some o x e f = let z : ◌≡◌ {A = ℕ} 0 1 = cc in omega arith

module _ (input first rest : List ℕ) (o : Orders) (bs : List ℕ) (f : FirstLine input first rest) (t : Typed input o bs) where
  same_first : (t.first ≡ first) × (t.rest ≡ rest)
  same_first = first_line_once input t.first first t.rest rest t.first_line f

  pub no_last : ((w : List ℕ) → LastLine rest w → ⊥) → ⊥
  no_last none = none t.second (subst (λ (xs : List ℕ). LastLine xs t.second) same_first.1 t.last_line)

  pub no_orders : orders_of first ≡ None → ⊥
  no_orders e = none_some (orders_of first) o e (ap orders_of (sym same_first.0) ∙ t.orders)

  pub no_numbers : (second : List ℕ) → LastLine rest second → numbers_of second ≡ None → ⊥
  no_numbers second l e =
      let same : t.second ≡ second =
      last_line_once rest t.second second (subst (λ (xs : List ℕ). LastLine xs t.second) same_first.1 t.last_line) l in
      none_some (numbers_of second) bs e (ap numbers_of (sym same) ∙ t.numbers)

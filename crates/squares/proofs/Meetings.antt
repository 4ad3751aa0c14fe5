-- The pairs of a strong starter, and the teams that a round moves their numbers to. Assumes nothing.
use Rattle.std.proofs.Common.{◌≡◌, ℕ, ◌/◌, ◌<◌, ◌⊎◌, List, length, sym, ap, ◌∙◌, inl, inr}
use Rattle.groups.specs.Tables.{Table, Laws}
use Rattle.starters.specs.Pairs.{at, Alike}
use Rattle.starters.specs.Starters.{Strong}
use Rattle.starters.specs.declared.pair.Pair.{Pair}
use Rattle.starters.proofs.Places.{both_at}

-- the pair p has a number that round r moves to the team u
abbrev pub Moved : Table → (r u : ℕ) → Pair → Type 0
Moved g r u p = (g.add p.first r ≡ u) ⊎ (g.add p.second r ≡ u)

module _ (g : Table) (l : Laws g) (ps : List Pair) (s : Strong g ps) where
  -- each nonzero number stands in a pair, with another number
  pub holder : (z : ℕ) → 0 < z → z < g.order → (k : ℕ) × (k < length ps) × ((o : ℕ) × Alike (at ps k) (record { first = z; second = o }))
  holder z some-z below =
      let o = s.starter.each_number_once z some-z below in
      let b = both_at (λ p. p.first) ps o.here o.below in
      let k : ℕ = o.here / 2 in
      elim b.1 [
        | inl e ↦
            let first : (at ps k).first ≡ z = sym e ∙ o.holds in
            (k, b.0, ((at ps k).second, inl (ap (λ (x : ℕ). record { first = x; second = (at ps k).second }) first)))
        | inr e ↦
            let second : (at ps k).second ≡ z = sym e ∙ o.holds in
            (k, b.0, ((at ps k).first, inr (ap (λ (x : ℕ). record { first = (at ps k).first; second = x }) second)))
      ]

  -- sums of three elements
  pub assoc_swap : (a b r : ℕ) → a < g.order → b < g.order → r < g.order → g.add (g.add a r) b ≡ g.add r (g.add a b)
  assoc_swap a b r ha hb hr = rw (l.commutative a r ha hr) (l.associative r a b hr ha hb)

  pub assoc_swap' : (a b r : ℕ) → a < g.order → b < g.order → r < g.order → g.add (g.add b r) a ≡ g.add r (g.add a b)
  assoc_swap' a b r ha hb hr = assoc_swap b a r hb ha hr ∙ ap (g.add r) (l.commutative b a hb ha)

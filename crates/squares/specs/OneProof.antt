-- That a starter is strong has one proof at most, so that a value can keep the fact. Assumes nothing.
--     OnlyOne-prop        a lemma: one proof at most that exactly one number has a property
--     Strong-prop         a lemma: one proof at most that a list of pairs is a strong starter
use Rattle.std.specs.Prelude.{◌≡◌, ℕ, ◌<◌, List}
use Rattle.std.specs.Coded.{le_prop, Π_prop, →_prop, Coded-set, coded_ℕ}
use Rattle.groups.specs.Numbers.{OnlyOne}
use Rattle.groups.specs.Tables.{Table}
use Rattle.starters.specs.Starters.{Strong}
use Rattle.starters.specs.declared.pair.Pair.{Pair}
use mathlib.Core.HLevel.{is_prop→PathP}

pub OnlyOne-prop : (m : ℕ) (P : ℕ → Type 0) → ((k : ℕ) → IsProp (P k)) → IsProp (OnlyOne m P)
OnlyOne-prop m P one x y =
    let same : x.here ≡ y.here = y.alone x.here x.below x.holds in
    λ i. record {
      here = same i;
      below = is_prop→PathP (λ j. same j < m) (λ j. le_prop) x.below y.below i;
      holds = is_prop→PathP (λ j. P (same j)) (λ j. one (same j)) x.holds y.holds i;
      alone = is_prop→PathP (λ j. (k : ℕ) → k < m → P k → k ≡ same j)
          (λ j. Π_prop (λ k. →_prop (→_prop (Coded-set coded_ℕ k (same j))))) x.alone y.alone i;
    }

pub Strong-prop : (g : Table) (ps : List Pair) → IsProp (Strong g ps)
Strong-prop g ps = Prim.hlevel (le_prop, Coded-set coded_ℕ, OnlyOne-prop)

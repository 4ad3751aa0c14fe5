-- The teams of an open round, and how many they are. Assumes nothing.
--     Stands xs u               the number u stands in the list xs
--     Before ms k               the rounds of the meetings ms are below k
--     Playing n r ms teams      the teams are different and at most n, and are those that play in round r of the meetings ms
use Rattle.std.proofs.Common.{◌≡◌, ℕ, zero, suc, ◌+◌, ◌<◌, ◌≤◌, true, false, eqb, ◌⊎◌, List, [], ◌∷◌, length, get_or, sym, refl, ap, inl, inr, arith}
use Rattle.std.proofs.lemmas.Bool.{and_parts, and_from, or_cases, or_left, or_right, both_ways, eq-eqb, eqb-true}
use Rattle.groups.specs.Numbers.{Different}
use Rattle.groups.proofs.Pigeonhole.{Within, Reaches, at_most, at_least}
use Rattle.squares.specs.Cells.{meet, plays}
use Rattle.sheets.specs.Judgements.{everyone}
use Rattle.sheets.specs.Meetings.{Meeting, Among, any, in_round}
use Rattle.sheets.proofs.Among.{any_found}
use Rattle.sheets.proofs.Everyone.{everyone_passes}

abbrev pub Stands : List ℕ → ℕ → Type 0
Stands xs u = Reaches (λ j. get_or xs j 0) (length xs) u

module _ (x : ℕ) (xs : List ℕ) where
  stands_later : (u : ℕ) → Stands xs u → Stands (x ∷ xs) u
  stands_later u s = (suc s.0, omega (arith, s.1), s.2)

  stands_cases : (u : ℕ) → Stands (x ∷ xs) u → (x ≡ u) ⊎ Stands xs u
  stands_cases u (zero, h, e) = inl e
  stands_cases u (suc j, h, e) = inr (j, omega arith, e)

  different_more : (Stands xs x → ⊥) → Different xs → Different (x ∷ xs)
  different_more new d zero zero hj hk e = refl
  different_more new d zero (suc k) hj hk e = absurd (new (k, omega arith, sym e))
  different_more new d (suc j) zero hj hk e = absurd (new (j, omega arith, e))
  different_more new d (suc j) (suc k) hj hk e = ap suc (d j k (omega arith) (omega arith) e)

abbrev pub Before : List Meeting → ℕ → Type 0
Before ms k = (m : Meeting) → Among ms m → m.round < k

pub record Playing (n r : ℕ) (ms : List Meeting) (teams : List ℕ) : Type 0 where
  pub different : Different teams
  pub below : (u : ℕ) → Stands teams u → u ≤ n
  pub found : (u : ℕ) → any (in_round r u) ms ≡ true → Stands teams u
  pub noted : (u : ℕ) → Stands teams u → any (in_round r u) ms ≡ true

-- no team plays in a round that is above those of the meetings
pub nobody_plays : (n r : ℕ) (ms : List Meeting) → Before ms r → Playing n r ms []
nobody_plays n r ms before =
    record {
      different = λ j k hj hk e. absurd (omega arith);
      below = λ u s. absurd (omega (arith, s.1));
      found = λ u t.
          let f = any_found (in_round r u) ms t in
          let same : f.0.round ≡ r = eqb-true f.0.round r (and_parts _ _ f.2).0 in
          absurd (omega (arith, before f.0 f.1));
      noted = λ u s. absurd (omega (arith, s.1));
    }

module _ (n r : ℕ) (ms : List Meeting) (teams : List ℕ) (p : Playing n r ms teams) where
  -- after one meeting more of the round
  pub two_more_play : (m : Meeting) → m.round ≡ r → m.lower < m.higher → m.higher ≤ n
      → any (in_round r m.lower) ms ≡ false → any (in_round r m.higher) ms ≡ false
      → Playing n r (m ∷ ms) (m.higher ∷ m.lower ∷ teams)
  two_more_play m here rising top lower_new higher_new =
      let a : ℕ = m.lower in
      let b : ℕ = m.higher in
      let a_new : Stands teams a → ⊥ = λ s. both_ways _ lower_new (p.noted a s) in
      let b_new : Stands (a ∷ teams) b → ⊥ = λ s.
      elim (stands_cases a teams b s) [
        | inl e ↦ absurd (omega arith)
        | inr t ↦ both_ways _ higher_new (p.noted b t)
      ] in
      let meets : (u : ℕ) → plays u (meet a b) ≡ true → any (in_round r u) (m ∷ ms) ≡ true = λ u t.
      or_left _ (any (in_round r u) ms) (and_from _ _ (eq-eqb m.round r here) t) in
      let cases : (u : ℕ) → Stands (b ∷ a ∷ teams) u → (b ≡ u) ⊎ ((a ≡ u) ⊎ Stands teams u) = λ u s.
      elim (stands_cases b (a ∷ teams) u s) [
        | inl e ↦ inl e
        | inr t ↦ inr (stands_cases a teams u t)
      ] in
      record {
        different = different_more b (a ∷ teams) b_new (different_more a teams a_new p.different);
        below = λ u s.
            elim (cases u s) [
              | inl e ↦ omega arith
              | inr (inl e) ↦ omega arith
              | inr (inr t) ↦ p.below u t
            ];
        found = λ u t.
            elim (or_cases (in_round r u m) (any (in_round r u) ms) t) [
              | inl now ↦
                  elim (or_cases (eqb a u) (eqb b u) (and_parts _ _ now).1) [
                    | inl e ↦ (1, omega arith, eqb-true a u e)
                    | inr e ↦ (0, omega arith, eqb-true b u e)
                  ]
              | inr earlier ↦ stands_later b (a ∷ teams) u (stands_later a teams u (p.found u earlier))
            ];
        noted = λ u s.
            elim (cases u s) [
              | inl e ↦ meets u (or_right (eqb a u) (eqb b u) (eq-eqb b u e))
              | inr (inl e) ↦ meets u (or_left (eqb a u) (eqb b u) (eq-eqb a u e))
              | inr (inr t) ↦ or_right (in_round r u m) _ (p.noted u t)
            ];
      }

  -- at most the teams 0 to n
  pub few_play : length teams ≤ n + 1
  few_play =
      let f : ℕ → ℕ = λ j. get_or teams j 0 in
      let within : Within f (length teams) (suc n) = λ j h. omega (arith, p.below (f j) (j, h, refl)) in
      omega (arith, at_most (length teams) (suc n) f within p.different)

  pub all_play : everyone n (λ u. any (in_round r u) ms) ≡ true → length teams ≡ n + 1
  all_play all =
      let reaches : (u : ℕ) → u < suc n → Stands teams u = λ u h. p.found u (everyone_passes _ n u all (omega arith)) in
      omega (arith, few_play, at_least (λ j. get_or teams j 0) (length teams) (suc n) reaches)

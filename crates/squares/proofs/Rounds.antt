-- One round of the square of a strong starter: every team plays exactly once. Assumes nothing.
use Rattle.std.proofs.Common.{◌≡◌, ℕ, ◌+◌, ◌<◌, ◌≤◌, Bool, true, eqb, ◌≢◌, ◌⊎◌, List, [], ◌∷◌, length, sym, refl, ap, ◌∙◌, subst, inl, inr, arith}
use Rattle.std.proofs.lemmas.Bool.{cases_eq, eq-eqb, ne_eqb, eqb-true, cond-false}
use Rattle.groups.specs.Tables.{Table, Laws, difference}
use Rattle.groups.specs.Algebra.{some, add_zero, cancel_left, cancel_right, translate_back, translate_only, difference_below, difference_zero}
use Rattle.groups.specs.Lowest.{lowest_only, lowest_passes}
use Rattle.starters.specs.Pairs.{at, Holds, Alike}
use Rattle.starters.specs.Starters.{Strong}
use Rattle.starters.specs.declared.pair.Pair.{Pair}
use Rattle.starters.proofs.Likeness.{one_pair}
use Rattle.starters.proofs.Places.{length-sums, sums_at}
use Rattle.starters.proofs.StrongStarters.{numbers_right}
use Rattle.squares.specs.Cells.{meet, lower_first, plays, opponent}
use Rattle.squares.specs.Squares.{venue_of, teams_of, place_of, square}
use Rattle.squares.specs.Cards.{venue_in, table_in, line, Line}
use Rattle.squares.proofs.Meetings.{Moved, holder}
use Rattle.squares.proofs.Teams.{lower_first_less, lower_first_more, lower_first_swap, plays_first, plays_either, opponent_of_first}

module _ (g : Table) (l : Laws g) (ps : List Pair) (s : Strong g ps) (r : ℕ) (hr : r < g.order) where
  pub sum_below : (k : ℕ) → k < length ps → g.add (at ps k).first (at ps k).second < g.order
  sum_below k h = let p = s.starter.pairs k h in grind (arith, l.closed)

  pub venue_below : (k : ℕ) → k < length ps → venue_of g r (at ps k) < g.order
  venue_below k h = grind (arith, l.closed, sum_below)

  -- no pair plays at the guest's venue
  pub venue_not_own : (k : ℕ) → k < length ps → venue_of g r (at ps k) ≢ r
  venue_not_own k h e =
      let sum : ℕ = g.add (at ps k).first (at ps k).second in
      let zero : sum ≡ 0 = cancel_left g l r sum 0 hr (sum_below k h) (some g l) (e ∙ sym (add_zero g l r hr)) in
      omega (arith, s.sums_nonzero k h, sums_at g ps k h)

  -- no two pairs play at one venue
  pub venue_apart : (j k : ℕ) → j < length ps → k < length ps → venue_of g r (at ps j) ≡ venue_of g r (at ps k) → j ≡ k
  venue_apart j k x y e = grind (arith, cancel_left g l, sum_below, length-sums g ps, s.sums_different, sums_at g ps)

  pub place_of_pair : (k : ℕ) → k < length ps → place_of g ps r (venue_of g r (at ps k)) ≡ k
  place_of_pair k h =
      let v : ℕ = venue_of g r (at ps k) in
      lowest_only (λ j. eqb (venue_of g r (at ps j)) v) (length ps) 0 k (omega arith) (omega arith) (eq-eqb v v refl)
      (λ j t x. venue_apart j k (omega arith) h (eqb-true (venue_of g r (at ps j)) v t))

  -- the cell of a pair, and the guest's
  pub cell_of_pair : (k : ℕ) → k < length ps → square g ps r (venue_of g r (at ps k)) ≡ teams_of g r (at ps k)
  cell_of_pair k h = grind (arith, place_of_pair k h, venue_not_own k h)

  pub cell_of_guest : square g ps r r ≡ meet r g.order
  cell_of_guest = grind arith

  -- where a team plays
  pub plays_where : (u v : ℕ) → plays u (square g ps r v) ≡ true
      → ((v ≡ r) × ((r ≡ u) ⊎ (g.order ≡ u))) ⊎ ((k : ℕ) × (k < length ps) × (venue_of g r (at ps k) ≡ v) × Moved g r u (at ps k))
  plays_where u v t =
      let k : ℕ = place_of g ps r v in
      elim (cases_eq v r) [
        | inl own ↦ inl (own, grind arith)
        | inr other ↦
            let h : k < length ps = grind arith in
            let there : venue_of g r (at ps k) ≡ v = eqb-true (venue_of g r (at ps k)) v (lowest_passes (λ j. eqb (venue_of g r (at ps j)) v) (length ps) 0 (omega arith)) in
            let team : plays u (teams_of g r (at ps k)) ≡ true = grind arith in
            inr (k, h, there, plays_either u (g.add (at ps k).first r) (g.add (at ps k).second r) team)
      ]

  -- a pair's numbers are moved to teams other than r and the guest
  moved_number : (a : ℕ) → 0 < a → a < g.order → (g.add a r < g.order) × (g.add a r ≢ r)
  moved_number a nonzero below = (
    l.closed a r below hr,
    λ e. omega (arith, cancel_right g l r a 0 hr below (some g l) (e ∙ sym (l.neutral r hr))),
  )

  pub moved_team : (k : ℕ) → k < length ps → (u : ℕ) → Moved g r u (at ps k) → (u < g.order) × (u ≢ r)
  moved_team k h u m = let p = s.starter.pairs k h in grind (arith, moved_number)

  -- the number that is moved to a team
  moved_from : (k : ℕ) → k < length ps → (u : ℕ) → Moved g r u (at ps k) → Holds (difference g u r) (at ps k)
  moved_from k h u m = let p = s.starter.pairs k h in let t = moved_team k h u m in grind (arith, translate_only g l u r)

  -- the guest plays at the venue of the round
  pub guest_where : (v : ℕ) → plays g.order (square g ps r v) ≡ true → v ≡ r
  guest_where v t = elim (plays_where g.order v t) [ inl w ↦ w.0 | inr w ↦ absurd (omega (arith, moved_team w.0 w.1 g.order w.3)) ]

  -- the line of a team that a pair's number is moved to
  line_of_pair : (k : ℕ) → k < length ps → (u o : ℕ) → Moved g r u (at ps k) → Moved g r o (at ps k) → o ≢ u → teams_of g r (at ps k) ≡ lower_first u o
      → Line g ps u r (k + 1) (venue_of g r (at ps k)) o
  line_of_pair k h u o mu mo ne teams =
      let tu = moved_team k h u mu in
      let to = moved_team k h o mo in
      record {
        there = (venue_below k h, cell_of_pair k h ∙ teams);
        nowhere_else = λ v hv t.
            elim (plays_where u v t) [
              | inl w ↦ absurd (grind arith)
              | inr w ↦
                  let same : w.0 ≡ k = one_pair ps (numbers_right g l ps s).different (difference g u r) w.0 k w.1 h (moved_from w.0 w.1 u w.3) (moved_from k h u mu) in
                  sym w.2 ∙ ap (λ (i : ℕ). venue_of g r (at ps i)) same
            ];
        against = (omega arith, ne);
        at_table = inr (k, h, refl, refl, teams);
      }

  pub line_of_first : (k : ℕ) → k < length ps → (u : ℕ) → g.add (at ps k).first r ≡ u
      → Line g ps u r (k + 1) (venue_of g r (at ps k)) (g.add (at ps k).second r)
  line_of_first k h u e =
      let p = s.starter.pairs k h in
      line_of_pair k h u (g.add (at ps k).second r) (inl e) (inr refl) (λ q. grind (arith, cancel_right g l r)) (grind arith)

  pub line_of_second : (k : ℕ) → k < length ps → (u : ℕ) → g.add (at ps k).second r ≡ u
      → Line g ps u r (k + 1) (venue_of g r (at ps k)) (g.add (at ps k).first r)
  line_of_second k h u e =
      let p = s.starter.pairs k h in
      let ne : g.add (at ps k).first r ≢ u = λ q. grind (arith, cancel_right g l r) in
      line_of_pair k h u (g.add (at ps k).first r) (inr e) (inl refl) ne (grind (arith, lower_first_swap))

  -- the lines of the guest and of the team that meets it
  line_with_guest : (u o : ℕ) → (u ≡ g.order) ⊎ (o ≡ g.order) → o ≤ g.order → o ≢ u → lower_first u o ≡ meet r g.order
      → ((k : ℕ) → k < length ps → Moved g r u (at ps k) → ⊥) → Line g ps u r 0 r o
  line_with_guest u o which most ne cell never = record {
    there = (hr, cell_of_guest ∙ sym cell);
    nowhere_else = λ v hv t. elim (plays_where u v t) [ inl w ↦ w.0 | inr w ↦ absurd (never w.0 w.1 w.3) ];
    against = (most, ne);
    at_table = inl (refl, which);
  }

  pub line_of_own : Line g ps r r 0 r g.order
  line_of_own =
      line_with_guest r g.order (inr refl) (omega arith) (λ e. omega arith) (lower_first_less r g.order hr)
      (λ k h m. (moved_team k h r m).1 refl)

  pub line_of_guest : Line g ps g.order r 0 r r
  line_of_guest =
      line_with_guest g.order r (inl refl) (omega arith) (λ e. omega arith) (lower_first_more g.order r (omega arith))
      (λ k h m. omega (arith, moved_team k h g.order m))

  -- the other number of a pair is an element
  pub other_below : (k : ℕ) → k < length ps → (a o : ℕ) → Alike (at ps k) (record { first = a; second = o }) → o < g.order
  other_below k h a o e = let p = s.starter.pairs k h in grind arith

  -- the line of a team, by the pair that holds its difference from the round
  pub line_by_pair : (k : ℕ) → k < length ps → (u o : ℕ) → u < g.order → Alike (at ps k) (record { first = difference g u r; second = o })
      → Line g ps u r (k + 1) (g.add r (g.add (difference g u r) o)) (g.add o r)
  line_by_pair k h u o hu (inl e) =
      let made = line_of_first k h u (ap (λ (q : Pair). g.add q.first r) e ∙ translate_back g l u r hu hr) in
      subst (λ (q : Pair). Line g ps u r (k + 1) (venue_of g r q) (g.add q.second r)) e made
  line_by_pair k h u o hu (inr e) =
      let d : ℕ = difference g u r in
      let made = line_of_second k h u (ap (λ (q : Pair). g.add q.second r) e ∙ translate_back g l u r hu hr) in
      let turned = subst (λ (q : Pair). Line g ps u r (k + 1) (venue_of g r q) (g.add q.first r)) e made in
      subst (λ (x : ℕ). Line g ps u r (k + 1) (g.add r x) (g.add o r))
      (l.commutative o d (other_below k h d o (inr e)) (difference_below g l u r hu hr)) turned

  pub line_by_none : (u : ℕ) → u < g.order → ((k : ℕ) → k < length ps → Holds (difference g u r) (at ps k) → ⊥) → Line g ps u r 0 r g.order
  line_by_none u hu never =
      let d : ℕ = difference g u r in
      let own : u ≡ r =
      elim (cases_eq d 0) [
        | inl zero ↦ difference_zero g l u r hu hr zero
        | inr other ↦ let w = holder g l ps s d (omega arith) (difference_below g l u r hu hr) in absurd (never w.0 w.1 (grind arith))
      ] in
      subst (λ (x : ℕ). Line g ps x r 0 r g.order) (sym own) line_of_own

  -- the same line under other names
  pub line_as : (u a v o a' v' o' : ℕ) → a' ≡ a → v' ≡ v → o' ≡ o → Line g ps u r a v o → Line g ps u r a' v' o'
  line_as u a v o a' v' o' ea ev eo m = rw (ea, ev, eo) m

  -- what a line says is what the card has
  pub line_is : (u a v o : ℕ) → Line g ps u r a v o → line g ps u r ≡ a ∷ (v ∷ (o ∷ []))
  line_is u a v o m =
      let p : ℕ → Bool = λ w. plays u (square g ps r w) in
      let here : p v ≡ true = ap (plays u) m.there.1 ∙ plays_first u o in
      let found : venue_in g.order (square g ps) r u ≡ v =
      lowest_only p g.order 0 v (omega arith) (omega (arith, m.there.0)) here (λ w t h. m.nowhere_else w (omega arith) t) in
      let other : opponent u (square g ps r v) ≡ o = ap (opponent u) m.there.1 ∙ opponent_of_first u o (λ e. m.against.1 (sym e)) in
      let table : table_in g ps r v ≡ a =
      elim m.at_table [
        | inl t ↦ let own : v ≡ r = guest_where v (grind arith) in grind arith
        | inr t ↦
            let other_venue : v ≢ r = λ e. venue_not_own t.0 t.1 (t.3 ∙ e) in
            let place : place_of g ps r v ≡ t.0 = ap (place_of g ps r) (sym t.3) ∙ place_of_pair t.0 t.1 in
            cond-false (eqb v r) 0 (place_of g ps r v + 1) (ne_eqb v r other_venue) ∙ ap (λ (x : ℕ). x + 1) place ∙ sym t.2
      ] in
      ap (λ (w : ℕ). table_in g ps r w ∷ (w ∷ (opponent u (square g ps r w) ∷ []))) found
      ∙ ap (λ (x : ℕ). x ∷ (v ∷ (opponent u (square g ps r v) ∷ []))) table
      ∙ ap (λ (x : ℕ). a ∷ (v ∷ (x ∷ []))) other

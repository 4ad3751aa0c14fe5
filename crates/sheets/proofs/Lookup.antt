-- The square of a list of meetings. Assumes nothing.
--     here r v m        the meeting m is in round r at venue v
--     cells_of ms       each meeting of the list ms in its cell, and all other cells empty
use Rattle.std.proofs.Common.{◌≡◌, ℕ, ◌<◌, ◌≤◌, Bool, true, cond, ◌&&◌, eqb, ◌≢◌, List, [], ◌∷◌, sym, refl, ap, ◌∙◌, subst, inl, inr, arith}
use Rattle.std.proofs.lemmas.Bool.{cases_Bool, cases_lt, cond-true, cond-false, and_from, and_parts, or_cases, both_ways, eq-eqb, eqb-true, false≢true}
use Rattle.groups.specs.Numbers.{OnlyOne}
use Rattle.squares.specs.Cells.{Cell, Cells, empty, meet, plays}
use Rattle.squares.specs.RoomSquares.{Proper, Together, RoomSquare}
use Rattle.squares.proofs.Counting.{room_square_by}
use Rattle.sheets.specs.Meetings.{Meeting, Among}
use Rattle.sheets.proofs.Fair.{team_of, Apart, SameCell, Fair}

abbrev here : ℕ → ℕ → Meeting → Bool
here r v m = eqb m.round r && eqb m.venue v

abbrev pub cells_of : List Meeting → Cells
cells_of [] r v = empty
cells_of (m ∷ ms) r v = cond (here r v m) (meet m.lower m.higher) (cells_of ms r v)

here_is : (m : Meeting) (r v : ℕ) → here r v m ≡ true → (m.round ≡ r) × (m.venue ≡ v)
here_is m r v t =
    let p = and_parts (eqb m.round r) (eqb m.venue v) t in
    (eqb-true m.round r p.0, eqb-true m.venue v p.1)

is_here : (m : Meeting) (r v : ℕ) → m.round ≡ r → m.venue ≡ v → here r v m ≡ true
is_here m r v e f = and_from (eqb m.round r) (eqb m.venue v) (eq-eqb m.round r e) (eq-eqb m.venue v f)

-- a cell that is not empty holds a meeting of the list
pub cell_told : (ms : List Meeting) (r v a b : ℕ) → cells_of ms r v ≡ meet a b
    → Among ms (record { round = r; venue = v; lower = a; higher = b })
cell_told [] r v a b e = absurd (cc)
cell_told (m ∷ ms) r v a b e =
    elim (cases_Bool (here r v m)) [
      | inl t ↦
          let same : meet m.lower m.higher ≡ meet a b = simp t at e in
          let place = here_is m r v t in
          let p : m.round ≡ r = place.0 in
          let q : m.venue ≡ v = place.1 in
          let low : m.lower ≡ a = cc in
          let high : m.higher ≡ b = cc in
          let whole : record { round = m.round; venue = m.venue; lower = m.lower; higher = m.higher }
          ≡ record { round = r; venue = v; lower = a; higher = b } = cc in
          inl whole
      | inr f ↦ inr (cell_told ms r v a b (simp f at e))
    ]

-- a meeting of the list stands in its cell
pub told_cell : (ms : List Meeting) (m : Meeting) → Apart SameCell ms → Among ms m
    → cells_of ms m.round m.venue ≡ meet m.lower m.higher
told_cell [] m apart h = absurd h
told_cell (x ∷ ms) m apart h =
    elim (cases_Bool (here m.round m.venue x)) [
      | inl t ↦
          let same : x ≡ m = apart x m (inl refl) h (here_is x m.round m.venue t) in
          cond-true _ _ _ t ∙ ap (λ (y : Meeting). meet y.lower y.higher) same
      | inr f ↦
          elim h [
            | inl e ↦
                absurd (both_ways (here m.round m.venue x) f
                (is_here x m.round m.venue (ap (λ (y : Meeting). y.round) e) (ap (λ (y : Meeting). y.venue) e)))
            | inr later ↦ cond-false _ _ _ f ∙ told_cell ms m (λ y z i j. apart y z (inr i) (inr j)) later
          ]
    ]

-- who plays in a cell plays in a meeting of the list
module _ (ms : List Meeting) where
  abbrev pub Played : ℕ → ℕ → ℕ → Type 0
  Played u r v = (m : Meeting) × Among ms m × (m.round ≡ r) × (m.venue ≡ v) × team_of u m

  played_in : (u r v : ℕ) (c : Cell) → cells_of ms r v ≡ c → plays u c ≡ true → Played u r v
  played_in u r v empty e t = absurd (false≢true t)
  played_in u r v (meet a b) e t = (record { round = r; venue = v; lower = a; higher = b }, cell_told ms r v a b e, refl, refl, t)

  pub played : (u r v : ℕ) → plays u (cells_of ms r v) ≡ true → Played u r v
  played u r v t = played_in u r v (cells_of ms r v) refl t

-- two teams of a meeting are its lower and its higher one
two_teams : (u w : ℕ) (m : Meeting) → u < w → m.lower < m.higher → team_of u m → team_of w m → (m.lower ≡ u) × (m.higher ≡ w)
two_teams u w m l h t s =
    elim (or_cases (eqb m.lower u) (eqb m.higher u) t) [
      | inl low ↦
          let x : m.lower ≡ u = eqb-true m.lower u low in
          elim (or_cases (eqb m.lower w) (eqb m.higher w) s) [
            | inl again ↦ absurd (omega (arith, eqb-true m.lower w again))
            | inr high ↦ (x, eqb-true m.higher w high)
          ]
      | inr high ↦
          let x : m.higher ≡ u = eqb-true m.higher u high in
          elim (or_cases (eqb m.lower w) (eqb m.higher w) s) [
            | inl low ↦ absurd (omega (arith, eqb-true m.lower w low))
            | inr again ↦ absurd (omega (arith, eqb-true m.higher w again))
          ]
    ]

module _ (n : ℕ) (ms : List Meeting) (fair : Fair n ms)
    (all_play : (r u : ℕ) → r < n → u ≤ n → (m : Meeting) × Among ms m × (m.round ≡ r) × team_of u m) where
  proper_in : (r v : ℕ) (c : Cell) → cells_of ms r v ≡ c → Proper n c
  proper_in r v empty e = tt
  proper_in r v (meet a b) e = let i = fair.in_range _ (cell_told ms r v a b e) in (i.lower_first, i.teams_below)

  once : (r u : ℕ) → r < n → u ≤ n → OnlyOne n (λ v. plays u (cells_of ms r v) ≡ true)
  once r u hr hu =
      let p = all_play r u hr hu in
      let m : Meeting = p.0 in
      record {
        here = m.venue;
        below = (fair.in_range m p.1).venue_below;
        holds = subst (λ (q : ℕ). plays u (cells_of ms q m.venue) ≡ true) p.2
            (subst (λ (c : Cell). plays u c ≡ true) (sym (told_cell ms m fair.cell_apart p.1)) p.3);
        alone = λ v hv t.
            let o = played ms u r v t in
            let same = fair.round_apart o.0 m o.1 p.1 (o.2 ∙ sym p.2, (u, o.4, p.3)) in
            sym o.3 ∙ ap (λ (x : Meeting). x.venue) same;
      }

  at_one_venue : (r q v u : ℕ) → r < n → q < n → v < n → u ≤ n → plays u (cells_of ms r v) ≡ true → plays u (cells_of ms q v) ≡ true → r ≡ q
  at_one_venue r q v u hr hq hv hu t s =
      let x = played ms u r v t in
      let y = played ms u q v s in
      let same = fair.venue_apart x.0 y.0 x.1 y.1 (x.3 ∙ sym y.3, (u, x.4, y.4)) in
      sym x.2 ∙ ap (λ (m : Meeting). m.round) same ∙ y.2

  -- two teams meet in one round only
  met_rising : (r q v w u t : ℕ) → u < t → Together u t (cells_of ms r v) → Together u t (cells_of ms q w) → r ≡ q
  met_rising r q v w u t l f g =
      let x = played ms u r v f.0 in
      let y = played ms u q w g.0 in
      let x2 = played ms t r v f.1 in
      let y2 = played ms t q w g.1 in
      let xs = fair.cell_apart x2.0 x.0 x2.1 x.1 (x2.2 ∙ sym x.2, x2.3 ∙ sym x.3) in
      let ys = fair.cell_apart y2.0 y.0 y2.1 y.1 (y2.2 ∙ sym y.2, y2.3 ∙ sym y.3) in
      let a = two_teams u t x.0 l (fair.in_range x.0 x.1).lower_first x.4 (subst (team_of t) xs x2.4) in
      let b = two_teams u t y.0 l (fair.in_range y.0 y.1).lower_first y.4 (subst (team_of t) ys y2.4) in
      let same = fair.teams_apart x.0 y.0 x.1 y.1 (a.0 ∙ sym b.0, a.1 ∙ sym b.1) in
      sym x.2 ∙ ap (λ (m : Meeting). m.round) same ∙ y.2

  met_in_one : (r q v w u t : ℕ) → r < n → q < n → v < n → w < n → u ≤ n → t ≤ n → u ≢ t → Together u t (cells_of ms r v)
      → Together u t (cells_of ms q w) → r ≡ q
  met_in_one r q v w u t hr hq hv hw hu ht ne f g =
      elim (cases_lt u t) [
        | inl l ↦ met_rising r q v w u t l f g
        | inr l ↦ met_rising r q v w t u (omega arith) (f.1, f.0) (g.1, g.0)
      ]

  pub room_square_of : RoomSquare n (cells_of ms)
  room_square_of = room_square_by n (cells_of ms) (λ r v hr hv. proper_in r v (cells_of ms r v) refl) once at_one_venue met_in_one

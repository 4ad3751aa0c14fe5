-- Room squares by counting: n rounds that put a team at different venues use all n venues, and n rounds that give it
-- different opponents use all n other teams. Assumes nothing.
use Rattle.std.proofs.Common.{◌≡◌, ℕ, suc, ◌<◌, ◌≤◌, true, ◌≢◌, sym, refl, ◌∙◌, subst, arith}
use Rattle.groups.specs.Numbers.{OnlyOne, lowest}
use Rattle.groups.specs.Lowest.{lowest_least, lowest_passes}
use Rattle.groups.proofs.Pigeonhole.{Within, OneToOne, reaches_all, reaches_others}
use Rattle.squares.specs.Cells.{Cell, Cells, empty, meet, plays, opponent}
use Rattle.squares.specs.RoomSquares.{Proper, Together, OnlyCell, RoomSquare}

-- a team and its opponent are the two teams of their cell
opponent_facts : (n u : ℕ) (c : Cell) → Proper n c → plays u c ≡ true
    → (opponent u c ≤ n) × (opponent u c ≢ u) × (plays (opponent u c) c ≡ true)
opponent_facts n u empty p t = grind arith
opponent_facts n u (meet a b) p t = grind arith

-- a square of side n in which every team plays exactly once in each round, no team plays twice at one venue and no two teams
-- meet twice is a Room square
module _ (n : ℕ) (cells : Cells)
    (proper : (r v : ℕ) → r < n → v < n → Proper n (cells r v))
    (once : (r u : ℕ) → r < n → u ≤ n → OnlyOne n (λ v. plays u (cells r v) ≡ true))
    (venue_apart : (r q v u : ℕ) → r < n → q < n → v < n → u ≤ n
    → plays u (cells r v) ≡ true → plays u (cells q v) ≡ true → r ≡ q)
    (met_apart : (r q v w u t : ℕ) → r < n → q < n → v < n → w < n → u ≤ n → t ≤ n → u ≢ t
    → Together u t (cells r v) → Together u t (cells q w) → r ≡ q) where
  -- the venue of team u in round r
  abbrev venue : ℕ → ℕ → ℕ
  venue u r = lowest (λ v. plays u (cells r v)) n 0

  venue_below : (u r : ℕ) → u ≤ n → r < n → venue u r < n
  venue_below u r hu hr =
      let o = once r u hr hu in
      omega (arith, lowest_least (λ v. plays u (cells r v)) n 0 o.here (omega arith) (omega (arith, o.below)) o.holds, o.below)

  plays_there : (u r : ℕ) → u ≤ n → r < n → plays u (cells r (venue u r)) ≡ true
  plays_there u r hu hr = lowest_passes (λ v. plays u (cells r v)) n 0 (omega (arith, venue_below u r hu hr))

  once_a_venue : (v u : ℕ) → v < n → u ≤ n → OnlyOne n (λ r. plays u (cells r v) ≡ true)
  once_a_venue v u hv hu =
      let apart : OneToOne (venue u) n = λ r q hr hq e.
      venue_apart r q (venue u q) u hr hq (venue_below u q hu hq) hu
      (subst (λ (x : ℕ). plays u (cells r x) ≡ true) e (plays_there u r hu hr)) (plays_there u q hu hq) in
      let r = reaches_all n (venue u) (λ q hq. venue_below u q hu hq) apart v hv in
      let there = subst (λ (x : ℕ). plays u (cells r.0 x) ≡ true) r.2 (plays_there u r.0 hu r.1) in
      record { here = r.0; below = r.1; holds = there; alone = λ q hq t. venue_apart q r.0 v u hq r.1 hv hu t there }

  -- the opponent of team u in round r
  abbrev rival : ℕ → ℕ → ℕ
  rival u r = opponent u (cells r (venue u r))

  rival_facts : (u r : ℕ) → u ≤ n → r < n → (rival u r ≤ n) × (rival u r ≢ u) × (plays (rival u r) (cells r (venue u r)) ≡ true)
  rival_facts u r hu hr =
      opponent_facts n u (cells r (venue u r)) (proper r (venue u r) hr (venue_below u r hu hr)) (plays_there u r hu hr)

  -- a team that u meets in round r shares the cell of u
  with_rival : (u r w : ℕ) → u ≤ n → r < n → rival u r ≡ w → Together u w (cells r (venue u r))
  with_rival u r w hu hr e =
      (plays_there u r hu hr, subst (λ (x : ℕ). plays x (cells r (venue u r)) ≡ true) e (rival_facts u r hu hr).2)

  rival_apart : (u : ℕ) → u ≤ n → OneToOne (rival u) n
  rival_apart u hu r q hr hq e =
      let f = rival_facts u q hu hq in
      met_apart r q (venue u r) (venue u q) u (rival u q) hr hq (venue_below u r hu hr) (venue_below u q hu hq) hu f.0
      (λ x. f.1 (sym x)) (with_rival u r (rival u q) hu hr e) (with_rival u q (rival u q) hu hq refl)

  met_once : (u w : ℕ) → u ≤ n → w ≤ n → u ≢ w → OnlyCell n (λ r v. Together u w (cells r v))
  met_once u w hu hw ne =
      let within : Within (rival u) n (suc n) = λ r hr. omega (arith, (rival_facts u r hu hr).0) in
      let never : (r : ℕ) → r < n → rival u r ≢ u = λ r hr. (rival_facts u r hu hr).1 in
      let m = reaches_others n u (rival u) hu within never (rival_apart u hu) w hw (λ e. ne (sym e)) in
      let r : ℕ = m.0 in
      let hr : r < n = m.1 in
      let hv = venue_below u r hu hr in
      let here = with_rival u r w hu hr m.2 in
      let only = (once r u hr hu).alone in
      record {
        round = r;
        venue = venue u r;
        round_below = hr;
        venue_below = hv;
        holds = here;
        alone = λ q v hq hx t.
            let same : q ≡ r = met_apart q r v (venue u r) u w hq hr hx hv hu hw ne t here in
            let again = subst (λ (x : ℕ). plays u (cells x v) ≡ true) same t.0 in
            (same, only v hx again ∙ sym (only (venue u r) hv here.0));
      }

  pub room_square_by : RoomSquare n cells
  room_square_by = record { proper = proper; once_a_round = once; once_a_venue = once_a_venue; met_once = met_once }

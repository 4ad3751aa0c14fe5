-- The sheet of a Room square passes: it is the bytes of commands whose questions are all answered yes. Assumes nothing.
--     Before n r v i j           the cell of round i and venue j comes, with side n, before that of round r and venue v
--     FromCells n cells r v m    the meeting m is that of a cell before round r and venue v
--     Held n cells r v ms        the meetings ms are those of the cells before round r and venue v
--     RoundsRead n cells r       the rounds before r are read and closed
--     VenuesRead n cells r v     so are they, and round r is open and its cells before venue v are read
--     SheetRead n cells          the whole sheet is read
use Rattle.std.proofs.Common.{◌≡◌, ℕ, zero, suc, ◌+◌, ◌<◌, ◌≤◌, true, false, eqb, ◌⊎◌, List, [], ◌∷◌, ◌++◌, length, sym, refl, ap, ◌∙◌, subst, inl, inr, arith}
use Rattle.std.proofs.lemmas.List.{append_assoc, append-nil}
use Rattle.std.proofs.lemmas.Bool.{cases_eq, and_parts, and_from, or_left, or_right, eq-eqb, eqb-true, lt-ltb, false≢true}
use Rattle.groups.specs.Tables.{OddOrder}
use Rattle.squares.specs.Cells.{Cell, Cells, empty, meet, plays}
use Rattle.squares.specs.RoomSquares.{RoomSquare, Proper, Together}
use Rattle.sheets.specs.Commands.{written}
use Rattle.sheets.specs.Judgements.{rises}
use Rattle.sheets.specs.Meetings.{Meeting, Among, told, meetings, any, in_round, at_venue, of_two}
use Rattle.sheets.specs.Sheets.{each, cell_bytes, round_bytes, meetings_in, sheet}
use Rattle.sheets.specs.Stages.{stage, side_of, rounds_of}
use Rattle.sheets.specs.declared.command.Command.{Command}
use Rattle.sheets.specs.declared.command.Command.TheVariants.{Side, Round, Meet, Close, End}
use Rattle.sheets.specs.declared.stage.Stage.{Stage}
use Rattle.sheets.specs.declared.stage.Stage.TheVariants.{Between, Open, Done}
use Rattle.sheets.proofs.Among.{any_among, none_from}
use Rattle.sheets.proofs.Each.{each_next}
use Rattle.sheets.proofs.Everyone.{everyone_from}
use Rattle.sheets.proofs.Noting.{open_round}
use Rattle.sheets.proofs.Passing.{Passed}
use Rattle.sheets.proofs.Sizes.{between_size}
use Rattle.sheets.proofs.Yes.{side_passes, round_passes, meet_passes, close_passes, end_passes}

abbrev pub Before : ℕ → ℕ → ℕ → ℕ → ℕ → Type 0
Before n r v i j = ((i < r) × (j < n)) ⊎ ((i ≡ r) × (j < v))

abbrev pub FromCells : ℕ → Cells → ℕ → ℕ → Meeting → Type 0
FromCells n cells r v m = Before n r v m.round m.venue × (cells m.round m.venue ≡ meet m.lower m.higher)

pub record Held (n : ℕ) (cells : Cells) (r v : ℕ) (ms : List Meeting) : Type 0 where
  pub from_cells : (m : Meeting) → Among ms m → FromCells n cells r v m
  pub from_meetings : (i j a b : ℕ) → Before n r v i j → cells i j ≡ meet a b
      → Among ms (record { round = i; venue = j; lower = a; higher = b })

-- the bytes of the rounds before r
abbrev closed_bytes : ℕ → Cells → ℕ → List ℕ
closed_bytes n cells r = written (Side n) ++ each (round_bytes n cells) 0 r

-- the bytes of round r as far as its cells before venue v
abbrev open_bytes : Cells → ℕ → ℕ → List ℕ
open_bytes cells r v = written (Round r) ++ each (λ w. cell_bytes w (cells r w)) 0 v

pub record RoundsRead (n : ℕ) (cells : Cells) (r : ℕ) : Type 0 where
  pub past : List Command
  pub passed : Passed past
  pub reached : stage past ≡ Between n r
  pub bytes : told past ≡ written (Side n) ++ each (round_bytes n cells) 0 r
  pub held : Held n cells r 0 (meetings past)

record VenuesRead (n : ℕ) (cells : Cells) (r v : ℕ) : Type 0 where
  pub past : List Command
  pub passed : Passed past
  pub reached : stage past ≡ Open n r
  pub bytes : told past ≡ closed_bytes n cells r ++ open_bytes cells r v
  pub held : Held n cells r v (meetings past)
  pub rising : (w : ℕ) → v ≤ w → rises w past ≡ true

pub record SheetRead (n : ℕ) (cells : Cells) : Type 0 where
  pub past : List Command
  pub passed : Passed past
  pub reached : stage past ≡ Done
  pub bytes : told past ≡ sheet n cells
  pub told_cells : (m : Meeting) → Among (meetings past) m
      → (m.round < n) × (m.venue < n) × (cells m.round m.venue ≡ meet m.lower m.higher)
  pub cells_told : (r v a b : ℕ) → r < n → v < n → cells r v ≡ meet a b
      → Among (meetings past) (record { round = r; venue = v; lower = a; higher = b })
  pub count : length (meetings past) ≡ meetings_in n

-- Cells before a cell.

before_below : (n r v i j : ℕ) → r < n → v ≤ n → Before n r v i j → (i < n) × (j < n)
before_below n r v i j h k (inl (a, b)) = (omega arith, b)
before_below n r v i j h k (inr (e, b)) = (omega arith, omega arith)

not_before_itself : (n r v i j : ℕ) → Before n r v i j → i ≡ r → j ≡ v → ⊥
not_before_itself n r v i j (inl (a, b)) e f = absurd (omega arith)
not_before_itself n r v i j (inr (a, b)) e f = absurd (omega arith)

before_next : (n r v i j : ℕ) → Before n r v i j → Before n r (suc v) i j
before_next n r v i j (inl (a, b)) = inl (a, b)
before_next n r v i j (inr (e, b)) = inr (e, omega arith)

last_before : (n r v i j : ℕ) → Before n r (suc v) i j → Before n r v i j ⊎ ((i ≡ r) × (j ≡ v))
last_before n r v i j (inl (a, b)) = inl (inl (a, b))
last_before n r v i j (inr (e, b)) =
    elim (cases_eq j v) [
      | inl f ↦ inr (e, f)
      | inr f ↦ inl (inr (e, omega arith))
    ]

-- the end of a round is the beginning of the next one
to_next_round : (n r i j : ℕ) → Before n r n i j → Before n (suc r) 0 i j
to_next_round n r i j (inl (a, b)) = inl (omega arith, b)
to_next_round n r i j (inr (e, b)) = inl (omega arith, b)

from_next_round : (n r i j : ℕ) → Before n (suc r) 0 i j → Before n r n i j
from_next_round n r i j (inl (a, b)) =
    elim (cases_eq i r) [
      | inl e ↦ inr (e, b)
      | inr e ↦ inl (omega arith, b)
    ]
from_next_round n r i j (inr (e, b)) = absurd (omega arith)

none_before : (n i j : ℕ) → Before n 0 0 i j → ⊥
none_before n i j (inl (a, b)) = absurd (omega arith)
none_before n i j (inr (e, b)) = absurd (omega arith)

before_end : (n i j : ℕ) → Before n n 0 i j → (i < n) × (j < n)
before_end n i j (inl both) = both
before_end n i j (inr (e, b)) = absurd (omega arith)

plays_lower : (a b : ℕ) → plays a (meet a b) ≡ true
plays_lower a b = or_left (eqb a a) (eqb b a) (eq-eqb a a refl)

plays_higher : (a b : ℕ) → plays b (meet a b) ≡ true
plays_higher a b = or_right (eqb a b) (eqb b b) (eq-eqb b b refl)

-- a cell where a team plays is not empty
teams_of : (u : ℕ) (c : Cell) → plays u c ≡ true → (a b : ℕ) × (c ≡ meet a b)
teams_of u empty p = absurd (false≢true p)
teams_of u (meet a b) p = (a, b, refl)

append_inside : (xs ys zs ws : List ℕ) → (xs ++ (ys ++ zs)) ++ ws ≡ xs ++ (ys ++ (zs ++ ws))
append_inside xs ys zs ws = append_assoc xs (ys ++ zs) ws ∙ ap (λ l. xs ++ l) (append_assoc ys zs ws)

module _ (n : ℕ) (cells : Cells) (room : RoomSquare n cells) where
  -- Meetings of the cells before a cell do not clash with the meeting of that cell.
  module _ (r v : ℕ) (hr : r < n) (hv : v < n) (ms : List Meeting) (held : Held n cells r v ms) where
    -- what is known of a meeting among them
    meeting_below : (m : Meeting) → Among ms m → (m.round < n) × (m.venue < n)
    meeting_below m a = before_below n r v m.round m.venue hr (omega arith) (held.from_cells m a).0

    meeting_plays : (u : ℕ) (m : Meeting) → Among ms m → plays u (meet m.lower m.higher) ≡ true
        → plays u (cells m.round m.venue) ≡ true
    meeting_plays u m a p = ap (plays u) (held.from_cells m a).1 ∙ p

    elsewhere : (m : Meeting) → Among ms m → m.round ≡ r → m.venue ≡ v → ⊥
    elsewhere m a = not_before_itself n r v m.round m.venue (held.from_cells m a).0

    new_in_round : (u : ℕ) → u ≤ n → plays u (cells r v) ≡ true → any (in_round r u) ms ≡ false
    new_in_round u hu p =
        none_from (in_round r u) ms (λ m a t.
        let parts = and_parts (eqb m.round r) (plays u (meet m.lower m.higher)) t in
        let same : m.round ≡ r = eqb-true m.round r parts.0 in
        let q = ap (λ (x : ℕ). plays u (cells x m.venue)) (sym same) ∙ meeting_plays u m a parts.1 in
        let o = room.once_a_round r u hr hu in
        elsewhere m a same (o.alone m.venue (meeting_below m a).1 q ∙ sym (o.alone v hv p)))

    new_at_venue : (u : ℕ) → u ≤ n → plays u (cells r v) ≡ true → any (at_venue v u) ms ≡ false
    new_at_venue u hu p =
        none_from (at_venue v u) ms (λ m a t.
        let parts = and_parts (eqb m.venue v) (plays u (meet m.lower m.higher)) t in
        let same : m.venue ≡ v = eqb-true m.venue v parts.0 in
        let q = ap (λ (x : ℕ). plays u (cells m.round x)) (sym same) ∙ meeting_plays u m a parts.1 in
        let o = room.once_a_venue v u hv hu in
        elsewhere m a (o.alone m.round (meeting_below m a).0 q ∙ sym (o.alone r hr p)) same)

    new_two : (a b : ℕ) → a < b → b ≤ n → cells r v ≡ meet a b → any (of_two a b) ms ≡ false
    new_two a b h k e =
        none_from (of_two a b) ms (λ m x t.
        let parts = and_parts (eqb m.lower a) (eqb m.higher b) t in
        let low : m.lower ≡ a = eqb-true m.lower a parts.0 in
        let high : m.higher ≡ b = eqb-true m.higher b parts.1 in
        let c : cells m.round m.venue ≡ meet a b = rw (← low, ← high) (held.from_cells m x).1 in
        let both : (i j : ℕ) → cells i j ≡ meet a b → Together a b (cells i j)
        = λ i j f. (ap (plays a) f ∙ plays_lower a b, ap (plays b) f ∙ plays_higher a b) in
        let o = room.met_once a b (omega arith) k (λ z. omega arith) in
        let below = meeting_below m x in
        let there = o.alone m.round m.venue below.0 below.1 (both m.round m.venue c) in
        let here = o.alone r v hr hv (both r v e) in
        elsewhere m x (there.0 ∙ sym here.0) (there.1 ∙ sym here.1))

  -- One venue more.
  module _ (r v : ℕ) (hr : r < n) (hv : v < n) where
    more_bytes : (s : VenuesRead n cells r v) (c : Cell) → cells r v ≡ c
        → told s.past ++ cell_bytes v c ≡ closed_bytes n cells r ++ open_bytes cells r (suc v)
    more_bytes s c e =
        let row : ℕ → List ℕ = λ w. cell_bytes w (cells r w) in
        ap (λ x. told s.past ++ cell_bytes v x) (sym e) ∙ ap (λ xs. xs ++ row v) s.bytes
        ∙ append_inside (closed_bytes n cells r) (written (Round r)) (each row 0 v) (row v)
        ∙ ap (λ xs. closed_bytes n cells r ++ (written (Round r) ++ xs)) (sym (each_next row v))

    -- an empty cell adds no meeting
    held_empty : (ms : List Meeting) → cells r v ≡ empty → Held n cells r v ms → Held n cells r (suc v) ms
    held_empty ms e held =
        record {
          from_cells = λ m a. let f = held.from_cells m a in (before_next n r v m.round m.venue f.0, f.1);
          from_meetings = λ i j a b before c.
              elim (last_before n r v i j before) [
                | inl earlier ↦ held.from_meetings i j a b earlier c
                | inr (f, g) ↦ let none : empty ≡ meet a b = cc in absurd (false≢true (ap (plays a) none ∙ plays_lower a b))
              ];
        }

    held_meet : (a b : ℕ) (ms : List Meeting) → cells r v ≡ meet a b → Held n cells r v ms
        → Held n cells r (suc v) (record { round = r; venue = v; lower = a; higher = b } ∷ ms)
    held_meet a b ms e held =
        record {
          from_cells = λ m among.
              elim among [
                | inl same ↦ subst (λ (x : Meeting). FromCells n cells r (suc v) x) same (inr (refl, omega arith), e)
                | inr other ↦ let f = held.from_cells m other in (before_next n r v m.round m.venue f.0, f.1)
              ];
          from_meetings = λ i j x y before c.
              elim (last_before n r v i j before) [
                | inl earlier ↦ inr (held.from_meetings i j x y earlier c)
                | inr (f, g) ↦ inl cc
              ];
        }

    next_venue : VenuesRead n cells r v → (c : Cell) → cells r v ≡ c → VenuesRead n cells r (suc v)
    next_venue s empty e =
        record {
          past = s.past;
          passed = s.passed;
          reached = s.reached;
          bytes = sym (append-nil (told s.past)) ∙ more_bytes s empty e;
          held = held_empty (meetings s.past) e s.held;
          rising = λ w h. s.rising w (omega arith);
        }
    next_venue s (meet a b) e =
        let before : List Command = s.past in
        let ms : List Meeting = meetings before in
        let proper : (a < b) × (b ≤ n) = subst (Proper n) e (room.proper r v hr hv) in
        let low : a ≤ n = omega arith in
        let lower_plays = ap (plays a) e ∙ plays_lower a b in
        let higher_plays = ap (plays b) e ∙ plays_higher a b in
        let yes = meet_passes before v a b
        (record {
          side = n;
          round = r;
          open_round = s.reached;
          venue_below = hv;
          rising = s.rising v (omega arith);
          lower_first = proper.0;
          teams_below = proper.1;
          lower_new = new_in_round r v hr hv ms s.held a low lower_plays;
          higher_new = new_in_round r v hr hv ms s.held b proper.1 higher_plays;
          lower_away = new_at_venue r v hr hv ms s.held a low lower_plays;
          higher_away = new_at_venue r v hr hv ms s.held b proper.1 higher_plays;
          not_met = new_two r v hr hv ms s.held a b proper.0 proper.1 e;
        }) in
        let same : meetings (Meet v a b ∷ before) ≡ record { round = r; venue = v; lower = a; higher = b } ∷ ms
        = ap (λ (x : ℕ). record { round = x; venue = v; lower = a; higher = b } ∷ ms) (open_round before n r s.reached) in
        record {
          past = Meet v a b ∷ before;
          passed = (yes, s.passed);
          reached = s.reached;
          bytes = more_bytes s (meet a b) e;
          held = subst (λ ms'. Held n cells r (suc v) ms') (sym same) (held_meet a b ms e s.held);
          rising = λ w h. lt-ltb v w (omega arith);
        }

  -- One round more.
  module _ (r : ℕ) (hr : r < n) where
    opened : RoundsRead n cells r → VenuesRead n cells r 0
    opened s =
        record {
          past = Round r ∷ s.past;
          passed = (round_passes s.past r (record { side = n; between = s.reached; missing = hr }), s.passed);
          reached = ap (λ (x : Stage). Open (side_of x) r) s.reached;
          bytes = ap (λ xs. xs ++ written (Round r)) s.bytes;
          held = s.held;
          rising = λ w h. refl;
        }

    venues_read : RoundsRead n cells r → (v : ℕ) → v ≤ n → VenuesRead n cells r v
    venues_read s zero h = opened s
    venues_read s (suc v) h = next_venue r v hr (omega arith) (venues_read s v (omega arith)) (cells r v) refl

    -- in a round whose cells are read everyone has played
    played : (ms : List Meeting) → Held n cells r n ms → (u : ℕ) → u ≤ n → any (in_round r u) ms ≡ true
    played ms held u hu =
        let o = room.once_a_round r u hr hu in
        let t = teams_of u (cells r o.here) o.holds in
        let m : Meeting = record { round = r; venue = o.here; lower = t.0; higher = t.1 } in
        any_among (in_round r u) ms m (held.from_meetings r o.here t.0 t.1 (inr (refl, o.below)) t.2)
        (and_from (eqb r r) (plays u (meet t.0 t.1)) (eq-eqb r r refl) (ap (plays u) (sym t.2) ∙ o.holds))

    held_round : (ms : List Meeting) → Held n cells r n ms → Held n cells (suc r) 0 ms
    held_round ms held =
        record {
          from_cells = λ m a. let f = held.from_cells m a in (to_next_round n r m.round m.venue f.0, f.1);
          from_meetings = λ i j a b before. held.from_meetings i j a b (from_next_round n r i j before);
        }

    round_closed : VenuesRead n cells r n → RoundsRead n cells (suc r)
    round_closed s =
        let before : List Command = s.past in
        let all = everyone_from (λ u. any (in_round r u) (meetings before)) n (played (meetings before) s.held) in
        let row : List ℕ = each (λ w. cell_bytes w (cells r w)) 0 n in
        let rounds : ℕ → List ℕ = round_bytes n cells in
        let next : r + 1 ≡ suc r = omega arith in
        record {
          past = Close ∷ before;
          passed = (close_passes before (record { side = n; round = r; open_round = s.reached; all = all }), s.passed);
          reached = ap (λ (x : Stage). Between (side_of x) (rounds_of x + 1)) s.reached ∙ ap (Between n) next;
          bytes = ap (λ xs. xs ++ written Close) s.bytes
              ∙ append_inside (closed_bytes n cells r) (written (Round r)) row (written Close)
              ∙ append_assoc (written (Side n)) (each rounds 0 r) (rounds r)
              ∙ ap (λ xs. written (Side n) ++ xs) (sym (each_next rounds r));
          held = held_round (meetings before) s.held;
        }

module _ (n : ℕ) (cells : Cells) (odd : OddOrder n) (room : RoomSquare n cells) where
  side_read : RoundsRead n cells 0
  side_read =
      record {
        past = Side n ∷ [];
        passed = (side_passes [] n (record { first_of_all = refl; odd = odd }), tt);
        reached = refl;
        bytes = refl;
        held =
            record {
              from_cells = λ m among. absurd among;
              from_meetings = λ i j a b before c. absurd (none_before n i j before);
            };
      }

  pub rounds_read : (r : ℕ) → r ≤ n → RoundsRead n cells r
  rounds_read zero h = side_read
  rounds_read (suc r) h =
      let below : r < n = omega arith in
      let all_venues = venues_read n cells room r below (rounds_read r (omega arith)) n (omega arith) in
      round_closed n cells room r below all_venues

  pub sheet_read : SheetRead n cells
  sheet_read =
      let s = rounds_read n (omega arith) in
      let before : List Command = s.past in
      let end : Command = End (meetings_in n) in
      record {
        past = end ∷ before;
        passed = (end_passes before (meetings_in n) (record { side = n; between = s.reached; count = refl }), s.passed);
        reached = refl;
        bytes = ap (λ xs. xs ++ written end) s.bytes
            ∙ append_assoc (written (Side n)) (each (round_bytes n cells) 0 n) (written end);
        told_cells = λ m among.
            let f = s.held.from_cells m among in
            let below = before_end n m.round m.venue f.0 in
            (below.0, below.1, f.1);
        cells_told = λ r v a b hr hv. s.held.from_meetings r v a b (inl (hr, hv));
        count = omega (arith, (between_size before n n s.passed s.reached).count);
      }

-- What the questions make sure of: no two meetings that passed are in each other's way. Assumes nothing.
--     team_of u m             the team u plays in the meeting m
--     Share x y               the meetings x and y have a team in common
--     Apart Clash ms          no two meetings of the list ms clash
--     SameRound, SameVenue    two meetings share a team in one round, at one venue
--     SameTeams, SameCell     two meetings have the same two teams, the same round and venue
--     InRange n m             the round, the venue and the teams of m are those of a square of side n
--     Fair n ms               the meetings ms are in range, and no two of them clash
--     Kept n past             what holds after commands that passed
use Rattle.std.proofs.Common.{◌≡◌, ℕ, ◌+◌, ◌<◌, ◌≤◌, Bool, true, false, eqb, List, [], ◌∷◌, sym, ap, ◌∙◌, subst, inl, inr, arith}
use Rattle.std.proofs.lemmas.Bool.{cases_lt, and_from, and_parts, or_cases, both_ways, eq-eqb, eqb-true, ltb-true, false≢true}
use Rattle.squares.specs.Cells.{meet, plays}
use Rattle.sheets.specs.Judgements.{rises}
use Rattle.sheets.specs.Meetings.{Meeting, Among, last_round, meetings, any, in_round, at_venue, of_two}
use Rattle.sheets.specs.Stages.{stage, side_of, rounds_of, begun_of, is_open}
use Rattle.sheets.specs.declared.command.Command.{Command}
use Rattle.sheets.specs.declared.command.Command.TheVariants.{Side, Round, Meet, Close, End}
use Rattle.sheets.specs.declared.stage.Stage.{Stage}
use Rattle.sheets.specs.declared.stage.Stage.TheVariants.{Start, Between, Open, Done}
use Rattle.sheets.proofs.Among.{any_found, none_among}
use Rattle.sheets.proofs.Everyone.{everyone_passes}
use Rattle.sheets.proofs.Noting.{open_round}
use Rattle.sheets.proofs.Passing.{Passed}
use Rattle.sheets.proofs.Yes.{MeetYes, side_yes, round_yes, meet_yes, close_yes}

abbrev pub team_of : ℕ → Meeting → Type 0
team_of u m = plays u (meet m.lower m.higher) ≡ true

abbrev pub Share : Meeting → Meeting → Type 0
Share x y = (u : ℕ) × team_of u x × team_of u y

-- two meetings with Clash are one and the same
abbrev pub Apart : (Meeting → Meeting → Type 0) → List Meeting → Type 0
Apart Clash ms = (x y : Meeting) → Among ms x → Among ms y → Clash x y → x ≡ y

-- one meeting more is apart from the others when it clashes with none of them
apart_more : (Clash : Meeting → Meeting → Type 0) → ((x y : Meeting) → Clash x y → Clash y x) → (new : Meeting) (ms : List Meeting)
    → Apart Clash ms → ((x : Meeting) → Among ms x → Clash new x → ⊥) → Apart Clash (new ∷ ms)
apart_more Clash turned new ms apart free x y (inl e) (inl f) c = sym e ∙ f
apart_more Clash turned new ms apart free x y (inl e) (inr b) c = absurd (free y b (subst (λ (z : Meeting). Clash z y) (sym e) c))
apart_more Clash turned new ms apart free x y (inr a) (inl f) c =
    absurd (free x a (subst (λ (z : Meeting). Clash z x) (sym f) (turned x y c)))
apart_more Clash turned new ms apart free x y (inr a) (inr b) c = apart x y a b c

abbrev pub SameRound : Meeting → Meeting → Type 0
SameRound x y = (x.round ≡ y.round) × Share x y

abbrev pub SameVenue : Meeting → Meeting → Type 0
SameVenue x y = (x.venue ≡ y.venue) × Share x y

abbrev pub SameTeams : Meeting → Meeting → Type 0
SameTeams x y = (x.lower ≡ y.lower) × (x.higher ≡ y.higher)

abbrev pub SameCell : Meeting → Meeting → Type 0
SameCell x y = (x.round ≡ y.round) × (x.venue ≡ y.venue)

pub record InRange (n : ℕ) (m : Meeting) : Type 0 where
  pub round_below : m.round < n
  pub venue_below : m.venue < n
  pub lower_first : m.lower < m.higher
  pub teams_below : m.higher ≤ n

pub record Fair (n : ℕ) (ms : List Meeting) : Type 0 where
  pub in_range : (m : Meeting) → Among ms m → InRange n m
  pub round_apart : Apart SameRound ms
  pub venue_apart : Apart SameVenue ms
  pub teams_apart : Apart SameTeams ms
  pub cell_apart : Apart SameCell ms

-- the rounds closed are full, no meeting is in a round to come, and the venues of the open round rise
pub record Kept (n : ℕ) (past : List Command) : Type 0 where
  pub fair : Fair n (meetings past)
  pub in_side : begun_of (stage past) ≤ n
  pub begun : (m : Meeting) → Among (meetings past) m → m.round < begun_of (stage past)
  pub rising : is_open (stage past) ≡ true → (m : Meeting) (v : ℕ) → Among (meetings past) m → m.round ≡ rounds_of (stage past)
      → rises v past ≡ true → m.venue < v
  pub all_play : (r u : ℕ) → r < rounds_of (stage past) → u ≤ n
      → (m : Meeting) × Among (meetings past) m × (m.round ≡ r) × team_of u m

-- the side of the sheet is n, or not read yet
abbrev pub Fits : ℕ → Stage → Type 0
Fits n Start = Unit {0}
Fits n (Between m k) = m ≡ n
Fits n (Open m r) = m ≡ n
Fits n Done = ⊥

-- a meeting that passes clashes with no earlier one
module _ (n v a b : ℕ) (past : List Command) (y : MeetYes past v a b) (kept : Kept n past) where
  abbrev new : Meeting
  new = record { round = last_round past; venue = v; lower = a; higher = b }

  abbrev earlier : List Meeting
  earlier = meetings past

  this_round : last_round past ≡ y.round
  this_round = open_round past y.side y.round y.open_round

  -- where a test finds neither team of the new meeting, it finds no team of it
  neither : (test : ℕ → Meeting → Bool) (u : ℕ) (x : Meeting) → any (test a) earlier ≡ false → any (test b) earlier ≡ false
      → team_of u new → Among earlier x → test u x ≡ true → ⊥
  neither test u x na nb t h found =
      elim (or_cases (eqb a u) (eqb b u) t) [
        | inl e ↦
            both_ways (test a x) (none_among (test a) earlier x na h) (subst (λ (w : ℕ). test w x ≡ true) (sym (eqb-true a u e)) found)
        | inr e ↦
            both_ways (test b x) (none_among (test b) earlier x nb h) (subst (λ (w : ℕ). test w x ≡ true) (sym (eqb-true b u e)) found)
      ]

  round_free : (x : Meeting) → Among earlier x → SameRound new x → ⊥
  round_free x h (e, (u, t, s)) =
      neither (in_round y.round) u x y.lower_new y.higher_new t h
      (and_from (eqb x.round y.round) _ (eq-eqb x.round y.round (sym e ∙ this_round)) s)

  venue_free : (x : Meeting) → Among earlier x → SameVenue new x → ⊥
  venue_free x h (e, (u, t, s)) =
      neither (at_venue v) u x y.lower_away y.higher_away t h (and_from (eqb x.venue v) _ (eq-eqb x.venue v (sym e)) s)

  teams_free : (x : Meeting) → Among earlier x → SameTeams new x → ⊥
  teams_free x h (e, f) =
      both_ways (of_two a b x) (none_among (of_two a b) earlier x y.not_met h)
      (and_from (eqb x.lower a) (eqb x.higher b) (eq-eqb x.lower a (sym e)) (eq-eqb x.higher b (sym f)))

  cell_free : (x : Meeting) → Among earlier x → SameCell new x → ⊥
  cell_free x h (e, f) =
      let below : x.venue < v = kept.rising (ap is_open y.open_round) x v h
      (sym e ∙ this_round ∙ sym (ap rounds_of y.open_round)) y.rising in
      omega arith

  shared_turned : (x z : Meeting) → Share x z → Share z x
  shared_turned x z (u, t, s) = (u, s, t)

  new_in_range : y.side ≡ n → InRange n new
  new_in_range s =
      let r : begun_of (stage past) ≡ y.round + 1 = ap begun_of y.open_round in
      record {
        round_below = omega (arith, kept.in_side, this_round);
        venue_below = omega (arith, y.venue_below);
        lower_first = y.lower_first;
        teams_below = omega (arith, y.teams_below);
      }

  fair_more : y.side ≡ n → Fair n (new ∷ earlier)
  fair_more s =
      let f = kept.fair in
      record {
        in_range = λ m h. elim h [ inl e ↦ subst (InRange n) e (new_in_range s) | inr h ↦ f.in_range m h ];
        round_apart = apart_more SameRound (λ x z c. (sym c.0, shared_turned x z c.1)) new earlier f.round_apart round_free;
        venue_apart = apart_more SameVenue (λ x z c. (sym c.0, shared_turned x z c.1)) new earlier f.venue_apart venue_free;
        teams_apart = apart_more SameTeams (λ x z c. (sym c.0, sym c.1)) new earlier f.teams_apart teams_free;
        cell_apart = apart_more SameCell (λ x z c. (sym c.0, sym c.1)) new earlier f.cell_apart cell_free;
      }

  kept_meet : y.side ≡ n → Kept n (Meet v a b ∷ past)
  kept_meet s =
      let r : begun_of (stage past) ≡ y.round + 1 = ap begun_of y.open_round in
      record {
        fair = fair_more s;
        in_side = kept.in_side;
        begun = λ m h. elim h [
          | inl e ↦ let q : last_round past ≡ m.round = ap (λ (x : Meeting). x.round) e in omega (arith, this_round)
          | inr h ↦ kept.begun m h
        ];
        rising = λ o m w h e t.
            let below : v < w = ltb-true v w t in
            elim h [
              | inl q ↦ let z : v ≡ m.venue = ap (λ (x : Meeting). x.venue) q in omega arith
              | inr h ↦ omega (arith, kept.rising o m v h e y.rising)
            ];
        all_play = λ q u h w. let f = kept.all_play q u h w in (f.0, inr f.1, f.2, f.3);
      }

module _ (n : ℕ) where
  pub kept : (past : List Command) → Passed past → Fits n (stage past) → Kept n past
  kept [] p f =
      record {
        fair = record {
          in_range = λ m h. absurd h;
          round_apart = λ x y h. absurd h;
          venue_apart = λ x y h. absurd h;
          teams_apart = λ x y h. absurd h;
          cell_apart = λ x y h. absurd h;
        };
        in_side = omega arith;
        begun = λ m h. absurd h;
        rising = λ o. absurd (false≢true o);
        all_play = λ r u h. absurd (omega arith);
      }
  kept (Side m ∷ past) p f =
      let y = side_yes past m p.0 in
      let k = kept past p.1 (subst (Fits n) (sym y.first_of_all) tt) in
      let z : begun_of (stage past) ≡ 0 = ap begun_of y.first_of_all in
      record {
        fair = k.fair;
        in_side = omega arith;
        begun = λ x h. omega (arith, k.begun x h);
        rising = λ o. absurd (false≢true o);
        all_play = λ r u h. absurd (omega arith);
      }
  kept (Round r ∷ past) p f =
      let y = round_yes past r p.0 in
      let s : side_of (stage past) ≡ y.side = ap side_of y.between in
      let k = kept past p.1 (subst (Fits n) (sym y.between) (sym s ∙ f)) in
      let z : begun_of (stage past) ≡ r = ap begun_of y.between in
      let q : rounds_of (stage past) ≡ r = ap rounds_of y.between in
      record {
        fair = k.fair;
        in_side = omega (arith, y.missing, f);
        begun = λ x h. omega (arith, k.begun x h);
        rising = λ o m v h e t. absurd (omega (arith, k.begun m h));
        all_play = λ i u h w. k.all_play i u (omega arith) w;
      }
  kept (Meet v a b ∷ past) p f =
      let y = meet_yes past v a b p.0 in
      kept_meet n v a b past y (kept past p.1 f) (subst (Fits n) y.open_round f)
  kept (Close ∷ past) p f =
      let y = close_yes past p.0 in
      let s : side_of (stage past) ≡ y.side = ap side_of y.open_round in
      let side : y.side ≡ n = sym s ∙ f in
      let k = kept past p.1 (subst (Fits n) (sym y.open_round) side) in
      let z : begun_of (stage past) ≡ y.round + 1 = ap begun_of y.open_round in
      let q : rounds_of (stage past) ≡ y.round = ap rounds_of y.open_round in
      record {
        fair = k.fair;
        in_side = omega (arith, k.in_side);
        begun = λ x h. omega (arith, k.begun x h);
        rising = λ o. absurd (false≢true o);
        all_play = λ r u h w.
            elim (cases_lt r (rounds_of (stage past))) [
              | inl below ↦ k.all_play r u below w
              | inr last ↦
                  let played = everyone_passes (λ t. any (in_round y.round t) (meetings past)) y.side u y.all (omega arith) in
                  let m = any_found (in_round y.round u) (meetings past) played in
                  let parts = and_parts (eqb m.0.round y.round) _ m.2 in
                  let same : m.0.round ≡ y.round = eqb-true m.0.round y.round parts.0 in
                  (m.0, m.1, omega arith, parts.1)
            ];
      }
  kept (End m ∷ past) p f = absurd f

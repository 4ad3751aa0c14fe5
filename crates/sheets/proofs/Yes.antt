-- What it means that no question of a command is answered no, for each command. Assumes nothing.
--     SideYes .. EndYes     all questions of the command are answered yes
use Rattle.std.proofs.Common.{◌≡◌, ℕ, ◌%◌, ◌<◌, ◌≤◌, Bool, true, false, ◌&&◌, eqb, ltb, leb, List, [], ◌∷◌, None, sym, refl, subst, arith}
use Rattle.std.proofs.lemmas.Bool.{and_parts, and_from, or_parts, not-true, eq-eqb, eqb-true, le-leb, leb-true, lt-ltb, ltb-true, false≢true}
use Rattle.groups.specs.Tables.{OddOrder}
use Rattle.groups.specs.declared.refusal.Refusal.{Refusal}
use Rattle.sheets.specs.Judgements.{rises, everyone, questions, first_no, question}
use Rattle.sheets.specs.Meetings.{Meeting, meetings, any, in_round, at_venue, of_two}
use Rattle.sheets.specs.Sheets.{meetings_in}
use Rattle.sheets.specs.Stages.{stage, side_of, rounds_of, is_start, is_between, is_open}
use Rattle.sheets.specs.declared.command.Command.{Command}
use Rattle.sheets.specs.declared.command.Command.TheVariants.{Side, Round, Meet, Close, End}
use Rattle.sheets.specs.declared.stage.Stage.{Stage}
use Rattle.sheets.specs.declared.stage.Stage.TheVariants.{Start, Between, Open, Done}

abbrev AllYes : List (Refusal × Bool) → Type 0
AllYes [] = Unit {0}
AllYes (q ∷ qs) = (q.1 ≡ true) × AllYes qs

all_yes : (qs : List (Refusal × Bool)) → first_no qs ≡ None → AllYes qs
all_yes [] e = tt
all_yes ((q, true) ∷ qs) e = (refl, all_yes qs e)
all_yes ((q, false) ∷ qs) e = absurd (cc)

pub at_start : (s : Stage) → is_start s ≡ true → s ≡ Start
at_start Start t = refl
at_start (Between n k) t = absurd (false≢true t)
at_start (Open n r) t = absurd (false≢true t)
at_start Done t = absurd (false≢true t)

pub at_between : (s : Stage) → is_between s ≡ true → s ≡ Between (side_of s) (rounds_of s)
at_between Start t = absurd (false≢true t)
at_between (Between n k) t = refl
at_between (Open n r) t = absurd (false≢true t)
at_between Done t = absurd (false≢true t)

pub at_open : (s : Stage) → is_open s ≡ true → s ≡ Open (side_of s) (rounds_of s)
at_open Start t = absurd (false≢true t)
at_open (Between n k) t = absurd (false≢true t)
at_open (Open n r) t = refl
at_open Done t = absurd (false≢true t)

pub record SideYes (past : List Command) (n : ℕ) : Type 0 where
  pub first_of_all : stage past ≡ Start
  pub odd : OddOrder n

pub record RoundYes (past : List Command) (r : ℕ) : Type 0 where
  pub side : ℕ
  pub between : stage past ≡ Between side r
  pub missing : r < side

pub record MeetYes (past : List Command) (v a b : ℕ) : Type 0 where
  pub side : ℕ
  pub round : ℕ
  pub open_round : stage past ≡ Open side round
  pub venue_below : v < side
  pub rising : rises v past ≡ true
  pub lower_first : a < b
  pub teams_below : b ≤ side
  pub lower_new : any (in_round round a) (meetings past) ≡ false
  pub higher_new : any (in_round round b) (meetings past) ≡ false
  pub lower_away : any (at_venue v a) (meetings past) ≡ false
  pub higher_away : any (at_venue v b) (meetings past) ≡ false
  pub not_met : any (of_two a b) (meetings past) ≡ false

pub record CloseYes (past : List Command) : Type 0 where
  pub side : ℕ
  pub round : ℕ
  pub open_round : stage past ≡ Open side round
  pub all : everyone side (λ u. any (in_round round u) (meetings past)) ≡ true

pub record EndYes (past : List Command) (m : ℕ) : Type 0 where
  pub side : ℕ
  pub between : stage past ≡ Between side side
  pub count : m ≡ meetings_in side

pub side_yes : (past : List Command) (n : ℕ) → question past (Side n) ≡ None → SideYes past n
side_yes past n e =
    let y = all_yes (questions past (Side n)) e in
    let odd = and_parts (eqb (n % 2) 1) (leb 3 n && leb n 127) y.1.0 in
    let bounds = and_parts (leb 3 n) (leb n 127) odd.1 in
    record {
      first_of_all = at_start (stage past) y.0;
      odd = (eqb-true (n % 2) 1 odd.0, leb-true 3 n bounds.0, leb-true n 127 bounds.1);
    }

pub round_yes : (past : List Command) (r : ℕ) → question past (Round r) ≡ None → RoundYes past r
round_yes past r e =
    let s : Stage = stage past in
    let y = all_yes (questions past (Round r)) e in
    let turn = and_parts (is_between s) (ltb (rounds_of s) (side_of s)) y.0 in
    let same : r ≡ rounds_of s = eqb-true r (rounds_of s) y.1.0 in
    let below : rounds_of s < side_of s = ltb-true (rounds_of s) (side_of s) turn.1 in
    record {
      side = side_of s;
      between = subst (λ (x : ℕ). s ≡ Between (side_of s) x) (sym same) (at_between s turn.0);
      missing = omega arith;
    }

pub meet_yes : (past : List Command) (v a b : ℕ) → question past (Meet v a b) ≡ None → MeetYes past v a b
meet_yes past v a b e =
    let s : Stage = stage past in
    let test : (Meeting → Bool) → Bool = λ t. any t (meetings past) in
    let y = all_yes (questions past (Meet v a b)) e in
    let range = and_parts (ltb v (side_of s) && rises v past) (ltb a b && leb b (side_of s)) y.1.0 in
    let venue = and_parts (ltb v (side_of s)) (rises v past) range.0 in
    let teams = and_parts (ltb a b) (leb b (side_of s)) range.1 in
    let new = or_parts (test (in_round (rounds_of s) a)) (test (in_round (rounds_of s) b)) (not-true _ y.1.1.0) in
    let away = or_parts (test (at_venue v a)) (test (at_venue v b)) (not-true _ y.1.1.1.0) in
    record {
      side = side_of s;
      round = rounds_of s;
      open_round = at_open s y.0;
      venue_below = ltb-true v (side_of s) venue.0;
      rising = venue.1;
      lower_first = ltb-true a b teams.0;
      teams_below = leb-true b (side_of s) teams.1;
      lower_new = new.0;
      higher_new = new.1;
      lower_away = away.0;
      higher_away = away.1;
      not_met = not-true (test (of_two a b)) y.1.1.1.1.0;
    }

pub close_yes : (past : List Command) → question past Close ≡ None → CloseYes past
close_yes past e =
    let s : Stage = stage past in
    let y = all_yes (questions past Close) e in
    record { side = side_of s; round = rounds_of s; open_round = at_open s y.0; all = y.1.0 }

pub end_yes : (past : List Command) (m : ℕ) → question past (End m) ≡ None → EndYes past m
end_yes past m e =
    let s : Stage = stage past in
    let y = all_yes (questions past (End m)) e in
    let turn = and_parts (is_between s) (eqb (rounds_of s) (side_of s)) y.0 in
    let closed : rounds_of s ≡ side_of s = eqb-true (rounds_of s) (side_of s) turn.1 in
    record {
      side = side_of s;
      between = subst (λ (x : ℕ). s ≡ Between (side_of s) x) closed (at_between s turn.0);
      count = eqb-true m (meetings_in (side_of s)) y.1.0;
    }

-- and back
pub side_passes : (past : List Command) (n : ℕ) → SideYes past n → question past (Side n) ≡ None
side_passes past n y =
    let o = y.odd in
    let p = and_from (eqb (n % 2) 1) (leb 3 n && leb n 127) (eq-eqb (n % 2) 1 o.0) (and_from (leb 3 n) (leb n 127) (le-leb 3 n o.1) (le-leb n 127 o.2)) in
    simp (y.first_of_all, p)

pub round_passes : (past : List Command) (r : ℕ) → RoundYes past r → question past (Round r) ≡ None
round_passes past r y = simp (y.between, lt-ltb r y.side y.missing, eq-eqb r r refl)

pub meet_passes : (past : List Command) (v a b : ℕ) → MeetYes past v a b → question past (Meet v a b) ≡ None
meet_passes past v a b y =
    simp (
      y.open_round,
      lt-ltb v y.side y.venue_below,
      y.rising,
      lt-ltb a b y.lower_first,
      le-leb b y.side y.teams_below,
      y.lower_new,
      y.higher_new,
      y.lower_away,
      y.higher_away,
      y.not_met,
    )

pub close_passes : (past : List Command) → CloseYes past → question past Close ≡ None
close_passes past y = simp (y.open_round, y.all)

pub end_passes : (past : List Command) (m : ℕ) → EndYes past m → question past (End m) ≡ None
end_passes past m y = simp (y.between, eq-eqb y.side y.side refl, eq-eqb m (meetings_in y.side) y.count)

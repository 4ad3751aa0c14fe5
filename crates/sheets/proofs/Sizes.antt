-- How many bytes have been read after commands that passed, and how many meetings they tell of. Assumes nothing.
--     Closed past n k     of a sheet of side n the first k rounds have been read: 2 bytes of SIDE, 2n + 5 of each round
--     Opened past n r     those before round r have been read, and that round is open: 2 bytes of ROUND, 2 for each team so far
--     Complete past       a sheet has been read to its end: after all of its rounds 3 bytes of END
--     Sized past s        which of these holds at the stage s
use Rattle.std.proofs.Common.{◌≡◌, ℕ, ◌+◌, ◌*◌, ◌<◌, ◌≤◌, List, [], ◌∷◌, length, sym, refl, ap, ◌∙◌, subst, inl, inr, suc-mul, mul-le-mul, arith}
use Rattle.std.proofs.lemmas.List.{length-append}
use Rattle.groups.specs.Tables.{OddOrder}
use Rattle.sheets.specs.Commands.{written}
use Rattle.sheets.specs.Meetings.{Meeting, told, last_round, meetings}
use Rattle.sheets.specs.Stages.{stage, after}
use Rattle.sheets.specs.declared.command.Command.{Command}
use Rattle.sheets.specs.declared.command.Command.TheVariants.{Side, Round, Meet, Close, End}
use Rattle.sheets.specs.declared.stage.Stage.{Stage}
use Rattle.sheets.specs.declared.stage.Stage.TheVariants.{Start, Between, Open, Done}
use Rattle.sheets.proofs.Noting.{open_round}
use Rattle.sheets.proofs.Passing.{Passed}
use Rattle.sheets.proofs.Playing.{Before, Playing, nobody_plays, two_more_play, few_play, all_play}
use Rattle.sheets.proofs.Yes.{MeetYes, CloseYes, side_yes, round_yes, meet_yes, close_yes, end_yes}

pub record Closed (past : List Command) (n k : ℕ) : Type 0 where
  pub odd : OddOrder n
  pub closed : k ≤ n
  pub size : length (told past) ≡ 2 + k * (2 * n + 5)
  pub count : 2 * length (meetings past) ≡ k * (n + 1)
  pub before : Before (meetings past) k

record Opened (past : List Command) (n r : ℕ) : Type 0 where
  pub teams : List ℕ
  pub odd : OddOrder n
  pub opened : r < n
  pub size : length (told past) ≡ 2 + r * (2 * n + 5) + 2 + 2 * length teams
  pub count : 2 * length (meetings past) ≡ r * (n + 1) + length teams
  pub before : Before (meetings past) (r + 1)
  pub playing : Playing n r (meetings past) teams

record Complete (past : List Command) : Type 0 where
  pub side : ℕ
  pub odd : OddOrder side
  pub size : length (told past) ≡ 5 + side * (2 * side + 5)

-- nothing has been read at the start
abbrev Sized : List Command → Stage → Type 0
Sized past Start = past ≡ []
Sized past (Between n k) = Closed past n k
Sized past (Open n r) = Opened past n r
Sized past Done = Complete past

-- from stage to stage
side_sized : (past : List Command) (n : ℕ) → OddOrder n → past ≡ [] → Closed (Side n ∷ past) n 0
side_sized past n odd nothing =
    subst (λ (xs : List Command). Closed (Side n ∷ xs) n 0) (sym nothing)
    (record { odd = odd; closed = omega arith; size = omega arith; count = omega arith; before = λ m a. absurd a })

round_sized : (past : List Command) (n r : ℕ) → r < n → Closed past n r → Opened (Round r ∷ past) n r
round_sized past n r h c =
    let l = length-append (told past) (written (Round r)) in
    record {
      teams = [];
      odd = c.odd;
      opened = h;
      size = omega (arith, c.size);
      count = omega (arith, c.count);
      before = λ m a. omega (arith, c.before m a);
      playing = nobody_plays n r (meetings past) c.before;
    }

meet_sized : (past : List Command) (v a b : ℕ) (y : MeetYes past v a b) → Opened past y.side y.round
    → Opened (Meet v a b ∷ past) y.side y.round
meet_sized past v a b y o =
    let m : Meeting = record { round = last_round past; venue = v; lower = a; higher = b } in
    let now : m.round ≡ y.round = open_round past y.side y.round y.open_round in
    let l = length-append (told past) (written (Meet v a b)) in
    record {
      teams = b ∷ a ∷ o.teams;
      odd = o.odd;
      opened = o.opened;
      size = omega (arith, o.size);
      count = omega (arith, o.count);
      before = λ x among.
          elim among [
            | inl same ↦ let as_now : x.round ≡ y.round = ap (λ (z : Meeting). z.round) (sym same) ∙ now in omega arith
            | inr earlier ↦ o.before x earlier
          ];
      playing = two_more_play y.side y.round (meetings past) o.teams o.playing m now y.lower_first y.teams_below
          y.lower_new y.higher_new;
    }

one_more : (r c : ℕ) → (r + 1) * c ≡ r * c + c
one_more r c = omega (arith, suc-mul r c)

close_sized : (past : List Command) (y : CloseYes past) → Opened past y.side y.round
    → Closed (Close ∷ past) y.side (y.round + 1)
close_sized past y o =
    let n : ℕ = y.side in
    let r : ℕ = y.round in
    let all : length o.teams ≡ n + 1 = all_play n r (meetings past) o.teams o.playing y.all in
    let l = length-append (told past) (written Close) in
    record {
      odd = o.odd;
      closed = omega (arith, o.opened);
      size = omega (arith, o.size, one_more r (2 * n + 5));
      count = omega (arith, o.count, one_more r (n + 1));
      before = o.before;
    }

end_sized : (past : List Command) (n m : ℕ) → Closed past n n → Complete (End m ∷ past)
end_sized past n m c =
    let l = length-append (told past) (written (End m)) in
    record { side = n; odd = c.odd; size = omega (arith, c.size) }

sized : (past : List Command) → Passed past → Sized past (stage past)
sized [] p = refl
sized (Side n ∷ past) p =
    let y = side_yes past n p.0 in
    side_sized past n y.odd (subst (Sized past) y.first_of_all (sized past p.1))
sized (Round r ∷ past) p =
    let y = round_yes past r p.0 in
    subst (Sized (Round r ∷ past)) (sym (ap (λ (s : Stage). after s (Round r)) y.between))
    (round_sized past y.side r y.missing (subst (Sized past) y.between (sized past p.1)))
sized (Meet v a b ∷ past) p =
    let y = meet_yes past v a b p.0 in
    subst (Sized (Meet v a b ∷ past)) (sym y.open_round)
    (meet_sized past v a b y (subst (Sized past) y.open_round (sized past p.1)))
sized (Close ∷ past) p =
    let y = close_yes past p.0 in
    subst (Sized (Close ∷ past)) (sym (ap (λ (s : Stage). after s Close) y.open_round))
    (close_sized past y (subst (Sized past) y.open_round (sized past p.1)))
sized (End m ∷ past) p =
    let y = end_yes past m p.0 in
    end_sized past y.side m (subst (Sized past) y.between (sized past p.1))

pub between_size : (past : List Command) (n k : ℕ) → Passed past → stage past ≡ Between n k → Closed past n k
between_size past n k p e = subst (Sized past) e (sized past p)

-- the bytes of an open round are fewer than those of a closed one
opened_size : (past : List Command) (n r : ℕ) → Opened past n r → length (told past) + 1 ≤ 2 + (r + 1) * (2 * n + 5)
opened_size past n r o =
    omega (arith, o.size, one_more r (2 * n + 5), few_play n r (meetings past) o.teams o.playing)

-- the rounds of the largest side: 127 of 259 bytes
rounds_short : (n k : ℕ) → OddOrder n → k ≤ n → k * (2 * n + 5) ≤ 32893
rounds_short n k odd h =
    let few : k ≤ 127 = omega (arith, odd.2) in
    let small : 2 * n + 5 ≤ 259 = omega (arith, odd.2) in
    mul-le-mul few small

sized_short : (past : List Command) (s : Stage) → Sized past s → length (told past) ≤ 32898
sized_short past Start nothing =
    let none : length (told past) ≡ 0 = ap (λ (xs : List Command). length (told xs)) nothing in
    omega arith
sized_short past (Between n k) c = omega (arith, c.size, rounds_short n k c.odd c.closed)
sized_short past (Open n r) o =
    omega (arith, opened_size past n r o, rounds_short n (r + 1) o.odd (omega (arith, o.opened)))
sized_short past Done c = omega (arith, c.size, rounds_short c.side c.side c.odd (omega arith))

pub told_short : (past : List Command) → Passed past → length (told past) ≤ 32898
told_short past p = sized_short past (stage past) (sized past p)

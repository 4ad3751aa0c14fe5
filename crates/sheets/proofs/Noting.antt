-- What the reader knows after a command. Assumes nothing.
use Rattle.std.proofs.Common.{◌≡◌, ℕ, ◌+◌, true, List, [], ◌∷◌, None, sym, ap, ◌∙◌}
use Rattle.std.proofs.lemmas.Bool.{false≢true}
use Rattle.sheets.specs.Judgements.{everyone, question}
use Rattle.sheets.specs.Stages.{stage, rounds_of, is_open}
use Rattle.sheets.specs.Meetings.{last_round, meetings, any, in_round}
use Rattle.sheets.specs.Tables.{Keeps}
use Rattle.sheets.specs.declared.command.Command.{Command}
use Rattle.sheets.specs.declared.command.Command.TheVariants.{Side, Round, Meet, Close, End}
use Rattle.sheets.specs.declared.reader.Reader.{Reader}
use Rattle.sheets.specs.declared.stage.Stage.TheVariants.{Between, Open}
use Rattle.sheets.proofs.Yes.{close_passes}

-- an open round is that of the last ROUND
pub open_round : (past : List Command) (n r : ℕ) → stage past ≡ Open n r → last_round past ≡ r
open_round [] n r e = absurd (false≢true (ap is_open e))
open_round (Side m ∷ past) n r e = absurd (false≢true (ap is_open e))
open_round (Round q ∷ past) n r e = ap rounds_of e
open_round (Meet v a b ∷ past) n r e = open_round past n r e
open_round (Close ∷ past) n r e = absurd (false≢true (ap is_open e))
open_round (End m ∷ past) n r e = absurd (false≢true (ap is_open e))

-- the reader knows as much of the meetings after CLOSE
module _ (reader next : Reader) (past : List Command) (k : Keeps reader past)
    (rounds : next.rounds ≡ reader.rounds) (venues : next.venues ≡ reader.venues) (met : next.met ≡ reader.met) where
  pub close_noted : (n r : ℕ) → reader.stage ≡ Open n r → everyone n (λ u. any (in_round r u) (meetings past)) ≡ true
      → next.stage ≡ Between n (r + 1) → (question past Close ≡ None) × Keeps next (Close ∷ past)
  close_noted n r e all t =
      let s : stage past ≡ Open n r = sym k.reached ∙ e in (
        close_passes past (record { side = n; round = r; open_round = s; all = all }),
        record {
          reached = rw s t;
          rounds = rw rounds k.rounds;
          venues = rw venues k.venues;
          met = rw met k.met;
          free = λ z. absurd (false≢true z);
        },
      )

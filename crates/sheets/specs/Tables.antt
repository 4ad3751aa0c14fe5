-- What the reader's tables hold. Assumes nothing.
--     Shows table test      the table has a mark for each two numbers below 128 that pass the test, and no other: the row of the
--                           first, at the place of the second
--     Keeps reader past     the reader knows the stage after the commands read so far, who has played in which round and at
--                           which venue, who has met, and which venues rise
use Rattle.std.specs.Prelude.{◌≡◌, ℕ, ◌<◌, Bool, true, false, List, [], nat_le, slice_index_or}
use Rattle.sheets.specs.Judgements.{rises}
use Rattle.sheets.specs.Stages.{stage, is_open}
use Rattle.sheets.specs.Meetings.{meetings, any, in_round, at_venue, of_two}
use Rattle.sheets.specs.declared.command.Command.{Command}
use Rattle.sheets.specs.declared.reader.Reader.{Reader}

pub record Shows (table : List (List Bool)) (test : ℕ → ℕ → Bool) : Type 0 where
  pub at : (a b : ℕ) → a < 128 → b < 128 → slice_index_or (slice_index_or table a []) b false ≡ test a b

pub record Keeps (reader : Reader) (past : List Command) : Type 0 where
  pub reached : reader.stage ≡ stage past
  pub rounds : Shows reader.rounds.rows (λ r u. any (in_round r u) (meetings past))
  pub venues : Shows reader.venues.rows (λ v u. any (at_venue v u) (meetings past))
  pub met : Shows reader.met.rows (λ a b. any (of_two a b) (meetings past))
  pub free : is_open (stage past) ≡ true → (v : ℕ) → rises v past ≡ nat_le reader.free v

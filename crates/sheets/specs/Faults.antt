-- Faults of a reading. Assumes nothing.
--     layer_name l         the name of a layer: bytes, form or league
--     layer_of q           the layer of a refusal: bytes for 13 and 14, form for 15 and 16, league for the rest
--     bytes_fault p q      the fault q at the place p where no command stands
--     round_in s           the round that is open at the stage s
--     venue_of c           the venue of the command c
--     from_to i j q        whether the number of q is from i to j
--     fault_of s c p q     the fault q of the command c, whose first byte has the place p, at the stage s: with 17 to 20 it
--                          names the round, with 17 to 19 the venue
use Rattle.std.specs.Prelude.{◌≡◌, ℕ, Bool, cond, ◌&&◌, List, Some, None, codes, Option, nat_le, refl}
use Rattle.groups.specs.Refusals.{number_of}
use Rattle.groups.specs.declared.refusal.Refusal.{Refusal}
use Rattle.groups.specs.declared.refusal.Refusal.TheVariants.{Idle}
use Rattle.sheets.specs.declared.command.Command.{Command}
use Rattle.sheets.specs.declared.command.Command.TheVariants.{Side, Round, Meet, Close, End}
use Rattle.sheets.specs.declared.fault.Fault.{Fault}
use Rattle.sheets.specs.declared.fault.Layer.{Layer}
use Rattle.sheets.specs.declared.fault.Layer.TheVariants.{Bytes, Form, League}
use Rattle.sheets.specs.declared.stage.Stage.{Stage}
use Rattle.sheets.specs.declared.stage.Stage.TheVariants.{Start, Between, Open, Done}

abbrev pub layer_name : Layer → List ℕ
layer_name Bytes = codes "bytes"
layer_name Form = codes "form"
layer_name League = codes "league"

abbrev pub layer_of : Refusal → Layer
layer_of q = cond (nat_le (number_of q) 14) Bytes (cond (nat_le (number_of q) 16) Form League)

abbrev pub bytes_fault : ℕ → Refusal → Fault
bytes_fault p q = record { refusal = q; place = p; layer = layer_of q; round = None; venue = None }

abbrev pub round_in : Stage → Option ℕ
round_in Start = None
round_in (Between n k) = None
round_in (Open n r) = Some r
round_in Done = None

abbrev pub venue_of : Command → Option ℕ
venue_of (Side n) = None
venue_of (Round r) = None
venue_of (Meet v a b) = Some v
venue_of Close = None
venue_of (End m) = None

abbrev pub from_to : ℕ → ℕ → Refusal → Bool
from_to i j q = nat_le i (number_of q) && nat_le (number_of q) j

abbrev pub fault_of : Stage → Command → ℕ → Refusal → Fault
fault_of s c p q =
    record {
      refusal = q;
      place = p;
      layer = layer_of q;
      round = cond (from_to 17 20 q) (round_in s) None;
      venue = cond (from_to 17 19 q) (venue_of c) None;
    }

-- An example.

a_team_is_idle : fault_of (Open 7 0) Close 8 Idle ≡ record { refusal = Idle; place = 8; layer = League; round = Some 0; venue = None }
a_team_is_idle = refl

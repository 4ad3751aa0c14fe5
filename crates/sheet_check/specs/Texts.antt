-- The lines of the answer, as bytes. Each ends with a line feed. Assumes nothing.
--     ended xs           the line xs with its line feed
--     accepted_line n    the bytes are the sheet of a Room square of side n; its meetings are counted
--     part name o        the part of a fault that has the name and the number that o holds; nothing where it holds none
--     refused_line f     the fault f: the refusal's number, the place, the layer, and the round and the venue where it has them
use Rattle.std.specs.Prelude.{◌≡◌, ℕ, List, [], ◌∷◌, ◌++◌, Some, None, codes, decimal, Option, refl}
use Rattle.std.specs.Fmt.{digits}
use Rattle.groups.specs.Refusals.{number_of}
use Rattle.groups.specs.declared.refusal.Refusal.TheVariants.{Met}
use Rattle.sheets.specs.Faults.{layer_name}
use Rattle.sheets.specs.Sheets.{meetings_in}
use Rattle.sheets.specs.declared.fault.Fault.{Fault}
use Rattle.sheets.specs.declared.fault.Layer.TheVariants.{League}

abbrev pub ended : List ℕ → List ℕ
ended xs = xs ++ (0x0a ∷ [])

abbrev pub accepted_line : ℕ → List ℕ
accepted_line n = codes "ACCEPTED SIDE " ++ (decimal n ++ (codes " MEETINGS " ++ ended (decimal (meetings_in n))))

abbrev pub part : List ℕ → Option ℕ → List ℕ
part name None = []
part name (Some k) = codes " " ++ (name ++ (codes " " ++ decimal k))

abbrev pub refused_line : Fault → List ℕ
refused_line f =
    codes "REFUSED " ++ (decimal (number_of f.refusal)
    ++ (codes " PLACE " ++ (decimal f.place
    ++ (codes " LAYER " ++ (layer_name f.layer
    ++ (part (codes "ROUND") f.round ++ ended (part (codes "VENUE") f.venue)))))))

-- Examples.

of_side_7 : accepted_line 7 ≡ ended (codes "ACCEPTED SIDE 7 MEETINGS 28")
unfolding digits
of_side_7 = refl

met_before : refused_line (record { refusal = Met; place = 23; layer = League; round = Some 1; venue = Some 3 })
    ≡ ended (codes "REFUSED 19 PLACE 23 LAYER league ROUND 1 VENUE 3")
unfolding digits
met_before = refl

-- The tree of each input that is made from a number: a bridge with 4 ports, and six extenders with 8 ports each in two
-- chains.
use Rattle.std.specs.Prelude.{ℕ, List, [], ◌∷◌, slice_index}
use Rattle.exb_model.specs.declared.command.Command.{Command}
use Rattle.exb_model.specs.declared.setup.Place.{Place}
use Rattle.exb_model.specs.declared.setup.Place.TheVariants as place
use Rattle.exb_model.specs.declared.setup.ExtenderSetup.{ExtenderSetup}
use Rattle.exb_model.specs.declared.setup.Setup.{Setup}
use Rattle.exb_model.specs.Setup.{shape_of}
use Rattle.exb_model.specs.Tree.{Shape, external_ports}

abbrev pub hung : ℕ → Place → ExtenderSetup
hung n on = record { number = n; ports = 8; on = on }

abbrev pub extenders : List ExtenderSetup
extenders =
    hung 1 (place.Bridge 1) ∷ hung 2 (place.Bridge 2) ∷ hung 3 (place.Extender 1 8) ∷ hung 4 (place.Extender 3 8)
    ∷ hung 5 (place.Extender 2 8) ∷ hung 6 (place.Extender 5 8) ∷ []

-- all numbers are the defaults
abbrev pub setup_with : List Command → Setup
setup_with start = record {
  ports = 4;
  extenders = extenders;
  channels = 4094;
  groups = 12288;
  ageing = 300;
  start = start;
}

unfoldable pub site : Shape
site = shape_of (setup_with [])

-- its external ports, in port order: 46 of them
unfoldable pub site_ports : List ℕ
site_ports = external_ports site

-- the external port of that number, 0 to 45
abbrev pub port_at : ℕ → ℕ
port_at n = slice_index site_ports n

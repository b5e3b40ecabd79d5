-- The input that is made from a number.
use Rattle.std.specs.Prelude.{◌≡◌, ℕ, ◌==◌, false, List, [], ◌++◌, map, filter}
use Rattle.exb_model.specs.declared.command.Command.{Command}
use Rattle.exb_model.specs.declared.setup.Timed.{Timed}
use Rattle.exb_model.specs.Input.{Input, Record, given_by, tree_of}
use Rattle.exb_model.specs.Tree.{is_external}
use Rattle.exb_model.specs.Setup.{IsValid}
use Rattle.rand_pcg.specs.Lcg.{Lcg}
use Rattle.exb_make.specs.Draws.{generator_of}
use Rattle.exb_make.specs.GeneratedTree.{setup_with}
use Rattle.exb_make.specs.DrawOrder.{Frame, memberships, pvids, orders, frames}

-- all that is drawn
pub record Drawn : Type 0 where
  pub start : List Command
  pub commands : List Timed
  pub frames : List Frame

unfoldable pub all_drawn : Lcg → Drawn
all_drawn g =
    let joined = memberships g in
    let ruled = pvids joined.1 in
    let ordered = orders ruled.1 in
    record { start = joined.0 ++ ruled.0; commands = ordered.0; frames = (frames ordered.1).0 }

-- the records that arrive at a port
unfoldable pub records_at : List Frame → ℕ → List Record
records_at fs q = map (λ f. f.record_there) (filter (λ f. f.port == q) fs)

-- the input of draws
abbrev pub input_of : Drawn → Input
input_of d = record { setup = setup_with d.start; commands = map given_by d.commands; records = records_at d.frames }

-- the input that is made from a number
unfoldable pub made : ℕ → Input
made number = input_of (all_drawn (generator_of number))

-- ---- laws
-- its setup is valid
abbrev pub MadeIsValid : Type 0
MadeIsValid = (number : ℕ) → IsValid (made number).setup

-- no frame arrives anywhere but at an external port
abbrev pub ArrivesAtExternals : Type 0
ArrivesAtExternals = (number q : ℕ) → is_external (tree_of (made number)) q ≡ false → (made number).records q ≡ []

-- How the ports of a frame are chosen.
use Rattle.std.specs.Prelude.{ℕ, Bool, true, ◌==◌, if◌then◌else◌, List, Option, Some, None}
use Rattle.exb_model.specs.declared.rules.StaticAt.{StaticAt}
use Rattle.exb_model.specs.Ports.{port_in}
use Rattle.exb_model.specs.Frames.{is_group}
use Rattle.exb_model.specs.Configuration.{Bridge}
use Rattle.exb_model.specs.Learning.{Look}
use Rattle.exb_model.specs.Targets.{static_for}
use Rattle.exb_relay.specs.declared.choice.EgressChoice.{EgressChoice}
use Rattle.exb_relay.specs.declared.choice.EgressChoice.TheVariants.{All, Listed, Learned}

abbrev pub choice_by : Option StaticAt → Option ℕ → EgressChoice
choice_by (Some e) learned_port = Listed e.ports
choice_by None (Some r) = Learned r
choice_by None None = All

-- for destination m in VLAN v: the static entry, else the learned port of an individual address, else all
abbrev pub choice : Bridge → Look → ℕ → List ℕ → EgressChoice
choice b look v m = choice_by (static_for b.statics v m) (if is_group m then None else look v m)

-- the port is chosen
abbrev pub is_chosen_in : EgressChoice → ℕ → Bool
is_chosen_in All q = true
is_chosen_in (Listed ports) q = port_in ports q
is_chosen_in (Learned r) q = q == r

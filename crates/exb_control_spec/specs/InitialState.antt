-- How the machine begins.
use Rattle.std.specs.Prelude.{ℕ, ◌<◌, ◌≤◌, Bool, false, List, [], ◌∷◌, None, fold, filter, flat_map, map, nat_le, ◌&&◌}
use Rattle.exb_model.specs.Ports.{all_ports}
use Rattle.exb_model.specs.Tree.{Shape, device, trunk, is_port, is_cascade, cascades_under, by_depth, externals_of}
use Rattle.exb_model.specs.Setup.{Limits}
use Rattle.exb_model.specs.Configuration.{Bridge}
use Rattle.exb_csp.specs.Sessions.AskingEnd.{begun}
use Rattle.exb_control_spec.specs.Plans.HeldNumbers.{Held, free_channel, give_channel}
use Rattle.exb_control_spec.specs.declared.job.Job.{Job}
use Rattle.exb_control_spec.specs.declared.job.Job.TheVariants as job
use Rattle.exb_control_spec.specs.Machine.{State}

abbrev pub nothing_held : Held
nothing_held = record { port = λ k c. None; set = λ k g. [] }

-- a port gets the lowest free channel of its trunk
abbrev pub with_channel_of : Shape → Limits → Held → ℕ → Held
with_channel_of t l h p = give_channel t p (free_channel l.channels h (trunk t (device p))) h

-- port q is a cascade port of an extender
abbrev pub is_deep : Shape → ℕ → Bool
is_deep t q = nat_le 64 q && (is_port t q && is_cascade t q)

-- those ports, in port order
unfoldable pub deep_cascades : Shape → List ℕ
deep_cascades t = filter (is_deep t) all_ports

-- They have channels from the start.
unfoldable pub first_held : Shape → Limits → Held
first_held t l = fold (with_channel_of t l) nothing_held (deep_cascades t)

-- for each extender its opening, then the automatic up of each of its external ports
abbrev pub jobs_of : Shape → ℕ → List Job
jobs_of t n = job.Opening n ∷ map job.AutomaticUp (externals_of t n)

-- by depth and number of the extenders
unfoldable pub first_jobs : Shape → List Job
first_jobs t = flat_map (jobs_of t) (by_depth t)

-- the state to begin with, over a configuration
abbrev pub first_state : Shape → Limits → Bridge → State
first_state t l b =
    record {
      queue = first_jobs t;
      work = None;
      bridge = b;
      held = first_held t l;
      heard = λ n. false;
      askers = λ n. begun;
      given = 0;
    }

-- ---- what the code begins with
-- The cascade ports of extenders suffice for the channels.
abbrev pub HasChannels : Shape → Limits → Type 0
HasChannels t l = (l.channels ≤ 4094) × ((k : ℕ) → k < 64 → cascades_under t k ≤ l.channels)

-- What becomes of a job when its turn comes: it is refused, or there is a change with its numbers claimed.
use Rattle.std.specs.Prelude.{ℕ, ◌+◌, ◌*◌, ◌==◌, ◌&&◌, Bool, true, List, [], ◌∷◌, Option, Some, None, filter, flat_map, if◌then◌else◌}
use Rattle.std.specs.List.{list_any, range_with_len}
use Rattle.exb_model.specs.declared.command.Command.TheVariants as command
use Rattle.exb_model.specs.declared.event.Cause.{Cause}
use Rattle.exb_model.specs.Tree.{Shape, device, trunk, is_port, is_cascade}
use Rattle.exb_model.specs.Setup.{Limits}
use Rattle.exb_model.specs.Configuration.{Bridge, after}
use Rattle.exb_csp.specs.declared.message.Request.TheVariants.{Open}
use Rattle.exb_csp.specs.declared.ask_at.AskAt.{AskAt}
use Rattle.exb_control_spec.specs.declared.plan.change.Number.{Number}
use Rattle.exb_control_spec.specs.declared.plan.change.Change.{Change}
use Rattle.exb_control_spec.specs.Plans.ChangeRequests.{ask, create_asks}
use Rattle.exb_control_spec.specs.Plans.HeldNumbers.{Held, or_zero, channel_in}
use Rattle.exb_control_spec.specs.Plans.Differences.{refusal_between}
use Rattle.exb_control_spec.specs.Plans.Plans.{change_of, claimed}
use Rattle.exb_control_spec.specs.declared.job.Job.{Job}
use Rattle.exb_control_spec.specs.declared.job.Job.TheVariants as job

pub data Outcome : Type 0 where
  Refused : (cause : Cause) → Outcome
  -- the change, and what is held once its numbers are claimed
  Ready : (change : Change) (claimed : Held) → Outcome

-- by configuration and what is held
abbrev pub Decide : Type 0
Decide = Bridge → Held → Job → Outcome

-- ---- openings
-- the channel of a port in the space of its trunk; 0 where it has none
abbrev pub channel_of : Shape → Held → ℕ → ℕ
channel_of t h p = or_zero (channel_in h (trunk t (device p)) p)

-- the cascade ports of extender n, in order
unfoldable pub cascades_of : Shape → ℕ → List ℕ
cascades_of t n = filter (λ q. is_port t q && is_cascade t q) (range_with_len (64 * n) 64)

-- a port of an extender is created with the channel that it holds, if it is a cascade port
abbrev pub cascade_asks : Shape → Held → ℕ → List AskAt
cascade_asks t h q = if is_port t q && is_cascade t q then create_asks t q true (channel_of t h q) else []

-- Open, then each cascade port of the extender is created with the channel that it holds
unfoldable pub opening_asks : Shape → ℕ → Held → List AskAt
opening_asks t n h = ask n Open ∷ flat_map (λ q. create_asks t q true (channel_of t h q)) (cascades_of t n)

-- nothing is claimed, cleared or freed
abbrev pub opening_change : Shape → ℕ → Held → Change
opening_change t n h = record { prepare = opening_asks t n h; cleanup = []; channels = []; groups = [] }

-- ---- other jobs
-- what a job makes of the configuration
abbrev pub bridge_after : Job → Bridge → Bridge
bridge_after (job.Opening n) b = b
bridge_after (job.AutomaticUp p) b = after (command.Up p) b
bridge_after (job.Ordered n c) b = after c b

abbrev pub outcome_by : Option Cause → Change → Held → Outcome
outcome_by (Some cause) change h = Refused cause
outcome_by None change h = Ready change h

-- a change from one configuration to another
abbrev pub outcome_between : Shape → Limits → Bridge → Bridge → Held → Outcome
outcome_between t l old new h = outcome_by (refusal_between t l old new) (change_of t l old new h)
    (claimed t l old new h)

unfoldable pub decide : Shape → Limits → Decide
decide t l b h (job.Opening n) = Ready (opening_change t n h) h
decide t l b h (job.AutomaticUp p) = outcome_between t l b (after (command.Up p) b) h
decide t l b h (job.Ordered n c) = outcome_between t l b (after c b) h

-- ---- numbers that are given back
abbrev pub is_number : List Number → ℕ → ℕ → Bool
is_number numbers k n = list_any (λ x. x.bridge_port == k + 1 && x.number == n) numbers

-- the channels and groups of a change are free
abbrev pub release : Change → Held → Held
release x h =
    record {
      port = λ k c. if is_number x.channels k c then None else h.port k c;
      set = λ k g. if is_number x.groups k g then [] else h.set k g;
    }

-- one channel less, and one group less
abbrev pub without_channel : Number → Held → Held
without_channel x h = record h { port = λ k c. if x.bridge_port == k + 1 && x.number == c then None else h.port k c }

abbrev pub without_group : Number → Held → Held
without_group x h = record h { set = λ k g. if x.bridge_port == k + 1 && x.number == g then [] else h.set k g }

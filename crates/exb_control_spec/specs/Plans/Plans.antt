-- The plan of a change.
use Rattle.std.specs.Prelude.{ℕ, ◌+◌, List, [], ◌∷◌, ◌++◌, Option, Some, None, map, false}
use Rattle.exb_model.specs.declared.event.Cause.{Cause}
use Rattle.exb_model.specs.Tree.{Shape, device, trunk}
use Rattle.exb_model.specs.Setup.{Limits}
use Rattle.exb_model.specs.Configuration.{Bridge}
use Rattle.exb_control_spec.specs.Plans.Sets.{sets_of}
use Rattle.exb_csp.specs.declared.ask_at.AskAt.{AskAt}
use Rattle.exb_control_spec.specs.declared.plan.row_action.RowAction.TheVariants.{Lay, Clear}
use Rattle.exb_control_spec.specs.declared.plan.change.Number.{Number}
use Rattle.exb_control_spec.specs.declared.plan.change.Change.{Change}
use Rattle.exb_control_spec.specs.declared.plan.change.Decision.{Decision}
use Rattle.exb_control_spec.specs.declared.plan.change.Decision.TheVariants.{Refused, Ready}
use Rattle.exb_control_spec.specs.Plans.HeldNumbers.{Held, Group, or_zero, channel_in, free_channel, give_channel, give_all, numbered, free_port_of, free_where}
use Rattle.exb_control_spec.specs.Plans.Differences.{goes_up, goes_down, refusal_between, fresh_sets, is_gone, gone_groups}
use Rattle.exb_control_spec.specs.Plans.ChangeRequests.{group_asks, create_asks, delete_asks}

-- ---- the channel of a port that goes up or down
-- the lowest free one at its trunk; 0 where no port goes up
abbrev pub new_channel : Shape → Limits → Held → Option ℕ → ℕ
new_channel t l h None = 0
new_channel t l h (Some p) = free_channel l.channels h (trunk t (device p))

-- the one that it has there; 0 where no port goes down
abbrev pub own_channel : Shape → Held → Option ℕ → ℕ
own_channel t h None = 0
own_channel t h (Some p) = or_zero (channel_in h (trunk t (device p)) p)

abbrev pub with_channel : Shape → ℕ → Option ℕ → Held → Held
with_channel t c None h = h
with_channel t c (Some p) h = give_channel t p c h

abbrev pub without_channel : Shape → ℕ → Option ℕ → Held → Held
without_channel t c None h = h
without_channel t c (Some p) h = free_port_of t p c h

abbrev pub up_asks : Shape → ℕ → Option ℕ → List AskAt
up_asks t c None = []
up_asks t c (Some p) = create_asks t p false c

abbrev pub down_asks : Shape → ℕ → Option ℕ → List AskAt
down_asks t c None = []
down_asks t c (Some p) = delete_asks t p c

abbrev pub freed_channel : Shape → ℕ → Option ℕ → List Number
freed_channel t c None = []
freed_channel t c (Some p) = record { bridge_port = trunk t (device p) + 1; number = c } ∷ []

-- ---- before the commit
-- what is held once a port that goes up has its channel
abbrev pub with_up : Shape → Limits → Bridge → Bridge → Held → Held
with_up t l old new h = with_channel t (new_channel t l h (goes_up t old new)) (goes_up t old new) h

-- the groups that the fresh sets then get
unfoldable pub fresh_groups : Shape → Limits → Bridge → Bridge → Held → List Group
fresh_groups t l old new h = numbered l.groups (with_up t l old new h) (fresh_sets t old new)

-- for a port that goes up its channel, then the rows of all fresh sets
abbrev pub prepare_with : Shape → ℕ → Option ℕ → List Group → List AskAt
prepare_with t c up groups = up_asks t c up ++ group_asks Lay t groups

unfoldable pub prepare_of : Shape → Limits → Bridge → Bridge → Held → List AskAt
prepare_of t l old new h = prepare_with t (new_channel t l h (goes_up t old new)) (goes_up t old new)
    (fresh_groups t l old new h)

-- what is held from the claim on
unfoldable pub claimed : Shape → Limits → Bridge → Bridge → Held → Held
claimed t l old new h = give_all (fresh_groups t l old new h) (with_up t l old new h)

-- ---- after the commit
-- the numbers of all sets that are gone, then for a port that goes down its channel
abbrev pub cleanup_with : Shape → ℕ → Option ℕ → List Group → List AskAt
cleanup_with t c down gone = group_asks Clear t gone ++ down_asks t c down

unfoldable pub cleanup_of : Shape → Bridge → Bridge → Held → List AskAt
cleanup_of t old new h = cleanup_with t (own_channel t h (goes_down t old new)) (goes_down t old new)
    (gone_groups t (sets_of t new) h)

abbrev pub number_of : Group → Number
number_of x = record { bridge_port = x.bridge_port; number = x.number }

-- what is held once the cleanup is answered, of what was held before the change
unfoldable pub freed : Shape → Bridge → Bridge → Held → Held
freed t old new h = without_channel t (own_channel t h (goes_down t old new)) (goes_down t old new)
    (free_where (is_gone (sets_of t new) h) h)

-- ---- the decision
unfoldable pub change_of : Shape → Limits → Bridge → Bridge → Held → Change
change_of t l old new h =
    record {
      prepare = prepare_of t l old new h;
      cleanup = cleanup_of t old new h;
      channels = freed_channel t (own_channel t h (goes_down t old new)) (goes_down t old new);
      groups = map number_of (gone_groups t (sets_of t new) h);
    }

abbrev pub decision_by : Option Cause → Change → Decision
decision_by (Some cause) change = Refused cause
decision_by None change = Ready change

-- refused just where the numbers don't suffice, else the change
unfoldable pub decision : Shape → Limits → Bridge → Bridge → Held → Decision
decision t l old new h = decision_by (refusal_between t l old new) (change_of t l old new h)

abbrev pub held_by_cause : Option Cause → Held → Held → Held
held_by_cause (Some cause) before after = before
held_by_cause None before after = after

-- what is held once it is decided: refused, as before
unfoldable pub held_after : Shape → Limits → Bridge → Bridge → Held → Held
held_after t l old new h = held_by_cause (refusal_between t l old new) h (claimed t l old new h)

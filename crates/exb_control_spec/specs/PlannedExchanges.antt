-- How many exchanges are still planned: the number by which the rounds of settling are bounded.
use Rattle.std.specs.Prelude.{ℕ, suc, ◌+◌, ◌&&◌, not, List, [], ◌∷◌, Option, Some, None, length, count_by}
use Rattle.std.specs.List.{range_with_len}
use Rattle.exb_model.specs.Tree.{Shape, is_extender}
use Rattle.exb_model.specs.Configuration.{Bridge}
use Rattle.exb_control_spec.specs.Plans.HeldNumbers.{Held}
use Rattle.exb_control_spec.specs.declared.job.Job.{Job}
use Rattle.exb_control_spec.specs.declared.job.Phase.{Phase}
use Rattle.exb_control_spec.specs.declared.job.Phase.TheVariants.{Preparing, Cleaning}
use Rattle.exb_control_spec.specs.Decisions.{Outcome, Refused, Ready, Decide, bridge_after, release}
use Rattle.exb_control_spec.specs.Machine.{Work, State}

-- the requests of a job
abbrev pub requests_of : Outcome → ℕ
requests_of (Refused cause) = 0
requests_of (Ready x claimed) = length x.prepare + length x.cleanup

-- what a job leaves behind
abbrev pub bridge_left : Job → Outcome → Bridge → Bridge
bridge_left j (Refused cause) b = b
bridge_left j (Ready x claimed) b = bridge_after j b

abbrev pub held_left : Outcome → Held → Held
held_left (Refused cause) h = h
held_left (Ready x claimed) h = release x claimed

-- the requests of jobs that are run in order
unfoldable pub requests_in : Decide → Bridge → Held → List Job → ℕ
requests_in decide b h [] = 0
requests_in decide b h (j ∷ js) = requests_of (decide b h j) + requests_in decide (bridge_left j (decide b h j) b)
    (held_left (decide b h j) h) js

-- those of the change at work that aren't answered yet
abbrev pub requests_left : Phase → Work → ℕ
requests_left Preparing w = suc (length w.rest) + length w.change.cleanup
requests_left Cleaning w = suc (length w.rest)

-- the configuration once the change at work is committed
abbrev pub bridge_in : Phase → Work → Bridge → Bridge
bridge_in Preparing w b = bridge_after w.job b
bridge_in Cleaning w b = b

abbrev pub requests_by : Decide → Option Work → State → ℕ
requests_by decide None s = requests_in decide s.bridge s.held s.queue
requests_by decide (Some w) s = requests_left w.phase w + requests_in decide (bridge_in w.phase w s.bridge)
    (release w.change s.held) s.queue

-- the extenders that weren't heard yet
abbrev pub unheard : Shape → State → ℕ
unheard t s = count_by (λ n. is_extender t n && not (s.heard n)) (range_with_len 1 64)

-- requests not yet answered, and announcements not yet heard
unfoldable pub planned : Shape → Decide → State → ℕ
planned t decide s = requests_by decide s.work s + unheard t s

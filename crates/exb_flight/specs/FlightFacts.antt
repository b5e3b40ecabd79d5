-- What holds at every moment.
use Rattle.std.specs.Prelude.{◌≡◌, ◌≢◌, ℕ, ◌+◌, ◌%◌, ◌≤◌, ◌<◌, ◌++◌, true, List, [], ◌∷◌, Option, Some, None, ⊤, ◌⊎◌}
use Rattle.exb_model.specs.ETags.{Tag, read_etag}
use Rattle.exb_model.specs.Tree.{Shape, device, on, trunk, is_extended, is_external, is_under, is_cascade_under, IsTree}
use Rattle.exb_model.specs.Setup.{Limits}
use Rattle.exb_model.specs.Configuration.{Bridge}
use Rattle.exb_model.specs.History.{Basis, command_of, bridge_after}
use Rattle.exb_model.specs.FlatBridge.{flat}
use Rattle.exb_csp.specs.declared.message.Request.TheVariants.{PortDelete}
use Rattle.exb_csp.specs.declared.message.Response.{Response}
use Rattle.exb_control_spec.specs.Plans.HeldNumbers.{Held}
use Rattle.exb_model.specs.Lists.{is_listed}
use Rattle.exb_control_spec.specs.declared.job.Job.{Job}
use Rattle.exb_control_spec.specs.declared.job.Job.TheVariants as job
use Rattle.exb_control_spec.specs.Decisions.{channel_of}
use Rattle.exb_control_spec.specs.Machine.{Work}
use Rattle.exb_csp.specs.AllTables.{tables_at}
use Rattle.exb_control_spec.specs.Runs.Systems.{System}
use Rattle.exb_control_spec.specs.Runs.RequestTargets.{Knows}
use Rattle.exb_control_spec.specs.Runs.InitialSystem.{first_system}
use Rattle.exb_control_spec.specs.Runs.InitialMachine.{MayBegin}
use Rattle.exb_control_spec.specs.Runs.PlannedChanges.{IsSetting, planning}
use Rattle.exb_control_spec.specs.Runs.MachineInvariant.{Stands}
use Rattle.exb_flight.specs.Items.{Word, Each, UpTo, words_of, has}
use Rattle.exb_flight.specs.RequestOrder.{DeletesIn, CreatesIn}
use Rattle.exb_flight.specs.ChannelPaths.{HasChannels, WaysAreLaid, TopsAreLaid}
use Rattle.exb_flight.specs.Tree.{Over, IsLink}
use Rattle.exb_flight.specs.DownwardFrames.{IsWord}
use Rattle.exb_flight.specs.ClearedNumbers.{IsCleared, Clears, Deletes}
use Rattle.exb_flight.specs.Flight.{Flight, Step, tables_of, bridge_of, held_of, work_of, serial_of, key_of, owes, stepped}
use Rattle.exb_flight.specs.AllowedSteps.{Can, run, Runs}

-- ---- plans
-- the commands that wait are those of the basis
abbrev pub IsOf : Basis → Job → Type 0
IsOf i (job.Opening n) = ⊤
IsOf i (job.AutomaticUp p) = ⊤
IsOf i (job.Ordered n c) = command_of i n ≡ Some c

abbrev pub AreOf : Basis → List Job → Type 0
AreOf i js = Each (IsOf i) js

pub record IsWorkGood (i : Basis) (v : Work) : Type 0 where
  pub deletes : DeletesIn v.phase v
  pub creates : CreatesIn v.phase v
  pub command : IsOf i v.job

abbrev pub WorkGood : Basis → Option Work → Type 0
WorkGood i None = ⊤
WorkGood i (Some v) = IsWorkGood i v

-- ---- where downward words are from
-- Of a group's word on the link into extender n: each port of the group's set has its channel. Where the word's ingress
-- number isn't 0, the port of its stamp is below the same bridge port, and no other port of the set has that number as
-- its channel.
pub record IsFrom (s : Shape) (y : System) (n : ℕ) (f : Word) : Type 0 where
  pub members : (tag : Tag) → read_etag f.bytes ≡ Some tag → 4096 ≤ tag.ecid → (q : ℕ)
      → is_listed (y.state.held.set (trunk s n) tag.ecid) q ≡ true → 0 < (tables_at y.tables).own q
  pub source : (tag : Tag) → read_etag f.bytes ≡ Some tag → 4096 ≤ tag.ecid → 0 < tag.ingress
      → is_under s (trunk s n) f.port ≡ true
  pub others : (tag : Tag) → read_etag f.bytes ≡ Some tag → 4096 ≤ tag.ecid → 0 < tag.ingress → (q : ℕ)
      → is_listed (y.state.held.set (trunk s n) tag.ecid) q ≡ true →
      (tables_at y.tables).own q ≡ tag.ingress → q ≡ f.port

-- ---- upward words
-- port q is deleted by the outstanding request, which is executed
pub record IsDeleting (y : System) (q : ℕ) : Type 0 where
  pub work : Work
  pub at_work : y.state.work ≡ Some work
  pub response : Response
  pub answer : y.answer ≡ Some response
  pub port : ℕ
  pub request : work.first.request ≡ PortDelete port
  pub here : device q ≡ work.first.extender
  pub place : q % 64 + 1 ≡ port

-- A word on the link of extender n has the channel of its stamp's port, which lies below; the port still has it as its
-- own, or is being deleted. Each port on which an extender on the word's way hangs has a channel.
pub record IsUp (s : Shape) (y : System) (n : ℕ) (f : Word) : Type 0 where
  pub tag : Tag
  pub read : read_etag f.bytes ≡ Some tag
  pub outer : is_extended s f.port ≡ true
  pub below : Over s n (device f.port)
  pub some : 0 < tag.ecid
  pub number : ((tables_at y.tables).own f.port ≡ tag.ecid)
      ⊎ (IsDeleting y f.port × (channel_of s y.state.held f.port ≡ tag.ecid))
  pub way : (m : ℕ) → Over s m n → 64 ≤ on s m → 0 < (tables_at y.tables).own (on s m)

-- ---- what holds
abbrev pub Words : Shape → Flight → Type 0
Words s w = (n : ℕ) → IsLink s n → Each (IsWord s (tables_of w) n) (words_of (w.down n))

abbrev pub Sources : Shape → Flight → Type 0
Sources s w = (n : ℕ) → IsLink s n → Each (IsFrom s w.system n) (words_of (w.down n))

-- while the outstanding request isn't executed, the words of the numbers that it clears were sent before it
abbrev pub Asked : Shape → Flight → Type 0
Asked s w = (v : Work) → work_of w ≡ Some v → w.system.answer ≡ None → (e : ℕ) → IsCleared s w.system.tables v.first e
    → Clears s w.down (key_of w.system.state v) v.first.extender e

abbrev pub Ups : Shape → Flight → Type 0
Ups s w = (n : ℕ) → IsLink s n → Each (IsUp s w.system n) (words_of (w.up n))

-- a port that is being deleted has no channel, and its words were sent before the answer
abbrev pub Answered : Shape → Flight → Type 0
Answered s w = (q : ℕ) (d : IsDeleting w.system q) → ((tables_of w).own q ≡ 0)
    × Deletes s w.up (key_of w.system.state d.work) d.work.first.extender q

-- control words are of requests that were asked; an answer to the outstanding one is on the way up from its extender
pub record Serials (s : Shape) (w : Flight) : Type 0 where
  pub downward : (n : ℕ) → UpTo (serial_of w.system.state) (w.down n)
  pub upward : (n : ℕ) → UpTo (serial_of w.system.state) (w.up n)
  pub answered : (v : Work) → work_of w ≡ Some v → (n : ℕ) → has (key_of w.system.state v) (w.up n) ≡ true
      → (w.system.answer ≢ None) × Over s n v.first.extender

-- what has left an external port, followed by what is owed to it, is what the one bridge sends there
abbrev pub Even : Shape → Basis → Flight → Type 0
Even s i w = (q : ℕ) → is_external s q ≡ true → w.left q ++ owes s (tables_of w) w.down q ≡ flat i w.history q

pub record Facts (s : Shape) (i : Basis) (w : Flight) : Type 0 where
  pub stands : Stands (planning s) w.system
  pub knows : Knows s w.system.state
  pub work : WorkGood i (work_of w)
  pub queue : AreOf i w.system.state.queue
  pub force : bridge_after i w.history ≡ bridge_of w
  pub channels : HasChannels s w.system.tables
  pub ways : WaysAreLaid s w.system.tables
  pub tops : TopsAreLaid s w.system.tables
  pub words : Words s w
  pub sources : Sources s w
  pub asked : Asked s w
  pub ups : Ups s w
  pub answered : Answered s w
  pub serials : Serials s w
  pub even : Even s i w

-- ---- what is promised
-- On a link with trunk k no downward word has a free number. The ingress number of a group's word, if it isn't 0, is
-- the own channel of no port of that group's set but its stamp's port, which is in U(k).
pub record CleanDown (s : Shape) (y : System) (k : ℕ) (f : Word) : Type 0 where
  pub tag : Tag
  pub read : read_etag f.bytes ≡ Some tag
  pub used : (y.state.held.port k tag.ecid ≢ None) ⊎ (y.state.held.set k tag.ecid ≢ [])
  pub source : 4096 ≤ tag.ecid → 0 < tag.ingress → is_under s k f.port ≡ true
  pub others : 4096 ≤ tag.ecid → 0 < tag.ingress → (q : ℕ) → is_listed (y.state.held.set k tag.ecid) q ≡ true
      → (tables_at y.tables).own q ≡ tag.ingress → q ≡ f.port

-- An upward word has the channel that the bridge holds for its stamp's port, which is in U(k).
pub record CleanUp (s : Shape) (h : Held) (k : ℕ) (f : Word) : Type 0 where
  pub tag : Tag
  pub read : read_etag f.bytes ≡ Some tag
  pub under : is_under s k f.port ≡ true
  pub some : 0 < tag.ecid
  pub number : channel_of s h f.port ≡ tag.ecid

pub record Clean (s : Shape) (w : Flight) : Type 0 where
  pub down : (n : ℕ) → IsLink s n → Each (CleanDown s w.system (trunk s n)) (words_of (w.down n))
  pub up : (n : ℕ) → IsLink s n → Each (CleanUp s (held_of w) (trunk s n)) (words_of (w.up n))

-- the system at its beginning, nothing on any link, and nothing has happened or left
abbrev pub beginning : Shape → Limits → Bridge → Flight
beginning s l b = record { system = first_system s l b; down = λ n. []; up = λ n. []; history = []; left = λ q. [] }

-- All that holds at the beginning.
abbrev pub Begins : Type 0
Begins = (s : Shape) (l : Limits) (i : Basis) → IsSetting s l → MayBegin s l i.start → Facts s i (beginning s l i.start)

-- Where it holds, the links are clean.
abbrev pub FactsAreClean : Type 0
FactsAreClean = (s : Shape) (i : Basis) (w : Flight) → IsTree s → Facts s i w → Clean s w

-- Each step that may come keeps all that.
abbrev pub StepsKeep : Type 0
StepsKeep =
    (s : Shape) (l : Limits) (i : Basis) → IsSetting s l → (w : Flight) (x : Step) → Facts s i w → Can s i w x →
    Facts s i (stepped s l i w x)

-- After any steps that may come, what has left each external port, followed by what is owed to it, is what the one
-- bridge sends there over what happened; and the links are clean.
abbrev pub RunsStand : Type 0
RunsStand =
    (s : Shape) (l : Limits) (i : Basis) (xs : List Step) → IsSetting s l → MayBegin s l i.start →
    let w = beginning s l i.start in
    Runs s l i w xs → Even s i (run s l i w xs) × Clean s (run s l i w xs)

-- After any steps that may come, the way to each cascade port that has a channel is laid, and that is the channel that
-- the bridge holds for it.
abbrev pub WaysStand : Type 0
WaysStand =
    (s : Shape) (l : Limits) (i : Basis) (xs : List Step) → IsSetting s l → MayBegin s l i.start →
    let w = beginning s l i.start in
    Runs s l i w xs →
    WaysAreLaid s (run s l i w xs).system.tables
    × ((k c : ℕ) → is_cascade_under s k c ≡ true → 0 < (tables_of (run s l i w xs)).own c
    → channel_of s (held_of (run s l i w xs)) c ≡ (tables_of (run s l i w xs)).own c)

-- And each step leaves it its channel.
abbrev pub WaysStay : Type 0
WaysStay =
    (s : Shape) (l : Limits) (i : Basis) → IsSetting s l → (w : Flight) (x : Step) → Facts s i w → Can s i w x →
    (k c : ℕ) → k < 64 → is_cascade_under s k c ≡ true → 0 < (tables_of w).own c → (tables_of (stepped s l i w x)).own c
    ≡ (tables_of w).own c

-- The port on which an extender hangs that has an upward word on its link is a cascade port in the tables.
abbrev pub CascadesAreLaid : Type 0
CascadesAreLaid =
    (t : Shape) (i : Basis) (f : Flight) → IsTree t → Facts t i f → (n : ℕ) → IsLink t n → 64 ≤ on t n
    → (g : Word) (rest : List Word) → words_of (f.up n) ≡ g ∷ rest → (tables_of f).cascade (on t n) ≡ true

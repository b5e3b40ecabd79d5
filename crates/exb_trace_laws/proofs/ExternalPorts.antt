-- External ports of extenders stay no cascade ports, whatever requests are executed. One that has a channel is of its
-- kind, since the tables are within what is laid; and no request changes the kind of a port and leaves it without one.
use Rattle.std.proofs.Common.{◌≡◌, ◌⊎◌, ℕ, ◌<◌, ◌==◌, ◌&&◌, ◌||◌, nat_lt, Bool, true, false, not, cond, List, Option, Some, None, refl, ap, sym, ◌∙◌, subst, arith, inl, inr}
use Rattle.std.proofs.lemmas.Bool.{cases_Bool, and_parts, eqb-true, ltb-true, false≢true}
use Rattle.exb_model.specs.declared.command.Command.{Command}
use Rattle.exb_model.specs.declared.event.Event.{Event}
use Rattle.exb_model.specs.Tree.{Shape, device, is_extender, is_port, is_external, is_cascade, port_number}
use Rattle.exb_model.specs.Setup.{Limits}
use Rattle.exb_model.specs.Configuration.{Bridge}
use Rattle.exb_csp.specs.declared.message.Request.{Request}
use Rattle.exb_csp.specs.declared.message.Request.TheVariants.{Open, PortCreate, PortDelete, Register, Unregister, RegisterMany, UnregisterMany}
use Rattle.exb_csp.specs.declared.message.Response.{Response}
use Rattle.exb_csp.specs.Execution.{ExtenderTables, is_channel, code_of, done, executed}
use Rattle.exb_csp.specs.Execution.{is_port as has_number}
use Rattle.exb_csp.specs.PortMasks.{powered_on}
use Rattle.exb_csp.specs.AllTables.{port_of}
use Rattle.exb_control_spec.specs.Runs.LaidTables.{has_port, laid, is_shown}
use Rattle.exb_control_spec.specs.Machine.{Work}
use Rattle.exb_control_spec.specs.Runs.Systems.{System, executes, tables_after}
use Rattle.exb_control_spec.specs.Runs.Systems as machine
use Rattle.exb_control_spec.specs.Runs.MonotoneRequests.{IsWithin}
use Rattle.exb_control_spec.specs.Runs.MachineInvariant.{Stands}
use Rattle.exb_control_spec.specs.Runs.PlannedChanges.{planning}
use Rattle.exb_world_spec.specs.Worlds.{World, first_world}
use Rattle.exb_world_spec.specs.Runs.Simulation.{system_of, Follows}
use Rattle.exb_world_spec.proofs.Trunks.{port_there}
use Rattle.exb_world_spec.proofs.Routing.{IsUnderLaid, under_laid}
use Rattle.exb_trace_laws.specs.TraceConditions.{ServesStations}

not_true : (b : Bool) → not b ≡ true → b ≡ false
not_true true e = absurd (false≢true e)
not_true false e = refl

and_false : (b : Bool) → (b && false) ≡ false
and_false true = refl
and_false false = refl

-- ---- a request
some_channel : (c : ℕ) → is_channel c ≡ true → 0 < c
some_channel c h = ltb-true 0 c (and_parts (nat_lt 0 c) (nat_lt c 4095) h).0

created : (x : ExtenderTables) (port channel q : ℕ) (kind : Bool) → code_of x (PortCreate port kind channel) ≡ 0 → (0 < (done x (PortCreate port kind channel)).own q) ⊎ ((done x (PortCreate port kind channel)).cascade q ≡ x.cascade q)
unfolding code_of done
created x port channel q kind code =
    elim (cases_Bool (q == port)) [
      | inr e ↦ inr (rw e refl)
      | inl e ↦ inl (rw e (by_tests (has_number x port) (is_channel channel) (nat_lt 0 (x.own port) || Rattle.exb_csp.specs.Execution.has_pair x channel) refl code))
    ]
  where
    by_tests : (a b c : Bool) → is_channel channel ≡ b → ◌≡◌ {A = ℕ} (cond (not a) 1 (cond (not b) 2 (cond c 3 0))) 0 → 0 < channel
    by_tests false b c e z = absurd (omega (arith, z))
    by_tests true false c e z = absurd (omega (arith, z))
    by_tests true true c e z = some_channel channel e

done_kept : (x : ExtenderTables) (r : Request) (q : ℕ) → code_of x r ≡ 0 → (0 < (done x r).own q) ⊎ ((done x r).cascade q ≡ x.cascade q)
unfolding done
done_kept x Open q code = inr refl
done_kept x (PortCreate port kind channel) q code = created x port channel q kind code
done_kept x (PortDelete port) q code = inr refl
done_kept x (Register ecid mask) q code = inr refl
done_kept x (Unregister ecid) q code = inr refl
done_kept x (RegisterMany rows) q code = inr refl
done_kept x (UnregisterMany ecids) q code = inr refl

-- a port has a channel then, or is of its kind as before
kept_by : (x : ExtenderTables) (r : Request) (q : ℕ) → (0 < (executed x r).own q) ⊎ ((executed x r).cascade q ≡ x.cascade q)
unfolding executed
kept_by x r q =
    elim (cases_Bool (code_of x r == 0)) [
      | inl e ↦ rw e (done_kept x r q (eqb-true (code_of x r) 0 e))
      | inr e ↦ rw e (inr refl)
    ]

-- ---- a step of the machine
abbrev Kept : (ℕ → ExtenderTables) → (ℕ → ExtenderTables) → Type 0
Kept old new = (n q : ℕ) → (0 < (new n).own q) ⊎ ((new n).cascade q ≡ (old n).cascade q)

executes_keep : (o : Option Work) (a : Option Response) (all : ℕ → ExtenderTables) → Kept all (executes o a all)
executes_keep None a all n q = inr refl
executes_keep (Some w) (Some response) all n q = inr refl
executes_keep (Some w) None all n q =
    elim (cases_Bool (n == w.first.extender)) [
      | inl e ↦ rw e (kept_by (all n) w.first.request q)
      | inr e ↦ rw e (inr refl)
    ]

step_keeps : (y : System) (step : machine.Step) → Kept y.tables (tables_after y step)
step_keeps y machine.Execute n q = executes_keep y.state.work y.answer y.tables n q
step_keeps y (machine.Order c) n q = inr refl
step_keeps y (machine.Hear m) n q = inr refl
step_keeps y machine.Answer n q = inr refl
step_keeps y (machine.Stray m x) n q = inr refl
step_keeps y machine.Beat n q = inr refl

-- ---- stations
-- one with a channel is no cascade port
under_is : (t : Shape) (y : System) → IsUnderLaid t y → (p : ℕ) → is_cascade t p ≡ false → 0 < (y.tables (device p)).own (port_number p) → (y.tables (device p)).cascade (port_number p) ≡ false
under_is t y u p plain some =
    let n : ℕ = device p in
    let k : ℕ = port_number p in
    let w : IsWithin (y.tables n) (laid t u.opened y.state.held n) = u.within n in
    let none : is_cascade t (port_of n k) ≡ false = subst (λ (q : ℕ). is_cascade t q ≡ false) (sym (port_there p)) plain in
    sym (w.kinds k some) ∙ ap (λ (b : Bool). has_port t n k && (b && is_shown t u.opened (port_of n k))) none ∙ and_false (has_port t n k)

abbrev Serve : Shape → (ℕ → ExtenderTables) → Type 0
Serve t all = (p : ℕ) → is_external t p ≡ true → is_extender t (device p) ≡ true → (all (device p)).cascade (port_number p) ≡ false

kept_serve : (t : Shape) (old : ℕ → ExtenderTables) (y : System) → Stands (planning t) y → Kept old y.tables → Serve t old → Serve t y.tables
kept_serve t old y stands kept serve p out there =
    elim (kept (device p) (port_number p)) [
      | inl some ↦ under_is t y (under_laid t y stands) p (not_true (is_cascade t p) (and_parts (is_port t p) (not (is_cascade t p)) out).1) some
      | inr same ↦ same ∙ serve p out there
    ]

pub stations_kept : (t : Shape) (l : Limits) (w v : World) (cs : List Command) (es : List Event) → Follows t l cs (system_of w) (system_of v) es w.table v.table → Stands (planning t) (system_of v) → ServesStations t w.far → ServesStations t v.far
stations_kept t l w v cs es follows stands serve = by_follows follows
  where
    by_follows : Follows t l cs (system_of w) (system_of v) es w.table v.table → ServesStations t v.far
    by_follows (inl e) = λ p out there. ap (λ (y : System). (y.tables (device p)).cascade (port_number p)) e.is ∙ serve p out there
    by_follows (inr k) =
        let same : (system_of v).tables ≡ tables_after (system_of w) k.step = ap (λ (y : System). y.tables) k.is in
        let kept : Kept (system_of w).tables (system_of v).tables = subst (λ (all : ℕ → ExtenderTables). Kept (system_of w).tables all) (sym same) (step_keeps (system_of w) k.step) in
        kept_serve t (system_of w).tables (system_of v) stands kept serve

pub begins_serving : (t : Shape) (l : Limits) (b : Bridge) (ageing : ℕ) → ServesStations t (first_world t l b ageing).far
unfolding powered_on
begins_serving t l b ageing p out there = refl

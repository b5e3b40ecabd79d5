-- What an extender ignores of what arrives at it.
use Rattle.std.proofs.Common.{◌≡◌, ℕ, ◌<◌, ◌%◌, ◌||◌, not, Bool, true, false, cond, [], ◌∷◌, Some, refl, ap, sym, ◌∙◌, subst, arith, inl, inr}
use Rattle.std.proofs.lemmas.Bool.{cases_lt, and_parts, eq-eqb, le-ltb}
use Rattle.exb_model.specs.Tree.{device, is_port, is_cascade, trunk, port_number}
use Rattle.exb_model.specs.Frames.{kind_of}
use Rattle.exb_model.specs.declared.event.Event.TheVariants as event
use Rattle.exb_csp.specs.AllTables.{port_of}
use Rattle.exb_extender.specs.Forwarding.{is_ignored, is_refused_kind}
use Rattle.exb_world_spec.specs.Worlds.{Arrive}
use Rattle.exb_world_spec.specs.Steps.{stepped}
use Rattle.exb_world_spec.specs.Runs.Simulation.{system_of}
use Rattle.exb_world_spec.specs.Runs.Journal.{is_ignored_at}
use Rattle.exb_world_spec.specs.Runs.Stamps.{ExtendersIgnore}
use Rattle.exb_world_spec.proofs.CascadeChannels.{forget, fixed_now}
use Rattle.exb_world_spec.proofs.Routing.{external_owned}
use Rattle.exb_world_spec.proofs.Trunks.{port_there}
use Rattle.exb_world_spec.proofs.StepEvents.{steps_tell_by_kind}

not_true : (b : Bool) → not b ≡ true → b ≡ false
not_true true e = sym e
not_true false e = refl

or_true : (b : Bool) → (b || true) ≡ true
or_true true = refl
or_true false = refl

pub extenders_ignore : ExtendersIgnore
extenders_ignore t l setting w a sound high external =
    record {
      events = told ∙ ap (λ (b : Bool). cond b (event.Ignored a.port a.index ∷ []) []) exactly;
      holds = λ some. subst (λ (p : ℕ). w.control.held.port (trunk t n) ((w.far n).tables.own q) ≡ Some p) at_port (owned some).1;
    }
  where
    n : ℕ
    n = device a.port

    q : ℕ
    q = port_number a.port

    at_port : port_of n q ≡ a.port
    at_port = port_there a.port

    outer : is_cascade t (port_of n q) ≡ false
    outer = ap (is_cascade t) at_port ∙ not_true (is_cascade t a.port) (and_parts (is_port t a.port) (not (is_cascade t a.port)) external).1

    owned : 0 < (w.far n).tables.own q → ((w.far n).tables.cascade q ≡ false) × (w.control.held.port (trunk t n) ((w.far n).tables.own q) ≡ Some (port_of n q))
    owned some = external_owned t setting.tree (system_of w) (forget t l (system_of w) sound.stands) (fixed_now t l (system_of w) sound.stands).high w.far (λ i. refl) n q (omega arith) (let r : a.port % 64 < 64 = omega arith in omega arith) some outer

    told : (stepped t l (Arrive a) w).events ≡ cond (is_ignored_at w a) (event.Ignored a.port a.index ∷ []) []
    told = (steps_tell_by_kind t l w (Arrive a)).extended (le-ltb a.port 64 high)

    exactly : is_ignored_at w a ≡ is_ignored ((w.far n).tables.own q) a.bytes
    exactly = elim (cases_lt 0 ((w.far n).tables.own q)) [
      | inl some ↦ ap (λ (b : Bool). b || is_ignored ((w.far n).tables.own q) a.bytes) (owned some).0
      | inr none ↦
          let zero : (w.far n).tables.own q ≡ 0 = omega (arith, none) in
          let yes : is_ignored ((w.far n).tables.own q) a.bytes ≡ true = ap (λ (b : Bool). b || is_refused_kind (kind_of a.bytes)) (eq-eqb ((w.far n).tables.own q) 0 zero) in
          ap (λ (b : Bool). (w.far n).tables.cascade q || b) yes ∙ or_true ((w.far n).tables.cascade q) ∙ sym yes
    ]

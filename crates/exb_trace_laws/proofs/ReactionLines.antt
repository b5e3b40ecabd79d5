-- What extenders do when something comes to them, and at a beat, is told; whatever has to hold of the lines.
use Rattle.std.proofs.Common.{◌≡◌, ℕ, ◌+◌, ◌<◌, true, List, slice_index, Option, None, refl, sym, ◌∙◌, subst, inl, inr}
use Rattle.std.proofs.lemmas.Bool.{cases_Bool}
use Rattle.exb_model.specs.declared.event.Event.{Event}
use Rattle.exb_model.specs.Tree.{Shape, IsTree, on, is_extender}
use Rattle.exb_model.specs.Setup.{Limits}
use Rattle.exb_extender.specs.Forwarding.{Sent}
use Rattle.exb_extender.specs.Machine.{ExtenderState, Input, Beats, react}
use Rattle.exb_extender.proofs.InvariantLemmas.{stays_extender}
use Rattle.exb_link.specs.declared.link_frame.Stamp.{Stamp}
use Rattle.exb_model.specs.Frames.{is_control_frame}
use Rattle.exb_control_spec.specs.Machine.{State}
use Rattle.exb_control_spec.specs.Runs.RequestTargets.{Knows}
use Rattle.exb_world_spec.specs.Worlds.{World, with_far, next_beat}
use Rattle.exb_world_spec.specs.Effects.{Effect, only, then_do, each}
use Rattle.exb_world_spec.specs.ExtenderSteps.{reacts}
use Rattle.exb_world_spec.specs.ControlFrames.{beats_near, beats_control}
use Rattle.exb_world_spec.specs.Steps.{if_there, all_extenders, beats_all}
use Rattle.exb_world_spec.specs.Runs.SessionLaws.{HasFewPorts}
use Rattle.exb_world_spec.proofs.LinkFrames.{at_same}
use Rattle.exb_model.specs.Traces.{TraceLine}
use Rattle.exb_world_spec.specs.TraceLines.{side_number}
use Rattle.exb_model.specs.Traces as line
use Rattle.exb_trace_laws.proofs.EffectLines.{Shows, Tells, shows_then, shows_none, shows_from, shows_each}
use Rattle.exb_trace_laws.proofs.ExtenderSides.{FitsSide, AllFit, react_fit}
use Rattle.exb_trace_laws.proofs.ExtenderLines.{does_tells}
use Rattle.exb_trace_laws.proofs.ControlEvents.{IsPlain}
use Rattle.exb_trace_laws.proofs.RequestLines.{control_tells, near_tells, near_control}

-- the extenders have the ports of the tree
abbrev pub HasPorts : Shape → (ℕ → ExtenderState) → Type 0
HasPorts t far = (n : ℕ) → is_extender t n ≡ true → (far n).tables.ports ≡ slice_index t.ports n

module _ (t : Shape) (l : Limits) (tree : IsTree t) (few : HasFewPorts t) (C : TraceLine → Type 0) (D : Event → Type 0)
    (side_out : (n : ℕ) → is_extender t n ≡ true → (s : Sent) → FitsSide (slice_index t.ports n) s.side → C (line.Out n (side_number s.side) s.bytes))
    (down : (m : ℕ) (f : List ℕ) → is_extender t m ≡ true → on t m < 64 → is_control_frame f ≡ true → C (line.Out 0 (on t m + 1) f)) (plain : (e : Event) → IsPlain e → D e) where
  idle_shows : (w : World) → Shows t C D w (only w)
  idle_shows w = shows_none t C D w (only w) refl refl refl refl refl tt

  pub fit_of : (i : Input) (n : ℕ) (w : World) → HasPorts t w.far → is_extender t n ≡ true → AllFit (slice_index t.ports n) (react i (w.far n)).1
  fit_of i n w ports there = subst (λ (k : ℕ). AllFit k (react i (w.far n)).1) (ports n there) (react_fit i (w.far n))

  pub reacts_tells : (n : ℕ) (stamp : Option Stamp) (i : Input) (w : World) → is_extender t n ≡ true → HasPorts t w.far → Tells t C D (with_far n (react i (w.far n)).0 w) (reacts t n stamp i w)
  reacts_tells n stamp i w there ports =
      does_tells t tree C D n there (few n) stamp (react i (w.far n)) w (fit_of i n w ports there) (λ s fits. side_out n there s fits)

  pub reacts_shows : (n : ℕ) (stamp : Option Stamp) (i : Input) (w : World) → is_extender t n ≡ true → HasPorts t w.far → Shows t C D w (reacts t n stamp i w)
  reacts_shows n stamp i w there ports = shows_from t C D w (with_far n (react i (w.far n)).0 w) (reacts t n stamp i w) refl refl refl (reacts_tells n stamp i w there ports).shows

  pub ports_kept : (n : ℕ) (stamp : Option Stamp) (i : Input) (w : World) → is_extender t n ≡ true → HasPorts t w.far → HasPorts t (reacts t n stamp i w).world.far
  ports_kept n stamp i w there ports m its =
      let far : (reacts t n stamp i w).world.far ≡ (with_far n (react i (w.far n)).0 w).far = (reacts_tells n stamp i w there ports).far in
      let kept : (m : ℕ) → is_extender t m ≡ true → ((with_far n (react i (w.far n)).0 w).far m).tables.ports ≡ slice_index t.ports m =
      at_same (λ k (x : ExtenderState). is_extender t k ≡ true → x.tables.ports ≡ slice_index t.ports k) n (react i (w.far n)).0 w.far (λ z. (stays_extender.device i (w.far n)).ports ∙ ports n z) ports
      in
      subst (λ (g : ℕ → ExtenderState). (g m).tables.ports ≡ slice_index t.ports m) (sym far) (kept m its)

  -- ---- beats
  abbrev KnowsAll : World → Type 0
  KnowsAll w = Knows t w.control × HasPorts t w.far

  near_shows : (n : ℕ) (w : World) → KnowsAll w → Shows t C D w (if_there t (beats_near t) n w) × KnowsAll (if_there t (beats_near t) n w).world
  near_shows n w k =
      elim (cases_Bool (is_extender t n)) [
        | inl there ↦
            let told : Tells t C D w (beats_near t n w) = near_tells t tree C D down plain n w there in
            rw there (told.shows, (subst (λ (s : State). Knows t s) (sym (near_control t n w)) k.0, subst (λ (g : ℕ → ExtenderState). HasPorts t g) (sym told.far) k.1))
        | inr other ↦ rw other (idle_shows w, k)
      ]

  far_shows : (n : ℕ) (w : World) → HasPorts t w.far → Shows t C D w (if_there t (λ m. reacts t m None Beats) n w) × HasPorts t (if_there t (λ m. reacts t m None Beats) n w).world.far
  far_shows n w ports =
      elim (cases_Bool (is_extender t n)) [
        | inl there ↦ rw there (reacts_shows n None Beats w there ports, ports_kept n None Beats w there ports)
        | inr other ↦ rw other (idle_shows w, ports)
      ]

  pub beat_shows : (w : World) → Knows t w.control → HasPorts t w.far → Shows t C D w (beats_all t w)
  unfolding beats_all
  beat_shows w knows has =
      let v : World = record w { beats = next_beat w.beats } in
      let near : Effect = each (if_there t (beats_near t)) all_extenders v in
      let one = shows_each t C D KnowsAll (if_there t (beats_near t)) all_extenders v near_shows (knows, has) in
      let control : Tells t C D near.world (beats_control t near.world) = control_tells t tree C D down plain l near.world one.1.0 in
      let ports : HasPorts t (beats_control t near.world).world.far = subst (λ (g : ℕ → ExtenderState). HasPorts t g) (sym control.far) one.1.1 in
      let first : Effect = then_do near (beats_control t) in
      let two : Shows t C D v first = shows_then t C D v near (beats_control t) one.0 control.shows in
      let last = shows_each t C D (λ u. HasPorts t u.far) (if_there t (λ n. reacts t n None Beats)) all_extenders first.world far_shows ports in
      shows_from t C D w v (then_do first (each (if_there t (λ n. reacts t n None Beats)) all_extenders)) refl refl refl
      (shows_then t C D v first (each (if_there t (λ n. reacts t n None Beats)) all_extenders) two last.0)

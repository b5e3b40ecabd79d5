-- What comes to an extender in a sound world may be asked of it: its answers can be sent, and its first request is Open.
use Rattle.std.proofs.Common.{◌≡◌, inl, inr, ℕ, ◌+◌, ◌≤◌, ◌<◌, ◌^◌, true, List, Option, Some, refl, ap, sym, ◌∙◌, subst, arith}
use Rattle.std.specs.Prelude.{IfSome}
use Rattle.exb_model.specs.Setup.{Limits}
use Rattle.exb_model.specs.Tree.{Shape, IsTree, is_extender}
use Rattle.exb_frame.specs.TagValues.{TagRoundTrip}
use Rattle.exb_csp.specs.declared.message.Body.{Body}
use Rattle.exb_csp.specs.declared.message.Body.TheVariants as body
use Rattle.exb_csp.specs.declared.message.Request.{Request}
use Rattle.exb_csp.specs.declared.message.Response.{Response}
use Rattle.exb_csp.specs.Execution.{response_to}
use Rattle.exb_csp.specs.Encoding.{HasSpelling}
use Rattle.exb_csp.specs.Sessions.AnsweringEnd.{stored_message}
use Rattle.exb_extender.specs.Forwarding.{is_bare_control}
use Rattle.exb_extender.specs.Machine.{ExtenderState, is_open}
use Rattle.exb_extender.proofs.ControlLemmas.{answer_fits, response_spelled}
use Rattle.exb_control_spec.specs.Runs.PlannedChanges.{IsSetting}
use Rattle.exb_link.specs.declared.link_frame.LinkFrame.{LinkFrame}
use Rattle.exb_world_spec.specs.Worlds.{World}
use Rattle.exb_world_spec.specs.Runs.Sessions.{Each, Hands, WasAsked, IsAsked, AskedOf, IsOnWay, WordFits, ArePaired, AreLow, CanBeSent}
use Rattle.exb_world_spec.specs.Runs.Simulation.{IsSound}
use Rattle.exb_world_spec.proofs.Forwarding.{tagged_bare}
use Rattle.exb_world_spec.proofs.Frames.{bare_is}
use Rattle.exb_world_spec.proofs.ExtenderSteps.{routes}
use Rattle.exb_world_spec.proofs.LinkFrames.{each_weaker}
use Rattle.exb_settling_laws.specs.SessionInvariant.{OpensFirst}
use Rattle.exb_settling_laws.proofs.StopAndWaitSteps.{MayAsk}
use Rattle.exb_settling_laws.proofs.FarRemainingFacts.{MayHear}

-- ---- answers
-- the stored answer, of a serial that fits its field
stored_sent : (s : ExtenderState) → s.session.last < 2 ^ 64 → IfSome (stored_message s.session) HasSpelling → (response : Response) → s.session.answer ≡ Some response →
    CanBeSent (record { serial = s.session.last; body = body.Answer response })
stored_sent s few spelled response e =
    let P : Option Response → Type 0 = λ o. IfSome (stored_message (record { last = s.session.last; answer = o })) HasSpelling in
    record {
      spelled = subst P e spelled;
      fits = record { serial = few; content = tt };
      short = answer_fits (record { serial = s.session.last; body = body.Answer response }) s.session.last (Some response) refl;
    }

-- the answer to a request
response_sent : (s : ExtenderState) (serial : ℕ) (request : Request) → 0 < serial → serial < 2 ^ 64 → (1 ≤ s.tables.ports) × (s.tables.ports ≤ 64) → CanBeSent (record { serial = serial; body = body.Answer (response_to s.tables request) })
response_sent s serial request some few ports =
    record {
      spelled = response_spelled s.tables request serial some ports.0 ports.1;
      fits = record { serial = few; content = tt };
      short = answer_fits (record { serial = serial; body = body.Answer (response_to s.tables request) }) serial (Some (response_to s.tables request)) refl;
    }

-- ---- requests
module _ (t : Shape) (l : Limits) (tree : IsTree t) (setting : IsSetting t l) (round : TagRoundTrip) (w : World) (sound : IsSound t l w) (low : AreLow w.control.askers) (opens : OpensFirst w.control.askers) (n : ℕ) (there : is_extender t n ≡ true) where
  last_few : (w.far n).session.last < 2 ^ 64
  last_few = let few = low n in elim (sound.fits.ends.paired n) [ inl e ↦ omega (arith, few) | inr e ↦ omega (arith, few, e.0) ]

  may_ask : (serial : ℕ) (request : Request) → IsAsked (w.control.askers n) serial request → MayAsk (w.far n) serial request
  may_ask serial request asked =
      let is = sound.fits.ends.extenders n there in
      let few : serial < 2 ^ 64 = omega (arith, asked.early, low n) in
      record {
        stored = λ response e. stored_sent (w.far n) last_few is.spelled response e;
        answer = λ next. response_sent (w.far n) serial request (omega arith) few is.ports;
        first = λ next none. by_pair next none (sound.fits.ends.paired n);
      }
    where
      by_pair : serial ≡ (w.far n).session.last + 1 → (w.far n).session.last ≡ 0 → ArePaired (w.control.askers n) (w.far n).session → is_open request ≡ true
      by_pair next none (inl e) = absurd (omega (arith, asked.early, next, none, e))
      by_pair next none (inr e) =
          let one : (w.control.askers n).serial ≡ 1 = omega (arith, none, e.0) in
          let is : request ≡ e.1.0 = asked.same e.1.0 (omega (arith, next, none, one)) e.1.1 in
          ap is_open is ∙ opens n e.1.0 e.1.1 one

  hands_here : (f : List ℕ) → is_bare_control f ≡ true → IsOnWay t w.control.held n f (λ i c. Hands c (AskedOf w.control.askers i)) → Hands f (WasAsked (w.control.askers n))
  hands_here f bare k =
      elim k.way [
        | inl e ↦
            let R : ℕ → List ℕ → Type 0 = λ i c. Hands c (AskedOf w.control.askers i) in
            subst (λ (c : List ℕ). R n c) (sym e.1) (subst (λ (i : ℕ). R i k.frame) (sym e.0) k.fits)
        | inr tag ↦ absurd (tagged_bare t tree w.control.held round (AskedOf w.control.askers) (AskedOf w.control.askers) w.far (routes t l tree setting round w sound n there) n f k.of k.frame k.bare tag bare)
      ]

  may_hear : (f : List ℕ) → Hands f (WasAsked (w.control.askers n)) → MayHear (w.far n) f
  may_hear f hands =
      record {
        asks = λ p m request d a e g. may_ask m.serial request (let P : Body → Type 0 = λ b. WasAsked (w.control.askers n) m.serial b in subst P g ((hands.each p d a).each m e));
      }

  -- Each word on the way down to it.
  pub all_may_hear : Each (λ (x : LinkFrame). is_bare_control x.bytes ≡ true → MayHear (w.far n) x.bytes) (w.down n)
  all_may_hear =
      each_weaker (WordFits t w.control.held (AskedOf w.control.askers) n) (λ (x : LinkFrame). is_bare_control x.bytes ≡ true → MayHear (w.far n) x.bytes) (w.down n)
      (λ x fits bare. may_hear x.bytes (hands_here x.bytes bare (fits (bare_is x.bytes bare).control))) (sound.fits.downs n)

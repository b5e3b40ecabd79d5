-- A step of the machine of changes keeps what holds of the sessions, and what it asks goes out.
use Rattle.std.proofs.Common.{◌≡◌, ◌≢◌, ◌⊎◌, ℕ, ◌+◌, true, false, List, [], ◌∷◌, Option, Some, None, refl, ap, sym, ◌∙◌, subst, arith, inl, inr}
use Rattle.std.proofs.lemmas.Bool.{cases_eq, eq-eqb, ne_eqb}
use Rattle.exb_model.specs.Tree.{Shape, IsTree, is_extender}
use Rattle.exb_csp.specs.declared.message.Body.{Body}
use Rattle.exb_csp.specs.declared.message.Body.TheVariants as body
use Rattle.exb_csp.specs.declared.message.Request.{Request}
use Rattle.exb_csp.specs.Encoding.{message_bytes}
use Rattle.exb_ecp.specs.StopAndWait.{State as Ecp, submitted, stopped}
use Rattle.exb_csp.specs.Sessions.AskingEnd.{AskerState, asked}
use Rattle.exb_csp.specs.Sessions.AnsweringEnd.{AnswererState}
use Rattle.exb_extender.specs.Machine.{ExtenderState}
use Rattle.exb_control_spec.specs.Plans.HeldNumbers.{Held}
use Rattle.exb_control_spec.specs.declared.extender_message.Asked.{Asked}
use Rattle.exb_control_spec.specs.Machine.{Work, State, Moved}
use Rattle.exb_control_spec.specs.Runs.MachineInvariant.{OneWaits, waited_for}
use Rattle.exb_control_spec.specs.Runs.RequestTargets.{Knows, AreAddressed}
use Rattle.exb_world_spec.specs.Worlds.{World, with_control, with_table, with_near}
use Rattle.exb_model.specs.Tables.{at}
use Rattle.exb_world_spec.specs.Effects.{each}
use Rattle.exb_world_spec.specs.BridgeLearning.{forgotten_all}
use Rattle.exb_world_spec.specs.ControlFrames.{bridge_request, bridge_address, asks, moves}
use Rattle.exb_world_spec.specs.Runs.Sessions.{WasAsked, Hands, Sends, Each, AskedOf, StoredAt, ArePaired, EndsFit, WorldFits, KeepsCascades, CanBeSent, AreSent, Writes}
use Rattle.exb_world_spec.specs.Runs.Simulation.{answer_at, answer_in}
use Rattle.exb_world_spec.proofs.OneRequest.{AtMostOne, none, one}
use Rattle.exb_world_spec.proofs.Frames.{reads_written, hands_request, bare_spelled}
use Rattle.exb_world_spec.proofs.ExtenderAnswers.{sends_submitted, sends_weaker}
use Rattle.exb_world_spec.proofs.Links.{AreLinked, IsDone, links_kept, to_extender_done}
use Rattle.exb_world_spec.proofs.LinkFrames.{at_same, at_here, at_other}

-- ---- askers that go on
abbrev pub GoesOn : AskerState → AskerState → Type 0
GoesOn a b = (serial : ℕ) (c : Body) → WasAsked a serial c → WasAsked b serial c

some_same : {x y : Request} → Some x ≡ Some y → x ≡ y
some_same e = cc

none_some : {x : Request} → None ≡ Some x → ⊥
none_some e = cc

pub asked_goes_on : (a : AskerState) (request : Request) → GoesOn a (asked a request).0
asked_goes_on a request serial (body.Ask r) k = record { early = omega (arith, k.early); same = λ other e w. absurd (omega (arith, k.early)) }
asked_goes_on a request serial (body.Answer r) k = tt

pub freed_goes_on : (a b : AskerState) → b.serial ≡ a.serial → b.waiting ≡ None → GoesOn a b
freed_goes_on a b same free serial (body.Ask r) k = record { early = omega (arith, k.early); same = λ other e w. absurd (none_some (sym free ∙ w)) }
freed_goes_on a b same free serial (body.Answer r) k = tt

pub same_goes_on : (a b : AskerState) → b.serial ≡ a.serial → b.waiting ≡ a.waiting → GoesOn a b
same_goes_on a b same waits serial (body.Ask r) k = record { early = omega (arith, k.early); same = λ other e w. k.same other (e ∙ same) (sym waits ∙ w) }
same_goes_on a b same waits serial (body.Answer r) k = tt

-- the request that is asked was asked
pub asked_now : (a : AskerState) (request : Request) → WasAsked (asked a request).0 (asked a request).1.serial (asked a request).1.body
asked_now a request = record { early = omega arith; same = λ other e w. some_same w }

one_goes_on : (n : ℕ) (request : Request) (askers : ℕ → AskerState) (m : ℕ) → GoesOn (askers m) (at n (asked (askers n) request).0 askers m)
one_goes_on n request askers = at_same (λ m b. GoesOn (askers m) b) n (asked (askers n) request).0 askers (asked_goes_on (askers n) request) (λ m serial c k. k)

pub all_go_on : (a b : ℕ → AskerState) (xs : List Asked) → AtMostOne a xs b → (m : ℕ) → GoesOn (a m) (b m)
all_go_on a b xs none m serial c k = k
all_go_on a b xs (one n request) m serial c k = one_goes_on n request a m serial c k

-- ---- pairs
abbrev pub Free : (ℕ → AskerState) → Type 0
Free askers = (n : ℕ) → (askers n).waiting ≡ None

pub even_when_free : (a : AskerState) (x : AnswererState) → a.waiting ≡ None → ArePaired a x → x.last ≡ a.serial
even_when_free a x free (inl e) = e
even_when_free a x free (inr e) = absurd (none_some (sym free ∙ e.1.1))

cons_nil : {x : Asked} → x ∷ [] ≡ [] → ⊥
cons_nil f = cc

pub paired_after : (far : ℕ → ExtenderState) (a b : ℕ → AskerState) (xs : List Asked) → AtMostOne a xs b → (xs ≡ []) ⊎ Free a → ((n : ℕ) → ArePaired (a n) (far n).session) → (n : ℕ) → ArePaired (b n) (far n).session
paired_after far a b xs none free paired = paired
paired_after far a b xs (one k request) (inl e) paired = absurd (cons_nil e)
paired_after far a b xs (one k request) (inr free) paired =
    at_same (λ n c. ArePaired c (far n).session) k (asked (a k) request).0 a
    (let e : (far k).session.last ≡ (a k).serial = even_when_free (a k) (far k).session (free k) (paired k) in inr (omega arith, (request, refl)))
    paired

-- what is asked was asked
was_asked : (n : ℕ) (request : Request) (askers : ℕ → AskerState) → WasAsked (at n (asked (askers n) request).0 askers n) (asked (askers n) request).1.serial (asked (askers n) request).1.body
was_asked n request askers = let R : AskerState → Type 0 = λ a. WasAsked a (asked (askers n) request).1.serial (asked (askers n) request).1.body in subst R (sym (at_here n (asked (askers n) request).0 askers)) (asked_now (askers n) request)

pub was_each : (a b : ℕ → AskerState) (xs : List Asked) → AtMostOne a xs b → Each (λ (x : Asked). AskedOf b x.extender x.message.serial x.message.body) xs
was_each a b xs none = tt
was_each a b xs (one n request) = (was_asked n request a, tt)

-- ---- the answer
waits_itself : (w : Work) (b : ℕ → AskerState) → ((n : ℕ) → (b n).waiting ≡ waited_for (Some w) n) → (b w.first.extender).waiting ≡ Some w.first.request
waits_itself w b waits = waits w.first.extender ∙ (rw (eq-eqb w.first.extender w.first.extender refl) refl)

not_executed : (b : AskerState) (x : ExtenderState) → x.session.last ≢ b.serial → answer_at b x ≡ None
not_executed b x ne = rw (ne_eqb x.session.last b.serial ne) refl

-- where nobody waited, an extender has not executed what is then asked of it
pub answer_none : (far : ℕ → ExtenderState) (a b : ℕ → AskerState) (xs : List Asked) → AtMostOne a xs b → Free a → ((n : ℕ) → ArePaired (a n) (far n).session) →
    (o : Option Work) → ((n : ℕ) → (b n).waiting ≡ waited_for o n) → answer_in o b far ≡ None
answer_none far a b xs asks free paired None waits = refl
answer_none far a b xs none free paired (Some w) waits = absurd (none_some (sym (free w.first.extender) ∙ waits_itself w a waits))
answer_none far a b xs (one k request) free paired (Some w) waits =
    let n : ℕ = w.first.extender in
    elim (cases_eq n k) [
      | inl e ↦
          let even : (far n).session.last ≡ (a n).serial = even_when_free (a n) (far n).session (free n) (paired n) in
          let is : at k (asked (a k) request).0 a n ≡ (asked (a k) request).0 = subst (λ (i : ℕ). at k (asked (a k) request).0 a i ≡ (asked (a k) request).0) (sym e) (at_here k (asked (a k) request).0 a) in
          let same : (a n).serial ≡ (a k).serial = ap (λ (i : ℕ). (a i).serial) e in
          let serial : (at k (asked (a k) request).0 a n).serial ≡ (a k).serial + 1 = ap (λ (c : AskerState). c.serial) is in
          not_executed (at k (asked (a k) request).0 a n) (far n) (λ z. omega arith)
      | inr ne ↦
          let is : at k (asked (a k) request).0 a n ≡ a n = at_other k n (asked (a k) request).0 a ne in
          absurd (none_some (sym (free n) ∙ ap (λ (c : AskerState). c.waiting) (sym is) ∙ waits_itself w (at k (asked (a k) request).0 a) waits))
    ]

-- ---- the step
-- what a step of the machine has to bring
pub record MayMove (t : Shape) (w : World) (m : Moved) : Type 0 where
  pub paired : (n : ℕ) → ArePaired (m.state.askers n) (w.far n).session
  pub later : (n : ℕ) → GoesOn (w.control.askers n) (m.state.askers n)
  pub was : Each (λ (x : Asked). AskedOf m.state.askers x.extender x.message.serial x.message.body) m.asks
  pub knows : Knows t m.state
  pub writes : Writes m.state
  pub waits : OneWaits m.state
  pub addressed : AreAddressed t m.asks
  pub keeps : KeepsCascades t w.control.held m.state.held
  pub sent : AreSent m.asks

-- the world has moved, and fits again
pub record HasMoved (t : Shape) (w v : World) (s : State) : Type 0 where
  pub control : v.control ≡ s
  pub far : v.far ≡ w.far
  pub fits : WorldFits t v

module _ (t : Shape) (tree : IsTree t) where
  -- a world fits by its parts
  pub fits_from : (v : World) (s : State) (near : ℕ → Ecp) (far : ℕ → ExtenderState) → v.control ≡ s → v.near ≡ near → v.far ≡ far → EndsFit t s near far → AreLinked t s.held (AskedOf s.askers) (StoredAt far) v → WorldFits t v
  fits_from v s near far es en ef ends linked =
      let A : State → Type 0 = λ x. EndsFit t x near far × AreLinked t x.held (AskedOf x.askers) (StoredAt far) v in
      let a : A v.control = subst A (sym es) (ends, linked) in
      let B : (ℕ → Ecp) → Type 0 = λ x. EndsFit t v.control x far in
      let b : B v.near = subst B (sym en) a.0 in
      let C : (ℕ → ExtenderState) → Type 0 = λ x. EndsFit t v.control v.near x × AreLinked t v.control.held (AskedOf v.control.askers) (StoredAt x) v in
      let c : C v.far = subst C (sym ef) (b, a.1) in
      record { ends = c.0; downs = c.1.downs; ups = c.1.ups }

  -- one request goes out
  asks_done : (h : Held) (P Q : ℕ → ℕ → Body → Type 0) (x : Asked) (w : World) → is_extender t x.extender ≡ true → CanBeSent x.message → P x.extender x.message.serial x.message.body → w.control.held ≡ h →
      AreLinked t h P Q w → IsDone t h P Q (with_near x.extender (submitted (message_bytes x.message) (stopped (w.near x.extender))) w) (asks t x w)
  asks_done h P Q x w there can was held linked =
      let n : ℕ = x.extender in
      let payload : List ℕ = message_bytes x.message in
      let v : World = with_near n (submitted payload (stopped (w.near n))) w in
      let hands : Hands (bridge_request (w.near n).next payload) (P n) = hands_request (P n) bridge_address (w.near n).next payload refl (reads_written (P n) x.message can.spelled can.fits was) in
      to_extender_done t h P Q tree n (bridge_request (w.near n).next payload) v there (bare_spelled 2 69 66 0 0 0 false (w.near n).next payload) hands held (record { downs = linked.downs; ups = linked.ups })

  -- requests go out one after another
  record IsOut (s : State) (fars : ℕ → ExtenderState) (v : World) : Type 0 where
    pub control : v.control ≡ s
    pub far : v.far ≡ fars
    linked : AreLinked t s.held (AskedOf s.askers) (StoredAt fars) v
    asking : (n : ℕ) → Sends (v.near n) (AskedOf s.askers n)

  goes_out : (s : State) (far : ℕ → ExtenderState) (xs : List Asked) (v : World) → v.control ≡ s → v.far ≡ far → AreLinked t s.held (AskedOf s.askers) (StoredAt far) v → ((n : ℕ) → Sends (v.near n) (AskedOf s.askers n)) →
      AreAddressed t xs → AreSent xs → Each (λ (x : Asked). AskedOf s.askers x.extender x.message.serial x.message.body) xs → IsOut s far (each (asks t) xs v).world
  goes_out s far [] v es ef linked asking addressed sent was = record { control = es; far = ef; linked = linked; asking = asking }
  goes_out s far (x ∷ xs) v es ef linked asking addressed sent was =
      let n : ℕ = x.extender in
      let payload : List ℕ = message_bytes x.message in
      let done = asks_done s.held (AskedOf s.askers) (StoredAt far) x v addressed.0 sent.0 was.0 (ap (λ (z : State). z.held) es) linked in
      let u : World = (asks t x v).world in
      let mine : Sends (submitted payload (stopped (v.near n))) (AskedOf s.askers n) =
      sends_submitted (AskedOf s.askers n) payload (stopped (v.near n)) (reads_written (AskedOf s.askers n) x.message sent.0.spelled sent.0.fits was.0) sent.0.short
      in
      let all : (k : ℕ) → Sends (at n (submitted payload (stopped (v.near n))) v.near k) (AskedOf s.askers k) =
      at_same (λ k e. Sends e (AskedOf s.askers k)) n (submitted payload (stopped (v.near n))) v.near mine asking
      in
      let R : (ℕ → Ecp) → Type 0 = λ near. (k : ℕ) → Sends (near k) (AskedOf s.askers k) in
      goes_out s far xs u (done.heart.control ∙ es) (done.heart.far ∙ ef) done.linked (subst R (sym done.heart.near) all) addressed.1 sent.1 was.1

  module _ (w : World) (fits : WorldFits t w) (m : Moved) (may : MayMove t w m) where
    linked : AreLinked t m.state.held (AskedOf m.state.askers) (StoredAt w.far) (with_table (forgotten_all m.downs w.table) (with_control m.state w))
    linked =
        record {
          downs = links_kept t w.control.held m.state.held (AskedOf w.control.askers) (AskedOf m.state.askers) w.down may.keeps may.later fits.downs;
          ups = links_kept t w.control.held m.state.held (StoredAt w.far) (StoredAt w.far) w.up may.keeps (λ n serial c k. k) fits.ups;
        }

    asking : (n : ℕ) → Sends (w.near n) (AskedOf m.state.askers n)
    asking n = sends_weaker (AskedOf w.control.askers n) (AskedOf m.state.askers n) (w.near n) (may.later n) (fits.ends.asking n)

    ends_with : (near : ℕ → Ecp) → ((n : ℕ) → Sends (near n) (AskedOf m.state.askers n)) → EndsFit t m.state near w.far
    ends_with near all =
        record {
          knows = may.knows;
          writes = may.writes;
          waits = may.waits;
          paired = may.paired;
          extenders = fits.ends.extenders;
          asking = all;
          answering = fits.ends.answering;
          codes = fits.ends.codes;
        }

    pub has_moved : HasMoved t w (moves t m w).world m.state
    has_moved =
        let out : IsOut m.state w.far (each (asks t) m.asks (with_table (forgotten_all m.downs w.table) (with_control m.state w))).world =
        goes_out m.state w.far m.asks (with_table (forgotten_all m.downs w.table) (with_control m.state w)) refl refl linked asking may.addressed may.sent may.was
        in
        record {
          control = out.control;
          far = out.far;
          fits = fits_from (moves t m w).world m.state (moves t m w).world.near w.far out.control refl out.far (ends_with (moves t m w).world.near out.asking) out.linked;
        }

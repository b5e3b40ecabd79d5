-- What extenders do keeps what holds of the sessions, and is nothing or one step of the machine of changes.
use Rattle.std.proofs.Common.{◌≡◌, ◌≢◌, ◌⊎◌, ℕ, ◌+◌, ◌<◌, ◌≤◌, ◌==◌, ◌&&◌, ◌++◌, ◌^◌, not, true, false, cond, List, [], ◌∷◌, length, Option, Some, None, refl, ap, sym, ◌∙◌, subst, arith, inl, inr}
use Rattle.std.proofs.lemmas.Bool.{cases_Bool, cases_eq, eq-eqb, ne_eqb}
use mathlib.Core.Path.{fun_ext}
use Rattle.exb_model.specs.Tree.{Shape, IsTree, device, on, is_extender, port_number}
use Rattle.exb_model.specs.Setup.{Limits}
use Rattle.exb_model.specs.declared.arrival.Arrival.{Arrival}
use Rattle.exb_frame.specs.TagValues.{TagRoundTrip}
use Rattle.exb_ecp.specs.StopAndWait.{Sending, State as Ecp, aged, beat_of}
use Rattle.exb_ecp.specs.StopAndWait.{beaten as beaten_ecp}
use Rattle.exb_ecp.specs.declared.stop_and_wait.Beat.{Beat as Due}
use Rattle.exb_ecp.specs.declared.stop_and_wait.Beat.TheVariants as due
use Rattle.exb_csp.specs.declared.message.Body.{Body}
use Rattle.exb_csp.specs.declared.message.Request.{Request}
use Rattle.exb_csp.specs.declared.message.Response.{Response}
use Rattle.exb_csp.specs.Execution.{ExtenderTables, code_of, executed, response_to}
use Rattle.exb_model.specs.Frames.{IsBytes}
use Rattle.exb_csp.specs.Sessions.AskingEnd.{AskerState}
use Rattle.exb_csp.specs.Sessions.AnsweringEnd.{AnswererState}
use Rattle.exb_extender.specs.declared.sends.Side.TheVariants as side
use Rattle.exb_csp.specs.AllTables.{executes_at}
use Rattle.exb_extender.specs.Forwarding.{Sent, is_bare_control, emitted}
use Rattle.exb_extender.specs.Laws.{IsInput}
use Rattle.exb_extender.specs.Machine.{ExtenderState, Reaction, Input, Arrives, Beats, IsExtender, react, hears, beats, announces, sends_again, next_count, address_of}
use Rattle.exb_extender.proofs.InvariantLemmas.{stays_extender}
use Rattle.exb_link.specs.declared.link_frame.Stamp.{Stamp}
use Rattle.exb_link.specs.declared.link_frame.LinkFrame.{LinkFrame}
use Rattle.exb_control_spec.specs.Decisions.{decide}
use Rattle.exb_control_spec.specs.Machine.{Work, State}
use Rattle.exb_control_spec.specs.Plans.HeldNumbers.{Held}
use Rattle.exb_control_spec.specs.Runs.Systems.{Execute, executes, answer_of, stepped, code_by}
use Rattle.exb_control_spec.proofs.Runs.StepInvariants.{any_steps_stand}
use Rattle.exb_world_spec.specs.Runs.CascadeChannels.{fixing}
use Rattle.exb_control_spec.specs.Runs.MachineInvariant.{OneWaits}
use Rattle.exb_world_spec.specs.Worlds.{World, with_far}
use Rattle.exb_model.specs.Tables.{at}
use Rattle.exb_world_spec.specs.ExtenderSteps.{sends, does, reacts, takes_from_above, takes_from_below, stamp_of, ignored, does_or_ignores, arrives_at}
use Rattle.exb_world_spec.specs.Runs.Sessions.{WasAsked, WasAnswered, Reads, Hands, Sends, Each, AskedOf, StoredAt, IsOnWay, FitsOn, WordFits, ArePaired, EndsFit, AreLow, Routes}
use Rattle.exb_world_spec.specs.Effects.{only}
use Rattle.exb_world_spec.specs.Runs.Simulation.{answer_at, answer_in, jobs_in, system_of, IsSound, Stays}
use Rattle.exb_world_spec.proofs.Frames.{bare_is, hands_request, hands_announcement, bare_spelled, bare_announcement}
use Rattle.exb_world_spec.proofs.ExtenderAnswers.{SentFits, IsSame, HasExecuted, answered_later, hears_asked}
use Rattle.exb_world_spec.proofs.Links.{AreLinked, IsDone, SendFits, each_done, sends_done, links_kept, no_change}
use Rattle.exb_world_spec.proofs.Forwarding.{tagged_bare, sent_from_above, sent_from_below, sent_from_station}
use Rattle.exb_world_spec.proofs.ControlSteps.{fits_from}
use Rattle.exb_world_spec.proofs.Trunks.{above_there}
use Rattle.exb_control_spec.specs.Runs.PlannedChanges.{IsSetting}
use Rattle.exb_world_spec.proofs.CascadeChannels.{forget, fixed_now, fixing_plans}
use Rattle.exb_world_spec.proofs.Routing.{stands_route}
use Rattle.exb_world_spec.proofs.TakenAnswers.{IsOutstanding, outstanding}
use Rattle.exb_world_spec.proofs.ControlFrames.{seen_as, same_system_as, same_parts, quiet_stays}
use Rattle.exb_world_spec.proofs.SilentEffects.{IsSilent, does_silent}
use Rattle.exb_world_spec.proofs.LinkFrames.{each_weaker, each_append, at_same, at_here, at_itself}

-- ---- the machine sees sessions and tables
answer_same : (o : Option Work) (askers : ℕ → AskerState) (far near : ℕ → ExtenderState) → ((k : ℕ) → (near k).session ≡ (far k).session) → answer_in o askers near ≡ answer_in o askers far
answer_same None askers far near same = refl
answer_same (Some w) askers far near same = ap (λ (x : AnswererState). cond (x.last == (askers w.first.extender).serial) x.answer None) (same w.first.extender)

-- an extender whose session and tables stay
pub seen_same : (s : State) (n : ℕ) (x : ExtenderState) (far : ℕ → ExtenderState) → IsSame (far n) x → seen_as s (at n x far) ≡ seen_as s far
seen_same s n x far is =
    same_parts s s (λ m. (at n x far m).tables) (λ m. (far m).tables) (answer_in s.work s.askers (at n x far)) (answer_in s.work s.askers far) refl
    (fun_ext (at_same (λ m y. y.tables ≡ (far m).tables) n x far is.tables (λ m. refl)))
    (answer_same s.work s.askers far (at n x far) (at_same (λ m y. y.session ≡ (far m).session) n x far is.session (λ m. refl)))

-- one that has executed the outstanding request
module _ (t : Shape) (l : Limits) (s : State) (waits : OneWaits s) (n : ℕ) (x : ExtenderState) (far : ℕ → ExtenderState) (ran : HasExecuted (s.askers n) (far n) x) where
  out : IsOutstanding s n ran.request
  out = outstanding s n ran.request waits ran.waited

  before : answer_in s.work s.askers far ≡ None
  before =
      let ne : (far n).session.last ≢ (s.askers n).serial = λ e. omega (arith, ran.serial) in
      let here : answer_at (s.askers n) (far n) ≡ None = rw (ne_eqb (far n).session.last (s.askers n).serial ne) refl in
      ap (λ (o : Option Work). answer_in o s.askers far) out.is ∙ subst (λ (i : ℕ). answer_at (s.askers i) (far i) ≡ None) (sym out.of) here

  tables_run : (λ (m : ℕ). (at n x far m).tables) ≡ executes s.work (answer_in s.work s.askers far) (λ m. (far m).tables)
  tables_run =
      let all : ℕ → ExtenderTables = λ m. (far m).tables in
      let mine : (λ (m : ℕ). (at n x far m).tables) ≡ executes_at n ran.request all =
      fun_ext (λ m. elim (cases_eq m n) [
        | inl e ↦ rw (eq-eqb m n e) (ran.tables ∙ ap (λ (i : ℕ). executed (far i).tables ran.request) (sym e))
        | inr ne ↦ rw (ne_eqb m n ne) refl
      ])
      in
      mine ∙ ap (λ (i : ℕ). executes_at i ran.request all) (sym out.of) ∙ ap (λ (r : Request). executes_at out.work.first.extender r all) (sym out.asked)
      ∙ sym (ap (λ (o : Option Work). executes o (answer_in s.work s.askers far) all) out.is ∙ ap (λ (a : Option Response). executes (Some out.work) a all) before)

  answer_run : answer_in s.work s.askers (at n x far) ≡ answer_of s.work (answer_in s.work s.askers far) (λ m. (far m).tables)
  answer_run =
      let all : ℕ → ExtenderTables = λ m. (far m).tables in
      let here : answer_at (s.askers n) (at n x far n) ≡ Some (response_to (far n).tables ran.request) =
      ap (λ (y : ExtenderState). answer_at (s.askers n) y) (at_here n x far)
      ∙ ap (λ (y : AnswererState). cond (y.last == (s.askers n).serial) y.answer None) ran.session
      ∙ (rw (eq-eqb (s.askers n).serial (s.askers n).serial refl) refl)
      in
      let mine : answer_in s.work s.askers (at n x far) ≡ Some (response_to (far n).tables ran.request) =
      ap (λ (o : Option Work). answer_in o s.askers (at n x far)) out.is ∙ subst (λ (i : ℕ). answer_at (s.askers i) (at n x far i) ≡ Some (response_to (far n).tables ran.request)) (sym out.of) here
      in
      mine ∙ ap (λ (i : ℕ). Some (response_to (far i).tables ran.request)) (sym out.of) ∙ ap (λ (r : Request). Some (response_to (far out.work.first.extender).tables r)) (sym out.asked)
      ∙ sym (ap (λ (o : Option Work). answer_of o (answer_in s.work s.askers far) all) out.is ∙ ap (λ (a : Option Response). answer_of (Some out.work) a all) before)

  -- with that code
  code_run : code_by s.work (answer_in s.work s.askers far) (λ m. (far m).tables) ≡ code_of (far n).tables ran.request
  code_run =
      let all : ℕ → ExtenderTables = λ m. (far m).tables in
      ap (λ (o : Option Work). code_by o (answer_in s.work s.askers far) all) out.is ∙ ap (λ (a : Option Response). code_by (Some out.work) a all) before
      ∙ ap (λ (i : ℕ). code_of (far i).tables out.work.first.request) out.of ∙ ap (λ (r : Request). code_of (far n).tables r) out.asked

  response_code : (x : ExtenderTables) (r : Request) → (response_to x r).code ≡ code_of x r
  unfolding response_to
  response_code x r = refl

  pub code_zero : code_by s.work (answer_in s.work s.askers far) (λ m. (far m).tables) ≡ 0 → (response : Response) → x.session.answer ≡ Some response → response.code ≡ 0
  code_zero zero response e =
      let same : response_to (far n).tables ran.request ≡ response = some_response (sym (ap (λ (y : AnswererState). y.answer) ran.session) ∙ e) in
      ap (λ (z : Response). z.code) (sym same) ∙ response_code (far n).tables ran.request ∙ sym code_run ∙ zero
    where
      some_response : {a b : Response} → Some a ≡ Some b → a ≡ b
      some_response z = cc

  pub seen_run : seen_as s (at n x far) ≡ stepped (decide t l) (seen_as s far) Execute
  seen_run =
      same_parts s s (λ m. (at n x far m).tables) (executes s.work (answer_in s.work s.askers far) (λ m. (far m).tables)) (answer_in s.work s.askers (at n x far))
      (answer_of s.work (answer_in s.work s.askers far) (λ m. (far m).tables)) refl tables_run answer_run

module _ (t : Shape) (l : Limits) (tree : IsTree t) (setting : IsSetting t l) (round : TagRoundTrip) where
  -- ---- an extender has reacted
  pub record Reacts (w : World) (n : ℕ) (r : Reaction) : Type 0 where
    pub turned : IsSame (w.far n) r.0 ⊎ HasExecuted (w.control.askers n) (w.far n) r.0
    pub extender : IsExtender r.0
    pub answering : Sends r.0.ecp (WasAnswered r.0.session)
    pub sent : Each (SendFits t w.control.held (AskedOf w.control.askers) (StoredAt (at n r.0 w.far)) n) r.1

  module _ (w : World) (sound : IsSound t l w) (n : ℕ) (stamp : Option Stamp) (r : Reaction) (k : Reacts w n r) where
    later : (i serial : ℕ) (b : Body) → WasAnswered (w.far i).session serial b → WasAnswered (at n r.0 w.far i).session serial b
    later i serial b =
        at_same (λ i x. WasAnswered (w.far i).session serial b → WasAnswered x.session serial b) n r.0 w.far
        (elim k.turned [
          | inl same ↦ λ z. subst (λ (x : AnswererState). WasAnswered x serial b) (sym same.session) z
          | inr ran ↦ λ z. answered_later (w.far n).session r.0.session (let e : r.0.session.last ≡ (w.control.askers n).serial = ap (λ (x : AnswererState). x.last) ran.session in omega (arith, ran.serial)) serial b z
        ]) (λ i z. z) i

    paired_now : ArePaired (w.control.askers n) r.0.session
    paired_now =
        elim k.turned [
          | inl same ↦ subst (λ (x : AnswererState). ArePaired (w.control.askers n) x) (sym same.session) (sound.fits.ends.paired n)
          | inr ran ↦ inl (ap (λ (x : AnswererState). x.last) ran.session)
        ]

    codes_now : (response : Response) → r.0.session.answer ≡ Some response → response.code ≡ 0
    codes_now response e =
        elim k.turned [
          | inl same ↦ sound.fits.ends.codes n response (ap (λ (x : AnswererState). x.answer) (sym same.session) ∙ e)
          | inr ran ↦ code_zero t l w.control sound.fits.ends.waits n r.0 w.far ran (any_steps_stand (fixing t l) (decide t l) (fixing_plans t l setting) (system_of w) Execute sound.stands tt).1 response e
        ]

    ends : EndsFit t w.control w.near (at n r.0 w.far)
    ends =
        record {
          knows = sound.fits.ends.knows;
          writes = sound.fits.ends.writes;
          waits = sound.fits.ends.waits;
          paired = at_same (λ i x. ArePaired (w.control.askers i) x.session) n r.0 w.far paired_now sound.fits.ends.paired;
          extenders = at_same (λ i x. is_extender t i ≡ true → IsExtender x) n r.0 w.far (λ there. k.extender) sound.fits.ends.extenders;
          asking = sound.fits.ends.asking;
          answering = at_same (λ i x. Sends x.ecp (WasAnswered x.session)) n r.0 w.far k.answering sound.fits.ends.answering;
          codes = at_same (λ i x. (response : Response) → x.session.answer ≡ Some response → response.code ≡ 0) n r.0 w.far codes_now sound.fits.ends.codes;
        }

    linked : AreLinked t w.control.held (AskedOf w.control.askers) (StoredAt (at n r.0 w.far)) (with_far n r.0 w)
    linked =
        record {
          downs = sound.fits.downs;
          ups = links_kept t w.control.held w.control.held (StoredAt w.far) (StoredAt (at n r.0 w.far)) w.up (no_change t w.control.held) later sound.fits.ups;
        }

    sent_on : IsDone t w.control.held (AskedOf w.control.askers) (StoredAt (at n r.0 w.far)) (with_far n r.0 w) (does t n stamp r w)
    sent_on =
        let h : Held = w.control.held in
        let P : ℕ → ℕ → Body → Type 0 = AskedOf w.control.askers in
        let Q : ℕ → ℕ → Body → Type 0 = StoredAt (at n r.0 w.far) in
        each_done t h P Q (SendFits t h P Q n) (sends t n stamp) r.1 (with_far n r.0 w) (λ x v fits heart linked. sends_done t h P Q n stamp x v fits linked) linked k.sent

    seen_on : system_of (does t n stamp r w).world ≡ seen_as w.control (at n r.0 w.far)
    seen_on = same_system_as (does t n stamp r w).world w.control (at n r.0 w.far) sent_on.heart.control sent_on.heart.far

    -- where its session and tables stay, the machine sees nothing of it
    pub does_same : IsSame (w.far n) r.0 → ((does t n stamp r w).world.control ≡ w.control) × (system_of (does t n stamp r w).world ≡ system_of w)
    does_same same = (sent_on.heart.control, seen_on ∙ seen_same w.control n r.0 w.far same)

    silent : IsSilent w (does t n stamp r w)
    silent = does_silent t n stamp r w

    pub does_sound : Stays t l w (does t n stamp r w)
    does_sound =
        record {
          fits = fits_from t tree (does t n stamp r w).world w.control w.near (at n r.0 w.far) sent_on.heart.control sent_on.heart.near sent_on.heart.far ends sent_on.linked;
          follows = elim k.turned [
            | inl same ↦ inl (record { is = seen_on ∙ seen_same w.control n r.0 w.far same; orders = refl; tells = ap jobs_in silent.events })
            | inr ran ↦ inr (record { step = Execute; may = tt; is = seen_on ∙ seen_run t l w.control sound.fits.ends.waits n r.0 w.far ran; orders = refl; tells = ap jobs_in silent.events; forgets = silent.table })
          ];
        }

  -- ---- what befalls it
  pub announced_fits : (P : ℕ → Body → Type 0) (count : ℕ) (s : ExtenderState) → Each (SentFits P) (announces count s)
  announced_fits P count s =
      elim (cases_Bool (not s.opened && (count == 1))) [
        | inl e ↦ rw e (record { side = refl; bare = bare_announcement s.number s.tables.ports; hands = hands_announcement P s.number s.tables.ports }, tt)
        | inr e ↦ rw e tt
      ]

  pub again_fits : (P : ℕ → Body → Type 0) (number : ℕ) (d : Due) (o : Option Sending) → ((x : Sending) → o ≡ Some x → Reads x.payload P) → Each (SentFits P) (sends_again d number o)
  again_fits P number due.SendAgain (Some x) reads =
      (record { side = refl; bare = bare_spelled 2 69 66 1 0 number false x.sequence x.payload; hands = hands_request P (address_of number) x.sequence x.payload refl (reads x refl) }, tt)
  again_fits P number due.SendAgain None reads = tt
  again_fits P number due.Nothing o reads = tt
  again_fits P number due.GaveUp o reads = tt

  pub sends_beaten : (P : ℕ → Body → Type 0) (e : Ecp) → Sends e P → Sends (beaten_ecp e) P
  sends_beaten P e k = record { each = λ x h. by_option e.sending k.each x h }
    where
      none_some : {x : Sending} → None ≡ Some x → ⊥
      none_some z = cc

      some_same : {x y : Sending} → Some x ≡ Some y → x ≡ y
      some_same z = cc

      by_option : (o : Option Sending) → ((x : Sending) → o ≡ Some x → Reads x.payload P × (length x.payload ≤ 1024)) → (x : Sending) → aged o ≡ Some x → Reads x.payload P × (length x.payload ≤ 1024)
      by_option None all x h = absurd (none_some h)
      by_option (Some y) all x h =
          elim (cases_Bool (y.beats + 1 == 12)) [
            | inl z ↦ absurd (none_some (rw z at h))
            | inr z ↦
                let is : record { sequence = y.sequence; beats = y.beats + 1; payload = y.payload } ≡ x = some_same (rw z at h) in
                let R : Sending → Type 0 = λ v. Reads v.payload P × (length v.payload ≤ 1024) in
                subst R is (all y refl)
          ]

  pub own_fits : (h : Held) (P Q : ℕ → ℕ → Body → Type 0) (n : ℕ) (x : Sent) → is_extender t n ≡ true → SentFits (Q n) x → SendFits t h P Q n x
  own_fits h P Q n x there k =
      record {
        rises = λ e control. record { of = n; frame = x.bytes; there = there; bare = k.bare; way = inl (refl, refl); fits = k.hands };
        sinks = λ q m e hangs. absurd (up_port (sym k.side ∙ e));
      }
    where
      up_port : {q : ℕ} → side.Up ≡ side.Port q → ⊥
      up_port e = cc

  module _ (w : World) (sound : IsSound t l w) (n : ℕ) (there : is_extender t n ≡ true) where
    own_all : (r : Reaction) → Each (SentFits (WasAnswered r.0.session)) r.1 → Each (SendFits t w.control.held (AskedOf w.control.askers) (StoredAt (at n r.0 w.far)) n) r.1
    own_all r all =
        let Q : ℕ → ℕ → Body → Type 0 = StoredAt (at n r.0 w.far) in
        let R : ExtenderState → Type 0 = λ y. Each (SentFits (WasAnswered y.session)) r.1 in
        let mine : Each (SentFits (Q n)) r.1 = subst R (sym (at_here n r.0 w.far)) all in
        each_weaker (SentFits (Q n)) (SendFits t w.control.held (AskedOf w.control.askers) Q n) r.1 (λ x k. own_fits w.control.held (AskedOf w.control.askers) Q n x there k) mine

    is : IsExtender (w.far n)
    is = sound.fits.ends.extenders n there

    kept : (i : Input) → IsInput i → IsExtender (react i (w.far n)).0
    kept i bytes = stays_extender.keeps i (w.far n) bytes is

    pub routes : Routes t w.control.held w.far
    routes = stands_route t tree (system_of w) (forget t l (system_of w) sound.stands) (fixed_now t l (system_of w) sound.stands).high w.far (λ i. refl)

    -- it forwards something
    forwards : (xs : List Sent) → Each (SendFits t w.control.held (AskedOf w.control.askers) (StoredAt (at n (w.far n) w.far)) n) xs → Reacts w n (w.far n, xs)
    forwards xs all = record { turned = inl (record { session = refl; tables = refl }); extender = is; answering = sound.fits.ends.answering n; sent = all }

    -- a frame comes from upstream
    pub above_reacts : (f : List ℕ) → IsBytes f → FitsOn t w.control.held (AskedOf w.control.askers) n f → (w.control.askers n).serial < 2 ^ 64 → Reacts w n (react (Arrives side.Up f) (w.far n))
    above_reacts f bytes fits low =
        elim (cases_Bool (is_bare_control f)) [
          | inr other ↦ rw other (forwards (emitted (w.far n).tables side.Up f) (sent_from_above t tree w.control.held round (AskedOf w.control.askers) (StoredAt (at n (w.far n) w.far)) w.far routes n there is f fits other))
          | inl bare ↦
              let h = hears_asked (w.control.askers n) low (w.far n) is.spelled is.ports (sound.fits.ends.paired n) (sound.fits.ends.answering n) f (hands bare (fits (bare_is f bare).control)) in
              let x : IsExtender (hears f (w.far n)).0 = rw bare at (kept (Arrives side.Up f) bytes) in
              rw bare (record { turned = h.turned; extender = x; answering = h.sends; sent = own_all (hears f (w.far n)) h.sent })
        ]
      where
        hands : is_bare_control f ≡ true → IsOnWay t w.control.held n f (λ i c. Hands c (AskedOf w.control.askers i)) → Hands f (WasAsked (w.control.askers n))
        hands bare k =
            elim k.way [
              | inl e ↦
                  let R : ℕ → List ℕ → Type 0 = λ i c. Hands c (AskedOf w.control.askers i) in
                  subst (λ (c : List ℕ). R n c) (sym e.1) (subst (λ (i : ℕ). R i k.frame) (sym e.0) k.fits)
              | inr tag ↦ absurd (tagged_bare t tree w.control.held round (AskedOf w.control.askers) (StoredAt w.far) w.far routes n f k.of k.frame k.bare tag bare)
            ]

    -- a beat passes
    pub beat_reacts : Reacts w n (react Beats (w.far n))
    unfolding beats
    beat_reacts =
        let s : ExtenderState = w.far n in
        let P : ℕ → Body → Type 0 = WasAnswered s.session in
        let sending : Sends s.ecp P = sound.fits.ends.answering n in
        let sent : Each (SentFits P) (announces (next_count s.beats) s ++ sends_again (beat_of s.ecp.sending) s.number s.ecp.sending) =
        each_append (SentFits P) (announces (next_count s.beats) s) (sends_again (beat_of s.ecp.sending) s.number s.ecp.sending) (announced_fits P (next_count s.beats) s) (again_fits P s.number (beat_of s.ecp.sending) s.ecp.sending (λ x e. (sending.each x e).0))
        in
        let x : IsExtender (beats s).0 = kept Beats tt in
        record { turned = inl (record { session = refl; tables = refl }); extender = x; answering = sends_beaten P s.ecp sending; sent = own_all (beats s) sent }

  pub above_sound : (w : World) → IsSound t l w → (n : ℕ) (x : LinkFrame) → is_extender t n ≡ true → IsBytes x.bytes → WordFits t w.control.held (AskedOf w.control.askers) n x → AreLow w.control.askers → Stays t l w (takes_from_above t n x w)
  above_sound w sound n x there bytes fits low =
      does_sound w sound n x.stamp (react (Arrives side.Up x.bytes) (w.far n)) (above_reacts w sound n there x.bytes bytes fits (low n))

  pub as_it_is : (w : World) (n : ℕ) (xs : List Sent) → Each (SendFits t w.control.held (AskedOf w.control.askers) (StoredAt w.far) n) xs → Each (SendFits t w.control.held (AskedOf w.control.askers) (StoredAt (at n (w.far n) w.far)) n) xs
  as_it_is w n xs all = let R : (ℕ → ExtenderState) → Type 0 = λ g. Each (SendFits t w.control.held (AskedOf w.control.askers) (StoredAt g) n) xs in subst R (sym (at_itself n w.far)) all

  pub below_sound : (w : World) → IsSound t l w → (m : ℕ) (x : LinkFrame) → is_extender t m ≡ true → 64 ≤ on t m → WordFits t w.control.held (StoredAt w.far) m x → Stays t l w (takes_from_below t (device (on t m)) (port_number (on t m)) x w)
  below_sound w sound m x there deep fits =
      let p : ℕ = device (on t m) in
      let q : ℕ = port_number (on t m) in
      let above : is_extender t p ≡ true = above_there t tree m there deep in
      let is : IsExtender (w.far p) = sound.fits.ends.extenders p above in
      elim (cases_Bool ((w.far p).tables.cascade q)) [
        | inr other ↦ rw other (quiet_stays t l tree setting w (only w) refl refl refl sound.fits)
        | inl cascade ↦
            let xs : List Sent = emitted (w.far p).tables (side.Port q) x.bytes in
            let all : Each (SendFits t w.control.held (AskedOf w.control.askers) (StoredAt w.far) p) xs =
            sent_from_below t tree w.control.held round (AskedOf w.control.askers) (StoredAt w.far) w.far (stands_route t tree (system_of w) (forget t l (system_of w) sound.stands) (fixed_now t l (system_of w) sound.stands).high w.far (λ i. refl)) m there deep x.bytes fits is cascade
            in
            rw cascade (does_sound w sound p x.stamp (w.far p, xs) (forwards w sound p above xs (as_it_is w p xs all)))
      ]

  -- what a frame from a station makes of it
  ignored_or_done : (w : World) → IsSound t l w → (a : Arrival) (r : Reaction) → Reacts w (device a.port) r → Stays t l w (does_or_ignores t a r w)
  ignored_or_done w sound a (s, []) k = quiet_stays t l tree setting w (ignored a w) refl refl refl sound.fits
  ignored_or_done w sound a (s, x ∷ xs) k = does_sound w sound (device a.port) (Some (stamp_of a)) (s, x ∷ xs) k

  pub station_sound : (w : World) → IsSound t l w → (a : Arrival) → is_extender t (device a.port) ≡ true → IsBytes a.bytes → Stays t l w (arrives_at t a w)
  station_sound w sound a there bytes =
      let n : ℕ = device a.port in
      let q : ℕ = port_number a.port in
      elim (cases_Bool ((w.far n).tables.cascade q)) [
        | inl cascade ↦ rw cascade (quiet_stays t l tree setting w (ignored a w) refl refl refl sound.fits)
        | inr external ↦
            let xs : List Sent = emitted (w.far n).tables (side.Port q) a.bytes in
            let all : Each (SendFits t w.control.held (AskedOf w.control.askers) (StoredAt w.far) n) xs = sent_from_station t w.control.held (AskedOf w.control.askers) (StoredAt w.far) n q (w.far n) a.bytes bytes external in
            rw external (ignored_or_done w sound a (w.far n, xs) (forwards w sound n there xs (as_it_is w n xs all)))
      ]

  pub beat_same : (s : ExtenderState) → IsSame s (react Beats s).0
  unfolding beats
  beat_same s = record { session = refl; tables = refl }

  pub beat_quiet : (w : World) → IsSound t l w → (n : ℕ) → is_extender t n ≡ true → ((reacts t n None Beats w).world.control ≡ w.control) × (system_of (reacts t n None Beats w).world ≡ system_of w)
  beat_quiet w sound n there = does_same w sound n None (react Beats (w.far n)) (beat_reacts w sound n there) (beat_same (w.far n))

  pub beat_sound : (w : World) → IsSound t l w → (n : ℕ) → is_extender t n ≡ true → Stays t l w (reacts t n None Beats w)
  beat_sound w sound n there = does_sound w sound n None (react Beats (w.far n)) (beat_reacts w sound n there)

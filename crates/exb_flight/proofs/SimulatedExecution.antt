-- An extender takes a control frame from upstream that is its own: where it executes the outstanding request, that one stands
-- before all data words; and what it sends goes up.
use Rattle.std.proofs.Common.{◌≡◌, ◌⊎◌, ℕ, ◌+◌, ◌==◌, ◌<◌, ◌^◌, true, false, List, [], ◌∷◌, ◌++◌, drop, Option, Some, None, Result, Ok, Err, refl, sym, ◌∙◌, ap, subst, arith, inl, inr}
use Rattle.std.proofs.lemmas.Bool.{cases_Bool}
use Rattle.exb_model.specs.Tree.{Shape, IsTree, is_extender}
use Rattle.exb_model.specs.Setup.{Limits}
use Rattle.exb_model.specs.History.{Basis, History}
use Rattle.exb_frame.specs.TagValues.{TagRoundTrip}
use Rattle.exb_lldp.specs.Announcements.{announced as announcement_in}
use Rattle.exb_ecp.specs.declared.pdu.Pdu.{Pdu}
use Rattle.exb_ecp.specs.declared.pdu.EcpFault.{EcpFault}
use Rattle.exb_ecp.specs.Frames.{pdu_in}
use Rattle.exb_ecp.specs.StopAndWait.{heard, is_fresh}
use Rattle.exb_csp.specs.declared.fault.CspFault.{CspFault}
use Rattle.exb_csp.specs.declared.message.Body.{Body}
use Rattle.exb_csp.specs.declared.message.Body.TheVariants as body
use Rattle.exb_csp.specs.declared.message.Message.{Message}
use Rattle.exb_csp.specs.declared.message.Request.{Request}
use Rattle.exb_csp.specs.Decoding.{read_message}
use Rattle.exb_csp.specs.Sessions.AnsweringEnd.{AnswererState, stored_message}
use Rattle.exb_extender.specs.Forwarding.{has_etag_type, is_bare_control}
use Rattle.exb_extender.specs.Machine.{ExtenderState, Reaction, IsExtender, submits, executes, takes_body, takes_request, takes_message, hears_pdu, hears}
use Rattle.exb_link.specs.declared.link_frame.LinkFrame.{LinkFrame}
use Rattle.exb_link.specs.LinkFrames.{is_control}
use Rattle.exb_control_spec.specs.Decisions.{decide}
use Rattle.exb_control_spec.specs.Machine.{Work}
use Rattle.exb_control_spec.specs.Runs.Systems.{System, Execute, stepped}
use Rattle.exb_control_spec.specs.Runs.PlannedChanges.{IsSetting}
use Rattle.exb_world_spec.specs.Worlds.{World, Down, Left, with_far}
use Rattle.exb_model.specs.Tables.{at}
use Rattle.exb_world_spec.specs.Effects.{only, each}
use Rattle.exb_world_spec.specs.ExtenderSteps.{sends, does}
use Rattle.exb_world_spec.specs.Runs.Sessions.{Hands, WordFits, WasAsked, AskedOf, ArePaired}
use Rattle.exb_world_spec.specs.Runs.Simulation.{IsSound}
use Rattle.exb_world_spec.proofs.ExtenderAnswers.{HasExecuted, HasHeard, hears_asked}
use Rattle.exb_world_spec.proofs.Frames.{bare_is}
use Rattle.exb_world_spec.proofs.ExtenderSteps.{seen_same, seen_run}
use Rattle.exb_world_spec.proofs.TakenAnswers.{IsOutstanding, outstanding}
use Rattle.exb_world_spec.proofs.LinkFrames.{at_same}
use Rattle.exb_flight.specs.Items.{Key, leads}
use Rattle.exb_flight.specs.Flight.{Flight, Move, work_of, key_of}
use Rattle.exb_flight.specs.AllowedSteps.{run}
use Rattle.exb_flight.specs.Tokens.{addressee, content, key_by, key_of_message, key_of_pdu, key_of_frame, key_for, key_on}
use Rattle.exb_flight.specs.SimulationRelation.{Shows}
use Rattle.exb_flight.specs.Simulation.{Flown}
use Rattle.exb_flight.proofs.SimulatedTicks.{none_left}
use Rattle.exb_flight.proofs.TokenKeys.{on_way}
use Rattle.exb_flight.proofs.PushedTokens.{flown_then}
use Rattle.exb_flight.proofs.OwnControlFrames.{own_pushed, all_own, hears_control}

-- ---- the last serial changes only where the frame has its key
abbrev pub HasKey : ℕ → ExtenderState → Option Key → Reaction → Type 0
HasKey n s key r = (r.0.session.last ≡ s.session.last) ⊎ (key ≡ Some (record { extender = n; serial = r.0.session.last }))

submits_session : (o : Option Message) (s : ExtenderState) → (submits o s).0.session ≡ s.session
submits_session None s = refl
submits_session (Some m) s = refl

module _ (n : ℕ) where
  asks_key : (s : ExtenderState) (serial : ℕ) (request : Request) → HasKey n s (Some (record { extender = n; serial = serial })) (takes_request serial request s)
  asks_key s serial request =
      elim (cases_Bool (serial == 0)) [
        | inl z ↦ rw z (inl refl)
        | inr z ↦ elim (cases_Bool (serial == s.session.last)) [
          | inl e ↦ rw (z, e) (inl (ap (λ (x : AnswererState). x.last) (submits_session (stored_message s.session) s)))
          | inr e ↦ elim (cases_Bool (serial == s.session.last + 1)) [
            | inr o ↦ rw (z, e, o) (inl refl)
            | inl o ↦ rw (z, e, o) (
                let u : ExtenderState = executes (record { last = serial; answer = None }) request s in
                let last : (submits (stored_message u.session) u).0.session.last ≡ serial = ap (λ (x : AnswererState). x.last) (submits_session (stored_message u.session) u) in
                inr (ap (λ (k : ℕ). Some (record { extender = n; serial = k })) (sym last)))
          ]
        ]
      ]

  message_key : (s : ExtenderState) (r : Result Message CspFault) → HasKey n s (key_of_message Down n r) (takes_message r s)
  message_key s (Err fault) = inl refl
  message_key s (Ok m) = by_body m.body
    where
      by_body : (b : Body) → HasKey n s (key_by Down n m.serial b) (takes_body m.serial b s)
      by_body (body.Ask request) = asks_key s m.serial request
      by_body (body.Answer response) = inl refl

  pdu_key : (s : ExtenderState) (r : Result Pdu EcpFault) (f : List ℕ) → HasKey n s (key_of_pdu Down n r f) (hears_pdu r f s)
  pdu_key s (Err fault) f = inl refl
  pdu_key s (Ok p) f =
      elim (cases_Bool (p.subtype == 2)) [
        | inr other ↦ rw other (inl refl)
        | inl ours ↦ elim (cases_Bool p.acknowledgement) [
          | inl a ↦ rw (ours, a) (inl refl)
          | inr a ↦ rw (ours, a) (elim (cases_Bool (is_fresh p.sequence s.ecp)) [
            | inr z ↦ rw z (inl refl)
            | inl z ↦ rw z (message_key (record s { ecp = heard p.sequence s.ecp }) (read_message (drop 18 f)))
          ])
        ]
      ]

  hears_key : (s : ExtenderState) (f : List ℕ) → HasKey n s (key_of_pdu Down n (pdu_in f) f) (hears f s)
  unfolding hears
  hears_key s f = pdu_key s (pdu_in f) f

module _ (t : Shape) (l : Limits) (i : Basis) (tree : IsTree t) (setting : IsSetting t l) (round : TagRoundTrip) where
  module _ (v : World) (sound : IsSound t l v) (h : History) (gone : List Left) (f : Flight) (s : Shows t i v h gone f) (n : ℕ) (there : is_extender t n ≡ true) (x : LinkFrame) (control : is_control x ≡ true) (bare : is_bare_control x.bytes ≡ true)
      (fits : WordFits t v.control.held (AskedOf v.control.askers) n x) (low : (v.control.askers n).serial < 2 ^ 64) (first : (j : Key) → key_on t v.control.held Down n x ≡ Some j → leads j (f.down n) ≡ true) where
    untyped : has_etag_type x.bytes ≡ false
    untyped = (bare_is x.bytes bare).untyped

    hands : Hands x.bytes (WasAsked (v.control.askers n))
    hands =
        let k = fits (control) in
        let o = on_way t tree round v.control.held n x.bytes (λ m c. Hands c (AskedOf v.control.askers m)) k in
        let mine : addressee t v.control.held n x.bytes ≡ Some n = rw untyped refl in
        let its : content x.bytes ≡ x.bytes = rw untyped refl in
        let same : k.of ≡ n = some_same k.of n (sym o.0 ∙ mine) in
        let R : ℕ → List ℕ → Type 0 = λ m c. Hands c (AskedOf v.control.askers m) in
        subst (λ (c : List ℕ). R n c) (sym o.1 ∙ its) (subst (λ (m : ℕ). R m k.frame) same k.fits)
      where
        some_same : (a b : ℕ) → Some a ≡ Some b → a ≡ b
        some_same a b e = cc

    heard_all : HasHeard (v.control.askers n) (v.far n) (hears x.bytes (v.far n))
    heard_all =
        let is : IsExtender (v.far n) = sound.fits.ends.extenders n there in
        hears_asked (v.control.askers n) low (v.far n) is.spelled is.ports (sound.fits.ends.paired n) (sound.fits.ends.answering n) x.bytes hands

    r : Reaction
    r = hears x.bytes (v.far n)

    -- the outstanding request leads
    leads_now : HasExecuted (v.control.askers n) (v.far n) (hears x.bytes (v.far n)).0 → (u : Work) → work_of f ≡ Some u → leads (key_of f.system.state u) (f.down u.first.extender) ≡ true
    unfolding key_on
    leads_now ran u is =
        let out : IsOutstanding v.control n ran.request = outstanding v.control n ran.request sound.fits.ends.waits ran.waited in
        let serial : (hears x.bytes (v.far n)).0.session.last ≡ (v.control.askers n).serial = ap (λ (y : AnswererState). y.last) ran.session in
        let j : Key = record { extender = n; serial = (v.control.askers n).serial } in
        let read : key_of_pdu Down n (pdu_in x.bytes) x.bytes ≡ Some j = elim (hears_key n (v.far n) x.bytes) [
          | inl e ↦ absurd (omega (arith, e, serial, ran.serial))
          | inr e ↦ e ∙ ap (λ (k : ℕ). Some (record { extender = n; serial = k })) serial
        ] in
        let mine : addressee t v.control.held n x.bytes ≡ Some n = rw untyped refl in
        let its : content x.bytes ≡ x.bytes = rw untyped refl in
        let key : key_on t v.control.held Down n x ≡ Some j =
        ap (λ (o : Option ℕ). key_for Down o (content x.bytes)) mine ∙ (ap (λ (c : List ℕ). key_of_frame Down n (announcement_in c) c) its ∙ read) in
        let here : leads j (f.down n) ≡ true = first j key in
        let there_is : leads (key_of v.control out.work) (f.down out.work.first.extender) ≡ true =
        subst (λ (m : ℕ). leads (record { extender = m; serial = (v.control.askers m).serial }) (f.down m) ≡ true) (sym out.of) here in
        let at_w : v.control.work ≡ Some u = subst (λ (y : System). y.state.work ≡ Some u) s.system is in
        let same : out.work ≡ u = work_same out.work u (sym out.is ∙ at_w) in
        subst (λ (y : System). leads (key_of y.state u) (f.down u.first.extender) ≡ true) (sym s.system) (subst (λ (z : Work). leads (key_of v.control z) (f.down z.first.extender) ≡ true) same there_is)
      where
        work_same : (a b : Work) → Some a ≡ Some b → a ≡ b
        work_same a b e = cc

    paired_after : ArePaired (v.control.askers n) (hears x.bytes (v.far n)).0.session → (m : ℕ) → ArePaired (v.control.askers m) (at n (hears x.bytes (v.far n)).0 v.far m).session
    paired_after mine = at_same (λ m y. ArePaired (v.control.askers m) y.session) n (hears x.bytes (v.far n)).0 v.far mine sound.fits.ends.paired

    pub bare_flown : Flown t l i h gone f (does t n x.stamp (hears x.bytes (v.far n)) v)
    bare_flown =
        let q : Reaction = hears x.bytes (v.far n) in
        let u : World = with_far n q.0 v in
        let all = all_own t l tree setting round v.control.held v.control.askers v.far n there q.0 q.1 heard_all.sent (hears_control x.bytes (v.far n)) in
        elim heard_all.turned [
          | inl same ↦
              let shows : Shows t i u h gone f = record { system = s.system ∙ sym (seen_same v.control n q.0 v.far same); down = s.down; up = s.up; history = s.history; left = s.left; learned = s.learned } in
              (own_pushed t l i tree round n x.stamp q.1 u h gone f shows (paired_after (subst (λ (y : AnswererState). ArePaired (v.control.askers n) y) (sym same.session) (sound.fits.ends.paired n))) all).flown
          | inr ran ↦
              let g : Flight = run t l i f (Move Execute ∷ []) in
              let shows : Shows t i u h gone g = record {
                system = ap (λ (y : System). stepped (decide t l) y Execute) s.system ∙ sym (seen_run t l v.control sound.fits.ends.waits n q.0 v.far ran);
                down = s.down;
                up = s.up;
                history = s.history;
                left = s.left;
                learned = s.learned;
              } in
              let one : Flown t l i h gone f (only u) = record { steps = Move Execute ∷ []; runs = (leads_now ran, tt); shows = none_left t i u h gone g shows } in
              let rest = own_pushed t l i tree round n x.stamp q.1 u h (gone ++ []) g one.shows (paired_after (inl (ap (λ (y : AnswererState). y.last) ran.session))) all in
              flown_then t l i h gone f (only u) (each (sends t n x.stamp) q.1) one rest.flown
        ]

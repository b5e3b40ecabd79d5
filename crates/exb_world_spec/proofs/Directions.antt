-- Whoever takes a word puts none on the direction from which it came.
use Rattle.std.proofs.Common.{◌≡◌, ◌≢◌, ℕ, zero, suc, ◌-◌, ◌/◌, ◌<◌, ◌≤◌, ◌==◌, nat_lt, true, false, List, [], ◌∷◌, map, drop, length, Option, Some, None, Ok, Err, refl, ap, sym, ◌∙◌, subst, arith, inl, inr}
use Rattle.std.specs.Prelude.{Result}
use Rattle.std.proofs.lemmas.Bool.{false≢true, cases_Bool, cases_lt, and_parts, lt-ltb, le-ltb, ltb-true, ne_eqb}
use Rattle.exb_model.specs.Tree.{Shape, HangsOn, IsTree, device, on, is_extender, top, port_number}
use Rattle.exb_model.specs.Setup.{Limits}
use Rattle.exb_model.specs.ExtenderForwarding.{emits}
use Rattle.exb_model.proofs.TreeWays.{top_high, top_none}
use Rattle.exb_ecp.specs.declared.pdu.Pdu.{Pdu}
use Rattle.exb_ecp.specs.declared.pdu.EcpFault.{EcpFault}
use Rattle.exb_ecp.specs.Frames.{pdu_in}
use Rattle.exb_ecp.specs.StopAndWait.{is_fresh}
use Rattle.exb_csp.specs.declared.fault.CspFault.{CspFault}
use Rattle.exb_csp.specs.declared.message.Body.{Body}
use Rattle.exb_csp.specs.declared.message.Body.TheVariants as body
use Rattle.exb_csp.specs.declared.message.Message.{Message}
use Rattle.exb_csp.specs.Decoding.{read_message}
use Rattle.exb_extender.specs.declared.sends.Side.{Side}
use Rattle.exb_extender.specs.declared.sends.Side.TheVariants as side
use Rattle.exb_csp.specs.AllTables.{port_of}
use Rattle.exb_extender.specs.Forwarding.{Sent, sent_at as sent_at_port}
use Rattle.exb_csp.specs.declared.session.answerer.Due.{Due as Turn}
use Rattle.exb_csp.specs.declared.session.answerer.Due.TheVariants.{Execute, Again, Ignore}
use Rattle.exb_csp.specs.Sessions.AnsweringEnd.{AnswererState, arrived, stored_message}
use Rattle.exb_extender.specs.Forwarding.{forwarding_of, is_bare_control, emitted}
use Rattle.exb_extender.specs.Machine.{ExtenderState, IsExtender, Arrives, react, submits, executes, by_turn, takes_body, takes_message}
use Rattle.exb_extender.specs.Machine.{hears_request as extender_hears_request, hears_pdu as extender_hears_pdu, hears as extender_hears}
use Rattle.exb_ecp.specs.StopAndWait.{heard as received}
use Rattle.exb_world_spec.specs.Runs.Sessions.{Each}
use Rattle.exb_world_spec.proofs.LinkFrames.{each_weaker, each_range}
use Rattle.exb_link.specs.declared.link_frame.LinkFrame.{LinkFrame}
use Rattle.exb_link.specs.LinkFrames.{is_control}
use Rattle.exb_world_spec.specs.Worlds.{World, Up, Down}
use Rattle.exb_world_spec.specs.Runs.Simulation.{IsSound}
use Rattle.exb_world_spec.specs.Runs.SessionLaws.{TakingLeavesItsDirection, IsNextControl, IsNextData, DirectionsGoInOrder}
use Rattle.exb_world_spec.proofs.Trunks.{hangs_there, hung_is}
use Rattle.exb_world_spec.proofs.LinkFrames.{at_other}
use Rattle.exb_world_spec.specs.Worlds.{Line, Way, Mark}
use Rattle.exb_world_spec.specs.Steps.{words_on}
use Rattle.exb_world_spec.specs.Effects.{Effect}
use Rattle.exb_world_spec.proofs.Acts.{Act, Above, Below, Station, FarBeat, Come, Remove, act, IsIn, Why, each_in, bridge_acts}
use Rattle.exb_world_spec.proofs.Deeds.{Deed, Send, Words, deed, Reacting, reacting, GoesOn, IsSent, Reacted, Controlled, Relayed, Because, act_deeds}

-- ---- no extender hangs on itself
itself_top : (t : Shape) (n d : ℕ) → device (on t n) ≡ n → 64 ≤ on t n → top t.on d (on t n) ≡ on t n
itself_top t n zero e deep = top_none t (on t n)
itself_top t n (suc d) e deep = top_high t d (on t n) deep ∙ ap (λ (i : ℕ). top t.on d (on t i)) e ∙ itself_top t n d e deep

not_itself : (t : Shape) → IsTree t → (n : ℕ) → is_extender t n ≡ true → 64 ≤ on t n → device (on t n) ≢ n
not_itself t tree n there deep e =
    let h = hangs_there t n there in
    let low = tree.rooted n h.extender h.there in
    omega (arith, low, itself_top t n 63 e deep)

-- ---- what an extender sends
-- none goes down to the extender itself
abbrev Sinks : Shape → ℕ → Sent → Type 0
Sinks t p x = (k : ℕ) → x.side ≡ side.Port k → HangsOn t p (port_of p k) → ⊥

-- ---- its own frames go up
abbrev Rises : Sent → Type 0
Rises x = x.side ≡ side.Up

submits_rise : (m : Option Message) (s : ExtenderState) → Each Rises (submits m s).1
submits_rise None s = tt
submits_rise (Some m) s = (refl, tt)

turn_rises : (session : AnswererState) (u : Turn) (s : ExtenderState) → Each Rises (by_turn session u s).1
turn_rises session (Execute asked) s = submits_rise (stored_message (executes session asked s).session) (executes session asked s)
turn_rises session Again s = submits_rise (stored_message s.session) s
turn_rises session Ignore s = tt

body_rises : (serial : ℕ) (b : Body) (s : ExtenderState) → Each Rises (takes_body serial b s).1
body_rises serial (body.Ask asked) s = turn_rises (arrived s.session serial asked).0 (arrived s.session serial asked).1 s
body_rises serial (body.Answer response) s = tt

heard_rises : (r : Result Message CspFault) (s : ExtenderState) → Each Rises (takes_message r s).1
heard_rises (Ok m) s = body_rises m.serial m.body s
heard_rises (Err fault) s = tt

request_rises : (sequence : ℕ) (payload : List ℕ) (s : ExtenderState) → Each Rises (extender_hears_request sequence payload s).1
request_rises sequence payload s =
    elim (cases_Bool (is_fresh sequence s.ecp)) [
      | inl e ↦ rw e (refl, heard_rises (read_message payload) (record s { ecp = received sequence s.ecp }))
      | inr e ↦ rw e (refl, tt)
    ]

pdu_rises : (r : Result Pdu EcpFault) (f : List ℕ) (s : ExtenderState) → Each Rises (extender_hears_pdu r f s).1
pdu_rises (Err fault) f s = tt
pdu_rises (Ok p) f s =
    elim (cases_Bool (p.subtype == 2)) [
      | inr other ↦ rw other tt
      | inl ours ↦ elim (cases_Bool p.acknowledgement) [ inl ack ↦ rw (ours, ack) tt | inr request ↦ rw (ours, request) (request_rises p.sequence (drop 18 f) s) ]
    ]

hears_rises : (f : List ℕ) (s : ExtenderState) → Each Rises (extender_hears f s).1
unfolding extender_hears
hears_rises f s = pdu_rises (pdu_in f) f s

up_port : {k : ℕ} → side.Up ≡ side.Port k → ⊥
up_port e = cc

same_port : (q k : ℕ) → side.Port q ≡ side.Port k → q ≡ k
same_port q k e = cc

-- ---- a word from upstream
module _ (t : Shape) (l : Limits) (w : World) (tree : IsTree t) (sound : IsSound t l w) (n : ℕ) (there : is_extender t n ≡ true) where
  low : 1 ≤ n
  low = let p = and_parts (nat_lt 0 n) (nat_lt 0 _) there in ltb-true 0 n p.0

  is : IsExtender (w.far n)
  is = sound.fits.ends.extenders n there

  no_port : (k : ℕ) → 0 < k → k ≤ 64 → HangsOn t n (port_of n k) → ⊥
  no_port k first few h =
      let deep : 64 ≤ on t n = omega (arith, h.at, low) in
      let home : device (on t n) ≡ n = (let d : port_of n k / 64 ≡ n = omega (arith, low) in ap device h.at ∙ d) in
      not_itself t tree n there deep home

  sinks_at : (q : ℕ) → 0 < q → q ≤ 64 → (xs : List (List ℕ)) → Each (Sinks t n) (map (λ bytes. record { side = side.Port q; bytes = bytes }) xs)
  sinks_at q first few [] = tt
  sinks_at q first few (x ∷ xs) = (λ k e h. no_port q first few (subst (λ (i : ℕ). HangsOn t n (port_of n i)) (sym (same_port q k e)) h), sinks_at q first few xs)

  sinks_all : (f : List ℕ) → Each (Sinks t n) (react (Arrives side.Up f) (w.far n)).1
  unfolding emitted
  sinks_all f =
      elim (cases_Bool (is_bare_control f)) [
        | inl e ↦ rw e (each_weaker Rises (Sinks t n) (extender_hears f (w.far n)).1 (λ x up k g h. up_port (sym up ∙ g)) (hears_rises f (w.far n)))
        | inr e ↦ rw e (each_range (Sinks t n) (sent_at_port (w.far n).tables f) 1 (w.far n).tables.ports (λ q ql qh. sinks_at q (omega arith) (omega (arith, is.ports.1)) (emits (forwarding_of (w.far n).tables) q f)))
      ]

-- ---- the law
-- what leaves a direction as it is
abbrev Leaves : ℕ → Way → World → Effect → Type 0
Leaves n way v e = words_on n way e.world ≡ words_on n way v

other_way : Up ≡ Down → ⊥
other_way e = let z : Up ≡ Down = e in cc

pushed_leaves : (n : ℕ) (way : Way) (line : Line) (m : ℕ) (d : Way) (x : LinkFrame) (v : World) → ((d ≡ way) → m ≡ n → ⊥) → Leaves n way v (deed (Send line m d x) v)
pushed_leaves n Up line m Up x v ne = at_other m n _ v.up (λ e. ne refl (sym e))
pushed_leaves n Down line m Down x v ne = at_other m n _ v.down (λ e. ne refl (sym e))
pushed_leaves n Up line m Down x v ne = refl
pushed_leaves n Down line m Up x v ne = refl

-- an act that takes no word, where what it sends goes elsewhere
module _ (t : Shape) (l : Limits) (n : ℕ) (way : Way) where
  leaves_by : (a : Act) (u : World) → ((m : ℕ) (d : Way) (ws : List LinkFrame) → a ≡ Remove m d ws → ⊥) → ((m : ℕ) (d : Way) (x : LinkFrame) → IsSent t a u m d x → d ≡ way → m ≡ n → ⊥) → Leaves n way u (act t l a u)
  leaves_by a u takes_none elsewhere = act_deeds t l a u (Leaves n way) (λ v. refl) (λ v e f x y. y ∙ x) (by_deed way elsewhere)
    where
      by_deed : (way : Way) → ((m : ℕ) (d : Way) (x : LinkFrame) → IsSent t a u m d x → d ≡ way → m ≡ n → ⊥) → (d : Deed) (v : World) → Because t l a u d v → Leaves n way v (deed d v)
      by_deed way other (Send line m d x) v is = pushed_leaves n way line m d x v (other m d x is)
      by_deed way other (Words m d ws) v is = absurd (takes_none m d ws is)
      by_deed Up other _ v is = refl
      by_deed Down other _ v is = refl

-- what an extender sends goes up from it, or to one that hangs on it
goes_elsewhere : (t : Shape) (n m : ℕ) (d : Way) (s : Side) (bytes : List ℕ) → Sinks t n (record { side = s; bytes = bytes }) → GoesOn t n s m d → d ≡ Down → m ≡ n → ⊥
goes_elsewhere t n m d side.Up bytes sinks goes e same = other_way (sym goes.0 ∙ e)
goes_elsewhere t n m d (side.Port q) bytes sinks goes e same = sinks q refl (hung_is t (port_of n q) n (goes.1 ∙ ap Some same))

goes_up : (t : Shape) (p n m : ℕ) (d : Way) (s : Side) → n ≢ p → GoesOn t p s m d → d ≡ Up → m ≡ n → ⊥
goes_up t p n m d side.Up ne goes e same = ne (sym same ∙ goes.1)
goes_up t p n m d (side.Port q) ne goes e same = other_way (sym e ∙ goes.0)

same_reacting : {x y : Reacting} → Some x ≡ Some y → x ≡ y
same_reacting e = cc

pub taking_leaves : TakingLeavesItsDirection
taking_leaves t l w tree sound n Down x there = leaves_by t l n Down (Above n x) w (λ m d ws e. let z : Above n x ≡ Remove m d ws = e in cc) by_sent
  where
    R : ℕ → Way → Reacting → Type 0
    R m d r = (y : LinkFrame) (s : Side) → IsIn (record { side = s; bytes = y.bytes }) (react r.input (w.far r.n)).1 → GoesOn t r.n s m d → d ≡ Down → m ≡ n → ⊥

    by_sent : (m : ℕ) (d : Way) (y : LinkFrame) → IsSent t (Above n x) w m d y → d ≡ Down → m ≡ n → ⊥
    by_sent m d y (Reacted r s is stamped in_it goes) e same =
        subst (R m d) (same_reacting is) (λ z s k g. goes_elsewhere t n m d s z.bytes (each_in (Sinks t n) (record { side = s; bytes = z.bytes }) (react (Arrives side.Up x.bytes) (w.far n)).1 (sinks_all t l w tree sound n there x.bytes) k) g) y s in_it goes e same
    by_sent m d y (Controlled k f is down goes) e same = is
    by_sent m d y (Relayed b is stamped down) e same = let z : Above n x ≡ Come b = is in cc
taking_leaves t l w tree sound n Up x there =
    elim (cases_lt (on t n) 64) [
      | inl low ↦ let b : nat_lt (on t n) 64 ≡ true = lt-ltb (on t n) 64 low in rw b (bridge_acts t l Only w Mark (Leaves n Up) (record { nothing = λ v. refl; joins = λ v e f x y. y ∙ x; acts = by_bridge b }) n x w (refl, refl) b refl)
      | inr deep ↦
          let b : nat_lt (on t n) 64 ≡ false = le-ltb (on t n) 64 deep in
          rw b (
          elim (cases_Bool ((w.far (device (on t n))).tables.cascade (port_number (on t n)))) [
            | inl c ↦ rw c (leaves_by t l n Up (Below n x) w (λ m d ws e. let z : Below n x ≡ Remove m d ws = e in cc) (by_sent deep))
            | inr c ↦ rw c refl
          ])
    ]
  where
    -- just this word is taken
    Only : ℕ → Way → LinkFrame → Type 0
    Only m d y = (m ≡ n) × (d ≡ Up)

    by_bridge : nat_lt (on t n) 64 ≡ true → (a : Act) (v : World) → Why t l Only w Mark a v → Leaves n Up v (act t l a v)
    by_bridge low a v why =
        leaves_by t l n Up a v (λ m d ws e. subst (λ (c : Act). Why t l Only w Mark c v) e why) (λ m d y k e same. no_up m d y k e)
      where
        none_some : {r : Reacting} → None ≡ Some r → ⊥
        none_some e = cc

        by_act : (c : Act) → Why t l Only w Mark c v → (r : Reacting) → reacting t c ≡ Some r → ⊥
        by_act (Above m y) h r e = other_way (sym h.1)
        by_act (Below m y) h r e = false≢true (sym (subst (λ (k : ℕ). nat_lt (on t k) 64 ≡ false) h.0.0 h.1) ∙ low)
        by_act (Station b) h r e = h.0
        by_act (FarBeat m) h r e = h.0
        by_act _ h r e = none_some e

        no_up : (m : ℕ) (d : Way) (y : LinkFrame) → IsSent t a v m d y → d ≡ Up → ⊥
        no_up m d y (Reacted r s is stamped in_it goes) e = by_act a why r is
        no_up m d y (Controlled k f is down goes) e = other_way (sym e ∙ down)
        no_up m d y (Relayed b is stamped down) e = other_way (sym e ∙ down)

    R : ℕ → Way → Reacting → Type 0
    R m d r = (s : Side) → GoesOn t r.n s m d → d ≡ Up → m ≡ n → ⊥

    by_sent : 64 ≤ on t n → (m : ℕ) (d : Way) (y : LinkFrame) → IsSent t (Below n x) w m d y → d ≡ Up → m ≡ n → ⊥
    by_sent deep m d y (Reacted r s is stamped in_it goes) e same = subst (R m d) (same_reacting is) (λ s g. goes_up t (device (on t n)) n m d s (λ k. not_itself t tree n there deep (sym k)) g) s goes e same
    by_sent deep m d y (Controlled k f is down goes) e same = is
    by_sent deep m d y (Relayed b is stamped down) e same = let z : Below n x ≡ Come b = is in cc

-- ---- words in order
module _ (x : LinkFrame) (xs : List LinkFrame) where
  next_control : (before : List LinkFrame) → Each (λ w. is_control w ≡ true) before → is_control x ≡ true → IsNextControl before x xs
  next_control [] all control =
      record { free = rw control (omega arith); there = rw control refl; stays = rw control refl }
  next_control (w ∷ ws) all control =
      let k : IsNextControl ws x xs = next_control ws all.1 control in
      let not_zero : (suc (length ws) == 0) ≡ false = ne_eqb (suc (length ws)) 0 (λ e. omega arith) in
      let less : suc (length ws) - 1 ≡ length ws = omega arith in
      record {
        free = rw all.0 (let f = k.free in omega (arith, f));
        there = rw all.0 k.there;
        stays = rw (all.0, not_zero, less) (ap (λ (zs : List LinkFrame). w ∷ zs) k.stays);
      }

  next_data : (before : List LinkFrame) → Each (λ w. is_control w ≡ true) before → is_control x ≡ false → IsNextData before x xs
  next_data [] all bare = record { some = rw bare (omega arith); there = rw bare refl; stays = rw bare refl }
  next_data (w ∷ ws) all bare =
      let k : IsNextData ws x xs = next_data ws all.1 bare in
      record { some = rw all.0 k.some; there = rw all.0 k.there; stays = rw all.0 (ap (λ (zs : List LinkFrame). w ∷ zs) k.stays) }

pub directions_in_order : DirectionsGoInOrder
directions_in_order before x xs all = (next_control x xs before all, next_data x xs before all)

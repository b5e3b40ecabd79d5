-- To which sides an extender sends.
use Rattle.std.proofs.Common.{◌≡◌, ℕ, zero, suc, ◌+◌, ◌<◌, ◌≤◌, ◌==◌, ◌&&◌, Bool, true, false, List, [], ◌∷◌, ◌++◌, map, nat_lt, drop, refl, sym, subst, arith}
use Rattle.std.specs.Prelude.{Option, Some, None, Result, Ok, Err, All, if◌then◌else◌}
use Rattle.std.specs.List.{flat_map, range_with_len, AllByRecursion}
use Rattle.exb_model.specs.ETags.{read_etag, tagged}
use Rattle.exb_model.specs.ExtenderForwarding.{emits}
use Rattle.exb_csp.specs.declared.fault.CspFault.{CspFault}
use Rattle.exb_csp.specs.declared.message.Body.{Body}
use Rattle.exb_csp.specs.declared.message.Body.TheVariants.{Ask, Answer}
use Rattle.exb_csp.specs.declared.message.Message.{Message}
use Rattle.exb_csp.specs.Decoding.{read_message}
use Rattle.exb_csp.specs.Execution.{ExtenderTables}
use Rattle.exb_ecp.specs.declared.pdu.Pdu.{Pdu}
use Rattle.exb_ecp.specs.declared.pdu.EcpFault.{EcpFault}
use Rattle.exb_ecp.specs.Frames.{pdu_in}
use Rattle.exb_ecp.specs.StopAndWait.{acknowledged, heard, is_fresh}
use Rattle.exb_csp.specs.declared.session.answerer.Due.{Due as Turn}
use Rattle.exb_csp.specs.declared.session.answerer.Due.TheVariants.{Execute, Again, Ignore}
use Rattle.exb_csp.specs.Sessions.AnsweringEnd.{AnswererState, arrived, stored_message}
use Rattle.exb_csp.proofs.Sessions.Prefixes.{each_append, all_from}
use Rattle.exb_extender.specs.declared.sends.Side.{Side}
use Rattle.exb_extender.specs.declared.sends.Side.TheVariants.{Up, Port}
use Rattle.exb_extender.specs.declared.sends.Out.{Out}
use Rattle.exb_extender.specs.declared.sends.Sends.{Sends}
use Rattle.exb_extender.specs.Forwarding.{Sent, emitted, forwarding_of, sent_from_cascade, sent_from_external, up, channel_tag, names_channel, is_bare_control, is_ignored}
use Rattle.exb_extender.specs.Machine.{ExtenderState, Arrives, react, hears, hears_pdu, hears_request, nothing, takes_message, takes_body, by_turn, executes, submits}
use Rattle.exb_extender.specs.SingleSide.{GoesTo, IsLow}
use Rattle.exb_extender.specs.SentFrames.{CanBeGiven, out_sent, own_sent, sent_by}
use Rattle.exb_extender.specs.Forms.{IsSide, CanGo}

abbrev pub AreSides : List Sent → Type 0
AreSides = AllByRecursion (λ s. IsSide s.side)

-- ---- down
sides_at : (q : ℕ) (fs : List (List ℕ)) → 0 < q → q ≤ 64 → AreSides (map (λ bytes. record { side = Port q; bytes = bytes }) fs)
sides_at q [] some few = tt
sides_at q (f ∷ fs) some few = ((some, few), sides_at q fs some few)

sides_within : (g : ℕ → List (List ℕ)) (a n : ℕ) → 0 < a → a + n ≤ 65 → AreSides (flat_map (λ q. map (λ bytes. record { side = Port q; bytes = bytes }) (g q)) (range_with_len a n))
sides_within g a zero some few = tt
sides_within g a (suc n) some few =
    each_append (λ s. IsSide s.side) (map (λ bytes. record { side = Port a; bytes = bytes }) (g a))
    (flat_map (λ q. map (λ bytes. record { side = Port q; bytes = bytes }) (g q)) (range_with_len (a + 1) n))
    (sides_at a (g a) some (omega arith)) (sides_within g (a + 1) n (omega arith) (omega arith))

-- ---- up
sides_cascade : (channel : ℕ) (f : List ℕ) → AreSides (sent_from_cascade channel f)
sides_cascade channel f = by_tests f (names_channel (read_etag f)) (is_bare_control f && nat_lt 0 channel)
  where
    by_tests : (g : List ℕ) (a b : Bool) → AreSides (if a then up g ∷ [] else (if b then up (tagged g (channel_tag channel)) ∷ [] else []))
    by_tests g true b = (tt, tt)
    by_tests g false true = (tt, tt)
    by_tests g false false = tt

sides_external : (channel : ℕ) (f : List ℕ) → AreSides (sent_from_external channel f)
sides_external channel f = by_test (is_ignored channel f)
  where
    by_test : (a : Bool) → AreSides (if a then [] else up (tagged f (channel_tag channel)) ∷ [])
    by_test true = tt
    by_test false = (tt, tt)

sides_port : (t : ExtenderTables) (k : ℕ) (f : List ℕ) (cascade : Bool) → AreSides (if cascade then sent_from_cascade (t.own k) f else sent_from_external (t.own k) f)
sides_port t k f true = sides_cascade (t.own k) f
sides_port t k f false = sides_external (t.own k) f

sides_emitted : (t : ExtenderTables) (from : Side) (f : List ℕ) → t.ports ≤ 64 → AreSides (emitted t from f)
unfolding emitted
sides_emitted t Up f few = sides_within (λ q. emits (forwarding_of t) q f) 1 t.ports (omega arith) (omega arith)
sides_emitted t (Port k) f few = sides_port t k f (t.cascade k)

-- ---- the extender's own frames
sides_submits : (m : Option Message) (s : ExtenderState) → AreSides (submits m s).1
sides_submits None s = tt
sides_submits (Some m) s = (tt, tt)

sides_turn : (session : AnswererState) (turn : Turn) (s : ExtenderState) → AreSides (by_turn session turn s).1
sides_turn session (Execute asked) s = let e = executes session asked s in sides_submits (stored_message e.session) e
sides_turn session Again s = sides_submits (stored_message s.session) s
sides_turn session Ignore s = tt

sides_body : (serial : ℕ) (b : Body) (s : ExtenderState) → AreSides (takes_body serial b s).1
sides_body serial (Ask asked) s = sides_turn (arrived s.session serial asked).0 (arrived s.session serial asked).1 s
sides_body serial (Answer response) s = tt

sides_message : (m : Result Message CspFault) (s : ExtenderState) → AreSides (takes_message m s).1
sides_message (Ok m) s = sides_body m.serial m.body s
sides_message (Err fault) s = tt

sides_fresh : (fresh : Bool) (m : Result Message CspFault) (s u : ExtenderState) → AreSides (if fresh then takes_message m u else nothing s).1
sides_fresh true m s u = sides_message m u
sides_fresh false m s u = tt

sides_acknowledged : (is : Bool) (sequence : ℕ) (f : List ℕ) (s u : ExtenderState) → AreSides (if is then nothing u else hears_request sequence f s).1
sides_acknowledged true sequence f s u = tt
sides_acknowledged false sequence f s u = (tt, sides_fresh (is_fresh sequence s.ecp) (read_message f) s (record s { ecp = heard sequence s.ecp }))

sides_ours : (is : Bool) (pdu : Pdu) (f : List ℕ) (s : ExtenderState) →
    AreSides (if is then (if pdu.acknowledgement then nothing (record s { ecp = acknowledged pdu.sequence s.ecp }) else hears_request pdu.sequence (drop 18 f) s) else nothing s).1
sides_ours true pdu f s = sides_acknowledged pdu.acknowledgement pdu.sequence (drop 18 f) s (record s { ecp = acknowledged pdu.sequence s.ecp })
sides_ours false pdu f s = tt

sides_pdu : (pdu : Result Pdu EcpFault) (f : List ℕ) (s : ExtenderState) → AreSides (hears_pdu pdu f s).1
sides_pdu (Err fault) f s = tt
sides_pdu (Ok pdu) f s = sides_ours (pdu.subtype == 2) pdu f s

sides_hears : (f : List ℕ) (s : ExtenderState) → AreSides (hears f s).1
unfolding hears
sides_hears f s = sides_pdu (pdu_in f) f s

-- ---- what is sent where a frame came
sides_up : (bare : Bool) (f : List ℕ) (s : ExtenderState) → s.tables.ports ≤ 64 → AreSides (if bare then hears f s else (s, emitted s.tables Up f)).1
sides_up true f s few = sides_hears f s
sides_up false f s few = sides_emitted s.tables Up f few

pub sides_comes : (from : Side) (f : List ℕ) (s : ExtenderState) → s.tables.ports ≤ 64 → AreSides (react (Arrives from f) s).1
sides_comes Up f s few = sides_up (is_bare_control f) f s few
sides_comes (Port k) f s few = sides_emitted s.tables (Port k) f few

-- ---- each form goes to a side
sides_back : (f : List ℕ) (outs : List Out) (rest : List Sent) → AreSides (map (out_sent f) outs ++ rest) → AllByRecursion (λ out. IsSide out.to) outs
sides_back f [] rest h = tt
sides_back f (out ∷ outs) rest h = (h.0, sides_back f outs rest h.1)

pub can_go : (f : List ℕ) (s : Sends) (sent : List Sent) → sent_by f s ≡ sent → AreSides sent → All (λ out. CanBeGiven f out.form) s.frames.items → All (CanGo f) s.frames.items
can_go f s sent is sides given =
    let each = sides_back f s.frames.items (own_sent s.first.items ++ own_sent s.second.items) (subst AreSides (sym is) sides) in
    λ k d low. record { side = all_from (λ out. IsSide out.to) s.frames.items each k d low; form = given k d low }

-- of a frame that goes on to one side
side_low : (side : Side) → IsLow side → IsSide side
side_low Up low = tt
side_low (Port k) low = low k refl

pub only_goes : (t : ExtenderTables) (from : Side) (f : List ℕ) (out : Out) → GoesTo t from f out → CanGo f out
only_goes t from f out goes = record { side = side_low out.to goes.low; form = goes.given }

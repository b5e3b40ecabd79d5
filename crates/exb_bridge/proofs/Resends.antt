-- What the bridge sends again at a beat.
use Rattle.std.proofs.Common.{◌≡◌, ◌≢◌, ℕ, ◌+◌, ◌==◌, Bool, true, false, List, [], ◌∷◌, Option, Some, None, refl, sym, ap, subst, ◌∙◌, inl, inr, eq-eqb}
use Rattle.std.proofs.lemmas.Bool.{cases_eq, ne_eqb}
use mathlib.Core.Path.{fun_ext}
use Rattle.std.specs.Prelude.{IfSome, if◌then◌else◌}
use Rattle.exb_model.specs.Tree.{Shape, is_extender}
use Rattle.exb_ecp.specs.declared.stop_and_wait.Beat.{Beat as Due}
use Rattle.exb_ecp.specs.declared.stop_and_wait.Beat.TheVariants as due
use Rattle.exb_ecp.specs.StopAndWait.{State as Ecp, Sending, beaten, beat_of, is_due, aged, sent_payload}
use Rattle.exb_world_spec.specs.Effects.{Effect, only, each}
use Rattle.exb_world_spec.specs.ControlFrames.{beats_near, bridge_request, sends_again, to_extender}
use Rattle.exb_world_spec.specs.Steps.{if_there}
use Rattle.exb_world_spec.specs.Worlds.{World, with_near}
use Rattle.exb_model.specs.Tables.{at}
use Rattle.exb_world_spec.proofs.ControlFrames.{to_extender_control}
use Rattle.exb_world_spec.proofs.LinkFrames.{at_here}
use Rattle.exb_outbox.specs.declared.log.Log.{Log}
use Rattle.exb_bridge.specs.BridgeWorlds.{Whole}
use Rattle.exb_ecp.specs.Ends.{near_of}
use Rattle.exb_bridge.specs.TreeIndexes.{Site}
use Rattle.exb_bridge.specs.BridgeWorlds.{world_in, IsAt, Does}
use Rattle.exb_bridge.proofs.PartChanges.{near_in, near_at, tells_nothing}

-- ---- one end
-- it has had one beat more
abbrev later : Sending → Sending
later x = record { sequence = x.sequence; beats = x.beats + 1; payload = x.payload }

-- what is due is sent again, with its sequence
again_is : (t : Shape) (n : ℕ) (o : Option Sending) (sequence : ℕ) (payload : List ℕ) (w : World) → beat_of o ≡ due.SendAgain → IfSome (aged o) (λ x. sequence ≡ x.sequence) → payload ≡ sent_payload (aged o) →
    sends_again t n (beat_of o) o w ≡ to_extender t n (bridge_request sequence payload) w
again_is t n None sequence payload w e its bytes = absurd (nothing e)
  where
    nothing : due.Nothing ≡ due.SendAgain → ⊥
    nothing f = cc
again_is t n (Some x) sequence payload w e its bytes = ap (λ (d : Due). sends_again t n d (Some x) w) e ∙ by_test (x.beats + 1 == 12) e its bytes
  where
    gave_up : due.GaveUp ≡ due.SendAgain → ⊥
    gave_up f = cc

    by_test : (b : Bool) → (if b then due.GaveUp else (if is_due (x.beats + 1) then due.SendAgain else due.Nothing)) ≡ due.SendAgain →
        IfSome (if b then None else Some (later x)) (λ z. sequence ≡ z.sequence) → payload ≡ sent_payload (if b then None else Some (later x)) →
        to_extender t n (bridge_request x.sequence x.payload) w ≡ to_extender t n (bridge_request sequence payload) w
    by_test true f g h = absurd (gave_up f)
    by_test false f g h =
        ap (λ (k : ℕ). to_extender t n (bridge_request k x.payload) w) (sym g) ∙ ap (λ (p : List ℕ). to_extender t n (bridge_request sequence p) w) (sym h)

-- nothing is due
none_again : (t : Shape) (n : ℕ) (d : Due) (o : Option Sending) (w : World) → d ≢ due.SendAgain → sends_again t n d o w ≡ only w
none_again t n due.SendAgain o w other = absurd (other refl)
none_again t n due.Nothing o w other = refl
none_again t n due.GaveUp o w other = refl

pub again_on : (t : Shape) (n : ℕ) (s : Site) (c d : Whole) (ends : List Ecp) (sequence : ℕ) (payload frame : List ℕ) (old new : Log) → near_of ends ≡ at n (beaten (near_of c.near n)) (near_of c.near) →
    beat_of (near_of c.near n).sending ≡ due.SendAgain → IfSome (near_of ends n).sending (λ x. sequence ≡ x.sequence) → payload ≡ sent_payload (near_of ends n).sending → frame ≡ bridge_request sequence payload →
    Does (to_extender t n frame (world_in (record c { near = ends }))) s d old new → Does (beats_near t n (world_in c)) s d old new
again_on t n s c d ends sequence payload frame old new near is its bytes spelled moves =
    let w : World = with_near n (beaten (near_of c.near n)) (world_in c) in
    let end : near_of ends n ≡ beaten (near_of c.near n) = ap (λ (f : ℕ → Ecp). f n) near ∙ at_here n (beaten (near_of c.near n)) (near_of c.near) in
    let same : sends_again t n (beat_of (near_of c.near n).sending) (near_of c.near n).sending w ≡ to_extender t n (bridge_request sequence payload) w =
    again_is t n (near_of c.near n).sending sequence payload w is (subst (λ (e : Ecp). IfSome e.sending (λ x. sequence ≡ x.sequence)) end its) (bytes ∙ ap (λ (e : Ecp). sent_payload e.sending) end) in
    subst (λ (e : Effect). Does e s d old new) (sym same)
    (subst (λ (v : World). Does (to_extender t n (bridge_request sequence payload) v) s d old new) (near_in c n ends _ near)
    (subst (λ (f : List ℕ). Does (to_extender t n f (world_in (record c { near = ends }))) s d old new) spelled moves))

pub not_again_on : (t : Shape) (n : ℕ) (s : Site) (c : Whole) (ends : List Ecp) (log : Log) → near_of ends ≡ at n (beaten (near_of c.near n)) (near_of c.near) →
    beat_of (near_of c.near n).sending ≢ due.SendAgain → IsAt s c → Does (beats_near t n (world_in c)) s (record c { near = ends }) log log
not_again_on t n s c ends log near other here =
    let w : World = with_near n (beaten (near_of c.near n)) (world_in c) in
    subst (λ (e : Effect). Does e s (record c { near = ends }) log log) (sym (none_again t n (beat_of (near_of c.near n).sending) (near_of c.near n).sending w other))
    (tells_nothing (only w) s (record c { near = ends }) log (near_in c n ends _ near) refl refl refl refl (near_at s c here ends))

-- one that sends nothing stays
same_at : (n : ℕ) (f : ℕ → Ecp) → at n (f n) f ≡ f
same_at n f = fun_ext (λ m. by_place m)
  where
    by_place : (m : ℕ) → at n (f n) f m ≡ f m
    by_place m =
        elim (cases_eq m n) [
          | inl is ↦ rw (is, eq-eqb n n refl) refl
          | inr ne ↦ rw (ne_eqb m n ne) refl
        ]

pub idle_near : (t : Shape) (n : ℕ) (w : World) → (w.near n).sending ≡ None → beats_near t n w ≡ only w
idle_near t n w quiet =
    let same : beaten (w.near n) ≡ w.near n = ap (λ (o : Option Sending). record (w.near n) { sending = o }) (ap aged quiet ∙ sym quiet) in
    let stays : with_near n (beaten (w.near n)) w ≡ w = ap (λ (e : Ecp). with_near n e w) same ∙ ap (λ (f : ℕ → Ecp). record w { near = f }) (same_at n w.near) in
    ap (λ (o : Option Sending). sends_again t n (beat_of o) o (with_near n (beaten (w.near n)) w)) quiet ∙ ap only stays

-- ---- all ends
-- the control stays
again_control : (t : Shape) (n : ℕ) (d : Due) (o : Option Sending) (w : World) → (sends_again t n d o w).world.control ≡ w.control
again_control t n due.SendAgain (Some x) w = to_extender_control t n (bridge_request x.sequence x.payload) w
again_control t n due.SendAgain None w = refl
again_control t n due.Nothing o w = refl
again_control t n due.GaveUp o w = refl

pub all_near_control : (t : Shape) (ns : List ℕ) (w : World) → (each (if_there t (beats_near t)) ns w).world.control ≡ w.control
all_near_control t [] w = refl
all_near_control t (n ∷ ns) w = all_near_control t ns (if_there t (beats_near t) n w).world ∙ by_test (is_extender t n)
  where
    by_test : (b : Bool) → (if b then beats_near t n w else only w).world.control ≡ w.control
    by_test true = again_control t n (beat_of (w.near n).sending) (w.near n).sending (with_near n (beaten (w.near n)) w)
    by_test false = refl

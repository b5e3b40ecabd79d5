-- Each event of an arrival stands where the bridge deals so with its frame.
use Rattle.std.proofs.Common.{◌≡◌, ℕ, ◌<◌, ◌==◌, ◌&&◌, ◌++◌, cond, Bool, true, false, List, [], ◌∷◌, reverse, Option, Some, None, nat_lt, refl, sym, ◌∙◌, ap, subst, arith, inl, inr, eq-eqb}
use Rattle.std.specs.Prelude.{is_some}
use Rattle.std.proofs.lemmas.Grind.{reverse_onto}
use Rattle.std.proofs.lemmas.Bool.{cases_Bool, lt-ltb, false≢true}
use Rattle.exb_model.specs.declared.event.Event.{Event}
use Rattle.exb_model.specs.declared.event.Event.TheVariants as event
use Rattle.exb_model.specs.ETags.{stripped}
use Rattle.exb_model.specs.EagerHistory.{is_relayed, is_relayed_kind}
use Rattle.exb_model.specs.Frames.{kind_of}
use Rattle.exb_model.specs.LegalHistory.{of_port as events_of}
use Rattle.exb_model.specs.Lists.{numbered}
use Rattle.exb_model.specs.Tree.{Shape, device, trunk, is_extended}
use Rattle.exb_model.specs.Setup.{Limits}
use Rattle.exb_model.specs.Configuration.{Bridge}
use Rattle.exb_model.specs.History.{Basis, History, ◌then◌, bridge_after}
use Rattle.exb_control_spec.specs.Plans.HeldNumbers.{channel_in}
use Rattle.exb_control_spec.proofs.Plans.Trunks.{under_home}
use Rattle.exb_frame.specs.TagValues.{TagRoundTrip}
use Rattle.exb_relay.specs.Laws.{SendsAreWords, SendsLeaveAsFlat}
use Rattle.exb_control_spec.specs.Decisions.{decide}
use Rattle.exb_control_spec.specs.Runs.PlannedChanges.{IsSetting}
use Rattle.exb_control_spec.specs.Runs.Systems as systems
use Rattle.exb_control_spec.proofs.Runs.NumbersInForce.{ready_midway, held_are_numbers}
use Rattle.exb_control_spec.proofs.Runs.TablesMidChange.{laid_midway}
use Rattle.exb_flight.specs.Flight.{Flight, Step, Arrive, CarryUp, CarryIn, Relay, CarryDown, SendDown, SendUp, LoseDown, LoseUp, Move, Note, tables_of, bridge_of, held_of, arrive, stepped}
use Rattle.exb_flight.specs.AllowedSteps.{run, Runs}
use Rattle.exb_flight.specs.FlightFacts.{Facts, beginning}
use Rattle.exb_flight.specs.NamedArrivals.{told_by, told_at, Given, with_given, Deed, Comes, Ignores, Taken, Other, next_index, steps_of, given_after, IsOther, IsDeed, done_by, given_by, Does, IsWordOf, AreNamed, IsEntered, AreEntered, ToldIsOfPort, EnteredRightly}
use Rattle.exb_flight.proofs.ItemLists.{each_first}
use Rattle.exb_flight.proofs.ControlEvents.{IsOfChange, AreOfChanges, moved_are}
use Rattle.exb_flight.proofs.IndexLists.{numbered_last}
use Rattle.exb_flight.proofs.NamedArrivals.{given_here, number_more, deep_of, deed_named, first_are_named}
use Rattle.exb_flight.proofs.Runs.{begins_with, facts_run}

-- ---- the events of a port
pub of_append : (r : ℕ) (xs ys : List Event) → events_of r (xs ++ ys) ≡ events_of r xs ++ events_of r ys
of_append r [] ys = refl
of_append r (event.Relay p n t f ∷ xs) ys =
    elim (cases_Bool (p == r)) [
      | inl e ↦ rw e (ap (λ (z : List (ℕ × Bool)). (n, true) ∷ z) (of_append r xs ys))
      | inr e ↦ rw e (of_append r xs ys)
    ]
of_append r (event.Ignored p n ∷ xs) ys =
    elim (cases_Bool (p == r)) [
      | inl e ↦ rw e (ap (λ (z : List (ℕ × Bool)). (n, false) ∷ z) (of_append r xs ys))
      | inr e ↦ rw e (of_append r xs ys)
    ]
of_append r (event.Tick seconds ∷ xs) ys = of_append r xs ys
of_append r (event.Commit n ∷ xs) ys = of_append r xs ys
of_append r (event.Refuse n cause ∷ xs) ys = of_append r xs ys
of_append r (event.Up p ∷ xs) ys = of_append r xs ys
of_append r (event.NoUp p cause ∷ xs) ys = of_append r xs ys
of_append r (event.Settled ∷ xs) ys = of_append r xs ys

of_one : (r : ℕ) (e : Event) → events_of r (e ∷ []) ≡ told_by r e
of_one r (event.Relay p n t f) = refl
of_one r (event.Ignored p n) = refl
of_one r (event.Tick seconds) = refl
of_one r (event.Commit n) = refl
of_one r (event.Refuse n cause) = refl
of_one r (event.Up p) = refl
of_one r (event.NoUp p cause) = refl
of_one r event.Settled = refl

pub told_is_of_port : ToldIsOfPort
unfolding told_at
told_is_of_port r [] = refl
told_is_of_port r (e ∷ h) =
    ap (λ (z : List (ℕ × Bool)). z ++ told_by r e) (told_is_of_port r h)
    ∙ (ap (λ (z : List (ℕ × Bool)). events_of r (reverse h) ++ z) (sym (of_one r e))
    ∙ (sym (of_append r (reverse h) (e ∷ [])) ∙ ap (events_of r) (sym (reverse_onto h e []))))

-- ---- where events stand
entered_more : (s : Shape) (i : Basis) (g : Given) (p : ℕ) (a : ℕ × List ℕ) (h : History) (e : Event) → IsEntered s i g h e → IsEntered s i (with_given g p a) h e
entered_more s i g p a h (event.Relay q n t f) k = k
entered_more s i g p a h (event.Ignored q n) k = λ ext. (let x = k ext in (x.0, number_more g p a q n x.0 x.1, x.2))
entered_more s i g p a h (event.Tick seconds) k = tt
entered_more s i g p a h (event.Commit n) k = tt
entered_more s i g p a h (event.Refuse n cause) k = tt
entered_more s i g p a h (event.Up q) k = tt
entered_more s i g p a h (event.NoUp q cause) k = tt
entered_more s i g p a h event.Settled k = tt

all_more : (s : Shape) (i : Basis) (g : Given) (p : ℕ) (a : ℕ × List ℕ) (h : History) → AreEntered s i g h → AreEntered s i (with_given g p a) h
all_more s i g p a [] k = tt
all_more s i g p a (e ∷ h) k = (entered_more s i g p a h e k.0, all_more s i g p a h k.1)

entered_change : (s : Shape) (i : Basis) (g : Given) (h : History) (e : Event) → IsOfChange e → IsEntered s i g h e
entered_change s i g h (event.Relay p n t f) k = absurd k
entered_change s i g h (event.Ignored p n) k = absurd k
entered_change s i g h (event.Tick seconds) k = absurd k
entered_change s i g h (event.Commit n) k = tt
entered_change s i g h (event.Refuse n cause) k = tt
entered_change s i g h (event.Up p) k = tt
entered_change s i g h (event.NoUp p cause) k = tt
entered_change s i g h event.Settled k = absurd k

entered_changes : (s : Shape) (i : Basis) (g : Given) (es : List Event) (h : History) → AreOfChanges es → AreEntered s i g h → AreEntered s i g (h then es)
entered_changes s i g [] h k old = old
entered_changes s i g (e ∷ es) h k old = entered_changes s i g es (e ∷ h) k.1 (entered_change s i g h e k.0, old)

some_told : (p n : ℕ) (b : Bool) → cond {A = List (ℕ × Bool)} (p == p) ((n, b) ∷ []) [] ≡ [] → ⊥
some_told p n b e = (let z : ◌≡◌ {A = List (ℕ × Bool)} ((n, b) ∷ []) [] = rw (eq-eqb p p refl) at e in cc)

entered_quiet : (s : Shape) (i : Basis) (g : Given) (h : History) (e : Event) → ((r : ℕ) → is_extended s r ≡ true → told_by r e ≡ []) → IsEntered s i g h e
entered_quiet s i g h (event.Relay p n t f) k = λ ext. absurd (some_told p n true (k p ext))
entered_quiet s i g h (event.Ignored p n) k = λ ext. absurd (some_told p n false (k p ext))
entered_quiet s i g h (event.Tick seconds) k = tt
entered_quiet s i g h (event.Commit n) k = tt
entered_quiet s i g h (event.Refuse n cause) k = tt
entered_quiet s i g h (event.Up p) k = tt
entered_quiet s i g h (event.NoUp p cause) k = tt
entered_quiet s i g h event.Settled k = tt

module _ (s : Shape) (l : Limits) (i : Basis) (setting : IsSetting s l) (w : Flight) (h : Facts s i w) where
  -- a port without a channel isn't present
  pub not_present : (p : ℕ) → is_extended s p ≡ true → nat_lt 0 ((tables_of w).own p) ≡ false → (bridge_of w).present p ≡ false
  not_present p ext none =
      elim (cases_Bool ((bridge_of w).present p)) [
        | inr e ↦ e
        | inl e ↦
            let under = under_home s p ext in
            let c = some_of (channel_in (held_of w) (trunk s (device p)) p) ((ready_midway s w.system setting.tree h.stands).channels (trunk s (device p)) p under e) in
            let own : (tables_of w).own p ≡ c.0 = (laid_midway s w.system setting.tree h.stands).own (trunk s (device p)) p c.0 under e c.1 in
            let some : 0 < c.0 = (held_are_numbers (held_of w)).some (trunk s (device p)) p c.0 c.1 in
            absurd (false≢true (sym none ∙ lt-ltb 0 ((tables_of w).own p) (subst (λ (n : ℕ). 0 < n) (sym own) some)))
      ]
    where
      some_of : (o : Option ℕ) → is_some o ≡ true → (n : ℕ) × (o ≡ Some n)
      some_of None e = absurd (false≢true e)
      some_of (Some n) e = (n, refl)

  not_relayed : (p : ℕ) (f : List ℕ) → (bridge_of w).present p ≡ false → is_relayed (bridge_after i w.history) p f ≡ false
  not_relayed p f e = ap (λ (b : Bridge). is_relayed b p f) h.force ∙ ap (λ (b : Bool). b && is_relayed_kind (kind_of f)) e

module _ (s : Shape) (l : Limits) (i : Basis) (setting : IsSetting s l) (w : Flight) (h : Facts s i w) (g : Given) (named : AreNamed s w g) (k : AreEntered s i g w.history) where
  other_entered : (x : Step) → IsOther s x → AreEntered s i g (stepped s l i w x).history
  other_entered (Arrive p b) other = absurd other
  other_entered (CarryUp n f) other = k
  other_entered (CarryIn n f) other = absurd other
  other_entered (Relay p f) other = ((λ ext. let d = (deep_of s p.port ext).deep in absurd (omega (arith, other, d))), k)
  other_entered (CarryDown n f) other = k
  other_entered (SendDown n j) other = k
  other_entered (SendUp n j) other = k
  other_entered (LoseDown n at) other = k
  other_entered (LoseUp n at) other = k
  other_entered (Move step) other = entered_changes s i g (systems.moved (decide s l) w.system step).events w.history (moved_are (decide s l) w.system step) k
  other_entered (Note e) other = (entered_quiet s i g w.history e other, k)

  deed_entered : (d : Deed) → IsDeed s d → Runs s l i w (steps_of w g d) → AreEntered s i (given_after g d) (run s l i w (steps_of w g d)).history
  deed_entered (Comes p t f bytes) is runs =
      elim (cases_Bool (nat_lt 0 ((tables_of w).own p))) [
        | inl e ↦ rw e (subst (λ (z : History). AreEntered s i (with_given g p (t, f)) z) (sym (arrives e)) (all_more s i g p (t, f) w.history k))
        | inr e ↦ rw e (
          (λ ext. ((t, f), ap (λ (xs : List (ℕ × List ℕ)). numbered xs (next_index g p)) (given_here g p (t, f)) ∙ numbered_last (g p) (t, f), not_relayed s l i setting w h p f (not_present s l i setting w h p is.0 e))),
          all_more s i g p (t, f) w.history k,
        )
      ]
    where
      arrives : nat_lt 0 ((tables_of w).own p) ≡ true → (arrive w (record { port = p; index = next_index g p; moment = t }) bytes).history ≡ w.history
      arrives e = rw e refl
  deed_entered (Ignores p t f) is runs = (
    (λ ext. ((t, f), ap (λ (xs : List (ℕ × List ℕ)). numbered xs (next_index g p)) (given_here g p (t, f)) ∙ numbered_last (g p) (t, f), ap (λ (b : Bool). (bridge_after i w.history).present p && b) is.1 ∙ and_none ((bridge_after i w.history).present p))),
    all_more s i g p (t, f) w.history k,
  )
    where
      and_none : (b : Bool) → (b && false) ≡ false
      and_none true = refl
      and_none false = refl
  deed_entered (Taken n f) is runs =
      let c = runs.0 in
      let of : IsWordOf g f = each_first (IsWordOf g) (w.up n) f c.0.rest c.0.first (named.words n c.0.link) in
      elim (cases_Bool (is_relayed (bridge_of w) f.port (stripped f.bytes))) [
        | inl e ↦ rw e ((λ ext. ap (λ (b : Bridge). is_relayed b f.port (stripped f.bytes)) h.force ∙ e), k)
        | inr e ↦ rw e ((λ ext. ((f.moment, stripped f.bytes), of, ap (λ (b : Bridge). is_relayed b f.port (stripped f.bytes)) h.force ∙ e)), k)
      ]
  deed_entered (Other x) is runs = other_entered x is

module _ (round : TagRoundTrip) (words : SendsAreWords) (leave : SendsLeaveAsFlat) (s : Shape) (l : Limits) (i : Basis) (setting : IsSetting s l) where
  deeds_entered : (ds : List Deed) (w : Flight) (g : Given) → Facts s i w → AreNamed s w g → AreEntered s i g w.history → Does s l i w g ds → AreEntered s i (given_by g ds) (done_by s l i w g ds).history
  deeds_entered [] w g h named k does = k
  deeds_entered (d ∷ ds) w g h named k does =
      deeds_entered ds (run s l i w (steps_of w g d)) (given_after g d) (facts_run round words leave s l i setting (steps_of w g d) w h does.1)
      (deed_named s l i setting w h g named d does.0 does.1) (deed_entered s l i setting w h g named k d does.0 does.1) does.2

pub entered_rightly : TagRoundTrip → SendsAreWords → SendsLeaveAsFlat → EnteredRightly
entered_rightly round words leave s l i ds setting may does =
    deeds_entered round words leave s l i setting ds (beginning s l i.start) (λ r. []) (begins_with s l i setting may) (first_are_named s l i) tt does

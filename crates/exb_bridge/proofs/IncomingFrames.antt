-- A frame comes to the bridge: what its control makes of it, as an effect.
use Rattle.std.proofs.Common.{◌≡◌, ℕ, ◌-◌, ◌<◌, ◌++◌, if◌then◌else◌, Bool, true, false, List, [], ◌∷◌, Option, Some, None, refl, sym, ap, subst, ◌∙◌}
use Rattle.std.specs.List.{All}
use Rattle.std.specs.Prelude.{Result, Ok, Err, OnOk}
use Rattle.std.proofs.lemmas.Bool.{true≢false, false≢true}
use Rattle.std.proofs.lemmas.List.{append-nil}
use Rattle.std.proofs.lemmas.List.Elements.{All-nil}
use Rattle.exb_model.specs.declared.event.Event.TheVariants as event
use Rattle.exb_model.specs.declared.event.Event.{Event}
use Rattle.exb_model.specs.declared.frame_kind.Seen.{Seen}
use Rattle.exb_model.specs.declared.frame_kind.Seen.TheVariants as seen
use Rattle.exb_model.specs.Configuration.{Bridge}
use Rattle.exb_model.specs.EagerHistory.{is_relayed, arrival_event}
use Rattle.exb_model.specs.ETags.{tagged}
use Rattle.exb_model.specs.Frames.{egress, kind_of, priority_of, IsBytes}
use Rattle.exb_model.specs.declared.arrival.Arrival.{Arrival}
use Rattle.exb_model.specs.Learning.{passes, passes_as}
use Rattle.exb_model.specs.Tree.{Shape, IsTree}
use Rattle.exb_frame.specs.declared.egress.VlanTag.{VlanTag}
use Rattle.exb_frame.specs.declared.etag.ETag.{ETag}
use Rattle.exb_frame.specs.Egress.{can_leave, priority}
use Rattle.exb_frame.specs.TagValues.{tag_of}
use Rattle.exb_learn.specs.Entries.{Entries, table_of, look_of}
use Rattle.exb_relay.specs.declared.send.Ingress.{Ingress}
use Rattle.exb_relay.specs.declared.send.Ingress.TheVariants as ingress
use Rattle.exb_relay.specs.declared.send.SendTo.{SendTo}
use Rattle.exb_model.specs.Numbers.{IsNumbering}
use Rattle.exb_relay.specs.Sends.{ingress_by, ingress_of, pcp_of, dei_of}
use Rattle.exb_relay.specs.Spaces.{numbers_of}
use Rattle.exb_relay.proofs.TaggedFrames.{pcp_small}
use Rattle.exb_control.specs.ActiveConfigs.{bridge_in}
use Rattle.exb_link.specs.declared.link_frame.LinkFrame.{LinkFrame}
use Rattle.exb_world_spec.specs.BridgeLearning.{taught, taught_by}
use Rattle.exb_world_spec.specs.Worlds.{World, with_table}
use Rattle.exb_world_spec.specs.Effects.{Effect, only, joined, each}
use Rattle.exb_world_spec.specs.ExtenderSteps.{hung_on, stamp_of}
use Rattle.exb_world_spec.specs.DataFrames.{comes, passed_by, puts_word, sent_by, sends_all, sends_for, sends_in}
use Rattle.exb_outbox.specs.declared.log.Log.{Log}
use Rattle.exb_bridge.specs.BridgeWorlds.{Whole}
use Rattle.exb_bridge.specs.Sends.{CanSend, HasPassed, HasTold, ingress_for, is_passed, learns, sends_by, sent_for}
use Rattle.exb_bridge.specs.TreeIndexes.{Site}
use Rattle.exb_bridge.specs.BridgeWorlds.{world_in, all_left, IsAt, Does, KeepsTrace}
use Rattle.exb_bridge.proofs.BridgeSends.{can_all, sends_as}
use Rattle.exb_bridge.proofs.ControlSteps.{learned_world, learned_at}

-- ---- what has passed
abbrev pcp_in : Ingress → ℕ
pcp_in ingress.Dropped = 0
pcp_in (ingress.Passed v pcp dei) = pcp

abbrev vid_in : Ingress → ℕ
vid_in ingress.Dropped = 0
vid_in (ingress.Passed v pcp dei) = v

abbrev dei_in : Ingress → Bool
dei_in ingress.Dropped = false
dei_in (ingress.Passed v pcp dei) = dei

abbrev is_dropped : Ingress → Bool
is_dropped ingress.Dropped = true
is_dropped (ingress.Passed v pcp dei) = false

is_not : (v pcp : ℕ) (dei : Bool) {A : Type 0} → ingress.Dropped ≡ ingress.Passed v pcp dei → A
is_not v pcp dei is = absurd (true≢false (ap is_dropped is))

module _ (b : Bridge) (p v pcp : ℕ) (dei : Bool) where
  leaves_by : (s : Seen) → ingress_by s (passes_as b p s) ≡ ingress.Passed v pcp dei → can_leave s ≡ true
  leaves_by seen.Short is = is_not v pcp dei is
  leaves_by seen.Long is = is_not v pcp dei is
  leaves_by seen.Reserved is = is_not v pcp dei is
  leaves_by seen.BadTag is = is_not v pcp dei is
  leaves_by seen.Plain is = refl
  leaves_by (seen.Priority x y) is = refl
  leaves_by (seen.Tagged x y w) is = refl

  vid_by : (s : Seen) (o : Option ℕ) → ingress_by s o ≡ ingress.Passed v pcp dei → o ≡ Some v
  vid_by s None is = is_not v pcp dei is
  vid_by s (Some w) is = ap (λ i. Some (vid_in i)) is

  pcp_by : (s : Seen) (o : Option ℕ) → ingress_by s o ≡ ingress.Passed v pcp dei → pcp ≡ pcp_of s
  pcp_by s None is = is_not v pcp dei is
  pcp_by s (Some w) is = sym (ap pcp_in is)

  dei_by : (s : Seen) (o : Option ℕ) → ingress_by s o ≡ ingress.Passed v pcp dei → dei ≡ dei_of s
  dei_by s None is = is_not v pcp dei is
  dei_by s (Some w) is = sym (ap dei_in is)

own_of : (s : Seen) → priority (pcp_of s) (dei_of s) ≡ priority_of s
own_of seen.Short = refl
own_of seen.Long = refl
own_of seen.Reserved = refl
own_of seen.BadTag = refl
own_of seen.Plain = refl
own_of (seen.Priority x y) = refl
own_of (seen.Tagged x y w) = refl

relayed_of : (e : Bool) (i : Ingress) (v pcp : ℕ) (dei : Bool) → (if e then i else ingress.Dropped) ≡ ingress.Passed v pcp dei → i ≡ ingress.Passed v pcp dei
relayed_of true i v pcp dei is = is
relayed_of false i v pcp dei is = is_not v pcp dei is

-- a frame that passed may leave, with its own priority
pub has_passed : (b : Bridge) (a : Arrival) (x : VlanTag) → IsBytes a.bytes → ingress_for b a.port a.bytes ≡ ingress.Passed x.vid x.pcp x.dei → HasPassed a.bytes x
has_passed b a x bytes is = record { kind = leaves; pcp = subst (λ n. n < 8) (sym pcp) (pcp_small a.bytes bytes); own = own }
  where
    ours : ingress_of b a.port a.bytes ≡ ingress.Passed x.vid x.pcp x.dei
    ours = relayed_of (is_relayed b a.port a.bytes) (ingress_of b a.port a.bytes) x.vid x.pcp x.dei is

    leaves : can_leave (kind_of a.bytes) ≡ true
    leaves = leaves_by b a.port x.vid x.pcp x.dei (kind_of a.bytes) ours

    pcp : x.pcp ≡ pcp_of (kind_of a.bytes)
    pcp = pcp_by b a.port x.vid x.pcp x.dei (kind_of a.bytes) (passes b a.port a.bytes) ours

    own : priority x.pcp x.dei ≡ priority_of (kind_of a.bytes)
    own = ap (λ n. priority n x.dei) pcp ∙ ap (priority (pcp_of (kind_of a.bytes))) (dei_by b a.port x.vid x.pcp x.dei (kind_of a.bytes) (passes b a.port a.bytes) ours) ∙ own_of (kind_of a.bytes)

-- ---- what is told of it
event_told : (e : Bool) (a : Arrival) → e ≡ true → (if e then event.Relay a.port a.index a.moment a.bytes else event.Ignored a.port a.index) ≡ event.Relay a.port a.index a.moment a.bytes
event_told e a is = rw is refl

event_ignored : (e : Bool) (a : Arrival) → e ≡ false → (if e then event.Relay a.port a.index a.moment a.bytes else event.Ignored a.port a.index) ≡ event.Ignored a.port a.index
event_ignored e a is = rw is refl

passed_told : (e : Bool) (s : Seen) (o : Option ℕ) → e ≡ true → is_passed (if e then ingress_by s o else ingress.Dropped) ∷ [] ≡ passed_by e o
passed_told true s None is = refl
passed_told true s (Some v) is = refl
passed_told false s o is = absurd (false≢true is)

-- of a frame that was relayed, with its bytes
pub told_relayed : (b : Bridge) (a : Arrival) (passed : Bool) (old new : Log) → is_relayed b a.port a.bytes ≡ true → passed ≡ is_passed (ingress_for b a.port a.bytes) →
    new.events ≡ old.events ++ event.Relay a.port a.index a.moment a.bytes ∷ [] → new.passed ≡ old.passed ++ passed ∷ [] → new.left ≡ old.left → KeepsTrace old new → HasTold b a old new
told_relayed b a passed old new relayed is events told left trace =
    record {
      events = events ∙ ap (λ (e : Event). old.events ++ e ∷ []) (sym (event_told (is_relayed b a.port a.bytes) a relayed));
      passed =
          told ∙ ap (λ (bs : List Bool). old.passed ++ bs) (ap (λ (x : Bool). x ∷ []) is ∙ passed_told (is_relayed b a.port a.bytes) (kind_of a.bytes) (passes b a.port a.bytes) relayed);
      left = left;
      trace = trace;
    }

-- of one that was ignored
pub told_ignored : (b : Bridge) (a : Arrival) (old new : Log) → is_relayed b a.port a.bytes ≡ false → new.events ≡ old.events ++ event.Ignored a.port a.index ∷ [] → new.passed ≡ old.passed →
    new.left ≡ old.left → KeepsTrace old new → HasTold b a old new
told_ignored b a old new relayed events told left trace =
    record {
      events = events ∙ ap (λ (e : Event). old.events ++ e ∷ []) (sym (event_ignored (is_relayed b a.port a.bytes) a relayed));
      passed = told ∙ sym (ap (λ (e : Bool). old.passed ++ passed_by e (passes b a.port a.bytes)) relayed ∙ append-nil old.passed);
      left = left;
      trace = trace;
    }

-- ---- nothing is told of what is sent
record IsSilent (e : Effect) : Type 0 where
  pub events : e.events ≡ []
  pub passed : e.passed ≡ []

module _ (t : Shape) (a : Arrival) where
  puts_silent : (k : ℕ) (o : Option ℕ) (x : LinkFrame) (w : World) → IsSilent (puts_word k o x w)
  puts_silent k None x w = record { events = refl; passed = refl }
  puts_silent k (Some m) x w = record { events = refl; passed = refl }

  sent_silent : (bytes : List ℕ) (k : ℕ) (o : Option ETag) (w : World) → IsSilent (sent_by t a bytes k o w)
  sent_silent bytes k None w = record { events = refl; passed = refl }
  sent_silent bytes k (Some tag) w = puts_silent k (hung_on t (k - 1)) (record { bytes = tagged bytes (tag_of tag); stamp = Some (stamp_of a) }) w

  each_silent : (v : ℕ) (xs : List SendTo) (w : World) → IsSilent (each (sends_in t a v) xs w)
  each_silent v [] w = record { events = refl; passed = refl }
  each_silent v (x ∷ xs) w =
      both (sends_in t a v x w) (each (sends_in t a v) xs (sends_in t a v x w).world) (sent_silent (egress a.bytes x.kind v) x.bridge_port x.tag w) (each_silent v xs (sends_in t a v x w).world)
    where
      both : (e f : Effect) → IsSilent e → IsSilent f → IsSilent (joined e f)
      both e f first second =
          record {
            events = ap (λ (es : List Event). es ++ f.events) first.events ∙ second.events;
            passed = ap (λ (bs : List Bool). bs ++ f.passed) first.passed ∙ second.passed;
          }

  all_silent : (xs : List SendTo) (o : Option ℕ) (w : World) → IsSilent (sends_all t a xs o w)
  all_silent xs None w = record { events = refl; passed = refl }
  all_silent xs (Some v) w = each_silent v xs w

-- a frame that was learned from, and for which all is sent, has come once it is told
pub comes_told : (s : Site) (a : Arrival) (w : World) (c : Whole) (old mid new : Log) → Does (sent_for s.tree a w) s c old mid → HasTold w.control.bridge a mid new → Does (comes s.tree a w) s c old new
comes_told s a w c old mid new sent told =
    record {
      world = sent.world;
      events = told.events ∙ ap (λ (es : List Event). es ++ arrival_event w.control.bridge a ∷ []) (sent.events ∙ ap (λ es. old.events ++ es) silent.events ∙ append-nil old.events)
          ∙ ap (λ (es : List Event). old.events ++ arrival_event w.control.bridge a ∷ es) (sym silent.events);
      passed = told.passed ∙ ap (λ (bs : List Bool). bs ++ passed_by e o) (sent.passed ∙ ap (λ bs. old.passed ++ bs) silent.passed ∙ append-nil old.passed)
          ∙ ap (λ (bs : List Bool). old.passed ++ bs) (sym (append-nil (passed_by e o)) ∙ ap (λ (bs : List Bool). passed_by e o ++ bs) (sym silent.passed));
      left = ap all_left told.left ∙ sent.left;
      outs = told.trace.outs ∙ sent.outs;
      lines = told.trace.lines ∙ sent.lines;
      tracing = told.trace.tracing ∙ sent.tracing;
      at = sent.at;
    }
  where
    e : Bool
    e = is_relayed w.control.bridge a.port a.bytes

    o : Option ℕ
    o = passes w.control.bridge a.port a.bytes

    silent : IsSilent (sends_all s.tree a (sends_for s.tree w a) o (with_table (taught w.control.bridge a w.table) w))
    silent = all_silent s.tree a (sends_for s.tree w a) o (with_table (taught w.control.bridge a w.table) w)

-- ---- what is learned and sent
-- it is learned from, and nothing is told yet
pub came_learns : (s : Site) (c : Whole) (l : Entries) (a : Arrival) → table_of l ≡ taught_by (bridge_in c.control.active) a.port a.bytes (table_of c.learned) → (log : Log) → IsAt s c →
    Does (learns a (world_in c)) s (record c { learned = l }) log log
came_learns s c l a taught log at =
    record {
      world = learned_world c l _ taught;
      events = sym (append-nil log.events);
      passed = sym (append-nil log.passed);
      left = sym (append-nil (all_left log.left));
      outs = sym (append-nil log.outs.items);
      lines = refl;
      tracing = refl;
      at = learned_at c l s at;
    }

module _ (s : Site) (c : Whole) (a : Arrival) (sends : List SendTo) (at : IsAt s c) (came : sends ≡ sends_by c.control.active c.learned a.port a.bytes) where
  pub came_sends : IsTree c.control.active.shape → sends ≡ sends_for s.tree (world_in c) a
  came_sends tree =
      came
      ∙ ap (λ (xs : List SendTo). if is_relayed (bridge_in c.control.active) a.port a.bytes then xs else [])
      (sym (sends_as c.control.active.shape tree c.control.active.spaces (bridge_in c.control.active) (look_of c.learned) a.port a.bytes))
      ∙ ap (λ (t : Shape). sends_for t (world_in c) a) at.shape

  pub came_can : IsNumbering (numbers_of c.control.active.spaces) → IsBytes a.bytes → All CanSend sends
  came_can numb bytes =
      subst (All CanSend) (sym came)
      (by_relayed (is_relayed (bridge_in c.control.active) a.port a.bytes) _
      (can_all c.control.active.shape (bridge_in c.control.active) (look_of c.learned) (numbers_of c.control.active.spaces) numb a.port a.bytes bytes))
    where
      by_relayed : (e : Bool) (xs : List SendTo) → All CanSend xs → All CanSend (if e then xs else [])
      by_relayed true xs all = all
      by_relayed false xs all = All-nil CanSend

-- nothing is sent for a frame that was dropped, and else what is sent for it in its VLAN
none_sent : (t : Shape) (a : Arrival) (w : World) (e : Bool) (xs : List SendTo) (s : Seen) (o : Option ℕ) →
    ingress.Dropped ≡ (if e then ingress_by s o else ingress.Dropped) → sends_all t a (if e then xs else []) o w ≡ only w
none_sent t a w true xs s None is = refl
none_sent t a w true xs s (Some v) is = is_not v (pcp_of s) (dei_of s) is
none_sent t a w false xs s None is = refl
none_sent t a w false xs s (Some v) is = refl

some_sent : (t : Shape) (a : Arrival) (w : World) (e : Bool) (xs : List SendTo) (s : Seen) (o : Option ℕ) (v pcp : ℕ) (dei : Bool) →
    (if e then ingress_by s o else ingress.Dropped) ≡ ingress.Passed v pcp dei → sends_all t a (if e then xs else []) o w ≡ each (sends_in t a v) (if e then xs else []) w
some_sent t a w true xs s None v pcp dei is = is_not v pcp dei is
some_sent t a w true xs s (Some u) v pcp dei is = ap (λ (i : Ingress). each (sends_in t a (vid_in i)) xs w) is
some_sent t a w false xs s o v pcp dei is = is_not v pcp dei is

pub sends_none : (t : Shape) (a : Arrival) (w v : World) → ingress_for w.control.bridge a.port a.bytes ≡ ingress.Dropped →
    sends_all t a (sends_for t w a) (passes w.control.bridge a.port a.bytes) v ≡ only v
sends_none t a w v is = none_sent t a v (is_relayed w.control.bridge a.port a.bytes) _ (kind_of a.bytes) (passes w.control.bridge a.port a.bytes) (sym is)

pub sends_some : (t : Shape) (a : Arrival) (w v : World) (vid pcp : ℕ) (dei : Bool) → ingress_for w.control.bridge a.port a.bytes ≡ ingress.Passed vid pcp dei →
    sends_all t a (sends_for t w a) (passes w.control.bridge a.port a.bytes) v ≡ each (sends_in t a vid) (sends_for t w a) v
sends_some t a w v vid pcp dei is = some_sent t a v (is_relayed w.control.bridge a.port a.bytes) _ (kind_of a.bytes) (passes w.control.bridge a.port a.bytes) vid pcp dei is

-- ---- results
pub on_ok_any : {T E P : Type 0} (r : Result T E) → P → OnOk r P
on_ok_any (Ok x) p = p
on_ok_any (Err e) p = tt

pub on_ok_two : {T E P Q R : Type 0} (r : Result T E) → (P → Q → R) → OnOk r P → OnOk r Q → OnOk r R
on_ok_two (Ok x) f p q = f p q
on_ok_two (Err e) f p q = tt

-- A word comes up to the bridge, and the control stays: each session that matters is as if it had been taken already.
use Rattle.std.proofs.Common.{◌≡◌, ℕ, ◌-◌, ◌≤◌, ◌&&◌, Bool, true, false, cond, List, [], ◌∷◌, take, drop, length, length-take, length-drop, length-append, Option, Some, None, refl, ap, sym, ◌∙◌, subst, arith}
use Rattle.std.specs.Prelude.{⊤}
use Rattle.std.proofs.lemmas.Bool.{and_parts, false≢true}
use Rattle.exb_model.specs.Tree.{Shape, IsTree, is_external}
use Rattle.exb_model.specs.Setup.{Limits}
use Rattle.exb_model.specs.declared.arrival.Arrival.{Arrival}
use Rattle.exb_model.specs.Frames.{egress, kind_of, is_control_frame, IsBytes}
use Rattle.exb_model.specs.EagerHistory.{is_relayed, is_relayed_kind}
use Rattle.exb_model.specs.Learning.{passes}
use Rattle.exb_model.specs.ETags.{Tag, tagged, stripped}
use Rattle.exb_model.specs.declared.vlan.Kind.{Kind}
use Rattle.exb_frame.specs.declared.etag.ETag.{ETag}
use Rattle.exb_frame.specs.TagValues.{TagRoundTrip, tag_of}
use Rattle.exb_link.specs.declared.link_frame.Stamp.{Stamp}
use Rattle.exb_link.specs.declared.link_frame.LinkFrame.{LinkFrame}
use Rattle.exb_link.specs.LinkFrames.{is_control}
use Rattle.exb_learn.specs.Calls.{look_in}
use Rattle.exb_relay.specs.declared.send.SendTo.{SendTo}
use Rattle.exb_relay.specs.Sends.{sends_of}
use Rattle.exb_control_spec.specs.Plans.HeldNumbers.{Held, numbers_in}
use Rattle.exb_world_spec.specs.Worlds.{World, with_table}
use Rattle.exb_world_spec.specs.Effects.{only, each}
use Rattle.exb_world_spec.specs.BridgeLearning.{taught}
use Rattle.exb_world_spec.specs.ExtenderSteps.{hung_on}
use Rattle.exb_world_spec.specs.DataFrames.{puts_word, sent_by, sends_in, sends_all, sends_for, comes, arrival_by, comes_from}
use Rattle.exb_world_spec.specs.Runs.Sessions.{Each}
use Rattle.exb_world_spec.proofs.Frames.{tagged_to_control, stripped_to_control, egress_to_control, egress_long, relayed_long}
use Rattle.exb_settling_laws.specs.Streams.{addressee, is_the}
use Rattle.exb_settling_laws.proofs.LinkGrowth.{Grows, none_grows, same_links, grows_then, down_grows, each_grows}
use Rattle.exb_settling_laws.proofs.Upward.{NotOf}

-- ---- destinations
shorter_stripped : (f : List ℕ) → length (stripped f) ≤ length f
shorter_stripped f = omega (arith, length-take 12 f, length-drop 20 f, length-append (take 12 f) (drop 20 f))

-- what is sent of a data word is no control word
sent_data : (f : List ℕ) (kind : Kind) (vid : ℕ) (tag : Tag) → IsBytes f → is_control_frame f ≡ false → 14 ≤ length (stripped f) → is_control_frame (tagged (egress (stripped f) kind vid) tag) ≡ false
sent_data f kind vid tag bytes isnt long = by_test (is_control_frame (tagged (egress (stripped f) kind vid) tag)) refl
  where
    by_test : (b : Bool) → is_control_frame (tagged (egress (stripped f) kind vid) tag) ≡ b → b ≡ false
    by_test false e = refl
    by_test true e =
        let short = shorter_stripped f in
        let egress_is : 12 ≤ length (egress (stripped f) kind vid) = egress_long (stripped f) kind vid (omega arith) in
        let to : is_control_frame f ≡ true =
        sym (stripped_to_control f) ∙ sym (egress_to_control (stripped f) kind vid (omega arith)) ∙ sym (tagged_to_control (egress (stripped f) kind vid) tag egress_is) ∙ e in
        absurd (false≢true (sym isnt ∙ to))

-- ---- what the bridge sends of a data word
module _ (t : Shape) (l : Limits) (tree : IsTree t) (round : TagRoundTrip) (h : Held) (j : ℕ) where
  abbrev N : ℕ → LinkFrame → Type 0
  N m y = NotOf t tree round h j m y

  abbrev Down1 : World → World → Type 0
  Down1 w v = Grows t l (NotOf t tree round h j) (λ m y. ⊥) w v

  data_not : (m : ℕ) (y : LinkFrame) → is_control y ≡ false → NotOf t tree round h j m y
  data_not m y e = ap (λ (b : Bool). b && is_the j (addressee t h m y.bytes)) e

  puts_word_not : (port : ℕ) (o : Option ℕ) (x : LinkFrame) (w : World) → is_control x ≡ false → Down1 w (puts_word port o x w).world
  puts_word_not port None x w e = none_grows t l (NotOf t tree round h j) (λ m y. ⊥) w
  puts_word_not port (Some m) x w e = down_grows t l (NotOf t tree round h j) (λ m y. ⊥) m x w (data_not m x e)

  sent_by_not : (a : Arrival) (bytes : List ℕ) (port : ℕ) (o : Option ETag) (w : World) → ((tag : Tag) → is_control_frame (tagged bytes tag) ≡ false) → Down1 w (sent_by t a bytes port o w).world
  sent_by_not a bytes port None w isnt = none_grows t l (NotOf t tree round h j) (λ m y. ⊥) w
  sent_by_not a bytes port (Some tag) w isnt = puts_word_not port (hung_on t (port - 1)) (record { bytes = tagged bytes (tag_of tag); stamp = Some (Rattle.exb_world_spec.specs.ExtenderSteps.stamp_of a) }) w (isnt (tag_of tag))

  every : {A : Type 0} (xs : List A) → Each (λ (x : A). ⊤) xs
  every [] = tt
  every (x ∷ xs) = (tt, every xs)

  sends_all_not : (a : Arrival) (xs : List SendTo) (o : Option ℕ) (w : World) → ((kind : Kind) (vid : ℕ) (tag : Tag) → is_control_frame (tagged (egress a.bytes kind vid) tag) ≡ false) → Down1 w (sends_all t a xs o w).world
  sends_all_not a xs None w isnt = none_grows t l (NotOf t tree round h j) (λ m y. ⊥) w
  sends_all_not a xs (Some vid) w isnt =
      each_grows t l (NotOf t tree round h j) (λ m y. ⊥) (λ (x : SendTo). ⊤) (sends_in t a vid) xs w (λ x v z. sent_by_not a (egress a.bytes x.kind vid) x.bridge_port x.tag v (isnt x.kind vid)) (every xs)

  comes_not : (a : Arrival) (w : World) (f : List ℕ) → a.bytes ≡ stripped f → IsBytes f → is_control_frame f ≡ false → Down1 w (comes t a w).world
  comes_not a w f same bytes isnt =
      grows_then t l (NotOf t tree round h j) (λ m y. ⊥) w (with_table (taught w.control.bridge a w.table) w) (comes t a w).world (same_links t l (NotOf t tree round h j) (λ m y. ⊥) w (with_table (taught w.control.bridge a w.table) w) refl refl) (by_relayed (is_relayed w.control.bridge a.port a.bytes) refl)
    where
      u : World
      u = with_table (taught w.control.bridge a w.table) w

      nothing_sent : (o : Option ℕ) → Down1 u (sends_all t a [] o u).world
      nothing_sent None = none_grows t l (NotOf t tree round h j) (λ m y. ⊥) u
      nothing_sent (Some vid) = none_grows t l (NotOf t tree round h j) (λ m y. ⊥) u

      by_relayed : (b : Bool) → is_relayed w.control.bridge a.port a.bytes ≡ b →
          Down1 u (sends_all t a (cond b (sends_of t w.control.bridge (look_in w.table) (numbers_in w.control.held) a.port a.bytes) []) (passes w.control.bridge a.port a.bytes) u).world
      by_relayed false e = nothing_sent (passes w.control.bridge a.port a.bytes)
      by_relayed true e =
          let long : 14 ≤ length a.bytes = relayed_long a.bytes (and_parts (w.control.bridge.present a.port) (is_relayed_kind (kind_of a.bytes)) e).1 in
          let long_too : 14 ≤ length (stripped f) = (let P : List ℕ → Type 0 = λ z. 14 ≤ length z in subst P same long) in
          sends_all_not a (sends_of t w.control.bridge (look_in w.table) (numbers_in w.control.held) a.port a.bytes) (passes w.control.bridge a.port a.bytes) u
          (λ kind vid tag. ap (λ (z : List ℕ). is_control_frame (tagged (egress z kind vid) tag)) same ∙ sent_data f kind vid tag bytes isnt long_too)

  pub comes_from_not : (o : Option ℕ) (s : Option Stamp) (f : List ℕ) (w : World) → IsBytes f → is_control_frame f ≡ false → Down1 w (comes_from t o s (stripped f) w).world
  comes_from_not (Some p) (Some s) f w bytes isnt = by_external (is_external t p)
    where
      by_external : (b : Bool) → Down1 w (cond b (comes t (arrival_by p s (stripped f)) w) (only w)).world
      by_external true = comes_not (arrival_by p s (stripped f)) w f refl bytes isnt
      by_external false = none_grows t l (NotOf t tree round h j) (λ m y. ⊥) w
  comes_from_not (Some p) None f w bytes isnt = none_grows t l (NotOf t tree round h j) (λ m y. ⊥) w
  comes_from_not None s f w bytes isnt = none_grows t l (NotOf t tree round h j) (λ m y. ⊥) w

-- ---- the far ends stay
module _ (t : Shape) where
  puts_word_far : (port : ℕ) (o : Option ℕ) (x : LinkFrame) (w : World) → (puts_word port o x w).world.far ≡ w.far
  puts_word_far port None x w = refl
  puts_word_far port (Some m) x w = refl

  sent_by_far : (a : Arrival) (bytes : List ℕ) (port : ℕ) (o : Option ETag) (w : World) → (sent_by t a bytes port o w).world.far ≡ w.far
  sent_by_far a bytes port None w = refl
  sent_by_far a bytes port (Some tag) w = puts_word_far port (hung_on t (port - 1)) (record { bytes = tagged bytes (tag_of tag); stamp = Some (Rattle.exb_world_spec.specs.ExtenderSteps.stamp_of a) }) w

  each_sent_far : (a : Arrival) (vid : ℕ) (xs : List SendTo) (w : World) → (each (sends_in t a vid) xs w).world.far ≡ w.far
  each_sent_far a vid [] w = refl
  each_sent_far a vid (x ∷ xs) w = each_sent_far a vid xs (sends_in t a vid x w).world ∙ sent_by_far a (egress a.bytes x.kind vid) x.bridge_port x.tag w

  sends_all_far : (a : Arrival) (xs : List SendTo) (o : Option ℕ) (w : World) → (sends_all t a xs o w).world.far ≡ w.far
  sends_all_far a xs None w = refl
  sends_all_far a xs (Some vid) w = each_sent_far a vid xs w

  pub comes_far : (a : Arrival) (w : World) → (comes t a w).world.far ≡ w.far
  comes_far a w = sends_all_far a (sends_for t w a) (passes w.control.bridge a.port a.bytes) (with_table (taught w.control.bridge a w.table) w)

  pub comes_from_far : (o : Option ℕ) (s : Option Stamp) (f : List ℕ) (w : World) → (comes_from t o s f w).world.far ≡ w.far
  comes_from_far (Some p) (Some s) f w = by_external (is_external t p)
    where
      by_external : (b : Bool) → (cond b (comes t (arrival_by p s f) w) (only w)).world.far ≡ w.far
      by_external true = comes_far (arrival_by p s f) w
      by_external false = refl
  comes_from_far (Some p) None f w = refl
  comes_from_far None s f w = refl

-- What is done to a world only adds words at the ends of links; and which words are added on which links.
use Rattle.std.proofs.Common.{◌≡◌, inl, inr, ℕ, ◌-◌, ◌==◌, nat_lt, Bool, true, false, cond, List, [], ◌∷◌, ◌++◌, append_assoc, append-nil, drop, Option, Some, None, Ok, Err, refl, ap, sym, ◌∙◌, subst}
use Rattle.std.specs.Prelude.{Result, ⊤}
use Rattle.std.proofs.lemmas.Bool.{cases_Bool, cases_eq, eq-eqb, ne_eqb}
use Rattle.exb_model.specs.Tree.{Shape, HangsOn, on, device, trunk, is_external, port_number}
use Rattle.exb_model.specs.Setup.{Limits}
use Rattle.exb_model.specs.declared.arrival.Arrival.{Arrival}
use Rattle.exb_model.specs.ETags.{read_etag, stripped}
use Rattle.exb_model.specs.Learning.{passes}
use Rattle.exb_frame.specs.declared.etag.ETag.{ETag}
use Rattle.exb_lldp.specs.declared.announce.Announce.{Announce}
use Rattle.exb_lldp.specs.declared.announce.LldpFault.{LldpFault}
use Rattle.exb_lldp.specs.Announcements.{announced as announcement_in}
use Rattle.exb_ecp.specs.declared.pdu.Pdu.{Pdu}
use Rattle.exb_ecp.specs.declared.pdu.EcpFault.{EcpFault}
use Rattle.exb_ecp.specs.Frames.{pdu_in}
use Rattle.exb_ecp.specs.StopAndWait.{is_fresh, acknowledged}
use Rattle.exb_ecp.specs.StopAndWait.{heard as received}
use Rattle.exb_csp.specs.declared.fault.CspFault.{CspFault}
use Rattle.exb_csp.specs.declared.message.Message.{Message}
use Rattle.exb_csp.specs.Decoding.{read_message}
use Rattle.exb_csp.specs.declared.session.asker.Taken.{Taken}
use Rattle.exb_csp.specs.declared.session.asker.Taken.TheVariants as taken
use Rattle.exb_csp.specs.Sessions.AskingEnd.{took}
use Rattle.exb_extender.specs.declared.sends.Side.{Side}
use Rattle.exb_extender.specs.declared.sends.Side.TheVariants as side
use Rattle.exb_csp.specs.AllTables.{port_of}
use Rattle.exb_extender.specs.Forwarding.{Sent, has_etag_type}
use Rattle.exb_extender.specs.Machine.{Input, Arrives, Reaction, react}
use Rattle.exb_link.specs.declared.link_frame.Stamp.{Stamp}
use Rattle.exb_link.specs.declared.link_frame.LinkFrame.{LinkFrame}
use Rattle.exb_link.specs.LinkFrames.{is_control}
use Rattle.exb_relay.specs.declared.send.SendTo.{SendTo}
use Rattle.exb_control_spec.specs.declared.extender_message.Asked.{Asked}
use Rattle.exb_control_spec.specs.Decisions.{decide}
use Rattle.exb_control_spec.specs.Machine.{Moved, answered}
use Rattle.exb_world_spec.specs.Worlds.{World, Way, Up, Down, with_far, with_near, push_down, push_up}
use Rattle.exb_model.specs.Tables.{at}
use Rattle.exb_world_spec.specs.Steps.{takes, words_on}
use Rattle.exb_world_spec.specs.Effects.{Effect, only, then_do, each}
use Rattle.exb_world_spec.specs.BridgeLearning.{announced, channel_at_trunk}
use Rattle.exb_world_spec.specs.ExtenderSteps.{hung_on, sent_at, sent_to, sends, does, reacts, takes_from_below}
use Rattle.exb_world_spec.specs.ControlFrames.{puts_tagged, to_extender, asks, moves, stops, hears_message, hears_fresh, hears_request, hears_pdu, hears_frame, hears, bridge_acknowledgement}
use Rattle.exb_world_spec.specs.DataFrames.{puts_word, sent_by, sends_in, sends_all, sends_for, comes, arrival_by, comes_from, holder_by, hung_at, hears_from, takes_control, bridge_takes}
use Rattle.exb_world_spec.specs.Runs.Sessions.{Each}
use Rattle.exb_world_spec.proofs.Trunks.{hung_is}
use Rattle.exb_world_spec.proofs.LinkFrames.{each_append}

-- words are added to a list, and each of them is such
pub record Longer (P : LinkFrame → Type 0) (xs ys : List LinkFrame) : Type 0 where
  pub more : List LinkFrame
  pub is : ys ≡ xs ++ more
  pub each_is : Each P more

pub same_list : (P : LinkFrame → Type 0) (xs : List LinkFrame) → Longer P xs xs
same_list P xs = record { more = []; is = sym (append-nil xs); each_is = tt }

pub longer_then : (P : LinkFrame → Type 0) (xs ys zs : List LinkFrame) → Longer P xs ys → Longer P ys zs → Longer P xs zs
longer_then P xs ys zs a b =
    record { more = a.more ++ b.more; is = b.is ∙ ap (λ (v : List LinkFrame). v ++ b.more) a.is ∙ append_assoc xs a.more b.more; each_is = each_append P a.more b.more a.each_is b.each_is }

-- nothing is added where nothing may be
pub never_longer : (xs ys : List LinkFrame) → Longer (λ x. ⊥) xs ys → ys ≡ xs
never_longer xs ys a = by_more a.more a.is a.each_is
  where
    by_more : (more : List LinkFrame) → ys ≡ xs ++ more → Each (λ (x : LinkFrame). ⊥) more → ys ≡ xs
    by_more [] e n = e ∙ append-nil xs
    by_more (x ∷ more) e n = absurd n.0

-- D says what may be added on the way down to an extender, U on the way up from it
module _ (t : Shape) (l : Limits) (D U : ℕ → LinkFrame → Type 0) where
  pub record Grows (w v : World) : Type 0 where
    pub downs : (m : ℕ) → Longer (D m) (w.down m) (v.down m)
    pub ups : (m : ℕ) → Longer (U m) (w.up m) (v.up m)

  pub same_links : (w v : World) → v.down ≡ w.down → v.up ≡ w.up → Grows w v
  same_links w v d u =
      record {
        downs = (λ m. let A : (ℕ → List LinkFrame) → Type 0 = λ f. Longer (D m) (w.down m) (f m) in subst A (sym d) (same_list (D m) (w.down m)));
        ups = (λ m. let A : (ℕ → List LinkFrame) → Type 0 = λ f. Longer (U m) (w.up m) (f m) in subst A (sym u) (same_list (U m) (w.up m)));
      }

  pub none_grows : (w : World) → Grows w w
  none_grows w = same_links w w refl refl

  pub grows_then : (a b c : World) → Grows a b → Grows b c → Grows a c
  grows_then a b c x y = record { downs = (λ m. longer_then (D m) _ _ _ (x.downs m) (y.downs m)); ups = (λ m. longer_then (U m) _ _ _ (x.ups m) (y.ups m)) }

  pushed : (P : ℕ → LinkFrame → Type 0) (n : ℕ) (x : LinkFrame) (f : ℕ → List LinkFrame) → P n x → (m : ℕ) → Longer (P m) (f m) (at n (f n ++ x ∷ []) f m)
  pushed P n x f p m =
      elim (cases_eq m n) [
        | inl e ↦ let A : ℕ → Type 0 = λ k. Longer (P k) (f k) (at n (f n ++ x ∷ []) f k) in
            subst A (sym e) (rw (eq-eqb n n refl) (record { more = x ∷ []; is = refl; each_is = (p, tt) }))
        | inr e ↦ rw (ne_eqb m n e) (same_list (P m) (f m))
      ]

  pub down_grows : (n : ℕ) (x : LinkFrame) (w : World) → D n x → Grows w (push_down n x w)
  down_grows n x w d = record { downs = pushed D n x w.down d; ups = (λ m. same_list (U m) (w.up m)) }

  pub up_grows : (n : ℕ) (x : LinkFrame) (w : World) → U n x → Grows w (push_up n x w)
  up_grows n x w u = record { downs = (λ m. same_list (D m) (w.down m)); ups = pushed U n x w.up u }

  pub then_grows : (w : World) (e : Effect) (f : World → Effect) → Grows w e.world → Grows e.world (f e.world).world → Grows w (then_do e f).world
  then_grows w e f a b = grows_then w e.world (f e.world).world a b

  pub each_grows : {A : Type 0} (R : A → Type 0) (f : A → World → Effect) (xs : List A) (w : World) → ((x : A) (v : World) → R x → Grows v (f x v).world) → Each R xs → Grows w (each f xs w).world
  each_grows R f [] w g all = none_grows w
  each_grows R f (x ∷ xs) w g all = grows_then w (f x w).world (each f xs (f x w).world).world (g x w all.0) (each_grows R f xs (f x w).world g all.1)

  -- ---- extenders
  pub record MaySend (n : ℕ) (stamp : Option Stamp) (x : Sent) : Type 0 where
    pub rises : x.side ≡ side.Up → U n (record { bytes = x.bytes; stamp = stamp })
    pub sinks : (k m : ℕ) → x.side ≡ side.Port k → HangsOn t m (port_of n k) → D m (record { bytes = x.bytes; stamp = stamp })

  sent_at_grows : (n k : ℕ) (o : Option ℕ) (stamp : Option Stamp) (bytes : List ℕ) (w : World) → ((m : ℕ) → o ≡ Some m → D m (record { bytes = bytes; stamp = stamp })) → Grows w (sent_at n k o stamp bytes w).world
  sent_at_grows n k None stamp bytes w d = none_grows w
  sent_at_grows n k (Some m) stamp bytes w d = down_grows m (record { bytes = bytes; stamp = stamp }) w (d m refl)

  sent_to_grows : (n : ℕ) (stamp : Option Stamp) (s : Side) (bytes : List ℕ) (w : World) → MaySend n stamp (record { side = s; bytes = bytes }) → Grows w (sent_to t n stamp s bytes w).world
  sent_to_grows n stamp side.Up bytes w h = up_grows n (record { bytes = bytes; stamp = stamp }) w (h.rises refl)
  sent_to_grows n stamp (side.Port k) bytes w h = sent_at_grows n k (hung_on t (port_of n k)) stamp bytes w (λ m e. h.sinks k m refl (hung_is t (port_of n k) m e))

  pub does_grows : (n : ℕ) (stamp : Option Stamp) (r : Reaction) (w : World) → Each (MaySend n stamp) r.1 → Grows w (does t n stamp r w).world
  does_grows n stamp r w all =
      grows_then w (with_far n r.0 w) (does t n stamp r w).world (same_links w (with_far n r.0 w) refl refl)
      (each_grows (MaySend n stamp) (sends t n stamp) r.1 (with_far n r.0 w) (λ x v h. sent_to_grows n stamp x.side x.bytes v h) all)

  -- ---- the bridge, where any word may go down
  module _ (any : (m : ℕ) (x : LinkFrame) → D m x) where
    every : {A : Type 0} (xs : List A) → Each (λ (x : A). ⊤) xs
    every [] = tt
    every (x ∷ xs) = (tt, every xs)

    puts_tagged_grows : (k : ℕ) (o c : Option ℕ) (f : List ℕ) (w : World) → Grows w (puts_tagged k o c f w).world
    puts_tagged_grows k (Some m) (Some channel) f w = down_grows m _ w (any m _)
    puts_tagged_grows k (Some m) None f w = none_grows w
    puts_tagged_grows k None c f w = none_grows w

    pub to_extender_grows : (n : ℕ) (f : List ℕ) (w : World) → Grows w (to_extender t n f w).world
    to_extender_grows n f w =
        elim (cases_Bool (nat_lt (on t n) 64)) [
          | inl e ↦ rw e (down_grows n _ w (any n _))
          | inr e ↦ rw e (puts_tagged_grows (trunk t n) (hung_on t (trunk t n)) (channel_at_trunk t w.control.held (on t n)) f w)
        ]

    asks_grows : (a : Asked) (w : World) → Grows w (asks t a w).world
    asks_grows a w = grows_then w _ (asks t a w).world (same_links w _ refl refl) (to_extender_grows a.extender _ _)

    pub moves_grows : (m : Moved) (w : World) → Grows w (moves t m w).world
    moves_grows m w = grows_then w _ (moves t m w).world (same_links w _ refl refl) (each_grows (λ (a : Asked). ⊤) (asks t) m.asks _ (λ a v h. asks_grows a v) (every m.asks))

    stops_grows : (o : Taken) (n : ℕ) (w : World) → Grows w (stops o n w)
    stops_grows (taken.Answer response) n w = same_links w _ refl refl
    stops_grows taken.Stale n w = none_grows w
    stops_grows taken.NotOurs n w = none_grows w

    hears_message_grows : (n : ℕ) (r : Result Message CspFault) (w : World) → Grows w (hears_message t l n r w).world
    hears_message_grows n (Err fault) w = none_grows w
    hears_message_grows n (Ok m) w = grows_then w (stops (took (w.control.askers n) m).1 n w) _ (stops_grows (took (w.control.askers n) m).1 n w) (moves_grows (answered (decide t l) n m w.control) (stops (took (w.control.askers n) m).1 n w))

    hears_fresh_grows : (n : ℕ) (b : Bool) (sequence : ℕ) (payload : List ℕ) (w : World) → Grows w (hears_fresh t l n b sequence payload w).world
    hears_fresh_grows n true sequence payload w =
        grows_then w (with_near n (received sequence (w.near n)) w) _ (same_links w _ refl refl) (hears_message_grows n (read_message payload) (with_near n (received sequence (w.near n)) w))
    hears_fresh_grows n false sequence payload w = none_grows w

    hears_request_grows : (n sequence : ℕ) (payload : List ℕ) (w : World) → Grows w (hears_request t l n sequence payload w).world
    hears_request_grows n sequence payload w =
        grows_then w (to_extender t n (bridge_acknowledgement sequence) w).world _ (to_extender_grows n (bridge_acknowledgement sequence) w)
        (hears_fresh_grows n (is_fresh sequence ((to_extender t n (bridge_acknowledgement sequence) w).world.near n)) sequence payload (to_extender t n (bridge_acknowledgement sequence) w).world)

    hears_pdu_grows : (n : ℕ) (r : Result Pdu EcpFault) (f : List ℕ) (w : World) → Grows w (hears_pdu t l n r f w).world
    hears_pdu_grows n (Err fault) f w = none_grows w
    hears_pdu_grows n (Ok pdu) f w =
        elim (cases_Bool (pdu.subtype == 2)) [
          | inr e ↦ rw e (none_grows w)
          | inl e ↦ elim (cases_Bool pdu.acknowledgement) [
            | inl a ↦ rw (e, a) (same_links w (with_near n (acknowledged pdu.sequence (w.near n)) w) refl refl)
            | inr a ↦ rw (e, a) (hears_request_grows n pdu.sequence (drop 18 f) w)
          ]
        ]

    hears_frame_grows : (n : ℕ) (r : Result Announce LldpFault) (f : List ℕ) (w : World) → Grows w (hears_frame t l n r f w).world
    hears_frame_grows n (Ok a) f w = moves_grows (announced (decide t l) t n a w.control) w
    hears_frame_grows n (Err fault) f w = hears_pdu_grows n (pdu_in f) f w

    pub hears_grows : (n : ℕ) (f : List ℕ) (w : World) → Grows w (hears t l n f w).world
    unfolding hears
    hears_grows n f w = hears_frame_grows n (announcement_in f) f w

    puts_word_grows : (port : ℕ) (o : Option ℕ) (x : LinkFrame) (w : World) → Grows w (puts_word port o x w).world
    puts_word_grows port None x w = none_grows w
    puts_word_grows port (Some m) x w = down_grows m x w (any m x)

    sent_by_grows : (a : Arrival) (bytes : List ℕ) (port : ℕ) (o : Option ETag) (w : World) → Grows w (sent_by t a bytes port o w).world
    sent_by_grows a bytes port None w = none_grows w
    sent_by_grows a bytes port (Some tag) w = puts_word_grows port (hung_on t (port - 1)) _ w

    sends_all_grows : (a : Arrival) (xs : List SendTo) (o : Option ℕ) (w : World) → Grows w (sends_all t a xs o w).world
    sends_all_grows a xs None w = none_grows w
    sends_all_grows a xs (Some vid) w = each_grows (λ (x : SendTo). ⊤) (sends_in t a vid) xs w (λ x v h. sent_by_grows a _ x.bridge_port x.tag v) (every xs)

    pub comes_grows : (a : Arrival) (w : World) → Grows w (comes t a w).world
    comes_grows a w = grows_then w _ (comes t a w).world (same_links w _ refl refl) (sends_all_grows a (sends_for t w a) (passes w.control.bridge a.port a.bytes) _)

    comes_from_grows : (o : Option ℕ) (s : Option Stamp) (bytes : List ℕ) (w : World) → Grows w (comes_from t o s bytes w).world
    comes_from_grows (Some p) (Some s) bytes w = elim (cases_Bool (is_external t p)) [ inl e ↦ rw e (comes_grows (arrival_by p s bytes) w) | inr e ↦ rw e (none_grows w) ]
    comes_from_grows (Some p) None bytes w = none_grows w
    comes_from_grows None s bytes w = none_grows w

    hears_from_grows : (o : Option ℕ) (f : List ℕ) (w : World) → Grows w (hears_from t l o f w).world
    hears_from_grows None f w = none_grows w
    hears_from_grows (Some n) f w = hears_grows n f w

    pub either : (b : Bool) (e f : Effect) (w : World) → Grows w e.world → Grows w f.world → Grows w (cond b e f).world
    either true e f w x y = x
    either false e f w x y = y

    pub bridge_takes_grows : (k m : ℕ) (x : LinkFrame) (w : World) → Grows w (bridge_takes t l k m x w).world
    bridge_takes_grows k m x w =
        either (is_control x) (takes_control t l k m x.bytes w) (comes_from t (holder_by w k (read_etag x.bytes)) x.stamp (stripped x.bytes) w) w
        (either (has_etag_type x.bytes) (hears_from t l (hung_at t (holder_by w k (read_etag x.bytes))) (stripped x.bytes) w) (hears t l m x.bytes w) w
        (hears_from_grows (hung_at t (holder_by w k (read_etag x.bytes))) (stripped x.bytes) w) (hears_grows m x.bytes w))
        (comes_from_grows (holder_by w k (read_etag x.bytes)) x.stamp (stripped x.bytes) w)

-- ---- any word
abbrev pub Any : ℕ → LinkFrame → Type 0
Any m x = ⊤

module _ (t : Shape) (l : Limits) where
  any_sent : (n : ℕ) (stamp : Option Stamp) (xs : List Sent) → Each (MaySend t l Any Any n stamp) xs
  any_sent n stamp [] = tt
  any_sent n stamp (x ∷ xs) = (record { rises = λ e. tt; sinks = λ k m e h. tt }, any_sent n stamp xs)

  pub reacts_grows : (n : ℕ) (stamp : Option Stamp) (i : Input) (w : World) → Grows t l Any Any w (reacts t n stamp i w).world
  reacts_grows n stamp i w = does_grows t l Any Any n stamp (react i (w.far n)) w (any_sent n stamp (react i (w.far n)).1)

  below_grows : (a k : ℕ) (x : LinkFrame) (w : World) → Grows t l Any Any w (takes_from_below t a k x w).world
  below_grows a k x w = either t l Any Any (λ m y. tt) ((w.far a).tables.cascade k) (reacts t a x.stamp (Arrives (side.Port k) x.bytes) w) (only w) w (reacts_grows a x.stamp (Arrives (side.Port k) x.bytes) w) (none_grows t l Any Any w)

  pub takes_grows : (n : ℕ) (way : Way) (x : LinkFrame) (w : World) → Grows t l Any Any w (takes t l n way x w).world
  takes_grows n Up x w =
      either t l Any Any (λ m y. tt) (nat_lt (on t n) 64) (bridge_takes t l (on t n) n x w) (takes_from_below t (device (on t n)) (port_number (on t n)) x w) w
      (bridge_takes_grows t l Any Any (λ m y. tt) (on t n) n x w) (below_grows (device (on t n)) (port_number (on t n)) x w)
  takes_grows n Down x w = reacts_grows n x.stamp (Arrives side.Up x.bytes) w

  pub way_grows : (n : ℕ) (way : Way) (w v : World) → Grows t l Any Any w v → Longer (Any n) (words_on n way w) (words_on n way v)
  way_grows n Up w v g = g.ups n
  way_grows n Down w v g = g.downs n

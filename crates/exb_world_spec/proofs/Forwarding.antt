-- What an extender forwards of a control frame is again one on its way; and what comes of data is none.
use Rattle.std.proofs.Common.{◌≡◌, ◌≢◌, ◌⊎◌, ℕ, ◌%◌, ◌<◌, ◌≤◌, ◌==◌, ◌&&◌, ◌||◌, Bool, true, false, not, cond, nat_lt, List, [], ◌∷◌, length, map, Option, Some, None, refl, ap, sym, ◌∙◌, subst, arith, inl, inr}
use Rattle.std.proofs.lemmas.Bool.{cases_Bool, cases_lt, and_parts, eq-eqb, ne_eqb, ltb-true, lt-ltb, false≢true}
use Rattle.exb_model.specs.Frames.{kind_of, is_control_frame, IsBytes}
use Rattle.exb_model.specs.Tree.{Shape, HangsOn, IsTree, device, on, is_extender, trunk, port_number}
use Rattle.exb_model.specs.ETags.{Tag, read_etag, tagged, stripped}
use Rattle.exb_model.specs.ExtenderForwarding.{emits, emits_tagged, takes, left_out, bare}
use Rattle.exb_frame.specs.TagValues.{TagRoundTrip}
use Rattle.exb_csp.specs.declared.message.Body.{Body}
use Rattle.exb_csp.specs.Execution.{ExtenderTables}
use Rattle.exb_extender.specs.declared.sends.Side.TheVariants as side
use Rattle.exb_csp.specs.AllTables.{port_of}
use Rattle.exb_extender.specs.Forwarding.{Sent, forwarding_of, sent_at, is_bare_control, names_channel, is_ignored, is_refused_kind, emitted, channel_tag}
use Rattle.exb_extender.specs.Machine.{ExtenderState, IsExtender}
use Rattle.exb_control_spec.specs.Plans.HeldNumbers.{Held}
use Rattle.exb_world_spec.specs.Runs.Sessions.{Hands, Each, IsTagged, IsFrameOn, IsOnWay, FitsOn, Routes, IsNextHop}
use Rattle.exb_world_spec.proofs.Frames.{bare_is, read_typed, typed_not_bare, tag_fits, tagged_to_control, stripped_to_control, control_refused}
use Rattle.exb_world_spec.proofs.Trunks.{trunk_above, above_there, hangs_there, extender_there, port_there}
use Rattle.exb_world_spec.proofs.LinkFrames.{each_range, each_weaker}
use Rattle.exb_world_spec.proofs.Links.{SendFits}

both_ways : (b : Bool) → b ≡ true → b ≡ false → ⊥
both_ways b x y = cc

same_tag : (o : Option Tag) (x y : Tag) → o ≡ Some x → o ≡ Some y → x ≡ y
same_tag o x y e f = cc

up_port : {k : ℕ} → side.Up ≡ side.Port k → ⊥
up_port e = cc

port_up : {k : ℕ} → side.Port k ≡ side.Up → ⊥
port_up e = cc

same_port : (k q : ℕ) → side.Port q ≡ side.Port k → q ≡ k
same_port k q e = cc

or_right : (a b : Bool) → b ≡ true → (a || b) ≡ true
or_right true b e = refl
or_right false b e = e

-- a frame leaves a port without its E-TAG where that names the port, and else from no cascade port
pub bare_there : (x : ExtenderTables) (q : ℕ) (tag : Tag) → x.own q ≡ tag.ecid → bare (forwarding_of x) q tag ≡ true
bare_there x q tag e = or_right (not (x.cascade q)) (x.own q == tag.ecid) (eq-eqb _ _ e)

pub plain_there : (x : ExtenderTables) (q : ℕ) (tag : Tag) → x.cascade q ≡ true → x.own q ≢ tag.ecid → bare (forwarding_of x) q tag ≡ false
plain_there x q tag e ne = rw (e, ne_eqb (x.own q) tag.ecid ne) refl

module _ (t : Shape) (tree : IsTree t) (h : Held) (round : TagRoundTrip) (P Q : ℕ → ℕ → Body → Type 0) (far : ℕ → ExtenderState) (routes : Routes t h far) where
  -- what is read of a frame with the channel of an extender's port
  pub read_way : (m : ℕ) (f : List ℕ) (n : ℕ) (c : List ℕ) → is_bare_control c ≡ true → (k : IsTagged t h m f n c) → (read_etag f ≡ Some (channel_tag k.channel)) × (stripped f ≡ c)
  read_way m f n c bare k =
      let b = bare_is c bare in
      let r = round c (channel_tag k.channel) (omega (arith, b.long)) (tag_fits k.channel k.small) in
      (ap read_etag k.frame ∙ r.0, ap stripped k.frame ∙ r.1)

  pub tagged_bare : (m : ℕ) (f : List ℕ) (n : ℕ) (c : List ℕ) → is_bare_control c ≡ true → IsTagged t h m f n c → is_bare_control f ≡ true → ⊥
  tagged_bare m f n c bare k is = both_ways (is_bare_control f) is (typed_not_bare f (read_typed f (channel_tag k.channel) (read_way m f n c bare k).0))

  -- ---- from upstream
  module _ (m : ℕ) (there : is_extender t m ≡ true) (is : IsExtender (far m)) (f : List ℕ) (fits : FitsOn t h P m f) (forwarded : is_bare_control f ≡ false) where
    -- its frame is one with a channel
    with_channel : is_control_frame f ≡ true → (k : IsOnWay t h m f (λ n c. Hands c (P n))) × IsTagged t h m f k.of k.frame
    with_channel control = by_way (fits control) (fits control).way
      where
        by_way : (k : IsOnWay t h m f (λ n c. Hands c (P n))) → IsFrameOn t h m f k.of k.frame → (j : IsOnWay t h m f (λ n c. Hands c (P n))) × IsTagged t h m f j.of j.frame
        by_way k (inl e) = absurd (both_ways (is_bare_control f) (ap is_bare_control e.1 ∙ k.bare) forwarded)
        by_way k (inr w) = (k, w)

    low : 1 ≤ m
    low = let p = and_parts (nat_lt 0 m) (nat_lt 0 _) there in ltb-true 0 m p.0

    same_trunk_at : (q : ℕ) → 0 < q → q ≤ (far m).tables.ports → (c : ℕ) → HangsOn t c (port_of m q) → trunk t m ≡ trunk t c
    same_trunk_at q first few c hangs =
        let few64 : q ≤ 64 = omega (arith, few, is.ports.1) in
        let is_on : on t c ≡ port_of m q = hangs.at in
        let deep : 64 ≤ on t c = omega (arith, low) in
        let dev : device (on t c) ≡ m = omega (arith, low) in
        subst (λ (x : ℕ). trunk t x ≡ trunk t c) dev (trunk_above t tree c (extender_there t c (port_of m q) hangs) deep)

    module _ (q : ℕ) (first : 0 < q) (few : q ≤ (far m).tables.ports) (tag : Tag) (reads : read_etag f ≡ Some tag) (own : 0 < (far m).tables.own q) (pair : (far m).tables.pair tag.ecid q ≡ true) where
      -- the word that goes on at port q
      goes_on : (c : ℕ) → HangsOn t c (port_of m q) → bare (forwarding_of (far m).tables) q tag ≡ false → FitsOn t h P c f
      goes_on c hangs plain control = by_hop next.hop
        where
          k : IsOnWay t h m f (λ n c. Hands c (P n))
          k = (with_channel control).0

          w : IsTagged t h m f k.of k.frame
          w = (with_channel control).1

          same : tag ≡ channel_tag w.channel
          same = same_tag (read_etag f) tag (channel_tag w.channel) reads (read_way m f k.of k.frame k.bare w).0

          next : IsNextHop t (far m) m q w.channel k.of
          next = routes.down m q w.channel k.of there k.there w.deep w.holds w.some w.small first (omega (arith, few, is.ports.1)) own (subst (λ (x : Tag). (far m).tables.pair x.ecid q ≡ true) same pair)

          number : tag.ecid ≡ w.channel
          number = ap (λ (x : Tag). x.ecid) same

          by_hop : ((port_of m q ≡ on t k.of) × ((far m).tables.own q ≡ w.channel)) ⊎ (((far m).tables.cascade q ≡ true) × ((far m).tables.own q ≢ w.channel) × ((c : ℕ) × HangsOn t c (port_of m q))) →
              IsOnWay t h c f (λ n c. Hands c (P n))
          by_hop (inl here) = absurd (both_ways (bare (forwarding_of (far m).tables) q tag) (bare_there (far m).tables q tag (here.1 ∙ sym number)) plain)
          by_hop (inr on_way) =
              record {
                of = k.of;
                frame = k.frame;
                there = k.there;
                bare = k.bare;
                way = inr (record {
                  channel = w.channel;
                  some = w.some;
                  small = w.small;
                  frame = w.frame;
                  deep = w.deep;
                  home = sym (same_trunk_at q first few c hangs) ∙ w.home;
                  holds = subst (λ (x : ℕ). h.port x w.channel ≡ Some (on t k.of)) (same_trunk_at q first few c hangs) w.holds;
                });
                fits = k.fits;
              }

      -- the frame that comes out of it there
      comes_out : (c : ℕ) → HangsOn t c (port_of m q) → bare (forwarding_of (far m).tables) q tag ≡ true → FitsOn t h P c (stripped f)
      comes_out c hangs plain stripped_control = by_hop next.hop
        where
          control : is_control_frame f ≡ true
          control = sym (stripped_to_control f) ∙ stripped_control

          k : IsOnWay t h m f (λ n c. Hands c (P n))
          k = (with_channel control).0

          w : IsTagged t h m f k.of k.frame
          w = (with_channel control).1

          same : tag ≡ channel_tag w.channel
          same = same_tag (read_etag f) tag (channel_tag w.channel) reads (read_way m f k.of k.frame k.bare w).0

          number : tag.ecid ≡ w.channel
          number = ap (λ (x : Tag). x.ecid) same

          next : IsNextHop t (far m) m q w.channel k.of
          next = routes.down m q w.channel k.of there k.there w.deep w.holds w.some w.small first (omega (arith, few, is.ports.1)) own (subst (λ (x : Tag). (far m).tables.pair x.ecid q ≡ true) same pair)

          by_hop : ((port_of m q ≡ on t k.of) × ((far m).tables.own q ≡ w.channel)) ⊎ (((far m).tables.cascade q ≡ true) × ((far m).tables.own q ≢ w.channel) × ((c : ℕ) × HangsOn t c (port_of m q))) →
              IsOnWay t h c (stripped f) (λ n c. Hands c (P n))
          by_hop (inl here) =
              let top = hangs_there t k.of k.there in
              let its : HangsOn t k.of (port_of m q) = record { extender = top.extender; there = top.there; at = sym here.0 } in
              record {
                of = k.of;
                frame = k.frame;
                there = k.there;
                bare = k.bare;
                way = inl (tree.alone c k.of (port_of m q) hangs its, (read_way m f k.of k.frame k.bare w).1);
                fits = k.fits;
              }
          by_hop (inr on_way) = absurd (both_ways (bare (forwarding_of (far m).tables) q tag) plain (plain_there (far m).tables q tag on_way.0 (λ e. on_way.1 (e ∙ number))))

      -- what is sent at port q
      sent_there : Each (SendFits t h P Q m) (map (λ bytes. record { side = side.Port q; bytes = bytes }) (cond (left_out (forwarding_of (far m).tables) q tag) [] (cond (bare (forwarding_of (far m).tables) q tag) (stripped f ∷ []) (f ∷ []))))
      sent_there =
          elim (cases_Bool (left_out (forwarding_of (far m).tables) q tag)) [
            | inl out ↦ rw out tt
            | inr in_there ↦ elim (cases_Bool (bare (forwarding_of (far m).tables) q tag)) [
              | inl strips ↦ rw (in_there, strips) (record { rises = λ e. absurd (port_up e); sinks = λ k c e hangs. comes_out c (subst (λ (x : ℕ). HangsOn t c (port_of m x)) (sym (same_port k q e)) hangs) strips }, tt)
              | inr plain ↦ rw (in_there, plain) (record { rises = λ e. absurd (port_up e); sinks = λ k c e hangs. goes_on c (subst (λ (x : ℕ). HangsOn t c (port_of m x)) (sym (same_port k q e)) hangs) plain }, tt)
            ]
          ]

    sent_tagged : (q : ℕ) → 0 < q → q ≤ (far m).tables.ports → (o : Option Tag) → read_etag f ≡ o → Each (SendFits t h P Q m) (map (λ bytes. record { side = side.Port q; bytes = bytes }) (emits_tagged (forwarding_of (far m).tables) q f o))
    sent_tagged q first few None reads = tt
    sent_tagged q first few (Some tag) reads =
        elim (cases_Bool (takes (forwarding_of (far m).tables) q tag)) [
          | inr idle ↦ rw idle tt
          | inl takes_it ↦
              let p = and_parts (nat_lt 0 ((far m).tables.own q)) ((far m).tables.pair tag.ecid q) takes_it in
              rw takes_it (sent_there q first few tag reads (ltb-true 0 ((far m).tables.own q) p.0) p.1)
        ]

    pub sent_from_above : Each (SendFits t h P Q m) (emitted (far m).tables side.Up f)
    unfolding emitted emits
    sent_from_above = each_range (SendFits t h P Q m) (sent_at (far m).tables f) 1 (far m).tables.ports (λ q low high. sent_tagged q (omega arith) (omega arith) (read_etag f) refl)

  -- ---- from a cascade port
  module _ (m : ℕ) (there : is_extender t m ≡ true) (deep : 64 ≤ on t m) (f : List ℕ) (fits : FitsOn t h Q m f) where
    trunk_same : trunk t (device (on t m)) ≡ trunk t m
    trunk_same = trunk_above t tree m there deep

    its : HangsOn t m (port_of (device (on t m)) (port_number (on t m)))
    its = let k = hangs_there t m there in record { extender = k.extender; there = k.there; at = sym (port_there (on t m)) }

    -- one that has a channel already goes up as it is
    rises_on : names_channel (read_etag f) ≡ true → FitsOn t h Q (device (on t m)) f
    rises_on named control = by_way (fits control) (fits control).way
      where
        by_way : (k : IsOnWay t h m f (λ n c. Hands c (Q n))) → IsFrameOn t h m f k.of k.frame → IsOnWay t h (device (on t m)) f (λ n c. Hands c (Q n))
        by_way k (inl e) = absurd (false≢true (sym (ap names_channel (ap read_etag e.1 ∙ (bare_is k.frame k.bare).unread)) ∙ named))
        by_way k (inr w) =
            record {
              of = k.of;
              frame = k.frame;
              there = k.there;
              bare = k.bare;
              way = inr (record {
                channel = w.channel;
                some = w.some;
                small = w.small;
                frame = w.frame;
                deep = w.deep;
                home = trunk_same ∙ w.home;
                holds = subst (λ (x : ℕ). h.port x w.channel ≡ Some (on t k.of)) (sym trunk_same) w.holds;
              });
              fits = k.fits;
            }

    -- a bare one gets the channel of the port
    rises_tagged : IsExtender (far (device (on t m))) → is_bare_control f ≡ true → 0 < (far (device (on t m))).tables.own (port_number (on t m)) → FitsOn t h Q (device (on t m)) (tagged f (channel_tag ((far (device (on t m))).tables.own (port_number (on t m)))))
    rises_tagged is bare own control = by_way (fits (bare_is f bare).control) (fits (bare_is f bare).control).way
      where
        by_way : (k : IsOnWay t h m f (λ n c. Hands c (Q n))) → IsFrameOn t h m f k.of k.frame → IsOnWay t h (device (on t m)) (tagged f (channel_tag ((far (device (on t m))).tables.own (port_number (on t m))))) (λ n c. Hands c (Q n))
        by_way k (inr w) = absurd (tagged_bare m f k.of k.frame k.bare w bare)
        by_way k (inl e) =
            let held : h.port (trunk t (device (on t m))) ((far (device (on t m))).tables.own (port_number (on t m))) ≡ Some (port_of (device (on t m)) (port_number (on t m))) = routes.up (device (on t m)) (port_number (on t m)) m (above_there t tree m there deep) its (omega arith) (let r : on t m % 64 < 64 = omega arith in omega arith) own in
            let same : port_of (device (on t m)) (port_number (on t m)) ≡ on t k.of = port_there (on t m) ∙ ap (on t) e.0 in
            record {
              of = k.of;
              frame = k.frame;
              there = k.there;
              bare = k.bare;
              way = inr (record {
                channel = (far (device (on t m))).tables.own (port_number (on t m));
                some = own;
                small = is.channels (port_number (on t m));
                frame = ap (λ (x : List ℕ). tagged x (channel_tag ((far (device (on t m))).tables.own (port_number (on t m))))) e.1;
                deep = subst (λ (x : ℕ). 64 ≤ on t x) e.0 deep;
                home = trunk_same ∙ ap (trunk t) e.0;
                holds = held ∙ ap Some same;
              });
              fits = k.fits;
            }

    pub sent_from_below : IsExtender (far (device (on t m))) → (far (device (on t m))).tables.cascade (port_number (on t m)) ≡ true → Each (SendFits t h P Q (device (on t m))) (emitted (far (device (on t m))).tables (side.Port (port_number (on t m))) f)
    unfolding emitted
    sent_from_below is cascade =
        rw cascade (
        elim (cases_Bool (names_channel (read_etag f))) [
          | inl named ↦ rw named (record { rises = λ e. rises_on named; sinks = λ k c e hangs. absurd (up_port e) }, tt)
          | inr other ↦ elim (cases_Bool (is_bare_control f && nat_lt 0 ((far (device (on t m))).tables.own (port_number (on t m))))) [
            | inl both ↦
                let b = and_parts (is_bare_control f) (nat_lt 0 ((far (device (on t m))).tables.own (port_number (on t m)))) both in
                rw (other, both) (record { rises = λ e. rises_tagged is b.0 (ltb-true 0 ((far (device (on t m))).tables.own (port_number (on t m))) b.1); sinks = λ k c e hangs. absurd (up_port e) }, tt)
            | inr idle ↦ rw (other, idle) tt
          ]
        ])

-- ---- a frame that comes from a station
-- it goes up, and hasn't the destination of control frames
pub record RisesAsData (x : Sent) : Type 0 where
  pub side_is : x.side ≡ side.Up
  pub data_frame : is_control_frame x.bytes ≡ false

data_up : (f : List ℕ) (tag : Tag) → IsBytes f → is_refused_kind (kind_of f) ≡ false → 12 ≤ length f → is_control_frame (tagged f tag) ≡ false
data_up f tag bytes let_in long =
    elim (cases_Bool (is_control_frame (tagged f tag))) [
      | inl control ↦ absurd (both_ways (is_refused_kind (kind_of f)) (control_refused f bytes (sym (tagged_to_control f tag long) ∙ control)).0 let_in)
      | inr e ↦ e
    ]

let_in_long : (f : List ℕ) → is_refused_kind (kind_of f) ≡ false → 12 ≤ length f
unfolding kind_of
let_in_long f let_in =
    elim (cases_lt (length f) 14) [
      | inl l ↦ absurd (let k = rw (lt-ltb (length f) 14 l) at let_in in false≢true (sym k))
      | inr l ↦ omega arith
    ]

or_false : (a b : Bool) → (a || b) ≡ false → (a ≡ false) × (b ≡ false)
or_false true b e = absurd (false≢true (sym e))
or_false false b e = (refl, e)

pub station_sends : (q : ℕ) (x : ExtenderState) (f : List ℕ) → IsBytes f → x.tables.cascade q ≡ false → Each RisesAsData (emitted x.tables (side.Port q) f)
unfolding emitted
station_sends q x f bytes external =
    rw external (
    elim (cases_Bool (is_ignored (x.tables.own q) f)) [
      | inl out ↦ rw out tt
      | inr in_there ↦
          let k = or_false (x.tables.own q == 0) (is_refused_kind (kind_of f)) in_there in
          rw in_there (record { side_is = refl; data_frame = data_up f (channel_tag (x.tables.own q)) bytes k.1 (let_in_long f k.1) }, tt)
    ])

module _ (t : Shape) (h : Held) (P Q : ℕ → ℕ → Body → Type 0) where
  pub sent_from_station : (n q : ℕ) (x : ExtenderState) (f : List ℕ) → IsBytes f → x.tables.cascade q ≡ false → Each (SendFits t h P Q n) (emitted x.tables (side.Port q) f)
  sent_from_station n q x f bytes external =
      each_weaker RisesAsData (SendFits t h P Q n) (emitted x.tables (side.Port q) f)
      (λ y k. record { rises = λ e control. absurd (both_ways (is_control_frame y.bytes) control k.data_frame); sinks = λ j c e hangs. absurd (up_port (sym k.side_is ∙ e)) })
      (station_sends q x f bytes external)

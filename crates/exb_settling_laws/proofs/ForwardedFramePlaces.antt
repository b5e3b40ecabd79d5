-- What an extender forwards of a control frame stands on the way of its extender again.
use Rattle.std.proofs.Common.{◌≡◌, ◌≢◌, ◌⊎◌, ℕ, ◌%◌, ◌<◌, ◌≤◌, ◌&&◌, Bool, true, false, cond, nat_lt, List, [], ◌∷◌, map, Option, Some, None, refl, ap, sym, ◌∙◌, subst, arith, inl, inr}
use Rattle.std.proofs.lemmas.Bool.{cases_Bool, and_parts, ltb-true, false≢true}
use Rattle.exb_model.specs.Tree.{Shape, HangsOn, IsTree, device, on, is_extender, is_cascade, trunk, port_number}
use Rattle.exb_model.specs.ETags.{Tag, read_etag, tagged, stripped}
use Rattle.exb_model.specs.ExtenderForwarding.{emits, emits_tagged, takes, left_out, bare}
use Rattle.exb_model.proofs.TreeTrunks.{trunk-low}
use Rattle.exb_frame.specs.TagValues.{TagRoundTrip}
use Rattle.exb_extender.specs.declared.sends.Side.TheVariants as side
use Rattle.exb_csp.specs.AllTables.{port_of}
use Rattle.exb_extender.specs.Forwarding.{forwarding_of, sent_at, is_bare_control, names_channel, emitted, channel_tag}
use Rattle.exb_model.specs.Frames.{is_control_frame}
use Rattle.exb_extender.specs.Machine.{ExtenderState, IsExtender}
use Rattle.exb_link.specs.declared.link_frame.Stamp.{Stamp}
use Rattle.exb_model.specs.Setup.{Limits}
use Rattle.exb_control_spec.specs.Plans.HeldNumbers.{Held}
use Rattle.exb_world_spec.specs.Runs.Sessions.{Each, IsTagged, KeepsCascades, Routes, IsNextHop}
use Rattle.exb_world_spec.proofs.CascadeChannels.{trunk_is_cascade}
use Rattle.exb_world_spec.proofs.Forwarding.{bare_there, plain_there}
use Rattle.exb_world_spec.proofs.Frames.{bare_is, read_typed, typed_not_bare, tag_fits, stripped_to_control}
use Rattle.exb_world_spec.proofs.Trunks.{trunk_above, above_there, hangs_there, extender_there, port_there}
use Rattle.exb_world_spec.proofs.LinkFrames.{each_range}
use Rattle.exb_settling_laws.specs.FramePlaces.{IsPlaced, PlacedOn, WordPlaced}
use Rattle.exb_settling_laws.proofs.ExtendersAbove.{above_by_port, one_higher, apart_above}
use Rattle.exb_settling_laws.proofs.LinkGrowth.{MaySend}

both_ways : (b : Bool) → b ≡ true → b ≡ false → ⊥
both_ways b x y = cc

same_tag : (o : Option Tag) (x y : Tag) → o ≡ Some x → o ≡ Some y → x ≡ y
same_tag o x y e f = cc

up_port : {k : ℕ} → side.Up ≡ side.Port k → ⊥
up_port e = cc

port_up : {k : ℕ} → side.Port k ≡ side.Up → ⊥
port_up e = cc

same_port : (k q : ℕ) → side.Port q ≡ side.Port k → q ≡ k
same_port k q e = cc

-- no port has two channels
abbrev pub HasOnes : Shape → Held → Type 0
HasOnes t h = (k c d p : ℕ) → k < 64 → is_cascade t k ≡ true → h.port k c ≡ Some p → h.port k d ≡ Some p → c ≡ d

-- The words have the channels of h, with which the world began; g is what is held now, by which the tables send on.
module _ (t : Shape) (l : Limits) (tree : IsTree t) (h g : Held) (to : KeepsCascades t g h) (from : KeepsCascades t h g) (round : TagRoundTrip) (D U : ℕ → List ℕ → Type 0) (far : ℕ → ExtenderState) (routes : Routes t g far) (ones : HasOnes t g) where
  read_of : (m : ℕ) (f : List ℕ) (n : ℕ) (c : List ℕ) → is_bare_control c ≡ true → (k : IsTagged t h m f n c) → (read_etag f ≡ Some (channel_tag k.channel)) × (stripped f ≡ c)
  read_of m f n c bare k =
      let b = bare_is c bare in
      let r = round c (channel_tag k.channel) (omega (arith, b.long)) (tag_fits k.channel k.small) in
      (ap read_etag k.frame ∙ r.0, ap stripped k.frame ∙ r.1)

  no_bare : (m : ℕ) (f : List ℕ) (n : ℕ) (c : List ℕ) → is_bare_control c ≡ true → IsTagged t h m f n c → is_bare_control f ≡ true → ⊥
  no_bare m f n c bare k is = both_ways (is_bare_control f) is (typed_not_bare f (read_typed f (channel_tag k.channel) (read_of m f n c bare k).0))

  -- the channel of a word is held now
  held_now : (m : ℕ) (f : List ℕ) (n : ℕ) (c : List ℕ) → is_extender t n ≡ true → (k : IsTagged t h m f n c) → g.port (trunk t m) k.channel ≡ Some (on t n)
  held_now m f n c there k =
      let P : ℕ → Type 0 = λ i. g.port i k.channel ≡ Some (on t n) in
      let Q : ℕ → Type 0 = λ i. h.port i k.channel ≡ Some (on t n) in
      subst P (sym k.home) (from n k.channel there k.deep k.some (subst Q k.home k.holds))

  abbrev Sends : ℕ → Option Stamp → Rattle.exb_extender.specs.Forwarding.Sent → Type 0
  Sends n stamp x = MaySend t l (WordPlaced t h D) (WordPlaced t h U) n stamp x

  -- ---- from upstream
  module _ (m : ℕ) (there : is_extender t m ≡ true) (is : IsExtender (far m)) (f : List ℕ) (stamp : Option Stamp) (fits : PlacedOn t h D m f) (forwarded : is_bare_control f ≡ false) where
    record IsWithChannel : Type 0 where
      placed : IsPlaced t h D m f
      apart : m ≢ placed.of
      tag : IsTagged t h m f placed.of placed.frame

    with_channel : is_control_frame f ≡ true → IsWithChannel
    with_channel control = by_way (fits control) (fits control).way
      where
        by_way : (k : IsPlaced t h D m f) → ((m ≡ k.of) × (f ≡ k.frame)) ⊎ ((m ≢ k.of) × IsTagged t h m f k.of k.frame) → IsWithChannel
        by_way k (inl e) = absurd (both_ways (is_bare_control f) (ap is_bare_control e.1 ∙ k.bare) forwarded)
        by_way k (inr w) = record { placed = k; apart = w.0; tag = w.1 }

    low : 1 ≤ m
    low = let p = and_parts (nat_lt 0 m) (nat_lt 0 _) there in ltb-true 0 m p.0

    same_trunk_at : (q : ℕ) → 0 < q → q ≤ (far m).tables.ports → (c : ℕ) → HangsOn t c (port_of m q) → trunk t m ≡ trunk t c
    same_trunk_at q first few c hangs =
        let few64 : q ≤ 64 = omega (arith, few, is.ports.1) in
        let is_on : on t c ≡ port_of m q = hangs.at in
        let deep : 64 ≤ on t c = omega (arith, low) in
        let dev : device (on t c) ≡ m = omega (arith, low) in
        subst (λ (x : ℕ). trunk t x ≡ trunk t c) dev (trunk_above t tree c (extender_there t c (port_of m q) hangs) deep)

    module _ (q : ℕ) (first : 0 < q) (few : q ≤ (far m).tables.ports) (tag : Tag) (reads : read_etag f ≡ Some tag) (own : 0 < (far m).tables.own q) (pair : (far m).tables.pair tag.ecid q ≡ true) where
      module _ (k : IsWithChannel) where
        same : tag ≡ channel_tag k.tag.channel
        same = same_tag (read_etag f) tag (channel_tag k.tag.channel) reads (read_of m f k.placed.of k.placed.frame k.placed.bare k.tag).0

        number : tag.ecid ≡ k.tag.channel
        number = ap (λ (x : Tag). x.ecid) same

        next : IsNextHop t (far m) m q k.tag.channel k.placed.of
        next = routes.down m q k.tag.channel k.placed.of there k.placed.there k.tag.deep (held_now m f k.placed.of k.placed.frame k.placed.there k.tag) k.tag.some k.tag.small first (omega (arith, few, is.ports.1)) own (subst (λ (x : Tag). (far m).tables.pair x.ecid q ≡ true) same pair)

        -- the extender that hangs there isn't its own, where the port's channel is another one
        other_there : (c : ℕ) → HangsOn t c (port_of m q) → (far m).tables.own q ≢ k.tag.channel → c ≢ k.placed.of
        other_there c hangs other e =
            let at_port : port_of m q ≡ on t k.placed.of = sym hangs.at ∙ ap (on t) e in
            let mine : g.port (trunk t m) ((far m).tables.own q) ≡ Some (port_of m q) = routes.up m q c there hangs first (omega (arith, few, is.ports.1)) own in
            let its : g.port (trunk t m) k.tag.channel ≡ Some (port_of m q) = held_now m f k.placed.of k.placed.frame k.placed.there k.tag ∙ ap (λ (x : ℕ). Some x) (sym at_port) in
            let cascade : is_cascade t (trunk t m) ≡ true = subst (λ (x : ℕ). is_cascade t x ≡ true) (sym k.tag.home) (trunk_is_cascade t tree k.placed.of k.placed.there k.tag.deep) in
            other (ones (trunk t m) ((far m).tables.own q) k.tag.channel (port_of m q) (trunk-low t tree m there) cascade mine its)

        goes_by : (c : ℕ) → HangsOn t c (port_of m q) → bare (forwarding_of (far m).tables) q tag ≡ false →
            ((port_of m q ≡ on t k.placed.of) × ((far m).tables.own q ≡ k.tag.channel)) ⊎ (((far m).tables.cascade q ≡ true) × ((far m).tables.own q ≢ k.tag.channel) × ((d : ℕ) × HangsOn t d (port_of m q))) → IsPlaced t h D c f
        goes_by c hangs plain (inl here) = absurd (both_ways (bare (forwarding_of (far m).tables) q tag) (bare_there (far m).tables q tag (here.1 ∙ sym number)) plain)
        goes_by c hangs plain (inr on_way) =
            record {
              of = k.placed.of;
              frame = k.placed.frame;
              there = k.placed.there;
              bare = k.placed.bare;
              below = above_by_port t tree c k.placed.of (port_of m q) hangs (extender_there t c (port_of m q) hangs) k.placed.there next.way;
              way = inr (
                other_there c hangs on_way.1,
                record {
                  channel = k.tag.channel;
                  some = k.tag.some;
                  small = k.tag.small;
                  frame = k.tag.frame;
                  deep = k.tag.deep;
                  home = sym (same_trunk_at q first few c hangs) ∙ k.tag.home;
                  holds = subst (λ (x : ℕ). h.port x k.tag.channel ≡ Some (on t k.placed.of)) (same_trunk_at q first few c hangs) k.tag.holds;
                },
              );
              reads = k.placed.reads;
            }

        comes_by : (c : ℕ) → HangsOn t c (port_of m q) → bare (forwarding_of (far m).tables) q tag ≡ true →
            ((port_of m q ≡ on t k.placed.of) × ((far m).tables.own q ≡ k.tag.channel)) ⊎ (((far m).tables.cascade q ≡ true) × ((far m).tables.own q ≢ k.tag.channel) × ((d : ℕ) × HangsOn t d (port_of m q))) → IsPlaced t h D c (stripped f)
        comes_by c hangs plain (inl here) =
            let top = hangs_there t k.placed.of k.placed.there in
            let its : HangsOn t k.placed.of (port_of m q) = record { extender = top.extender; there = top.there; at = sym here.0 } in
            let is_it : c ≡ k.placed.of = tree.alone c k.placed.of (port_of m q) hangs its in
            record {
              of = k.placed.of;
              frame = k.placed.frame;
              there = k.placed.there;
              bare = k.placed.bare;
              below = inl is_it;
              way = inl (is_it, (read_of m f k.placed.of k.placed.frame k.placed.bare k.tag).1);
              reads = k.placed.reads;
            }
        comes_by c hangs plain (inr on_way) = absurd (both_ways (bare (forwarding_of (far m).tables) q tag) plain (plain_there (far m).tables q tag on_way.0 (λ e. on_way.1 (e ∙ number))))

      -- the word that goes on at port q
      goes_on : (c : ℕ) → HangsOn t c (port_of m q) → bare (forwarding_of (far m).tables) q tag ≡ false → PlacedOn t h D c f
      goes_on c hangs plain control = (let k = with_channel control in goes_by k c hangs plain (next k).hop)

      -- the frame that comes out of it there
      comes_out : (c : ℕ) → HangsOn t c (port_of m q) → bare (forwarding_of (far m).tables) q tag ≡ true → PlacedOn t h D c (stripped f)
      comes_out c hangs plain control = (let k = with_channel (sym (stripped_to_control f) ∙ control) in comes_by k c hangs plain (next k).hop)

      -- what is sent at port q
      sent_there : Each (Sends m stamp) (map (λ bytes. record { side = side.Port q; bytes = bytes }) (cond (left_out (forwarding_of (far m).tables) q tag) [] (cond (bare (forwarding_of (far m).tables) q tag) (stripped f ∷ []) (f ∷ []))))
      sent_there =
          elim (cases_Bool (left_out (forwarding_of (far m).tables) q tag)) [
            | inl out ↦ rw out tt
            | inr in_there ↦ elim (cases_Bool (bare (forwarding_of (far m).tables) q tag)) [
              | inl strips ↦ rw (in_there, strips) (record { rises = λ e. absurd (port_up e); sinks = λ k c e hangs. comes_out c (subst (λ (x : ℕ). HangsOn t c (port_of m x)) (sym (same_port k q e)) hangs) strips }, tt)
              | inr plain ↦ rw (in_there, plain) (record { rises = λ e. absurd (port_up e); sinks = λ k c e hangs. goes_on c (subst (λ (x : ℕ). HangsOn t c (port_of m x)) (sym (same_port k q e)) hangs) plain }, tt)
            ]
          ]

    sent_tagged : (q : ℕ) → 0 < q → q ≤ (far m).tables.ports → (o : Option Tag) → read_etag f ≡ o → Each (Sends m stamp) (map (λ bytes. record { side = side.Port q; bytes = bytes }) (emits_tagged (forwarding_of (far m).tables) q f o))
    sent_tagged q first few None reads = tt
    sent_tagged q first few (Some tag) reads =
        elim (cases_Bool (takes (forwarding_of (far m).tables) q tag)) [
          | inr idle ↦ rw idle tt
          | inl takes_it ↦
              let p = and_parts (nat_lt 0 ((far m).tables.own q)) ((far m).tables.pair tag.ecid q) takes_it in
              rw takes_it (sent_there q first few tag reads (ltb-true 0 ((far m).tables.own q) p.0) p.1)
        ]

    pub placed_from_above : Each (Sends m stamp) (emitted (far m).tables side.Up f)
    unfolding emitted emits
    placed_from_above = each_range (Sends m stamp) (sent_at (far m).tables f) 1 (far m).tables.ports (λ q first high. sent_tagged q (omega arith) (omega arith) (read_etag f) refl)

  -- ---- from a cascade port
  module _ (m : ℕ) (there : is_extender t m ≡ true) (deep : 64 ≤ on t m) (f : List ℕ) (stamp : Option Stamp) (fits : PlacedOn t h U m f) where
    trunk_same : trunk t (device (on t m)) ≡ trunk t m
    trunk_same = trunk_above t tree m there deep

    its : HangsOn t m (port_of (device (on t m)) (port_number (on t m)))
    its = let k = hangs_there t m there in record { extender = k.extender; there = k.there; at = sym (port_there (on t m)) }

    -- one that has a channel already goes up as it is
    rises_on : names_channel (read_etag f) ≡ true → PlacedOn t h U (device (on t m)) f
    rises_on named control = by_way (fits control) (fits control).way
      where
        by_way : (k : IsPlaced t h U m f) → ((m ≡ k.of) × (f ≡ k.frame)) ⊎ ((m ≢ k.of) × IsTagged t h m f k.of k.frame) → IsPlaced t h U (device (on t m)) f
        by_way k (inl e) = absurd (false≢true (sym (ap names_channel (ap read_etag e.1 ∙ (bare_is k.frame k.bare).unread)) ∙ named))
        by_way k (inr w) =
            record {
              of = k.of;
              frame = k.frame;
              there = k.there;
              bare = k.bare;
              below = one_higher t tree m k.of k.there deep k.below;
              way = inr (
                apart_above t tree m k.of there k.there deep k.below,
                record {
                  channel = w.1.channel;
                  some = w.1.some;
                  small = w.1.small;
                  frame = w.1.frame;
                  deep = w.1.deep;
                  home = trunk_same ∙ w.1.home;
                  holds = subst (λ (x : ℕ). h.port x w.1.channel ≡ Some (on t k.of)) (sym trunk_same) w.1.holds;
                },
              );
              reads = k.reads;
            }

    -- a bare one gets the channel of the port
    rises_tagged : IsExtender (far (device (on t m))) → is_bare_control f ≡ true → 0 < (far (device (on t m))).tables.own (port_number (on t m)) → PlacedOn t h U (device (on t m)) (tagged f (channel_tag ((far (device (on t m))).tables.own (port_number (on t m)))))
    rises_tagged is bare own control = by_way (fits (bare_is f bare).control) (fits (bare_is f bare).control).way
      where
        by_way : (k : IsPlaced t h U m f) → ((m ≡ k.of) × (f ≡ k.frame)) ⊎ ((m ≢ k.of) × IsTagged t h m f k.of k.frame) → IsPlaced t h U (device (on t m)) (tagged f (channel_tag ((far (device (on t m))).tables.own (port_number (on t m)))))
        by_way k (inr w) = absurd (no_bare m f k.of k.frame k.bare w.1 bare)
        by_way k (inl e) =
            let now : g.port (trunk t (device (on t m))) ((far (device (on t m))).tables.own (port_number (on t m))) ≡ Some (port_of (device (on t m)) (port_number (on t m))) = routes.up (device (on t m)) (port_number (on t m)) m (above_there t tree m there deep) its (omega arith) (let r : on t m % 64 < 64 = omega arith in omega arith) own in
            let P : ℕ → Type 0 = λ i. g.port i ((far (device (on t m))).tables.own (port_number (on t m))) ≡ Some (on t m) in
            let mine : h.port (trunk t m) ((far (device (on t m))).tables.own (port_number (on t m))) ≡ Some (on t m) = to m ((far (device (on t m))).tables.own (port_number (on t m))) there deep own (subst P trunk_same (now ∙ ap (λ (x : ℕ). Some x) (port_there (on t m)))) in
            let Q : ℕ → Type 0 = λ i. h.port i ((far (device (on t m))).tables.own (port_number (on t m))) ≡ Some (on t m) in
            record {
              of = k.of;
              frame = k.frame;
              there = k.there;
              bare = k.bare;
              below = one_higher t tree m k.of k.there deep k.below;
              way = inr (
                apart_above t tree m k.of there k.there deep k.below,
                record {
                  channel = (far (device (on t m))).tables.own (port_number (on t m));
                  some = own;
                  small = is.channels (port_number (on t m));
                  frame = ap (λ (x : List ℕ). tagged x (channel_tag ((far (device (on t m))).tables.own (port_number (on t m))))) e.1;
                  deep = subst (λ (x : ℕ). 64 ≤ on t x) e.0 deep;
                  home = trunk_same ∙ ap (trunk t) e.0;
                  holds = subst Q (sym trunk_same) mine ∙ ap (λ (x : ℕ). Some (on t x)) e.0;
                },
              );
              reads = k.reads;
            }

    pub placed_from_below : IsExtender (far (device (on t m))) → (far (device (on t m))).tables.cascade (port_number (on t m)) ≡ true → Each (Sends (device (on t m)) stamp) (emitted (far (device (on t m))).tables (side.Port (port_number (on t m))) f)
    unfolding emitted
    placed_from_below is cascade =
        rw cascade (
        elim (cases_Bool (names_channel (read_etag f))) [
          | inl named ↦ rw named (record { rises = λ e. rises_on named; sinks = λ k c e hangs. absurd (up_port e) }, tt)
          | inr other ↦ elim (cases_Bool (is_bare_control f && nat_lt 0 ((far (device (on t m))).tables.own (port_number (on t m))))) [
            | inl both ↦
                let b = and_parts (is_bare_control f) (nat_lt 0 ((far (device (on t m))).tables.own (port_number (on t m)))) both in
                rw (other, both) (record { rises = λ e. rises_tagged is b.0 (ltb-true 0 ((far (device (on t m))).tables.own (port_number (on t m))) b.1); sinks = λ k c e hangs. absurd (up_port e) }, tt)
            | inr idle ↦ rw (other, idle) tt
          ]
        ])

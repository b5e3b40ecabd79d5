-- A word is taken from below: it goes onto the link above, or the bridge takes it.
use Rattle.std.proofs.Common.{◌≡◌, ◌≢◌, ◌⊎◌, inl, inr, ⊎_elim, ℕ, zero, suc, ◌≤◌, ◌<◌, ◌&&◌, nat_lt, Bool, true, false, cond, List, [], ◌∷◌, length, Option, Some, None, refl, ap, sym, ◌∙◌, subst, arith}
use Rattle.std.proofs.lemmas.Bool.{and_parts, and_from, eqb-true, lt-ltb, ltb-true}
use Rattle.exb_model.specs.Tree.{Shape, IsTree, HangsOn, device, on, is_extender, trunk, depth, port_number}
use Rattle.exb_model.specs.ETags.{Tag, read_etag, tagged}
use Rattle.exb_frame.specs.TagValues.{TagRoundTrip}
use Rattle.exb_csp.specs.AllTables.{port_of}
use Rattle.exb_extender.specs.Forwarding.{is_bare_control, has_etag_type, names_channel, channel_tag, sent_from_cascade}
use Rattle.exb_model.specs.Frames.{is_control_frame}
use Rattle.exb_extender.specs.Machine.{ExtenderState, IsExtender}
use Rattle.exb_extender.specs.declared.sends.Side.TheVariants as side
use Rattle.exb_extender.specs.Forwarding.{Sent}
use Rattle.exb_link.specs.declared.link_frame.Stamp.{Stamp}
use Rattle.exb_link.specs.declared.link_frame.LinkFrame.{LinkFrame}
use Rattle.exb_link.specs.LinkFrames.{is_control}
use Rattle.exb_control_spec.specs.Plans.HeldNumbers.{Held}
use Rattle.exb_world_spec.specs.Runs.Sessions.{Each, IsTagged, Routes}
use Rattle.exb_world_spec.proofs.Frames.{bare_is, read_typed}
use Rattle.exb_world_spec.proofs.Trunks.{hangs_there, above_there, trunk_above, port_there}
use Rattle.exb_settling_laws.specs.Streams.{addressee, plain, is_the, is_of}
use Rattle.exb_settling_laws.specs.SettlingFacts.{IsAbove, IsOwned, WordFacts, Hops, HopsAbove, IsDeep}
use Rattle.exb_settling_laws.proofs.ControlFrameDecoding.{bare_plain, tagged_read, tagged_addressed, tagged_plain, is_mine, not_mine}
use Rattle.exb_settling_laws.proofs.Streams.{above_depth}
use Rattle.exb_model.proofs.TreeOrder.{less_deep}

-- ---- destinations
-- a frame that has the destination of control frames has it with an E-TAG too
pub control_kept : (f : List ℕ) (tag : Tag) → 14 ≤ length f → is_control_frame f ≡ true → is_control_frame (tagged f tag) ≡ true
unfolding is_control_frame
control_kept [] tag long e = absurd (omega arith)
control_kept (a ∷ []) tag long e = absurd (omega arith)
control_kept (a ∷ b ∷ []) tag long e = absurd (omega arith)
control_kept (a ∷ b ∷ c ∷ []) tag long e = absurd (omega arith)
control_kept (a ∷ b ∷ c ∷ d ∷ []) tag long e = absurd (omega arith)
control_kept (a ∷ b ∷ c ∷ d ∷ g ∷ []) tag long e = absurd (omega arith)
control_kept (a ∷ b ∷ c ∷ d ∷ g ∷ h ∷ rest) tag long e = e

module _ (t : Shape) (tree : IsTree t) (round : TagRoundTrip) where
  -- ---- ways
  above_deep : (n j : ℕ) → IsAbove t 64 n j → 64 ≤ on t n → 64 ≤ on t j
  above_deep n j (inl e) deep = let P : ℕ → Type 0 = λ z. 64 ≤ on t z in subst P e deep
  above_deep n j (inr a) deep = a.0

  -- the extender above link n sends on what has this channel
  abbrev pub HopsHere : (ℕ → ExtenderState) → ℕ → ℕ → Bool → Type 0
  HopsHere far n channel last = Hops (far (device (on t n))) (port_number (on t n)) channel last

  hops_here : (far : ℕ → ExtenderState) (d n k channel : ℕ) (b : Bool) → n ≡ k → 64 ≤ on t n → (on t k < 64) ⊎ (HopsHere far k channel b × HopsAbove t far channel false d (device (on t k))) → HopsHere far n channel b
  hops_here far d n k channel b e deep (inl low) = absurd (let z : on t n ≡ on t k = ap (on t) e in omega arith)
  hops_here far d n k channel b e deep (inr p) = let P : ℕ → Type 0 = λ z. HopsHere far z channel b in subst P (sym e) p.0

  -- at the link of k itself it is the last one, at a link above it isn't
  abbrev pub Hop : (ℕ → ExtenderState) → ℕ → ℕ → ℕ → Bool → Type 0
  Hop far n k channel b = ((n ≡ k) × HopsHere far n channel b) ⊎ ((depth t n < depth t k) × HopsHere far n channel false)

  not_last : (far : ℕ → ExtenderState) (n k channel : ℕ) → Hop far n k channel false → HopsHere far n channel false
  not_last far n k channel (inl p) = p.1
  not_last far n k channel (inr p) = p.1

  hops_above : (far : ℕ → ExtenderState) (d n k channel : ℕ) (b : Bool) → is_extender t k ≡ true → ((i : ℕ) → is_extender t i ≡ true → IsAbove t d n i → HopsAbove t far channel false d i → Hop far n i channel false) →
      (64 ≤ on t k) × IsAbove t d n (device (on t k)) → (on t k < 64) ⊎ (HopsHere far k channel b × HopsAbove t far channel false d (device (on t k))) → (depth t n < depth t k) × HopsHere far n channel false
  hops_above far d n k channel b there ih a (inl low) = absurd (let z : 64 ≤ on t k = a.0 in omega arith)
  hops_above far d n k channel b there ih a (inr p) =
      let k_there : is_extender t (device (on t k)) ≡ true = above_there t tree k there a.0 in
      let q : depth t (device (on t k)) < depth t k = less_deep t tree k (on t k) (hangs_there t k there) a.0 in
      let r : depth t n ≤ depth t (device (on t k)) = above_depth t (record { port = λ a b. None; set = λ a b. [] }) 0 tree d n (device (on t k)) k_there a.1 in
      (omega arith, not_last far n (device (on t k)) channel (ih (device (on t k)) k_there a.1 p.1))

  pub hops_at : (far : ℕ → ExtenderState) (d n k channel : ℕ) (b : Bool) → 64 ≤ on t n → is_extender t k ≡ true → IsAbove t d n k → HopsAbove t far channel b d k → Hop far n k channel b
  hops_at far zero n k channel b deep there a h = absurd a
  hops_at far (suc d) n k channel b deep there (inl e) h = inl (e, hops_here far d n k channel b e deep h)
  hops_at far (suc d) n k channel b deep there (inr a) h = inr (hops_above far d n k channel b there (λ i i_there i_above i_hops. hops_at far d n i channel false deep i_there i_above i_hops) a h)

  -- ---- what goes on upwards of a word of extender j
  pub record IsForwarded (h : Held) (j m : ℕ) (f g : List ℕ) : Type 0 where
    pub control : is_control_frame g ≡ true
    pub addressed : addressee t h m g ≡ Some j
    pub plain_is : plain g ≡ plain f

  pub record GoesUp (h : Held) (far : ℕ → ExtenderState) (j n : ℕ) (f : List ℕ) : Type 0 where
    pub cascade : (far (device (on t n))).tables.cascade (port_number (on t n)) ≡ true
    pub frame : List ℕ
    pub sent : sent_from_cascade ((far (device (on t n))).tables.own (port_number (on t n))) f ≡ Rattle.exb_extender.specs.Forwarding.up frame ∷ []
    pub forwarded : IsForwarded h j (device (on t n)) f frame

  some_not : (tag : Tag) → None ≡ Some tag → ⊥
  some_not tag e = cc

  module _ (h : Held) (far : ℕ → ExtenderState) (j n : ℕ) (there : is_extender t n ≡ true) (deep : 64 ≤ on t n) where
    same_trunk : trunk t (device (on t n)) ≡ trunk t n
    same_trunk = trunk_above t tree n there deep

    -- with a channel: it goes on as it is
    typed_up : (f c : List ℕ) → is_extender t j ≡ true → is_control_frame f ≡ true → is_bare_control c ≡ true → (k : IsTagged t h n f j c) → (far (device (on t n))).tables.cascade (port_number (on t n)) ≡ true → GoesUp h far j n f
    typed_up f c j_there control bare k cascade =
        let own : ℕ = (far (device (on t n))).tables.own (port_number (on t n)) in
        let read : read_etag f ≡ Some (channel_tag k.channel) = ap read_etag k.frame ∙ tagged_read t tree h round c k.channel bare k.small in
        let names : names_channel (read_etag f) ≡ true = ap names_channel read ∙ and_from (nat_lt 0 k.channel) (nat_lt k.channel 4095) (lt-ltb 0 k.channel k.some) (lt-ltb k.channel 4095 k.small) in
        let holds : h.port (trunk t (device (on t n))) k.channel ≡ Some (on t j) = (let P : ℕ → Type 0 = λ z. h.port z k.channel ≡ Some (on t j) in subst P (sym same_trunk) k.holds) in
        record {
          cascade = cascade;
          frame = f;
          sent = ap (λ (b : Bool). cond b (Rattle.exb_extender.specs.Forwarding.up f ∷ []) (cond (is_bare_control f && nat_lt 0 ((far (device (on t n))).tables.own (port_number (on t n)))) (Rattle.exb_extender.specs.Forwarding.up (tagged f (channel_tag ((far (device (on t n))).tables.own (port_number (on t n))))) ∷ []) [])) names;
          forwarded = record {
            control = control;
            addressed = ap (addressee t h (device (on t n))) k.frame ∙ tagged_addressed t tree h round (device (on t n)) j k.channel c bare k.small j_there holds;
            plain_is = refl;
          };
        }

    -- without one: it gets that of the port
    bare_up : (f : List ℕ) → n ≡ j → is_control_frame f ≡ true → is_bare_control f ≡ true → (d : IsDeep t h far j) → HopsHere far n d.channel true → GoesUp h far j n f
    bare_up f e control bare d hops =
        let own : ℕ = (far (device (on t n))).tables.own (port_number (on t n)) in
        let is : own ≡ d.channel = eqb-true _ _ hops.ends in
        let b = bare_is f bare in
        let names : names_channel (read_etag f) ≡ false = ap names_channel b.unread in
        let tag_it : (is_bare_control f && nat_lt 0 ((far (device (on t n))).tables.own (port_number (on t n)))) ≡ true = and_from (is_bare_control f) _ bare (lt-ltb 0 _ hops.own) in
        let holds : h.port (trunk t (device (on t n))) ((far (device (on t n))).tables.own (port_number (on t n))) ≡ Some (on t j) =
        (let P : ℕ → Type 0 = λ z. h.port z ((far (device (on t n))).tables.own (port_number (on t n))) ≡ Some (on t j) in
        let Q : ℕ → Type 0 = λ z. h.port (trunk t j) z ≡ Some (on t j) in
        subst P (ap (trunk t) (sym e) ∙ sym same_trunk) (subst Q (sym is) d.holds)) in
        let small : (far (device (on t n))).tables.own (port_number (on t n)) < 4095 = (let z : d.channel < 4095 = d.high in omega arith) in
        let j_there : is_extender t j ≡ true = (let P : ℕ → Type 0 = λ z. is_extender t z ≡ true in subst P e there) in
        record {
          cascade = hops.cascade;
          frame = tagged f (channel_tag ((far (device (on t n))).tables.own (port_number (on t n))));
          sent = ap (λ (z : Bool). cond z (Rattle.exb_extender.specs.Forwarding.up f ∷ []) (cond (is_bare_control f && nat_lt 0 ((far (device (on t n))).tables.own (port_number (on t n)))) (Rattle.exb_extender.specs.Forwarding.up (tagged f (channel_tag ((far (device (on t n))).tables.own (port_number (on t n))))) ∷ []) [])) names
              ∙ ap (λ (z : Bool). cond z (Rattle.exb_extender.specs.Forwarding.up (tagged f (channel_tag ((far (device (on t n))).tables.own (port_number (on t n))))) ∷ []) []) tag_it;
          forwarded = record {
            control = control_kept f (channel_tag ((far (device (on t n))).tables.own (port_number (on t n)))) b.long control;
            addressed = tagged_addressed t tree h round (device (on t n)) j ((far (device (on t n))).tables.own (port_number (on t n))) f bare small j_there holds;
            plain_is = tagged_plain t tree h round f ((far (device (on t n))).tables.own (port_number (on t n))) bare small ∙ sym (bare_plain t tree h f b.untyped);
          };
        }

    pub goes_up : (P : ℕ → List ℕ → Type 0) (x : LinkFrame) → is_control x ≡ true → (own : IsOwned t h P n x) → own.of ≡ j → (on t j < 64) ⊎ IsDeep t h far j → GoesUp h far j n x.bytes
    goes_up P x control own e reached = by_reached reached own.form
      where
        is_j : is_extender t j ≡ true
        is_j = let Q : ℕ → Type 0 = λ z. is_extender t z ≡ true in subst Q e own.there

        above : IsAbove t 64 n j
        above = let Q : ℕ → Type 0 = λ z. IsAbove t 64 n z in subst Q e own.below

        by_hop : (d : IsDeep t h far j) → Hop far n j d.channel true → ((n ≡ own.of) × (has_etag_type x.bytes ≡ false)) ⊎ ((n ≢ own.of) × IsTagged t h n x.bytes own.of (plain x.bytes)) → GoesUp h far j n x.bytes
        by_hop d (inl hop) (inl p) =
            let same : plain x.bytes ≡ x.bytes = bare_plain t tree h x.bytes p.1 in
            bare_up x.bytes hop.0 control (let Q : List ℕ → Type 0 = λ z. is_bare_control z ≡ true in subst Q same own.bare) d hop.1
        by_hop d (inl hop) (inr p) = absurd (p.0 (hop.0 ∙ sym e))
        by_hop d (inr hop) (inr p) = typed_up x.bytes (plain x.bytes) is_j control own.bare (let Q : ℕ → Type 0 = λ z. IsTagged t h n x.bytes z (plain x.bytes) in subst Q e p.1) hop.1.cascade
        by_hop d (inr hop) (inl p) = absurd (let z : depth t n ≡ depth t j = ap (depth t) (p.0 ∙ e) in let y : depth t n < depth t j = hop.0 in omega arith)

        by_reached : (on t j < 64) ⊎ IsDeep t h far j → ((n ≡ own.of) × (has_etag_type x.bytes ≡ false)) ⊎ ((n ≢ own.of) × IsTagged t h n x.bytes own.of (plain x.bytes)) → GoesUp h far j n x.bytes
        by_reached (inl low) form = absurd (let z = above_deep n j above deep in omega arith)
        by_reached (inr d) form = by_hop d (hops_at far 64 n j d.channel true deep is_j above d.hops) form

  -- ---- what goes on upwards of any other word isn't of extender j
  abbrev pub NotOf : Held → ℕ → ℕ → LinkFrame → Type 0
  NotOf h j m y = is_of t h j m y ≡ false

  abbrev pub SentNotOf : Held → ℕ → ℕ → Option Stamp → Sent → Type 0
  SentNotOf h j m stamp s = (s.side ≡ side.Up) × NotOf h j m (record { bytes = s.bytes; stamp = stamp })

  both_ways : (b : Bool) → b ≡ true → b ≡ false → ⊥
  both_ways b x y = cc

  module _ (h : Held) (far : ℕ → ExtenderState) (routes : Routes t h far) (j n : ℕ) (there : is_extender t n ≡ true) (deep : 64 ≤ on t n) (is : IsExtender (far (device (on t n)))) (P : ℕ → List ℕ → Type 0) (x : LinkFrame) (facts : WordFacts t h P n x) (other : is_of t h j n x ≡ false) where
    a : ℕ
    a = device (on t n)

    a_there : is_extender t (device (on t n)) ≡ true
    a_there = above_there t tree n there deep

    not_own : (own : IsOwned t h P n x) → is_control x ≡ true → own.of ≢ j
    not_own own control e = both_ways (is_of t h j n x) (is_mine t tree h j n x control (own.addressed ∙ ap (λ (z : ℕ). Some z) e)) other

    as_data : (m : ℕ) (stamp : Option Stamp) → is_control x ≡ false → NotOf h j m (record { bytes = x.bytes; stamp = stamp })
    as_data m stamp e = ap (λ (b : Bool). b && is_the j (addressee t h m x.bytes)) e

    whole : (stamp : Option Stamp) → names_channel (read_etag x.bytes) ≡ true → NotOf h j (device (on t n)) (record { bytes = x.bytes; stamp = stamp })
    whole stamp names = by_control (is_control x) refl
      where
        by_form : (own : IsOwned t h P n x) → is_control x ≡ true → ((n ≡ own.of) × (has_etag_type x.bytes ≡ false)) ⊎ ((n ≢ own.of) × IsTagged t h n x.bytes own.of (plain x.bytes)) → NotOf h j (device (on t n)) (record { bytes = x.bytes; stamp = stamp })
        by_form own control (inl p) = absurd (both_ways (names_channel (read_etag x.bytes)) names (ap names_channel (bare_is x.bytes (let Q : List ℕ → Type 0 = λ z. is_bare_control z ≡ true in subst Q (bare_plain t tree h x.bytes p.1) own.bare)).unread))
        by_form own control (inr p) =
            let k = p.1 in
            let holds : h.port (trunk t (device (on t n))) k.channel ≡ Some (on t own.of) = (let Q : ℕ → Type 0 = λ z. h.port z k.channel ≡ Some (on t own.of) in subst Q (sym (trunk_above t tree n there deep)) k.holds) in
            not_mine t tree h j own.of (device (on t n)) (record { bytes = x.bytes; stamp = stamp })
            (ap (addressee t h (device (on t n))) k.frame ∙ tagged_addressed t tree h round (device (on t n)) own.of k.channel (plain x.bytes) own.bare k.small own.there holds) (not_own own control)

        by_control : (b : Bool) → is_control x ≡ b → NotOf h j (device (on t n)) (record { bytes = x.bytes; stamp = stamp })
        by_control false e = as_data (device (on t n)) stamp e
        by_control true e = by_form (facts.owned e) e (facts.owned e).form

    with_tag : (stamp : Option Stamp) (channel : ℕ) → channel ≡ (far (device (on t n))).tables.own (port_number (on t n)) → (is_bare_control x.bytes && nat_lt 0 channel) ≡ true → NotOf h j (device (on t n)) (record { bytes = tagged x.bytes (channel_tag channel); stamp = stamp })
    with_tag stamp channel e both =
        let p = and_parts (is_bare_control x.bytes) (nat_lt 0 channel) both in
        let b = bare_is x.bytes p.0 in
        let control : is_control x ≡ true = b.control in
        let own = facts.owned control in
        let n_is : n ≢ j = ⊎_elim
        (λ (q : (n ≡ own.of) × (has_etag_type x.bytes ≡ false)). (λ z. not_own own control (sym q.0 ∙ z)))
        (λ (q : (n ≢ own.of) × IsTagged t h n x.bytes own.of (plain x.bytes)). absurd (
        let k = q.1 in
        let read : read_etag x.bytes ≡ Some (channel_tag k.channel) = ap read_etag k.frame ∙ tagged_read t tree h round (plain x.bytes) k.channel own.bare k.small in
        both_ways (has_etag_type x.bytes) (read_typed x.bytes (channel_tag k.channel) read) b.untyped))
        own.form in
        let hangs : HangsOn t n (port_of (device (on t n)) (port_number (on t n))) = (let Q : ℕ → Type 0 = HangsOn t n in subst Q (sym (port_there (on t n))) (hangs_there t n there)) in
        let some : 0 < (far (device (on t n))).tables.own (port_number (on t n)) = (let z : 0 < channel = ltb-true 0 channel p.1 in omega arith) in
        let holds : h.port (trunk t (device (on t n))) channel ≡ Some (on t n) =
        (let Q : ℕ → Type 0 = λ z. h.port (trunk t (device (on t n))) z ≡ Some (on t n) in
        subst Q (sym e) (routes.up (device (on t n)) (port_number (on t n)) n a_there hangs (omega arith) (omega arith) some ∙ ap (λ (z : ℕ). Some z) (port_there (on t n)))) in
        let small : channel < 4095 = (let z : (far (device (on t n))).tables.own (port_number (on t n)) < 4095 = is.channels (port_number (on t n)) in omega arith) in
        not_mine t tree h j n (device (on t n)) (record { bytes = tagged x.bytes (channel_tag channel); stamp = stamp }) (tagged_addressed t tree h round (device (on t n)) n channel x.bytes p.0 small there holds) n_is

    pub other_up : (stamp : Option Stamp) → Each (SentNotOf h j (device (on t n)) stamp) (sent_from_cascade ((far (device (on t n))).tables.own (port_number (on t n))) x.bytes)
    other_up stamp = by_names (names_channel (read_etag x.bytes)) refl
      where
        by_tag : (b : Bool) → (is_bare_control x.bytes && nat_lt 0 ((far (device (on t n))).tables.own (port_number (on t n)))) ≡ b →
            Each (SentNotOf h j (device (on t n)) stamp) (cond b (Rattle.exb_extender.specs.Forwarding.up (tagged x.bytes (channel_tag ((far (device (on t n))).tables.own (port_number (on t n))))) ∷ []) [])
        by_tag true e = ((refl, with_tag stamp ((far (device (on t n))).tables.own (port_number (on t n))) refl e), tt)
        by_tag false e = tt

        by_names : (b : Bool) → names_channel (read_etag x.bytes) ≡ b →
            Each (SentNotOf h j (device (on t n)) stamp) (cond b (Rattle.exb_extender.specs.Forwarding.up x.bytes ∷ []) (cond (is_bare_control x.bytes && nat_lt 0 ((far (device (on t n))).tables.own (port_number (on t n)))) (Rattle.exb_extender.specs.Forwarding.up (tagged x.bytes (channel_tag ((far (device (on t n))).tables.own (port_number (on t n))))) ∷ []) []))
        by_names true e = ((refl, whole stamp e), tt)
        by_names false e = by_tag (is_bare_control x.bytes && nat_lt 0 ((far (device (on t n))).tables.own (port_number (on t n)))) refl

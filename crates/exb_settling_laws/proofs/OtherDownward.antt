-- What goes on downwards of any other word isn't of extender j.
use Rattle.std.proofs.Common.{◌≡◌, ◌≢◌, ⊎_elim, ℕ, ◌≤◌, ◌<◌, ◌==◌, ◌&&◌, ◌||◌, nat_lt, not, Bool, true, false, cond, List, [], ◌∷◌, map, length, Option, Some, None, refl, ap, sym, ◌∙◌, subst, arith}
use Rattle.std.specs.Prelude.{nat_le}
use Rattle.std.proofs.lemmas.Bool.{and_parts, ne_eqb, ltb-true, leb-true}
use Rattle.exb_model.specs.Tree.{Shape, IsTree, HangsOn, device, on, is_extender, trunk}
use Rattle.exb_model.specs.ETags.{Tag, has_etag, fields, read_etag, stripped}
use Rattle.exb_model.specs.ExtenderForwarding.{left_out, bare, emits, emits_tagged}
use Rattle.exb_frame.specs.TagValues.{TagRoundTrip}
use Rattle.exb_extender.specs.declared.sends.Side.TheVariants as side
use Rattle.exb_csp.specs.AllTables.{port_of}
use Rattle.exb_extender.specs.Forwarding.{Sent, forwarding_of, sent_at, emitted, is_bare_control, has_etag_type, channel_tag}
use Rattle.exb_extender.specs.Machine.{ExtenderState, IsExtender}
use Rattle.exb_link.specs.declared.link_frame.Stamp.{Stamp}
use Rattle.exb_link.specs.declared.link_frame.LinkFrame.{LinkFrame}
use Rattle.exb_link.specs.LinkFrames.{is_control}
use Rattle.exb_model.specs.Frames.{is_control_frame}
use Rattle.exb_control_spec.specs.Plans.HeldNumbers.{Held}
use Rattle.exb_world_spec.specs.Runs.Sessions.{Each, IsTagged, Routes, IsNextHop}
use Rattle.exb_world_spec.proofs.Frames.{bare_is, stripped_to_control, tag_fits}
use Rattle.exb_world_spec.proofs.Trunks.{hangs_there, extender_there, trunk_above}
use Rattle.exb_world_spec.proofs.LinkFrames.{each_range}
use Rattle.exb_settling_laws.specs.Streams.{addressee, plain, is_the, is_of}
use Rattle.exb_settling_laws.specs.SettlingFacts.{IsOwned, WordFacts}
use Rattle.exb_settling_laws.proofs.ControlFrameDecoding.{bare_addressed, bare_plain, tagged_read, tagged_addressed, is_mine, not_mine}
use Rattle.exb_settling_laws.proofs.Downward.{port_sent}
use Rattle.exb_settling_laws.proofs.Upward.{NotOf}

both_ways : (b : Bool) → b ≡ true → b ≡ false → ⊥
both_ways b x y = cc

same_tag : (o : Option Tag) (x y : Tag) → o ≡ Some x → o ≡ Some y → x ≡ y
same_tag o x y e f = cc

none_some : (tag : Tag) → None ≡ Some tag → ⊥
none_some tag e = cc

module _ (t : Shape) (tree : IsTree t) (round : TagRoundTrip) (h : Held) (far : ℕ → ExtenderState) (routes : Routes t h far) (j n : ℕ) (there : is_extender t n ≡ true) (is : IsExtender (far n)) (P : ℕ → List ℕ → Type 0) (x : LinkFrame) (facts : WordFacts t h P n x) (other : is_of t h j n x ≡ false) (forwarded : is_bare_control x.bytes ≡ false) (stamp : Option Stamp) where
  -- it goes to a port, and whoever hangs there, the word on that link isn't of j
  pub record SinksNotOf (s : Sent) : Type 0 where
    pub port : ℕ
    pub side_is : s.side ≡ side.Port port
    pub apart : (m : ℕ) → HangsOn t m (port_of n port) → NotOf t tree round h j m (record { bytes = s.bytes; stamp = stamp })

  not_own : (own : IsOwned t h P n x) → is_control x ≡ true → own.of ≢ j
  not_own own control e = both_ways (is_of t h j n x) (is_mine t tree h j n x control (own.addressed ∙ ap (λ (z : ℕ). Some z) e)) other

  tag_of : (own : IsOwned t h P n x) → IsTagged t h n x.bytes own.of (plain x.bytes)
  tag_of own =
      ⊎_elim
      (λ (q : (n ≡ own.of) × (has_etag_type x.bytes ≡ false)). absurd (
      let same : plain x.bytes ≡ x.bytes = bare_plain t tree h x.bytes q.1 in
      both_ways (is_bare_control x.bytes) (let Q : List ℕ → Type 0 = λ z. is_bare_control z ≡ true in subst Q same own.bare) forwarded))
      (λ (q : (n ≢ own.of) × IsTagged t h n x.bytes own.of (plain x.bytes)). q.1)
      own.form

  low : 0 < n
  low = ltb-true 0 n (and_parts (nat_lt 0 n) _ there).0

  same_trunk : (q m : ℕ) → 0 < q → q ≤ (far n).tables.ports → HangsOn t m (port_of n q) → trunk t m ≡ trunk t n
  same_trunk q m first few hangs =
      let is_at : on t m ≡ port_of n q = hangs.at in
      let few64 : (far n).tables.ports ≤ 64 = is.ports.1 in
      let deep : 64 ≤ on t m = omega (arith, low) in
      let dev : device (on t m) ≡ n = omega (arith, low) in
      sym (trunk_above t tree m (extender_there t m (port_of n q) hangs) deep) ∙ ap (trunk t) dev

  -- as it is
  whole : (q m : ℕ) → 0 < q → q ≤ (far n).tables.ports → HangsOn t m (port_of n q) → NotOf t tree round h j m (record { bytes = x.bytes; stamp = stamp })
  whole q m first few hangs = by_control (is_control x) refl
    where
      by_control : (b : Bool) → is_control x ≡ b → NotOf t tree round h j m (record { bytes = x.bytes; stamp = stamp })
      by_control false e = ap (λ (b : Bool). b && is_the j (addressee t h m x.bytes)) e
      by_control true e =
          let own = facts.owned e in
          let k = tag_of own in
          let holds : h.port (trunk t m) k.channel ≡ Some (on t own.of) = (let Q : ℕ → Type 0 = λ z. h.port z k.channel ≡ Some (on t own.of) in subst Q (sym (same_trunk q m first few hangs)) k.holds) in
          not_mine t tree h j own.of m (record { bytes = x.bytes; stamp = stamp }) (ap (addressee t h m) k.frame ∙ tagged_addressed t tree h round m own.of k.channel (plain x.bytes) own.bare k.small own.there holds) (not_own own e)

  long_of : (tag : Tag) → read_etag x.bytes ≡ Some tag → 14 ≤ length x.bytes
  long_of tag e = by_etag (has_etag x.bytes) refl e
    where
      by_etag : (b : Bool) → has_etag x.bytes ≡ b → cond b (Some (fields x.bytes)) None ≡ Some tag → 14 ≤ length x.bytes
      by_etag false f g = absurd (none_some tag g)
      by_etag true f g = let z : 20 ≤ length x.bytes = leb-true 20 (length x.bytes) (and_parts (nat_le 20 (length x.bytes)) _ f).0 in omega arith

  -- without its E-TAG
  without : (q m : ℕ) (tag : Tag) → 0 < q → q ≤ (far n).tables.ports → read_etag x.bytes ≡ Some tag → 0 < (far n).tables.own q → (far n).tables.pair tag.ecid q ≡ true → bare (forwarding_of (far n).tables) q tag ≡ true → HangsOn t m (port_of n q) →
      NotOf t tree round h j m (record { bytes = stripped x.bytes; stamp = stamp })
  without q m tag first few reads own_some pair bare_there hangs = by_control (is_control x) refl
    where
      data_too : is_control x ≡ false → (b : Bool) → is_control_frame (stripped x.bytes) ≡ b → b ≡ false
      data_too e false f = refl
      data_too e true f = absurd (both_ways (is_control x) ((sym (stripped_to_control x.bytes) ∙ f)) e)

      by_control : (b : Bool) → is_control x ≡ b → NotOf t tree round h j m (record { bytes = stripped x.bytes; stamp = stamp })
      by_control false e = ap (λ (b : Bool). b && is_the j (addressee t h m (stripped x.bytes))) (data_too e (is_control_frame (stripped x.bytes)) refl)
      by_control true e =
          let own = facts.owned e in
          let k = tag_of own in
          let read : read_etag x.bytes ≡ Some (channel_tag k.channel) = ap read_etag k.frame ∙ tagged_read t tree h round (plain x.bytes) k.channel own.bare k.small in
          let is_tag : tag ≡ channel_tag k.channel = same_tag (read_etag x.bytes) tag (channel_tag k.channel) reads read in
          let pair_k : (far n).tables.pair k.channel q ≡ true = (let Q : Tag → Type 0 = λ z. (far n).tables.pair z.ecid q ≡ true in subst Q is_tag pair) in
          let bare_k : bare (forwarding_of (far n).tables) q (channel_tag k.channel) ≡ true = (let Q : Tag → Type 0 = λ z. bare (forwarding_of (far n).tables) q z ≡ true in subst Q is_tag bare_there) in
          let few64 : q ≤ 64 = (let z : (far n).tables.ports ≤ 64 = is.ports.1 in omega arith) in
          let hop : IsNextHop t (far n) n q k.channel own.of = routes.down n q k.channel own.of there own.there k.deep k.holds k.some k.small first few64 own_some pair_k in
          let m_is : m ≡ own.of = ⊎_elim
          (λ (z : (port_of n q ≡ on t own.of) × ((far n).tables.own q ≡ k.channel)). tree.alone m own.of (port_of n q) hangs (let Q : ℕ → Type 0 = HangsOn t own.of in subst Q (sym z.0) (hangs_there t own.of own.there)))
          (λ (z : ((far n).tables.cascade q ≡ true) × ((far n).tables.own q ≢ k.channel) × ((c : ℕ) × HangsOn t c (port_of n q))). absurd (
          let plain_there : bare (forwarding_of (far n).tables) q (channel_tag k.channel) ≡ false = ap (λ (b : Bool). not b || (far n).tables.own q == k.channel) z.0 ∙ ne_eqb ((far n).tables.own q) k.channel z.1 in
          both_ways (bare (forwarding_of (far n).tables) q (channel_tag k.channel)) bare_k plain_there))
          hop.hop in
          let stripped_is : stripped x.bytes ≡ plain x.bytes = ap stripped k.frame ∙ (round (plain x.bytes) (channel_tag k.channel) (let z = (bare_is (plain x.bytes) own.bare).long in omega arith) (tag_fits k.channel k.small)).1 in
          not_mine t tree h j own.of m (record { bytes = stripped x.bytes; stamp = stamp })
          (ap (addressee t h m) stripped_is ∙ bare_addressed t tree h m (plain x.bytes) (bare_is (plain x.bytes) own.bare).untyped ∙ ap (λ (z : ℕ). Some z) m_is) (not_own own e)

  pub other_sinks : Each SinksNotOf (emitted (far n).tables side.Up x.bytes)
  unfolding emitted emits
  other_sinks = each_range SinksNotOf (sent_at (far n).tables x.bytes) 1 (far n).tables.ports (λ q first few. at_port q first (omega arith) (read_etag x.bytes) refl)
    where
      at_port : (q : ℕ) → 1 ≤ q → q ≤ (far n).tables.ports → (o : Option Tag) → read_etag x.bytes ≡ o → Each SinksNotOf (map (port_sent q) (emits_tagged (forwarding_of (far n).tables) q x.bytes o))
      at_port q first few None e = tt
      at_port q first few (Some tag) e = by_tests (nat_lt 0 ((far n).tables.own q) && (far n).tables.pair tag.ecid q) refl (left_out (forwarding_of (far n).tables) q tag) (bare (forwarding_of (far n).tables) q tag) refl
        where
          by_tests : (a : Bool) → (nat_lt 0 ((far n).tables.own q) && (far n).tables.pair tag.ecid q) ≡ a → (b c : Bool) → bare (forwarding_of (far n).tables) q tag ≡ c →
              Each SinksNotOf (map (port_sent q) (cond a (cond b [] (cond c (stripped x.bytes ∷ []) (x.bytes ∷ []))) []))
          by_tests false f b c g = tt
          by_tests true f true c g = tt
          by_tests true f false false g = (record { port = q; side_is = refl; apart = λ m hangs. whole q m (omega arith) few hangs }, tt)
          by_tests true f false true g =
              let p = and_parts (nat_lt 0 ((far n).tables.own q)) ((far n).tables.pair tag.ecid q) f in
              (record { port = q; side_is = refl; apart = λ m hangs. without q m tag (omega arith) few e (ltb-true 0 _ p.0) p.1 g hangs }, tt)

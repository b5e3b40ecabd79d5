-- A word with an E-TAG is taken from above: it goes onto the link below, without its E-TAG where that is the last one; and no
-- other word becomes one of this stream.
use Rattle.std.proofs.Common.{◌≡◌, ◌≢◌, inl, inr, ℕ, zero, suc, ◌+◌, ◌≤◌, ◌<◌, ◌==◌, ◌&&◌, ◌||◌, nat_lt, not, Bool, true, false, cond, List, [], ◌∷◌, ◌++◌, map, length, append-nil, Option, Some, refl, ap, sym, ◌∙◌, subst, arith}
use Rattle.std.specs.Prelude.{nat_le}
use Rattle.std.specs.List.{flat_map, range_with_len}
use Rattle.std.proofs.lemmas.Bool.{cases_eq, and_from, eq-eqb, ne_eqb, lt-ltb}
use Rattle.exb_model.specs.Tree.{Shape, IsTree, device, on, is_extender, trunk, port_number}
use Rattle.exb_model.specs.ETags.{Tag, read_etag, tagged, stripped}
use Rattle.exb_model.specs.ExtenderForwarding.{left_out, bare, emits, emits_tagged}
use Rattle.exb_frame.specs.TagValues.{TagRoundTrip}
use Rattle.exb_extender.specs.declared.sends.Side.TheVariants as side
use Rattle.exb_extender.specs.Forwarding.{Sent, forwarding_of, sent_at, emitted, is_bare_control, channel_tag}
use Rattle.exb_extender.specs.Machine.{ExtenderState, IsExtender}
use Rattle.exb_model.specs.Frames.{is_control_frame}
use Rattle.exb_control_spec.specs.Plans.HeldNumbers.{Held}
use Rattle.exb_world_spec.specs.Runs.Sessions.{IsTagged}
use Rattle.exb_world_spec.proofs.Frames.{bare_is}
use Rattle.exb_world_spec.proofs.Trunks.{above_there, trunk_above}
use Rattle.exb_settling_laws.specs.Streams.{addressee, plain}
use Rattle.exb_settling_laws.specs.SettlingFacts.{IsAbove, Hops, IsDeep}
use Rattle.exb_settling_laws.proofs.ControlFrameDecoding.{bare_addressed, bare_plain, tagged_read, tagged_addressed, tagged_plain}
use Rattle.exb_settling_laws.proofs.Upward.{IsForwarded, Hop, hops_at}

-- a frame that has the destination of control frames with an E-TAG has it without
pub control_back : (f : List ℕ) (tag : Tag) → 14 ≤ length f → is_control_frame (tagged f tag) ≡ true → is_control_frame f ≡ true
unfolding is_control_frame
control_back [] tag long e = absurd (omega arith)
control_back (a ∷ []) tag long e = absurd (omega arith)
control_back (a ∷ b ∷ []) tag long e = absurd (omega arith)
control_back (a ∷ b ∷ c ∷ []) tag long e = absurd (omega arith)
control_back (a ∷ b ∷ c ∷ d ∷ []) tag long e = absurd (omega arith)
control_back (a ∷ b ∷ c ∷ d ∷ g ∷ []) tag long e = absurd (omega arith)
control_back (a ∷ b ∷ c ∷ d ∷ g ∷ h ∷ rest) tag long e = e

-- what is sent at a port
abbrev pub port_sent : ℕ → List ℕ → Sent
port_sent q bytes = record { side = side.Port q; bytes = bytes }

-- ---- one port of many
one_of : (F : ℕ → List Sent) (p a k : ℕ) → a ≤ p → p < a + k → ((q : ℕ) → q ≢ p → F q ≡ []) → flat_map F (range_with_len a k) ≡ F p
one_of F p a zero low high none = absurd (omega arith)
one_of F p a (suc k) low high none =
    elim (cases_eq a p) [
      | inl e ↦
          let P : ℕ → Type 0 = λ z. F a ++ flat_map F (range_with_len (a + 1) k) ≡ F z in
          subst P e (ap (λ (xs : List Sent). F a ++ xs) (none_of (a + 1) k (omega arith)) ∙ append-nil (F a))
      | inr e ↦ ap (λ (xs : List Sent). xs ++ flat_map F (range_with_len (a + 1) k)) (none a e) ∙ one_of F p (a + 1) k (omega arith) (omega arith) none
    ]
  where
    none_of : (b m : ℕ) → p < b → flat_map F (range_with_len b m) ≡ []
    none_of b zero l = refl
    none_of b (suc m) l = ap (λ (xs : List Sent). xs ++ flat_map F (range_with_len (b + 1) m)) (none b (λ e. omega arith)) ∙ none_of (b + 1) m (omega arith)

module _ (t : Shape) (tree : IsTree t) (round : TagRoundTrip) where
  -- the next extender on the way down
  pub record IsNext (d n j : ℕ) : Type 0 where
    pub child : ℕ
    pub there : is_extender t child ≡ true
    pub deep : 64 ≤ on t child
    pub hangs : device (on t child) ≡ n
    pub above : IsAbove t d child j

  pub next_of : (d n k : ℕ) → is_extender t k ≡ true → IsAbove t d n k → n ≢ k → IsNext d n k
  next_of zero n k there a other = absurd a
  next_of (suc d) n k there (inl e) other = absurd (other e)
  next_of (suc d) n k there (inr a) other =
      elim (cases_eq (device (on t k)) n) [
        | inl e ↦ record { child = k; there = there; deep = a.0; hangs = e; above = inl refl }
        | inr e ↦
            let r : IsNext d n (device (on t k)) = next_of d n (device (on t k)) (above_there t tree k there a.0) a.1 (λ z. e (sym z)) in
            record { child = r.child; there = r.there; deep = r.deep; hangs = r.hangs; above = inr (a.0, r.above) }
      ]

  -- ---- what goes on downwards of a word of extender j
  pub record GoesOn (h : Held) (far : ℕ → ExtenderState) (j n : ℕ) (f : List ℕ) : Type 0 where
    pub next : IsNext 64 n j
    pub frame : List ℕ
    pub sent : emitted (far n).tables side.Up f ≡ record { side = side.Port (port_number (on t next.child)); bytes = frame } ∷ []
    pub forwarded : IsForwarded t tree round h j next.child f frame

  module _ (h : Held) (far : ℕ → ExtenderState) (j n : ℕ) (j_there : is_extender t j ≡ true) (is : IsExtender (far n)) (f c : List ℕ) (control : is_control_frame f ≡ true) (bare_c : is_bare_control c ≡ true) (k : IsTagged t h n f j c) (d : IsDeep t h far j) (above : IsAbove t 64 n j) (other : n ≢ j) where
    next : IsNext 64 n j
    next = next_of 64 n j j_there above other

    abbrev p : ℕ
    p = port_number (on t next.child)

    read : read_etag f ≡ Some (channel_tag k.channel)
    read = ap read_etag k.frame ∙ tagged_read t tree h round c k.channel bare_c k.small

    stripped_is : stripped f ≡ c
    stripped_is = ap stripped k.frame ∙ (round c (channel_tag k.channel) (let z = (bare_is c bare_c).long in omega arith) (Rattle.exb_world_spec.proofs.Frames.tag_fits k.channel k.small)).1

    plain_f : plain f ≡ c
    plain_f = ap plain k.frame ∙ tagged_plain t tree h round c k.channel bare_c k.small

    -- the tables at its port
    at_port : (last : Bool) → Hops (far n) p k.channel last → emitted (far n).tables side.Up f ≡ port_sent p (cond last (stripped f) f) ∷ []
    unfolding emitted emits
    at_port last hops =
        one_of (sent_at (far n).tables f) p 1 (far n).tables.ports hops.some (let z = hops.port in omega arith) elsewhere ∙ here
      where
        elsewhere : (q : ℕ) → q ≢ p → sent_at (far n).tables f q ≡ []
        elsewhere q other =
            let none : (nat_lt 0 ((far n).tables.own q) && (far n).tables.pair k.channel q) ≡ false = by_false (nat_lt 0 ((far n).tables.own q)) ((far n).tables.pair k.channel q) (hops.pairs q ∙ ne_eqb q p other) in
            ap (λ (o : Option Tag). map (port_sent q) (emits_tagged (forwarding_of (far n).tables) q f o)) read
            ∙ ap (λ (b : Bool). map (port_sent q) (cond b (cond (left_out (forwarding_of (far n).tables) q (channel_tag k.channel)) [] (cond (bare (forwarding_of (far n).tables) q (channel_tag k.channel)) (stripped f ∷ []) (f ∷ []))) [])) none
          where
            by_false : (a b : Bool) → b ≡ false → (a && b) ≡ false
            by_false true b e = e
            by_false false b e = refl

        here : sent_at (far n).tables f p ≡ port_sent p (cond last (stripped f) f) ∷ []
        here =
            let takes_it : (nat_lt 0 ((far n).tables.own p) && (far n).tables.pair k.channel p) ≡ true = and_from (nat_lt 0 ((far n).tables.own p)) _ (lt-ltb 0 _ hops.own) (hops.pairs p ∙ eq-eqb p p refl) in
            let not_out : left_out (forwarding_of (far n).tables) p (channel_tag k.channel) ≡ false = ap (λ (b : Bool). not b && (nat_le 4096 k.channel && (nat_lt 0 0 && (far n).tables.own p == 0))) hops.cascade in
            let bare_is_last : bare (forwarding_of (far n).tables) p (channel_tag k.channel) ≡ last = ap (λ (b : Bool). not b || (far n).tables.own p == k.channel) hops.cascade ∙ hops.ends in
            ap (λ (o : Option Tag). map (port_sent p) (emits_tagged (forwarding_of (far n).tables) p f o)) read
            ∙ ap (λ (b : Bool). map (port_sent p) (cond b (cond (left_out (forwarding_of (far n).tables) p (channel_tag k.channel)) [] (cond (bare (forwarding_of (far n).tables) p (channel_tag k.channel)) (stripped f ∷ []) (f ∷ []))) [])) takes_it
            ∙ ap (λ (b : Bool). map (port_sent p) (cond b [] (cond (bare (forwarding_of (far n).tables) p (channel_tag k.channel)) (stripped f ∷ []) (f ∷ [])))) not_out
            ∙ ap (λ (b : Bool). map (port_sent p) (cond b (stripped f ∷ []) (f ∷ []))) bare_is_last
            ∙ by_last last
          where
            by_last : (b : Bool) → map (port_sent p) (cond b (stripped f ∷ []) (f ∷ [])) ≡ port_sent p (cond b (stripped f) f) ∷ []
            by_last true = refl
            by_last false = refl

    child_trunk : trunk t next.child ≡ trunk t n
    child_trunk = sym (trunk_above t tree next.child next.there next.deep) ∙ ap (trunk t) next.hangs

    same_channel : d.channel ≡ k.channel
    same_channel =
        let up_trunk : trunk t n ≡ trunk t j = way_trunk 64 n j j_there above in
        sym (d.only k.channel (let P : ℕ → Type 0 = λ z. h.port z k.channel ≡ Some (on t j) in subst P up_trunk k.holds))
      where
        way_trunk : (e m i : ℕ) → is_extender t i ≡ true → IsAbove t e m i → trunk t m ≡ trunk t i
        way_trunk zero m i there a = absurd a
        way_trunk (suc e) m i there (inl z) = ap (trunk t) z
        way_trunk (suc e) m i there (inr a) = way_trunk e m (device (on t i)) (above_there t tree i there a.0) a.1 ∙ trunk_above t tree i there a.0

    pub goes_on : GoesOn h far j n f
    goes_on = by_hop (hops_at t tree round far 64 next.child j d.channel true next.deep j_there next.above d.hops)
      where
        at_n : (last : Bool) → Hops (far (device (on t next.child))) (port_number (on t next.child)) d.channel last → Hops (far n) (port_number (on t next.child)) k.channel last
        at_n last hops =
            let P : ℕ → Type 0 = λ z. Hops (far z) (port_number (on t next.child)) d.channel last in
            let Q : ℕ → Type 0 = λ z. Hops (far n) (port_number (on t next.child)) z last in
            subst Q same_channel (subst P next.hangs hops)

        by_hop : Hop t tree round far next.child j d.channel true → GoesOn h far j n f
        by_hop (inl hop) =
            record {
              next = next;
              frame = stripped f;
              sent = at_port true (at_n true hop.1);
              forwarded = record {
                control = (let P : List ℕ → Type 0 = λ z. is_control_frame z ≡ true in subst P (sym stripped_is) (control_back c (channel_tag k.channel) (bare_is c bare_c).long (subst P k.frame control)));
                addressed = ap (addressee t h next.child) stripped_is ∙ bare_addressed t tree h next.child c (bare_is c bare_c).untyped ∙ ap (λ (z : ℕ). Some z) hop.0;
                plain_is = ap plain stripped_is ∙ bare_plain t tree h c (bare_is c bare_c).untyped ∙ sym plain_f;
              };
            }
        by_hop (inr hop) =
            record {
              next = next;
              frame = f;
              sent = at_port false (at_n false hop.1);
              forwarded = record {
                control = control;
                addressed = ap (addressee t h next.child) k.frame ∙ tagged_addressed t tree h round next.child j k.channel c bare_c k.small j_there (let P : ℕ → Type 0 = λ z. h.port z k.channel ≡ Some (on t j) in subst P (sym child_trunk) k.holds);
                plain_is = refl;
              };
            }

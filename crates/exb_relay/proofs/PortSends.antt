-- The sends at one bridge port, by the parts of which they are made.
use Rattle.std.proofs.Common.{◌≡◌, ◌≢◌, ℕ, zero, suc, ◌+◌, ◌<◌, ◌==◌, ◌&&◌, ◌++◌, cond, Bool, true, false, not, List, [], ◌∷◌, Option, Some, None, refl, sym, ◌∙◌, ap, arith, inl, inr, eq-eqb}
use Rattle.std.specs.List.{flat_map, range_with_len}
use Rattle.std.proofs.lemmas.Bool.{cases_eq, cases_lt, cases_Bool, ne_eqb, lt-ltb, le-ltb}
use Rattle.exb_model.specs.declared.vlan.Kind.{Kind}
use Rattle.exb_model.specs.declared.vlan.Kind.TheVariants.{Tagged, Untagged}
use Rattle.exb_model.specs.declared.port_set.PortSet.{PortSet}
use Rattle.exb_model.specs.Ports.{port_in, below}
use Rattle.exb_model.specs.Frames.{destination}
use Rattle.exb_model.specs.Tree.{Shape, IsTree, device, trunk, is_external, is_under}
use Rattle.exb_model.specs.Configuration.{Bridge}
use Rattle.exb_model.specs.Learning.{Look, passes}
use Rattle.exb_model.specs.Targets.{target, both_isolated}
use Rattle.exb_model.specs.Refusals.{is_kind, is_empty_set}
use Rattle.exb_model.proofs.PortLemmas.{filter_below-agree}
use Rattle.exb_frame.specs.declared.etag.ETag.{ETag}
use Rattle.exb_relay.specs.declared.choice.EgressChoice.{EgressChoice}
use Rattle.exb_relay.specs.declared.choice.EgressChoice.TheVariants as chosen
use Rattle.exb_relay.specs.declared.send.SendTo.{SendTo}
use Rattle.exb_relay.specs.declared.source.Source.{Source}
use Rattle.exb_model.specs.Numbers.{Numbers}
use Rattle.exb_relay.specs.Choices.{choice, is_chosen_in}
use Rattle.exb_relay.specs.Sends.{etag_to, words_to, set_for, group_word, group_words, channel_word, words_down, local_send, sends_at, sends_in, sends_of}
use Rattle.exb_relay.specs.SendsBySource.{tag_for, words_for, IsSource, kind_among, kind_at, set_below, set_word, member_in, member_sends, member_list, port_sends, learned_sends}
use Rattle.exb_relay.proofs.Lists.{only_one, no_one}
use Rattle.exb_relay.proofs.PortsBelow.{under_home, under_other, none_low, home_low, extended_from}
use Rattle.exb_relay.proofs.TargetChoice.{target_of, target_is}
use Rattle.exb_relay.proofs.FrameSets.{hears, set_is}

-- ---- tests
local_is : (pr s h c : Bool) (o : Option Kind) →
    cond s None (kind_among (λ q. (pr && c && is_kind Tagged o) && h) (λ q. (pr && c && is_kind Untagged o) && h) 0) ≡ cond (pr && not s && h && c) o None
local_is pr s h c None = grind arith
local_is pr s h c (Some Tagged) = grind arith
local_is pr s h c (Some Untagged) = grind arith

part_is : (u pr c i h : Bool) → (((pr && c && i) && h) && u) ≡ ((u && pr && c && i) && h)
part_is u pr c i h = grind arith

-- ---- one source
module _ (t : Shape) (m : Numbers) (p : ℕ) (f : List ℕ) (s : Source) (is : IsSource t m p f s) where
  tag_same : (k e : ℕ) → tag_for s k e ≡ etag_to t m p f k e
  tag_same k e i = record { pcp = is.pcp i; dei = is.dei i; ingress = is.ingress k i; ecid = e }

  words_same : (k : ℕ) (kind : Kind) (o : Option ℕ) → words_for s k kind o ≡ words_to t m p f k kind o
  words_same k kind None = refl
  words_same k kind (Some e) = ap (λ (tag : ETag). record { bridge_port = k + 1; tag = Some tag; kind = kind } ∷ []) (tag_same k e)

  pub set_word_same : (k : ℕ) (kind : Kind) (set : List ℕ) → set_word m s k kind set ≡ group_word t m p f k kind set
  set_word_same k kind set =
      elim (cases_Bool (is_empty_set set)) [
        | inl e ↦ rw e refl
        | inr e ↦ rw e (words_same k kind (m.group k set))
      ]

  module _ (b : Bridge) (look : Look) (v : ℕ) (there : b.present p ≡ true) (pass : passes b p f ≡ Some v) where
    abbrev pub Kept : (ℕ → Bool) → (ℕ → Bool) → Kind → Type 0
    Kept test am kind = (q : ℕ) → test q ≡ ((b.present q && am q && is_kind kind (b.member v q)) && not (both_isolated b p q))

    -- the ports of a kept set below a bridge port
    set_same : (among am test : ℕ → Bool) (k : ℕ) (kind : Kind) → ((q : ℕ) → q < 4160 → am q ≡ among q) → Kept test am kind →
        set_below t k test ≡ set_for t b p v among k kind
    set_same among am test k kind same kept =
        filter_below-agree _ _ 4160 (λ q l. rw (kept q, same q l) (part_is (is_under t k q) (b.present q) (among q) (is_kind kind (b.member v q)) (hears b p q))) ∙
        sym (set_is t b p v among k kind)

    local_same : (c : EgressChoice) (am tagged untagged : ℕ → Bool) (k : ℕ) → k < 64 → ((q : ℕ) → q < 4160 → am q ≡ is_chosen_in c q) → Kept tagged am Tagged → Kept untagged am Untagged →
        cond (k == s.port) None (kind_among tagged untagged k) ≡ target_of b p v c k
    local_same c am tagged untagged k low same kt ku =
        rw (is.port, kt k, ku k, same k (omega (arith, low))) (local_is (b.present k) (k == p) (hears b p k) (is_chosen_in c k) (b.member v k))

    -- the sends for chosen members
    pub member_step : (c : EgressChoice) (among am tagged untagged : ℕ → Bool) (k : ℕ) → k < 64 →
        choice b look v (destination f) ≡ c → ((q : ℕ) → is_chosen_in c q ≡ among q) → ((j : ℕ) → words_down t b look m p f v c j ≡ group_words t b m p f v among j) →
        ((q : ℕ) → q < 4160 → am q ≡ among q) → Kept tagged am Tagged → Kept untagged am Untagged →
        member_sends t m s tagged untagged k ≡ sends_at t b look m p f v k
    member_step c among am tagged untagged k low is_choice chosen_is down same kt ku =
        let target_here : target b look p f k ≡ target_of b p v c k = target_is b look p f v k there pass ∙ ap (λ (x : EgressChoice). target_of b p v x k) is_choice in
        let locals : cond (k == s.port) None (kind_among tagged untagged k) ≡ target b look p f k =
        local_same c am tagged untagged k low (λ q l. same q l ∙ sym (chosen_is q)) kt ku ∙ sym target_here in
        let words : words_down t b look m p f v (choice b look v (destination f)) k ≡ group_words t b m p f v among k = ap (λ (x : EgressChoice). words_down t b look m p f v x k) is_choice ∙ down k in
        rw (
          words,
          locals,
          set_word_same k Tagged (set_below t k tagged),
          set_word_same k Untagged (set_below t k untagged),
          set_same among am tagged k Tagged same kt,
          set_same among am untagged k Untagged same ku,
        ) refl

    -- ---- the sends for a learned port
    module _ (r : ℕ) (valid : IsTree t) (external : (q : ℕ) → b.present q ≡ true → is_external t q ≡ true) (is_choice : choice b look v (destination f) ≡ chosen.Learned r) where
      learned_target : (q : ℕ) → target b look p f q ≡ target_of b p v (chosen.Learned r) q
      learned_target q = target_is b look p f v q there pass ∙ ap (λ (x : EgressChoice). target_of b p v x q) is_choice

      at_port : target b look p f r ≡ kind_at b p v r
      at_port = learned_target r ∙ rw (eq-eqb r r refl) (drop_true (b.present r && not (r == p) && not (both_isolated b p r)) (b.member v r))
        where
          drop_true : (c : Bool) (o : Option Kind) → cond (c && true) o None ≡ cond c o None
          drop_true true o = refl
          drop_true false o = refl

      elsewhere : (q : ℕ) → q ≢ r → target b look p f q ≡ None
      elsewhere q n = learned_target q ∙ rw (ne_eqb q r n) (no_kind (b.present q && not (q == p) && not (both_isolated b p q)) (b.member v q))
        where
          no_kind : (c : Bool) (o : Option Kind) → cond (c && false) o None ≡ None
          no_kind true o = refl
          no_kind false o = refl

      step : (k : ℕ) → sends_at t b look m p f v k ≡ local_send k (target b look p f k) ++ cond (is_under t k r) (channel_word t m p f k r (kind_at b p v r)) []
      step k = rw (is_choice, at_port) refl

      nothing : (c : Bool) → cond {A = List SendTo} c [] [] ≡ []
      nothing true = refl
      nothing false = refl

      -- where the learned port is no target nothing is sent
      pub no_kind_no_send : kind_at b p v r ≡ None → sends_in t b look m p f (Some v) ≡ []
      no_kind_no_send none = no_one (sends_at t b look m p f v) 64 (λ k low. step k ∙ (rw (none, nowhere k) (nothing (is_under t k r))))
        where
          nowhere : (k : ℕ) → target b look p f k ≡ None
          nowhere k = elim (cases_eq k r) [ inl e ↦ ap (target b look p f) e ∙ (at_port ∙ none) | inr n ↦ elsewhere k n ]

      -- else it alone gets the frame
      pub port_step : (kind : Kind) → kind_at b p v r ≡ Some kind → sends_in t b look m p f (Some v) ≡ port_sends t m s r kind
      port_step kind some =
          elim (cases_lt r 64) [
            | inl low ↦
                rw (lt-ltb r 64 low) (
                only_one (sends_at t b look m p f v) 64 r (λ k l d. step k ∙ (rw (elsewhere k d, none_low t k r low) refl)) low ∙
                (step r ∙ (rw (at_port, some, none_low t r r low) refl)))
            | inr high ↦
                let deep = extended_from t r high (external r present) in
                let j = trunk t (device r) in
                let home = home_low t valid r deep in
                rw (le-ltb r 64 high) (
                only_one (sends_at t b look m p f v) 64 j (λ k l d. step k ∙ (rw (elsewhere k (λ e. omega (arith, l, e, high)), under_other t k r d) refl)) home ∙
                (step j ∙ (rw (elsewhere j (λ e. omega (arith, home, e, high)), under_home t r deep, some) (sym (words_same j kind (m.channel j r))))))
          ]
        where
          present : b.present r ≡ true
          present = by_test (b.present r) (not (r == p)) (not (both_isolated b p r)) some
            where
              by_test : (x y z : Bool) → cond (x && y && z) (b.member v r) None ≡ Some kind → x ≡ true
              by_test true y z e = refl
              by_test false y z e = absurd (let w : ◌≡◌ {A = Option Kind} None (Some kind) = e in cc)

-- lists of lists that agree
flat_range : {X : Type 0} (f g : ℕ → List X) (a n : ℕ) → ((k : ℕ) → k < a + n → f k ≡ g k) → flat_map f (range_with_len a n) ≡ flat_map g (range_with_len a n)
flat_range f g a zero h = refl
flat_range f g a (suc n) h = rw (h a (omega arith), flat_range f g (a + 1) n (λ k l. h k (omega (arith, l)))) refl

pub flat_agree : {X : Type 0} (f g : ℕ → List X) (n : ℕ) → ((k : ℕ) → k < n → f k ≡ g k) → flat_map f (below n) ≡ flat_map g (below n)
unfolding below
flat_agree f g n h = flat_range f g 0 n (λ k l. h k (omega (arith, l)))

-- ---- all sends of a frame that passes
module _ (t : Shape) (b : Bridge) (look : Look) (m : Numbers) (f : List ℕ) (v : ℕ) (s : Source) (is : IsSource t m s.port f s) (there : b.present s.port ≡ true) (pass : passes b s.port f ≡ Some v) where
  members_all : (c : EgressChoice) (among am : ℕ → Bool) → choice b look v (destination f) ≡ c → ((q : ℕ) → is_chosen_in c q ≡ among q) →
      ((j : ℕ) → words_down t b look m s.port f v c j ≡ group_words t b m s.port f v among j) → ((q : ℕ) → q < 4160 → am q ≡ among q) →
      member_list t m s (member_in b s.port v am Tagged) (member_in b s.port v am Untagged) ≡ sends_in t b look m s.port f (Some v)
  unfolding member_list
  members_all c among am is_choice chosen_is down same =
      flat_agree _ _ 64 (λ k low. member_step t m s.port f s is b look v there pass c among am _ _ k low is_choice chosen_is down same (λ q. refl) (λ q. refl))

  pub all_members : (am : ℕ → Bool) → choice b look v (destination f) ≡ chosen.All → ((q : ℕ) → q < 4160 → am q ≡ true) →
      member_list t m s (member_in b s.port v am Tagged) (member_in b s.port v am Untagged) ≡ sends_in t b look m s.port f (Some v)
  all_members am is_choice every = members_all chosen.All (λ q. true) am is_choice (λ q. refl) (λ j. refl) every

  pub listed_members : (ports : PortSet) → choice b look v (destination f) ≡ chosen.Listed ports →
      member_list t m s (member_in b s.port v (port_in ports) Tagged) (member_in b s.port v (port_in ports) Untagged) ≡ sends_in t b look m s.port f (Some v)
  listed_members ports is_choice = members_all (chosen.Listed ports) (port_in ports) (port_in ports) is_choice (λ q. refl) (λ j. refl) (λ q l. refl)

  pub learned_member : (r : ℕ) → IsTree t → ((q : ℕ) → b.present q ≡ true → is_external t q ≡ true) → choice b look v (destination f) ≡ chosen.Learned r →
      learned_sends t m s r (kind_at b s.port v r) ≡ sends_in t b look m s.port f (Some v)
  learned_member r valid external is_choice = by_kind (kind_at b s.port v r) refl
    where
      by_kind : (o : Option Kind) → kind_at b s.port v r ≡ o → learned_sends t m s r o ≡ sends_in t b look m s.port f (Some v)
      by_kind None e = sym (no_kind_no_send t m s.port f s is b look v there pass r valid external is_choice e)
      by_kind (Some kind) e = sym (port_step t m s.port f s is b look v there pass r valid external is_choice kind e)

pub sends_from : (t : Shape) (b : Bridge) (look : Look) (m : Numbers) (p : ℕ) (f : List ℕ) (o : Option ℕ) → passes b p f ≡ o → sends_in t b look m p f o ≡ sends_of t b look m p f
unfolding sends_of
sends_from t b look m p f o e = ap (sends_in t b look m p f) (sym e)

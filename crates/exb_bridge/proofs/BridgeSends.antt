-- What the bridge sends for a frame: it can be sent, and it is the same by the numbers that are held and by the spaces.
use Rattle.std.proofs.Common.{◌≡◌, ℕ, ◌+◌, ◌<◌, ◌++◌, cond, if◌then◌else◌, find, bytes_eq, Bool, true, false, List, [], ◌∷◌, Option, Some, None, refl, sym, ap, subst, ◌∙◌, arith, inl, inr}
use Rattle.std.specs.List.{All, filter, flat_map, range_with_len}
use Rattle.std.proofs.lemmas.List.Elements.{All-nil, All-cons, All-head, All-tail, All-append}
use Rattle.std.proofs.lemmas.List.FromFn.{length-range_with_len, get_or-range_with_len}
use Rattle.std.proofs.lemmas.Bool.{cases_Bool, and_from, false≢true, lt-ltb}
use mathlib.Core.Path.{fun_ext}
use Rattle.exb_model.specs.declared.vlan.Kind.{Kind}
use Rattle.exb_model.specs.declared.vlan.Kind.TheVariants.{Tagged, Untagged}
use Rattle.exb_model.specs.Ports.{below, all_ports, port_in}
use Rattle.exb_model.specs.Frames.{destination, IsBytes}
use Rattle.exb_model.specs.Tree.{Shape, IsTree, device, trunk, is_under}
use Rattle.exb_model.specs.Configuration.{Bridge}
use Rattle.exb_model.specs.Learning.{Look, passes}
use Rattle.exb_model.specs.Targets.{target}
use Rattle.exb_model.specs.Refusals.{Source, part, without_isolated, is_empty_set, bridge_ports}
use Rattle.exb_relay.specs.declared.choice.EgressChoice.{EgressChoice}
use Rattle.exb_relay.specs.declared.choice.EgressChoice.TheVariants as chosen
use Rattle.exb_relay.specs.declared.send.SendTo.{SendTo}
use Rattle.exb_relay.specs.Choices.{choice}
use Rattle.exb_model.specs.Numbers.{Numbers, IsNumbering}
use Rattle.exb_relay.specs.Spaces.{numbers_of}
use Rattle.exb_relay.specs.Sends.{or_zero, ingress_at, etag_to, word_to, words_to, set_for, group_word, group_words, channel_word, words_down, local_send, sends_at, sends_in, sends_of}
use Rattle.exb_relay.proofs.PortsBelow.{under_extended, under_trunk, home_low, under_cascade}
use Rattle.exb_relay.proofs.TaggedFrames.{tag_fits}
use Rattle.exb_numbers.specs.Channels.{channel_of}
use Rattle.exb_numbers.specs.Groups.{group_of}
use Rattle.exb_numbers.specs.Spaces.{Spaces}
use Rattle.exb_model.specs.LowestFree.{is_port}
use Rattle.exb_control_spec.specs.Plans.HeldNumbers.{Held, channel_in, group_in, in_spaces, is_place, numbers_in}
use Rattle.exb_plan.specs.SpaceContents.{held_by}
use Rattle.exb_bridge.specs.Sends.{CanSend}

-- ---- it can be sent
module _ (t : Shape) (b : Bridge) (look : Look) (m : Numbers) (numb : IsNumbering m) (p : ℕ) (f : List ℕ) (bytes : IsBytes f) where
  can_words : (k : ℕ) (kind : Kind) (o : Option ℕ) → k < 64 → ((n : ℕ) → o ≡ Some n → n < 16384) → All CanSend (words_to t m p f k kind o)
  can_words k kind None low small = All-nil CanSend
  can_words k kind (Some n) low small =
      All-cons CanSend (word_to k (etag_to t m p f k n) kind) [] (record { first = omega arith; last = omega (arith, low); fits = tag_fits t b m numb p f bytes k n (small n refl) }) (All-nil CanSend)

  can_group : (v k : ℕ) (among : ℕ → Bool) (kind : Kind) → k < 64 → All CanSend (group_word t m p f k kind (set_for t b p v among k kind))
  can_group v k among kind low = by_empty (is_empty_set set) (words_to t m p f k kind (m.group k set)) (can_words k kind (m.group k set) low (λ n is. numb.fits k n set is))
    where
      set : List ℕ
      set = set_for t b p v among k kind

      by_empty : (e : Bool) (xs : List SendTo) → All CanSend xs → All CanSend (cond e [] xs)
      by_empty true xs all = All-nil CanSend
      by_empty false xs all = all

  can_groups : (v k : ℕ) (among : ℕ → Bool) → k < 64 → All CanSend (group_words t b m p f v among k)
  can_groups v k among low = All-append CanSend _ _ (can_group v k among Tagged low) (can_group v k among Untagged low)

  can_channel : (k r : ℕ) (o : Option Kind) → k < 64 → All CanSend (channel_word t m p f k r o)
  can_channel k r None low = All-nil CanSend
  can_channel k r (Some kind) low = can_words k kind (m.channel k r) low (λ n is. let s = numb.small k r n is in omega (arith, s))

  can_down : (v k : ℕ) (c : EgressChoice) → k < 64 → All CanSend (words_down t b look m p f v c k)
  can_down v k chosen.All low = can_groups v k (λ q. true) low
  can_down v k (chosen.Listed ports) low = can_groups v k (port_in ports) low
  can_down v k (chosen.Learned r) low = by_under (is_under t k r) (channel_word t m p f k r (target b look p f r)) (can_channel k r (target b look p f r) low)
    where
      by_under : (e : Bool) (xs : List SendTo) → All CanSend xs → All CanSend (cond e xs [])
      by_under true xs all = all
      by_under false xs all = All-nil CanSend

  can_local : (k : ℕ) (o : Option Kind) → k < 64 → All CanSend (local_send k o)
  can_local k None low = All-nil CanSend
  can_local k (Some kind) low = All-cons CanSend (record { bridge_port = k + 1; tag = None; kind = kind }) [] (record { first = omega arith; last = omega (arith, low); fits = tt }) (All-nil CanSend)

  can_at : (v k : ℕ) → k < 64 → All CanSend (sends_at t b look m p f v k)
  can_at v k low = All-append CanSend _ _ (can_local k (target b look p f k) low) (can_down v k (choice b look v (destination f)) low)

  can_each : (v : ℕ) (ks : List ℕ) → All (λ k. k < 64) ks → All CanSend (flat_map (sends_at t b look m p f v) ks)
  can_each v [] low = All-nil CanSend
  can_each v (k ∷ ks) low = All-append CanSend _ _ (can_at v k (All-head (λ j. j < 64) k ks low)) (can_each v ks (All-tail (λ j. j < 64) k ks low))

  below_low : (n : ℕ) → All (λ k. k < n) (below n)
  unfolding below
  below_low n k d within =
      let long = length-range_with_len 0 n in
      let here : k < n = omega (arith, within, long) in
      let is = get_or-range_with_len 0 n k d here in
      omega (arith, is, here)

  pub can_all : All CanSend (sends_of t b look m p f)
  unfolding sends_of
  can_all = by_vid (passes b p f)
    where
      by_vid : (o : Option ℕ) → All CanSend (sends_in t b look m p f o)
      by_vid None = All-nil CanSend
      by_vid (Some v) = can_each v bridge_ports (below_low 64)

-- ---- numbers that agree at a bridge port
module _ (t : Shape) (b : Bridge) (look : Look) (p : ℕ) (f : List ℕ) (m n : Numbers) (v k : ℕ) (channels : m.channel k ≡ n.channel k) (groups : m.group k ≡ n.group k) where
  ingress_same : ingress_at t m p k ≡ ingress_at t n p k
  ingress_same = ap (λ (c : ℕ → Option ℕ). if is_under t k p then or_zero (c p) else 0) channels

  words_same : (kind : Kind) (o : Option ℕ) → words_to t m p f k kind o ≡ words_to t n p f k kind o
  words_same kind None = refl
  words_same kind (Some number) = ap (λ i. word_to k (record (etag_to t m p f k number) { ingress = i }) kind ∷ []) ingress_same

  group_same : (kind : Kind) (set : List ℕ) → group_word t m p f k kind set ≡ group_word t n p f k kind set
  group_same kind set =
      ap (λ (ws : List SendTo). if is_empty_set set then [] else ws)
      (words_same kind (m.group k set) ∙ ap (λ (g : List ℕ → Option ℕ). words_to t n p f k kind (g set)) groups)

  groups_same : (among : ℕ → Bool) → group_words t b m p f v among k ≡ group_words t b n p f v among k
  groups_same among =
      ap (λ (ws : List SendTo). ws ++ group_word t m p f k Untagged (set_for t b p v among k Untagged)) (group_same Tagged (set_for t b p v among k Tagged))
      ∙ ap (λ (ws : List SendTo). group_word t n p f k Tagged (set_for t b p v among k Tagged) ++ ws) (group_same Untagged (set_for t b p v among k Untagged))

  channel_same : (r : ℕ) (o : Option Kind) → channel_word t m p f k r o ≡ channel_word t n p f k r o
  channel_same r None = refl
  channel_same r (Some kind) = words_same kind (m.channel k r) ∙ ap (λ (c : ℕ → Option ℕ). words_to t n p f k kind (c r)) channels

  down_same : (c : EgressChoice) → words_down t b look m p f v c k ≡ words_down t b look n p f v c k
  down_same chosen.All = groups_same (λ q. true)
  down_same (chosen.Listed ports) = groups_same (port_in ports)
  down_same (chosen.Learned r) = ap (λ (ws : List SendTo). if is_under t k r then ws else []) (channel_same r (target b look p f r))

-- ---- nothing goes down where no port is below
none_of : (test : ℕ → Bool) (xs : List ℕ) → ((q : ℕ) → test q ≡ false) → filter test xs ≡ []
none_of test [] none = refl
none_of test (x ∷ xs) none = rw (none x) (none_of test xs none)

module _ (t : Shape) (b : Bridge) (look : Look) (p : ℕ) (f : List ℕ) (m : Numbers) (v k : ℕ) (bare : (q : ℕ) → is_under t k q ≡ false) where
  part_none : (x : Source) → part t k b x ≡ []
  unfolding part
  part_none x = none_of _ all_ports (λ q. rw (bare q) refl)

  set_none : (among : ℕ → Bool) (kind : Kind) → set_for t b p v among k kind ≡ []
  unfolding set_for
  set_none among kind = by_isolated (b.rule p).isolated
    where
      none : part t k b (record { vid = v; kind = kind; among = among }) ≡ []
      none = part_none (record { vid = v; kind = kind; among = among })

      by_isolated : (i : Bool) →
          (if i then without_isolated b (part t k b (record { vid = v; kind = kind; among = among })) else part t k b (record { vid = v; kind = kind; among = among })) ≡ []
      by_isolated true = ap (without_isolated b) none
      by_isolated false = none

  group_none : (among : ℕ → Bool) (kind : Kind) → group_word t m p f k kind (set_for t b p v among k kind) ≡ []
  group_none among kind = ap (group_word t m p f k kind) (set_none among kind)

  groups_none : (among : ℕ → Bool) → group_words t b m p f v among k ≡ []
  groups_none among = rw (group_none among Tagged, group_none among Untagged) refl

  down_none : (c : EgressChoice) → words_down t b look m p f v c k ≡ []
  down_none chosen.All = groups_none (λ q. true)
  down_none (chosen.Listed ports) = groups_none (port_in ports)
  down_none (chosen.Learned r) = ap (λ (e : Bool). if e then channel_word t m p f k r (target b look p f r) else []) (bare r)

-- ---- the spaces, and what they hold
module _ (t : Shape) (tree : IsTree t) (s : Spaces) where
  abbrev pub held : Held
  held = in_spaces t (held_by s)

  -- a port is under a cascade port of the bridge alone
  bare_at : (k : ℕ) → is_place t k ≡ false → (q : ℕ) → is_under t k q ≡ false
  bare_at k out q =
      elim (cases_Bool (is_under t k q)) [
        | inr e ↦ e
        | inl e ↦ absurd (false≢true (sym out ∙ placed e))
      ]
    where
      placed : is_under t k q ≡ true → is_place t k ≡ true
      placed e =
          let low : trunk t (device q) < 64 = home_low t tree q (under_extended t k q e) in
          and_from _ _ (lt-ltb k 64 (subst (λ j. j < 64) (under_trunk t k q e) low)) (under_cascade t tree k q e)

  by_place : {A : Type 0} (e : Bool) (x y : A) → e ≡ true → cond e x y ≡ x
  by_place true x y is = refl
  by_place false x y is = absurd (false≢true is)

  held_channels : (k : ℕ) → is_place t k ≡ true → (numbers_in held).channel k ≡ (numbers_of s).channel k
  unfolding channel_in channel_of
  held_channels k place =
      fun_ext (λ p. ap (λ (port : ℕ → Option ℕ). find (λ c. is_port p (port c)) (range_with_len 1 4094)) (fun_ext (λ c. by_place (is_place t k) ((held_by s).port k c) None place)))

  held_groups : (k : ℕ) → is_place t k ≡ true → (numbers_in held).group k ≡ (numbers_of s).group k
  unfolding group_in group_of
  held_groups k place =
      fun_ext (λ set. ap (λ (sets : ℕ → List ℕ). if is_empty_set set then None else find (λ g. bytes_eq set (sets g)) (range_with_len 4096 12288))
      (fun_ext (λ g. by_place (is_place t k) ((held_by s).set k g) [] place)))

  module _ (b : Bridge) (look : Look) (p : ℕ) (f : List ℕ) where
    down_as : (v k : ℕ) (c : EgressChoice) → words_down t b look (numbers_in held) p f v c k ≡ words_down t b look (numbers_of s) p f v c k
    down_as v k c =
        elim (cases_Bool (is_place t k)) [
          | inl place ↦ down_same t b look p f (numbers_in held) (numbers_of s) v k (held_channels k place) (held_groups k place) c
          | inr out ↦ down_none t b look p f (numbers_in held) v k (bare_at k out) c ∙ sym (down_none t b look p f (numbers_of s) v k (bare_at k out) c)
        ]

    at_as : (v k : ℕ) → sends_at t b look (numbers_in held) p f v k ≡ sends_at t b look (numbers_of s) p f v k
    at_as v k = ap (λ (ws : List SendTo). local_send k (target b look p f k) ++ ws) (down_as v k (choice b look v (destination f)))

    pub sends_as : sends_of t b look (numbers_in held) p f ≡ sends_of t b look (numbers_of s) p f
    unfolding sends_of
    sends_as = by_vid (passes b p f)
      where
        by_vid : (o : Option ℕ) → sends_in t b look (numbers_in held) p f o ≡ sends_in t b look (numbers_of s) p f o
        by_vid None = refl
        by_vid (Some v) = ap (λ (g : ℕ → List SendTo). flat_map g bridge_ports) (fun_ext (λ k. at_as v k))

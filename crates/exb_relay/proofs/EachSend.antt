-- What each send is.
use Rattle.std.proofs.Common.{◌≡◌, ◌≢◌, ℕ, zero, suc, ◌+◌, ◌<◌, ◌≤◌, ◌==◌, ◌++◌, cond, Bool, true, false, List, [], ◌∷◌, length, Option, Some, None, filter, refl, sym, ◌∙◌, ap, subst, arith, inl, inr, ◌⊎◌, eq-eqb, length-append}
use Rattle.std.specs.Prelude.{count_by}
use Rattle.std.specs.List.{flat_map, All}
use Rattle.std.proofs.lemmas.List.{append-nil}
use Rattle.std.proofs.lemmas.List.Elements.{All-nil, All-append}
use Rattle.std.proofs.lemmas.List.Sums.{length-filter}
use Rattle.std.proofs.lemmas.Grind.{flat_map-append}
use Rattle.std.proofs.lemmas.Bool.{cases_eq, cases_lt, cases_Bool, ne_eqb, false≢true, false_from_ne_true}
use Rattle.exb_model.specs.declared.vlan.Kind.{Kind}
use Rattle.exb_model.specs.declared.vlan.Kind.TheVariants.{Tagged, Untagged}
use Rattle.exb_model.specs.Ports.{port_in}
use Rattle.exb_model.specs.Frames.{destination, IsBytes}
use Rattle.exb_model.specs.Tree.{Shape, IsTree, is_cascade, is_external, is_under}
use Rattle.exb_model.specs.Configuration.{Bridge}
use Rattle.exb_model.specs.Learning.{Look, passes}
use Rattle.exb_model.specs.Targets.{target}
use Rattle.exb_model.specs.Refusals.{is_empty_set, bridge_ports}
use Rattle.exb_frame.specs.declared.etag.ETag.{ETag}
use Rattle.exb_relay.specs.declared.choice.EgressChoice.{EgressChoice}
use Rattle.exb_relay.specs.declared.choice.EgressChoice.TheVariants as chosen
use Rattle.exb_relay.specs.declared.send.SendTo.{SendTo}
use Rattle.exb_model.specs.Numbers.{Numbers, IsReady, IsNumbering, has_set}
use Rattle.exb_relay.specs.Choices.{choice}
use Rattle.exb_relay.specs.Sends.{etag_to, word_to, words_to, set_for, group_word, group_words, channel_word, words_down, local_send, sends_at, sends_in, sends_of}
use Rattle.exb_config.specs.Pvids.{HasPvids}
use Rattle.exb_relay.specs.Laws.{listed_kind, local_kind, local_kinds, has_tag, words_of, IsAt}
use Rattle.exb_relay.proofs.Lists.{filter_flat, flat_flat, only_one, no_one, each_below}
use Rattle.exb_relay.proofs.PortsBelow.{under_trunk, none_under, under_cascade, under_extended, home_low, external_free}
use Rattle.exb_relay.proofs.TargetChoice.{target_is, target_says}
use Rattle.exb_relay.proofs.FrameSets.{set_there, IsSource, Fits, choice_fits}
use Rattle.exb_relay.proofs.TaggedFrames.{some_of, tag_fits}
use Rattle.exb_relay.proofs.TreeEgress.{no_set}
use Rattle.exb_relay.proofs.FlatOutput.{passes_vid}

-- ---- lists
all_one : {X : Type 0} (P : X → Type 0) (x : X) → P x → All P (x ∷ [])
all_one P x h zero d l = h
all_one P x h (suc k) d l = absurd (omega (arith, l))

none_pass : {X : Type 0} (test : X → Bool) (xs : List X) → All (λ x. test x ≡ false) xs → filter test xs ≡ []
none_pass test [] h = refl
none_pass test (x ∷ xs) h = rw (h 0 x (omega arith)) (none_pass test xs (λ k d l. h (suc k) d (omega (arith, l))))

all_pass : {X : Type 0} (test : X → Bool) (xs : List X) → All (λ x. test x ≡ true) xs → filter test xs ≡ xs
all_pass test [] h = refl
all_pass test (x ∷ xs) h = rw (h 0 x (omega arith)) (ap (λ z. x ∷ z) (all_pass test xs (λ k d l. h (suc k) d (omega (arith, l)))))

filter_append : {X : Type 0} (test : X → Bool) (ys zs : List X) → filter test (ys ++ zs) ≡ filter test ys ++ filter test zs
filter_append test [] zs = refl
filter_append test (y ∷ ys) zs =
    elim (cases_Bool (test y)) [
      | inl e ↦ rw e (ap (λ w. y ∷ w) (filter_append test ys zs))
      | inr e ↦ rw e (filter_append test ys zs)
    ]

filter_at_most : {X : Type 0} (test : X → Bool) (xs : List X) → length (filter test xs) ≤ length xs
filter_at_most test [] = omega arith
filter_at_most test (x ∷ xs) =
    let rest = filter_at_most test xs in
    elim (cases_Bool (test x)) [ inl e ↦ rw e (omega (arith, rest)) | inr e ↦ rw e (omega (arith, rest)) ]

-- what no element adds to
none_added : {X Y : Type 0} (f : X → List Y) (xs : List X) → All (λ x. f x ≡ []) xs → flat_map f xs ≡ []
none_added f [] h = refl
none_added f (x ∷ xs) h = rw (h 0 x (omega arith)) (none_added f xs (λ k d l. h (suc k) d (omega (arith, l))))

-- ---- the shape of sends
module _ (t : Shape) (b : Bridge) (look : Look) (m : Numbers) (p : ℕ) (f : List ℕ) (v k : ℕ) (P : SendTo → Type 0) (is : (tag : ETag) (kind : Kind) → P (word_to k tag kind)) where
  each_to : (kind : Kind) (o : Option ℕ) → All P (words_to t m p f k kind o)
  each_to kind None = All-nil P
  each_to kind (Some e) = all_one P _ (is (etag_to t m p f k e) kind)

  each_group : (kind : Kind) (set : List ℕ) → All P (group_word t m p f k kind set)
  each_group kind set =
      elim (cases_Bool (is_empty_set set)) [
        | inl e ↦ rw e (All-nil P)
        | inr e ↦ rw e (each_to kind (m.group k set))
      ]

  each_channel : (r : ℕ) (o : Option Kind) → All P (channel_word t m p f k r o)
  each_channel r None = All-nil P
  each_channel r (Some kind) = each_to kind (m.channel k r)

  -- words have an E-TAG and are at their bridge port
  pub each_word : (c : EgressChoice) → All P (words_down t b look m p f v c k)
  each_word chosen.All = All-append P _ _ (each_group Tagged (set_for t b p v (λ q. true) k Tagged)) (each_group Untagged (set_for t b p v (λ q. true) k Untagged))
  each_word (chosen.Listed ports) = All-append P _ _ (each_group Tagged (set_for t b p v (port_in ports) k Tagged)) (each_group Untagged (set_for t b p v (port_in ports) k Untagged))
  each_word (chosen.Learned r) =
      elim (cases_Bool (is_under t k r)) [
        | inl e ↦ rw e (each_channel r (target b look p f r))
        | inr e ↦ rw e (All-nil P)
      ]

-- ---- local sends
module _ (t : Shape) (b : Bridge) (look : Look) (m : Numbers) (p : ℕ) (f : List ℕ) where
  local_at : (q k : ℕ) (o : Option Kind) → local_kinds q (local_send k o) ≡ cond (k == q) (listed_kind o) []
  local_at q k None = elim (cases_Bool (k == q)) [ inl e ↦ rw e refl | inr e ↦ rw e refl ]
  local_at q k (Some kind) =
      elim (cases_eq k q) [
        | inl e ↦ rw (eq-eqb k q e, eq-eqb (q + 1) (k + 1) (omega (arith, e))) refl
        | inr n ↦ rw (ne_eqb k q n, ne_eqb (q + 1) (k + 1) (λ e. n (omega (arith, e)))) refl
      ]

  locals_at : (v q k : ℕ) → local_kinds q (sends_at t b look m p f v k) ≡ cond (k == q) (listed_kind (target b look p f k)) []
  locals_at v q k =
      let test = λ (x : SendTo). local_kind q x.tag x.bridge_port x.kind in
      let words = words_down t b look m p f v (choice b look v (destination f)) k in
      flat_map-append test (local_send k (target b look p f k)) words ∙
      (rw (local_at q k (target b look p f k), none_added test words (each_word t b look m p f v k (λ x. test x ≡ []) (λ tag kind. refl) (choice b look v (destination f)))) (append-nil _))

  pub locals : (q : ℕ) → q < 64 → b.present p ≡ true → local_kinds q (sends_of t b look m p f) ≡ listed_kind (target b look p f q)
  unfolding sends_of target
  locals q l there = by_vid (passes b p f) refl
    where
      by_vid : (o : Option ℕ) → passes b p f ≡ o → local_kinds q (sends_in t b look m p f o) ≡ listed_kind (target b look p f q)
      by_vid None e = rw (there, e) refl
      by_vid (Some v) e =
          flat_flat (λ (x : SendTo). local_kind q x.tag x.bridge_port x.kind) (sends_at t b look m p f v) bridge_ports ∙
          (only_one (λ k. local_kinds q (sends_at t b look m p f v k)) 64 q (λ k low d. locals_at v q k ∙ (rw (ne_eqb k q d) refl)) l ∙
          (locals_at v q q ∙ (rw (eq-eqb q q refl) refl)))

  -- ---- a learned port
  words_at : (v k : ℕ) → words_of (sends_at t b look m p f v k) ≡ words_down t b look m p f v (choice b look v (destination f)) k
  words_at v k =
      let test = λ (x : SendTo). has_tag x.tag in
      let words = words_down t b look m p f v (choice b look v (destination f)) k in
      filter_append test (local_send k (target b look p f k)) words ∙
      (rw (no_local (target b look p f k), all_pass test words (each_word t b look m p f v k (λ x. test x ≡ true) (λ tag kind. refl) (choice b look v (destination f)))) refl)
    where
      no_local : (o : Option Kind) → filter (λ (x : SendTo). has_tag x.tag) (local_send k o) ≡ []
      no_local None = refl
      no_local (Some kind) = refl

  pub learned : (v k r : ℕ) → IsTree t → passes b p f ≡ Some v → choice b look v (destination f) ≡ chosen.Learned r → is_under t k r ≡ true →
      words_of (sends_of t b look m p f) ≡ channel_word t m p f k r (target b look p f r)
  unfolding sends_of
  learned v k r valid pass is under =
      let low : k < 64 = subst (λ (x : ℕ). x < 64) (under_trunk t k r under) (home_low t valid r (under_extended t k r under)) in
      rw pass (filter_flat (λ (x : SendTo). has_tag x.tag) (sends_at t b look m p f v) bridge_ports ∙
      (only_one (λ j. words_of (sends_at t b look m p f v j)) 64 k (λ j l d. at j ∙ (rw (other j d) refl)) low ∙
      (at k ∙ (rw under refl))))
    where
      at : (j : ℕ) → words_of (sends_at t b look m p f v j) ≡ cond (is_under t j r) (channel_word t m p f j r (target b look p f r)) []
      at j = words_at v j ∙ ap (λ (c : EgressChoice). words_down t b look m p f v c j) is

      other : (j : ℕ) → j ≢ k → is_under t j r ≡ false
      other j d = false_from_ne_true _ (λ u. d (sym (under_trunk t j r u) ∙ under_trunk t k r under))

  -- ---- at most two
  local_few : (k : ℕ) (o : Option Kind) → length (local_send k o) ≤ 1
  local_few k None = omega arith
  local_few k (Some kind) = omega arith

  to_few : (k : ℕ) (kind : Kind) (o : Option ℕ) → length (words_to t m p f k kind o) ≤ 1
  to_few k kind None = omega arith
  to_few k kind (Some e) = omega arith

  group_few : (k : ℕ) (kind : Kind) (set : List ℕ) → length (group_word t m p f k kind set) ≤ 1
  group_few k kind set =
      elim (cases_Bool (is_empty_set set)) [
        | inl e ↦ rw e (omega arith)
        | inr e ↦ rw e (to_few k kind (m.group k set))
      ]

  groups_few : (v k : ℕ) (among : ℕ → Bool) → length (group_words t b m p f v among k) ≤ 2
  groups_few v k among =
      let x = group_few k Tagged (set_for t b p v among k Tagged) in
      let y = group_few k Untagged (set_for t b p v among k Untagged) in
      let z = length-append (group_word t m p f k Tagged (set_for t b p v among k Tagged)) (group_word t m p f k Untagged (set_for t b p v among k Untagged)) in
      omega (arith, x, y, z)

  channel_few : (k r : ℕ) (o : Option Kind) → length (channel_word t m p f k r o) ≤ 1
  channel_few k r None = omega arith
  channel_few k r (Some kind) = to_few k kind (m.channel k r)

  down_few : (v k : ℕ) (c : EgressChoice) → length (words_down t b look m p f v c k) ≤ 2
  down_few v k chosen.All = groups_few v k (λ q. true)
  down_few v k (chosen.Listed ports) = groups_few v k (port_in ports)
  down_few v k (chosen.Learned r) =
      elim (cases_Bool (is_under t k r)) [
        | inl e ↦ rw e (let x = channel_few k r (target b look p f r) in omega (arith, x))
        | inr e ↦ rw e (omega arith)
      ]

  -- below a port on which no extender hangs nothing is sent
  pub no_words : (v k : ℕ) (c : EgressChoice) → IsTree t → is_cascade t k ≡ false → words_down t b look m p f v c k ≡ []
  no_words v k chosen.All valid n =
      let none = none_under t valid k n in
      rw (no_set t b p v valid (λ q. true) k Tagged none, no_set t b p v valid (λ q. true) k Untagged none) refl
  no_words v k (chosen.Listed ports) valid n =
      let none = none_under t valid k n in
      rw (no_set t b p v valid (port_in ports) k Tagged none, no_set t b p v valid (port_in ports) k Untagged none) refl
  no_words v k (chosen.Learned r) valid n = rw (none_under t valid k n r) refl

  -- a port of the bridge that is a target has no extender
  target_free : (v k : ℕ) (kind : Kind) → IsReady t b m → b.present p ≡ true → passes b p f ≡ Some v → target b look p f k ≡ Some kind → is_external t k ≡ true
  target_free v k kind ready there pass is =
      ready.external k (target_says b p v (choice b look v (destination f)) k kind (sym (target_is b look p f v k there pass) ∙ is)).present

  pub at_most_two : (v k : ℕ) → IsTree t → IsReady t b m → b.present p ≡ true → passes b p f ≡ Some v → length (sends_at t b look m p f v k) ≤ 2
  at_most_two v k valid ready there pass = by_target (target b look p f k) refl
    where
      by_target : (o : Option Kind) → target b look p f k ≡ o → length (local_send k o ++ words_down t b look m p f v (choice b look v (destination f)) k) ≤ 2
      by_target None e = down_few v k (choice b look v (destination f))
      by_target (Some kind) e =
          rw (no_words v k (choice b look v (destination f)) valid (external_free t k (target_free v k kind ready there pass e))) (omega arith)

  each_at : (v j k : ℕ) → (j + 1 ≢ k) → All (λ (x : SendTo). (x.bridge_port == k) ≡ false) (sends_at t b look m p f v j)
  each_at v j k d =
      let P = λ (x : SendTo). (x.bridge_port == k) ≡ false in
      All-append P _ _ (local_each (target b look p f j)) (each_word t b look m p f v j P (λ tag kind. ne_eqb (j + 1) k d) (choice b look v (destination f)))
    where
      local_each : (o : Option Kind) → All (λ (x : SendTo). (x.bridge_port == k) ≡ false) (local_send j o)
      local_each None = All-nil (λ (x : SendTo). (x.bridge_port == k) ≡ false)
      local_each (Some kind) = all_one (λ (x : SendTo). (x.bridge_port == k) ≡ false) _ (ne_eqb (j + 1) k d)

  pub few_at : (k : ℕ) → IsTree t → IsReady t b m → b.present p ≡ true → count_by (λ (x : SendTo). x.bridge_port == k) (sends_of t b look m p f) ≤ 2
  unfolding sends_of
  few_at k valid ready there = by_vid (passes b p f) refl
    where
      by_vid : (o : Option ℕ) → passes b p f ≡ o → count_by (λ (x : SendTo). x.bridge_port == k) (sends_in t b look m p f o) ≤ 2
      by_vid None e = omega arith
      by_vid (Some v) e =
          rw (
            ← length-filter (λ (x : SendTo). x.bridge_port == k) (flat_map (sends_at t b look m p f v) bridge_ports),
            filter_flat (λ (x : SendTo). x.bridge_port == k) (sends_at t b look m p f v) bridge_ports,
          ) (
          elim (cases_lt 64 k) [
            | inl high ↦
                rw (no_one (λ j. filter (λ (x : SendTo). x.bridge_port == k) (sends_at t b look m p f v j)) 64
                (λ j low. none_pass _ _ (each_at v j k (λ z. omega (arith, z, high, low))))) (omega arith)
            | inr most ↦ elim (cases_eq k 0) [
              | inl z ↦
                  rw (no_one (λ j. filter (λ (x : SendTo). x.bridge_port == k) (sends_at t b look m p f v j)) 64
                  (λ j low. none_pass _ _ (each_at v j k (λ y. omega (arith, y, z))))) (omega arith)
              | inr some ↦
                  let o : (j : ℕ) × (j + 1 ≡ k) = before k some in
                  rw (only_one (λ j. filter (λ (x : SendTo). x.bridge_port == k) (sends_at t b look m p f v j)) 64 o.0
                  (λ j low d. none_pass _ _ (each_at v j k (λ z. let y = o.1 in d (omega (arith, z, y))))) (let y = o.1 in omega (arith, y, most)))
                  (let x = filter_at_most (λ (x : SendTo). x.bridge_port == k) (sends_at t b look m p f v o.0) in
                  let y = at_most_two v o.0 valid ready there e in omega (arith, x, y))
            ]
          ])
        where
          before : (k : ℕ) → k ≢ 0 → (j : ℕ) × (j + 1 ≡ k)
          before zero n = absurd (n refl)
          before (suc k) n = (k, omega arith)

-- ---- what a word's number stands for
module _ (t : Shape) (b : Bridge) (look : Look) (m : Numbers) (p : ℕ) (f : List ℕ) (v : ℕ) (valid : IsTree t) (ready : IsReady t b m) (numb : IsNumbering m) (bytes : IsBytes f) (there : b.present p ≡ true) (pass : passes b p f ≡ Some v) where
  abbrev Is : SendTo → Type 0
  Is x = IsAt t b m p f x

  word_is : (k e : ℕ) (kind : Kind) → k < 64 → is_cascade t k ≡ true → e < 16384 →
      (((set : List ℕ) × (m.group k set ≡ Some e) × (has_set t k b set ≡ true)) ⊎ ((r : ℕ) × (m.channel k r ≡ Some e) × (is_under t k r ≡ true) × (b.present r ≡ true) × (r ≢ p))) →
      Is (word_to k (etag_to t m p f k e) kind)
  word_is k e kind low cascade fits number =
      record {
        port = k;
        low = low;
        at = refl;
        sent = (cascade, record { pcp = refl; dei = refl; ingress = refl; number = number; fits = tag_fits t b m numb p f bytes k e fits });
      }

  group_is : (k : ℕ) (among : ℕ → Bool) (kind : Kind) → k < 64 → IsSource b v among → All Is (group_word t m p f k kind (set_for t b p v among k kind))
  group_is k among kind low from =
      elim (cases_Bool (is_empty_set (set_for t b p v among k kind))) [
        | inl e ↦ rw e (All-nil Is)
        | inr some ↦ rw some (by_cascade some (cases_Bool (is_cascade t k)))
      ]
    where
      by_cascade : is_empty_set (set_for t b p v among k kind) ≡ false → (is_cascade t k ≡ true) ⊎ (is_cascade t k ≡ false) → All Is (words_to t m p f k kind (m.group k (set_for t b p v among k kind)))
      by_cascade some (inr n) = absurd (false≢true (sym some ∙ ap is_empty_set (no_set t b p v valid among k kind (none_under t valid k n))))
      by_cascade some (inl c) =
          let has = set_there t b p v among k kind from some in
          let found = some_of (m.group k (set_for t b p v among k kind)) (ready.groups k _ low has) in
          rw found.1 (all_one Is _ (word_is k found.0 kind low c (numb.fits k found.0 _ found.1) (inl (set_for t b p v among k kind, found.1, has))))

  channel_is : (k r : ℕ) (o : Option Kind) → k < 64 → is_under t k r ≡ true → target b look p f r ≡ o → All Is (channel_word t m p f k r o)
  channel_is k r None low under is = All-nil Is
  channel_is k r (Some kind) low under is =
      let says = target_says b p v (choice b look v (destination f)) r kind (sym (target_is b look p f v r there pass) ∙ is) in
      let found = some_of (m.channel k r) (ready.channels k r under says.present) in
      let small = numb.small k r found.0 found.1 in
      let other : r ≢ p = λ e. false≢true (sym says.other ∙ eq-eqb r p e) in
      rw found.1 (all_one Is _ (word_is k found.0 kind low (under_cascade t valid k r under) (omega (arith, small)) (inr (r, found.1, under, says.present, other))))

  down_is : (k : ℕ) (c : EgressChoice) → k < 64 → Fits b v c → All Is (words_down t b look m p f v c k)
  down_is k chosen.All low fits = All-append Is _ _ (group_is k (λ q. true) Tagged low fits) (group_is k (λ q. true) Untagged low fits)
  down_is k (chosen.Listed ports) low fits = All-append Is _ _ (group_is k (port_in ports) Tagged low fits) (group_is k (port_in ports) Untagged low fits)
  down_is k (chosen.Learned r) low fits =
      elim (cases_Bool (is_under t k r)) [
        | inl e ↦ rw e (channel_is k r (target b look p f r) low e refl)
        | inr e ↦ rw e (All-nil Is)
      ]

  local_is : (k : ℕ) (o : Option Kind) → k < 64 → target b look p f k ≡ o → All Is (local_send k o)
  local_is k None low is = All-nil Is
  local_is k (Some kind) low is = all_one Is _ (record { port = k; low = low; at = refl; sent = target_free t b look m p f v k kind ready there pass is })

  pub all_sent : 1 ≤ v → v ≤ 4094 → All Is (sends_in t b look m p f (Some v))
  all_sent l h =
      each_below Is (sends_at t b look m p f v) 64 (λ k low.
      All-append Is _ _ (local_is k (target b look p f k) low refl) (down_is k (choice b look v (destination f)) low (choice_fits b look v (destination f) l h)))

pub sends_are : (t : Shape) (b : Bridge) (look : Look) (m : Numbers) (p : ℕ) (f : List ℕ) → IsTree t → IsReady t b m → IsNumbering m →
    HasPvids b → IsBytes f → b.present p ≡ true → All (IsAt t b m p f) (sends_of t b look m p f)
unfolding sends_of
sends_are t b look m p f valid ready numb pvids bytes there = by_vid (passes b p f) refl
  where
    by_vid : (o : Option ℕ) → passes b p f ≡ o → All (IsAt t b m p f) (sends_in t b look m p f o)
    by_vid None e = All-nil (IsAt t b m p f)
    by_vid (Some v) e =
        let r = passes_vid b p f v pvids e in all_sent t b look m p f v valid ready numb bytes there e r.0 r.1

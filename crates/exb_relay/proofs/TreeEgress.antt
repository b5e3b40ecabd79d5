-- What all sends of a frame make leave.
use Rattle.std.proofs.Common.{◌≡◌, ◌≢◌, ℕ, ◌+◌, ◌<◌, ◌≤◌, ◌==◌, ◌&&◌, ◌++◌, cond, Bool, true, false, not, List, [], ◌∷◌, length, Option, Some, None, refl, sym, ◌∙◌, ap, arith, inl, inr, ◌⊎◌, eq-eqb}
use Rattle.std.specs.List.{flat_map}
use Rattle.std.proofs.lemmas.List.{append-nil}
use Rattle.std.proofs.lemmas.Grind.{flat_map-append}
use Rattle.std.proofs.lemmas.Bool.{cases_eq, cases_lt, cases_Bool, ne_eqb, false≢true}
use Rattle.exb_model.specs.declared.vlan.Kind.{Kind}
use Rattle.exb_model.specs.declared.vlan.Kind.TheVariants.{Tagged, Untagged}
use Rattle.exb_model.specs.Ports.{port_in}
use Rattle.exb_model.specs.Frames.{destination, egress, IsBytes}
use Rattle.exb_model.specs.Tree.{Shape, IsTree, IsCascade, device, trunk, is_cascade, is_external, is_under}
use Rattle.exb_model.specs.ExtenderForwarding.{Tables}
use Rattle.exb_model.specs.Configuration.{Bridge}
use Rattle.exb_model.specs.Learning.{Look, passes}
use Rattle.exb_model.specs.Targets.{target, both_isolated}
use Rattle.exb_model.specs.Refusals.{is_kind, is_empty_set, bridge_ports}
use Rattle.exb_model.proofs.PortLemmas.{filter_below-none}
use Rattle.exb_frame.specs.TagValues.{TagRoundTrip}
use Rattle.exb_relay.specs.declared.choice.EgressChoice.{EgressChoice}
use Rattle.exb_relay.specs.declared.choice.EgressChoice.TheVariants as chosen
use Rattle.exb_model.specs.Numbers.{Numbers, IsReady, IsNumbering, has_set}
use Rattle.exb_relay.specs.Choices.{choice, is_chosen_in}
use Rattle.exb_relay.specs.Sends.{set_for, group_word, group_words, channel_word, words_down, local_send, sends_at, sends_of}
use Rattle.exb_model.specs.Carriage.{Carries}
use Rattle.exb_model.specs.Lists.{is_listed}
use Rattle.exb_relay.specs.TreeEgress.{leaving, all_leaving}
use Rattle.exb_config.specs.Pvids.{HasPvids}
use Rattle.exb_relay.proofs.Lists.{flat_flat, only_one, none_listed}
use Rattle.exb_relay.proofs.PortsBelow.{under_home, under_other, none_low, none_under, under_cascade, hangs, home_low, external_below, extended_from}
use Rattle.exb_relay.proofs.TargetChoice.{target_of, target_is, target_says, passes_long}
use Rattle.exb_relay.proofs.FrameSets.{is_part, hears, set_is, set_has, set_under, set_there, IsSource, Fits, choice_fits}
use Rattle.exb_relay.proofs.TaggedFrames.{some_of, egress_long, group_out, channel_out}

abbrev pub listed_out : (Kind → List ℕ) → Option Kind → List (List ℕ)
listed_out out None = []
listed_out out (Some kind) = out kind ∷ []

both : (pr am h s : Bool) (o : Option Kind) (out : Kind → List ℕ) →
    cond ((((pr && am) && is_kind Tagged o) && h) && not s) (out Tagged ∷ []) [] ++ cond ((((pr && am) && is_kind Untagged o) && h) && not s) (out Untagged ∷ []) [] ≡
    listed_out out (cond (((pr && not s) && h) && am) o None)
both pr am h s None out = grind arith
both pr am h s (Some Tagged) out = grind arith
both pr am h s (Some Untagged) out = grind arith

same_either : {X : Type 0} (b : Bool) (x : X) → cond b x x ≡ x
same_either true x = refl
same_either false x = refl

-- a target that isn't there or isn't chosen
module _ (t : Shape) (b : Bridge) (p v : ℕ) where
  target_other : (r q : ℕ) → q ≢ r → target_of b p v (chosen.Learned r) q ≡ None
  target_other r q n = rw (ne_eqb q r n) (no_kind (b.present q && not (q == p) && not (both_isolated b p q)) (b.member v q))
    where
      no_kind : (c : Bool) (o : Option Kind) → cond (c && false) o None ≡ None
      no_kind true o = refl
      no_kind false o = refl

  -- below a bridge port on which no extender hangs there is no set
  pub no_set : IsTree t → (among : ℕ → Bool) (k : ℕ) (kind : Kind) → (is_under_none : (q : ℕ) → is_under t k q ≡ false) → set_for t b p v among k kind ≡ []
  no_set valid among k kind none = set_is t b p v among k kind ∙ filter_below-none _ 4160 (λ q. rw (none q) refl)

module _ (t : Shape) (u : Tables) (b : Bridge) (look : Look) (m : Numbers) (p : ℕ) (f : List ℕ) (v : ℕ) (valid : IsTree t) (ready : IsReady t b m) (numb : IsNumbering m) (carries : Carries t u b m) (pvids : HasPvids b) (bytes : IsBytes f) (there : b.present p ≡ true) (pass : passes b p f ≡ Some v) (round : TagRoundTrip) where
  abbrev out : Kind → List ℕ
  out kind = egress f kind v

  long : (kind : Kind) → 12 ≤ length (egress f kind v)
  long kind = let l = passes_long b p f v pass in egress_long f kind v (omega (arith, l))

  -- where there is no extender on a bridge port
  group_leaves : (among : ℕ → Bool) (k q : ℕ) (kind : Kind) → IsSource b v among → k < 64 → is_external t q ≡ true →
      flat_map (leaving t u out q) (group_word t m p f k kind (set_for t b p v among k kind)) ≡
      cond ((is_part t b v among k kind q && hears b p q) && not (q == p)) (out kind ∷ []) []
  group_leaves among k q kind from low ext =
      let set = set_for t b p v among k kind in
      let size = external_below t valid q ext in
      rw (← set_has t b p v among k kind q size) (
      elim (cases_Bool (is_empty_set set)) [
        | inl e ↦ rw (e, none_listed q set e) refl
        | inr some ↦
            let has = set_there t b p v among k kind from some in
            let found = some_of (m.group k set) (ready.groups k set low has) in
            by_cascade some has found.0 found.1 (cases_Bool (is_cascade t k))
      ])
    where
      by_cascade : is_empty_set (set_for t b p v among k kind) ≡ false → has_set t k b (set_for t b p v among k kind) ≡ true →
          (g : ℕ) → m.group k (set_for t b p v among k kind) ≡ Some g →
          (is_cascade t k ≡ true) ⊎ (is_cascade t k ≡ false) →
          flat_map (leaving t u out q) (group_word t m p f k kind (set_for t b p v among k kind)) ≡
          cond (is_listed (set_for t b p v among k kind) q && not (q == p)) (out kind ∷ []) []
      by_cascade some has g found (inr n) =
          absurd (false≢true (sym some ∙ ap is_empty_set (no_set t b p v valid among k kind (none_under t valid k n))))
      by_cascade some has g found (inl c) =
          let hung : IsCascade t k = hangs t valid k c in
          rw (some, found) (append-nil _ ∙
          group_out t u b m p f valid ready numb carries bytes there round k hung.0 g q (set_for t b p v among k kind) kind out low hung.1 (long kind) has found
          (set_under t b p v among k kind q (external_below t valid q ext)) ext)

  groups_leave : (among : ℕ → Bool) (c : EgressChoice) (k q : ℕ) → ((r : ℕ) → is_chosen_in c r ≡ among r) → IsSource b v among → k < 64 → is_external t q ≡ true →
      flat_map (leaving t u out q) (group_words t b m p f v among k) ≡ cond (is_under t k q) (listed_out out (target_of b p v c q)) []
  groups_leave among c k q same from low ext =
      flat_map-append (leaving t u out q) (group_word t m p f k Tagged (set_for t b p v among k Tagged)) (group_word t m p f k Untagged (set_for t b p v among k Untagged)) ∙
      rw (group_leaves among k q Tagged from low ext, group_leaves among k q Untagged from low ext, same q) (by_under (is_under t k q))
    where
      by_under : (z : Bool) →
          cond (((((z && b.present q) && among q) && is_kind Tagged (b.member v q)) && hears b p q) && not (q == p)) (out Tagged ∷ []) []
          ++ cond (((((z && b.present q) && among q) && is_kind Untagged (b.member v q)) && hears b p q) && not (q == p)) (out Untagged ∷ []) [] ≡
          cond z (listed_out out (cond (((b.present q && not (q == p)) && hears b p q) && among q) (b.member v q) None)) []
      by_under false = refl
      by_under true = both (b.present q) (among q) (hears b p q) (q == p) (b.member v q) out

  channel_leaves : (r k q : ℕ) → k < 64 → is_external t q ≡ true →
      flat_map (leaving t u out q) (cond (is_under t k r) (channel_word t m p f k r (target_of b p v (chosen.Learned r) r)) []) ≡
      cond (is_under t k q) (listed_out out (target_of b p v (chosen.Learned r) q)) []
  channel_leaves r k q low ext =
      elim (cases_Bool (is_under t k r)) [
        | inr e ↦ elim (cases_eq q r) [
          | inl z ↦ rw (e, z, e) refl
          | inr z ↦ rw (e, target_other t b p v r q z) (sym (same_either {X = List (List ℕ)} (is_under t k q) []))
        ]
        | inl e ↦ rw e (by_target e (target_of b p v (chosen.Learned r) r) refl)
      ]
    where
      by_target : is_under t k r ≡ true → (o : Option Kind) → target_of b p v (chosen.Learned r) r ≡ o →
          flat_map (leaving t u out q) (channel_word t m p f k r o) ≡ cond (is_under t k q) (listed_out out (target_of b p v (chosen.Learned r) q)) []
      by_target under None none =
          elim (cases_eq q r) [
            | inl z ↦ rw (z, under, none) refl
            | inr z ↦ rw (target_other t b p v r q z) (sym (same_either {X = List (List ℕ)} (is_under t k q) []))
          ]
      by_target under (Some kind) is =
          let here = (target_says b p v (chosen.Learned r) r kind is).present in
          let found = some_of (m.channel k r) (ready.channels k r under here) in
          let hung : IsCascade t k = hangs t valid k (under_cascade t valid k r under) in
          let word = channel_out t u b m p f valid ready numb carries bytes there round k hung.0 found.0 r q kind out low hung.1 (long kind) under here found.1 ext in
          rw found.1 (append-nil _ ∙ (word ∙ (
          elim (cases_eq q r) [
            | inl z ↦ rw (z, under, is, eq-eqb r r refl) refl
            | inr z ↦ rw (target_other t b p v r q z, ne_eqb q r z) (sym (same_either {X = List (List ℕ)} (is_under t k q) []))
          ])))

  words_leave : (c : EgressChoice) (k q : ℕ) → ((r : ℕ) → target b look p f r ≡ target_of b p v c r) → Fits b v c → k < 64 → is_external t q ≡ true →
      flat_map (leaving t u out q) (words_down t b look m p f v c k) ≡ cond (is_under t k q) (listed_out out (target_of b p v c q)) []
  words_leave chosen.All k q same fits low ext = groups_leave (λ q. true) chosen.All k q (λ r. refl) fits low ext
  words_leave (chosen.Listed ports) k q same fits low ext = groups_leave (port_in ports) (chosen.Listed ports) k q (λ r. refl) fits low ext
  words_leave (chosen.Learned r) k q same fits low ext = rw (same r) (channel_leaves r k q low ext)

  local_leaves : (k q : ℕ) (o : Option Kind) → flat_map (leaving t u out q) (local_send k o) ≡ cond (k == q) (listed_out out o) []
  local_leaves k q None = sym (same_either (k == q) [])
  local_leaves k q (Some kind) =
      elim (cases_eq k q) [
        | inl e ↦ rw (eq-eqb k q e, eq-eqb (q + 1) (k + 1) (omega (arith, e))) refl
        | inr n ↦ rw (ne_eqb k q n, ne_eqb (q + 1) (k + 1) (λ e. n (omega (arith, e)))) refl
      ]

  abbrev chosen_by : EgressChoice
  chosen_by = choice b look v (destination f)

  is_target : (q : ℕ) → target b look p f q ≡ target_of b p v chosen_by q
  is_target q = target_is b look p f v q there pass

  abbrev result : ℕ → List (List ℕ)
  result q = listed_out out (target_of b p v chosen_by q)

  step_leaves : (k q : ℕ) → Fits b v chosen_by → k < 64 → is_external t q ≡ true →
      flat_map (leaving t u out q) (sends_at t b look m p f v k) ≡ cond (k == q) (result q) [] ++ cond (is_under t k q) (result q) []
  step_leaves k q fits low ext =
      flat_map-append (leaving t u out q) (local_send k (target b look p f k)) (words_down t b look m p f v chosen_by k) ∙
      rw (local_leaves k q (target b look p f k), words_leave chosen_by k q is_target fits low ext, is_target k)
      (elim (cases_eq k q) [ inl e ↦ rw e refl | inr e ↦ rw (ne_eqb k q e) refl ])

  sends_leave_in : (q : ℕ) → Fits b v chosen_by → is_external t q ≡ true → flat_map (leaving t u out q) (flat_map (sends_at t b look m p f v) bridge_ports) ≡ result q
  sends_leave_in q fits ext =
      flat_flat (leaving t u out q) (sends_at t b look m p f v) bridge_ports ∙
      elim (cases_lt q 64) [
        | inl l ↦
            only_one (λ k. flat_map (leaving t u out q) (sends_at t b look m p f v k)) 64 q
            (λ k low d. step_leaves k q fits low ext ∙ (rw (ne_eqb k q d, none_low t k q l) refl)) l ∙
            (step_leaves q q fits l ext ∙ (rw (eq-eqb q q refl, none_low t q q l) (append-nil _)))
        | inr g ↦
            let deep = extended_from t q g ext in
            let j = trunk t (device q) in
            let home = home_low t valid q deep in
            only_one (λ k. flat_map (leaving t u out q) (sends_at t b look m p f v k)) 64 j
            (λ k low d. step_leaves k q fits low ext ∙ (rw (ne_eqb k q (λ e. omega (arith, low, e, g)), under_other t k q d) refl)) home ∙
            (step_leaves j q fits home ext ∙ (rw (ne_eqb j q (λ e. omega (arith, home, e, g)), under_home t q deep) refl))
      ]

  pub leaves_as_target : (q : ℕ) → is_external t q ≡ true → 1 ≤ v → v ≤ 4094 →
      all_leaving t u f v (sends_of t b look m p f) q ≡ listed_out out (target b look p f q)
  unfolding sends_of
  leaves_as_target q ext l h = rw (pass, is_target q) (sends_leave_in q (choice_fits b look v (destination f) l h) ext)

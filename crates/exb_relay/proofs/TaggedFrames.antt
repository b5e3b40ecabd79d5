-- One word: that its E-TAG fits, and where it comes out.
use Rattle.std.proofs.Common.{◌≡◌, ◌≢◌, ℕ, ◌+◌, ◌*◌, ◌%◌, ◌<◌, ◌≤◌, ◌==◌, ◌&&◌, ◌++◌, cond, true, false, not, List, [], ◌∷◌, length, take, Option, Some, None, nat_lt, refl, sym, ◌∙◌, ap, subst, arith, inl, inr, ◌⊎◌, eq-eqb, length-append}
use Rattle.std.specs.Prelude.{is_some}
use Rattle.std.proofs.lemmas.List.{length-take}
use Rattle.std.proofs.lemmas.Bool.{cases_eq, cases_lt, cases_Bool, ne_eqb, lt-ltb, false≢true, false_from_ne_true}
use Rattle.exb_model.specs.declared.vlan.Kind.{Kind}
use Rattle.exb_model.specs.declared.vlan.Kind.TheVariants.{Tagged, Untagged}
use Rattle.exb_model.specs.Frames.{number_at, two_bytes, is_reserved, kind_of_tag, kind_of, body_after, priority_of, egress, IsBytes}
use Rattle.exb_model.specs.ETags.{TagFits, tagged}
use Rattle.exb_model.specs.Tree.{Shape, IsTree, HangsOn, is_external, is_under}
use Rattle.exb_model.specs.ExtenderForwarding.{Tables}
use Rattle.exb_model.specs.Carriage.{carried}
use Rattle.exb_model.specs.Configuration.{Bridge}
use Rattle.exb_frame.specs.TagValues.{tag_of, TagRoundTrip}
use Rattle.exb_model.specs.Numbers.{Numbers, IsReady, IsNumbering, has_set}
use Rattle.exb_relay.specs.Sends.{pcp_of, or_zero, ingress_at, etag_to, word_to}
use Rattle.exb_model.specs.Carriage.{Carries}
use Rattle.exb_model.specs.Lists.{is_listed}
use Rattle.exb_relay.specs.TreeEgress.{leaving}
use Rattle.exb_relay.proofs.PortsBelow.{under_high, extended_from, extender_there, none_at_bridge}

pub some_of : (o : Option ℕ) → is_some o ≡ true → (x : ℕ) × (o ≡ Some x)
some_of (Some x) h = (x, refl)
some_of None h = absurd (false≢true h)

-- ---- the E-TAG fits
tag_small : (tci : ℕ) → tci < 65536 → pcp_of (kind_of_tag tci) < 8
tag_small tci l =
    elim (cases_eq (tci % 4096) 4095) [
      | inl e ↦ rw (eq-eqb (tci % 4096) 4095 e) (omega arith)
      | inr n ↦ elim (cases_eq (tci % 4096) 0) [
        | inl e ↦ rw (ne_eqb (tci % 4096) 4095 n, eq-eqb (tci % 4096) 0 e) (omega (arith, l))
        | inr o ↦ rw (ne_eqb (tci % 4096) 4095 n, ne_eqb (tci % 4096) 0 o) (omega (arith, l))
      ]
    ]

pub pcp_small : (f : List ℕ) → IsBytes f → pcp_of (kind_of f) < 8
unfolding kind_of
pcp_small f bytes =
    elim (cases_Bool (nat_lt (length f) 14)) [
      | inl e ↦ rw e (omega arith)
      | inr e ↦ elim (cases_Bool (nat_lt 9216 (length f))) [
        | inl d ↦ rw (e, d) (omega arith)
        | inr d ↦ elim (cases_Bool (is_reserved f)) [
          | inl c ↦ rw (e, d, c) (omega arith)
          | inr c ↦ elim (cases_Bool (number_at f 12 == 0x8100)) [
            | inr a ↦ rw (e, d, c, a) (omega arith)
            | inl a ↦ elim (cases_Bool (nat_lt (length f) 18)) [
              | inl z ↦ rw (e, d, c, a, z) (omega arith)
              | inr z ↦ rw (e, d, c, a, z) (let x = bytes 14 in let y = bytes 15 in tag_small (number_at f 14) (omega (arith, x, y)))
            ]
          ]
        ]
      ]
    ]

pub egress_long : (f : List ℕ) (kind : Kind) (v : ℕ) → 12 ≤ length f → 12 ≤ length (egress f kind v)
unfolding egress
egress_long f Untagged v l =
    let e = length-append (take 12 f) (body_after f (kind_of f)) in let d = length-take 12 f in omega (arith, e, d, l)
egress_long f Tagged v l =
    let a = (take 12 f ++ two_bytes 0x8100) ++ two_bytes (priority_of (kind_of f) * 4096 + v) in
    let x = length-append a (body_after f (kind_of f)) in
    let y = length-append (take 12 f ++ two_bytes 0x8100) (two_bytes (priority_of (kind_of f) * 4096 + v)) in
    let z = length-append (take 12 f) (two_bytes 0x8100) in
    let d = length-take 12 f in
    omega (arith, x, y, z, d, l)

module _ (t : Shape) (b : Bridge) (m : Numbers) (numb : IsNumbering m) (p : ℕ) (f : List ℕ) where
  pub ingress_small : (k : ℕ) → ingress_at t m p k < 4096
  ingress_small k =
      elim (cases_Bool (is_under t k p)) [
        | inl e ↦ rw e (by_channel (m.channel k p) refl)
        | inr e ↦ rw e (omega arith)
      ]
    where
      by_channel : (o : Option ℕ) → m.channel k p ≡ o → or_zero o < 4096
      by_channel None e = omega arith
      by_channel (Some c) e = let s = numb.small k p c e in omega (arith, s)

  pub tag_fits : IsBytes f → (k e : ℕ) → e < 16384 → TagFits (tag_of (etag_to t m p f k e))
  tag_fits bytes k e l = record { pcp = pcp_small f bytes; ingress = ingress_small k; ecid = l }

-- ---- where it comes out
module _ (t : Shape) (u : Tables) (b : Bridge) (m : Numbers) (p : ℕ) (f : List ℕ) (valid : IsTree t) (ready : IsReady t b m) (numb : IsNumbering m) (carries : Carries t u b m) (bytes : IsBytes f) (there : b.present p ≡ true) (round : TagRoundTrip) where
  -- the source is left out by its own channel, and nobody else
  pub left_out_is : (k q : ℕ) → is_under t k q ≡ true → b.present q ≡ true →
      (nat_lt 0 (ingress_at t m p k) && u.own q == ingress_at t m p k) ≡ (q == p)
  left_out_is k q uq here =
      let mine = some_of (m.channel k q) (ready.channels k q uq here) in
      elim (cases_Bool (is_under t k p)) [
        | inl up ↦ let its = some_of (m.channel k p) (ready.channels k p up there) in by_channels up mine.0 its.0 mine.1 its.1
        | inr out ↦
            let ing : ingress_at t m p k ≡ 0 = rw out refl in
            let other : q ≢ p = λ e. false≢true (sym out ∙ subst (λ (x : ℕ). is_under t k x ≡ true) e uq) in
            rw (ing, ne_eqb q p other) refl
      ]
    where
      by_channels : is_under t k p ≡ true → (c d : ℕ) → m.channel k q ≡ Some c → m.channel k p ≡ Some d →
          (nat_lt 0 (ingress_at t m p k) && u.own q == ingress_at t m p k) ≡ (q == p)
      by_channels up c d mine its =
          let own : u.own q ≡ c = carries.own k q c uq here mine in
          let ing : ingress_at t m p k ≡ d = rw (up, its) refl in
          let pos = numb.some k p d its in
          rw (ing, lt-ltb 0 d pos, own) (
          elim (cases_eq q p) [
            | inl e ↦
                let z : ◌≡◌ {A = Option ℕ} (Some c) (Some d) = sym mine ∙ (ap (m.channel k) e ∙ its) in
                let y : c ≡ d = cc in
                rw (eq-eqb c d y, eq-eqb q p e) refl
            | inr n ↦
                let apart : c ≢ d = λ e. n (numb.alone k q p d (mine ∙ ap Some e) its) in
                rw (ne_eqb c d apart, ne_eqb q p n) refl
          ])

  -- what goes in with an E-TAG is what would leave
  pub word_low : (k n e q : ℕ) (kind : Kind) (out : Kind → List ℕ) → HangsOn t n k → q < 64 →
      leaving t u out q (word_to k (etag_to t m p f k e) kind) ≡ []
  word_low k n e q kind out hung l = rw (extender_there t valid n k hung) (none_at_bridge t u n _ q hung.extender l)

  pub word_high : (k n e q : ℕ) (kind : Kind) (out : Kind → List ℕ) → HangsOn t n k →
      leaving t u out q (word_to k (etag_to t m p f k e) kind) ≡ carried t u n (tagged (out kind) (tag_of (etag_to t m p f k e))) q
  word_high k n e q kind out hung = rw (extender_there t valid n k hung) refl

  -- a group's word
  pub group_out : (k n g q : ℕ) (set : List ℕ) (kind : Kind) (out : Kind → List ℕ) → k < 64 → HangsOn t n k → 12 ≤ length (out kind) →
      has_set t k b set ≡ true → m.group k set ≡ Some g → (is_listed set q ≡ true → (is_under t k q ≡ true) × (b.present q ≡ true)) → is_external t q ≡ true →
      leaving t u out q (word_to k (etag_to t m p f k g) kind) ≡ cond (is_listed set q && not (q == p)) (out kind ∷ []) []
  group_out k n g q set kind out low hung long has found within ext =
      elim (cases_lt q 64) [
        | inl l ↦
            let none : is_listed set q ≡ false = false_from_ne_true _ (λ z. let g = under_high t k q (within z).0 in omega (arith, g, l)) in
            rw (word_low k n g q kind out hung l, none) refl
        | inr h ↦
            let tag = tag_of (etag_to t m p f k g) in
            let there_and_back = round (out kind) tag long (tag_fits t b m numb p f bytes k g (numb.fits k g set found)) in
            let e = carries.groups k n g set low hung has found (tagged (out kind) tag) tag there_and_back.0 refl q (extended_from t q h ext) in
            word_high k n g q kind out hung ∙ (e ∙ (rw there_and_back.1 (by_listed (cases_Bool (is_listed set q)))))
      ]
    where
      by_listed : (is_listed set q ≡ true) ⊎ (is_listed set q ≡ false) →
          cond (is_listed set q && not (nat_lt 0 (ingress_at t m p k) && u.own q == ingress_at t m p k)) (out kind ∷ []) [] ≡
          cond (is_listed set q && not (q == p)) (out kind ∷ []) []
      by_listed (inl e) = rw (e, left_out_is k q (within e).0 (within e).1) refl
      by_listed (inr e) = rw e refl

  -- a channel's word
  pub channel_out : (k n c r q : ℕ) (kind : Kind) (out : Kind → List ℕ) → k < 64 → HangsOn t n k → 12 ≤ length (out kind) →
      is_under t k r ≡ true → b.present r ≡ true → m.channel k r ≡ Some c → is_external t q ≡ true →
      leaving t u out q (word_to k (etag_to t m p f k c) kind) ≡ cond (q == r) (out kind ∷ []) []
  channel_out k n c r q kind out low hung long under here found ext =
      elim (cases_lt q 64) [
        | inl l ↦
            let other : q ≢ r = λ e. let g = under_high t k r under in omega (arith, g, l, e) in
            rw (word_low k n c q kind out hung l, ne_eqb q r other) refl
        | inr h ↦
            let tag = tag_of (etag_to t m p f k c) in
            let small = numb.small k r c found in
            let there_and_back = round (out kind) tag long (tag_fits t b m numb p f bytes k c (omega (arith, small))) in
            let e = carries.channels k n r c low hung under here found (tagged (out kind) tag) tag there_and_back.0 refl q (extended_from t q h ext) in
            word_high k n c q kind out hung ∙ (e ∙ (rw there_and_back.1 refl))
      ]

-- The one VLAN bridge's output.
use Rattle.std.proofs.Common.{◌≡◌, ℕ, ◌%◌, ◌≤◌, ◌==◌, ◌&&◌, ◌||◌, cond, Bool, true, false, not, List, length, map, Option, Some, None, nat_lt, refl, ◌∙◌, ap, subst, arith, inl, inr, eq-eqb}
use Rattle.std.specs.Prelude.{is_some}
use Rattle.std.proofs.lemmas.Bool.{cases_eq, cases_Bool, ne_eqb}
use Rattle.exb_model.specs.declared.vlan.Kind.{Kind}
use Rattle.exb_model.specs.declared.event.Event.TheVariants as event
use Rattle.exb_model.specs.declared.frame_kind.Seen.{Seen}
use Rattle.exb_model.specs.declared.frame_kind.Seen.TheVariants as seen
use Rattle.exb_model.specs.Frames.{number_at, is_reserved, kind_of_tag, kind_of, egress, IsBytes}
use Rattle.exb_model.specs.Tree.{Shape, IsTree, is_external}
use Rattle.exb_model.specs.ExtenderForwarding.{Tables}
use Rattle.exb_model.specs.Configuration.{Bridge, is_known}
use Rattle.exb_model.specs.Learning.{Look, passes, passes_as, admitted}
use Rattle.exb_model.specs.Targets.{target}
use Rattle.exb_model.specs.FlatBridge.{sent_as, sent_by}
use Rattle.exb_frame.specs.TagValues.{TagRoundTrip}
use Rattle.exb_model.specs.Numbers.{Numbers, IsReady, IsNumbering}
use Rattle.exb_relay.specs.Sends.{sends_of}
use Rattle.exb_model.specs.Carriage.{Carries}
use Rattle.exb_config.specs.Pvids.{HasPvids}
use Rattle.exb_relay.specs.Laws.{left_by}
use Rattle.exb_relay.proofs.TreeEgress.{listed_out, leaves_as_target}

-- the VLAN of a tag is 1 to 4094
abbrev HasVid : Seen → Type 0
HasVid (seen.Tagged pcp dei v) = (1 ≤ v) × (v ≤ 4094)
HasVid _ = Unit {0}

tag_vid : (tci : ℕ) → HasVid (kind_of_tag tci)
tag_vid tci =
    elim (cases_eq (tci % 4096) 4095) [
      | inl e ↦ rw (eq-eqb (tci % 4096) 4095 e) tt
      | inr n ↦ elim (cases_eq (tci % 4096) 0) [
        | inl e ↦ rw (ne_eqb (tci % 4096) 4095 n, eq-eqb (tci % 4096) 0 e) tt
        | inr o ↦ rw (ne_eqb (tci % 4096) 4095 n, ne_eqb (tci % 4096) 0 o) (omega (arith, o), omega (arith, n))
      ]
    ]

kind_vid : (f : List ℕ) → HasVid (kind_of f)
unfolding kind_of
kind_vid f =
    elim (cases_Bool (nat_lt (length f) 14)) [
      | inl e ↦ rw e tt
      | inr e ↦ elim (cases_Bool (nat_lt 9216 (length f))) [
        | inl d ↦ rw (e, d) tt
        | inr d ↦ elim (cases_Bool (is_reserved f)) [
          | inl c ↦ rw (e, d, c) tt
          | inr c ↦ elim (cases_Bool (number_at f 12 == 0x8100)) [
            | inr a ↦ rw (e, d, c, a) tt
            | inl a ↦ elim (cases_Bool (nat_lt (length f) 18)) [
              | inl z ↦ rw (e, d, c, a, z) tt
              | inr z ↦ rw (e, d, c, a, z) (tag_vid (number_at f 14))
            ]
          ]
        ]
      ]
    ]

abbrev Range : ℕ → Type 0
Range v = (1 ≤ v) × (v ≤ 4094)

admitted_vid : (b : Bridge) (p : ℕ) (accepted : Bool) (w v : ℕ) → admitted b p accepted w ≡ Some v → Range w → Range v
admitted_vid b p accepted w v e r = by_test (accepted && is_known b w && (not (b.rule p).filter || is_some (b.member w p))) e
  where
    by_test : (c : Bool) → cond c (Some w) None ≡ Some v → Range v
    by_test true e = let z : ◌≡◌ {A = Option ℕ} (Some w) (Some v) = e in let y : w ≡ v = cc in subst Range y r
    by_test false e = absurd (let z : ◌≡◌ {A = Option ℕ} None (Some v) = e in cc)

passes_range : (b : Bridge) (p : ℕ) (s : Seen) (v : ℕ) → HasPvids b → HasVid s → passes_as b p s ≡ Some v → Range v
passes_range b p seen.Plain v pvids has e = admitted_vid b p _ (b.rule p).pvid v e (pvids p)
passes_range b p (seen.Priority pcp dei) v pvids has e = admitted_vid b p _ (b.rule p).pvid v e (pvids p)
passes_range b p (seen.Tagged pcp dei w) v pvids has e = admitted_vid b p _ w v e has
passes_range b p _ v pvids has e = absurd (let z : ◌≡◌ {A = Option ℕ} None (Some v) = e in cc)

-- the VLAN in which a frame passes is 1 to 4094
pub passes_vid : (b : Bridge) (p : ℕ) (f : List ℕ) (v : ℕ) → HasPvids b → passes b p f ≡ Some v → (1 ≤ v) × (v ≤ 4094)
passes_vid b p f v pvids e = let r = passes_range b p (kind_of f) v pvids (kind_vid f) e in (r.0, r.1)

pub leaves_as_flat : (t : Shape) (u : Tables) (b : Bridge) (look : Look) (m : Numbers) (p : ℕ) (f : List ℕ) → IsTree t → IsReady t b m → IsNumbering m →
    Carries t u b m → HasPvids b → IsBytes f → b.present p ≡ true → TagRoundTrip → (q index moment : ℕ) → is_external t q ≡ true →
    map (λ (bytes : List ℕ). (moment, bytes)) (left_by t u f (passes b p f) (sends_of t b look m p f) q) ≡ sent_by b look (event.Relay p index moment f) q
leaves_as_flat t u b look m p f valid ready numb carries pvids bytes there round q index moment ext = by_vid (passes b p f) refl
  where
    by_vid : (o : Option ℕ) → passes b p f ≡ o →
        map (λ (bytes : List ℕ). (moment, bytes)) (left_by t u f o (sends_of t b look m p f) q) ≡ sent_as moment f o (target b look p f q)
    by_vid None e = refl
    by_vid (Some v) e =
        let r = passes_vid b p f v pvids e in
        ap (map (λ (bytes : List ℕ). (moment, bytes))) (leaves_as_target t u b look m p f v valid ready numb carries pvids bytes there e round q ext r.0 r.1) ∙
        by_kind (target b look p f q)
      where
        by_kind : (o : Option Kind) → map (λ (bytes : List ℕ). (moment, bytes)) (listed_out (λ kind. egress f kind v) o) ≡ sent_as moment f (Some v) o
        by_kind None = refl
        by_kind (Some kind) = refl

-- A frame with more bytes after its End has the same TLVs.
use Rattle.std.proofs.Common.{◌≡◌, ℕ, zero, suc, ◌+◌, ◌/◌, ◌%◌, ◌≤◌, ◌==◌, ◌&&◌, Bool, true, false, cond, List, [], ◌∷◌, ◌++◌, length, take, drop, Option, Some, None, Ok, Err, refl, sym, ap, ◌∙◌, arith, length-append}
use Rattle.std.specs.Prelude.{nat_le}
use Rattle.std.proofs.lemmas.Bool.{le-leb, leb-true}
use Rattle.std.proofs.lemmas.List.{get_or_append_left, take-append-le, drop-append-le, length-drop}
use Rattle.exb_model.specs.Frames.{number_at}
use Rattle.exb_model.proofs.FrameKinds.{control_longer}
use Rattle.exb_lldp.specs.declared.announce.Announce.{Announce}
use Rattle.exb_lldp.specs.declared.announce.LldpFault.TheVariants.{NotLldp}
use Rattle.exb_lldp.specs.declared.tlv.TlvPosition.TheVariants.{ChassisId}
use Rattle.exb_lldp.specs.Tlvs.{Tlv, Tlvs, end_at, tlv_in, with_first, tlvs_within, tlvs_from, first_misplaced, first_count}
use Rattle.exb_lldp.specs.Announcements.{is_lldp, verdict, chassis_in, announcing, told_by, announced}
use Rattle.exb_lldp.proofs.TlvSteps.{within_enough}

number_longer : (frame more : List ℕ) (at : ℕ) → at + 2 ≤ length frame → number_at (frame ++ more) at ≡ number_at frame at
number_longer frame more at le =
    let a = get_or_append_left frame more 0 at (omega arith) in
    let b = get_or_append_left frame more 0 (at + 1) (omega arith) in
    rw (a, b) refl

-- a TLV that lies whole in the frame
in_longer : (frame more : List ℕ) (at : ℕ) (t : Tlv) → tlv_in frame at ≡ Some t → (tlv_in (frame ++ more) at ≡ Some t) × (end_at (frame ++ more) at ≡ end_at frame at)
unfolding tlv_in
in_longer frame more at t e =
    elim (nat_le (end_at frame at) (length frame)) as (λ b. nat_le (end_at frame at) (length frame) ≡ b
    → cond b (Some (record { at = at; kind = number_at frame at / 512; value = take (number_at frame at % 512) (drop (at + 2) frame) })) None ≡ Some t
    → (tlv_in (frame ++ more) at ≡ Some t) × (end_at (frame ++ more) at ≡ end_at frame at)) [
      | true ↦ λ whole h.
          let fits : end_at frame at ≤ length frame = leb-true (end_at frame at) (length frame) whole in
          let same : number_at (frame ++ more) at ≡ number_at frame at = number_longer frame more at (omega arith) in
          let longer : nat_le (end_at frame at) (length (frame ++ more)) ≡ true = le-leb (end_at frame at) (length (frame ++ more)) (omega (arith, length-append frame more)) in
          let value : take (number_at frame at % 512) (drop (at + 2) (frame ++ more)) ≡ take (number_at frame at % 512) (drop (at + 2) frame) =
          ap (take (number_at frame at % 512)) (drop-append-le (at + 2) frame more (omega arith))
          ∙ take-append-le (number_at frame at % 512) (drop (at + 2) frame) more (omega (arith, length-drop (at + 2) frame)) in
          (rw (same, longer, value) h, ap (λ n. at + 2 + n % 512) same)
      | false ↦ λ whole h. absurd cc
    ] refl e

-- the TLVs from one on, if those after it stay the same
first_longer : (at : ℕ) (o : Option Tlv) (others longer : Tlvs) → (others.cut ≡ None → longer ≡ others) → (with_first at o others).cut ≡ None → with_first at o longer ≡ with_first at o others
first_longer at None others longer same e = refl
first_longer at (Some t) others longer same e =
    elim (t.kind == 0) as (λ b. (cond {A = Tlvs} b (record { all = t ∷ []; cut = None }) (record { all = t ∷ others.all; cut = others.cut })).cut ≡ None
    → cond {A = Tlvs} b (record { all = t ∷ []; cut = None }) (record { all = t ∷ longer.all; cut = longer.cut }) ≡ cond {A = Tlvs} b (record { all = t ∷ []; cut = None }) (record { all = t ∷ others.all; cut = others.cut })) [
      | true ↦ λ c. refl
      | false ↦ λ c. ap (λ (r : Tlvs). record { all = t ∷ r.all; cut = r.cut }) (same c)
    ] e

-- a TLV that is there, or one that is cut
here_longer : (frame more : List ℕ) (at : ℕ) (others longer : Tlvs) (o : Option Tlv) → tlv_in frame at ≡ o → (others.cut ≡ None → longer ≡ others) → (with_first at o others).cut ≡ None
    → with_first at (tlv_in (frame ++ more) at) longer ≡ with_first at o others
here_longer frame more at others longer None is same e = absurd cc
here_longer frame more at others longer (Some t) is same e =
    ap (λ o. with_first at o longer) (in_longer frame more at t is).0 ∙ first_longer at (Some t) others longer same e

end_longer : (frame more : List ℕ) (at : ℕ) (others : Tlvs) (o : Option Tlv) → tlv_in frame at ≡ o → (with_first at o others).cut ≡ None → end_at (frame ++ more) at ≡ end_at frame at
end_longer frame more at others None is e = absurd cc
end_longer frame more at others (Some t) is e = (in_longer frame more at t is).1

-- up to an End
within_longer : (most : ℕ) (frame more : List ℕ) (at : ℕ) → (tlvs_within most frame at).cut ≡ None → tlvs_within most (frame ++ more) at ≡ tlvs_within most frame at
unfolding tlvs_within
within_longer zero frame more at e = absurd cc
within_longer (suc most) frame more at e =
    here_longer frame more at (tlvs_within most frame (end_at frame at)) (tlvs_within most (frame ++ more) (end_at (frame ++ more) at)) (tlv_in frame at) refl
    (λ c. ap (tlvs_within most (frame ++ more)) (end_longer frame more at (tlvs_within most frame (end_at frame at)) (tlv_in frame at) refl e)
    ∙ within_longer most frame more (end_at frame at) c)
    e

from_longer : (frame more : List ℕ) (at : ℕ) → (tlvs_from frame at).cut ≡ None → tlvs_from (frame ++ more) at ≡ tlvs_from frame at
unfolding tlvs_from
from_longer frame more at e =
    let all : length (frame ++ more) ≤ at + length (frame ++ more) = omega arith in
    let same : tlvs_within (length frame) frame at ≡ tlvs_within (length (frame ++ more)) frame at = within_enough (length frame) (length (frame ++ more)) frame at (omega arith) (omega (arith, length-append frame more)) in
    within_longer (length (frame ++ more)) frame more at (ap (λ r. r.cut) (sym same) ∙ e) ∙ sym same

and_true : (a b : Bool) → (a && b) ≡ true → (a ≡ true) × (b ≡ true)
and_true true b e = (refl, e)
and_true false b e = absurd cc

lldp_longer : (frame more : List ℕ) → is_lldp frame ≡ true → is_lldp (frame ++ more) ≡ true
lldp_longer frame more e =
    let long : 14 ≤ length frame = leb-true 14 (length frame) (and_true _ _ e).0 in
    let longer : nat_le 14 (length (frame ++ more)) ≡ true = le-leb 14 (length (frame ++ more)) (omega (arith, length-append frame more)) in
    rw (longer, control_longer frame more (omega arith), number_longer frame more 12 (omega arith)) (and_true _ _ e).1

-- what tells an announcement is not cut
not_cut : (misplaced cut count : Option ℕ) (chassis : List ℕ) (a : Announce) → announcing chassis (verdict misplaced cut count) ≡ Ok a → cut ≡ None
not_cut (Some at) cut count chassis a e = absurd cc
not_cut None (Some at) count chassis a e = absurd cc
not_cut None None count chassis a e = refl

pub announced-longer : (frame more : List ℕ) (a : Announce) → announced frame ≡ Ok a → announced (frame ++ more) ≡ Ok a
unfolding announced
announced-longer frame more a e =
    elim (is_lldp frame) as (λ b. is_lldp frame ≡ b → cond b (told_by (tlvs_from frame 14)) (Err NotLldp) ≡ Ok a → announced (frame ++ more) ≡ Ok a) [
      | true ↦ λ is h.
          let r : Tlvs = tlvs_from frame 14 in
          let whole : (tlvs_from frame 14).cut ≡ None = not_cut (first_misplaced ChassisId (tlvs_from frame 14).all) (tlvs_from frame 14).cut (first_count (tlvs_from frame 14).all) (chassis_in (tlvs_from frame 14).all) a h in
          rw (lldp_longer frame more is, from_longer frame more 14 whole) h
      | false ↦ λ is h. absurd cc
    ] refl e

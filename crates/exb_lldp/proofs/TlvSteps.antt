-- One TLV after the other: what is told from an offset on, by the TLV there.
use Rattle.std.proofs.Common.{◌≡◌, ℕ, zero, suc, ◌+◌, ◌/◌, ◌%◌, ◌≤◌, ◌==◌, ◌&&◌, Bool, true, false, cond, List, [], ◌∷◌, length, take, drop, Option, Some, None, Result, Ok, Err, refl, sym, ap, ◌∙◌, subst, arith}
use Rattle.std.specs.Prelude.{nat_le}
use Rattle.std.specs.Option.{option_or, ok_or}
use Rattle.std.proofs.lemmas.Bool.{eqb-true, lt-leb, ne_eqb, eq-eqb}
use Rattle.exb_model.specs.Frames.{number_at}
use Rattle.exb_lldp.specs.declared.announce.LldpFault.{LldpFault}
use Rattle.exb_lldp.specs.declared.announce.LldpFault.TheVariants.{NotLldp, Cut, Order, NoExtension}
use Rattle.exb_lldp.specs.declared.tlv.TlvPosition.{TlvPosition}
use Rattle.exb_lldp.specs.declared.tlv.TlvPosition.TheVariants.{ChassisId, PortId, TimeToLive, Later}
use Rattle.exb_lldp.specs.Tlvs.{Tlv, Tlvs, end_at, tlv_in, with_first, tlvs_within, tlvs_from, is_placed, next_place, first_misplaced, count_in, first_count}
use Rattle.exb_lldp.specs.Announcements.{is_lldp, verdict, chassis_in, announced}
use Rattle.exb_lldp.specs.ParsedValues.{placed_in, if_placed}

-- nothing lies past the end
in_past : (frame : List ℕ) (at : ℕ) → length frame ≤ at → tlv_in frame at ≡ None
unfolding tlv_in
in_past frame at le = let e : nat_le (end_at frame at) (length frame) ≡ false = lt-leb _ _ (omega arith) in rw e refl

-- room for more TLVs than there are bytes changes nothing
pub within_enough : (m n : ℕ) (frame : List ℕ) (at : ℕ) → length frame ≤ at + m → length frame ≤ at + n → tlvs_within m frame at ≡ tlvs_within n frame at
unfolding tlvs_within
within_enough zero zero frame at a b = refl
within_enough zero (suc n) frame at a b = rw (in_past frame at (omega arith)) refl
within_enough (suc m) zero frame at a b = rw (in_past frame at (omega arith)) refl
within_enough (suc m) (suc n) frame at a b =
    ap (with_first at (tlv_in frame at)) (within_enough m n frame (end_at frame at) (omega arith) (omega arith))

from_step : (frame : List ℕ) (at : ℕ) → tlvs_from frame at ≡ with_first at (tlv_in frame at) (tlvs_from frame (end_at frame at))
unfolding tlvs_from tlvs_within
from_step frame at = within_enough (length frame) (suc (length frame)) frame at (omega arith) (omega arith)

in_at : (frame : List ℕ) (at : ℕ) (t : Tlv) → tlv_in frame at ≡ Some t → t.at ≡ at
unfolding tlv_in
in_at frame at t e =
    elim (nat_le (end_at frame at) (length frame)) as (λ b. cond b (Some (record { at = at; kind = number_at frame at / 512; value = take (number_at frame at % 512) (drop (at + 2) frame) })) None ≡ Some t → t.at ≡ at) [
      | true ↦ λ h. cc
      | false ↦ λ h. absurd cc
    ] e

-- the port count that TLVs tell, if none or this one was found before them
abbrev counted_in : TlvPosition → Option ℕ → Tlvs → Result ℕ LldpFault
counted_in place found tlvs = verdict (first_misplaced place tlvs.all) tlvs.cut (option_or found (first_count tlvs.all))

abbrev pub counted : TlvPosition → Option ℕ → List ℕ → ℕ → Result ℕ LldpFault
counted place found frame at = counted_in place found (tlvs_from frame at)

-- ---- the cases of what lies at an offset

not_placed : (place : TlvPosition) (t : Tlv) (at : ℕ) (fault : LldpFault) → t.at ≡ at → if_placed place at (Some t) ≡ Err fault → (is_placed place t ≡ false) × (Order t.at ≡ fault)
not_placed place t at fault same e =
    elim (is_placed place t) as (λ b. is_placed place t ≡ b → cond b (Ok t) (Err (Order at)) ≡ Err fault → (is_placed place t ≡ false) × (Order t.at ≡ fault)) [
      | true ↦ λ p h. absurd cc
      | false ↦ λ p h. (p, (let q : Order at ≡ fault = cc in rw same q))
    ] refl e

placed : (place : TlvPosition) (at : ℕ) (o : Option Tlv) (t : Tlv) → if_placed place at o ≡ Ok t → (o ≡ Some t) × (is_placed place t ≡ true)
placed place at None t e = absurd cc
placed place at (Some u) t e =
    elim (is_placed place u) as (λ b. is_placed place u ≡ b → cond b (Ok u) (Err (Order at)) ≡ Ok t → (Some u ≡ Some t) × (is_placed place t ≡ true)) [
      | true ↦ λ p h. (let q : u ≡ t = cc in (ap (λ v. Some v) q, subst (λ v. is_placed place v ≡ true) q p))
      | false ↦ λ p h. absurd cc
    ] refl e

fails_by : (place : TlvPosition) (found : Option ℕ) (at : ℕ) (o : Option Tlv) (others : Tlvs) (fault : LldpFault) → ((t : Tlv) → o ≡ Some t → t.at ≡ at)
    → if_placed place at o ≡ Err fault → counted_in place found (with_first at o others) ≡ Err fault
fails_by place found at None others fault same e = let q : Cut at ≡ fault = cc in ap (λ f. Err f) q
fails_by place found at (Some t) others fault same e =
    let n : (is_placed place t ≡ false) × (Order t.at ≡ fault) = not_placed place t at fault (same t refl) e in
    elim (t.kind == 0) as (λ b. counted_in place found (cond b (record { all = t ∷ []; cut = None }) (record { all = t ∷ others.all; cut = others.cut })) ≡ Err fault) [
      | true ↦ rw n.0 (ap (λ f. Err f) n.1)
      | false ↦ rw n.0 (ap (λ f. Err f) n.1)
    ]

-- a TLV that is cut or misplaced is the first fault
pub counted_fails : (place : TlvPosition) (found : Option ℕ) (frame : List ℕ) (at : ℕ) (fault : LldpFault) → placed_in place frame at ≡ Err fault → counted place found frame at ≡ Err fault
counted_fails place found frame at fault e =
    ap (counted_in place found) (from_step frame at)
    ∙ fails_by place found at (tlv_in frame at) (tlvs_from frame (end_at frame at)) fault (in_at frame at) e

or_assoc : (a b c : Option ℕ) → option_or a (option_or b c) ≡ option_or (option_or a b) c
or_assoc None b c = refl
or_assoc (Some x) b c = refl

or_none : (a : Option ℕ) → option_or a None ≡ a
or_none None = refl
or_none (Some x) = refl

-- a TLV that is not the End leads on to the next
pub counted_goes : (place : TlvPosition) (found : Option ℕ) (frame : List ℕ) (at : ℕ) (t : Tlv) → placed_in place frame at ≡ Ok t → (t.kind == 0) ≡ false
    → counted place found frame at ≡ counted (next_place place) (option_or found (count_in t)) frame (end_at frame at)
counted_goes place found frame at t e goes =
    let p : (tlv_in frame at ≡ Some t) × (is_placed place t ≡ true) = placed place at (tlv_in frame at) t e in
    ap (counted_in place found) (from_step frame at)
    ∙ ap (λ o. counted_in place found (with_first at o (tlvs_from frame (end_at frame at)))) p.0
    ∙ (rw (goes, p.1, or_assoc) refl)

no_extension : (t : Tlv) → (t.kind == 127) ≡ false → count_in t ≡ None
no_extension t e = rw e refl

-- the End tells what was found before it
pub counted_ends : (found : Option ℕ) (frame : List ℕ) (at : ℕ) (t : Tlv) → placed_in Later frame at ≡ Ok t → t.kind ≡ 0 → counted Later found frame at ≡ verdict None None found
counted_ends found frame at t e ends =
    let p : (tlv_in frame at ≡ Some t) × (is_placed Later t ≡ true) = placed Later at (tlv_in frame at) t e in
    let k : (t.kind == 0) ≡ true = eq-eqb t.kind 0 ends in
    let n : count_in t ≡ None = no_extension t (ne_eqb t.kind 127 (λ h. let x : 0 ≡ 127 = sym ends ∙ h in omega arith)) in
    ap (counted_in Later found) (from_step frame at)
    ∙ ap (λ o. counted_in Later found (with_first at o (tlvs_from frame (end_at frame at)))) p.0
    ∙ (rw (k, p.1, n, or_none) refl)

-- ---- the first three

and_left : (a b : Bool) → (a && b) ≡ true → a ≡ true
and_left true b e = refl
and_left false b e = absurd cc

-- a TLV of type 1, 2 or 3 is neither the End nor an extension
plain : (place : TlvPosition) (n : ℕ) (frame : List ℕ) (at next : ℕ) (t : Tlv) → next ≡ end_at frame at → placed_in place frame at ≡ Ok t → t.kind ≡ n → 1 ≤ n → n ≤ 3
    → counted place None frame at ≡ counted (next_place place) None frame next
plain place n frame at next t ends e k low high =
    counted_goes place None frame at t e (ne_eqb t.kind 0 (λ h. omega arith))
    ∙ ap (λ o. counted (next_place place) o frame (end_at frame at)) (no_extension t (ne_eqb t.kind 127 (λ h. omega arith)))
    ∙ ap (counted (next_place place) None frame) (sym ends)

pub chassis_goes : (frame : List ℕ) (at next : ℕ) (t : Tlv) → next ≡ end_at frame at → placed_in ChassisId frame at ≡ Ok t → counted ChassisId None frame at ≡ counted PortId None frame next
chassis_goes frame at next t ends e =
    let p : (tlv_in frame at ≡ Some t) × (is_placed ChassisId t ≡ true) = placed ChassisId at (tlv_in frame at) t e in
    plain ChassisId 1 frame at next t ends e (eqb-true t.kind 1 (and_left _ _ p.1)) (omega arith) (omega arith)

pub port_goes : (frame : List ℕ) (at next : ℕ) (t : Tlv) → next ≡ end_at frame at → placed_in PortId frame at ≡ Ok t → counted PortId None frame at ≡ counted TimeToLive None frame next
port_goes frame at next t ends e =
    let p : (tlv_in frame at ≡ Some t) × (is_placed PortId t ≡ true) = placed PortId at (tlv_in frame at) t e in
    plain PortId 2 frame at next t ends e (eqb-true t.kind 2 (and_left _ _ p.1)) (omega arith) (omega arith)

pub time_goes : (frame : List ℕ) (at next : ℕ) (t : Tlv) → next ≡ end_at frame at → placed_in TimeToLive frame at ≡ Ok t → counted TimeToLive None frame at ≡ counted Later None frame next
time_goes frame at next t ends e =
    let p : (tlv_in frame at ≡ Some t) × (is_placed TimeToLive t ≡ true) = placed TimeToLive at (tlv_in frame at) t e in
    plain TimeToLive 3 frame at next t ends e (eqb-true t.kind 3 (and_left _ _ p.1)) (omega arith) (omega arith)

chassis_first : (frame : List ℕ) (at : ℕ) (t : Tlv) → placed_in ChassisId frame at ≡ Ok t → chassis_in (tlvs_from frame at).all ≡ drop 1 t.value
chassis_first frame at t e =
    let p : (tlv_in frame at ≡ Some t) × (is_placed ChassisId t ≡ true) = placed ChassisId at (tlv_in frame at) t e in
    let k : (t.kind == 0) ≡ false = ne_eqb t.kind 0 (λ h. let x : t.kind ≡ 1 = eqb-true t.kind 1 (and_left _ _ p.1) in omega arith) in
    ap (λ r. chassis_in r.all) (from_step frame at)
    ∙ ap (λ o. chassis_in (with_first at o (tlvs_from frame (end_at frame at))).all) p.0
    ∙ (rw k refl)

-- ---- a whole frame

pub announced_not : (frame : List ℕ) → is_lldp frame ≡ false → announced frame ≡ Err NotLldp
unfolding announced
announced_not frame e = rw e refl

pub announced_fails : (frame : List ℕ) (fault : LldpFault) → is_lldp frame ≡ true → counted ChassisId None frame 14 ≡ Err fault → announced frame ≡ Err fault
unfolding announced
announced_fails frame fault e h = rw (e, h) refl

pub announced_ok : (frame : List ℕ) (t : Tlv) (ports : ℕ) → is_lldp frame ≡ true → placed_in ChassisId frame 14 ≡ Ok t → counted ChassisId None frame 14 ≡ Ok ports
    → announced frame ≡ Ok (record { chassis = record { 0 = drop 1 t.value }; ports = ports })
unfolding announced
announced_ok frame t ports e p h = rw (e, h, chassis_first frame 14 t p) refl

-- what was found before the End, or that nothing was
pub ok_or_found : (found : Option ℕ) → ok_or found NoExtension ≡ verdict None None found
ok_or_found None = refl
ok_or_found (Some ports) = refl

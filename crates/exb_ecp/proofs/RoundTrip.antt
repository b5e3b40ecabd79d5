-- What is spelled is read again.
use Rattle.std.proofs.Common.{◌≡◌, ℕ, suc, ◌+◌, ◌*◌, ◌/◌, ◌%◌, ◌<◌, Bool, true, false, cond, List, [], ◌∷◌, length, get_or, drop, Ok, refl, ap, sym, ◌∙◌, subst, arith}
use Rattle.std.specs.Prelude.{nat_le, nat_lt}
use Rattle.std.proofs.lemmas.Bool.{le-leb, le-ltb}
use Rattle.exb_model.specs.declared.address.Mac.{Mac}
use Rattle.exb_model.specs.Frames.{is_control_frame}
use Rattle.exb_ecp.specs.declared.pdu.Pdu.{Pdu}
use Rattle.exb_ecp.specs.Frames.{pdu_in, spelling, carried, header_word, CanBeWritten, WrittenIsRead}

-- the six bytes of an address
pub six : (m : List ℕ) → length m ≡ 6 → m ≡ get_or m 0 0 ∷ get_or m 1 0 ∷ get_or m 2 0 ∷ get_or m 3 0 ∷ get_or m 4 0 ∷ get_or m 5 0 ∷ []
six [] h = absurd (omega arith)
six (a ∷ []) h = absurd (omega arith)
six (a ∷ b ∷ []) h = absurd (omega arith)
six (a ∷ b ∷ c ∷ []) h = absurd (omega arith)
six (a ∷ b ∷ c ∷ d ∷ []) h = absurd (omega arith)
six (a ∷ b ∷ c ∷ d ∷ e ∷ []) h = absurd (omega arith)
six (a ∷ b ∷ c ∷ d ∷ e ∷ f ∷ []) h = refl
six (a ∷ b ∷ c ∷ d ∷ e ∷ f ∷ g ∷ m) h = absurd (omega arith)

bit : Bool → ℕ
bit b = cond b 1 0

-- a frame with this operation, subtype and sequence
framed : (a b c d e f word sequence subtype : ℕ) (acknowledgement : Bool) (rest : List ℕ) → word ≡ 4096 + cond acknowledgement 1 0 * 1024 + subtype → subtype < 1024
    → pdu_in (1 ∷ 128 ∷ 194 ∷ 0 ∷ 0 ∷ 14 ∷ a ∷ b ∷ c ∷ d ∷ e ∷ f ∷ 137 ∷ 64 ∷ word / 256 ∷ word % 256 ∷ sequence / 256 ∷ sequence % 256 ∷ rest)
    ≡ Ok (record { acknowledgement = acknowledgement; subtype = subtype; sequence = sequence; payload_at = 18 })
unfolding is_control_frame
framed a b c d e f word sequence subtype acknowledgement rest is few =
    let whole : word / 256 * 256 + word % 256 ≡ word = omega arith in
    let other : sequence / 256 * 256 + sequence % 256 ≡ sequence = omega arith in
    let long : nat_lt (suc (suc (suc (suc (suc (suc (suc (suc (suc (suc (suc (suc (suc (suc (suc (suc (suc (suc (length rest))))))))))))))))))) 18 ≡ false = le-ltb _ _ (omega arith) in
    let begins : nat_le 14 (suc (suc (suc (suc (suc (suc (suc (suc (suc (suc (suc (suc (suc (suc (suc (suc (suc (suc (length rest))))))))))))))))))) ≡ true = le-leb _ _ (omega arith) in
    elim acknowledgement as (λ k. word ≡ 4096 + cond k 1 0 * 1024 + subtype
    → pdu_in (1 ∷ 128 ∷ 194 ∷ 0 ∷ 0 ∷ 14 ∷ a ∷ b ∷ c ∷ d ∷ e ∷ f ∷ 137 ∷ 64 ∷ word / 256 ∷ word % 256 ∷ sequence / 256 ∷ sequence % 256 ∷ rest)
    ≡ Ok (record { acknowledgement = k; subtype = subtype; sequence = sequence; payload_at = 18 })) [
      | true ↦ λ h. (let v : word / 4096 ≡ 1 = omega arith in let o : word / 1024 % 4 ≡ 1 = omega arith in let s : word % 1024 ≡ subtype = omega arith in
          rw (begins, whole, other, long, v, o, s) refl)
      | false ↦ λ h. (let v : word / 4096 ≡ 1 = omega arith in let o : word / 1024 % 4 ≡ 0 = omega arith in let s : word % 1024 ≡ subtype = omega arith in
          rw (begins, whole, other, long, v, o, s) refl)
    ] is

pub pdu_in-spelling : (source : Mac) (p : Pdu) (payload : List ℕ) → length source.0 ≡ 6 → CanBeWritten p payload → pdu_in (spelling source p payload) ≡ Ok p
pdu_in-spelling source p payload h fits =
    let m : List ℕ = source.0 in
    let P : List ℕ → Type 0 = λ m. pdu_in (spelling (record { 0 = m }) p payload) ≡ Ok p in
    subst P (sym (six source.0 h))
    (framed (get_or m 0 0) (get_or m 1 0) (get_or m 2 0) (get_or m 3 0) (get_or m 4 0) (get_or m 5 0) (header_word p) p.sequence p.subtype p.acknowledgement (carried p payload) refl fits.subtype
    ∙ ap (λ at. Ok (record { acknowledgement = p.acknowledgement; subtype = p.subtype; sequence = p.sequence; payload_at = at })) (sym fits.place))

pub drop-spelling : (source : Mac) (p : Pdu) (payload : List ℕ) → length source.0 ≡ 6 → drop 18 (spelling source p payload) ≡ carried p payload
drop-spelling source p payload h =
    let P : List ℕ → Type 0 = λ m. drop 18 (spelling (record { 0 = m }) p payload) ≡ carried p payload in
    subst P (sym (six source.0 h)) refl

pub length_spelling : (source : Mac) (p : Pdu) (payload : List ℕ) → length source.0 ≡ 6 → length (spelling source p payload) ≡ 18 + length (carried p payload)
length_spelling source p payload h =
    let P : List ℕ → Type 0 = λ m. length (spelling (record { 0 = m }) p payload) ≡ 18 + length (carried p payload) in
    subst P (sym (six source.0 h)) (omega arith)

pub is_read_again : WrittenIsRead
is_read_again source p payload h fits = record {
  header = pdu_in-spelling source p payload h fits;
  carries = drop-spelling source p payload h;
  long = length_spelling source p payload h;
}

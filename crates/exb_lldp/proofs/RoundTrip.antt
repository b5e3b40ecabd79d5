-- An announcement's spelling announces it.
use Rattle.std.proofs.Common.{◌≡◌, ℕ, ◌≤◌, true, List, [], ◌∷◌, length, get_or, Ok, refl, ap, sym, subst, arith}
use Rattle.std.specs.Prelude.{nat_le}
use Rattle.std.proofs.lemmas.Bool.{le-leb}
use Rattle.exb_model.specs.Frames.{is_control_frame}
use Rattle.exb_lldp.specs.declared.announce.Announce.{Announce}
use Rattle.exb_lldp.specs.Tlvs.{tlv_in, tlvs_within, tlvs_from}
use Rattle.exb_lldp.specs.Encoding.{CanBeAnnounced, spelling}
use Rattle.exb_lldp.specs.Announcements.{announced}

-- the six bytes of an address
pub six : (m : List ℕ) → length m ≡ 6 → m ≡ get_or m 0 0 ∷ get_or m 1 0 ∷ get_or m 2 0 ∷ get_or m 3 0 ∷ get_or m 4 0 ∷ get_or m 5 0 ∷ []
six [] h = absurd (omega arith)
six (a ∷ []) h = absurd (omega arith)
six (a ∷ b ∷ []) h = absurd (omega arith)
six (a ∷ b ∷ c ∷ []) h = absurd (omega arith)
six (a ∷ b ∷ c ∷ d ∷ []) h = absurd (omega arith)
six (a ∷ b ∷ c ∷ d ∷ e ∷ []) h = absurd (omega arith)
six (a ∷ b ∷ c ∷ d ∷ e ∷ f ∷ []) h = refl
six (a ∷ b ∷ c ∷ d ∷ e ∷ f ∷ g ∷ m) h = absurd (omega arith)

-- the spelling, byte for byte
pub spelling_is : (a : Announce) → length a.chassis.0 ≡ 6
    → spelling a ≡ 1 ∷ 128 ∷ 194 ∷ 0 ∷ 0 ∷ 14
    ∷ get_or a.chassis.0 0 0 ∷ get_or a.chassis.0 1 0 ∷ get_or a.chassis.0 2 0 ∷ get_or a.chassis.0 3 0 ∷ get_or a.chassis.0 4 0 ∷ get_or a.chassis.0 5 0
    ∷ 136 ∷ 204 ∷ 2 ∷ 7 ∷ 4
    ∷ get_or a.chassis.0 0 0 ∷ get_or a.chassis.0 1 0 ∷ get_or a.chassis.0 2 0 ∷ get_or a.chassis.0 3 0 ∷ get_or a.chassis.0 4 0 ∷ get_or a.chassis.0 5 0
    ∷ 4 ∷ 3 ∷ 7 ∷ 117 ∷ 112 ∷ 6 ∷ 2 ∷ 0 ∷ 120 ∷ 254 ∷ 5 ∷ 2 ∷ 69 ∷ 66 ∷ 1 ∷ a.ports ∷ 0 ∷ 0 ∷ []
unfolding spelling
spelling_is a h = ap (λ m. spelling (record { chassis = record { 0 = m }; ports = a.ports })) (six a.chassis.0 h)

of_six : (a b c d e f ports : ℕ) → 1 ≤ ports → ports ≤ 64
    → announced (spelling (record { chassis = record { 0 = a ∷ b ∷ c ∷ d ∷ e ∷ f ∷ [] }; ports = ports })) ≡ Ok (record { chassis = record { 0 = a ∷ b ∷ c ∷ d ∷ e ∷ f ∷ [] }; ports = ports })
unfolding announced is_control_frame tlvs_from tlvs_within tlv_in spelling
of_six a b c d e f ports some few =
    let low : nat_le 1 ports ≡ true = le-leb 1 ports some in
    let high : nat_le ports 64 ≡ true = le-leb ports 64 few in
    rw (low, high) refl

-- what is spelled is read again
pub announced-spelling : (a : Announce) → length a.chassis.0 ≡ 6 → CanBeAnnounced a → announced (spelling a) ≡ Ok a
announced-spelling a h fits =
    let P : List ℕ → Type 0 = λ m. announced (spelling (record { chassis = record { 0 = m }; ports = a.ports })) ≡ Ok (record { chassis = record { 0 = m }; ports = a.ports }) in
    let m : List ℕ = a.chassis.0 in
    subst P (sym (six a.chassis.0 h)) (of_six (get_or m 0 0) (get_or m 1 0) (get_or m 2 0) (get_or m 3 0) (get_or m 4 0) (get_or m 5 0) a.ports fits.some fits.few)

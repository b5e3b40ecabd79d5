-- The world of a valid setup is sound as it begins.
use Rattle.std.proofs.Common.{◌≡◌, ℕ, suc, ◌≤◌, List, [], ◌∷◌, length, set, slice_index, ◌∙◌, arith, inl, inr}
use Rattle.std.specs.Prelude.{All, replicate}
use Rattle.std.proofs.lemmas.Bool.{cases_eq}
use Rattle.std.proofs.lemmas.List.{get_or-set_same, get_or-set_other, length-set, length-replicate}
use Rattle.exb_model.specs.declared.setup.ExtenderSetup.{ExtenderSetup}
use Rattle.exb_model.specs.declared.setup.Setup.{Setup}
use Rattle.exb_model.specs.Setup.{IsValid, InRange, lay, shape_of, limits_of, start_of}
use Rattle.exb_model.proofs.PortBits.{get_or-same}
use Rattle.exb_control_spec.proofs.Runs.InitialMachine.{setups_begin}
use Rattle.exb_world_spec.specs.Runs.SessionLaws.{HasFewPorts, SetupsBeginSound}
use Rattle.exb_world_spec.proofs.SessionLaws.{begins_sound}

few_set : (table : List ℕ) (i v : ℕ) → length table ≡ 65 → i ≤ 64 → v ≤ 64 → ((n : ℕ) → slice_index table n ≤ 64) → (n : ℕ) → slice_index (set table i v) n ≤ 64
few_set table i v long low small few n =
    elim (cases_eq n i) [
      | inl e ↦ rw (e, get_or-set_same table i v 0 (omega arith)) small
      | inr ne ↦ rw (get_or-set_other table i n v 0 ne) (few n)
    ]

few_laid : (es : List ExtenderSetup) (table : List ℕ) → All InRange es → length table ≡ 65 → ((n : ℕ) → slice_index table n ≤ 64) → (n : ℕ) → slice_index (lay (λ e. e.ports) table es) n ≤ 64
few_laid [] table all long few = few
few_laid (e ∷ es) table all long few =
    let first : InRange e = all 0 e (omega arith) in
    let more : length (set table e.number e.ports) ≡ 65 = length-set table e.number e.ports ∙ long in
    few_laid es (set table e.number e.ports) (λ k d h. all (suc k) d (omega arith)) more (few_set table e.number e.ports long first.number first.ports few)

at_most : (m : ℕ) → m ≡ 0 → m ≤ 64
at_most m e = omega arith

pub few_ports : (s : Setup) → IsValid s → HasFewPorts (shape_of s)
unfolding shape_of
few_ports s valid =
    let sized : length {A = ℕ} (replicate 65 0) ≡ 65 = length-replicate {A = ℕ} 65 0 in
    let none : (n : ℕ) → slice_index (replicate 65 0) n ≤ 64 = λ n. at_most (slice_index (replicate 65 0) n) (get_or-same 65 n 0) in
    few_laid s.extenders (set (replicate 65 0) 0 s.ports) valid.ranges (length-set (replicate 65 0) 0 s.ports ∙ sized) (few_set (replicate 65 0) 0 s.ports sized (omega arith) valid.ports none)

pub setups_begin_sound : SetupsBeginSound
setups_begin_sound s valid =
    let k = setups_begin s valid in
    (k.0, begins_sound (shape_of s) (limits_of s) (start_of s) s.ageing k.0 (few_ports s valid) k.1)

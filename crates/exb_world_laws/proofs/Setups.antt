-- The world of each valid setup may start.
use Rattle.std.proofs.Common.{◌≡◌, ℕ, suc, ◌<◌, ◌≤◌, nat_lt, false, List, [], ◌∷◌, length, set, slice_index, sym, ◌∙◌, ap, subst, arith, inl, inr}
use Rattle.std.specs.Prelude.{◌⊎◌, All, replicate, fold}
use Rattle.std.proofs.lemmas.Bool.{cases_eq, lt-ltb, and_from, false≢true}
use Rattle.std.proofs.lemmas.List.{get_or-set_same, get_or-set_other, length-set, length-replicate}
use Rattle.exb_model.specs.declared.command.Command.{Command}
use Rattle.exb_model.specs.declared.setup.ExtenderSetup.{ExtenderSetup}
use Rattle.exb_model.specs.declared.setup.Setup.{Setup}
use Rattle.exb_model.specs.Configuration.{Bridge, empty_bridge, after}
use Rattle.exb_model.specs.Setup.{IsValid, InRange, lay, port_at, shape_of, start_of}
use Rattle.exb_model.specs.Tree.{on, is_extender}
use Rattle.exb_model.proofs.PortBits.{get_or-same}
use Rattle.exb_config.specs.Pvids.{HasPvids}
use Rattle.exb_control_spec.proofs.Runs.InitialMachine.{setups_begin}
use Rattle.exb_world_spec.proofs.Setups.{few_ports}
use Rattle.exb_world_laws.specs.WorldInvariant.{SetupsMayStart}
use Rattle.exb_world_spec.specs.Runs.ReachedWorlds.{HasVid}
use Rattle.exb_world_laws.proofs.LongerHistories.{pvids_command}

-- ---- what is no extender hangs nowhere
abbrev HangsLow : List ℕ → List ℕ → ℕ → Type 0
HangsLow ports hangs n = (slice_index hangs n < 64) ⊎ ((0 < n) × (0 < slice_index ports n))

low_laid : (es : List ExtenderSetup) (ports hangs : List ℕ) → All InRange es → length ports ≡ 65 → ((n : ℕ) → HangsLow ports hangs n) → (n : ℕ) → HangsLow (lay (λ e. e.ports) ports es) (lay (λ e. port_at e.on) hangs es) n
low_laid [] ports hangs all long low = low
low_laid (e ∷ es) ports hangs all long low =
    let first : InRange e = all 0 e (omega arith) in
    low_laid es (set ports e.number e.ports) (set hangs e.number (port_at e.on)) (λ k d h. all (suc k) d (omega arith)) (length-set ports e.number e.ports ∙ long) (λ n. by_number first n (low n))
  where
    some_ports : (m k : ℕ) → m ≡ k → 1 ≤ k → 0 < m
    some_ports m k e l = omega (arith, e, l)

    by_number : InRange e → (n : ℕ) → HangsLow ports hangs n → HangsLow (set ports e.number e.ports) (set hangs e.number (port_at e.on)) n
    by_number first n was =
        elim (cases_eq n e.number) [
          | inl same ↦
              let within : e.number < length ports = (let g = first.number in omega (arith, g, long)) in
              let here : slice_index (set ports e.number e.ports) n ≡ e.ports = ap (slice_index (set ports e.number e.ports)) same ∙ get_or-set_same ports e.number e.ports 0 within in
              inr ((let g = first.numbered in omega (arith, g, same)), some_ports (slice_index (set ports e.number e.ports) n) e.ports here first.some)
          | inr other ↦
              let ports_same : slice_index (set ports e.number e.ports) n ≡ slice_index ports n = get_or-set_other ports e.number n e.ports 0 other in
              let hangs_same : slice_index (set hangs e.number (port_at e.on)) n ≡ slice_index hangs n = get_or-set_other hangs e.number n (port_at e.on) 0 other in
              elim was [
                | inl l ↦ inl (subst (λ (x : ℕ). x < 64) (sym hangs_same) l)
                | inr r ↦ inr (r.0, subst (λ (x : ℕ). 0 < x) (sym ports_same) r.1)
              ]
        ]

below : (m : ℕ) → m ≡ 0 → m < 64
below m e = omega (arith, e)

absent_low : (s : Setup) → IsValid s → (k : ℕ) → is_extender (shape_of s) k ≡ false → on (shape_of s) k < 64
unfolding shape_of
absent_low s valid k none =
    let sized : length {A = ℕ} (replicate 65 0) ≡ 65 = length-replicate {A = ℕ} 65 0 in
    let ports : List ℕ = set (replicate 65 0) 0 s.ports in
    let laid = low_laid s.extenders ports (replicate 65 0) valid.ranges (length-set (replicate 65 0) 0 s.ports ∙ sized) (λ n. inl (below (slice_index (replicate 65 0) n) (get_or-same 65 n 0))) k in
    elim laid [
      | inl l ↦ l
      | inr r ↦ absurd (false≢true (sym none ∙ and_from (nat_lt 0 k) _ (lt-ltb 0 k r.0) (lt-ltb 0 _ r.1)))
    ]

-- ---- VLANs of ports at the start
start_pvids : (cs : List Command) (b : Bridge) → All HasVid cs → HasPvids b → HasPvids (fold (λ k c. after c k) b cs)
start_pvids [] b all k = k
start_pvids (c ∷ cs) b all k = start_pvids cs (after c b) (λ n d h. all (suc n) d (omega arith)) (pvids_command c b (all 0 c (omega arith)) k)

pub setups_may_start : SetupsMayStart
unfolding start_of
setups_may_start s valid vids =
    let k = setups_begin s valid in
    record {
      setting = k.0;
      few = few_ports s valid;
      begin = k.1;
      absent = absent_low s valid;
      pvids = start_pvids s.start (empty_bridge _) vids (λ p. (omega arith, omega arith));
    }

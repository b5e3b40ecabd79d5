-- How large a net of a file is, and that its commands come in their order.
use Rattle.std.proofs.Common.{◌≡◌, ℕ, suc, ◌+◌, ◌<◌, ◌≤◌, ◌++◌, List, [], ◌∷◌, Result, Ok, All, length, get_or, map, refl, ap, sym, ◌∙◌, subst, arith, codes, zero-add}
use Rattle.std.specs.Prelude.{nat_lt}
use Rattle.std.specs.List.{AllPairs, range_with_len, sum_by}
use Rattle.std.proofs.lemmas.Bool.{ltb-false}
use Rattle.std.proofs.lemmas.List.{get_or-map, length-map, length-append}
use Rattle.std.proofs.lemmas.List.Sums.{sum_by-cons}
use Rattle.exb_model.specs.declared.setup.Timed.{Timed}
use Rattle.exb_model.specs.Input.{Given, given_by, tree_of}
use Rattle.exb_model.specs.Ports.{below}
use Rattle.exb_model.specs.Setup.{shape_of}
use Rattle.exb_model.specs.Tree.{external_ports}
use Rattle.exb_toml_keys.specs.Faults.{Refusal}
use Rattle.exb_toml_keys.specs.declared.faults.KeyFault.TheVariants as fault
use Rattle.exb_toml_keys.proofs.PassedSteps.{went}
use Rattle.exb_net_spec.specs.declared.wires.Wire.{Wire}
use Rattle.exb_net_spec.specs.Nets.{Net, IsOfFile}
use Rattle.exb_net_spec.specs.InputOrder.{AreTimely}
use Rattle.exb_topology.specs.Soundness.{IsSound}
use Rattle.exb_topology.proofs.ElementChecks.{refuse_ok}
use Rattle.exb_net_file.specs.declared.elements.NetWire.{NetWire}
use Rattle.exb_net_file.specs.declared.members.NetMember.{NetMember}
use Rattle.exb_net_file.specs.Members.{tree_in, ports_together}
use Rattle.exb_net_file.specs.Wires.{wire_in, wires_from, wires_of}
use Rattle.exb_net_file.specs.Soundness.{IsMadeOf}
use Rattle.exb_net_file.proofs.Nets.{past, some_member}

ok_same : {A : Type 0} (x y : A) → ◌≡◌ {A = Result A Refusal} (Ok x) (Ok y) → x ≡ y
ok_same x y e = cc

-- ---- one wire for each that is named
as_many : (ms : List NetMember) (before : List Wire) (i : ℕ) (ws : List NetWire) (xs : List Wire) → wires_from ms before i ws ≡ Ok xs → length xs ≡ length before + length ws
unfolding wires_from
as_many ms before i [] xs h = omega (arith, ap length (ok_same before xs h))
as_many ms before i (w ∷ ws) xs h =
    let a = went (wire_in ms before i w) (λ x. wires_from ms (before ++ x ∷ []) (i + 1) ws) xs h in
    omega (arith, as_many ms (before ++ a.passed ∷ []) (i + 1) ws xs a.rest, length-append before (a.passed ∷ []))

-- ---- ports of all bridges, by number and one after the other
sums_same : (f : ℕ → ℕ) (g : NetMember → ℕ) (i : ℕ) (ms : List NetMember) → ((k : ℕ) (d : NetMember) → k < length ms → f (i + k) ≡ g (get_or ms k d)) → sum_by f (range_with_len i (length ms)) ≡ sum_by g ms
sums_same f g i [] same = refl
sums_same f g i (m ∷ ms) same =
    let zeroth : i ≡ i + 0 = omega arith in
    let head : f i ≡ g m = ap f zeroth ∙ same 0 m (omega arith) in
    let later : (k : ℕ) → (i + 1) + k ≡ i + suc k = λ k. omega arith in
    let tail : sum_by f (range_with_len (i + 1) (length ms)) ≡ sum_by g ms = sums_same f g (i + 1) ms (λ k d lt. ap f (later k) ∙ same (suc k) d (omega arith)) in
    sum_by-cons f i (range_with_len (i + 1) (length ms))
    ∙ (λ j. head j + tail j)
    ∙ sym (sum_by-cons g m ms)

ports_same : (ms : List NetMember) (xs : List Wire) (n : Net) → IsMadeOf ms xs n → sum_by (λ b. length (external_ports (tree_of (n.input b)))) (below n.count) ≡ ports_together ms
unfolding below ports_together
ports_same ms xs n made =
    ap (λ c. sum_by (λ b. length (external_ports (tree_of (n.input b)))) (range_with_len 0 c)) made.count
    ∙ sums_same (λ b. length (external_ports (tree_of (n.input b)))) (λ m. length (external_ports (tree_in m))) 0 ms
    (λ k d lt. ap (λ b. length (external_ports (tree_of (n.input b)))) (zero-add k) ∙ ap (λ s. length (external_ports (shape_of s))) (made.inputs k d lt).setup)

pub nets_are_of_file : (ms : List NetMember) (ws : List NetWire) (xs : List Wire) (n : Net) → 1 ≤ length ms → length ms ≤ 16 → length ws ≤ 15 → wires_of ms ws ≡ Ok xs → IsMadeOf ms xs n → IsOfFile n
nets_are_of_file ms ws xs n some few few_wires h made =
    let p = past ms ws xs h in
    let low : ports_together ms ≤ 4160 = ltb-false 4160 (ports_together ms) (refuse_ok (nat_lt 4160 (ports_together ms)) fault.Range (codes "bridge") p.few) in
    record {
      some = omega (arith, some, made.count);
      bridges = omega (arith, few, made.count);
      wires = omega (arith, few_wires, as_many ms [] 0 ws xs p.wires, ap length made.wires);
      ports = omega (arith, low, ports_same ms xs n made);
    }

-- ---- commands
pairs_map : (cs : List Timed) → AllPairs (λ a b. a.at ≤ b.at) cs → AllPairs (λ c d. c.at ≤ d.at) (map given_by cs)
pairs_map [] rise = λ i j d lt within. absurd (omega arith)
pairs_map (c ∷ cs) rise = λ i j d lt within.
    let low : j < length (c ∷ cs) = omega (arith, within, length-map (c ∷ cs) given_by) in
    let first = get_or-map given_by (c ∷ cs) i c d (omega (arith, lt, low)) in
    let second = get_or-map given_by (c ∷ cs) j c d low in
    let by = rise i j c lt low in
    omega (arith, by, ap (λ (g : Given). g.at) first, ap (λ (g : Given). g.at) second)

pub nets_are_timely : (ms : List NetMember) (xs : List Wire) (n : Net) → All (λ m. IsSound m.topology) ms → IsMadeOf ms xs n → AreTimely n
nets_are_timely ms xs n sound made b lt =
    let here : b < length ms = omega (arith, lt, made.count) in
    let d = some_member ms b here in
    subst (AllPairs (λ c e. c.at ≤ e.at)) (sym (made.inputs b d here).commands) (pairs_map (get_or ms b d).topology.commands (sound b d here).rising)

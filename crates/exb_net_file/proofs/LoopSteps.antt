-- The steps of loops.
use Rattle.std.proofs.Common.{◌≡◌, ◌≢◌, ℕ, ◌+◌, ◌<◌, ◌≤◌, ◌++◌, true, false, cond, List, [], ◌∷◌, Some, None, Ok, Err, length, get_or, set, slice_index, take, drop, filter, refl, ap, sym, ◌∙◌, subst, arith, inl, inr}
use Rattle.std.specs.Str.{bytes_eq}
use Rattle.std.proofs.lemmas.Bool.{cases_Bool, cases_eq}
use Rattle.std.proofs.lemmas.List.{drop_more, drop_all, take_more, length_push, get_or-set_same, get_or-set_other}
use Rattle.exb_model.specs.Ports.{below}
use Rattle.exb_model.specs.Tree.{Shape, is_external, external_ports}
use Rattle.exb_toml_keys.specs.declared.faults.TopoFault.{TopoFault}
use Rattle.exb_toml_keys.specs.Faults.{Fails}
use Rattle.exb_toml_keys.proofs.ItemLoops.{fails_along}
use Rattle.exb_topology.proofs.CommandLists.{filter_yes, filter_no}
use Rattle.exb_net_spec.specs.declared.wires.Wire.{Wire}
use Rattle.exb_net_file.specs.declared.elements.NetWire.{NetWire}
use Rattle.exb_net_file.specs.declared.members.NetMember.{NetMember}
use Rattle.exb_net_file.specs.Members.{ports_together, tree_in}
use Rattle.std.specs.List.{sum_by}
use Rattle.std.proofs.lemmas.List.Sums.{sum_by_push}
use Rattle.exb_net_file.specs.Wires.{member_from, wire_in, wires_from}
use Rattle.exb_net_file.proofs.LoopTest.{other_label}

-- ---- external ports that are counted
pub none_counted : (t : Shape) → 0 ≡ length (filter (is_external t) (below 0))
unfolding below
none_counted t = refl

pub one_more : (t : Shape) (n : ℕ) → length (filter (is_external t) (below (n + 1))) ≡ length (filter (is_external t) (below n)) + cond (is_external t n) 1 0
one_more t n =
    elim (cases_Bool (is_external t n)) [
      | inl k ↦ rw k (ap length (filter_yes (is_external t) n k) ∙ length_push (filter (is_external t) (below n)) n)
      | inr k ↦ rw k (ap length (filter_no (is_external t) n k) ∙ omega arith)
    ]

pub all_counted : (t : Shape) (n : ℕ) → n ≡ 4160 → length (filter (is_external t) (below n)) ≡ length (external_ports t)
unfolding external_ports
all_counted t n all = ap (λ k. length (filter (is_external t) (below k))) all

-- ---- a bridge that is looked for
pub found_here : (name : List ℕ) (ms : List NetMember) (i : ℕ) (m : NetMember) → i < length ms → get_or ms i m ≡ m → bytes_eq m.name name ≡ true → member_from i name (drop i ms) ≡ member_from 0 name ms → Some (i, m) ≡ member_from 0 name ms
unfolding member_from
found_here name ms i m lt is same so_far =
    let one : member_from i name (drop i ms) ≡ Some (i, m) = rw (drop_more ms i m lt, is, same) refl in
    sym one ∙ so_far

pub found_later : (name : List ℕ) (ms : List NetMember) (i : ℕ) (m : NetMember) → i < length ms → get_or ms i m ≡ m → bytes_eq m.name name ≡ false → member_from i name (drop i ms) ≡ member_from 0 name ms → member_from (i + 1) name (drop (i + 1) ms) ≡ member_from 0 name ms
unfolding member_from
found_later name ms i m lt is other so_far =
    let one : member_from i name (drop i ms) ≡ member_from (i + 1) name (drop (i + 1) ms) = rw (drop_more ms i m lt, is, other) refl in
    sym one ∙ so_far

pub found_none : (name : List ℕ) (ms : List NetMember) (i : ℕ) → length ms ≤ i → member_from i name (drop i ms) ≡ member_from 0 name ms → None ≡ member_from 0 name ms
unfolding member_from
found_none name ms i le so_far =
    let one : member_from i name (drop i ms) ≡ None = rw (drop_all i ms le) refl in
    sym one ∙ so_far

-- ---- wires one after the other
pub wires_go_on : (ms : List NetMember) (before : List Wire) (ws : List NetWire) (i : ℕ) (w : NetWire) (x : Wire) → i < length ws → get_or ws i w ≡ w → wire_in ms before i w ≡ Ok x
    → wires_from ms before i (drop i ws) ≡ wires_from ms [] 0 ws → wires_from ms (before ++ x ∷ []) (i + 1) (drop (i + 1) ws) ≡ wires_from ms [] 0 ws
unfolding wires_from
wires_go_on ms before ws i w x lt is ok so_far =
    let one : wires_from ms before i (drop i ws) ≡ wires_from ms (before ++ x ∷ []) (i + 1) (drop (i + 1) ws) = rw (drop_more ws i w lt, is, ok) refl in
    sym one ∙ so_far

pub wires_end : (ms : List NetMember) (e : TopoFault) (before : List Wire) (ws : List NetWire) (i : ℕ) (w : NetWire) → i < length ws → get_or ws i w ≡ w → Fails e (wire_in ms before i w)
    → wires_from ms before i (drop i ws) ≡ wires_from ms [] 0 ws → Fails e (wires_from ms [] 0 ws)
unfolding wires_from
wires_end ms e before ws i w lt is h so_far =
    fails_along e (wire_in ms before i w) (wires_from ms [] 0 ws) (λ r f.
    let one : wires_from ms before i (drop i ws) ≡ Err r = rw (drop_more ws i w lt, is, f) refl in
    sym so_far ∙ one) h

pub wires_done : (ms : List NetMember) (before : List Wire) (ws : List NetWire) (i : ℕ) → length ws ≤ i → wires_from ms before i (drop i ws) ≡ wires_from ms [] 0 ws → wires_from ms [] 0 ws ≡ Ok before
unfolding wires_from
wires_done ms before ws i le so_far =
    let one : wires_from ms before i (drop i ws) ≡ Ok before = rw (drop_all i ws le) refl in
    sym so_far ∙ one

-- ---- labels
pub own_more : (labels : List ℕ) (i : ℕ) → i < length labels → ((b : ℕ) → b < i → slice_index labels b ≡ b) → (b : ℕ) → b < i + 1 → slice_index (set labels i i) b ≡ b
own_more labels i lt own b lb =
    elim (cases_eq b i) [
      | inl is ↦ ap (λ (k : ℕ). slice_index (set labels i i) k) is ∙ get_or-set_same labels i i 0 lt ∙ sym is
      | inr other ↦ get_or-set_other labels i b i 0 other ∙ own b (omega (arith, other, lb))
    ]

-- the label of i is another one
pub named_more : (labels old : List ℕ) (from to i l : ℕ) → i < length labels → l ≡ other_label from to (slice_index labels i) → ((b : ℕ) → b < i → slice_index labels b ≡ other_label from to (slice_index old b)) → slice_index labels i ≡ slice_index old i
    → (b : ℕ) → b < i + 1 → slice_index (set labels i l) b ≡ other_label from to (slice_index old b)
named_more labels old from to i l lt is named same b lb =
    elim (cases_eq b i) [
      | inl at ↦ subst (λ (k : ℕ). slice_index (set labels i l) k ≡ other_label from to (slice_index old k)) (sym at) (get_or-set_same labels i l 0 lt ∙ is ∙ ap (other_label from to) same)
      | inr other ↦ get_or-set_other labels i b l 0 other ∙ named b (omega (arith, other, lb))
    ]

pub kept_more : (labels old : List ℕ) (i l : ℕ) → ((b : ℕ) → i ≤ b → slice_index labels b ≡ slice_index old b) → (b : ℕ) → i + 1 ≤ b → slice_index (set labels i l) b ≡ slice_index old b
kept_more labels old i l kept b le =
    let other : b ≢ i = λ e. omega (arith, le, e) in
    get_or-set_other labels i b l 0 other ∙ kept b (omega (arith, le))

-- ---- the ports of all bridges
pub none_together : 0 ≡ ports_together []
unfolding ports_together
none_together = refl

pub together_more : (ms : List NetMember) (i : ℕ) (m : NetMember) → i < length ms → get_or ms i m ≡ m → ports_together (take (i + 1) ms) ≡ ports_together (take i ms) + length (external_ports (tree_in m))
unfolding ports_together
together_more ms i m lt is =
    let f : NetMember → ℕ = λ x. length (external_ports (tree_in x)) in
    ap (λ (xs : List NetMember). sum_by f xs) (take_more ms i m lt)
    ∙ sum_by_push f (take i ms) (get_or ms i m)
    ∙ ap (λ (x : NetMember). sum_by f (take i ms) + f x) is

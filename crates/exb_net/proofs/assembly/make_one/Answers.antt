use Rattle.std.proofs.Common.{◌≡◌, ◌<◌, ◌++◌, ◌∷◌, [], ℕ, List, length, ap, subst, sym, arith}
use Rattle.std.specs.Prelude.{Some, slice_get}
use Rattle.exb_model.specs.declared.setup.Setup.{Setup}
use Rattle.exb_net_spec.specs.declared.wires.Wire.{Wire}
use Rattle.exb_net.specs.PairedLists.{AreEach}
use Rattle.exb_net.specs.Assembly.{AreFirst}
use Rattle.exb_net.specs.Nodes.{IsFirst}
use Rattle.exb_net.proofs.AssemblyLemmas.{one_first, one_pair}
use Rattle.exb_net.proofs.ListPlaces.{at_place}
use Rattle.exb_net.proofs.assembly.make_one.Goals as goal

pub returns-clause-ok : goal.returns-clause-ok
returns-clause-ok g c = λ before.
    let nodes = c.args.nodes.now.items in
    let node = c.in_ok-node.node in
    let made = c.in_ok-node.ensures in
    let s = c.index-setups-bridge.result in
    let at : c.len-bridge.result ≡ length nodes = omega (arith, c.len-bridge.ensures, c.args.nodes.now.ok.0) in
    let first : IsFirst c.as_slice-wires.result.now c.len-bridge.result s node.world node.ends.items =
    record { tree = made.tree; limits = made.limits; world = made.world; quiet = made.quiet; awake = made.awake; ends = made.ends; vids = made.vids } in
    let list : c.as_slice-setups.result.now ≡ c.args.setup.now.setups = c.as_slice-setups.ensures in
    let ws : c.as_slice-wires.result.now ≡ c.args.setup.now.wires = c.as_slice-wires.ensures in
    let same = ap (λ zs. length zs) list in
    let low : c.len-bridge.result < length c.as_slice-setups.result.now = omega (arith, at, same, c.requires.within) in
    let here : slice_get c.args.setup.now.setups (length nodes) ≡ Some s =
    subst (λ (zs : List Setup). slice_get zs (length nodes) ≡ Some s) list
    (subst (λ (k : ℕ). slice_get c.as_slice-setups.result.now k ≡ Some s) at (at_place c.as_slice-setups.result.now c.len-bridge.result s low c.index-setups-bridge.is)) in
    let of_net : IsFirst c.args.setup.now.wires (length nodes) s node.world node.ends.items =
    subst (λ (zs : List Wire). IsFirst zs (length nodes) s node.world node.ends.items) ws
    (subst (λ (k : ℕ). IsFirst c.as_slice-wires.result.now k s node.world node.ends.items) at first) in
    subst (AreFirst c.args.setup.now.wires c.args.setup.now.setups) (sym c.in_ok-push.ensures.items) (one_first c.args.setup.now.wires c.args.setup.now.setups nodes node s here of_net before)

pub returns-clause-fate : goal.returns-clause-fate
returns-clause-fate g c = λ fs each.
    subst (λ zs. AreEach (λ b f x. (goal.Fate-dyn g (x.fate.vtable, x.fate.value)).left x.fate.value ≡ (goal.Fate-dyn g (f.vtable, f.value)).left f.value) (fs ++ c.args.fate ∷ []) zs) (sym c.in_ok-push.ensures.items) (one_pair (λ b f x. (goal.Fate-dyn g (x.fate.vtable, x.fate.value)).left x.fate.value ≡ (goal.Fate-dyn g (f.vtable, f.value)).left f.value) fs c.args.nodes.now.items c.args.fate c.in_ok-node.node c.in_ok-node.ensures.fate each)

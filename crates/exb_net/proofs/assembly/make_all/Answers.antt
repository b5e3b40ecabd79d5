use Rattle.std.proofs.Common.{◌≡◌, ◌∙◌, ◌+◌, ◌<◌, length, take, length-drop, refl, ap, subst, arith}
use Rattle.std.proofs.lemmas.List.{take_all}
use Rattle.exb_net.specs.PairedLists.{AreEach}
use Rattle.exb_net.proofs.AssemblyLemmas.{front_is, next_is, no_pairs, none_first, rest_is}
use Rattle.exb_net.proofs.assembly.make_all.Goals as goal

pub loop-bridge-init : goal.loop-bridge-init
loop-bridge-init g c =
    record {
      first = none_first c.args.setup.now.wires c.args.setup.now.setups c.args.nodes.now.items c.requires.none;
      long = ap (λ zs. length zs) c.requires.none;
      left = refl;
      each = no_pairs (λ b f x. (goal.Fate-dyn g (x.fate.vtable, x.fate.value)).left x.fate.value ≡ (goal.Fate-dyn g (f.vtable, f.value)).left f.value) c.args.nodes.now.items c.requires.none;
    }

pub remove-requires : goal.remove-requires
remove-requires g c =
    let xs = c.args.fates.now.items in
    let i = c.loop-bridge._bridge in
    let same = ap (λ zs. length zs) c.as_slice-bridge-end.ensures in
    let left = ap (λ zs. length zs) c.loop-bridge.invariant.left in
    omega (arith, c.loop-bridge-test.true, same, left, length-drop i xs, c.requires.whole, c.loop-bridge.fates.ok.0)

pub make_one-requires-clause-valid : goal.make_one-requires-clause-valid
make_one-requires-clause-valid g c = c.requires.valid

pub make_one-requires-clause-within : goal.make_one-requires-clause-within
make_one-requires-clause-within g c =
    let same = ap (λ zs. length zs) c.as_slice-bridge-end.ensures in
    omega (arith, c.loop-bridge-test.true, same, c.loop-bridge.invariant.long)

pub loop-bridge-preserved : goal.loop-bridge-preserved
loop-bridge-preserved g c =
    let xs = c.args.fates.now.items in
    let i = c.loop-bridge._bridge in
    let same = ap (λ zs. length zs) c.as_slice-bridge-end.ensures in
    let low : i < length xs = omega (arith, c.loop-bridge-test.true, same, c.requires.whole) in
    let is = next_is xs i low c.loop-bridge.fates.items c.remove.result c.loop-bridge.invariant.left c.remove.ensures.value in
    record {
      first = c.in_ok-make_one.ensures.ok c.loop-bridge.invariant.first;
      long = c.in_ok-make_one.ensures.long ∙ ap (λ n. n + 1) c.loop-bridge.invariant.long;
      left = rest_is xs i low c.loop-bridge.fates.items c.remove.new.self.items c.remove.result c.loop-bridge.invariant.left c.remove.ensures.items;
      each = subst (λ zs. AreEach (λ b f x. (goal.Fate-dyn g (x.fate.vtable, x.fate.value)).left x.fate.value ≡ (goal.Fate-dyn g (f.vtable, f.value)).left f.value) zs c.make_one.new.nodes.items) (front_is xs i low c.remove.result is) (c.in_ok-make_one.ensures.fate (take i xs) c.loop-bridge.invariant.each);
    }

pub returns-clause-ok : goal.returns-clause-ok
returns-clause-ok g c = c.loop-bridge.invariant.first

pub returns-clause-long : goal.returns-clause-long
returns-clause-long g c =
    let auto = c.loop-bridge.auto in
    let same = ap (λ zs. length zs) c.as_slice-bridge-end.ensures in
    omega (arith, c.loop-bridge-test.false, same, c.loop-bridge.invariant.long)

pub returns-clause-fates : goal.returns-clause-fates
returns-clause-fates g c =
    let xs = c.args.fates.now.items in
    let same = ap (λ zs. length zs) c.as_slice-bridge-end.ensures in
    subst (λ zs. AreEach (λ b f x. (goal.Fate-dyn g (x.fate.vtable, x.fate.value)).left x.fate.value ≡ (goal.Fate-dyn g (f.vtable, f.value)).left f.value) zs c.loop-bridge.nodes.items) (take_all c.loop-bridge._bridge xs (omega (arith, c.loop-bridge-test.false, same, c.requires.whole))) c.loop-bridge.invariant.each

use Rattle.std.proofs.Common.{◌<◌, ◌+◌, ◌^◌, ◌++◌, ◌∷◌, [], List, length, subst, sym}
use Rattle.exb_model.specs.declared.setup.Verdict.{Verdict}
use Rattle.exb_net.specs.PairedLists.{AreEach}
use Rattle.exb_net.proofs.ArmedFates.{one_pair}
use Rattle.exb_net.proofs.preparation.arm_one.Goals as goal

pub returns : goal.returns
returns g c = λ rs r same each.
    let f = c.arm_fate.new.fate in
    subst (λ zs. AreEach (λ b r f. (goal.Fate-dyn g (f.vtable, f.value)).left f.value < 2 ^ 56 + length r.fate) (rs ++ r ∷ []) zs) (sym c.in_ok-push.ensures.items)
    (one_pair (λ b r f. (goal.Fate-dyn g (f.vtable, f.value)).left f.value < 2 ^ 56 + length r.fate) rs c.args.fates.now.items r f
    (subst (λ (xs : List Verdict). (goal.Fate-dyn g (f.vtable, f.value)).left f.value < 2 ^ 56 + length xs) (sym same) c.in_ok-arm_fate.ensures) each)

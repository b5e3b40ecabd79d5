-- What didn't fail so had memory.
use Rattle.std.proofs.Common.{◌≡◌, ◌↔◌, true, false, inl, inr, Ok, Err, ap}
use Rattle.std.specs.Prelude.{is_err}
use Rattle.std.proofs.lemmas.Bool.{cases_Bool, false≢true}
use Rattle.exb_world.specs.declared.world.WorldFault.TheVariants as fault
use Rattle.exb_world.specs.WorldContracts.{Network}

pub ok_awake : (n : Network) (x : Unit {0}) → (Ok x ≡ Err fault.Failed) ↔ (n.failed ≡ true) → n.failed ≡ false
ok_awake n x fails = elim (cases_Bool n.failed) [ inl e ↦ absurd (false≢true (ap is_err (fails.1 e))) | inr e ↦ e ]

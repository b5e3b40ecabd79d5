use Rattle.std.proofs.Common.{◌++◌, ◌∙◌, refl, sym}
use Rattle.exb_toml_keys.specs.declared.faults.KeyFault.TheVariants as fault
use Rattle.exb_toml_keys.specs.Faults.{place_text}
use Rattle.exb_toml_keys.proofs.ItemLoops.{fails_from_fault}
use Rattle.exb_toml_keys.proofs.PortLists.{goes_on, ends, is_done}
use Rattle.exb_toml_keys.proofs.keys.words_in.Goals as goal

pub returns-in-None : goal.returns-in-None
returns-in-None c =
    let none = ends c.loop-item.all c.args.items.now c.loop-item.item-index c.item-item.result c.loop-item-test.true (sym c.item-item.is) (sym c.word_in.ensures ∙ c.in-None.is) c.loop-item.invariant in
    rw none (fails_from_fault _ c.fault.result fault.Name (place_text c.args.place ++ c.args.key.now) c.fault.ensures)

pub loop-item-preserved : goal.loop-item-preserved
loop-item-preserved c =
    rw c.in_ok-push-in-Some.ensures.ok (goes_on c.loop-item.all c.args.items.now c.loop-item.item-index c.item-item.result c.in-Some.word c.loop-item-test.true (sym c.item-item.is) (sym c.word_in.ensures ∙ c.in-Some.is) c.loop-item.invariant)

pub returns : goal.returns
returns c = rw (is_done c.loop-item.all c.args.items.now c.loop-item.item-index c.loop-item-test.false c.loop-item.invariant) refl

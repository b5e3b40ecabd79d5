use Rattle.exb_wire_tests.proofs.PlainLemmas.{open_changes, create_changes, delete_changes, register_changes, register_many_changes, unregister_changes, unregister_many_changes}
use Rattle.exb_wire_tests.proofs.plain_tables.change.Goals as goal

pub returns-in-Open : goal.returns-in-Open
returns-in-Open c = rw c.in-Open.is (open_changes c.args.own.now c.args.cascade.now c.args.words.now c.requires)

pub returns-in-PortCreate : goal.returns-in-PortCreate
returns-in-PortCreate c = rw c.in-PortCreate.is (create_changes c.args.own.now c.args.cascade.now c.args.words.now _ _ _ _ _ _ _ c.requires c.create.ensures.code c.create.ensures.done c.create.ensures.refused)

pub returns-in-PortDelete : goal.returns-in-PortDelete
returns-in-PortDelete c = rw c.in-PortDelete.is (delete_changes c.args.own.now c.args.cascade.now c.args.words.now _ _ _ _ c.requires c.delete.ensures.code c.delete.ensures.done c.delete.ensures.refused)

pub returns-in-Register : goal.returns-in-Register
returns-in-Register c =
    rw c.in-Register.is (register_changes c.args.own.now c.args.cascade.now c.args.words.now _ _ _ _ c.requires c.register_many.auto.words c.register_many.ensures.code c.register_many.ensures.done c.register_many.ensures.refused)

pub returns-in-Unregister : goal.returns-in-Unregister
returns-in-Unregister c =
    rw c.in-Unregister.is (unregister_changes c.args.own.now c.args.cascade.now c.args.words.now _ _ _ c.requires c.unregister_many.auto.words c.unregister_many.ensures.code c.unregister_many.ensures.done c.unregister_many.ensures.refused)

pub returns-in-RegisterMany : goal.returns-in-RegisterMany
returns-in-RegisterMany c =
    let call = c.register_many-in-RegisterMany in
    rw (c.in-RegisterMany.is, ← c.as_slice.ensures.rows) (register_many_changes c.args.own.now c.args.cascade.now c.args.words.now _ _ _ c.requires call.auto.words call.ensures.code call.ensures.done call.ensures.refused)

pub returns-in-UnregisterMany : goal.returns-in-UnregisterMany
returns-in-UnregisterMany c =
    let call = c.unregister_many-in-UnregisterMany in
    rw (c.in-UnregisterMany.is, ← c.as_slice-in-UnregisterMany.ensures.ecids) (unregister_many_changes c.args.own.now c.args.cascade.now c.args.words.now _ _ _ c.requires call.auto.words call.ensures.code call.ensures.done call.ensures.refused)

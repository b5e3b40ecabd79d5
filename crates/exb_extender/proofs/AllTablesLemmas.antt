-- What an extender sends by its own tables, and by the tables of all.
use Rattle.std.proofs.Common.{◌≡◌, ◌+◌, ◌%◌, refl, arith}
use Rattle.std.specs.Prelude.{Option, Some, None}
use Rattle.exb_model.specs.Tree.{device}
use Rattle.exb_model.specs.ExtenderForwarding.{emits, emits_tagged}
use Rattle.exb_model.specs.ETags.{Tag, read_etag}
use Rattle.exb_csp.specs.AllTables.{tables_at, port_of}
use Rattle.exb_extender.specs.Forwarding.{forwarding_of}
use Rattle.exb_extender.specs.Laws.{EmitsOfAll}

pub emits_of_all : EmitsOfAll
unfolding emits
emits_of_all all n port f low high = same_emits (read_etag f)
  where
    there : device (port_of n port) ≡ n
    there = omega arith

    place : port_of n port % 64 + 1 ≡ port
    place = omega arith

    same_emits : (o : Option Tag) → emits_tagged (tables_at all) (port_of n port) f o ≡ emits_tagged (forwarding_of (all n)) port f o
    same_emits None = refl
    same_emits (Some tag) = rw (there, place) refl

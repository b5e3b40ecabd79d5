use Rattle.std.proofs.Common.{◌≡◌, List}
use Rattle.exb_net_spec.specs.declared.wires.Wire.{Wire}
use Rattle.exb_shelf.specs.Shelf.{NoFewer}
use Rattle.exb_net_file.specs.declared.members.NetMember.{NetMember}
use Rattle.exb_net_file.specs.SetupParts.{IsTakenApart}
use Rattle.exb_inputs.specs.NetContents.{AreRead}
use Rattle.exb_net.proofs.FileCreation.{SetUpTo}
use Rattle.exb_net.proofs.preparation.set_desks.Given as goal

-- The desks of the bridges before are set.
abbrev pub invariant-loop-bridge : goal.invariant-loop-bridge
invariant-loop-bridge g l =
    let S = g.S.Shelf in
    record {
      set : (ms : List NetMember) (ws : List Wire) → IsTakenApart ms ws l.parts → AreRead ms ws →
          SetUpTo l.fn.counters ms S.tells l.bridge (S.file l.fn.shelf) (S.file l.shelf) (S.ids l.fn.shelf) (S.ids l.shelf) l.desks.items;
      faults : NoFewer (S.faults l.fn.shelf) (S.faults l.shelf);
      counted : S.faults l.shelf ≡ S.faults l.fn.shelf;
    }

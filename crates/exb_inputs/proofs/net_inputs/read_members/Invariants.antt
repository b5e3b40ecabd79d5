use Rattle.std.proofs.Common.{◌≡◌, map, take}
use Rattle.std.specs.Prelude.{All}
use Rattle.exb_shelf.specs.Files.{SameFiles}
use Rattle.exb_shelf.specs.Shelf.{IsReadingOf}
use Rattle.exb_topology.specs.Soundness.{IsSound}
use Rattle.exb_net_file.specs.Soundness.{AreValid}
use Rattle.exb_inputs.specs.NetContents.{HoldsMembers}
use Rattle.exb_inputs.specs.PairedLists.{OpensOneByOne}
use Rattle.exb_inputs.proofs.net_inputs.read_members.Given as goal

abbrev pub invariant-reading : goal.invariant-reading
invariant-reading g l =
    let S = g.S.Shelf in
    record {
      read : S.tells → HoldsMembers (take l.bridge-index l.bridges) (S.file l.fn.shelf) l.members;
      names : map (λ m. m.name) l.members ≡ map (λ b. b.name) (take l.bridge-index l.bridges);
      valid : AreValid l.members;
      sound : All (λ m. IsSound m.topology) l.members;
      opened : OpensOneByOne IsReadingOf (map (λ b. b.topology) (take l.bridge-index l.bridges)) (S.ids l.fn.shelf) (S.ids l.shelf);
      files : SameFiles (S.file l.fn.shelf) (S.file l.shelf);
      same : S.faults l.shelf ≡ S.faults l.fn.shelf;
    }

use Rattle.std.proofs.Common.{arith, ◌≡◌}
use Rattle.std.proofs.lemmas.Grind.{common_steps}
use Rattle.exb_shelf.specs.Files.{bytes_of}
use Rattle.exb_shelf.specs.ScratchFiles.{scratch_files as files_of, scratch_ids as ids_of}
use Rattle.exb_shelf.proofs.OpenFileLemmas.{entries}
use Rattle.exb_shelf.proofs.ScratchLemmas.{end_as}
use Rattle.exb_shelf.proofs.scratch.ScratchShelfShelf.read.Goals as goal

pub returns-clause-end : goal.returns-clause-end
returns-clause-end c = λ tells room.
    let s = c.args.self.now in
    let bytes : c.as_slice.result.now ≡ bytes_of (files_of s (ids_of s c.args.id).name) = grind (arith, entries, common_steps) in
    let place : c.index-entry.result.now.place ≡ (ids_of s c.args.id).place = grind (arith, entries) in
    end_as _ _ _ _ _ bytes place (c.copy_part-n.ensures.end room)

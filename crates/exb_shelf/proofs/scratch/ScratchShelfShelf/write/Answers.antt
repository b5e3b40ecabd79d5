use Rattle.std.proofs.Common.{arith, ◌≡◌}
use Rattle.exb_shelf.specs.OpenFiles.{id_at}
use Rattle.exb_shelf.proofs.OpenFileLemmas.{entries}
use Rattle.exb_shelf.proofs.ScratchLemmas.{put_whole}
use Rattle.exb_shelf.proofs.scratch.ScratchShelfShelf.write.Goals as goal

pub returns-in-Ok-clause-appended : goal.returns-in-Ok-clause-appended
returns-in-Ok-clause-appended c tells =
    let e : (id_at c.args.self.now.entries.items c.args.id).name ≡ c.as_str.result.now = grind (arith, entries) in
    put_whole _ _ _ _ _ e c.in-Ok.ensures.ok

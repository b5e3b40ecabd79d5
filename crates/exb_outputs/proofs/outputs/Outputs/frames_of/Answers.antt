use Rattle.std.proofs.Common.{◌<◌, sym, length, arith}
use Rattle.exb_outputs.proofs.CaptureSizes.{frames_of_file}
use Rattle.exb_outputs.proofs.outputs.Outputs.frames_of.Goals as goal

pub returns : goal.returns
returns c =
    let manifest = c.args.manifest.now in
    let file = c.index-file.result.now in
    let inside : c.args.at < length c.args.self.now.files.items = (let low = c.requires.within in let all = c.requires.files in omega (arith, low, all)) in
    sym (frames_of_file manifest c.args.self.now c.args.at file c.requires.within inside c.index-file.ensures)

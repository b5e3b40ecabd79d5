use Rattle.std.proofs.Common.{◌<◌, length, arith}
use Rattle.exb_outputs.proofs.CaptureSizes.{size_of_file}
use Rattle.exb_outputs.proofs.outputs.Outputs.size_of.Goals as goal

pub overflow_add-size : goal.overflow_add-size
overflow_add-size c =
    let manifest = c.args.manifest.now in
    let file = c.index-file.result.now in
    let inside : c.args.at < length c.args.self.now.files.items = (let low = c.requires.within in let all = c.requires.files in omega (arith, low, all)) in
    let size = size_of_file manifest c.args.self.now c.args.at file c.requires.within inside c.index-file.ensures in
    let fits = c.requires.fits in
    let len = c.len.ensures in
    omega (arith, size, fits, len)

pub returns : goal.returns
returns c =
    let manifest = c.args.manifest.now in
    let file = c.index-file.result.now in
    let inside : c.args.at < length c.args.self.now.files.items = (let low = c.requires.within in let all = c.requires.files in omega (arith, low, all)) in
    (let size = size_of_file manifest c.args.self.now c.args.at file c.requires.within inside c.index-file.ensures in let len = c.len.ensures in omega (arith, size, len))

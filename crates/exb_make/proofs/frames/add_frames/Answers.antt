use Rattle.std.proofs.Common.{◌∙◌, ◌+◌, ◌++◌, sym, ap, map, arith, refl}
use Rattle.std.proofs.lemmas.List.{map-append}
use Rattle.exb_model.specs.Ports.{below}
use Rattle.exb_make.specs.Draws.{Adds}
use Rattle.exb_make.specs.DrawOrder.{frame, frames}
use Rattle.exb_make.specs.GeneratedParts.{frame_of}
use Rattle.exb_make.proofs.DrawLoops.{adds-none, adds-at, adds-range}
use Rattle.exb_make.proofs.frames.add_frames.Goals as goal

pub loop-number-init : goal.loop-number-init
loop-number-init c = adds-none frame (map frame_of c.args.arrived.now.items) c.args.rng.now

pub loop-number-preserved : goal.loop-number-preserved
loop-number-preserved c =
    let before = map frame_of c.loop-number.arrived.items in
    let one : Adds (frame c.loop-number.number) before (map frame_of c.push.new.self.items) c.loop-number.rng c.draw_arriving.new.rng
    = record {
      more = ap (map frame_of) c.in_ok-push.ensures.items ∙ (map-append frame_of c.loop-number.arrived.items _ ∙ ap (λ xs. before ++ xs) (sym c.in_ok-arriving.ensures.value));
      gone_on = c.in_ok-arriving.ensures.gone_on;
    } in
    adds-at frame 0 c.loop-number.number c.loop-number.number (c.loop-number.number + 1) (map frame_of c.args.arrived.now.items) before (map frame_of c.push.new.self.items)
    c.args.rng.now c.loop-number.rng c.draw_arriving.new.rng (omega arith) refl c.loop-number.invariant one

pub returns : goal.returns
unfolding frames below
returns c =
    adds-range frame 0 c.loop-number.number 1000 (map frame_of c.args.arrived.now.items) (map frame_of c.loop-number.arrived.items) c.args.rng.now c.loop-number.rng
    (omega (arith, c.loop-number-test.false, c.loop-number.auto.number-end)) c.loop-number.invariant

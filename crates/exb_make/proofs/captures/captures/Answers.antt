use Rattle.std.proofs.Common.{◌≡◌, ℕ, ◌+◌, ◌*◌, ap, arith, map, length, sum_by, Ok}
use Rattle.exb_make.specs.declared.captures.GeneratedCapture.{GeneratedCapture}
use Rattle.exb_make.specs.GeneratedInputs.{records_at}
use Rattle.exb_make.specs.GeneratedParts.{frame_of, read_of}
use Rattle.exb_make.proofs.CaptureContents.{one-more, all-done, sum-more}
use Rattle.exb_make.proofs.captures.captures.Goals as goal

pub loop-port-init : goal.loop-port-init
loop-port-init c =
    let none = c.new-captures.ensures.items in
    let n = ap (sum_by (λ (x : GeneratedCapture). length x.file.items)) none in
    record { read = ap (map read_of) none; small = omega (arith, n) }

pub loop-port-preserved : goal.loop-port-preserved
loop-port-preserved c = record {
  read = one-more read_of (λ (q : ℕ). (q, Ok (records_at (map frame_of c.args.arrived.now) q))) c.loop-port.captures.items c.push.new.self.items c.in_ok-capture.capture
      c.args.places.now c.loop-port.port-index c.port-item.result c.loop-port-test.true c.port-item.is c.loop-port.invariant.read c.in_ok-push.ensures.items c.in_ok-capture.ensures.read;
  small = sum-more (λ (x : GeneratedCapture). length x.file.items) c.loop-port.captures.items c.push.new.self.items c.in_ok-capture.capture (24 + 80 * length c.args.arrived.now) c.loop-port.port-index
      c.loop-port.invariant.small c.in_ok-push.ensures.items c.in_ok-capture.ensures.small;
}

pub returns-clause-read : goal.returns-clause-read
returns-clause-read c =
    all-done read_of (λ (q : ℕ). (q, Ok (records_at (map frame_of c.args.arrived.now) q))) c.loop-port.captures.items c.args.places.now c.loop-port.port-index c.loop-port-test.false c.loop-port.invariant.read

pub returns-clause-small : goal.returns-clause-small
returns-clause-small c =
    let end : c.loop-port.port-index ≡ length c.args.places.now = omega (arith, c.loop-port-test.false, c.loop-port.auto.port-index-end) in
    rw (← end) c.loop-port.invariant.small

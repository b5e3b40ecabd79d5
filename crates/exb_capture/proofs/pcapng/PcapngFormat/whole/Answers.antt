use Rattle.std.proofs.Common.{◌≤◌, length, take, ap, ◌∙◌, rules}
use Rattle.exb_capture.specs.Blocks.{Sections, whole_front, block_at}
use Rattle.exb_capture.proofs.BlockLemmas.{packet_front}
use Rattle.exb_capture.proofs.pcapng.PcapngFormat.whole.Goals as goal

pub returns-in-Ok-Packet : goal.returns-in-Ok-Packet
returns-in-Ok-Packet c =
    let i = c.self.inside in
    let there : c.args.head.size ≤ length c.args.held.now = search rules in
    let read = rw c.in-Ok-Packet.field-0-is at c.in-Ok-Packet.ensures in
    record {
      value = packet_front i.order i.interfaces.items i.last c.args.head c.args.held.now c.in-Ok-Packet.seen c.self.invariant.none
          there read.within.whole (read.value ∙ ap (λ xs. block_at c.args.head xs i.last (take c.args.head.size c.args.held.now)) c.as_slice.ensures.value)
          ∙ ap (λ (s : Sections). whole_front s c.args.head c.args.held.now) c.self.view_is;
      same = tt;
      within = record { whole = read.within.whole; there = there; in_time = read.within.in_time; short = read.within.short };
    }

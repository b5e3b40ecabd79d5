use Rattle.std.proofs.Common.{filter, map}
use Rattle.exb_model.specs.Ports.{all_ports}
use Rattle.exb_model.specs.Input.{arrivals_at}
use Rattle.exb_timeline.specs.Streams.{stream_at, to_come}
use Rattle.exb_timeline.proofs.InputMerge.{records-of, arrivals_at-none, flat_map-filter}
use Rattle.exb_timeline.proofs.StartSecond.{begun-merges}
use Rattle.exb_timeline.proofs.laws.merge_of_all.Goals as goal

pub returns : goal.returns
returns c i chosen commands given none =
    begun-merges i commands (to_come (map (stream_at i) (filter chosen all_ports))) given
    (records-of i (filter chosen all_ports) (flat_map-filter (arrivals_at i) chosen (λ q e. arrivals_at-none i q (none q e)) all_ports))

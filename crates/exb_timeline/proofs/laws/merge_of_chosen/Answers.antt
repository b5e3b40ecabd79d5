use Rattle.exb_model.specs.Input.{arrivals_at}
use Rattle.exb_model.specs.Ports.{all_ports}
use Rattle.std.proofs.Common.{filter}
use Rattle.exb_timeline.proofs.InputMerge.{merge-of, arrivals_at-none, flat_map-filter}
use Rattle.exb_timeline.proofs.laws.merge_of_chosen.Goals as goal

pub returns : goal.returns
returns c i chosen commands none =
    merge-of i (filter chosen all_ports) commands (flat_map-filter (arrivals_at i) chosen (λ q e. arrivals_at-none i q (none q e)) all_ports)

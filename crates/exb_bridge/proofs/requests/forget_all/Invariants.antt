use Rattle.std.proofs.Common.{◌≡◌, drop}
use Rattle.exb_learn.specs.Entries.{table_of}
use Rattle.exb_world_spec.specs.BridgeLearning.{forgotten_all}
use Rattle.exb_bridge.proofs.requests.forget_all.Given as goal

-- those that are left lead to the whole
abbrev pub invariant-loop-port : goal.invariant-loop-port
invariant-loop-port l = forgotten_all (drop l.port-index l.downs) (table_of l.learned) ≡ forgotten_all l.downs (table_of l.fn.learned)

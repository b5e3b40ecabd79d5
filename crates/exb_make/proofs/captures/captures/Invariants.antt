use Rattle.std.proofs.Common.{◌≡◌, ◌≤◌, ◌+◌, ◌*◌, map, take, length, sum_by, Ok}
use Rattle.exb_make.specs.GeneratedInputs.{records_at}
use Rattle.exb_make.specs.GeneratedParts.{frame_of, read_of}
use Rattle.exb_make.proofs.captures.captures.Given as goal

-- of the ports so far
abbrev pub invariant-loop-port : goal.invariant-loop-port
invariant-loop-port l = record {
  read : map read_of l.captures.items ≡ map (λ q. (q, Ok (records_at (map frame_of l.arrived) q))) (take l.port-index l.places);
  small : sum_by (λ c. length c.file.items) l.captures.items ≤ (24 + 80 * length l.arrived) * l.port-index;
}

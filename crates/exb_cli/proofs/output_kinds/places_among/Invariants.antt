use Rattle.std.proofs.Common.{◌≡◌, ◌<◌, ℕ, length, slice_index}
use Rattle.exb_cli.specs.Kinds.{place_among}
use Rattle.exb_cli.proofs.output_kinds.places_among.Given as goal

abbrev pub invariant-loop-number : goal.invariant-loop-number
invariant-loop-number l = record {
  sized : length l.places ≡ 4;
  each : (n : ℕ) → n < l.number → slice_index l.places n ≡ place_among n l.kinds;
}

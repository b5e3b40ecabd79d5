-- Where the words of a direction of a link are put, and where they are taken.
use Rattle.std.specs.Prelude.{ℕ}
use Rattle.exb_model.specs.Tree.{Shape, on}
use Rattle.exb_world_spec.specs.Worlds.{Way, Up, Down}
use Rattle.exb_trace_spec.specs.Rule3Links.{Place, place_of, upstream_of}

abbrev pub start_of : Shape → ℕ → Way → Place
start_of t n Up = upstream_of n
start_of t n Down = place_of (on t n)

abbrev pub end_of : Shape → ℕ → Way → Place
end_of t n Up = place_of (on t n)
end_of t n Down = upstream_of n

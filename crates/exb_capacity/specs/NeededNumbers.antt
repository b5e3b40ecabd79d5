-- What numbers a setup needs where all its external ports are present.
use Rattle.std.specs.Prelude.{ℕ, ◌+◌, List, filter, map, fold, max, length, count_by}
use Rattle.exb_model.specs.declared.setup.Setup.{Setup}
use Rattle.exb_model.specs.Ports.{all_ports}
use Rattle.exb_model.specs.Tree.{Shape, is_external, is_under, is_cascade, cascades_under}
use Rattle.exb_model.specs.Setup.{shape_of, start_of}
use Rattle.exb_model.specs.Configuration.{Bridge}
use Rattle.exb_model.specs.Refusals.{bridge_ports, sets_at}
use Rattle.exb_capacity.specs.declared.needs.Needs.{Needs}

-- the configuration to start with, but with all external ports present
abbrev pub opened : Setup → Bridge
opened s = record (start_of s) { present = is_external (shape_of s) }

-- 0 where there is none
abbrev pub greatest : List ℕ → ℕ
greatest numbers = fold max 0 numbers

-- the greatest of what the cascade ports of the bridge need
unfoldable pub greatest_below : Shape → (ℕ → ℕ) → ℕ
greatest_below t needed = greatest (map needed (filter (is_cascade t) bridge_ports))

-- each cascade port of an extender has a channel, and each external port of one
unfoldable pub channels_below : Shape → ℕ → ℕ
channels_below t k = cascades_under t k + count_by (is_under t k) all_ports

unfoldable pub sets_below : Shape → Bridge → ℕ → ℕ
sets_below t b k = length (sets_at t k b)

abbrev pub needs_of : Setup → Needs
needs_of s =
    record {
      channels = greatest_below (shape_of s) (channels_below (shape_of s));
      sets = greatest_below (shape_of s) (sets_below (shape_of s) (opened s));
    }

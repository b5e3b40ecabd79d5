-- How often each group's set is a part of a configuration.
use Rattle.std.specs.Prelude.{◌≡◌, ℕ, ◌+◌, ◌-◌, ◌<◌, ◌≤◌, ◌++◌, true, List, [], length, replicate, slice_index, slice_index_or, if◌then◌else◌, nat_lt, count_by}
use Rattle.std.specs.List.{range_with_len}
use Rattle.exb_model.specs.Tree.{Shape, is_cascade}
use Rattle.exb_model.specs.Configuration.{Bridge}
use Rattle.exb_model.specs.Refusals.{is_empty_set}
use Rattle.exb_control_spec.specs.Plans.HeldNumbers.{Held}
use Rattle.exb_control_spec.specs.Plans.TouchedParts.{uses_of}

-- so many uses, of which those past a row are 0
abbrev pub padded : ℕ → List ℕ → List ℕ
padded n row = row ++ replicate (n - length row) 0

-- the uses of group g among those of one bridge port
abbrev pub count_in : List ℕ → ℕ → ℕ
count_in row g = slice_index row (g - 4096)

-- the uses of group g at bridge port k, from 0
abbrev pub count_at : List (List ℕ) → ℕ → ℕ → ℕ
count_at v k g = count_in (slice_index_or v k []) g

-- how many groups of one bridge port have a use, among all groups that there can be
unfoldable pub used_in : List ℕ → ℕ
used_in row = count_by (λ g. nat_lt 0 (count_in row g)) (range_with_len 4096 12288)

-- how many groups of bridge port k, from 0
abbrev pub used_at : List (List ℕ) → ℕ → ℕ
used_at v k = used_in (slice_index_or v k [])

abbrev pub uses_at : Shape → Bridge → Held → ℕ → ℕ → ℕ
uses_at t b h k g = if is_empty_set (h.set k g) then 0 else uses_of t b
    (record { bridge_port = k + 1; ports = h.set k g })

-- At each cascade port of the bridge the uses of each group are those of its set in the configuration.
abbrev pub IsCounted : Shape → Bridge → Held → List (List ℕ) → Type 0
IsCounted t b h v = (k g : ℕ) → k < 64 → is_cascade t k ≡ true → 4096 ≤ g → count_at v k g ≡ uses_at t b h k g

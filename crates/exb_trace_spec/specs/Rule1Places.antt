-- Rule 1 of a legal trace: the journal's lines, and that each line names a place that is there.
use Rattle.std.specs.Prelude.{◌≡◌, ℕ, ◌==◌, ◌&&◌, nat_lt, nat_le, Bool, true, if◌then◌else◌, List, [], ◌∷◌, flat_map, slice_index}
use Rattle.exb_model.specs.Tree.{Shape, is_extender}
use Rattle.exb_trace_spec.specs.Traversals.{Each}
use Rattle.exb_model.specs.Traces.{TraceLine, In, Out, Journal}

abbrev pub journal_at : TraceLine → List (List ℕ)
journal_at (Journal text) = text ∷ []
journal_at _ = []

-- the lines of the journal that stand in a trace
abbrev pub journal_in : List TraceLine → List (List ℕ)
journal_in lines = flat_map journal_at lines

-- the bridge and a port of it, or an extender of the topology and upstream or a port of it
abbrev pub is_place : Shape → ℕ → ℕ → Bool
is_place t n k = if n == 0 then nat_lt 0 k && nat_le k (slice_index t.ports 0) else is_extender t n
    && nat_le k (slice_index t.ports n)

abbrev pub NamesPlace : Shape → TraceLine → Type 0
NamesPlace t (In n k f) = is_place t n k ≡ true
NamesPlace t (Out n k f) = is_place t n k ≡ true
NamesPlace t _ = Unit {0}

pub record HasPlaces (t : Shape) (journal : List (List ℕ)) (lines : List TraceLine) : Type 0 where
  pub told : journal_in lines ≡ journal
  pub places : Each (NamesPlace t) lines

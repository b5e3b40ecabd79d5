-- Which static entries were given, known by the set of what they are for.
use Rattle.std.specs.Prelude.{◌≡◌, ℕ, ◌==◌, ◌&&◌, List}
use Rattle.std.specs.List.{list_any}
use Rattle.std.specs.Str.{bytes_eq}
use Rattle.std.specs.declared.cmp.Ordering.{Ordering}
use Rattle.std.specs.Ordering.{nat_cmp, ordering_then}
use Rattle.std.specs.Cmp.Lexicographic.{slice_cmp}
use Rattle.std.specs.BTreeSet.{BTreeSet, contains}
use Rattle.exb_topology_tables.specs.declared.elements.StaticElement.{StaticElement}

-- the order of VLANs with addresses
abbrev pub order : ℕ × List ℕ → ℕ × List ℕ → Ordering
order x y = ordering_then (nat_cmp x.0 y.0) (slice_cmp nat_cmp x.1 y.1)

-- the set has a VLAN with an address exactly where one of the entries is for them
abbrev pub Knows : BTreeSet (ℕ × List ℕ) → List StaticElement → Type 0
Knows given before = (v : ℕ) (m : List ℕ) → contains order given (v, m)
    ≡ list_any (λ f. f.vid == v && bytes_eq f.address.0 m) before

-- Reading the captures of a table one after the other.
use Rattle.std.proofs.Common.{◌≡◌, List, [], ◌∷◌, ◌++◌, Result, Ok, Err, String, Global, string_bytes, refl, sym, ap, ◌∙◌}
use Rattle.std.proofs.lemmas.List.{append-nil}
use Rattle.toml.specs.View.{view, members_view}
use Rattle.toml.specs.declared.value.Value.{Value}
use Rattle.toml.proofs.Views.{Entry}
use Rattle.exb_toml_keys.specs.declared.faults.TopoFault.{TopoFault}
use Rattle.exb_toml_keys.specs.Faults.{Refusal, Fails}
use Rattle.exb_toml_keys.proofs.ItemLoops.{with_front, regroup, fails_along}
use Rattle.exb_topology_tables.specs.declared.elements.Named.{Named}
use Rattle.exb_topology_tables.specs.Elements.{capture, captures}

pub goes_on : (front : List Named) (key : String Global) (v : Value) (before rest : List Entry) (x : Named) (total : Result (List Named) Refusal) → before ≡ (key, v) ∷ rest
    → capture (string_bytes key) (view v) ≡ Ok x → with_front front (captures (members_view before)) ≡ total → with_front (front ++ x ∷ []) (captures (members_view rest)) ≡ total
unfolding captures
goes_on front key v before rest x total is h so_far =
    let one : with_front front (captures (members_view before)) ≡ with_front (front ++ x ∷ []) (captures (members_view rest)) = rw (is, h) (regroup front x (captures (members_view rest))) in
    sym one ∙ so_far

pub ends : (e : TopoFault) (front : List Named) (key : String Global) (v : Value) (before rest : List Entry) (total : Result (List Named) Refusal) → before ≡ (key, v) ∷ rest
    → Fails e (capture (string_bytes key) (view v)) → with_front front (captures (members_view before)) ≡ total → Fails e total
unfolding captures
ends e front key v before rest total is h so_far =
    fails_along e (capture (string_bytes key) (view v)) total (λ r f.
    let one : with_front front (captures (members_view before)) ≡ Err r = rw (is, f) refl in
    sym so_far ∙ one) h

pub is_done : (front : List Named) (before : List Entry) (total : Result (List Named) Refusal) → before ≡ [] → with_front front (captures (members_view before)) ≡ total → total ≡ Ok front
unfolding captures
is_done front before total is so_far =
    let one : with_front front (captures (members_view before)) ≡ Ok front = rw is (ap Ok (append-nil front)) in
    sym so_far ∙ one

-- What a file holds is one topology, seen in one way.
use Rattle.std.proofs.Common.{◌≡◌, ℕ, List, Option, Some, None, Result, Ok, Err, ap, sym, ◌∙◌}
use Rattle.exb_model.specs.Setup.{shape_of}
use Rattle.exb_shelf.specs.Files.{Files}
use Rattle.exb_topology.specs.declared.topology.Topology.{Topology}
use Rattle.exb_topology.specs.Topologies.{TopologySeen, topology_view, topology_of}
use Rattle.exb_topology.proofs.Soundness.{tree_alone, shape_alone}
use Rattle.exb_inputs.specs.Answers.{HoldsTopology}

pub some_once : {X : Type 0} (o : Option X) (x y : X) → o ≡ Some x → o ≡ Some y → x ≡ y
some_once o x y p q = let e : Some x ≡ Some y = sym p ∙ q in cc

pub ok_once : {X E : Type 0} (r : Result X E) (x y : X) → r ≡ Ok x → r ≡ Ok y → x ≡ y
ok_once r x y p q = let e : ◌≡◌ {A = Result _ _} (Ok x) (Ok y) = sym p ∙ q in cc

pub none_or_some : {X : Type 0} (o : Option X) (x : X) → o ≡ None → o ≡ Some x → ⊥
none_or_some o x p q = let e : None ≡ Some x = sym p ∙ q in cc

pub err_once : {X E : Type 0} (r : Result X E) (x y : E) → r ≡ Err x → r ≡ Err y → x ≡ y
err_once r x y p q = let e : ◌≡◌ {A = Result _ _} (Err x) (Err y) = sym p ∙ q in cc

pub ok_or_err : {X E : Type 0} (r : Result X E) (x : X) (y : E) → r ≡ Ok x → r ≡ Err y → ⊥
ok_or_err r x y p q = let e : ◌≡◌ {A = Result _ _} (Ok x) (Err y) = sym p ∙ q in cc

pub holds_once : (name : List ℕ) (file : Files) (t u : Topology) → HoldsTopology name file t → HoldsTopology name file u → topology_view t ≡ topology_view u
holds_once name file t u p q =
    let bytes : p.bytes ≡ q.bytes = some_once (file name) p.bytes q.bytes p.there q.there in
    ok_once (topology_of q.bytes) (topology_view t) (topology_view u) (ap topology_of (sym bytes) ∙ p.read) q.read

-- ---- seen in the same way
pub captures_same : (t u : Topology) → topology_view t ≡ topology_view u → t.captures ≡ u.captures
captures_same t u e = ap (λ (v : TopologySeen). v.captures) e

pub prefix_same : (t u : Topology) → topology_view t ≡ topology_view u → t.prefix ≡ u.prefix
prefix_same t u e = ap (λ (v : TopologySeen). v.prefix) e

pub shape_same : (t u : Topology) → topology_view t ≡ topology_view u → shape_of t.setup ≡ shape_of u.setup
shape_same t u e = shape_alone t.setup ∙ ap (λ (v : TopologySeen). shape_of (tree_alone v.ports v.extenders)) e ∙ sym (shape_alone u.setup)

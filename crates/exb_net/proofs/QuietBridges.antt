-- Bridges that told nothing.
use Rattle.std.proofs.Common.{◌≡◌, ◌≢◌, ◌∙◌, ℕ, List, set, refl, sym, arith}
use Rattle.exb_world.specs.WorldContracts.{IsQuiet, Network}
use Rattle.exb_net.specs.declared.wired_ports.WiredPort.{WiredPort}
use Rattle.exb_net.specs.declared.node.Node.{Node}
use Rattle.exb_net.specs.PairedLists.{AreEach}
use Rattle.exb_net.specs.BridgeSets.{AreQuietBut, AreSameBut, mark_of}
use Rattle.exb_net.specs.Nodes.{HasForgotten}
use Rattle.exb_net.proofs.ListPlaces.{is_there, set_there}
use Rattle.std.proofs.lemmas.Option.{slice_get_within}

-- it has nothing to forget
pub forgets_nothing : (w : Network) (ends : List WiredPort) → IsQuiet w → HasForgotten w w ends ends
forgets_nothing w ends quiet = record { world = refl; same = record { site = refl; failed = refl; tracing = refl }; quiet = quiet; ends = refl }

module _ {V : Type 0} {X : V → Type 0} where
  -- where all are marked
  pub all_marked : (marks : ℕ) → ((b : ℕ) → mark_of marks b ≡ 1) → (nodes : List (Node V X)) → AreQuietBut marks nodes
  all_marked marks all nodes = record { each = λ b x is none. absurd (let one = all b in omega (arith, one, none)) }

  -- where one is another, and it is marked too
  pub quiet_set : (old marks i : ℕ) (xs : List (Node V X)) (y : Node V X) → ((b : ℕ) → mark_of marks b ≡ 0 → (mark_of old b ≡ 0) × (b ≢ i)) → AreQuietBut old xs → AreQuietBut marks (set xs i y)
  quiet_set old marks i xs y more all = record { each = λ b x is none. (let p = more b none in all.each b x (sym (set_there xs i b y p.1) ∙ is) p.0) }

  -- where all that are another are marked too
  pub quiet_joined : (old touched marks : ℕ) (xs ys : List (Node V X)) → ((b : ℕ) → mark_of marks b ≡ 0 → (mark_of old b ≡ 0) × (mark_of touched b ≡ 0)) → AreSameBut touched xs ys → AreQuietBut old xs → AreQuietBut marks ys
  quiet_joined old touched marks xs ys more same all = record { each = λ b x is none. (let p = more b none in all.each b x (sym (same.each b p.1) ∙ is) p.0) }

  -- where all have forgotten, whatever is marked
  pub all_quiet : (marks : ℕ) (xs ys : List (Node V X)) → AreEach (λ b u v. HasForgotten u.world v.world u.ends.items v.ends.items) xs ys → AreQuietBut marks ys
  all_quiet marks xs ys all = record {
    each = λ b y is none.
        let low = slice_get_within ys b y is in
        let same = all.long in
        let x = is_there xs b (omega (arith, low, same)) in
        (all.each b x.0 y x.1 is).quiet;
  }

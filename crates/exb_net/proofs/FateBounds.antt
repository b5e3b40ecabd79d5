-- The verdicts that the fates of all bridges may still give stay few.
use Rattle.std.proofs.Common.{◌≡◌, ℕ, ◌+◌, ◌^◌, ◌<◌, ◌≤◌, List, length, Some, arith}
use Rattle.std.specs.Prelude.{All, slice_get}
use Rattle.std.proofs.lemmas.Option.{slice_get_within}
use Rattle.exb_timeline.specs.declared.net_timeline.NetNext.{NetNext}
use Rattle.exb_timeline.specs.declared.bridge_timeline.Timeline.{Timeline}
use Rattle.exb_net_file.specs.declared.net_parts.BridgeInputs.{BridgeInputs}
use Rattle.exb_net.specs.declared.node.Node.{Node}
use Rattle.exb_net.specs.PairedLists.{AreEach}
use Rattle.exb_net.proofs.ListPlaces.{all_by, is_there}
use Rattle.exb_net.specs.NetInvariants.{IsPaid, IsWithin, letters_at}

module _ {V : Type 0} {X : V → Type 0} (verdicts : Node V X → ℕ) where
  abbrev pub Falls : List (Node V X) → List (Node V X) → Type 0
  Falls xs ys = AreEach (λ b x y. verdicts y ≤ verdicts x) xs ys

  -- the node that was there before
  before : (R : ℕ → Node V X → Node V X → Type 0) (xs ys : List (Node V X)) → AreEach R xs ys → (b : ℕ) (y : Node V X) → slice_get ys b ≡ Some y → (x : Node V X) × (slice_get xs b ≡ Some x) × R b x y
  before R xs ys all b y is =
      let was = is_there xs b (let low = slice_get_within ys b y is in let long = all.long in omega (arith, low, long)) in
      (was.0, was.1, all.each b was.0 y was.1 is)

  pub falls_paid : (xs ys : List (Node V X)) (rests : List BridgeInputs) (d : NetNext) (ps : List Timeline) → Falls xs ys → IsPaid xs verdicts rests d ps → IsPaid ys verdicts rests d ps
  falls_paid xs ys rests d ps falls paid = record {
    each = λ b y q is there.
        let was = before (λ k x z. verdicts z ≤ verdicts x) xs ys falls b y is in
        let own = paid.each b was.0 q was.1 there in
        let less = was.2 in
        omega (arith, own, less);
  }

  pub falls_within : (xs ys : List (Node V X)) (ps : List Timeline) → Falls xs ys → IsWithin xs verdicts ps → IsWithin ys verdicts ps
  falls_within xs ys ps falls within = record {
    each = λ b y q is there.
        let was = before (λ k x z. verdicts z ≤ verdicts x) xs ys falls b y is in
        let own = within.each b was.0 q was.1 there in
        let less = was.2 in
        omega (arith, own, less);
  }

  pub given_within : (xs ys : List (Node V X)) (rests : List BridgeInputs) (d : NetNext) (ps : List Timeline) → AreEach (λ b x y. verdicts y ≤ verdicts x + letters_at rests d b) xs ys → IsPaid xs verdicts rests d ps → IsWithin ys verdicts ps
  given_within xs ys rests d ps falls paid = record {
    each = λ b y q is there.
        let was = before (λ k x z. verdicts z ≤ verdicts x + letters_at rests d k) xs ys falls b y is in
        let own = paid.each b was.0 q was.1 there in
        let less = was.2 in
        omega (arith, own, less);
  }

  pub paid_few : (xs : List (Node V X)) (rests : List BridgeInputs) (d : NetNext) (ps : List Timeline) → length xs ≤ length ps → IsPaid xs verdicts rests d ps → All (λ x. verdicts x < 2 ^ 57) xs
  paid_few xs rests d ps long paid =
      all_by (λ (x : Node V X). verdicts x < 2 ^ 57) xs
      (λ b x is.
      let q = is_there ps b (let low = slice_get_within xs b x is in omega (arith, low, long)) in
      let own = paid.each b x q.0 is q.1 in
      omega (arith, own))

  pub paid_at : (xs : List (Node V X)) (rests : List BridgeInputs) (d : NetNext) (ps : List Timeline) → length xs ≤ length ps → IsPaid xs verdicts rests d ps → (b : ℕ) (x : Node V X) → slice_get xs b ≡ Some x →
      verdicts x + letters_at rests d b < 2 ^ 57
  paid_at xs rests d ps long paid b x is =
      let q = is_there ps b (let low = slice_get_within xs b x is in omega (arith, low, long)) in
      let own = paid.each b x q.0 is q.1 in
      omega (arith, own)

  pub within_few : (xs : List (Node V X)) (ps : List Timeline) → length xs ≤ length ps → IsWithin xs verdicts ps → All (λ x. verdicts x < 2 ^ 57) xs
  within_few xs ps long within =
      all_by (λ (x : Node V X). verdicts x < 2 ^ 57) xs
      (λ b x is.
      let q = is_there ps b (let low = slice_get_within xs b x is in omega (arith, low, long)) in
      let own = within.each b x q.0 is q.1 in
      omega (arith, own))

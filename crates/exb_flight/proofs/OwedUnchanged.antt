-- What is owed stays where each word is carried as before.
use Rattle.std.proofs.Common.{◌≡◌, ℕ, zero, suc, ◌≤◌, not, true, List, [], ◌∷◌, refl, inl, inr}
use Rattle.std.specs.List.{flat_map}
use Rattle.std.proofs.lemmas.Bool.{cases_lt, lt-ltb, le-ltb, and_parts}
use Rattle.exb_model.specs.Tree.{Shape, IsTree, device, on, is_port, is_cascade, is_external}
use Rattle.exb_model.specs.ExtenderForwarding.{Tables}
use Rattle.exb_model.specs.Carriage.{carried}
use Rattle.exb_model.proofs.TreeWays.{port_above}
use Rattle.exb_flight.specs.Items.{Word, Each, stamped}
use Rattle.exb_flight.specs.Tree.{IsLink, IsDeep}
use Rattle.exb_flight.specs.DownwardFrames.{link_owes, owed_up, owed}
use Rattle.exb_flight.specs.Items.{Item, words_of}
use Rattle.exb_flight.specs.Flight.{words_at, owes}
use Rattle.exb_flight.proofs.ExtendersAbove.{home_link}

-- ---- tables that carry the words as before
module _ (s : Shape) (valid : IsTree s) (t u : Tables) (words : ℕ → List Word) (q : ℕ)
    (same : (p : ℕ) → IsDeep s p → link_owes s t words q (device p) ≡ link_owes s u words q (device p)) where
  owed_up_same : (d p : ℕ) → IsDeep s p → owed_up s t words q d p ≡ owed_up s u words q d p
  unfolding owed_up
  owed_up_same zero p h = same p h
  owed_up_same (suc d) p h =
      elim (cases_lt (on s (device p)) 64) [
        | inl l ↦ rw (lt-ltb _ 64 l, same p h) refl
        | inr g ↦
            let next : IsDeep s (on s (device p)) = record { deep = g; known = port_above s valid p h.deep h.known } in
            rw (le-ltb _ 64 g, same p h, owed_up_same d (on s (device p)) next) refl
      ]

  pub owed_same : IsDeep s q → owed s t words q ≡ owed s u words q
  unfolding owed
  owed_same h = owed_up_same 64 q h

pub link_same : (s : Shape) (t u : Tables) (n q : ℕ) (ws : List Word) → Each (λ f. carried s t n f.bytes q ≡ carried s u n f.bytes q) ws →
    flat_map (λ f. stamped f (carried s t n f.bytes q)) ws ≡ flat_map (λ f. stamped f (carried s u n f.bytes q)) ws
link_same s t u n q [] h = refl
link_same s t u n q (f ∷ ws) h = rw (h.0, link_same s t u n q ws h.1) refl

-- an external port of an extender
pub external_deep : (s : Shape) (q : ℕ) → is_external s q ≡ true → 64 ≤ q → IsDeep s q
external_deep s q ext g = record { deep = g; known = (and_parts (is_port s q) (not (is_cascade s q)) ext).0 }

-- what is owed stays where each word is carried as before
pub owes_same : (s : Shape) → IsTree s → (t u : Tables) (down : ℕ → List Item) (q : ℕ) → (64 ≤ q → (n : ℕ) → IsLink s n → Each (λ f. carried s t n f.bytes q ≡ carried s u n f.bytes q) (words_of (down n))) →
    (64 ≤ q → IsDeep s q) → owes s t down q ≡ owes s u down q
owes_same s valid t u down q same deep =
    elim (cases_lt q 64) [
      | inl l ↦ rw (lt-ltb q 64 l) refl
      | inr g ↦ rw (le-ltb q 64 g) (owed_same s valid t u (words_at down) q (λ p h. link_same s t u (device p) q (words_of (down (device p))) (same g (device p) (home_link s p h))) (deep g))
    ]

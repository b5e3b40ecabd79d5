-- The captures of an input, and what is merged of it.
use Rattle.std.proofs.Common.{◌≡◌, ℕ, Bool, true, false, cond, filter, List, [], ◌∷◌, ◌++◌, map, refl, sym, ap, ◌∙◌}
use Rattle.std.specs.Prelude.{flat_map}
use Rattle.std.proofs.lemmas.List.Folds.{flat_map-map}
use Rattle.exb_model.specs.Ports.{all_ports}
use Rattle.exb_model.specs.declared.arrival.Arrival.{Arrival}
use Rattle.exb_model.specs.Input.{Input, Given, Captured, arrivals_at, all_arrivals, commands_from, start_second, by_moment, merge}
use Rattle.exb_timeline.specs.Streams.{arrivals_of, stream_at, to_come}

-- the captures of some ports give all records in order, where they have all arrivals
pub records-of : (i : Input) (ps : List ℕ) → flat_map (arrivals_at i) ps ≡ flat_map (arrivals_at i) all_ports → to_come (map (stream_at i) ps) ≡ by_moment (map Captured (all_arrivals i))
unfolding to_come arrivals_at all_arrivals
records-of i ps all = ap (λ (ys : List Arrival). by_moment (map Captured ys)) (flat_map-map arrivals_of (stream_at i) ps ∙ all)

-- and where there is no command, all that is merged
pub merge-of : (i : Input) (ps : List ℕ) → i.commands ≡ [] → flat_map (arrivals_at i) ps ≡ flat_map (arrivals_at i) all_ports → to_come (map (stream_at i) ps) ≡ merge i
unfolding merge
merge-of i ps none all =
    records-of i ps all ∙ sym (ap (λ (cs : List Given). by_moment (commands_from (start_second i) 1 cs ++ map Captured (all_arrivals i))) none)

pub arrivals_at-none : (i : Input) (q : ℕ) → i.records q ≡ [] → arrivals_at i q ≡ []
unfolding arrivals_at
arrivals_at-none i q none = rw none refl

module _ (f : ℕ → List Arrival) where
  -- the others have none
  pub flat_map-filter : (chosen : ℕ → Bool) → ((q : ℕ) → chosen q ≡ false → f q ≡ []) → (ps : List ℕ) → flat_map f (filter chosen ps) ≡ flat_map f ps
  flat_map-filter chosen none [] = refl
  flat_map-filter chosen none (p ∷ ps) = by_test (flat_map-filter chosen none ps) (chosen p) refl
    where
      by_test : flat_map f (filter chosen ps) ≡ flat_map f ps → (b : Bool) → chosen p ≡ b → flat_map f (cond (chosen p) (p ∷ filter chosen ps) (filter chosen ps)) ≡ f p ++ flat_map f ps
      by_test rest true e = rw e (ap (λ ys. f p ++ ys) rest)
      by_test rest false e = rw (e, none p e) rest

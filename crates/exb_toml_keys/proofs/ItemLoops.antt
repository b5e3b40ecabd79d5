-- Reading items one after the other, as a loop does.
use Rattle.std.proofs.Common.{◌≡◌, ℕ, ◌+◌, ◌<◌, ◌≤◌, List, [], ◌∷◌, ◌++◌, Result, Ok, Err, length, get_or, drop, refl, sym, ap, ◌∙◌, append_assoc}
use Rattle.std.proofs.lemmas.List.{append-nil, drop_all}
use Rattle.toml.specs.Data.{Data}
use Rattle.toml.specs.View.{view, items_view}
use Rattle.toml.specs.declared.value.Value.{Value}
use Rattle.toml.proofs.Views.{items_view-drop}
use Rattle.exb_toml_keys.specs.declared.faults.TopoFault.{TopoFault}
use Rattle.exb_toml_keys.specs.declared.faults.TopoFault.TheVariants as errors
use Rattle.exb_toml_keys.specs.declared.faults.KeyFault.{KeyFault}
use Rattle.exb_toml_keys.specs.Faults.{Refusal, ◌>>=◌, Fails, IsFault, not_toml, large, at}
use Rattle.exb_toml_keys.specs.Keys.{each}

-- what was read before, and what is still read
abbrev pub with_front : {X : Type 0} → List X → Result (List X) Refusal → Result (List X) Refusal
with_front front read = read >>= λ xs. Ok (front ++ xs)

pub none_before : {X : Type 0} (read : Result (List X) Refusal) → with_front [] read ≡ read
none_before (Ok xs) = refl
none_before (Err e) = refl

pub regroup : {X : Type 0} (front : List X) (x : X) (read : Result (List X) Refusal) → with_front front (read >>= λ xs. Ok (x ∷ xs)) ≡ with_front (front ++ x ∷ []) read
regroup front x (Ok xs) = ap Ok (sym (append_assoc front (x ∷ []) xs))
regroup front x (Err e) = refl

-- what fails, fails for all
pub fails_along : {X Y : Type 0} (e : TopoFault) (part : Result X Refusal) (total : Result Y Refusal) → ((r : Refusal) → part ≡ Err r → total ≡ Err r) → Fails e part → Fails e total
fails_along errors.Memory part total so h = tt
fails_along errors.NotToml part total so h = so not_toml h
fails_along errors.Large part total so h = so large h
fails_along (errors.At f k) part total so h = so _ h

module _ {S X : Type 0} (read : S → ℕ → Data → Result X Refusal) (next : S → X → S) where
  -- what the loop keeps: at index i, with state s and these read
  abbrev pub So : List Value → ℕ → S → List X → Result (List X) Refusal → Type 0
  So vs i s front total = with_front front (each read next s i (items_view (drop i vs))) ≡ total

  pub begins : (vs : List Value) (s : S) → So vs 0 s [] (each read next s 0 (items_view vs))
  begins vs s = none_before (each read next s 0 (items_view vs))

  pub goes_on : (front : List X) (vs : List Value) (i : ℕ) (s : S) (v : Value) (x : X) (total : Result (List X) Refusal) → i < length vs → get_or vs i v ≡ v
      → read s i (view v) ≡ Ok x → So vs i s front total → So vs (i + 1) (next s x) (front ++ x ∷ []) total
  unfolding each
  goes_on front vs i s v x total lt is h so_far =
      let one : with_front front (each read next s i (items_view (drop i vs))) ≡ with_front (front ++ x ∷ []) (each read next (next s x) (i + 1) (items_view (drop (i + 1) vs))) = rw (items_view-drop vs i v lt, is, h) (regroup front x (each read next (next s x) (i + 1) (items_view (drop (i + 1) vs)))) in
      sym one ∙ so_far

  pub ends : (e : TopoFault) (front : List X) (vs : List Value) (i : ℕ) (s : S) (v : Value) (total : Result (List X) Refusal) → i < length vs → get_or vs i v ≡ v
      → Fails e (read s i (view v)) → So vs i s front total → Fails e total
  unfolding each
  ends e front vs i s v total lt is h so_far =
      fails_along e (read s i (view v)) total (λ r f.
      let one : with_front front (each read next s i (items_view (drop i vs))) ≡ Err r = rw (items_view-drop vs i v lt, is, f) refl in
      sym so_far ∙ one) h

  pub is_done : (front : List X) (vs : List Value) (i : ℕ) (s : S) (total : Result (List X) Refusal) → length vs ≤ i → So vs i s front total → total ≡ Ok front
  unfolding each
  is_done front vs i s total le so_far =
      let one : with_front front (each read next s i (items_view (drop i vs))) ≡ Ok front = rw (drop_all i vs le) (ap Ok (append-nil front)) in
      sym so_far ∙ one

-- a fault at a key is what a definition refuses with
pub fails_from_fault : (X : Type 0) (e : TopoFault) (f : KeyFault) (key : List ℕ) → IsFault e f key → Fails {Y = X} e (Err (at f key))
fails_from_fault X errors.Memory f key is = tt
fails_from_fault X errors.NotToml f key is = absurd is
fails_from_fault X errors.Large f key is = absurd is
fails_from_fault X (errors.At g text) f key is = rw (is.0, is.1) refl

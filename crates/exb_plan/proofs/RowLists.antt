-- A list of rows that grows.
use Rattle.std.proofs.Common.{◌≡◌, ◌≢◌, ℕ, ◌+◌, ◌<◌, ◌==◌, ◌++◌, Bool, true, false, List, [], ◌∷◌, length, slice_index, take, refl, sym, ◌∙◌, eq-eqb}
use Rattle.std.specs.List.{filter_map}
use Rattle.std.proofs.lemmas.Bool.{ne_eqb}
use Rattle.std.proofs.lemmas.List.{take_more, append-nil}
use Rattle.std.proofs.lemmas.List.Elements.{filter_map-append}
use Rattle.exb_model.specs.Tree.{Shape, by_depth}
use Rattle.exb_model.specs.TreeSets.{mask_of}
use Rattle.exb_control_spec.specs.declared.plan.row.Row.{Row}
use Rattle.exb_control_spec.specs.Plans.Rows.{row_of, rows_of}

pub rows_are : (t : Shape) (set : ℕ → Bool) → rows_of t set ≡ filter_map (row_of t set) (by_depth t)
unfolding rows_of
rows_are t set = refl

module _ (t : Shape) (set : ℕ → Bool) (xs : List ℕ) (i : ℕ) (within : i < length xs) where
  one_more : filter_map (row_of t set) (take (i + 1) xs) ≡ filter_map (row_of t set) (take i xs) ++ filter_map (row_of t set) (slice_index xs i ∷ [])
  one_more = rw (take_more xs i 0 within) (filter_map-append (row_of t set) (take i xs) (slice_index xs i ∷ []))

  pub row_in : (m : ℕ) (rows : List Row) → m ≡ mask_of t set (slice_index xs i) → m ≢ 0 →
      rows ≡ filter_map (row_of t set) (take i xs) → rows ++ record { extender = slice_index xs i; mask = m } ∷ [] ≡ filter_map (row_of t set) (take (i + 1) xs)
  row_in m rows is_mask some before =
      let test : (mask_of t set (slice_index xs i) == 0) ≡ false = ne_eqb _ _ (λ e. some (is_mask ∙ e)) in
      rw (one_more, before, test, is_mask) refl

  pub row_out : (m : ℕ) (rows : List Row) → m ≡ mask_of t set (slice_index xs i) → m ≡ 0 →
      rows ≡ filter_map (row_of t set) (take i xs) → rows ≡ filter_map (row_of t set) (take (i + 1) xs)
  row_out m rows is_mask none before =
      let test : (mask_of t set (slice_index xs i) == 0) ≡ true = eq-eqb _ _ (sym is_mask ∙ none) in
      rw (one_more, before, test, append-nil) refl

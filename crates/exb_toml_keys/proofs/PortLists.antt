-- Reading the words of a list one after the other.
use Rattle.std.proofs.Common.{◌≡◌, ℕ, ◌+◌, ◌<◌, ◌≤◌, List, [], ◌∷◌, ◌++◌, Option, Some, None, option_map, length, get_or, drop, refl, sym, ap, ◌∙◌, append_assoc}
use Rattle.std.specs.Option.{option_and_then}
use Rattle.std.proofs.lemmas.List.{append-nil, drop_all}
use Rattle.toml.specs.View.{view, items_view}
use Rattle.toml.specs.declared.value.Value.{Value}
use Rattle.toml.proofs.Views.{items_view-drop}
use Rattle.exb_toml_keys.specs.declared.text_values.PortPattern.{PortPattern}
use Rattle.exb_toml_keys.specs.Keys.{word_in, words_of}

-- the words before, and those of the rest
abbrev pub after_these : List PortPattern → Option (List PortPattern) → Option (List PortPattern)
after_these front read = option_map (λ ws. front ++ ws) read

pub none_before : (read : Option (List PortPattern)) → after_these [] read ≡ read
none_before None = refl
none_before (Some ws) = refl

regroup : (front : List PortPattern) (w : PortPattern) (read : Option (List PortPattern)) → after_these front (option_and_then (λ ws. Some (w ∷ ws)) read) ≡ after_these (front ++ w ∷ []) read
regroup front w None = refl
regroup front w (Some ws) = ap Some (sym (append_assoc front (w ∷ []) ws))

pub goes_on : (front : List PortPattern) (vs : List Value) (i : ℕ) (v : Value) (w : PortPattern) → i < length vs → get_or vs i v ≡ v → word_in (view v) ≡ Some w
    → after_these front (words_of (items_view (drop i vs))) ≡ words_of (items_view vs) → after_these (front ++ w ∷ []) (words_of (items_view (drop (i + 1) vs))) ≡ words_of (items_view vs)
unfolding words_of
goes_on front vs i v w lt is h so_far =
    let one : after_these front (words_of (items_view (drop i vs))) ≡ after_these (front ++ w ∷ []) (words_of (items_view (drop (i + 1) vs))) = rw (items_view-drop vs i v lt, is, h) (regroup front w (words_of (items_view (drop (i + 1) vs)))) in
    sym one ∙ so_far

pub ends : (front : List PortPattern) (vs : List Value) (i : ℕ) (v : Value) → i < length vs → get_or vs i v ≡ v → word_in (view v) ≡ None
    → after_these front (words_of (items_view (drop i vs))) ≡ words_of (items_view vs) → words_of (items_view vs) ≡ None
unfolding words_of
ends front vs i v lt is h so_far =
    let one : after_these front (words_of (items_view (drop i vs))) ≡ None = rw (items_view-drop vs i v lt, is, h) refl in
    sym so_far ∙ one

pub is_done : (front : List PortPattern) (vs : List Value) (i : ℕ) → length vs ≤ i → after_these front (words_of (items_view (drop i vs))) ≡ words_of (items_view vs) → words_of (items_view vs) ≡ Some front
unfolding words_of
is_done front vs i le so_far =
    let one : after_these front (words_of (items_view (drop i vs))) ≡ Some front = rw (drop_all i vs le) (ap Some (append-nil front)) in
    sym so_far ∙ one

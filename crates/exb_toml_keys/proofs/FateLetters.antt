-- Reading letters one after the other.
use Rattle.std.proofs.Common.{◌≡◌, ℕ, ◌+◌, ◌<◌, ◌≤◌, List, [], ◌∷◌, ◌++◌, Option, Some, None, option_map, length, get_or, drop, refl, sym, ap, ◌∙◌, append_assoc}
use Rattle.std.specs.Option.{option_and_then}
use Rattle.std.proofs.lemmas.List.{append-nil, drop_all, drop_more}
use Rattle.exb_model.specs.declared.setup.Verdict.{Verdict}
use Rattle.exb_toml_keys.specs.TextValues.{verdict_of, fate_of}

abbrev pub after_these : List Verdict → Option (List Verdict) → Option (List Verdict)
after_these front read = option_map (λ vs. front ++ vs) read

pub none_before : (read : Option (List Verdict)) → after_these [] read ≡ read
none_before None = refl
none_before (Some vs) = refl

regroup : (front : List Verdict) (v : Verdict) (read : Option (List Verdict)) → after_these front (option_and_then (λ vs. Some (v ∷ vs)) read) ≡ after_these (front ++ v ∷ []) read
regroup front v None = refl
regroup front v (Some vs) = ap Some (sym (append_assoc front (v ∷ []) vs))

pub goes_on : (front : List Verdict) (cs : List ℕ) (i : ℕ) (v : Verdict) → i < length cs → verdict_of (get_or cs i 0) ≡ Some v → after_these front (fate_of (drop i cs)) ≡ fate_of cs
    → after_these (front ++ v ∷ []) (fate_of (drop (i + 1) cs)) ≡ fate_of cs
unfolding fate_of
goes_on front cs i v lt h so_far =
    let one : after_these front (fate_of (drop i cs)) ≡ after_these (front ++ v ∷ []) (fate_of (drop (i + 1) cs)) = rw (drop_more cs i 0 lt, h) (regroup front v (fate_of (drop (i + 1) cs))) in
    sym one ∙ so_far

pub ends : (front : List Verdict) (cs : List ℕ) (i : ℕ) → i < length cs → verdict_of (get_or cs i 0) ≡ None → after_these front (fate_of (drop i cs)) ≡ fate_of cs → None ≡ fate_of cs
unfolding fate_of
ends front cs i lt h so_far =
    let one : after_these front (fate_of (drop i cs)) ≡ None = rw (drop_more cs i 0 lt, h) refl in
    sym one ∙ so_far

pub is_done : (front : List Verdict) (cs : List ℕ) (i : ℕ) → length cs ≤ i → after_these front (fate_of (drop i cs)) ≡ fate_of cs → Some front ≡ fate_of cs
unfolding fate_of
is_done front cs i le so_far =
    let one : after_these front (fate_of (drop i cs)) ≡ Some front = rw (drop_all i cs le) (ap Some (append-nil front)) in
    sym one ∙ so_far

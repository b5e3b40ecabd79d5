-- The least second of any first record, bridge after bridge.
use Rattle.std.proofs.Common.{◌≡◌, ℕ, ◌+◌, ◌<◌, ◌≤◌, List, [], ◌∷◌, ◌++◌, length, take, get_or, Option, None, refl, ap, sym, subst, ◌∙◌}
use Rattle.std.specs.Prelude.{unwrap_or}
use Rattle.std.specs.declared.alloc.Global.{Global}
use Rattle.std.specs.declared.vec.Vec.{Vec}
use Rattle.std.proofs.lemmas.Grind.{flat_map-append}
use Rattle.std.proofs.lemmas.List.{append-nil, take_all, take_more}
use Rattle.exb_inputs.specs.declared.captures.CheckedCapture.{CheckedCapture}
use Rattle.exb_inputs.specs.ReplayStart.{earliest_told, seconds_told}
use Rattle.exb_inputs.proofs.FirstRecords.{IsLeastOf, earliest-least, least-end}
use Rattle.exb_net.specs.ReopenedCaptures.{seconds_of_all, start_of_told}

none_taken : {A : Type 0} (xs : List A) → take 0 xs ≡ []
none_taken [] = refl
none_taken (x ∷ xs) = refl

pub least_begins : (cs : List (Vec CheckedCapture Global)) → IsLeastOf (seconds_of_all (take 0 cs)) None
least_begins cs = subst (λ (xs : List (Vec CheckedCapture Global)). IsLeastOf (seconds_of_all xs) None) (sym (none_taken cs)) refl

pub least_goes : (cs : List (Vec CheckedCapture Global)) (i : ℕ) (c : Vec CheckedCapture Global) (items : List CheckedCapture) (o next : Option ℕ) → i < length cs → c ≡ get_or cs i c → items ≡ c.items → next ≡ earliest_told o items → IsLeastOf (seconds_of_all (take i cs)) o → IsLeastOf (seconds_of_all (take (i + 1) cs)) next
least_goes cs i c items o next low is same told least =
    let front : take (i + 1) cs ≡ take i cs ++ c ∷ [] = take_more cs i c low ∙ ap (λ (d : Vec CheckedCapture Global). take i cs ++ d ∷ []) (sym is) in
    let seconds : seconds_of_all (take (i + 1) cs) ≡ seconds_of_all (take i cs) ++ seconds_told c.items =
    ap seconds_of_all front ∙ (flat_map-append (λ (d : Vec CheckedCapture Global). seconds_told d.items) (take i cs) (c ∷ []) ∙ ap (λ (xs : List ℕ). seconds_of_all (take i cs) ++ xs) (append-nil (seconds_told c.items))) in
    subst (λ (n : Option ℕ). IsLeastOf (seconds_of_all (take (i + 1) cs)) n) (sym (told ∙ ap (earliest_told o) same))
    (subst (λ (xs : List ℕ). IsLeastOf xs (earliest_told o c.items)) (sym seconds) (earliest-least (seconds_of_all (take i cs)) o c.items least))

pub least_ends : (cs : List (Vec CheckedCapture Global)) (i : ℕ) (o : Option ℕ) → length cs ≤ i → IsLeastOf (seconds_of_all (take i cs)) o → unwrap_or o 0 ≡ start_of_told cs
least_ends cs i o end least = least-end (seconds_of_all (take i cs)) o least ∙ ap (λ (xs : List (Vec CheckedCapture Global)). start_of_told xs) (take_all i cs end)

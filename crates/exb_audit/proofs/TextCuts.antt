-- Where a text is cut.
use Rattle.std.proofs.Common.{◌≡◌, ◌≢◌, ℕ, ◌+◌, ◌-◌, ◌<◌, ◌≤◌, ◌==◌, false, List, [], ◌∷◌, ◌++◌, length, get_or, take, drop, sym, ap, ◌∙◌, subst, eq-eqb}
use Rattle.std.specs.Prelude.{All}
use Rattle.std.specs.List.{slice_split}
use Rattle.std.proofs.lemmas.Bool.{ne_eqb}
use Rattle.std.proofs.lemmas.List.{take-append-drop, drop_more, take_more, take_rest, take_all}
use Rattle.std.proofs.lemmas.List.Elements.{All-more}
use Rattle.std.proofs.lemmas.List.Splits.{slice_split_at, slice_split_none}

-- a list about one of its elements
pub about : {A : Type 0} (xs : List A) (i : ℕ) (d : A) → i < length xs → xs ≡ take i xs ++ get_or xs i d ∷ drop (i + 1) xs
about xs i d l = sym (take-append-drop i xs) ∙ ap (λ zs. take i xs ++ zs) (drop_more xs i d l)

pub cut_at : (b : ℕ) (text : List ℕ) (i : ℕ) → i < length text → get_or text i 0 ≡ b → All (λ x. (x == b) ≡ false) (take i text) →
    slice_split (λ x. x == b) text ≡ take i text ∷ slice_split (λ x. x == b) (drop (i + 1) text)
cut_at b text i l e all =
    ap (slice_split (λ x. x == b)) (about text i 0 l)
    ∙ slice_split_at (λ x. x == b) (take i text) (get_or text i 0) (drop (i + 1) text) all (eq-eqb (get_or text i 0) b e)

-- an item that a loop is at
pub item_is : {A : Type 0} (xs : List A) (i : ℕ) (x : A) → x ≡ get_or xs i x → i < length xs → xs ≡ take i xs ++ x ∷ drop (i + 1) xs
item_is xs i x e l = about xs i x l ∙ ap (λ y. take i xs ++ y ∷ drop (i + 1) xs) (sym e)

pub item_more : {A : Type 0} (xs : List A) (i : ℕ) (x : A) → x ≡ get_or xs i x → i < length xs → take (i + 1) xs ≡ take i xs ++ x ∷ []
item_more xs i x e l = take_more xs i x l ∙ ap (λ y. take i xs ++ y ∷ []) (sym e)

pub item_first : {A : Type 0} (xs : List A) (i : ℕ) (x : A) → x ≡ get_or xs i x → i < length xs → drop i xs ≡ x ∷ drop (i + 1) xs
item_first xs i x e l = drop_more xs i x l ∙ ap (λ y. y ∷ drop (i + 1) xs) (sym e)

-- what stands behind a byte, as it is sliced
pub cut_here : (b : ℕ) (text : List ℕ) (i : ℕ) → i < length text → get_or text i 0 ≡ b → All (λ x. (x == b) ≡ false) (take i text) →
    slice_split (λ x. x == b) text ≡ take i text ∷ slice_split (λ x. x == b) (take (length text - (i + 1)) (drop (i + 1) text))
cut_here b text i l e all = cut_at b text i l e all ∙ ap (λ zs. take i text ∷ slice_split (λ x. x == b) zs) (sym (take_rest text (i + 1)))

pub cut_none : (b : ℕ) (text : List ℕ) (i : ℕ) → length text ≤ i → All (λ x. (x == b) ≡ false) (take i text) → slice_split (λ x. x == b) text ≡ text ∷ []
cut_none b text i l all = slice_split_none (λ x. x == b) text (subst (All (λ x. (x == b) ≡ false)) (take_all i text l) all)

pub lacks_more : (b : ℕ) (text : List ℕ) (i : ℕ) → i < length text → get_or text i 0 ≢ b → All (λ x. (x == b) ≡ false) (take i text) → All (λ x. (x == b) ≡ false) (take (i + 1) text)
lacks_more b text i l ne all = All-more (λ x. (x == b) ≡ false) text i 0 l all (ne_eqb (get_or text i 0) b ne)

-- Files of bridges with two names.
use Rattle.std.proofs.Common.{◌≡◌, ℕ, ◌&&◌, ◌++◌, true, List, [], ◌∷◌, refl, ap, sym, ◌∙◌, codes, append_assoc}
use Rattle.std.specs.Prelude.{nat_le, length}
use Rattle.std.specs.List.{list_all}
use Rattle.std.proofs.lemmas.Bool.{and_parts, false≢true}
use Rattle.exb_journal.specs.declared.file_names.OutputKind.{OutputKind}
use Rattle.exb_journal.specs.FileNames.{file_name, IsOfPort}
use Rattle.exb_journal.proofs.FileNameLemmas.{name_behind}
use Rattle.exb_net_file.specs.Members.{prefix_of}
use Rattle.exb_net_file.specs.EndNames.{is_letter, is_name}

abbrev Letters : List ℕ → Type 0
Letters s = list_all is_letter s ≡ true

letters_of : (s : List ℕ) → is_name s ≡ true → Letters s
unfolding is_name
letters_of s e = (and_parts (nat_le 1 (length s) && nat_le (length s) 32) (list_all is_letter s) e).1

-- a letter is no hyphen
no_hyphen : (c : ℕ) → c ≡ 45 → is_letter c ≡ true → ⊥
no_hyphen c is e = false≢true (sym (ap is_letter is) ∙ e)

head_same : (c d : ℕ) (xs ys : List ℕ) → c ∷ xs ≡ d ∷ ys → c ≡ d
head_same c d xs ys e = cc

tail_same : (c d : ℕ) (xs ys : List ℕ) → c ∷ xs ≡ d ∷ ys → xs ≡ ys
tail_same c d xs ys e = cc

-- what stands before the first hyphen, and behind it
parts_same : (m k r s : List ℕ) → Letters m → Letters k → m ++ 45 ∷ r ≡ k ++ 45 ∷ s → (m ≡ k) × (r ≡ s)
parts_same [] [] r s lm lk e = (refl, tail_same 45 45 r s e)
parts_same [] (d ∷ k) r s lm lk e = absurd (no_hyphen d (sym (head_same 45 d r (k ++ 45 ∷ s) e)) (and_parts (is_letter d) (list_all is_letter k) lk).0)
parts_same (c ∷ m) [] r s lm lk e = absurd (no_hyphen c (head_same c 45 (m ++ 45 ∷ r) s e) (and_parts (is_letter c) (list_all is_letter m) lm).0)
parts_same (c ∷ m) (d ∷ k) r s lm lk e =
    let same = parts_same m k r s (and_parts (is_letter c) (list_all is_letter m) lm).1 (and_parts (is_letter d) (list_all is_letter k) lk).1 (tail_same c d (m ++ 45 ∷ r) (k ++ 45 ∷ s) e) in
    ((λ i. head_same c d (m ++ 45 ∷ r) (k ++ 45 ∷ s) e i ∷ same.0 i), same.1)

name_parts : (m : List ℕ) (x : OutputKind) → file_name (prefix_of m) x ≡ m ++ 45 ∷ file_name [] x
name_parts m x = name_behind (prefix_of m) x ∙ append_assoc m (codes "-") (file_name [] x)

pub bridges_write_apart : ((prefix : List ℕ) (x y : OutputKind) → IsOfPort x → IsOfPort y → file_name prefix x ≡ file_name prefix y → x ≡ y)
    → (m k : List ℕ) (x y : OutputKind) → is_name m ≡ true → is_name k ≡ true → IsOfPort x → IsOfPort y → file_name (prefix_of m) x ≡ file_name (prefix_of k) y → (m ≡ k) × (x ≡ y)
bridges_write_apart differ m k x y im ik hx hy e =
    let same = parts_same m k (file_name [] x) (file_name [] y) (letters_of m im) (letters_of k ik) (sym (name_parts m x) ∙ e ∙ name_parts k y) in
    (same.0, differ [] x y hx hy same.1)

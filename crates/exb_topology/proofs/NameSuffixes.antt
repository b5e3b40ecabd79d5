-- The names of output files by what stands behind their prefix.
use Rattle.std.proofs.Common.{◌≡◌, ◌≢◌, ℕ, ◌&&◌, ◌||◌, Bool, false, List, [], ◌∷◌, ◌++◌, map, refl, sym, ap, ◌∙◌}
use Rattle.std.specs.List.{list_any}
use Rattle.std.specs.Str.{bytes_eq}
use Rattle.std.specs.Cmp.Lexicographic.{bytes_decides}
use Rattle.std.proofs.lemmas.Bool.{eq-eqb, false_from_ne_true}
use Rattle.exb_model.specs.Tree.{Shape, external_ports}
use Rattle.exb_journal.specs.declared.file_names.OutputKind.{OutputKind}
use Rattle.exb_journal.specs.declared.file_names.OutputKind.TheVariants as output
use Rattle.exb_journal.specs.FileNames.{all_outputs, capture_name, file_name, other_outputs}
use Rattle.exb_journal.proofs.FileNameLemmas.{name_behind}
use Rattle.exb_topology.specs.Checks.{output_names}

names_behind : (prefix : List ℕ) (os : List OutputKind) → map (file_name prefix) os ≡ map (λ o. prefix ++ o) (map (file_name []) os)
names_behind prefix [] = refl
names_behind prefix (o ∷ os) = λ i. name_behind prefix o i ∷ names_behind prefix os i

outputs_behind : (prefix : List ℕ) (t : Shape) → output_names prefix t ≡ map (λ o. prefix ++ o) (output_names [] t)
unfolding output_names
outputs_behind prefix t = names_behind prefix (all_outputs t)

behind_same : (prefix end o : List ℕ) → bytes_eq (prefix ++ end) (prefix ++ o) ≡ bytes_eq end o
behind_same [] end o = refl
behind_same (c ∷ prefix) end o = ap (λ b. b && bytes_eq (prefix ++ end) (prefix ++ o)) (eq-eqb c c refl) ∙ behind_same prefix end o

behind_other : (name prefix o : List ℕ) → ((end : List ℕ) → name ≢ prefix ++ end) → bytes_eq name (prefix ++ o) ≡ false
behind_other name prefix o other = false_from_ne_true (bytes_eq name (prefix ++ o)) (λ same. other o ((bytes_decides name (prefix ++ o)).0 same))

any_behind : (prefix : List ℕ) (f g : List ℕ → Bool) (xs : List (List ℕ)) → ((o : List ℕ) → f (prefix ++ o) ≡ g o) → list_any f (map (λ o. prefix ++ o) xs) ≡ list_any g xs
any_behind prefix f g [] same = refl
any_behind prefix f g (x ∷ xs) same = λ i. same x i || any_behind prefix f g xs same i

none_passes : (xs : List (List ℕ)) → list_any (λ o. false) xs ≡ false
none_passes [] = refl
none_passes (x ∷ xs) = none_passes xs

pub with_end : (name prefix end : List ℕ) (t : Shape) → name ≡ prefix ++ end → list_any (λ o. bytes_eq end o) (output_names [] t) ≡ list_any (λ o. bytes_eq name o) (output_names prefix t)
with_end name prefix end t is = sym (
    ap (λ n. list_any (λ o. bytes_eq n o) (output_names prefix t)) is
    ∙ ap (λ ns. list_any (λ o. bytes_eq (prefix ++ end) o) ns) (outputs_behind prefix t)
    ∙ any_behind prefix (λ o. bytes_eq (prefix ++ end) o) (λ o. bytes_eq end o) (output_names [] t) (λ o. behind_same prefix end o)
    )

pub without_end : (name prefix : List ℕ) (t : Shape) → ((end : List ℕ) → name ≢ prefix ++ end) → list_any (λ o. bytes_eq name o) (output_names prefix t) ≡ false
without_end name prefix t other =
    ap (λ ns. list_any (λ o. bytes_eq name o) ns) (outputs_behind prefix t)
    ∙ any_behind prefix (λ o. bytes_eq name o) (λ o. false) (output_names [] t) (λ o. behind_other name prefix o other)
    ∙ none_passes (output_names [] t)

-- ---- the captures, and after them the others
names_of_captures : (prefix ps : List ℕ) (os : List OutputKind) → map (capture_name prefix) ps ++ map (file_name prefix) os ≡ map (file_name prefix) (map output.Capture ps ++ os)
names_of_captures prefix [] os = refl
names_of_captures prefix (p ∷ ps) os = ap (λ ns. capture_name prefix p ∷ ns) (names_of_captures prefix ps os)

pub names_all_kinds : (prefix : List ℕ) (t : Shape) → map (capture_name prefix) (external_ports t) ++ map (file_name prefix) other_outputs ≡ output_names prefix t
unfolding output_names
names_all_kinds prefix t = names_of_captures prefix (external_ports t) other_outputs

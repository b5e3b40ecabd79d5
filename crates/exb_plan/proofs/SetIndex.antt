-- Sets that are put into an index, each once.
use Rattle.std.proofs.Common.{◌≡◌, ℕ, ◌==◌, ◌&&◌, ◌||◌, Bool, true, false, cond, List, [], ◌∷◌, ◌++◌, map, refl, sym, ◌∙◌, ap, inl, inr, arith}
use Rattle.std.specs.Prelude.{nat_eq}
use Rattle.std.specs.List.{list_any}
use Rattle.std.specs.Bool.{Decides}
use Rattle.std.specs.Cmp.Lexicographic.{pointwise, same_text, other_text}
use Rattle.std.proofs.lemmas.Bool.{cases_Bool}
use Rattle.std.proofs.lemmas.List.{map-append}
use Rattle.std.proofs.lemmas.Grind.{same_number_lists}
use Rattle.indexmap.specs.IndexSet.{insert_key}
use Rattle.exb_model.specs.declared.port_set.PortSet.{PortSet}
use Rattle.exb_model.specs.PortBits.{has_port}
use Rattle.exb_model.specs.Ports.{port_in}
use Rattle.exb_model.specs.Refusals.{is_empty_set}
use Rattle.exb_model.proofs.PortBits.{same_word}
use Rattle.exb_control_spec.specs.declared.plan.set_at.SetAt.{SetAt}
use Rattle.exb_control_spec.specs.Plans.Sets.{is_same_set, with_set_at, seen}
use Rattle.exb_plan.proofs.SetPorts.{same_sets}

-- what `==` of sets below bridge ports answers
abbrev pub same_at : SetAt → SetAt → Bool
same_at a c = a.bridge_port == c.bridge_port && pointwise nat_eq a.set.words c.set.words

words_tell : (a c : PortSet) → Decides (pointwise nat_eq a.words c.words) ((q : ℕ) → port_in a q ≡ port_in c q)
words_tell a c = (
  λ h p. ap (λ (ws : List ℕ). has_port ws p) (same_text a.words c.words (sym h)),
  λ same.
      let e : a.words ≡ c.words = same_number_lists a.words c.words (a.sized ∙ sym c.sized) (λ k h. same_word a.words c.words 65 k (omega arith) (a.fits k) (c.fits k) (λ q _. same q)) in
      elim (cases_Bool (pointwise nat_eq a.words c.words)) [
        | inl t ↦ t
        | inr f ↦ absurd (other_text a.words c.words (sym f) e)
      ],
)

same_seen : (a c : SetAt) → same_at a c ≡ is_same_set (seen a) (seen c)
same_seen a c = ap (λ b. a.bridge_port == c.bridge_port && b) (same_sets a.set c.set (pointwise nat_eq a.set.words c.set.words) (words_tell a.set c.set))

any_seen : (s : SetAt) (xs : List SetAt) → list_any (same_at s) xs ≡ list_any (is_same_set (seen s)) (map seen xs)
any_seen s [] = refl
any_seen s (x ∷ xs) = ap (λ b. b || list_any (same_at s) xs) (same_seen s x) ∙ ap (λ b. is_same_set (seen s) (seen x) || b) (any_seen s xs)

pub put_seen : (xs : List SetAt) (s : SetAt) → is_empty_set (seen s).ports ≡ false → map seen (insert_key same_at xs s) ≡ with_set_at (map seen xs) (seen s)
put_seen xs s some = rw (some, ← any_seen s xs) (by_test (list_any (same_at s) xs))
  where
    by_test : (b : Bool) → map seen (cond b xs (xs ++ s ∷ [])) ≡ cond b (map seen xs) (map seen xs ++ seen s ∷ [])
    by_test true = refl
    by_test false = map-append seen xs (s ∷ [])

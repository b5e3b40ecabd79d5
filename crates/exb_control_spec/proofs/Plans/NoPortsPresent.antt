-- Where no port of an extender is present no group is needed.
use Rattle.std.proofs.Common.{◌≡◌, ℕ, ◌<◌, ◌&&◌, ◌||◌, true, false, not, List, [], ◌∷◌, Option, Some, None, fold, refl, sym, ◌∙◌, ap}
use Rattle.std.specs.Prelude.{is_some, bytes_eq}
use Rattle.std.specs.List.{list_any, flat_map}
use Rattle.std.proofs.lemmas.Bool.{and_parts, false≢true, false_from_ne_true}
use Rattle.exb_model.specs.Tree.{Shape, is_cascade, is_extended, is_under, is_cascade_under}
use Rattle.exb_model.specs.Configuration.{Bridge}
use Rattle.exb_model.specs.Refusals.{Source, sources, part, parts, without_isolated, with_set, sets_at, is_kind, is_empty_set}
use Rattle.exb_model.proofs.PortLemmas.{filter_below-none}
use Rattle.exb_control_spec.specs.Plans.HeldNumbers.{group_in, needs_channel}
use Rattle.exb_control_spec.specs.Plans.Laws.{BeginsHeld}
use Rattle.exb_control_spec.proofs.Plans.Trunks.{under_extended}
use Rattle.exb_control_spec.proofs.Plans.GroupOwners.{IsGroupOf, group_found}

module _ (t : Shape) (b : Bridge) (absent : (q : ℕ) → is_extended t q ≡ true → b.present q ≡ false) where
  none_under : (k q : ℕ) → (is_under t k q && b.present q) ≡ false
  none_under k q = false_from_ne_true _ (λ e.
      let both = and_parts (is_under t k q) (b.present q) e in
      false≢true (sym (absent q (under_extended t k q both.0)) ∙ both.1))

  part_none : (k : ℕ) (x : Source) → part t k b x ≡ []
  unfolding part
  part_none k x = filter_below-none (λ q. is_under t k q && b.present q && x.among q && is_kind x.kind (b.member x.vid q)) 4160
      (λ q. ap (λ c. c && x.among q && is_kind x.kind (b.member x.vid q)) (none_under k q))

  none_put : (k : ℕ) (xs : List Source) (sets : List (List ℕ)) → fold with_set sets (flat_map (λ x. part t k b x ∷ without_isolated b (part t k b x) ∷ []) xs) ≡ sets
  none_put k [] sets = refl
  none_put k (x ∷ xs) sets = rw (part_none k x) (none_put k xs sets)

  pub sets_none : (k : ℕ) → sets_at t k b ≡ []
  unfolding sets_at parts
  sets_none k = none_put k (sources b) []

pub begins_held : BeginsHeld
begins_held t b h is = record {
  channels = λ k p low c. is.held.channels k p low c ∙ sym (needs k p);
  one_channel = is.held.one_channel;
  groups = λ k set low c. no_group k set low c (group_in h k set) refl ∙ sym (ap (list_any (bytes_eq set)) (sets_none t b is.absent k));
  one_group = λ k g low c u. absurd (false≢true (sym (ap (λ s. not (is_empty_set s)) (is.held.groups k g low c)) ∙ u));
}
  where
    needs : (k p : ℕ) → needs_channel t b k p ≡ is_cascade_under t k p
    needs k p = ap (λ c. c || is_cascade_under t k p) (none_under t b is.absent k p)

    empty_not : (set : List ℕ) → is_empty_set set ≡ false → [] ≡ set → ⊥
    empty_not set s e = false≢true (sym s ∙ ap is_empty_set (sym e))

    no_group : (k : ℕ) (set : List ℕ) → k < 64 → is_cascade t k ≡ true → (o : Option ℕ) → group_in h k set ≡ o → is_some o ≡ false
    no_group k set low c None e = refl
    no_group k set low c (Some g) e = (let f : IsGroupOf h k set g = group_found h k set g e in absurd (empty_not set f.some (sym (is.held.groups k g low c) ∙ f.is)))

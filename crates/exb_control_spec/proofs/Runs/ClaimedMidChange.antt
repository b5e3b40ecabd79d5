-- In the middle of a change what is claimed is laid out.
use Rattle.std.proofs.Common.{◌≡◌, ◌≢◌, ◌⊎◌, ℕ, ◌+◌, ◌-◌, ◌<◌, ◌&&◌, Bool, true, not, List, [], ◌∷◌, refl, sym, ◌∙◌, ap, subst, inl, inr}
use Rattle.std.proofs.lemmas.Bool.{cases_eq, and_from, and_parts, or_cases, or_left, or_right}
use Rattle.exb_model.specs.Tree.{Shape, is_cascade, is_extended, is_under, is_cascade_under}
use Rattle.exb_model.specs.Setup.{Limits}
use Rattle.exb_model.specs.Configuration.{Bridge}
use Rattle.exb_model.specs.Refusals.{is_empty_set}
use Rattle.exb_control_spec.specs.Plans.Sets.{PortsAt}
use Rattle.exb_control_spec.specs.Plans.HeldNumbers.{Held, Group, group_used, needs_channel, give, give_all, group_for, numbered}
use Rattle.exb_control_spec.specs.Plans.Differences.{goes_up, fresh_sets}
use Rattle.exb_control_spec.specs.Plans.Plans.{new_channel, with_up, fresh_groups, claimed}
use Rattle.exb_control_spec.proofs.Plans.EachElement.{Each, each_map}
use Rattle.exb_control_spec.proofs.Plans.GroupClaims.{given_here, given_else}
use Rattle.exb_control_spec.proofs.Plans.Trunks.{under_extended}
use Rattle.exb_control_spec.proofs.FreshGroups.{with_set}
use Rattle.exb_control_spec.proofs.ReleasedNumbers.{owned}
use Rattle.exb_control_spec.specs.Runs.Requests.{IsReady, IsLaidOut, ClaimedIsLaidOut}
use Rattle.exb_control_spec.proofs.Runs.Members.{LiesBelow, set_lies}
use Rattle.exb_control_spec.proofs.Runs.LaidTables.{laid_out}
use Rattle.exb_control_spec.proofs.Runs.PlanRuns.{middle, within, within_old, fresh_lie, stands_claimed}

-- what is laid out for more present ports is so for fewer
laid_fewer : (t : Shape) (opened : ℕ → Bool) (a b : Bridge) (h : Held) → ((q : ℕ) → is_extended t q ≡ true → b.present q ≡ true → a.present q ≡ true) → IsLaidOut t opened a h → IsLaidOut t opened b h
laid_fewer t opened a b h more is = record {
  groups = is.groups;
  own = λ k p low c needs shown. is.own k p low c (needed k p needs) shown;
  channels = λ k p low c needs shown. is.channels k p low c (needed k p needs) shown;
  free = is.free;
}
  where
    needed : (k p : ℕ) → needs_channel t b k p ≡ true → needs_channel t a k p ≡ true
    needed k p e = elim (or_cases (is_under t k p && b.present p) (is_cascade_under t k p) e) [
      | inl f ↦ (let both = and_parts (is_under t k p) (b.present p) f in or_left _ _ (and_from _ _ both.0 (more p (under_extended t k p both.0) both.1)))
      | inr f ↦ or_right _ _ f
    ]

lies_more : (t : Shape) (a b : Bridge) (s : PortsAt) → ((q : ℕ) → is_extended t q ≡ true → b.present q ≡ true → a.present q ≡ true) → LiesBelow t b s → LiesBelow t a s
lies_more t a b s more lies = record { under = lies.under; present = λ q e. more q (under_extended t (s.bridge_port - 1) q (lies.under q e)) (lies.present q e) }

-- ---- the sets of what is claimed
module _ (t : Shape) (b : Bridge) where
  abbrev AllLie : Held → Type 0
  AllLie h = (k g : ℕ) → k < 64 → is_cascade t k ≡ true → group_used h k g ≡ true → LiesBelow t b (record { bridge_port = k + 1; ports = h.set k g })

  given_lie : (groups : ℕ) (h : Held) (sets : List PortsAt) → AllLie h → Each (LiesBelow t b) sets → AllLie (give_all (numbered groups h sets) h)
  unfolding give_all numbered
  given_lie groups h [] lie each = lie
  given_lie groups h (s ∷ sets) lie each = given_lie groups (give x h) sets (λ k g low c used. one k g low c used (cases_eq (k + 1) s.bridge_port) (cases_eq g x.number)) each.1
    where
      x : Group
      x = group_for groups h s

      at : (k n : ℕ) (xs ys : List ℕ) → k ≡ n → xs ≡ ys → LiesBelow t b (record { bridge_port = n; ports = ys }) → LiesBelow t b (record { bridge_port = k; ports = xs })
      at k n xs ys e f lies = rw (e, f) lies

      else : (k g : ℕ) → k < 64 → is_cascade t k ≡ true → group_used (give x h) k g ≡ true → (give x h).set k g ≡ h.set k g → LiesBelow t b (record { bridge_port = k + 1; ports = (give x h).set k g })
      else k g low c used same = at (k + 1) (k + 1) ((give x h).set k g) (h.set k g) refl same (lie k g low c (ap (λ (set : List ℕ). not (is_empty_set set)) (sym same) ∙ used))

      one : (k g : ℕ) → k < 64 → is_cascade t k ≡ true → group_used (give x h) k g ≡ true → (k + 1 ≡ s.bridge_port) ⊎ (k + 1 ≢ s.bridge_port) → (g ≡ x.number) ⊎ (g ≢ x.number) →
          LiesBelow t b (record { bridge_port = k + 1; ports = (give x h).set k g })
      one k g low c used (inr d) number = else k g low c used (given_else x h k g (λ e. absurd (d e)))
      one k g low c used (inl place) (inr d) = else k g low c used (given_else x h k g (λ _. d))
      one k g low c used (inl place) (inl same) = at (k + 1) s.bridge_port ((give x h).set k g) s.ports place (given_here x h k g place same) each.0

module _ (t : Shape) (l : Limits) (old new : Bridge) (h : Held) (opened : ℕ → Bool) (r : IsReady t l old new h opened) where
  mid : Bridge
  mid = middle t l old new h opened r (goes_up t old new)

  raised_lie : AllLie t mid (with_up t l old new h)
  unfolding mid
  raised_lie k g low c used =
      let same : (with_up t l old new h).set k g ≡ h.set k g = ap (λ (set : ℕ → ℕ → List ℕ). set k g) (with_set t (new_channel t l h (goes_up t old new)) (goes_up t old new) h) in
      let o = owned t l old new h r.planned k low c in
      lies_more t (middle t l old new h opened r (goes_up t old new)) old (record { bridge_port = k + 1; ports = (with_up t l old new h).set k g }) (within_old t l old new h opened r (goes_up t old new) refl)
      (subst (λ (set : List ℕ). LiesBelow t old (record { bridge_port = k + 1; ports = set })) (sym same) (set_lies t old k (h.set k g) low (o.sound g (ap (λ (set : List ℕ). not (is_empty_set set)) (sym same) ∙ used))))

  claimed_lie : AllLie t mid (claimed t l old new h)
  unfolding claimed fresh_groups mid
  claimed_lie =
      given_lie t (middle t l old new h opened r (goes_up t old new)) l.groups (with_up t l old new h) (fresh_sets t old new) raised_lie
      (each_map (LiesBelow t new) (LiesBelow t (middle t l old new h opened r (goes_up t old new))) (fresh_sets t old new)
      (λ s lies. lies_more t (middle t l old new h opened r (goes_up t old new)) new s (within t l old new h opened r (goes_up t old new) refl) lies) (fresh_lie t l old new h opened r))

  pub middle_laid : IsLaidOut t opened (middle t l old new h opened r (goes_up t old new)) (claimed t l old new h)
  unfolding mid
  middle_laid = laid_out t opened (middle t l old new h opened r (goes_up t old new)) (claimed t l old new h) (stands_claimed t l old new h opened r) claimed_lie

pub claimed_is_laid_out : ClaimedIsLaidOut
claimed_is_laid_out t l old new h opened r =
    let is = middle_laid t l old new h opened r in (
      laid_fewer t opened (middle t l old new h opened r (goes_up t old new)) old (claimed t l old new h) (within_old t l old new h opened r (goes_up t old new) refl) is,
      laid_fewer t opened (middle t l old new h opened r (goes_up t old new)) new (claimed t l old new h) (within t l old new h opened r (goes_up t old new) refl) is,
    )

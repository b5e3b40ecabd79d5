-- The groups that a plan claims.
use Rattle.std.proofs.Common.{◌≡◌, ◌≢◌, ℕ, ◌+◌, ◌-◌, ◌&&◌, cond, Bool, true, false, not, List, [], ◌∷◌, Option, Some, None, refl, sym, ◌∙◌, ap, arith, inl, inr}
use Rattle.std.specs.Prelude.{filter}
use Rattle.std.proofs.lemmas.Bool.{cases_eq, or_left, or_right, and_right}
use Rattle.exb_model.specs.Tree.{Shape, IsTree}
use Rattle.exb_model.specs.Setup.{Limits}
use Rattle.exb_model.specs.Configuration.{Bridge}
use Rattle.exb_model.specs.Refusals.{is_empty_set}
use Rattle.exb_control_spec.specs.Plans.Sets.{PortsAt, is_same_set, sets_of}
use Rattle.exb_control_spec.specs.Plans.HeldNumbers.{Held, Group, group_for, give, give_all, numbered}
use Rattle.exb_control_spec.specs.Plans.Differences.{has_set, is_gone, fresh_sets, goes_up}
use Rattle.exb_control_spec.specs.Plans.Plans.{new_channel, with_channel, without_channel, with_up}
use Rattle.exb_control_spec.specs.Plans.FreshSets.{AreFresh}
use Rattle.exb_control_spec.proofs.Plans.EachElement.{Each, each_map, each_filter}
use Rattle.exb_control_spec.proofs.Plans.SetFacts.{IsBelow, sets_below}
use Rattle.exb_control_spec.proofs.Plans.GroupClaims.{AreLow, set_itself, given_here, given_else, free_set}
use Rattle.exb_control_spec.proofs.Plans.FreshSets.{fresh_can, fresh_low}
use Rattle.exb_control_spec.proofs.Plans.Sufficiency.{fresh_with, none_short}
use Rattle.exb_control_spec.specs.RequestLaws.{IsPlanned}

-- ---- what giving groups leaves
pub given_port : (xs : List Group) (h : Held) → (give_all xs h).port ≡ h.port
unfolding give_all
given_port [] h = refl
given_port (x ∷ xs) h = given_port xs (give x h)

pub with_set : (t : Shape) (c : ℕ) (o : Option ℕ) (h : Held) → (with_channel t c o h).set ≡ h.set
with_set t c None h = refl
with_set t c (Some p) h = refl

pub without_set : (t : Shape) (c : ℕ) (o : Option ℕ) (h : Held) → (without_channel t c o h).set ≡ h.set
without_set t c None h = refl
without_set t c (Some p) h = refl

pub given_elsewhere : (groups : ℕ) (h : Held) (sets : List PortsAt) (k : ℕ) → Each (λ s. s.bridge_port ≢ k + 1) sets → (g : ℕ) → (give_all (numbered groups h sets) h).set k g ≡ h.set k g
unfolding give_all numbered
given_elsewhere groups h [] k other g = refl
given_elsewhere groups h (s ∷ sets) k other g =
    given_elsewhere groups (give (group_for groups h s) h) sets k other.1 g ∙ given_else (group_for groups h s) h k g (λ e. absurd (other.0 (sym e)))

-- ---- a fresh set is one of the new configuration's
have_of : (p : PortsAt → Bool) (kept xs : List PortsAt) → ((s : PortsAt) → has_set xs s ≡ true → has_set kept s ≡ true) → Each (λ s. has_set kept s ≡ true) (filter p xs)
have_of p kept [] all = tt
have_of p kept (x ∷ xs) all =
    by_test (p x) (all x (or_left (is_same_set x x) (has_set xs x) (set_itself x))) (have_of p kept xs (λ s e. all s (or_right (is_same_set s x) (has_set xs s) e)))
  where
    by_test : (b : Bool) → has_set kept x ≡ true → Each (λ s. has_set kept s ≡ true) (filter p xs) → Each (λ s. has_set kept s ≡ true) (cond b (x ∷ filter p xs) (filter p xs))
    by_test true mine rest = (mine, rest)
    by_test false mine rest = rest

pub fresh_kept : (t : Shape) (old new : Bridge) → Each (λ s. has_set (sets_of t new) s ≡ true) (fresh_sets t old new)
unfolding fresh_sets
fresh_kept t old new = have_of (λ s. not (has_set (sets_of t old) s)) (sets_of t new) (sets_of t new) (λ s e. e)

pub fresh_below : (t : Shape) (valid : IsTree t) (old new : Bridge) → Each (IsBelow t) (fresh_sets t old new)
unfolding fresh_sets
fresh_below t valid old new =
    each_map (λ s. IsBelow t s × (not (has_set (sets_of t old) s) ≡ true)) (IsBelow t) (fresh_sets t old new) (λ s a. a.0)
    (each_filter (IsBelow t) (λ s. not (has_set (sets_of t old) s)) (sets_of t new) (sets_below t valid new))

pub fresh_now : (t : Shape) (l : Limits) (old new : Bridge) (h : Held) → IsPlanned t l old new h → AreFresh l.groups (with_up t l old new h) (fresh_sets t old new)
fresh_now t l old new h p =
    fresh_with t l.groups (new_channel t l h (goes_up t old new)) (goes_up t old new) h (fresh_sets t old new)
    (fresh_can t p.tree old new h p.needed l (none_short t p.tree l old new p.fits).1)

pub fresh_placed : (t : Shape) (l : Limits) (old new : Bridge) (h : Held) → IsPlanned t l old new h → AreLow (fresh_sets t old new)
fresh_placed t l old new h p = fresh_low t p.tree old new h p.needed

-- ---- so no group is gone more or less
module _ (groups : ℕ) (kept : List PortsAt) where
  not_kept : (k : ℕ) (s : PortsAt) (used : Bool) → k + 1 ≡ s.bridge_port → has_set kept s ≡ true → (used && not (has_set kept (record { bridge_port = k + 1; ports = s.ports }))) ≡ false
  not_kept k s used place is = and_right used _ (ap not (ap (λ (n : ℕ). has_set kept (record { bridge_port = n; ports = s.ports })) place ∙ is))

  pub gone_given : (h : Held) (sets : List PortsAt) → AreFresh groups h sets → AreLow sets → Each (λ s. has_set kept s ≡ true) sets → (k g : ℕ) →
      is_gone kept (give_all (numbered groups h sets) h) k g ≡ is_gone kept h k g
  unfolding give_all numbered
  gone_given h [] fresh low each k g = refl
  gone_given h (s ∷ sets) fresh low each k g = gone_given (give (group_for groups h s) h) sets fresh.1 low.1 each.1 k g ∙ one
    where
      test : List ℕ → Bool
      test set = not (is_empty_set set) && not (has_set kept (record { bridge_port = k + 1; ports = set }))

      one : is_gone kept (give (group_for groups h s) h) k g ≡ is_gone kept h k g
      one = elim (cases_eq (k + 1) s.bridge_port) [
        | inr n ↦ ap test (given_else (group_for groups h s) h k g (λ e. absurd (n e)))
        | inl place ↦ elim (cases_eq g (group_for groups h s).number) [
          | inr n ↦ ap test (given_else (group_for groups h s) h k g (λ e. n))
          | inl e ↦
              let at : s.bridge_port - 1 ≡ k = omega (arith, place) in
              let free : h.set k g ≡ [] = ap (λ (m : ℕ). h.set m g) (sym at) ∙ (ap (h.set (s.bridge_port - 1)) e ∙ free_set groups h (s.bridge_port - 1) fresh.0.free) in
              ap test (given_here (group_for groups h s) h k g place e) ∙ (not_kept k s (not (is_empty_set s.ports)) place each.0 ∙ sym (ap test free))
        ]
      ]

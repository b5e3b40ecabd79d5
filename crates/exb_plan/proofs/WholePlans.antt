-- The plan, put together.
use Rattle.std.proofs.Common.{◌≡◌, ◌∙◌, ◌/◌, ℕ, List, Option, Some, None, refl, sym, ap, subst}
use Rattle.std.proofs.lemmas.Bool.{lt-ltb}
use Rattle.exb_model.specs.declared.event.Cause.{Cause}
use Rattle.exb_model.specs.Tree.{Shape, IsTree, trunk}
use Rattle.exb_model.specs.Setup.{Limits}
use Rattle.exb_model.specs.Configuration.{Bridge}
use Rattle.exb_numbers.specs.Spaces.{Spaces}
use Rattle.exb_control_spec.specs.Plans.Sets.{PortsAt, sets_of}
use Rattle.exb_control_spec.specs.declared.plan.change.Decision.TheVariants.{Refused, Ready}
use Rattle.exb_control_spec.specs.Plans.HeldNumbers.{Held, Group, HoldsNeeded, channel_used}
use Rattle.exb_plan.specs.SpaceContents.{held_by, HasSpaces}
use Rattle.exb_control_spec.specs.Plans.Differences.{goes_up, goes_down, refusal_between, fresh_sets, gone_groups}
use Rattle.exb_control_spec.specs.Plans.Plans.{with_channel, fresh_groups, prepare_of, cleanup_of, claimed, change_of, decision, decision_by, held_after, held_by_cause}
use Rattle.exb_plan.specs.PlanValues.{AreLimited, IsAlike, CanClaim, CanClaimUp, HasUp, SpacesOf, AreClaimed, IsLaterBy, AreGiven, claimed_by, change_by, change_with}
use Rattle.exb_control_spec.specs.Plans.FreshSets.{AreFresh, refusal_by}
use Rattle.exb_control_spec.proofs.Plans.FreshSets.{fresh_can}
use Rattle.exb_control_spec.proofs.Plans.Sufficiency.{refusal_is, none_short, fresh_with}
use Rattle.exb_plan.proofs.ChannelClaims.{can_claim_up}
use Rattle.exb_plan.proofs.FreshGroups.{placed_fresh, are_given}
use Rattle.exb_plan.proofs.ClaimLoop.{alike_limited, alike_placed}

-- ---- the spaces
pub spaces_of : (t : Shape) (l : Limits) (v : Spaces) → HasSpaces t l v → SpacesOf t v
spaces_of t l v has k low c = has.spaces k ∙ (rw (lt-ltb k 64 low, c) refl)

pub limited_of : (t : Shape) (l : Limits) (v : Spaces) → HasSpaces t l v → AreLimited l.groups v
limited_of t l v has k there = has.groups k there

pub alike_has : (t : Shape) (l : Limits) (v w : Spaces) → IsAlike v w → HasSpaces t l v → HasSpaces t l w
alike_has t l v w a has = record {
  spaces = λ k. a.spaces k ∙ has.spaces k;
  channels = λ k there. a.channels k ∙ has.channels k (sym (a.spaces k) ∙ there);
  groups = λ k there. a.groups k ∙ has.groups k (sym (a.spaces k) ∙ there);
}

pub refusal_are : (t : Shape) → IsTree t → (l : Limits) (old new : Bridge) (up : Option ℕ) (had fresh : List PortsAt) → up ≡ goes_up t old new → had ≡ sets_of t old → fresh ≡ fresh_sets t old new →
    refusal_by t l old up had fresh ≡ refusal_between t l old new
refusal_are t valid l old new up had fresh a b c =
    ap (λ (o : Option ℕ). refusal_by t l old o had fresh) a
    ∙ (ap (λ (x : List PortsAt). refusal_by t l old (goes_up t old new) x fresh) b
    ∙ (ap (λ (x : List PortsAt). refusal_by t l old (goes_up t old new) (sets_of t old) x) c ∙ refusal_is t valid l old new))

pub refused_is : (t : Shape) (l : Limits) (old new : Bridge) (h : Held) (x : Cause) → refusal_between t l old new ≡ Some x → Refused x ≡ decision t l old new h
unfolding decision
refused_is t l old new h x e = sym (ap (λ (o : Option Cause). decision_by o (change_of t l old new h)) e)

pub refused_held : (t : Shape) (l : Limits) (old new : Bridge) (h : Held) (x : Cause) → refusal_between t l old new ≡ Some x → h ≡ held_after t l old new h
unfolding held_after
refused_held t l old new h x e = sym (ap (λ (o : Option Cause). held_by_cause o h (claimed t l old new h)) e)

-- ---- not refused
pub decided : (t : Shape) (l : Limits) (old new : Bridge) (h : Held) → refusal_between t l old new ≡ None → Ready (change_of t l old new h) ≡ decision t l old new h
unfolding decision
decided t l old new h e = sym (ap (λ (o : Option Cause). decision_by o (change_of t l old new h)) e)

pub decided_held : (t : Shape) (l : Limits) (old new : Bridge) (h : Held) → refusal_between t l old new ≡ None → claimed t l old new h ≡ held_after t l old new h
unfolding held_after
decided_held t l old new h e = sym (ap (λ (o : Option Cause). held_by_cause o h (claimed t l old new h)) e)

change_is : (t : Shape) (l : Limits) (old new : Bridge) (h : Held) →
    change_by t l h (goes_up t old new) (goes_down t old new) (sets_of t new) (fresh_sets t old new) ≡ change_of t l old new h
unfolding change_of prepare_of cleanup_of fresh_groups
change_is t l old new h = refl

claimed_is : (t : Shape) (l : Limits) (old new : Bridge) (h : Held) → claimed_by t l h (goes_up t old new) (fresh_sets t old new) ≡ claimed t l old new h
unfolding claimed fresh_groups
claimed_is t l old new h = refl

pub changes_are : (t : Shape) (l : Limits) (old new : Bridge) (h : Held) (up down : Option ℕ) (gone : List Group) (fresh : List PortsAt) → up ≡ goes_up t old new → down ≡ goes_down t old new →
    gone ≡ gone_groups t (sets_of t new) h → fresh ≡ fresh_sets t old new → change_with t l h up down gone fresh ≡ change_of t l old new h
changes_are t l old new h up down gone fresh a b c d =
    ap (λ (o : Option ℕ). change_with t l h o down gone fresh) a
    ∙ (ap (λ (o : Option ℕ). change_with t l h (goes_up t old new) o gone fresh) b
    ∙ (ap (λ (xs : List Group). change_with t l h (goes_up t old new) (goes_down t old new) xs fresh) c
    ∙ (ap (λ (s : List PortsAt). change_by t l h (goes_up t old new) (goes_down t old new) (sets_of t new) s) d ∙ change_is t l old new h)))

pub claims_are : (t : Shape) (l : Limits) (old new : Bridge) (h : Held) (up : Option ℕ) (fresh : List PortsAt) → up ≡ goes_up t old new → fresh ≡ fresh_sets t old new →
    claimed_by t l h up fresh ≡ claimed t l old new h
claims_are t l old new h up fresh a d =
    ap (λ (o : Option ℕ). claimed_by t l h o fresh) a ∙ (ap (λ (s : List PortsAt). claimed_by t l h (goes_up t old new) s) d ∙ claimed_is t l old new h)

module _ (t : Shape) (valid : IsTree t) (l : Limits) (old new : Bridge) (v : Spaces) (has : HasSpaces t l v) (needed : HoldsNeeded t old (held_by v)) (fits : refusal_between t l old new ≡ None) where
  pub up_can : CanClaimUp t v (goes_up t old new)
  up_can = can_claim_up t valid old (held_by v) needed v l new (goes_up t old new) refl (spaces_of t l v has) has refl (none_short t valid l old new fits).0

  pub fresh_claim : CanClaim v (fresh_sets t old new)
  fresh_claim = record {
    groups = l.groups;
    limited = limited_of t l v has;
    placed = placed_fresh t valid old new (held_by v) needed v (spaces_of t l v has);
    fresh = fresh_can t valid old new (held_by v) needed l (none_short t valid l old new fits).1;
  }

pub can_after : (t : Shape) (c : ℕ) (o : Option ℕ) (v w : Spaces) (sets : List PortsAt) → IsAlike v w → held_by w ≡ with_channel t c o (held_by v) → CanClaim v sets → CanClaim w sets
can_after t c o v w sets a e can = record {
  groups = can.groups;
  limited = alike_limited can.groups v w can.limited a;
  placed = alike_placed v w sets a can.placed;
  fresh = subst (λ (h : Held). AreFresh can.groups h sets) (sym e) (fresh_with t can.groups c o (held_by v) sets can.fresh);
}

-- what was claimed can be given back
pub later_than : (v w : Spaces) (sets : List PortsAt) (given : List Group) → IsAlike v w → CanClaim v sets →
    ((groups : ℕ) → AreLimited groups v → AreClaimed groups (held_by v) sets given (held_by w)) → IsLaterBy w (held_by v) given (held_by w)
later_than v w sets given a can claims =
    let is : AreClaimed can.groups (held_by v) sets given (held_by w) = claims can.groups can.limited in
    record {
      given_are = subst (λ (l : List Group). AreGiven w (held_by v) l) (sym is.given_are) (are_given can.groups w (held_by v) sets can.fresh (alike_placed v w sets a can.placed));
      held_is = is.held_is;
    }

pub has_up_same : (t : Shape) (v w : Spaces) (o : Option ℕ) (c : ℕ) → IsAlike v w → held_by w ≡ held_by v → HasUp t v o c → HasUp t w o c
has_up_same t v w None c a e has = tt
has_up_same t v w (Some p) c a e has =
    record { extender = has.extender; cascade = a.spaces (trunk t (p / 64)) ∙ has.cascade; used = ap (λ (h : Held). channel_used h (trunk t (p / 64)) c) e ∙ has.used }

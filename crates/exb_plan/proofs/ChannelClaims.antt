-- A port that goes up may claim a channel.
use Rattle.std.proofs.Common.{◌≡◌, ℕ, ◌&&◌, ◌||◌, Bool, true, false, Option, Some, None, refl, sym, ◌∙◌, ap, arith}
use Rattle.std.specs.Prelude.{is_some}
use Rattle.std.proofs.lemmas.Bool.{false≢true}
use Rattle.exb_model.specs.Tree.{Shape, IsTree, device, trunk, is_under}
use Rattle.exb_model.specs.Setup.{Limits}
use Rattle.exb_model.specs.Configuration.{Bridge}
use Rattle.exb_model.specs.Refusals.{channels_short}
use Rattle.exb_model.specs.LowestFree.{lowest_free}
use Rattle.exb_numbers.specs.Spaces.{Spaces}
use Rattle.exb_control_spec.specs.Plans.HeldNumbers.{Held, HoldsNeeded, channel_in, channel_used}
use Rattle.exb_control_spec.specs.Plans.Differences.{goes_up, trunk_of}
use Rattle.exb_plan.specs.SpaceContents.{held_by, HasSpaces}
use Rattle.exb_plan.specs.PlanValues.{CanClaimUp, CanClaimChannel, SpacesOf, channel_limit}
use Rattle.exb_control_spec.proofs.Plans.UsedNumbers.{IsLowest}
use Rattle.exb_control_spec.proofs.Plans.Trunks.{extended_extender, home_low, home_cascade}
use Rattle.exb_control_spec.proofs.Plans.Channels.{Rises, rises_is, goes_up_rises, no_cascade_under, free_there}

module _ (t : Shape) (valid : IsTree t) (old : Bridge) (h : Held) (needed : HoldsNeeded t old h) where
  can_up : (v : Spaces) (l : Limits) (new : Bridge) (p : ℕ) → held_by v ≡ h → SpacesOf t v → HasSpaces t l v → Rises t old new p →
      channels_short t l old (Some (trunk t (device p))) ≡ None → CanClaimChannel t v p
  can_up v l new p is spaces has r fits =
      let k = trunk t (device p) in
      let low = home_low t valid p r.extended in
      let c = home_cascade t valid p r.extended in
      let space = spaces k low c in
      let none : channel_in h k p ≡ None = is_none_at (channel_in h k p) (needed.channels k p low c ∙ (rw (r.absent, no_cascade_under t k p r.extended) (absent_only (is_under t k p)))) in
      let there : (m : ℕ) × IsLowest (channel_used h k) 1 l.channels m = free_there t valid old h needed l p r.extended fits in
      let limit : channel_limit v k ≡ l.channels = (let e = has.channels k space in omega (arith, e)) in
      record {
        extender = extended_extender t p r.extended;
        cascade = space;
        absent = ap (λ (x : Held). channel_in x k p) is ∙ none;
        free = ap (λ (n : ℕ). is_some (lowest_free (channel_used (held_by v) k) 1 n)) limit ∙ (ap (λ (x : Held). is_some (lowest_free (channel_used x k) 1 l.channels)) is ∙ ap is_some there.1.is);
      }
    where
      is_none_at : (o : Option ℕ) → is_some o ≡ false → o ≡ None
      is_none_at None e = refl
      is_none_at (Some x) e = absurd (false≢true (sym e))

      absent_only : (b : Bool) → (b && false || false) ≡ false
      absent_only true = refl
      absent_only false = refl

  pub can_claim_up : (v : Spaces) (l : Limits) (new : Bridge) (o : Option ℕ) → held_by v ≡ h → SpacesOf t v → HasSpaces t l v → goes_up t old new ≡ o →
      channels_short t l old (trunk_of t o) ≡ None → CanClaimUp t v o
  can_claim_up v l new None is spaces has e fits = tt
  can_claim_up v l new (Some p) is spaces has e fits = can_up v l new p is spaces has (rises_is t old new p (goes_up_rises t old new p e)) fits

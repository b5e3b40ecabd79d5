-- The sets of a configuration are reached by ports with channels that are laid.
use Rattle.std.proofs.Common.{◌≡◌, ℕ, ◌+◌, ◌-◌, ◌≤◌, Bool, true, not, List, [], ◌∷◌, sym, ◌∙◌, ap, subst, arith, inl, inr}
use Rattle.std.proofs.lemmas.Bool.{cases_eq, and_from, or_left, or_right}
use Rattle.exb_model.specs.Tree.{Shape, device, trunk, is_cascade, is_extended, is_under}
use Rattle.exb_model.specs.TreeSets.{covers}
use Rattle.exb_model.specs.Configuration.{Bridge}
use Rattle.exb_model.proofs.TreeWays.{covers-true}
use Rattle.exb_control_spec.specs.Plans.Sets.{PortsAt}
use Rattle.exb_control_spec.proofs.Plans.TreeWays.{from_under}
use Rattle.exb_control_spec.specs.Plans.HeldNumbers.{Held, group_for, give, numbered, needs_channel}
use Rattle.exb_model.specs.Lists.{is_listed}
use Rattle.exb_control_spec.proofs.Plans.EachElement.{Each}
use Rattle.exb_control_spec.proofs.Plans.GroupClaims.{AreLow}
use Rattle.exb_control_spec.proofs.Plans.Trunks.{port_extender, under_extended}
use Rattle.exb_control_spec.specs.Decisions.{channel_of}
use Rattle.exb_control_spec.specs.Runs.LaidTables.{is_shown}
use Rattle.exb_control_spec.proofs.Runs.PortsAbove.{ways}
use Rattle.exb_control_spec.proofs.Runs.Members.{LiesBelow}
use Rattle.exb_control_spec.proofs.Runs.GroupRows.{IsReached, CanReach}
use Rattle.exb_control_spec.proofs.Runs.NeededChannels.{Stands, has_channel, cascade_channel}

module _ (t : Shape) (opened : ℕ → Bool) (b : Bridge) (h : Held) (s : Stands t opened b h) (new : Bridge) (within : (q : ℕ) → is_extended t q ≡ true → new.present q ≡ true → b.present q ≡ true) where
  -- a present port below a bridge port
  pub member_reached : (k m : ℕ) → is_under t k m ≡ true → new.present m ≡ true → IsReached t (is_shown t opened) h (k + 1) m
  member_reached k m under now =
      let u = from_under t k m under in
      let deep : 64 ≤ m = u.0.deep in
      let mine : is_under t (trunk t (device m)) m ≡ true = subst (λ (j : ℕ). is_under t j m ≡ true) (sym u.0.at) under in
      let needs : needs_channel t b (trunk t (device m)) m ≡ true = or_left _ _ (and_from _ _ mine (within m (under_extended t k m under) now)) in
      let c = has_channel t opened b h s m deep u.0.known needs in
      let low : 1 ≤ channel_of t h m = c.from1 in
      record {
        known = u.0.known;
        at = ap (λ (j : ℕ). j + 1) u.0.at;
        laid = or_left (not (is_cascade t m)) _ (ap not u.1);
        channel = λ z. absurd (omega (arith, low, z));
      }

  pub set_reached : (x : PortsAt) (q : ℕ) → LiesBelow t new x → 1 ≤ x.bridge_port → 64 ≤ q → covers t (is_listed x.ports) q ≡ true → IsReached t (is_shown t opened) h x.bridge_port q
  set_reached x q lies from1 far covered =
      let c = covers-true t (is_listed x.ports) q covered in
      let k = x.bridge_port - 1 in
      let place : x.bridge_port - 1 + 1 ≡ x.bridge_port = omega arith in
      let under = lies.under c.member c.chosen in
      let now = lies.present c.member c.chosen in
      let u = from_under t k c.member under in
      let extended = under_extended t k c.member under in
      elim (cases_eq q c.member) [
        | inl e ↦ subst (λ (y : ℕ). IsReached t (is_shown t opened) h y q) place (subst (λ (y : ℕ). IsReached t (is_shown t opened) h (k + 1) y) (sym e) (member_reached k c.member under now))
        | inr d ↦
            let a = ways t s.tree opened s.order.above c.member q u.0.deep u.0.known
            (λ high. s.order.above (device c.member) (port_extender t c.member u.0.deep u.0.known) (s.order.present c.member extended (within c.member extended now)) high) far d c.below in
            record {
              known = a.known;
              at = ap (λ (j : ℕ). j + 1) (a.at ∙ u.0.at) ∙ place;
              laid = or_right (not (is_cascade t q)) _ a.there;
              channel = cascade_channel t opened b h s q far a.known a.cascade;
            }
      ]

  pub groups_reached : (groups : ℕ) (g : Held) (sets : List PortsAt) → Each (LiesBelow t new) sets → AreLow sets → Each (CanReach t (is_shown t opened) h) (numbered groups g sets)
  unfolding numbered
  groups_reached groups g [] lies low = tt
  groups_reached groups g (x ∷ xs) lies low = (record { each = λ q far covered. set_reached x q lies.0 low.0 far covered }, groups_reached groups (give (group_for groups g x) g) xs lies.1 low.1)

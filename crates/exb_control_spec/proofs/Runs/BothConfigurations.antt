-- The numbers of both configurations in the middle of a change.
use Rattle.std.proofs.Common.{◌||◌, ◌≡◌, ℕ, ◌+◌, ◌-◌, ◌<◌, ◌≤◌, ◌==◌, ◌&&◌, cond, Bool, true, false, not, List, [], ◌∷◌, Option, Some, None, refl, sym, ◌∙◌, ap, subst, arith, inl, inr}
use Rattle.std.specs.Prelude.{is_some, bytes_eq}
use Rattle.std.specs.List.{list_any}
use Rattle.std.proofs.lemmas.Bool.{cases_Bool, and_parts, eqb-true, false≢true}
use Rattle.exb_model.specs.Tree.{Shape, IsTree, device, trunk, is_cascade, is_external}
use Rattle.exb_model.specs.Setup.{Limits}
use Rattle.exb_model.specs.Configuration.{Bridge}
use Rattle.exb_model.specs.Refusals.{is_empty_set, sets_at}
use Rattle.exb_model.specs.LowestFree.{lowest_free}
use Rattle.exb_model.specs.Numbers.{IsReady}
use Rattle.exb_control_spec.specs.Plans.Sets.{PortsAt, sets_of}
use Rattle.exb_control_spec.specs.declared.plan.change.Change.{Change}
use Rattle.exb_control_spec.specs.Plans.HeldNumbers.{Held, HoldsNeeded, or_zero, needs_channel, channel_in, channel_used, group_in, group_used, free_channel, free_group, give, give_all, group_for, numbered, numbers_in}
use Rattle.exb_control_spec.specs.Plans.Differences.{has_set, goes_up, fresh_sets}
use Rattle.exb_control_spec.specs.Plans.Plans.{with_channel, new_channel, with_up, fresh_groups, claimed}
use Rattle.exb_control_spec.proofs.Plans.UsedNumbers.{lowest_unused}
use Rattle.exb_control_spec.proofs.Plans.EachElement.{Each}
use Rattle.exb_control_spec.proofs.Plans.SetFacts.{IsBelow, sets_below, has_at}
use Rattle.exb_control_spec.proofs.Plans.GroupOwners.{Owns, owns_all, at_port_of, IsGroupOf, group_found, group_there}
use Rattle.exb_control_spec.proofs.Plans.ChannelOwners.{IsChannelOf, channel_found, channel_there}
use Rattle.exb_control_spec.proofs.Plans.Trunks.{under_extended, under_trunk, home_low, home_cascade}
use Rattle.exb_control_spec.specs.RequestLaws.{IsPlanned}
use Rattle.exb_control_spec.proofs.ReleasedNumbers.{owned}
use Rattle.exb_control_spec.proofs.FreshGroups.{with_set, fresh_now, fresh_placed}
use Rattle.exb_control_spec.specs.Decisions.{release, is_number}
use Rattle.exb_control_spec.specs.Runs.MonotoneRequests.{Keeps}
use Rattle.exb_control_spec.proofs.Runs.Members.{each_has}

-- ---- what a configuration needs
-- sets are there just below cascade ports of the bridge
pub set_cascade : (t : Shape) → IsTree t → (b : Bridge) (k : ℕ) (set : List ℕ) → k < 64 → list_any (bytes_eq set) (sets_at t k b) ≡ true → is_cascade t k ≡ true
set_cascade t valid b k set low e =
    let s : PortsAt = record { bridge_port = k + 1; ports = set } in
    let same : k + 1 - 1 ≡ k = omega arith in
    let has : has_set (sets_of t b) s ≡ true = has_at t b s (omega arith) (omega (arith, low)) ∙ (ap (λ (m : ℕ). list_any (bytes_eq set) (sets_at t m b)) same ∙ e) in
    let is : IsBelow t s = each_has (IsBelow t) (sets_of t b) s (sets_below t valid b) has in
    subst (λ (m : ℕ). is_cascade t m ≡ true) same is.cascade

pub needed_numbers : (t : Shape) → IsTree t → (b : Bridge) (h : Held) → HoldsNeeded t b h → ((q : ℕ) → b.present q ≡ true → is_external t q ≡ true) → IsReady t b (numbers_in h)
needed_numbers t valid b h needed external =
    record {
      external = external;
      groups = λ k set low e. needed.groups k set low (set_cascade t valid b k set low e) ∙ e;
      channels = λ k q u e.
          let ext = under_extended t k q u in
          let same : trunk t (device q) ≡ k = under_trunk t k q u in
          let low : k < 64 = subst (λ (m : ℕ). m < 64) same (home_low t valid q ext) in
          let c : is_cascade t k ≡ true = subst (λ (m : ℕ). is_cascade t m ≡ true) same (home_cascade t valid q ext) in
          let needs : needs_channel t b k q ≡ true = rw (u, e) refl in
          needed.channels k q low c ∙ needs;
    }

-- ---- what stays held
some_of : (o : Option ℕ) → is_some o ≡ true → (n : ℕ) × (o ≡ Some n)
some_of None e = absurd (false≢true e)
some_of (Some n) e = (n, refl)

is_some_of : (o : Option ℕ) → (n : ℕ) × (o ≡ Some n) → is_some o ≡ true
is_some_of o e = ap is_some e.1

pub numbers_kept : (t : Shape) (b : Bridge) (h g : Held) → Keeps h g → IsReady t b (numbers_in h) → IsReady t b (numbers_in g)
numbers_kept t b h g keeps has =
    record {
      external = has.external;
      groups = λ k set low e.
          let m = some_of (group_in h k set) (has.groups k set low e) in
          let is : IsGroupOf h k set m.0 = group_found h k set m.0 m.1 in
          is_some_of (group_in g k set) (group_there g k set m.0 is.some is.low is.high (keeps.groups k m.0 set is.some is.low is.is));
      channels = λ k q u e.
          let m = some_of (channel_in h k q) (has.channels k q u e) in
          let is : IsChannelOf h k q m.0 = channel_found h k q m.0 m.1 in
          is_some_of (channel_in g k q) (channel_there g k q m.0 is.low is.high (keeps.ports k m.0 q is.low is.is));
    }

keeps_on : (h g i : Held) → Keeps h g → Keeps g i → Keeps h i
keeps_on h g i a b = record { groups = λ k n set s l e. b.groups k n set s l (a.groups k n set s l e); ports = λ k c p l e. b.ports k c p l (a.ports k c p l e) }

-- what is left at the end was held before
pub released_kept : (x : Change) (h : Held) → Keeps (release x h) h
released_kept x h = record { groups = λ k n set s l e. by_group (is_number x.groups k n) (h.set k n) set s e; ports = λ k c p l e. by_port (is_number x.channels k c) (h.port k c) p e }
  where
    by_group : (b : Bool) (old set : List ℕ) → is_empty_set set ≡ false → cond b [] old ≡ set → old ≡ set
    by_group true old set s e = absurd (false≢true (sym s ∙ ap is_empty_set (sym e)))
    by_group false old set s e = e

    by_port : (b : Bool) (old : Option ℕ) (p : ℕ) → cond b None old ≡ Some p → old ≡ Some p
    by_port true old p e = absurd (cc)
    by_port false old p e = e

-- a claimed number was free, or is 0, which is none
free_unused : (used : ℕ → Bool) (a n c : ℕ) → 1 ≤ c → (o : Option ℕ) → lowest_free used a n ≡ o → c ≡ or_zero o → used c ≡ false
free_unused used a n c low None e f = absurd (omega (arith, low, f))
free_unused used a n c low (Some m) e f = subst (λ (x : ℕ). used x ≡ false) (sym f) (lowest_unused used a n m e)

given_kept : (groups : ℕ) (h : Held) (s : PortsAt) → 1 ≤ s.bridge_port → Keeps h (give (group_for groups h s) h)
given_kept groups h s first =
    record {
      groups = λ k n set some low e.
          elim (cases_Bool (k + 1 == s.bridge_port && n == free_group groups h (s.bridge_port - 1))) [
            | inr f ↦ rw f e
            | inl f ↦
                let both = and_parts (k + 1 == s.bridge_port) (n == free_group groups h (s.bridge_port - 1)) f in
                let at : k + 1 ≡ s.bridge_port = eqb-true _ _ both.0 in
                let here : s.bridge_port - 1 ≡ k = omega (arith, at) in
                let number : n ≡ free_group groups h k = eqb-true _ _ both.1 ∙ ap (free_group groups h) here in
                let unused : group_used h k n ≡ false = free_unused (group_used h k) 4096 groups n (omega (arith, low)) (lowest_free (group_used h k) 4096 groups) refl number in
                let used : group_used h k n ≡ true = ap (λ (x : List ℕ). not (is_empty_set x)) e ∙ ap not some in
                absurd (false≢true (sym unused ∙ used))
          ];
      ports = λ k c p low e. e;
    }

all_given_kept : (groups : ℕ) (sets : List PortsAt) (h : Held) → Each (λ s. 1 ≤ s.bridge_port) sets → Keeps h (give_all (numbered groups h sets) h)
unfolding give_all numbered
all_given_kept groups [] h all = record { groups = λ k n set s l e. e; ports = λ k c p l e. e }
all_given_kept groups (s ∷ sets) h all =
    keeps_on h (give (group_for groups h s) h) _ (given_kept groups h s all.0) (all_given_kept groups sets (give (group_for groups h s) h) all.1)

up_kept : (t : Shape) (l : Limits) (o : Option ℕ) (h : Held) → Keeps h (with_channel t (new_channel t l h o) o h)
up_kept t l None h = record { groups = λ k n set s l e. e; ports = λ k c p l e. e }
up_kept t l (Some q) h =
    record {
      groups = λ k n set s low e. e;
      ports = λ k c p low e.
          elim (cases_Bool (k == trunk t (device q) && c == free_channel l.channels h (trunk t (device q)))) [
            | inr f ↦ rw f e
            | inl f ↦
                let both = and_parts (k == trunk t (device q)) (c == free_channel l.channels h (trunk t (device q))) f in
                let at : k ≡ trunk t (device q) = eqb-true _ _ both.0 in
                let number : c ≡ free_channel l.channels h k = eqb-true _ _ both.1 ∙ ap (free_channel l.channels h) (sym at) in
                let unused : channel_used h k c ≡ false = free_unused (channel_used h k) 1 l.channels c low (lowest_free (channel_used h k) 1 l.channels) refl number in
                absurd (false≢true (sym unused ∙ ap is_some e))
          ];
    }

-- ports are no matter to groups
owns_ports : (h : Held) (port : ℕ → ℕ → Option ℕ) (k : ℕ) (has : List ℕ → Bool) → Owns h k has → Owns (record { port = port; set = h.set }) k has
owns_ports h port k has o = record { low = o.low; high = o.high; one = o.one; sound = o.sound; full = o.full; some = o.some }

-- all that was held stays held when the numbers of a change are claimed
pub claimed_kept : (t : Shape) (l : Limits) (old new : Bridge) (h : Held) → Each (λ s. 1 ≤ s.bridge_port) (fresh_sets t old new) → Keeps h (claimed t l old new h)
unfolding claimed fresh_groups
claimed_kept t l old new h all =
    keeps_on h (with_up t l old new h) _ (up_kept t l (goes_up t old new) h) (all_given_kept l.groups (fresh_sets t old new) (with_up t l old new h) all)

-- ---- what is claimed
-- no set has two groups
pub claimed_owns : (t : Shape) (l : Limits) (old new : Bridge) (h : Held) → IsPlanned t l old new h → (k : ℕ) → k < 64 → is_cascade t k ≡ true →
    Owns (claimed t l old new h) k (λ set. list_any (bytes_eq set) (sets_at t k old) || list_any (bytes_eq set) (at_port_of k (fresh_sets t old new)))
unfolding claimed fresh_groups
claimed_owns t l old new h p k low c =
    let w : Held = with_up t l old new h in
    let has : List ℕ → Bool = λ set. list_any (bytes_eq set) (sets_at t k old) in
    let same : w.set ≡ h.set = with_set t (new_channel t l h (goes_up t old new)) (goes_up t old new) h in
    let owns : Owns h k has = owned t l old new h p k low c in
    let raised : Owns w k has = subst (λ (f : ℕ → ℕ → List ℕ). Owns (record { port = w.port; set = f }) k has) (sym same) (owns_ports h w.port k has owns) in
    owns_all l.groups k p.groups (fresh_sets t old new) w has (fresh_now t l old new h p) (fresh_placed t l old new h p) raised

pub all_kept : (h : Held) → Keeps h h
all_kept h = record { groups = λ k n set s l e. e; ports = λ k c p l e. e }

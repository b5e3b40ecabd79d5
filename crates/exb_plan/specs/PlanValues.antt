-- The values with which the code makes a plan.
use Rattle.std.specs.Prelude.{◌≡◌, ℕ, ◌+◌, ◌-◌, ◌*◌, ◌/◌, ◌<◌, ◌≤◌, true, false, List, [], ◌∷◌, Option, Some, None, is_some, filter_map, map, length}
use Rattle.exb_model.specs.Masks.{bits_of}
use Rattle.exb_model.specs.Ports.{port_in}
use Rattle.exb_model.specs.Tree.{Shape, is_extender, is_cascade, trunk}
use Rattle.exb_model.specs.Setup.{Limits}
use Rattle.exb_model.specs.Refusals.{is_empty_set}
use Rattle.exb_csp.specs.declared.group_rows.GroupRow.{GroupRow}
use Rattle.exb_model.specs.LowestFree.{lowest_free}
use Rattle.exb_numbers.specs.Spaces.{Spaces, has_space, channels_at, groups_at}
use Rattle.exb_control_spec.specs.Plans.Sets.{PortsAt}
use Rattle.exb_plan.specs.declared.group_requests.Covered.{Covered}
use Rattle.exb_control_spec.specs.Plans.HeldNumbers.{Held, Group, channel_in, channel_used, numbered, give, give_all}
use Rattle.exb_plan.specs.SpaceContents.{held_by}
use Rattle.exb_control_spec.specs.Plans.Differences.{gone_groups}
use Rattle.exb_csp.specs.declared.ask_at.AskAt.{AskAt}
use Rattle.exb_control_spec.specs.declared.plan.change.Change.{Change}
use Rattle.exb_control_spec.specs.Plans.Plans.{new_channel, own_channel, with_channel, freed_channel, number_of, prepare_with, cleanup_with}
use Rattle.exb_control_spec.specs.Plans.ChangeRequests.{row_by}
use Rattle.exb_control_spec.specs.Plans.FreshSets.{AreFresh}

-- ---- groups
-- the set is below a bridge port that has a space
abbrev pub IsPlaced : Spaces → PortsAt → Type 0
IsPlaced v s = (1 ≤ s.bridge_port) × (has_space v (s.bridge_port - 1) ≡ true)

-- each space has so many groups
abbrev pub AreLimited : ℕ → Spaces → Type 0
AreLimited groups v = (k : ℕ) → has_space v k ≡ true → (groups_at v k).limit ≡ groups

-- the same spaces, with as many numbers in each
pub record IsAlike (v w : Spaces) : Type 0 where
  pub spaces : (k : ℕ) → has_space w k ≡ has_space v k
  pub channels : (k : ℕ) → length (channels_at w k) ≡ length (channels_at v k)
  pub groups : (k : ℕ) → (groups_at w k).limit ≡ (groups_at v k).limit

abbrev pub ArePlaced : Spaces → List PortsAt → Type 0
ArePlaced v [] = Unit {0}
ArePlaced v (s ∷ sets) = IsPlaced v s × ArePlaced v sets

-- ---- rows
abbrev pub row_of_covered : ℕ → Covered → Option GroupRow
row_of_covered n x = row_by x.number (bits_of (λ j. port_in x.ports (64 * n + j)) 64)

abbrev pub rows_of_covered : List Covered → ℕ → List GroupRow
rows_of_covered xs n = filter_map (row_of_covered n) xs

-- ---- claims
-- the sets are fresh, and each space has as many groups
pub record CanClaim (v : Spaces) (sets : List PortsAt) : Type 0 where
  pub groups : ℕ
  pub limited : AreLimited groups v
  pub placed : ArePlaced v sets
  pub fresh : AreFresh groups (held_by v) sets

-- what claiming groups for sets in their order leads to
pub record AreClaimed (groups : ℕ) (h : Held) (sets : List PortsAt) (given : List Group) (now : Held) : Type 0 where
  pub given_are : given ≡ numbered groups h sets
  pub held_is : now ≡ give_all given h

-- each group is in the space of a bridge port, has a port, and was free when its turn came
pub record IsGiven (v : Spaces) (h : Held) (x : Group) : Type 0 where
  pub from1 : 1 ≤ x.bridge_port
  pub cascade : has_space v (x.bridge_port - 1) ≡ true
  pub some : is_empty_set x.ports ≡ false
  pub free : h.set (x.bridge_port - 1) x.number ≡ []

abbrev pub AreGiven : Spaces → Held → List Group → Type 0
AreGiven v h [] = Unit {0}
AreGiven v h (x ∷ xs) = IsGiven v h x × AreGiven v (give x h) xs

-- what is held came of what was held by giving groups that were free
pub record IsLaterBy (v : Spaces) (h : Held) (given : List Group) (now : Held) : Type 0 where
  pub given_are : AreGiven v h given
  pub held_is : now ≡ give_all given h

-- how many channels a space has
abbrev pub channel_limit : Spaces → ℕ → ℕ
channel_limit v k = length (channels_at v k) - 1

-- the port has no channel at its trunk, where there is a free one
pub record CanClaimChannel (t : Shape) (v : Spaces) (p : ℕ) : Type 0 where
  pub extender : is_extender t (p / 64) ≡ true
  pub cascade : has_space v (trunk t (p / 64)) ≡ true
  pub absent : channel_in (held_by v) (trunk t (p / 64)) p ≡ None
  pub free : is_some (lowest_free (channel_used (held_by v) (trunk t (p / 64))) 1 (channel_limit v (trunk t (p / 64))))
      ≡ true

-- each cascade port of the bridge has a space
abbrev pub SpacesOf : Shape → Spaces → Type 0
SpacesOf t v = (k : ℕ) → k < 64 → is_cascade t k ≡ true → has_space v k ≡ true

abbrev pub CanClaimUp : Shape → Spaces → Option ℕ → Type 0
CanClaimUp t v None = Unit {0}
CanClaimUp t v (Some p) = CanClaimChannel t v p

-- the port has the channel
pub record HasChannel (t : Shape) (v : Spaces) (p c : ℕ) : Type 0 where
  pub extender : is_extender t (p / 64) ≡ true
  pub cascade : has_space v (trunk t (p / 64)) ≡ true
  pub used : channel_used (held_by v) (trunk t (p / 64)) c ≡ true

abbrev pub HasUp : Shape → Spaces → Option ℕ → ℕ → Type 0
HasUp t v None c = Unit {0}
HasUp t v (Some p) c = HasChannel t v p c

abbrev pub with_up_by : Shape → Limits → Held → Option ℕ → Held
with_up_by t l h up = with_channel t (new_channel t l h up) up h

abbrev pub prepare_by : Shape → Limits → Held → Option ℕ → List PortsAt → List AskAt
prepare_by t l h up fresh = prepare_with t (new_channel t l h up) up (numbered l.groups (with_up_by t l h up) fresh)

abbrev pub claimed_by : Shape → Limits → Held → Option ℕ → List PortsAt → Held
claimed_by t l h up fresh = give_all (numbered l.groups (with_up_by t l h up) fresh) (with_up_by t l h up)

-- the change, by the groups that go
abbrev pub change_with : Shape → Limits → Held → Option ℕ → Option ℕ → List Group → List PortsAt → Change
change_with t l h up down gone fresh =
    record {
      prepare = prepare_by t l h up fresh;
      cleanup = cleanup_with t (own_channel t h down) down gone;
      channels = freed_channel t (own_channel t h down) down;
      groups = map number_of gone;
    }

abbrev pub change_by : Shape → Limits → Held → Option ℕ → Option ℕ → List PortsAt → List PortsAt → Change
change_by t l h up down kept fresh = change_with t l h up down (gone_groups t kept h) fresh

-- What is not refused has numbers enough, for a channel and for the fresh sets.
use Rattle.std.proofs.Common.{◌≡◌, ◌∙◌, ◌-◌, ℕ, List, [], ◌∷◌, Option, Some, None, refl, sym, ap}
use Rattle.exb_model.specs.declared.event.Cause.{Cause}
use Rattle.exb_model.specs.Tree.{Shape, IsTree}
use Rattle.exb_model.specs.Setup.{Limits}
use Rattle.exb_model.specs.Configuration.{Bridge}
use Rattle.exb_model.specs.Refusals.{channels_short, first_cause}
use Rattle.exb_control_spec.specs.Plans.Sets.{PortsAt, sets_of}
use Rattle.exb_control_spec.specs.Plans.HeldNumbers.{Held, group_in, group_for, give}
use Rattle.exb_control_spec.specs.Plans.Differences.{goes_up, trunk_of, refusal_between, fresh_sets}
use Rattle.exb_control_spec.specs.Plans.Plans.{with_channel}
use Rattle.exb_control_spec.specs.Plans.FreshSets.{AreFresh, refusal_by, short_by}
use Rattle.exb_control_spec.proofs.Plans.GroupNeeds.{groups_short_is}

-- ---- refused
pub refusal_is : (t : Shape) → IsTree t → (l : Limits) (old new : Bridge) → refusal_by t l old (goes_up t old new) (sets_of t old) (fresh_sets t old new) ≡ refusal_between t l old new
unfolding refusal_between
refusal_is t valid l old new = ap (first_cause (channels_short t l old (trunk_of t (goes_up t old new)))) (groups_short_is t old new valid l)

pub neither : (a b : Option Cause) → first_cause a b ≡ None → (a ≡ None) × (b ≡ None)
neither None b e = (refl, e)
neither (Some x) b e = absurd (cc)

pub none_short : (t : Shape) (valid : IsTree t) (l : Limits) (old new : Bridge) → refusal_between t l old new ≡ None →
    (channels_short t l old (trunk_of t (goes_up t old new)) ≡ None) × (short_by t l (sets_of t old) (fresh_sets t old new) ≡ None)
none_short t valid l old new fits =
    neither (channels_short t l old (trunk_of t (goes_up t old new))) (short_by t l (sets_of t old) (fresh_sets t old new)) (refusal_is t valid l old new ∙ fits)

-- ---- claims after that of a channel
group_in_port : (port other : ℕ → ℕ → Option ℕ) (set : ℕ → ℕ → List ℕ) (k : ℕ) (s : List ℕ) →
    (let a : Held = record { port = port; set = set } in group_in a k s) ≡ (let b : Held = record { port = other; set = set } in group_in b k s)
unfolding group_in
group_in_port port other set k s = refl

fresh_port : (groups : ℕ) (sets : List PortsAt) (port other : ℕ → ℕ → Option ℕ) (set : ℕ → ℕ → List ℕ) →
    AreFresh groups (record { port = port; set = set }) sets → AreFresh groups (record { port = other; set = set }) sets
fresh_port groups [] port other set fresh = tt
fresh_port groups (s ∷ sets) port other set fresh = (
  record { some = fresh.0.some; absent = sym (group_in_port port other set (s.bridge_port - 1) s.ports) ∙ fresh.0.absent; free = fresh.0.free },
  fresh_port groups sets port other (λ k g. (give (group_for groups (record { port = port; set = set }) s) (record { port = port; set = set })).set k g) fresh.1,
)

pub fresh_with : (t : Shape) (groups c : ℕ) (o : Option ℕ) (h : Held) (sets : List PortsAt) → AreFresh groups h sets → AreFresh groups (with_channel t c o h) sets
fresh_with t groups c None h sets fresh = fresh
fresh_with t groups c (Some p) h sets fresh = fresh_port groups sets h.port (with_channel t c (Some p) h).port h.set fresh

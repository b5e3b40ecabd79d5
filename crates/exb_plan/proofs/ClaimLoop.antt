-- Claiming groups for sets, one after another.
use Rattle.std.proofs.Common.{◌≡◌, ℕ, ◌-◌, List, [], ◌∷◌, ◌++◌, refl, sym, ◌∙◌, ap, subst}
use Rattle.std.proofs.lemmas.List.{append-nil, append_assoc}
use Rattle.exb_numbers.specs.Spaces.{Spaces, groups_at}
use Rattle.exb_control_spec.specs.Plans.Sets.{PortsAt}
use Rattle.exb_control_spec.specs.Plans.HeldNumbers.{Held, Group, group_for, numbered, give, give_all}
use Rattle.exb_plan.specs.SpaceContents.{held_by}
use Rattle.exb_plan.specs.PlanValues.{IsPlaced, ArePlaced, AreLimited, IsAlike, CanClaim, AreClaimed}
use Rattle.exb_control_spec.specs.Plans.FreshSets.{AreFresh}

-- what was given, with what the rest gets, is what all get
pub record IsClaiming (groups : ℕ) (h : Held) (all : List PortsAt) (v : Spaces) (rest : List PortsAt) (given : List Group) : Type 0 where
  pub placed : ArePlaced v rest
  pub fresh : AreFresh groups (held_by v) rest
  pub numbers : given ++ numbered groups (held_by v) rest ≡ numbered groups h all
  pub held : give_all (numbered groups (held_by v) rest) (held_by v) ≡ give_all (numbered groups h all) h

pub alike_itself : (v : Spaces) → IsAlike v v
alike_itself v = record { spaces = λ k. refl; channels = λ k. refl; groups = λ k. refl }

pub alike_more : (u v w : Spaces) → IsAlike u v → IsAlike v w → IsAlike u w
alike_more u v w a b = record {
  spaces = λ k. b.spaces k ∙ a.spaces k;
  channels = λ k. b.channels k ∙ a.channels k;
  groups = λ k. b.groups k ∙ a.groups k;
}

pub alike_limited : (groups : ℕ) (v w : Spaces) → AreLimited groups v → IsAlike v w → AreLimited groups w
alike_limited groups v w limited a k there = a.groups k ∙ limited k (sym (a.spaces k) ∙ there)

pub alike_placed : (v w : Spaces) (sets : List PortsAt) → IsAlike v w → ArePlaced v sets → ArePlaced w sets
alike_placed v w [] a placed = tt
alike_placed v w (s ∷ sets) a placed = ((placed.0.0, a.spaces (s.bridge_port - 1) ∙ placed.0.1), alike_placed v w sets a placed.1)

fresh_any : (v : Spaces) (sets : List PortsAt) (groups other : ℕ) → AreLimited groups v → AreLimited other v → ArePlaced v sets → AreFresh other (held_by v) sets → AreFresh groups (held_by v) sets
fresh_any v [] groups other here there placed fresh = tt
fresh_any v (s ∷ sets) groups other here there placed fresh =
    let same : other ≡ groups = sym (there (s.bridge_port - 1) placed.0.1) ∙ here (s.bridge_port - 1) placed.0.1 in
    subst (λ (n : ℕ). AreFresh n (held_by v) (s ∷ sets)) same fresh

pub claiming_begins : (groups : ℕ) (v : Spaces) (all : List PortsAt) (given : List Group) → CanClaim v all → given ≡ [] → AreLimited groups v → IsClaiming groups (held_by v) all v all given
claiming_begins groups v all given can none limited = record {
  placed = can.placed;
  fresh = fresh_any v all groups can.groups limited can.limited can.placed can.fresh;
  numbers = ap (λ (l : List Group). l ++ numbered groups (held_by v) all) none;
  held = refl;
}

pub claiming_step : (groups : ℕ) (h : Held) (all : List PortsAt) (v w : Spaces) (s : PortsAt) (rest : List PortsAt) (given : List Group) (x : Group) →
    IsClaiming groups h all v (s ∷ rest) given → IsAlike v w → x ≡ group_for groups (held_by v) s → held_by w ≡ give (group_for groups (held_by v) s) (held_by v) →
    IsClaiming groups h all w rest (given ++ x ∷ [])
unfolding numbered give_all
claiming_step groups h all v w s rest given x is a e f =
    let g : Group = group_for groups (held_by v) s in
    record {
      placed = alike_placed v w rest a is.placed.1;
      fresh = subst (λ (k : Held). AreFresh groups k rest) (sym f) is.fresh.1;
      numbers =
          append_assoc given (x ∷ []) (numbered groups (held_by w) rest)
          ∙ (ap (λ (k : Held). given ++ (x ∷ numbered groups k rest)) f
          ∙ (ap (λ (y : Group). given ++ (y ∷ numbered groups (give g (held_by v)) rest)) e ∙ is.numbers));
      held = ap (λ (k : Held). give_all (numbered groups k rest) k) f ∙ is.held;
    }

pub claiming_ends : (groups : ℕ) (h : Held) (all : List PortsAt) (v : Spaces) (given : List Group) → IsClaiming groups h all v [] given → AreClaimed groups h all given (held_by v)
unfolding numbered give_all
claiming_ends groups h all v given is =
    let numbers : given ≡ numbered groups h all = sym (append-nil given) ∙ is.numbers in
    record { given_are = numbers; held_is = is.held ∙ ap (λ (l : List Group). give_all l h) (sym numbers) }

-- what claim_group says, by the groups of every space
pub limit_here : (groups : ℕ) (u v : Spaces) (s : PortsAt) → AreLimited groups u → IsAlike u v → IsPlaced v s → (groups_at v (s.bridge_port - 1)).limit ≡ groups
limit_here groups u v s limited a placed = alike_limited groups u v limited a (s.bridge_port - 1) placed.1

-- Settling that is under way.
use Rattle.std.proofs.Common.{◌≡◌, ℕ, ◌-◌, ◌^◌, min, suc, ◌+◌, ◌*◌, ◌<◌, ◌≤◌, inl, inr, true, false, List, [], ◌++◌, append_assoc, append-nil, refl, ap, sym, ◌∙◌, subst, arith}
use Rattle.std.proofs.lemmas.Bool.{cases_Bool, cases_lt}
use Rattle.exb_model.specs.declared.setup.Verdict.{Verdict}
use Rattle.exb_model.specs.Rounds.{rounds}
use Rattle.exb_model.specs.Setup.{Limits, shape_of, limits_of}
use Rattle.exb_model.specs.Tree.{Shape, IsTree}
use Rattle.exb_world_spec.specs.AllowedSteps.{IsSettled}
use Rattle.exb_world_spec.specs.Settling.{is_settled, planned_in, played_before, round, settled_within, Played}
use Rattle.exb_world_spec.specs.Worlds.{World}
use Rattle.exb_world_spec.proofs.Rounds.{settled_exactly}
use Rattle.exb_world_laws.proofs.Setups.{setups_may_start}
use Rattle.exb_world.specs.WorldContracts.{Network, world_of, tree_of, bounds_of, IsSame}
use Rattle.exb_bridge.specs.TreeIndexes.{Site, limits_in}
use Rattle.exb_settling_laws.specs.SettlingBound.{costs}
use Rattle.exb_settling_laws.specs.SettlingLaws.{RoundsSpend}
use Rattle.exb_world_laws.specs.Runs.Settling.{Settles}
use Rattle.exb_world_spec.specs.Runs.ReachedWorlds.{reached_by}
use Rattle.exb_schedule.specs.ReachedWorlds.{Reached}
use Rattle.exb_schedule.specs.Rounds.{HasAsked, HasSettled, Leads, rounds_made}
use Rattle.exb_schedule.proofs.StepSequences.{costs_then, same_then, leads_begin, leads_by, leads_end, leads_on, gone_world}
use Rattle.exb_schedule.proofs.RoundsLeft.{Ends, ends_next, left_over, left_within, measured, no_more, none_left, one_more, passes_less, passes_nothing, some_left, some_round}

-- how many rounds there are at most, where the fate may give so many verdicts that aren't Pass
abbrev pub most : Network → ℕ → ℕ
most n budget = rounds budget (planned_in (tree_of n) (bounds_of n) (world_of n))

-- how many are still to be made, of that many, where each word passes
abbrev pub still : Network → ℕ → Network → ℕ
still old before now = rounds_made (tree_of old) (bounds_of old) (most old before) (world_of now) []

-- what falls in each round: a verdict that isn't Pass counts for all rounds
abbrev pub measure : Network → ℕ → Network → ℕ → ℕ
measure old before now budget = budget * (most old before + 1) + still old before now

-- Where memory hasn't run out, settling ends from here within these rounds, and so many were made. What is counted stays at 2^64 - 1.
pub record Rests (old now : Network) (before budget made : ℕ) : Type 0 where
  pub tree : IsTree (tree_of old)
  pub so_far : ℕ
  pub ahead : ℕ
  pub all : so_far + ahead ≡ most old before
  pub made_is : made ≡ min so_far (2 ^ 64 - 1)
  pub ends : (vs : List Verdict) → costs vs ≤ budget → Ends (tree_of old) (bounds_of old) ahead (world_of now) vs
  pub leads : Leads (settled_within (tree_of old) (bounds_of old) (most old before) (world_of old)) (settled_within (tree_of old) (bounds_of old) ahead (world_of now)) before budget old now
  pub counted : (vs : List Verdict) → rounds_made (tree_of old) (bounds_of old) (most old before) (world_of old) (leads.asked ++ vs) ≡ so_far + rounds_made (tree_of old) (bounds_of old) ahead (world_of now) vs

pub record IsResting (old now : Network) (before budget made : ℕ) : Type 0 where
  pub same : IsSame old now
  pub low : budget ≤ before
  pub rests : now.failed ≡ false → Rests old now before budget made

-- ---- it begins
tree_is : (n : Network) → Reached n → IsTree (tree_of n)
tree_is n k = subst IsTree (sym k.tree) (setups_may_start k.setup k.valid k.vids).setting.tree

ends_at : Settles → (n : Network) → Reached n → (budget : ℕ) (vs : List Verdict) → costs vs ≤ budget → Ends (tree_of n) (bounds_of n) (most n budget) (world_of n) vs
ends_at law n k budget vs few =
    let P : Shape → Limits → World → Type 0 = λ t l w. Ends t l (rounds budget (planned_in t l w)) w vs in
    let at : P (shape_of k.setup) (limits_of k.setup) (reached_by k.setup k.steps) = law k.setup k.steps k.valid k.vids k.may budget vs few in
    let one : P (tree_of n) (limits_of k.setup) (reached_by k.setup k.steps) = subst (λ (t : Shape). P t (limits_of k.setup) (reached_by k.setup k.steps)) (sym k.tree) at in
    let two : P (tree_of n) (bounds_of n) (reached_by k.setup k.steps) = subst (λ (l : Limits). P (tree_of n) l (reached_by k.setup k.steps)) (sym k.limits) one in
    subst (P (tree_of n) (bounds_of n)) (sym k.world) two

nothing_more : (k : ℕ) → k ≡ 0 + k
nothing_more k = omega arith

pub rests_begin : Settles → (n : Network) (budget : ℕ) → (n.failed ≡ false → Reached n) → IsResting n n budget budget 0
unfolding leads_begin
rests_begin law n budget reached =
    record {
      same = record { site = refl; failed = refl; tracing = refl };
      low = omega arith;
      rests = λ awake. record {
        tree = tree_is n (reached awake);
        so_far = 0;
        ahead = most n budget;
        all = omega arith;
        made_is = refl;
        ends = λ vs few. ends_at law n (reached awake) budget vs few;
        leads = leads_begin (settled_within (tree_of n) (bounds_of n) (most n budget) (world_of n)) budget n;
        counted = λ vs. nothing_more (rounds_made (tree_of n) (bounds_of n) (most n budget) (world_of n) vs);
      };
    }

-- ---- a round
not_settled : (t : Shape) (w : World) → IsTree t → (IsSettled t w → ⊥) → is_settled t w ≡ false
not_settled t w tree none = elim (cases_Bool (is_settled t w)) [ inl e ↦ absurd (none ((settled_exactly t w tree).0 e)) | inr e ↦ e ]

at_site : (old now : Network) → IsSame old now → (P : Shape → Limits → Type 0) → P (tree_of now) (bounds_of now) → P (tree_of old) (bounds_of old)
at_site old now same P p = (let Q : Site → Type 0 = λ s. P s.tree (limits_in s) in subst Q same.site p)

awake_before : (now new : Network) → IsSame now new → new.failed ≡ false → now.failed ≡ false
awake_before now new same awake = sym same.failed ∙ awake

next_count : (a b c d : ℕ) → a ≡ b + c → c ≡ suc d → a ≡ (b + 1) + d
next_count a b c d x y = omega (arith, x, y)

count_on : (so_far counted made : ℕ) → made ≡ min so_far (2 ^ 64 - 1) → counted ≡ min (made + 1) (2 ^ 64 - 1) → counted ≡ min (so_far + 1) (2 ^ 64 - 1)
count_on so_far counted made is more = more ∙ (ap (λ (m : ℕ). min (m + 1) (2 ^ 64 - 1)) is ∙ next so_far (2 ^ 64 - 1))
  where
    next : (k m : ℕ) → min (min k m + 1) m ≡ min (k + 1) m
    next k m = omega arith

module _ (law : RoundsSpend) (old now new : Network) (before budget less made more : ℕ) (same : IsSame old now) (k : Rests old now before budget made) (none : IsSettled (tree_of now) (world_of now) → ⊥)
    (one : HasAsked (round (tree_of now) (bounds_of now) (world_of now)) budget less now new) where
  abbrev t : Shape
  t = tree_of old

  abbrev l : Limits
  l = bounds_of old

  abbrev w : World
  w = world_of now

  unsettled : is_settled (tree_of old) (world_of now) ≡ false
  unsettled = not_settled t w k.tree (at_site old now same (λ a b. IsSettled a w → ⊥) none)

  here : HasAsked (round (tree_of old) (bounds_of old) (world_of now)) budget less now new
  here = at_site old now same (λ a b. HasAsked (round a b w) budget less now new) one

  left_one : (m : ℕ) × (k.ahead ≡ suc m)
  left_one = some_round t l k.ahead w [] unsettled (k.ends [] (omega arith))

  world_is : world_of new ≡ here.done.world
  world_is = gone_world here.done now new here.gone

  -- the rest, after the verdicts of this round
  split : (m : ℕ) → k.ahead ≡ suc m → (vs : List Verdict) → settled_within (tree_of old) (bounds_of old) k.ahead (world_of now) vs
      ≡ played_before (round (tree_of old) (bounds_of old) (world_of now) vs).done
      (settled_within (tree_of old) (bounds_of old) m (round (tree_of old) (bounds_of old) (world_of now) vs).done.world (round (tree_of old) (bounds_of old) (world_of now) vs).verdicts)
  split m e vs = ap (λ (n : ℕ). settled_within t l n w vs) e ∙ one_more t l m w vs unsettled

  unfoldable leads_to : (m : ℕ) → k.ahead ≡ suc m → Leads (settled_within (tree_of old) (bounds_of old) (most old before) (world_of old)) (settled_within (tree_of old) (bounds_of old) m (world_of new)) before less old new
  leads_to m e =
      leads_by (settled_within t l (most old before) (world_of old)) (settled_within t l k.ahead w) (round t l w) (λ v. settled_within t l m v) before budget less old now new k.leads (split m e) here

  ends_to : (m : ℕ) → k.ahead ≡ suc m → (vs : List Verdict) → costs vs ≤ less → Ends (tree_of old) (bounds_of old) m (world_of new) vs
  ends_to m e vs few =
      let sums = costs_then here.asked vs in
      let paid = here.paid in
      let all : Ends t l (suc m) w (here.asked ++ vs) = subst (λ (n : ℕ). Ends t l n w (here.asked ++ vs)) e (k.ends (here.asked ++ vs) (omega (arith, sums, paid, few))) in
      let next = ends_next t l m w (here.asked ++ vs) unsettled all in
      subst (λ (v : World). Ends t l m v vs) (sym world_is) (subst (λ (p : Played). Ends t l m p.done.world p.verdicts) (here.is vs) next)

  counted_to : (m : ℕ) → (e : k.ahead ≡ suc m) → (vs : List Verdict) →
      rounds_made (tree_of old) (bounds_of old) (most old before) (world_of old) ((leads_to m e).asked ++ vs) ≡ (k.so_far + 1) + rounds_made (tree_of old) (bounds_of old) m (world_of new) vs
  unfolding leads_to leads_by leads_on
  counted_to m e vs =
      let joined : rounds_made t l (most old before) (world_of old) ((k.leads.asked ++ here.asked) ++ vs) ≡ k.so_far + rounds_made t l k.ahead w (here.asked ++ vs) =
      ap (rounds_made t l (most old before) (world_of old)) (append_assoc k.leads.asked here.asked vs) ∙ k.counted (here.asked ++ vs) in
      let one_less : rounds_made t l k.ahead w (here.asked ++ vs) ≡ suc (rounds_made t l m (world_of new) vs) =
      ap (λ (n : ℕ). rounds_made t l n w (here.asked ++ vs)) e
      ∙ (some_left t l m w (here.asked ++ vs) unsettled
      ∙ (ap (λ (p : Played). suc (rounds_made t l m p.done.world p.verdicts)) (here.is vs) ∙ ap (λ (v : World). suc (rounds_made t l m v vs)) (sym world_is))) in
      next_count _ k.so_far _ _ joined one_less

  one_round : (m : ℕ) → k.ahead ≡ suc m → more ≡ min (made + 1) (2 ^ 64 - 1) → Rests old new before less more
  one_round m e few =
      let all = k.all in
      record {
        tree = k.tree;
        so_far = k.so_far + 1;
        ahead = m;
        all = omega (arith, all, e);
        made_is = count_on k.so_far more made k.made_is few;
        ends = ends_to m e;
        leads = leads_to m e;
        counted = counted_to m e;
      }

  pub next_rests : more ≡ min (made + 1) (2 ^ 64 - 1) → Rests old new before less more
  next_rests few = one_round left_one.0 left_one.1 few

  -- in each round it falls
  no_verdicts : left_over (tree_of old) (bounds_of old) (world_of now) [] ≡ []
  no_verdicts = passes_nothing t l w

  later_few : (n : ℕ) (e : is_settled (tree_of old) (world_of now) ≡ false) → rounds_made (tree_of old) (bounds_of old) n (world_of new) [] ≤ n
  later_few n e = left_within t l n (world_of new) []

  same_left : less ≡ budget → costs here.asked ≡ 0
  same_left e = (let paid = here.paid in omega (arith, paid, e))

  passing : less ≡ budget → suc (still old before new) ≡ still old before now
  passing e =
      let all = k.all in
      let sum : most old before ≡ k.so_far + k.ahead = sym all in
      let asked_world : (round t l w (here.asked ++ [])).done.world ≡ world_of new = ap (λ (p : Played). p.done.world) (here.is []) ∙ sym world_is in
      let plain : (round t l w here.asked).done.world ≡ world_of new = ap (λ (vs : List Verdict). (round t l w vs).done.world) (sym (append-nil here.asked)) ∙ asked_world in
      let step = passes_less t l law k.so_far k.ahead w here.asked unsettled (k.ends [] (omega arith)) no_verdicts (same_left e) in
      let there : suc (rounds_made t l (k.so_far + k.ahead) (world_of new) []) ≡ rounds_made t l (k.so_far + k.ahead) w [] = ap (λ (v : World). suc (rounds_made t l (k.so_far + k.ahead) v [])) (sym plain) ∙ step in
      ap (λ (n : ℕ). suc (rounds_made t l n (world_of new) [])) sum ∙ (there ∙ ap (λ (n : ℕ). rounds_made t l n w []) (sym sum))

  pub falls : measure old before new less < measure old before now budget
  falls =
      elim (cases_lt less budget) [
        | inl low ↦ measured budget less (most old before) (still old before now) (still old before new) low (later_few (most old before) unsettled)
        | inr high ↦ by_same (equal high)
      ]
    where
      equal : budget ≤ less → less ≡ budget
      equal high = (let paid = here.paid in omega (arith, paid, high))

      by_same : less ≡ budget → measure old before new less < measure old before now budget
      by_same e =
          let one_less : suc (still old before new) ≡ still old before now = passing e in
          subst (λ (b : ℕ). b * (most old before + 1) + still old before new < measure old before now budget) (sym e) (omega (arith, one_less))

pub rests_on : RoundsSpend → (old now new : Network) (before budget less made more : ℕ) → IsResting old now before budget made → (now.failed ≡ false → IsSettled (tree_of now) (world_of now) → ⊥) →
    HasAsked (round (tree_of now) (bounds_of now) (world_of now)) budget less now new → more ≡ min (made + 1) (2 ^ 64 - 1) → IsResting old new before less more
rests_on law old now new before budget less made more k none one few =
    let low = k.low in
    let paid = one.paid in
    record {
      same = same_then old now new k.same one.gone.made.moved.same;
      low = omega (arith, low, paid);
      rests = λ awake.
          let was : now.failed ≡ false = awake_before now new one.gone.made.moved.same awake in
          next_rests law old now new before budget less made more k.same (k.rests was) (none was) one few;
    }

pub less_left : RoundsSpend → (old now new : Network) (before budget less made : ℕ) → IsResting old now before budget made → now.failed ≡ false → (IsSettled (tree_of now) (world_of now) → ⊥) →
    HasAsked (round (tree_of now) (bounds_of now) (world_of now)) budget less now new → measure old before new less < measure old before now budget
less_left law old now new before budget less made k awake none one = falls law old now new before budget less made 0 k.same (k.rests awake) none one

-- ---- it ends
module _ (old now : Network) (before budget made : ℕ) (k : IsResting old now before budget made) (awake : now.failed ≡ false) (settled : IsSettled (tree_of now) (world_of now)) where
  r : Rests old now before budget made
  r = k.rests awake

  at_rest : is_settled (tree_of old) (world_of now) ≡ true
  at_rest = (settled_exactly (tree_of old) (world_of now) r.tree).1 (at_site old now k.same (λ a b. IsSettled a (world_of now)) settled)

  pub rests_end : HasSettled (most old before) made before budget old now
  unfolding leads_end
  rests_end =
      let t : Shape = tree_of old in
      let l : Limits = bounds_of old in
      let end = leads_end (settled_within t l (most old before) (world_of old)) (settled_within t l r.ahead (world_of now)) before budget old now r.leads (λ vs. no_more t l r.ahead (world_of now) vs at_rest) in
      record {
        asked = r.leads.asked;
        paid = r.leads.paid;
        done = end.done;
        gone = end.gone;
        is = end.is;
        counted = λ vs.
            let none = none_left t l r.ahead (world_of now) vs at_rest in
            let all = r.counted vs in
            let count : r.so_far ≡ rounds_made t l (most old before) (world_of old) (r.leads.asked ++ vs) = omega (arith, none, all) in
            r.made_is ∙ ap (λ (n : ℕ). min n (2 ^ 64 - 1)) count;
      }

  pub few_made : made ≤ most old before
  few_made =
      let all = r.all in
      let is = r.made_is in
      let low : min r.so_far (2 ^ 64 - 1) ≤ r.so_far = by_min r.so_far (2 ^ 64 - 1) in
      omega (arith, all, is, low)
    where
      by_min : (a b : ℕ) → min a b ≤ a
      by_min a b = omega arith

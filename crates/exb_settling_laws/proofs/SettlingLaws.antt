-- The laws on settling, over the worlds that have the facts whatever words are delivered and whatever beats pass.
use Rattle.std.proofs.Common.{◌≡◌, ◌⊎◌, inl, inr, ℕ, zero, suc, ◌≤◌, ◌<◌, true, List, [], ◌∷◌, refl, ap, sym, ◌∙◌, subst, arith}
use Rattle.std.proofs.lemmas.Bool.{cases_lt}
use Rattle.exb_model.specs.declared.setup.Verdict.{Verdict}
use Rattle.exb_model.specs.Setup.{Limits}
use Rattle.exb_model.specs.Tree.{Shape, IsTree}
use Rattle.exb_frame.specs.TagValues.{TagRoundTrip}
use Rattle.exb_world_spec.specs.Worlds.{World, Step, Beat}
use Rattle.exb_world_spec.specs.Steps.{stepped}
use Rattle.exb_world_spec.specs.Settling.{run, round, is_settled, planned_in}
use Rattle.exb_settling_laws.specs.SettlingBound.{costs, Stage}
use Rattle.exb_settling_laws.specs.SettlingFacts.{Facts, IsInvariant}
use Rattle.exb_settling_laws.specs.SettlingLaws.{MayMove, KeepsFacts, SetupsHaveFacts, SettlingEnds, IsPassing, RoundsSpend, RoundsPlanNothing, AllArrive, RoundsDeliver, passing_rounds, WindowsGetOn}
use Rattle.exb_settling_laws.proofs.BeatLaw.{all_beat, settle_ends}
use Rattle.exb_settling_laws.proofs.DownLaw.{micro}
use Rattle.exb_settling_laws.proofs.FirstFacts.{setup_facts}
use Rattle.exb_settling_laws.proofs.RoundSteps.{round_keeps}
use Rattle.exb_settling_laws.proofs.SessionRounds.{Micro, risen, rose, sank, ended_is, passing}
use Rattle.exb_settling_laws.proofs.AnswerStages.{Passing, rough, nearer}
use Rattle.exb_settling_laws.proofs.LastRound.{settled}
use Rattle.exb_settling_laws.proofs.ControlTurns.{round_planned}
use Rattle.exb_settling_laws.proofs.VerdictCosts.{pass_round, round_passes}

pub setups_have_facts : SetupsHaveFacts
setups_have_facts s valid = setup_facts s valid

-- ---- worlds that keep the facts
module _ (t : Shape) (l : Limits) where
  facts_now : (w : World) → KeepsFacts t l w → Facts t l w
  unfolding run
  facts_now w k = k.each [] tt

  after : (step : Step) (w : World) → MayMove t w step → KeepsFacts t l w → KeepsFacts t l (stepped t l step w).world
  unfolding run
  after step w may k = record { each = λ steps more. k.each (step ∷ steps) (may, more) }

  pub invariant : IsInvariant t l (KeepsFacts t l)
  invariant = record { facts = facts_now; moves = record { steps = λ step w on can k. after step w (inl (on, can)) k }; beats = λ w k. after Beat w (inr refl) k }

  round_is_pass : (w : World) → (round t l w []).done.world ≡ pass_round t l w
  unfolding round
  round_is_pass w = refl

  spends : (w : World) (vs : List Verdict) → (costs (round t l w vs).verdicts < costs vs) ⊎ IsPassing t l w vs
  spends w vs =
      elim (round_passes t l w vs) [
        | inl less ↦ inl less
        | inr same ↦ inr (record { costs_is = same.costs_is; world = same.world ∙ sym (round_is_pass w) })
      ]

  pass_keeps : (w : World) → KeepsFacts t l w → KeepsFacts t l (pass_round t l w)
  pass_keeps w k = subst (KeepsFacts t l) (round_is_pass w) (round_keeps t l (KeepsFacts t l) invariant w [] k)

pub rounds_spend : RoundsSpend
rounds_spend t l w vs = spends t l w vs

pub rounds_plan_nothing : RoundsPlanNothing
rounds_plan_nothing t l w vs tree k = round_planned t l tree (KeepsFacts t l) (invariant t l) w vs k

pub settling_ends : TagRoundTrip → SettlingEnds
settling_ends round t l w tree k b vs few = settle_ends t l tree round (KeepsFacts t l) (invariant t l) b w vs k few

-- ---- rounds in which each word passes
module _ (t : Shape) (l : Limits) (tree : IsTree t) (round : TagRoundTrip) where
  words : Micro t l (KeepsFacts t l)
  words = micro t l tree round (KeepsFacts t l) (invariant t l) (all_beat t l tree round (KeepsFacts t l) (invariant t l))

  passes : Passing t l (KeepsFacts t l)
  passes = passing t l tree (KeepsFacts t l) (invariant t l) words

  arrive : (w : World) → KeepsFacts t l w → AllArrive t l w
  arrive w k =
      let a = rose t l tree (KeepsFacts t l) (invariant t l) words w k in
      let b = sank t l tree (KeepsFacts t l) (invariant t l) words (risen t l tree (KeepsFacts t l) (invariant t l) words w) a.0 in
      record {
        ups = a.2;
        downs = λ m there. (let P : World → Type 0 = λ v. v.down m ≡ [] in subst P (sym (ended_is t l tree (KeepsFacts t l) (invariant t l) words w)) (b.2 m there));
      }

  -- at most so many rounds are left
  abbrev GetsOnWithin : ℕ → World → Type 0
  GetsOnWithin s w = (n : ℕ) × (n ≤ s) × ((planned_in t l (passing_rounds t l n w) < planned_in t l w) ⊎ (is_settled t (passing_rounds t l n w) ≡ true))

  one_more : (n : ℕ) (w : World) → passing_rounds t l (suc n) w ≡ passing_rounds t l n (pass_round t l w)
  one_more n w = ap (passing_rounds t l n) (round_is_pass t l w)

  gets_on : (s : ℕ) (w : World) → KeepsFacts t l w → Stage t s w → GetsOnWithin s w
  gets_on zero w k stage = (0, omega arith, inr (settled t l tree (KeepsFacts t l) facts passes (pass_keeps t l) w k stage))
    where
      facts : (v : World) → KeepsFacts t l v → Facts t l v
      facts v j = facts_now t l v j
  gets_on (suc s) w k stage =
      let less : planned_in t l (pass_round t l w) ≤ planned_in t l w = subst (λ (v : World). planned_in t l v ≤ planned_in t l w) (round_is_pass t l w) (rounds_plan_nothing t l w [] tree k) in
      elim (cases_lt (planned_in t l (pass_round t l w)) (planned_in t l w)) [
        | inl falls ↦ (1, omega arith, inl (subst (λ (v : World). planned_in t l v < planned_in t l w) (sym (round_is_pass t l w)) falls))
        | inr not ↦ by_rest (omega arith) (λ next. gets_on s (pass_round t l w) (pass_keeps t l w k) next)
      ]
    where
      by_rest : planned_in t l (pass_round t l w) ≡ planned_in t l w → (Stage t s (pass_round t l w) → GetsOnWithin s (pass_round t l w)) → GetsOnWithin (suc s) w
      by_rest same ih =
          let next : Stage t s (pass_round t l w) = nearer t l tree (KeepsFacts t l) (facts_now t l) passes (pass_keeps t l) s w k same stage in
          let rest = ih next in (
            suc rest.0,
            (let few : rest.0 ≤ s = rest.1 in omega arith),
            elim rest.2 [
              | inl falls ↦ inl (
                  let e : planned_in t l (passing_rounds t l (suc rest.0) w) ≡ planned_in t l (passing_rounds t l rest.0 (pass_round t l w)) = ap (planned_in t l) (one_more rest.0 w) in
                  omega (arith, falls, same, e))
              | inr done ↦ inr (ap (is_settled t) (one_more rest.0 w) ∙ done)
            ],
          )

pub rounds_deliver : TagRoundTrip → RoundsDeliver
rounds_deliver round t l w tree k = arrive t l tree round w k

pub windows_get_on : TagRoundTrip → WindowsGetOn
windows_get_on round t l w tree k =
    let r = gets_on t l tree round 52 w k (rough t l tree (KeepsFacts t l) (facts_now t l) (passes t l tree round) (pass_keeps t l) w k) in
    record { count = r.0; few = (let low : r.0 ≤ 52 = r.1 in omega arith); done = r.2 }

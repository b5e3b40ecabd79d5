-- A round costs a verdict that isn't Pass, or it is the round in which each word passes.
use Rattle.std.proofs.Common.{◌≡◌, ◌⊎◌, inl, inr, ⊎_elim, ℕ, ◌+◌, ◌<◌, List, [], ◌∷◌, ◌++◌, refl, ap, sym, ◌∙◌, arith}
use Rattle.std.proofs.lemmas.Bool.{cases_Bool}
use Rattle.exb_model.specs.declared.setup.Verdict.{Verdict}
use Rattle.exb_model.specs.declared.setup.Verdict.TheVariants as verdict
use Rattle.exb_model.specs.Tree.{Shape}
use Rattle.exb_model.specs.Setup.{Limits}
use Rattle.exb_link.specs.declared.link_frame.LinkFrame.{LinkFrame}
use Rattle.exb_link.specs.LinkFrames.{is_control}
use Rattle.exb_world_spec.specs.Worlds.{World, Way, Step, Carry, Beat}
use Rattle.exb_world_spec.specs.Steps.{stepped}
use Rattle.exb_world_spec.specs.Settling.{Gone, before, steps_for, next_place, gone_through, goes_through, Direction, directions, run, through_all, round}
use Rattle.exb_settling_laws.specs.SettlingBound.{cost_of, costs}

-- fewer verdicts that aren't Pass are left, or the steps are those in which each word passes
pub record IsCheap (g p : Gone) (vs : List Verdict) : Type 0 where
  pub steps : g.steps ≡ p.steps
  pub costs_is : costs g.verdicts ≡ costs vs

abbrev pub Dear : Gone → List Verdict → Type 0
Dear g vs = costs g.verdicts < costs vs

after_cheap : (steps : List Step) (g p : Gone) (vs : List Verdict) → IsCheap g p vs → IsCheap (before steps g) (before steps p) vs
after_cheap steps g p vs h = record { steps = ap (λ (xs : List Step). steps ++ xs) h.steps; costs_is = h.costs_is }

-- a verdict that isn't Pass
paid : (v : Verdict) (steps : List Step) (g p : Gone) (vs : List Verdict) → cost_of v ≡ 1 → Dear g vs ⊎ IsCheap g p vs → Dear (before steps g) (v ∷ vs)
paid v steps g p vs one h = ⊎_elim (λ (d : Dear g vs). omega arith) (λ (c : IsCheap g p vs). let e : costs g.verdicts ≡ costs vs = c.costs_is in omega arith) h

pub none_left : (n : ℕ) (way : Way) (k : ℕ) (ws : List LinkFrame) → (gone_through n way k ws []).verdicts ≡ []
unfolding gone_through
none_left n way k [] = refl
none_left n way k (x ∷ xs) = elim (cases_Bool (is_control x)) [ inl e ↦ rw e (none_left n way k xs) | inr e ↦ rw e (none_left n way k xs) ]

-- what a control word costs, where this holds of the words after it
abbrev Here : ℕ → Way → ℕ → List LinkFrame → List Verdict → Type 0
Here n way k xs vs = Dear (gone_through n way k xs vs) vs ⊎ IsCheap (gone_through n way k xs vs) (gone_through n way k xs []) vs

by_verdict : (n : ℕ) (way : Way) (k : ℕ) (xs : List LinkFrame) (vs : List Verdict) → ((j : ℕ) → Here n way j xs vs) → (v : Verdict) →
    Dear (before (steps_for n way k v) (gone_through n way (next_place k v) xs vs)) (v ∷ vs)
    ⊎ IsCheap (before (steps_for n way k v) (gone_through n way (next_place k v) xs vs)) (before (steps_for n way k verdict.Pass) (gone_through n way k xs [])) (v ∷ vs)
by_verdict n way k xs vs h verdict.Pass =
    ⊎_elim
    (λ (d : Dear (gone_through n way k xs vs) vs). inl (omega arith))
    (λ (c : IsCheap (gone_through n way k xs vs) (gone_through n way k xs []) vs).
    inr (record { steps = ap (λ (ys : List Step). steps_for n way k verdict.Pass ++ ys) c.steps; costs_is = (let q : costs (gone_through n way k xs vs).verdicts ≡ costs vs = c.costs_is in omega arith) }))
    (h k)
by_verdict n way k xs vs h verdict.Lose = inl (paid verdict.Lose (steps_for n way k verdict.Lose) (gone_through n way k xs vs) (gone_through n way k xs []) vs refl (h k))
by_verdict n way k xs vs h verdict.Twice = inl (paid verdict.Twice (steps_for n way k verdict.Twice) (gone_through n way (k + 1) xs vs) (gone_through n way (k + 1) xs []) vs refl (h (k + 1)))
by_verdict n way k xs vs h verdict.Later = inl (paid verdict.Later (steps_for n way k verdict.Later) (gone_through n way (k + 1) xs vs) (gone_through n way (k + 1) xs []) vs refl (h (k + 1)))

pub goes_cheap : (n : ℕ) (way : Way) (k : ℕ) (ws : List LinkFrame) (vs : List Verdict) → Here n way k ws vs
unfolding gone_through
goes_cheap n way k ws [] = inr (record { steps = refl; costs_is = ap costs (none_left n way k ws) })
goes_cheap n way k [] (v ∷ vs) = inr (record { steps = refl; costs_is = refl })
goes_cheap n way k (x ∷ xs) (v ∷ vs) =
    elim (cases_Bool (is_control x)) [
      | inl e ↦ rw e (by_verdict n way k xs vs (λ j. goes_cheap n way j xs vs) v)
      | inr e ↦ rw e (
          ⊎_elim
          (λ (d : Dear (gone_through n way k xs (v ∷ vs)) (v ∷ vs)). inl d)
          (λ (c : IsCheap (gone_through n way k xs (v ∷ vs)) (gone_through n way k xs []) (v ∷ vs)). inr (after_cheap (Carry n way ∷ []) _ _ (v ∷ vs) c))
          (goes_cheap n way k xs (v ∷ vs))
          )
    ]

module _ (t : Shape) (l : Limits) where
  -- the world after directions in which each word passes
  abbrev pub passed : List Direction → World → World
  passed ds w = (through_all t l ds w []).done.world

  abbrev pub pass_round : World → World
  pass_round w = (stepped t l Beat (passed (directions t) w)).world

  pub record AllPassed (ds : List Direction) (w : World) (vs : List Verdict) : Type 0 where
    pub world : (through_all t l ds w vs).done.world ≡ passed ds w
    pub costs_is : costs (through_all t l ds w vs).verdicts ≡ costs vs

  pub passes_all : (ds : List Direction) (w : World) (vs : List Verdict) → (costs (through_all t l ds w vs).verdicts < costs vs) ⊎ AllPassed ds w vs
  unfolding through_all
  passes_all [] w vs = inr (record { world = refl; costs_is = refl })
  passes_all (d ∷ ds) w vs =
      let g : Gone = goes_through d w vs in
      let v : World = (run t l (goes_through d w vs).steps w).world in
      let later = passes_all ds (run t l (goes_through d w vs).steps w).world (goes_through d w vs).verdicts in
      elim (goes_cheap d.link d.way 0 (Rattle.exb_world_spec.specs.Steps.words_on d.link d.way w) vs) [
        | inl dear ↦ elim later [ inl more ↦ inl (omega arith) | inr same ↦ (let e = same.costs_is in inl (omega arith)) ]
        | inr cheap ↦ elim later [
          | inl more ↦ (let e = cheap.costs_is in inl (omega arith))
          | inr same ↦
              let a : (through_all t l ds (run t l (goes_through d w vs).steps w).world (goes_through d w vs).verdicts).done.world ≡ (through_all t l ds (run t l (goes_through d w vs).steps w).world []).done.world = same.world in
              let b : (through_all t l ds (run t l (goes_through d w vs).steps w).world []).done.world ≡ (through_all t l ds (run t l (goes_through d w []).steps w).world []).done.world =
              ap (λ (steps : List Step). (through_all t l ds (run t l steps w).world []).done.world) cheap.steps in
              let c : (through_all t l ds (run t l (goes_through d w []).steps w).world (goes_through d w []).verdicts).done.world ≡ (through_all t l ds (run t l (goes_through d w []).steps w).world []).done.world =
              ap (λ (us : List Verdict). (through_all t l ds (run t l (goes_through d w []).steps w).world us).done.world) (none_left d.link d.way 0 (Rattle.exb_world_spec.specs.Steps.words_on d.link d.way w)) in
              inr (record { world = a ∙ b ∙ sym c; costs_is = same.costs_is ∙ cheap.costs_is })
        ]
      ]

  -- a round
  pub record IsPassRound (w : World) (vs : List Verdict) : Type 0 where
    pub world : (round t l w vs).done.world ≡ pass_round w
    pub costs_is : costs (round t l w vs).verdicts ≡ costs vs

  pub round_passes : (w : World) (vs : List Verdict) → (costs (round t l w vs).verdicts < costs vs) ⊎ IsPassRound w vs
  unfolding round
  round_passes w vs =
      ⊎_elim
      (λ (d : costs (through_all t l (directions t) w vs).verdicts < costs vs). inl d)
      (λ (p : AllPassed (directions t) w vs). inr (record { world = ap (λ (v : World). (stepped t l Beat v).world) p.world; costs_is = p.costs_is }))
      (passes_all (directions t) w vs)

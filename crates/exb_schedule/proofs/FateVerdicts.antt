-- The fate was asked of a control word.
use Rattle.std.proofs.Common.{◌≡◌, ◌≢◌, inl, inr, ℕ, ◌+◌, ◌<◌, ◌≤◌, true, false, List, [], ◌∷◌, length, filter, refl, sym, subst, arith}
use Rattle.std.proofs.lemmas.Bool.{cases_Bool}
use Rattle.exb_model.specs.declared.setup.Verdict.{Verdict}
use Rattle.exb_model.specs.declared.setup.Verdict.TheVariants as verdict
use Rattle.exb_link.specs.declared.link_frame.LinkFrame.{LinkFrame}
use Rattle.exb_link.specs.LinkFrames.{is_control, leading}
use Rattle.exb_world_spec.specs.Worlds.{Way, Control, Lose}
use Rattle.exb_world.specs.WorldContracts.{Network, world_of, tree_of, IsStepped}
use Rattle.exb_world_spec.specs.Runs.ReachedWorlds.{MayTake}
use Rattle.exb_schedule.specs.Rounds.{HasTaken}
use Rattle.exb_schedule.proofs.StepSequences.{run_nothing, run_step}

-- a control word that is free is there
pub leading_within : (ws : List LinkFrame) → leading ws ≤ length (filter is_control ws)
leading_within [] = omega arith
leading_within (w ∷ ws) = elim (cases_Bool (is_control w)) [ inl e ↦ rw e (let h = leading_within ws in omega (arith, h)) | inr e ↦ rw e (omega arith) ]

pub is_there : (k : ℕ) (ws : List LinkFrame) → k < leading ws → k < length (filter is_control ws)
is_there k ws low = (let h = leading_within ws in omega (arith, h, low))

lose_pass : verdict.Lose ≢ verdict.Pass
lose_pass e = cc

twice_pass : verdict.Twice ≢ verdict.Pass
twice_pass e = cc

later_pass : verdict.Later ≢ verdict.Pass
later_pass e = cc

module _ (n : ℕ) (way : Way) (place before less : ℕ) (old new : Network) where
  pub passed : less ≤ before → IsStepped (Control n way place false) old new → MayTake (tree_of old) (world_of old) (Control n way place false) → HasTaken n way place place before less old new
  passed falls made may = record { verdict = verdict.Pass; paid = omega (arith, falls); next_is = refl; made = run_step (Control n way place false) old new made may }

  pub lost : (v : Verdict) → v ≡ verdict.Lose → (v ≢ verdict.Pass → less < before) → IsStepped (Lose n way place) old new → MayTake (tree_of old) (world_of old) (Lose n way place) → HasTaken n way place place before less old new
  lost v is pays made may = record { verdict = verdict.Lose; paid = (let h = pays (subst (λ (x : Verdict). x ≢ verdict.Pass) (sym is) lose_pass) in omega (arith, h)); next_is = refl; made = run_step (Lose n way place) old new made may }

  pub repeated : (v : Verdict) → v ≡ verdict.Twice → (v ≢ verdict.Pass → less < before) → IsStepped (Control n way place true) old new → MayTake (tree_of old) (world_of old) (Control n way place true) →
      HasTaken n way place (place + 1) before less old new
  repeated v is pays made may =
      record { verdict = verdict.Twice; paid = (let h = pays (subst (λ (x : Verdict). x ≢ verdict.Pass) (sym is) twice_pass) in omega (arith, h)); next_is = refl; made = run_step (Control n way place true) old new made may }

pub kept : (n : ℕ) (way : Way) (place before less : ℕ) (now : Network) (v : Verdict) → v ≡ verdict.Later → (v ≢ verdict.Pass → less < before) → HasTaken n way place (place + 1) before less now now
kept n way place before less now v is pays =
    record { verdict = verdict.Later; paid = (let h = pays (subst (λ (x : Verdict). x ≢ verdict.Pass) (sym is) later_pass) in omega (arith, h)); next_is = refl; made = run_nothing now }

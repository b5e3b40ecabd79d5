-- Rounds in which a fate is asked at each control word, and how far they are.
use Rattle.std.specs.Prelude.{◌≡◌, ℕ, zero, suc, ◌+◌, ◌-◌, ◌≤◌, ◌^◌, min, if◌then◌else◌, true, ◌++◌, List, filter, length, map}
use Rattle.exb_model.specs.declared.setup.Verdict.{Verdict}
use Rattle.exb_model.specs.Setup.{Limits}
use Rattle.exb_model.specs.Tree.{Shape}
use Rattle.exb_link.specs.declared.link_frame.LinkFrame.{LinkFrame}
use Rattle.exb_link.specs.LinkFrames.{is_control, is_data}
use Rattle.exb_world_spec.specs.Settling.{Direction, Played, direction, gone_through, goes_through, is_settled, next_place, played_before, round, run, settled_within, steps_for, through_all}
use Rattle.exb_world_spec.specs.Steps.{Stepped, words_on}
use Rattle.exb_world_spec.specs.Worlds.{World, Way}
use Rattle.exb_world_spec.specs.Runs.Sessions.{Each}
use Rattle.exb_world.specs.WorldContracts.{Network, world_of, tree_of, bounds_of}
use Rattle.exb_world.specs.LinkTurns.{order_of}
use Rattle.exb_settling_laws.specs.SettlingBound.{cost_of, costs}
use Rattle.exb_schedule.specs.declared.round_progress.RoundProgress.{RoundProgress}
use Rattle.exb_schedule.specs.StepSequences.{HasGone, HasRun}

-- ---- what is played, by the verdicts of a fate
-- of a direction: these words, the next control word at that place
abbrev pub goes_on : Shape → Limits → ℕ → Way → ℕ → List LinkFrame → World → List Verdict → Played
goes_on t l n way k rest w vs = record {
  done = run t l (gone_through n way k rest vs).steps w;
  verdicts = (gone_through n way k rest vs).verdicts;
}

-- the words that stand on a direction are gone through once
abbrev pub goes_along : Shape → Limits → Direction → World → List Verdict → Played
goes_along t l d w vs = record {
  done = run t l (goes_through d w vs).steps w;
  verdicts = (goes_through d w vs).verdicts;
}

-- so are those of all directions of one way, in their order
abbrev pub goes_one_way : Shape → Limits → Way → World → List Verdict → Played
goes_one_way t l way w vs = through_all t l (map (direction way) (order_of t way)) w vs

-- how many rounds settling makes, of at most so many
unfoldable pub rounds_made : Shape → Limits → ℕ → World → List Verdict → ℕ
rounds_made t l zero w vs = 0
rounds_made t l (suc n) w vs = if is_settled t w then 0 else suc
    (rounds_made t l n (round t l w vs).done.world (round t l w vs).verdicts)

-- ---- what a fate made of it
-- It was played, by moves alone, with the verdicts that the fate gave when it was asked. The fate, which might give so
-- many verdicts other than Pass, may give so many now: less by each that it gave.
pub record HasAsked (play : List Verdict → Played) (before left : ℕ) (old new : Network) : Type 0 where
  pub asked : List Verdict
  pub paid : costs asked + left ≤ before
  pub done : Stepped
  pub gone : HasGone done old new
  pub is : (more : List Verdict) → play (asked ++ more) ≡ record { done = done; verdicts = more }

-- Settling was played so, and made so many rounds, a number that stays at 2^64 - 1.
pub record HasSettled (most made before left : ℕ) (old new : Network) : Type 0 where
  pub asked : List Verdict
  pub paid : costs asked + left ≤ before
  pub done : Stepped
  pub gone : HasGone done old new
  pub is : (more : List Verdict) → settled_within (tree_of old) (bounds_of old) most (world_of old) (asked ++ more)
      ≡ record { done = done; verdicts = more }
  pub counted : (more : List Verdict)
      → made ≡ min (rounds_made (tree_of old) (bounds_of old) most (world_of old) (asked ++ more)) (2 ^ 64 - 1)

-- The control word at a place was looked at: the fate gave a verdict on it.
pub record HasTaken (n : ℕ) (way : Way) (place next before left : ℕ) (old new : Network) : Type 0 where
  pub verdict : Verdict
  pub paid : cost_of verdict + left ≤ before
  pub next_is : next ≡ next_place place verdict
  pub made : HasRun (steps_for n way place verdict) old new

-- Of a whole this rest is still to be played. What came before it was done by moves alone, with the verdicts that the
-- fate gave so far.
pub record Leads (whole rest : List Verdict → Played) (before left : ℕ) (old now : Network) : Type 0 where
  pub asked : List Verdict
  pub paid : costs asked + left ≤ before
  pub done : Stepped
  pub gone : HasGone done old now
  pub is : (more : List Verdict) → whole (asked ++ more) ≡ played_before done (rest more)

-- ---- a direction that is gone through
-- So many data words and control words are next on a direction. The control words before them were looked at and stay.
pub record AreNext (n : ℕ) (way : Way) (w : World) (left : RoundProgress) : Type 0 where
  pub kept : List LinkFrame
  pub rest : List LinkFrame
  pub more : List LinkFrame
  pub control_alone : Each (λ (x : LinkFrame). is_control x ≡ true) kept
  pub place : left.place ≡ length kept
  pub is : words_on n way w ≡ kept ++ (rest ++ more)
  pub frames : left.frames ≡ length (filter is_data rest)
  pub control : left.control ≡ length (filter is_control rest)

-- Of a whole these words are still to be looked at.
pub record GoesThrough (n : ℕ) (way : Way) (whole : List Verdict → Played) (before budget : ℕ) (old now : Network)
    (left : RoundProgress) : Type 0 where
  pub next : AreNext n way (world_of now) left
  pub leads : Leads whole (λ vs. goes_on (tree_of now) (bounds_of now) n way left.place next.rest (world_of now) vs)
      before budget old now

-- What verdicts cost, and how many rounds are left in a world where each word passes and nothing is answered or heard.
use Rattle.std.specs.Prelude.{◌≡◌, ◌⊎◌, ℕ, ◌+◌, ◌≤◌, ◌<◌, true, List, [], ◌∷◌, Option, Some, None, ⊤}
use Rattle.exb_model.specs.declared.setup.Verdict.{Verdict}
use Rattle.exb_model.specs.declared.setup.Verdict.TheVariants as verdict
use Rattle.exb_model.specs.Tree.{Shape, is_extender}
use Rattle.exb_model.specs.Setup.{Limits}
use Rattle.exb_link.specs.declared.link_frame.LinkFrame.{LinkFrame}
use Rattle.exb_control_spec.specs.declared.job.Job.{Job}
use Rattle.exb_control_spec.specs.declared.job.Job.TheVariants as job
use Rattle.exb_control_spec.specs.Machine.{Work}
use Rattle.exb_world_spec.specs.Worlds.{World}
use Rattle.exb_world_spec.specs.Runs.Sessions.{Each}
use Rattle.exb_world_spec.specs.Settling.{settle, is_settled}
use Rattle.exb_settling_laws.specs.StopAndWait.{Message as Note, Request, Answer, Ack, Hello}
use Rattle.exb_settling_laws.specs.SessionPair.{Pair}
use Rattle.exb_settling_laws.specs.AnswerStages.{AtMost, IdleAtMost}
use Rattle.exb_settling_laws.specs.Streams.{is_of, pair_at}

-- each verdict but Pass
abbrev pub cost_of : Verdict → ℕ
cost_of verdict.Pass = 0
cost_of verdict.Lose = 1
cost_of verdict.Twice = 1
cost_of verdict.Later = 1

abbrev pub costs : List Verdict → ℕ
costs [] = 0
costs (v ∷ vs) = cost_of v + costs vs

-- ---- stages
abbrev pub HasHello : List Note → Type 0
HasHello [] = ⊥
HasHello (Request s k ∷ ms) = HasHello ms
HasHello (Answer s k ∷ ms) = HasHello ms
HasHello (Ack s ∷ ms) = HasHello ms
HasHello (Hello ∷ ms) = ⊤

-- an announcement is on its way, or comes when the count is 1
abbrev pub HelloLeft : ℕ → Pair → Type 0
HelloLeft s p = (HasHello p.far.sent × (1 ≤ s)) ⊎ (((p.far.count ≡ 0) × (2 ≤ s))
    ⊎ ((0 < p.far.count) × (18 ≤ s + p.far.count)))

-- on each link nothing goes down, and up come control frames of its own extender alone
pub record IsSwept (t : Shape) (w : World) : Type 0 where
  pub downs : (m : ℕ) → is_extender t m ≡ true → w.down m ≡ []
  pub ups : (m : ℕ) → is_extender t m ≡ true → Each (λ (x : LinkFrame). is_of t w.control.held m m x ≡ true) (w.up m)

-- What is waited for: the answer to the request that is outstanding, the announcement of the extender to be opened, or,
-- with nothing queued, that all sessions are at rest. At most s rounds are left until it comes.
abbrev pub StageBy : Shape → ℕ → World → Option Work → List Job → Type 0
StageBy t s w (Some k) js = AtMost s (pair_at t w k.first.extender)
StageBy t s w None [] = ((n : ℕ) → is_extender t n ≡ true → IdleAtMost s (pair_at t w n)) × ((1 ≤ s) ⊎ IsSwept t w)
StageBy t s w None (job.Opening n ∷ js) = HelloLeft s (pair_at t w n)
StageBy t s w None (j ∷ js) = ⊥

abbrev pub Stage : Shape → ℕ → World → Type 0
Stage t s w = StageBy t s w w.control.work w.control.queue

-- ---- the law
-- With verdicts of which b aren't Pass, a settle ends, within its rounds, in a settled world.
abbrev pub SettleEnds : Shape → Limits → (World → Type 0) → Type 0
SettleEnds t l I = (b : ℕ) (w : World) (vs : List Verdict) → I w → costs vs ≤ b
    → is_settled t (settle t l b w vs).done.world ≡ true

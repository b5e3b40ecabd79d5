-- Rounds, and settling: made of steps alone. The verdicts on control words are those of a fate, in the order in which
-- it is asked; once they are used up each one passes.
use Rattle.std.specs.Prelude.{ℕ, zero, suc, ◌+◌, ◌*◌, ◌&&◌, Bool, true, false, is_none, if◌then◌else◌, List, [], ◌∷◌, ◌++◌, map}
use Rattle.exb_model.specs.declared.setup.Verdict.{Verdict}
use Rattle.exb_model.specs.declared.setup.Verdict.TheVariants as verdict
use Rattle.exb_model.specs.Tree.{Shape, is_extender, level, by_depth}
use Rattle.exb_model.specs.Setup.{Limits}
use Rattle.exb_link.specs.declared.link_frame.LinkFrame.{LinkFrame}
use Rattle.exb_link.specs.LinkFrames.{is_control}
use Rattle.exb_control_spec.specs.PlannedExchanges.{planned}
use Rattle.exb_control_spec.specs.Decisions.{decide}
use Rattle.exb_world_spec.specs.Worlds.{World, Way, Up, Down, Step, Carry, Control, Lose, Beat}
use Rattle.exb_world_spec.specs.Steps.{words_on, Stepped, stepped, all_extenders}

-- ---- whether a world is settled
abbrev pub is_empty : {A : Type 0} → List A → Bool
is_empty [] = true
is_empty (x ∷ xs) = false

abbrev pub are_all : (ℕ → Bool) → List ℕ → Bool
are_all test [] = true
are_all test (n ∷ ns) = test n && are_all test ns

-- nothing is on the link of extender n, and both ends of its transport are idle
abbrev pub is_idle : World → ℕ → Bool
is_idle w n = is_none (w.near n).sending && (is_none (w.far n).ecp.sending
    && (is_empty (w.down n) && is_empty (w.up n)))

abbrev pub is_idle_at : Shape → World → ℕ → Bool
is_idle_at t w n = if is_extender t n then is_idle w n else true

unfoldable pub is_settled : Shape → World → Bool
is_settled t w = is_empty w.control.queue && (is_none w.control.work && are_all (is_idle_at t w) all_extenders)

-- ---- several steps
abbrev pub nothing : World → Stepped
nothing w = record { world = w; events = []; passed = []; left = []; lines = [] }

abbrev pub followed_by : Stepped → Stepped → Stepped
followed_by a b =
    record {
      world = b.world;
      events = a.events ++ b.events;
      passed = a.passed ++ b.passed;
      left = a.left ++ b.left;
      lines = a.lines ++ b.lines;
    }

unfoldable pub run : Shape → Limits → List Step → World → Stepped
run t l [] w = nothing w
run t l (step ∷ steps) w = followed_by (stepped t l step w) (run t l steps (stepped t l step w).world)

-- ---- one direction
abbrev pub first_verdict : List Verdict → Verdict
first_verdict [] = verdict.Pass
first_verdict (v ∷ vs) = v

abbrev pub after_first : List Verdict → List Verdict
after_first [] = []
after_first (v ∷ vs) = vs

-- what is done with the control word at a place
abbrev pub steps_for : ℕ → Way → ℕ → Verdict → List Step
steps_for n way k verdict.Pass = Control n way k false ∷ []
steps_for n way k verdict.Lose = Lose n way k ∷ []
steps_for n way k verdict.Twice = Control n way k true ∷ []
steps_for n way k verdict.Later = []

-- the place of the next one: a word that is lost or delivered once leaves its place
abbrev pub next_place : ℕ → Verdict → ℕ
next_place k verdict.Pass = k
next_place k verdict.Lose = k
next_place k verdict.Twice = k + 1
next_place k verdict.Later = k + 1

-- the steps of a round in one direction, and the verdicts that are left
pub record Gone : Type 0 where
  pub steps : List Step
  pub verdicts : List Verdict

abbrev pub before : List Step → Gone → Gone
before steps g = record { steps = steps ++ g.steps; verdicts = g.verdicts }

-- the words that stand there are gone through once in order
unfoldable pub gone_through : ℕ → Way → ℕ → List LinkFrame → List Verdict → Gone
gone_through n way k [] vs = record { steps = []; verdicts = vs }
gone_through n way k (x ∷ xs) vs =
    if is_control x
    then before (steps_for n way k (first_verdict vs)) (gone_through n way (next_place k (first_verdict vs)) xs
    (after_first vs))
    else before (Carry n way ∷ []) (gone_through n way k xs vs)

-- ---- a round
pub record Direction : Type 0 where
  pub link : ℕ
  pub way : Way

abbrev pub direction : Way → ℕ → Direction
direction way n = record { link = n; way = way }

-- the extenders at depth d or above, the deepest first, then by number
unfoldable pub deepest_first : Shape → ℕ → List ℕ
deepest_first t zero = []
deepest_first t (suc d) = level t (suc d) 64 ++ deepest_first t d

-- the upward directions from the deepest, then the downward ones from the bridge
unfoldable pub directions : Shape → List Direction
directions t = map (direction Up) (deepest_first t 64) ++ map (direction Down) (by_depth t)

-- what was done, and the verdicts that are left
pub record Played : Type 0 where
  pub done : Stepped
  pub verdicts : List Verdict

abbrev pub played_before : Stepped → Played → Played
played_before a p = record { done = followed_by a p.done; verdicts = p.verdicts }

abbrev pub goes_through : Direction → World → List Verdict → Gone
goes_through d w vs = gone_through d.link d.way 0 (words_on d.link d.way w) vs

-- the words that stand in a direction when it is reached
unfoldable pub through_all : Shape → Limits → List Direction → World → List Verdict → Played
through_all t l [] w vs = record { done = nothing w; verdicts = vs }
through_all t l (d ∷ ds) w vs =
    played_before (run t l (goes_through d w vs).steps w)
    (through_all t l ds (run t l (goes_through d w vs).steps w).world (goes_through d w vs).verdicts)

-- all directions, then one beat
unfoldable pub round : Shape → Limits → World → List Verdict → Played
round t l w vs =
    record {
      done = followed_by (through_all t l (directions t) w vs).done
          (stepped t l Beat (through_all t l (directions t) w vs).done.world);
      verdicts = (through_all t l (directions t) w vs).verdicts;
    }

-- ---- settling
-- how many rounds there are at most, with so many verdicts left that aren't Pass and so many exchanges planned
abbrev pub rounds_within : ℕ → ℕ → ℕ
rounds_within b e = 64 * (b + e + 1)

abbrev pub planned_in : Shape → Limits → World → ℕ
planned_in t l w = planned t (decide t l) w.control

-- rounds until it is settled, at most so many
unfoldable pub settled_within : Shape → Limits → ℕ → World → List Verdict → Played
settled_within t l zero w vs = record { done = nothing w; verdicts = vs }
settled_within t l (suc n) w vs =
    if is_settled t w then record { done = nothing w; verdicts = vs }
    else played_before (round t l w vs).done (settled_within t l n (round t l w vs).done.world
    (round t l w vs).verdicts)

-- with a fate that lowers its `left` at most so often
abbrev pub settle : Shape → Limits → ℕ → World → List Verdict → Played
settle t l b w vs = settled_within t l (rounds_within b (planned_in t l w)) w vs

-- Rounds, direction by direction.
use Rattle.std.proofs.Common.{◌≡◌, ℕ, true, false, List, [], ◌∷◌, ◌++◌, map, refl, ap, sym, ◌∙◌}
use Rattle.exb_model.specs.declared.setup.Verdict.{Verdict}
use Rattle.exb_model.specs.Tree.{Shape}
use Rattle.exb_model.specs.Setup.{Limits}
use Rattle.exb_link.specs.declared.link_frame.LinkFrame.{LinkFrame}
use Rattle.exb_link.specs.LinkFrames.{is_control}
use Rattle.exb_world_spec.specs.Worlds.{World, Way, Up, Down, Beat, Step, Carry}
use Rattle.exb_world_spec.specs.Steps.{words_on, stepped, Stepped}
use Rattle.exb_world_spec.specs.Settling.{before, Direction, direction, directions, followed_by, Gone, gone_through, next_place, nothing, Played, played_before, round, run, steps_for, through_all}
use Rattle.exb_world_spec.proofs.Rounds.{run_then}
use Rattle.exb_world.specs.LinkTurns.{order_of}
use Rattle.exb_schedule.specs.Rounds.{goes_along, goes_on, goes_one_way}
use Rattle.exb_schedule.proofs.StepSequences.{played_then}

-- ---- one direction
through_control : (n : ℕ) (way : Way) (k : ℕ) (x : LinkFrame) (xs : List LinkFrame) (v : Verdict) (vs : List Verdict) → is_control x ≡ true →
    gone_through n way k (x ∷ xs) (v ∷ vs) ≡ before (steps_for n way k v) (gone_through n way (next_place k v) xs vs)
unfolding gone_through
through_control n way k x xs v vs e = rw e refl

through_data : (n : ℕ) (way : Way) (k : ℕ) (x : LinkFrame) (xs : List LinkFrame) (vs : List Verdict) → is_control x ≡ false → gone_through n way k (x ∷ xs) vs ≡ before (Carry n way ∷ []) (gone_through n way k xs vs)
unfolding gone_through
through_data n way k x xs vs e = rw e refl

module _ (t : Shape) (l : Limits) where
  -- steps before the rest of a direction
  abbrev on_by : Gone → World → Played
  on_by g w = record { done = run t l g.steps w; verdicts = g.verdicts }

  run_before : (steps : List Step) (g : Gone) (w : World) → on_by (before steps g) w ≡ played_before (run t l steps w) (on_by g (run t l steps w).world)
  run_before steps g w = ap (λ (z : Stepped). record { done = z; verdicts = g.verdicts }) (run_then t l steps g.steps w)

  pub next_control : (n : ℕ) (way : Way) (k : ℕ) (x : LinkFrame) (xs : List LinkFrame) (v : Verdict) (w : World) (vs : List Verdict) → is_control x ≡ true →
      goes_on t l n way k (x ∷ xs) w (v ∷ vs) ≡ played_before (run t l (steps_for n way k v) w) (goes_on t l n way (next_place k v) xs (run t l (steps_for n way k v) w).world vs)
  next_control n way k x xs v w vs e = ap (λ (g : Gone). on_by g w) (through_control n way k x xs v vs e) ∙ run_before (steps_for n way k v) (gone_through n way (next_place k v) xs vs) w

  pub next_data : (n : ℕ) (way : Way) (k : ℕ) (x : LinkFrame) (xs : List LinkFrame) (w : World) (vs : List Verdict) → is_control x ≡ false →
      goes_on t l n way k (x ∷ xs) w vs ≡ played_before (run t l (Carry n way ∷ []) w) (goes_on t l n way k xs (run t l (Carry n way ∷ []) w).world vs)
  next_data n way k x xs w vs e = ap (λ (g : Gone). on_by g w) (through_data n way k x xs vs e) ∙ run_before (Carry n way ∷ []) (gone_through n way k xs vs) w

  pub next_none : (n : ℕ) (way : Way) (k : ℕ) (w : World) (vs : List Verdict) → goes_on t l n way k [] w vs ≡ record { done = nothing w; verdicts = vs }
  unfolding gone_through run
  next_none n way k w vs = refl

  -- ---- all directions
  pub through_next : (d : Direction) (ds : List Direction) (w : World) (vs : List Verdict) →
      through_all t l (d ∷ ds) w vs ≡ played_before (goes_along t l d w vs).done (through_all t l ds (goes_along t l d w vs).done.world (goes_along t l d w vs).verdicts)
  unfolding through_all
  through_next d ds w vs = refl

  pub through_none : (w : World) (vs : List Verdict) → through_all t l [] w vs ≡ record { done = nothing w; verdicts = vs }
  unfolding through_all
  through_none w vs = refl

  -- a direction without a word contributes nothing
  pub through_empty : (d : Direction) (ds : List Direction) (w : World) (vs : List Verdict) → words_on d.link d.way w ≡ [] → through_all t l (d ∷ ds) w vs ≡ through_all t l ds w vs
  unfolding gone_through run
  through_empty d ds w vs e = through_next d ds w vs ∙ rw e refl

  through_both : (xs ys : List Direction) (w : World) (vs : List Verdict) →
      through_all t l (xs ++ ys) w vs ≡ played_before (through_all t l xs w vs).done (through_all t l ys (through_all t l xs w vs).done.world (through_all t l xs w vs).verdicts)
  unfolding through_all
  through_both [] ys w vs = refl
  through_both (d ∷ xs) ys w vs =
      let g : Played = goes_along t l d w vs in
      let p : Played = through_all t l xs g.done.world g.verdicts in
      ap (played_before g.done) (through_both xs ys g.done.world g.verdicts) ∙ played_then g.done p.done (through_all t l ys p.done.world p.verdicts)

  -- ---- a round
  -- what is still to be played of it once the words upwards were gone through, and then those downwards
  abbrev pub then_beat : World → List Verdict → Played
  then_beat w vs = record { done = stepped t l Beat w; verdicts = vs }

  abbrev pub then_down : World → List Verdict → Played
  then_down w vs = played_before (goes_one_way t l Down w vs).done (then_beat (goes_one_way t l Down w vs).done.world (goes_one_way t l Down w vs).verdicts)

  pub round_is : (w : World) (vs : List Verdict) → round t l w vs ≡ played_before (goes_one_way t l Up w vs).done (then_down (goes_one_way t l Up w vs).done.world (goes_one_way t l Up w vs).verdicts)
  unfolding round directions
  round_is w vs =
      let a : Played = goes_one_way t l Up w vs in
      let b : Played = goes_one_way t l Down a.done.world a.verdicts in
      ap (λ (p : Played). record { done = followed_by p.done (stepped t l Beat p.done.world); verdicts = p.verdicts }) (through_both (map (direction Up) (order_of t Up)) (map (direction Down) (order_of t Down)) w vs)
      ∙ sym (played_then a.done b.done (then_beat b.done.world b.verdicts))

-- The opening is played, and one segment after another.
use Rattle.std.proofs.Common.{◌≡◌, ℕ, ◌++◌, Bool, true, false, List, [], ◌∷◌, append_assoc, ap, sym, ◌∙◌, subst}
use Rattle.std.specs.Prelude.{All}
use Rattle.exb_model.specs.declared.event.Event.{Event}
use Rattle.exb_model.specs.declared.setup.Setup.{Setup}
use Rattle.exb_model.specs.declared.setup.Timed.{Timed}
use Rattle.exb_model.specs.Input.{Input, Segment, Mode, basis_of}
use Rattle.exb_model.specs.Input.{tree_of as tree_in, bounds_of as bounds_in}
use Rattle.exb_model.specs.Setup.{Limits, IsValid, shape_of, limits_of, start_of}
use Rattle.exb_model.specs.Traces.{TraceLine}
use Rattle.exb_model.specs.Tree.{Shape}
use Rattle.exb_world_spec.specs.AllowedSteps.{IsSettled}
use Rattle.exb_world_spec.specs.Settling.{followed_by, run}
use Rattle.exb_world_spec.specs.Steps.{Stepped, stepped}
use Rattle.exb_world_spec.specs.TraceLines.{all_told}
use Rattle.exb_world_spec.specs.Worlds.{World, Step, Mark, Left, first_world}
use Rattle.exb_world_spec.proofs.Rounds.{run_then}
use Rattle.exb_world_spec.specs.Runs.SessionLaws.{IsMove}
use Rattle.exb_world_spec.specs.Runs.Sessions.{Each}
use Rattle.exb_world_spec.specs.Runs.ReachedWorlds.{HasVid, MayTake, MayTakeAll}
use Rattle.exb_world_laws.specs.SegmentRuns.{Gives}
use Rattle.exb_world.specs.WorldContracts.{Network, world_of, tree_of, bounds_of, IsQuiet, IsStepped}
use Rattle.exb_bridge.specs.TreeIndexes.{Site, limits_in}
use Rattle.exb_bridge.specs.BridgeWorlds.{all_left}
use Rattle.exb_world_laws.specs.Runs.SegmentRuns.{begin_of}
use Rattle.exb_schedule.specs.StepSequences.{HasRun, HasGone, HasEnded}
use Rattle.exb_model.specs.declared.arrival.Arrival.{Arrival}
use Rattle.exb_schedule.specs.SegmentRuns.{gives, HasPlayed, IsSegment}
use Rattle.exb_schedule.specs.PlayedSegments.{IsPlayedOut}
use Rattle.exb_schedule.proofs.SegmentInput.{gives_in_order, gives_nothing, gives_segment}
use Rattle.exb_schedule.proofs.StepSequences.{run_step, run_steps, told_then}
use Rattle.exb_schedule.proofs.SegmentRuns.{IsOrdered, plays_first, plays_more}

-- ---- settled and marked
pub has_ended : (done : Stepped) (old mid new : Network) → HasGone done old mid → IsSettled (tree_of mid) (world_of mid) → IsStepped Mark mid new → MayTake (tree_of mid) (world_of mid) Mark → HasEnded old new
has_ended done old mid new gone settled marked may =
    let Q : Site → Type 0 = λ s. IsSettled s.tree (world_of mid) in
    record {
      steps = gone.steps;
      moves = gone.moves;
      settled = subst (IsSettled (tree_of old)) gone.made.moved.world (subst Q gone.made.moved.same.site settled);
      made = run_steps gone.steps (Mark ∷ []) old mid new gone.made (run_step Mark mid new marked may);
    }

pub stays_settled : (mid new : Network) → IsSettled (tree_of mid) (world_of mid) → IsStepped Mark mid new → IsSettled (tree_of new) (world_of new)
unfolding stepped
stays_settled mid new settled marked =
    let Q : Site → Type 0 = λ s. IsSettled s.tree (world_of new) in
    subst Q (sym marked.same.site) (subst (IsSettled (tree_of mid)) (sym marked.world) settled)

-- ---- what steps that end so do, from a world
record EndsSo (t : Shape) (l : Limits) (w : World) (steps : List Step) (old new : Network) : Type 0 where
  may : MayTakeAll t l w (steps ++ Mark ∷ [])
  settled : IsSettled t (run t l steps w).world
  world : world_of new ≡ (run t l (steps ++ Mark ∷ []) w).world
  events : new.log.events ≡ old.log.events ++ (run t l (steps ++ Mark ∷ []) w).events
  passed : new.log.passed ≡ old.log.passed ++ (run t l (steps ++ Mark ∷ []) w).passed
  left : all_left new.log.left ≡ all_left old.log.left ++ (run t l (steps ++ Mark ∷ []) w).left
  lines : old.log.tracing ≡ true → new.log.lines ≡ old.log.lines ++ all_told (run t l (steps ++ Mark ∷ []) w).lines
  silent : old.log.tracing ≡ false → new.log.lines ≡ old.log.lines

ends_so : (old new : Network) → (e : HasEnded old new) → EndsSo (tree_of old) (bounds_of old) (world_of old) e.steps old new
ends_so old new e = record { may = e.made.may; settled = e.settled; world = e.made.moved.world; events = e.made.moved.events; passed = e.made.moved.passed; left = e.made.moved.left; lines = e.made.moved.lines; silent = e.made.moved.silent }

ends_after : (xs : List Step) (old mid new : Network) → HasRun xs old mid → (e : HasEnded mid new) → EndsSo (tree_of old) (bounds_of old) (world_of old) (xs ++ e.steps) old new
ends_after xs old mid new r e =
    let t : Shape = tree_of old in
    let l : Limits = bounds_of old in
    let Q : Site → Type 0 = λ s. IsSettled s.tree (run s.tree (limits_in s) e.steps (world_of mid)).world in
    let all : HasRun ((xs ++ e.steps) ++ Mark ∷ []) old new = subst (λ (zs : List Step). HasRun zs old new) (sym (append_assoc xs e.steps (Mark ∷ []))) (run_steps xs (e.steps ++ Mark ∷ []) old mid new r e.made) in
    let here : IsSettled t (run t l e.steps (world_of mid)).world = subst Q r.moved.same.site e.settled in
    let there : IsSettled t (run t l e.steps (run t l xs (world_of old)).world).world = subst (λ (w : World). IsSettled t (run t l e.steps w).world) r.moved.world here in
    record {
      may = all.may;
      settled = subst (λ (z : Stepped). IsSettled t z.world) (sym (run_then t l xs e.steps (world_of old))) there;
      world = all.moved.world;
      events = all.moved.events;
      passed = all.moved.passed;
      left = all.moved.left;
      lines = all.moved.lines;
      silent = all.moved.silent;
    }

-- steps were made, and it ended
pub played_out : (xs : List Step) (old mid new : Network) → HasRun xs old mid → HasEnded mid new → IsPlayedOut xs old new
played_out xs old mid new r e = record {
  moves = e.steps;
  only = e.moves;
  settled = (ends_after xs old mid new r e).settled;
  made = subst (λ (zs : List Step). HasRun zs old new) (sym (append_assoc xs e.steps (Mark ∷ []))) (run_steps xs (e.steps ++ Mark ∷ []) old mid new r e.made);
}

-- from the world of an input
moved_to : (t v : Shape) (l m : Limits) (w u : World) (steps : List Step) (old new : Network) → t ≡ v → l ≡ m → w ≡ u → EndsSo t l w steps old new → EndsSo v m u steps old new
moved_to t v l m w u steps old new e f g k =
    subst (λ (z : World). EndsSo v m z steps old new) g (subst (λ (z : Limits). EndsSo v z w steps old new) f (subst (λ (z : Shape). EndsSo z l w steps old new) e k))

-- ---- the opening
pub opened : (m : Mode) (i : Input) (s : Setup) (begin new : Network) → i.setup ≡ s → IsValid s → All HasVid s.start → world_of begin ≡ first_world (shape_of s) (limits_of s) (start_of s) s.ageing → tree_of begin ≡ shape_of s →
    bounds_of begin ≡ limits_of s → IsQuiet begin → HasEnded begin new → HasPlayed m i [] new new.log.events new.log.passed (all_left new.log.left) new.log.lines
opened m i s begin new is valid vids world tree limits quiet e =
    let steps : List Step = e.steps in
    let k : EndsSo (tree_in i) (bounds_in i) (begin_of i) e.steps begin new =
    moved_to _ _ _ _ _ _ e.steps begin new (tree ∙ sym (ap shape_of is)) (limits ∙ sym (ap limits_of is)) (world ∙ sym (ap (λ (z : Setup). first_world (shape_of z) (limits_of z) (start_of z) z.ageing) is)) (ends_so begin new e) in
    record {
      done = run (tree_in i) (bounds_in i) (e.steps ++ Mark ∷ []) (begin_of i);
      plays = plays_first m i e.steps (subst IsValid (sym is) valid) (subst (λ (z : Setup). All HasVid z.start) (sym is) vids) k.may (record { gives = gives_nothing i e.steps e.moves; settled = k.settled });
      tree = ap (λ (z : Site). z.tree) e.made.moved.same.site ∙ (tree ∙ sym (ap shape_of is));
      limits = ap limits_in e.made.moved.same.site ∙ (limits ∙ sym (ap limits_of is));
      world = k.world;
      told = k.events ∙ ap (λ (es : List Event). es ++ (run (tree_in i) (bounds_in i) (e.steps ++ Mark ∷ []) (begin_of i)).events) quiet.events;
      said = k.passed ∙ ap (λ (bs : List Bool). bs ++ (run (tree_in i) (bounds_in i) (e.steps ++ Mark ∷ []) (begin_of i)).passed) quiet.passed;
      gone = k.left ∙ ap (λ (xs : List _). all_left xs ++ (run (tree_in i) (bounds_in i) (e.steps ++ Mark ∷ []) (begin_of i)).left) quiet.left;
      traced = λ on.
          k.lines (sym e.made.moved.same.tracing ∙ on)
          ∙ ap (λ (es : List TraceLine). es ++ all_told (run (tree_in i) (bounds_in i) (e.steps ++ Mark ∷ []) (begin_of i)).lines) quiet.lines;
      silent = λ off. k.silent (sym e.made.moved.same.tracing ∙ off) ∙ quiet.lines;
    }

-- ---- one segment more
-- by steps that give it, whatever moves come after them
pub record GivesIt (m : Mode) (i : Input) (s : Segment) (xs : List Step) : Type 0 where
  pub gives : (moves : List Step) → Each IsMove moves → Gives (basis_of i) s (xs ++ moves)
  pub ordered : (moves : List Step) → IsOrdered m s (xs ++ moves)

pub in_order : (m : Mode) (i : Input) (s : Segment) (seconds : ℕ) (cs : List Timed) (frames : List Arrival) → IsSegment i s seconds cs frames → GivesIt m i s (gives seconds cs frames)
in_order m i s seconds cs frames is = record { gives = λ moves only. gives_segment i s seconds cs frames moves is only; ordered = λ moves. gives_in_order m i s seconds cs frames is moves }

pub played_more : (m : Mode) (i : Input) (so_far : List Segment) (s : Segment) (xs : List Step) (old mid new : Network) (events : List Event) (passed : List Bool) (left : List Left) (lines : List TraceLine) → GivesIt m i s xs →
    HasRun xs old mid → HasEnded mid new → HasPlayed m i so_far old (events ++ old.log.events) (passed ++ old.log.passed) (left ++ all_left old.log.left) (lines ++ old.log.lines) →
    HasPlayed m i (so_far ++ s ∷ []) new (events ++ new.log.events) (passed ++ new.log.passed) (left ++ all_left new.log.left) (lines ++ new.log.lines)
played_more m i so_far s xs old mid new events passed left lines is r e k =
    let z : EndsSo (tree_in i) (bounds_in i) k.done.world (xs ++ e.steps) old new = moved_to _ _ _ _ _ _ (xs ++ e.steps) old new k.tree k.limits k.world (ends_after xs old mid new r e) in
    let more : Stepped = run (tree_in i) (bounds_in i) ((xs ++ e.steps) ++ Mark ∷ []) k.done.world in
    let before : old.log.tracing ≡ new.log.tracing = sym r.moved.same.tracing ∙ sym e.made.moved.same.tracing in
    record {
      done = followed_by k.done (run (tree_in i) (bounds_in i) ((xs ++ e.steps) ++ Mark ∷ []) k.done.world);
      plays = plays_more m i so_far k.done s (xs ++ e.steps) k.plays z.may (record { gives = is.gives e.steps e.moves; settled = z.settled }) (is.ordered e.steps);
      tree = ap (λ (x : Site). x.tree) (e.made.moved.same.site ∙ r.moved.same.site) ∙ k.tree;
      limits = ap limits_in (e.made.moved.same.site ∙ r.moved.same.site) ∙ k.limits;
      world = z.world;
      told = ap (λ (es : List Event). events ++ es) z.events ∙ (sym (append_assoc events old.log.events more.events) ∙ ap (λ (es : List Event). es ++ more.events) k.told);
      said = ap (λ (bs : List Bool). passed ++ bs) z.passed ∙ (sym (append_assoc passed old.log.passed more.passed) ∙ ap (λ (bs : List Bool). bs ++ more.passed) k.said);
      gone = ap (λ (xs : List Left). left ++ xs) z.left ∙ (sym (append_assoc left (all_left old.log.left) more.left) ∙ ap (λ (xs : List Left). xs ++ more.left) k.gone);
      traced = λ on.
          ap (λ (es : List TraceLine). lines ++ es) (z.lines (before ∙ on))
          ∙ (sym (append_assoc lines old.log.lines (all_told more.lines))
          ∙ (ap (λ (es : List TraceLine). es ++ all_told more.lines) (k.traced (before ∙ on)) ∙ sym (told_then k.done.lines more.lines)));
      silent = λ off. ap (λ (es : List TraceLine). lines ++ es) (z.silent (before ∙ off)) ∙ k.silent (before ∙ off);
    }

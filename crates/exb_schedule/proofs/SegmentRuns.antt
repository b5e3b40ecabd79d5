-- A run that plays one segment more.
use Rattle.std.proofs.Common.{◌≡◌, ◌++◌, List, [], ◌∷◌, append_assoc, append-nil, refl, ap, sym, ◌∙◌, subst}
use Rattle.std.specs.Prelude.{All}
use Rattle.exb_model.specs.History.{Basis}
use Rattle.exb_model.specs.Input.{Input, Segment, Mode, Eager, Seeded, basis_of, tree_of, bounds_of}
use Rattle.exb_model.specs.Lists.{Pairwise}
use Rattle.exb_model.specs.Setup.{Limits, IsValid}
use Rattle.exb_model.specs.Tree.{Shape}
use Rattle.exb_world_spec.specs.Settling.{followed_by, run}
use Rattle.exb_world_spec.specs.Steps.{Stepped}
use Rattle.exb_world_spec.specs.Worlds.{World, Step, Carry, Control, Lose, Beat, Arrive, Tick, Order, Mark}
use Rattle.exb_world_spec.specs.Runs.SessionLaws.{IsMove}
use Rattle.exb_world_spec.specs.Runs.Sessions as machine
use Rattle.exb_world_spec.proofs.Rounds.{run_then}
use Rattle.exb_flight.specs.Items.{Each}
use Rattle.exb_world_laws.specs.WorldInvariant.{given_in}
use Rattle.exb_world_spec.specs.Runs.ReachedWorlds.{HasVid, MayTakeAll}
use Rattle.exb_world_laws.specs.SegmentRuns.{seconds_in, IsUnmarked, Plays, PlayAll, IsEager, marked_each, nothing_given}
use Rattle.exb_world_laws.specs.Runs.SegmentRuns.{begin_of, AreOrdered, PlaysIn}
use Rattle.exb_schedule.proofs.Runs.{take_then}

-- ---- marks
marked_then : (plays : List (List Step)) (xs : List Step) → marked_each (plays ++ xs ∷ []) ≡ marked_each plays ++ (xs ++ Mark ∷ [])
marked_then [] xs = append-nil (xs ++ Mark ∷ [])
marked_then (ys ∷ plays) xs = ap (λ (zs : List Step). (ys ++ Mark ∷ []) ++ zs) (marked_then plays xs) ∙ sym (append_assoc (ys ++ Mark ∷ []) (marked_each plays) (xs ++ Mark ∷ []))

-- ---- one more
play_then : (t : Shape) (l : Limits) (b : Basis) (ss : List Segment) (plays : List (List Step)) (s : Segment) (xs : List Step) (w : World) → PlayAll t l b w ss plays →
    Plays t l b s (run t l (marked_each plays) w).world xs → PlayAll t l b w (ss ++ s ∷ []) (plays ++ xs ∷ [])
unfolding run
play_then t l b [] [] s xs w all one = (one, tt)
play_then t l b [] (ys ∷ plays) s xs w all one = absurd all
play_then t l b (r ∷ ss) [] s xs w all one = absurd all
play_then t l b (r ∷ ss) (ys ∷ plays) s xs w all one =
    (all.0, play_then t l b ss plays s xs (run t l (ys ++ Mark ∷ []) w).world all.1 (subst (λ (z : Stepped). Plays t l b s z.world xs) (run_then t l (ys ++ Mark ∷ []) (marked_each plays) w) one))

eager_then : (ss : List Segment) (plays : List (List Step)) (s : Segment) (xs : List Step) → Pairwise IsEager ss plays → IsEager s xs → Pairwise IsEager (ss ++ s ∷ []) (plays ++ xs ∷ [])
eager_then [] [] s xs all one = (one, tt)
eager_then [] (ys ∷ plays) s xs all one = absurd all
eager_then (r ∷ ss) [] s xs all one = absurd all
eager_then (r ∷ ss) (ys ∷ plays) s xs all one = (all.0, eager_then ss plays s xs all.1 one)

-- what a mode asks of one segment
abbrev pub IsOrdered : Mode → Segment → List Step → Type 0
IsOrdered Eager s xs = IsEager s xs
IsOrdered Seeded s xs = Unit {0}

ordered_then : (m : Mode) (ss : List Segment) (plays : List (List Step)) (s : Segment) (xs : List Step) → AreOrdered m ss plays → IsOrdered m s xs → AreOrdered m (ss ++ s ∷ []) (plays ++ xs ∷ [])
ordered_then Eager ss plays s xs all one = eager_then ss plays s xs all one
ordered_then Seeded ss plays s xs all one = tt

ordered_none : (m : Mode) → AreOrdered m [] []
ordered_none Eager = tt
ordered_none Seeded = tt

pub plays_more : (m : Mode) (i : Input) (ss : List Segment) (done : Stepped) (s : Segment) (xs : List Step) → PlaysIn m i ss done → MayTakeAll (tree_of i) (bounds_of i) done.world (xs ++ Mark ∷ []) →
    Plays (tree_of i) (bounds_of i) (basis_of i) s done.world xs → IsOrdered m s xs → PlaysIn m i (ss ++ s ∷ []) (followed_by done (run (tree_of i) (bounds_of i) (xs ++ Mark ∷ []) done.world))
plays_more m i ss done s xs k may one ordered =
    let t : Shape = tree_of i in
    let l : Limits = bounds_of i in
    let w : World = begin_of i in
    let all : List (List Step) = k.first ∷ k.plays in
    let at : done.world ≡ (run t l (marked_each (k.first ∷ k.plays)) w).world = ap (λ (z : Stepped). z.world) k.is in
    record {
      first = k.first;
      plays = k.plays ++ xs ∷ [];
      valid = k.valid;
      vids = k.vids;
      may = subst (MayTakeAll t l w) (sym (marked_then (k.first ∷ k.plays) xs))
          (take_then t l (marked_each (k.first ∷ k.plays)) (xs ++ Mark ∷ []) w k.may (subst (λ (v : World). MayTakeAll t l v (xs ++ Mark ∷ [])) at may));
      play = play_then t l (basis_of i) (nothing_given ∷ ss) (k.first ∷ k.plays) s xs w k.play (subst (λ (v : World). Plays t l (basis_of i) s v xs) at one);
      eager = ordered_then m ss k.plays s xs k.eager ordered;
      is = ap (λ (z : Stepped). followed_by z (run t l (xs ++ Mark ∷ []) z.world)) k.is
          ∙ (sym (run_then t l (marked_each (k.first ∷ k.plays)) (xs ++ Mark ∷ []) w) ∙ ap (λ (zs : List Step). run t l zs w) (sym (marked_then (k.first ∷ k.plays) xs)));
    }

pub plays_first : (m : Mode) (i : Input) (xs : List Step) → IsValid i.setup → All HasVid i.setup.start → MayTakeAll (tree_of i) (bounds_of i) (begin_of i) (xs ++ Mark ∷ []) →
    Plays (tree_of i) (bounds_of i) (basis_of i) nothing_given (begin_of i) xs → PlaysIn m i [] (run (tree_of i) (bounds_of i) (xs ++ Mark ∷ []) (begin_of i))
plays_first m i xs valid vids may one =
    record {
      first = xs;
      plays = [];
      valid = valid;
      vids = vids;
      may = subst (MayTakeAll (tree_of i) (bounds_of i) (begin_of i)) (sym (append-nil (xs ++ Mark ∷ []))) may;
      play = (one, tt);
      eager = ordered_none m;
      is = ap (λ (zs : List Step). run (tree_of i) (bounds_of i) zs (begin_of i)) (sym (append-nil (xs ++ Mark ∷ [])));
    }

-- ---- moves give nothing
pub moves_give_nothing : (xs : List Step) → machine.Each IsMove xs → (seconds_in xs ≡ []) × (given_in xs ≡ []) × Each IsUnmarked xs
moves_give_nothing [] k = (refl, refl, tt)
moves_give_nothing (Carry n way ∷ xs) k = (let r = moves_give_nothing xs k.1 in (r.0, r.1, (tt, r.2)))
moves_give_nothing (Control n way j keep ∷ xs) k = (let r = moves_give_nothing xs k.1 in (r.0, r.1, (tt, r.2)))
moves_give_nothing (Lose n way j ∷ xs) k = (let r = moves_give_nothing xs k.1 in (r.0, r.1, (tt, r.2)))
moves_give_nothing (Beat ∷ xs) k = (let r = moves_give_nothing xs k.1 in (r.0, r.1, (tt, r.2)))
moves_give_nothing (Arrive a ∷ xs) k = absurd k.0
moves_give_nothing (Tick seconds ∷ xs) k = absurd k.0
moves_give_nothing (Order c ∷ xs) k = absurd k.0
moves_give_nothing (Mark ∷ xs) k = absurd k.0

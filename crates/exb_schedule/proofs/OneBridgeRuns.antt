-- What any steps leave of a network: the laws of the machine, said of networks.
use Rattle.std.proofs.Common.{◌≡◌, ◌++◌, Bool, List, [], ◌∷◌, append-nil, ap, sym, ◌∙◌, subst, arith}
use Rattle.std.proofs.lemmas.List.{append_cancel_left}
use Rattle.exb_model.specs.declared.event.Event.{Event}
use Rattle.exb_model.specs.declared.setup.Setup.{Setup}
use Rattle.exb_model.specs.declared.setup.Verdict.{Verdict}
use Rattle.exb_model.specs.History.{Basis, History, ◌then◌}
use Rattle.exb_model.specs.Input.{tree_of as tree_in, bounds_of as bounds_in}
use Rattle.exb_model.specs.Setup.{Limits, limits_of, shape_of}
use Rattle.exb_model.specs.Tree.{Shape, IsTree}
use Rattle.exb_world_spec.specs.AllowedSteps.{IsSettled}
use Rattle.exb_world_spec.specs.Settling.{Played, round, run}
use Rattle.exb_world_spec.specs.Steps.{Stepped}
use Rattle.exb_world_spec.specs.Worlds.{World, Step, Left, left_at}
use Rattle.exb_world_spec.specs.Runs.SessionLaws.{IsMove}
use Rattle.exb_world_spec.specs.Runs.PassedFrames.{passed_over}
use Rattle.exb_world_spec.specs.Runs.Sessions.{Each}
use Rattle.exb_world.specs.WorldContracts.{Network, world_of, tree_of, bounds_of}
use Rattle.exb_bridge.specs.TreeIndexes.{Site, limits_in}
use Rattle.exb_bridge.specs.BridgeWorlds.{all_left}
use Rattle.exb_flight.specs.Promises.{IsClean}
use Rattle.exb_world_laws.specs.WorldInput.{Given, given_by, arrivals_of, basis_with}
use Rattle.exb_world_laws.specs.WorldInvariant.{basis_of, given_in}
use Rattle.exb_world_laws.specs.OneBridgeSteps.{IsGiving, IsOneEvent, StandsOwesNothing, told_of}
use Rattle.exb_world_laws.specs.OneBridge.{Stands}
use Rattle.exb_settling_laws.specs.SettlingBound.{costs}
use Rattle.exb_world_laws.specs.Runs.Crossings.{IsAlone}
use Rattle.exb_settling_laws.specs.Rounds.{IsGoneThrough, IsWhole, RoundsAreWhole}
use Rattle.exb_world_spec.specs.Runs.ReachedWorlds.{MayTakeAll, reached_by}
use Rattle.exb_world_laws.specs.Runs.OneBridge.{IsCopyOut, IsLasting, IsLastingWith, IsPlayedStanding, RunsLast, EventsLast, PlaysStand}
use Rattle.exb_schedule.specs.OneBridgeRuns.{EventsGoOn, PlayedStands, RoundsAreWholeOn, RunsStayStanding, SettledOwes}
use Rattle.exb_schedule.specs.StepSequences.{HasRun, IsMoved}
use Rattle.exb_schedule.specs.ReachedWorlds.{Reached}
use Rattle.exb_schedule.specs.OneBridge.{IsStanding}
use Rattle.exb_schedule.proofs.StepSequences.{gone_world}

-- ---- what was added
module _ (done : Stepped) (old new : Network) (moved : IsMoved done old new) where
  events_are : (es : List Event) → new.log.events ≡ old.log.events ++ es → done.events ≡ es
  events_are es e = append_cancel_left old.log.events done.events es (sym moved.events ∙ e)

  said_is : (bs : List Bool) → new.log.passed ≡ old.log.passed ++ bs → done.passed ≡ bs
  said_is bs e = append_cancel_left old.log.passed done.passed bs (sym moved.passed ∙ e)

  gone_are : (gone : List Left) → all_left new.log.left ≡ all_left old.log.left ++ gone → done.left ≡ gone
  gone_are gone e = append_cancel_left (all_left old.log.left) done.left gone (sym moved.left ∙ e)

  -- the world of the machine stands, so the network does
  stands_new : (i : Basis) (g : List Given) (h : History) (left : List Left) (es : List Event) (gone : List Left) → done.events ≡ es → done.left ≡ gone →
      Stands (tree_of old) (bounds_of old) i done.world g (h then done.events) (left ++ done.left) → IsStanding i new g (h then es) (left ++ gone)
  stands_new i g h left es gone e f s =
      let P : Site → Type 0 = λ x. Stands x.tree (limits_in x) i (world_of new) g (h then es) (left ++ gone) in
      subst P (sym moved.same.site)
      (subst (λ (w : World). Stands (tree_of old) (bounds_of old) i w g (h then es) (left ++ gone)) (sym moved.world)
      (subst (λ (xs : List Event). Stands (tree_of old) (bounds_of old) i done.world g (h then xs) (left ++ gone)) e
      (subst (λ (xs : List Left). Stands (tree_of old) (bounds_of old) i done.world g (h then done.events) (left ++ xs)) f s)))

  clean_new : IsClean (tree_of old) done.world → IsClean (tree_of new) (world_of new)
  clean_new c =
      let P : Site → Type 0 = λ x. IsClean x.tree (world_of new) in
      subst P (sym moved.same.site) (subst (IsClean (tree_of old)) (sym moved.world) c)

-- ---- any steps
-- of the world that is reached
reached_takes : (old : Network) (k : Reached old) (steps : List Step) → MayTakeAll (tree_of old) (bounds_of old) (world_of old) steps → MayTakeAll (shape_of k.setup) (limits_of k.setup) (reached_by k.setup k.steps) steps
reached_takes old k steps may =
    subst (λ (w : World). MayTakeAll (shape_of k.setup) (limits_of k.setup) w steps) k.world
    (subst (λ (b : Limits). MayTakeAll (shape_of k.setup) b (world_of old) steps) k.limits (subst (λ (a : Shape). MayTakeAll a (bounds_of old) (world_of old) steps) k.tree may))

lasting_here : RunsLast → (old : Network) → Reached old → (steps : List Step) → MayTakeAll (tree_of old) (bounds_of old) (world_of old) steps → IsLasting (tree_of old) (bounds_of old) (world_of old) steps
lasting_here law old k steps may =
    subst (λ (a : Shape). IsLasting a (bounds_of old) (world_of old) steps) (sym k.tree)
    (subst (λ (b : Limits). IsLasting (shape_of k.setup) b (world_of old) steps) (sym k.limits)
    (subst (λ (w : World). IsLasting (shape_of k.setup) (limits_of k.setup) w steps) (sym k.world) (law k.setup k.steps steps k.valid k.vids k.may (reached_takes old k steps may))))

pub runs_stay_standing : RunsLast → RunsStayStanding
runs_stay_standing law steps old new k r =
    let done : Stepped = run (tree_of old) (bounds_of old) steps (world_of old) in
    let last : IsLasting (tree_of old) (bounds_of old) (world_of old) steps = lasting_here law old k steps r.may in
    record {
      with = λ i aged g h left stood.
          let x : IsLastingWith (tree_of old) (bounds_of old) (world_of old) steps i g h left = last.with i aged g h left stood in
          record {
            stands = λ es gone told goes. stands_new done old new r.moved i (g ++ given_in steps) h left es gone (events_are done old new r.moved es told) (gone_are done old new r.moved gone goes) x.stands;
            passed = λ es said told says.
                sym (said_is done old new r.moved said says) ∙ (x.passed ∙ ap (λ (xs : List Event). passed_over (basis_with i (g ++ given_in steps)) h xs) (events_are done old new r.moved es told));
            copies = λ gone goes. subst (λ (xs : List Left). Each (IsCopyOut (tree_of old) (arrivals_of (g ++ given_in steps))) xs) (gone_are done old new r.moved gone goes) x.copies;
          };
      clean = clean_new done old new r.moved last.clean;
      ageing = ap (λ (w : World). w.table.ageing) r.moved.world ∙ last.ageing;
    }

pub played_stands : PlaysStand → PlayedStands
played_stands law m i so_far n events passed left lines k =
    let x : IsPlayedStanding i so_far k.done = law m i so_far k.done k.plays in
    let b : Basis = basis_of i.setup in
    record {
      given = x.given;
      commands = x.commands;
      arrivals = x.arrivals;
      stands =
          subst (λ (a : Shape). Stands a (bounds_of n) b (world_of n) x.given ([] then events) left) (sym k.tree)
          (subst (λ (l : Limits). Stands (tree_in i) l b (world_of n) x.given ([] then events) left) (sym k.limits)
          (subst (λ (w : World). Stands (tree_in i) (bounds_in i) b w x.given ([] then events) left) (sym k.world)
          (subst (λ (es : List Event). Stands (tree_in i) (bounds_in i) b k.done.world x.given ([] then es) left) (sym k.told)
          (subst (λ (xs : List Left). Stands (tree_in i) (bounds_in i) b k.done.world x.given ([] then k.done.events) xs) (sym k.gone) x.stands))));
      clean = subst (λ (a : Shape). IsClean a (world_of n)) (sym k.tree) (subst (IsClean (tree_in i)) (sym k.world) x.clean);
    }

-- ---- a settled network
tree_here : (n : Network) → Reached n → IsTree (tree_of n)
tree_here n k = subst IsTree (sym k.tree) k.valid.tree

pub settled_owes : StandsOwesNothing → SettledOwes
settled_owes law n k settled i g h left stood q ext = law (tree_of n) (bounds_of n) i (tree_here n k) (world_of n) g h left stood settled q ext

one_here : EventsLast → (step : Step) (moves : List Step) (old new : Network) (k : Reached old) → IsGiving step → Each IsMove moves → IsSettled (tree_of old) (world_of old) → HasRun (step ∷ moves) old new →
    IsSettled (tree_of new) (world_of new) → (i : Basis) → i.ageing ≡ (world_of old).table.ageing → (g : List Given) (h : History) (left : List Left) → IsStanding i old g h left →
    IsOneEvent (tree_of old) (bounds_of old) i (world_of old) g h left step moves
one_here law step moves old new k gives only settled r after i aged g h left stood =
    let s : Setup = k.setup in
    let t : Shape = shape_of s in
    let l : Limits = limits_of s in
    let v : World = reached_by s k.steps in
    let ends : IsSettled (tree_of old) (run (tree_of old) (bounds_of old) (step ∷ moves) (world_of old)).world =
    subst (IsSettled (tree_of old)) r.moved.world (subst (λ (x : Site). IsSettled x.tree (world_of new)) r.moved.same.site after) in
    let P : Shape → Limits → World → Type 0 = λ a b w. IsSettled a w × IsSettled a (run a b (step ∷ moves) w).world × (i.ageing ≡ w.table.ageing) × Stands a b i w g h left in
    let here : P (tree_of old) (bounds_of old) (world_of old) = (settled, ends, aged, stood) in
    let there : P t l v = subst (P t l) k.world (subst (λ (b : Limits). P t b (world_of old)) k.limits (subst (λ (a : Shape). P a (bounds_of old) (world_of old)) k.tree here)) in
    let alone : IsAlone s k.steps step moves = record {
      valid = k.valid;
      vids = k.vids;
      reached = k.may;
      settled = there.0;
      may = reached_takes old k (step ∷ moves) r.may;
      moves_alone = only;
      after = there.1;
    } in
    let one : IsOneEvent t l i v g h left step moves = law s k.steps step moves gives alone i there.2 g h left there.3 in
    subst (λ (a : Shape). IsOneEvent a (bounds_of old) i (world_of old) g h left step moves) (sym k.tree)
    (subst (λ (b : Limits). IsOneEvent t b i (world_of old) g h left step moves) (sym k.limits) (subst (λ (w : World). IsOneEvent t l i w g h left step moves) (sym k.world) one))

pub events_go_on : EventsLast → EventsGoOn
events_go_on law step moves old new k gives only settled r after i aged g h left stood =
    let t : Shape = tree_of old in
    let l : Limits = bounds_of old in
    let done : Stepped = run t l (step ∷ moves) (world_of old) in
    let one : IsOneEvent t l i (world_of old) g h left step moves = one_here law step moves old new k gives only settled r after i aged g h left stood in
    record {
      told = r.moved.events ∙ ap (λ (es : List Event). old.log.events ++ es) one.told;
      stands = λ gone goes.
          stands_new done old new r.moved i (g ++ given_by step) h left (told_of t l (world_of old) step ∷ []) gone one.told (gone_are done old new r.moved gone goes)
          (subst (λ (es : List Event). Stands t l i done.world (g ++ given_by step) (h then es) (left ++ done.left)) (sym one.told) one.stands);
      leaves = λ gone goes q ext. ap (λ (xs : List Left). left_at q xs) (sym (gone_are done old new r.moved gone goes)) ∙ one.leaves q ext;
    }

-- ---- rounds
pub rounds_are_whole_on : RoundsAreWhole → RoundsAreWholeOn
rounds_are_whole_on law before left old new k asked =
    let t : Shape = tree_of old in
    let l : Limits = bounds_of old in
    let w : World = world_of old in
    let vs : List Verdict = asked.asked ++ [] in
    let x : IsWhole t l w vs = law t l (tree_here old k) w vs in
    let played : round t l w vs ≡ record { done = asked.done; verdicts = [] } = asked.is [] in
    let same : asked.done ≡ run t l x.steps w = sym (ap (λ (p : Played). p.done) played) ∙ x.is in
    let ends : world_of new ≡ (round t l w vs).done.world = gone_world asked.done old new asked.gone ∙ sym (ap (λ (p : Played). p.done.world) played) in
    let spent = x.few in
    let none = ap (λ (p : Played). costs p.verdicts) played in
    let all = ap costs (append-nil asked.asked) in
    let paid = asked.paid in
    record {
      steps = x.steps;
      moves = x.moves;
      moved = subst (λ (z : Stepped). IsMoved z old new) (sym asked.gone.is ∙ same) asked.gone.made.moved;
      beats = ap (λ (v : World). v.beats) ends ∙ x.beats;
      stood = x.stood;
      gone = λ n way there. subst (IsGoneThrough n way (x.stood way n) w) (sym ends) (x.gone n way there);
      few = omega (arith, spent, none, all, paid);
    }

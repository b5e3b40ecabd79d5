-- How what a network does is put together.
use Rattle.std.proofs.Common.{◌≡◌, ◌++◌, ℕ, ◌+◌, ◌≤◌, List, [], append_assoc, append-nil, refl, ap, sym, ◌∙◌, subst, ◌∷◌, arith}
use Rattle.exb_model.specs.declared.event.Event.{Event}
use Rattle.exb_model.specs.declared.setup.Verdict.{Verdict}
use Rattle.exb_model.specs.Setup.{Limits}
use Rattle.exb_model.specs.Traces.{TraceLine}
use Rattle.exb_model.specs.Tree.{Shape}
use Rattle.exb_world_spec.specs.Settling.{nothing, followed_by, run, Played, played_before}
use Rattle.exb_world_spec.specs.Steps.{Stepped, stepped}
use Rattle.exb_world_spec.specs.TraceLines.{told, all_told}
use Rattle.exb_world_spec.specs.Worlds.{World, Step, Left, Line}
use Rattle.exb_world_spec.specs.Runs.SessionLaws.{IsMove}
use Rattle.exb_world_spec.proofs.Rounds.{run_then}
use Rattle.exb_world_spec.proofs.LinkFrames.{each_append}
use Rattle.exb_world.specs.WorldContracts.{Network, world_of, tree_of, bounds_of, IsSame, IsStepped}
use Rattle.exb_bridge.specs.TreeIndexes.{Site, limits_in}
use Rattle.exb_bridge.specs.BridgeWorlds.{all_left}
use Rattle.exb_settling_laws.specs.SettlingBound.{costs}
use Rattle.exb_world_spec.specs.Runs.ReachedWorlds.{MayTake, MayTakeAll}
use Rattle.exb_schedule.specs.StepSequences.{IsMoved, HasRun, HasGone}
use Rattle.exb_schedule.specs.Rounds.{HasAsked, Leads}
use Rattle.exb_schedule.proofs.Runs.{then_nothing, then_then, one_step, take_then}

-- ---- memory and what never changes stay
pub same_then : (a b c : Network) → IsSame a b → IsSame b c → IsSame a c
same_then a b c x y = record { site = y.site ∙ x.site; failed = y.failed ∙ x.failed; tracing = y.tracing ∙ x.tracing }

pub told_then : (xs ys : List Line) → all_told (xs ++ ys) ≡ all_told xs ++ all_told ys
told_then [] ys = refl
told_then (x ∷ xs) ys = ap (λ (zs : List TraceLine). told x ∷ zs) (told_then xs ys)

-- ---- what was done
moved_nothing : (n : Network) → IsMoved (nothing (world_of n)) n n
moved_nothing n =
    record {
      world = refl;
      events = sym (append-nil n.log.events);
      passed = sym (append-nil n.log.passed);
      left = sym (append-nil (all_left n.log.left));
      lines = λ on. sym (append-nil n.log.lines);
      silent = λ off. refl;
      same = record { site = refl; failed = refl; tracing = refl };
    }

pub moved_then : (a b : Stepped) (old mid new : Network) → IsMoved a old mid → IsMoved b mid new → IsMoved (followed_by a b) old new
moved_then a b old mid new x y =
    record {
      world = y.world;
      events = y.events ∙ (ap (λ (es : List Event). es ++ b.events) x.events ∙ append_assoc old.log.events a.events b.events);
      passed = y.passed ∙ (ap (λ (es : List _). es ++ b.passed) x.passed ∙ append_assoc old.log.passed a.passed b.passed);
      left = y.left ∙ (ap (λ (es : List Left). es ++ b.left) x.left ∙ append_assoc (all_left old.log.left) a.left b.left);
      lines = λ on.
          y.lines (x.same.tracing ∙ on)
          ∙ (ap (λ (es : List TraceLine). es ++ all_told b.lines) (x.lines on)
          ∙ (append_assoc old.log.lines (all_told a.lines) (all_told b.lines) ∙ ap (λ (es : List TraceLine). old.log.lines ++ es) (sym (told_then a.lines b.lines))));
      silent = λ off. y.silent (x.same.tracing ∙ off) ∙ x.silent off;
      same = same_then old mid new x.same y.same;
    }

-- ---- steps
pub run_nothing : (n : Network) → HasRun [] n n
unfolding run
run_nothing n = record { may = tt; moved = moved_nothing n }

pub run_step : (step : Step) (old new : Network) → IsStepped step old new → MayTake (tree_of old) (world_of old) step → HasRun (step ∷ []) old new
run_step step old new x may =
    record {
      may = (may, tt);
      moved = subst (λ (z : Stepped). IsMoved z old new) (sym (one_step (tree_of old) (bounds_of old) step (world_of old)))
          (record { world = x.world; events = x.events; passed = x.passed; left = x.left; lines = x.lines; silent = x.silent; same = x.same });
    }

pub run_steps : (xs ys : List Step) (old mid new : Network) → HasRun xs old mid → HasRun ys mid new → HasRun (xs ++ ys) old new
run_steps xs ys old mid new x y =
    let t : Shape = tree_of old in
    let l : Limits = bounds_of old in
    let P : Site → Type 0 = λ s. MayTakeAll s.tree (limits_in s) (world_of mid) ys in
    let Q : Site → Type 0 = λ s. IsMoved (run s.tree (limits_in s) ys (world_of mid)) mid new in
    let may : MayTakeAll t l (world_of mid) ys = subst P x.moved.same.site y.may in
    let moved : IsMoved (run t l ys (world_of mid)) mid new = subst Q x.moved.same.site y.moved in
    let ahead : IsMoved (run t l ys (run t l xs (world_of old)).world) mid new = subst (λ (w : World). IsMoved (run t l ys w) mid new) x.moved.world moved in
    record {
      may = take_then t l xs ys (world_of old) x.may (subst (λ (w : World). MayTakeAll t l w ys) x.moved.world may);
      moved = subst (λ (z : Stepped). IsMoved z old new) (sym (run_then t l xs ys (world_of old)))
          (moved_then (run t l xs (world_of old)) (run t l ys (run t l xs (world_of old)).world) old mid new x.moved ahead);
    }

-- ---- moves alone
unfoldable pub gone_nothing : (n : Network) → HasGone (nothing (world_of n)) n n
unfolding run
gone_nothing n = record { steps = []; moves = tt; is = refl; made = run_nothing n }

pub gone_step : (step : Step) (old new : Network) → IsMove step → HasRun (step ∷ []) old new → HasGone (stepped (tree_of old) (bounds_of old) step (world_of old)) old new
gone_step step old new move made = record { steps = step ∷ []; moves = (move, tt); is = sym (one_step (tree_of old) (bounds_of old) step (world_of old)); made = made }

pub gone_then : (a b : Stepped) (old mid new : Network) → HasGone a old mid → HasGone b mid new → HasGone (followed_by a b) old new
gone_then a b old mid new x y =
    let t : Shape = tree_of old in
    let l : Limits = bounds_of old in
    let P : Site → Type 0 = λ s. b ≡ run s.tree (limits_in s) y.steps (world_of mid) in
    let is : b ≡ run t l y.steps (world_of mid) = subst P x.made.moved.same.site y.is in
    let ahead : b ≡ run t l y.steps (run t l x.steps (world_of old)).world = is ∙ ap (run t l y.steps) x.made.moved.world in
    record {
      steps = x.steps ++ y.steps;
      moves = each_append IsMove x.steps y.steps x.moves y.moves;
      is = ap (λ (z : Stepped). followed_by z b) x.is ∙ (ap (followed_by (run t l x.steps (world_of old))) ahead ∙ sym (run_then t l x.steps y.steps (world_of old)));
      made = run_steps x.steps y.steps old mid new x.made y.made;
    }

pub gone_world : (done : Stepped) (old new : Network) → HasGone done old new → world_of new ≡ done.world
gone_world done old new x = x.made.moved.world ∙ ap (λ (z : Stepped). z.world) (sym x.is)

-- ---- verdicts
pub costs_then : (xs ys : List Verdict) → costs (xs ++ ys) ≡ costs xs + costs ys
costs_then [] ys = omega arith
costs_then (x ∷ xs) ys = (let e = costs_then xs ys in omega (arith, e))

pub played_then : (a b : Stepped) (p : Played) → played_before a (played_before b p) ≡ played_before (followed_by a b) p
played_then a b p = ap (λ (z : Stepped). record { done = z; verdicts = p.verdicts }) (sym (then_then a b p.done))

-- ---- what is still to be played
abbrev pub Play : Type 0
Play = List Verdict → Played

unfoldable pub leads_begin : (whole : Play) (budget : ℕ) (n : Network) → Leads whole whole budget budget n n
leads_begin whole budget n = record { asked = []; paid = omega arith; done = nothing (world_of n); gone = gone_nothing n; is = λ more. refl }

unfoldable pub leads_on : (whole rest next : Play) (given : List Verdict) (a : Stepped) (before budget less : ℕ) (old now new : Network) → Leads whole rest before budget old now →
    ((more : List Verdict) → rest (given ++ more) ≡ played_before a (next more)) → costs given + less ≤ budget → HasGone a now new → Leads whole next before less old new
leads_on whole rest next given a before budget less old now new x split paid gone =
    let sums = costs_then x.asked given in
    let so_far = x.paid in
    record {
      asked = x.asked ++ given;
      paid = omega (arith, sums, so_far, paid);
      done = followed_by x.done a;
      gone = gone_then x.done a old now new x.gone gone;
      is = λ more. ap whole (append_assoc x.asked given more) ∙ (x.is (given ++ more) ∙ (ap (played_before x.done) (split more) ∙ played_then x.done a (next more)));
    }

pub leads_same : (whole rest next : Play) (before budget : ℕ) (old now : Network) → Leads whole rest before budget old now → ((more : List Verdict) → rest more ≡ next more) → Leads whole next before budget old now
leads_same whole rest next before budget old now x same = record { asked = x.asked; paid = x.paid; done = x.done; gone = x.gone; is = λ more. x.is more ∙ ap (played_before x.done) (same more) }

pub then_end : (a : Stepped) (w : World) (more : List Verdict) → w ≡ a.world → played_before a (record { done = nothing w; verdicts = more }) ≡ record { done = a; verdicts = more }
then_end a w more here =
    ap (λ (z : Stepped). record { done = z; verdicts = more }) (ap (λ (v : World). followed_by a (nothing v)) here ∙ then_nothing a)

unfoldable pub leads_end : (whole rest : Play) (before budget : ℕ) (old now : Network) → Leads whole rest before budget old now → ((more : List Verdict) → rest more ≡ record { done = nothing (world_of now); verdicts = more }) →
    HasAsked whole before budget old now
leads_end whole rest before budget old now x none =
    record {
      asked = x.asked;
      paid = x.paid;
      done = x.done;
      gone = x.gone;
      is = λ more. x.is more ∙ (ap (played_before x.done) (none more) ∙ then_end x.done (world_of now) more (gone_world x.done old now x.gone));
    }

-- a part that was played, and what comes after it
unfoldable pub leads_by : (whole rest part : Play) (next : World → Play) (before budget less : ℕ) (old now new : Network) → Leads whole rest before budget old now →
    ((vs : List Verdict) → rest vs ≡ played_before (part vs).done (next (part vs).done.world (part vs).verdicts)) → HasAsked part budget less now new → Leads whole (next (world_of new)) before less old new
leads_by whole rest part next before budget less old now new x split one =
    let here : world_of new ≡ one.done.world = gone_world one.done now new one.gone in
    leads_on whole rest (next (world_of new)) one.asked one.done before budget less old now new x
    (λ more.
    split (one.asked ++ more)
    ∙ (ap (λ (p : Played). played_before p.done (next p.done.world p.verdicts)) (one.is more) ∙ ap (λ (w : World). played_before one.done (next w more)) (sym here)))
    one.paid one.gone

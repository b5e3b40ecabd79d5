-- What a run has told and what has left, one segment more.
use Rattle.std.proofs.Common.{◌≡◌, ℕ, zero, suc, ◌+◌, ◌*◌, ◌^◌, ◌<◌, ◌≤◌, Bool, true, List, [], ◌∷◌, ◌++◌, length, All, get_or, ap, sym, subst, ◌∙◌, arith}
use Rattle.std.specs.Prelude.{slice_index_or}
use Rattle.std.specs.List.{AllByRecursion}
use Rattle.std.proofs.lemmas.List.{append-nil}
use Rattle.exb_model.specs.declared.event.Event.{Event}
use Rattle.exb_model.specs.Input.{Mode, Input, Segment, tree_of}
use Rattle.exb_model.specs.declared.arrival.Arrival.{Arrival}
use Rattle.exb_model.specs.Texts.{Counts, with_left}
use Rattle.exb_model.specs.Traces.{TraceLine}
use Rattle.exb_model.specs.Tree.{Shape, IsTree, is_external}
use Rattle.exb_world_spec.specs.Worlds.{Left as Leaving}
use Rattle.exb_world.specs.WorldContracts.{Network, world_of, IsQuiet, IsSame}
use Rattle.exb_bridge.specs.TreeIndexes.{Site, limits_in as limits_at}
use Rattle.exb_bridge.specs.BridgeWorlds.{all_left, copies_of}
use Rattle.exb_outbox.specs.declared.log.Left.{Left}
use Rattle.exb_outbox.specs.declared.log.Log.{Log}
use Rattle.exb_world_laws.specs.Runs.SegmentRuns.{IsCopyOfAny, RunsAreUnderWay, RunsAreFew, arrivals_in}
use Rattle.exb_journal.specs.Tallies.{FitsTally, nothing_counted}
use Rattle.exb_outputs.specs.Manifests.{Listed}
use Rattle.exb_play.specs.BridgeRuns.{CanBeKept, HasTold, Told, ◌with◌}
use Rattle.exb_outputs.specs.Counts.{counts_so_far}
use Rattle.exb_play.specs.RunInvariants.{CanFollow}
use Rattle.exb_outputs.specs.SentFrames.{CanBeWritten}
use Rattle.exb_outputs.proofs.HistoryCounts.{count_events, count_events-left}
use Rattle.exb_outputs.proofs.PortPlaces.{external_low}
use Rattle.exb_outputs.proofs.TextUpdates.{counts-more}

-- ---- the run
pub quiet-played : (m : Mode) (i : Input) (so_far : List Segment) (n : Network) (t : Told) → IsQuiet n → HasTold m i so_far n t →
    HasTold m i so_far n (t with n.log)
quiet-played m i so_far n t quiet p = record {
  done = p.done;
  plays = p.plays;
  tree = p.tree;
  limits = p.limits;
  world = p.world;
  told = ap (λ (es : List Event). t.events ++ es) quiet.events ∙ append-nil t.events ∙ p.told;
  said = ap (λ (bs : List Bool). t.passed ++ bs) quiet.passed ∙ append-nil t.passed ∙ p.said;
  gone = ap (λ (xs : List Left). t.left ++ all_left xs) quiet.left ∙ append-nil t.left ∙ p.gone;
  traced = λ on. ap (λ (ls : List TraceLine). t.lines ++ ls) quiet.lines ∙ append-nil t.lines ∙ p.traced on;
  silent = λ off. ap (λ (ls : List TraceLine). t.lines ++ ls) quiet.lines ∙ append-nil t.lines ∙ p.silent off;
}

pub cleared-played : (m : Mode) (i : Input) (so_far : List Segment) (n v : Network) (t : Told) → world_of v ≡ world_of n → IsSame n v →
    HasTold m i so_far n t → HasTold m i so_far v t
cleared-played m i so_far n v t world same p = record {
  done = p.done;
  plays = p.plays;
  tree = ap (λ (s : Site). s.tree) same.site ∙ p.tree;
  limits = ap limits_at same.site ∙ p.limits;
  world = world ∙ p.world;
  told = p.told;
  said = p.said;
  gone = p.gone;
  traced = λ on. p.traced (sym same.tracing ∙ on);
  silent = λ off. p.silent (sym same.tracing ∙ off);
}

-- ---- how much is counted
-- the counts of what a run told fit, with what has left
pub counts-fit : (m : Mode) (i : Input) (so_far : List Segment) (n : Network) (t : Told) → RunsAreFew → CanFollow i so_far →
    HasTold m i so_far n t → FitsTally (counts_so_far t.events t.left)
counts-fit m i so_far n t law follows p =
    let few = law m i so_far p.done p.plays in
    let events = p.told in
    let relayed = ap (λ (es : List Event). (count_events nothing_counted es).relayed) events in
    let ignored = ap (λ (es : List Event). (count_events nothing_counted es).ignored) events in
    let commits = ap (λ (es : List Event). (count_events nothing_counted es).commits) events in
    let refusals = ap (λ (es : List Event). (count_events nothing_counted es).refusals) events in
    let entered = few.entered in
    let decided = few.decided in
    let arrivals = follows.few_arrivals in
    let commands = follows.few_commands in
    let none = count_events-left t.events nothing_counted in
    let frames = few.left in
    let size = ap (λ (xs : List Leaving). length xs) p.gone in
    record {
      relayed = omega (arith, relayed, entered, arrivals);
      ignored = omega (arith, ignored, entered, arrivals);
      left = omega (arith, none, frames, size, arrivals);
      commits = omega (arith, commits, decided, commands);
      refusals = omega (arith, refusals, decided, commands);
    }

-- arrivals together
pub arrivals-low : (m : Mode) (i : Input) (so_far : List Segment) (n : Network) (t : Told) → RunsAreFew → length (arrivals_in so_far) ≤ 2 ^ 49 →
    HasTold m i so_far n t → (counts_so_far t.events t.left).relayed + (counts_so_far t.events t.left).ignored < 2 ^ 64
arrivals-low m i so_far n t law low p =
    let few = law m i so_far p.done p.plays in
    let events = p.told in
    let relayed = ap (λ (es : List Event). (count_events nothing_counted es).relayed) events in
    let ignored = ap (λ (es : List Event). (count_events nothing_counted es).ignored) events in
    let entered = few.entered in
    omega (arith, relayed, ignored, entered, low)

-- so do those of a tally, with what stands in a log behind it
pub tally-fits : (m : Mode) (i : Input) (so_far : List Segment) (n : Network) (t : Told) (log : Log) (c : Counts) → RunsAreFew → CanFollow i so_far → HasTold m i so_far n (t with log) →
    c ≡ counts_so_far t.events t.left → FitsTally (with_left (length (all_left log.left)) (count_events c log.events))
tally-fits m i so_far n t log c law follows p is =
    let whole : with_left (length (all_left log.left)) (count_events c log.events) ≡ counts_so_far (t.events ++ log.events) (t.left ++ all_left log.left) =
    ap (λ (b : Counts). with_left (length (all_left log.left)) (count_events b log.events)) is ∙ counts-more t.events log.events t.left log.left in
    subst FitsTally (sym whole) (counts-fit m i so_far n (t with log) law follows p)

-- ---- what leaves can be written
all-right : (P : Leaving → Type 0) (xs ys : List Leaving) → All P (xs ++ ys) → All P ys
all-right P [] ys all = all
all-right P (x ∷ xs) ys all = all-right P xs ys (λ k d low. all (suc k) d (omega (arith, low)))

all-front : (P : Leaving → Type 0) (xs ys : List Leaving) → All P (xs ++ ys) → All P xs
all-front P [] ys all k d low = absurd (omega (arith, low))
all-front P (x ∷ xs) ys all zero d low = all 0 d (omega arith)
all-front P (x ∷ xs) ys all (suc k) d low = all-front P xs ys (λ j e h. all (suc j) e (omega (arith, h))) k d (omega (arith, low))

all-mapped : (P : Leaving → Type 0) (xs : List Left) → All P (all_left xs) → All (λ (x : Left). All P (copies_of x)) xs
all-mapped P [] all k d low = absurd (omega (arith, low))
all-mapped P (x ∷ xs) all zero d low = all-front P (copies_of x) (all_left xs) all
all-mapped P (x ∷ xs) all (suc k) d low = all-mapped P xs (all-right P (copies_of x) (all_left xs) all) k d (omega (arith, low))

kept-at : (came : List Arrival) (k : ℕ) (a : Arrival) → k < length came → slice_index_or came k a ≡ a → AllByRecursion (λ (b : Arrival). b.moment < 2 ^ 32 * 1_000_000_000) came →
    a.moment < 2 ^ 32 * 1_000_000_000
kept-at [] k a low is all = absurd (omega (arith, low))
kept-at (b ∷ came) zero a low is all = let same = ap (λ (x : Arrival). x.moment) is in let own = all.0 in omega (arith, same, own)
kept-at (b ∷ came) (suc k) a low is all = kept-at came k a (omega (arith, low)) is all.1

pub frames-fit : (m : Mode) (i : Input) (manifest : Listed) (so_far : List Segment) (n : Network) (t : Told) (log : Log) → RunsAreUnderWay → manifest.tree ≡ tree_of i → IsTree manifest.tree → CanBeKept so_far →
    HasTold m i so_far n (t with log) → All (λ (x : Left). CanBeWritten manifest x) log.left
frames-fit m i manifest so_far n t log law tree is_tree kept p k d low j e within =
    let P : List Leaving → Type 0 = All (λ (x : Leaving). IsCopyOfAny i (arrivals_in so_far) x) in
    let all = subst P (sym p.gone) (law m i so_far p.done p.plays).copies in
    let copy = all-mapped (λ (x : Leaving). IsCopyOfAny i (arrivals_in so_far) x) log.left (all-right (λ (x : Leaving). IsCopyOfAny i (arrivals_in so_far) x) t.left (all_left log.left) all) k d low j e within in
    let port : ℕ = (get_or (copies_of (get_or log.left k d)) j e).port in
    let own : is_external manifest.tree port ≡ true = ap (λ (s : Shape). is_external s port) tree ∙ copy.port in
    record {
      port = own;
      low = external_low manifest.tree port is_tree own;
      moment =
          (let few = kept-at (arrivals_in so_far) copy.of_it.0 copy.arrival copy.of_it.1 copy.of_it.2 kept in
          let same = copy.moment in
          omega (arith, few, same));
      bytes = (let short = copy.short in omega (arith, short));
    }

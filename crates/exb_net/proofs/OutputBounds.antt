-- How much a bridge has told and sent: all of it can be written and counted.
use Rattle.std.proofs.Common.{◌≡◌, ℕ, zero, suc, ◌*◌, ◌^◌, ◌<◌, ◌≤◌, ◌==◌, ◌++◌, Bool, true, cond, List, [], ◌∷◌, length, All, get_or, filter, ap, sym, subst, ◌∙◌, arith}
use Rattle.std.specs.Prelude.{sum_by}
use Rattle.std.proofs.lemmas.List.Sums.{sum_by-cons}
use Rattle.exb_model.specs.declared.event.Event.{Event}
use Rattle.exb_model.specs.Ports.{below}
use Rattle.exb_model.specs.Texts.{Counts, with_left}
use Rattle.exb_model.specs.Tree.{Shape, IsTree, external_ports, is_external}
use Rattle.exb_counters.specs.CounterUpdates.{FitsCounts, nothing, plus_events}
use Rattle.exb_world_spec.specs.Steps.{Stepped}
use Rattle.exb_world_spec.specs.Worlds.{Left as Leaving, left_at}
use Rattle.exb_outbox.specs.declared.log.Left.{Left}
use Rattle.exb_world.specs.WorldContracts.{Network}
use Rattle.exb_bridge.specs.BridgeWorlds.{all_left, copies_of}
use Rattle.exb_net_spec.specs.Nets.{Net}
use Rattle.exb_journal.specs.Tallies.{FitsTally, counts_of, nothing_counted}
use Rattle.exb_net_laws.specs.NetRuns.{tree_in}
use Rattle.exb_outputs.specs.Manifests.{Listed}
use Rattle.exb_outputs.specs.CaptureSizes.{capture_size}
use Rattle.exb_outputs.proofs.PortPlaces.{external_low, few_external}
use Rattle.exb_outputs.specs.declared.run_counts.RunCounts.{RunCounts}
use Rattle.exb_outputs.specs.Counts.{GoTogether, IsCounted, counts_so_far}
use Rattle.exb_outputs.proofs.HistoryCounts.{LeftExternal, count_events, count_events-left, hit_once, length_by_port}
use Rattle.exb_outputs.proofs.PortCounts.{drops_few, ignored_few, octets_few, ports-can, relayed_few}
use Rattle.exb_outputs.proofs.TextUpdates.{counts-more}
use Rattle.exb_net.specs.WrittenOutputs.{CanNote, IsMore}
use Rattle.exb_net.specs.NetInvariants.{IsFew, IsLow}

-- ---- what has left
sum-most : (f : ℕ → ℕ) → ((q : ℕ) → f q ≤ 2 ^ 49) → (qs : List ℕ) → sum_by f qs ≤ length qs * 2 ^ 49
sum-most f most [] = omega arith
sum-most f most (q ∷ qs) = (let s = sum_by-cons f q qs in let one = most q in let rest = sum-most f most qs in omega (arith, s, one, rest))

pub few-left : (t : Shape) (xs : List Leaving) → All (LeftExternal t) xs → ((q : ℕ) → length (left_at q xs) ≤ 2 ^ 49) → length xs ≤ length (external_ports t) * 2 ^ 49
unfolding external_ports
few-left t xs own few =
    let rows : List ℕ = filter (is_external t) (below 4160) in
    let once : All (λ x. sum_by (λ q. cond (x.port == q) 1 0) rows ≡ 1) xs = λ k d l. (let x = own k d l in hit_once (is_external t) 4160 (get_or xs k d).port x.low x.port) in
    let all = length_by_port rows xs once in
    let most = sum-most (λ q. length (left_at q xs)) few rows in
    omega (arith, all, most)

module _ (n : Net) (b came orders : ℕ) (t : Shape) (tree : t ≡ tree_in n b) (is_tree : IsTree t) (d : Stepped) (few : IsFew n b came orders d) (few_came : came ≤ 2 ^ 49) where
  pub own : All (LeftExternal t) d.left
  own k x low =
      let one = few.left k x low in
      let port : is_external t (get_or d.left k x).port ≡ true = ap (λ (s : Shape). is_external s (get_or d.left k x).port) tree ∙ one.port in
      record { port = port; low = external_low t (get_or d.left k x).port is_tree port }

  pub few-frames : length d.left ≤ length (external_ports t) * 2 ^ 49
  few-frames = few-left t d.left own (λ q. let one = few.left_each q in omega (arith, one, few_came))

  pub counts-fit : orders ≤ 65536 → FitsTally (counts_so_far d.events d.left)
  counts-fit few_orders =
      let entered = few.entered in
      let decided = few.decided in
      let none = count_events-left d.events nothing_counted in
      let frames = few-frames in
      let ports = few_external t in
      record {
        relayed = omega (arith, entered, few_came);
        ignored = omega (arith, entered, few_came);
        left = omega (arith, none, frames, ports);
        commits = omega (arith, decided, few_orders);
        refusals = omega (arith, decided, few_orders);
      }

  pub ports-fit : (q : ℕ) → FitsCounts (plus_events d.events d.passed q nothing)
  ports-fit q =
      let entered = few.entered in
      let all = relayed_few d.events q nothing_counted in
      let drops = drops_few d.events d.passed q in
      let others = ignored_few d.events q nothing_counted in
      record {
        relayed = omega (arith, entered, few_came, all);
        dropped = omega (arith, entered, few_came, all, drops);
        ignored = omega (arith, entered, few_came, others);
        left = omega arith;
        octets = omega arith;
      }

  -- the bytes of each capture
  pub sizes-fit : (q : ℕ) → capture_size (left_at q d.left) < 2 ^ 64
  sizes-fit q =
      let frames = few.left_each q in
      let short = octets_few q d.left (λ k x low. (few.left k x low).short) in
      omega (arith, short, frames, few_came)

-- ---- what a world tells
all-right : (P : Leaving → Type 0) (xs ys : List Leaving) → All P (xs ++ ys) → All P ys
all-right P [] ys all = all
all-right P (x ∷ xs) ys all = all-right P xs ys (λ k d low. all (suc k) d (omega (arith, low)))

all-front : (P : Leaving → Type 0) (xs ys : List Leaving) → All P (xs ++ ys) → All P xs
all-front P [] ys all k d low = absurd (omega (arith, low))
all-front P (x ∷ xs) ys all zero d low = all 0 d (omega arith)
all-front P (x ∷ xs) ys all (suc k) d low = all-front P xs ys (λ j e h. all (suc j) e (omega (arith, h))) k d (omega (arith, low))

all-mapped : (P : Leaving → Type 0) (xs : List Left) → All P (all_left xs) → All (λ (x : Left). All P (copies_of x)) xs
all-mapped P [] all k d low = absurd (omega (arith, low))
all-mapped P (x ∷ xs) all zero d low = all-front P (copies_of x) (all_left xs) all
all-mapped P (x ∷ xs) all (suc k) d low = all-mapped P xs (all-right P (copies_of x) (all_left xs) all) k d (omega (arith, low))

-- It can be written and counted.
pub can-note : (n : Net) (b came orders : ℕ) (manifest : Listed) → manifest.tree ≡ tree_in n b → IsTree manifest.tree → (c : RunCounts) (told done : Stepped) (w : Network) → IsMore told done w → IsFew n b came orders done →
    came ≤ 2 ^ 49 → orders ≤ 65536 → IsCounted manifest c told.events told.passed told.left → GoTogether told.events told.passed → CanNote manifest c w
can-note n b came orders manifest tree is_tree c told done w more few few_came few_orders are together = record {
  frames = λ k d low j e within.
      let all = subst (λ (xs : List Leaving). All (IsLow n b) xs) more.left few.left in
      let x = all-mapped (IsLow n b) w.log.left (all-right (IsLow n b) told.left (all_left w.log.left) all) k d low j e within in
      let left : ℕ = (get_or (copies_of (get_or w.log.left k d)) j e).port in
      let port : is_external manifest.tree left ≡ true = ap (λ (s : Shape). is_external s left) tree ∙ x.port in
      record {
        port = port;
        low = external_low manifest.tree left is_tree port;
        moment = x.moment;
        bytes = (let short = x.short in omega (arith, short));
      };
  can = record {
    tally =
        (let whole : with_left (length (all_left w.log.left)) (count_events (counts_of c.tally) w.log.events) ≡ counts_so_far done.events done.left =
        ap (λ (k : Counts). with_left (length (all_left w.log.left)) (count_events k w.log.events)) are.tally
        ∙ counts-more told.events w.log.events told.left w.log.left
        ∙ ap (λ (es : List Event). counts_so_far es (told.left ++ all_left w.log.left)) (sym more.events)
        ∙ ap (λ (xs : List Leaving). counts_so_far done.events xs) (sym more.left) in
        subst FitsTally (sym whole) (counts-fit n b came orders manifest.tree tree is_tree done few few_came few_orders));
    ports =
        ports-can manifest c.ports told.events w.log.events told.passed w.log.passed are.ports together
        (λ q.
        subst (λ (es : List Event). FitsCounts (plus_events es (told.passed ++ w.log.passed) q nothing)) more.events
        (subst (λ (ps : List Bool). FitsCounts (plus_events done.events ps q nothing)) more.passed (ports-fit n b came orders manifest.tree tree is_tree done few few_came q)));
  };
}

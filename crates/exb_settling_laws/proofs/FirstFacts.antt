-- The world of a valid setup, as it begins, meets the facts that the bound needs.
use Rattle.std.proofs.Common.{◌≡◌, inl, inr, ℕ, suc, ◌*◌, ◌%◌, ◌≤◌, ◌<◌, ◌==◌, nat_lt, true, List, [], ◌∷◌, length, set, slice_index, Some, None, refl, ap, sym, ◌∙◌, subst, arith}
use Rattle.std.specs.Prelude.{All, replicate, flat_map}
use Rattle.std.specs.List.{list_any}
use Rattle.std.proofs.lemmas.Bool.{cases_lt, cases_eq, and_parts, ltb-true, lt-ltb, false≢true}
use Rattle.std.proofs.lemmas.List.{get_or-set_same, get_or-set_other, length-set, length-replicate}
use Rattle.exb_model.specs.declared.setup.ExtenderSetup.{ExtenderSetup}
use Rattle.exb_model.specs.declared.setup.Setup.{Setup}
use Rattle.exb_model.specs.Configuration.{Bridge}
use Rattle.exb_model.specs.Setup.{Limits, IsValid, InRange, lay, shape_of, limits_of, start_of}
use Rattle.exb_model.specs.Tree.{Shape, IsTree, HangsOn, device, on, depth, is_port, is_extender, by_depth}
use Rattle.exb_model.proofs.TreeTrunks.{extender-low}
use Rattle.exb_model.proofs.TreeOrder.{in_order, by_depth-sorted, by_depth-hangs, place_of, less_deep}
use Rattle.exb_model.proofs.PortBits.{get_or-same}
use Rattle.exb_csp.specs.PortMasks.{powered_on}
use Rattle.exb_ecp.specs.StopAndWait.{after, new_state}
use Rattle.exb_csp.specs.Sessions.AskingEnd.{begun}
use Rattle.exb_extender.specs.Machine.{at_power_on}
use Rattle.exb_extender.proofs.InvariantLemmas.{stays_extender}
use Rattle.exb_control_spec.specs.InitialState.{first_held, jobs_of}
use Rattle.exb_control_spec.proofs.FirstJobs.{all_starts}
use Rattle.exb_world_spec.specs.Worlds.{first_world}
use Rattle.exb_world_spec.specs.Runs.Sessions.{Routes}
use Rattle.exb_world_spec.proofs.Trunks.{above_there}
use Rattle.exb_settling_laws.specs.SettlingFacts.{Facts, NearFacts, FarFacts, QueueFacts}

after_zero : after 0 ≡ 1
unfolding after
after_zero = refl

none_some : {A : Type 0} (x : A) → None ≡ Some x → ⊥
none_some x e = cc

-- ---- the ends of a session
near_first : NearFacts new_state begun
near_first =
    record {
      before = (0, after_zero);
      sending = λ x e. absurd (none_some x e);
      beats = omega arith;
      even = λ x e. absurd (none_some x e);
      quiet = λ e. refl;
    }

far_first : (number ports : ℕ) → 1 ≤ number → number ≤ 64 → 1 ≤ ports → ports ≤ 64 → FarFacts (at_power_on number ports)
far_first number ports some few least most =
    record {
      extender = stays_extender.begins number ports some few least most;
      before = (0, after_zero);
      sending = λ z e. absurd (none_some z e);
      opened = refl;
    }

-- ---- the tree
module _ (t : Shape) (tree : IsTree t) where
  listed : (n : ℕ) → is_extender t n ≡ true → list_any (λ x. x == n) (by_depth t) ≡ true
  listed n e =
      let both = and_parts (nat_lt 0 n) (nat_lt 0 (slice_index t.ports n)) e in
      let some : 0 < n = ltb-true 0 n both.0 in
      let home : device (64 * n) ≡ n = omega arith in
      let first : (64 * n) % 64 ≡ 0 = omega arith in
      let port : is_port t (64 * n) ≡ true = rw (home, first) both.1 in
      subst (λ (m : ℕ). list_any (λ x. x == m) (by_depth t) ≡ true) home (in_order t (64 * n) tree (omega (arith, some)) port)

  there_is : (n : ℕ) → HangsOn t n (on t n) → is_extender t n ≡ true
  there_is n h = rw (lt-ltb 0 n h.extender, lt-ltb 0 (slice_index t.ports n) h.there) refl

  -- the first in order hangs on the bridge
  first_low : 0 < length (by_depth t) → on t (slice_index (by_depth t) 0) < 64
  first_low some =
      let h : HangsOn t (slice_index (by_depth t) 0) (on t (slice_index (by_depth t) 0)) = by_depth-hangs t 0 some in
      elim (cases_lt (on t (slice_index (by_depth t) 0)) 64) [
        | inl low ↦ low
        | inr deep ↦
            let above : is_extender t (device (on t (slice_index (by_depth t) 0))) ≡ true = above_there t tree (slice_index (by_depth t) 0) (there_is (slice_index (by_depth t) 0) h) deep in
            let place = place_of (device (on t (slice_index (by_depth t) 0))) (by_depth t) (listed (device (on t (slice_index (by_depth t) 0))) above) in
            let lower : depth t (device (on t (slice_index (by_depth t) 0))) < depth t (slice_index (by_depth t) 0) = less_deep t tree (slice_index (by_depth t) 0) (on t (slice_index (by_depth t) 0)) h deep in
            let behind : depth t (slice_index (by_depth t) 0) ≤ depth t (slice_index (by_depth t) place.0) = by_depth-sorted t 0 place.0 (omega arith) place.1 in
            let same : depth t (slice_index (by_depth t) place.0) ≡ depth t (device (on t (slice_index (by_depth t) 0))) = ap (depth t) place.2 in
            absurd (omega arith)
      ]

  -- ---- the queue
  module _ (l : Limits) (b : Bridge) (ageing : ℕ) where
    queue_first : (ns : List ℕ) → by_depth t ≡ ns → QueueFacts t (first_world t l b ageing) None (flat_map (jobs_of t) ns)
    queue_first [] e = λ n there. absurd (false≢true (ap (list_any (λ x. x == n)) (sym e) ∙ listed n there))
    queue_first (n ∷ ns) e =
        let some : 0 < length (by_depth t) = (let P : List ℕ → Type 0 = λ xs. 0 < length xs in subst P (sym e) (omega arith)) in
        let is : slice_index (by_depth t) 0 ≡ n = ap (λ (xs : List ℕ). slice_index xs 0) e in
        let there : is_extender t n ≡ true = (let P : ℕ → Type 0 = λ z. is_extender t z ≡ true in subst P is (there_is (slice_index (by_depth t) 0) (by_depth-hangs t 0 some))) in
        let low : on t n < 64 = (let P : ℕ → Type 0 = λ z. on t z < 64 in subst P is (first_low some)) in
        (there, refl, inl low)

    -- no port has a channel yet
    routes_first : Routes t (first_held t l) (λ n. at_power_on n (slice_index t.ports n))
    unfolding powered_on
    routes_first =
        record {
          down = λ m p channel n m_there n_there deep holds some small first few own pair. absurd (omega (arith, own));
          up = λ m p n there hangs some few own. absurd (omega (arith, own));
        }

    -- The world as it begins, over a tree whose extenders have at most 64 ports.
    pub first_facts : ((n : ℕ) → slice_index t.ports n ≤ 64) → Facts t l (first_world t l b ageing)
    first_facts few =
        record {
          waits = λ n. refl;
          near = λ n. near_first;
          far = λ n there.
              let both = and_parts (nat_lt 0 n) (nat_lt 0 (slice_index t.ports n)) there in
              let some : 0 < n = ltb-true 0 n both.0 in
              let least : 0 < slice_index t.ports n = ltb-true 0 (slice_index t.ports n) both.1 in
              let low : n < 65 = extender-low t tree n there in
              far_first n (slice_index t.ports n) (omega arith) (omega arith) (omega arith) (few n);
          related = λ n there. refl;
          unheard = λ n there e. refl;
          downs = λ m there. tt;
          ups = λ m there. tt;
          queue = subst (QueueFacts t (first_world t l b ageing) None) (all_starts t) (queue_first (by_depth t) refl);
          routes = routes_first;
        }

-- ---- the ports of a valid setup
few_set : (table : List ℕ) (i v : ℕ) → length table ≡ 65 → i ≤ 64 → v ≤ 64 → ((n : ℕ) → slice_index table n ≤ 64) → (n : ℕ) → slice_index (set table i v) n ≤ 64
few_set table i v long low small few n =
    elim (cases_eq n i) [
      | inl e ↦ rw (e, get_or-set_same table i v 0 (omega arith)) small
      | inr ne ↦ rw (get_or-set_other table i n v 0 ne) (few n)
    ]

few_laid : (es : List ExtenderSetup) (table : List ℕ) → All InRange es → length table ≡ 65 → ((n : ℕ) → slice_index table n ≤ 64) → (n : ℕ) → slice_index (lay (λ e. e.ports) table es) n ≤ 64
few_laid [] table all long few = few
few_laid (e ∷ es) table all long few =
    let first : InRange e = all 0 e (omega arith) in
    let more : length (set table e.number e.ports) ≡ 65 = length-set table e.number e.ports ∙ long in
    few_laid es (set table e.number e.ports) (λ k d h. all (suc k) d (omega arith)) more (few_set table e.number e.ports long first.number first.ports few)

at_most : (m : ℕ) → m ≡ 0 → m ≤ 64
at_most m e = omega arith

few_ports : (s : Setup) → IsValid s → (n : ℕ) → slice_index (shape_of s).ports n ≤ 64
unfolding shape_of
few_ports s valid =
    let sized : length {A = ℕ} (replicate 65 0) ≡ 65 = length-replicate {A = ℕ} 65 0 in
    let none : (n : ℕ) → slice_index (replicate 65 0) n ≤ 64 = λ n. at_most (slice_index (replicate 65 0) n) (get_or-same 65 n 0) in
    few_laid s.extenders (set (replicate 65 0) 0 s.ports) valid.ranges (length-set (replicate 65 0) 0 s.ports ∙ sized) (few_set (replicate 65 0) 0 s.ports sized (omega arith) valid.ports none)

-- The world of each valid setup.
pub setup_facts : (s : Setup) → IsValid s → Facts (shape_of s) (limits_of s) (first_world (shape_of s) (limits_of s) (start_of s) s.ageing)
setup_facts s valid = first_facts (shape_of s) valid.tree (limits_of s) (start_of s) s.ageing (few_ports s valid)

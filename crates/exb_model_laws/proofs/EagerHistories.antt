-- The history in which each segment is played at once is one that the input allows.
use Rattle.std.proofs.Common.{◌≡◌, ℕ, List, refl, sym, ap, subst, ◌∙◌}
use Rattle.std.specs.Prelude.{map, reverse}
use Rattle.exb_model.specs.History.{Basis, History, ◌then◌}
use Rattle.exb_model.specs.Tree.{Shape}
use Rattle.exb_model.specs.Setup.{Limits}
use Rattle.exb_model.specs.Input.{Segment, Eager, Seeded, basis_of, tree_of, bounds_of, arrivals_at, segments}
use Rattle.exb_model.specs.EagerHistory.{opening, eagerly, eager}
use Rattle.exb_model.specs.LegalHistory.{Legal, IsDecided, IsEntered, Rise, PlaysCommands, PlaysArrivals, PlaysTick, settled_each}
use Rattle.exb_model.proofs.LegalPlays.{all_played}
use Rattle.exb_model_laws.specs.PlayedHistories.{played_at_once, PlayedAtOnceIsLegal, PlayedAtOnceIsEager, EagerIsLegal, SeededIsPossible}
use Rattle.exb_model_laws.proofs.EagerSegments.{plays, segments-then}
use Rattle.exb_model_laws.proofs.PlayRules.{plays-pairwise, plays-of_segments, play-commands, play-arrivals, play-tick, each-unit, each-ordered}
use Rattle.exb_model_laws.proofs.EagerEvents.{each-opening, each-eagerly, decides, enters, IsThere, IsNumbered}
use Rattle.exb_model_laws.proofs.SegmentCommands.{segments-there}
use Rattle.exb_model_laws.proofs.PortOrder.{indices, indices-eager, in_order, at_port}
use Rattle.exb_model_laws.proofs.ArrivalOrder.{segments-arrivals, segments-numbered, merged-rise}

pub at_once_is_legal : PlayedAtOnceIsLegal
unfolding played_at_once
at_once_is_legal m i =
    let t : Shape = tree_of i in
    let l : Limits = bounds_of i in
    let b : Basis = basis_of i in
    let h : History = opening t l b in
    let ss : List Segment = segments m i in
    let is : eagerly t l b h ss ≡ (h then settled_each (plays t l b h ss)) = segments-then t l b h ss in
    record {
      plays = plays t l b h ss;
      segments_in_order = is;
      each_played = all_played ss (plays t l b h ss) (plays-of_segments t l b h ss) (plays-pairwise t l b PlaysCommands (play-commands t l b) h ss)
          (plays-pairwise t l b PlaysArrivals (play-arrivals t l b) h ss) (plays-pairwise t l b PlaysTick (play-tick t l b) h ss);
      refused_exactly = each-eagerly (IsDecided t l b) (IsThere b) (λ a. Unit {0}) t l b (decides t l b) h ss (segments-there m i) (each-unit ss)
          (each-opening (IsDecided t l b) (IsThere b) (λ a. Unit {0}) t l b (decides t l b));
      ports_in_order = λ p. in_order t (reverse (eagerly t l b h ss)) p
          (let P : List ℕ → Type 0 = Rise 0 in
          subst P (sym (ap (λ g. indices p (reverse g)) is ∙ indices-eager p t l b ss ∙ ap (λ arrived. map (λ a. a.index) (at_port p arrived)) (segments-arrivals m i))) (merged-rise i p));
      relayed_exactly = each-eagerly (IsEntered b (arrivals_at i)) (λ n. Unit {0}) (IsNumbered (arrivals_at i)) t l b (enters (arrivals_at i) t l b) h ss (each-ordered ss) (segments-numbered m i)
          (each-opening (IsEntered b (arrivals_at i)) (λ n. Unit {0}) (IsNumbered (arrivals_at i)) t l b (enters (arrivals_at i) t l b));
    }

pub at_once_is_eager : PlayedAtOnceIsEager
unfolding played_at_once eager
at_once_is_eager i = refl

pub eager_is_legal : EagerIsLegal
eager_is_legal i = subst (Legal Eager i) (at_once_is_eager i) (at_once_is_legal Eager i)

pub seeded_is_possible : SeededIsPossible
seeded_is_possible i = (played_at_once Seeded i, at_once_is_legal Seeded i)

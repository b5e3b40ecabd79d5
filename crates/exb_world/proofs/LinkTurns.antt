-- The first link in an order that has a word has its turn.
use Rattle.std.proofs.Common.{◌≡◌, ◌≢◌, ◌⊎◌, ℕ, ◌+◌, ◌<◌, ◌≤◌, List, [], All, true, length, ap, sym, subst, ◌∙◌, arith, inl, inr}
use Rattle.std.specs.Prelude.{Option, Some, None, IfNone, slice_get, slice_index}
use Rattle.std.proofs.lemmas.Bool.{cases_eq, cases_lt}
use Rattle.std.proofs.lemmas.Option.{get_or_from_slice_get, slice_get_within}
use Rattle.exb_model.specs.Tree.{Shape, is_extender}
use Rattle.exb_world_spec.specs.Steps.{words_on}
use Rattle.exb_world_spec.specs.Worlds.{World}
use Rattle.exb_world_spec.specs.Worlds.{Way as Direction}
use Rattle.exb_link.specs.declared.link_frame.LinkFrame.{LinkFrame}
use Rattle.exb_world.specs.declared.link_turns.LinkTurn.{LinkTurn}
use Rattle.exb_link.specs.Links.{words_of, IsNextBusy}
use Rattle.exb_bridge.specs.TreeIndexes.{ArePlaces}
use Rattle.exb_world.specs.LinkTurns.{order_of, IsEarlier, IsFirst, IsTurn}

-- an element that is found has what all have
pub found_has : (P : ℕ → Type 0) (xs : List ℕ) (k n : ℕ) → All P xs → slice_get xs k ≡ Some n → P n
found_has P xs k n all found = subst P (get_or_from_slice_get xs k n 0 found) (all k 0 (slice_get_within xs k n found))

-- an order of extenders and its links
pub turn_is : (t : Shape) (way : Direction) (w : World) (order : List ℕ) (links : List (List LinkFrame)) (first : ℕ) (turn : LinkTurn) → order ≡ order_of t way → ((n : ℕ) → words_of links n ≡ words_on n way w) →
    All (λ n. is_extender t n ≡ true) order → IsFirst order links first turn → IsTurn t way w first turn
turn_is t way w order links first turn is same extends one =
    record {
      low = one.low;
      from = one.from;
      at = rw is at one.at;
      extender = found_has (λ n. is_extender t n ≡ true) order turn.place turn.link extends one.at;
      busy = λ e. one.busy (rw same e);
      before = λ k n low high at. rw (← same) (one.before k n low high (rw is at));
    }

-- ---- the first place, among the links that have a word
-- a place at which a link has a word
pub record HasTurn (order : List ℕ) (links : List (List LinkFrame)) (from place : ℕ) : Type 0 where
  pub start : from ≤ place
  pub link : ℕ
  pub at : slice_get order place ≡ Some link
  pub busy : words_of links link ≢ []

-- of the links with a number below one the first place, and 64 where none of them has a word
pub record IsSoFar (order : List ℕ) (links : List (List LinkFrame)) (from number first : ℕ) : Type 0 where
  pub most : first ≤ 64
  pub here : first < 64 → HasTurn order links from first
  pub before : (k n : ℕ) → n < number → from ≤ k → k < first → slice_get order k ≡ Some n → words_of links n ≡ []

pub none_so_far : (order : List ℕ) (links : List (List LinkFrame)) (from : ℕ) → IsSoFar order links from 0 64
none_so_far order links from = record { most = omega arith; here = λ low. absurd (omega (arith, low)); before = λ k n low. absurd (omega (arith, low)) }

module _ (order places : List ℕ) (links : List (List LinkFrame)) (from : ℕ) (are : ArePlaces order places) where
  -- one link more
  pub one_more : (number first link next : ℕ) → IsSoFar order links from number first → IsNextBusy links number link → IsEarlier first (slice_index places link) from next →
      IsSoFar order links from (link + 1) next
  one_more number first link next so_far one earlier =
      record {
        most = let most = so_far.most in let least = earlier.least in omega (arith, most, least);
        here = λ low. by_one earlier.one low;
        before = λ k n below start before at. by_number k n below start before at;
      }
    where
      by_one : (next ≡ first) ⊎ ((next ≡ slice_index places link) × (from ≤ slice_index places link)) → next < 64 → HasTurn order links from next
      by_one (inl e) low = subst (HasTurn order links from) (sym e) (so_far.here (subst (λ (m : ℕ). m < 64) e low))
      by_one (inr e) low =
          subst (HasTurn order links from) (sym e.0)
          (record { start = e.1; link = link; at = are.back link one.low (subst (λ (m : ℕ). m < 64) e.0 low); busy = one.busy })

      by_number : (k n : ℕ) → n < link + 1 → from ≤ k → k < next → slice_get order k ≡ Some n → words_of links n ≡ []
      by_number k n below start before at =
          elim (cases_lt n number) [
            | inl l ↦ let least = earlier.least in so_far.before k n l start (omega (arith, before, least)) at
            | inr g ↦
                elim (cases_eq n link) [
                  | inl e ↦
                      let place : slice_index places link ≡ k = ap (slice_index places) (sym e) ∙ are.forth k n at in
                      let low : next ≤ slice_index places link = earlier.below (subst (λ (m : ℕ). from ≤ m) (sym place) start) in
                      absurd (omega (arith, place, low, before))
                  | inr ne ↦ one.before n g (omega (arith, below, ne))
                ]
          ]

-- all links were looked at
module _ (order : List ℕ) (links : List (List LinkFrame)) (from number first : ℕ) (so_far : IsSoFar order links from number first) (rest : (n : ℕ) → number ≤ n → words_of links n ≡ []) where
  none_before : (k n : ℕ) → from ≤ k → k < first → slice_get order k ≡ Some n → words_of links n ≡ []
  none_before k n start before at =
      elim (cases_lt n number) [
        | inl l ↦ so_far.before k n l start before at
        | inr g ↦ rest n g
      ]

  pub first_is : length order ≤ 64 → (turn : LinkTurn) → (turn.place ≡ first) × (slice_get order first ≡ Some turn.link) → IsFirst order links from turn
  first_is few turn is =
      let within = slice_get_within order first turn.link is.1 in
      let low : first < 64 = omega (arith, within, few) in
      let has = so_far.here low in
      let link : has.link ≡ turn.link = same_some has.link turn.link (sym has.at ∙ is.1) in
      let place = is.0 in
      record {
        low = omega (arith, place, low);
        from = let start = has.start in omega (arith, place, start);
        at = ap (slice_get order) is.0 ∙ is.1;
        busy = λ none. has.busy (ap (words_of links) link ∙ none);
        before = λ k n start before at. none_before k n start (omega (arith, place, before)) at;
      }
    where
      same_some : (a b : ℕ) → Some a ≡ Some b → a ≡ b
      same_some a b e = cc

  pub none_is : length order ≤ first → (k n : ℕ) → from ≤ k → slice_get order k ≡ Some n → words_of links n ≡ []
  none_is past k n start at = let within = slice_get_within order k n at in none_before k n start (omega (arith, within, past)) at

-- what follows where there is no turn
pub if_none : (turn : Option LinkTurn) (P Q : Type 0) → (P → Q) → IfNone turn P → IfNone turn Q
if_none None P Q f p = f p
if_none (Some x) P Q f p = tt

-- Two extenders: both on the bridge, or one on the other.
use Rattle.std.proofs.Common.{◌≡◌, ◌≢◌, ◌⊎◌, inl, inr, ℕ, ◌≤◌, [], ◌∷◌, AllPairs, refl, sym, ap, subst, ◌∙◌, arith}
use Rattle.std.specs.Prelude.{All, Contains}
use Rattle.std.proofs.lemmas.List.Elements.{All-nil, All-cons, All-head, All-tail}
use Rattle.std.proofs.lemmas.List.Kept.{AllPairs-cons}
use Rattle.exb_model.specs.declared.setup.Place.TheVariants as place
use Rattle.exb_model.specs.declared.setup.ExtenderSetup.{ExtenderSetup}
use Rattle.exb_model.specs.Tree.{cascades_under}
use Rattle.exb_model.specs.Setup.{shape_of, InRange, IsStart, IsValid}
use Rattle.exb_model_laws.specs.SetupValidity.{HasPlace, HasWayUp, IsOnBridge, IsOnPortOf, IsWellFormed, on_bridge, two_extenders, side_by_side, AreSideBySide, SideBySideIsValid, stacked, StackedIsValid}
use Rattle.exb_model_laws.proofs.SetupTables.{IsAmong, among_from, contains_from, pairs_head}
use Rattle.exb_model_laws.proofs.SetupValidity.{valid_in_words, no_ring_is_valid}
use Rattle.exb_model_laws.proofs.CascadeCounts.{none_below, one_below}
use Rattle.exb_model_laws.proofs.NoExtenders.{pairs_nil}

-- ---- two extenders
module _ (e f : ExtenderSetup) where
  both_of : (P : ExtenderSetup → Type 0) → P e → P f → All P (e ∷ f ∷ [])
  both_of P a b = All-cons P e (f ∷ []) a (All-cons P f [] b (All-nil P))

  first_of_two : (P : ExtenderSetup → Type 0) → All P (e ∷ f ∷ []) → P e
  first_of_two P all = All-head P e (f ∷ []) all

  second_of_two : (P : ExtenderSetup → Type 0) → All P (e ∷ f ∷ []) → P f
  second_of_two P all = All-head P f [] (All-tail P e (f ∷ []) all)

  pair_from : (R : ExtenderSetup → ExtenderSetup → Type 0) → R e f → AllPairs R (e ∷ f ∷ [])
  pair_from R r = AllPairs-cons R e (f ∷ []) (All-cons (R e) f [] r (All-nil (R e))) (AllPairs-cons R f [] (All-nil (R f)) (pairs_nil R))

  of_pair : (R : ExtenderSetup → ExtenderSetup → Type 0) → AllPairs R (e ∷ f ∷ []) → R e f
  of_pair R all = pairs_head R e (f ∷ []) all f (inl refl)

  -- what makes the two valid on a bridge with so many ports
  record AreWell (b : ℕ) : Type 0 where
    some_ports : 1 ≤ b
    ports : b ≤ 64
    first : InRange e
    second : InRange f
    numbers : e.number ≢ f.number
    first_there : HasPlace (two_extenders b e f) e.on
    second_there : HasPlace (two_extenders b e f) f.on
    alone : e.on ≢ f.on
    first_way : HasWayUp (two_extenders b e f) e
    second_way : HasWayUp (two_extenders b e f) f
    few : (k : ℕ) → cascades_under (shape_of (two_extenders b e f)) k ≤ 1

  well_is_valid : (b : ℕ) → AreWell b → IsValid (two_extenders b e f)
  well_is_valid b w = (valid_in_words (two_extenders b e f)).1 (record {
    some_ports = w.some_ports;
    ports = w.ports;
    some_channels = omega arith;
    channels = omega arith;
    some_groups = omega arith;
    groups = omega arith;
    ageing = inl refl;
    ranges = both_of InRange w.first w.second;
    numbers = pair_from (λ (x y : ExtenderSetup). x.number ≢ y.number) w.numbers;
    places = both_of (λ x. HasPlace (two_extenders b e f) x.on) w.first_there w.second_there;
    alone = pair_from (λ (x y : ExtenderSetup). x.on ≢ y.on) w.alone;
    ways = both_of (HasWayUp (two_extenders b e f)) w.first_way w.second_way;
    enough_channels = λ k low. w.few k;
    start = All-nil (IsStart (shape_of (two_extenders b e f)));
  })

  of_two : (P : ExtenderSetup → Type 0) → P e → P f → (x : ExtenderSetup) → IsAmong x (e ∷ f ∷ []) → P x
  of_two P a b x (inl same) = subst P same a
  of_two P a b x (inr (inl same)) = subst P same b
  of_two P a b x (inr (inr none)) = absurd none

  on_bridge_way : (b : ℕ) (x : ExtenderSetup) → IsOnBridge x.on → HasWayUp (two_extenders b e f) x
  on_bridge_way b x is = record { way = []; there = All-nil (Contains (e ∷ f ∷ [])); few = omega arith; is = is }

-- ---- both on the bridge
one_port : (j k : ℕ) → place.Bridge j ≡ place.Bridge k → j ≡ k
one_port j k e = cc

module _ (b n p j m q k : ℕ) where
  side_from : AreSideBySide b n p j m q k → IsValid (side_by_side b n p j m q k)
  side_from a =
      let e : ExtenderSetup = on_bridge n p j in
      let f : ExtenderSetup = on_bridge m q k in
      well_is_valid (on_bridge n p j) (on_bridge m q k) b (record {
        some_ports = a.some_ports;
        ports = a.ports;
        first = a.first;
        second = a.second;
        numbers = a.numbers;
        first_there = a.first_there;
        second_there = a.second_there;
        alone = λ same. a.places (one_port j k same);
        first_way = on_bridge_way (on_bridge n p j) (on_bridge m q k) b (on_bridge n p j) tt;
        second_way = on_bridge_way (on_bridge n p j) (on_bridge m q k) b (on_bridge m q k) tt;
        few = λ x. (let z = none_below (side_by_side b n p j m q k) (both_of e f InRange a.first a.second) (pair_from e f (λ (x y : ExtenderSetup). x.number ≢ y.number) a.numbers)
            (of_two e f (λ x. IsOnBridge x.on) tt tt) x in
            omega (arith, z));
      })

  side_to : IsValid (side_by_side b n p j m q k) → AreSideBySide b n p j m q k
  side_to v =
      let e : ExtenderSetup = on_bridge n p j in
      let f : ExtenderSetup = on_bridge m q k in
      let w : IsWellFormed (side_by_side b n p j m q k) = (valid_in_words (side_by_side b n p j m q k)).0 v in
      record {
        some_ports = w.some_ports;
        ports = w.ports;
        first = first_of_two e f InRange w.ranges;
        second = second_of_two e f InRange w.ranges;
        first_there = first_of_two e f (λ x. HasPlace (side_by_side b n p j m q k) x.on) w.places;
        second_there = second_of_two e f (λ x. HasPlace (side_by_side b n p j m q k) x.on) w.places;
        numbers = of_pair e f (λ (x y : ExtenderSetup). x.number ≢ y.number) w.numbers;
        places = λ same. of_pair e f (λ (x y : ExtenderSetup). x.on ≢ y.on) w.alone (ap (λ (x : ℕ). place.Bridge x) same);
      }

pub side_by_side_is_valid : SideBySideIsValid
side_by_side_is_valid b n p j m q k = (side_to b n p j m q k, side_from b n p j m q k)

-- ---- one on the other
module _ (p n k : ℕ) where
  abbrev lower : ExtenderSetup
  lower = on_bridge 1 p 1

  abbrev upper : ExtenderSetup
  upper = record { number = 2; ports = 1; on = place.Extender n k }

  stacked_from : p ≤ 64 → n ≡ 1 → 1 ≤ k → k ≤ p → IsValid (stacked p n k)
  stacked_from most is some low =
      let first : InRange lower = record { numbered = omega arith; number = omega arith; some = omega arith; ports = most; place = (omega arith, omega arith) } in
      let second : InRange upper = record { numbered = omega arith; number = omega arith; some = omega arith; ports = omega arith; place = (omega arith, omega arith, some, omega arith) } in
      let there : Contains (lower ∷ upper ∷ []) lower = contains_from (lower ∷ upper ∷ []) lower (inl refl) in
      well_is_valid lower upper 1 (record {
        some_ports = omega arith;
        ports = omega arith;
        first = first;
        second = second;
        numbers = λ e. omega (arith, e);
        first_there = omega arith;
        second_there = (lower, there, sym is, low);
        alone = λ e. other e;
        first_way = on_bridge_way lower upper 1 lower tt;
        second_way = record { way = lower ∷ []; there = All-cons (Contains (lower ∷ upper ∷ [])) lower [] there (All-nil (Contains (lower ∷ upper ∷ []))); few = omega arith; is = (sym is, tt) };
        few = one_below (stacked p n k) (both_of lower upper InRange first second) (pair_from lower upper (λ (x y : ExtenderSetup). x.number ≢ y.number) (λ e. omega (arith, e))) (place.Extender n k)
            (of_two lower upper (λ x. IsOnBridge x.on ⊎ (x.on ≡ place.Extender n k)) (inl tt) (inr refl));
      })
    where
      other : place.Bridge 1 ≡ place.Extender n k → ⊥
      other e = cc

  stacked_to : IsValid (stacked p n k) → (p ≤ 64) × (n ≡ 1) × (1 ≤ k) × (k ≤ p)
  stacked_to v =
      let w : IsWellFormed (stacked p n k) = (valid_in_words (stacked p n k)).0 v in
      let first : InRange lower = first_of_two lower upper InRange w.ranges in
      let second : InRange upper = second_of_two lower upper InRange w.ranges in
      let has = second_of_two lower upper (λ x. HasPlace (stacked p n k) x.on) w.places in
      by_extender first second has.0 (among_from (lower ∷ upper ∷ []) has.0 has.1) has.2 has.3
    where
      -- extender 2 on itself is a ring
      not_itself : 2 ≡ n → ⊥
      not_itself same =
          no_ring_is_valid (stacked p n k) upper []
          (record {
            there = All-cons (Contains (lower ∷ upper ∷ [])) upper [] (contains_from (lower ∷ upper ∷ []) upper (inr (inl refl))) (All-nil (Contains (lower ∷ upper ∷ [])));
            closed = All-cons (λ x. (g : ExtenderSetup) × Contains (upper ∷ []) g × IsOnPortOf g x.on) upper [] (upper, contains_from (upper ∷ []) upper (inl refl), same)
                (All-nil (λ x. (g : ExtenderSetup) × Contains (upper ∷ []) g × IsOnPortOf g x.on));
          })
          v

      by_extender : InRange lower → InRange upper → (x : ExtenderSetup) → IsAmong x (lower ∷ upper ∷ []) → x.number ≡ n → k ≤ x.ports → (p ≤ 64) × (n ≡ 1) × (1 ≤ k) × (k ≤ p)
      by_extender first second x (inl same) number low =
          (first.ports, sym number ∙ sym (ap (λ (y : ExtenderSetup). y.number) same), second.place.2, (let z : p ≡ x.ports = ap (λ (y : ExtenderSetup). y.ports) same in omega (arith, z, low)))
      by_extender first second x (inr (inl same)) number low = absurd (not_itself (ap (λ (y : ExtenderSetup). y.number) same ∙ number))
      by_extender first second x (inr (inr none)) number low = absurd none

pub stacked_is_valid : StackedIsValid
stacked_is_valid p n k = (stacked_to p n k, λ h. stacked_from p n k h.0 h.1 h.2 h.3)

-- A setup is valid exactly where it is well formed in words.
use Rattle.std.proofs.Common.{◌≡◌, ◌≢◌, ◌⊎◌, inl, inr, ℕ, zero, suc, ◌+◌, ◌-◌, ◌*◌, ◌/◌, ◌%◌, ◌<◌, ◌≤◌, true, false, List, [], ◌∷◌, length, slice_index, AllPairs, refl, sym, ap, subst, ◌∙◌, arith}
use Rattle.std.specs.Prelude.{not, slice_index_or, All, Contains}
use Rattle.std.proofs.lemmas.Bool.{and_parts, false≢true, lt-ltb, ltb-true}
use Rattle.std.proofs.lemmas.List.Elements.{All-nil, All-cons, All-head, All-tail}
use Rattle.exb_model.specs.declared.setup.Place.{Place}
use Rattle.exb_model.specs.declared.setup.Place.TheVariants as place
use Rattle.exb_model.specs.declared.setup.ExtenderSetup.{ExtenderSetup}
use Rattle.exb_model.specs.declared.setup.Setup.{Setup}
use Rattle.exb_model.specs.Tree.{IsTree, HangsOn, is_port, is_cascade, is_external, on, top}
use Rattle.exb_model.specs.Setup.{port_at, shape_of, IsPlace, InRange}
use Rattle.exb_model.proofs.TreeTrunks.{external_from, hung_cascade}
use Rattle.exb_model.proofs.TreeWays.{top_low, top_high, top_none}
use Rattle.exb_model_laws.specs.SetupValidity.{HasPlace, IsOnBridge, IsOnPortOf, IsWayUp, HasWayUp, IsWellFormed, ValidInWords, IsFree, ExternalInWords, IsRing, NoRingIsValid}
use Rattle.exb_model_laws.proofs.SetupTables.{IsAmong, among_at, among_from, contains_from, all_among, of_all, one_of, AreApart, Has, ports_sized, ports_are, on_is, bridge_ports_are, extender_there, one_place}

-- ---- one setup whose extenders have distinct numbers in their ranges
module _ (s : Setup) (ranges : All InRange s.extenders) (apart : AreApart s) where
  pub its_ports : (e : ExtenderSetup) → IsAmong e s.extenders → slice_index (shape_of s).ports e.number ≡ e.ports
  its_ports e h = ports_are s e apart h (of_all InRange s.extenders e ranges h).number

  pub its_place : (e : ExtenderSetup) → IsAmong e s.extenders → on (shape_of s) e.number ≡ port_at e.on
  its_place e h = on_is s e apart h (of_all InRange s.extenders e ranges h).number

  -- one number is of one extender
  one_extender : (e f : ExtenderSetup) → IsAmong e s.extenders → IsAmong f s.extenders → e.number ≡ f.number → e ≡ f
  one_extender e f h k same = by_order (one_of (λ a b. a.number ≢ b.number) s.extenders e f apart h k)
    where
      by_order : (e ≡ f) ⊎ ((e.number ≢ f.number) ⊎ (f.number ≢ e.number)) → e ≡ f
      by_order (inl is) = is
      by_order (inr (inl other)) = absurd (other same)
      by_order (inr (inr other)) = absurd (other (sym same))

  -- it hangs where the list says
  pub hangs : (e : ExtenderSetup) → IsAmong e s.extenders → HangsOn (shape_of s) e.number (port_at e.on)
  hangs e h =
      let r : InRange e = of_all InRange s.extenders e ranges h in
      record {
        extender = (let k : 1 ≤ e.number = r.numbered in omega (arith, k));
        there = (let k : 1 ≤ e.ports = r.some in let z = its_ports e h in omega (arith, k, z));
        at = its_place e h;
      }

  -- ---- places and ports
  ports_at : (a b : ℕ) → a ≡ b → slice_index (shape_of s).ports a ≡ slice_index (shape_of s).ports b
  ports_at a b same = ap (λ (d : ℕ). slice_index (shape_of s).ports d) same

  pub place_is_port : (x : Place) → IsPlace x → HasPlace s x → is_port (shape_of s) (port_at x) ≡ true
  place_is_port (place.Bridge k) r has =
      let place : (k - 1) % 64 ≡ k - 1 = omega (arith, r.0, r.1) in
      let device : (k - 1) / 64 ≡ 0 = omega (arith, r.0, r.1) in
      let there : slice_index (shape_of s).ports 0 ≡ s.ports = bridge_ports_are s ranges in
      lt-ltb ((k - 1) % 64) (slice_index (shape_of s).ports ((k - 1) / 64))
      (let z : slice_index (shape_of s).ports ((k - 1) / 64) ≡ s.ports = ports_at ((k - 1) / 64) 0 device ∙ there in omega (arith, place, z, r.0, has))
  place_is_port (place.Extender n k) r has =
      let e : ExtenderSetup = has.0 in
      let place : (64 * n + (k - 1)) % 64 ≡ k - 1 = omega (arith, r.2, r.3) in
      let device : (64 * n + (k - 1)) / 64 ≡ n = omega (arith, r.2, r.3) in
      let there : slice_index (shape_of s).ports n ≡ e.ports = ports_at n has.0.number (sym has.2) ∙ its_ports has.0 (among_from s.extenders has.0 has.1) in
      lt-ltb ((64 * n + (k - 1)) % 64) (slice_index (shape_of s).ports ((64 * n + (k - 1)) / 64))
      (let z : slice_index (shape_of s).ports ((64 * n + (k - 1)) / 64) ≡ e.ports = ports_at ((64 * n + (k - 1)) / 64) n device ∙ there in omega (arith, place, z, r.2, has.3))

  port_is_place : (x : Place) → IsPlace x → is_port (shape_of s) (port_at x) ≡ true → HasPlace s x
  port_is_place (place.Bridge k) r is =
      let place : (k - 1) % 64 ≡ k - 1 = omega (arith, r.0, r.1) in
      let device : (k - 1) / 64 ≡ 0 = omega (arith, r.0, r.1) in
      let z : slice_index (shape_of s).ports ((k - 1) / 64) ≡ s.ports = ports_at ((k - 1) / 64) 0 device ∙ bridge_ports_are s ranges in
      let low = ltb-true ((k - 1) % 64) (slice_index (shape_of s).ports ((k - 1) / 64)) is in
      omega (arith, place, z, low)
  port_is_place (place.Extender n k) r is =
      let place : (64 * n + (k - 1)) % 64 ≡ k - 1 = omega (arith, r.2, r.3) in
      let device : (64 * n + (k - 1)) / 64 ≡ n = omega (arith, r.2, r.3) in
      let z : slice_index (shape_of s).ports ((64 * n + (k - 1)) / 64) ≡ slice_index (shape_of s).ports n = ports_at ((64 * n + (k - 1)) / 64) n device in
      let low = ltb-true ((64 * n + (k - 1)) % 64) (slice_index (shape_of s).ports ((64 * n + (k - 1)) / 64)) is in
      let there : Has n s.extenders = extender_there s n (omega (arith, r.0)) (omega (arith, z, low)) in
      by_extender there.0 there.1 there.2 (omega (arith, place, z, low))
    where
      by_extender : (e : ExtenderSetup) → IsAmong e s.extenders → e.number ≡ n → k - 1 < slice_index (shape_of s).ports n → HasPlace s (place.Extender n k)
      by_extender e among same low =
          let own : slice_index (shape_of s).ports n ≡ e.ports = ports_at n e.number (sym same) ∙ its_ports e among in
          (e, contains_from s.extenders e among, same, omega (arith, low, own))

  -- ---- ways up
  -- the bridge port at the end of a way
  way_is_rooted : (d : ℕ) (e : ExtenderSetup) (way : List ExtenderSetup) → IsAmong e s.extenders → All (Contains s.extenders) way → length way ≤ d → IsWayUp e way → top (shape_of s).on d (port_at e.on) < 64
  way_is_rooted d e [] h there few is = by_place e.on (of_all InRange s.extenders e ranges h).place is
    where
      by_place : (x : Place) → IsPlace x → IsOnBridge x → top (shape_of s).on d (port_at x) < 64
      by_place (place.Bridge k) r on_it = let z = top_low (shape_of s) d (k - 1) (omega (arith, r.0, r.1)) in omega (arith, z, r.0, r.1)
      by_place (place.Extender n k) r on_it = absurd on_it
  way_is_rooted zero e (f ∷ fs) h there few is = absurd (omega arith)
  way_is_rooted (suc d) e (f ∷ fs) h there few is =
      by_place e.on (of_all InRange s.extenders e ranges h).place is.0
      (way_is_rooted d f fs (among_from s.extenders f (All-head (Contains s.extenders) f fs there)) (All-tail (Contains s.extenders) f fs there) (omega arith) is.1)
    where
      by_place : (x : Place) → IsPlace x → IsOnPortOf f x → top (shape_of s).on d (port_at f.on) < 64 → top (shape_of s).on (suc d) (port_at x) < 64
      by_place (place.Bridge k) r on_it rest = absurd on_it
      by_place (place.Extender n k) r on_it rest =
          let device : (64 * n + (k - 1)) / 64 ≡ n = omega (arith, r.2, r.3) in
          let one : top (shape_of s).on (suc d) (64 * n + (k - 1)) ≡ top (shape_of s).on d (on (shape_of s) ((64 * n + (k - 1)) / 64)) = top_high (shape_of s) d (64 * n + (k - 1)) (omega (arith, r.0)) in
          let next : on (shape_of s) ((64 * n + (k - 1)) / 64) ≡ port_at f.on =
          ap (on (shape_of s)) (device ∙ sym on_it) ∙ its_place f (among_from s.extenders f (All-head (Contains s.extenders) f fs there)) in
          subst (λ (p : ℕ). p < 64) (sym (one ∙ ap (top (shape_of s).on d) next)) rest

  -- a way of at most d extenders
  record IsRooted (d : ℕ) (e : ExtenderSetup) : Type 0 where
    way : List ExtenderSetup
    there : All (Contains s.extenders) way
    few : length way ≤ d
    is : IsWayUp e way

  on_bridge_way : (d : ℕ) (e : ExtenderSetup) → IsOnBridge e.on → IsRooted d e
  on_bridge_way d e is = record { way = []; there = All-nil (Contains s.extenders); few = omega arith; is = is }

  rooted_has_way : All (λ e. HasPlace s e.on) s.extenders → (d : ℕ) (e : ExtenderSetup) → IsAmong e s.extenders → top (shape_of s).on d (port_at e.on) < 64 → IsRooted d e
  rooted_has_way has zero e h low = on_bridge_way zero e (by_place e.on (of_all InRange s.extenders e ranges h).place low)
    where
      by_place : (x : Place) → IsPlace x → top (shape_of s).on zero (port_at x) < 64 → IsOnBridge x
      by_place (place.Bridge k) r k_low = tt
      by_place (place.Extender n k) r k_low = absurd (let z = top_none (shape_of s) (64 * n + (k - 1)) in omega (arith, z, k_low, r.0))
  rooted_has_way has (suc d) e h low =
      by_place e.on refl (of_all InRange s.extenders e ranges h).place (of_all (λ x. HasPlace s x.on) s.extenders e has h) low (λ f j k. rooted_has_way has d f j k)
    where
      by_place : (x : Place) → e.on ≡ x → IsPlace x → HasPlace s x → top (shape_of s).on (suc d) (port_at x) < 64 →
          ((f : ExtenderSetup) → IsAmong f s.extenders → top (shape_of s).on d (port_at f.on) < 64 → IsRooted d f) → IsRooted (suc d) e
      by_place (place.Bridge k) at r there k_low more = on_bridge_way (suc d) e (subst IsOnBridge (sym at) tt)
      by_place (place.Extender n k) at r there k_low more =
          let f : ExtenderSetup = there.0 in
          let device : (64 * n + (k - 1)) / 64 ≡ n = omega (arith, r.2, r.3) in
          let one : top (shape_of s).on (suc d) (64 * n + (k - 1)) ≡ top (shape_of s).on d (on (shape_of s) ((64 * n + (k - 1)) / 64)) = top_high (shape_of s) d (64 * n + (k - 1)) (omega (arith, r.0)) in
          let among : IsAmong there.0 s.extenders = among_from s.extenders there.0 there.1 in
          let next : on (shape_of s) ((64 * n + (k - 1)) / 64) ≡ port_at there.0.on = ap (on (shape_of s)) (device ∙ sym there.2) ∙ its_place there.0 among in
          let rest : IsRooted d there.0 = more there.0 among (subst (λ (p : ℕ). p < 64) (one ∙ ap (top (shape_of s).on d) next) k_low) in
          record {
            way = there.0 ∷ rest.way;
            there = All-cons (Contains s.extenders) there.0 rest.way there.1 rest.there;
            few = (let z : length rest.way ≤ d = rest.few in omega (arith, z));
            is = (subst (IsOnPortOf there.0) (sym at) there.2, rest.is);
          }

  -- ---- the tree
  pub tree_is : All (λ e. HasPlace s e.on) s.extenders → AllPairs (λ e f. e.on ≢ f.on) s.extenders → All (HasWayUp s) s.extenders → IsTree (shape_of s)
  tree_is places alone ways = record {
    sized = ports_sized s;
    on_port = λ n some there. (let e : Has n s.extenders = extender_there s n some there in
        let at : on (shape_of s) n ≡ port_at e.0.on = ap (on (shape_of s)) (sym e.2) ∙ its_place e.0 e.1 in
        ap (is_port (shape_of s)) at ∙ place_is_port e.0.on (of_all InRange s.extenders e.0 ranges e.1).place (of_all (λ x. HasPlace s x.on) s.extenders e.0 places e.1));
    alone = λ n m p a b. (let e : Has n s.extenders = extender_there s n a.extender a.there in
        let f : Has m s.extenders = extender_there s m b.extender b.there in
        let same : port_at e.0.on ≡ port_at f.0.on = sym (ap (on (shape_of s)) (sym e.2) ∙ its_place e.0 e.1) ∙ a.at ∙ sym b.at ∙ ap (on (shape_of s)) (sym f.2) ∙ its_place f.0 f.1 in
        let place : e.0.on ≡ f.0.on = one_place e.0.on f.0.on (of_all InRange s.extenders e.0 ranges e.1).place (of_all InRange s.extenders f.0 ranges f.1).place same in
        sym e.2 ∙ ap (λ (x : ExtenderSetup). x.number) (same_extender e.0 f.0 e.1 f.1 place) ∙ f.2);
    rooted = λ n some there. (let e : Has n s.extenders = extender_there s n some there in
        let w : HasWayUp s e.0 = of_all (HasWayUp s) s.extenders e.0 ways e.1 in
        let at : on (shape_of s) n ≡ port_at e.0.on = ap (on (shape_of s)) (sym e.2) ∙ its_place e.0 e.1 in
        subst (λ (p : ℕ). top (shape_of s).on 63 p < 64) (sym at) (way_is_rooted 63 e.0 w.way e.1 w.there w.few w.is));
  }
    where
      same_extender : (e f : ExtenderSetup) → IsAmong e s.extenders → IsAmong f s.extenders → e.on ≡ f.on → e ≡ f
      same_extender e f h k same = by_order (one_of (λ a b. a.on ≢ b.on) s.extenders e f alone h k)
        where
          by_order : (e ≡ f) ⊎ ((e.on ≢ f.on) ⊎ (f.on ≢ e.on)) → e ≡ f
          by_order (inl is) = is
          by_order (inr (inl other)) = absurd (other same)
          by_order (inr (inr other)) = absurd (other (sym same))

  places_are : IsTree (shape_of s) → All (λ e. HasPlace s e.on) s.extenders
  places_are tree = all_among (λ e. HasPlace s e.on) s.extenders
      (λ e h. (let g : HangsOn (shape_of s) e.number (port_at e.on) = hangs e h in
      port_is_place e.on (of_all InRange s.extenders e ranges h).place (ap (is_port (shape_of s)) (sym g.at) ∙ tree.on_port e.number g.extender g.there)))

  alone_are : IsTree (shape_of s) → AllPairs (λ e f. e.on ≢ f.on) s.extenders
  alone_are tree i j d h k same =
      let first = hangs (slice_index_or s.extenders i d) (among_at s.extenders i d (omega (arith, h, k))) in
      let second = hangs (slice_index_or s.extenders j d) (among_at s.extenders j d k) in
      apart i j d h k (tree.alone (slice_index_or s.extenders i d).number (slice_index_or s.extenders j d).number (port_at (slice_index_or s.extenders j d).on)
      (record { extender = first.extender; there = first.there; at = first.at ∙ ap port_at same }) second)

  ways_are : IsTree (shape_of s) → All (HasWayUp s) s.extenders
  ways_are tree = all_among (HasWayUp s) s.extenders
      (λ e h. (let g : HangsOn (shape_of s) e.number (port_at e.on) = hangs e h in
      let low : top (shape_of s).on 63 (port_at e.on) < 64 = subst (λ (p : ℕ). top (shape_of s).on 63 p < 64) g.at (tree.rooted e.number g.extender g.there) in
      let w : IsRooted 63 e = rooted_has_way (places_are tree) 63 e h low in
      record { way = w.way; there = w.there; few = w.few; is = w.is }))

  -- ---- external ports
  external_is_free : IsTree (shape_of s) → (x : Place) → IsPlace x → is_external (shape_of s) (port_at x) ≡ true → IsFree s x
  external_is_free tree x r is =
      let both = and_parts (is_port (shape_of s) (port_at x)) (not (is_cascade (shape_of s) (port_at x))) is in (
        port_is_place x r both.0,
        all_among (λ e. e.on ≢ x) s.extenders
            (λ e h same. (let cascade : is_cascade (shape_of s) (port_at x) ≡ true = hung_cascade (shape_of s) tree e.number (port_at x) (subst (HangsOn (shape_of s) e.number) (ap port_at same) (hangs e h)) in
            let wrong : false ≡ true = sym (ap not cascade) ∙ both.1 in
            false≢true wrong)),
      )

  free_is_external : (x : Place) → IsPlace x → IsFree s x → is_external (shape_of s) (port_at x) ≡ true
  free_is_external x r free =
      external_from (shape_of s) (port_at x) (place_is_port x r free.0)
      (λ n h. (let e : Has n s.extenders = extender_there s n h.extender h.there in
      let at : port_at e.0.on ≡ port_at x = sym (its_place e.0 e.1) ∙ ap (on (shape_of s)) e.2 ∙ h.at in
      of_all (λ f. f.on ≢ x) s.extenders e.0 free.1 e.1 (one_place e.0.on x (of_all InRange s.extenders e.0 ranges e.1).place r at)))

-- ---- both ways
pub valid_in_words : ValidInWords
valid_in_words s = (
  λ v. record {
    some_ports = v.some_ports;
    ports = v.ports;
    some_channels = v.some_channels;
    channels = v.channels;
    some_groups = v.some_groups;
    groups = v.groups;
    ageing = v.ageing;
    ranges = v.ranges;
    numbers = v.distinct;
    places = places_are s v.ranges v.distinct v.tree;
    alone = alone_are s v.ranges v.distinct v.tree;
    ways = ways_are s v.ranges v.distinct v.tree;
    enough_channels = v.enough_channels;
    start = v.start;
  },
  λ w. record {
    some_ports = w.some_ports;
    ports = w.ports;
    some_channels = w.some_channels;
    channels = w.channels;
    some_groups = w.some_groups;
    groups = w.groups;
    ageing = w.ageing;
    ranges = w.ranges;
    distinct = w.numbers;
    tree = tree_is s w.ranges w.numbers w.places w.alone w.ways;
    enough_channels = w.enough_channels;
    start = w.start;
  },
)

-- ---- rings
-- no way up leads out of a ring
no_way : (s : Setup) (w : IsWellFormed s) (ring : List ExtenderSetup) → IsRing s ring → (e : ExtenderSetup) (way : List ExtenderSetup) → IsAmong e ring → All (Contains s.extenders) way → IsWayUp e way → ⊥
no_way s w ring is e [] h there up =
    let next = of_all (λ (x : ExtenderSetup). (f : ExtenderSetup) × Contains ring f × IsOnPortOf f x.on) ring e is.closed h in
    by_place next.0 e.on up next.2
  where
    by_place : (f : ExtenderSetup) (x : Place) → IsOnBridge x → IsOnPortOf f x → ⊥
    by_place f (place.Bridge k) a b = absurd b
    by_place f (place.Extender n k) a b = absurd a
no_way s w ring is e (f ∷ fs) h there up =
    let next = of_all (λ (x : ExtenderSetup). (g : ExtenderSetup) × Contains ring g × IsOnPortOf g x.on) ring e is.closed h in
    let among : IsAmong next.0 ring = among_from ring next.0 next.1 in
    let same : f ≡ next.0 =
    one_extender s w.ranges w.numbers f next.0 (among_from s.extenders f (All-head (Contains s.extenders) f fs there))
    (among_from s.extenders next.0 (of_all (Contains s.extenders) ring next.0 is.there among)) (one_number f next.0 e.on up.0 next.2) in
    no_way s w ring is f fs (subst (λ (x : ExtenderSetup). IsAmong x ring) (sym same) among) (All-tail (Contains s.extenders) f fs there) up.1
  where
    one_number : (a b : ExtenderSetup) (x : Place) → IsOnPortOf a x → IsOnPortOf b x → a.number ≡ b.number
    one_number a b (place.Bridge k) h j = absurd h
    one_number a b (place.Extender n k) h j = h ∙ sym j

pub no_ring_is_valid : NoRingIsValid
no_ring_is_valid s e ring is valid =
    let w : IsWellFormed s = (valid_in_words s).0 valid in
    let way : HasWayUp s e = of_all (HasWayUp s) s.extenders e w.ways (among_from s.extenders e (All-head (Contains s.extenders) e ring is.there)) in
    no_way s w (e ∷ ring) is e way.way (inl refl) way.there way.is

pub external_in_words : ExternalInWords
external_in_words s x v r = (external_is_free s v.ranges v.distinct v.tree x r, free_is_external s v.ranges v.distinct x r)

-- Chains of extenders: each hangs on the one before it, and the first on the bridge.
use Rattle.std.proofs.Common.{◌≡◌, ◌≢◌, inl, inr, ℕ, zero, suc, ◌+◌, ◌-◌, ◌*◌, ◌/◌, ◌%◌, ◌<◌, ◌≤◌, true, List, [], ◌∷◌, length, map, AllPairs, refl, sym, ap, subst, ◌∙◌, arith}
use Rattle.std.specs.Prelude.{All, Contains}
use Rattle.std.specs.List.{range_with_len}
use Rattle.std.proofs.lemmas.Bool.{cases_eq}
use Rattle.std.proofs.lemmas.List.Elements.{All-nil, All-cons}
use Rattle.std.proofs.lemmas.List.Kept.{AllPairs-cons}
use Rattle.exb_model.specs.declared.setup.Place.TheVariants as place
use Rattle.exb_model.specs.declared.setup.ExtenderSetup.{ExtenderSetup}
use Rattle.exb_model.specs.Tree.{Shape, IsTree, on, top, trunk, is_port, is_cascade, is_cascade_under, cascades_under}
use Rattle.exb_model.specs.Setup.{port_at, shape_of, IsPlace, InRange, IsStart, IsValid}
use Rattle.exb_model.proofs.TreeWays.{top_low, top_high}
use Rattle.exb_model.proofs.TreeTrunks.{hung_cascade}
use Rattle.exb_model.proofs.TreeLoops.{trunk_is}
use Rattle.exb_model_laws.specs.SetupValidity.{HasPlace, IsWayUp, HasWayUp, link_at, link, chain, ChainIsValid}
use Rattle.exb_model_laws.proofs.SetupTables.{IsAmong, all_among, contains_from, of_all, Has, extender_there}
use Rattle.exb_model_laws.proofs.SetupValidity.{its_place, hangs, place_is_port, tree_is, valid_in_words}
use Rattle.exb_model_laws.proofs.CascadeCounts.{count_at_most, count_at_least, IsBelow, below_from, is_below}

-- ---- the links
abbrev links : ℕ → ℕ → List ExtenderSetup
links a n = map link (range_with_len a n)

-- which link it is
record IsLink (a n : ℕ) (e : ExtenderSetup) : Type 0 where
  number : ℕ
  low : a ≤ number
  high : number < a + n
  is : link number ≡ e

link_of : (a n : ℕ) (e : ExtenderSetup) → IsAmong e (links a n) → IsLink a n e
link_of a zero e h = absurd h
link_of a (suc n) e (inl same) = record { number = a; low = omega arith; high = omega arith; is = same }
link_of a (suc n) e (inr rest) =
    let k : IsLink (a + 1) n e = link_of (a + 1) n e rest in
    record { number = k.number; low = (let z = k.low in omega (arith, z)); high = (let z = k.high in omega (arith, z)); is = k.is }

among_links : (a n m : ℕ) → a ≤ m → m < a + n → IsAmong (link m) (links a n)
among_links a zero m low high = absurd (omega arith)
among_links a (suc n) m low high =
    elim (cases_eq a m) [
      | inl same ↦ inl (ap link same)
      | inr other ↦ inr (among_links (a + 1) n m (omega (arith, other)) (omega arith))
    ]

link_port : (m : ℕ) → port_at (link_at m) ≡ 64 * (m - 1)
link_port zero = refl
link_port (suc zero) = refl
link_port (suc (suc i)) = omega arith

-- links with another number hang elsewhere
other_place : (a m : ℕ) → 1 ≤ a → a < m → link_at a ≢ link_at m
other_place a m some less same = let z : 64 * (a - 1) ≡ 64 * (m - 1) = sym (link_port a) ∙ ap port_at same ∙ link_port m in omega (arith, z)

-- a fact of each link and each later one
links_apart : (R : ExtenderSetup → ExtenderSetup → Type 0) → ((a m : ℕ) → 1 ≤ a → a < m → R (link a) (link m)) → (a n : ℕ) → 1 ≤ a → AllPairs R (links a n)
links_apart R apart a zero some = λ i j d h k. absurd (omega arith)
links_apart R apart a (suc n) some =
    AllPairs-cons R (link a) (links (a + 1) n)
    (all_among (R (link a)) (links (a + 1) n) (λ e h. (let k : IsLink (a + 1) n e = link_of (a + 1) n e h in subst (R (link a)) k.is (apart a k.number some (let z = k.low in omega (arith, z))))))
    (links_apart R apart (a + 1) n (omega arith))

-- the way up from a link
way_of : ℕ → List ExtenderSetup
way_of zero = []
way_of (suc zero) = []
way_of (suc (suc i)) = link (suc i) ∷ way_of (suc i)

module _ (n channels : ℕ) (few : n ≤ 64) where
  link_in_range : (m : ℕ) → 1 ≤ m → m ≤ n → InRange (link m)
  link_in_range m some low = record { numbered = some; number = omega arith; some = omega arith; ports = omega arith; place = at m low }
    where
      at : (m : ℕ) → m ≤ n → IsPlace (link_at m)
      at zero l = (omega arith, omega arith)
      at (suc zero) l = (omega arith, omega arith)
      at (suc (suc i)) l = (omega arith, omega arith, omega arith, omega arith)

  each_link : (P : ExtenderSetup → Type 0) → ((m : ℕ) → 1 ≤ m → m ≤ n → P (link m)) → All P (links 1 n)
  each_link P one = all_among P (links 1 n) (λ e h. (let k : IsLink 1 n e = link_of 1 n e h in subst P k.is (one k.number k.low (let z = k.high in omega (arith, z)))))

  ranges : All InRange (links 1 n)
  ranges = each_link InRange link_in_range

  numbers : AllPairs (λ a b. a.number ≢ b.number) (links 1 n)
  numbers = links_apart (λ (a b : ExtenderSetup). a.number ≢ b.number) (λ a m some less same. omega (arith, less, same)) 1 n (omega arith)

  alone : AllPairs (λ a b. a.on ≢ b.on) (links 1 n)
  alone = links_apart (λ (a b : ExtenderSetup). a.on ≢ b.on) other_place 1 n (omega arith)

  there : (m : ℕ) → 1 ≤ m → m ≤ n → Contains (chain n channels).extenders (link m)
  there m some low = contains_from (links 1 n) (link m) (among_links 1 n m some (omega arith))

  places : All (λ e. HasPlace (chain n channels) e.on) (links 1 n)
  places = each_link (λ e. HasPlace (chain n channels) e.on) at
    where
      at : (m : ℕ) → 1 ≤ m → m ≤ n → HasPlace (chain n channels) (link_at m)
      at zero some low = absurd (omega arith)
      at (suc zero) some low = omega arith
      at (suc (suc i)) some low = (link (suc i), there (suc i) (omega arith) (omega arith), refl, omega arith)

  record GoesUp (m : ℕ) : Type 0 where
    inside : All (Contains (chain n channels).extenders) (way_of m)
    short : length (way_of m) ≤ m - 1
    is : IsWayUp (link m) (way_of m)

  goes_up : (m : ℕ) → m ≤ n → GoesUp m
  unfolding way_of
  goes_up zero low = record { inside = All-nil (Contains (chain n channels).extenders); short = omega arith; is = tt }
  goes_up (suc zero) low = record { inside = All-nil (Contains (chain n channels).extenders); short = omega arith; is = tt }
  goes_up (suc (suc i)) low =
      let rest : GoesUp (suc i) = goes_up (suc i) (omega arith) in
      record {
        inside = All-cons (Contains (chain n channels).extenders) (link (suc i)) (way_of (suc i)) (there (suc i) (omega arith) (omega arith)) rest.inside;
        short = (let z = rest.short in omega (arith, z));
        is = (refl, rest.is);
      }

  ways : All (HasWayUp (chain n channels)) (links 1 n)
  ways = each_link (HasWayUp (chain n channels)) (λ m some low. (let k : GoesUp m = goes_up m low in record { way = way_of m; there = k.inside; few = (let z = k.short in omega (arith, z)); is = k.is }))

  tree : IsTree (shape_of (chain n channels))
  tree = tree_is (chain n channels) ranges numbers places alone ways

  -- ---- its cascade ports
  on_link : (m : ℕ) → 1 ≤ m → m ≤ n → on (shape_of (chain n channels)) m ≡ 64 * (m - 1)
  on_link m some low = its_place (chain n channels) ranges numbers (link m) (among_links 1 n m some (omega arith)) ∙ link_port m

  only_firsts : (k q : ℕ) → is_cascade_under (shape_of (chain n channels)) k q ≡ true → (q % 64 ≡ 0) × (1 ≤ q / 64) × (q / 64 < n)
  only_firsts k q is =
      let b : IsBelow (shape_of (chain n channels)) k q = below_from (shape_of (chain n channels)) k q is in
      let e : Has b.number (links 1 n) = extender_there (chain n channels) b.number b.hangs.extender b.hangs.there in
      let l : IsLink 1 n e.0 = link_of 1 n e.0 e.1 in
      let same : l.number ≡ b.number = ap (λ (x : ExtenderSetup). x.number) l.is ∙ e.2 in
      let low : 1 ≤ l.number = l.low in
      let high : l.number < 1 + n = l.high in
      let at : on (shape_of (chain n channels)) b.number ≡ 64 * (b.number - 1) = on_link b.number (omega (arith, same, low)) (omega (arith, same, high)) in
      let port : q ≡ 64 * (b.number - 1) = sym b.hangs.at ∙ at in
      let far : 64 ≤ q = b.high in
      (omega (arith, port), omega (arith, far), omega (arith, port, far, same, high))

  -- all ways end at the first port of the bridge
  top_is : (d m : ℕ) → m ≤ n → m ≤ suc d → top (shape_of (chain n channels)).on d (port_at (link_at m)) ≡ 0
  top_is d zero low short = top_low (shape_of (chain n channels)) d 0 (omega arith)
  top_is d (suc zero) low short = top_low (shape_of (chain n channels)) d 0 (omega arith)
  top_is zero (suc (suc i)) low short = absurd (omega arith)
  top_is (suc d) (suc (suc i)) low short =
      let t : Shape = shape_of (chain n channels) in
      let device : (64 * suc i + (1 - 1)) / 64 ≡ suc i = omega arith in
      let one : top t.on (suc d) (64 * suc i + (1 - 1)) ≡ top t.on d (on t ((64 * suc i + (1 - 1)) / 64)) = top_high (shape_of (chain n channels)) d (64 * suc i + (1 - 1)) (omega arith) in
      let next : on t ((64 * suc i + (1 - 1)) / 64) ≡ port_at (link_at (suc i)) =
      ap (on t) device ∙ its_place (chain n channels) ranges numbers (link (suc i)) (among_links 1 n (suc i) (omega arith) (omega arith)) in
      one ∙ ap (top t.on d) next ∙ top_is d (suc i) (omega arith) (omega arith)

  all_firsts : (q : ℕ) → q % 64 ≡ 0 → 1 ≤ q / 64 → q / 64 < n → is_cascade_under (shape_of (chain n channels)) 0 q ≡ true
  all_firsts q first some low =
      let t : Shape = shape_of (chain n channels) in
      let m : ℕ = q / 64 in
      let own : q ≡ 64 * (q / 64) + (1 - 1) = omega (arith, first) in
      let l : Contains (chain n channels).extenders (link (q / 64)) = there (q / 64) some (omega (arith, low)) in
      let port : is_port t (64 * (q / 64) + (1 - 1)) ≡ true =
      place_is_port (chain n channels) ranges numbers (place.Extender (q / 64) 1) (some, omega (arith, low), omega arith, omega arith) (link (q / 64), l, refl, omega arith) in
      let above : IsAmong (link (q / 64 + 1)) (links 1 n) = among_links 1 n (q / 64 + 1) (omega arith) (omega (arith, low)) in
      let at : port_at (link_at (q / 64 + 1)) ≡ q = link_port (q / 64 + 1) ∙ omega (arith, first) in
      let cascade = hung_cascade (shape_of (chain n channels)) tree (q / 64 + 1) (port_at (link_at (q / 64 + 1))) (hangs (chain n channels) ranges numbers (link (q / 64 + 1)) above) in
      let under : trunk t (q / 64) ≡ 0 =
      trunk_is (shape_of (chain n channels)) (q / 64) ∙ ap (top t.on 63) (its_place (chain n channels) ranges numbers (link (q / 64)) (among_links 1 n (q / 64) some (omega (arith, low)))) ∙ top_is 63 (q / 64) (omega (arith, low)) (omega (arith, low)) in
      is_below (shape_of (chain n channels)) 0 q (omega (arith, some)) (ap (is_port t) own ∙ port) (ap (is_cascade t) (sym at) ∙ cascade) under

  few_cascades : (k : ℕ) → cascades_under (shape_of (chain n channels)) k ≤ n - 1
  unfolding cascades_under
  few_cascades k = let z = count_at_most (is_cascade_under (shape_of (chain n channels)) k) n (only_firsts k) 4160 in omega (arith, z)

  all_cascades : n - 1 ≤ cascades_under (shape_of (chain n channels)) 0
  unfolding cascades_under
  all_cascades = let z = count_at_least (is_cascade_under (shape_of (chain n channels)) 0) n all_firsts 4160 in omega (arith, z)

  chain_from : 1 ≤ channels → channels ≤ 4094 → n - 1 ≤ channels → IsValid (chain n channels)
  chain_from some most enough = (valid_in_words (chain n channels)).1 (record {
    some_ports = omega arith;
    ports = omega arith;
    some_channels = some;
    channels = most;
    some_groups = omega arith;
    groups = omega arith;
    ageing = inl refl;
    ranges = ranges;
    numbers = numbers;
    places = places;
    alone = alone;
    ways = ways;
    enough_channels = λ k low. (let z = few_cascades k in omega (arith, z, enough));
    start = All-nil (IsStart (shape_of (chain n channels)));
  })

-- the last link's number is in range
no_longer : (n channels : ℕ) → IsValid (chain n channels) → n ≤ 64
no_longer zero channels v = omega arith
no_longer (suc n) channels v = (of_all InRange (links 1 (suc n)) (link (suc n)) v.ranges (among_links 1 (suc n) (suc n) (omega arith) (omega arith))).number

pub chain_is_valid : ChainIsValid
chain_is_valid n channels = (
  λ v. (let few : n ≤ 64 = no_longer n channels v in
      let enough = v.enough_channels 0 (omega arith) in
      let all = all_cascades n channels few in
      (few, v.some_channels, v.channels, omega (arith, enough, all))),
  λ h. chain_from n channels h.0 h.1 h.2 h.3,
)

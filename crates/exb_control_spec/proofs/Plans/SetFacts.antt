-- The sets of a configuration: none is empty or stands twice, and each is below a cascade port of the bridge.
use Rattle.std.proofs.Common.{◌≡◌, ℕ, suc, ◌+◌, ◌-◌, ◌<◌, ◌≤◌, ◌||◌, ◌&&◌, cond, Bool, true, false, not, List, [], ◌∷◌, ◌++◌, length, map, filter, fold, refl, sym, ◌∙◌, ap, subst, arith, inl, inr, eq-eqb}
use Rattle.std.specs.Prelude.{bytes_eq}
use Rattle.std.specs.List.{list_any, flat_map}
use Rattle.std.proofs.lemmas.Bool.{cases_eq, and_parts, ne_eqb, false≢true}
use Rattle.exb_model.specs.Ports.{below, all_ports}
use Rattle.exb_model.specs.Tree.{Shape, IsTree, is_cascade, is_under}
use Rattle.exb_model.specs.Configuration.{Bridge}
use Rattle.exb_model.specs.Refusals.{Source, sources, part, parts, is_empty_set, sets_at, is_kind}
use Rattle.exb_control_spec.specs.Plans.Sets.{PortsAt, parts_of, parts_below, is_same_set, with_set_at, sets_of}
use Rattle.exb_control_spec.proofs.Plans.SpaceSets.{sets_of_each}
use Rattle.exb_control_spec.specs.Plans.Differences.{has_set}
use Rattle.exb_control_spec.specs.Plans.FreshSets.{how_many, is_at}
use Rattle.exb_control_spec.proofs.Plans.DistinctLists.{AreSets, fold_sets}
use Rattle.exb_control_spec.proofs.Plans.EachElement.{Each, each_append, each_flat, each_range, some_passes}
use Rattle.exb_control_spec.proofs.Plans.Trunks.{under_extended, under_trunk, home_cascade}
use Rattle.exb_control_spec.proofs.Plans.GroupClaims.{set_is, set_itself, is_none, AreApart}
use Rattle.std.proofs.lemmas.Slice.Eq.{bytes_eq-Decides}

pub sets_apart : (t : Shape) (b : Bridge) → AreApart (sets_of t b)
unfolding sets_of
sets_apart t b = fold_sets is_none is_same_set set_is set_itself (flat_map (parts_below t b) (sources b)) [] tt

pub bytes_is : (a c : List ℕ) → bytes_eq a c ≡ true → a ≡ c
bytes_is a c e = (bytes_eq-Decides a c).0 e

pub bytes_itself : (a : List ℕ) → bytes_eq a a ≡ true
bytes_itself a = (bytes_eq-Decides a a).1 refl

pub space_sets_apart : (t : Shape) (b : Bridge) (k : ℕ) → AreSets is_empty_set bytes_eq (sets_at t k b)
unfolding sets_at
space_sets_apart t b k = fold_sets is_empty_set bytes_eq bytes_is bytes_itself (parts t k b) [] tt

-- ---- where the sets are
pub record IsBelow (t : Shape) (s : PortsAt) : Type 0 where
  pub from1 : 1 ≤ s.bridge_port
  pub low : s.bridge_port - 1 < 64
  pub cascade : is_cascade t (s.bridge_port - 1) ≡ true

abbrev pub IsBelowIfAny : Shape → PortsAt → Type 0
IsBelowIfAny t s = is_empty_set s.ports ≡ false → IsBelow t s

some_length : (xs : List ℕ) → is_empty_set xs ≡ false → length xs ≡ 0 → ⊥
some_length [] e z = false≢true (sym e)
some_length (x ∷ xs) e z = absurd (omega arith)

empty_filter : (test : ℕ → Bool) (xs : List ℕ) → is_empty_set (filter test xs) ≡ false → is_empty_set xs ≡ false
empty_filter test [] e = e
empty_filter test (x ∷ xs) e = refl

module _ (t : Shape) (valid : IsTree t) (b : Bridge) where
  part_cascade : (k : ℕ) (x : Source) → is_empty_set (part t k b x) ≡ false → is_cascade t k ≡ true
  unfolding part
  part_cascade k x some =
      let test = λ (q : ℕ). is_under t k q && b.present q && x.among q && is_kind x.kind (b.member x.vid q) in
      let f : (q : ℕ) × (test q ≡ true) = some_passes test all_ports (some_length (filter test all_ports) some) in
      let one = and_parts (is_under t k f.0 && b.present f.0 && x.among f.0) (is_kind x.kind (b.member x.vid f.0)) f.1 in
      let two = and_parts (is_under t k f.0 && b.present f.0) (x.among f.0) one.0 in
      let three = and_parts (is_under t k f.0) (b.present f.0) two.0 in
      subst (λ (m : ℕ). is_cascade t m ≡ true) (under_trunk t k f.0 three.0) (home_cascade t valid f.0 (under_extended t k f.0 three.0))

  parts_of_below : (x : Source) (k : ℕ) → k < 64 → Each (IsBelowIfAny t) (parts_of t b x k)
  parts_of_below x k l =
      (λ some. below_is (part_cascade k x some), (λ some. below_is (part_cascade k x (empty_filter (λ q. not (b.rule q).isolated) (part t k b x) some)), tt))
    where
      below_is : {ports : List ℕ} → is_cascade t k ≡ true → IsBelow t (record { bridge_port = k + 1; ports = ports })
      below_is {ports} c =
          let e : k ≡ k + 1 - 1 = omega arith in
          record { from1 = omega arith; low = omega (arith, l); cascade = subst (λ (m : ℕ). is_cascade t m ≡ true) e c }

  all_below : (xs : List Source) → Each (IsBelowIfAny t) (flat_map (parts_below t b) xs)
  unfolding parts_below below
  all_below xs = each_flat (IsBelowIfAny t) (parts_below t b) xs (λ x. each_range (IsBelowIfAny t) (parts_of t b x) 0 64 (λ k l. parts_of_below x k (omega (arith, l))))

  fold_below : (xs sets : List PortsAt) → Each (IsBelowIfAny t) xs → Each (IsBelow t) sets → Each (IsBelow t) (fold with_set_at sets xs)
  fold_below [] sets h are = are
  fold_below (x ∷ xs) sets h are = fold_below xs (with_set_at sets x) h.1 (by_test (is_empty_set x.ports) (list_any (is_same_set x) sets) refl)
    where
      by_test : (e a : Bool) → is_empty_set x.ports ≡ e → Each (IsBelow t) (cond (e || a) sets (sets ++ x ∷ []))
      by_test true a p = are
      by_test false true p = are
      by_test false false p = each_append (IsBelow t) sets (x ∷ []) are (h.0 p, tt)

  pub sets_below : Each (IsBelow t) (sets_of t b)
  unfolding sets_of
  sets_below = fold_below (flat_map (parts_below t b) (sources b)) [] (all_below (sources b)) tt

-- ---- the sets of one bridge port
pub at_port : (s : PortsAt) (xs : List PortsAt) → has_set xs s ≡ list_any (bytes_eq s.ports) (map (λ x. x.ports) (filter (is_at s.bridge_port) xs))
at_port s [] = refl
at_port s (x ∷ xs) =
    elim (cases_eq x.bridge_port s.bridge_port) [
      | inl e ↦ rw (eq-eqb s.bridge_port x.bridge_port (sym e), eq-eqb x.bridge_port s.bridge_port e) (ap (λ b. bytes_eq s.ports x.ports || b) (at_port s xs))
      | inr e ↦ rw (ne_eqb s.bridge_port x.bridge_port (λ f. e (sym f)), ne_eqb x.bridge_port s.bridge_port e) (at_port s xs)
    ]

-- a set is one of all where it is one of its bridge port's
pub has_at : (t : Shape) (b : Bridge) (s : PortsAt) → 1 ≤ s.bridge_port → s.bridge_port - 1 < 64 →
    has_set (sets_of t b) s ≡ list_any (bytes_eq s.ports) (sets_at t (s.bridge_port - 1) b)
has_at t b s from1 low =
    let e : s.bridge_port ≡ s.bridge_port - 1 + 1 = omega arith in
    at_port s (sets_of t b)
    ∙ (ap (λ (n : ℕ). list_any (bytes_eq s.ports) (map (λ x. x.ports) (filter (is_at n) (sets_of t b)))) e
    ∙ ap (list_any (bytes_eq s.ports)) (sets_of_each t b (s.bridge_port - 1) low))

length-map : {X Y : Type 0} (f : X → Y) (xs : List X) → length (map f xs) ≡ length xs
length-map f [] = refl
length-map f (x ∷ xs) = ap suc (length-map f xs)

pub count_at : (t : Shape) (b : Bridge) (k : ℕ) → k < 64 → length (sets_at t k b) ≡ how_many (is_at (k + 1)) (sets_of t b)
count_at t b k l = ap length (sym (sets_of_each t b k l)) ∙ length-map (λ x. x.ports) (filter (is_at (k + 1)) (sets_of t b))

-- Rows of groups, one group more.
use Rattle.std.proofs.Common.{◌≡◌, ℕ, ◌+◌, ◌*◌, ◌==◌, ◌&&◌, Bool, true, false, List, [], ◌∷◌, ◌++◌, Option, Some, None, filter, refl, sym, ◌∙◌, ap, inl, inr, eq-eqb}
use Rattle.std.specs.Prelude.{filter_map}
use Rattle.std.specs.List.{flat_map}
use Rattle.std.proofs.lemmas.Bool.{cases_Bool, cases_eq, cases_lt, ne_eqb}
use Rattle.std.proofs.lemmas.List.{append-nil}
use Rattle.std.proofs.lemmas.List.Elements.{filter_map-append}
use mathlib.Core.Path.{fun_ext}
use Rattle.exb_model.specs.declared.port_set.PortSet.{PortSet}
use Rattle.exb_model.specs.Masks.{bits_of}
use Rattle.exb_model.specs.Ports.{port_in, ports_of, below, all_ports}
use Rattle.exb_model.specs.Tree.{Shape, is_cascade, by_depth}
use Rattle.exb_model.specs.TreeSets.{covers, mask_of}
use Rattle.exb_model.proofs.MaskLemmas.{bits_of-same}
use Rattle.exb_model.proofs.PortLemmas.{any_below-true}
use Rattle.exb_csp.specs.declared.group_rows.GroupRow.{GroupRow}
use Rattle.exb_control_spec.specs.Plans.Sets.{PortsAt}
use Rattle.exb_plan.proofs.SetPorts.{ports_are, past_ports}
use Rattle.exb_csp.specs.declared.ask_at.AskAt.{AskAt}
use Rattle.exb_control_spec.specs.declared.plan.row_action.RowAction.{RowAction}
use Rattle.exb_control_spec.specs.declared.plan.group_at.GroupAt.{GroupAt}
use Rattle.exb_plan.specs.declared.group_requests.Covered.{Covered}
use Rattle.exb_control_spec.specs.Plans.HeldNumbers.{Held, Group}
use Rattle.exb_control_spec.specs.Plans.Differences.{gone_at, gone_groups}
use Rattle.exb_model.specs.Lists.{is_listed}
use Rattle.exb_control_spec.specs.Plans.ChangeRequests.{row_by, row_at, rows_at, asks_with, group_asks}
use Rattle.exb_control_spec.specs.Plans.FreshSets.{seen_group}
use Rattle.exb_plan.specs.PlanValues.{row_of_covered, rows_of_covered}

-- ---- the list of a set's ports as a test
listed_filter : (test : ℕ → Bool) (q : ℕ) (xs : List ℕ) → is_listed (filter test xs) q ≡ (is_listed xs q && test q)
listed_filter test q [] = refl
listed_filter test q (x ∷ xs) =
    elim (cases_eq x q) [
      | inl e ↦ elim (cases_Bool (test q)) [
        | inl t ↦ let y : test x ≡ true = ap test e ∙ t in rw (y, eq-eqb x q e, t) refl
        | inr t ↦ let y : test x ≡ false = ap test e ∙ t in rw (y, eq-eqb x q e, t) (listed_filter test q xs ∙ (rw t (and_false (is_listed xs q))))
      ]
      | inr n ↦ elim (cases_Bool (test x)) [
        | inl t ↦ rw (t, ne_eqb x q n) (listed_filter test q xs)
        | inr t ↦ rw (t, ne_eqb x q n) (listed_filter test q xs)
      ]
    ]
  where
    and_false : (b : Bool) → (b && false) ≡ false
    and_false true = refl
    and_false false = refl

pub listed_is : (a : PortSet) (q : ℕ) → is_listed (ports_of a) q ≡ port_in a q
listed_is a q =
    ap (λ (l : List ℕ). is_listed l q) (ports_are a) ∙ (listed_filter (port_in a) q all_ports ∙ (
    elim (cases_lt q 4160) [
      | inl l ↦ rw (any_below-true (λ x. x == q) 4160 q l (eq-eqb q q refl)) refl
      | inr g ↦ rw (past_ports a q g) (and_false (is_listed all_ports q))
    ]))
  where
    and_false : (b : Bool) → (b && false) ≡ false
    and_false true = refl
    and_false false = refl

pub mask_is : (t : Shape) (set covered : PortSet) (n : ℕ) → ((p : ℕ) → port_in covered p ≡ covers t (port_in set) p) →
    bits_of (λ j. port_in covered (64 * n + j)) 64 ≡ mask_of t (is_listed (ports_of set)) n
mask_is t set covered n is =
    bits_of-same (λ j. port_in covered (64 * n + j)) (λ j. covers t (is_listed (ports_of set)) (64 * n + j)) 64
    (λ j. is (64 * n + j) ∙ ap (λ (s : ℕ → Bool). covers t s (64 * n + j)) (fun_ext (λ q. sym (listed_is set q))))

-- ---- one group more
pub covered_more : (t : Shape) (n : ℕ) (old now : List Covered) (groups : List Group) (c : Covered) (x : GroupAt) → now ≡ old ++ c ∷ [] → c.number ≡ x.number →
    ((p : ℕ) → port_in c.ports p ≡ covers t (port_in x.set) p) → rows_of_covered old n ≡ rows_at t groups n → rows_of_covered now n ≡ rows_at t (groups ++ seen_group x ∷ []) n
covered_more t n old now groups c x e number is before =
    ap (λ (l : List Covered). rows_of_covered l n) e
    ∙ (filter_map-append (row_of_covered n) old (c ∷ [])
    ∙ (ap (λ (l : List GroupRow). l ++ rows_of_covered (c ∷ []) n) before
    ∙ (ap (λ (o : Option GroupRow). rows_at t groups n ++ filter_map (λ (y : Option GroupRow). y) (o ∷ [])) row
    ∙ sym (filter_map-append (row_at t n) groups (seen_group x ∷ [])))))
  where
    row : row_of_covered n c ≡ row_at t n (seen_group x)
    row = ap (λ (m : ℕ). row_by c.number m) (mask_is t x.set c.ports n is) ∙ ap (λ (m : ℕ). row_by m (mask_of t (is_listed (ports_of x.set)) n)) number

pub rows_some : (n : ℕ) (xs : List Covered) (c : Covered) (row : GroupRow) (old now : List GroupRow) → row_of_covered n c ≡ Some row → old ≡ rows_of_covered xs n → now ≡ old ++ row ∷ [] →
    now ≡ rows_of_covered (xs ++ c ∷ []) n
rows_some n xs c row old now is before e =
    e ∙ (ap (λ (l : List GroupRow). l ++ row ∷ []) before
    ∙ (ap (λ (o : Option GroupRow). rows_of_covered xs n ++ filter_map (λ (y : Option GroupRow). y) (o ∷ [])) (sym is) ∙ sym (filter_map-append (row_of_covered n) xs (c ∷ []))))

pub rows_none : (n : ℕ) (xs : List Covered) (c : Covered) (old : List GroupRow) → row_of_covered n c ≡ None → old ≡ rows_of_covered xs n → old ≡ rows_of_covered (xs ++ c ∷ []) n
rows_none n xs c old is before =
    before ∙ (sym (append-nil (rows_of_covered xs n))
    ∙ (ap (λ (o : Option GroupRow). rows_of_covered xs n ++ filter_map (λ (y : Option GroupRow). y) (o ∷ [])) (sym is) ∙ sym (filter_map-append (row_of_covered n) xs (c ∷ []))))

pub all_asks : (t : Shape) (step : RowAction) (groups : List Group) (covered : List Covered) → ((n : ℕ) → rows_of_covered covered n ≡ rows_at t groups n) →
    flat_map (λ (n : ℕ). asks_with step (rows_of_covered covered n) n) (by_depth t) ≡ group_asks step t groups
unfolding group_asks
all_asks t step groups covered is = ap (λ (f : ℕ → List AskAt). flat_map f (by_depth t)) (fun_ext (λ n. ap (λ (rows : List GroupRow). asks_with step rows n) (is n)))

-- ---- groups that are gone
pub gone_everywhere : (t : Shape) (kept : List PortsAt) (h : Held) (n : ℕ) → n ≡ 64 → flat_map (gone_at kept h) (filter (is_cascade t) (below n)) ≡ gone_groups t kept h
unfolding gone_groups
gone_everywhere t kept h n end = ap (λ (m : ℕ). flat_map (gone_at kept h) (filter (is_cascade t) (below m))) end

pub none_below : {Y : Type 0} (f : ℕ → List Y) (test : ℕ → Bool) → [] ≡ flat_map f (filter test (below 0))
unfolding below
none_below f test = refl

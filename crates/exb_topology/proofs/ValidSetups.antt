-- A setup whose extenders the second pass lets through is valid.
use Rattle.std.proofs.Common.{◌≡◌, ◌≢◌, ◌↔◌, ℕ, zero, suc, ◌/◌, ◌%◌, ◌<◌, ◌≤◌, ◌==◌, Bool, true, false, not, cond, nat_lt, List, [], ◌++◌, codes, length, slice_index, get_or, set, take, replicate, Ok, AllPairs, refl, sym, ap, ◌∙◌, arith, inl, inr, IsTrue}
use Rattle.std.specs.List.{list_any}
use Rattle.std.proofs.lemmas.Bool.{cases_Bool, cases_lt, cases_eq, eq-eqb, ne_eqb, ltb-true, lt-ltb, le-ltb, not-false, false≢true}
use Rattle.std.proofs.lemmas.List.{length-take, get_or-take, get_or-set_other, get_or_past}
use Rattle.std.proofs.lemmas.List.Folds.{list_any_at}
use Rattle.exb_model.specs.declared.setup.ExtenderSetup.{ExtenderSetup}
use Rattle.exb_model.specs.declared.setup.Place.{Place}
use Rattle.exb_model.specs.declared.setup.Place.TheVariants as place
use Rattle.exb_model.specs.declared.setup.Setup.{Setup}
use Rattle.exb_model.specs.Tree.{Shape, HangsOn, IsTree, is_port, any_below, top, on, cascades_under}
use Rattle.exb_model.specs.Setup.{IsPlace, IsValid, port_at, shape_of}
use Rattle.exb_model.proofs.TreeWays.{any_below-true, any_below-from}
use Rattle.exb_model.proofs.PortBits.{get_or-same}
use Rattle.exb_toml_keys.specs.declared.faults.KeyFault.TheVariants as fault
use Rattle.exb_toml_keys.specs.Faults.{in_table}
use Rattle.exb_topology.specs.ElementChecks.{each_ok, refuse}
use Rattle.exb_topology.specs.Trees.{ports_of, has_port, hung, rooted, has_few, tree_ok, HasRanges}
use Rattle.exb_topology.proofs.ElementChecks.{ok_at, both_ok, refuse_ok}
use Rattle.exb_topology.proofs.TreeTables.{length-lay, has_number, Apart, apart_from, first_or, ports_of_first, first_laid, first_none, Entry, entry}

-- none of those before passes
none_before : {X : Type 0} (p : X → Bool) (xs : List X) (i j : ℕ) (d : X) → i < j → j < length xs → list_any p (take j xs) ≡ false → p (get_or xs i d) ≡ false
none_before p xs i j d low within none =
    elim (cases_Bool (p (get_or xs i d))) [
      | inl is ↦
          let found : list_any p (take j xs) ≡ true = list_any_at p (take j xs) i d (omega (arith, length-take j xs)) (ap p (get_or-take j xs i d low) ∙ is) in
          absurd (false≢true (sym none ∙ found))
      | inr isnt ↦ isnt
    ]

pub port_at-low : (p : Place) → IsPlace p → port_at p < 4160
port_at-low (place.Bridge k) is = omega (arith, is.0, is.1)
port_at-low (place.Extender n k) is = omega (arith, is.0, is.1, is.2, is.3)

module _ (s : Setup) (ranges : HasRanges s) (hung_ok : each_ok (hung s.ports s.extenders) s.extenders 0 s.extenders ≡ Ok tt) where
  -- what one extender passed
  pub own_number : (k : ℕ) (d : ExtenderSetup) → k < length s.extenders → list_any (λ f. f.number == (get_or s.extenders k d).number) (take k s.extenders) ≡ false
  own_number k d lt =
      let ok = ok_at (hung s.ports s.extenders) s.extenders hung_ok k d lt in
      refuse_ok _ fault.TwoUpstreams _ (both_ok _ _ ok).0

  pub own_port : (k : ℕ) (d : ExtenderSetup) → k < length s.extenders → list_any (λ f. port_at f.on == port_at (get_or s.extenders k d).on) (take k s.extenders) ≡ false
  own_port k d lt =
      let ok = ok_at (hung s.ports s.extenders) s.extenders hung_ok k d lt in
      refuse_ok _ fault.SharedPort _ (both_ok _ _ (both_ok _ _ ok).1).0

  pub there : (k : ℕ) (d : ExtenderSetup) → k < length s.extenders → has_port s.ports s.extenders (port_at (get_or s.extenders k d).on) ≡ true
  there k d lt =
      let ok = ok_at (hung s.ports s.extenders) s.extenders hung_ok k d lt in
      not-false _ (refuse_ok _ fault.UnknownPort _ (both_ok _ _ (both_ok _ _ ok).1).1)

  pub distinct : AllPairs (λ a b. a.number ≢ b.number) s.extenders
  distinct i j d low within same =
      let none = none_before (λ f. f.number == (get_or s.extenders j d).number) s.extenders i j d low within (own_number j d within) in
      false≢true (sym none ∙ eq-eqb (get_or s.extenders i d).number (get_or s.extenders j d).number same)

  apart : Apart s.extenders
  apart = apart_from s.extenders distinct

  no_zero : has_number 0 s.extenders ≡ false
  no_zero =
      elim (cases_Bool (has_number 0 s.extenders)) [
        | inl found ↦
            let e = entry s.extenders 0 found in
            let range = ranges.extenders e.at e.extender e.within in
            let one : 1 ≤ e.extender.number = rw (e.is e.extender) at range.numbered in
            absurd (omega (arith, one, e.number))
        | inr none ↦ none
      ]

  ports_table : List ℕ
  ports_table = set (replicate 65 0) 0 s.ports

  -- the tables of the shape
  pub shape_ports : (n : ℕ) → n < 65 → slice_index (shape_of s).ports n ≡ cond (n == 0) s.ports (ports_of s.extenders n)
  unfolding shape_of
  shape_ports zero lt = first_laid (λ e. e.ports) (set (replicate 65 0) 0 s.ports) s.extenders 0 lt apart ∙ first_none s.ports (λ e. e.ports) s.extenders 0 no_zero
  shape_ports (suc n) lt =
      let zeros : slice_index (set (replicate 65 0) 0 s.ports) (suc n) ≡ 0 = get_or-set_other (replicate 65 0) 0 (suc n) s.ports 0 (λ e. absurd (omega arith)) ∙ get_or-same {X = ℕ} 65 (suc n) 0 in
      first_laid (λ e. e.ports) (set (replicate 65 0) 0 s.ports) s.extenders (suc n) lt apart ∙ ap (λ z. first_or z (λ e. e.ports) s.extenders (suc n)) zeros ∙ sym (ports_of_first s.extenders (suc n)) ∙ ap (λ b. cond b s.ports (ports_of s.extenders (suc n))) (sym (ne_eqb (suc n) 0 (λ e. absurd (omega arith))))

  pub shape_on : (n : ℕ) → n < 65 → on (shape_of s) n ≡ first_or 0 (λ e. port_at e.on) s.extenders n
  unfolding shape_of
  shape_on n lt = first_laid (λ e. port_at e.on) (replicate 65 0) s.extenders n lt apart ∙ ap (λ z. first_or z (λ e. port_at e.on) s.extenders n) (get_or-same {X = ℕ} 65 n 0)

  -- a port that the extenders have is one of the shape
  pub port_there : (p : ℕ) → p < 4160 → has_port s.ports s.extenders p ≡ true → is_port (shape_of s) p ≡ true
  port_there p low has =
      elim (cases_lt p 64) [
        | inl l ↦
            let zero_th : p / 64 ≡ 0 = omega arith in
            let same : p % 64 ≡ p = omega arith in
            let own : slice_index (shape_of s).ports (p / 64) ≡ s.ports = ap (λ n. slice_index (shape_of s).ports n) zero_th ∙ shape_ports 0 (omega arith) in
            let small : nat_lt p s.ports ≡ true = rw (lt-ltb p 64 l) at has in
            rw (own, same) small
        | inr g ↦
            let some : (p / 64 == 0) ≡ false = by_ne (p / 64) (omega arith) in
            let own : slice_index (shape_of s).ports (p / 64) ≡ ports_of s.extenders (p / 64) = shape_ports (p / 64) (omega arith) ∙ ap (λ b. cond b s.ports (ports_of s.extenders (p / 64))) some in
            let small : nat_lt (p % 64) (ports_of s.extenders (p / 64)) ≡ true = rw (le-ltb p 64 g) at has in
            rw own small
      ]
    where
      by_ne : (n : ℕ) → 1 ≤ n → (n == 0) ≡ false
      by_ne n one = ne_eqb n 0 (λ e. absurd (omega (arith, e, one)))

  -- an extender of the shape is one of the list
  pub entry_of : (n : ℕ) → 0 < n → 0 < slice_index (shape_of s).ports n → n < 65 → Entry s.extenders n
  entry_of n some ports low =
      elim (cases_Bool (has_number n s.extenders)) [
        | inl found ↦ entry s.extenders n found
        | inr none ↦
            let zero_ports : ports_of s.extenders n ≡ 0 = ports_of_first s.extenders n ∙ first_none 0 (λ e. e.ports) s.extenders n none in
            let pos : (n == 0) ≡ false = by_pos n some in
            let is : slice_index (shape_of s).ports n ≡ 0 = shape_ports n low ∙ ap (λ b. cond b s.ports (ports_of s.extenders n)) pos ∙ zero_ports in
            absurd (omega (arith, is, ports))
      ]
    where
      by_pos : (n : ℕ) → 0 < n → (n == 0) ≡ false
      by_pos n one = ne_eqb n 0 (λ e. absurd (omega (arith, e, one)))

  ports_sized : length (shape_of s).ports ≡ 65
  unfolding shape_of
  ports_sized = length-lay (λ e. e.ports) (set (replicate 65 0) 0 s.ports) s.extenders

  low_number : (n : ℕ) → 0 < slice_index (shape_of s).ports n → n < 65
  low_number n some =
      elim (cases_lt n 65) [
        | inl l ↦ l
        | inr g ↦ let none = get_or_past (shape_of s).ports n 0 (omega (arith, ports_sized)) in absurd (omega (arith, none, some))
      ]

  -- where an extender of the shape hangs
  pub hangs_at : (n : ℕ) → n < 65 → (e : Entry s.extenders n) → on (shape_of s) n ≡ port_at e.extender.on
  hangs_at n low e = shape_on n low ∙ e.first 0 (λ e. port_at e.on)

  is_on_port : (n : ℕ) → 0 < n → 0 < slice_index (shape_of s).ports n → is_port (shape_of s) (on (shape_of s) n) ≡ true
  is_on_port n some ports =
      let low = low_number n ports in
      let e = entry_of n some ports low in
      let range = ranges.extenders e.at e.extender e.within in
      let place : IsPlace e.extender.on = rw (e.is e.extender) at range.place in
      let has : has_port s.ports s.extenders (port_at e.extender.on) ≡ true = rw (e.is e.extender) at (there e.at e.extender e.within) in
      rw (hangs_at n low e) (port_there (port_at e.extender.on) (port_at-low e.extender.on place) has)

  is_alone : (n m p : ℕ) → HangsOn (shape_of s) n p → HangsOn (shape_of s) m p → n ≡ m
  is_alone n m p a b =
      let low_n = low_number n a.there in
      let low_m = low_number m b.there in
      let e = entry_of n a.extender a.there low_n in
      let f = entry_of m b.extender b.there low_m in
      let same : port_at e.extender.on ≡ port_at f.extender.on = sym (hangs_at n low_n e) ∙ a.at ∙ sym b.at ∙ hangs_at m low_m f in
      elim (cases_lt e.at f.at) [
        | inl l ↦ absurd (apart_ports e.at f.at e.extender f.extender l f.within (e.is e.extender) (f.is f.extender) same)
        | inr g ↦ elim (cases_eq e.at f.at) [
          | inl one ↦
              let one_extender : e.extender ≡ f.extender = sym (e.is e.extender) ∙ ap (λ k. get_or s.extenders k e.extender) one ∙ f.is e.extender in
              sym e.number ∙ ap (λ (x : ExtenderSetup). x.number) one_extender ∙ f.number
          | inr other ↦ absurd (apart_ports f.at e.at f.extender e.extender (omega arith) e.within (f.is f.extender) (e.is e.extender) (sym same))
        ]
      ]
    where
      apart_ports : (i j : ℕ) (x y : ExtenderSetup) → i < j → j < length s.extenders → get_or s.extenders i x ≡ x → get_or s.extenders j y ≡ y → port_at x.on ≡ port_at y.on → ⊥
      apart_ports i j x y low within is_x is_y same =
          let none = none_before (λ f. port_at f.on == port_at (get_or s.extenders j y).on) s.extenders i j x low within (own_port j y within) in
          false≢true (sym none ∙ eq-eqb (port_at (get_or s.extenders i x).on) (port_at (get_or s.extenders j y).on) (ap (λ (z : ExtenderSetup). port_at z.on) is_x ∙ same ∙ sym (ap (λ (z : ExtenderSetup). port_at z.on) is_y)))

  is_rooted : each_ok (rooted (shape_of s)) s.extenders 0 s.extenders ≡ Ok tt → (n : ℕ) → 0 < n → 0 < slice_index (shape_of s).ports n → top (shape_of s).on 63 (on (shape_of s) n) < 64
  is_rooted ok n some ports =
      let low = low_number n ports in
      let e = entry_of n some ports low in
      let passed = ok_at (rooted (shape_of s)) s.extenders ok e.at e.extender e.within in
      let reached = ltb-true _ 64 (not-false _ (refuse_ok _ fault.Loop _ passed)) in
      let at : top (shape_of s).on 63 (port_at e.extender.on) < 64 = rw (e.is e.extender) at reached in
      rw (hangs_at n low e) at

  pub tree_from : each_ok (rooted (shape_of s)) s.extenders 0 s.extenders ≡ Ok tt → IsTree (shape_of s)
  tree_from ok = record { sized = ports_sized; on_port = is_on_port; alone = is_alone; rooted = is_rooted ok }

-- no port of the bridge has more cascade ports below it
pub enough_from : (t : Shape) (channels : ℕ) → has_few t channels ≡ false → (k : ℕ) → k < 64 → cascades_under t k ≤ channels
unfolding has_few
enough_from t channels none k low =
    elim (cases_lt channels (cascades_under t k)) [
      | inl more ↦ absurd (false≢true (sym none ∙ any_below-from (λ k. nat_lt channels (cascades_under t k)) 64 k low (lt-ltb channels (cascades_under t k) more)))
      | inr enough ↦ enough
    ]

pub few_from : (t : Shape) (channels : ℕ) → ((k : ℕ) → k < 64 → cascades_under t k ≤ channels) → has_few t channels ≡ false
unfolding has_few
few_from t channels enough =
    elim (cases_Bool (any_below (λ k. nat_lt channels (cascades_under t k)) 64)) [
      | inl some ↦
          let (k, low, more) = any_below-true (λ k. nat_lt channels (cascades_under t k)) 64 some in
          absurd (omega (arith, ltb-true channels (cascades_under t k) more, enough k low))
      | inr none ↦ none
    ]

pub valid_from : (s : Setup) → HasRanges s → s.start ≡ [] → each_ok (hung s.ports s.extenders) s.extenders 0 s.extenders ≡ Ok tt → each_ok (rooted (shape_of s)) s.extenders 0 s.extenders ≡ Ok tt → has_few (shape_of s) s.channels ≡ false → IsValid s
valid_from s ranges bare hung_ok rooted_ok none = record {
  some_ports = ranges.some_ports;
  ports = ranges.ports;
  some_channels = ranges.some_channels;
  channels = ranges.channels;
  some_groups = ranges.some_groups;
  groups = ranges.groups;
  ageing = ranges.ageing;
  ranges = ranges.extenders;
  distinct = distinct s ranges hung_ok;
  tree = tree_from s ranges hung_ok rooted_ok;
  enough_channels = enough_from (shape_of s) s.channels none;
  start = λ k d lt. absurd (omega (arith, lt, ap (λ xs. length xs) bare));
}

-- few channels are all that can be wrong then
pub few_is : (s : Setup) (valid : Bool) → (IsTrue valid ↔ IsValid s) → HasRanges s → s.start ≡ [] → each_ok (hung s.ports s.extenders) s.extenders 0 s.extenders ≡ Ok tt → each_ok (rooted (shape_of s)) s.extenders 0 s.extenders ≡ Ok tt → has_few (shape_of s) s.channels ≡ not valid
few_is s true exact ranges bare hung_ok rooted_ok = few_from (shape_of s) s.channels (exact.0 refl).enough_channels
few_is s false exact ranges bare hung_ok rooted_ok =
    elim (cases_Bool (has_few (shape_of s) s.channels)) [
      | inl some ↦ some
      | inr none ↦ absurd (false≢true (exact.1 (valid_from s ranges bare hung_ok rooted_ok none)))
    ]

pub tree_ok_is : (s : Setup) → each_ok (hung s.ports s.extenders) s.extenders 0 s.extenders ≡ Ok tt → each_ok (rooted (shape_of s)) s.extenders 0 s.extenders ≡ Ok tt
    → tree_ok s ≡ refuse (has_few (shape_of s) s.channels) fault.FewChannels (in_table (codes "bridge") ++ codes "channels")
unfolding tree_ok
tree_ok_is s hung_ok rooted_ok = rw (hung_ok, rooted_ok) refl

-- Which sources a command touches.
use Rattle.std.proofs.Common.{◌≡◌, ◌≢◌, ℕ, zero, suc, ◌+◌, ◌<◌, ◌≤◌, ◌==◌, Bool, true, false, cond, List, [], ◌∷◌, ◌++◌, Some, None, filter, take, refl, sym, ◌∙◌, ap, inl, inr, arith, eq-eqb, eqb-true}
use Rattle.std.specs.Prelude.{Option, find, option_map, slice_get, bytes_eq}
use Rattle.std.specs.List.{flat_map, range_with_len}
use Rattle.std.proofs.lemmas.Bool.{cases_Bool, cases_eq, ne_eqb, and_parts}
use Rattle.std.proofs.lemmas.List.{append-nil}
use Rattle.std.proofs.lemmas.List.Concat.{flat_map-append}
use Rattle.std.proofs.lemmas.List.Elements.{filter-append}
use Rattle.exb_model.specs.declared.vlan.Kind.{Kind}
use Rattle.exb_model.specs.declared.vlan.Kind.TheVariants.{Tagged, Untagged}
use Rattle.exb_model.specs.declared.rules.StaticAt.{StaticAt}
use Rattle.exb_model.specs.declared.command.Command.{Command}
use Rattle.exb_model.specs.declared.command.Command.TheVariants as command
use Rattle.exb_model.specs.Ports.{port_in}
use Rattle.exb_model.specs.Configuration.{Bridge, is_for}
use Rattle.exb_model.specs.declared.address.Mac.{Mac}
use Rattle.exb_model.specs.declared.port_set.PortSet.{PortSet}
use Rattle.exb_model.proofs.PortLemmas.{range-more}
use Rattle.exb_model.specs.Refusals.{Source, sources, all_vids, both_kinds}
use Rattle.exb_control_spec.specs.Plans.TouchedParts.{has_port, sources_of_entry, sources_if, touched_before, touched_after}
use Rattle.exb_plan.specs.TouchedSources.{sources_of_vlans, is_of, vlans_touched, entry_touched}

-- ---- filters
pub filter-flat_map : {X Y : Type 0} (test : Y → Bool) (f : X → List Y) (xs : List X) → filter test (flat_map f xs) ≡ flat_map (λ x. filter test (f x)) xs
filter-flat_map test f [] = refl
filter-flat_map test f (x ∷ xs) = filter-append test (f x) (flat_map f xs) ∙ ap (λ l. filter test (f x) ++ l) (filter-flat_map test f xs)

pub flat_map-filter : {X Y : Type 0} (test : X → Bool) (f : X → List Y) (xs : List X) → flat_map f (filter test xs) ≡ flat_map (λ x. cond (test x) (f x) []) xs
flat_map-filter test f [] = refl
flat_map-filter test f (x ∷ xs) =
    elim (cases_Bool (test x)) [
      | inl h ↦ rw h (ap (λ l. f x ++ l) (flat_map-filter test f xs))
      | inr h ↦ rw h (flat_map-filter test f xs)
    ]

pub entry_more : {X Y : Type 0} (f : X → List Y) (xs : List X) (x : X) → flat_map f xs ++ f x ≡ flat_map f (xs ++ x ∷ [])
entry_more f xs x = ap (λ l. flat_map f xs ++ l) (sym (append-nil (f x))) ∙ sym (flat_map-append f xs (x ∷ []))

pub whole_list : {X : Type 0} (xs : List X) (n : ℕ) → slice_get xs n ≡ None → take n xs ≡ xs
whole_list [] zero h = refl
whole_list [] (suc n) h = refl
whole_list (x ∷ xs) zero h = absurd (is_some_none h)
  where
    is_some_none : {X : Type 0} {x : X} → Some x ≡ None → ⊥
    is_some_none h = cc
whole_list (x ∷ xs) (suc n) h = ap (λ l. x ∷ l) (whole_list xs n h)

-- ---- what is there, by a part of it
pub mapped_some : {X Y : Type 0} (f : X → Y) (o : Option X) (y : Y) → option_map f o ≡ Some y → (x : X) × (o ≡ Some x) × (f x ≡ y)
mapped_some f (Some x) y h = (x, refl, same (f x) y h)
  where
    same : {Y : Type 0} (a b : Y) → Some a ≡ Some b → a ≡ b
    same a b h = cc
mapped_some f None y h = absurd (none_some y h)
  where
    none_some : {Y : Type 0} (y : Y) → None ≡ Some y → ⊥
    none_some y h = cc

pub mapped_none : {X Y : Type 0} (f : X → Y) (o : Option X) → option_map f o ≡ None → o ≡ None
mapped_none f None h = refl
mapped_none f (Some x) h = absurd (some_none (f x) h)
  where
    some_none : {Y : Type 0} (y : Y) → Some y ≡ None → ⊥
    some_none y h = cc

-- ---- the two kinds of a VLAN
pub kinds_with : (b : Bridge) (p vid : ℕ) (test : ℕ → Bool) (kind : Kind) → test p ≡ true → b.member vid p ≡ Some kind →
    filter (has_port b p) (both_kinds vid test) ≡ record { vid = vid; kind = kind; among = test } ∷ []
kinds_with b p vid test Tagged h e = rw (h, e) refl
kinds_with b p vid test Untagged h e = rw (h, e) refl

pub kinds_without : (b : Bridge) (p vid : ℕ) (test : ℕ → Bool) → test p ≡ true → b.member vid p ≡ None → filter (has_port b p) (both_kinds vid test) ≡ []
kinds_without b p vid test h e = rw (h, e) refl

pub kinds_apart : (b : Bridge) (p vid : ℕ) (test : ℕ → Bool) → test p ≡ false → filter (has_port b p) (both_kinds vid test) ≡ []
kinds_apart b p vid test h = rw h refl

pub kinds_of : (v w : ℕ) (test : ℕ → Bool) → w ≡ v → filter (is_of v) (both_kinds w test) ≡ both_kinds w test
kinds_of v w test e = rw (eq-eqb w v e) refl

pub kinds_off : (v w : ℕ) (test : ℕ → Bool) → w ≢ v → filter (is_of v) (both_kinds w test) ≡ []
kinds_off v w test e = rw (ne_eqb w v e) refl

-- ---- the sources of one VLAN
all_kinds : List ℕ → List Source
all_kinds vids = flat_map (λ w. both_kinds w (λ q. true)) vids

none_in : (v a n : ℕ) → v < a → filter (is_of v) (all_kinds (range_with_len a n)) ≡ []
unfolding all_kinds
none_in v a zero h = refl
none_in v a (suc n) h = rw (ne_eqb a v (λ e. omega arith)) (none_in v (a + 1) n (omega arith))

one_in : (v a n : ℕ) → a ≤ v → v < a + n → filter (is_of v) (all_kinds (range_with_len a n)) ≡ both_kinds v (λ q. true)
unfolding all_kinds
one_in v a zero low high = absurd (omega arith)
one_in v a (suc n) low high =
    elim (cases_eq a v) [
      | inl e ↦ rw (eq-eqb a v e, none_in v (a + 1) n (omega arith)) (ap (λ (w : ℕ). both_kinds w (λ q. true)) e)
      | inr e ↦ rw (ne_eqb a v e) (one_in v (a + 1) n (omega arith) (omega arith))
    ]

pub one_vlan : (v : ℕ) → 1 ≤ v → v ≤ 4094 → filter (is_of v) sources_of_vlans ≡ both_kinds v (λ q. true)
unfolding all_kinds sources_of_vlans all_vids
one_vlan v low high = one_in v 1 4094 low (omega arith)

-- one VLAN more
pub vlans_more : (b : Bridge) (p n v : ℕ) → v ≡ 1 + n →
    filter (has_port b p) (flat_map (λ w. both_kinds w (λ q. true)) (range_with_len 1 n)) ++ filter (has_port b p) (both_kinds v (λ q. true))
    ≡ filter (has_port b p) (flat_map (λ w. both_kinds w (λ q. true)) (range_with_len 1 (suc n)))
vlans_more b p n v e =
    let f : ℕ → List Source = λ w. both_kinds w (λ q. true) in
    let before : List Source = flat_map f (range_with_len 1 n) in
    let whole : before ++ f (1 + n) ≡ flat_map f (range_with_len 1 (suc n)) =
    ap (λ (l : List Source). before ++ l) (sym (append-nil (f (1 + n)))) ∙ (sym (flat_map-append f (range_with_len 1 n) ((1 + n) ∷ [])) ∙ ap (flat_map f) (sym (range-more 1 n))) in
    ap (λ (w : ℕ). filter (has_port b p) before ++ filter (has_port b p) (f w)) e
    ∙ (sym (filter-append (has_port b p) before (f (1 + n))) ∙ ap (filter (has_port b p)) whole)

pub vlans_are : flat_map (λ w. both_kinds w (λ q. true)) (range_with_len 1 4094) ≡ sources_of_vlans
unfolding sources_of_vlans all_vids
vlans_are = refl

-- ---- commands that touch nothing
module _ (b : Bridge) where
  pub no_vlan : (c : Command) → ((v : ℕ) (s u : PortSet) → c ≡ command.Vlan v s u → ⊥) → ((v p : ℕ) (k : Kind) → c ≡ command.Member v p k → ⊥) →
      ((v p : ℕ) → c ≡ command.Unmember v p → ⊥) → ((p : ℕ) (on : Bool) → c ≡ command.Isolate p on → ⊥) → ((p : ℕ) → c ≡ command.Up p → ⊥) →
      ((p : ℕ) → c ≡ command.Down p → ⊥) → vlans_touched c b ≡ []
  no_vlan (command.Vlan v s u) vlan member unmember isolate up down = absurd (vlan v s u refl)
  no_vlan (command.Member v p k) vlan member unmember isolate up down = absurd (member v p k refl)
  no_vlan (command.Unmember v p) vlan member unmember isolate up down = absurd (unmember v p refl)
  no_vlan (command.Pvid p v) vlan member unmember isolate up down = refl
  no_vlan (command.Accept p types) vlan member unmember isolate up down = refl
  no_vlan (command.Filter p on) vlan member unmember isolate up down = refl
  no_vlan (command.Isolate p on) vlan member unmember isolate up down = absurd (isolate p on refl)
  no_vlan (command.Static v m ports) vlan member unmember isolate up down = refl
  no_vlan (command.Unstatic v m) vlan member unmember isolate up down = refl
  no_vlan (command.Up p) vlan member unmember isolate up down = absurd (up p refl)
  no_vlan (command.Down p) vlan member unmember isolate up down = absurd (down p refl)

  pub no_entry : (e : StaticAt) (c : Command) → ((v : ℕ) (s u : PortSet) → c ≡ command.Vlan v s u → ⊥) → ((v p : ℕ) (k : Kind) → c ≡ command.Member v p k → ⊥) →
      ((v p : ℕ) → c ≡ command.Unmember v p → ⊥) → ((v : ℕ) (m : Mac) → c ≡ command.Unstatic v m → ⊥) → ((p : ℕ) (on : Bool) → c ≡ command.Isolate p on → ⊥) →
      ((p : ℕ) → c ≡ command.Up p → ⊥) → ((p : ℕ) → c ≡ command.Down p → ⊥) → entry_touched c b e ≡ []
  no_entry e (command.Vlan v s u) vlan member unmember unstatic isolate up down = absurd (vlan v s u refl)
  no_entry e (command.Member v p k) vlan member unmember unstatic isolate up down = absurd (member v p k refl)
  no_entry e (command.Unmember v p) vlan member unmember unstatic isolate up down = absurd (unmember v p refl)
  no_entry e (command.Pvid p v) vlan member unmember unstatic isolate up down = refl
  no_entry e (command.Accept p types) vlan member unmember unstatic isolate up down = refl
  no_entry e (command.Filter p on) vlan member unmember unstatic isolate up down = refl
  no_entry e (command.Isolate p on) vlan member unmember unstatic isolate up down = absurd (isolate p on refl)
  no_entry e (command.Static v m ports) vlan member unmember unstatic isolate up down = refl
  no_entry e (command.Unstatic v m) vlan member unmember unstatic isolate up down = absurd (unstatic v m refl)
  no_entry e (command.Up p) vlan member unmember unstatic isolate up down = absurd (up p refl)
  no_entry e (command.Down p) vlan member unmember unstatic isolate up down = absurd (down p refl)

  -- all but those of an entry that is put or removed
  pub same_after : (c : Command) → ((v : ℕ) (m : Mac) (ports : PortSet) → c ≡ command.Static v m ports → ⊥) → ((v : ℕ) (m : Mac) → c ≡ command.Unstatic v m → ⊥) →
      touched_after c b ≡ touched_before c b
  same_after (command.Vlan v s u) static unstatic = refl
  same_after (command.Member v p k) static unstatic = refl
  same_after (command.Unmember v p) static unstatic = refl
  same_after (command.Pvid p v) static unstatic = refl
  same_after (command.Accept p types) static unstatic = refl
  same_after (command.Filter p on) static unstatic = refl
  same_after (command.Isolate p on) static unstatic = refl
  same_after (command.Static v m ports) static unstatic = absurd (static v m ports refl)
  same_after (command.Unstatic v m) static unstatic = absurd (unstatic v m refl)
  same_after (command.Up p) static unstatic = refl
  same_after (command.Down p) static unstatic = refl

-- ---- the entry that a command puts anew
pub entry_there : (v : ℕ) (m : List ℕ) (es : List StaticAt) (ports : PortSet) → option_map (λ (e : StaticAt). e.ports) (find (is_for v m) es) ≡ Some ports →
    both_kinds v (port_in ports) ≡ sources_if (find (is_for v m) es)
entry_there v m [] ports h = absurd (cc)
entry_there v m (y ∷ ys) ports h =
    elim (cases_Bool (is_for v m y)) [
      | inl e ↦
          let same : y.ports ≡ ports = some_is (rw e at h) in
          let vid : y.vid ≡ v = eqb-true y.vid v (and_parts (y.vid == v) (bytes_eq y.address.0 m) e).0 in
          rw (e, same, vid) refl
      | inr e ↦ rw e (entry_there v m ys ports (rw e at h))
    ]
  where
    some_is : {X : Type 0} {x y : X} → Some x ≡ Some y → x ≡ y
    some_is h = cc

pub entry_none : (v : ℕ) (m : List ℕ) (es : List StaticAt) → option_map (λ (e : StaticAt). e.ports) (find (is_for v m) es) ≡ None → sources_if (find (is_for v m) es) ≡ []
entry_none v m [] h = refl
entry_none v m (y ∷ ys) h =
    elim (cases_Bool (is_for v m y)) [
      | inl e ↦ absurd (is_some_none (rw e at h))
      | inr e ↦ rw e (entry_none v m ys (rw e at h))
    ]
  where
    is_some_none : {X : Type 0} {x : X} → Some x ≡ None → ⊥
    is_some_none h = cc

-- ---- the touched sources
module _ (b : Bridge) where
  none : List Source
  none = []

  passing : (test : Source → Bool) → filter test (sources b) ≡ filter test sources_of_vlans ++ flat_map (λ e. filter test (sources_of_entry e)) b.statics
  unfolding sources sources_of_vlans
  passing test =
      let vlans : List Source = flat_map (λ v. both_kinds v (λ q. true)) all_vids in
      filter-append test vlans (flat_map sources_of_entry b.statics) ∙ ap (λ (l : List Source). filter test vlans ++ l) (filter-flat_map test sources_of_entry b.statics)

  nothing : (es : List StaticAt) → flat_map (λ (e : StaticAt). none) es ≡ none
  unfolding none
  nothing [] = refl
  nothing (e ∷ es) = nothing es

  -- all but those of an entry that is put
  pub touched_is : (c : Command) → ((v : ℕ) (m : Mac) (ports : PortSet) → c ≡ command.Static v m ports → ⊥) →
      touched_before c b ≡ vlans_touched c b ++ flat_map (entry_touched c b) b.statics
  unfolding none
  touched_is (command.Vlan v tagged untagged) other = passing (is_of v)
  touched_is (command.Member v p kind) other = passing (is_of v)
  touched_is (command.Unmember v p) other = passing (is_of v)
  touched_is (command.Pvid p v) other = sym (nothing b.statics)
  touched_is (command.Accept p types) other = sym (nothing b.statics)
  touched_is (command.Filter p on) other = sym (nothing b.statics)
  touched_is (command.Isolate p on) other = passing (has_port b p)
  touched_is (command.Static v m ports) other = absurd (other v m ports refl)
  touched_is (command.Unstatic v m) other = flat_map-filter (is_for v m.0) sources_of_entry b.statics
  touched_is (command.Up p) other = passing (has_port b p)
  touched_is (command.Down p) other = passing (has_port b p)

-- Outputs that are made one after the other.
use Rattle.std.proofs.Common.{◌≡◌, ◌≢◌, ◌<◌, ◌+◌, ◌==◌, ◌∙◌, ◌⊎◌, inl, inr, ℕ, Bool, true, false, Result, Ok, Err, cond, ap, sym, refl, arith, eq-eqb}
use Rattle.std.proofs.lemmas.Bool.{cases_Bool, cases_eq, cases_lt, false≢true, ne_eqb}
use Rattle.exb_shelf.specs.Shelf.{Id, Opens, writing}
use Rattle.exb_inputs.specs.declared.fault.Fault.{Fault}
use Rattle.exb_inputs.specs.declared.fault.Fault.TheVariants.{Usage, Missing, Topology as BadTopology, Capture, Changed, Net as BadNet, Member as BadMember, MemberCapture, MemberChanged, Output, TooLarge, BadLine, Illegal, Read, Write, Memory}
use Rattle.exb_inputs.specs.FaultPhases.{IsOfCapture}
use Rattle.exb_outputs.specs.CreationOrder.{IsLate, MakesFile, MadeInOrder, MakesInOrder}
use Rattle.exb_outputs.specs.Manifests.{output_name, Listed, output_count}
use Rattle.exb_outputs.specs.ShelfEffects.{IsOfWriting}

-- ---- ids
given_as : (i j : Id) → i ≡ j → j.given ≡ true → i.given ≡ true
given_as i j same is = ap (λ (x : Id). x.given) same ∙ is

written : (i : Id) (manifest : Listed) (j : ℕ) → i ≡ writing (output_name manifest j) → i.given ≡ true
written i manifest j is = ap (λ (x : Id). x.given) is

-- one that wasn't given isn't one that was
pub not_given : (a : ℕ → Id) (i j : ℕ) → (a i).given ≡ true → (a j).given ≡ false → i ≢ j
not_given a i j is free same = false≢true (sym free ∙ sym (ap (λ (k : ℕ). (a k).given) same) ∙ is)

-- ---- none
pub made_none : (manifest : Listed) (a : ℕ → Id) → MadeInOrder manifest 0 a a
made_none manifest a = record {
  at = λ j. j;
  within = omega arith;
  fresh = λ j low. absurd (omega arith);
  named = λ j low. absurd (omega arith);
  rises = λ i j less low. absurd (omega arith);
  only = λ id free given reads. absurd (false≢true (sym free ∙ given));
}

-- ---- one more
module _ (manifest : Listed) (k : ℕ) (a b c : ℕ → Id) (m : MadeInOrder manifest k a b) (kept : (j : ℕ) → (a j).given ≡ true → b j ≡ a j) (id : ℕ) (room : k < output_count manifest) (free : (b id).given ≡ false)
    (above : (j : ℕ) → (b j).given ≡ true → j < id) (here : c id ≡ writing (output_name manifest k)) (others : (j : ℕ) → j ≢ id → c j ≡ b j) where
  at_more : ℕ → ℕ
  at_more j = cond (j == k) id (m.at j)

  at_old : (j : ℕ) → j < k → at_more j ≡ m.at j
  unfolding at_more
  at_old j low = ap (λ (x : Bool). cond x id (m.at j)) (ne_eqb j k (λ e. omega arith))

  at_new : at_more k ≡ id
  unfolding at_more
  at_new = ap (λ (x : Bool). cond x id (m.at k)) (eq-eqb k k refl)

  old_given : (j : ℕ) → j < k → (b (m.at j)).given ≡ true
  old_given j low = written (b (m.at j)) manifest j (m.named j low)

  new_free : (a id).given ≡ false
  new_free = elim (cases_Bool (a id).given) [
    | inl was ↦ absurd (false≢true (sym free ∙ given_as (b id) (a id) (kept id was) was))
    | inr not ↦ not
  ]

  pub made_next : MadeInOrder manifest (k + 1) a c
  made_next = record {
    at = at_more;
    within = omega arith;
    fresh = λ j low. elim (cases_lt j k) [
      | inl old ↦ ap (λ (i : ℕ). (a i).given) (at_old j old) ∙ m.fresh j old
      | inr last ↦ let same : j ≡ k = omega arith in ap (λ (i : ℕ). (a (at_more i)).given) same ∙ ap (λ (i : ℕ). (a i).given) at_new ∙ new_free
    ];
    named = λ j low. elim (cases_lt j k) [
      | inl old ↦ ap c (at_old j old) ∙ others (m.at j) (not_given b (m.at j) id (old_given j old) free) ∙ m.named j old
      | inr last ↦ let same : j ≡ k = omega arith in ap (λ (i : ℕ). c (at_more i)) same ∙ ap c at_new ∙ here ∙ ap (λ (i : ℕ). writing (output_name manifest i)) (sym same)
    ];
    rises = λ i j less low. elim (cases_lt j k) [
      | inl old ↦
          let first : at_more i ≡ m.at i = at_old i (omega arith) in
          let second : at_more j ≡ m.at j = at_old j old in
          let up : m.at i < m.at j = m.rises i j less old in
          omega arith
      | inr last ↦
          let same : j ≡ k = omega arith in
          let first : at_more i ≡ m.at i = at_old i (omega arith) in
          let new : at_more j ≡ id = ap at_more same ∙ at_new in
          let up : m.at i < id = above (m.at i) (old_given i (omega arith)) in
          omega arith
    ];
    only = λ j was given reads. elim (cases_eq j id) [
      | inl same ↦ (k, omega arith, same ∙ sym at_new)
      | inr other ↦
          let as_before : c j ≡ b j = others j other in
          let found = m.only j was (ap (λ (x : Id). x.given) (sym as_before) ∙ given) (ap (λ (x : Id). x.reads) (sym as_before) ∙ reads) in
          (found.0, (let low : found.0 < k = found.1 in omega arith), found.2 ∙ sym (at_old found.0 found.1))
    ];
  }

pub made_more : (manifest : Listed) (k : ℕ) (a b c : ℕ → Id) → MadeInOrder manifest k a b → ((j : ℕ) → (a j).given ≡ true → b j ≡ a j) → k < output_count manifest → (id : ℕ) → MakesFile id (output_name manifest k) b c → MadeInOrder manifest (k + 1) a c
made_more manifest k a b c m kept room id is = made_next manifest k a b c m kept id room is.fresh is.above is.named is.others

-- ---- where files are opened to be read, before and after
pub made_same : (manifest : Listed) (k : ℕ) (a b c : ℕ → Id) → MadeInOrder manifest k a b → ((j : ℕ) → c j ≡ b j) → MadeInOrder manifest k a c
made_same manifest k a b c m same = record {
  at = m.at;
  within = m.within;
  fresh = m.fresh;
  named = λ j low. same (m.at j) ∙ m.named j low;
  rises = m.rises;
  only = λ id free given reads. m.only id free (ap (λ (x : Id). x.given) (sym (same id)) ∙ given) (ap (λ (x : Id). x.reads) (sym (same id)) ∙ reads);
}

pub made_then_read : (P : Id → Type 0) (manifest : Listed) (k : ℕ) (a b c : ℕ → Id) → ((i : Id) → P i → i.reads ≡ true) → MadeInOrder manifest k a b → Opens P b c → MadeInOrder manifest k a c
made_then_read P manifest k a b c reading m opens = record {
  at = m.at;
  within = m.within;
  fresh = m.fresh;
  named = λ j low. opens.kept (m.at j) (written (b (m.at j)) manifest j (m.named j low)) ∙ m.named j low;
  rises = m.rises;
  only = λ id free given reads. elim (cases_Bool (b id).given) [
    | inl was ↦ let same : c id ≡ b id = opens.kept id was in m.only id free was (ap (λ (x : Id). x.reads) (sym same) ∙ reads)
    | inr not ↦ absurd (false≢true (sym reads ∙ reading (c id) (opens.fresh id not given)))
  ];
}

pub read_then_made : (P : Id → Type 0) (manifest : Listed) (k : ℕ) (a b c : ℕ → Id) → ((i : Id) → P i → i.reads ≡ true) → Opens P a b → ((j : ℕ) → (b j).given ≡ true → c j ≡ b j) → MadeInOrder manifest k b c → MadeInOrder manifest k a c
read_then_made P manifest k a b c reading opens kept m = record {
  at = m.at;
  within = m.within;
  fresh = λ j low. elim (cases_Bool (a (m.at j)).given) [
    | inl was ↦ absurd (false≢true (sym (m.fresh j low) ∙ given_as (b (m.at j)) (a (m.at j)) (opens.kept (m.at j) was) was))
    | inr not ↦ not
  ];
  named = m.named;
  rises = m.rises;
  only = λ id free given reads. elim (cases_Bool (b id).given) [
    | inl was ↦ absurd (false≢true (sym (ap (λ (x : Id). x.reads) (sym (kept id was)) ∙ reads) ∙ reading (b id) (opens.fresh id free was)))
    | inr not ↦ m.only id not given reads
  ];
}

-- ---- how many
pub makes_all : {X : Type 0} (manifest : Listed) (k : ℕ) (result : Result X Fault) (a b : ℕ → Id) → MadeInOrder manifest k a b → k ≡ output_count manifest → MakesInOrder manifest result a b
makes_all manifest k result a b m full = record { count = k; made = m; all = λ late. full; unread = λ failed. inr full }

writing_early : (X : Type 0) (x : Fault) → IsOfWriting x → IsLate {X = X} (Err x) → ⊥
writing_early X Usage is late = late
writing_early X (Missing name) is late = late
writing_early X (BadTopology fault) is late = late
writing_early X (Capture p flaw) is late = late
writing_early X (Changed p at) (inl is) late = cc
writing_early X (Changed p at) (inr is) late = cc
writing_early X (BadNet fault) is late = late
writing_early X (BadMember name fault) is late = late
writing_early X (MemberCapture name p flaw) is late = late
writing_early X (MemberChanged name p at) is late = late
writing_early X (Output p broke) is late = late
writing_early X (TooLarge what) is late = late
writing_early X (BadLine what n) is late = late
writing_early X (Illegal r) is late = late
writing_early X Read is late = late
writing_early X Write is late = late
writing_early X Memory is late = late

capture_early : (X : Type 0) (x : Fault) → IsOfCapture x → IsLate {X = X} (Err x) → ⊥
capture_early X Usage is late = late
capture_early X (Missing name) is late = late
capture_early X (BadTopology fault) is late = late
capture_early X (Capture p flaw) is late = late
capture_early X (Changed p at) is late = is
capture_early X (BadNet fault) is late = late
capture_early X (BadMember name fault) is late = late
capture_early X (MemberCapture name p flaw) is late = late
capture_early X (MemberChanged name p at) is late = late
capture_early X (Output p broke) is late = late
capture_early X (TooLarge what) is late = late
capture_early X (BadLine what n) is late = late
capture_early X (Illegal r) is late = late
capture_early X Read is late = late
capture_early X Write is late = late
capture_early X Memory is late = late

-- the fault of a result of another type
fault_as : {X Y : Type 0} (x y : Fault) → ◌≡◌ {A = Result X Fault} (Err x) (Err y) → ◌≡◌ {A = Result Y Fault} (Err x) (Err y)
fault_as {X = X} {Y = Y} x y e = let same : x ≡ y = cc in ap (λ (z : Fault). Err z) same

-- while files are made nothing is read
pub writing_not_read : (X : Type 0) (x : Fault) → IsOfWriting x → ◌≡◌ {A = Result X Fault} (Err x) (Err Read) → ⊥
writing_not_read X x (inl is) e = (let z : ⊥ = cc in z)
writing_not_read X x (inr is) e = (let z : ⊥ = cc in z)

pub makes_some : {X : Type 0} (manifest : Listed) (k : ℕ) (x : Fault) (a b c : ℕ → Id) → MadeInOrder manifest k a b → ((j : ℕ) → (a j).given ≡ true → b j ≡ a j) → k < output_count manifest
    → ((j : ℕ) → c j ≡ b j) ⊎ ((id : ℕ) × MakesFile id (output_name manifest k) b c) → IsOfWriting x → MakesInOrder {X = X} manifest (Err x) a c
makes_some {X = X} manifest k x a b c m kept room (inl same) is = record { count = k; made = made_same manifest k a b c m same; all = λ late. absurd (writing_early X x is late); unread = λ failed. absurd (writing_not_read X x is failed) }
makes_some {X = X} manifest k x a b c m kept room (inr (id, made)) is = record { count = k + 1; made = made_more manifest k a b c m kept room id made; all = λ late. absurd (writing_early X x is late); unread = λ failed. absurd (writing_not_read X x is failed) }

-- none, where only captures were opened
pub makes_none : {X : Type 0} (P : Id → Type 0) (manifest : Listed) (x : Fault) (a b : ℕ → Id) → ((i : Id) → P i → i.reads ≡ true) → Opens P a b → IsOfCapture x → MakesInOrder {X = X} manifest (Err x) a b
makes_none {X = X} P manifest x a b reading opens is = record { count = 0; made = made_then_read P manifest 0 a a b reading (made_none manifest a) opens; all = λ late. absurd (capture_early X x is late); unread = λ failed. inl refl }

-- what was made, where captures are opened behind it, and whatever ends it then
pub makes_then_read : {X Y : Type 0} (P : Id → Type 0) (manifest : Listed) (first : X) (result : Result Y Fault) (a b c : ℕ → Id) → ((i : Id) → P i → i.reads ≡ true) → MakesInOrder manifest (Ok first) a b → Opens P b c → MakesInOrder manifest result a c
makes_then_read P manifest first result a b c reading m opens = record { count = m.count; made = made_then_read P manifest m.count a b c reading m.made opens; all = λ late. m.all tt; unread = λ failed. inr (m.all tt) }

-- and where they are opened before it
pub read_then_makes : {X : Type 0} (P : Id → Type 0) (manifest : Listed) (result : Result X Fault) (a b c : ℕ → Id) → ((i : Id) → P i → i.reads ≡ true) → Opens P a b → ((j : ℕ) → (b j).given ≡ true → c j ≡ b j) → MakesInOrder manifest result b c
    → MakesInOrder manifest result a c
read_then_makes P manifest result a b c reading opens kept m = record { count = m.count; made = read_then_made P manifest m.count a b c reading opens kept m.made; all = m.all; unread = m.unread }

-- the fault of another call
pub makes_as : {X Y : Type 0} (manifest : Listed) (x : Fault) (a b : ℕ → Id) → MakesInOrder {X = X} manifest (Err x) a b → MakesInOrder {X = Y} manifest (Err x) a b
makes_as {X = X} {Y = Y} manifest x a b m = record { count = m.count; made = m.made; all = late_as x m.all; unread = λ failed. m.unread (fault_as {X = Y} {Y = X} x Read failed) }
  where
    late_as : (y : Fault) → (IsLate {X = X} (Err y) → m.count ≡ output_count manifest) → IsLate {X = Y} (Err y) → m.count ≡ output_count manifest
    late_as Usage all late = absurd late
    late_as (Missing name) all late = absurd late
    late_as (BadTopology fault) all late = absurd late
    late_as (Capture p flaw) all late = absurd late
    late_as (Changed p at) all late = all tt
    late_as (BadNet fault) all late = absurd late
    late_as (BadMember name fault) all late = absurd late
    late_as (MemberCapture name p flaw) all late = absurd late
    late_as (MemberChanged name p at) all late = absurd late
    late_as (Output p broke) all late = absurd late
    late_as (TooLarge what) all late = absurd late
    late_as (BadLine what n) all late = absurd late
    late_as (Illegal r) all late = absurd late
    late_as Read all late = absurd late
    late_as Write all late = absurd late
    late_as Memory all late = absurd late

-- What calls say of the shelf, one after the other.
use Rattle.std.proofs.Common.{◌≡◌, ◌+◌, ◌∙◌, ◌⊎◌, inl, inr, ℕ, List, Some, Result, Ok, Err, ap, arith, refl, sym, subst}
use Rattle.std.specs.Prelude.{IfErr}
use Rattle.std.proofs.lemmas.Bool.{cases_Bool, cases_eq, false≢true}
use Rattle.exb_shelf.specs.FaultCounts.{one_more}
use Rattle.exb_shelf.specs.Shelf.{Faults, Id, IsReadingOf, Opens, Rose, NoFewer}
use Rattle.exb_toml_keys.specs.Faults.{Refusal, not_toml, large, at}
use Rattle.exb_topology_tables.specs.declared.elements.Named.{Named}
use Rattle.exb_inputs.specs.declared.fault.Fault.{Fault}
use Rattle.exb_inputs.specs.declared.fault.Fault.TheVariants.{Missing, Read, Write, Memory}
use Rattle.exb_inputs.specs.Answers.{IsRefusal, refused_by}
use Rattle.exb_inputs.specs.FaultCounts.{CountsFault, CountsOnce}
use Rattle.exb_inputs.specs.Inputs.{name_of}
use Rattle.exb_inputs.specs.ShelfEffects.{CountsFaults, OpensEach, OpensNew}

-- ---- what is counted
pub fewer_then : (a b c : Faults) → NoFewer a b → NoFewer b c → NoFewer a c
fewer_then a b c h k = record {
  missing = let x = h.missing in let y = k.missing in omega arith;
  reads = let x = h.reads in let y = k.reads in omega arith;
  writes = let x = h.writes in let y = k.writes in omega arith;
}

-- ---- each fault once
more_rises : (n : ℕ) → Rose n (one_more n)
more_rises n low = omega (arith, low)

-- a count that rose did so for this fault
pub counted_once : {X : Type 0} (result : Result X Fault) (a b : Faults) → NoFewer a b → CountsOnce result a b → CountsFaults result a b
counted_once result a b fewer once = record {
  none_fell = fewer;
  missing = λ name e. subst (Rose a.missing) (sym (ap (λ (f : Faults). f.missing) (by_fault (Missing name) e))) (more_rises a.missing);
  read = λ e. subst (Rose a.reads) (sym (ap (λ (f : Faults). f.reads) (by_fault Read e))) (more_rises a.reads);
  write = λ e. subst (Rose a.writes) (sym (ap (λ (f : Faults). f.writes) (by_fault Write e))) (more_rises a.writes);
  once = once;
}
  where
    by_fault : (x : Fault) → result ≡ Err x → CountsFault x a b
    by_fault x e = subst (λ (r : Result _ Fault). CountsOnce r a b) e once

pub counts_as : {X Y : Type 0} (x : Fault) (a b : Faults) → CountsFaults {X = X} (Err x) a b → CountsFaults {X = Y} (Err x) a b
counts_as x a b counts = counted_once (Err x) a b counts.none_fell counts.once

-- after a call that counted nothing
pub counts_from : {X : Type 0} (result : Result X Fault) (a b c : Faults) → b ≡ a → CountsFaults result b c → CountsFaults result a c
counts_from result a b c same counts = subst (λ (f : Faults). CountsFaults result f c) same counts

-- where nothing was counted
pub fewer_same : (a b : Faults) → b ≡ a → NoFewer a b
fewer_same a b same = subst (λ (f : Faults). NoFewer a f) (sym same) (record { missing = omega arith; reads = omega arith; writes = omega arith })

pub counts_ok : {X : Type 0} (x : X) (a b : Faults) → b ≡ a → CountsFaults (Ok x) a b
counts_ok x a b same = counted_once (Ok x) a b (fewer_same a b same) same

pub counts_memory : {X : Type 0} (a b : Faults) → b ≡ a → CountsFaults {X = X} (Err Memory) a b
counts_memory a b same = counted_once (Err Memory) a b (fewer_same a b same) (inl same)

-- why a topology is refused is no fault of the shelf
refusal_counts : (refusal : Refusal) (a : Faults) → CountsFault (refused_by refusal) a a
refusal_counts not_toml a = refl
refusal_counts large a = refl
refusal_counts (at fault key) a = refl

pub refused_counts : (bytes : List ℕ) (x : Fault) (a : Faults) → IsRefusal bytes x ⊎ (x ≡ Memory) → CountsFault x a a
refused_counts bytes x a (inl (refusal, read, is)) = subst (λ (y : Fault). CountsFault y a a) (sym is) (refusal_counts refusal a)
refused_counts bytes x a (inr memory) = subst (λ (y : Fault). CountsFault y a a) (sym memory) (inl refl)

pub parsed_counts : {X : Type 0} (bytes : List ℕ) (result : Result X Fault) (a b : Faults) → b ≡ a → IfErr result (λ (x : Fault). IsRefusal bytes x ⊎ (x ≡ Memory)) → CountsFaults result a b
parsed_counts bytes (Ok x) a b same refused = counts_ok x a b same
parsed_counts bytes (Err x) a b same refused = counted_once (Err x) a b (fewer_same a b same) (subst (λ (f : Faults). CountsFault x a f) (sym same) (refused_counts bytes x a refused))

-- ---- what is opened
-- what was opened stays
pub new_stays : (P : Id → Type 0) (name : List ℕ) (a b c : ℕ → Id) → OpensNew name a b → Opens P b c → OpensNew name a c
new_stays P name a b c (id, fresh, reads) opens = (id, fresh, subst (IsReadingOf name) (sym (opens.kept id reads.given)) reads)

-- what is opened later is new too
pub new_later : (P : Id → Type 0) (name : List ℕ) (a b c : ℕ → Id) → Opens P a b → OpensNew name b c → OpensNew name a c
new_later P name a b c opens (id, fresh, reads) = (
  id,
  elim (cases_Bool (a id).given) [
    | inl given ↦ absurd (false≢true (sym fresh ∙ ap (λ (i : Id). i.given) (opens.kept id given) ∙ given))
    | inr free ↦ free
  ],
  reads,
)

pub each_none : (names : List Named) (a : ℕ → Id) → OpensEach names 0 a a
each_none names a q name low named = absurd (omega (arith, low))

-- a port more, whose capture was opened if it has one
pub each_next : (P Q : Id → Type 0) (names : List Named) (n : ℕ) (a b c : ℕ → Id) → OpensEach names n a b → Opens P a b → Opens Q b c → ((name : List ℕ) → name_of names n ≡ Some name → OpensNew name b c) → OpensEach names (n + 1) a c
each_next P Q names n a b c each before opens one q name low named = elim (cases_eq q n) [
  | inl same ↦ new_later P name a b c before (one name (ap (name_of names) (sym same) ∙ named))
  | inr other ↦ new_stays Q name a b c (each q name (omega (arith, low, other)) named) opens
]

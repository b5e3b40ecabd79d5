-- What comes as a record is one: the one of its port that has its index.
use Rattle.std.proofs.Common.{◌≡◌, ℕ, suc, ◌++◌, nat_lt, List, [], ◌∷◌, length, map, Some, refl, ap, sym, ◌∙◌, subst, arith, inl, inr}
use Rattle.std.specs.Prelude.{flat_map, max, slice_get}
use Rattle.std.proofs.lemmas.Bool.{cases_Bool}
use Rattle.std.proofs.lemmas.List.{append_assoc, length-append}
use Rattle.exb_model.specs.declared.arrival.Arrival.{Arrival}
use Rattle.exb_model.specs.Input.{Input, Coming, Given, Record, Ordered, Captured, all_arrivals, arrivals_at, arrivals_from, commands_from}
use Rattle.exb_model.specs.Lists.{numbered}
use Rattle.exb_model.specs.Ports.{all_ports, below}
use Rattle.exb_net_spec.specs.Nets.{Net}
use Rattle.exb_net_spec.specs.NetHistory.{Due, all_due, due_at, due_moment, dues, dues_by_moment, put_due, start_of_all}

-- ---- each of a list
abbrev pub Each : {A : Type 0} → (A → Type 0) → List A → Type 0
Each P [] = Unit {0}
Each P (x ∷ xs) = P x × Each P xs

pub each_both : {A : Type 0} (P : A → Type 0) (xs ys : List A) → Each P xs → Each P ys → Each P (xs ++ ys)
each_both P [] ys x y = y
each_both P (d ∷ xs) ys x y = (x.0, each_both P xs ys x.1 y)

pub each_of : {A : Type 0} (P R : A → Type 0) → ((x : A) → P x → R x) → (xs : List A) → Each P xs → Each R xs
each_of P R f [] all = tt
each_of P R f (x ∷ xs) all = (f x all.0, each_of P R f xs all.1)

each_flat : {A : Type 0} (P : A → Type 0) (f : ℕ → List A) → ((k : ℕ) → Each P (f k)) → (ks : List ℕ) → Each P (flat_map f ks)
each_flat P f all [] = tt
each_flat P f all (k ∷ ks) = each_both P (f k) (flat_map f ks) (all k) (each_flat P f all ks)

put_each : (P : Due → Type 0) (x : Due) (ys : List Due) → P x → Each P ys → Each P (put_due x ys)
put_each P x [] here all = (here, tt)
put_each P x (y ∷ ys) here all = elim (cases_Bool (nat_lt (due_moment y) (due_moment x))) [
  | inl e ↦ rw e (all.0, put_each P x ys here all.1)
  | inr e ↦ rw e (here, all)
]

sorted_each : (P : Due → Type 0) (xs : List Due) → Each P xs → Each P (dues_by_moment xs)
sorted_each P [] all = tt
sorted_each P (x ∷ xs) all = put_each P x (dues_by_moment xs) all.0 (sorted_each P xs all.1)

-- ---- records by their numbers
pub at_seam : {A : Type 0} (front : List A) (x : A) (rest : List A) → slice_get (front ++ x ∷ rest) (length front) ≡ Some x
at_seam [] x rest = refl
at_seam (y ∷ front) x rest = at_seam front x rest

-- it is of that port, and the one with its index
abbrev IsNumbered : ℕ → List Arrival → Arrival → Type 0
IsNumbered p all a = (a.port ≡ p) × (numbered all a.index ≡ Some a)

from_numbered : (p n least : ℕ) (rs : List Record) (front : List Arrival) → n ≡ suc (length front) → Each (IsNumbered p (front ++ arrivals_from p n least rs)) (arrivals_from p n least rs)
from_numbered p n least [] front same = tt
from_numbered p n least (r ∷ rs) front same =
    let a : Arrival = record { port = p; index = n; moment = max least r.time; bytes = r.bytes } in
    let rest : List Arrival = arrivals_from p (suc n) (max least r.time) rs in
    let longer : suc n ≡ suc (length (front ++ a ∷ [])) = (let more = length-append front (a ∷ []) in omega (arith, more, same)) in (
      (refl, ap (numbered (front ++ a ∷ rest)) same ∙ at_seam front a rest),
      subst (λ (all : List Arrival). Each (IsNumbered p all) rest) (append_assoc front (a ∷ []) rest) (from_numbered p (suc n) (max least r.time) rs (front ++ a ∷ []) longer),
    )

abbrev pub IsRecordOf : Input → Arrival → Type 0
IsRecordOf i a = numbered (arrivals_at i a.port) a.index ≡ Some a

at_numbered : (i : Input) (p : ℕ) → Each (IsRecordOf i) (arrivals_at i p)
unfolding arrivals_at
at_numbered i p = each_of (IsNumbered p (arrivals_from p 1 0 (i.records p))) (IsRecordOf i) (λ a is. subst (λ (q : ℕ). numbered (arrivals_from q 1 0 (i.records q)) a.index ≡ Some a) (sym is.0) is.1) (arrivals_from p 1 0 (i.records p)) (from_numbered p 1 0 (i.records p) [] refl)

all_numbered : (i : Input) → Each (IsRecordOf i) (all_arrivals i)
unfolding all_arrivals
all_numbered i = each_flat (IsRecordOf i) (arrivals_at i) (at_numbered i) all_ports

-- ---- what comes
abbrev pub IsOfRecord : Input → Coming → Type 0
IsOfRecord i (Ordered moment k) = Unit {0}
IsOfRecord i (Captured a) = IsRecordOf i a

module _ (n : Net) where
  abbrev pub IsRecorded : Due → Type 0
  IsRecorded d = IsOfRecord (n.input d.bridge) d.coming

  orders_recorded : (b start k : ℕ) (cs : List Given) → Each IsRecorded (due_at b (commands_from start k cs))
  orders_recorded b start k [] = tt
  orders_recorded b start k (c ∷ cs) = (tt, orders_recorded b start (suc k) cs)

  captured_recorded : (b : ℕ) (as_ : List Arrival) → Each (IsRecordOf (n.input b)) as_ → Each IsRecorded (due_at b (map Captured as_))
  captured_recorded b [] all = tt
  captured_recorded b (a ∷ as_) all = (all.0, captured_recorded b as_ all.1)

  captured_each : (P : Due → Type 0) → ((b : ℕ) (a : Arrival) → P (record { bridge = b; coming = Captured a })) → (b : ℕ) (as_ : List Arrival) → Each P (due_at b (map Captured as_))
  captured_each P all b [] = tt
  captured_each P all b (a ∷ as_) = (all b a, captured_each P all b as_)

  dues_of : (P : Due → Type 0) → ((b : ℕ) → Each P (due_at b (commands_from (start_of_all n) 1 (n.input b).commands))) → ((b : ℕ) → Each P (due_at b (map Captured (all_arrivals (n.input b))))) → Each P (dues n)
  unfolding dues
  dues_of P orders records =
      sorted_each P (all_due n)
      (each_both P (flat_map (λ b. due_at b (commands_from (start_of_all n) 1 (n.input b).commands)) (below n.count)) (flat_map (λ b. due_at b (map Captured (all_arrivals (n.input b)))) (below n.count))
      (each_flat P (λ b. due_at b (commands_from (start_of_all n) 1 (n.input b).commands)) orders (below n.count))
      (each_flat P (λ b. due_at b (map Captured (all_arrivals (n.input b)))) records (below n.count)))

  -- what holds of each command, and of any record, holds of all that comes
  pub dues_each : (P : Due → Type 0) → ((b : ℕ) → Each P (due_at b (commands_from (start_of_all n) 1 (n.input b).commands))) → ((b : ℕ) (a : Arrival) → P (record { bridge = b; coming = Captured a })) → Each P (dues n)
  dues_each P orders records = dues_of P orders (λ b. captured_each P records b (all_arrivals (n.input b)))

  pub dues_recorded : Each IsRecorded (dues n)
  dues_recorded = dues_of IsRecorded (λ b. orders_recorded b (start_of_all n) 1 (n.input b).commands) (λ b. captured_recorded b (all_arrivals (n.input b)) (all_numbered (n.input b)))

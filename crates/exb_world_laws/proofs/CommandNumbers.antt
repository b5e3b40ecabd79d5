-- Commands by their numbers, and arrivals by theirs.
use Rattle.std.proofs.Common.{◌≡◌, ℕ, zero, suc, ◌+◌, ◌==◌, ◌++◌, List, [], ◌∷◌, length, Some, None, refl, ap, sym, ◌∙◌, subst, arith, inl, inr, append_assoc, length-append}
use Rattle.std.specs.Prelude.{filter_map, flat_map, slice_get, IsPermutation}
use Rattle.std.specs.List.{range_with_len}
use Rattle.std.proofs.lemmas.Bool.{cases_Bool, eqb-true}
use Rattle.std.proofs.lemmas.List.Sorted.{length_permutation, Contains-permutation}
use Rattle.exb_model.specs.declared.command.Command.{Command}
use Rattle.exb_model.specs.declared.event.Event.{Event}
use Rattle.exb_model.specs.declared.event.Event.TheVariants as event
use Rattle.exb_model.specs.History.{Basis, History, command_of}
use Rattle.exb_model.specs.declared.arrival.Arrival.{Arrival}
use Rattle.exb_model.specs.Input.{Segment}
use Rattle.exb_model.specs.LegalHistory.{EachEvent, IsEntered, IsRelayOf}
use Rattle.exb_model.specs.Lists.{numbered}
use Rattle.exb_flight.specs.Items.{Each}
use Rattle.exb_world_laws.specs.WorldInput.{Given, Came, Told, arrivals_of, arrivals_at, indices_of}
use Rattle.exb_world_laws.specs.WorldInvariant.{IsSurely}

cons_nil : {A : Type 0} {x : A} {xs : List A} → x ∷ xs ≡ [] → ⊥
cons_nil e = cc

heads : {A : Type 0} {x y : A} {xs ys : List A} → x ∷ xs ≡ y ∷ ys → x ≡ y
heads e = cc

tails : {A : Type 0} {x y : A} {xs ys : List A} → x ∷ xs ≡ y ∷ ys → xs ≡ ys
tails e = cc

pub none_permuted : {A : Type 0} (xs : List A) → IsPermutation xs [] → xs ≡ []
none_permuted {A} [] k = refl
none_permuted {A} (x ∷ xs) k = absurd (let e = length_permutation (x ∷ xs) [] k in omega (arith, e))

-- ---- numbers that go on from one to the next
pub record Front (c m : ℕ) (xs ys : List ℕ) : Type 0 where
  pub left : ℕ
  pub front : xs ≡ range_with_len c (length xs)
  pub rest : ys ≡ range_with_len (c + length xs) left
  pub size : m ≡ length xs + left

pub front_range : (xs ys : List ℕ) (c m : ℕ) → xs ++ ys ≡ range_with_len c m → Front c m xs ys
front_range [] ys c m e = record { left = m; front = refl; rest = e ∙ ap (λ (k : ℕ). range_with_len k m) (plus_none c); size = omega arith }
  where
    plus_none : (c : ℕ) → c ≡ c + 0
    plus_none c = omega arith
front_range (x ∷ xs) ys c zero e = absurd (cons_nil e)
front_range (x ∷ xs) ys c (suc m) e =
    let k = front_range xs ys (c + 1) m (tails e) in
    record {
      left = k.left;
      front = ap (λ (z : ℕ). z ∷ xs) (heads e) ∙ ap (λ (zs : List ℕ). c ∷ zs) k.front;
      rest = k.rest ∙ ap (λ (z : ℕ). range_with_len z k.left) (moved c (length xs));
      size = (let z = k.size in omega (arith, z));
    }
  where
    moved : (c n : ℕ) → (c + 1) + n ≡ c + suc n
    moved c n = omega arith

-- ---- commands
module _ (b : Basis) where
  abbrev pub HasCommand : ℕ → Type 0
  HasCommand n = (c : Command) × (command_of b n ≡ Some c)

  -- they go on from c, and there are such commands
  abbrev pub GoOn : ℕ → List Segment → Type 0
  GoOn c [] = Unit {0}
  GoOn c (s ∷ ss) = (s.commands ≡ range_with_len c (length s.commands)) × Each HasCommand s.commands × GoOn (c + length s.commands) ss

  each_front : (xs ys : List ℕ) → Each HasCommand (xs ++ ys) → Each HasCommand xs × Each HasCommand ys
  each_front [] ys k = (tt, k)
  each_front (x ∷ xs) ys k = (let r = each_front xs ys k.1 in ((k.0, r.0), r.1))

  pub go_on : (ss : List Segment) (c m : ℕ) → flat_map (λ (s : Segment). s.commands) ss ≡ range_with_len c m → Each HasCommand (flat_map (λ (s : Segment). s.commands) ss) → GoOn c ss
  go_on [] c m e k = tt
  go_on (s ∷ ss) c m e k =
      let f = front_range s.commands (flat_map (λ (z : Segment). z.commands) ss) c m e in
      let parts = each_front s.commands (flat_map (λ (z : Segment). z.commands) ss) k in
      (f.front, parts.0, go_on ss (c + length s.commands) f.left f.rest parts.1)

  filter_some : (n : ℕ) (ns : List ℕ) (c : Command) → command_of b n ≡ Some c → filter_map (command_of b) (n ∷ ns) ≡ c ∷ filter_map (command_of b) ns
  filter_some n ns c e = rw e refl

  -- so many commands as numbers
  pub as_many : (ns : List ℕ) → Each HasCommand ns → length (filter_map (command_of b) ns) ≡ length ns
  as_many [] k = refl
  as_many (n ∷ ns) k = ap (λ (xs : List Command). length xs) (filter_some n ns k.0.0 k.0.1) ∙ ap suc (as_many ns k.1)

  get_last : (pre : List Command) (x : Command) (ys : List Command) → slice_get (pre ++ x ∷ ys) (length pre) ≡ Some x
  get_last [] x ys = refl
  get_last (y ∷ pre) x ys = get_last pre x ys

  record AllFrom (pre cs : List Command) : Type 0 where
    each_is : Each HasCommand (range_with_len (length pre + 1) (length cs))
    all_is : filter_map (command_of b) (range_with_len (length pre + 1) (length cs)) ≡ cs

  all_from : (pre cs : List Command) → b.commands ≡ pre ++ cs → AllFrom pre cs
  all_from pre [] e = record { each_is = tt; all_is = refl }
  all_from pre (c ∷ cs) e =
      let here : command_of b (length pre + 1) ≡ Some c = ap (command_of b) (as_suc (length pre)) ∙ (ap (λ (xs : List Command). slice_get xs (length pre)) e ∙ get_last pre c cs) in
      let longer : length (pre ++ c ∷ []) + 1 ≡ (length pre + 1) + 1 = (let z = length-append pre (c ∷ []) in omega (arith, z)) in
      let k = all_from (pre ++ c ∷ []) cs (e ∙ sym (append_assoc pre (c ∷ []) cs)) in
      record {
        each_is = ((c, here), subst (λ (n : ℕ). Each HasCommand (range_with_len n (length cs))) longer k.each_is);
        all_is = filter_some (length pre + 1) (range_with_len ((length pre + 1) + 1) (length cs)) c here
            ∙ ap (λ (xs : List Command). c ∷ xs) (ap (λ (n : ℕ). filter_map (command_of b) (range_with_len n (length cs))) (sym longer) ∙ k.all_is);
      }
    where
      as_suc : (n : ℕ) → n + 1 ≡ suc n
      as_suc n = omega arith

  -- all numbers are of the commands, and name them all
  pub all_commands : Each HasCommand (range_with_len 1 (length b.commands)) × (filter_map (command_of b) (range_with_len 1 (length b.commands)) ≡ b.commands)
  all_commands = (let k = all_from [] b.commands refl in (k.each_is, k.all_is))

-- ---- arrivals by their indices
get_port : (P : Arrival → Type 0) (p : ℕ) (g : List Given) (k : ℕ) (a : Arrival) → slice_get (arrivals_at p g) k ≡ Some a → Each P (arrivals_of g) → P a × (a.port ≡ p)
get_port P p [] k a e all = absurd (none_some e)
  where
    none_some : None ≡ Some a → ⊥
    none_some z = cc
get_port P p (Told c ∷ g) k a e all = get_port P p g k a e all
get_port P p (Came x ∷ g) k a e all =
    elim (cases_Bool (x.port == p)) [
      | inr other ↦ get_port P p g k a (rw other at e) all.1
      | inl same ↦ by_place k (rw same at e) (λ j z. get_port P p g j a z all.1) (eqb-true x.port p same)
    ]
  where
    by_place : (k : ℕ) → slice_get (x ∷ arrivals_at p g) k ≡ Some a → ((j : ℕ) → slice_get (arrivals_at p g) j ≡ Some a → P a × (a.port ≡ p)) → x.port ≡ p → P a × (a.port ≡ p)
    by_place zero z rest at = (subst P (some_same z) all.0, ap (λ (y : Arrival). y.port) (sym (some_same z)) ∙ at)
      where
        some_same : Some x ≡ Some a → x ≡ a
        some_same q = cc
    by_place (suc j) z rest at = rest j z

get_index : (xs : List Arrival) (k : ℕ) (a : Arrival) → slice_get xs k ≡ Some a → slice_get (indices_of xs) k ≡ Some a.index
get_index [] k a e = absurd (none_some e)
  where
    none_some : None ≡ Some a → ⊥
    none_some z = cc
get_index (x ∷ xs) zero a e = ap (λ (y : Arrival). Some y.index) (some_same e)
  where
    some_same : Some x ≡ Some a → x ≡ a
    some_same z = cc
get_index (x ∷ xs) (suc k) a e = get_index xs k a e

get_range : (c m k x : ℕ) → slice_get (range_with_len c m) k ≡ Some x → x ≡ c + k
get_range c zero k x e = absurd (none_some e)
  where
    none_some : None ≡ Some x → ⊥
    none_some z = cc
get_range c (suc m) zero x e = (let z = some_same e in omega (arith, z))
  where
    some_same : Some c ≡ Some x → c ≡ x
    some_same z = cc
get_range c (suc m) (suc k) x e = (let z = get_range (c + 1) m k x e in omega (arith, z))

-- the arrival that is found by its number is one that was given, of that port and with that index
pub found_given : (P : Arrival → Type 0) (p n : ℕ) (g : List Given) (a : Arrival) → indices_of (arrivals_at p g) ≡ range_with_len 1 (length (arrivals_at p g)) → numbered (arrivals_at p g) n ≡ Some a → Each P (arrivals_of g) →
    P a × ((a.port ≡ p) × (a.index ≡ n))
found_given P p zero g a indexed e all = absurd (none_some e)
  where
    none_some : None ≡ Some a → ⊥
    none_some z = cc
found_given P p (suc k) g a indexed e all =
    let here = get_port P p g k a e all in
    let index : slice_get (range_with_len 1 (length (arrivals_at p g))) k ≡ Some a.index = ap (λ (xs : List ℕ). slice_get xs k) (sym indexed) ∙ get_index (arrivals_at p g) k a e in
    (here.0, (here.1, (let z = get_range 1 (length (arrivals_at p g)) k a.index index in omega (arith, z))))

-- where each arrival that was given is found by its number among others, each event stands where it may
pub entered_among : (b : Basis) (g : List Given) (arrivals : ℕ → List Arrival) → ((p : ℕ) → indices_of (arrivals_at p g) ≡ range_with_len 1 (length (arrivals_at p g))) →
    Each (λ (a : Arrival). numbered (arrivals a.port) a.index ≡ Some a) (arrivals_of g) → (h : History) → EachEvent (IsSurely b (λ p. arrivals_at p g)) h → EachEvent (IsEntered b arrivals) h
entered_among b g arrivals indexed all [] k = tt
entered_among b g arrivals indexed all (e ∷ h) k = (entered_among b g arrivals indexed all h k.0, by_event e k.1)
  where
    by_event : (e : Event) → IsSurely b (λ p. arrivals_at p g) h e → IsEntered b arrivals h e
    by_event (event.Relay p n m f) s = s
    by_event (event.Ignored p n) s =
        let f = found_given (λ (a : Arrival). numbered (arrivals a.port) a.index ≡ Some a) p n g s.0 (indexed p) s.1 all in
        let there : numbered (arrivals p) n ≡ Some s.0 = ap (λ (q : ℕ). numbered (arrivals q) n) (sym f.1.0) ∙ (ap (numbered (arrivals s.0.port)) (sym f.1.1) ∙ f.0) in
        rw there s.2
    by_event (event.Tick seconds) s = tt
    by_event (event.Commit n) s = tt
    by_event (event.Refuse n x) s = tt
    by_event (event.Up p) s = tt
    by_event (event.NoUp p x) s = tt
    by_event event.Settled s = tt

-- ---- permutations
pub relay_on : (xs ys : List Arrival) → IsPermutation xs ys → (e : Event) → IsRelayOf xs e → IsRelayOf ys e
relay_on xs ys perm (event.Relay p n t f) k = Contains-permutation xs ys (record { port = p; index = n; moment = t; bytes = f }) perm k
relay_on xs ys perm (event.Ignored p n) k = tt
relay_on xs ys perm (event.Tick seconds) k = tt
relay_on xs ys perm (event.Commit n) k = tt
relay_on xs ys perm (event.Refuse n x) k = tt
relay_on xs ys perm (event.Up p) k = tt
relay_on xs ys perm (event.NoUp p x) k = tt
relay_on xs ys perm event.Settled k = tt

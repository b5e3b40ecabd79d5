-- The sets of the groups by place, and the order that finds them.
use Rattle.std.proofs.Common.{◌≡◌, ℕ, zero, suc, ◌+◌, ◌-◌, ◌/◌, ◌%◌, ◌<◌, ◌≤◌, Bool, true, false, cond, not, List, [], ◌∷◌, ◌++◌, length, get_or, set, filter, refl, sym, ap, ◌∙◌, inl, inr, arith}
use Rattle.std.specs.Prelude.{Option, Some, None, slice_get, find, bytes_eq, IsTrue, ◌↔◌}
use Rattle.std.specs.List.{range_with_len}
use Rattle.std.proofs.lemmas.Bool.{cases_Bool, cases_lt, false≢true, lt-ltb, le-ltb, le-leb}
use Rattle.std.proofs.lemmas.List.{get_or_past}
use Rattle.std.proofs.lemmas.Option.{slice_get_past}
use Rattle.std.proofs.lemmas.Grind.{same_number_lists}
use Rattle.std.proofs.lemmas.Slice.Eq.{bytes_eq-Decides}
use Rattle.exb_model.specs.declared.port_set.PortSet.{PortSet}
use Rattle.exb_model.specs.PortBits.{has_port}
use Rattle.exb_model.specs.Ports.{port_in, ports_of, all_ports}
use Rattle.exb_model.specs.Refusals.{is_empty_set}
use Rattle.exb_model.proofs.PortBits.{same_word}
use Rattle.exb_model.proofs.PortLemmas.{same_filter_below, filter_below-none}
use Rattle.std.proofs.lemmas.Nat.Bits.{bit_at-zero}
use Rattle.exb_numbers.specs.Groups.{Groups, set_of, sets_of, group_of}
use Rattle.exb_numbers.specs.GroupOrder.{key_of, rank_of, ranks_of, ranks_at, is_held, put_at, SplitsAt, IsAt, AreOrdered}
use Rattle.exb_numbers.proofs.LowestInRange.{find_first, find_none}
use Rattle.exb_numbers.proofs.RisingPlaces.{one_index, split_absent}

-- ---- a set, its words and its ports
pub same_ports : (s t : PortSet) → s.words ≡ t.words → ports_of s ≡ ports_of t
unfolding ports_of
same_ports s t e = ap (λ (ws : List ℕ). filter (has_port ws) all_ports) e

pub same_words_by_ports : (s t : PortSet) → ports_of s ≡ ports_of t → s.words ≡ t.words
unfolding ports_of
same_words_by_ports s t e =
    same_number_lists s.words t.words (s.sized ∙ sym t.sized)
    (λ k h. same_word s.words t.words 65 k (let z = s.sized in omega arith) (s.fits k) (t.fits k) (λ q low. same_filter_below (port_in s) (port_in t) 4160 q (omega arith) e))

same_rank : (s t : PortSet) → s.words ≡ t.words → rank_of s ≡ rank_of t
same_rank s t e = ap (λ (ws : List ℕ). key_of ws ∷ ws) e

rank_words : (s t : PortSet) → rank_of s ≡ rank_of t → s.words ≡ t.words
rank_words s t e = ap rest e
  where
    rest : List ℕ → List ℕ
    rest [] = []
    rest (x ∷ xs) = xs

pub no_ports : (s : PortSet) → ((q : ℕ) → port_in s q ≡ false) → ports_of s ≡ []
unfolding ports_of
no_ports s none = filter_below-none (port_in s) 4160 none

empty_at : (s : PortSet) → ports_of s ≡ [] → (q : ℕ) → q < 4160 → port_in s q ≡ false
unfolding ports_of
empty_at s e q low = same_filter_below (port_in s) (λ q. false) 4160 q low (e ∙ sym (filter_below-none (λ q. false) 4160 (λ q. refl)))

none_past : (words : List ℕ) (q : ℕ) → get_or words (q / 64) 0 ≡ 0 → has_port words q ≡ false
unfolding has_port
none_past words q z = rw (z, bit_at-zero (q % 64)) refl

-- ---- what is at a place
abbrev pub ports_opt : Option PortSet → List ℕ
ports_opt None = []
ports_opt (Some s) = ports_of s

pub ports_at : (sets : List PortSet) (n : ℕ) → get_or (sets_of sets) n [] ≡ ports_opt (slice_get sets n)
ports_at [] n = refl
ports_at (s ∷ sets) zero = refl
ports_at (s ∷ sets) (suc n) = ports_at sets n

pub get_set : (xs : List PortSet) (n : ℕ) (s : PortSet) → n < length xs → slice_get (set xs n s) n ≡ Some s
get_set [] n s h = absurd (omega arith)
get_set (x ∷ xs) zero s h = refl
get_set (x ∷ xs) (suc n) s h = get_set xs n s (omega arith)

pub get_set_other : (xs : List PortSet) (n k : ℕ) (s : PortSet) → (k ≡ n → ⊥) → slice_get (set xs n s) k ≡ slice_get xs k
get_set_other [] n k s other = refl
get_set_other (x ∷ xs) zero zero s other = absurd (other refl)
get_set_other (x ∷ xs) zero (suc k) s other = refl
get_set_other (x ∷ xs) (suc n) zero s other = refl
get_set_other (x ∷ xs) (suc n) (suc k) s other = get_set_other xs n k s (λ e. other (ap (λ (j : ℕ). suc j) e))

get_push : (xs : List PortSet) (s : PortSet) → slice_get (xs ++ s ∷ []) (length xs) ≡ Some s
get_push [] s = refl
get_push (x ∷ xs) s = get_push xs s

get_push_other : (xs : List PortSet) (k : ℕ) (s : PortSet) → (k ≡ length xs → ⊥) → slice_get (xs ++ s ∷ []) k ≡ slice_get xs k
get_push_other [] zero s other = absurd (other refl)
get_push_other [] (suc k) s other = refl
get_push_other (x ∷ xs) zero s other = refl
get_push_other (x ∷ xs) (suc k) s other = get_push_other xs k s (λ e. other (ap (λ (j : ℕ). suc j) e))

pub put_within : (sets : List PortSet) (n : ℕ) (s : PortSet) → n < length sets → put_at sets n s ≡ set sets n s
put_within sets n s h = rw (lt-ltb n (length sets) h) refl

pub put_past : (sets : List PortSet) (n : ℕ) (s : PortSet) → length sets ≤ n → put_at sets n s ≡ sets ++ s ∷ []
put_past sets n s h = rw (le-ltb n (length sets) h) refl

pub get_put : (sets : List PortSet) (n : ℕ) (s : PortSet) → n ≤ length sets → slice_get (put_at sets n s) n ≡ Some s
get_put sets n s within =
    elim (cases_lt n (length sets)) [
      | inl l ↦ rw (put_within sets n s l) (get_set sets n s l)
      | inr l ↦
          let end : n ≡ length sets = omega arith in
          rw (put_past sets n s l) (ap (slice_get (sets ++ s ∷ [])) end ∙ get_push sets s)
    ]

pub get_put_other : (sets : List PortSet) (n k : ℕ) (s : PortSet) → n ≤ length sets → (k ≡ n → ⊥) → slice_get (put_at sets n s) k ≡ slice_get sets k
get_put_other sets n k s within other =
    elim (cases_lt n (length sets)) [
      | inl l ↦ rw (put_within sets n s l) (get_set_other sets n k s other)
      | inr l ↦ rw (put_past sets n s l) (get_push_other sets k s (λ e. other (omega arith)))
    ]

-- ---- what is held
pub record HeldSet (sets : List PortSet) (n : ℕ) : Type 0 where
  pub set : PortSet
  pub at : slice_get sets n ≡ Some set
  pub some : is_empty_set (ports_of set) ≡ false

true_not : (b : Bool) → not b ≡ true → b ≡ false
true_not true h = absurd (false≢true h)
true_not false h = refl

pub held_set : (sets : List PortSet) (n : ℕ) → is_held (sets_of sets) n ≡ true → HeldSet sets n
held_set sets n h = by_get (slice_get sets n) refl (true_not (is_empty_set (ports_opt (slice_get sets n))) (rw (ports_at sets n) at h))
  where
    by_get : (o : Option PortSet) → slice_get sets n ≡ o → is_empty_set (ports_opt (slice_get sets n)) ≡ false → HeldSet sets n
    by_get None e some = absurd (false≢true (sym some ∙ ap (λ (o : Option PortSet). is_empty_set (ports_opt o)) e))
    by_get (Some s) e some = record { set = s; at = e; some = sym (ap (λ (o : Option PortSet). is_empty_set (ports_opt o)) e) ∙ some }

pub held_by : (sets : List PortSet) (n : ℕ) (s : PortSet) → slice_get sets n ≡ Some s → is_empty_set (ports_of s) ≡ false → is_held (sets_of sets) n ≡ true
held_by sets n s at some = rw (ports_at sets n, at, some) refl

pub same_held : (old new : List PortSet) (k : ℕ) → slice_get new k ≡ slice_get old k → is_held (sets_of new) k ≡ is_held (sets_of old) k
same_held old new k e = rw (ports_at new k, ports_at old k, e) refl

pub ranks_is : (sets : List PortSet) (n : ℕ) (s : PortSet) → slice_get sets n ≡ Some s → ranks_at sets n ≡ rank_of s
ranks_is sets n s at = ap ranks_of at

pub place_in : (sets : List PortSet) (n : ℕ) (s : PortSet) → slice_get sets n ≡ Some s → n < length sets
place_in [] n s at = absurd (let z : None ≡ Some s = at in cc)
place_in (x ∷ xs) zero s at = omega arith
place_in (x ∷ xs) (suc n) s at = let h = place_in xs n s at in omega arith

-- ---- the search for the next free place
pub get_at : (sets : List PortSet) (n : ℕ) (s : PortSet) → n < length sets → s ≡ get_or sets n s → slice_get sets n ≡ Some s
get_at [] n s h e = absurd (omega arith)
get_at (x ∷ xs) zero s h e = ap Some (sym e)
get_at (x ∷ xs) (suc n) s h e = get_at xs n s (omega arith) e

port_past : (s : PortSet) (q : ℕ) → 4160 ≤ q → port_in s q ≡ false
port_past s q high = none_past s.words q (get_or_past s.words (q / 64) 0 (let z = s.sized in omega arith))

pub any_port : (s : PortSet) → is_empty_set (ports_of s) ≡ true → (q : ℕ) → port_in s q ≡ false
any_port s h q =
    elim (cases_lt q 4160) [
      | inl low ↦ by_ports (ports_of s) refl h low
      | inr high ↦ port_past s q high
    ]
  where
    by_ports : (xs : List ℕ) → ports_of s ≡ xs → is_empty_set xs ≡ true → q < 4160 → port_in s q ≡ false
    by_ports [] e t low = empty_at s e q low
    by_ports (x ∷ xs) e t low = absurd (false≢true t)

-- a set that isn't the empty one has a port, and any other hasn't
pub told_ports : (s none : PortSet) (same : Bool) → ((q : ℕ) → port_in none q ≡ false) → (IsTrue same ↔ ((q : ℕ) → port_in s q ≡ port_in none q)) → not (is_empty_set (ports_of s)) ≡ not same
told_ports s none same empty tells = by_same same tells (is_empty_set (ports_of s)) refl
  where
    by_same : (b : Bool) → (IsTrue b ↔ ((q : ℕ) → port_in s q ≡ port_in none q)) → (e : Bool) → is_empty_set (ports_of s) ≡ e → not e ≡ not b
    by_same true t true e = refl
    by_same true t false e = absurd (false≢true (sym e ∙ ap is_empty_set (no_ports s (λ q. t.0 refl q ∙ empty q))))
    by_same false t true e = absurd (false≢true (t.1 (λ q. any_port s e q ∙ sym (empty q))))
    by_same false t false e = refl

pub held_at : (sets : List PortSet) (n : ℕ) (s : PortSet) → n < length sets → s ≡ get_or sets n s → is_held (sets_of sets) n ≡ not (is_empty_set (ports_of s))
held_at sets n s h at = rw (ports_at sets n, get_at sets n s h at) refl

pub not_held_past : (sets : List PortSet) (n : ℕ) → length sets ≤ n → is_held (sets_of sets) n ≡ false
not_held_past sets n h = rw (ports_at sets n, slice_get_past sets n h) refl

-- ---- the group of a set
set_of_place : (v : Groups) (n : ℕ) → set_of v (4096 + n) ≡ get_or v.sets n []
set_of_place v n = rw (le-leb 4096 (4096 + n) (omega arith)) (ap (λ (k : ℕ). get_or v.sets k []) (omega arith))

abbrev pub value : ℕ → List PortSet → Groups
value limit sets = record { limit = limit; sets = sets_of sets }

module _ (limit : ℕ) (sets : List PortSet) (order : List ℕ) (free : ℕ) (k : AreOrdered limit sets order free) where
  -- a place that is held stands in the order, and its words tell it
  pub distinct : (n m : ℕ) → is_held (sets_of sets) n ≡ true → is_held (sets_of sets) m ≡ true → ranks_at sets n ≡ ranks_at sets m → n ≡ m
  distinct n m held_n held_m same =
      let a = k.there n held_n in
      let b = k.there m held_m in
      sym a.is ∙ ap (λ (i : ℕ). get_or order i 0) (one_index (ranks_at sets) order k.rising a.index b.index a.within b.within (ap (ranks_at sets) a.is ∙ same ∙ ap (ranks_at sets) (sym b.is))) ∙ b.is

  -- what a number whose set it is says
  record Hit (s : PortSet) (g : ℕ) : Type 0 where
    held : is_held (sets_of sets) (g - 4096) ≡ true
    same : ranks_at sets (g - 4096) ≡ rank_of s

  hit : (s : PortSet) (g : ℕ) → is_empty_set (ports_of s) ≡ false → 4096 ≤ g → bytes_eq (ports_of s) (set_of (value limit sets) g) ≡ true → Hit s g
  hit s g some low equal =
      let at : ports_of s ≡ get_or (sets_of sets) (g - 4096) [] = (bytes_eq-Decides (ports_of s) (set_of (value limit sets) g)).0 equal ∙ rw (le-leb 4096 g low) refl in
      let held : is_held (sets_of sets) (g - 4096) ≡ true = rw (sym at, some) refl in
      let h = held_set sets (g - 4096) held in
      record {
        held = held;
        same = ranks_is sets (g - 4096) h.set h.at ∙ same_rank h.set s (same_words_by_ports h.set s (sym (at ∙ ports_at sets (g - 4096) ∙ ap ports_opt h.at)));
      }

  pub group_at : (s : PortSet) (i : ℕ) → IsAt (ranks_at sets) order (rank_of s) i → group_of (value limit sets) (ports_of s) ≡ Some (4096 + get_or order i 0)
  unfolding group_of
  group_at s i at =
      let n = get_or order i 0 in
      let held = k.held i at.within in
      let h = held_set sets n held in
      let ports : ports_of h.set ≡ ports_of s = same_ports h.set s (rank_words h.set s (sym (ranks_is sets n h.set h.at) ∙ at.same)) in
      let some : is_empty_set (ports_of s) ≡ false = sym (ap is_empty_set ports) ∙ h.some in
      let n_in : n < length sets = place_in sets n h.set h.at in
      let few = k.few in
      let short = k.short in
      by_empty (is_empty_set (ports_of s)) some (find_first (λ g. bytes_eq (ports_of s) (set_of (value limit sets) g)) 4096 12288 (4096 + n) (omega arith) (omega arith)
      ((bytes_eq-Decides (ports_of s) (set_of (value limit sets) (4096 + n))).1 (sym ports ∙ ap ports_opt (sym h.at) ∙ sym (ports_at sets n) ∙ sym (set_of_place (value limit sets) n)))
      (λ g low high. elim (cases_Bool (bytes_eq (ports_of s) (set_of (value limit sets) g))) [
        | inl yes' ↦
            let x = hit s g some low yes' in
            let same : g - 4096 ≡ n = distinct (g - 4096) n x.held held (x.same ∙ sym at.same) in
            absurd (omega (arith, same))
        | inr no' ↦ no'
      ]))
    where
      by_empty : (b : Bool) → b ≡ false → {o : Option ℕ} {r : Option ℕ} → o ≡ r → cond b None o ≡ r
      by_empty true e h = absurd (false≢true (sym e))
      by_empty false e h = h

  -- a set with the words of one that is held has its group
  pub group_known : (s own : PortSet) (n : ℕ) → is_held (sets_of sets) n ≡ true → slice_get sets n ≡ Some own → own.words ≡ s.words → group_of (value limit sets) (ports_of s) ≡ Some (4096 + n)
  group_known s own n held at same =
      let x = k.there n held in
      group_at s x.index (record { within = x.within; same = ap (ranks_at sets) x.is ∙ ranks_is sets n own at ∙ same_rank own s same })
      ∙ ap (λ (j : ℕ). Some (4096 + j)) x.is

  pub group_absent : (s : PortSet) (i : ℕ) → SplitsAt (ranks_at sets) order (rank_of s) i → group_of (value limit sets) (ports_of s) ≡ None
  unfolding group_of
  group_absent s i splits = by_empty (is_empty_set (ports_of s)) refl
    where
      by_empty : (b : Bool) → is_empty_set (ports_of s) ≡ b → cond b None (find (λ g. bytes_eq (ports_of s) (set_of (value limit sets) g)) (range_with_len 4096 12288)) ≡ None
      by_empty true e = refl
      by_empty false e =
          find_none (λ g. bytes_eq (ports_of s) (set_of (value limit sets) g)) 4096 12288
          (λ g low high. elim (cases_Bool (bytes_eq (ports_of s) (set_of (value limit sets) g))) [
            | inl yes' ↦
                let x = hit s g e low yes' in
                let a = k.there (g - 4096) x.held in
                absurd (split_absent (ranks_at sets) order (rank_of s) i a.index splits a.within (ap (ranks_at sets) a.is ∙ x.same))
            | inr no' ↦ no'
          ])

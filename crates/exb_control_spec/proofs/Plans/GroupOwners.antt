-- The groups of one bridge port are those of just some sets.
use Rattle.std.proofs.Common.{◌≡◌, ◌≢◌, ℕ, ◌+◌, ◌-◌, ◌<◌, ◌≤◌, ◌&&◌, ◌||◌, cond, Bool, true, false, not, List, [], ◌∷◌, Option, Some, None, map, filter, refl, sym, ◌∙◌, ap, subst, arith, inl, inr, eq-eqb}
use Rattle.std.specs.Prelude.{is_some, bytes_eq, find}
use Rattle.std.specs.List.{list_any, range_with_len}
use Rattle.std.proofs.lemmas.Bool.{cases_eq, or_cases, or_left, or_right, and_parts, and_from, ne_eqb, false≢true, false_from_ne_true}
use Rattle.exb_model.specs.Refusals.{is_empty_set}
use Rattle.exb_control_spec.specs.Plans.Sets.{PortsAt}
use Rattle.exb_model.specs.LowestFree.{lowest_free}
use Rattle.exb_control_spec.specs.Plans.HeldNumbers.{Held, Group, group_in, group_used, or_zero, free_group, group_for, numbered, give, give_all, free_where}
use Rattle.exb_control_spec.specs.Plans.FreshSets.{AreFresh, is_at}
use Rattle.exb_control_spec.proofs.Plans.Ranges.{IsFound, found}
use Rattle.exb_control_spec.proofs.Plans.SetFacts.{bytes_is, bytes_itself}
use Rattle.exb_control_spec.proofs.Plans.GroupClaims.{AreLow, absent_each, given_here, given_else, free_set}
use Rattle.exb_control_spec.proofs.Plans.OptionalNumbers.{none_some, of_some, some_is}
use Rattle.exb_control_spec.proofs.Plans.Bools.{and_false}

pub record Owns (h : Held) (k : ℕ) (has : List ℕ → Bool) : Type 0 where
  pub low : (g : ℕ) → group_used h k g ≡ true → 4096 ≤ g
  pub high : (g : ℕ) → group_used h k g ≡ true → g < 16384
  pub one : (g m : ℕ) → group_used h k g ≡ true → h.set k g ≡ h.set k m → g ≡ m
  pub sound : (g : ℕ) → group_used h k g ≡ true → has (h.set k g) ≡ true
  pub full : (set : List ℕ) → has set ≡ true → (g : ℕ) × (h.set k g ≡ set)
  pub some : (set : List ℕ) → has set ≡ true → is_empty_set set ≡ false

pub record IsGroupOf (h : Held) (k : ℕ) (set : List ℕ) (g : ℕ) : Type 0 where
  pub some : is_empty_set set ≡ false
  pub low : 4096 ≤ g
  pub high : g < 16384
  pub is : h.set k g ≡ set

module _ (h : Held) (k : ℕ) (set : List ℕ) where
  by_find : (b : Bool) (o : Option ℕ) (g : ℕ) → is_empty_set set ≡ b → cond b None o ≡ Some g → (is_empty_set set ≡ false) × (o ≡ Some g)
  by_find true o g e f = absurd (cc)
  by_find false o g e f = (e, f)

  pub group_found : (g : ℕ) → group_in h k set ≡ Some g → IsGroupOf h k set g
  unfolding group_in
  group_found g e =
      let both : (is_empty_set set ≡ false) × (find (λ m. bytes_eq set (h.set k m)) (range_with_len 4096 12288) ≡ Some g) =
      by_find (is_empty_set set) (find (λ m. bytes_eq set (h.set k m)) (range_with_len 4096 12288)) g refl e in
      let f : IsFound (λ m. bytes_eq set (h.set k m)) 4096 12288 g = found (λ m. bytes_eq set (h.set k m)) 4096 12288 g both.1 in
      record { some = both.0; low = f.low; high = (let x = f.high in omega (arith, x)); is = sym (bytes_is set (h.set k g) f.passes) }

  by_option : (o : Option ℕ) → group_in h k set ≡ o → (g : ℕ) → is_empty_set set ≡ false → 4096 ≤ g → g < 16384 → h.set k g ≡ set → (m : ℕ) × (group_in h k set ≡ Some m)
  by_option None e g some low high is = absurd (false≢true (sym (absent_each h k set e some g low high) ∙ (ap (bytes_eq set) is ∙ bytes_itself set)))
  by_option (Some m) e g some low high is = (m, e)

  pub group_there : (g : ℕ) → is_empty_set set ≡ false → 4096 ≤ g → g < 16384 → h.set k g ≡ set → (m : ℕ) × (group_in h k set ≡ Some m)
  group_there = by_option (group_in h k set) refl

used_is : (h : Held) (k g : ℕ) (set : List ℕ) → is_empty_set set ≡ false → h.set k g ≡ set → group_used h k g ≡ true
used_is h k g set some is = ap (λ s. not (is_empty_set s)) is ∙ ap not some

used_some : (xs : List ℕ) → not (is_empty_set xs) ≡ true → is_empty_set xs ≡ false
used_some [] e = absurd (false≢true e)
used_some (x ∷ xs) e = refl

-- ---- against the groups of sets
pub owns_from : (h : Held) (k : ℕ) (has : List ℕ → Bool) → ((set : List ℕ) → is_some (group_in h k set) ≡ has set) → ((g : ℕ) → group_used h k g ≡ true → group_in h k (h.set k g) ≡ Some g) → Owns h k has
owns_from h k has groups one = record {
  low = λ g u. (let r = group_found h k (h.set k g) g (one g u) in r.low);
  high = λ g u. (let r = group_found h k (h.set k g) g (one g u) in r.high);
  one = λ g m u e. some_is g m (sym (one g u) ∙ (ap (group_in h k) e ∙ one m (ap (λ s. not (is_empty_set s)) (sym e) ∙ u)));
  sound = λ g u. sym (groups (h.set k g)) ∙ ap is_some (one g u);
  full = λ set e. (let f = of_some (group_in h k set) (groups set ∙ e) in (f.0, (let r = group_found h k set f.0 f.1 in r.is)));
  some = λ set e. (let f = of_some (group_in h k set) (groups set ∙ e) in (let r = group_found h k set f.0 f.1 in r.some));
}

pub owns_groups : (h : Held) (k : ℕ) (has : List ℕ → Bool) → Owns h k has → (set : List ℕ) → is_some (group_in h k set) ≡ has set
owns_groups h k has owns set = by_option (group_in h k set) refl
  where
    by_option : (o : Option ℕ) → group_in h k set ≡ o → is_some o ≡ has set
    by_option None e = sym (false_from_ne_true (has set) (λ y.
        let f = owns.full set y in
        let some = owns.some set y in
        let u : group_used h k f.0 ≡ true = used_is h k f.0 set some f.1 in
        let m : (m : ℕ) × (group_in h k set ≡ Some m) = group_there h k set f.0 some (owns.low f.0 u) (owns.high f.0 u) f.1 in
        none_some m.0 (sym e ∙ m.1)))
    by_option (Some g) e =
        let r = group_found h k set g e in
        sym (ap has (sym r.is) ∙ owns.sound g (used_is h k g set r.some r.is))

pub owns_one : (h : Held) (k : ℕ) (has : List ℕ → Bool) → Owns h k has → (g : ℕ) → group_used h k g ≡ true → group_in h k (h.set k g) ≡ Some g
owns_one h k has owns g u =
    let m : (m : ℕ) × (group_in h k (h.set k g) ≡ Some m) = group_there h k (h.set k g) g (used_some (h.set k g) u) (owns.low g u) (owns.high g u) refl in
    let r = group_found h k (h.set k g) m.0 m.1 in
    m.1 ∙ ap (λ (x : ℕ). Some x) (sym (owns.one g m.0 u (sym r.is)))

pub owns_same : (h : Held) (k : ℕ) (has other : List ℕ → Bool) → ((set : List ℕ) → has set ≡ other set) → Owns h k has → Owns h k other
owns_same h k has other same owns = record {
  low = owns.low;
  high = owns.high;
  one = owns.one;
  sound = λ g u. sym (same (h.set k g)) ∙ owns.sound g u;
  full = λ set e. owns.full set (same set ∙ e);
  some = λ set e. owns.some set (same set ∙ e);
}

-- ---- a set more
module _ (h : Held) (k : ℕ) (has : List ℕ → Bool) (owns : Owns h k has) (x : Group) where
  other_port : k + 1 ≢ x.bridge_port → (g : ℕ) → (give x h).set k g ≡ h.set k g
  other_port n g = given_else x h k g (λ e. absurd (n e))

  pub owns_elsewhere : k + 1 ≢ x.bridge_port → Owns (give x h) k has
  owns_elsewhere n = record {
    low = λ g u. owns.low g (sym (used g) ∙ u);
    high = λ g u. owns.high g (sym (used g) ∙ u);
    one = λ g m u e. owns.one g m (sym (used g) ∙ u) (sym (other_port n g) ∙ (e ∙ other_port n m));
    sound = λ g u. ap has (other_port n g) ∙ owns.sound g (sym (used g) ∙ u);
    full = λ set e. (let f = owns.full set e in (f.0, other_port n f.0 ∙ f.1));
    some = owns.some;
  }
    where
      used : (g : ℕ) → group_used (give x h) k g ≡ group_used h k g
      used g = ap (λ s. not (is_empty_set s)) (other_port n g)

  module _ (here : k + 1 ≡ x.bridge_port) (some : is_empty_set x.ports ≡ false) (new : has x.ports ≡ false) (low : 4096 ≤ x.number) (high : x.number < 16384) (free : h.set k x.number ≡ []) where
    mine : (g : ℕ) → g ≡ x.number → (give x h).set k g ≡ x.ports
    mine g e = given_here x h k g here e

    others : (g : ℕ) → g ≢ x.number → (give x h).set k g ≡ h.set k g
    others g n = given_else x h k g (λ e. n)

    used : (g : ℕ) → g ≢ x.number → group_used (give x h) k g ≡ true → group_used h k g ≡ true
    used g n u = ap (λ s. not (is_empty_set s)) (sym (others g n)) ∙ u

    never : (g : ℕ) → group_used h k g ≡ true → h.set k g ≡ x.ports → ⊥
    never g u e = false≢true (sym new ∙ (ap has (sym e) ∙ owns.sound g u))

    pub owns_given : Owns (give x h) k (λ set. has set || bytes_eq set x.ports)
    owns_given = record {
      low = λ g u. elim (cases_eq g x.number) [ inl e ↦ (let a = low in omega (arith, a, e)) | inr n ↦ owns.low g (used g n u) ];
      high = λ g u. elim (cases_eq g x.number) [ inl e ↦ (let a = high in omega (arith, a, e)) | inr n ↦ owns.high g (used g n u) ];
      one = λ g m u e. elim (cases_eq g x.number) [
        | inl a ↦ elim (cases_eq m x.number) [
          | inl b ↦ a ∙ sym b
          | inr n ↦
              let same : h.set k m ≡ x.ports = sym (others m n) ∙ (sym e ∙ mine g a) in
              absurd (never m (ap (λ s. not (is_empty_set s)) same ∙ ap not some) same)
        ]
        | inr n ↦ elim (cases_eq m x.number) [
          | inl b ↦ absurd (never g (used g n u) (sym (others g n) ∙ (e ∙ mine m b)))
          | inr o ↦ owns.one g m (used g n u) (sym (others g n) ∙ (e ∙ others m o))
        ]
      ];
      sound = λ g u. elim (cases_eq g x.number) [
        | inl a ↦ or_right (has ((give x h).set k g)) _ (ap (λ s. bytes_eq s x.ports) (mine g a) ∙ bytes_itself x.ports)
        | inr n ↦ or_left _ (bytes_eq ((give x h).set k g) x.ports) (ap has (others g n) ∙ owns.sound g (used g n u))
      ];
      full = λ set e. elim (or_cases (has set) (bytes_eq set x.ports) e) [
        | inl a ↦ (let f = owns.full set a in (f.0, others f.0 (λ z. empty_not set (owns.some set a) (sym free ∙ (ap (h.set k) (sym z) ∙ f.1))) ∙ f.1))
        | inr b ↦ (x.number, mine x.number refl ∙ sym (bytes_is set x.ports b))
      ];
      some = λ set e. elim (or_cases (has set) (bytes_eq set x.ports) e) [
        | inl a ↦ owns.some set a
        | inr b ↦ ap is_empty_set (bytes_is set x.ports b) ∙ some
      ];
    }
      where
        empty_not : (set : List ℕ) → is_empty_set set ≡ false → [] ≡ set → ⊥
        empty_not set s e = false≢true (sym s ∙ ap is_empty_set (sym e))

absent_has : (h : Held) (k : ℕ) (has : List ℕ → Bool) → Owns h k has → (set : List ℕ) → group_in h k set ≡ None → has set ≡ true → ⊥
absent_has h k has owns set e y = none_true (ap is_some (sym e) ∙ (owns_groups h k has owns set ∙ y))
  where
    none_true : false ≡ true → ⊥
    none_true = false≢true

-- ---- sets that get groups in turn
abbrev pub at_port_of : ℕ → List PortsAt → List (List ℕ)
at_port_of k sets = map (λ (s : PortsAt). s.ports) (filter (is_at (k + 1)) sets)

module _ (groups k : ℕ) (few : groups ≤ 12288) where
  free_range : (h : Held) (o : Option ℕ) → lowest_free (group_used h k) 4096 groups ≡ o → is_some o ≡ true → (4096 ≤ or_zero o) × (or_zero o < 16384)
  unfolding lowest_free
  free_range h None e s = absurd (false≢true s)
  free_range h (Some m) e s =
      let f : IsFound (λ c. not (group_used h k c)) 4096 groups m = found (λ c. not (group_used h k c)) 4096 groups m e in
      let a = f.low in let b = f.high in (a, omega (arith, b, few))

  pub owns_all : (sets : List PortsAt) (h : Held) (has : List ℕ → Bool) → AreFresh groups h sets → AreLow sets → Owns h k has →
      Owns (give_all (numbered groups h sets) h) k (λ set. has set || list_any (bytes_eq set) (at_port_of k sets))
  unfolding give_all numbered
  owns_all [] h has fresh low owns = owns_same h k has (λ set. has set || false) (λ set. or_false (has set)) owns
    where
      or_false : (b : Bool) → b ≡ (b || false)
      or_false true = refl
      or_false false = refl
  owns_all (s ∷ sets) h has fresh low owns =
      elim (cases_eq s.bridge_port (k + 1)) [
        | inr n ↦ rw (ne_eqb s.bridge_port (k + 1) n) (owns_all sets (give (group_for groups h s) h) has fresh.1 low.1 (owns_elsewhere h k has owns (group_for groups h s) (λ e. n (sym e))))
        | inl e ↦ rw (eq-eqb s.bridge_port (k + 1) e) (at_here e (λ o. owns_all sets (give (group_for groups h s) h) (λ set. has set || bytes_eq set s.ports) fresh.1 low.1 o))
      ]
    where
      assoc : (a b c : Bool) → (a || b || c) ≡ (a || (b || c))
      assoc true b c = refl
      assoc false b c = refl

      at_here : s.bridge_port ≡ k + 1 → (Owns (give (group_for groups h s) h) k (λ set. has set || bytes_eq set s.ports) →
          Owns (give_all (numbered groups (give (group_for groups h s) h) sets) (give (group_for groups h s) h)) k (λ set. has set || bytes_eq set s.ports || list_any (bytes_eq set) (at_port_of k sets))) →
          Owns (give_all (numbered groups (give (group_for groups h s) h) sets) (give (group_for groups h s) h)) k
          (λ set. has set || (bytes_eq set s.ports || list_any (bytes_eq set) (at_port_of k sets)))
      at_here e rest =
          let x : Group = group_for groups h s in
          let place : s.bridge_port - 1 ≡ k = omega (arith, e) in
          let there : is_some (lowest_free (group_used h k) 4096 groups) ≡ true = subst (λ (j : ℕ). is_some (lowest_free (group_used h j) 4096 groups) ≡ true) place fresh.0.free in
          let number : x.number ≡ free_group groups h k = ap (free_group groups h) place in
          let range = free_range h (lowest_free (group_used h k) 4096 groups) refl there in
          let free : h.set k x.number ≡ [] = ap (h.set k) number ∙ free_set groups h k there in
          let new : has s.ports ≡ false = false_from_ne_true (has s.ports) (λ y. absent_has h k has owns s.ports (subst (λ (j : ℕ). group_in h j s.ports ≡ None) place fresh.0.absent) y) in
          owns_same _ k (λ set. has set || bytes_eq set s.ports || list_any (bytes_eq set) (at_port_of k sets)) (λ set. has set || (bytes_eq set s.ports || list_any (bytes_eq set) (at_port_of k sets)))
          (λ set. assoc (has set) (bytes_eq set s.ports) (list_any (bytes_eq set) (at_port_of k sets)))
          (rest (owns_given h k has owns x (sym e) fresh.0.some new (rw number range.0) (rw number range.1) free))

-- ---- groups that are freed
pub owns_kept : (h : Held) (k : ℕ) (has keep : List ℕ → Bool) (gone : ℕ → ℕ → Bool) → ((g : ℕ) → gone k g ≡ (group_used h k g && not (keep (h.set k g)))) → Owns h k has → Owns (free_where gone h) k (λ set. has set && keep set)
owns_kept h k has keep gone is owns = record {
  low = λ g u. owns.low g (was g u).0;
  high = λ g u. owns.high g (was g u).0;
  one = λ g m u e. owns.one g m (was g u).0 (sym (stays g (was g u).1) ∙ (e ∙ stays m (was m (ap (λ s. not (is_empty_set s)) (sym e) ∙ u)).1));
  sound = λ g u. ap (λ s. has s && keep s) (stays g (was g u).1) ∙ and_from (has (h.set k g)) (keep (h.set k g)) (owns.sound g (was g u).0) (was g u).1;
  full = λ set e. (let both = and_parts (has set) (keep set) e in let f = owns.full set both.0 in (f.0, stays f.0 (ap keep f.1 ∙ both.1) ∙ f.1));
  some = λ set e. owns.some set (and_parts (has set) (keep set) e).0;
}
  where
    stays : (g : ℕ) → keep (h.set k g) ≡ true → (free_where gone h).set k g ≡ h.set k g
    stays g e = ap (λ (b : Bool). cond b [] (h.set k g)) (is g ∙ (ap (λ b. group_used h k g && not b) e ∙ and_false (group_used h k g)))

    was : (g : ℕ) → group_used (free_where gone h) k g ≡ true → (group_used h k g ≡ true) × (keep (h.set k g) ≡ true)
    was g u = by_gone (gone k g) refl u
      where
        kept : (a b : Bool) → false ≡ (a && not b) → a ≡ true → b ≡ true
        kept true true e f = refl
        kept true false e f = absurd (false≢true e)
        kept false b e f = absurd (false≢true f)

        by_gone : (b : Bool) → gone k g ≡ b → not (is_empty_set (cond b [] (h.set k g))) ≡ true → (group_used h k g ≡ true) × (keep (h.set k g) ≡ true)
        by_gone true e u = absurd (false≢true u)
        by_gone false e u = (u, kept (group_used h k g) (keep (h.set k g)) (sym e ∙ is g) u)

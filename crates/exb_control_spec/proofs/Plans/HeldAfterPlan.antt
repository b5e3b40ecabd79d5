-- Just what the new configuration needs is held in the end.
use Rattle.std.proofs.Common.{◌≡◌, ◌≢◌, ℕ, ◌+◌, ◌-◌, ◌<◌, ◌≤◌, ◌==◌, ◌&&◌, ◌||◌, cond, Bool, true, false, not, List, [], ◌∷◌, Option, Some, None, filter, refl, sym, ◌∙◌, ap, subst, arith, inl, inr, ◌⊎◌, eq-eqb}
use Rattle.std.specs.Prelude.{bytes_eq}
use Rattle.std.specs.List.{list_any}
use Rattle.std.proofs.lemmas.Bool.{cases_Bool, cases_eq, or_cases, or_left, or_right, ne_eqb, false≢true, false_from_ne_true}
use Rattle.exb_model.specs.Tree.{Shape, IsTree, device, trunk, is_cascade, is_under, is_cascade_under}
use Rattle.exb_model.specs.Setup.{Limits}
use Rattle.exb_model.specs.Configuration.{Bridge}
use Rattle.exb_control_spec.specs.Plans.Sets.{PortsAt, is_same_set, sets_of}
use Rattle.exb_model.specs.Refusals.{is_empty_set, sets_at, channels_short}
use Rattle.exb_control_spec.specs.Plans.HeldNumbers.{Held, Group, group_used, HoldsNeeded, needs_channel, channel_in, channel_used, or_zero, give, give_all, numbered, free_where, give_channel}
use Rattle.exb_control_spec.specs.Plans.Differences.{has_set, is_gone, goes_up, goes_down, trunk_of, fresh_sets, refusal_between}
use Rattle.exb_control_spec.specs.Plans.Plans.{with_channel, without_channel, new_channel, own_channel, fresh_groups, claimed, freed}
use Rattle.exb_control_spec.specs.Plans.Laws.{IsStep, HeldGoesOn}
use Rattle.exb_control_spec.proofs.Plans.SetFacts.{at_port, has_at}
use Rattle.exb_control_spec.proofs.Plans.GroupClaims.{set_is}
use Rattle.exb_control_spec.proofs.Plans.GroupOwners.{Owns, owns_from, owns_groups, owns_one, owns_same, owns_all, owns_kept, at_port_of}
use Rattle.exb_control_spec.proofs.Plans.ChannelOwners.{Gives, gives_from, gives_channels, gives_one, gives_same, gives_port, gives_elsewhere, freed_elsewhere, gives_more, gives_less}
use Rattle.exb_control_spec.proofs.Plans.UsedNumbers.{IsLowest}
use Rattle.exb_control_spec.proofs.Plans.FreshSets.{fresh_can, fresh_low}
use Rattle.exb_control_spec.proofs.Plans.Sufficiency.{fresh_with, none_short}
use Rattle.exb_control_spec.proofs.Plans.Trunks.{under_extended, under_trunk, under_home}
use Rattle.exb_control_spec.proofs.Plans.Channels.{Rises, rises_is, goes_up_rises, never_rises, no_cascade_under, free_there}
use Rattle.exb_control_spec.proofs.Plans.OptionalNumbers.{is_none_at}
use Rattle.exb_control_spec.proofs.Plans.Bools.{and_false}

-- ---- groups
owns_set : (h g : Held) (k : ℕ) (has : List ℕ → Bool) → ((m : ℕ) → g.set k m ≡ h.set k m) → Owns h k has → Owns g k has
owns_set h g k has same owns = record {
  low = λ m u. owns.low m (used m ∙ u);
  high = λ m u. owns.high m (used m ∙ u);
  one = λ m n u e. owns.one m n (used m ∙ u) (sym (same m) ∙ (e ∙ same n));
  sound = λ m u. ap has (same m) ∙ owns.sound m (used m ∙ u);
  full = λ set e. (let f = owns.full set e in (f.0, same f.0 ∙ f.1));
  some = owns.some;
}
  where
    used : (m : ℕ) → group_used h k m ≡ group_used g k m
    used m = ap (λ s. not (is_empty_set s)) (sym (same m))

with_set : (t : Shape) (c : ℕ) (o : Option ℕ) (h : Held) (k m : ℕ) → (with_channel t c o h).set k m ≡ h.set k m
with_set t c None h k m = refl
with_set t c (Some p) h k m = refl

without_set : (t : Shape) (c : ℕ) (o : Option ℕ) (h : Held) (k m : ℕ) → (without_channel t c o h).set k m ≡ h.set k m
without_set t c None h k m = refl
without_set t c (Some p) h k m = refl

kept_has : (p : PortsAt → Bool) (xs : List PortsAt) (s : PortsAt) → has_set xs s ≡ true → p s ≡ true → has_set (filter p xs) s ≡ true
kept_has p [] s e f = e
kept_has p (x ∷ xs) s e f = by_test (p x) refl (or_cases (is_same_set s x) (has_set xs s) e) (λ g. kept_has p xs s g f)
  where
    by_test : (b : Bool) → p x ≡ b → (is_same_set s x ≡ true) ⊎ (has_set xs s ≡ true) → (has_set xs s ≡ true → has_set (filter p xs) s ≡ true) → has_set (cond b (x ∷ filter p xs) (filter p xs)) s ≡ true
    by_test true g (inl a) rest = or_left (is_same_set s x) _ a
    by_test true g (inr a) rest = or_right (is_same_set s x) _ (rest a)
    by_test false g (inl a) rest = absurd (false≢true (sym g ∙ (ap p (sym (set_is s x a)) ∙ f)))
    by_test false g (inr a) rest = rest a

module _ (t : Shape) (old new : Bridge) (k : ℕ) (low : k < 64) where
  at : List ℕ → PortsAt
  at set = record { bridge_port = k + 1; ports = set }

  here : (b : Bridge) (set : List ℕ) → has_set (sets_of t b) (at set) ≡ list_any (bytes_eq set) (sets_at t k b)
  unfolding at
  here b set =
      let e : k + 1 - 1 ≡ k = omega arith in
      has_at t b (at set) (omega arith) (omega (arith, low)) ∙ ap (λ (m : ℕ). list_any (bytes_eq set) (sets_at t m b)) e

  -- of the sets of both, those that are kept are the new ones
  pub kept_are : (set : List ℕ) → ((list_any (bytes_eq set) (sets_at t k old) || list_any (bytes_eq set) (at_port_of k (fresh_sets t old new)))
      && has_set (sets_of t new) (record { bridge_port = k + 1; ports = set })) ≡ list_any (bytes_eq set) (sets_at t k new)
  unfolding at fresh_sets
  kept_are set =
      elim (cases_Bool (has_set (sets_of t new) (at set))) [
        | inr e ↦ rw e (last (list_any (bytes_eq set) (sets_at t k old) || list_any (bytes_eq set) (at_port_of k (fresh_sets t old new))) ∙ (sym e ∙ here new set))
        | inl e ↦ rw e (by_old e (has_set (sets_of t old) (at set)) refl ∙ (sym e ∙ here new set))
      ]
    where
      last : (b : Bool) → (b && false) ≡ false
      last true = refl
      last false = refl

      by_old : has_set (sets_of t new) (at set) ≡ true → (b : Bool) → has_set (sets_of t old) (at set) ≡ b →
          ((list_any (bytes_eq set) (sets_at t k old) || list_any (bytes_eq set) (at_port_of k (fresh_sets t old new))) && true) ≡ true
      by_old e true f = ap (λ b. b && true) (or_left _ (list_any (bytes_eq set) (at_port_of k (fresh_sets t old new))) (sym (here old set) ∙ f))
      by_old e false f =
          ap (λ b. b && true) (or_right (list_any (bytes_eq set) (sets_at t k old)) _
          (sym (at_port (at set) (filter (λ s. not (has_set (sets_of t old) s)) (sets_of t new))) ∙ kept_has (λ s. not (has_set (sets_of t old) s)) (sets_of t new) (at set) e (ap not f)))

-- ---- what is given changes no port
give_port : (xs : List Group) (h : Held) (k c : ℕ) → (give_all xs h).port k c ≡ h.port k c
unfolding give_all
give_port [] h k c = refl
give_port (x ∷ xs) h k c = give_port xs (give x h) k c

same_bool : (a b : Bool) → (a ≢ b → ⊥) → a ≡ b
same_bool true true n = refl
same_bool true false n = absurd (n (λ e. false≢true (sym e)))
same_bool false true n = absurd (n (λ e. false≢true e))
same_bool false false n = refl

differ : (a b x y : Bool) → a ≡ x → b ≡ y → x ≢ y → a ≢ b
differ a b x y e f n g = n (sym e ∙ (g ∙ f))

false_true : false ≢ true
false_true = false≢true

true_false : true ≢ false
true_false e = false≢true (sym e)

module _ (t : Shape) (old new : Bridge) where
  needs_by : (k q : ℕ) → old.present q ≡ new.present q → needs_channel t old k q ≡ needs_channel t new k q
  needs_by k q e = ap (λ b. is_under t k q && b || is_cascade_under t k q) e

  needs_outside : (k q : ℕ) → is_under t k q ≡ false → needs_channel t old k q ≡ needs_channel t new k q
  needs_outside k q u = rw u refl

  needs_more : (p k q : ℕ) → ((q : ℕ) → q ≢ p → old.present q ≡ new.present q) → new.present p ≡ true → is_under t k p ≡ true →
      (needs_channel t old k q || q == p) ≡ needs_channel t new k q
  needs_more p k q same now under =
      elim (cases_eq q p) [
        | inl e ↦ rw (e, eq-eqb p p refl, under, now) (or_true (old.present p || is_cascade_under t k p))
        | inr n ↦ rw (ne_eqb q p n) (or_false (needs_channel t old k q) ∙ needs_by k q (same q n))
      ]
    where
      or_true : (b : Bool) → (b || true) ≡ true
      or_true true = refl
      or_true false = refl

      or_false : (b : Bool) → (b || false) ≡ b
      or_false true = refl
      or_false false = refl

  needs_less : (p k q : ℕ) → ((q : ℕ) → q ≢ p → old.present q ≡ new.present q) → new.present p ≡ false → is_cascade_under t k p ≡ false →
      (needs_channel t old k q && not (q == p)) ≡ needs_channel t new k q
  needs_less p k q same now off =
      elim (cases_eq q p) [
        | inl e ↦ rw (e, eq-eqb p p refl, now, off) (and_false (is_under t k p && old.present p || false) ∙ sym (none (is_under t k p)))
        | inr n ↦ rw (ne_eqb q p n) (and_true (needs_channel t old k q) ∙ needs_by k q (same q n))
      ]
    where
      and_true : (b : Bool) → (b && true) ≡ b
      and_true true = refl
      and_true false = refl

      none : (b : Bool) → (b && false || false) ≡ false
      none true = refl
      none false = refl

under_only : (t : Shape) (k p : ℕ) → k ≢ trunk t (device p) → is_under t k p ≡ false
under_only t k p n = false_from_ne_true (is_under t k p) (λ u. n (sym (under_trunk t k p u)))

module _ (t : Shape) (valid : IsTree t) (l : Limits) (old new : Bridge) (h : Held) (few : l.channels ≤ 4094) (enough : l.groups ≤ 12288) (step : IsStep t old new)
    (needed : HoldsNeeded t old h) (fits : refusal_between t l old new ≡ None) where
  same_but : (p q : ℕ) → old.present p ≢ new.present p → q ≢ p → old.present q ≡ new.present q
  same_but p q d n = same_bool (old.present q) (new.present q) (λ e. n (step.one q p e d))

  later : Held
  later = freed t old new (claimed t l old new h)

  owns_end : (k : ℕ) → k < 64 → is_cascade t k ≡ true → Owns later k (λ set. list_any (bytes_eq set) (sets_at t k new))
  unfolding later freed claimed fresh_groups
  owns_end k low c =
      let up = goes_up t old new in
      let n = new_channel t l h up in
      let has : List ℕ → Bool = λ set. list_any (bytes_eq set) (sets_at t k old) in
      let f = fresh_sets t old new in
      let h1 : Held = with_channel t n up h in
      let h2 : Held = give_all (numbered l.groups h1 f) h1 in
      let a = owns_from h k has (λ set. needed.groups k set low c) (λ g u. needed.one_group k g low c u) in
      let b = owns_set h h1 k has (λ m. with_set t n up h k m) a in
      let fresh = fresh_with t l.groups n up h f (fresh_can t valid old new h needed l (none_short t valid l old new fits).1) in
      let d = owns_all l.groups k enough f h1 has fresh (fresh_low t valid old new h needed) b in
      let e = owns_kept h2 k (λ set. has set || list_any (bytes_eq set) (at_port_of k f)) (λ set. has_set (sets_of t new) (record { bridge_port = k + 1; ports = set })) (is_gone (sets_of t new) h2) (λ g. refl) d in
      let down = goes_down t old new in
      let g = owns_set (free_where (is_gone (sets_of t new) h2) h2) (without_channel t (own_channel t h2 down) down (free_where (is_gone (sets_of t new) h2) h2)) k _
      (λ m. without_set t (own_channel t h2 down) down (free_where (is_gone (sets_of t new) h2) h2) k m) e in
      owns_same _ k _ (λ set. list_any (bytes_eq set) (sets_at t k new)) (kept_are t old new k low) g

  gives_start : (k : ℕ) → k < 64 → is_cascade t k ≡ true → Gives h k (needs_channel t old k)
  gives_start k low c = gives_from h k (needs_channel t old k) (λ p. needed.channels k p low c) (λ p m e. needed.one_channel k p m low c e)

  -- the ports of what is held, by the port that goes up or down
  abbrev held_with : Option ℕ → Option ℕ → Held
  held_with up down =
      let h1 : Held = with_channel t (new_channel t l h up) up h in
      let h2 : Held = give_all (numbered l.groups h1 (fresh_sets t old new)) h1 in
      without_channel t (own_channel t h2 down) down (free_where (is_gone (sets_of t new) h2) h2)

  gives_by : (k : ℕ) → k < 64 → is_cascade t k ≡ true → (up down : Option ℕ) → goes_up t old new ≡ up → goes_down t old new ≡ down → Gives (held_with up down) k (needs_channel t new k)
  gives_by k low c (Some p) (Some q) e f =
      let r : Rises t old new p = rises_is t old new p (goes_up_rises t old new p e) in
      let s : Rises t new old q = rises_is t new old q (goes_up_rises t new old q f) in
      let same : p ≡ q = step.one p q (differ _ _ false true r.absent r.present false_true) (differ _ _ true false s.present s.absent true_false) in
      absurd (false≢true (sym r.absent ∙ (ap old.present same ∙ s.present)))
  gives_by k low c (Some p) None e f =
      let r : Rises t old new p = rises_is t old new p (goes_up_rises t old new p e) in
      let n = new_channel t l h (Some p) in
      let h1 : Held = give_channel t p n h in
      let g = numbered l.groups h1 (fresh_sets t old new) in
      let there : (m : ℕ) × IsLowest (channel_used h (trunk t (device p))) 1 l.channels m =
      free_there t valid old h needed l p r.extended (subst (λ (o : Option ℕ). channels_short t l old (trunk_of t o) ≡ None) e (none_short t valid l old new fits).0) in
      let number : n ≡ there.0 = ap or_zero there.1.is in
      let d = differ (old.present p) (new.present p) false true r.absent r.present false_true in
      let absent : needs_channel t old (trunk t (device p)) p ≡ false = rw (r.absent, no_cascade_under t (trunk t (device p)) p r.extended) (none_there (is_under t (trunk t (device p)) p)) in
      gives_port h1 (free_where (is_gone (sets_of t new) (give_all g h1)) (give_all g h1)) k (needs_channel t new k) (λ m. give_port g h1 k m)
      (elim (cases_eq k (trunk t (device p))) [
        | inr other ↦ gives_same h1 k (needs_channel t old k) (needs_channel t new k)
            (λ q. elim (cases_eq q p) [ inl s ↦ rw s (needs_outside t old new k p (under_only t k p other)) | inr s ↦ needs_by t old new k q (same_but p q d s) ])
            (gives_elsewhere t h k p n (needs_channel t old k) (gives_start k low c) other)
        | inl here ↦ gives_same h1 k (λ q. needs_channel t old k q || q == p) (needs_channel t new k)
            (λ q. needs_more t old new p k q (λ q s. same_but p q d s) r.present (subst (λ (m : ℕ). is_under t m p ≡ true) (sym here) (under_home t p r.extended)))
            (gives_more t h k p n (needs_channel t old k) (gives_start k low c) here
            (let a = there.1.low in omega (arith, a, number)) (let b = there.1.high in omega (arith, b, number, few))
            (subst (λ (m : ℕ). needs_channel t old m p ≡ false) (sym here) absent)
            (subst (λ (m : ℕ). h.port m n ≡ None) (sym here) (ap (h.port (trunk t (device p))) number ∙ is_none_at (h.port (trunk t (device p)) there.0) there.1.free)))
      ])
    where
      none_there : (b : Bool) → (b && false || false) ≡ false
      none_there true = refl
      none_there false = refl
  gives_by k low c None (Some p) e f =
      let s : Rises t new old p = rises_is t new old p (goes_up_rises t new old p f) in
      let g = numbered l.groups h (fresh_sets t old new) in
      let h2 : Held = give_all g h in
      let n = own_channel t h2 (Some p) in
      let d = differ (old.present p) (new.present p) true false s.present s.absent true_false in
      let before = gives_port h h2 k (needs_channel t old k) (λ m. give_port g h k m) (gives_start k low c) in
      let h3 : Held = free_where (is_gone (sets_of t new) h2) h2 in
      elim (cases_eq k (trunk t (device p))) [
        | inr other ↦ gives_same _ k (needs_channel t old k) (needs_channel t new k)
            (λ q. elim (cases_eq q p) [ inl a ↦ rw a (needs_outside t old new k p (under_only t k p other)) | inr a ↦ needs_by t old new k q (same_but p q d a) ])
            (freed_elsewhere t h3 k p n (needs_channel t old k) (gives_port h2 h3 k (needs_channel t old k) (λ m. refl) before) other)
        | inl here ↦
            let needs : needs_channel t old k p ≡ true = rw (s.present, subst (λ (m : ℕ). is_under t m p ≡ true) (sym here) (under_home t p s.extended)) refl in
            let m = before.full p needs in
            let number : n ≡ m.0 = ap (λ (j : ℕ). or_zero (channel_in h2 j p)) (sym here) ∙ ap or_zero (gives_one h2 k (needs_channel t old k) before p m.0 m.1) in
            gives_same _ k (λ q. needs_channel t old k q && not (q == p)) (needs_channel t new k)
            (λ q. needs_less t old new p k q (λ q a. same_but p q d a) s.absent (no_cascade_under t k p s.extended))
            (gives_less t h3 k p n (needs_channel t old k) (gives_port h2 h3 k (needs_channel t old k) (λ m. refl) before) here (ap (h2.port k) number ∙ m.1))
      ]
  gives_by k low c None None e f =
      let g = numbered l.groups h (fresh_sets t old new) in
      let h2 : Held = give_all g h in
      gives_same _ k (needs_channel t old k) (needs_channel t new k) (λ q. by_under q (is_under t k q) refl)
      (gives_port h2 (free_where (is_gone (sets_of t new) h2) h2) k (needs_channel t old k) (λ m. refl) (gives_port h h2 k (needs_channel t old k) (λ m. give_port g h k m) (gives_start k low c)))
    where
      stays : (a b : Bool) → (not a && b) ≡ false → (not b && a) ≡ false → a ≡ b
      stays true true x y = refl
      stays true false x y = absurd (false≢true (sym y))
      stays false true x y = absurd (false≢true (sym x))
      stays false false x y = refl

      by_under : (q : ℕ) (b : Bool) → is_under t k q ≡ b → needs_channel t old k q ≡ needs_channel t new k q
      by_under q false u = needs_outside t old new k q u
      by_under q true u =
          let ext = under_extended t k q u in
          needs_by t old new k q (stays (old.present q) (new.present q) (never_rises t valid old new q ext e) (never_rises t valid new old q ext f))

pub held_goes_on : HeldGoesOn
unfolding later freed claimed fresh_groups
held_goes_on t l old new h valid few enough step needed fits =
    let k3 : Held = later t valid l old new h few enough step needed fits in
    record {
      channels = λ k p low c. gives_channels k3 k (needs_channel t new k) (gives_by t valid l old new h few enough step needed fits k low c (goes_up t old new) (goes_down t old new) refl refl) p;
      one_channel = λ k p m low c e. gives_one k3 k (needs_channel t new k) (gives_by t valid l old new h few enough step needed fits k low c (goes_up t old new) (goes_down t old new) refl refl) p m e;
      groups = λ k set low c. owns_groups k3 k (λ set. list_any (bytes_eq set) (sets_at t k new)) (owns_end t valid l old new h few enough step needed fits k low c) set;
      one_group = λ k g low c u. owns_one k3 k (λ set. list_any (bytes_eq set) (sets_at t k new)) (owns_end t valid l old new h few enough step needed fits k low c) g u;
    }

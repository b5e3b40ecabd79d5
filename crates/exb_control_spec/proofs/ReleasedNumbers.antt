-- What is given back at the end of a change is what its plan frees.
use Rattle.std.proofs.Common.{◌≡◌, ◌≢◌, ℕ, ◌+◌, ◌-◌, ◌<◌, ◌==◌, ◌&&◌, ◌||◌, cond, Bool, true, false, not, List, [], Option, Some, None, map, nat_lt, refl, sym, ◌∙◌, ap, arith, inl, inr, eq-eqb}
use Rattle.std.specs.Prelude.{is_some, bytes_eq}
use Rattle.std.specs.List.{list_any}
use Rattle.std.proofs.lemmas.Bool.{cases_eq, lt-ltb, ltb-true, and_parts, and_from, ne_eqb, eqb-true, false≢true}
use mathlib.Core.Path.{fun_ext}
use Rattle.exb_model.specs.Tree.{Shape, device, trunk, is_cascade}
use Rattle.exb_model.specs.Setup.{Limits}
use Rattle.exb_model.specs.Configuration.{Bridge}
use Rattle.exb_model.specs.Refusals.{is_empty_set, sets_at}
use Rattle.exb_control_spec.specs.Plans.Sets.{PortsAt, sets_of}
use Rattle.exb_control_spec.proofs.Plans.EachElement.{list_any-map, each_map}
use Rattle.exb_control_spec.specs.declared.plan.change.Number.{Number}
use Rattle.exb_control_spec.specs.Plans.HeldNumbers.{Held, Group, HoldsNeeded, group_in, group_used, channel_in, or_zero, numbered, free_where}
use Rattle.exb_control_spec.specs.Plans.Differences.{is_gone, gone_groups, goes_up, goes_down, fresh_sets}
use Rattle.exb_control_spec.specs.Plans.Plans.{own_channel, new_channel, with_channel, without_channel, with_up, fresh_groups, freed_channel, number_of, claimed, freed, change_of}
use Rattle.exb_control_spec.proofs.Plans.SetFacts.{IsBelow}
use Rattle.exb_control_spec.proofs.Plans.Channels.{Rises, rises_is, goes_up_rises}
use Rattle.exb_control_spec.proofs.Plans.HeldAfterPlan.{held_goes_on}
use Rattle.exb_control_spec.proofs.Plans.GroupOwners.{Owns, owns_from}
use Rattle.exb_control_spec.specs.Decisions.{is_number, release}
use Rattle.exb_control_spec.specs.RequestLaws.{IsPlanned, IsHeldAtCascades, ReleasedIsFreed, ReleasedIsNeeded}
use Rattle.exb_control_spec.proofs.Plans.Bools.{same_tests, eq_turned}
use Rattle.exb_control_spec.proofs.Plans.GoneGroups.{IsGoneAt, gone_found, gone_there}
use Rattle.exb_control_spec.proofs.FreshGroups.{given_port, given_elsewhere, with_set, without_set, fresh_kept, fresh_below, fresh_now, fresh_placed, gone_given}

pub same_held : (a b : Held) → ((k c : ℕ) → a.port k c ≡ b.port k c) → ((k g : ℕ) → a.set k g ≡ b.set k g) → a ≡ b
same_held a b port set = λ i. record { port = λ k c. port k c i; set = λ k g. set k g i }

pub channel_by : (h g : Held) (k p : ℕ) → ((c : ℕ) → h.port k c ≡ g.port k c) → channel_in h k p ≡ channel_in g k p
unfolding channel_in
channel_by h g k p same = ap (λ (f : ℕ → Option ℕ). let x : Held = record { port = λ _. f; set = h.set } in channel_in x k p) (fun_ext same)

group_by : (h g : Held) (k : ℕ) (set : List ℕ) → ((m : ℕ) → h.set k m ≡ g.set k m) → group_in h k set ≡ group_in g k set
unfolding group_in
group_by h g k set same = ap (λ (f : ℕ → List ℕ). let x : Held = record { port = h.port; set = λ _. f } in group_in x k set) (fun_ext same)

-- what is needed is said of the cascade ports of the bridge alone
pub needed_alike : (t : Shape) (b : Bridge) (h g : Held) → ((k c : ℕ) → k < 64 → is_cascade t k ≡ true → h.port k c ≡ g.port k c) →
    ((k m : ℕ) → k < 64 → is_cascade t k ≡ true → h.set k m ≡ g.set k m) → HoldsNeeded t b g → HoldsNeeded t b h
needed_alike t b h g port set n = record {
  channels = λ k p low c. ap is_some (channel_by h g k p (λ e. port k e low c)) ∙ n.channels k p low c;
  one_channel = λ k p e low c is. channel_by h g k p (λ e. port k e low c) ∙ n.one_channel k p e low c (sym (port k e low c) ∙ is);
  groups = λ k s low c. ap is_some (group_by h g k s (λ m. set k m low c)) ∙ n.groups k s low c;
  one_group = λ k m low c used.
      let same : h.set k m ≡ g.set k m = set k m low c in
      ap (group_in h k) same ∙ (group_by h g k (g.set k m) (λ m. set k m low c) ∙ n.one_group k m low c (ap (λ s. not (is_empty_set s)) (sym same) ∙ used));
}

module _ (t : Shape) (l : Limits) (old new : Bridge) (h : Held) (p : IsPlanned t l old new h) where
  -- ---- the channel of a port that goes down
  pub none_up : (q : ℕ) → goes_down t old new ≡ Some q → (o : Option ℕ) → goes_up t old new ≡ o → o ≡ None
  none_up q down None up = refl
  none_up q down (Some x) up =
      let r : Rises t old new x = rises_is t old new x (goes_up_rises t old new x up) in
      let s : Rises t new old q = rises_is t new old q (goes_up_rises t new old q down) in
      let same : x ≡ q = p.step.one x q (λ e. false≢true (sym r.absent ∙ (e ∙ r.present))) (λ e. false≢true (sym s.absent ∙ (sym e ∙ s.present))) in
      absurd (false≢true (sym r.absent ∙ (ap old.present same ∙ s.present)))

  pub ports_stay : (q : ℕ) → goes_down t old new ≡ Some q → (claimed t l old new h).port ≡ h.port
  unfolding claimed fresh_groups
  ports_stay q down =
      given_port (numbered l.groups (with_up t l old new h) (fresh_sets t old new)) (with_up t l old new h)
      ∙ ap (λ (o : Option ℕ). (with_channel t (new_channel t l h o) o h).port) (none_up q down (goes_up t old new) refl)

  pub own_stays : (o : Option ℕ) → goes_down t old new ≡ o → own_channel t h o ≡ own_channel t (claimed t l old new h) o
  own_stays None down = refl
  own_stays (Some q) down =
      ap or_zero (channel_by h (claimed t l old new h) (trunk t (device q)) q (λ c. ap (λ (f : ℕ → ℕ → Option ℕ). f (trunk t (device q)) c) (sym (ports_stay q down))))

  release_port : (o : Option ℕ) (c : ℕ) (g : Held) (k e : ℕ) → cond (is_number (freed_channel t c o) k e) None (g.port k e) ≡ (without_channel t c o g).port k e
  release_port None c g k e = refl
  release_port (Some q) c g k e = ap (λ b. cond b None (g.port k e)) same
    where
      next : (a b : ℕ) → (a + 1 == b + 1) ≡ (b == a)
      next a b = elim (cases_eq a b) [
        | inl f ↦ rw (eq-eqb (a + 1) (b + 1) (omega arith), eq-eqb b a (sym f)) refl
        | inr f ↦ rw (ne_eqb (a + 1) (b + 1) (λ z. f (omega arith)), ne_eqb b a (λ z. f (sym z))) refl
      ]

      or_false : (b : Bool) → (b || false) ≡ b
      or_false true = refl
      or_false false = refl

      same : (trunk t (device q) + 1 == k + 1 && c == e || false) ≡ (k == trunk t (device q) && e == c)
      same = or_false (trunk t (device q) + 1 == k + 1 && c == e) ∙ (ap (λ b. b && c == e) (next (trunk t (device q)) k) ∙ ap (λ b. k == trunk t (device q) && b) (eq_turned c e))

  pub ports_are : (k e : ℕ) → (release (change_of t l old new h) (claimed t l old new h)).port k e ≡ (freed t old new (claimed t l old new h)).port k e
  unfolding freed change_of
  ports_are k e =
      let o = goes_down t old new in
      let g : Held = claimed t l old new h in
      ap (λ (c : ℕ). cond (is_number (freed_channel t c o) k e) None (g.port k e)) (own_stays o refl)
      ∙ release_port o (own_channel t g o) (free_where (is_gone (sets_of t new) g) g) k e

  -- ---- the groups of sets that are gone
  pub same_gone : (k g : ℕ) → is_gone (sets_of t new) (claimed t l old new h) k g ≡ is_gone (sets_of t new) h k g
  unfolding claimed fresh_groups
  same_gone k g =
      let w : Held = with_up t l old new h in
      gone_given l.groups (sets_of t new) w (fresh_sets t old new) (fresh_now t l old new h p) (fresh_placed t l old new h p) (fresh_kept t old new) k g
      ∙ ap (λ (set : ℕ → ℕ → List ℕ). let x : Held = record { port = h.port; set = set } in is_gone (sets_of t new) x k g) (with_set t (new_channel t l h (goes_up t old new)) (goes_up t old new) h)

  pub owned : (k : ℕ) → k < 64 → is_cascade t k ≡ true → Owns h k (λ set. list_any (bytes_eq set) (sets_at t k old))
  owned k low c = owns_from h k (λ set. list_any (bytes_eq set) (sets_at t k old)) (λ set. p.needed.groups k set low c) (λ g u. p.needed.one_group k g low c u)

  abbrev is_it : ℕ → ℕ → Group → Bool
  is_it k g x = x.bridge_port == k + 1 && x.number == g

  listed_gone : (k g : ℕ) → k < 64 → is_cascade t k ≡ true → list_any (is_it k g) (gone_groups t (sets_of t new) h) ≡ is_gone (sets_of t new) h k g
  listed_gone k g low c =
      same_tests (list_any (is_it k g) (gone_groups t (sets_of t new) h)) (is_gone (sets_of t new) h k g)
      (λ e.
      let f : IsGoneAt t (sets_of t new) h (is_it k g) = gone_found t (sets_of t new) h (is_it k g) e in
      let both = and_parts (f.port + 1 == k + 1) (f.group == g) f.passes in
      let port : f.port ≡ k = (let x = eqb-true (f.port + 1) (k + 1) both.0 in omega (arith, x)) in
      let group : f.group ≡ g = eqb-true f.group g both.1 in
      ap (λ (m : ℕ). is_gone (sets_of t new) h m g) (sym port) ∙ (ap (is_gone (sets_of t new) h f.port) (sym group) ∙ f.gone))
      (λ e.
      let o = owned k low c in
      let used = (and_parts (group_used h k g) _ e).0 in
      gone_there t (sets_of t new) h (is_it k g) (record {
        port = k;
        group = g;
        low_port = low;
        cascade = c;
        low = o.low g used;
        high = o.high g used;
        gone = e;
        passes = and_from (k + 1 == k + 1) (g == g) (eq-eqb (k + 1) (k + 1) refl) (eq-eqb g g refl);
      }))

  number_gone : (k g : ℕ) → is_number (map number_of (gone_groups t (sets_of t new) h)) k g ≡ list_any (is_it k g) (gone_groups t (sets_of t new) h)
  number_gone k g = list_any-map (λ (x : Number). x.bridge_port == k + 1 && x.number == g) number_of (gone_groups t (sets_of t new) h)

  pub freed_set : (k g : ℕ) → (freed t old new (claimed t l old new h)).set k g ≡ cond (is_gone (sets_of t new) (claimed t l old new h) k g) [] ((claimed t l old new h).set k g)
  unfolding freed
  freed_set k g =
      let x : Held = claimed t l old new h in
      let down = goes_down t old new in
      ap (λ (set : ℕ → ℕ → List ℕ). set k g) (without_set t (own_channel t x down) down (free_where (is_gone (sets_of t new) x) x))

  release_set : (k g : ℕ) → (release (change_of t l old new h) (claimed t l old new h)).set k g ≡ cond (list_any (is_it k g) (gone_groups t (sets_of t new) h)) [] ((claimed t l old new h).set k g)
  unfolding change_of
  release_set k g = ap (λ b. cond b [] ((claimed t l old new h).set k g)) (number_gone k g)

  pub sets_are : (k g : ℕ) → k < 64 → is_cascade t k ≡ true → (release (change_of t l old new h) (claimed t l old new h)).set k g ≡ (freed t old new (claimed t l old new h)).set k g
  sets_are k g low c =
      release_set k g
      ∙ (ap (λ b. cond b [] ((claimed t l old new h).set k g)) (listed_gone k g low c ∙ sym (same_gone k g)) ∙ sym (freed_set k g))

  -- where no group can be, none is
  none_there : (k g : ℕ) → (nat_lt k 64 && is_cascade t k) ≡ false → h.set k g ≡ [] → (claimed t l old new h).set k g ≡ []
  unfolding claimed fresh_groups
  none_there k g off none =
      given_elsewhere l.groups (with_up t l old new h) (fresh_sets t old new) k
      (each_map (IsBelow t) (λ s. s.bridge_port ≢ k + 1) (fresh_sets t old new) (λ s a e. not_below s a e) (fresh_below t p.tree old new)) g
      ∙ (ap (λ (set : ℕ → ℕ → List ℕ). set k g) (with_set t (new_channel t l h (goes_up t old new)) (goes_up t old new) h) ∙ none)
    where
      not_below : (s : PortsAt) → IsBelow t s → s.bridge_port ≢ k + 1
      not_below s a e =
          let at : s.bridge_port - 1 ≡ k = (let n = a.from1 in omega (arith, e, n)) in
          false≢true (sym off ∙ and_from (nat_lt k 64) (is_cascade t k) (lt-ltb k 64 (let low = a.low in omega (arith, low, at))) (ap (is_cascade t) (sym at) ∙ a.cascade))

  pub all_sets_are : IsHeldAtCascades t h → (k g : ℕ) → (release (change_of t l old new h) (claimed t l old new h)).set k g ≡ (freed t old new (claimed t l old new h)).set k g
  all_sets_are held k g = by_test (nat_lt k 64 && is_cascade t k) refl
    where
      empty_by : (a b : Bool) (set : List ℕ) → set ≡ [] → cond a [] set ≡ cond b [] set
      empty_by true true set e = refl
      empty_by true false set e = sym e
      empty_by false true set e = e
      empty_by false false set e = refl

      by_test : (b : Bool) → (nat_lt k 64 && is_cascade t k) ≡ b → (release (change_of t l old new h) (claimed t l old new h)).set k g ≡ (freed t old new (claimed t l old new h)).set k g
      by_test true on = (let both = and_parts (nat_lt k 64) (is_cascade t k) on in sets_are k g (ltb-true k 64 both.0) both.1)
      by_test false off =
          release_set k g
          ∙ (empty_by (list_any (is_it k g) (gone_groups t (sets_of t new) h)) (is_gone (sets_of t new) (claimed t l old new h) k g) ((claimed t l old new h).set k g) (none_there k g off (held k g off))
          ∙ sym (freed_set k g))

pub released_is_freed : ReleasedIsFreed
released_is_freed t l old new h p held =
    same_held (release (change_of t l old new h) (claimed t l old new h)) (freed t old new (claimed t l old new h)) (ports_are t l old new h p) (all_sets_are t l old new h p held)

pub released_is_needed : ReleasedIsNeeded
released_is_needed t l old new h p =
    needed_alike t new (release (change_of t l old new h) (claimed t l old new h)) (freed t old new (claimed t l old new h))
    (λ k c low is. ports_are t l old new h p k c) (λ k g low is. sets_are t l old new h p k g low is)
    (held_goes_on t l old new h p.tree p.channels p.groups p.step p.needed p.fits)

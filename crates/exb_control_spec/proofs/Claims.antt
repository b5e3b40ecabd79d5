-- Numbers are claimed at the cascade ports of the bridge alone, whatever is said to be held elsewhere.
use Rattle.std.proofs.Common.{◌≡◌, ℕ, zero, suc, ◌+◌, ◌-◌, ◌*◌, ◌<◌, ◌≤◌, ◌==◌, ◌&&◌, cond, Bool, true, false, not, List, [], ◌∷◌, ◌++◌, Option, Some, None, map, filter, refl, sym, ◌∙◌, ap, subst, arith, inl, inr}
use Rattle.std.specs.Prelude.{is_some, find}
use Rattle.std.specs.List.{flat_map, range_with_len}
use Rattle.std.proofs.lemmas.Bool.{cases_Bool, and_parts, ne_eqb, false≢true}
use mathlib.Core.Path.{fun_ext}
use Rattle.exb_model.specs.Ports.{below}
use Rattle.exb_model.specs.Tree.{Shape, IsTree, IsCascade, device, trunk, top, is_cascade, is_port, is_extended}
use Rattle.exb_model.specs.Setup.{Limits}
use Rattle.exb_model.specs.Configuration.{Bridge}
use Rattle.exb_model.specs.Refusals.{is_empty_set}
use Rattle.exb_model.proofs.TreeWays.{top_high, top_below, top_hangs}
use Rattle.exb_model.specs.LowestFree.{lowest_free, is_port as is_port_of}
use Rattle.exb_control_spec.specs.Plans.Sets.{PortsAt, sets_of}
use Rattle.exb_csp.specs.declared.ask_at.AskAt.{AskAt}
use Rattle.exb_control_spec.specs.declared.plan.change.Number.{Number}
use Rattle.exb_control_spec.specs.declared.plan.change.Change.{Change}
use Rattle.exb_csp.specs.declared.message.Request.TheVariants.{Open}
use Rattle.exb_control_spec.specs.Plans.ChangeRequests.{ask, create_asks}
use Rattle.exb_control_spec.specs.Plans.HeldNumbers.{Held, Group, channel_in, or_zero, give, give_all, give_channel, group_for, numbered, is_place, in_spaces}
use Rattle.exb_control_spec.specs.Plans.Differences.{goes_up, goes_down, has_set, gone_at, gone_groups, fresh_sets}
use Rattle.exb_control_spec.specs.Plans.Plans.{new_channel, own_channel, with_channel, with_up, fresh_groups, claimed, change_of, prepare_of, prepare_with, cleanup_of, cleanup_with, freed_channel, number_of}
use Rattle.exb_control_spec.proofs.Plans.EachElement.{Each, each_map, each_filter}
use Rattle.exb_control_spec.proofs.Plans.SetFacts.{IsBelow, sets_below}
use Rattle.exb_control_spec.proofs.Plans.Trunks.{hung_cascade, home_low, home_cascade}
use Rattle.exb_control_spec.proofs.Plans.Channels.{Rises, rises_is, goes_up_rises}
use Rattle.exb_control_spec.specs.Decisions.{cascades_of, channel_of, opening_asks}
use Rattle.exb_control_spec.proofs.CascadePlaces.{place_true}
use Rattle.exb_control_spec.proofs.ReleasedNumbers.{same_held}

-- ---- where a port's channel is
pub trunk_low : (t : Shape) → IsTree t → (q : ℕ) → 64 ≤ q → is_port t q ≡ true → trunk t (device q) < 64
unfolding trunk
trunk_low t valid q high known = subst (λ (x : ℕ). x < 64) (top_high t 63 q high) (top_below t valid q high known)

pub trunk_cascade : (t : Shape) → IsTree t → (q : ℕ) → 64 ≤ q → is_port t q ≡ true → is_cascade t (trunk t (device q)) ≡ true
unfolding trunk
trunk_cascade t valid q high known =
    let c : IsCascade t (top t.on 64 q) = top_hangs t valid 64 q high known (top_below t valid q high known) in
    subst (λ (x : ℕ). is_cascade t x ≡ true) (top_high t 63 q high) (hung_cascade t valid c.0 (top t.on 64 q) c.1)

pub trunk_place : (t : Shape) → IsTree t → (q : ℕ) → 64 ≤ q → is_port t q ≡ true → is_place t (trunk t (device q)) ≡ true
trunk_place t valid q high known = place_true t (trunk t (device q)) (trunk_low t valid q high known) (trunk_cascade t valid q high known)

home_place : (t : Shape) → IsTree t → (q : ℕ) → is_extended t q ≡ true → is_place t (trunk t (device q)) ≡ true
home_place t valid q e = place_true t (trunk t (device q)) (home_low t valid q e) (home_cascade t valid q e)

-- any port that goes up or down has its channel at such a place
IsHomed : Shape → Option ℕ → Type 0
IsHomed t None = Unit {0}
IsHomed t (Some p) = is_place t (trunk t (device p)) ≡ true

homed : (t : Shape) → IsTree t → (old new : Bridge) (o : Option ℕ) → goes_up t old new ≡ o → IsHomed t o
unfolding IsHomed
homed t valid old new None e = tt
homed t valid old new (Some p) e = (let r : Rises t old new p = rises_is t old new p (goes_up_rises t old new p e) in home_place t valid p r.extended)

-- ---- channels
channel_placed : (t : Shape) (h : Held) (k p : ℕ) → is_place t k ≡ true → channel_in (in_spaces t h) k p ≡ channel_in h k p
unfolding channel_in
channel_placed t h k p e = ap (λ b. find (λ c. is_port_of p (cond b (h.port k c) None)) (range_with_len 1 4094)) e

new_placed : (t : Shape) (l : Limits) (h : Held) (o : Option ℕ) → IsHomed t o → new_channel t l (in_spaces t h) o ≡ new_channel t l h o
unfolding IsHomed
new_placed t l h None e = refl
new_placed t l h (Some p) e = ap (λ b. or_zero (lowest_free (λ c. is_some (cond b (h.port (trunk t (device p)) c) None)) 1 l.channels)) e

own_placed : (t : Shape) (h : Held) (o : Option ℕ) → IsHomed t o → own_channel t (in_spaces t h) o ≡ own_channel t h o
unfolding IsHomed
own_placed t h None e = refl
own_placed t h (Some p) e = ap or_zero (channel_placed t h (trunk t (device p)) p e)

pub given_placed : (t : Shape) (p c : ℕ) (h : Held) → is_place t (trunk t (device p)) ≡ true → give_channel t p c (in_spaces t h) ≡ in_spaces t (give_channel t p c h)
given_placed t p c h e =
    same_held (give_channel t p c (in_spaces t h)) (in_spaces t (give_channel t p c h)) (λ k d. by_test k d (is_place t k) refl) (λ k n. refl)
  where
    by_test : (k d : ℕ) (b : Bool) → is_place t k ≡ b →
        cond (k == trunk t (device p) && d == c) (Some p) (cond b (h.port k d) None) ≡ cond b (cond (k == trunk t (device p) && d == c) (Some p) (h.port k d)) None
    by_test k d true f = refl
    by_test k d false f = rw (ne_eqb k (trunk t (device p)) (λ s. false≢true (sym f ∙ (ap (is_place t) s ∙ e)))) refl

with_placed : (t : Shape) (c : ℕ) (h : Held) (o : Option ℕ) → IsHomed t o → with_channel t c o (in_spaces t h) ≡ in_spaces t (with_channel t c o h)
unfolding IsHomed
with_placed t c h None e = refl
with_placed t c h (Some p) e = given_placed t p c h e

-- ---- groups
-- a set below a cascade port of the bridge
IsSetPlaced : Shape → PortsAt → Type 0
IsSetPlaced t s = (1 ≤ s.bridge_port) × (is_place t (s.bridge_port - 1) ≡ true)

group_placed : (t : Shape) (groups : ℕ) (h : Held) (s : PortsAt) → is_place t (s.bridge_port - 1) ≡ true → group_for groups (in_spaces t h) s ≡ group_for groups h s
group_placed t groups h s e =
    ap (λ (b : Bool). let x : Group = record {
      bridge_port = s.bridge_port;
      number = or_zero (lowest_free (λ g. not (is_empty_set (cond b (h.set (s.bridge_port - 1) g) []))) 4096 groups);
      ports = s.ports;
    } in x) e

give_placed : (t : Shape) (x : Group) (h : Held) → 1 ≤ x.bridge_port → is_place t (x.bridge_port - 1) ≡ true → give x (in_spaces t h) ≡ in_spaces t (give x h)
give_placed t x h low e =
    same_held (give x (in_spaces t h)) (in_spaces t (give x h)) (λ k c. refl) (λ k n. by_test k n (is_place t k) refl)
  where
    by_test : (k n : ℕ) (b : Bool) → is_place t k ≡ b → cond (k + 1 == x.bridge_port && n == x.number) x.ports (cond b (h.set k n) []) ≡ cond b (cond (k + 1 == x.bridge_port && n == x.number) x.ports (h.set k n)) []
    by_test k n true f = refl
    by_test k n false f =
        rw (ne_eqb (k + 1) x.bridge_port (λ s. let same : k ≡ x.bridge_port - 1 = omega (arith, s) in false≢true (sym f ∙ (ap (is_place t) same ∙ e)))) refl

numbered_placed : (t : Shape) (groups : ℕ) (sets : List PortsAt) (h : Held) → Each (IsSetPlaced t) sets → numbered groups (in_spaces t h) sets ≡ numbered groups h sets
unfolding numbered IsSetPlaced
numbered_placed t groups [] h each = refl
numbered_placed t groups (s ∷ sets) h each =
    let x : Group = group_for groups h s in
    let e : group_for groups (in_spaces t h) s ≡ x = group_placed t groups h s each.0.1 in
    ap (λ (y : Group). y ∷ numbered groups (give y (in_spaces t h)) sets) e
    ∙ ap (λ (l : List Group). x ∷ l) (ap (λ (g : Held). numbered groups g sets) (give_placed t x h each.0.0 each.0.1) ∙ numbered_placed t groups sets (give x h) each.1)

all_placed : (t : Shape) (groups : ℕ) (sets : List PortsAt) (h : Held) → Each (IsSetPlaced t) sets → (g : Held) →
    give_all (numbered groups h sets) (in_spaces t g) ≡ in_spaces t (give_all (numbered groups h sets) g)
unfolding numbered give_all IsSetPlaced
all_placed t groups [] h each g = refl
all_placed t groups (s ∷ sets) h each g =
    let x : Group = group_for groups h s in
    ap (give_all (numbered groups (give x h) sets)) (give_placed t x g each.0.0 each.0.1) ∙ all_placed t groups sets (give x h) each.1 (give x g)

fresh_placed : (t : Shape) → IsTree t → (old new : Bridge) → Each (IsSetPlaced t) (fresh_sets t old new)
unfolding fresh_sets IsSetPlaced
fresh_placed t valid old new =
    each_map (λ s. IsBelow t s × (not (has_set (sets_of t old) s) ≡ true)) (IsSetPlaced t) (filter (λ s. not (has_set (sets_of t old) s)) (sets_of t new))
    (λ s a. (a.0.from1, place_true t (s.bridge_port - 1) a.0.low a.0.cascade))
    (each_filter (IsBelow t) (λ s. not (has_set (sets_of t old) s)) (sets_of t new) (sets_below t valid new))

gone_at_same : (kept : List PortsAt) (h g : Held) (k : ℕ) → ((n : ℕ) → g.set k n ≡ h.set k n) → gone_at kept g k ≡ gone_at kept h k
unfolding gone_at
gone_at_same kept h g k same =
    ap (λ (f : ℕ → List ℕ). map (λ n. let x : Group = record { bridge_port = k + 1; number = n; ports = f n } in x)
    (filter (λ n. not (is_empty_set (f n)) && not (has_set kept (let s : PortsAt = record { bridge_port = k + 1; ports = f n } in s))) (range_with_len 4096 12288))) (fun_ext same)

flat_same : {Y : Type 0} (f g : ℕ → List Y) (test : ℕ → Bool) (a n : ℕ) → ((k : ℕ) → a ≤ k → k < a + n → test k ≡ true → f k ≡ g k) →
    flat_map f (filter test (range_with_len a n)) ≡ flat_map g (filter test (range_with_len a n))
flat_same f g test a zero same = refl
flat_same f g test a (suc n) same =
    let rest = flat_same f g test (a + 1) n (λ k l h e. same k (omega (arith, l)) (omega (arith, h)) e) in
    elim (cases_Bool (test a)) [
      | inl e ↦ rw e (ap (λ l. l ++ flat_map f (filter test (range_with_len (a + 1) n))) (same a (omega arith) (omega arith) e) ∙ ap (λ l. g a ++ l) rest)
      | inr e ↦ rw e rest
    ]

gone_placed : (t : Shape) (kept : List PortsAt) (h : Held) → gone_groups t kept (in_spaces t h) ≡ gone_groups t kept h
unfolding gone_groups below
gone_placed t kept h =
    flat_same (gone_at kept (in_spaces t h)) (gone_at kept h) (is_cascade t) 0 64
    (λ k l low c. gone_at_same kept h (in_spaces t h) k (λ n. ap (λ b. cond b (h.set k n) []) (place_true t k (omega (arith, low)) c)))

-- ---- the whole change
module _ (t : Shape) (valid : IsTree t) (l : Limits) (old new : Bridge) (h : Held) where
  up_placed : with_up t l old new (in_spaces t h) ≡ in_spaces t (with_up t l old new h)
  up_placed =
      let o = goes_up t old new in
      let is = homed t valid old new o refl in
      ap (λ (c : ℕ). with_channel t c o (in_spaces t h)) (new_placed t l h o is) ∙ with_placed t (new_channel t l h o) h o is

  groups_placed : fresh_groups t l old new (in_spaces t h) ≡ fresh_groups t l old new h
  unfolding fresh_groups
  groups_placed =
      ap (λ (g : Held). numbered l.groups g (fresh_sets t old new)) up_placed
      ∙ numbered_placed t l.groups (fresh_sets t old new) (with_up t l old new h) (fresh_placed t valid old new)

  pub claimed_placed : claimed t l old new (in_spaces t h) ≡ in_spaces t (claimed t l old new h)
  unfolding claimed fresh_groups
  claimed_placed =
      ap (λ (xs : List Group). give_all xs (with_up t l old new (in_spaces t h))) groups_placed
      ∙ (ap (give_all (fresh_groups t l old new h)) up_placed
      ∙ all_placed t l.groups (fresh_sets t old new) (with_up t l old new h) (fresh_placed t valid old new) (with_up t l old new h))

  pub change_placed : change_of t l old new (in_spaces t h) ≡ change_of t l old new h
  unfolding change_of prepare_of cleanup_of
  change_placed =
      let up = goes_up t old new in
      let down = goes_down t old new in
      let new_is = new_placed t l h up (homed t valid old new up refl) in
      let own_is = own_placed t h down (homed t valid new old down refl) in
      by_parts (prepare_with t (new_channel t l h up) up (fresh_groups t l old new h)) _ _ _
      (ap (λ (c : ℕ). prepare_with t c up (fresh_groups t l old new (in_spaces t h))) new_is ∙ ap (prepare_with t (new_channel t l h up) up) groups_placed)
      (ap (λ (c : ℕ). cleanup_with t c down (gone_groups t (sets_of t new) (in_spaces t h))) own_is ∙ ap (cleanup_with t (own_channel t h down) down) (gone_placed t (sets_of t new) h))
      (ap (λ (c : ℕ). freed_channel t c down) own_is)
      (ap (map number_of) (gone_placed t (sets_of t new) h))
    where
      by_parts : {a b : List AskAt} {c d : List Number} (p q : List AskAt) (r s : List Number) → a ≡ p → b ≡ q → c ≡ r → d ≡ s →
          (let x : Change = record { prepare = a; cleanup = b; channels = c; groups = d } in x) ≡ (let y : Change = record { prepare = p; cleanup = q; channels = r; groups = s } in y)
      by_parts {a} {b} {c} {d} p q r s e f g i =
          ap (λ (u : List AskAt). let x : Change = record { prepare = u; cleanup = b; channels = c; groups = d } in x) e
          ∙ (ap (λ (u : List AskAt). let x : Change = record { prepare = p; cleanup = u; channels = c; groups = d } in x) f
          ∙ (ap (λ (u : List Number). let x : Change = record { prepare = p; cleanup = q; channels = u; groups = d } in x) g
          ∙ ap (λ (u : List Number). let x : Change = record { prepare = p; cleanup = q; channels = r; groups = u } in x) i))

-- ---- openings
cascade_placed : (t : Shape) → IsTree t → (h : Held) (q : ℕ) → 64 ≤ q → (is_port t q && is_cascade t q) ≡ true → create_asks t q true (channel_of t (in_spaces t h) q) ≡ create_asks t q true (channel_of t h q)
cascade_placed t valid h q high e =
    ap (λ (o : Option ℕ). create_asks t q true (or_zero o)) (channel_placed t h (trunk t (device q)) q (trunk_place t valid q high (and_parts (is_port t q) (is_cascade t q) e).0))

pub opening_placed : (t : Shape) → IsTree t → (n : ℕ) → 1 ≤ n → (h : Held) → opening_asks t n (in_spaces t h) ≡ opening_asks t n h
unfolding opening_asks cascades_of
opening_placed t valid n some h =
    ap (λ (l : List AskAt). ask n Open ∷ l)
    (flat_same (λ q. create_asks t q true (channel_of t (in_spaces t h) q)) (λ q. create_asks t q true (channel_of t h q)) (λ q. is_port t q && is_cascade t q) (64 * n) 64
    (λ q low high e. cascade_placed t valid h q (omega (arith, low, some)) e))

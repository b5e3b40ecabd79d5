-- The sets of a frame's words: which ports they have, and that the configuration has them.
use Rattle.std.proofs.Common.{◌≡◌, ℕ, ◌<◌, ◌≤◌, ◌==◌, ◌&&◌, Bool, true, false, cond, not, List, [], ◌∷◌, Option, Some, None, filter, refl, sym, ◌∙◌, ap, subst, arith, inl, inr}
use Rattle.std.specs.List.{flat_map, range_with_len}
use Rattle.std.proofs.lemmas.Bool.{cases_Bool, eqb-true, eq-eqb, and_parts}
use Rattle.exb_model.specs.declared.rules.StaticAt.{StaticAt}
use Rattle.exb_model.specs.declared.vlan.Kind.{Kind}
use Rattle.exb_model.specs.declared.vlan.Kind.TheVariants.{Tagged, Untagged}
use Rattle.exb_model.specs.Ports.{port_in, all_ports}
use Rattle.exb_model.specs.Frames.{is_group}
use Rattle.exb_model.specs.Tree.{Shape, is_under}
use Rattle.exb_model.specs.Configuration.{Bridge, is_for}
use Rattle.exb_model.specs.Learning.{Look}
use Rattle.exb_model.specs.Targets.{static_for, both_isolated}
use Rattle.exb_model.specs.Refusals.{is_kind, Source, both_kinds, all_vids, sources, part, without_isolated, parts, is_empty_set, sets_at}
use Rattle.exb_model.proofs.PortLemmas.{any_below-true}
use Rattle.exb_relay.specs.declared.choice.EgressChoice.{EgressChoice}
use Rattle.exb_relay.specs.declared.choice.EgressChoice.TheVariants as chosen
use Rattle.exb_model.specs.Numbers.{has_set}
use Rattle.exb_relay.specs.Choices.{choice_by, choice}
use Rattle.exb_relay.specs.Sends.{set_for}
use Rattle.exb_model.specs.Lists.{is_listed}
use Rattle.exb_relay.proofs.Lists.{Member, member_left, member_right, member_flat, member_range, find_member, listed_filter, filter_both, fold_has}

-- a member in a kind below bridge port k
abbrev pub is_part : Shape → Bridge → ℕ → (ℕ → Bool) → ℕ → Kind → ℕ → Bool
is_part t b v among k kind q = is_under t k q && b.present q && among q && is_kind kind (b.member v q)

-- that hears a source
abbrev pub hears : Bridge → ℕ → ℕ → Bool
hears b p q = not (both_isolated b p q)

-- a set as the ports that pass a test
pub set_is : (t : Shape) (b : Bridge) (p v : ℕ) (among : ℕ → Bool) (k : ℕ) (kind : Kind) →
    set_for t b p v among k kind ≡ filter (λ q. is_part t b v among k kind q && hears b p q) all_ports
unfolding set_for part
set_is t b p v among k kind =
    elim (cases_Bool (b.rule p).isolated) [
      | inl e ↦ rw e (filter_both (is_part t b v among k kind) (λ q. not (b.rule q).isolated) all_ports)
      | inr e ↦ rw e (same_filter all_ports)
    ]
  where
    same_filter : (xs : List ℕ) → filter (is_part t b v among k kind) xs ≡ filter (λ q. is_part t b v among k kind q && true) xs
    same_filter [] = refl
    same_filter (x ∷ xs) =
        elim (cases_Bool (is_part t b v among k kind x)) [
          | inl e ↦ rw e (ap (λ z. x ∷ z) (same_filter xs))
          | inr e ↦ rw e (same_filter xs)
        ]

-- which ports it has
pub set_has : (t : Shape) (b : Bridge) (p v : ℕ) (among : ℕ → Bool) (k : ℕ) (kind : Kind) (q : ℕ) → q < 4160 →
    is_listed (set_for t b p v among k kind) q ≡ (is_part t b v among k kind q && hears b p q)
set_has t b p v among k kind q l =
    ap (λ set. is_listed set q) (set_is t b p v among k kind) ∙
    (listed_filter (λ q. is_part t b v among k kind q && hears b p q) q all_ports ∙
    (rw (any_below-true (λ x. x == q) 4160 q l (eq-eqb q q refl)) refl))

-- ports of the set are below the bridge port and present
pub set_under : (t : Shape) (b : Bridge) (p v : ℕ) (among : ℕ → Bool) (k : ℕ) (kind : Kind) (q : ℕ) → q < 4160 →
    is_listed (set_for t b p v among k kind) q ≡ true → (is_under t k q ≡ true) × (b.present q ≡ true)
set_under t b p v among k kind q l e =
    let all = and_parts (is_part t b v among k kind q) (hears b p q) (sym (set_has t b p v among k kind q l) ∙ e) in
    let two = and_parts (is_under t k q && b.present q) (among q) (and_parts _ (is_kind kind (b.member v q)) all.0).0 in
    let first = and_parts (is_under t k q) (b.present q) two.0 in
    (first.0, first.1)

-- ---- the configuration has them
abbrev pub IsSource : Bridge → ℕ → (ℕ → Bool) → Type 0
IsSource b v among = (kind : Kind) → Member {X = Source} (record { vid = v; kind = kind; among = among }) (sources b)

set_of_source : (t : Shape) (b : Bridge) (p v : ℕ) (among : ℕ → Bool) (k : ℕ) (kind : Kind) → IsSource b v among →
    Member (set_for t b p v among k kind) (parts t k b)
unfolding set_for parts
set_of_source t b p v among k kind from =
    let x : Source = record { vid = v; kind = kind; among = among } in
    let two = λ (y : Source). part t k b y ∷ without_isolated b (part t k b y) ∷ [] in
    elim (cases_Bool (b.rule p).isolated) [
      | inl e ↦ rw e (member_flat two x (without_isolated b (part t k b x)) (sources b) (from kind) (inr (inl refl)))
      | inr e ↦ rw e (member_flat two x (part t k b x) (sources b) (from kind) (inl refl))
    ]

pub set_there : (t : Shape) (b : Bridge) (p v : ℕ) (among : ℕ → Bool) (k : ℕ) (kind : Kind) → IsSource b v among →
    is_empty_set (set_for t b p v among k kind) ≡ false → has_set t k b (set_for t b p v among k kind) ≡ true
unfolding sets_at
set_there t b p v among k kind from some = fold_has (parts t k b) [] _ (set_of_source t b p v among k kind from) some

-- ---- the sources of a frame are the configuration's
pub all_source : (b : Bridge) (v : ℕ) → 1 ≤ v → v ≤ 4094 → IsSource b v (λ q. true)
unfolding sources all_vids
all_source b v l h kind =
    member_left _ (flat_map (λ v. both_kinds v (λ q. true)) (range_with_len 1 4094)) _
    (member_flat (λ v. both_kinds v (λ q. true)) v _ (range_with_len 1 4094) (member_range 1 4094 v l (omega (arith, h))) (of_two kind))
  where
    of_two : (kind : Kind) → Member {X = Source} (record { vid = v; kind = kind; among = λ q. true }) (both_kinds v (λ q. true))
    of_two Tagged = inl refl
    of_two Untagged = inr (inl refl)

static_source : (b : Bridge) (e : StaticAt) → Member e b.statics → IsSource b e.vid (port_in e.ports)
unfolding sources
static_source b e m kind =
    member_right _ (flat_map (λ v. both_kinds v (λ q. true)) all_vids) _
    (member_flat (λ (e : StaticAt). both_kinds e.vid (port_in e.ports)) e _ b.statics m (of_two kind))
  where
    of_two : (kind : Kind) → Member {X = Source} (record { vid = e.vid; kind = kind; among = port_in e.ports }) (both_kinds e.vid (port_in e.ports))
    of_two Tagged = inl refl
    of_two Untagged = inr (inl refl)

-- of what a frame's sets are taken
abbrev pub Fits : Bridge → ℕ → EgressChoice → Type 0
Fits b v chosen.All = IsSource b v (λ q. true)
Fits b v (chosen.Listed ports) = IsSource b v (port_in ports)
Fits b v (chosen.Learned r) = Unit {0}

pub choice_fits : (b : Bridge) (look : Look) (v : ℕ) (m : List ℕ) → 1 ≤ v → v ≤ 4094 → Fits b v (choice b look v m)
choice_fits b look v m l h = by_static (static_for b.statics v m) refl (cond (is_group m) None (look v m))
  where
    by_static : (e : Option StaticAt) → e ≡ static_for b.statics v m → (r : Option ℕ) → Fits b v (choice_by e r)
    by_static None is None = all_source b v l h
    by_static None is (Some r) = tt
    by_static (Some e) is r =
        let found = find_member (is_for v m) b.statics e (sym is) in
        let same : e.vid ≡ v = eqb-true _ _ (and_parts _ _ found.1).0 in
        subst (λ (w : ℕ). IsSource b w (port_in e.ports)) same (static_source b e found.0)

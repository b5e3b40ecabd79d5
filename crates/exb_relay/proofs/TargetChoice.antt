-- Targets by how their ports are chosen.
use Rattle.std.proofs.Common.{◌≡◌, ℕ, ◌≤◌, ◌==◌, ◌&&◌, Bool, true, false, cond, not, List, length, Option, Some, None, refl, sym, ◌∙◌, ap, inl, inr}
use Rattle.std.proofs.lemmas.Bool.{cases_lt, lt-ltb, and_parts}
use Rattle.std.specs.Prelude.{option_map}
use Rattle.exb_model.specs.declared.port_set.PortSet.{PortSet}
use Rattle.exb_model.specs.declared.rules.StaticAt.{StaticAt}
use Rattle.exb_model.specs.declared.vlan.Kind.{Kind}
use Rattle.exb_model.specs.Frames.{kind_of, destination, is_group}
use Rattle.exb_model.specs.Configuration.{Bridge}
use Rattle.exb_model.specs.Learning.{Look, passes}
use Rattle.exb_model.specs.Targets.{static_for, is_chosen_by, is_chosen, both_isolated, target}
use Rattle.exb_relay.specs.declared.choice.EgressChoice.{EgressChoice}
use Rattle.exb_relay.specs.declared.choice.EgressChoice.TheVariants as chosen
use Rattle.exb_relay.specs.Choices.{choice_by, choice, is_chosen_in}

by_parts : (e : Option StaticAt) (r : Option ℕ) (q : ℕ) → is_chosen_in (choice_by e r) q ≡ is_chosen_by e r q
by_parts (Some e) r q = refl
by_parts None (Some r) q = refl
by_parts None None q = refl

pub chosen_same : (b : Bridge) (look : Look) (v : ℕ) (m : List ℕ) (q : ℕ) → is_chosen_in (choice b look v m) q ≡ is_chosen b look v m q
chosen_same b look v m q = by_parts (static_for b.statics v m) (cond (is_group m) None (look v m)) q

-- ---- the choice by what is looked up
module _ (b : Bridge) (look : Look) (v : ℕ) (m : List ℕ) where
  pub choice_listed : (ports : PortSet) → option_map (λ e. e.ports) (static_for b.statics v m) ≡ Some ports → choice b look v m ≡ chosen.Listed ports
  choice_listed ports is = by_entry (static_for b.statics v m) is
    where
      by_entry : (e : Option StaticAt) → option_map (λ (e : StaticAt). e.ports) e ≡ Some ports → choice_by e (cond (is_group m) None (look v m)) ≡ chosen.Listed ports
      by_entry (Some e) h = let y : e.ports ≡ ports = (let z : ◌≡◌ {A = Option PortSet} (Some e.ports) (Some ports) = h in cc) in ap (λ (s : PortSet). chosen.Listed s) y
      by_entry None h = absurd (let z : ◌≡◌ {A = Option PortSet} None (Some ports) = h in cc)

  pub choice_unlisted : (r : Option ℕ) → option_map (λ e. e.ports) (static_for b.statics v m) ≡ None → cond (is_group m) None (look v m) ≡ r → choice b look v m ≡ choice_by None r
  choice_unlisted r none is = by_entry (static_for b.statics v m) none ∙ ap (λ (r : Option ℕ). choice_by None r) is
    where
      by_entry : (e : Option StaticAt) → option_map (λ (e : StaticAt). e.ports) e ≡ None → choice_by e (cond (is_group m) None (look v m)) ≡ choice_by None (cond (is_group m) None (look v m))
      by_entry (Some e) h = absurd (let z : ◌≡◌ {A = Option PortSet} (Some e.ports) None = h in cc)
      by_entry None h = refl

-- how a frame of port p in VLAN v leaves at q, if it does, where its ports are chosen so
abbrev pub target_of : Bridge → ℕ → ℕ → EgressChoice → ℕ → Option Kind
target_of b p v c q = cond (b.present q && not (q == p) && not (both_isolated b p q) && is_chosen_in c q) (b.member v q) None

pub target_is : (b : Bridge) (look : Look) (p : ℕ) (f : List ℕ) (v q : ℕ) → b.present p ≡ true → passes b p f ≡ Some v →
    target b look p f q ≡ target_of b p v (choice b look v (destination f)) q
unfolding target
target_is b look p f v q there pass =
    rw (there, pass) (ap (λ (c : Bool). cond (b.present q && not (q == p) && not (both_isolated b p q) && c) (b.member v q) None) (sym (chosen_same b look v (destination f) q)))

some_since : (c : Bool) (o : Option Kind) (kind : Kind) → cond c o None ≡ Some kind → c ≡ true
some_since true o kind e = refl
some_since false o kind e = absurd (let z : ◌≡◌ {A = Option Kind} None (Some kind) = e in cc)

-- what a target is
pub record IsTarget (b : Bridge) (p q : ℕ) : Type 0 where
  pub present : b.present q ≡ true
  pub other : (q == p) ≡ false

pub target_says : (b : Bridge) (p v : ℕ) (c : EgressChoice) (q : ℕ) (kind : Kind) → target_of b p v c q ≡ Some kind → IsTarget b p q
target_says b p v c q kind e =
    let all = some_since (b.present q && not (q == p) && not (both_isolated b p q) && is_chosen_in c q) (b.member v q) kind e in
    let first = and_parts (b.present q) (not (q == p)) (and_parts (b.present q && not (q == p)) (not (both_isolated b p q)) (and_parts _ (is_chosen_in c q) all).0).0 in
    record { present = first.0; other = not_true (q == p) first.1 }
  where
    not_true : (x : Bool) → not x ≡ true → x ≡ false
    not_true true h = sym h
    not_true false h = refl

-- a frame that passes has its addresses
pub passes_long : (b : Bridge) (p : ℕ) (f : List ℕ) (v : ℕ) → passes b p f ≡ Some v → 14 ≤ length f
unfolding kind_of
passes_long b p f v e =
    elim (cases_lt (length f) 14) [
      | inl l ↦ absurd (let z : ◌≡◌ {A = Option ℕ} None (Some v) = rw (lt-ltb (length f) 14 l) at e in cc)
      | inr g ↦ g
    ]

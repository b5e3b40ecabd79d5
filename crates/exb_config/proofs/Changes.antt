-- What a change of the tables is to the configuration that they stand for.
use Rattle.std.proofs.Common.{◌≡◌, ℕ, Bool, cond, ◌&&◌, ◌==◌, List, [], refl, ap, inl, inr, eq-eqb}
use Rattle.std.specs.Prelude.{Option, None}
use Rattle.std.proofs.lemmas.Bool.{cases_eq, ne_eqb}
use Rattle.exb_model.specs.declared.port_set.PortSet.{PortSet}
use Rattle.exb_model.specs.declared.vlan.Kind.{Kind}
use Rattle.exb_model.specs.declared.rules.PortRule.{PortRule}
use Rattle.exb_model.specs.declared.rules.StaticAt.{StaticAt}
use Rattle.exb_model.specs.Ports.{port_in}
use Rattle.exb_model.specs.Configuration.{empty_bridge, default_rule}
use Rattle.exb_config.specs.declared.members.Members.{Members}
use Rattle.exb_config.specs.Rows.{member_of, rule_of}
use Rattle.exb_config.specs.Tables.{Tables, bridge_of}

pub members_changed : (t : Tables) (rows : List (Option Members)) (f : ℕ → ℕ → Option Kind) → ((v q : ℕ) → member_of rows v q ≡ f v q) →
    bridge_of (record t { vlans = rows }) ≡ record (bridge_of t) { member = f }
unfolding bridge_of
members_changed t rows f h = λ i. record {
  present = port_in t.present;
  member = λ v q. h v q i;
  rule = rule_of t.rules;
  statics = t.statics;
}

pub rules_changed : (t : Tables) (rules : List PortRule) (f : ℕ → PortRule) → ((q : ℕ) → rule_of rules q ≡ f q) →
    bridge_of (record t { rules = rules }) ≡ record (bridge_of t) { rule = f }
unfolding bridge_of
rules_changed t rules f h = λ i. record {
  present = port_in t.present;
  member = member_of t.vlans;
  rule = λ q. h q i;
  statics = t.statics;
}

pub present_changed : (t : Tables) (s : PortSet) (f : ℕ → Bool) → ((q : ℕ) → port_in s q ≡ f q) →
    bridge_of (record t { present = s }) ≡ record (bridge_of t) { present = f }
unfolding bridge_of
present_changed t s f h = λ i. record {
  present = λ q. h q i;
  member = member_of t.vlans;
  rule = rule_of t.rules;
  statics = t.statics;
}

-- the kinds of one VLAN, changed at one port
pub one_member : (old : ℕ → ℕ → Option Kind) (v p : ℕ) (o : Option Kind) (new : ℕ → Option Kind) → ((q : ℕ) → new q ≡ cond (q == p) o (old v q)) →
    (w q : ℕ) → cond (w == v) (new q) (old w q) ≡ cond (w == v && q == p) o (old w q)
one_member old v p o new h w q =
    rw (h q) (
    elim (cases_eq w v) [
      | inl is ↦ rw (is, eq-eqb v v refl) refl
      | inr other ↦ rw (ne_eqb w v other) refl
    ])

-- a rule, changed at one port
pub one_rule : (rules : List PortRule) (p : ℕ) (old : PortRule) (f : PortRule → PortRule) → old ≡ rule_of rules p → (q : ℕ) →
    cond (q == p) (f old) (rule_of rules q) ≡ cond (q == p) (f (rule_of rules q)) (rule_of rules q)
one_rule rules p old f e q =
    elim (cases_eq q p) [
      | inl is ↦ rw (is, eq-eqb p p refl) (ap f e)
      | inr other ↦ rw (ne_eqb q p other) refl
    ]

pub first_tables : (s : PortSet) (rows : List (Option Members)) (rules : List PortRule) (statics : List StaticAt) → ((v q : ℕ) → member_of rows v q ≡ None) → statics ≡ [] →
    ((q : ℕ) → rule_of rules q ≡ default_rule) → bridge_of (record { present = s; vlans = rows; rules = rules; statics = statics }) ≡ empty_bridge (port_in s)
unfolding bridge_of
first_tables s rows rules statics no_rows no_statics all = λ i. record {
  present = port_in s;
  member = λ v q. no_rows v q i;
  rule = λ q. all q i;
  statics = no_statics i;
}

-- That what the tables set at the start may stand there.
use Rattle.std.proofs.Common.{◌≡◌, ℕ, zero, suc, ◌+◌, ◌-◌, ◌<◌, Bool, true, List, [], ◌∷◌, ◌++◌, Option, Some, None, Ok, length, get_or, map, All, sym, subst, arith, inl, inr}
use Rattle.std.specs.List.{flat_map, range_with_len}
use Rattle.std.proofs.lemmas.Bool.{and_parts, or_cases, not-false, false≢true}
use Rattle.exb_model.specs.declared.command.Command.{Command}
use Rattle.exb_model.specs.declared.command.Command.TheVariants as command
use Rattle.exb_model.specs.declared.setup.Setup.{Setup}
use Rattle.exb_model.specs.Tree.{Shape, is_external}
use Rattle.exb_model.specs.Setup.{IsStart, IsValid, shape_of}
use Rattle.exb_toml_keys.specs.declared.faults.KeyFault.TheVariants as fault
use Rattle.exb_toml_keys.specs.declared.text_values.PortPattern.{PortPattern}
use Rattle.exb_toml_keys.specs.declared.text_values.PortPattern.TheVariants as word
use Rattle.exb_topology_tables.specs.declared.elements.PortElement.{PortElement}
use Rattle.exb_topology_tables.specs.declared.elements.VlanElement.{VlanElement}
use Rattle.exb_topology_tables.specs.declared.elements.StaticElement.{StaticElement}
use Rattle.exb_topology.specs.ElementChecks.{each_ok}
use Rattle.exb_topology.specs.Checks.{names, listed, port_table_ok}
use Rattle.exb_topology.specs.CommandViews.{Seen, set_vlan, put_member, take_member, set_pvid, set_accept, set_filter, set_isolated, put_static, take_static, go_up, go_down, seen}
use Rattle.exb_topology.specs.Topologies.{port_start, vlan_start, vlans_start, static_start}
use Rattle.exb_topology.proofs.ElementChecks.{ok_at, both_ok, refuse_ok}

-- P holds of each
abbrev pub Each : {X : Type 0} → (X → Type 0) → List X → Type 0
Each P [] = Unit {0}
Each P (x ∷ xs) = P x × Each P xs

each_append : {X : Type 0} (P : X → Type 0) (xs ys : List X) → Each P xs → Each P ys → Each P (xs ++ ys)
each_append P [] ys a b = b
each_append P (x ∷ xs) ys a b = (a.0, each_append P xs ys a.1 b)

each_map : {X Y : Type 0} (P : Y → Type 0) (f : X → Y) (xs : List X) → ((x : X) → P (f x)) → Each P (map f xs)
each_map P f [] all = tt
each_map P f (x ∷ xs) all = (all x, each_map P f xs all)

each_parts : {X Y : Type 0} (P : Y → Type 0) (Q : X → Type 0) (f : X → List Y) (xs : List X) → Each Q xs → ((x : X) → Q x → Each P (f x)) → Each P (flat_map f xs)
each_parts P Q f [] each all = tt
each_parts P Q f (x ∷ xs) each all = each_append P (f x) (flat_map f xs) (all x each.0) (each_parts P Q f xs each.1 all)

pub each_from : {X : Type 0} (P : X → Type 0) (xs : List X) → ((k : ℕ) (d : X) → k < length xs → P (get_or xs k d)) → Each P xs
each_from P [] all = tt
each_from P (x ∷ xs) all = (all 0 x (omega arith), each_from P xs (λ k d lt. all (suc k) d (omega (arith, lt))))

-- ---- commands that may stand at the start, with sets as tests
abbrev pub AreOut : Shape → (ℕ → Bool) → Type 0
AreOut t f = (q : ℕ) → f q ≡ true → is_external t q ≡ true

abbrev pub MayStart : Shape → Seen → Type 0
MayStart t (set_vlan v tagged untagged) = AreOut t tagged × AreOut t untagged
MayStart t (put_member v p kind) = is_external t p ≡ true
MayStart t (take_member v p) = is_external t p ≡ true
MayStart t (set_pvid p v) = is_external t p ≡ true
MayStart t (set_accept p types) = is_external t p ≡ true
MayStart t (set_filter p on) = is_external t p ≡ true
MayStart t (set_isolated p on) = is_external t p ≡ true
MayStart t (put_static v m ports) = AreOut t ports
MayStart t (take_static v m) = Unit {0}
MayStart t (go_up p) = ⊥
MayStart t (go_down p) = ⊥

starts : (t : Shape) (c : Command) → MayStart t (seen c) → IsStart t c
starts t (command.Vlan v tagged untagged) may = may
starts t (command.Member v p kind) may = may
starts t (command.Unmember v p) may = may
starts t (command.Pvid p v) may = may
starts t (command.Accept p types) may = may
starts t (command.Filter p on) may = may
starts t (command.Isolate p on) may = may
starts t (command.Static v m ports) may = may
starts t (command.Unstatic v m) may = may
starts t (command.Up p) may = may
starts t (command.Down p) may = may

all_start : (t : Shape) (cs : List Command) → Each (MayStart t) (map seen cs) → All (IsStart t) cs
all_start t [] each k d lt = absurd (omega arith)
all_start t (x ∷ xs) each zero d lt = starts t x each.0
all_start t (x ∷ xs) each (suc k) d lt = all_start t xs each.1 k d (omega arith)

-- ---- what the tables set
names_out : (t : Shape) (q : ℕ) (w : PortPattern) → names t q w ≡ true → is_external t q ≡ true
names_out t q word.All is = is
names_out t q (word.Whole n) is = (and_parts _ _ is).1
names_out t q (word.Ports a b) is = (and_parts _ _ is).1

pub listed_out : (t : Shape) (ws : List PortPattern) → AreOut t (listed t ws)
listed_out t [] q is = absurd (false≢true is)
listed_out t (w ∷ ws) q is =
    elim (or_cases (names t q w) (listed t ws q) is) [
      | inl here ↦ names_out t q w here
      | inr later ↦ listed_out t ws q later
    ]

port_out : (t : Shape) (ps : List PortElement) → each_ok (port_table_ok t) ps 0 ps ≡ Ok tt → Each (λ p. is_external t p.name ≡ true) ps
port_out t ps ok = each_from (λ p. is_external t p.name ≡ true) ps one
  where
    one : (k : ℕ) (d : PortElement) → k < length ps → is_external t (get_or ps k d).name ≡ true
    one k d lt = not-false _ (refuse_ok _ fault.UnknownPort _ (both_ok _ _ (ok_at (port_table_ok t) ps ok k d lt)).0)

vlans_may : (t : Shape) (vlans : Option (List VlanElement)) → Each (MayStart t) (vlans_start t vlans)
vlans_may t None = ((λ q is. absurd (false≢true is), λ q is. is), tt)
vlans_may t (Some vs) =
    each_parts (MayStart t) (λ v. Unit {0}) (vlan_start t) vs (each_from (λ v. Unit {0}) vs (λ k d lt. tt)) (λ v u. each_map (MayStart t) (λ n. set_vlan n (listed t v.tagged) (listed t v.untagged)) (range_with_len v.vid (v.last + 1 - v.vid)) (λ n. (listed_out t v.tagged, listed_out t v.untagged)))

pub all_may : (t : Shape) (ps : List PortElement) (vlans : Option (List VlanElement)) (ss : List StaticElement) (start : List Command) → each_ok (port_table_ok t) ps 0 ps ≡ Ok tt
    → map seen start ≡ flat_map port_start ps ++ vlans_start t vlans ++ map (static_start t) ss → All (IsStart t) start
all_may t ps vlans ss start ok is =
    let ports = each_parts (MayStart t) (λ p. is_external t p.name ≡ true) port_start ps (port_out t ps ok) (λ p out. (out, (out, (out, (out, tt))))) in
    let statics = each_map (MayStart t) (static_start t) ss (λ s. listed_out t s.ports) in
    let all = each_append (MayStart t) (flat_map port_start ps ++ vlans_start t vlans) (map (static_start t) ss) (each_append (MayStart t) (flat_map port_start ps) (vlans_start t vlans) ports (vlans_may t vlans)) statics in
    all_start t start (subst (Each (MayStart t)) (sym is) all)

-- a valid setup with another start that may stand there
pub valid_with : (s r : Setup) → IsValid s → r.ports ≡ s.ports → r.extenders ≡ s.extenders → r.channels ≡ s.channels → r.groups ≡ s.groups → r.ageing ≡ s.ageing → All (IsStart (shape_of s)) r.start → IsValid r
unfolding shape_of
valid_with s r valid p e c g a start =
    record {
      some_ports = rw p valid.some_ports;
      ports = rw p valid.ports;
      some_channels = rw c valid.some_channels;
      channels = rw c valid.channels;
      some_groups = rw g valid.some_groups;
      groups = rw g valid.groups;
      ageing = rw a valid.ageing;
      ranges = rw e valid.ranges;
      distinct = rw e valid.distinct;
      tree = rw (p, e) valid.tree;
      enough_channels = rw (p, e, c) valid.enough_channels;
      start = rw (p, e) start;
    }

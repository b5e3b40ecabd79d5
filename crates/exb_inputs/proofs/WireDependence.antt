-- What the wires of a net are depends of each bridge on its name, its tree and its captures alone.
use Rattle.std.proofs.Common.{◌≡◌, ◌+◌, ◌++◌, ◌∙◌, ℕ, Bool, true, false, List, [], ◌∷◌, Option, Some, None, Result, Ok, Err, length, map, refl, ap, sym, if◌then◌else◌}
use Rattle.std.specs.Prelude.{codes, fold, nat_lt, option_map}
use Rattle.std.specs.List.{list_any}
use Rattle.std.specs.Str.{bytes_eq}
use Rattle.exb_model.specs.Tree.{Shape, external_ports}
use Rattle.exb_toml_keys.specs.declared.faults.KeyFault.TheVariants as fault
use Rattle.exb_toml_keys.specs.Faults.{Refusal, ◌>>=◌}
use Rattle.exb_net_spec.specs.declared.wires.End.{End}
use Rattle.exb_net_spec.specs.declared.wires.Wire.{Wire}
use Rattle.exb_net_spec.specs.Nets.{ends_of}
use Rattle.exb_topology.specs.Checks.{output_names}
use Rattle.exb_topology.specs.ElementChecks.{each_ok, refuse}
use Rattle.exb_topology.proofs.Soundness.{shape_alone, tree_alone}
use Rattle.exb_net_file.specs.declared.members.NetMember.{NetMember}
use Rattle.exb_net_file.specs.declared.elements.NetWire.{NetWire}
use Rattle.exb_net_file.specs.declared.end_names.EndName.{EndName}
use Rattle.exb_net_file.specs.Members.{files_ok, is_output_of_net, outputs_in, ports_together, prefix_of, tree_in}
use Rattle.exb_net_file.specs.Wires.{end_in, end_of_member, member_from, port_free, wire_in, wire_key, wires_from, wires_of}

-- a bridge of which only that is looked at
abbrev pub alone : NetMember → NetMember
alone m =
    record {
      name = m.name;
      topology = record { setup = tree_alone m.topology.setup.ports m.topology.setup.extenders; commands = []; fate = []; captures = m.topology.captures; prefix = [] };
    }

pub tree_same : (m : NetMember) → tree_in m ≡ tree_in (alone m)
tree_same m = shape_alone m.topology.setup

-- ---- ports
abbrev with_ports : ℕ → NetMember → ℕ
with_ports n m = n + length (external_ports (tree_in m))

ports_from : (n : ℕ) (ms : List NetMember) → fold with_ports n ms ≡ fold with_ports n (map alone ms)
ports_from n [] = refl
ports_from n (m ∷ ms) = ap (λ (t : Shape). fold with_ports (n + length (external_ports t)) ms) (tree_same m) ∙ ports_from (with_ports n (alone m)) ms

pub ports_same : (ms : List NetMember) → ports_together ms ≡ ports_together (map alone ms)
unfolding ports_together
ports_same ms = ports_from 0 ms

-- ---- files
outputs_same : (m : NetMember) → outputs_in m ≡ outputs_in (alone m)
outputs_same m = ap (output_names (prefix_of m.name)) (tree_same m)

is_output_same : (ms : List NetMember) (name : List ℕ) → is_output_of_net ms name ≡ is_output_of_net (map alone ms) name
is_output_same [] name = refl
is_output_same (m ∷ ms) name = rw (sym (outputs_same m), is_output_same ms name) refl

any_same : {X : Type 0} (f g : X → Bool) → ((x : X) → f x ≡ g x) → (xs : List X) → list_any f xs ≡ list_any g xs
any_same f g same [] = refl
any_same f g same (x ∷ xs) = rw (same x, any_same f g same xs) refl

files_same_at : (ms before : List NetMember) (i : ℕ) (m : NetMember) → files_ok ms before i m ≡ files_ok (map alone ms) (map alone before) i (alone m)
files_same_at ms before i m =
    ap (λ (b : Bool). refuse b fault.Repeat (Rattle.exb_toml_keys.specs.Faults.in_element (codes "bridge") i ++ codes "topology"))
    (any_same (λ capture. is_output_of_net ms capture.name) (λ capture. is_output_of_net (map alone ms) capture.name) (λ capture. is_output_same ms capture.name) m.topology.captures)

each_same : (ms all : List NetMember) (i : ℕ) (ks : List NetMember) → each_ok (files_ok ms) all i ks ≡ each_ok (files_ok (map alone ms)) (map alone all) i (map alone ks)
unfolding each_ok
each_same ms all i [] = refl
each_same ms all i (k ∷ ks) = rw (files_same_at ms [] i k, each_same ms all (i + 1) ks) refl

-- ---- ends
abbrev of_pair : ℕ × NetMember → ℕ × NetMember
of_pair p = (p.0, alone p.1)

member_same : (i : ℕ) (name : List ℕ) (ms : List NetMember) → member_from i name (map alone ms) ≡ option_map of_pair (member_from i name ms)
unfolding member_from
member_same i name [] = refl
member_same i name (m ∷ ms) = by_name (bytes_eq m.name name) (member_same (i + 1) name ms)
  where
    by_name : (b : Bool) → member_from (i + 1) name (map alone ms) ≡ option_map of_pair (member_from (i + 1) name ms) → (if b then Some (i, alone m) else member_from (i + 1) name (map alone ms)) ≡ option_map of_pair (if b then Some (i, m) else member_from (i + 1) name ms)
    by_name true rest = refl
    by_name false rest = rest

free_same : (m : NetMember) (taken : List End) (key : List ℕ) (e : End) → port_free m taken key e ≡ port_free (alone m) taken key e
unfolding port_free
free_same m taken key e = rw (tree_same m) refl

end_of_same : (taken : List End) (key : List ℕ) (p : ℕ) (o : Option (ℕ × NetMember)) → end_of_member taken key p o ≡ end_of_member taken key p (option_map of_pair o)
end_of_same taken key p None = refl
end_of_same taken key p (Some (b, m)) = rw (free_same m taken key (record { bridge = b; port = p })) refl

end_same : (ms : List NetMember) (taken : List End) (key : List ℕ) (e : EndName) → end_in ms taken key e ≡ end_in (map alone ms) taken key e
unfolding end_in
end_same ms taken key e = end_of_same taken key e.port (member_from 0 e.bridge ms) ∙ ap (end_of_member taken key e.port) (sym (member_same 0 e.bridge ms))

-- ---- wires
-- two chains of which each step is the same
then_same : {A B : Type 0} (r s : Result A Refusal) (f g : A → Result B Refusal) → r ≡ s → ((x : A) → f x ≡ g x) → (r >>= f) ≡ (s >>= g)
then_same r s f g same each = ap (λ (q : Result _ Refusal). q >>= f) same ∙ by_result s
  where
    by_result : (q : Result _ Refusal) → (q >>= f) ≡ (q >>= g)
    by_result (Ok x) = each x
    by_result (Err e) = refl

wire_same : (ms : List NetMember) (before : List Wire) (i : ℕ) (w : NetWire) → wire_in ms before i w ≡ wire_in (map alone ms) before i w
unfolding wire_in
wire_same ms before i w =
    then_same _ _ _ _ (end_same ms (ends_of before) (wire_key i (codes "a")) w.a) λ a.
    then_same _ _ _ _ (end_same ms (ends_of before ++ a ∷ []) (wire_key i (codes "b")) w.b) λ b. refl

wires_on : (ms : List NetMember) (before : List Wire) (i : ℕ) (ws : List NetWire) → wires_from ms before i ws ≡ wires_from (map alone ms) before i ws
unfolding wires_from
wires_on ms before i [] = refl
wires_on ms before i (w ∷ ws) = then_same _ _ _ _ (wire_same ms before i w) λ x. wires_on ms (before ++ x ∷ []) (i + 1) ws

pub wires_alone : (ms : List NetMember) (ws : List NetWire) → wires_of ms ws ≡ wires_of (map alone ms) ws
unfolding wires_of
wires_alone ms ws =
    then_same _ _ _ _ (ap (λ (n : ℕ). refuse (nat_lt 4160 n) fault.Range (codes "bridge")) (ports_same ms)) λ a.
    then_same _ _ _ _ (each_same ms ms 0 ms) λ b. wires_on ms [] 0 ws

-- The configuration of the one VLAN bridge (IEEE 802.1Q-2011, clauses 8.6 and 8.8), and what a command
-- does to it.
use Rattle.std.specs.Prelude.{ℕ, Bool, false, ◌==◌, not, ◌&&◌, ◌||◌, if◌then◌else◌, List, [], Option, Some, None, is_some, filter, bytes_eq}
use Rattle.std.specs.List.{list_any}
use Rattle.exb_model.specs.declared.port_set.PortSet.{PortSet}
use Rattle.exb_model.specs.declared.vlan.Kind.{Kind}
use Rattle.exb_model.specs.declared.vlan.Kind.TheVariants.{Tagged, Untagged}
use Rattle.exb_model.specs.declared.rules.Accept.TheVariants as accept
use Rattle.exb_model.specs.declared.rules.PortRule.{PortRule}
use Rattle.exb_model.specs.declared.rules.StaticAt.{StaticAt}
use Rattle.exb_model.specs.declared.command.Command.{Command}
use Rattle.exb_model.specs.declared.command.Command.TheVariants as command
use Rattle.exb_model.specs.Lists.{put_first}
use Rattle.exb_model.specs.Ports.{port_in, all_ports}

-- K: which ports are present, how a port (second) is a member of a VLAN (first), each port's rule, and the
-- static entries in order
pub record Bridge : Type 0 where
  pub present : ℕ → Bool
  pub member : ℕ → ℕ → Option Kind
  pub rule : ℕ → PortRule
  pub statics : List StaticAt

-- PVID 1, all types, no filtering, not isolated
abbrev pub default_rule : PortRule
default_rule = record { pvid = 1; accept = accept.All; filter = false; isolated = false }

-- these ports present, no member and no entry
abbrev pub empty_bridge : (ℕ → Bool) → Bridge
empty_bridge present = record { present = present; member = λ v q. None; rule = λ q. default_rule; statics = [] }

-- the entry is for this VLAN and address
abbrev pub is_for : ℕ → List ℕ → StaticAt → Bool
is_for v m e = e.vid == v && bytes_eq e.address.0 m

-- an entry that is there takes the new ports and keeps its place
abbrev pub put_static : StaticAt → List StaticAt → List StaticAt
put_static e es = put_first (is_for e.vid e.address.0) e es

-- the kind of a port in a VLAN that is set to two sets of ports: untagged where it is in both
abbrev pub kind_in : PortSet → PortSet → ℕ → Option Kind
kind_in tagged untagged q =
    if port_in untagged q then Some Untagged else (if port_in tagged q then Some Tagged else None)

-- the configuration where one rule of a port is changed
abbrev pub with_rule : ℕ → (PortRule → PortRule) → Bridge → Bridge
with_rule p change b = record b { rule = λ q. if q == p then change (b.rule q) else b.rule q }

-- After(K, command)
abbrev pub after : Command → Bridge → Bridge
after (command.Vlan v tagged untagged) b = record b {
  member = λ w q.
      if w == v then kind_in tagged untagged q else b.member w q;
}
after (command.Member v p kind) b = record b { member = λ w q. if w == v && q == p then Some kind else b.member w q }
after (command.Unmember v p) b = record b { member = λ w q. if w == v && q == p then None else b.member w q }
after (command.Pvid p v) b = with_rule p (λ r. record r { pvid = v }) b
after (command.Accept p types) b = with_rule p (λ r. record r { accept = types }) b
after (command.Filter p on) b = with_rule p (λ r. record r { filter = on }) b
after (command.Isolate p on) b = with_rule p (λ r. record r { isolated = on }) b
after (command.Static v m ports) b = record b {
  statics = put_static (record { vid = v; address = m; ports = ports })
      b.statics;
}
after (command.Unstatic v m) b = record b { statics = filter (λ e. not (is_for v m.0 e)) b.statics }
after (command.Up p) b = record b { present = λ q. q == p || b.present q }
after (command.Down p) b = record b { present = λ q. not (q == p) && b.present q }

-- a VLAN is in the table where it has a member, present or not
unfoldable pub is_known : Bridge → ℕ → Bool
is_known b v = list_any (λ q. is_some (b.member v q)) all_ports

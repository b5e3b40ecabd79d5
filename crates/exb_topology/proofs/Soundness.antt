-- A topology that a file gives is sound, by the definition alone.
use Rattle.std.proofs.Common.{◌≡◌, ◌≢◌, ℕ, zero, suc, ◌<◌, ◌≤◌, Bool, true, false, List, [], ◌∷◌, ◌++◌, length, get_or, take, All, map, Result, Ok, Err, refl, sym, ap, subst, ◌∙◌, arith}
use Rattle.std.specs.Prelude.{codes, IfOk}
use Rattle.std.specs.List.{list_any}
use Rattle.std.specs.Str.{bytes_eq}
use Rattle.std.proofs.lemmas.Bool.{not-false, false≢true, false_from_ne_true}
use Rattle.std.proofs.lemmas.Bool.Decides.{not_from_Decides}
use Rattle.std.proofs.lemmas.List.{length-map, get_or-map}
use Rattle.std.proofs.lemmas.List.Folds.{list_any_at}
use Rattle.std.proofs.lemmas.Slice.Eq.{bytes_eq-Decides}
use Rattle.exb_model.specs.declared.command.Command.{Command}
use Rattle.exb_model.specs.declared.command.Command.TheVariants as command
use Rattle.exb_model.specs.declared.setup.ExtenderSetup.{ExtenderSetup}
use Rattle.exb_model.specs.declared.setup.Setup.{Setup}
use Rattle.exb_model.specs.declared.setup.Timed.{Timed}
use Rattle.exb_model.specs.declared.setup.Verdict.{Verdict}
use Rattle.exb_model.specs.Tree.{Shape, is_external}
use Rattle.exb_model.specs.Setup.{NamesExternal, shape_of}
use Rattle.exb_journal.specs.FileNames.{all_outputs, file_name}
use Rattle.exb_toml_keys.specs.declared.faults.KeyFault.TheVariants as fault
use Rattle.exb_toml_keys.specs.declared.faults.TopoFault.{TopoFault}
use Rattle.exb_toml_keys.specs.Faults.{Refusal, ◌>>=◌, GivesSeen, in_element}
use Rattle.exb_toml_keys.proofs.PassedSteps.{went}
use Rattle.exb_topology_tables.specs.declared.elements.Named.{Named}
use Rattle.exb_topology_tables.specs.declared.commands.Action.{Action}
use Rattle.exb_topology_tables.specs.declared.commands.Action.TheVariants as does
use Rattle.exb_topology_tables.specs.declared.commands.CommandElement.{CommandElement}
use Rattle.exb_topology_tables.specs.declared.tables.TopologyTables.{TopologyTables}
use Rattle.exb_topology_tables.specs.Tables.{tables_of}
use Rattle.exb_topology_tables.proofs.CommandLimits.{Follow, CommandsFollow, follow_map, follow_unmap, rising, few_letters, AreCounted, tables_counted}
use Rattle.exb_topology.specs.declared.topology.Topology.{Topology}
use Rattle.exb_topology.specs.ElementChecks.{each_ok}
use Rattle.exb_topology.specs.Trees.{tree_ok}
use Rattle.exb_topology.specs.Checks.{ports_ok, port_ok, port_table_ok, vlans_ok, static_ok, action_ok, command_ok, capture_ok, capture_key, file_ok, output_names}
use Rattle.exb_topology.specs.CommandViews.{Seen, set_vlan, put_member, take_member, set_pvid, set_accept, set_filter, set_isolated, put_static, take_static, go_up, go_down, seen, TimedSeen, timed_view}
use Rattle.exb_topology.specs.Topologies.{TopologySeen, topology_view, topology_of, topology_seen, resolved, bare, deed, command_seen}
use Rattle.exb_topology.specs.Soundness.{IsApart, IsSound, ReadIsSound}
use Rattle.exb_topology.proofs.ElementChecks.{ok_at, both_ok, refuse_ok}
use Rattle.exb_topology.proofs.StartCommands.{AreOut, listed_out, Each, each_from}

-- ---- ports

-- a setup of which only the tree is looked at
abbrev pub tree_alone : ℕ → List ExtenderSetup → Setup
tree_alone ports extenders = record { ports = ports; extenders = extenders; channels = 0; groups = 0; ageing = 0; start = [] }

pub shape_alone : (s : Setup) → shape_of s ≡ shape_of (tree_alone s.ports s.extenders)
unfolding shape_of
shape_alone s = refl

port_passed : (t : Shape) (key : List ℕ) (p : ℕ) → port_ok t key p ≡ Ok tt → is_external t p ≡ true
port_passed t key p ok = not-false (is_external t p) (refuse_ok _ fault.UnknownPort key ok)

-- ---- names of files

-- where no element passes, each one is refused
none_pass : {X : Type 0} (test : X → Bool) (xs : List X) → list_any test xs ≡ false → (k : ℕ) (d : X) → k < length xs → test (get_or xs k d) ≡ false
none_pass test xs none k d low = false_from_ne_true (test (get_or xs k d)) (λ is. false≢true (sym none ∙ list_any_at test xs k d low is))

differ : (name other : List ℕ) → bytes_eq name other ≡ false → name ≢ other
differ name other = not_from_Decides (bytes_eq name other) (bytes_eq-Decides name other)

apart_from : (t : Shape) (prefix name : List ℕ) → list_any (λ o. bytes_eq name o) (output_names prefix t) ≡ false → IsApart t prefix name
unfolding output_names
apart_from t prefix name none k d low =
    differ name (file_name prefix (get_or (all_outputs t) k d)) (subst (λ o. bytes_eq name o ≡ false) (get_or-map (file_name prefix) (all_outputs t) k d [] low)
    (none_pass (bytes_eq name) (output_names prefix t) none k [] (rw (length-map (all_outputs t) (file_name prefix)) low)))

files_apart : (t : Shape) (prefix : List ℕ) (all : List Named) → each_ok (file_ok (output_names prefix t)) all 0 all ≡ Ok tt → All (λ x. IsApart t prefix x.name) all
files_apart t prefix all ok k d low =
    let passed : file_ok (output_names prefix t) (take k all) k (get_or all k d) ≡ Ok tt = ok_at (file_ok (output_names prefix t)) all ok k d low in
    apart_from t prefix (get_or all k d).name (refuse_ok _ fault.Repeat (capture_key (get_or all k d).port) passed)

captures_out : (t : Shape) (all : List Named) → each_ok (capture_ok t) all 0 all ≡ Ok tt → All (λ x. is_external t x.port ≡ true) all
captures_out t all ok k d low = port_passed t (capture_key (get_or all k d).port) (get_or all k d).port (ok_at (capture_ok t) all ok k d low)

-- ---- commands, with sets as tests
abbrev NamesOut : Shape → Seen → Type 0
NamesOut t (set_vlan v tagged untagged) = AreOut t tagged × AreOut t untagged
NamesOut t (put_member v p kind) = is_external t p ≡ true
NamesOut t (take_member v p) = is_external t p ≡ true
NamesOut t (set_pvid p v) = is_external t p ≡ true
NamesOut t (set_accept p types) = is_external t p ≡ true
NamesOut t (set_filter p on) = is_external t p ≡ true
NamesOut t (set_isolated p on) = is_external t p ≡ true
NamesOut t (put_static v m ports) = AreOut t ports
NamesOut t (take_static v m) = Unit {0}
NamesOut t (go_up p) = is_external t p ≡ true
NamesOut t (go_down p) = is_external t p ≡ true

names_out : (t : Shape) (c : Command) → NamesOut t (seen c) → NamesExternal t c
names_out t (command.Vlan v tagged untagged) h = h
names_out t (command.Member v p kind) h = h
names_out t (command.Unmember v p) h = h
names_out t (command.Pvid p v) h = h
names_out t (command.Accept p types) h = h
names_out t (command.Filter p on) h = h
names_out t (command.Isolate p on) h = h
names_out t (command.Static v m ports) h = h
names_out t (command.Unstatic v m) h = h
names_out t (command.Up p) h = h
names_out t (command.Down p) h = h

action_out : (t : Shape) (here : List ℕ) (a : Action) → action_ok t here a ≡ Ok tt → NamesOut t (deed t a)
action_out t here (does.Vlan v tagged untagged) ok = (listed_out t tagged, listed_out t untagged)
action_out t here (does.Member v p kind) ok = port_passed t (here ++ codes "port") p ok
action_out t here (does.Unmember v p) ok = port_passed t (here ++ codes "port") p ok
action_out t here (does.Pvid p v) ok = port_passed t (here ++ codes "port") p ok
action_out t here (does.Accept p types) ok = port_passed t (here ++ codes "port") p ok
action_out t here (does.Filter p on) ok = port_passed t (here ++ codes "port") p ok
action_out t here (does.Isolate p on) ok = port_passed t (here ++ codes "port") p ok
action_out t here (does.Static v m ports) ok = listed_out t ports
action_out t here (does.Unstatic v m) ok = tt
action_out t here (does.Up p) ok = port_passed t (here ++ codes "port") p ok
action_out t here (does.Down p) ok = port_passed t (here ++ codes "port") p ok

actions_out : (t : Shape) (all : List CommandElement) → each_ok (command_ok t) all 0 all ≡ Ok tt → Each (λ c. NamesOut t (deed t c.action)) all
actions_out t all ok = each_from (λ c. NamesOut t (deed t c.action)) all (λ k d low. action_out t (in_element (codes "command") k) (get_or all k d).action (ok_at (command_ok t) all ok k d low))

commands_out : (t : Shape) (cs : List Timed) (tables : List CommandElement) → map (command_seen t) tables ≡ map timed_view cs → Each (λ c. NamesOut t (deed t c.action)) tables → All (λ c. NamesExternal t c.command) cs
commands_out t [] tables e each k d low = absurd (omega arith)
commands_out t (c ∷ cs) [] e each k d low = absurd (cc)
commands_out t (c ∷ cs) (x ∷ xs) e each zero d low =
    let first : command_seen t x ≡ timed_view c = cc in
    names_out t c.command (subst (NamesOut t) (ap (λ (v : TimedSeen). v.command) first) each.0)
commands_out t (c ∷ cs) (x ∷ xs) e each (suc k) d low =
    let rest : map (command_seen t) xs ≡ map timed_view cs = cc in
    commands_out t cs xs rest each.1 k d (omega arith)

-- ---- seconds and letters
abbrev SeenFollow : ℕ → ℕ → List TimedSeen → Type 0
SeenFollow second count cs = Follow (λ (c : TimedSeen). c.at) (λ (c : TimedSeen). c.fate) second count cs

timed_follow : (t : Shape) (letters : ℕ) (cs : List Timed) (tables : List CommandElement) → map (command_seen t) tables ≡ map timed_view cs → CommandsFollow 0 letters tables
    → Follow (λ (c : Timed). c.at) (λ (c : Timed). c.fate) 0 letters cs
timed_follow t letters cs tables e h =
    follow_unmap (λ (c : TimedSeen). c.at) (λ (c : TimedSeen). c.fate) timed_view 0 letters cs
    (subst (SeenFollow 0 letters) e (follow_map (λ (c : TimedSeen). c.at) (λ (c : TimedSeen). c.fate) (command_seen t) 0 letters tables h))

-- ---- the whole

-- what of a topology its view decides
record HasPorts (tables : TopologyTables) (shape : Shape) : Type 0 where
  captures : All (λ x. is_external shape x.port ≡ true) tables.captures
  apart : All (λ x. IsApart shape tables.bridge.out x.name) tables.captures
  commands : Each (λ c. NamesOut shape (deed shape c.action)) tables.commands

ports_out : (t : Shape) (file : TopologyTables) → ports_ok t file ≡ Ok tt → HasPorts file t
unfolding ports_ok
ports_out t file ok =
    let files : Result (Unit {0}) Refusal = each_ok (file_ok (output_names file.bridge.out t)) file.captures 0 file.captures in
    let captures : Result (Unit {0}) Refusal = each_ok (capture_ok t) file.captures 0 file.captures >>= λ _. files in
    let commands : Result (Unit {0}) Refusal = each_ok (command_ok t) file.commands 0 file.commands >>= λ _. captures in
    let statics : Result (Unit {0}) Refusal = each_ok (static_ok t) file.statics 0 file.statics >>= λ _. commands in
    let vlans : Result (Unit {0}) Refusal = vlans_ok t file.vlans >>= λ _. statics in
    let one = both_ok (each_ok (port_table_ok t) file.ports 0 file.ports) vlans ok in
    let two = both_ok (vlans_ok t file.vlans) statics one.1 in
    let three = both_ok (each_ok (static_ok t) file.statics 0 file.statics) commands two.1 in
    let four = both_ok (each_ok (command_ok t) file.commands 0 file.commands) captures three.1 in
    let five = both_ok (each_ok (capture_ok t) file.captures 0 file.captures) files four.1 in
    record { captures = captures_out t file.captures five.0; apart = files_apart t file.bridge.out file.captures five.1; commands = actions_out t file.commands four.0 }

sound_by : (t : Topology) (file : TopologyTables) (shape : Shape) → shape ≡ shape_of t.setup → HasPorts file shape → AreCounted file
    → file.captures ≡ t.captures → map (command_seen shape) file.commands ≡ map timed_view t.commands → file.fate ≡ t.fate → file.bridge.out ≡ t.prefix → IsSound t
sound_by t file shape same ports counted captures commands fate prefix =
    let Seconds : Timed → ℕ = λ c. c.at in
    let Letters : Timed → List Verdict = λ c. c.fate in
    let low : length t.fate ≤ 60000 = subst (λ (vs : List Verdict). length vs ≤ 60000) fate counted.links in
    let follow : Follow Seconds Letters 0 (length t.fate) t.commands =
    subst (λ (vs : List Verdict). Follow Seconds Letters 0 (length vs) t.commands) fate (timed_follow shape (length file.fate) t.commands file.commands commands counted.follow) in
    let long : length file.commands ≡ length t.commands = sym (length-map file.commands (command_seen shape)) ∙ ap length commands ∙ length-map t.commands timed_view in
    record {
      captures = subst (λ (s : Shape). All (λ x. is_external s x.port ≡ true) t.captures) same (subst (λ (xs : List Named). All (λ x. is_external shape x.port ≡ true) xs) captures ports.captures);
      apart =
          subst (λ (s : Shape). All (λ x. IsApart s t.prefix x.name) t.captures) same
          (subst (λ (p : List ℕ). All (λ x. IsApart shape p x.name) t.captures) prefix
          (subst (λ (xs : List Named). All (λ x. IsApart shape file.bridge.out x.name) xs) captures ports.apart));
      commands = subst (λ (s : Shape). All (λ c. NamesExternal s c.command) t.commands) same (commands_out shape t.commands file.commands commands ports.commands);
      few_commands = subst (λ (n : ℕ). n ≤ 65536) long counted.few;
      rising = rising Seconds Letters 0 (length t.fate) t.commands follow;
      few_letters = few_letters Seconds Letters 0 (length t.fate) t.commands low follow;
    }

resolved_sound : (t : Topology) (file : TopologyTables) → AreCounted file → resolved file ≡ Ok (topology_view t) → IsSound t
unfolding resolved
resolved_sound t file counted e =
    let shape : Shape = shape_of (bare file) in
    let last : Unit {0} → Result TopologySeen Refusal = λ _. Ok (topology_seen shape file) in
    let ports : Unit {0} → Result TopologySeen Refusal = λ _. ports_ok shape file >>= last in
    let one = went (tree_ok (bare file)) ports (topology_view t) e in
    let two = went (ports_ok shape file) last (topology_view t) one.rest in
    let same : topology_seen shape file ≡ topology_view t = ok_is (topology_seen shape file) (topology_view t) two.rest in
    sound_by t file shape
    (shape_alone (bare file) ∙ ap (λ (v : TopologySeen). shape_of (tree_alone v.ports v.extenders)) same ∙ sym (shape_alone t.setup))
    (ports_out shape file two.first) counted
    (ap (λ (v : TopologySeen). v.captures) same) (ap (λ (v : TopologySeen). v.commands) same) (ap (λ (v : TopologySeen). v.fate) same) (ap (λ (v : TopologySeen). v.prefix) same)
  where
    ok_is : (x y : TopologySeen) → ◌≡◌ {A = Result TopologySeen Refusal} (Ok x) (Ok y) → x ≡ y
    ok_is x y e' = cc

pub read_sound : ReadIsSound
unfolding topology_of
read_sound file t e =
    let tables = went (tables_of file) resolved (topology_view t) e in
    resolved_sound t tables.passed (tables_counted file tables.passed tables.first) tables.rest

-- what the second and the third pass answer for the tables of a file
pub sound_result : (file : List ℕ) (tables : TopologyTables) (r : Result Topology TopoFault) → tables_of file ≡ Ok tables → GivesSeen topology_view r (resolved tables) → IfOk r IsSound
sound_result file tables (Ok t) is gives = resolved_sound t tables (tables_counted file tables is) gives
sound_result file tables (Err e) is gives = tt

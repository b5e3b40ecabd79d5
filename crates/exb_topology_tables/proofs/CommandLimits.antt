-- What the commands of a file keep to: they are few, their seconds never fall, and all letters of fates together are few.
use Rattle.std.proofs.Common.{◌≡◌, ℕ, zero, suc, ◌+◌, ◌<◌, ◌≤◌, Bool, true, false, List, [], ◌∷◌, ◌++◌, length, All, Option, Some, None, Result, Ok, Err, map, refl, sym, ap, subst, ◌∙◌, arith}
use Rattle.std.specs.Prelude.{nat_le, if◌then◌else◌, codes}
use Rattle.std.specs.List.{AllPairs, sum_by}
use Rattle.std.proofs.lemmas.Bool.{leb-true}
use Rattle.std.proofs.lemmas.List.Kept.{AllPairs-cons}
use Rattle.std.proofs.lemmas.List.Sums.{sum_by-cons}
use Rattle.toml.specs.Data.{Data, Items, no_items, item, Members, get_member}
use Rattle.exb_model.specs.declared.setup.Verdict.{Verdict}
use Rattle.exb_toml_keys.specs.declared.faults.KeyFault.TheVariants as fault
use Rattle.exb_toml_keys.specs.Faults.{Refusal, at, ◌>>=◌, in_element}
use Rattle.exb_toml_keys.specs.Keys.{seconds, fate, key_at, only, table_of, elements, each}
use Rattle.exb_toml_keys.specs.Documents.{document}
use Rattle.exb_toml_keys.proofs.PassedSteps.{Went, went, seconds_rise, letters_few}
use Rattle.exb_topology_tables.specs.declared.schema.Schema.TheVariants as schema
use Rattle.exb_model.specs.declared.setup.ExtenderSetup.{ExtenderSetup}
use Rattle.exb_topology_tables.specs.declared.elements.BridgeTable.{BridgeTable}
use Rattle.exb_topology_tables.specs.declared.elements.PortElement.{PortElement}
use Rattle.exb_topology_tables.specs.declared.elements.VlanElement.{VlanElement}
use Rattle.exb_topology_tables.specs.declared.elements.StaticElement.{StaticElement}
use Rattle.exb_topology_tables.specs.declared.elements.Named.{Named}
use Rattle.exb_topology_tables.specs.declared.commands.Op.{Op}
use Rattle.exb_topology_tables.specs.declared.commands.Action.{Action}
use Rattle.exb_topology_tables.specs.declared.commands.CommandElement.{CommandElement}
use Rattle.exb_topology_tables.specs.declared.tables.TopologyTables.{TopologyTables}
use Rattle.exb_topology_tables.specs.Schemas.{has_key}
use Rattle.exb_topology_tables.specs.Elements.{bridge_key, links, links_key, extenders, ports, vlans, statics, captures_key}
use Rattle.exb_topology_tables.specs.Commands.{op_in, action, command, command_item, after_command, count, commands}
use Rattle.exb_topology_tables.specs.Tables.{file_tables, tables_of}

ok_same : {A : Type 0} (x y : A) → ◌≡◌ {A = Result A Refusal} (Ok x) (Ok y) → x ≡ y
ok_same x y e = cc

-- ---- rows with seconds and letters, after those before
module _ {X : Type 0} (moment : X → ℕ) (letters : X → List Verdict) where
  abbrev pub Follow : ℕ → ℕ → List X → Type 0
  Follow second before [] = Unit {0}
  Follow second before (x ∷ xs) = (second ≤ moment x) × (before + length (letters x) ≤ 60000) × Follow (moment x) (before + length (letters x)) xs

  later : (second other before : ℕ) (xs : List X) → other ≤ second → Follow second before xs → All (λ x. other ≤ moment x) xs
  later second other before [] low f k d lt = absurd (omega arith)
  later second other before (x ∷ xs) low f zero d lt = omega (arith, low, f.0)
  later second other before (x ∷ xs) low f (suc k) d lt = later (moment x) other (before + length (letters x)) xs (omega (arith, low, f.0)) f.2 k d (omega arith)

  -- the seconds never fall
  pub rising : (second before : ℕ) (xs : List X) → Follow second before xs → AllPairs (λ a b. moment a ≤ moment b) xs
  rising second before [] f = λ i j d lt low. absurd (omega arith)
  rising second before (x ∷ xs) f = AllPairs-cons (λ a b. moment a ≤ moment b) x xs (later (moment x) (moment x) (before + length (letters x)) xs (omega arith) f.2) (rising (moment x) (before + length (letters x)) xs f.2)

  -- all letters together are few
  pub few_letters : (second before : ℕ) (xs : List X) → before ≤ 60000 → Follow second before xs → before + sum_by (λ x. length (letters x)) xs ≤ 60000
  few_letters second before [] low f = omega (arith, low)
  few_letters second before (x ∷ xs) low f =
      let rest : (before + length (letters x)) + sum_by (λ y. length (letters y)) xs ≤ 60000 = few_letters (moment x) (before + length (letters x)) xs f.1 f.2 in
      omega (arith, rest, sum_by-cons (λ (y : X). length (letters y)) x xs)

pub follow_map : {X Y : Type 0} (moment : Y → ℕ) (letters : Y → List Verdict) (f : X → Y) (second before : ℕ) (xs : List X) → Follow (λ x. moment (f x)) (λ x. letters (f x)) second before xs → Follow moment letters second before (map f xs)
follow_map moment letters f second before [] h = tt
follow_map moment letters f second before (x ∷ xs) h = (h.0, h.1, follow_map moment letters f (moment (f x)) (before + length (letters (f x))) xs h.2)

pub follow_unmap : {X Y : Type 0} (moment : Y → ℕ) (letters : Y → List Verdict) (f : X → Y) (second before : ℕ) (xs : List X) → Follow moment letters second before (map f xs) → Follow (λ x. moment (f x)) (λ x. letters (f x)) second before xs
follow_unmap moment letters f second before [] h = tt
follow_unmap moment letters f second before (x ∷ xs) h = (h.0, h.1, follow_unmap moment letters f (moment (f x)) (before + length (letters (f x))) xs h.2)

-- ---- commands
abbrev pub CommandsFollow : ℕ → ℕ → List CommandElement → Type 0
CommandsFollow second letters cs = Follow (λ (c : CommandElement). c.at) (λ (c : CommandElement). c.fate) second letters cs

record Keeps (s : ℕ × ℕ) (c : CommandElement) : Type 0 where
  second : s.0 ≤ c.at
  letters : s.1 + length c.fate ≤ 60000

command_keeps : (s : ℕ × ℕ) (i : ℕ) (t : Members) (c : CommandElement) → s.1 ≤ 60000 → command s i t ≡ Ok c → Keeps s c
unfolding command
command_keeps s i t c low e =
    let here : List ℕ = in_element (codes "command") i in
    let last : ℕ → Action → List Verdict → Result CommandElement Refusal = λ second deed letters. Ok (record { at = second; action = deed; fate = letters }) in
    let four : ℕ → Action → Result CommandElement Refusal = λ second deed. key_at (fate s.1) (Some []) here (codes "fate") t >>= last second deed in
    let three : Op → ℕ → Result CommandElement Refusal = λ op second. action op here t >>= four second in
    let two : Op → Unit {0} → Result CommandElement Refusal = λ op _. key_at (seconds s.0) None here (codes "at") t >>= three op in
    let one : Op → Result CommandElement Refusal = λ op. only (has_key (schema.Command op)) here t >>= two op in
    let a = went (key_at op_in None here (codes "op") t) one c e in
    let b = went (only (has_key (schema.Command a.passed)) here t) (two a.passed) c a.rest in
    let d = went (key_at (seconds s.0) None here (codes "at") t) (three a.passed) c b.rest in
    let f = went (action a.passed here t) (four d.passed) c d.rest in
    let g = went (key_at (fate s.1) (Some []) here (codes "fate") t) (last d.passed f.passed) c f.rest in
    let answer : CommandElement = record { at = d.passed; action = f.passed; fate = g.passed } in
    let is : answer ≡ c = ok_same answer c g.rest in
    subst (λ (x : CommandElement). Keeps s x) is (record {
      second = seconds_rise s.0 d.passed here (codes "at") t d.first;
      letters = letters_few s.1 g.passed here (codes "fate") t low g.first;
    })

each_keeps : (s : ℕ × ℕ) (i : ℕ) (ds : Items) (cs : List CommandElement) → s.1 ≤ 60000 → each command_item after_command s i ds ≡ Ok cs → CommandsFollow s.0 s.1 cs × (length cs ≡ count ds)
unfolding each
each_keeps s i no_items cs low e = let is : [] ≡ cs = cc in subst (λ (xs : List CommandElement). CommandsFollow s.0 s.1 xs × (length xs ≡ 0)) is (tt, refl)
each_keeps s i (item d ds) cs low e =
    let rest : CommandElement → Result (List CommandElement) Refusal = λ c. each command_item after_command (after_command s c) (i + 1) ds in
    let a = went (command_item s i d) (λ c. rest c >>= (λ xs. Ok (c ∷ xs))) cs e in
    let b = went (rest a.passed) (λ xs. Ok (a.passed ∷ xs)) cs a.rest in
    let t = went (table_of (codes "command") d) (command s i) a.passed a.first in
    let first = command_keeps s i t.passed a.passed low t.rest in
    let more = each_keeps (after_command s a.passed) (i + 1) ds b.passed first.letters b.first in
    let is : a.passed ∷ b.passed ≡ cs = cc in
    subst (λ (xs : List CommandElement). CommandsFollow s.0 s.1 xs × (length xs ≡ count ds + 1)) is ((first.second, first.letters, more.0), omega (arith, more.1))

-- the commands of a file, after this many letters
commands_keep : (letters : ℕ) (t : Members) (cs : List CommandElement) → letters ≤ 60000 → commands letters t ≡ Ok cs → CommandsFollow 0 letters cs × (length cs ≤ 65536)
unfolding commands
commands_keep letters t cs low e =
    let Next : Type 0 = Result (List CommandElement) Refusal in
    let refused : Next = Err (at fault.Range (codes "command")) in
    let next : Items → Next = λ ds. if nat_le (count ds) 65536 then each command_item after_command (0, letters) 0 ds else refused in
    let a = went (elements (codes "command") (get_member (codes "command") t)) next cs e in
    elim (nat_le (count a.passed) 65536) as (λ b. nat_le (count a.passed) 65536 ≡ b → ◌≡◌ {A = Next} (if b then each command_item after_command (0, letters) 0 a.passed else refused) (Ok cs) → CommandsFollow 0 letters cs × (length cs ≤ 65536)) [
      | true ↦ λ few h. (let k = each_keeps (0, letters) 0 a.passed cs low h in (k.0, omega (arith, k.1, leb-true (count a.passed) 65536 few)))
      | false ↦ λ few h. absurd (cc)
    ] refl a.rest

links_few : (o : Option Data) (vs : List Verdict) → links_key o ≡ Ok vs → length vs ≤ 60000
unfolding links_key links
links_few None vs e = let is : [] ≡ vs = cc in subst (λ (x : List Verdict). length x ≤ 60000) is (omega arith)
links_few (Some d) vs e =
    let a = went (table_of (codes "links") d) links vs e in
    let b = went (only (has_key schema.Links) (codes "links" ++ codes ".") a.passed) (λ _. key_at (fate 0) (Some []) (codes "links" ++ codes ".") (codes "fate") a.passed) vs a.rest in
    let few = letters_few 0 vs (codes "links" ++ codes ".") (codes "fate") a.passed (omega arith) b.rest in
    omega (arith, few)

-- what the tables of a file keep to
pub record AreCounted (t : TopologyTables) : Type 0 where
  pub few : length t.commands ≤ 65536
  pub links : length t.fate ≤ 60000
  pub follow : CommandsFollow 0 (length t.fate) t.commands

file_counted : (t : Members) (file : TopologyTables) → file_tables t ≡ Ok file → AreCounted file
unfolding file_tables
file_counted t file e =
    let Done : Type 0 = Result TopologyTables Refusal in
    let last : BridgeTable → List Verdict → List ExtenderSetup → List PortElement → Option (List VlanElement) → List StaticElement → List CommandElement → List Named → Done = λ b f es ps vs ss cs files. Ok (record { bridge = b; fate = f; extenders = es; ports = ps; vlans = vs; statics = ss; commands = cs; captures = files }) in
    let eight : BridgeTable → List Verdict → List ExtenderSetup → List PortElement → Option (List VlanElement) → List StaticElement → List CommandElement → Done = λ b f es ps vs ss cs. captures_key (get_member (codes "captures") t) >>= last b f es ps vs ss cs in
    let seven : BridgeTable → List Verdict → List ExtenderSetup → List PortElement → Option (List VlanElement) → List StaticElement → Done = λ b f es ps vs ss. commands (length f) t >>= eight b f es ps vs ss in
    let six : BridgeTable → List Verdict → List ExtenderSetup → List PortElement → Option (List VlanElement) → Done = λ b f es ps vs. statics t >>= seven b f es ps vs in
    let five : BridgeTable → List Verdict → List ExtenderSetup → List PortElement → Done = λ b f es ps. vlans t >>= six b f es ps in
    let four : BridgeTable → List Verdict → List ExtenderSetup → Done = λ b f es. ports t >>= five b f es in
    let three : BridgeTable → List Verdict → Done = λ b f. extenders t >>= four b f in
    let two : BridgeTable → Done = λ b. links_key (get_member (codes "links") t) >>= three b in
    let one : Unit {0} → Done = λ _. bridge_key (get_member (codes "bridge") t) >>= two in
    let a = went (only (has_key schema.Root) [] t) one file e in
    let b = went (bridge_key (get_member (codes "bridge") t)) two file a.rest in
    let f = went (links_key (get_member (codes "links") t)) (three b.passed) file b.rest in
    let es = went (extenders t) (four b.passed f.passed) file f.rest in
    let ps = went (ports t) (five b.passed f.passed es.passed) file es.rest in
    let vs = went (vlans t) (six b.passed f.passed es.passed ps.passed) file ps.rest in
    let ss = went (statics t) (seven b.passed f.passed es.passed ps.passed vs.passed) file vs.rest in
    let cs = went (commands (length f.passed) t) (eight b.passed f.passed es.passed ps.passed vs.passed ss.passed) file ss.rest in
    let files = went (captures_key (get_member (codes "captures") t)) (last b.passed f.passed es.passed ps.passed vs.passed ss.passed cs.passed) file cs.rest in
    let answer : TopologyTables = record { bridge = b.passed; fate = f.passed; extenders = es.passed; ports = ps.passed; vlans = vs.passed; statics = ss.passed; commands = cs.passed; captures = files.passed } in
    let is : answer ≡ file = ok_same answer file files.rest in
    let links : length f.passed ≤ 60000 = links_few (get_member (codes "links") t) f.passed f.first in
    let kept = commands_keep (length f.passed) t cs.passed links cs.first in
    subst AreCounted is (record { few = kept.1; links = links; follow = kept.0 })

pub tables_counted : (bytes : List ℕ) (file : TopologyTables) → tables_of bytes ≡ Ok file → AreCounted file
unfolding tables_of
tables_counted bytes file e = let a = went (document 16777216 bytes) file_tables file e in file_counted a.passed file a.rest

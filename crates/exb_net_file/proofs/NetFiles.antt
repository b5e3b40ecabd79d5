-- What holds of every file that is read.
use Rattle.std.proofs.Common.{◌≡◌, ◌≢◌, ℕ, ◌+◌, ◌≤◌, ◌==◌, ◌++◌, true, false, List, [], ◌∷◌, Option, Some, None, Result, Ok, Err, All, length, get_or, take, refl, ap, sym, ◌∙◌, subst, arith, codes, inl, inr}
use Rattle.std.specs.Prelude.{nat_lt}
use Rattle.std.specs.List.{list_any, AllPairs}
use Rattle.std.specs.Str.{bytes_eq}
use Rattle.std.specs.Cmp.Lexicographic.{bytes_decides}
use Rattle.std.proofs.lemmas.Bool.{cases_Bool, ltb-false, eqb-false, false≢true}
use Rattle.std.proofs.lemmas.List.{get_or-take, length-take}
use Rattle.std.proofs.lemmas.List.Folds.{list_any_at}
use Rattle.std.proofs.lemmas.List.Elements.{All-cons}
use Rattle.toml.specs.Data.{Data, string, integer, boolean, array, table, Items, no_items, item, Members, get_member}
use Rattle.exb_toml_keys.specs.declared.faults.KeyFault.{KeyFault}
use Rattle.exb_toml_keys.specs.declared.faults.KeyFault.TheVariants as fault
use Rattle.std.specs.Prelude.{IfOk}
use Rattle.exb_toml_keys.specs.declared.faults.TopoFault.{TopoFault}
use Rattle.exb_toml_keys.specs.Faults.{Gives}
use Rattle.exb_toml_keys.specs.Documents.{document}
use Rattle.exb_toml_keys.specs.Faults.{Refusal, ◌>>=◌, in_element}
use Rattle.exb_toml_keys.specs.Keys.{text, named, keyed, key_at, only, table_of, elements, each, same_state}
use Rattle.exb_toml_keys.proofs.PassedSteps.{went, placed_ok}
use Rattle.exb_topology_tables.specs.Commands.{count}
use Rattle.exb_topology.specs.ElementChecks.{each_ok, refuse}
use Rattle.exb_topology.proofs.ElementChecks.{refuse_ok, ok_at}
use Rattle.exb_net_file.specs.declared.schema.NetSchema.TheVariants as schema
use Rattle.exb_net_file.specs.declared.elements.NetBridge.{NetBridge}
use Rattle.exb_net_file.specs.declared.elements.NetWire.{NetWire}
use Rattle.exb_net_file.specs.declared.net_file.NetFile.{NetFile}
use Rattle.exb_net_file.specs.EndNames.{is_name}
use Rattle.exb_net_file.specs.Elements.{has_key, named_as, name, bridge, bridge_item, bridges, wire_item, wires}
use Rattle.exb_net_file.specs.NetFiles.{IsNetFile, file_rows, name_ok, names_ok, net_file_of}

ok_same : {A : Type 0} (x y : A) → ◌≡◌ {A = Result A Refusal} (Ok x) (Ok y) → x ≡ y
ok_same x y e = cc

-- ---- names
abbrev Called : Type 0
Called = Result (List ℕ) KeyFault

named_is : (s n : List ℕ) → ◌≡◌ {A = Called} (named (named_as s)) (Ok n) → is_name n ≡ true
named_is s n e =
    elim (cases_Bool (is_name s)) [
      | inl k ↦ (let same : ◌≡◌ {A = Called} (Ok s) (Ok n) = rw k at e in subst (λ (z : List ℕ). is_name z ≡ true) (let z : s ≡ n = cc in z) k)
      | inr k ↦ absurd (let wrong : ◌≡◌ {A = Called} (Err fault.Name) (Ok n) = rw k at e in cc)
    ]

name_is : (d : Data) (n : List ℕ) → name d ≡ Ok n → is_name n ≡ true
unfolding name
name_is (string s) n e = named_is s n e
name_is (integer z) n e = absurd (cc)
name_is (boolean b) n e = absurd (cc)
name_is (array ds) n e = absurd (cc)
name_is (table ms) n e = absurd (cc)
name_is _ n e = absurd (cc)

keyed_is : (key : List ℕ) (o : Option Data) (n : List ℕ) → keyed name None key o ≡ Ok n → is_name n ≡ true
keyed_is key None n e = absurd (cc)
keyed_is key (Some d) n e = name_is d n (placed_ok key (name d) n e)

-- ---- bridges
bridge_is : (i : ℕ) (t : Members) (b : NetBridge) → bridge i t ≡ Ok b → is_name b.name ≡ true
unfolding bridge
bridge_is i t b e =
    let Done : Type 0 = Result NetBridge Refusal in
    let here : List ℕ = in_element (codes "bridge") i in
    let last : List ℕ → List ℕ → Done = λ called topology. Ok (record { name = called; topology = topology }) in
    let two : List ℕ → Done = λ called. key_at text None here (codes "topology") t >>= last called in
    let one : Unit {0} → Done = λ _. key_at name None here (codes "name") t >>= two in
    let a = went (only (has_key schema.Bridge) here t) one b e in
    let n = went (key_at name None here (codes "name") t) two b a.rest in
    let f = went (key_at text None here (codes "topology") t) (last n.passed) b n.rest in
    let made : NetBridge = record { name = n.passed; topology = f.passed } in
    subst (λ (x : NetBridge). is_name x.name ≡ true) (ok_same made b f.rest) (keyed_is (here ++ codes "name") (get_member (codes "name") t) n.passed n.first)

-- what each item gives, and as many
record AreBridges (n : ℕ) (bs : List NetBridge) : Type 0 where
  names : All (λ b. is_name b.name ≡ true) bs
  as_many : length bs ≡ n

each_bridge : (i : ℕ) (ds : Items) (bs : List NetBridge) → each bridge_item same_state tt i ds ≡ Ok bs → AreBridges (count ds) bs
unfolding each
each_bridge i no_items bs e = let is : [] ≡ bs = cc in subst (AreBridges 0) is (record { names = λ k d lt. absurd (omega arith); as_many = refl })
each_bridge i (item d ds) bs e =
    let rest : Result (List NetBridge) Refusal = each bridge_item same_state tt (i + 1) ds in
    let a = went (bridge_item tt i d) (λ x. rest >>= (λ xs. Ok (x ∷ xs))) bs e in
    let b = went rest (λ xs. Ok (a.passed ∷ xs)) bs a.rest in
    let t = went (table_of (codes "bridge") d) (bridge i) a.passed a.first in
    let more = each_bridge (i + 1) ds b.passed b.first in
    let is : a.passed ∷ b.passed ≡ bs = cc in
    subst (AreBridges (count ds + 1)) is (record { names = All-cons (λ x. is_name x.name ≡ true) a.passed b.passed (bridge_is i t.passed a.passed t.rest) more.names; as_many = omega (arith, more.as_many) })

record AreFew (bs : List NetBridge) : Type 0 where
  some : 1 ≤ length bs
  few : length bs ≤ 16
  names : All (λ b. is_name b.name ≡ true) bs

bridges_are : (t : Members) (bs : List NetBridge) → bridges t ≡ Ok bs → AreFew bs
unfolding bridges
bridges_are t bs e =
    let Done : Type 0 = Result (List NetBridge) Refusal in
    let three : Items → Unit {0} → Done = λ ds _. each bridge_item same_state tt 0 ds in
    let two : Items → Unit {0} → Done = λ ds _. refuse (nat_lt 16 (count ds)) fault.Range (codes "bridge") >>= three ds in
    let one : Items → Done = λ ds. refuse (count ds == 0) fault.Missing (codes "bridge") >>= two ds in
    let a = went (elements (codes "bridge") (get_member (codes "bridge") t)) one bs e in
    let s = went (refuse (count a.passed == 0) fault.Missing (codes "bridge")) (two a.passed) bs a.rest in
    let f = went (refuse (nat_lt 16 (count a.passed)) fault.Range (codes "bridge")) (three a.passed) bs s.rest in
    let are = each_bridge 0 a.passed bs f.rest in
    let some : count a.passed ≢ 0 = eqb-false (count a.passed) 0 (refuse_ok (count a.passed == 0) fault.Missing (codes "bridge") (unit_is s.passed s.first)) in
    let few : count a.passed ≤ 16 = ltb-false 16 (count a.passed) (refuse_ok (nat_lt 16 (count a.passed)) fault.Range (codes "bridge") (unit_is f.passed f.first)) in
    record { some = omega (arith, are.as_many, some); few = omega (arith, are.as_many, few); names = are.names }
  where
    unit_is : (u : Unit {0}) {r : Result (Unit {0}) Refusal} → r ≡ Ok u → r ≡ Ok tt
    unit_is u e = e

-- ---- wires
each_wire : (i : ℕ) (ds : Items) (ws : List NetWire) → each wire_item same_state tt i ds ≡ Ok ws → length ws ≡ count ds
unfolding each
each_wire i no_items ws e = let is : [] ≡ ws = cc in subst (λ (xs : List NetWire). length xs ≡ 0) is refl
each_wire i (item d ds) ws e =
    let rest : Result (List NetWire) Refusal = each wire_item same_state tt (i + 1) ds in
    let a = went (wire_item tt i d) (λ x. rest >>= (λ xs. Ok (x ∷ xs))) ws e in
    let b = went rest (λ xs. Ok (a.passed ∷ xs)) ws a.rest in
    let more = each_wire (i + 1) ds b.passed b.first in
    let is : a.passed ∷ b.passed ≡ ws = cc in
    subst (λ (xs : List NetWire). length xs ≡ count ds + 1) is (omega (arith, more))

wires_are : (t : Members) (ws : List NetWire) → wires t ≡ Ok ws → length ws ≤ 15
unfolding wires
wires_are t ws e =
    let Done : Type 0 = Result (List NetWire) Refusal in
    let two : Items → Unit {0} → Done = λ ds _. each wire_item same_state tt 0 ds in
    let one : Items → Done = λ ds. refuse (nat_lt 15 (count ds)) fault.Range (codes "wire") >>= two ds in
    let a = went (elements (codes "wire") (get_member (codes "wire") t)) one ws e in
    let f = went (refuse (nat_lt 15 (count a.passed)) fault.Range (codes "wire")) (two a.passed) ws a.rest in
    let few : count a.passed ≤ 15 = ltb-false 15 (count a.passed) (refuse_ok (nat_lt 15 (count a.passed)) fault.Range (codes "wire") (unit_is f.passed f.first)) in
    omega (arith, each_wire 0 a.passed ws f.rest, few)
  where
    unit_is : (u : Unit {0}) {r : Result (Unit {0}) Refusal} → r ≡ Ok u → r ≡ Ok tt
    unit_is u e = e

-- ---- the file
record AreRows (f : NetFile) : Type 0 where
  bridges : AreFew f.bridges
  wires : length f.wires ≤ 15

rows_are : (t : Members) (f : NetFile) → file_rows t ≡ Ok f → AreRows f
unfolding file_rows
rows_are t f e =
    let Done : Type 0 = Result NetFile Refusal in
    let last : List NetBridge → List NetWire → Done = λ bs ws. Ok (record { bridges = bs; wires = ws }) in
    let two : List NetBridge → Done = λ bs. wires t >>= last bs in
    let one : Unit {0} → Done = λ _. bridges t >>= two in
    let a = went (only (has_key schema.Root) [] t) one f e in
    let b = went (bridges t) two f a.rest in
    let w = went (wires t) (last b.passed) f b.rest in
    let made : NetFile = record { bridges = b.passed; wires = w.passed } in
    subst AreRows (ok_same made f w.rest) (record { bridges = bridges_are t b.passed b.first; wires = wires_are t w.passed w.first })

-- names that stand before are others
apart_at : (bs : List NetBridge) → each_ok name_ok bs 0 bs ≡ Ok tt → AllPairs (λ b c. b.name ≢ c.name) bs
apart_at bs ok i j d lt within same =
    let c : NetBridge = get_or bs j d in
    let none : list_any (λ x. bytes_eq x.name c.name) (take j bs) ≡ false = refuse_ok (list_any (λ x. bytes_eq x.name c.name) (take j bs)) fault.Repeat (in_element (codes "bridge") j ++ codes "name") (ok_at name_ok bs ok j d within) in
    let there : get_or (take j bs) i d ≡ get_or bs i d = get_or-take j bs i d lt in
    let is : bytes_eq (get_or (take j bs) i d).name c.name ≡ true = (bytes_decides (get_or (take j bs) i d).name c.name).1 (ap (λ (x : NetBridge). x.name) there ∙ same) in
    false≢true (sym none ∙ list_any_at (λ x. bytes_eq x.name c.name) (take j bs) i d (omega (arith, length-take j bs, lt, within)) is)

pub files_are_sound : (file : List ℕ) (f : NetFile) → net_file_of file ≡ Ok f → IsNetFile f
unfolding net_file_of names_ok
files_are_sound file f e =
    let a = went (document 1048576 file >>= file_rows) names_ok f e in
    let t = went (document 1048576 file) file_rows a.passed a.first in
    let rows = rows_are t.passed a.passed t.rest in
    let n = went (each_ok name_ok a.passed.bridges 0 a.passed.bridges) (λ _. Ok a.passed) f a.rest in
    subst IsNetFile (ok_same a.passed f n.rest) (record {
      some = rows.bridges.some;
      bridges = rows.bridges.few;
      wires = rows.wires;
      names = rows.bridges.names;
      apart = apart_at a.passed.bridges (unit_is n.passed n.first);
    })
  where
    unit_is : (u : Unit {0}) {r : Result (Unit {0}) Refusal} → r ≡ Ok u → r ≡ Ok tt
    unit_is u e = e

pub read_is_sound : (file : List ℕ) (r : Result NetFile TopoFault) → Gives r (net_file_of file) → IfOk r IsNetFile
read_is_sound file (Ok f) h = files_are_sound file f h
read_is_sound file (Err e) h = tt

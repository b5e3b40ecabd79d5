-- An input that is made: its captures are kept in memory and checked there, and no fault but want of memory ends its run.
use Rattle.std.proofs.Common.{◌≡◌, ◌≢◌, ◌≤◌, ◌+◌, ◌<◌, ◌==◌, ◌||◌, ◌^◌, ◌++◌, ◌⊎◌, inl, inr, ℕ, zero, suc, Bool, true, false, cond, List, [], ◌∷◌, Option, Some, None, Ok, Err, Result, map, filter, length, take, get_or, All, refl, ap, sym, subst, ◌∙◌, arith, eq-eqb, ne_eqb}
use mathlib.Core.Path.{fun_ext}
use Rattle.std.specs.Prelude.{⊤, if◌then◌else◌, is_some, sum_by, IfOk, IfErr, codes, decimal, string_bytes}
use Rattle.std.specs.List.{list_any, range_with_len}
use Rattle.std.proofs.Math.Seq.{take-length}
use Rattle.std.proofs.lemmas.Bool.{cases_eq, eqb-true, false≢true, false_from_ne_true}
use Rattle.std.proofs.lemmas.Fmt.{decimal_injective}
use Rattle.std.proofs.lemmas.List.{map-append, take_more}
use Rattle.std.proofs.lemmas.List.Elements.{All-cons}
use Rattle.std.proofs.lemmas.List.Sums.{sum_by-cons}
use Rattle.exb_make.specs.declared.captures.GeneratedCapture.{GeneratedCapture}
use Rattle.exb_make.specs.GeneratedInputs.{made, ArrivesAtExternals}
use Rattle.exb_make.specs.GeneratedParts.{read_of}
use Rattle.exb_model.specs.declared.setup.Setup.{Setup}
use Rattle.exb_model.specs.declared.setup.Timed.{Timed}
use Rattle.exb_model.specs.History.{History}
use Rattle.exb_model.specs.Input.{Eager, Given, Input, Record, basis_of, given_by, tree_of}
use Rattle.exb_model.specs.Ports.{below}
use Rattle.exb_model.specs.Setup.{IsValid, shape_of}
use Rattle.exb_model.specs.Texts.{summary}
use Rattle.exb_model.specs.Tree.{Shape, IsTree, external_ports, is_external}
use Rattle.exb_capture.specs.declared.fault.FormatFault.{FormatFault as Broke}
use Rattle.exb_capture.specs.Captures.{capture_records, records_or_none}
use Rattle.exb_capture.specs.Scans.{scanned_of}
use Rattle.exb_shelf.specs.Files.{Files, Puts, bytes_of}
use Rattle.exb_topology_tables.specs.declared.elements.Named.{Named}
use Rattle.exb_journal.specs.declared.file_names.OutputKind.{OutputKind}
use Rattle.exb_journal.specs.FileNames.{file_name}
use Rattle.exb_inputs.specs.declared.captures.CheckedCapture.{CheckedCapture}
use Rattle.exb_inputs.specs.declared.fault.Fault.{Fault}
use Rattle.exb_inputs.specs.declared.fault.Fault.TheVariants.{Usage, Missing, Topology as BadTopology, Capture as Faulty, Changed, Net as BadNet, Member as BadMember, MemberCapture, MemberChanged, Output as Unread, TooLarge, BadLine, Illegal, Read, Write, Memory}
use Rattle.exb_run.specs.Answers.{eager_summary}
use Rattle.exb_inputs.specs.CaptureChecks.{AreAllGood, AreChecked, FirstFault, IsGood, IsGoodNamed, most_bytes}
use Rattle.exb_outputs.specs.InputsApart.{CanBeRead}
use Rattle.exb_inputs.specs.Inputs.{bytes_named, input_from, is_named, name_of, records_at}
use Rattle.exb_play.specs.Outputs.{HasPlayed}
use Rattle.exb_outputs.specs.Manifests.{output_name, Listed, kind_at}
use Rattle.exb_run.specs.GeneratedCaptures.{AreKept, IsKept, IsReadAs, KeepsFirst, KeepsMore, name_made}
use Rattle.exb_inputs.specs.ShelfEffects.{CountsFaults}
use Rattle.exb_inputs.specs.FaultPhases.{IsChange, IsOfPlay}
use Rattle.exb_inputs.proofs.CaptureFaults.{first_none}
use Rattle.exb_outputs.proofs.PortPlaces.{external_low}
use Rattle.exb_inputs.proofs.Outcomes.{Outcome}
use Rattle.exb_cli.proofs.KindLemmas.{name_begins}

-- ---- one capture more
-- what is found where one name stands behind others
found_in : (names : List Named) (x : Named) (q : ℕ) (name : List ℕ) → name_of (names ++ x ∷ []) q ≡ Some name → (name_of names q ≡ Some name) ⊎ ((x.port ≡ q) × (x.name ≡ name))
found_in [] x q name e = by_port (x.port == q) refl e
  where
    by_port : (b : Bool) → (x.port == q) ≡ b → (if b then Some x.name else None) ≡ Some name → (None ≡ Some name) ⊎ ((x.port ≡ q) × (x.name ≡ name))
    by_port true at is = inr (eqb-true x.port q at, cc)
    by_port false at is = inl is
found_in (y ∷ ys) x q name e = by_port (y.port == q) (found_in ys x q name) e
  where
    by_port : (b : Bool) → (name_of (ys ++ x ∷ []) q ≡ Some name → (name_of ys q ≡ Some name) ⊎ ((x.port ≡ q) × (x.name ≡ name)))
        → (if b then Some y.name else name_of (ys ++ x ∷ []) q) ≡ Some name → ((if b then Some y.name else name_of ys q) ≡ Some name) ⊎ ((x.port ≡ q) × (x.name ≡ name))
    by_port true rest is = inl is
    by_port false rest is = rest is

-- names of different ports differ
names_differ : (p q : ℕ) → p < 4160 → q < 4160 → name_made p ≡ name_made q → p ≡ q
names_differ p q low low' e = let same : decimal p ≡ decimal q = cc in decimal_injective p q (omega (arith, low)) (omega (arith, low')) same

module _ (c : GeneratedCapture) (low : c.port < 4160) (old new : Files) (puts : Puts old new (name_made c.port) c.file.items) (records : ℕ → List Record) (as_read : IsReadAs records c) where
  kept_here : (q : ℕ) (name : List ℕ) → c.port ≡ q → name ≡ name_made c.port → IsKept records q name (new name)
  kept_here q name same own = record {
    port = subst (λ (p : ℕ). p < 4160) same low;
    own = own ∙ ap name_made same;
    bytes = c.file.items;
    there = ap new own ∙ puts.here;
    read = as_read.read ∙ ap (λ (p : ℕ). Ok (records p)) same;
    small = as_read.small;
  }

  kept_there : (q : ℕ) (name : List ℕ) → c.port ≢ q → IsKept records q name (old name) → IsKept records q name (new name)
  kept_there q name other kept = record {
    port = kept.port;
    own = kept.own;
    bytes = kept.bytes;
    there = puts.others name (λ e. other (names_differ c.port q low kept.port (sym e ∙ kept.own))) ∙ kept.there;
    read = kept.read;
    small = kept.small;
  }

  kept_still : (q : ℕ) (name : List ℕ) → IsKept records q name (old name) → IsKept records q name (new name)
  kept_still q name kept = elim (cases_eq c.port q) [
    | inl same ↦ kept_here q name same (kept.own ∙ ap name_made (sym same))
    | inr other ↦ kept_there q name other kept
  ]

  kept_more : (names : List Named) → AreKept records names old → AreKept records (names ++ record { port = c.port; name = name_made c.port } ∷ []) new
  kept_more names kept q name e = elim (found_in names (record { port = c.port; name = name_made c.port }) q name e) [
    | inl had ↦ kept_still q name (kept q name had)
    | inr own ↦ kept_here q name own.0 (sym own.1)
  ]

pub keeps_more : (c : GeneratedCapture) (names more : List Named) (old new : Files) → c.port < 4160 → more ≡ names ++ record { port = c.port; name = name_made c.port } ∷ []
    → Puts old new (name_made c.port) c.file.items → KeepsMore c names more old new
keeps_more c names more old new low is puts = record {
  ports = ap (map (λ (n : Named). n.port)) is ∙ map-append (λ (n : Named). n.port) names (record { port = c.port; name = name_made c.port } ∷ []);
  kept = λ records kept as_read. subst (λ (ns : List Named). AreKept records ns new) (sym is) (kept_more c low old new puts records as_read names kept);
}

pub keeps_none : (captures : List GeneratedCapture) (names : List Named) (file : Files) → names ≡ [] → KeepsFirst captures (take 0 captures) names file
keeps_none captures names file none = record {
  ports = ap (map (λ (n : Named). n.port)) none;
  kept = λ records all. subst (λ (ns : List Named). AreKept records ns file) (sym none) (λ q name e. absurd (cc));
}

pub keeps_on : (captures : List GeneratedCapture) (at : ℕ) (c : GeneratedCapture) (names more : List Named) (old new : Files) → at < length captures → c ≡ get_or captures at c
    → KeepsFirst captures (take at captures) names old → KeepsMore c names more old new → KeepsFirst captures (take (at + 1) captures) more new
keeps_on captures at c names more old new low is first one = record {
  ports =
      one.ports ∙ ap (λ (ps : List ℕ). ps ++ c.port ∷ []) first.ports ∙ sym (map-append (λ (x : GeneratedCapture). x.port) (take at captures) (c ∷ []))
      ∙ ap (λ (x : GeneratedCapture). map (λ (y : GeneratedCapture). y.port) (take at captures ++ x ∷ [])) is ∙ ap (map (λ (x : GeneratedCapture). x.port)) (sym (take_more captures at c low));
  kept = λ records all. one.kept records (first.kept records all) (subst (IsReadAs records) (sym is) (all at c low));
}

pub keeps_all : (captures : List GeneratedCapture) (at : ℕ) (names : List Named) (file : Files) → at ≡ length captures → KeepsFirst captures (take at captures) names file → KeepsFirst captures captures names file
keeps_all captures at names file end = subst (λ (xs : List GeneratedCapture). KeepsFirst captures xs names file) (ap (λ (n : ℕ). take n captures) end ∙ take-length captures)

-- ---- what was made, one after the other
abbrev ReadAt : Type 0
ReadAt = ℕ × Result (List Record) Broke

module _ (r : ℕ → List Record) where
  abbrev At : ℕ → ReadAt
  At q = (q, Ok (r q))

  ports_are : (cs : List GeneratedCapture) (ps : List ℕ) → map read_of cs ≡ map At ps → map (λ c. c.port) cs ≡ ps
  ports_are [] [] e = refl
  ports_are [] (p ∷ ps) e = absurd (cc)
  ports_are (c ∷ cs) [] e = absurd (cc)
  ports_are (c ∷ cs) (p ∷ ps) e =
      let head : read_of c ≡ At p = cc in
      let tail : map read_of cs ≡ map At ps = cc in
      ap (λ (q : ℕ). q ∷ map (λ (x : GeneratedCapture). x.port) cs) (ap (λ (x : ReadAt). x.0) head) ∙ ap (λ (qs : List ℕ). p ∷ qs) (ports_are cs ps tail)

  read_are : (cs : List GeneratedCapture) (ps : List ℕ) → map read_of cs ≡ map At ps → sum_by (λ c. length c.file.items) cs ≤ most_bytes → All (IsReadAs r) cs
  read_are [] ps e small = λ k d low. absurd (omega (arith, low))
  read_are (c ∷ cs) [] e small = absurd (cc)
  read_are (c ∷ cs) (p ∷ ps) e small =
      let head : read_of c ≡ At p = cc in
      let tail : map read_of cs ≡ map At ps = cc in
      let both = sum_by-cons (λ (x : GeneratedCapture). length x.file.items) c cs in
      All-cons (IsReadAs r) c cs
      (record { read = ap (λ (x : ReadAt). x.1) head ∙ ap (λ (q : ℕ). Ok (r q)) (sym (ap (λ (x : ReadAt). x.0) head)); small = omega (arith, both, small) })
      (read_are cs ps tail (omega (arith, both, small)))

-- ---- which ports are among those that pass a test
has_passed : (test : ℕ → Bool) (a n k : ℕ) → a ≤ k → k < a + n → test k ≡ true → list_any (λ x. x == k) (filter test (range_with_len a n)) ≡ true
has_passed test a zero k low high is = absurd (omega (arith, low, high))
has_passed test a (suc n) k low high is =
    elim (cases_eq a k) [
      | inl same ↦ here same (test a) refl
      | inr other ↦ there other (test a) (has_passed test (a + 1) n k (omega (arith, low, other)) (omega (arith, high)) is)
    ]
  where
    here : a ≡ k → (b : Bool) → test a ≡ b → list_any (λ x. x == k) (cond b (a ∷ filter test (range_with_len (a + 1) n)) (filter test (range_with_len (a + 1) n))) ≡ true
    here same true at = rw (eq-eqb a k same) refl
    here same false at = absurd (let e : false ≡ true = sym at ∙ (ap test same ∙ is) in cc)

    there : a ≢ k → (b : Bool) → list_any (λ x. x == k) (filter test (range_with_len (a + 1) n)) ≡ true
        → list_any (λ x. x == k) (cond b (a ∷ filter test (range_with_len (a + 1) n)) (filter test (range_with_len (a + 1) n))) ≡ true
    there other true rest = rw (ne_eqb a k other) rest
    there other false rest = rest

external_there : (t : Shape) (q : ℕ) → IsTree t → is_external t q ≡ true → list_any (λ x. x == q) (external_ports t) ≡ true
unfolding external_ports below
external_there t q tree is = has_passed (is_external t) 0 4160 q (omega arith) (let low = external_low t q tree is in omega (arith, low)) is

passes : (test : ℕ → Bool) (qs : List ℕ) (k : ℕ) → list_any (λ x. x == k) (filter test qs) ≡ true → test k ≡ true
passes test [] k has = absurd (cc)
passes test (q ∷ qs) k has = by_test (test q) refl (passes test qs k) has
  where
    by_port : (b : Bool) → (q == k) ≡ b → test q ≡ true → (list_any (λ x. x == k) (filter test qs) ≡ true → test k ≡ true) → (b || list_any (λ x. x == k) (filter test qs)) ≡ true → test k ≡ true
    by_port true at is rest has' = ap test (sym (eqb-true q k at)) ∙ is
    by_port false at is rest has' = rest has'

    by_test : (b : Bool) → test q ≡ b → (list_any (λ x. x == k) (filter test qs) ≡ true → test k ≡ true) → list_any (λ x. x == k) (cond b (q ∷ filter test qs) (filter test qs)) ≡ true → test k ≡ true
    by_test true at rest has' = by_port (q == k) refl at rest has'
    by_test false at rest has' = rest has'

external_by : (t : Shape) (q : ℕ) → list_any (λ x. x == q) (external_ports t) ≡ true → is_external t q ≡ true
unfolding external_ports below
external_by t q has = passes (is_external t) (range_with_len 0 4160) q has

named_as : (names : List Named) (q : ℕ) → is_named names q ≡ list_any (λ x. x == q) (map (λ n. n.port) names)
named_as [] q = refl
named_as (x ∷ xs) q = by_port (x.port == q) (named_as xs q)
  where
    by_port : (b : Bool) → is_named xs q ≡ list_any (λ y. y == q) (map (λ (n : Named). n.port) xs)
        → is_some (if b then Some x.name else name_of xs q) ≡ (b || list_any (λ y. y == q) (map (λ (n : Named). n.port) xs))
    by_port true rest = refl
    by_port false rest = rest

-- ---- the files of a made input
-- the records of a capture by its name
abbrev records_named : Files → Option (List ℕ) → List Record
records_named file o = if is_some o then records_or_none (capture_records (bytes_named file o)) else []

-- its setup, what is read of its captures, and where they are kept
module _ (number : ℕ) (setup : Setup) (cs : List GeneratedCapture) (names : List Named) (file : Files) (is : setup ≡ (made number).setup)
    (read : map read_of cs ≡ map (λ q. (q, Ok ((made number).records q))) (external_ports (tree_of (made number))))
    (size : sum_by (λ c. length c.file.items) cs ≤ 2 ^ 22) (keeps : KeepsFirst cs cs names file) where
  ports : map (λ n. n.port) names ≡ external_ports (tree_of (made number))
  ports = keeps.ports ∙ ports_are (made number).records cs (external_ports (tree_of (made number))) read

  kept : AreKept (made number).records names file
  kept = keeps.kept (made number).records (read_are (made number).records cs (external_ports (tree_of (made number))) read (omega (arith, size)))

  external : (q : ℕ) → is_named names q ≡ true → is_external (tree_of (made number)) q ≡ true
  external q named = external_by (tree_of (made number)) q (sym (ap (list_any (λ x. x == q)) ports) ∙ sym (named_as names q) ∙ named)

  good_by : (o : Option (List ℕ)) (q : ℕ) → ((name : List ℕ) → o ≡ Some name → IsKept (made number).records q name (file name)) → IsGoodNamed o file
  good_by None q kept' = tt
  good_by (Some name) q kept' =
      let own = kept' name refl in
      let told = scanned_of own.bytes ((made number).records q) in
      let good : IsGood (Some own.bytes) told = record { small = own.small; records = (made number).records q; read = own.read; tells = refl } in
      (told, subst (λ (o : Option (List ℕ)). IsGood o told) (sym own.there) good)

  pub all_good : AreAllGood names file
  all_good q low = good_by (name_of names q) q (kept q)

  module _ (valid : IsValid setup) (alone : ArrivesAtExternals) where
    has_name : (q : ℕ) → is_external (tree_of (made number)) q ≡ true → is_named names q ≡ true
    has_name q ext =
        named_as names q ∙ ap (list_any (λ x. x == q)) ports ∙ external_there (tree_of (made number)) q (subst (λ (s : Setup). IsTree (shape_of s)) is valid.tree) ext

    same_by : (o : Option (List ℕ)) (q : ℕ) → name_of names q ≡ o → records_named file o ≡ (made number).records q
    same_by None q none =
        sym (alone number q (false_from_ne_true (is_external (tree_of (made number)) q) (λ ext. false≢true (sym (ap is_some none) ∙ has_name q ext))))
    same_by (Some name) q named =
        let own = kept q name named in
        ap (λ (o : Option (List ℕ)). records_or_none (capture_records (bytes_of o))) own.there ∙ ap records_or_none own.read

    pub input_same : (commands : List Timed) → map given_by commands ≡ (made number).commands → input_from setup commands names file ≡ made number
    input_same commands given =
        ap (λ (s : Setup). record { setup = s; commands = map given_by commands; records = records_at names file }) is
        ∙ ap (λ (gs : List Given). record { setup = (made number).setup; commands = gs; records = records_at names file }) given
        ∙ ap (λ (rs : ℕ → List Record). record { setup = (made number).setup; commands = (made number).commands; records = rs }) (fun_ext (λ q. same_by (name_of names q) q refl))

  -- no file that is written has the name of a capture
  first_byte : (o : OutputKind) → get_or (file_name (codes "out/") o) 0 0 ≡ 111
  first_byte o = ap (λ (bs : List ℕ). get_or bs 0 0) (name_begins (codes "out/") o).1

  apart_from : (manifest : Listed) (q : ℕ) (name : List ℕ) → manifest.prefix ≡ codes "out/" → name ≡ name_made q → (j : ℕ) → name ≢ output_name manifest j
  apart_from manifest q name prefix own j e =
      let same : name_made q ≡ file_name (codes "out/") (kind_at manifest j) = sym own ∙ e ∙ ap (λ (p : List ℕ). file_name p (kind_at manifest j)) prefix in
      let byte : 105 ≡ 111 = ap (λ (bs : List ℕ). get_or bs 0 0) same ∙ first_byte (kind_at manifest j) in
      omega (arith, byte)

  pub made_captures : (manifest : Listed) (captures : List CheckedCapture) → manifest.tree ≡ shape_of setup → manifest.prefix ≡ codes "out/" → AreChecked ⊤ names file captures → CanBeRead ⊤ manifest names file captures
  made_captures manifest captures tree prefix checked = record {
    checked = checked;
    external = λ q named. ap (λ (s : Shape). is_external s q) (tree ∙ ap shape_of is) ∙ external q named;
    apart = λ q name named j low. apart_from manifest q name prefix (kept q name named).own j;
  }

-- ---- how the run of what was made ends
-- its line is the summary of the eager run
pub eager_says : (o : Outcome) (i j : Input) (manifest : Listed) (old new : Files) → i ≡ j → IfOk o (λ line. HasPlayed Eager i manifest old new (string_bytes line))
    → IfOk o (λ line. string_bytes line ≡ eager_summary j)
eager_says (Ok line) i j manifest old new is played =
    played.says ∙ ap (λ (h : History). summary (tree_of i) (basis_of i) h) (played.eager refl) ∙ ap eager_summary is
eager_says (Err x) i j manifest old new is played = tt

-- a shelf that never fails counts no failure
module _ {X : Type 0} (x : Fault) (m n : ℕ) (counts : CountsFaults {X = X} (Err x) (record { missing = m; reads = 0; writes = 0 }) (record { missing = n; reads = 0; writes = 0 })) where
  no_read : x ≡ Read → ⊥
  no_read is = let low = counts.read (ap (λ (y : Fault). Err y) is) (omega arith) in omega (arith, low)

  no_write : x ≡ Write → ⊥
  no_write is = let low = counts.write (ap (λ (y : Fault). Err y) is) (omega arith) in omega (arith, low)

-- its captures have no fault
pub checked_alone : {X : Type 0} (x : Fault) (m n : ℕ) (names : List Named) (file : Files) → AreAllGood names file → ((p : ℕ) × FirstFault names file p x) ⊎ (x ≡ Read) ⊎ (x ≡ Memory)
    → CountsFaults {X = X} (Err x) (record { missing = m; reads = 0; writes = 0 }) (record { missing = n; reads = 0; writes = 0 }) → x ≡ Memory
checked_alone x m n names file good (inl (p, first)) counts = absurd (first_none names file p x good first)
checked_alone x m n names file good (inr (inl read)) counts = absurd (no_read x m n counts read)
checked_alone x m n names file good (inr (inr memory)) counts = memory

-- and no other fault comes while they are played
pub memory_alone : (o : Outcome) (m n : ℕ) → IfErr o IsOfPlay → IfErr o (λ x. IsChange x → ⊥)
    → CountsFaults o (record { missing = m; reads = 0; writes = 0 }) (record { missing = n; reads = 0; writes = 0 }) → IfErr o (λ x. x ≡ Memory)
memory_alone (Ok line) m n causes never counts = tt
memory_alone (Err Usage) m n causes never counts = absurd causes
memory_alone (Err (Missing name)) m n causes never counts = absurd causes
memory_alone (Err (BadTopology fault)) m n causes never counts = absurd causes
memory_alone (Err (Faulty p flaw)) m n causes never counts = absurd causes
memory_alone (Err (Changed p at)) m n causes never counts = absurd (never tt)
memory_alone (Err (BadNet fault)) m n causes never counts = absurd causes
memory_alone (Err (BadMember name fault)) m n causes never counts = absurd causes
memory_alone (Err (MemberCapture name p flaw)) m n causes never counts = absurd causes
memory_alone (Err (MemberChanged name p at)) m n causes never counts = absurd causes
memory_alone (Err (Unread p broke)) m n causes never counts = absurd causes
memory_alone (Err (TooLarge what)) m n causes never counts = absurd causes
memory_alone (Err (BadLine what k)) m n causes never counts = absurd causes
memory_alone (Err (Illegal r)) m n causes never counts = absurd causes
memory_alone (Err Read) m n causes never counts = absurd (no_read Read m n counts refl)
memory_alone (Err Write) m n causes never counts = absurd (no_write Write m n counts refl)
memory_alone (Err Memory) m n causes never counts = refl

-- Captures that are opened again, one after another.
use Rattle.std.proofs.Common.{◌≡◌, ◌≢◌, ℕ, zero, suc, ◌+◌, ◌<◌, ◌≤◌, Bool, true, false, List, [], ◌∷◌, ◌++◌, length, map, filter, get_or, sum_by, take, refl, ap, sym, subst, ◌∙◌, arith, inl, inr}
use mathlib.Core.Path.{fun_ext}
use Rattle.std.specs.Prelude.{Some, IfSome}
use Rattle.std.specs.List.{AllByRecursion}
use Rattle.std.proofs.lemmas.List.{map-append, take_more}
use Rattle.std.proofs.lemmas.List.Sums.{sum_by_push}
use Rattle.exb_model.specs.Input.{second_of}
use Rattle.exb_model.specs.Ports.{all_ports}
use Rattle.exb_timeline.specs.declared.capture_merge.CaptureSource.{CaptureSource}
use Rattle.exb_timeline.specs.declared.capture_merge.CaptureMerge.{CaptureMerge}
use Rattle.exb_timeline.specs.CaptureMerges.{AreToldSince, HasPort, IsOpened, ReadsOn}
use Rattle.exb_shelf.specs.Files.{Files, SameFiles}
use Rattle.exb_shelf.specs.Shelf.{Id, IsReadingOf, Opens}
use Rattle.exb_topology_tables.specs.declared.elements.Named.{Named}
use Rattle.exb_inputs.specs.declared.captures.CheckedCapture.{CheckedCapture}
use Rattle.exb_inputs.specs.CaptureChecks.{IsToldOf}
use Rattle.exb_inputs.specs.ReplayStart.{first_standing, stream_told}
use Rattle.exb_inputs.specs.Inputs.{is_named, name_of}
use Rattle.exb_inputs.specs.ShelfEffects.{ReadsCapture}
use Rattle.exb_inputs.proofs.FirstRecords.{Apart, apart-ports, passing}

-- ---- ids
all-append : {X : Type 0} (P : X → Type 0) (xs ys : List X) → AllByRecursion P xs → AllByRecursion P ys → AllByRecursion P (xs ++ ys)
all-append P [] ys one two = two
all-append P (x ∷ xs) ys one two = (one.0, all-append P xs ys one.1 two)

last-of : {X : Type 0} (P : X → Type 0) (xs : List X) (x : X) → AllByRecursion P (xs ++ x ∷ []) → P x
last-of P [] x all = all.0
last-of P (y ∷ xs) x all = last-of P xs x all.1

ids-given : (ids : ℕ → Id) (ss : List CaptureSource) → AllByRecursion (IsOpened ids) ss → AllByRecursion (λ k. (ids k).given ≡ true) (map (λ (s : CaptureSource). s.replay.file.id) ss)
ids-given ids [] all = tt
ids-given ids (s ∷ ss) all = (all.0.at.given, ids-given ids ss all.1)

named-kept : (names : List Named) (P : Id → Type 0) (given ids : ℕ → Id) (mine : List ℕ) → Opens P given ids → AllByRecursion (λ k. ReadsCapture names (given k)) mine → AllByRecursion (λ k. ReadsCapture names (ids k)) mine
named-kept names P given ids [] opens all = tt
named-kept names P given ids (k ∷ mine) opens all = (subst (ReadsCapture names) (sym (opens.kept k all.0.reads.given)) all.0, named-kept names P given ids mine opens all.1)

pub named-more : (names : List Named) (name : List ℕ) (q : ℕ) (given ids : ℕ → Id) (mine : List ℕ) (id : ℕ) (ss : List CaptureSource) → name_of names q ≡ Some name → Opens (IsReadingOf name) given ids →
    map (λ (s : CaptureSource). s.replay.file.id) ss ≡ mine ++ id ∷ [] → (given id).given ≡ false → AllByRecursion (IsOpened ids) ss → AllByRecursion (λ k. ReadsCapture names (given k)) mine →
    AllByRecursion (λ k. ReadsCapture names (ids k)) (map (λ (s : CaptureSource). s.replay.file.id) ss)
named-more names name q given ids mine id ss named opens are new opened all =
    let is : (ids id).given ≡ true = last-of (λ k. (ids k).given ≡ true) mine id (subst (AllByRecursion (λ k. (ids k).given ≡ true)) are (ids-given ids ss opened)) in
    let own : ReadsCapture names (ids id) = record { port = q; name = name; named = named; reads = opens.fresh id new is } in
    subst (AllByRecursion (λ k. ReadsCapture names (ids k))) (sym are) (all-append (λ k. ReadsCapture names (ids k)) mine (id ∷ []) (named-kept names (IsReadingOf name) given ids mine opens all) (own, tt))

-- ---- ports
abbrev ports_in : List CheckedCapture → List ℕ
ports_in cs = map (λ c. c.port) cs

port-before : (cs : List CheckedCapture) (at : ℕ) (c : CheckedCapture) → at < length cs → c ≡ get_or cs at c → Apart (ports_in cs) → HasPort c.port (map first_standing (take at cs)) → ⊥
port-before [] at c low is apart has = absurd (omega (arith, low))
port-before (x ∷ cs) zero c low is apart has = absurd has
port-before (x ∷ cs) (suc at) c low is apart (inl same) =
    let later : x.port < c.port = below-got (x ∷ cs) x cs at c apart (omega (arith, low)) is in
    omega (arith, same, later)
  where
    at-all : (n : ℕ) (ds : List CheckedCapture) (k : ℕ) → k < length ds → AllByRecursion (λ q. n < q) (ports_in ds) → n < (get_or ds k c).port
    at-all n [] k l all = absurd (omega (arith, l))
    at-all n (d ∷ ds) zero l all = all.0
    at-all n (d ∷ ds) (suc k) l all = at-all n ds k (omega (arith, l)) all.1

    below-got : (all : List CheckedCapture) (y : CheckedCapture) (ds : List CheckedCapture) (k : ℕ) (d : CheckedCapture) → Apart (ports_in (y ∷ ds)) → k < length ds → c ≡ get_or (y ∷ ds) (suc k) c → y.port < c.port
    below-got all y ds k d a l e = subst (λ (z : CheckedCapture). y.port < z.port) (sym e) (at-all y.port ds k l a.0)
port-before (x ∷ cs) (suc at) c low is apart (inr later) = port-before cs at c (omega (arith, low)) is apart.1 later

pub port-new : (names : List Named) (cs : List CheckedCapture) (at : ℕ) (c : CheckedCapture) → at < length cs → c ≡ get_or cs at c → ports_in cs ≡ filter (is_named names) all_ports → HasPort c.port (map first_standing (take at cs)) → ⊥
port-new names cs at c low is ports = port-before cs at c low is (subst Apart (sym ports) (apart-ports (is_named names)))

all-got : {X : Type 0} (P : X → Type 0) (xs : List X) (k : ℕ) (d : X) → k < length xs → AllByRecursion P xs → P (get_or xs k d)
all-got P [] k d low all = absurd (omega (arith, low))
all-got P (x ∷ xs) zero d low all = all.0
all-got P (x ∷ xs) (suc k) d low all = all-got P xs k d (omega (arith, low)) all.1

ports-named : (test : ℕ → Bool) (cs : List CheckedCapture) → AllByRecursion (λ q. test q ≡ true) (ports_in cs) → AllByRecursion (λ (c : CheckedCapture). test c.port ≡ true) cs
ports-named test [] all = tt
ports-named test (c ∷ cs) all = (all.0, ports-named test cs all.1)

pub port-named : (names : List Named) (cs : List CheckedCapture) (at : ℕ) (c : CheckedCapture) → at < length cs → c ≡ get_or cs at c → ports_in cs ≡ filter (is_named names) all_ports → is_named names c.port ≡ true
port-named names cs at c low is ports =
    subst (λ (d : CheckedCapture). is_named names d.port ≡ true) (sym is)
    (all-got (λ (d : CheckedCapture). is_named names d.port ≡ true) cs at c low
    (ports-named (is_named names) cs (subst (AllByRecursion (λ q. is_named names q ≡ true)) (sym ports) (passing (is_named names) all_ports))))

-- ---- one more
pub standings-more : (cs : List CheckedCapture) (at : ℕ) (c : CheckedCapture) → at < length cs → c ≡ get_or cs at c → map first_standing (take at cs) ++ first_standing c ∷ [] ≡ map first_standing (take (at + 1) cs)
standings-more cs at c low is =
    sym (map-append first_standing (take at cs) (c ∷ [])) ∙ ap (λ (x : CheckedCapture). map first_standing (take at cs ++ x ∷ [])) is ∙ ap (map first_standing) (sym (take_more cs at c low))

pub streams-more : (names : List Named) (file : Files) (cs : List CheckedCapture) (at : ℕ) (c : CheckedCapture) → at < length cs → c ≡ get_or cs at c →
    map (stream_told names file) (take at cs) ++ stream_told names file c ∷ [] ≡ map (stream_told names file) (take (at + 1) cs)
streams-more names file cs at c low is =
    sym (map-append (stream_told names file) (take at cs) (c ∷ [])) ∙ ap (λ (x : CheckedCapture). map (stream_told names file) (take at cs ++ x ∷ [])) is
    ∙ ap (map (stream_told names file)) (sym (take_more cs at c low))

pub bytes-more : (cs : List CheckedCapture) (at : ℕ) (c : CheckedCapture) → at < length cs → c ≡ get_or cs at c →
    sum_by (λ x. x.told.bytes + 1) (take (at + 1) cs) ≡ sum_by (λ x. x.told.bytes + 1) (take at cs) + (c.told.bytes + 1)
bytes-more cs at c low is =
    ap (λ (xs : List CheckedCapture). sum_by (λ x. x.told.bytes + 1) xs) (take_more cs at c low) ∙ ap (λ (x : CheckedCapture). sum_by (λ y. y.told.bytes + 1) (take at cs ++ x ∷ [])) (sym is)
    ∙ sum_by_push (λ x. x.told.bytes + 1) (take at cs) c

-- ids that weren't given before are new
pub fresh-more : (before given : ℕ → Id) (mine all : List ℕ) (id : ℕ) → all ≡ mine ++ id ∷ [] → ((j : ℕ) → (before j).given ≡ true → (given j).given ≡ true) → (given id).given ≡ false →
    AllByRecursion (λ k. (before k).given ≡ false) mine → AllByRecursion (λ k. (before k).given ≡ false) all
fresh-more before given mine all id are so new fresh =
    subst (AllByRecursion (λ k. (before k).given ≡ false)) (sym are) (all-append (λ k. (before k).given ≡ false) mine (id ∷ []) fresh (by_given (before id).given refl, tt))
  where
    by_given : (b : Bool) → (before id).given ≡ b → (before id).given ≡ false
    by_given false is = is
    by_given true is = absurd (let both : true ≡ false = sym (so id is) ∙ new in cc)

pub opened-so : (P : Id → Type 0) (given ids : ℕ → Id) → Opens P given ids → (j : ℕ) → (given j).given ≡ true → (ids j).given ≡ true
opened-so P given ids opens j is = ap (λ (i : Id). i.given) (opens.kept j is) ∙ is

-- what was told stands where no file has changed
pub stream-told-same : (names : List Named) (file files : Files) (c : CheckedCapture) → SameFiles file files → IsToldOf names file c → IsToldOf names files c
stream-told-same names file files c same told = subst (λ (f : Files). IsToldOf names f c) (fun_ext λ n. sym (same n)) told

-- ---- all that a run opens
none-of : (given : ℕ → Id) (j : ℕ) (mine : List ℕ) → (given j).given ≡ false → AllByRecursion (λ k. (given k).given ≡ true) mine → AllByRecursion (λ k. j ≢ k) mine
none-of given j [] is all = tt
none-of given j (k ∷ mine) is all = (λ e. (let both : true ≡ false = sym all.0 ∙ ap (λ (n : ℕ). (given n).given) (sym e) ∙ is in cc), none-of given j mine is all.1)

none-new : (given : ℕ → Id) (j : ℕ) (mine : List ℕ) → (given j).given ≡ true → AllByRecursion (λ k. (given k).given ≡ false) mine → AllByRecursion (λ k. j ≢ k) mine
none-new given j [] is all = tt
none-new given j (k ∷ mine) is all = (λ e. (let both : true ≡ false = sym is ∙ ap (λ (n : ℕ). (given n).given) e ∙ all.0 in cc), none-new given j mine is all.1)

reads-given : (names : List Named) (ids : ℕ → Id) (mine : List ℕ) → AllByRecursion (λ k. ReadsCapture names (ids k)) mine → AllByRecursion (λ k. (ids k).given ≡ true) mine
reads-given names ids [] all = tt
reads-given names ids (k ∷ mine) all = (all.0.reads.given, reads-given names ids mine all.1)

pub plays-opened : (names : List Named) (a b c : ℕ → Id) (mine : List ℕ) → Opens (ReadsCapture names) a b → AllByRecursion (λ k. (a k).given ≡ false) mine →
    AllByRecursion (λ k. ReadsCapture names (b k)) mine → ReadsOn mine b c → Opens (ReadsCapture names) a c
plays-opened names a b c mine opens fresh named reads = record {
  fresh = λ j was now. by_given j was now (b j).given refl;
  rises = λ i j given was now. opens.rises i j given was (stays j now (b j).given refl);
  kept = λ j given. reads.others j (none-new a j mine given fresh) ∙ opens.kept j given;
}
  where
    stays : (j : ℕ) → (c j).given ≡ true → (g : Bool) → (b j).given ≡ g → (b j).given ≡ true
    stays j now true is = is
    stays j now false is =
        let same : c j ≡ b j = reads.others j (none-of b j mine is (reads-given names b mine named)) in
        absurd (let both : true ≡ false = sym now ∙ ap (λ (i : Id). i.given) same ∙ is in cc)

    by_given : (j : ℕ) → (a j).given ≡ false → (c j).given ≡ true → (g : Bool) → (b j).given ≡ g → ReadsCapture names (c j)
    by_given j was now g is =
        let own : ReadsCapture names (b j) = opens.fresh j was (stays j now g is) in
        record { port = own.port; name = own.name; named = own.named; reads = reads.same j own.name own.reads }

-- of no capture
pub since-none : (second : ℕ) (r : CaptureMerge) → r.sources.items ≡ [] → AreToldSince second r
since-none second r none = subst (λ (ss : List CaptureSource). AllByRecursion (λ (s : CaptureSource). IfSome s.replay.told.first (λ first. second ≤ second_of first)) ss) (sym none) tt

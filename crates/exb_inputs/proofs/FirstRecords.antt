-- Captures that were checked, at their first records: the start, the streams that they give, and how much is to be read.
use Rattle.std.proofs.Common.{◌≡◌, ℕ, zero, suc, ◌+◌, ◌<◌, ◌≤◌, ◌==◌, Bool, true, false, cond, List, [], ◌∷◌, ◌++◌, length, sum_by, filter, All, get_or, refl, ap, sym, ◌∙◌, arith, inl, inr, ◌*◌, ◌^◌, map, max, min, subst, append_assoc}
use Rattle.std.specs.List.{range_with_len, AllByRecursion}
use Rattle.std.specs.Prelude.{Option, Some, None, IfSome, if◌then◌else◌, filter_map, option_map, unwrap_or, AllPairs, Ok, is_some}
use Rattle.std.proofs.lemmas.List.{append-nil, length-map}
use Rattle.std.proofs.lemmas.List.Sums.{sum_by-cons}
use Rattle.exb_model.specs.declared.setup.Setup.{Setup}
use Rattle.exb_model.specs.declared.setup.Timed.{Timed}
use Rattle.exb_model.specs.Input.{Input, Given, Record, Coming, arrivals_from, given_by, least_or, merge, second_of}
use Rattle.exb_model.specs.Ports.{all_ports, below}
use Rattle.exb_timeline.specs.MergeOrder.{begun, first_second, still_to_come}
use Rattle.exb_timeline.specs.declared.bridge_timeline.Timeline.{Timeline}
use Rattle.exb_timeline.specs.Timelines.{played_with}
use Rattle.exb_timeline.specs.CaptureMerges.{HasPort, number_of}
use Rattle.exb_timeline.specs.Streams.{Stream, arrivals_of, next_moment, stream_at, stream_of, to_come}
use Rattle.exb_capture.specs.Captures.{capture_records, records_or_none}
use Rattle.exb_capture.specs.declared.scans.Scanned.{Scanned}
use Rattle.exb_capture.specs.Scans.{first_time, scanned_of}
use Rattle.exb_shelf.specs.Files.{Files, bytes_of}
use Rattle.exb_topology_tables.specs.declared.elements.Named.{Named}
use Rattle.exb_inputs.specs.declared.captures.CheckedCapture.{CheckedCapture}
use Rattle.exb_inputs.specs.ReplayStart.{AreSince, earlier, earliest_told, first_standing, seconds_told, start_told, stream_told}
use Rattle.exb_inputs.specs.CaptureChecks.{IsGood, IsToldOf, most_bytes}
use Rattle.exb_inputs.specs.Inputs.{bytes_at, bytes_named, input_from, is_named, name_of, records_at}

pub passing : (test : ℕ → Bool) (qs : List ℕ) → AllByRecursion (λ q. test q ≡ true) (filter test qs)
passing test [] = tt
passing test (q ∷ qs) = by_test (passing test qs) (test q) refl
  where
    by_test : AllByRecursion (λ p. test p ≡ true) (filter test qs) → (b : Bool) → test q ≡ b → AllByRecursion (λ p. test p ≡ true) (cond (test q) (q ∷ filter test qs) (filter test qs))
    by_test rest true e = rw e ((e, rest))
    by_test rest false e = rw e rest

-- ---- ports in order
abbrev pub Apart : List ℕ → Type 0
Apart [] = Unit {0}
Apart (p ∷ ps) = AllByRecursion (λ q. p < q) ps × Apart ps

above-range : (test : ℕ → Bool) (p a n : ℕ) → p < a → AllByRecursion (λ q. p < q) (filter test (range_with_len a n))
above-range test p a zero low = tt
above-range test p a (suc n) low = by_test (test a) (above-range test p (a + 1) n (omega (arith, low)))
  where
    by_test : (b : Bool) → AllByRecursion (λ q. p < q) (filter test (range_with_len (a + 1) n)) →
        AllByRecursion (λ q. p < q) (cond b (a ∷ filter test (range_with_len (a + 1) n)) (filter test (range_with_len (a + 1) n)))
    by_test true rest = (low, rest)
    by_test false rest = rest

apart-range : (test : ℕ → Bool) (a n : ℕ) → Apart (filter test (range_with_len a n))
apart-range test a zero = tt
apart-range test a (suc n) = by_test (test a) (apart-range test (a + 1) n)
  where
    by_test : (b : Bool) → Apart (filter test (range_with_len (a + 1) n)) → Apart (cond b (a ∷ filter test (range_with_len (a + 1) n)) (filter test (range_with_len (a + 1) n)))
    by_test true rest = (above-range test a (a + 1) n (omega arith), rest)
    by_test false rest = rest

pub apart-ports : (test : ℕ → Bool) → Apart (filter test all_ports)
unfolding below
apart-ports test = apart-range test 0 4160

few-range : (test : ℕ → Bool) (a n : ℕ) → length (filter test (range_with_len a n)) ≤ n
few-range test a zero = omega arith
few-range test a (suc n) = by_test (test a) (few-range test (a + 1) n)
  where
    by_test : (b : Bool) → length (filter test (range_with_len (a + 1) n)) ≤ n → length (cond b (a ∷ filter test (range_with_len (a + 1) n)) (filter test (range_with_len (a + 1) n))) ≤ suc n
    by_test true rest = omega (arith, rest)
    by_test false rest = omega (arith, rest)

few-ports : (test : ℕ → Bool) → length (filter test all_ports) ≤ 4160
unfolding below
few-ports test = few-range test 0 4160

-- ---- the captures at their first records
abbrev pub ports_in : List CheckedCapture → List ℕ
ports_in cs = map (λ c. c.port) cs

pub told-streams : (i : Input) (names : List Named) (file : Files) (cs : List CheckedCapture) → i.records ≡ records_at names file → map (stream_told names file) cs ≡ map (stream_at i) (ports_in cs)
told-streams i names file [] same = refl
told-streams i names file (c ∷ cs) same =
    ap (λ (ss : List Stream). stream_told names file c ∷ ss) (told-streams i names file cs same)
    ∙ ap (λ (r : ℕ → List Record). stream_of c.port (r c.port) ∷ map (stream_at i) (ports_in cs)) (sym same)

pub none-elsewhere : (names : List Named) (file : Files) (q : ℕ) → is_named names q ≡ false → records_at names file q ≡ []
none-elsewhere names file q isnt = ap (λ (b : Bool). if b then records_or_none (capture_records (bytes_at names file q)) else []) isnt

-- ---- what was told of one capture
pub record IsTold (names : List Named) (file : Files) (c : CheckedCapture) : Type 0 where
  pub bytes : List ℕ
  pub records : List Record
  pub told : c.told ≡ scanned_of bytes records
  pub are : records_at names file c.port ≡ records

told-by : (names : List Named) (file : Files) (c : CheckedCapture) → IsToldOf names file c → IsTold names file c
told-by names file c (name, named, good) = by_file (file name) refl good
  where
    at-file : (bytes : List ℕ) (records : List Record) → file name ≡ Some bytes → capture_records bytes ≡ Ok records → records_at names file c.port ≡ records
    at-file bytes records at read =
        ap (λ (o : Option (List ℕ)). if is_some o then records_or_none (capture_records (bytes_named file o)) else []) named
        ∙ ap (λ (o : Option (List ℕ)). records_or_none (capture_records (bytes_of o))) at ∙ ap records_or_none read

    by_file : (o : Option (List ℕ)) → file name ≡ o → IsGood o c.told → IsTold names file c
    by_file None at (inl isnt) = absurd (cc)
    by_file None at (inr (inl isnt)) = absurd (cc)
    by_file None at (inr (inr isnt)) = absurd (cc)
    by_file (Some bytes) at is = record { bytes = bytes; records = is.records; told = is.tells; are = at-file bytes is.records at is.read }

pub all-told : (names : List Named) (file : Files) (cs : List CheckedCapture) → All (IsToldOf names file) cs → AllByRecursion (IsTold names file) cs
all-told names file [] all = tt
all-told names file (c ∷ cs) all = (told-by names file c (all 0 c (omega arith)), all-told names file cs (λ k d low. all (suc k) d (omega (arith, low))))

-- ---- the start
-- the first moment of its stream is the time that was told
first-moment : (names : List Named) (file : Files) (c : CheckedCapture) → IsTold names file c → next_moment (arrivals_of (stream_told names file c)) ≡ c.told.first
first-moment names file c t =
    ap (λ (rs : List Record). next_moment (arrivals_from c.port 1 0 rs)) t.are ∙ by_records t.records ∙ sym (ap (λ (s : Scanned). s.first) t.told)
  where
    none-before : (n : ℕ) → max 0 n ≡ n
    none-before n = omega arith

    by_records : (rs : List Record) → next_moment (arrivals_from c.port 1 0 rs) ≡ first_time rs
    by_records [] = refl
    by_records (r ∷ rs) = ap Some (none-before r.time)

abbrev second_first : Stream → Option ℕ
second_first s = option_map second_of (next_moment (arrivals_of s))

abbrev second_told : CheckedCapture → Option ℕ
second_told c = option_map second_of c.told.first

-- one more in front, if there is one
abbrev more : Option ℕ → List ℕ → List ℕ
more None xs = xs
more (Some x) xs = x ∷ xs

filter_first : {X Y : Type 0} (f : X → Option ℕ) (g : Y → Option ℕ) (h : Y → X) (ys : List Y) → AllByRecursion (λ y. f (h y) ≡ g y) ys → filter_map f (map h ys) ≡ filter_map g ys
filter_first f g h [] all = refl
filter_first f g h (y ∷ ys) all = by_first (f (h y)) (g y) all.0 (filter_first f g h ys all.1)
  where
    by_first : (a b : Option ℕ) → a ≡ b → filter_map f (map h ys) ≡ filter_map g ys → more a (filter_map f (map h ys)) ≡ more b (filter_map g ys)
    by_first a b same rest = ap (λ (o : Option ℕ). more o (filter_map f (map h ys))) same ∙ ap (more b) rest

pub firsts-are : (names : List Named) (file : Files) (cs : List CheckedCapture) → AllByRecursion (IsTold names file) cs → filter_map second_first (map (stream_told names file) cs) ≡ seconds_told cs
firsts-are names file cs all = filter_first second_first second_told (stream_told names file) cs (all-first cs all)
  where
    all-first : (ds : List CheckedCapture) → AllByRecursion (IsTold names file) ds → AllByRecursion (λ d. second_first (stream_told names file d) ≡ second_told d) ds
    all-first [] told = tt
    all-first (d ∷ ds) told = (ap (option_map second_of) (first-moment names file d told.0), all-first ds told.1)

abbrev pub StartIsLeast : Type 0
StartIsLeast = (streams : List Stream) → first_second (to_come streams) ≡ least_or 0 (filter_map (λ s. option_map second_of (next_moment (arrivals_of s))) streams)

-- what was told of the start is the start of the streams
start-is : (names : List Named) (file : Files) (cs : List CheckedCapture) → StartIsLeast → AllByRecursion (IsTold names file) cs → first_second (to_come (map (stream_told names file) cs)) ≡ start_told cs
start-is names file cs law all = law (map (stream_told names file) cs) ∙ ap (least_or 0) (firsts-are names file cs all)

-- ---- where the captures stand
pub numbers-one : (cs : List CheckedCapture) (q : ℕ) → number_of (map first_standing cs) q ≡ 1
numbers-one [] q = refl
numbers-one (c ∷ cs) q = by_port (c.port == q) (numbers-one cs q)
  where
    by_port : (b : Bool) → number_of (map first_standing cs) q ≡ 1 → (if b then 1 else number_of (map first_standing cs) q) ≡ 1
    by_port true rest = refl
    by_port false rest = rest

pub has-named : (P : ℕ → Type 0) (cs : List CheckedCapture) (q : ℕ) → AllByRecursion P (ports_in cs) → HasPort q (map first_standing cs) → P q
has-named P [] q all has = absurd has
has-named P (c ∷ cs) q all (inl same) = subst P same all.0
has-named P (c ∷ cs) q all (inr later) = has-named P cs q all.1 later

-- ---- how much is to be read
few-bytes : (cs : List CheckedCapture) → All (λ c. c.told.bytes ≤ most_bytes) cs → sum_by (λ c. c.told.bytes + 1) cs ≤ (most_bytes + 1) * length cs
few-bytes [] all = omega arith
few-bytes (c ∷ cs) all =
    let own = all 0 c (omega arith) in
    let rest = few-bytes cs (λ k d low. all (suc k) d (omega (arith, low))) in
    let whole = sum_by-cons (λ (x : CheckedCapture). x.told.bytes + 1) c cs in
    omega (arith, own, rest, whole)

pub low-bytes : (names : List Named) (cs : List CheckedCapture) → All (λ c. c.told.bytes ≤ most_bytes) cs → ports_in cs ≡ filter (is_named names) all_ports → sum_by (λ c. c.told.bytes + 1) cs ≤ 2 ^ 53
low-bytes names cs all ports =
    let most = few-bytes cs all in
    let few = few-ports (is_named names) in
    let size = ap (λ (ps : List ℕ). length ps) ports in
    let same = length-map cs (λ (c : CheckedCapture). c.port) in
    omega (arith, most, few, size, same)

-- ---- commands
at-map : (cs : List Timed) (k : ℕ) (d : Given) (c : Timed) → k < length cs → (get_or (map given_by cs) k d).at ≡ (get_or cs k c).at
at-map [] k d c low = absurd (omega (arith, low))
at-map (x ∷ cs) zero d c low = refl
at-map (x ∷ cs) (suc k) d c low = at-map cs k d c (omega (arith, low))

pub rising-given : (cs : List Timed) → AllPairs (λ c d. c.at ≤ d.at) cs → AllPairs (λ (c d : Given). c.at ≤ d.at) (map given_by cs)
rising-given [] rising i j d low within = absurd (omega (arith, within))
rising-given (c ∷ cs) rising i j d low within =
    let size = length-map (c ∷ cs) given_by in
    let one = at-map (c ∷ cs) i d c (omega (arith, low, within, size)) in
    let other = at-map (c ∷ cs) j d c (omega (arith, within, size)) in
    let own = rising i j c low (omega (arith, within, size)) in
    omega (arith, one, other, own)

-- ---- the whole
abbrev pub MergeOfAll : Type 0
MergeOfAll =
    (i : Input) (chosen : ℕ → Bool) (commands : List Timed) → i.commands ≡ map given_by commands → ((q : ℕ) → chosen q ≡ false → i.records q ≡ []) →
    still_to_come (begun (to_come (map (stream_at i) (filter chosen all_ports))) commands) ≡ merge i

-- the captures that were checked, at their first records, give all that comes
pub merged : (setup : Setup) (commands : List Timed) (names : List Named) (file : Files) (cs : List CheckedCapture) (p : Timeline) → MergeOfAll → StartIsLeast → AllByRecursion (IsTold names file) cs →
    ports_in cs ≡ filter (is_named names) all_ports → p.start ≡ start_told cs → p.commands.now ≡ commands → p.taken ≡ 0 →
    still_to_come (played_with (map (stream_told names file) cs) p) ≡ merge (input_from setup commands names file)
merged setup commands names file cs p law least told ports start same none =
    let i : Input = input_from setup commands names file in
    let streams : List Stream = map (stream_told names file) cs in
    let Of : ℕ → List Timed → ℕ → List Coming = λ s cs' k. still_to_come (record { start = s; commands = cs'; taken = k; records = to_come streams }) in
    ap (λ s. Of s p.commands.now p.taken) (start ∙ sym (start-is names file cs least told))
    ∙ ap (λ cs'. Of (first_second (to_come streams)) cs' p.taken) same ∙ ap (Of (first_second (to_come streams)) commands) none
    ∙ ap (λ (ss : List Stream). still_to_come (begun (to_come ss) commands)) (told-streams i names file cs refl ∙ ap (map (stream_at i)) ports)
    ∙ law i (is_named names) commands refl (λ q isnt. none-elsewhere names file q isnt)

-- ---- the least second that was told
least-more : (d n : ℕ) (ns : List ℕ) (x : ℕ) → least_or d (n ∷ (ns ++ x ∷ [])) ≡ min (least_or d (n ∷ ns)) x
least-more d n [] x = omega arith
least-more d n (k ∷ ns) x = let rest = least-more n k ns x in omega (arith, rest)

-- the least of what was told so far, if anything was
abbrev pub IsLeastOf : List ℕ → Option ℕ → Type 0
IsLeastOf [] o = o ≡ None
IsLeastOf (n ∷ ns) o = o ≡ Some (least_or 0 (n ∷ ns))

abbrev pub listed : Option ℕ → List ℕ
listed None = []
listed (Some x) = x ∷ []

least-next : (xs : List ℕ) (o told : Option ℕ) → IsLeastOf xs o → IsLeastOf (xs ++ listed (option_map second_of told)) (earlier o told)
least-next [] o None is = ap (λ (b : Option ℕ). earlier b None) is
least-next [] o (Some first) is = ap (λ (b : Option ℕ). earlier b (Some first)) is ∙ ap Some (itself (second_of first))
  where
    itself : (n : ℕ) → n ≡ min n n
    itself n = omega arith
least-next (n ∷ ns) o None is = subst (λ (xs : List ℕ). IsLeastOf xs (earlier o None)) (sym (append-nil (n ∷ ns))) (ap (λ (b : Option ℕ). earlier b None) is)
least-next (n ∷ ns) o (Some first) is = ap (λ (b : Option ℕ). earlier b (Some first)) is ∙ ap Some (sym (least-more 0 n ns (second_of first)))

listed-more : (xs : List ℕ) (o : Option ℕ) (ys : List ℕ) → (xs ++ listed o) ++ ys ≡ xs ++ more o ys
listed-more xs None ys = ap (λ (zs : List ℕ). zs ++ ys) (append-nil xs)
listed-more xs (Some x) ys = append_assoc xs (x ∷ []) ys

-- with those of some captures more
pub earliest-least : (xs : List ℕ) (o : Option ℕ) (cs : List CheckedCapture) → IsLeastOf xs o → IsLeastOf (xs ++ seconds_told cs) (earliest_told o cs)
earliest-least xs o [] is = subst (λ (ys : List ℕ). IsLeastOf ys o) (sym (append-nil xs)) is
earliest-least xs o (c ∷ cs) is =
    subst (λ (ys : List ℕ). IsLeastOf ys (earliest_told (earlier o c.told.first) cs)) (listed-more xs (second_told c) (seconds_told cs))
    (earliest-least (xs ++ listed (second_told c)) (earlier o c.told.first) cs (least-next xs o c.told.first is))

pub least-end : (xs : List ℕ) (o : Option ℕ) → IsLeastOf xs o → unwrap_or o 0 ≡ least_or 0 xs
least-end [] o is = ap (λ (b : Option ℕ). unwrap_or b 0) is
least-end (n ∷ ns) o is = ap (λ (b : Option ℕ). unwrap_or b 0) is

pub earliest-start : (cs : List CheckedCapture) → unwrap_or (earliest_told None cs) 0 ≡ start_told cs
earliest-start cs = least-end (seconds_told cs) (earliest_told None cs) (earliest-least [] None cs refl)

-- none of them is before it
below-all : (m k : ℕ) (xs : List ℕ) → m ≤ k → AllByRecursion (λ x. k ≤ x) xs → AllByRecursion (λ x. m ≤ x) xs
below-all m k [] low all = tt
below-all m k (x ∷ xs) low all = (let own = all.0 in omega (arith, low, own), below-all m k xs low all.1)

pub least-low : (d : ℕ) (xs : List ℕ) → AllByRecursion (λ x. least_or d xs ≤ x) xs
least-low d [] = tt
least-low d (n ∷ ns) = (omega arith, below-all (min n (least_or n ns)) (least_or n ns) ns (omega arith) (least-low n ns))

told-since-all : (m : ℕ) (cs : List CheckedCapture) → AllByRecursion (λ x. m ≤ x) (seconds_told cs) → AllByRecursion (λ (c : CheckedCapture). IfSome c.told.first (λ first. m ≤ second_of first)) cs
told-since-all m [] all = tt
told-since-all m (c ∷ cs) all = by_told c.told.first (told-since-all m cs) all
  where
    by_told : (o : Option ℕ) → (AllByRecursion (λ x. m ≤ x) (seconds_told cs) → AllByRecursion (λ (d : CheckedCapture). IfSome d.told.first (λ first. m ≤ second_of first)) cs) →
        AllByRecursion (λ x. m ≤ x) (more (option_map second_of o) (seconds_told cs)) →
        IfSome o (λ first. m ≤ second_of first) × AllByRecursion (λ (d : CheckedCapture). IfSome d.told.first (λ first. m ≤ second_of first)) cs
    by_told None later rest = (tt, later rest)
    by_told (Some first) later rest = (rest.0, later rest.1)

all-got : {X : Type 0} (P : X → Type 0) (xs : List X) (k : ℕ) (d : X) → k < length xs → AllByRecursion P xs → P (get_or xs k d)
all-got P [] k d low all = absurd (omega (arith, low))
all-got P (x ∷ xs) zero d low all = all.0
all-got P (x ∷ xs) (suc k) d low all = all-got P xs k d (omega (arith, low)) all.1

pub since-told : (m : ℕ) (cs : List CheckedCapture) → AllByRecursion (λ x. m ≤ x) (seconds_told cs) → AreSince m cs
since-told m cs all k d low = all-got (λ (c : CheckedCapture). IfSome c.told.first (λ first. m ≤ second_of first)) cs k d low (told-since-all m cs all)

-- the start isn't behind the first record of any
pub since-start : (cs : List CheckedCapture) → AreSince (start_told cs) cs
since-start cs = since-told (start_told cs) cs (least-low 0 (seconds_told cs))

-- the start is below 2^32 seconds
pub start-low : (xs : List ℕ) (d : ℕ) → d < 2 ^ 32 → AllByRecursion (λ x. x < 2 ^ 32) xs → least_or d xs < 2 ^ 32
start-low [] d low all = low
start-low (x ∷ xs) d low all = (let own = all.0 in omega (arith, own))

pub seconds-low : (cs : List CheckedCapture) → All (λ c. IfSome c.told.first (λ first. first < 2 ^ 32 * 1_000_000_000)) cs → AllByRecursion (λ x. x < 2 ^ 32) (seconds_told cs)
seconds-low [] all = tt
seconds-low (c ∷ cs) all = by_told c.told.first (all 0 c (omega arith)) (seconds-low cs (λ k d low. all (suc k) d (omega (arith, low))))
  where
    by_told : (o : Option ℕ) → IfSome o (λ first. first < 2 ^ 32 * 1_000_000_000) → AllByRecursion (λ x. x < 2 ^ 32) (seconds_told cs) →
        AllByRecursion (λ x. x < 2 ^ 32) (more (option_map second_of o) (seconds_told cs))
    by_told None is rest = rest
    by_told (Some first) is rest = (omega (arith, is), rest)

pub start-fits : (cs : List CheckedCapture) → All (λ c. IfSome c.told.first (λ first. first < 2 ^ 32 * 1_000_000_000)) cs → start_told cs < 2 ^ 32
start-fits cs all = start-low (seconds_told cs) 0 (omega arith) (seconds-low cs all)

-- ---- what was told of the file of this name
pub record ToldNamed (names : List Named) (file : Files) (c : CheckedCapture) (name : List ℕ) : Type 0 where
  pub bytes : List ℕ
  pub records : List Record
  pub there : file name ≡ Some bytes
  pub read : capture_records bytes ≡ Ok records
  pub told : c.told ≡ scanned_of bytes records
  pub are : records_at names file c.port ≡ records

pub told-named : (names : List Named) (file : Files) (c : CheckedCapture) (name : List ℕ) → IsToldOf names file c → name_of names c.port ≡ Some name → ToldNamed names file c name
told-named names file c name (other, found, good) named = by_file (file other) refl good
  where
    same : Some other ≡ Some name → other ≡ name
    same e = cc

    by_file : (o : Option (List ℕ)) → file other ≡ o → IsGood o c.told → ToldNamed names file c name
    by_file None at (inl isnt) = absurd (cc)
    by_file None at (inr (inl isnt)) = absurd (cc)
    by_file None at (inr (inr isnt)) = absurd (cc)
    by_file (Some bytes) at is =
        let there : file name ≡ Some bytes = ap file (sym (same (sym found ∙ named))) ∙ at in
        record {
          bytes = bytes;
          records = is.records;
          there = there;
          read = is.read;
          told = is.tells;
          are =
              ap (λ (o : Option (List ℕ)). if is_some o then records_or_none (capture_records (bytes_named file o)) else []) named
              ∙ ap (λ (o : Option (List ℕ)). records_or_none (capture_records (bytes_of o))) there ∙ ap records_or_none is.read;
        }

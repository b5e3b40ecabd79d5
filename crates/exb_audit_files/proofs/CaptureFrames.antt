-- What is read of a capture in either format, of one that can only be classic.
use Rattle.std.proofs.Common.{◌≡◌, ◌≢◌, ◌<◌, ◌≤◌, ℕ, zero, suc, List, [], ◌∷◌, ◌++◌, length, take, drop, get_or, map, Option, Some, None, Ok, Err, refl, ap, sym, subst, inl, inr, ◌∙◌, arith, true, false, Bool}
use Rattle.std.specs.Prelude.{◌⊎◌, ◌&&◌, IsErrOf, IsSome, nat_lt}
use Rattle.std.proofs.lemmas.Bool.{ne_eqb, ltb-true, and_parts}
use Rattle.std.proofs.lemmas.List.{map-append}
use Rattle.exb_model.specs.Frames.{IsBytes}
use Rattle.exb_model.specs.Input.{Record}
use Rattle.exb_capture.specs.declared.fault.FormatFault.{FormatFault}
use Rattle.exb_capture.specs.declared.fault.Flaw.TheVariants.{NotPcap}
use Rattle.exb_capture.specs.Captures.{capture_records, first_bytes}
use Rattle.exb_capture.specs.Classic.{classic_front, pcap_records}
use Rattle.exb_capture.specs.Fields.{agrees}
use Rattle.exb_capture.specs.Formats.{fault, reading_from, reading_within}
use Rattle.exb_capture.specs.declared.capture_file.CaptureFile.{CaptureFile}
use Rattle.exb_capture.specs.declared.capture_file.Halt.{Halt}
use Rattle.exb_capture.specs.declared.capture_file.Halt.TheVariants as halt
use Rattle.exb_capture.specs.CaptureFiles.{HasRead, HaltsBy, IsWhole, ComesNext, next_of}
use Rattle.exb_capture.proofs.CaptureLemmas.{read_as_classic}
use Rattle.exb_shelf.specs.Files.{Files, SameFiles, bytes_of}
use Rattle.exb_shelf.specs.Shelf.{Id, reading}
use Rattle.exb_audit_files.specs.declared.captured_frames.CapturedFrames.{CapturedFrames}
use Rattle.exb_audit_files.specs.declared.port_files.PortFile.{PortFile}
use Rattle.exb_audit_files.specs.declared.port_files.FramesFault.{FramesFault}
use Rattle.exb_audit_files.specs.declared.port_files.FramesFault.TheVariants.{Memory, Read, Missing, Broken, Large}
use Rattle.exb_audit_files.specs.CaptureFrames.{BeginsWith, IsTaken, IsTakenOf, halted}
use Rattle.exb_audit_files.specs.FrameFiles.{Reading, StandsBy, IsFlaw}

-- ---- the frames of what was taken
-- of a file of these bytes some records were taken, and these are their frames
pub record HasTaken (bytes : List ℕ) (f : CaptureFile) (frames : List (List ℕ)) : Type 0 where
  pub taken : List Record
  pub read : HasRead bytes taken f
  pub are : map (λ (r : Record). r.bytes) taken ≡ frames

pub none_taken : (bytes : List ℕ) (f : CaptureFile) (frames : List (List ℕ)) → frames ≡ [] → HasRead bytes [] f → HasTaken bytes f frames
none_taken bytes f frames e h = record { taken = []; read = h; are = sym e }

pub one_taken : (bytes : List ℕ) (f g : CaptureFile) (frames more : List (List ℕ)) (m : ℕ) (frame : List ℕ) → HasTaken bytes f frames → ComesNext m f
    → ((x : Record) → next_of f ≡ Some x → frame ≡ x.bytes)
    → ((xs : List Record) (x : Record) → next_of f ≡ Some x → HasRead bytes xs f → HasRead bytes (xs ++ x ∷ []) g) → more ≡ frames ++ frame ∷ [] → HasTaken bytes g more
one_taken bytes f g frames more m frame h next is passes e =
    let x = next.0 in
    record {
      taken = h.taken ++ x ∷ [];
      read = passes h.taken x next.1 h.read;
      are =
          map-append (λ (r : Record). r.bytes) h.taken (x ∷ [])
          ∙ (ap (λ (xs : List (List ℕ)). xs ++ x.bytes ∷ []) h.are ∙ (ap (λ (b : List ℕ). frames ++ b ∷ []) (sym (is x next.1)) ∙ sym e));
    }

pub all_taken : (bytes : List ℕ) (f g : CaptureFile) (t : CapturedFrames) (limit : ℕ) (h : HasTaken bytes f t.frames.items) → IsWhole bytes h.taken g → t.bytes ≡ g.got → g.limit ≡ limit → IsTaken capture_records limit bytes t
all_taken bytes f g t limit h whole got is = record {
  small = omega (arith, whole.small, is);
  size = got ∙ whole.size;
  holds = record { records = h.taken; is = whole.records; are = h.are };
}

-- ---- a file that is there
pub taken_there : (read : Reading) (limit : ℕ) (file : Option (List ℕ)) (bytes : List ℕ) (t : CapturedFrames) → IsSome file → bytes ≡ bytes_of file → IsTaken read limit bytes t → IsTakenOf read limit file t
taken_there read limit None bytes t there is h = absurd (cc)
taken_there read limit (Some all) bytes t there is h = record { bytes = all; there = refl; taken = subst (λ b. IsTaken read limit b t) is h }

halt_of : (limit : ℕ) (x : PortFile) (bytes : List ℕ) (h : Halt) → HaltsBy bytes limit h
    → IsFlaw capture_records limit x (Some bytes) (halted x.port h) ⊎ (halted x.port h ≡ Read) ⊎ (halted x.port h ≡ Memory)
halt_of limit x bytes halt.Memory h = inr (inr refl)
halt_of limit x bytes halt.Failed h = inr (inl refl)
halt_of limit x bytes (halt.Broken fault) h = inl (refl, h.0, h.1)
halt_of limit x bytes halt.Large h = inl (h.0, h.1)

pub halt_told : (limit : ℕ) (x : PortFile) (file : Option (List ℕ)) (bytes : List ℕ) (h : Halt) (f : FramesFault) → f ≡ halted x.port h → IsSome file → bytes ≡ bytes_of file → HaltsBy bytes limit h
    → IsFlaw capture_records limit x file f ⊎ (f ≡ Read) ⊎ (f ≡ Memory)
halt_told limit x None bytes h f e there is halts = absurd (cc)
halt_told limit x (Some all) bytes h f e there is halts =
    subst (λ y. IsFlaw capture_records limit x (Some all) y ⊎ (y ≡ Read) ⊎ (y ≡ Memory)) (sym e) (halt_of limit x all h (subst (λ b. HaltsBy b limit h) is halts))

-- ---- classic captures
ten_is_none : (rest : List ℕ) → pcap_records (10 ∷ rest) ≡ Err (fault NotPcap 0)
unfolding pcap_records reading_from reading_within classic_front agrees
ten_is_none rest = refl

nothing_is_none : pcap_records [] ≡ Err (fault NotPcap 0)
unfolding pcap_records reading_from reading_within classic_front agrees
nothing_is_none = refl

first_differs : (b : ℕ) (rest : List ℕ) → b ≢ 10 → agrees first_bytes (b ∷ rest) ≡ false
unfolding agrees
first_differs b rest other = ap (λ t. t && agrees (0x0D ∷ 0x0D ∷ 0x0A ∷ []) rest) (ne_eqb 10 b (λ e. other (sym e)))

as_classic : (b : ℕ) (rest : List ℕ) → b ≢ 10 → capture_records (b ∷ rest) ≡ pcap_records (b ∷ rest)
as_classic b rest other = read_as_classic (b ∷ rest) (first_differs b rest other)

-- a header and no record
abbrev header : List ℕ
header = 0xD4 ∷ 0xC3 ∷ 0xB2 ∷ 0xA1 ∷ 2 ∷ 0 ∷ 4 ∷ 0 ∷ 0 ∷ 0 ∷ 0 ∷ 0 ∷ 0 ∷ 0 ∷ 0 ∷ 0 ∷ 0xFF ∷ 0xFF ∷ 0 ∷ 0 ∷ 1 ∷ 0 ∷ 0 ∷ 0 ∷ []

header_is_read : pcap_records header ≡ Ok []
unfolding pcap_records reading_from reading_within classic_front agrees
header_is_read = refl

no_bytes : IsBytes []
no_bytes i = omega arith

more_bytes : (b : ℕ) (bs : List ℕ) → b < 256 → IsBytes bs → IsBytes (b ∷ bs)
more_bytes b bs low h zero = low
more_bytes b bs low h (suc i) = h i

abbrev are_small : List ℕ → Bool
are_small [] = true
are_small (b ∷ bs) = nat_lt b 256 && are_small bs

small_bytes : (bs : List ℕ) → are_small bs ≡ true → IsBytes bs
small_bytes [] e = no_bytes
small_bytes (b ∷ bs) e = (let p = and_parts (nat_lt b 256) (are_small bs) e in more_bytes b bs (ltb-true b 256 p.0) (small_bytes bs p.1))

header_bytes : IsBytes header
header_bytes = small_bytes header refl

-- a file without bytes
pub flaw_nothing : (left : ℕ) (x : PortFile) (file : Option (List ℕ)) (f : FramesFault) → BeginsWith None file → f ≡ Broken x.port (fault NotPcap 0) → IsFlaw pcap_records left x file f
flaw_nothing left x file f begins e = subst (λ o. IsFlaw pcap_records left x o f) (sym begins) (subst (IsFlaw pcap_records left x (Some [])) (sym e) (refl, nothing_is_none, λ long. absurd (omega (arith, long))))

-- a file that begins as pcapng does
ten_stands : (left : ℕ) (rest : List ℕ) → 0 < left → StandsBy pcap_records (take left (10 ∷ rest)) (fault NotPcap 0)
ten_stands zero rest some = absurd (omega (arith, some))
ten_stands (suc n) rest some = λ more bytes. ten_is_none (take n rest ++ more)

pub flaw_ten : (left : ℕ) (x : PortFile) (file : Option (List ℕ)) (f : FramesFault) → 0 < left → BeginsWith (Some 10) file → f ≡ Broken x.port (fault NotPcap 0) → IsFlaw pcap_records left x file f
flaw_ten left x file f some begins e =
    subst (λ o. IsFlaw pcap_records left x o f) (sym begins.1)
    (subst (IsFlaw pcap_records left x (Some (10 ∷ begins.0))) (sym e) (refl, ten_is_none begins.0, λ long. ten_stands left begins.0 some))

-- a file of which nothing may be read
pub flaw_large : (x : PortFile) (first : ℕ) (file : Option (List ℕ)) (left : ℕ) → left ≡ 0 → BeginsWith (Some first) file → IsFlaw pcap_records left x file Large
flaw_large x first file left e begins =
    subst (λ o. IsFlaw pcap_records left x o Large) (sym begins.1)
    (subst (λ n. IsFlaw pcap_records n x (Some (first ∷ begins.0)) Large) (sym e)
    (omega arith, λ f stands. let no = sym header_is_read ∙ stands header header_bytes in cc))

-- any other file
stands_classic : (left b : ℕ) (rest : List ℕ) (f : FormatFault) → 0 < left → b ≢ 10 → StandsBy capture_records (take left (b ∷ rest)) f → StandsBy pcap_records (take left (b ∷ rest)) f
stands_classic zero b rest f some other h = absurd (omega (arith, some))
stands_classic (suc n) b rest f some other h = λ more bytes. sym (as_classic b (take n rest ++ more) other) ∙ h more bytes

stands_either : (left b : ℕ) (rest : List ℕ) (f : FormatFault) → 0 < left → b ≢ 10 → StandsBy pcap_records (take left (b ∷ rest)) f → StandsBy capture_records (take left (b ∷ rest)) f
stands_either zero b rest f some other h = absurd (omega (arith, some))
stands_either (suc n) b rest f some other h = λ more bytes. as_classic b (take n rest ++ more) other ∙ h more bytes

flaw_as : (left : ℕ) (x : PortFile) (b : ℕ) (rest : List ℕ) (f : FramesFault) → 0 < left → b ≢ 10 → IsFlaw capture_records left x (Some (b ∷ rest)) f → IsFlaw pcap_records left x (Some (b ∷ rest)) f
flaw_as left x b rest (Broken port broke) some other h = (h.0, sym (as_classic b rest other) ∙ h.1, λ long. stands_classic left b rest broke some other (h.2 long))
flaw_as left x b rest Large some other h = (h.0, λ g stands. h.1 g (stands_either left b rest g some other stands))
flaw_as left x b rest Memory some other h = h
flaw_as left x b rest Read some other h = h
flaw_as left x b rest (Missing name) some other h = h

pub flaw_classic : (left : ℕ) (x : PortFile) (b : ℕ) (file now : Option (List ℕ)) (f : FramesFault) → 0 < left → b ≢ 10 → BeginsWith (Some b) file → now ≡ file
    → IsFlaw capture_records left x now f ⊎ (f ≡ Read) ⊎ (f ≡ Memory) → IsFlaw pcap_records left x file f ⊎ (f ≡ Read) ⊎ (f ≡ Memory)
flaw_classic left x b file now f some other begins same (inl h) =
    inl (subst (λ o. IsFlaw pcap_records left x o f) (sym begins.1) (flaw_as left x b begins.0 f some other (subst (λ o. IsFlaw capture_records left x o f) (same ∙ begins.1) h)))
flaw_classic left x b file now f some other begins same (inr h) = inr h

pub taken_classic : (left b : ℕ) (file now : Option (List ℕ)) (t : CapturedFrames) → b ≢ 10 → BeginsWith (Some b) file → now ≡ file → IsTakenOf capture_records left now t → IsTakenOf pcap_records left file t
taken_classic left b file now t other begins same h =
    let files : Some h.bytes ≡ Some (b ∷ begins.0) = sym h.there ∙ (same ∙ begins.1) in
    let bytes : h.bytes ≡ b ∷ begins.0 = cc in
    record {
      bytes = h.bytes;
      there = sym same ∙ h.there;
      taken = record {
        small = h.taken.small;
        size = h.taken.size;
        holds = record {
          records = h.taken.holds.records;
          is = ap pcap_records bytes ∙ (sym (as_classic b begins.0 other) ∙ (sym (ap capture_records bytes) ∙ h.taken.holds.is));
          are = h.taken.holds.are;
        };
      };
    }

-- a file that isn't there
pub flaw_missing : (read : Reading) (left : ℕ) (x : PortFile) (file : Option (List ℕ)) (f : FramesFault) → ((file ≡ None) × (f ≡ Missing x.name)) ⊎ (f ≡ Read) ⊎ (f ≡ Memory)
    → IsFlaw read left x file f ⊎ (f ≡ Read) ⊎ (f ≡ Memory)
flaw_missing read left x file f (inl h) = inl (subst (λ o. IsFlaw read left x o f) (sym h.0) h.1)
flaw_missing read left x file f (inr h) = inr h

-- the first byte, as it was read
first_of : (bytes into : List ℕ) (n : ℕ) → n ≢ 0 → n ≤ length into → take n into ≡ take n bytes → (x : List ℕ) × (bytes ≡ get_or into 0 0 ∷ x)
first_of bytes into zero some bound e = absurd (some refl)
first_of bytes [] (suc k) some bound e = absurd (omega (arith, bound))
first_of [] (b ∷ more) (suc k) some bound e = absurd (cc)
first_of (d ∷ ds) (b ∷ more) (suc k) some bound e = (ds, ap (λ z. z ∷ ds) (heads e))
  where
    heads : b ∷ take k more ≡ d ∷ take k ds → d ≡ b
    heads z = cc

pub first_read : (f g : Files) (i : Id) (name into : List ℕ) (n : ℕ) → i ≡ reading name 0 → SameFiles f g → IsSome (f name) → n ≢ 0 → n ≤ length into
    → take n into ≡ take n (drop i.place (bytes_of (g i.name))) → (x : List ℕ) × (f name ≡ Some (get_or into 0 0 ∷ x))
first_read f g i name into n e same there some bound bytes =
    let read : take n into ≡ take n (bytes_of (f name)) = bytes ∙ (ap (λ (x : Id). take n (drop x.place (bytes_of (g x.name)))) e ∙ ap (λ (o : Option (List ℕ)). take n (bytes_of o)) (same name)) in
    let first = first_of (bytes_of (f name)) into n some bound read in
    (first.0, whole (f name) there ∙ ap (λ (b : List ℕ). Some b) first.1)
  where
    whole : (o : Option (List ℕ)) → IsSome o → o ≡ Some (bytes_of o)
    whole None is = absurd (cc)
    whole (Some b) is = refl

-- ---- an answer is no other one
pub memory_not_failed : {X : Type 0} → IsErrOf {T = X} (Err halt.Memory) halt.Failed → ⊥
memory_not_failed is = cc

pub taken_not_failed : (taken : CapturedFrames) → IsErrOf {T = CapturedFrames} (Ok taken) halt.Failed → ⊥
taken_not_failed taken is = cc

pub same_halt : {X Y : Type 0} (why : Halt) → IsErrOf {T = X} (Err why) halt.Failed → IsErrOf {T = Y} (Err why) halt.Failed
same_halt why is = let same : why ≡ halt.Failed = cc in ap (λ (h : Halt). Err h) same

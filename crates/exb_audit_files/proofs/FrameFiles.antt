-- Files of frames, one after the other.
use Rattle.std.proofs.Common.{◌≡◌, ◌≤◌, ◌-◌, ◌+◌, ◌==◌, if◌then◌else◌, ℕ, List, [], ◌∷◌, ◌++◌, length, map, Option, Some, None, Ok, Err, refl, ap, sym, subst, inl, inr, ◌∙◌, arith}
use Rattle.std.specs.Prelude.{◌⊎◌}
use Rattle.exb_model.specs.Input.{Record}
use Rattle.exb_shelf.specs.Files.{Files, bytes_of}
use Rattle.exb_trace_spec.specs.Traversals.{Each}
use Rattle.exb_audit.specs.declared.frames.PortFrames.{PortFrames}
use Rattle.exb_audit.specs.Frames.{frames_by}
use Rattle.exb_audit_files.specs.declared.port_files.PortFile.{PortFile}
use Rattle.exb_audit_files.specs.declared.port_files.FramesFault.{FramesFault}
use Rattle.exb_audit_files.specs.declared.port_files.FramesFault.TheVariants.{Memory, Read, Missing, Broken, Large}
use Rattle.exb_audit_files.specs.FrameFiles.{Reading, IsReadFrom, EachIsRead, total, AreRead, IsGood, IsFlaw, IsFirstFault}

pub total_more : (file : Files) (xs ys : List PortFile) → total file (xs ++ ys) ≡ total file xs + total file ys
total_more file [] ys = omega arith
total_more file (x ∷ xs) ys = omega (arith, total_more file xs ys)

pub each_more : (read : Reading) (file : Files) (xs : List PortFile) (fs : List PortFrames) (x : PortFile) (f : PortFrames) → EachIsRead read file xs fs → IsReadFrom read file x f
    → EachIsRead read file (xs ++ x ∷ []) (fs ++ f ∷ [])
each_more read file [] [] x f e h = (h, tt)
each_more read file (y ∷ ys) (g ∷ gs) x f e h = (e.0, each_more read file ys gs x f e.1 h)
each_more read file [] (g ∷ gs) x f e h = absurd e
each_more read file (y ∷ ys) [] x f e h = absurd e

-- what is left of the limit behind one file more
pub rest_more : (file : Files) (xs : List PortFile) (one : PortFile) (bytes : List ℕ) (n left limit : ℕ) → total file xs + left ≡ limit → file one.name ≡ Some bytes → n ≡ length bytes → n ≤ left
    → total file (xs ++ one ∷ []) + (left - n) ≡ limit
rest_more file xs one bytes n left limit e there size fits = omega (arith, e, total_more file xs (one ∷ []), ap (λ (o : Option (List ℕ)). length (bytes_of o)) there, size, fits)

good_of : (read : Reading) (file : Files) (x : PortFile) (f : PortFrames) → IsReadFrom read file x f → IsGood read file x
good_of read file x f h = record { bytes = h.bytes; there = h.there; records = h.holds.records; is = h.holds.is }

pub all_good : (read : Reading) (file : Files) (xs : List PortFile) (fs : List PortFrames) → EachIsRead read file xs fs → Each (IsGood read file) xs
all_good read file [] [] e = tt
all_good read file (y ∷ ys) (g ∷ gs) e = (good_of read file y g e.0, all_good read file ys gs e.1)
all_good read file [] (g ∷ gs) e = absurd e
all_good read file (y ∷ ys) [] e = absurd e

-- ---- one answer
-- the first fault, going through the files
abbrev pub FaultFrom : Reading → Files → ℕ → List PortFile → FramesFault → Type 0
FaultFrom read file left [] f = ⊥
FaultFrom read file left (x ∷ xs) f = IsFlaw read left x (file x.name) f
    ⊎ (IsGood read file x × (length (bytes_of (file x.name)) ≤ left) × FaultFrom read file (left - length (bytes_of (file x.name))) xs f)

from_first : (read : Reading) (file : Files) (left : ℕ) (before : List PortFile) (one : PortFile) (after : List PortFile) (f : FramesFault) → Each (IsGood read file) before → total file before ≤ left
    → IsFlaw read (left - total file before) one (file one.name) f → FaultFrom read file left (before ++ one ∷ after) f
from_first read file left [] one after f good within here = inl (subst (λ n. IsFlaw read n one (file one.name) f) (omega arith) here)
from_first read file left (x ∷ xs) one after f good within here =
    let n : ℕ = length (bytes_of (file x.name)) in
    inr (good.0, omega (arith, within), from_first read file (left - n) xs one after f good.1 (omega (arith, within)) (subst (λ k. IsFlaw read k one (file one.name) f) (omega arith) here))

pub fault_from : (read : Reading) (file : Files) (limit : ℕ) (files : List PortFile) (f : FramesFault) → IsFirstFault read file limit files f → FaultFrom read file limit files f
fault_from read file limit files f h = subst (λ xs. FaultFrom read file limit xs f) (sym h.is) (from_first read file limit h.before h.one h.after f h.good h.within h.here)

no_flaw : (read : Reading) (left : ℕ) (x : PortFile) (bytes : List ℕ) (records : List Record) (f : FramesFault) → read bytes ≡ Ok records → length bytes ≤ left → IsFlaw read left x (Some bytes) f → ⊥
no_flaw read left x bytes records (Broken port fault) ok few h = let no = sym ok ∙ h.1 in cc
no_flaw read left x bytes records Large ok few h = omega (arith, few, h.0)
no_flaw read left x bytes records Memory ok few h = h
no_flaw read left x bytes records Read ok few h = h
no_flaw read left x bytes records (Missing name) ok few h = h

flaw_good : (read : Reading) (file : Files) (left : ℕ) (x : PortFile) (f : FramesFault) → IsGood read file x → length (bytes_of (file x.name)) ≤ left → IsFlaw read left x (file x.name) f → ⊥
flaw_good read file left x f good few h =
    no_flaw read left x good.bytes good.records f good.is (subst (λ o. length (bytes_of o) ≤ left) good.there few) (subst (λ o. IsFlaw read left x o f) good.there h)

one_flaw : (read : Reading) (left : ℕ) (x : PortFile) (bytes : List ℕ) (f g : FramesFault) → IsFlaw read left x (Some bytes) f → IsFlaw read left x (Some bytes) g → f ≡ g
one_flaw read left x bytes (Broken p e) (Broken q d) h k =
    let ports : p ≡ q = h.0 ∙ sym k.0 in
    let both : Err e ≡ Err d = sym h.1 ∙ k.1 in
    let same : e ≡ d = cc in
    λ i. Broken (ports i) (same i)
one_flaw read left x bytes (Broken p e) Large h k = absurd (k.1 e (h.2 k.0))
one_flaw read left x bytes Large (Broken q d) h k = absurd (h.1 d (k.2 h.0))
one_flaw read left x bytes Large Large h k = refl
one_flaw read left x bytes Memory g h k = absurd h
one_flaw read left x bytes Read g h k = absurd h
one_flaw read left x bytes (Missing name) g h k = absurd h
one_flaw read left x bytes (Broken p e) Memory h k = absurd k
one_flaw read left x bytes (Broken p e) Read h k = absurd k
one_flaw read left x bytes (Broken p e) (Missing name) h k = absurd k
one_flaw read left x bytes Large Memory h k = absurd k
one_flaw read left x bytes Large Read h k = absurd k
one_flaw read left x bytes Large (Missing name) h k = absurd k

flaw_one : (read : Reading) (left : ℕ) (x : PortFile) (o : Option (List ℕ)) (f g : FramesFault) → IsFlaw read left x o f → IsFlaw read left x o g → f ≡ g
flaw_one read left x None f g h k = h ∙ sym k
flaw_one read left x (Some bytes) f g h k = one_flaw read left x bytes f g h k

one_from : (read : Reading) (file : Files) (left : ℕ) (xs : List PortFile) (f g : FramesFault) → FaultFrom read file left xs f → FaultFrom read file left xs g → f ≡ g
one_from read file left [] f g h k = absurd h
one_from read file left (x ∷ xs) f g (inl h) (inl k) = flaw_one read left x (file x.name) f g h k
one_from read file left (x ∷ xs) f g (inl h) (inr k) = absurd (flaw_good read file left x f k.0 k.1 h)
one_from read file left (x ∷ xs) f g (inr h) (inl k) = absurd (flaw_good read file left x g h.0 h.1 k)
one_from read file left (x ∷ xs) f g (inr h) (inr k) = one_from read file (left - length (bytes_of (file x.name))) xs f g h.2 k.2

pub one_fault : (read : Reading) (file : Files) (limit : ℕ) (files : List PortFile) (f g : FramesFault) → IsFirstFault read file limit files f → IsFirstFault read file limit files g → f ≡ g
one_fault read file limit files f g h k = one_from read file limit files f g (fault_from read file limit files f h) (fault_from read file limit files g k)

none_from : (read : Reading) (file : Files) (left : ℕ) (xs : List PortFile) (fs : List PortFrames) (f : FramesFault) → EachIsRead read file xs fs → total file xs ≤ left → FaultFrom read file left xs f → ⊥
none_from read file left [] fs f e few h = h
none_from read file left (x ∷ xs) [] f e few h = e
none_from read file left (x ∷ xs) (g ∷ gs) f e few (inl h) = flaw_good read file left x f (good_of read file x g e.0) (omega (arith, few)) h
none_from read file left (x ∷ xs) (g ∷ gs) f e few (inr h) = none_from read file (left - length (bytes_of (file x.name))) xs gs f e.1 (omega (arith, few)) h.2

pub read_or_fault : (read : Reading) (file : Files) (limit : ℕ) (files : List PortFile) (fs : List PortFrames) (f : FramesFault) → AreRead read file limit files fs → IsFirstFault read file limit files f → ⊥
read_or_fault read file limit files fs f a h = none_from read file limit files fs f a.each a.within (fault_from read file limit files f h)

same_frames : (read : Reading) (file : Files) (x : PortFile) (f g : PortFrames) → IsReadFrom read file x f → IsReadFrom read file x g → f.frames.items ≡ g.frames.items
same_frames read file x f g h k =
    let files : Some h.bytes ≡ Some k.bytes = sym h.there ∙ k.there in
    let bytes : h.bytes ≡ k.bytes = cc in
    let both : Ok h.holds.records ≡ Ok k.holds.records = sym h.holds.is ∙ (ap read bytes ∙ k.holds.is) in
    let records : h.holds.records ≡ k.holds.records = cc in
    sym h.holds.are ∙ (ap (map (λ (r : Record). r.bytes)) records ∙ k.holds.are)

pub one_reading : (read : Reading) (file : Files) (xs : List PortFile) (fs gs : List PortFrames) → EachIsRead read file xs fs → EachIsRead read file xs gs → (p : ℕ) → frames_by fs p ≡ frames_by gs p
one_reading read file [] [] [] e d p = refl
one_reading read file [] [] (g ∷ gs) e d p = absurd d
one_reading read file [] (f ∷ fs) gs e d p = absurd e
one_reading read file (x ∷ xs) [] gs e d p = absurd e
one_reading read file (x ∷ xs) (f ∷ fs) [] e d p = absurd d
one_reading read file (x ∷ xs) (f ∷ fs) (g ∷ gs) e d p =
    let ports : f.port ≡ g.port = e.0.port ∙ sym d.0.port in
    let frames : f.frames.items ≡ g.frames.items = same_frames read file x f g e.0 d.0 in
    let rest = one_reading read file xs fs gs e.1 d.1 p in
    λ i. if ports i == p then frames i else rest i

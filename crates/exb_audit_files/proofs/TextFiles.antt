-- A text on a shelf that is read piece by piece.
use Rattle.std.proofs.Common.{◌≡◌, ◌<◌, ◌≤◌, ◌+◌, ◌^◌, ℕ, false, List, [], ◌++◌, length, take, drop, Option, Some, None, Result, Ok, Err, refl, ap, sym, subst, inl, inr, ◌∙◌, arith, take-add, length-take}
use Rattle.std.specs.Prelude.{◌⊎◌, IfErr, IfOk, IsErrOf, IsSome, Vec}
use Rattle.std.specs.declared.alloc.Global.{Global}
use Rattle.std.proofs.lemmas.Bool.{cases_lt}
use Rattle.std.proofs.lemmas.List.{length-drop, length-take-le, take_all}
use Rattle.exb_shelf.specs.declared.shelf.OpenFault.{OpenFault}
use Rattle.exb_shelf.specs.declared.shelf.OpenFault.TheVariants as opening
use Rattle.exb_shelf.specs.declared.shelf.ShelfFault.{ShelfFault}
use Rattle.exb_shelf.specs.declared.shelf.ShelfFault.TheVariants as shelf
use Rattle.exb_shelf.specs.Files.{Files, SameFiles, bytes_of}
use Rattle.exb_shelf.specs.Shelf.{Id, IsReadingOf, moved, reading}
use Rattle.exb_audit_files.specs.declared.lines.Lines.{Lines}
use Rattle.exb_audit_files.specs.declared.texts.LinesFault.{LinesFault}
use Rattle.exb_audit_files.specs.declared.texts.LinesFault.TheVariants.{Memory, Read, Bad}
use Rattle.exb_audit_files.specs.LineFeeds.{HasCut, HasCutBy, CutsOn, IsOneLine, unopened, unread}
use Rattle.exb_audit_files.specs.Lines.{AreLines, FirstBadLine, HoldsLines, IsLinesFault}
use Rattle.std.proofs.lemmas.List.Elements.{All-nil}

pub there_whole : (o : Option (List ℕ)) → IsSome o → o ≡ Some (bytes_of o)
there_whole None is = absurd (cc)
there_whole (Some b) is = refl

-- what was read was there
pub some_there : (into bytes : List ℕ) (place n : ℕ) → n ≤ length into → take n into ≡ take n (drop place bytes) → (place + n ≤ length bytes) ⊎ (n ≡ 0)
some_there into bytes place n bound e = elim (cases_lt 0 n) [
  | inl some ↦ inl (omega (arith, some, length-take-le n into bound, ap length e, length-take n (drop place bytes), length-drop place bytes))
  | inr none ↦ inr (omega (arith, none))
]

-- a text of which nothing was read
pub cut_empty : {A : Type 0} (read : List ℕ → Option A) (bytes : List ℕ) (s : Lines A) → s.bad ≡ false → s.lines.items ≡ [] → s.rest.items ≡ [] → HasCut read (take 0 bytes) s
cut_empty read bytes s good lines rest = subst (λ b. HasCutBy b read [] s.lines.items s.rest.items) (sym good) (record {
  before = [];
  is = sym rest;
  each = tt;
  last = subst (λ (r : List ℕ). IsOneLine r) (sym rest) (All-nil _);
  are = ap (λ z. Some z) (sym lines);
})

-- one piece more
pub reads_moved : (name : List ℕ) (i j : Id) (n : ℕ) → j ≡ moved i n → IsReadingOf name i → IsReadingOf name j
reads_moved name i j n e reads = subst (λ (k : Id). IsReadingOf name k) (sym e) (record { given = reads.given; reads = reads.reads; named = reads.named })

pub text_on : (f g : Files) (i : Id) (name : List ℕ) (got n : ℕ) → i ≡ reading name got → SameFiles f g → take got (bytes_of (f name)) ++ take n (drop i.place (bytes_of (g i.name))) ≡ take (got + n) (bytes_of (f name))
text_on f g i name got n e same =
    let bytes : List ℕ = bytes_of (f name) in
    ap (λ (x : Id). take got bytes ++ take n (drop x.place (bytes_of (g x.name)))) e
    ∙ (ap (λ (o : Option (List ℕ)). take got bytes ++ take n (drop got (bytes_of o))) (same name) ∙ sym (take-add got n bytes))

pub cut_on : {A : Type 0} (read : List ℕ → Option A) (old new : Lines A) (f g : Files) (i : Id) (name : List ℕ) (got n : ℕ) → i ≡ reading name got → SameFiles f g → HasCut read (take got (bytes_of (f name))) old
    → CutsOn read old new (take n (drop i.place (bytes_of (g i.name)))) → HasCut read (take (got + n) (bytes_of (f name))) new
cut_on read old new f g i name got n e same had on = subst (λ (t : List ℕ). HasCut read t new) (text_on f g i name got n e same) (on.on (take got (bytes_of (f name))) had)

pub within_on : (f g : Files) (i : Id) (name : List ℕ) (got n : ℕ) → i ≡ reading name got → SameFiles f g → got ≤ length (bytes_of (f name)) → (i.place + n ≤ length (bytes_of (g i.name))) ⊎ (n ≡ 0)
    → got + n ≤ length (bytes_of (f name))
within_on f g i name got n e same had (inl h) = subst (λ (o : Option (List ℕ)). got + n ≤ length (bytes_of o)) (same name) (subst (λ (x : Id). x.place + n ≤ length (bytes_of (g x.name))) e h)
within_on f g i name got n e same had (inr z) = omega (arith, had, z)

-- the whole text
left_none : (f g : Files) (i : Id) (name : List ℕ) (got : ℕ) → i ≡ reading name got → SameFiles f g → drop i.place (bytes_of (g i.name)) ≡ [] → drop got (bytes_of (f name)) ≡ []
left_none f g i name got e same none = sym (ap (λ (x : Id). drop x.place (bytes_of (g x.name))) e ∙ ap (λ (o : Option (List ℕ)). drop got (bytes_of o)) (same name)) ∙ none

pub within_whole : (f g : Files) (i : Id) (name : List ℕ) (got : ℕ) → i ≡ reading name got → SameFiles f g → drop i.place (bytes_of (g i.name)) ≡ [] → length (bytes_of (f name)) ≤ got
within_whole f g i name got e same none = omega (arith, ap length (left_none f g i name got e same none), length-drop got (bytes_of (f name)))

pub cut_whole : {A : Type 0} (read : List ℕ → Option A) (old new : Lines A) (f g : Files) (i : Id) (name : List ℕ) (got n : ℕ) → i ≡ reading name got → SameFiles f g → HasCut read (take got (bytes_of (f name))) old
    → CutsOn read old new (take n (drop i.place (bytes_of (g i.name)))) → drop i.place (bytes_of (g i.name)) ≡ [] → HasCut read (bytes_of (f name)) new
cut_whole read old new f g i name got n e same had on none =
    let bytes : List ℕ = bytes_of (f name) in
    let all : take (got + n) bytes ≡ bytes = take_all (got + n) bytes (omega (arith, within_whole f g i name got e same none)) in
    subst (λ (t : List ℕ). HasCut read t new) all (cut_on read old new f g i name got n e same had on)

-- ---- what is answered
abbrev Answer : Type 0 → Type 0
Answer A = Result (Vec A Global) LinesFault

pub lines_held : {A : Type 0} (read : List ℕ → Option A) (limit : ℕ) (file : Option (List ℕ)) (s : Lines A) (result : Answer A) → file ≡ Some (bytes_of file) → length (bytes_of file) ≤ limit
    → HasCut read (bytes_of file) s → IfOk result (λ lines. (text : List ℕ) → HasCut read text s → AreLines read text lines.items) → IfOk result (λ lines. HoldsLines (AreLines read) limit file lines.items)
lines_held read limit file s (Ok lines) there small cut are = record { text = bytes_of file; there = there; small = small; gives = are (bytes_of file) cut }
lines_held read limit file s (Err fault) there small cut are = tt

pub lines_refused : {A : Type 0} (read : List ℕ → Option A) (limit : ℕ) (file : Option (List ℕ)) (s : Lines A) (result : Answer A) → file ≡ Some (bytes_of file) → length (bytes_of file) ≤ limit → limit < 2 ^ 33
    → HasCut read (bytes_of file) s
    → IfErr result (λ fault. (number : ℕ) × (fault ≡ Bad number) × ((text : List ℕ) → length text < 2 ^ 33 → HasCut read text s → FirstBadLine read text number))
    → IfErr result (λ fault. IsLinesFault read limit file fault ⊎ (fault ≡ Read) ⊎ (fault ≡ Memory))
lines_refused read limit file s (Ok lines) there small low cut bad = tt
lines_refused read limit file s (Err fault) there small low cut (number, is, bad) =
    inl (subst (λ (f : LinesFault). IsLinesFault read limit file f) (sym is) (bytes_of file, there, small, bad (bytes_of file) (omega (arith, small, low)) cut))

pub unopened_told : {A : Type 0} (read : List ℕ → Option A) (limit : ℕ) (file : Option (List ℕ)) (fault : OpenFault) → (IsErrOf {T = ℕ} (Err fault) opening.Missing → file ≡ None)
    → IsLinesFault read limit file (unopened fault) ⊎ (unopened fault ≡ Read) ⊎ (unopened fault ≡ Memory)
unopened_told read limit file opening.Missing none = inl (none refl)
unopened_told read limit file opening.Failed none = inr (inl refl)
unopened_told read limit file opening.Memory none = inr (inr refl)

pub unread_cause : (fault : ShelfFault) → (unread fault ≡ Read) ⊎ (unread fault ≡ Memory)
unread_cause shelf.Failed = inl refl
unread_cause shelf.Memory = inr refl

pub unread_failed : {X Y : Type 0} (fault : ShelfFault) → IsErrOf {T = X} (Err (unread fault)) Read → IsErrOf {T = Y} (Err fault) shelf.Failed
unread_failed shelf.Failed is = refl
unread_failed shelf.Memory is = absurd (cc)

-- ---- one answer
pub fault_not_read : (fault : LinesFault) (n : ℕ) → ◌≡◌ {A = Result ℕ LinesFault} (Err fault) (Ok n) → ⊥
fault_not_read fault n is = cc

pub memory_not_read : {X : Type 0} → IsErrOf {T = X} (Err Memory) Read → ⊥
memory_not_read is = cc

pub read_once : (n m : ℕ) → ◌≡◌ {A = Result ℕ LinesFault} (Ok n) (Ok m) → n ≡ m
read_once n m is = cc

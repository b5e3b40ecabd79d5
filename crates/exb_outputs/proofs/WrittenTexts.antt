-- The outputs as they fill: their names differ, and each file followed by its piece is its text.
use Rattle.std.proofs.Common.{◌≡◌, ◌≢◌, ◌<◌, ◌+◌, ◌++◌, ◌⊎◌, inl, inr, ℕ, Bool, true, false, if◌then◌else◌, ◌==◌, List, [], ◌∷◌, length, take, get_or, set, map, ap, sym, ◌∙◌, refl, arith, subst, append_assoc, eq-eqb, get_or-set_same, get_or-set_other, flat_map}
use Rattle.std.proofs.lemmas.Bool.{cases_lt, cases_eq, ne_eqb}
use Rattle.std.proofs.lemmas.List.{append-nil, map-set, get_or-map, get_or_append_left, length-map, take_more}
use Rattle.std.proofs.lemmas.Grind.{flat_map-append}
use Rattle.std.proofs.Math.Seq.{get_or-append_seam}
use Rattle.exb_shelf.specs.Files.{Files, SameFiles, Adds, Filled}
use Rattle.exb_shelf.specs.Shelf.{Id, IsWriting, writing}
use Rattle.exb_shelf.proofs.FileLemmas.{Apart}
use Rattle.exb_journal.specs.declared.file_names.OutputKind.{OutputKind}
use Rattle.exb_outputs.specs.declared.outputs.OpenOutput.{OpenOutput}
use Rattle.exb_outputs.specs.Manifests.{Listed, IsMade, kind_at, output_count, output_name}
use Rattle.exb_cli.specs.Kinds.{is_same}
use Rattle.exb_outputs.specs.WrittenTexts.{Holds, HasTexts, with_more}
use Rattle.exb_outputs.proofs.FileRows.{weaker, still_filled, one_more}
use Rattle.exb_outputs.proofs.KindPlaces.{kind_is, kinds_differ}
use Rattle.exb_cli.proofs.KindLemmas.{other_kind, same_itself}

-- ---- by place
-- each output has the text of its place
abbrev pub HasTextsAt : Listed → List (List ℕ) → Files → Files → (ℕ → List ℕ) → Type 0
HasTextsAt manifest pieces f g text = Filled f g (output_count manifest) (output_name manifest) (Holds pieces text)

-- the text of one place has more
abbrev pub more_at : (ℕ → List ℕ) → ℕ → List ℕ → ℕ → List ℕ
more_at text j more k = if k == j then text k ++ more else text k

-- the text of one output and of the others, where that of one has more
pub more_at_here : (text : ℕ → List ℕ) (j : ℕ) (more : List ℕ) → more_at text j more j ≡ text j ++ more
more_at_here text j more = rw (eq-eqb j j refl) refl

pub more_at_other : (text : ℕ → List ℕ) (j : ℕ) (more : List ℕ) (k : ℕ) → k ≢ j → more_at text j more k ≡ text k
more_at_other text j more k ne = rw (ne_eqb k j ne) refl

-- another output has its text yet
holds_other : (pieces : List (List ℕ)) (text : ℕ → List ℕ) (j : ℕ) (piece more : List ℕ) (k : ℕ) (bytes : List ℕ)
    → k ≢ j → Holds pieces text k bytes → Holds (set pieces j piece) (more_at text j more) k bytes
holds_other pieces text j piece more k bytes ne h =
    ap (λ (xs : List ℕ). bytes ++ xs) (get_or-set_other pieces j k piece [] ne) ∙ h ∙ sym (more_at_other text j more k ne)

-- an output has more in its piece, or in its file
pub has_more : (manifest : Listed) (f g h : Files) (pieces : List (List ℕ)) (text : ℕ → List ℕ) (j : ℕ) (piece more : List ℕ)
    → Apart (output_count manifest) (output_name manifest) → j < output_count manifest → j < length pieces → HasTextsAt manifest pieces f g text
    → (SameFiles g h × (piece ≡ get_or pieces j [] ++ more)) ⊎ (Adds g h (output_name manifest j) (get_or pieces j [] ++ more) × (piece ≡ []))
    → HasTextsAt manifest (set pieces j piece) f h (more_at text j more)
has_more manifest f g h pieces text j piece more apart lt in_pieces p (inl kept) =
    still_filled f g h (output_count manifest) (output_name manifest) (Holds (set pieces j piece) (more_at text j more))
    (weaker f g (output_count manifest) (output_name manifest) (Holds pieces text) (Holds (set pieces j piece) (more_at text j more)) p
    (λ k bytes _ held. elim (cases_eq k j) [
      | inl same ↦ subst (λ (i : ℕ). Holds (set pieces j piece) (more_at text j more) i bytes) (sym same)
          (ap (λ (xs : List ℕ). bytes ++ xs) (get_or-set_same pieces j piece [] in_pieces ∙ kept.1)
          ∙ sym (append_assoc bytes (get_or pieces j []) more)
          ∙ ap (λ (xs : List ℕ). xs ++ more) (subst (λ (i : ℕ). Holds pieces text i bytes) same held)
          ∙ sym (more_at_here text j more))
      | inr other ↦ holds_other pieces text j piece more k bytes other held
    ]))
    kept.0
has_more manifest f g h pieces text j piece more apart lt in_pieces p (inr written) =
    one_more f g h (output_count manifest) j (output_name manifest) (Holds pieces text) (Holds (set pieces j piece) (more_at text j more))
    (get_or pieces j [] ++ more) apart lt p written.0
    (λ k bytes other held. holds_other pieces text j piece more k bytes other held)
    (λ bytes held.
    ap (λ (xs : List ℕ). (bytes ++ (get_or pieces j [] ++ more)) ++ xs) (get_or-set_same pieces j piece [] in_pieces ∙ written.1)
    ∙ append-nil (bytes ++ (get_or pieces j [] ++ more))
    ∙ sym (append_assoc bytes (get_or pieces j []) more)
    ∙ ap (λ (xs : List ℕ). xs ++ more) held
    ∙ sym (more_at_here text j more))

-- the id of a file that was read
file_is : (given : ℕ → Id) (all : List OpenOutput) (at : ℕ) (file : OpenOutput) (name : List ℕ)
    → file ≡ get_or all at file → at < length all → given (get_or (map (λ f. f.id) all) at 0) ≡ writing name → given file.id ≡ writing name
file_is given all at file name read inside is = ap given (ap (λ (f : OpenOutput). f.id) read ∙ sym (get_or-map (λ f. f.id) all at file 0 inside)) ∙ is

pub name_of_file : (given : ℕ → Id) (all : List OpenOutput) (at : ℕ) (file : OpenOutput) (name : List ℕ)
    → file ≡ get_or all at file → at < length all → given (get_or (map (λ f. f.id) all) at 0) ≡ writing name → (given file.id).name ≡ name
name_of_file given all at file name read inside is = ap (λ (i : Id). i.name) (file_is given all at file name read inside is)

pub can_be_written : (given : ℕ → Id) (all : List OpenOutput) (at : ℕ) (file : OpenOutput) (name : List ℕ)
    → file ≡ get_or all at file → at < length all → given (get_or (map (λ f. f.id) all) at 0) ≡ writing name → IsWriting (given file.id)
can_be_written given all at file name read inside is =
    let own = file_is given all at file name read inside is in
    record { given = ap (λ (i : Id). i.given) own; writes = ap (λ (i : Id). i.reads) own }

-- the same of the pieces of values, where one is read and written
pub has_more_of : {X : Type 0} (of : X → List ℕ) (manifest : Listed) (f g h : Files) (all : List X) (text : ℕ → List ℕ) (j : ℕ) (was now : X) (name more : List ℕ)
    → Apart (output_count manifest) (output_name manifest) → j < output_count manifest → length all ≡ output_count manifest → was ≡ get_or all j was → name ≡ output_name manifest j
    → HasTextsAt manifest (map of all) f g text
    → (SameFiles g h × (of now ≡ of was ++ more)) ⊎ (Adds g h name (of was ++ more) × (of now ≡ []))
    → HasTextsAt manifest (map of (set all j now)) f h (more_at text j more)
has_more_of of manifest f g h all text j was now name more apart lt long read named p change =
    let inside : j < length all = omega arith in
    let in_map : j < length (map of all) = omega (arith, length-map all of) in
    let piece : get_or (map of all) j [] ≡ of was = get_or-map of all j was [] inside ∙ ap of (sym read) in
    subst (λ (ps : List (List ℕ)). HasTextsAt manifest ps f h (more_at text j more)) (sym (map-set of all j now))
    (has_more manifest f g h (map of all) text j (of now) more apart lt in_map p
    (elim change [
      | inl kept ↦ inl (kept.0, kept.1 ∙ ap (λ (xs : List ℕ). xs ++ more) (sym piece))
      | inr written ↦ inr (
        subst (λ (n : List ℕ). Adds g h n (get_or (map of all) j [] ++ more)) named
            (subst (λ (xs : List ℕ). Adds g h name (xs ++ more)) (sym piece) written.0),
        written.1,
      )
    ]))

-- nothing more
pub more_at_nothing : (text : ℕ → List ℕ) (j k : ℕ) → more_at text j [] k ≡ text k
more_at_nothing text j k = elim (cases_eq k j) [
  | inl same ↦
      subst (λ (i : ℕ). more_at text j [] i ≡ text i) (sym same) (more_at_here text j [] ∙ append-nil (text j))
  | inr other ↦ more_at_other text j [] k other
]

-- a piece is written
pub is_flushed : {X : Type 0} (of : X → List ℕ) (manifest : Listed) (f g h : Files) (all : List X) (text : ℕ → List ℕ) (j : ℕ) (was now : X) (name : List ℕ)
    → Apart (output_count manifest) (output_name manifest) → j < output_count manifest → length all ≡ output_count manifest → was ≡ get_or all j was → name ≡ output_name manifest j
    → HasTextsAt manifest (map of all) f g text → Adds g h name (of was) → of now ≡ []
    → HasTextsAt manifest (map of (set all j now)) f h text
is_flushed of manifest f g h all text j was now name apart lt long read named p add empty =
    weaker f h (output_count manifest) (output_name manifest) (Holds (map of (set all j now)) (more_at text j [])) (Holds (map of (set all j now)) text)
    (has_more_of of manifest f g h all text j was now name [] apart lt long read named p
    (inr (subst (λ (xs : List ℕ). Adds g h name xs) (sym (append-nil (of was))) add, empty)))
    (λ k bytes _ held. held ∙ more_at_nothing text j k)

-- one more piece is empty
pub more_empty : {X : Type 0} (of : X → List ℕ) (all : List X) (i : ℕ) (now : X) → i < length all → of now ≡ []
    → ((j : ℕ) → j < i → get_or (map of all) j [] ≡ []) → (j : ℕ) → j < i + 1 → get_or (map of (set all i now)) j [] ≡ []
more_empty of all i now inside empty before j lt =
    let in_map : i < length (map of all) = omega (arith, length-map all of) in
    ap (λ (ps : List (List ℕ)). get_or ps j []) (map-set of all i now)
    ∙ elim (cases_eq j i) [
      | inl same ↦
          ap (λ (k : ℕ). get_or (set (map of all) i (of now)) k []) same ∙ get_or-set_same (map of all) i (of now) [] in_map ∙ empty
      | inr other ↦ get_or-set_other (map of all) i j (of now) [] other ∙ before j (omega arith)
    ]

-- with nothing left in the pieces, each file is its text
pub all_written : (manifest : Listed) (f g : Files) (pieces : List (List ℕ)) (text : ℕ → List ℕ)
    → ((j : ℕ) → j < output_count manifest → get_or pieces j [] ≡ []) → HasTextsAt manifest pieces f g text
    → Filled f g (output_count manifest) (output_name manifest) (λ j bytes. bytes ≡ text j)
all_written manifest f g pieces text empty p =
    weaker f g (output_count manifest) (output_name manifest) (Holds pieces text) (λ j bytes. bytes ≡ text j) p
    (λ j bytes l held. sym (append-nil bytes) ∙ ap (λ (xs : List ℕ). bytes ++ xs) (sym (empty j l)) ∙ held)

-- empty files have the texts that their pieces are
pub none_written : (manifest : Listed) (f g : Files) (pieces : List (List ℕ)) (text : ℕ → List ℕ)
    → ((j : ℕ) → j < output_count manifest → get_or pieces j [] ≡ text j)
    → Filled f g (output_count manifest) (output_name manifest) (λ j bytes. bytes ≡ []) → HasTextsAt manifest pieces f g text
none_written manifest f g pieces text is p =
    weaker f g (output_count manifest) (output_name manifest) (λ j bytes. bytes ≡ []) (Holds pieces text) p
    (λ j bytes l empty. ap (λ (xs : List ℕ). xs ++ get_or pieces j []) empty ∙ is j l)

-- one more id has its name, and one more piece its text
pub more_named : (old new : ℕ → Id) (ids : List ℕ) (id at : ℕ) (name : ℕ → List ℕ)
    → length ids ≡ at → ((j : ℕ) → j < at → old (get_or ids j 0) ≡ writing (name j))
    → ((i : ℕ) → (old i).given ≡ true → new i ≡ old i) → new id ≡ writing (name at)
    → (j : ℕ) → j < at + 1 → new (get_or (ids ++ id ∷ []) j 0) ≡ writing (name j)
more_named old new ids id at name long before kept here j lt = elim (cases_lt j at) [
  | inl below ↦
      let inside : j < length ids = omega arith in
      let was = before j below in
      ap new (get_or_append_left ids (id ∷ []) 0 j inside) ∙ kept (get_or ids j 0) (ap (λ (i : Id). i.given) was) ∙ was
  | inr above ↦
      let last : j ≡ length ids = omega arith in
      let same : j ≡ at = omega arith in
      ap (λ (k : ℕ). new (get_or (ids ++ id ∷ []) k 0)) last ∙ ap new (get_or-append_seam ids id [] 0) ∙ here ∙ ap (λ (k : ℕ). writing (name k)) (sym same)
]

pub more_texts : (pieces : List (List ℕ)) (piece : List ℕ) (at : ℕ) (text : ℕ → List ℕ)
    → length pieces ≡ at → ((j : ℕ) → j < at → get_or pieces j [] ≡ text j) → piece ≡ text at
    → (j : ℕ) → j < at + 1 → get_or (pieces ++ piece ∷ []) j [] ≡ text j
more_texts pieces piece at text long before here j lt = elim (cases_lt j at) [
  | inl below ↦
      let inside : j < length pieces = omega arith in
      get_or_append_left pieces (piece ∷ []) [] j inside ∙ before j below
  | inr above ↦
      let last : j ≡ length pieces = omega arith in
      let same : j ≡ at = omega arith in
      ap (λ (k : ℕ). get_or (pieces ++ piece ∷ []) k []) last ∙ get_or-append_seam pieces piece [] [] ∙ here ∙ ap text (sym same)
]

-- ---- by kind
abbrev pub of_kind : Listed → (OutputKind → List ℕ) → ℕ → List ℕ
of_kind manifest text j = text (kind_at manifest j)

-- the text of one kind has more where that of its place has
pub kind_has_more : (manifest : Listed) (text : OutputKind → List ℕ) (j : ℕ) (o : OutputKind) (more : List ℕ) → j < output_count manifest → kind_at manifest j ≡ o
    → (k : ℕ) → k < output_count manifest → more_at (of_kind manifest text) j more k ≡ with_more text o more (kind_at manifest k)
kind_has_more manifest text j o more low is k lk = elim (cases_eq k j) [
  | inl same ↦
      let here : is_same o (kind_at manifest k) ≡ true = ap (λ (p : OutputKind). is_same o p) (ap (kind_at manifest) same ∙ is) ∙ same_itself o in
      rw (here, eq-eqb k j same) refl
  | inr other ↦
      let away : is_same o (kind_at manifest k) ≡ false = other_kind o (kind_at manifest k) (λ e. kinds_differ manifest k j lk low other (sym e ∙ sym is)) in
      rw (away, ne_eqb k j other) refl
]

pub by_kind : (manifest : Listed) (f g : Files) (pieces : List (List ℕ)) (text : OutputKind → List ℕ) (j : ℕ) (o : OutputKind) (more : List ℕ) → j < output_count manifest → kind_at manifest j ≡ o
    → HasTextsAt manifest pieces f g (more_at (of_kind manifest text) j more) → HasTexts manifest pieces f g (with_more text o more)
by_kind manifest f g pieces text j o more low is p =
    weaker f g (output_count manifest) (output_name manifest) (Holds pieces (more_at (of_kind manifest text) j more)) (Holds pieces (of_kind manifest (with_more text o more))) p
    (λ k bytes lk held. held ∙ kind_has_more manifest text j o more low is k lk)

-- the same texts
pub kinds_same : (manifest : Listed) (f g : Files) (pieces : List (List ℕ)) (text other : OutputKind → List ℕ) → ((o : OutputKind) → text o ≡ other o)
    → HasTexts manifest pieces f g text → HasTexts manifest pieces f g other
kinds_same manifest f g pieces text other same p =
    weaker f g (output_count manifest) (output_name manifest) (Holds pieces (of_kind manifest text)) (Holds pieces (of_kind manifest other)) p
    (λ k bytes lk held. held ∙ same (kind_at manifest k))

-- nothing more of a kind, and more of it twice
pub with_more_nothing : (text : OutputKind → List ℕ) (o k : OutputKind) → with_more text o [] k ≡ text k
with_more_nothing text o k = by_test (is_same o k)
  where
    by_test : (b : Bool) → (if b then text k ++ [] else text k) ≡ text k
    by_test true = append-nil (text k)
    by_test false = refl

pub with_more_twice : (text : OutputKind → List ℕ) (o : OutputKind) (xs ys : List ℕ) (k : OutputKind) → with_more (with_more text o xs) o ys k ≡ with_more text o (xs ++ ys) k
with_more_twice text o xs ys k = by_test (is_same o k)
  where
    by_test : (b : Bool) → (if b then (if b then text k ++ xs else text k) ++ ys else (if b then text k ++ xs else text k)) ≡ (if b then text k ++ (xs ++ ys) else text k)
    by_test true = append_assoc (text k) xs ys
    by_test false = refl

-- nothing more of an output
pub no_more : (manifest : Listed) (f g : Files) (pieces : List (List ℕ)) (text : OutputKind → List ℕ) (o : OutputKind)
    → HasTexts manifest pieces f g text → HasTexts manifest pieces f g (with_more text o [])
no_more manifest f g pieces text o = kinds_same manifest f g pieces text (with_more text o []) (λ k. sym (with_more_nothing text o k))

-- more, and then more
pub more_behind : (manifest : Listed) (f g : Files) (pieces : List (List ℕ)) (text : OutputKind → List ℕ) (o : OutputKind) (before one after : List ℕ) → before ++ one ≡ after
    → HasTexts manifest pieces f g (with_more (with_more text o before) o one) → HasTexts manifest pieces f g (with_more text o after)
more_behind manifest f g pieces text o before one after is =
    kinds_same manifest f g pieces (with_more (with_more text o before) o one) (with_more text o after)
    (λ k. with_more_twice text o before one k ∙ ap (λ (xs : List ℕ). with_more text o xs k) is)

-- more of a kind, spelled in another way
pub more_spelled : (manifest : Listed) (f g : Files) (pieces : List (List ℕ)) (text : OutputKind → List ℕ) (o p : OutputKind) (xs ys : List ℕ)
    → o ≡ p → xs ≡ ys → HasTexts manifest pieces f g (with_more text o xs) → HasTexts manifest pieces f g (with_more text p ys)
more_spelled manifest f g pieces text o p xs ys eo ex held =
    subst (λ (k : OutputKind). HasTexts manifest pieces f g (with_more text k ys)) eo
    (subst (λ (zs : List ℕ). HasTexts manifest pieces f g (with_more text o zs)) ex held)

-- the texts of one of a list more
pub texts_more : {X : Type 0} (text : X → List ℕ) (xs : List X) (i : ℕ) (x : X) → i < length xs → x ≡ get_or xs i x
    → flat_map text (take i xs) ++ text x ≡ flat_map text (take (i + 1) xs)
texts_more text xs i x inside is =
    ap (λ (ys : List ℕ). flat_map text (take i xs) ++ ys) (sym (append-nil (text x)))
    ∙ sym (flat_map-append text (take i xs) (x ∷ []))
    ∙ ap (λ y. flat_map text (take i xs ++ y ∷ [])) is
    ∙ ap (flat_map text) (sym (take_more xs i x inside))

-- a kind that isn't made has no file
pub unmade : (manifest : Listed) (o : OutputKind) (j : ℕ) → j < output_count manifest → (IsMade manifest.options manifest.tree o → ⊥) → kind_at manifest j ≢ o
unmade manifest o j low not e = not (subst (IsMade manifest.options manifest.tree) e (kind_is manifest j low).made)

pub not_written : (manifest : Listed) (f g : Files) (pieces : List (List ℕ)) (text : OutputKind → List ℕ) (o : OutputKind) (more : List ℕ) → (IsMade manifest.options manifest.tree o → ⊥)
    → HasTexts manifest pieces f g text → HasTexts manifest pieces f g (with_more text o more)
not_written manifest f g pieces text o more not p =
    weaker f g (output_count manifest) (output_name manifest) (Holds pieces (of_kind manifest text)) (Holds pieces (of_kind manifest (with_more text o more))) p
    (λ k bytes low held. held ∙ sym (ap (λ (b : Bool). if b then text (kind_at manifest k) ++ more else text (kind_at manifest k)) (other_kind o (kind_at manifest k) (λ e. unmade manifest o k low not (sym e)))))

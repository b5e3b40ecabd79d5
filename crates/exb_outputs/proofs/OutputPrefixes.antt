-- Outputs that were left in the middle of writing hold fronts of their texts.
use Rattle.std.proofs.Common.{◌≡◌, ◌<◌, ◌+◌, ◌++◌, ◌⊎◌, inl, inr, Bool, true, false, if◌then◌else◌, ℕ, zero, suc, List, [], ◌∷◌, length, take, drop, get_or, map, flat_map, Some, refl, ap, sym, ◌∙◌, subst, arith, append_assoc}
use Rattle.std.proofs.lemmas.Bool.{cases_eq}
use Rattle.std.proofs.lemmas.List.{append-nil, get_or-map}
use Rattle.std.proofs.lemmas.Grind.{flat_map-append}
use Rattle.exb_shelf.specs.Files.{Cut, Files, SameFiles, Puts, AddsFront, Filled}
use Rattle.exb_shelf.proofs.FileLemmas.{Apart, cut_empty, filled_one}
use Rattle.exb_journal.specs.declared.file_names.OutputKind.{OutputKind}
use Rattle.exb_outputs.specs.Manifests.{Listed, kind_at, output_count, output_name}
use Rattle.exb_cli.specs.Kinds.{is_same}
use Rattle.exb_outputs.specs.WrittenTexts.{AreCut, Holds, HasTexts, with_more}
use Rattle.exb_outputs.proofs.FileRows.{still_filled}
use Rattle.exb_outputs.proofs.WrittenTexts.{HasTextsAt, kind_has_more, more_at, more_at_here, more_at_other, of_kind, texts_more, with_more_nothing, with_more_twice}

-- ---- fronts
-- the first of two parts is a front of both
first_part : (xs ys : List ℕ) → (n : ℕ) × (xs ≡ take n (xs ++ ys))
first_part [] ys = (0, refl)
first_part (x ∷ xs) ys = (let r = first_part xs ys in (suc r.0, ap (λ (zs : List ℕ). x ∷ zs) r.1))

-- and so is each front of it
front_part : (n : ℕ) (xs ys : List ℕ) → (m : ℕ) × (take n xs ≡ take m (xs ++ ys))
front_part zero xs ys = (0, refl)
front_part (suc n) [] ys = (0, refl)
front_part (suc n) (x ∷ xs) ys = (let r = front_part n xs ys in (suc r.0, ap (λ (zs : List ℕ). x ∷ zs) r.1))

-- the first part with a front of the second
front_behind : (n : ℕ) (xs ys : List ℕ) → (m : ℕ) × (xs ++ take n ys ≡ take m (xs ++ ys))
front_behind n [] ys = (n, refl)
front_behind n (x ∷ xs) ys = (let r = front_behind n xs ys in (suc r.0, ap (λ (zs : List ℕ). x ∷ zs) r.1))

-- nothing is a front of each text
pub nothing_added : (f : Files) (name text : List ℕ) → AddsFront f f name text
nothing_added f name text = (0, record { here = λ had e. e ∙ ap Some (sym (append-nil had)); others = λ m d. refl })

-- ---- texts that go on
-- the text of a kind goes on as another
abbrev pub GoesOnAs : (OutputKind → List ℕ) → (OutputKind → List ℕ) → OutputKind → Type 0
GoesOnAs text whole o = (more : List ℕ) × (whole o ≡ text o ++ more)

pub goes_same : (text whole : OutputKind → List ℕ) (o : OutputKind) → whole o ≡ text o → GoesOnAs text whole o
goes_same text whole o is = ([], is ∙ sym (append-nil (text o)))

goes_more : (text : OutputKind → List ℕ) (o : OutputKind) (xs : List ℕ) (k : OutputKind) → GoesOnAs text (with_more text o xs) k
goes_more text o xs k = by_test (is_same o k)
  where
    by_test : (b : Bool) → (more : List ℕ) × ((if b then text k ++ xs else text k) ≡ text k ++ more)
    by_test true = (xs, refl)
    by_test false = ([], sym (append-nil (text k)))

-- ---- outputs that are cut
-- by place
abbrev pub AreCutAt : Listed → Files → Files → (ℕ → List ℕ) → Type 0
AreCutAt manifest f g text = Cut f g (output_count manifest) (output_name manifest) text

-- one whose text goes on
pub longer : (f g : Files) (manifest : Listed) (j : ℕ) (text whole : OutputKind → List ℕ) → GoesOnAs text whole (kind_at manifest j)
    → (g (output_name manifest j) ≡ f (output_name manifest j)) ⊎ ((n : ℕ) × (g (output_name manifest j) ≡ Some (take n (text (kind_at manifest j)))))
    → (g (output_name manifest j) ≡ f (output_name manifest j)) ⊎ ((n : ℕ) × (g (output_name manifest j) ≡ Some (take n (whole (kind_at manifest j)))))
longer f g manifest j text whole on (inl same) = inl same
longer f g manifest j text whole on (inr front) =
    let r = front_part front.0 (text (kind_at manifest j)) on.0 in
    inr (r.0, front.1 ∙ ap Some (r.1 ∙ ap (take r.0) (sym on.1)))

-- those whose texts go on
pub cut_longer : (manifest : Listed) (f g : Files) (text whole : OutputKind → List ℕ) → ((j : ℕ) → j < output_count manifest → GoesOnAs text whole (kind_at manifest j)) → AreCut manifest f g text → AreCut manifest f g whole
cut_longer manifest f g text whole goes p = record { each = λ j l. longer f g manifest j text whole (goes j l) (p.each j l); others = p.others }

-- those of the same texts
pub cut_same : (manifest : Listed) (f g : Files) (text whole : OutputKind → List ℕ) → ((o : OutputKind) → text o ≡ whole o) → AreCut manifest f g text → AreCut manifest f g whole
cut_same manifest f g text whole same = cut_longer manifest f g text whole (λ j l. goes_same text whole (kind_at manifest j) (sym (same (kind_at manifest j))))

-- those that have their texts so far
pub cut_now : (manifest : Listed) (f g : Files) (pieces : List (List ℕ)) (text : OutputKind → List ℕ) → HasTexts manifest pieces f g text → AreCut manifest f g text
cut_now manifest f g pieces text p = record {
  each = λ j l.
      let now = p.each j l in
      let r = first_part now.0 (get_or pieces j []) in
      inr (r.0, now.1 ∙ ap Some (r.1 ∙ ap (take r.0) now.2));
  others = p.others;
}

-- those that are whole
pub cut_whole : (manifest : Listed) (f g : Files) (text : OutputKind → List ℕ) → Filled f g (output_count manifest) (output_name manifest) (λ j bytes. bytes ≡ text (kind_at manifest j)) → AreCut manifest f g text
cut_whole manifest f g text p = record {
  each = λ j l.
      let now = p.each j l in
      let r = first_part (text (kind_at manifest j)) [] in
      inr (r.0, now.1 ∙ ap Some (now.2 ∙ r.1 ∙ ap (take r.0) (append-nil (text (kind_at manifest j)))));
  others = p.others;
}

-- where some were made, and the next one maybe too
pub cut_made : (manifest : Listed) (f g h : Files) (k : ℕ) → Apart (output_count manifest) (output_name manifest) → k < output_count manifest → Filled f g k (output_name manifest) (λ j bytes. bytes ≡ [])
    → SameFiles g h ⊎ Puts g h (output_name manifest k) [] → (text : OutputKind → List ℕ) → AreCut manifest f h text
cut_made manifest f g h k apart lt made (inl same) text =
    cut_empty f h (output_count manifest) k (output_name manifest) apart (omega arith) (still_filled f g h k (output_name manifest) (λ j bytes. bytes ≡ []) made same) (λ j. text (kind_at manifest j))
cut_made manifest f g h k apart lt made (inr put) text =
    cut_empty f h (output_count manifest) (k + 1) (output_name manifest) apart (omega arith)
    (filled_one f g h (output_count manifest) k (output_name manifest) (λ j bytes. bytes ≡ []) [] apart lt made put refl) (λ j. text (kind_at manifest j))

-- where a front of a piece and of more was added to one
cut_adds : (manifest : Listed) (f g h : Files) (pieces : List (List ℕ)) (text : ℕ → List ℕ) (j : ℕ) (more : List ℕ)
    → Apart (output_count manifest) (output_name manifest) → j < output_count manifest → HasTextsAt manifest pieces f g text
    → AddsFront g h (output_name manifest j) (get_or pieces j [] ++ more) → AreCutAt manifest f h (more_at text j more)
cut_adds manifest f g h pieces text j more apart lt p (n, added) = record {
  each = λ k l. elim (cases_eq k j) [
    | inl same ↦
        let now = p.each k l in
        let name = output_name manifest in
        let was : g (name j) ≡ Some now.0 = ap g (ap name (sym same)) ∙ now.1 in
        let r = front_behind n now.0 (get_or pieces j [] ++ more) in
        let whole : now.0 ++ (get_or pieces j [] ++ more) ≡ more_at text j more k =
        sym (append_assoc now.0 (get_or pieces j []) more)
        ∙ ap (λ (xs : List ℕ). xs ++ more) (subst (λ (i : ℕ). Holds pieces text i now.0) same now.2)
        ∙ sym (more_at_here text j more)
        ∙ ap (more_at text j more) (sym same) in
        inr (r.0, ap h (ap name same) ∙ added.here now.0 was ∙ ap Some (r.1 ∙ ap (take r.0) whole))
    | inr other ↦
        let now = p.each k l in
        let r = first_part now.0 (get_or pieces k []) in
        inr (
          r.0,
          added.others (output_name manifest k) (apart k j l lt other) ∙ now.1
              ∙ ap Some (r.1 ∙ ap (take r.0) (now.2 ∙ sym (more_at_other text j more k other))),
        )
  ];
  others = λ m away. added.others m (away j lt) ∙ p.others m away;
}

-- the same of the pieces of values, where one is read
pub cut_at : {X : Type 0} (of : X → List ℕ) (manifest : Listed) (f g h : Files) (all : List X) (text : ℕ → List ℕ) (j : ℕ) (was : X) (name more : List ℕ)
    → Apart (output_count manifest) (output_name manifest) → j < output_count manifest → length all ≡ output_count manifest → was ≡ get_or all j was → name ≡ output_name manifest j
    → HasTextsAt manifest (map of all) f g text → AddsFront g h name (of was ++ more) → AreCutAt manifest f h (more_at text j more)
cut_at of manifest f g h all text j was name more apart lt long read named p added =
    let inside : j < length all = omega arith in
    let piece : get_or (map of all) j [] ≡ of was = get_or-map of all j was [] inside ∙ ap of (sym read) in
    cut_adds manifest f g h (map of all) text j more apart lt p
    (subst (λ (n : List ℕ). AddsFront g h n (get_or (map of all) j [] ++ more)) named
    (subst (λ (xs : List ℕ). AddsFront g h name (xs ++ more)) (sym piece) added))

-- the same by kind
pub cut_kind : (manifest : Listed) (f g : Files) (text : OutputKind → List ℕ) (j : ℕ) (o : OutputKind) (more : List ℕ) → j < output_count manifest → kind_at manifest j ≡ o
    → AreCutAt manifest f g (more_at (of_kind manifest text) j more) → AreCut manifest f g (with_more text o more)
cut_kind manifest f g text j o more low is p = record {
  each = λ k l. elim (p.each k l) [
    | inl same ↦ inl same
    | inr front ↦ inr (front.0, front.1 ∙ ap Some (ap (take front.0) (kind_has_more manifest text j o more low is k l)))
  ];
  others = p.others;
}

-- and nothing more
pub cut_piece : {X : Type 0} (of : X → List ℕ) (manifest : Listed) (f g h : Files) (all : List X) (text : OutputKind → List ℕ) (j : ℕ) (was : X) (name : List ℕ)
    → Apart (output_count manifest) (output_name manifest) → j < output_count manifest → length all ≡ output_count manifest → was ≡ get_or all j was → name ≡ output_name manifest j
    → HasTexts manifest (map of all) f g text → AddsFront g h name (of was) → AreCut manifest f h text
cut_piece of manifest f g h all text j was name apart lt long read named p added =
    cut_same manifest f h (with_more text (kind_at manifest j) []) text (λ k. with_more_nothing text (kind_at manifest j) k)
    (cut_kind manifest f h text j (kind_at manifest j) [] lt refl
    (cut_at of manifest f g h all (of_kind manifest text) j was name [] apart lt long read named p (subst (λ (xs : List ℕ). AddsFront g h name xs) (sym (append-nil (of was))) added)))

-- more of one output
pub cut_more : (manifest : Listed) (f g : Files) (text : OutputKind → List ℕ) (o : OutputKind) (more : List ℕ) → AreCut manifest f g text → AreCut manifest f g (with_more text o more)
cut_more manifest f g text o more = cut_longer manifest f g text (with_more text o more) (λ k l. goes_more text o more (kind_at manifest k))

pub cut_spelled : (manifest : Listed) (f g : Files) (text : OutputKind → List ℕ) (o p : OutputKind) (xs ys : List ℕ) → o ≡ p → xs ≡ ys → AreCut manifest f g (with_more text o xs) → AreCut manifest f g (with_more text p ys)
cut_spelled manifest f g text o p xs ys eo ex cut =
    subst (λ (k : OutputKind). AreCut manifest f g (with_more text k ys)) eo (subst (λ (zs : List ℕ). AreCut manifest f g (with_more text o zs)) ex cut)

-- ---- in the middle of a list
-- what is before, one more, and the rest
pub cut_behind : (manifest : Listed) (f g : Files) (text : OutputKind → List ℕ) (o : OutputKind) (before one rest whole : List ℕ) → (before ++ one) ++ rest ≡ whole
    → AreCut manifest f g (with_more (with_more text o before) o one) → AreCut manifest f g (with_more text o whole)
cut_behind manifest f g text o before one rest whole is =
    cut_longer manifest f g (with_more (with_more text o before) o one) (with_more text o whole)
    (λ k l.
    let p : OutputKind = kind_at manifest k in
    let on = goes_more (with_more text o (before ++ one)) o rest p in (
      on.0,
      ap (λ (xs : List ℕ). with_more text o xs p) (sym is) ∙ sym (with_more_twice text o (before ++ one) rest p) ∙ on.1
          ∙ ap (λ (xs : List ℕ). xs ++ on.0) (sym (with_more_twice text o before one p)),
    ))

pub both_parts : {X : Type 0} (n : ℕ) (xs : List X) → take n xs ++ drop n xs ≡ xs
both_parts zero xs = refl
both_parts (suc n) [] = refl
both_parts (suc n) (x ∷ xs) = ap (λ ys. x ∷ ys) (both_parts n xs)

-- the texts of a list, of which some are written and one is at work
pub texts_in_parts : {X : Type 0} (text : X → List ℕ) (xs : List X) (i : ℕ) (x : X) → i < length xs → x ≡ get_or xs i x
    → (flat_map text (take i xs) ++ text x) ++ flat_map text (drop (i + 1) xs) ≡ flat_map text xs
texts_in_parts text xs i x inside is =
    ap (λ (ys : List ℕ). ys ++ flat_map text (drop (i + 1) xs)) (texts_more text xs i x inside is)
    ∙ sym (flat_map-append text (take (i + 1) xs) (drop (i + 1) xs))
    ∙ ap (flat_map text) (both_parts (i + 1) xs)

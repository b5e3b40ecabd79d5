-- What a capture holds of what arrives.
use Rattle.std.proofs.Common.{◌≡◌, ◌∙◌, ℕ, suc, ◌+◌, ◌*◌, ◌/◌, ◌%◌, ◌<◌, ◌≤◌, ◌==◌, Bool, true, false, cond, List, [], ◌∷◌, ◌++◌, map, filter, length, take, get_or, All, refl, sym, ap, subst, arith, length-append, sum_by, append-nil, append_assoc}
use Rattle.std.specs.List.{flat_map}
use Rattle.std.proofs.lemmas.List.{map-append, map_more, take_all, get_or-map, length-map}
use Rattle.std.proofs.lemmas.List.Elements.{filter-append, All-map, All-filter}
use Rattle.std.proofs.lemmas.Grind.{flat_map-append}
use Rattle.std.proofs.lemmas.List.Sums.{sum_by-append, sum_by-cons}
use Rattle.exb_model.specs.FlatBridge.{Sent}
use Rattle.exb_model.specs.Input.{second_of}
use Rattle.exb_model.specs.Texts.{capture_header, four_bytes, capture_text, record_text}
use Rattle.exb_capture.specs.OutputCaptures.{CanBeWritten, in_microseconds}
use Rattle.exb_make.specs.DrawOrder.{Frame}
use Rattle.exb_make.specs.GeneratedInputs.{records_at}
use Rattle.exb_make.specs.GeneratedParts.{IsPlayable, sent_of, sent_at}

pub capture-none : (q : ℕ) → capture_header ≡ capture_text (sent_at [] q)
unfolding capture_text sent_at
capture-none q = refl

capture-append : (fs gs : List Frame) (q : ℕ) → capture_text (sent_at (fs ++ gs) q) ≡ capture_text (sent_at fs q) ++ flat_map record_text (sent_at gs q)
unfolding capture_text sent_at
capture-append fs gs q =
    ap (λ xs. capture_header ++ flat_map record_text (map sent_of xs)) (filter-append (λ f. f.port == q) fs gs)
    ∙ (ap (λ xs. capture_header ++ flat_map record_text xs) (map-append sent_of (filter (λ f. f.port == q) fs) (filter (λ f. f.port == q) gs))
    ∙ (ap (λ xs. capture_header ++ xs) (flat_map-append record_text (map sent_of (filter (λ f. f.port == q) fs)) (map sent_of (filter (λ f. f.port == q) gs)))
    ∙ sym (append_assoc capture_header (flat_map record_text (map sent_of (filter (λ f. f.port == q) fs))) (flat_map record_text (map sent_of (filter (λ f. f.port == q) gs))))))

one-yes : (f : Frame) (q : ℕ) → (f.port == q) ≡ true → flat_map record_text (sent_at (f ∷ []) q) ≡ record_text (sent_of f)
unfolding sent_at
one-yes f q is = ap (λ (b : Bool). flat_map record_text (map sent_of (cond b (f ∷ []) []))) is ∙ append-nil (record_text (sent_of f))

one-no : (f : Frame) (q : ℕ) → (f.port == q) ≡ false → flat_map record_text (sent_at (f ∷ []) q) ≡ []
unfolding sent_at
one-no f q isnt = ap (λ (b : Bool). flat_map record_text (map sent_of (cond b (f ∷ []) []))) isnt

module _ {X : Type 0} (see : X → Frame) (xs : List X) (i : ℕ) (x : X) (l : i < length xs) (is : x ≡ get_or xs i x) where
  taken : map see (take (i + 1) xs) ≡ map see (take i xs) ++ see x ∷ []
  taken = map_more see xs i x l ∙ ap (λ y. map see (take i xs) ++ see y ∷ []) (sym is)

  pub capture-yes : (q : ℕ) (old new : List ℕ) → ((see x).port == q) ≡ true → old ≡ capture_text (sent_at (map see (take i xs)) q) → new ≡ old ++ record_text (sent_of (see x)) →
      new ≡ capture_text (sent_at (map see (take (i + 1) xs)) q)
  capture-yes q old new here before one =
      one
      ∙ (ap (λ us. us ++ record_text (sent_of (see x))) before
      ∙ (ap (λ us. capture_text (sent_at (map see (take i xs)) q) ++ us) (sym (one-yes (see x) q here))
      ∙ (sym (capture-append (map see (take i xs)) (see x ∷ []) q) ∙ ap (λ us. capture_text (sent_at us q)) (sym taken))))

  pub capture-no : (q : ℕ) (old : List ℕ) → ((see x).port == q) ≡ false → old ≡ capture_text (sent_at (map see (take i xs)) q) → old ≡ capture_text (sent_at (map see (take (i + 1) xs)) q)
  capture-no q old elsewhere before =
      before
      ∙ (sym (append-nil (capture_text (sent_at (map see (take i xs)) q)))
      ∙ (ap (λ us. capture_text (sent_at (map see (take i xs)) q) ++ us) (sym (one-no (see x) q elsewhere))
      ∙ (sym (capture-append (map see (take i xs)) (see x ∷ []) q) ∙ ap (λ us. capture_text (sent_at us q)) (sym taken))))

  -- each passes, so the one at a place does
  pub passes : (P : Frame → Type 0) → All P (map see xs) → P (see x)
  passes P all =
      let low : i < length (map see xs) = simp length-map l in
      subst P (get_or-map see xs i x (see x) l ∙ ap see (sym is)) (all i (see x) low)

pub capture-all : {X : Type 0} (see : X → Frame) (xs : List X) (i q : ℕ) (file : List ℕ) → length xs ≤ i → file ≡ capture_text (sent_at (map see (take i xs)) q) → file ≡ capture_text (sent_at (map see xs) q)
capture-all see xs i q file end before = before ∙ ap (λ us. capture_text (sent_at (map see us) q)) (take_all i xs end)

-- ---- what is written is read
pub can_be_written : (fs : List Frame) (q : ℕ) → All IsPlayable fs → All CanBeWritten (sent_at fs q)
unfolding sent_at
can_be_written fs q all =
    All-map CanBeWritten sent_of (filter (λ f. f.port == q) fs)
    (λ k d l. let p = All-filter (λ f. f.port == q) IsPlayable fs all k d l in record { moment = p.moment; bytes = (let b = p.bytes in omega (arith, b)) })

whole : (fs : List Frame) → All IsPlayable fs → map in_microseconds (map sent_of fs) ≡ map (λ f. f.record_there) fs
whole [] all = refl
whole (f ∷ fs) all =
    let p = all 0 f (omega arith) in
    ap (λ (t : ℕ). record { time = t; bytes = f.record_there.bytes } ∷ map in_microseconds (map sent_of fs)) p.whole
    ∙ ap (λ rs. f.record_there ∷ rs) (whole fs (λ k d l. all (suc k) d (omega arith)))

pub read-records : (fs : List Frame) (q : ℕ) → All IsPlayable fs → map in_microseconds (sent_at fs q) ≡ records_at fs q
unfolding sent_at records_at
read-records fs q all = whole (filter (λ f. f.port == q) fs) (All-filter (λ f. f.port == q) IsPlayable fs all)

-- ---- captures are small
four-length : (n : ℕ) → length (four_bytes n) ≡ 4
four-length n = refl

record-length : (x : Sent) → length (record_text x) ≡ 16 + length x.1
record-length x =
    let a = four_bytes (second_of x.0) in
    let b = four_bytes (x.0 % 1000000000 / 1000) in
    let c = four_bytes (length x.1) in
    let e = length-append (a ++ b ++ c ++ c) x.1 in
    let f = length-append (a ++ b ++ c) c in
    let g = length-append (a ++ b) c in
    let h = length-append a b in
    let i = four-length (second_of x.0) in
    let j = four-length (x.0 % 1000000000 / 1000) in
    let k = four-length (length x.1) in
    omega (arith, e, f, g, h, i, j, k)

records-length : (fs : List Frame) (q : ℕ) → All IsPlayable fs → length (flat_map record_text (sent_at fs q)) ≤ 80 * length fs
unfolding sent_at
records-length [] q all = omega arith
records-length (f ∷ fs) q all = by_test (f.port == q) (records-length fs q (λ k d l. all (suc k) d (omega arith)))
  where
    by_test : (b : Bool) → length (flat_map record_text (map sent_of (filter (λ x. x.port == q) fs))) ≤ 80 * length fs →
        length (flat_map record_text (map sent_of (cond b (f ∷ filter (λ x. x.port == q) fs) (filter (λ x. x.port == q) fs)))) ≤ 80 * length (f ∷ fs)
    by_test true rest =
        let short : length f.record_there.bytes ≤ 64 = (all 0 f (omega arith)).bytes in
        let e = length-append (record_text (sent_of f)) (flat_map record_text (map sent_of (filter (λ x. x.port == q) fs))) in
        let r = record-length (sent_of f) in
        omega (arith, short, e, r, rest)
    by_test false rest = omega (arith, rest)

pub small-capture : {X : Type 0} (see : X → Frame) (xs : List X) (q : ℕ) → All IsPlayable (map see xs) → length (capture_text (sent_at (map see xs) q)) ≤ 24 + 80 * length xs
unfolding capture_text
small-capture see xs q all =
    let e = length-append capture_header (flat_map record_text (sent_at (map see xs) q)) in
    let r = records-length (map see xs) q all in
    let n = length-map xs see in
    omega (arith, e, r, n)

-- ---- one capture more
module _ {A B C : Type 0} (f : A → C) (g : B → C) where
  pub one-more : (old new : List A) (a : A) (ps : List B) (i : ℕ) (p : B) → i < length ps → p ≡ get_or ps i p → map f old ≡ map g (take i ps) → new ≡ old ++ a ∷ [] → f a ≡ g p →
      map f new ≡ map g (take (i + 1) ps)
  one-more old new a ps i p l is before pushed same =
      ap (map f) pushed
      ∙ (map-append f old (a ∷ [])
      ∙ (ap (λ xs. xs ++ f a ∷ []) before
      ∙ (ap (λ x. map g (take i ps) ++ x ∷ []) (same ∙ ap g is) ∙ sym (map_more g ps i p l))))

  -- all of them
  pub all-done : (xs : List A) (ps : List B) (i : ℕ) → length ps ≤ i → map f xs ≡ map g (take i ps) → map f xs ≡ map g ps
  all-done xs ps i end before = before ∙ ap (map g) (take_all i ps end)

pub sum-more : {A : Type 0} (f : A → ℕ) (old new : List A) (a : A) (most i : ℕ) → sum_by f old ≤ most * i → new ≡ old ++ a ∷ [] → f a ≤ most → sum_by f new ≤ most * (i + 1)
sum-more f old new a most i before pushed one =
    let e = ap (sum_by f) pushed ∙ sum_by-append f old (a ∷ []) in
    let h = sum_by-cons f a [] in
    step (sum_by f new) (sum_by f old) (f a) (sum_by f (a ∷ [])) e h before one
  where
    step : (s t n m : ℕ) → s ≡ t + m → m ≡ n + 0 → t ≤ most * i → n ≤ most → s ≤ most * (i + 1)
    step s t n m e h b o = grind arith

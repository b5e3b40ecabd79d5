-- Where captures stand that are read again, once a record of one has come.
use Rattle.std.proofs.Common.{◌≡◌, ℕ, suc, ◌+◌, ◌≤◌, List, [], ◌∷◌, ◌++◌, map, refl, sym, ap, ◌∙◌, arith, inl, inr, ne_eqb, eq-eqb}
use Rattle.std.specs.Prelude.{◌≢◌, sum_by, Option, Some, None, IfSome}
use Rattle.std.specs.List.{AllByRecursion}
use Rattle.std.proofs.lemmas.List.Sums.{sum_by-cons, sum_by-append}
use Rattle.exb_model.specs.Input.{second_of}
use Rattle.exb_capture.specs.CaptureFiles.{left_to_read}
use Rattle.exb_capture.specs.Replays.{IsSince}
use Rattle.exb_timeline.specs.declared.capture_merge.CaptureSource.{CaptureSource}
use Rattle.exb_timeline.specs.CaptureMerges.{Apart, Standing, standing_of, number_of, gone_on, HasPort}
use Rattle.exb_timeline.proofs.ListMembers.{all-right}
use Rattle.exb_timeline.proofs.ListPlaces.{all_on, all_put}

-- neither of one port nor read through one id
abbrev pub AreApart : CaptureSource → CaptureSource → Type 0
AreApart s t = (t.port ≢ s.port) × (t.replay.file.id ≢ s.replay.file.id)

pub apart_before : (before after : List CaptureSource) (s : CaptureSource) → Apart (before ++ s ∷ after) → AllByRecursion (AreApart s) before
apart_before [] after s h = tt
apart_before (t ∷ before) after s h =
    let own : AreApart t s = (all-right (AreApart t) before (s ∷ after) h.0).0 in
    ((λ e. own.0 (sym e), λ e. own.1 (sym e)), apart_before before after s h.1)

pub apart_after : (before after : List CaptureSource) (s : CaptureSource) → Apart (before ++ s ∷ after) → AllByRecursion (AreApart s) after
apart_after [] after s h = h.0
apart_after (t ∷ before) after s h = apart_after before after s h.1

-- the same one, further on
pub apart_put : (before after : List CaptureSource) (s s' : CaptureSource) → s'.port ≡ s.port → s'.replay.file.id ≡ s.replay.file.id → Apart (before ++ s ∷ after) → Apart (before ++ s' ∷ after)
apart_put [] after s s' port id h = (all_on (AreApart s) (AreApart s') after (λ t k. (λ e. k.0 (e ∙ port), λ e. k.1 (e ∙ id))) h.0, h.1)
apart_put (t ∷ before) after s s' port id h =
    (all_put (AreApart t) before after s s' (λ k. (λ e. k.0 (sym port ∙ e), λ e. k.1 (sym id ∙ e))) h.0, apart_put before after s s' port id h.1)

-- one more
pub apart_more : (xs : List CaptureSource) (s : CaptureSource) → AllByRecursion (λ t. AreApart t s) xs → Apart xs → Apart (xs ++ s ∷ [])
apart_more [] s others h = (tt, tt)
apart_more (t ∷ xs) s others h = (one_more xs h.0, apart_more xs s others.1 h.1)
  where
    one_more : (ys : List CaptureSource) → AllByRecursion (AreApart t) ys → AllByRecursion (AreApart t) (ys ++ s ∷ [])
    one_more [] all = (others.0, tt)
    one_more (y ∷ ys) all = (all.0, one_more ys all.1)

-- ---- where they stand
pub has_port : (before after : List CaptureSource) (s : CaptureSource) → HasPort s.port (map standing_of (before ++ s ∷ after))
has_port [] after s = inl refl
has_port (t ∷ before) after s = inr (has_port before after s)

pub ports_apart : (xs : List CaptureSource) (p : ℕ) → (HasPort p (map standing_of xs) → ⊥) → AllByRecursion (λ (t : CaptureSource). p ≢ t.port) xs
ports_apart [] p never = tt
ports_apart (t ∷ xs) p never = (λ e. never (inl (sym e)), ports_apart xs p (λ h. never (inr h)))

pub number_is : (before after : List CaptureSource) (s : CaptureSource) → AllByRecursion (AreApart s) before → number_of (map standing_of (before ++ s ∷ after)) s.port ≡ s.index
number_is [] after s apart = rw (eq-eqb s.port s.port refl) refl
number_is (t ∷ before) after s apart = rw (ne_eqb t.port s.port apart.0.0) (number_is before after s apart.1)

pub goes_on : (before after : List CaptureSource) (s s' : CaptureSource) (m : ℕ) → AllByRecursion (AreApart s) before → s'.port ≡ s.port → s'.index ≡ suc s.index → s'.replay.least ≡ m →
    map standing_of (before ++ s' ∷ after) ≡ gone_on s.port m (map standing_of (before ++ s ∷ after))
goes_on [] after s s' m apart port index least =
    let same : standing_of s' ≡ record { port = s.port; index = suc s.index; least = m } = rw (port, index, least) refl in
    rw (eq-eqb s.port s.port refl) (ap (λ (x : Standing). x ∷ map standing_of after) same)
goes_on (t ∷ before) after s s' m apart port index least =
    rw (ne_eqb t.port s.port apart.0.0) (ap (λ (xs : List Standing). standing_of t ∷ xs) (goes_on before after s s' m apart.1 port index least))

abbrev pub left_of : CaptureSource → ℕ
left_of s = left_to_read s.replay.file

-- what is left of all falls with what is left of one
pub left_less : (before after : List CaptureSource) (s s' : CaptureSource) → left_of s' + 16 ≤ left_of s → sum_by left_of (before ++ s' ∷ after) + 16 ≤ sum_by left_of (before ++ s ∷ after)
left_less before after s s' less =
    omega (arith, less, sum_by-append left_of before (s ∷ after), sum_by-append left_of before (s' ∷ after), sum_by-cons left_of s after, sum_by-cons left_of s' after)

pub left_more : (xs : List CaptureSource) (s : CaptureSource) → sum_by left_of (xs ++ s ∷ []) ≡ sum_by left_of xs + left_of s
left_more xs s = omega (arith, sum_by-append left_of xs (s ∷ []), sum_by-cons left_of s [])

-- the id through which each is read
abbrev pub id_of : CaptureSource → ℕ
id_of s = s.replay.file.id

pub ids_same : (before after : List CaptureSource) (s s' : CaptureSource) → id_of s' ≡ id_of s → map id_of (before ++ s' ∷ after) ≡ map id_of (before ++ s ∷ after)
ids_same [] after s s' e = ap (λ k. k ∷ map id_of after) e
ids_same (t ∷ before) after s s' e = ap (λ ks. id_of t ∷ ks) (ids_same before after s s' e)

pub is_mine : (before after : List CaptureSource) (s : CaptureSource) (j : ℕ) → AllByRecursion (λ k. j ≢ k) (map id_of (before ++ s ∷ after)) → j ≢ id_of s
is_mine [] after s j others = others.0
is_mine (t ∷ before) after s j others = is_mine before after s j others.1

-- ---- what was told of the first
pub since_told : (second m : ℕ) (first : Option ℕ) → IsSince first m → IfSome first (λ k. second ≤ second_of k) → second ≤ second_of m
since_told second m None s h = absurd (let no : None ≡ Some s.0 = s.1 in cc)
since_told second m (Some k) s h = let same : k ≡ s.0 = (let e : Some k ≡ Some s.0 = s.1 in cc) in omega (arith, same, h, s.2)

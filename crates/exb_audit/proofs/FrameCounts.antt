-- Lines have as many of some frames as are counted.
use Rattle.std.proofs.Common.{◌≡◌, ℕ, ◌+◌, ◌<◌, true, false, List, [], ◌∷◌, ◌++◌, length, take, Option, Some, None, refl, sym, ap, ◌∙◌, subst, arith, append-nil}
use Rattle.std.specs.Prelude.{flat_map, slice_get}
use Rattle.std.proofs.lemmas.Bool.{false≢true}
use Rattle.std.proofs.lemmas.List.{take_more, take_all, length-take-le}
use Rattle.std.proofs.lemmas.List.Concat.{flat_map-append}
use Rattle.std.proofs.lemmas.Option.{slice_get_within, get_or_from_slice_get}
use Rattle.std.proofs.lemmas.Slice.Eq.{bytes_eq-Decides}
use Rattle.exb_model.specs.Traces.{TraceLine}
use Rattle.exb_audit.specs.FrameCounts.{IsSoFar}
use Rattle.exb_audit.specs.Frames.{is_frame, is_next}

pub get_at : {A : Type 0} (xs ys : List A) (y : A) (n : ℕ) → length xs ≡ n → slice_get (xs ++ y ∷ ys) n ≡ Some y
get_at {A = A} xs ys y n e = subst (λ m. slice_get (xs ++ y ∷ ys) m ≡ Some y) e (here xs)
  where
    here : (zs : List A) → slice_get (zs ++ y ∷ ys) (length zs) ≡ Some y
    here [] = refl
    here (z ∷ zs) = here zs

-- the frame that stands there
frame_there : (f : List ℕ) (o : Option (List ℕ)) → is_frame f o ≡ true → o ≡ Some f
frame_there f None e = absurd (false≢true e)
frame_there f (Some g) e = ap (λ (z : List ℕ). Some z) ((bytes_eq-Decides g f).0 e)

pub next_is : (all : List (List ℕ)) (n : ℕ) (f : List ℕ) → is_next all n f ≡ true → slice_get all n ≡ Some f
next_is all n f e = frame_there f (slice_get all n) e

pub is_there : (all : List (List ℕ)) (n : ℕ) (f : List ℕ) → slice_get all n ≡ Some f → is_next all n f ≡ true
is_there all n f e = ap (is_frame f) e ∙ (bytes_eq-Decides f f).1 refl

module _ (pick : TraceLine → List (List ℕ)) (all : List (List ℕ)) where
  pub picked : (before : List TraceLine) (l : TraceLine) → flat_map pick (before ++ l ∷ []) ≡ flat_map pick before ++ pick l
  picked before l = flat_map-append pick before (l ∷ []) ∙ ap (λ us. flat_map pick before ++ us) (append-nil (pick l))

  pub none_more : (before : List TraceLine) (l : TraceLine) (n : ℕ) → pick l ≡ [] → IsSoFar pick before all n → IsSoFar pick (before ++ l ∷ []) all n
  none_more before l n e s = record { low = s.low; is = picked before l ∙ ap (λ us. flat_map pick before ++ us) e ∙ append-nil (flat_map pick before) ∙ s.is }

  pub one_more : (before : List TraceLine) (l : TraceLine) (n : ℕ) (f : List ℕ) → pick l ≡ f ∷ [] → is_next all n f ≡ true → IsSoFar pick before all n → IsSoFar pick (before ++ l ∷ []) all (n + 1)
  one_more before l n f e next s =
      let there : slice_get all n ≡ Some f = next_is all n f next in
      let within : n < length all = slice_get_within all n f there in
      record {
        low = omega (arith, within);
        is = picked before l ∙ ap (λ us. flat_map pick before ++ us) e ∙ ap (λ us. us ++ f ∷ []) s.is ∙ ap (λ g. take n all ++ g ∷ []) (sym (get_or_from_slice_get all n f f there)) ∙ sym (take_more all n f within);
      }

  pub wrong : (before after : List TraceLine) (l : TraceLine) (n : ℕ) (f : List ℕ) → pick l ≡ f ∷ [] → is_next all n f ≡ false → IsSoFar pick before all n → flat_map pick (before ++ l ∷ after) ≡ all → ⊥
  wrong before after l n f e next s whole = false≢true (sym next ∙ is_there all n f there)
    where
      parts : take n all ++ f ∷ flat_map pick after ≡ all
      parts = ap (λ us. us ++ f ∷ flat_map pick after) (sym s.is) ∙ ap (λ us. flat_map pick before ++ (us ++ flat_map pick after)) (sym e) ∙ sym (flat_map-append pick before (l ∷ after)) ∙ whole

      there : slice_get all n ≡ Some f
      there = ap (λ us. slice_get us n) (sym parts) ∙ get_at (take n all) (flat_map pick after) f n (length-take-le n all s.low)

  pub whole : (lines : List TraceLine) (n : ℕ) → n ≡ length all → IsSoFar pick lines all n → flat_map pick lines ≡ all
  whole lines n e s = s.is ∙ take_all n all (omega (arith, e))

  pub counted : (lines : List TraceLine) (n : ℕ) → flat_map pick lines ≡ all → IsSoFar pick lines all n → n ≡ length all
  counted lines n e s = sym (length-take-le n all s.low) ∙ ap length (sym s.is ∙ e)

  pub none_yet : IsSoFar pick [] all 0
  none_yet = record { low = omega arith; is = refl }

-- What makes a format.
use Rattle.std.proofs.Common.{◌≡◌, ◌<◌, ◌≤◌, ℕ, Bool, true, false, List, [], ◌∷◌, ◌++◌, length, Result, Ok, Err, cond, refl, ap, sym, subst, ◌∙◌, arith, length-append}
use Rattle.std.specs.Prelude.{nat_lt, nat_eq, ◌==◌, ◌&&◌}
use Rattle.std.proofs.lemmas.Bool.{ltb-false, le-ltb, ne_eqb, false≢true, false_from_ne_true}
use Rattle.exb_capture.specs.Fields.{◌>>=◌, refuse, agrees}
use Rattle.exb_capture.specs.Formats.{Front, Nothing, Short, Bad, Over, Holds}
use Rattle.exb_capture.specs.Captures.{mapped}
use Rattle.exb_capture.specs.declared.fault.FormatFault.{FormatFault}
use Rattle.exb_capture.specs.ReaderMachine.{IsFormat, IsUndecided, IsNotCut}

-- it is decided: more bytes don't change it
abbrev pub IsDecided : {S : Type 0} → Front S → Type 0
IsDecided Nothing = ⊥
IsDecided (Short f) = ⊥
IsDecided (Bad f) = Unit {0}
IsDecided (Over n t) = Unit {0}
IsDecided (Holds x n t) = Unit {0}

-- a test of length is passed with more bytes too, and the first bytes are the same
pub longer : (h more : List ℕ) (n : ℕ) → n ≤ length h → nat_lt (length (h ++ more)) n ≡ false
longer h more n fits = le-ltb _ n (omega (arith, length-append h more))

pub not_empty : (h more : List ℕ) → 0 < length h → nat_eq (length (h ++ more)) 0 ≡ false
not_empty h more some = ne_eqb (length (h ++ more)) 0 (λ none. omega (arith, none, some, length-append h more))

-- what the bytes at the front are to what is there
abbrev pub IsMeasured : {S : Type 0} → ℕ → List ℕ → Front S → Type 0
IsMeasured most h Nothing = length h < most
IsMeasured most h (Short f) = (length h < most) × (f.at ≤ length h)
IsMeasured most h (Bad f) = f.at ≤ length h
IsMeasured most h (Over n t) = 0 < n
IsMeasured most h (Holds x n t) = (16 ≤ n) × (n ≤ length h)

-- ---- where a fault lies
-- its fault, if it has one, lies within so many bytes
abbrev pub LiesWithin : {X : Type 0} → ℕ → Result X FormatFault → Type 0
LiesWithin n (Ok x) = Unit {0}
LiesWithin n (Err f) = f.at ≤ n

pub then_within : {X Y : Type 0} (n : ℕ) (r : Result X FormatFault) (k : X → Result Y FormatFault) → LiesWithin n r → ((x : X) → LiesWithin n (k x)) → LiesWithin n (r >>= k)
then_within n (Ok x) k h j = j x
then_within n (Err f) k h j = h

pub refused_within : (n : ℕ) (b : Bool) (f : FormatFault) → f.at ≤ n → LiesWithin n (refuse b f)
refused_within n true f h = h
refused_within n false f h = tt

-- what isn't refused has at least this size
pub sized_within : {X : Type 0} (n least : ℕ) (b : Bool) (f : FormatFault) (k : Unit {0} → Result X FormatFault) → nat_lt n least ≡ b → f.at ≤ n → (least ≤ n → LiesWithin n (k tt)) → LiesWithin n (refuse b f >>= k)
sized_within n least true f k e h j = h
sized_within n least false f k e h j = j (ltb-false n least e)

pub chosen_within : {X : Type 0} (n : ℕ) (b : Bool) (x y : Result X FormatFault) → LiesWithin n x → LiesWithin n y → LiesWithin n (cond b x y)
chosen_within n true x y h k = h
chosen_within n false x y h k = k

pub further_within : {X : Type 0} (n m : ℕ) (r : Result X FormatFault) → n ≤ m → LiesWithin n r → LiesWithin m r
further_within n m (Ok x) less h = tt
further_within n m (Err f) less h = omega (arith, less, h)

-- ---- the format, by the two laws
pub format_by : {S : Type 0} (most : ℕ) (front : S → List ℕ → Front S)
    → ((s : S) (h more : List ℕ) → IsDecided (front s h) → front s (h ++ more) ≡ front s h)
    → ((s : S) (h : List ℕ) → IsMeasured most h (front s h))
    → ((s : S) (h : List ℕ) (f : FormatFault) → front s h ≡ Short f → IsUndecided front s h f.flaw) → ((s : S) → IsNotCut (front s [])) → IsFormat most front
format_by most front stands measured undecided blank = record {
  bad = λ s h more f e. stands s h more (subst IsDecided (sym e) tt) ∙ e;
  over = λ s h more n t e. stands s h more (subst IsDecided (sym e) tt) ∙ e;
  holds = λ s h more x n t e. stands s h more (subst IsDecided (sym e) tt) ∙ e;
  over_some = λ s h n t e. subst (IsMeasured most h) e (measured s h);
  holds_some = λ s h x n t e. (subst (IsMeasured most h) e (measured s h)).0;
  there = λ s h x n t e. (subst (IsMeasured most h) e (measured s h)).1;
  nothing = λ s h e. subst (IsMeasured most h) e (measured s h);
  short = λ s h f e. (subst (IsMeasured most h) e (measured s h)).0;
  bad_there = λ s h f e. subst (IsMeasured most h) e (measured s h);
  short_there = λ s h f e. (subst (IsMeasured most h) e (measured s h)).1;
  open_end = undecided;
  blank = blank;
}

-- ---- in other states
pub mapped_stands : {S T : Type 0} (f : S → T) (x y : Front S) → (IsDecided x → y ≡ x) → IsDecided (mapped f x) → mapped f y ≡ mapped f x
mapped_stands f Nothing y h = λ is. absurd is
mapped_stands f (Short x) y h = λ is. absurd is
mapped_stands f (Bad x) y h = λ is. ap (mapped f) (h tt)
mapped_stands f (Over n s) y h = λ is. ap (mapped f) (h tt)
mapped_stands f (Holds x n s) y h = λ is. ap (mapped f) (h tt)

pub mapped_measured : {S T : Type 0} (f : S → T) (most : ℕ) (h : List ℕ) (x : Front S) → IsMeasured most h x → IsMeasured most h (mapped f x)
mapped_measured f most h Nothing m = m
mapped_measured f most h (Short x) m = m
mapped_measured f most h (Bad x) m = m
mapped_measured f most h (Over n s) m = m
mapped_measured f most h (Holds x n s) m = m

-- ---- magic numbers
by_first : (t x y : Bool) → (x ≡ true → y ≡ true) → (t && x) ≡ true → (t && y) ≡ true
by_first true x y h d = h d
by_first false x y h d = d

-- bytes that begin otherwise go on otherwise
pub agrees_front : (m h more : List ℕ) → agrees m (h ++ more) ≡ true → agrees m h ≡ true
unfolding agrees
agrees_front [] h more e = refl
agrees_front (m ∷ ms) [] more e = refl
agrees_front (m ∷ ms) (b ∷ bs) more e = by_first (m == b) (agrees ms (bs ++ more)) (agrees ms bs) (agrees_front ms bs more) e

pub differs_on : (m h more : List ℕ) → agrees m h ≡ false → agrees m (h ++ more) ≡ false
differs_on m h more e = false_from_ne_true (agrees m (h ++ more)) (λ t. false≢true (sym e ∙ agrees_front m h more t))

pub agrees_whole : (m h more : List ℕ) → length m ≤ length h → agrees m (h ++ more) ≡ agrees m h
unfolding agrees
agrees_whole [] h more fits = refl
agrees_whole (m ∷ ms) [] more fits = absurd (omega arith)
agrees_whole (m ∷ ms) (b ∷ bs) more fits = ap (λ t. (m == b) && t) (agrees_whole ms bs more (omega arith))

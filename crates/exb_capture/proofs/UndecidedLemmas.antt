-- Faults that are none of being cut off, and bytes that fill up what is undecided.
use Rattle.std.proofs.Common.{◌≡◌, ◌<◌, ◌≤◌, ◌-◌, ℕ, Bool, true, false, List, [], ◌∷◌, ◌++◌, length, drop, Result, Ok, Err, cond, refl, sym, subst, inl, inr, arith, length-append}
use Rattle.std.specs.Prelude.{◌⊎◌, replicate, get_or, ◌==◌, ◌&&◌}
use Rattle.std.proofs.lemmas.Bool.{cases_lt, eq-eqb}
use Rattle.std.proofs.lemmas.List.{length-replicate, get_or-replicate, get_or_past, get_or_append_left, get_or-append_right}
use Rattle.exb_model.specs.Frames.{IsBytes}
use Rattle.exb_capture.specs.declared.fault.FormatFault.{FormatFault}
use Rattle.exb_capture.specs.declared.fault.Flaw.TheVariants.{Cut}
use Rattle.exb_capture.specs.Fields.{◌>>=◌, refuse, agrees}
use Rattle.exb_capture.specs.Formats.{Front, Nothing, Short, Bad, Over, Holds}
use Rattle.exb_capture.specs.Captures.{mapped}
use Rattle.exb_capture.specs.ReaderMachine.{IsOther, IsNotCut}

-- its fault, if it has one, is none of being cut off
abbrev pub IsWhole : {X : Type 0} → Result X FormatFault → Type 0
IsWhole (Ok x) = Unit {0}
IsWhole (Err f) = f.flaw ≡ Cut → ⊥

pub then_whole : {X Y : Type 0} (r : Result X FormatFault) (k : X → Result Y FormatFault) → IsWhole r → ((x : X) → IsWhole (k x)) → IsWhole (r >>= k)
then_whole (Ok x) k h j = j x
then_whole (Err f) k h j = h

pub refused_whole : (b : Bool) (f : FormatFault) → (f.flaw ≡ Cut → ⊥) → IsWhole (refuse b f)
refused_whole true f h = h
refused_whole false f h = tt

pub chosen_whole : {X : Type 0} (b : Bool) (x y : Result X FormatFault) → IsWhole x → IsWhole y → IsWhole (cond b x y)
chosen_whole true x y h k = h
chosen_whole false x y h k = k

-- ---- bytes
pub zeros_are_bytes : (n : ℕ) → IsBytes (replicate n 0)
zeros_are_bytes n i = by_place (cases_lt i n)
  where
    by_place : (i < n) ⊎ (n ≤ i) → get_or (replicate n 0) i 0 < 256
    by_place (inl h) = subst (λ (x : ℕ). x < 256) (sym (get_or-replicate n i 0 0 h)) (omega arith)
    by_place (inr h) = subst (λ (x : ℕ). x < 256) (sym (get_or_past (replicate n 0) i 0 (omega (arith, length-replicate {A = ℕ} n 0)))) (omega arith)

pub append_bytes : (xs ys : List ℕ) → IsBytes xs → IsBytes ys → IsBytes (xs ++ ys)
append_bytes xs ys a b i = by_place (cases_lt i (length xs))
  where
    by_place : (i < length xs) ⊎ (length xs ≤ i) → get_or (xs ++ ys) i 0 < 256
    by_place (inl h) = subst (λ (x : ℕ). x < 256) (sym (get_or_append_left xs ys 0 i h)) (a i)
    by_place (inr h) = subst (λ (x : ℕ). x < 256) (sym (get_or-append_right xs ys (length xs) i 0 refl h)) (b (i - length xs))

pub filled_long : (h : List ℕ) (n : ℕ) → length h ≤ n → length (h ++ replicate (n - length h) 0) ≡ n
filled_long h n few = omega (arith, few, length-append h (replicate (n - length h) 0), length-replicate {A = ℕ} (n - length h) 0)

-- ---- magic numbers
by_both : (t x y : Bool) → (t && x) ≡ true → (x ≡ true → y ≡ true) → (t && y) ≡ true
by_both true x y e h = h e
by_both false x y e h = e

agrees_own : (m : List ℕ) → agrees m m ≡ true
unfolding agrees
agrees_own [] = refl
agrees_own (b ∷ bs) = by_own (b == b) (agrees bs bs) (eq-eqb b b refl) (agrees_own bs)
  where
    by_own : (t x : Bool) → t ≡ true → x ≡ true → (t && x) ≡ true
    by_own true x e h = h
    by_own false x e h = e

-- what begins as a magic number can go on as that one
pub agrees_filled : (m h : List ℕ) → agrees m h ≡ true → agrees m (h ++ drop (length h) m) ≡ true
unfolding agrees
agrees_filled [] h e = refl
agrees_filled (b ∷ bs) [] e = agrees_own (b ∷ bs)
agrees_filled (b ∷ bs) (c ∷ cs) e = by_both (b == c) (agrees bs cs) (agrees bs (cs ++ drop (length cs) bs)) e (agrees_filled bs cs)

-- ---- in other states
pub mapped_other : {S T : Type 0} (m : S → T) (flaw : _) (n : ℕ) (x : Front S) → IsOther flaw n x → IsOther flaw n (mapped m x)
mapped_other m flaw n Nothing h = h
mapped_other m flaw n (Short f) h = h
mapped_other m flaw n (Bad f) h = h
mapped_other m flaw n (Over k s) h = h
mapped_other m flaw n (Holds x k s) h = h

pub mapped_short : {S T : Type 0} (m : S → T) (x : Front S) (f : FormatFault) → mapped m x ≡ Short f → x ≡ Short f
mapped_short m Nothing f e = absurd (cc)
mapped_short m (Short g) f e = let same : g ≡ f = cc in λ i. Short (same i)
mapped_short m (Bad g) f e = absurd (cc)
mapped_short m (Over k s) f e = absurd (cc)
mapped_short m (Holds x k s) f e = absurd (cc)

pub mapped_blank : {S T : Type 0} (m : S → T) (x : Front S) → IsNotCut x → IsNotCut (mapped m x)
mapped_blank m Nothing h = h
mapped_blank m (Short f) h = h
mapped_blank m (Bad f) h = h
mapped_blank m (Over k s) h = h
mapped_blank m (Holds x k s) h = h

-- What is read of what is left is what stands at its front, and what is read behind that: over any format.
use Rattle.std.proofs.Common.{◌≡◌, ◌<◌, ◌≤◌, ℕ, zero, suc, Bool, true, false, List, length, drop, cond, refl, ap, sym, ◌∙◌, arith, length-drop}
use Rattle.std.specs.Prelude.{nat_lt}
use Rattle.std.proofs.lemmas.Bool.{ltb-false, le-ltb}
use Rattle.exb_model.specs.Input.{Record}
use Rattle.exb_capture.specs.declared.fault.FormatFault.{FormatFault}
use Rattle.exb_capture.specs.declared.fault.Flaw.TheVariants.{Cut}
use Rattle.exb_capture.specs.Formats.{Front, Nothing, Short, Bad, Over, Holds, Capture, at_end, at_fault, before, continued, fault, behind, at_place, reading_within, reading_from}
use Rattle.exb_capture.specs.ReaderMachine.{IsFormat, reading_over}

continued_same : {S : Type 0} (o : Front S) (p : ℕ) (left : List ℕ) (f g : S → ℕ → List ℕ → Capture)
    → ((n : ℕ) (t : S) → o ≡ Over n t → n ≤ length left → f t (behind p n) (drop n left) ≡ g t (behind p n) (drop n left))
    → ((x : Record) (n : ℕ) (t : S) → o ≡ Holds x n t → f t (behind p n) (drop n left) ≡ g t (behind p n) (drop n left))
    → continued o p left f ≡ continued o p left g
continued_same Nothing p left f g h k = refl
continued_same (Short x) p left f g h k = refl
continued_same (Bad x) p left f g h k = refl
continued_same (Over n t) p left f g h k = by_long (nat_lt (length left) n) refl
  where
    by_long : (b : Bool) → nat_lt (length left) n ≡ b → cond b (at_fault (fault Cut p)) (f t (behind p n) (drop n left)) ≡ cond b (at_fault (fault Cut p)) (g t (behind p n) (drop n left))
    by_long true e = refl
    by_long false e = h n t refl (ltb-false (length left) n e)
continued_same (Holds x n t) p left f g h k = ap (before x p) (k x n t refl)

-- once there are more steps than bytes, the bound doesn't matter
pub within_enough : {S : Type 0} (most : ℕ) (front : S → List ℕ → Front S) (ok : IsFormat most front) (n m : ℕ) (s : S) (p : ℕ) (left : List ℕ) → length left < n → length left < m
    → reading_within front n s p left ≡ reading_within front m s p left
unfolding reading_within
within_enough most front ok zero m s p left h k = absurd (omega arith)
within_enough most front ok (suc n) zero s p left h k = absurd (omega arith)
within_enough most front ok (suc n) (suc m) s p left h k =
    continued_same (front s left) p left (reading_within front n) (reading_within front m)
    (λ i t e fits. let some = ok.over_some s left i t e in
    within_enough most front ok n m t (behind p i) (drop i left) (omega (arith, length-drop i left)) (omega (arith, length-drop i left)))
    (λ x i t e. let some = ok.holds_some s left x i t e in let fits = ok.there s left x i t e in
    within_enough most front ok n m t (behind p i) (drop i left) (omega (arith, length-drop i left)) (omega (arith, length-drop i left)))

module _ {S : Type 0} (most : ℕ) (front : S → List ℕ → Front S) (ok : IsFormat most front) where
  pub from_nothing : (s : S) (p : ℕ) (left : List ℕ) → front s left ≡ Nothing → reading_from front s p left ≡ at_end
  unfolding reading_from reading_within
  from_nothing s p left e = ap (λ o. continued o p left (reading_within front (length left))) e

  pub from_short : (s : S) (p : ℕ) (left : List ℕ) (f : FormatFault) → front s left ≡ Short f → reading_from front s p left ≡ at_fault (at_place p f)
  unfolding reading_from reading_within
  from_short s p left f e = ap (λ o. continued o p left (reading_within front (length left))) e

  pub from_bad : (s : S) (p : ℕ) (left : List ℕ) (f : FormatFault) → front s left ≡ Bad f → reading_from front s p left ≡ at_fault (at_place p f)
  unfolding reading_from reading_within
  from_bad s p left f e = ap (λ o. continued o p left (reading_within front (length left))) e

  behind_some : (t : S) (n p : ℕ) (left : List ℕ) → 0 < n → n ≤ length left
      → reading_within front (length left) t p (drop n left) ≡ reading_from front t p (drop n left)
  unfolding reading_from
  behind_some t n p left some fits =
      within_enough most front ok (length left) (suc (length (drop n left))) t p (drop n left) (omega (arith, length-drop n left)) (omega arith)

  pub from_over : (s : S) (p : ℕ) (left : List ℕ) (n : ℕ) (t : S) → front s left ≡ Over n t → reading_from front s p left ≡ reading_over front t n p (behind p n) left
  unfolding reading_from reading_within
  from_over s p left n t e = ap (λ o. continued o p left (reading_within front (length left))) e ∙ by_long (nat_lt (length left) n) refl
    where
      by_long : (b : Bool) → nat_lt (length left) n ≡ b
          → cond b (at_fault (fault Cut p)) (reading_within front (length left) t (behind p n) (drop n left)) ≡ cond b (at_fault (fault Cut p)) (reading_from front t (behind p n) (drop n left))
      by_long true e = refl
      by_long false long = behind_some t n (behind p n) left (ok.over_some s left n t e) (ltb-false (length left) n long)

  pub over_there : (s : S) (n b p : ℕ) (left : List ℕ) → n ≤ length left → reading_over front s n b p left ≡ reading_from front s p (drop n left)
  over_there s n b p left fits = ap (λ t. cond t (at_fault (fault Cut b)) (reading_from front s p (drop n left))) (le-ltb (length left) n fits)

  pub from_holds : (s : S) (p : ℕ) (left : List ℕ) (x : Record) (n : ℕ) (t : S) → front s left ≡ Holds x n t
      → reading_from front s p left ≡ before x p (reading_over front t n p (behind p n) left)
  unfolding reading_from reading_within
  from_holds s p left x n t e =
      ap (λ o. continued o p left (reading_within front (length left))) e
      ∙ ap (before x p) (behind_some t n (behind p n) left (let some = ok.holds_some s left x n t e in omega (arith, some)) (ok.there s left x n t e)
      ∙ sym (over_there t n p (behind p n) left (ok.there s left x n t e)))

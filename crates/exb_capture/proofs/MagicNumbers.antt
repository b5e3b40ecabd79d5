-- Magic numbers, byte by byte.
use Rattle.std.proofs.Common.{◌≡◌, ℕ, Bool, true, false, List, [], ◌∷◌, length, refl, sym, ◌∙◌, arith}
use Rattle.std.specs.Prelude.{◌==◌, ◌&&◌, ◌||◌}
use Rattle.std.proofs.lemmas.Bool.{lt-leb}
use Rattle.exb_capture.specs.Fields.{agrees, byte_agrees}

one : (p : Bool) → (p && true) ≡ (((p && true) && true) && true)
one true = refl
one false = refl

two : (p q : Bool) → (p && (q && true)) ≡ (((p && q) && true) && true)
two true true = refl
two true false = refl
two false q = refl

three : (p q r : Bool) → (p && (q && (r && true))) ≡ (((p && q) && r) && true)
three true true true = refl
three true true false = refl
three true false r = refl
three false q r = refl

four : (p q r s : Bool) → (p && (q && (r && (s && true)))) ≡ (((p && q) && r) && s)
four true true true true = refl
four true true true false = refl
four true true false s = refl
four true false r s = refl
four false q r s = refl

pub agrees_by : (a b c d : ℕ) (bytes : List ℕ)
    → (((byte_agrees a bytes 0 && byte_agrees b bytes 1) && byte_agrees c bytes 2) && byte_agrees d bytes 3) ≡ agrees (a ∷ b ∷ c ∷ d ∷ []) bytes
unfolding agrees
agrees_by a b c d [] = refl
agrees_by a b c d (x ∷ []) = sym (one (a == x))
agrees_by a b c d (x ∷ y ∷ []) = sym (two (a == x) (b == y))
agrees_by a b c d (x ∷ y ∷ z ∷ []) = sym (three (a == x) (b == y) (c == z))
agrees_by a b c d (x ∷ y ∷ z ∷ w ∷ rest) =
    (λ i. (((lt-leb (length (x ∷ y ∷ z ∷ w ∷ rest)) 0 (omega arith) i || (a == x)) && (lt-leb (length (x ∷ y ∷ z ∷ w ∷ rest)) 1 (omega arith) i || (b == y)))
    && (lt-leb (length (x ∷ y ∷ z ∷ w ∷ rest)) 2 (omega arith) i || (c == z))) && (lt-leb (length (x ∷ y ∷ z ∷ w ∷ rest)) 3 (omega arith) i || (d == w)))
    ∙ sym (four (a == x) (b == y) (c == z) (d == w))

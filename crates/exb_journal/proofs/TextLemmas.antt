-- Texts in pieces.
use Rattle.std.proofs.Common.{◌≡◌, ◌<◌, ◌+◌, ◌/◌, ◌%◌, ℕ, zero, suc, List, [], ◌∷◌, ◌++◌, length, take, take-add, drop, get_or, flat_map, refl, ap, ◌∙◌, arith, append_assoc, sym}
use Rattle.exb_model.specs.Traces.{hex_digit, hexadecimal}
use Rattle.exb_model.specs.declared.event.Event.{Event}
use Rattle.exb_model.specs.Texts.{line_of}

-- the thirteen pieces of a summary, of which a format string takes twelve together
pub summary_pieces : (a b c d e f g h i j k l m : List ℕ)
    → (a ++ (b ++ (c ++ (d ++ (e ++ (f ++ (g ++ (h ++ (i ++ (j ++ (k ++ l))))))))))) ++ m ≡ a ++ b ++ c ++ d ++ e ++ f ++ g ++ h ++ i ++ j ++ k ++ l ++ m
summary_pieces a b c d e f g h i j k l m = simp append_assoc

pub four_pieces : (a b c d e : List ℕ) → a ++ (b ++ (c ++ (d ++ e))) ≡ (a ++ b ++ c ++ d) ++ e
four_pieces a b c d e = simp append_assoc

-- ---- digits of bytes
-- those of some bytes and of others
digits_both : (xs ys : List ℕ) → hexadecimal (xs ++ ys) ≡ hexadecimal xs ++ hexadecimal ys
digits_both [] ys = refl
digits_both (x ∷ xs) ys = ap (λ (l : List ℕ). hex_digit (x / 16) ∷ hex_digit (x % 16) ∷ l) (digits_both xs ys)

-- those of a front, and of some bytes behind it
pub digits_more : (bytes : List ℕ) (at n : ℕ) → hexadecimal (take (at + n) bytes) ≡ hexadecimal (take at bytes) ++ hexadecimal (take n (drop at bytes))
digits_more bytes at n = ap hexadecimal (take-add at n bytes) ∙ digits_both (take at bytes) (take n (drop at bytes))

-- ---- lines one before another
-- behind an array nothing is left
pub nothing_behind : {X : Type 0} (xs : List X) (n : ℕ) → length xs ≡ n → drop n xs ≡ []
nothing_behind [] zero long = refl
nothing_behind [] (suc n) long = refl
nothing_behind (x ∷ xs) zero long = absurd (omega (arith, long))
nothing_behind (x ∷ xs) (suc n) long = nothing_behind xs n (omega (arith, long))

-- one item and those behind it
pub drop_before : {X : Type 0} (xs : List X) (k : ℕ) (d : X) → k < length xs → drop k xs ≡ get_or xs k d ∷ drop (suc k) xs
drop_before [] k d low = absurd (omega (arith, low))
drop_before (x ∷ xs) zero d low = refl
drop_before (x ∷ xs) (suc k) d low = drop_before xs k d (omega (arith, low))

-- the line of one event before those behind it
pub line_before : (events : List Event) (k n : ℕ) (e : Event) (text behind : List ℕ) → n ≡ suc k → k < length events → e ≡ get_or events k e
    → text ≡ line_of e ++ 10 ∷ behind → behind ≡ flat_map (λ (x : Event). line_of x ++ 10 ∷ []) (drop n events)
    → text ≡ flat_map (λ (x : Event). line_of x ++ 10 ∷ []) (drop k events)
line_before events k n e text behind next low is this rest =
    let line : Event → List ℕ = λ (x : Event). line_of x ++ 10 ∷ [] in
    let all : drop k events ≡ e ∷ drop (suc k) events = drop_before events k e low ∙ ap (λ (x : Event). x ∷ drop (suc k) events) (sym is) in
    let later : behind ≡ flat_map line (drop (suc k) events) = rest ∙ ap (λ (i : ℕ). flat_map line (drop i events)) next in
    this ∙ sym (append_assoc (line_of e) (10 ∷ []) behind) ∙ ap (λ (xs : List ℕ). line e ++ xs) later ∙ sym (ap (flat_map line) all)

-- Lines of a trace are read back as what they were written of.
use Rattle.std.proofs.Common.{◌≡◌, inl, inr, ℕ, suc, ◌+◌, ◌/◌, ◌%◌, ◌<◌, ◌≤◌, ◌==◌, true, false, List, [], ◌∷◌, ◌++◌, map, Some, refl, ap, sym, ◌∙◌, arith, append_assoc}
use Rattle.std.specs.Prelude.{codes, decimal, flat_map, option_and_then}
use Rattle.std.specs.List.{join_with_byte}
use Rattle.std.specs.Str.{bytes_eq, all_ascii_digits}
use Rattle.std.proofs.lemmas.Bool.{cases_lt, cases_eq, cases_Bool, lt-ltb, le-ltb, le-leb, lt-leb, eq-eqb, ne_eqb}
use Rattle.exb_model.specs.Frames.{IsBytes}
use Rattle.exb_trace_spec.specs.Traversals.{Each}
use Rattle.exb_trace_spec.proofs.EqualBytes.{bytes_is}
use Rattle.exb_trace_spec.specs.JournalLines.{entry_in}
use Rattle.exb_model.specs.Traces.{TraceLine, In, Out, Beat, Journal, hex_digit, hexadecimal, device_text, side_text, place_text, trace_line, trace_text}
use Rattle.exb_trace_spec.specs.TraceTexts.{digit_in, byte_in, bytes_in, device_in, side_in, passing_by, passing_in, journal_by, read_line, read_trace, IsSide, IsSpelled}
use Rattle.exb_trace_spec.specs.TextFields.{lines_in, words_in, all_read}
use Rattle.exb_trace_spec.specs.RoundTrips.{LinesReadBack, LinesDiffer, TracesReadBack}
use Rattle.exb_trace_spec.proofs.JournalLines.{words_back, joined_lacks, entry_lacks, entries_read_back}
use Rattle.exb_trace_spec.proofs.TextFields.{lacks, lacks_both, lines_back, all_back, decimal_lacks, small_back, digits_of_decimal}

-- ---- bytes
digit_back : (d : ℕ) → d < 16 → digit_in (hex_digit d) ≡ Some d
digit_back d low =
    elim (cases_lt d 10) [
      | inl small ↦ rw (lt-ltb d 10 small, le-leb 48 (48 + d) (omega arith), le-leb (48 + d) 57 (omega (arith, small))) (ap (λ (n : ℕ). Some n) (omega arith))
      | inr great ↦ rw (le-ltb d 10 great, lt-leb (87 + d) 57 (omega (arith, great)), le-leb 48 (87 + d) (omega arith), le-leb 97 (87 + d) (omega (arith, great)), le-leb (87 + d) 102 (omega (arith, low))) (ap (λ (n : ℕ). Some n) (omega arith))
    ]

digit_lacks : (c d : ℕ) → c < 48 → (hex_digit d == c) ≡ false
digit_lacks c d low = elim (cases_lt d 10) [ inl small ↦ rw (lt-ltb d 10 small) (ne_eqb (48 + d) c (λ e. omega (arith, low, e))) | inr great ↦ rw (le-ltb d 10 great) (ne_eqb (87 + d) c (λ e. omega (arith, low, e))) ]

byte_back : (b : ℕ) → b < 256 → byte_in (hex_digit (b / 16)) (hex_digit (b % 16)) ≡ Some b
byte_back b low = rw (digit_back (b / 16) (omega (arith, low)), digit_back (b % 16) (omega arith)) (ap (λ (n : ℕ). Some n) (omega arith))

bytes_back : (bytes : List ℕ) → IsBytes bytes → bytes_in (hexadecimal bytes) ≡ Some bytes
unfolding bytes_in
bytes_back [] all = refl
bytes_back (b ∷ bytes) all = rw (byte_back b (all 0), bytes_back bytes (λ i. all (suc i))) refl

bytes_lack : (c : ℕ) (bytes : List ℕ) → c < 48 → lacks c (hexadecimal bytes) ≡ true
bytes_lack c [] low = refl
bytes_lack c (b ∷ bytes) low = rw (digit_lacks c (b / 16) low, digit_lacks c (b % 16) low) (bytes_lack c bytes low)

-- ---- places
device_lacks : (c n : ℕ) → c < 48 → n ≤ 64 → lacks c (device_text n) ≡ true
device_lacks c n low small =
    elim (cases_eq n 0) [
      | inl e ↦ rw (eq-eqb n 0 e, ne_eqb 98 c (λ z. omega (arith, low, z))) refl
      | inr e ↦ rw (ne_eqb n 0 e, ne_eqb 120 c (λ z. omega (arith, low, z))) (decimal_lacks c n low (omega (arith, small)))
    ]

side_lacks : (c k : ℕ) → c < 48 → k ≤ 64 → lacks c (side_text k) ≡ true
side_lacks c k low small =
    elim (cases_eq k 0) [
      | inl e ↦ rw (eq-eqb k 0 e, ne_eqb 117 c (λ z. omega (arith, low, z)), ne_eqb 112 c (λ z. omega (arith, low, z))) refl
      | inr e ↦ rw (ne_eqb k 0 e) (decimal_lacks c k low (omega (arith, small)))
    ]

device_back : (n : ℕ) → n ≤ 64 → device_in (device_text n) ≡ Some n
device_back n small =
    elim (cases_eq n 0) [
      | inl e ↦ rw (eq-eqb n 0 e) (ap (λ (m : ℕ). Some m) (sym e))
      | inr e ↦ rw (ne_eqb n 0 e) (small_back n (omega (arith, e)) small)
    ]

-- a number isn't up
not_up : (k : ℕ) → k ≤ 64 → bytes_eq (decimal k) (codes "up") ≡ false
not_up k small =
    elim (cases_Bool (bytes_eq (decimal k) (codes "up"))) [
      | inl e ↦ absurd (no_digits (sym (ap all_ascii_digits (bytes_is (decimal k) (codes "up") e)) ∙ digits_of_decimal k (omega (arith, small))))
      | inr e ↦ e
    ]
  where
    no_digits : all_ascii_digits (codes "up") ≡ true → ⊥
    no_digits z = cc

side_back : (n k : ℕ) → IsSide n k → side_in n (side_text k) ≡ Some k
side_back n k its =
    elim (cases_eq k 0) [
      | inl e ↦ rw (eq-eqb k 0 e, ne_eqb n 0 (λ z. (let some = its.port z in omega (arith, e, some)))) (ap (λ (m : ℕ). Some m) (sym e))
      | inr e ↦ rw (ne_eqb k 0 e, not_up k its.side) (small_back k (omega (arith, e)) its.side)
    ]

-- ---- lines
pub place_words : (way : List ℕ) (n k : ℕ) (bytes : List ℕ) → way ++ (32 ∷ place_text n k bytes) ≡ join_with_byte 32 (way ∷ device_text n ∷ side_text k ∷ hexadecimal bytes ∷ [])
place_words way n k bytes =
    ap (λ (zs : List ℕ). way ++ (32 ∷ zs))
    (append_assoc (device_text n ++ codes " " ++ side_text k) (codes " ") (hexadecimal bytes)
    ∙ (append_assoc (device_text n ++ codes " ") (side_text k) (32 ∷ hexadecimal bytes) ∙ append_assoc (device_text n) (codes " ") (side_text k ++ (32 ∷ hexadecimal bytes))))

passing_back : (way : List ℕ) (n k : ℕ) (bytes : List ℕ) → lacks 32 way ≡ true → IsSide n k → IsBytes bytes → passing_in (words_in (way ++ (32 ∷ place_text n k bytes))) ≡ passing_by way n k bytes
passing_back way n k bytes plain its all =
    ap (λ (zs : List ℕ). passing_in (words_in zs)) (place_words way n k bytes)
    ∙ (ap passing_in (words_back way (device_text n ∷ side_text k ∷ hexadecimal bytes ∷ []) (plain, (device_lacks 32 n (omega arith) its.device, (side_lacks 32 k (omega arith) its.side, (bytes_lack 32 bytes (omega arith), tt)))))
    ∙ rw (device_back n its.device, side_back n k its, bytes_back bytes all) refl)

pub lines_read_back : LinesReadBack
unfolding trace_line read_line
lines_read_back (In n k bytes) its = passing_back (codes "in") n k bytes refl its.0 its.1
lines_read_back (Out n k bytes) its = passing_back (codes "out") n k bytes refl its.0 its.1
lines_read_back Beat its = ap passing_in (words_back (codes "beat") [] (refl, tt))
lines_read_back (Journal text) its = ap (journal_by text) (ap entry_in its.is ∙ entries_read_back its.entry its.writable)

pub lines_differ : LinesDiffer
lines_differ x y its_x its_y same = some_same (sym (lines_read_back x its_x) ∙ (ap read_line same ∙ lines_read_back y its_y))
  where
    some_same : {x y : TraceLine} → Some x ≡ Some y → x ≡ y
    some_same z = cc

-- ---- a whole trace
passing_lacks : (way : List ℕ) (n k : ℕ) (bytes : List ℕ) → lacks 10 way ≡ true → IsSide n k → lacks 10 (way ++ (32 ∷ place_text n k bytes)) ≡ true
passing_lacks way n k bytes plain its =
    ap (lacks 10) (place_words way n k bytes)
    ∙ joined_lacks (way ∷ device_text n ∷ side_text k ∷ hexadecimal bytes ∷ []) (plain, (device_lacks 10 n (omega arith) its.device, (side_lacks 10 k (omega arith) its.side, (bytes_lack 10 bytes (omega arith), tt))))

line_lacks : (l : TraceLine) → IsSpelled l → lacks 10 (trace_line l) ≡ true
unfolding trace_line
line_lacks (In n k bytes) its = passing_lacks (codes "in") n k bytes refl its.0
line_lacks (Out n k bytes) its = passing_lacks (codes "out") n k bytes refl its.0
line_lacks Beat its = refl
line_lacks (Journal text) its = lacks_both 10 (codes "= ") text refl (ap (lacks 10) its.is ∙ entry_lacks its.entry its.writable)

all_lack : (ls : List TraceLine) → Each IsSpelled ls → Each (λ (x : List ℕ). lacks 10 x ≡ true) (map trace_line ls)
all_lack [] all = tt
all_lack (l ∷ ls) all = (line_lacks l all.0, all_lack ls all.1)

all_read_back : (ls : List TraceLine) → Each IsSpelled ls → Each (λ (x : TraceLine). read_line (trace_line x) ≡ Some x) ls
all_read_back [] all = tt
all_read_back (l ∷ ls) all = (lines_read_back l all.0, all_read_back ls all.1)

text_is : (ls : List TraceLine) → flat_map (λ (l : TraceLine). trace_line l ++ 10 ∷ []) ls ≡ flat_map (λ (l : List ℕ). l ++ 10 ∷ []) (map trace_line ls)
text_is [] = refl
text_is (l ∷ ls) = ap (λ (zs : List ℕ). (trace_line l ++ 10 ∷ []) ++ zs) (text_is ls)

pub traces_read_back : TracesReadBack
unfolding trace_text read_trace
traces_read_back ls all =
    ap (λ (text : List ℕ). option_and_then (λ (lines : List (List ℕ)). all_read read_line lines) (lines_in text)) (text_is ls)
    ∙ (ap (option_and_then (λ (lines : List (List ℕ)). all_read read_line lines)) (lines_back (map trace_line ls) (all_lack ls all)) ∙ all_back read_line trace_line ls (all_read_back ls all))

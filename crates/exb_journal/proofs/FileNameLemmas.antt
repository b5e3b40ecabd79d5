-- The names of ports differ, and so those of all files.
use Rattle.std.proofs.Common.{◌≡◌, ◌≢◌, ◌<◌, ◌≤◌, ◌+◌, ◌/◌, ◌%◌, ◌^◌, ℕ, List, [], ◌∷◌, ◌++◌, ap, sym, ◌∙◌, refl, arith, get_or, drop, inl, inr, ◌⊎◌}
use Rattle.std.specs.Prelude.{codes, ◌==◌, if◌then◌else◌}
use Rattle.std.specs.Fmt.{decimal}
use Rattle.std.proofs.lemmas.Fmt.{decimal_injective, decimal_by_steps}
use Rattle.std.proofs.lemmas.Bool.{cases_lt, lt-ltb, le-ltb}
use Rattle.std.proofs.lemmas.List.{append_assoc, append_cancel_left, append_cancel_right}
use Rattle.exb_model.specs.Texts.{port_name}
use Rattle.exb_journal.specs.declared.file_names.OutputKind.{OutputKind}
use Rattle.exb_journal.specs.declared.file_names.OutputKind.TheVariants as output
use Rattle.exb_journal.specs.FileNames.{capture_name, counters_name, file_name, journal_name, trace_name, IsOfPort}

-- no point
abbrev pub NoPoint : List ℕ → Type 0
NoPoint [] = Unit {0}
NoPoint (x ∷ xs) = (x ≢ 46) × NoPoint xs

pub no_point-append : (xs ys : List ℕ) → NoPoint xs → NoPoint ys → NoPoint (xs ++ ys)
no_point-append [] ys hx hy = hy
no_point-append (x ∷ xs) ys hx hy = (hx.0, no_point-append xs ys hx.1 hy)

no_point-digit : (d : ℕ) → NoPoint ((48 + d) ∷ [])
no_point-digit d = ((λ e. omega arith), tt)

pub no_point-decimal : (n : ℕ) → n < 2 ^ 64 → NoPoint (decimal n)
no_point-decimal =
    decimal_by_steps (λ n ds. NoPoint ds) (λ n h. no_point-digit n) (λ n ds h p. no_point-append ds _ p (no_point-digit (n % 10)))

-- what stands before the first point, and what after it
pub split_at_point : (xs us ys vs : List ℕ) → NoPoint xs → NoPoint us → xs ++ 46 ∷ ys ≡ us ++ 46 ∷ vs → (xs ≡ us) × (ys ≡ vs)
split_at_point [] [] ys vs hx hu e = (refl, append_cancel_left (46 ∷ []) ys vs e)
split_at_point [] (u ∷ us) ys vs hx hu e = absurd (hu.0 (sym (ap (λ (l : List ℕ). get_or l 0 0) e)))
split_at_point (x ∷ xs) [] ys vs hx hu e = absurd (hx.0 (ap (λ (l : List ℕ). get_or l 0 0) e))
split_at_point (x ∷ xs) (u ∷ us) ys vs hx hu e =
    let head : x ≡ u = ap (λ (l : List ℕ). get_or l 0 0) e in
    let r = split_at_point xs us ys vs hx.1 hu.1 (ap (λ (l : List ℕ). drop 1 l) e) in
    (cc, r.1)

bridge_name : (p : ℕ) → p < 64 → port_name p ≡ codes "b" ++ decimal (p + 1)
bridge_name p h = rw (lt-ltb p 64 h) refl

extended_name : (p : ℕ) → 64 ≤ p → port_name p ≡ 120 ∷ (decimal (p / 64) ++ 46 ∷ decimal (p % 64 + 1))
extended_name p h = rw (le-ltb p 64 h) (ap (λ (l : List ℕ). 120 ∷ l) (append_assoc (decimal (p / 64)) (46 ∷ []) (decimal (p % 64 + 1))))

b_is_not_x : (let b : ℕ = 98 in let x : ℕ = 120 in b ≡ x) → ⊥
b_is_not_x e = omega arith

bridge_names_differ : (p q : ℕ) → p < 64 → q < 64 → port_name p ≡ port_name q → p ≡ q
bridge_names_differ p q hp hq e =
    let d : decimal (p + 1) ≡ decimal (q + 1) = ap (λ (l : List ℕ). drop 1 l) (sym (bridge_name p hp) ∙ e ∙ bridge_name q hq) in
    let n : p + 1 ≡ q + 1 = decimal_injective (p + 1) (q + 1) (omega arith) (omega arith) d in
    omega arith

bridge_is_not_extended : (p q : ℕ) → p < 64 → 64 ≤ q → port_name p ≡ port_name q → ⊥
bridge_is_not_extended p q hp hq e =
    b_is_not_x (ap (λ (l : List ℕ). get_or l 0 0) (sym (bridge_name p hp) ∙ e ∙ extended_name q hq))

extended_names_differ : (p q : ℕ) → 64 ≤ p → 64 ≤ q → p < 4160 → q < 4160 → port_name p ≡ port_name q → p ≡ q
extended_names_differ p q hp hq lp lq e =
    let parts =
    split_at_point (decimal (p / 64)) (decimal (q / 64)) (decimal (p % 64 + 1)) (decimal (q % 64 + 1)) (no_point-decimal (p / 64) (omega arith))
    (no_point-decimal (q / 64) (omega arith)) (ap (λ (l : List ℕ). drop 1 l) (sym (extended_name p hp) ∙ e ∙ extended_name q hq))
    in
    let device : p / 64 ≡ q / 64 = decimal_injective (p / 64) (q / 64) (omega arith) (omega arith) parts.0 in
    let port : p % 64 + 1 ≡ q % 64 + 1 = decimal_injective (p % 64 + 1) (q % 64 + 1) (omega arith) (omega arith) parts.1 in
    omega arith

pub port_names_differ : (p q : ℕ) → p < 4160 → q < 4160 → port_name p ≡ port_name q → p ≡ q
port_names_differ p q lp lq e = elim (cases_lt p 64) [
  | inl hp ↦ elim (cases_lt q 64) [
    | inl hq ↦ bridge_names_differ p q hp hq e
    | inr hq ↦ absurd (bridge_is_not_extended p q hp hq e)
  ]
  | inr hp ↦ elim (cases_lt q 64) [
    | inl hq ↦ absurd (bridge_is_not_extended q p hq hp (sym e))
    | inr hq ↦ extended_names_differ p q hp hq lp lq e
  ]
]

-- ---- by kind
-- what stands behind the prefix
abbrev ending : OutputKind → List ℕ
ending (output.Capture p) = port_name p ++ codes ".pcap"
ending output.Journal = codes "journal.txt"
ending output.Trace = codes "trace.txt"
ending output.Counters = codes "counters.txt"

behind : (prefix : List ℕ) (x : OutputKind) → file_name prefix x ≡ prefix ++ ending x
unfolding capture_name journal_name trace_name counters_name
behind prefix (output.Capture p) = append_assoc prefix (port_name p) (codes ".pcap")
behind prefix output.Journal = refl
behind prefix output.Trace = refl
behind prefix output.Counters = refl

-- the prefix stands in front of the name without one
pub name_behind : (prefix : List ℕ) (o : OutputKind) → file_name prefix o ≡ prefix ++ file_name [] o
name_behind prefix o = behind prefix o ∙ ap (λ (end : List ℕ). prefix ++ end) (sym (behind [] o))

abbrev letter : OutputKind → ℕ
letter x = get_or (ending x) 0 0

-- a port's file begins with b or x after the prefix
letter_of_port : (p : ℕ) → (letter (output.Capture p) ≡ 98) ⊎ (letter (output.Capture p) ≡ 120)
letter_of_port p = elim (cases_lt p 64) [
  | inl h ↦ inl (ap (λ (l : List ℕ). get_or (l ++ codes ".pcap") 0 0) (bridge_name p h))
  | inr h ↦ inr (ap (λ (l : List ℕ). get_or (l ++ codes ".pcap") 0 0) (extended_name p h))
]

-- and no other file does
port_or : (n k : ℕ) → (n ≡ 98) ⊎ (n ≡ 120) → n ≡ k → k ≢ 98 → k ≢ 120 → ⊥
port_or n k (inl b) same not_b not_x = not_b (sym same ∙ b)
port_or n k (inr x) same not_b not_x = not_x (sym same ∙ x)

of_port : (p k : ℕ) → letter (output.Capture p) ≡ k → k ≢ 98 → k ≢ 120 → ⊥
of_port p k = port_or (letter (output.Capture p)) k (letter_of_port p)

-- the other kinds by their letter
abbrev by_letter : ℕ → OutputKind
by_letter n = if n == 106 then output.Journal else if n == 116 then output.Trace else output.Counters

other_endings : (x y : OutputKind) → ending x ≡ ending y → by_letter (letter x) ≡ x → by_letter (letter y) ≡ y → x ≡ y
other_endings x y e hx hy = sym hx ∙ ap (λ (l : List ℕ). by_letter (get_or l 0 0)) e ∙ hy

endings_differ : (x y : OutputKind) → IsOfPort x → IsOfPort y → ending x ≡ ending y → x ≡ y
endings_differ (output.Capture p) (output.Capture q) hx hy e =
    ap output.Capture (port_names_differ p q hx hy (append_cancel_right (port_name p) (port_name q) (codes ".pcap") e))
endings_differ (output.Capture p) output.Journal hx hy e = absurd (of_port p 106 (ap (λ (l : List ℕ). get_or l 0 0) e) (λ s. omega arith) (λ s. omega arith))
endings_differ (output.Capture p) output.Trace hx hy e = absurd (of_port p 116 (ap (λ (l : List ℕ). get_or l 0 0) e) (λ s. omega arith) (λ s. omega arith))
endings_differ (output.Capture p) output.Counters hx hy e = absurd (of_port p 99 (ap (λ (l : List ℕ). get_or l 0 0) e) (λ s. omega arith) (λ s. omega arith))
endings_differ output.Journal (output.Capture q) hx hy e = absurd (of_port q 106 (ap (λ (l : List ℕ). get_or l 0 0) (sym e)) (λ s. omega arith) (λ s. omega arith))
endings_differ output.Trace (output.Capture q) hx hy e = absurd (of_port q 116 (ap (λ (l : List ℕ). get_or l 0 0) (sym e)) (λ s. omega arith) (λ s. omega arith))
endings_differ output.Counters (output.Capture q) hx hy e = absurd (of_port q 99 (ap (λ (l : List ℕ). get_or l 0 0) (sym e)) (λ s. omega arith) (λ s. omega arith))
endings_differ output.Journal output.Journal hx hy e = refl
endings_differ output.Journal output.Trace hx hy e = other_endings output.Journal output.Trace e refl refl
endings_differ output.Journal output.Counters hx hy e = other_endings output.Journal output.Counters e refl refl
endings_differ output.Trace output.Journal hx hy e = other_endings output.Trace output.Journal e refl refl
endings_differ output.Trace output.Trace hx hy e = refl
endings_differ output.Trace output.Counters hx hy e = other_endings output.Trace output.Counters e refl refl
endings_differ output.Counters output.Journal hx hy e = other_endings output.Counters output.Journal e refl refl
endings_differ output.Counters output.Trace hx hy e = other_endings output.Counters output.Trace e refl refl
endings_differ output.Counters output.Counters hx hy e = refl

pub file_names_differ : (prefix : List ℕ) (x y : OutputKind) → IsOfPort x → IsOfPort y → file_name prefix x ≡ file_name prefix y → x ≡ y
file_names_differ prefix x y hx hy e = endings_differ x y hx hy (append_cancel_left prefix (ending x) (ending y) (sym (behind prefix x) ∙ e ∙ behind prefix y))

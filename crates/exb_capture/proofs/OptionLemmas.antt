-- The options of an interface, one step at a time.
use Rattle.std.proofs.Common.{◌≡◌, ◌≢◌, ◌<◌, ◌≤◌, ◌+◌, ◌-◌, ℕ, zero, suc, Bool, List, Option, Result, Err, cond, refl, ap, sym, ◌∙◌, arith}
use Rattle.std.specs.Prelude.{nat_lt, nat_le, ◌==◌}
use Rattle.std.proofs.lemmas.Bool.{le-ltb, lt-ltb, le-leb, lt-leb, eq-eqb, ne_eqb}
use Rattle.exb_capture.specs.declared.fault.FormatFault.{FormatFault}
use Rattle.exb_capture.specs.declared.fault.Flaw.TheVariants.{Length}
use Rattle.exb_capture.specs.declared.byte_order.ByteOrder.{ByteOrder}
use Rattle.exb_capture.specs.Fields.{half_word}
use Rattle.exb_capture.specs.Formats.{fault}
use Rattle.exb_capture.specs.Blocks.{padded, or_option, or_six, resolution_within, resolution_from}

-- the option at a place, by its tests
abbrev pub by_tests : Bool → Bool → Bool → Result ℕ FormatFault → ℕ → Result ℕ FormatFault → Result ℕ FormatFault
by_tests ended none past six at rest = cond ended six (cond none six (cond past (Err (fault Length at)) rest))

pub option_enough : (n m : ℕ) (order : ByteOrder) (first : Option (Result ℕ FormatFault)) (at to : ℕ) (block : List ℕ) → to ≤ at + n → to ≤ at + m
    → resolution_within n order first at to block ≡ resolution_within m order first at to block
unfolding resolution_within
option_enough zero zero order first at to block h k = refl
option_enough zero (suc m) order first at to block h k = sym (ap (λ b. by_tests b (half_word order block at == 0) (nat_lt to (at + 4 + half_word order block (at + 2))) (or_six first) at
    (resolution_within m order (or_option first order at block) (at + 4 + padded (half_word order block (at + 2))) to block)) (le-leb to at (omega arith)))
option_enough (suc n) zero order first at to block h k = ap (λ b. by_tests b (half_word order block at == 0) (nat_lt to (at + 4 + half_word order block (at + 2))) (or_six first) at
    (resolution_within n order (or_option first order at block) (at + 4 + padded (half_word order block (at + 2))) to block)) (le-leb to at (omega arith))
option_enough (suc n) (suc m) order first at to block h k =
    ap (λ rest. by_tests (nat_le to at) (half_word order block at == 0) (nat_lt to (at + 4 + half_word order block (at + 2))) (or_six first) at rest)
    (option_enough n m order (or_option first order at block) (at + 4 + padded (half_word order block (at + 2))) to block (omega arith) (omega arith))

-- one step, with any number of steps behind it that is enough
pub one_option : (order : ByteOrder) (first : Option (Result ℕ FormatFault)) (at to : ℕ) (block : List ℕ)
    → resolution_from order first at to block ≡ by_tests (nat_le to at) (half_word order block at == 0) (nat_lt to (at + 4 + half_word order block (at + 2))) (or_six first) at
    (resolution_from order (or_option first order at block) (at + 4 + padded (half_word order block (at + 2))) to block)
unfolding resolution_from resolution_within
one_option order first at to block =
    option_enough (to - at) (suc (to - at)) order first at to block (omega arith) (omega arith)
    ∙ ap (λ rest. by_tests (nat_le to at) (half_word order block at == 0) (nat_lt to (at + 4 + half_word order block (at + 2))) (or_six first) at rest)
    (option_enough (to - at) (to - (at + 4 + padded (half_word order block (at + 2)))) order (or_option first order at block) (at + 4 + padded (half_word order block (at + 2))) to block (omega arith) (omega arith))

pub from_end : (order : ByteOrder) (first : Option (Result ℕ FormatFault)) (at to : ℕ) (block : List ℕ) → to ≤ at → resolution_from order first at to block ≡ or_six first
from_end order first at to block h =
    one_option order first at to block
    ∙ ap (λ b. by_tests b (half_word order block at == 0) (nat_lt to (at + 4 + half_word order block (at + 2))) (or_six first) at
    (resolution_from order (or_option first order at block) (at + 4 + padded (half_word order block (at + 2))) to block)) (le-leb to at h)

pub from_zero : (order : ByteOrder) (first : Option (Result ℕ FormatFault)) (at to : ℕ) (block : List ℕ) → at < to → half_word order block at ≡ 0 → resolution_from order first at to block ≡ or_six first
from_zero order first at to block h z =
    one_option order first at to block
    ∙ (λ i. by_tests (lt-leb to at h i) (eq-eqb (half_word order block at) 0 z i) (nat_lt to (at + 4 + half_word order block (at + 2))) (or_six first) at
    (resolution_from order (or_option first order at block) (at + 4 + padded (half_word order block (at + 2))) to block))

pub from_past : (order : ByteOrder) (first : Option (Result ℕ FormatFault)) (at to : ℕ) (block : List ℕ) → at < to → half_word order block at ≢ 0 → to < at + 4 + half_word order block (at + 2)
    → resolution_from order first at to block ≡ Err (fault Length at)
from_past order first at to block h z p =
    one_option order first at to block
    ∙ (λ i. by_tests (lt-leb to at h i) (ne_eqb (half_word order block at) 0 z i) (lt-ltb to (at + 4 + half_word order block (at + 2)) p i) (or_six first) at
    (resolution_from order (or_option first order at block) (at + 4 + padded (half_word order block (at + 2))) to block))

pub from_next : (order : ByteOrder) (first : Option (Result ℕ FormatFault)) (at to : ℕ) (block : List ℕ) → at < to → half_word order block at ≢ 0 → at + 4 + half_word order block (at + 2) ≤ to
    → resolution_from order first at to block ≡ resolution_from order (or_option first order at block) (at + 4 + padded (half_word order block (at + 2))) to block
from_next order first at to block h z p =
    one_option order first at to block
    ∙ (λ i. by_tests (lt-leb to at h i) (ne_eqb (half_word order block at) 0 z i) (le-ltb to (at + 4 + half_word order block (at + 2)) p i) (or_six first) at
    (resolution_from order (or_option first order at block) (at + 4 + padded (half_word order block (at + 2))) to block))

-- The E-TAG of a frame, by the words that are read of it.
use Rattle.std.proofs.Common.{◌≡◌, ◌≢◌, ◌≤◌, ◌<◌, ◌+◌, ◌-◌, ◌*◌, ◌/◌, ◌%◌, ◌==◌, ◌&&◌, ℕ, Bool, true, false, List, Option, Some, None, arith, drop, if◌then◌else◌, length, nat_le, refl, subst, sym, take, ◌∙◌}
use Rattle.std.specs.Prelude.{slice_index}
use Rattle.std.proofs.lemmas.Bool.{ne_eqb}
use Rattle.std.proofs.lemmas.Grind.{common_steps}
use Rattle.exb_model.specs.ETags.{Tag, fields, read_etag}
use Rattle.exb_model.specs.Frames.{number_at}

-- the word behind this many bytes
pub word_is : (f : List ℕ) (n w : ℕ) → 20 ≤ length f → n ≤ 18 → w ≡ slice_index (take (length f - n) (drop n f)) 0 * 256 + (slice_index (take (length f - n) (drop n f)) 1 * 1 + 0) → w ≡ number_at f n
word_is f n w long low is = grind (arith, common_steps)

-- ---- by what is asked of it
none_by : (b c : Bool) (o : Option Tag) → None ≡ (if (false && (b && c)) then o else None)
none_by b c o = refl

other_by : (a c : Bool) (o : Option Tag) → None ≡ (if (a && (false && c)) then o else None)
other_by true c o = refl
other_by false c o = refl

more_by : (a b : Bool) (o : Option Tag) → None ≡ (if (a && (b && false)) then o else None)
more_by true true o = refl
more_by true false o = refl
more_by false b o = refl

pub short_none : (f : List ℕ) → length f < 20 → None ≡ read_etag f
short_none f low =
    let short : nat_le 20 (length f) ≡ false = grind (arith, common_steps) in
    subst (λ a. None ≡ (if (a && (number_at f 12 == 0x893F && number_at f 18 == 0)) then Some (fields f) else None)) (sym short) (none_by (number_at f 12 == 0x893F) (number_at f 18 == 0) (Some (fields f)))

pub other_none : (f : List ℕ) (w : ℕ) → w ≡ number_at f 12 → w ≢ 0x893F → None ≡ read_etag f
other_none f w is other =
    let no : (number_at f 12 == 0x893F) ≡ false = ne_eqb (number_at f 12) 0x893F (λ e. other (is ∙ e)) in
    subst (λ b. None ≡ (if (nat_le 20 (length f) && (b && number_at f 18 == 0)) then Some (fields f) else None)) (sym no) (other_by (nat_le 20 (length f)) (number_at f 18 == 0) (Some (fields f)))

pub more_none : (f : List ℕ) (w : ℕ) → w ≡ number_at f 18 → w ≢ 0 → None ≡ read_etag f
more_none f w is more =
    let no : (number_at f 18 == 0) ≡ false = ne_eqb (number_at f 18) 0 (λ e. more (is ∙ e)) in
    subst (λ b. None ≡ (if (nat_le 20 (length f) && (number_at f 12 == 0x893F && b)) then Some (fields f) else None)) (sym no) (more_by (nat_le 20 (length f)) (number_at f 12 == 0x893F) (Some (fields f)))

pub tag_is : (f : List ℕ) (first second : ℕ) → 20 ≤ length f → number_at f 12 ≡ 0x893F → number_at f 18 ≡ 0 → first ≡ number_at f 14 → second ≡ number_at f 16
    → Some (record { pcp = first / 8192; dei = first / 4096 % 2 == 1; ingress = first % 4096; ecid = second % 16384 }) ≡ read_etag f
tag_is f first second long type none a b =
    let has : nat_le 20 (length f) && (number_at f 12 == 0x893F && number_at f 18 == 0) ≡ true = grind (arith, common_steps) in
    rw (has, a, b) refl

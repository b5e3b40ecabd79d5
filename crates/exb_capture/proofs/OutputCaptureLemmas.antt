-- An output capture is read as what was written.
use Rattle.std.proofs.Common.{◌≡◌, ◌<◌, ◌≤◌, ◌+◌, ◌*◌, ◌/◌, ◌%◌, ◌^◌, ℕ, Bool, false, List, [], ◌∷◌, ◌++◌, length, take, drop, map, Option, Some, None, Ok, cond, refl, ap, sym, subst, ◌∙◌, arith, length-append}
use Rattle.std.specs.Prelude.{All, nat_lt, nat_le}
use Rattle.std.specs.List.{flat_map}
use Rattle.std.proofs.lemmas.Nat.{from_le_bytes-to_le_bytes_4}
use Rattle.std.proofs.lemmas.Bool.{lt-leb, le-ltb}
use Rattle.std.proofs.lemmas.List.Elements.{All-tail, All-head}
use Rattle.std.proofs.Math.Seq.{take-append_seam, drop-append_seam, drop-append-add}
use Rattle.exb_model.specs.FlatBridge.{Sent}
use Rattle.exb_model.specs.Input.{Record}
use Rattle.exb_model.specs.Texts.{capture_header, four_bytes, record_text, capture_text}
use Rattle.exb_capture.specs.declared.fault.FormatFault.{FormatFault}
use Rattle.exb_capture.specs.declared.fault.Flaw.TheVariants.{NotPcap, Cut, Time, Length}
use Rattle.exb_capture.specs.declared.byte_order.ByteOrder.TheVariants.{Little}
use Rattle.exb_capture.specs.declared.classic.Resolution.TheVariants.{Micros}
use Rattle.exb_capture.specs.declared.classic.ClassicEncoding.{ClassicEncoding}
use Rattle.exb_capture.specs.declared.classic.ClassicFormat.TheVariants.{Start, Behind}
use Rattle.exb_capture.specs.Blocks.{most_held}
use Rattle.exb_capture.specs.Fields.{◌>>=◌, refuse, word, agrees}
use Rattle.exb_capture.specs.Formats.{Short, Over, Holds, fault, behind, Capture, before, reading_from, whole}
use Rattle.exb_capture.specs.Classic.{form, header_at, shown_header, head_at, time_at, classic_front, pcap_records}
use Rattle.exb_capture.specs.Captures.{first_bytes, capture_records}
use Rattle.exb_capture.specs.OutputCaptures.{CanBeWritten, in_microseconds}
use Rattle.exb_capture.proofs.ClassicLemmas.{classic_is_a_format, record_is}
use Rattle.exb_capture.proofs.CaptureLemmas.{read_as_classic}
use Rattle.exb_capture.proofs.FrontLemmas.{from_nothing, from_over, from_holds, over_there}

abbrev f : ClassicEncoding
f = form Little Micros

-- ---- the header of an output capture, whatever follows it
header_written : (rest : List ℕ) → classic_front Start (capture_header ++ rest) ≡ Over 24 (Behind f)
unfolding classic_front agrees
header_written rest =
    let file : List ℕ = capture_header ++ rest in
    ap (λ t. cond t (Short (fault NotPcap 0)) (cond (nat_lt (length file) 24) (Short (fault Cut 0)) (shown_header f (header_at f (take 24 file))))) (le-ltb (length file) 4 (omega (arith, length-append capture_header rest)))
    ∙ ap (λ t. cond t (Short (fault Cut 0)) (shown_header f (header_at f (take 24 file)))) (le-ltb (length file) 24 (omega (arith, length-append capture_header rest)))

-- ---- a record
head_by : (a b : Bool) (n : ℕ) → a ≡ false → b ≡ false → (refuse a (fault Time 4) >>= (λ early. refuse b (fault Length 8) >>= (λ short. Ok n))) ≡ Ok n
head_by a b n p q = rw (p, q) refl

micros : (m : ℕ) → m / 1_000_000_000 * 1_000_000_000 + m % 1_000_000_000 / 1_000 * 1_000 ≡ m / 1_000 * 1_000
micros m = omega arith

-- the 16 bytes before a frame of this length
abbrev head_of : ℕ → ℕ → List ℕ
head_of m len = four_bytes (m / 1_000_000_000) ++ four_bytes (m % 1_000_000_000 / 1_000) ++ four_bytes len ++ four_bytes len

head_written : (m : ℕ) (bytes more : List ℕ) → CanBeWritten (m, bytes) → head_at f (take 16 (record_text (m, bytes) ++ more)) ≡ Ok (length bytes)
head_written m bytes more h =
    let head : List ℕ = take 16 (record_text (m, bytes) ++ more) in
    let fraction : word Little head 4 ≡ m % 1_000_000_000 / 1_000 = from_le_bytes-to_le_bytes_4 (m % 1_000_000_000 / 1_000) (omega arith) in
    let stored : word Little head 8 ≡ length bytes = from_le_bytes-to_le_bytes_4 (length bytes) (omega (arith, h.bytes)) in
    let small : word Little head 4 < 1_000_000 = subst (λ (n : ℕ). n < 1_000_000) (sym fraction) (omega arith) in
    let few : word Little head 8 ≤ 262_144 = subst (λ (n : ℕ). n ≤ 262_144) (sym stored) h.bytes in
    head_by (nat_le (10 ^ 6) (word Little head 4)) (nat_lt 262_144 (word Little head 8)) (word Little head 8) (lt-leb (10 ^ 6) (word Little head 4) small) (le-ltb 262_144 (word Little head 8) few)
    ∙ ap Ok stored

time_written : (m : ℕ) (bytes more : List ℕ) → CanBeWritten (m, bytes) → time_at f (take 16 (record_text (m, bytes) ++ more)) ≡ m / 1_000 * 1_000
time_written m bytes more h =
    let head : List ℕ = take 16 (record_text (m, bytes) ++ more) in
    let seconds : word Little head 0 ≡ m / 1_000_000_000 = from_le_bytes-to_le_bytes_4 (m / 1_000_000_000) (omega (arith, h.moment)) in
    let fraction : word Little head 4 ≡ m % 1_000_000_000 / 1_000 = from_le_bytes-to_le_bytes_4 (m % 1_000_000_000 / 1_000) (omega arith) in
    ap (λ n. n * 1_000_000_000 + word Little head 4 * 1_000) seconds ∙ ap (λ n. m / 1_000_000_000 * 1_000_000_000 + n * 1_000) fraction ∙ micros m

-- a record of an output capture, whatever follows it
record_written : (m : ℕ) (bytes more : List ℕ) → CanBeWritten (m, bytes) → classic_front (Behind f) (record_text (m, bytes) ++ more) ≡ Holds (in_microseconds (m, bytes)) (16 + length bytes) (Behind f)
unfolding classic_front
record_written m bytes more h =
    let left : List ℕ = record_text (m, bytes) ++ more in
    sym (record_is f left (length bytes) (m / 1_000 * 1_000) (omega (arith, length-append bytes more)) (sym (head_written m bytes more h)) (sym (time_written m bytes more h)))
    ∙ ap (λ b. Holds (record { time = m / 1_000 * 1_000; bytes = b }) (16 + length bytes) (Behind f)) (take-append_seam bytes more)

behind_record : (m : ℕ) (bytes more : List ℕ) → drop (16 + length bytes) (record_text (m, bytes) ++ more) ≡ more
behind_record m bytes more = drop-append-add (head_of m (length bytes)) (bytes ++ more) (length bytes) ∙ drop-append_seam bytes more

-- ---- all records
pub record AreWritten (c : Capture) (sent : List Sent) : Type 0 where
  pub records : c.records ≡ map in_microseconds sent
  pub fault : c.fault ≡ None

none_left : (p : ℕ) → AreWritten (reading_from classic_front (Behind f) p []) []
unfolding classic_front
none_left p =
    let e = from_nothing most_held classic_front classic_is_a_format (Behind f) p [] refl in
    record { records = ap (λ (c : Capture). c.records) e; fault = ap (λ (c : Capture). c.fault) e }

records_written : (p : ℕ) (sent : List Sent) → All CanBeWritten sent → AreWritten (reading_from classic_front (Behind f) p (flat_map record_text sent)) sent
records_written p [] h = none_left p
records_written p ((m, bytes) ∷ sent) h =
    let x : Record = in_microseconds (m, bytes) in
    let n : ℕ = 16 + length bytes in
    let more : List ℕ = flat_map record_text sent in
    let left : List ℕ = record_text (m, bytes) ++ more in
    let later = records_written (behind p n) sent (All-tail CanBeWritten (m, bytes) sent h) in
    let e : reading_from classic_front (Behind f) p left ≡ before x p (reading_from classic_front (Behind f) (behind p n) more) =
    from_holds most_held classic_front classic_is_a_format (Behind f) p left x n (Behind f) (record_written m bytes more (All-head CanBeWritten (m, bytes) sent h))
    ∙ ap (before x p) (over_there most_held classic_front classic_is_a_format (Behind f) n p (behind p n) left (omega (arith, length-append bytes more)) ∙ ap (reading_from classic_front (Behind f) (behind p n)) (behind_record m bytes more)) in
    record { records = ap (λ (c : Capture). c.records) e ∙ ap (λ xs. x ∷ xs) later.records; fault = ap (λ (c : Capture). c.fault) e ∙ later.fault }

whole_by : (rs xs : List Record) (ps : List ℕ) (o : Option FormatFault) → rs ≡ xs → o ≡ None → whole (record { records = rs; places = ps; fault = o }) ≡ Ok xs
whole_by rs xs ps None p q = ap Ok p
whole_by rs xs ps (Some fault) p q = absurd (cc)

pub all_written : (sent : List Sent) → All CanBeWritten sent → pcap_records (capture_text sent) ≡ Ok (map in_microseconds sent)
unfolding pcap_records capture_text
all_written sent h =
    let rest : List ℕ = flat_map record_text sent in
    let file : List ℕ = capture_header ++ rest in
    let all = records_written 24 sent h in
    let c : Capture = reading_from classic_front (Behind f) 24 rest in
    ap whole
    (from_over most_held classic_front classic_is_a_format Start 0 file 24 (Behind f) (header_written rest)
    ∙ over_there most_held classic_front classic_is_a_format (Behind f) 24 0 24 file (omega (arith, length-append capture_header rest)))
    ∙ whole_by c.records (map in_microseconds sent) c.places c.fault all.records all.fault

is_classic : (sent : List Sent) → agrees first_bytes (capture_text sent) ≡ false
unfolding capture_text agrees
is_classic sent = refl

pub either_written : (sent : List Sent) → All CanBeWritten sent → capture_records (capture_text sent) ≡ Ok (map in_microseconds sent)
either_written sent h = read_as_classic (capture_text sent) (is_classic sent) ∙ all_written sent h

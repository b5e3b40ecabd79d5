-- Classic pcap is a format.
use Rattle.std.proofs.Common.{◌≡◌, ◌<◌, ◌≤◌, ◌+◌, ◌-◌, ◌*◌, ℕ, Bool, true, false, List, ◌++◌, length, take, drop, Option, Some, None, Result, Ok, Err, cond, refl, ap, sym, subst, ◌∙◌, arith}
use Rattle.std.specs.Prelude.{nat_lt, nat_le, nat_eq, not, ◌&&◌, ◌==◌, ◌^◌}
use Rattle.std.proofs.lemmas.Bool.{ltb-false, ltb-true, le-ltb, lt-leb, ne_eqb, eqb-true}
use Rattle.std.proofs.lemmas.List.{take-append-le}
use Rattle.exb_capture.specs.declared.fault.FormatFault.{FormatFault}
use Rattle.exb_capture.specs.declared.fault.Flaw.TheVariants.{NotPcap, Version, LinkType, Cut, Length, Time}
use Rattle.exb_capture.specs.declared.format.Front.{Front as Found}
use Rattle.exb_capture.specs.declared.format.Front.TheVariants as found
use Rattle.exb_capture.specs.declared.byte_order.ByteOrder.{ByteOrder}
use Rattle.exb_capture.specs.declared.classic.ClassicEncoding.{ClassicEncoding}
use Rattle.exb_capture.specs.declared.classic.ClassicFormat.{ClassicFormat}
use Rattle.exb_capture.specs.declared.classic.ClassicFormat.TheVariants.{Start, Behind}
use Rattle.exb_capture.specs.Fields.{◌>>=◌, refuse, word, half_word, agrees}
use Rattle.exb_capture.specs.Formats.{Front, Nothing, Short, Holds, fault}
use Rattle.exb_capture.specs.ReaderMachine.{IsFormat}
use Rattle.exb_capture.specs.Blocks.{most_held}
use Rattle.exb_capture.specs.Classic.{digits, form, form_of, header_at, shown_header, magic_front, head_at, time_at, stored_front, record_front, classic_front}
use Rattle.exb_capture.specs.FieldRanges.{IsWithin, Keeps, Shows, told}
use Rattle.exb_capture.proofs.BlockLemmas.{part_of}
use Rattle.exb_capture.proofs.ClassicPrefixes.{form_by, same_by, form_more, record_in, classic_undecided, classic_blank}
use Rattle.exb_capture.proofs.FormatLemmas.{IsDecided, longer, not_empty, IsMeasured, LiesWithin, then_within, refused_within, format_by, differs_on}

-- ---- the magic number
none_by : (a b c d : Bool) → form_by a b c d ≡ None → (a ≡ false) × (b ≡ false) × (c ≡ false) × (d ≡ false)
none_by true b c d e = absurd (cc)
none_by false true c d e = absurd (cc)
none_by false false true d e = absurd (cc)
none_by false false false true e = absurd (cc)
none_by false false false false e = (refl, refl, refl, refl)

form_none : (h more : List ℕ) → form_of h ≡ None → form_of (h ++ more) ≡ None
form_none h more e =
    let none = none_by (agrees _ h) (agrees _ h) (agrees _ h) (agrees _ h) e in
    same_by _ _ _ _ false false false false (differs_on _ h more none.0) (differs_on _ h more none.1) (differs_on _ h more none.2) (differs_on _ h more none.3)

magic_stands : (h more : List ℕ) (o : Option ClassicEncoding) → form_of h ≡ o → IsDecided (magic_front o h) → magic_front (form_of (h ++ more)) (h ++ more) ≡ magic_front o h
magic_stands h more None e = λ is. ap (λ x. magic_front x (h ++ more)) (form_none h more e)
magic_stands h more (Some f) e = by_four (nat_lt (length h) 4) refl
  where
    header : List ℕ → Front ClassicFormat
    header left = shown_header f (header_at f (take 24 left))

    by_head : (b : Bool) → nat_lt (length h) 24 ≡ b → IsDecided (cond b (Short (fault Cut 0)) (header h))
        → magic_front (form_of (h ++ more)) (h ++ more) ≡ cond b (Short (fault Cut 0)) (header h)
    by_head true t never = absurd never
    by_head false t is =
        let fits = ltb-false (length h) 24 t in
        ap (λ x. magic_front x (h ++ more)) (form_more h more (omega arith) ∙ e)
        ∙ ap (λ b. cond b (Short (fault NotPcap 0)) (cond (nat_lt (length (h ++ more)) 24) (Short (fault Cut 0)) (header (h ++ more)))) (longer h more 4 (omega arith))
        ∙ ap (λ b. cond b (Short (fault Cut 0)) (header (h ++ more))) (longer h more 24 fits)
        ∙ ap (λ bytes. shown_header f (header_at f bytes)) (take-append-le 24 h more fits)

    by_four : (b : Bool) → nat_lt (length h) 4 ≡ b → IsDecided (cond b (Short (fault NotPcap 0)) (cond (nat_lt (length h) 24) (Short (fault Cut 0)) (header h)))
        → magic_front (form_of (h ++ more)) (h ++ more) ≡ cond b (Short (fault NotPcap 0)) (cond (nat_lt (length h) 24) (Short (fault Cut 0)) (header h))
    by_four true t never = absurd never
    by_four false t is = by_head (nat_lt (length h) 24) refl is

-- ---- a record
stored_stands : (f : ClassicEncoding) (x : Result ℕ FormatFault) (h more : List ℕ) → 16 ≤ length h → IsDecided (stored_front f x h) → stored_front f x (h ++ more) ≡ stored_front f x h
stored_stands f (Err x) h more long = λ is. refl
stored_stands f (Ok n) h more long = by_size (nat_lt (length h) (16 + n)) refl
  where
    by_size : (b : Bool) → nat_lt (length h) (16 + n) ≡ b → IsDecided (cond b (Short (fault Cut 0)) (record_in f n h)) → stored_front f (Ok n) (h ++ more) ≡ cond b (Short (fault Cut 0)) (record_in f n h)
    by_size true t never = absurd never
    by_size false t is =
        let fits = ltb-false (length h) (16 + n) t in
        ap (λ b. cond b (Short (fault Cut 0)) (record_in f n (h ++ more))) (longer h more (16 + n) fits)
        ∙ ap (λ bytes. Holds (record { time = time_at f bytes; bytes = take n (drop 16 (take (16 + n) (h ++ more))) }) (16 + n) (Behind f)) (take-append-le 16 h more long)
        ∙ ap (λ bytes. Holds (record { time = time_at f (take 16 h); bytes = take n (drop 16 bytes) }) (16 + n) (Behind f)) (take-append-le (16 + n) h more fits)

record_stands : (f : ClassicEncoding) (h more : List ℕ) → IsDecided (record_front f h) → record_front f (h ++ more) ≡ record_front f h
record_stands f h more = by_none (nat_eq (length h) 0)
  where
    rest : List ℕ → Front ClassicFormat
    rest left = cond (nat_lt (length left) 16) (Short (fault Cut 0)) (stored_front f (head_at f (take 16 left)) left)

    by_head : (b : Bool) → nat_lt (length h) 16 ≡ b → IsDecided (cond b (Short (fault Cut 0)) (stored_front f (head_at f (take 16 h)) h))
        → record_front f (h ++ more) ≡ cond b (Short (fault Cut 0)) (stored_front f (head_at f (take 16 h)) h)
    by_head true t never = absurd never
    by_head false t is =
        let fits = ltb-false (length h) 16 t in
        ap (λ b. cond b Nothing (rest (h ++ more))) (not_empty h more (omega arith))
        ∙ ap (λ b. cond b (Short (fault Cut 0)) (stored_front f (head_at f (take 16 (h ++ more))) (h ++ more))) (longer h more 16 fits)
        ∙ ap (λ bytes. stored_front f (head_at f bytes) (h ++ more)) (take-append-le 16 h more fits)
        ∙ stored_stands f (head_at f (take 16 h)) h more fits is

    by_none : (b : Bool) → IsDecided (cond b Nothing (rest h)) → record_front f (h ++ more) ≡ cond b Nothing (rest h)
    by_none true never = absurd never
    by_none false is = by_head (nat_lt (length h) 16) refl is

pub classic_stands : (s : ClassicFormat) (h more : List ℕ) → IsDecided (classic_front s h) → classic_front s (h ++ more) ≡ classic_front s h
unfolding classic_front
classic_stands Start h more = magic_stands h more (form_of h) refl
classic_stands (Behind f) h more = record_stands f h more

-- ---- sizes
stored_few : (f : ClassicEncoding) (head : List ℕ) (n : ℕ) → head_at f head ≡ Ok n → n ≤ 262_144
stored_few f head n = by_time (nat_le (10 ^ digits f.resolution) (word f.order head 4))
  where
    by_size : (b : Bool) → nat_lt 262_144 (word f.order head 8) ≡ b → (refuse b (fault Length 8) >>= (λ short. Ok (word f.order head 8))) ≡ Ok n → n ≤ 262_144
    by_size true t e = absurd (cc)
    by_size false t e = let few = ltb-false 262_144 (word f.order head 8) t in let same : word f.order head 8 ≡ n = cc in omega (arith, few, same)

    by_time : (b : Bool) → (refuse b (fault Time 4) >>= (λ early. refuse (nat_lt 262_144 (word f.order head 8)) (fault Length 8) >>= (λ short. Ok (word f.order head 8)))) ≡ Ok n → n ≤ 262_144
    by_time true e = absurd (cc)
    by_time false e = by_size (nat_lt 262_144 (word f.order head 8)) refl e

header_within : (f : ClassicEncoding) (header : List ℕ) → LiesWithin 24 (header_at f header)
header_within f header =
    then_within 24 (refuse (not (half_word f.order header 4 == 2 && half_word f.order header 6 == 4)) (fault Version 4)) (λ known. refuse (not (word f.order header 20 == 1)) (fault LinkType 20))
    (refused_within 24 (not (half_word f.order header 4 == 2 && half_word f.order header 6 == 4)) (fault Version 4) (omega arith))
    (λ known. refused_within 24 (not (word f.order header 20 == 1)) (fault LinkType 20) (omega arith))

head_within : (f : ClassicEncoding) (head : List ℕ) → LiesWithin 16 (head_at f head)
head_within f head =
    then_within 16 (refuse (nat_le (10 ^ digits f.resolution) (word f.order head 4)) (fault Time 4)) (λ early. refuse (nat_lt 262_144 (word f.order head 8)) (fault Length 8) >>= (λ short. Ok (word f.order head 8)))
    (refused_within 16 (nat_le (10 ^ digits f.resolution) (word f.order head 4)) (fault Time 4) (omega arith))
    (λ early. then_within 16 (refuse (nat_lt 262_144 (word f.order head 8)) (fault Length 8)) (λ short. Ok (word f.order head 8))
    (refused_within 16 (nat_lt 262_144 (word f.order head 8)) (fault Length 8) (omega arith)) (λ short. tt))

header_measured : (f : ClassicEncoding) (x : Result (Unit {0}) FormatFault) (h : List ℕ) → 24 ≤ length h → LiesWithin 24 x → IsMeasured most_held h (shown_header f x)
header_measured f (Ok u) h long lies = omega arith
header_measured f (Err x) h long lies = omega (arith, long, lies)

magic_measured : (o : Option ClassicEncoding) (h : List ℕ) → IsMeasured most_held h (magic_front o h)
magic_measured None h = omega arith
magic_measured (Some f) h = by_four (nat_lt (length h) 4) refl
  where
    by_head : (b : Bool) → nat_lt (length h) 24 ≡ b → IsMeasured most_held h (cond b (Short (fault Cut 0)) (shown_header f (header_at f (take 24 h))))
    by_head true t = let few = ltb-true (length h) 24 t in (omega (arith, few), omega arith)
    by_head false t = header_measured f (header_at f (take 24 h)) h (ltb-false (length h) 24 t) (header_within f (take 24 h))

    by_four : (b : Bool) → nat_lt (length h) 4 ≡ b
        → IsMeasured most_held h (cond b (Short (fault NotPcap 0)) (cond (nat_lt (length h) 24) (Short (fault Cut 0)) (shown_header f (header_at f (take 24 h)))))
    by_four true t = let few = ltb-true (length h) 4 t in (omega (arith, few), omega arith)
    by_four false t = by_head (nat_lt (length h) 24) refl

stored_measured : (f : ClassicEncoding) (x : Result ℕ FormatFault) (h : List ℕ) → ((n : ℕ) → x ≡ Ok n → n ≤ 262_144) → 16 ≤ length h → LiesWithin 16 x → IsMeasured most_held h (stored_front f x h)
stored_measured f (Err x) h few long lies = omega (arith, long, lies)
stored_measured f (Ok n) h few long lies = by_size (nat_lt (length h) (16 + n)) refl
  where
    by_size : (b : Bool) → nat_lt (length h) (16 + n) ≡ b → IsMeasured most_held h (cond b (Short (fault Cut 0)) (record_in f n h))
    by_size true t = let short = ltb-true (length h) (16 + n) t in let most = few n refl in (omega (arith, short, most), omega arith)
    by_size false t = let fits = ltb-false (length h) (16 + n) t in (omega arith, omega (arith, fits))

record_measured : (f : ClassicEncoding) (h : List ℕ) → IsMeasured most_held h (record_front f h)
record_measured f h = by_none (nat_eq (length h) 0) refl
  where
    by_head : (b : Bool) → nat_lt (length h) 16 ≡ b → IsMeasured most_held h (cond b (Short (fault Cut 0)) (stored_front f (head_at f (take 16 h)) h))
    by_head true t = let few = ltb-true (length h) 16 t in (omega (arith, few), omega arith)
    by_head false t = stored_measured f (head_at f (take 16 h)) h (stored_few f (take 16 h)) (ltb-false (length h) 16 t) (head_within f (take 16 h))

    by_none : (b : Bool) → nat_eq (length h) 0 ≡ b → IsMeasured most_held h (cond b Nothing (cond (nat_lt (length h) 16) (Short (fault Cut 0)) (stored_front f (head_at f (take 16 h)) h)))
    by_none true t = let none = eqb-true (length h) 0 t in omega (arith, none)
    by_none false t = by_head (nat_lt (length h) 16) refl

pub classic_measured : (s : ClassicFormat) (h : List ℕ) → IsMeasured most_held h (classic_front s h)
unfolding classic_front
classic_measured Start h = magic_measured (form_of h) h
classic_measured (Behind f) h = record_measured f h

pub classic_is_a_format : IsFormat most_held classic_front
classic_is_a_format = format_by most_held classic_front classic_stands classic_measured classic_undecided classic_blank

-- ---- a record, as the code finds it
pub head_is : (f : ClassicEncoding) (head : List ℕ) (fraction n units : ℕ) → fraction ≡ word f.order head 4 → n ≡ word f.order head 8 → units ≡ 10 ^ digits f.resolution → fraction < units → n ≤ 262_144
    → Ok n ≡ head_at f head
head_is f head fraction n units first size is early short =
    let low : word f.order head 4 < 10 ^ digits f.resolution = subst (λ u. word f.order head 4 < u) is (subst (λ x. x < units) first early) in
    let few : word f.order head 8 ≤ 262_144 = subst (λ x. x ≤ 262_144) size short in
    ap Ok size
    ∙ sym (ap (λ b. refuse b (fault Time 4) >>= (λ early. refuse (nat_lt 262_144 (word f.order head 8)) (fault Length 8) >>= (λ short. Ok (word f.order head 8)))) (lt-leb (10 ^ digits f.resolution) (word f.order head 4) low)
    ∙ ap (λ b. refuse b (fault Length 8) >>= (λ short. Ok (word f.order head 8))) (le-ltb 262_144 (word f.order head 8) few))

pub time_is : (f : ClassicEncoding) (head : List ℕ) (seconds fraction unit : ℕ) → seconds ≡ word f.order head 0 → fraction ≡ word f.order head 4 → unit ≡ 10 ^ (9 - digits f.resolution)
    → seconds * 1_000_000_000 + fraction * unit ≡ time_at f head
time_is f head seconds fraction unit a b c = (λ i. a i * 1_000_000_000 + b i * c i)

pub record_is : (f : ClassicEncoding) (held : List ℕ) (n time : ℕ) → 16 + n ≤ length held → Ok n ≡ head_at f (take 16 held) → time ≡ time_at f (take 16 held)
    → Holds (record { time = time; bytes = take n (drop 16 held) }) (16 + n) (Behind f) ≡ record_front f held
record_is f held n time fits head is =
    (λ i. Holds (record { time = is i; bytes = part_of held 16 n (16 + n) (omega arith) i }) (16 + n) (Behind f))
    ∙ ap (λ b. cond b (Short (fault Cut 0)) (record_in f n held)) (sym (le-ltb (length held) (16 + n) fits))
    ∙ ap (λ x. stored_front f x held) head
    ∙ ap (λ b. cond b (Short (fault Cut 0)) (stored_front f (head_at f (take 16 held)) held)) (sym (le-ltb (length held) 16 (omega (arith, fits))))
    ∙ ap (λ b. cond b Nothing (cond (nat_lt (length held) 16) (Short (fault Cut 0)) (stored_front f (head_at f (take 16 held)) held))) (sym (ne_eqb (length held) 0 (λ none. omega (arith, none, fits))))

-- ---- what the code finds at a front, by how far the file was read
pub shows_start : (x : Found) (s new : ClassicFormat) (held : List ℕ) → s ≡ Start → Shows (magic_front (form_of held) held) held x s new → Shows (classic_front s held) held x s new
unfolding classic_front
shows_start x s new held is shows = subst (λ stood. Shows stood held x s new) (ap (λ r. classic_front r held) (sym is)) shows

keeps : (x : Found) (s : ClassicFormat) → Keeps x (s ≡ s)
keeps found.Nothing s = refl
keeps (found.Short f) s = refl
keeps (found.Bad f) s = refl
keeps (found.Over n) s = tt
keeps (found.Holds seen n) s = tt

pub shows_behind : (x : Found) (s : ClassicFormat) (f : ClassicEncoding) (order : ByteOrder) (held : List ℕ) → s ≡ Behind f → f.order ≡ order
    → told x (Behind (form order f.resolution)) held ≡ record_front (form order f.resolution) held → IsWithin held x → Shows (classic_front s held) held x s s
unfolding classic_front
shows_behind x s f order held is same value within =
    let here : s ≡ Behind (form order f.resolution) = is ∙ ap (λ o. Behind (form o f.resolution)) same in
    record { value = ap (λ r. told x r held) here ∙ value ∙ sym (ap (λ r. classic_front r held) here); same = keeps x s; within = within }

-- A header or a record that isn't all there can be filled up to one that is none of being cut off.
use Rattle.std.proofs.Common.{◌≡◌, ◌<◌, ◌≤◌, ◌+◌, ◌-◌, ℕ, zero, suc, Bool, true, false, List, [], ◌∷◌, ◌++◌, length, take, drop, Option, Some, None, Result, Ok, Err, cond, refl, ap, sym, subst, ◌∙◌, arith, length-append, length-drop, append_assoc}
use Rattle.std.specs.Prelude.{nat_lt, nat_le, nat_eq, replicate, not, ◌==◌, ◌&&◌, ◌^◌}
use Rattle.std.proofs.lemmas.Bool.{ltb-false, ltb-true, le-ltb, lt-ltb, ne_eqb}
use Rattle.std.proofs.lemmas.List.{take-append-le, length-replicate, get_or-drop}
use Rattle.exb_model.specs.Frames.{IsBytes}
use Rattle.exb_capture.specs.declared.fault.FormatFault.{FormatFault}
use Rattle.exb_capture.specs.declared.fault.Flaw.TheVariants.{NotPcap, Version, LinkType, Cut, Length, Time}
use Rattle.exb_capture.specs.declared.byte_order.ByteOrder.TheVariants.{Big, Little}
use Rattle.exb_capture.specs.declared.classic.Resolution.TheVariants.{Micros, Nanos}
use Rattle.exb_capture.specs.declared.classic.ClassicEncoding.{ClassicEncoding}
use Rattle.exb_capture.specs.declared.classic.ClassicFormat.{ClassicFormat}
use Rattle.exb_capture.specs.declared.classic.ClassicFormat.TheVariants.{Start, Behind}
use Rattle.exb_capture.specs.Fields.{◌>>=◌, refuse, word, half_word, agrees}
use Rattle.exb_capture.specs.Formats.{Front, Nothing, Short, Holds, fault}
use Rattle.exb_capture.specs.ReaderMachine.{IsOther, IsUndecided, IsNotCut}
use Rattle.exb_capture.specs.Classic.{form, digits, form_of, header_at, shown_header, magic_front, head_at, time_at, stored_front, record_front, classic_front}
use Rattle.exb_capture.proofs.FormatLemmas.{agrees_whole}
use Rattle.exb_capture.proofs.UndecidedLemmas.{IsWhole, then_whole, refused_whole, zeros_are_bytes, append_bytes, filled_long, agrees_filled}

-- ---- the magic number
abbrev pub form_by : Bool → Bool → Bool → Bool → Option ClassicEncoding
form_by a b c d = cond a (Some (form Big Micros)) (cond b (Some (form Big Nanos)) (cond c (Some (form Little Micros)) (cond d (Some (form Little Nanos)) None)))

pub same_by : (a b c d e f g h : Bool) → a ≡ e → b ≡ f → c ≡ g → d ≡ h → form_by a b c d ≡ form_by e f g h
same_by a b c d e f g h p q r s = λ i. form_by (p i) (q i) (r i) (s i)

pub form_more : (h more : List ℕ) → 4 ≤ length h → form_of (h ++ more) ≡ form_of h
form_more h more fits = same_by _ _ _ _ _ _ _ _ (agrees_whole _ h more fits) (agrees_whole _ h more fits) (agrees_whole _ h more fits) (agrees_whole _ h more fits)

-- one of them is that of these bytes
some_by : (a b c d : Bool) → (f : ClassicEncoding) → form_by a b c d ≡ Some f → (g h i j : Bool) → (a ≡ true → g ≡ true) → (b ≡ true → h ≡ true) → (c ≡ true → i ≡ true) → (d ≡ true → j ≡ true)
    → (x : ClassicEncoding) × (form_by g h i j ≡ Some x)
some_by a b c d f e true h i j p q r s = (form Big Micros, refl)
some_by a b c d f e false true i j p q r s = (form Big Nanos, refl)
some_by a b c d f e false false true j p q r s = (form Little Micros, refl)
some_by a b c d f e false false false true p q r s = (form Little Nanos, refl)
some_by true b c d f e false false false false p q r s = let no = p refl in absurd (cc)
some_by false true c d f e false false false false p q r s = let no = q refl in absurd (cc)
some_by false false true d f e false false false false p q r s = let no = r refl in absurd (cc)
some_by false false false true f e false false false false p q r s = let no = s refl in absurd (cc)
some_by false false false false f e false false false false p q r s = absurd (cc)

-- what begins as a magic number is filled up to it
pub record IsMagic (h : List ℕ) : Type 0 where
  pub more : List ℕ
  pub bytes : IsBytes more
  pub size : length (h ++ more) ≡ 4
  pub form : ClassicEncoding
  pub is : form_of (h ++ more) ≡ Some form

pub magic_bytes : (m : List ℕ) (n : ℕ) → IsBytes m → IsBytes (drop n m)
magic_bytes m n b i = subst (λ (x : ℕ). x < 256) (sym (get_or-drop n m i 0)) (b (n + i))

-- four bytes
pub four_bytes : (a b c d : ℕ) → a < 256 → b < 256 → c < 256 → d < 256 → IsBytes (a ∷ b ∷ c ∷ d ∷ [])
four_bytes a b c d p q r s zero = p
four_bytes a b c d p q r s (suc zero) = q
four_bytes a b c d p q r s (suc (suc zero)) = r
four_bytes a b c d p q r s (suc (suc (suc zero))) = s
four_bytes a b c d p q r s (suc (suc (suc (suc i)))) = omega arith

four : (m h : List ℕ) → length m ≡ 4 → length h < 4 → length (h ++ drop (length h) m) ≡ 4
four m h long few = omega (arith, long, few, length-append h (drop (length h) m), length-drop (length h) m)

magic_filled : (h : List ℕ) (a b c d : Bool) → agrees (0xA1 ∷ 0xB2 ∷ 0xC3 ∷ 0xD4 ∷ []) h ≡ a → agrees (0xA1 ∷ 0xB2 ∷ 0x3C ∷ 0x4D ∷ []) h ≡ b
    → agrees (0xD4 ∷ 0xC3 ∷ 0xB2 ∷ 0xA1 ∷ []) h ≡ c → agrees (0x4D ∷ 0x3C ∷ 0xB2 ∷ 0xA1 ∷ []) h ≡ d → (f : ClassicEncoding) → form_by a b c d ≡ Some f → length h < 4 → IsMagic h
magic_filled h true b c d p q r s f e few =
    let m : List ℕ = 0xA1 ∷ 0xB2 ∷ 0xC3 ∷ 0xD4 ∷ [] in
    let more : List ℕ = drop (length h) m in
    let is = some_by true false false false (form Big Micros) refl (agrees m (h ++ more)) (agrees _ (h ++ more)) (agrees _ (h ++ more)) (agrees _ (h ++ more)) (λ t. agrees_filled m h p) (λ t. absurd (cc)) (λ t. absurd (cc)) (λ t. absurd (cc)) in
    record { more = more; bytes = magic_bytes m (length h) (four_bytes 0xA1 0xB2 0xC3 0xD4 (omega arith) (omega arith) (omega arith) (omega arith)); size = four m h refl few; form = is.0; is = is.1 }
magic_filled h false true c d p q r s f e few =
    let m : List ℕ = 0xA1 ∷ 0xB2 ∷ 0x3C ∷ 0x4D ∷ [] in
    let more : List ℕ = drop (length h) m in
    let is = some_by false true false false (form Big Nanos) refl (agrees _ (h ++ more)) (agrees m (h ++ more)) (agrees _ (h ++ more)) (agrees _ (h ++ more)) (λ t. absurd (cc)) (λ t. agrees_filled m h q) (λ t. absurd (cc)) (λ t. absurd (cc)) in
    record { more = more; bytes = magic_bytes m (length h) (four_bytes 0xA1 0xB2 0x3C 0x4D (omega arith) (omega arith) (omega arith) (omega arith)); size = four m h refl few; form = is.0; is = is.1 }
magic_filled h false false true d p q r s f e few =
    let m : List ℕ = 0xD4 ∷ 0xC3 ∷ 0xB2 ∷ 0xA1 ∷ [] in
    let more : List ℕ = drop (length h) m in
    let is = some_by false false true false (form Little Micros) refl (agrees _ (h ++ more)) (agrees _ (h ++ more)) (agrees m (h ++ more)) (agrees _ (h ++ more)) (λ t. absurd (cc)) (λ t. absurd (cc)) (λ t. agrees_filled m h r) (λ t. absurd (cc)) in
    record { more = more; bytes = magic_bytes m (length h) (four_bytes 0xD4 0xC3 0xB2 0xA1 (omega arith) (omega arith) (omega arith) (omega arith)); size = four m h refl few; form = is.0; is = is.1 }
magic_filled h false false false true p q r s f e few =
    let m : List ℕ = 0x4D ∷ 0x3C ∷ 0xB2 ∷ 0xA1 ∷ [] in
    let more : List ℕ = drop (length h) m in
    let is = some_by false false false true (form Little Nanos) refl (agrees _ (h ++ more)) (agrees _ (h ++ more)) (agrees _ (h ++ more)) (agrees m (h ++ more)) (λ t. absurd (cc)) (λ t. absurd (cc)) (λ t. absurd (cc)) (λ t. agrees_filled m h s) in
    record { more = more; bytes = magic_bytes m (length h) (four_bytes 0x4D 0x3C 0xB2 0xA1 (omega arith) (omega arith) (omega arith) (omega arith)); size = four m h refl few; form = is.0; is = is.1 }
magic_filled h false false false false p q r s f e few = absurd (cc)

-- ---- no fault of a header or of a record's head that is there is one of being cut off
header_whole : (f : ClassicEncoding) (header : List ℕ) → IsWhole (header_at f header)
header_whole f header =
    then_whole (refuse (not (half_word f.order header 4 == 2 && half_word f.order header 6 == 4)) (fault Version 4)) (λ known. refuse (not (word f.order header 20 == 1)) (fault LinkType 20))
    (refused_whole (not (half_word f.order header 4 == 2 && half_word f.order header 6 == 4)) (fault Version 4) (λ e. cc))
    (λ known. refused_whole (not (word f.order header 20 == 1)) (fault LinkType 20) (λ e. cc))

head_whole : (f : ClassicEncoding) (head : List ℕ) → IsWhole (head_at f head)
head_whole f head =
    then_whole (refuse (nat_le (10 ^ digits f.resolution) (word f.order head 4)) (fault Time 4)) (λ early. refuse (nat_lt 262_144 (word f.order head 8)) (fault Length 8) >>= (λ short. Ok (word f.order head 8)))
    (refused_whole (nat_le (10 ^ digits f.resolution) (word f.order head 4)) (fault Time 4) (λ e. cc))
    (λ early. then_whole (refuse (nat_lt 262_144 (word f.order head 8)) (fault Length 8)) (λ short. Ok (word f.order head 8))
    (refused_whole (nat_lt 262_144 (word f.order head 8)) (fault Length 8) (λ e. cc)) (λ short. tt))

-- ---- the header
shown_other : (f : ClassicEncoding) (x : Result (Unit {0}) FormatFault) (n : ℕ) → IsWhole x → n ≡ 24 → IsOther Cut n (shown_header f x)
shown_other f (Ok u) n h e = (sym e, refl)
shown_other f (Err x) n h e = h

header_undecided : (h : List ℕ) (f : ClassicEncoding) → form_of h ≡ Some f → 4 ≤ length h → length h < 24 → IsUndecided classic_front Start h Cut
unfolding classic_front
header_undecided h f e four_there few =
    let more : List ℕ = replicate (24 - length h) 0 in
    let b : List ℕ = h ++ more in
    let size : length b ≡ 24 = filled_long h 24 (omega (arith, few)) in
    let is : magic_front (form_of b) b ≡ shown_header f (header_at f (take 24 b)) =
    ap (λ o. magic_front o b) (form_more h more four_there ∙ e)
    ∙ ap (λ t. cond t (Short (fault NotPcap 0)) (cond (nat_lt (length b) 24) (Short (fault Cut 0)) (shown_header f (header_at f (take 24 b))))) (le-ltb (length b) 4 (omega (arith, size)))
    ∙ ap (λ t. cond t (Short (fault Cut 0)) (shown_header f (header_at f (take 24 b)))) (le-ltb (length b) 24 (omega (arith, size))) in
    record { more = more; bytes = zeros_are_bytes (24 - length h); other = subst (IsOther Cut (length b)) (sym is) (shown_other f (header_at f (take 24 b)) (length b) (header_whole f (take 24 b)) size) }

start_undecided : (h : List ℕ) (f : ClassicEncoding) → form_of h ≡ Some f → length h < 4 → IsUndecided classic_front Start h NotPcap
unfolding classic_front
start_undecided h f e few =
    let m : IsMagic h = magic_filled h (agrees _ h) (agrees _ h) (agrees _ h) (agrees _ h) refl refl refl refl f e few in
    let b : List ℕ = h ++ m.more in
    let is : magic_front (form_of b) b ≡ Short (fault Cut 0) =
    ap (λ o. magic_front o b) m.is
    ∙ ap (λ t. cond t (Short (fault NotPcap 0)) (cond (nat_lt (length b) 24) (Short (fault Cut 0)) (shown_header m.form (header_at m.form (take 24 b))))) (le-ltb (length b) 4 (omega (arith, m.size)))
    ∙ ap (λ t. cond t (Short (fault Cut 0)) (shown_header m.form (header_at m.form (take 24 b)))) (lt-ltb (length b) 24 (omega (arith, m.size))) in
    record { more = m.more; bytes = m.bytes; other = subst (IsOther NotPcap (length b)) (sym is) (λ t. cc) }

magic_undecided : (h : List ℕ) (o : Option ClassicEncoding) (f : FormatFault) → form_of h ≡ o → magic_front o h ≡ Short f → IsUndecided classic_front Start h f.flaw
magic_undecided h None f e = λ is. absurd (cc)
magic_undecided h (Some g) f e = by_four (nat_lt (length h) 4) refl
  where
    no_short : (x : Result (Unit {0}) FormatFault) → shown_header g x ≡ Short f → ⊥
    no_short (Ok u) is = cc
    no_short (Err x) is = cc

    by_head : (t : Bool) → nat_lt (length h) 24 ≡ t → 4 ≤ length h → cond t (Short (fault Cut 0)) (shown_header g (header_at g (take 24 h))) ≡ Short f → IsUndecided classic_front Start h f.flaw
    by_head true t some is =
        let same : fault Cut 0 ≡ f = cc in
        subst (λ (x : FormatFault). IsUndecided classic_front Start h x.flaw) same (header_undecided h g e some (ltb-true (length h) 24 t))
    by_head false t some is = absurd (no_short (header_at g (take 24 h)) is)

    by_four : (t : Bool) → nat_lt (length h) 4 ≡ t
        → cond t (Short (fault NotPcap 0)) (cond (nat_lt (length h) 24) (Short (fault Cut 0)) (shown_header g (header_at g (take 24 h)))) ≡ Short f → IsUndecided classic_front Start h f.flaw
    by_four true t is =
        let same : fault NotPcap 0 ≡ f = cc in
        subst (λ (x : FormatFault). IsUndecided classic_front Start h x.flaw) same (start_undecided h g e (ltb-true (length h) 4 t))
    by_four false t is = by_head (nat_lt (length h) 24) refl (ltb-false (length h) 4 t) is

-- ---- a record
abbrev pub record_in : ClassicEncoding → ℕ → List ℕ → Front ClassicFormat
record_in f n left = Holds (record { time = time_at f (take 16 left); bytes = take n (drop 16 (take (16 + n) left)) }) (16 + n) (Behind f)

front_of_head : (f : ClassicEncoding) (b : List ℕ) (x : Result ℕ FormatFault) → 16 ≤ length b → head_at f (take 16 b) ≡ x → record_front f b ≡ stored_front f x b
front_of_head f b x long e =
    ap (λ t. cond t Nothing (cond (nat_lt (length b) 16) (Short (fault Cut 0)) (stored_front f (head_at f (take 16 b)) b))) (ne_eqb (length b) 0 (λ none. omega (arith, none, long)))
    ∙ ap (λ t. cond t (Short (fault Cut 0)) (stored_front f (head_at f (take 16 b)) b)) (le-ltb (length b) 16 long)
    ∙ ap (λ y. stored_front f y b) e

-- a record of which all bytes are there, and no more
full_other : (f : ClassicEncoding) (b : List ℕ) (n : ℕ) → length b ≡ 16 + n → head_at f (take 16 b) ≡ Ok n → IsOther Cut (length b) (record_front f b)
full_other f b n size e = subst (IsOther Cut (length b)) (sym (front_of_head f b (Ok n) (omega (arith, size)) e)) (by_size (nat_lt (length b) (16 + n)) (le-ltb (length b) (16 + n) (omega (arith, size))))
  where
    by_size : (t : Bool) → t ≡ false → IsOther Cut (length b) (cond t (Short (fault Cut 0)) (record_in f n b))
    by_size true t = absurd (cc)
    by_size false t = (sym size, refl)

few_undecided : (f : ClassicEncoding) (h : List ℕ) (x : Result ℕ FormatFault) → length h < 16 → head_at f (take 16 (h ++ replicate (16 - length h) 0)) ≡ x → IsUndecided classic_front (Behind f) h Cut
unfolding classic_front
few_undecided f h (Err g) few e =
    let more : List ℕ = replicate (16 - length h) 0 in
    let size = filled_long h 16 (omega (arith, few)) in
    let flaw : IsWhole {X = ℕ} (Err g) = subst IsWhole e (head_whole f (take 16 (h ++ more))) in
    record {
      more = more;
      bytes = zeros_are_bytes (16 - length h);
      other = subst (IsOther Cut (length (h ++ more))) (sym (front_of_head f (h ++ more) (Err g) (omega (arith, size)) e)) flaw;
    }
few_undecided f h (Ok n) few e =
    let first : List ℕ = replicate (16 - length h) 0 in
    let more : List ℕ = replicate n 0 in
    let sixteen = filled_long h 16 (omega (arith, few)) in
    let whole : (h ++ first) ++ more ≡ h ++ (first ++ more) = append_assoc h first more in
    let size : length ((h ++ first) ++ more) ≡ 16 + n = omega (arith, sixteen, length-append (h ++ first) more, length-replicate {A = ℕ} n 0) in
    let same : head_at f (take 16 ((h ++ first) ++ more)) ≡ Ok n = ap (head_at f) (take-append-le 16 (h ++ first) more (omega (arith, sixteen))) ∙ e in
    record {
      more = first ++ more;
      bytes = append_bytes first more (zeros_are_bytes (16 - length h)) (zeros_are_bytes n);
      other = subst (λ b. IsOther Cut (length b) (record_front f b)) whole (full_other f ((h ++ first) ++ more) n size same);
    }

stored_undecided : (f : ClassicEncoding) (h : List ℕ) (x : Result ℕ FormatFault) (g : FormatFault) → 16 ≤ length h → head_at f (take 16 h) ≡ x → stored_front f x h ≡ Short g → IsUndecided classic_front (Behind f) h g.flaw
unfolding classic_front
stored_undecided f h (Err y) g long e = λ is. absurd (cc)
stored_undecided f h (Ok n) g long e = by_size (nat_lt (length h) (16 + n)) refl
  where
    filled : length h < 16 + n → IsUndecided classic_front (Behind f) h Cut
    filled short =
        let more : List ℕ = replicate (16 + n - length h) 0 in
        record {
          more = more;
          bytes = zeros_are_bytes (16 + n - length h);
          other = full_other f (h ++ more) n (filled_long h (16 + n) (omega (arith, short))) (ap (head_at f) (take-append-le 16 h more long) ∙ e);
        }

    by_size : (t : Bool) → nat_lt (length h) (16 + n) ≡ t → cond t (Short (fault Cut 0)) (record_in f n h) ≡ Short g → IsUndecided classic_front (Behind f) h g.flaw
    by_size true t is =
        let same : fault Cut 0 ≡ g = cc in
        subst (λ (y : FormatFault). IsUndecided classic_front (Behind f) h y.flaw) same (filled (ltb-true (length h) (16 + n) t))
    by_size false t is = absurd (cc)

record_undecided : (f : ClassicEncoding) (h : List ℕ) (g : FormatFault) → record_front f h ≡ Short g → IsUndecided classic_front (Behind f) h g.flaw
record_undecided f h g = by_none (nat_eq (length h) 0)
  where
    rest : Front ClassicFormat
    rest = stored_front f (head_at f (take 16 h)) h

    by_head : (t : Bool) → nat_lt (length h) 16 ≡ t → cond t (Short (fault Cut 0)) rest ≡ Short g → IsUndecided classic_front (Behind f) h g.flaw
    by_head true t is =
        let same : fault Cut 0 ≡ g = cc in
        subst (λ (y : FormatFault). IsUndecided classic_front (Behind f) h y.flaw) same (few_undecided f h (head_at f (take 16 (h ++ replicate (16 - length h) 0))) (ltb-true (length h) 16 t) refl)
    by_head false t is = stored_undecided f h (head_at f (take 16 h)) g (ltb-false (length h) 16 t) refl is

    by_none : (t : Bool) → cond t Nothing (cond (nat_lt (length h) 16) (Short (fault Cut 0)) rest) ≡ Short g → IsUndecided classic_front (Behind f) h g.flaw
    by_none true is = absurd (cc)
    by_none false is = by_head (nat_lt (length h) 16) refl is

pub classic_undecided : (s : ClassicFormat) (h : List ℕ) (f : FormatFault) → classic_front s h ≡ Short f → IsUndecided classic_front s h f.flaw
unfolding classic_front
classic_undecided Start h f is = magic_undecided h (form_of h) f refl is
classic_undecided (Behind g) h f is = record_undecided g h f is

pub classic_blank : (s : ClassicFormat) → IsNotCut (classic_front s [])
unfolding classic_front agrees
classic_blank Start = λ e. cc
classic_blank (Behind f) = tt

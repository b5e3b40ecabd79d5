-- What is read was written so: a text that is read as a line is the text of that line.
use Rattle.std.proofs.Common.{◌≡◌, ◌⊎◌, inl, inr, ℕ, ◌+◌, ◌-◌, ◌*◌, ◌/◌, ◌%◌, ◌^◌, ◌<◌, ◌≤◌, ◌==◌, ◌&&◌, ◌||◌, nat_eq, nat_le, nat_lt, Bool, true, false, cond, List, [], ◌∷◌, ◌++◌, drop, length, Option, Some, None, refl, ap, sym, ◌∙◌, subst, arith}
use Rattle.std.specs.Prelude.{codes, decimal, option_map, option_and_then}
use Rattle.std.specs.List.{slice_split, join_with_byte, starts_with}
use Rattle.std.specs.Str.{bytes_eq, all_ascii_digits}
use Rattle.std.specs.Str.Parse.{digits_value}
use Rattle.std.proofs.lemmas.Bool.{and_parts, ltb-true, leb-true, eqb-true, lt-ltb, le-ltb, ne_eqb}
use Rattle.std.proofs.lemmas.Bool.Decides.{Decides-eqb}
use Rattle.std.proofs.lemmas.Fmt.{decimal-digits_value}
use Rattle.std.proofs.lemmas.List.Splits.{join_with_byte-slice_split}
use Rattle.std.proofs.lemmas.Slice.Eq.{starts_is}
use Rattle.exb_model.specs.declared.event.Cause.{Cause}
use Rattle.exb_model.specs.declared.event.Cause.TheVariants as cause
use Rattle.exb_model.specs.Texts.{port_name}
use Rattle.exb_trace_spec.proofs.EqualBytes.{bytes_is}
use Rattle.exb_trace_spec.specs.JournalLines.{Entry, Relayed, Ignored, Ticked, Committed, Refused, Rose, Stayed, Settled, cause_words, entry_words, entry_text, cause_by, cause_in, arrival_by, simple_in, refused_in, entry_by, entry_in, IsCounted, IsWritable}
use Rattle.exb_model.specs.Traces.{TraceLine, In, Out, Beat, hex_digit, hexadecimal, device_text, side_text, trace_line}
use Rattle.exb_trace_spec.specs.TraceTexts.{digit_in, byte_in, bytes_in, device_in, side_in, passing_by, passing_in, journal_by, read_line}
use Rattle.exb_trace_spec.specs.TextFields.{words_in, is_number, number_in, if_small, small_in, port_at, extended_in, port_in}
use Rattle.exb_trace_spec.specs.RoundTrips.{EntriesAreWritten, LinesAreWritten}
use Rattle.exb_trace_spec.proofs.TraceTexts.{place_words}
use Rattle.exb_trace_spec.proofs.TextFields.{numerals, extended_name}

-- ---- how an Option came to its value
record Bound {A B : Type 0} (f : A → Option B) (o : Option A) (z : B) : Type 0 where
  value : A
  is : o ≡ Some value
  gives : f value ≡ Some z

none_some : {A : Type 0} {z : A} → None ≡ Some z → ⊥
none_some e = cc

some_same : {A : Type 0} {x y : A} → Some x ≡ Some y → x ≡ y
some_same e = cc

bound : {A B : Type 0} (f : A → Option B) (o : Option A) (z : B) → option_and_then f o ≡ Some z → Bound f o z
bound f None z e = absurd (none_some e)
bound f (Some x) z e = record { value = x; is = refl; gives = e }

mapped : {A B : Type 0} (f : A → B) (o : Option A) (z : B) → option_map f o ≡ Some z → (x : A) × (o ≡ Some x) × (f x ≡ z)
mapped f None z e = absurd (none_some e)
mapped f (Some x) z e = (x, refl, some_same e)

chosen : {A : Type 0} (b : Bool) (x y : Option A) (z : A) → cond b x y ≡ Some z → ((b ≡ true) × (x ≡ Some z)) ⊎ ((b ≡ false) × (y ≡ Some z))
chosen true x y z e = inl (refl, e)
chosen false x y z e = inr (refl, e)

held : {A : Type 0} (b : Bool) (x : Option A) (z : A) → cond b x None ≡ Some z → (b ≡ true) × (x ≡ Some z)
held true x z e = (refl, e)
held false x z e = absurd (none_some e)

-- ---- numbers
number_is : (text : List ℕ) (n : ℕ) → number_in text ≡ Some n → n < 2 ^ 64 → decimal n ≡ text
unfolding number_in
number_is [] n e small = absurd (none_some e)
number_is (c ∷ cs) n e small =
    let k = held (is_number (c ∷ cs)) (Some (digits_value 10 (c ∷ cs))) n e in
    let p = and_parts (all_ascii_digits (c ∷ cs)) (nat_lt 48 c || length cs == 0) k.0 in
    let value : digits_value 10 (c ∷ cs) ≡ n = some_same k.1 in
    ap decimal (sym value) ∙ decimal-digits_value numerals (c ∷ cs) p.0 (omega arith) (alone p.1) (omega (arith, value, small))
  where
    alone : (nat_lt 48 c || length cs == 0) ≡ true → c ≡ 48 → length (c ∷ cs) ≡ 1
    alone h zero = (let none : (length cs == 0) ≡ true = rw zero at h in let size = eqb-true (length cs) 0 none in omega (arith, size))

record IsSmallText (text : List ℕ) (n : ℕ) : Type 0 where
  some : 0 < n
  few : n ≤ 64
  is : decimal n ≡ text

small_is : (text : List ℕ) (n : ℕ) → small_in text ≡ Some n → IsSmallText text n
unfolding small_in
small_is text n e =
    let k = bound if_small (number_in text) n e in
    let b = held (nat_lt 0 k.value && nat_le k.value 64) (Some k.value) n k.gives in
    let p = and_parts (nat_lt 0 k.value) (nat_le k.value 64) b.0 in
    let same : k.value ≡ n = some_same b.1 in
    let few = leb-true k.value 64 p.1 in
    let some = ltb-true 0 k.value p.0 in
    record { some = omega (arith, some, same); few = omega (arith, few, same); is = ap decimal (sym same) ∙ number_is text k.value k.is (omega (arith, few)) }

-- ---- ports
bridge_is : (rest : List ℕ) (p : ℕ) → option_map (port_at 0) (small_in rest) ≡ Some p → port_name p ≡ 98 ∷ rest
bridge_is rest p e =
    let k = mapped (port_at 0) (small_in rest) p e in
    let s : IsSmallText rest k.0 = small_is rest k.0 k.1 in
    let some = s.some in
    let few = s.few in
    let low : p < 64 = (let same : 64 * 0 + (k.0 - 1) ≡ p = k.2 in omega (arith, some, few, same)) in
    let number : p + 1 ≡ k.0 = (let same : 64 * 0 + (k.0 - 1) ≡ p = k.2 in omega (arith, some, same)) in
    rw (lt-ltb p 64 low) (ap (λ (zs : List ℕ). 98 ∷ zs) (ap decimal number ∙ s.is))

extended_is : (ws : List (List ℕ)) (p : ℕ) → extended_in ws ≡ Some p → port_name p ≡ 120 ∷ join_with_byte 46 ws
extended_is [] p e = absurd (none_some e)
extended_is (n ∷ []) p e = absurd (none_some e)
extended_is (n ∷ k ∷ x ∷ ws) p e = absurd (none_some e)
extended_is (n ∷ k ∷ []) p e =
    let a = bound (λ device. option_map (port_at device) (small_in k)) (small_in n) p e in
    let b = mapped (port_at a.value) (small_in k) p a.gives in
    let d : IsSmallText n a.value = small_is n a.value a.is in
    let s : IsSmallText k b.0 = small_is k b.0 b.1 in
    let same : 64 * a.value + (b.0 - 1) ≡ p = b.2 in
    let some = s.some in
    let few = s.few in
    let deep = d.some in
    let device : p / 64 ≡ a.value = omega (arith, same, some, few) in
    let number : p % 64 + 1 ≡ b.0 = omega (arith, same, some, few) in
    extended_name p (omega (arith, same, some, deep)) ∙ ap (λ (zs : List ℕ). 120 ∷ zs) (ap (λ (zs : List ℕ). zs ++ 46 ∷ decimal (p % 64 + 1)) (ap decimal device ∙ d.is) ∙ ap (λ (zs : List ℕ). n ++ 46 ∷ zs) (ap decimal number ∙ s.is))

port_is : (text : List ℕ) (p : ℕ) → port_in text ≡ Some p → port_name p ≡ text
unfolding port_in
port_is [] p e = absurd (none_some e)
port_is (c ∷ rest) p e =
    elim (chosen (c == 98) (option_map (port_at 0) (small_in rest)) (cond (c == 120) (extended_in (slice_split (λ b. b == 46) rest)) None) p e) [
      | inl k ↦ bridge_is rest p k.1 ∙ ap (λ (x : ℕ). x ∷ rest) (sym (eqb-true c 98 k.0))
      | inr k ↦ (let j = held (c == 120) (extended_in (slice_split (λ b. b == 46) rest)) p k.1 in
          extended_is (slice_split (λ b. b == 46) rest) p j.1 ∙ (ap (λ (zs : List ℕ). 120 ∷ zs) (join_with_byte-slice_split 46 rest) ∙ ap (λ (x : ℕ). x ∷ rest) (sym (eqb-true c 120 j.0))))
    ]

-- ---- lines of a journal
cause_is : (reason needed limit : List ℕ) (x : Cause) → cause_in reason needed limit ≡ Some x → IsCounted x → cause_words x ≡ reason ∷ needed ∷ limit ∷ []
cause_is reason needed limit x e counted =
    let a = bound (λ n. option_and_then (cause_by reason n) (number_in limit)) (number_in needed) x e in
    let b = bound (cause_by reason a.value) (number_in limit) x a.gives in
    elim (chosen (bytes_eq reason (codes "channels")) (Some (cause.Channels a.value b.value)) (cond (bytes_eq reason (codes "groups")) (Some (cause.Groups a.value b.value)) None) x b.gives) [
      | inl k ↦ (let c : IsCounted (cause.Channels a.value b.value) = subst IsCounted (sym (some_same k.1)) counted in
          ap cause_words (sym (some_same k.1)) ∙ three (sym (bytes_is reason (codes "channels") k.0)) (number_is needed a.value a.is c.0) (number_is limit b.value b.is c.1))
      | inr k ↦ (let j = held (bytes_eq reason (codes "groups")) (Some (cause.Groups a.value b.value)) x k.1 in let c : IsCounted (cause.Groups a.value b.value) = subst IsCounted (sym (some_same j.1)) counted in
          ap cause_words (sym (some_same j.1)) ∙ three (sym (bytes_is reason (codes "groups") j.0)) (number_is needed a.value a.is c.0) (number_is limit b.value b.is c.1))
    ]
  where
    three : {a b c x y z : List ℕ} → a ≡ x → b ≡ y → c ≡ z → a ∷ b ∷ c ∷ [] ≡ x ∷ y ∷ z ∷ []
    three p q r = cc

two : {a b x y : List ℕ} → a ≡ x → b ≡ y → a ∷ b ∷ [] ≡ x ∷ y ∷ []
two p q = cc

arrival_is : (kind port index : List ℕ) (e : Entry) → option_and_then (λ p. option_and_then (arrival_by kind p) (number_in index)) (port_in port) ≡ Some e → IsWritable e → entry_words e ≡ kind ∷ port ∷ index ∷ []
arrival_is kind port index e h may =
    let a = bound (λ p. option_and_then (arrival_by kind p) (number_in index)) (port_in port) e h in
    let b = bound (arrival_by kind a.value) (number_in index) e a.gives in
    elim (chosen (bytes_eq kind (codes "relay")) (Some (Relayed a.value b.value)) (cond (bytes_eq kind (codes "ignore")) (Some (Ignored a.value b.value)) None) e b.gives) [
      | inl k ↦ (let m : IsWritable (Relayed a.value b.value) = subst IsWritable (sym (some_same k.1)) may in
          ap entry_words (sym (some_same k.1)) ∙ three (sym (bytes_is kind (codes "relay") k.0)) (port_is port a.value a.is) (number_is index b.value b.is m.1))
      | inr k ↦ (let j = held (bytes_eq kind (codes "ignore")) (Some (Ignored a.value b.value)) e k.1 in let m : IsWritable (Ignored a.value b.value) = subst IsWritable (sym (some_same j.1)) may in
          ap entry_words (sym (some_same j.1)) ∙ three (sym (bytes_is kind (codes "ignore") j.0)) (port_is port a.value a.is) (number_is index b.value b.is m.1))
    ]
  where
    three : {a b c x y z : List ℕ} → a ≡ x → b ≡ y → c ≡ z → a ∷ b ∷ c ∷ [] ≡ x ∷ y ∷ z ∷ []
    three p q r = cc

simple_is : (kind what : List ℕ) (e : Entry) → simple_in kind what ≡ Some e → IsWritable e → entry_words e ≡ kind ∷ what ∷ []
simple_is kind what e h may =
    elim (chosen (bytes_eq kind (codes "tick")) (option_map Ticked (number_in what)) (cond (bytes_eq kind (codes "commit")) (option_map Committed (number_in what)) (cond (bytes_eq kind (codes "up")) (option_map Rose (port_in what)) None)) e h) [
      | inl k ↦ (let n = mapped Ticked (number_in what) e k.1 in ap entry_words (sym n.2) ∙ two (sym (bytes_is kind (codes "tick") k.0)) (number_is what n.0 n.1 (subst IsWritable (sym n.2) may)))
      | inr k ↦ elim (chosen (bytes_eq kind (codes "commit")) (option_map Committed (number_in what)) (cond (bytes_eq kind (codes "up")) (option_map Rose (port_in what)) None) e k.1) [
        | inl j ↦ (let n = mapped Committed (number_in what) e j.1 in ap entry_words (sym n.2) ∙ two (sym (bytes_is kind (codes "commit") j.0)) (number_is what n.0 n.1 (subst IsWritable (sym n.2) may)))
        | inr j ↦ (let u = held (bytes_eq kind (codes "up")) (option_map Rose (port_in what)) e j.1 in let n = mapped Rose (port_in what) e u.1 in ap entry_words (sym n.2) ∙ two (sym (bytes_is kind (codes "up") u.0)) (port_is what n.0 n.1))
      ]
    ]

refused_is : (kind what reason needed limit : List ℕ) (e : Entry) → option_and_then (refused_in kind what) (cause_in reason needed limit) ≡ Some e → IsWritable e → entry_words e ≡ kind ∷ what ∷ reason ∷ needed ∷ limit ∷ []
refused_is kind what reason needed limit e h may =
    let a = bound (refused_in kind what) (cause_in reason needed limit) e h in
    let x : Cause = a.value in
    elim (chosen (bytes_eq kind (codes "refuse")) (option_map (λ n. Refused n x) (number_in what)) (cond (bytes_eq kind (codes "noup")) (option_map (λ p. Stayed p x) (port_in what)) None) e a.gives) [
      | inl k ↦ (let n = mapped (λ n. Refused n x) (number_in what) e k.1 in let m : IsWritable (Refused n.0 x) = subst IsWritable (sym n.2) may in
          ap entry_words (sym n.2) ∙ whole (sym (bytes_is kind (codes "refuse") k.0)) (number_is what n.0 n.1 m.0) (cause_is reason needed limit x a.is m.1))
      | inr k ↦ (let j = held (bytes_eq kind (codes "noup")) (option_map (λ p. Stayed p x) (port_in what)) e k.1 in let n = mapped (λ p. Stayed p x) (port_in what) e j.1 in let m : IsWritable (Stayed n.0 x) = subst IsWritable (sym n.2) may in
          ap entry_words (sym n.2) ∙ whole (sym (bytes_is kind (codes "noup") j.0)) (port_is what n.0 n.1) (cause_is reason needed limit x a.is m.1))
    ]
  where
    whole : {a b x y : List ℕ} {us vs : List (List ℕ)} → a ≡ x → b ≡ y → us ≡ vs → a ∷ b ∷ us ≡ x ∷ y ∷ vs
    whole p q r = cc

words_are : (ws : List (List ℕ)) (e : Entry) → entry_by ws ≡ Some e → IsWritable e → entry_words e ≡ ws
words_are [] e h may = absurd (none_some h)
words_are (kind ∷ []) e h may = (let k = held (bytes_eq kind (codes "settled")) (Some Settled) e h in ap entry_words (sym (some_same k.1)) ∙ ap (λ (w : List ℕ). w ∷ []) (sym (bytes_is kind (codes "settled") k.0)))
words_are (kind ∷ what ∷ []) e h may = simple_is kind what e h may
words_are (kind ∷ port ∷ index ∷ []) e h may = arrival_is kind port index e h may
words_are (kind ∷ what ∷ reason ∷ needed ∷ []) e h may = absurd (none_some h)
words_are (kind ∷ what ∷ reason ∷ needed ∷ limit ∷ []) e h may = refused_is kind what reason needed limit e h may
words_are (kind ∷ what ∷ reason ∷ needed ∷ limit ∷ x ∷ ws) e h may = absurd (none_some h)

joined_words : (text : List ℕ) → join_with_byte 32 (words_in text) ≡ text
unfolding words_in
joined_words text = join_with_byte-slice_split 32 text

pub entries_are_written : EntriesAreWritten
unfolding entry_in entry_text
entries_are_written text e h may = ap (join_with_byte 32) (words_are (words_in text) e h may) ∙ joined_words text

-- ---- lines of a trace
digit_is : (c d : ℕ) → digit_in c ≡ Some d → (hex_digit d ≡ c) × (d < 16)
digit_is c d e =
    elim (chosen (nat_le 48 c && nat_le c 57) (Some (c - 48)) (cond (nat_le 97 c && nat_le c 102) (Some (c - 87)) None) d e) [
      | inl k ↦ (let p = and_parts (nat_le 48 c) (nat_le c 57) k.0 in let low = leb-true 48 c p.0 in let high = leb-true c 57 p.1 in let same : c - 48 ≡ d = some_same k.1 in
          (rw (lt-ltb d 10 (omega (arith, low, high, same))) (omega (arith, low, same)), omega (arith, low, high, same)))
      | inr k ↦ (let j = held (nat_le 97 c && nat_le c 102) (Some (c - 87)) d k.1 in let p = and_parts (nat_le 97 c) (nat_le c 102) j.0 in let low = leb-true 97 c p.0 in let high = leb-true c 102 p.1 in let same : c - 87 ≡ d = some_same j.1 in
          (rw (le-ltb d 10 (omega (arith, low, same))) (omega (arith, low, same)), omega (arith, low, high, same)))
    ]

byte_is : (high low b : ℕ) → byte_in high low ≡ Some b → hex_digit (b / 16) ∷ hex_digit (b % 16) ∷ [] ≡ high ∷ low ∷ []
byte_is high low b e =
    let h = bound (λ h. option_map (λ l. 16 * h + l) (digit_in low)) (digit_in high) b e in
    let l = mapped (λ l. 16 * h.value + l) (digit_in low) b h.gives in
    let top = digit_is high h.value h.is in
    let end = digit_is low l.0 l.1 in
    let few = end.1 in
    let same : 16 * h.value + l.0 ≡ b = l.2 in
    let first : b / 16 ≡ h.value = omega (arith, same, few) in
    let last : b % 16 ≡ l.0 = omega (arith, same, few) in
    pair (ap hex_digit first ∙ top.0) (ap hex_digit last ∙ end.0)
  where
    pair : {a b x y : ℕ} → a ≡ x → b ≡ y → a ∷ b ∷ [] ≡ x ∷ y ∷ []
    pair p q = cc

bytes_are : (text bytes : List ℕ) → bytes_in text ≡ Some bytes → hexadecimal bytes ≡ text
unfolding bytes_in
bytes_are [] bytes e = ap hexadecimal (sym (some_same e))
bytes_are (c ∷ []) bytes e = absurd (none_some e)
bytes_are (high ∷ low ∷ rest) bytes e =
    let b = bound (λ b. option_map (λ bs. b ∷ bs) (bytes_in rest)) (byte_in high low) bytes e in
    let more = mapped (λ bs. b.value ∷ bs) (bytes_in rest) bytes b.gives in
    ap hexadecimal (sym more.2) ∙ (ap (λ (zs : List ℕ). zs ++ hexadecimal more.0) (byte_is high low b.value b.is) ∙ ap (λ (zs : List ℕ). high ∷ low ∷ zs) (bytes_are rest more.0 more.1))

device_is : (text : List ℕ) (n : ℕ) → device_in text ≡ Some n → device_text n ≡ text
device_is [] n e = absurd (none_some e)
device_is (c ∷ rest) n e =
    elim (chosen (bytes_eq (c ∷ rest) (codes "b")) (Some 0) (cond (c == 120) (small_in rest) None) n e) [
      | inl k ↦ ap device_text (sym (some_same k.1)) ∙ sym (bytes_is (c ∷ rest) (codes "b") k.0)
      | inr k ↦ (let j = held (c == 120) (small_in rest) n k.1 in let s : IsSmallText rest n = small_is rest n j.1 in let some = s.some in
          rw (ne_eqb n 0 (λ z. omega (arith, z, some))) (ap (λ (zs : List ℕ). 120 ∷ zs) s.is ∙ ap (λ (x : ℕ). x ∷ rest) (sym (eqb-true c 120 j.0))))
    ]

side_is : (n : ℕ) (text : List ℕ) (k : ℕ) → side_in n text ≡ Some k → side_text k ≡ text
side_is n text k e =
    elim (chosen (bytes_eq text (codes "up")) (cond (n == 0) None (Some 0)) (small_in text) k e) [
      | inl u ↦ ap side_text (sym (upstream (n == 0) u.1)) ∙ sym (bytes_is text (codes "up") u.0)
      | inr u ↦ (let s : IsSmallText text k = small_is text k u.1 in let some = s.some in rw (ne_eqb k 0 (λ z. omega (arith, z, some))) s.is)
    ]
  where
    upstream : (b : Bool) → cond b None (Some 0) ≡ Some k → 0 ≡ k
    upstream true z = absurd (none_some z)
    upstream false z = some_same z

passing_is : (way device side bytes : List ℕ) (l : TraceLine) → passing_in (way ∷ device ∷ side ∷ bytes ∷ []) ≡ Some l → trace_line l ≡ join_with_byte 32 (way ∷ device ∷ side ∷ bytes ∷ [])
unfolding trace_line
passing_is way device side bytes l e =
    let d = bound (λ n. option_and_then (λ k. option_and_then (passing_by way n k) (bytes_in bytes)) (side_in n side)) (device_in device) l e in
    let s = bound (λ k. option_and_then (passing_by way d.value k) (bytes_in bytes)) (side_in d.value side) l d.gives in
    let b = bound (passing_by way d.value s.value) (bytes_in bytes) l s.gives in
    let its : device_text d.value ∷ side_text s.value ∷ hexadecimal b.value ∷ [] ≡ device ∷ side ∷ bytes ∷ [] = three (device_is device d.value d.is) (side_is d.value side s.value s.is) (bytes_are bytes b.value b.is) in
    elim (chosen (bytes_eq way (codes "in")) (Some (In d.value s.value b.value)) (cond (bytes_eq way (codes "out")) (Some (Out d.value s.value b.value)) None) l b.gives) [
      | inl k ↦ ap trace_line (sym (some_same k.1)) ∙ (place_words (codes "in") d.value s.value b.value ∙ ap (join_with_byte 32) (whole (sym (bytes_is way (codes "in") k.0)) its))
      | inr k ↦ (let j = held (bytes_eq way (codes "out")) (Some (Out d.value s.value b.value)) l k.1 in
          ap trace_line (sym (some_same j.1)) ∙ (place_words (codes "out") d.value s.value b.value ∙ ap (join_with_byte 32) (whole (sym (bytes_is way (codes "out") j.0)) its)))
    ]
  where
    three : {a b c x y z : List ℕ} → a ≡ x → b ≡ y → c ≡ z → a ∷ b ∷ c ∷ [] ≡ x ∷ y ∷ z ∷ []
    three p q r = cc

    whole : {a x : List ℕ} {us vs : List (List ℕ)} → a ≡ x → us ≡ vs → a ∷ us ≡ x ∷ vs
    whole p r = cc

passing_are : (ws : List (List ℕ)) (l : TraceLine) → passing_in ws ≡ Some l → trace_line l ≡ join_with_byte 32 ws
unfolding trace_line
passing_are [] l e = absurd (none_some e)
passing_are (way ∷ []) l e = (let k = held (bytes_eq way (codes "beat")) (Some Beat) l e in ap trace_line (sym (some_same k.1)) ∙ sym (bytes_is way (codes "beat") k.0))
passing_are (way ∷ device ∷ []) l e = absurd (none_some e)
passing_are (way ∷ device ∷ side ∷ []) l e = absurd (none_some e)
passing_are (way ∷ device ∷ side ∷ bytes ∷ []) l e = passing_is way device side bytes l e
passing_are (way ∷ device ∷ side ∷ bytes ∷ x ∷ ws) l e = absurd (none_some e)

journal_is : (text : List ℕ) (o : Option Entry) (l : TraceLine) → journal_by text o ≡ Some l → trace_line l ≡ codes "= " ++ text
unfolding trace_line
journal_is text None l e = absurd (none_some e)
journal_is text (Some x) l e = ap trace_line (sym (some_same e))

pub lines_are_written : LinesAreWritten
unfolding read_line
lines_are_written text l e =
    elim (chosen (starts_with nat_eq text (codes "= ")) (journal_by (drop 2 text) (entry_in (drop 2 text))) (passing_in (words_in text)) l e) [
      | inl k ↦ journal_is (drop 2 text) (entry_in (drop 2 text)) l k.1 ∙ sym ((starts_is Decides-eqb text (codes "= ") (starts_with nat_eq text (codes "= ")) refl).0 k.0)
      | inr k ↦ passing_are (words_in text) l k.1 ∙ joined_words text
    ]

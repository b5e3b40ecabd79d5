-- pcapng is a format: what stands at a front stands whatever follows.
use Rattle.std.proofs.Common.{◌≡◌, ◌<◌, ◌≤◌, ◌+◌, ◌-◌, ℕ, Bool, true, false, List, [], ◌++◌, length, take, drop, Option, Some, None, Result, Ok, Err, cond, refl, ap, sym, ◌∙◌, arith}
use Rattle.std.specs.Prelude.{nat_lt, nat_eq}
use Rattle.std.proofs.lemmas.Bool.{ltb-false, ltb-true, le-ltb, eqb-true}
use Rattle.std.proofs.lemmas.List.{take-append-le, take-take, drop-take}
use Rattle.exb_capture.specs.declared.fault.FormatFault.{FormatFault}
use Rattle.exb_capture.specs.declared.fault.Flaw.TheVariants.{Cut}
use Rattle.exb_capture.specs.declared.byte_order.ByteOrder.{ByteOrder}
use Rattle.exb_capture.specs.declared.block.Interface.{Interface}
use Rattle.exb_capture.specs.FieldRanges.{section_of}
use Rattle.exb_capture.specs.declared.block.BlockHeader.{BlockHeader}
use Rattle.exb_capture.specs.declared.block.BlockContent.{BlockContent}
use Rattle.exb_capture.specs.declared.block.BlockContent.TheVariants.{Skipped, NewSection, NewInterface, Packet}
use Rattle.exb_capture.specs.declared.format.RecordSpan.{RecordSpan}
use Rattle.exb_capture.specs.Formats.{Front, Nothing, Short, Over, Holds, fault}
use Rattle.exb_capture.specs.ReaderMachine.{IsFormat}
use Rattle.exb_capture.proofs.FormatLemmas.{IsDecided, longer, IsMeasured, LiesWithin, format_by, not_empty}
use Rattle.exb_capture.proofs.BlockSizes.{head_sized, IsSized, IsLong, block_long}
use Rattle.exb_capture.proofs.BlockPrefixes.{block_undecided, block_blank}
use Rattle.exb_capture.proofs.BlockFaults.{block_within, head_within}
use Rattle.exb_capture.specs.Blocks.{Sections, order_of, interfaces_of, is_read, head_at, block_at, shown, whole_front, headed_front, block_front, most_held, kind_of}

-- a block that is there
abbrev pub block : Sections → BlockHeader → List ℕ → Front Sections
block s head left = shown s head (take head.size left) (block_at head (interfaces_of s.section) s.last (take head.size left))

whole_stands : (s : Sections) (head : BlockHeader) (h more : List ℕ) → IsDecided (whole_front s head h) → whole_front s head (h ++ more) ≡ whole_front s head h
whole_stands s head h more = by_size (nat_lt (length h) head.size) refl
  where
    by_size : (b : Bool) → nat_lt (length h) head.size ≡ b → IsDecided (cond b (Short (fault Cut 0)) (block s head h))
        → whole_front s head (h ++ more) ≡ cond b (Short (fault Cut 0)) (block s head h)
    by_size true e never = absurd never
    by_size false e is =
        let fits = ltb-false (length h) head.size e in
        ap (λ b. cond b (Short (fault Cut 0)) (block s head (h ++ more))) (longer h more head.size fits)
        ∙ ap (λ b. shown s head b (block_at head (interfaces_of s.section) s.last b)) (take-append-le head.size h more fits)

headed_stands : (s : Sections) (x : Result BlockHeader FormatFault) (h more : List ℕ) → IsDecided (headed_front s x h) → headed_front s x (h ++ more) ≡ headed_front s x h
headed_stands s (Err f) h more = λ is. refl
headed_stands s (Ok head) h more = by_kind (is_read (kind_of head.kind))
  where
    by_kind : (b : Bool) → IsDecided (cond b (whole_front s head h) (Over head.size s)) → cond b (whole_front s head (h ++ more)) (Over head.size s) ≡ cond b (whole_front s head h) (Over head.size s)
    by_kind true is = whole_stands s head h more is
    by_kind false is = refl

pub block_stands : (s : Sections) (h more : List ℕ) → IsDecided (block_front s h) → block_front s (h ++ more) ≡ block_front s h
unfolding block_front
block_stands s h more = by_none (nat_eq (length h) 0)
  where
    rest : List ℕ → Front Sections
    rest left = cond (nat_lt (length left) 12) (Short (fault Cut 0)) (headed_front s (head_at (order_of s.section) (take 12 left)) left)

    by_head : (b : Bool) → nat_lt (length h) 12 ≡ b → IsDecided (cond b (Short (fault Cut 0)) (headed_front s (head_at (order_of s.section) (take 12 h)) h))
        → cond (nat_eq (length (h ++ more)) 0) Nothing (rest (h ++ more)) ≡ cond b (Short (fault Cut 0)) (headed_front s (head_at (order_of s.section) (take 12 h)) h)
    by_head true e never = absurd never
    by_head false e is =
        let fits = ltb-false (length h) 12 e in
        ap (λ b. cond b Nothing (rest (h ++ more))) (not_empty h more (omega (arith, fits)))
        ∙ ap (λ b. cond b (Short (fault Cut 0)) (headed_front s (head_at (order_of s.section) (take 12 (h ++ more))) (h ++ more))) (longer h more 12 fits)
        ∙ ap (λ twelve. headed_front s (head_at (order_of s.section) twelve) (h ++ more)) (take-append-le 12 h more fits)
        ∙ headed_stands s (head_at (order_of s.section) (take 12 h)) h more is

    by_none : (b : Bool) → IsDecided (cond b Nothing (rest h)) → cond (nat_eq (length (h ++ more)) 0) Nothing (rest (h ++ more)) ≡ cond b Nothing (rest h)
    by_none true never = absurd never
    by_none false is = by_head (nat_lt (length h) 12) refl is

-- ---- sizes
shown_measured : (s : Sections) (head : BlockHeader) (b : List ℕ) (x : Result BlockContent FormatFault) (h : List ℕ) → IsLong head.size x → LiesWithin head.size x → 0 < head.size → head.size ≤ length h → IsMeasured most_held h (shown s head b x)
shown_measured s head b (Ok Skipped) h long lies some fits = some
shown_measured s head b (Ok NewSection) h long lies some fits = some
shown_measured s head b (Ok (NewInterface i)) h long lies some fits = some
shown_measured s head b (Ok (Packet x)) h long lies some fits = (long, fits)
shown_measured s head b (Err f) h long lies some fits = omega (arith, lies, fits)

headed_measured : (s : Sections) (x : Result BlockHeader FormatFault) (h : List ℕ) → ((head : BlockHeader) → x ≡ Ok head → IsSized head) → 12 ≤ length h → LiesWithin 12 x → IsMeasured most_held h (headed_front s x h)
headed_measured s (Err f) h sized twelve lies = omega (arith, twelve, lies)
headed_measured s (Ok head) h sized twelve lies = by_kind (is_read (kind_of head.kind)) refl
  where
    by_size : (b : Bool) → nat_lt (length h) head.size ≡ b → is_read (kind_of head.kind) ≡ true → IsMeasured most_held h (cond b (Short (fault Cut 0)) (block s head h))
    by_size true e read = let few = ltb-true (length h) head.size e in let most = (sized head refl).most read in (omega (arith, few, most), omega arith)
    by_size false e read = shown_measured s head (take head.size h) (block_at head (interfaces_of s.section) s.last (take head.size h)) h (block_long head (interfaces_of s.section) s.last (take head.size h)) (block_within head (interfaces_of s.section) s.last (take head.size h) (sized head refl).some) (let some = (sized head refl).some in omega (arith, some)) (ltb-false (length h) head.size e)

    by_kind : (b : Bool) → is_read (kind_of head.kind) ≡ b → IsMeasured most_held h (cond b (whole_front s head h) (Over head.size s))
    by_kind true read = by_size (nat_lt (length h) head.size) refl read
    by_kind false read = let some = (sized head refl).some in omega (arith, some)

pub block_measured : (s : Sections) (h : List ℕ) → IsMeasured most_held h (block_front s h)
unfolding block_front
block_measured s h = by_none (nat_eq (length h) 0) refl
  where
    by_head : (b : Bool) → nat_lt (length h) 12 ≡ b → IsMeasured most_held h (cond b (Short (fault Cut 0)) (headed_front s (head_at (order_of s.section) (take 12 h)) h))
    by_head true e = let few = ltb-true (length h) 12 e in (omega (arith, few), omega arith)
    by_head false e =
        headed_measured s (head_at (order_of s.section) (take 12 h)) h (head_sized (order_of s.section) (take 12 h)) (ltb-false (length h) 12 e) (head_within (order_of s.section) (take 12 h))

    by_none : (b : Bool) → nat_eq (length h) 0 ≡ b
        → IsMeasured most_held h (cond b Nothing (cond (nat_lt (length h) 12) (Short (fault Cut 0)) (headed_front s (head_at (order_of s.section) (take 12 h)) h)))
    by_none true e = let none = eqb-true (length h) 0 e in omega (arith, none)
    by_none false e = by_head (nat_lt (length h) 12) refl

pub blocks_are_a_format : IsFormat most_held block_front
blocks_are_a_format = format_by most_held block_front block_stands block_measured block_undecided block_blank

-- ---- a packet, as the code finds it
pub interfaces_is : (order : Option ByteOrder) (interfaces : List Interface) → (order ≡ None → interfaces ≡ []) → interfaces ≡ interfaces_of (section_of order interfaces)
interfaces_is None interfaces h = h refl
interfaces_is (Some order) interfaces h = refl

pub part_of : (held : List ℕ) (from n size : ℕ) → from + n ≤ size → take n (drop from held) ≡ take n (drop from (take size held))
part_of held from n size fits =
    let whole : from + (size - from) ≡ size = omega arith in
    sym (take-take n (size - from) (drop from held) (omega arith))
    ∙ ap (take n) (sym (drop-take from (size - from) held) ∙ ap (λ k. drop from (take k held)) whole)

pub packet_front : (order : Option ByteOrder) (interfaces : List Interface) (last : ℕ) (head : BlockHeader) (held : List ℕ) (x : RecordSpan) → (order ≡ None → interfaces ≡ [])
    → head.size ≤ length held → x.from + x.bytes ≤ head.size
    → Ok (Packet x) ≡ block_at head interfaces last (take head.size held)
    → Holds (record { time = x.moment; bytes = take x.bytes (drop x.from held) }) head.size (record { section = section_of order interfaces; last = x.moment })
    ≡ whole_front (record { section = section_of order interfaces; last = last }) head held
packet_front order interfaces last head held x none there fits e =
    let s : Sections = record { section = section_of order interfaces; last = last } in
    ap (λ bytes. Holds (record { time = x.moment; bytes = bytes }) head.size (record { section = section_of order interfaces; last = x.moment })) (part_of held x.from x.bytes head.size fits)
    ∙ ap (shown s head (take head.size held)) (e ∙ ap (λ xs. block_at head xs last (take head.size held)) (interfaces_is order interfaces none))
    ∙ ap (λ b. cond b (Short (fault Cut 0)) (block s head held)) (sym (le-ltb (length held) head.size there))

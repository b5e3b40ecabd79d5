-- A block that isn't all there can be filled up to one that is none of being cut off.
use Rattle.std.proofs.Common.{◌≡◌, ◌<◌, ◌≤◌, ◌+◌, ◌-◌, ℕ, zero, suc, Bool, true, false, List, [], ◌++◌, length, take, Option, Some, None, Result, Ok, Err, cond, refl, ap, sym, subst, ◌∙◌, arith, length-append, append_assoc}
use Rattle.std.specs.Prelude.{nat_lt, nat_le, nat_eq, replicate, get_or, slice_index, ◌&&◌, not, ◌==◌, ◌^◌, ◌*◌}
use Rattle.std.proofs.lemmas.Bool.{ltb-false, ltb-true, le-ltb, ne_eqb}
use Rattle.std.proofs.lemmas.List.{take-append-le, length-replicate}
use Rattle.exb_capture.specs.declared.fault.FormatFault.{FormatFault}
use Rattle.exb_capture.specs.declared.fault.Flaw.TheVariants.{Version, LinkType, Cut, Length, Time, Magic, TooMany, Resolution, Interface as NoInterface}
use Rattle.exb_capture.specs.declared.byte_order.ByteOrder.{ByteOrder}
use Rattle.exb_capture.specs.declared.byte_order.ByteOrder.TheVariants.{Big, Little}
use Rattle.exb_capture.specs.declared.block.Interface.{Interface}
use Rattle.exb_capture.specs.declared.block.BlockHeader.{BlockHeader}
use Rattle.exb_capture.specs.declared.block.BlockContent.{BlockContent}
use Rattle.exb_capture.specs.declared.block.BlockContent.TheVariants.{Skipped, NewSection, NewInterface, Packet}
use Rattle.exb_capture.specs.Formats.{Front, Nothing, Short, Over, fault}
use Rattle.exb_capture.specs.Fields.{◌>>=◌, refuse, word, half_word, nanoseconds}
use Rattle.exb_capture.specs.ReaderMachine.{IsOther, IsUndecided, IsNotCut}
use Rattle.exb_capture.specs.Blocks.{Sections, order_of, interfaces_of, is_header, new_order, old_order, order_at, kind_of, is_read, is_no_size, head_at, digits_at, or_option, or_six, padded, resolution_within, resolution_from, section_at, interface_at, interface_number, no_interface, units_at, is_no_frame, enhanced_at, snapped, simple_at, content_at, block_at, shown, whole_front, headed_front, block_front, Kind, SectionHeader, InterfaceBlock, EnhancedPacket, SimplePacket, Other}
use Rattle.exb_capture.proofs.BlockSizes.{head_sized}
use Rattle.exb_capture.proofs.UndecidedLemmas.{IsWhole, then_whole, refused_whole, chosen_whole, zeros_are_bytes, append_bytes, filled_long}

-- ---- no fault of a head or of a block that is there is one of being cut off
order_whole : (old : Option ByteOrder) (twelve : List ℕ) → IsWhole (order_at old twelve)
order_whole old twelve =
    chosen_whole (is_header twelve) (new_order twelve) (old_order old)
    (chosen_whole (word Big twelve 8 == 0x1A2B3C4D) (Ok Big) (cond (word Little twelve 8 == 0x1A2B3C4D) (Ok Little) (Err (fault Magic 8))) tt
    (chosen_whole (word Little twelve 8 == 0x1A2B3C4D) (Ok Little) (Err (fault Magic 8)) tt (λ e. cc)))
    (by_old old)
  where
    by_old : (o : Option ByteOrder) → IsWhole (old_order o)
    by_old None = λ e. cc
    by_old (Some order) = tt

head_whole : (old : Option ByteOrder) (twelve : List ℕ) → IsWhole (head_at old twelve)
head_whole old twelve =
    then_whole (order_at old twelve)
    (λ order. refuse (is_no_size (kind_of (word order twelve 0)) (word order twelve 4)) (fault Length 4) >>= (λ sized. Ok (record { order = order; kind = word order twelve 0; size = word order twelve 4 })))
    (order_whole old twelve)
    (λ order. then_whole (refuse (is_no_size (kind_of (word order twelve 0)) (word order twelve 4)) (fault Length 4))
    (λ sized. Ok (record { order = order; kind = word order twelve 0; size = word order twelve 4 }))
    (refused_whole (is_no_size (kind_of (word order twelve 0)) (word order twelve 4)) (fault Length 4) (λ e. cc)) (λ u. tt))

-- what an option 9 says is no such fault
abbrev IsFirstWhole : Option (Result ℕ FormatFault) → Type 0
IsFirstWhole None = Unit {0}
IsFirstWhole (Some first) = IsWhole first

six_whole : (first : Option (Result ℕ FormatFault)) → IsFirstWhole first → IsWhole (or_six first)
six_whole None h = tt
six_whole (Some first) h = h

digits_whole : (order : ByteOrder) (at : ℕ) (block : List ℕ) → IsWhole (digits_at order at block)
digits_whole order at block =
    chosen_whole (half_word order block (at + 2) == 1 && nat_le (slice_index block (at + 4)) 9) (Ok (slice_index block (at + 4))) (Err (fault Resolution at)) tt (λ e. cc)

option_whole : (first : Option (Result ℕ FormatFault)) (order : ByteOrder) (at : ℕ) (block : List ℕ) → IsFirstWhole first → IsFirstWhole (or_option first order at block)
option_whole (Some first) order at block h = h
option_whole None order at block h = by_nine (half_word order block at == 9)
  where
    by_nine : (b : Bool) → IsFirstWhole (cond b (Some (digits_at order at block)) None)
    by_nine true = digits_whole order at block
    by_nine false = tt

options_whole : (n : ℕ) (order : ByteOrder) (first : Option (Result ℕ FormatFault)) (at to : ℕ) (block : List ℕ) → IsFirstWhole first → IsWhole (resolution_within n order first at to block)
unfolding resolution_within
options_whole zero order first at to block h = six_whole first h
options_whole (suc n) order first at to block h =
    let rest : Result ℕ FormatFault = resolution_within n order (or_option first order at block) (at + 4 + padded (half_word order block (at + 2))) to block in
    let past : Result ℕ FormatFault = cond (nat_lt to (at + 4 + half_word order block (at + 2))) (Err (fault Length at)) rest in
    let none : Result ℕ FormatFault = cond (half_word order block at == 0) (or_six first) past in
    chosen_whole (nat_le to at) (or_six first) none (six_whole first h)
    (chosen_whole (half_word order block at == 0) (or_six first) past (six_whole first h)
    (chosen_whole (nat_lt to (at + 4 + half_word order block (at + 2))) (Err (fault Length at)) rest (λ e. cc)
    (options_whole n order (or_option first order at block) (at + 4 + padded (half_word order block (at + 2))) to block (option_whole first order at block h))))

resolution_whole : (order : ByteOrder) (to : ℕ) (block : List ℕ) → IsWhole (resolution_from order None 16 to block)
unfolding resolution_from
resolution_whole order to block = options_whole (to - 16) order None 16 to block tt

section_whole : (head : BlockHeader) (block : List ℕ) → IsWhole (section_at head block)
section_whole head block =
    then_whole (refuse (nat_lt head.size 28) (fault Length 4)) (λ long. refuse (not (half_word head.order block 12 == 1)) (fault Version 12) >>= (λ known. Ok NewSection))
    (refused_whole (nat_lt head.size 28) (fault Length 4) (λ e. cc))
    (λ long. then_whole (refuse (not (half_word head.order block 12 == 1)) (fault Version 12)) (λ known. Ok NewSection)
    (refused_whole (not (half_word head.order block 12 == 1)) (fault Version 12) (λ e. cc)) (λ known. tt))

interface_whole : (head : BlockHeader) (interfaces : List Interface) (block : List ℕ) → IsWhole (interface_at head interfaces block)
interface_whole head interfaces block =
    then_whole (refuse (nat_lt head.size 20) (fault Length 4)) few_on (refused_whole (nat_lt head.size 20) (fault Length 4) (λ e. cc))
    (λ long. then_whole (refuse (nat_le 256 (length interfaces)) (fault TooMany 0)) digits_on (refused_whole (nat_le 256 (length interfaces)) (fault TooMany 0) (λ e. cc))
    (λ few. then_whole (resolution_from head.order None 16 (head.size - 4) block) made (resolution_whole head.order (head.size - 4) block) (λ digits. tt)))
  where
    made : ℕ → Result BlockContent FormatFault
    made digits = Ok (NewInterface (record { link = half_word head.order block 8; snap = word head.order block 12; digits = digits }))

    digits_on : Unit {0} → Result BlockContent FormatFault
    digits_on few = resolution_from head.order None 16 (head.size - 4) block >>= made

    few_on : Unit {0} → Result BlockContent FormatFault
    few_on long = refuse (nat_le 256 (length interfaces)) (fault TooMany 0) >>= digits_on

number_whole : (interfaces : List Interface) (i : ℕ) (none : FormatFault) → (none.flaw ≡ Cut → ⊥) → IsWhole (interface_number interfaces i none)
number_whole interfaces i none h = chosen_whole (nat_lt i (length interfaces)) (Ok (get_or interfaces i no_interface)) (Err none) tt h

enhanced_whole : (head : BlockHeader) (interfaces : List Interface) (block : List ℕ) → IsWhole (enhanced_at head interfaces block)
enhanced_whole head interfaces block =
    then_whole (refuse (nat_lt head.size 32) (fault Length 4)) (λ long. numbered >>= linked) (refused_whole (nat_lt head.size 32) (fault Length 4) (λ e. cc))
    (λ long. then_whole numbered linked (number_whole interfaces (word head.order block 8) (fault NoInterface 8) (λ e. cc))
    (λ interface. then_whole (refuse (not (interface.link == 1)) (fault LinkType 8)) (λ ethernet. timed interface) (refused_whole (not (interface.link == 1)) (fault LinkType 8) (λ e. cc))
    (λ ethernet. then_whole (refuse (nat_le (2 ^ 32 * 10 ^ interface.digits) (units_at head.order block)) (fault Time 12)) (λ early. fitted interface)
    (refused_whole (nat_le (2 ^ 32 * 10 ^ interface.digits) (units_at head.order block)) (fault Time 12) (λ e. cc))
    (λ early. then_whole (refuse (is_no_frame head.size 32 (word head.order block 20)) (fault Length 20)) (λ fits. made interface)
    (refused_whole (is_no_frame head.size 32 (word head.order block 20)) (fault Length 20) (λ e. cc)) (λ fits. tt)))))
  where
    numbered : Result Interface FormatFault
    numbered = interface_number interfaces (word head.order block 8) (fault NoInterface 8)

    made : Interface → Result BlockContent FormatFault
    made interface = Ok (Packet (record { moment = nanoseconds interface.digits (units_at head.order block); from = 28; bytes = word head.order block 20 }))

    fitted : Interface → Result BlockContent FormatFault
    fitted interface = refuse (is_no_frame head.size 32 (word head.order block 20)) (fault Length 20) >>= (λ fits. made interface)

    timed : Interface → Result BlockContent FormatFault
    timed interface = refuse (nat_le (2 ^ 32 * 10 ^ interface.digits) (units_at head.order block)) (fault Time 12) >>= (λ early. fitted interface)

    linked : Interface → Result BlockContent FormatFault
    linked interface = refuse (not (interface.link == 1)) (fault LinkType 8) >>= (λ ethernet. timed interface)

simple_whole : (head : BlockHeader) (interfaces : List Interface) (last : ℕ) (block : List ℕ) → IsWhole (simple_at head interfaces last block)
simple_whole head interfaces last block =
    then_whole (refuse (nat_lt head.size 16) (fault Length 4)) (λ long. numbered >>= linked) (refused_whole (nat_lt head.size 16) (fault Length 4) (λ e. cc))
    (λ long. then_whole numbered linked (number_whole interfaces 0 (fault NoInterface 0) (λ e. cc))
    (λ interface. then_whole (refuse (not (interface.link == 1)) (fault LinkType 0)) (λ ethernet. fitted interface) (refused_whole (not (interface.link == 1)) (fault LinkType 0) (λ e. cc))
    (λ ethernet. then_whole (refuse (is_no_frame head.size 16 (snapped interface.snap (word head.order block 8))) (fault Length 8)) (λ fits. made interface)
    (refused_whole (is_no_frame head.size 16 (snapped interface.snap (word head.order block 8))) (fault Length 8) (λ e. cc)) (λ fits. tt))))
  where
    numbered : Result Interface FormatFault
    numbered = interface_number interfaces 0 (fault NoInterface 0)

    made : Interface → Result BlockContent FormatFault
    made interface = Ok (Packet (record { moment = last; from = 12; bytes = snapped interface.snap (word head.order block 8) }))

    fitted : Interface → Result BlockContent FormatFault
    fitted interface = refuse (is_no_frame head.size 16 (snapped interface.snap (word head.order block 8))) (fault Length 8) >>= (λ fits. made interface)

    linked : Interface → Result BlockContent FormatFault
    linked interface = refuse (not (interface.link == 1)) (fault LinkType 0) >>= (λ ethernet. fitted interface)

content_whole : (kind : Kind) (head : BlockHeader) (interfaces : List Interface) (last : ℕ) (block : List ℕ) → IsWhole (content_at kind head interfaces last block)
content_whole SectionHeader head interfaces last block = section_whole head block
content_whole InterfaceBlock head interfaces last block = interface_whole head interfaces block
content_whole EnhancedPacket head interfaces last block = enhanced_whole head interfaces block
content_whole SimplePacket head interfaces last block = simple_whole head interfaces last block
content_whole Other head interfaces last block = tt

block_whole : (head : BlockHeader) (interfaces : List Interface) (last : ℕ) (block : List ℕ) → IsWhole (block_at head interfaces last block)
unfolding block_at
block_whole head interfaces last block =
    then_whole (refuse (not (word head.order block (head.size - 4) == head.size)) (fault Length (head.size - 4))) (λ closed. content_at (kind_of head.kind) head interfaces last block)
    (refused_whole (not (word head.order block (head.size - 4) == head.size)) (fault Length (head.size - 4)) (λ e. cc)) (λ closed. content_whole (kind_of head.kind) head interfaces last block)

-- ---- what stands at the front of bytes of a head
front_of_head : (s : Sections) (b : List ℕ) (x : Result BlockHeader FormatFault) → 12 ≤ length b → head_at (order_of s.section) (take 12 b) ≡ x → block_front s b ≡ headed_front s x b
unfolding block_front
front_of_head s b x long e =
    ap (λ t. cond t Nothing (cond (nat_lt (length b) 12) (Short (fault Cut 0)) (headed_front s (head_at (order_of s.section) (take 12 b)) b))) (ne_eqb (length b) 0 (λ none. omega (arith, none, long)))
    ∙ ap (λ t. cond t (Short (fault Cut 0)) (headed_front s (head_at (order_of s.section) (take 12 b)) b)) (le-ltb (length b) 12 long)
    ∙ ap (λ y. headed_front s y b) e

shown_other : (s : Sections) (head : BlockHeader) (b : List ℕ) (x : Result BlockContent FormatFault) (n : ℕ) → IsWhole x → head.size ≡ n → IsOther Cut n (shown s head b x)
shown_other s head b (Ok Skipped) n h e = (e, refl)
shown_other s head b (Ok NewSection) n h e = (e, refl)
shown_other s head b (Ok (NewInterface i)) n h e = (e, refl)
shown_other s head b (Ok (Packet x)) n h e = (e, refl)
shown_other s head b (Err f) n h e = h

-- a block of which all bytes are there, and no more
full_other : (s : Sections) (b : List ℕ) (head : BlockHeader) → length b ≡ head.size → 12 ≤ head.size → head_at (order_of s.section) (take 12 b) ≡ Ok head → IsOther Cut (length b) (block_front s b)
full_other s b head size some e = subst (IsOther Cut (length b)) (sym (front_of_head s b (Ok head) (omega (arith, size, some)) e)) (by_kind (is_read (kind_of head.kind)))
  where
    whole : Front Sections
    whole = shown s head (take head.size b) (block_at head (interfaces_of s.section) s.last (take head.size b))

    by_size : (t : Bool) → t ≡ false → IsOther Cut (length b) (cond t (Short (fault Cut 0)) whole)
    by_size true t = absurd (cc)
    by_size false t = shown_other s head (take head.size b) (block_at head (interfaces_of s.section) s.last (take head.size b)) (length b) (block_whole head (interfaces_of s.section) s.last (take head.size b)) (sym size)

    by_kind : (t : Bool) → IsOther Cut (length b) (cond t (whole_front s head b) (Over head.size s))
    by_kind true = by_size (nat_lt (length b) head.size) (le-ltb (length b) head.size (omega (arith, size)))
    by_kind false = (sym size, refl)

-- ---- a block that isn't all there
few_undecided : (s : Sections) (h : List ℕ) (x : Result BlockHeader FormatFault) → length h < 12 → head_at (order_of s.section) (take 12 (h ++ replicate (12 - length h) 0)) ≡ x → IsUndecided block_front s h Cut
few_undecided s h (Err f) few e =
    let more : List ℕ = replicate (12 - length h) 0 in
    let size = filled_long h 12 (omega (arith, few)) in
    let flaw : IsWhole {X = BlockHeader} (Err f) = subst IsWhole e (head_whole (order_of s.section) (take 12 (h ++ more))) in
    record {
      more = more;
      bytes = zeros_are_bytes (12 - length h);
      other = subst (IsOther Cut (length (h ++ more))) (sym (front_of_head s (h ++ more) (Err f) (omega (arith, size)) e)) flaw;
    }
few_undecided s h (Ok head) few e =
    let first : List ℕ = replicate (12 - length h) 0 in
    let more : List ℕ = replicate (head.size - 12) 0 in
    let twelve = filled_long h 12 (omega (arith, few)) in
    let some = (head_sized (order_of s.section) (take 12 (h ++ first)) head e).some in
    let whole : (h ++ first) ++ more ≡ h ++ (first ++ more) = append_assoc h first more in
    let size : length ((h ++ first) ++ more) ≡ head.size = omega (arith, twelve, some, length-append (h ++ first) more, length-replicate {A = ℕ} (head.size - 12) 0) in
    let same : head_at (order_of s.section) (take 12 ((h ++ first) ++ more)) ≡ Ok head = ap (head_at (order_of s.section)) (take-append-le 12 (h ++ first) more (omega (arith, twelve))) ∙ e in
    record {
      more = first ++ more;
      bytes = append_bytes first more (zeros_are_bytes (12 - length h)) (zeros_are_bytes (head.size - 12));
      other = subst (λ b. IsOther Cut (length b) (block_front s b)) whole (full_other s ((h ++ first) ++ more) head size some same);
    }

long_undecided : (s : Sections) (h : List ℕ) (head : BlockHeader) → 12 ≤ length h → length h < head.size → head_at (order_of s.section) (take 12 h) ≡ Ok head → IsUndecided block_front s h Cut
long_undecided s h head long short e =
    let more : List ℕ = replicate (head.size - length h) 0 in
    record {
      more = more;
      bytes = zeros_are_bytes (head.size - length h);
      other =
          full_other s (h ++ more) head (filled_long h head.size (omega (arith, short))) (omega (arith, long, short))
          (ap (head_at (order_of s.section)) (take-append-le 12 h more long) ∙ e);
    }

headed_undecided : (s : Sections) (h : List ℕ) (x : Result BlockHeader FormatFault) (f : FormatFault) → 12 ≤ length h → head_at (order_of s.section) (take 12 h) ≡ x → headed_front s x h ≡ Short f → IsUndecided block_front s h f.flaw
headed_undecided s h (Err g) f long e = λ is. absurd (cc)
headed_undecided s h (Ok head) f long e = by_kind (is_read (kind_of head.kind))
  where
    whole : Front Sections
    whole = shown s head (take head.size h) (block_at head (interfaces_of s.section) s.last (take head.size h))

    no_short : (x : Result BlockContent FormatFault) → shown s head (take head.size h) x ≡ Short f → ⊥
    no_short (Ok Skipped) is = cc
    no_short (Ok NewSection) is = cc
    no_short (Ok (NewInterface i)) is = cc
    no_short (Ok (Packet x)) is = cc
    no_short (Err g) is = cc

    by_size : (t : Bool) → nat_lt (length h) head.size ≡ t → cond t (Short (fault Cut 0)) whole ≡ Short f → IsUndecided block_front s h f.flaw
    by_size true t is =
        let same : fault Cut 0 ≡ f = cc in
        subst (λ (g : FormatFault). IsUndecided block_front s h g.flaw) same (long_undecided s h head long (ltb-true (length h) head.size t) e)
    by_size false t is = absurd (no_short (block_at head (interfaces_of s.section) s.last (take head.size h)) is)

    by_kind : (t : Bool) → cond t (whole_front s head h) (Over head.size s) ≡ Short f → IsUndecided block_front s h f.flaw
    by_kind true is = by_size (nat_lt (length h) head.size) refl is
    by_kind false is = absurd (cc)

pub block_undecided : (s : Sections) (h : List ℕ) (f : FormatFault) → block_front s h ≡ Short f → IsUndecided block_front s h f.flaw
unfolding block_front
block_undecided s h f = by_none (nat_eq (length h) 0)
  where
    rest : Front Sections
    rest = headed_front s (head_at (order_of s.section) (take 12 h)) h

    by_head : (t : Bool) → nat_lt (length h) 12 ≡ t → cond t (Short (fault Cut 0)) rest ≡ Short f → IsUndecided block_front s h f.flaw
    by_head true t is =
        let same : fault Cut 0 ≡ f = cc in
        subst (λ (g : FormatFault). IsUndecided block_front s h g.flaw) same (few_undecided s h (head_at (order_of s.section) (take 12 (h ++ replicate (12 - length h) 0))) (ltb-true (length h) 12 t) refl)
    by_head false t is = headed_undecided s h (head_at (order_of s.section) (take 12 h)) f (ltb-false (length h) 12 t) refl is

    by_none : (t : Bool) → cond t Nothing (cond (nat_lt (length h) 12) (Short (fault Cut 0)) rest) ≡ Short f → IsUndecided block_front s h f.flaw
    by_none true is = absurd (cc)
    by_none false is = by_head (nat_lt (length h) 12) refl is

pub block_blank : (s : Sections) → IsNotCut (block_front s [])
unfolding block_front
block_blank s = tt

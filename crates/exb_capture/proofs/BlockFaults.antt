-- A fault of a block lies within it.
use Rattle.std.proofs.Common.{◌≡◌, ◌≤◌, ◌+◌, ◌-◌, ℕ, zero, suc, Bool, true, false, List, length, Option, Some, None, Result, Ok, Err, cond, refl, arith}
use Rattle.std.specs.Prelude.{nat_lt, nat_le, get_or, slice_index, ◌&&◌, not, ◌==◌, ◌^◌, ◌*◌}
use Rattle.std.proofs.lemmas.Bool.{leb-false}
use Rattle.exb_capture.specs.declared.fault.FormatFault.{FormatFault}
use Rattle.exb_capture.specs.declared.fault.Flaw.TheVariants.{Version, LinkType, Length, Time, Magic, TooMany, Resolution, Interface as NoInterface}
use Rattle.exb_capture.specs.declared.byte_order.ByteOrder.{ByteOrder}
use Rattle.exb_capture.specs.declared.byte_order.ByteOrder.TheVariants.{Big, Little}
use Rattle.exb_capture.specs.declared.block.Interface.{Interface}
use Rattle.exb_capture.specs.declared.block.BlockHeader.{BlockHeader}
use Rattle.exb_capture.specs.declared.block.BlockContent.{BlockContent}
use Rattle.exb_capture.specs.declared.block.BlockContent.TheVariants.{NewSection, NewInterface, Packet}
use Rattle.exb_capture.specs.Formats.{fault}
use Rattle.exb_capture.specs.Fields.{◌>>=◌, refuse, word, half_word, nanoseconds}
use Rattle.exb_capture.specs.Blocks.{is_header, new_order, old_order, order_at, kind_of, is_no_size, head_at, digits_at, or_option, or_six, padded, resolution_within, resolution_from, section_at, interface_at, interface_number, no_interface, units_at, is_no_frame, enhanced_at, snapped, simple_at, content_at, block_at, Kind, SectionHeader, InterfaceBlock, EnhancedPacket, SimplePacket, Other}
use Rattle.exb_capture.proofs.FormatLemmas.{LiesWithin, then_within, sized_within, refused_within, chosen_within, further_within}

-- ---- the head
order_within : (old : Option ByteOrder) (twelve : List ℕ) → LiesWithin 12 (order_at old twelve)
order_within old twelve =
    chosen_within 12 (is_header twelve) (new_order twelve) (old_order old)
    (chosen_within 12 (word Big twelve 8 == 0x1A2B3C4D) (Ok Big) (cond (word Little twelve 8 == 0x1A2B3C4D) (Ok Little) (Err (fault Magic 8))) tt
    (chosen_within 12 (word Little twelve 8 == 0x1A2B3C4D) (Ok Little) (Err (fault Magic 8)) tt (omega arith)))
    (by_old old)
  where
    by_old : (o : Option ByteOrder) → LiesWithin 12 (old_order o)
    by_old None = omega arith
    by_old (Some order) = tt

pub head_within : (old : Option ByteOrder) (twelve : List ℕ) → LiesWithin 12 (head_at old twelve)
head_within old twelve =
    then_within 12 (order_at old twelve)
    (λ order. refuse (is_no_size (kind_of (word order twelve 0)) (word order twelve 4)) (fault Length 4) >>= (λ sized. Ok (record { order = order; kind = word order twelve 0; size = word order twelve 4 })))
    (order_within old twelve)
    (λ order. then_within 12 (refuse (is_no_size (kind_of (word order twelve 0)) (word order twelve 4)) (fault Length 4))
    (λ sized. Ok (record { order = order; kind = word order twelve 0; size = word order twelve 4 }))
    (refused_within 12 (is_no_size (kind_of (word order twelve 0)) (word order twelve 4)) (fault Length 4) (omega arith)) (λ u. tt))

-- ---- options
-- what an option 9 says
abbrev IsFirstWithin : ℕ → Option (Result ℕ FormatFault) → Type 0
IsFirstWithin n None = Unit {0}
IsFirstWithin n (Some first) = LiesWithin n first

six_within : (n : ℕ) (first : Option (Result ℕ FormatFault)) → IsFirstWithin n first → LiesWithin n (or_six first)
six_within n None h = tt
six_within n (Some first) h = h

option_within : (n : ℕ) (first : Option (Result ℕ FormatFault)) (order : ByteOrder) (at : ℕ) (block : List ℕ) → at ≤ n → IsFirstWithin n first → IsFirstWithin n (or_option first order at block)
option_within n (Some first) order at block there h = h
option_within n None order at block there h = by_nine (half_word order block at == 9)
  where
    by_nine : (b : Bool) → IsFirstWithin n (cond b (Some (digits_at order at block)) None)
    by_nine true =
        chosen_within n (half_word order block (at + 2) == 1 && nat_le (slice_index block (at + 4)) 9) (Ok (slice_index block (at + 4))) (Err (fault Resolution at)) tt there
    by_nine false = tt

options_within : (n : ℕ) (order : ByteOrder) (first : Option (Result ℕ FormatFault)) (at to : ℕ) (block : List ℕ) → IsFirstWithin to first → LiesWithin to (resolution_within n order first at to block)
unfolding resolution_within
options_within zero order first at to block h = six_within to first h
options_within (suc n) order first at to block h =
    by_end (nat_le to at) refl
    (λ there. options_within n order (or_option first order at block) (at + 4 + padded (half_word order block (at + 2))) to block (option_within to first order at block there h))
  where
    rest : Result ℕ FormatFault
    rest = resolution_within n order (or_option first order at block) (at + 4 + padded (half_word order block (at + 2))) to block

    past : Result ℕ FormatFault
    past = cond (nat_lt to (at + 4 + half_word order block (at + 2))) (Err (fault Length at)) rest

    by_end : (b : Bool) → nat_le to at ≡ b → (at ≤ to → LiesWithin to rest) → LiesWithin to (cond b (or_six first) (cond (half_word order block at == 0) (or_six first) past))
    by_end true e later = six_within to first h
    by_end false e later =
        let before = leb-false to at e in
        let there : at ≤ to = omega (arith, before) in
        chosen_within to (half_word order block at == 0) (or_six first) past (six_within to first h)
        (chosen_within to (nat_lt to (at + 4 + half_word order block (at + 2))) (Err (fault Length at)) rest there (later there))

resolution_lies : (order : ByteOrder) (to : ℕ) (block : List ℕ) → LiesWithin to (resolution_from order None 16 to block)
unfolding resolution_from
resolution_lies order to block = options_within (to - 16) order None 16 to block tt

-- ---- the blocks
section_within : (head : BlockHeader) (block : List ℕ) → 12 ≤ head.size → LiesWithin head.size (section_at head block)
section_within head block some =
    sized_within head.size 28 (nat_lt head.size 28) (fault Length 4) (λ long. refuse (not (half_word head.order block 12 == 1)) (fault Version 12) >>= (λ known. Ok NewSection)) refl (omega (arith, some))
    (λ long. then_within head.size (refuse (not (half_word head.order block 12 == 1)) (fault Version 12)) (λ known. Ok NewSection)
    (refused_within head.size (not (half_word head.order block 12 == 1)) (fault Version 12) some) (λ known. tt))

interface_within : (head : BlockHeader) (interfaces : List Interface) (block : List ℕ) → 12 ≤ head.size → LiesWithin head.size (interface_at head interfaces block)
interface_within head interfaces block some =
    then_within head.size (refuse (nat_lt head.size 20) (fault Length 4)) few_on (refused_within head.size (nat_lt head.size 20) (fault Length 4) (omega (arith, some)))
    (λ long. then_within head.size (refuse (nat_le 256 (length interfaces)) (fault TooMany 0)) digits_on (refused_within head.size (nat_le 256 (length interfaces)) (fault TooMany 0) (omega arith))
    (λ few. then_within head.size (resolution_from head.order None 16 (head.size - 4) block) made
    (further_within (head.size - 4) head.size (resolution_from head.order None 16 (head.size - 4) block) (omega arith) (resolution_lies head.order (head.size - 4) block)) (λ digits. tt)))
  where
    made : ℕ → Result BlockContent FormatFault
    made digits = Ok (NewInterface (record { link = half_word head.order block 8; snap = word head.order block 12; digits = digits }))

    digits_on : Unit {0} → Result BlockContent FormatFault
    digits_on few = resolution_from head.order None 16 (head.size - 4) block >>= made

    few_on : Unit {0} → Result BlockContent FormatFault
    few_on long = refuse (nat_le 256 (length interfaces)) (fault TooMany 0) >>= digits_on

number_within : (size : ℕ) (interfaces : List Interface) (i : ℕ) (none : FormatFault) → none.at ≤ size → LiesWithin size (interface_number interfaces i none)
number_within size interfaces i none h = chosen_within size (nat_lt i (length interfaces)) (Ok (get_or interfaces i no_interface)) (Err none) tt h

enhanced_within : (head : BlockHeader) (interfaces : List Interface) (block : List ℕ) → 12 ≤ head.size → LiesWithin head.size (enhanced_at head interfaces block)
enhanced_within head interfaces block some =
    sized_within head.size 32 (nat_lt head.size 32) (fault Length 4) (λ long. numbered >>= linked) refl (omega (arith, some))
    (λ long. then_within head.size numbered linked (number_within head.size interfaces (word head.order block 8) (fault NoInterface 8) (omega (arith, some)))
    (λ interface. then_within head.size (refuse (not (interface.link == 1)) (fault LinkType 8)) (λ ethernet. timed interface) (refused_within head.size (not (interface.link == 1)) (fault LinkType 8) (omega (arith, some)))
    (λ ethernet. then_within head.size (refuse (nat_le (2 ^ 32 * 10 ^ interface.digits) (units_at head.order block)) (fault Time 12)) (λ early. fitted interface)
    (refused_within head.size (nat_le (2 ^ 32 * 10 ^ interface.digits) (units_at head.order block)) (fault Time 12) some)
    (λ early. then_within head.size (refuse (is_no_frame head.size 32 (word head.order block 20)) (fault Length 20)) (λ fits. made interface)
    (refused_within head.size (is_no_frame head.size 32 (word head.order block 20)) (fault Length 20) (omega (arith, long))) (λ fits. tt)))))
  where
    numbered : Result Interface FormatFault
    numbered = interface_number interfaces (word head.order block 8) (fault NoInterface 8)

    made : Interface → Result BlockContent FormatFault
    made interface = Ok (Packet (record { moment = nanoseconds interface.digits (units_at head.order block); from = 28; bytes = word head.order block 20 }))

    fitted : Interface → Result BlockContent FormatFault
    fitted interface = refuse (is_no_frame head.size 32 (word head.order block 20)) (fault Length 20) >>= (λ fits. made interface)

    timed : Interface → Result BlockContent FormatFault
    timed interface = refuse (nat_le (2 ^ 32 * 10 ^ interface.digits) (units_at head.order block)) (fault Time 12) >>= (λ early. fitted interface)

    linked : Interface → Result BlockContent FormatFault
    linked interface = refuse (not (interface.link == 1)) (fault LinkType 8) >>= (λ ethernet. timed interface)

simple_within : (head : BlockHeader) (interfaces : List Interface) (last : ℕ) (block : List ℕ) → 12 ≤ head.size → LiesWithin head.size (simple_at head interfaces last block)
simple_within head interfaces last block some =
    then_within head.size (refuse (nat_lt head.size 16) (fault Length 4)) (λ long. numbered >>= linked) (refused_within head.size (nat_lt head.size 16) (fault Length 4) (omega (arith, some)))
    (λ long. then_within head.size numbered linked (number_within head.size interfaces 0 (fault NoInterface 0) (omega arith))
    (λ interface. then_within head.size (refuse (not (interface.link == 1)) (fault LinkType 0)) (λ ethernet. fitted interface) (refused_within head.size (not (interface.link == 1)) (fault LinkType 0) (omega arith))
    (λ ethernet. then_within head.size (refuse (is_no_frame head.size 16 (snapped interface.snap (word head.order block 8))) (fault Length 8)) (λ fits. made interface)
    (refused_within head.size (is_no_frame head.size 16 (snapped interface.snap (word head.order block 8))) (fault Length 8) (omega (arith, some))) (λ fits. tt))))
  where
    numbered : Result Interface FormatFault
    numbered = interface_number interfaces 0 (fault NoInterface 0)

    made : Interface → Result BlockContent FormatFault
    made interface = Ok (Packet (record { moment = last; from = 12; bytes = snapped interface.snap (word head.order block 8) }))

    fitted : Interface → Result BlockContent FormatFault
    fitted interface = refuse (is_no_frame head.size 16 (snapped interface.snap (word head.order block 8))) (fault Length 8) >>= (λ fits. made interface)

    linked : Interface → Result BlockContent FormatFault
    linked interface = refuse (not (interface.link == 1)) (fault LinkType 0) >>= (λ ethernet. fitted interface)

content_within : (kind : Kind) (head : BlockHeader) (interfaces : List Interface) (last : ℕ) (block : List ℕ) → 12 ≤ head.size → LiesWithin head.size (content_at kind head interfaces last block)
content_within SectionHeader head interfaces last block some = section_within head block some
content_within InterfaceBlock head interfaces last block some = interface_within head interfaces block some
content_within EnhancedPacket head interfaces last block some = enhanced_within head interfaces block some
content_within SimplePacket head interfaces last block some = simple_within head interfaces last block some
content_within Other head interfaces last block some = tt

pub block_within : (head : BlockHeader) (interfaces : List Interface) (last : ℕ) (block : List ℕ) → 12 ≤ head.size → LiesWithin head.size (block_at head interfaces last block)
unfolding block_at
block_within head interfaces last block some =
    then_within head.size (refuse (not (word head.order block (head.size - 4) == head.size)) (fault Length (head.size - 4))) (λ closed. content_at (kind_of head.kind) head interfaces last block)
    (refused_within head.size (not (word head.order block (head.size - 4) == head.size)) (fault Length (head.size - 4)) (omega arith)) (λ closed. content_within (kind_of head.kind) head interfaces last block some)

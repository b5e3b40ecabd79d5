-- What the head of a block tells of its size.
use Rattle.std.proofs.Common.{◌≡◌, ◌≤◌, ◌-◌, ℕ, Bool, true, false, List, Option, Result, Ok, Err, refl, subst, arith}
use Rattle.std.specs.Prelude.{nat_lt, ◌||◌, ◌&&◌, not, ◌==◌, ◌%◌}
use Rattle.std.proofs.lemmas.Bool.{ltb-false}
use Rattle.exb_capture.specs.declared.fault.FormatFault.{FormatFault}
use Rattle.exb_capture.specs.declared.fault.Flaw.TheVariants.{Length}
use Rattle.exb_capture.specs.declared.byte_order.ByteOrder.{ByteOrder}
use Rattle.exb_capture.specs.declared.block.BlockHeader.{BlockHeader}
use Rattle.exb_capture.specs.Formats.{fault}
use Rattle.exb_capture.specs.Fields.{◌>>=◌, refuse, word}
use Rattle.exb_capture.specs.declared.block.Interface.{Interface}
use Rattle.exb_capture.specs.declared.block.BlockContent.{BlockContent}
use Rattle.exb_capture.specs.declared.block.BlockContent.TheVariants.{Skipped, NewSection, NewInterface, Packet}
use Rattle.exb_capture.specs.Blocks.{kind_of, is_read, is_no_size, order_at, head_at, content_at, block_at, Kind, SectionHeader, InterfaceBlock, EnhancedPacket, SimplePacket, Other}

-- what a head that is read tells of the size
pub record IsSized (head : BlockHeader) : Type 0 where
  pub some : 12 ≤ head.size
  pub most : is_read (kind_of head.kind) ≡ true → head.size ≤ 327_680

no_or : (a b : Bool) → (a || b) ≡ false → (a ≡ false) × (b ≡ false)
no_or true b e = absurd (cc)
no_or false b e = (refl, e)

no_and : (a b : Bool) → (a && b) ≡ false → a ≡ true → b ≡ false
no_and true b e h = e
no_and false b e h = absurd (cc)

sized_by : (kind : Kind) (size : ℕ) → is_no_size kind size ≡ false → (12 ≤ size) × (is_read kind ≡ true → size ≤ 327_680)
sized_by kind size e =
    let parts = no_or (nat_lt size 12 || not (size % 4 == 0)) (is_read kind && nat_lt 327_680 size) e in (
      ltb-false size 12 (no_or (nat_lt size 12) (not (size % 4 == 0)) parts.0).0,
      λ read. ltb-false 327_680 size (no_and (is_read kind) (nat_lt 327_680 size) parts.1 read),
    )

pub head_sized : (old : Option ByteOrder) (twelve : List ℕ) (head : BlockHeader) → head_at old twelve ≡ Ok head → IsSized head
head_sized old twelve head = by_order (order_at old twelve)
  where
    by_test : (order : ByteOrder) (b : Bool) → is_no_size (kind_of (word order twelve 0)) (word order twelve 4) ≡ b
        → (refuse b (fault Length 4) >>= (λ sized. Ok (record { order = order; kind = word order twelve 0; size = word order twelve 4 }))) ≡ Ok head → IsSized head
    by_test order true t e = absurd (cc)
    by_test order false t e =
        let same : record { order = order; kind = word order twelve 0; size = word order twelve 4 } ≡ head = cc in
        let sized = sized_by (kind_of (word order twelve 0)) (word order twelve 4) t in
        subst IsSized same (record { some = sized.0; most = sized.1 })

    by_order : (x : Result ByteOrder FormatFault)
        → (x >>= (λ order. refuse (is_no_size (kind_of (word order twelve 0)) (word order twelve 4)) (fault Length 4) >>= (λ sized. Ok (record { order = order; kind = word order twelve 0; size = word order twelve 4 }))))
        ≡ Ok head → IsSized head
    by_order (Ok order) e = by_test order (is_no_size (kind_of (word order twelve 0)) (word order twelve 4)) refl e
    by_order (Err f) e = absurd (cc)

-- ---- packets
-- where it is a packet, it takes at least 16 bytes
abbrev pub IsLong : ℕ → Result BlockContent FormatFault → Type 0
IsLong size (Ok Skipped) = Unit {0}
IsLong size (Ok NewSection) = Unit {0}
IsLong size (Ok (NewInterface i)) = Unit {0}
IsLong size (Ok (Packet x)) = 16 ≤ size
IsLong size (Err f) = Unit {0}

long_enough : (size : ℕ) (x : Result BlockContent FormatFault) → 16 ≤ size → IsLong size x
long_enough size (Ok Skipped) h = tt
long_enough size (Ok NewSection) h = tt
long_enough size (Ok (NewInterface i)) h = tt
long_enough size (Ok (Packet x)) h = h
long_enough size (Err f) h = tt

-- what is refused below a size of at least 16
refused_long : (size least : ℕ) (b : Bool) (f : FormatFault) (k : Unit {0} → Result BlockContent FormatFault) → nat_lt size least ≡ b → 16 ≤ least → IsLong size (refuse b f >>= k)
refused_long size least true f k t h = tt
refused_long size least false f k t h = let long = ltb-false size least t in long_enough size (k tt) (omega (arith, long, h))

-- what isn't refused
passed_long : (size : ℕ) (b : Bool) (f : FormatFault) (k : Unit {0} → Result BlockContent FormatFault) → IsLong size (k tt) → IsLong size (refuse b f >>= k)
passed_long size true f k h = tt
passed_long size false f k h = h

content_long : (kind : Kind) (head : BlockHeader) (interfaces : List Interface) (last : ℕ) (block : List ℕ) → IsLong head.size (content_at kind head interfaces last block)
content_long SectionHeader head interfaces last block = refused_long head.size 28 (nat_lt head.size 28) (fault Length 4) _ refl (omega arith)
content_long InterfaceBlock head interfaces last block = refused_long head.size 20 (nat_lt head.size 20) (fault Length 4) _ refl (omega arith)
content_long EnhancedPacket head interfaces last block = refused_long head.size 32 (nat_lt head.size 32) (fault Length 4) _ refl (omega arith)
content_long SimplePacket head interfaces last block = refused_long head.size 16 (nat_lt head.size 16) (fault Length 4) _ refl (omega arith)
content_long Other head interfaces last block = tt

pub block_long : (head : BlockHeader) (interfaces : List Interface) (last : ℕ) (block : List ℕ) → IsLong head.size (block_at head interfaces last block)
unfolding block_at
block_long head interfaces last block =
    passed_long head.size (not (word head.order block (head.size - 4) == head.size)) (fault Length (head.size - 4)) (λ closed. content_at (kind_of head.kind) head interfaces last block)
    (content_long (kind_of head.kind) head interfaces last block)

-- The fields of a capture, and a table of faults in its order.
use Rattle.std.specs.Prelude.{ℕ, ◌-◌, ◌*◌, ◌^◌, ◌==◌, ◌&&◌, ◌||◌, nat_le, length, slice_index, Bool, true, false, List, [], ◌∷◌, drop, Result, Ok, Err}
use Rattle.std.specs.Int.{w16, w32, from_be_bytes, from_le_bytes}
use Rattle.exb_capture.specs.declared.fault.FormatFault.{FormatFault}
use Rattle.exb_capture.specs.declared.byte_order.ByteOrder.{ByteOrder}
use Rattle.exb_capture.specs.declared.byte_order.ByteOrder.TheVariants.{Big, Little}

infixl 10 ◌>>=◌
abbrev pub ◌>>=◌ : {A B : Type 0} → Result A FormatFault → (A → Result B FormatFault) → Result B FormatFault
(Ok x) >>= f = f x
(Err fault) >>= f = Err fault

-- the fault, where the test holds
abbrev pub refuse : Bool → FormatFault → Result (Unit {0}) FormatFault
refuse true fault = Err fault
refuse false fault = Ok tt

-- the 32 bits so many bytes behind the front
abbrev pub word : ByteOrder → List ℕ → ℕ → ℕ
word Big bytes at = from_be_bytes w32 (drop at bytes)
word Little bytes at = from_le_bytes w32 (drop at bytes)

-- the 16 bits there
abbrev pub half_word : ByteOrder → List ℕ → ℕ → ℕ
half_word Big bytes at = from_be_bytes w16 (drop at bytes)
half_word Little bytes at = from_le_bytes w16 (drop at bytes)

-- units of 10 to the power of minus so many digits of a second, in nanoseconds
abbrev pub nanoseconds : ℕ → ℕ → ℕ
nanoseconds digits units = units * 10 ^ (9 - digits)

-- these bytes are those of a magic number, as far as both go
unfoldable pub agrees : List ℕ → List ℕ → Bool
agrees [] bytes = true
agrees (m ∷ ms) [] = true
agrees (m ∷ ms) (b ∷ bs) = (m == b) && agrees ms bs

-- the byte at this place is that one, where it is there
abbrev pub byte_agrees : ℕ → List ℕ → ℕ → Bool
byte_agrees m bytes at = nat_le (length bytes) at || (m == slice_index bytes at)

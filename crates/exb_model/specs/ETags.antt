-- The E-TAG that carries a frame between the bridge and its extenders (after IEEE 802.1BR-2012). The
-- layout is this project's own: eight bytes at offset 12, of which the type is 89 3F.
use Rattle.std.specs.Prelude.{ℕ, ◌+◌, ◌*◌, ◌/◌, ◌%◌, ◌<◌, ◌==◌, ◌&&◌, ◌++◌, Bool, List, [], ◌∷◌, Option, Some, None, length, nat_le, take, drop, if◌then◌else◌}
use Rattle.exb_model.specs.Frames.{number_at, two_bytes}

-- the fields of an E-TAG
pub record Tag : Type 0 where
  pub pcp : ℕ
  pub dei : Bool
  pub ingress : ℕ
  pub ecid : ℕ

-- what can be written: PCP in 3 bits, the ingress number in 12, the E-CID in 14
pub record TagFits (t : Tag) : Type 0 where
  pub pcp : t.pcp < 8
  pub ingress : t.ingress < 4096
  pub ecid : t.ecid < 16384

-- PCP (3 bits), DEI (1), ingress number (12)
abbrev pub tag_word : Tag → ℕ
tag_word t = t.pcp * 8192 + (if t.dei then 4096 else 0) + t.ingress

-- the eight bytes: the type, that word, the E-CID below two reserved bits, and two extension bytes of 0
abbrev pub etag_bytes : Tag → List ℕ
etag_bytes t = two_bytes 0x893F ++ two_bytes (tag_word t) ++ two_bytes t.ecid ++ (0 ∷ 0 ∷ [])

-- whether a frame has an E-TAG at byte 12, with extension bytes 0
abbrev pub has_etag : List ℕ → Bool
has_etag f = nat_le 20 (length f) && (number_at f 12 == 0x893F && number_at f 18 == 0)

-- the fields, whatever the reserved bits are
abbrev pub fields : List ℕ → Tag
fields f =
    record {
      pcp = number_at f 14 / 8192;
      dei = number_at f 14 / 4096 % 2 == 1;
      ingress = number_at f 14 % 4096;
      ecid = number_at f 16 % 16384;
    }

abbrev pub read_etag : List ℕ → Option Tag
read_etag f = if has_etag f then Some (fields f) else None

-- bytes 0 to 11, the E-TAG and the rest
abbrev pub tagged : List ℕ → Tag → List ℕ
tagged f t = take 12 f ++ etag_bytes t ++ drop 12 f

-- bytes 0 to 11 and the rest from byte 20
abbrev pub stripped : List ℕ → List ℕ
stripped f = take 12 f ++ drop 20 f

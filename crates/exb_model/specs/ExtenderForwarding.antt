-- What a port extender sends of a frame that comes to it from upstream (after IEEE 802.1BR-2012). The
-- exact rules are this project's own.
use Rattle.std.specs.Prelude.{ℕ, ◌==◌, ◌&&◌, ◌||◌, Bool, not, List, [], ◌∷◌, Option, Some, None, nat_lt, nat_le, if◌then◌else◌}
use Rattle.exb_model.specs.ETags.{Tag, read_etag, stripped}

-- The tables, by port: its own channel (0: none), whether it is a cascade port, and whether there is the
-- pair of an E-CID and this port. They may be those of one extender, or of all.
pub record Tables : Type 0 where
  pub own : ℕ → ℕ
  pub cascade : ℕ → Bool
  pub pair : ℕ → ℕ → Bool

-- the port has an own channel, and the pair of the tag's E-CID
abbrev pub takes : Tables → ℕ → Tag → Bool
takes t q tag = nat_lt 0 (t.own q) && t.pair tag.ecid q

-- the port is external, the E-CID is a group's, and the ingress number is not 0 and is the port's own channel
abbrev pub left_out : Tables → ℕ → Tag → Bool
left_out t q tag = not (t.cascade q) && (nat_le 4096 tag.ecid && (nat_lt 0 tag.ingress && t.own q == tag.ingress))

-- the port is external, or its own channel is the E-CID: the frame goes out without its E-TAG
abbrev pub bare : Tables → ℕ → Tag → Bool
bare t q tag = not (t.cascade q) || t.own q == tag.ecid

abbrev pub emits_tagged : Tables → ℕ → List ℕ → Option Tag → List (List ℕ)
emits_tagged t q f None = []
emits_tagged t q f (Some tag) =
    if takes t q tag
    then (if left_out t q tag then [] else (if bare t q tag then stripped f ∷ [] else f ∷ []))
    else []

-- what leaves at port q when f comes from upstream
unfoldable pub emits : Tables → ℕ → List ℕ → List (List ℕ)
emits t q f = emits_tagged t q f (read_etag f)

-- E-TAGs as values of the program.
use Rattle.std.specs.Prelude.{◌≡◌, ℕ, ◌≤◌, List, Some, length}
use Rattle.exb_model.specs.ETags.{Tag, TagFits, read_etag, tagged, stripped}
use Rattle.exb_frame.specs.declared.etag.ETag.{ETag}

-- the fields that an `ETag` has
abbrev pub tag_of : ETag → Tag
tag_of t = record { pcp = t.pcp; dei = t.dei; ingress = t.ingress; ecid = t.ecid }

-- what is put in is read again, and taken out it leaves the frame as it was
abbrev pub TagRoundTrip : Type 0
TagRoundTrip = (f : List ℕ) (t : Tag) → 12 ≤ length f → TagFits t → (read_etag (tagged f t) ≡ Some t)
    × (stripped (tagged f t) ≡ f)

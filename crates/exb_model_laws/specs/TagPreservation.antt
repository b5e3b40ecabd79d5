-- What a tag keeps.
use Rattle.std.specs.Prelude.{◌≡◌, ◌⊎◌, ◌<◌, ℕ, Bool, List}
use Rattle.exb_model.specs.declared.frame_kind.Seen.TheVariants as seen
use Rattle.exb_model.specs.declared.vlan.Kind.TheVariants as kind
use Rattle.exb_model.specs.Frames.{kind_of, egress, destination, source}

-- the frame that leaves tagged in VLAN v has that tag, with this priority (PCP) and drop eligibility (DEI), and
-- the same addresses
pub record KeepsTag (f : List ℕ) (v pcp : ℕ) (dei : Bool) : Type 0 where
  pub tag : kind_of (egress f kind.Tagged v) ≡ seen.Tagged pcp dei v
  pub destination : destination (egress f kind.Tagged v) ≡ destination f
  pub source : source (egress f kind.Tagged v) ≡ source f

-- so it is with each frame that has a VLAN tag, or a priority tag
abbrev pub TagKeepsPriority : Type 0
TagKeepsPriority =
    (f : List ℕ) (v w pcp : ℕ) (dei : Bool) → 0 < v → v < 4095 →
    (kind_of f ≡ seen.Tagged pcp dei w) ⊎ (kind_of f ≡ seen.Priority pcp dei) → KeepsTag f v pcp dei

use Rattle.std.proofs.Common.{◌≡◌, map, take}
use Rattle.exb_model.specs.Texts.{capture_text}
use Rattle.exb_make.specs.GeneratedParts.{frame_of, sent_at}
use Rattle.exb_make.proofs.captures.file_of.Given as goal

-- what arrives so far
abbrev pub invariant-loop-arriving : goal.invariant-loop-arriving
invariant-loop-arriving l = l.file.items ≡ capture_text (sent_at (map frame_of (take l.arriving-index l.arrived)) l.port)

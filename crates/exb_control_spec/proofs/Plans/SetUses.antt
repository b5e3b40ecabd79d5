-- How often sets are parts of a configuration.
use Rattle.std.proofs.Common.{◌&&◌, not, [], ◌∙◌, ap}
use Rattle.std.specs.List.{flat_map}
use Rattle.exb_model.specs.Refusals.{sources, is_empty_set}
use Rattle.exb_control_spec.specs.Plans.Sets.{is_same_set, parts_below, sets_of}
use Rattle.exb_control_spec.proofs.Plans.GroupClaims.{set_is, set_itself, is_none}
use Rattle.exb_control_spec.specs.Plans.TouchedParts.{parts_of_all}
use Rattle.exb_control_spec.specs.Plans.TouchedPartLaws.{UsesChange, SetsAreUsed}
use Rattle.exb_control_spec.proofs.Plans.ListTests.{any_counts}
use Rattle.exb_control_spec.proofs.Plans.DistinctInsertion.{fold_has}
use Rattle.exb_control_spec.proofs.Plans.ListDifferences.{counts_change}
use Rattle.exb_control_spec.proofs.Plans.Commands.{command_differs}

pub uses_change : UsesChange
uses_change t c b s = counts_change (is_same_set s) (command_differs t b c)

pub sets_are_used : SetsAreUsed
unfolding sets_of parts_of_all
sets_are_used t b s =
    fold_has is_none is_same_set set_is set_itself (flat_map (parts_below t b) (sources b)) [] s
    ∙ ap (λ p. not (is_empty_set s.ports) && p) (any_counts (is_same_set s) (flat_map (parts_below t b) (sources b)))

-- The sets that come with a command.
use Rattle.std.proofs.Common.{◌≡◌, ◌&&◌, Bool, not, [], filter, fold, sym, ◌∙◌, ap}
use Rattle.std.specs.List.{flat_map}
use Rattle.exb_model.specs.Tree.{Shape}
use Rattle.exb_model.specs.declared.command.Command.{Command}
use Rattle.exb_model.specs.Configuration.{Bridge, after}
use Rattle.exb_model.specs.Refusals.{sources}
use Rattle.exb_control_spec.specs.Plans.Sets.{PortsAt, is_same_set, parts_below, with_set_at, sets_of}
use Rattle.exb_control_spec.specs.Plans.Differences.{has_set, fresh_sets}
use Rattle.exb_control_spec.proofs.Plans.GroupClaims.{set_is, set_itself, is_none}
use Rattle.exb_control_spec.specs.Plans.TouchedParts.{parts_of_all, parts_after}
use Rattle.exb_control_spec.specs.Plans.TouchedPartLaws.{FreshAreTouched}
use Rattle.exb_control_spec.proofs.Plans.ListTests.{filter-both}
use Rattle.exb_control_spec.proofs.Plans.DistinctInsertion.{filter-fold, some-fold, all_had}
use Rattle.exb_control_spec.proofs.Plans.ListDifferences.{filters_come}
use Rattle.exb_control_spec.proofs.Plans.Commands.{command_differs}

module _ (t : Shape) (c : Command) (b : Bridge) where
  is_new : PortsAt → Bool
  is_new s = not (has_set (sets_of t b) s)

  -- beside empty ones, only parts of touched sources are new
  new_touched : filter (λ s. not (is_none s)) (filter is_new (flat_map (parts_below t (after c b)) (sources (after c b))))
      ≡ filter (λ s. not (is_none s)) (filter is_new (parts_after t c b))
  unfolding is_new sets_of parts_of_all
  new_touched =
      filter-both (λ s. not (is_none s)) is_new (parts_of_all t (after c b))
      ∙ (filters_come (λ s. is_new s && not (is_none s)) (command_differs t b c)
      (all_had is_none is_same_set set_is set_itself (parts_of_all t b) (parts_of_all t b) (λ s e. e))
      ∙ sym (filter-both (λ s. not (is_none s)) is_new (parts_after t c b)))

  fresh_come : fresh_sets t b (after c b) ≡ fold with_set_at [] (filter is_new (parts_after t c b))
  unfolding fresh_sets sets_of is_new
  fresh_come =
      filter-fold is_none is_same_set set_is set_itself is_new (flat_map (parts_below t (after c b)) (sources (after c b))) []
      ∙ (sym (some-fold is_none is_same_set set_is set_itself (filter is_new (flat_map (parts_below t (after c b)) (sources (after c b)))) [])
      ∙ (ap (fold with_set_at []) new_touched
      ∙ some-fold is_none is_same_set set_is set_itself (filter is_new (parts_after t c b)) []))

pub fresh_are_touched : FreshAreTouched
unfolding is_new
fresh_are_touched t c b = fresh_come t c b

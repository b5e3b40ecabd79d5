-- What holds of every active configuration, step by step.
use Rattle.std.proofs.Common.{◌≡◌, refl, sym, ◌∙◌, ap, subst}
use Rattle.exb_model.specs.Tree.{Shape, IsTree, is_extended}
use Rattle.exb_model.specs.declared.setup.Setup.{Setup}
use Rattle.exb_model.specs.Setup.{IsValid, shape_of, limits_of, start_of}
use Rattle.exb_model.specs.Configuration.{Bridge}
use Rattle.exb_config.specs.Tables.{Tables, bridge_of}
use Rattle.exb_numbers.specs.Spaces.{Spaces}
use Rattle.exb_config.specs.Pvids.{HasPvids}
use Rattle.exb_control_spec.specs.declared.plan.change.Decision.{Decision}
use Rattle.exb_control_spec.specs.Plans.HeldNumbers.{Held, HoldsNeeded, in_spaces}
use Rattle.exb_plan.specs.SpaceContents.{HasSpaces, held_by}
use Rattle.exb_control_spec.specs.Plans.Laws.{IsBeginning, HoldsFirst}
use Rattle.exb_control_spec.proofs.Plans.NoPortsPresent.{begins_held}
use Rattle.exb_control_spec.specs.declared.job.Job.{Job}
use Rattle.exb_control.specs.declared.stage.Stage.{Stage}
use Rattle.exb_control.specs.declared.stage.Stage.TheVariants.{AtRest, Prepared, InForce}
use Rattle.exb_control_spec.specs.Decisions.{decide}
use Rattle.exb_control.specs.ActiveConfigs.{ActiveConfig, IsActiveConfig, IsPrepared, IsInForce, HoldsIn, active_config_of, bridge_in, held_in, stage_of, cause_of, held_after, decision_of, in_force, bridge_at_end, held_at_end}
use Rattle.exb_control_spec.specs.JobsOfTree.{Fits, HasExternals}
use Rattle.exb_control_spec.proofs.CascadePlaces.{needed_placed, placed_needed}
use Rattle.exb_control_spec.proofs.Commands.{start_external, start_absent}
use Rattle.exb_control.proofs.Decisions.{said_cause, said_stage, cause_is, stage_is, cause_placed, stage_placed, held_placed, decided_holds, external_job}

-- ---- the beginning
pub new_active : (s : Setup) → IsValid s → (t : Shape) → t ≡ shape_of s → (config : Tables) (v : Spaces) → bridge_of config ≡ start_of s → HasPvids (bridge_of config) →
    HasSpaces t (limits_of s) v → HoldsFirst t (held_by v) → IsActiveConfig (active_config_of t s.channels s.groups config v AtRest)
new_active s valid t is config v start pvids has first = record {
  tree = subst IsTree (sym is) valid.tree;
  channels = valid.channels;
  groups = valid.groups;
  spaces = has;
  external = subst (λ (x : Shape). HasExternals x (bridge_of config)) (sym is) (subst (HasExternals (shape_of s)) (sym start) (start_external s valid));
  pvids = pvids;
  holds = needed_placed t (bridge_of config) (held_by v) (begins_held t (bridge_of config) (held_by v) beginning);
}
  where
    beginning : IsBeginning t (bridge_of config) (held_by v)
    beginning = record {
      absent = λ q e. ap (λ (b : Bridge). b.present q) start ∙ start_absent s valid q (ap (λ (x : Shape). is_extended x q) (sym is) ∙ e);
      held = first;
    }

-- ---- a job is decided
module _ (f : ActiveConfig) (is : IsActiveConfig f) (rest : f.stage ≡ AtRest) where
  pub rest_needed : HoldsNeeded f.shape (bridge_in f) (held_in f)
  rest_needed = subst (HoldsIn f.shape (bridge_in f) (held_in f)) rest is.holds

  -- just what the configuration needs is held
  pub start_needed : HoldsNeeded f.shape (bridge_in f) (held_by f.spaces)
  start_needed = placed_needed f.shape (bridge_in f) (held_by f.spaces) rest_needed

  module _ (j : Job) (fits : Fits f.shape j) (d : Decision) (w : Spaces) (said : d ≡ decision_of (decide f.shape f.limits (bridge_in f) (held_by f.spaces) j))
      (held : held_by w ≡ held_after (decide f.shape f.limits (bridge_in f) (held_by f.spaces) j) (held_by f.spaces)) where
    pub started_cause : said_cause d ≡ cause_of (decide f.shape f.limits (bridge_in f) (held_in f) j)
    started_cause =
        cause_is d (decide f.shape f.limits (bridge_in f) (held_by f.spaces) j) said ∙ sym (cause_placed f.shape is.tree f.limits (bridge_in f) (held_by f.spaces) j fits)

    pub started_stage : said_stage j d ≡ stage_of j (decide f.shape f.limits (bridge_in f) (held_in f) j)
    started_stage =
        stage_is j d (decide f.shape f.limits (bridge_in f) (held_by f.spaces) j) said ∙ sym (stage_placed f.shape is.tree f.limits (bridge_in f) (held_by f.spaces) j fits)

    pub started_held : in_spaces f.shape (held_by w) ≡ held_after (decide f.shape f.limits (bridge_in f) (held_in f) j) (held_in f)
    started_held = ap (in_spaces f.shape) held ∙ sym (held_placed f.shape is.tree f.limits (bridge_in f) (held_by f.spaces) j fits)

    pub started : HasSpaces f.shape f.limits w → IsActiveConfig (record f { spaces = w; stage = said_stage j d })
    started has = record {
      tree = is.tree;
      channels = is.channels;
      groups = is.groups;
      spaces = has;
      external = is.external;
      pvids = is.pvids;
      holds =
          subst (λ (h : Held). HoldsIn f.shape (bridge_in f) h (said_stage j d)) (sym started_held)
          (subst (HoldsIn f.shape (bridge_in f) (held_after (decide f.shape f.limits (bridge_in f) (held_in f) j) (held_in f))) (sym started_stage)
          (decided_holds f.shape is.tree f.limits is.channels is.groups (bridge_in f) is.external (held_in f) rest_needed j fits));
    }

-- ---- a change takes effect
module _ (t : Shape) (b : Bridge) (h : Held) (external : HasExternals t b) where
  pub external_end : (s : Stage) → HoldsIn t b h s → HasExternals t (bridge_at_end s b)
  external_end AtRest holds = external
  external_end (Prepared j x) holds = external_job t b j holds.1 external
  external_end (InForce j x) holds = external

  force_holds : (s : Stage) → IsPrepared s → HoldsIn t b h s → HoldsIn t (bridge_at_end s b) h (in_force s)
  force_holds AtRest p holds = absurd p
  force_holds (Prepared j x) p holds = (holds.0, holds.2)
  force_holds (InForce j x) p holds = absurd p

  end_holds : (s : Stage) → HoldsIn t b h s → HoldsNeeded t (bridge_at_end s b) (held_at_end s h)
  end_holds AtRest holds = holds
  end_holds (Prepared j x) holds = holds.2
  end_holds (InForce j x) holds = holds.1

module _ (f : ActiveConfig) (is : IsActiveConfig f) (config : Tables) (pvids : HasPvids (bridge_of config)) (effect : bridge_of config ≡ bridge_at_end f.stage (bridge_in f)) where
  pub committed : IsPrepared f.stage → (s : Stage) → s ≡ in_force f.stage → IsActiveConfig (record f { config = config; stage = s })
  committed p s now = record {
    tree = is.tree;
    channels = is.channels;
    groups = is.groups;
    spaces = is.spaces;
    external = subst (HasExternals f.shape) (sym effect) (external_end f.shape (bridge_in f) (held_in f) is.external f.stage is.holds);
    pvids = pvids;
    holds =
        subst (λ (x : Bridge). HoldsIn f.shape x (held_in f) s) (sym effect) (subst (HoldsIn f.shape (bridge_at_end f.stage (bridge_in f)) (held_in f)) (sym now)
        (force_holds f.shape (bridge_in f) (held_in f) is.external f.stage p is.holds));
  }

  -- a change ends, and no change is at work
  pub ended : (w : Spaces) → HasSpaces f.shape f.limits w → in_spaces f.shape (held_by w) ≡ held_at_end f.stage (held_in f) → IsActiveConfig (record f { config = config; spaces = w; stage = AtRest })
  ended w has held = record {
    tree = is.tree;
    channels = is.channels;
    groups = is.groups;
    spaces = has;
    external = subst (HasExternals f.shape) (sym effect) (external_end f.shape (bridge_in f) (held_in f) is.external f.stage is.holds);
    pvids = pvids;
    holds =
        subst (λ (x : Bridge). HoldsNeeded f.shape x (in_spaces f.shape (held_by w))) (sym effect)
        (subst (HoldsNeeded f.shape (bridge_at_end f.stage (bridge_in f))) (sym held) (end_holds f.shape (bridge_in f) (held_in f) is.external f.stage is.holds));
  }

-- what is in force stays so to the end
pub end_is : (s : Stage) → IsInForce s → (b : Bridge) → b ≡ bridge_at_end s b
end_is AtRest p b = absurd p
end_is (Prepared j x) p b = absurd p
end_is (InForce j x) p b = refl

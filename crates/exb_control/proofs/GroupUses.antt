-- The uses of groups that the active configuration keeps, step by step.
use Rattle.std.proofs.Common.{◌≡◌, ℕ, ◌+◌, ◌<◌, ◌≤◌, cond, Bool, true, List, [], Option, Some, None, length, refl, sym, ◌∙◌, ap, subst}
use Rattle.std.specs.Prelude.{slice_index_or}
use Rattle.exb_model.specs.declared.command.Command.{Command}
use Rattle.exb_model.specs.declared.command.Command.TheVariants as command
use Rattle.exb_model.specs.declared.event.Cause.{Cause}
use Rattle.exb_model.specs.Tree.{Shape, IsTree, is_cascade}
use Rattle.exb_model.specs.Setup.{Limits, NamesExternal}
use Rattle.exb_model.specs.Configuration.{Bridge, after}
use Rattle.exb_model.specs.Refusals.{is_empty_set}
use Rattle.exb_config.specs.Tables.{Tables, bridge_of}
use Rattle.exb_numbers.specs.Spaces.{Spaces, groups_at}
use Rattle.exb_control_spec.specs.Plans.Sets.{PortsAt, sets_of}
use Rattle.exb_control_spec.specs.declared.plan.change.Decision.{Decision}
use Rattle.exb_control_spec.specs.declared.plan.change.Decision.TheVariants as decision
use Rattle.exb_control_spec.specs.Plans.HeldNumbers.{Held, HoldsNeeded, free_where, in_spaces}
use Rattle.exb_plan.specs.SpaceContents.{held_by}
use Rattle.exb_control_spec.specs.Plans.Differences.{is_gone, refusal_between}
use Rattle.exb_control_spec.specs.Plans.Plans.{change_of, claimed}
use Rattle.exb_control_spec.proofs.Plans.Trunks.{extended_external}
use Rattle.exb_control_spec.specs.Plans.TouchedParts.{uses_of}
use Rattle.exb_plan.specs.UseCounts.{IsCounted, count_at}
use Rattle.exb_plan.specs.Decisions.{IfDecided}
use Rattle.exb_plan.specs.Recount.{HaveRowsOf}
use Rattle.exb_plan.proofs.FreedUses.{counted_freed}
use Rattle.exb_control_spec.specs.declared.job.Job.{Job}
use Rattle.exb_control_spec.specs.declared.job.Job.TheVariants as job
use Rattle.exb_control.specs.declared.stage.Stage.{Stage}
use Rattle.exb_control.specs.declared.stage.Stage.TheVariants.{AtRest, Prepared, InForce}
use Rattle.exb_control_spec.specs.Decisions.{Outcome, Refused, Ready, decide, outcome_by, bridge_after, release}
use Rattle.exb_control.specs.ActiveConfigs.{ActiveConfig, IsPrepared, bridge_in, held_in, stage_of, held_after, in_force, bridge_at_end, held_at_end}
use Rattle.exb_control_spec.specs.JobsOfTree.{Fits, HasExternals}
use Rattle.exb_control.specs.GroupUses.{AreUses, IsKept}
use Rattle.exb_control_spec.specs.RequestLaws.{IsPlanned}
use Rattle.exb_control_spec.proofs.CascadePlaces.{place_true, placed_alike, alike_back}
use Rattle.exb_control_spec.proofs.ReleasedNumbers.{sets_are, freed_set}
use Rattle.exb_control.proofs.Decisions.{said_stage, planned}

-- ---- what is held elsewhere than at the cascade ports of the bridge is no matter
uses_with : Shape → Bridge → ℕ → List ℕ → ℕ
uses_with t b k set = let s : PortsAt = record { bridge_port = k + 1; ports = set } in cond (is_empty_set set) 0 (uses_of t b s)

counted_alike : (t : Shape) (b : Bridge) (h g : Held) (uses : List (List ℕ)) → ((k n : ℕ) → k < 64 → is_cascade t k ≡ true → h.set k n ≡ g.set k n) → IsCounted t b g uses → IsCounted t b h uses
unfolding uses_with
counted_alike t b h g uses same is k n low c above = is k n low c above ∙ ap (uses_with t b k) (sym (same k n low c))

pub counted_placed : (t : Shape) (b : Bridge) (h : Held) (uses : List (List ℕ)) → IsCounted t b h uses → IsCounted t b (in_spaces t h) uses
counted_placed t b h uses is = counted_alike t b (in_spaces t h) h uses (placed_alike t h).set is

pub placed_counted : (t : Shape) (b : Bridge) (h : Held) (uses : List (List ℕ)) → IsCounted t b (in_spaces t h) uses → IsCounted t b h uses
placed_counted t b h uses is = counted_alike t b h (in_spaces t h) uses (alike_back t h (in_spaces t h) (placed_alike t h)).set is

-- ---- at the beginning no set has a group
pub first_counted : (t : Shape) (b : Bridge) (h : Held) (uses : List (List ℕ)) → ((k g : ℕ) → count_at uses k g ≡ 0) → ((k n : ℕ) → k < 64 → is_cascade t k ≡ true → h.set k n ≡ []) →
    IsCounted t b h uses
unfolding uses_with
first_counted t b h uses zero none k n low c above = zero k n ∙ sym (ap (uses_with t b k) (none k n low c))

-- ---- at the end of a change its groups are given back
released_counted : (t : Shape) (l : Limits) (old new : Bridge) (h : Held) → IsPlanned t l old new h → (uses : List (List ℕ)) → IsCounted t new (claimed t l old new h) uses →
    IsCounted t new (release (change_of t l old new h) (claimed t l old new h)) uses
released_counted t l old new h p uses is =
    let x : Held = claimed t l old new h in
    let gone : ℕ → ℕ → Bool = is_gone (sets_of t new) x in
    counted_alike t new (release (change_of t l old new h) x) (free_where gone x) uses (λ k n low c. sets_are t l old new h p k n low c ∙ freed_set t l old new h p k n)
    (counted_freed t new x uses gone (λ k n. refl) is)

-- ---- a job is decided
-- the uses as they are counted once it is
abbrev IsCountedBy : Shape → Bridge → Job → List (List ℕ) → Outcome → Held → Type 0
IsCountedBy t b j uses (Refused cause) h = IsCounted t b h uses
IsCountedBy t b j uses (Ready x held) h = IsCounted t (bridge_after j b) held uses

module _ (t : Shape) (valid : IsTree t) (l : Limits) (few : l.channels ≤ 4094) (enough : l.groups ≤ 12288) (b : Bridge) (external : HasExternals t b) (h : Held)
    (needed : HoldsNeeded t b h) (uses : List (List ℕ)) where
  abbrev EndsCounted : Job → Outcome → Type 0
  EndsCounted j o = IsCounted t (bridge_at_end (stage_of j o) b) (held_at_end (stage_of j o) (held_after o h)) uses

  between_counted : (j : Job) (c : Command) → NamesExternal t c → bridge_after j b ≡ after c b → (o : Option Cause) → refusal_between t l b (after c b) ≡ o →
      IsCountedBy t b j uses (outcome_by o (change_of t l b (after c b) h) (claimed t l b (after c b) h)) h → EndsCounted j (outcome_by o (change_of t l b (after c b) h) (claimed t l b (after c b) h))
  between_counted j c names is (Some x) e counted = counted
  between_counted j c names is None e counted =
      let x = change_of t l b (after c b) h in
      let held : Held = claimed t l b (after c b) h in
      subst (λ (k : Bridge). IsCounted t k (release x held) uses) (sym is)
      (released_counted t l b (after c b) h (planned t valid l few enough b external h needed c names e) uses (subst (λ (k : Bridge). IsCounted t k held uses) is counted))

  decided_counted : (j : Job) → Fits t j → IsCountedBy t b j uses (decide t l b h j) h → EndsCounted j (decide t l b h j)
  unfolding decide
  decided_counted (job.Opening n) fits counted = counted
  decided_counted (job.AutomaticUp p) fits counted =
      between_counted (job.AutomaticUp p) (command.Up p) (extended_external t p fits) refl (refusal_between t l b (after (command.Up p) b)) refl counted
  decided_counted (job.Ordered n c) fits counted = between_counted (job.Ordered n c) c fits refl (refusal_between t l b (after c b)) refl counted

-- ---- the active configuration
module _ (f : ActiveConfig) (uses : List (List ℕ)) (is : IsKept f uses) where
  pub rows_fit : (k : ℕ) → k < 64 → is_cascade f.shape k ≡ true → length (slice_index_or uses k []) ≡ (groups_at f.spaces k).limit
  rows_fit k low c = is.uses.rows k low c ∙ sym (is.active.spaces.groups k (is.active.spaces.spaces k ∙ place_true f.shape k low c))

  module _ (rest : f.stage ≡ AtRest) where
    rest_counted : IsCounted f.shape (bridge_in f) (held_in f) uses
    rest_counted = subst (λ (s : Stage). IsCounted f.shape (bridge_at_end s (bridge_in f)) (held_at_end s (held_in f)) uses) rest is.uses.counted

    pub start_counted : IsCounted f.shape (bridge_in f) (held_by f.spaces) uses
    start_counted = placed_counted f.shape (bridge_in f) (held_by f.spaces) uses rest_counted

    module _ (j : Job) (fits : Fits f.shape j) (d : Decision) (w : Spaces) (next : List (List ℕ))
        (decided : IfDecided d (next ≡ uses) (IsCounted f.shape (bridge_after j (bridge_in f)) (held_by w) next))
        (rows : HaveRowsOf uses next) (needed : HoldsNeeded f.shape (bridge_in f) (held_in f)) where
      by_outcome : (d : Decision) (o : Outcome) → said_stage j d ≡ stage_of j o → in_spaces f.shape (held_by w) ≡ held_after o (held_in f) →
          IfDecided d (next ≡ uses) (IsCounted f.shape (bridge_after j (bridge_in f)) (held_by w) next) → IsCountedBy f.shape (bridge_in f) j next o (held_in f)
      by_outcome (decision.Refused x) (Refused y) stage held same = subst (λ (u : List (List ℕ)). IsCounted f.shape (bridge_in f) (held_in f) u) (sym same) rest_counted
      by_outcome (decision.Refused x) (Ready y g) stage held same = absurd (cc)
      by_outcome (decision.Ready x) (Refused y) stage held counted = absurd (cc)
      by_outcome (decision.Ready x) (Ready y g) stage held counted =
          subst (λ (h : Held). IsCounted f.shape (bridge_after j (bridge_in f)) h next) held (counted_placed f.shape (bridge_after j (bridge_in f)) (held_by w) next counted)

      pub started_uses : said_stage j d ≡ stage_of j (decide f.shape f.limits (bridge_in f) (held_in f) j) →
          in_spaces f.shape (held_by w) ≡ held_after (decide f.shape f.limits (bridge_in f) (held_in f) j) (held_in f) →
          AreUses f.shape f.limits (bridge_at_end (said_stage j d) (bridge_in f)) (held_at_end (said_stage j d) (in_spaces f.shape (held_by w))) next
      started_uses stage held =
          let o = decide f.shape f.limits (bridge_in f) (held_in f) j in
          record {
            counted =
                subst (λ (s : Stage). IsCounted f.shape (bridge_at_end s (bridge_in f)) (held_at_end s (in_spaces f.shape (held_by w))) next) (sym stage)
                (subst (λ (h : Held). IsCounted f.shape (bridge_at_end (stage_of j o) (bridge_in f)) (held_at_end (stage_of j o) h) next) (sym held)
                (decided_counted f.shape is.active.tree f.limits is.active.channels is.active.groups (bridge_in f) is.active.external (held_in f) needed next j fits
                (by_outcome d o stage held decided)));
            rows = λ k low c. rows k ∙ is.uses.rows k low c;
          }

  -- ---- a change takes effect, and ends
  module _ (config : Tables) (effect : bridge_of config ≡ bridge_at_end f.stage (bridge_in f)) where
    pub ended_uses : (w : Spaces) → in_spaces f.shape (held_by w) ≡ held_at_end f.stage (held_in f) → AreUses f.shape f.limits (bridge_of config) (in_spaces f.shape (held_by w)) uses
    ended_uses w held =
        subst (λ (b : Bridge). AreUses f.shape f.limits b (in_spaces f.shape (held_by w)) uses) (sym effect)
        (subst (λ (h : Held). AreUses f.shape f.limits (bridge_at_end f.stage (bridge_in f)) h uses) (sym held) is.uses)

    pub committed_uses : IsPrepared f.stage → (s : Stage) → s ≡ in_force f.stage → AreUses f.shape f.limits (bridge_at_end s (bridge_of config)) (held_at_end s (held_in f)) uses
    committed_uses p s now =
        subst (λ (x : Stage). AreUses f.shape f.limits (bridge_at_end x (bridge_of config)) (held_at_end x (held_in f)) uses) (sym now) (by_stage f.stage p effect is.uses)
      where
        by_stage : (s : Stage) → IsPrepared s → bridge_of config ≡ bridge_at_end s (bridge_in f) → AreUses f.shape f.limits (bridge_at_end s (bridge_in f)) (held_at_end s (held_in f)) uses →
            AreUses f.shape f.limits (bridge_at_end (in_force s) (bridge_of config)) (held_at_end (in_force s) (held_in f)) uses
        by_stage AtRest p e u = absurd p
        by_stage (Prepared j x) p e u = subst (λ (b : Bridge). AreUses f.shape f.limits b (release x (held_in f)) uses) (sym e) u
        by_stage (InForce j x) p e u = absurd p

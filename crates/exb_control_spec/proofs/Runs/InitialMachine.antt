-- The machine stands at the beginning.
use Rattle.std.proofs.Common.{◌≡◌, ℕ, zero, suc, ◌+◌, ◌<◌, cond, ◌*◌, ◌%◌, nat_lt, slice_index, Bool, true, false, List, [], ◌∷◌, Option, None, fold, refl, sym, ◌∙◌, ap, subst, arith, inl, inr}
use Rattle.std.specs.Prelude.{flat_map}
use Rattle.std.specs.List.{list_any}
use Rattle.std.proofs.lemmas.Bool.{cases_Bool, and_parts, ltb-true, false≢true}
use mathlib.Core.Path.{fun_ext}
use Rattle.exb_model.specs.Tree.{Shape, IsTree, device, is_extender, is_port, by_depth}
use Rattle.exb_model.specs.Setup.{Limits}
use Rattle.exb_control_spec.specs.Plans.HeldNumbers.{Held, is_place, in_spaces}
use Rattle.exb_model.proofs.TreeOrder.{in_order}
use Rattle.exb_model.specs.Lists.{is_listed}
use Rattle.exb_control_spec.specs.Plans.Laws.{IsBeginning, HoldsFirst}
use Rattle.exb_control_spec.proofs.Plans.NoPortsPresent.{begins_held}
use Rattle.exb_control_spec.specs.Runs.LaidTables.{laid}
use Rattle.exb_control_spec.proofs.Runs.InitialTables.{nothing_is_laid}
use Rattle.exb_control_spec.specs.InitialState.{nothing_held, with_channel_of, is_deep, deep_cascades, first_held, first_jobs, jobs_of, HasChannels}
use Rattle.exb_control_spec.specs.RequestLaws.{IsHeldAtCascades}
use Rattle.exb_control_spec.proofs.Commands.{start_external, start_absent}
use Rattle.exb_control_spec.proofs.FirstClaims.{AreFirst, first_below, none_first, none_below, not_first, none_more, one_more, still_first, first_end, held_end}
use Rattle.exb_control_spec.specs.Runs.InitialSystem.{first_system}
use Rattle.exb_control_spec.specs.Runs.MachineInvariant.{is_opening, opened_by}
use Rattle.exb_control_spec.specs.Runs.InitialMachine.{Begins, RunsFromTheBeginning, SetupsBegin}
use Rattle.exb_control_spec.proofs.Runs.PlannedChanges.{planned_runs_stand}
use Rattle.exb_control_spec.proofs.Runs.InitialQueue.{openings_are, first_fit}

-- ---- what is held
none_placed : (t : Shape) → in_spaces t nothing_held ≡ nothing_held
none_placed t = λ i. record { port = λ k c. by_place {X = Option ℕ} (is_place t k) None i; set = λ k g. by_place {X = List ℕ} (is_place t k) [] i }
  where
    by_place : {X : Type 0} (b : Bool) (x : X) → cond b x x ≡ x
    by_place true x = refl
    by_place false x = refl

-- port by port
first_step : (t : Shape) (l : Limits) → IsTree t → HasChannels t l → (n : ℕ) → AreFirst t (first_below t l n) n
first_step t l valid enough zero = none_first t (first_below t l 0) (ap (in_spaces t) (none_below t l) ∙ none_placed t)
first_step t l valid enough (suc n) =
    let rest : AreFirst t (first_below t l n) n = first_step t l valid enough n in
    let more : suc n ≡ n + 1 = omega arith in
    subst (λ (m : ℕ). AreFirst t (first_below t l m) m) (sym more) (
    elim (cases_Bool (is_deep t n)) [
      | inl e ↦ subst (λ (h : Held). AreFirst t h (n + 1)) (sym (one_more t n l e)) (still_first t n valid e l (first_below t l n) enough rest)
      | inr e ↦ subst (λ (h : Held). AreFirst t h (n + 1)) (sym (none_more t n l e)) (not_first t n (first_below t l n) e rest)
    ])

holds_first : (t : Shape) (l : Limits) → IsTree t → HasChannels t l → HoldsFirst t (first_held t l)
holds_first t l valid enough = at_end 4160 refl
  where
    at_end : (n : ℕ) → n ≡ 4160 → HoldsFirst t (first_held t l)
    at_end n end = subst (HoldsFirst t) (held_end t l n end) (first_end t valid (first_below t l n) n end (first_step t l valid enough n))

no_sets : (t : Shape) (l : Limits) (ports : List ℕ) (h : Held) → ((k g : ℕ) → h.set k g ≡ []) → (k g : ℕ) → (fold (with_channel_of t l) h ports).set k g ≡ []
no_sets t l [] h none = none
no_sets t l (p ∷ ports) h none = no_sets t l ports (with_channel_of t l h p) none

first_at_cascades : (t : Shape) (l : Limits) → IsHeldAtCascades t (first_held t l)
unfolding first_held
first_at_cascades t l k g other = no_sets t l (deep_cascades t) nothing_held (λ k g. refl) k g

-- ---- who is opened
module _ (t : Shape) (valid : IsTree t) where
  extender_listed : (n : ℕ) → is_extender t n ≡ true → is_listed (by_depth t) n ≡ true
  extender_listed n e =
      let both = and_parts (nat_lt 0 n) (nat_lt 0 (slice_index t.ports n)) e in
      let some : 0 < n = ltb-true 0 n both.0 in
      let home : device (64 * n) ≡ n = omega arith in
      let first : (64 * n) % 64 ≡ 0 = omega arith in
      let port : is_port t (64 * n) ≡ true = rw (home, first) both.1 in
      subst (λ (m : ℕ). is_listed (by_depth t) m ≡ true) home (in_order t (64 * n) valid (omega (arith, some)) port)

  pub none_opened : (n : ℕ) → opened_by (is_extender t) (first_jobs t) n ≡ false
  unfolding first_jobs
  none_opened n =
      elim (cases_Bool (is_extender t n)) [
        | inl e ↦ let queued : list_any (is_opening n) (flat_map (jobs_of t) (by_depth t)) ≡ true = openings_are t (by_depth t) n ∙ extender_listed n e in rw (e, queued) refl
        | inr e ↦ rw e refl
      ]

  nobody_opened : opened_by (is_extender t) (first_jobs t) ≡ (λ n. false)
  nobody_opened = fun_ext none_opened

pub setups_begin : SetupsBegin
setups_begin s valid = (
  record { tree = valid.tree; channels = valid.channels; groups = valid.groups },
  record { external = start_external s valid; absent = start_absent s valid; enough = valid.enough_channels },
)

pub begins : Begins
begins t l b setting may =
    let enough : HasChannels t l = (setting.channels, may.enough) in
    let first : HoldsFirst t (first_held t l) = holds_first t l setting.tree enough in
    let beginning : IsBeginning t b (first_held t l) = record { absent = may.absent; held = first } in
    let closed : (n : ℕ) → opened_by (is_extender t) (first_jobs t) n ≡ false = none_opened t setting.tree in
    record {
      stands = (
        record {
          laid = sym (ap (λ (o : ℕ → Bool). laid t o (first_held t l)) (nobody_opened t setting.tree) ∙ nothing_is_laid t b (first_held t l) setting.tree beginning);
          exact = record {
            needed = begins_held t b (first_held t l) beginning;
            cascades = first_at_cascades t l;
            order = record {
              above = λ n there e deep. absurd (false≢true (sym (closed n) ∙ e));
              present = λ q ext e. absurd (false≢true (sym (may.absent q ext) ∙ e));
            };
            external = may.external;
          };
          fits = first_fit t setting.tree;
        },
        refl,
      );
      waits = λ n. refl;
    }

pub runs_from_the_beginning : RunsFromTheBeginning
runs_from_the_beginning t l b steps setting may runs = planned_runs_stand t l setting (first_system t l b) steps (begins t l b setting may) runs

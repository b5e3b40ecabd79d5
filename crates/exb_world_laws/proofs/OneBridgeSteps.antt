-- A world that stands goes on standing over any steps, and where it is settled nothing is owed.
use Rattle.std.proofs.Common.{◌≡◌, ℕ, ◌++◌, nat_lt, true, List, [], ◌∷◌, slice_index, refl, ap, sym, ◌∙◌, subst, inl, inr}
use Rattle.std.proofs.lemmas.Bool.{cases_lt, lt-ltb, le-ltb, and_parts, and_from}
use Rattle.std.proofs.lemmas.List.{append-nil, append_assoc}
use Rattle.exb_model.specs.FlatBridge.{Sent}
use Rattle.exb_model.specs.History.{Basis, History, ◌then◌}
use Rattle.exb_model.specs.Setup.{Limits}
use Rattle.exb_model.specs.Tree.{Shape, IsTree, is_port, is_external}
use Rattle.exb_frame.specs.TagValues.{TagRoundTrip}
use Rattle.exb_learn.specs.Calls.{Table}
use Rattle.exb_learn.proofs.HistoryTables.{follows}
use Rattle.exb_csp.specs.AllTables.{tables_at}
use Rattle.exb_relay.specs.Laws.{SendsAreWords, SendsLeaveAsFlat}
use Rattle.exb_control_spec.specs.Runs.Journal.{StepsTell}
use Rattle.exb_world_spec.specs.AllowedSteps.{IsSettled}
use Rattle.exb_world_spec.specs.Settling.{run}
use Rattle.exb_world_spec.specs.Steps.{Stepped, stepped}
use Rattle.exb_world_spec.specs.Worlds.{World, Left, left_at}
use Rattle.exb_flight.specs.DownwardFrames.{owed}
use Rattle.exb_flight.proofs.ExtendersAbove.{home_link}
use Rattle.exb_flight.specs.Promises.{owed_at}
use Rattle.exb_flight.specs.Tokens.{data_words}
use Rattle.exb_flight.proofs.KeptPromises.{owed_none_up, stood_promises, then_append}
use Rattle.exb_world_laws.specs.WorldInput.{Given, given_by, basis_with}
use Rattle.exb_world_laws.specs.WorldInvariant.{MayStart, given_in, Kept}
use Rattle.exb_world_laws.specs.OneBridgeSteps.{RunsLeaveStanding, StandsOwesNothing}
use Rattle.exb_world_laws.specs.OneBridge.{Stands}
use Rattle.exb_world_laws.proofs.InvariantSteps.{step_kept}
use Rattle.exb_world_laws.proofs.OneBridgeKept.{stands_go_on}
use Rattle.exb_world_laws.proofs.OneBridge.{kept_is_clean}

-- the ageing time of a world that is kept is that of its beginning
pub kept_ageing : (t : Shape) (l : Limits) (i : Basis) → MayStart t l i → (w : World) (g : List Given) (h : History) (left : List Left) → Kept t l i w g h left → w.table.ageing ≡ i.ageing
kept_ageing t l i start w g h left k =
    let table = (stood_promises t l (basis_with i g) start.setting w h left k.stood).force.table in
    ap (λ (u : Table). u.ageing) table ∙ (follows (basis_with i g) h).ageing_is

module _ (round : TagRoundTrip) (words : SendsAreWords) (leave : SendsLeaveAsFlat) (law : StepsTell) where
  pub runs_leave_standing : RunsLeaveStanding
  unfolding run
  runs_leave_standing t l b start w given told gone k [] may i aged g h left s =
      record {
        stands = subst (λ (j : List Given). Stands t l i w j h (left ++ [])) (sym (append-nil g)) (subst (Stands t l i w g h) (sym (append-nil left)) s);
        clean = kept_is_clean t l b start w given told gone k;
        ageing = refl;
      }
  runs_leave_standing t l b start w given told gone k (step ∷ steps) may i aged g h left s =
      let x : Stepped = stepped t l step w in
      let r : Stepped = run t l steps x.world in
      let kept = step_kept round words leave law t l b start w given told gone k step may.0 in
      let same : x.world.table.ageing ≡ w.table.ageing =
      kept_ageing t l b start x.world (given ++ given_by step) (told then x.events) (gone ++ x.left) kept ∙ sym (kept_ageing t l b start w given told gone k) in
      let next = stands_go_on round words leave law t l b start w given told gone k step may.0 i aged g h left s in
      let rest = runs_leave_standing t l b start x.world (given ++ given_by step) (told then x.events) (gone ++ x.left) kept steps may.1 i (aged ∙ sym same) (g ++ given_by step) (h then x.events) (left ++ x.left) next in
      record {
        stands = subst (λ (j : List Given). Stands t l i r.world j (h then (x.events ++ r.events)) (left ++ (x.left ++ r.left))) (append_assoc g (given_by step) (given_in steps))
            (subst (Stands t l i r.world ((g ++ given_by step) ++ given_in steps) (h then (x.events ++ r.events))) (append_assoc left x.left r.left)
            (subst (λ (z : History). Stands t l i r.world ((g ++ given_by step) ++ given_in steps) z ((left ++ x.left) ++ r.left)) (sym (then_append h x.events r.events)) rest.stands));
        clean = rest.clean;
        ageing = rest.ageing ∙ same;
      }

-- ---- a settled world
none_owed : (t : Shape) → IsTree t → (w : World) → IsSettled t w → (q : ℕ) → is_external t q ≡ true → owed_at t w q ≡ []
unfolding owed_at owed
none_owed t tree w settled q ext =
    elim (cases_lt q 64) [
      | inl low ↦ rw (lt-ltb q 64 low) refl
      | inr high ↦ rw (le-ltb q 64 high)
          (owed_none_up t tree (tables_at (λ n. (w.far n).tables)) (λ n. data_words (w.down n)) (λ n link. ap data_words (settled.down n (and_from (nat_lt 0 n) _ (lt-ltb 0 n link.extender) (lt-ltb 0 (slice_index t.ports n) link.there)))) q 64 q
          (home_link t q (record { deep = high; known = (and_parts (is_port t q) _ ext).0 })))
    ]

pub stands_owes_nothing : StandsOwesNothing
stands_owes_nothing t l i tree w g h left s settled q ext =
    let nothing : owed_at t w q ≡ [] = none_owed t tree w settled q ext in
    (nothing, sym (append-nil (left_at q left)) ∙ (ap (λ (xs : List Sent). left_at q left ++ xs) (sym nothing) ∙ s.even q ext))

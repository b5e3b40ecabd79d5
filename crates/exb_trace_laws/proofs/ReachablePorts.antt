-- What holds at every moment of the numbers by which the bridge reaches ports, and of the tables of extenders.
use Rattle.std.proofs.Common.{◌≡◌, ◌⊎◌, ℕ, ◌<◌, ◌&&◌, Bool, true, false, cond, ap, sym, ◌∙◌, subst, arith, inl, inr, List, Some}
use Rattle.std.proofs.lemmas.Bool.{cases_lt}
use Rattle.exb_model.specs.Tree.{Shape, IsTree, device, on, is_extender, is_cascade, is_external, port_number}
use Rattle.exb_csp.specs.AllTables.{port_of}
use Rattle.exb_extender.specs.Machine.{ExtenderState}
use Rattle.exb_control_spec.proofs.Plans.Trunks.{hung_cascade}
use Rattle.exb_control_spec.specs.Runs.LaidTables.{has_port, laid, is_shown}
use Rattle.exb_control_spec.specs.Decisions.{channel_of}
use Rattle.exb_model.specs.Numbers.{IsReady, IsNumbering}
use Rattle.exb_config.specs.Pvids.{HasPvids}
use Rattle.exb_control_spec.specs.Runs.MonotoneRequests.{IsWithin}
use Rattle.exb_control_spec.specs.Runs.MachineInvariant.{Stands}
use Rattle.exb_control_spec.specs.Runs.PlannedChanges.{planning, ReadyMidway, HeldAreNumbers}
use Rattle.exb_world_spec.specs.Worlds.{World}
use Rattle.exb_control_spec.specs.Plans.HeldNumbers.{numbers_in}
use Rattle.exb_world_spec.specs.Runs.Simulation.{system_of}
use Rattle.exb_world_spec.proofs.Trunks.{hangs_there, port_there}
use Rattle.exb_world_spec.proofs.Routing.{IsUnderLaid, under_laid}
use Rattle.exb_model.specs.Lists.{numbered}
use Rattle.exb_model.specs.ETags.{read_etag, stripped}
use Rattle.exb_link.specs.declared.link_frame.Stamp.{Stamp}
use Rattle.exb_link.specs.declared.link_frame.LinkFrame.{LinkFrame}
use Rattle.exb_world_spec.specs.DataFrames.{holder_by}
use Rattle.exb_world_spec.specs.Steps.{first_data}
use Rattle.exb_trace_laws.specs.TraceConditions.{ServesStations}

-- Each set of the configuration has its group, and each present port its channel.
pub record RelayReady (t : Shape) (w : World) : Type 0 where
  pub ready : IsReady t w.control.bridge (numbers_in w.control.held)
  pub numbering : IsNumbering (numbers_in w.control.held)
  pub pvids : HasPvids w.control.bridge

-- No external port is a cascade port; and a port on which an extender hangs is one, or has no channel.
pub record KnowsTree (t : Shape) (far : ℕ → ExtenderState) : Type 0 where
  pub stations : ServesStations t far
  pub cascades : (n : ℕ) → is_extender t n ≡ true → is_extender t (device (on t n)) ≡ true → ((far (device (on t n))).tables.cascade (port_number (on t n)) ≡ true) ⊎ ((far (device (on t n))).tables.own (port_number (on t n)) ≡ 0)

-- A data word that comes to the bridge: the record of its stamp is its frame without the E-TAG, and its channel is the
-- one that the record's port holds.
pub record NamesSource (t : Shape) (w : World) (captures : ℕ → List (List ℕ)) (k : ℕ) (x : LinkFrame) : Type 0 where
  pub stamp : Stamp
  pub is : x.stamp ≡ Some stamp
  pub external : is_external t stamp.port ≡ true
  pub holder : holder_by w k (read_etag x.bytes) ≡ Some stamp.port
  pub frame : numbered (captures stamp.port) stamp.index ≡ Some (stripped x.bytes)

abbrev pub NameSources : Shape → World → (ℕ → List (List ℕ)) → Type 0
NameSources t w captures = (n : ℕ) (x : LinkFrame) → is_extender t n ≡ true → on t n < 64 → first_data (w.up n) ≡ Some x → NamesSource t w captures (on t n) x

pub relay_ready : ReadyMidway → HeldAreNumbers → (t : Shape) (w : World) → IsTree t → Stands (planning t) (system_of w) → HasPvids w.control.bridge → RelayReady t w
relay_ready midway numbers t w tree stands pvids =
    record {
      ready = midway t (system_of w) tree stands;
      numbering = numbers w.control.held;
      pvids = pvids;
    }

-- what is laid at a port with a channel
kind_there : (there shown cascade : Bool) (channel own : ℕ) (kind : Bool) → cond there (cond shown channel 0) 0 ≡ own → 0 < own → cascade ≡ true → (there && (cascade && shown)) ≡ kind → kind ≡ true
kind_there true true cascade channel own kind e some c k = sym k ∙ ap (λ (b : Bool). true && (b && true)) c
kind_there true false cascade channel own kind e some c k = absurd (omega (arith, e, some))
kind_there false shown cascade channel own kind e some c k = absurd (omega (arith, e, some))

pub knows_tree : (t : Shape) (w : World) → IsTree t → Stands (planning t) (system_of w) → ServesStations t w.far → KnowsTree t w.far
knows_tree t w tree stands stations =
    record {
      stations = stations;
      cascades = λ n there above. (
          let m : ℕ = device (on t n) in
          let p : ℕ = port_number (on t n) in
          let u : IsUnderLaid t (system_of w) = under_laid t (system_of w) stands in
          let k : IsWithin (w.far m).tables (laid t u.opened w.control.held m) = u.within m in
          let cascade : is_cascade t (port_of m p) ≡ true = subst (λ (q : ℕ). is_cascade t q ≡ true) (sym (port_there (on t n))) (hung_cascade t tree n (on t n) (hangs_there t n there)) in
          elim (cases_lt 0 ((w.far m).tables.own p)) [
            | inl some ↦ inl (kind_there (has_port t m p) (is_shown t u.opened (port_of m p)) (is_cascade t (port_of m p)) (channel_of t w.control.held (port_of m p)) ((w.far m).tables.own p) ((w.far m).tables.cascade p) (k.own p some) some cascade (k.kinds p some))
            | inr none ↦ inr (omega arith)
          ]
          );
    }

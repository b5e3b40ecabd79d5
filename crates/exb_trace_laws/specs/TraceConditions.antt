-- What a world has to bring so that its trace is legal, beyond what `exb_world_spec` proves of it. Each is a fact that
-- the world's invariant can supply.
use Rattle.std.specs.Prelude.{◌≡◌, ℕ, ◌+◌, ◌<◌, true, false, List, length, Some}
use Rattle.exb_model.specs.Tree.{Shape, device, on, is_extender, is_external, port_number}
use Rattle.exb_model.specs.Lists.{numbered}
use Rattle.exb_model.specs.ETags.{read_etag, stripped}
use Rattle.exb_extender.specs.Machine.{ExtenderState}
use Rattle.exb_link.specs.declared.link_frame.Stamp.{Stamp}
use Rattle.exb_link.specs.declared.link_frame.LinkFrame.{LinkFrame}
use Rattle.exb_config.specs.Pvids.{HasPvids}
use Rattle.exb_link.specs.LinkFrames.{is_control}
use Rattle.exb_world_spec.specs.Runs.Sessions.{Each}
use Rattle.exb_world_spec.specs.Worlds.{World}
use Rattle.exb_world_spec.specs.DataFrames.{holder_by}
use Rattle.exb_world_spec.specs.Steps.{first_data}

-- No external port of an extender is a cascade port in its tables, whatever requests were executed.
abbrev pub ServesStations : Shape → (ℕ → ExtenderState) → Type 0
ServesStations t far = (p : ℕ) → is_external t p ≡ true → is_extender t (device p) ≡ true
    → (far (device p)).tables.cascade (port_number p) ≡ false

-- A data word on its way up has the stamp of a record, which is its frame without the E-TAG.
pub record IsRecord (t : Shape) (captures : ℕ → List (List ℕ)) (x : LinkFrame) : Type 0 where
  pub stamp : Stamp
  pub is : x.stamp ≡ Some stamp
  pub external : is_external t stamp.port ≡ true
  pub frame : numbered (captures stamp.port) stamp.index ≡ Some (stripped x.bytes)

abbrev pub AreRecords : Shape → World → (ℕ → List (List ℕ)) → Type 0
AreRecords t w captures = (n : ℕ) → is_extender t n ≡ true → Each (λ (x : LinkFrame). is_control x ≡ false
    → IsRecord t captures x) (w.up n)

-- The channel of a data word that comes to the bridge is the one that the port of its stamp holds.
abbrev pub AreHeld : Shape → World → Type 0
AreHeld t w = (n : ℕ) (x : LinkFrame) (s : Stamp) → is_extender t n ≡ true → on t n < 64 → first_data (w.up n) ≡ Some x
    → x.stamp ≡ Some s → holder_by w (on t n) (read_etag x.bytes) ≡ Some s.port

-- The index that a port awaits is that of its next record.
abbrev pub AwaitsNext : World → (ℕ → List (List ℕ)) → Type 0
AwaitsNext w captures = (p : ℕ) → w.next p ≡ length (captures p) + 1

-- what each step keeps
pub record Serves (t : Shape) (w : World) (captures : ℕ → List (List ℕ)) : Type 0 where
  pub stations : ServesStations t w.far
  pub next : AwaitsNext w captures
  pub records : AreRecords t w captures

-- and what is asked before each step
pub record IsReadyToTell (t : Shape) (w : World) : Type 0 where
  -- the PVID of each port is a VLAN
  pub pvids : HasPvids w.control.bridge
  pub held : AreHeld t w

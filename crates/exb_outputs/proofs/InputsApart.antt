-- Captures stay as they are while outputs are written.
use Rattle.std.proofs.Common.{◌≡◌, ◌≢◌, ℕ, ◌<◌, List, [], ◌∷◌, map, get_or, refl, ap, sym, subst, ◌∙◌}
use mathlib.Core.Path.{fun_ext}
use Rattle.std.specs.Prelude.{Option, Some, None, if◌then◌else◌, is_some}
use Rattle.std.specs.List.{AllByRecursion}
use Rattle.exb_model.specs.declared.setup.Setup.{Setup}
use Rattle.exb_model.specs.declared.setup.Timed.{Timed}
use Rattle.exb_model.specs.Input.{Record, given_by}
use Rattle.exb_capture.specs.Captures.{capture_records, records_or_none}
use Rattle.exb_shelf.specs.Files.{Files, bytes_of}
use Rattle.exb_shelf.specs.Shelf.{Id}
use Rattle.exb_topology_tables.specs.declared.elements.Named.{Named}
use Rattle.exb_inputs.specs.declared.captures.CheckedCapture.{CheckedCapture}
use Rattle.exb_outputs.specs.InputsApart.{CanBeRead, AreApart}
use Rattle.exb_inputs.specs.CaptureChecks.{IsGood}
use Rattle.exb_inputs.specs.Inputs.{bytes_named, input_from, is_named, name_of, records_at}
use Rattle.exb_inputs.specs.ShelfEffects.{ReadsCapture}
use Rattle.exb_outputs.specs.Manifests.{OnlyListed, output_name, Listed, output_count}
use Rattle.exb_inputs.proofs.FirstRecords.{none-elsewhere}

-- ---- ids
-- captures that are named are none of the outputs
pub apart-named : (manifest : Listed) (names : List Named) (ids : ℕ → Id) (mine : List ℕ) → ((q : ℕ) (name : List ℕ) → name_of names q ≡ Some name → (j : ℕ) → j < output_count manifest → name ≢ output_name manifest j) →
    AllByRecursion (λ k. ReadsCapture names (ids k)) mine → AreApart manifest ids mine
apart-named manifest names ids [] apart all = tt
apart-named manifest names ids (k ∷ mine) apart all = ((all.0.name, all.0.reads, apart all.0.port all.0.name all.0.named), apart-named manifest names ids mine apart all.1)

-- ---- while outputs are made
-- captures stay as they are, so what was told of them stands
pub can-read-on : (tells : Type 0) (manifest : Listed) (names : List Named) (file files : Files) (cs : List CheckedCapture) → (tells → OnlyListed manifest file files) → CanBeRead tells manifest names file cs →
    CanBeRead tells manifest names files cs
can-read-on tells manifest names file files cs only can = record {
  checked = record {
    ports = can.checked.ports;
    small = can.checked.small;
    in_time = can.checked.in_time;
    told = λ t k d low.
        (let (name, named, good) = can.checked.told t k d low in
        (name, named, subst (λ (o : Option (List ℕ)). IsGood o (get_or cs k d).told) (sym (only t name (λ j small is. can.apart (get_or cs k d).port name named j small is))) good));
  };
  external = can.external;
  apart = can.apart;
}

pub input-stays : (setup : Setup) (commands : List Timed) (manifest : Listed) (names : List Named) (file files : Files) (cs : List CheckedCapture) (tells : Type 0) → OnlyListed manifest file files → CanBeRead tells manifest names file cs →
    input_from setup commands names files ≡ input_from setup commands names file
input-stays setup commands manifest names file files cs tells only can =
    ap (λ (records : ℕ → List Record). record { setup = setup; commands = map given_by commands; records = records }) (fun_ext λ q. records-stay q (name_of names q) refl)
  where
    records-stay : (q : ℕ) (o : Option (List ℕ)) → name_of names q ≡ o → records_at names files q ≡ records_at names file q
    records-stay q None named = none-elsewhere names files q (ap is_some named) ∙ sym (none-elsewhere names file q (ap is_some named))
    records-stay q (Some name) named =
        let same : files name ≡ file name = only name (λ j small is. can.apart q name named j small is) in
        let At : Files → List Record = λ f. if is_named names q then records_or_none (capture_records (bytes_named f (name_of names q))) else [] in
        ap (λ (o : Option (List ℕ)). if is_some o then records_or_none (capture_records (bytes_named files o)) else []) named
        ∙ ap (λ (o : Option (List ℕ)). records_or_none (capture_records (bytes_of o))) same
        ∙ sym (ap (λ (o : Option (List ℕ)). if is_some o then records_or_none (capture_records (bytes_named file o)) else []) named)

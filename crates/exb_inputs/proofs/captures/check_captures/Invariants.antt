use Rattle.std.proofs.Common.{◌≡◌, ◌<◌, ◌≤◌, ◌*◌, ◌^◌, ℕ, filter, map}
use Rattle.std.specs.Prelude.{All, IfSome}
use Rattle.exb_model.specs.Ports.{below}
use Rattle.exb_shelf.specs.Files.{SameFiles}
use Rattle.exb_shelf.specs.Shelf.{Opens}
use Rattle.exb_inputs.specs.CaptureChecks.{IsGoodNamed, IsToldOf, most_bytes}
use Rattle.exb_inputs.specs.Inputs.{is_named, name_of}
use Rattle.exb_inputs.specs.ShelfEffects.{OpensEach, ReadsBelow}
use Rattle.exb_inputs.proofs.captures.check_captures.Given as goal

abbrev pub invariant-checking : goal.invariant-checking
invariant-checking g l =
    let S = g.S.Shelf in
    record {
      ports : map (λ c. c.port) l.checked.items ≡ filter (is_named l.names) (below l.number);
      small : All (λ c. c.told.bytes ≤ most_bytes) l.checked.items;
      in_time : All (λ c. IfSome c.told.first (λ first. first < 2 ^ 32 * 1_000_000_000)) l.checked.items;
      told : S.tells → All (IsToldOf l.names (S.file l.fn.shelf)) l.checked.items;
      good : S.tells → (q : ℕ) → q < l.number → IsGoodNamed (name_of l.names q) (S.file l.fn.shelf);
      opened : Opens (ReadsBelow l.names l.number) (S.ids l.fn.shelf) (S.ids l.shelf);
      files : SameFiles (S.file l.fn.shelf) (S.file l.shelf);
      each : OpensEach l.names l.number (S.ids l.fn.shelf) (S.ids l.shelf);
      same : S.faults l.shelf ≡ S.faults l.fn.shelf;
    }

-- What stays of a run under way, while captures are read and outputs are written.
use Rattle.std.proofs.Common.{◌≡◌, ℕ, List, [], sym, subst}
use Rattle.std.specs.Prelude.{Option}
use mathlib.Core.Path.{fun_ext}
use Rattle.exb_model.specs.Input.{Input, Segment, Mode}
use Rattle.exb_timeline.specs.declared.bridge_timeline.Timeline.{Timeline}
use Rattle.exb_timeline.specs.Timelines.{IsProgramme}
use Rattle.exb_timeline.specs.CaptureMerges.{AreReplays, ids_in}
use Rattle.exb_shelf.specs.Files.{Files}
use Rattle.exb_shelf.specs.Shelf.{Id}
use Rattle.exb_outputs.specs.InputsApart.{AreApart}
use Rattle.exb_outputs.specs.Manifests.{Listed}
use Rattle.exb_outputs.specs.WrittenTexts.{HasTexts, pieces_of}
use Rattle.exb_outputs.proofs.UntouchedInputs.{ids-same, replays-written}
use Rattle.exb_outputs.specs.KindTexts.{text_so_far}
use Rattle.exb_play.specs.Disks.{Disk, Plays, Reads}
use Rattle.exb_play.specs.BridgeRuns.{IsTold, Player, Run}
use Rattle.exb_play.specs.RunInvariants.{AreOthers, LeadsOn, Stands}

-- ---- while captures are read
-- the same files
pub files-read : (mine : List ℕ) (a b : Disk) → Reads mine a b → b.files ≡ a.files
files-read mine a b reads = fun_ext λ name. reads.files tt name tt

-- so what was told is written as it was
abbrev pub told-read : (tells : Type 0) (r : Run) (p : Player) (so_far : List Segment) (mine : List ℕ) (d : Disk) → Reads mine p.disk d → IsTold tells r p so_far → IsTold tells r (record p { disk = d }) so_far
told-read tells r p so_far mine d reads is = record {
  tree = is.tree;
  told = is.told;
  played = is.played;
  tracing = is.tracing;
  numbers = is.numbers;
  bytes = is.bytes;
  counted = is.counted;
  texts = λ t.
      subst (λ (now : Files). HasTexts p.manifest (pieces_of p.outputs) r.before now (text_so_far is.told.events is.told.left is.told.lines [])) (sym (files-read mine p.disk d reads)) (is.texts t);
  sent = is.sent;
  quiet = is.quiet;
}

-- ---- while outputs are written
-- the same ids
pub ids-written : (tells : Type 0) (manifest : Listed) (a b : Disk) → Plays tells manifest [] a b → b.ids ≡ a.ids
ids-written tells manifest a b writes = ids-same a.ids b.ids (λ j. writes.ids.others j tt)

-- so a programme goes on, apart from the outputs
pub programme-written : (tells : Type 0) (manifest : Listed) (a b : Disk) (q : Timeline) → Plays tells manifest [] a b → IsProgramme a.ids q → IsProgramme b.ids q
programme-written tells manifest a b q writes is = subst (λ (ids : ℕ → Id). IsProgramme ids q) (sym (ids-written tells manifest a b writes)) is

pub apart-written : (tells : Type 0) (manifest : Listed) (a b : Disk) (mine : List ℕ) → Plays tells manifest [] a b → AreApart manifest a.ids mine → AreApart manifest b.ids mine
apart-written tells manifest a b mine writes is = subst (λ (ids : ℕ → Id). AreApart manifest ids mine) (sym (ids-written tells manifest a b writes)) is

-- and leads on
pub leads-written : (tells : Type 0) (m : Mode) (i : Input) (so_far : List Segment) (last : Option ℕ) (manifest : Listed) (a b : Disk) (q : Timeline) → tells → Plays tells manifest [] a b →
    AreApart manifest a.ids (ids_in q.captures) → LeadsOn m i so_far last a q → LeadsOn m i so_far last b q
leads-written tells m i so_far last manifest a b q t writes apart led =
    let same = ids-written tells manifest a b writes in
    let there = replays-written manifest a.files b.files a.ids q.captures.sources.items led.streams apart (writes.files t) led.replays in
    record {
      streams = led.streams;
      replays = subst (λ (ids : ℕ → Id). AreReplays b.files ids q.captures.sources.items led.streams) (sym same) there;
      rest = led.rest;
    }

-- where the files are told, a run that stands reads those that were checked
pub never-others : (tells : Type 0) (r : Run) (p : Player) (last : Option ℕ) (q : Timeline) → Stands tells r p last q → tells → AreOthers p.disk q → ⊥
never-others tells r p last q s t others = let led = s.leads t in others led.streams led.replays

use Rattle.std.proofs.Common.{◌≡◌, ◌<◌, ◌^◌, ℕ, false, true, ap, sym, subst, ◌∙◌}
use Rattle.std.specs.List.{AllByRecursion}
use Rattle.std.proofs.lemmas.Result.{err_from_is_err_and}
use Rattle.exb_play.proofs.PartialOutputs.{begun-so-far}
use Rattle.exb_inputs.proofs.ChangedPorts.{named-port}
use Rattle.exb_timeline.specs.CaptureMerges.{ids_in, HasPort, standings}
use Rattle.exb_shelf.specs.Files.{Files}
use Rattle.exb_inputs.specs.ReplayStart.{AreSince}
use Rattle.exb_inputs.specs.Inputs.{is_named}
use Rattle.exb_inputs.specs.ShelfEffects.{ReadsCapture}
use Rattle.exb_play.specs.Disks.{disk}
use Rattle.exb_play.specs.BridgeRuns.{mode_of}
use Rattle.exb_play.proofs.FaultConversions.{play-counts, play-never, play-port}
use Rattle.exb_outputs.specs.WrittenTexts.{HasTexts, first_text, pieces_of}
use Rattle.exb_play.proofs.RunStart.{can-begin, has-budget}
use Rattle.exb_inputs.proofs.FirstRecords.{since-start, start-fits}
use Rattle.exb_outputs.proofs.TextPrefixes.{begun_eagerly}
use Rattle.exb_outputs.proofs.UntouchedInputs.{ready-opened}
use Rattle.exb_inputs.proofs.ReopenedCaptures.{plays-opened}
use Rattle.exb_inputs.proofs.Outcomes.{files_same}
use Rattle.exb_inputs.proofs.ShelfEffects.{counts_from}
use Rattle.exb_play.proofs.segments.play_into.Goals as goal

pub new-programme-requires-clause-start : goal.new-programme-requires-clause-start
new-programme-requires-clause-start g c = subst (λ (n : ℕ). n < 2 ^ 32) (sym c.start_of-start.ensures) (start-fits c.args.checked.now c.requires.captures.checked.in_time)

pub new-programme-requires-clause-since : goal.new-programme-requires-clause-since
new-programme-requires-clause-since g c = c.in_ok-captures.ensures.since _ (subst (λ (n : ℕ). AreSince n c.args.checked.now) (sym c.start_of-start.ensures) (since-start c.args.checked.now))

pub play_feed-requires-clause-begins : goal.play_feed-requires-clause-begins
play_feed-requires-clause-begins g c =
    let S = g.S.Shelf in
    let s = c.args.script.now in
    let opened = c.in_ok-captures.ensures in
    let made = c.new-programme.ensures in
    can-begin S.tells (mode_of c.args.schedule) g.R.OfRun.run s.setup.now s.commands.now s.fate.now c.args.manifest.now c.args.names.now (S.file c.args.shelf.now) (disk S c.open_all.new.shelf) c.args.checked.now c.args.outputs
    c.new-programme.result c.in_ok-captures.captures c.merge_of_all.ensures c.start_is_least.ensures c.requires.run c.requires.script c.requires.tree c.requires.captures (made.start ∙ c.start_of-start.ensures) made.commands made.taken
    made.captures opened.standings opened.left opened.named opened.streams
    (λ t. subst (λ (f : Files). HasTexts c.args.manifest.now (pieces_of c.args.outputs) g.R.OfRun.run.before f first_text) (sym (files_same (S.file c.args.shelf.now) (S.file c.open_all.new.shelf) c.open_all.ensures.files)) (c.requires.texts t))
    c.requires.sent (ready-opened _ c.args.manifest.now (S.ids c.args.shelf.now) (S.ids c.open_all.new.shelf) c.args.outputs c.requires.ready c.open_all.ensures.opens) (made.opened (S.ids c.open_all.new.shelf) opened.opened)

pub play_feed-requires-clause-budget : goal.play_feed-requires-clause-budget
play_feed-requires-clause-budget g c =
    let s = c.args.script.now in
    has-budget _ s.commands.now s.fate.now c.new-programme.result _ c.requires.script c.new-programme.ensures.commands c.new-programme.ensures.taken c.requires.fate

-- ---- where the captures couldn't be opened again
pub returns-in_err-captures-clause-fronts : goal.returns-in_err-captures-clause-fronts
returns-in_err-captures-clause-fronts g c t eager =
    let S = g.S.Shelf in
    begun_eagerly _ c.args.manifest.now _ _ (pieces_of c.args.outputs)
    (subst (λ (f : Files). HasTexts c.args.manifest.now (pieces_of c.args.outputs) g.R.OfRun.run.before f first_text) (sym (files_same (S.file c.args.shelf.now) (S.file c.open_all.new.shelf) c.open_all.ensures.files)) (c.requires.texts t))

pub returns-in_err-captures-clause-so_far : goal.returns-in_err-captures-clause-so_far
returns-in_err-captures-clause-so_far g c t =
    let S = g.S.Shelf in
    begun-so-far (mode_of c.args.schedule) _ c.args.manifest.now _ _ (pieces_of c.args.outputs)
    (subst (λ (f : Files). HasTexts c.args.manifest.now (pieces_of c.args.outputs) g.R.OfRun.run.before f first_text) (sym (files_same (S.file c.args.shelf.now) (S.file c.open_all.new.shelf) c.open_all.ensures.files)) (c.requires.texts t))

pub returns-in_err-captures-clause-others : goal.returns-in_err-captures-clause-others
returns-in_err-captures-clause-others g c = λ t m away. c.open_all.ensures.files m

pub returns-in_err-captures-clause-port : goal.returns-in_err-captures-clause-port
returns-in_err-captures-clause-port g c =
    let e = err_from_is_err_and c.from_residual.result c.from_residual.ensures.1 in
    rw (e.1, e.2) c.in_err-captures.ensures.port

-- ---- what was touched
pub returns-clause-others : goal.returns-clause-others
returns-clause-others g c = λ t m away. c.play_feed.ensures.plays.plays.files t m away ∙ c.open_all.ensures.files m

pub returns-in_err-play_feed-clause-others : goal.returns-in_err-play_feed-clause-others
returns-in_err-play_feed-clause-others g c = λ t m away. c.play_feed.ensures.plays.plays.files t m away ∙ c.open_all.ensures.files m

pub returns-clause-opens : goal.returns-clause-opens
returns-clause-opens g c =
    let S = g.S.Shelf in
    plays-opened c.args.names.now (S.ids c.args.shelf.now) (S.ids c.open_all.new.shelf) (S.ids c.play_feed.new.shelf) (ids_in c.new-programme.result.captures) c.open_all.ensures.opens
    (subst (λ r. AllByRecursion (λ k. (S.ids c.args.shelf.now k).given ≡ false) (ids_in r)) (sym c.new-programme.ensures.captures) c.in_ok-captures.ensures.fresh)
    (subst (λ r. AllByRecursion (λ k. ReadsCapture c.args.names.now (S.ids c.open_all.new.shelf k)) (ids_in r)) (sym c.new-programme.ensures.captures) c.in_ok-captures.ensures.named)
    c.play_feed.ensures.plays.plays.ids

pub returns-in_err-play_feed-clause-opens : goal.returns-in_err-play_feed-clause-opens
returns-in_err-play_feed-clause-opens g c =
    let S = g.S.Shelf in
    plays-opened c.args.names.now (S.ids c.args.shelf.now) (S.ids c.open_all.new.shelf) (S.ids c.play_feed.new.shelf) (ids_in c.new-programme.result.captures) c.open_all.ensures.opens
    (subst (λ r. AllByRecursion (λ k. (S.ids c.args.shelf.now k).given ≡ false) (ids_in r)) (sym c.new-programme.ensures.captures) c.in_ok-captures.ensures.fresh)
    (subst (λ r. AllByRecursion (λ k. ReadsCapture c.args.names.now (S.ids c.open_all.new.shelf k)) (ids_in r)) (sym c.new-programme.ensures.captures) c.in_ok-captures.ensures.named)
    c.play_feed.ensures.plays.plays.ids

-- ---- what ended it early
pub returns-in_err-play_feed-clause-never : goal.returns-in_err-play_feed-clause-never
returns-in_err-play_feed-clause-never g c t =
    let e = err_from_is_err_and c.from_residual-in_err-play_feed.result c.from_residual-in_err-play_feed.ensures.1 in
    rw (e.1, e.2) (play-never _ _ _ _ _ c.in_err-play_feed.field-0.0 c.in_err-play_feed.ensures.plays t)

pub returns-in_err-play_feed-clause-port : goal.returns-in_err-play_feed-clause-port
returns-in_err-play_feed-clause-port g c =
    let names = c.args.names.now in
    let e = err_from_is_err_and c.from_residual-in_err-play_feed.result c.from_residual-in_err-play_feed.ensures.1 in
    rw (e.1, e.2)
    (play-port _ _ _ _ _ (λ p. is_named names p ≡ true)
    (λ p has. named-port names c.args.checked.now c.requires.captures.checked.ports p (subst (HasPort p) (ap standings c.new-programme.ensures.captures ∙ c.in_ok-captures.ensures.standings) has))
    c.in_err-play_feed.field-0.0 c.in_err-play_feed.ensures.plays)

pub returns-in_err-play_feed-clause-faults : goal.returns-in_err-play_feed-clause-faults
returns-in_err-play_feed-clause-faults g c =
    let e = err_from_is_err_and c.from_residual-in_err-play_feed.result c.from_residual-in_err-play_feed.ensures.1 in
    rw (e.1, e.2)
    (counts_from _ _ _ _ c.in_ok-captures.ensures.faults.once (play-counts _ _ _ _ _ c.in_err-play_feed.field-0.0 c.in_err-play_feed.ensures.plays))

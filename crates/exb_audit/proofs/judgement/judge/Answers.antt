use Rattle.exb_model.specs.Setup.{shape_of}
use Rattle.exb_trace_spec.specs.Rule1Places.{HasPlaces, NamesPlace}
use Rattle.exb_trace_spec.specs.Traversals.{Each}
use Rattle.exb_trace_spec.specs.Rules.{Files}
use Rattle.exb_audit.specs.Frames.{frames_by}
use Rattle.exb_audit.specs.AllRules.{files_by, FindsRest}
use Rattle.exb_audit.proofs.AllRules.{finds_first, finds_rest}
use Rattle.std.proofs.lemmas.Bool.{false≢true}
use Rattle.std.proofs.lemmas.Result.{IfOk-weaker}
use Rattle.std.proofs.Common.{sym, ◌∙◌, subst}
use Rattle.exb_audit.proofs.judgement.judge.Goals as goal

pub returns-then-not-has_places-clause-legal : goal.returns-then-not-has_places-clause-legal
returns-then-not-has_places-clause-legal c =
    (finds_first (files_by c.args.setup.now c.args.captures.now c.args.journal.now c.args.trace.now c.args.outputs.now)
    (λ k. false≢true (sym c.if-not-has_places.true ∙ (c.has_places.ensures (shape_of c.args.setup.now) (sym c.port_counts-ports.ensures.counts)).1 k))).legal

pub returns-then-not-has_places-clause-broken : goal.returns-then-not-has_places-clause-broken
returns-then-not-has_places-clause-broken c =
    (finds_first (files_by c.args.setup.now c.args.captures.now c.args.journal.now c.args.trace.now c.args.outputs.now)
    (λ k. false≢true (sym c.if-not-has_places.true ∙ (c.has_places.ensures (shape_of c.args.setup.now) (sym c.port_counts-ports.ensures.counts)).1 k))).broken

pub judge_rest-requires-clause-places : goal.judge_rest-requires-clause-places
judge_rest-requires-clause-places c =
    let has = (c.has_places.ensures (shape_of c.args.setup.now) (sym c.port_counts-ports.ensures.counts)).0 c.if-not-has_places.false in
    subst (λ t. Each (NamesPlace t) c.args.trace.now) (sym c.in_ok-tree.ensures) has.places

pub returns-clause-legal : goal.returns-clause-legal
returns-clause-legal c =
    let x : Files = files_by c.args.setup.now c.args.captures.now c.args.journal.now c.args.trace.now c.args.outputs.now in
    let has : HasPlaces (shape_of c.args.setup.now) c.args.journal.now c.args.trace.now = (c.has_places.ensures (shape_of c.args.setup.now) (sym c.port_counts-ports.ensures.counts)).0 c.if-not-has_places.false in
    IfOk-weaker c.judge_rest.result _ _ (λ j p. (finds_rest x has j (subst (λ t. FindsRest t (frames_by c.args.captures.now) (frames_by c.args.outputs.now) c.args.trace.now j) c.in_ok-tree.ensures p)).legal) c.judge_rest.ensures

pub returns-clause-broken : goal.returns-clause-broken
returns-clause-broken c =
    let x : Files = files_by c.args.setup.now c.args.captures.now c.args.journal.now c.args.trace.now c.args.outputs.now in
    let has : HasPlaces (shape_of c.args.setup.now) c.args.journal.now c.args.trace.now = (c.has_places.ensures (shape_of c.args.setup.now) (sym c.port_counts-ports.ensures.counts)).0 c.if-not-has_places.false in
    IfOk-weaker c.judge_rest.result _ _ (λ j p. (finds_rest x has j (subst (λ t. FindsRest t (frames_by c.args.captures.now) (frames_by c.args.outputs.now) c.args.trace.now j) c.in_ok-tree.ensures p)).broken) c.judge_rest.ensures

pub returns-clause-few : goal.returns-clause-few
returns-clause-few c =
    let x : Files = files_by c.args.setup.now c.args.captures.now c.args.journal.now c.args.trace.now c.args.outputs.now in
    let has : HasPlaces (shape_of c.args.setup.now) c.args.journal.now c.args.trace.now = (c.has_places.ensures (shape_of c.args.setup.now) (sym c.port_counts-ports.ensures.counts)).0 c.if-not-has_places.false in
    IfOk-weaker c.judge_rest.result _ _ (λ j p. (finds_rest x has j (subst (λ t. FindsRest t (frames_by c.args.captures.now) (frames_by c.args.outputs.now) c.args.trace.now j) c.in_ok-tree.ensures p)).few) c.judge_rest.ensures

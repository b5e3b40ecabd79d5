use Rattle.std.proofs.Common.{rules, ◌≡◌, ◌<◌, ◌≤◌, ℕ, List, get_or, take, length, ap, sym, subst, ◌∙◌, arith, refl}
use Rattle.std.proofs.lemmas.Grind.{get_or_default_zero}
use Rattle.std.proofs.lemmas.List.{take_all}
use Rattle.std.proofs.lemmas.Result.{err_from_is_err_and}
use Rattle.exb_counters.specs.declared.counters.Counts5.{Counts5}
use Rattle.exb_counters.specs.Counters.{count_line, count_lines}
use Rattle.exb_model.specs.Tree.{external_ports}
use Rattle.exb_journal.specs.declared.file_names.OutputKind.TheVariants as output
use Rattle.exb_outputs.specs.Manifests.{port_at, port_count}
use Rattle.exb_outputs.specs.Counts.{counts_with}
use Rattle.exb_outputs.specs.WrittenTexts.{AreCut, HasTexts, pieces_of, with_more}
use Rattle.exb_outputs.proofs.WrittenTexts.{no_more}
use Rattle.exb_outputs.proofs.AppendedLines.{cut_counts, more_counts}
use Rattle.exb_outputs.proofs.PortPlaces.{port_is}
use Rattle.exb_outputs.proofs.CaptureSizes.{counted_same, same_none, same_then}
use Rattle.exb_outputs.proofs.PortCounts.{counts_same}
use Rattle.exb_outputs.proofs.ShelfEffects.{writes_from, writes_none, writes_then}
use Rattle.exb_outputs.proofs.counter_lines.write_counters.Goals as goal

pub loop-at-init : goal.loop-at-init
loop-at-init g c =
    let file = g.S.Shelf.file c.args.shelf.now in
    record {
      ready = c.requires.ready;
      texts = λ t orig text p. no_more c.args.manifest.now orig file (pieces_of c.args.outputs.now) text output.Counters p;
      same = same_none c.args.manifest.now c.args.outputs.now;
      only = writes_none _ _ _ _;
      faults = search rules;
      counted = refl;
    }

pub counts_of-counts-requires-clause-files : goal.counts_of-counts-requires-clause-files
counts_of-counts-requires-clause-files g c = (let all = c.loop-at.invariant.ready.files in omega (arith, all))

pub counts_of-counts-requires-clause-port : goal.counts_of-counts-requires-clause-port
counts_of-counts-requires-clause-port g c =
    let manifest = c.args.manifest.now in
    let inside : c.loop-at.at < port_count manifest = omega arith in
    let place = port_is manifest c.loop-at.at inside in
    c.requires.ports (port_at manifest c.loop-at.at) place.low place.passes

pub counts_of-counts-requires-clause-counted : goal.counts_of-counts-requires-clause-counted
counts_of-counts-requires-clause-counted g c =
    let manifest = c.args.manifest.now in
    let inside : c.loop-at.at < port_count manifest = omega arith in
    let place = port_is manifest c.loop-at.at inside in
    counted_same manifest c.args.outputs.now c.loop-at.outputs (port_at manifest c.loop-at.at) place.low place.passes c.loop-at.invariant.same (c.requires.counted (port_at manifest c.loop-at.at) place.low place.passes)

pub loop-at-preserved : goal.loop-at-preserved
loop-at-preserved g c =
    let manifest = c.args.manifest.now in
    let before = c.loop-at.invariant in
    let added = c.in_ok-add_count.ensures in
    let ports = external_ports manifest.tree in
    let counts = counts_with c.args.manifest.now c.args.outputs.now c.args.counters.now in
    let inside : c.loop-at.at < length ports = omega arith in
    let is : c.port.result ≡ get_or ports c.loop-at.at c.port.result = c.port.ensures ∙ sym (get_or_default_zero ports c.loop-at.at c.port.result inside) in
    let place = port_is manifest c.loop-at.at inside in
    let line : c.counts_of-counts.result ≡ counts c.port.result =
    c.counts_of-counts.ensures ∙ counts_same manifest c.args.outputs.now c.loop-at.outputs c.args.counters.now (port_at manifest c.loop-at.at) place.low place.passes before.same ∙ ap counts (sym c.port.ensures) in
    record {
      ready = added.ready;
      texts = λ t orig text p.
          more_counts manifest orig (g.S.Shelf.file c.add_count.new.shelf) (pieces_of c.add_count.new.outputs) text counts ports c.loop-at.at c.port.result inside is
          (subst (λ (k : Counts5). HasTexts manifest (pieces_of c.add_count.new.outputs) orig (g.S.Shelf.file c.add_count.new.shelf) (with_more (with_more text output.Counters (count_lines counts (take c.loop-at.at ports))) output.Counters (count_line c.port.result k))) line
          (added.texts t orig (with_more text output.Counters (count_lines counts (take c.loop-at.at ports))) (before.texts t orig text p)));
      same = same_then c.args.manifest.now c.args.outputs.now _ _ before.same added.same;
      only = writes_then _ _ _ _ _ _ _ _ before.only added.only;
      faults = search (arith, added.faults.none_fell, before.faults);
      counted = added.faults.once ∙ before.counted;
    }

pub returns-clause-texts : goal.returns-clause-texts
returns-clause-texts g c = λ t orig text p.
    let ports = external_ports c.args.manifest.now.tree in
    let end : length ports ≤ c.loop-at.at = omega arith in
    subst (λ (ps : List ℕ). HasTexts c.args.manifest.now (pieces_of c.loop-at.outputs) orig (g.S.Shelf.file c.loop-at.shelf) (with_more text output.Counters (count_lines (counts_with c.args.manifest.now c.args.outputs.now c.args.counters.now) ps)))
    (take_all c.loop-at.at ports end) (c.loop-at.invariant.texts t orig text p)

pub returns-in_err-add_count-clause-only : goal.returns-in_err-add_count-clause-only
returns-in_err-add_count-clause-only g c = writes_then _ _ _ _ _ _ _ _ c.loop-at.invariant.only c.in_err-add_count.ensures.only

pub returns-in_err-add_count-clause-cut : goal.returns-in_err-add_count-clause-cut
returns-in_err-add_count-clause-cut g c = λ t.
    let e = err_from_is_err_and c.from_residual.result c.from_residual.ensures.1 in
    rw e.1
    (λ orig text p.
    let manifest = c.args.manifest.now in
    let before = c.loop-at.invariant in
    let ports = external_ports manifest.tree in
    let counts = counts_with c.args.manifest.now c.args.outputs.now c.args.counters.now in
    let inside : c.loop-at.at < length ports = omega arith in
    let is : c.port.result ≡ get_or ports c.loop-at.at c.port.result = c.port.ensures ∙ sym (get_or_default_zero ports c.loop-at.at c.port.result inside) in
    let place = port_is manifest c.loop-at.at inside in
    let line : c.counts_of-counts.result ≡ counts c.port.result =
    c.counts_of-counts.ensures ∙ counts_same manifest c.args.outputs.now c.loop-at.outputs c.args.counters.now (port_at manifest c.loop-at.at) place.low place.passes before.same ∙ ap counts (sym c.port.ensures) in
    cut_counts manifest orig (g.S.Shelf.file c.add_count.new.shelf) text counts ports c.loop-at.at c.port.result inside is
    (subst (λ (k : Counts5). AreCut manifest orig (g.S.Shelf.file c.add_count.new.shelf) (with_more (with_more text output.Counters (count_lines counts (take c.loop-at.at ports))) output.Counters (count_line c.port.result k))) line
    (c.in_err-add_count.ensures.cut t orig (with_more text output.Counters (count_lines counts (take c.loop-at.at ports))) (before.texts t orig text p))))

pub returns-in_err-add_count-clause-faults : goal.returns-in_err-add_count-clause-faults
returns-in_err-add_count-clause-faults g c =
    let e = err_from_is_err_and c.from_residual.result c.from_residual.ensures.1 in
    rw (e.1, e.2) (writes_from _ _ _ _ c.loop-at.invariant.counted c.in_err-add_count.ensures.faults)

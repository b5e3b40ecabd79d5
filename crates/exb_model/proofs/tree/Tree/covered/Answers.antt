use Rattle.std.proofs.Common.{◌≡◌, ◌∙◌, ◌-◌, ◌+◌, ◌==◌, ◌||◌, ◌&&◌, ℕ, List, length, slice_index, sym, ap, subst, arith, refl}
use Rattle.exb_model.specs.Ports.{port_in}
use Rattle.exb_model.specs.PortBits.{has_port}
use Rattle.exb_model.specs.Tree.{Shape, IsTree, by_depth, is_port, on}
use Rattle.exb_model.proofs.MaskLemmas.{word_is}
use Rattle.exb_model.proofs.TreeLoops.{by_depth-range}
use Rattle.exb_model.proofs.TreeCover.{Marked, begins, skips, marks_up, marked_is}
use Rattle.exb_model.proofs.tree.Tree.covered.Goals as goal

pub loop-index-init : goal.loop-index-init
loop-index-init c =
    let t = c.args.self.now in
    let valid = subst (λ (s : Shape). IsTree s) c.self.view_is c.self.invariant.tree in
    let items : c.as_slice-order.result.now ≡ by_depth t = c.as_slice-order.ensures.value ∙ (c.self.invariant.ordered ∙ ap by_depth c.self.view_is) in
    let many : length c.as_slice-order.result.now ≡ length (by_depth t) = ap length items in
    begins t (port_in c.args.set.now) valid c.both-marks.result.words
    (λ q. c.both-marks.ensures q ∙ ap (λ b. port_in c.args.set.now q && b) (c.self.invariant.has q ∙ ap (λ (s : Shape). is_port s q) c.self.view_is))
    (length c.as_slice-order.result.now) (omega arith)

pub mask-requires : goal.mask-requires
mask-requires c =
    let t = c.args.self.now in
    let items : c.as_slice-order.result.now ≡ by_depth t = c.as_slice-order.ensures.value ∙ (c.self.invariant.ordered ∙ ap by_depth c.self.view_is) in
    let many : length c.as_slice-order.result.now ≡ length (by_depth t) = ap length items in
    let range = by_depth-range t (c.loop-index.index - 1) 0 (omega (arith, c.loop-index.auto.index, c.loop-index-test.true)) in
    rw items (omega (arith, range.1))

pub on-requires : goal.on-requires
on-requires c =
    let t = c.args.self.now in
    let items : c.as_slice-order.result.now ≡ by_depth t = c.as_slice-order.ensures.value ∙ (c.self.invariant.ordered ∙ ap by_depth c.self.view_is) in
    let many : length c.as_slice-order.result.now ≡ length (by_depth t) = ap length items in
    let range = by_depth-range t (c.loop-index.index - 1) 0 (omega (arith, c.loop-index.auto.index, c.loop-index-test.true)) in
    rw items (omega (arith, range.1))

pub loop-index-preserved-then-mask-ne0 : goal.loop-index-preserved-then-mask-ne0
loop-index-preserved-then-mask-ne0 c =
    let t = c.args.self.now in
    let i = c.loop-index.index - 1 in
    let marks = c.loop-index.marks in
    let n = slice_index c.as_slice-order.result.now i in
    let valid = subst (λ (s : Shape). IsTree s) c.self.view_is c.self.invariant.tree in
    let items : c.as_slice-order.result.now ≡ by_depth t = c.as_slice-order.ensures.value ∙ (c.self.invariant.ordered ∙ ap by_depth c.self.view_is) in
    let many : length c.as_slice-order.result.now ≡ length (by_depth t) = ap length items in
    let word : c.mask.result ≡ slice_index marks.words n = c.mask.ensures ∙ sym (word_is marks.words (has_port marks.words) n (marks.fits n) (λ q. refl)) in
    let at : c.unwrap.result ≡ on t n = rw c.unwrap.ensures at c.new.ensures.value ∙ (c.on.ensures.value ∙ ap (λ (s : Shape). on s n) c.self.view_is) in
    let before : Marked t (port_in c.args.set.now) marks.words (i + 1) = subst (λ (k : ℕ). Marked t (port_in c.args.set.now) marks.words k) (omega (arith, c.loop-index-test.true)) c.loop-index.invariant in
    marks_up t (port_in c.args.set.now) valid marks.words c.insert.new.self.words i n (omega (arith, c.loop-index.auto.index, c.loop-index-test.true))
    (ap (λ (xs : List ℕ). slice_index xs i) items) (marks.fits n) (λ e. c.if-mask-ne0.true (word ∙ e))
    (λ q. c.insert.ensures q ∙ ap (λ (p : ℕ). q == p || has_port marks.words q) at) before

pub loop-index-preserved : goal.loop-index-preserved
loop-index-preserved c =
    let t = c.args.self.now in
    let i = c.loop-index.index - 1 in
    let marks = c.loop-index.marks in
    let n = slice_index c.as_slice-order.result.now i in
    let valid = subst (λ (s : Shape). IsTree s) c.self.view_is c.self.invariant.tree in
    let items : c.as_slice-order.result.now ≡ by_depth t = c.as_slice-order.ensures.value ∙ (c.self.invariant.ordered ∙ ap by_depth c.self.view_is) in
    let word : c.mask.result ≡ slice_index marks.words n = c.mask.ensures ∙ sym (word_is marks.words (has_port marks.words) n (marks.fits n) (λ q. refl)) in
    let before : Marked t (port_in c.args.set.now) marks.words (i + 1) = subst (λ (k : ℕ). Marked t (port_in c.args.set.now) marks.words k) (omega (arith, c.loop-index-test.true)) c.loop-index.invariant in
    skips t (port_in c.args.set.now) valid marks.words i n (ap (λ (xs : List ℕ). slice_index xs i) items) (sym word ∙ c.if-mask-ne0.false) before

pub returns : goal.returns
returns c p =
    let t = c.args.self.now in
    let valid = subst (λ (s : Shape). IsTree s) c.self.view_is c.self.invariant.tree in
    let done : Marked t (port_in c.args.set.now) c.loop-index.marks.words 0 = subst (λ (k : ℕ). Marked t (port_in c.args.set.now) c.loop-index.marks.words k) (omega (arith, c.loop-index-test.false)) c.loop-index.invariant in
    marked_is t (port_in c.args.set.now) valid c.loop-index.marks.words done p

use Rattle.std.proofs.lemmas.Bool.{false≢true}
use Rattle.std.proofs.Common.{length, sym, ◌∙◌, ap}
use Rattle.exb_audit.proofs.judgement.judge_rest.Goals as goal

pub follow_machines-requires-clause-sized : goal.follow_machines-requires-clause-sized
follow_machines-requires-clause-sized c = sym (ap length c.requires.ports) ∙ c.is_tree.ensures.sized

pub returns-then-not-branch : goal.returns-then-not-branch
returns-then-not-branch c = λ k. false≢true (sym c.if-not-branch.true ∙ (c.in_ok-follow_machines.ensures c.args.tree.now c.requires.ports).1 k)

pub keep_links-requires-clause-ports : goal.keep_links-requires-clause-ports
keep_links-requires-clause-ports c = sym (ap length c.requires.ports) ∙ c.is_tree.ensures.sized

pub returns-then-not-branch-2 : goal.returns-then-not-branch-2
returns-then-not-branch-2 c = (
  (c.in_ok-follow_machines.ensures c.args.tree.now c.requires.ports).0 c.if-not-branch.false,
  λ k. false≢true (sym c.if-not-branch-2.true ∙ (c.in_ok-keep_links.ensures c.args.tree.now c.requires.ports c.requires.hanging).1 k),
)

pub returns-then-not-branch-3 : goal.returns-then-not-branch-3
returns-then-not-branch-3 c = (
  (c.in_ok-follow_machines.ensures c.args.tree.now c.requires.ports).0 c.if-not-branch.false,
  (c.in_ok-keep_links.ensures c.args.tree.now c.requires.ports c.requires.hanging).0 c.if-not-branch-2.false,
  λ k. false≢true (sym c.if-not-branch-3.true ∙ c.in_ok-is_captured.ensures.1 k),
)

pub returns-then-not-branch-4 : goal.returns-then-not-branch-4
returns-then-not-branch-4 c = (
  (c.in_ok-follow_machines.ensures c.args.tree.now c.requires.ports).0 c.if-not-branch.false,
  (c.in_ok-keep_links.ensures c.args.tree.now c.requires.ports c.requires.hanging).0 c.if-not-branch-2.false,
  c.in_ok-is_captured.ensures.0 c.if-not-branch-3.false,
  λ k. false≢true (sym c.if-not-branch-4.true ∙ c.in_ok-is_entered.ensures.1 k),
)

pub returns : goal.returns
returns c = (
  (c.in_ok-follow_machines.ensures c.args.tree.now c.requires.ports).0 c.if-not-branch.false,
  (c.in_ok-keep_links.ensures c.args.tree.now c.requires.ports c.requires.hanging).0 c.if-not-branch-2.false,
  c.in_ok-is_captured.ensures.0 c.if-not-branch-3.false,
  c.in_ok-is_entered.ensures.0 c.if-not-branch-4.false,
)

-- The summary of a net: the sums over its bridges.
use Rattle.std.specs.Prelude.{ℕ, List, map, sum_by}
use Rattle.exb_model.specs.Input.{tree_of}
use Rattle.exb_model.specs.Ports.{below}
use Rattle.exb_model.specs.Texts.{Counts, counts, summary_line}
use Rattle.exb_net_spec.specs.Nets.{Net}
use Rattle.exb_net_spec.specs.NetHistory.{Histories, basis_in}

-- counts of several bridges, added up
abbrev pub added : List Counts → Counts
added cs =
    record {
      relayed = sum_by (λ (c : Counts). c.relayed) cs;
      ignored = sum_by (λ (c : Counts). c.ignored) cs;
      left = sum_by (λ (c : Counts). c.left) cs;
      commits = sum_by (λ (c : Counts). c.commits) cs;
      refusals = sum_by (λ (c : Counts). c.refusals) cs;
    }

-- the counts of bridge b over its history
abbrev pub counts_in : Net → Histories → ℕ → Counts
counts_in n hs b = counts (tree_of (n.input b)) (basis_in n b) (hs b)

-- the summary line of the sums over all bridges
abbrev pub net_summary : Net → Histories → List ℕ
net_summary n hs = summary_line (added (map (counts_in n hs) (below n.count)))

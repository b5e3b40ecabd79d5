-- The counts of all ports together are those of the summary.
use Rattle.std.proofs.Common.{◌≡◌, ℕ, ◌+◌, ◌<◌, ◌==◌, true, cond, List, [], ◌∷◌, sum_by, refl, ap, sym, ◌∙◌, arith}
use Rattle.exb_model.specs.declared.event.Event.TheVariants as event
use Rattle.exb_model.specs.History.{Basis, History}
use Rattle.exb_model.specs.Texts.{counts}
use Rattle.exb_model.specs.Tree.{Shape, is_external, external_ports}
use Rattle.exb_counters.specs.Counters.{relayed_at, ignored_at}
use Rattle.exb_counters.specs.Laws.{CountsAreTheSummary, ComeIn}
use Rattle.exb_counters.proofs.PortSums.{sum_by-plus, sum_by-zero, hit_once, counts-left}

once : (t : Shape) (p : ℕ) → is_external t p ≡ true → p < 4160 → sum_by (λ q. cond (p == q) 1 0) (external_ports t) ≡ 1
unfolding external_ports
once t p out low = hit_once (is_external t) 4160 p low out

-- one event more
more : (f g : ℕ → ℕ) (ports : List ℕ) (n m : ℕ) → sum_by f ports ≡ n → sum_by g ports ≡ m → sum_by (λ q. f q + g q) ports ≡ n + m
more f g ports n m a b = sum_by-plus f g (λ q. f q + g q) (λ q. refl) ports ∙ ap (λ x. x + sum_by g ports) a ∙ ap (λ x. n + x) b

same_or : (n : ℕ) → n + 0 ≡ n
same_or n = omega arith

relayed : (t : Shape) (i : Basis) (h : History) → ComeIn t h → sum_by (λ q. relayed_at h q) (external_ports t) ≡ (counts t i h).relayed
unfolding relayed_at counts
relayed t i [] here = sum_by-zero (external_ports t)
relayed t i (event.Relay p n m f ∷ h) here =
    more (λ q. relayed_at h q) (λ q. cond (p == q) 1 0) (external_ports t) (counts t i h).relayed 1 (relayed t i h here.1) (once t p here.0.out here.0.low)
relayed t i (event.Ignored p n ∷ h) here = more (λ q. relayed_at h q) (λ q. 0) (external_ports t) (counts t i h).relayed 0 (relayed t i h here.1) (sum_by-zero (external_ports t)) ∙ same_or (counts t i h).relayed
relayed t i (event.Tick s ∷ h) here = more (λ q. relayed_at h q) (λ q. 0) (external_ports t) (counts t i h).relayed 0 (relayed t i h here.1) (sum_by-zero (external_ports t)) ∙ same_or (counts t i h).relayed
relayed t i (event.Commit k ∷ h) here = more (λ q. relayed_at h q) (λ q. 0) (external_ports t) (counts t i h).relayed 0 (relayed t i h here.1) (sum_by-zero (external_ports t)) ∙ same_or (counts t i h).relayed
relayed t i (event.Refuse k x ∷ h) here = more (λ q. relayed_at h q) (λ q. 0) (external_ports t) (counts t i h).relayed 0 (relayed t i h here.1) (sum_by-zero (external_ports t)) ∙ same_or (counts t i h).relayed
relayed t i (event.Up p ∷ h) here = more (λ q. relayed_at h q) (λ q. 0) (external_ports t) (counts t i h).relayed 0 (relayed t i h here.1) (sum_by-zero (external_ports t)) ∙ same_or (counts t i h).relayed
relayed t i (event.NoUp p x ∷ h) here = more (λ q. relayed_at h q) (λ q. 0) (external_ports t) (counts t i h).relayed 0 (relayed t i h here.1) (sum_by-zero (external_ports t)) ∙ same_or (counts t i h).relayed
relayed t i (event.Settled ∷ h) here = more (λ q. relayed_at h q) (λ q. 0) (external_ports t) (counts t i h).relayed 0 (relayed t i h here.1) (sum_by-zero (external_ports t)) ∙ same_or (counts t i h).relayed

ignored : (t : Shape) (i : Basis) (h : History) → ComeIn t h → sum_by (λ q. ignored_at h q) (external_ports t) ≡ (counts t i h).ignored
unfolding ignored_at counts
ignored t i [] here = sum_by-zero (external_ports t)
ignored t i (event.Relay p n m f ∷ h) here = more (λ q. ignored_at h q) (λ q. 0) (external_ports t) (counts t i h).ignored 0 (ignored t i h here.1) (sum_by-zero (external_ports t)) ∙ same_or (counts t i h).ignored
ignored t i (event.Ignored p n ∷ h) here =
    more (λ q. ignored_at h q) (λ q. cond (p == q) 1 0) (external_ports t) (counts t i h).ignored 1 (ignored t i h here.1) (once t p here.0.out here.0.low)
ignored t i (event.Tick s ∷ h) here = more (λ q. ignored_at h q) (λ q. 0) (external_ports t) (counts t i h).ignored 0 (ignored t i h here.1) (sum_by-zero (external_ports t)) ∙ same_or (counts t i h).ignored
ignored t i (event.Commit k ∷ h) here = more (λ q. ignored_at h q) (λ q. 0) (external_ports t) (counts t i h).ignored 0 (ignored t i h here.1) (sum_by-zero (external_ports t)) ∙ same_or (counts t i h).ignored
ignored t i (event.Refuse k x ∷ h) here = more (λ q. ignored_at h q) (λ q. 0) (external_ports t) (counts t i h).ignored 0 (ignored t i h here.1) (sum_by-zero (external_ports t)) ∙ same_or (counts t i h).ignored
ignored t i (event.Up p ∷ h) here = more (λ q. ignored_at h q) (λ q. 0) (external_ports t) (counts t i h).ignored 0 (ignored t i h here.1) (sum_by-zero (external_ports t)) ∙ same_or (counts t i h).ignored
ignored t i (event.NoUp p x ∷ h) here = more (λ q. ignored_at h q) (λ q. 0) (external_ports t) (counts t i h).ignored 0 (ignored t i h here.1) (sum_by-zero (external_ports t)) ∙ same_or (counts t i h).ignored
ignored t i (event.Settled ∷ h) here = more (λ q. ignored_at h q) (λ q. 0) (external_ports t) (counts t i h).ignored 0 (ignored t i h here.1) (sum_by-zero (external_ports t)) ∙ same_or (counts t i h).ignored

pub counts_are_the_summary : CountsAreTheSummary
counts_are_the_summary t i h here =
    record {
      arrivals = sum_by-plus (λ q. relayed_at h q) (λ q. ignored_at h q) (λ q. relayed_at h q + ignored_at h q) (λ q. refl) (external_ports t)
          ∙ ap (λ x. x + sum_by (λ q. ignored_at h q) (external_ports t)) (relayed t i h here) ∙ ap (λ x. (counts t i h).relayed + x) (ignored t i h here);
      relayed = relayed t i h here;
      ignored = ignored t i h here;
      left = sym (counts-left t i h);
    }

-- How many ports below a bridge port need a channel.
use Rattle.std.proofs.Common.{◌≡◌, ◌∙◌, ◌&&◌, ℕ, ap}
use Rattle.std.specs.Prelude.{count_by}
use Rattle.exb_model.specs.Ports.{below}
use Rattle.exb_model.specs.Tree.{Shape, is_under, is_cascade_under, cascades_under}
use Rattle.exb_model.specs.Configuration.{Bridge}
use Rattle.exb_model.specs.Refusals.{present_under}

pub cascades_are : (t : Shape) (k count n : ℕ) → n ≡ 4160 → count ≡ count_by (is_cascade_under t k) (below n) → count ≡ cascades_under t k
unfolding cascades_under
cascades_are t k count n end is = is ∙ ap (λ (m : ℕ). count_by (is_cascade_under t k) (below m)) end

pub present_are : (t : Shape) (k : ℕ) (b : Bridge) (count n : ℕ) → n ≡ 4160 → count ≡ count_by (λ q. is_under t k q && b.present q) (below n) → count ≡ present_under t k b
unfolding present_under
present_are t k b count n end is = is ∙ ap (λ (m : ℕ). count_by (λ q. is_under t k q && b.present q) (below m)) end

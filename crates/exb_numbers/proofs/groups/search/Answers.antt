use Rattle.std.proofs.Common.{rules, ℕ}
use Rattle.std.proofs.lemmas.Fn.{always_returns_same}
use Rattle.exb_numbers.specs.GroupOrder.{rank_of, compared, ranks_at}
use Rattle.exb_numbers.proofs.RisingPlaces.{found}
use Rattle.exb_numbers.proofs.groups.search.Goals as goal

pub returns : goal.returns
returns c =
    found (ranks_at c.args.sets.now) c.args.order.now (rank_of c.args.set.now) c.requires.rising c.binary_search_by.result c.binary_search_by.ensures.bound
    (c.binary_search_by.ensures.position (λ (n : ℕ). compared (ranks_at c.args.sets.now n) (rank_of c.args.set.now)) (always_returns_same _ _ _ (λ a r g called. (search rules, search rules))))

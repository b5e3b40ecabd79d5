use Rattle.std.proofs.Common.{List, ℕ, subst}
use Rattle.std.specs.Prelude.{Ok, Err}
use Rattle.std.specs.Ordering.{nat_cmp}
use Rattle.std.specs.List.Sorted.{IsBinarySearchResult}
use Rattle.exb_plan.proofs.RisingNumbers.{put_again, put_new}
use Rattle.exb_plan.proofs.rising_numbers.put_rising.Goals as goal

pub returns-in-Ok-clause-members : goal.returns-in-Ok-clause-members
returns-in-Ok-clause-members c =
    let at = subst (λ (l : List ℕ). IsBinarySearchResult (λ x. nat_cmp x c.args.number) l (Ok c.in-Ok.field-0)) c.as_slice.ensures.value c.in-Ok.ensures.position in
    (put_again c.args.numbers.now.items c.in-Ok.field-0 c.args.number c.requires at).members

pub returns-in_ok-insert-in-Err-clause-rising : goal.returns-in_ok-insert-in-Err-clause-rising
returns-in_ok-insert-in-Err-clause-rising c =
    let at = subst (λ (l : List ℕ). IsBinarySearchResult (λ x. nat_cmp x c.args.number) l (Err c.in-Err.index)) c.as_slice.ensures.value c.in-Err.ensures.position in
    (put_new c.args.numbers.now.items c.insert.new.self.items c.in-Err.index c.args.number c.requires at c.in_ok-insert-in-Err.ensures.items).rising

pub returns-in_ok-insert-in-Err-clause-members : goal.returns-in_ok-insert-in-Err-clause-members
returns-in_ok-insert-in-Err-clause-members c =
    let at = subst (λ (l : List ℕ). IsBinarySearchResult (λ x. nat_cmp x c.args.number) l (Err c.in-Err.index)) c.as_slice.ensures.value c.in-Err.ensures.position in
    (put_new c.args.numbers.now.items c.insert.new.self.items c.in-Err.index c.args.number c.requires at c.in_ok-insert-in-Err.ensures.items).members

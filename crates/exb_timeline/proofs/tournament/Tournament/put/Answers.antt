use Rattle.std.proofs.Common.{◌≡◌, ◌<◌, length, set, sym, ap, subst, ◌∙◌, arith}
use Rattle.std.specs.Prelude.{◌/◌, IfSome}
use Rattle.std.proofs.lemmas.List.{with_items_is}
use Rattle.exb_timeline.specs.Tournaments.{AreRacing, HasLeaves, HasPending, HasRacer, IsTree, at, kept}
use Rattle.exb_timeline.proofs.Racers.{all_set, kept_is, racing_put, within}
use Rattle.exb_timeline.proofs.TournamentTree.{at_is, pending_put, tree_put}
use Rattle.exb_timeline.proofs.tournament.Tournament.put.Goals as goal

pub index-racer-requires : goal.index-racer-requires
index-racer-requires c =
    let turn = c.requires.turn in
    let low = within turn.0 c.args.place turn.2.0 turn.2.1 in
    omega (arith, low, turn.1.racing.count)

pub settle-requires : goal.settle-requires
settle-requires c =
    let t = c.args.self.now in
    let r = c.index-racer.result.now in
    let v = c.unwrap_or.result in
    let turn = c.requires.turn in
    let tree = turn.1.tree in
    let has = turn.1.racing.all c.args.place turn.2.0 turn.2.1 in
    let own : at t.racers.items c.args.place ≡ r = at_is t.racers.items c.args.place r (let low = within turn.0 c.args.place turn.2.0 turn.2.1 in omega (arith, low, turn.1.racing.count)) c.index-racer.ensures in
    let low : r < length t.moments.items = subst (λ k. k < length t.moments.items) own has.low in
    let leaf = at_is t.leaves.items r c.index.result.now (omega (arith, tree.count, low)) c.index.ensures in
    let done = pending_put t.moments.items t.leaves.items t.firsts.items tree r v low in
    record {
      pending = subst (λ ms. HasPending ms c.as_mut_slice.result.now (c.index.result.now / 2)) (sym c.as_slice.ensures.value)
          (subst (λ fs. HasPending (set t.moments.items r v) fs (c.index.result.now / 2)) (sym c.as_mut_slice.ensures.value)
          (subst (λ n. HasPending (set t.moments.items r v) t.firsts.items (n / 2)) leaf done));
    }

pub returns : goal.returns
returns c = λ moments are.
    let t = c.args.self.now in
    let p = c.args.place in
    let r = c.index-racer.result.now in
    let v = c.unwrap_or.result in
    let turn = c.requires.turn in
    let has : HasRacer t.moments.items t.places.items t.racers.items p = turn.1.racing.all p turn.2.0 turn.2.1 in
    let own : at t.racers.items p ≡ r = at_is t.racers.items p r (let low = within turn.0 p turn.2.0 turn.2.1 in omega (arith, low, turn.1.racing.count)) c.index-racer.ensures in
    let low : r < length t.moments.items = subst (λ k. k < length t.moments.items) own has.low in
    let ms = set t.moments.items r v in
    let done = c.settle.new.firsts in
    let settled : HasPending ms done 0 = subst (λ xs. HasPending xs done 0) c.as_slice.ensures.value c.settle.ensures.settled in
    let leaves : HasLeaves (length ms) t.firsts.items done =
    subst (λ fs. HasLeaves (length ms) fs done) c.as_mut_slice.ensures.value (subst (λ xs. HasLeaves (length xs) c.as_mut_slice.result.now done) c.as_slice.ensures.value c.settle.ensures.leaves) in
    let same : set t.moments.items (at t.racers.items p) (kept c.args.moment) ≡ ms =
    ap (λ k. set t.moments.items k (kept c.args.moment)) own ∙ ap (λ x. set t.moments.items r x) (sym (c.unwrap_or.ensures ∙ kept_is c.args.moment)) in
    record {
      racing = subst (λ xs. AreRacing (set moments p c.args.moment) xs t.places.items t.racers.items) same
          (racing_put moments t.moments.items t.places.items t.racers.items are.racing p c.args.moment has);
      small = all_set (λ o. IfSome o (λ m. m < 18446744073709551615)) moments p c.args.moment c.requires.small are.small;
      tree = subst (λ fs. IsTree ms t.leaves.items fs) (sym (with_items_is t.firsts done (leaves.count ∙ sym t.firsts.ok.0)))
          (tree_put t.moments.items t.leaves.items t.firsts.items are.tree r v low done settled leaves);
    }

use Rattle.std.proofs.Common.{◌≡◌, ◌∷◌, ◌++◌, [], length, set, sym, ap, subst, ◌∙◌}
use Rattle.std.specs.Prelude.{◌+◌, ◌*◌, ◌<◌, Some, None, IfSome}
use Rattle.std.specs.Vec.{with_item}
use Rattle.std.proofs.lemmas.List.{with_items_is}
use Rattle.exb_timeline.specs.Tournaments.{AreRacing, HasLeaves, HasPending, IsTree}
use Rattle.exb_timeline.proofs.ListPlaces.{all_join}
use Rattle.exb_timeline.proofs.Racers.{racing_none, racing_some}
use Rattle.exb_timeline.proofs.TournamentTree.{pending_grown, tree_grown}
use Rattle.exb_timeline.proofs.tournament.Tournament.add.Goals as goal

pub returns-in_default : goal.returns-in_default
returns-in_default c = λ moments are.
    let t = c.args.self.now in
    record {
      racing = subst (λ o. AreRacing (moments ++ o ∷ []) t.moments.items t.places.items c.push.new.self.items) (sym c.in_default.is)
          (subst (AreRacing (moments ++ None ∷ []) t.moments.items t.places.items) (sym c.in_ok-push.ensures.items)
          (racing_none moments t.moments.items t.places.items t.racers.items are.racing c.len-racer.result));
      small = all_join (λ o. IfSome o (λ m. m < 18446744073709551615)) moments (c.args.moment ∷ []) are.small (c.requires.small, tt);
      tree = are.tree;
    }

pub settle-requires : goal.settle-requires
settle-requires c =
    let t = c.args.self.now in
    let racer = c.len-racer.result in
    let done = pending_grown t.moments.items t.leaves.items t.firsts.items c.requires.turns.1.tree c.in-Some.moment racer c.index-beside.result.now (c.len-racer.ensures ∙ t.moments.ok.0) c.add_racer.new.moments.items
    c.add_racer.new.leaves.items c.add_racer.new.firsts.items c.in_ok-add_racer.ensures.moments c.in_ok-add_racer.ensures.leaves c.in_ok-add_racer.ensures.firsts c.index-beside.ensures in
    record {
      pending = subst (λ ms. HasPending ms c.as_mut_slice.result.now racer) (sym c.as_slice.ensures.value)
          (subst (λ fs. HasPending c.add_racer.new.moments.items fs racer) (sym c.as_mut_slice.ensures.value) done);
    }

pub returns : goal.returns
returns c = λ moments are.
    let t = c.args.self.now in
    let place = c.len-place.result in
    let racer = c.len-racer.result in
    let m = c.in-Some.moment in
    let beside = c.index-beside.result.now in
    let ms = c.add_racer.new.moments.items in
    let done = c.settle.new.firsts in
    let was = c.as_mut_slice.result.now in
    let settled : HasPending ms done 0 = subst (λ xs. HasPending xs done 0) c.as_slice.ensures.value c.settle.ensures.settled in
    let leaves : HasLeaves (length ms) was done = subst (λ xs. HasLeaves (length xs) was done) c.as_slice.ensures.value c.settle.ensures.leaves in
    let place_is : place ≡ length t.racers.items = c.len-place.ensures ∙ t.racers.ok.0 in
    let racer_is : racer ≡ length t.moments.items = c.len-racer.ensures ∙ t.moments.ok.0 in
    let more = racing_some moments t.moments.items t.places.items t.racers.items are.racing m in
    record {
      racing = subst (λ o. AreRacing (moments ++ o ∷ []) ms c.push-2.new.self.items c.push.new.self.items) (sym c.in-Some.is)
          (subst (λ xs. AreRacing (moments ++ Some m ∷ []) xs c.push-2.new.self.items c.push.new.self.items) (sym c.in_ok-add_racer.ensures.moments)
          (subst (λ xs. AreRacing (moments ++ Some m ∷ []) (t.moments.items ++ m ∷ []) xs c.push.new.self.items) (sym (c.in_ok-push-2.ensures.items ∙ ap (λ k. t.places.items ++ k ∷ []) place_is))
          (subst (AreRacing (moments ++ Some m ∷ []) (t.moments.items ++ m ∷ []) (t.places.items ++ length t.racers.items ∷ []))
          (sym (c.in_ok-push.ensures.items ∙ ap (λ k. t.racers.items ++ k ∷ []) racer_is)) more)));
      small = all_join (λ o. IfSome o (λ m. m < 18446744073709551615)) moments (c.args.moment ∷ []) are.small (c.requires.small, tt);
      tree = subst (λ fs. IsTree ms (set (set c.add_racer.new.leaves.items beside (2 * racer)) racer (2 * racer + 1)) fs)
          (sym (with_items_is (with_item c.add_racer.new.firsts (2 * racer) beside) done (leaves.count ∙ c.as_mut_slice.ensures.len)))
          (tree_grown t.moments.items t.leaves.items t.firsts.items are.tree m racer beside racer_is ms c.add_racer.new.leaves.items c.add_racer.new.firsts.items c.in_ok-add_racer.ensures.moments
          c.in_ok-add_racer.ensures.leaves c.in_ok-add_racer.ensures.firsts c.index-beside.ensures was done c.as_mut_slice.ensures.value settled leaves);
    }

use Rattle.std.proofs.Common.{◌≡◌, [], ◌∷◌, ◌++◌, length, map, sym, ap, subst, ◌∙◌, arith, length-append}
use Rattle.std.specs.List.{AllByRecursion}
use Rattle.std.proofs.lemmas.List.{length-map, map-append}
use Rattle.std.proofs.lemmas.Result.{on_ok_weaker}
use Rattle.exb_timeline.specs.declared.net_timeline.TimelineEntry.{TimelineEntry}
use Rattle.exb_timeline.specs.NetMergeOrder.{IsSeated, ReadApart, turn_in}
use Rattle.exb_timeline.specs.Tournaments.{AreTurns}
use Rattle.exb_timeline.proofs.NetIds.{apart_more}
use Rattle.exb_timeline.proofs.NetSteps.{own}
use Rattle.exb_timeline.proofs.ListPlaces.{all_join}
use Rattle.exb_timeline.proofs.ListTurns.{turns_more}
use Rattle.exb_timeline.proofs.net_timeline.NetTimeline.add.Goals as goal

pub add-requires-clause-turns : goal.add-requires-clause-turns
add-requires-clause-turns c = (map turn_in c.args.self.now.seats.items, c.requires.room.1.turns)

pub returns-clause-agenda : goal.returns-clause-agenda
returns-clause-agenda c =
    let a = c.args.self.now in
    let ss = a.seats.items in
    let s : TimelineEntry = record { programme = c.args.programme; turn = c.turn-turn.result } in
    let items : c.push.new.self.items ≡ ss ++ s ∷ [] = c.in_ok-push.ensures.items in
    on_ok_weaker c.add.result
    (λ added given ids old new all programme. record {
      each = subst (AllByRecursion (IsSeated ids)) (sym items) (all_join (IsSeated ids) ss (s ∷ []) all.each (record { programme = programme; turn = c.turn-turn.ensures.turn; small = c.turn-turn.ensures.small }, tt));
      apart = subst (λ ys. ReadApart (map own ys)) (sym items) (subst ReadApart (sym (map-append own ss (s ∷ []))) (apart_more given (map own ss) c.args.programme old new all.apart));
      turns = subst (λ ys. AreTurns (map turn_in ys) c.add.new.self) (sym items) (turns_more turn_in ss s c.add.new.self (added (map turn_in ss) all.turns));
      few = (let long = ap length items in omega (arith, long, length-append ss (s ∷ []), length-map ss own, c.requires.few));
    })
    c.add.ensures

pub returns-clause-programmes : goal.returns-clause-programmes
returns-clause-programmes c =
    let ss = c.args.self.now.seats.items in
    let s : TimelineEntry = record { programme = c.args.programme; turn = c.turn-turn.result } in
    let items : c.push.new.self.items ≡ ss ++ s ∷ [] = c.in_ok-push.ensures.items in
    on_ok_weaker c.add.result (λ added. ap (map own) items ∙ map-append own ss (s ∷ [])) c.add.ensures

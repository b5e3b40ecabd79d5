use Rattle.std.proofs.Common.{◌^◌, ◌∙◌}
use Rattle.exb_net.proofs.ListPlaces.{falls_then, stay_few}
use Rattle.exb_net.proofs.net.play_arrival.Goals as goal

pub begin-requires-clause-can : goal.begin-requires-clause-can
begin-requires-clause-can g c = let t = c.requires.can in (t.0, (t.1.0, (t.1.1.0, t.1.1.1.0)))

pub deliver_all-requires-clause-turn : goal.deliver_all-requires-clause-turn
deliver_all-requires-clause-turn g c =
    let t = c.requires.can in
    let b = c.in_ok-begin.ensures.ok t.0 t.1.0 t.1.1.0 t.1.1.1.0 in
    (record { net = t.0; bridge = c.args.bridge; arrival = c.args.arrival.now; dones = t.1.0; told = t.1.1.0; given = b.given }, (b.turn, (b.delivered, t.1.1.1.1)))

pub deliver_all-requires-clause-few : goal.deliver_all-requires-clause-few
deliver_all-requires-clause-few g c = stay_few (λ x. (goal.Fate-dyn g (x.fate.vtable, x.fate.value)).left x.fate.value) (2 ^ 57) c.args.nodes.now.items c.begin.new.nodes.items c.requires.few c.in_ok-begin.ensures.fates

pub returns-clause-ok : goal.returns-clause-ok
returns-clause-ok g c = λ n s told k e.
    (let b = c.in_ok-begin.ensures.ok n s told k in
    c.in_ok-touched.ensures.ok (record { net = n; bridge = c.args.bridge; arrival = c.args.arrival.now; dones = s; told = told; given = b.given }) b.turn b.delivered e)

pub returns-clause-others : goal.returns-clause-others
returns-clause-others g c = record { each = λ b none. (let apart = c.mark.ensures b none in c.in_ok-touched.ensures.others.each b apart.0 ∙ c.begin.ensures.others b apart.1) }

pub returns-clause-fates : goal.returns-clause-fates
returns-clause-fates g c = falls_then (λ x. (goal.Fate-dyn g (x.fate.vtable, x.fate.value)).left x.fate.value) c.args.nodes.now.items c.begin.new.nodes.items c.deliver_all.new.nodes.items c.in_ok-begin.ensures.fates c.in_ok-touched.ensures.fates

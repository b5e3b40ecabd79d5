use Rattle.std.proofs.Common.{ap, subst, ◌+◌, ◌<◌, ◌^◌, arith}
use Rattle.std.proofs.lemmas.Result.{on_ok_weaker}
use Rattle.exb_inputs.proofs.Outcomes.{on_ok_by}
use Rattle.exb_net.specs.NetInvariants.{came_by}
use Rattle.exb_net.proofs.EventSteps.{bridge-low, can-arrive, can-order, gives-command, gives-record, is-placed, letters-given, letters-here, letters-none, number-high, place-low, record-free, rest-low}
use Rattle.exb_net.proofs.net_player.give.Goals as goal

-- ---- a record
pub arrive-given-requires : goal.arrive-given-requires
arrive-given-requires g c =
    let (n, (s, (told, can))) = c.requires.can in
    let rests = c.args.rests.now in
    let d = c.args.due in
    let x = c.args.net.now in
    record {
      opened = λ awake. (n, (s, (told, (can.playing, record-free n s told rests d x can c.in-Record.came _ c.in-Record.is c.in-Record.came-is))));
      here = bridge-low n s told rests d x can;
      can = can-arrive n s told rests d x can c.in-Record.came _ c.in-Record.is c.in-Record.came-is;
      few = can.came;
      fates = c.requires.fates;
    }

pub returns-in-Record : goal.returns-in-Record
returns-in-Record g c =
    let rests = c.args.rests.now in
    let d = c.args.due in
    let x = c.args.net.now in
    let y = c.arrive-given.new.self in
    record {
      ok = on_ok_by c.arrive-given.result (λ get n s told can. gives-record n s told rests d x can y c.in-Record.came _ c.in-Record.is c.in-Record.came-is (get _ c.arrive-given.ensures.ok));
      came = on_ok_weaker c.arrive-given.result (λ one. (let by = ap came_by c.in-Record.is in omega (arith, one, by))) c.arrive-given.ensures.came;
      fates = on_ok_weaker c.arrive-given.result (letters-none rests d (λ z. (goal.Fate-dyn g (z.fate.vtable, z.fate.value)).left z.fate.value) x.nodes.items y.nodes.items) c.arrive-given.ensures.fates;
    }

-- ---- a command
pub bounds-rests-bridge : goal.bounds-rests-bridge
bounds-rests-bridge g c = (let (n, (s, (told, can))) = c.requires.can in rest-low n s told c.args.rests.now c.args.due c.args.net.now can)

pub overflow_sub-number : goal.overflow_sub-number
overflow_sub-number g c = (let (n, (s, (told, can))) = c.requires.can in number-high n s told c.args.rests.now c.args.due c.args.net.now can c.in-Command.number c.in-Command.moment c.in-Command.is)

pub bounds-commands-number : goal.bounds-commands-number
bounds-commands-number g c =
    let (n, (s, (told, can))) = c.requires.can in
    place-low n s told c.args.rests.now c.args.due c.args.net.now can c.in-Command.number c.in-Command.moment c.in-Command.is c.index-rests-bridge.result c.as_slice-commands.result.now c.index-rests-bridge.is c.as_slice-commands.ensures

pub command-requires : goal.command-requires
command-requires g c =
    let (n, (s, (told, can))) = c.requires.can in
    let rests = c.args.rests.now in
    let d = c.args.due in
    let x = c.args.net.now in
    let rest = c.index-rests-bridge.result in
    let timed = c.index-commands-number.result in
    let number = c.in-Command.number in
    let moment = c.in-Command.moment in
    let p = is-placed n s told rests d x can number moment c.in-Command.is rest c.as_slice-commands.result.now c.index-rests-bridge.is c.as_slice-commands.ensures timed c.index-commands-number.is in
    record {
      opened = λ awake. (n, (s, (told, can.playing)));
      here = bridge-low n s told rests d x can;
      can = can-order n s told rests d x can number moment c.in-Command.is rest timed p;
      fate = λ z is. subst (λ k. (goal.Fate-dyn g (z.fate.vtable, z.fate.value)).left z.fate.value + k < 2 ^ 57) (letters-here rests d number moment c.in-Command.is rest timed p) (c.requires.pays z is);
    }

pub returns-in-Command : goal.returns-in-Command
returns-in-Command g c =
    let (n, (s, (told, can))) = c.requires.can in
    let rests = c.args.rests.now in
    let d = c.args.due in
    let x = c.args.net.now in
    let y = c.command.new.self in
    let rest = c.index-rests-bridge.result in
    let timed = c.index-commands-number.result in
    let number = c.in-Command.number in
    let moment = c.in-Command.moment in
    let p = is-placed n s told rests d x can number moment c.in-Command.is rest c.as_slice-commands.result.now c.index-rests-bridge.is c.as_slice-commands.ensures timed c.index-commands-number.is in
    record {
      ok = on_ok_by c.command.result (λ get n s told can. gives-command n s told rests d x can number moment c.in-Command.is rest timed p y (get _ c.command.ensures.ok));
      came = on_ok_weaker c.command.result (λ none. (let by = ap came_by c.in-Command.is in omega (arith, none, by))) c.command.ensures.came;
      fates = on_ok_weaker c.command.result (letters-given rests d number moment c.in-Command.is rest timed p (λ z. (goal.Fate-dyn g (z.fate.vtable, z.fate.value)).left z.fate.value) x.nodes.items y.nodes.items) c.command.ensures.fates;
    }

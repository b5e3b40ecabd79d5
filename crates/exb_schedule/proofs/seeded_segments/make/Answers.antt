use Rattle.std.proofs.Common.{arith}
use Rattle.std.proofs.lemmas.Result.{on_ok_weaker}
use Rattle.exb_schedule.proofs.SeededSegments.{keeps_on, on_ok_any}
use Rattle.exb_schedule.proofs.seeded_segments.make.Goals as goal

pub returns-in-Tick : goal.returns-in-Tick
returns-in-Tick g c = record {
  ok = c.pass.ensures.ok c.args.commands.now c.args.arrivals.now;
  failed = c.pass.ensures.failed;
  fate = on_ok_any c.pass.result (rw c.pass.ensures.taken (omega arith));
  low = omega arith;
}

pub returns-in-Arrival : goal.returns-in-Arrival
returns-in-Arrival g c = record {
  ok = c.come_next.ensures.ok c.args.commands.now;
  failed = c.come_next.ensures.failed;
  fate = on_ok_weaker c.come_next.result (λ taken. rw taken (omega arith)) c.come_next.ensures.taken;
  low = omega arith;
}

pub returns-in-Data : goal.returns-in-Data
returns-in-Data g c = record {
  ok = keeps_on c.take_data.result c.args.commands.now c.args.arrivals.now c.args.rest.now c.args.world.now c.take_data.new.world c.take_data.ensures.ok;
  failed = c.take_data.ensures.failed;
  fate = on_ok_any c.take_data.result (omega arith);
  low = omega arith;
}

pub returns-in-Control : goal.returns-in-Control
returns-in-Control g c =
    let fate = c.ask_fate.ensures.fate in
    record {
      ok = keeps_on c.ask_fate.result c.args.commands.now c.args.arrivals.now c.args.rest.now c.args.world.now c.ask_fate.new.world c.ask_fate.ensures.ok;
      failed = c.ask_fate.ensures.failed;
      fate = on_ok_any c.ask_fate.result (omega (arith, fate));
      low = omega (arith, fate);
    }

pub returns-in-Beat : goal.returns-in-Beat
returns-in-Beat g c = record {
  ok = keeps_on c.beat_once.result c.args.commands.now c.args.arrivals.now c.args.rest.now c.args.world.now c.beat_once.new.world c.beat_once.ensures.ok;
  failed = c.beat_once.ensures.failed;
  fate = on_ok_any c.beat_once.result (omega arith);
  low = omega arith;
}

pub returns-then-rest-commands : goal.returns-then-rest-commands
returns-then-rest-commands g c =
    let fate = c.command.ensures.fate in
    record {
      ok = c.command.ensures.ok c.args.arrivals.now;
      failed = c.command.ensures.failed;
      fate = on_ok_weaker c.command.result (λ taken. rw taken fate) c.command.ensures.taken;
      low = omega (arith, fate);
    }

pub returns-else-rest-commands : goal.returns-else-rest-commands
returns-else-rest-commands g c = record { ok = λ all old drawn. drawn; failed = λ e. absurd (cc); fate = omega arith; low = omega arith }

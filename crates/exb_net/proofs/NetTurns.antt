-- One turn of a net: seconds pass, and what comes is given.
use Rattle.std.proofs.Common.{◌≡◌, ℕ, ◌≤◌, List, length, arith}
use Rattle.exb_shelf.specs.Files.{Files}
use Rattle.exb_shelf.specs.Shelf.{Id}
use Rattle.exb_timeline.specs.declared.net_timeline.NetNext.{NetNext}
use Rattle.exb_timeline.specs.declared.bridge_timeline.Timeline.{Timeline}
use Rattle.exb_timeline.specs.NetMergeOrder.{due_of}
use Rattle.exb_net_file.specs.declared.net_parts.BridgeInputs.{BridgeInputs}
use Rattle.exb_net_laws.specs.Deliveries.{HavePassed, SecondsPass}
use Rattle.exb_net_laws.specs.NetRuns.{Dones, PlaysOne, pass}
use Rattle.exb_net_laws.specs.EventCounts.{AreOneMore, EventsAddOne}
use Rattle.exb_net.specs.declared.net.Net.{Net as Bridges}
use Rattle.exb_net.specs.NetStates.{Handled, IsPlaying, Passes}
use Rattle.exb_net.specs.declared.net_player.NetPlayer.{NetPlayer}
use Rattle.exb_net.specs.NetInvariants.{AreOfRests, CanGive, IsDue, NetRun}
use Rattle.exb_net.proofs.TimelineSteps.{can-give, here, plays-one}

-- what the bridges did then, of which what was told before is cleared
pub record HasTurned {V : Type 0} {X : V → Type 0} (r : NetRun) (seconds : ℕ) (d : NetNext) (told : Dones) (y : Bridges V X) : Type 0 where
  pub e : Dones
  pub one : PlaysOne r.net seconds (due_of d) told e
  pub more : AreOneMore r.net seconds (due_of d) told e
  pub playing : IsPlaying r.net e told y

module _ {V : Type 0} {X : V → Type 0} (tells : Type 0) (r : NetRun) (now : Files) (ids : ℕ → Id) (seconds second : ℕ) (g : NetPlayer V X) (d : NetNext) (ps : List Timeline) (p : IsDue tells r now ids seconds second g d ps) (rests : List BridgeInputs) (of : AreOfRests rests ps)
    (x : Bridges V X) (passes : Passes r.net seconds p.going.dones p.going.dones x) (law : SecondsPass) where
  passed : HavePassed r.net p.going.dones (pass r.net seconds p.going.dones)
  passed = (let is = p.going.is.playing in law r.net seconds p.going.dones is.net is.vids is.run passes.may)

  pub can-turn : x.came ≡ g.net.came → CanGive r.net (pass r.net seconds p.going.dones) p.going.dones rests d x
  can-turn came = can-give tells r now ids seconds second g d ps p rests of x passes passed came

  pub has-turned : (y : Bridges V X) → EventsAddOne → x.came ≡ g.net.came → ((can : CanGive r.net (pass r.net seconds p.going.dones) p.going.dones rests d x) → Handled r.net d.bridge can.step (pass r.net seconds p.going.dones) p.going.dones y) →
      HasTurned r seconds d p.going.dones y
  has-turned y one came handles =
      let can = can-turn came in
      let h = handles can in
      let plays = plays-one tells r now ids seconds second g d ps p rests of x passes passed can y h in
      let is = p.going.is.playing in
      record { e = h.end.dones; one = plays; more = one r.net seconds (due_of d) p.going.dones h.end.dones is.net is.vids is.run (here tells r now ids seconds second g d ps p) plays; playing = h.playing }

  pub nodes-few : length x.nodes.items ≤ length ps
  nodes-few = (let all = passes.playing.holds.count in let same = p.comes.count in let old = p.going.goes.count in omega (arith, all, same, old))

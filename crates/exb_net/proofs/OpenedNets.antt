-- A net that is opened: what its bridges told can be noted, and then it goes on.
use Rattle.std.proofs.Common.{◌≡◌, ℕ, ◌<◌, List, [], length, All, Some, None, refl, ap, sym, subst, ◌∙◌, arith, inl, inr}
use Rattle.std.specs.Prelude.{slice_get}
use Rattle.std.proofs.lemmas.Option.{slice_get_within}
use Rattle.exb_world_spec.specs.Worlds.{Left, left_at}
use Rattle.exb_shelf.specs.Files.{Files}
use Rattle.exb_shelf.specs.Shelf.{Id}
use Rattle.exb_timeline.specs.declared.bridge_timeline.Timeline.{Timeline}
use Rattle.exb_timeline.specs.NetMergeOrder.{all_to_play, dues_left}
use Rattle.exb_net_laws.specs.Deliveries.{HaveBegun, OpenedNetsRun}
use Rattle.exb_net_laws.specs.EventCounts.{IsNew, OpenedNetsAreNew}
use Rattle.exb_net.specs.declared.net.Net.{Net as Bridges}
use Rattle.exb_net.specs.NetStates.{IsPlaying, Opens, no_dones}
use Rattle.exb_outputs.specs.Manifests.{Listed}
use Rattle.exb_outputs.proofs.PortCounts.{none_together}
use Rattle.exb_net.specs.declared.net_player.NetPlayer.{NetPlayer}
use Rattle.exb_net.specs.WrittenOutputs.{AllGoTogether, AreAllFronts, AreMore, AreNoted, AreReady, CanNoteAll, OnlyAllListed, OnlyWritesAll, manifests_in}
use Rattle.exb_net.specs.NetInvariants.{CanBegin, GoesOn, IsCutOff, IsFew, IsGoing, IsLow, NetRun}
use Rattle.exb_net.proofs.OutputBounds.{can-note}
use Rattle.exb_net.proofs.NetSteps.{ToldStays, fronts_of, leads_stay, others_kept}
use Rattle.exb_net.proofs.OutputsApart.{manifest_at, manifests-long}

module _ {V : Type 0} {X : V → Type 0} (tells : Type 0) (r : NetRun) (now : Files) (ids : ℕ → Id) (g : NetPlayer V X) (ps : List Timeline) (begin : CanBegin tells r now ids g ps) (x : Bridges V X) (o : Opens r.net x) (came : x.came ≡ g.net.came)
    (new : OpenedNetsAreNew) (runs : OpenedNetsRun) where
  is-new : (b : ℕ) → b < r.net.count → IsNew (o.dones b)
  is-new b low = new r.net o.dones begin.begun.net begin.begun.vids o.opened b low

  has-begun : HaveBegun r.net o.dones
  has-begun = runs r.net o.dones begin.begun.net begin.begun.vids o.opened

  none-came : x.came ≡ 0
  none-came = came ∙ begin.begun.none

  few-now : (b : ℕ) → b < r.net.count → (k : ℕ) → IsFew r.net b k 0 (o.dones b)
  few-now b low k =
      let own = is-new b low in
      record {
        entered = (let none = own.entered in omega (arith, none));
        decided = (let none = own.decided in omega (arith, none));
        left = subst (λ (xs : List Left). All (IsLow r.net b) xs) (sym own.left) (λ i d h. absurd (omega (arith, h)));
        left_each = λ q. (let none = ap (λ (xs : List Left). length (left_at q xs)) own.left in omega (arith, none));
      }

  low-at : (b : ℕ) (q : Timeline) → slice_get ps b ≡ Some q → b < r.net.count
  low-at b q is = (let low = slice_get_within ps b q is in let all = begin.begins.count in omega (arith, low, all))

  goes : GoesOn r.net [] x.came o.dones None ps
  goes = record {
    count = begin.begins.count;
    start = begin.begins.start;
    here = tt;
    last_due = refl;
    order = tt;
    each = λ b q is.
        let at = begin.begins.each b q is in
        let low = low-at b q is in
        let own = is-new b low in
        record {
          start_is = at.start_is;
          given = at.given;
          names = at.names;
          few_commands = at.few_commands;
          within = (let none = at.taken in omega (arith, none));
          free = at.free;
          taken = own.given ∙ sym at.taken;
          next = λ k unwired. has-begun.next b k low ∙ sym (at.next k);
          since = own.clock;
        };
    taken = λ b q is. sym (begin.begins.each b q is).taken;
    few = λ b q is. subst (λ (k : ℕ). IsFew r.net b x.came k (o.dones b)) (sym (begin.begins.each b q is).taken) (few-now b (low-at b q is) x.came);
    few_bytes = (let bytes = begin.begins.few_bytes in let none = none-came in omega (arith, bytes, none));
    last_is = tt;
  }

  pub opened-more : AreMore (no_dones r.net) o.dones x.nodes.items
  opened-more = record { each = λ b y is. (let at = o.playing.holds.at b y is in record { events = at.events; passed = at.passed; left = at.left }) }

  pub opened-together : AllGoTogether (no_dones r.net) x.nodes.items
  opened-together = record { each = λ b y is. none_together }

  pub opened-can : CanNoteAll g.desks.items x.nodes.items
  opened-can = record {
    whole = desks-long ∙ sym o.playing.holds.count;
    few = (let long = desks-long in let most = begin.desks.bridges in omega (arith, long, most));
    each = λ b k y desk node.
        let low = slice_get_within g.desks.items b k desk in
        let long = desks-long in
        let manifest : slice_get r.manifests b ≡ Some k.manifest = ap (λ (qs : List Listed). slice_get qs b) (sym begin.desks.manifests) ∙ manifest_at g.desks.items b k desk in
        let own = begin.desks.each b k.manifest manifest in
        let noted = begin.noted.each b k desk in
        can-note r.net b 0 0 k.manifest own.0 own.2 k.counted (no_dones r.net b) (o.dones b) y.world (opened-more.each b y node) (few-now b (omega (arith, low, long)) 0) (omega arith) (omega arith)
        noted.counted none_together;
  }
    where
      desks-long : length g.desks.items ≡ r.net.count
      desks-long = sym (manifests-long g.desks.items) ∙ ap (λ (qs : List Listed). length qs) begin.desks.manifests ∙ begin.desks.whole

  pub opened-going : ToldStays → (y : NetPlayer V X) (file : Files) (given : ℕ → Id) → IsPlaying r.net o.dones o.dones y.net → AreReady given y.desks.items → AreNoted tells file y.desks.items o.dones → manifests_in y.desks.items ≡ manifests_in g.desks.items →
      y.net.came ≡ x.came → OnlyWritesAll tells (manifests_in g.desks.items) now file ids given → IsGoing tells r file given None y ps
  opened-going law y file given playing ready noted manifests same only =
      let was = begin.desks in
      let others : tells → OnlyAllListed r.manifests now file = λ t. subst (λ (qs : List Listed). OnlyAllListed qs now file) was.manifests (only.others t) in
      record {
        ds = [];
        dones = o.dones;
        is = record {
          timely = begin.timely;
          start = o.dones;
          opened = o.opened;
          plays = refl;
          playing = playing;
          desks = record {
            ready = ready;
            manifests = manifests ∙ was.manifests;
            apart = was.apart;
            whole = was.whole;
            bridges = was.bridges;
            each = was.each;
            ports = was.ports;
            files = λ t m other. others t m other ∙ was.files t m other;
          };
          noted = noted;
        };
        goes = subst (λ (k : ℕ). GoesOn r.net [] k o.dones None ps) (sym same) goes;
        apart = others_kept r.manifests ids given ps only.kept begin.apart;
        leads = λ t. leads_stay law r.net r.manifests [] now file ids given ps (others t) only.kept begin.apart (begin.leads t);
      }

  -- or it was cut off
  pub opened-cut : tells → (file : Files) → AreAllFronts (manifests_in g.desks.items) file o.dones → OnlyAllListed (manifests_in g.desks.items) now file → IsCutOff r file
  opened-cut t file fronts only =
      let was = begin.desks in
      let led = begin.leads t in
      inr (record {
        ds = [];
        rest = dues_left (all_to_play led.streams ps);
        dues_are = led.rest;
        here = tt;
        order = tt;
        start = o.dones;
        dones = o.dones;
        opened = o.opened;
        plays = refl;
        vids = begin.begun.vids;
        others = λ m other. subst (λ (qs : List Listed). OnlyAllListed qs now file) was.manifests only m other ∙ was.files t m other;
        fronts = subst (λ (qs : List Listed). AreAllFronts qs file o.dones) was.manifests fronts;
      })

-- before it is opened
pub unopened-cut : {V : Type 0} {X : V → Type 0} (tells : Type 0) (r : NetRun) (now : Files) (ids : ℕ → Id) (g : NetPlayer V X) (ps : List Timeline) → tells → CanBegin tells r now ids g ps → IsCutOff r now
unopened-cut tells r now ids g ps t begin =
    inl (record {
      others = begin.desks.files t;
      fronts = subst (λ (qs : List Listed). AreAllFronts qs now (no_dones r.net)) begin.desks.manifests (fronts_of now g.desks.items (no_dones r.net) (λ b k is. (begin.noted.each b k is).texts t));
    })

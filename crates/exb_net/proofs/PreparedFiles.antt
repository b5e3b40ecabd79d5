-- What was prepared stays so while captures are opened to be read; and where nothing was played the files hold fronts.
use Rattle.std.proofs.Common.{ℕ, List, [], ap, ◌∙◌, subst, inl}
use Rattle.std.specs.Prelude.{slice_get}
use Rattle.exb_timeline.specs.declared.bridge_timeline.Timeline.{Timeline}
use Rattle.exb_net_spec.specs.InputOrder.{AreTimely}
use Rattle.exb_net.specs.declared.net.Net.{Net as Bridges}
use Rattle.exb_net.specs.NetStates.{IsBegun, no_dones}
use Rattle.exb_outputs.specs.Manifests.{Listed, output_name}
use Rattle.exb_shelf.specs.Files.{Files, SameFiles}
use Rattle.exb_shelf.specs.Shelf.{Id, Opens}
use Rattle.exb_net_laws.specs.NetRuns.{Dones}
use Rattle.exb_net.specs.declared.bridge_outputs.BridgeOutputs.{BridgeOutputs}
use Rattle.exb_net.specs.declared.net_player.NetPlayer.{NetPlayer}
use Rattle.exb_net.specs.WrittenOutputs.{AreFronts, AreNoted}
use Rattle.exb_net.specs.Preparation.{CanPlay}
use Rattle.exb_net.specs.NetInvariants.{AreDesks, Begins, CanBegin, IsCutOff, LeadsOn, NetRun, ReadsOthers}
use Rattle.exb_net.proofs.OutputsApart.{desk_at, noted_stays, now_fronts}
use Rattle.exb_net.proofs.ManifestsApart.{ready_beside}

module _ (tells : Type 0) (r : NetRun) (f g : Files) (given ids : ℕ → Id) (desks : List BridgeOutputs) (P : Id → Type 0) (same : SameFiles f g) (opens : Opens P given ids) where
  pub desks_stay : AreDesks tells r f given desks → AreDesks tells r g ids desks
  desks_stay d =
      record {
        ready = record { each = λ b x is. ready_beside P x.manifest given ids x.outputs opens (d.ready.each b x is) };
        manifests = d.manifests;
        apart = d.apart;
        whole = d.whole;
        bridges = d.bridges;
        each = d.each;
        ports = d.ports;
        files = λ t m away. same m ∙ d.files t m away;
      }

  pub noted_same : (dones : Dones) → AreNoted tells f desks dones → AreNoted tells g desks dones
  noted_same dones n = record { each = λ b x is. noted_stays tells f g x (dones b) (λ t j low. same (output_name x.manifest j)) (n.each b x is) }

  pub can_play : {V : Type 0} {X : V → Type 0} (x : Bridges V X) (ps : List Timeline) → AreTimely r.net → IsBegun r.net x → AreDesks tells r f given desks → AreNoted tells f desks (no_dones r.net) → Begins r.net ps → ReadsOthers r.manifests ids ps →
      (tells → LeadsOn r.net [] g ids ps) → CanPlay tells r g ids x desks ps
  can_play x ps timely begun set noted begins apart leads =
      record { timely = timely; begun = begun; set = desks_stay set; noted = noted_same (no_dones r.net) noted; begins = begins; apart = apart; leads = leads }

pub can_begin : {V : Type 0} {X : V → Type 0} (tells : Type 0) (r : NetRun) (now : Files) (ids : ℕ → Id) (g : NetPlayer V X) (ps : List Timeline) → CanPlay tells r now ids g.net g.desks.items ps → CanBegin tells r now ids g ps
can_begin tells r now ids g ps c = record { timely = c.timely; begun = c.begun; desks = c.set; noted = c.noted; begins = c.begins; apart = c.apart; leads = c.leads }

-- nothing was played
pub cut_unopened : (tells : Type 0) (r : NetRun) (now : Files) (given : ℕ → Id) (desks : List BridgeOutputs) → tells → AreDesks tells r now given desks → AreNoted tells now desks (no_dones r.net) → IsCutOff r now
cut_unopened tells r now given desks t set noted =
    inl (record {
      others = set.files t;
      fronts = record {
        each = λ b p is.
            (let d = desk_at desks b p (ap (λ (ps : List Listed). slice_get ps b) set.manifests ∙ is) in
            subst (λ (z : Listed). AreFronts z now (no_dones r.net b)) d.2 (now_fronts now d.0 (no_dones r.net b) ((noted.each b d.0 d.1).texts t)));
      };
    })

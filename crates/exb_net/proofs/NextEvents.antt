-- What comes next of the programmes of all bridges: how the net stands before it.
use Rattle.std.proofs.Common.{◌≡◌, ◌≢◌, ℕ, zero, suc, ◌+◌, ◌-◌, ◌^◌, ◌<◌, ◌≤◌, ◌++◌, true, false, List, [], ◌∷◌, length, drop, Option, Some, None, refl, ap, sym, subst, ◌∙◌, arith, inl, inr, append_assoc, slice_index}
use mathlib.Core.Path.{fun_ext}
use Rattle.std.specs.Prelude.{slice_get}
use Rattle.std.specs.List.{AllByRecursion}
use Rattle.std.proofs.lemmas.Bool.{cases_eq, eq-eqb, ne_eqb}
use Rattle.std.proofs.lemmas.List.{append-nil}
use Rattle.std.proofs.lemmas.List.Sums.{sum_by-cons}
use Rattle.std.proofs.lemmas.Option.{same_Some, slice_get_within}
use Rattle.exb_model.specs.declared.setup.Timed.{Timed}
use Rattle.exb_model.specs.Input.{moment_of, second_of, seconds_after}
use Rattle.exb_schedule.specs.SegmentRuns.{letters_in}
use Rattle.exb_shelf.specs.Files.{Files}
use Rattle.exb_shelf.specs.Shelf.{Id, writing}
use Rattle.exb_timeline.specs.declared.net_timeline.NetNext.{NetNext}
use Rattle.exb_timeline.specs.declared.bridge_timeline.Next.{Next}
use Rattle.exb_timeline.specs.declared.bridge_timeline.Next.TheVariants as next
use Rattle.exb_timeline.specs.declared.bridge_timeline.Timeline.{Timeline}
use Rattle.exb_timeline.specs.NetMergeOrder.{AreAllReplays, ComesTo, IsFirstOf, IsOfBridge, all_ids, all_to_play, due_of, dues_left}
use Rattle.exb_timeline.specs.Timelines.{IsOf, what}
use Rattle.exb_timeline.specs.CaptureMerges.{HasPort, ReadsOn, standings}
use Rattle.exb_timeline.proofs.TimelineProgress.{ports_before}
use Rattle.exb_timeline.specs.Streams.{Stream}
use Rattle.exb_net_spec.specs.Nets.{Net}
use Rattle.exb_net_spec.specs.NetHistory.{Due, dues}
use Rattle.exb_net_spec.specs.InputOrder.{AreHere, AreInOrder}
use Rattle.exb_net_file.specs.declared.net_parts.BridgeInputs.{BridgeInputs}
use Rattle.exb_inputs.specs.ShelfEffects.{OnlyReads}
use Rattle.exb_net.specs.declared.node.Node.{Node}
use Rattle.exb_net.proofs.ListPlaces.{is_there}
use Rattle.exb_outputs.specs.InputsApart.{AreApart}
use Rattle.exb_outputs.specs.Manifests.{Listed}
use Rattle.exb_outputs.specs.WrittenTexts.{ids_of}
use Rattle.exb_outputs.proofs.UntouchedInputs.{apart-read}
use Rattle.exb_net.specs.declared.bridge_outputs.BridgeOutputs.{BridgeOutputs}
use Rattle.exb_net.specs.declared.net_player.NetPlayer.{NetPlayer}
use Rattle.exb_net.specs.WrittenOutputs.{AreReady}
use Rattle.exb_net.specs.NetInvariants.{AreOfRests, IsAllTold, IsAt, IsCutOff, IsDue, IsFew, IsGoing, IsPaid, IsWithin, LeadsOn, NetRun, ReadsOthers, commands_in, letters_at, letters_for, letters_of}
use Rattle.exb_net.proofs.NetSteps.{cut-noted}
use Rattle.exb_net.proofs.TimelineSteps.{clock-on, ends}

-- ---- what is written isn't read
abbrev pub AreRead : (ℕ → Id) → List ℕ → Type 0
AreRead given ks = AllByRecursion (λ k. ((given k).given ≡ true) × ((given k).reads ≡ true)) ks

differ : (given : ℕ → Id) (k : ℕ) (name : List ℕ) (ks : List ℕ) → given k ≡ writing name → AreRead given ks → AllByRecursion (λ j. k ≢ j) ks
differ given k name [] is all = tt
differ given k name (j ∷ ks) is all = (
  λ same. (let reads : true ≡ false = sym all.0.1 ∙ ap (λ (i : ℕ). (given i).reads) (sym same) ∙ ap (λ (x : Id). x.reads) is in cc),
  differ given k name ks is all.1,
)

pub ready-on : (given ids : ℕ → Id) (ds : List BridgeOutputs) (ks : List ℕ) → AreReady given ds → AreRead given ks → ReadsOn ks given ids → AreReady ids ds
ready-on given ids ds ks ready read reads = record {
  each = λ b d is.
      let own = ready.each b d is in
      record {
        files = own.files;
        named = λ j low. reads.others (slice_index (ids_of d.outputs) j) (differ given (slice_index (ids_of d.outputs) j) _ ks (own.named j low) read) ∙ own.named j low;
      };
}

pub others-on : (manifests : List Listed) (given ids : ℕ → Id) (old ps : List Timeline) → all_ids ps ≡ all_ids old → ReadsOn (all_ids old) given ids → ReadsOthers manifests given old → ReadsOthers manifests ids ps
others-on manifests given ids old ps same reads others = record {
  each = λ b q is. subst (AreApart q ids) (sym same) (apart-read q given ids (all_ids old) (all_ids old) reads (others.each b q is));
}

-- ---- what comes
pub leads-on : (n : Net) (ds : List Due) (file files : Files) (given ids : ℕ → Id) (old : List Timeline) (d : NetNext) (ps : List Timeline) →
    ((streams : List (List Stream)) → AreAllReplays file given old streams → IsFirstOf old streams (Some d) ps (λ rest. AreAllReplays files ids ps rest)) → LeadsOn n ds file given old → LeadsOn n (ds ++ due_of d ∷ []) files ids ps
leads-on n ds file files given ids old d ps order led =
    let first = order led.streams led.replays in
    record {
      streams = first.0;
      replays = first.2;
      rest = led.rest ∙ ap (λ (xs : List Due). ds ++ xs) first.1 ∙ sym (append_assoc ds (due_of d ∷ []) (dues_left (all_to_play first.0 ps)));
    }

pub is-due : {V : Type 0} {X : V → Type 0} (tells : Type 0) (r : NetRun) (now file : Files) (given ids : ℕ → Id) (last : Option ℕ) (g : NetPlayer V X) (old : List Timeline) (d : NetNext) (ps : List Timeline) (seconds second : ℕ) →
    IsGoing tells r now given last g old → ComesTo old d ps → AreRead given (all_ids old) → OnlyReads (all_ids old) now file given ids →
    (tells → (streams : List (List Stream)) → AreAllReplays now given old streams → IsFirstOf old streams (Some d) ps (λ rest. AreAllReplays file ids ps rest)) → second ≡ second_of (moment_of (what d.next)) → seconds ≡ seconds_after last second →
    IsDue tells r file ids seconds second g d ps
is-due tells r now file given ids last g old d ps seconds second going comes read only order second_is seconds_are =
    let same : file ≡ now = fun_ext λ m. only.files m in
    subst (λ (f : Files). IsDue tells r f ids seconds second g d ps) (sym same)
    (record {
      last = last;
      old = old;
      given = given;
      going = going;
      comes = comes;
      apart = others-on r.manifests given ids old ps comes.ids only.reads going.apart;
      leads = λ t.
          leads-on r.net going.ds now now given ids old d ps
          (subst (λ (f : Files). (streams : List (List Stream)) → AreAllReplays now given old streams → IsFirstOf old streams (Some d) ps (λ rest. AreAllReplays f ids ps rest)) same (order t)) (going.leads t);
      ready = ready-on given ids g.desks.items (all_ids old) going.is.desks.ready read only.reads;
      second_is = second_is;
      seconds_are = seconds_are;
    })

-- the seconds before it are few
pub seconds-few : {V : Type 0} {X : V → Type 0} (tells : Type 0) (r : NetRun) (now : Files) (ids : ℕ → Id) (seconds second : ℕ) (g : NetPlayer V X) (d : NetNext) (ps : List Timeline) → IsDue tells r now ids seconds second g d ps → seconds < 2 ^ 32
seconds-few tells r now ids seconds second g d ps p =
    let low = slice_get_within p.old d.bridge p.comes.was p.comes.was_there in
    let all = p.going.goes.count in
    let clock = clock-on tells r now ids seconds second g d ps p d.bridge (omega (arith, low, all)) in
    let high = ends tells r now ids seconds second g d ps p in
    omega (arith, clock, high)

-- ---- nothing comes
-- how much each bridge has told and sent
pub few-orders : {V : Type 0} {X : V → Type 0} (tells : Type 0) (r : NetRun) (now : Files) (given : ℕ → Id) (last : Option ℕ) (g : NetPlayer V X) (old : List Timeline) → (going : IsGoing tells r now given last g old) → (b : ℕ) → b < r.net.count →
    (orders : ℕ) × IsFew r.net b g.net.came orders (going.dones b) × (orders ≤ 65536)
few-orders tells r now given last g old going b low =
    let q = is_there old b (let all = going.goes.count in omega (arith, low, all)) in
    let at = going.goes.each b q.0 q.1 in
    (q.0.taken, going.goes.few b q.0 q.1, (let within = at.within in let few = at.few_commands in omega (arith, within, few)))

pub all-at : {V : Type 0} {X : V → Type 0} (tells : Type 0) (r : NetRun) (now file : Files) (given ids : ℕ → Id) (last : Option ℕ) (g : NetPlayer V X) (old : List Timeline) → (going : IsGoing tells r now given last g old) → AreRead given (all_ids old) →
    OnlyReads (all_ids old) now file given ids → tells → ((streams : List (List Stream)) → AreAllReplays now given old streams → dues_left (all_to_play streams old) ≡ []) → IsAt tells r file ids (dues r.net) going.dones g
all-at tells r now file given ids last g old going read only t none =
    let same : file ≡ now = fun_ext λ m. only.files m in
    let led = going.leads t in
    let all : dues r.net ≡ going.ds = led.rest ∙ ap (λ (xs : List Due). going.ds ++ xs) (none led.streams led.replays) ∙ append-nil going.ds in
    let is = going.is in
    let was = is.desks in
    subst (λ (f : Files). IsAt tells r f ids (dues r.net) going.dones g) (sym same)
    (subst (λ (xs : List Due). IsAt tells r now ids xs going.dones g) (sym all)
    (record {
      timely = is.timely;
      start = is.start;
      opened = is.opened;
      plays = is.plays;
      playing = is.playing;
      desks = record {
        ready = ready-on given ids g.desks.items (all_ids old) was.ready read only.reads;
        manifests = was.manifests;
        apart = was.apart;
        whole = was.whole;
        bridges = was.bridges;
        each = was.each;
        ports = was.ports;
        files = was.files;
      };
      noted = is.noted;
    }))

pub all-told : {V : Type 0} {X : V → Type 0} (tells : Type 0) (r : NetRun) (now file : Files) (given ids : ℕ → Id) (last : Option ℕ) (g : NetPlayer V X) (old : List Timeline) → (going : IsGoing tells r now given last g old) → AreRead given (all_ids old) →
    OnlyReads (all_ids old) now file given ids → tells → ((streams : List (List Stream)) → AreAllReplays now given old streams → dues_left (all_to_play streams old) ≡ []) → IsAllTold tells r file ids g
all-told tells r now file given ids last g old going read only t none =
    let led = going.leads t in
    let all : dues r.net ≡ going.ds = led.rest ∙ ap (λ (xs : List Due). going.ds ++ xs) (none led.streams led.replays) ∙ append-nil going.ds in
    record {
      dones = going.dones;
      is = all-at tells r now file given ids last g old going read only t none;
      here = subst (AreHere r.net) (sym all) going.goes.here;
      order = subst (AreInOrder (λ b. 0)) (sym all) going.goes.order;
      came = g.net.came;
      few_came = (let few = going.goes.few_bytes in omega (arith, few));
      few = few-orders tells r now given last g old going;
    }

-- ---- commands
pub rests-on : (rests : List BridgeInputs) (old : List Timeline) (d : NetNext) (ps : List Timeline) → ComesTo old d ps → AreOfRests rests old → AreOfRests rests ps
rests-on rests old d ps comes of = record {
  whole = of.whole ∙ sym comes.count;
  each = λ b x p rest is. elim (cases_eq b d.bridge) [
    | inl same ↦
        let own : comes.is ≡ p = same_Some comes.is p (sym comes.is_there ∙ subst (λ (k : ℕ). slice_get ps k ≡ Some p) same is) in
        ap (λ (q : Timeline). q.commands.now) (sym own) ∙ comes.coming.commands ∙ of.each d.bridge x comes.was (subst (λ (k : ℕ). slice_get rests k ≡ Some x) same rest) comes.was_there
    | inr ne ↦ of.each b x p rest (sym (comes.others b ne) ∙ is)
  ];
}

drop-got : {A : Type 0} (xs : List A) (k : ℕ) (x : A) → slice_get xs k ≡ Some x → drop k xs ≡ x ∷ drop (suc k) xs
drop-got [] k x is = absurd (let z : None ≡ Some x = is in cc)
drop-got {A} (y ∷ xs) zero x is = ap (λ (z : A). z ∷ xs) (same_Some y x is)
drop-got (y ∷ xs) (suc k) x is = drop-got xs k x is

-- the letters of what comes and of the rest are those that were left
letters-by : (a : Timeline) (x : Next) (e : Timeline) (cs : List Timed) → IsOf a x e → a.commands.now ≡ cs → letters_for cs x + letters_in (drop e.taken cs) ≡ letters_in (drop a.taken cs)
letters-by a (next.Command number moment) e cs (numbered, within, more, same) are =
    let there = is_there cs a.taken (let long = ap (λ (xs : List Timed). length xs) are in omega (arith, within, long)) in
    let place : number - 1 ≡ a.taken = omega (arith, numbered) in
    let own : letters_of (slice_get cs (number - 1)) ≡ length there.0.fate = ap letters_of (ap (slice_get cs) place ∙ there.1) in
    let taken : e.taken ≡ suc a.taken = omega (arith, more) in
    let row = ap letters_in (drop-got cs a.taken there.0 there.1) in
    let cons = sum_by-cons (λ (c : Timed). length c.fate) there.0 (drop (suc a.taken) cs) in
    let rest = ap (λ (k : ℕ). letters_in (drop k cs)) taken in
    omega (arith, own, row, cons, rest)
letters-by a (next.Record c) e cs is are = (let rest = ap (λ (k : ℕ). letters_in (drop k cs)) is.1 in omega (arith, rest))

pub within-paid : {V : Type 0} {X : V → Type 0} (nodes : List (Node V X)) (verdicts : Node V X → ℕ) (rests : List BridgeInputs) (old : List Timeline) (d : NetNext) (ps : List Timeline) → ComesTo old d ps → AreOfRests rests old → IsWithin nodes verdicts old →
    IsPaid nodes verdicts rests d ps
within-paid nodes verdicts rests old d ps comes of within = record {
  each = λ b x p node is. elim (cases_eq b d.bridge) [
    | inl same ↦
        let own : comes.is ≡ p = same_Some comes.is p (sym comes.is_there ∙ subst (λ (k : ℕ). slice_get ps k ≡ Some p) same is) in
        let rest = is_there rests d.bridge (let low = slice_get_within old d.bridge comes.was comes.was_there in let long = of.whole in omega (arith, low, long)) in
        let was = within.each d.bridge x comes.was (subst (λ (k : ℕ). slice_get nodes k ≡ Some x) same node) comes.was_there in
        let commands = of.each d.bridge rest.0 comes.was rest.1 comes.was_there in
        let letters = letters-by comes.was d.next comes.is rest.0.commands comes.coming.is commands in
        let left_now : letters_in (drop p.taken p.commands.now) ≡ letters_in (drop comes.is.taken rest.0.commands) =
        ap (λ (q : Timeline). letters_in (drop q.taken q.commands.now)) (sym own) ∙ ap (λ (cs : List Timed). letters_in (drop comes.is.taken cs)) (comes.coming.commands ∙ commands) in
        let left_was = ap (λ (cs : List Timed). letters_in (drop comes.was.taken cs)) commands in
        let here : letters_at rests d b ≡ letters_for rest.0.commands d.next =
        ap (letters_at rests d) same ∙ (rw (eq-eqb d.bridge d.bridge refl) (ap (λ (o : Option BridgeInputs). letters_for (commands_in o) d.next) rest.1)) in
        omega (arith, was, letters, left_now, left_was, here)
    | inr ne ↦
        let was = within.each b x p node (sym (comes.others b ne) ∙ is) in
        let none : letters_at rests d b ≡ 0 = rw (ne_eqb b d.bridge ne) refl in
        omega (arith, was, none)
  ];
}

-- ---- ports
pub ports-on : (old : List Timeline) (d : NetNext) (ps : List Timeline) → ComesTo old d ps → (b q : ℕ) → IsOfBridge ps b (λ m. HasPort q (standings m.captures)) → IsOfBridge old b (λ m. HasPort q (standings m.captures))
ports-on old d ps comes b q (p, is, has) = elim (cases_eq b d.bridge) [
  | inl same ↦
      let own : comes.is ≡ p = same_Some comes.is p (sym comes.is_there ∙ subst (λ (k : ℕ). slice_get ps k ≡ Some p) same is) in
      (comes.was, subst (λ (k : ℕ). slice_get old k ≡ Some comes.was) (sym same) comes.was_there, ports_before comes.was d.next comes.is comes.coming.is q (subst (λ (z : Timeline). HasPort q (standings z.captures)) (sym own) has))
  | inr ne ↦ (p, sym (comes.others b ne) ∙ is, has)
]

-- ---- it was cut off while it was read
pub cut-read : {V : Type 0} {X : V → Type 0} (tells : Type 0) (r : NetRun) (now file : Files) (given ids : ℕ → Id) (mine : List ℕ) (last : Option ℕ) (g : NetPlayer V X) (ps : List Timeline) → tells → IsGoing tells r now given last g ps →
    OnlyReads mine now file given ids → IsCutOff r file
cut-read tells r now file given ids mine last g ps t going only =
    let same : file ≡ now = fun_ext λ m. only.files m in
    subst (IsCutOff r) (sym same) (cut-noted tells r now given last g ps t going)

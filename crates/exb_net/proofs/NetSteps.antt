-- A net goes on by one event: what is known of it stays known, with one event more.
use Rattle.std.proofs.Common.{◌≡◌, ◌≢◌, ℕ, zero, suc, ◌+◌, ◌*◌, ◌^◌, ◌<◌, ◌≤◌, ◌==◌, ◌++◌, Bool, true, cond, List, [], ◌∷◌, length, map, All, Option, Some, refl, ap, sym, subst, ◌∙◌, arith, inl, inr}
use Rattle.std.specs.Prelude.{slice_get, sum_by}
use Rattle.std.specs.List.{AllByRecursion}
use Rattle.std.proofs.lemmas.Bool.{cases_eq, eq-eqb, ne_eqb}
use Rattle.std.proofs.lemmas.List.{length-append}
use Rattle.std.proofs.lemmas.List.Elements.{All-append}
use Rattle.std.proofs.lemmas.Option.{same_Some, slice_get_within}
use Rattle.exb_model.specs.declared.setup.Timed.{Timed}
use Rattle.exb_model.specs.FlatBridge.{Sent}
use Rattle.exb_model.specs.Input.{given_by, moment_of, seconds_after}
use Rattle.exb_model.specs.Setup.{NamesExternal}
use Rattle.exb_world_spec.specs.Runs.PassedFrames.{StepsTellPassed}
use Rattle.exb_world_spec.specs.Runs.Sessions.{Each}
use Rattle.exb_world_spec.specs.Steps.{Stepped}
use Rattle.exb_world_spec.specs.Worlds.{Left, left_at}
use Rattle.exb_shelf.specs.Files.{Files, bytes_of}
use Rattle.exb_shelf.specs.Shelf.{Id}
use Rattle.exb_timeline.specs.declared.net_timeline.NetNext.{NetNext}
use Rattle.exb_timeline.specs.declared.bridge_timeline.Next.{Next}
use Rattle.exb_timeline.specs.declared.bridge_timeline.Next.TheVariants as next
use Rattle.exb_timeline.specs.declared.bridge_timeline.Timeline.{Timeline}
use Rattle.exb_timeline.specs.NetMergeOrder.{AreAllReplays, all_ids, all_to_play, due_of, dues_left}
use Rattle.exb_timeline.specs.Timelines.{IsOf, size_of, what}
use Rattle.exb_timeline.specs.CaptureMerges.{Standing, gone_on, left_in, number_of, standings}
use Rattle.exb_timeline.proofs.TimelineProgress.{number_other, number_own, ports_before, second_low}
use Rattle.exb_timeline.specs.Streams.{Stream}
use Rattle.exb_net_spec.specs.Nets.{Net}
use Rattle.exb_net_spec.specs.NetHistory.{Due, due_second}
use Rattle.exb_net_spec.specs.InputOrder.{IsNext, taken_after, taken_by}
use Rattle.exb_net_laws.specs.NetRuns.{Dones, Plays, PlaysOne, tree_in}
use Rattle.exb_net_laws.specs.EventCounts.{AreOneMore, IsOneMore, LeftAt, orders_at, orders_in, records_at, records_in, records_of}
use Rattle.exb_net.specs.declared.net.Net.{Net as Bridges}
use Rattle.exb_net.specs.declared.node.Node.{Node}
use Rattle.exb_net.specs.NetStates.{IsPlaying}
use Rattle.exb_net.proofs.ListPlaces.{is_there}
use Rattle.exb_outputs.specs.InputsApart.{AreApart}
use Rattle.exb_outputs.specs.Manifests.{Listed}
use Rattle.exb_outputs.specs.WrittenTexts.{HasTexts, pieces_of}
use Rattle.exb_outputs.proofs.UntouchedInputs.{ids-same}
use Rattle.exb_outputs.specs.Counts.{GoTogether}
use Rattle.exb_outputs.proofs.PortCounts.{run_together}
use Rattle.exb_outputs.proofs.TextUpdates.{left_at-append}
use Rattle.exb_net.specs.declared.bridge_outputs.BridgeOutputs.{BridgeOutputs}
use Rattle.exb_net.specs.declared.net_player.NetPlayer.{NetPlayer}
use Rattle.exb_net.specs.WrittenOutputs.{AllGoTogether, AreAllFronts, AreFronts, AreMore, AreNoted, AreReady, CanNoteAll, OnlyAllListed, OnlyWritesAll, manifests_in, text_of}
use Rattle.exb_net.specs.NetInvariants.{GoesOn, GoesOnAt, IsCutOff, IsDue, IsFew, IsGoing, IsLow, LeadsOn, NetRun, ReadsOthers, came_by, last_of, taken_in}
use Rattle.exb_net.proofs.OutputBounds.{can-note}
use Rattle.exb_net.proofs.OtherTimelines.{all-earlier, sum-place}
use Rattle.exb_net.proofs.PassedSeconds.{here_more, last_more, order_more, plays_more, taken_more}
use Rattle.exb_net.proofs.OutputUpdates.{fronts_now, goes-same}
use Rattle.exb_net.proofs.OutputsApart.{desk_at, manifest_at}
use Rattle.exb_net.proofs.TimelineSteps.{at_it, clock-on, ends, here}

-- ---- what is still to come, while files of manifests are written
abbrev pub ToldStays : Type 0
ToldStays =
    (file files : Files) (given ids : ℕ → Id) (programmes : List Timeline) (streams : List (List Stream)) → AllByRecursion (λ k. (ids k ≡ given k) × (bytes_of (files (given k).name) ≡ bytes_of (file (given k).name))) (all_ids programmes) →
    AreAllReplays file given programmes streams → AreAllReplays files ids programmes streams

each-stays : (manifests : List Listed) (file files : Files) (given ids : ℕ → Id) → OnlyAllListed manifests file files → ((j : ℕ) → ids j ≡ given j) → (ks : List ℕ) → ((b : ℕ) (q : Listed) → slice_get manifests b ≡ Some q → AreApart q given ks) →
    AllByRecursion (λ k. (ids k ≡ given k) × (bytes_of (files (given k).name) ≡ bytes_of (file (given k).name))) ks
each-stays manifests file files given ids only kept [] apart = tt
each-stays manifests file files given ids only kept (k ∷ ks) apart = (
  (
    kept k,
    ap bytes_of (only (given k).name (λ b q is j low same. (let (name, reads, none) = (apart b q is).0 in none j low (sym reads.named ∙ same)))),
  ),
  each-stays manifests file files given ids only kept ks (λ b q is. (apart b q is).1),
)

pub leads_stay : ToldStays → (n : Net) (manifests : List Listed) (ds : List Due) (file files : Files) (given ids : ℕ → Id) (ps : List Timeline) → OnlyAllListed manifests file files → ((j : ℕ) → ids j ≡ given j) → ReadsOthers manifests given ps →
    LeadsOn n ds file given ps → LeadsOn n ds files ids ps
leads_stay law n manifests ds file files given ids ps only kept others led = record {
  streams = led.streams;
  replays = law file files given ids ps led.streams (each-stays manifests file files given ids only kept (all_ids ps) others.each) led.replays;
  rest = led.rest;
}

pub others_kept : (manifests : List Listed) (given ids : ℕ → Id) (ps : List Timeline) → ((j : ℕ) → ids j ≡ given j) → ReadsOthers manifests given ps → ReadsOthers manifests ids ps
others_kept manifests given ids ps kept others = record { each = λ b q is. subst (λ (k : ℕ → Id). AreApart q k (all_ids ps)) (sym (ids-same given ids kept)) (others.each b q is) }

-- ---- what is noted, where it is cut off
pub fronts_of : (f : Files) (ds : List BridgeOutputs) (dones : Dones) → ((b : ℕ) (k : BridgeOutputs) → slice_get ds b ≡ Some k → HasTexts k.manifest (pieces_of k.outputs) f f (text_of (dones b) [])) → AreAllFronts (manifests_in ds) f dones
fronts_of f ds dones texts = record {
  each = λ b q is.
      let k = desk_at ds b q is in
      subst (λ (z : Listed). AreFronts z f (dones b)) k.2
      (record { counts = []; each = fronts_now k.0.manifest (pieces_of k.0.outputs) f (text_of (dones b) []) (text_of (dones b) []) (goes-same (dones b)) (texts b k.0 k.1) });
}

pub cut-noted : {V : Type 0} {X : V → Type 0} (tells : Type 0) (r : NetRun) (now : Files) (ids : ℕ → Id) (last : Option ℕ) (g : NetPlayer V X) (ps : List Timeline) → tells → IsGoing tells r now ids last g ps → IsCutOff r now
cut-noted tells r now ids last g ps t going =
    let led = going.leads t in
    inr (record {
      ds = going.ds;
      rest = dues_left (all_to_play led.streams ps);
      dues_are = led.rest;
      here = going.goes.here;
      order = going.goes.order;
      start = going.is.start;
      dones = going.dones;
      opened = going.is.opened;
      plays = going.is.plays;
      vids = going.is.playing.vids;
      others = going.is.desks.files t;
      fronts = subst (λ (qs : List Listed). AreAllFronts qs now going.dones) going.is.desks.manifests (fronts_of now g.desks.items going.dones (λ b k is. (going.is.noted.each b k is).texts t));
    })

-- ---- what comes, by numbers
records-same : (x : Next) → records_in (what x) ≡ came_by x
records-same (next.Command number moment) = refl
records-same (next.Record c) = refl

-- a list of frames in two parts
each-left : (n : Net) (b moment : ℕ) (xs : List Left) → moment < 2 ^ 32 * 1_000_000_000 → Each (LeftAt n b moment) xs → All (IsLow n b) xs
each-left n b moment [] low all k x h = absurd (omega (arith, h))
each-left n b moment (y ∷ xs) low all zero x h = record { port = all.0.port; moment = (let m = all.0.moment in omega (arith, m, low)); short = all.0.short }
each-left n b moment (y ∷ xs) low all (suc k) x h = each-left n b moment xs low all.1 k x (omega (arith, h))

none-left : (n : Net) (b moment : ℕ) (xs : List Left) → ((q : ℕ) → length (left_at q xs) ≤ 0) → Each (LeftAt n b moment) xs → All (IsLow n b) xs
none-left n b moment [] few all k x h = absurd (omega (arith, h))
none-left n b moment (y ∷ xs) few all k x h = absurd (by_port (few y.port))
  where
    zero_not : suc (length (left_at y.port xs)) ≤ 0 → ⊥
    zero_not h = omega (arith, h)

    by_port : length (left_at y.port (y ∷ xs)) ≤ 0 → ⊥
    by_port low = (let here : (y.port == y.port) ≡ true = eq-eqb y.port y.port refl in let z : length (cond (y.port == y.port) ((y.moment, y.bytes) ∷ left_at y.port xs) (left_at y.port xs)) ≤ 0 = low in zero_not (subst (λ (c : Bool). length (cond c ((y.moment, y.bytes) ∷ left_at y.port xs) (left_at y.port xs)) ≤ 0) here z))

-- a command sends nothing, and a record is of a moment that a capture can hold
more-low : (n : Net) (b : ℕ) (a : Timeline) (x : Next) (e : Timeline) (xs : List Left) → IsOf a x e → ((q : ℕ) → length (left_at q xs) ≤ records_in (what x)) → Each (LeftAt n b (moment_of (what x))) xs → All (IsLow n b) xs
more-low n b a (next.Command number moment) e xs is few all = none-left n b moment xs few all
more-low n b a (next.Record c) e xs is few all = each-left n b c.moment xs is.0.moment all

-- the number of the next record of each port that isn't wired
numbers-on : (a : Timeline) (x : Next) (e : Timeline) → IsOf a x e → (q : ℕ) → number_of (standings e.captures) q ≡ number_of (standings a.captures) q + records_of (what x) q
numbers-on a (next.Command number moment) e (numbered, within, more, same) q = (let own = ap (λ (ss : List Standing). number_of ss q) same in omega (arith, own))
numbers-on a (next.Record c) e is q = elim (cases_eq c.port q) [
  | inl same ↦
      let own : number_of (standings e.captures) q ≡ suc (number_of (standings a.captures) q) =
      ap (λ (ss : List Standing). number_of ss q) is.0.gone ∙ subst (λ (k : ℕ). number_of (gone_on c.port c.moment (standings a.captures)) k ≡ suc (number_of (standings a.captures) k)) same (number_own c.port c.moment (standings a.captures) is.0.port) in
      rw (eq-eqb c.port q same) (omega (arith, own))
  | inr other ↦
      let own : number_of (standings e.captures) q ≡ number_of (standings a.captures) q = ap (λ (ss : List Standing). number_of ss q) is.0.gone ∙ number_other c.port c.moment q (standings a.captures) other in
      rw (ne_eqb c.port q other) (omega (arith, own))
]

taken-on : (a : Timeline) (x : Next) (e : Timeline) → IsOf a x e → e.taken ≡ a.taken + orders_in (what x)
taken-on a (next.Command number moment) e (numbered, within, more, same) = more
taken-on a (next.Record c) e is = (let own = is.1 in omega (arith, own))

within-on : (a : Timeline) (x : Next) (e : Timeline) → IsOf a x e → a.taken ≤ length a.commands.now → e.taken ≤ length a.commands.now
within-on a (next.Command number moment) e (numbered, within, more, same) low = omega (arith, within, more)
within-on a (next.Record c) e is low = (let own = is.1 in omega (arith, own, low))

next-is : (a : Timeline) (x : Next) (e : Timeline) (taken : ℕ) → IsOf a x e → taken ≡ a.taken → IsNext taken (what x)
next-is a (next.Command number moment) e taken (numbered, within, more, same) is = omega (arith, numbered, is)
next-is a (next.Record c) e taken is own = tt

taken-after : (taken : ℕ) (x : Next) → taken_by (what x) taken ≡ taken + orders_in (what x)
taken-after taken (next.Command number moment) = omega arith
taken-after taken (next.Record c) = omega arith

size-on : (x : Next) → size_of x ≡ 16 * came_by x
size-on (next.Command number moment) = refl
size-on (next.Record c) = refl

-- ---- one bridge
-- another programme's bridge is not that of what comes
order-there : (d : Due) (b : ℕ) → b ≢ d.bridge → orders_at d b ≡ 0
order-there d b ne = rw (ne_eqb d.bridge b (λ e. ne (sym e))) refl

record-there : (d : Due) (b p : ℕ) → b ≢ d.bridge → records_at d b p ≡ 0
record-there d b p ne = rw (ne_eqb d.bridge b (λ e. ne (sym e))) refl

order-here : (d : Due) (b : ℕ) → b ≡ d.bridge → orders_at d b ≡ orders_in d.coming
order-here d b e = rw (eq-eqb d.bridge b (sym e)) refl

record-here : (d : Due) (b p : ℕ) → b ≡ d.bridge → records_at d b p ≡ records_of d.coming p
record-here d b p e = rw (eq-eqb d.bridge b (sym e)) refl

-- ---- all bridges
module _ {V : Type 0} {X : V → Type 0} (tells : Type 0) (r : NetRun) (now : Files) (ids : ℕ → Id) (seconds second : ℕ) (g : NetPlayer V X) (d : NetNext) (ps : List Timeline) (p : IsDue tells r now ids seconds second g d ps) (e : Dones)
    (one : PlaysOne r.net seconds (due_of d) p.going.dones e) (more : AreOneMore r.net seconds (due_of d) p.going.dones e) where
  more-at : (b : ℕ) → b < r.net.count → IsOneMore r.net seconds (due_of d) b (p.going.dones b) (e b)
  more-at b low = more.each b low

  second-due : due_second (due_of d) ≡ second
  second-due = sym p.second_is

  -- a programme of another bridge is the one that it was
  was-there : (b : ℕ) (q : Timeline) → b ≢ d.bridge → slice_get ps b ≡ Some q → slice_get p.old b ≡ Some q
  was-there b q ne is = sym (p.comes.others b ne) ∙ is

  low-at : (b : ℕ) (q : Timeline) → slice_get ps b ≡ Some q → b < r.net.count
  low-at b q is = (let low = slice_get_within ps b q is in let same = p.comes.count in let all = p.going.goes.count in omega (arith, low, same, all))

  its-own : (q : Timeline) → slice_get ps d.bridge ≡ Some q → p.comes.is ≡ q
  its-own q is = same_Some p.comes.is q (sym p.comes.is_there ∙ is)

  goes-here : GoesOnAt r.net d.bridge p.going.goes.start (Some second) (e d.bridge) p.comes.is
  goes-here =
      let at = at_it tells r now ids seconds second g d ps p in
      let here = here tells r now ids seconds second g d ps p in
      let m = more-at d.bridge here in
      let coming = p.comes.coming in
      record {
        start_is = coming.start ∙ at.start_is;
        given = at.given ∙ ap (map given_by) (sym coming.commands);
        names = subst (λ (cs : List Timed). All (λ (c : Timed). NamesExternal (tree_in r.net d.bridge) c.command) cs) (sym coming.commands) at.names;
        few_commands = (let same = ap (λ (cs : List Timed). length cs) coming.commands in let few = at.few_commands in omega (arith, same, few));
        within = (let same = ap (λ (cs : List Timed). length cs) coming.commands in let low = within-on p.comes.was d.next p.comes.is coming.is at.within in omega (arith, same, low));
        free = λ q has. at.free q (ports_before p.comes.was d.next p.comes.is coming.is q has);
        taken = (let given = m.given in let here = order-here (due_of d) d.bridge refl in let own = at.taken in let after = taken-on p.comes.was d.next p.comes.is coming.is in omega (arith, given, here, own, after));
        next = λ q unwired.
            (let nexts = m.next q unwired in let here = record-here (due_of d) d.bridge q refl in let own = at.next q unwired in let after = numbers-on p.comes.was d.next p.comes.is coming.is q in omega (arith, nexts, here, own, after));
        since = (let clock = m.clock in let low = clock-on tells r now ids seconds second g d ps p d.bridge here in omega (arith, clock, low));
      }

  goes-there : (b : ℕ) (q : Timeline) → b ≢ d.bridge → slice_get ps b ≡ Some q → GoesOnAt r.net b p.going.goes.start (Some second) (e b) q
  goes-there b q ne is =
      let was = was-there b q ne is in
      let low = low-at b q is in
      let at = p.going.goes.each b q was in
      let m = more-at b low in
      record {
        start_is = at.start_is;
        given = at.given;
        names = at.names;
        few_commands = at.few_commands;
        within = at.within;
        free = at.free;
        taken = (let given = m.given in let none = order-there (due_of d) b ne in let own = at.taken in omega (arith, given, none, own));
        next = λ k unwired. (let nexts = m.next k unwired in let none = record-there (due_of d) b k ne in let own = at.next k unwired in omega (arith, nexts, none, own));
        since = (let clock = m.clock in let most = clock-on tells r now ids seconds second g d ps p b low in omega (arith, clock, most));
      }

  goes-at : (b : ℕ) (q : Timeline) → slice_get ps b ≡ Some q → GoesOnAt r.net b p.going.goes.start (Some second) (e b) q
  goes-at b q is = elim (cases_eq b d.bridge) [
    | inl same ↦
        let own = its-own q (subst (λ (k : ℕ). slice_get ps k ≡ Some q) same is) in
        subst (λ (k : ℕ). GoesOnAt r.net k p.going.goes.start (Some second) (e k) q) (sym same) (subst (GoesOnAt r.net d.bridge p.going.goes.start (Some second) (e d.bridge)) own goes-here)
    | inr ne ↦ goes-there b q ne is
  ]

  -- how much each bridge has told and sent
  few-with : (b orders : ℕ) → b < r.net.count → IsFew r.net b g.net.came orders (p.going.dones b) → IsFew r.net b (g.net.came + came_by d.next) (orders + orders_at (due_of d) b) (e b)
  few-with b orders low few =
      let m = more-at b low in
      let records = records-same d.next in
      record {
        entered = (let now = m.entered in let was = few.entered in omega (arith, now, was, records));
        decided = (let now = m.decided in let was = few.decided in omega (arith, now, was));
        left = subst (λ (xs : List Left). All (IsLow r.net b) xs) (sym m.left) (All-append (IsLow r.net b) (p.going.dones b).left m.more few.left (more-low r.net b p.comes.was d.next p.comes.is m.more p.comes.coming.is m.few m.each));
        left_each = λ q.
            (let parts = ap (λ (xs : List Left). length (left_at q xs)) m.left in let joined = ap (λ (xs : List Sent). length xs) (left_at-append q (p.going.dones b).left m.more) in
            let both = length-append (left_at q (p.going.dones b).left) (left_at q m.more) in let was = few.left_each q in let now = m.few q in omega (arith, parts, joined, both, was, now, records));
      }

  few-at : (b : ℕ) (q : Timeline) → slice_get ps b ≡ Some q → IsFew r.net b (g.net.came + came_by d.next) q.taken (e b)
  few-at b q is = elim (cases_eq b d.bridge) [
    | inl same ↦
        let own = its-own q (subst (λ (k : ℕ). slice_get ps k ≡ Some q) same is) in
        let here = here tells r now ids seconds second g d ps p in
        let few = few-with d.bridge p.comes.was.taken here (p.going.goes.few d.bridge p.comes.was p.comes.was_there) in
        let orders : p.comes.was.taken + orders_at (due_of d) d.bridge ≡ q.taken =
        ap (λ (k : ℕ). p.comes.was.taken + k) (order-here (due_of d) d.bridge refl) ∙ sym (taken-on p.comes.was d.next p.comes.is p.comes.coming.is) ∙ ap (λ (z : Timeline). z.taken) own in
        subst (λ (k : ℕ). IsFew r.net k (g.net.came + came_by d.next) q.taken (e k)) (sym same) (subst (λ (k : ℕ). IsFew r.net d.bridge (g.net.came + came_by d.next) k (e d.bridge)) orders few)
    | inr ne ↦
        let low = low-at b q is in
        let few = few-with b q.taken low (p.going.goes.few b q (was-there b q ne is)) in
        let orders : q.taken + orders_at (due_of d) b ≡ q.taken = (let none = order-there (due_of d) b ne in omega (arith, none)) in
        subst (λ (k : ℕ). IsFew r.net b (g.net.came + came_by d.next) k (e b)) orders few
  ]

  taken-at : (b : ℕ) (q : Timeline) → slice_get ps b ≡ Some q → taken_in (p.going.ds ++ due_of d ∷ []) (λ c. 0) b ≡ q.taken
  taken-at b q is = elim (cases_eq b d.bridge) [
    | inl same ↦
        let own = its-own q (subst (λ (k : ℕ). slice_get ps k ≡ Some q) same is) in
        let was = p.going.goes.taken d.bridge p.comes.was p.comes.was_there in
        taken_more p.going.ds (due_of d) (λ c. 0) b
        ∙ (ap (taken_after (due_of d) (taken_in p.going.ds (λ c. 0))) same
        ∙ (rw (eq-eqb d.bridge d.bridge refl) (taken-after (taken_in p.going.ds (λ c. 0) d.bridge) d.next) ∙ ap (λ (k : ℕ). k + orders_in (what d.next)) was ∙ sym (taken-on p.comes.was d.next p.comes.is p.comes.coming.is) ∙ ap (λ (z : Timeline). z.taken) own))
    | inr ne ↦
        taken_more p.going.ds (due_of d) (λ c. 0) b ∙ (rw (ne_eqb b d.bridge ne) (p.going.goes.taken b q (was-there b q ne is)))
  ]

  bytes : 16 * (g.net.came + came_by d.next) + sum_by (λ (z : Timeline). left_in z.captures) ps ≤ 2 ^ 53
  bytes =
      let sums = sum-place (λ (z : Timeline). left_in z.captures) p.old ps d.bridge p.comes.was p.comes.is p.comes.count p.comes.was_there p.comes.is_there p.comes.others in
      let size = p.comes.coming.size in
      let own = size-on d.next in
      let few = p.going.goes.few_bytes in
      omega (arith, sums, size, own, few)

  pub goes-after : GoesOn r.net (p.going.ds ++ due_of d ∷ []) (g.net.came + came_by d.next) e (Some second) ps
  goes-after = record {
    count = p.comes.count ∙ p.going.goes.count;
    start = p.going.goes.start;
    here = here_more r.net p.going.ds (due_of d) p.going.goes.here (here tells r now ids seconds second g d ps p);
    last_due = ap Some (sym second-due) ∙ sym (last_more p.going.ds (due_of d));
    order = order_more p.going.ds (due_of d) (λ c. 0) p.going.goes.order
        (next-is p.comes.was d.next p.comes.is (taken_in p.going.ds (λ c. 0) d.bridge) p.comes.coming.is (p.going.goes.taken d.bridge p.comes.was p.comes.was_there));
    each = goes-at;
    taken = taken-at;
    few = few-at;
    few_bytes = bytes;
    last_is = (ends tells r now ids seconds second g d ps p, all-earlier (second * 1_000_000_000) (moment_of (what d.next)) ps (second_low (moment_of (what d.next)) second (sym p.second_is)) p.comes.rises);
  }

  pub plays-after : Plays r.net (p.going.ds ++ due_of d ∷ []) p.going.is.start e
  plays-after =
      plays_more r.net p.going.ds (due_of d) p.going.is.start p.going.dones e p.going.is.plays
      (subst (λ (k : ℕ). PlaysOne r.net k (due_of d) p.going.dones e)
      (p.seconds_are ∙ ap (λ (l : Option ℕ). seconds_after l second) p.going.goes.last_due ∙ ap (seconds_after (last_of p.going.ds)) (sym second-due)) one)

  -- ---- what is told then can be noted
  few-came : g.net.came + came_by d.next ≤ 2 ^ 49
  few-came = (let b = bytes in omega (arith, b))

  module _ (x : Bridges V X) (playing : IsPlaying r.net e p.going.dones x) where
    pub are-more : AreMore p.going.dones e x.nodes.items
    are-more = record { each = λ b y is. (let at = playing.holds.at b y is in record { events = at.events; passed = at.passed; left = at.left }) }

    node-low : (b : ℕ) (y : Node V X) → slice_get x.nodes.items b ≡ Some y → b < r.net.count
    node-low b y is = (let low = slice_get_within x.nodes.items b y is in let all = playing.holds.count in omega (arith, low, all))

    together-at : StepsTellPassed → (b : ℕ) → b < r.net.count → GoTogether (p.going.dones b).events (p.going.dones b).passed
    together-at law b low =
        let k = p.going.is.playing.run b low in
        subst (λ (z : Stepped). GoTogether z.events z.passed) (sym k.is) (run_together law _ _ k.steps _)

    pub go-together : StepsTellPassed → AllGoTogether p.going.dones x.nodes.items
    go-together law = record { each = λ b y is. together-at law b (node-low b y is) }

    pub can-note-all : StepsTellPassed → CanNoteAll g.desks.items x.nodes.items
    can-note-all law = record {
      whole = desks-long ∙ sym playing.holds.count;
      few = (let long = desks-long in let most = p.going.is.desks.bridges in omega (arith, long, most));
      each = λ b k y desk node.
          let low = node-low b y node in
          let manifest : slice_get r.manifests b ≡ Some k.manifest = ap (λ (qs : List Listed). slice_get qs b) (sym p.going.is.desks.manifests) ∙ manifest_at g.desks.items b k desk in
          let own = p.going.is.desks.each b k.manifest manifest in
          let noted = p.going.is.noted.each b k desk in
          let there = is_there ps b (let count = goes-after.count in omega (arith, low, count)) in
          let few = few-at b there.0 there.1 in
          let goes = goes-at b there.0 there.1 in
          can-note r.net b (g.net.came + came_by d.next) there.0.taken k.manifest own.0 own.2 k.counted (p.going.dones b) (e b) y.world (are-more.each b y node) few few-came
          (let within = goes.within in let most = goes.few_commands in omega (arith, within, most)) noted.counted (together-at law b low);
    }
      where
        map-length : (f : BridgeOutputs → Listed) (xs : List BridgeOutputs) → length (map f xs) ≡ length xs
        map-length f [] = refl
        map-length f (z ∷ xs) = ap suc (map-length f xs)

        desks-long : length g.desks.items ≡ r.net.count
        desks-long = sym (map-length (λ (z : BridgeOutputs). z.manifest) g.desks.items) ∙ ap (λ (qs : List Listed). length qs) p.going.is.desks.manifests ∙ p.going.is.desks.whole

  -- ---- and once it is noted, the net goes on
  pub going-after : ToldStays → (y : NetPlayer V X) (file : Files) (given : ℕ → Id) → IsPlaying r.net e e y.net → AreReady given y.desks.items → AreNoted tells file y.desks.items e → manifests_in y.desks.items ≡ manifests_in g.desks.items →
      y.net.came ≡ g.net.came + came_by d.next → OnlyWritesAll tells (manifests_in g.desks.items) now file ids given → IsGoing tells r file given (Some second) y ps
  going-after law y file given playing ready noted manifests came only =
      let was = p.going.is.desks in
      let others : tells → OnlyAllListed r.manifests now file = λ t. subst (λ (qs : List Listed). OnlyAllListed qs now file) was.manifests (only.others t) in
      record {
        ds = p.going.ds ++ due_of d ∷ [];
        dones = e;
        is = record {
          timely = p.going.is.timely;
          start = p.going.is.start;
          opened = p.going.is.opened;
          plays = plays-after;
          playing = playing;
          desks = record {
            ready = ready;
            manifests = manifests ∙ was.manifests;
            apart = was.apart;
            whole = was.whole;
            bridges = was.bridges;
            each = was.each;
            ports = was.ports;
            files = λ t m other. others t m other ∙ was.files t m other;
          };
          noted = noted;
        };
        goes = subst (λ (k : ℕ). GoesOn r.net (p.going.ds ++ due_of d ∷ []) k e (Some second) ps) (sym came) goes-after;
        apart = others_kept r.manifests ids given ps only.kept p.apart;
        leads = λ t. leads_stay law r.net r.manifests (p.going.ds ++ due_of d ∷ []) now file ids given ps (others t) only.kept p.apart (p.leads t);
      }

  -- ---- or it was cut off
  pub cut-after : tells → (file : Files) → AreAllFronts (manifests_in g.desks.items) file e → OnlyAllListed (manifests_in g.desks.items) now file → IsCutOff r file
  cut-after t file fronts only =
      let was = p.going.is.desks in
      let led = p.leads t in
      inr (record {
        ds = p.going.ds ++ due_of d ∷ [];
        rest = dues_left (all_to_play led.streams ps);
        dues_are = led.rest;
        here = goes-after.here;
        order = goes-after.order;
        start = p.going.is.start;
        dones = e;
        opened = p.going.is.opened;
        plays = plays-after;
        vids = p.going.is.playing.vids;
        others = λ m other. subst (λ (qs : List Listed). OnlyAllListed qs now file) was.manifests only m other ∙ was.files t m other;
        fronts = subst (λ (qs : List Listed). AreAllFronts qs file e) was.manifests fronts;
      })

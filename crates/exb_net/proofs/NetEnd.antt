-- The end of a net: what was written and counted of its bridges is what the net calls for.
use Rattle.std.proofs.Common.{◌≡◌, ℕ, zero, suc, ◌+◌, ◌*◌, ◌^◌, ◌<◌, ◌≤◌, true, false, List, [], ◌∷◌, length, map, All, Option, Some, None, refl, ap, sym, subst, ◌∙◌, arith, inr}
use Rattle.std.specs.Prelude.{option_map, slice_get, sum_by}
use Rattle.std.specs.List.{range_with_len}
use Rattle.std.proofs.lemmas.Bool.{false≢true}
use Rattle.std.proofs.lemmas.List.{append-nil}
use Rattle.std.proofs.lemmas.List.Sums.{sum_by-cons}
use Rattle.std.proofs.lemmas.Option.{same_Some, slice_get-map, slice_get_within}
use Rattle.exb_model.specs.FlatBridge.{flat}
use Rattle.exb_model.specs.History.{History, ◌then◌}
use Rattle.exb_model.specs.Ports.{below}
use Rattle.exb_model.specs.Texts.{Counts, capture_text, counts, summary_line}
use Rattle.exb_model.specs.Tree.{Shape, external_ports, is_external}
use Rattle.exb_counters.specs.declared.counters.Counters.{Counters}
use Rattle.exb_counters.specs.Counters.{count_text}
use Rattle.exb_world_spec.specs.Runs.PassedFrames.{passed_over}
use Rattle.exb_world_spec.specs.Steps.{Stepped}
use Rattle.exb_world_spec.specs.Worlds.{left_at}
use Rattle.exb_shelf.specs.Files.{Files}
use Rattle.exb_shelf.specs.Shelf.{Id}
use Rattle.exb_journal.specs.declared.file_names.OutputKind.{OutputKind}
use Rattle.exb_journal.specs.declared.file_names.OutputKind.TheVariants as output
use Rattle.exb_journal.specs.Tallies.{counts_of, nothing_counted}
use Rattle.exb_net_spec.specs.Nets.{Net}
use Rattle.exb_net_spec.specs.NetHistory.{Histories, basis_in, dues}
use Rattle.exb_net_laws.specs.CountersGoOn.{CountsGoOn}
use Rattle.exb_net_laws.specs.NetRunLaws.{ArePlayedEagerly, IsShown, NetsArePlayedEagerly}
use Rattle.exb_net_laws.specs.NetRuns.{Dones, tree_in}
use Rattle.exb_outputs.specs.declared.outputs.Outputs.{Outputs}
use Rattle.exb_outputs.specs.Manifests.{Listed, IsMade, kind_at, output_count}
use Rattle.exb_outputs.specs.CaptureSizes.{HasSent, capture_size}
use Rattle.exb_outputs.proofs.KindPlaces.{kind_is}
use Rattle.exb_outputs.proofs.CaptureSizes.{counted_of}
use Rattle.exb_outputs.specs.Counts.{AreCounted, counts_so_far, counts_text, counts_with}
use Rattle.exb_outputs.specs.KindTexts.{output_text}
use Rattle.exb_outputs.proofs.HistoryCounts.{LeftExternal, count_events-left, counts-whole}
use Rattle.exb_outputs.proofs.PortCounts.{counts-of, counts_end, port_whole}
use Rattle.exb_net.proofs.ListPlaces.{is_there}
use Rattle.exb_net.specs.declared.bridge_outputs.BridgeOutputs.{BridgeOutputs}
use Rattle.exb_net.specs.declared.net_player.NetPlayer.{NetPlayer}
use Rattle.exb_net.specs.WrittenOutputs.{AreAllFronts, AreNoted, AreWhole, CanEndAll, IsWhole, OnlyAllListed, manifests_in, tallies_in, text_of}
use Rattle.exb_net.specs.Summaries.{added, counts_in}
use Rattle.exb_net.specs.NetInvariants.{AreDesks, HasWritten, IsAllTold, IsCutOff, IsFew, NetRun}
use Rattle.exb_net.proofs.OutputBounds.{few-frames, own, sizes-fit}
use Rattle.exb_net.proofs.OutputsApart.{desk_at, manifest_at}

-- ---- one bridge
module _ (n : Net) (b : ℕ) (p : Listed) (tree : p.tree ≡ tree_in n b) (untraced : p.options.trace ≡ false) (d : Stepped) (hs : Histories) (shown : (q : ℕ) → is_external (tree_in n b) q ≡ true → left_at q d.left ≡ flat (basis_in n b) ([] then d.events) q)
    (said : d.passed ≡ passed_over (basis_in n b) [] d.events) where
  counters-whole : (ports : Option Counters) (o : Outputs) → AreCounted p ports d.events d.passed → HasSent p o (λ q. left_at q d.left) → ((q : ℕ) → capture_size (left_at q d.left) < 2 ^ 64) → CountsGoOn → p.options.counters ≡ true →
      counts_text p ports o ≡ count_text (tree_in n b) (basis_in n b) ([] then d.events)
  counters-whole None o are has room law asked = absurd (false≢true (sym are ∙ asked))
  counters-whole (Some c) o are has room law asked =
      counts_end (tree_in n b) (basis_in n b) d.events d.passed d.left law said shown p.tree tree (counts_with p o c)
      (λ q low out. port_whole p o c d.events d.passed d.left q low out (are.2 q (are.1 q low out)) has (room q))

  pub texts-whole : (ports : Option Counters) (o : Outputs) → AreCounted p ports d.events d.passed → HasSent p o (λ q. left_at q d.left) → ((q : ℕ) → capture_size (left_at q d.left) < 2 ^ 64) → CountsGoOn →
      (j : ℕ) → j < output_count p → text_of d (counts_text p ports o) (kind_at p j) ≡ output_text (n.input b) ([] then d.events) [] (kind_at p j)
  texts-whole ports o are has room law j low = by_kind (kind_at p j) (kind_is p j low).made
    where
      by_kind : (k : OutputKind) → IsMade p.options p.tree k → text_of d (counts_text p ports o) k ≡ output_text (n.input b) ([] then d.events) [] k
      by_kind (output.Capture q) made = ap capture_text (shown q (ap (λ (t : Shape). is_external t q) (sym tree) ∙ made))
      by_kind output.Journal made = refl
      by_kind output.Trace made = absurd (false≢true (sym untraced ∙ made))
      by_kind output.Counters made = counters-whole ports o are has room law made

-- ---- sums over bridges
sum-below : (f g : BridgeOutputs → ℕ) (ds : List BridgeOutputs) → ((b : ℕ) (d : BridgeOutputs) → slice_get ds b ≡ Some d → f d ≤ g d * 2 ^ 49) → sum_by f ds ≤ sum_by g ds * 2 ^ 49
sum-below f g [] each = omega arith
sum-below f g (d ∷ ds) each =
    let s = sum_by-cons f d ds in
    let u = sum_by-cons g d ds in
    let one = each 0 d refl in
    let rest = sum-below f g ds (λ b x is. each (suc b) x is) in
    omega (arith, s, u, one, rest)

sum-ones : (ds : List BridgeOutputs) → sum_by (λ (d : BridgeOutputs). 1) ds ≡ length ds
sum-ones [] = refl
sum-ones (d ∷ ds) = (let s = sum_by-cons (λ (x : BridgeOutputs). 1) d ds in let rest = sum-ones ds in omega (arith, s, rest))

sum-mapped : {A B : Type 0} (f : B → ℕ) (h : A → B) (xs : List A) → sum_by f (map h xs) ≡ sum_by (λ (x : A). f (h x)) xs
sum-mapped f h [] = refl
sum-mapped {A} f h (x ∷ xs) = (let s = sum_by-cons f (h x) (map h xs) in let u = sum_by-cons (λ (y : A). f (h y)) x xs in let rest = sum-mapped f h xs in omega (arith, s, u, rest))

same-within : {A : Type 0} (us vs : List A) → length us ≡ length vs → ((k : ℕ) → k < length us → slice_get us k ≡ slice_get vs k) → us ≡ vs
same-within [] [] long same = refl
same-within [] (v ∷ vs) long same = absurd (omega (arith, long))
same-within (u ∷ us) [] long same = absurd (omega (arith, long))
same-within {A} (u ∷ us) (v ∷ vs) long same = ap (λ (w : A). w ∷ us) (same_Some u v (same 0 (omega arith))) ∙ ap (λ (ws : List A). v ∷ ws) (same-within us vs (omega (arith, long)) (λ k low. same (suc k) (omega (arith, low))))

abbrev tally-of : BridgeOutputs → Counts
tally-of d = counts_of d.counted.tally

module _ (tells : Type 0) (r : NetRun) (now : Files) (ids : ℕ → Id) (desks : List BridgeOutputs) (are : AreDesks tells r now ids desks) (dones : Dones) (noted : AreNoted tells now desks dones) (came : ℕ) (few_came : came ≤ 2 ^ 49)
    (few : (b : ℕ) → b < r.net.count → (orders : ℕ) × IsFew r.net b came orders (dones b) × (orders ≤ 65536)) where
  desks-long : length desks ≡ r.net.count
  desks-long = sym (map-length (λ (z : BridgeOutputs). z.manifest) desks) ∙ ap (λ (qs : List Listed). length qs) are.manifests ∙ are.whole
    where
      map-length : (f : BridgeOutputs → Listed) (xs : List BridgeOutputs) → length (map f xs) ≡ length xs
      map-length f [] = refl
      map-length f (z ∷ xs) = ap suc (map-length f xs)

  low-at : (b : ℕ) (d : BridgeOutputs) → slice_get desks b ≡ Some d → b < r.net.count
  low-at b d is = (let low = slice_get_within desks b d is in let long = desks-long in omega (arith, low, long))

  manifest-is : (b : ℕ) (d : BridgeOutputs) → slice_get desks b ≡ Some d → slice_get r.manifests b ≡ Some d.manifest
  manifest-is b d is = ap (λ (qs : List Listed). slice_get qs b) (sym are.manifests) ∙ manifest_at desks b d is

  tally-is : (b : ℕ) (d : BridgeOutputs) → slice_get desks b ≡ Some d → counts_of d.counted.tally ≡ counts_so_far (dones b).events (dones b).left
  tally-is b d is = (noted.each b d is).counted.tally

  entered : (b : ℕ) (d : BridgeOutputs) → slice_get desks b ≡ Some d → (tally-of d).relayed + (tally-of d).ignored ≤ 2 ^ 49
  entered b d is =
      let one = (few b (low-at b d is)).1.entered in
      let relayed = ap (λ (c : Counts). c.relayed) (tally-is b d is) in
      let ignored = ap (λ (c : Counts). c.ignored) (tally-is b d is) in
      omega (arith, one, relayed, ignored, few_came)

  decided : (b : ℕ) (d : BridgeOutputs) → slice_get desks b ≡ Some d → (tally-of d).commits + (tally-of d).refusals ≤ 2 ^ 49
  decided b d is =
      let f = few b (low-at b d is) in
      let one = f.1.decided in
      let most = f.2 in
      let commits = ap (λ (c : Counts). c.commits) (tally-is b d is) in
      let refusals = ap (λ (c : Counts). c.refusals) (tally-is b d is) in
      omega (arith, one, most, commits, refusals)

  frames : (b : ℕ) (d : BridgeOutputs) → slice_get desks b ≡ Some d → (tally-of d).left ≤ length (external_ports d.manifest.tree) * 2 ^ 49
  frames b d is =
      let f = few b (low-at b d is) in
      let manifest = are.each b d.manifest (manifest-is b d is) in
      let one = few-frames r.net b came f.0 d.manifest.tree manifest.0 manifest.2 (dones b) f.1 few_came in
      let none = count_events-left (dones b).events nothing_counted in
      let same = ap (λ (c : Counts). c.left) (tally-is b d is) in
      omega (arith, one, none, same)

  pub can-end : CanEndAll desks
  can-end =
      let long = desks-long in
      let bridges = are.bridges in
      let ones = sum-ones desks in
      let both = sum-below (λ (d : BridgeOutputs). (tally-of d).relayed + (tally-of d).ignored) (λ (d : BridgeOutputs). 1) desks (λ b d is. let one = entered b d is in omega (arith, one)) in
      let relayed = sum-below (λ (d : BridgeOutputs). (tally-of d).relayed) (λ (d : BridgeOutputs). 1) desks (λ b d is. let one = entered b d is in omega (arith, one)) in
      let ignored = sum-below (λ (d : BridgeOutputs). (tally-of d).ignored) (λ (d : BridgeOutputs). 1) desks (λ b d is. let one = entered b d is in omega (arith, one)) in
      let commits = sum-below (λ (d : BridgeOutputs). (tally-of d).commits) (λ (d : BridgeOutputs). 1) desks (λ b d is. let one = decided b d is in omega (arith, one)) in
      let refusals = sum-below (λ (d : BridgeOutputs). (tally-of d).refusals) (λ (d : BridgeOutputs). 1) desks (λ b d is. let one = decided b d is in omega (arith, one)) in
      let left = sum-below (λ (d : BridgeOutputs). (tally-of d).left) (λ (d : BridgeOutputs). length (external_ports d.manifest.tree)) desks frames in
      let ports = are.ports in
      let mapped = sum-mapped (λ (p : Listed). length (external_ports p.tree)) (λ (d : BridgeOutputs). d.manifest) desks in
      let manifests = ap (sum_by (λ (p : Listed). length (external_ports p.tree))) are.manifests in
      let r1 = sum-mapped (λ (c : Counts). c.relayed) tally-of desks in
      let r2 = sum-mapped (λ (c : Counts). c.ignored) tally-of desks in
      let r3 = sum-mapped (λ (c : Counts). c.left) tally-of desks in
      let r4 = sum-mapped (λ (c : Counts). c.commits) tally-of desks in
      let r5 = sum-mapped (λ (c : Counts). c.refusals) tally-of desks in
      record {
        each = λ b d is.
            let f = few b (low-at b d is) in
            let manifest = are.each b d.manifest (manifest-is b d is) in
            record {
              counted = counts-of d.manifest d.counted.ports (dones b).events (dones b).passed (noted.each b d is).counted.ports;
              sent = counted_of d.manifest d.outputs (λ q. left_at q (dones b).left) (sizes-fit r.net b came f.0 d.manifest.tree manifest.0 manifest.2 (dones b) f.1 few_came) (noted.each b d is).sent;
            };
        fits = record {
          relayed = omega (arith, relayed, ones, long, bridges, r1);
          ignored = omega (arith, ignored, ones, long, bridges, r2);
          left = omega (arith, left, ports, mapped, manifests, r3);
          commits = omega (arith, commits, ones, long, bridges, r4);
          refusals = omega (arith, refusals, ones, long, bridges, r5);
        };
        few = omega (arith, relayed, ignored, ones, long, bridges, r1, r2);
      }

  -- ---- all that came was played
  module _ (all : ArePlayedEagerly r.net dones) (law : CountsGoOn) where
    shown-at : (b : ℕ) → b < r.net.count → IsShown r.net all.histories dones b
    shown-at b low = all.shown b low

    sent-at : (b : ℕ) → b < r.net.count → (q : ℕ) → is_external (tree_in r.net b) q ≡ true → left_at q (dones b).left ≡ flat (basis_in r.net b) ([] then (dones b).events) q
    sent-at b low q out = (shown-at b low).left q out ∙ ap (λ (h : History). flat (basis_in r.net b) h q) (shown-at b low).told

    -- the counts of a desk are those over its history
    counts-at : (b : ℕ) (d : BridgeOutputs) → slice_get desks b ≡ Some d → counts_of d.counted.tally ≡ counts_in r.net all.histories b
    counts-at b d is =
        let low = low-at b d is in
        let f = few b low in
        let manifest = are.each b d.manifest (manifest-is b d is) in
        tally-is b d is
        ∙ counts-whole (tree_in r.net b) (basis_in r.net b) (all.histories b) (dones b).events (dones b).left (sym (shown-at b low).told) (shown-at b low).left
        (subst (λ (t : Shape). All (LeftExternal t) (dones b).left) manifest.0 (own r.net b came f.0 d.manifest.tree manifest.0 manifest.2 (dones b) f.1 few_came))

    range-at : (a m b : ℕ) → b < m → slice_get (range_with_len a m) b ≡ Some (a + b)
    range-at a zero b low = absurd (omega (arith, low))
    range-at a (suc m) zero low = ap Some (omega arith)
    range-at a (suc m) (suc b) low = range-at (a + 1) m b (omega (arith, low)) ∙ ap Some (omega arith)

    length-range : (a m : ℕ) → length (range_with_len a m) ≡ m
    length-range a zero = refl
    length-range a (suc m) = ap suc (length-range (a + 1) m)

    length-mapped : {A B : Type 0} (f : A → B) (xs : List A) → length (map f xs) ≡ length xs
    length-mapped f [] = refl
    length-mapped f (x ∷ xs) = ap suc (length-mapped f xs)

    pub tallies-are : tallies_in desks ≡ map (counts_in r.net all.histories) (below r.net.count)
    unfolding below
    tallies-are =
        same-within (tallies_in desks) (map (counts_in r.net all.histories) (range_with_len 0 r.net.count))
        (length-mapped tally-of desks ∙ desks-long ∙ sym (length-mapped (counts_in r.net all.histories) (range_with_len 0 r.net.count) ∙ length-range 0 r.net.count))
        (λ b low.
        let there = is_there desks b (let long = length-mapped tally-of desks in omega (arith, low, long)) in
        slice_get-map tally-of desks b ∙ ap (option_map tally-of) there.1 ∙ ap Some (counts-at b there.0 there.1)
        ∙ sym (slice_get-map (counts_in r.net all.histories) (range_with_len 0 r.net.count) b ∙ ap (option_map (counts_in r.net all.histories)) (let first : 0 + b ≡ b = omega arith in range-at 0 r.net.count b (low-at b there.0 there.1) ∙ ap Some first)))

    pub written : (new : Files) (line : List ℕ) → AreWhole desks new dones → OnlyAllListed r.manifests r.before new → line ≡ summary_line (added (tallies_in desks)) → HasWritten r new line
    written new line whole others says = record {
      histories = all.histories;
      eager = all.eager;
      whole = λ b p is.
          let k = desk_at desks b p (ap (λ (qs : List Listed). slice_get qs b) are.manifests ∙ is) in
          let low = low-at b k.0 k.1 in
          let f = few b low in
          let own_manifest = are.each b p is in
          let now_noted = noted.each b k.0 k.1 in
          subst (λ (z : Listed). IsWhole z new (output_text (r.net.input b) (all.histories b) [])) k.2
          (record {
            each = λ j lt.
                let manifest = are.each b k.0.manifest (manifest-is b k.0 k.1) in
                (whole.each b k.0 k.1).each j lt
                ∙ ap Some (texts-whole r.net b k.0.manifest manifest.0 manifest.1 (dones b) all.histories (sent-at b low) (shown-at b low).passed k.0.counted.ports k.0.outputs now_noted.counted.ports now_noted.sent
                (sizes-fit r.net b came f.0 k.0.manifest.tree manifest.0 manifest.2 (dones b) f.1 few_came) law j lt
                ∙ ap (λ (h : History). output_text (r.net.input b) h [] (kind_at k.0.manifest j)) (sym (shown-at b low).told));
          });
      others = others;
      says = says ∙ ap (λ (cs : List Counts). summary_line (added cs)) tallies-are;
    }

-- ---- the whole
pub ended : {V : Type 0} {X : V → Type 0} (tells : Type 0) (r : NetRun) (now : Files) (ids : ℕ → Id) (g : NetPlayer V X) → (k : IsAllTold tells r now ids g) → tells → NetsArePlayedEagerly → CountsGoOn → (new : Files) (line : List ℕ) →
    AreWhole g.desks.items new k.dones → OnlyAllListed (manifests_in g.desks.items) now new → line ≡ summary_line (added (tallies_in g.desks.items)) → HasWritten r new line
ended tells r now ids g k t law counts new line whole only says =
    written tells r now ids g.desks.items k.is.desks k.dones k.is.noted k.came k.few_came k.few
    (law r.net k.is.start k.dones k.is.playing.net k.is.playing.vids k.is.timely k.is.opened k.is.plays) counts new line whole
    (λ m other. subst (λ (qs : List Listed). OnlyAllListed qs now new) k.is.desks.manifests only m other ∙ k.is.desks.files t m other) says

pub ended-cut : {V : Type 0} {X : V → Type 0} (tells : Type 0) (r : NetRun) (now : Files) (ids : ℕ → Id) (g : NetPlayer V X) → (k : IsAllTold tells r now ids g) → tells → (new : Files) →
    AreAllFronts (manifests_in g.desks.items) new k.dones → OnlyAllListed (manifests_in g.desks.items) now new → IsCutOff r new
ended-cut tells r now ids g k t new fronts only =
    inr (record {
      ds = dues r.net;
      rest = [];
      dues_are = sym (append-nil (dues r.net));
      here = k.here;
      order = k.order;
      start = k.is.start;
      dones = k.dones;
      opened = k.is.opened;
      plays = k.is.plays;
      vids = k.is.playing.vids;
      others = λ m other. subst (λ (qs : List Listed). OnlyAllListed qs now new) k.is.desks.manifests only m other ∙ k.is.desks.files t m other;
      fronts = subst (λ (qs : List Listed). AreAllFronts qs new k.dones) k.is.desks.manifests fronts;
    })

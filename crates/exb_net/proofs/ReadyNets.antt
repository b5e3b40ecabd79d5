-- A net that was prepared can be played once its captures are open again.
use Rattle.std.proofs.Common.{◌≡◌, ◌≢◌, ℕ, zero, suc, ◌+◌, ◌^◌, ◌<◌, ◌≤◌, Bool, true, false, List, [], ◌∷◌, drop, get_or, length, map, Some, refl, ap, sym, ◌∙◌, subst, arith}
use Rattle.std.specs.Prelude.{All, slice_get}
use Rattle.std.specs.List.{AllByRecursion}
use Rattle.std.specs.declared.alloc.Global.{Global}
use Rattle.std.specs.declared.vec.Vec.{Vec}
use Rattle.std.proofs.lemmas.List.{length-map}
use Rattle.std.proofs.lemmas.Option.{get_or_from_slice_get, slice_get-map, slice_get_within}
use Rattle.exb_inputs.specs.declared.captures.CheckedCapture.{CheckedCapture}
use Rattle.exb_inputs.specs.ShelfEffects.{ReadsCapture}
use Rattle.exb_timeline.specs.declared.bridge_timeline.Timeline.{Timeline}
use Rattle.exb_timeline.specs.NetMergeOrder.{all_ids}
use Rattle.exb_timeline.specs.CaptureMerges.{ReadsOn}
use Rattle.exb_model.specs.declared.setup.Setup.{Setup}
use Rattle.exb_net_spec.specs.declared.wires.Wire.{Wire}
use Rattle.exb_net_spec.specs.Nets.{Net, IsNet}
use Rattle.exb_net.specs.declared.net.Net.{Net as Bridges}
use Rattle.exb_net.specs.declared.node.Node.{Node}
use Rattle.exb_net.specs.PairedLists.{AreEach}
use Rattle.exb_net.specs.NetStates.{IsBegun, IsSetupOf}
use Rattle.exb_net.proofs.ListPlaces.{is_there}
use Rattle.exb_net_file.specs.declared.net_parts.NetParts.{NetParts}
use Rattle.exb_net_file.specs.declared.net_parts.BridgeInputs.{BridgeInputs}
use Rattle.exb_net_file.specs.declared.members.NetMember.{NetMember}
use Rattle.exb_net_file.specs.SetupParts.{IsTakenApart, rest_of, setup_in}
use Rattle.exb_net_file.specs.Soundness.{NetsAreTimely}
use Rattle.exb_inputs.specs.NetContents.{AreRead}
use Rattle.exb_inputs.specs.NetLaws.{AreInputsOf}
use Rattle.exb_inputs.specs.OpenedNetFiles.{ReadsMemberCapture}
use Rattle.exb_outputs.specs.InputsApart.{AreApart}
use Rattle.exb_outputs.specs.Manifests.{Listed}
use Rattle.exb_schedule.specs.SegmentRuns.{letters_in}
use Rattle.exb_shelf.specs.Files.{Files, SameFiles}
use Rattle.exb_shelf.specs.Shelf.{Id, Opens}
use Rattle.exb_topology.specs.Soundness.{IsSound}
use Rattle.exb_net.specs.declared.bridge_outputs.BridgeOutputs.{BridgeOutputs}
use Rattle.exb_net.specs.Nets.{net_of, manifest_with}
use Rattle.exb_net.specs.Preparation.{CanPlay, IsPrepared, run_of}
use Rattle.exb_net.specs.NetInvariants.{AreOfRests, Begins, IsWithin, LeadsOn}
use Rattle.exb_net.proofs.BridgeFiles.{mapped_some}
use Rattle.exb_net.proofs.PreparedFiles.{can_play}
use Rattle.exb_net.proofs.PreparationLemmas.{made_of, net_is, setup_of}
use Rattle.exb_net.proofs.UntouchedCaptures.{captures_apart}

-- ---- ids of captures
reads_given : (ms : List NetMember) (ids : ℕ → Id) (mine : List ℕ) → AllByRecursion (λ k. ReadsMemberCapture ms (ids k)) mine → AllByRecursion (λ k. (ids k).given ≡ true) mine
reads_given ms ids [] all = tt
reads_given ms ids (k ∷ mine) all = (all.0.capture.reads.given, reads_given ms ids mine all.1)

not_among : (a : ℕ → Id) (j : ℕ) (mine : List ℕ) → (a j).given ≡ true → AllByRecursion (λ k. (a k).given ≡ false) mine → AllByRecursion (λ k. j ≢ k) mine
not_among a j [] given all = tt
not_among a j (k ∷ mine) given all = ((λ same. let z : true ≡ false = sym given ∙ (ap (λ (i : ℕ). (a i).given) same ∙ all.0) in absurd (cc)), not_among a j mine given all.1)

none_among : (a : ℕ → Id) (j : ℕ) (mine : List ℕ) → (a j).given ≡ false → AllByRecursion (λ k. (a k).given ≡ true) mine → AllByRecursion (λ k. j ≢ k) mine
none_among a j [] free all = tt
none_among a j (k ∷ mine) free all = ((λ same. let z : true ≡ false = sym all.0 ∙ (ap (λ (i : ℕ). (a i).given) (sym same) ∙ free) in absurd (cc)), none_among a j mine free all.1)

-- captures that are open are read on
pub opens_on : (ms : List NetMember) (a b c : ℕ → Id) (mine : List ℕ) → Opens (ReadsMemberCapture ms) a b → AllByRecursion (λ k. (a k).given ≡ false) mine → AllByRecursion (λ k. ReadsMemberCapture ms (b k)) mine → ReadsOn mine b c →
    Opens (ReadsMemberCapture ms) a c
opens_on ms a b c mine opens fresh named reads = record {
  fresh = λ j was now. by_given j was now (b j).given refl;
  rises = λ i j given was now. opens.rises i j given was (stays j now (b j).given refl);
  kept = λ j given. reads.others j (not_among a j mine given fresh) ∙ opens.kept j given;
}
  where
    stays : (j : ℕ) → (c j).given ≡ true → (g : Bool) → (b j).given ≡ g → (b j).given ≡ true
    stays j now true is = is
    stays j now false is =
        let same : c j ≡ b j = reads.others j (none_among b j mine is (reads_given ms b mine named)) in
        absurd (let both : true ≡ false = sym now ∙ ap (λ (i : Id). i.given) same ∙ is in cc)

    by_given : (j : ℕ) → (a j).given ≡ false → (c j).given ≡ true → (g : Bool) → (b j).given ≡ g → ReadsMemberCapture ms (c j)
    by_given j was now g is =
        let own : ReadsMemberCapture ms (b j) = opens.fresh j was (stays j now g is) in
        let capture : ReadsCapture own.member.topology.captures (b j) = own.capture in
        record { bridge = own.bridge; member = own.member; is_there = own.is_there; capture = record { port = capture.port; name = capture.name; named = capture.named; reads = reads.same j capture.name capture.reads } }

-- they have no names of outputs
module _ (counters : Bool) (ms : List NetMember) (ws : List Wire) (read : AreRead ms ws) (ids : ℕ → Id) where
  apart_of : (c : ℕ) (k : NetMember) → slice_get ms c ≡ Some k → (mine : List ℕ) → AllByRecursion (λ i. ReadsMemberCapture ms (ids i)) mine → AreApart (manifest_with counters k) ids mine
  apart_of c k so [] all = tt
  apart_of c k so (i ∷ mine) all =
      let own = all.0 in
      ((own.capture.name, own.capture.reads, λ j low. captures_apart ms read.written ws read.wired own.bridge own.member own.is_there own.capture.port own.capture.name own.capture.named counters c k so j low), apart_of c k so mine all.1)

  pub reads_others : (mine : List ℕ) → AllByRecursion (λ i. ReadsMemberCapture ms (ids i)) mine → (b : ℕ) (p : Listed) → slice_get (map (manifest_with counters) ms) b ≡ Some p → AreApart p ids mine
  reads_others mine all b p is =
      let k = mapped_some (manifest_with counters) (slice_get ms b) p (sym (slice_get-map (manifest_with counters) ms b) ∙ is) in
      subst (λ (z : Listed). AreApart z ids mine) k.2 (apart_of b k.0 k.1 mine all)

-- ---- letters and verdicts
module _ (ms : List NetMember) (rests : List BridgeInputs) (same : rests ≡ map rest_of ms) (sound : All (λ m. IsSound m.topology) ms) where
  -- those of a bridge are few
  few_at : (b : ℕ) (r : BridgeInputs) → slice_get rests b ≡ Some r → length r.fate + letters_in r.commands ≤ 60000
  few_at b r is =
      let m = mapped_some rest_of (slice_get ms b) r (sym (slice_get-map rest_of ms b) ∙ (ap (λ (xs : List BridgeInputs). slice_get xs b) (sym same) ∙ is)) in
      let own : IsSound m.0.topology = subst (λ (x : NetMember). IsSound x.topology) (get_or_from_slice_get ms b m.0 m.0 m.1) (sound b m.0 (slice_get_within ms b m.0 m.1)) in
      subst (λ (x : BridgeInputs). length x.fate + letters_in x.commands ≤ 60000) m.2 own.few_letters

  get_there : {A : Type 0} (xs : List A) (k : ℕ) (d : A) → k < length xs → slice_get xs k ≡ Some (get_or xs k d)
  get_there [] k d low = absurd (omega (arith, low))
  get_there (x ∷ xs) zero d low = refl
  get_there (x ∷ xs) (suc k) d low = get_there xs k d (omega (arith, low))

  pub fates_few : {F : Type 0} (left : F → ℕ) (fates : List F) → AreEach (λ b r f. left f < 2 ^ 56 + length r.fate) rests fates → All (λ f. left f < 2 ^ 57) fates
  fates_few left fates armed k d low =
      let long = armed.long in
      let r = is_there rests k (omega (arith, long, low)) in
      let own = armed.each k r.0 (get_or fates k d) r.1 (get_there fates k d low) in
      let few = few_at k r.0 r.1 in
      omega (arith, own, few)

  pub within_of : {V : Type 0} {X : V → Type 0} {F : Type 0} (verdicts : Node V X → ℕ) (left : F → ℕ) (fates : List F) (nodes : List (Node V X)) (ps : List Timeline) → AreEach (λ b r f. left f < 2 ^ 56 + length r.fate) rests fates →
      AreEach (λ b f x. verdicts x ≡ left f) fates nodes → AreOfRests rests ps → ((b : ℕ) (p : Timeline) → slice_get ps b ≡ Some p → p.taken ≡ 0) → IsWithin nodes verdicts ps
  within_of verdicts left fates nodes ps armed made own none =
      record {
        each = λ b x p here there.
            let low = slice_get_within nodes b x here in
            let long = armed.long in
            let as_many = made.long in
            let f = is_there fates b (omega (arith, low, as_many)) in
            let r = is_there rests b (omega (arith, low, as_many, long)) in
            let verdicts_are = made.each b f.0 x f.1 here in
            let few = armed.each b r.0 f.0 r.1 f.1 in
            let few_letters = few_at b r.0 r.1 in
            let letters : letters_in (drop p.taken p.commands.now) ≡ letters_in r.0.commands =
            ap (λ (k : ℕ). letters_in (drop k p.commands.now)) (none b p there) ∙ ap letters_in (own.each b r.0 p r.1 there) in
            omega (arith, verdicts_are, few, few_letters, letters);
      }

-- ---- the whole
pub into_can : AreInputsOf → NetsAreTimely → {V : Type 0} {X : V → Type 0} (tells : Type 0) (counters : Bool) (ms : List NetMember) (ws : List Wire) (parts : NetParts) (checked : List (Vec CheckedCapture Global)) (before f g : Files)
    (given ids : ℕ → Id) (desks : List BridgeOutputs) (ps : List Timeline) (x : Bridges V X) → IsPrepared tells counters ms ws parts checked before f given desks → SameFiles f g → Opens (ReadsMemberCapture ms) given ids →
    AllByRecursion (λ k. ReadsMemberCapture ms (ids k)) (all_ids ps) → Begins (net_of ms ws f) ps → (tells → LeadsOn (net_of ms ws f) [] g ids ps) → ((n : Net) → IsSetupOf n parts.setup → IsNet n → IsBegun n x) →
    CanPlay tells (run_of counters ms ws f before) g ids x desks ps
into_can inputs timely tells counters ms ws parts checked before f g given ids desks ps x p same opens named begins leads begun =
    can_play tells (run_of counters ms ws f before) f g given ids desks (ReadsMemberCapture ms) same opens x ps (timely ms ws (net_of ms ws f) p.read.sound (made_of ms ws f inputs))
    (begun (net_of ms ws f) (setup_of ms ws f parts p.parts_are) (net_is ms ws f inputs p.read)) p.set p.noted begins (record { each = λ b q is. reads_others counters ms ws p.read ids (all_ids ps) named b q is }) leads

-- a fate for each bridge
pub as_many : (ms : List NetMember) (parts : NetParts) (ws : List Wire) → IsTakenApart ms ws parts → length parts.rests ≡ length parts.setup.setups
as_many ms parts ws taken =
    ap (λ (xs : List BridgeInputs). length xs) taken.rests ∙ (length-map ms rest_of ∙ (sym (length-map ms setup_in) ∙ ap (λ (xs : List Setup). length xs) (sym taken.setups)))

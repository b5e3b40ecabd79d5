-- Desks of several bridges on one shelf: what is done at one of them leaves the others as they are.
use Rattle.std.proofs.Common.{◌≡◌, ◌≢◌, ℕ, zero, suc, ◌+◌, ◌<◌, ◌≤◌, cond, nat_lt, List, [], ◌∷◌, length, set, take, Some, None, refl, ap, sym, ◌∙◌, subst, arith, inl, inr}
use mathlib.Core.Path.{fun_ext}
use Rattle.std.specs.Prelude.{slice_get}
use Rattle.std.proofs.lemmas.Bool.{cases_eq, cases_lt, lt-ltb, le-ltb}
use Rattle.std.proofs.lemmas.Option.{same_Some, slice_get_within}
use Rattle.exb_world_spec.specs.Steps.{Stepped}
use Rattle.exb_world.specs.WorldContracts.{Network}
use Rattle.exb_shelf.specs.Files.{Files}
use Rattle.exb_shelf.specs.Shelf.{Id}
use Rattle.exb_outputs.specs.Manifests.{Listed, kind_at, output_count, output_name}
use Rattle.exb_outputs.specs.ShelfEffects.{OnlyWrites}
use Rattle.exb_model.specs.Texts.{Counts}
use Rattle.exb_journal.specs.Tallies.{counts_of}
use Rattle.exb_outputs.specs.declared.run_counts.RunCounts.{RunCounts}
use Rattle.exb_outputs.specs.Counts.{counts_text}
use Rattle.exb_journal.specs.declared.file_names.OutputKind.{OutputKind}
use Rattle.exb_outputs.specs.WrittenTexts.{HasTexts, IsReady, pieces_of}
use Rattle.exb_outputs.proofs.OutputPrefixes.{GoesOnAs}
use Rattle.exb_net_laws.specs.NetRuns.{Dones}
use Rattle.exb_net.specs.declared.node.Node.{Node}
use Rattle.exb_net.specs.BridgeSets.{AreQuietFrom}
use Rattle.exb_net.proofs.ListPlaces.{is_there, set_here, set_there}
use Rattle.exb_net.specs.declared.bridge_outputs.BridgeOutputs.{BridgeOutputs}
use Rattle.exb_net.specs.WrittenOutputs.{AreAllFronts, AreFronts, AreMore, AreNoted, AreManifestsApart, AreReady, AreWhole, IsMore, IsNoted, IsWhole, OnlyAllListed, OnlyWritesAll, manifests_in, tallies_in, text_of}
use Rattle.exb_net.proofs.OutputUpdates.{fronts_now, goes-on, goes-same, quiet-noted, texts_stay}

-- ---- manifests of desks
pub manifest_at : (ds : List BridgeOutputs) (b : ℕ) (d : BridgeOutputs) → slice_get ds b ≡ Some d → slice_get (manifests_in ds) b ≡ Some d.manifest
manifest_at [] b d e = absurd (let z : None ≡ Some d = e in cc)
manifest_at (x ∷ ds) zero d e = ap (λ (y : BridgeOutputs). Some y.manifest) (same_Some x d e)
manifest_at (x ∷ ds) (suc b) d e = manifest_at ds b d e

pub desk_at : (ds : List BridgeOutputs) (b : ℕ) (p : Listed) → slice_get (manifests_in ds) b ≡ Some p → (d : BridgeOutputs) × (slice_get ds b ≡ Some d) × (d.manifest ≡ p)
desk_at [] b p e = absurd (let z : None ≡ Some p = e in cc)
desk_at (x ∷ ds) zero p e = (x, refl, same_Some x.manifest p e)
desk_at (x ∷ ds) (suc b) p e = desk_at ds b p e

pub manifests_set : (ds : List BridgeOutputs) (i : ℕ) (d e : BridgeOutputs) → slice_get ds i ≡ Some d → e.manifest ≡ d.manifest → manifests_in (set ds i e) ≡ manifests_in ds
manifests_set [] i d e is same = refl
manifests_set (x ∷ ds) zero d e is same = ap (λ (p : Listed). p ∷ manifests_in ds) (same ∙ ap (λ (y : BridgeOutputs). y.manifest) (sym (same_Some x d is)))
manifests_set (x ∷ ds) (suc i) d e is same = ap (λ (ps : List Listed). x.manifest ∷ ps) (manifests_set ds i d e is same)

pub manifests-long : (ds : List BridgeOutputs) → length (manifests_in ds) ≡ length ds
manifests-long [] = refl
manifests-long (x ∷ ds) = ap suc (manifests-long ds)

pub manifests-same-long : (xs ys : List BridgeOutputs) → manifests_in xs ≡ manifests_in ys → length xs ≡ length ys
manifests-same-long xs ys same = sym (manifests-long xs) ∙ ap (λ (ps : List Listed). length ps) same ∙ manifests-long ys

-- ---- files of one manifest and of another
module _ (ds : List BridgeOutputs) (apart : AreManifestsApart (manifests_in ds)) (i : ℕ) (d : BridgeOutputs) (here : slice_get ds i ≡ Some d) where
  -- those of another manifest haven't changed
  pub others_stay : (f g : Files) → ((m : List ℕ) → ((j : ℕ) → j < output_count d.manifest → m ≢ output_name d.manifest j) → g m ≡ f m) → (b : ℕ) (p : Listed) → slice_get (manifests_in ds) b ≡ Some p → b ≢ i →
      (j : ℕ) → j < output_count p → g (output_name p j) ≡ f (output_name p j)
  others_stay f g only b p is ne j low = only (output_name p j) (λ k k_low e. apart.each b i p d.manifest is (manifest_at ds i d here) ne j k low k_low e)

  -- no file has changed but those of all
  pub only_all : (f g : Files) → ((m : List ℕ) → ((j : ℕ) → j < output_count d.manifest → m ≢ output_name d.manifest j) → g m ≡ f m) → OnlyAllListed (manifests_in ds) f g
  only_all f g only m other = only m (λ j low. other i d.manifest (manifest_at ds i d here) j low)

  pub only_one : (tells : Type 0) (f g h : Files) (a b c : ℕ → Id) → OnlyWritesAll tells (manifests_in ds) f g a b → OnlyWrites tells d.manifest g h b c → OnlyWritesAll tells (manifests_in ds) f h a c
  only_one tells f g h a b c before one = record {
    others = λ t m other. only_all g h (one.others t) m other ∙ before.others t m other;
    kept = λ j. one.kept j ∙ before.kept j;
  }

pub only_none : (tells : Type 0) (ps : List Listed) (f : Files) (a : ℕ → Id) → OnlyWritesAll tells ps f f a a
only_none tells ps f a = record { others = λ t m other. refl; kept = λ j. refl }

-- ---- one desk after another
-- another element in one place
module _ {A : Type 0} (P Q : ℕ → A → Type 0) (xs : List A) (i : ℕ) (x y : A) (is : slice_get xs i ≡ Some x) where
  pub each_but : ((b : ℕ) (z : A) → slice_get xs b ≡ Some z → P b z) → ((b : ℕ) (z : A) → b ≢ i → slice_get xs b ≡ Some z → P b z → Q b z) → Q i y → (b : ℕ) (z : A) → slice_get (set xs i y) b ≡ Some z → Q b z
  each_but all keep own b z e = elim (cases_eq b i) [
    | inl same ↦
        let low = slice_get_within xs i x is in
        let there : slice_get (set xs i y) i ≡ Some z = subst (λ (k : ℕ). slice_get (set xs i y) k ≡ Some z) same e in
        subst (λ (k : ℕ). Q k z) (sym same) (subst (Q i) (same_Some y z (sym (set_here xs i y low) ∙ there)) own)
    | inr ne ↦ (let was = sym (set_there xs i b y ne) ∙ e in keep b z ne was (all b z was))
  ]

-- those below a place are of these, and the others of those
abbrev pub upto : ℕ → Dones → Dones → Dones
upto k told dones b = cond (nat_lt b k) (dones b) (told b)

pub upto_low : (k b : ℕ) (told dones : Dones) → b < k → upto k told dones b ≡ dones b
upto_low k b told dones low = rw (lt-ltb b k low) refl

pub upto_high : (k b : ℕ) (told dones : Dones) → k ≤ b → upto k told dones b ≡ told b
upto_high k b told dones high = rw (le-ltb b k high) refl

pub upto_none : (told dones : Dones) → upto 0 told dones ≡ told
upto_none told dones = (let same : (b : ℕ) → upto 0 told dones b ≡ told b = λ b. upto_high 0 b told dones (omega arith) in fun_ext same)

pub upto_other : (k b : ℕ) (told dones : Dones) → b ≢ k → upto (k + 1) told dones b ≡ upto k told dones b
upto_other k b told dones ne = elim (cases_lt b k) [
  | inl low ↦ upto_low (k + 1) b told dones (omega (arith, low)) ∙ sym (upto_low k b told dones low)
  | inr high ↦ upto_high (k + 1) b told dones (omega (arith, high, ne)) ∙ sym (upto_high k b told dones (omega (arith, high)))
]

-- a desk that isn't written has what it had
pub noted_stays : (tells : Type 0) (f g : Files) (d : BridgeOutputs) (done : Stepped) → (tells → (j : ℕ) → j < output_count d.manifest → g (output_name d.manifest j) ≡ f (output_name d.manifest j)) → IsNoted tells f d done → IsNoted tells g d done
noted_stays tells f g d done same is = record { counted = is.counted; texts = λ t. texts_stay d.manifest (pieces_of d.outputs) f g (text_of done []) (same t) (is.texts t); sent = is.sent }

-- what is noted up to a place, at one more
pub noted_more : (tells : Type 0) (f g : Files) (ds : List BridgeOutputs) (i : ℕ) (d e : BridgeOutputs) (told dones : Dones) → AreManifestsApart (manifests_in ds) → slice_get ds i ≡ Some d →
    (tells → (m : List ℕ) → ((j : ℕ) → j < output_count d.manifest → m ≢ output_name d.manifest j) → g m ≡ f m) → AreNoted tells f ds (upto i told dones) → (IsNoted tells f d (told i) → IsNoted tells g e (dones i)) →
    AreNoted tells g (set ds i e) (upto (i + 1) told dones)
noted_more tells f g ds i d e told dones apart here only noted own = record {
  each = each_but (λ b x. IsNoted tells f x (upto i told dones b)) (λ b x. IsNoted tells g x (upto (i + 1) told dones b)) ds i d e here noted.each
      (λ b x ne is old. subst (IsNoted tells g x) (sym (upto_other i b told dones ne)) (noted_stays tells f g x (upto i told dones b) (λ t. others_stay ds apart i d here f g (only t) b x.manifest (manifest_at ds b x is) ne) old))
      (subst (IsNoted tells g e) (sym (upto_low (i + 1) i told dones (omega arith))) (own (subst (IsNoted tells f d) (upto_high i i told dones (omega arith)) (noted.each i d here))));
}

-- so much is noted up to a later place too, where the bridges between told nothing
pub noted_skip : {V : Type 0} {X : V → Type 0} (nodes : List (Node V X)) (tells : Type 0) (f : Files) (ds : List BridgeOutputs) (i j : ℕ) (told dones : Dones) → i ≤ j → j ≤ length nodes → AreQuietFrom i j nodes → AreMore told dones nodes →
    AreNoted tells f ds (upto i told dones) → AreNoted tells f ds (upto j told dones)
noted_skip nodes tells f ds i j told dones high within quiet more noted = record {
  each = λ b d is. elim (cases_lt b i) [
    | inl low ↦ subst (IsNoted tells f d) (upto_low i b told dones low ∙ sym (upto_low j b told dones (omega (arith, low, high)))) (noted.each b d is)
    | inr from ↦
        let was = subst (IsNoted tells f d) (upto_high i b told dones (omega (arith, from))) (noted.each b d is) in
        elim (cases_lt b j) [
          | inl low ↦
              let x = is_there nodes b (omega (arith, low, within)) in
              subst (IsNoted tells f d) (sym (upto_low j b told dones low)) (quiet-noted (told b) (dones b) x.0.world (more.each b x.0 x.1) tells f d (quiet.each b x.0 (omega (arith, from)) low x.1) was)
          | inr past ↦ subst (IsNoted tells f d) (sym (upto_high j b told dones (omega (arith, past)))) was
        ]
  ];
}

-- and each desk can be written
pub ready_more : (given ids : ℕ → Id) (ds : List BridgeOutputs) (i : ℕ) (d e : BridgeOutputs) → slice_get ds i ≡ Some d → ((j : ℕ) → ids j ≡ given j) → AreReady given ds → IsReady e.manifest ids e.outputs → AreReady ids (set ds i e)
ready_more given ids ds i d e here kept ready own = record {
  each = each_but (λ b x. IsReady x.manifest given x.outputs) (λ b x. IsReady x.manifest ids x.outputs) ds i d e here ready.each
      (λ b x ne is old. record { files = old.files; named = λ j low. kept _ ∙ old.named j low }) own;
}

-- at all places
pub noted_all : (tells : Type 0) (f : Files) (ds : List BridgeOutputs) (k : ℕ) (told dones : Dones) → length ds ≤ k → AreNoted tells f ds (upto k told dones) → AreNoted tells f ds dones
noted_all tells f ds k told dones end noted = record {
  each = λ b d is. subst (IsNoted tells f d) (upto_low k b told dones (let low = slice_get_within ds b d is in omega (arith, low, end))) (noted.each b d is);
}

-- ---- where one of them was cut off
-- what bridges did goes on as what they did then
abbrev pub AllGoOn : List BridgeOutputs → Dones → Dones → Type 0
AllGoOn ds told dones = (b : ℕ) (d : BridgeOutputs) → slice_get ds b ≡ Some d → (n : Network) × IsMore (told b) (dones b) n

goes-upto : (k b : ℕ) (told dones : Dones) (n : Network) → IsMore (told b) (dones b) n → (o : OutputKind) → GoesOnAs (text_of (upto k told dones b) []) (text_of (dones b) []) o
goes-upto k b told dones n more o = elim (cases_lt b k) [
  | inl low ↦ subst (λ (d : Stepped). GoesOnAs (text_of d []) (text_of (dones b) []) o) (sym (upto_low k b told dones low)) (goes-same (dones b) o)
  | inr high ↦ subst (λ (d : Stepped). GoesOnAs (text_of d []) (text_of (dones b) []) o) (sym (upto_high k b told dones (omega (arith, high)))) (goes-on (told b) (dones b) n more o)
]

pub fronts_more : (f g : Files) (ds : List BridgeOutputs) (i : ℕ) (d : BridgeOutputs) (told dones : Dones) → AreManifestsApart (manifests_in ds) → slice_get ds i ≡ Some d → ((m : List ℕ) → ((j : ℕ) → j < output_count d.manifest → m ≢ output_name d.manifest j) → g m ≡ f m) →
    ((b : ℕ) (k : BridgeOutputs) → slice_get ds b ≡ Some k → HasTexts k.manifest (pieces_of k.outputs) f f (text_of (upto i told dones b) [])) → AllGoOn ds told dones → AreFronts d.manifest g (dones i) → AreAllFronts (manifests_in ds) g dones
fronts_more f g ds i d told dones apart here only texts goes own = record {
  each = λ b q is.
      let k = desk_at ds b q is in
      elim (cases_eq b i) [
        | inl same ↦
            let there : d ≡ k.0 = same_Some d k.0 (sym here ∙ subst (λ (z : ℕ). slice_get ds z ≡ Some k.0) same k.1) in
            subst (λ (z : Listed). AreFronts z g (dones b)) (ap (λ (y : BridgeOutputs). y.manifest) there ∙ k.2) (subst (λ (z : ℕ). AreFronts d.manifest g (dones z)) (sym same) own)
        | inr ne ↦
            let on = goes b k.0 k.1 in
            subst (λ (z : Listed). AreFronts z g (dones b)) k.2
            (record {
              counts = [];
              each = λ j low.
                  let r = fronts_now k.0.manifest (pieces_of k.0.outputs) f (text_of (upto i told dones b) []) (text_of (dones b) []) (goes-upto i b told dones on.0 on.1) (texts b k.0 k.1) j low in
                  (r.0, others_stay ds apart i d here f g only b k.0.manifest (manifest_at ds b k.0 k.1) ne j low ∙ r.1);
            })
      ];
}

-- ---- the end
pub tallies_set : (ds : List BridgeOutputs) (i : ℕ) (d e : BridgeOutputs) → slice_get ds i ≡ Some d → e.counted ≡ d.counted → tallies_in (set ds i e) ≡ tallies_in ds
tallies_set [] i d e is same = refl
tallies_set (x ∷ ds) zero d e is same = ap (λ (c : Counts). c ∷ tallies_in ds) (ap (λ (c : RunCounts). counts_of c.tally) same ∙ ap (λ (y : BridgeOutputs). counts_of y.counted.tally) (sym (same_Some x d is)))
tallies_set (x ∷ ds) (suc i) d e is same = ap (λ (cs : List Counts). counts_of x.counted.tally ∷ cs) (tallies_set ds i d e is same)

pub whole_stays : (f g : Files) (p : Listed) (text : OutputKind → List ℕ) → ((j : ℕ) → j < output_count p → g (output_name p j) ≡ f (output_name p j)) → IsWhole p f text → IsWhole p g text
whole_stays f g p text same whole = record { each = λ j low. same j low ∙ whole.each j low }

take-whole : (xs : List ℕ) → xs ≡ take (length xs) xs
take-whole [] = refl
take-whole (x ∷ xs) = ap (λ (ys : List ℕ). x ∷ ys) (take-whole xs)

pub whole_fronts : (f : Files) (p : Listed) (done : Stepped) (counts : List ℕ) → IsWhole p f (text_of done counts) → AreFronts p f done
whole_fronts f p done counts whole = record { counts = counts; each = λ j low. (length (text_of done counts (kind_at p j)), whole.each j low ∙ ap Some (take-whole (text_of done counts (kind_at p j)))) }

pub now_fronts : (f : Files) (d : BridgeOutputs) (done : Stepped) → HasTexts d.manifest (pieces_of d.outputs) f f (text_of done []) → AreFronts d.manifest f done
now_fronts f d done texts = record { counts = []; each = fronts_now d.manifest (pieces_of d.outputs) f (text_of done []) (text_of done []) (goes-same done) texts }

pub fronts_stay : (f g : Files) (p : Listed) (done : Stepped) → ((j : ℕ) → j < output_count p → g (output_name p j) ≡ f (output_name p j)) → AreFronts p f done → AreFronts p g done
fronts_stay f g p done same fronts = record { counts = fronts.counts; each = λ j low. (let r = fronts.each j low in (r.0, same j low ∙ r.1)) }

-- all of them
pub whole_all_fronts : (f : Files) (ds : List BridgeOutputs) (dones : Dones) → AreWhole ds f dones → AreAllFronts (manifests_in ds) f dones
whole_all_fronts f ds dones whole = record {
  each = λ b q is.
      let k = desk_at ds b q is in
      subst (λ (z : Listed). AreFronts z f (dones b)) k.2 (whole_fronts f k.0.manifest (dones b) (counts_text k.0.manifest k.0.counted.ports k.0.outputs) (whole.each b k.0 k.1));
}

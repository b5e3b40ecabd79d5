-- The files of all bridges are made, one bridge after another.
use Rattle.std.proofs.Common.{◌≡◌, ◌≢◌, ℕ, zero, suc, ◌+◌, ◌<◌, ◌≤◌, ◌++◌, Bool, true, List, [], ◌∷◌, drop, get_or, length, map, take, Option, Some, None, Result, Ok, Err, refl, ap, sym, ◌∙◌, subst, arith, inl, inr}
use Rattle.std.specs.Prelude.{All, AllPairs, option_map, slice_get, slice_index_or}
use Rattle.std.proofs.lemmas.Bool.{cases_eq, cases_lt}
use Rattle.std.proofs.lemmas.Grind.{flat_map-append}
use Rattle.std.proofs.lemmas.List.{append-nil, append_assoc, length-append, length-map}
use Rattle.std.proofs.lemmas.Option.{get_or_from_slice_get, slice_get-map, slice_get_within}
use Rattle.exb_inputs.specs.declared.fault.Fault.{Fault}
use Rattle.exb_model.specs.declared.setup.Setup.{Setup}
use Rattle.exb_net_spec.specs.declared.wires.Wire.{Wire}
use Rattle.exb_net.proofs.ListPlaces.{at_place}
use Rattle.exb_net_file.specs.declared.net_parts.NetParts.{NetParts}
use Rattle.exb_net_file.specs.declared.net_parts.BridgeInputs.{BridgeInputs}
use Rattle.exb_net_file.specs.declared.members.NetMember.{NetMember}
use Rattle.exb_net_file.specs.SetupParts.{IsTakenApart, rest_of, setup_in}
use Rattle.exb_net_file.specs.Soundness.{BridgesWriteApart}
use Rattle.exb_net_file.specs.EndNames.{is_name}
use Rattle.exb_outputs.specs.OutputNames.{IsCut}
use Rattle.exb_outputs.specs.CreationOrder.{MadeInOrder, MakesInOrder}
use Rattle.exb_outputs.specs.Manifests.{Listed, kind_at, output_count, output_name}
use Rattle.exb_outputs.specs.ShelfEffects.{IsOfWriting, OnlyMakes, WritesListed}
use Rattle.exb_outputs.specs.WrittenTexts.{AreCut, HasTexts, first_text, pieces_of}
use Rattle.exb_outputs.proofs.CreationOrder.{writing_not_read}
use Rattle.exb_outputs.proofs.KindPlaces.{kind_is}
use Rattle.exb_outputs.proofs.OutputPrefixes.{both_parts}
use Rattle.exb_shelf.specs.Files.{Files}
use Rattle.exb_shelf.specs.Shelf.{Id, Opens}
use Rattle.exb_shelf.proofs.IdLemmas.{opens_none, opens_then, opens_weaker}
use Rattle.exb_journal.specs.declared.file_names.OutputKind.{OutputKind}
use Rattle.exb_net.specs.declared.bridge_outputs.BridgeOutputs.{BridgeOutputs}
use Rattle.exb_net.specs.WrittenOutputs.{AreManifestsApart, IsOther, OnlyAllListed, manifests_in}
use Rattle.exb_net.specs.Nets.{manifest_with}
use Rattle.exb_net.specs.OpenOrder.{MadeInTurn, MakesNet, IsNetLate, WritesNetOutput, names_of, net_names}
use Rattle.exb_net.specs.Preparation.{AreCutAs, AreSet, GoesFrom, IsSet, manifest_under}
use Rattle.exb_net.proofs.BridgeFiles.{mapped_some}
use Rattle.exb_net.proofs.OutputUpdates.{texts_stay}
use Rattle.exb_net.proofs.ManifestsApart.{push_each, ready_beside, two_apart}
use Rattle.exb_net.proofs.FileOrder.{long_names, turn_front, turn_none, turn_of_manifest, turn_then}

-- ---- fronts of a list
get_take : {A : Type 0} (xs : List A) (k b : ℕ) (x : A) → slice_get (take k xs) b ≡ Some x → (b < k) × (slice_get xs b ≡ Some x)
get_take xs zero b x is = absurd (no_some is)
  where
    no_some : {A : Type 0} {x : A} → None ≡ Some x → ⊥
    no_some e = cc
get_take [] (suc k) b x is = absurd (no_some is)
  where
    no_some : {A : Type 0} {x : A} → None ≡ Some x → ⊥
    no_some e = cc
get_take (y ∷ xs) (suc k) zero x is = (omega arith, is)
get_take (y ∷ xs) (suc k) (suc b) x is = (let r = get_take xs k b x is in (omega (arith, r.0), r.1))

take_next : {A : Type 0} (xs : List A) (k : ℕ) (x : A) → slice_get xs k ≡ Some x → take (suc k) xs ≡ take k xs ++ x ∷ []
take_next [] k x is = absurd (no_some is)
  where
    no_some : {A : Type 0} {x : A} → None ≡ Some x → ⊥
    no_some e = cc
take_next (y ∷ xs) zero x is = ap (λ (z : _). z ∷ []) (same is)
  where
    same : {A : Type 0} {x y : A} → Some x ≡ Some y → x ≡ y
    same e = cc
take_next (y ∷ xs) (suc k) x is = ap (λ (zs : List _). y ∷ zs) (take_next xs k x is)

put_take : {A : Type 0} (xs : List A) (k b : ℕ) (x : A) → b < k → slice_get xs b ≡ Some x → slice_get (take k xs) b ≡ Some x
put_take xs zero b x low is = absurd (omega (arith, low))
put_take [] (suc k) b x low is = is
put_take (y ∷ xs) (suc k) zero x low is = is
put_take (y ∷ xs) (suc k) (suc b) x low is = put_take xs k b x (omega (arith, low)) is

some_is : {A : Type 0} {x y : A} → Some x ≡ Some y → x ≡ y
some_is e = cc

-- what a file begins with is a front of a text that goes on from it
front_is : (xs ys : List ℕ) → (n : ℕ) × (xs ≡ take n (xs ++ ys))
front_is [] ys = (0, refl)
front_is (x ∷ xs) ys = (let r = front_is xs ys in (suc r.0, ap (λ (zs : List ℕ). x ∷ zs) r.1))

front_of : (old new : Option (List ℕ)) (bytes piece first text : List ℕ) → new ≡ Some bytes → bytes ++ piece ≡ first → ((rest : List ℕ) × (text ≡ first ++ rest)) → IsCut old new text
front_of old new bytes piece first text is begins goes =
    let r = front_is bytes (piece ++ goes.0) in
    let same : bytes ++ (piece ++ goes.0) ≡ text = sym (append_assoc bytes piece goes.0) ∙ (ap (λ (xs : List ℕ). xs ++ goes.0) begins ∙ sym goes.1) in
    inr (r.0, is ∙ ap Some (r.1 ∙ ap (take r.0) same))

map_last : {A B : Type 0} (f : A → B) (xs : List A) (x : A) → map f (xs ++ x ∷ []) ≡ map f xs ++ f x ∷ []
map_last f [] x = refl
map_last f (y ∷ xs) x = ap (λ (zs : List _). f y ∷ zs) (map_last f xs x)

-- the files of a manifest that hold what they begin with
-- nothing was written
pub cut_none : (p : Listed) (f : Files) (text : OutputKind → List ℕ) → AreCut p f f text
cut_none p f text = record { each = λ j low. inl refl; others = λ m away. refl }

pub cut_first : (p : Listed) (pieces : List (List ℕ)) (old new : Files) (text : OutputKind → List ℕ) → HasTexts p pieces old new first_text → GoesFrom text → AreCut p old new text
cut_first p pieces old new text held goes =
    record {
      each = λ j low. (let now = held.each j low in front_of (old (output_name p j)) (new (output_name p j)) now.0 (slice_index_or pieces j []) (first_text (kind_at p j)) (text (kind_at p j)) now.1 now.2 (goes (kind_at p j)));
      others = held.others;
    }

-- ---- the bridge whose files are made next
pub record IsNextOf (counters : Bool) (ms : List NetMember) (i : ℕ) (s : Setup) (name : List ℕ) : Type 0 where
  pub member : NetMember
  pub here : slice_get ms i ≡ Some member
  pub manifest : manifest_under s name counters ≡ manifest_with counters member
  pub setup : s ≡ member.topology.setup

pub next_here : (counters : Bool) (ms : List NetMember) (ws : List Wire) (parts : NetParts) → IsTakenApart ms ws parts → (setups : List Setup) (rests : List BridgeInputs) → setups ≡ parts.setup.setups → rests ≡ parts.rests → (i : ℕ) → i < length rests →
    (s : Setup) (r : BridgeInputs) (name : List ℕ) → s ≡ get_or setups i s → r ≡ get_or rests i r → name ≡ (get_or rests i r).name → IsNextOf counters ms i s name
next_here counters ms ws parts taken setups rests setups_are rests_are i low s r name s_is r_is named =
    let of_setups : setups ≡ map setup_in ms = setups_are ∙ taken.setups in
    let of_rests : rests ≡ map rest_of ms = rests_are ∙ taken.rests in
    let long_setups : length setups ≡ length ms = ap (λ (xs : List Setup). length xs) of_setups ∙ length-map ms setup_in in
    let long_rests : length rests ≡ length ms = ap (λ (xs : List BridgeInputs). length xs) of_rests ∙ length-map ms rest_of in
    let s_there : slice_get setups i ≡ Some s = at_place setups i s (omega (arith, low, long_setups, long_rests)) s_is in
    let r_there : slice_get rests i ≡ Some r = at_place rests i r low r_is in
    let m = mapped_some rest_of (slice_get ms i) r (sym (slice_get-map rest_of ms i) ∙ (ap (λ (xs : List BridgeInputs). slice_get xs i) (sym of_rests) ∙ r_there)) in
    let k = mapped_some setup_in (slice_get ms i) s (sym (slice_get-map setup_in ms i) ∙ (ap (λ (xs : List Setup). slice_get xs i) (sym of_setups) ∙ s_there)) in
    let same : s ≡ m.0.topology.setup = sym k.2 ∙ ap setup_in (some_is (sym k.1 ∙ m.1)) in
    record {
      member = m.0;
      here = m.1;
      manifest = ap (λ (x : Setup). manifest_under x name counters) same ∙ ap (λ (n : List ℕ). manifest_under m.0.topology.setup n counters) (named ∙ ap (λ (x : BridgeInputs). x.name) (sym r_is ∙ sym m.2));
      setup = same;
    }

pub made_all : {X : Type 0} (p q : Listed) (x : X) (a b : ℕ → Id) → p ≡ q → MakesInOrder p (Ok x) a b → MadeInOrder q (output_count q) a b
made_all p q x a b same m = subst (λ (z : Listed). MadeInOrder z (output_count z) a b) same (subst (λ (n : ℕ). MadeInOrder p n a b) (m.all tt) m.made)

pub not_late : (X : Type 0) (x : Fault) → IsOfWriting x → IsNetLate {X = X} (Err x) → ⊥
not_late X x (inl e) late = (let z : ⊥ = subst (λ (y : Fault). IsNetLate {X = X} (Err y)) e late in z)
not_late X x (inr e) late = (let z : ⊥ = subst (λ (y : Fault). IsNetLate {X = X} (Err y)) e late in z)

take_whole : {A : Type 0} (xs : List A) → take (length xs) xs ≡ xs
take_whole [] = refl
take_whole (x ∷ xs) = ap (λ (zs : List _). x ∷ zs) (take_whole xs)

-- ---- so far
-- The files of the first k bridges are made.
pub record SetUpTo (counters : Bool) (ms : List NetMember) (tells : Type 0) (k : ℕ) (old now : Files) (given ids : ℕ → Id) (desks : List BridgeOutputs) : Type 0 where
  pub manifests_are : manifests_in desks ≡ map (manifest_with counters) (take k ms)
  pub each : (b : ℕ) (d : BridgeOutputs) → slice_get desks b ≡ Some d → IsSet tells now ids d
  pub others : tells → OnlyAllListed (map (manifest_with counters) (take k ms)) old now
  pub opened : Opens (WritesNetOutput counters ms) given ids
  pub made : MadeInTurn (net_names counters (take k ms)) (length (net_names counters (take k ms))) given ids

-- so those of all
module _ (counters : Bool) (ms : List NetMember) (tells : Type 0) (k : ℕ) (old now : Files) (given ids : ℕ → Id) (desks : List BridgeOutputs) (s : SetUpTo counters ms tells k old now given ids desks) (all : k ≡ length ms) where
  whole : take k ms ≡ ms
  whole = ap (λ (n : ℕ). take n ms) all ∙ take_whole ms

  pub all_set : AreSet tells (map (manifest_with counters) ms) old now ids desks
  all_set = record {
    manifests = s.manifests_are ∙ ap (map (manifest_with counters)) whole;
    each = s.each;
    others = λ t. subst (λ (xs : List NetMember). OnlyAllListed (map (manifest_with counters) xs) old now) whole (s.others t);
  }

  pub all_net : {X : Type 0} (result : Result X Fault) → MakesNet counters ms result given ids
  all_net result = record {
    count = length (net_names counters (take k ms));
    made = subst (λ (xs : List NetMember). MadeInTurn (net_names counters xs) (length (net_names counters (take k ms))) given ids) whole s.made;
    all = λ late. ap (λ (xs : List NetMember). length (net_names counters xs)) whole;
    unread = λ failed. inr (ap (λ (xs : List NetMember). length (net_names counters xs)) whole);
  }

-- ---- the manifests of bridges with different names
module _ (law : BridgesWriteApart) (counters : Bool) (ms : List NetMember) (named : All (λ m. is_name m.name ≡ true) ms) (other : AllPairs (λ m k. m.name ≢ k.name) ms) where
  abbrev manifests : List NetMember → List Listed
  manifests xs = map (manifest_with counters) xs

  member_of : (b : ℕ) (p : Listed) → slice_get (manifests ms) b ≡ Some p → (m : NetMember) × (slice_get ms b ≡ Some m) × (manifest_with counters m ≡ p)
  member_of b p is = mapped_some (manifest_with counters) (slice_get ms b) p (sym (slice_get-map (manifest_with counters) ms b) ∙ is)

  name_ok : (b : ℕ) (m : NetMember) → slice_get ms b ≡ Some m → is_name m.name ≡ true
  name_ok b m is = subst (λ (x : NetMember). is_name x.name ≡ true) (get_or_from_slice_get ms b m m is) (named b m (slice_get_within ms b m is))

  names_differ : (a b : ℕ) (m k : NetMember) → slice_get ms a ≡ Some m → slice_get ms b ≡ Some k → a < b → m.name ≢ k.name
  names_differ a b m k is so low =
      subst (λ (x : NetMember). x.name ≢ k.name) (get_or_from_slice_get ms a m m is)
      (subst (λ (y : NetMember). (get_or ms a m).name ≢ y.name) (get_or_from_slice_get ms b k m so) (other a b m low (slice_get_within ms b k so)))

  members_apart : (a b : ℕ) (m k : NetMember) → slice_get ms a ≡ Some m → slice_get ms b ≡ Some k → a ≢ b → m.name ≢ k.name
  members_apart a b m k is so ne = elim (cases_lt a b) [
    | inl low ↦ names_differ a b m k is so low
    | inr high ↦ (λ e. names_differ b a k m so is (omega (arith, high, ne)) (sym e))
  ]

  pub manifests_apart : AreManifestsApart (map (manifest_with counters) ms)
  manifests_apart = record {
    each = λ a b p q is so ne i j i_low j_low.
        (let m = member_of a p is in
        let k = member_of b q so in
        subst (λ (z : Listed). (j < output_count q) → output_name z i ≢ output_name q j) m.2
        (subst (λ (z : Listed). (j < output_count z) → output_name (manifest_with counters m.0) i ≢ output_name z j) k.2
        (λ low. two_apart law counters m.0 k.0 (name_ok a m.0 m.1) (name_ok b k.0 k.1) (members_apart a b m.0 k.0 m.1 k.1 ne) i j (subst (λ (z : Listed). i < output_count z) (sym m.2) i_low) low)) j_low);
  }

  -- ---- one after another
  pub set_none : (tells : Type 0) (file : Files) (given : ℕ → Id) → SetUpTo counters ms tells 0 file file given given []
  set_none tells file given = record {
    manifests_are = refl;
    each = λ b d is. absurd (none_there is);
    others = λ t m away. refl;
    opened = opens_none (WritesNetOutput counters ms) given;
    made = turn_none [] given;
  }
    where
      none_there : {d : BridgeOutputs} → None ≡ Some d → ⊥
      none_there e = cc

  -- the manifest of a desk
  manifest_there : (desks : List BridgeOutputs) (b : ℕ) (d : BridgeOutputs) → slice_get desks b ≡ Some d → slice_get (manifests_in desks) b ≡ Some d.manifest
  manifest_there desks b d is = slice_get-map (λ (x : BridgeOutputs). x.manifest) desks b ∙ ap (option_map (λ (x : BridgeOutputs). x.manifest)) is

  manifest_of_desk : (k b : ℕ) (desks : List BridgeOutputs) (d : BridgeOutputs) → manifests_in desks ≡ map (manifest_with counters) (take k ms) → slice_get desks b ≡ Some d → (m : NetMember) × (slice_get ms b ≡ Some m) × (manifest_with counters m ≡ d.manifest) × (b < k)
  manifest_of_desk k b desks d same is =
      let there : slice_get (map (manifest_with counters) (take k ms)) b ≡ Some d.manifest = ap (λ (ps : List Listed). slice_get ps b) (sym same) ∙ manifest_there desks b d is in
      let m = mapped_some (manifest_with counters) (slice_get (take k ms) b) d.manifest (sym (slice_get-map (manifest_with counters) (take k ms) b) ∙ there) in
      let own = get_take ms k b m.0 m.1 in
      (m.0, own.1, m.2, own.0)

  module _ (tells : Type 0) (k : ℕ) (old now new : Files) (given ids ids2 : ℕ → Id) (desks : List BridgeOutputs) (m : NetMember) (here : slice_get ms k ≡ Some m) (so_far : SetUpTo counters ms tells k old now given ids desks)
      (only : OnlyMakes tells (manifest_with counters m) now new ids ids2) where
    abbrev mine : Listed
    mine = manifest_with counters m

    next_is : take (suc k) ms ≡ take k ms ++ m ∷ []
    next_is = take_next ms k m here

    -- the files of the bridges before stay
    still : (b : ℕ) (d : BridgeOutputs) → slice_get desks b ≡ Some d → tells → (j : ℕ) → j < output_count d.manifest → new (output_name d.manifest j) ≡ now (output_name d.manifest j)
    still b d is t j low =
        let own = manifest_of_desk k b desks d so_far.manifests_are is in
        let apart : (i : ℕ) → i < output_count (manifest_with counters m) → output_name (manifest_with counters m) i ≢ output_name d.manifest j =
        λ i i_low. subst (λ (z : Listed). j < output_count z → output_name (manifest_with counters m) i ≢ output_name z j) own.2
        (λ j_low. two_apart law counters m own.0 (name_ok k m here) (name_ok b own.0 own.1) (members_apart k b m own.0 here own.1 (λ e. let low = own.3 in omega (arith, e, low))) i j i_low j_low) low in
        only.others t (output_name d.manifest j) (λ i i_low same. apart i i_low (sym same))

    stays : (b : ℕ) (d : BridgeOutputs) → slice_get desks b ≡ Some d → IsSet tells new ids2 d
    stays b d is =
        let was = so_far.each b d is in
        record {
          ready = ready_beside (WritesListed (manifest_with counters m)) d.manifest ids ids2 d.outputs only.opened was.ready;
          counted = was.counted;
          texts = λ t. texts_stay d.manifest (pieces_of d.outputs) now new first_text (still b d is t) (was.texts t);
          sent = was.sent;
        }

    writes : (i : Id) → WritesListed (manifest_with counters m) i → WritesNetOutput counters ms i
    writes i w =
        let is = kind_is (manifest_with counters m) w.at w.within in
        record { name = output_name (manifest_with counters m) w.at; output = record { bridge = k; member = m; is = here; output = (kind_at (manifest_with counters m) w.at, is.made, refl) }; writes = w.writes }

    pub opened_more : Opens (WritesNetOutput counters ms) given ids2
    opened_more = opens_then (WritesNetOutput counters ms) given ids ids2 so_far.opened (opens_weaker (WritesListed (manifest_with counters m)) (WritesNetOutput counters ms) ids ids2 writes only.opened)

    names_more : net_names counters (take (suc k) ms) ≡ net_names counters (take k ms) ++ names_of (manifest_with counters m)
    names_more = ap (net_names counters) next_is ∙ (flat_map-append (λ (x : NetMember). names_of (manifest_with counters x)) (take k ms) (m ∷ []) ∙ ap (λ (xs : List (List ℕ)). net_names counters (take k ms) ++ xs) (append-nil (names_of (manifest_with counters m))))

    -- with more of the files of the next
    turn_more : (n : ℕ) → MadeInOrder (manifest_with counters m) n ids ids2 → MadeInTurn (net_names counters (take (suc k) ms)) (length (net_names counters (take k ms)) + n) given ids2
    turn_more n made =
        subst (λ (xs : List (List ℕ)). MadeInTurn xs (length (net_names counters (take k ms)) + n) given ids2) (sym names_more)
        (turn_then (WritesNetOutput counters ms) (WritesListed (manifest_with counters m)) (net_names counters (take k ms)) (names_of (manifest_with counters m)) n given ids ids2 so_far.made (turn_of_manifest (manifest_with counters m) n ids ids2 made) so_far.opened only.opened)

    only_more : tells → OnlyAllListed (map (manifest_with counters) (take (suc k) ms)) old new
    only_more t name away =
        let before : IsOther (map (manifest_with counters) (take k ms)) name =
        λ b p is j low. away b p (ap (λ (xs : List Listed). slice_get xs b) (ap (map (manifest_with counters)) next_is ∙ map_last (manifest_with counters) (take k ms) m) ∙ (get_in (map (manifest_with counters) (take k ms)) (manifest_with counters m) b p is)) j low in
        let own : (j : ℕ) → j < output_count (manifest_with counters m) → name ≢ output_name (manifest_with counters m) j =
        λ j low. away k (manifest_with counters m) (slice_get-map (manifest_with counters) (take (suc k) ms) k ∙ ap (option_map (manifest_with counters)) (taken_there ms k m here)) j low in
        only.others t name own ∙ so_far.others t name before
      where
        get_in : (xs : List Listed) (y : Listed) (b : ℕ) (p : Listed) → slice_get xs b ≡ Some p → slice_get (xs ++ y ∷ []) b ≡ Some p
        get_in [] y b p is = absurd (let z : None ≡ Some p = is in cc)
        get_in (x ∷ xs) y zero p is = is
        get_in (x ∷ xs) y (suc b) p is = get_in xs y b p is

        taken_there : (xs : List NetMember) (i : ℕ) (x : NetMember) → slice_get xs i ≡ Some x → slice_get (take (suc i) xs) i ≡ Some x
        taken_there [] i x is = absurd (let z : None ≡ Some x = is in cc)
        taken_there (y ∷ xs) zero x is = is
        taken_there (y ∷ xs) (suc i) x is = taken_there xs i x is

    pub set_next : (d : BridgeOutputs) → d.manifest ≡ manifest_with counters m → IsSet tells new ids2 d → MadeInOrder (manifest_with counters m) (output_count (manifest_with counters m)) ids ids2 → SetUpTo counters ms tells (suc k) old new given ids2 (desks ++ d ∷ [])
    set_next d same set made =
        record {
          manifests_are = map_last (λ (x : BridgeOutputs). x.manifest) desks d ∙ (ap (λ (ps : List Listed). ps ++ d.manifest ∷ []) so_far.manifests_are ∙ (ap (λ (p : Listed). map (manifest_with counters) (take k ms) ++ p ∷ []) same
              ∙ (sym (map_last (manifest_with counters) (take k ms) m) ∙ ap (map (manifest_with counters)) (sym next_is))));
          each = push_each (λ b x. IsSet tells new ids2 x) desks d set stays;
          others = only_more;
          opened = opened_more;
          made =
              (let long : length (net_names counters (take k ms)) + output_count (manifest_with counters m) ≡ length (net_names counters (take (suc k) ms)) =
              ap (λ (n : ℕ). length (net_names counters (take k ms)) + n) (sym (long_names (manifest_with counters m))) ∙ (sym (length-append (net_names counters (take k ms)) (names_of (manifest_with counters m))) ∙ ap (λ (xs : List (List ℕ)). length xs) (sym names_more)) in
              subst (λ (n : ℕ). MadeInTurn (net_names counters (take (suc k) ms)) n given ids2) long (turn_more (output_count (manifest_with counters m)) made));
        }

    -- ---- where the next one fails
    pub makes_some : {X : Type 0} (x : Fault) (n : ℕ) → IsOfWriting x → MadeInOrder (manifest_with counters m) n ids ids2 → MakesNet {X = X} counters ms (Err x) given ids2
    makes_some {X = X} x n writing made =
        record {
          count = length (net_names counters (take k ms)) + n;
          made = subst (λ (xs : List (List ℕ)). MadeInTurn xs (length (net_names counters (take k ms)) + n) given ids2) (sym all_names)
              (turn_front (net_names counters (take (suc k) ms)) (net_names counters (drop (suc k) ms)) (length (net_names counters (take k ms)) + n) given ids2 (turn_more n made));
          all = λ is. absurd (not_late X x writing is);
          unread = λ failed. absurd (writing_not_read X x writing failed);
        }
      where
        all_names : net_names counters ms ≡ net_names counters (take (suc k) ms) ++ net_names counters (drop (suc k) ms)
        all_names = ap (net_names counters) (sym (both_parts (suc k) ms)) ∙ flat_map-append (λ (x : NetMember). names_of (manifest_with counters x)) (take (suc k) ms) (drop (suc k) ms)

    pub only_all : tells → OnlyAllListed (map (manifest_with counters) ms) old new
    only_all t name away = only_more t name (λ b p is j low. away b p (let x = mapped_some (manifest_with counters) (slice_get (take (suc k) ms) b) p (sym (slice_get-map (manifest_with counters) (take (suc k) ms) b) ∙ is) in
        slice_get-map (manifest_with counters) ms b ∙ (ap (option_map (manifest_with counters)) (get_take ms (suc k) b x.0 x.1).1 ∙ ap (λ (z : Listed). Some z) x.2)) j low)

    -- each file is as it was, or a front of a text that goes on from what it begins with
    pub cut_before : tells → (text : ℕ → OutputKind → List ℕ) → ((b : ℕ) → GoesFrom (text b)) → AreCut (manifest_with counters m) now new (text k) → AreCutAs (map (manifest_with counters) ms) old new text
    cut_before t text goes cut = record { each = λ b p is j low. at b p (member_of b p is) j low }
      where
        -- the file of a bridge that isn't made yet was as it is
        as_was : (b : ℕ) (x : NetMember) → slice_get ms b ≡ Some x → k ≤ b → (j : ℕ) → j < output_count (manifest_with counters x) → now (output_name (manifest_with counters x) j) ≡ old (output_name (manifest_with counters x) j)
        as_was b x is high j low = so_far.others t (output_name (manifest_with counters x) j) (λ c p there i i_low same.
            (let y = mapped_some (manifest_with counters) (slice_get (take k ms) c) p (sym (slice_get-map (manifest_with counters) (take k ms) c) ∙ there) in
            let own = get_take ms k c y.0 y.1 in
            two_apart law counters x y.0 (name_ok b x is) (name_ok c y.0 own.1) (members_apart b c x y.0 is own.1 (λ e. let less = own.0 in omega (arith, e, less, high))) j i low (subst (λ (z : Listed). i < output_count z) (sym y.2) i_low) (same ∙ ap (λ (z : Listed). output_name z i) (sym y.2))))

        desk_there : (b : ℕ) (x : NetMember) → slice_get ms b ≡ Some x → b < k → (d : BridgeOutputs) × (slice_get desks b ≡ Some d) × (d.manifest ≡ manifest_with counters x)
        desk_there b x is low =
            let taken : slice_get (take k ms) b ≡ Some x = put_take ms k b x low is in
            let there : slice_get (manifests_in desks) b ≡ Some (manifest_with counters x) = ap (λ (ps : List Listed). slice_get ps b) so_far.manifests_are ∙ (slice_get-map (manifest_with counters) (take k ms) b ∙ ap (option_map (manifest_with counters)) taken) in
            mapped_some (λ (d : BridgeOutputs). d.manifest) (slice_get desks b) (manifest_with counters x) (sym (slice_get-map (λ (d : BridgeOutputs). d.manifest) desks b) ∙ there)

        at_member : (b : ℕ) (x : NetMember) → slice_get ms b ≡ Some x → (j : ℕ) → j < output_count (manifest_with counters x) → IsCut (old (output_name (manifest_with counters x) j)) (new (output_name (manifest_with counters x) j)) (text b (kind_at (manifest_with counters x) j))
        at_member b x is j low = elim (cases_eq b k) [
          | inl same ↦
              let mine_is : m ≡ x = some_is (sym here ∙ (ap (slice_get ms) (sym same) ∙ is)) in
              elim (cut.each j (subst (λ (z : NetMember). j < output_count (manifest_with counters z)) (sym mine_is) low)) [
                | inl unchanged ↦ inl (subst (λ (z : NetMember). new (output_name (manifest_with counters z) j) ≡ now (output_name (manifest_with counters z) j)) mine_is unchanged ∙ as_was b x is (omega (arith, same)) j low)
                | inr front ↦ inr (
                  front.0,
                  subst (λ (z : NetMember). new (output_name (manifest_with counters z) j) ≡ Some (take front.0 (text b (kind_at (manifest_with counters z) j)))) mine_is
                      (subst (λ (c : ℕ). new (output_name (manifest_with counters m) j) ≡ Some (take front.0 (text c (kind_at (manifest_with counters m) j)))) (sym same) front.1),
                )
              ]
          | inr other ↦ elim (cases_lt b k) [
            | inl before ↦
                let d = desk_there b x is before in
                let set = stays b d.0 d.1 in
                let own = (set.texts t).each j (subst (λ (z : Listed). j < output_count z) (sym d.2) low) in
                front_of (old (output_name (manifest_with counters x) j)) (new (output_name (manifest_with counters x) j)) own.0 (get_or (pieces_of d.0.outputs) j []) (first_text (kind_at (manifest_with counters x) j)) (text b (kind_at (manifest_with counters x) j))
                (ap (λ (z : Listed). new (output_name z j)) (sym d.2) ∙ own.1) (own.2 ∙ ap (λ (z : Listed). first_text (kind_at z j)) d.2) (goes b (kind_at (manifest_with counters x) j))
            | inr after ↦ inl (only.others t (output_name (manifest_with counters x) j) (λ i i_low same. two_apart law counters x m (name_ok b x is) (name_ok k m here) (members_apart b k x m is here other) j i low i_low same) ∙ as_was b x is (omega (arith, after)) j low)
          ]
        ]

        at : (b : ℕ) (p : Listed) → ((x : NetMember) × (slice_get ms b ≡ Some x) × (manifest_with counters x ≡ p)) → (j : ℕ) → j < output_count p → IsCut (old (output_name p j)) (new (output_name p j)) (text b (kind_at p j))
        at b p x j low = subst (λ (z : Listed). j < output_count z → IsCut (old (output_name z j)) (new (output_name z j)) (text b (kind_at z j))) x.2 (at_member b x.0 x.1 j) low

-- The files of a bridge by their names: once all is written, and where writing ended early.
use Rattle.std.proofs.Common.{◌≡◌, ℕ, zero, suc, ◌<◌, ◌++◌, Bool, true, List, [], ◌∷◌, length, take, map, Option, Some, None, refl, ap, sym, ◌∙◌, subst, inr}
use Rattle.std.specs.Prelude.{flat_map, option_map, slice_get}
use Rattle.std.proofs.lemmas.List.{append-nil, append_assoc}
use Rattle.std.proofs.lemmas.Grind.{flat_map-append}
use Rattle.std.proofs.lemmas.Option.{slice_get-map}
use Rattle.exb_counters.specs.Counters.{count_text}
use Rattle.exb_model.specs.declared.event.Event.{Event}
use Rattle.exb_model.specs.FlatBridge.{Sent, flat, sent_by}
use Rattle.exb_model.specs.History.{Basis, History, ◌then◌, bridge_after}
use Rattle.exb_model.specs.Input.{Input, basis_of, tree_of}
use Rattle.exb_model.specs.Learning.{learned}
use Rattle.exb_model.specs.Texts.{capture_header, capture_text, journal_text, record_text}
use Rattle.exb_model.specs.Traces.{trace_text}
use Rattle.exb_model.specs.Tree.{Shape, is_external}
use Rattle.exb_world_spec.specs.Steps.{Stepped}
use Rattle.exb_world_spec.specs.Worlds.{left_at}
use Rattle.exb_net_file.specs.declared.members.NetMember.{NetMember}
use Rattle.exb_net_file.specs.Members.{prefix_of, tree_in}
use Rattle.exb_outputs.specs.OutputNames.{IsCut}
use Rattle.exb_outputs.specs.Manifests.{IsMade, Listed, kind_at, output_count, output_name, place_of}
use Rattle.exb_outputs.specs.WrittenTexts.{first_text, lines_of}
use Rattle.exb_outputs.proofs.KindPlaces.{kind_is, placed}
use Rattle.exb_outputs.proofs.TextGrowth.{journal_text-then}
use Rattle.exb_shelf.specs.Files.{Files}
use Rattle.exb_journal.specs.declared.file_names.OutputKind.{OutputKind}
use Rattle.exb_journal.specs.declared.file_names.OutputKind.TheVariants as output
use Rattle.exb_journal.specs.FileNames.{IsOfPort, file_name}
use Rattle.exb_outputs.specs.KindTexts.{output_text}
use Rattle.exb_net.specs.WrittenOutputs.{AreFronts, IsOther, IsWhole, OnlyAllListed, text_of}
use Rattle.exb_net.specs.Nets.{OnlyNetOutputs, manifest_with}
use Rattle.exb_net.specs.Outputs.{IsFrontOf, IsWritten}

-- ---- texts that go on
-- a front of a text is one of the longer text
front_longer : (q : ℕ) (xs ys : List ℕ) → (k : ℕ) × (take q xs ≡ take k (xs ++ ys))
front_longer zero xs ys = (0, refl)
front_longer (suc q) [] ys = (0, refl)
front_longer (suc q) (x ∷ xs) ys = (let r = front_longer q xs ys in (suc r.0, ap (λ (zs : List ℕ). x ∷ zs) r.1))

pub cut_on : (old new : Option (List ℕ)) (q : ℕ) (text more whole : List ℕ) → whole ≡ text ++ more → new ≡ Some (take q text) → IsCut old new whole
cut_on old new q text more whole same is =
    let r = front_longer q text more in
    inr (r.0, is ∙ ap Some (r.1 ∙ ap (take r.0) (sym same)))

flat_then : (i : Basis) (es : List Event) (h : History) (q : ℕ) → (rest : List Sent) × (flat i (h then es) q ≡ flat i h q ++ rest)
unfolding flat
flat_then i [] h q = ([], sym (append-nil (flat i h q)))
flat_then i (e ∷ es) h q =
    let r = flat_then i es (e ∷ h) q in
    let by : List Sent = sent_by (bridge_after i h) (learned i h) e q in
    (by ++ r.0, r.1 ∙ append_assoc (flat i h q) by r.0)

records_text : List Sent → List ℕ
records_text xs = flat_map record_text xs

capture_then : (xs ys : List Sent) → capture_text (xs ++ ys) ≡ capture_text xs ++ records_text ys
unfolding capture_text records_text
capture_then xs ys = ap (λ (zs : List ℕ). capture_header ++ zs) (flat_map-append record_text xs ys) ∙ sym (append_assoc capture_header (records_text xs) (records_text ys))

-- ---- one bridge
module _ (counters : Bool) (m : NetMember) (i : Input) (tree : tree_of i ≡ tree_in m) (low : (q : ℕ) → is_external (tree_of i) q ≡ true → q < 4160) where
  manifest : Listed
  manifest = manifest_with counters m

  -- the file of a kind that is made
  file_of : (file : Files) (text : OutputKind → List ℕ) → IsWhole (manifest_with counters m) file text → (o : OutputKind) → IsMade (manifest_with counters m).options (tree_in m) o → IsOfPort o → file (file_name (prefix_of m.name) o) ≡ Some (text o)
  file_of file text whole o made of_port =
      let p = placed (manifest_with counters m) o made of_port in
      subst (λ (z : OutputKind). file (file_name (prefix_of m.name) z) ≡ Some (text z)) p.at (whole.each (place_of (manifest_with counters m) o) p.low)

  front_of : (file : Files) (done : Stepped) (fronts : AreFronts (manifest_with counters m) file done) (o : OutputKind) → IsMade (manifest_with counters m).options (tree_in m) o → IsOfPort o →
      (q : ℕ) × (file (file_name (prefix_of m.name) o) ≡ Some (take q (text_of done fronts.counts o)))
  front_of file done fronts o made of_port =
      let p = placed (manifest_with counters m) o made of_port in
      subst (λ (z : OutputKind). (q : ℕ) × (file (file_name (prefix_of m.name) z) ≡ Some (take q (text_of done fronts.counts z)))) p.at (fronts.each (place_of (manifest_with counters m) o) p.low)

  external : (q : ℕ) → is_external (tree_of i) q ≡ true → is_external (tree_in m) q ≡ true
  external q ext = ap (λ (t : Shape). is_external t q) (sym tree) ∙ ext

  pub written : (h : History) (file : Files) (done : Stepped) (counts : List ℕ) → IsWhole (manifest_with counters m) file (text_of done counts) → h ≡ ([] then done.events) →
      ((q : ℕ) → is_external (tree_of i) q ≡ true → left_at q done.left ≡ flat (basis_of i) h q) → (counters ≡ true → counts ≡ count_text (tree_of i) (basis_of i) h) → IsWritten counters i h (prefix_of m.name) file
  written h file done counts whole told left counted =
      record {
        captures = λ q ext. file_of file (text_of done counts) whole (output.Capture q) (external q ext) (low q ext) ∙ ap (λ (xs : List Sent). Some (capture_text xs)) (left q ext);
        journal = file_of file (text_of done counts) whole output.Journal refl tt ∙ ap (λ (z : History). Some (journal_text z)) (sym told);
        counts = λ asked. file_of file (text_of done counts) whole output.Counters asked tt ∙ ap Some (counted asked);
      }

  pub fronts_written : (h k : History) (more : List Event) (old new : Files) (done : Stepped) → AreFronts (manifest_with counters m) new done → h ≡ ([] then done.events) →
      ((q : ℕ) → is_external (tree_of i) q ≡ true → left_at q done.left ≡ flat (basis_of i) h q) → k ≡ (h then more) → IsFrontOf i k (prefix_of m.name) old new
  fronts_written h k more old new done fronts told left on =
      record {
        captures = λ q ext.
            (let f = front_of new done fronts (output.Capture q) (external q ext) (low q ext) in
            let r = flat_then (basis_of i) more h q in
            let whole : flat (basis_of i) k q ≡ left_at q done.left ++ r.0 = ap (λ (z : History). flat (basis_of i) z q) on ∙ (r.1 ∙ ap (λ (xs : List Sent). xs ++ r.0) (sym (left q ext))) in
            cut_on (old (file_name (prefix_of m.name) (output.Capture q))) (new (file_name (prefix_of m.name) (output.Capture q))) f.0 (capture_text (left_at q done.left)) (records_text r.0) (capture_text (flat (basis_of i) k q))
            (ap capture_text whole ∙ capture_then (left_at q done.left) r.0) f.1);
        journal =
            (let f = front_of new done fronts output.Journal refl tt in
            cut_on (old (file_name (prefix_of m.name) output.Journal)) (new (file_name (prefix_of m.name) output.Journal)) f.0 (journal_text ([] then done.events)) (lines_of more) (journal_text k)
            (ap journal_text on ∙ (journal_text-then h more ∙ ap (λ (z : History). journal_text z ++ lines_of more) told)) f.1);
      }

-- ---- no other file
no_some : {B : Type 0} {y : B} → None ≡ Some y → ⊥
no_some e = cc

same_some : {B : Type 0} {x y : B} → Some x ≡ Some y → x ≡ y
same_some e = cc

pub mapped_some : {A B : Type 0} (f : A → B) (o : Option A) (y : B) → option_map f o ≡ Some y → (x : A) × (o ≡ Some x) × (f x ≡ y)
mapped_some f None y e = absurd (no_some e)
mapped_some f (Some x) y e = (x, refl, same_some e)

pub only_outputs : (counters : Bool) (ms : List NetMember) (old new : Files) → OnlyAllListed (map (manifest_with counters) ms) old new → OnlyNetOutputs counters ms old new
only_outputs counters ms old new only name none = only name away
  where
    away : IsOther (map (manifest_with counters) ms) name
    away b p is j low same =
        let r = mapped_some (manifest_with counters) (slice_get ms b) p (sym (slice_get-map (manifest_with counters) ms b) ∙ is) in
        none (record {
          bridge = b;
          member = r.0;
          is = r.1;
          output = subst (λ (z : Listed). (o : OutputKind) × IsMade z.options z.tree o × (name ≡ file_name z.prefix o)) (sym r.2) (kind_at p j, (kind_is p j low).made, same);
        })

-- ---- over a history
take_whole : (xs : List ℕ) → take (length xs) xs ≡ xs
take_whole [] = refl
take_whole (x ∷ xs) = ap (λ (ys : List ℕ). x ∷ ys) (take_whole xs)

-- the texts over a history go on from what files begin with
pub texts_begin : (i : Input) (h : History) (o : OutputKind) → (rest : List ℕ) × (output_text i h [] o ≡ first_text o ++ rest)
unfolding capture_text trace_text
texts_begin i h (output.Capture q) = (flat_map record_text (flat (basis_of i) h q), refl)
texts_begin i h output.Journal = (journal_text h, refl)
texts_begin i h output.Trace = ([], refl)
texts_begin i h output.Counters = (count_text (tree_of i) (basis_of i) h, refl)

module _ (counters : Bool) (m : NetMember) (i : Input) (tree : tree_of i ≡ tree_in m) (low : (q : ℕ) → is_external (tree_of i) q ≡ true → q < 4160) where
  at_kind : (P : OutputKind → Type 0) → ((j : ℕ) → j < output_count (manifest_with counters m) → P (kind_at (manifest_with counters m) j)) → (o : OutputKind) → IsMade (manifest_with counters m).options (tree_in m) o → IsOfPort o → P o
  at_kind P each o made of_port = (let p = placed (manifest_with counters m) o made of_port in subst P p.at (each (place_of (manifest_with counters m) o) p.low))

  is_there : (q : ℕ) → is_external (tree_of i) q ≡ true → is_external (tree_in m) q ≡ true
  is_there q ext = ap (λ (t : Shape). is_external t q) (sym tree) ∙ ext

  -- files that hold the texts over a history
  pub written_texts : (h : History) (file : Files) → IsWhole (manifest_with counters m) file (output_text i h []) → IsWritten counters i h (prefix_of m.name) file
  written_texts h file whole =
      let text : OutputKind → List ℕ = output_text i h [] in
      let all = at_kind (λ o. file (file_name (prefix_of m.name) o) ≡ Some (text o)) whole.each in
      record {
        captures = λ q ext. all (output.Capture q) (is_there q ext) (low q ext);
        journal = all output.Journal refl tt;
        counts = λ asked. all output.Counters asked tt;
      }

  -- files that are as they were or hold fronts of them
  pub cut_texts : (h : History) (old new : Files) → ((j : ℕ) → j < output_count (manifest_with counters m) → IsCut (old (output_name (manifest_with counters m) j)) (new (output_name (manifest_with counters m) j)) (output_text i h [] (kind_at (manifest_with counters m) j))) →
      IsFrontOf i h (prefix_of m.name) old new
  cut_texts h old new each =
      let text : OutputKind → List ℕ = output_text i h [] in
      let all = at_kind (λ o. IsCut (old (file_name (prefix_of m.name) o)) (new (file_name (prefix_of m.name) o)) (text o)) each in
      record { captures = λ q ext. all (output.Capture q) (is_there q ext) (low q ext); journal = all output.Journal refl tt }

  -- the same of files that are whole
  pub whole_texts : (h : History) (old new : Files) → IsWhole (manifest_with counters m) new (output_text i h []) → IsFrontOf i h (prefix_of m.name) old new
  whole_texts h old new whole = cut_texts h old new (λ j lower. inr (length (output_text i h [] (kind_at (manifest_with counters m) j)), whole.each j lower ∙ ap Some (sym (take_whole (output_text i h [] (kind_at (manifest_with counters m) j))))))

-- every history is what was told of it, from nothing
pub told_of : (h : History) → (more : List Event) × (h ≡ ([] then more))
told_of [] = ([], refl)
told_of (e ∷ h) = (let r = told_of h in (r.0 ++ e ∷ [], ap (λ (z : History). e ∷ z) r.1 ∙ sym (then_last [] r.0 e)))
  where
    then_last : (g : History) (es : List Event) (x : Event) → (g then (es ++ x ∷ [])) ≡ x ∷ (g then es)
    then_last g [] x = refl
    then_last g (y ∷ es) x = then_last (y ∷ g) es x

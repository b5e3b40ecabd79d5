-- What a bridge did, in its files and counts: with what it did since.
use Rattle.std.proofs.Common.{◌≡◌, ◌<◌, ◌++◌, inl, inr, Bool, ℕ, suc, List, [], ◌∷◌, take, get_or, flat_map, Some, refl, ap, sym, ◌∙◌, subst, append_assoc}
use Rattle.std.proofs.lemmas.List.{append-nil}
use Rattle.exb_model.specs.declared.event.Event.{Event}
use Rattle.exb_model.specs.Texts.{record_text}
use Rattle.exb_world_spec.specs.Steps.{Stepped}
use Rattle.exb_world_spec.specs.Worlds.{Left as Leaving, left_at}
use Rattle.exb_outbox.specs.declared.log.Left.{Left}
use Rattle.exb_world.specs.WorldContracts.{IsQuiet, Network}
use Rattle.exb_bridge.specs.BridgeWorlds.{all_left}
use Rattle.exb_shelf.specs.Files.{Files}
use Rattle.exb_journal.specs.declared.file_names.OutputKind.{OutputKind}
use Rattle.exb_journal.specs.declared.file_names.OutputKind.TheVariants as output
use Rattle.exb_outputs.specs.Manifests.{Listed, kind_at, output_count, output_name}
use Rattle.exb_outputs.specs.CaptureSizes.{HasSent}
use Rattle.exb_outputs.specs.WrittenTexts.{AreCut, HasTexts, lines_of, pieces_of, with_more}
use Rattle.exb_outputs.proofs.OutputPrefixes.{GoesOnAs}
use Rattle.exb_outputs.specs.declared.run_counts.RunCounts.{RunCounts}
use Rattle.exb_outputs.specs.Counts.{IsCounted}
use Rattle.exb_outputs.specs.SentFrames.{with_left_frames}
use Rattle.exb_outputs.specs.KindTexts.{text_so_far}
use Rattle.exb_outputs.proofs.TextUpdates.{left_at-append, text-more}
use Rattle.exb_net.specs.declared.bridge_outputs.BridgeOutputs.{BridgeOutputs}
use Rattle.exb_net.specs.WrittenOutputs.{IsMore, IsNoted, text_of}

-- ---- files of one manifest, whatever the others are
-- the files of a manifest have their texts, and others are as they are
pub own_texts : (manifest : Listed) (pieces : List (List ℕ)) (f g : Files) (text : OutputKind → List ℕ) → HasTexts manifest pieces f g text → HasTexts manifest pieces g g text
own_texts manifest pieces f g text held = record { each = held.each; others = λ m away. refl }

-- so they have where the files of the manifest haven't changed
pub texts_stay : (manifest : Listed) (pieces : List (List ℕ)) (f g : Files) (text : OutputKind → List ℕ) → ((j : ℕ) → j < output_count manifest → g (output_name manifest j) ≡ f (output_name manifest j)) →
    HasTexts manifest pieces f f text → HasTexts manifest pieces g g text
texts_stay manifest pieces f g text same held = record {
  each = λ j low. let now = held.each j low in (now.0, same j low ∙ now.1, now.2);
  others = λ m away. refl;
}

first_part : (xs ys : List ℕ) → (n : ℕ) × (xs ≡ take n (xs ++ ys))
first_part [] ys = (0, refl)
first_part (x ∷ xs) ys = (let r = first_part xs ys in (suc r.0, ap (λ (zs : List ℕ). x ∷ zs) r.1))

-- they hold fronts of texts that go on
pub fronts_now : (manifest : Listed) (pieces : List (List ℕ)) (f : Files) (text whole : OutputKind → List ℕ) → ((o : OutputKind) → GoesOnAs text whole o) → HasTexts manifest pieces f f text →
    (j : ℕ) → j < output_count manifest → (q : ℕ) × (f (output_name manifest j) ≡ Some (take q (whole (kind_at manifest j))))
fronts_now manifest pieces f text whole goes held j low =
    let now = held.each j low in
    let on = goes (kind_at manifest j) in
    let r = first_part now.0 (get_or pieces j [] ++ on.0) in
    let same : now.0 ++ (get_or pieces j [] ++ on.0) ≡ whole (kind_at manifest j) = sym (append_assoc now.0 (get_or pieces j []) on.0) ∙ ap (λ (xs : List ℕ). xs ++ on.0) now.2 ∙ sym on.1 in
    (r.0, now.1 ∙ ap Some (r.1 ∙ ap (take r.0) same))

pub fronts_cut : (manifest : Listed) (pieces : List (List ℕ)) (f g : Files) (text whole : OutputKind → List ℕ) → ((o : OutputKind) → GoesOnAs text whole o) → HasTexts manifest pieces f f text → AreCut manifest f g whole →
    (j : ℕ) → j < output_count manifest → (q : ℕ) × (g (output_name manifest j) ≡ Some (take q (whole (kind_at manifest j))))
fronts_cut manifest pieces f g text whole goes held cut j low = elim (cut.each j low) [
  | inl same ↦ (let r = fronts_now manifest pieces f text whole goes held j low in (r.0, same ∙ r.1))
  | inr front ↦ front
]

-- ---- what was told more
module _ (told done : Stepped) (n : Network) (more : IsMore told done n) where
  spelled : (o : OutputKind) → text_so_far (told.events ++ n.log.events) (told.left ++ all_left n.log.left) [] [] o ≡ text_of done [] o
  spelled o =
      ap (λ (es : List Event). text_so_far es (told.left ++ all_left n.log.left) [] [] o) (sym more.events)
      ∙ ap (λ (xs : List Leaving). text_so_far done.events xs [] [] o) (sym more.left)

  -- the texts with it are those of all
  pub text-on : (o : OutputKind) → with_left_frames (with_more (text_of told []) output.Journal (lines_of n.log.events)) n.log.left o ≡ text_of done [] o
  text-on (output.Capture q) = text-more told.events n.log.events told.left n.log.left [] [] (output.Capture q) ∙ spelled (output.Capture q)
  text-on output.Journal = text-more told.events n.log.events told.left n.log.left [] [] output.Journal ∙ spelled output.Journal
  text-on output.Trace = refl
  text-on output.Counters = refl

  -- so they go on
  pub goes-on : (o : OutputKind) → GoesOnAs (text_of told []) (text_of done []) o
  goes-on (output.Capture q) = (flat_map record_text (left_at q (all_left n.log.left)), sym (text-on (output.Capture q)))
  goes-on output.Journal = (lines_of n.log.events, sym (text-on output.Journal))
  goes-on output.Trace = ([], sym (append-nil (text_of told [] output.Trace)))
  goes-on output.Counters = ([], refl)

  pub left-on : (q : ℕ) → left_at q told.left ++ left_at q (all_left n.log.left) ≡ left_at q done.left
  left-on q = sym (left_at-append q told.left (all_left n.log.left)) ∙ ap (left_at q) (sym more.left)

  pub counted-as : (manifest : Listed) (c : RunCounts) → IsCounted manifest c (told.events ++ n.log.events) (told.passed ++ n.log.passed) (told.left ++ all_left n.log.left) → IsCounted manifest c done.events done.passed done.left
  counted-as manifest c is =
      subst (λ (es : List Event). IsCounted manifest c es done.passed done.left) (sym more.events)
      (subst (λ (ps : List Bool). IsCounted manifest c (told.events ++ n.log.events) ps done.left) (sym more.passed)
      (subst (λ (xs : List Leaving). IsCounted manifest c (told.events ++ n.log.events) (told.passed ++ n.log.passed) xs) (sym more.left) is))

  -- where it is nothing
  pub quiet-noted : (tells : Type 0) (f : Files) (d : BridgeOutputs) → IsQuiet n → IsNoted tells f d told → IsNoted tells f d done
  quiet-noted tells f d quiet is =
      let events : told.events ≡ done.events = sym (more.events ∙ ap (λ (es : List Event). told.events ++ es) quiet.events ∙ append-nil told.events) in
      let passed : told.passed ≡ done.passed = sym (more.passed ∙ ap (λ (ps : List Bool). told.passed ++ ps) quiet.passed ∙ append-nil told.passed) in
      let left : told.left ≡ done.left = sym (more.left ∙ ap (λ (xs : List Left). told.left ++ all_left xs) quiet.left ∙ append-nil told.left) in
      record {
        counted =
            subst (λ (es : List Event). IsCounted d.manifest d.counted es done.passed done.left) events
            (subst (λ (ps : List Bool). IsCounted d.manifest d.counted told.events ps done.left) passed (subst (λ (xs : List Leaving). IsCounted d.manifest d.counted told.events told.passed xs) left is.counted));
        texts = λ t.
            subst (λ (es : List Event). HasTexts d.manifest (pieces_of d.outputs) f f (text_so_far es done.left [] [])) events
            (subst (λ (xs : List Leaving). HasTexts d.manifest (pieces_of d.outputs) f f (text_so_far told.events xs [] [])) left (is.texts t));
        sent = subst (λ (xs : List Leaving). HasSent d.manifest d.outputs (λ q. left_at q xs)) left is.sent;
      }

-- with its counters
pub goes-counts : (done : Stepped) (counts : List ℕ) (o : OutputKind) → GoesOnAs (text_of done []) (text_of done counts) o
goes-counts done counts (output.Capture q) = ([], sym (append-nil (text_of done counts (output.Capture q))))
goes-counts done counts output.Journal = ([], sym (append-nil (text_of done counts output.Journal)))
goes-counts done counts output.Trace = ([], sym (append-nil (text_of done counts output.Trace)))
goes-counts done counts output.Counters = (counts, refl)

pub goes-same : (done : Stepped) (o : OutputKind) → GoesOnAs (text_of done []) (text_of done []) o
goes-same done o = ([], sym (append-nil (text_of done [] o)))

-- Frames that left, in the captures of their ports.
use Rattle.std.proofs.Common.{◌≡◌, ◌<◌, ◌+◌, ◌++◌, All, Bool, true, false, if◌then◌else◌, ◌==◌, ℕ, suc, List, [], ◌∷◌, length, take, drop, get_or, flat_map, refl, ap, sym, subst, ◌∙◌, arith, append_assoc}
use Rattle.std.proofs.lemmas.List.{append-nil, take_more}
use Rattle.std.proofs.lemmas.Grind.{flat_map-append}
use Rattle.exb_model.specs.FlatBridge.{Sent}
use Rattle.exb_model.specs.Texts.{record_text}
use Rattle.exb_world_spec.specs.Worlds.{Left as Leaving, left_at}
use Rattle.exb_outbox.specs.declared.log.Left.{Left}
use Rattle.exb_bridge.specs.BridgeWorlds.{all_left, copies_at, copies_of}
use Rattle.exb_bridge.proofs.PartChanges.{left_more as one_more}
use Rattle.exb_shelf.specs.Files.{Files}
use Rattle.exb_journal.specs.declared.file_names.OutputKind.{OutputKind}
use Rattle.exb_journal.specs.declared.file_names.OutputKind.TheVariants as output
use Rattle.exb_outputs.specs.Manifests.{Listed, kind_at}
use Rattle.exb_outputs.specs.declared.outputs.Outputs.{Outputs}
use Rattle.exb_outputs.specs.CaptureSizes.{HasSent, sent_more}
use Rattle.exb_outputs.specs.WrittenTexts.{AreCut, CanBeRecorded, HasTexts, with_more}
use Rattle.exb_outputs.proofs.WrittenTexts.{kinds_same}
use Rattle.exb_outputs.proofs.CaptureSizes.{sent_as}
use Rattle.exb_outputs.proofs.OutputPrefixes.{GoesOnAs, both_parts, cut_longer, goes_same}
use Rattle.exb_outputs.specs.SentFrames.{sent_with, sent_with_copies, with_copies, with_left_frames}
use Rattle.exb_outputs.proofs.TextUpdates.{left_at-append}

-- ---- the texts with frames that left
copies_none : (text : OutputKind → List ℕ) (o : OutputKind) → with_copies text [] o ≡ text o
copies_none text (output.Capture q) = append-nil (text (output.Capture q))
copies_none text output.Journal = refl
copies_none text output.Trace = refl
copies_none text output.Counters = refl

pub no_copies : (manifest : Listed) (f g : Files) (pieces : List (List ℕ)) (text : OutputKind → List ℕ) → HasTexts manifest pieces f g text → HasTexts manifest pieces f g (with_copies text [])
no_copies manifest f g pieces text = kinds_same manifest f g pieces text (with_copies text []) (λ o. sym (copies_none text o))

-- in two parts
pub copies_more : (text : OutputKind → List ℕ) (xs ys : List Leaving) (o : OutputKind) → with_copies (with_copies text xs) ys o ≡ with_copies text (xs ++ ys) o
copies_more text xs ys (output.Capture q) =
    let before : List ℕ = text (output.Capture q) in
    let first = flat_map record_text (left_at q xs) in
    let behind = flat_map record_text (left_at q ys) in
    append_assoc before first behind
    ∙ ap (λ (zs : List ℕ). before ++ zs) (sym (flat_map-append record_text (left_at q xs) (left_at q ys)))
    ∙ ap (λ (zs : List Sent). before ++ flat_map record_text zs) (sym (left_at-append q xs ys))
copies_more text xs ys output.Journal = refl
copies_more text xs ys output.Trace = refl
copies_more text xs ys output.Counters = refl

-- one frame, at its port and at others
copy_at_port : (text : OutputKind → List ℕ) (x : Leaving) (q : ℕ) (b : Bool) → (x.port == q) ≡ b
    → (if b then text (output.Capture q) ++ record_text (x.moment, x.bytes) else text (output.Capture q)) ≡ with_copies text (x ∷ []) (output.Capture q)
copy_at_port text x q true e = rw e (ap (λ (xs : List ℕ). text (output.Capture q) ++ xs) (sym (append-nil (record_text (x.moment, x.bytes)))))
copy_at_port text x q false e = rw e (sym (append-nil (text (output.Capture q))))

copy_one : (text : OutputKind → List ℕ) (x : Leaving) (o : OutputKind) → with_more text (output.Capture x.port) (record_text (x.moment, x.bytes)) o ≡ with_copies text (x ∷ []) o
copy_one text x (output.Capture q) = copy_at_port text x q (x.port == q) refl
copy_one text x output.Journal = refl
copy_one text x output.Trace = refl
copy_one text x output.Counters = refl

pub copy_more : (text : OutputKind → List ℕ) (xs : List Leaving) (x : Leaving) (o : OutputKind)
    → with_more (with_copies text xs) (output.Capture x.port) (record_text (x.moment, x.bytes)) o ≡ with_copies text (xs ++ x ∷ []) o
copy_more text xs x o = copy_one (with_copies text xs) x o ∙ copies_more text xs (x ∷ []) o

-- ---- fronts
goes_copies : (text : OutputKind → List ℕ) (gone : List Leaving) (o : OutputKind) → GoesOnAs text (with_copies text gone) o
goes_copies text gone (output.Capture q) = (flat_map record_text (left_at q gone), refl)
goes_copies text gone output.Journal = goes_same text (with_copies text gone) output.Journal refl
goes_copies text gone output.Trace = goes_same text (with_copies text gone) output.Trace refl
goes_copies text gone output.Counters = goes_same text (with_copies text gone) output.Counters refl

goes_more_copies : (text : OutputKind → List ℕ) (xs ys : List Leaving) (o : OutputKind) → GoesOnAs (with_copies text xs) (with_copies text (xs ++ ys)) o
goes_more_copies text xs ys o = let on = goes_copies (with_copies text xs) ys o in (on.0, sym (copies_more text xs ys o) ∙ on.1)

pub cut_frames : (manifest : Listed) (f g : Files) (text : OutputKind → List ℕ) (left : List Left) → AreCut manifest f g text → AreCut manifest f g (with_left_frames text left)
cut_frames manifest f g text left = cut_longer manifest f g text (with_left_frames text left) (λ k l. goes_copies text (all_left left) (kind_at manifest k))

-- ---- the ports of one row
module _ (x : Left) (port : ℕ) (ports rest : List ℕ) (is : ports ≡ port ∷ rest) where
  abbrev copy : Leaving
  copy = record { port = port; moment = x.moment; bytes = x.bytes }

  next_copy : copies_at x.moment x.bytes ports ≡ copy ∷ copies_at x.moment x.bytes rest
  next_copy = ap (copies_at x.moment x.bytes) is

  module _ (manifest : Listed) where
    pub copy_can : All (λ (y : Leaving). CanBeRecorded manifest y.port y.moment y.bytes) (copies_at x.moment x.bytes ports) → CanBeRecorded manifest port x.moment x.bytes
    copy_can all =
        let P : Leaving → Type 0 = λ (y : Leaving). CanBeRecorded manifest y.port y.moment y.bytes in
        (subst (All P) next_copy all) 0 copy (omega arith)

    pub rest_can : All (λ (y : Leaving). CanBeRecorded manifest y.port y.moment y.bytes) (copies_at x.moment x.bytes ports) → All (λ (y : Leaving). CanBeRecorded manifest y.port y.moment y.bytes) (copies_at x.moment x.bytes rest)
    rest_can all k d low =
        let P : Leaving → Type 0 = λ (y : Leaving). CanBeRecorded manifest y.port y.moment y.bytes in
        (subst (All P) next_copy all) (suc k) d (omega (arith, low))

  -- what was done, and one more, and then the rest, are all
  pub copies_on : (done : List Leaving) → done ++ copies_at x.moment x.bytes ports ≡ copies_of x → (done ++ copy ∷ []) ++ copies_at x.moment x.bytes rest ≡ copies_of x
  copies_on done all = append_assoc done (copy ∷ []) (copies_at x.moment x.bytes rest) ∙ ap (λ (ys : List Leaving). done ++ ys) (sym next_copy) ∙ all

  pub texts_on : (manifest : Listed) (f g : Files) (pieces : List (List ℕ)) (text : OutputKind → List ℕ) (done : List Leaving) (written : List ℕ) → record_text (x.moment, x.bytes) ≡ written
      → HasTexts manifest pieces f g (with_more (with_copies text done) (output.Capture port) written) → HasTexts manifest pieces f g (with_copies text (done ++ copy ∷ []))
  texts_on manifest f g pieces text done written same =
      kinds_same manifest f g pieces (with_more (with_copies text done) (output.Capture port) written) (with_copies text (done ++ copy ∷ []))
      (λ o. ap (λ (r : List ℕ). with_more (with_copies text done) (output.Capture port) r o) (sym same) ∙ copy_more text done copy o)

  pub cut_on : (manifest : Listed) (f g : Files) (text : OutputKind → List ℕ) (done : List Leaving) (written : List ℕ) → record_text (x.moment, x.bytes) ≡ written
      → done ++ copies_at x.moment x.bytes ports ≡ copies_of x
      → AreCut manifest f g (with_more (with_copies text done) (output.Capture port) written) → AreCut manifest f g (with_copies text (copies_of x))
  cut_on manifest f g text done written same all =
      cut_longer manifest f g (with_more (with_copies text done) (output.Capture port) written) (with_copies text (copies_of x))
      (λ k l.
      let o : OutputKind = kind_at manifest k in
      let on = goes_more_copies text (done ++ copy ∷ []) (copies_at x.moment x.bytes rest) o in
      let was : with_more (with_copies text done) (output.Capture port) written o ≡ with_copies text (done ++ copy ∷ []) o =
      ap (λ (r : List ℕ). with_more (with_copies text done) (output.Capture port) r o) (sym same) ∙ copy_more text done copy o in (
        on.0,
        ap (λ (ys : List Leaving). with_copies text ys o) (sym (copies_on done all)) ∙ on.1 ∙ ap (λ (xs : List ℕ). xs ++ on.0) (sym was),
      ))

  pub sent_on : (manifest : Listed) (o : Outputs) (sent : ℕ → List Sent) (done : List Leaving)
      → HasSent manifest o (sent_more (sent_with_copies sent done) port (x.moment, x.bytes)) → HasSent manifest o (sent_with_copies sent (done ++ copy ∷ []))
  sent_on manifest o sent done =
      sent_as manifest o (sent_more (sent_with_copies sent done) port (x.moment, x.bytes)) (sent_with_copies sent (done ++ copy ∷ []))
      (λ q. by_port q (port == q) ∙ ap (λ (xs : List Sent). sent q ++ xs) (sym (left_at-append q done (copy ∷ []))))
    where
      by_port : (q : ℕ) (b : Bool) → (if b then (sent q ++ left_at q done) ++ (x.moment, x.bytes) ∷ [] else sent q ++ left_at q done) ≡ sent q ++ (left_at q done ++ (if b then (x.moment, x.bytes) ∷ [] else []))
      by_port q true = append_assoc (sent q) (left_at q done) ((x.moment, x.bytes) ∷ [])
      by_port q false = ap (λ (xs : List Sent). sent q ++ xs) (sym (append-nil (left_at q done)))

-- none is left
pub all_copied : (x : Left) (ports : List ℕ) (done : List Leaving) → ports ≡ [] → done ++ copies_at x.moment x.bytes ports ≡ copies_of x → done ≡ copies_of x
all_copied x ports done none all = sym (append-nil done) ∙ ap (λ (qs : List ℕ). done ++ copies_at x.moment x.bytes qs) (sym none) ∙ all

-- there is none
pub row_none : (x : Left) (ports : List ℕ) → ports ≡ [] → copies_at x.moment x.bytes ports ≡ []
row_none x ports none = ap (copies_at x.moment x.bytes) none

-- ---- one row more
next_row : (left : List Left) (i : ℕ) (x : Left) → i < length left → x ≡ get_or left i x → all_left (take i left) ++ copies_of x ≡ all_left (take (i + 1) left)
next_row left i x inside is =
    sym (one_more (take i left) x)
    ∙ ap (λ (y : Left). all_left (take i left ++ y ∷ [])) is
    ∙ ap all_left (sym (take_more left i x inside))

pub more_frames : (manifest : Listed) (f g : Files) (pieces : List (List ℕ)) (text : OutputKind → List ℕ) (left : List Left) (i : ℕ) (x : Left)
    → i < length left → x ≡ get_or left i x
    → HasTexts manifest pieces f g (with_copies (with_left_frames text (take i left)) (copies_of x))
    → HasTexts manifest pieces f g (with_left_frames text (take (i + 1) left))
more_frames manifest f g pieces text left i x inside is =
    kinds_same manifest f g pieces (with_copies (with_left_frames text (take i left)) (copies_of x)) (with_left_frames text (take (i + 1) left))
    (λ o. copies_more text (all_left (take i left)) (copies_of x) o ∙ ap (λ (ys : List Leaving). with_copies text ys o) (next_row left i x inside is))

pub cut_left : (manifest : Listed) (f g : Files) (text : OutputKind → List ℕ) (left : List Left) (i : ℕ) (x : Left) → i < length left → x ≡ get_or left i x
    → AreCut manifest f g (with_copies (with_left_frames text (take i left)) (copies_of x))
    → AreCut manifest f g (with_left_frames text left)
cut_left manifest f g text left i x inside is =
    let was : OutputKind → List ℕ = with_copies (with_left_frames text (take i left)) (copies_of x) in
    cut_longer manifest f g was (with_left_frames text left)
    (λ k l.
    let o : OutputKind = kind_at manifest k in
    let now = take (i + 1) left in
    let later = drop (i + 1) left in
    let on = goes_more_copies text (all_left now) (all_left later) o in
    let same : was o ≡ with_left_frames text now o = copies_more text (all_left (take i left)) (copies_of x) o ∙ ap (λ (ys : List Leaving). with_copies text ys o) (next_row left i x inside is) in
    let whole : all_left left ≡ all_left now ++ all_left later = ap all_left (sym (both_parts (i + 1) left)) ∙ flat_map-append copies_of now later in (
      on.0,
      ap (λ (ys : List Leaving). with_copies text ys o) whole ∙ on.1 ∙ ap (λ (xs : List ℕ). xs ++ on.0) (sym same),
    ))

-- ---- what was counted
pub sent_none : (sent : ℕ → List Sent) (q : ℕ) → sent q ≡ sent_with_copies sent [] q
sent_none sent q = sym (append-nil (sent q))

pub frames_sent : (manifest : Listed) (o : Outputs) (sent : ℕ → List Sent) (left : List Left) (i : ℕ) (x : Left) → i < length left → x ≡ get_or left i x
    → HasSent manifest o (sent_with_copies (sent_with sent (take i left)) (copies_of x)) → HasSent manifest o (sent_with sent (take (i + 1) left))
frames_sent manifest o sent left i x inside is =
    sent_as manifest o (sent_with_copies (sent_with sent (take i left)) (copies_of x)) (sent_with sent (take (i + 1) left))
    (λ q. append_assoc (sent q) (left_at q (all_left (take i left))) (left_at q (copies_of x))
    ∙ ap (λ (xs : List Sent). sent q ++ xs) (sym (left_at-append q (all_left (take i left)) (copies_of x)))
    ∙ ap (λ (ys : List Leaving). sent q ++ left_at q ys) (next_row left i x inside is))

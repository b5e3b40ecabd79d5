-- What may be either format can be filled up as that one can.
use Rattle.std.proofs.Common.{◌≡◌, ◌<◌, ℕ, Bool, true, false, List, [], ◌++◌, length, take, drop, cond, refl, ap, sym, subst, ◌∙◌, arith, length-append, length-drop}
use Rattle.std.specs.Prelude.{nat_lt}
use Rattle.std.proofs.lemmas.Bool.{ltb-false, ltb-true, le-ltb, lt-ltb, ne_eqb}
use Rattle.exb_capture.specs.declared.fault.FormatFault.{FormatFault}
use Rattle.exb_capture.specs.declared.fault.Flaw.TheVariants.{NotPcap, Cut}
use Rattle.exb_capture.specs.declared.classic.ClassicFormat.TheVariants.{Start}
use Rattle.exb_capture.specs.declared.format.AnyFormat.{AnyFormat as State}
use Rattle.exb_capture.specs.declared.format.AnyFormat.TheVariants.{Unknown, Classic, Blocks}
use Rattle.exb_capture.specs.Fields.{agrees}
use Rattle.exb_capture.specs.Formats.{Front, Nothing, Short, fault}
use Rattle.exb_capture.specs.ReaderMachine.{IsOther, IsUndecided, IsNotCut}
use Rattle.exb_capture.specs.Blocks.{no_section, order_of, head_at, headed_front, block_front}
use Rattle.exb_capture.specs.Classic.{classic_front}
use Rattle.exb_capture.specs.Captures.{mapped, first_bytes, unknown_front, capture_front}
use Rattle.exb_capture.proofs.FormatLemmas.{longer, differs_on, agrees_whole}
use Rattle.exb_capture.proofs.BlockPrefixes.{block_undecided, block_blank}
use Rattle.exb_capture.proofs.ClassicPrefixes.{classic_undecided, classic_blank, magic_bytes, four_bytes}
use Rattle.exb_capture.proofs.UndecidedLemmas.{agrees_filled, mapped_other, mapped_short, mapped_blank}

abbrev pub chosen_front : Bool → List ℕ → Front State
chosen_front t left =
    cond t (cond (nat_lt (length left) 4) (Short (fault NotPcap 0)) (mapped Blocks (block_front no_section left))) (mapped Classic (classic_front Start left))

-- in the state of one format, what that one can be filled up to
mapped_undecided : {T : Type 0} (m : T → State) (own : T → List ℕ → Front T) (same : (s : T) (left : List ℕ) → capture_front (m s) left ≡ mapped m (own s left))
    → ((s : T) (h : List ℕ) (f : FormatFault) → own s h ≡ Short f → IsUndecided own s h f.flaw) → (s : T) (h : List ℕ) (f : FormatFault) → capture_front (m s) h ≡ Short f → IsUndecided capture_front (m s) h f.flaw
mapped_undecided m own same undecided s h f is =
    let u = undecided s h f (mapped_short m (own s h) f (sym (same s h) ∙ is)) in
    record { more = u.more; bytes = u.bytes; other = subst (IsOther f.flaw (length (h ++ u.more))) (sym (same s (h ++ u.more))) (mapped_other m f.flaw (length (h ++ u.more)) (own s (h ++ u.more)) u.other) }

classic_same : (s : _) (left : List ℕ) → capture_front (Classic s) left ≡ mapped Classic (classic_front s left)
unfolding capture_front
classic_same s left = refl

blocks_same : (s : _) (left : List ℕ) → capture_front (Blocks s) left ≡ mapped Blocks (block_front s left)
unfolding capture_front
blocks_same s left = refl

unknown_same : (left : List ℕ) → capture_front Unknown left ≡ unknown_front left
unfolding capture_front
unknown_same left = refl

-- four bytes decide which format it is, and no more
four_blocks : (b : List ℕ) → length b ≡ 4 → block_front no_section b ≡ Short (fault Cut 0)
unfolding block_front
four_blocks b size =
    ap (λ t. cond t Nothing (cond (nat_lt (length b) 12) (Short (fault Cut 0)) (headed_front no_section (head_at (order_of no_section.section) (take 12 b)) b))) (ne_eqb (length b) 0 (λ none. omega (arith, none, size)))
    ∙ ap (λ t. cond t (Short (fault Cut 0)) (headed_front no_section (head_at (order_of no_section.section) (take 12 b)) b)) (lt-ltb (length b) 12 (omega (arith, size)))

few_undecided : (h : List ℕ) → agrees first_bytes h ≡ true → length h < 4 → IsUndecided capture_front Unknown h NotPcap
few_undecided h e few =
    let more : List ℕ = drop (length h) first_bytes in
    let b : List ℕ = h ++ more in
    let size : length b ≡ 4 = omega (arith, few, length-append h more, length-drop (length h) first_bytes) in
    let is : capture_front Unknown b ≡ Short (fault Cut 0) =
    unknown_same b ∙ ap (λ t. chosen_front t b) (agrees_filled first_bytes h e)
    ∙ ap (λ t. cond t (Short (fault NotPcap 0)) (mapped Blocks (block_front no_section b))) (le-ltb (length b) 4 (omega (arith, size)))
    ∙ ap (mapped Blocks) (four_blocks b size) in
    record {
      more = more;
      bytes = magic_bytes first_bytes (length h) (four_bytes 0x0A 0x0D 0x0D 0x0A (omega arith) (omega arith) (omega arith) (omega arith));
      other = subst (IsOther NotPcap (length b)) (sym is) (λ t. cc);
    }

unknown_undecided : (h : List ℕ) (f : FormatFault) (t : Bool) → agrees first_bytes h ≡ t → chosen_front t h ≡ Short f → IsUndecided capture_front Unknown h f.flaw
unknown_undecided h f false e = λ is.
    let u = classic_undecided Start h f (mapped_short Classic (classic_front Start h) f is) in
    let b : List ℕ = h ++ u.more in
    let front : capture_front Unknown b ≡ mapped Classic (classic_front Start b) = unknown_same b ∙ ap (λ t. chosen_front t b) (differs_on first_bytes h u.more e) in
    record { more = u.more; bytes = u.bytes; other = subst (IsOther f.flaw (length b)) (sym front) (mapped_other Classic f.flaw (length b) (classic_front Start b) u.other) }
unknown_undecided h f true e = by_four (nat_lt (length h) 4) refl
  where
    by_four : (t : Bool) → nat_lt (length h) 4 ≡ t → cond t (Short (fault NotPcap 0)) (mapped Blocks (block_front no_section h)) ≡ Short f → IsUndecided capture_front Unknown h f.flaw
    by_four true t is =
        let same : fault NotPcap 0 ≡ f = cc in
        subst (λ (g : FormatFault). IsUndecided capture_front Unknown h g.flaw) same (few_undecided h e (ltb-true (length h) 4 t))
    by_four false t is =
        let fits = ltb-false (length h) 4 t in
        let u = block_undecided no_section h f (mapped_short Blocks (block_front no_section h) f is) in
        let b : List ℕ = h ++ u.more in
        let front : capture_front Unknown b ≡ mapped Blocks (block_front no_section b) =
        unknown_same b ∙ ap (λ t. chosen_front t b) (agrees_whole first_bytes h u.more fits ∙ e)
        ∙ ap (λ t. cond t (Short (fault NotPcap 0)) (mapped Blocks (block_front no_section b))) (longer h u.more 4 fits) in
        record { more = u.more; bytes = u.bytes; other = subst (IsOther f.flaw (length b)) (sym front) (mapped_other Blocks f.flaw (length b) (block_front no_section b) u.other) }

pub capture_undecided : (s : State) (h : List ℕ) (f : FormatFault) → capture_front s h ≡ Short f → IsUndecided capture_front s h f.flaw
capture_undecided Unknown h f is = unknown_undecided h f (agrees first_bytes h) refl (sym (unknown_same h) ∙ is)
capture_undecided (Classic s) h f is = mapped_undecided Classic classic_front classic_same classic_undecided s h f is
capture_undecided (Blocks s) h f is = mapped_undecided Blocks block_front blocks_same block_undecided s h f is

unknown_blank : IsNotCut (capture_front Unknown [])
unfolding capture_front agrees
unknown_blank = λ e. cc

pub capture_blank : (s : State) → IsNotCut (capture_front s [])
capture_blank Unknown = unknown_blank
capture_blank (Classic s) = subst IsNotCut (sym (classic_same s [])) (mapped_blank Classic (classic_front s []) (classic_blank s))
capture_blank (Blocks s) = subst IsNotCut (sym (blocks_same s [])) (mapped_blank Blocks (block_front s []) (block_blank s))

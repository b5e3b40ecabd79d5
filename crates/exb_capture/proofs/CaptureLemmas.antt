-- The two formats behind their first bytes are a format, and each file is read by its own.
use Rattle.std.proofs.Common.{◌≡◌, ◌<◌, ◌≤◌, ℕ, zero, suc, Bool, true, false, List, ◌++◌, length, take, drop, Option, Some, None, cond, refl, ap, sym, ◌∙◌, arith}
use Rattle.std.specs.Prelude.{nat_lt}
use Rattle.std.proofs.lemmas.Bool.{ltb-false, ltb-true, le-ltb, lt-ltb}
use Rattle.exb_capture.specs.declared.fault.Flaw.TheVariants.{NotPcap, Cut}
use Rattle.exb_capture.specs.declared.classic.ClassicEncoding.{ClassicEncoding}
use Rattle.exb_capture.specs.declared.classic.ClassicFormat.{ClassicFormat}
use Rattle.exb_capture.specs.declared.classic.ClassicFormat.TheVariants.{Start}
use Rattle.exb_capture.specs.declared.format.AnyFormat.{AnyFormat as State}
use Rattle.exb_capture.specs.declared.format.AnyFormat.TheVariants.{Unknown, Classic, Blocks}
use Rattle.exb_capture.specs.Fields.{agrees}
use Rattle.exb_capture.specs.Formats.{Front, Nothing, Short, Bad, Over, Holds, Capture, at_fault, before, fault, behind, at_place, continued, reading_within, reading_from, whole}
use Rattle.exb_capture.specs.ReaderMachine.{IsFormat}
use Rattle.exb_capture.specs.Blocks.{Sections, no_section, block_front, most_held, ng_records}
use Rattle.exb_capture.specs.Classic.{form_of, header_at, shown_header, magic_front, classic_front, pcap_records}
use Rattle.exb_capture.specs.Captures.{mapped, first_bytes, unknown_front, capture_front, capture_records}
use Rattle.exb_capture.proofs.FormatLemmas.{IsDecided, longer, IsMeasured, format_by, differs_on, agrees_whole, mapped_stands, mapped_measured}
use Rattle.exb_capture.proofs.CapturePrefixes.{chosen_front, capture_undecided, capture_blank}
use Rattle.exb_capture.proofs.ClassicLemmas.{classic_stands, classic_measured}
use Rattle.exb_capture.proofs.BlockLemmas.{block_stands, block_measured}

unknown_stands : (h more : List ℕ) (t : Bool) → agrees first_bytes h ≡ t → IsDecided (chosen_front t h) → unknown_front (h ++ more) ≡ chosen_front t h
unknown_stands h more false e = λ is. ap (λ t. chosen_front t (h ++ more)) (differs_on first_bytes h more e)
    ∙ mapped_stands Classic (classic_front Start h) (classic_front Start (h ++ more)) (classic_stands Start h more) is
unknown_stands h more true e = by_four (nat_lt (length h) 4) refl
  where
    by_four : (b : Bool) → nat_lt (length h) 4 ≡ b → IsDecided (cond b (Short (fault NotPcap 0)) (mapped Blocks (block_front no_section h)))
        → unknown_front (h ++ more) ≡ cond b (Short (fault NotPcap 0)) (mapped Blocks (block_front no_section h))
    by_four true t never = absurd never
    by_four false t is =
        let fits = ltb-false (length h) 4 t in
        ap (λ b. chosen_front b (h ++ more)) (agrees_whole first_bytes h more fits ∙ e)
        ∙ ap (λ b. cond b (Short (fault NotPcap 0)) (mapped Blocks (block_front no_section (h ++ more)))) (longer h more 4 fits)
        ∙ mapped_stands Blocks (block_front no_section h) (block_front no_section (h ++ more)) (block_stands no_section h more) is

pub capture_stands : (s : State) (h more : List ℕ) → IsDecided (capture_front s h) → capture_front s (h ++ more) ≡ capture_front s h
unfolding capture_front
capture_stands Unknown h more = unknown_stands h more (agrees first_bytes h) refl
capture_stands (Classic s) h more = mapped_stands Classic (classic_front s h) (classic_front s (h ++ more)) (classic_stands s h more)
capture_stands (Blocks s) h more = mapped_stands Blocks (block_front s h) (block_front s (h ++ more)) (block_stands s h more)

unknown_measured : (h : List ℕ) (t : Bool) → IsMeasured most_held h (chosen_front t h)
unknown_measured h false = mapped_measured Classic most_held h (classic_front Start h) (classic_measured Start h)
unknown_measured h true = by_four (nat_lt (length h) 4) refl
  where
    by_four : (b : Bool) → nat_lt (length h) 4 ≡ b → IsMeasured most_held h (cond b (Short (fault NotPcap 0)) (mapped Blocks (block_front no_section h)))
    by_four true t = let few = ltb-true (length h) 4 t in (omega (arith, few), omega arith)
    by_four false t = mapped_measured Blocks most_held h (block_front no_section h) (block_measured no_section h)

pub capture_measured : (s : State) (h : List ℕ) → IsMeasured most_held h (capture_front s h)
unfolding capture_front
capture_measured Unknown h = unknown_measured h (agrees first_bytes h)
capture_measured (Classic s) h = mapped_measured Classic most_held h (classic_front s h) (classic_measured s h)
capture_measured (Blocks s) h = mapped_measured Blocks most_held h (block_front s h) (block_measured s h)

pub captures_are_a_format : IsFormat most_held capture_front
captures_are_a_format = format_by most_held capture_front capture_stands capture_measured capture_undecided capture_blank

-- ---- each file by its own format
mapped_continued : {S T : Type 0} (m : S → T) (x : Front S) (p : ℕ) (left : List ℕ) (f : T → ℕ → List ℕ → Capture) (g : S → ℕ → List ℕ → Capture)
    → ((s : S) (q : ℕ) (rest : List ℕ) → f (m s) q rest ≡ g s q rest) → continued (mapped m x) p left f ≡ continued x p left g
mapped_continued m Nothing p left f g h = refl
mapped_continued m (Short x) p left f g h = refl
mapped_continued m (Bad x) p left f g h = refl
mapped_continued m (Over n s) p left f g h = ap (λ c. cond (nat_lt (length left) n) (at_fault (fault Cut p)) c) (h s (behind p n) (drop n left))
mapped_continued m (Holds x n s) p left f g h = ap (before x p) (h s (behind p n) (drop n left))

mapped_within : {S T : Type 0} (m : S → T) (front : T → List ℕ → Front T) (own : S → List ℕ → Front S) (same : (s : S) (left : List ℕ) → front (m s) left ≡ mapped m (own s left))
    → (n : ℕ) (s : S) (p : ℕ) (left : List ℕ) → reading_within front n (m s) p left ≡ reading_within own n s p left
unfolding reading_within
mapped_within m front own same zero s p left = refl
mapped_within m front own same (suc n) s p left =
    ap (λ x. continued x p left (reading_within front n)) (same s left)
    ∙ mapped_continued m (own s left) p left (reading_within front n) (reading_within own n) (mapped_within m front own same n)

classic_same : (s : ClassicFormat) (left : List ℕ) → capture_front (Classic s) left ≡ mapped Classic (classic_front s left)
unfolding capture_front
classic_same s left = refl

blocks_same : (s : Sections) (left : List ℕ) → capture_front (Blocks s) left ≡ mapped Blocks (block_front s left)
unfolding capture_front
blocks_same s left = refl

-- where the first step is that of a format, all are
begins_as : {S : Type 0} (m : S → State) (own : S → List ℕ → Front S) (same : (s : S) (left : List ℕ) → capture_front (m s) left ≡ mapped m (own s left))
    → (s : S) (file : List ℕ) → unknown_front file ≡ mapped m (own s file) → reading_from capture_front Unknown 0 file ≡ reading_from own s 0 file
unfolding reading_from reading_within capture_front
begins_as m own same s file e =
    ap (λ x. continued x 0 file (reading_within capture_front (length file))) e
    ∙ mapped_continued m (own s file) 0 file (reading_within capture_front (length file)) (reading_within own (length file)) (mapped_within m capture_front own same (length file))

pub read_as_classic : (file : List ℕ) → agrees first_bytes file ≡ false → capture_records file ≡ pcap_records file
unfolding capture_records pcap_records
read_as_classic file e = ap whole (begins_as Classic classic_front classic_same Start file (ap (λ t. chosen_front t file) e))

pub read_as_blocks : (file : List ℕ) → agrees first_bytes file ≡ true → 4 ≤ length file → capture_records file ≡ ng_records file
unfolding capture_records ng_records
read_as_blocks file e fits =
    ap whole (begins_as Blocks block_front blocks_same no_section file
    (ap (λ t. chosen_front t file) e ∙ ap (λ b. cond b (Short (fault NotPcap 0)) (mapped Blocks (block_front no_section file))) (longer_none file fits)))
  where
    longer_none : (h : List ℕ) → 4 ≤ length h → nat_lt (length h) 4 ≡ false
    longer_none h k = le-ltb (length h) 4 k

-- a file of fewer than four bytes is no capture in either way
few_magic : (o : Option ClassicEncoding) (file : List ℕ) (rest : ClassicFormat → ℕ → List ℕ → Capture) → length file < 4 → continued (magic_front o file) 0 file rest ≡ at_fault (at_place 0 (fault NotPcap 0))
few_magic None file rest few = refl
few_magic (Some f) file rest few =
    ap (λ b. continued (cond b (Short (fault NotPcap 0)) (cond (nat_lt (length file) 24) (Short (fault Cut 0)) (shown_header f (header_at f (take 24 file))))) 0 file rest) (lt-ltb (length file) 4 few)

few_classic : (file : List ℕ) → length file < 4 → reading_from classic_front Start 0 file ≡ at_fault (at_place 0 (fault NotPcap 0))
unfolding reading_from reading_within classic_front
few_classic file few = few_magic (form_of file) file (reading_within classic_front (length file)) few

few_blocks : (file : List ℕ) → agrees first_bytes file ≡ true → length file < 4 → reading_from capture_front Unknown 0 file ≡ at_fault (at_place 0 (fault NotPcap 0))
unfolding reading_from reading_within capture_front
few_blocks file e few =
    ap (λ t. continued (chosen_front t file) 0 file (reading_within capture_front (length file))) e
    ∙ ap (λ b. continued (cond b (Short (fault NotPcap 0)) (mapped Blocks (block_front no_section file))) 0 file (reading_within capture_front (length file))) (lt-ltb (length file) 4 few)

pub few_read : (file : List ℕ) → length file < 4 → capture_records file ≡ pcap_records file
unfolding capture_records pcap_records
few_read file few = by_first (agrees first_bytes file) refl
  where
    by_first : (t : Bool) → agrees first_bytes file ≡ t → whole (reading_from capture_front Unknown 0 file) ≡ whole (reading_from classic_front Start 0 file)
    by_first true e = ap whole (few_blocks file e few ∙ sym (few_classic file few))
    by_first false e = ap whole (begins_as Classic classic_front classic_same Start file (ap (λ t. chosen_front t file) e))

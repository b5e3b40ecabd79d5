-- Of a text there is one answer.
use Rattle.std.proofs.Common.{◌≡◌, ◌+◌, ◌==◌, ℕ, suc, Bool, true, false, List, [], ◌∷◌, ◌++◌, length, Option, Some, None, cond, refl, ap, sym, subst, ◌∙◌, arith}
use Rattle.std.specs.Prelude.{is_some, option_map, option_and_then}
use Rattle.std.specs.List.{slice_split}
use Rattle.exb_model.specs.Traces.{TraceLine}
use Rattle.exb_trace_spec.specs.JournalLines.{Entry, entry_in}
use Rattle.exb_trace_spec.specs.TraceTexts.{read_line, read_trace}
use Rattle.exb_trace_spec.specs.Traversals.{Each}
use Rattle.exb_trace_spec.specs.TextFields.{all_read, lines_in}
use Rattle.exb_audit_files.specs.declared.texts.LinesFault.{LinesFault}
use Rattle.exb_audit_files.specs.declared.texts.LinesFault.TheVariants.{Memory, Read, Missing, Large, Bad}
use Rattle.exb_audit_files.specs.LineFeeds.{journal_line}
use Rattle.exb_audit_files.specs.Lines.{AreLines, FirstBadLine, HoldsLines, IsBadLine, IsJournal, IsLinesFault, IsTrace}
use Rattle.exb_audit_files.proofs.LineFeeds.{ended_parts, every_read, good_read}

-- ---- one first bad line
module _ {A : Type 0} (read : List ℕ → Option A) where
  abbrev IsGoodLine : List ℕ → Type 0
  IsGoodLine l = is_some (read l) ≡ true

  never_both : (l : List ℕ) → is_some (read l) ≡ true → read l ≡ None → ⊥
  never_both l good none = by_is (is_some (read l)) good (ap is_some none)
    where
      by_is : (b : Bool) → b ≡ true → b ≡ false → ⊥
      by_is b x y = cc

  bad_some : (line : List ℕ) (bs : List (List ℕ)) (m : List ℕ) (after : List (List ℕ)) → IsBadLine read line (bs ++ m ∷ after) → read line ≡ None
  bad_some line [] m after h = h
  bad_some line (b ∷ bs) m after h = h

  heads : (x y : List ℕ) (xs ys : List (List ℕ)) → x ∷ xs ≡ y ∷ ys → x ≡ y
  heads x y xs ys e = cc

  tails : (x y : List ℕ) (xs ys : List (List ℕ)) → x ∷ xs ≡ y ∷ ys → xs ≡ ys
  tails x y xs ys e = cc

  first_is_one : (xs ys : List (List ℕ)) (l m : List ℕ) (cs bs : List (List ℕ)) → xs ++ l ∷ cs ≡ ys ++ m ∷ bs → Each IsGoodLine xs → Each IsGoodLine ys → IsBadLine read l cs → IsBadLine read m bs
      → length xs ≡ length ys
  first_is_one [] [] l m cs bs e p q h k = refl
  first_is_one [] (y ∷ ys) l m cs bs e p q h k =
      let same : l ≡ y = heads l y cs (ys ++ m ∷ bs) e in
      absurd (never_both y q.0 (bad_some y ys m bs (subst (λ z. IsBadLine read y z) (tails l y cs (ys ++ m ∷ bs) e) (subst (λ z. IsBadLine read z cs) same h))))
  first_is_one (x ∷ xs) [] l m cs bs e p q h k =
      let same : m ≡ x = heads m x bs (xs ++ l ∷ cs) (sym e) in
      absurd (never_both x p.0 (bad_some x xs l cs (subst (λ z. IsBadLine read x z) (tails m x bs (xs ++ l ∷ cs) (sym e)) (subst (λ z. IsBadLine read z bs) same k))))
  first_is_one (x ∷ xs) (y ∷ ys) l m cs bs e p q h k = ap suc (first_is_one xs ys l m cs bs (tails x y (xs ++ l ∷ cs) (ys ++ m ∷ bs) e) p.1 q.1 h k)

  pub one_bad : (text : List ℕ) (n k : ℕ) → FirstBadLine read text n → FirstBadLine read text k → n ≡ k
  one_bad text n k a b =
      a.number_is ∙ (ap (λ j. j + 1) (first_is_one a.before b.before a.line b.line a.after b.after (sym a.cut ∙ b.cut) a.good b.good a.bad b.bad) ∙ sym b.number_is)

  -- ---- a text that is read has none
  none_bad : (ls xs : List (List ℕ)) (l : List ℕ) (after : List (List ℕ)) → ls ++ [] ∷ [] ≡ xs ++ l ∷ after → Each IsGoodLine ls → IsBadLine read l after → ⊥
  none_bad [] [] l after e good h = last after (tails [] l [] after e) h
    where
      last : (cs : List (List ℕ)) → [] ≡ cs → IsBadLine read l cs → ⊥
      last [] none k = k (sym (heads [] l [] after e))
      last (b ∷ bs) none k = absurd (cc)
  none_bad [] (x ∷ xs) l after e good h = more xs (tails [] x [] (xs ++ l ∷ after) e)
    where
      more : (zs : List (List ℕ)) → [] ≡ zs ++ l ∷ after → ⊥
      more [] z = cc
      more (y ∷ ys) z = cc
  none_bad (k ∷ ks) [] l after e good h =
      let same : l ≡ k = heads l k after (ks ++ [] ∷ []) (sym e) in
      never_both k good.0 (bad_some k ks [] [] (subst (λ z. IsBadLine read k z) (tails l k after (ks ++ [] ∷ []) (sym e)) (subst (λ z. IsBadLine read z after) same h)))
  none_bad (k ∷ ks) (x ∷ xs) l after e good h = none_bad ks xs l after (tails k x (ks ++ [] ∷ []) (xs ++ l ∷ after) e) good.1 h

  pub lines_or_bad : (text : List ℕ) (lines : List A) (number : ℕ) → AreLines read text lines → FirstBadLine read text number → ⊥
  unfolding lines_in
  lines_or_bad text lines number a b =
      none_bad a.parts b.before b.line b.after (sym (ended_parts (slice_split (λ c. c == 10) text) a.parts a.cut) ∙ b.cut) (good_read read a.parts lines a.are) b.bad

  -- ---- one fault
  some_same : (x y : List ℕ) → Some x ≡ Some y → x ≡ y
  some_same x y e = cc

  none_some : (x : List ℕ) → None ≡ Some x → ⊥
  none_some x e = cc

  pub one_lines_fault : (limit : ℕ) (file : Option (List ℕ)) (f g : LinesFault) → IsLinesFault read limit file f → IsLinesFault read limit file g → f ≡ g
  one_lines_fault limit file Missing Missing h k = refl
  one_lines_fault limit file Missing Large h k = absurd (none_some k.0 (sym h ∙ k.1))
  one_lines_fault limit file Missing (Bad n) h k = absurd (none_some k.0 (sym h ∙ k.1))
  one_lines_fault limit file Large Missing h k = absurd (none_some h.0 (sym k ∙ h.1))
  one_lines_fault limit file Large Large h k = refl
  one_lines_fault limit file Large (Bad n) h k = absurd (omega (arith, h.2, k.2, ap length (some_same h.0 k.0 (sym h.1 ∙ k.1))))
  one_lines_fault limit file (Bad n) Missing h k = absurd (none_some h.0 (sym k ∙ h.1))
  one_lines_fault limit file (Bad n) Large h k = absurd (omega (arith, k.2, h.2, ap length (some_same h.0 k.0 (sym h.1 ∙ k.1))))
  one_lines_fault limit file (Bad n) (Bad m) h k =
      ap (λ j. Bad j) (one_bad k.0 n m (subst (λ t. FirstBadLine read t n) (some_same h.0 k.0 (sym h.1 ∙ k.1)) h.3) k.3)
  one_lines_fault limit file Read g h k = absurd h
  one_lines_fault limit file Memory g h k = absurd h
  one_lines_fault limit file Missing Read h k = absurd k
  one_lines_fault limit file Missing Memory h k = absurd k
  one_lines_fault limit file Large Read h k = absurd k
  one_lines_fault limit file Large Memory h k = absurd k
  one_lines_fault limit file (Bad n) Read h k = absurd k
  one_lines_fault limit file (Bad n) Memory h k = absurd k

  pub lines_or_fault : {B : Type 0} (Gives : List ℕ → List B → Type 0) → ((text : List ℕ) (lines : List B) → Gives text lines → (read_as : List A) × AreLines read text read_as)
      → (limit : ℕ) (file : Option (List ℕ)) (lines : List B) (f : LinesFault) → HoldsLines Gives limit file lines → IsLinesFault read limit file f → ⊥
  lines_or_fault Gives so limit file lines Missing h k = none_some h.text (sym k ∙ h.there)
  lines_or_fault Gives so limit file lines Large h k = omega (arith, h.small, k.2, ap length (some_same h.text k.0 (sym h.there ∙ k.1)))
  lines_or_fault Gives so limit file lines (Bad n) h k =
      let a = so h.text lines h.gives in
      lines_or_bad k.0 a.0 n (subst (λ t. AreLines read t a.0) (some_same h.text k.0 (sym h.there ∙ k.1)) a.1) k.3
  lines_or_fault Gives so limit file lines Read h k = k
  lines_or_fault Gives so limit file lines Memory h k = k

-- ---- a journal
pub journal_lines : (text : List ℕ) (lines : List (List ℕ)) → IsJournal text lines → (read_as : List Entry) × AreLines entry_in text read_as
journal_lines text lines h = let all = every_read entry_in lines h.entries in (all.0, record { parts = lines; cut = h.cut; are = all.1 })

kept : (xs ys : List (List ℕ)) → all_read journal_line xs ≡ Some ys → (xs ≡ ys) × Each (λ line. is_some (entry_in line) ≡ true) ys
kept [] ys e = (none_same e, subst (Each (λ line. is_some (entry_in line) ≡ true)) (none_same e) tt)
  where
    none_same : Some [] ≡ Some ys → [] ≡ ys
    none_same z = cc
kept (x ∷ xs) ys e = by_first (is_some (entry_in x)) (all_read journal_line xs) refl (λ zs. kept xs zs) e
  where
    no_some : None ≡ Some ys → ⊥
    no_some z = cc

    some_cons : (zs : List (List ℕ)) → Some (x ∷ zs) ≡ Some ys → x ∷ zs ≡ ys
    some_cons zs z = cc

    by_first : (b : Bool) (p : Option (List (List ℕ))) → is_some (entry_in x) ≡ b → ((zs : List (List ℕ)) → p ≡ Some zs → (xs ≡ zs) × Each (λ line. is_some (entry_in line) ≡ true) zs)
        → option_and_then (λ z. option_map (λ zs. z ∷ zs) p) (cond b (Some x) None) ≡ Some ys → (x ∷ xs ≡ ys) × Each (λ line. is_some (entry_in line) ≡ true) ys
    by_first false p w go z = absurd (no_some z)
    by_first true None w go z = absurd (no_some z)
    by_first true (Some zs) w go z =
        let rest = go zs refl in
        (ap (λ (ws : List (List ℕ)). x ∷ ws) rest.0 ∙ some_cons zs z, subst (Each (λ line. is_some (entry_in line) ≡ true)) (some_cons zs z) (w, rest.1))

pub journal_is : (text : List ℕ) (lines : List (List ℕ)) → AreLines journal_line text lines → IsJournal text lines
journal_is text lines a = let k = kept a.parts lines a.are in record { cut = a.cut ∙ ap (λ (z : List (List ℕ)). Some z) k.0; entries = k.1 }

line_same : (l : List ℕ) → is_some (journal_line l) ≡ is_some (entry_in l)
line_same l = by_is (is_some (entry_in l))
  where
    by_is : (b : Bool) → is_some (cond b (Some l) None) ≡ b
    by_is true = refl
    by_is false = refl

bad_same : (line : List ℕ) (after : List (List ℕ)) → IsBadLine journal_line line after → IsBadLine entry_in line after
bad_same line [] h = h
bad_same line (b ∷ bs) h = none_of (entry_in line) (sym (line_same line) ∙ ap is_some h)
  where
    none_of : (o : Option Entry) → is_some o ≡ false → o ≡ None
    none_of None e = refl
    none_of (Some x) e = absurd (cc)

good_same : (ls : List (List ℕ)) → Each (λ l. is_some (journal_line l) ≡ true) ls → Each (λ l. is_some (entry_in l) ≡ true) ls
good_same [] all = tt
good_same (l ∷ ls) all = (sym (line_same l) ∙ all.0, good_same ls all.1)

pub journal_fault : (limit : ℕ) (file : Option (List ℕ)) (f : LinesFault) → IsLinesFault journal_line limit file f → IsLinesFault entry_in limit file f
journal_fault limit file Missing h = h
journal_fault limit file Large h = h
journal_fault limit file (Bad n) h =
    let b = h.3 in
    (h.0, h.1, h.2, record { before = b.before; line = b.line; after = b.after; cut = b.cut; number_is = b.number_is; good = good_same b.before b.good; bad = bad_same b.line b.after b.bad })
journal_fault limit file Read h = h
journal_fault limit file Memory h = h

-- ---- a trace
pub trace_is : (text : List ℕ) (lines : List TraceLine) → AreLines read_line text lines → IsTrace text lines
unfolding read_trace
trace_is text lines a = ap (λ o. option_and_then (λ ls. all_read read_line ls) o) a.cut ∙ a.are

pub trace_lines : (text : List ℕ) (lines : List TraceLine) → IsTrace text lines → (read_as : List TraceLine) × AreLines read_line text read_as
unfolding read_trace
trace_lines text lines e = (lines, by_cut (lines_in text) refl e)
  where
    by_cut : (o : Option (List (List ℕ))) → lines_in text ≡ o → option_and_then (λ ls. all_read read_line ls) o ≡ Some lines → AreLines read_line text lines
    by_cut None w z = absurd (none_some z)
      where
        none_some : None ≡ Some lines → ⊥
        none_some y = cc
    by_cut (Some ls) w z = record { parts = ls; cut = w; are = z }

-- ---- one reading
some_lines : {A : Type 0} (x y : List A) → Some x ≡ Some y → x ≡ y
some_lines x y e = cc

pub one_holding : {A : Type 0} (Gives : List ℕ → List A → Type 0) → ((text : List ℕ) (x y : List A) → Gives text x → Gives text y → x ≡ y)
    → (limit : ℕ) (file : Option (List ℕ)) (x y : List A) → HoldsLines Gives limit file x → HoldsLines Gives limit file y → x ≡ y
one_holding Gives one limit file x y h k = one k.text x y (subst (λ t. Gives t x) (some_lines h.text k.text (sym h.there ∙ k.there)) h.gives) k.gives

pub one_journal : (text : List ℕ) (x y : List (List ℕ)) → IsJournal text x → IsJournal text y → x ≡ y
one_journal text x y h k = some_lines x y (sym h.cut ∙ k.cut)

pub one_trace : (text : List ℕ) (x y : List TraceLine) → IsTrace text x → IsTrace text y → x ≡ y
one_trace text x y h k = some_lines x y (sym h ∙ k)

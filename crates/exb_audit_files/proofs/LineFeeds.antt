-- Texts that are cut at their newlines, and what is kept of one that is fed in pieces.
use Rattle.std.proofs.Common.{◌≡◌, ◌≢◌, ◌<◌, ◌≤◌, ◌-◌, ◌+◌, ◌^◌, ◌==◌, ℕ, suc, Bool, true, false, cond, List, [], ◌∷◌, ◌++◌, length, take, drop, get_or, Option, Some, None, refl, ap, sym, subst, ◌∙◌, arith, append_assoc, length-append, take-add}
use Rattle.std.specs.Prelude.{is_some, min, option_map, option_and_then}
use Rattle.std.specs.List.{slice_split}
use Rattle.std.proofs.lemmas.List.{append-nil, flat_map_more, take-append-drop, take_rest, take_more, take_all, get_or-drop, length-drop}
use Rattle.std.proofs.lemmas.Bool.{ne_eqb, false≢true, eqb-true}
use Rattle.std.proofs.lemmas.List.Elements.{All-append, All-nil}
use Rattle.std.proofs.lemmas.List.Splits.{slice_split_at, slice_split_none, length-slice_split}
use Rattle.exb_trace_spec.specs.Traversals.{Each}
use Rattle.exb_trace_spec.specs.TextFields.{all_read, each_ended, lines_in}
use Rattle.exb_trace_spec.proofs.JournalLines.{each_last}
use Rattle.exb_trace_spec.proofs.TextFields.{all_both}
use Rattle.exb_audit.proofs.TextCuts.{lacks_more}
use Rattle.exb_audit_files.specs.declared.lines.Lines.{Lines}
use Rattle.exb_audit_files.specs.LineFeeds.{AreBroken, AreCut, CutsOn, HasCut, HasCutBy, IsOneLine, ended}
use Rattle.exb_audit_files.specs.Lines.{AreLines, FirstBadLine, IsBadLine}

-- ---- lines with their newlines
ended_more : (xs : List (List ℕ)) (x : List ℕ) → ended (xs ++ x ∷ []) ≡ ended xs ++ (x ++ 10 ∷ [])
ended_more xs x = sym (flat_map_more (λ (l : List ℕ). l ++ 10 ∷ []) [] xs x)

pub split_ended : (before : List (List ℕ)) (w : List ℕ) → Each IsOneLine before → slice_split (λ c. c == 10) (ended before ++ w) ≡ before ++ slice_split (λ c. c == 10) w
split_ended [] w all = refl
split_ended (l ∷ ls) w all =
    ap (slice_split (λ c. c == 10)) (append_assoc (l ++ 10 ∷ []) (ended ls) w ∙ append_assoc l (10 ∷ []) (ended ls ++ w))
    ∙ (slice_split_at (λ c. c == 10) l 10 (ended ls ++ w) all.0 refl ∙ ap (λ (z : List (List ℕ)). l ∷ z) (split_ended ls w all.1))

length_ended : (before : List (List ℕ)) (w : List ℕ) → length before ≤ length (ended before ++ w)
length_ended [] w = omega arith
length_ended (l ∷ ls) w =
    omega (arith, length_ended ls w, length-append (ended ls) w, length-append (l ++ 10 ∷ []) (ended ls), length-append l (10 ∷ []), length-append ((l ++ 10 ∷ []) ++ ended ls) w)

ended_all : (before : List (List ℕ)) → each_ended (before ++ [] ∷ []) ≡ Some before
ended_all [] = refl
ended_all (l ∷ []) = refl
ended_all (l ∷ m ∷ ms) = ap (option_map (λ (ls : List (List ℕ)). l ∷ ls)) (ended_all (m ∷ ms))

-- the lines of a text are its parts but the last, which is empty
pub ended_parts : (parts ls : List (List ℕ)) → each_ended parts ≡ Some ls → parts ≡ ls ++ [] ∷ []
ended_parts [] ls e = absurd (cc)
ended_parts ([] ∷ []) ls e = ap (λ (z : List (List ℕ)). z ++ [] ∷ []) (some_same e)
  where
    some_same : Some [] ≡ Some ls → [] ≡ ls
    some_same z = cc
ended_parts ((c ∷ cs) ∷ []) ls e = absurd (none_some (sym (ap (λ b. cond b (Some []) None) (ne_eqb (length (c ∷ cs)) 0 (λ z. omega (arith, z)))) ∙ e))
  where
    none_some : None ≡ Some ls → ⊥
    none_some z = cc
ended_parts (l ∷ m ∷ ms) ls e = by_rest (each_ended (m ∷ ms)) (λ ks. ended_parts (m ∷ ms) ks) e
  where
    some_same : (ks : List (List ℕ)) → Some (l ∷ ks) ≡ Some ls → l ∷ ks ≡ ls
    some_same ks z = cc

    none_some : None ≡ Some ls → ⊥
    none_some z = cc

    by_rest : (o : Option (List (List ℕ))) → ((ks : List (List ℕ)) → o ≡ Some ks → m ∷ ms ≡ ks ++ [] ∷ []) → option_map (λ (lines : List (List ℕ)). l ∷ lines) o ≡ Some ls → l ∷ m ∷ ms ≡ ls ++ [] ∷ []
    by_rest None go z = absurd (none_some z)
    by_rest (Some ks) go z = ap (λ (w : List (List ℕ)). l ∷ w) (go ks refl) ∙ ap (λ (w : List (List ℕ)). w ++ [] ∷ []) (some_same ks z)

-- ---- lines that are read
module _ {A : Type 0} (read : List ℕ → Option A) where
  one_read : (x : List ℕ) (y : A) → read x ≡ Some y → all_read read (x ∷ []) ≡ Some (y ∷ [])
  one_read x y e = ap (λ (o : Option A). option_and_then (λ z. option_map (λ zs. z ∷ zs) (Some [])) o) e

  some_cons : (y : A) (zs ys : List A) → Some (y ∷ zs) ≡ Some ys → y ∷ zs ≡ ys
  some_cons y zs ys e = cc

  no_some : (ys : List A) → None ≡ Some ys → ⊥
  no_some ys e = cc

  pub good_read : (xs : List (List ℕ)) (ys : List A) → all_read read xs ≡ Some ys → Each (λ l. is_some (read l) ≡ true) xs
  good_read [] ys e = tt
  good_read (x ∷ xs) ys e = by_first (read x) (all_read read xs) refl (λ zs. good_read xs zs) e
    where
      by_first : (o : Option A) (p : Option (List A)) → read x ≡ o → ((zs : List A) → p ≡ Some zs → Each (λ l. is_some (read l) ≡ true) xs)
          → option_and_then (λ z. option_map (λ zs. z ∷ zs) p) o ≡ Some ys → (is_some (read x) ≡ true) × Each (λ l. is_some (read l) ≡ true) xs
      by_first None p w go z = absurd (no_some ys z)
      by_first (Some y) None w go z = absurd (no_some ys z)
      by_first (Some y) (Some zs) w go z = (ap is_some w, go zs refl)

  pub length_read : (xs : List (List ℕ)) (ys : List A) → all_read read xs ≡ Some ys → length xs ≡ length ys
  length_read [] ys e = ap length (none_same e)
    where
      none_same : Some [] ≡ Some ys → [] ≡ ys
      none_same z = cc
  length_read (x ∷ xs) ys e = by_first (read x) (all_read read xs) (λ zs. length_read xs zs) e
    where
      by_first : (o : Option A) (p : Option (List A)) → ((zs : List A) → p ≡ Some zs → length xs ≡ length zs) → option_and_then (λ z. option_map (λ zs. z ∷ zs) p) o ≡ Some ys → length (x ∷ xs) ≡ length ys
      by_first None p go z = absurd (no_some ys z)
      by_first (Some y) None go z = absurd (no_some ys z)
      by_first (Some y) (Some zs) go z = ap suc (go zs refl) ∙ ap length (some_cons y zs ys z)

  pub every_read : (xs : List (List ℕ)) → Each (λ l. is_some (read l) ≡ true) xs → (ys : List A) × (all_read read xs ≡ Some ys)
  every_read [] all = ([], refl)
  every_read (x ∷ xs) all = by_first (read x) refl (every_read xs all.1)
    where
      by_first : (o : Option A) → read x ≡ o → (zs : List A) × (all_read read xs ≡ Some zs) → (ys : List A) × (all_read read (x ∷ xs) ≡ Some ys)
      by_first None w rest = absurd (never (read x) w all.0)
        where
          never : (o : Option A) → o ≡ None → is_some o ≡ true → ⊥
          never None z y = cc
          never (Some a) z y = cc
      by_first (Some y) w rest = (y ∷ rest.0, rw (w, rest.1) refl)

  -- ---- a text that is fed
  one_line_both : (xs ys : List ℕ) → IsOneLine xs → IsOneLine ys → IsOneLine (xs ++ ys)
  one_line_both xs ys h k = All-append (λ (c : ℕ). (c == 10) ≡ false) xs ys h k

  joined : (before : List (List ℕ)) (rest line more : List ℕ) → (ended before ++ rest) ++ (line ++ 10 ∷ more) ≡ ended before ++ ((rest ++ line) ++ 10 ∷ more)
  joined before rest line more = append_assoc (ended before) rest (line ++ 10 ∷ more) ∙ ap (λ (z : List ℕ). ended before ++ z) (sym (append_assoc rest line (10 ∷ more)))

  open_by : (old : Lines A) (text : List ℕ) → old.bad ≡ false → HasCut read text old → AreCut read text old.lines.items old.rest.items
  open_by old text e h = subst (λ b. HasCutBy b read text old.lines.items old.rest.items) e h

  shut_by : (new : Lines A) (text : List ℕ) → new.bad ≡ false → AreCut read text new.lines.items new.rest.items → HasCut read text new
  shut_by new text e h = subst (λ b. HasCutBy b read text new.lines.items new.rest.items) (sym e) h

  -- with a line that can be read
  pub cut_line : (old new : Lines A) (line : List ℕ) (y : A) → old.bad ≡ false → IsOneLine line → read (old.rest.items ++ line) ≡ Some y
      → new.lines.items ≡ old.lines.items ++ y ∷ [] → new.rest.items ≡ [] → new.bad ≡ false → CutsOn read old new (line ++ 10 ∷ [])
  cut_line old new line y good one reads lines rest still = record {
    on = λ text h.
        let a = open_by old text good h in
        let whole : List ℕ = old.rest.items ++ line in
        shut_by new (text ++ (line ++ 10 ∷ [])) still
        (record {
          before = a.before ++ whole ∷ [];
          is =
              ap (λ (t : List ℕ). t ++ (line ++ 10 ∷ [])) a.is
              ∙ (joined a.before old.rest.items line []
              ∙ (sym (ended_more a.before whole) ∙ (sym (append-nil (ended (a.before ++ whole ∷ []))) ∙ ap (λ (r : List ℕ). ended (a.before ++ whole ∷ []) ++ r) (sym rest))));
          each = each_last IsOneLine a.before whole a.each (one_line_both old.rest.items line a.last one);
          last = subst IsOneLine (sym rest) (All-nil (λ (c : ℕ). (c == 10) ≡ false));
          are = all_both read a.before (whole ∷ []) old.lines.items (y ∷ []) a.are (one_read whole y reads) ∙ ap (λ (z : List A). Some z) (sym lines);
        });
  }

  -- with a line that can't be read
  pub cut_bad : (old new : Lines A) (line : List ℕ) → old.bad ≡ false → IsOneLine line → read (old.rest.items ++ line) ≡ None
      → new.lines.items ≡ old.lines.items → new.bad ≡ true → CutsOn read old new (line ++ 10 ∷ [])
  cut_bad old new line good one reads lines broken = record {
    on = λ text h.
        let a = open_by old text good h in
        subst (λ b. HasCutBy b read (text ++ (line ++ 10 ∷ [])) new.lines.items new.rest.items) (sym broken)
        (record {
          before = a.before;
          line = old.rest.items ++ line;
          more = [];
          is = ap (λ (t : List ℕ). t ++ (line ++ 10 ∷ [])) a.is ∙ joined a.before old.rest.items line [];
          each = a.each;
          one = one_line_both old.rest.items line a.last one;
          are = a.are ∙ ap (λ (z : List A). Some z) (sym lines);
          bad = reads;
        });
  }

  -- with a part that isn't ended
  pub cut_rest : (old new : Lines A) (part : List ℕ) → old.bad ≡ false → IsOneLine part → new.lines.items ≡ old.lines.items → new.rest.items ≡ old.rest.items ++ part → new.bad ≡ false
      → CutsOn read old new part
  cut_rest old new part good one lines rest still = record {
    on = λ text h.
        let a = open_by old text good h in
        shut_by new (text ++ part) still
        (record {
          before = a.before;
          is = ap (λ (t : List ℕ). t ++ part) a.is ∙ (append_assoc (ended a.before) old.rest.items part ∙ ap (λ (r : List ℕ). ended a.before ++ r) (sym rest));
          each = a.each;
          last = subst IsOneLine (sym rest) (one_line_both old.rest.items part a.last one);
          are = a.are ∙ ap (λ (z : List A). Some z) (sym lines);
        });
  }

  -- behind a line that can't be read
  broken_more : (text : List ℕ) (lines : List A) (more : List ℕ) → AreBroken read text lines → AreBroken read (text ++ more) lines
  broken_more text lines more h = record {
    before = h.before;
    line = h.line;
    more = h.more ++ more;
    is = ap (λ (t : List ℕ). t ++ more) h.is ∙ (append_assoc (ended h.before) (h.line ++ 10 ∷ h.more) more ∙ ap (λ (z : List ℕ). ended h.before ++ z) (append_assoc h.line (10 ∷ h.more) more));
    each = h.each;
    one = h.one;
    are = h.are;
    bad = h.bad;
  }

  pub cut_broken : (old : Lines A) (more : List ℕ) → old.bad ≡ true → CutsOn read old old more
  cut_broken old more broken = record {
    on = λ text h.
        subst (λ b. HasCutBy b read (text ++ more) old.lines.items old.rest.items) (sym broken)
        (broken_more text old.lines.items more (subst (λ b. HasCutBy b read text old.lines.items old.rest.items) broken h));
  }

  pub cut_nothing : (old : Lines A) → CutsOn read old old []
  cut_nothing old = record { on = λ text h. subst (λ (t : List ℕ). HasCut read t old) (sym (append-nil text)) h }

  pub cut_then : (a b c : Lines A) (xs ys : List ℕ) → CutsOn read a b xs → CutsOn read b c ys → CutsOn read a c (xs ++ ys)
  cut_then a b c xs ys h k = record { on = λ text cut. subst (λ (t : List ℕ). HasCut read t c) (append_assoc text xs ys) (k.on (text ++ xs) (h.on text cut)) }

  -- ---- a text that was fed to its end
  pub whole_lines : (text : List ℕ) (s : Lines A) → s.bad ≡ false → s.rest.items ≡ [] → HasCut read text s → AreLines read text s.lines.items
  unfolding lines_in
  whole_lines text s good none h =
      let a = open_by s text good h in
      record {
        parts = a.before;
        cut = ap (λ (t : List ℕ). each_ended (slice_split (λ c. c == 10) t)) (a.is ∙ ap (λ (r : List ℕ). ended a.before ++ r) none) ∙ (ap each_ended (split_ended a.before [] a.each) ∙ ended_all a.before);
        are = a.are;
      }

  few_lines : (before : List (List ℕ)) (w text : List ℕ) (lines : List A) (number : ℕ) → all_read read before ≡ Some lines → text ≡ ended before ++ w → length text < 2 ^ 33
      → number ≡ min (length lines + 1) (2 ^ 64 - 1) → number ≡ length before + 1
  few_lines before w text lines number are is few e = omega (arith, e, length_read before lines are, length_ended before w, ap length is, few)

  -- the last part has no newline
  pub bad_rest : (text : List ℕ) (s : Lines A) (number : ℕ) → s.bad ≡ false → s.rest.items ≢ [] → number ≡ min (length s.lines.items + 1) (2 ^ 64 - 1) → length text < 2 ^ 33 → HasCut read text s
      → FirstBadLine read text number
  bad_rest text s number good some e few h =
      let a = open_by s text good h in
      record {
        before = a.before;
        line = s.rest.items;
        after = [];
        cut = ap (slice_split (λ c. c == 10)) a.is ∙ (split_ended a.before s.rest.items a.each ∙ ap (λ (z : List (List ℕ)). a.before ++ z) (slice_split_none (λ c. c == 10) s.rest.items a.last));
        number_is = few_lines a.before s.rest.items text s.lines.items number a.are a.is few e;
        good = good_read a.before s.lines.items a.are;
        bad = some;
      }

  bad_before : (line : List ℕ) (parts : List (List ℕ)) → 0 < length parts → read line ≡ None → IsBadLine read line parts
  bad_before line [] some e = absurd (omega (arith, some))
  bad_before line (p ∷ ps) some e = e

  -- a line can't be read
  pub bad_broken : (text : List ℕ) (s : Lines A) (number : ℕ) → s.bad ≡ true → number ≡ min (length s.lines.items + 1) (2 ^ 64 - 1) → length text < 2 ^ 33 → HasCut read text s
      → FirstBadLine read text number
  bad_broken text s number broken e few h =
      let a : AreBroken read text s.lines.items = subst (λ b. HasCutBy b read text s.lines.items s.rest.items) broken h in
      let parts : List (List ℕ) = slice_split (λ c. c == 10) a.more in
      record {
        before = a.before;
        line = a.line;
        after = parts;
        cut = ap (slice_split (λ c. c == 10)) a.is ∙ (split_ended a.before (a.line ++ 10 ∷ a.more) a.each ∙ ap (λ (z : List (List ℕ)). a.before ++ z) (slice_split_at (λ c. c == 10) a.line 10 a.more a.one refl));
        number_is = few_lines a.before (a.line ++ 10 ∷ a.more) text s.lines.items number a.are a.is few e;
        good = good_read a.before s.lines.items a.are;
        bad = bad_before a.line parts (omega (arith, length-slice_split (λ c. c == 10) a.more)) a.bad;
      }

-- ---- a piece, byte by byte
pub part_more : (xs : List ℕ) (from at : ℕ) → from ≤ at → at < length xs → get_or xs at 0 ≢ 10 → IsOneLine (take (at - from) (drop from xs)) → IsOneLine (take (at + 1 - from) (drop from xs))
part_more xs from at before within other h =
    let next : at - from + 1 ≡ at + 1 - from = omega (arith, before) in
    let place : from + (at - from) ≡ at = omega (arith, before) in
    subst (λ n. IsOneLine (take n (drop from xs))) next
    (lacks_more 10 (drop from xs) (at - from) (omega (arith, before, within, length-drop from xs)) (λ e. other (ap (λ n. get_or xs n 0) (sym place) ∙ (sym (get_or-drop from xs (at - from) 0) ∙ e))) h)

pub no_part : (xs : List ℕ) (n : ℕ) → IsOneLine (take (n - n) xs)
no_part xs n = subst (λ k. IsOneLine (take k xs)) (none n) (All-nil (λ (c : ℕ). (c == 10) ≡ false))
  where
    none : (k : ℕ) → 0 ≡ k - k
    none k = omega arith

pub line_there : (xs : List ℕ) (from at : ℕ) → from ≤ at → at < length xs → get_or xs at 0 ≡ 10 → take from xs ++ (take (at - from) (drop from xs) ++ 10 ∷ []) ≡ take (at + 1) xs
line_there xs from at before within e =
    let place : from + (at - from) ≡ at = omega (arith, before) in
    sym (append_assoc (take from xs) (take (at - from) (drop from xs)) (10 ∷ []))
    ∙ (ap (λ (z : List ℕ). z ++ 10 ∷ []) (sym (take-add from (at - from) xs) ∙ ap (λ n. take n xs) place)
    ∙ (ap (λ c. take at xs ++ c ∷ []) (sym e) ∙ sym (take_more xs at 0 within)))

pub rest_there : (xs : List ℕ) (from : ℕ) → take from xs ++ take (length xs - from) (drop from xs) ≡ xs
rest_there xs from = ap (λ (z : List ℕ). take from xs ++ z) (take_rest xs from) ∙ take-append-drop from xs

pub last_part : (xs : List ℕ) (from at : ℕ) → length xs ≤ at → IsOneLine (take (at - from) (drop from xs)) → IsOneLine (take (length xs - from) (drop from xs))
last_part xs from at past h =
    subst IsOneLine (take_all (at - from) (drop from xs) (omega (arith, past, length-drop from xs)) ∙ sym (take_rest xs from)) h

-- ---- whether a part is empty
pub rest_some : (xs : List ℕ) (b : Bool) → b ≡ (length xs == 0) → b ≡ false → xs ≡ [] → ⊥
rest_some [] b e f z = false≢true (sym f ∙ e)
rest_some (x ∷ xs) b e f z = cc

pub rest_none : (xs : List ℕ) (b : Bool) → b ≡ (length xs == 0) → b ≡ true → xs ≡ []
rest_none [] b e f = refl
rest_none (x ∷ xs) b e f = absurd (omega (arith, eqb-true (length (x ∷ xs)) 0 (sym e ∙ f)))

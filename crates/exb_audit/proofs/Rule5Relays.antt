-- Rule 5: lines of a step.
use Rattle.std.proofs.Common.{◌≡◌, ℕ, ◌+◌, ◌-◌, ◌<◌, ◌≤◌, ◌&&◌, ◌==◌, nat_le, not, cond, Bool, true, false, List, [], ◌∷◌, ◌++◌, length, set, get_or, take, drop, Option, Some, None, refl, sym, ap, ◌∙◌, subst, arith, inl, inr, append_assoc, append-nil}
use Rattle.std.specs.Prelude.{All, if◌then◌else◌, is_some, option_map, slice_get, slice_index}
use Rattle.std.specs.Bool.{Decides}
use Rattle.std.specs.List.{list_all}
use Rattle.std.proofs.lemmas.Bool.{cases_Bool, cases_eq, and_from, false≢true, eq-eqb, ne_eqb, le-leb, leb-true}
use Rattle.std.proofs.lemmas.List.{length-append, get_or-set_same, get_or-set_other, length-drop, take_all, take_rest}
use Rattle.std.proofs.lemmas.List.Concat.{flat_map-append}
use Rattle.std.proofs.lemmas.List.Elements.{All-head, All-tail}
use Rattle.std.proofs.lemmas.Option.{get_or_from_slice_get, slice_get-get_or}
use Rattle.exb_model.specs.declared.trace.TraceWay.{TraceWay}
use Rattle.exb_model.specs.declared.trace.TraceWay.TheVariants as way
use Rattle.exb_model.specs.Traces.{TraceLine, In, Out, Beat, Journal, line_by}
use Rattle.exb_model.specs.ETags.{Tag}
use Rattle.exb_model.specs.Tree.{Shape}
use Rattle.exb_trace_spec.specs.CheckerLaws.{Rule5IsDecided, AreFrames}
use Rattle.exb_trace_spec.specs.TraceChecker.{through, is_entered, is_here, names_here, says_none, no_data, few_at, is_step, is_part, Steps, start_5, step_5, verdict_5}
use Rattle.exb_trace_spec.specs.Rule5Relays.{entries, is_data_at, relays, sent_at, sent, AreSteps}
use Rattle.exb_trace_spec.specs.Traversals.{begins, until_next}
use Rattle.exb_audit.specs.Rule5Relays.{is_relay_line, is_entry_line, is_sending, text_at, AreCounts, EntersAt, HasLowSide, IsFirstEntry, each_is_right, are_right}
use Rattle.exb_trace_spec.specs.JournalLines.{Entry}
use Rattle.exb_audit.specs.LineWords.{Names}
use Rattle.exb_audit.proofs.TextCuts.{item_first}
use Rattle.exb_audit.proofs.Rule4Captures.{side_of_line}

-- ---- what the first line says
pub not_relay : (l : TraceLine) (ls : List TraceLine) → is_relay_line l ≡ false → relays (l ∷ ls) ≡ relays ls
not_relay (In n k f) ls e = refl
not_relay (Out n k f) ls e = refl
not_relay Beat ls e = refl
not_relay (Journal text) ls e = rw e refl

pub some_relay : (l : TraceLine) (ls : List TraceLine) → is_relay_line l ≡ true → says_none (relays (l ∷ ls)) ≡ false
some_relay (In n k f) ls e = absurd (false≢true e)
some_relay (Out n k f) ls e = absurd (false≢true e)
some_relay Beat ls e = absurd (false≢true e)
some_relay (Journal text) ls e = rw e refl

pub not_entry : (l : TraceLine) (ls : List TraceLine) → is_entry_line l ≡ false → entries (l ∷ ls) ≡ entries ls
not_entry (In n k f) ls e = refl
not_entry (Out n k f) ls e = refl
not_entry Beat ls e = refl
not_entry (Journal text) ls e = rw e refl

pub some_entry : (l : TraceLine) (ls : List TraceLine) → is_entry_line l ≡ true → entries (l ∷ ls) ≡ text_at (Some l) ∷ entries ls
some_entry (In n k f) ls e = absurd (false≢true e)
some_entry (Out n k f) ls e = absurd (false≢true e)
some_entry Beat ls e = absurd (false≢true e)
some_entry (Journal text) ls e = rw e refl

pub quiet : (t : Shape) (l : TraceLine) → no_data t l ≡ not (is_sending t l)
quiet t (In n k f) = refl
quiet t (Out n k f) = refl
quiet t Beat = refl
quiet t (Journal text) = refl

-- ---- counts
module _ (t : Shape) where
  sent_more : (k : ℕ) (before : List TraceLine) (l : TraceLine) → sent t k (before ++ l ∷ []) ≡ sent t k before ++ sent_at t k l
  sent_more k before l = flat_map-append (sent_at t k) before (l ∷ []) ∙ ap (λ us. sent t k before ++ us) (append-nil (sent_at t k l))

  sent_none : (a b d : Bool) (f : List ℕ) → (a && d) ≡ false → cond (a && (b && d)) (f ∷ []) [] ≡ []
  sent_none false b d f e = refl
  sent_none true false d f e = refl
  sent_none true true d f e = ap (λ z. cond z (f ∷ []) []) e

  quiet_at : (k : ℕ) (l : TraceLine) → is_sending t l ≡ false → sent_at t k l ≡ []
  quiet_at k (In n j f) e = refl
  quiet_at k (Out n j f) e = sent_none (n == 0) (j == k) (is_data_at t j f) f e
  quiet_at k Beat e = refl
  quiet_at k (Journal text) e = refl

  sent_one : (a b d : Bool) (f : List ℕ) → b ≡ true → (a && d) ≡ true → cond (a && (b && d)) (f ∷ []) [] ≡ f ∷ []
  sent_one a false d f e h = absurd (false≢true e)
  sent_one a true d f e h = ap (λ z. cond z (f ∷ []) []) h

  sent_other : (a b d : Bool) (f : List ℕ) → b ≡ false → cond (a && (b && d)) (f ∷ []) [] ≡ []
  sent_other false b d f e = refl
  sent_other true false d f e = refl
  sent_other true true d f e = absurd (false≢true (sym e))

  here_one : (l : TraceLine) → is_sending t l ≡ true → length (sent_at t (side_of_line l) l) ≡ 1
  here_one (In n j f) e = absurd (false≢true e)
  here_one (Out n j f) e = ap length (sent_one (n == 0) (j == j) (is_data_at t j f) f (eq-eqb j j refl) e)
  here_one Beat e = absurd (false≢true e)
  here_one (Journal text) e = absurd (false≢true e)

  elsewhere : (k : ℕ) (l : TraceLine) → (side_of_line l ≡ k → ⊥) → sent_at t k l ≡ []
  elsewhere k (In n j f) ne = refl
  elsewhere k (Out n j f) ne = sent_other (n == 0) (j == k) (is_data_at t j f) f (ne_eqb j k ne)
  elsewhere k Beat ne = refl
  elsewhere k (Journal text) ne = refl

  same_count : (k : ℕ) (before : List TraceLine) (l : TraceLine) → sent_at t k l ≡ [] → length (sent t k (before ++ l ∷ [])) ≡ length (sent t k before)
  same_count k before l e = ap length (sent_more k before l ∙ ap (λ us. sent t k before ++ us) e ∙ append-nil (sent t k before))

  pub counts_none : (counts : List ℕ) → ((k : ℕ) → slice_index counts k ≡ 0) → AreCounts t [] counts
  counts_none counts none k = (let z = none k in omega (arith, z), λ low. sym (none k))

  pub counts_stay : (before : List TraceLine) (l : TraceLine) (counts : List ℕ) → is_sending t l ≡ false → AreCounts t before counts → AreCounts t (before ++ l ∷ []) counts
  counts_stay before l counts e s k = ((s k).0, λ low. same_count k before l (quiet_at k l e) ∙ (s k).1 low)

  pub counts_move : (before : List TraceLine) (l : TraceLine) (counts : List ℕ) (j : ℕ) → side_of_line l ≡ j → length counts ≡ 256 → j < 256 → is_sending t l ≡ true → slice_index counts j < 2 →
      AreCounts t before counts → AreCounts t (before ++ l ∷ []) (set counts j (slice_index counts j + 1))
  counts_move before l counts j at sized low e few s k =
      elim (cases_eq k j) [
        | inl is ↦ subst (λ z. (slice_index (set counts j (slice_index counts j + 1)) z ≤ 2) × (z < 256 → length (sent t z (before ++ l ∷ [])) ≡ slice_index (set counts j (slice_index counts j + 1)) z)) (sym is)
            (subst (λ c. (c ≤ 2) × (j < 256 → length (sent t j (before ++ l ∷ [])) ≡ c)) (sym (get_or-set_same counts j (slice_index counts j + 1) 0 (omega (arith, sized)))) (omega (arith, few), λ h. one_more))
        | inr ne ↦ subst (λ c. (c ≤ 2) × (k < 256 → length (sent t k (before ++ l ∷ [])) ≡ c)) (sym (get_or-set_other counts j k (slice_index counts j + 1) 0 ne))
            ((s k).0, λ h. same_count k before l (elsewhere k l (λ z. ne (sym z ∙ at))) ∙ (s k).1 h)
      ]
    where
      one_more : length (sent t j (before ++ l ∷ [])) ≡ slice_index counts j + 1
      one_more =
          let one : length (sent_at t j l) ≡ 1 = ap (λ z. length (sent_at t z l)) (sym at) ∙ here_one l e in
          let now : length (sent t j before) ≡ slice_index counts j = (s j).1 low in
          ap length (sent_more j before l) ∙ length-append (sent t j before) (sent_at t j l) ∙ omega (arith, one, now)

  pub counts_full : (before after : List TraceLine) (l : TraceLine) (counts : List ℕ) (j : ℕ) → side_of_line l ≡ j → j < 256 → is_sending t l ≡ true → 2 ≤ slice_index counts j → AreCounts t before counts → few_at t (before ++ l ∷ after) l ≡ false
  counts_full before after (In n k f) counts j at low e full s = absurd (false≢true e)
  counts_full before after Beat counts j at low e full s = absurd (false≢true e)
  counts_full before after (Journal text) counts j at low e full s = absurd (false≢true e)
  counts_full before after (Out n k f) counts j at low e full s =
      let one : length (sent_at t k (Out n k f)) ≡ 1 = here_one (Out n k f) e in
      let now : length (sent t k before) ≡ slice_index counts k = (s k).1 (subst (λ z. z < 256) (sym at) low) in
      let some : 2 ≤ slice_index counts k = subst (λ z. 2 ≤ slice_index counts z) (sym at) full in
      let all : length (sent t k (before ++ Out n k f ∷ after)) ≡ length (sent t k before) + (length (sent_at t k (Out n k f)) + length (sent t k after)) =
      ap length (flat_map-append (sent_at t k) before (Out n k f ∷ after)) ∙ length-append (sent t k before) (sent_at t k (Out n k f) ++ sent t k after) ∙ ap (λ z. length (sent t k before) + z) (length-append (sent_at t k (Out n k f)) (sent t k after)) in
      more_than_two (length (sent t k (before ++ Out n k f ∷ after))) (omega (arith, one, now, some, all))
    where
      more_than_two : (m : ℕ) → 3 ≤ m → nat_le m 2 ≡ false
      more_than_two m h = elim (cases_Bool (nat_le m 2)) [ inr over ↦ over | inl under ↦ (let low = leb-true m 2 under in absurd (omega (arith, low))) ]

  few_here : (lines : List TraceLine) (counts : List ℕ) (l : TraceLine) → HasLowSide l → AreCounts t lines counts → few_at t lines l ≡ true
  few_here lines counts (In n k f) low s = refl
  few_here lines counts (Out n k f) low s = (let most = (s k).0 in let is = (s k).1 low in le-leb (length (sent t k lines)) 2 (omega (arith, most, is)))
  few_here lines counts Beat low s = refl
  few_here lines counts (Journal text) low s = refl

  pub all_few : (lines ls : List TraceLine) (counts : List ℕ) → All HasLowSide ls → AreCounts t lines counts → list_all (few_at t lines) ls ≡ true
  all_few lines [] counts low s = refl
  all_few lines (l ∷ ls) counts low s = and_from (few_at t lines l) (list_all (few_at t lines) ls) (few_here lines counts l (All-head HasLowSide l ls low) s) (all_few lines ls counts (All-tail HasLowSide l ls low) s)

pub fails_at : {A : Type 0} (p : A → Bool) (xs ys : List A) (y : A) → p y ≡ false → list_all p (xs ++ y ∷ ys) ≡ false
fails_at p [] ys y e = rw e refl
fails_at p (x ∷ xs) ys y e = by_first (p x) (fails_at p xs ys y e)
  where
    by_first : (b : Bool) → list_all p (xs ++ y ∷ ys) ≡ false → (b && list_all p (xs ++ y ∷ ys)) ≡ false
    by_first true h = h
    by_first false h = refl

-- ---- steps
and_true : (b : Bool) → (b && true) ≡ b
and_true true = refl
and_true false = refl

and_assoc : (a b c : Bool) → ((a && b) && c) ≡ (a && (b && c))
and_assoc true b c = refl
and_assoc false b c = refl

module _ (t : Shape) (captures : ℕ → List (List ℕ)) where
  abbrev begun : Steps → TraceLine → Steps
  begun s l = record { first = Some l; rest = []; good = verdict_5 t captures s }

  abbrev longer : Steps → TraceLine → Steps
  longer s l = record { first = s.first; rest = s.rest ++ l ∷ []; good = s.good }

  abbrev whole : Steps → List TraceLine → Bool → Bool
  whole s next right = s.good && (is_part t captures s.first (s.rest ++ next) && right)

  rests : (s : Steps) (lines : List TraceLine) → verdict_5 t captures (through (step_5 t captures) s lines) ≡ (s.good && (is_part t captures s.first (s.rest ++ until_next lines) && each_is_right t captures lines))
  rests s [] = ap (λ b. s.good && b) (sym (and_true (is_part t captures s.first s.rest)) ∙ ap (λ us. is_part t captures s.first us && true) (sym (append-nil s.rest)))
  rests s (l ∷ ls) = by_line (λ x. rests x ls) (begins l) refl
    where
      by_line : ((x : Steps) → verdict_5 t captures (through (step_5 t captures) x ls) ≡ (x.good && (is_part t captures x.first (x.rest ++ until_next ls) && each_is_right t captures ls))) → (b : Bool) → begins l ≡ b →
          verdict_5 t captures (through (step_5 t captures) (step_5 t captures s l) ls) ≡ whole s (until_next (l ∷ ls)) (each_is_right t captures (l ∷ ls))
      by_line more true e =
          ap (λ b. verdict_5 t captures (through (step_5 t captures) (cond b (begun s l) (longer s l)) ls)) e ∙ more (begun s l)
          ∙ and_assoc s.good (is_part t captures s.first s.rest) (is_step t captures l (until_next ls) && each_is_right t captures ls)
          ∙ ap (λ us. s.good && (is_part t captures s.first us && (is_step t captures l (until_next ls) && each_is_right t captures ls))) (sym (append-nil s.rest))
          ∙ ap (λ b. whole s (cond b [] (l ∷ until_next ls)) (cond b (is_step t captures l (until_next ls)) true && each_is_right t captures ls)) (sym e)
      by_line more false e =
          ap (λ b. verdict_5 t captures (through (step_5 t captures) (cond b (begun s l) (longer s l)) ls)) e ∙ more (longer s l)
          ∙ ap (λ us. s.good && (is_part t captures s.first us && each_is_right t captures ls)) (append_assoc s.rest (l ∷ []) (until_next ls))
          ∙ ap (λ b. whole s (cond b [] (l ∷ until_next ls)) (cond b (is_step t captures l (until_next ls)) true && each_is_right t captures ls)) (sym e)

  pub right_decides : Rule5IsDecided → AreFrames captures → (lines : List TraceLine) → Decides (are_right t captures lines) (AreSteps t captures lines)
  right_decides decided frames lines = subst (λ b. Decides b (AreSteps t captures lines)) (rests start_5 lines) (decided t captures lines frames)

-- ---- lines of code
pub side_is : (t : Shape) (w : TraceWay) (who side : ℕ) (bytes : List ℕ) → is_sending t (line_by w who side bytes) ≡ true → side_of_line (line_by w who side bytes) ≡ side
side_is t way.In who side bytes e = refl
side_is t way.Out who side bytes e = refl
side_is t way.Beat who side bytes e = absurd (false≢true e)
side_is t way.Journal who side bytes e = absurd (false≢true e)

pub low_side : (w : TraceWay) (who side : ℕ) (bytes : List ℕ) → side < 256 → HasLowSide (line_by w who side bytes)
low_side way.In who side bytes l = tt
low_side way.Out who side bytes l = l
low_side way.Beat who side bytes l = tt
low_side way.Journal who side bytes l = tt

pub text_is : (w : TraceWay) (who side : ℕ) (bytes : List ℕ) → is_entry_line (line_by w who side bytes) ≡ true → text_at (Some (line_by w who side bytes)) ≡ bytes
text_is way.In who side bytes e = absurd (false≢true e)
text_is way.Out who side bytes e = absurd (false≢true e)
text_is way.Beat who side bytes e = absurd (false≢true e)
text_is way.Journal who side bytes e = refl

pub get_item : {A : Type 0} (xs : List A) (i : ℕ) (x : A) → x ≡ get_or xs i x → i < length xs → slice_get xs i ≡ Some x
get_item xs i x e l = slice_get-get_or xs i x l ∙ ap (λ y. Some y) (sym e)

-- ---- a frame with an E-TAG
pub no_tag : {A : Type 0} (b : Bool) (g : A → Tag) (r : Option A) (o : Option Tag) → option_map g r ≡ o → is_some r ≡ false → false ≡ (b && is_some o)
no_tag b g None o e h = sym (ap (λ z. b && is_some z) (sym e) ∙ and_false b)
  where
    and_false : (c : Bool) → (c && false) ≡ false
    and_false true = refl
    and_false false = refl
no_tag b g (Some x) o e h = absurd (false≢true (sym h))

pub some_tag : {A : Type 0} (b : Bool) (g : A → Tag) (r : Option A) (o : Option Tag) → option_map g r ≡ o → is_some r ≡ true → (b && is_some o) ≡ b
some_tag b g None o e h = absurd (false≢true h)
some_tag b g (Some x) o e h = ap (λ z. b && is_some z) (sym e) ∙ and_true b

-- ---- the record that is named
pub not_here : (t : Shape) (k : ℕ) (e : Option Entry) (p n : ℕ) (b : Bool) → Names e p n → is_here t k p ≡ false → false ≡ (b && names_here t k e)
not_here t k e p n b names h = sym (ap (λ z. b && z) by_entry ∙ and_false b)
  where
    and_false : (c : Bool) → (c && false) ≡ false
    and_false true = refl
    and_false false = refl

    by_entry : names_here t k e ≡ false
    by_entry = elim names [
      | inl r ↦ ap (names_here t k) r ∙ h
      | inr i ↦ ap (names_here t k) i ∙ h
    ]

-- ---- steps, one after another
pub step_first : (t : Shape) (captures : ℕ → List (List ℕ)) (lines : List TraceLine) (i : ℕ) (x : TraceLine) (r : Bool) → x ≡ get_or lines i x → i < length lines →
    r ≡ (if begins x then is_step t captures x (until_next (take (length lines - (i + 1)) (drop (i + 1) lines))) else true) →
    each_is_right t captures (drop i lines) ≡ (r && each_is_right t captures (drop (i + 1) lines))
step_first t captures lines i x r is l e =
    ap (each_is_right t captures) (item_first lines i x is l)
    ∙ ap (λ b. b && each_is_right t captures (drop (i + 1) lines)) (sym (e ∙ ap (λ ls. if begins x then is_step t captures x (until_next ls) else true) (take_rest lines (i + 1))))

-- ---- exactly one line says what became of a record
pub rest_whole : (lines : List TraceLine) (n : ℕ) → take (length lines - n) (drop n lines) ≡ drop n lines
rest_whole lines n = take_all (length lines - n) (drop n lines) (omega (arith, length-drop n lines))

entry_text : (w : TraceWay) (who side : ℕ) (bytes : List ℕ) (l : TraceLine) → line_by w who side bytes ≡ l → is_entry_line l ≡ true → bytes ≡ text_at (Some l)
entry_text way.In who side bytes l is entry = absurd (false≢true (ap is_entry_line is ∙ entry))
entry_text way.Out who side bytes l is entry = absurd (false≢true (ap is_entry_line is ∙ entry))
entry_text way.Beat who side bytes l is entry = absurd (false≢true (ap is_entry_line is ∙ entry))
entry_text way.Journal who side bytes l is entry = ap (λ o. text_at (Some o)) is

module _ (t : Shape) (captures : ℕ → List (List ℕ)) (k : ℕ) (f : List ℕ) (lines rest : List TraceLine) (i : ℕ) where
  pub entered_twice : (second : Option ℕ) → EntersAt lines i → rest ≡ drop (i + 1) lines → IsFirstEntry rest second → true ≡ is_some second → false ≡ is_entered t captures k f (entries lines)
  entered_twice None first same next some = absurd (false≢true (sym some))
  entered_twice (Some j) first same next some = sym (ap (is_entered t captures k f) (first.is ∙ ap (λ es. text_at (Some first.line) ∷ es) (ap entries (sym same) ∙ next.is)))

  pub entered_once : (second : Option ℕ) → EntersAt lines i → rest ≡ drop (i + 1) lines → IsFirstEntry rest second → false ≡ is_some second
      → (w : TraceWay) (who side : ℕ) (bytes : List ℕ) (l : TraceLine) → l ≡ get_or lines i l → line_by w who side bytes ≡ l → (text : List ℕ) → text ≡ bytes
      → (b : Bool) → b ≡ is_entered t captures k f (text ∷ []) → b ≡ is_entered t captures k f (entries lines)
  entered_once (Some j) first same next none w who side bytes l at view text is b says = absurd (false≢true none)
  entered_once None first same next none w who side bytes l at view text is b says =
      let line : l ≡ first.line = at ∙ get_or_from_slice_get lines i first.line l first.at in
      let one : text ≡ text_at (Some first.line) = is ∙ entry_text w who side bytes first.line (view ∙ line) first.entry in
      let all : entries lines ≡ text ∷ [] = first.is ∙ (ap (λ es. text_at (Some first.line) ∷ es) (ap entries (sym same) ∙ next) ∙ ap (λ x. x ∷ []) (sym one)) in
      says ∙ ap (is_entered t captures k f) (sym all)

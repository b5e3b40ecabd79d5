-- What a reader that is fed in pieces answers is the first of what is still to come: over any format.
use Rattle.std.proofs.Common.{◌≡◌, ◌<◌, ◌≤◌, ◌+◌, ◌-◌, ℕ, zero, suc, Bool, true, false, List, [], ◌++◌, length, drop, cond, refl, ap, sym, subst, inl, inr, ◌∙◌, arith, length-append, length-drop}
use Rattle.std.specs.Prelude.{nat_lt, ◌⊎◌}
use Rattle.std.proofs.lemmas.Bool.{ltb-false, ltb-true, le-ltb, lt-ltb, cases_lt}
use Rattle.std.proofs.lemmas.List.{drop-append-le, drop_all, append-nil}
use Rattle.std.proofs.Math.Seq.{drop-append-add}
use Rattle.exb_capture.specs.declared.fault.Flaw.TheVariants.{Cut}
use Rattle.exb_capture.specs.Formats.{Front, Nothing, Short, Bad, Over, Holds, Capture, at_fault, fault, reading_from}
use Rattle.exb_capture.specs.ReaderMachine.{IsFormat, Stage, At, Failed, Reading, Step, Turn, Answers, GoesOn, at_last, turn_at, turn_in, turn, settled, asked_within, asked, reading_over, to_come, IsFirst}
use Rattle.exb_capture.proofs.FrontLemmas.{from_nothing, from_short, from_bad, from_over, from_holds, over_there}

-- ---- a reader by its parts
abbrev pub reading : {S : Type 0} → Stage S → ℕ → List ℕ → ℕ → ℕ → ℕ → Reading S
reading s p h o b m = record { stage = s; place = p; held = h; owing = o; begun = b; room = m }

-- what a turn makes of what is to come
abbrev pub IsTurn : {S : Type 0} → (S → List ℕ → Front S) → Turn S → List ℕ → Capture → Type 0
IsTurn front (Answers a r) more coming = IsFirst a r.begun (to_come front r more) coming
IsTurn front (GoesOn r) more coming = coming ≡ to_come front r more

pub same_room : {S : Type 0} (front : S → List ℕ → Front S) (s : Stage S) (p : ℕ) (h : List ℕ) (o b m n : ℕ) (more : List ℕ)
    → to_come front (reading s p h o b m) more ≡ to_come front (reading s p h o b n) more
same_room front (At s) p h o b m n more = refl
same_room front (Failed f) p h o b m n more = refl

module _ {S : Type 0} (most : ℕ) (front : S → List ℕ → Front S) (ok : IsFormat most front) where
  -- what was read before is gone, as far as it is held
  pub gone_reads : (s : S) (o b p : ℕ) (h more : List ℕ)
      → reading_over front s (o - length h) b p (drop o h ++ more) ≡ reading_over front s o b p (h ++ more)
  gone_reads s o b p h more = by_long (cases_lt (length h) o)
    where
      by_long : (length h < o) ⊎ (o ≤ length h) → reading_over front s (o - length h) b p (drop o h ++ more) ≡ reading_over front s o b p (h ++ more)
      by_long (inl long) =
          let none : drop o h ≡ [] = drop_all o h (omega arith) in
          let whole : length h + (o - length h) ≡ o = omega arith in
          let rest : drop (o - length h) more ≡ drop o (h ++ more) = sym (drop-append-add h more (o - length h)) ∙ ap (λ k. drop k (h ++ more)) whole in
          let test : nat_lt (length more) (o - length h) ≡ nat_lt (length (h ++ more)) o = by_test (cases_lt (length more) (o - length h)) in
          ap (λ xs. reading_over front s (o - length h) b p (xs ++ more)) none
          ∙ (λ i. cond (test i) (at_fault (fault Cut b)) (reading_from front s p (rest i)))
        where
          by_test : (length more < o - length h) ⊎ (o - length h ≤ length more) → nat_lt (length more) (o - length h) ≡ nat_lt (length (h ++ more)) o
          by_test (inl h1) = lt-ltb _ _ h1 ∙ sym (lt-ltb _ _ (omega (arith, length-append h more)))
          by_test (inr h1) = le-ltb _ _ h1 ∙ sym (le-ltb _ _ (omega (arith, length-append h more)))
      by_long (inr fits) =
          let none : o - length h ≡ 0 = omega arith in
          ap (λ k. reading_over front s k b p (drop o h ++ more)) none
          ∙ over_there most front ok s 0 b p (drop o h ++ more) (omega arith)
          ∙ ap (reading_from front s p) (sym (drop-append-le o h more fits))
          ∙ sym (over_there most front ok s o b p (h ++ more) (omega (arith, length-append h more)))

  last_more : (h more : List ℕ) → more ≡ [] → h ++ more ≡ h
  last_more h more e = ap (λ xs. h ++ xs) e ∙ append-nil h

  -- what stands at the front, where nothing is owed
  at_front : (ended : Bool) (s : S) (p : ℕ) (h : List ℕ) (o b m : ℕ) (more : List ℕ) (x : Front S) → front s h ≡ x → o ≡ 0 → (ended ≡ true → more ≡ [])
      → IsTurn front (turn_at most ended x (reading (At s) p h o b m)) more (reading_over front s o b p (h ++ more))
  at_front true s p h o b m more Nothing e none last =
      let all : h ++ more ≡ h = last_more h more (last refl) in
      let coming = ap (λ k. reading_over front s k b p (h ++ more)) none ∙ over_there most front ok s 0 b p (h ++ more) (omega arith)
      ∙ ap (reading_from front s p) all ∙ from_nothing most front ok s p h e in (coming, coming)
  at_front false s p h o b m more Nothing e none last = refl
  at_front true s p h o b m more (Short f) e none last =
      let all : h ++ more ≡ h = last_more h more (last refl) in (
        ap (λ k. reading_over front s k b p (h ++ more)) none ∙ over_there most front ok s 0 b p (h ++ more) (omega arith)
            ∙ ap (reading_from front s p) all ∙ from_short most front ok s p h f e,
        refl,
      )
  at_front false s p h o b m more (Short f) e none last = refl
  at_front ended s p h o b m more (Bad f) e none last = (
    ap (λ k. reading_over front s k b p (h ++ more)) none ∙ over_there most front ok s 0 b p (h ++ more) (omega arith)
        ∙ from_bad most front ok s p (h ++ more) f (ok.bad s h more f e),
    refl,
  )
  at_front ended s p h o b m more (Over n t) e none last =
      ap (λ k. reading_over front s k b p (h ++ more)) none ∙ over_there most front ok s 0 b p (h ++ more) (omega arith)
      ∙ from_over most front ok s p (h ++ more) n t (ok.over s h more n t e)
  at_front ended s p h o b m more (Holds x n t) e none last =
      ap (λ k. reading_over front s k b p (h ++ more)) none ∙ over_there most front ok s 0 b p (h ++ more) (omega arith)
      ∙ from_holds most front ok s p (h ++ more) x n t (ok.holds s h more x n t e)

  -- what was read before is still to be passed over, and nothing is held
  at_owing : (ended : Bool) (s : S) (p : ℕ) (h : List ℕ) (o b m : ℕ) (more : List ℕ) → length h < o → (ended ≡ true → more ≡ [])
      → IsTurn front (at_last most ended (fault Cut b) (reading (At s) p h o b m)) more (reading_over front s o b p (h ++ more))
  at_owing true s p h o b m more long last =
      let few : length (h ++ more) < o = omega (arith, ap length (last_more h more (last refl))) in
      (ap (λ t. cond t (at_fault (fault Cut b)) (reading_from front s p (drop o (h ++ more)))) (lt-ltb _ _ few), refl)
  at_owing false s p h o b m more long last = refl

  in_turn_reads : (ended : Bool) (s : S) (p : ℕ) (h : List ℕ) (o b m : ℕ) (more : List ℕ) → (0 < o → length h < o) → (ended ≡ true → more ≡ [])
      → IsTurn front (turn_in most front ended s (reading (At s) p h o b m)) more (reading_over front s o b p (h ++ more))
  in_turn_reads ended s p h o b m more owed last = by_owing (nat_lt 0 o) refl
    where
      by_owing : (t : Bool) → nat_lt 0 o ≡ t
          → IsTurn front (cond t (at_last most ended (fault Cut b) (reading (At s) p h o b m)) (turn_at most ended (front s h) (reading (At s) p h o b m))) more (reading_over front s o b p (h ++ more))
      by_owing true e = at_owing ended s p h o b m more (owed (ltb-true 0 o e)) last
      by_owing false e = let none = ltb-false 0 o e in at_front ended s p h o b m more (front s h) refl (omega arith) last

  pub turn_reads_at : (ended : Bool) (s : Stage S) (p : ℕ) (h : List ℕ) (o b m : ℕ) (more : List ℕ) → (ended ≡ true → more ≡ [])
      → IsTurn front (turn most front ended (reading s p h o b m)) more (to_come front (reading s p h o b m) more)
  turn_reads_at ended (At s) p h o b m more last =
      subst (λ (c : Capture). IsTurn front (turn most front ended (reading (At s) p h o b m)) more c) (gone_reads s o b p h more)
      (in_turn_reads ended s p (drop o h) (o - length h) b m more (λ some. omega (arith, length-drop o h)) last)
  turn_reads_at ended (Failed f) p h o b m more last = (refl, refl)

  -- ---- what is asked
  settled_reads : (t : Turn S) (rest : Reading S → Step S) (more : List ℕ) (coming : Capture) → IsTurn front t more coming
      → ((r : Reading S) → t ≡ GoesOn r → IsFirst (rest r).answer (rest r).left.begun (to_come front (rest r).left more) (to_come front r more))
      → IsFirst (settled t rest).answer (settled t rest).left.begun (to_come front (settled t rest).left more) coming
  settled_reads (Answers a r) rest more coming is later = is
  settled_reads (GoesOn r) rest more coming is later = subst (λ (c : Capture). IsFirst (rest r).answer (rest r).left.begun (to_come front (rest r).left more) c) (sym is) (later r refl)

  asked_reads_within : (n : ℕ) (ended : Bool) (r : Reading S) (more : List ℕ) → (ended ≡ true → more ≡ [])
      → IsFirst (asked_within most front n ended r).answer (asked_within most front n ended r).left.begun (to_come front (asked_within most front n ended r).left more) (to_come front r more)
  unfolding asked_within
  asked_reads_within zero ended r more last = same_room front r.stage r.place r.held r.owing r.begun r.room (most - length r.held) more
  asked_reads_within (suc n) ended r more last =
      settled_reads (turn most front ended r) (asked_within most front n ended) more (to_come front r more)
      (turn_reads_at ended r.stage r.place r.held r.owing r.begun r.room more last)
      (λ x e. asked_reads_within n ended x more last)

  pub asked_reads : (ended : Bool) (r : Reading S) (more : List ℕ) → (ended ≡ true → more ≡ [])
      → IsFirst (asked most front ended r).answer (asked most front ended r).left.begun (to_come front (asked most front ended r).left more) (to_come front r more)
  unfolding asked
  asked_reads ended r more last = asked_reads_within (suc (suc (length r.held))) ended r more last

-- Rule 5 is decided step by step.
use Rattle.std.proofs.Common.{◌≡◌, ◌⊎◌, ℕ, zero, suc, ◌-◌, ◌^◌, ◌<◌, ◌≤◌, ◌==◌, ◌&&◌, ◌||◌, cond, nat_le, not, Bool, true, false, List, [], ◌∷◌, ◌++◌, length, Option, Some, None, refl, ap, sym, ◌∙◌, subst, arith, inl, inr, append_assoc, append-nil}
use Rattle.std.specs.Prelude.{codes, is_some, slice_get, if◌then◌else◌}
use Rattle.std.specs.Bool.{Decides}
use Rattle.std.specs.List.{list_all}
use Rattle.std.specs.Str.{bytes_eq}
use Rattle.std.proofs.lemmas.Bool.{cases_lt, and_parts, and_from, eqb-true, eq-eqb, leb-true, le-leb, false≢true}
use Rattle.std.proofs.lemmas.Bool.Decides.{Decides-eqb, Decides-like, Decides-and}
use Rattle.std.proofs.lemmas.Slice.Eq.{bytes_eq-Decides}
use Rattle.exb_model.specs.declared.event.Event.TheVariants as event
use Rattle.exb_model.specs.ETags.{read_etag, stripped}
use Rattle.exb_model.specs.Lists.{numbered}
use Rattle.exb_model.specs.Texts.{line_of}
use Rattle.exb_model.specs.Traces.{TraceLine, In, Out, Beat, Journal}
use Rattle.exb_model.specs.Tree.{Shape, is_external}
use Rattle.exb_trace_spec.specs.CheckerLaws.{AreFrames, Rule5IsDecided}
use Rattle.exb_trace_spec.specs.TraceChecker.{through, holds_frame, holds_some, record_of, is_here, names_here, is_entered, enters, says_none, no_data, sends_by_relay, few_at, is_step, is_part, Steps, start_5, verdict_5, step_5}
use Rattle.exb_trace_spec.specs.Rule5Relays.{entries, relays, record_text, NamesRecord, is_data_at, is_arrival, sent_at, sent, HoldsFrame, IsEntered, Enters, SendsByRelay, IsStep, AreSteps}
use Rattle.exb_trace_spec.specs.JournalLines.{Entry, Relayed, Ignored, Ticked, Committed, Refused, Rose, Stayed, Settled, entry_in, entry_text}
use Rattle.exb_trace_spec.specs.Traversals.{begins, until_next, EachStep}
use Rattle.exb_trace_spec.proofs.JournalLines.{line_is, entries_read_back}
use Rattle.exb_trace_spec.proofs.UniqueTexts.{entries_are_written}
use Rattle.exb_trace_spec.proofs.NumberedMachines.{implied}

-- ---- tests
if_then : (a b : Bool) (P Q : Type 0) → Decides a P → Decides b Q → Decides (not a || b) (P → Q)
if_then true b P Q d e = (λ h k. e.0 h, λ k. e.1 (k (d.0 refl)))
if_then false b P Q d e = (λ h k. absurd (false≢true (d.1 k)), λ k. refl)

none_said : (xs : List (List ℕ)) → Decides (says_none xs) (xs ≡ [])
none_said [] = (λ h. refl, λ h. refl)
none_said (x ∷ xs) = (λ h. absurd (false≢true h), λ (h : x ∷ xs ≡ []). absurd (cc))

-- ---- data that the bridge sends
quiet : (a b d : Bool) (f : List ℕ) → not (a && d) ≡ true → cond (a && (b && d)) (f ∷ []) [] ≡ []
quiet false b d f h = refl
quiet true false d f h = refl
quiet true true false f h = refl
quiet true true true f h = absurd (false≢true h)

loud : (a b d : Bool) (f : List ℕ) → b ≡ true → cond (a && (b && d)) (f ∷ []) [] ≡ [] → not (a && d) ≡ true
loud false b d f e h = refl
loud true b false f e h = refl
loud true false true f e h = absurd (false≢true e)
loud true true true f e h = absurd (cc)

split_nil : (xs ys : List (List ℕ)) → xs ++ ys ≡ [] → (xs ≡ []) × (ys ≡ [])
split_nil [] ys e = (refl, e)
split_nil (x ∷ xs) ys e = absurd (cc)

module _ (t : Shape) where
  no_data_at : (l : TraceLine) → Decides (no_data t l) ((k : ℕ) → sent_at t k l ≡ [])
  no_data_at (In n j f) = (λ h k. refl, λ h. refl)
  no_data_at (Out n j f) = (λ h k. quiet (n == 0) (j == k) (is_data_at t j f) f h, λ h. loud (n == 0) (j == j) (is_data_at t j f) f (eq-eqb j j refl) (h j))
  no_data_at Beat = (λ h k. refl, λ h. refl)
  no_data_at (Journal text) = (λ h k. refl, λ h. refl)

  no_data_in : (lines : List TraceLine) → Decides (list_all (no_data t) lines) ((k : ℕ) → sent t k lines ≡ [])
  no_data_in [] = (λ h k. refl, λ h. refl)
  no_data_in (l ∷ ls) =
      let d = no_data_at l in
      let e = no_data_in ls in (
        λ h k. (let p = and_parts (no_data t l) (list_all (no_data t) ls) h in ap (λ us. us ++ sent t k ls) (d.0 p.0 k) ∙ e.0 p.1 k),
        λ h. and_from (no_data t l) (list_all (no_data t) ls) (d.1 (λ k. (split_nil (sent_at t k l) (sent t k ls) (h k)).0)) (e.1 (λ k. (split_nil (sent_at t k l) (sent t k ls) (h k)).1)),
      )

  by_relay_decided : (lines : List TraceLine) → Decides (sends_by_relay t lines) (SendsByRelay t lines)
  by_relay_decided lines = if_then (says_none (relays lines)) (list_all (no_data t) lines) (relays lines ≡ []) ((k : ℕ) → sent t k lines ≡ []) (none_said (relays lines)) (no_data_in lines)

  -- the port of a line at which there is data, or none
  data_or_none : (a b d : Bool) (f : List ℕ) → (cond (a && (b && d)) (f ∷ []) [] ≡ []) ⊎ (b ≡ true)
  data_or_none a true d f = inr refl
  data_or_none true false d f = inl refl
  data_or_none false false d f = inl refl

  few_of : (all : List TraceLine) (k : ℕ) (l : TraceLine) → few_at t all l ≡ true → (sent_at t k l ≡ []) ⊎ (length (sent t k all) ≤ 2)
  few_of all k (In n j f) h = inl refl
  few_of all k (Out n j f) h =
      elim (data_or_none (n == 0) (j == k) (is_data_at t j f) f) [
        | inl e ↦ inl e
        | inr e ↦ inr (subst (λ i. length (sent t i all) ≤ 2) (eqb-true j k e) (leb-true (length (sent t j all)) 2 h))
      ]
  few_of all k Beat h = inl refl
  few_of all k (Journal text) h = inl refl

  few_here : (all : List TraceLine) (k : ℕ) (ls : List TraceLine) → list_all (few_at t all) ls ≡ true → (sent t k ls ≡ []) ⊎ (length (sent t k all) ≤ 2)
  few_here all k [] h = inl refl
  few_here all k (l ∷ ls) h =
      let p = and_parts (few_at t all l) (list_all (few_at t all) ls) h in
      elim (few_of all k l p.0) [
        | inl e ↦ elim (few_here all k ls p.1) [ inl g ↦ inl (ap (λ us. us ++ sent t k ls) e ∙ g) | inr g ↦ inr g ]
        | inr e ↦ inr e
      ]

  few_back : (all : List TraceLine) → ((k : ℕ) → length (sent t k all) ≤ 2) → (ls : List TraceLine) → list_all (few_at t all) ls ≡ true
  few_back all h [] = refl
  few_back all h (In n j f ∷ ls) = few_back all h ls
  few_back all h (Out n j f ∷ ls) = and_from (nat_le (length (sent t j all)) 2) (list_all (few_at t all) ls) (le-leb (length (sent t j all)) 2 (h j)) (few_back all h ls)
  few_back all h (Beat ∷ ls) = few_back all h ls
  few_back all h (Journal text ∷ ls) = few_back all h ls

  few_decided : (lines : List TraceLine) → Decides (list_all (few_at t lines) lines) ((k : ℕ) → length (sent t k lines) ≤ 2)
  few_decided lines =
      (λ h k. elim (few_here lines k lines h) [ inl e ↦ subst (λ us. length us ≤ 2) (sym e) (omega arith) | inr e ↦ e ], λ h. few_back lines h lines)

-- ---- the record that is named
get_low : (xs : List (List ℕ)) (i : ℕ) (x : List ℕ) → slice_get xs i ≡ Some x → i < length xs
get_low [] i x e = absurd (cc)
get_low (y ∷ ys) zero x e = omega arith
get_low (y ∷ ys) (suc i) x e = let l = get_low ys i x e in omega (arith, l)

numbered_low : (xs : List (List ℕ)) (n : ℕ) (x : List ℕ) → numbered xs n ≡ Some x → n ≤ length xs
numbered_low xs zero x e = omega arith
numbered_low xs (suc n) x e = let l = get_low xs n x e in omega (arith, l)

none_numbered : (xs : List (List ℕ)) (n : ℕ) (x : List ℕ) → xs ≡ [] → numbered xs n ≡ Some x → ⊥
none_numbered [] zero x e k = cc
none_numbered [] (suc n) x e k = cc
none_numbered (y ∷ ys) n x e k = cc

relay_text : (p n : ℕ) → entry_text (Relayed p n) ≡ record_text (codes "relay ") p n
unfolding line_of
relay_text p n = sym (line_is (event.Relay p n 0 []))

ignore_text : (p n : ℕ) → entry_text (Ignored p n) ≡ record_text (codes "ignore ") p n
unfolding line_of
ignore_text p n = sym (line_is (event.Ignored p n))

module _ (t : Shape) (captures : ℕ → List (List ℕ)) (frames : AreFrames captures) where
  fits : (p n : ℕ) (frame : List ℕ) → numbered (captures p) n ≡ Some frame → (p < 4160) × (n < 2 ^ 64)
  fits p n frame e =
      let low = numbered_low (captures p) n frame e in
      let few = frames.few p in
      (elim (cases_lt p 4160) [ inl l ↦ l | inr g ↦ absurd (none_numbered (captures p) n frame (frames.ports p g) e) ], omega (arith, low, few))

  frame_by : (b : Bool) (k : ℕ) (f frame : List ℕ) → is_external t (k - 1) ≡ b → Decides (if b then bytes_eq f frame else (bytes_eq (stripped f) frame && is_some (read_etag f))) (HoldsFrame t k f frame)
  frame_by true k f frame e =
      (λ h. record { local = λ out. (bytes_eq-Decides f frame).0 h; cascade = λ c. absurd (false≢true (sym c ∙ e)) }, λ h. (bytes_eq-Decides f frame).1 (h.local e))
  frame_by false k f frame e = (
    λ h. (let p = and_parts (bytes_eq (stripped f) frame) (is_some (read_etag f)) h in record { local = λ out. absurd (false≢true (sym e ∙ out)); cascade = λ c. ((bytes_eq-Decides (stripped f) frame).0 p.0, p.1) }),
    λ h. (let c = h.cascade e in and_from (bytes_eq (stripped f) frame) (is_some (read_etag f)) ((bytes_eq-Decides (stripped f) frame).1 c.0) c.1),
  )

  frame_decided : (k : ℕ) (f frame : List ℕ) → Decides (holds_frame t k f frame) (HoldsFrame t k f frame)
  frame_decided k f frame = frame_by (is_external t (k - 1)) k f frame refl

  some_same : {x y : List ℕ} → Some x ≡ Some y → x ≡ y
  some_same e = cc

  -- a line that names a record
  record Named (line frame : List ℕ) (e : Option Entry) : Type 0 where
    named : NamesRecord captures line frame
    at : (k : ℕ) → names_here t k e ≡ true → is_external t (k - 1) ≡ true → named.port ≡ k - 1

  here : (k p : ℕ) → Decides (is_here t k p) (is_external t (k - 1) ≡ true → p ≡ k - 1)
  here k p = implied (is_external t (k - 1)) (p == k - 1) (p ≡ k - 1) (Decides-eqb p (k - 1))

  named_by : (line : List ℕ) (e : Option Entry) → entry_in line ≡ e → (frame : List ℕ) → record_of captures e ≡ Some frame → Named line frame e
  named_by line None h = λ frame (k : None ≡ Some frame). absurd (cc)
  named_by line (Some (Relayed p n)) h =
      λ frame k. record { named = record { port = p; index = n; is = k; text = inl (sym (entries_are_written line (Relayed p n) h (fits p n frame k)) ∙ relay_text p n) }; at = λ j e out. (here j p).0 e out }
  named_by line (Some (Ignored p n)) h =
      λ frame k. record { named = record { port = p; index = n; is = k; text = inr (sym (entries_are_written line (Ignored p n) h (fits p n frame k)) ∙ ignore_text p n) }; at = λ j e out. (here j p).0 e out }
  named_by line (Some (Ticked n)) h = λ frame (k : None ≡ Some frame). absurd (cc)
  named_by line (Some (Committed n)) h = λ frame (k : None ≡ Some frame). absurd (cc)
  named_by line (Some (Refused n x)) h = λ frame (k : None ≡ Some frame). absurd (cc)
  named_by line (Some (Rose p)) h = λ frame (k : None ≡ Some frame). absurd (cc)
  named_by line (Some (Stayed p x)) h = λ frame (k : None ≡ Some frame). absurd (cc)
  named_by line (Some Settled) h = λ frame (k : None ≡ Some frame). absurd (cc)

  names_it : (line frame : List ℕ) → NamesRecord captures line frame → record_of captures (entry_in line) ≡ Some frame
  names_it line frame k =
      elim k.text [
        | inl e ↦ ap (λ x. record_of captures (entry_in x)) (e ∙ sym (relay_text k.port k.index)) ∙ ap (record_of captures) (entries_read_back (Relayed k.port k.index) (fits k.port k.index frame k.is)) ∙ k.is
        | inr e ↦ ap (λ x. record_of captures (entry_in x)) (e ∙ sym (ignore_text k.port k.index)) ∙ ap (record_of captures) (entries_read_back (Ignored k.port k.index) (fits k.port k.index frame k.is)) ∙ k.is
      ]

  here_it : (k : ℕ) (line frame : List ℕ) (j : NamesRecord captures line frame) → (is_external t (k - 1) ≡ true → j.port ≡ k - 1) → names_here t k (entry_in line) ≡ true
  here_it k line frame j at =
      elim j.text [
        | inl e ↦ ap (λ x. names_here t k (entry_in x)) (e ∙ sym (relay_text j.port j.index)) ∙ ap (names_here t k) (entries_read_back (Relayed j.port j.index) (fits j.port j.index frame j.is)) ∙ (here k j.port).1 at
        | inr e ↦ ap (λ x. names_here t k (entry_in x)) (e ∙ sym (ignore_text j.port j.index)) ∙ ap (names_here t k) (entries_read_back (Ignored j.port j.index) (fits j.port j.index frame j.is)) ∙ (here k j.port).1 at
      ]

  entered_by : (k : ℕ) (f line : List ℕ) (o : Option (List ℕ)) → record_of captures (entry_in line) ≡ o → holds_some t k f o ≡ true → names_here t k (entry_in line) ≡ true → IsEntered t captures k f (line ∷ [])
  entered_by k f line None e h at = absurd (false≢true h)
  entered_by k f line (Some frame) e h at =
      let n = named_by line (entry_in line) refl frame e in
      record { line = line; once = refl; frame = frame; names = n.named; here = n.at k at; holds = (frame_decided k f frame).0 h }

  entered : (k : ℕ) (f : List ℕ) (said : List (List ℕ)) → Decides (is_entered t captures k f said) (IsEntered t captures k f said)
  entered k f [] = (λ h. absurd (false≢true h), λ h. (let e = h.once in absurd (none e)))
    where
      none : {x : List ℕ} → [] ≡ x ∷ [] → ⊥
      none e = cc
  entered k f (line ∷ []) = (
    λ h. (let p = and_parts (holds_some t k f (record_of captures (entry_in line))) (names_here t k (entry_in line)) h in entered_by k f line (record_of captures (entry_in line)) refl p.0 p.1),
    λ h. and_from (holds_some t k f (record_of captures (entry_in line))) (names_here t k (entry_in line))
        (ap (holds_some t k f) (ap (λ x. record_of captures (entry_in x)) (same h.once) ∙ names_it h.line h.frame h.names) ∙ (frame_decided k f h.frame).1 h.holds)
        (ap (λ x. names_here t k (entry_in x)) (same h.once) ∙ here_it k h.line h.frame h.names h.here),
  )
    where
      same : {x : List ℕ} → line ∷ [] ≡ x ∷ [] → line ≡ x
      same e = cc
  entered k f (x ∷ y ∷ zs) = (λ h. absurd (false≢true h), λ h. (let e = h.once in absurd (more e)))
    where
      more : {z : List ℕ} → x ∷ y ∷ zs ≡ z ∷ [] → ⊥
      more e = cc

  enters_decided : (l : TraceLine) (said : List (List ℕ)) → Decides (enters t captures l said) (Enters t captures l said)
  enters_decided (In n k f) said = entered k f said
  enters_decided (Out n k f) said = (λ h. tt, λ h. refl)
  enters_decided Beat said = (λ h. tt, λ h. refl)
  enters_decided (Journal text) said = (λ h. tt, λ h. refl)

  -- ---- a step
  record Says (first : TraceLine) (rest : List TraceLine) : Type 0 where
    entered_here : is_arrival t first ≡ true → Enters t captures first (entries rest)
    relayed : is_arrival t first ≡ false → relays rest ≡ []

  says_by : (b : Bool) (first : TraceLine) (rest : List TraceLine) → is_arrival t first ≡ b → Decides (if b then enters t captures first (entries rest) else says_none (relays rest)) (Says first rest)
  says_by true first rest e =
      let d = enters_decided first (entries rest) in
      (λ h. record { entered_here = λ a. d.0 h; relayed = λ a. absurd (false≢true (sym a ∙ e)) }, λ h. d.1 (h.entered_here e))
  says_by false first rest e =
      let d = none_said (relays rest) in
      (λ h. record { entered_here = λ a. absurd (false≢true (sym e ∙ a)); relayed = λ a. d.0 h }, λ h. d.1 (h.relayed e))

  step_decided : (first : TraceLine) (rest : List TraceLine) → Decides (is_step t captures first rest) (IsStep t captures first rest)
  step_decided first rest =
      Decides-like (is_step t captures first rest)
      (λ k. record { entered = k.0.entered_here; relayed = k.0.relayed; by_relay = k.1.0; few = k.1.1 })
      (λ k. (record { entered_here = k.entered; relayed = k.relayed }, (k.by_relay, k.few)))
      (Decides-and (if is_arrival t first then enters t captures first (entries rest) else says_none (relays rest)) (sends_by_relay t rest && list_all (few_at t rest) rest)
      (says_by (is_arrival t first) first rest refl)
      (Decides-and (sends_by_relay t rest) (list_all (few_at t rest) rest) (by_relay_decided t rest) (few_decided t rest)))

  -- ---- parts
  abbrev IsPart : Option TraceLine → List TraceLine → Type 0
  IsPart None rest = (relays rest ≡ []) × SendsByRelay t rest
  IsPart (Some first) rest = IsStep t captures first rest

  part_decided : (first : Option TraceLine) (rest : List TraceLine) → Decides (is_part t captures first rest) (IsPart first rest)
  part_decided None rest = Decides-and (says_none (relays rest)) (sends_by_relay t rest) (none_said (relays rest)) (by_relay_decided t rest)
  part_decided (Some first) rest = step_decided first rest

  abbrev IsRest : Steps → List TraceLine → Type 0
  IsRest s lines = (s.good ≡ true) × IsPart s.first (s.rest ++ until_next lines) × EachStep (IsStep t captures) lines

  abbrev begun : Steps → TraceLine → Steps
  begun s l = record { first = Some l; rest = []; good = verdict_5 t captures s }

  abbrev longer : Steps → TraceLine → Steps
  longer s l = record { first = s.first; rest = s.rest ++ l ∷ []; good = s.good }

  rests : (s : Steps) (lines : List TraceLine) → Decides (verdict_5 t captures (through (step_5 t captures) s lines)) (IsRest s lines)
  rests s [] =
      let d = part_decided s.first s.rest in (
        λ h. (let p = and_parts s.good (is_part t captures s.first s.rest) h in (p.0, subst (IsPart s.first) (sym (append-nil s.rest)) (d.0 p.1), tt)),
        λ h. and_from s.good (is_part t captures s.first s.rest) h.0 (d.1 (subst (IsPart s.first) (append-nil s.rest) h.1)),
      )
  rests s (l ∷ ls) = by_line (λ x. rests x ls) (begins l) refl
    where
      by_line : ((x : Steps) → Decides (verdict_5 t captures (through (step_5 t captures) x ls)) (IsRest x ls)) → (b : Bool) → begins l ≡ b → Decides (verdict_5 t captures (through (step_5 t captures) (step_5 t captures s l) ls)) (IsRest s (l ∷ ls))
      by_line more true e =
          let is : step_5 t captures s l ≡ begun s l = rw e refl in
          let next : until_next (l ∷ ls) ≡ [] = rw e refl in
          let d = more (begun s l) in
          let p = part_decided s.first s.rest in
          subst (λ x. Decides (verdict_5 t captures (through (step_5 t captures) x ls)) (IsRest s (l ∷ ls))) (sym is) (
            λ h. (let k = d.0 h in let g = and_parts s.good (is_part t captures s.first s.rest) k.0 in
                (g.0, subst (λ us. IsPart s.first (s.rest ++ us)) (sym next) (subst (IsPart s.first) (sym (append-nil s.rest)) (p.0 g.1)), (λ b. k.1, k.2))),
            λ h. d.1 (and_from s.good (is_part t captures s.first s.rest) h.0 (p.1 (subst (IsPart s.first) (append-nil s.rest) (subst (λ us. IsPart s.first (s.rest ++ us)) next h.1))), h.2.0 e, h.2.1),
          )
      by_line more false e =
          let is : step_5 t captures s l ≡ longer s l = rw e refl in
          let next : until_next (l ∷ ls) ≡ l ∷ until_next ls = rw e refl in
          let same : s.rest ++ until_next (l ∷ ls) ≡ (s.rest ++ l ∷ []) ++ until_next ls = ap (λ us. s.rest ++ us) next ∙ sym (append_assoc s.rest (l ∷ []) (until_next ls)) in
          let d = more (longer s l) in
          subst (λ x. Decides (verdict_5 t captures (through (step_5 t captures) x ls)) (IsRest s (l ∷ ls))) (sym is) (
            λ h. (let k = d.0 h in (k.0, subst (IsPart s.first) (sym same) k.1, (λ b. absurd (false≢true (sym e ∙ b)), k.2))),
            λ h. d.1 (h.0, subst (IsPart s.first) same h.1, h.2.1),
          )

  pub steps_decided : (lines : List TraceLine) → Decides (verdict_5 t captures (through (step_5 t captures) start_5 lines)) (AreSteps t captures lines)
  steps_decided lines =
      Decides-like (verdict_5 t captures (through (step_5 t captures) start_5 lines))
      (λ k. record { none_before = k.1.0; quiet_before = k.1.1; each = k.2 })
      (λ k. (refl, (k.none_before, k.quiet_before), k.each))
      (rests start_5 lines)

pub rule_5_is_decided : Rule5IsDecided
rule_5_is_decided t captures lines frames = steps_decided t captures frames lines

-- More is answered exactly where no record and no fault stands whatever follows: over any format. And what a question leaves of what is held.
use Rattle.std.proofs.Common.{◌≡◌, ◌<◌, ◌≤◌, ◌+◌, ◌-◌, ℕ, zero, suc, Bool, true, false, List, [], ◌∷◌, ◌++◌, length, drop, Option, Some, None, cond, refl, ap, sym, subst, inl, inr, ◌∙◌, arith, length-append, length-drop}
use Rattle.std.specs.Prelude.{nat_lt, replicate, All}
use Rattle.std.proofs.lemmas.Bool.{ltb-false, ltb-true, false≢true}
use Rattle.std.proofs.lemmas.List.{append-nil, append_cancel_left, drop_all, length-replicate}
use Rattle.std.proofs.lemmas.List.Elements.{All-tail, All-head}
use Rattle.exb_model.specs.Frames.{IsBytes}
use Rattle.exb_model.specs.Input.{Record}
use Rattle.exb_capture.specs.declared.fault.FormatFault.{FormatFault}
use Rattle.exb_capture.specs.declared.fault.Flaw.{Flaw}
use Rattle.exb_capture.specs.declared.fault.Flaw.TheVariants.{Cut}
use Rattle.exb_capture.specs.Formats.{Front, Nothing, Short, Bad, Over, Holds, Capture, at_end, at_fault, fault, behind, at_place, reading_from}
use Rattle.exb_capture.specs.ReaderMachine.{IsFormat, IsOther, IsNotCut, Stage, At, Failed, Reading, Answer, Found, More, End, Faulty, Step, Turn, Answers, GoesOn, unread, gone, at_last, turn_at, turn, settled, asked_within, asked, reading_over, to_come, IsFirst}
use Rattle.exb_capture.specs.PieceFeeds.{Call, Feed, Ask, Feeding, begun, after_call, after_calls, answers, IsOpen, IsRecordOrFault, Stands, MoreIsOpen, in_turn, first_answers}
use Rattle.exb_capture.proofs.FrontLemmas.{from_nothing, from_short, from_bad, from_over, from_holds, over_there}
use Rattle.exb_capture.proofs.TurnLemmas.{reading, IsTurn, gone_reads, turn_reads_at, asked_reads}
use Rattle.exb_capture.proofs.PieceLaws.{Enough, turn_counts_at, all_read, EndAtEnd}
use Rattle.exb_capture.proofs.UndecidedLemmas.{zeros_are_bytes}

-- neither an answer nor a fault is that of what comes whatever follows
pub record IsUnsettled (coming : List ℕ → Capture) : Type 0 where
  pub answer : (a : Answer) → IsRecordOrFault a → ((more : List ℕ) → IsBytes more → in_turn 1 (coming more).records (coming more).fault ≡ a ∷ []) → ⊥
  pub fault : (f : FormatFault) → ((more : List ℕ) → IsBytes more → (coming more).fault ≡ Some f) → ⊥

no_bytes : IsBytes []
no_bytes i = omega arith

first_end : in_turn 1 [] None ≡ End ∷ []
unfolding in_turn
first_end = refl

first_fault : (f : FormatFault) → in_turn 1 [] (Some f) ≡ Faulty f ∷ []
unfolding in_turn
first_fault f = refl

first_record : (x : Record) (xs : List Record) (o : Option FormatFault) → in_turn 1 (x ∷ xs) o ≡ Found x ∷ []
unfolding in_turn
first_record x xs o = refl

-- it ends well where nothing follows
unsettled_end : (coming : List ℕ → Capture) → coming [] ≡ at_end → IsUnsettled coming
unsettled_end coming e = record {
  answer = λ a told stands.
      let is : End ∷ [] ≡ a ∷ [] = sym first_end ∙ ap (λ (c : Capture). in_turn 1 c.records c.fault) (sym e) ∙ stands [] no_bytes in
      let same : End ≡ a = cc in
      subst IsRecordOrFault (sym same) told;
  fault = λ f stands. let no : None ≡ Some f = ap (λ (c : Capture). c.fault) (sym e) ∙ stands [] no_bytes in absurd (cc);
}

-- it has this fault where nothing follows, and none with its flaw where other bytes do
unsettled_fault : (coming : List ℕ → Capture) (f : FormatFault) (more : List ℕ) → IsBytes more → coming [] ≡ at_fault f → ((g : FormatFault) → (coming more).fault ≡ Some g → g.flaw ≡ f.flaw → ⊥) → IsUnsettled coming
unsettled_fault coming f more bytes e other = record {
  answer = λ a told stands.
      let is : Faulty f ∷ [] ≡ a ∷ [] = sym (first_fault f) ∙ ap (λ (c : Capture). in_turn 1 c.records c.fault) (sym e) ∙ stands [] no_bytes in
      let same : Faulty f ≡ a = cc in
      other f (faulty_first (coming more).records (coming more).fault (stands more bytes ∙ ap (λ x. x ∷ []) (sym same))) refl;
  fault = λ g stands.
      let is : Some f ≡ Some g = ap (λ (c : Capture). c.fault) (sym e) ∙ stands [] no_bytes in
      let same : f ≡ g = cc in
      other g (stands more bytes) (ap (λ (x : FormatFault). x.flaw) (sym same));
}
  where
    faulty_first : (rs : List Record) (o : Option FormatFault) → in_turn 1 rs o ≡ Faulty f ∷ [] → o ≡ Some f
    faulty_first [] None t = let no : End ∷ [] ≡ Faulty f ∷ [] = sym first_end ∙ t in absurd (cc)
    faulty_first [] (Some g) t = let is : Faulty g ∷ [] ≡ Faulty f ∷ [] = sym (first_fault g) ∙ t in let same : g ≡ f = cc in ap Some same
    faulty_first (x ∷ xs) o t = let no : Found x ∷ [] ≡ Faulty f ∷ [] = sym (first_record x xs o) ∙ t in absurd (cc)

unsettled_as : (c d : List ℕ → Capture) → ((more : List ℕ) → c more ≡ d more) → IsUnsettled c → IsUnsettled d
unsettled_as c d same u = record {
  answer = λ a told stands. u.answer a told (λ more bytes. ap (λ (x : Capture). in_turn 1 x.records x.fault) (same more) ∙ stands more bytes);
  fault = λ f stands. u.fault f (λ more bytes. ap (λ (x : Capture). x.fault) (same more) ∙ stands more bytes);
}

-- ---- what a question leaves of what is held
-- how many of the bytes that are held weren't read
abbrev pub unread_of : {S : Type 0} → Reading S → ℕ
unread_of r = length r.held - r.owing

-- a record is 16 bytes at least
abbrev pub taken_by : Answer → ℕ
taken_by (Found x) = 16
taken_by More = 0
taken_by End = 0
taken_by (Faulty f) = 0

-- no more than so many bytes of the file are read or held
abbrev pub Reaches : {S : Type 0} → ℕ → Reading S → Type 0
Reaches most r = r.place + length r.held ≤ most + r.owing

-- a record's bytes are held
abbrev pub IsHeld : {S : Type 0} → Answer → Reading S → Type 0
IsHeld (Found x) r = r.owing ≤ length r.held
IsHeld More r = Unit {0}
IsHeld End r = Unit {0}
IsHeld (Faulty f) r = Unit {0}

abbrev pub IsTurned : {S : Type 0} → Bool → Reading S → Turn S → Type 0
IsTurned ended r (Answers a x) = (unread_of x + taken_by a ≤ unread_of r) × ((most : ℕ) → Reaches most r → Reaches most x) × IsHeld a x × (a ≡ End → ended ≡ true)
IsTurned ended r (GoesOn x) = (unread_of x ≤ unread_of r) × ((most : ℕ) → Reaches most r → Reaches most x)

module _ {S : Type 0} (most : ℕ) (front : S → List ℕ → Front S) (ok : IsFormat most front) where
  -- where no bytes are left, nothing is cut off
  blank_read : (s : S) (p : ℕ) (x : Front S) → front s [] ≡ x → IsNotCut x → (g : FormatFault) → (reading_from front s p []).fault ≡ Some g → g.flaw ≡ Cut → ⊥
  blank_read s p Nothing e none g is flaw = let no : None ≡ Some g = ap (λ (c : Capture). c.fault) (sym (from_nothing most front ok s p [] e)) ∙ is in absurd (cc)
  blank_read s p (Short f) e none g is flaw =
      let both : Some (at_place p f) ≡ Some g = ap (λ (c : Capture). c.fault) (sym (from_short most front ok s p [] f e)) ∙ is in
      let same : at_place p f ≡ g = cc in
      none (ap (λ (y : FormatFault). y.flaw) same ∙ flaw)
  blank_read s p (Bad f) e none g is flaw = absurd none
  blank_read s p (Over n t) e none g is flaw = absurd none
  blank_read s p (Holds x n t) e none g is flaw = absurd none

  behind_all : (t : S) (n b p : ℕ) (all : List ℕ) → n ≡ length all → (g : FormatFault) → (reading_over front t n b p all).fault ≡ Some g → g.flaw ≡ Cut → ⊥
  behind_all t n b p all e g is =
      let none : drop n all ≡ [] = drop_all n all (omega (arith, e)) in
      blank_read t p (front t []) refl (ok.blank t) g
      (ap (λ xs. (reading_from front t p xs).fault) (sym none) ∙ ap (λ (c : Capture). c.fault) (sym (over_there most front ok t n b p all (omega (arith, e)))) ∙ is)

  other_read : (s : S) (p : ℕ) (all : List ℕ) (flaw : Flaw) (x : Front S) → front s all ≡ x → IsOther flaw (length all) x → (g : FormatFault) → (reading_from front s p all).fault ≡ Some g → g.flaw ≡ flaw → ⊥
  other_read s p all flaw Nothing e other g is t = let no : None ≡ Some g = ap (λ (c : Capture). c.fault) (sym (from_nothing most front ok s p all e)) ∙ is in absurd (cc)
  other_read s p all flaw (Short f) e other g is t =
      let both : Some (at_place p f) ≡ Some g = ap (λ (c : Capture). c.fault) (sym (from_short most front ok s p all f e)) ∙ is in
      let same : at_place p f ≡ g = cc in
      other (ap (λ (y : FormatFault). y.flaw) same ∙ t)
  other_read s p all flaw (Bad f) e other g is t =
      let both : Some (at_place p f) ≡ Some g = ap (λ (c : Capture). c.fault) (sym (from_bad most front ok s p all f e)) ∙ is in
      let same : at_place p f ≡ g = cc in
      other (ap (λ (y : FormatFault). y.flaw) same ∙ t)
  other_read s p all flaw (Over n u) e other g is t =
      behind_all u n p (behind p n) all other.0 g (ap (λ (c : Capture). c.fault) (sym (from_over most front ok s p all n u e)) ∙ is) (t ∙ other.1)
  other_read s p all flaw (Holds x n u) e other g is t =
      behind_all u n p (behind p n) all other.0 g (ap (λ (c : Capture). c.fault) (sym (from_holds most front ok s p all x n u e)) ∙ is) (t ∙ other.1)

  -- ---- where a turn answers More
  owed_nothing : (s : S) (o b p : ℕ) (h more : List ℕ) → o ≡ 0 → reading_over front s o b p (h ++ more) ≡ reading_from front s p (h ++ more)
  owed_nothing s o b p h more none = ap (λ k. reading_over front s k b p (h ++ more)) none ∙ over_there most front ok s 0 b p (h ++ more) (omega arith)

  front_unsettled : (s : S) (o b p m : ℕ) (h : List ℕ) (x : Front S) → front s h ≡ x → o ≡ 0 → (a : Answer) (r : Reading S) → turn_at most false x (reading (At s) p h o b m) ≡ Answers a r → a ≡ More
      → IsUnsettled (λ more. reading_over front s o b p (h ++ more))
  front_unsettled s o b p m h Nothing e none a r is t =
      unsettled_end (λ more. reading_over front s o b p (h ++ more)) (owed_nothing s o b p h [] none ∙ ap (reading_from front s p) (append-nil h) ∙ from_nothing most front ok s p h e)
  front_unsettled s o b p m h (Short f) e none a r is t =
      let u = ok.open_end s h f e in
      unsettled_fault (λ more. reading_over front s o b p (h ++ more)) (at_place p f) u.more u.bytes
      (owed_nothing s o b p h [] none ∙ ap (reading_from front s p) (append-nil h) ∙ from_short most front ok s p h f e)
      (λ g told. other_read s p (h ++ u.more) f.flaw (front s (h ++ u.more)) refl u.other g (ap (λ (c : Capture). c.fault) (sym (owed_nothing s o b p h u.more none)) ∙ told))
  front_unsettled s o b p m h (Bad f) e none a r is t = absurd (cc)
  front_unsettled s o b p m h (Over n u) e none a r is t = absurd (cc)
  front_unsettled s o b p m h (Holds x n u) e none a r is t = absurd (cc)

  owing_unsettled : (s : S) (o b p : ℕ) (h : List ℕ) → length h < o → IsUnsettled (λ more. reading_over front s o b p (h ++ more))
  owing_unsettled s o b p h long =
      let more : List ℕ = replicate (o - length h) 0 in
      unsettled_fault (λ xs. reading_over front s o b p (h ++ xs)) (fault Cut b) more (zeros_are_bytes (o - length h))
      (cut_off (nat_lt (length (h ++ [])) o) refl)
      (λ g told. behind_all s o b p (h ++ more) (omega (arith, long, length-append h more, length-replicate {A = ℕ} (o - length h) 0)) g told)
    where
      cut_off : (t : Bool) → nat_lt (length (h ++ [])) o ≡ t → cond t (at_fault (fault Cut b)) (reading_from front s p (drop o (h ++ []))) ≡ at_fault (fault Cut b)
      cut_off true t = refl
      cut_off false t = let fits = ltb-false (length (h ++ [])) o t in absurd (omega (arith, fits, long, ap length (append-nil h)))

  turn_unsettled : (s : Stage S) (p : ℕ) (h : List ℕ) (o b m : ℕ) (a : Answer) (r : Reading S) → turn most front false (reading s p h o b m) ≡ Answers a r → a ≡ More
      → IsUnsettled (to_come front (reading s p h o b m))
  turn_unsettled (Failed f) p h o b m a r is t = absurd (cc)
  turn_unsettled (At s) p h o b m a r is t =
      unsettled_as (λ more. reading_over front s (o - length h) b p (drop o h ++ more)) (to_come front (reading (At s) p h o b m)) (gone_reads most front ok s o b p h)
      (by_owing (nat_lt 0 (o - length h)) refl is)
    where
      g : Reading S
      g = gone (reading (At s) p h o b m)

      by_owing : (k : Bool) → nat_lt 0 (o - length h) ≡ k → cond k (at_last most false (fault Cut b) g) (turn_at most false (front s g.held) g) ≡ Answers a r
          → IsUnsettled (λ more. reading_over front s (o - length h) b p (drop o h ++ more))
      by_owing true k e = let some = ltb-true 0 (o - length h) k in owing_unsettled s (o - length h) b p (drop o h) (omega (arith, some, length-drop o h))
      by_owing false k e = let none = ltb-false 0 (o - length h) k in front_unsettled s (o - length h) b p m (drop o h) (front s g.held) refl (omega (arith, none)) a r e t

  settled_unsettled : (t : Turn S) (rest : Reading S → Step S) (coming : List ℕ → Capture) → ((a : Answer) (x : Reading S) → t ≡ Answers a x → a ≡ More → IsUnsettled coming)
      → ((x : Reading S) → t ≡ GoesOn x → (rest x).answer ≡ More → IsUnsettled coming) → (settled t rest).answer ≡ More → IsUnsettled coming
  settled_unsettled (Answers a x) rest coming now later is = now a x refl is
  settled_unsettled (GoesOn x) rest coming now later is = later x refl is

  same_coming_on : (r x : Reading S) → turn most front false r ≡ GoesOn x → (more : List ℕ) → to_come front x more ≡ to_come front r more
  same_coming_on r x e more = sym (on (turn most front false r) e (turn_reads_at most front ok false r.stage r.place r.held r.owing r.begun r.room more (λ t. absurd (false≢true t))))
    where
      on : (t : Turn S) → t ≡ GoesOn x → IsTurn front t more (to_come front r more) → to_come front r more ≡ to_come front x more
      on (Answers a y) same is = absurd (cc)
      on (GoesOn y) same is = let one : y ≡ x = cc in is ∙ ap (λ z. to_come front z more) one

  unsettled_within : (n : ℕ) (r : Reading S) → Enough most front ok n r.owing r.held → (asked_within most front n false r).answer ≡ More → IsUnsettled (to_come front r)
  unfolding asked_within
  unsettled_within zero r (inl few) is = absurd (omega (arith, few))
  unsettled_within zero r (inr long) is = absurd (omega (arith, long.1))
  unsettled_within (suc n) r enough is =
      settled_unsettled (turn most front false r) (asked_within most front n false) (to_come front r)
      (λ a x e. turn_unsettled r.stage r.place r.held r.owing r.begun r.room a x e)
      (λ x e later. unsettled_as (to_come front x) (to_come front r) (same_coming_on r x e)
      (unsettled_within n x (turn_counts_at most front ok n false r.stage r.place r.held r.owing r.begun r.room x enough e) later)) is

  pub asked_unsettled : (r : Reading S) → (asked most front false r).answer ≡ More → IsUnsettled (to_come front r)
  unfolding asked
  asked_unsettled r is = unsettled_within (suc (suc (length r.held))) r (inl (omega (arith, length-drop r.owing r.held))) is

  -- ---- what is left
  front_turned : (ended : Bool) (s : S) (p : ℕ) (h : List ℕ) (b m : ℕ) (x : Front S) → front s h ≡ x → (r : Reading S) → unread_of r ≡ length h → ((k : ℕ) → Reaches k r → p + length h ≤ k)
      → IsTurned ended r (turn_at most ended x (reading (At s) p h 0 b m))
  front_turned true s p h b m Nothing e r size reach = (omega (arith, size), (λ k old. omega (arith, reach k old)), tt, λ t. refl)
  front_turned false s p h b m Nothing e r size reach = (omega (arith, size), (λ k old. omega (arith, reach k old)), tt, λ t. absurd (cc))
  front_turned true s p h b m (Short f) e r size reach = (omega (arith, size), (λ k old. omega (arith, reach k old)), tt, λ t. absurd (cc))
  front_turned false s p h b m (Short f) e r size reach = (omega (arith, size), (λ k old. omega (arith, reach k old)), tt, λ t. absurd (cc))
  front_turned ended s p h b m (Bad f) e r size reach = (omega (arith, size), (λ k old. omega (arith, reach k old)), tt, λ t. absurd (cc))
  front_turned ended s p h b m (Over n u) e r size reach = (omega (arith, size), λ k old. omega (arith, reach k old))
  front_turned ended s p h b m (Holds x n u) e r size reach =
      let some = ok.holds_some s h x n u e in
      let fits = ok.there s h x n u e in
      (omega (arith, size, some, fits), (λ k old. omega (arith, reach k old)), fits, λ t. absurd (cc))

  last_turned : (ended : Bool) (f : FormatFault) (x r : Reading S) → unread_of x ≤ unread_of r → ((k : ℕ) → Reaches k r → Reaches k x) → IsTurned ended r (at_last most ended f x)
  last_turned true f x r less reach = (omega (arith, less), reach, tt, λ t. absurd (cc))
  last_turned false f x r less reach = (omega (arith, less), reach, tt, λ t. absurd (cc))

  turn_turned : (ended : Bool) (s : Stage S) (p : ℕ) (h : List ℕ) (o b m : ℕ) → IsTurned ended (reading s p h o b m) (turn most front ended (reading s p h o b m))
  turn_turned ended (Failed f) p h o b m = (omega arith, (λ k old. old), tt, λ t. absurd (cc))
  turn_turned ended (At s) p h o b m = by_owing (nat_lt 0 (o - length h)) refl
    where
      g : Reading S
      g = gone (reading (At s) p h o b m)

      r : Reading S
      r = reading (At s) p h o b m

      by_none : (k : ℕ) → o - length h ≡ k → k ≡ 0 → IsTurned ended r (turn_at most ended (front s (drop o h)) (reading (At s) p (drop o h) k b m))
      by_none zero e none =
          front_turned ended s p (drop o h) b m (front s (drop o h)) refl r (omega (arith, length-drop o h)) (λ k old. omega (arith, old, e, length-drop o h))
      by_none (suc k) e none = absurd (omega (arith, none))

      by_owing : (t : Bool) → nat_lt 0 (o - length h) ≡ t → IsTurned ended r (cond t (at_last most ended (fault Cut b) g) (turn_at most ended (front s g.held) g))
      by_owing true t = let some = ltb-true 0 (o - length h) t in last_turned ended (fault Cut b) g r (omega (arith, length-drop o h)) (λ k old. omega (arith, old, some, length-drop o h))
      by_owing false t = let none = ltb-false 0 (o - length h) t in by_none (o - length h) refl (omega (arith, none))

  abbrev pub IsLeft : Bool → Reading S → Step S → Type 0
  IsLeft ended r step = (unread_of step.left + taken_by step.answer ≤ unread_of r) × ((k : ℕ) → Reaches k r → Reaches k step.left) × IsHeld step.answer step.left × (step.answer ≡ End → ended ≡ true)

  settled_left : (ended : Bool) (r : Reading S) (t : Turn S) (rest : Reading S → Step S) → IsTurned ended r t → ((x : Reading S) → t ≡ GoesOn x → IsLeft ended x (rest x)) → IsLeft ended r (settled t rest)
  settled_left ended r (Answers a x) rest now later = now
  settled_left ended r (GoesOn x) rest now later =
      let on = later x refl in
      (omega (arith, now.0, on.0), (λ k old. on.1 k (now.1 k old)), on.2, on.3)

  left_within : (n : ℕ) (ended : Bool) (r : Reading S) → IsLeft ended r (asked_within most front n ended r)
  unfolding asked_within
  left_within zero ended r = (omega arith, (λ k old. old), tt, λ t. absurd (cc))
  left_within (suc n) ended r =
      settled_left ended r (turn most front ended r) (asked_within most front n ended) (turn_turned ended r.stage r.place r.held r.owing r.begun r.room) (λ x e. left_within n ended x)

  pub asked_left : (ended : Bool) (r : Reading S) → IsLeft ended r (asked most front ended r)
  unfolding asked
  asked_left ended r = left_within (suc (suc (length r.held))) ended r

  -- ---- the law
  open_ends : (calls : List Call) (f : Feeding S) (more : List ℕ) → All IsOpen calls → EndAtEnd most front more calls f
  unfolding EndAtEnd
  open_ends [] f more still = tt
  open_ends (Feed n ∷ cs) f more still = (tt, open_ends cs (after_call most front (Feed n) f) more (All-tail IsOpen (Feed n) cs still))
  open_ends (Ask ended ∷ cs) f more still =
      ((λ e. absurd (false≢true (sym (All-head IsOpen (Ask ended) cs still) ∙ e))), open_ends cs (after_call most front (Ask ended) f) more (All-tail IsOpen (Ask ended) cs still))

  pub next_is_first : (s : S) (file : List ℕ) (calls : List Call) (more : List ℕ) → All IsOpen calls → (after_calls most front calls (begun most s file)).rest ≡ []
      → first_answers front s (length (answers most front calls (begun most s file)) + 1) (file ++ more)
      ≡ answers most front calls (begun most s file) ++ in_turn 1 (to_come front (after_calls most front calls (begun most s file)).reader more).records (to_come front (after_calls most front calls (begun most s file)).reader more).fault
  next_is_first s file calls more still none =
      let end : Feeding S = after_calls most front calls (begun most s file) in
      let given : List Answer = answers most front calls (begun most s file) in
      let all = all_read most front ok calls (begun most s file) more (open_ends calls (begun most s file) more still) 1 in
      let start : to_come front (unread most s) (file ++ more) ≡ reading_from front s 0 (file ++ more) = over_there most front ok s 0 0 0 (file ++ more) (omega arith) in
      ap (λ (c : Capture). in_turn (length given + 1) c.records c.fault) (sym start) ∙ all
      ∙ ap (λ xs. given ++ in_turn 1 (to_come front end.reader (xs ++ more)).records (to_come front end.reader (xs ++ more)).fault) none

  pub more_is_open : (s : S) → MoreIsOpen most front s
  more_is_open s file calls still none = (opened, settle (asked most front false r).answer refl)
    where
      given : List Answer
      given = answers most front calls (begun most s file)

      r : Reading S
      r = (after_calls most front calls (begun most s file)).reader

      opened : (asked most front false r).answer ≡ More → (a : Answer) → IsRecordOrFault a → Stands front s file given a → ⊥
      opened is a told stands =
          (asked_unsettled r is).answer a told (λ more bytes. append_cancel_left given _ _ (sym (next_is_first s file calls more still none) ∙ stands more bytes))

      first_answer : (a : Answer) (p : ℕ) (left coming : Capture) → IsRecordOrFault a → IsFirst a p left coming → in_turn 1 coming.records coming.fault ≡ a ∷ []
      first_answer (Found x) p left coming told e = ap (λ (c : Capture). in_turn 1 c.records c.fault) e ∙ first_record x left.records left.fault
      first_answer (Faulty f) p left coming told e = ap (λ (c : Capture). in_turn 1 c.records c.fault) e.0 ∙ first_fault f
      first_answer More p left coming told e = absurd told
      first_answer End p left coming told e = absurd told

      stands_so : (a : Answer) → a ≡ (asked most front false r).answer → IsRecordOrFault a → Stands front s file given a
      stands_so a is told more bytes =
          let step : Step S = asked most front false r in
          next_is_first s file calls more still none
          ∙ ap (λ xs. given ++ xs)
          (first_answer a step.left.begun (to_come front step.left more) (to_come front r more) told
          (subst (λ (x : Answer). IsFirst x step.left.begun (to_come front step.left more) (to_come front r more)) (sym is) (asked_reads most front ok false r more (λ e. absurd (false≢true e)))))

      settle : (a : Answer) → a ≡ (asked most front false r).answer → ((b : Answer) → IsRecordOrFault b → Stands front s file given b → ⊥) → (asked most front false r).answer ≡ More
      settle (Found x) is never = absurd (never (Found x) tt (stands_so (Found x) is tt))
      settle (Faulty f) is never = absurd (never (Faulty f) tt (stands_so (Faulty f) is tt))
      settle More is never = sym is
      settle End is never = absurd (false≢true ((asked_left false r).3 (sym is)))

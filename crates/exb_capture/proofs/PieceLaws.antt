-- However a file is cut into pieces, what is answered is what is read of the whole: over any format.
use Rattle.std.proofs.Common.{◌≡◌, ◌<◌, ◌≤◌, ◌+◌, ◌-◌, ℕ, zero, suc, map, Ok, Err, Bool, true, false, List, [], ◌∷◌, ◌++◌, length, take, drop, Option, Some, None, refl, ap, sym, subst, inl, inr, cond, ◌∙◌, arith, length-append, length-drop, length-take, append_assoc}
use Rattle.std.specs.Prelude.{nat_lt, ◌⊎◌}
use Rattle.std.proofs.lemmas.Bool.{ltb-true, ltb-false, cases_lt}
use Rattle.std.proofs.lemmas.List.{append-nil, take-append-drop, take-take}
use Rattle.exb_model.specs.Input.{Record}
use Rattle.exb_capture.specs.declared.fault.FormatFault.{FormatFault}
use Rattle.exb_capture.specs.declared.fault.Flaw.TheVariants.{Cut}
use Rattle.exb_capture.specs.Formats.{Front, Nothing, Short, Bad, Over, Holds, Capture, before, fault, reading_from, whole}
use Rattle.exb_capture.specs.ReaderMachine.{IsFormat, Stage, At, Failed, Reading, Answer, Found, More, End, Faulty, Step, Turn, Answers, GoesOn, unread, fitting, gone, over, at_last, turn_at, turn, settled, asked_within, asked, to_come, IsFirst}
use Rattle.exb_capture.specs.PieceFeeds.{Call, Feed, Ask, Feeding, begun, after_call, after_calls, but_more, answered, answers, MayBeCalled, in_turn, first_answers}
use Rattle.exb_capture.proofs.FrontLemmas.{over_there}
use Rattle.exb_capture.proofs.TurnLemmas.{reading, asked_reads}

-- these answers were given of the whole, and that is left behind them
abbrev pub IsRead : List Answer → Capture → Capture → Type 0
IsRead given left whole = (n : ℕ) → in_turn (length given + n) whole.records whole.fault ≡ given ++ in_turn n left.records left.fault

at_turn : (n m : ℕ) (c : Capture) → n ≡ m → in_turn n c.records c.fault ≡ in_turn m c.records c.fault
at_turn n m c e = ap (λ k. in_turn k c.records c.fault) e

next_turn : (n : ℕ) → 1 + n ≡ suc n
next_turn n = omega arith

found_turn : (n : ℕ) (x : Record) (p : ℕ) (left : Capture) → in_turn (suc n) (before x p left).records (before x p left).fault ≡ Found x ∷ in_turn n left.records left.fault
unfolding in_turn
found_turn n x p left = refl

end_turn : (n : ℕ) → in_turn (suc n) [] None ≡ End ∷ in_turn n [] None
unfolding in_turn
end_turn n = refl

fault_turn : (n : ℕ) (f : FormatFault) → in_turn (suc n) [] (Some f) ≡ Faulty f ∷ in_turn n [] (Some f)
unfolding in_turn
fault_turn n f = refl

zero_turn : (records : List Record) (f : Option FormatFault) → in_turn 0 records f ≡ []
unfolding in_turn
zero_turn records f = refl

no_turn : (n : ℕ) → 0 + n ≡ n
no_turn n = omega arith

first_read : (a : Answer) (p : ℕ) (left coming : Capture) → IsFirst a p left coming → IsRead (but_more a) left coming
first_read (Found x) p left coming e n = at_turn (1 + n) (suc n) coming (next_turn n) ∙ ap (λ (c : Capture). in_turn (suc n) c.records c.fault) e ∙ found_turn n x p left
first_read More p left coming e n = at_turn (0 + n) n coming (no_turn n) ∙ ap (λ (c : Capture). in_turn n c.records c.fault) e
first_read End p left coming e n =
    at_turn (1 + n) (suc n) coming (next_turn n) ∙ ap (λ (c : Capture). in_turn (suc n) c.records c.fault) e.0 ∙ end_turn n
    ∙ ap (λ (c : Capture). End ∷ in_turn n c.records c.fault) (sym e.1)
first_read (Faulty f) p left coming e n =
    at_turn (1 + n) (suc n) coming (next_turn n) ∙ ap (λ (c : Capture). in_turn (suc n) c.records c.fault) e.0 ∙ fault_turn n f
    ∙ ap (λ (c : Capture). Faulty f ∷ in_turn n c.records c.fault) (sym e.1)

none_read : (c : Capture) → IsRead [] c c
none_read c n = at_turn (0 + n) n c (no_turn n)

both_read : (given later : List Answer) (left middle whole : Capture) → IsRead given middle whole → IsRead later left middle → IsRead (given ++ later) left whole
both_read given later left middle whole p q n =
    let count : length (given ++ later) + n ≡ length given + (length later + n) = omega (arith, length-append given later) in
    at_turn _ _ whole count ∙ p (length later + n) ∙ ap (λ xs. given ++ xs) (q n) ∙ sym (append_assoc given later (in_turn n left.records left.fault))

-- answers that end with End, or with a fault, are all of the records and that
turned_end : (n : ℕ) (rs : List Record) (f : Option FormatFault) (xs : List Record) (again : List Answer) → in_turn n rs f ≡ map Found xs ++ End ∷ again → (rs ≡ xs) × (f ≡ None)
unfolding in_turn
turned_end zero rs f [] again e = absurd (cc)
turned_end zero rs f (x ∷ xs) again e = absurd (cc)
turned_end (suc n) (r ∷ rs) f [] again e = absurd (cc)
turned_end (suc n) (r ∷ rs) f (x ∷ xs) again e =
    let rest : in_turn n rs f ≡ map Found xs ++ End ∷ again = cc in
    let same : r ≡ x = cc in
    let later = turned_end n rs f xs again rest in
    ((λ i. same i ∷ later.0 i), later.1)
turned_end (suc n) [] None [] again e = (refl, refl)
turned_end (suc n) [] None (x ∷ xs) again e = absurd (cc)
turned_end (suc n) [] (Some f) [] again e = absurd (cc)
turned_end (suc n) [] (Some f) (x ∷ xs) again e = absurd (cc)

turned_fault : (n : ℕ) (rs : List Record) (f : Option FormatFault) (xs : List Record) (last : FormatFault) (again : List Answer) → in_turn n rs f ≡ map Found xs ++ Faulty last ∷ again → f ≡ Some last
unfolding in_turn
turned_fault zero rs f [] last again e = absurd (cc)
turned_fault zero rs f (x ∷ xs) last again e = absurd (cc)
turned_fault (suc n) (r ∷ rs) f [] last again e = absurd (cc)
turned_fault (suc n) (r ∷ rs) f (x ∷ xs) last again e =
    let rest : in_turn n rs f ≡ map Found xs ++ Faulty last ∷ again = cc in
    turned_fault n rs f xs last again rest
turned_fault (suc n) [] None [] last again e = absurd (cc)
turned_fault (suc n) [] None (x ∷ xs) last again e = absurd (cc)
turned_fault (suc n) [] (Some f) [] last again e = let same : f ≡ last = cc in ap Some same
turned_fault (suc n) [] (Some f) (x ∷ xs) last again e = absurd (cc)

read_whole : (rs : List Record) (ps : List ℕ) (f : Option FormatFault) (xs : List Record) → rs ≡ xs → f ≡ None → whole (record { records = rs; places = ps; fault = f }) ≡ Ok xs
read_whole rs ps None xs p q = ap Ok p
read_whole rs ps (Some f) xs p q = absurd (cc)

read_fault : (rs : List Record) (ps : List ℕ) (f : Option FormatFault) (last : FormatFault) → f ≡ Some last → whole (record { records = rs; places = ps; fault = f }) ≡ Err last
read_fault rs ps None last q = absurd (cc)
read_fault rs ps (Some f) last q = let same : f ≡ last = cc in ap Err same

pub same_coming : {S : Type 0} (front : S → List ℕ → Front S) (s : Stage S) (p : ℕ) (h k more rest : List ℕ) (o b m n : ℕ) → h ++ more ≡ k ++ rest
    → to_come front (reading s p h o b m) more ≡ to_come front (reading s p k o b n) rest
same_coming front (At s) p h k more rest o b m n e = ap (λ xs. cond (nat_lt (length xs) o) (record { records = []; places = []; fault = Some (fault Cut b) }) (reading_from front s p (drop o xs))) e
same_coming front (Failed f) p h k more rest o b m n e = refl

feed_keeps : {S : Type 0} (most : ℕ) (front : S → List ℕ → Front S) (n : ℕ) (f : Feeding S) (more : List ℕ)
    → to_come front (after_call most front (Feed n) f).reader ((after_call most front (Feed n) f).rest ++ more) ≡ to_come front f.reader (f.rest ++ more)
feed_keeps most front n f more =
    let piece : List ℕ = take n f.rest in
    let k : ℕ = fitting piece f.reader in
    let few : k ≤ n = omega (arith, length-take n f.rest) in
    same_coming front f.reader.stage f.reader.place _ _ _ _ _ _ _ _
    (append_assoc f.reader.held (take k piece) (drop k f.rest ++ more)
    ∙ ap (λ xs. f.reader.held ++ xs)
    (ap (λ xs. xs ++ (drop k f.rest ++ more)) (take-take k n f.rest few)
    ∙ sym (append_assoc (take k f.rest) (drop k f.rest) more)
    ∙ ap (λ xs. xs ++ more) (take-append-drop k f.rest)))

-- at each question that tells the end nothing more follows
abbrev pub EndsAll : {S : Type 0} → List ℕ → Call → Feeding S → Type 0
EndsAll more (Feed n) f = Unit {0}
EndsAll more (Ask ended) f = ended ≡ true → f.rest ++ more ≡ []

unfoldable pub EndAtEnd : {S : Type 0} → ℕ → (S → List ℕ → Front S) → List ℕ → List Call → Feeding S → Type 0
EndAtEnd most front more [] f = Unit {0}
EndAtEnd most front more (c ∷ cs) f = EndsAll more c f × EndAtEnd most front more cs (after_call most front c f)

ends : {S : Type 0} (most : ℕ) (front : S → List ℕ → Front S) (calls : List Call) (f : Feeding S) → MayBeCalled most front calls f → EndAtEnd most front [] calls f
unfolding MayBeCalled EndAtEnd
ends most front [] f may = tt
ends most front (Feed n ∷ cs) f may = (tt, ends most front cs (after_call most front (Feed n) f) may.1)
ends most front (Ask ended ∷ cs) f may = ((λ e. ap (λ xs. xs ++ []) (may.0 e)), ends most front cs (after_call most front (Ask ended) f) may.1)

module _ {S : Type 0} (most : ℕ) (front : S → List ℕ → Front S) (ok : IsFormat most front) where
  call_read : (c : Call) (f : Feeding S) (more : List ℕ) → EndsAll more c f
      → IsRead (answered most front c f) (to_come front (after_call most front c f).reader ((after_call most front c f).rest ++ more)) (to_come front f.reader (f.rest ++ more))
  call_read (Feed n) f more last = first_read More 0 _ _ (sym (feed_keeps most front n f more))
  call_read (Ask ended) f more last =
      first_read (asked most front ended f.reader).answer (asked most front ended f.reader).left.begun _ _
      (asked_reads most front ok ended f.reader (f.rest ++ more) last)

  pub all_read : (calls : List Call) (f : Feeding S) (more : List ℕ) → EndAtEnd most front more calls f
      → IsRead (answers most front calls f) (to_come front (after_calls most front calls f).reader ((after_calls most front calls f).rest ++ more)) (to_come front f.reader (f.rest ++ more))
  unfolding answers after_calls EndAtEnd
  all_read [] f more last = none_read (to_come front f.reader (f.rest ++ more))
  all_read (c ∷ cs) f more last =
      both_read (answered most front c f) (answers most front cs (after_call most front c f))
      (to_come front (after_calls most front cs (after_call most front c f)).reader ((after_calls most front cs (after_call most front c f)).rest ++ more))
      (to_come front (after_call most front c f).reader ((after_call most front c f).rest ++ more))
      (to_come front f.reader (f.rest ++ more))
      (call_read c f more last.0)
      (all_read cs (after_call most front c f) more last.1)

  -- the law of pieces
  pub pieces_read : (s : S) (file : List ℕ) (calls : List Call) → MayBeCalled most front calls (begun most s file)
      → answers most front calls (begun most s file) ≡ first_answers front s (length (answers most front calls (begun most s file))) file
  pieces_read s file calls may =
      let given : List Answer = answers most front calls (begun most s file) in
      let all = all_read calls (begun most s file) [] (ends most front calls (begun most s file) may) 0 in
      let count : length given + 0 ≡ length given = omega arith in
      let start : to_come front (unread most s) (file ++ []) ≡ reading_from front s 0 file = over_there most front ok s 0 0 0 (file ++ []) (omega arith) ∙ ap (reading_from front s 0) (append-nil file) in
      sym (append-nil given) ∙ ap (λ xs. given ++ xs) (sym (zero_turn _ _)) ∙ sym all
      ∙ (λ i. in_turn (count i) (start i).records (start i).fault)

  pub records_read : (s : S) (file : List ℕ) (calls : List Call) → MayBeCalled most front calls (begun most s file)
      → (records : List Record) (again : List Answer)
      → (answers most front calls (begun most s file) ≡ map Found records ++ End ∷ again → whole (reading_from front s 0 file) ≡ Ok records)
      × ((f : FormatFault) → answers most front calls (begun most s file) ≡ map Found records ++ Faulty f ∷ again → whole (reading_from front s 0 file) ≡ Err f)
  records_read s file calls may records again =
      let read : Capture = reading_from front s 0 file in
      let n : ℕ = length (answers most front calls (begun most s file)) in
      let law = pieces_read s file calls may in (
        (λ e. let end = turned_end n read.records read.fault records again (sym law ∙ e) in read_whole read.records read.places read.fault records end.0 end.1),
        λ f e. read_fault read.records read.places read.fault f (turned_fault n read.records read.fault records f again (sym law ∙ e)),
      )

  -- ---- More comes only before the end, and leaves room
  abbrev Roomy : Bool → Turn S → Type 0
  Roomy ended (Answers a r) = a ≡ More → (ended ≡ false) × (0 < r.room)
  Roomy ended (GoesOn r) = Unit {0}

  front_roomy : (ended : Bool) (s : S) (p : ℕ) (h : List ℕ) (o b m : ℕ) (x : Front S) → front s h ≡ x → Roomy ended (turn_at most ended x (reading (At s) p h o b m))
  front_roomy true s p h o b m Nothing e = λ is. absurd (cc)
  front_roomy false s p h o b m Nothing e = λ is. let few = ok.nothing s h e in (refl, omega arith)
  front_roomy true s p h o b m (Short f) e = λ is. absurd (cc)
  front_roomy false s p h o b m (Short f) e = λ is. let few = ok.short s h f e in (refl, omega arith)
  front_roomy ended s p h o b m (Bad f) e = λ is. absurd (cc)
  front_roomy ended s p h o b m (Over n t) e = tt
  front_roomy ended s p h o b m (Holds x n t) e = λ is. absurd (cc)

  owing_roomy : (ended : Bool) (f : FormatFault) (r : Reading S) → length r.held < most → Roomy ended (at_last most ended f r)
  owing_roomy true f r few = λ is. absurd (cc)
  owing_roomy false f r few = λ is. (refl, omega arith)

  -- what is owed and held, by which the turns that are left are counted
  abbrev pub Enough : ℕ → ℕ → List ℕ → Type 0
  Enough n o h = (length (drop o h) + 2 ≤ n) ⊎ ((length h < o) × (0 < n))

  -- a turn that goes on leaves one fewer
  pub turn_counts_at : (n : ℕ) (ended : Bool) (s : Stage S) (p : ℕ) (h : List ℕ) (o b m : ℕ) (r : Reading S) → Enough (suc n) o h → turn most front ended (reading s p h o b m) ≡ GoesOn r → Enough n r.owing r.held
  turn_counts_at n ended (At s) p h o b m r enough e = by_owing (nat_lt 0 (o - length h)) refl e
    where
      g : Reading S
      g = gone (reading (At s) p h o b m)

      last_stops : (k : Bool) (f : FormatFault) (x : Reading S) → at_last most k f x ≡ GoesOn r → Enough n r.owing r.held
      last_stops true f x is = absurd (cc)
      last_stops false f x is = absurd (cc)

      by_front : (k : Bool) (x : Front S) → front s g.held ≡ x → o ≤ length h → turn_at most k x g ≡ GoesOn r → Enough n r.owing r.held
      by_front true Nothing is fits then = absurd (cc)
      by_front false Nothing is fits then = absurd (cc)
      by_front true (Short f) is fits then = absurd (cc)
      by_front false (Short f) is fits then = absurd (cc)
      by_front k (Bad f) is fits then = absurd (cc)
      by_front k (Holds x i t) is fits then = absurd (cc)
      by_front k (Over i t) is fits then =
          let same : over i t g ≡ r = cc in
          subst (λ (y : Reading S). Enough n y.owing y.held) same (by_size (cases_lt (length g.held) i) enough)
        where
          by_size : (length g.held < i) ⊎ (i ≤ length g.held) → Enough (suc n) o h → Enough n i g.held
          by_size (inl more) (inl few) = inr (more, omega (arith, few))
          by_size (inl more) (inr long) = absurd (omega (arith, long.0))
          by_size (inr all) (inl few) = let some = ok.over_some s g.held i t is in inl (omega (arith, few, some, length-drop i g.held))
          by_size (inr all) (inr long) = absurd (omega (arith, long.0))

      by_owing : (t : Bool) → nat_lt 0 (o - length h) ≡ t → cond t (at_last most ended (fault Cut b) g) (turn_at most ended (front s g.held) g) ≡ GoesOn r → Enough n r.owing r.held
      by_owing true is then = last_stops ended (fault Cut b) g then
      by_owing false is then = let none = ltb-false 0 (o - length h) is in by_front ended (front s g.held) refl (omega arith) then
  turn_counts_at n ended (Failed f) p h o b m r enough e = absurd (cc)

  turn_roomy_at : (ended : Bool) (s : Stage S) (p : ℕ) (h : List ℕ) (o b m : ℕ) → 0 < most → Roomy ended (turn most front ended (reading s p h o b m))
  turn_roomy_at ended (At s) p h o b m some = by_owing (nat_lt 0 (o - length h)) refl
    where
      g : Reading S
      g = gone (reading (At s) p h o b m)

      by_owing : (t : Bool) → nat_lt 0 (o - length h) ≡ t → Roomy ended (cond t (at_last most ended (fault Cut b) g) (turn_at most ended (front s g.held) g))
      by_owing true is = let long = ltb-true 0 (o - length h) is in owing_roomy ended (fault Cut b) g (omega (arith, length-drop o h))
      by_owing false is = front_roomy ended s p (drop o h) (o - length h) b m (front s g.held) refl
  turn_roomy_at ended (Failed f) p h o b m some = λ is. absurd (cc)

  settled_roomy : (ended : Bool) (t : Turn S) (rest : Reading S → Step S) → Roomy ended t
      → ((r : Reading S) → t ≡ GoesOn r → (rest r).answer ≡ More → (ended ≡ false) × (0 < (rest r).left.room))
      → (settled t rest).answer ≡ More → (ended ≡ false) × (0 < (settled t rest).left.room)
  settled_roomy ended (Answers a r) rest room later is = room is
  settled_roomy ended (GoesOn r) rest room later is = later r refl is

  asked_roomy_within : (n : ℕ) (ended : Bool) (r : Reading S) → 0 < most → Enough n r.owing r.held → (asked_within most front n ended r).answer ≡ More
      → (ended ≡ false) × (0 < (asked_within most front n ended r).left.room)
  unfolding asked_within
  asked_roomy_within zero ended r some (inl few) is = absurd (omega (arith, few))
  asked_roomy_within zero ended r some (inr long) is = absurd (omega (arith, long.1))
  asked_roomy_within (suc n) ended r some enough is =
      settled_roomy ended (turn most front ended r) (asked_within most front n ended)
      (turn_roomy_at ended r.stage r.place r.held r.owing r.begun r.room some)
      (λ x e. asked_roomy_within n ended x some (turn_counts_at n ended r.stage r.place r.held r.owing r.begun r.room x enough e)) is

  pub asked_roomy : (ended : Bool) (r : Reading S) → 0 < most → (asked most front ended r).answer ≡ More → (ended ≡ false) × (0 < (asked most front ended r).left.room)
  unfolding asked
  asked_roomy ended r some is = asked_roomy_within (suc (suc (length r.held))) ended r some (inl (omega (arith, length-drop r.owing r.held))) is

  -- ---- what is asked, turn by turn
  settled_same : (t : Turn S) (f g : Reading S → Step S) → ((r : Reading S) → t ≡ GoesOn r → f r ≡ g r) → settled t f ≡ settled t g
  settled_same (Answers a r) f g h = refl
  settled_same (GoesOn r) f g h = h r refl

  asked_enough : (n m : ℕ) (ended : Bool) (r : Reading S) → Enough n r.owing r.held → Enough m r.owing r.held → asked_within most front n ended r ≡ asked_within most front m ended r
  unfolding asked_within
  asked_enough zero m ended r (inl few) k = absurd (omega (arith, few))
  asked_enough zero m ended r (inr long) k = absurd (omega (arith, long.1))
  asked_enough (suc n) zero ended r h (inl few) = absurd (omega (arith, few))
  asked_enough (suc n) zero ended r h (inr long) = absurd (omega (arith, long.1))
  asked_enough (suc n) (suc m) ended r h k =
      settled_same (turn most front ended r) (asked_within most front n ended) (asked_within most front m ended)
      (λ x e. asked_enough n m ended x
      (turn_counts_at n ended r.stage r.place r.held r.owing r.begun r.room x h e)
      (turn_counts_at m ended r.stage r.place r.held r.owing r.begun r.room x k e))

  asked_turn : (ended : Bool) (r : Reading S) → asked most front ended r ≡ settled (turn most front ended r) (asked most front ended)
  unfolding asked asked_within
  asked_turn ended r =
      settled_same (turn most front ended r) (asked_within most front (suc (length r.held)) ended) (λ x. asked_within most front (suc (suc (length x.held))) ended x)
      (λ x e. asked_enough (suc (length r.held)) (suc (suc (length x.held))) ended x
      (turn_counts_at (suc (length r.held)) ended r.stage r.place r.held r.owing r.begun r.room x (inl (omega (arith, length-drop r.owing r.held))) e)
      (inl (omega (arith, length-drop x.owing x.held))))

  pub asked_goes : (ended : Bool) (r x : Reading S) → GoesOn x ≡ turn most front ended r → asked most front ended x ≡ asked most front ended r
  asked_goes ended r x e = ap (λ t. settled t (asked most front ended)) e ∙ sym (asked_turn ended r)

  pub asked_answers : (ended : Bool) (r x : Reading S) (a : Answer) → Answers a x ≡ turn most front ended r → record { answer = a; left = x } ≡ asked most front ended r
  asked_answers ended r x a e = ap (λ t. settled t (asked most front ended)) e ∙ sym (asked_turn ended r)

  -- each turn that goes on leaves less
  pub turn_less : (ended : Bool) (r x : Reading S) → GoesOn x ≡ turn most front ended r → (length x.held + 1) - x.owing < (length r.held + 1) - r.owing
  turn_less ended r x e = by_long (cases_lt (length r.held) r.owing)
    where
      less : (n : ℕ) → Enough n x.owing x.held → 0 < n → (length x.held + 1) - x.owing < n
      less n (inl few) some = omega (arith, few, length-drop x.owing x.held)
      less n (inr long) some = omega (arith, long.0, long.1)

      never : Enough 0 x.owing x.held → ⊥
      never (inl few) = omega (arith, few)
      never (inr long) = omega (arith, long.1)

      by_long : (length r.held < r.owing) ⊎ (r.owing ≤ length r.held) → (length x.held + 1) - x.owing < (length r.held + 1) - r.owing
      by_long (inl long) = absurd (never (turn_counts_at 0 ended r.stage r.place r.held r.owing r.begun r.room x (inr (long, omega arith)) (sym e)))
      by_long (inr fits) = less ((length r.held + 1) - r.owing)
          (turn_counts_at ((length r.held + 1) - r.owing) ended r.stage r.place r.held r.owing r.begun r.room x (inl (omega (arith, length-drop r.owing r.held))) (sym e)) (omega arith)

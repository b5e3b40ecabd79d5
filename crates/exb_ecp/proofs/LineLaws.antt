-- Stop and wait keeps order: what stands on the way to the receiver rises, and begins at what was received last.
use Rattle.std.proofs.Common.{◌≡◌, ◌⊎◌, inl, inr, ⊎_elim, ℕ, zero, suc, ◌+◌, ◌-◌, ◌==◌, ◌||◌, ◌≤◌, ◌<◌, Bool, true, false, cond, List, [], ◌∷◌, ◌++◌, length, Option, Some, None, refl, ap, sym, ◌∙◌, subst, arith}
use Rattle.std.specs.Prelude.{⊤, IfSome, is_some, not}
use Rattle.std.proofs.lemmas.Bool.{eqb-true, eqb-false, cases_Bool, cases_eq}
use Rattle.std.proofs.lemmas.List.{append-nil, length-append, nil_from_length}
use Rattle.exb_ecp.specs.Calls.{Call}
use Rattle.exb_ecp.specs.Calls as calls
use Rattle.exb_ecp.specs.StopAndWait.{Sending, State, after, heard, unless_sequence, is_last, aged, beat_at, beat_of, is_due}
use Rattle.exb_ecp.specs.Line.{Item, Request, Line, Step, Submit, Stop, Beat, Receive, LoseRequest, Hear, LoseAcknowledgement, OtherRequest, OtherCall, sending_call, without, left_over, sent, sent_again, gives_up, submits, stops, receives, hears, stepped, new_line, run, IsSubsequence, FallsBelow, InOrder}
use Rattle.exb_ecp.specs.declared.stop_and_wait.Beat.TheVariants as due
use Rattle.exb_ecp.proofs.Sequences.{after_differs}

-- the sequence of the item with this number
abbrev sequence_at : ℕ → ℕ
sequence_at zero = 1
sequence_at (suc n) = after (sequence_at n)

-- ---- what was submitted

abbrev IsAmong : Item → List Item → Type 0
IsAmong i [] = ⊥
IsAmong i (x ∷ xs) = (i ≡ x) ⊎ IsAmong i xs

abbrev IsNumbered : List Item → Type 0
IsNumbered [] = ⊤
IsNumbered (i ∷ is) = (i.number ≡ length is) × IsNumbered is

number_low : (i : Item) (xs : List Item) → IsNumbered xs → IsAmong i xs → i.number < length xs
number_low i [] n h = absurd h
number_low i (x ∷ xs) n h =
    ⊎_elim
    (λ (e : i ≡ x). let q : i.number ≡ length xs = ap (λ y. y.number) e ∙ n.0 in omega arith)
    (λ (m : IsAmong i xs). let q : i.number < length xs = number_low i xs n.1 m in omega arith)
    h

-- ---- requests on their way

record IsSent (base : ℕ) (items : List Item) (r : Request) : Type 0 where
  low : base ≤ r.item.number
  sequence : r.sequence ≡ sequence_at r.item.number
  among : IsAmong r.item items

-- submitted items with their sequences, from base on, none before an earlier one
abbrev Rises : ℕ → List Item → List Request → Type 0
Rises base items [] = ⊤
Rises base items (r ∷ rs) = IsSent base items r × Rises r.item.number items rs

rises_lower : (a b : ℕ) (items : List Item) (rs : List Request) → a ≤ b → Rises b items rs → Rises a items rs
rises_lower a b items [] l h = tt
rises_lower a b items (r ∷ rs) l h = (record { low = (let x : b ≤ r.item.number = h.0.low in omega arith); sequence = h.0.sequence; among = h.0.among }, h.1)

rises_more : (base : ℕ) (i : Item) (items : List Item) (rs : List Request) → Rises base items rs → Rises base (i ∷ items) rs
rises_more base i items [] h = tt
rises_more base i items (r ∷ rs) h = (record { low = h.0.low; sequence = h.0.sequence; among = inr h.0.among }, rises_more r.item.number i items rs h.1)

rises_push : (base : ℕ) (items : List Item) (r : Request) (rs : List Request) → IsNumbered items → length items ≤ r.item.number + 1 → IsSent base items r
    → Rises base items rs → Rises base items (rs ++ r ∷ [])
rises_push base items r [] n top last h = (last, tt)
rises_push base items r (x ∷ xs) n top last h =
    let low : x.item.number < length items = number_low x.item items n h.0.among in
    (h.0, rises_push x.item.number items r xs n top (record { low = omega arith; sequence = last.sequence; among = last.among }) h.1)

rises_left : (keep : Bool) (base : ℕ) (items : List Item) (r : Request) (rs : List Request) → Rises base items (r ∷ rs) → Rises r.item.number items (left_over keep r rs)
rises_left true base items r rs h = (record { low = omega arith; sequence = h.0.sequence; among = h.0.among }, h.1)
rises_left false base items r rs h = h.1

rises_without : (place base : ℕ) (items : List Item) (rs : List Request) → Rises base items rs → Rises base items (without place rs)
rises_without place base items [] h = tt
rises_without zero base items (r ∷ rs) h = rises_lower base r.item.number items rs h.0.low h.1
rises_without (suc place) base items (r ∷ rs) h = (h.0, rises_without place r.item.number items rs h.1)

-- ---- acknowledgements on their way

-- of items from base on and below top, none before an earlier one
abbrev Acks : ℕ → ℕ → List ℕ → Type 0
Acks base top [] = ⊤
Acks base top (a ∷ rest) = (n : ℕ) × (base ≤ n) × (n < top) × (a ≡ sequence_at n) × Acks n top rest

acks_lower : (a b top : ℕ) (xs : List ℕ) → a ≤ b → Acks b top xs → Acks a top xs
acks_lower a b top [] l h = tt
acks_lower a b top (x ∷ xs) l h = (h.0, (let y : b ≤ h.0 = h.1 in omega arith), h.2, h.3, h.4)

acks_push : (base top n k : ℕ) (xs : List ℕ) → base ≤ n → top ≤ n + 1 → n < k → Acks base top xs → Acks base k (xs ++ sequence_at n ∷ [])
acks_push base top n k [] low le lt h = (n, low, lt, refl, tt)
acks_push base top n k (x ∷ xs) low le lt h =
    let y : h.0 < top = h.2 in
    (h.0, h.1, omega arith, h.3, acks_push h.0 top n k xs (omega arith) le lt h.4)

acks_left : (keep : Bool) (n top a : ℕ) (xs : List ℕ) → n < top → a ≡ sequence_at n → Acks n top xs → Acks n top (left_over keep a xs)
acks_left true n top a xs lt e h = (n, omega arith, lt, e, h)
acks_left false n top a xs lt e h = h

acks_without : (place base top : ℕ) (xs : List ℕ) → Acks base top xs → Acks base top (without place xs)
acks_without place base top [] h = tt
acks_without zero base top (x ∷ xs) h = acks_lower base h.0 top xs h.1 h.4
acks_without (suc place) base top (x ∷ xs) h = (h.0, h.1, h.2, h.3, acks_without place h.0 top xs h.4)

-- ---- what was handed up

-- submitted items below top, the newest first
abbrev AreHanded : ℕ → List Item → List Item → Type 0
AreHanded top items [] = ⊤
AreHanded top items (i ∷ is) = (i.number < top) × IsAmong i items × AreHanded i.number items is

handed_higher : (a b : ℕ) (items is : List Item) → a ≤ b → AreHanded a items is → AreHanded b items is
handed_higher a b items [] l h = tt
handed_higher a b items (i ∷ is) l h = ((let x : i.number < a = h.0 in omega arith), h.1, h.2)

handed_more : (top : ℕ) (x : Item) (items is : List Item) → AreHanded top items is → AreHanded top (x ∷ items) is
handed_more top x items [] h = tt
handed_more top x items (i ∷ is) h = (h.0, inr h.1, handed_more i.number x items is h.2)

-- all items but the last ones, up to this number
record IsFront (top : ℕ) (items is : List Item) : Type 0 where
  rest : List Item
  parts : items ≡ rest ++ is
  count : length is ≡ top

-- the item after a front is the last of the rest
front_next : (rest is : List Item) (i : Item) → IsNumbered (rest ++ is) → IsAmong i (rest ++ is) → i.number ≡ length is → (shorter : List Item) × (rest ++ is ≡ shorter ++ i ∷ is)
front_next [] is i n m e = let x : i.number < length is = number_low i is n m in absurd (omega arith)
front_next (x ∷ rest) is i n m e =
    ⊎_elim
    (λ (same : i ≡ x).
    let q : i.number ≡ length (rest ++ is) = ap (λ y. y.number) same ∙ n.0 in
    let none : rest ≡ [] = nil_from_length rest (omega (arith, length-append rest is)) in
    ([], ap (λ y. y ∷ rest ++ is) (sym same) ∙ ap (λ ys. i ∷ ys ++ is) none))
    (λ (later : IsAmong i (rest ++ is)).
    let f : (shorter : List Item) × (rest ++ is ≡ shorter ++ i ∷ is) = front_next rest is i n.1 later e in
    (x ∷ f.0, ap (λ ys. x ∷ ys) f.1))
    m

front_more : (top : ℕ) (items is : List Item) (i : Item) → IsNumbered items → IsAmong i items → i.number ≡ top → IsFront top items is → IsFront (top + 1) items (i ∷ is)
front_more top items is i n m e f =
    let g : (shorter : List Item) × (f.rest ++ is ≡ shorter ++ i ∷ is) = front_next f.rest is i (subst IsNumbered f.parts n) (subst (IsAmong i) f.parts m) (e ∙ sym f.count) in
    record { rest = g.0; parts = f.parts ∙ g.1; count = (let c : length is ≡ top = f.count in omega arith) }

-- ---- the sender

record IsLatest (count : ℕ) (items : List Item) (x : Sending) : Type 0 where
  some : 0 < count
  sequence : x.sequence ≡ sequence_at (count - 1)
  among : IsAmong (record { number = count - 1; payload = x.payload }) items

record Sends (items : List Item) (s : State) : Type 0 where
  next : s.next ≡ sequence_at (length items)
  sending : IfSome s.sending (IsLatest (length items) items)

-- ---- the receiver: top is one more than the number of what was received last

abbrev Got : ℕ → Option ℕ → Type 0
Got top got = ((top ≡ 0) × (got ≡ None)) ⊎ ((p : ℕ) × (top ≡ p + 1) × (got ≡ Some (sequence_at p)))

last-true : (o : Option ℕ) (s : ℕ) → is_last o s ≡ true → o ≡ Some s
last-true None s e = absurd cc
last-true (Some g) s e = ap (λ n. Some n) (eqb-true g s e)

last-false : (o : Option ℕ) (s : ℕ) → is_last o s ≡ false → o ≡ Some s → ⊥
last-false None s e h = absurd cc
last-false (Some g) s e h = let q : g ≡ s = cc in eqb-false g s e q

next_differs : (a b : ℕ) → a ≡ b + 1 → sequence_at a ≡ sequence_at b → ⊥
next_differs a b e h = let f : a ≡ suc b = omega arith in after_differs (sequence_at b) (ap sequence_at (sym f) ∙ h)

-- an item with another sequence than the last received one is not that one
is_later : (got : Option ℕ) (top i : ℕ) → Got top got → is_last got (sequence_at i) ≡ false → top ≤ i + 1 → top ≤ i
is_later got top i g e le =
    ⊎_elim
    (λ (h : (top ≡ 0) × (got ≡ None)). let z : top ≡ 0 = h.0 in omega arith)
    (λ (h : (p : ℕ) × (top ≡ p + 1) × (got ≡ Some (sequence_at p))).
    ⊎_elim
    (λ (d : h.0 ≡ i). absurd (last-false got (sequence_at i) e (h.2 ∙ ap (λ v. Some (sequence_at v)) d)))
    (λ (d : h.0 ≡ i → ⊥). let t : top ≡ h.0 + 1 = h.1 in let n : h.0 ≡ i → ⊥ = d in omega arith)
    (cases_eq h.0 i))
    g

-- an item with the last received sequence is that one, where it is at most one beyond
is_again : (got : Option ℕ) (top i : ℕ) → Got top got → is_last got (sequence_at i) ≡ true → top ≤ i + 1 → i ≤ top → i + 1 ≡ top
is_again got top i g e le ge =
    ⊎_elim
    (λ (h : (top ≡ 0) × (got ≡ None)). let q : got ≡ Some (sequence_at i) = last-true got (sequence_at i) e in let z : None ≡ Some (sequence_at i) = sym h.1 ∙ q in absurd cc)
    (λ (h : (p : ℕ) × (top ≡ p + 1) × (got ≡ Some (sequence_at p))).
    ⊎_elim
    (λ (d : i ≡ h.0 + 1).
    let q : Some (sequence_at h.0) ≡ Some (sequence_at i) = sym h.2 ∙ last-true got (sequence_at i) e in
    let s : sequence_at i ≡ sequence_at h.0 = cc in
    absurd (next_differs i h.0 d s))
    (λ (d : i ≡ h.0 + 1 → ⊥). let t : top ≡ h.0 + 1 = h.1 in omega arith)
    (cases_eq i (h.0 + 1)))
    g

-- ---- the line

record Ordered (l : Line) : Type 0 where
  top : ℕ
  base : ℕ
  ack : ℕ
  numbered : IsNumbered l.submitted
  sends : Sends l.submitted l.sender
  got : Got top l.receiver.received
  requests : Rises base l.submitted l.requests
  near : top ≤ base + 1
  low : base ≤ length l.submitted - 1
  few : top ≤ length l.submitted
  handed : AreHanded top l.submitted l.handed
  acks : Acks ack top l.acknowledgements
  ack_low : ack ≤ top - 1
  -- where nothing was stopped or given up
  front : l.dropped ≡ false → IsFront top l.submitted l.handed
  sending : l.dropped ≡ false → is_some l.sender.sending ≡ true → (length l.submitted ≤ top + 1) × (length l.submitted ≤ ack + 2) × (0 < length l.submitted)
  idle : l.dropped ≡ false → is_some l.sender.sending ≡ false → (top ≡ length l.submitted) × (length l.submitted ≤ ack + 1)

begins : Ordered new_line
begins = record {
  top = 0;
  base = 0;
  ack = 0;
  numbered = tt;
  sends = record { next = refl; sending = tt };
  got = inl (refl, refl);
  requests = tt;
  near = omega arith;
  low = omega arith;
  few = omega arith;
  handed = tt;
  acks = tt;
  ack_low = omega arith;
  front = λ s. record { rest = []; parts = refl; count = refl };
  sending = λ s e. absurd cc;
  idle = λ s e. (refl, omega arith);
}

-- other requests on their way, and a sender that sends as before unless something was dropped
changed : (l : Line) (sender : State) (requests : List Request) (dropped : Bool) (h : Ordered l) → Rises h.base l.submitted requests → Sends l.submitted sender
    → (dropped ≡ false → l.dropped ≡ false) → (dropped ≡ false → is_some l.sender.sending ≡ is_some sender.sending)
    → Ordered (record l { sender = sender; requests = requests; dropped = dropped })
changed l sender requests dropped h rises sends kept same = record {
  top = h.top;
  base = h.base;
  ack = h.ack;
  numbered = h.numbered;
  sends = sends;
  got = h.got;
  requests = rises;
  near = h.near;
  low = h.low;
  few = h.few;
  handed = h.handed;
  acks = h.acks;
  ack_low = h.ack_low;
  front = λ s. h.front (kept s);
  sending = λ s e. h.sending (kept s) (same s ∙ e);
  idle = λ s e. h.idle (kept s) (same s ∙ e);
}

or_false : (a b : Bool) → (a || b) ≡ false → (a ≡ false) × (b ≡ false)
or_false true b e = absurd cc
or_false false true e = absurd cc
or_false false false e = (refl, refl)

-- ---- steps of the sender

submits_ordered : (payload : List ℕ) (l : Line) → Ordered l → Ordered (submits payload l)
submits_ordered payload l h =
    let last : suc (length l.submitted) - 1 ≡ length l.submitted = omega arith in
    let item : Item = record { number = length l.submitted; payload = payload } in
    let low : h.base ≤ length l.submitted - 1 = h.low in
    let few : h.top ≤ length l.submitted = h.few in
    record {
      top = h.top;
      base = h.base;
      ack = h.ack;
      numbered = (refl, h.numbered);
      sends = record { next = ap after h.sends.next; sending = record { some = omega arith; sequence = h.sends.next ∙ ap sequence_at (sym last); among = inl (ap (λ n. record { number = n; payload = payload }) last) } };
      got = h.got;
      requests = rises_push h.base (item ∷ l.submitted) (record { sequence = l.sender.next; item = item }) l.requests (refl, h.numbered) (omega arith)
          (record { low = omega arith; sequence = h.sends.next; among = inl refl })
          (rises_more h.base item l.submitted l.requests h.requests);
      near = h.near;
      low = omega arith;
      few = omega arith;
      handed = handed_more h.top item l.submitted l.handed h.handed;
      acks = h.acks;
      ack_low = h.ack_low;
      front = λ s. (let f : IsFront h.top l.submitted l.handed = h.front (or_false l.dropped (is_some l.sender.sending) s).0 in
          record { rest = item ∷ f.rest; parts = ap (λ xs. item ∷ xs) f.parts; count = f.count });
      sending = λ s e. (let n : (l.dropped ≡ false) × (is_some l.sender.sending ≡ false) = or_false l.dropped (is_some l.sender.sending) s in
          let x : (h.top ≡ length l.submitted) × (length l.submitted ≤ h.ack + 1) = h.idle n.0 n.1 in
          let y : h.top ≡ length l.submitted = x.0 in
          let z : length l.submitted ≤ h.ack + 1 = x.1 in
          (omega arith, omega arith, omega arith));
      idle = λ s e. absurd cc;
    }

stops_ordered : (l : Line) → Ordered l → Ordered (stops l)
stops_ordered l h =
    changed l (record { next = l.sender.next; sending = None; received = l.sender.received }) l.requests (l.dropped || is_some l.sender.sending) h h.requests
    (record { next = h.sends.next; sending = tt })
    (λ s. (or_false l.dropped (is_some l.sender.sending) s).0)
    (λ s. (or_false l.dropped (is_some l.sender.sending) s).1)

-- what is sent again is the latest item
again_rises : (l : Line) (x : Sending) (h : Ordered l) → IsLatest (length l.submitted) l.submitted x → Rises h.base l.submitted (l.requests ++ sent (length l.submitted - 1) (Some x))
again_rises l x h latest =
    let some : 0 < length l.submitted = latest.some in
    rises_push h.base l.submitted (record { sequence = x.sequence; item = record { number = length l.submitted - 1; payload = x.payload } }) l.requests h.numbered (omega arith)
    (record { low = h.low; sequence = latest.sequence; among = latest.among })
    h.requests

nothing_more : (base : ℕ) (items : List Item) (rs : List Request) → Rises base items rs → Rises base items (rs ++ [])
nothing_more base items rs h = subst (Rises base items) (sym (append-nil rs)) h

-- of the beat with this number, which is not the twelfth
due_rises : (l : Line) (x : Sending) (beat : ℕ) (h : Ordered l) → IsLatest (length l.submitted) l.submitted x → (beat == 12) ≡ false
    → Rises h.base l.submitted (l.requests ++ sent_again (beat_at beat) (length l.submitted - 1) (Some x))
due_rises l x beat h latest e =
    rw e
    (elim (is_due beat) as (λ b. Rises h.base l.submitted (l.requests ++ sent_again (cond b due.SendAgain due.Nothing) (length l.submitted - 1) (Some x))) [
      | true ↦ again_rises l x h latest
      | false ↦ nothing_more h.base l.submitted l.requests h.requests
    ])

due_keeps : (beat : ℕ) → (beat == 12) ≡ false → gives_up (beat_at beat) ≡ false
due_keeps beat e = rw e (elim (is_due beat) as (λ b. gives_up (cond b due.SendAgain due.Nothing) ≡ false) [ true ↦ refl | false ↦ refl ])

beats_by : (l : Line) (o : Option Sending) → l.sender.sending ≡ o → Ordered l
    → Ordered (record l {
      sender = record { next = l.sender.next; sending = aged o; received = l.sender.received };
      requests = l.requests ++ sent_again (beat_of o) (length l.submitted - 1) o;
      dropped = l.dropped || gives_up (beat_of o);
    })
beats_by l None e h =
    changed l (record { next = l.sender.next; sending = None; received = l.sender.received }) (l.requests ++ []) (l.dropped || false) h
    (nothing_more h.base l.submitted l.requests h.requests)
    (record { next = h.sends.next; sending = tt })
    (λ s. (or_false l.dropped false s).0)
    (λ s. ap is_some e)
beats_by l (Some x) e h =
    let latest : IsLatest (length l.submitted) l.submitted x = subst (λ o. IfSome o (IsLatest (length l.submitted) l.submitted)) e h.sends.sending in
    elim (x.beats + 1 == 12) as (λ b. (x.beats + 1 == 12) ≡ b → Ordered (record l {
      sender = record { next = l.sender.next; sending = cond b None (Some (record { sequence = x.sequence; beats = x.beats + 1; payload = x.payload })); received = l.sender.received };
      requests = l.requests ++ sent_again (beat_at (x.beats + 1)) (length l.submitted - 1) (Some x);
      dropped = l.dropped || gives_up (beat_at (x.beats + 1));
    })) [
      | true ↦ λ t.
          let g : beat_at (x.beats + 1) ≡ due.GaveUp = rw t refl in
          changed l (record { next = l.sender.next; sending = None; received = l.sender.received }) (l.requests ++ sent_again (beat_at (x.beats + 1)) (length l.submitted - 1) (Some x))
          (l.dropped || gives_up (beat_at (x.beats + 1))) h
          (subst (λ d. Rises h.base l.submitted (l.requests ++ sent_again d (length l.submitted - 1) (Some x))) (sym g) (nothing_more h.base l.submitted l.requests h.requests))
          (record { next = h.sends.next; sending = tt })
          (λ s. (or_false l.dropped (gives_up (beat_at (x.beats + 1))) s).0)
          (λ s. let n : gives_up (beat_at (x.beats + 1)) ≡ false = (or_false l.dropped (gives_up (beat_at (x.beats + 1))) s).1 in
          let y : gives_up (beat_at (x.beats + 1)) ≡ true = ap gives_up g in
          absurd cc)
      | false ↦ λ t.
          changed l (record { next = l.sender.next; sending = Some (record { sequence = x.sequence; beats = x.beats + 1; payload = x.payload }); received = l.sender.received })
          (l.requests ++ sent_again (beat_at (x.beats + 1)) (length l.submitted - 1) (Some x)) (l.dropped || gives_up (beat_at (x.beats + 1))) h
          (due_rises l x (x.beats + 1) h latest t)
          (record { next = h.sends.next; sending = record { some = latest.some; sequence = latest.sequence; among = latest.among } })
          (λ s. (or_false l.dropped (gives_up (beat_at (x.beats + 1))) s).0)
          (λ s. ap is_some e)
    ] refl

-- ---- the receiver

handed_on : (b : Bool) (i : Item) (top : ℕ) (items is : List Item) → IsAmong i items → (b ≡ false → top ≤ i.number) → top ≤ i.number + 1 → AreHanded top items is
    → AreHanded (i.number + 1) items (cond (not b) (i ∷ is) is)
handed_on true i top items is m f le h = handed_higher top (i.number + 1) items is le h
handed_on false i top items is m f le h = (omega arith, m, handed_higher top i.number items is (f refl) h)

front_on : (b : Bool) (i : Item) (top : ℕ) (items is : List Item) → IsNumbered items → IsAmong i items → (b ≡ true → i.number + 1 ≡ top) → (b ≡ false → i.number ≡ top)
    → IsFront top items is → IsFront (i.number + 1) items (cond (not b) (i ∷ is) is)
front_on true i top items is n m f g h = record { rest = h.rest; parts = h.parts; count = h.count ∙ sym (f refl) }
front_on false i top items is n m f g h =
    let x : IsFront (top + 1) items (i ∷ is) = front_more top items is i n m (g refl) h in
    record { rest = x.rest; parts = x.parts; count = x.count ∙ ap (λ k. k + 1) (sym (g refl)) }

-- where nothing was dropped, no item that is on its way is beyond the next
reach : (l : Line) (h : Ordered l) → l.dropped ≡ false → (i : ℕ) → i < length l.submitted → i ≤ h.top
reach l h s i high =
    ⊎_elim
    (λ (e : is_some l.sender.sending ≡ true).
    let x : (length l.submitted ≤ h.top + 1) × (length l.submitted ≤ h.ack + 2) × (0 < length l.submitted) = h.sending s e in
    let y : length l.submitted ≤ h.top + 1 = x.0 in
    omega arith)
    (λ (e : is_some l.sender.sending ≡ false).
    let x : (h.top ≡ length l.submitted) × (length l.submitted ≤ h.ack + 1) = h.idle s e in
    let y : h.top ≡ length l.submitted = x.0 in
    omega arith)
    (cases_Bool (is_some l.sender.sending))

receives_ordered : (keep : Bool) (rs : List Request) (l : Line) → l.requests ≡ rs → Ordered l → Ordered (receives keep rs l)
receives_ordered keep [] l d h = h
receives_ordered keep (r ∷ rs) l d h =
    let i : ℕ = r.item.number in
    let rises : Rises h.base l.submitted (r ∷ rs) = subst (Rises h.base l.submitted) d h.requests in
    let low : h.base ≤ r.item.number = rises.0.low in
    let high : r.item.number < length l.submitted = number_low r.item l.submitted h.numbered rises.0.among in
    let near : h.top ≤ h.base + 1 = h.near in
    let le : h.top ≤ r.item.number + 1 = omega arith in
    let few : h.top ≤ length l.submitted = h.few in
    let ack_low : h.ack ≤ h.top - 1 = h.ack_low in
    let same : r.sequence ≡ sequence_at r.item.number = rises.0.sequence in
    let later : is_last l.receiver.received r.sequence ≡ false → h.top ≤ r.item.number =
    λ e. is_later l.receiver.received h.top r.item.number h.got (ap (is_last l.receiver.received) (sym same) ∙ e) le in
    record {
      top = r.item.number + 1;
      base = r.item.number;
      ack = h.ack;
      numbered = h.numbered;
      sends = h.sends;
      got = inr (r.item.number, refl, ap (λ n. Some n) same);
      requests = rises_left keep h.base l.submitted r rs rises;
      near = omega arith;
      low = omega arith;
      few = omega arith;
      handed = handed_on (is_last l.receiver.received r.sequence) r.item h.top l.submitted l.handed rises.0.among later le h.handed;
      acks = subst (λ n. Acks h.ack (r.item.number + 1) (l.acknowledgements ++ n ∷ [])) (sym same)
          (acks_push h.ack h.top r.item.number (r.item.number + 1) l.acknowledgements (omega arith) le (omega arith) h.acks);
      ack_low = omega arith;
      front = λ s. front_on (is_last l.receiver.received r.sequence) r.item h.top l.submitted l.handed h.numbered rises.0.among
          (λ e. is_again l.receiver.received h.top r.item.number h.got (ap (is_last l.receiver.received) (sym same) ∙ e) le (reach l h s r.item.number high))
          (λ e. let f : h.top ≤ r.item.number = later e in let g : r.item.number ≤ h.top = reach l h s r.item.number high in omega arith)
          (h.front s);
      sending = λ s e. (let x : (length l.submitted ≤ h.top + 1) × (length l.submitted ≤ h.ack + 2) × (0 < length l.submitted) = h.sending s e in
          let y : length l.submitted ≤ h.top + 1 = x.0 in
          (omega arith, x.1, x.2));
      idle = λ s e. (let x : (h.top ≡ length l.submitted) × (length l.submitted ≤ h.ack + 1) = h.idle s e in
          let y : h.top ≡ length l.submitted = x.0 in
          (omega arith, x.1));
    }

-- ---- acknowledgements that come

-- where nothing was dropped, one with the sequence of the latest item is of that item
own_ack : (count n : ℕ) → sequence_at n ≡ sequence_at (count - 1) → 0 < count → n < count → count ≤ n + 2 → n + 1 ≡ count
own_ack count n e some lt le =
    ⊎_elim
    (λ (d : count - 1 ≡ n + 1). absurd (next_differs (count - 1) n d (sym e)))
    (λ (d : count - 1 ≡ n + 1 → ⊥). omega arith)
    (cases_eq (count - 1) (n + 1))

-- what is sent ends, or goes on
unless_is : (a : ℕ) (o : Option Sending) (P : Sending → Type 0) → IfSome o P → IfSome (unless_sequence a o) P
unless_is a None P h = tt
unless_is a (Some x) P h = elim (x.sequence == a) as (λ b. IfSome (cond b None (Some x)) P) [ true ↦ tt | false ↦ h ]

unless_some : (a : ℕ) (o : Option Sending) → is_some (unless_sequence a o) ≡ true → is_some o ≡ true
unless_some a None e = e
unless_some a (Some x) e = refl

-- it ended by this acknowledgement, or was not sent before
unless_none : (a : ℕ) (o : Option Sending) (P : Sending → Type 0) → IfSome o P → is_some (unless_sequence a o) ≡ false
    → ((x : Sending) × (x.sequence ≡ a) × P x × (is_some o ≡ true)) ⊎ (is_some o ≡ false)
unless_none a None P h e = inr refl
unless_none a (Some x) P h e =
    elim (x.sequence == a) as (λ b. (x.sequence == a) ≡ b → is_some (cond b None (Some x)) ≡ false
    → ((y : Sending) × (y.sequence ≡ a) × P y × (is_some (Some x) ≡ true)) ⊎ (is_some (Some x) ≡ false)) [
      | true ↦ λ t g. inl (x, eqb-true x.sequence a t, h, refl)
      | false ↦ λ t g. absurd cc
    ] refl e

hears_ordered : (keep : Bool) (xs : List ℕ) (l : Line) → l.acknowledgements ≡ xs → Ordered l → Ordered (hears keep xs l)
hears_ordered keep [] l d h = h
hears_ordered keep (a ∷ rest) l d h =
    let acks : Acks h.ack h.top (a ∷ rest) = subst (Acks h.ack h.top) d h.acks in
    let n : ℕ = acks.0 in
    let low : h.ack ≤ acks.0 = acks.1 in
    let high : acks.0 < h.top = acks.2 in
    let few : h.top ≤ length l.submitted = h.few in
    record {
      top = h.top;
      base = h.base;
      ack = acks.0;
      numbered = h.numbered;
      sends = record { next = h.sends.next; sending = unless_is a l.sender.sending (IsLatest (length l.submitted) l.submitted) h.sends.sending };
      got = h.got;
      requests = h.requests;
      near = h.near;
      low = h.low;
      few = h.few;
      handed = h.handed;
      acks = acks_left keep acks.0 h.top a rest high acks.3 acks.4;
      ack_low = omega arith;
      front = h.front;
      sending = λ s e. (let x : (length l.submitted ≤ h.top + 1) × (length l.submitted ≤ h.ack + 2) × (0 < length l.submitted) = h.sending s (unless_some a l.sender.sending e) in
          let y : length l.submitted ≤ h.ack + 2 = x.1 in
          (x.0, omega arith, x.2));
      idle = λ s e.
          ⊎_elim
          (λ (o : (x : Sending) × (x.sequence ≡ a) × IsLatest (length l.submitted) l.submitted x × (is_some l.sender.sending ≡ true)).
          let x : (length l.submitted ≤ h.top + 1) × (length l.submitted ≤ h.ack + 2) × (0 < length l.submitted) = h.sending s o.3 in
          let y : length l.submitted ≤ h.ack + 2 = x.1 in
          let z : 0 < length l.submitted = x.2 in
          let q : acks.0 + 1 ≡ length l.submitted = own_ack (length l.submitted) acks.0 (sym acks.3 ∙ sym o.1 ∙ o.2.sequence) z (omega arith) (omega arith) in
          (omega arith, omega arith))
          (λ (o : is_some l.sender.sending ≡ false).
          let x : (h.top ≡ length l.submitted) × (length l.submitted ≤ h.ack + 1) = h.idle s o in
          let y : length l.submitted ≤ h.ack + 1 = x.1 in
          (x.0, omega arith))
          (unless_none a l.sender.sending (IsLatest (length l.submitted) l.submitted) h.sends.sending e);
    }

lost_ack : (place : ℕ) (l : Line) → Ordered l → Ordered (record l { acknowledgements = without place l.acknowledgements })
lost_ack place l h = record {
  top = h.top;
  base = h.base;
  ack = h.ack;
  numbered = h.numbered;
  sends = h.sends;
  got = h.got;
  requests = h.requests;
  near = h.near;
  low = h.low;
  few = h.few;
  handed = h.handed;
  acks = acks_without place h.ack h.top l.acknowledgements h.acks;
  ack_low = h.ack_low;
  front = h.front;
  sending = h.sending;
  idle = h.idle;
}

-- ---- calls for the opposite way

same_received : (c : Call) (s : State) → s.received ≡ (sending_call c s).received
same_received (calls.Submit payload) s = refl
same_received calls.Stop s = refl
same_received (calls.Acked sequence) s = refl
same_received (calls.Received sequence) s = refl
same_received calls.Beat s = refl

other_call : (c : Call) (l : Line) → Ordered l → Ordered (record l { receiver = sending_call c l.receiver })
other_call c l h = record {
  top = h.top;
  base = h.base;
  ack = h.ack;
  numbered = h.numbered;
  sends = h.sends;
  got = subst (Got h.top) (same_received c l.receiver) h.got;
  requests = h.requests;
  near = h.near;
  low = h.low;
  few = h.few;
  handed = h.handed;
  acks = h.acks;
  ack_low = h.ack_low;
  front = h.front;
  sending = h.sending;
  idle = h.idle;
}

-- ---- all steps

stepped_ordered : (s : Step) (l : Line) → Ordered l → Ordered (stepped s l)
stepped_ordered (Submit payload) l h = submits_ordered payload l h
stepped_ordered Stop l h = stops_ordered l h
stepped_ordered Beat l h = beats_by l l.sender.sending refl h
stepped_ordered (Receive keep) l h = receives_ordered keep l.requests l refl h
stepped_ordered (LoseRequest place) l h =
    changed l l.sender (without place l.requests) l.dropped h (rises_without place h.base l.submitted l.requests h.requests) h.sends (λ s. s) (λ s. refl)
stepped_ordered (Hear keep) l h = hears_ordered keep l.acknowledgements l refl h
stepped_ordered (LoseAcknowledgement place) l h = lost_ack place l h
stepped_ordered (OtherRequest sequence) l h =
    changed l (heard sequence l.sender) l.requests l.dropped h h.requests (record { next = h.sends.next; sending = h.sends.sending }) (λ s. s) (λ s. refl)
stepped_ordered (OtherCall c) l h = other_call c l h

run_ordered : (ss : List Step) (l : Line) → Ordered l → Ordered (run l ss)
run_ordered [] l h = h
run_ordered (s ∷ ss) l h = run_ordered ss (stepped s l) (stepped_ordered s l h)

-- ---- the law

-- what lies below the newest item is among the others
handed_fewer : (top : ℕ) (x : Item) (items is : List Item) → x.number ≡ length items → top ≤ length items → AreHanded top (x ∷ items) is → AreHanded top items is
handed_fewer top x items [] e le h = tt
handed_fewer top x items (i ∷ is) e le h =
    let low : i.number < top = h.0 in (
      h.0,
      ⊎_elim
          (λ (same : i ≡ x). let q : i.number ≡ length items = ap (λ y. y.number) same ∙ e in absurd (omega arith))
          (λ (m : IsAmong i items). m)
          h.1,
      handed_fewer i.number x items is e (omega arith) h.2,
    )

subsequence_from : (top : ℕ) (is items : List Item) → IsNumbered items → AreHanded top items is → IsSubsequence is items
subsequence_from top [] items n h = tt
subsequence_from top (i ∷ is) [] n h = absurd h.1
subsequence_from top (i ∷ is) (x ∷ items) n h =
    ⊎_elim
    (λ (e : i ≡ x).
    let q : i.number ≡ length items = ap (λ y. y.number) e ∙ n.0 in
    inl (e, subsequence_from i.number is items n.1 (handed_fewer i.number x items is n.0 (omega arith) h.2)))
    (λ (m : IsAmong i items).
    let q : i.number < length items = number_low i items n.1 m in
    inr (subsequence_from (i.number + 1) (i ∷ is) items n.1 (handed_fewer (i.number + 1) x items (i ∷ is) n.0 (omega arith) (omega arith, h.1, h.2))))
    h.1

falls_from : (top n : ℕ) (items is : List Item) → top ≤ n → AreHanded top items is → FallsBelow n is
falls_from top n items [] le h = tt
falls_from top n items (i ∷ is) le h = ((let x : i.number < top = h.0 in omega arith), falls_from i.number i.number items is (omega arith) h.2)

-- a front of as many items as there are is all of them
all_front : (top : ℕ) (items is : List Item) → top ≡ length items → IsFront top items is → is ≡ items
all_front top items is e f =
    let total : length items ≡ length f.rest + length is = ap length f.parts ∙ length-append f.rest is in
    let count : length is ≡ top = f.count in
    let none : f.rest ≡ [] = nil_from_length f.rest (omega arith) in
    sym (f.parts ∙ ap (λ xs. xs ++ is) none)

pub in_order : (ss : List Step) → InOrder (run new_line ss)
in_order ss =
    let l : Line = run new_line ss in
    let h : Ordered (run new_line ss) = run_ordered ss new_line begins in
    record {
      subsequence = subsequence_from h.top (run new_line ss).handed (run new_line ss).submitted h.numbered h.handed;
      once = falls_from h.top (length (run new_line ss).submitted) (run new_line ss).submitted (run new_line ss).handed h.few h.handed;
      prefix = λ s. (let f : IsFront h.top (run new_line ss).submitted (run new_line ss).handed = h.front s in (f.rest, f.parts));
      all = λ s e. all_front h.top (run new_line ss).submitted (run new_line ss).handed (h.idle s (ap is_some e)).0 (h.front s);
    }

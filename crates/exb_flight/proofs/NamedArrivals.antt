-- The events and the upward words name each arrival once, in order.
use Rattle.std.proofs.Common.{◌≡◌, ◌≢◌, ℕ, zero, suc, ◌+◌, ◌<◌, ◌≤◌, ◌==◌, ◌&&◌, ◌||◌, ◌++◌, cond, Bool, true, false, List, [], ◌∷◌, length, Some, nat_lt, refl, sym, ◌∙◌, ap, subst, arith, inl, inr, eq-eqb, length-append}
use Rattle.std.proofs.lemmas.List.{append-nil, append_assoc}
use Rattle.std.proofs.lemmas.Bool.{cases_Bool, cases_eq, ne_eqb, le-ltb, lt-leb}
use Rattle.exb_model.specs.declared.event.Event.{Event}
use Rattle.exb_model.specs.declared.event.Event.TheVariants as event
use Rattle.exb_model.specs.ETags.{stripped}
use Rattle.exb_model.specs.EagerHistory.{is_relayed}
use Rattle.exb_model.specs.LegalHistory.{Rise, relays_and_late}
use Rattle.exb_model.specs.Lists.{numbered}
use Rattle.exb_model.specs.Tree.{Shape, device, on, is_extended}
use Rattle.exb_model.specs.Setup.{Limits}
use Rattle.exb_model.specs.History.{Basis, History, ◌then◌}
use Rattle.exb_control_spec.proofs.Plans.TreeWays.{from_extended}
use Rattle.exb_frame.specs.TagValues.{TagRoundTrip}
use Rattle.exb_relay.specs.Laws.{SendsAreWords, SendsLeaveAsFlat}
use Rattle.exb_control_spec.specs.Decisions.{decide}
use Rattle.exb_control_spec.specs.Runs.PlannedChanges.{IsSetting}
use Rattle.exb_control_spec.specs.Runs.Systems as systems
use Rattle.exb_flight.specs.Items.{Word, Item, Data, Token, Each, words_of, without_data, without_token}
use Rattle.exb_flight.specs.Tree.{IsLink, IsDeep}
use Rattle.exb_flight.specs.Flight.{Flight, Step, Arrive, CarryUp, CarryIn, Relay, CarryDown, SendDown, SendUp, LoseDown, LoseUp, Move, Note, tables_of, bridge_of, add, change, arrive, stepped}
use Rattle.exb_flight.specs.AllowedSteps.{Can, run, Runs, IsFirst}
use Rattle.exb_flight.specs.FlightFacts.{IsUp, Facts, beginning}
use Rattle.exb_flight.specs.UpwardOrder.{of_port, waiting, arrived_in, taken_in}
use Rattle.exb_flight.specs.NamedArrivals.{told_by, told_at, Given, with_given, Deed, Comes, Ignores, Taken, Other, next_index, steps_of, given_after, IsOther, IsDeed, done_by, given_by, Does, times, once_to, indices, firsts, IsRelayOf, IsWordOf, IsNamed, AreNamed, NamedOnce}
use Rattle.exb_flight.proofs.ItemLists.{each_first}
use Rattle.exb_flight.proofs.LinkItems.{each_more, each_less, words_add, words_lose}
use Rattle.exb_flight.proofs.ControlEvents.{IsOfChange, AreOfChanges, moved_are}
use Rattle.exb_flight.proofs.IndexLists.{times_append, once_more, each_change, all_low, each_front, each_back, each_join, rise_end, rise_drop, most_of, late_end, most_low, late_low, firsts_append, numbered_more, numbered_last}
use Rattle.exb_flight.proofs.UpwardOrder.{arrive_adds, carry_in_takes}
use Rattle.exb_flight.proofs.Runs.{one_in_order, begins_with, none_waits, facts_run}

-- ---- events that name nothing
told_none : (r : ℕ) (h : History) (e : Event) → told_by r e ≡ [] → told_at r (e ∷ h) ≡ told_at r h
unfolding told_at
told_none r h e none = ap (λ (z : List (ℕ × Bool)). told_at r h ++ z) none ∙ append-nil (told_at r h)

told_change : (r : ℕ) (e : Event) → IsOfChange e → told_by r e ≡ []
told_change r (event.Relay p n t f) k = absurd k
told_change r (event.Ignored p n) k = absurd k
told_change r (event.Tick seconds) k = absurd k
told_change r (event.Commit n) k = refl
told_change r (event.Refuse n cause) k = refl
told_change r (event.Up p) k = refl
told_change r (event.NoUp p cause) k = refl
told_change r event.Settled k = absurd k

relay_change : (s : Shape) (g : Given) (e : Event) → IsOfChange e → IsRelayOf s g e
relay_change s g (event.Relay p n t f) k = absurd k
relay_change s g (event.Ignored p n) k = absurd k
relay_change s g (event.Tick seconds) k = absurd k
relay_change s g (event.Commit n) k = tt
relay_change s g (event.Refuse n cause) k = tt
relay_change s g (event.Up p) k = tt
relay_change s g (event.NoUp p cause) k = tt
relay_change s g event.Settled k = absurd k

told_changes : (r : ℕ) (es : List Event) (h : History) → AreOfChanges es → told_at r (h then es) ≡ told_at r h
told_changes r [] h k = refl
told_changes r (e ∷ es) h k = told_changes r es (e ∷ h) k.1 ∙ told_none r h e (told_change r e k.0)

relays_changes : (s : Shape) (g : Given) (es : List Event) (h : History) → AreOfChanges es → Each (IsRelayOf s g) h → Each (IsRelayOf s g) (h then es)
relays_changes s g [] h k old = old
relays_changes s g (e ∷ es) h k old = relays_changes s g es (e ∷ h) k.1 (relay_change s g e k.0, old)

-- a quiet event of no arrival
relay_quiet : (s : Shape) (g : Given) (e : Event) → ((r : ℕ) → is_extended s r ≡ true → told_by r e ≡ []) → IsRelayOf s g e
relay_quiet s g (event.Relay p n t f) k = λ ext. absurd (some_told p n (k p ext))
  where
    some_told : (p n : ℕ) → cond {A = List (ℕ × Bool)} (p == p) ((n, true) ∷ []) [] ≡ [] → ⊥
    some_told p n e = (let z : ◌≡◌ {A = List (ℕ × Bool)} ((n, true) ∷ []) [] = rw (eq-eqb p p refl) at e in cc)
relay_quiet s g (event.Ignored p n) k = tt
relay_quiet s g (event.Tick seconds) k = tt
relay_quiet s g (event.Commit n) k = tt
relay_quiet s g (event.Refuse n cause) k = tt
relay_quiet s g (event.Up p) k = tt
relay_quiet s g (event.NoUp p cause) k = tt
relay_quiet s g event.Settled k = tt

-- ---- one port
-- its events and the words that wait
pub record Named (told : List (ℕ × Bool)) (wait : List ℕ) (most : ℕ) : Type 0 where
  pub once : (n : ℕ) → times n (firsts told ++ wait) ≡ once_to most n
  pub rising : Rise 0 (relays_and_late 0 told ++ wait)

module _ (told : List (ℕ × Bool)) (wait : List ℕ) (most : ℕ) (k : Named told wait most) where
  low : Each (λ x. x ≤ most) (firsts told ++ wait)
  low = all_low most (firsts told ++ wait) k.once

  told_low : Each (λ x. x ≤ most) (firsts told)
  told_low = each_front (λ x. x ≤ most) (firsts told) wait low

  less_next : (xs : List ℕ) → Each (λ x. x ≤ most) xs → Each (λ x. x < most + 1) xs
  less_next xs h = each_change (λ x. x ≤ most) (λ x. x < most + 1) xs (λ x l. omega (arith, l)) h

  -- an arrival waits: it is the last
  pub named_waits : Named told (wait ++ (most + 1) ∷ []) (most + 1)
  named_waits =
      record {
        once = λ n.
            let a = times_append n (firsts told ++ wait) ((most + 1) ∷ []) in
            ap (times n) (sym (append_assoc (firsts told) wait ((most + 1) ∷ []))) ∙ (a ∙ (ap (λ (x : ℕ). x + times n ((most + 1) ∷ [])) (k.once n) ∙ sym (once_more most n)));
        rising = subst (Rise 0) (append_assoc (relays_and_late 0 told) wait ((most + 1) ∷ []))
            (rise_end 0 (most + 1) (relays_and_late 0 told ++ wait) k.rising (omega arith)
            (less_next (relays_and_late 0 told ++ wait) (each_join (λ x. x ≤ most) (relays_and_late 0 told) wait (late_low 0 most told told_low) (each_back (λ x. x ≤ most) (firsts told) wait low))));
      }

  -- an arrival is ignored at once: it isn't late
  pub named_ignored : Named (told ++ (most + 1, false) ∷ []) wait (most + 1)
  named_ignored =
      let high : most_of 0 told ≤ most = most_low 0 most told (omega arith) told_low in
      let late : relays_and_late 0 (told ++ (most + 1, false) ∷ []) ≡ relays_and_late 0 told =
      late_end 0 (most + 1) false told ∙ (ap (λ (b : Bool). relays_and_late 0 told ++ cond b ((most + 1) ∷ []) []) (le-ltb (most + 1) (most_of 0 told) (omega (arith, high))) ∙ append-nil (relays_and_late 0 told)) in
      record {
        once = λ n.
            let a = times_append n (firsts told ++ (most + 1) ∷ []) wait in
            let b = times_append n (firsts told) ((most + 1) ∷ []) in
            let c = times_append n (firsts told) wait in
            let d = once_more most n in
            let o = k.once n in
            ap (λ (xs : List ℕ). times n (xs ++ wait)) (firsts_append told ((most + 1, false) ∷ [])) ∙ sums (times n (firsts told)) (times n wait) (times n ((most + 1) ∷ [])) _ _ _ _ _ a b c o d;
        rising = subst (λ (xs : List ℕ). Rise 0 (xs ++ wait)) (sym late) k.rising;
      }
    where
      sums : (x y z p q r u v : ℕ) → p ≡ q + y → q ≡ x + z → r ≡ x + y → r ≡ u → v ≡ u + z → p ≡ v
      sums x y z p q r u v a b c d e = omega (arith, a, b, c, d, e)

-- the first that waits is dealt with: relayed, or ignored
pub named_taken : (told : List (ℕ × Bool)) (n : ℕ) (rest : List ℕ) (most : ℕ) (b : Bool) → Named told (n ∷ rest) most → Named (told ++ (n, b) ∷ []) rest most
named_taken told n rest most b k =
    record {
      once = λ m.
          ap (λ (xs : List ℕ). times m (xs ++ rest)) (firsts_append told ((n, b) ∷ []))
          ∙ (ap (times m) (append_assoc (firsts told) (n ∷ []) rest) ∙ k.once m);
      rising =
          subst (λ (xs : List ℕ). Rise 0 (xs ++ rest)) (sym (late_end 0 n b told))
          (by_late (b || nat_lt n (most_of 0 told)));
    }
  where
    by_late : (c : Bool) → Rise 0 ((relays_and_late 0 told ++ cond c (n ∷ []) []) ++ rest)
    by_late true = subst (Rise 0) (sym (append_assoc (relays_and_late 0 told) (n ∷ []) rest)) k.rising
    by_late false = subst (λ (xs : List ℕ). Rise 0 (xs ++ rest)) (sym (append-nil (relays_and_late 0 told))) (rise_drop 0 n (relays_and_late 0 told) rest k.rising)

-- ---- a deed
abbrev one_told : ℕ → List (ℕ × Bool)
one_told n = (n, false) ∷ []

named_of : (s : Shape) (w : Flight) (g : Given) (r : ℕ) → IsNamed s w g r → Named (told_at r w.history) (indices (waiting s w.up r)) (length (g r))
named_of s w g r k = record { once = k.once; rising = k.rising }

is_named : (s : Shape) (w : Flight) (g : Given) (r : ℕ) (told : List (ℕ × Bool)) (wait : List Word) (most : ℕ) → told_at r w.history ≡ told → waiting s w.up r ≡ wait → length (g r) ≡ most →
    Named told (indices wait) most → IsNamed s w g r
is_named s w g r told wait most a b c k =
    record {
      once = λ n. ap (λ (xs : List (ℕ × Bool)). times n (firsts xs ++ indices (waiting s w.up r))) a ∙ (ap (λ (xs : List Word). times n (firsts told ++ indices xs)) b ∙ (k.once n ∙ ap (λ (m : ℕ). once_to m n) (sym c)));
      rising = subst (λ (xs : List (ℕ × Bool)). Rise 0 (relays_and_late 0 xs ++ indices (waiting s w.up r))) (sym a) (subst (λ (xs : List Word). Rise 0 (relays_and_late 0 told ++ indices xs)) (sym b) k.rising);
    }

indices_append : (xs ys : List Word) → indices (xs ++ ys) ≡ indices xs ++ indices ys
indices_append [] ys = refl
indices_append (x ∷ xs) ys = ap (λ (z : List ℕ). x.index ∷ z) (indices_append xs ys)

-- what was given stays, and more comes
given_other : (g : Given) (p r : ℕ) (a : ℕ × List ℕ) → r ≢ p → with_given g p a r ≡ g r
given_other g p r a e = rw (ne_eqb r p e) refl

pub given_here : (g : Given) (p : ℕ) (a : ℕ × List ℕ) → with_given g p a p ≡ g p ++ a ∷ []
given_here g p a = rw (eq-eqb p p refl) refl

pub number_more : (g : Given) (p : ℕ) (a : ℕ × List ℕ) (q n : ℕ) (x : ℕ × List ℕ) → numbered (g q) n ≡ Some x → numbered (with_given g p a q) n ≡ Some x
number_more g p a q n x e =
    elim (cases_eq q p) [
      | inr other ↦ ap (λ (xs : List (ℕ × List ℕ)). numbered xs n) (given_other g p q a other) ∙ e
      | inl same ↦ ap (λ (b : Bool). numbered (cond b (g q ++ a ∷ []) (g q)) n) (eq-eqb q p same) ∙ numbered_more (g q) (a ∷ []) n x e
    ]

relay_more : (s : Shape) (g : Given) (p : ℕ) (a : ℕ × List ℕ) (e : Event) → IsRelayOf s g e → IsRelayOf s (with_given g p a) e
relay_more s g p a (event.Relay q n t f) k = λ ext. number_more g p a q n (t, f) (k ext)
relay_more s g p a (event.Ignored q n) k = tt
relay_more s g p a (event.Tick seconds) k = tt
relay_more s g p a (event.Commit n) k = tt
relay_more s g p a (event.Refuse n cause) k = tt
relay_more s g p a (event.Up q) k = tt
relay_more s g p a (event.NoUp q cause) k = tt
relay_more s g p a event.Settled k = tt

word_more : (g : Given) (p : ℕ) (a : ℕ × List ℕ) (f : Word) → IsWordOf g f → IsWordOf (with_given g p a) f
word_more g p a f k = number_more g p a f.port f.index (f.moment, stripped f.bytes) k

of_other : (r : ℕ) (f : Word) → f.port ≢ r → of_port r (f ∷ []) ≡ []
of_other r f e = rw (ne_eqb f.port r e) refl

of_here : (r : ℕ) (f : Word) → f.port ≡ r → of_port r (f ∷ []) ≡ f ∷ []
of_here r f e = rw (eq-eqb f.port r e) refl

pub deep_of : (s : Shape) (r : ℕ) → is_extended s r ≡ true → IsDeep s r
deep_of s r ext = (let d = from_extended s r ext in record { deep = d.0; known = d.1 })

module _ (s : Shape) (l : Limits) (i : Basis) (setting : IsSetting s l) (w : Flight) (h : Facts s i w) (g : Given) (k : AreNamed s w g) where
  length_more : (p : ℕ) (a : ℕ × List ℕ) → length (with_given g p a p) ≡ length (g p) + 1
  length_more p a = ap (λ (xs : List (ℕ × List ℕ)). length xs) (given_here g p a) ∙ length-append (g p) (a ∷ [])

  -- a frame comes, and its word waits
  comes_waits : (p t : ℕ) (f bytes : List ℕ) → is_extended s p ≡ true → stripped bytes ≡ f →
      AreNamed s (record w { up = add w.up (device p) (Data (record { bytes = bytes; port = p; index = next_index g p; moment = t })) }) (with_given g p (t, f))
  comes_waits p t f bytes ext clean =
      let x : Word = record { bytes = bytes; port = p; index = next_index g p; moment = t } in
      let next : Flight = record w { up = add w.up (device p) (Data x) } in
      record {
        ports = λ r r_ext.
            let more = arrive_adds s setting.tree w.up x r (deep_of s r r_ext) in
            elim (cases_eq p r) [
              | inr other ↦ is_named s next (with_given g p (t, f)) r (told_at r w.history) (waiting s w.up r) (length (g r)) refl
                  (more ∙ (ap (λ (z : List Word). waiting s w.up r ++ z) (of_other r x other) ∙ append-nil (waiting s w.up r)))
                  (ap (λ (xs : List (ℕ × List ℕ)). length xs) (given_other g p r (t, f) (λ e. other (sym e)))) (named_of s w g r (k.ports r r_ext))
              | inl same ↦ is_named s next (with_given g p (t, f)) r (told_at r w.history) (waiting s w.up r ++ x ∷ []) (length (g r) + 1) refl
                  (more ∙ ap (λ (z : List Word). waiting s w.up r ++ z) (of_here r x same))
                  (subst (λ (y : ℕ). length (with_given g p (t, f) y) ≡ length (g y) + 1) same (length_more p (t, f)))
                  (subst (λ (xs : List ℕ). Named (told_at r w.history) xs (length (g r) + 1)) (sym (indices_append (waiting s w.up r) (x ∷ []) ∙ ap (λ (y : ℕ). indices (waiting s w.up r) ++ (length (g y) + 1) ∷ []) same))
                  (named_waits (told_at r w.history) (indices (waiting s w.up r)) (length (g r)) (named_of s w g r (k.ports r r_ext))))
            ];
        relays = each_change (IsRelayOf s g) (IsRelayOf s (with_given g p (t, f))) w.history (relay_more s g p (t, f)) k.relays;
        words = λ n link. each_more w.up (device p) x (IsWordOf (with_given g p (t, f))) n (each_change (IsWordOf g) (IsWordOf (with_given g p (t, f))) (words_of (w.up n)) (word_more g p (t, f)) (k.words n link))
            (λ e. ap (λ (xs : List (ℕ × List ℕ)). numbered xs (next_index g p)) (given_here g p (t, f)) ∙ (numbered_last (g p) (t, f) ∙ ap (λ (z : List ℕ). Some (t, z)) (sym clean)));
      }

  -- a frame comes, and is ignored at once
  comes_ignored : (p t : ℕ) (f : List ℕ) → is_extended s p ≡ true → AreNamed s (record w { history = event.Ignored p (next_index g p) ∷ w.history }) (with_given g p (t, f))
  unfolding told_at
  comes_ignored p t f ext =
      let next : Flight = record w { history = event.Ignored p (next_index g p) ∷ w.history } in
      record {
        ports = λ r r_ext.
            elim (cases_eq p r) [
              | inr other ↦ is_named s next (with_given g p (t, f)) r (told_at r w.history) (waiting s w.up r) (length (g r))
                  (told_none r w.history (event.Ignored p (next_index g p)) (by_other p r (next_index g p) other)) refl
                  (ap (λ (xs : List (ℕ × List ℕ)). length xs) (given_other g p r (t, f) (λ e. other (sym e)))) (named_of s w g r (k.ports r r_ext))
              | inl same ↦ is_named s next (with_given g p (t, f)) r (told_at r w.history ++ (length (g r) + 1, false) ∷ []) (waiting s w.up r) (length (g r) + 1)
                  (ap (λ (z : List (ℕ × Bool)). told_at r w.history ++ z) (by_same p r same)) refl
                  (subst (λ (y : ℕ). length (with_given g p (t, f) y) ≡ length (g y) + 1) same (length_more p (t, f)))
                  (named_ignored (told_at r w.history) (indices (waiting s w.up r)) (length (g r)) (named_of s w g r (k.ports r r_ext)))
            ];
        relays = (tt, each_change (IsRelayOf s g) (IsRelayOf s (with_given g p (t, f))) w.history (relay_more s g p (t, f)) k.relays);
        words = λ n link. each_change (IsWordOf g) (IsWordOf (with_given g p (t, f))) (words_of (w.up n)) (word_more g p (t, f)) (k.words n link);
      }
    where
      by_other : (p r n : ℕ) → p ≢ r → told_by r (event.Ignored p n) ≡ []
      by_other p r n e = rw (ne_eqb p r e) refl

      by_same : (p r : ℕ) → p ≡ r → told_by r (event.Ignored p (next_index g p)) ≡ (length (g r) + 1, false) ∷ []
      by_same p r e = ap (λ (b : Bool). cond {A = List (ℕ × Bool)} b ((next_index g p, false) ∷ []) []) (eq-eqb p r e) ∙ ap (λ (y : ℕ). one_told (length (g y) + 1)) e

  -- the first word of a link comes to the bridge, which relays or ignores its frame
  taken_named : (n : ℕ) (f : Word) (c : IsFirst s w.up n f) → on s n < 64 → (e : Event) (relayed : Bool) → ((r : ℕ) → f.port ≢ r → told_by r e ≡ []) → ((r : ℕ) → f.port ≡ r → told_by r e ≡ (f.index, relayed) ∷ []) →
      IsRelayOf s g e → AreNamed s (record w { up = change w.up n (without_data (w.up n)); history = e ∷ w.history }) g
  unfolding told_at
  taken_named n f c low e relayed other here relay =
      let next : Flight = record w { up = change w.up n (without_data (w.up n)); history = e ∷ w.history } in
      let its : IsUp s w.system n f = each_first (IsUp s w.system n) (w.up n) f c.rest c.first (h.ups n c.link) in
      record {
        ports = λ r r_ext.
            let takes = carry_in_takes s setting.tree w.up n c.link low f c.rest c.first r (deep_of s r r_ext) its.below in
            let rest = waiting s (change w.up n (without_data (w.up n))) r in
            elim (cases_eq f.port r) [
              | inr far ↦ is_named s next g r (told_at r w.history) (waiting s w.up r) (length (g r)) (told_none r w.history e (other r far))
                  (ap (λ (z : List Word). z ++ rest) (sym (of_other r f far)) ∙ takes) refl (named_of s w g r (k.ports r r_ext))
              | inl same ↦
                  let was : waiting s w.up r ≡ f ∷ rest = sym takes ∙ ap (λ (z : List Word). z ++ rest) (of_here r f same) in
                  is_named s next g r (told_at r w.history ++ (f.index, relayed) ∷ []) rest (length (g r)) (ap (λ (z : List (ℕ × Bool)). told_at r w.history ++ z) (here r same)) refl refl
                  (named_taken (told_at r w.history) f.index (indices rest) (length (g r)) relayed (subst (λ (xs : List Word). Named (told_at r w.history) (indices xs) (length (g r))) was (named_of s w g r (k.ports r r_ext))))
            ];
        relays = (relay, k.relays);
        words = λ m link. each_less w.up n (IsWordOf g) m (k.words m link);
      }

  -- nothing of an arrival happens
  same_named : (next : Flight) → ((r : ℕ) → is_extended s r ≡ true → told_at r next.history ≡ told_at r w.history) → ((r : ℕ) → is_extended s r ≡ true → waiting s next.up r ≡ waiting s w.up r) →
      Each (IsRelayOf s g) next.history → ((n : ℕ) → IsLink s n → Each (IsWordOf g) (words_of (next.up n))) → AreNamed s next g
  same_named next told waits relays words =
      record {
        ports = λ r ext. is_named s next g r (told_at r w.history) (waiting s w.up r) (length (g r)) (told r ext) (waits r ext) refl (named_of s w g r (k.ports r ext));
        relays = relays;
        words = words;
      }

  words_as : (up : ℕ → List Item) → ((n : ℕ) → words_of (up n) ≡ words_of (w.up n)) → (n : ℕ) → IsLink s n → Each (IsWordOf g) (words_of (up n))
  words_as up same n link = subst (λ (ws : List Word). Each (IsWordOf g) ws) (sym (same n)) (k.words n link)

  -- what one step leaves waiting, where no word arrives or is taken
  waits_as : (x : Step) → Can s i w x → (r : ℕ) → is_extended s r ≡ true → taken_in x r ≡ [] → arrived_in w x r ≡ [] → waiting s (stepped s l i w x).up r ≡ waiting s w.up r
  waits_as x can r ext none_taken none_arrived =
      ap (λ (z : List Word). z ++ waiting s (stepped s l i w x).up r) (sym none_taken)
      ∙ (one_in_order s l i setting w h x can r (deep_of s r ext) ∙ (ap (λ (z : List Word). waiting s w.up r ++ z) none_arrived ∙ append-nil (waiting s w.up r)))

  other_named : (x : Step) → IsOther s x → Can s i w x → AreNamed s (stepped s l i w x) g
  other_named (Arrive p b) other can = absurd other
  other_named (CarryUp n f) other can =
      same_named (stepped s l i w (CarryUp n f)) (λ r ext. refl) (λ r ext. waits_as (CarryUp n f) can r ext refl refl) k.relays
      (λ m link. each_more (change w.up n (without_data (w.up n))) (device (on s n)) f (IsWordOf g) m (each_less w.up n (IsWordOf g) m (k.words m link)) (λ e. each_first (IsWordOf g) (w.up n) f can.0.rest can.0.first (k.words n can.0.link)))
  other_named (CarryIn n f) other can = absurd other
  other_named (Relay p f) other can =
      same_named (stepped s l i w (Relay p f))
      (λ r ext. told_none r w.history (event.Relay p.port p.index p.moment f) (far r ext)) (λ r ext. refl)
      ((λ ext. let d = (deep_of s p.port ext).deep in absurd (omega (arith, other, d))), k.relays) k.words
    where
      far : (r : ℕ) → is_extended s r ≡ true → told_by r (event.Relay p.port p.index p.moment f) ≡ []
      far r ext = (let d = (deep_of s r ext).deep in let e : p.port ≢ r = λ z. absurd (omega (arith, other, d, z)) in rw (ne_eqb p.port r e) refl)
  other_named (CarryDown n f) other can = same_named (stepped s l i w (CarryDown n f)) (λ r ext. refl) (λ r ext. refl) k.relays k.words
  other_named (SendDown n j) other can = same_named (stepped s l i w (SendDown n j)) (λ r ext. refl) (λ r ext. refl) k.relays k.words
  other_named (SendUp n j) other can = same_named (stepped s l i w (SendUp n j)) (λ r ext. refl) (λ r ext. waits_as (SendUp n j) can r ext refl refl) k.relays (words_as (add w.up n (Token j)) (words_add w.up n j))
  other_named (LoseDown n at) other can = same_named (stepped s l i w (LoseDown n at)) (λ r ext. refl) (λ r ext. refl) k.relays k.words
  other_named (LoseUp n at) other can = same_named (stepped s l i w (LoseUp n at)) (λ r ext. refl) (λ r ext. waits_as (LoseUp n at) can r ext refl refl) k.relays (words_as (change w.up n (without_token (w.up n) at)) (words_lose w.up n at))
  other_named (Move step) other can =
      let events = (systems.moved (decide s l) w.system step).events in
      let plain = moved_are (decide s l) w.system step in
      same_named (stepped s l i w (Move step)) (λ r ext. told_changes r events w.history plain) (λ r ext. refl) (relays_changes s g events w.history plain k.relays) k.words
  other_named (Note e) other can =
      same_named (stepped s l i w (Note e)) (λ r ext. told_none r w.history e (other r ext)) (λ r ext. refl) (relay_quiet s g e other, k.relays) k.words

  -- whatever is done
  pub deed_named : (d : Deed) → IsDeed s d → Runs s l i w (steps_of w g d) → AreNamed s (run s l i w (steps_of w g d)) (given_after g d)
  deed_named (Comes p t f bytes) is runs =
      elim (cases_Bool (nat_lt 0 ((tables_of w).own p))) [
        | inl e ↦ rw e (subst (λ (z : Flight). AreNamed s z (with_given g p (t, f))) (sym (arrived e)) (comes_waits p t f bytes is.0 is.1))
        | inr e ↦ rw e (comes_ignored p t f is.0)
      ]
    where
      arrived : nat_lt 0 ((tables_of w).own p) ≡ true →
          arrive w (record { port = p; index = next_index g p; moment = t }) bytes ≡ record w { up = add w.up (device p) (Data (record { bytes = bytes; port = p; index = next_index g p; moment = t })) }
      arrived e = ap (λ (b : Bool). cond {A = Flight} b (record w { up = add w.up (device p) (Data (record { bytes = bytes; port = p; index = next_index g p; moment = t })) }) w) e
  deed_named (Ignores p t f) is runs = comes_ignored p t f is.0
  deed_named (Taken n f) is runs =
      let c = runs.0 in
      let of : IsWordOf g f = each_first (IsWordOf g) (w.up n) f c.0.rest c.0.first (k.words n c.0.link) in
      elim (cases_Bool (is_relayed (bridge_of w) f.port (stripped f.bytes))) [
        | inl e ↦
            let m = taken_named n f c.0 c.1 (event.Relay f.port f.index f.moment (stripped f.bytes)) true
            (λ r far. ap (λ (b : Bool). cond {A = List (ℕ × Bool)} b ((f.index, true) ∷ []) []) (ne_eqb f.port r far)) (λ r same. ap (λ (b : Bool). cond {A = List (ℕ × Bool)} b ((f.index, true) ∷ []) []) (eq-eqb f.port r same)) (λ ext. of) in
            rw e (record { ports = λ r ext. (let q = m.ports r ext in record { once = q.once; rising = q.rising }); relays = m.relays; words = m.words })
        | inr e ↦ rw e (taken_named n f c.0 c.1 (event.Ignored f.port f.index) false
            (λ r far. ap (λ (b : Bool). cond {A = List (ℕ × Bool)} b ((f.index, false) ∷ []) []) (ne_eqb f.port r far)) (λ r same. ap (λ (b : Bool). cond {A = List (ℕ × Bool)} b ((f.index, false) ∷ []) []) (eq-eqb f.port r same)) tt)
      ]
  deed_named (Other x) is runs = other_named x is runs.0

-- ---- any run of deeds
module _ (round : TagRoundTrip) (words : SendsAreWords) (leave : SendsLeaveAsFlat) (s : Shape) (l : Limits) (i : Basis) (setting : IsSetting s l) where
  deeds_named : (ds : List Deed) (w : Flight) (g : Given) → Facts s i w → AreNamed s w g → Does s l i w g ds → AreNamed s (done_by s l i w g ds) (given_by g ds)
  deeds_named [] w g h k does = k
  deeds_named (d ∷ ds) w g h k does =
      deeds_named ds (run s l i w (steps_of w g d)) (given_after g d) (facts_run round words leave s l i setting (steps_of w g d) w h does.1) (deed_named s l i setting w h g k d does.0 does.1) does.2

-- at first nothing was given
first_named : (s : Shape) (l : Limits) (i : Basis) (r : ℕ) → IsNamed s (beginning s l i.start) (λ r. []) r
unfolding told_at waiting
first_named s l i r =
    is_named s (beginning s l i.start) (λ r. []) r [] [] 0 refl (none_waits s r 64 r) refl (record { once = none; rising = tt })
  where
    none : (n : ℕ) → 0 ≡ once_to 0 n
    none zero = refl
    none (suc n) = sym (ap (λ (b : Bool). cond {A = ℕ} (nat_lt 0 (suc n) && b) 1 0) (lt-leb (suc n) 0 (omega arith)) ∙ no_one (nat_lt 0 (suc n)))
      where
        no_one : (b : Bool) → cond {A = ℕ} (b && false) 1 0 ≡ 0
        no_one true = refl
        no_one false = refl

pub first_are_named : (s : Shape) (l : Limits) (i : Basis) → AreNamed s (beginning s l i.start) (λ r. [])
first_are_named s l i = record { ports = λ r ext. first_named s l i r; relays = tt; words = λ n link. tt }

pub named_once : TagRoundTrip → SendsAreWords → SendsLeaveAsFlat → NamedOnce
named_once round words leave s l i ds setting may does =
    deeds_named round words leave s l i setting ds (beginning s l i.start) (λ r. []) (begins_with s l i setting may)
    (record { ports = λ r ext. first_named s l i r; relays = tt; words = λ n link. tt }) does

-- A data word that goes down is flown: its extender sends it on at each port, or lets it leave there.
use Rattle.std.proofs.Common.{◌≡◌, ℕ, zero, suc, ◌+◌, ◌%◌, ◌==◌, ◌&&◌, ◌<◌, ◌≤◌, ◌++◌, not, Bool, true, false, List, [], ◌∷◌, map, Option, Some, None, refl, sym, ◌∙◌, ap, subst, arith, inl, inr}
use Rattle.std.specs.List.{flat_map, range_with_len}
use Rattle.std.proofs.lemmas.Bool.{cases_Bool, cases_eq, and_parts, and_from, eq-eqb, ne_eqb, eqb-true}
use Rattle.std.proofs.lemmas.List.{append-nil, append_assoc}
use mathlib.Core.Path.{fun_ext}
use Rattle.exb_model.specs.declared.event.Event.{Event}
use Rattle.exb_model.specs.ExtenderForwarding.{emits, emits_tagged}
use Rattle.exb_model.specs.ETags.{Tag, read_etag}
use Rattle.exb_model.specs.FlatBridge.{Sent as SentOut}
use Rattle.exb_model.specs.Tree.{Shape, IsTree, HangsOn, device, on, is_extender, is_external, is_cascade, is_port}
use Rattle.exb_model.specs.History.{Basis, History}
use Rattle.exb_control_spec.proofs.Plans.TreeWays.{hung_cascade}
use Rattle.exb_csp.specs.Execution.{ExtenderTables}
use Rattle.exb_extender.specs.declared.sends.Side.TheVariants as side
use Rattle.exb_csp.specs.AllTables.{port_of, tables_at}
use Rattle.exb_extender.specs.Forwarding.{Sent, forwarding_of}
use Rattle.exb_link.specs.declared.link_frame.Stamp.{Stamp}
use Rattle.exb_link.specs.declared.link_frame.LinkFrame.{LinkFrame}
use Rattle.exb_model.specs.Frames.{is_control_frame}
use Rattle.exb_world_spec.specs.Worlds.{World, Down, Left, Line, moment_of, left_at}
use Rattle.exb_model.specs.Tables.{at}
use Rattle.exb_world_spec.specs.Effects.{Effect, only, joined, then_do, each}
use Rattle.exb_world_spec.specs.ExtenderSteps.{hung_on, sends}
use Rattle.exb_world_spec.specs.ExtenderSteps.{sent_at as sent_at_port}
use Rattle.exb_world_spec.specs.Runs.Sessions.{Each}
use Rattle.exb_world_spec.proofs.Trunks.{hangs_there, hung_found, hung_is, extender_there}
use Rattle.exb_flight.specs.Items.{Word as Datum, Item, Data, copy, copies, stamped, data_of}
use Rattle.exb_flight.specs.Flight.{Flight, add}
use Rattle.exb_flight.proofs.SimulatedAscents.{thin_datum}
use Rattle.exb_flight.specs.Tokens.{Thins, datum, datum_by, items_on}
use Rattle.exb_flight.specs.SimulationRelation.{Shows}
use Rattle.exb_flight.proofs.SimulatedTicks.{none_left}
use Rattle.exb_flight.proofs.SimulatedRelay.{IsGrown, grown_none, grown_then, left_append}

-- a list, if a test passes
abbrev pub when : {A : Type 0} → Bool → List A → List A
when true xs = xs
when false xs = []

when_nil : {A : Type 0} (b : Bool) → when {A = A} b [] ≡ []
when_nil true = refl
when_nil false = refl

when_append : {A : Type 0} (b : Bool) (xs ys : List A) → when b (xs ++ ys) ≡ when b xs ++ when b ys
when_append true xs ys = refl
when_append false xs ys = refl

-- ---- what is done for one list and then another
joined_joined : (a b c : Effect) → joined a (joined b c) ≡ joined (joined a b) c
joined_joined a b c =
    let J : List Event → List Bool → List Left → List Line → Effect = λ es ps ls os. record { world = c.world; events = es; passed = ps; left = ls; outs = os } in
    sym (ap (λ (es : List Event). J es ((a.passed ++ b.passed) ++ c.passed) ((a.left ++ b.left) ++ c.left) ((a.outs ++ b.outs) ++ c.outs)) (append_assoc a.events b.events c.events)
    ∙ (ap (λ (ps : List Bool). J (a.events ++ (b.events ++ c.events)) ps ((a.left ++ b.left) ++ c.left) ((a.outs ++ b.outs) ++ c.outs)) (append_assoc a.passed b.passed c.passed)
    ∙ (ap (λ (ls : List Left). J (a.events ++ (b.events ++ c.events)) (a.passed ++ (b.passed ++ c.passed)) ls ((a.outs ++ b.outs) ++ c.outs)) (append_assoc a.left b.left c.left)
    ∙ ap (λ (os : List Line). J (a.events ++ (b.events ++ c.events)) (a.passed ++ (b.passed ++ c.passed)) (a.left ++ (b.left ++ c.left)) os) (append_assoc a.outs b.outs c.outs))))

each_append : {A : Type 0} (f : A → World → Effect) (xs ys : List A) (w : World) → each f (xs ++ ys) w ≡ then_do (each f xs w) (each f ys)
each_append f [] ys w = refl
each_append f (x ∷ xs) ys w = ap (joined (f x w)) (each_append f xs ys (f x w).world) ∙ joined_joined (f x w) (each f xs (f x w).world) (each f ys (each f xs (f x w).world).world)

module _ (t : Shape) (i : Basis) (tree : IsTree t) (h : History) (n : ℕ) (x : LinkFrame) where
  abbrev d : Datum
  d = datum_by x.bytes x.stamp

  copy_is : (g : List ℕ) (o : Option Stamp) → datum_by g o ≡ copy (datum_by x.bytes o) g
  copy_is g None = refl
  copy_is g (Some st) = refl

  moment_is : (o : Option Stamp) → moment_of o ≡ (datum_by x.bytes o).moment
  moment_is None = refl
  moment_is (Some st) = refl

  abbrev hangs_at : ℕ → ℕ → Bool
  hangs_at p k = is_extender t k && on t k == p

  grown_same : (gone : List Left) (g : Flight) (words more : ℕ → List Datum) (lefts others : ℕ → List SentOut) (e : Effect) → ((k : ℕ) → words k ≡ more k) → ((q : ℕ) → lefts q ≡ others q) → IsGrown t i h gone g words lefts e → IsGrown t i h gone g more others e
  grown_same gone g words more lefts others e a b k =
      subst (λ (z : ℕ → List Datum). IsGrown t i h gone g z others e) (fun_ext a) (subst (λ (z : ℕ → List SentOut). IsGrown t i h gone g words z e) (fun_ext b) k)

  -- one copy, at one port
  one_sent : (q : ℕ) (bytes : List ℕ) → is_control_frame bytes ≡ false → (w : World) (gone : List Left) (g : Flight) → Shows t i w h gone g →
      IsGrown t i h gone g (λ k. when (hangs_at (port_of n q) k) (copy d bytes ∷ [])) (λ p. when (p == port_of n q) ((d.moment, bytes) ∷ [])) (sends t n x.stamp (record { side = side.Port q; bytes = bytes }) w)
  one_sent q bytes plain w gone g s = by_hung (hung_on t (port_of n q)) refl
    where
      none_some : (k : ℕ) → None ≡ Some k → ⊥
      none_some k z = cc

      both : (b : Bool) → b ≡ true → b ≡ false → ⊥
      both b y z = cc

      at_port : (k m : ℕ) → k ≡ m → HangsOn t m (port_of n q) → hangs_at (port_of n q) k ≡ true
      at_port k m z hangs =
          ap (hangs_at (port_of n q)) z ∙ and_from (is_extender t m) (on t m == port_of n q) (extender_there t m (port_of n q) hangs) (eq-eqb (on t m) (port_of n q) hangs.at)

      off_port : (k m : ℕ) → (k ≡ m → ⊥) → HangsOn t m (port_of n q) → hangs_at (port_of n q) k ≡ false
      off_port k m ne hangs = elim (cases_Bool (hangs_at (port_of n q) k)) [
        | inr z ↦ z
        | inl z ↦
            let y = and_parts (is_extender t k) (on t k == port_of n q) z in
            absurd (ne (tree.alone k m (port_of n q) (subst (HangsOn t k) (eqb-true (on t k) (port_of n q) y.1) (hangs_there t k y.0)) hangs))
      ]

      not_not : (b : Bool) → not b ≡ true → b ≡ true → ⊥
      not_not true y z = both false y refl
      not_not false y z = both false z refl

      not_there : (p : ℕ) → is_external t p ≡ true → (m : ℕ) → HangsOn t m (port_of n q) → (p == port_of n q) ≡ false
      not_there p ext m hangs = ne_eqb p (port_of n q) (λ z. not_not (is_cascade t p) (and_parts (is_port t p) (not (is_cascade t p)) ext).1 (hung_cascade t tree m p (subst (HangsOn t m) (sym z) hangs)))

      by_hung : (o : Option ℕ) → hung_on t (port_of n q) ≡ o → IsGrown t i h gone g (λ k. when (hangs_at (port_of n q) k) (copy d bytes ∷ [])) (λ p. when (p == port_of n q) ((d.moment, bytes) ∷ [])) (sent_at_port n q o x.stamp bytes w)
      by_hung None e =
          let p0 : ℕ = port_of n q in
          let one : Left = record { port = port_of n q; moment = moment_of x.stamp; bytes = bytes } in
          let free : (k : ℕ) → hangs_at (port_of n q) k ≡ false = λ k. elim (cases_Bool (hangs_at (port_of n q) k)) [
            | inr z ↦ z
            | inl z ↦
                let y = and_parts (is_extender t k) (on t k == port_of n q) z in
                absurd (none_some k (sym e ∙ hung_found t tree k (port_of n q) (subst (HangsOn t k) (eqb-true (on t k) (port_of n q) y.1) (hangs_there t k y.0))))
          ] in
          let same : (p : ℕ) → when (p == port_of n q) ((d.moment, bytes) ∷ []) ≡ left_at p (one ∷ []) = λ p. elim (cases_eq p (port_of n q)) [
            | inl z ↦ rw (eq-eqb p (port_of n q) z, eq-eqb (port_of n q) p (sym z)) (ap (λ (m : ℕ). (m, bytes) ∷ []) (sym (moment_is x.stamp)))
            | inr z ↦ rw (ne_eqb p (port_of n q) z, ne_eqb (port_of n q) p (λ y. z (sym y))) refl
          ] in
          record {
            silent = refl;
            shows = record {
              system = s.system;
              down = λ k. rw (free k) (subst (λ (xs : List Item). Thins (items_on t w.control.held Down k (w.down k)) xs) (sym (append-nil (g.down k))) (s.down k));
              up = s.up;
              history = s.history;
              left = λ p ext. ap (λ (zs : List SentOut). zs ++ when (p == port_of n q) ((d.moment, bytes) ∷ [])) (s.left p ext) ∙ (ap (λ (zs : List SentOut). left_at p gone ++ zs) (same p) ∙ sym (left_append p gone (one ∷ [])));
              learned = s.learned;
            };
          }
      by_hung (Some m) e =
          let hangs : HangsOn t m (port_of n q) = hung_is t (port_of n q) m e in
          let word : LinkFrame = record { bytes = bytes; stamp = x.stamp } in
          let add_is : (k : ℕ) → add g.down m (Data (datum word)) k ≡ g.down k ++ data_of (when (hangs_at (port_of n q) k) (copy d bytes ∷ [])) = λ k. elim (cases_eq k m) [
            | inl z ↦ rw (eq-eqb k m z, at_port k m z hangs) (ap (λ (y : Datum). g.down k ++ Data y ∷ []) (copy_is bytes x.stamp))
            | inr z ↦ rw (ne_eqb k m z, off_port k m z hangs) (sym (append-nil (g.down k)))
          ] in
          let thin = thin_datum t w.control.held Down w.down g.down m word plain s.down in
          record {
            silent = refl;
            shows = none_left t i _ h gone _ (record {
              system = s.system;
              down = λ k. subst (λ (xs : List Item). Thins (items_on t w.control.held Down k (at m (w.down m ++ word ∷ []) w.down k)) xs) (add_is k) (thin k);
              up = s.up;
              history = s.history;
              left = λ p ext. rw (not_there p ext m hangs) (append-nil (g.left p) ∙ s.left p ext);
              learned = s.learned;
            });
          }

  -- all copies at one port
  group_sent : (q : ℕ) (gs : List (List ℕ)) → Each (λ (z : List ℕ). is_control_frame z ≡ false) gs → (w : World) (gone : List Left) (g : Flight) → Shows t i w h gone g →
      IsGrown t i h gone g (λ k. when (hangs_at (port_of n q) k) (copies d gs)) (λ p. when (p == port_of n q) (stamped d gs)) (each (sends t n x.stamp) (map (λ z. record { side = side.Port q; bytes = z }) gs) w)
  group_sent q [] all w gone g s =
      grown_same gone g (λ k. []) (λ k. when (hangs_at (port_of n q) k) []) (λ p. []) (λ p. when (p == port_of n q) []) (only w) (λ k. sym (when_nil (hangs_at (port_of n q) k))) (λ p. sym (when_nil (p == port_of n q))) (grown_none t i tree h w gone g s)
  group_sent q (z ∷ zs) all w gone g s =
      let y : Sent = record { side = side.Port q; bytes = z } in
      let e : Effect = sends t n x.stamp y w in
      let rest : World → Effect = each (sends t n x.stamp) (map (λ b. record { side = side.Port q; bytes = b }) zs) in
      let one = one_sent q z all.0 w gone g s in
      grown_same gone g (λ k. when (hangs_at (port_of n q) k) (copy d z ∷ []) ++ when (hangs_at (port_of n q) k) (copies d zs)) (λ k. when (hangs_at (port_of n q) k) (copy d z ∷ copies d zs))
      (λ p. when (p == port_of n q) ((d.moment, z) ∷ []) ++ when (p == port_of n q) (stamped d zs)) (λ p. when (p == port_of n q) ((d.moment, z) ∷ stamped d zs)) (then_do e rest)
      (λ k. sym (when_append (hangs_at (port_of n q) k) (copy d z ∷ []) (copies d zs))) (λ p. sym (when_append (p == port_of n q) ((d.moment, z) ∷ []) (stamped d zs)))
      (grown_then t i tree h gone g (λ k. when (hangs_at (port_of n q) k) (copy d z ∷ [])) (λ k. when (hangs_at (port_of n q) k) (copies d zs)) (λ p. when (p == port_of n q) ((d.moment, z) ∷ [])) (λ p. when (p == port_of n q) (stamped d zs)) e rest one
      (group_sent q zs all.1 e.world (gone ++ e.left) _ one.shows))

  -- all copies at a range of ports
  pub range_sent : (gs : ℕ → List (List ℕ)) → ((q : ℕ) → Each (λ (z : List ℕ). is_control_frame z ≡ false) (gs q)) → (a m : ℕ) → (w : World) (gone : List Left) (g : Flight) → Shows t i w h gone g →
      IsGrown t i h gone g (λ k. flat_map (λ q. when (hangs_at (port_of n q) k) (copies d (gs q))) (range_with_len a m)) (λ p. flat_map (λ q. when (p == port_of n q) (stamped d (gs q))) (range_with_len a m))
      (each (sends t n x.stamp) (flat_map (λ q. map (λ z. record { side = side.Port q; bytes = z }) (gs q)) (range_with_len a m)) w)
  range_sent gs all a zero w gone g s = grown_none t i tree h w gone g s
  range_sent gs all a (suc m) w gone g s =
      let mine : List Sent = map (λ z. record { side = side.Port a; bytes = z }) (gs a) in
      let others : List Sent = flat_map (λ q. map (λ z. record { side = side.Port q; bytes = z }) (gs q)) (range_with_len (a + 1) m) in
      let e : Effect = each (sends t n x.stamp) mine w in
      let one = group_sent a (gs a) (all a) w gone g s in
      let words : ℕ → List Datum = λ k. when (hangs_at (port_of n a) k) (copies d (gs a)) in
      let more : ℕ → List Datum = λ k. flat_map (λ q. when (hangs_at (port_of n q) k) (copies d (gs q))) (range_with_len (a + 1) m) in
      let lefts : ℕ → List SentOut = λ p. when (p == port_of n a) (stamped d (gs a)) in
      let later : ℕ → List SentOut = λ p. flat_map (λ q. when (p == port_of n q) (stamped d (gs q))) (range_with_len (a + 1) m) in
      subst (IsGrown t i h gone g (λ k. words k ++ more k) (λ p. lefts p ++ later p)) (sym (each_append (sends t n x.stamp) mine others w))
      (grown_then t i tree h gone g words more lefts later e (each (sends t n x.stamp) others) one (range_sent gs all (a + 1) m e.world (gone ++ e.left) _ one.shows))

-- ---- one port of a range
pub picked_none : {A : Type 0} (T : ℕ → Bool) (P : ℕ → List A) (a m : ℕ) → ((q : ℕ) → a ≤ q → q < a + m → T q ≡ false) → flat_map (λ q. when (T q) (P q)) (range_with_len a m) ≡ []
picked_none T P a zero off = refl
picked_none T P a (suc m) off = rw (off a (omega arith) (omega arith)) (picked_none T P (a + 1) m (λ q low high. off q (omega (arith, low)) (omega (arith, high))))

pub picked_one : {A : Type 0} (T : ℕ → Bool) (P : ℕ → List A) (q0 : ℕ) → T q0 ≡ true → (a m : ℕ) → a ≤ q0 → q0 < a + m → ((q : ℕ) → a ≤ q → q < a + m → (q ≡ q0 → ⊥) → T q ≡ false) →
    flat_map (λ q. when (T q) (P q)) (range_with_len a m) ≡ P q0
picked_one T P q0 on a zero low high off = absurd (omega (arith, low, high))
picked_one T P q0 on a (suc m) low high off =
    elim (cases_eq a q0) [
      | inl z ↦
          let rest : flat_map (λ q. when (T q) (P q)) (range_with_len (a + 1) m) ≡ [] = picked_none T P (a + 1) m (λ q l u. off q (omega (arith, l)) (omega (arith, u)) (λ e. omega (arith, l, e, z))) in
          ap (λ (b : Bool). when b (P a) ++ flat_map (λ q. when (T q) (P q)) (range_with_len (a + 1) m)) (ap T z ∙ on) ∙ (ap (λ (zs : List _). P a ++ zs) rest ∙ (append-nil (P a) ∙ ap P z))
      | inr z ↦
          ap (λ (b : Bool). when b (P a) ++ flat_map (λ q. when (T q) (P q)) (range_with_len (a + 1) m)) (off a (omega arith) (omega (arith, low, high)) z)
          ∙ picked_one T P q0 on (a + 1) m (omega (arith, low, z)) (omega (arith, high)) (λ q l u ne. off q (omega (arith, l)) (omega (arith, u)) ne)
    ]

-- what an extender emits at a port of its own is what all tables together emit there
pub emits_there : (all : ℕ → ExtenderTables) (p : ℕ) (f : List ℕ) → emits (forwarding_of (all (device p))) (p % 64 + 1) f ≡ emits (tables_at all) p f
unfolding emits
emits_there all p f = by_tag (read_etag f)
  where
    by_tag : (o : Option Tag) → emits_tagged (forwarding_of (all (device p))) (p % 64 + 1) f o ≡ emits_tagged (tables_at all) p f o
    by_tag None = refl
    by_tag (Some tag) = refl

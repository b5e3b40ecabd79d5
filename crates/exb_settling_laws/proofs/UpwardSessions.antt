-- One word is taken from below, and the control stays: each session that matters is as if it had been taken already.
use Rattle.std.proofs.Common.{◌≡◌, ◌≢◌, inl, inr, ℕ, ◌≤◌, ◌<◌, Bool, true, false, cond, List, [], ◌∷◌, ◌++◌, append-nil, Option, Some, None, refl, ap, sym, ◌∙◌, subst, arith}
use Rattle.std.proofs.lemmas.Bool.{cases_eq, and_parts, eqb-true, le-ltb}
use Rattle.exb_model.specs.Tree.{Shape, IsTree, device, on, is_extender, depth, port_number}
use Rattle.exb_model.specs.Setup.{Limits}
use Rattle.exb_model.proofs.TreeOrder.{less_deep}
use Rattle.exb_frame.specs.TagValues.{TagRoundTrip}
use Rattle.exb_ecp.specs.StopAndWait.{State as Ecp}
use Rattle.exb_csp.specs.Execution.{ExtenderTables}
use Rattle.exb_extender.specs.declared.sends.Side.TheVariants as side
use Rattle.exb_extender.specs.Forwarding.{Sent, emitted, sent_from_cascade, sent_from_external}
use Rattle.exb_extender.specs.Machine.{ExtenderState, Arrives, react}
use Rattle.exb_link.specs.declared.link_frame.Stamp.{Stamp}
use Rattle.exb_link.specs.declared.link_frame.LinkFrame.{LinkFrame}
use Rattle.exb_link.specs.LinkFrames.{is_control}
use Rattle.exb_control_spec.specs.Plans.HeldNumbers.{Held}
use Rattle.exb_csp.specs.Sessions.AskingEnd.{AskerState}
use Rattle.exb_control_spec.specs.Machine.{State}
use Rattle.exb_world_spec.specs.Worlds.{World, Up, with_up, with_far, push_up}
use Rattle.exb_model.specs.Tables.{at}
use Rattle.exb_world_spec.specs.Effects.{only, each}
use Rattle.exb_world_spec.specs.ExtenderSteps.{hung_on, sends, sent_at, sent_to, reacts, takes_from_below}
use Rattle.exb_world_spec.specs.Runs.Sessions.{Each}
use Rattle.exb_world_spec.specs.Steps.{takes}
use Rattle.exb_world_spec.proofs.Trunks.{hangs_there, above_there}
use Rattle.exb_world_spec.proofs.LinkFrames.{at_here, at_other, at_itself, each_weaker}
use Rattle.exb_settling_laws.specs.StopAndWait.{Message as Note, End}
use Rattle.exb_settling_laws.specs.SessionPair.{Near, Far, far_empty}
use Rattle.exb_settling_laws.specs.Streams.{note_of, plain, is_of, notes_if, words_of, ups_of, downs_of, near_at, far_at, end_of}
use Rattle.exb_settling_laws.specs.SettlingFacts.{Facts, IsAbove, IsOwned, WordFacts, IsReached, ComesUp}
use Rattle.exb_settling_laws.proofs.ControlFrameDecoding.{is_mine}
use Rattle.exb_settling_laws.proofs.LinkGrowth.{Longer, Grows, MaySend, does_grows, never_longer}
use Rattle.exb_settling_laws.proofs.Streams.{noted, words_append, words_last, MovedUp, moved_up, ups_same, downs_same}
use Rattle.exb_settling_laws.proofs.SessionRounds.{depth_few}
use Rattle.exb_settling_laws.proofs.ControlTurns.{reacts_ends}
use Rattle.exb_settling_laws.proofs.Upward.{GoesUp, goes_up, NotOf, SentNotOf, other_up}

-- words that aren't of a stream don't change it
module _ (t : Shape) (tree : IsTree t) (round : TagRoundTrip) (h : Held) (j : ℕ) where
  none_of : (m : ℕ) (ws : List LinkFrame) → Each (NotOf t tree round h j m) ws → words_of t h j m ws ≡ []
  none_of m [] all = refl
  none_of m (x ∷ xs) all = ap (λ (b : Bool). notes_if b (note_of (plain x.bytes)) ++ words_of t h j m xs) all.0 ∙ none_of m xs all.1

  pub same_words : (m : ℕ) (xs ys : List LinkFrame) → Longer (NotOf t tree round h j m) xs ys → words_of t h j m ys ≡ words_of t h j m xs
  same_words m xs ys g =
      ap (words_of t h j m) g.is ∙ words_append t h j m xs g.more ∙ ap (λ (v : List Note). words_of t h j m xs ++ v) (none_of m g.more g.each_is) ∙ append-nil (words_of t h j m xs)

-- ---- what the far ends are
module _ (t : Shape) where
  sent_at_far : (n k : ℕ) (o : Option ℕ) (stamp : Option Stamp) (bytes : List ℕ) (w : World) → (sent_at n k o stamp bytes w).world.far ≡ w.far
  sent_at_far n k None stamp bytes w = refl
  sent_at_far n k (Some m) stamp bytes w = refl

  sends_far : (n : ℕ) (stamp : Option Stamp) (s : Sent) (w : World) → (sends t n stamp s w).world.far ≡ w.far
  sends_far n stamp s w = by_side s.side
    where
      by_side : (z : Rattle.exb_extender.specs.declared.sends.Side.Side) → (sent_to t n stamp z s.bytes w).world.far ≡ w.far
      by_side side.Up = refl
      by_side (side.Port k) = sent_at_far n k (hung_on t (Rattle.exb_csp.specs.AllTables.port_of n k)) stamp s.bytes w

  pub each_far : (n : ℕ) (stamp : Option Stamp) (xs : List Sent) (w : World) → (each (sends t n stamp) xs w).world.far ≡ w.far
  each_far n stamp [] w = refl
  each_far n stamp (x ∷ xs) w = each_far n stamp xs (sends t n stamp x w).world ∙ sends_far n stamp x w

-- ---- parts of a session
near_is : (a c : End) (w1 w2 : Bool) (s1 s2 b1 b2 : ℕ) (m1 m2 : List Note) → a ≡ c → w1 ≡ w2 → s1 ≡ s2 → b1 ≡ b2 → m1 ≡ m2 →
    ◌≡◌ {A = Near} (record { link = a; waits = w1; serial = s1; beats = b1; sent = m1 }) (record { link = c; waits = w2; serial = s2; beats = b2; sent = m2 })
near_is a c w1 w2 s1 s2 b1 b2 m1 m2 e f g h k = cc

pub near_same : (t : Shape) (w v : World) (j : ℕ) → v.control ≡ w.control → v.near ≡ w.near → downs_of t w.control.held v.down j 64 j ≡ downs_of t w.control.held w.down j 64 j → near_at t v j ≡ near_at t w j
near_same t w v j control near downs =
    let asker : v.control.askers j ≡ w.control.askers j = ap (λ (x : State). x.askers j) control in
    near_is _ _ _ _ _ _ _ _ _ _ (ap (λ (x : ℕ → Ecp). end_of (x j)) near) (ap (λ (x : AskerState). Rattle.std.specs.Prelude.is_some x.waiting) asker) (ap (λ (x : AskerState). x.serial) asker) (ap (λ (x : AskerState). x.beats) asker)
    (ap (λ (x : State). downs_of t x.held v.down j 64 j) control ∙ downs)

far_is : (a c : End) (l1 l2 c1 c2 : ℕ) (m1 m2 : List Note) → a ≡ c → l1 ≡ l2 → c1 ≡ c2 → m1 ≡ m2 → ◌≡◌ {A = Far} (record { link = a; last = l1; count = c1; sent = m1 }) (record { link = c; last = l2; count = c2; sent = m2 })
far_is a c l1 l2 c1 c2 m1 m2 e f g h = cc

pub far_same : (t : Shape) (w v : World) (j : ℕ) → v.far ≡ w.far → far_empty (far_at t v j) ≡ far_empty (far_at t w j)
far_same t w v j far =
    let one : v.far j ≡ w.far j = ap (λ (x : ℕ → ExtenderState). x j) far in
    far_is _ _ _ _ _ _ _ _ (ap (λ (x : ExtenderState). end_of x.ecp) one) (ap (λ (x : ExtenderState). x.session.last) one) (ap (λ (x : ExtenderState). x.beats) one) refl

-- ---- onto the link above
module _ (t : Shape) (l : Limits) (tree : IsTree t) (round : TagRoundTrip) (w : World) (facts : Facts t l w) (n : ℕ) (x : LinkFrame) (rest : List LinkFrame) (there : is_extender t n ≡ true) (first : w.up n ≡ x ∷ rest) (deep : 64 ≤ on t n) (j : ℕ) (j_there : is_extender t j ≡ true) where
  abbrev v : World
  v = (takes t l n Up x (with_up n rest w)).world

  abbrev below : World
  below = (takes_from_below t (device (on t n)) (port_number (on t n)) x (with_up n rest w)).world

  word_facts : WordFacts t w.control.held (ComesUp t w.control w.far) n x
  word_facts = (let P : List LinkFrame → Type 0 = Each (WordFacts t w.control.held (ComesUp t w.control w.far) n) in subst P first (facts.ups n there)).0

  a_there : is_extender t (device (on t n)) ≡ true
  a_there = above_there t tree n there deep

  lower : depth t (device (on t n)) < depth t n
  lower = less_deep t tree n (on t n) (hangs_there t n there) deep

  apart : device (on t n) ≢ n
  apart e = let z : depth t (device (on t n)) ≡ depth t n = ap (depth t) e in let q = lower in omega arith

  v_is : (takes t l n Up x (with_up n rest w)).world ≡ (takes_from_below t (device (on t n)) (port_number (on t n)) x (with_up n rest w)).world
  v_is = ap (λ (b : Bool). (cond b (Rattle.exb_world_spec.specs.DataFrames.bridge_takes t l (on t n) n x (with_up n rest w)) (takes_from_below t (device (on t n)) (port_number (on t n)) x (with_up n rest w))).world) (le-ltb (on t n) 64 deep)

  -- of the stream: it moves
  abbrev moved_world : List ℕ → World
  moved_world g = push_up (device (on t n)) (record { bytes = g; stamp = x.stamp }) (with_far (device (on t n)) (w.far (device (on t n))) (with_up n rest w))

  emitted_is : (z : ExtenderTables) (k : ℕ) (f : List ℕ) (xs : List Sent) → z.cascade k ≡ true → sent_from_cascade (z.own k) f ≡ xs → emitted z (side.Port k) f ≡ xs
  unfolding emitted
  emitted_is z k f xs c e = ap (λ (b : Bool). cond b (sent_from_cascade (z.own k) f) (sent_from_external (z.own k) f)) c ∙ e

  moves_to : (g : GoesUp t tree round w.control.held w.far j n x.bytes) → (takes t l n Up x (with_up n rest w)).world ≡ moved_world g.frame
  moves_to g =
      let a : ℕ = device (on t n) in
      let k : ℕ = port_number (on t n) in
      let s : ExtenderState = w.far (device (on t n)) in
      v_is
      ∙ ap (λ (b : Bool). (cond b (reacts t (device (on t n)) x.stamp (Arrives (side.Port (port_number (on t n))) x.bytes) (with_up n rest w)) (only (with_up n rest w))).world) g.cascade
      ∙ ap (λ (xs : List Sent). (each (sends t (device (on t n)) x.stamp) xs (with_far (device (on t n)) (w.far (device (on t n))) (with_up n rest w))).world)
      (emitted_is (w.far (device (on t n))).tables (port_number (on t n)) x.bytes (Rattle.exb_extender.specs.Forwarding.up g.frame ∷ []) g.cascade g.sent)

  pub mine_moves : is_of t w.control.held j n x ≡ true → IsReached t w j →
      (near_at t (takes t l n Up x (with_up n rest w)).world j ≡ near_at t w j) × (far_empty (far_at t (takes t l n Up x (with_up n rest w)).world j) ≡ far_empty (far_at t w j)) × ((far_at t (takes t l n Up x (with_up n rest w)).world j).sent ≡ (far_at t w j).sent)
  mine_moves mine reached =
      let h : Held = w.control.held in
      let p : ℕ = device (on t n) in
      let both = and_parts (is_control x) (Rattle.exb_settling_laws.specs.Streams.is_the j (Rattle.exb_settling_laws.specs.Streams.addressee t w.control.held n x.bytes)) mine in
      let own : IsOwned t w.control.held (ComesUp t w.control w.far) n x = word_facts.owned both.0 in
      let is_j : own.of ≡ j = eqb-true own.of j (ap (Rattle.exb_settling_laws.specs.Streams.is_the j) (sym own.addressed) ∙ both.1) in
      let g : GoesUp t tree round w.control.held w.far j n x.bytes = goes_up t tree round w.control.held w.far j n there deep (ComesUp t w.control w.far) x both.0 own is_j reached in
      let y : LinkFrame = record { bytes = g.frame; stamp = x.stamp } in
      let f : ℕ → List LinkFrame = (moved_world g.frame).up in
      let to : (takes t l n Up x (with_up n rest w)).world ≡ moved_world g.frame = moves_to g in
      let y_mine : is_of t w.control.held j (device (on t n)) (record { bytes = g.frame; stamp = x.stamp }) ≡ true = is_mine t tree w.control.held j (device (on t n)) (record { bytes = g.frame; stamp = x.stamp }) g.forwarded.control g.forwarded.addressed in
      let notes : noted t w.control.held j (device (on t n)) (record { bytes = g.frame; stamp = x.stamp }) ≡ noted t w.control.held j n x =
      ap (λ (b : Bool). notes_if b (note_of (plain g.frame))) y_mine ∙ ap (λ (z : List ℕ). notes_if true (note_of z)) g.forwarded.plain_is ∙ sym (ap (λ (b : Bool). notes_if b (note_of (plain x.bytes))) mine) in
      let at_p : (moved_world g.frame).up (device (on t n)) ≡ w.up (device (on t n)) ++ record { bytes = g.frame; stamp = x.stamp } ∷ [] =
      at_here (device (on t n)) (at n rest w.up (device (on t n)) ++ record { bytes = g.frame; stamp = x.stamp } ∷ []) (at n rest w.up) ∙ ap (λ (ws : List LinkFrame). ws ++ record { bytes = g.frame; stamp = x.stamp } ∷ []) (at_other n (device (on t n)) rest w.up apart) in
      let at_n : (moved_world g.frame).up n ≡ rest = at_other (device (on t n)) n (at n rest w.up (device (on t n)) ++ record { bytes = g.frame; stamp = x.stamp } ∷ []) (at n rest w.up) (λ e. apart (sym e)) ∙ at_here n rest w.up in
      let m : MovedUp t w.control.held j tree n w.up (moved_world g.frame).up = record {
        there = there;
        deep = deep;
        note = noted t w.control.held j n x;
        from = ap (words_of t w.control.held j n) first ∙ ap (λ (ws : List LinkFrame). noted t w.control.held j n x ++ words_of t w.control.held j n ws) (sym at_n);
        onto = ap (words_of t w.control.held j (device (on t n))) at_p ∙ words_last t w.control.held j (device (on t n)) (w.up (device (on t n))) (record { bytes = g.frame; stamp = x.stamp })
            ∙ ap (λ (ns : List Note). words_of t w.control.held j (device (on t n)) (w.up (device (on t n))) ++ ns) notes;
        others = λ k k_n k_p. ap (words_of t w.control.held j k) (at_other (device (on t n)) k (at n rest w.up (device (on t n)) ++ record { bytes = g.frame; stamp = x.stamp } ∷ []) (at n rest w.up) k_p ∙ at_other n k rest w.up k_n);
      } in
      let above : IsAbove t 64 n j = (let P : ℕ → Type 0 = λ z. IsAbove t 64 n z in subst P is_j own.below) in
      let ups : ups_of t w.control.held w.up j 64 j ≡ ups_of t w.control.held (moved_world g.frame).up j 64 j = moved_up t w.control.held j tree 64 j n w.up (moved_world g.frame).up j_there (depth_few t tree j j_there) above m in (
        ap (λ (z : World). near_at t z j) to,
        ap (λ (z : World). far_empty (far_at t z j)) to ∙ far_same t w (moved_world g.frame) j (at_itself (device (on t n)) w.far),
        ap (λ (z : World). (far_at t z j).sent) to ∙ sym ups,
      )

  -- of another: nothing changes
  pub other_moves : is_of t w.control.held j n x ≡ false →
      (near_at t (takes t l n Up x (with_up n rest w)).world j ≡ near_at t w j) × (far_empty (far_at t (takes t l n Up x (with_up n rest w)).world j) ≡ far_empty (far_at t w j)) × ((far_at t (takes t l n Up x (with_up n rest w)).world j).sent ≡ (far_at t w j).sent)
  other_moves other = by_cascade ((w.far (device (on t n))).tables.cascade (port_number (on t n))) refl
    where
      H : Held
      H = w.control.held

      popped : (m : ℕ) → words_of t w.control.held j m (at n rest w.up m) ≡ words_of t w.control.held j m (w.up m)
      popped m =
          elim (cases_eq m n) [
            | inl e ↦
                let P : ℕ → Type 0 = λ z. words_of t w.control.held j z (at n rest w.up z) ≡ words_of t w.control.held j z (w.up z) in
                subst P (sym e) (ap (words_of t w.control.held j n) (at_here n rest w.up) ∙ sym (ap (words_of t w.control.held j n) first ∙ ap (λ (b : Bool). notes_if b (note_of (plain x.bytes)) ++ words_of t w.control.held j n rest) other))
            | inr e ↦ ap (words_of t w.control.held j m) (at_other n m rest w.up e)
          ]

      Here : World → Type 0
      Here u = (near_at t u j ≡ near_at t w j) × (far_empty (far_at t u j) ≡ far_empty (far_at t w j)) × ((far_at t u j).sent ≡ (far_at t w j).sent)

      stays : Here (with_up n rest w)
      stays = (refl, refl, ups_same t w.control.held j tree (at n rest w.up) w.up 64 j j_there (λ m low. popped m))

      by_cascade : (b : Bool) → (w.far (device (on t n))).tables.cascade (port_number (on t n)) ≡ b → Here (takes t l n Up x (with_up n rest w)).world
      by_cascade false c =
          let to : (takes t l n Up x (with_up n rest w)).world ≡ with_up n rest w =
          v_is ∙ ap (λ (b : Bool). (cond b (reacts t (device (on t n)) x.stamp (Arrives (side.Port (port_number (on t n))) x.bytes) (with_up n rest w)) (only (with_up n rest w))).world) c in
          subst Here (sym to) stays
      by_cascade true c =
          let u : World = (reacts t (device (on t n)) x.stamp (Arrives (side.Port (port_number (on t n))) x.bytes) (with_up n rest w)).world in
          let to : (takes t l n Up x (with_up n rest w)).world ≡ (reacts t (device (on t n)) x.stamp (Arrives (side.Port (port_number (on t n))) x.bytes) (with_up n rest w)).world =
          v_is ∙ ap (λ (b : Bool). (cond b (reacts t (device (on t n)) x.stamp (Arrives (side.Port (port_number (on t n))) x.bytes) (with_up n rest w)) (only (with_up n rest w))).world) c in
          let ends = reacts_ends t (device (on t n)) x.stamp (Arrives (side.Port (port_number (on t n))) x.bytes) (with_up n rest w) in
          let N : ℕ → LinkFrame → Type 0 = NotOf t tree round w.control.held j in
          let sent : Each (SentNotOf t tree round w.control.held j (device (on t n)) x.stamp) (emitted (w.far (device (on t n))).tables (side.Port (port_number (on t n))) x.bytes) =
          (let P : List Sent → Type 0 = Each (SentNotOf t tree round w.control.held j (device (on t n)) x.stamp) in
          subst P (sym (emitted_is (w.far (device (on t n))).tables (port_number (on t n)) x.bytes (sent_from_cascade ((w.far (device (on t n))).tables.own (port_number (on t n))) x.bytes) c refl))
          (other_up t tree round w.control.held w.far facts.routes j n there deep (facts.far (device (on t n)) a_there).extender (ComesUp t w.control w.far) x word_facts other x.stamp)) in
          let grows : Grows t l (λ m y. ⊥) (NotOf t tree round w.control.held j) (with_up n rest w) (reacts t (device (on t n)) x.stamp (Arrives (side.Port (port_number (on t n))) x.bytes) (with_up n rest w)).world =
          does_grows t l (λ m y. ⊥) (NotOf t tree round w.control.held j) (device (on t n)) x.stamp (react (Arrives (side.Port (port_number (on t n))) x.bytes) (w.far (device (on t n)))) (with_up n rest w)
          (each_weaker (SentNotOf t tree round w.control.held j (device (on t n)) x.stamp) (MaySend t l (λ m y. ⊥) (NotOf t tree round w.control.held j) (device (on t n)) x.stamp) (emitted (w.far (device (on t n))).tables (side.Port (port_number (on t n))) x.bytes)
          (λ s p. record { rises = (λ z. p.1); sinks = (λ q m z hangs. up_port q (sym p.0 ∙ z)) }) sent) in
          let downs : downs_of t w.control.held (reacts t (device (on t n)) x.stamp (Arrives (side.Port (port_number (on t n))) x.bytes) (with_up n rest w)).world.down j 64 j ≡ downs_of t w.control.held w.down j 64 j =
          downs_same t w.control.held j tree (reacts t (device (on t n)) x.stamp (Arrives (side.Port (port_number (on t n))) x.bytes) (with_up n rest w)).world.down w.down 64 j j_there (λ m low. ap (words_of t w.control.held j m) (never_longer (w.down m) ((reacts t (device (on t n)) x.stamp (Arrives (side.Port (port_number (on t n))) x.bytes) (with_up n rest w)).world.down m) (grows.downs m))) in
          let ups : ups_of t w.control.held (reacts t (device (on t n)) x.stamp (Arrives (side.Port (port_number (on t n))) x.bytes) (with_up n rest w)).world.up j 64 j ≡ ups_of t w.control.held w.up j 64 j =
          ups_same t w.control.held j tree (reacts t (device (on t n)) x.stamp (Arrives (side.Port (port_number (on t n))) x.bytes) (with_up n rest w)).world.up w.up 64 j j_there
          (λ m low. same_words t tree round w.control.held j m (at n rest w.up m) ((reacts t (device (on t n)) x.stamp (Arrives (side.Port (port_number (on t n))) x.bytes) (with_up n rest w)).world.up m) (grows.ups m) ∙ popped m) in
          let far : (reacts t (device (on t n)) x.stamp (Arrives (side.Port (port_number (on t n))) x.bytes) (with_up n rest w)).world.far ≡ w.far =
          each_far t (device (on t n)) x.stamp (emitted (w.far (device (on t n))).tables (side.Port (port_number (on t n))) x.bytes) (with_far (device (on t n)) (w.far (device (on t n))) (with_up n rest w)) ∙ at_itself (device (on t n)) w.far in
          subst Here (sym to) (
            near_same t w (reacts t (device (on t n)) x.stamp (Arrives (side.Port (port_number (on t n))) x.bytes) (with_up n rest w)).world j ends.control ends.near downs,
            far_same t w (reacts t (device (on t n)) x.stamp (Arrives (side.Port (port_number (on t n))) x.bytes) (with_up n rest w)).world j far,
            ap (λ (s : State). ups_of t s.held (reacts t (device (on t n)) x.stamp (Arrives (side.Port (port_number (on t n))) x.bytes) (with_up n rest w)).world.up j 64 j) ends.control ∙ ups,
          )
        where
          up_port : (q : ℕ) → side.Up ≡ side.Port q → ⊥
          up_port q z = cc

-- A control word comes to its own extender: its end hears the note, and no other session changes.
use Rattle.std.proofs.Common.{◌≡◌, ◌≢◌, inl, inr, ⊎_elim, ℕ, suc, ◌<◌, Bool, true, false, cond, List, [], ◌∷◌, ◌++◌, append_assoc, append-nil, Option, Some, None, refl, ap, sym, ◌∙◌, subst, arith}
use Rattle.std.proofs.lemmas.Bool.{cases_lt, cases_eq, lt-ltb, le-ltb}
use Rattle.exb_model.specs.Tree.{Shape, IsTree, device, on, is_extender, depth}
use Rattle.exb_model.specs.Setup.{Limits}
use Rattle.exb_model.specs.ETags.{read_etag}
use Rattle.exb_model.proofs.TreeOrder.{less_deep}
use Rattle.exb_frame.specs.TagValues.{TagRoundTrip}
use Rattle.exb_ecp.specs.StopAndWait.{State as Ecp}
use Rattle.exb_extender.specs.declared.sends.Side.TheVariants as side
use Rattle.exb_extender.specs.Forwarding.{Sent, emitted, is_bare_control, has_etag_type, channel_tag}
use Rattle.exb_extender.specs.Machine.{ExtenderState, Arrives, hears}
use Rattle.exb_link.specs.declared.link_frame.Stamp.{Stamp}
use Rattle.exb_link.specs.declared.link_frame.LinkFrame.{LinkFrame}
use Rattle.exb_link.specs.LinkFrames.{is_control}
use Rattle.exb_control_spec.specs.Plans.HeldNumbers.{Held}
use Rattle.exb_control_spec.specs.Machine.{State}
use Rattle.exb_world_spec.specs.Worlds.{World, Down, with_down, with_far, push_up}
use Rattle.exb_model.specs.Tables.{at}
use Rattle.exb_world_spec.specs.Effects.{each}
use Rattle.exb_world_spec.specs.ExtenderSteps.{sends, sent_to, does}
use Rattle.exb_world_spec.specs.Runs.Sessions.{Each, IsTagged}
use Rattle.exb_world_spec.specs.Steps.{takes}
use Rattle.exb_world_spec.proofs.Frames.{bare_is, read_typed}
use Rattle.exb_world_spec.proofs.Trunks.{hangs_there, above_there}
use Rattle.exb_world_spec.proofs.LinkFrames.{at_here, at_other, each_weaker}
use Rattle.exb_settling_laws.specs.StopAndWait.{Message as Note}
use Rattle.exb_settling_laws.specs.SessionPair.{Far, near_empty, far_hears, far_all}
use Rattle.exb_settling_laws.specs.Streams.{note_of, plain, is_of, notes_if, words_of, ups_of, downs_of, near_at, far_at}
use Rattle.exb_settling_laws.specs.SettlingFacts.{Facts, IsOwned, WordFacts, MayGoDown, GoesDown}
use Rattle.exb_settling_laws.proofs.ControlFrameDecoding.{bare_addressed, bare_plain, tagged_read, is_mine, not_mine}
use Rattle.exb_settling_laws.proofs.FarControlFrames.{OwnSent, hears_own, sent_notes, far_of, Latest, hears_far}
use Rattle.exb_settling_laws.proofs.LinkGrowth.{Grows, MaySend, does_grows, never_longer}
use Rattle.exb_settling_laws.proofs.UpwardSessions.{same_words, near_same, each_far}
use Rattle.exb_settling_laws.proofs.Streams.{noted, words_last, ups_same, downs_same, TakenDown, taken_down}
use Rattle.exb_settling_laws.proofs.ControlTurns.{reacts_ends}
use Rattle.exb_settling_laws.proofs.Upward.{NotOf}

module _ (t : Shape) (l : Limits) (tree : IsTree t) (round : TagRoundTrip) (h : Held) (n : ℕ) (stamp : Option Stamp) where
  -- what it sends is the last of its stream
  sent_up : (s : Sent) (u : World) → s.side ≡ side.Up → (sends t n stamp s u).world ≡ push_up n (record { bytes = s.bytes; stamp = stamp }) u
  sent_up s u e = ap (λ (z : Rattle.exb_extender.specs.declared.sends.Side.Side). (sent_to t n stamp z s.bytes u).world) e

  own_noted : (s : Sent) → OwnSent s → noted t h n n (record { bytes = s.bytes; stamp = stamp }) ≡ notes_if true (note_of s.bytes)
  own_noted s o =
      ap (λ (b : Bool). notes_if b (note_of (plain s.bytes))) (is_mine t tree h n n (record { bytes = s.bytes; stamp = stamp }) o.control (bare_addressed t tree h n s.bytes o.untyped))
      ∙ ap (λ (f : List ℕ). notes_if true (note_of f)) (bare_plain t tree h s.bytes o.untyped)

  pub sent_last : (xs : List Sent) (u : World) → Each OwnSent xs → words_of t h n n ((each (sends t n stamp) xs u).world.up n) ≡ words_of t h n n (u.up n) ++ sent_notes xs
  sent_last [] u all = sym (append-nil (words_of t h n n (u.up n)))
  sent_last (s ∷ xs) u all =
      let one : (sends t n stamp s u).world.up n ≡ u.up n ++ record { bytes = s.bytes; stamp = stamp } ∷ [] =
      ap (λ (z : World). z.up n) (sent_up s u all.0.side_is) ∙ at_here n (u.up n ++ record { bytes = s.bytes; stamp = stamp } ∷ []) u.up in
      sent_last xs (sends t n stamp s u).world all.1
      ∙ ap (λ (ws : List LinkFrame). words_of t h n n ws ++ sent_notes xs) one
      ∙ ap (λ (ms : List Note). ms ++ sent_notes xs) (words_last t h n n (u.up n) (record { bytes = s.bytes; stamp = stamp }) ∙ ap (λ (ms : List Note). words_of t h n n (u.up n) ++ ms) (own_noted s all.0))
      ∙ append_assoc (words_of t h n n (u.up n)) (notes_if true (note_of s.bytes)) (sent_notes xs)

  -- the end of a stream
  pub ups_last : (f g : ℕ → List LinkFrame) (ns : List Note) → is_extender t n ≡ true → ((m : ℕ) → m ≢ n → words_of t h n m (g m) ≡ words_of t h n m (f m)) → words_of t h n n (g n) ≡ words_of t h n n (f n) ++ ns →
      ups_of t h g n 64 n ≡ ups_of t h f n 64 n ++ ns
  unfolding ups_of
  ups_last f g ns there others own =
      elim (cases_lt (on t n) 64) [
        | inl low ↦ rw (lt-ltb (on t n) 64 low) own
        | inr deep ↦
            let q : depth t (device (on t n)) < depth t n = less_deep t tree n (on t n) (hangs_there t n there) deep in
            let above : ups_of t h g n 63 (device (on t n)) ≡ ups_of t h f n 63 (device (on t n)) =
            ups_same t h n tree g f 63 (device (on t n)) (above_there t tree n there deep) (λ m few. others m (λ e. (let z : depth t m ≡ depth t n = ap (depth t) e in omega arith))) in
            rw (le-ltb (on t n) 64 deep) (
            ap (λ (ms : List Note). ms ++ words_of t h n n (g n)) above ∙ ap (λ (ms : List Note). ups_of t h f n 63 (device (on t n)) ++ ms) own
            ∙ sym (append_assoc (ups_of t h f n 63 (device (on t n))) (words_of t h n n (f n)) ns))
      ]

both_ways : (b : Bool) → b ≡ true → b ≡ false → ⊥
both_ways b x y = cc

-- ---- a control word without an E-TAG
module _ (t : Shape) (l : Limits) (tree : IsTree t) (round : TagRoundTrip) (w : World) (facts : Facts t l w) (n : ℕ) (x : LinkFrame) (rest : List LinkFrame) (there : is_extender t n ≡ true) (first : w.down n ≡ x ∷ rest) (bare : is_bare_control x.bytes ≡ true) where
  abbrev taken : World
  taken = (takes t l n Down x (with_down n rest w)).world

  down_facts : WordFacts t w.control.held (GoesDown w.control) n x
  down_facts = (let P : List LinkFrame → Type 0 = Each (WordFacts t w.control.held (GoesDown w.control) n) in subst P first (facts.downs n there)).0

  is_own : (is_control x ≡ true) × ((own : IsOwned t w.control.held (GoesDown w.control) n x) × (own.of ≡ n))
  is_own =
      let b = bare_is x.bytes bare in
      let control : is_control x ≡ true = b.control in
      let own = down_facts.owned control in (
        control,
        (
          own,
          ⊎_elim
              (λ (q : (n ≡ own.of) × (has_etag_type x.bytes ≡ false)). sym q.0)
              (λ (q : (n ≢ own.of) × IsTagged t w.control.held n x.bytes own.of (plain x.bytes)). absurd (
              let k = q.1 in
              let read : read_etag x.bytes ≡ Some (channel_tag k.channel) = ap read_etag k.frame ∙ tagged_read t tree w.control.held round (plain x.bytes) k.channel own.bare k.small in
              both_ways (has_etag_type x.bytes) (read_typed x.bytes (channel_tag k.channel) read) b.untyped))
              own.form,
        ),
      )

  -- the reaction is what it hears
  to_hears : (takes t l n Down x (with_down n rest w)).world ≡ (does t n x.stamp (hears x.bytes (w.far n)) (with_down n rest w)).world
  to_hears = ap (λ (b : Bool). (does t n x.stamp (cond b (hears x.bytes (w.far n)) (w.far n, emitted (w.far n).tables side.Up x.bytes)) (with_down n rest w)).world) bare

  ends : Rattle.exb_settling_laws.proofs.ControlTurns.SameEnds (with_down n rest w) (takes t l n Down x (with_down n rest w)).world
  ends = reacts_ends t n x.stamp (Arrives side.Up x.bytes) (with_down n rest w)

  far_taken : (takes t l n Down x (with_down n rest w)).world.far ≡ at n (hears x.bytes (w.far n)).0 w.far
  far_taken = ap (λ (z : World). z.far) to_hears ∙ each_far t n x.stamp (hears x.bytes (w.far n)).1 (with_far n (hears x.bytes (w.far n)).0 (with_down n rest w))

  up_port : (q : ℕ) → side.Up ≡ side.Port q → ⊥
  up_port q z = cc

  -- nothing goes down, and what goes up is no other's
  grows : (j : ℕ) → n ≢ j → Grows t l (λ m y. ⊥) (NotOf t tree round w.control.held j) (with_down n rest w) (takes t l n Down x (with_down n rest w)).world
  grows j other =
      let P : World → Type 0 = Grows t l (λ m y. ⊥) (NotOf t tree round w.control.held j) (with_down n rest w) in
      subst P (sym to_hears) (
      does_grows t l (λ m y. ⊥) (NotOf t tree round w.control.held j) n x.stamp (hears x.bytes (w.far n)) (with_down n rest w)
      (each_weaker OwnSent (MaySend t l (λ m y. ⊥) (NotOf t tree round w.control.held j) n x.stamp) (hears x.bytes (w.far n)).1
      (λ s o. record { rises = (λ z. not_mine t tree w.control.held j n n (record { bytes = s.bytes; stamp = x.stamp }) (bare_addressed t tree w.control.held n s.bytes o.untyped) other); sinks = (λ q m z hangs. up_port q (sym o.side_is ∙ z)) }) (hears_own x.bytes (w.far n))))

  downs_stay : (m : ℕ) → (takes t l n Down x (with_down n rest w)).world.down m ≡ at n rest w.down m
  downs_stay m = never_longer (at n rest w.down m) ((takes t l n Down x (with_down n rest w)).world.down m) ((grows (suc n) (λ e. omega arith)).downs m)

  abbrev Held0 : Held
  Held0 = w.control.held

  -- another session stays
  pub other_stays : (j : ℕ) → n ≢ j → is_extender t j ≡ true → (near_at t (takes t l n Down x (with_down n rest w)).world j ≡ near_at t w j) × (far_at t (takes t l n Down x (with_down n rest w)).world j ≡ far_at t w j)
  other_stays j other j_there =
      let v : World = (takes t l n Down x (with_down n rest w)).world in
      let o = is_own in
      let not_of : is_of t w.control.held j n x ≡ false = not_mine t tree w.control.held j o.1.0.of n x o.1.0.addressed (λ e. other (sym o.1.1 ∙ e)) in
      let gone : (m : ℕ) → words_of t w.control.held j m (at n rest w.down m) ≡ words_of t w.control.held j m (w.down m) = λ m.
      elim (cases_eq m n) [
        | inl e ↦
            let P : ℕ → Type 0 = λ z. words_of t w.control.held j z (at n rest w.down z) ≡ words_of t w.control.held j z (w.down z) in
            subst P (sym e) (ap (words_of t w.control.held j n) (at_here n rest w.down) ∙ sym (ap (words_of t w.control.held j n) first ∙ ap (λ (b : Bool). notes_if b (note_of (plain x.bytes)) ++ words_of t w.control.held j n rest) not_of))
        | inr e ↦ ap (words_of t w.control.held j m) (at_other n m rest w.down e)
      ] in
      let downs : downs_of t w.control.held v.down j 64 j ≡ downs_of t w.control.held w.down j 64 j =
      downs_same t w.control.held j tree v.down w.down 64 j j_there (λ m few. ap (words_of t w.control.held j m) (downs_stay m) ∙ gone m) in
      let ups : ups_of t w.control.held v.up j 64 j ≡ ups_of t w.control.held w.up j 64 j =
      ups_same t w.control.held j tree v.up w.up 64 j j_there (λ m few. same_words t tree round w.control.held j m (w.up m) (v.up m) ((grows j other).ups m)) in
      let far_j : v.far j ≡ w.far j = ap (λ (f : ℕ → ExtenderState). f j) far_taken ∙ at_other n j (hears x.bytes (w.far n)).0 w.far (λ e. other (sym e)) in (
        near_same t w v j ends.control ends.near downs,
        ap (λ (s : ExtenderState). far_of s (ups_of t v.control.held v.up j 64 j)) far_j ∙ ap (λ (s : State). far_of (w.far j) (ups_of t s.held v.up j 64 j)) ends.control ∙ ap (far_of (w.far j)) ups,
      )

  -- its own hears the note
  pub own_hears : Facts t l (takes t l n Down x (with_down n rest w)).world →
      (far_all (far_at t (takes t l n Down x (with_down n rest w)).world n) (near_at t (takes t l n Down x (with_down n rest w)).world n).sent ≡ far_all (far_at t w n) (near_at t w n).sent)
      × (near_empty (near_at t (takes t l n Down x (with_down n rest w)).world n) ≡ near_empty (near_at t w n))
  own_hears later = by_note (note_of (plain x.bytes)) refl
    where
      v : World
      v = (takes t l n Down x (with_down n rest w)).world

      goes : GoesDown w.control n (plain x.bytes)
      goes = let P : ℕ → Type 0 = λ z. GoesDown w.control z (plain x.bytes) in subst P is_own.1.1 is_own.1.0.reads

      same_plain : plain x.bytes ≡ x.bytes
      same_plain = bare_plain t tree w.control.held x.bytes (bare_is x.bytes bare).untyped

      far_n : v.far n ≡ (hears x.bytes (w.far n)).0
      far_n = ap (λ (f : ℕ → ExtenderState). f n) far_taken ∙ at_here n (hears x.bytes (w.far n)).0 w.far

      latest : Latest (hears x.bytes (w.far n)).0
      latest = let P : ExtenderState → Type 0 = Latest in subst P far_n (later.far n there).sending

      up_n : words_of t w.control.held n n (v.up n) ≡ words_of t w.control.held n n (w.up n) ++ sent_notes (hears x.bytes (w.far n)).1
      up_n = ap (λ (z : World). words_of t w.control.held n n (z.up n)) to_hears ∙ sent_last t l tree round w.control.held n x.stamp (hears x.bytes (w.far n)).1 (with_far n (hears x.bytes (w.far n)).0 (with_down n rest w)) (hears_own x.bytes (w.far n))

      others_up : (m : ℕ) → m ≢ n → words_of t w.control.held n m (v.up m) ≡ words_of t w.control.held n m (w.up m)
      others_up m other = ap (words_of t w.control.held n m) (Rattle.exb_settling_laws.proofs.RoundPhases.impossible (λ (y : LinkFrame). m ≡ n) (w.up m) (v.up m) (λ y e. other e) (only_own.ups m))
        where
          only_own : Grows t l (λ m y. ⊥) (λ m y. m ≡ n) (with_down n rest w) v
          only_own =
              let P : World → Type 0 = Grows t l (λ m y. ⊥) (λ m y. m ≡ n) (with_down n rest w) in
              subst P (sym to_hears) (
              does_grows t l (λ m y. ⊥) (λ m y. m ≡ n) n x.stamp (hears x.bytes (w.far n)) (with_down n rest w)
              (each_weaker OwnSent (MaySend t l (λ m y. ⊥) (λ m y. m ≡ n) n x.stamp) (hears x.bytes (w.far n)).1 (λ s o. record { rises = (λ z. refl); sinks = (λ q k z hangs. up_port q (sym o.side_is ∙ z)) }) (hears_own x.bytes (w.far n))))

      by_note : (o : Option Note) → note_of (plain x.bytes) ≡ o →
          (far_all (far_at t v n) (near_at t v n).sent ≡ far_all (far_at t w n) (near_at t w n).sent) × (near_empty (near_at t v n) ≡ near_empty (near_at t w n))
      by_note None e = absurd (let P : Option Note → Type 0 = MayGoDown (w.control.askers n) in subst P e goes)
      by_note (Some a) e =
          let reads : note_of x.bytes ≡ Some a = ap note_of (sym same_plain) ∙ e in
          let ups : ups_of t w.control.held v.up n 64 n ≡ ups_of t w.control.held w.up n 64 n ++ sent_notes (hears x.bytes (w.far n)).1 = ups_last t l tree round w.control.held n x.stamp w.up v.up (sent_notes (hears x.bytes (w.far n)).1) there others_up up_n in
          let mine : is_of t w.control.held n n x ≡ true = is_mine t tree w.control.held n n x is_own.0 (is_own.1.0.addressed ∙ ap (λ (z : ℕ). Some z) is_own.1.1) in
          let noted_is : noted t w.control.held n n x ≡ a ∷ [] = ap (λ (c : Bool). notes_if c (note_of (plain x.bytes))) mine ∙ ap (notes_if true) e in
          let s : TakenDown t w.control.held n tree w.down v.down = record {
            note = noted t w.control.held n n x;
            from = ap (words_of t w.control.held n n) first ∙ ap (λ (ws : List LinkFrame). noted t w.control.held n n x ++ words_of t w.control.held n n ws) (sym (downs_stay n ∙ at_here n rest w.down));
            others = λ k other. ap (words_of t w.control.held n k) (downs_stay k ∙ at_other n k rest w.down other);
          } in
          let downs : downs_of t w.control.held w.down n 64 n ≡ a ∷ downs_of t w.control.held v.down n 64 n =
          taken_down t w.control.held n tree 63 w.down v.down there s ∙ ap (λ (ns : List Note). ns ++ downs_of t w.control.held v.down n 64 n) noted_is in
          let down_v : (near_at t v n).sent ≡ downs_of t w.control.held v.down n 64 n = ap (λ (z : State). downs_of t z.held v.down n 64 n) ends.control in
          let far_v : far_at t v n ≡ far_hears (far_at t w n) a =
          ap (λ (z : ExtenderState). far_of z (ups_of t v.control.held v.up n 64 n)) far_n ∙ ap (λ (z : State). far_of (hears x.bytes (w.far n)).0 (ups_of t z.held v.up n 64 n)) ends.control ∙ ap (far_of (hears x.bytes (w.far n)).0) ups
          ∙ hears_far (w.far n) (facts.far n there).extender.answered (ups_of t w.control.held w.up n 64 n) (w.control.askers n) x.bytes a reads (let P : Option Note → Type 0 = MayGoDown (w.control.askers n) in subst P e goes) latest in
          let near_v : near_empty (near_at t v n) ≡ near_empty (near_at t w n) = near_parts v in
          (ap (λ (f : Far). far_all f (near_at t v n).sent) far_v ∙ ap (far_all (far_hears (far_at t w n) a)) down_v ∙ sym (ap (far_all (far_at t w n)) downs), near_v)
        where
          near_parts : (u : World) → near_empty (near_at t v n) ≡ near_empty (near_at t w n)
          near_parts u =
              ap (λ (f : ℕ → Ecp). record { link = Rattle.exb_settling_laws.specs.Streams.end_of (f n); waits = Rattle.std.specs.Prelude.is_some (v.control.askers n).waiting; serial = (v.control.askers n).serial; beats = (v.control.askers n).beats; sent = [] }) ends.near
              ∙ ap (λ (z : State). record { link = Rattle.exb_settling_laws.specs.Streams.end_of (w.near n); waits = Rattle.std.specs.Prelude.is_some (z.askers n).waiting; serial = (z.askers n).serial; beats = (z.askers n).beats; sent = [] }) ends.control

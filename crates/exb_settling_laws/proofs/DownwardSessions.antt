-- A control word with an E-TAG of a session that matters goes on downwards: it keeps its place in the stream.
use Rattle.std.proofs.Common.{◌≡◌, ◌≢◌, inl, inr, ⊎_elim, ℕ, ◌≤◌, ◌<◌, Bool, true, false, cond, List, [], ◌∷◌, ◌++◌, Option, Some, refl, ap, sym, ◌∙◌, subst, arith}
use Rattle.std.proofs.lemmas.Bool.{and_parts, eqb-true}
use Rattle.exb_model.specs.Tree.{Shape, IsTree, device, on, is_extender, depth, port_number}
use Rattle.exb_model.specs.Setup.{Limits}
use Rattle.exb_model.proofs.TreeOrder.{less_deep}
use Rattle.exb_frame.specs.TagValues.{TagRoundTrip}
use Rattle.exb_extender.specs.declared.sends.Side.TheVariants as side
use Rattle.exb_csp.specs.AllTables.{port_of}
use Rattle.exb_extender.specs.Forwarding.{Sent, emitted, is_bare_control, has_etag_type}
use Rattle.exb_extender.specs.Machine.{ExtenderState, hears}
use Rattle.exb_link.specs.declared.link_frame.LinkFrame.{LinkFrame}
use Rattle.exb_link.specs.LinkFrames.{is_control}
use Rattle.exb_world_spec.specs.Worlds.{World, Down, with_down, with_far, push_down}
use Rattle.exb_model.specs.Tables.{at}
use Rattle.exb_world_spec.specs.Effects.{each}
use Rattle.exb_world_spec.specs.ExtenderSteps.{hung_on, sends, sent_at, does}
use Rattle.exb_world_spec.specs.Runs.Sessions.{Each, IsTagged}
use Rattle.exb_world_spec.specs.Steps.{takes}
use Rattle.exb_world_spec.proofs.Trunks.{hangs_there, hung_found, port_there}
use Rattle.exb_world_spec.proofs.LinkFrames.{at_here, at_other, at_itself}
use Rattle.exb_settling_laws.specs.StopAndWait.{Message as Note}
use Rattle.exb_settling_laws.specs.Streams.{note_of, plain, addressee, is_the, is_of, notes_if, words_of, downs_of, near_at, far_at}
use Rattle.exb_settling_laws.specs.SettlingFacts.{Facts, IsAbove, IsOwned, WordFacts, GoesDown, IsReached, IsDeep}
use Rattle.exb_settling_laws.proofs.ControlFrameDecoding.{bare_plain, is_mine}
use Rattle.exb_settling_laws.proofs.Downward.{GoesOn, goes_on}
use Rattle.exb_settling_laws.proofs.UpwardSessions.{near_same}
use Rattle.exb_settling_laws.proofs.SessionRounds.{depth_few}
use Rattle.exb_settling_laws.proofs.Streams.{noted, words_last, MovedDown, moved_down}

both_ways : (b : Bool) → b ≡ true → b ≡ false → ⊥
both_ways b x y = cc

module _ (t : Shape) (l : Limits) (tree : IsTree t) (round : TagRoundTrip) (w : World) (facts : Facts t l w) (n : ℕ) (x : LinkFrame) (rest : List LinkFrame) (there : is_extender t n ≡ true) (first : w.down n ≡ x ∷ rest) (forwarded : is_bare_control x.bytes ≡ false) (j : ℕ) (j_there : is_extender t j ≡ true) where
  sink_facts : WordFacts t w.control.held (GoesDown w.control) n x
  sink_facts = (let P : List LinkFrame → Type 0 = Each (WordFacts t w.control.held (GoesDown w.control) n) in subst P first (facts.downs n there)).0

  abbrev sunk_world : ℕ → List ℕ → World
  sunk_world c g = push_down c (record { bytes = g; stamp = x.stamp }) (with_far n (w.far n) (with_down n rest w))

  deep_one : IsReached t w j → 64 ≤ on t j → IsDeep t w.control.held w.far j
  deep_one (inl low) deep = absurd (omega arith)
  deep_one (inr d) deep = d

  -- it is one with an E-TAG, of an extender further down
  with_tag : is_control x ≡ true → (own : IsOwned t w.control.held (GoesDown w.control) n x) → (n ≢ own.of) × IsTagged t w.control.held n x.bytes own.of (plain x.bytes)
  with_tag control own =
      ⊎_elim
      (λ (q : (n ≡ own.of) × (has_etag_type x.bytes ≡ false)). absurd (
      let same : plain x.bytes ≡ x.bytes = bare_plain t tree w.control.held x.bytes q.1 in
      both_ways (is_bare_control x.bytes) (let P : List ℕ → Type 0 = λ z. is_bare_control z ≡ true in subst P same own.bare) forwarded))
      (λ (q : (n ≢ own.of) × IsTagged t w.control.held n x.bytes own.of (plain x.bytes)). q)
      own.form

  sinks_to : (g : GoesOn t tree round w.control.held w.far j n x.bytes) → (takes t l n Down x (with_down n rest w)).world ≡ sunk_world g.next.child g.frame
  sinks_to g =
      let c : ℕ = g.next.child in
      let hung : hung_on t (port_of n (port_number (on t g.next.child))) ≡ Some g.next.child =
      (let P : ℕ → Type 0 = λ z. hung_on t (port_of z (port_number (on t g.next.child))) ≡ Some g.next.child in
      subst P g.next.hangs (ap (hung_on t) (port_there (on t g.next.child)) ∙ hung_found t tree g.next.child (on t g.next.child) (hangs_there t g.next.child g.next.there))) in
      ap (λ (b : Bool). (does t n x.stamp (cond b (hears x.bytes (w.far n)) (w.far n, emitted (w.far n).tables side.Up x.bytes)) (with_down n rest w)).world) forwarded
      ∙ ap (λ (xs : List Sent). (each (sends t n x.stamp) xs (with_far n (w.far n) (with_down n rest w))).world) g.sent
      ∙ ap (λ (o : Option ℕ). (sent_at n (port_number (on t g.next.child)) o x.stamp g.frame (with_far n (w.far n) (with_down n rest w))).world) hung

  pub mine_sinks : is_of t w.control.held j n x ≡ true → IsReached t w j →
      (near_at t (takes t l n Down x (with_down n rest w)).world j ≡ near_at t w j) × (far_at t (takes t l n Down x (with_down n rest w)).world j ≡ far_at t w j)
  mine_sinks mine reached =
      let both = and_parts (is_control x) (is_the j (addressee t w.control.held n x.bytes)) mine in
      let own : IsOwned t w.control.held (GoesDown w.control) n x = sink_facts.owned both.0 in
      let is_j : own.of ≡ j = eqb-true own.of j (ap (is_the j) (sym own.addressed) ∙ both.1) in
      let tag = with_tag both.0 own in
      let k : IsTagged t w.control.held n x.bytes j (plain x.bytes) = (let P : ℕ → Type 0 = λ z. IsTagged t w.control.held n x.bytes z (plain x.bytes) in subst P is_j tag.1) in
      let above : IsAbove t 64 n j = (let P : ℕ → Type 0 = λ z. IsAbove t 64 n z in subst P is_j own.below) in
      let g : GoesOn t tree round w.control.held w.far j n x.bytes =
      goes_on t tree round w.control.held w.far j n j_there (facts.far n there).extender x.bytes (plain x.bytes) both.0 own.bare k (deep_one reached k.deep) above (λ e. tag.0 (e ∙ sym is_j)) in
      let to : (takes t l n Down x (with_down n rest w)).world ≡ sunk_world g.next.child g.frame = sinks_to g in
      let c_lower : depth t (device (on t g.next.child)) < depth t g.next.child = less_deep t tree g.next.child (on t g.next.child) (hangs_there t g.next.child g.next.there) g.next.deep in
      let apart : g.next.child ≢ n = λ e. (let z : depth t g.next.child ≡ depth t n = ap (depth t) e in let y : depth t (device (on t g.next.child)) ≡ depth t n = ap (depth t) g.next.hangs in omega arith) in
      let y_mine : is_of t w.control.held j g.next.child (record { bytes = g.frame; stamp = x.stamp }) ≡ true = is_mine t tree w.control.held j g.next.child (record { bytes = g.frame; stamp = x.stamp }) g.forwarded.control g.forwarded.addressed in
      let notes : noted t w.control.held j g.next.child (record { bytes = g.frame; stamp = x.stamp }) ≡ noted t w.control.held j n x =
      ap (λ (b : Bool). notes_if b (note_of (plain g.frame))) y_mine ∙ ap (λ (z : List ℕ). notes_if true (note_of z)) g.forwarded.plain_is ∙ sym (ap (λ (b : Bool). notes_if b (note_of (plain x.bytes))) mine) in
      let at_c : (sunk_world g.next.child g.frame).down g.next.child ≡ w.down g.next.child ++ record { bytes = g.frame; stamp = x.stamp } ∷ [] =
      at_here g.next.child (at n rest w.down g.next.child ++ record { bytes = g.frame; stamp = x.stamp } ∷ []) (at n rest w.down) ∙ ap (λ (ws : List LinkFrame). ws ++ record { bytes = g.frame; stamp = x.stamp } ∷ []) (at_other n g.next.child rest w.down apart) in
      let at_n : (sunk_world g.next.child g.frame).down n ≡ rest = at_other g.next.child n (at n rest w.down g.next.child ++ record { bytes = g.frame; stamp = x.stamp } ∷ []) (at n rest w.down) (λ e. apart (sym e)) ∙ at_here n rest w.down in
      let from_n : words_of t w.control.held j n (w.down n) ≡ noted t w.control.held j n x ++ words_of t w.control.held j n ((sunk_world g.next.child g.frame).down n) =
      ap (words_of t w.control.held j n) first ∙ ap (λ (ws : List LinkFrame). noted t w.control.held j n x ++ words_of t w.control.held j n ws) (sym at_n) in
      let m : MovedDown t w.control.held j tree g.next.child w.down (sunk_world g.next.child g.frame).down = record {
        there = g.next.there;
        deep = g.next.deep;
        note = noted t w.control.held j n x;
        from = (let P : ℕ → Type 0 = λ z. words_of t w.control.held j z (w.down z) ≡ noted t w.control.held j n x ++ words_of t w.control.held j z ((sunk_world g.next.child g.frame).down z) in subst P (sym g.next.hangs) from_n);
        onto = ap (words_of t w.control.held j g.next.child) at_c ∙ words_last t w.control.held j g.next.child (w.down g.next.child) (record { bytes = g.frame; stamp = x.stamp })
            ∙ ap (λ (ns : List Note). words_of t w.control.held j g.next.child (w.down g.next.child) ++ ns) notes;
        others = λ i i_c i_p. ap (words_of t w.control.held j i) (at_other g.next.child i (at n rest w.down g.next.child ++ record { bytes = g.frame; stamp = x.stamp } ∷ []) (at n rest w.down) i_c ∙ at_other n i rest w.down (λ e. i_p (e ∙ sym g.next.hangs)));
      } in
      let downs : downs_of t w.control.held w.down j 64 j ≡ downs_of t w.control.held (sunk_world g.next.child g.frame).down j 64 j = moved_down t w.control.held j tree 64 j g.next.child w.down (sunk_world g.next.child g.frame).down j_there (depth_few t tree j j_there) g.next.above m in (
        ap (λ (z : World). near_at t z j) to ∙ near_same t w (sunk_world g.next.child g.frame) j refl refl (sym downs),
        ap (λ (z : World). far_at t z j) to ∙ ap (λ (f : ℕ → ExtenderState). far_at t (record w { far = f }) j) (at_itself n w.far),
      )

-- What the bridge sends to an extender is the last word of that one's stream, and of no other.
use Rattle.std.proofs.Common.{◌≡◌, ◌≢◌, ◌⊎◌, inl, inr, ⊎_elim, ℕ, ◌≤◌, ◌<◌, Bool, true, cond, List, [], ◌∷◌, ◌++◌, append-nil, Option, Some, None, refl, ap, sym, ◌∙◌, subst, arith}
use Rattle.std.proofs.lemmas.Bool.{cases_lt, cases_eq, lt-ltb, le-ltb}
use Rattle.exb_model.specs.Tree.{Shape, IsTree, HangsOn, device, on, is_extender, trunk}
use Rattle.exb_model.specs.ETags.{Tag, tagged}
use Rattle.exb_model.proofs.TreeTrunks.{trunk-low}
use Rattle.exb_frame.specs.TagValues.{TagRoundTrip}
use Rattle.exb_extender.specs.Forwarding.{is_bare_control, channel_tag}
use Rattle.exb_link.specs.declared.link_frame.LinkFrame.{LinkFrame}
use Rattle.exb_link.specs.LinkFrames.{is_control}
use Rattle.exb_model.specs.Frames.{is_control_frame}
use Rattle.exb_control_spec.specs.Plans.HeldNumbers.{Held, channel_in}
use Rattle.exb_control_spec.proofs.Plans.ChannelOwners.{IsChannelOf, channel_found}
use Rattle.exb_world_spec.specs.Worlds.{World, push_down, control_word}
use Rattle.exb_world_spec.specs.BridgeLearning.{channel_at_trunk}
use Rattle.exb_world_spec.specs.ExtenderSteps.{hung_on}
use Rattle.exb_world_spec.specs.ControlFrames.{puts_tagged, to_extender}
use Rattle.exb_world_spec.proofs.Frames.{bare_is}
use Rattle.exb_world_spec.proofs.Trunks.{hung_is, extender_there, above_there, trunk_above, trunk_low_on}
use Rattle.exb_world_spec.proofs.LinkFrames.{at_here, at_other}
use Rattle.exb_settling_laws.specs.StopAndWait.{Message as Note}
use Rattle.exb_settling_laws.specs.Streams.{addressee, plain, note_of, notes_if, words_of, downs_of}
use Rattle.exb_settling_laws.specs.SettlingFacts.{IsAbove, IsReached}
use Rattle.exb_settling_laws.proofs.ControlFrameDecoding.{bare_addressed, bare_plain, tagged_addressed, tagged_plain, is_mine, not_mine, above_trunk}
use Rattle.exb_settling_laws.proofs.Streams.{noted, words_last, PutDown, put_down, downs_same}

module _ (t : Shape) (tree : IsTree t) (round : TagRoundTrip) where
  -- a word of extender n was put on the link of the extender on the bridge above it
  pub record IsPut (h : Held) (n : ℕ) (f : List ℕ) (w v : World) : Type 0 where
    pub onto : ℕ
    pub word : LinkFrame
    pub is : v ≡ push_down onto word w
    pub there : is_extender t onto ≡ true
    pub low : on t onto < 64
    pub above : IsAbove t 64 onto n
    pub control : is_control word ≡ true
    pub addressed : addressee t h onto word.bytes ≡ Some n
    pub plain_is : plain word.bytes ≡ f

  -- a control frame, which has the destination of such also with an E-TAG
  pub record IsSendable (f : List ℕ) : Type 0 where
    pub bare : is_bare_control f ≡ true
    pub control : is_control_frame f ≡ true
    pub tagged_control : (tag : Tag) → is_control_frame (tagged f tag) ≡ true

  some_not : {A : Type 0} (o : Option A) (x : A) → o ≡ Some x → o ≡ None → ⊥
  some_not o x e f = cc

  puts_tagged_put : (h : Held) (n : ℕ) (o c : Option ℕ) (f : List ℕ) (w : World) → is_extender t n ≡ true → 64 ≤ on t n → IsSendable f → hung_on t (trunk t n) ≡ o → channel_in h (trunk t n) (on t n) ≡ c →
      ((puts_tagged (trunk t n) o c f w).world ≡ w) ⊎ IsPut h n f w (puts_tagged (trunk t n) o c f w).world
  puts_tagged_put h n None c f w there deep s e g = inl refl
  puts_tagged_put h n (Some m) None f w there deep s e g = inl refl
  puts_tagged_put h n (Some m) (Some channel) f w there deep s e g =
      let is : IsChannelOf h (trunk t n) (on t n) channel = channel_found h (trunk t n) (on t n) channel g in
      let hangs : HangsOn t m (trunk t n) = hung_is t (trunk t n) m e in
      let low : trunk t n < 64 = trunk-low t tree n there in
      let m_low : on t m < 64 = (let P : ℕ → Type 0 = λ z. z < 64 in subst P (sym hangs.at) low) in
      let same : trunk t n ≡ trunk t m = sym hangs.at ∙ sym (trunk_low_on t m m_low) in
      let holds : h.port (trunk t m) channel ≡ Some (on t n) = (let P : ℕ → Type 0 = λ z. h.port z channel ≡ Some (on t n) in subst P same is.is) in
      inr (record {
        onto = m;
        word = control_word (tagged f (channel_tag channel));
        is = refl;
        there = extender_there t m (trunk t n) hangs;
        low = m_low;
        above = above_trunk t tree h m n there hangs low;
        control = s.tagged_control (channel_tag channel);
        addressed = tagged_addressed t tree h round m n channel f s.bare is.high there holds;
        plain_is = tagged_plain t tree h round f channel s.bare is.high;
      })

  low_put : (h : Held) (n : ℕ) (f : List ℕ) (w : World) → is_extender t n ≡ true → on t n < 64 → IsSendable f → IsPut h n f w (push_down n (control_word f) w)
  low_put h n f w there low s =
      let b = bare_is f s.bare in
      record { onto = n; word = control_word f; is = refl; there = there; low = low; above = inl refl; control = s.control; addressed = bare_addressed t tree h n f b.untyped; plain_is = bare_plain t tree h f b.untyped }

  at_trunk : (h : Held) (n : ℕ) → is_extender t n ≡ true → 64 ≤ on t n → channel_at_trunk t h (on t n) ≡ channel_in h (trunk t n) (on t n)
  at_trunk h n there deep =
      let above : is_extender t (device (on t n)) ≡ true = above_there t tree n there deep in
      ap (λ (b : Bool). cond b (channel_in h (trunk t (device (on t n))) (on t n)) None) above ∙ ap (λ (k : ℕ). channel_in h k (on t n)) (trunk_above t tree n there deep)

  -- what goes to an extender is put, or nothing is
  pub to_extender_put : (n : ℕ) (f : List ℕ) (w : World) → is_extender t n ≡ true → IsSendable f → ((to_extender t n f w).world ≡ w) ⊎ IsPut w.control.held n f w (to_extender t n f w).world
  to_extender_put n f w there s =
      elim (cases_lt (on t n) 64) [
        | inl low ↦ rw (lt-ltb (on t n) 64 low) (inr (low_put w.control.held n f w there low s))
        | inr deep ↦ rw (le-ltb (on t n) 64 deep) (puts_tagged_put w.control.held n (hung_on t (trunk t n)) (channel_at_trunk t w.control.held (on t n)) f w there deep s refl (sym (at_trunk w.control.held n there deep)))
      ]

  -- it is put where that one is reached
  pub to_reached_put : (n : ℕ) (f : List ℕ) (w : World) → is_extender t n ≡ true → IsSendable f → IsReached t w n → (m : ℕ) → (hung_on t (trunk t n) ≡ Some m) ⊎ (on t n < 64) → IsPut w.control.held n f w (to_extender t n f w).world
  to_reached_put n f w there s (inl low) m top = rw (lt-ltb (on t n) 64 low) (low_put w.control.held n f w there low s)
  to_reached_put n f w there s (inr deep) m top =
      elim (cases_lt (on t n) 64) [
        | inl low ↦ rw (lt-ltb (on t n) 64 low) (low_put w.control.held n f w there low s)
        | inr high ↦
            let hung : hung_on t (trunk t n) ≡ Some m = ⊎_elim (λ (z : hung_on t (trunk t n) ≡ Some m). z) (λ (z : on t n < 64). absurd (omega arith)) top in
            let channel : channel_at_trunk t w.control.held (on t n) ≡ Some deep.channel = at_trunk w.control.held n there high ∙ deep.found in
            let P : Option ℕ → Option ℕ → Type 0 = λ a b. IsPut w.control.held n f w (puts_tagged (trunk t n) a b f w).world in
            let put : P (Some m) (Some deep.channel) = by_cases (puts_tagged_put w.control.held n (Some m) (Some deep.channel) f w there high s hung deep.found) in
            rw (le-ltb (on t n) 64 high) (subst (λ (a : Option ℕ). P a (channel_at_trunk t w.control.held (on t n))) (sym hung) (subst (P (Some m)) (sym channel) put))
      ]
    where
      by_cases : ((puts_tagged (trunk t n) (Some m) (Some deep.channel) f w).world ≡ w) ⊎ IsPut w.control.held n f w (puts_tagged (trunk t n) (Some m) (Some deep.channel) f w).world → IsPut w.control.held n f w (puts_tagged (trunk t n) (Some m) (Some deep.channel) f w).world
      by_cases (inr p) = p
      by_cases (inl e) = absurd (never (w.down m) (control_word (tagged f (channel_tag deep.channel))) (sym (at_here m (w.down m ++ control_word (tagged f (channel_tag deep.channel)) ∷ []) w.down) ∙ ap (λ (v : World). v.down m) e))
        where
          never : (xs : List LinkFrame) (x : LinkFrame) → xs ++ x ∷ [] ≡ xs → ⊥
          never [] x e = cc
          never (y ∷ ys) x e = never ys x (cc)

  -- ---- streams
  module _ (h : Held) (n : ℕ) (f : List ℕ) (w v : World) (p : IsPut h n f w v) where
    put_words : (j m : ℕ) → m ≢ p.onto → words_of t h j m (v.down m) ≡ words_of t h j m (w.down m)
    put_words j m other = ap (λ (u : World). words_of t h j m (u.down m)) p.is ∙ ap (words_of t h j m) (at_other p.onto m (w.down p.onto ++ p.word ∷ []) w.down other)

    put_onto : (j : ℕ) → words_of t h j p.onto (v.down p.onto) ≡ words_of t h j p.onto (w.down p.onto) ++ noted t h j p.onto p.word
    put_onto j = ap (λ (u : World). words_of t h j p.onto (u.down p.onto)) p.is ∙ ap (words_of t h j p.onto) (at_here p.onto (w.down p.onto ++ p.word ∷ []) w.down) ∙ words_last t h j p.onto (w.down p.onto) p.word

    -- in its own stream it is the last one
    pub put_own : is_extender t n ≡ true → downs_of t h v.down n 64 n ≡ downs_of t h w.down n 64 n ++ notes_if true (note_of f)
    put_own there =
        let note_is : noted t h n p.onto p.word ≡ notes_if true (note_of f) =
        ap (λ (b : Bool). notes_if b (note_of (plain p.word.bytes))) (is_mine t tree h n p.onto p.word p.control p.addressed) ∙ ap (λ (g : List ℕ). notes_if true (note_of g)) p.plain_is in
        let s : PutDown t h n tree p.onto w.down v.down = record { there = p.there; low = p.low; note = noted t h n p.onto p.word; onto = put_onto n; others = put_words n } in
        put_down t h n tree 64 n p.onto w.down v.down there p.above s ∙ ap (λ (ms : List Note). downs_of t h w.down n 64 n ++ ms) note_is

    -- in any other nothing changes
    pub put_other : (j : ℕ) → n ≢ j → is_extender t j ≡ true → downs_of t h v.down j 64 j ≡ downs_of t h w.down j 64 j
    put_other j other there =
        downs_same t h j tree v.down w.down 64 j there (λ m low.
        elim (cases_eq m p.onto) [
          | inl e ↦
              let none : noted t h j p.onto p.word ≡ [] = ap (λ (b : Bool). notes_if b (note_of (plain p.word.bytes))) (not_mine t tree h j n p.onto p.word p.addressed other) in
              let P : ℕ → Type 0 = λ z. words_of t h j z (v.down z) ≡ words_of t h j z (w.down z) in
              subst P (sym e) (put_onto j ∙ ap (λ (ms : List Note). words_of t h j p.onto (w.down p.onto) ++ ms) none ∙ append-nil (words_of t h j p.onto (w.down p.onto)))
          | inr e ↦ put_words j m e
        ])

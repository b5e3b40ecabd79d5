-- What the facts on a world say of one extender's session in it.
use Rattle.std.proofs.Common.{◌≡◌, inl, inr, ℕ, zero, suc, ◌<◌, Bool, true, false, List, [], ◌∷◌, Option, Some, None, refl, ap, sym, ◌∙◌, subst, arith}
use Rattle.std.specs.Prelude.{is_some}
use Rattle.std.specs.List.{AllByRecursion}
use Rattle.std.proofs.lemmas.Bool.{cases_lt, and_parts, eqb-true, lt-ltb, le-ltb}
use Rattle.exb_model.specs.Tree.{Shape, IsTree, device, on, is_extender}
use Rattle.exb_model.specs.Setup.{Limits}
use Rattle.exb_csp.specs.declared.message.Request.{Request}
use Rattle.exb_ecp.specs.StopAndWait.{Sending as Sends, State as Ecp}
use Rattle.exb_link.specs.declared.link_frame.LinkFrame.{LinkFrame}
use Rattle.exb_link.specs.LinkFrames.{is_control}
use Rattle.exb_control_spec.specs.Plans.HeldNumbers.{Held}
use Rattle.exb_csp.specs.Sessions.AskingEnd.{AskerState}
use Rattle.exb_world_spec.specs.Worlds.{World}
use Rattle.exb_world_spec.specs.Runs.Sessions.{Each}
use Rattle.exb_world_spec.proofs.Trunks.{above_there}
use Rattle.exb_settling_laws.specs.StopAndWait.{Message as Note, Request as Asks, Answer as Answers, Ack, Hello}
use Rattle.exb_settling_laws.specs.SessionMessages.{IsCurrent}
use Rattle.exb_settling_laws.specs.AnswerStages.{IsOld, OnSending, Waiting, Idle}
use Rattle.exb_settling_laws.specs.Streams.{sending_of, addressee, plain, note_of, is_the, is_of, notes_if, words_of, downs_of, pair_at}
use Rattle.exb_settling_laws.specs.SettlingFacts.{IsLatest, NearFacts, FarFacts, Related, MayGoDown, GoesDown, IsOwned, WordFacts, Facts}
use Rattle.exb_settling_laws.proofs.MessageLists.{each_join}

-- ---- the words of one extender
-- each of them is such as its note says
module _ (t : Shape) (h : Held) (P : ℕ → List ℕ → Type 0) (R : Note → Type 0) (n : ℕ) (is : (f : List ℕ) (m : Note) → note_of f ≡ Some m → P n f → R m) where
  own_note : (m : ℕ) (x : LinkFrame) (b : Bool) → is_of t h n m x ≡ b → WordFacts t h P m x → AllByRecursion R (notes_if b (note_of (plain x.bytes)))
  own_note m x false e w = tt
  own_note m x true e w =
      let both = and_parts (is_control x) (is_the n (addressee t h m x.bytes)) e in
      let own : IsOwned t h P m x = w.owned both.0 in
      let same : own.of ≡ n = eqb-true own.of n (ap (is_the n) (sym own.addressed) ∙ both.1) in
      by_note (note_of (plain x.bytes)) refl (subst (λ (k : ℕ). P k (plain x.bytes)) same own.reads)
    where
      by_note : (o : Option Note) → note_of (plain x.bytes) ≡ o → P n (plain x.bytes) → AllByRecursion R (notes_if true o)
      by_note None e p = tt
      by_note (Some a) e p = (is (plain x.bytes) a e p, tt)

  pub own_words : (m : ℕ) (ws : List LinkFrame) → Each (WordFacts t h P m) ws → AllByRecursion R (words_of t h n m ws)
  own_words m [] all = tt
  own_words m (x ∷ xs) all = each_join R _ (words_of t h n m xs) (own_note m x (is_of t h n m x) refl all.0) (own_words m xs all.1)

  module _ (tree : IsTree t) (links : ℕ → List LinkFrame) (each_is : (m : ℕ) → is_extender t m ≡ true → Each (WordFacts t h P m) (links m)) where
    pub own_downs : (d m : ℕ) → is_extender t m ≡ true → AllByRecursion R (downs_of t h links n d m)
    unfolding downs_of
    own_downs zero m there = tt
    own_downs (suc d) m there =
        each_join R (words_of t h n m (links m)) _ (own_words m (links m) (each_is m there))
        (elim (cases_lt (on t m) 64) [
          | inl low ↦ rw (lt-ltb (on t m) 64 low) tt
          | inr deep ↦ rw (le-ltb (on t m) 64 deep) (own_downs d (device (on t m)) (above_there t tree m there deep))
        ])

-- ---- the two ends
current : (make : ℕ → ℕ → Note) (e : Ecp) (serial : ℕ) (o : Option Sends) → ((x : Sends) → o ≡ Some x → IsLatest make e serial x) → IsCurrent e.next serial (sending_of o)
current make e serial None h = tt
current make e serial (Some x) h = let k = h x refl in (k.sequence, k.serial_is)

fewer : (make : ℕ → ℕ → Note) (e : Ecp) (serial : ℕ) (o : Option Sends) → ((x : Sends) → o ≡ Some x → IsLatest make e serial x) → OnSending (λ x. x.beats < 12) (sending_of o)
fewer make e serial None h = tt
fewer make e serial (Some x) h = (h x refl).beats

is_old : (a : AskerState) (m : Note) → MayGoDown a (Some m) → IsOld a.serial m
is_old a (Asks s k) h = h
is_old a (Answers s k) h = absurd h
is_old a (Ack s) h = tt
is_old a Hello h = absurd h

module _ (t : Shape) (l : Limits) (tree : IsTree t) (w : World) (f : Facts t l w) where
  pub waiting_at : (n : ℕ) (request : Request) → is_extender t n ≡ true → (w.control.askers n).waiting ≡ Some request → Waiting (pair_at t w n)
  waiting_at n request there e =
      let a : AskerState = w.control.askers n in
      let x : NearFacts (w.near n) (w.control.askers n) = f.near n in
      let y : FarFacts (w.far n) = f.far n there in
      record {
        waits = ap is_some e;
        beats = x.beats;
        told = (let P : Option Request → Type 0 = λ o. Related o (w.control.askers n).serial (w.far n).session.last in subst P e (f.related n there));
        here = current Asks (w.near n) (w.control.askers n).serial (w.near n).sending x.sending;
        there = current Answers (w.far n).ecp (w.far n).session.last (w.far n).ecp.sending y.sending;
        asked = x.before;
        answered = y.before;
        old = own_downs t w.control.held (GoesDown w.control) (IsOld (w.control.askers n).serial) n (λ g m e p. is_old (w.control.askers n) m (let A : Option Note → Type 0 = MayGoDown (w.control.askers n) in subst A e p)) tree w.down f.downs 64 n there;
      }

  pub idle_at : (n : ℕ) → is_extender t n ≡ true → (w.control.askers n).waiting ≡ None → 0 < (w.control.askers n).serial → Idle (pair_at t w n)
  idle_at n there e asked =
      let x : NearFacts (w.near n) (w.control.askers n) = f.near n in
      let y : FarFacts (w.far n) = f.far n there in
      let same : (w.control.askers n).serial ≡ (w.far n).session.last =
      (let P : Option Request → Type 0 = λ o. Related o (w.control.askers n).serial (w.far n).session.last in subst P e (f.related n there)) in
      record {
        waits = ap is_some e;
        none = ap sending_of (x.quiet e);
        beats = fewer Answers (w.far n).ecp (w.far n).session.last (w.far n).ecp.sending y.sending;
        opened = omega arith;
      }

-- A world that is going and orderly has the facts that the bound on settling needs.
use Rattle.std.proofs.Common.{◌≡◌, ◌≢◌, ◌⊎◌, inl, inr, ℕ, ◌≤◌, Bool, true, false, List, [], ◌∷◌, Option, Some, None, refl, ap, sym, ◌∙◌, subst, arith, eq-eqb}
use Rattle.exb_model.specs.Setup.{Limits}
use Rattle.exb_model.specs.Tree.{Shape, IsTree, on, is_extender}
use Rattle.exb_frame.specs.TagValues.{TagRoundTrip}
use Rattle.exb_csp.specs.declared.message.Body.{Body}
use Rattle.exb_csp.specs.declared.message.Request.{Request}
use Rattle.exb_csp.specs.declared.message.Response.{Response}
use Rattle.exb_csp.specs.RequestKinds.{kind_of, number_of, same_kind}
use Rattle.exb_extender.specs.Forwarding.{has_etag_type, is_bare_control, channel_tag}
use Rattle.exb_model.specs.Frames.{is_control_frame, IsBytes}
use Rattle.exb_link.specs.declared.link_frame.LinkFrame.{LinkFrame}
use Rattle.exb_control_spec.specs.Plans.HeldNumbers.{Held}
use Rattle.exb_control_spec.specs.InitialState.{first_held}
use Rattle.exb_control_spec.specs.Machine.{Work}
use Rattle.exb_control_spec.specs.Runs.PlannedChanges.{IsSetting}
use Rattle.exb_control_spec.specs.Runs.MachineInvariant.{StandsBy}
use Rattle.exb_world_spec.specs.Worlds.{World}
use Rattle.exb_world_spec.specs.Runs.CascadeChannels.{fixing}
use Rattle.exb_world_spec.specs.Runs.Sessions.{Each, Hands, IsAnswered, WasAnswered, IsTagged, IsOnWay, WordFits, StoredAt, ArePaired, KeepsCascades}
use Rattle.exb_world_spec.specs.Runs.Simulation.{answer_at, answer_in, system_of, IsSound}
use Rattle.exb_world_spec.proofs.CascadeChannels.{forget, fixed_now}
use Rattle.exb_world_spec.proofs.Frames.{bare_is, read_typed}
use Rattle.exb_world_spec.proofs.Routing.{stands_route}
use Rattle.exb_world_spec.proofs.TakenAnswers.{IsOutstanding, outstanding}
use Rattle.exb_settling_laws.specs.SettlingFacts.{Facts, IsOfKind, IsAbove}
use Rattle.exb_settling_laws.specs.SessionInvariant.{IsGoing, IsOrderly}
use Rattle.exb_settling_laws.specs.RemainingFacts.{KindDown, KindUp, WordLeft}
use Rattle.exb_settling_laws.specs.FramePlaces.{IsPlaced, WordPlaced, ReadsDown, ReadsUp}
use Rattle.exb_settling_laws.specs.Streams.{addressee, plain}
use Rattle.exb_settling_laws.proofs.ControlFrameDecoding.{bare_addressed, bare_plain, tagged_read, tagged_addressed, tagged_plain}
use Rattle.exb_settling_laws.proofs.SessionFacts.{facts_from}
use Rattle.exb_settling_laws.proofs.SendableRequests.{from_first}

both_ways : (b : Bool) → b ≡ true → b ≡ false → ⊥
both_ways b x y = cc

same_some : (o : Option ℕ) (a b : ℕ) → o ≡ Some a → o ≡ Some b → a ≡ b
same_some o a b e f = cc

-- ---- whose a word is
module _ (t : Shape) (tree : IsTree t) (round : TagRoundTrip) (h g : Held) (from : KeepsCascades t h g) where
  -- a frame on a link is of one extender, and has one content
  record IsOne (m : ℕ) (f : List ℕ) (n : ℕ) (c : List ℕ) : Type 0 where
    addressed : addressee t g m f ≡ Some n
    plain_is : plain f ≡ c

  tagged_one : (m n : ℕ) (f c : List ℕ) → is_extender t n ≡ true → is_bare_control c ≡ true → IsTagged t g m f n c → IsOne m f n c
  tagged_one m n f c there bare k =
      record {
        addressed = ap (addressee t g m) k.frame ∙ tagged_addressed t tree g round m n k.channel c bare k.small there k.holds;
        plain_is = ap plain k.frame ∙ tagged_plain t tree g round c k.channel bare k.small;
      }

  bare_one : (m n : ℕ) (f c : List ℕ) → is_bare_control c ≡ true → m ≡ n → f ≡ c → IsOne m f n c
  bare_one m n f c bare same is =
      let untyped : has_etag_type f ≡ false = ap has_etag_type is ∙ (bare_is c bare).untyped in
      record { addressed = bare_addressed t tree g m f untyped ∙ ap (λ (z : ℕ). Some z) same; plain_is = bare_plain t tree g f untyped ∙ is }

  -- the channels with which the world began are held now
  tag_now : (m n : ℕ) (f c : List ℕ) → is_extender t n ≡ true → IsTagged t h m f n c → IsTagged t g m f n c
  tag_now m n f c there k =
      let P : ℕ → Type 0 = λ i. g.port i k.channel ≡ Some (on t n) in
      let Q : ℕ → Type 0 = λ i. h.port i k.channel ≡ Some (on t n) in
      record {
        channel = k.channel;
        some = k.some;
        small = k.small;
        frame = k.frame;
        deep = k.deep;
        home = k.home;
        holds = subst P (sym k.home) (from n k.channel there k.deep k.some (subst Q k.home k.holds));
      }

  placed_one : (K : ℕ → List ℕ → Type 0) (m : ℕ) (f : List ℕ) → (k : IsPlaced t h K m f) → IsOne m f k.of k.frame
  placed_one K m f k =
      elim k.way [
        | inl e ↦ bare_one m k.of f k.frame k.bare e.0 e.1
        | inr w ↦ tagged_one m k.of f k.frame k.there k.bare (tag_now m k.of f k.frame k.there w.1)
      ]

  fits_one : (P : ℕ → List ℕ → Type 0) (m : ℕ) (f : List ℕ) → (k : IsOnWay t g m f P) → IsOne m f k.of k.frame
  fits_one P m f k =
      elim k.way [
        | inl e ↦ bare_one m k.of f k.frame k.bare e.0 e.1
        | inr w ↦ tagged_one m k.of f k.frame k.there k.bare w
      ]

  -- ---- what is left to be shown of a word
  stands_above : (K : ℕ → List ℕ → Type 0) (m : ℕ) (f : List ℕ) → IsPlaced t h K m f → (n : ℕ) (c : List ℕ) → is_extender t n ≡ true → is_bare_control c ≡ true → IsTagged t g m f n c → (m ≢ n) × IsAbove t 64 m n
  stands_above K m f k n c there bare tag =
      let mine : IsOne m f k.of k.frame = placed_one K m f k in
      let its : IsOne m f n c = tagged_one m n f c there bare tag in
      let same : k.of ≡ n = same_some (addressee t g m f) k.of n mine.addressed its.addressed in
      let P : ℕ → Type 0 = λ z. (m ≢ z) × IsAbove t 64 m z in
      subst P same (by_way k.way, k.below)
    where
      typed : has_etag_type f ≡ true
      typed = ap has_etag_type tag.frame ∙ read_typed (Rattle.exb_model.specs.ETags.tagged c (channel_tag tag.channel)) (channel_tag tag.channel) (tagged_read t tree g round c tag.channel bare tag.small)

      by_way : ((m ≡ k.of) × (f ≡ k.frame)) ⊎ ((m ≢ k.of) × IsTagged t h m f k.of k.frame) → m ≢ k.of
      by_way (inl e) = absurd (both_ways (has_etag_type f) typed (ap has_etag_type e.1 ∙ (bare_is k.frame k.bare).untyped))
      by_way (inr w) = w.0

  pub word_left : (K L : ℕ → List ℕ → Type 0) (m : ℕ) (x : LinkFrame) → IsBytes x.bytes → WordPlaced t h K m x → ((n : ℕ) → addressee t g m x.bytes ≡ Some n → is_control_frame x.bytes ≡ true → K n (plain x.bytes) → L n (plain x.bytes)) → WordLeft t g L m x
  word_left K L m x bytes placed more =
      record {
        bytes = bytes;
        placed = λ control n c there bare tag. stands_above K m x.bytes (placed (control)) n c there bare tag;
        reads = λ control n addressed. reads_so n addressed (control) (placed (control));
      }
    where
      reads_so : (n : ℕ) → addressee t g m x.bytes ≡ Some n → is_control_frame x.bytes ≡ true → IsPlaced t h K m x.bytes → L n (plain x.bytes)
      reads_so n addressed control k =
          let mine : IsOne m x.bytes k.of k.frame = placed_one K m x.bytes k in
          let same : k.of ≡ n = same_some (addressee t g m x.bytes) k.of n mine.addressed addressed in
          let P : ℕ → Type 0 = λ z. K z (plain x.bytes) in
          let Q : List ℕ → Type 0 = λ z. K k.of z in
          more n addressed control (subst P same (subst Q (sym mine.plain_is) k.reads))

  -- what a frame of extender n hands up
  pub hands_to : (B : ℕ → ℕ → Body → Type 0) (m n : ℕ) (f : List ℕ) → addressee t g m f ≡ Some n → IsOnWay t g m f (λ i c. Hands c (B i)) → Hands (plain f) (B n)
  hands_to B m n f addressed k =
      let mine : IsOne m f k.of k.frame = fits_one (λ i c. Hands c (B i)) m f k in
      let same : k.of ≡ n = same_some (addressee t g m f) k.of n mine.addressed addressed in
      let P : ℕ → Type 0 = λ z. Hands (plain f) (B z) in
      let Q : List ℕ → Type 0 = λ z. Hands z (B k.of) in
      subst P same (subst Q (sym mine.plain_is) k.fits)

-- ---- answers are of the kind of the request that waits
module _ (t : Shape) (l : Limits) (w : World) (sound : IsSound t l w) where
  answered_kind : (o : Option Work) (k : Work) (r : Response) → o ≡ Some k → StandsBy (fixing t l) o w.control w.control.queue (λ n. (w.far n).tables) (Some r) → r.to ≡ kind_of k.first.request
  answered_kind None k r e h = absurd (cc)
  answered_kind (Some x) k r e h =
      let same : x ≡ k = same_work x k e in
      h.answers.0 ∙ ap (λ (z : Work). kind_of z.first.request) same
    where
      same_work : (x k : Work) → Some x ≡ Some k → x ≡ k
      same_work x k e = cc

  pub is_of_kind : (n : ℕ) (f : List ℕ) → Hands f (WasAnswered (w.far n).session) → IsOfKind (w.control.askers n) f
  is_of_kind n f hands =
      record {
        kind = λ p m request response d a reads content waits serial.
            let was : IsAnswered (w.far n).session m.serial response = (let P : Body → Type 0 = λ b. WasAnswered (w.far n).session m.serial b in subst P content ((hands.each p d a).each m reads)) in
            by_answer request response waits (last_is m.serial serial was.early (sound.fits.ends.paired n)) (was.same (serial ∙ sym (last_is m.serial serial was.early (sound.fits.ends.paired n))));
      }
    where
      last_is : (serial : ℕ) → serial ≡ (w.control.askers n).serial → serial ≤ (w.far n).session.last → ArePaired (w.control.askers n) (w.far n).session → (w.far n).session.last ≡ (w.control.askers n).serial
      last_is serial e early (inl same) = same
      last_is serial e early (inr less) = absurd (omega (arith, early, e, less.0))

      by_answer : (request : Request) (response : Response) → (w.control.askers n).waiting ≡ Some request → (w.far n).session.last ≡ (w.control.askers n).serial → (w.far n).session.answer ≡ Some response → same_kind response.to (kind_of request) ≡ true
      by_answer request response waits last answer =
          let out : IsOutstanding w.control n request = outstanding w.control n request sound.fits.ends.waits waits in
          let at_n : answer_at (w.control.askers n) (w.far n) ≡ Some response = rw (eq-eqb (w.far n).session.last (w.control.askers n).serial last) answer in
          let there : (system_of w).answer ≡ Some response = ap (λ (o : Option Work). answer_in o w.control.askers w.far) out.is ∙ subst (λ (i : ℕ). answer_at (w.control.askers i) (w.far i) ≡ Some response) (sym out.of) at_n in
          let P : Option Response → Type 0 = λ o. StandsBy (fixing t l) w.control.work w.control w.control.queue (λ n. (w.far n).tables) o in
          let kind : response.to ≡ kind_of out.work.first.request = answered_kind w.control.work out.work response out.is (subst P there sound.stands.stands) in
          let same : response.to ≡ kind_of request = kind ∙ ap kind_of out.asked in
          eq-eqb (number_of response.to) (number_of (kind_of request)) (ap number_of same)

-- ---- all words
each_both : (P Q R : LinkFrame → Type 0) (ws : List LinkFrame) → ((x : LinkFrame) → P x → Q x → R x) → Each P ws → Each Q ws → Each R ws
each_both P Q R [] f p q = tt
each_both P Q R (x ∷ xs) f p q = (f x p.0 q.0, each_both P Q R xs f p.1 q.1)

each_pair : (P Q : LinkFrame → Type 0) (ws : List LinkFrame) → Each P ws → Each Q ws → Each (λ x. P x × Q x) ws
each_pair P Q ws p q = each_both P Q (λ x. P x × Q x) ws (λ x a b. (a, b)) p q

pub facts_of : (t : Shape) (l : Limits) (tree : IsTree t) (setting : IsSetting t l) (round : TagRoundTrip) (w : World) → IsGoing t l w → IsOrderly t w → Facts t l w
facts_of t l tree setting round w k o =
    let from = from_first t l (system_of w) k.sound.stands in
    facts_from t l tree round w k.sound.fits (stands_route t tree (system_of w) (forget t l (system_of w) k.sound.stands) (fixed_now t l (system_of w) k.sound.stands).high w.far (λ i. refl))
    (record {
      near = k.near;
      far = k.far;
      unheard = o.unheard;
      downs = λ m there.
          each_both (λ x. IsBytes x.bytes) (WordPlaced t (first_held t l) ReadsDown m) (WordLeft t w.control.held KindDown m) (w.down m)
          (λ x bytes placed. word_left t tree round (first_held t l) w.control.held (from_first t l (system_of w) k.sound.stands) ReadsDown KindDown m x bytes placed (λ n addressed control reads. reads)) (o.bytes.downs m) (k.placed.downs m);
      ups = λ m there.
          each_both (λ x. IsBytes x.bytes × WordPlaced t (first_held t l) (ReadsUp t) m x) (WordFits t w.control.held (StoredAt w.far) m) (WordLeft t w.control.held (KindUp t w.control.askers) m) (w.up m)
          (λ x both fits. word_left t tree round (first_held t l) w.control.held (from_first t l (system_of w) k.sound.stands) (ReadsUp t) (KindUp t w.control.askers) m x both.0 both.1
          (λ n addressed control reads. (reads.0, is_of_kind t l w k.sound n (plain x.bytes) (hands_to t tree round (first_held t l) w.control.held (from_first t l (system_of w) k.sound.stands) (StoredAt w.far) m n x.bytes addressed (fits control)), reads.1)))
          (each_pair (λ x. IsBytes x.bytes) (WordPlaced t (first_held t l) (ReadsUp t) m) (w.up m) (o.bytes.ups m) (k.placed.ups m)) (k.sound.fits.ups m);
      queue = o.queue;
    })

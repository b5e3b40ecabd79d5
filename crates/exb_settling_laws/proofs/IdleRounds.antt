-- Rounds while nothing waits, and until an announcement is heard.
use Rattle.std.proofs.Common.{◌≡◌, ◌⊎◌, inl, inr, ⊎_elim, ℕ, ◌+◌, ◌==◌, ◌&&◌, ◌≤◌, ◌<◌, Bool, true, false, List, [], ◌∷◌, ◌++◌, Option, Some, None, refl, ap, sym, ◌∙◌, subst, arith}
use Rattle.std.specs.Prelude.{nat_lt}
use Rattle.std.specs.List.{AllByRecursion}
use Rattle.std.proofs.lemmas.Bool.{ne_eqb, eqb-true, eqb-false, and_parts}
use Rattle.exb_settling_laws.specs.StopAndWait.{Message, Request, Answer, Ack, Hello, Sending, is_got, unless_acked, kept_if, aged, older, again, is_due, one_if, counted, hello_words}
use Rattle.exb_settling_laws.specs.SessionPair.{Near, Far, Pair, near_hears, near_all, near_gets, near_takes, near_beat, beats_while, near_empty, near_up, far_hears, far_gets, far_takes, far_again, far_all, far_empty, far_beat, far_down, with_got, pass_round}
use Rattle.exb_settling_laws.specs.SessionMessages.{IsNoRequest}
use Rattle.exb_settling_laws.specs.AnswerStages.{OnSending, Idle, IdleLeft, IdleAtMost, IsSettled}
use Rattle.exb_settling_laws.proofs.MessageLists.{each_push}

-- the bridge while nothing waits
pub record IdleNear (n : Near) : Type 0 where
  pub waits : n.waits ≡ false
  pub none : n.link.sending ≡ None

pub idle_hears : (n : Near) (m : Message) → IdleNear n → IdleNear (near_hears n m)
idle_hears n (Request s k) h = h
idle_hears n (Answer s k) h =
    elim (is_got n.link.got s) as (λ b. IdleNear (near_gets b n s k)) [
      | true ↦ record { waits = h.waits; none = h.none }
      | false ↦
          let x : Near = record { link = with_got n.link s; waits = n.waits; serial = n.serial; beats = n.beats; sent = n.sent ++ Ack s ∷ [] } in
          let z : (n.waits && (k == n.serial)) ≡ false = rw h.waits refl in
          subst (λ v. IdleNear (near_takes v x)) (sym z) (record { waits = h.waits; none = h.none })
    ]
idle_hears n (Ack s) h = record { waits = h.waits; none = (let e : n.link.sending ≡ None = h.none in ap (unless_acked s) e) }
idle_hears n Hello h = h

pub idle_all : (n : Near) (ms : List Message) → IdleNear n → IdleNear (near_all n ms)
idle_all n [] h = h
idle_all n (m ∷ ms) h = idle_all (near_hears n m) ms (idle_hears n m h)

-- the bridge sends acknowledgements alone
no_request_hears : (n : Near) (m : Message) → AllByRecursion IsNoRequest n.sent → AllByRecursion IsNoRequest (near_hears n m).sent
no_request_hears n (Request s k) h = h
no_request_hears n (Answer s k) h =
    elim (is_got n.link.got s) as (λ b. AllByRecursion IsNoRequest (near_gets b n s k).sent) [
      | true ↦ each_push IsNoRequest _ _ h tt
      | false ↦
          let x : Near = record { link = with_got n.link s; waits = n.waits; serial = n.serial; beats = n.beats; sent = n.sent ++ Ack s ∷ [] } in
          elim (n.waits && (k == n.serial)) as (λ b. AllByRecursion IsNoRequest (near_takes b x).sent) [
            | true ↦ each_push IsNoRequest n.sent (Ack s) h tt
            | false ↦ each_push IsNoRequest n.sent (Ack s) h tt
          ]
    ]
no_request_hears n (Ack s) h = h
no_request_hears n Hello h = h

no_request_all : (n : Near) (ms : List Message) → AllByRecursion IsNoRequest n.sent → AllByRecursion IsNoRequest (near_all n ms).sent
no_request_all n [] h = h
no_request_all n (m ∷ ms) h = no_request_all (near_hears n m) ms (no_request_hears n m h)

-- an extender that hears no request sends nothing
record Silent (P : Sending → Type 0) (last0 : ℕ) (f : Far) : Type 0 where
  sent : f.sent ≡ []
  last : f.last ≡ last0
  sending : OnSending P f.link.sending

kept_or_none : (P : Sending → Type 0) (s : ℕ) (o : Option Sending) → OnSending P o → OnSending P (unless_acked s o)
kept_or_none P s None h = tt
kept_or_none P s (Some x) h = elim (x.sequence == s) as (λ b. OnSending P (kept_if b x)) [ true ↦ tt | false ↦ h ]

silent_all : (P : Sending → Type 0) (l : ℕ) (f : Far) (ms : List Message) → AllByRecursion IsNoRequest ms → Silent P l f → Silent P l (far_all f ms)
silent_all P l f [] d h = h
silent_all P l f (Request s k ∷ ms) d h = absurd d.0
silent_all P l f (Answer s k ∷ ms) d h = silent_all P l f ms d.1 h
silent_all P l f (Ack s ∷ ms) d h = silent_all P l (far_hears f (Ack s)) ms d.1 (record { sent = h.sent; last = h.last; sending = kept_or_none P s f.link.sending h.sending })
silent_all P l f (Hello ∷ ms) d h = silent_all P l f ms d.1 h

-- one beat of what is sent
record Aged (t : ℕ) (o : Option Sending) : Type 0 where
  sending : OnSending (λ x. (13 ≤ t + x.beats) × (x.beats < 12)) (aged o)
  words : (again Answer o ≡ []) ⊎ (1 ≤ t)

aged_less : (t : ℕ) (o : Option Sending) → OnSending (λ x. (13 ≤ t + 1 + x.beats) × (x.beats < 12)) o → Aged t o
aged_less t None h = record { sending = tt; words = inl refl }
aged_less t (Some x) h =
    let low : 13 ≤ t + 1 + x.beats = h.0 in
    let few : x.beats < 12 = h.1 in
    record {
      sending = elim (x.beats + 1 == 12) as (λ b. (x.beats + 1 == 12) ≡ b → OnSending (λ x. (13 ≤ t + x.beats) × (x.beats < 12)) (kept_if b (older x))) [
        | true ↦ λ e. tt
        | false ↦ λ e. let d : x.beats + 1 ≡ 12 → ⊥ = eqb-false _ _ e in (omega arith, omega arith)
      ] refl;
      words = elim (x.beats + 1 == 12) as (λ b. (x.beats + 1 == 12) ≡ b → (again Answer (Some x) ≡ []) ⊎ (1 ≤ t)) [
        | true ↦ λ e. let d : x.beats + 1 ≡ 12 = eqb-true _ _ e in inl (ap (λ v. one_if (is_due v) (Answer x.sequence x.serial)) d)
        | false ↦ λ e. let d : x.beats + 1 ≡ 12 → ⊥ = eqb-false _ _ e in inr (omega arith)
      ] refl;
    }

aged_any : (t : ℕ) (o : Option Sending) → 13 ≤ t → OnSending (λ x. x.beats < 12) o → OnSending (λ x. (13 ≤ t + x.beats) × (x.beats < 12)) (aged o)
aged_any t None l h = tt
aged_any t (Some x) l h =
    let few : x.beats < 12 = h in
    elim (x.beats + 1 == 12) as (λ b. (x.beats + 1 == 12) ≡ b → OnSending (λ x. (13 ≤ t + x.beats) × (x.beats < 12)) (kept_if b (older x))) [
      | true ↦ λ e. tt
      | false ↦ λ e. let d : x.beats + 1 ≡ 12 → ⊥ = eqb-false _ _ e in (omega arith, omega arith)
    ] refl

idle_beat : (n : Near) → IdleNear n → (near_beat (near_empty n)).sent ≡ []
idle_beat n h =
    let w : n.waits ≡ false = h.waits in
    let e : n.link.sending ≡ None = h.none in
    ap (λ v. (beats_while v (near_empty n)).sent) w ∙ ap (again Request) e

idle_beat_near : (n : Near) → IdleNear n → IdleNear (near_beat (near_empty n))
idle_beat_near n h =
    let w : n.waits ≡ false = h.waits in
    let e : n.link.sending ≡ None = h.none in
    subst (λ v. IdleNear (beats_while v (near_empty n))) (sym w) (record { waits = h.waits; none = ap aged e })

no_hello : (a b : Bool) → b ≡ false → hello_words a b ≡ []
no_hello true true e = absurd (cc)
no_hello true false e = refl
no_hello false b e = refl

-- what is opened stays so
opened_hears : (f : Far) (m : Message) → 0 < f.last → 0 < (far_hears f m).last
opened_hears f (Request s k) h =
    elim (is_got f.link.got s) as (λ b. 0 < (far_gets b f s k).last) [
      | true ↦ h
      | false ↦
          let g : Far = record { link = with_got f.link s; last = f.last; count = f.count; sent = f.sent ++ Ack s ∷ [] } in
          elim (k == f.last + 1) as (λ b. (k == f.last + 1) ≡ b → 0 < (far_takes b g k).last) [
            | true ↦ λ e. let q : k ≡ f.last + 1 = eqb-true _ _ e in omega arith
            | false ↦ λ e. elim ((k == f.last) && nat_lt 0 f.last) as (λ b. ((k == f.last) && nat_lt 0 f.last) ≡ b → 0 < (far_again b g k).last) [
              | true ↦ λ t. let q : k ≡ f.last = eqb-true _ _ (and_parts _ _ t).0 in omega arith
              | false ↦ λ t. h
            ] refl
          ] refl
    ]
opened_hears f (Answer s k) h = h
opened_hears f (Ack s) h = h
opened_hears f Hello h = h

opened_all : (f : Far) (ms : List Message) → 0 < f.last → 0 < (far_all f ms).last
opened_all f [] h = h
opened_all f (m ∷ ms) h = opened_all (far_hears f m) ms (opened_hears f m h)

-- from any world in which nothing waits
pub idle_round : (t : ℕ) (p : Pair) → Idle p → IdleLeft (t + 1) p → IdleLeft t (pass_round p)
idle_round t p i l =
    let n : IdleNear (near_up p) = idle_all p.near p.far.sent (record { waits = i.waits; none = i.none }) in
    let words : AllByRecursion IsNoRequest (near_up p).sent = no_request_all p.near p.far.sent (subst (AllByRecursion IsNoRequest) (sym l.down) tt) in
    let f : Silent (λ x. (13 ≤ t + 1 + x.beats) × (x.beats < 12)) p.far.last (far_down p) = silent_all _ p.far.last (far_empty p.far) (near_up p).sent words (record { sent = refl; last = refl; sending = l.sending }) in
    let a : Aged t (far_down p).link.sending = aged_less t (far_down p).link.sending f.sending in
    let c : Bool = counted ((far_down p).count == 15) (far_down p).count == 1 in
    let known : 0 < p.far.last = i.opened in
    let last : (far_down p).last ≡ p.far.last = f.last in
    let none : ((far_down p).last == 0) ≡ false = ne_eqb (far_down p).last 0 (λ z. omega arith) in
    let up : (far_beat (far_down p)).sent ≡ again Answer (far_down p).link.sending =
    ap (λ v. v ++ (hello_words (counted ((far_down p).count == 15) (far_down p).count == 1) ((far_down p).last == 0) ++ again Answer (far_down p).link.sending)) f.sent
    ∙ ap (λ v. v ++ again Answer (far_down p).link.sending) (no_hello (counted ((far_down p).count == 15) (far_down p).count == 1) ((far_down p).last == 0) none) in
    record {
      down = idle_beat (near_up p) n;
      sending = a.sending;
      up = ⊎_elim (λ (e : again Answer (far_down p).link.sending ≡ []). inl (up ∙ e)) (λ (e : 1 ≤ t). inr e) a.words;
    }

pub idle_keeps : (p : Pair) → Idle p → OnSending (λ x. x.beats < 12) (pass_round p).far.link.sending → Idle (pass_round p)
idle_keeps p i b =
    let n : IdleNear (near_beat (near_empty (near_up p))) = idle_beat_near (near_up p) (idle_all p.near p.far.sent (record { waits = i.waits; none = i.none })) in
    record { waits = n.waits; none = n.none; beats = b; opened = opened_all (far_empty p.far) (near_up p).sent i.opened }

-- with no round left all is settled
pub idle_done : (p : Pair) → Idle p → IdleLeft 0 p → IsSettled p
idle_done p i l = record { near = i.none; far = none p.far.link.sending l.sending; down = l.down; up = ⊎_elim (λ (e : p.far.sent ≡ []). e) (λ (e : 1 ≤ 0). absurd (omega arith)) l.up }
  where
    none : (o : Option Sending) → OnSending (λ x. (13 ≤ 0 + x.beats) × (x.beats < 12)) o → o ≡ None
    none None h = refl
    none (Some x) h = let a : 13 ≤ 0 + x.beats = h.0 in let b : x.beats < 12 = h.1 in absurd (omega arith)

fewer_hears : (f : Far) (m : Message) → OnSending (λ x. x.beats < 12) f.link.sending → OnSending (λ x. x.beats < 12) (far_hears f m).link.sending
fewer_hears f (Request s k) h =
    elim (is_got f.link.got s) as (λ b. OnSending (λ x. x.beats < 12) (far_gets b f s k).link.sending) [
      | true ↦ h
      | false ↦
          let g : Far = record { link = with_got f.link s; last = f.last; count = f.count; sent = f.sent ++ Ack s ∷ [] } in
          elim (k == f.last + 1) as (λ b. OnSending (λ x. x.beats < 12) (far_takes b g k).link.sending) [
            | true ↦ omega arith
            | false ↦ elim ((k == f.last) && nat_lt 0 f.last) as (λ b. OnSending (λ x. x.beats < 12) (far_again b g k).link.sending) [ true ↦ omega arith | false ↦ h ]
          ]
    ]
fewer_hears f (Answer s k) h = h
fewer_hears f (Ack s) h = kept_or_none (λ x. x.beats < 12) s f.link.sending h
fewer_hears f Hello h = h

fewer_all : (f : Far) (ms : List Message) → OnSending (λ x. x.beats < 12) f.link.sending → OnSending (λ x. x.beats < 12) (far_all f ms).link.sending
fewer_all f [] h = h
fewer_all f (m ∷ ms) h = fewer_all (far_hears f m) ms (fewer_hears f m h)

weaker : (t : ℕ) (o : Option Sending) → OnSending (λ x. (13 ≤ t + x.beats) × (x.beats < 12)) o → OnSending (λ x. x.beats < 12) o
weaker t None h = tt
weaker t (Some x) h = h.1

-- one round of Pass alone takes each old word away
pub rough_idle_round : (t : ℕ) (p : Pair) → 13 ≤ t → Idle p → Idle (pass_round p) × IdleLeft t (pass_round p)
rough_idle_round t p l i =
    let n : IdleNear (near_up p) = idle_all p.near p.far.sent (record { waits = i.waits; none = i.none }) in
    let f : OnSending (λ x. x.beats < 12) (far_down p).link.sending = fewer_all (far_empty p.far) (near_up p).sent i.beats in
    let a : OnSending (λ x. (13 ≤ t + x.beats) × (x.beats < 12)) (aged (far_down p).link.sending) = aged_any t (far_down p).link.sending l f in
    (idle_keeps p i (weaker t (aged (far_down p).link.sending) a), record { down = idle_beat (near_up p) n; sending = a; up = inr (omega arith) })

-- nothing waits: in each round of Pass alone the bound falls
pub idle_falls : (t : ℕ) (p : Pair) → Idle p → IdleAtMost (t + 1) p → Idle (pass_round p) × IdleAtMost t (pass_round p)
idle_falls t p i l =
    ⊎_elim
    (λ (h : 14 ≤ t + 1). let r : Idle (pass_round p) × IdleLeft t (pass_round p) = rough_idle_round t p (omega arith) i in (r.0, inr r.1))
    (λ (h : IdleLeft (t + 1) p). let r : IdleLeft t (pass_round p) = idle_round t p i h in (idle_keeps p i (weaker t (pass_round p).far.link.sending r.sending), inr r))
    l

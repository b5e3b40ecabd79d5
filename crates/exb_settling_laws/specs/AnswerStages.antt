-- How many rounds are left until a request that waits is answered.
use Rattle.std.specs.Prelude.{◌≡◌, ◌⊎◌, ℕ, ◌+◌, ◌<◌, ◌≤◌, true, false, [], Option, Some, None, ⊤}
use Rattle.std.specs.List.{AllByRecursion}
use Rattle.exb_settling_laws.specs.StopAndWait.{Message, Request, Answer, Ack, Hello, Sending}
use Rattle.exb_ecp.specs.StopAndWait.{after}
use Rattle.exb_settling_laws.specs.SessionPair.{Pair}
use Rattle.exb_settling_laws.specs.SessionMessages.{IsDown, IsUp, HasAnswer, HasRequest, IsCurrent, IsTold}

-- a request has no later serial
abbrev pub IsOld : ℕ → Message → Type 0
IsOld serial (Request s k) = k ≤ serial
IsOld serial (Answer s k) = ⊤
IsOld serial (Ack s) = ⊤
IsOld serial Hello = ⊤

-- what holds of the two ends in each world while a request waits
pub record Waiting (p : Pair) : Type 0 where
  pub waits : p.near.waits ≡ true
  pub beats : p.near.beats < 16
  pub told : IsTold p.near.serial p.far.last
  pub here : IsCurrent p.near.link.next p.near.serial p.near.link.sending
  pub there : IsCurrent p.far.link.next p.far.last p.far.link.sending
  pub asked : (q : ℕ) × (after q ≡ p.near.link.next)
  pub answered : (y : ℕ) × (after y ≡ p.far.link.next)
  pub old : AllByRecursion (IsOld p.near.serial) p.near.sent

-- no earlier request stands on the way down
pub record Fresh (p : Pair) : Type 0 where
  pub q : ℕ
  pub asked : after q ≡ p.near.link.next
  pub down : AllByRecursion (IsDown q p.near.serial) p.near.sent

-- nor does an earlier answer on the way up
pub record Steady (q y : ℕ) (p : Pair) : Type 0 where
  pub asked : after q ≡ p.near.link.next
  pub answered : after y ≡ p.far.link.next
  pub down : AllByRecursion (IsDown q p.near.serial) p.near.sent
  pub up : AllByRecursion (IsUp y p.far.last) p.far.sent

-- the next asking may be taken for a repetition, and so may the answer to it
pub record Resting (s : ℕ) (p : Pair) : Type 0 where
  pub once : ℕ
  pub more : ℕ
  pub request : p.far.link.got ≡ Some p.near.link.next → 16 ≤ once
  pub answer : p.near.link.got ≡ Some p.far.link.next → 16 ≤ more
  pub bound : 18 + once + more ≤ s + p.near.beats

-- the request was just asked, and will be heard
pub record Asking (q s : ℕ) (p : Pair) : Type 0 where
  pub more : ℕ
  pub has : HasRequest p.near.sent
  pub other : p.far.link.got ≡ Some q → ⊥
  pub now : p.near.beats ≡ 0
  pub answer : p.near.link.got ≡ Some p.far.link.next → 16 ≤ more
  pub bound : 2 + more ≤ s

-- the answer is on its way, and will be taken
pub record Coming (y s : ℕ) (p : Pair) : Type 0 where
  pub has : HasAnswer p.far.sent
  pub other : p.near.link.got ≡ Some y → ⊥
  pub last : p.far.last ≡ p.near.serial
  pub bound : 1 ≤ s

pub record SteadyLeft (s : ℕ) (p : Pair) : Type 0 where
  pub q : ℕ
  pub y : ℕ
  pub steady : Steady q y p
  pub stage : Resting s p ⊎ (Asking q s p ⊎ Coming y s p)

-- at most s rounds in which each word passes are left
abbrev pub AtMost : ℕ → Pair → Type 0
AtMost s p = (52 ≤ s) ⊎ (((51 ≤ s) × Fresh p) ⊎ SteadyLeft s p)

abbrev pub OnSending : (Sending → Type 0) → Option Sending → Type 0
OnSending P None = ⊤
OnSending P (Some x) = P x

-- what holds of the two ends in each world while nothing waits
pub record Idle (p : Pair) : Type 0 where
  pub waits : p.near.waits ≡ false
  pub none : p.near.link.sending ≡ None
  pub beats : OnSending (λ x. x.beats < 12) p.far.link.sending
  pub opened : 0 < p.far.last

-- no word stands on the way down, the extender sends for so many rounds, and one more takes its words
pub record IdleLeft (s : ℕ) (p : Pair) : Type 0 where
  pub down : p.near.sent ≡ []
  pub sending : OnSending (λ x. (13 ≤ s + x.beats) × (x.beats < 12)) p.far.link.sending
  pub up : (p.far.sent ≡ []) ⊎ (1 ≤ s)

abbrev pub IdleAtMost : ℕ → Pair → Type 0
IdleAtMost s p = (14 ≤ s) ⊎ IdleLeft s p

-- nothing is sent and no word stands
pub record IsSettled (p : Pair) : Type 0 where
  pub near : p.near.link.sending ≡ None
  pub far : p.far.link.sending ≡ None
  pub down : p.near.sent ≡ []
  pub up : p.far.sent ≡ []

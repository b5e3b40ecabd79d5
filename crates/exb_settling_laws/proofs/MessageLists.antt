-- Lists of words.
use Rattle.std.proofs.Common.{◌≡◌, ℕ, ◌+◌, ◌==◌, Bool, true, false, List, [], ◌∷◌, ◌++◌, Option, Some, None}
use Rattle.std.specs.List.{AllByRecursion}
use Rattle.exb_settling_laws.specs.StopAndWait.{Message, Request, Answer, Ack, Hello, Sending, unless_acked, aged, again, one_if, kept_if, is_due, older}
use Rattle.exb_ecp.specs.StopAndWait.{after}
use Rattle.exb_settling_laws.specs.SessionMessages.{IsDown, IsUp, HasAnswer, HasRequest, IsCurrent}

pub each_join : {A : Type 0} (P : A → Type 0) (xs ys : List A) → AllByRecursion P xs → AllByRecursion P ys → AllByRecursion P (xs ++ ys)
each_join P [] ys h k = k
each_join P (x ∷ xs) ys h k = (h.0, each_join P xs ys h.1 k)

pub each_push : {A : Type 0} (P : A → Type 0) (xs : List A) (x : A) → AllByRecursion P xs → P x → AllByRecursion P (xs ++ x ∷ [])
each_push P xs x h p = each_join P xs (x ∷ []) h (p, tt)

pub each_weaker : {A : Type 0} (P Q : A → Type 0) → ((x : A) → P x → Q x) → (xs : List A) → AllByRecursion P xs → AllByRecursion Q xs
each_weaker P Q f [] h = tt
each_weaker P Q f (x ∷ xs) h = (f x h.0, each_weaker P Q f xs h.1)

pub has_answer_join : (xs ys : List Message) → HasAnswer xs → HasAnswer (xs ++ ys)
has_answer_join [] ys h = absurd h
has_answer_join (Request s k ∷ xs) ys h = has_answer_join xs ys h
has_answer_join (Answer s k ∷ xs) ys h = tt
has_answer_join (Ack s ∷ xs) ys h = has_answer_join xs ys h
has_answer_join (Hello ∷ xs) ys h = has_answer_join xs ys h

pub has_answer_last : (xs : List Message) (s k : ℕ) → HasAnswer (xs ++ Answer s k ∷ [])
has_answer_last [] s k = tt
has_answer_last (Request t j ∷ xs) s k = has_answer_last xs s k
has_answer_last (Answer t j ∷ xs) s k = tt
has_answer_last (Ack t ∷ xs) s k = has_answer_last xs s k
has_answer_last (Hello ∷ xs) s k = has_answer_last xs s k

pub has_request_join : (xs ys : List Message) → HasRequest xs → HasRequest (xs ++ ys)
has_request_join [] ys h = absurd h
has_request_join (Request s k ∷ xs) ys h = tt
has_request_join (Answer s k ∷ xs) ys h = has_request_join xs ys h
has_request_join (Ack s ∷ xs) ys h = has_request_join xs ys h
has_request_join (Hello ∷ xs) ys h = has_request_join xs ys h

pub current_kept : (n k : ℕ) (b : Bool) (x : Sending) → IsCurrent n k (Some x) → IsCurrent n k (kept_if b x)
current_kept n k true x h = tt
current_kept n k false x h = h

pub current_acked : (n k s : ℕ) (o : Option Sending) → IsCurrent n k o → IsCurrent n k (unless_acked s o)
current_acked n k s None h = tt
current_acked n k s (Some x) h = current_kept n k (x.sequence == s) x h

pub current_aged : (n k : ℕ) (o : Option Sending) → IsCurrent n k o → IsCurrent n k (aged o)
current_aged n k None h = tt
current_aged n k (Some x) h = current_kept n k (x.beats + 1 == 12) (older x) h

pub each_one_if : (P : Message → Type 0) (b : Bool) (m : Message) → P m → AllByRecursion P (one_if b m)
each_one_if P true m h = (h, tt)
each_one_if P false m h = tt

-- what is sent again is what is sent
pub again_up : (y k : ℕ) (o : Option Sending) → IsCurrent (after y) k o → ((s : ℕ) → after s ≡ after y → s ≡ y) → AllByRecursion (IsUp y k) (again Answer o)
again_up y k None h same = tt
again_up y k (Some x) h same = each_one_if (IsUp y k) (is_due (x.beats + 1)) (Answer x.sequence x.serial) (same x.sequence h.0, h.1)

pub again_down : (q k : ℕ) (o : Option Sending) → IsCurrent (after q) k o → ((s : ℕ) → after s ≡ after q → s ≡ q) → AllByRecursion (IsDown q k) (again Request o)
again_down q k None h same = tt
again_down q k (Some x) h same = each_one_if (IsDown q k) (is_due (x.beats + 1)) (Request x.sequence x.serial) (same x.sequence h.0, h.1)

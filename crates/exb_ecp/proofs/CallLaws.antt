-- What is sent after any list of calls is told by the last submit and the calls since.
use Rattle.std.proofs.Common.{◌≡◌, ⊎_elim, ℕ, suc, ◌+◌, ◌%◌, ◌==◌, ◌||◌, ◌≤◌, ◌<◌, Bool, true, false, cond, List, [], ◌∷◌, Option, Some, None, refl, ap, ◌∙◌, arith}
use Rattle.std.specs.Prelude.{nat_le}
use Rattle.std.specs.List.{list_any}
use Rattle.std.proofs.lemmas.Bool.{eqb-true, eqb-false, le-leb, lt-leb, leb-true, leb-false, cases_Bool}
use Rattle.exb_ecp.specs.declared.stop_and_wait.Beat.TheVariants as due
use Rattle.exb_ecp.specs.StopAndWait.{Sending, after, unless_sequence, aged, beat_at, beat_of}
use Rattle.exb_ecp.specs.Calls.{Call, Submit, Stop, Acked, Received, Beat, state_after, is_submit, is_beat, ends, sequence_of, Submitted, submit_at, times, last_submit, last_received, is_over, still_sent, due_after, IsTold}

after_sequence : (n : ℕ) → after (sequence_of n) ≡ sequence_of (suc n)
unfolding after
after_sequence n =
    elim (n % 65536 == 65535) as (λ b. (n % 65536 == 65535) ≡ b → cond b 0 (n % 65536 + 1) ≡ suc n % 65536) [
      | true ↦ λ t. let q : n % 65536 ≡ 65535 = eqb-true (n % 65536) 65535 t in omega arith
      | false ↦ λ t. let q : n % 65536 ≡ 65535 → ⊥ = eqb-false (n % 65536) 65535 t in omega arith
    ] refl

next_told : (cs : List Call) → (state_after cs).next ≡ sequence_of (suc (times is_submit cs))
next_told [] = refl
next_told (Submit payload ∷ cs) = ap after (next_told cs) ∙ after_sequence (suc (times is_submit cs))
next_told (Stop ∷ cs) = next_told cs
next_told (Acked sequence ∷ cs) = next_told cs
next_told (Received sequence ∷ cs) = next_told cs
next_told (Beat ∷ cs) = next_told cs

-- ---- what is sent with a call more

acked_by : (a : ℕ) (x : Sending) (ended old : Bool) → unless_sequence a (cond (ended || old) None (Some x)) ≡ cond ((x.sequence == a || ended) || old) None (Some x)
acked_by a x true old = elim (x.sequence == a) as (λ b. None ≡ cond ((b || true) || old) None (Some x)) [ true ↦ refl | false ↦ refl ]
acked_by a x false true = elim (x.sequence == a) as (λ b. None ≡ cond ((b || false) || true) None (Some x)) [ true ↦ refl | false ↦ refl ]
acked_by a x false false = elim (x.sequence == a) as (λ b. cond b None (Some x) ≡ cond ((b || false) || false) None (Some x)) [ true ↦ refl | false ↦ refl ]

acked_told : (a : ℕ) (cs : List Call) (o : Option Submitted) → unless_sequence a (still_sent o) ≡ still_sent (submit_at (Acked a) cs o)
acked_told a cs None = refl
acked_told a cs (Some u) =
    acked_by a (record { sequence = sequence_of u.number; beats = times is_beat u.since; payload = u.payload }) (list_any (ends (sequence_of u.number)) u.since) (nat_le 12 (times is_beat u.since))

beat_by : (sequence beats : ℕ) (payload : List ℕ) (ended : Bool)
    → aged (cond (ended || nat_le 12 beats) None (Some (record { sequence = sequence; beats = beats; payload = payload })))
    ≡ cond (ended || nat_le 12 (suc beats)) None (Some (record { sequence = sequence; beats = suc beats; payload = payload }))
beat_by sequence beats payload true = refl
beat_by sequence beats payload false =
    ⊎_elim
    (λ (old : nat_le 12 beats ≡ true).
    let more : nat_le 12 (suc beats) ≡ true = le-leb 12 (suc beats) (let x : 12 ≤ beats = leb-true 12 beats old in omega arith) in
    rw (old, more) refl)
    (λ (young : nat_le 12 beats ≡ false).
    let few : beats < 12 = leb-false 12 beats young in
    ⊎_elim
    (λ (last : (beats + 1 == 12) ≡ true).
    let e : beats + 1 ≡ 12 = eqb-true (beats + 1) 12 last in
    let more : nat_le 12 (suc beats) ≡ true = le-leb 12 (suc beats) (omega arith) in
    rw (young, more, last) refl)
    (λ (on : (beats + 1 == 12) ≡ false).
    let n : beats + 1 ≡ 12 → ⊥ = eqb-false (beats + 1) 12 on in
    let less : nat_le 12 (suc beats) ≡ false = lt-leb 12 (suc beats) (omega arith) in
    let one : beats + 1 ≡ suc beats = omega arith in
    rw (young, less, on, one) refl)
    (cases_Bool (beats + 1 == 12)))
    (cases_Bool (nat_le 12 beats))

beat_told : (cs : List Call) (o : Option Submitted) → aged (still_sent o) ≡ still_sent (submit_at Beat cs o)
beat_told cs None = refl
beat_told cs (Some u) = beat_by (sequence_of u.number) (times is_beat u.since) u.payload (list_any (ends (sequence_of u.number)) u.since)

received_told : (a : ℕ) (cs : List Call) (o : Option Submitted) → still_sent o ≡ still_sent (submit_at (Received a) cs o)
received_told a cs None = refl
received_told a cs (Some u) = refl

stop_told : (cs : List Call) (o : Option Submitted) → still_sent None ≡ still_sent (submit_at Stop cs o)
stop_told cs None = refl
stop_told cs (Some u) = refl

sending_told : (cs : List Call) → (state_after cs).sending ≡ still_sent (last_submit cs)
sending_told [] = refl
sending_told (Submit payload ∷ cs) = ap (λ n. Some (record { sequence = n; beats = 0; payload = payload })) (next_told cs)
sending_told (Stop ∷ cs) = stop_told cs (last_submit cs)
sending_told (Acked sequence ∷ cs) = ap (unless_sequence sequence) (sending_told cs) ∙ acked_told sequence cs (last_submit cs)
sending_told (Received sequence ∷ cs) = sending_told cs ∙ received_told sequence cs (last_submit cs)
sending_told (Beat ∷ cs) = ap aged (sending_told cs) ∙ beat_told cs (last_submit cs)

due_told : (o : Option Submitted) → beat_of (still_sent o) ≡ due_after o
due_told None = refl
due_told (Some u) =
    elim (is_over u) as (λ b. beat_of (cond b None (Some (record { sequence = sequence_of u.number; beats = times is_beat u.since; payload = u.payload })))
    ≡ cond b due.Nothing (beat_at (times is_beat u.since + 1))) [ true ↦ refl | false ↦ refl ]

received_last : (cs : List Call) → (state_after cs).received ≡ last_received cs
received_last [] = refl
received_last (Submit payload ∷ cs) = received_last cs
received_last (Stop ∷ cs) = received_last cs
received_last (Acked sequence ∷ cs) = received_last cs
received_last (Received sequence ∷ cs) = refl
received_last (Beat ∷ cs) = received_last cs

pub told : (cs : List Call) → IsTold cs
told cs = record { next = next_told cs; sending = sending_told cs; due = ap beat_of (sending_told cs) ∙ due_told (last_submit cs); received = received_last cs }

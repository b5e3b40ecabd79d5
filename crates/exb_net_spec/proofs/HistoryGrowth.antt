-- Histories only go on.
use Rattle.std.proofs.Common.{◌≡◌, ℕ, zero, suc, ◌-◌, ◌==◌, ◌++◌, List, [], ◌∷◌, refl, ap, sym, ◌∙◌, subst, inl, inr}
use Rattle.std.proofs.lemmas.Bool.{cases_Bool, cases_eq, eq-eqb, ne_eqb}
use Rattle.exb_model.specs.declared.event.Event.{Event}
use Rattle.exb_model.specs.declared.event.Event.TheVariants as event
use Rattle.exb_model.specs.EagerHistory.{arrival_event}
use Rattle.exb_model.specs.History.{History, ◌then◌, bridge_after}
use Rattle.exb_net_spec.specs.Nets.{Net}
use Rattle.exb_net_spec.specs.NetHistory.{Crossing, Due, Histories, State, IsDrained, Goes, GoesSince, arrival_of, basis_in, comes, delivered, delivered_times, due_second, event_of, openings, ticked, with_history}
use Rattle.exb_net_spec.specs.NetLaws.{HistoriesGoOn}
use Rattle.exb_net_spec.proofs.EmptyQueues.{since_one}

-- ---- one history behind another
abbrev GoesOn : History → History → Type 0
GoesOn h k = (more : List Event) × (k ≡ (h then more))

then_both : (h : History) (xs ys : List Event) → ((h then xs) then ys) ≡ (h then (xs ++ ys))
then_both h [] ys = refl
then_both h (x ∷ xs) ys = then_both (x ∷ h) xs ys

stays_so : (h : History) → GoesOn h h
stays_so h = ([], refl)

on_and_on : (h k l : History) → GoesOn h k → GoesOn k l → GoesOn h l
on_and_on h k l a b = (a.0 ++ b.0, b.1 ∙ (ap (λ (z : History). z then b.0) a.1 ∙ then_both h a.0 b.0))

abbrev AllGoOn : Histories → Histories → Type 0
AllGoOn hs ks = (b : ℕ) → GoesOn (hs b) (ks b)

one_more : (b : ℕ) (e : Event) (hs : Histories) → AllGoOn hs (with_history b (event.Settled ∷ e ∷ hs b) hs)
one_more b e hs c = elim (cases_eq c b) [
  | inl same ↦ rw (eq-eqb c b same) (e ∷ event.Settled ∷ [], ap (λ (z : ℕ). event.Settled ∷ e ∷ hs z) (sym same))
  | inr other ↦ rw (ne_eqb c b other) (stays_so (hs c))
]

seconds_more : (seconds : ℕ) (hs : Histories) → AllGoOn hs (ticked seconds hs)
seconds_more seconds hs b = elim (cases_Bool (seconds == 0)) [
  | inl none ↦ rw none (stays_so (hs b))
  | inr some ↦ rw some (event.Tick seconds ∷ [], refl)
]

-- ---- a net
module _ (n : Net) where
  delivered_more : (hs : Histories) (queue : List Crossing) → AllGoOn hs (delivered n hs queue).histories
  delivered_more hs [] b = stays_so (hs b)
  delivered_more hs (x ∷ xs) b = one_more x.bridge (arrival_event (bridge_after (basis_in n x.bridge) (hs x.bridge)) (arrival_of x (hs x.bridge))) hs b

  times_more : (k : ℕ) (s : State) → AllGoOn s.histories (delivered_times n k s).histories
  unfolding delivered_times
  times_more zero s b = stays_so (s.histories b)
  times_more (suc k) s b =
      on_and_on (s.histories b) ((delivered n s.histories s.queue).histories b) ((delivered_times n k (delivered n s.histories s.queue)).histories b)
      (delivered_more s.histories s.queue b) (times_more k (delivered n s.histories s.queue) b)

  event_more : (d : Due) (seconds : ℕ) (hs next : Histories) → IsDrained n (comes n d (ticked seconds hs)) next → AllGoOn hs next
  event_more d seconds hs next k b =
      let now : Histories = ticked seconds hs in
      let s : State = comes n d now in
      let end : (delivered_times n k.times s).histories b ≡ next b = ap (λ (z : State). z.histories b) k.is in
      on_and_on (hs b) (now b) (next b) (seconds_more seconds hs b)
      (on_and_on (now b) (s.histories b) (next b) (one_more d.bridge (event_of n d.bridge (now d.bridge) d.coming) now b)
      (subst (GoesOn (s.histories b)) end (times_more k.times s b)))

  since_more : (second : ℕ) (ds : List Due) (hs ks : Histories) → GoesSince n second ds hs ks → AllGoOn hs ks
  since_more second [] hs ks same b = subst (λ (z : Histories). GoesOn (hs b) (z b)) same (stays_so (hs b))
  since_more second (d ∷ ds) hs ks g b =
      on_and_on (hs b) (g.0 b) (ks b) (event_more d (due_second d - second) hs g.0 g.1 b) (since_more (due_second d) ds g.0 ks g.2 b)

  -- a front of what comes, and the rest
  pub record InTwo (second : ℕ) (ds rest : List Due) (hs ks : Histories) : Type 0 where
    pub between : Histories
    pub last : ℕ
    pub first : GoesSince n second ds hs between
    pub then_ : GoesSince n last rest between ks

  in_two : (second : ℕ) (ds rest : List Due) (hs ks : Histories) → GoesSince n second (ds ++ rest) hs ks → InTwo second ds rest hs ks
  in_two second [] rest hs ks g = record { between = hs; last = second; first = refl; then_ = g }
  in_two second (d ∷ ds) rest hs ks g =
      let k = in_two (due_second d) ds rest g.0 ks g.2 in
      record { between = k.between; last = k.last; first = (g.0, g.1, k.first); then_ = k.then_ }

  goes_more : (ds : List Due) (hs ks : Histories) → Goes n ds hs ks → AllGoOn hs ks
  goes_more [] hs ks same b = subst (λ (z : Histories). GoesOn (hs b) (z b)) same (stays_so (hs b))
  goes_more (d ∷ ds) hs ks g b = since_more (due_second d) (d ∷ ds) hs ks g b

  go_on : (ds rest : List Due) (at hs ks : Histories) → Goes n ds at hs → Goes n (ds ++ rest) at ks → AllGoOn hs ks
  go_on [] rest at hs ks same g b = subst (λ (z : Histories). GoesOn (z b) (ks b)) same (goes_more rest at ks g b)
  go_on (d ∷ ds) rest at hs ks f g b =
      let k = in_two (due_second d) (d ∷ ds) rest at ks g in
      let same : k.between ≡ hs = since_one n (d ∷ ds) (due_second d) at k.between hs k.first f in
      subst (λ (z : Histories). GoesOn (z b) (ks b)) same (since_more k.last rest k.between ks k.then_ b)

pub histories_go_on : HistoriesGoOn
histories_go_on n ds rest hs ks f g b = go_on n ds rest (openings n) hs ks f g b

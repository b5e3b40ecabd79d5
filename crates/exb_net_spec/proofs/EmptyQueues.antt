-- A queue that is empty stays so; so what is left of it doesn't depend on how often its first frame is taken.
use Rattle.std.proofs.Common.{◌≡◌, ℕ, zero, suc, ◌+◌, ◌-◌, List, [], ◌∷◌, refl, ap, sym, ◌∙◌, subst, arith}
use Rattle.exb_net_spec.specs.Nets.{Net}
use Rattle.exb_net_spec.specs.NetHistory.{Due, Histories, State, IsDrained, comes, delivered, delivered_times, due_second, ticked, Goes, GoesSince, dues, openings}
use Rattle.exb_net_spec.specs.NetLaws.{HistoriesAreOne}

module _ (n : Net) where
  abbrev empty : Histories → State
  empty hs = record { histories = hs; queue = [] }

  -- nothing more comes of an empty queue
  pub stays : (k : ℕ) (hs : Histories) → delivered_times n k (empty hs) ≡ empty hs
  unfolding delivered_times
  stays zero hs = refl
  stays (suc k) hs = stays k hs

  pub twice : (j k : ℕ) (s : State) → delivered_times n j (delivered_times n k s) ≡ delivered_times n (k + j) s
  unfolding delivered_times
  twice j zero s = let e : zero + j ≡ j = omega arith in rw e refl
  twice j (suc k) s = let e : suc k + j ≡ suc (k + j) = omega arith in rw e (twice j k (delivered n s.histories s.queue))

  histories_same : (hs ks : Histories) → empty hs ≡ empty ks → hs ≡ ks
  histories_same hs ks e = ap (λ (s : State). s.histories) e

  pub one_end : (s : State) (hs ks : Histories) → IsDrained n s hs → IsDrained n s ks → hs ≡ ks
  one_end s hs ks a b =
      let first : delivered_times n (a.times + b.times) s ≡ empty hs = sym (twice b.times a.times s) ∙ (ap (delivered_times n b.times) a.is ∙ stays b.times hs) in
      let second : delivered_times n (b.times + a.times) s ≡ empty ks = sym (twice a.times b.times s) ∙ (ap (delivered_times n a.times) b.is ∙ stays a.times ks) in
      let same : a.times + b.times ≡ b.times + a.times = omega arith in
      histories_same hs ks (sym first ∙ (ap (λ (k : ℕ). delivered_times n k s) same ∙ second))

  pub since_one : (ds : List Due) (second : ℕ) (at hs ks : Histories) → GoesSince n second ds at hs → GoesSince n second ds at ks → hs ≡ ks
  since_one [] second at hs ks a b = sym a ∙ b
  since_one (d ∷ ds) second at hs ks a b =
      let same : a.0 ≡ b.0 = one_end (comes n d (ticked (due_second d - second) at)) a.0 b.0 a.1 b.1 in
      since_one ds (due_second d) b.0 hs ks (subst (λ (z : Histories). GoesSince n (due_second d) ds z hs) same a.2) b.2

  goes_one : (ds : List Due) (at hs ks : Histories) → Goes n ds at hs → Goes n ds at ks → hs ≡ ks
  goes_one [] at hs ks a b = sym a ∙ b
  goes_one (d ∷ ds) at hs ks a b = since_one (d ∷ ds) (due_second d) at hs ks a b

pub histories_are_one : HistoriesAreOne
histories_are_one n hs ks a b = goes_one n (dues n) (openings n) hs ks a.goes b.goes

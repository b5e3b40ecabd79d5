-- The captures of bridges, bridge after bridge.
use Rattle.std.proofs.Common.{◌≡◌, ◌<◌, ◌≤◌, ◌+◌, ◌∙◌, ◌⊎◌, inl, inr, ℕ, List, Some, length, take, get_or, refl, ap, sym, subst, arith}
use Rattle.std.specs.Prelude.{slice_get}
use Rattle.std.proofs.lemmas.Bool.{cases_eq}
use Rattle.exb_shelf.specs.Files.{Files}
use Rattle.exb_shelf.specs.Shelf.{Id, Opens}
use Rattle.exb_shelf.proofs.IdLemmas.{opens_then, opens_weaker}
use Rattle.exb_net_file.specs.declared.members.NetMember.{NetMember}
use Rattle.exb_inputs.specs.declared.fault.Fault.{Fault}
use Rattle.exb_inputs.specs.declared.fault.Fault.TheVariants.{Memory}
use Rattle.exb_inputs.specs.CaptureChecks.{IsGoodNamed}
use Rattle.exb_inputs.specs.Inputs.{name_of}
use Rattle.exb_inputs.specs.FaultPhases.{IsOfCapture}
use Rattle.exb_inputs.specs.ShelfEffects.{EndsAt, OpensEach, ReadsBelow, ReadsCapture}
use Rattle.exb_inputs.proofs.UniqueTopology.{some_once}
use Rattle.exb_inputs.proofs.ShelfEffects.{new_later, new_stays}
use Rattle.exb_inputs.specs.MemberChecks.{AreAllMembersGood, AreGood}
use Rattle.exb_inputs.specs.OpenedNetFiles.{EndsAtMember, EndsWithin, OpensCaptures, OpensEachOf, ReadsMemberBelow, ReadsMemberCapture}
use Rattle.exb_inputs.specs.NetRefusals.{FirstMemberFault, IsOwnFault, member_fault}
use Rattle.exb_inputs.proofs.MemberFaults.{Is, capture_named}
use Rattle.exb_inputs.proofs.PairedLists.{front_at, get_here, ones_all, ones_push, pushed_at, taken_at}
use Rattle.exb_inputs.proofs.OpenedNetFiles.{all_get, next_taken}

-- ---- one bridge
pub ends_within : (tells : Type 0) (m : NetMember) (file : Files) (given ids : ℕ → Id) (x y : Fault) → IsOfCapture x → Is y (member_fault m.name x) → EndsAt tells m.topology.captures file given ids x → EndsWithin tells m file given ids y
ends_within tells m file given ids x y of is ends = record {
  port = ends.port;
  own = λ name q flaw e. (let named = capture_named m.name x y name q flaw of is e in let its = ends.own q flaw named.1 in (named.0, its.0, its.1));
  before = ends.before;
  opened = ends.opened;
}

-- ---- all of them
abbrev captures_of : NetMember → Id → Type 0
captures_of m = ReadsCapture m.topology.captures

-- what was read below a place
pub below_more : (ms : List NetMember) (b c n k : ℕ) → (b < c) ⊎ ((b ≡ c) × (n ≤ k)) → (i : Id) → ReadsMemberBelow ms b n i → ReadsMemberBelow ms c k i
below_more ms b c n k more i r = record {
  bridge = r.bridge;
  member = r.member;
  is_there = r.is_there;
  port = r.port;
  below = lower more r.below;
  name = r.name;
  named = r.named;
  reads = r.reads;
}
  where
    lower : (b < c) ⊎ ((b ≡ c) × (n ≤ k)) → (r.bridge < b) ⊎ ((r.bridge ≡ b) × (r.port < n)) → (r.bridge < c) ⊎ ((r.bridge ≡ c) × (r.port < k))
    lower (inl less) (inl under) = inl (omega (arith, less, under))
    lower (inl less) (inr (same, under)) = inl (omega (arith, less, same))
    lower (inr (even, least)) (inl under) = inl (omega (arith, even, under))
    lower (inr (even, least)) (inr (same, under)) = inr (omega (arith, even, same), omega (arith, least, under))

module _ (ms : List NetMember) (i : ℕ) (m : NetMember) (low : i < length ms) (is : m ≡ get_or ms i m) where
  here : slice_get ms i ≡ Some m
  here = get_here ms i m low (sym is)

  -- a bridge more
  pub captures_next : (given now ids : ℕ → Id) → OpensCaptures (take i ms) given now → Opens (captures_of m) now ids → OpensCaptures (take (i + 1) ms) given ids
  captures_next given now ids opened opens = subst (λ (xs : List NetMember). OpensCaptures xs given ids) (sym (next_taken ms i m low is)) (ones_push captures_of (take i ms) m given now ids opened opens)

  -- which is read below the next
  below_next : (given now ids : ℕ → Id) (n : ℕ) → Opens (ReadsMemberBelow ms i 0) given now → Opens (ReadsBelow m.topology.captures n) now ids → Opens (ReadsMemberBelow ms i n) given ids
  below_next given now ids n before opens =
      opens_then (ReadsMemberBelow ms i n) given now ids (opens_weaker (ReadsMemberBelow ms i 0) (ReadsMemberBelow ms i n) given now (below_more ms i i 0 n (inr (refl, omega arith))) before)
      (opens_weaker (ReadsBelow m.topology.captures n) (ReadsMemberBelow ms i n) now ids (λ j r. record { bridge = i; member = m; is_there = here; port = r.port; below = inr (refl, r.below); name = r.name; named = r.named; reads = r.reads }) opens)

  pub below_done : (given now ids : ℕ → Id) → Opens (ReadsMemberBelow ms i 0) given now → Opens (captures_of m) now ids → Opens (ReadsMemberBelow ms (i + 1) 0) given ids
  below_done given now ids before opens =
      opens_then (ReadsMemberBelow ms (i + 1) 0) given now ids (opens_weaker (ReadsMemberBelow ms i 0) (ReadsMemberBelow ms (i + 1) 0) given now (below_more ms i (i + 1) 0 0 (inl (omega arith))) before)
      (opens_weaker (captures_of m) (ReadsMemberBelow ms (i + 1) 0) now ids (λ j r. record { bridge = i; member = m; is_there = here; port = r.port; below = inl (omega arith); name = r.name; named = r.named; reads = r.reads }) opens)

  -- and each capture of it was opened
  pub each_next_of : (given now ids : ℕ → Id) → OpensEachOf (take i ms) given now → OpensCaptures (take i ms) given now → Opens (captures_of m) now ids → OpensEach m.topology.captures 4160 now ids → OpensEachOf (take (i + 1) ms) given ids
  each_next_of given now ids each before opens one b k at q name under named = elim (pushed_at (take i ms) b k m (subst (λ (xs : List NetMember). slice_get xs b ≡ Some k) (next_taken ms i m low is) at)) [
    | inl old ↦ new_stays (captures_of m) name given now ids (each b k old q name under named) opens
    | inr same ↦ new_later (λ j. ReadsMemberCapture ms j) name given now ids (any_of before) (one q name under (subst (λ (c : NetMember). name_of c.topology.captures q ≡ Some name) same named))
  ]
    where
      any_of : OpensCaptures (take i ms) given now → Opens (λ j. ReadsMemberCapture ms j) given now
      any_of opened = ones_all captures_of (λ j. ReadsMemberCapture ms j) (take i ms) given now (λ k x at j r. record { bridge = k; member = x; is_there = front_at ms i k x at; capture = r }) opened

  -- checking ends at a port of it
  pub ends_here : (tells : Type 0) (file : Files) (given now ids : ℕ → Id) (x : Fault) → (tells → AreAllMembersGood (take i ms) file) → Opens (ReadsMemberBelow ms i 0) given now → EndsWithin tells m file now ids x → EndsAtMember tells ms file given ids x
  ends_here tells file given now ids x good before ends = record {
    bridge = i;
    port = ends.port;
    own = λ name q flaw e. (let o = ends.own name q flaw e in (m, here, o.0, o.1, o.2));
    before = λ t b k under at. all_get (λ (c : NetMember). AreGood c file) (take i ms) b k (good t) (taken_at ms i b k under at);
    lower = λ t k q at under. (let same : k ≡ m = some_once (slice_get ms i) k m at here in subst (λ (c : NetMember). IsGoodNamed (name_of c.topology.captures q) file) (sym same) (ends.before t q under));
    opened = below_next given now ids (ends.port + 1) before ends.opened;
  }

  pub first_here : (file : Files) (x : Fault) → AreAllMembersGood (take i ms) file → IsOwnFault m file x → FirstMemberFault ms file x
  first_here file x good own = record {
    bridge = i;
    member = m;
    is_there = here;
    before = λ b k under at. all_get (λ (c : NetMember). AreGood c file) (take i ms) b k good (taken_at ms i b k under at);
    here = own;
  }

-- checking ends behind a bridge, for want of memory
pub ends_between : (tells : Type 0) (ms : List NetMember) (i : ℕ) (m : NetMember) → i < length ms → m ≡ get_or ms i m → (file : Files) (given ids : ℕ → Id) → (tells → AreAllMembersGood (take i ms) file) → (tells → AreGood m file)
    → Opens (ReadsMemberBelow ms (i + 1) 0) given ids → EndsAtMember tells ms file given ids Memory
ends_between tells ms i m low is file given ids good one below = record {
  bridge = i + 1;
  port = 0;
  own = λ name q flaw e. absurd (cc);
  before = λ t b k under at. elim (cases_eq b i) [
    | inl same ↦
        let k_is : k ≡ m = some_once (slice_get ms i) k m (ap (slice_get ms) (sym same) ∙ at) (get_here ms i m low (sym is)) in
        subst (λ (c : NetMember). AreGood c file) (sym k_is) (one t)
    | inr other ↦ all_get (λ (c : NetMember). AreGood c file) (take i ms) b k (good t) (taken_at ms i b k (omega (arith, under, other)) at)
  ];
  lower = λ t k q at under. absurd (omega (arith, under));
  opened = opens_weaker (ReadsMemberBelow ms (i + 1) 0) (ReadsMemberBelow ms (i + 1) (0 + 1)) given ids (below_more ms (i + 1) (i + 1) 0 (0 + 1) (inr (refl, omega arith))) below;
}

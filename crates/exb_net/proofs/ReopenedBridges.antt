-- A bridge more whose captures were opened again.
use Rattle.std.proofs.Common.{◌≡◌, ℕ, ◌+◌, ◌<◌, ◌≤◌, true, false, List, [], ◌∷◌, ◌++◌, length, map, take, get_or, Some, Result, Err, ap, sym, subst, ◌∙◌, arith, inl, inr}
use Rattle.std.specs.Prelude.{slice_get}
use Rattle.std.specs.List.{AllByRecursion}
use Rattle.std.specs.declared.alloc.Global.{Global}
use Rattle.std.specs.declared.vec.Vec.{Vec}
use Rattle.std.proofs.lemmas.Bool.{cases_Bool, false≢true}
use Rattle.std.proofs.lemmas.Grind.{flat_map-append}
use Rattle.std.proofs.lemmas.List.{append-nil, length-take-le, take_all, take_more}
use Rattle.exb_shelf.specs.Files.{Files, SameFiles, bytes_of}
use Rattle.exb_shelf.specs.Shelf.{Id, Opens}
use Rattle.exb_shelf.proofs.IdLemmas.{opens_then, opens_weaker}
use Rattle.exb_timeline.specs.declared.bridge_timeline.Timeline.{Timeline}
use Rattle.exb_timeline.specs.NetMergeOrder.{AreAllReplays, all_ids}
use Rattle.exb_timeline.specs.CaptureMerges.{AreReplays, ids_in}
use Rattle.exb_timeline.specs.Streams.{Stream}
use Rattle.exb_inputs.specs.declared.captures.CheckedCapture.{CheckedCapture}
use Rattle.exb_inputs.specs.declared.fault.Fault.{Fault}
use Rattle.exb_inputs.specs.ReplayStart.{stream_told}
use Rattle.exb_inputs.specs.ShelfEffects.{ReadsCapture}
use Rattle.exb_net_file.specs.declared.net_parts.BridgeInputs.{BridgeInputs}
use Rattle.exb_net.specs.ReopenedCaptures.{AreReopened, IsOpenedAgain, ReadsRest, streams_of}
use Rattle.exb_net.proofs.BridgeTimelines.{reopened_long, reopened_push, streams_push}
use Rattle.exb_net.proofs.ReopenedCaptures.{all_append, all_weaker, ids_stay}

-- ---- lists
pub next_front : {A : Type 0} (xs : List A) (i : ℕ) (x : A) → i < length xs → x ≡ get_or xs i x → take (i + 1) xs ≡ take i xs ++ x ∷ []
next_front xs i x low is = take_more xs i x low ∙ ap (λ (y : _). take i xs ++ y ∷ []) (sym is)

ids_push : (ps : List Timeline) (p : Timeline) → all_ids (ps ++ p ∷ []) ≡ all_ids ps ++ ids_in p.captures
ids_push ps p = flat_map-append (λ (q : Timeline). ids_in q.captures) ps (p ∷ []) ∙ ap (λ (ks : List ℕ). all_ids ps ++ ks) (append-nil (ids_in p.captures))

-- ---- what is read is given
pub reads_given : (rests : List BridgeInputs) (ids : ℕ → Id) (mine : List ℕ) → AllByRecursion (λ k. ReadsRest rests (ids k)) mine → AllByRecursion (λ k. (ids k).given ≡ true) mine
reads_given rests ids mine all = all_weaker (λ k. ReadsRest rests (ids k)) (λ k. (ids k).given ≡ true) mine (λ k r. r.capture.reads.given) all

-- what was opened for a bridge was opened for one of them
pub opens_one : (rests : List BridgeInputs) (b : ℕ) (r : BridgeInputs) (given was ids : ℕ → Id) → slice_get rests b ≡ Some r → Opens (ReadsRest rests) given was → Opens (ReadsCapture r.captures) was ids → Opens (ReadsRest rests) given ids
opens_one rests b r given was ids is before opens =
    opens_then (ReadsRest rests) given was ids before (opens_weaker (ReadsCapture r.captures) (ReadsRest rests) was ids (λ i own. record { bridge = b; rest = r; is = is; capture = own }) opens)

pub err_same : {X : Type 0} (x y : Fault) → ◌≡◌ {A = Result X Fault} (Err x) (Err y) → x ≡ y
err_same x y e = cc

-- ---- one more
module _ (tells : Type 0) (rests : List BridgeInputs) (checked : List (Vec CheckedCapture Global)) (file now later : Files) (given was ids : ℕ → Id) (start b : ℕ) (r : BridgeInputs) (c : Vec CheckedCapture Global) (ps more : List Timeline) (p : Timeline)
    (is : slice_get rests b ≡ Some r) (pushed : more ≡ ps ++ p ∷ []) (opens : Opens (ReadsCapture r.captures) was ids) (same : SameFiles now later) (again : IsOpenedAgain tells start r c.items file later was ids p) where
  pub opens_more : Opens (ReadsRest rests) given was → Opens (ReadsRest rests) given ids
  opens_more before = opens_one rests b r given was ids is before opens

  pub named_more : AllByRecursion (λ k. ReadsRest rests (was k)) (all_ids ps) → AllByRecursion (λ k. ReadsRest rests (ids k)) (all_ids more)
  named_more all = subst (λ (qs : List Timeline). AllByRecursion (λ k. ReadsRest rests (ids k)) (all_ids qs)) (sym pushed)
      (subst (AllByRecursion (λ k. ReadsRest rests (ids k))) (sym (ids_push ps p)) (all_append (λ k. ReadsRest rests (ids k)) (all_ids ps) (ids_in p.captures)
      (all_weaker (λ k. ReadsRest rests (was k)) (λ k. ReadsRest rests (ids k)) (all_ids ps) (λ k own. subst (ReadsRest rests) (sym (opens.kept k own.capture.reads.given)) own) all)
      (all_weaker (λ k. ReadsCapture r.captures (ids k)) (λ k. ReadsRest rests (ids k)) (ids_in p.captures) (λ k own. record { bridge = b; rest = r; is = is; capture = own }) again.named)))

  pub fresh_more : Opens (ReadsRest rests) given was → AllByRecursion (λ k. (given k).given ≡ false) (all_ids ps) → AllByRecursion (λ k. (given k).given ≡ false) (all_ids more)
  fresh_more before all = subst (λ (qs : List Timeline). AllByRecursion (λ k. (given k).given ≡ false) (all_ids qs)) (sym pushed)
      (subst (AllByRecursion (λ k. (given k).given ≡ false)) (sym (ids_push ps p)) (all_append (λ k. (given k).given ≡ false) (all_ids ps) (ids_in p.captures) all
      (all_weaker (λ k. (was k).given ≡ false) (λ k. (given k).given ≡ false) (ids_in p.captures) (λ k new. earlier k new) again.fresh)))
    where
      earlier : (k : ℕ) → (was k).given ≡ false → (given k).given ≡ false
      earlier k new = elim (cases_Bool (given k).given) [
        | inl had ↦ absurd (false≢true (sym new ∙ (ap (λ (i : Id). i.given) (before.kept k had) ∙ had)))
        | inr free ↦ free
      ]

abbrev pub Stays : Type 0
Stays = (file files : Files) (given ids : ℕ → Id) (programmes : List Timeline) (streams : List (List Stream)) → AllByRecursion (λ k. (ids k ≡ given k) × (bytes_of (files (given k).name) ≡ bytes_of (file (given k).name))) (all_ids programmes)
    → AreAllReplays file given programmes streams → AreAllReplays files ids programmes streams

abbrev pub Grows : Type 0
Grows = (files : Files) (ids : ℕ → Id) (programmes : List Timeline) (streams : List (List Stream)) (p : Timeline) (xs : List Stream)
    → AreAllReplays files ids programmes streams → AreReplays files ids p.captures.sources.items xs → AreAllReplays files ids (programmes ++ p ∷ []) (streams ++ xs ∷ [])

-- ---- what is still to come
pub told_more : (tells : Type 0) (rests : List BridgeInputs) (checked : List (Vec CheckedCapture Global)) (file now later : Files) (was ids : ℕ → Id) (start i : ℕ) (r : BridgeInputs) (c : Vec CheckedCapture Global) (ps more : List Timeline) (p : Timeline) → Stays → Grows → tells
    → i < length rests → r ≡ get_or rests i r → i < length checked → c ≡ get_or checked i c → more ≡ ps ++ p ∷ [] → Opens (ReadsCapture r.captures) was ids → SameFiles now later → IsOpenedAgain tells start r c.items file later was ids p
    → length (take i checked) ≡ length (take i rests) → AllByRecursion (λ k. ReadsRest rests (was k)) (all_ids ps) → AreAllReplays now was ps (streams_of (take i rests) (take i checked) file)
    → AreAllReplays later ids more (streams_of (take (i + 1) rests) (take (i + 1) checked) file)
told_more tells rests checked file now later was ids start i r c ps more p stays grows t low r_is c_low c_is pushed opens same again long named replays =
    let old : List (List Stream) = streams_of (take i rests) (take i checked) file in
    let kept : AllByRecursion (λ k. (ids k ≡ was k) × (bytes_of (later (was k).name) ≡ bytes_of (now (was k).name))) (all_ids ps) =
    all_weaker (λ k. ids k ≡ was k) (λ k. (ids k ≡ was k) × (bytes_of (later (was k).name) ≡ bytes_of (now (was k).name))) (all_ids ps) (λ k own. (own, ap bytes_of (same (was k).name)))
    (ids_stay (ReadsCapture r.captures) was ids (all_ids ps) opens (reads_given rests was (all_ids ps) named)) in
    let before : AreAllReplays later ids ps old = stays now later was ids ps old kept replays in
    let both : AreAllReplays later ids (ps ++ p ∷ []) (old ++ map (stream_told r.captures file) c.items ∷ []) = grows later ids ps old p (map (stream_told r.captures file) c.items) before (again.streams t) in
    let streams : streams_of (take (i + 1) rests) (take (i + 1) checked) file ≡ old ++ map (stream_told r.captures file) c.items ∷ [] =
    ap (λ (rs : List BridgeInputs). streams_of rs (take (i + 1) checked) file) (next_front rests i r low r_is)
    ∙ (ap (λ (cs : List (Vec CheckedCapture Global)). streams_of (take i rests ++ r ∷ []) cs file) (next_front checked i c c_low c_is) ∙ streams_push (take i rests) (take i checked) r c file long) in
    subst (λ (qs : List Timeline). AreAllReplays later ids qs (streams_of (take (i + 1) rests) (take (i + 1) checked) file)) (sym pushed) (subst (AreAllReplays later ids (ps ++ p ∷ [])) (sym streams) both)

-- ---- its programme
pub own_more : (start : ℕ) (rests : List BridgeInputs) (checked : List (Vec CheckedCapture Global)) (i : ℕ) (r : BridgeInputs) (c : Vec CheckedCapture Global) (ps more : List Timeline) (p : Timeline) (tells : Type 0) (file later : Files) (was ids : ℕ → Id)
    → i < length rests → r ≡ get_or rests i r → i < length checked → c ≡ get_or checked i c → more ≡ ps ++ p ∷ [] → IsOpenedAgain tells start r c.items file later was ids p → AreReopened start (take i rests) (take i checked) ps
    → AreReopened start (take (i + 1) rests) (take (i + 1) checked) more
own_more start rests checked i r c ps more p tells file later was ids low r_is c_low c_is pushed again all =
    subst (λ (qs : List Timeline). AreReopened start (take (i + 1) rests) (take (i + 1) checked) qs) (sym pushed)
    (subst (λ (rs : List BridgeInputs). AreReopened start rs (take (i + 1) checked) (ps ++ p ∷ [])) (sym (next_front rests i r low r_is))
    (subst (λ (cs : List (Vec CheckedCapture Global)). AreReopened start (take i rests ++ r ∷ []) cs (ps ++ p ∷ [])) (sym (next_front checked i c c_low c_is))
    (reopened_push start (take i rests) (take i checked) ps r c p all again.is)))

-- the bridges so far are fewer than 256
pub room_left : (start : ℕ) (rests : List BridgeInputs) (checked : List (Vec CheckedCapture Global)) (i : ℕ) (ps : List Timeline) → i < length rests → length rests ≤ 16 → AreReopened start (take i rests) (take i checked) ps → length ps < 256
room_left start rests checked i ps low few all =
    let long = (reopened_long start (take i rests) (take i checked) ps all).0 in
    let front = length-take-le i rests (omega (arith, low)) in
    omega (arith, long, front, low, few)

-- all bridges
pub own_all : (start : ℕ) (rests : List BridgeInputs) (checked : List (Vec CheckedCapture Global)) (i : ℕ) (ps : List Timeline) → length rests ≤ i → length checked ≡ length rests → AreReopened start (take i rests) (take i checked) ps → AreReopened start rests checked ps
own_all start rests checked i ps end long all =
    subst (λ (rs : List BridgeInputs). AreReopened start rs checked ps) (take_all i rests end) (subst (λ (cs : List (Vec CheckedCapture Global)). AreReopened start (take i rests) cs ps) (take_all i checked (omega (arith, end, long))) all)

pub told_all : (rests : List BridgeInputs) (checked : List (Vec CheckedCapture Global)) (file now : Files) (ids : ℕ → Id) (i : ℕ) (ps : List Timeline) → length rests ≤ i → length checked ≡ length rests
    → AreAllReplays now ids ps (streams_of (take i rests) (take i checked) file) → AreAllReplays now ids ps (streams_of rests checked file)
told_all rests checked file now ids i ps end long all =
    subst (λ (rs : List BridgeInputs). AreAllReplays now ids ps (streams_of rs checked file)) (take_all i rests end)
    (subst (λ (cs : List (Vec CheckedCapture Global)). AreAllReplays now ids ps (streams_of (take i rests) cs file)) (take_all i checked (omega (arith, end, long))) all)

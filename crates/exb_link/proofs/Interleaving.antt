-- What two queues of words tell of the list of all of them.
use Rattle.std.proofs.Common.{◌≡◌, ℕ, zero, suc, ◌+◌, ◌-◌, ◌<◌, ◌≤◌, ◌==◌, Bool, true, false, not, cond, nat_lt, List, [], ◌∷◌, ◌++◌, length, take, drop, map, Option, Some, None, filter, get_or, set, refl, ap, sym, ◌∙◌, subst, arith, zero-add, add-zero, append_assoc, inl, inr, ◌⊎◌}
use Rattle.std.specs.List.{All, remove}
use Rattle.std.proofs.lemmas.Bool.{ne_eqb, cases_lt, lt-ltb, le-ltb}
use Rattle.std.proofs.lemmas.List.{length-take-le, take-append-drop, take_all, drop_all, take-append-le, length-drop, drop-drop}
use Rattle.std.proofs.lemmas.List.Elements.{filter-append, All-take, All-drop}
use Rattle.std.proofs.Math.Seq.{take-add}
use Rattle.exb_link.specs.declared.link_frame.LinkFrame.{LinkFrame}
use Rattle.exb_link.specs.declared.link.QueuedFrame.{QueuedFrame}
use Rattle.exb_link.specs.LinkFrames.{is_control, is_data, leading, without_data, without_control}
use Rattle.exb_link.specs.Queues.{woven, all_behind, more_ahead, more_behind, less_behind, place_from}
use Rattle.exb_link.proofs.Removal.{remove-take, drop-remove_below, take-remove_above, drop-remove_above}

abbrev pub IsControl : LinkFrame → Type 0
IsControl w = is_control w ≡ true

abbrev pub IsFrame : QueuedFrame → Type 0
IsFrame s = is_data s.word ≡ true

abbrev pub AllControl : List LinkFrame → Type 0
AllControl ws = All IsControl ws

abbrev pub AllData : List QueuedFrame → Type 0
AllData frames = All IsFrame frames

from_not : (b : Bool) → not b ≡ true → b ≡ false
from_not true h = sym h
from_not false h = refl

module _ {X : Type 0} (P : X → Type 0) where
  pub head_of : (x : X) (xs : List X) → All P (x ∷ xs) → P x
  head_of x xs all = all 0 x (omega arith)

  pub tail_of : (x : X) (xs : List X) → All P (x ∷ xs) → All P xs
  tail_of x xs all = λ k d h. all (suc k) d (omega arith)

  pub both_of : (x : X) (xs : List X) → P x → All P xs → All P (x ∷ xs)
  both_of x xs p all = λ k d h. at k d h
    where
      at : (k : ℕ) (d : X) → k < length (x ∷ xs) → P (get_or (x ∷ xs) k d)
      at zero d h = p
      at (suc k) d h = all k d (omega arith)

first_is : (s : QueuedFrame) (frames : List QueuedFrame) → AllData (s ∷ frames) → is_control s.word ≡ false
first_is s frames all = from_not (is_control s.word) (head_of IsFrame s frames all)

-- ---- lists of control words, and a data word behind them
controls : (ws : List LinkFrame) → AllControl ws → filter is_control ws ≡ ws
controls [] all = refl
controls (w ∷ ws) all = rw (head_of IsControl w ws all) (ap (λ xs. w ∷ xs) (controls ws (tail_of IsControl w ws all)))

no_data : (ws : List LinkFrame) → AllControl ws → filter is_data ws ≡ []
no_data [] all = refl
no_data (w ∷ ws) all = rw (head_of IsControl w ws all) (no_data ws (tail_of IsControl w ws all))

leading-all : (ws : List LinkFrame) → AllControl ws → leading ws ≡ length ws
leading-all [] all = refl
leading-all (w ∷ ws) all = rw (head_of IsControl w ws all) (ap suc (leading-all ws (tail_of IsControl w ws all)))

pub without_data-none : (ws : List LinkFrame) → AllControl ws → without_data ws ≡ ws
without_data-none [] all = refl
without_data-none (w ∷ ws) all = rw (head_of IsControl w ws all) (ap (λ xs. w ∷ xs) (without_data-none ws (tail_of IsControl w ws all)))

without_control-all : (ws : List LinkFrame) (k : ℕ) → AllControl ws → k < length ws → without_control ws k ≡ remove ws k
without_control-all [] k all h = absurd (omega arith)
without_control-all (w ∷ ws) zero all h = rw (head_of IsControl w ws all) refl
without_control-all (w ∷ ws) (suc k) all h =
    let n : (suc k == 0) ≡ false = ne_eqb (suc k) 0 (λ e. omega arith) in
    let d : suc k - 1 ≡ k = omega arith in
    rw (head_of IsControl w ws all, n, d) (ap (λ xs. w ∷ xs) (without_control-all ws k (tail_of IsControl w ws all) (omega arith)))

without_control-none : (ws : List LinkFrame) (k : ℕ) → AllControl ws → length ws ≤ k → without_control ws k ≡ ws
without_control-none [] k all h = refl
without_control-none (w ∷ ws) zero all h = absurd (omega arith)
without_control-none (w ∷ ws) (suc k) all h =
    let n : (suc k == 0) ≡ false = ne_eqb (suc k) 0 (λ e. omega arith) in
    let d : suc k - 1 ≡ k = omega arith in
    rw (head_of IsControl w ws all, n, d) (ap (λ xs. w ∷ xs) (without_control-none ws k (tail_of IsControl w ws all) (omega arith)))

module _ (w : LinkFrame) (rest : List LinkFrame) where
  leading_past : (ws : List LinkFrame) → AllControl ws → is_control w ≡ false → leading (ws ++ w ∷ rest) ≡ length ws
  leading_past [] all is = rw is refl
  leading_past (v ∷ ws) all is = rw (head_of IsControl v ws all) (ap suc (leading_past ws (tail_of IsControl v ws all) is))

  without_data_past : (ws : List LinkFrame) → AllControl ws → is_control w ≡ false → without_data (ws ++ w ∷ rest) ≡ ws ++ rest
  without_data_past [] all is = rw is refl
  without_data_past (v ∷ ws) all is = rw (head_of IsControl v ws all) (ap (λ xs. v ∷ xs) (without_data_past ws (tail_of IsControl v ws all) is))

  -- a control word ahead of the data word
  without_control_ahead : (ws : List LinkFrame) (k : ℕ) → AllControl ws → k < length ws → without_control (ws ++ w ∷ rest) k ≡ remove ws k ++ w ∷ rest
  without_control_ahead [] k all h = absurd (omega arith)
  without_control_ahead (v ∷ ws) zero all h = rw (head_of IsControl v ws all) refl
  without_control_ahead (v ∷ ws) (suc k) all h =
      let n : (suc k == 0) ≡ false = ne_eqb (suc k) 0 (λ e. omega arith) in
      let d : suc k - 1 ≡ k = omega arith in
      rw (head_of IsControl v ws all, n, d) (ap (λ xs. v ∷ xs) (without_control_ahead ws k (tail_of IsControl v ws all) (omega arith)))

  -- one behind it
  without_control_behind : (ws : List LinkFrame) (k : ℕ) → AllControl ws → is_control w ≡ false →
      without_control (ws ++ w ∷ rest) (length ws + k) ≡ ws ++ w ∷ without_control rest k
  without_control_behind [] k all is = rw (is, zero-add) refl
  without_control_behind (v ∷ ws) k all is =
      let e : length (v ∷ ws) + k ≡ suc (length ws + k) = omega arith in
      let n : (suc (length ws + k) == 0) ≡ false = ne_eqb (suc (length ws + k)) 0 (λ e. omega arith) in
      let d : suc (length ws + k) - 1 ≡ length ws + k = omega arith in
      rw (head_of IsControl v ws all, e, n, d) (ap (λ xs. v ∷ xs) (without_control_behind ws k (tail_of IsControl v ws all) is))

-- ---- what the list has
pub control-woven : (ahead : ℕ) (frames : List QueuedFrame) (control : List LinkFrame) → AllData frames → AllControl control →
    filter is_control (woven ahead frames control) ≡ control
unfolding woven
control-woven ahead [] control d c = controls control c
control-woven ahead (s ∷ frames) control d c =
    filter-append is_control (take ahead control) (s.word ∷ woven s.behind frames (drop ahead control))
    ∙ rw (controls (take ahead control) (All-take IsControl ahead control c), first_is s frames d)
    (ap (λ xs. take ahead control ++ xs) (control-woven s.behind frames (drop ahead control) (tail_of IsFrame s frames d) (All-drop IsControl ahead control c))
    ∙ take-append-drop ahead control)

pub data-woven : (ahead : ℕ) (frames : List QueuedFrame) (control : List LinkFrame) → AllData frames → AllControl control →
    filter is_data (woven ahead frames control) ≡ map (λ (s : QueuedFrame). s.word) frames
unfolding woven
data-woven ahead [] control d c = no_data control c
data-woven ahead (s ∷ frames) control d c =
    filter-append is_data (take ahead control) (s.word ∷ woven s.behind frames (drop ahead control))
    ∙ rw (no_data (take ahead control) (All-take IsControl ahead control c), first_is s frames d)
    (ap (λ xs. s.word ∷ xs) (data-woven s.behind frames (drop ahead control) (tail_of IsFrame s frames d) (All-drop IsControl ahead control c)))

-- ---- the counts
within : (ahead : ℕ) (s : QueuedFrame) (frames : List QueuedFrame) (control : List LinkFrame) → ahead + all_behind (s ∷ frames) ≡ length control → ahead ≤ length control
unfolding all_behind
within ahead s frames control counted = omega arith

rest_counted : (ahead : ℕ) (s : QueuedFrame) (frames : List QueuedFrame) (control : List LinkFrame) → ahead + all_behind (s ∷ frames) ≡ length control →
    s.behind + all_behind frames ≡ length (drop ahead control)
unfolding all_behind
rest_counted ahead s frames control counted = omega (arith, length-drop ahead control)

pub leading-woven : (ahead : ℕ) (frames : List QueuedFrame) (control : List LinkFrame) → AllData frames → AllControl control →
    ahead + all_behind frames ≡ length control → leading (woven ahead frames control) ≡ ahead
unfolding woven all_behind
leading-woven ahead [] control d c counted = leading-all control c ∙ sym counted ∙ add-zero ahead
leading-woven ahead (s ∷ frames) control d c counted =
    leading_past s.word (woven s.behind frames (drop ahead control)) (take ahead control) (All-take IsControl ahead control c) (first_is s frames d)
    ∙ length-take-le ahead control (within ahead s frames control counted)

-- ---- a word more
pub woven-frame : (ahead : ℕ) (frames : List QueuedFrame) (control : List LinkFrame) (w : LinkFrame) → ahead + all_behind frames ≡ length control →
    woven ahead (frames ++ record { word = w; behind = 0 } ∷ []) control ≡ woven ahead frames control ++ w ∷ []
unfolding woven all_behind
woven-frame ahead [] control w counted =
    let e : length control ≤ ahead = omega arith in
    rw (take_all ahead control e, drop_all ahead control e) refl
woven-frame ahead (s ∷ frames) control w counted =
    ap (λ xs. take ahead control ++ s.word ∷ xs) (woven-frame s.behind frames (drop ahead control) w (rest_counted ahead s frames control counted))
    ∙ sym (append_assoc (take ahead control) (s.word ∷ woven s.behind frames (drop ahead control)) (w ∷ []))

pub all_behind-frame : (frames : List QueuedFrame) (w : LinkFrame) → all_behind (frames ++ record { word = w; behind = 0 } ∷ []) ≡ all_behind frames
unfolding all_behind
all_behind-frame [] w = refl
all_behind-frame (s ∷ frames) w = ap (λ n. s.behind + n) (all_behind-frame frames w)

drop-append_le : {X : Type 0} (n : ℕ) (xs ys : List X) → n ≤ length xs → drop n (xs ++ ys) ≡ drop n xs ++ ys
drop-append_le zero xs ys h = refl
drop-append_le (suc n) [] ys h = absurd (omega arith)
drop-append_le (suc n) (x ∷ xs) ys h = drop-append_le n xs ys (omega arith)

pub woven-control : (ahead : ℕ) (frames : List QueuedFrame) (control : List LinkFrame) (w : LinkFrame) → ahead + all_behind frames ≡ length control →
    woven (more_ahead ahead frames) (more_behind frames) (control ++ w ∷ []) ≡ woven ahead frames control ++ w ∷ []
unfolding woven all_behind more_behind
woven-control ahead [] control w counted = refl
woven-control ahead (s ∷ []) control w counted =
    let h : ahead ≤ length control = omega arith in
    rw (take-append-le ahead control (w ∷ []) h, drop-append_le ahead control (w ∷ []) h)
    (sym (append_assoc (take ahead control) (s.word ∷ drop ahead control) (w ∷ [])))
woven-control ahead (s ∷ t ∷ frames) control w counted =
    let h : ahead ≤ length control = omega arith in
    rw (take-append-le ahead control (w ∷ []) h, drop-append_le ahead control (w ∷ []) h)
    (ap (λ xs. take ahead control ++ s.word ∷ xs) (woven-control s.behind (t ∷ frames) (drop ahead control) w (rest_counted ahead s (t ∷ frames) control counted))
    ∙ sym (append_assoc (take ahead control) (s.word ∷ woven s.behind (t ∷ frames) (drop ahead control)) (w ∷ [])))

pub counted-more : (ahead : ℕ) (frames : List QueuedFrame) → more_ahead ahead frames + all_behind (more_behind frames) ≡ ahead + all_behind frames + 1
unfolding all_behind more_behind
counted-more ahead [] = omega arith
counted-more ahead (s ∷ []) = omega arith
counted-more ahead (s ∷ t ∷ frames) = let e = counted-more s.behind (t ∷ frames) in omega (arith, e)

pub data-more : (frames : List QueuedFrame) → AllData frames → AllData (more_behind frames)
unfolding more_behind
data-more [] d = d
data-more (s ∷ []) d = both_of IsFrame _ [] (head_of IsFrame s [] d) (tail_of IsFrame s [] d)
data-more (s ∷ t ∷ frames) d = both_of IsFrame s _ (head_of IsFrame s (t ∷ frames) d) (data-more (t ∷ frames) (tail_of IsFrame s (t ∷ frames) d))

-- ---- a data word less
woven-rest : (ahead behind : ℕ) (frames : List QueuedFrame) (control : List LinkFrame) →
    take ahead control ++ woven behind frames (drop ahead control) ≡ woven (ahead + behind) frames control
unfolding woven
woven-rest ahead behind [] control = take-append-drop ahead control
woven-rest ahead behind (s ∷ frames) control =
    rw (take-add ahead behind control, ← drop-drop behind ahead control)
    (sym (append_assoc (take ahead control) (take behind (drop ahead control)) (s.word ∷ woven s.behind frames (drop behind (drop ahead control)))))

pub woven-without_data : (ahead : ℕ) (s : QueuedFrame) (frames : List QueuedFrame) (control : List LinkFrame) → AllData (s ∷ frames) → AllControl control →
    without_data (woven ahead (s ∷ frames) control) ≡ woven (ahead + s.behind) frames control
unfolding woven
woven-without_data ahead s frames control d c =
    without_data_past s.word (woven s.behind frames (drop ahead control)) (take ahead control) (All-take IsControl ahead control c) (first_is s frames d)
    ∙ woven-rest ahead s.behind frames control

-- ---- a control word less
woven-ahead : (n : ℕ) (frames : List QueuedFrame) (control : List LinkFrame) (k : ℕ) → AllControl control → suc n ≤ length control → k ≤ n →
    without_control (woven (suc n) frames control) k ≡ woven n frames (remove control k)
unfolding woven
woven-ahead n [] control k c high low = without_control-all control k c (omega arith)
woven-ahead n (s ∷ frames) control k c high low =
    let front : k < length (take (suc n) control) = omega (arith, length-take-le (suc n) control high) in
    without_control_ahead s.word (woven s.behind frames (drop (suc n) control)) (take (suc n) control) k (All-take IsControl (suc n) control c) front
    ∙ ap (λ xs. xs ++ s.word ∷ woven s.behind frames (drop (suc n) control)) (remove-take control k n low (omega arith))
    ∙ ap (λ xs. take n (remove control k) ++ s.word ∷ woven s.behind frames xs) (sym (drop-remove_below control k n low (omega arith)))

pub woven-less : (m : ℕ) (frames : List QueuedFrame) (control : List LinkFrame) (k : ℕ) → AllControl control → m ≤ length control → k < m →
    without_control (woven m frames control) k ≡ woven (m - 1) frames (remove control k)
woven-less zero frames control k c high low = absurd (omega arith)
woven-less (suc n) frames control k c high low =
    let e : suc n - 1 ≡ n = omega arith in
    rw e (woven-ahead n frames control k c high (omega arith))

pub woven-behind : (ahead : ℕ) (frames : List QueuedFrame) (control : List LinkFrame) (k : ℕ) → AllData frames → AllControl control →
    ahead + all_behind frames ≡ length control → k < all_behind frames →
    without_control (woven ahead frames control) (ahead + k) ≡ woven ahead (less_behind k frames) (remove control (ahead + k))
unfolding woven all_behind less_behind
woven-behind ahead [] control k d c counted low = absurd (omega arith)
woven-behind ahead (s ∷ frames) control k d c counted low =
    let rest = rest_counted ahead s frames control counted in
    let c' = All-drop IsControl ahead control c in
    start ∙ by_test c' rest (λ j h. woven-behind s.behind frames (drop ahead control) j (tail_of IsFrame s frames d) c' rest h) (cases_lt k s.behind)
  where
    long : length (take ahead control) ≡ ahead
    long = length-take-le ahead control (within ahead s frames control counted)

    start : without_control (take ahead control ++ s.word ∷ woven s.behind frames (drop ahead control)) (ahead + k) ≡
        take ahead control ++ s.word ∷ without_control (woven s.behind frames (drop ahead control)) k
    start =
        ap (λ n. without_control (take ahead control ++ s.word ∷ woven s.behind frames (drop ahead control)) (n + k)) (sym long)
        ∙ without_control_behind s.word (woven s.behind frames (drop ahead control)) (take ahead control) k (All-take IsControl ahead control c) (first_is s frames d)

    front : take ahead (remove control (ahead + k)) ≡ take ahead control
    front = take-remove_above control (ahead + k) ahead (omega arith) (omega (arith, counted, low))

    back : drop ahead (remove control (ahead + k)) ≡ remove (drop ahead control) k
    back = drop-remove_above control k ahead (omega (arith, counted, low))

    by_test : AllControl (drop ahead control) → s.behind + all_behind frames ≡ length (drop ahead control) →
        ((j : ℕ) → j < all_behind frames → without_control (woven s.behind frames (drop ahead control)) (s.behind + j) ≡ woven s.behind (less_behind j frames) (remove (drop ahead control) (s.behind + j))) →
        (k < s.behind) ⊎ (s.behind ≤ k) →
        take ahead control ++ s.word ∷ without_control (woven s.behind frames (drop ahead control)) k ≡
        woven ahead (cond (nat_lt k s.behind) (record s { behind = s.behind - 1 } ∷ frames) (s ∷ less_behind (k - s.behind) frames)) (remove control (ahead + k))
    by_test c' rest inner (inl h) =
        rw (lt-ltb k s.behind h, front, back)
        (ap (λ xs. take ahead control ++ s.word ∷ xs) (woven-less s.behind frames (drop ahead control) k c' (omega arith) h))
    by_test c' rest inner (inr h) =
        let e : s.behind + (k - s.behind) ≡ k = omega arith in
        rw (le-ltb k s.behind h, front, back)
        (ap (λ xs. take ahead control ++ s.word ∷ xs) (rw e at (inner (k - s.behind) (omega arith))))

pub all_behind-less : (frames : List QueuedFrame) (k : ℕ) → k < all_behind frames → all_behind (less_behind k frames) + 1 ≡ all_behind frames
unfolding all_behind less_behind
all_behind-less [] k low = absurd (omega arith)
all_behind-less (s ∷ frames) k low = by_test (λ h. all_behind-less frames (k - s.behind) h) (cases_lt k s.behind)
  where
    by_test : (k - s.behind < all_behind frames → all_behind (less_behind (k - s.behind) frames) + 1 ≡ all_behind frames) → (k < s.behind) ⊎ (s.behind ≤ k) →
        all_behind (cond (nat_lt k s.behind) (record s { behind = s.behind - 1 } ∷ frames) (s ∷ less_behind (k - s.behind) frames)) + 1 ≡ s.behind + all_behind frames
    by_test inner (inl h) = rw (lt-ltb k s.behind h) (omega arith)
    by_test inner (inr h) = let e = inner (omega arith) in rw (le-ltb k s.behind h) (omega (arith, e))

pub data-less : (frames : List QueuedFrame) (k : ℕ) → AllData frames → AllData (less_behind k frames)
unfolding less_behind
data-less [] k d = d
data-less (s ∷ frames) k d = by_test (data-less frames (k - s.behind) (tail_of IsFrame s frames d)) (nat_lt k s.behind)
  where
    by_test : AllData (less_behind (k - s.behind) frames) → (b : Bool) → AllData (cond b (record s { behind = s.behind - 1 } ∷ frames) (s ∷ less_behind (k - s.behind) frames))
    by_test inner true = both_of IsFrame _ frames (head_of IsFrame s frames d) (tail_of IsFrame s frames d)
    by_test inner false = both_of IsFrame s _ (head_of IsFrame s frames d) inner

-- ---- the last data word, and the one behind which a control word stands
pub behind_within : (frames : List QueuedFrame) (n : ℕ) (s : QueuedFrame) → n < length frames → s ≡ get_or frames n s → s.behind ≤ all_behind frames
unfolding all_behind
behind_within [] n s low is = absurd (omega arith)
behind_within (t ∷ frames) zero s low is = let b : s.behind ≡ t.behind = ap (λ (x : QueuedFrame). x.behind) is in omega arith
behind_within (t ∷ frames) (suc n) s low is = let h = behind_within frames n s (omega arith) is in omega (arith, h)

pub set-more : (frames : List QueuedFrame) (n : ℕ) (s : QueuedFrame) → n ≡ length frames → 0 < n → s ≡ get_or frames (n - 1) s →
    set frames (n - 1) (record { word = s.word; behind = s.behind + 1 }) ≡ more_behind frames
unfolding more_behind
set-more [] n s long some is = absurd (omega arith)
set-more (t ∷ []) n s long some is =
    let e : n - 1 ≡ 0 = omega arith in
    let h : s ≡ t = rw e at is in
    rw e (ap (λ (x : QueuedFrame). record { word = x.word; behind = x.behind + 1 } ∷ []) h)
set-more (t ∷ u ∷ frames) n s long some is =
    let e : n - 1 ≡ suc (n - 1 - 1) = omega arith in
    rw e (ap (λ xs. t ∷ xs) (set-more (u ∷ frames) (n - 1) s (omega arith) (omega arith) (rw e at is)))

-- what there is at the place that is found for control word k, counted from i
abbrev IsPlace : List QueuedFrame → ℕ → ℕ → Option ℕ → Type 0
IsPlace frames k i None = less_behind k frames ≡ frames
IsPlace frames k i (Some place) =
    (n : ℕ) × (place ≡ i + n) × (n < length frames)
    × ((s : QueuedFrame) → s ≡ get_or frames n s → (0 < s.behind) × (set frames n (record { word = s.word; behind = s.behind - 1 }) ≡ less_behind k frames))

later : (t : QueuedFrame) (frames : List QueuedFrame) (k i : ℕ) (o : Option ℕ) → less_behind k (t ∷ frames) ≡ t ∷ less_behind (k - t.behind) frames →
    IsPlace frames (k - t.behind) (i + 1) o → IsPlace (t ∷ frames) k i o
later t frames k i None e h = e ∙ ap (λ xs. t ∷ xs) h
later t frames k i (Some place) e h = (
  suc h.0,
  (let p : place ≡ (i + 1) + h.0 = h.1 in omega arith),
  (let l : h.0 < length frames = h.2 in omega arith),
  λ s is. ((h.3 s is).0, ap (λ xs. t ∷ xs) (h.3 s is).1 ∙ sym e),
)

place_found : (frames : List QueuedFrame) (k i : ℕ) → IsPlace frames k i (place_from k frames i)
unfolding less_behind
place_found [] k i = refl
place_found (t ∷ frames) k i = by_test (place_found frames (k - t.behind) (i + 1)) (cases_lt k t.behind)
  where
    by_test : IsPlace frames (k - t.behind) (i + 1) (place_from (k - t.behind) frames (i + 1)) → (k < t.behind) ⊎ (t.behind ≤ k) →
        IsPlace (t ∷ frames) k i (cond (nat_lt k t.behind) (Some i) (place_from (k - t.behind) frames (i + 1)))
    by_test rest (inl h) =
        rw (lt-ltb k t.behind h)
        (0, omega arith, omega arith, λ s is. ((let b : s.behind ≡ t.behind = ap (λ (x : QueuedFrame). x.behind) is in omega arith), rw (lt-ltb k t.behind h) (ap (λ (x : QueuedFrame). record { word = x.word; behind = x.behind - 1 } ∷ frames) is)))
    by_test rest (inr h) = rw (le-ltb k t.behind h) (later t frames k i _ (rw (le-ltb k t.behind h) refl) rest)

pub found : (frames : List QueuedFrame) (k place : ℕ) → place_from k frames 0 ≡ Some place →
    (place < length frames) × ((s : QueuedFrame) → s ≡ get_or frames place s → (0 < s.behind) × (set frames place (record { word = s.word; behind = s.behind - 1 }) ≡ less_behind k frames))
found frames k place e =
    let f = subst (IsPlace frames k 0) e (place_found frames k 0) in
    let p : place ≡ f.0 = f.1 ∙ zero-add f.0 in
    rw p (f.2, f.3)

pub missing : (frames : List QueuedFrame) (k : ℕ) → place_from k frames 0 ≡ None → less_behind k frames ≡ frames
missing frames k e = subst (IsPlace frames k 0) e (place_found frames k 0)

pub more_behind-none : (frames : List QueuedFrame) → length frames ≡ 0 → frames ≡ more_behind frames
unfolding more_behind
more_behind-none [] e = refl
more_behind-none (s ∷ frames) e = absurd (omega arith)

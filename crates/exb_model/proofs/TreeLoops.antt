-- Loops that go up from a port, and the order of extenders.
use Rattle.std.proofs.Common.{◌≡◌, ℕ, zero, suc, ◌+◌, ◌-◌, ◌/◌, ◌<◌, ◌≤◌, ◌||◌, ◌++◌, Bool, true, false, List, [], ◌∷◌, length, slice_index, All, refl, arith, inl, inr, add-one}
use Rattle.std.proofs.lemmas.List.{append-nil}
use Rattle.std.proofs.lemmas.Bool.{cases_Bool}
use Rattle.std.proofs.lemmas.List.Elements.{All-nil, All-weaker, All-push, All-append}
use Rattle.exb_model.specs.Tree.{Shape, up, top, trunk, path, hangs_at_depth, level, levels, by_depth, any_below}
use Rattle.exb_model.proofs.TreeWays.{up_high, up_low, up_none, top_high, top_low, top_none}

shape : List ℕ → Shape
shape on = record { ports = []; on = on }

up_more : (on : List ℕ) (i at : ℕ) → i < 64 → 64 ≤ at → up on (64 - i) at ≡ at ∷ up on (64 - (i + 1)) (slice_index on (at / 64))
unfolding shape
up_more on i at l h =
    let e : 64 - i ≡ suc (64 - (i + 1)) = omega arith in rw e (up_high (shape on) (64 - (i + 1)) at h)

up_last : (on : List ℕ) (d at : ℕ) → at < 64 → up on d at ≡ at ∷ []
unfolding shape
up_last on d at l = up_low (shape on) d at l

up_out : (on : List ℕ) (i at : ℕ) → 64 ≤ i → up on (64 - i) at ≡ at ∷ []
unfolding shape
up_out on i at h = let e : 64 - i ≡ 0 = omega arith in rw e (up_none (shape on) at)

pub path_up : (on : List ℕ) (p : ℕ) → path on p ≡ up on 64 p
unfolding path
path_up on p = refl

-- ---- a count
pub counted_more : (on : List ℕ) (i at : ℕ) → i < 64 → 64 ≤ at → length (up on (64 - i) at) ≡ 1 + length (up on (64 - (i + 1)) (slice_index on (at / 64)))
counted_more on i at l h = rw (up_more on i at l h) (omega arith)

pub counted_last : (on : List ℕ) (d at : ℕ) → at < 64 → length (up on d at) ≡ 1
counted_last on d at l = rw (up_last on d at l) refl

pub counted_out : (on : List ℕ) (i at : ℕ) → 64 ≤ i → length (up on (64 - i) at) ≡ 1
counted_out on i at h = rw (up_out on i at h) refl

-- ---- in order
pub level_none : (t : Shape) (d : ℕ) → level t d 0 ≡ []
unfolding level
level_none t d = refl

pub level_in : (t : Shape) (d k : ℕ) → hangs_at_depth t (k + 1) d ≡ true → level t d (k + 1) ≡ level t d k ++ (k + 1) ∷ []
unfolding level
level_in t d k h = rw add-one (rw (rw add-one at h) refl)

pub level_out : (t : Shape) (d k : ℕ) → hangs_at_depth t (k + 1) d ≡ false → level t d (k + 1) ≡ level t d k
unfolding level
level_out t d k h = rw add-one (rw (rw add-one at h) (append-nil _))

pub levels_none : (t : Shape) → levels t 0 ≡ []
unfolding levels
levels_none t = refl

pub levels_more : (t : Shape) (d : ℕ) → levels t (d + 1) ≡ levels t d ++ level t (d + 1) 64
unfolding levels
levels_more t d = rw add-one refl

pub by_depth_is : (t : Shape) → by_depth t ≡ levels t 64
unfolding by_depth
by_depth_is t = refl

pub any_none : (test : ℕ → Bool) → any_below test 0 ≡ false
unfolding any_below
any_none test = refl

pub any_more : (test : ℕ → Bool) (n : ℕ) → any_below test (n + 1) ≡ (any_below test n || test n)
unfolding any_below
any_more test n = rw add-one refl

-- ---- numbers of extenders
level-range : (t : Shape) (d k : ℕ) → All (λ n. (0 < n) × (n ≤ k)) (level t d k)
level-range t d zero = rw (level_none t d) (All-nil (λ n. (0 < n) × (n ≤ 0)))
level-range t d (suc k) =
    let wider : All (λ n. (0 < n) × (n ≤ suc k)) (level t d k) =
    All-weaker (λ n. (0 < n) × (n ≤ k)) (λ n. (0 < n) × (n ≤ suc k)) (λ n h. (h.0, omega (arith, h.1))) (level t d k) (level-range t d k) in
    rw (← add-one k) (
    elim (cases_Bool (hangs_at_depth t (k + 1) d)) [
      | inl e ↦ rw (level_in t d k e) (All-push (λ n. (0 < n) × (n ≤ k + 1)) (level t d k) (k + 1) (rw add-one wider) (omega arith, omega arith))
      | inr e ↦ rw (level_out t d k e) (rw add-one wider)
    ])

levels-range : (t : Shape) (d : ℕ) → All (λ n. (0 < n) × (n ≤ 64)) (levels t d)
levels-range t zero = rw (levels_none t) (All-nil (λ n. (0 < n) × (n ≤ 64)))
levels-range t (suc d) =
    rw (← add-one d, levels_more t d) (All-append (λ n. (0 < n) × (n ≤ 64)) (levels t d) (level t (d + 1) 64) (levels-range t d) (level-range t (d + 1) 64))

pub by_depth-range : (t : Shape) → All (λ n. (0 < n) × (n ≤ 64)) (by_depth t)
by_depth-range t = rw (by_depth_is t) (levels-range t 64)

-- ---- the last port
pub top_step : (on : List ℕ) (i at : ℕ) → i < 63 → 64 ≤ at → top on (63 - i) at ≡ top on (63 - (i + 1)) (slice_index on (at / 64))
unfolding shape
top_step on i at l h =
    let e : 63 - i ≡ suc (63 - (i + 1)) = omega arith in rw e (top_high (shape on) (63 - (i + 1)) at h)

pub top_last : (on : List ℕ) (d at : ℕ) → at < 64 → top on d at ≡ at
unfolding shape
top_last on d at l = top_low (shape on) d at l

pub top_out : (on : List ℕ) (i at : ℕ) → 63 ≤ i → top on (63 - i) at ≡ at
unfolding shape
top_out on i at h = let e : 63 - i ≡ 0 = omega arith in rw e (top_none (shape on) at)

pub trunk_is : (t : Shape) (n : ℕ) → trunk t n ≡ top t.on 63 (slice_index t.on n)
unfolding trunk
trunk_is t n = refl

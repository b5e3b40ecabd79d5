-- Effects that are done for each of a list, or for each of the extenders in order.
use Rattle.std.proofs.Common.{◌≡◌, ℕ, suc, zero, ◌+◌, ◌-◌, ◌<◌, ◌≤◌, List, [], ◌∷◌, length, get_or, drop, ap, sym, subst, ◌∙◌, arith}
use Rattle.std.proofs.lemmas.List.{drop_more, drop_all}
use Rattle.std.proofs.lemmas.List.FromFn.{length-range_with_len, get_or-range_with_len}
use Rattle.exb_world_spec.specs.Effects.{Effect, only, each}
use Rattle.exb_world_spec.specs.Steps.{all_extenders}
use Rattle.exb_world_spec.specs.Worlds.{World}
use Rattle.exb_world_spec.specs.Runs.Sessions.{Each}
use Rattle.exb_outbox.specs.declared.log.Log.{Log}
use Rattle.exb_bridge.specs.BridgeWorlds.{Whole}
use Rattle.exb_bridge.specs.RemainingEffects.{Leads}
use Rattle.exb_bridge.specs.TreeIndexes.{Site}
use Rattle.exb_bridge.specs.BridgeWorlds.{world_in, IsAt, Does}
use Rattle.exb_bridge.proofs.PartChanges.{does_nothing}
use Rattle.exb_bridge.proofs.RemainingEffects.{leads_on, leads_only}

-- ---- a list
each_at : {A : Type 0} (P : A → Type 0) (xs : List A) (i : ℕ) (d : A) → Each P xs → i < length xs → P (get_or xs i d)
each_at P [] i d all few = absurd (omega (arith, few))
each_at P (x ∷ xs) zero d all few = all.0
each_at P (x ∷ xs) (suc i) d all few = each_at P xs i d all.1 (omega (arith, few))

pub each_item : {A : Type 0} (P : A → Type 0) (xs : List A) (i : ℕ) (x : A) → Each P xs → i < length xs → x ≡ get_or xs i x → P x
each_item P xs i x all few is = subst P (sym is) (each_at P xs i x all few)

-- it was done for one more
pub each_leads : {A : Type 0} (f : A → World → Effect) (whole : Effect) (xs : List A) (i : ℕ) (x : A) (s : Site) (c d : Whole) (old told new : Log) → i < length xs → x ≡ get_or xs i x →
    Leads whole (each f (drop i xs) (world_in c)) old told → Does (f x (world_in c)) s d told new → Leads whole (each f (drop (i + 1) xs) (world_in d)) old new
each_leads f whole xs i x s c d old told new few is leads does =
    leads_on whole (f x (world_in c)) (each f (drop (i + 1) xs)) s d old told new
    (subst (λ ys. Leads whole (each f ys (world_in c)) old told) (drop_more xs i x few ∙ ap (λ y. y ∷ drop (i + 1) xs) (sym is)) leads) does

-- it was done for all
pub each_told : {A : Type 0} (f : A → World → Effect) (whole : Effect) (xs : List A) (i : ℕ) (s : Site) (c : Whole) (old told : Log) → length xs ≤ i →
    Leads whole (each f (drop i xs) (world_in c)) old told → IsAt s c → Does whole s c old told
each_told f whole xs i s c old told all leads at =
    leads_only whole s c old told (subst (λ ys. Leads whole (each f ys (world_in c)) old told) (drop_all i xs all) leads) at

-- ---- the extenders, by number
few_numbers : (n : ℕ) → 0 < n → n < 65 → n - 1 < length all_extenders
few_numbers n some few = rw (length-range_with_len 1 64) (omega (arith, some, few))

number_at : (n : ℕ) → 0 < n → n < 65 → n ≡ get_or all_extenders (n - 1) n
number_at n some few =
    let back : n ≡ 1 + (n - 1) = omega (arith, some) in
    back ∙ sym (get_or-range_with_len 1 64 (n - 1) n (omega (arith, some, few)))

pub numbers_lead : (f : ℕ → World → Effect) (whole : Effect) (n : ℕ) (s : Site) (c d : Whole) (old told new : Log) → 0 < n → n < 65 →
    Leads whole (each f (drop (n - 1) all_extenders) (world_in c)) old told → Does (f n (world_in c)) s d told new → Leads whole (each f (drop (n + 1 - 1) all_extenders) (world_in d)) old new
numbers_lead f whole n s c d old told new some few leads does =
    let next : n - 1 + 1 ≡ n + 1 - 1 = omega (arith, some) in
    subst (λ (k : ℕ). Leads whole (each f (drop k all_extenders) (world_in d)) old new) next
    (each_leads f whole all_extenders (n - 1) n s c d old told new (few_numbers n some few) (number_at n some few) leads does)

all_numbers : (n : ℕ) → 65 ≤ n → length all_extenders ≤ n - 1
all_numbers n all = rw (length-range_with_len 1 64) (omega (arith, all))

pub numbers_told : (f : ℕ → World → Effect) (whole : Effect) (n : ℕ) (s : Site) (c : Whole) (old told : Log) → 65 ≤ n → Leads whole (each f (drop (n - 1) all_extenders) (world_in c)) old told → IsAt s c →
    Does whole s c old told
numbers_told f whole n s c old told all leads at = each_told f whole all_extenders (n - 1) s c old told (all_numbers n all) leads at

-- ---- numbers at which nothing is done
pub numbers_skip : (f : ℕ → World → Effect) (whole : Effect) (d n : ℕ) (s : Site) (c : Whole) (old told : Log) → 0 < n → n + d ≤ 65 → IsAt s c →
    ((k : ℕ) → n ≤ k → k < n + d → f k (world_in c) ≡ only (world_in c)) → Leads whole (each f (drop (n - 1) all_extenders) (world_in c)) old told →
    Leads whole (each f (drop (n + d - 1) all_extenders) (world_in c)) old told
numbers_skip f whole zero n s c old told some few here nothing leads =
    let e : n ≡ n + 0 = omega arith in
    subst (λ (k : ℕ). Leads whole (each f (drop (k - 1) all_extenders) (world_in c)) old told) e leads
numbers_skip f whole (suc d) n s c old told some few here nothing leads =
    let e : n + 1 + d ≡ n + suc d = omega arith in
    let low : n < 65 = omega (arith, few) in
    let this : Does (f n (world_in c)) s c told told = subst (λ (one : Effect). Does one s c told told) (sym (nothing n (omega arith) (omega arith))) (does_nothing s c told here) in
    subst (λ (k : ℕ). Leads whole (each f (drop (k - 1) all_extenders) (world_in c)) old told) e
    (numbers_skip f whole d (n + 1) s c old told (omega arith) (omega (arith, few)) here (λ k from before. nothing k (omega (arith, from)) (omega (arith, before)))
    (numbers_lead f whole n s c c old told told some low leads this))

-- The jobs to begin with fit the tree, and there aren't many.
use Rattle.std.proofs.Common.{◌≡◌, ℕ, suc, ◌*◌, ◌<◌, ◌≤◌, ◌++◌, List, [], ◌∷◌, length, map, filter, get_or, slice_index, refl, arith, inl, inr}
use Rattle.std.specs.List.{flat_map, range_with_len}
use Rattle.std.proofs.lemmas.Bool.{cases_Bool, and_from, lt-ltb, le-leb}
use Rattle.std.proofs.lemmas.List.{length-map}
use Rattle.std.proofs.lemmas.List.FromFn.{length-range_with_len, get_or-range_with_len}
use Rattle.exb_model.specs.Tree.{Shape, HangsOn, on, is_external, by_depth, externals_of}
use Rattle.exb_model.proofs.TreeOrder.{by_depth-hangs}
use Rattle.exb_control_spec.proofs.Plans.EachElement.{few-filter}
use Rattle.exb_control_spec.specs.declared.job.Job.{Job}
use Rattle.exb_control_spec.specs.declared.job.Job.TheVariants as job
use Rattle.exb_control_spec.specs.InitialState.{jobs_of, first_jobs}
use Rattle.exb_control_spec.specs.JobsOfTree.{Fits, AreFit}
use Rattle.exb_control_spec.proofs.Plans.PlanLengths.{flat_at_most, few_extenders}

-- the automatic ups of the external ones of some ports
abbrev pub ups : Shape → List ℕ → List Job
ups t qs = map job.AutomaticUp (filter (is_external t) qs)

pub all_ups : (t : Shape) (n : ℕ) → map job.AutomaticUp (externals_of t n) ≡ ups t (range_with_len (64 * n) 64)
unfolding externals_of
all_ups t n = refl

pub all_starts : (t : Shape) → flat_map (jobs_of t) (by_depth t) ≡ first_jobs t
unfolding first_jobs
all_starts t = refl

-- ---- they are fit
fit_append : (t : Shape) (xs ys : List Job) → AreFit t xs → AreFit t ys → AreFit t (xs ++ ys)
fit_append t [] ys a b = b
fit_append t (x ∷ xs) ys a b = (a.0, fit_append t xs ys a.1 b)

fit_ups : (t : Shape) (ps : List ℕ) → ((p : ℕ) (i : ℕ) → i < length ps → p ≡ get_or ps i 0 → 64 ≤ p) → AreFit t (ups t ps)
fit_ups t [] high = tt
fit_ups t (p ∷ ps) high = elim (cases_Bool (is_external t p)) [
  | inl e ↦ rw e ((and_from _ _ (le-leb 64 p (high p 0 (omega arith) refl)) e), fit_ups t ps (λ q i lt is. high q (suc i) (omega arith) is))
  | inr e ↦ rw e (fit_ups t ps (λ q i lt is. high q (suc i) (omega arith) is))
]

fit_jobs : (t : Shape) (n : ℕ) → HangsOn t n (on t n) → AreFit t (jobs_of t n)
fit_jobs t n hangs = (
  and_from _ _ (lt-ltb 0 n hangs.extender) (lt-ltb 0 (slice_index t.ports n) hangs.there),
  rw (all_ups t n) (fit_ups t (range_with_len (64 * n) 64) (λ p i lt is.
      let within : i < 64 = rw (length-range_with_len (64 * n) 64) at lt in
      let at = get_or-range_with_len (64 * n) 64 i 0 within in
      let high = hangs.extender in
      omega arith)),
)

fit_starts : (t : Shape) (ns : List ℕ) → ((i : ℕ) → i < length ns → HangsOn t (get_or ns i 0) (on t (get_or ns i 0))) → AreFit t (flat_map (jobs_of t) ns)
fit_starts t [] hang = tt
fit_starts t (n ∷ ns) hang = fit_append t (jobs_of t n) (flat_map (jobs_of t) ns) (fit_jobs t n (hang 0 (omega arith))) (fit_starts t ns (λ i lt. hang (suc i) (omega arith)))

pub fit_first : (t : Shape) → AreFit t (first_jobs t)
fit_first t = rw (← all_starts t) (fit_starts t (by_depth t) (by_depth-hangs t))

-- one job more
pub fit_more : (t : Shape) (js : List Job) (j : Job) → AreFit t js → Fits t j → AreFit t (js ++ j ∷ [])
fit_more t js j fit one = fit_append t js (j ∷ []) fit (one, tt)

-- ---- how many there are
few_at : (t : Shape) (n : ℕ) → length (jobs_of t n) ≤ 65
unfolding externals_of
few_at t n =
    let short = few-filter (is_external t) (range_with_len (64 * n) 64) in
    let size = length-range_with_len (64 * n) 64 in
    let same = length-map (filter (is_external t) (range_with_len (64 * n) 64)) job.AutomaticUp in
    omega arith

pub few_first : (t : Shape) → length (first_jobs t) ≤ 4160
few_first t = let all = flat_at_most (jobs_of t) 65 (few_at t) (by_depth t) in let some = few_extenders t in rw (← all_starts t) (omega arith)

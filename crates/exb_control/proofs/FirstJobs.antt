-- The jobs to begin with.
use Rattle.std.proofs.Common.{◌≡◌, ℕ, suc, ◌+◌, ◌<◌, ◌++◌, Bool, true, false, cond, List, [], ◌∷◌, length, map, filter, take, get_or, refl, ap, sym, ◌∙◌, arith, add-one, append_assoc}
use Rattle.std.specs.List.{flat_map, range_with_len}
use Rattle.std.proofs.lemmas.List.{append-nil, take_more}
use Rattle.std.proofs.lemmas.List.Elements.{filter-append}
use Rattle.std.proofs.lemmas.List.Concat.{flat_map-append}
use Rattle.exb_model.specs.Tree.{Shape, is_external, by_depth, externals_of}
use Rattle.exb_model.proofs.PortLemmas.{range-more}
use Rattle.exb_model.proofs.TreeLoops.{by_depth-range}
use Rattle.exb_control_spec.specs.declared.job.Job.{Job}
use Rattle.exb_control_spec.specs.declared.job.Job.TheVariants as job
use Rattle.exb_control_spec.specs.InitialState.{jobs_of}
use Rattle.exb_control_spec.proofs.FirstJobs.{ups}
use Rattle.exb_control.specs.MachineSteps.{up_if}

map-append : (xs ys : List ℕ) → map job.AutomaticUp (xs ++ ys) ≡ map job.AutomaticUp xs ++ map job.AutomaticUp ys
map-append [] ys = refl
map-append (x ∷ xs) ys = ap (λ (js : List Job). job.AutomaticUp x ∷ js) (map-append xs ys)

one_up : (t : Shape) (p : ℕ) → ups t (p ∷ []) ≡ up_if (is_external t p) p
one_up t p = by_test (is_external t p)
  where
    by_test : (b : Bool) → map job.AutomaticUp (cond b (p ∷ []) []) ≡ up_if b p
    by_test true = refl
    by_test false = refl

pub ups_more : (t : Shape) (a n : ℕ) → ups t (range_with_len a (n + 1)) ≡ ups t (range_with_len a n) ++ up_if (is_external t (a + n)) (a + n)
ups_more t a n =
    let e : n + 1 ≡ suc n = add-one n in
    ap (ups t) (ap (range_with_len a) e ∙ range-more a n)
    ∙ ap (map job.AutomaticUp) (filter-append (is_external t) (range_with_len a n) ((a + n) ∷ []))
    ∙ map-append (filter (is_external t) (range_with_len a n)) (filter (is_external t) ((a + n) ∷ []))
    ∙ ap (λ (js : List Job). ups t (range_with_len a n) ++ js) (one_up t (a + n))

-- one extender more
pub starts_more : (t : Shape) (ns : List ℕ) (i : ℕ) → i < length ns → flat_map (jobs_of t) (take (i + 1) ns) ≡ flat_map (jobs_of t) (take i ns) ++ jobs_of t (get_or ns i 0)
starts_more t ns i within =
    ap (flat_map (jobs_of t)) (take_more ns i 0 within)
    ∙ flat_map-append (jobs_of t) (take i ns) (get_or ns i 0 ∷ [])
    ∙ ap (λ (js : List Job). flat_map (jobs_of t) (take i ns) ++ js) (append-nil (jobs_of t (get_or ns i 0)))

pub starts_next : (t : Shape) (ns : List ℕ) (i : ℕ) (q q' q'' : List Job) → ns ≡ by_depth t → i < length ns → q ≡ flat_map (jobs_of t) (take i ns) →
    q' ≡ q ++ job.Opening (get_or ns i 0) ∷ [] → q'' ≡ q' ++ map job.AutomaticUp (externals_of t (get_or ns i 0)) → q'' ≡ flat_map (jobs_of t) (take (i + 1) ns)
starts_next t ns i q q' q'' order within before opened put =
    let n = get_or ns i 0 in
    put
    ∙ ap (λ (js : List Job). js ++ map job.AutomaticUp (externals_of t n)) opened
    ∙ append_assoc q (job.Opening n ∷ []) (map job.AutomaticUp (externals_of t n))
    ∙ ap (λ (js : List Job). js ++ jobs_of t n) before
    ∙ sym (starts_more t ns i within)

pub number_low : (t : Shape) (ns : List ℕ) (i : ℕ) → ns ≡ by_depth t → i < length ns → get_or ns i 0 < 65
number_low t ns i order within = let low = by_depth-range t i 0 (rw order at within) in rw order (omega (arith, low.1))

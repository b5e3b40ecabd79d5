-- The tallies of all desks, added up one after another.
use Rattle.std.proofs.Common.{◌≡◌, ℕ, zero, suc, ◌+◌, ◌≤◌, List, [], ◌∷◌, take, Some, None, refl, ap, sym, ◌∙◌, arith}
use Rattle.std.specs.Prelude.{slice_get, sum_by}
use Rattle.std.proofs.lemmas.List.Sums.{sum_by-cons}
use Rattle.std.proofs.lemmas.Option.{same_Some}
use Rattle.exb_model.specs.Texts.{Counts}
use Rattle.exb_journal.specs.Tallies.{FitsTally, counts_of, nothing_counted}
use Rattle.exb_net.specs.declared.bridge_outputs.BridgeOutputs.{BridgeOutputs}
use Rattle.exb_net.specs.WrittenOutputs.{tallies_in}
use Rattle.exb_net.specs.Summaries.{added}

abbrev tally-of : BridgeOutputs → Counts
tally-of d = counts_of d.counted.tally

-- a front with one more
sum-take : (f : Counts → ℕ) (ds : List BridgeOutputs) (i : ℕ) (d : BridgeOutputs) → slice_get ds i ≡ Some d → sum_by f (tallies_in (take (suc i) ds)) ≡ sum_by f (tallies_in (take i ds)) + f (tally-of d)
sum-take f [] i d is = absurd (let z : None ≡ Some d = is in cc)
sum-take f (x ∷ ds) zero d is = (let s = sum_by-cons f (tally-of x) [] in let own = ap (λ (y : BridgeOutputs). f (tally-of y)) (same_Some x d is) in omega (arith, s, own))
sum-take f (x ∷ ds) (suc i) d is =
    let rest = sum-take f ds i d is in
    let s = sum_by-cons f (tally-of x) (tallies_in (take (suc i) ds)) in
    let u = sum_by-cons f (tally-of x) (tallies_in (take i ds)) in
    omega (arith, rest, s, u)

sum-front : (f : Counts → ℕ) (ds : List BridgeOutputs) (i : ℕ) → sum_by f (tallies_in (take i ds)) ≤ sum_by f (tallies_in ds)
sum-front f [] zero = omega arith
sum-front f [] (suc i) = omega arith
sum-front f (x ∷ ds) zero = omega arith
sum-front f (x ∷ ds) (suc i) =
    let rest = sum-front f ds i in
    let s = sum_by-cons f (tally-of x) (tallies_in (take i ds)) in
    let u = sum_by-cons f (tally-of x) (tallies_in ds) in
    omega (arith, rest, s, u)

sum-two : (f : Counts → ℕ) (a b : Counts) → sum_by f (a ∷ b ∷ []) ≡ f a + f b
sum-two f a b = (let s = sum_by-cons f a (b ∷ []) in let u = sum_by-cons f b [] in omega (arith, s, u))

counts-same : (a b : Counts) → a.relayed ≡ b.relayed → a.ignored ≡ b.ignored → a.left ≡ b.left → a.commits ≡ b.commits → a.refusals ≡ b.refusals → a ≡ b
counts-same a b r i l c x =
    ap (λ (k : ℕ). (let y : Counts = record { relayed = k; ignored = a.ignored; left = a.left; commits = a.commits; refusals = a.refusals } in y)) r
    ∙ ap (λ (k : ℕ). (let y : Counts = record { relayed = b.relayed; ignored = k; left = a.left; commits = a.commits; refusals = a.refusals } in y)) i
    ∙ ap (λ (k : ℕ). (let y : Counts = record { relayed = b.relayed; ignored = b.ignored; left = k; commits = a.commits; refusals = a.refusals } in y)) l
    ∙ ap (λ (k : ℕ). (let y : Counts = record { relayed = b.relayed; ignored = b.ignored; left = b.left; commits = k; refusals = a.refusals } in y)) c
    ∙ ap (λ (k : ℕ). (let y : Counts = record { relayed = b.relayed; ignored = b.ignored; left = b.left; commits = b.commits; refusals = k } in y)) x

module _ (ds : List BridgeOutputs) (i : ℕ) (d : BridgeOutputs) (is : slice_get ds i ≡ Some d) where
  one-more : (f : Counts → ℕ) → sum_by f (added (tallies_in (take i ds)) ∷ tally-of d ∷ []) ≡ f (added (tallies_in (take i ds))) + f (tally-of d)
  one-more f = sum-two f (added (tallies_in (take i ds))) (tally-of d)

  pub added-more : added (added (tallies_in (take i ds)) ∷ tally-of d ∷ []) ≡ added (tallies_in (take (suc i) ds))
  added-more =
      counts-same (added (added (tallies_in (take i ds)) ∷ tally-of d ∷ [])) (added (tallies_in (take (suc i) ds))) (one-more (λ c. c.relayed) ∙ sym (sum-take (λ c. c.relayed) ds i d is)) (one-more (λ c. c.ignored) ∙ sym (sum-take (λ c. c.ignored) ds i d is))
      (one-more (λ c. c.left) ∙ sym (sum-take (λ c. c.left) ds i d is)) (one-more (λ c. c.commits) ∙ sym (sum-take (λ c. c.commits) ds i d is)) (one-more (λ c. c.refusals) ∙ sym (sum-take (λ c. c.refusals) ds i d is))

  pub fits-more : FitsTally (added (tallies_in ds)) → FitsTally (added (tallies_in (take (suc i) ds)))
  fits-more fits = record {
    relayed = (let low = sum-front (λ c. c.relayed) ds (suc i) in let all = fits.relayed in omega (arith, low, all));
    ignored = (let low = sum-front (λ c. c.ignored) ds (suc i) in let all = fits.ignored in omega (arith, low, all));
    left = (let low = sum-front (λ c. c.left) ds (suc i) in let all = fits.left in omega (arith, low, all));
    commits = (let low = sum-front (λ c. c.commits) ds (suc i) in let all = fits.commits in omega (arith, low, all));
    refusals = (let low = sum-front (λ c. c.refusals) ds (suc i) in let all = fits.refusals in omega (arith, low, all));
  }

pub added-none : (ds : List BridgeOutputs) → nothing_counted ≡ added (tallies_in (take 0 ds))
added-none [] = refl
added-none (x ∷ ds) = refl

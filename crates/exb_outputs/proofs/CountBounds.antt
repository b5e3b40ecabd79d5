-- Counts that fit 64 bits.
use Rattle.std.proofs.Common.{◌≡◌, ℕ, ◌+◌, ◌<◌, ◌≤◌, List, [], ◌∷◌, ◌++◌, length, take, drop, get_or, add-one, ap, sym, ◌∙◌, arith}
use Rattle.std.proofs.Math.Seq.{take-suc}
use Rattle.std.proofs.lemmas.List.{take-append-drop}
use Rattle.std.proofs.lemmas.List.Sums.{fold-append}
use Rattle.exb_model.specs.declared.event.Event.{Event}
use Rattle.exb_model.specs.declared.event.Event.TheVariants as event
use Rattle.exb_model.specs.Texts.{Counts, counted, with_left}
use Rattle.exb_journal.specs.Tallies.{FitsTally}
use Rattle.exb_outputs.proofs.HistoryCounts.{count_events}

-- no count is above that of another
record IsBelow (c d : Counts) : Type 0 where
  relayed : c.relayed ≤ d.relayed
  ignored : c.ignored ≤ d.ignored
  left : c.left ≤ d.left
  commits : c.commits ≤ d.commits
  refusals : c.refusals ≤ d.refusals

below-itself : (c : Counts) → IsBelow c c
below-itself c = record { relayed = omega arith; ignored = omega arith; left = omega arith; commits = omega arith; refusals = omega arith }

below-one : (e : Event) (c : Counts) → IsBelow c (counted e c)
below-one (event.Relay p n t f) c = record { relayed = omega arith; ignored = omega arith; left = omega arith; commits = omega arith; refusals = omega arith }
below-one (event.Ignored p n) c = record { relayed = omega arith; ignored = omega arith; left = omega arith; commits = omega arith; refusals = omega arith }
below-one (event.Tick s) c = below-itself c
below-one (event.Commit n) c = record { relayed = omega arith; ignored = omega arith; left = omega arith; commits = omega arith; refusals = omega arith }
below-one (event.Refuse n x) c = record { relayed = omega arith; ignored = omega arith; left = omega arith; commits = omega arith; refusals = omega arith }
below-one (event.Up p) c = below-itself c
below-one (event.NoUp p x) c = below-itself c
below-one event.Settled c = below-itself c

below-then : (a b c : Counts) → IsBelow a b → IsBelow b c → IsBelow a c
below-then a b c x y = record {
  relayed = (let m = x.relayed in let n = y.relayed in omega (arith, m, n));
  ignored = (let m = x.ignored in let n = y.ignored in omega (arith, m, n));
  left = (let m = x.left in let n = y.left in omega (arith, m, n));
  commits = (let m = x.commits in let n = y.commits in omega (arith, m, n));
  refusals = (let m = x.refusals in let n = y.refusals in omega (arith, m, n));
}

below-all : (es : List Event) (c : Counts) → IsBelow c (count_events c es)
below-all [] c = below-itself c
below-all (e ∷ es) c = below-then c (counted e c) (count_events (counted e c) es) (below-one e c) (below-all es (counted e c))

fits-below : (c d : Counts) → IsBelow c d → FitsTally d → FitsTally c
fits-below c d b f = record {
  relayed = (let m = b.relayed in let n = f.relayed in omega (arith, m, n));
  ignored = (let m = b.ignored in let n = f.ignored in omega (arith, m, n));
  left = (let m = b.left in let n = f.left in omega (arith, m, n));
  commits = (let m = b.commits in let n = f.commits in omega (arith, m, n));
  refusals = (let m = b.refusals in let n = f.refusals in omega (arith, m, n));
}

-- one event more is counted
pub counted_next : (es : List Event) (c : Counts) (k : ℕ) (e : Event) → k < length es → e ≡ get_or es k e → counted e (count_events c (take k es)) ≡ count_events c (take (k + 1) es)
counted_next es c k e low is =
    rw (add-one, take-suc es k e low) (sym (fold-append (λ d x. counted x d) c (take k es) (get_or es k e ∷ []) ∙ ap (λ x. counted x (count_events c (take k es))) (sym is)))

-- with the events so far the counts fit where they do with all
pub fits-so-far : (es : List Event) (c : Counts) (k : ℕ) → FitsTally (count_events c es) → FitsTally (count_events c (take k es))
fits-so-far es c k fits =
    fits-below (count_events c (take k es)) (count_events c es) (by_split (take k es) (drop k es) (take-append-drop k es)) fits
  where
    by_split : (xs ys : List Event) → xs ++ ys ≡ es → IsBelow (count_events c xs) (count_events c es)
    by_split xs ys is =
        let whole : count_events c es ≡ count_events (count_events c xs) ys = ap (count_events c) (sym is) ∙ fold-append (λ d x. counted x d) c xs ys in
        let b = below-all ys (count_events c xs) in
        record {
          relayed = (let m = b.relayed in let n = ap (λ (d : Counts). d.relayed) whole in omega (arith, m, n));
          ignored = (let m = b.ignored in let n = ap (λ (d : Counts). d.ignored) whole in omega (arith, m, n));
          left = (let m = b.left in let n = ap (λ (d : Counts). d.left) whole in omega (arith, m, n));
          commits = (let m = b.commits in let n = ap (λ (d : Counts). d.commits) whole in omega (arith, m, n));
          refusals = (let m = b.refusals in let n = ap (λ (d : Counts). d.refusals) whole in omega (arith, m, n));
        }

-- and so they do without what has left
pub fits-events : (es : List Event) (c : Counts) (n : ℕ) → FitsTally (with_left n (count_events c es)) → FitsTally (count_events c es)
fits-events es c n f = record {
  relayed = f.relayed;
  ignored = f.ignored;
  left = (let low = f.left in omega (arith, low));
  commits = f.commits;
  refusals = f.refusals;
}

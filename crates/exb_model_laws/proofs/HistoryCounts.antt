-- What is counted over a history.
use Rattle.std.proofs.Common.{◌≡◌, ℕ, ◌+◌, Bool, cond, List, [], ◌∷◌, length, count_by, refl, sym, ap, ◌∙◌, arith, length-append}
use Rattle.std.specs.Prelude.{sum_by}
use Rattle.std.proofs.lemmas.List.Sums.{sum_by-cons}
use Rattle.exb_model.specs.declared.event.Event.{Event}
use Rattle.exb_model.specs.declared.event.Event.TheVariants as event
use Rattle.exb_model.specs.Tree.{Shape, external_ports}
use Rattle.exb_model.specs.History.{Basis, History, bridge_after}
use Rattle.exb_model.specs.Learning.{learned}
use Rattle.exb_model.specs.FlatBridge.{flat, sent_by}
use Rattle.exb_model.specs.Texts.{Counts, counts, counted, left_by, with_left}
use Rattle.exb_model_laws.specs.SummaryCounts.{counted_all, nothing_yet, all_left, is_relay, is_ignored, is_commit, is_refusal}

-- the counts as numbers of events
abbrev by_sort : History → Counts
by_sort h = record { relayed = count_by is_relay h; ignored = count_by is_ignored h; left = 0; commits = count_by is_commit h; refusals = count_by is_refusal h }

count-cons : (p : Event → Bool) (e : Event) (h : History) → count_by p (e ∷ h) ≡ cond (p e) 1 0 + count_by p h
count-cons p e h = sum_by-cons (λ x. cond (p x) 1 0) e h

sorted-cons : (e : Event) (h : History) → counted e (by_sort h) ≡ by_sort (e ∷ h)
sorted-cons e h = by_event e
  where
    all : (e : Event) (r i c f : ℕ) → count_by is_relay (e ∷ h) ≡ r → count_by is_ignored (e ∷ h) ≡ i → count_by is_commit (e ∷ h) ≡ c → count_by is_refusal (e ∷ h) ≡ f →
        by_sort (e ∷ h) ≡ record { relayed = r; ignored = i; left = 0; commits = c; refusals = f }
    all e r i c f er ei ec ef = λ k. record { relayed = er k; ignored = ei k; left = 0; commits = ec k; refusals = ef k }

    by_event : (e : Event) → counted e (by_sort h) ≡ by_sort (e ∷ h)
    by_event (event.Relay p n t b) = let e : Event = event.Relay p n t b in
        sym (all e (count_by is_relay h + 1) (count_by is_ignored h) (count_by is_commit h) (count_by is_refusal h)
        (count-cons is_relay e h ∙ omega arith) (count-cons is_ignored e h ∙ omega arith) (count-cons is_commit e h ∙ omega arith) (count-cons is_refusal e h ∙ omega arith))
    by_event (event.Ignored p n) = let e : Event = event.Ignored p n in
        sym (all e (count_by is_relay h) (count_by is_ignored h + 1) (count_by is_commit h) (count_by is_refusal h)
        (count-cons is_relay e h ∙ omega arith) (count-cons is_ignored e h ∙ omega arith) (count-cons is_commit e h ∙ omega arith) (count-cons is_refusal e h ∙ omega arith))
    by_event (event.Tick s) = let e : Event = event.Tick s in
        sym (all e (count_by is_relay h) (count_by is_ignored h) (count_by is_commit h) (count_by is_refusal h)
        (count-cons is_relay e h ∙ omega arith) (count-cons is_ignored e h ∙ omega arith) (count-cons is_commit e h ∙ omega arith) (count-cons is_refusal e h ∙ omega arith))
    by_event (event.Commit n) = let e : Event = event.Commit n in
        sym (all e (count_by is_relay h) (count_by is_ignored h) (count_by is_commit h + 1) (count_by is_refusal h)
        (count-cons is_relay e h ∙ omega arith) (count-cons is_ignored e h ∙ omega arith) (count-cons is_commit e h ∙ omega arith) (count-cons is_refusal e h ∙ omega arith))
    by_event (event.Refuse n x) = let e : Event = event.Refuse n x in
        sym (all e (count_by is_relay h) (count_by is_ignored h) (count_by is_commit h) (count_by is_refusal h + 1)
        (count-cons is_relay e h ∙ omega arith) (count-cons is_ignored e h ∙ omega arith) (count-cons is_commit e h ∙ omega arith) (count-cons is_refusal e h ∙ omega arith))
    by_event (event.Up p) = let e : Event = event.Up p in
        sym (all e (count_by is_relay h) (count_by is_ignored h) (count_by is_commit h) (count_by is_refusal h)
        (count-cons is_relay e h ∙ omega arith) (count-cons is_ignored e h ∙ omega arith) (count-cons is_commit e h ∙ omega arith) (count-cons is_refusal e h ∙ omega arith))
    by_event (event.NoUp p x) = let e : Event = event.NoUp p x in
        sym (all e (count_by is_relay h) (count_by is_ignored h) (count_by is_commit h) (count_by is_refusal h)
        (count-cons is_relay e h ∙ omega arith) (count-cons is_ignored e h ∙ omega arith) (count-cons is_commit e h ∙ omega arith) (count-cons is_refusal e h ∙ omega arith))
    by_event event.Settled = let e : Event = event.Settled in
        sym (all e (count_by is_relay h) (count_by is_ignored h) (count_by is_commit h) (count_by is_refusal h)
        (count-cons is_relay e h ∙ omega arith) (count-cons is_ignored e h ∙ omega arith) (count-cons is_commit e h ∙ omega arith) (count-cons is_refusal e h ∙ omega arith))

pub sorted-all : (h : History) → counted_all h ≡ by_sort h
unfolding counted_all
sorted-all [] = refl
sorted-all (e ∷ h) = ap (counted e) (sorted-all h) ∙ sorted-cons e h

-- ---- frames that left are counted apart
left-more : (l n m : ℕ) → l + n + m ≡ l + (n + m)
left-more l n m = omega arith

abbrev put_left : ℕ → Counts → Counts
put_left l c = record c { left = l }

counted-apart : (e : Event) (n m : ℕ) (c : Counts) → with_left m (counted e (with_left n c)) ≡ with_left (n + m) (counted e c)
counted-apart (event.Relay p k t f) n m c = ap (λ l. put_left l (counted (event.Relay p k t f) c)) (left-more c.left n m)
counted-apart (event.Ignored p k) n m c = ap (λ l. put_left l (counted (event.Ignored p k) c)) (left-more c.left n m)
counted-apart (event.Tick s) n m c = ap (λ l. put_left l c) (left-more c.left n m)
counted-apart (event.Commit k) n m c = ap (λ l. put_left l (counted (event.Commit k) c)) (left-more c.left n m)
counted-apart (event.Refuse k x) n m c = ap (λ l. put_left l (counted (event.Refuse k x) c)) (left-more c.left n m)
counted-apart (event.Up p) n m c = ap (λ l. put_left l c) (left-more c.left n m)
counted-apart (event.NoUp p x) n m c = ap (λ l. put_left l c) (left-more c.left n m)
counted-apart event.Settled n m c = ap (λ l. put_left l c) (left-more c.left n m)

sum-both : (f g : ℕ → ℕ) (qs : List ℕ) → sum_by f qs + sum_by g qs ≡ sum_by (λ q. f q + g q) qs
sum-both f g [] = refl
sum-both f g (q ∷ qs) =
    let a = sum_by-cons f q qs in let b = sum_by-cons g q qs in let d = sum_by-cons (λ p. f p + g p) q qs in
    let rest = sum-both f g qs in omega (arith, a, b, d, rest)

sum-same : (f g : ℕ → ℕ) → ((q : ℕ) → f q ≡ g q) → (qs : List ℕ) → sum_by f qs ≡ sum_by g qs
sum-same f g same [] = refl
sum-same f g same (q ∷ qs) = sum_by-cons f q qs ∙ ap (λ n. n + sum_by f qs) (same q) ∙ ap (λ n. g q + n) (sum-same f g same qs) ∙ sym (sum_by-cons g q qs)

sum-zero : (qs : List ℕ) → sum_by (λ q. 0) qs ≡ 0
sum-zero [] = refl
sum-zero (q ∷ qs) = let e = sum_by-cons (λ (p : ℕ). 0) q qs in let r = sum-zero qs in omega (arith, e, r)

left-none : (t : Shape) (b : Basis) → all_left t b [] ≡ 0
unfolding flat
left-none t b = sum-zero (external_ports t)

left-cons : (t : Shape) (b : Basis) (h : History) (e : Event) → all_left t b h + left_by t b h e ≡ all_left t b (e ∷ h)
unfolding flat
left-cons t b h e =
    sum-both (λ q. length (flat b h q)) (λ q. length (sent_by (bridge_after b h) (learned b h) e q)) (external_ports t)
    ∙ sum-same (λ q. length (flat b h q) + length (sent_by (bridge_after b h) (learned b h) e q)) (λ q. length (flat b (e ∷ h) q))
    (λ q. sym (length-append (flat b h q) (sent_by (bridge_after b h) (learned b h) e q))) (external_ports t)

pub counts-apart : (t : Shape) (b : Basis) (h : History) → counts t b h ≡ with_left (all_left t b h) (counted_all h)
unfolding counts counted_all
counts-apart t b [] = ap (λ n. with_left n nothing_yet) (sym (left-none t b))
counts-apart t b (e ∷ h) =
    ap (λ c. with_left (left_by t b h e) (counted e c)) (counts-apart t b h)
    ∙ counted-apart e (all_left t b h) (left_by t b h e) (counted_all h)
    ∙ ap (λ n. with_left n (counted e (counted_all h))) (left-cons t b h e)

pub counts-sorted : (t : Shape) (b : Basis) (h : History) → counts t b h ≡ record {
  relayed = count_by is_relay h;
  ignored = count_by is_ignored h;
  left = all_left t b h;
  commits = count_by is_commit h;
  refusals = count_by is_refusal h;
}
counts-sorted t b h =
    counts-apart t b h ∙ ap (with_left (all_left t b h)) (sorted-all h)
    ∙ (λ k. record {
      relayed = count_by is_relay h;
      ignored = count_by is_ignored h;
      left = none-before k;
      commits = count_by is_commit h;
      refusals = count_by is_refusal h;
    })
  where
    none-before : 0 + all_left t b h ≡ all_left t b h
    none-before = omega arith

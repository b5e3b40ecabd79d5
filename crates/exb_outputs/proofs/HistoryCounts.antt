-- What is counted over a history.
use Rattle.std.proofs.Common.{◌≡◌, ◌≢◌, ℕ, zero, suc, eq-eqb, ◌+◌, ◌<◌, ◌≤◌, ◌==◌, Bool, true, false, cond, List, [], ◌∷◌, ◌++◌, length, sum_by, fold, add-zero, filter, All, get_or, refl, ap, sym, ◌∙◌, arith, inl, inr, length-append}
use Rattle.std.specs.List.{range_with_len, AllByRecursion}
use Rattle.std.proofs.lemmas.Bool.{cases_eq, ne_eqb}
use Rattle.exb_model.specs.Ports.{below}
use Rattle.exb_model.specs.declared.event.Event.{Event}
use Rattle.exb_model.specs.declared.event.Event.TheVariants as event
use Rattle.exb_model.specs.History.{Basis, History, ◌then◌, bridge_after}
use Rattle.exb_model.specs.Learning.{learned}
use Rattle.exb_model.specs.FlatBridge.{Sent, sent_by, flat}
use Rattle.exb_model.specs.Tree.{Shape, is_external, external_ports}
use Rattle.exb_journal.specs.Tallies.{nothing_counted}
use Rattle.exb_model.specs.Texts.{Counts, counted, left_by, with_left, counts}
use Rattle.exb_world_spec.specs.Worlds.{Left, left_at}
use Rattle.exb_inputs.proofs.FirstRecords.{passing}

-- what left all of some ports over a history
abbrev pub left_over : Basis → History → List ℕ → ℕ
left_over b h ports = sum_by (λ q. length (flat b h q)) ports

module _ (f g k : ℕ → ℕ) (each : (q : ℕ) → k q ≡ f q + g q) where
  from : (a b c : ℕ) → c ≡ a + b → (ports : List ℕ) → fold (λ x q. x + k q) c ports ≡ fold (λ x q. x + f q) a ports + fold (λ x q. x + g q) b ports
  from a b c e [] = e
  from a b c e (q ∷ qs) = from (a + f q) (b + g q) (c + k q) (omega (arith, each q)) qs

  pub sum_by-plus : (ports : List ℕ) → sum_by k ports ≡ sum_by f ports + sum_by g ports
  sum_by-plus ports = from 0 0 0 refl ports

pub sum_by-zero : (ports : List ℕ) → sum_by (λ q. 0) ports ≡ 0
sum_by-zero ports = from_zero 0 ports
  where
    from_zero : (a : ℕ) (qs : List ℕ) → fold (λ x q. x + 0) a qs ≡ a
    from_zero a [] = refl
    from_zero a (q ∷ qs) = from_zero (a + 0) qs ∙ add-zero a

-- sums of what is equal at each
same-sum : (f g : ℕ → ℕ) (ports : List ℕ) → AllByRecursion (λ q. f q ≡ g q) ports → sum_by f ports ≡ sum_by g ports
same-sum f g ports each = from-start 0 0 refl ports each
  where
    from-start : (a b : ℕ) → a ≡ b → (qs : List ℕ) → AllByRecursion (λ q. f q ≡ g q) qs → fold (λ x q. x + f q) a qs ≡ fold (λ x q. x + g q) b qs
    from-start a b e [] all = e
    from-start a b e (q ∷ qs) all = from-start (a + f q) (b + g q) (omega (arith, e, all.0)) qs all.1

-- what is counted as left is what has left all external ports
pub counts-left : (t : Shape) (b : Basis) (h : History) → (counts t b h).left ≡ left_over b h (external_ports t)
unfolding counts flat
counts-left t b [] = sym (sum_by-zero (external_ports t))
counts-left t b (e ∷ h) =
    same_left e (counts t b h) (left_by t b h e) ∙ ap (λ n. n + left_by t b h e) (counts-left t b h)
    ∙ sym (sum_by-plus (λ q. length (flat b h q)) (λ q. length (sent_by (bridge_after b h) (learned b h) e q)) (λ q. length (flat b h q ++ sent_by (bridge_after b h) (learned b h) e q))
    (λ q. length-append (flat b h q) (sent_by (bridge_after b h) (learned b h) e q)) (external_ports t))
  where
    same_left : (e' : Event) (c : Counts) (n : ℕ) → (with_left n (counted e' c)).left ≡ c.left + n
    same_left (event.Relay p k m f) c n = refl
    same_left (event.Ignored p k) c n = refl
    same_left (event.Tick s) c n = refl
    same_left (event.Commit k) c n = refl
    same_left (event.Refuse k x) c n = refl
    same_left (event.Up p) c n = refl
    same_left (event.NoUp p x) c n = refl
    same_left event.Settled c n = refl

-- the counts but for what has left: each event counts for itself
abbrev pub without_left : Counts → Counts
without_left c = record c { left = 0 }

pub counts-events : (t : Shape) (b : Basis) (h : History) (e : Event) → without_left (counts t b (e ∷ h)) ≡ without_left (counted e (counts t b h))
unfolding counts
counts-events t b h e = refl

-- ---- what left some ports, port by port and all together
module _ (test : ℕ → Bool) (p : ℕ) where
  abbrev hits : ℕ → List ℕ → ℕ
  hits start qs = fold (λ n q. n + cond (p == q) 1 0) start qs

  passed_by : (start a : ℕ) → p ≢ a → start + cond (p == a) 1 0 ≡ start
  passed_by start a other = rw (ne_eqb p a other) (add-zero start)

  met : (start a : ℕ) → p ≡ a → start + cond (p == a) 1 0 ≡ start + 1
  met start a is = rw (eq-eqb p a is) refl

  skip : (start a n : ℕ) (b : Bool) → test a ≡ b → p ≢ a → hits start (filter test (range_with_len a (suc n))) ≡ hits start (filter test (range_with_len (a + 1) n))
  skip start a n true e other = rw e (ap (λ k. hits k (filter test (range_with_len (a + 1) n))) (passed_by start a other))
  skip start a n false e other = rw e refl

  past : (start a n : ℕ) → p < a → hits start (filter test (range_with_len a n)) ≡ start
  past start a zero low = refl
  past start a (suc n) low = skip start a n (test a) refl (λ e. omega arith) ∙ past start (a + 1) n (omega arith)

  here : (start a n : ℕ) → test a ≡ true → p ≡ a → hits start (filter test (range_with_len a (suc n))) ≡ start + 1
  here start a n e is = rw e (ap (λ k. hits k (filter test (range_with_len (a + 1) n))) (met start a is) ∙ past (start + 1) (a + 1) n (omega arith))

  once : (start a n : ℕ) → a ≤ p → p < a + n → test p ≡ true → hits start (filter test (range_with_len a n)) ≡ start + 1
  once start a zero low high passes = absurd (omega arith)
  once start a (suc n) low high passes =
      elim (cases_eq p a) [
        | inl is ↦ here start a n (ap test (sym is) ∙ passes) is
        | inr other ↦ skip start a n (test a) refl other ∙ once start (a + 1) n (omega arith) (omega arith) passes
      ]

-- a port that passes is hit once
pub hit_once : (test : ℕ → Bool) (n p : ℕ) → p < n → test p ≡ true → sum_by (λ q. cond (p == q) 1 0) (filter test (below n)) ≡ 1
unfolding below
hit_once test n p low passes = once test p 0 0 n (omega arith) (omega arith) passes

length_at : (x : Left) (xs : List Left) (q : ℕ) → length (left_at q (x ∷ xs)) ≡ cond (x.port == q) 1 0 + length (left_at q xs)
length_at x xs q = by_port (x.port == q)
  where
    by_port : (b : Bool) → length (cond b ((x.moment, x.bytes) ∷ left_at q xs) (left_at q xs)) ≡ cond b 1 0 + length (left_at q xs)
    by_port true = omega arith
    by_port false = omega arith

-- what left is what left the ports, where each port that it left is hit once
pub length_by_port : (ports : List ℕ) (xs : List Left) → All (λ x. sum_by (λ q. cond (x.port == q) 1 0) ports ≡ 1) xs →
    sum_by (λ q. length (left_at q xs)) ports ≡ length xs
length_by_port ports [] each = sum_by-zero ports
length_by_port ports (x ∷ xs) each =
    sum_by-plus (λ q. cond (x.port == q) 1 0) (λ q. length (left_at q xs)) (λ q. length (left_at q (x ∷ xs))) (length_at x xs) ports
    ∙ rw (each 0 x (omega arith), length_by_port ports xs (λ k d h. each (suc k) d (omega arith))) (omega arith)

-- ---- counts after events
-- equal but for what has left, and in what has left
same_counts : (c d : Counts) → without_left c ≡ without_left d → c.left ≡ d.left → c ≡ d
same_counts c d e l = ap (λ (x : Counts). record x { left = c.left }) e ∙ ap (λ n. record d { left = n }) l

counted-same : (e : Event) (c d : Counts) → without_left c ≡ without_left d → without_left (counted e c) ≡ without_left (counted e d)
counted-same (event.Relay p k m f) c d e = ap (λ (x : Counts). without_left (counted (event.Relay p k m f) x)) e
counted-same (event.Ignored p k) c d e = ap (λ (x : Counts). without_left (counted (event.Ignored p k) x)) e
counted-same (event.Tick s) c d e = e
counted-same (event.Commit k) c d e = ap (λ (x : Counts). without_left (counted (event.Commit k) x)) e
counted-same (event.Refuse k x) c d e = ap (λ (y : Counts). without_left (counted (event.Refuse k x) y)) e
counted-same (event.Up p) c d e = e
counted-same (event.NoUp p x) c d e = e
counted-same event.Settled c d e = e

abbrev pub count_events : Counts → List Event → Counts
count_events c es = fold (λ d e. counted e d) c es

count_events-same : (es : List Event) (c d : Counts) → without_left c ≡ without_left d → without_left (count_events c es) ≡ without_left (count_events d es)
count_events-same [] c d e = e
count_events-same (x ∷ es) c d e = count_events-same es (counted x c) (counted x d) (counted-same x c d e)

count_events-then : (t : Shape) (b : Basis) (h : History) (es : List Event) → without_left (counts t b (h then es)) ≡ without_left (count_events (counts t b h) es)
count_events-then t b h [] = refl
count_events-then t b h (e ∷ es) = count_events-then t b (e ∷ h) es ∙ count_events-same es (counts t b (e ∷ h)) (counted e (counts t b h)) (counts-events t b h e)

pub count_events-left : (es : List Event) (c : Counts) → (count_events c es).left ≡ c.left
count_events-left [] c = refl
count_events-left (e ∷ es) c = count_events-left es (counted e c) ∙ same_left e
  where
    same_left : (x : Event) → (counted x c).left ≡ c.left
    same_left (event.Relay p k m f) = refl
    same_left (event.Ignored p k) = refl
    same_left (event.Tick s) = refl
    same_left (event.Commit k) = refl
    same_left (event.Refuse k x) = refl
    same_left (event.Up p) = refl
    same_left (event.NoUp p x) = refl
    same_left event.Settled = refl

-- the counts after events, where that many frames left
pub counts-then : (t : Shape) (b : Basis) (h : History) (es : List Event) (n : ℕ) → left_over b (h then es) (external_ports t) ≡ left_over b h (external_ports t) + n →
    with_left n (count_events (counts t b h) es) ≡ counts t b (h then es)
counts-then t b h es n more =
    same_counts (with_left n (count_events (counts t b h) es)) (counts t b (h then es)) (sym (count_events-then t b h es))
    (ap (λ k. k + n) (count_events-left es (counts t b h) ∙ counts-left t b h) ∙ sym more ∙ sym (counts-left t b (h then es)))

-- ---- the whole
flat-none : (b : Basis) (q : ℕ) → flat b [] q ≡ []
unfolding flat
flat-none b q = refl

pub counts-none : (t : Shape) (b : Basis) → counts t b [] ≡ nothing_counted
unfolding counts
counts-none t b = refl

nothing-left : (b : Basis) (ports : List ℕ) → left_over b [] ports ≡ 0
nothing-left b ports = same-sum (λ q. length (flat b [] q)) (λ q. 0) ports (each ports) ∙ sum_by-zero ports
  where
    each : (qs : List ℕ) → AllByRecursion (λ q. length (flat b [] q) ≡ 0) qs
    each [] = tt
    each (q ∷ qs) = (ap (λ (xs : List Sent). length xs) (flat-none b q), each qs)

-- a frame that left an external port
pub record LeftExternal (t : Shape) (x : Left) : Type 0 where
  pub port : is_external t x.port ≡ true
  pub low : x.port < 4160

-- The counts of all that was told, where what has left each external port is what the one bridge sends there.
pub counts-whole : (t : Shape) (b : Basis) (h : History) (es : List Event) (xs : List Left) → ([] then es) ≡ h →
    ((q : ℕ) → is_external t q ≡ true → left_at q xs ≡ flat b h q) → All (LeftExternal t) xs → with_left (length xs) (count_events nothing_counted es) ≡ counts t b h
unfolding external_ports
counts-whole t b h es xs is sent own =
    let rows : List ℕ = filter (is_external t) (below 4160) in
    let once : All (λ x. sum_by (λ q. cond (x.port == q) 1 0) rows ≡ 1) xs =
    λ k d l. let x = own k d l in hit_once (is_external t) 4160 (get_or xs k d).port x.low x.port in
    let all : left_over b h rows ≡ length xs =
    same-sum (λ q. length (flat b h q)) (λ q. length (left_at q xs)) rows (lengths rows (passing (is_external t) (below 4160))) ∙ length_by_port rows xs once in
    let grown : left_over b ([] then es) rows ≡ left_over b [] rows + length xs =
    (let whole = ap (λ (g : History). left_over b g rows) is ∙ all in let none = nothing-left b rows in omega (arith, whole, none)) in
    ap (λ (c : Counts). with_left (length xs) (count_events c es)) (sym (counts-none t b)) ∙ counts-then t b [] es (length xs) grown ∙ ap (λ (g : History). counts t b g) is
  where
    lengths : (qs : List ℕ) → AllByRecursion (λ q. is_external t q ≡ true) qs → AllByRecursion (λ q. length (flat b h q) ≡ length (left_at q xs)) qs
    lengths [] each = tt
    lengths (q ∷ qs) each = (ap (λ (ys : List Sent). length ys) (sym (sent q each.0)), lengths qs each.1)

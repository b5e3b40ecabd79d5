-- The tree, computed: its tables, and that it is one.
use Rattle.std.proofs.Common.{◌≡◌, ◌∙◌, ℕ, zero, suc, ◌+◌, ◌/◌, ◌%◌, ◌<◌, ◌≤◌, ◌==◌, ◌&&◌, nat_le, add-zero, zero-add, append-nil, append_assoc, Bool, true, false, if◌then◌else◌, nat_lt, List, [], ◌∷◌, ◌++◌, replicate, length, filter, slice_index, count_by, refl, sym, ap, subst, arith, lit<}
use Rattle.std.specs.List.{range_with_len}
use Rattle.std.proofs.lemmas.Bool.{le-ltb, ltb-true}
use Rattle.std.proofs.lemmas.Bool.Decides.{nat_tests}
use Rattle.std.proofs.lemmas.List.Elements.{filter-append}
use Rattle.std.proofs.lemmas.List.Sums.{length-filter, count_by-le-length}
use Rattle.exb_model.proofs.PortLemmas.{range-more}
use Rattle.exb_model.specs.declared.command.Command.{Command}
use Rattle.exb_model.specs.Ports.{below}
use Rattle.exb_model.specs.Setup.{shape_of}
use Rattle.exb_model.specs.Tree.{Shape, IsTree, on, is_port, is_external, external_ports, is_cascade, is_cascade_under, cascades_under, any_below, top}
use Rattle.exb_make.specs.GeneratedTree.{site, site_ports, setup_with}

-- the tables written out
abbrev pub tables : Shape
tables = record {
  ports = 4 ∷ 8 ∷ 8 ∷ 8 ∷ 8 ∷ 8 ∷ 8 ∷ replicate 58 0;
  on = 0 ∷ 0 ∷ 1 ∷ 71 ∷ 199 ∷ 135 ∷ 327 ∷ replicate 58 0;
}

pub site-is : site ≡ tables
unfolding site shape_of
site-is = refl

pub shape-is : (start : List Command) → shape_of (setup_with start) ≡ site
unfolding site shape_of
shape-is start = refl

-- ---- the ports of each device
get-zeros : (n i : ℕ) → slice_index (replicate n 0) i ≡ 0
get-zeros zero i = refl
get-zeros (suc n) zero = refl
get-zeros (suc n) (suc i) = get-zeros n i

no_ports : (n : ℕ) → 7 ≤ n → slice_index tables.ports n ≡ 0
no_ports zero h = absurd (omega arith)
no_ports (suc zero) h = absurd (omega arith)
no_ports (suc (suc zero)) h = absurd (omega arith)
no_ports (suc (suc (suc zero))) h = absurd (omega arith)
no_ports (suc (suc (suc (suc zero)))) h = absurd (omega arith)
no_ports (suc (suc (suc (suc (suc zero))))) h = absurd (omega arith)
no_ports (suc (suc (suc (suc (suc (suc zero)))))) h = absurd (omega arith)
no_ports (suc (suc (suc (suc (suc (suc (suc n))))))) h = get-zeros 58 n

seven : (k : ℕ) → nat_lt k 7 ≡ false → 7 ≤ k
seven k e = grind (arith, nat_tests)

-- there are six extenders
there : (n : ℕ) → 0 < slice_index tables.ports n → n < 7
there n h = by_test (nat_lt n 7) refl
  where
    by_test : (b : Bool) → nat_lt n 7 ≡ b → n < 7
    by_test true e = ltb-true n 7 e
    by_test false e = absurd (let z : slice_index tables.ports n ≡ 0 = no_ports n (seven n e) in omega (arith, z))

six : (P : ℕ → Type 0) → P 1 → P 2 → P 3 → P 4 → P 5 → P 6 → (n : ℕ) → 0 < n → n < 7 → P n
six P a b c d e f zero some low = absurd (omega arith)
six P a b c d e f (suc zero) some low = a
six P a b c d e f (suc (suc zero)) some low = b
six P a b c d e f (suc (suc (suc zero))) some low = c
six P a b c d e f (suc (suc (suc (suc zero)))) some low = d
six P a b c d e f (suc (suc (suc (suc (suc zero))))) some low = e
six P a b c d e f (suc (suc (suc (suc (suc (suc zero)))))) some low = f
six P a b c d e f (suc (suc (suc (suc (suc (suc (suc n))))))) some low = absurd (omega arith)

-- the extender that hangs on a port
who : ℕ → ℕ
who p = if p == 0 then 1 else (if p == 1 then 2 else (if p == 71 then 3 else (if p == 199 then 4 else (if p == 135 then 5 else 6))))

known : (n : ℕ) → 0 < n → n < 7 → who (on tables n) ≡ n
unfolding who
known n some low = six (λ k. who (on tables k) ≡ k) refl refl refl refl refl refl n some low

on_ports : (n : ℕ) → 0 < n → n < 7 → is_port tables (on tables n) ≡ true
on_ports n some low = six (λ k. is_port tables (on tables k) ≡ true) refl refl refl refl refl refl n some low

reached : (n : ℕ) → 0 < n → n < 7 → top tables.on 63 (on tables n) < 64
unfolding top
reached n some low = six (λ k. top tables.on 63 (on tables k) < 64) (lit< tt) (lit< tt) (lit< tt) (lit< tt) (lit< tt) (lit< tt) n some low

tables_tree : IsTree tables
tables_tree = record {
  sized = refl;
  on_port = λ n some h. on_ports n some (there n h);
  alone = λ n m p h k.
      sym (known n h.extender (there n h.there)) ∙ (ap who h.at ∙ (sym (ap who k.at) ∙ known m k.extender (there m k.there)));
  rooted = λ n some h. reached n some (there n h);
}

pub site_tree : IsTree site
site_tree = subst IsTree (sym site-is) tables_tree

-- ---- all ports are below 448
far : (p : ℕ) → 448 ≤ p → is_port tables p ≡ false
far p h = rw (no_ports (p / 64) (omega arith)) (le-ltb (p % 64) 0 (omega arith))

range-split : (a n m k : ℕ) → k ≡ n + m → range_with_len a k ≡ range_with_len a n ++ range_with_len (a + n) m
range-split a zero m k e = rw (e, zero-add m, add-zero a) refl
range-split a (suc n) m zero e = absurd (omega (arith, e))
range-split a (suc n) m (suc k) e = ap (λ xs. a ∷ xs) (range-split (a + 1) n m k (omega (arith, e)) ∙ ap (λ (j : ℕ). range_with_len (a + 1) n ++ range_with_len j m) (omega arith))

filter_far : (p : ℕ → Bool) (a n : ℕ) → ((k : ℕ) → a ≤ k → p k ≡ false) → filter p (range_with_len a n) ≡ []
filter_far p a zero none = refl
filter_far p a (suc n) none = rw (none a (omega arith)) (filter_far p (a + 1) n (λ k h. none k (omega arith)))

near : (p : ℕ → Bool) → ((k : ℕ) → 448 ≤ k → p k ≡ false) → filter p (below 4160) ≡ filter p (range_with_len 0 448)
unfolding below
near p none =
    ap (filter p) (range-split 0 448 3712 4160 refl)
    ∙ (filter-append p (range_with_len 0 448) (range_with_len 448 3712)
    ∙ (ap (λ xs. filter p (range_with_len 0 448) ++ xs) (filter_far p 448 3712 none) ∙ append-nil (filter p (range_with_len 0 448))))

-- ---- the external ports
abbrev pub listed : List ℕ
listed =
    range_with_len 2 2 ++ range_with_len 64 7 ++ range_with_len 128 7 ++ range_with_len 192 7 ++ range_with_len 256 8 ++ range_with_len 320 7
    ++ range_with_len 384 8

near_listed : filter (is_external tables) (range_with_len 0 448) ≡ listed
unfolding is_cascade any_below
near_listed = refl

pub ports-are : site_ports ≡ listed
unfolding site_ports external_ports
ports-are =
    ap (λ (t : Shape). filter (is_external t) (below 4160)) site-is
    ∙ (near (is_external tables) (λ k h. rw (far k h) refl) ∙ near_listed)

-- ---- few cascade ports
few_near : (p : ℕ → Bool) → count_by p (range_with_len 0 448) ≤ 448
few_near p = count_by-le-length p (range_with_len 0 448)

pub few_cascades : (k : ℕ) → cascades_under site k ≤ 4094
unfolding cascades_under
few_cascades k =
    let p = is_cascade_under tables k in
    let here : count_by p (below 4160) ≡ count_by p (range_with_len 0 448)
    = sym (length-filter p (below 4160)) ∙ (ap length (near p (λ q h. none (nat_le 64 q) (is_port tables q) (is_cascade tables q) _ (far q h))) ∙ length-filter p (range_with_len 0 448)) in
    let few : count_by p (range_with_len 0 448) ≤ 448 = few_near p in
    let moved : count_by (is_cascade_under site k) (below 4160) ≡ count_by p (below 4160) = ap (λ (t : Shape). count_by (is_cascade_under t k) (below 4160)) site-is in
    omega (arith, here, few, moved)
  where
    none : (a b c d : Bool) → b ≡ false → (a && b && c && d) ≡ false
    none true b c d e = rw e refl
    none false b c d e = refl

pub length-ports : length site_ports ≡ 46
length-ports = ap length ports-are

-- ---- ports put one after another
pub ports-none : (xs : List ℕ) (a n : ℕ) → n ≡ 0 → xs ≡ xs ++ range_with_len a n
ports-none xs a n e = rw e (sym (append-nil xs))

pub ports-more : (xs ys zs : List ℕ) (a n k p : ℕ) → ys ≡ xs ++ range_with_len a n → zs ≡ ys ++ p ∷ [] → p ≡ a + n → k ≡ n + 1 → zs ≡ xs ++ range_with_len a k
ports-more xs ys zs a n k p before one at next =
    let size : suc n ≡ k = omega (arith, next) in
    one
    ∙ (ap (λ us. us ++ p ∷ []) before
    ∙ (append_assoc xs (range_with_len a n) (p ∷ [])
    ∙ ap (λ us. xs ++ us) (ap (λ (q : ℕ). range_with_len a n ++ q ∷ []) at ∙ (sym (range-more a n) ∙ ap (range_with_len a) size))))

pub ports-of : (start : List Command) → site_ports ≡ external_ports (shape_of (setup_with start))
unfolding site_ports
ports-of start = ap external_ports (sym (shape-is start))

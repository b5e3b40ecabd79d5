-- Commands that are put at the end one after the other.
use mathlib.Core.Path.{fun_ext}
use Rattle.std.proofs.Common.{◌≡◌, ℕ, suc, ◌+◌, ◌-◌, ◌<◌, ◌≤◌, Bool, List, [], ◌∷◌, ◌++◌, length, get_or, drop, map, refl, sym, ap, ◌∙◌, append_assoc, append-nil, arith, filter, true, false, cond}
use Rattle.std.specs.List.{flat_map, range_with_len}
use Rattle.std.proofs.lemmas.List.{drop_more, drop_all, map_push}
use Rattle.exb_model.specs.Ports.{below}
use Rattle.exb_model.specs.Tree.{Shape, is_external, external_ports}
use Rattle.exb_model.proofs.PortLemmas.{below-more}
use Rattle.exb_topology_tables.specs.declared.elements.VlanElement.{VlanElement}
use Rattle.exb_topology.specs.Checks.{listed}
use Rattle.exb_topology.specs.CommandViews.{Seen, set_vlan}

-- ---- what each element gives
pub parts_more : {X Y : Type 0} (f : X → List Y) (front total : List Y) (xs : List X) (i : ℕ) (x : X) → i < length xs → get_or xs i x ≡ x
    → front ++ flat_map f (drop i xs) ≡ total → (front ++ f x) ++ flat_map f (drop (i + 1) xs) ≡ total
parts_more f front total xs i x lt is so_far =
    let one : front ++ flat_map f (drop i xs) ≡ (front ++ f x) ++ flat_map f (drop (i + 1) xs) = rw (drop_more xs i x lt, is) (sym (append_assoc front (f x) (flat_map f (drop (i + 1) xs)))) in
    sym one ∙ so_far

pub parts_done : {X Y : Type 0} (f : X → List Y) (front total : List Y) (xs : List X) (i : ℕ) → length xs ≤ i → front ++ flat_map f (drop i xs) ≡ total → front ≡ total
parts_done f front total xs i le so_far =
    let one : front ++ flat_map f (drop i xs) ≡ front = rw (drop_all i xs le) (append-nil front) in
    sym one ∙ so_far

pub each_more : {X Y : Type 0} (f : X → Y) (front total : List Y) (xs : List X) (i : ℕ) (x : X) → i < length xs → get_or xs i x ≡ x
    → front ++ map f (drop i xs) ≡ total → (front ++ f x ∷ []) ++ map f (drop (i + 1) xs) ≡ total
each_more f front total xs i x lt is so_far =
    let one : front ++ map f (drop i xs) ≡ (front ++ f x ∷ []) ++ map f (drop (i + 1) xs) = rw (drop_more xs i x lt, is) (sym (append_assoc front (f x ∷ []) (map f (drop (i + 1) xs)))) in
    sym one ∙ so_far

pub each_done : {X Y : Type 0} (f : X → Y) (front total : List Y) (xs : List X) (i : ℕ) → length xs ≤ i → front ++ map f (drop i xs) ≡ total → front ≡ total
each_done f front total xs i le so_far =
    let one : front ++ map f (drop i xs) ≡ front = rw (drop_all i xs le) (append-nil front) in
    sym one ∙ so_far

-- ---- the VLANs of a range, n of them from k on
abbrev pub vlan_range : Shape → VlanElement → ℕ → ℕ → List Seen
vlan_range t v k n = map (λ m. set_vlan m (listed t v.tagged) (listed t v.untagged)) (range_with_len k n)

left : (k end : ℕ) → k < end → end - k ≡ suc (end - (k + 1))
left k end l = omega arith

pub range_goes_on : (t : Shape) (v : VlanElement) (front total : List Seen) (k end : ℕ) → k < end → front ++ vlan_range t v k (end - k) ≡ total
    → (front ++ set_vlan k (listed t v.tagged) (listed t v.untagged) ∷ []) ++ vlan_range t v (k + 1) (end - (k + 1)) ≡ total
range_goes_on t v front total k end lt so_far =
    let one : front ++ vlan_range t v k (end - k) ≡ (front ++ set_vlan k (listed t v.tagged) (listed t v.untagged) ∷ []) ++ vlan_range t v (k + 1) (end - (k + 1)) =
    rw (left k end lt) (sym (append_assoc front (set_vlan k (listed t v.tagged) (listed t v.untagged) ∷ []) (vlan_range t v (k + 1) (end - (k + 1))))) in
    sym one ∙ so_far

pub range_done : (t : Shape) (v : VlanElement) (front total : List Seen) (k end : ℕ) → end ≤ k → front ++ vlan_range t v k (end - k) ≡ total → front ≡ total
range_done t v front total k end le so_far =
    let z : end - k ≡ 0 = omega arith in
    let one : front ++ vlan_range t v k (end - k) ≡ front = rw z (append-nil front) in
    sym one ∙ so_far

-- ---- sets as tests
pub same_vlan : (v : ℕ) (a b c d : ℕ → Bool) → ((q : ℕ) → a q ≡ c q) → ((q : ℕ) → b q ≡ d q) → set_vlan v a b ≡ set_vlan v c d
same_vlan v a b c d tagged untagged = ap (λ f. set_vlan v f b) (fun_ext tagged) ∙ ap (λ f. set_vlan v c f) (fun_ext untagged)

pub same_test : (a b : ℕ → Bool) → ((q : ℕ) → a q ≡ b q) → a ≡ b
same_test a b same = fun_ext same

-- ---- the numbers that pass, one more
filter_push : (p : ℕ → Bool) (xs : List ℕ) (x : ℕ) → filter p (xs ++ x ∷ []) ≡ filter p xs ++ cond (p x) (x ∷ []) []
filter_push p [] x = refl_of (p x)
  where
    refl_of : (b : Bool) → cond b (x ∷ []) [] ≡ cond b (x ∷ []) []
    refl_of b = refl
filter_push p (y ∷ ys) x = by_test (filter_push p ys x) (p y)
  where
    by_test : filter p (ys ++ x ∷ []) ≡ filter p ys ++ cond (p x) (x ∷ []) [] → (b : Bool) → cond b (y ∷ filter p (ys ++ x ∷ [])) (filter p (ys ++ x ∷ [])) ≡ cond b (y ∷ filter p ys) (filter p ys) ++ cond (p x) (x ∷ []) []
    by_test rest true = ap (λ zs. y ∷ zs) rest
    by_test rest false = rest

pub filter_yes : (p : ℕ → Bool) (n : ℕ) → p n ≡ true → filter p (below (n + 1)) ≡ filter p (below n) ++ n ∷ []
filter_yes p n is = rw (below-more n, filter_push p (below n) n, is) refl

pub filter_no : (p : ℕ → Bool) (n : ℕ) → p n ≡ false → filter p (below (n + 1)) ≡ filter p (below n)
filter_no p n isnt = rw (below-more n, filter_push p (below n) n, isnt) (append-nil (filter p (below n)))

-- the names of those that pass
pub names_none : (f : ℕ → List ℕ) (p : ℕ → Bool) → [] ≡ map f (filter p (below 0))
unfolding below
names_none f p = refl

pub names_more : (f : ℕ → List ℕ) (p : ℕ → Bool) (n : ℕ) → map f (filter p (below (n + 1))) ≡ map f (filter p (below n)) ++ cond (p n) (f n ∷ []) []
names_more f p n = by_test (p n) refl
  where
    by_test : (b : Bool) → p n ≡ b → map f (filter p (below (n + 1))) ≡ map f (filter p (below n)) ++ cond (p n) (f n ∷ []) []
    by_test true is = rw (is, filter_yes p n is) (map_push f (filter p (below n)) n)
    by_test false isnt = rw (isnt, filter_no p n isnt) (sym (append-nil (map f (filter p (below n)))))

pub names_all : (f : ℕ → List ℕ) (t : Shape) (n : ℕ) → n ≡ 4160 → map f (filter (is_external t) (below n)) ≡ map f (external_ports t)
unfolding external_ports
names_all f t n all = ap (λ k. map f (filter (is_external t) (below k))) all

-- The arrivals of captures, and the first of them.
use Rattle.std.proofs.Common.{◌≡◌, ℕ, suc, ◌+◌, ◌≤◌, List, [], ◌∷◌, ◌++◌, length, map, max, refl, sym, ap, subst, ◌∙◌, arith, length-append}
use Rattle.std.specs.Prelude.{Some, flat_map}
use Rattle.std.specs.List.{AllByRecursion}
use Rattle.std.proofs.lemmas.Grind.{flat_map-append}
use Rattle.std.proofs.lemmas.List.{append-nil, map-append}
use Rattle.exb_model.specs.declared.arrival.Arrival.{Arrival}
use Rattle.exb_model.specs.Input.{Record, Coming, Captured, arrivals_from, by_moment}
use Rattle.exb_timeline.specs.Streams.{Stream, arrivals_of, next_moment, to_come}
use Rattle.exb_timeline.proofs.SortedByMoment.{NoneBefore, by_moment-first, length-by_moment}

-- no arrival is before this moment
abbrev pub NoneArrives : ℕ → List Arrival → Type 0
NoneArrives m = AllByRecursion (λ a. m ≤ a.moment)

pub none_arrives-append : (m : ℕ) (xs ys : List Arrival) → NoneArrives m xs → NoneArrives m ys → NoneArrives m (xs ++ ys)
none_arrives-append m [] ys left right = right
none_arrives-append m (x ∷ xs) ys left right = (left.0, none_arrives-append m xs ys left.1 right)

pub none_arrives-map : (m : ℕ) (xs : List Arrival) → NoneArrives m xs → NoneBefore m (map Captured xs)
none_arrives-map m [] all = tt
none_arrives-map m (x ∷ xs) all = (all.0, none_arrives-map m xs all.1)

-- the moments of one capture never fall
none_arrives-from : (m p n least : ℕ) (rs : List Record) → m ≤ least → NoneArrives m (arrivals_from p n least rs)
none_arrives-from m p n least [] low = tt
none_arrives-from m p n least (r ∷ rs) low =
    let later : m ≤ max least r.time = omega arith in
    (later, none_arrives-from m p (suc n) (max least r.time) rs later)

none_arrives-next_from : (m p n least : ℕ) (rs : List Record) → ((k : ℕ) → next_moment (arrivals_from p n least rs) ≡ Some k → m ≤ k) → NoneArrives m (arrivals_from p n least rs)
none_arrives-next_from m p n least [] low = tt
none_arrives-next_from m p n least (r ∷ rs) low = (low (max least r.time) refl, none_arrives-from m p (suc n) (max least r.time) rs (low (max least r.time) refl))

-- where the next isn't before a moment, none is
pub none_arrives-next : (m : ℕ) (s : Stream) → ((k : ℕ) → next_moment (arrivals_of s) ≡ Some k → m ≤ k) → NoneArrives m (arrivals_of s)
none_arrives-next m s low = none_arrives-next_from m s.port s.index s.least s.records low

-- the first to come is the first of a capture that has none of a capture before it, and no earlier of one behind it
pub to_come-first : (before after : List Stream) (s s' : Stream) (a : Arrival) → arrivals_of s ≡ a ∷ arrivals_of s' →
    NoneArrives (suc a.moment) (flat_map arrivals_of before) → NoneArrives a.moment (flat_map arrivals_of after) →
    to_come (before ++ s ∷ after) ≡ Captured a ∷ to_come (before ++ s' ∷ after)
unfolding to_come
to_come-first before after s s' a is later behind =
    let xs = flat_map arrivals_of before in
    let zs = flat_map arrivals_of after in
    let own : NoneArrives a.moment (a ∷ arrivals_of s') =
    (let P : List Arrival → Type 0 = λ ys. NoneArrives a.moment ys in
    subst P is (none_arrives-next a.moment s (λ k e. first k (sym e ∙ ap next_moment is)))) in
    ap (λ (ys : List Arrival). by_moment (map Captured ys)) (flat_map-append arrivals_of before (s ∷ after) ∙ ap (λ ys. xs ++ (ys ++ zs)) is)
    ∙ ap by_moment (map-append Captured xs (a ∷ (arrivals_of s' ++ zs)))
    ∙ by_moment-first (map Captured xs) (Captured a) (map Captured (arrivals_of s' ++ zs)) (none_arrives-map (suc a.moment) xs later)
    (none_arrives-map a.moment (arrivals_of s' ++ zs) (none_arrives-append a.moment (arrivals_of s') zs own.1 behind))
    ∙ ap (λ (ys : List Coming). Captured a ∷ by_moment ys) (sym (map-append Captured xs (arrivals_of s' ++ zs)))
    ∙ ap (λ (ys : List Arrival). Captured a ∷ by_moment (map Captured ys)) (sym (flat_map-append arrivals_of before (s' ∷ after)))
  where
    first : (k : ℕ) → Some k ≡ Some a.moment → a.moment ≤ k
    first k e = let same : k ≡ a.moment = cc in omega (arith, same)

-- ---- how many there are
length-arrivals : (p n least : ℕ) (rs : List Record) → length (arrivals_from p n least rs) ≡ length rs
length-arrivals p n least [] = refl
length-arrivals p n least (r ∷ rs) = ap suc (length-arrivals p (suc n) (max least r.time) rs)

length-captured : (xs : List Arrival) → length (map Captured xs) ≡ length xs
length-captured [] = refl
length-captured (x ∷ xs) = ap suc (length-captured xs)

length-to_come : (streams : List Stream) → length (to_come streams) ≡ length (flat_map arrivals_of streams)
unfolding to_come
length-to_come streams = length-by_moment (map Captured (flat_map arrivals_of streams)) ∙ length-captured (flat_map arrivals_of streams)

-- one capture more
pub length-to_come_more : (streams : List Stream) (s : Stream) → length (to_come (streams ++ s ∷ [])) ≡ length (to_come streams) + length s.records
length-to_come_more streams s =
    length-to_come (streams ++ s ∷ []) ∙ ap length (flat_map-append arrivals_of streams (s ∷ []) ∙ ap (λ ys. flat_map arrivals_of streams ++ ys) (append-nil (arrivals_of s)))
    ∙ length-append (flat_map arrivals_of streams) (arrivals_of s)
    ∙ rw (length-to_come streams, length-arrivals s.port s.index s.least s.records) refl

none_in-all : (streams : List Stream) → AllByRecursion (λ s. arrivals_of s ≡ []) streams → flat_map arrivals_of streams ≡ []
none_in-all [] all = refl
none_in-all (s ∷ streams) all = rw (all.0, none_in-all streams all.1) refl

-- nothing comes of captures at their ends
pub to_come-none : (streams : List Stream) → AllByRecursion (λ s. arrivals_of s ≡ []) streams → to_come streams ≡ []
unfolding to_come
to_come-none streams all = ap (λ (ys : List Arrival). by_moment (map Captured ys)) (none_in-all streams all)

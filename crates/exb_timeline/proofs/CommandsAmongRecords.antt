-- Commands among the records of captures.
use Rattle.std.proofs.Common.{◌≡◌, ℕ, suc, ◌+◌, ◌*◌, ◌^◌, ◌<◌, ◌≤◌, Bool, true, false, cond, List, [], ◌∷◌, length, drop, get_or, map, refl, ap, sym, subst, ◌∙◌, arith, AllPairs, length-drop, inl, inr}
use Rattle.std.specs.Prelude.{nat_lt, nat_le, Some, None}
use Rattle.std.specs.List.{AllByRecursion}
use Rattle.std.proofs.lemmas.List.{drop_more, get_or-drop}
use Rattle.std.proofs.lemmas.Bool.{lt-ltb, le-ltb, leb-true}
use Rattle.std.proofs.lemmas.Bool.Decides.{leb_tells}
use Rattle.exb_model.specs.declared.setup.Timed.{Timed}
use Rattle.exb_model.specs.Input.{Coming, Ordered, given_by, moment_of, second_of, put_in_order, commands_from}
use Rattle.exb_timeline.specs.MergeOrder.{ToPlay, with_commands, commands_left, still_to_come, first_moment, comes_first}
use Rattle.exb_timeline.proofs.SortedByMoment.{NoneBefore}

-- the first isn't before this moment
abbrev FirstAfter : ℕ → List Coming → Type 0
FirstAfter m [] = Unit {0}
FirstAfter m (x ∷ xs) = m ≤ moment_of x

first-put : (m : ℕ) (x : Coming) (ys : List Coming) → m ≤ moment_of x → FirstAfter m ys → FirstAfter m (put_in_order x ys)
first-put m x [] h k = h
first-put m x (y ∷ ys) h k = by_test (nat_lt (moment_of y) (moment_of x))
  where
    by_test : (b : Bool) → FirstAfter m (cond b (y ∷ put_in_order x ys) (x ∷ y ∷ ys))
    by_test true = k
    by_test false = h

first-with : (m : ℕ) (cs ys : List Coming) → NoneBefore m cs → FirstAfter m ys → FirstAfter m (with_commands cs ys)
first-with m [] ys all k = k
first-with m (c ∷ cs) ys all k = first-put m c (with_commands cs ys) all.0 (first-with m cs ys all.1 k)

put-here : (x : Coming) (ys : List Coming) → FirstAfter (moment_of x) ys → put_in_order x ys ≡ x ∷ ys
put-here x [] h = refl
put-here x (y ∷ ys) h = rw (le-ltb (moment_of y) (moment_of x) h) refl

-- a command comes first
pub command-first : (c : Coming) (cs ys : List Coming) → NoneBefore (moment_of c) cs → comes_first (Some (moment_of c)) (first_moment ys) ≡ true →
    with_commands (c ∷ cs) ys ≡ c ∷ with_commands cs ys
command-first c cs ys all first = put-here c (with_commands cs ys) (first-with (moment_of c) cs ys all (after ys first))
  where
    after : (zs : List Coming) → comes_first (Some (moment_of c)) (first_moment zs) ≡ true → FirstAfter (moment_of c) zs
    after [] h = tt
    after (z ∷ zs) h = leb-true (moment_of c) (moment_of z) h

-- a record does
pub record-first : (cs : List Coming) (r : Coming) (ys : List Coming) → NoneBefore (suc (moment_of r)) cs → with_commands cs (r ∷ ys) ≡ r ∷ with_commands cs ys
record-first [] r ys all = refl
record-first (c ∷ cs) r ys all =
    let later : moment_of r < moment_of c = omega (arith, all.0) in
    ap (put_in_order c) (record-first cs r ys all.1) ∙ rw (lt-ltb (moment_of r) (moment_of c) later) refl

-- ---- commands in the order of their seconds
abbrev pub Rising : List Timed → Type 0
Rising cs = AllPairs (λ c d. c.at ≤ d.at) cs

pub rising-drop : (n : ℕ) (cs : List Timed) → Rising cs → Rising (drop n cs)
rising-drop n cs rising a b d low within =
    let size = length-drop n cs in
    let one = ap (λ (x : Timed). x.at) (get_or-drop n cs a d) in
    let other = ap (λ (x : Timed). x.at) (get_or-drop n cs b d) in
    let own = rising (n + a) (n + b) d (omega (arith, low)) (omega (arith, within, size)) in
    omega (arith, one, other, own)

all-from : {X : Type 0} (P : X → Type 0) (xs : List X) → ((k : ℕ) (d : X) → k < length xs → P (get_or xs k d)) → AllByRecursion P xs
all-from P [] all = tt
all-from P (x ∷ xs) all = (all 0 x (omega arith), all-from P xs (λ k d low. all (suc k) d (omega (arith, low))))

first-least : (c : Timed) (cs : List Timed) → Rising (c ∷ cs) → AllByRecursion (λ d. c.at ≤ d.at) cs
first-least c cs rising = all-from (λ d. c.at ≤ d.at) cs (λ k d low. rising 0 (suc k) d (omega arith) (omega (arith, low)))

commands-after : (start second n : ℕ) (cs : List Timed) → AllByRecursion (λ d. second ≤ d.at) cs → NoneBefore ((start + second) * 1000000000) (commands_from start n (map given_by cs))
commands-after start second n [] all = tt
commands-after start second n (c ∷ cs) all = (omega (arith, all.0), commands-after start second (suc n) cs all.1)

-- the commands behind the first of some
pub rising-commands : (start n : ℕ) (c : Timed) (cs : List Timed) → Rising (c ∷ cs) → NoneBefore ((start + c.at) * 1000000000) (commands_from start (suc n) (map given_by cs))
rising-commands start n c cs rising = commands-after start c.at (suc n) cs (first-least c cs rising)

none-weaker : (m k : ℕ) (xs : List Coming) → m ≤ k → NoneBefore k xs → NoneBefore m xs
none-weaker m k [] low all = tt
none-weaker m k (x ∷ xs) low all = (omega (arith, low, all.0), none-weaker m k xs low all.1)

-- ---- what comes next
-- the commands that are left, where one is
pub left-is : (a : ToPlay) (c : Timed) → a.taken < length a.commands → c ≡ get_or a.commands a.taken c →
    commands_left a ≡ Ordered ((a.start + c.at) * 1000000000) (a.taken + 1) ∷ commands_left (record a { taken = a.taken + 1 })
left-is a c low is =
    ap (λ (cs : List Timed). commands_from a.start (a.taken + 1) (map given_by cs)) (drop_more a.commands a.taken c low ∙ ap (λ (x : Timed). x ∷ drop (a.taken + 1) a.commands) (sym is))
    ∙ ap (λ n. Ordered ((a.start + c.at) * 1000000000) (a.taken + 1) ∷ commands_from a.start n (map given_by (drop (a.taken + 1) a.commands))) next
  where
    next : suc (a.taken + 1) ≡ a.taken + 1 + 1
    next = omega arith

pub later : (a : ToPlay) (c : Timed) → Rising a.commands → a.taken < length a.commands → c ≡ get_or a.commands a.taken c →
    NoneBefore ((a.start + c.at) * 1000000000) (commands_left (record a { taken = a.taken + 1 }))
later a c rising low is =
    let all : Rising (c ∷ drop (a.taken + 1) a.commands) =
    subst Rising (drop_more a.commands a.taken c low ∙ ap (λ (x : Timed). x ∷ drop (a.taken + 1) a.commands) (sym is)) (rising-drop a.taken a.commands rising) in
    commands-after a.start c.at (a.taken + 1 + 1) (drop (a.taken + 1) a.commands) (first-least c (drop (a.taken + 1) a.commands) all)

pub command-next : (a : ToPlay) (c : Timed) → Rising a.commands → a.taken < length a.commands → c ≡ get_or a.commands a.taken c →
    comes_first (first_moment (commands_left a)) (first_moment a.records) ≡ true →
    still_to_come a ≡ Ordered ((a.start + c.at) * 1000000000) (a.taken + 1) ∷ still_to_come (record a { taken = a.taken + 1 })
unfolding still_to_come
command-next a c rising low is first =
    let left = left-is a c low is in
    ap (λ xs. with_commands xs a.records) left
    ∙ command-first (Ordered ((a.start + c.at) * 1000000000) (a.taken + 1)) (commands_left (record a { taken = a.taken + 1 })) a.records (later a c rising low is)
    (ap (λ (xs : List Coming). comes_first (first_moment xs) (first_moment a.records)) (sym left) ∙ first)

pub not-first : (k m : ℕ) → nat_le k m ≡ false → m < k
not-first k m h =
    elim (leb_tells k m) [
      | inl low ↦ absurd (let e : true ≡ false = sym low.0 ∙ h in cc)
      | inr high ↦ high.1
    ]

pub record-next : (a : ToPlay) (r : Coming) (rest : List Coming) → Rising a.commands → a.records ≡ r ∷ rest →
    comes_first (first_moment (commands_left a)) (first_moment a.records) ≡ false → still_to_come a ≡ r ∷ still_to_come (record a { records = rest })
unfolding still_to_come
record-next a r rest rising is first =
    ap (with_commands (commands_left a)) is ∙ record-first (commands_left a) r rest (all (drop a.taken a.commands) refl)
  where
    all : (cs : List Timed) → drop a.taken a.commands ≡ cs → NoneBefore (suc (moment_of r)) (commands_from a.start (a.taken + 1) (map given_by (drop a.taken a.commands)))
    all [] e = rw e tt
    all (c ∷ cs) e =
        let rises : Rising (c ∷ cs) = subst Rising e (rising-drop a.taken a.commands rising) in
        let after : comes_first (first_moment (commands_from a.start (a.taken + 1) (map given_by (c ∷ cs)))) (first_moment (r ∷ rest)) ≡ false =
        (ap (λ (xs : List Coming). comes_first (first_moment (commands_from a.start (a.taken + 1) (map given_by (c ∷ cs)))) (first_moment xs)) (sym is)
        ∙ ap (λ (ds : List Timed). comes_first (first_moment (commands_from a.start (a.taken + 1) (map given_by ds))) (first_moment a.records)) (sym e) ∙ first) in
        let less : moment_of r < (a.start + c.at) * 1000000000 = not-first ((a.start + c.at) * 1000000000) (moment_of r) after in
        rw e (
          less,
          none-weaker (suc (moment_of r)) ((a.start + c.at) * 1000000000) (commands_from a.start (suc (a.taken + 1)) (map given_by cs)) less
              (commands-after a.start c.at (suc (a.taken + 1)) cs (first-least c cs rises)),
        )

pub none-left : (a : ToPlay) → a.records ≡ [] → comes_first (first_moment (commands_left a)) (first_moment a.records) ≡ false → still_to_come a ≡ []
unfolding still_to_come
none-left a is first = ap (with_commands (commands_left a)) is ∙ none (commands_left a) (ap (λ (xs : List Coming). comes_first (first_moment (commands_left a)) (first_moment xs)) (sym is) ∙ first)
  where
    none : (cs : List Coming) → comes_first (first_moment cs) None ≡ false → with_commands cs [] ≡ []
    none [] h = refl
    none (c ∷ cs) h = absurd (let e : true ≡ false = h in cc)

plus-zero : (n : ℕ) → n + 0 ≡ n
plus-zero n = omega arith

-- its moment, where it is a command and where it is none
pub moment-command : (a : ToPlay) → Rising a.commands → comes_first (first_moment (commands_left a)) (first_moment a.records) ≡ true → first_moment (commands_left a) ≡ first_moment (still_to_come a)
moment-command a rising first = by_left (drop a.taken a.commands) refl
  where
    by_left : (cs : List Timed) → drop a.taken a.commands ≡ cs → first_moment (commands_left a) ≡ first_moment (still_to_come a)
    by_left [] e =
        absurd (let none = ap (λ (cs : List Timed). comes_first (first_moment (commands_from a.start (a.taken + 1) (map given_by cs))) (first_moment a.records)) e in
        let same : false ≡ true = sym none ∙ first in cc)
    by_left (c ∷ cs) e =
        let size = length-drop a.taken a.commands in
        let some = ap (λ (xs : List Timed). length xs) e in
        let low : a.taken < length a.commands = omega (arith, size, some) in
        let own : c ≡ get_or a.commands a.taken c = sym (ap (λ (xs : List Timed). get_or xs 0 c) e) ∙ get_or-drop a.taken a.commands 0 c ∙ ap (λ k. get_or a.commands k c) (plus-zero a.taken) in
        ap first_moment (left-is a c low own) ∙ sym (ap first_moment (command-next a c rising low own first))

pub moment-record : (a : ToPlay) → Rising a.commands → comes_first (first_moment (commands_left a)) (first_moment a.records) ≡ false → first_moment a.records ≡ first_moment (still_to_come a)
moment-record a rising first = by_records a.records refl
  where
    by_records : (rs : List Coming) → a.records ≡ rs → first_moment a.records ≡ first_moment (still_to_come a)
    by_records [] e = ap first_moment e ∙ sym (ap first_moment (none-left a e first))
    by_records (r ∷ rest) e = ap first_moment e ∙ sym (ap first_moment (record-next a r rest rising e first))

-- ---- seconds
pub second-after : (start second : ℕ) → second_of ((start + second) * 1000000000) ≡ start + second
second-after start second = omega arith

pub second-below : (m : ℕ) → m < 2 ^ 32 * 1_000_000_000 → second_of m < 2 ^ 32
second-below m h = omega (arith, h)

pub second-within : (start m : ℕ) → m < (start + 2 ^ 32) * 1000000000 → second_of m < start + 2 ^ 32
second-within start m h = omega (arith, h)

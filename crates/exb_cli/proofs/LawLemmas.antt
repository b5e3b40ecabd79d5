-- The words in other words.
use Rattle.std.proofs.Common.{◌≡◌, ℕ, ◌+◌, ◌^◌, ◌<◌, ◌≤◌, ◌==◌, ◌&&◌, Bool, true, false, cond, if◌then◌else◌, nat_lt, List, [], ◌∷◌, length, Option, Some, None, option_map, option_and_then, decimal, sum_by, zero-add, nat_le, refl, sym, ap, ◌∙◌, arith, eq-eqb}
use Rattle.std.specs.Char.{is_ascii_digit}
use Rattle.std.specs.Str.{bytes_eq, all_ascii_digits}
use Rattle.std.specs.Str.Parse.{digits_value}
use Rattle.std.proofs.lemmas.Bool.{eqb-true, lt-ltb, le-leb, and_parts, false≢true}
use Rattle.std.proofs.lemmas.Bool.Decides.{nat_tests}
use Rattle.std.proofs.lemmas.List.Sums.{sum_by-cons}
use Rattle.std.proofs.lemmas.Slice.Eq.{bytes_eq-Decides}
use Rattle.std.proofs.lemmas.Str.Parse.{IsNumeralModel, numerals_by_value, tells_all_ascii_digits}
use Rattle.std.proofs.lemmas.Fmt.{digits_decimal, digits_value-decimal, decimal_nonempty, length-decimal-le}
use Rattle.std.specs.Prelude.{IfSome, codes}
use Rattle.exb_cli.specs.CommandLines.{Ask, Run, Check, Make, Audit, Net, Item, Name, Trace, Counters, Seed, if_short, number_in, item_of, items_of, with_item, names_in, traces_in, counters_in, seeds_in, at_most_one, run_of, name_alone, check_of, make_of, audit_of, net_of, words_of}
use Rattle.exb_cli.specs.ParserSteps.{with_all, gathered, nothing_said, run_from, name_from, net_from}
use Rattle.exb_cli.proofs.InvocationLemmas.{at_once, with_all-is, run-is, name-is, check-is, make-is, audit-is, net-is}
use Rattle.exb_cli.specs.Laws.{SaySame, OrderIsFree, DashesEndOptions, WrittenIsRead, written}

-- ---- numbers as they are written
own : IsNumeralModel (λ ds. all_ascii_digits ds ≡ true) (digits_value 10)
own = numerals_by_value _ tells_all_ascii_digits

number-decimal : (n : ℕ) → n < 2 ^ 64 → number_in (decimal n) ≡ Some n
unfolding number_in
number-decimal n h =
    by_parts (nat_lt 0 (length (decimal n))) (nat_le (length (decimal n)) 20) (all_ascii_digits (decimal n)) (digits_value 10 (decimal n))
    (lt-ltb 0 (length (decimal n)) (decimal_nonempty n h)) (le-leb (length (decimal n)) 20 (length-decimal-le 20 n (omega arith) (omega arith) h)) (digits_decimal own n h) (digits_value-decimal own n h)
  where
    by_parts : (a b c : Bool) (m : ℕ) → a ≡ true → b ≡ true → c ≡ true → m ≡ n → (if a && (b && c) then if_short m else None) ≡ Some n
    by_parts true true true m ea eb ec e = ap if_short e ∙ ap (λ (x : Bool). if x then Some n else None) (lt-ltb n (2 ^ 64) h)
    by_parts true true false m ea eb ec e = absurd (false≢true ec)
    by_parts true false c m ea eb ec e = absurd (false≢true eb)
    by_parts false b c m ea eb ec e = absurd (false≢true ea)

-- a word that doesn't begin with `-` is a name
plain_item : (c : ℕ) (cs : List ℕ) → (c == 45) ≡ false → item_of (c ∷ cs) ≡ Some (Name (c ∷ cs))
unfolding item_of
plain_item c [] e = rw e refl
plain_item c (d ∷ cs) e = rw e refl

plain_items : (c : ℕ) (cs : List ℕ) → (c == 45) ≡ false → items_of ((c ∷ cs) ∷ []) ≡ Some (Name (c ∷ cs) ∷ [])
unfolding items_of
plain_items c cs e = ap (λ (b : Bool). if b && bytes_eq cs (45 ∷ []) then Some [] else with_item (item_of (c ∷ cs)) (Some [])) e ∙ ap (λ o. with_item o (Some [])) (plain_item c cs e)

digit-first : (ds : List ℕ) → all_ascii_digits ds ≡ true → 0 < length ds → items_of (ds ∷ []) ≡ Some (Name ds ∷ [])
digit-first [] all some = absurd (omega arith)
digit-first (c ∷ cs) all some = plain_items c cs (no_dash c (and_parts _ (all_ascii_digits cs) all).0)
  where
    no_dash : (c : ℕ) → is_ascii_digit c ≡ true → (c == 45) ≡ false
    no_dash c h = grind (arith, nat_tests)

run_read : (t : List ℕ) (trace counts : Bool) (seed : Option ℕ) → IfSome seed (λ n. n < 2 ^ 64) →
    words_of (written (Run t (record { trace = trace; counters = counts; seed = seed }))) ≡ Some (Run t (record { trace = trace; counters = counts; seed = seed }))
unfolding words_of items_of item_of run_of names_in traces_in counters_in seeds_in
run_read t false false None short = refl
run_read t false true None short = refl
run_read t true false None short = refl
run_read t true true None short = refl
run_read t false false (Some n) short = ap (λ o. option_and_then run_of (with_item (option_map Seed o) (Some (Name t ∷ [])))) (number-decimal n short)
run_read t false true (Some n) short = ap (λ o. option_and_then run_of (with_item (Some Counters) (with_item (option_map Seed o) (Some (Name t ∷ []))))) (number-decimal n short)
run_read t true false (Some n) short = ap (λ o. option_and_then run_of (with_item (Some Trace) (with_item (option_map Seed o) (Some (Name t ∷ []))))) (number-decimal n short)
run_read t true true (Some n) short = ap (λ o. option_and_then run_of (with_item (Some Trace) (with_item (Some Counters) (with_item (option_map Seed o) (Some (Name t ∷ [])))))) (number-decimal n short)

pub written_read : WrittenIsRead
unfolding words_of items_of item_of check_of make_of audit_of net_of name_alone names_in traces_in counters_in seeds_in
written_read (Run t options) short = run_read t options.trace options.counters options.seed short
written_read (Check t) short = refl
written_read (Make n) short =
    ap (option_and_then make_of) (digit-first (decimal n) (digits_decimal own n short) (decimal_nonempty n short)) ∙ ap (option_map Make) (number-decimal n short)
written_read (Audit t) short = refl
written_read (Net f true) short = refl
written_read (Net f false) short = refl

pub dashes_end : DashesEndOptions
unfolding words_of items_of check_of name_alone
dashes_end word = refl

-- ---- the order is free
-- a test that tells one from another
module _ {A : Type 0} (eq : A → A → Bool) (tells : (x y : A) → eq x y ≡ true → x ≡ y) (self : (x : A) → eq x x ≡ true) where
  weigh : A → A → ℕ
  weigh x y = cond (eq x y) 1 0

  same_one : (x y : A) → sum_by (weigh x) (x ∷ []) ≡ sum_by (weigh x) (y ∷ []) → x ≡ y
  unfolding weigh
  same_one x y h = tells x y (by_test (eq x y) (sym (sum_by-cons (weigh x) y []) ∙ (sym h ∙ (sum_by-cons (weigh x) x [] ∙ ap (λ (b : Bool). cond b 1 0 + 0) (self x)))))
    where
      by_test : (b : Bool) → cond b 1 0 + 0 ≡ 1 → b ≡ true
      by_test true e = refl
      by_test false e = absurd (omega (arith, e))

  count_two : (x y : A) (rest : List A) → 2 ≤ sum_by (λ (z : A). 1) (x ∷ y ∷ rest)
  count_two x y rest =
      let a = sum_by-cons (λ (z : A). 1) x (y ∷ rest) in
      let b = sum_by-cons (λ (z : A). 1) y rest in
      omega (arith, a, b)

  count_one : (x : A) → sum_by (λ (z : A). 1) (x ∷ []) ≡ 1
  count_one x = sum_by-cons (λ (z : A). 1) x []

  same-at_most_one : (xs ys : List A) → ((f : A → ℕ) → sum_by f xs ≡ sum_by f ys) → at_most_one xs ≡ at_most_one ys
  same-at_most_one [] [] same = refl
  same-at_most_one [] (y ∷ []) same = absurd (let s : 0 ≡ sum_by (λ (z : A). 1) (y ∷ []) = same (λ z. 1) in let n = count_one y in omega (arith, s, n))
  same-at_most_one [] (y ∷ z ∷ rest) same = absurd (let s : 0 ≡ sum_by (λ (z : A). 1) (y ∷ z ∷ rest) = same (λ z. 1) in let n = count_two y z rest in omega (arith, s, n))
  same-at_most_one (x ∷ []) [] same = absurd (let s : sum_by (λ (z : A). 1) (x ∷ []) ≡ 0 = same (λ z. 1) in let n = count_one x in omega (arith, s, n))
  same-at_most_one (x ∷ []) (y ∷ []) same = ap (λ z. Some (Some z)) (same_one x y (same (weigh x)))
  same-at_most_one (x ∷ []) (y ∷ z ∷ rest) same =
      absurd (let s : sum_by (λ (z : A). 1) (x ∷ []) ≡ sum_by (λ (z : A). 1) (y ∷ z ∷ rest) = same (λ z. 1) in let m = count_one x in let n = count_two y z rest in omega (arith, s, m, n))
  same-at_most_one (w ∷ x ∷ xs) [] same = absurd (let s : sum_by (λ (z : A). 1) (w ∷ x ∷ xs) ≡ 0 = same (λ z. 1) in let n = count_two w x xs in omega (arith, s, n))
  same-at_most_one (w ∷ x ∷ xs) (y ∷ []) same =
      absurd (let s : sum_by (λ (z : A). 1) (w ∷ x ∷ xs) ≡ sum_by (λ (z : A). 1) (y ∷ []) = same (λ z. 1) in let m = count_one y in let n = count_two w x xs in omega (arith, s, m, n))
  same-at_most_one (w ∷ x ∷ xs) (y ∷ z ∷ rest) same = refl

-- what is said of one sort
weigh_name : (List ℕ → ℕ) → Item → ℕ
weigh_name f (Name w) = f w
weigh_name f Trace = 0
weigh_name f Counters = 0
weigh_name f (Seed n) = 0

weigh_trace : (Unit {0} → ℕ) → Item → ℕ
weigh_trace f (Name w) = 0
weigh_trace f Trace = f tt
weigh_trace f Counters = 0
weigh_trace f (Seed n) = 0

weigh_counters : (Unit {0} → ℕ) → Item → ℕ
weigh_counters f (Name w) = 0
weigh_counters f Trace = 0
weigh_counters f Counters = f tt
weigh_counters f (Seed n) = 0

weigh_seed : (ℕ → ℕ) → Item → ℕ
weigh_seed f (Name w) = 0
weigh_seed f Trace = 0
weigh_seed f Counters = 0
weigh_seed f (Seed n) = f n

sum-names : (f : List ℕ → ℕ) (is : List Item) → sum_by (weigh_name f) is ≡ sum_by f (names_in is)
unfolding names_in weigh_name
sum-names f [] = refl
sum-names f (Name w ∷ is) = sum_by-cons (weigh_name f) (Name w) is ∙ (ap (λ (n : ℕ). f w + n) (sum-names f is) ∙ sym (sum_by-cons f w (names_in is)))
sum-names f (Trace ∷ is) = sum_by-cons (weigh_name f) Trace is ∙ (zero-add (sum_by (weigh_name f) is) ∙ sum-names f is)
sum-names f (Counters ∷ is) = sum_by-cons (weigh_name f) Counters is ∙ (zero-add (sum_by (weigh_name f) is) ∙ sum-names f is)
sum-names f (Seed n ∷ is) = sum_by-cons (weigh_name f) (Seed n) is ∙ (zero-add (sum_by (weigh_name f) is) ∙ sum-names f is)

sum-traces : (f : Unit {0} → ℕ) (is : List Item) → sum_by (weigh_trace f) is ≡ sum_by f (traces_in is)
unfolding traces_in weigh_trace
sum-traces f [] = refl
sum-traces f (Name w ∷ is) = sum_by-cons (weigh_trace f) (Name w) is ∙ (zero-add (sum_by (weigh_trace f) is) ∙ sum-traces f is)
sum-traces f (Trace ∷ is) = sum_by-cons (weigh_trace f) Trace is ∙ (ap (λ (n : ℕ). f tt + n) (sum-traces f is) ∙ sym (sum_by-cons f tt (traces_in is)))
sum-traces f (Counters ∷ is) = sum_by-cons (weigh_trace f) Counters is ∙ (zero-add (sum_by (weigh_trace f) is) ∙ sum-traces f is)
sum-traces f (Seed n ∷ is) = sum_by-cons (weigh_trace f) (Seed n) is ∙ (zero-add (sum_by (weigh_trace f) is) ∙ sum-traces f is)

sum-counters : (f : Unit {0} → ℕ) (is : List Item) → sum_by (weigh_counters f) is ≡ sum_by f (counters_in is)
unfolding counters_in weigh_counters
sum-counters f [] = refl
sum-counters f (Name w ∷ is) = sum_by-cons (weigh_counters f) (Name w) is ∙ (zero-add (sum_by (weigh_counters f) is) ∙ sum-counters f is)
sum-counters f (Trace ∷ is) = sum_by-cons (weigh_counters f) Trace is ∙ (zero-add (sum_by (weigh_counters f) is) ∙ sum-counters f is)
sum-counters f (Counters ∷ is) = sum_by-cons (weigh_counters f) Counters is ∙ (ap (λ (n : ℕ). f tt + n) (sum-counters f is) ∙ sym (sum_by-cons f tt (counters_in is)))
sum-counters f (Seed n ∷ is) = sum_by-cons (weigh_counters f) (Seed n) is ∙ (zero-add (sum_by (weigh_counters f) is) ∙ sum-counters f is)

sum-seeds : (f : ℕ → ℕ) (is : List Item) → sum_by (weigh_seed f) is ≡ sum_by f (seeds_in is)
unfolding seeds_in weigh_seed
sum-seeds f [] = refl
sum-seeds f (Name w ∷ is) = sum_by-cons (weigh_seed f) (Name w) is ∙ (zero-add (sum_by (weigh_seed f) is) ∙ sum-seeds f is)
sum-seeds f (Trace ∷ is) = sum_by-cons (weigh_seed f) Trace is ∙ (zero-add (sum_by (weigh_seed f) is) ∙ sum-seeds f is)
sum-seeds f (Counters ∷ is) = sum_by-cons (weigh_seed f) Counters is ∙ (zero-add (sum_by (weigh_seed f) is) ∙ sum-seeds f is)
sum-seeds f (Seed n ∷ is) = sum_by-cons (weigh_seed f) (Seed n) is ∙ (ap (λ (m : ℕ). f n + m) (sum-seeds f is) ∙ sym (sum_by-cons f n (seeds_in is)))

-- so what is gathered is the same
all_same : (is js : List Item) → SaySame is js → with_all is nothing_said ≡ with_all js nothing_said
all_same is js same =
    let names = same-at_most_one bytes_eq (λ x y h. (bytes_eq-Decides x y).0 h) (λ x. (bytes_eq-Decides x x).1 refl) (names_in is) (names_in js)
    (λ f. sym (sum-names f is) ∙ (same (weigh_name f) ∙ sum-names f js)) in
    let traces = same-at_most_one (λ x y. true) (λ x y h. refl) (λ x. refl) (traces_in is) (traces_in js) (λ f. sym (sum-traces f is) ∙ (same (weigh_trace f) ∙ sum-traces f js)) in
    let counts = same-at_most_one (λ x y. true) (λ x y h. refl) (λ x. refl) (counters_in is) (counters_in js) (λ f. sym (sum-counters f is) ∙ (same (weigh_counters f) ∙ sum-counters f js)) in
    let seeds = same-at_most_one ◌==◌ (λ x y h. eqb-true x y h) (λ x. eq-eqb x x refl) (seeds_in is) (seeds_in js) (λ f. sym (sum-seeds f is) ∙ (same (weigh_seed f) ∙ sum-seeds f js)) in
    with_all-is is None false false None
    ∙ (ap (λ n. at_once n (at_most_one (traces_in is)) (at_most_one (counters_in is)) (at_most_one (seeds_in is))) names
    ∙ (ap (λ t. at_once (at_most_one (names_in js)) t (at_most_one (counters_in is)) (at_most_one (seeds_in is))) traces
    ∙ (ap (λ c. at_once (at_most_one (names_in js)) (at_most_one (traces_in js)) c (at_most_one (seeds_in is))) counts
    ∙ (ap (λ s. at_once (at_most_one (names_in js)) (at_most_one (traces_in js)) (at_most_one (counters_in js)) s) seeds ∙ sym (with_all-is js None false false None)))))

gathered_same : (ws vs : List (List ℕ)) (is js : List Item) → items_of ws ≡ Some is → items_of vs ≡ Some js → SaySame is js → gathered ws nothing_said ≡ gathered vs nothing_said
unfolding gathered
gathered_same ws vs is js said again same =
    ap (option_and_then (λ xs. with_all xs nothing_said)) said ∙ (all_same is js same ∙ sym (ap (option_and_then (λ xs. with_all xs nothing_said)) again))

-- what the words ask for by the first of them
abbrev by_first : List ℕ → (run check make audit net : Option Ask) → Option Ask
by_first w run check make audit net =
    if bytes_eq w (codes "run") then run
    else (if bytes_eq w (codes "check") then check
    else (if bytes_eq w (codes "make") then make
    else (if bytes_eq w (codes "audit") then audit
    else (if bytes_eq w (codes "net") then net else None))))

by-first : (w : List ℕ) (ws : List (List ℕ)) →
    words_of (w ∷ ws) ≡ by_first w (option_and_then run_of (items_of ws)) (option_and_then check_of (items_of ws)) (option_and_then make_of (items_of ws)) (option_and_then audit_of (items_of ws)) (option_and_then net_of (items_of ws))
unfolding words_of
by-first w ws = refl

first_same : (w : List ℕ) (r s c d m n a b x y : Option Ask) → r ≡ s → c ≡ d → m ≡ n → a ≡ b → x ≡ y → by_first w r c m a x ≡ by_first w s d n b y
first_same w r s c d m n a b x y er ec em ea ex =
    ap (λ o. by_first w o c m a x) er ∙ (ap (λ o. by_first w s o m a x) ec ∙ (ap (λ o. by_first w s d o a x) em ∙ (ap (λ o. by_first w s d n o x) ea ∙ ap (λ o. by_first w s d n b o) ex)))

pub order_free : OrderIsFree
order_free first ws vs is js said again same =
    let all = gathered_same ws vs is js said again same in
    let names : option_and_then name_alone (items_of ws) ≡ option_and_then name_alone (items_of vs) = sym (name-is ws) ∙ (ap (option_and_then name_from) all ∙ name-is vs) in
    by-first first ws
    ∙ (first_same first _ _ _ _ _ _ _ _ _ _
    (sym (run-is ws) ∙ (ap (option_and_then run_from) all ∙ run-is vs))
    (sym (check-is (items_of ws)) ∙ (ap (option_map Check) names ∙ check-is (items_of vs)))
    (sym (make-is (items_of ws)) ∙ (ap (λ o. option_map Make (option_and_then number_in o)) names ∙ make-is (items_of vs)))
    (sym (audit-is (items_of ws)) ∙ (ap (option_map Audit) names ∙ audit-is (items_of vs)))
    (sym (net-is ws) ∙ (ap (option_and_then net_from) all ∙ net-is vs))
    ∙ sym (by-first first vs))

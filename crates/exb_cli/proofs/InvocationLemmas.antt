-- What is gathered tells what is asked for.
use Rattle.std.proofs.Common.{◌≡◌, ℕ, Bool, true, false, ◌++◌, if◌then◌else◌, List, [], ◌∷◌, Option, Some, None, is_some, option_map, option_and_then, codes, Bor, refl, sym, ap, ◌∙◌}
use Rattle.std.specs.Option.{option_to_list}
use Rattle.std.specs.Str.{bytes_eq}
use Rattle.std.proofs.lemmas.Bool.{false≢true, false_from_ne_true}
use Rattle.std.proofs.lemmas.Slice.Eq.{bytes_eq-Decides}
use Rattle.exb_cli.specs.declared.parser.ParserState.{ParserState}
use Rattle.exb_cli.specs.CommandLines.{Ask, Run, Check, Make, Audit, Net, check_of, make_of, audit_of, net_of, number_in, Item, Name, Trace, Counters, Seed, items_of, names_in, traces_in, counters_in, seeds_in, the_only, at_most_one, none_of, run_of, name_alone, words_of}
use Rattle.exb_cli.specs.ParserSteps.{Gathered, with_all, gathered, nothing_said, run_from, name_from, net_from, gathered_of}

-- each at most once
abbrev pub at_once : Option (Option (List ℕ)) → Option (Option (Unit {0})) → Option (Option (Unit {0})) → Option (Option ℕ) → Option Gathered
at_once names traces counts seeds =
    option_and_then (λ n. option_and_then (λ t. option_and_then (λ c. option_and_then (λ s. Some (record { name = n; options = record { trace = is_some t; counters = is_some c; seed = s } })) seeds) counts) traces) names

abbrev pub all_once : List (List ℕ) → List (Unit {0}) → List (Unit {0}) → List ℕ → Option Gathered
all_once names traces counts seeds = at_once (at_most_one names) (at_most_one traces) (at_most_one counts) (at_most_one seeds)

abbrev flags_of : Bool → List (Unit {0})
flags_of true = tt ∷ []
flags_of false = []

no_trace : (names : Option (Option (List ℕ))) (counts : Option (Option (Unit {0}))) (seeds : Option (Option ℕ)) → None ≡ at_once names None counts seeds
no_trace None counts seeds = refl
no_trace (Some n) counts seeds = refl

no_counters : (names : Option (Option (List ℕ))) (traces : Option (Option (Unit {0}))) (seeds : Option (Option ℕ)) → None ≡ at_once names traces None seeds
no_counters None traces seeds = refl
no_counters (Some n) None seeds = refl
no_counters (Some n) (Some t) seeds = refl

no_seed : (names : Option (Option (List ℕ))) (traces counts : Option (Option (Unit {0}))) → None ≡ at_once names traces counts None
no_seed None traces counts = refl
no_seed (Some n) None counts = refl
no_seed (Some n) (Some t) None = refl
no_seed (Some n) (Some t) (Some c) = refl

pub with_all-is : (is : List Item) (n : Option (List ℕ)) (t c : Bool) (s : Option ℕ) →
    with_all is (record { name = n; options = record { trace = t; counters = c; seed = s } }) ≡ all_once (option_to_list n ++ names_in is) (flags_of t ++ traces_in is) (flags_of c ++ counters_in is) (option_to_list s ++ seeds_in is)
unfolding with_all names_in traces_in counters_in seeds_in
with_all-is [] None true true None = refl
with_all-is [] None true true (Some s) = refl
with_all-is [] None true false None = refl
with_all-is [] None true false (Some s) = refl
with_all-is [] None false true None = refl
with_all-is [] None false true (Some s) = refl
with_all-is [] None false false None = refl
with_all-is [] None false false (Some s) = refl
with_all-is [] (Some n) true true None = refl
with_all-is [] (Some n) true true (Some s) = refl
with_all-is [] (Some n) true false None = refl
with_all-is [] (Some n) true false (Some s) = refl
with_all-is [] (Some n) false true None = refl
with_all-is [] (Some n) false true (Some s) = refl
with_all-is [] (Some n) false false None = refl
with_all-is [] (Some n) false false (Some s) = refl
with_all-is (Name w ∷ is) None t c s = with_all-is is (Some w) t c s
with_all-is (Name w ∷ is) (Some n) t c s = refl
with_all-is (Trace ∷ is) n false c s = with_all-is is n true c s
with_all-is (Trace ∷ is) n true c s = no_trace (at_most_one (option_to_list n ++ names_in is)) (at_most_one (flags_of c ++ counters_in is)) (at_most_one (option_to_list s ++ seeds_in is))
with_all-is (Counters ∷ is) n t false s = with_all-is is n t true s
with_all-is (Counters ∷ is) n t true s = no_counters (at_most_one (option_to_list n ++ names_in is)) (at_most_one (flags_of t ++ traces_in is)) (at_most_one (option_to_list s ++ seeds_in is))
with_all-is (Seed k ∷ is) n t c None = with_all-is is n t c (Some k)
with_all-is (Seed k ∷ is) n t c (Some s) = no_seed (at_most_one (option_to_list n ++ names_in is)) (at_most_one (flags_of t ++ traces_in is)) (at_most_one (flags_of c ++ counters_in is))

-- ---- `run`
run-cases : (names : List (List ℕ)) (traces counts : Option (Option (Unit {0}))) (seeds : Option (Option ℕ)) →
    option_and_then (λ w. option_and_then (λ t. option_and_then (λ c. option_and_then (λ s. Some (Run w (record { trace = is_some t; counters = is_some c; seed = s }))) seeds) counts) traces) (the_only names)
    ≡ option_and_then run_from (at_once (at_most_one names) traces counts seeds)
run-cases [] None counts seeds = refl
run-cases [] (Some t) None seeds = refl
run-cases [] (Some t) (Some c) None = refl
run-cases [] (Some t) (Some c) (Some s) = refl
run-cases (x ∷ []) None counts seeds = refl
run-cases (x ∷ []) (Some t) None seeds = refl
run-cases (x ∷ []) (Some t) (Some c) None = refl
run-cases (x ∷ []) (Some t) (Some c) (Some s) = refl
run-cases (x ∷ y ∷ rest) traces counts seeds = refl

run-items : (is : List Item) → run_of is ≡ option_and_then run_from (with_all is nothing_said)
unfolding run_of
run-items is = run-cases (names_in is) (at_most_one (traces_in is)) (at_most_one (counters_in is)) (at_most_one (seeds_in is)) ∙ ap (option_and_then run_from) (sym (with_all-is is None false false None))

pub run-is : (ws : List (List ℕ)) → option_and_then run_from (gathered ws nothing_said) ≡ option_and_then run_of (items_of ws)
unfolding gathered
run-is ws = by_items (items_of ws)
  where
    by_items : (o : Option (List Item)) → option_and_then run_from (option_and_then (λ is. with_all is nothing_said) o) ≡ option_and_then run_of o
    by_items None = refl
    by_items (Some is) = sym (run-items is)

-- ---- a name alone
traced : (names : Option (Option (List ℕ))) (ts : List (Unit {0})) (counts : Option (Option (Unit {0}))) (seeds : Option (Option ℕ)) → None ≡ option_and_then name_from (at_once names (at_most_one (tt ∷ ts)) counts seeds)
traced None ts counts seeds = refl
traced (Some n) [] None seeds = refl
traced (Some n) [] (Some c) None = refl
traced (Some n) [] (Some c) (Some s) = refl
traced (Some n) (t ∷ ts) counts seeds = refl

counted : (names : Option (Option (List ℕ))) (traces : Option (Option (Unit {0}))) (cs : List (Unit {0})) (seeds : Option (Option ℕ)) → None ≡ option_and_then name_from (at_once names traces (at_most_one (tt ∷ cs)) seeds)
counted None traces cs seeds = refl
counted (Some n) None cs seeds = refl
counted (Some n) (Some None) [] None = refl
counted (Some n) (Some (Some t)) [] None = refl
counted (Some n) (Some None) [] (Some s) = refl
counted (Some n) (Some (Some t)) [] (Some s) = refl
counted (Some n) (Some t) (c ∷ cs) seeds = refl

seeded : (names : Option (Option (List ℕ))) (traces counts : Option (Option (Unit {0}))) (k : ℕ) (ss : List ℕ) → None ≡ option_and_then name_from (at_once names traces counts (at_most_one (k ∷ ss)))
seeded None traces counts k ss = refl
seeded (Some n) None counts k ss = refl
seeded (Some n) (Some t) None k ss = refl
seeded (Some n) (Some None) (Some None) k [] = refl
seeded (Some n) (Some None) (Some (Some c)) k [] = refl
seeded (Some n) (Some (Some t)) (Some None) k [] = refl
seeded (Some n) (Some (Some t)) (Some (Some c)) k [] = refl
seeded (Some n) (Some t) (Some c) k (s ∷ ss) = refl

name-cases : (is : List Item) → name_alone is ≡ option_and_then name_from (all_once (names_in is) (traces_in is) (counters_in is) (seeds_in is))
unfolding name_alone names_in traces_in counters_in seeds_in
name-cases [] = refl
name-cases (Name w ∷ []) = refl
name-cases (Trace ∷ []) = refl
name-cases (Counters ∷ []) = refl
name-cases (Seed k ∷ []) = refl
name-cases (Name w ∷ Name v ∷ is) = refl
name-cases (Name w ∷ Trace ∷ is) = traced (at_most_one (w ∷ names_in is)) (traces_in is) (at_most_one (counters_in is)) (at_most_one (seeds_in is))
name-cases (Name w ∷ Counters ∷ is) = counted (at_most_one (w ∷ names_in is)) (at_most_one (traces_in is)) (counters_in is) (at_most_one (seeds_in is))
name-cases (Name w ∷ Seed k ∷ is) = seeded (at_most_one (w ∷ names_in is)) (at_most_one (traces_in is)) (at_most_one (counters_in is)) k (seeds_in is)
name-cases (Trace ∷ j ∷ is) = traced (at_most_one (names_in (j ∷ is))) (traces_in (j ∷ is)) (at_most_one (counters_in (j ∷ is))) (at_most_one (seeds_in (j ∷ is)))
name-cases (Counters ∷ j ∷ is) = counted (at_most_one (names_in (j ∷ is))) (at_most_one (traces_in (j ∷ is))) (counters_in (j ∷ is)) (at_most_one (seeds_in (j ∷ is)))
name-cases (Seed k ∷ j ∷ is) = seeded (at_most_one (names_in (j ∷ is))) (at_most_one (traces_in (j ∷ is))) (at_most_one (counters_in (j ∷ is))) k (seeds_in (j ∷ is))

name-items : (is : List Item) → name_alone is ≡ option_and_then name_from (with_all is nothing_said)
name-items is = name-cases is ∙ ap (option_and_then name_from) (sym (with_all-is is None false false None))

pub name-is : (ws : List (List ℕ)) → option_and_then name_from (gathered ws nothing_said) ≡ option_and_then name_alone (items_of ws)
unfolding gathered
name-is ws = by_items (items_of ws)
  where
    by_items : (o : Option (List Item)) → option_and_then name_from (option_and_then (λ is. with_all is nothing_said) o) ≡ option_and_then name_alone o
    by_items None = refl
    by_items (Some is) = sym (name-items is)

-- ---- `net`
net-cases : (names : List (List ℕ)) (traces counts : List (Unit {0})) (seeds : List ℕ) →
    option_and_then (λ w. option_and_then (λ t. option_and_then (λ c. option_and_then (λ s. Some (Net w (is_some c))) (none_of seeds)) (at_most_one counts)) (none_of traces)) (the_only names)
    ≡ option_and_then net_from (all_once names traces counts seeds)
net-cases [] [] [] [] = refl
net-cases [] [] [] (s ∷ []) = refl
net-cases [] [] [] (s ∷ z ∷ ss) = refl
net-cases [] [] (c ∷ []) [] = refl
net-cases [] [] (c ∷ []) (s ∷ []) = refl
net-cases [] [] (c ∷ []) (s ∷ z ∷ ss) = refl
net-cases [] [] (c ∷ d ∷ cs) seeds = refl
net-cases [] (t ∷ []) [] [] = refl
net-cases [] (t ∷ []) [] (s ∷ []) = refl
net-cases [] (t ∷ []) [] (s ∷ z ∷ ss) = refl
net-cases [] (t ∷ []) (c ∷ []) [] = refl
net-cases [] (t ∷ []) (c ∷ []) (s ∷ []) = refl
net-cases [] (t ∷ []) (c ∷ []) (s ∷ z ∷ ss) = refl
net-cases [] (t ∷ []) (c ∷ d ∷ cs) seeds = refl
net-cases [] (t ∷ u ∷ ts) counts seeds = refl
net-cases (x ∷ []) [] [] [] = refl
net-cases (x ∷ []) [] [] (s ∷ []) = refl
net-cases (x ∷ []) [] [] (s ∷ z ∷ ss) = refl
net-cases (x ∷ []) [] (c ∷ []) [] = refl
net-cases (x ∷ []) [] (c ∷ []) (s ∷ []) = refl
net-cases (x ∷ []) [] (c ∷ []) (s ∷ z ∷ ss) = refl
net-cases (x ∷ []) [] (c ∷ d ∷ cs) seeds = refl
net-cases (x ∷ []) (t ∷ []) [] [] = refl
net-cases (x ∷ []) (t ∷ []) [] (s ∷ []) = refl
net-cases (x ∷ []) (t ∷ []) [] (s ∷ z ∷ ss) = refl
net-cases (x ∷ []) (t ∷ []) (c ∷ []) [] = refl
net-cases (x ∷ []) (t ∷ []) (c ∷ []) (s ∷ []) = refl
net-cases (x ∷ []) (t ∷ []) (c ∷ []) (s ∷ z ∷ ss) = refl
net-cases (x ∷ []) (t ∷ []) (c ∷ d ∷ cs) seeds = refl
net-cases (x ∷ []) (t ∷ u ∷ ts) counts seeds = refl
net-cases (x ∷ y ∷ rest) traces counts seeds = refl

net-items : (is : List Item) → net_of is ≡ option_and_then net_from (with_all is nothing_said)
unfolding net_of
net-items is = net-cases (names_in is) (traces_in is) (counters_in is) (seeds_in is) ∙ ap (option_and_then net_from) (sym (with_all-is is None false false None))

pub net-is : (ws : List (List ℕ)) → option_and_then net_from (gathered ws nothing_said) ≡ option_and_then net_of (items_of ws)
unfolding gathered
net-is ws = by_items (items_of ws)
  where
    by_items : (o : Option (List Item)) → option_and_then net_from (option_and_then (λ is. with_all is nothing_said) o) ≡ option_and_then net_of o
    by_items None = refl
    by_items (Some is) = sym (net-items is)

-- ---- what names ask for
pub check-is : (is : Option (List Item)) → option_map Check (option_and_then name_alone is) ≡ option_and_then check_of is
unfolding check_of
check-is None = refl
check-is (Some is) = refl

pub make-is : (is : Option (List Item)) → option_map Make (option_and_then number_in (option_and_then name_alone is)) ≡ option_and_then make_of is
unfolding make_of
make-is None = refl
make-is (Some is) = refl

pub audit-is : (is : Option (List Item)) → option_map Audit (option_and_then name_alone is) ≡ option_and_then audit_of is
unfolding audit_of
audit-is None = refl
audit-is (Some is) = refl

-- what was said has a name
pub run-said : (s : ParserState) (n : Option (Bor (List ℕ))) → s.name ≡ n → option_map (λ w. Run w.now s.options) n ≡ run_from (gathered_of s)
run-said s n is = ap (λ (m : Option (Bor (List ℕ))). option_map (λ w. Run w.now s.options) m) (sym is) ∙ by_name s.name
  where
    by_name : (m : Option (Bor (List ℕ))) → option_map (λ w. Run w.now s.options) m ≡ option_map (λ w. Run w s.options) (option_map (λ w. w.now) m)
    by_name None = refl
    by_name (Some w) = refl

-- ---- all words
pub words-none : (ws : List (List ℕ)) → ws ≡ [] → None ≡ words_of ws
unfolding words_of
words-none ws e = ap words_of (sym e)

pub words-run : (all ws : List (List ℕ)) (w : List ℕ) (o : Option Ask) → all ≡ w ∷ ws → w ≡ codes "run" → o ≡ option_and_then run_of (items_of ws) → o ≡ words_of all
unfolding words_of
words-run all ws w o e is one = one ∙ (ap (λ v. words_of (v ∷ ws)) (sym is) ∙ ap words_of (sym e))

pub words-check : (all ws : List (List ℕ)) (w : List ℕ) (o : Option Ask) → all ≡ w ∷ ws → w ≡ codes "check" → o ≡ option_and_then check_of (items_of ws) → o ≡ words_of all
unfolding words_of
words-check all ws w o e is one = one ∙ (ap (λ v. words_of (v ∷ ws)) (sym is) ∙ ap words_of (sym e))

pub words-make : (all ws : List (List ℕ)) (w : List ℕ) (o : Option Ask) → all ≡ w ∷ ws → w ≡ codes "make" → o ≡ option_and_then make_of (items_of ws) → o ≡ words_of all
unfolding words_of
words-make all ws w o e is one = one ∙ (ap (λ v. words_of (v ∷ ws)) (sym is) ∙ ap words_of (sym e))

pub words-audit : (all ws : List (List ℕ)) (w : List ℕ) (o : Option Ask) → all ≡ w ∷ ws → w ≡ codes "audit" → o ≡ option_and_then audit_of (items_of ws) → o ≡ words_of all
unfolding words_of
words-audit all ws w o e is one = one ∙ (ap (λ v. words_of (v ∷ ws)) (sym is) ∙ ap words_of (sym e))

pub words-net : (all ws : List (List ℕ)) (w : List ℕ) (o : Option Ask) → all ≡ w ∷ ws → w ≡ codes "net" → o ≡ option_and_then net_of (items_of ws) → o ≡ words_of all
unfolding words_of
words-net all ws w o e is one = one ∙ (ap (λ v. words_of (v ∷ ws)) (sym is) ∙ ap words_of (sym e))

other_bytes : (v w : List ℕ) → (v ≡ w → ⊥) → bytes_eq v w ≡ false
other_bytes v w h = false_from_ne_true (bytes_eq v w) (λ e. h ((bytes_eq-Decides v w).0 e))

pub words-other : (all ws : List (List ℕ)) (w : List ℕ) → all ≡ w ∷ ws → (w ≡ codes "run" → ⊥) → (w ≡ codes "check" → ⊥) → (w ≡ codes "make" → ⊥) → (w ≡ codes "audit" → ⊥) → (w ≡ codes "net" → ⊥) → None ≡ words_of all
unfolding words_of
words-other all ws w e run check make audit net =
    by_tests (bytes_eq w (codes "run")) (bytes_eq w (codes "check")) (bytes_eq w (codes "make")) (bytes_eq w (codes "audit")) (bytes_eq w (codes "net"))
    (option_and_then run_of (items_of ws)) (option_and_then check_of (items_of ws)) (option_and_then make_of (items_of ws)) (option_and_then audit_of (items_of ws)) (option_and_then net_of (items_of ws))
    (other_bytes w (codes "run") run) (other_bytes w (codes "check") check) (other_bytes w (codes "make") make) (other_bytes w (codes "audit") audit) (other_bytes w (codes "net") net)
    ∙ ap words_of (sym e)
  where
    by_tests : (a b c d f : Bool) (x y z u v : Option Ask) → a ≡ false → b ≡ false → c ≡ false → d ≡ false → f ≡ false → None ≡ (if a then x else (if b then y else (if c then z else (if d then u else (if f then v else None)))))
    by_tests true b c d f x y z u v ea eb ec ed ef = absurd (false≢true (sym ea))
    by_tests false true c d f x y z u v ea eb ec ed ef = absurd (false≢true (sym eb))
    by_tests false false true d f x y z u v ea eb ec ed ef = absurd (false≢true (sym ec))
    by_tests false false false true f x y z u v ea eb ec ed ef = absurd (false≢true (sym ed))
    by_tests false false false false true x y z u v ea eb ec ed ef = absurd (false≢true (sym ef))
    by_tests false false false false false x y z u v ea eb ec ed ef = refl

-- The members of each table of a document come in byte order of their keys.
use Rattle.std.proofs.Common.{◌≡◌, ℕ, zero, suc, Less, Equal, Greater, nat_cmp, is_lt, Bool, true, false, cond, if◌then◌else◌, ◌&&◌, ◌==◌, List, [], ◌∷◌, ◌++◌, length, drop, slice_index, Option, Some, None, option_map, option_and_then, refl, ap, subst, ◌∙◌, inl, inr}
use Rattle.std.proofs.lemmas.Bool.{cases_Bool, and_parts}
use Rattle.std.proofs.lemmas.Option.{none-some, same_Some, option_and_then_some}
use Rattle.std.specs.Cmp.Lexicographic.{slice_cmp}
use Rattle.toml_parser.specs.Lexical.{left_bracket, right_bracket, left_brace, right_brace, first, skip_ws, skip_blank}
use Rattle.toml_parser.specs.Strings.{Key, quoted, starts_string, recursion_limit}
use Rattle.toml_parser.specs.Numbers.{unquoted}
use Rattle.toml_parser.specs.declared.scalar.Scalar.{Scalar}
use Rattle.toml_parser.specs.declared.scalar.Scalar.TheVariants.{Boolean, Integer, Float, Datetime}
use Rattle.toml.specs.Data.{Data, string, table, array, Items, item, no_items, push_item, Members, member, is_before, is_sorted, items_are_sorted, members_are_sorted, same_key}
use Rattle.toml.specs.Tables.{Node, Nodes, no_nodes, node, value, open_table, open_array, implicit, dotted, header, get_node, insert, replace, Edit, header_node, dot_node, by_header, by_dot, along_header, along_dots, at_found, at_key, key_value, std_table, array_table, Definition, new_node, redefine, put, close, close_node, Document, define}
use Rattle.toml.specs.Parse.{read_map, after_byte, after_element, key_equals, keyval, items, members, scalar_data, atom, val, header_key, expression, ends_line, line, lines, skip_bom, parse_document}
use Rattle.std.proofs.lemmas.Cmp.{nat_list_cmp_total}
use Rattle.std.specs.Ordering.{ordering_reverse}

-- ---- options and tests
by_test : {A P : Type 0} (b : Bool) (x y : Option A) (r : A) → cond b x y ≡ Some r → (x ≡ Some r → P) → (y ≡ Some r → P) → P
by_test true x y r e f g = f e
by_test false x y r e f g = g e

by_map : {A B P : Type 0} (f : A → B) (o : Option A) (y : B) → option_map f o ≡ Some y → ((x : A) → o ≡ Some x → f x ≡ y → P) → P
by_map f None y e k = absurd (none-some y e)
by_map f (Some x) y e k = k x refl (same_Some (f x) y e)

by_pass : {A P : Type 0} (b : Bool) (o : Option A) (r : A) → cond b o None ≡ Some r → (o ≡ Some r → P) → P
by_pass true o r e k = k e
by_pass false o r e k = absurd (none-some r e)

-- ---- nodes
-- what the nodes stand for is in order
abbrev pub AreOrdered : Nodes → Type 0
AreOrdered ns = members_are_sorted (close ns) ≡ true

abbrev pub IsOrdered : Node → Type 0
IsOrdered x = is_sorted (close_node x) ≡ true

push_sorted : (done : Items) (d : Data) → items_are_sorted done ≡ true → is_sorted d ≡ true → items_are_sorted (push_item done d) ≡ true
push_sorted no_items d a b = rw b
push_sorted (item x done) d a b =
    let (here, more) = and_parts (is_sorted x) (items_are_sorted done) a in
    rw (here, push_sorted done d more b)

push_parts : (done : Items) (d : Data) → items_are_sorted (push_item done d) ≡ true → (items_are_sorted done ≡ true) × (is_sorted d ≡ true)
push_parts no_items d a = (refl, (and_parts (is_sorted d) true a).0)
push_parts (item x done) d a =
    let (here, more) = and_parts (is_sorted x) (items_are_sorted (push_item done d)) a in
    let (front, last) = push_parts done d more in
    (rw (here, front), last)

made : (k : List ℕ) (d : Data) (ms : Members) → is_before k ms ≡ true → is_sorted d ≡ true → members_are_sorted ms ≡ true → members_are_sorted (member k d ms) ≡ true
made k d ms a b c = rw (a, b, c)

insert_front : (j k : List ℕ) (x : Node) (ns : Nodes) → is_lt (slice_cmp nat_cmp j k) ≡ true → is_before j (close ns) ≡ true → is_before j (close (insert k x ns)) ≡ true
insert_front j k x no_nodes a b = a
insert_front j k x (node l y ns) a b =
    elim (slice_cmp nat_cmp k l) as (λ o. (slice_cmp nat_cmp k l ≡ o → is_before j (close (insert k x (node l y ns))) ≡ true)) [
      | Less ↦ λ e. rw e a
      | Equal ↦ λ e. rw e b
      | Greater ↦ λ e. rw e b
    ] refl

insert_sorted : (k : List ℕ) (x : Node) (ns : Nodes) → AreOrdered ns → IsOrdered x → AreOrdered (insert k x ns)
insert_sorted k x no_nodes a b = rw b
insert_sorted k x (node l y ns) a b =
    let (front, more) = and_parts (is_before l (close ns) && is_sorted (close_node y)) (members_are_sorted (close ns)) a in
    let (next, here) = and_parts (is_before l (close ns)) (is_sorted (close_node y)) front in
    elim (slice_cmp nat_cmp k l) as (λ o. (slice_cmp nat_cmp k l ≡ o → AreOrdered (insert k x (node l y ns)))) [
      | Less ↦ λ e. rw e (made k (close_node x) (member l (close_node y) (close ns)) (rw e) b a)
      | Equal ↦ λ e. rw e (made l (close_node x) (close ns) next b more)
      | Greater ↦ λ e.
          let order : slice_cmp nat_cmp l k ≡ Less = nat_list_cmp_total.antisymm l k ∙ ap ordering_reverse e in
          rw e (made l (close_node y) (close (insert k x ns)) (insert_front l k x ns (rw order) next) here (insert_sorted k x ns more b))
    ] refl

replace_front : (j k : List ℕ) (x : Node) (ns : Nodes) → is_before j (close ns) ≡ true → is_before j (close (replace k x ns)) ≡ true
replace_front j k x no_nodes a = refl
replace_front j k x (node l y ns) a =
    elim (cases_Bool (same_key k l)) [
      | inl same ↦ rw same a
      | inr other ↦ rw other a
    ]

replace_sorted : (k : List ℕ) (x : Node) (ns : Nodes) → AreOrdered ns → IsOrdered x → AreOrdered (replace k x ns)
replace_sorted k x no_nodes a b = refl
replace_sorted k x (node l y ns) a b =
    let (front, more) = and_parts (is_before l (close ns) && is_sorted (close_node y)) (members_are_sorted (close ns)) a in
    let (next, here) = and_parts (is_before l (close ns)) (is_sorted (close_node y)) front in
    elim (cases_Bool (same_key k l)) [
      | inl same ↦ rw same (made l (close_node x) (close ns) next b more)
      | inr other ↦ rw other (made l (close_node y) (close (replace k x ns)) (replace_front l k x ns next) here (replace_sorted k x ns more b))
    ]

got_sorted : (k : List ℕ) (ns : Nodes) (x : Node) → AreOrdered ns → get_node k ns ≡ Some x → IsOrdered x
got_sorted k no_nodes x a e = absurd (none-some x e)
got_sorted k (node l y ns) x a e =
    let (front, more) = and_parts (is_before l (close ns) && is_sorted (close_node y)) (members_are_sorted (close ns)) a in
    let (next, here) = and_parts (is_before l (close ns)) (is_sorted (close_node y)) front in
    by_test (same_key k l) (Some y) (get_node k ns) x e
    (λ found. subst IsOrdered (same_Some y x found) here)
    (λ later. got_sorted k ns x more later)

-- ---- edits
-- an edit that keeps the order
abbrev pub Keeps : Edit → Type 0
Keeps edit = (ns result : Nodes) → AreOrdered ns → edit ns ≡ Some result → AreOrdered result

header_keeps : (edit : Edit) (x y : Node) → Keeps edit → IsOrdered x → header_node edit x ≡ Some y → IsOrdered y
header_keeps edit (value d) y keeps a e = absurd (none-some y e)
header_keeps edit (open_table origin inner) y keeps a e =
    by_map (open_table origin) (edit inner) y e (λ new some is. subst IsOrdered is (keeps inner new a some))
header_keeps edit (open_array done last) y keeps a e =
    let (front, end) = push_parts done (table (close last)) a in
    by_map (open_array done) (edit last) y e (λ new some is. subst IsOrdered is (push_sorted done (table (close new)) front (keeps last new end some)))

dot_keeps : (edit : Edit) (x y : Node) → Keeps edit → IsOrdered x → dot_node edit x ≡ Some y → IsOrdered y
dot_keeps edit (value d) y keeps a e = absurd (none-some y e)
dot_keeps edit (open_table header inner) y keeps a e = absurd (none-some y e)
dot_keeps edit (open_table implicit inner) y keeps a e =
    by_map (open_table dotted) (edit inner) y e (λ new some is. subst IsOrdered is (keeps inner new a some))
dot_keeps edit (open_table dotted inner) y keeps a e =
    by_map (open_table dotted) (edit inner) y e (λ new some is. subst IsOrdered is (keeps inner new a some))
dot_keeps edit (open_array done last) y keeps a e = absurd (none-some y e)

by_header_keeps : (k : List ℕ) (edit : Edit) (ns result : Nodes) (o : Option Node) → Keeps edit → AreOrdered ns
    → ((x : Node) → o ≡ Some x → IsOrdered x) → by_header k edit ns o ≡ Some result → AreOrdered result
by_header_keeps k edit ns result None keeps a got e =
    by_map (λ new. insert k (open_table implicit new) ns) (edit no_nodes) result e
    (λ new some is. subst AreOrdered is (insert_sorted k (open_table implicit new) ns a (keeps no_nodes new refl some)))
by_header_keeps k edit ns result (Some x) keeps a got e =
    by_map (λ new. replace k new ns) (header_node edit x) result e
    (λ new some is. subst AreOrdered is (replace_sorted k new ns a (header_keeps edit x new keeps (got x refl) some)))

by_dot_keeps : (k : List ℕ) (edit : Edit) (ns result : Nodes) (o : Option Node) → Keeps edit → AreOrdered ns
    → ((x : Node) → o ≡ Some x → IsOrdered x) → by_dot k edit ns o ≡ Some result → AreOrdered result
by_dot_keeps k edit ns result None keeps a got e =
    by_map (λ new. insert k (open_table dotted new) ns) (edit no_nodes) result e
    (λ new some is. subst AreOrdered is (insert_sorted k (open_table dotted new) ns a (keeps no_nodes new refl some)))
by_dot_keeps k edit ns result (Some x) keeps a got e =
    by_map (λ new. replace k new ns) (dot_node edit x) result e
    (λ new some is. subst AreOrdered is (replace_sorted k new ns a (dot_keeps edit x new keeps (got x refl) some)))

along_header_keeps : (path : List (List ℕ)) (edit : Edit) → Keeps edit → Keeps (along_header path edit)
unfolding along_header
along_header_keeps [] edit keeps ns result a e = keeps ns result a e
along_header_keeps (k ∷ path) edit keeps ns result a e =
    by_header_keeps k (along_header path edit) ns result (get_node k ns) (along_header_keeps path edit keeps) a (λ x found. got_sorted k ns x a found) e

along_dots_keeps : (path : List (List ℕ)) (edit : Edit) → Keeps edit → Keeps (along_dots path edit)
unfolding along_dots
along_dots_keeps [] edit keeps ns result a e = keeps ns result a e
along_dots_keeps (k ∷ path) edit keeps ns result a e =
    by_dot_keeps k (along_dots path edit) ns result (get_node k ns) (along_dots_keeps path edit keeps) a (λ x found. got_sorted k ns x a found) e

redefined : (what : Definition) (x y : Node) → IsOrdered x → redefine what x ≡ Some y → IsOrdered y
redefined std_table (open_table implicit inner) y a e = subst IsOrdered (same_Some (open_table header inner) y e) a
redefined std_table (open_table dotted inner) y a e = absurd (none-some y e)
redefined std_table (open_table header inner) y a e = absurd (none-some y e)
redefined std_table (value d) y a e = absurd (none-some y e)
redefined std_table (open_array done last) y a e = absurd (none-some y e)
redefined array_table (open_array done last) y a e =
    subst IsOrdered (same_Some (open_array (push_item done (table (close last))) no_nodes) y e) (push_sorted (push_item done (table (close last))) (table (close no_nodes)) a refl)
redefined array_table (open_table origin inner) y a e = absurd (none-some y e)
redefined array_table (value d) y a e = absurd (none-some y e)
redefined (key_value d) x y a e = absurd (none-some y e)

found_keeps : (k : List ℕ) (what : Definition) (ns result : Nodes) (o : Option Node) → IsOrdered (new_node what) → AreOrdered ns
    → ((x : Node) → o ≡ Some x → IsOrdered x) → at_found k what ns o ≡ Some result → AreOrdered result
found_keeps k what ns result None new a got e = subst AreOrdered (same_Some (insert k (new_node what) ns) result e) (insert_sorted k (new_node what) ns a new)
found_keeps k what ns result (Some x) new a got e =
    by_map (λ y. replace k y ns) (redefine what x) result e
    (λ y some is. subst AreOrdered is (replace_sorted k y ns a (redefined what x y (got x refl) some)))

at_key_keeps : (k : List ℕ) (what : Definition) → IsOrdered (new_node what) → Keeps (at_key k what)
unfolding at_key
at_key_keeps k what new ns result a e = found_keeps k what ns result (get_node k ns) new a (λ x found. got_sorted k ns x a found) e

-- ---- values
-- a reader of values whose tables are in order
abbrev pub ReadsOrdered : (List ℕ → Option (Data × List ℕ)) → Type 0
ReadsOrdered read = (text : List ℕ) (d : Data) (rest : List ℕ) → read text ≡ Some (d, rest) → is_sorted d ≡ true

scalar_ordered : (s : Scalar) → is_sorted (scalar_data s) ≡ true
scalar_ordered (Boolean b) = refl
scalar_ordered (Integer z) = refl
scalar_ordered (Float x) = refl
scalar_ordered (Datetime dt) = refl

-- what was read, under a function that makes ordered data
mapped : {A : Type 0} (f : A → Data) (read : Option (A × List ℕ)) (d : Data) (rest : List ℕ)
    → ((x : A) (more : List ℕ) → read ≡ Some (x, more) → is_sorted (f x) ≡ true) → read_map f read ≡ Some (d, rest) → is_sorted d ≡ true
mapped f read d rest ordered e =
    by_map (λ p. (f p.0, p.1)) read (d, rest) e (λ p some is. subst (λ x. is_sorted x ≡ true) (ap (λ q. q.0) is) (ordered p.0 p.1 some))

atom_ordered : ReadsOrdered atom
unfolding atom
atom_ordered text d rest e =
    by_test (starts_string text) (read_map string (quoted text)) (read_map scalar_data (unquoted text)) (d, rest) e
    (λ a. mapped string (quoted text) d rest (λ x more some. refl) a)
    (λ b. mapped scalar_data (unquoted text) d rest (λ x more some. scalar_ordered x) b)

items_ordered : (read : List ℕ → Option (Data × List ℕ)) → ReadsOrdered read → (n : ℕ) (found : Items) (text : List ℕ) (all : Items) (rest : List ℕ)
    → items_are_sorted found ≡ true → items read n found text ≡ Some (all, rest) → items_are_sorted all ≡ true
unfolding items
items_ordered read reads zero found text all rest a e = absurd (none-some (all, rest) e)
items_ordered read reads (suc n) found text all rest a e =
    let start = skip_blank text in
    by_test (first start == right_bracket) (Some (found, drop 1 start)) _ (all, rest) e
    (λ end. subst (λ x. items_are_sorted x ≡ true) (ap (λ q. q.0) (same_Some (found, drop 1 start) (all, rest) end)) a)
    (λ goes. option_and_then_some (λ v. option_and_then (items read n (push_item found v.0)) (after_element right_bracket v.1)) (read start) (all, rest) goes
    (λ v some more. option_and_then_some (items read n (push_item found v.0)) (after_element right_bracket v.1) (all, rest) more
    (λ left after last. items_ordered read reads n (push_item found v.0) left all rest (push_sorted found v.0 a (reads start v.0 v.1 some)) last)))

put_keeps : (k : Key) (d : Data) → is_sorted d ≡ true → Keeps (put k d)
put_keeps k d a = along_dots_keeps k.0 (at_key k.1 (key_value d)) (at_key_keeps k.1 (key_value d) a)

-- a pair whose value was read so
pair_ordered : (read : List ℕ → Option (Data × List ℕ)) → ReadsOrdered read → (text : List ℕ) (k : Key) (d : Data) (rest : List ℕ)
    → keyval read text ≡ Some ((k, d), rest) → is_sorted d ≡ true
pair_ordered read reads text k d rest e =
    option_and_then_some (λ k. read_map (λ d. (k.0, d)) (read k.1)) (key_equals text) ((k, d), rest) e
    (λ head some more. by_map (λ p. ((head.0, p.0), p.1)) (read head.1) ((k, d), rest) more
    (λ p found is. subst (λ x. is_sorted x ≡ true) (ap (λ q. q.0.1) is) (reads head.1 p.0 p.1 found)))

members_ordered : (read : List ℕ → Option (Data × List ℕ)) → ReadsOrdered read → (n : ℕ) (found : Nodes) (text : List ℕ) (all : Members) (rest : List ℕ)
    → AreOrdered found → members read n found text ≡ Some (all, rest) → members_are_sorted all ≡ true
unfolding members
members_ordered read reads zero found text all rest a e = absurd (none-some (all, rest) e)
members_ordered read reads (suc n) found text all rest a e =
    let start = skip_blank text in
    by_test (first start == right_brace) (Some (close found, drop 1 start)) _ (all, rest) e
    (λ end. subst (λ x. members_are_sorted x ≡ true) (ap (λ q. q.0) (same_Some (close found, drop 1 start) (all, rest) end)) a)
    (λ goes. option_and_then_some (λ e. option_and_then (λ more. option_and_then (members read n more) (after_element right_brace e.1)) (put e.0.0 e.0.1 found)) (keyval read start) (all, rest) goes
    (λ pair some more. option_and_then_some (λ next. option_and_then (members read n next) (after_element right_brace pair.1)) (put pair.0.0 pair.0.1 found) (all, rest) more
    (λ next made then_on. option_and_then_some (members read n next) (after_element right_brace pair.1) (all, rest) then_on
    (λ left after last. members_ordered read reads n next left all rest
    (put_keeps pair.0.0 pair.0.1 (pair_ordered read reads start pair.0.0 pair.0.1 pair.1 some) found next a made) last))))

value_ordered : (depth : ℕ) → ReadsOrdered (val depth)
unfolding val
value_ordered zero text d rest e = atom_ordered text d rest e
value_ordered (suc depth) text d rest e =
    by_test (first text == left_bracket) (read_map array (items (val depth) (length text) no_items (drop 1 text))) _ (d, rest) e
    (λ is. mapped array (items (val depth) (length text) no_items (drop 1 text)) d rest
    (λ all more some. items_ordered (val depth) (value_ordered depth) (length text) no_items (drop 1 text) all more refl some) is)
    (λ other. by_test (first text == left_brace) (read_map table (members (val depth) (length text) no_nodes (drop 1 text))) (atom text) (d, rest) other
    (λ is. mapped table (members (val depth) (length text) no_nodes (drop 1 text)) d rest
    (λ all more some. members_ordered (val depth) (value_ordered depth) (length text) no_nodes (drop 1 text) all more refl some) is)
    (λ scalar. atom_ordered text d rest scalar))

-- ---- lines
-- what stands on a line, if it is a value, is in order
abbrev pub DefinesOrdered : Definition → Type 0
DefinesOrdered what = IsOrdered (new_node what)

expression_ordered : (text : List ℕ) (k : Key) (what : Definition) (rest : List ℕ) → expression text ≡ Some ((k, what), rest) → DefinesOrdered what
unfolding expression
expression_ordered text k what rest e =
    by_test (first text == left_bracket && slice_index text 1 == left_bracket) _ _ ((k, what), rest) e
    (λ double. option_and_then_some (λ k. option_map (λ rest. ((k.0, array_table), rest)) (after_byte right_bracket k.1)) (header_key (drop 2 text)) ((k, what), rest) double
    (λ head some more. by_map (λ rest. ((head.0, array_table), rest)) (after_byte right_bracket head.1) ((k, what), rest) more
    (λ x found is. subst DefinesOrdered (ap (λ q. q.0.1) is) refl)))
    (λ other. by_test (first text == left_bracket) (read_map (λ k. (k, std_table)) (header_key (drop 1 text))) _ ((k, what), rest) other
    (λ single. by_map (λ p. ((p.0, std_table), p.1)) (header_key (drop 1 text)) ((k, what), rest) single
    (λ x found is. subst DefinesOrdered (ap (λ q. q.0.1) is) refl))
    (λ pair. by_map (λ p. ((p.0.0, key_value p.0.1), p.1)) (keyval (val recursion_limit) text) ((k, what), rest) pair
    (λ x found is. subst DefinesOrdered (ap (λ q. q.0.1) is)
    (pair_ordered (val recursion_limit) (value_ordered recursion_limit) text x.0.0 x.0.1 x.1 found))))

line_ordered : (text : List ℕ) (k : Key) (what : Definition) (rest : List ℕ) → line text ≡ Some ((k, what), rest) → DefinesOrdered what
unfolding line
line_ordered text k what rest e =
    option_and_then_some (λ e. if ends_line (skip_ws e.1) then Some e else None) (expression text) ((k, what), rest) e
    (λ x some more. by_pass (ends_line (skip_ws x.1)) (Some x) ((k, what), rest) more
    (λ is. expression_ordered text k what rest (some ∙ is)))

define_ordered : (doc next : Document) (k : Key) (what : Definition) → AreOrdered doc.0 → DefinesOrdered what → define doc (k, what) ≡ Some next → AreOrdered next.0
unfolding define
define_ordered doc next k (key_value d) a new e =
    by_map (λ root. (root, doc.1)) (along_header doc.1 (put k d) doc.0) next e
    (λ root some is. subst (λ x. AreOrdered x.0) is (along_header_keeps doc.1 (put k d) (put_keeps k d new) doc.0 root a some))
define_ordered doc next k std_table a new e =
    by_map (λ root. (root, k.0 ++ k.1 ∷ [])) (along_header k.0 (at_key k.1 std_table) doc.0) next e
    (λ root some is. subst (λ x. AreOrdered x.0) is (along_header_keeps k.0 (at_key k.1 std_table) (at_key_keeps k.1 std_table refl) doc.0 root a some))
define_ordered doc next k array_table a new e =
    by_map (λ root. (root, k.0 ++ k.1 ∷ [])) (along_header k.0 (at_key k.1 array_table) doc.0) next e
    (λ root some is. subst (λ x. AreOrdered x.0) is (along_header_keeps k.0 (at_key k.1 array_table) (at_key_keeps k.1 array_table refl) doc.0 root a some))

lines_ordered : (n : ℕ) (doc last : Document) (text : List ℕ) → AreOrdered doc.0 → lines n doc text ≡ Some last → AreOrdered last.0
unfolding lines
lines_ordered zero doc last text a e = absurd (none-some last e)
lines_ordered (suc n) doc last text a e =
    let start = skip_blank text in
    by_test (length start == 0) (Some doc) _ last e
    (λ end. subst (λ x. AreOrdered x.0) (same_Some doc last end) a)
    (λ goes. option_and_then_some (λ e. option_and_then (λ next. lines n next e.1) (define doc e.0)) (line start) last goes
    (λ x some more. option_and_then_some (λ next. lines n next x.1) (define doc x.0) last more
    (λ next made left. lines_ordered n next last x.1 (define_ordered doc next x.0.0 x.0.1 a (line_ordered start x.0.0 x.0.1 x.1 some) made) left)))

-- the document of a text
pub document_sorted : (text : List ℕ) (ms : Members) → parse_document text ≡ Some ms → members_are_sorted ms ≡ true
unfolding parse_document
document_sorted text ms e =
    by_map (λ doc. close doc.0) (lines (suc (length text)) (no_nodes, []) (skip_bom text)) ms e
    (λ doc some is. subst (λ x. members_are_sorted x ≡ true) is (lines_ordered (suc (length text)) (no_nodes, []) doc (skip_bom text) refl some))

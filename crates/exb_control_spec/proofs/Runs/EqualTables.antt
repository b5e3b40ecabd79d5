-- Tables of all extenders that are the same, and runs of requests.
use Rattle.std.proofs.Common.{◌≡◌, ◌≢◌, ◌⊎◌, ℕ, ◌+◌, ◌-◌, ◌/◌, ◌%◌, ◌<◌, ◌≤◌, ◌==◌, ◌&&◌, ◌||◌, ◌++◌, cond, Bool, true, false, List, [], ◌∷◌, nat_lt, nat_le, slice_index, refl, sym, ◌∙◌, ap, subst, arith, inl, inr, eq-eqb}
use Rattle.std.specs.List.{flat_map}
use Rattle.std.proofs.lemmas.Bool.{cases_eq, and_parts, and_from, lt-ltb, ltb-true, le-leb, leb-true, ne_eqb, or_right, false≢true}
use Rattle.exb_model.specs.Tree.{Shape, device, is_port}
use Rattle.exb_model.specs.ExtenderForwarding.{Tables}
use Rattle.exb_csp.specs.declared.message.Request.{Request}
use Rattle.exb_csp.specs.Execution.{ExtenderTables, code_of, done}
use Rattle.exb_csp.proofs.ExecutionLaws.{executed_done}
use Rattle.exb_csp.specs.AllTables.{port_of, executes_at, RunsAt}
use Rattle.exb_csp.specs.declared.ask_at.AskAt.{AskAt}
use Rattle.exb_model.specs.Lists.{is_listed}
use Rattle.exb_control_spec.specs.Runs.LaidTables.{has_port, by_extender}

-- ---- ports
-- a port of an extender of the tree, among all ports
pub record PortAt (t : Shape) (n port : ℕ) : Type 0 where
  pub low : 0 < port
  pub high : port ≤ 64
  pub count : port ≤ slice_index t.ports n
  pub deep : 64 ≤ port_of n port
  pub known : is_port t (port_of n port) ≡ true
  pub home : device (port_of n port) ≡ n
  pub place : port_of n port % 64 + 1 ≡ port

pub port_at : (t : Shape) (n port : ℕ) → has_port t n port ≡ true → PortAt t n port
port_at t n port e =
    let one = and_parts (nat_lt 0 n) (nat_lt 0 port && (nat_le port 64 && nat_le port (slice_index t.ports n))) e in
    let two = and_parts (nat_lt 0 port) (nat_le port 64 && nat_le port (slice_index t.ports n)) one.1 in
    let three = and_parts (nat_le port 64) (nat_le port (slice_index t.ports n)) two.1 in
    let some : 0 < n = ltb-true 0 n one.0 in
    let low : 0 < port = ltb-true 0 port two.0 in
    let high : port ≤ 64 = leb-true port 64 three.0 in
    let count : port ≤ slice_index t.ports n = leb-true port (slice_index t.ports n) three.1 in
    let home : device (port_of n port) ≡ n = omega arith in
    let back : port_of n port % 64 ≡ port - 1 = omega arith in
    record {
      low = low;
      high = high;
      count = count;
      deep = omega arith;
      known = rw (home, back) (lt-ltb (port - 1) (slice_index t.ports n) (omega arith));
      home = home;
      place = omega arith;
    }

pub port_there : (t : Shape) (q : ℕ) → 64 ≤ q → is_port t q ≡ true → has_port t (device q) (q % 64 + 1) ≡ true
port_there t q deep known =
    let few = ltb-true (q % 64) (slice_index t.ports (device q)) known in
    and_from _ _ (lt-ltb 0 (device q) (omega arith)) (and_from _ _ (lt-ltb 0 (q % 64 + 1) (omega arith))
    (and_from _ _ (le-leb (q % 64 + 1) 64 (omega arith)) (le-leb (q % 64 + 1) (slice_index t.ports (device q)) (omega (arith, few)))))

pub port_from : (t : Shape) (n port : ℕ) → 0 < n → 0 < port → port ≤ 64 → is_port t (port_of n port) ≡ true → has_port t n port ≡ true
port_from t n port some low high known =
    let home : port_of n port / 64 ≡ n = omega arith in
    let back : port_of n port % 64 ≡ port - 1 = omega arith in
    let few : port - 1 < slice_index t.ports n = ltb-true (port - 1) (slice_index t.ports n) (rw (home, back) at known) in
    and_from _ _ (lt-ltb 0 n some) (and_from _ _ (lt-ltb 0 port low) (and_from _ _ (le-leb port 64 high) (le-leb port (slice_index t.ports n) (omega (arith, few, low)))))

pub port_back : (q : ℕ) → port_of (device q) (q % 64 + 1) ≡ q
port_back q = omega arith

-- ---- the same tables
pub record Like (t : Shape) (x y : Tables) : Type 0 where
  pub own : (q : ℕ) → 64 ≤ q → is_port t q ≡ true → x.own q ≡ y.own q
  pub cascade : (q : ℕ) → 64 ≤ q → is_port t q ≡ true → x.cascade q ≡ y.cascade q
  pub pair : (e q : ℕ) → 64 ≤ q → is_port t q ≡ true → x.pair e q ≡ y.pair e q

by_there : (b c d : Bool) → (b ≡ true → c ≡ d) → (b && c) ≡ (b && d)
by_there true c d same = same refl
by_there false c d same = refl

number_by : (b : Bool) (c d : ℕ) → (b ≡ true → c ≡ d) → cond b c 0 ≡ cond b d 0
number_by true c d same = same refl
number_by false c d same = refl

pub like_tables : (t : Shape) (x y : Tables) → Like t x y → by_extender t x ≡ by_extender t y
like_tables t x y like = λ i n. record {
  ports = slice_index t.ports n;
  own = λ k. number_by (has_port t n k) (x.own (port_of n k)) (y.own (port_of n k)) (λ e. let p = port_at t n k e in like.own (port_of n k) p.deep p.known) i;
  cascade = λ k. by_there (has_port t n k) (x.cascade (port_of n k)) (y.cascade (port_of n k)) (λ e. let p = port_at t n k e in like.cascade (port_of n k) p.deep p.known) i;
  pair = λ e k. by_there (has_port t n k) (x.pair e (port_of n k)) (y.pair e (port_of n k)) (λ f. let p = port_at t n k f in like.pair e (port_of n k) p.deep p.known) i;
}

pub same_tables : (x y : Tables) → ((q : ℕ) → x.own q ≡ y.own q) → ((q : ℕ) → x.cascade q ≡ y.cascade q) → ((e q : ℕ) → x.pair e q ≡ y.pair e q) → x ≡ y
same_tables x y own cascade pair = λ i. record { own = λ q. own q i; cascade = λ q. cascade q i; pair = λ e q. pair e q i }

pub same_extender : (x y : ExtenderTables) → x.ports ≡ y.ports → ((k : ℕ) → x.own k ≡ y.own k) → ((k : ℕ) → x.cascade k ≡ y.cascade k) → ((e k : ℕ) → x.pair e k ≡ y.pair e k) → x ≡ y
same_extender x y ports own cascade pair = λ i. record { ports = ports i; own = λ k. own k i; cascade = λ k. cascade k i; pair = λ e k. pair e k i }

-- ---- runs
pub runs_append : (x y z : ℕ → ExtenderTables) (xs ys : List AskAt) → RunsAt x xs y → RunsAt y ys z → RunsAt x (xs ++ ys) z
runs_append x y z [] ys first second = subst (λ (a : ℕ → ExtenderTables). RunsAt a ys z) (sym first) second
runs_append x y z (a ∷ xs) ys first second = (first.0, runs_append (executes_at a.extender a.request x) y z xs ys first.1 second)

pub runs_to : (x y z : ℕ → ExtenderTables) (xs : List AskAt) → RunsAt x xs y → y ≡ z → RunsAt x xs z
runs_to x y z xs run same = subst (λ (a : ℕ → ExtenderTables). RunsAt x xs a) same run

pub runs_from : (x y z : ℕ → ExtenderTables) (xs : List AskAt) → x ≡ y → RunsAt y xs z → RunsAt x xs z
runs_from x y z xs same run = subst (λ (a : ℕ → ExtenderTables). RunsAt a xs z) (sym same) run

-- what a request with code 0 makes of the tables of all extenders
pub executes_to : (n : ℕ) (asked : Request) (all new : ℕ → ExtenderTables) → code_of (all n) asked ≡ 0 →
    ((m : ℕ) → m ≡ n → done (all m) asked ≡ new m) → ((m : ℕ) → m ≢ n → all m ≡ new m) → executes_at n asked all ≡ new
executes_to n asked all new good here other = λ i m. at m (cases_eq m n) i
  where
    at : (m : ℕ) → (m ≡ n) ⊎ (m ≢ n) → executes_at n asked all m ≡ new m
    at m (inl e) = rw (eq-eqb m n e) (executed_done (all m) asked (ap (λ (k : ℕ). code_of (all k) asked) e ∙ good) ∙ here m e)
    at m (inr d) = rw (ne_eqb m n d) (other m d)

pub runs_one : (n : ℕ) (asked : Request) (all new : ℕ → ExtenderTables) → code_of (all n) asked ≡ 0 →
    ((m : ℕ) → m ≡ n → done (all m) asked ≡ new m) → ((m : ℕ) → m ≢ n → all m ≡ new m) → RunsAt all (record { extender = n; request = asked } ∷ []) new
runs_one n asked all new good here other = (good, executes_to n asked all new good here other)

-- ---- extender after extender
abbrev pub AreDistinct : List ℕ → Type 0
AreDistinct [] = Unit {0}
AreDistinct (n ∷ ns) = (is_listed ns n ≡ false) × AreDistinct ns

-- Where the requests to each extender run whatever was done at others, they run one extender after another. What they do
-- is told of pairs, port by port.
module _ (t : Shape) (asks : ℕ → List AskAt) (change : Bool → ℕ → ℕ → Bool) where
  abbrev pub changed : (ℕ → Bool) → Tables → Tables
  changed at x = record x { pair = λ e q. cond (at (device q)) (change (x.pair e q) e q) (x.pair e q) }

  abbrev pub RunAtEach : (ℕ → Tables → Type 0) → Type 0
  RunAtEach Ready = (n : ℕ) (x : Tables) → Ready n x → RunsAt (by_extender t x) (asks n) (by_extender t (changed (λ m. m == n) x))

  abbrev pub StaysReady : (ℕ → Tables → Type 0) → Type 0
  StaysReady Ready = (n m : ℕ) (x : Tables) → m ≢ n → Ready m x → Ready m (changed (λ k. k == n) x)

  module _ (Ready : ℕ → Tables → Type 0) (run : RunAtEach Ready) (stays : StaysReady Ready) where
    pub runs_each : (ns : List ℕ) (x : Tables) → AreDistinct ns → ((n : ℕ) → is_listed ns n ≡ true → Ready n x) →
        RunsAt (by_extender t x) (flat_map asks ns) (by_extender t (changed (is_listed ns) x))
    runs_each [] x apart ready = refl
    runs_each (n ∷ ns) x apart ready =
        runs_append _ (by_extender t (changed (λ m. m == n) x)) _ (asks n) (flat_map asks ns) (run n x (ready n (ap (λ b. b || is_listed ns n) (eq-eqb n n refl))))
        (runs_to _ _ _ (flat_map asks ns)
        (runs_each ns (changed (λ m. m == n) x) apart.1 (λ m there. stays n m x (λ e. false≢true (sym apart.0 ∙ (ap (is_listed ns) (sym e) ∙ there))) (ready m (later m there))))
        (ap (by_extender t) (same_tables (changed (is_listed ns) (changed (λ m. m == n) x)) (changed (is_listed (n ∷ ns)) x) (λ q. refl) (λ q. refl) (λ e q. joined e q (cases_eq (device q) n)))))
      where
        later : (m : ℕ) → is_listed ns m ≡ true → (n == m || is_listed ns m) ≡ true
        later m there = or_right (n == m) (is_listed ns m) there

        joined : (e q : ℕ) → (device q ≡ n) ⊎ (device q ≢ n) →
            (changed (is_listed ns) (changed (λ m. m == n) x)).pair e q ≡ (changed (is_listed (n ∷ ns)) x).pair e q
        joined e q (inl same) =
            let off : is_listed ns (device q) ≡ false = ap (is_listed ns) same ∙ apart.0 in
            rw (off, eq-eqb (device q) n same, eq-eqb n (device q) (sym same)) refl
        joined e q (inr other) = rw (ne_eqb (device q) n other, ne_eqb n (device q) (λ f. other (sym f))) refl

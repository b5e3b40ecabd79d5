-- Laws of executing requests.
use Rattle.std.proofs.Common.{◌≡◌, ◌≢◌, ℕ, zero, suc, ◌+◌, ◌-◌, ◌<◌, ◌≤◌, ◌==◌, ◌&&◌, ◌||◌, not, Bool, true, false, cond, nat_lt, nat_le, List, [], ◌∷◌, ◌++◌, refl, ap, sym, ◌∙◌, subst, arith, inl, inr}
use mathlib.Core.Path.{fun_ext}
use Rattle.std.specs.List.{list_any, range_with_len}
use Rattle.std.specs.Int.{w64, bit_at, trailing_zeros}
use Rattle.std.proofs.lemmas.Bool.{both_ways, cases_eq, or_cases, and_right, ne_eqb, eq-eqb, or_parts, or_from, and_from, lt-ltb, le-leb, false_from_ne_true}
use Rattle.std.proofs.lemmas.Nat.Bits.{bit_at-trailing_zeros, bit_at-zero}
use Rattle.exb_model.specs.Ports.{below}
use Rattle.exb_model.proofs.PortLemmas.{any_below-true, any_below-false}
use Rattle.exb_csp.specs.declared.group_rows.GroupRow.{GroupRow}
use Rattle.exb_csp.specs.declared.message.Request.{Request}
use Rattle.exb_csp.specs.declared.message.Request.TheVariants.{Register, Unregister, RegisterMany, UnregisterMany}
use Rattle.exb_csp.specs.Execution.{ExtenderTables, in_mask, some_port, is_ecid, has_pair, has_stray, row_code, rows_code, clear_code, clears_code, code_of, in_rows, is_named, done, response_to, executed}
use Rattle.exb_csp.specs.Laws.{RefusedChangesNothing, ChangesRow, RegisterSetsTheMask, UnregisterClearsTheRow, Runs, row_by_row, one_by_one, RegisterManyIsItsRows, UnregisterManyIsItsEcids, HasPairExactly, SomeBitExactly}

-- ---- tests

pub or_false : (a : Bool) → (a || false) ≡ a
or_false true = refl
or_false false = refl

pub and_true : (a : Bool) → (a && true) ≡ a
and_true true = refl
and_true false = refl

pub or_assoc : (a b c : Bool) → ((a || b) || c) ≡ (a || (b || c))
or_assoc true b c = refl
or_assoc false b c = refl

pub both_out : (a b c : Bool) → ((a && not b) && not c) ≡ (a && not (b || c))
both_out true true c = refl
both_out true false c = refl
both_out false b c = refl

-- ---- done or refused

code_is : (t : ExtenderTables) (asked : Request) → (response_to t asked).code ≡ code_of t asked
unfolding response_to
code_is t asked = refl

pub executed_refused : (t : ExtenderTables) (asked : Request) → code_of t asked ≢ 0 → executed t asked ≡ t
unfolding executed
executed_refused t asked bad = let e : (code_of t asked == 0) ≡ false = ne_eqb _ _ bad in rw e refl

pub executed_done : (t : ExtenderTables) (asked : Request) → code_of t asked ≡ 0 → executed t asked ≡ done t asked
unfolding executed
executed_done t asked good = let e : (code_of t asked == 0) ≡ true = eq-eqb _ _ good in rw e refl

pub refused : RefusedChangesNothing
refused t asked bad = executed_refused t asked (λ z. bad (code_is t asked ∙ z))

-- ---- some port

pub some_port-true : (p : ℕ → Bool) (port : ℕ) → 0 < port → port ≤ 64 → p port ≡ true → some_port p ≡ true
unfolding some_port
some_port-true p port low high is =
    let e : port - 1 + 1 ≡ port = omega arith in
    any_below-true (λ k. p (k + 1)) 64 (port - 1) (omega arith) (rw e is)

pub some_port-false : (p : ℕ → Bool) → ((port : ℕ) → 0 < port → port ≤ 64 → p port ≡ false) → some_port p ≡ false
unfolding some_port
some_port-false p none = any_below-false (λ k. p (k + 1)) 64 (λ k lt. none (k + 1) (omega arith) (omega arith))

-- where no port passes, none does
pub no_port : (p : ℕ → Bool) (port : ℕ) → 0 < port → port ≤ 64 → some_port p ≡ false → p port ≡ false
no_port p port low high none = false_from_ne_true (p port) (λ is. both_ways (some_port p) none (some_port-true p port low high is))

-- a number below n, counted from a, that passes where one does
find_from : (p : ℕ → Bool) (a n : ℕ) → list_any p (range_with_len a n) ≡ true → (k : ℕ) × (a ≤ k) × (k < a + n) × (p k ≡ true)
find_from p a zero some = absurd cc
find_from p a (suc n) some =
    elim (or_cases (p a) (list_any p (range_with_len (a + 1) n)) some) [
      | inl here ↦ (a, omega arith, omega arith, here)
      | inr later ↦ let found = find_from p (a + 1) n later in (found.0, omega (arith, found.1), omega (arith, found.2), found.3)
    ]

pub find_port : (p : ℕ → Bool) → some_port p ≡ true → (port : ℕ) × (0 < port) × (port ≤ 64) × (p port ≡ true)
unfolding some_port below
find_port p some =
    let found = find_from (λ k. p (k + 1)) 0 64 some in
    (found.0 + 1, omega arith, omega (arith, found.2), found.3)

pub has_pair-exact : HasPairExactly
has_pair-exact t ecid = (find_port (t.pair ecid), λ found. some_port-true (t.pair ecid) found.0 found.1 found.2 found.3)

pub mask_empty : (port : ℕ) → in_mask 0 port ≡ false
unfolding in_mask
mask_empty port = rw bit_at-zero (and_right (nat_lt 0 port && nat_le port 64) false refl)

pub some_bit : SomeBitExactly
unfolding in_mask
some_bit mask small =
    elim (cases_eq mask 0) [
      | inl none ↦ rw none (some_port-false (in_mask 0) (λ port low high. mask_empty port))
      | inr some ↦
          let lowest = bit_at-trailing_zeros w64 mask (omega arith) small in
          let back : trailing_zeros w64 mask + 1 - 1 ≡ trailing_zeros w64 mask = omega arith in
          let low : nat_lt 0 (trailing_zeros w64 mask + 1) ≡ true = lt-ltb 0 (trailing_zeros w64 mask + 1) (omega arith) in
          let high : nat_le (trailing_zeros w64 mask + 1) 64 ≡ true = le-leb (trailing_zeros w64 mask + 1) 64 (omega (arith, lowest.0)) in
          let bit : (bit_at mask (trailing_zeros w64 mask + 1 - 1) == 1) ≡ true = rw back (eq-eqb _ _ lowest.1) in
          let set : in_mask mask (trailing_zeros w64 mask + 1) ≡ true = and_from _ _ (and_from _ _ low high) bit in
          let there : some_port (in_mask mask) ≡ true = some_port-true (in_mask mask) (trailing_zeros w64 mask + 1) (omega arith) (omega (arith, lowest.0)) set in
          let not_none : (mask == 0) ≡ false = ne_eqb _ _ some in
          there ∙ rw not_none refl
    ]

-- ---- codes and what they say

abbrev chosen : Bool → Bool → Bool → ℕ
chosen known stray there = cond (not known) 2 (cond stray 1 (cond there 3 0))

code_parts : (known stray there : Bool) → chosen known stray there ≡ 0 → (known ≡ true) × (stray ≡ false) × (there ≡ false)
code_parts true true there e = absurd cc
code_parts true false true e = absurd cc
code_parts true false false e = (refl, refl, refl)
code_parts false stray there e = absurd cc

-- what a row has that is registered with code 0
pub record IsFree (t : ExtenderTables) (seen : List GroupRow) (ecid mask : ℕ) : Type 0 where
  pub known : is_ecid ecid ≡ true
  pub placed : has_stray t mask ≡ false
  pub alone : has_pair t ecid ≡ false
  pub first : is_named seen ecid ≡ false

pub free_from : (t : ExtenderTables) (seen : List GroupRow) (ecid mask : ℕ) → row_code t seen ecid mask ≡ 0 → IsFree t seen ecid mask
free_from t seen ecid mask e =
    let parts = code_parts (is_ecid ecid) (has_stray t mask) (has_pair t ecid || is_named seen ecid) e in
    let both = or_parts (has_pair t ecid) (is_named seen ecid) parts.2 in
    record { known = parts.0; placed = parts.1; alone = both.0; first = both.1 }

code_free : (t : ExtenderTables) (seen : List GroupRow) (ecid mask : ℕ) → IsFree t seen ecid mask → row_code t seen ecid mask ≡ 0
code_free t seen ecid mask h = rw (h.known, h.placed, h.alone, h.first) refl

-- a list's code is 0 where its first one's is, and then the others'
pub head_done : (code rest : ℕ) → cond (code == 0) rest code ≡ 0 → (code ≡ 0) × (rest ≡ 0)
head_done code rest e =
    elim (cases_eq code 0) [
      | inl good ↦ let t : (code == 0) ≡ true = eq-eqb _ _ good in (good, rw t at e)
      | inr bad ↦ let t : (code == 0) ≡ false = ne_eqb _ _ bad in absurd (bad (rw t at e))
    ]

-- ---- one row

same_pairs : (t : ExtenderTables) (p q : ℕ → ℕ → Bool) → ((e port : ℕ) → p e port ≡ q e port) → record t { pair = p } ≡ record t { pair = q }
same_pairs t p q same = ap (λ (r : ℕ → ℕ → Bool). record t { pair = r }) (fun_ext (λ e. fun_ext (same e)))

pub register_sets : RegisterSetsTheMask
unfolding code_of done
register_sets t ecid mask good =
    let zero_code : code_of t (Register ecid mask) ≡ 0 = sym (code_is t (Register ecid mask)) ∙ good in
    let free = free_from t [] ecid mask zero_code in
    subst (λ (after : ExtenderTables). ChangesRow t after ecid (in_mask mask)) (sym (executed_done t (Register ecid mask) zero_code)) (record {
      row = λ port low high.
          let none : t.pair ecid port ≡ false = no_port (t.pair ecid) port low high free.alone in
          let same : (ecid == ecid) ≡ true = eq-eqb _ _ refl in
          rw (none, same) refl;
      others = λ other port apart.
          let e : (ecid == other) ≡ false = ne_eqb _ _ (λ z. apart (sym z)) in
          rw e (or_false (t.pair other port));
      kept = record { ports = refl; own = refl; cascade = refl };
    })

pub unregister_clears : UnregisterClearsTheRow
unfolding code_of done
unregister_clears t ecid good =
    let zero_code : code_of t (Unregister ecid) ≡ 0 = sym (code_is t (Unregister ecid)) ∙ good in
    subst (λ (after : ExtenderTables). ChangesRow t after ecid (λ _. false)) (sym (executed_done t (Unregister ecid) zero_code)) (record {
      row = λ port low high.
          let same : (ecid == ecid) ≡ true = eq-eqb _ _ refl in
          rw same (and_right (t.pair ecid port) false refl);
      others = λ other port apart.
          let e : (ecid == other) ≡ false = ne_eqb _ _ (λ z. apart (sym z)) in
          rw e (and_true (t.pair other port));
      kept = record { ports = refl; own = refl; cascade = refl };
    })

-- ---- rows one after another

-- an E-CID that isn't named by rows and one more
unnamed : (rows : List GroupRow) (row : GroupRow) (e : ℕ) → is_named (rows ++ row ∷ []) e ≡ false → (is_named rows e ≡ false) × ((row.ecid == e) ≡ false)
unnamed [] row e h = (refl, (or_parts (row.ecid == e) false h).0)
unnamed (first ∷ rows) row e h =
    let two = or_parts (first.ecid == e) (is_named (rows ++ row ∷ []) e) h in
    let later = unnamed rows row e two.1 in
    (or_from (first.ecid == e) (is_named rows e) two.0 later.0, later.1)

-- tables that differ from t at most in the pairs of the E-CIDs seen register the rows in turn
rows_run : (t : ExtenderTables) (rows : List GroupRow) (seen : List GroupRow) (p : ℕ → ℕ → Bool)
    → ((e port : ℕ) → is_named seen e ≡ false → p e port ≡ t.pair e port) → rows_code t seen rows ≡ 0
    → Runs (record t { pair = p }) (row_by_row rows) (record t { pair = λ e q. p e q || in_rows rows e q })
unfolding rows_code code_of done
rows_run t [] seen p fresh good = same_pairs t p (λ e q. p e q || false) (λ e q. sym (or_false (p e q)))
rows_run t (row ∷ rows) seen p fresh good =
    let parts = head_done (row_code t seen row.ecid row.mask) (rows_code t (seen ++ row ∷ []) rows) good in
    let free = free_from t seen row.ecid row.mask parts.0 in
    let now : ExtenderTables = record t { pair = p } in
    let alone : has_pair now row.ecid ≡ false = some_port-false (p row.ecid) (λ port low high. fresh row.ecid port free.first ∙ no_port (t.pair row.ecid) port low high free.alone) in
    let code : code_of now (Register row.ecid row.mask) ≡ 0 = code_free now [] row.ecid row.mask (record { known = free.known; placed = free.placed; alone = alone; first = refl }) in
    let next : ℕ → ℕ → Bool = λ e q. p e q || ((row.ecid == e) && in_mask row.mask q) in
    let later : Runs (record t { pair = next }) (row_by_row rows) (record t { pair = λ e q. next e q || in_rows rows e q }) =
    rows_run t rows (seen ++ row ∷ []) next
    (λ e port unseen.
    let two = unnamed seen row e unseen in
    let other : (row.ecid == e) ≡ false = two.1 in
    rw other (or_false (p e port) ∙ fresh e port two.0))
    parts.1 in
    let end : record t { pair = λ e q. next e q || in_rows rows e q } ≡ record t { pair = λ e q. p e q || in_rows (row ∷ rows) e q } =
    same_pairs t _ _ (λ e q. or_assoc (p e q) ((row.ecid == e) && in_mask row.mask q) (in_rows rows e q)) in
    let moved : executed now (Register row.ecid row.mask) ≡ record t { pair = next } = executed_done now (Register row.ecid row.mask) code in (
      code_is now (Register row.ecid row.mask) ∙ code,
      subst (λ (from : ExtenderTables). Runs from (row_by_row rows) (record t { pair = λ e q. p e q || in_rows (row ∷ rows) e q })) (sym moved)
          (subst (λ (to : ExtenderTables). Runs (record t { pair = next }) (row_by_row rows) to) end later),
    )

pub register_many : RegisterManyIsItsRows
unfolding code_of done
register_many t rows good =
    let zero_code : code_of t (RegisterMany rows) ≡ 0 = sym (code_is t (RegisterMany rows)) ∙ good in
    subst (λ (after : ExtenderTables). Runs t (row_by_row rows) after) (sym (executed_done t (RegisterMany rows) zero_code))
    (rows_run t rows [] t.pair (λ e port unseen. refl) zero_code)

-- ---- E-CIDs one after another

ecids_run : (t : ExtenderTables) (ecids : List ℕ) (p : ℕ → ℕ → Bool) → clears_code ecids ≡ 0
    → Runs (record t { pair = p }) (one_by_one ecids) (record t { pair = λ e q. p e q && not (list_any (λ ecid. ecid == e) ecids) })
unfolding clears_code code_of done
ecids_run t [] p good = same_pairs t p (λ e q. p e q && true) (λ e q. sym (and_true (p e q)))
ecids_run t (ecid ∷ ecids) p good =
    let parts = head_done (clear_code ecid) (clears_code ecids) good in
    let now : ExtenderTables = record t { pair = p } in
    let next : ℕ → ℕ → Bool = λ e q. p e q && not (ecid == e) in
    let later : Runs (record t { pair = next }) (one_by_one ecids) (record t { pair = λ e q. next e q && not (list_any (λ other. other == e) ecids) }) = ecids_run t ecids next parts.1 in
    let end : record t { pair = λ e q. next e q && not (list_any (λ other. other == e) ecids) } ≡ record t { pair = λ e q. p e q && not (list_any (λ other. other == e) (ecid ∷ ecids)) } =
    same_pairs t _ _ (λ e q. both_out (p e q) (ecid == e) (list_any (λ other. other == e) ecids)) in
    let moved : executed now (Unregister ecid) ≡ record t { pair = next } = executed_done now (Unregister ecid) parts.0 in (
      code_is now (Unregister ecid) ∙ parts.0,
      subst (λ (from : ExtenderTables). Runs from (one_by_one ecids) (record t { pair = λ e q. p e q && not (list_any (λ other. other == e) (ecid ∷ ecids)) })) (sym moved)
          (subst (λ (to : ExtenderTables). Runs (record t { pair = next }) (one_by_one ecids) to) end later),
    )

pub unregister_many : UnregisterManyIsItsEcids
unfolding code_of done
unregister_many t ecids good =
    let zero_code : code_of t (UnregisterMany ecids) ≡ 0 = sym (code_is t (UnregisterMany ecids)) ∙ good in
    subst (λ (after : ExtenderTables). Runs t (one_by_one ecids) after) (sym (executed_done t (UnregisterMany ecids) zero_code)) (ecids_run t ecids t.pair zero_code)

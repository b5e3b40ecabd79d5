-- The tables of all extenders, and what a request to one of them does there.
use Rattle.std.proofs.Common.{◌≡◌, ◌≢◌, ◌⊎◌, ℕ, ◌+◌, ◌-◌, ◌%◌, ◌<◌, ◌≤◌, ◌==◌, ◌&&◌, ◌||◌, not, Bool, true, false, cond, nat_lt, nat_le, List, [], ◌∷◌, refl, ap, sym, ◌∙◌, subst, arith, inl, inr}
use Rattle.std.specs.Int.{bit_at}
use Rattle.std.proofs.lemmas.Bool.{and_parts, ltb-true, leb-true, cases_eq, cases_Bool, and_right, eq-eqb, ne_eqb, lt-ltb, le-leb}
use Rattle.exb_model.specs.Tree.{device}
use Rattle.exb_model.specs.ExtenderForwarding.{Tables}
use Rattle.exb_csp.specs.declared.group_rows.GroupRow.{GroupRow}
use Rattle.exb_csp.specs.declared.message.Request.{Request}
use Rattle.exb_csp.specs.declared.message.Request.TheVariants.{Open, PortCreate, PortDelete, Register, Unregister, RegisterMany, UnregisterMany}
use Rattle.exb_csp.specs.Execution.{ExtenderTables, in_mask, in_rows, is_listed, create_code, code_of, done}
use Rattle.exb_csp.proofs.ExecutionLaws.{executed_done, executed_refused, or_false, and_true, or_assoc}
use Rattle.exb_csp.specs.AllTables.{tables_at, port_of, executes_at, has_bit, has_row, done_at, in_masks}
use Rattle.exb_csp.specs.AllTablesLaws.{DoneAtEachPort, RefusedAtNoPort, RunsLayRows}

same_all : (a b : Tables) → ((q : ℕ) → a.own q ≡ b.own q) → ((q : ℕ) → a.cascade q ≡ b.cascade q) → ((e q : ℕ) → a.pair e q ≡ b.pair e q) → a ≡ b
same_all a b own cascade pair = λ i. record { own = λ q. own q i; cascade = λ q. cascade q i; pair = λ e q. pair e q i }

-- ---- ports

-- tests that are about the same
same_tests : (a b c d : ℕ) → (a ≡ b → c ≡ d) → (c ≡ d → a ≡ b) → (a == b) ≡ (c == d)
same_tests a b c d to from =
    elim (cases_eq a b) [
      | inl same ↦ eq-eqb a b same ∙ sym (eq-eqb c d (to same))
      | inr other ↦ ne_eqb a b other ∙ sym (ne_eqb c d (λ z. other (from z)))
    ]

-- at the extender itself its port is known by its number there
port_here : (n q port : ℕ) → device q ≡ n → 0 < port → port ≤ 64 → (q % 64 + 1 == port) ≡ (q == port_of n port)
port_here n q port here low high = same_tests (q % 64 + 1) port q (port_of n port) (λ z. omega arith) (λ z. omega arith)

port_there : (n q port : ℕ) → device q ≢ n → 0 < port → port ≤ 64 → (q == port_of n port) ≡ false
port_there n q port away low high = ne_eqb q (port_of n port) (λ z. away (omega arith))

bit_here : (mask q : ℕ) → in_mask mask (q % 64 + 1) ≡ (bit_at mask (q % 64) == 1)
unfolding in_mask
bit_here mask q =
    let some : nat_lt 0 (q % 64 + 1) ≡ true = lt-ltb 0 (q % 64 + 1) (omega arith) in
    let few : nat_le (q % 64 + 1) 64 ≡ true = le-leb (q % 64 + 1) 64 (omega arith) in
    let back : q % 64 + 1 - 1 ≡ q % 64 = omega arith in
    rw (some, few, back) refl

bit_at_extender : (n mask q : ℕ) → device q ≡ n → in_mask mask (q % 64 + 1) ≡ has_bit n mask q
bit_at_extender n mask q here = let e : (device q == n) ≡ true = eq-eqb _ _ here in rw e (bit_here mask q)

bit_elsewhere : (n mask q : ℕ) → device q ≢ n → has_bit n mask q ≡ false
bit_elsewhere n mask q away = let e : (device q == n) ≡ false = ne_eqb _ _ away in rw e refl

rows_at_extender : (n : ℕ) (rows : List GroupRow) (e q : ℕ) → device q ≡ n → in_rows rows e (q % 64 + 1) ≡ has_row n rows e q
rows_at_extender n [] e q here = refl
rows_at_extender n (row ∷ rows) e q here =
    ap (λ b. ((row.ecid == e) && b) || in_rows rows e (q % 64 + 1)) (bit_at_extender n row.mask q here)
    ∙ ap (λ b. ((row.ecid == e) && has_bit n row.mask q) || b) (rows_at_extender n rows e q here)

rows_elsewhere : (n : ℕ) (rows : List GroupRow) (e q : ℕ) → device q ≢ n → has_row n rows e q ≡ false
rows_elsewhere n [] e q away = refl
rows_elsewhere n (row ∷ rows) e q away =
    ap (λ b. ((row.ecid == e) && b) || has_row n rows e q) (bit_elsewhere n row.mask q away)
    ∙ ap (λ b. b || has_row n rows e q) (and_right (row.ecid == e) false refl)
    ∙ rows_elsewhere n rows e q away

-- the ports that a request with code 0 names
not_none : (n : ℕ) → 0 < n → n ≢ 0
not_none n some none = omega arith

created_port : (t : ExtenderTables) (port channel : ℕ) → t.ports ≤ 64 → create_code t port channel ≡ 0 → (0 < port) × (port ≤ 64)
created_port t port channel few good =
    elim (cases_Bool (nat_lt 0 port && nat_le port t.ports)) [
      | inl there ↦
          let parts = and_parts (nat_lt 0 port) (nat_le port t.ports) there in
          let count : port ≤ t.ports = leb-true port t.ports parts.1 in
          (ltb-true 0 port parts.0, omega arith)
      | inr out ↦ absurd (not_none 1 (omega arith) (rw out at good))
    ]

deleted_port : (t : ExtenderTables) (port : ℕ) → t.ports ≤ 64 → ◌≡◌ {A = ℕ} (cond (nat_lt 0 port && nat_le port t.ports) 0 1) 0 → (0 < port) × (port ≤ 64)
deleted_port t port few good =
    elim (cases_Bool (nat_lt 0 port && nat_le port t.ports)) [
      | inl there ↦
          let parts = and_parts (nat_lt 0 port) (nat_le port t.ports) there in
          let count : port ≤ t.ports = leb-true port t.ports parts.1 in
          (ltb-true 0 port parts.0, omega arith)
      | inr out ↦ absurd (not_none 1 (omega arith) (rw out at good))
    ]

-- ---- at the extender

-- the pair of a port whose channel is taken back
deleted_pair : (t : ExtenderTables) (n q port e : ℕ) → device q ≡ n → 0 < port → port ≤ 64
    → (t.pair e (q % 64 + 1) && not (nat_lt 0 (t.own port) && ((e == t.own port) && (q % 64 + 1 == port))))
    ≡ (t.pair e (q % 64 + 1) && not (nat_lt 0 (t.own (q % 64 + 1)) && ((e == t.own (q % 64 + 1)) && (q == port_of n port))))
deleted_pair t n q port e here low high =
    elim (cases_eq (q % 64 + 1) port) [
      | inl same ↦
          ap (λ b. t.pair e (q % 64 + 1) && not (nat_lt 0 (t.own port) && ((e == t.own port) && b))) (port_here n q port here low high)
          ∙ ap (λ k. t.pair e (q % 64 + 1) && not (nat_lt 0 (t.own k) && ((e == t.own k) && (q == port_of n port)))) (sym same)
      | inr other ↦
          let apart : (q % 64 + 1 == port) ≡ false = ne_eqb _ _ other in
          ap (λ b. t.pair e (q % 64 + 1) && not b) (none_of (nat_lt 0 (t.own port)) (e == t.own port) (q % 64 + 1 == port) apart)
          ∙ ap (λ b. t.pair e (q % 64 + 1) && not b) (sym (none_of (nat_lt 0 (t.own (q % 64 + 1))) (e == t.own (q % 64 + 1)) (q == port_of n port) (sym (port_here n q port here low high) ∙ apart)))
    ]
  where
    none_of : (a b c : Bool) → c ≡ false → (a && (b && c)) ≡ false
    none_of a b c off = and_right a (b && c) (and_right b c off)

-- the channel of a port and what a request makes of it
module _ (all : ℕ → ExtenderTables) (n q : ℕ) (here : device q ≡ n) (few : (all (device q)).ports ≤ 64) where
  own_here : (asked : Request) → code_of (all (device q)) asked ≡ 0 → (done (all (device q)) asked).own (q % 64 + 1) ≡ (done_at n asked (tables_at all)).own q
  unfolding code_of done
  own_here Open good = refl
  own_here (PortCreate port kind channel) good =
      let there = created_port (all (device q)) port channel few good in
      ap (λ b. cond b channel ((all (device q)).own (q % 64 + 1))) (port_here n q port here there.0 there.1)
  own_here (PortDelete port) good =
      let there = deleted_port (all (device q)) port few good in
      ap (λ b. cond b 0 ((all (device q)).own (q % 64 + 1))) (port_here n q port here there.0 there.1)
  own_here (Register ecid mask) good = refl
  own_here (Unregister ecid) good = refl
  own_here (RegisterMany rows) good = refl
  own_here (UnregisterMany ecids) good = refl

  cascade_here : (asked : Request) → code_of (all (device q)) asked ≡ 0 → (done (all (device q)) asked).cascade (q % 64 + 1) ≡ (done_at n asked (tables_at all)).cascade q
  unfolding code_of done
  cascade_here Open good = refl
  cascade_here (PortCreate port kind channel) good =
      let there = created_port (all (device q)) port channel few good in
      ap (λ b. cond b kind ((all (device q)).cascade (q % 64 + 1))) (port_here n q port here there.0 there.1)
  cascade_here (PortDelete port) good = refl
  cascade_here (Register ecid mask) good = refl
  cascade_here (Unregister ecid) good = refl
  cascade_here (RegisterMany rows) good = refl
  cascade_here (UnregisterMany ecids) good = refl

  pair_here : (asked : Request) (e : ℕ) → code_of (all (device q)) asked ≡ 0 → (done (all (device q)) asked).pair e (q % 64 + 1) ≡ (done_at n asked (tables_at all)).pair e q
  unfolding code_of done
  pair_here Open e good = refl
  pair_here (PortCreate port kind channel) e good =
      let there = created_port (all (device q)) port channel few good in
      ap (λ b. (all (device q)).pair e (q % 64 + 1) || ((e == channel) && b)) (port_here n q port here there.0 there.1)
  pair_here (PortDelete port) e good =
      let there = deleted_port (all (device q)) port few good in
      deleted_pair (all (device q)) n q port e here there.0 there.1
  pair_here (Register ecid mask) e good = ap (λ b. (all (device q)).pair e (q % 64 + 1) || ((ecid == e) && b)) (bit_at_extender n mask q here)
  pair_here (Unregister ecid) e good =
      ap (λ b. (all (device q)).pair e (q % 64 + 1) && not (b && (ecid == e))) (sym (eq-eqb (device q) n here))
  pair_here (RegisterMany rows) e good = ap (λ b. (all (device q)).pair e (q % 64 + 1) || b) (rows_at_extender n rows e q here)
  pair_here (UnregisterMany ecids) e good =
      ap (λ b. (all (device q)).pair e (q % 64 + 1) && not (b && is_listed ecids e)) (sym (eq-eqb (device q) n here))

-- ---- elsewhere

module _ (all : ℕ → ExtenderTables) (n q : ℕ) (away : device q ≢ n) (few : (all n).ports ≤ 64) where
  own_away : (asked : Request) → code_of (all n) asked ≡ 0 → (all (device q)).own (q % 64 + 1) ≡ (done_at n asked (tables_at all)).own q
  unfolding code_of
  own_away Open good = refl
  own_away (PortCreate port kind channel) good =
      let there = created_port (all n) port channel few good in
      ap (λ b. cond b channel ((all (device q)).own (q % 64 + 1))) (sym (port_there n q port away there.0 there.1))
  own_away (PortDelete port) good =
      let there = deleted_port (all n) port few good in
      ap (λ b. cond b 0 ((all (device q)).own (q % 64 + 1))) (sym (port_there n q port away there.0 there.1))
  own_away (Register ecid mask) good = refl
  own_away (Unregister ecid) good = refl
  own_away (RegisterMany rows) good = refl
  own_away (UnregisterMany ecids) good = refl

  cascade_away : (asked : Request) → code_of (all n) asked ≡ 0 → (all (device q)).cascade (q % 64 + 1) ≡ (done_at n asked (tables_at all)).cascade q
  unfolding code_of
  cascade_away Open good = refl
  cascade_away (PortCreate port kind channel) good =
      let there = created_port (all n) port channel few good in
      ap (λ b. cond b kind ((all (device q)).cascade (q % 64 + 1))) (sym (port_there n q port away there.0 there.1))
  cascade_away (PortDelete port) good = refl
  cascade_away (Register ecid mask) good = refl
  cascade_away (Unregister ecid) good = refl
  cascade_away (RegisterMany rows) good = refl
  cascade_away (UnregisterMany ecids) good = refl

  more_none : (had b c : Bool) → c ≡ false → had ≡ (had || (b && c))
  more_none had b c off = sym (ap (λ x. had || x) (and_right b c off) ∙ or_false had)

  less_none : (had b : Bool) → b ≡ false → had ≡ (had && not b)
  less_none had b off = sym (ap (λ x. had && not x) off ∙ and_true had)

  pair_away : (asked : Request) (e : ℕ) → code_of (all n) asked ≡ 0 → (all (device q)).pair e (q % 64 + 1) ≡ (done_at n asked (tables_at all)).pair e q
  unfolding code_of
  pair_away Open e good = refl
  pair_away (PortCreate port kind channel) e good =
      let there = created_port (all n) port channel few good in
      more_none ((all (device q)).pair e (q % 64 + 1)) (e == channel) (q == port_of n port) (port_there n q port away there.0 there.1)
  pair_away (PortDelete port) e good =
      let there = deleted_port (all n) port few good in
      let own = (all (device q)).own (q % 64 + 1) in
      less_none ((all (device q)).pair e (q % 64 + 1)) (nat_lt 0 own && ((e == own) && (q == port_of n port)))
      (and_right (nat_lt 0 own) ((e == own) && (q == port_of n port)) (and_right (e == own) (q == port_of n port) (port_there n q port away there.0 there.1)))
  pair_away (Register ecid mask) e good = more_none ((all (device q)).pair e (q % 64 + 1)) (ecid == e) (has_bit n mask q) (bit_elsewhere n mask q away)
  pair_away (Unregister ecid) e good =
      less_none ((all (device q)).pair e (q % 64 + 1)) ((device q == n) && (ecid == e)) (ap (λ b. b && (ecid == e)) (ne_eqb (device q) n away))
  pair_away (RegisterMany rows) e good = sym (ap (λ b. (all (device q)).pair e (q % 64 + 1) || b) (rows_elsewhere n rows e q away) ∙ or_false ((all (device q)).pair e (q % 64 + 1)))
  pair_away (UnregisterMany ecids) e good =
      less_none ((all (device q)).pair e (q % 64 + 1)) ((device q == n) && is_listed ecids e) (ap (λ b. b && is_listed ecids e) (ne_eqb (device q) n away))

-- ---- everywhere

-- the tables of q's extender after a request to extender n
module _ (all : ℕ → ExtenderTables) (n q : ℕ) (asked : Request) where
  at_here : device q ≡ n → code_of (all n) asked ≡ 0 → executes_at n asked all (device q) ≡ done (all (device q)) asked
  at_here here good =
      let e : (device q == n) ≡ true = eq-eqb _ _ here in
      rw e (executed_done (all (device q)) asked (ap (λ m. code_of (all m) asked) here ∙ good))

  at_away : device q ≢ n → executes_at n asked all (device q) ≡ all (device q)
  at_away away = let e : (device q == n) ≡ false = ne_eqb _ _ away in rw e refl

pub done_at_each_port : DoneAtEachPort
done_at_each_port all n asked few good =
    same_all (tables_at (executes_at n asked all)) (done_at n asked (tables_at all))
    (λ q. own_at q (cases_eq (device q) n)) (λ q. cascade_at q (cases_eq (device q) n)) (λ e q. pair_at e q (cases_eq (device q) n))
  where
    few_here : (q : ℕ) → device q ≡ n → (all (device q)).ports ≤ 64
    few_here q here = subst (λ m. (all m).ports ≤ 64) (sym here) few

    good_here : (q : ℕ) → device q ≡ n → code_of (all (device q)) asked ≡ 0
    good_here q here = ap (λ m. code_of (all m) asked) here ∙ good

    own_at : (q : ℕ) → (device q ≡ n) ⊎ (device q ≢ n) → (executes_at n asked all (device q)).own (q % 64 + 1) ≡ (done_at n asked (tables_at all)).own q
    own_at q (inl here) = ap (λ (t : ExtenderTables). t.own (q % 64 + 1)) (at_here all n q asked here good) ∙ own_here all n q here (few_here q here) asked (good_here q here)
    own_at q (inr away) = ap (λ (t : ExtenderTables). t.own (q % 64 + 1)) (at_away all n q asked away) ∙ own_away all n q away few asked good

    cascade_at : (q : ℕ) → (device q ≡ n) ⊎ (device q ≢ n) → (executes_at n asked all (device q)).cascade (q % 64 + 1) ≡ (done_at n asked (tables_at all)).cascade q
    cascade_at q (inl here) = ap (λ (t : ExtenderTables). t.cascade (q % 64 + 1)) (at_here all n q asked here good) ∙ cascade_here all n q here (few_here q here) asked (good_here q here)
    cascade_at q (inr away) = ap (λ (t : ExtenderTables). t.cascade (q % 64 + 1)) (at_away all n q asked away) ∙ cascade_away all n q away few asked good

    pair_at : (e q : ℕ) → (device q ≡ n) ⊎ (device q ≢ n) → (executes_at n asked all (device q)).pair e (q % 64 + 1) ≡ (done_at n asked (tables_at all)).pair e q
    pair_at e q (inl here) = ap (λ (t : ExtenderTables). t.pair e (q % 64 + 1)) (at_here all n q asked here good) ∙ pair_here all n q here (few_here q here) asked e (good_here q here)
    pair_at e q (inr away) = ap (λ (t : ExtenderTables). t.pair e (q % 64 + 1)) (at_away all n q asked away) ∙ pair_away all n q away few asked e good

pub refused_at_no_port : RefusedAtNoPort
refused_at_no_port all n asked bad = ap tables_at (λ i m. kept m (cases_eq m n) i)
  where
    kept : (m : ℕ) → (m ≡ n) ⊎ (m ≢ n) → executes_at n asked all m ≡ all m
    kept m (inl same) = let e : (m == n) ≡ true = eq-eqb _ _ same in rw e (executed_refused (all m) asked (λ z. bad (ap (λ k. code_of (all k) asked) (sym same) ∙ z)))
    kept m (inr other) = let e : (m == n) ≡ false = ne_eqb _ _ other in rw e refl

-- ---- runs

register_done : (t : ExtenderTables) (number mask : ℕ) → done t (Register number mask) ≡ record t { pair = λ e q. t.pair e q || ((number == e) && in_mask mask q) }
unfolding done
register_done t number mask = refl

-- a Register that is done
registered_at : (all : ℕ → ExtenderTables) (n number mask : ℕ) → code_of (all n) (Register number mask) ≡ 0
    → tables_at (executes_at n (Register number mask) all) ≡ done_at n (Register number mask) (tables_at all)
registered_at all n number mask good =
    same_all (tables_at (executes_at n (Register number mask) all)) (done_at n (Register number mask) (tables_at all))
    (λ q. own_at q (cases_eq (device q) n)) (λ q. cascade_at q (cases_eq (device q) n)) (λ e q. pair_at e q (cases_eq (device q) n))
  where
    unfolded : (t : ExtenderTables) → done t (Register number mask) ≡ record t { pair = λ e q. t.pair e q || ((number == e) && in_mask mask q) }
    unfolded t = register_done t number mask

    own_at : (q : ℕ) → (device q ≡ n) ⊎ (device q ≢ n) → (executes_at n (Register number mask) all (device q)).own (q % 64 + 1) ≡ (all (device q)).own (q % 64 + 1)
    own_at q (inl here) = ap (λ (t : ExtenderTables). t.own (q % 64 + 1)) (at_here all n q (Register number mask) here good ∙ unfolded (all (device q)))
    own_at q (inr away) = ap (λ (t : ExtenderTables). t.own (q % 64 + 1)) (at_away all n q (Register number mask) away)

    cascade_at : (q : ℕ) → (device q ≡ n) ⊎ (device q ≢ n) → (executes_at n (Register number mask) all (device q)).cascade (q % 64 + 1) ≡ (all (device q)).cascade (q % 64 + 1)
    cascade_at q (inl here) = ap (λ (t : ExtenderTables). t.cascade (q % 64 + 1)) (at_here all n q (Register number mask) here good ∙ unfolded (all (device q)))
    cascade_at q (inr away) = ap (λ (t : ExtenderTables). t.cascade (q % 64 + 1)) (at_away all n q (Register number mask) away)

    pair_at : (e q : ℕ) → (device q ≡ n) ⊎ (device q ≢ n) → (executes_at n (Register number mask) all (device q)).pair e (q % 64 + 1) ≡ ((all (device q)).pair e (q % 64 + 1) || ((number == e) && has_bit n mask q))
    pair_at e q (inl here) =
        ap (λ (t : ExtenderTables). t.pair e (q % 64 + 1)) (at_here all n q (Register number mask) here good ∙ unfolded (all (device q)))
        ∙ ap (λ b. (all (device q)).pair e (q % 64 + 1) || ((number == e) && b)) (bit_at_extender n mask q here)
    pair_at e q (inr away) =
        ap (λ (t : ExtenderTables). t.pair e (q % 64 + 1)) (at_away all n q (Register number mask) away)
        ∙ sym (ap (λ b. (all (device q)).pair e (q % 64 + 1) || b) (and_right (number == e) (has_bit n mask q) (bit_elsewhere n mask q away)) ∙ or_false ((all (device q)).pair e (q % 64 + 1)))

pub runs_lay_rows : RunsLayRows
runs_lay_rows all end number [] same = record {
  row = λ q. ap (λ (a : ℕ → ExtenderTables). (tables_at a).pair number q) (sym same) ∙ sym (or_false ((tables_at all).pair number q));
  others = λ e q apart. ap (λ (a : ℕ → ExtenderTables). (tables_at a).pair e q) (sym same);
  own = λ q. ap (λ (a : ℕ → ExtenderTables). (tables_at a).own q) (sym same);
  cascade = λ q. ap (λ (a : ℕ → ExtenderTables). (tables_at a).cascade q) (sym same);
}
runs_lay_rows all end number (m ∷ masks) run =
    let first = registered_at all m.extender number m.mask run.0 in
    let rest = runs_lay_rows (executes_at m.extender (Register number m.mask) all) end number masks run.1 in
    let here : (number == number) ≡ true = eq-eqb _ _ refl in
    record {
      row = λ q.
          rest.row q
          ∙ ap (λ (t : Tables). t.pair number q || in_masks masks q) first
          ∙ ap (λ b. ((tables_at all).pair number q || (b && has_bit m.extender m.mask q)) || in_masks masks q) here
          ∙ or_assoc ((tables_at all).pair number q) (has_bit m.extender m.mask q) (in_masks masks q);
      others = λ e q apart.
          rest.others e q apart
          ∙ ap (λ (t : Tables). t.pair e q) first
          ∙ ap (λ b. (tables_at all).pair e q || (b && has_bit m.extender m.mask q)) (ne_eqb number e (λ z. apart (sym z)))
          ∙ or_false ((tables_at all).pair e q);
      own = λ q. rest.own q ∙ ap (λ (t : Tables). t.own q) first;
      cascade = λ q. rest.cascade q ∙ ap (λ (t : Tables). t.cascade q) first;
    }

-- The tables that are kept, as tables: masks and rows, codes, and what a request leaves.
use Rattle.std.proofs.Common.{◌≡◌, ◌≢◌, ◌⊎◌, ℕ, ◌+◌, ◌-◌, ◌*◌, ◌/◌, ◌%◌, ◌^◌, ◌<◌, ◌≤◌, ◌==◌, ◌&&◌, ◌||◌, not, Bool, true, false, cond, nat_lt, nat_le, List, [], ◌∷◌, length, get_or, set, replicate, take, refl, ap, sym, ◌∙◌, arith, bit_and, bit_or, inl, inr}
use Rattle.std.specs.Int.{w64, bit_at}
use Rattle.std.proofs.lemmas.Bool.{and_parts, ltb-true, leb-true, cases_eq, cases_lt, cases_Bool, le-ltb, and_right, and_from, ne_eqb, eq-eqb, lt-ltb, le-leb}
use Rattle.std.proofs.lemmas.List.{get_or-set_other, get_or-set_same, length-replicate}
use Rattle.std.proofs.lemmas.Nat.Bits.{shr_and_one, bit_at_clear_same, bit_at_clear_other}
use Rattle.exb_csp.specs.declared.group_rows.GroupRow.{GroupRow}
use Rattle.exb_csp.specs.declared.message.Request.{Request}
use Rattle.exb_csp.specs.declared.message.Request.TheVariants.{Open, PortCreate, PortDelete, Register, Unregister, RegisterMany, UnregisterMany}
use Rattle.exb_csp.specs.declared.message.RequestKind.{RequestKind}
use Rattle.exb_csp.specs.declared.message.Response.{Response}
use Rattle.exb_csp.specs.RequestKinds.{kind_of}
use Rattle.exb_csp.specs.Execution.{ExtenderTables, answered_ports, response_to, in_mask, has_stray, create_code, row_code, rows_code, clear_code, clears_code, in_rows, is_listed, code_of, done, executed}
use Rattle.exb_csp.specs.PortMasks.{AddsRows, ClearsRows, ClearsPair, powered_on}
use Rattle.exb_csp.proofs.ExecutionLaws.{or_false, and_true, or_assoc, both_out, mask_empty, some_port-true, some_port-false, executed_done, executed_refused}
use Rattle.exb_csp.proofs.ExecutionLoops.{no_row, in_mask-or, in_rows-next, is_listed-next, one_row, without}
use Rattle.exb_model.proofs.PortBits.{get_or-same}
use Rattle.exb_extender.specs.TableInvariant.{IsKept}
use Rattle.exb_extender.specs.TableRows.{tables_in}

-- ---- masks and rows

-- the bit of a port, as it is tested
pub port_bit : (mask port : ℕ) → 0 < port → port ≤ 64 → (bit_and (mask / 2 ^ (port - 1)) 1 == 1) ≡ in_mask mask port
unfolding in_mask
port_bit mask port low high =
    let some : nat_lt 0 port ≡ true = lt-ltb 0 port low in
    let few : nat_le port 64 ≡ true = le-leb port 64 high in
    rw (some, few, shr_and_one mask (port - 1)) refl

-- ports that are added to one row
pub row_added : (old new : List ℕ) (ecid mask word : ℕ) → word ≡ get_or old ecid 0
    → ((e : ℕ) → get_or new e 0 ≡ cond (e == ecid) (bit_or word mask) (get_or old e 0))
    → AddsRows old new (record { ecid = ecid; mask = mask } ∷ [])
row_added old new ecid mask word is put e port =
    elim (cases_eq e ecid) [
      | inl same ↦
          let here : (ecid == e) ≡ true = eq-eqb _ _ (sym same) in
          let there : (e == ecid) ≡ true = eq-eqb _ _ same in
          let word_is : get_or new e 0 ≡ bit_or (get_or old e 0) mask = put e ∙ (rw there (ap (λ w. bit_or w mask) (is ∙ ap (λ k. get_or old k 0) (sym same)))) in
          rw (word_is, here) (in_mask-or (get_or old e 0) mask port ∙ ap (λ b. in_mask (get_or old e 0) port || b) (sym (or_false (in_mask mask port))))
      | inr other ↦
          let apart : (ecid == e) ≡ false = ne_eqb _ _ (λ z. other (sym z)) in
          let away : (e == ecid) ≡ false = ne_eqb _ _ other in
          let word_is : get_or new e 0 ≡ get_or old e 0 = put e ∙ (rw away refl) in
          rw (word_is, apart) (sym (or_false (in_mask (get_or old e 0) port)))
    ]

-- rows that are added one after another
pub rows_added : (old mid new : List ℕ) (rows : List GroupRow) (i : ℕ) → i < length rows
    → AddsRows old mid (take i rows) → AddsRows mid new (get_or rows i no_row ∷ []) → AddsRows old new (take (i + 1) rows)
rows_added old mid new rows i within so_far more e port =
    more e port
    ∙ ap (λ b. in_mask (get_or mid e 0) port || b) (or_false (((get_or rows i no_row).ecid == e) && in_mask (get_or rows i no_row).mask port))
    ∙ ap (λ b. b || (((get_or rows i no_row).ecid == e) && in_mask (get_or rows i no_row).mask port)) (so_far e port)
    ∙ or_assoc (in_mask (get_or old e 0) port) (in_rows (take i rows) e port) (((get_or rows i no_row).ecid == e) && in_mask (get_or rows i no_row).mask port)
    ∙ ap (λ b. in_mask (get_or old e 0) port || b) (sym (in_rows-next rows i e port within))

-- rows that are cleared one after another
pub rows_cleared : (old mid new ecids : List ℕ) (i : ℕ) → i < length ecids
    → ClearsRows old mid (take i ecids)
    → ((e : ℕ) → get_or new e 0 ≡ cond (e == get_or ecids i 0) 0 (get_or mid e 0))
    → ClearsRows old new (take (i + 1) ecids)
rows_cleared old mid new ecids i within so_far put e port =
    cleared e port (cases_eq e (get_or ecids i 0))
    ∙ ap (λ b. b && not (get_or ecids i 0 == e)) (so_far e port)
    ∙ both_out (in_mask (get_or old e 0) port) (is_listed (take i ecids) e) (get_or ecids i 0 == e)
    ∙ ap (λ b. in_mask (get_or old e 0) port && not b) (sym (is_listed-next ecids i e within))
  where
    cleared : (e port : ℕ) → (e ≡ get_or ecids i 0) ⊎ (e ≢ get_or ecids i 0) → in_mask (get_or new e 0) port ≡ (in_mask (get_or mid e 0) port && not (get_or ecids i 0 == e))
    cleared e port (inl same) =
        let here : (get_or ecids i 0 == e) ≡ true = eq-eqb _ _ (sym same) in
        let there : (e == get_or ecids i 0) ≡ true = eq-eqb _ _ same in
        let word_is : get_or new e 0 ≡ 0 = put e ∙ (rw there refl) in
        rw (word_is, here) (mask_empty port ∙ sym (and_right (in_mask (get_or mid e 0) port) false refl))
    cleared e port (inr other) =
        let apart : (get_or ecids i 0 == e) ≡ false = ne_eqb _ _ (λ z. other (sym z)) in
        let away : (e == get_or ecids i 0) ≡ false = ne_eqb _ _ other in
        let word_is : get_or new e 0 ≡ get_or mid e 0 = put e ∙ (rw away refl) in
        rw (word_is, apart) (sym (and_true (in_mask (get_or mid e 0) port)))

pub in_mask-without : (a at port : ℕ) → at < 64 → in_mask (without a at) port ≡ (in_mask a port && not (port == at + 1))
unfolding in_mask
in_mask-without a at port few =
    elim (cases_Bool (nat_lt 0 port && nat_le port 64)) [
      | inr out ↦ rw out refl
      | inl there ↦ elim (cases_eq port (at + 1)) [
        | inl same ↦
            let is : port - 1 ≡ at = omega arith in
            let bit : bit_at (without a at) (port - 1) ≡ 0 = ap (bit_at (without a at)) is ∙ bit_at_clear_same w64 a at few in
            rw (there, bit, eq-eqb port (at + 1) same) (sym (and_right (bit_at a (port - 1) == 1) false refl))
        | inr other ↦
            let parts = and_parts (nat_lt 0 port) (nat_le port 64) there in
            let low : 0 < port = ltb-true 0 port parts.0 in
            let high : port ≤ 64 = leb-true port 64 parts.1 in
            let apart : port - 1 ≢ at = λ z. other (omega arith) in
            let bit : bit_at (without a at) (port - 1) ≡ bit_at a (port - 1) = bit_at_clear_other w64 a at few (port - 1) (omega arith) apart in
            rw (there, bit, ne_eqb port (at + 1) other) (sym (and_true (bit_at a (port - 1) == 1)))
      ]
    ]

-- a port that is taken out of one row
pub pair_taken : (old new : List ℕ) (ecid port word : ℕ) → 0 < port → port ≤ 64 → word ≡ get_or old ecid 0
    → ((e : ℕ) → get_or new e 0 ≡ cond (e == ecid) (without word (port - 1)) (get_or old e 0))
    → ClearsPair old new ecid port
pair_taken old new ecid port word low high is put e q =
    elim (cases_eq e ecid) [
      | inl same ↦
          let there : (e == ecid) ≡ true = eq-eqb _ _ same in
          let back : port - 1 + 1 ≡ port = omega arith in
          let word_is : get_or new e 0 ≡ without (get_or old e 0) (port - 1) = put e ∙ (rw there (ap (λ w. without w (port - 1)) (is ∙ ap (λ k. get_or old k 0) (sym same)))) in
          rw (word_is, there) (in_mask-without (get_or old e 0) (port - 1) q (omega arith) ∙ ap (λ k. in_mask (get_or old e 0) q && not (q == k)) back)
      | inr other ↦
          let away : (e == ecid) ≡ false = ne_eqb _ _ other in
          let word_is : get_or new e 0 ≡ get_or old e 0 = put e ∙ (rw away refl) in
          rw (word_is, away) (sym (and_true (in_mask (get_or old e 0) q)))
    ]

-- ---- strays

module _ (count : ℕ) (own : List ℕ) (cascade : List Bool) (rows : List ℕ) (mask : ℕ) where
  pub stray_found : (port : ℕ) → 0 < port → port ≤ 64 → in_mask mask port ≡ true → (get_or own port 0 == 0) ≡ true → true ≡ has_stray (tables_in count own cascade rows) mask
  stray_found port low high bit idle =
      sym (some_port-true (λ q. in_mask mask q && (nat_lt count q || (get_or own q 0 == 0))) port low high (and_from _ _ bit (rw idle (or_true (nat_lt count port)))))
    where
      or_true : (b : Bool) → (b || true) ≡ true
      or_true true = refl
      or_true false = refl

  pub stray_none : IsKept count own cascade → ((q : ℕ) → 0 < q → q ≤ 64 → (in_mask mask q && (get_or own q 0 == 0)) ≡ false) → false ≡ has_stray (tables_in count own cascade rows) mask
  stray_none kept none =
      sym (some_port-false (λ q. in_mask mask q && (nat_lt count q || (get_or own q 0 == 0))) (λ q low high. by_count q (none q low high) (cases_lt count q)))
    where
      by_count : (q : ℕ) → (in_mask mask q && (get_or own q 0 == 0)) ≡ false → (count < q) ⊎ (q ≤ count) → (in_mask mask q && (nat_lt count q || (get_or own q 0 == 0))) ≡ false
      by_count q none_here (inl above) =
          let idle : (get_or own q 0 == 0) ≡ true = eq-eqb _ _ (kept.outside q above) in
          rw (lt-ltb count q above) (rw idle at none_here)
      by_count q none_here (inr here) = rw (le-ltb count q here) none_here

-- the idle ports of a mask are those of what is left of it, once a port with a channel is left out
pub stray_left : (own : List ℕ) (mask left at : ℕ) → at < 64 → (get_or own (at + 1) 0 == 0) ≡ false
    → ((q : ℕ) → (in_mask mask q && (get_or own q 0 == 0)) ≡ (in_mask left q && (get_or own q 0 == 0)))
    → (q : ℕ) → (in_mask mask q && (get_or own q 0 == 0)) ≡ (in_mask (without left at) q && (get_or own q 0 == 0))
stray_left own mask left at few busy same q =
    elim (cases_eq q (at + 1)) [
      | inl is ↦
          let none : (get_or own q 0 == 0) ≡ false = ap (λ p. get_or own p 0 == 0) is ∙ busy in
          rw none (and_right (in_mask mask q) false refl ∙ sym (and_right (in_mask (without left at) q) false refl))
      | inr other ↦
          let stays : in_mask (without left at) q ≡ in_mask left q = in_mask-without left at q few ∙ rw (ne_eqb q (at + 1) other) (and_true (in_mask left q)) in
          same q ∙ ap (λ b. b && (get_or own q 0 == 0)) (sym stays)
    ]

-- ---- tables after a request

pub same_tables : (a b : ExtenderTables) → a.ports ≡ b.ports → ((q : ℕ) → a.own q ≡ b.own q) → ((q : ℕ) → a.cascade q ≡ b.cascade q) → ((e q : ℕ) → a.pair e q ≡ b.pair e q) → a ≡ b
same_tables a b ports own cascade pair = λ i. record { ports = ports i; own = λ q. own q i; cascade = λ q. cascade q i; pair = λ e q. pair e q i }

not_none : (n : ℕ) → 0 < n → n ≢ 0
not_none n some none = omega arith

-- a request that is done
pub is_done : (old new : ExtenderTables) (asked : Request) → code_of old asked ≡ 0 → new ≡ done old asked → new ≡ executed old asked
is_done old new asked good made = made ∙ sym (executed_done old asked good)

pub is_refused : (t : ExtenderTables) (asked : Request) → code_of t asked ≢ 0 → t ≡ executed t asked
is_refused t asked bad = sym (executed_refused t asked bad)

set_at : {A : Type 0} (xs : List A) (i : ℕ) (x none : A) (q : ℕ) → i < length xs → get_or (set xs i x) q none ≡ cond (q == i) x (get_or xs q none)
set_at xs i x none q within =
    elim (cases_eq q i) [
      | inl same ↦ rw (eq-eqb q i same, same) (get_or-set_same xs i x none within)
      | inr other ↦ rw (ne_eqb q i other) (get_or-set_other xs i q x none other)
    ]

module _ (count : ℕ) (own : List ℕ) (cascade : List Bool) (rows : List ℕ) where
  abbrev now : ExtenderTables
  now = tables_in count own cascade rows

  pub rows_code_is : (added : List GroupRow) (code : ℕ) → code ≡ rows_code now [] added → code ≡ code_of now (RegisterMany added)
  unfolding code_of
  rows_code_is added code is = is

  pub registered : (added : List GroupRow) (rows' : List ℕ) → rows_code now [] added ≡ 0 → AddsRows rows rows' added
      → tables_in count own cascade rows' ≡ executed now (RegisterMany added)
  unfolding code_of done
  registered added rows' good adds =
      is_done now (tables_in count own cascade rows') (RegisterMany added) good
      (same_tables (tables_in count own cascade rows') (done now (RegisterMany added)) refl (λ q. refl) (λ q. refl) adds)

  pub register_refused : (added : List GroupRow) → rows_code now [] added ≢ 0 → now ≡ executed now (RegisterMany added)
  unfolding code_of
  register_refused added bad = is_refused now (RegisterMany added) bad

  pub clears_code_is : (ecids : List ℕ) (code : ℕ) → code ≡ clears_code ecids → code ≡ code_of now (UnregisterMany ecids)
  unfolding code_of
  clears_code_is ecids code is = is

  pub unregistered : (ecids rows' : List ℕ) → 0 ≡ clears_code ecids → ClearsRows rows rows' ecids
      → tables_in count own cascade rows' ≡ executed now (UnregisterMany ecids)
  unfolding code_of done
  unregistered ecids rows' good clears =
      is_done now (tables_in count own cascade rows') (UnregisterMany ecids) (sym good)
      (same_tables (tables_in count own cascade rows') (done now (UnregisterMany ecids)) refl (λ q. refl) (λ q. refl) clears)

  pub unregister_refused : (ecids : List ℕ) → 2 ≡ clears_code ecids → now ≡ executed now (UnregisterMany ecids)
  unfolding code_of
  unregister_refused ecids bad = is_refused now (UnregisterMany ecids) (λ z. not_none 2 (omega arith) (bad ∙ z))

  pub create_code_is : (port : ℕ) (kind : Bool) (channel code : ℕ) → code ≡ create_code now port channel → code ≡ code_of now (PortCreate port kind channel)
  unfolding code_of
  create_code_is port kind channel code is = is

  pub create_refused : (port : ℕ) (kind : Bool) (channel code : ℕ) → code ≡ create_code now port channel → code ≢ 0 → now ≡ executed now (PortCreate port kind channel)
  unfolding code_of
  create_refused port kind channel code is bad = is_refused now (PortCreate port kind channel) (λ z. bad (is ∙ z))

  -- what creating with code 0 shows of its numbers
  pub create_parts : (port channel : ℕ) → create_code now port channel ≡ 0 → (0 < port) × (port ≤ count) × (0 < channel) × (channel < 4095)
  create_parts port channel good = parts (cases_Bool (nat_lt 0 port && nat_le port count)) (cases_Bool (nat_lt 0 channel && nat_lt channel 4095))
    where
      parts : ((nat_lt 0 port && nat_le port count) ≡ true) ⊎ ((nat_lt 0 port && nat_le port count) ≡ false)
          → ((nat_lt 0 channel && nat_lt channel 4095) ≡ true) ⊎ ((nat_lt 0 channel && nat_lt channel 4095) ≡ false)
          → (0 < port) × (port ≤ count) × (0 < channel) × (channel < 4095)
      parts (inr out) _ = absurd (not_none 1 (omega arith) (rw out at good))
      parts (inl there) (inr out) = absurd (not_none 2 (omega arith) (rw (there, out) at good))
      parts (inl there) (inl is) =
          let p = and_parts (nat_lt 0 port) (nat_le port count) there in
          let c = and_parts (nat_lt 0 channel) (nat_lt channel 4095) is in
          (ltb-true 0 port p.0, leb-true port count p.1, ltb-true 0 channel c.0, ltb-true channel 4095 c.1)

  pub created : (port : ℕ) (kind : Bool) (channel : ℕ) (rows' : List ℕ) → IsKept count own cascade → create_code now port channel ≡ 0
      → AddsRows rows rows' (record { ecid = channel; mask = 1 * 2 ^ (port - 1) % 2 ^ 64 } ∷ [])
      → tables_in count (set own port channel) (set cascade port kind) rows' ≡ executed now (PortCreate port kind channel)
  unfolding code_of done
  created port kind channel rows' kept good adds =
      let there = create_parts port channel good in
      is_done now (tables_in count (set own port channel) (set cascade port kind) rows') (PortCreate port kind channel) good
      (same_tables (tables_in count (set own port channel) (set cascade port kind) rows') (done now (PortCreate port kind channel)) refl
      (λ q. set_at own port channel 0 q (omega (arith, kept.own_each, kept.few, there.1)))
      (λ q. set_at cascade port kind false q (omega (arith, kept.cascade_each, kept.few, there.1)))
      (λ e q. adds e q ∙ ap (λ b. in_mask (get_or rows e 0) q || b) (one_row channel port e q there.0 (omega (arith, kept.few, there.1)))))

  pub delete_code_is : (port code : ℕ) → code ≡ cond (nat_lt 0 port && nat_le port count) 0 1 → code ≡ code_of now (PortDelete port)
  unfolding code_of
  delete_code_is port code is = is

  pub delete_refused : (port : ℕ) → (nat_lt 0 port && nat_le port count) ≡ false → now ≡ executed now (PortDelete port)
  unfolding code_of
  delete_refused port out = is_refused now (PortDelete port) (rw out (not_none 1 (omega arith)))

  -- a port without a channel
  pub deleted_nothing : (port : ℕ) → (nat_lt 0 port && nat_le port count) ≡ true → get_or own port 0 ≡ 0 → now ≡ executed now (PortDelete port)
  unfolding code_of done
  deleted_nothing port there none =
      is_done now now (PortDelete port) (rw there refl)
      (same_tables now (done now (PortDelete port)) refl
      (λ q. idle q (cases_eq q port))
      (λ q. refl)
      (λ e q. let off : nat_lt 0 (get_or own port 0) ≡ false = le-ltb 0 (get_or own port 0) (omega arith) in rw off (sym (and_true (in_mask (get_or rows e 0) q)))))
    where
      idle : (q : ℕ) → (q ≡ port) ⊎ (q ≢ port) → get_or own q 0 ≡ cond (q == port) 0 (get_or own q 0)
      idle q (inl same) = rw (eq-eqb q port same) (ap (λ k. get_or own k 0) same ∙ none)
      idle q (inr other) = rw (ne_eqb q port other) refl

  pub deleted : (port channel : ℕ) (rows' : List ℕ) → IsKept count own cascade → (nat_lt 0 port && nat_le port count) ≡ true → channel ≡ get_or own port 0 → channel ≢ 0
      → ClearsPair rows rows' channel port
      → tables_in count (set own port 0) cascade rows' ≡ executed now (PortDelete port)
  unfolding code_of done
  deleted port channel rows' kept there is some clears =
      let parts = and_parts (nat_lt 0 port) (nat_le port count) there in
      let few : port ≤ count = leb-true port count parts.1 in
      let on : nat_lt 0 (get_or own port 0) ≡ true = lt-ltb 0 (get_or own port 0) (omega arith) in
      is_done now (tables_in count (set own port 0) cascade rows') (PortDelete port) (rw there refl)
      (same_tables (tables_in count (set own port 0) cascade rows') (done now (PortDelete port)) refl
      (λ q. set_at own port 0 0 q (omega (arith, kept.own_each, kept.few)))
      (λ q. refl)
      (λ e q. clears e q ∙ ap (λ k. in_mask (get_or rows e 0) q && not ((e == k) && (q == port))) is ∙ rw on refl))

-- ---- at power-on

pub kept_on : (count : ℕ) → 1 ≤ count → count ≤ 64 → IsKept count (replicate 65 0) (replicate 65 false)
kept_on count some few = record {
  some = some;
  few = few;
  own_each = length-replicate {A = ℕ} 65 0;
  cascade_each = length-replicate {A = Bool} 65 false;
  outside = λ q _. get_or-same {X = ℕ} 65 q 0;
  no_port = get_or-same {X = ℕ} 65 0 0;
  channels = λ q. let none : get_or (replicate 65 0) q 0 ≡ 0 = get_or-same {X = ℕ} 65 q 0 in omega arith;
}

pub tables_on : (count : ℕ) (rows : List ℕ) → ((e : ℕ) → get_or rows e 0 ≡ 0) → tables_in count (replicate 65 0) (replicate 65 false) rows ≡ powered_on count
unfolding powered_on
tables_on count rows none =
    same_tables (tables_in count (replicate 65 0) (replicate 65 false) rows) (record { ports = count; own = λ _. 0; cascade = λ _. false; pair = λ _ _. false }) refl
    (λ q. get_or-same {X = ℕ} 65 q 0)
    (λ q. get_or-same {X = Bool} 65 q false)
    (λ e q. ap (λ w. in_mask w q) (none e) ∙ mask_empty q)

-- ---- requests of one row

pub open_code : (t : ExtenderTables) → 0 ≡ code_of t Open
unfolding code_of
open_code t = refl

pub open_same : (t : ExtenderTables) → t ≡ executed t Open
unfolding code_of done
open_same t = is_done t t Open refl refl

abbrev one : ℕ → ℕ → List GroupRow
one ecid mask = record { ecid = ecid; mask = mask } ∷ []

pub register_code : (t : ExtenderTables) (ecid mask : ℕ) → code_of t (RegisterMany (one ecid mask)) ≡ code_of t (Register ecid mask)
unfolding code_of rows_code
register_code t ecid mask =
    elim (cases_eq (row_code t [] ecid mask) 0) [
      | inl good ↦ let e : (row_code t [] ecid mask == 0) ≡ true = eq-eqb _ _ good in rw e (sym good)
      | inr bad ↦ let e : (row_code t [] ecid mask == 0) ≡ false = ne_eqb _ _ bad in rw e refl
    ]

register_done : (t : ExtenderTables) (ecid mask : ℕ) → done t (RegisterMany (one ecid mask)) ≡ done t (Register ecid mask)
unfolding done
register_done t ecid mask =
    same_tables (done t (RegisterMany (one ecid mask))) (done t (Register ecid mask)) refl (λ q. refl) (λ q. refl)
    (λ e q. ap (λ b. t.pair e q || b) (or_false ((ecid == e) && in_mask mask q)))

same_executed : (t : ExtenderTables) (a b : Request) → code_of t a ≡ code_of t b → done t a ≡ done t b → executed t a ≡ executed t b
unfolding executed
same_executed t a b code made = ap (λ n. cond (n == 0) (done t a) t) code ∙ ap (λ d. cond (code_of t b == 0) d t) made

pub register_executed : (t : ExtenderTables) (ecid mask : ℕ) → executed t (RegisterMany (one ecid mask)) ≡ executed t (Register ecid mask)
register_executed t ecid mask = same_executed t (RegisterMany (one ecid mask)) (Register ecid mask) (register_code t ecid mask) (register_done t ecid mask)

pub unregister_code : (t : ExtenderTables) (ecid : ℕ) → code_of t (UnregisterMany (ecid ∷ [])) ≡ code_of t (Unregister ecid)
unfolding code_of clears_code
unregister_code t ecid =
    elim (cases_eq (clear_code ecid) 0) [
      | inl good ↦ let e : (clear_code ecid == 0) ≡ true = eq-eqb _ _ good in rw e (sym good)
      | inr bad ↦ let e : (clear_code ecid == 0) ≡ false = ne_eqb _ _ bad in rw e refl
    ]

unregister_done : (t : ExtenderTables) (ecid : ℕ) → done t (UnregisterMany (ecid ∷ [])) ≡ done t (Unregister ecid)
unfolding done
unregister_done t ecid =
    same_tables (done t (UnregisterMany (ecid ∷ []))) (done t (Unregister ecid)) refl (λ q. refl) (λ q. refl)
    (λ e q. ap (λ b. t.pair e q && not b) (or_false (ecid == e)))

pub unregister_executed : (t : ExtenderTables) (ecid : ℕ) → executed t (UnregisterMany (ecid ∷ [])) ≡ executed t (Unregister ecid)
unregister_executed t ecid = same_executed t (UnregisterMany (ecid ∷ [])) (Unregister ecid) (unregister_code t ecid) (unregister_done t ecid)

-- ---- what is answered

pub responding : (t : ExtenderTables) (asked : Request) (kind : RequestKind) (code ports : ℕ) → kind ≡ kind_of asked → code ≡ code_of t asked → ports ≡ answered_ports t.ports asked
    → ◌≡◌ {A = Response} (record { to = kind; code = code; ports = ports }) (response_to t asked)
unfolding response_to
responding t asked kind code ports kind-is code-is ports-is = λ i. record { to = kind-is i; code = code-is i; ports = ports-is i }

-- The plain tables as tables: ports, masks and words.
use Rattle.std.proofs.Common.{◌≡◌, ◌≢◌, ℕ, ◌+◌, ◌-◌, ◌*◌, ◌%◌, ◌^◌, ◌<◌, ◌≤◌, ◌==◌, ◌&&◌, ◌||◌, not, Bool, true, false, cond, nat_lt, nat_le, List, [], ◌∷◌, ◌++◌, length, get_or, set, take, drop, refl, ap, sym, ◌∙◌, subst, arith, bit_or, inl, inr}
use Rattle.std.specs.Int.{w64, bit_at}
use Rattle.std.proofs.lemmas.Bool.{and_parts, ltb-true, leb-true, cases_eq, cases_lt, cases_Bool, le-ltb, lt-leb, and_right, and_from, ne_eqb, eq-eqb, lt-ltb, le-leb}
use Rattle.std.proofs.lemmas.List.{get_or-set_other, get_or-set_same, set-get_or, length-set, take_at}
use Rattle.std.proofs.lemmas.Nat.Bits.{bit_at_clear_same, bit_at_clear_other}
use Rattle.exb_csp.specs.declared.group_rows.GroupRow.{GroupRow}
use Rattle.exb_csp.specs.Execution.{ExtenderTables, in_mask, some_port, has_stray, row_code, rows_code, clears_code, in_rows, is_listed, is_channel, create_code, clear_code, code_of, done, answered_ports, executed, response_to}
use Rattle.exb_csp.specs.declared.message.RequestKind.{RequestKind}
use Rattle.exb_csp.specs.declared.message.Response.{Response}
use Rattle.exb_csp.specs.RequestKinds.{kind_of}
use Rattle.exb_csp.specs.declared.message.Request.{Request}
use Rattle.exb_csp.specs.declared.message.Request.TheVariants.{Open, PortCreate, PortDelete, Register, Unregister, RegisterMany, UnregisterMany}
use Rattle.exb_csp.specs.PortMasks.{powered_on}
use Rattle.exb_csp.proofs.ExecutionLoops.{in_mask-or, no_row, in_rows-next, is_listed-next, one_row, without}
use Rattle.exb_wire_tests.specs.PlainStates.{at_port, tables_in, IsPlain, PlainState, tables_of, is_shut, stray_at, Created, Deleted, IsChange}
use Rattle.exb_csp.proofs.ExecutionLaws.{or_false, and_true, or_assoc, both_out, mask_empty, some_port-true, some_port-false, no_port, find_port, executed_done, executed_refused}

-- ---- ports

pub some_port-agree : (p q : ℕ → Bool) → ((port : ℕ) → 0 < port → port ≤ 64 → p port ≡ q port) → some_port p ≡ some_port q
some_port-agree p q same =
    elim (cases_Bool (some_port p)) [
      | inl some ↦ let found = find_port p some in some ∙ sym (some_port-true q found.0 found.1 found.2 (sym (same found.0 found.1 found.2) ∙ found.3))
      | inr none ↦ none ∙ sym (some_port-false q (λ port low high. sym (same port low high) ∙ no_port p port low high none))
    ]

-- a stray bit is found
pub stray_found : (own : List ℕ) (mask k : ℕ) → k < 64 → (bit_at mask k == 1) ≡ true → is_shut own k ≡ true → true ≡ some_port (λ port. stray_at own mask (port - 1))
stray_found own mask k low bit shut =
    let back : k + 1 - 1 ≡ k = omega arith in
    sym (some_port-true (λ port. stray_at own mask (port - 1)) (k + 1) (omega arith) (omega arith) (rw back (and_from _ _ bit shut)))

-- there is none
pub stray_none : (own : List ℕ) (mask : ℕ) → ((k : ℕ) → k < 64 → stray_at own mask k ≡ false) → false ≡ some_port (λ port. stray_at own mask (port - 1))
stray_none own mask none = sym (some_port-false (λ port. stray_at own mask (port - 1)) (λ port low high. none (port - 1) (omega arith)))

below_same : (n port : ℕ) → 0 < port → nat_lt n port ≡ nat_le n (port - 1)
below_same n port low =
    elim (cases_lt n port) [
      | inl lt ↦ lt-ltb n port lt ∙ sym (le-leb n (port - 1) (omega arith))
      | inr le ↦ le-ltb n port le ∙ sym (lt-leb n (port - 1) (omega arith))
    ]

stray_same : (own : List ℕ) (mask port : ℕ) → 0 < port → port ≤ 64 → stray_at own mask (port - 1) ≡ (in_mask mask port && (nat_lt (length own) port || (at_port own 0 port == 0)))
unfolding in_mask
stray_same own mask port low high =
    let some : nat_lt 0 port ≡ true = lt-ltb 0 port low in
    let few : nat_le port 64 ≡ true = le-leb port 64 high in
    let not_none : (port == 0) ≡ false = ne_eqb port 0 (λ z. omega arith) in
    rw (some, few, not_none, below_same (length own) port low) refl

pub has_stray-is : (own : List ℕ) (cascade : List Bool) (words : List ℕ) (mask : ℕ) → some_port (λ port. stray_at own mask (port - 1)) ≡ has_stray (tables_in own cascade words) mask
has_stray-is own cascade words mask = some_port-agree _ _ (stray_same own mask)

-- ---- masks and words

-- a row that is added to the words
pub word_set : (words : List ℕ) (e mask ecid port : ℕ) → e < length words
    → in_mask (get_or (set words e (bit_or (get_or words e 0) mask)) ecid 0) port ≡ (in_mask (get_or words ecid 0) port || ((e == ecid) && in_mask mask port))
word_set words e mask ecid port within =
    elim (cases_eq ecid e) [
      | inl same ↦
          let here : (e == ecid) ≡ true = eq-eqb _ _ (sym same) in
          rw (here, same, get_or-set_same words e (bit_or (get_or words e 0) mask) 0 within) (in_mask-or (get_or words e 0) mask port)
      | inr other ↦
          let apart : (e == ecid) ≡ false = ne_eqb _ _ (λ z. other (sym z)) in
          rw (apart, get_or-set_other words e ecid (bit_or (get_or words e 0) mask) 0 other) (sym (or_false (in_mask (get_or words ecid 0) port)))
    ]

-- a row that is taken out of the words
pub word_clear : (words : List ℕ) (e ecid port : ℕ) → e < length words
    → in_mask (get_or (set words e 0) ecid 0) port ≡ (in_mask (get_or words ecid 0) port && not (e == ecid))
word_clear words e ecid port within =
    elim (cases_eq ecid e) [
      | inl same ↦
          let here : (e == ecid) ≡ true = eq-eqb _ _ (sym same) in
          rw (here, same, get_or-set_same words e 0 0 within) (mask_empty port ∙ sym (and_right (in_mask (get_or words e 0) port) false refl))
      | inr other ↦
          let apart : (e == ecid) ≡ false = ne_eqb _ _ (λ z. other (sym z)) in
          rw (apart, get_or-set_other words e ecid 0 0 other) (sym (and_true (in_mask (get_or words ecid 0) port)))
    ]

-- ---- steps of loops

pub rows_set : (words old : List ℕ) (rows : List GroupRow) (i : ℕ) → i < length rows → (get_or rows i no_row).ecid < length words
    → ((ecid port : ℕ) → in_mask (get_or words ecid 0) port ≡ (in_mask (get_or old ecid 0) port || in_rows (take i rows) ecid port))
    → (ecid port : ℕ) → in_mask (get_or (set words (get_or rows i no_row).ecid (bit_or (get_or words (get_or rows i no_row).ecid 0) (get_or rows i no_row).mask)) ecid 0) port ≡ (in_mask (get_or old ecid 0) port || in_rows (take (i + 1) rows) ecid port)
rows_set words old rows i within small so_far ecid port =
    word_set words (get_or rows i no_row).ecid (get_or rows i no_row).mask ecid port small
    ∙ ap (λ b. b || (((get_or rows i no_row).ecid == ecid) && in_mask (get_or rows i no_row).mask port)) (so_far ecid port)
    ∙ or_assoc (in_mask (get_or old ecid 0) port) (in_rows (take i rows) ecid port) (((get_or rows i no_row).ecid == ecid) && in_mask (get_or rows i no_row).mask port)
    ∙ ap (λ b. in_mask (get_or old ecid 0) port || b) (sym (in_rows-next rows i ecid port within))

pub rows_clear : (words old ecids : List ℕ) (i : ℕ) → i < length ecids → get_or ecids i 0 < length words
    → ((ecid port : ℕ) → in_mask (get_or words ecid 0) port ≡ (in_mask (get_or old ecid 0) port && not (is_listed (take i ecids) ecid)))
    → (ecid port : ℕ) → in_mask (get_or (set words (get_or ecids i 0) 0) ecid 0) port ≡ (in_mask (get_or old ecid 0) port && not (is_listed (take (i + 1) ecids) ecid))
rows_clear words old ecids i within small so_far ecid port =
    word_clear words (get_or ecids i 0) ecid port small
    ∙ ap (λ b. b && not (get_or ecids i 0 == ecid)) (so_far ecid port)
    ∙ both_out (in_mask (get_or old ecid 0) port) (is_listed (take i ecids) ecid) (get_or ecids i 0 == ecid)
    ∙ ap (λ b. in_mask (get_or old ecid 0) port && not b) (sym (is_listed-next ecids i ecid within))

-- ---- one pair

in_mask-without : (a at port : ℕ) → at < 64 → in_mask (without a at) port ≡ (in_mask a port && not (port == at + 1))
unfolding in_mask
in_mask-without a at port few =
    elim (cases_Bool (nat_lt 0 port && nat_le port 64)) [
      | inr out ↦ rw out refl
      | inl there ↦ elim (cases_eq port (at + 1)) [
        | inl same ↦
            let is : port - 1 ≡ at = omega arith in
            let bit : bit_at (without a at) (port - 1) ≡ 0 = ap (bit_at (without a at)) is ∙ bit_at_clear_same w64 a at few in
            rw (there, bit, eq-eqb port (at + 1) same) (sym (and_right (bit_at a (port - 1) == 1) false refl))
        | inr other ↦
            let parts = and_parts (nat_lt 0 port) (nat_le port 64) there in
            let low : 0 < port = ltb-true 0 port parts.0 in
            let high : port ≤ 64 = leb-true port 64 parts.1 in
            let apart : port - 1 ≢ at = λ z. other (omega arith) in
            let bit : bit_at (without a at) (port - 1) ≡ bit_at a (port - 1) = bit_at_clear_other w64 a at few (port - 1) (omega arith) apart in
            rw (there, bit, ne_eqb port (at + 1) other) (sym (and_true (bit_at a (port - 1) == 1)))
      ]
    ]

pub pair_clear : (words : List ℕ) (e at other port : ℕ) → e < length words → at < 64
    → in_mask (get_or (set words e (without (get_or words e 0) at)) other 0) port ≡ (in_mask (get_or words other 0) port && not ((other == e) && (port == at + 1)))
pair_clear words e at other port within few =
    elim (cases_eq other e) [
      | inl same ↦ rw (eq-eqb other e same, same, get_or-set_same words e (without (get_or words e 0) at) 0 within) (in_mask-without (get_or words e 0) at port few)
      | inr apart ↦ rw (ne_eqb other e apart, get_or-set_other words e other (without (get_or words e 0) at) 0 apart) (sym (and_true (in_mask (get_or words other 0) port)))
    ]

-- ---- tables after a request

same_tables : (a b : ExtenderTables) → a.ports ≡ b.ports → ((q : ℕ) → a.own q ≡ b.own q) → ((q : ℕ) → a.cascade q ≡ b.cascade q) → ((e q : ℕ) → a.pair e q ≡ b.pair e q) → a ≡ b
same_tables a b ports own cascade pair = λ i. record { ports = ports i; own = λ q. own q i; cascade = λ q. cascade q i; pair = λ e q. pair e q i }

at_port-set : {A : Type 0} (xs : List A) (none x : A) (port q : ℕ) → 0 < port → port ≤ length xs → at_port (set xs (port - 1) x) none q ≡ cond (q == port) x (at_port xs none q)
at_port-set xs none x port q low high =
    elim (cases_eq q port) [
      | inl same ↦
          let some : (q == 0) ≡ false = ne_eqb q 0 (λ z. omega arith) in
          let is : q - 1 ≡ port - 1 = omega arith in
          rw (some, eq-eqb q port same, is) (get_or-set_same xs (port - 1) x none (omega arith))
      | inr other ↦ elim (cases_eq q 0) [
        | inl nothing ↦ rw (ne_eqb q port other, eq-eqb q 0 nothing) refl
        | inr some ↦ rw (ne_eqb q port other, ne_eqb q 0 some) (get_or-set_other xs (port - 1) (q - 1) x none (λ z. other (omega arith)))
      ]
    ]

pub port_parts : (port count : ℕ) → (nat_lt 0 port && nat_le port count) ≡ true → (0 < port) × (port ≤ count)
port_parts port count there = let two = and_parts (nat_lt 0 port) (nat_le port count) there in (ltb-true 0 port two.0, leb-true port count two.1)

pub channel_small : (channel : ℕ) → is_channel channel ≡ true → channel < 0x4000
channel_small channel known = let low : channel < 4095 = ltb-true _ _ (and_parts (nat_lt 0 channel) (nat_lt channel 4095) known).1 in omega arith

-- the pair that a created port gets
pub created_pairs : (words words' : List ℕ) (channel port : ℕ) → 0 < port → port ≤ 64
    → ((ecid other : ℕ) → in_mask (get_or words' ecid 0) other ≡ (in_mask (get_or words ecid 0) other || in_rows (record { ecid = channel; mask = 1 * 2 ^ (port - 1) % 2 ^ 64 } ∷ []) ecid other))
    → (ecid other : ℕ) → in_mask (get_or words' ecid 0) other ≡ (in_mask (get_or words ecid 0) other || ((ecid == channel) && (other == port)))
created_pairs words words' channel port low high set ecid other = set ecid other ∙ ap (λ b. in_mask (get_or words ecid 0) other || b) (one_row channel port ecid other low high)

-- the pair that a deleted port loses
pub deleted_pairs : (own words words' : List ℕ) (port : ℕ) → 0 < port → get_or own (port - 1) 0 ≢ 0
    → ((ecid other : ℕ) → in_mask (get_or words' ecid 0) other ≡ (in_mask (get_or words ecid 0) other && not ((ecid == get_or own (port - 1) 0) && (other == port - 1 + 1))))
    → (ecid other : ℕ) → in_mask (get_or words' ecid 0) other ≡ (in_mask (get_or words ecid 0) other && not (nat_lt 0 (get_or own (port - 1) 0) && ((ecid == get_or own (port - 1) 0) && (other == port))))
deleted_pairs own words words' port low some cleared ecid other =
    let back : port - 1 + 1 ≡ port = omega arith in
    let positive : nat_lt 0 (get_or own (port - 1) 0) ≡ true = lt-ltb 0 (get_or own (port - 1) 0) (omega arith) in
    cleared ecid other ∙ rw (back, positive) refl

-- a port without a channel loses nothing
pub deleted_nothing : (own words : List ℕ) (port : ℕ) → (0 < port) × (port ≤ length own) → get_or own (port - 1) 0 ≡ 0 → Deleted own words port own words
deleted_nothing own words port there none = record {
  port_there = there;
  own_set = sym (ap (set own (port - 1)) (sym none) ∙ set-get_or own (port - 1) 0);
  words_long = refl;
  pairs = λ ecid other.
      let idle : nat_lt 0 (get_or own (port - 1) 0) ≡ false = le-ltb 0 (get_or own (port - 1) 0) (omega arith) in
      rw idle (sym (and_true (in_mask (get_or words ecid 0) other)));
}

created_done : (own : List ℕ) (cascade : List Bool) (words : List ℕ) (port : ℕ) (kind : Bool) (channel : ℕ) (own' : List ℕ) (cascade' : List Bool) (words' : List ℕ) → length cascade ≡ length own
    → Created own cascade words port kind channel own' cascade' words' → tables_in own' cascade' words' ≡ done (tables_in own cascade words) (PortCreate port kind channel)
unfolding done
created_done own cascade words port kind channel own' cascade' words' each h =
    same_tables (tables_in own' cascade' words') (done (tables_in own cascade words) (PortCreate port kind channel))
    (ap length h.own_set ∙ length-set own (port - 1) channel)
    (λ q. ap (λ xs. at_port xs 0 q) h.own_set ∙ at_port-set own 0 channel port q h.port_there.0 h.port_there.1)
    (λ q. ap (λ xs. at_port xs false q) h.cascade_set ∙ at_port-set cascade false kind port q h.port_there.0 (omega (arith, h.port_there.1)))
    h.pairs

deleted_done : (own : List ℕ) (cascade : List Bool) (words : List ℕ) (port : ℕ) (own' words' : List ℕ) → Deleted own words port own' words'
    → tables_in own' cascade words' ≡ done (tables_in own cascade words) (PortDelete port)
unfolding done
deleted_done own cascade words port own' words' h =
    let some : (port == 0) ≡ false = ne_eqb port 0 (λ z. omega (arith, h.port_there.0)) in
    let here : at_port own 0 port ≡ get_or own (port - 1) 0 = rw some refl in
    same_tables (tables_in own' cascade words') (done (tables_in own cascade words) (PortDelete port))
    (ap length h.own_set ∙ length-set own (port - 1) 0)
    (λ q. ap (λ xs. at_port xs 0 q) h.own_set ∙ at_port-set own 0 0 port q h.port_there.0 h.port_there.1)
    (λ q. refl)
    (λ e q. h.pairs e q ∙ ap (λ n. in_mask (get_or words e 0) q && not (nat_lt 0 n && ((e == n) && (q == port)))) (sym here))

-- tables are what a request makes of others, by its code
is_executed : (old new : ExtenderTables) (asked : Request) → (code_of old asked ≡ 0 → new ≡ done old asked) → (code_of old asked ≢ 0 → new ≡ old) → new ≡ executed old asked
is_executed old new asked good bad =
    elim (cases_eq (code_of old asked) 0) [
      | inl zero_code ↦ good zero_code ∙ sym (executed_done old asked zero_code)
      | inr other ↦ bad other ∙ sym (executed_refused old asked other)
    ]

pub open_changes : (own : List ℕ) (cascade : List Bool) (words : List ℕ) → IsPlain own cascade words → IsChange own cascade words Open 0 own cascade words
unfolding code_of done
open_changes own cascade words plain = record {
  coded = refl;
  tables = is_executed (tables_in own cascade words) (tables_in own cascade words) Open (λ good. refl) (λ bad. refl);
  plain = plain;
}

small_set : (xs : List ℕ) (i x : ℕ) → i < length xs → x < 0x4000 → ((k : ℕ) → get_or xs k 0 < 0x4000) → (k : ℕ) → get_or (set xs i x) k 0 < 0x4000
small_set xs i x within small each k =
    elim (cases_eq k i) [
      | inl same ↦ subst (λ n. n < 0x4000) (sym (ap (λ j. get_or (set xs i x) j 0) same ∙ get_or-set_same xs i x 0 within)) small
      | inr other ↦ subst (λ n. n < 0x4000) (sym (get_or-set_other xs i k x 0 other)) (each k)
    ]

pub create_changes : (own : List ℕ) (cascade : List Bool) (words : List ℕ) (port : ℕ) (kind : Bool) (channel code : ℕ) (own' : List ℕ) (cascade' : List Bool) (words' : List ℕ) → IsPlain own cascade words
    → code ≡ create_code (tables_in own cascade words) port channel
    → (code ≡ 0 → Created own cascade words port kind channel own' cascade' words')
    → (code ≢ 0 → (own' ≡ own) × (cascade' ≡ cascade) × (words' ≡ words))
    → IsChange own cascade words (PortCreate port kind channel) code own' cascade' words'
unfolding code_of
create_changes own cascade words port kind channel code own' cascade' words' plain is made kept = record {
  coded = is;
  tables = is_executed (tables_in own cascade words) (tables_in own' cascade' words') (PortCreate port kind channel)
      (λ good. created_done own cascade words port kind channel own' cascade' words' plain.cascade_each (made (is ∙ good)))
      (λ bad. let same = kept (λ z. bad (sym is ∙ z)) in cc (same.0, same.1, same.2));
  plain = elim (cases_eq code 0) [
    | inl good ↦ let h = made good in record {
      few = omega (arith, plain.few, ap length h.own_set, length-set own (port - 1) channel);
      cascade_each = ap length h.cascade_set ∙ length-set cascade (port - 1) kind ∙ plain.cascade_each ∙ sym (ap length h.own_set ∙ length-set own (port - 1) channel);
      words_each = h.words_long ∙ plain.words_each;
      channels = λ k. subst (λ n. n < 0x4000) (sym (ap (λ xs. get_or xs k 0) h.own_set)) (small_set own (port - 1) channel (omega (arith, h.port_there.0, h.port_there.1)) h.channel_small plain.channels k);
    }
    | inr bad ↦ let same = kept bad in subst (λ xs. IsPlain xs cascade' words') (sym same.0) (subst (λ xs. IsPlain own xs words') (sym same.1) (subst (λ xs. IsPlain own cascade xs) (sym same.2) plain))
  ];
}

pub delete_changes : (own : List ℕ) (cascade : List Bool) (words : List ℕ) (port code : ℕ) (own' words' : List ℕ) → IsPlain own cascade words
    → code ≡ cond (nat_lt 0 port && nat_le port (length own)) 0 1
    → (code ≡ 0 → Deleted own words port own' words')
    → (code ≢ 0 → (own' ≡ own) × (words' ≡ words))
    → IsChange own cascade words (PortDelete port) code own' cascade words'
unfolding code_of
delete_changes own cascade words port code own' words' plain is made kept = record {
  coded = is;
  tables = is_executed (tables_in own cascade words) (tables_in own' cascade words') (PortDelete port)
      (λ good. deleted_done own cascade words port own' words' (made (is ∙ good)))
      (λ bad. let same = kept (λ z. bad (sym is ∙ z)) in cc (same.0, same.1));
  plain = elim (cases_eq code 0) [
    | inl good ↦ let h = made good in record {
      few = omega (arith, plain.few, ap length h.own_set, length-set own (port - 1) 0);
      cascade_each = plain.cascade_each ∙ sym (ap length h.own_set ∙ length-set own (port - 1) 0);
      words_each = h.words_long ∙ plain.words_each;
      channels = λ k. subst (λ n. n < 0x4000) (sym (ap (λ xs. get_or xs k 0) h.own_set)) (small_set own (port - 1) 0 (omega (arith, h.port_there.0, h.port_there.1)) (omega arith) plain.channels k);
    }
    | inr bad ↦ let same = kept bad in subst (λ xs. IsPlain xs cascade words') (sym same.0) (subst (λ xs. IsPlain own cascade xs) (sym same.1) plain)
  ];
}

-- where only the words change
words_change : (own : List ℕ) (cascade : List Bool) (words : List ℕ) (asked : Request) (code : ℕ) (words' : List ℕ) → IsPlain own cascade words → length words' ≡ length words
    → code ≡ code_of (tables_in own cascade words) asked
    → (code ≡ 0 → tables_in own cascade words' ≡ done (tables_in own cascade words) asked)
    → (code ≢ 0 → words' ≡ words)
    → IsChange own cascade words asked code own cascade words'
words_change own cascade words asked code words' plain long is made kept = record {
  coded = is;
  tables = is_executed (tables_in own cascade words) (tables_in own cascade words') asked
      (λ good. made (is ∙ good))
      (λ bad. ap (tables_in own cascade) (kept (λ z. bad (sym is ∙ z))));
  plain = record { few = plain.few; cascade_each = plain.cascade_each; words_each = long ∙ plain.words_each; channels = plain.channels };
}

-- the code of rows doesn't depend on kinds
rows_code_same : (own : List ℕ) (c d : List Bool) (words : List ℕ) (earlier rows : List GroupRow) → rows_code (tables_in own c words) earlier rows ≡ rows_code (tables_in own d words) earlier rows
unfolding rows_code
rows_code_same own c d words earlier [] = refl
rows_code_same own c d words earlier (row ∷ rows) =
    ap (λ n. cond (row_code (tables_in own c words) earlier row.ecid row.mask == 0) n (row_code (tables_in own c words) earlier row.ecid row.mask)) (rows_code_same own c d words (earlier ++ row ∷ []) rows)

pub register_many_changes : (own : List ℕ) (cascade : List Bool) (words : List ℕ) (rows : List GroupRow) (code : ℕ) (words' : List ℕ) → IsPlain own cascade words → length words' ≡ length words
    → code ≡ rows_code (tables_in own [] words) [] rows
    → (code ≡ 0 → (ecid port : ℕ) → in_mask (get_or words' ecid 0) port ≡ (in_mask (get_or words ecid 0) port || in_rows rows ecid port))
    → (code ≢ 0 → words' ≡ words)
    → IsChange own cascade words (RegisterMany rows) code own cascade words'
unfolding code_of done
register_many_changes own cascade words rows code words' plain long is made kept =
    words_change own cascade words (RegisterMany rows) code words' plain long (is ∙ rows_code_same own [] cascade words [] rows)
    (λ good. same_tables (tables_in own cascade words') (done (tables_in own cascade words) (RegisterMany rows)) refl (λ q. refl) (λ q. refl) (made good))
    kept

one_code : (t : ExtenderTables) (row : GroupRow) → rows_code t [] (row ∷ []) ≡ row_code t [] row.ecid row.mask
unfolding rows_code
one_code t row =
    elim (cases_eq (row_code t [] row.ecid row.mask) 0) [
      | inl good ↦ let e : (row_code t [] row.ecid row.mask == 0) ≡ true = eq-eqb _ _ good in rw e (sym good)
      | inr bad ↦ let e : (row_code t [] row.ecid row.mask == 0) ≡ false = ne_eqb _ _ bad in rw e refl
    ]

pub register_changes : (own : List ℕ) (cascade : List Bool) (words : List ℕ) (ecid mask code : ℕ) (words' : List ℕ) → IsPlain own cascade words → length words' ≡ length words
    → code ≡ rows_code (tables_in own [] words) [] (record { ecid = ecid; mask = mask } ∷ [])
    → (code ≡ 0 → (e port : ℕ) → in_mask (get_or words' e 0) port ≡ (in_mask (get_or words e 0) port || in_rows (record { ecid = ecid; mask = mask } ∷ []) e port))
    → (code ≢ 0 → words' ≡ words)
    → IsChange own cascade words (Register ecid mask) code own cascade words'
unfolding code_of done
register_changes own cascade words ecid mask code words' plain long is made kept =
    words_change own cascade words (Register ecid mask) code words' plain long (is ∙ one_code (tables_in own [] words) (record { ecid = ecid; mask = mask }))
    (λ good. same_tables (tables_in own cascade words') (done (tables_in own cascade words) (Register ecid mask)) refl (λ q. refl) (λ q. refl)
    (λ e q. made good e q ∙ ap (λ b. in_mask (get_or words e 0) q || b) (or_false ((ecid == e) && in_mask mask q))))
    kept

pub unregister_many_changes : (own : List ℕ) (cascade : List Bool) (words ecids : List ℕ) (code : ℕ) (words' : List ℕ) → IsPlain own cascade words → length words' ≡ length words
    → code ≡ clears_code ecids
    → (code ≡ 0 → (ecid port : ℕ) → in_mask (get_or words' ecid 0) port ≡ (in_mask (get_or words ecid 0) port && not (is_listed ecids ecid)))
    → (code ≢ 0 → words' ≡ words)
    → IsChange own cascade words (UnregisterMany ecids) code own cascade words'
unfolding code_of done
unregister_many_changes own cascade words ecids code words' plain long is made kept =
    words_change own cascade words (UnregisterMany ecids) code words' plain long is
    (λ good. same_tables (tables_in own cascade words') (done (tables_in own cascade words) (UnregisterMany ecids)) refl (λ q. refl) (λ q. refl) (made good))
    kept

one_clear : (ecid : ℕ) → clears_code (ecid ∷ []) ≡ clear_code ecid
unfolding clears_code
one_clear ecid =
    elim (cases_eq (clear_code ecid) 0) [
      | inl good ↦ let e : (clear_code ecid == 0) ≡ true = eq-eqb _ _ good in rw e (sym good)
      | inr bad ↦ let e : (clear_code ecid == 0) ≡ false = ne_eqb _ _ bad in rw e refl
    ]

pub unregister_changes : (own : List ℕ) (cascade : List Bool) (words : List ℕ) (ecid code : ℕ) (words' : List ℕ) → IsPlain own cascade words → length words' ≡ length words
    → code ≡ clears_code (ecid ∷ [])
    → (code ≡ 0 → (e port : ℕ) → in_mask (get_or words' e 0) port ≡ (in_mask (get_or words e 0) port && not (is_listed (ecid ∷ []) e)))
    → (code ≢ 0 → words' ≡ words)
    → IsChange own cascade words (Unregister ecid) code own cascade words'
unfolding code_of done
unregister_changes own cascade words ecid code words' plain long is made kept =
    words_change own cascade words (Unregister ecid) code words' plain long (is ∙ one_clear ecid)
    (λ good. same_tables (tables_in own cascade words') (done (tables_in own cascade words) (Unregister ecid)) refl (λ q. refl) (λ q. refl)
    (λ e q. made good e q ∙ ap (λ b. in_mask (get_or words e 0) q && not b) (or_false (ecid == e))))
    kept

-- ---- what is kept

abbrev pub kept : List ℕ → List Bool → List ℕ → PlainState
kept own cascade words = record { own = own; cascade = cascade; words = words }

kept_same : {own own' : List ℕ} {cascade cascade' : List Bool} {words words' : List ℕ} → own ≡ own' → cascade ≡ cascade' → words ≡ words' → kept own cascade words ≡ kept own' cascade' words'
kept_same own-is cascade-is words-is = cc

same_response : {kind kind' : RequestKind} {code code' ports ports' : ℕ} → kind ≡ kind' → code ≡ code' → ports ≡ ports' → ◌≡◌ {A = Response} (record { to = kind; code = code; ports = ports }) (record { to = kind'; code = code'; ports = ports' })
same_response kind-is code-is ports-is = cc

cond_same : {A : Type 0} (b : Bool) (x : A) → cond b x x ≡ x
cond_same true x = refl
cond_same false x = refl

-- a list that is written back whole
pub written_back : {A : Type 0} (xs ws : List A) (n : ℕ) → length ws ≡ n → take n (ws ++ drop (length ws) xs) ≡ ws
written_back xs ws n long = take_at ws (drop (length ws) xs) n long

pub lists_executed : (self : PlainState) (asked : Request) (own : List ℕ) (cascade : List Bool) (words own' : List ℕ) (cascade' : List Bool) (words' own'' : List ℕ) (cascade'' : List Bool) (words'' : List ℕ)
    → kept own cascade words ≡ self → own'' ≡ own' → cascade'' ≡ cascade' → words'' ≡ words'
    → tables_in own' cascade' words' ≡ executed (tables_in own cascade words) asked
    → tables_of (kept own'' cascade'' words'') ≡ executed (tables_of self) asked
unfolding tables_of
lists_executed self asked own cascade words own' cascade' words' own'' cascade'' words'' is own-is cascade-is words-is tables =
    ap (λ (t : PlainState). tables_in t.own t.cascade t.words) (kept_same own-is cascade-is words-is) ∙ tables ∙ ap (λ (t : PlainState). executed (tables_in t.own t.cascade t.words) asked) is

pub lists_responding : (self : PlainState) (asked : Request) (own : List ℕ) (cascade : List Bool) (words : List ℕ) (kind : RequestKind) (code ports : ℕ) → kept own cascade words ≡ self
    → kind ≡ kind_of asked → code ≡ code_of (tables_in own cascade words) asked → ports ≡ answered_ports (length own) asked
    → ◌≡◌ {A = Response} (record { to = kind; code = code; ports = ports }) (response_to (tables_of self) asked)
unfolding tables_of response_to
lists_responding self asked own cascade words kind code ports is kind-is code-is ports-is =
    same_response kind-is code-is ports-is ∙ ap (λ (t : PlainState). response_to (tables_in t.own t.cascade t.words) asked) is

pub lists_pair : (self : PlainState) (own : List ℕ) (cascade : List Bool) (words : List ℕ) (ecid port : ℕ) → kept own cascade words ≡ self → 0 < port → port ≤ 64
    → (bit_at (get_or words ecid 0) (port - 1) == 1) ≡ (tables_of self).pair ecid port
unfolding tables_of in_mask
lists_pair self own cascade words ecid port is low high =
    let some : nat_lt 0 port ≡ true = lt-ltb 0 port low in
    let few : nat_le port 64 ≡ true = le-leb port 64 high in
    let here : in_mask (get_or words ecid 0) port ≡ (bit_at (get_or words ecid 0) (port - 1) == 1) = rw (some, few) refl in
    sym here ∙ ap (λ (t : PlainState). in_mask (get_or t.words ecid 0) port) is

-- at power-on
pub lists_on : (own : List ℕ) (cascade : List Bool) (words : List ℕ) (ports : ℕ) → length own ≡ ports → ((k : ℕ) → get_or own k 0 ≡ 0) → ((k : ℕ) → get_or cascade k false ≡ false) → ((k : ℕ) → get_or words k 0 ≡ 0)
    → tables_of (kept own cascade words) ≡ powered_on ports
unfolding tables_of powered_on
lists_on own cascade words ports count own-none cascade-none words-none =
    same_tables (tables_in own cascade words) (record { ports = ports; own = λ _. 0; cascade = λ _. false; pair = λ _ _. false })
    count
    (λ q. ap (λ n. cond (q == 0) 0 n) (own-none (q - 1)) ∙ cond_same (q == 0) 0)
    (λ q. ap (λ b. cond (q == 0) false b) (cascade-none (q - 1)) ∙ cond_same (q == 0) false)
    (λ e q. ap (λ n. in_mask n q) (words-none e) ∙ mask_empty q)

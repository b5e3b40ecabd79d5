-- What loops that execute requests go by: masks of ports, codes, and the lists of a message member by member.
use Rattle.std.proofs.Common.{◌≡◌, ◌≢◌, ℕ, zero, suc, ◌+◌, ◌-◌, ◌*◌, ◌%◌, ◌^◌, ◌<◌, ◌≤◌, ◌==◌, ◌&&◌, ◌||◌, Bool, true, false, nat_lt, nat_le, max, List, [], ◌∷◌, ◌++◌, length, get_or, take, drop, refl, ap, sym, ◌∙◌, arith, bit_and, bit_or, inl, inr}
use Rattle.std.proofs.Math.Seq.{drop-cons, take-suc}
use Rattle.std.specs.Prelude.{All}
use Rattle.std.specs.List.{list_all, AllByRecursion}
use Rattle.std.proofs.lemmas.List.Folds.{list_any-append}
use Rattle.std.proofs.lemmas.List.Elements.{All-from_recursion}
use Rattle.std.specs.Int.{w64, bit_at, bit_not}
use Rattle.std.proofs.lemmas.Bool.{or_cases, and_parts, ltb-true, cases_eq, cases_Bool, and_right, ne_eqb, eq-eqb, lt-ltb, le-leb}
use Rattle.std.proofs.lemmas.Nat.Bits.{bit_at_or, bit_at-pow_same, bit_at-pow_other}
use Rattle.std.proofs.lemmas.Nat.{one_shl}
use Rattle.exb_csp.specs.declared.group_rows.GroupRow.{GroupRow}
use Rattle.exb_csp.specs.Execution.{ExtenderTables, in_mask, is_ecid, has_pair, has_stray, row_code, rows_code, clears_code, in_rows, is_named, is_listed}
use Rattle.exb_csp.proofs.ExecutionLaws.{or_false, free_from, head_done}

-- ---- masks and words

or_bits : (a b : ℕ) → a ≤ 1 → b ≤ 1 → (max a b == 1) ≡ ((a == 1) || (b == 1))
or_bits zero zero low high = refl
or_bits zero (suc zero) low high = refl
or_bits zero (suc (suc b)) low high = absurd (omega arith)
or_bits (suc zero) zero low high = refl
or_bits (suc zero) (suc zero) low high = refl
or_bits (suc zero) (suc (suc b)) low high = absurd (omega arith)
or_bits (suc (suc a)) b low high = absurd (omega arith)

and_or : (a b c : Bool) → (a && (b || c)) ≡ ((a && b) || (a && c))
and_or true b c = refl
and_or false b c = refl

pub in_mask-or : (a b port : ℕ) → in_mask (bit_or a b) port ≡ (in_mask a port || in_mask b port)
unfolding in_mask
in_mask-or a b port =
    ap (λ n. nat_lt 0 port && nat_le port 64 && (n == 1)) (bit_at_or a b (port - 1))
    ∙ ap (λ t. nat_lt 0 port && nat_le port 64 && t) (or_bits (bit_at a (port - 1)) (bit_at b (port - 1)) (omega arith) (omega arith))
    ∙ and_or (nat_lt 0 port && nat_le port 64) (bit_at a (port - 1) == 1) (bit_at b (port - 1) == 1)

-- ---- codes

pub code_stray : (t : ExtenderTables) (earlier : List GroupRow) (ecid mask : ℕ) → is_ecid ecid ≡ true → has_stray t mask ≡ true → 1 ≡ row_code t earlier ecid mask
code_stray t earlier ecid mask known stray = rw (known, stray) refl

pub code_taken : (t : ExtenderTables) (earlier : List GroupRow) (ecid mask : ℕ) → is_ecid ecid ≡ true → has_stray t mask ≡ false → (has_pair t ecid || is_named earlier ecid) ≡ true → 3 ≡ row_code t earlier ecid mask
code_taken t earlier ecid mask known placed taken = rw (known, placed, taken) refl

pub code_none : (t : ExtenderTables) (earlier : List GroupRow) (ecid mask : ℕ) → is_ecid ecid ≡ true → has_stray t mask ≡ false → (has_pair t ecid || is_named earlier ecid) ≡ false → 0 ≡ row_code t earlier ecid mask
code_none t earlier ecid mask known placed free = rw (known, placed, free) refl

-- the code of a list, from its member at i on
pub rows_bad : (t : ExtenderTables) (earlier : List GroupRow) (row : GroupRow) (rows : List GroupRow) (code total : ℕ) → code ≡ row_code t earlier row.ecid row.mask → code ≢ 0 → rows_code t earlier (row ∷ rows) ≡ total → code ≡ total
unfolding rows_code
rows_bad t earlier row rows code total is bad whole =
    let e : (row_code t earlier row.ecid row.mask == 0) ≡ false = ne_eqb _ _ (λ z. bad (is ∙ z)) in
    is ∙ (rw e at whole)

pub rows_good : (t : ExtenderTables) (earlier : List GroupRow) (row : GroupRow) (rows : List GroupRow) (code total : ℕ) → code ≡ row_code t earlier row.ecid row.mask → code ≡ 0 → rows_code t earlier (row ∷ rows) ≡ total → rows_code t (earlier ++ row ∷ []) rows ≡ total
unfolding rows_code
rows_good t earlier row rows code total is good whole =
    let e : (row_code t earlier row.ecid row.mask == 0) ≡ true = eq-eqb _ _ (sym is ∙ good) in
    rw e at whole

pub rows_none : (t : ExtenderTables) (earlier rest : List GroupRow) (total : ℕ) → length rest ≡ 0 → rows_code t earlier rest ≡ total → 0 ≡ total
unfolding rows_code
rows_none t earlier [] total none whole = whole
rows_none t earlier (row ∷ rows) total none whole = absurd (omega arith)

-- ---- steps of loops

abbrev pub no_row : GroupRow
no_row = record { ecid = 0; mask = 0 }

pub rows_stop : (t : ExtenderTables) (rows : List GroupRow) (i code total : ℕ) → i < length rows → code ≡ row_code t (take i rows) (get_or rows i no_row).ecid (get_or rows i no_row).mask → code ≢ 0
    → rows_code t (take i rows) (drop i rows) ≡ total → code ≡ total
rows_stop t rows i code total within is bad so_far =
    rows_bad t (take i rows) (get_or rows i no_row) (drop (suc i) rows) code total is bad (ap (rows_code t (take i rows)) (sym (drop-cons rows i no_row within)) ∙ so_far)

pub rows_next : (t : ExtenderTables) (rows : List GroupRow) (i code total : ℕ) → i < length rows → code ≡ row_code t (take i rows) (get_or rows i no_row).ecid (get_or rows i no_row).mask → code ≡ 0
    → rows_code t (take i rows) (drop i rows) ≡ total → rows_code t (take (i + 1) rows) (drop (i + 1) rows) ≡ total
rows_next t rows i code total within is good so_far =
    let next : i + 1 ≡ suc i = omega arith in
    rw (next, take-suc rows i no_row within) (rows_good t (take i rows) (get_or rows i no_row) (drop (suc i) rows) code total is good (ap (rows_code t (take i rows)) (sym (drop-cons rows i no_row within)) ∙ so_far))

pub in_rows-next : (rows : List GroupRow) (i ecid port : ℕ) → i < length rows
    → in_rows (take (i + 1) rows) ecid port ≡ (in_rows (take i rows) ecid port || (((get_or rows i no_row).ecid == ecid) && in_mask (get_or rows i no_row).mask port))
in_rows-next rows i ecid port within =
    let next : i + 1 ≡ suc i = omega arith in
    ap (λ xs. in_rows xs ecid port) (ap (λ n. take n rows) next ∙ take-suc rows i no_row within)
    ∙ list_any-append (λ (row : GroupRow). (row.ecid == ecid) && in_mask row.mask port) (take i rows) (get_or rows i no_row ∷ [])
    ∙ ap (λ b. in_rows (take i rows) ecid port || b) (or_false _)

pub is_listed-next : (ecids : List ℕ) (i ecid : ℕ) → i < length ecids → is_listed (take (i + 1) ecids) ecid ≡ (is_listed (take i ecids) ecid || (get_or ecids i 0 == ecid))
is_listed-next ecids i ecid within =
    let next : i + 1 ≡ suc i = omega arith in
    ap (λ xs. is_listed xs ecid) (ap (λ n. take n ecids) next ∙ take-suc ecids i 0 within)
    ∙ list_any-append (λ (e : ℕ). e == ecid) (take i ecids) (get_or ecids i 0 ∷ [])
    ∙ ap (λ b. is_listed (take i ecids) ecid || b) (or_false _)

-- ---- lists whose code is 0

known_small : (ecid : ℕ) → is_ecid ecid ≡ true → ecid < 0x4000
known_small ecid known =
    elim (or_cases (nat_lt 0 ecid && nat_lt ecid 4095) (nat_le 0x1000 ecid && nat_lt ecid 0x4000) known) [
      | inl channel ↦ let low : ecid < 4095 = ltb-true _ _ (and_parts (nat_lt 0 ecid) (nat_lt ecid 4095) channel).1 in omega arith
      | inr group ↦ ltb-true _ _ (and_parts (nat_le 0x1000 ecid) (nat_lt ecid 0x4000) group).1
    ]

rows_small : (t : ExtenderTables) (earlier rows : List GroupRow) → rows_code t earlier rows ≡ 0 → AllByRecursion (λ (row : GroupRow). row.ecid < 0x4000) rows
unfolding rows_code
rows_small t earlier [] good = tt
rows_small t earlier (row ∷ rows) good =
    let parts = head_done (row_code t earlier row.ecid row.mask) (rows_code t (earlier ++ row ∷ []) rows) good in
    (known_small row.ecid (free_from t earlier row.ecid row.mask parts.0).known, rows_small t (earlier ++ row ∷ []) rows parts.1)

pub all_rows_small : (t : ExtenderTables) (rows : List GroupRow) → rows_code t [] rows ≡ 0 → All (λ (row : GroupRow). row.ecid < 0x4000) rows
all_rows_small t rows good = All-from_recursion (λ (row : GroupRow). row.ecid < 0x4000) rows (rows_small t [] rows good)

ecids_small : (ecids : List ℕ) → list_all is_ecid ecids ≡ true → AllByRecursion (λ ecid. ecid < 0x4000) ecids
ecids_small [] known = tt
ecids_small (ecid ∷ ecids) known = let two = and_parts (is_ecid ecid) (list_all is_ecid ecids) known in (known_small ecid two.0, ecids_small ecids two.1)

pub all_ecids_small : (ecids : List ℕ) → list_all is_ecid ecids ≡ true → All (λ ecid. ecid < 0x4000) ecids
all_ecids_small ecids known = All-from_recursion (λ ecid. ecid < 0x4000) ecids (ecids_small ecids known)

pub clears_good : (ecids : List ℕ) → list_all is_ecid ecids ≡ true → 0 ≡ clears_code ecids
unfolding clears_code
clears_good [] known = refl
clears_good (ecid ∷ ecids) known = let two = and_parts (is_ecid ecid) (list_all is_ecid ecids) known in rw two.0 (clears_good ecids two.1)

pub clears_bad : (ecids : List ℕ) → list_all is_ecid ecids ≡ false → 2 ≡ clears_code ecids
unfolding clears_code
clears_bad [] known = absurd cc
clears_bad (ecid ∷ ecids) known =
    elim (cases_Bool (is_ecid ecid)) [
      | inl good ↦ rw good (clears_bad ecids (rw good at known))
      | inr bad ↦ rw bad refl
    ]

-- ---- one pair

eqb_sym : (a b : ℕ) → (a == b) ≡ (b == a)
eqb_sym a b =
    elim (cases_eq a b) [
      | inl same ↦ eq-eqb a b same ∙ sym (eq-eqb b a (sym same))
      | inr other ↦ ne_eqb a b other ∙ sym (ne_eqb b a (λ z. other (sym z)))
    ]

-- the mask of one port
one_port : (port q : ℕ) → 0 < port → port ≤ 64 → in_mask (1 * 2 ^ (port - 1) % 2 ^ 64) q ≡ (q == port)
unfolding in_mask
one_port port q low high =
    elim (cases_eq q port) [
      | inl same ↦
          let some : nat_lt 0 q ≡ true = lt-ltb 0 q (omega arith) in
          let few : nat_le q 64 ≡ true = le-leb q 64 (omega arith) in
          let is : q - 1 ≡ port - 1 = omega arith in
          let bit : bit_at (1 * 2 ^ (port - 1) % 2 ^ 64) (q - 1) ≡ 1 = ap (λ n. bit_at n (q - 1)) (one_shl (port - 1) 64 (omega arith)) ∙ ap (bit_at (2 ^ (port - 1))) is ∙ bit_at-pow_same (port - 1) in
          rw (some, few, bit, eq-eqb q port same) refl
      | inr other ↦ elim (cases_eq q 0) [
        | inl none ↦ rw (none, ne_eqb 0 port (λ z. omega arith)) refl
        | inr some ↦
            let apart : q - 1 ≢ port - 1 = λ z. other (omega arith) in
            let bit : bit_at (1 * 2 ^ (port - 1) % 2 ^ 64) (q - 1) ≡ 0 = ap (λ n. bit_at n (q - 1)) (one_shl (port - 1) 64 (omega arith)) ∙ bit_at-pow_other (port - 1) (q - 1) apart in
            rw (bit, ne_eqb q port other) (and_right (nat_lt 0 q && nat_le q 64) false refl)
      ]
    ]

-- a row of one port
pub one_row : (channel port ecid other : ℕ) → 0 < port → port ≤ 64 → in_rows (record { ecid = channel; mask = 1 * 2 ^ (port - 1) % 2 ^ 64 } ∷ []) ecid other ≡ ((ecid == channel) && (other == port))
one_row channel port ecid other low high = rw (one_port port other low high, eqb_sym channel ecid) (or_false ((ecid == channel) && (other == port)))

-- a mask without one bit
abbrev pub without : ℕ → ℕ → ℕ
without a at = bit_and a (bit_not w64 (1 * 2 ^ at % 2 ^ 64))

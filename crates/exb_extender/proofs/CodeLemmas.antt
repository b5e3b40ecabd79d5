-- Codes, exactly.
use Rattle.std.proofs.Common.{◌≡◌, ◌≢◌, ◌⊎◌, ℕ, ◌<◌, ◌≤◌, ◌==◌, ◌&&◌, ◌||◌, not, Bool, true, false, cond, nat_lt, nat_le, List, [], ◌∷◌, ◌++◌, refl, ap, sym, ◌∙◌, arith, inl, inr, append_assoc}
use Rattle.std.specs.Prelude.{◌↔◌}
use Rattle.std.proofs.lemmas.Bool.{and_parts, and_from, or_cases, or_left, or_right, ltb-true, leb-true, cases_eq, cases_Bool, eq-eqb, ne_eqb, eqb-true, lt-ltb, le-leb, both_ways, false_from_ne_true}
use Rattle.exb_csp.specs.declared.group_rows.GroupRow.{GroupRow}
use Rattle.exb_csp.specs.Execution.{ExtenderTables, in_mask, is_port, is_channel, is_ecid, has_pair, has_stray, is_named, row_code, rows_code, code_of}
use Rattle.std.proofs.lemmas.List.{append-nil}
use Rattle.exb_csp.proofs.ExecutionLaws.{find_port, some_port-true, or_false, head_done}
use Rattle.exb_extender.specs.Laws.{IsPortOf, IsChannel, IsEcid, HasPair, HasStray, CreateCodes, DeleteCodes, RegisterCodes, UnregisterCodes, CodesExactly, ManyCodes}

-- ---- tests that decide facts

-- a test is true exactly where a fact holds
pub record Tells (b : Bool) (P : Type 0) : Type 0 where
  pub holds : b ≡ true → P
  pub shows : P → b ≡ true

fails : (b : Bool) (P : Type 0) → Tells b P → b ≡ false → ¬ P
fails b P t off p = both_ways b off (t.shows p)

fails_not : (b : Bool) (P : Type 0) → Tells b P → (¬ P) → b ≡ false
fails_not b P t out = false_from_ne_true b (λ on. out (t.holds on))

tells_port : (t : ExtenderTables) (port : ℕ) → Tells (is_port t port) (IsPortOf t port)
tells_port t port = record {
  holds = λ on. let p = and_parts (nat_lt 0 port) (nat_le port t.ports) on in (ltb-true 0 port p.0, leb-true port t.ports p.1);
  shows = λ p. and_from _ _ (lt-ltb 0 port p.0) (le-leb port t.ports p.1);
}

tells_channel : (e : ℕ) → Tells (is_channel e) (IsChannel e)
tells_channel e = record {
  holds = λ on. let p = and_parts (nat_lt 0 e) (nat_lt e 4095) on in (ltb-true 0 e p.0, ltb-true e 4095 p.1);
  shows = λ p. and_from _ _ (lt-ltb 0 e p.0) (lt-ltb e 4095 p.1);
}

tells_group : (e : ℕ) → Tells (nat_le 0x1000 e && nat_lt e 0x4000) ((0x1000 ≤ e) × (e < 0x4000))
tells_group e = record {
  holds = λ on. let p = and_parts (nat_le 0x1000 e) (nat_lt e 0x4000) on in (leb-true 0x1000 e p.0, ltb-true e 0x4000 p.1);
  shows = λ p. and_from _ _ (le-leb 0x1000 e p.0) (lt-ltb e 0x4000 p.1);
}

tells_or : (a b : Bool) (P Q : Type 0) → Tells a P → Tells b Q → Tells (a || b) (P ⊎ Q)
tells_or a b P Q ta tb = record {
  holds = λ on. elim (or_cases a b on) [ inl first ↦ inl (ta.holds first) | inr second ↦ inr (tb.holds second) ];
  shows = λ s. elim s [ inl p ↦ or_left a b (ta.shows p) | inr q ↦ or_right a b (tb.shows q) ];
}

tells_ecid : (e : ℕ) → Tells (is_ecid e) (IsEcid e)
tells_ecid e = tells_or (is_channel e) (nat_le 0x1000 e && nat_lt e 0x4000) (IsChannel e) ((0x1000 ≤ e) × (e < 0x4000)) (tells_channel e) (tells_group e)

tells_positive : (n : ℕ) → Tells (nat_lt 0 n) (0 < n)
tells_positive n = record { holds = λ on. ltb-true 0 n on; shows = λ p. lt-ltb 0 n p }

tells_pair : (t : ExtenderTables) (e : ℕ) → Tells (has_pair t e) (HasPair t e)
tells_pair t e = record {
  holds = λ on. find_port (t.pair e) on;
  shows = λ found. some_port-true (t.pair e) found.0 found.1 found.2 found.3;
}

tells_shut : (t : ExtenderTables) (port : ℕ) → Tells (nat_lt t.ports port || (t.own port == 0)) ((t.ports < port) ⊎ (t.own port ≡ 0))
tells_shut t port =
    tells_or (nat_lt t.ports port) (t.own port == 0) (t.ports < port) (t.own port ≡ 0)
    (record { holds = λ on. ltb-true t.ports port on; shows = λ p. lt-ltb t.ports port p })
    (record { holds = λ on. eqb-true (t.own port) 0 on; shows = λ p. eq-eqb (t.own port) 0 p })

tells_stray : (t : ExtenderTables) (mask : ℕ) → Tells (has_stray t mask) (HasStray t mask)
tells_stray t mask = record {
  holds = λ on.
      let found = find_port (λ port. in_mask mask port && (nat_lt t.ports port || (t.own port == 0))) on in
      let both = and_parts (in_mask mask found.0) (nat_lt t.ports found.0 || (t.own found.0 == 0)) found.3 in
      (found.0, found.1, found.2, both.0, (tells_shut t found.0).holds both.1);
  shows = λ found. some_port-true (λ port. in_mask mask port && (nat_lt t.ports port || (t.own port == 0))) found.0 found.1 found.2
      (and_from _ _ found.3 ((tells_shut t found.0).shows found.4));
}

-- ---- three tests in turn

-- x where the first fails, else y where the second holds, else z where the third does, else 0
abbrev turn : Bool → Bool → Bool → ℕ → ℕ → ℕ → ℕ
turn a b c x y z = cond (not a) x (cond b y (cond c z 0))

pub record AreCodes (x y z : ℕ) : Type 0 where
  pub first : (x ≢ 0) × (x ≢ y) × (x ≢ z)
  pub second : (y ≢ 0) × (y ≢ z)
  pub third : z ≢ 0

module _ (x y z : ℕ) (apart : AreCodes x y z) where
  turn_first : (a b c : Bool) → turn a b c x y z ≡ x → a ≡ false
  turn_first false b c e = refl
  turn_first true true c e = absurd (apart.first.1 (sym e))
  turn_first true false true e = absurd (apart.first.2 (sym e))
  turn_first true false false e = absurd (apart.first.0 (sym e))

  turn_second : (a b c : Bool) → turn a b c x y z ≡ y → (a ≡ true) × (b ≡ true)
  turn_second false b c e = absurd (apart.first.1 e)
  turn_second true true c e = (refl, refl)
  turn_second true false true e = absurd (apart.second.1 (sym e))
  turn_second true false false e = absurd (apart.second.0 (sym e))

  turn_third : (a b c : Bool) → turn a b c x y z ≡ z → (a ≡ true) × (b ≡ false) × (c ≡ true)
  turn_third false b c e = absurd (apart.first.2 e)
  turn_third true true c e = absurd (apart.second.1 e)
  turn_third true false true e = (refl, refl, refl)
  turn_third true false false e = absurd (apart.third (sym e))

  module _ (a b c : Bool) (P Q R : Type 0) (ta : Tells a P) (tb : Tells b Q) (tc : Tells c R) where
    exactly_first : (turn a b c x y z ≡ x) ↔ (¬ P)
    exactly_first = (λ e. fails a P ta (turn_first a b c e), λ out. ap (λ t. turn t b c x y z) (fails_not a P ta out))

    exactly_second : (turn a b c x y z ≡ y) ↔ (P × Q)
    exactly_second = (
      λ e. let both = turn_second a b c e in (ta.holds both.0, tb.holds both.1),
      λ h. ap (λ t. turn t b c x y z) (ta.shows h.0) ∙ ap (λ t. turn true t c x y z) (tb.shows h.1),
    )

    exactly_third : (turn a b c x y z ≡ z) ↔ (P × (¬ Q) × R)
    exactly_third = (
      λ e. let all = turn_third a b c e in (ta.holds all.0, fails b Q tb all.1, tc.holds all.2),
      λ h. ap (λ t. turn t b c x y z) (ta.shows h.0) ∙ ap (λ t. turn true t c x y z) (fails_not b Q tb h.1) ∙ ap (λ t. turn true false t x y z) (tc.shows h.2),
    )

differ : (a b : ℕ) → a < b → a ≢ b
differ a b less same = omega arith

differ_back : (a b : ℕ) → b < a → a ≢ b
differ_back a b less same = omega arith

create_apart : AreCodes 1 2 3
create_apart = record {
  first = (differ_back 1 0 (omega arith), differ 1 2 (omega arith), differ 1 3 (omega arith));
  second = (differ_back 2 0 (omega arith), differ 2 3 (omega arith));
  third = differ_back 3 0 (omega arith);
}

register_apart : AreCodes 2 1 3
register_apart = record {
  first = (differ_back 2 0 (omega arith), differ_back 2 1 (omega arith), differ 2 3 (omega arith));
  second = (differ_back 1 0 (omega arith), differ 1 3 (omega arith));
  third = differ_back 3 0 (omega arith);
}

-- the opposite of a test tells the opposite
tells_not : (b : Bool) (P : Type 0) → Tells b P → Tells (not b) (¬ P)
tells_not b P t = record {
  holds = λ on. fails b P t (not_true b on);
  shows = λ out. ap not (fails_not b P t out);
}
  where
    not_true : (b : Bool) → not b ≡ true → b ≡ false
    not_true true e = absurd cc
    not_true false e = refl

-- what isn't denied, where a test tells it
undenied : (b : Bool) (P : Type 0) → Tells b P → (¬ (¬ P)) → P
undenied b P t twice =
    elim (cases_Bool b) [
      | inl on ↦ t.holds on
      | inr off ↦ absurd (twice (fails b P t off))
    ]

pub create_exactly : (t : ExtenderTables) (port : ℕ) (kind : Bool) (channel : ℕ) → CreateCodes t port kind channel
unfolding code_of
create_exactly t port kind channel =
    let a = is_port t port in
    let b = not (is_channel channel) in
    let c = nat_lt 0 (t.own port) || has_pair t channel in
    let ta = tells_port t port in
    let tb = tells_not (is_channel channel) (IsChannel channel) (tells_channel channel) in
    let tc = tells_or (nat_lt 0 (t.own port)) (has_pair t channel) (0 < t.own port) (HasPair t channel) (tells_positive (t.own port)) (tells_pair t channel) in
    let third = exactly_third 1 2 3 create_apart a b c (IsPortOf t port) (¬ IsChannel channel) ((0 < t.own port) ⊎ HasPair t channel) ta tb tc in
    record {
      one = exactly_first 1 2 3 create_apart a b c (IsPortOf t port) (¬ IsChannel channel) ((0 < t.own port) ⊎ HasPair t channel) ta tb tc;
      two = exactly_second 1 2 3 create_apart a b c (IsPortOf t port) (¬ IsChannel channel) ((0 < t.own port) ⊎ HasPair t channel) ta tb tc;
      three = (
        λ e. let h = third.0 e in (h.0, undenied (is_channel channel) (IsChannel channel) (tells_channel channel) h.1, h.2),
        λ h. third.1 (h.0, λ out. out h.1, h.2),
      );
    }

pub register_exactly : (t : ExtenderTables) (ecid mask : ℕ) → RegisterCodes t ecid mask
unfolding code_of
register_exactly t ecid mask =
    let c = has_pair t ecid || is_named [] ecid in
    let tc : Tells c (HasPair t ecid) = record {
      holds = λ on. (tells_pair t ecid).holds (sym (or_false (has_pair t ecid)) ∙ on);
      shows = λ h. or_false (has_pair t ecid) ∙ (tells_pair t ecid).shows h;
    } in
    record {
      two = exactly_first 2 1 3 register_apart (is_ecid ecid) (has_stray t mask) c (IsEcid ecid) (HasStray t mask) (HasPair t ecid) (tells_ecid ecid) (tells_stray t mask) tc;
      one = exactly_second 2 1 3 register_apart (is_ecid ecid) (has_stray t mask) c (IsEcid ecid) (HasStray t mask) (HasPair t ecid) (tells_ecid ecid) (tells_stray t mask) tc;
      three = exactly_third 2 1 3 register_apart (is_ecid ecid) (has_stray t mask) c (IsEcid ecid) (HasStray t mask) (HasPair t ecid) (tells_ecid ecid) (tells_stray t mask) tc;
    }

-- ---- one test

choice_is : (b : Bool) (x : ℕ) → x ≢ 0 → ◌≡◌ {A = ℕ} (cond b 0 x) x → b ≡ false
choice_is true x some e = absurd (some (sym e))
choice_is false x some e = refl

choice_never : (b : Bool) (x y : ℕ) → 0 ≢ y → x ≢ y → ◌≢◌ {A = ℕ} (cond b 0 x) y
choice_never true x y apart other e = apart e
choice_never false x y apart other e = other e

exactly_failing : (b : Bool) (P : Type 0) (x : ℕ) → Tells b P → x ≢ 0 → (◌≡◌ {A = ℕ} (cond b 0 x) x) ↔ (¬ P)
exactly_failing b P x t some = (λ e. fails b P t (choice_is b x some e), λ out. ap (λ v. cond v 0 x) (fails_not b P t out))

pub delete_exactly : (t : ExtenderTables) (port : ℕ) → DeleteCodes t port
unfolding code_of
delete_exactly t port = record {
  one = exactly_failing (is_port t port) (IsPortOf t port) 1 (tells_port t port) (differ_back 1 0 (omega arith));
  never = (
    choice_never (is_port t port) 1 2 (differ 0 2 (omega arith)) (differ 1 2 (omega arith)),
    choice_never (is_port t port) 1 3 (differ 0 3 (omega arith)) (differ 1 3 (omega arith)),
  );
}

pub unregister_exactly : (t : ExtenderTables) (ecid : ℕ) → UnregisterCodes t ecid
unfolding code_of
unregister_exactly t ecid = record {
  two = exactly_failing (is_ecid ecid) (IsEcid ecid) 2 (tells_ecid ecid) (differ_back 2 0 (omega arith));
  never = (
    choice_never (is_ecid ecid) 2 1 (differ 0 1 (omega arith)) (differ_back 2 1 (omega arith)),
    choice_never (is_ecid ecid) 2 3 (differ 0 3 (omega arith)) (differ 2 3 (omega arith)),
  );
}

pub codes_exactly : CodesExactly
codes_exactly = record { create = create_exactly; delete = delete_exactly; register = register_exactly; unregister = unregister_exactly }

-- ---- many rows

-- rows that are good after others
good_more : (t : ExtenderTables) (earlier before : List GroupRow) (row : GroupRow) → row_code t earlier row.ecid row.mask ≡ 0
    → rows_code t (earlier ++ row ∷ []) before ≡ 0 → rows_code t earlier (row ∷ before) ≡ 0
unfolding rows_code
good_more t earlier before row good rest = let e : (row_code t earlier row.ecid row.mask == 0) ≡ true = eq-eqb _ _ good in rw e rest

-- the first bad row after rows that count as earlier
pub record IsFirstAfter (t : ExtenderTables) (earlier rows before after : List GroupRow) (row : GroupRow) (code : ℕ) : Type 0 where
  pub split : rows ≡ before ++ row ∷ after
  pub good : rows_code t earlier before ≡ 0
  pub bad : row_code t (earlier ++ before) row.ecid row.mask ≡ code

abbrev FirstAfter : ExtenderTables → List GroupRow → List GroupRow → ℕ → Type 0
FirstAfter t earlier rows code = (before : List GroupRow) × (row : GroupRow) × (after : List GroupRow) × IsFirstAfter t earlier rows before after row code

find_bad : (t : ExtenderTables) (earlier rows : List GroupRow) (code : ℕ) → code ≢ 0 → rows_code t earlier rows ≡ code → FirstAfter t earlier rows code
unfolding rows_code
find_bad t earlier [] code some whole = absurd (some (sym whole))
find_bad t earlier (row ∷ rows) code some whole =
    elim (cases_eq (row_code t earlier row.ecid row.mask) 0) [
      | inr bad ↦
          let e : (row_code t earlier row.ecid row.mask == 0) ≡ false = ne_eqb _ _ bad in
          let is : row_code t earlier row.ecid row.mask ≡ code = rw e at whole in
          ([], row, rows, record { split = refl; good = refl; bad = ap (λ (seen : List GroupRow). row_code t seen row.ecid row.mask) (append-nil earlier) ∙ is })
      | inl good ↦
          let e : (row_code t earlier row.ecid row.mask == 0) ≡ true = eq-eqb _ _ good in
          let rest : rows_code t (earlier ++ row ∷ []) rows ≡ code = rw e at whole in
          let found = find_bad t (earlier ++ row ∷ []) rows code some rest in
          let known = found.3 in (
            row ∷ found.0,
            found.1,
            found.2,
            record {
              split = ap (λ xs. row ∷ xs) known.split;
              good = good_more t earlier found.0 row good known.good;
              bad = ap (λ (seen : List GroupRow). row_code t seen found.1.ecid found.1.mask) (sym (append_assoc earlier (row ∷ []) found.0)) ∙ known.bad;
            },
          )
    ]

head_good : (t : ExtenderTables) (earlier before : List GroupRow) (row : GroupRow) → rows_code t earlier (row ∷ before) ≡ 0
    → (row_code t earlier row.ecid row.mask ≡ 0) × (rows_code t (earlier ++ row ∷ []) before ≡ 0)
unfolding rows_code
head_good t earlier before row whole = head_done (row_code t earlier row.ecid row.mask) (rows_code t (earlier ++ row ∷ []) before) whole

bad_gives : (t : ExtenderTables) (earlier before after : List GroupRow) (row : GroupRow) (code : ℕ) → code ≢ 0 → rows_code t earlier before ≡ 0 → row_code t (earlier ++ before) row.ecid row.mask ≡ code
    → rows_code t earlier (before ++ row ∷ after) ≡ code
unfolding rows_code
bad_gives t earlier [] after row code some good bad =
    let is : row_code t earlier row.ecid row.mask ≡ code = ap (λ (seen : List GroupRow). row_code t seen row.ecid row.mask) (sym (append-nil earlier)) ∙ bad in
    let e : (row_code t earlier row.ecid row.mask == 0) ≡ false = ne_eqb _ _ (λ z. some (sym is ∙ z)) in
    rw e is
bad_gives t earlier (first ∷ before) after row code some good bad =
    let two = head_good t earlier before first good in
    let e : (row_code t earlier first.ecid first.mask == 0) ≡ true = eq-eqb _ _ two.0 in
    rw e (bad_gives t (earlier ++ first ∷ []) before after row code some two.1 (ap (λ (seen : List GroupRow). row_code t seen row.ecid row.mask) (append_assoc earlier (first ∷ []) before) ∙ bad))

pub many_codes : ManyCodes
unfolding code_of
many_codes t rows code some = (
  λ whole.
      let found = find_bad t [] rows code some whole in
      let known = found.3 in
      (found.0, found.1, found.2, record { split = known.split; good = known.good; bad = known.bad }),
  λ found.
      let known = found.3 in
      ap (rows_code t []) known.split ∙ bad_gives t [] found.0 found.2 found.1 code some known.good known.bad,
)

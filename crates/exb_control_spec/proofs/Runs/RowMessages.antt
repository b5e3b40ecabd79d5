-- Rows that may be put, in messages, extender after extender.
use Rattle.std.proofs.Common.{◌≡◌, ◌≢◌, ℕ, zero, suc, ◌+◌, ◌-◌, ◌%◌, ◌≤◌, ◌==◌, ◌&&◌, ◌||◌, ◌++◌, cond, Bool, true, false, not, List, [], ◌∷◌, length, map, take, drop, nat_lt, slice_index, refl, sym, ◌∙◌, ap, subst, arith, inl, inr, eq-eqb, length-drop}
use Rattle.std.proofs.lemmas.Bool.{and_parts, and_left, ne_eqb, or_parts, or_cases, or_from, ltb-true, false≢true, false_from_ne_true}
use Rattle.std.proofs.lemmas.List.{take-append-drop}
use Rattle.std.proofs.lemmas.List.Folds.{list_any-append}
use Rattle.exb_model.specs.Tree.{Shape, device}
use Rattle.exb_model.specs.ExtenderForwarding.{Tables}
use Rattle.exb_csp.specs.declared.group_rows.GroupRow.{GroupRow}
use Rattle.exb_csp.specs.Execution.{ExtenderTables, in_mask, is_ecid, has_pair, has_stray, is_named, row_code, rows_code, code_of, in_rows, done}
use Rattle.exb_csp.proofs.ExecutionLaws.{some_port-false, or_false}
use Rattle.exb_csp.specs.AllTables.{port_of, executes_at, RunsAt}
use Rattle.exb_control_spec.specs.declared.plan.row_action.RowAction.TheVariants.{Lay}
use Rattle.exb_control_spec.specs.Plans.ChangeRequests.{ask, register, message, pieces, in_messages, asks_with}
use Rattle.exb_control_spec.proofs.Plans.EachElement.{Each}
use Rattle.exb_control_spec.proofs.Plans.Bools.{and_false, eq_turned}
use Rattle.exb_control_spec.specs.Runs.LaidTables.{has_port, by_extender}
use Rattle.exb_control_spec.proofs.Runs.Bools.{by_zero}
use Rattle.exb_control_spec.proofs.Runs.EqualTables.{port_at, same_tables, same_extender, runs_to, runs_from, executes_to}

-- a row may be put at extender n
pub record CanPut (t : Shape) (x : Tables) (n : ℕ) (r : GroupRow) : Type 0 where
  pub known : is_ecid r.ecid ≡ true
  pub placed : (k : ℕ) → in_mask r.mask k ≡ true → (has_port t n k ≡ true) × (x.own (port_of n k) ≢ 0)
  pub alone : (k : ℕ) → has_port t n k ≡ true → x.pair r.ecid (port_of n k) ≡ false

-- the numbers of rows differ
abbrev pub AreApart : List GroupRow → Type 0
AreApart [] = Unit {0}
AreApart (r ∷ rs) = (is_named rs r.ecid ≡ false) × AreApart rs

-- they differ from those of other rows
abbrev AreNew : List GroupRow → List GroupRow → Type 0
AreNew earlier rows = Each (λ r. is_named earlier r.ecid ≡ false) rows

pub front_each : {X : Type 0} (P : X → Type 0) (xs ys : List X) → Each P (xs ++ ys) → Each P xs
front_each P [] ys all = tt
front_each P (x ∷ xs) ys all = (all.0, front_each P xs ys all.1)

pub back_each : {X : Type 0} (P : X → Type 0) (xs ys : List X) → Each P (xs ++ ys) → Each P ys
back_each P [] ys all = all
back_each P (x ∷ xs) ys all = back_each P xs ys all.1

module _ (t : Shape) (n : ℕ) where
  abbrev pub put_at : List GroupRow → Tables → Tables
  put_at rows x = record x { pair = λ e q. x.pair e q || (device q == n && in_rows rows e (q % 64 + 1)) }

  abbrev pub AllPut : Tables → List GroupRow → Type 0
  AllPut x rows = Each (CanPut t x n) rows

  -- ---- codes
  not_stray : (x : Tables) (r : GroupRow) → CanPut t x n r → has_stray (by_extender t x n) r.mask ≡ false
  not_stray x r can = some_port-false _ (λ k low high. by_bit k (in_mask r.mask k) refl)
    where
      inside : (k : ℕ) → (has_port t n k ≡ true) × (x.own (port_of n k) ≢ 0) → (nat_lt (slice_index t.ports n) k || (cond (has_port t n k) (x.own (port_of n k)) 0 == 0)) ≡ false
      inside k p =
          let at = port_at t n k p.0 in
          or_from _ _ (false_from_ne_true _ (λ e. let l = at.count in let m = ltb-true (slice_index t.ports n) k e in absurd (omega (arith, l, m))))
          (ne_eqb _ 0 (rw p.0 p.1))

      by_bit : (k : ℕ) (b : Bool) → in_mask r.mask k ≡ b → (b && (nat_lt (slice_index t.ports n) k || (cond (has_port t n k) (x.own (port_of n k)) 0 == 0))) ≡ false
      by_bit k true e = inside k (can.placed k e)
      by_bit k false e = refl

  pub no_pair : (x : Tables) (e : ℕ) → ((k : ℕ) → has_port t n k ≡ true → x.pair e (port_of n k) ≡ false) → has_pair (by_extender t x n) e ≡ false
  no_pair x e none = some_port-false _ (λ k low high. by_port k (has_port t n k) refl)
    where
      by_port : (k : ℕ) (b : Bool) → has_port t n k ≡ b → (b && x.pair e (port_of n k)) ≡ false
      by_port k true h = none k h
      by_port k false h = refl

  row_good : (x : Tables) (earlier : List GroupRow) (r : GroupRow) → CanPut t x n r → is_named earlier r.ecid ≡ false → row_code (by_extender t x n) earlier r.ecid r.mask ≡ 0
  row_good x earlier r can new = coded _ _ _ _ can.known (not_stray x r can) (no_pair x r.ecid can.alone) new
    where
      coded : (known stray pair named : Bool) → known ≡ true → stray ≡ false → pair ≡ false → named ≡ false → ◌≡◌ {A = ℕ} (cond (not known) 2 (cond stray 1 (cond (pair || named) 3 0))) 0
      coded known stray pair named a b c d = rw (a, b, c, d) refl

  newer : (earlier : List GroupRow) (r : GroupRow) (rows : List GroupRow) → is_named rows r.ecid ≡ false → AreNew earlier rows → AreNew (earlier ++ r ∷ []) rows
  newer earlier r [] apart new = tt
  newer earlier r (s ∷ rows) apart new =
      let parts = or_parts (s.ecid == r.ecid) (is_named rows r.ecid) apart in (
        list_any-append (λ row. row.ecid == s.ecid) earlier (r ∷ []) ∙ or_from _ _ new.0 (or_from _ _ (eq_turned r.ecid s.ecid ∙ parts.0) refl),
        newer earlier r rows parts.1 new.1,
      )

  rows_good : (x : Tables) (earlier rows : List GroupRow) → AllPut x rows → AreApart rows → AreNew earlier rows → rows_code (by_extender t x n) earlier rows ≡ 0
  unfolding rows_code
  rows_good x earlier [] can apart new = refl
  rows_good x earlier (r ∷ rows) can apart new =
      by_zero _ _ (row_good x earlier r can.0 new.0) (rows_good x (earlier ++ r ∷ []) rows can.1 apart.1 (newer earlier r rows apart.0 new.1))

  none_new : (rows : List GroupRow) → AreNew [] rows
  none_new [] = tt
  none_new (r ∷ rows) = (refl, none_new rows)

  register_good : (x : Tables) (rows : List GroupRow) → AllPut x rows → AreApart rows → code_of (by_extender t x n) (register rows) ≡ 0
  unfolding code_of rows_code
  register_good x [] can apart = refl
  register_good x (r ∷ []) can apart = row_good x [] r can.0 refl
  register_good x (r ∷ s ∷ rows) can apart = rows_good x [] (r ∷ s ∷ rows) can apart (none_new (r ∷ s ∷ rows))

  -- ---- what a message puts
  abbrev put_there : List GroupRow → ExtenderTables → ExtenderTables
  put_there rows y = record y { pair = λ e k. y.pair e k || in_rows rows e k }

  register_done : (y : ExtenderTables) (rows : List GroupRow) → done y (register rows) ≡ put_there rows y
  unfolding done
  register_done y [] = refl
  register_done y (r ∷ []) = same_extender _ _ refl (λ k. refl) (λ k. refl) (λ e k. ap (λ b. y.pair e k || b) (sym (or_false ((r.ecid == e) && in_mask r.mask k))))
  register_done y (r ∷ s ∷ rows) = refl

  -- rows that may be put have ports of the extender alone
  inside : (x : Tables) (rows : List GroupRow) → AllPut x rows → (e k : ℕ) → in_rows rows e k ≡ true → has_port t n k ≡ true
  inside x [] can e k h = absurd (false≢true h)
  inside x (r ∷ rows) can e k h =
      elim (or_cases ((r.ecid == e) && in_mask r.mask k) (in_rows rows e k) h) [
        | inl a ↦ (can.0.placed k (and_parts (r.ecid == e) (in_mask r.mask k) a).1).0
        | inr b ↦ inside x rows can.1 e k b
      ]

  put_executes : (x : Tables) (rows : List GroupRow) → AllPut x rows → AreApart rows → executes_at n (register rows) (by_extender t x) ≡ by_extender t (put_at rows x)
  put_executes x rows can apart = executes_to n (register rows) (by_extender t x) (by_extender t (put_at rows x)) (register_good x rows can apart) here other
    where
      pair_here : (m e k : ℕ) → m ≡ n → (b : Bool) → has_port t m k ≡ b →
          ((b && x.pair e (port_of m k)) || in_rows rows e k) ≡ (b && (x.pair e (port_of m k) || (device (port_of m k) == n && in_rows rows e (port_of m k % 64 + 1))))
      pair_here m e k same true h =
          let at = port_at t m k h in
          rw (eq-eqb (device (port_of m k)) n (at.home ∙ same), at.place) refl
      pair_here m e k same false h = false_from_ne_true _ (λ r. false≢true (sym h ∙ (ap (λ (j : ℕ). has_port t j k) same ∙ inside x rows can e k r)))

      here : (m : ℕ) → m ≡ n → done (by_extender t x m) (register rows) ≡ by_extender t (put_at rows x) m
      here m same = register_done (by_extender t x m) rows ∙ same_extender _ _ refl (λ k. refl) (λ k. refl) (λ e k. pair_here m e k same (has_port t m k) refl)

      pair_other : (m e k : ℕ) → m ≢ n → (b : Bool) → has_port t m k ≡ b →
          (b && x.pair e (port_of m k)) ≡ (b && (x.pair e (port_of m k) || (device (port_of m k) == n && in_rows rows e (port_of m k % 64 + 1))))
      pair_other m e k away true h =
          let at = port_at t m k h in
          rw (ne_eqb (device (port_of m k)) n (λ z. away (sym at.home ∙ z))) (sym (or_false (x.pair e (port_of m k))))
      pair_other m e k away false h = refl

      other : (m : ℕ) → m ≢ n → by_extender t x m ≡ by_extender t (put_at rows x) m
      other m away = same_extender _ _ refl (λ k. refl) (λ k. refl) (λ e k. pair_other m e k away (has_port t m k) refl)

  -- ---- in messages
  front_apart : (xs ys : List GroupRow) → AreApart (xs ++ ys) → AreApart xs
  front_apart [] ys apart = tt
  front_apart (x ∷ xs) ys apart = ((or_parts _ _ (sym (list_any-append (λ row. row.ecid == x.ecid) xs ys) ∙ apart.0)).0, front_apart xs ys apart.1)

  back_apart : (xs ys : List GroupRow) → AreApart (xs ++ ys) → AreApart ys
  back_apart [] ys apart = apart
  back_apart (x ∷ xs) ys apart = back_apart xs ys apart.1

  unnamed : (x : GroupRow) (xs ys : List GroupRow) → is_named ys x.ecid ≡ false → AreNew xs ys → AreNew (x ∷ xs) ys
  unnamed x xs [] none new = tt
  unnamed x xs (y ∷ ys) none new =
      let parts = or_parts (y.ecid == x.ecid) (is_named ys x.ecid) none in
      (or_from _ _ (eq_turned x.ecid y.ecid ∙ parts.0) new.0, unnamed x xs ys parts.1 new.1)

  split_new : (xs ys : List GroupRow) → AreApart (xs ++ ys) → AreNew xs ys
  split_new [] ys apart = none_new ys
  split_new (x ∷ xs) ys apart = unnamed x xs ys (or_parts _ _ (sym (list_any-append (λ row. row.ecid == x.ecid) xs ys) ∙ apart.0)).1 (split_new xs ys apart.1)

  not_in : (rows : List GroupRow) (e k : ℕ) → is_named rows e ≡ false → in_rows rows e k ≡ false
  not_in [] e k none = refl
  not_in (r ∷ rows) e k none =
      let parts = or_parts (r.ecid == e) (is_named rows e) none in
      or_from _ _ (and_left (r.ecid == e) (in_mask r.mask k) parts.0) (not_in rows e k parts.1)

  put_later : (x : Tables) (earlier rows : List GroupRow) → AllPut x rows → AreNew earlier rows → AllPut (put_at earlier x) rows
  put_later x earlier [] can new = tt
  put_later x earlier (r ∷ rows) can new = (
    record {
      known = can.0.known;
      placed = can.0.placed;
      alone = λ k h. or_from _ _ (can.0.alone k h) (ap (λ b. device (port_of n k) == n && b) (not_in earlier r.ecid (port_of n k % 64 + 1) new.0) ∙ and_false (device (port_of n k) == n));
    },
    put_later x earlier rows can.1 new.1,
  )

  joined : (x : Tables) (xs ys : List GroupRow) → put_at ys (put_at xs x) ≡ put_at (xs ++ ys) x
  joined x xs ys = same_tables _ _ (λ q. refl) (λ q. refl) (λ e q.
      or_both (x.pair e q) (device q == n) (in_rows xs e (q % 64 + 1)) (in_rows ys e (q % 64 + 1))
      ∙ ap (λ b. x.pair e q || (device q == n && b)) (sym (list_any-append (λ row. (row.ecid == e) && in_mask row.mask (q % 64 + 1)) xs ys)))
    where
      or_both : (a d b c : Bool) → ((a || (d && b)) || (d && c)) ≡ (a || (d && (b || c)))
      or_both true d b c = refl
      or_both false true b c = refl
      or_both false false b c = refl

  put_none : (x : Tables) → x ≡ put_at [] x
  put_none x = same_tables _ _ (λ q. refl) (λ q. refl) (λ e q. sym (ap (λ b. x.pair e q || b) (and_false (device q == n)) ∙ or_false (x.pair e q)))

  run_pieces : (d : ℕ) (x : Tables) (rows : List GroupRow) → length rows ≤ d → AllPut x rows → AreApart rows →
      RunsAt (by_extender t x) (map (λ piece. ask n (message Lay piece)) (pieces d rows)) (by_extender t (put_at rows x))
  unfolding pieces
  run_pieces zero x [] few can apart = ap (by_extender t) (put_none x)
  run_pieces zero x (r ∷ rows) few can apart = absurd (omega arith)
  run_pieces (suc d) x [] few can apart = ap (by_extender t) (put_none x)
  run_pieces (suc d) x (r ∷ rows) few can apart =
      let front = take 64 (r ∷ rows) in
      let back = drop 64 (r ∷ rows) in
      let whole : front ++ back ≡ r ∷ rows = take-append-drop 64 (r ∷ rows) in
      let can' : AllPut x (front ++ back) = subst (AllPut x) (sym whole) can in
      let apart' : AreApart (front ++ back) = subst AreApart (sym whole) apart in
      let left : length back ≡ length (r ∷ rows) - 64 = length-drop 64 (r ∷ rows) in
      let can_front : AllPut x front = front_each (CanPut t x n) front back can' in
      let apart_front : AreApart front = front_apart front back apart' in (
        register_good x front can_front apart_front,
        runs_from _ (by_extender t (put_at front x)) _ (map (λ piece. ask n (message Lay piece)) (pieces d back)) (put_executes x front can_front apart_front)
            (runs_to _ (by_extender t (put_at back (put_at front x))) _ (map (λ piece. ask n (message Lay piece)) (pieces d back))
            (run_pieces d (put_at front x) back (omega (arith, left, few)) (put_later x front back (back_each (CanPut t x n) front back can') (split_new front back apart')) (back_apart front back apart'))
            (ap (by_extender t) (joined x front back ∙ ap (λ (l : List GroupRow). put_at l x) whole))),
      )

  pub put_runs : (x : Tables) (rows : List GroupRow) → AllPut x rows → AreApart rows →
      RunsAt (by_extender t x) (asks_with Lay rows n) (by_extender t (put_at rows x))
  unfolding in_messages
  put_runs x rows can apart = run_pieces (length rows) x rows (omega arith) can apart

-- Numbers that are cleared, in messages.
use Rattle.std.proofs.Common.{◌≡◌, ◌≢◌, ℕ, zero, suc, ◌-◌, ◌≤◌, ◌==◌, ◌&&◌, ◌||◌, ◌++◌, cond, Bool, true, false, not, List, [], ◌∷◌, length, map, take, drop, refl, sym, ◌∙◌, ap, subst, arith, eq-eqb, length-drop}
use Rattle.std.proofs.lemmas.Bool.{ne_eqb}
use Rattle.std.proofs.lemmas.List.{take-append-drop}
use Rattle.std.proofs.lemmas.List.Folds.{list_any-append}
use Rattle.exb_model.specs.Tree.{Shape, device}
use Rattle.exb_model.specs.ExtenderForwarding.{Tables}
use Rattle.exb_csp.specs.declared.group_rows.GroupRow.{GroupRow}
use Rattle.exb_csp.specs.Execution.{ExtenderTables, is_ecid, is_named, clear_code, clears_code, code_of, done}
use Rattle.exb_csp.proofs.ExecutionLaws.{or_false, and_true}
use Rattle.exb_csp.specs.AllTables.{port_of, executes_at, RunsAt}
use Rattle.exb_control_spec.specs.declared.plan.row_action.RowAction.TheVariants.{Clear}
use Rattle.exb_model.specs.Lists.{is_listed}
use Rattle.exb_control_spec.specs.Plans.ChangeRequests.{ask, unregister, numbers_of, message, pieces, in_messages, asks_with}
use Rattle.exb_control_spec.proofs.Plans.EachElement.{Each, list_any-map}
use Rattle.exb_control_spec.proofs.Plans.Bools.{and_false}
use Rattle.exb_control_spec.specs.Runs.LaidTables.{has_port, by_extender}
use Rattle.exb_control_spec.proofs.Runs.Bools.{by_zero}
use Rattle.exb_control_spec.proofs.Runs.RowMessages.{front_each, back_each}
use Rattle.exb_control_spec.proofs.Runs.EqualTables.{port_at, same_tables, same_extender, runs_to, runs_from, executes_to}

-- rows have numbers that may be cleared
abbrev pub AreKnown : List GroupRow → Type 0
AreKnown rows = Each (λ r. is_ecid r.ecid ≡ true) rows

module _ (t : Shape) (n : ℕ) where
  abbrev pub clear_at : List GroupRow → Tables → Tables
  clear_at rows x = record x { pair = λ e q. x.pair e q && not (device q == n && is_named rows e) }

  clear_good : (e : ℕ) → is_ecid e ≡ true → clear_code e ≡ 0
  clear_good e known = ap (λ b. cond b 0 2) known

  clears_good : (rows : List GroupRow) → AreKnown rows → clears_code (numbers_of rows) ≡ 0
  unfolding clears_code
  clears_good [] known = refl
  clears_good (r ∷ rows) known = by_zero (clear_code r.ecid) (clears_code (numbers_of rows)) (clear_good r.ecid known.0) (clears_good rows known.1)

  unregister_good : (y : ExtenderTables) (rows : List GroupRow) → AreKnown rows → code_of y (unregister (numbers_of rows)) ≡ 0
  unfolding code_of clears_code
  unregister_good y [] known = refl
  unregister_good y (r ∷ []) known = clear_good r.ecid known.0
  unregister_good y (r ∷ s ∷ rows) known = clears_good (r ∷ s ∷ rows) known

  listed_named : (rows : List GroupRow) (e : ℕ) → is_listed (numbers_of rows) e ≡ is_named rows e
  listed_named rows e = list_any-map (λ x. x == e) (λ (r : GroupRow). r.ecid) rows

  abbrev clear_there : List GroupRow → ExtenderTables → ExtenderTables
  clear_there rows y = record y { pair = λ e k. y.pair e k && not (is_named rows e) }

  unregister_done : (y : ExtenderTables) (rows : List GroupRow) → done y (unregister (numbers_of rows)) ≡ clear_there rows y
  unfolding done
  unregister_done y [] = refl
  unregister_done y (r ∷ []) = same_extender _ _ refl (λ k. refl) (λ k. refl) (λ e k. ap (λ b. y.pair e k && not b) (sym (or_false (r.ecid == e))))
  unregister_done y (r ∷ s ∷ rows) = same_extender _ _ refl (λ k. refl) (λ k. refl) (λ e k. ap (λ b. y.pair e k && not b) (listed_named (r ∷ s ∷ rows) e))

  clear_executes : (x : Tables) (rows : List GroupRow) → AreKnown rows → executes_at n (unregister (numbers_of rows)) (by_extender t x) ≡ by_extender t (clear_at rows x)
  clear_executes x rows known =
      executes_to n (unregister (numbers_of rows)) (by_extender t x) (by_extender t (clear_at rows x)) (unregister_good (by_extender t x n) rows known) here other
    where
      pair_here : (m e k : ℕ) → m ≡ n → (b : Bool) → has_port t m k ≡ b →
          ((b && x.pair e (port_of m k)) && not (is_named rows e)) ≡ (b && (x.pair e (port_of m k) && not (device (port_of m k) == n && is_named rows e)))
      pair_here m e k same true h = let at = port_at t m k h in rw (eq-eqb (device (port_of m k)) n (at.home ∙ same)) refl
      pair_here m e k same false h = refl

      here : (m : ℕ) → m ≡ n → done (by_extender t x m) (unregister (numbers_of rows)) ≡ by_extender t (clear_at rows x) m
      here m same = unregister_done (by_extender t x m) rows ∙ same_extender _ _ refl (λ k. refl) (λ k. refl) (λ e k. pair_here m e k same (has_port t m k) refl)

      pair_other : (m e k : ℕ) → m ≢ n → (b : Bool) → has_port t m k ≡ b →
          (b && x.pair e (port_of m k)) ≡ (b && (x.pair e (port_of m k) && not (device (port_of m k) == n && is_named rows e)))
      pair_other m e k away true h =
          let at = port_at t m k h in
          rw (ne_eqb (device (port_of m k)) n (λ z. away (sym at.home ∙ z))) (sym (and_true (x.pair e (port_of m k))))
      pair_other m e k away false h = refl

      other : (m : ℕ) → m ≢ n → by_extender t x m ≡ by_extender t (clear_at rows x) m
      other m away = same_extender _ _ refl (λ k. refl) (λ k. refl) (λ e k. pair_other m e k away (has_port t m k) refl)

  joined : (x : Tables) (xs ys : List GroupRow) → clear_at ys (clear_at xs x) ≡ clear_at (xs ++ ys) x
  joined x xs ys = same_tables _ _ (λ q. refl) (λ q. refl) (λ e q.
      and_both (x.pair e q) (device q == n) (is_named xs e) (is_named ys e)
      ∙ ap (λ b. x.pair e q && not (device q == n && b)) (sym (list_any-append (λ row. row.ecid == e) xs ys)))
    where
      and_both : (a d b c : Bool) → ((a && not (d && b)) && not (d && c)) ≡ (a && not (d && (b || c)))
      and_both true true true c = refl
      and_both true true false c = refl
      and_both true false b c = refl
      and_both false d b c = refl

  clear_none : (x : Tables) → x ≡ clear_at [] x
  clear_none x = same_tables _ _ (λ q. refl) (λ q. refl) (λ e q. sym (ap (λ b. x.pair e q && not b) (and_false (device q == n)) ∙ and_true (x.pair e q)))

  run_pieces : (d : ℕ) (x : Tables) (rows : List GroupRow) → length rows ≤ d → AreKnown rows →
      RunsAt (by_extender t x) (map (λ piece. ask n (message Clear piece)) (pieces d rows)) (by_extender t (clear_at rows x))
  unfolding pieces
  run_pieces zero x [] few known = ap (by_extender t) (clear_none x)
  run_pieces zero x (r ∷ rows) few known = absurd (omega arith)
  run_pieces (suc d) x [] few known = ap (by_extender t) (clear_none x)
  run_pieces (suc d) x (r ∷ rows) few known =
      let front = take 64 (r ∷ rows) in
      let back = drop 64 (r ∷ rows) in
      let whole : front ++ back ≡ r ∷ rows = take-append-drop 64 (r ∷ rows) in
      let known' : AreKnown (front ++ back) = subst AreKnown (sym whole) known in
      let left : length back ≡ length (r ∷ rows) - 64 = length-drop 64 (r ∷ rows) in
      let known_front : AreKnown front = front_each (λ r. is_ecid r.ecid ≡ true) front back known' in (
        unregister_good (by_extender t x n) front known_front,
        runs_from _ (by_extender t (clear_at front x)) _ (map (λ piece. ask n (message Clear piece)) (pieces d back)) (clear_executes x front known_front)
            (runs_to _ (by_extender t (clear_at back (clear_at front x))) _ (map (λ piece. ask n (message Clear piece)) (pieces d back))
            (run_pieces d (clear_at front x) back (omega (arith, left, few)) (back_each (λ r. is_ecid r.ecid ≡ true) front back known'))
            (ap (by_extender t) (joined x front back ∙ ap (λ (l : List GroupRow). clear_at l x) whole))),
      )

  pub clear_runs : (x : Tables) (rows : List GroupRow) → AreKnown rows → RunsAt (by_extender t x) (asks_with Clear rows n) (by_extender t (clear_at rows x))
  unfolding in_messages
  clear_runs x rows known = run_pieces (length rows) x rows (omega arith) known

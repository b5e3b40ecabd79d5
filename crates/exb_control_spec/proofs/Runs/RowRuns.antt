-- Rows that are put, or cleared, at one extender after another.
use Rattle.std.proofs.Common.{◌≡◌, ◌≢◌, ◌⊎◌, ℕ, ◌+◌, ◌%◌, ◌==◌, ◌&&◌, ◌||◌, cond, Bool, true, not, List, [], ◌∷◌, refl, sym, ◌∙◌, ap, inl, inr, eq-eqb}
use Rattle.std.specs.List.{flat_map}
use Rattle.std.proofs.lemmas.Bool.{cases_eq, ne_eqb}
use Rattle.exb_model.specs.Tree.{Shape, IsTree, device, by_depth}
use Rattle.exb_model.specs.ExtenderForwarding.{Tables}
use Rattle.exb_model.proofs.TreeOrder.{in_order}
use Rattle.exb_csp.specs.declared.group_rows.GroupRow.{GroupRow}
use Rattle.exb_csp.specs.Execution.{in_rows, is_named}
use Rattle.exb_csp.proofs.ExecutionLaws.{or_false, and_true}
use Rattle.exb_csp.specs.AllTables.{port_of, RunsAt}
use Rattle.exb_control_spec.specs.declared.plan.row_action.RowAction.TheVariants.{Lay, Clear}
use Rattle.exb_model.specs.Lists.{is_listed}
use Rattle.exb_control_spec.specs.Plans.ChangeRequests.{asks_with}
use Rattle.exb_control_spec.specs.Runs.LaidTables.{by_extender}
use Rattle.exb_control_spec.proofs.Runs.EqualTables.{Like, port_at, like_tables, same_tables, runs_to, runs_each, changed}
use Rattle.exb_control_spec.proofs.Runs.RowMessages.{AllPut, AreApart, put_at, put_runs}
use Rattle.exb_control_spec.proofs.Runs.ClearMessages.{AreKnown, clear_at, clear_runs}
use Rattle.exb_control_spec.proofs.Runs.ExtenderOrder.{distinct_by_depth}

module _ (t : Shape) (valid : IsTree t) (rows : ℕ → List GroupRow) where
  -- ---- rows that are put
  puts : Bool → ℕ → ℕ → Bool
  puts b e q = b || in_rows (rows (device q)) e (q % 64 + 1)

  abbrev IsReadyAt : ℕ → Tables → Type 0
  IsReadyAt n x = AllPut t n x (rows n) × AreApart (rows n)

  put_changed : (n : ℕ) (x : Tables) → put_at t n (rows n) x ≡ changed t (λ n. asks_with Lay (rows n) n) puts (λ m. m == n) x
  unfolding puts
  put_changed n x = same_tables _ _ (λ q. refl) (λ q. refl) (λ e q. at e q (cases_eq (device q) n))
    where
      at : (e q : ℕ) → (device q ≡ n) ⊎ (device q ≢ n) →
          (x.pair e q || (device q == n && in_rows (rows n) e (q % 64 + 1))) ≡ cond (device q == n) (x.pair e q || in_rows (rows (device q)) e (q % 64 + 1)) (x.pair e q)
      at e q (inl same) = rw (eq-eqb (device q) n same, same) refl
      at e q (inr other) = rw (ne_eqb (device q) n other) (or_false (x.pair e q))

  stays_put : (n m : ℕ) (x : Tables) (xs : List GroupRow) → m ≢ n → AllPut t m x xs → AllPut t m (changed t (λ n. asks_with Lay (rows n) n) puts (λ k. k == n) x) xs
  stays_put n m x [] other can = tt
  stays_put n m x (r ∷ xs) other can = (
    record {
      known = can.0.known;
      placed = can.0.placed;
      alone = λ k h.
          let at = port_at t m k h in
          ap (λ b. cond b (puts (x.pair r.ecid (port_of m k)) r.ecid (port_of m k)) (x.pair r.ecid (port_of m k))) (ne_eqb (device (port_of m k)) n (λ z. other (sym at.home ∙ z)))
          ∙ can.0.alone k h;
    },
    stays_put n m x xs other can.1,
  )

  pub lay_runs : (x y : Tables) → ((n : ℕ) → is_listed (by_depth t) n ≡ true → AllPut t n x (rows n) × AreApart (rows n)) →
      Like t (record x { pair = λ e q. x.pair e q || in_rows (rows (device q)) e (q % 64 + 1) }) y →
      RunsAt (by_extender t x) (flat_map (λ n. asks_with Lay (rows n) n) (by_depth t)) (by_extender t y)
  unfolding puts
  lay_runs x y ready like =
      runs_to (by_extender t x) (by_extender t (changed t (λ n. asks_with Lay (rows n) n) puts (is_listed (by_depth t)) x)) (by_extender t y) (flat_map (λ n. asks_with Lay (rows n) n) (by_depth t))
      (runs_each t (λ n. asks_with Lay (rows n) n) puts IsReadyAt
      (λ n x r. runs_to (by_extender t x) (by_extender t (put_at t n (rows n) x)) _ (asks_with Lay (rows n) n) (put_runs t n x (rows n) r.0 r.1) (ap (by_extender t) (put_changed n x)))
      (λ n m x other r. (stays_put n m x (rows m) other r.0, r.1)) (by_depth t) x (distinct_by_depth t) ready)
      (like_tables t _ y (record {
        own = like.own;
        cascade = like.cascade;
        pair = λ e q deep known. ap (λ b. cond b (x.pair e q || in_rows (rows (device q)) e (q % 64 + 1)) (x.pair e q)) (in_order t q valid deep known) ∙ like.pair e q deep known;
      }))

  -- ---- numbers that are cleared
  clears : Bool → ℕ → ℕ → Bool
  clears b e q = b && not (is_named (rows (device q)) e)

  clear_changed : (n : ℕ) (x : Tables) → clear_at t n (rows n) x ≡ changed t (λ n. asks_with Clear (rows n) n) clears (λ m. m == n) x
  unfolding clears
  clear_changed n x = same_tables _ _ (λ q. refl) (λ q. refl) (λ e q. at e q (cases_eq (device q) n))
    where
      at : (e q : ℕ) → (device q ≡ n) ⊎ (device q ≢ n) →
          (x.pair e q && not (device q == n && is_named (rows n) e)) ≡ cond (device q == n) (x.pair e q && not (is_named (rows (device q)) e)) (x.pair e q)
      at e q (inl same) = rw (eq-eqb (device q) n same, same) refl
      at e q (inr other) = rw (ne_eqb (device q) n other) (and_true (x.pair e q))

  pub unlay_runs : (x y : Tables) → ((n : ℕ) → AreKnown (rows n)) →
      Like t (record x { pair = λ e q. x.pair e q && not (is_named (rows (device q)) e) }) y →
      RunsAt (by_extender t x) (flat_map (λ n. asks_with Clear (rows n) n) (by_depth t)) (by_extender t y)
  unfolding clears
  unlay_runs x y known like =
      runs_to (by_extender t x) (by_extender t (changed t (λ n. asks_with Clear (rows n) n) clears (is_listed (by_depth t)) x)) (by_extender t y) (flat_map (λ n. asks_with Clear (rows n) n) (by_depth t))
      (runs_each t (λ n. asks_with Clear (rows n) n) clears (λ n x. Unit {0})
      (λ n x r. runs_to (by_extender t x) (by_extender t (clear_at t n (rows n) x)) _ (asks_with Clear (rows n) n) (clear_runs t n x (rows n) (known n)) (ap (by_extender t) (clear_changed n x)))
      (λ n m x other r. tt) (by_depth t) x (distinct_by_depth t) (λ n there. tt))
      (like_tables t _ y (record {
        own = like.own;
        cascade = like.cascade;
        pair = λ e q deep known. ap (λ b. cond b (x.pair e q && not (is_named (rows (device q)) e)) (x.pair e q)) (in_order t q valid deep known) ∙ like.pair e q deep known;
      }))

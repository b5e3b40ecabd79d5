-- A port that is created, or deleted.
use Rattle.std.proofs.Common.{◌≡◌, ◌≢◌, ℕ, ◌<◌, ◌≤◌, ◌==◌, ◌&&◌, ◌||◌, cond, Bool, true, false, not, [], ◌∷◌, nat_lt, nat_le, slice_index, refl, sym, ◌∙◌, ap, arith, eq-eqb}
use Rattle.std.proofs.lemmas.Bool.{eqb-true, ne_eqb, and_from, and_right, lt-ltb, le-leb, false≢true}
use Rattle.exb_model.specs.Tree.{Shape, device, is_port, port_number}
use Rattle.exb_model.specs.ExtenderForwarding.{Tables}
use Rattle.exb_csp.specs.declared.message.Request.TheVariants.{PortCreate, PortDelete}
use Rattle.exb_csp.specs.Execution.{is_channel, code_of, done}
use Rattle.exb_csp.proofs.ExecutionLaws.{or_false, and_true}
use Rattle.exb_csp.specs.AllTables.{port_of, RunsAt}
use Rattle.exb_control_spec.specs.Plans.ChangeRequests.{ask}
use Rattle.exb_control_spec.proofs.Plans.Bools.{same_tests}
use Rattle.exb_control_spec.specs.Runs.LaidTables.{has_port, by_extender}
use Rattle.exb_control_spec.proofs.Runs.EqualTables.{Like, PortAt, port_at, port_there, port_back, like_tables, same_extender, runs_to, runs_one}
use Rattle.exb_control_spec.proofs.Runs.RowMessages.{no_pair}

module _ (t : Shape) (p : ℕ) (deep : 64 ≤ p) (known : is_port t p ≡ true) where
  here_at : PortAt t (device p) (port_number p)
  here_at = port_at t (device p) (port_number p) (port_there t p deep known)

  -- at its extender the port is known by its number
  port_here : (m k : ℕ) → m ≡ device p → has_port t m k ≡ true → (k == port_number p) ≡ (port_of m k == p)
  port_here m k same h =
      let at = port_at t m k h in
      let low : 0 < k = at.low in
      let high : k ≤ 64 = at.high in
      same_tests (k == port_number p) (port_of m k == p)
      (λ e. eq-eqb (port_of m k) p (let f : k ≡ port_number p = eqb-true k (port_number p) e in omega arith))
      (λ e. eq-eqb k (port_number p) (let f : port_of m k ≡ p = eqb-true (port_of m k) p e in omega arith))

  -- and nothing else has that number
  no_port_here : (m k : ℕ) → m ≡ device p → has_port t m k ≡ false → (k == port_number p) ≡ false
  no_port_here m k same h =
      ne_eqb k (port_number p) (λ e. false≢true (sym h ∙ (ap (λ (j : ℕ). has_port t j k) same ∙ (ap (has_port t (device p)) e ∙ port_there t p deep known))))

  port_away : (m k : ℕ) → m ≢ device p → has_port t m k ≡ true → (port_of m k == p) ≡ false
  port_away m k away h = let at = port_at t m k h in ne_eqb (port_of m k) p (λ e. away (sym at.home ∙ ap device e))

  abbrev pub create_at : Bool → ℕ → Tables → Tables
  create_at kind c x =
      record {
        own = λ q. cond (q == p) c (x.own q);
        cascade = λ q. cond (q == p) kind (x.cascade q);
        pair = λ e q. x.pair e q || ((e == c) && (q == p));
      }

  abbrev pub delete_at : Tables → Tables
  delete_at x =
      record x {
        own = λ q. cond (q == p) 0 (x.own q);
        pair = λ e q. x.pair e q && not (nat_lt 0 (x.own p) && ((e == x.own p) && (q == p)));
      }

  own_is : (x : Tables) → (by_extender t x (device p)).own (port_number p) ≡ x.own p
  own_is x = ap (λ b. cond b (x.own (port_of (device p) (port_number p))) 0) (port_there t p deep known) ∙ ap x.own (port_back p)

  is_one : (nat_lt 0 (port_number p) && nat_le (port_number p) (slice_index t.ports (device p))) ≡ true
  is_one = let at = here_at in and_from _ _ (lt-ltb 0 (port_number p) at.low) (le-leb (port_number p) (slice_index t.ports (device p)) at.count)

  module _ (kind : Bool) (c : ℕ) (channel : is_channel c ≡ true) where
    create_good : (x : Tables) → x.own p ≡ 0 → ((k : ℕ) → has_port t (device p) k ≡ true → x.pair c (port_of (device p) k) ≡ false) →
        code_of (by_extender t x (device p)) (PortCreate (port_number p) kind c) ≡ 0
    unfolding code_of
    create_good x none alone = coded _ _ _ _ is_one channel (ap (nat_lt 0) (own_is x ∙ none)) (no_pair t (device p) x c alone)
      where
        coded : (one known own pair : Bool) → one ≡ true → known ≡ true → own ≡ false → pair ≡ false → ◌≡◌ {A = ℕ} (cond (not one) 1 (cond (not known) 2 (cond (own || pair) 3 0))) 0
        coded one known own pair a b d e = rw (a, b, d, e) refl

    pub create_runs : (x y : Tables) → x.own p ≡ 0 → ((k : ℕ) → has_port t (device p) k ≡ true → x.pair c (port_of (device p) k) ≡ false) → Like t (create_at kind c x) y →
        RunsAt (by_extender t x) (ask (device p) (PortCreate (port_number p) kind c) ∷ []) (by_extender t y)
    unfolding done
    create_runs x y none alone like =
        runs_to (by_extender t x) (by_extender t (create_at kind c x)) (by_extender t y) (ask (device p) (PortCreate (port_number p) kind c) ∷ [])
        (runs_one (device p) (PortCreate (port_number p) kind c) (by_extender t x) (by_extender t (create_at kind c x)) (create_good x none alone) here other) (like_tables t (create_at kind c x) y like)
      where
        number_here : (m k : ℕ) → m ≡ device p → (b : Bool) → has_port t m k ≡ b → cond (k == port_number p) c (cond b (x.own (port_of m k)) 0) ≡ cond b (cond (port_of m k == p) c (x.own (port_of m k))) 0
        number_here m k same true h = ap (λ b. cond b c (x.own (port_of m k))) (port_here m k same h)
        number_here m k same false h = ap (λ b. cond b c 0) (no_port_here m k same h)

        kind_here : (m k : ℕ) → m ≡ device p → (b : Bool) → has_port t m k ≡ b → cond (k == port_number p) kind (b && x.cascade (port_of m k)) ≡ (b && cond (port_of m k == p) kind (x.cascade (port_of m k)))
        kind_here m k same true h = ap (λ b. cond b kind (x.cascade (port_of m k))) (port_here m k same h)
        kind_here m k same false h = ap (λ b. cond b kind false) (no_port_here m k same h)

        pair_here : (m e k : ℕ) → m ≡ device p → (b : Bool) → has_port t m k ≡ b →
            ((b && x.pair e (port_of m k)) || ((e == c) && (k == port_number p))) ≡ (b && (x.pair e (port_of m k) || ((e == c) && (port_of m k == p))))
        pair_here m e k same true h = ap (λ b. x.pair e (port_of m k) || ((e == c) && b)) (port_here m k same h)
        pair_here m e k same false h = and_right (e == c) _ (no_port_here m k same h)

        here : (m : ℕ) → m ≡ device p → done (by_extender t x m) (PortCreate (port_number p) kind c) ≡ by_extender t (create_at kind c x) m
        here m same =
            same_extender _ _ refl (λ k. number_here m k same (has_port t m k) refl) (λ k. kind_here m k same (has_port t m k) refl) (λ e k. pair_here m e k same (has_port t m k) refl)

        number_other : (m k : ℕ) → m ≢ device p → (b : Bool) → has_port t m k ≡ b → cond b (x.own (port_of m k)) 0 ≡ cond b (cond (port_of m k == p) c (x.own (port_of m k))) 0
        number_other m k away true h = sym (ap (λ b. cond b c (x.own (port_of m k))) (port_away m k away h))
        number_other m k away false h = refl

        kind_other : (m k : ℕ) → m ≢ device p → (b : Bool) → has_port t m k ≡ b → (b && x.cascade (port_of m k)) ≡ (b && cond (port_of m k == p) kind (x.cascade (port_of m k)))
        kind_other m k away true h = sym (ap (λ b. cond b kind (x.cascade (port_of m k))) (port_away m k away h))
        kind_other m k away false h = refl

        pair_other : (m e k : ℕ) → m ≢ device p → (b : Bool) → has_port t m k ≡ b → (b && x.pair e (port_of m k)) ≡ (b && (x.pair e (port_of m k) || ((e == c) && (port_of m k == p))))
        pair_other m e k away true h = sym (ap (λ b. x.pair e (port_of m k) || b) (and_right (e == c) _ (port_away m k away h)) ∙ or_false (x.pair e (port_of m k)))
        pair_other m e k away false h = refl

        other : (m : ℕ) → m ≢ device p → by_extender t x m ≡ by_extender t (create_at kind c x) m
        other m away =
            same_extender _ _ refl (λ k. number_other m k away (has_port t m k) refl) (λ k. kind_other m k away (has_port t m k) refl) (λ e k. pair_other m e k away (has_port t m k) refl)

  delete_good : (x : Tables) → code_of (by_extender t x (device p)) (PortDelete (port_number p)) ≡ 0
  unfolding code_of
  delete_good x = ap (λ b. cond b 0 1) is_one

  pub delete_runs : (x y : Tables) → Like t (delete_at x) y → RunsAt (by_extender t x) (ask (device p) (PortDelete (port_number p)) ∷ []) (by_extender t y)
  unfolding done
  delete_runs x y like =
      runs_to (by_extender t x) (by_extender t (delete_at x)) (by_extender t y) (ask (device p) (PortDelete (port_number p)) ∷ [])
      (runs_one (device p) (PortDelete (port_number p)) (by_extender t x) (by_extender t (delete_at x)) (delete_good x) here other) (like_tables t (delete_at x) y like)
    where
      own_here : (m : ℕ) → m ≡ device p → (by_extender t x m).own (port_number p) ≡ x.own p
      own_here m same = ap (λ (j : ℕ). (by_extender t x j).own (port_number p)) same ∙ own_is x

      number_here : (m k : ℕ) → m ≡ device p → (b : Bool) → has_port t m k ≡ b → cond (k == port_number p) 0 (cond b (x.own (port_of m k)) 0) ≡ cond b (cond (port_of m k == p) 0 (x.own (port_of m k))) 0
      number_here m k same true h = ap (λ b. cond b 0 (x.own (port_of m k))) (port_here m k same h)
      number_here m k same false h = ap (λ b. cond b 0 0) (no_port_here m k same h)

      pair_here : (m e k own : ℕ) → m ≡ device p → own ≡ x.own p → (b : Bool) → has_port t m k ≡ b →
          ((b && x.pair e (port_of m k)) && not (nat_lt 0 own && ((e == own) && (k == port_number p))))
          ≡ (b && (x.pair e (port_of m k) && not (nat_lt 0 (x.own p) && ((e == x.own p) && (port_of m k == p)))))
      pair_here m e k own same is true h =
          ap (λ (c : ℕ). x.pair e (port_of m k) && not (nat_lt 0 c && ((e == c) && (k == port_number p)))) is
          ∙ ap (λ b. x.pair e (port_of m k) && not (nat_lt 0 (x.own p) && ((e == x.own p) && b))) (port_here m k same h)
      pair_here m e k own same is false h = refl

      here : (m : ℕ) → m ≡ device p → done (by_extender t x m) (PortDelete (port_number p)) ≡ by_extender t (delete_at x) m
      here m same =
          same_extender _ _ refl (λ k. number_here m k same (has_port t m k) refl) (λ k. refl)
          (λ e k. pair_here m e k ((by_extender t x m).own (port_number p)) same (own_here m same) (has_port t m k) refl)

      number_other : (m k : ℕ) → m ≢ device p → (b : Bool) → has_port t m k ≡ b → cond b (x.own (port_of m k)) 0 ≡ cond b (cond (port_of m k == p) 0 (x.own (port_of m k))) 0
      number_other m k away true h = sym (ap (λ b. cond b 0 (x.own (port_of m k))) (port_away m k away h))
      number_other m k away false h = refl

      pair_other : (m e k : ℕ) → m ≢ device p → (b : Bool) → has_port t m k ≡ b →
          (b && x.pair e (port_of m k)) ≡ (b && (x.pair e (port_of m k) && not (nat_lt 0 (x.own p) && ((e == x.own p) && (port_of m k == p)))))
      pair_other m e k away true h =
          sym (ap (λ b. x.pair e (port_of m k) && not b) (and_right (nat_lt 0 (x.own p)) _ (and_right (e == x.own p) _ (port_away m k away h))) ∙ and_true (x.pair e (port_of m k)))
      pair_other m e k away false h = refl

      other : (m : ℕ) → m ≢ device p → by_extender t x m ≡ by_extender t (delete_at x) m
      other m away = same_extender _ _ refl (λ k. number_other m k away (has_port t m k) refl) (λ k. refl) (λ e k. pair_other m e k away (has_port t m k) refl)

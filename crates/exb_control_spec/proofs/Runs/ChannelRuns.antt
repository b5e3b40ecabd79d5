-- A channel that is laid, or taken back.
use Rattle.std.proofs.Common.{◌≡◌, ◌≢◌, ◌⊎◌, ℕ, ◌+◌, ◌%◌, ◌<◌, ◌≤◌, ◌==◌, ◌&&◌, ◌||◌, ◌++◌, cond, Bool, true, false, not, List, [], ◌∷◌, Option, Some, None, map, filter, nat_lt, refl, sym, ◌∙◌, ap, subst, arith, inl, inr, eq-eqb}
use Rattle.std.specs.List.{flat_map, filter_map, cons_option}
use Rattle.std.proofs.lemmas.Bool.{cases_eq, eqb-true, ne_eqb, and_parts, and_left, and_right, or_left, or_right, or_from, false≢true, false_from_ne_true}
use Rattle.exb_model.specs.Tree.{Shape, IsTree, device, trunk, is_port, is_cascade, by_depth}
use Rattle.exb_model.specs.TreeSets.{covers, mask_of}
use Rattle.exb_model.specs.ExtenderForwarding.{Tables}
use Rattle.exb_model.proofs.TreeWays.{covers-true}
use Rattle.exb_csp.specs.declared.group_rows.GroupRow.{GroupRow}
use Rattle.exb_csp.specs.Execution.{is_channel, is_ecid, in_mask, in_rows, is_named}
use Rattle.exb_csp.proofs.ExecutionLaws.{or_false, and_true, mask_empty}
use Rattle.exb_control_spec.specs.declared.plan.row.Row.{Row}
use Rattle.exb_control_spec.specs.Plans.Rows.{row_of, rows_of}
use Rattle.exb_csp.specs.AllTables.{port_of, RunsAt}
use Rattle.exb_csp.specs.declared.ask_at.AskAt.{AskAt}
use Rattle.exb_control_spec.specs.declared.plan.row_action.RowAction.{RowAction}
use Rattle.exb_control_spec.specs.declared.plan.row_action.RowAction.TheVariants.{Lay, Clear}
use Rattle.exb_control_spec.specs.Plans.HeldNumbers.{Held}
use Rattle.exb_model.specs.Lists.{is_listed}
use Rattle.exb_control_spec.specs.Plans.ChangeRequests.{message, in_messages, pieces, asks_with, ask, channel_rows, channel_ask, channel_asks, create_asks, delete_asks}
use Rattle.exb_control_spec.specs.Decisions.{channel_of}
use Rattle.exb_control_spec.proofs.Plans.Bools.{and_false}
use Rattle.exb_control_spec.specs.Runs.LaidTables.{has_port, by_extender, channel_pair, group_pair, laid_by}
use Rattle.exb_control_spec.proofs.Runs.EqualTables.{port_at, port_from, port_back, runs_append}
use Rattle.exb_control_spec.proofs.Runs.ExtenderOrder.{listed_hangs}
use Rattle.exb_control_spec.proofs.Runs.RowMessages.{CanPut, AllPut, AreApart}
use Rattle.exb_control_spec.proofs.Runs.ClearMessages.{AreKnown}
use Rattle.exb_control_spec.proofs.Runs.RowRuns.{lay_runs, unlay_runs}
use Rattle.exb_control_spec.proofs.Runs.PortRuns.{create_runs, delete_runs}
use Rattle.exb_control_spec.proofs.Runs.PortsAbove.{mask_bit, InMask, bit_covered, mask_some, some_mask, only_itself, covers_itself, covered_trunk}

-- ---- the rows of a channel, extender after extender
module _ (t : Shape) (p c : ℕ) where
  abbrev own_mask : ℕ → ℕ
  own_mask n = mask_of t (λ q. q == p) n

  abbrev row_unless : Bool → ℕ → List GroupRow
  row_unless true mask = []
  row_unless false mask = record { ecid = c; mask = mask } ∷ []

  abbrev pub channel_row : ℕ → List GroupRow
  channel_row n = row_unless (own_mask n == 0 || n == device p) (own_mask n)

  one_message : (r : GroupRow) → in_messages (r ∷ []) ≡ (r ∷ []) ∷ []
  unfolding in_messages pieces
  one_message r = refl

  no_message : in_messages {X = GroupRow} [] ≡ []
  unfolding in_messages pieces
  no_message = refl

  asks_one : (step : RowAction) (r : GroupRow) (n : ℕ) → asks_with step (r ∷ []) n ≡ channel_ask step r.ecid (record { extender = n; mask = r.mask }) ∷ []
  asks_one step r n = ap (map (λ piece. ask n (message step piece))) (one_message r)

  asks_none : (step : RowAction) (n : ℕ) → asks_with step [] n ≡ []
  asks_none step n = ap (map (λ piece. ask n (message step piece))) no_message

  asks_each : (step : RowAction) (ns : List ℕ) →
      map (channel_ask step c) (filter (λ row. not (row.extender == device p)) (filter_map (row_of t (λ q. q == p)) ns)) ≡ flat_map (λ n. asks_with step (channel_row n) n) ns
  asks_each step [] = refl
  asks_each step (n ∷ ns) = by_tests (own_mask n == 0) (n == device p) refl (asks_each step ns)
    where
      rest : List Row
      rest = filter_map (row_of t (λ q. q == p)) ns

      there : Row → Bool
      there row = not (row.extender == device p)

      mine : Row
      mine = record { extender = n; mask = own_mask n }

      more : List AskAt
      more = flat_map (λ n. asks_with step (channel_row n) n) ns

      by_tests : (none own : Bool) → (n == device p) ≡ own → map (channel_ask step c) (filter there rest) ≡ more →
          map (channel_ask step c) (filter there (cons_option (cond none None (Some mine)) rest)) ≡ asks_with step (row_unless (none || own) (own_mask n)) n ++ more
      by_tests true own o e = e ∙ sym (ap (λ l. l ++ more) (asks_none step n))
      by_tests false true o e =
          ap (λ b. map (channel_ask step c) (cond (not b) (mine ∷ filter there rest) (filter there rest))) o
          ∙ (e ∙ sym (ap (λ l. l ++ more) (asks_none step n)))
      by_tests false false o e =
          ap (λ b. map (channel_ask step c) (cond (not b) (mine ∷ filter there rest) (filter there rest))) o
          ∙ (ap (λ l. channel_ask step c mine ∷ l) e ∙ sym (ap (λ l. l ++ more) (asks_one step (record { ecid = c; mask = own_mask n }) n)))

  pub asks_are : (step : RowAction) → channel_asks step t p c ≡ flat_map (λ n. asks_with step (channel_row n) n) (by_depth t)
  unfolding channel_rows rows_of
  asks_are step = asks_each step (by_depth t)

  -- ---- what they have
  has_bits : (n k e : ℕ) → 0 < k → k ≤ 64 → (b : Bool) → (own_mask n == 0) ≡ b → in_rows (row_unless (b || n == device p) (own_mask n)) e k ≡ ((c == e) && (not (n == device p) && covers t (λ q. q == p) (port_of n k)))
  has_bits n k e low high true none =
      let off : covers t (λ q. q == p) (port_of n k) ≡ false =
      sym (mask_bit t (λ q. q == p) n k low high) ∙ (ap (λ (m : ℕ). in_mask m k) (eqb-true (own_mask n) 0 none) ∙ mask_empty k) in
      sym (ap (λ b. (c == e) && (not (n == device p) && b)) off ∙ (ap (λ b. (c == e) && b) (and_false (not (n == device p))) ∙ and_false (c == e)))
  has_bits n k e low high false some = by_own (n == device p)
    where
      by_own : (own : Bool) → in_rows (row_unless own (own_mask n)) e k ≡ ((c == e) && (not own && covers t (λ q. q == p) (port_of n k)))
      by_own true = sym (and_false (c == e))
      by_own false = or_false ((c == e) && in_mask (own_mask n) k) ∙ ap (λ b. (c == e) && b) (mask_bit t (λ q. q == p) n k low high)

  pub row_has : (n k e : ℕ) → 0 < k → k ≤ 64 → in_rows (channel_row n) e k ≡ ((c == e) && (not (n == device p) && covers t (λ q. q == p) (port_of n k)))
  row_has n k e low high = has_bits n k e low high (own_mask n == 0) refl

  pub row_names : (n e : ℕ) → is_named (channel_row n) e ≡ (not (own_mask n == 0 || n == device p) && (c == e))
  row_names n e = by_test (own_mask n == 0 || n == device p)
    where
      by_test : (b : Bool) → is_named (row_unless b (own_mask n)) e ≡ (not b && (c == e))
      by_test true = refl
      by_test false = or_false (c == e)

-- A port with a channel that is held, before and after it is laid. Of the ports above it each has a channel that is laid.
pub record IsHeld (t : Shape) (before after : ℕ → Bool) (h : Held) (p c : ℕ) : Type 0 where
  pub deep : 64 ≤ p
  pub known : is_port t p ≡ true
  pub channel : is_channel c ≡ true
  pub own : channel_of t h p ≡ c
  pub port : h.port (trunk t (device p)) c ≡ Some p
  pub only : (e : ℕ) → h.port (trunk t (device p)) e ≡ Some p → e ≡ c
  pub no_group : h.set (trunk t (device p)) c ≡ []
  pub above : (q : ℕ) → 64 ≤ q → q ≢ p → covers t (λ x. x == p) q ≡ true → (is_port t q ≡ true) × (before q ≡ true) × (channel_of t h q ≢ 0)
  pub hidden : before p ≡ false
  pub shown : after p ≡ true
  pub same : (q : ℕ) → q ≢ p → before q ≡ after q

pub covers_none : (t : Shape) (q : ℕ) → covers t (is_listed []) q ≡ false
covers_none t q = false_from_ne_true _ (λ e. let c = covers-true t (is_listed []) q e in false≢true c.chosen)

module _ (t : Shape) (valid : IsTree t) (before after : ℕ → Bool) (h : Held) (p c : ℕ) (i : IsHeld t before after h p c) where
  old : Tables
  old = laid_by t before h

  new : Tables
  new = laid_by t after h

  -- the pairs of the channel at the trunk
  mine_before : (e q : ℕ) → e ≡ c → trunk t (device q) ≡ trunk t (device p) → old.pair e q ≡ false
  unfolding old
  mine_before e q same at =
      rw (same, at, i.port, i.no_group, i.hidden) (covers_none t q)

  mine_after : (e q : ℕ) → e ≡ c → trunk t (device q) ≡ trunk t (device p) → new.pair e q ≡ covers t (λ x. x == p) q
  unfolding new
  mine_after e q same at =
      rw (same, at, i.port, i.no_group, i.shown, covers_none t q) (or_false (covers t (λ x. x == p) q))

  -- and all others
  others : (e q : ℕ) → 64 ≤ q → (e ≡ c → trunk t (device q) ≡ trunk t (device p) → ⊥) → old.pair e q ≡ new.pair e q
  unfolding old new
  others e q high other = ap (λ b. b || group_pair t q (h.set (trunk t (device q)) e)) (by_port (h.port (trunk t (device q)) e) refl)
    where
      by_port : (o : Option ℕ) → h.port (trunk t (device q)) e ≡ o → channel_pair t before q o ≡ channel_pair t after q o
      by_port None o = refl
      by_port (Some x) o = by_same (cases_eq x p)
        where
          by_same : (x ≡ p) ⊎ (x ≢ p) → (before x && covers t (λ y. y == x) q) ≡ (after x && covers t (λ y. y == x) q)
          by_same (inr d) = ap (λ b. b && covers t (λ y. y == x) q) (i.same x d)
          by_same (inl s) =
              let none : covers t (λ y. y == x) q ≡ false = false_from_ne_true _ (λ e'.
              let covered : covers t (λ y. y == p) q ≡ true = subst (λ (z : ℕ). covers t (λ y. y == z) q ≡ true) s e' in
              let at = covered_trunk t valid p i.deep i.known q covered high in
              other (i.only e (ap (λ (k : ℕ). h.port k e) (sym at) ∙ (o ∙ ap (λ (z : ℕ). Some z) s))) at) in
              and_right (before x) _ none ∙ sym (and_right (after x) _ none)

  number : is_ecid c ≡ true
  number = or_left (is_channel c) _ i.channel

  -- a row stands at an extender of the trunk
  row_trunk : (n : ℕ) → 0 < n → own_mask t p c n ≢ 0 → trunk t n ≡ trunk t (device p)
  row_trunk n deep some =
      let f : (k : ℕ) × InMask t (λ q. q == p) n k = mask_some t (λ q. q == p) n some in
      let low : 0 < f.0 = f.1.low in
      let high : f.0 ≤ 64 = f.1.high in
      let home : device (port_of n f.0) ≡ n = omega arith in
      ap (trunk t) (sym home) ∙ covered_trunk t valid p i.deep i.known (port_of n f.0) f.1.covered (omega arith)

  -- ---- it is laid
  can_at : (n : ℕ) → 0 < n → own_mask t p c n ≢ 0 → n ≢ device p → CanPut t old n (record { ecid = c; mask = own_mask t p c n })
  unfolding old
  can_at n deep some other = record { known = number; placed = placed; alone = alone }
    where
      placed : (k : ℕ) → in_mask (own_mask t p c n) k ≡ true → (has_port t n k ≡ true) × (old.own (port_of n k) ≢ 0)
      placed k bit =
          let m : InMask t (λ q. q == p) n k = bit_covered t (λ q. q == p) n k bit in
          let low : 0 < k = m.low in
          let high : k ≤ 64 = m.high in
          let home : device (port_of n k) ≡ n = omega arith in
          let a = i.above (port_of n k) (omega arith) (λ e. other (sym home ∙ ap device e)) m.covered in
          (port_from t n k deep low high a.0, λ z. a.2 (sym (ap (λ b. cond b (channel_of t h (port_of n k)) 0) a.1) ∙ z))

      alone : (k : ℕ) → has_port t n k ≡ true → old.pair c (port_of n k) ≡ false
      alone k e = (let at = port_at t n k e in mine_before c (port_of n k) refl (ap (trunk t) at.home ∙ row_trunk n deep some))

  row_can : (n : ℕ) → is_listed (by_depth t) n ≡ true → AllPut t n old (channel_row t p c n) × AreApart (channel_row t p c n)
  row_can n there = by_test (own_mask t p c n == 0) (n == device p) refl refl
    where
      by_test : (none own : Bool) → (own_mask t p c n == 0) ≡ none → (n == device p) ≡ own →
          AllPut t n old (row_unless t p c (none || own) (own_mask t p c n)) × AreApart (row_unless t p c (none || own) (own_mask t p c n))
      by_test true own a b = (tt, tt)
      by_test false true a b = (tt, tt)
      by_test false false a b =
          let hangs = listed_hangs t n there in
          ((can_at n hangs.extender (λ e. false≢true (sym a ∙ eq-eqb (own_mask t p c n) 0 e)) (λ e. false≢true (sym b ∙ eq-eqb n (device p) e)), tt), (refl, tt))

  registered : Tables
  registered = record old { pair = λ e q. old.pair e q || in_rows (channel_row t p c (device q)) e (q % 64 + 1) }

  row_at : (e q : ℕ) → in_rows (channel_row t p c (device q)) e (q % 64 + 1) ≡ ((c == e) && (not (device q == device p) && covers t (λ x. x == p) q))
  row_at e q =
      row_has t p c (device q) (q % 64 + 1) e (omega arith) (omega arith)
      ∙ ap (λ (x : ℕ). (c == e) && (not (device q == device p) && covers t (λ x. x == p) x)) (port_back q)

  -- the number with which a port begins
  none_yet : (k : ℕ) → has_port t (device p) k ≡ true → registered.pair c (port_of (device p) k) ≡ false
  unfolding registered
  none_yet k e =
      let at = port_at t (device p) k e in
      or_from _ _ (mine_before c (port_of (device p) k) refl (ap (trunk t) at.home))
      (row_at c (port_of (device p) k) ∙ (rw (eq-eqb (device (port_of (device p) k)) (device p) at.home) (and_false (c == c))))

  own_after : (q : ℕ) → cond (q == p) c (old.own q) ≡ new.own q
  unfolding old new
  own_after q = elim (cases_eq q p) [
    | inl e ↦ rw (e, eq-eqb p p refl, i.shown) (sym i.own)
    | inr d ↦ rw (ne_eqb q p d) (ap (λ b. cond b (channel_of t h q) 0) (i.same q d))
  ]

  kind_after : (q : ℕ) → cond (q == p) (is_cascade t p) (old.cascade q) ≡ new.cascade q
  unfolding old new
  kind_after q = elim (cases_eq q p) [
    | inl e ↦ rw (e, eq-eqb p p refl, i.shown) (sym (and_true (is_cascade t p)))
    | inr d ↦ rw (ne_eqb q p d) (ap (λ b. is_cascade t q && b) (i.same q d))
  ]

  pair_after : (e q : ℕ) → 64 ≤ q → ((old.pair e q || in_rows (channel_row t p c (device q)) e (q % 64 + 1)) || ((e == c) && (q == p))) ≡ new.pair e q
  pair_after e q high = ap (λ b. (old.pair e q || b) || ((e == c) && (q == p))) (row_at e q) ∙ by_number (cases_eq e c) (cases_eq (trunk t (device q)) (trunk t (device p)))
    where
      -- no row, and not the port's own
      kept : (a b d f : Bool) → (b && f) ≡ false → (a && d) ≡ false → ((old.pair e q || (b && f)) || (a && d)) ≡ old.pair e q
      kept a b d f x y = rw (x, y) (or_false (old.pair e q || false) ∙ or_false (old.pair e q))

      by_number : (e ≡ c) ⊎ (e ≢ c) → (trunk t (device q) ≡ trunk t (device p)) ⊎ (trunk t (device q) ≢ trunk t (device p)) →
          ((old.pair e q || ((c == e) && (not (device q == device p) && covers t (λ x. x == p) q))) || ((e == c) && (q == p))) ≡ new.pair e q
      by_number (inr d) at =
          kept (e == c) (c == e) (q == p) (not (device q == device p) && covers t (λ x. x == p) q) (and_left (c == e) _ (ne_eqb c e (λ f. d (sym f)))) (and_left (e == c) _ (ne_eqb e c d))
          ∙ others e q high (λ f g. d f)
      by_number (inl same) (inr d) =
          let none : covers t (λ x. x == p) q ≡ false = false_from_ne_true _ (λ f. d (covered_trunk t valid p i.deep i.known q f high)) in
          kept (e == c) (c == e) (q == p) (not (device q == device p) && covers t (λ x. x == p) q) (and_right (c == e) _ (and_right (not (device q == device p)) _ none))
          (and_right (e == c) _ (ne_eqb q p (λ f. d (ap (λ (x : ℕ). trunk t (device x)) f))))
          ∙ others e q high (λ f g. d g)
      by_number (inl same) (inl at) =
          rw (mine_before e q same at, eq-eqb e c same, eq-eqb c e (sym same)) (by_place (cases_eq q p) (cases_eq (device q) (device p)) ∙ sym (mine_after e q same at))
        where
          by_place : (q ≡ p) ⊎ (q ≢ p) → (device q ≡ device p) ⊎ (device q ≢ device p) → ((not (device q == device p) && covers t (λ x. x == p) q) || (q == p)) ≡ covers t (λ x. x == p) q
          by_place (inl f) away =
              let itself : covers t (λ x. x == p) q ≡ true = ap (covers t (λ x. x == p)) f ∙ covers_itself t valid p i.deep i.known in
              or_right _ (q == p) (eq-eqb q p f) ∙ sym itself
          by_place (inr f) (inl g) =
              let none : covers t (λ x. x == p) q ≡ false = false_from_ne_true _ (λ x. f (only_itself t valid p i.deep i.known q x high g)) in
              or_from _ _ (and_right (not (device q == device p)) _ none) (ne_eqb q p f) ∙ sym none
          by_place (inr f) (inr g) = rw (ne_eqb q p f, ne_eqb (device q) (device p) g) (or_false (covers t (λ x. x == p) q))

  pub channel_laid : RunsAt (by_extender t (laid_by t before h)) (create_asks t p (is_cascade t p) c) (by_extender t (laid_by t after h))
  unfolding create_asks old new registered
  channel_laid =
      runs_append (by_extender t old) (by_extender t registered) (by_extender t new) (channel_asks Lay t p c) _
      (subst (λ (asks : List AskAt). RunsAt (by_extender t old) asks (by_extender t registered)) (sym (asks_are t p c Lay))
      (lay_runs t valid (channel_row t p c) old registered row_can (record { own = λ q deep known. refl; cascade = λ q deep known. refl; pair = λ e q deep known. refl })))
      (create_runs t p i.deep i.known (is_cascade t p) c i.channel registered new (ap (λ b. cond b (channel_of t h p) 0) i.hidden) none_yet
      (record { own = λ q deep known. own_after q; cascade = λ q deep known. kind_after q; pair = λ e q deep known. pair_after e q deep }))

  -- ---- it is taken back
  unregistered : Tables
  unregistered = record new { pair = λ e q. new.pair e q && not (is_named (channel_row t p c (device q)) e) }

  row_known : (n : ℕ) → AreKnown (channel_row t p c n)
  row_known n = by_test (own_mask t p c n == 0 || n == device p)
    where
      by_test : (b : Bool) → AreKnown (row_unless t p c b (own_mask t p c n))
      by_test true = tt
      by_test false = (number, tt)

  pair_before : (e q own : ℕ) → 64 ≤ q → own ≡ c →
      ((new.pair e q && not (is_named (channel_row t p c (device q)) e)) && not (nat_lt 0 own && ((e == own) && (q == p)))) ≡ old.pair e q
  pair_before e q own high is =
      ap (λ (x : ℕ). (new.pair e q && not (is_named (channel_row t p c (device q)) e)) && not (nat_lt 0 x && ((e == x) && (q == p)))) is
      ∙ (ap (λ b. (new.pair e q && not b) && not (nat_lt 0 c && ((e == c) && (q == p)))) (row_names t p c (device q) e)
      ∙ by_number (cases_eq e c) (cases_eq (trunk t (device q)) (trunk t (device p))))
    where
      kept : (b d : Bool) → b ≡ false → d ≡ false → ((new.pair e q && not b) && not d) ≡ new.pair e q
      kept b d x y = rw (x, y) (and_true (new.pair e q && true) ∙ and_true (new.pair e q))

      by_number : (e ≡ c) ⊎ (e ≢ c) → (trunk t (device q) ≡ trunk t (device p)) ⊎ (trunk t (device q) ≢ trunk t (device p)) →
          ((new.pair e q && not (not (own_mask t p c (device q) == 0 || device q == device p) && (c == e))) && not (nat_lt 0 c && ((e == c) && (q == p)))) ≡ old.pair e q
      by_number (inr d) at =
          kept (not (own_mask t p c (device q) == 0 || device q == device p) && (c == e)) (nat_lt 0 c && ((e == c) && (q == p)))
          (and_right (not (own_mask t p c (device q) == 0 || device q == device p)) _ (ne_eqb c e (λ f. d (sym f))))
          (and_right (nat_lt 0 c) _ (and_left (e == c) _ (ne_eqb e c d)))
          ∙ sym (others e q high (λ f g. d f))
      by_number (inl same) (inr d) =
          let empty : (own_mask t p c (device q) == 0) ≡ true = not_some (own_mask t p c (device q)) (λ f. d (row_trunk (device q) (omega arith) f)) in
          kept (not (own_mask t p c (device q) == 0 || device q == device p) && (c == e)) (nat_lt 0 c && ((e == c) && (q == p)))
          (and_left (not (own_mask t p c (device q) == 0 || device q == device p)) _ (ap not (or_left (own_mask t p c (device q) == 0) (device q == device p) empty)))
          (and_right (nat_lt 0 c) _ (and_right (e == c) _ (ne_eqb q p (λ f. d (ap (λ (x : ℕ). trunk t (device x)) f)))))
          ∙ sym (others e q high (λ f g. d g))
        where
          not_some : (n : ℕ) → (n ≢ 0 → ⊥) → (n == 0) ≡ true
          not_some n none = elim (cases_eq n 0) [ inl f ↦ eq-eqb n 0 f | inr f ↦ absurd (none f) ]
      by_number (inl same) (inl at) =
          rw (mine_after e q same at, mine_before e q same at, eq-eqb e c same, eq-eqb c e (sym same), positive) (by_place (covers t (λ x. x == p) q) refl (cases_eq q p))
        where
          positive : nat_lt 0 c ≡ true
          positive = (and_parts (nat_lt 0 c) (nat_lt c 4095) i.channel).0

          by_place : (b : Bool) → covers t (λ x. x == p) q ≡ b → (q ≡ p) ⊎ (q ≢ p) →
              ((b && not (not (own_mask t p c (device q) == 0 || device q == device p) && true)) && not (true && (true && (q == p)))) ≡ false
          by_place false f place = refl
          by_place true f (inl g) = and_right _ _ (ap not (eq-eqb q p g))
          by_place true f (inr g) =
              let other : (device q == device p) ≡ false = ne_eqb (device q) (device p) (λ x. g (only_itself t valid p i.deep i.known q f high x)) in
              let some : (own_mask t p c (device q) == 0) ≡ false =
              ne_eqb (own_mask t p c (device q)) 0 (some_mask t (λ x. x == p) (device q) (q % 64 + 1) (omega arith) (omega arith) (ap (covers t (λ x. x == p)) (port_back q) ∙ f)) in
              rw (other, some) refl

  pub channel_taken : is_cascade t p ≡ false → RunsAt (by_extender t (laid_by t after h)) (delete_asks t p c) (by_extender t (laid_by t before h))
  unfolding delete_asks old new unregistered
  channel_taken external =
      runs_append (by_extender t new) (by_extender t unregistered) (by_extender t old) (channel_asks Clear t p c) _
      (subst (λ (asks : List AskAt). RunsAt (by_extender t new) asks (by_extender t unregistered)) (sym (asks_are t p c Clear))
      (unlay_runs t valid (channel_row t p c) new unregistered row_known (record { own = λ q deep known. refl; cascade = λ q deep known. refl; pair = λ e q deep known. refl })))
      (delete_runs t p i.deep i.known unregistered old (record {
        own = λ q deep known. own_back q;
        cascade = λ q deep known. kind_back q (cases_eq q p);
        pair = λ e q deep known. pair_before e q (cond (after p) (channel_of t h p) 0) deep (ap (λ b. cond b (channel_of t h p) 0) i.shown ∙ i.own);
      }))
    where
      own_back : (q : ℕ) → cond (q == p) 0 (cond (after q) (channel_of t h q) 0) ≡ cond (before q) (channel_of t h q) 0
      own_back q = elim (cases_eq q p) [
        | inl e ↦ rw (e, eq-eqb p p refl, i.hidden) refl
        | inr d ↦ rw (ne_eqb q p d) (ap (λ b. cond b (channel_of t h q) 0) (sym (i.same q d)))
      ]

      kind_back : (q : ℕ) → (q ≡ p) ⊎ (q ≢ p) → (is_cascade t q && after q) ≡ (is_cascade t q && before q)
      kind_back q (inl e) = (let off : is_cascade t q ≡ false = ap (is_cascade t) e ∙ external in and_left _ _ off ∙ sym (and_left _ _ off))
      kind_back q (inr d) = ap (λ b. is_cascade t q && b) (sym (i.same q d))

-- Groups that are gone: their numbers are cleared, and then just what is held is laid.
use Rattle.std.proofs.Common.{◌≡◌, ℕ, ◌+◌, ◌-◌, ◌%◌, ◌<◌, ◌≤◌, ◌==◌, ◌&&◌, ◌||◌, cond, Bool, true, false, not, List, [], ◌∷◌, Option, None, refl, sym, ◌∙◌, ap, arith, eq-eqb}
use Rattle.std.specs.List.{list_any}
use Rattle.std.proofs.lemmas.Bool.{eqb-true, ne_eqb, and_from, and_parts, or_parts, or_right, le-leb, lt-ltb, false≢true, false_from_ne_true}
use Rattle.exb_model.specs.Tree.{Shape, IsTree, device, trunk, is_port, is_cascade}
use Rattle.exb_model.specs.TreeSets.{covers}
use Rattle.exb_model.specs.Configuration.{Bridge}
use Rattle.exb_model.proofs.TreeWays.{covers-true, path_is}
use Rattle.exb_csp.specs.declared.group_rows.GroupRow.{GroupRow}
use Rattle.exb_csp.specs.Execution.{is_channel, is_ecid, is_named}
use Rattle.exb_csp.proofs.ExecutionLaws.{and_true}
use Rattle.exb_control_spec.specs.Plans.Sets.{PortsAt}
use Rattle.exb_control_spec.proofs.Plans.TreeWays.{from_under, trunk_along}
use Rattle.exb_csp.specs.AllTables.{port_of, RunsAt}
use Rattle.exb_control_spec.specs.declared.plan.row_action.RowAction.TheVariants.{Clear}
use Rattle.exb_control_spec.specs.Plans.HeldNumbers.{Held, Group, group_used, or_zero, free_where}
use Rattle.exb_control_spec.specs.Plans.Differences.{is_gone, group_at, gone_groups}
use Rattle.exb_model.specs.Lists.{is_listed}
use Rattle.exb_control_spec.specs.Plans.ChangeRequests.{rows_at, group_asks}
use Rattle.exb_control_spec.proofs.ReleasedNumbers.{channel_by}
use Rattle.exb_control_spec.proofs.Plans.GoneGroups.{IsGoneAt, gone_found, gone_there}
use Rattle.exb_control_spec.specs.Runs.LaidTables.{is_shown, channel_pair, group_pair, laid_by, laid}
use Rattle.exb_control_spec.proofs.Runs.Bools.{not_both}
use Rattle.exb_control_spec.proofs.Runs.EqualTables.{port_back}
use Rattle.exb_control_spec.proofs.Runs.ClearMessages.{AreKnown}
use Rattle.exb_control_spec.proofs.Runs.RowRuns.{unlay_runs}
use Rattle.exb_control_spec.proofs.Runs.PortsAbove.{InMask, mask_some, some_mask}
use Rattle.exb_control_spec.proofs.Runs.ChannelRuns.{covers_none}
use Rattle.exb_control_spec.proofs.Runs.GroupRows.{group_mask, rows_any, no_channel}
use Rattle.exb_control_spec.proofs.Runs.Members.{LiesBelow}
use Rattle.exb_control_spec.proofs.Runs.NeededChannels.{Stands, home_low, home_cascade}

-- A set's rows stand under its bridge port.
pub covered_space : (t : Shape) (b : Bridge) (k : ℕ) (set : List ℕ) (q : ℕ) → IsTree t → LiesBelow t b (record { bridge_port = k + 1; ports = set }) → 64 ≤ q → covers t (is_listed set) q ≡ true → trunk t (device q) ≡ k
covered_space t b k set q valid lies deep e =
    let c = covers-true t (is_listed set) q e in
    let u = (from_under t (k + 1 - 1) c.member (lies.under c.member c.chosen)).0 in
    let back : k + 1 - 1 ≡ k = omega arith in
    trunk_along t valid 64 c.member q u.deep u.known deep (rw (path_is t c.member) at c.below) ∙ (u.at ∙ back)

each_known : (xs : List GroupRow) → list_any (λ r. not (is_ecid r.ecid)) xs ≡ false → AreKnown xs
each_known [] e = tt
each_known (r ∷ xs) e = (let parts = or_parts (not (is_ecid r.ecid)) (list_any (λ r. not (is_ecid r.ecid)) xs) e in (known (is_ecid r.ecid) parts.0, each_known xs parts.1))
  where
    known : (b : Bool) → not b ≡ false → b ≡ true
    known true e = refl
    known false e = sym e

-- What is held, and what was held before the change: what was used is as it was, numbers of groups are in their range, and
-- sets lie under their bridge ports.
pub record ComesOf (t : Shape) (b : Bridge) (before h : Held) : Type 0 where
  pub low : (k g : ℕ) → k < 64 → is_cascade t k ≡ true → group_used before k g ≡ true → 4096 ≤ g
  pub high : (k g : ℕ) → k < 64 → is_cascade t k ≡ true → group_used before k g ≡ true → g < 16384
  pub lies : (k g : ℕ) → k < 64 → is_cascade t k ≡ true → group_used before k g ≡ true → LiesBelow t b (record { bridge_port = k + 1; ports = before.set k g })
  pub same : (k g : ℕ) → group_used before k g ≡ true → h.set k g ≡ before.set k g

module _ (t : Shape) (opened : ℕ → Bool) (b a : Bridge) (h before : Held) (s : Stands t opened b h) (c : ComesOf t a before h) (kept : List PortsAt)
    (gone : (k g : ℕ) → is_gone kept h k g ≡ is_gone kept before k g) where
  rows_known : (n : ℕ) → AreKnown (rows_at t (gone_groups t kept before) n)
  rows_known n =
      each_known (rows_at t (gone_groups t kept before) n) (false_from_ne_true _ (λ e.
      let p : Group → Bool = λ x. not (group_mask t n x == 0) && not (is_ecid x.number) in
      let f : IsGoneAt t kept before p = gone_found t kept before p (sym (rows_any t n (λ r. not (is_ecid r.ecid)) (gone_groups t kept before)) ∙ e) in
      let known : is_ecid f.group ≡ true = or_right (is_channel f.group) _ (and_from _ _ (le-leb 4096 f.group f.low) (lt-ltb f.group 16384 f.high)) in
      not_both (is_ecid f.group) known (and_parts _ _ f.passes).1))

  -- the numbers with a row at the extender of a port
  named : (e q : ℕ) → is_named (rows_at t (gone_groups t kept before) (device q)) e ≡ list_any (λ x. not (group_mask t (device q) x == 0) && (x.number == e)) (gone_groups t kept before)
  named e q = rows_any t (device q) (λ r. r.ecid == e) (gone_groups t kept before)

  -- a number that is cleared there is one of its space
  named_gone : (e q : ℕ) → 64 ≤ q → is_named (rows_at t (gone_groups t kept before) (device q)) e ≡ true → is_gone kept before (trunk t (device q)) e ≡ true
  named_gone e q deep is =
      let n = device q in
      let p : Group → Bool = λ x. not (group_mask t (device q) x == 0) && (x.number == e) in
      let f : IsGoneAt t kept before p = gone_found t kept before p (sym (named e q) ∙ is) in
      let both = and_parts (not (group_mask t n (group_at before f.port f.group) == 0)) (f.group == e) f.passes in
      let number : f.group ≡ e = eqb-true f.group e both.1 in
      let used = (and_parts (group_used before f.port f.group) _ f.gone).0 in
      let m : (k : ℕ) × InMask t (is_listed (before.set f.port f.group)) n k =
      mask_some t (is_listed (before.set f.port f.group)) n (λ z. not_both _ (eq-eqb (group_mask t n (group_at before f.port f.group)) 0 z) both.0) in
      let low : 0 < m.0 = m.1.low in
      let high : m.0 ≤ 64 = m.1.high in
      let home : device (port_of n m.0) ≡ n = omega arith in
      let at : trunk t (device (port_of n m.0)) ≡ f.port =
      covered_space t a f.port (before.set f.port f.group) (port_of n m.0) s.tree (c.lies f.port f.group f.low_port f.cascade used) (omega arith) m.1.covered in
      let place : trunk t n ≡ f.port = ap (trunk t) (sym home) ∙ at in
      ap (λ (k : ℕ). is_gone kept before k e) place ∙ (ap (is_gone kept before f.port) (sym number) ∙ f.gone)

  -- a number that is gone is cleared where its set has rows
  gone_named : (e q : ℕ) → 64 ≤ q → is_port t q ≡ true → is_gone kept before (trunk t (device q)) e ≡ true → covers t (is_listed (before.set (trunk t (device q)) e)) q ≡ true →
      is_named (rows_at t (gone_groups t kept before) (device q)) e ≡ true
  gone_named e q deep known is covered =
      let k = trunk t (device q) in
      let low = home_low t s.tree q deep known in
      let cascade = home_cascade t s.tree q deep known in
      let used = (and_parts (group_used before k e) _ is).0 in
      let some : (group_mask t (device q) (group_at before k e) == 0) ≡ false =
      ne_eqb _ 0 (some_mask t (is_listed (before.set k e)) (device q) (q % 64 + 1) (omega arith) (omega arith) (ap (covers t (is_listed (before.set k e))) (port_back q) ∙ covered)) in
      named e q ∙ gone_there t kept before (λ x. not (group_mask t (device q) x == 0) && (x.number == e)) (record {
        port = k;
        group = e;
        low_port = low;
        cascade = cascade;
        low = c.low k e low cascade used;
        high = c.high k e low cascade used;
        gone = is;
        passes = and_from _ _ (ap not some) (eq-eqb e e refl);
      })

  pair_left : (e q : ℕ) → 64 ≤ q → is_port t q ≡ true →
      ((laid_by t (is_shown t opened) h).pair e q && not (is_named (rows_at t (gone_groups t kept before) (device q)) e)) ≡ (laid_by t (is_shown t opened) (free_where (is_gone kept h) h)).pair e q
  pair_left e q deep known = by_gone (is_gone kept before (trunk t (device q)) e) refl
    where
      by_gone : (g : Bool) → is_gone kept before (trunk t (device q)) e ≡ g →
          ((channel_pair t (is_shown t opened) q (h.port (trunk t (device q)) e) || group_pair t q (h.set (trunk t (device q)) e)) && not (is_named (rows_at t (gone_groups t kept before) (device q)) e))
          ≡ (channel_pair t (is_shown t opened) q (h.port (trunk t (device q)) e) || group_pair t q (cond (is_gone kept h (trunk t (device q)) e) [] (h.set (trunk t (device q)) e)))
      by_gone false is =
          let out : is_named (rows_at t (gone_groups t kept before) (device q)) e ≡ false = false_from_ne_true _ (λ n. false≢true (sym is ∙ named_gone e q deep n)) in
          ap (λ b. (channel_pair t (is_shown t opened) q (h.port (trunk t (device q)) e) || group_pair t q (h.set (trunk t (device q)) e)) && not b) out
          ∙ (and_true (channel_pair t (is_shown t opened) q (h.port (trunk t (device q)) e) || group_pair t q (h.set (trunk t (device q)) e))
          ∙ ap (λ b. channel_pair t (is_shown t opened) q (h.port (trunk t (device q)) e) || group_pair t q (cond b [] (h.set (trunk t (device q)) e))) (sym (gone (trunk t (device q)) e ∙ is)))
      by_gone true is =
          let low = home_low t s.tree q deep known in
          let cascade = home_cascade t s.tree q deep known in
          let used = (and_parts (group_used before (trunk t (device q)) e) _ is).0 in
          let none : h.port (trunk t (device q)) e ≡ None = no_channel t opened b h s q e deep known (c.low (trunk t (device q)) e low cascade used) in
          let set : h.set (trunk t (device q)) e ≡ before.set (trunk t (device q)) e = c.same (trunk t (device q)) e used in
          let end : (group_pair t q (before.set (trunk t (device q)) e) && not (is_named (rows_at t (gone_groups t kept before) (device q)) e)) ≡ false =
          by_covered (group_pair t q (before.set (trunk t (device q)) e)) refl is in
          ap (λ (o : Option ℕ). (channel_pair t (is_shown t opened) q o || group_pair t q (h.set (trunk t (device q)) e)) && not (is_named (rows_at t (gone_groups t kept before) (device q)) e)) none
          ∙ (ap (λ (x : List ℕ). group_pair t q x && not (is_named (rows_at t (gone_groups t kept before) (device q)) e)) set
          ∙ (end
          ∙ sym (ap (λ b. channel_pair t (is_shown t opened) q (h.port (trunk t (device q)) e) || group_pair t q (cond b [] (h.set (trunk t (device q)) e))) (gone (trunk t (device q)) e ∙ is)
          ∙ (ap (λ (o : Option ℕ). channel_pair t (is_shown t opened) q o || group_pair t q []) none ∙ covers_none t q))))
        where
          by_covered : (v : Bool) → group_pair t q (before.set (trunk t (device q)) e) ≡ v → is_gone kept before (trunk t (device q)) e ≡ true →
              (v && not (is_named (rows_at t (gone_groups t kept before) (device q)) e)) ≡ false
          by_covered false covered is = refl
          by_covered true covered is = ap not (gone_named e q deep known is covered)

  -- The numbers of groups that are gone are cleared, each answer is 0, and then what is held is laid.
  pub groups_cleared : RunsAt (laid t opened h) (group_asks Clear t (gone_groups t kept before)) (laid t opened (free_where (is_gone kept h) h))
  unfolding group_asks
  groups_cleared =
      unlay_runs t s.tree (rows_at t (gone_groups t kept before)) (laid_by t (is_shown t opened) h) (laid_by t (is_shown t opened) (free_where (is_gone kept h) h)) rows_known
      (record {
        own = λ q deep known. ap (λ (c : ℕ). cond (is_shown t opened q) c 0) (ap or_zero (channel_by h (free_where (is_gone kept h) h) (trunk t (device q)) q (λ c. refl)));
        cascade = λ q deep known. refl;
        pair = λ e q deep known. pair_left e q deep known;
      })

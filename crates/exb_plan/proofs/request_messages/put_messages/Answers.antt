use Rattle.std.proofs.Common.{◌≡◌, ◌<◌, ◌==◌, ◌∙◌, ◌++◌, ◌∷◌, ℕ, zero, suc, Bool, true, false, List, [], length, refl, sym, ap, arith}
use Rattle.std.proofs.lemmas.Bool.{false≢true, eqb-true}
use Rattle.exb_csp.specs.declared.group_rows.GroupRow.{GroupRow}
use Rattle.exb_control_spec.specs.Plans.ChangeRequests.{ask, message, asks_with}
use Rattle.exb_plan.proofs.Messages.{asks_step, asks_none}
use Rattle.exb_plan.proofs.request_messages.put_messages.Goals as goal

some_left : (n : ℕ) (b : Bool) → b ≡ (n == 0) → b ≡ false → 0 < n
some_left zero b e f = absurd (false≢true (sym f ∙ e))
some_left (suc n) b e f = omega arith

none_left : (rows : List GroupRow) (b : Bool) → b ≡ (length rows == 0) → b ≡ true → rows ≡ []
none_left rows b e f = by_length rows (eqb-true (length rows) 0 (sym e ∙ f))
  where
    by_length : (rows : List GroupRow) → length rows ≡ 0 → rows ≡ []
    by_length [] h = refl
    by_length (x ∷ xs) h = absurd (omega arith)

pub loop-left-preserved : goal.loop-left-preserved
loop-left-preserved c =
    let left = c.loop-left.left.now in
    let n = c.args.extender in
    let step = c.args.step in
    let asks = c.loop-left.asks in
    let e = c.in_ok-put_message.ensures ∙ ap (λ (l : List GroupRow). asks ++ ask n (message step l) ∷ []) c.split_at.ensures.front in
    ap (λ (l : List GroupRow). c.put_message.new.asks ++ asks_with step l n) c.split_at.ensures.back
    ∙ (asks_step asks c.put_message.new.asks step left n c.rows_in_message.result (some_left (length left) c.is_empty.result c.is_empty.ensures c.loop-left-test.true) c.rows_in_message.ensures e
    ∙ c.loop-left.invariant)

pub returns : goal.returns
returns c =
    let n = c.args.extender in
    let step = c.args.step in
    let asks = c.loop-left.asks in
    sym (ap (λ (l : List GroupRow). asks ++ asks_with step l n) (none_left c.loop-left.left.now c.is_empty.result c.is_empty.ensures c.loop-left-test.false) ∙ asks_none asks step n)
    ∙ c.loop-left.invariant

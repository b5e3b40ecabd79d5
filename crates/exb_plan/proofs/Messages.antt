-- Messages with rows.
use Rattle.std.proofs.Common.{◌≡◌, ◌≢◌, ℕ, ◌<◌, ◌==◌, not, List, [], ◌∷◌, ◌++◌, length, map, filter, take, drop, refl, sym, ◌∙◌, ap, inl, inr, min}
use Rattle.std.specs.List.{flat_map}
use Rattle.std.proofs.lemmas.Bool.{cases_Bool}
use Rattle.std.proofs.lemmas.List.{append-nil, append_assoc}
use Rattle.exb_csp.specs.declared.group_rows.GroupRow.{GroupRow}
use Rattle.exb_csp.specs.declared.message.Request.TheVariants.{RegisterMany, UnregisterMany}
use Rattle.exb_model.specs.Tree.{Shape, device}
use Rattle.exb_control_spec.specs.declared.plan.row.Row.{Row}
use Rattle.exb_control_spec.specs.Plans.Rows.{rows_of}
use Rattle.exb_csp.specs.declared.ask_at.AskAt.{AskAt}
use Rattle.exb_control_spec.specs.declared.plan.row_action.RowAction.{RowAction}
use Rattle.exb_control_spec.specs.Plans.ChangeRequests.{ask, register, unregister, numbers_of, message, pieces, in_messages, asks_with, channel_rows, channel_ask, channel_asks, put_above}
use Rattle.exb_plan.proofs.MessageLists.{cut_message}

pub register_many : (rows : List GroupRow) → length rows ≢ 1 → register rows ≡ RegisterMany rows
register_many [] h = refl
register_many (x ∷ []) h = absurd (h refl)
register_many (x ∷ y ∷ rows) h = refl

pub unregister_many : (rows : List GroupRow) → length rows ≢ 1 → unregister (numbers_of rows) ≡ UnregisterMany (numbers_of rows)
unregister_many [] h = refl
unregister_many (x ∷ []) h = absurd (h refl)
unregister_many (x ∷ y ∷ rows) h = refl

-- one message, and those of what is left
pub asks_step : (asks now : List AskAt) (step : RowAction) (rows : List GroupRow) (n cut : ℕ) → 0 < length rows → cut ≡ min (length rows) 64 →
    now ≡ asks ++ ask n (message step (take cut rows)) ∷ [] → now ++ asks_with step (drop cut rows) n ≡ asks ++ asks_with step rows n
asks_step asks now step rows n cut some is e =
    ap (λ (l : List AskAt). l ++ asks_with step (drop cut rows) n) e
    ∙ (append_assoc asks (ask n (message step (take cut rows)) ∷ []) (asks_with step (drop cut rows) n)
    ∙ ap (λ (l : List (List GroupRow)). asks ++ map (λ piece. ask n (message step piece)) l) (sym (cut_message cut rows some is)))

pub asks_none : (asks : List AskAt) (step : RowAction) (n : ℕ) → asks ++ asks_with step [] n ≡ asks
unfolding in_messages pieces
asks_none asks step n = append-nil asks

-- the rows of a channel above its port
pub above_are : (step : RowAction) (t : Shape) (p c : ℕ) → flat_map (put_above step (device p) c) (rows_of t (λ q. q == p)) ≡ channel_asks step t p c
unfolding channel_rows
above_are step t p c = each (rows_of t (λ q. q == p))
  where
    each : (rows : List Row) → flat_map (put_above step (device p) c) rows ≡ map (channel_ask step c) (filter (λ row. not (row.extender == device p)) rows)
    each [] = refl
    each (row ∷ rows) =
        elim (cases_Bool (row.extender == device p)) [
          | inl e ↦ rw e (each rows)
          | inr e ↦ rw e (ap (λ l. channel_ask step c row ∷ l) (each rows))
        ]

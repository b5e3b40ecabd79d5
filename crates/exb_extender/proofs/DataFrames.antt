-- A data frame changes nothing of the extender that takes it.
use Rattle.std.proofs.Common.{◌≡◌, ◌⊎◌, ℕ, ◌<◌, ◌≤◌, ◌&&◌, Bool, true, false, not, nat_le, List, length, refl, ap, sym, subst, ◌∙◌}
use Rattle.exb_model.specs.Frames.{is_control_frame}
use Rattle.exb_csp.specs.Execution.{ExtenderTables}
use Rattle.exb_extender.specs.declared.sends.Side.{Side}
use Rattle.exb_extender.specs.declared.sends.Side.TheVariants.{Up, Port}
use Rattle.exb_extender.specs.Forwarding.{emitted, has_etag_type, is_bare_control}
use Rattle.exb_extender.specs.Machine.{ExtenderState, Arrives, CanTake, react}

not_bare : (f : List ℕ) → is_control_frame f ≡ false → is_bare_control f ≡ false
unfolding is_bare_control
not_bare f plain = rw plain (by_tests (nat_le 14 (length f)) (has_etag_type f))
  where
    by_tests : (long tagged : Bool) → (long && (not tagged && false)) ≡ false
    by_tests true true = refl
    by_tests true false = refl
    by_tests false tagged = refl

pub stays : (from : Side) (f : List ℕ) (s : ExtenderState) → is_control_frame f ≡ false → (react (Arrives from f) s).0 ≡ s
stays Up f s plain = rw (not_bare f plain) refl
stays (Port k) f s plain = refl

-- what it sends is by its tables alone
emits : (from : Side) (f : List ℕ) (s : ExtenderState) → is_control_frame f ≡ false → (react (Arrives from f) s).1 ≡ emitted s.tables from f
emits Up f s plain = rw (not_bare f plain) refl
emits (Port k) f s plain = refl

pub same_sends : (from : Side) (f : List ℕ) (s u : ExtenderState) → is_control_frame f ≡ false → s.tables ≡ u.tables → (react (Arrives from f) s).1 ≡ (react (Arrives from f) u).1
same_sends from f s u plain is = emits from f s plain ∙ ap (λ (t : ExtenderTables). emitted t from f) is ∙ sym (emits from f u plain)

-- and so is what it may take
pub can_take : (from : Side) (s u : ExtenderState) → s.tables ≡ u.tables → CanTake s from → CanTake u from
can_take Up s u is can = tt
can_take (Port port) s u is can = subst (λ (t : ExtenderTables). ((0 < port) × (port ≤ t.ports)) × ((t.cascade port ≡ true) ⊎ (t.own port ≡ 0))) is can

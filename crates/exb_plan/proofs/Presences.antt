-- With a command at most the port goes up or down that it makes present or absent.
use Rattle.std.proofs.Common.{◌≡◌, ℕ, ◌<◌, ◌==◌, ◌&&◌, ◌||◌, Bool, true, false, not, Some, None, refl, sym, ◌∙◌, ap, arith}
use Rattle.std.proofs.lemmas.Bool.{eqb-true, eq-eqb, and_parts, false≢true, false_from_ne_true}
use Rattle.exb_model.specs.declared.command.Command.{Command}
use Rattle.exb_model.specs.declared.command.Command.TheVariants as command
use Rattle.exb_model.specs.Tree.{Shape, is_extended}
use Rattle.exb_model.specs.Configuration.{Bridge, after}
use Rattle.exb_control_spec.specs.Plans.Differences.{rises, goes_up, goes_down}
use Rattle.exb_plan.proofs.FirstPorts.{goes_up_found, goes_up_none}

-- ---- where only one port can rise
module _ (t : Shape) (old new : Bridge) where
  pub one_rises : (p : ℕ) → p < 4160 → ((q : ℕ) → rises t old new q ≡ true → q ≡ p) → rises t old new p ≡ true → Some p ≡ goes_up t old new
  one_rises p low only is =
      goes_up_found t old new p low (λ k before. false_from_ne_true (rises t old new k) (λ e. (let same = only k e in omega (arith, same, before)))) is

  pub none_rises : ((q : ℕ) → rises t old new q ≡ true → ⊥) → None ≡ goes_up t old new
  none_rises none = goes_up_none t old new 4160 (omega arith) (λ k before. false_from_ne_true (rises t old new k) (none k))

  pub other_rises : (p : ℕ) → ((q : ℕ) → rises t old new q ≡ true → q ≡ p) → rises t old new p ≡ false → None ≡ goes_up t old new
  other_rises p only is = none_rises (λ q e. false≢true (sym is ∙ (ap (rises t old new) (sym (only q e)) ∙ e)))

-- ---- a port that is made present
up_test : (e p s : Bool) → (e && (not p && (s || p))) ≡ true → s ≡ true
up_test true true s h = absurd (false≢true h)
up_test true false true h = refl
up_test true false false h = absurd (false≢true h)
up_test false p s h = absurd (false≢true h)

down_test : (e p s : Bool) → (e && (not (not s && p) && p)) ≡ true → s ≡ true
down_test true true true h = refl
down_test true true false h = absurd (false≢true h)
down_test true false s h = absurd (false≢true (sym (none s) ∙ h))
  where
    none : (s : Bool) → (not (not s && false) && false) ≡ false
    none true = refl
    none false = refl
down_test false p s h = absurd (false≢true h)

stays_test : (e p : Bool) → (e && (not p && p)) ≡ true → ⊥
stays_test true true h = false≢true h
stays_test true false h = false≢true h
stays_test false p h = false≢true h

-- what is made absent doesn't rise
sinks_test : (e p s : Bool) → (e && (not p && (not s && p))) ≡ true → ⊥
sinks_test true true s h = false≢true h
sinks_test true false true h = false≢true h
sinks_test true false false h = false≢true h
sinks_test false p s h = false≢true h

-- nor does what is made present sink
lifts_test : (e p s : Bool) → (e && (not (s || p) && p)) ≡ true → ⊥
lifts_test true true true h = false≢true h
lifts_test true true false h = false≢true h
lifts_test true false true h = false≢true h
lifts_test true false false h = false≢true h
lifts_test false p s h = false≢true h

module _ (t : Shape) (b : Bridge) (p : ℕ) where
  up_only : (q : ℕ) → rises t b (after (command.Up p) b) q ≡ true → q ≡ p
  up_only q h = eqb-true q p (up_test (is_extended t q) (b.present q) (q == p) h)

  down_only : (q : ℕ) → rises t (after (command.Down p) b) b q ≡ true → q ≡ p
  down_only q h = eqb-true q p (down_test (is_extended t q) (b.present q) (q == p) h)

  pub up_is : p < 4160 → (is_extended t p && not (b.present p)) ≡ true → Some p ≡ goes_up t b (after (command.Up p) b)
  up_is low h =
      let parts = and_parts (is_extended t p) (not (b.present p)) h in
      one_rises t b (after (command.Up p) b) p low up_only (rw (parts.0, parts.1, eq-eqb p p refl) refl)

  pub up_none : (is_extended t p && not (b.present p)) ≡ false → None ≡ goes_up t b (after (command.Up p) b)
  up_none h = other_rises t b (after (command.Up p) b) p up_only (by_test (is_extended t p) (b.present p) (p == p) h)
    where
      by_test : (e a s : Bool) → (e && not a) ≡ false → (e && (not a && (s || a))) ≡ false
      by_test true true s h = refl
      by_test true false s h = absurd (false≢true (sym h))
      by_test false a s h = refl

  pub down_is : p < 4160 → (is_extended t p && b.present p) ≡ true → Some p ≡ goes_down t b (after (command.Down p) b)
  down_is low h =
      let parts = and_parts (is_extended t p) (b.present p) h in
      one_rises t (after (command.Down p) b) b p low down_only (rw (parts.0, parts.1, eq-eqb p p refl) refl)

  pub down_none : (is_extended t p && b.present p) ≡ false → None ≡ goes_down t b (after (command.Down p) b)
  down_none h = other_rises t (after (command.Down p) b) b p down_only (by_test (is_extended t p) (b.present p) (p == p) h)
    where
      by_test : (e a s : Bool) → (e && a) ≡ false → (e && (not (not s && a) && a)) ≡ false
      by_test true true s h = absurd (false≢true (sym h))
      by_test true false true h = refl
      by_test true false false h = refl
      by_test false a s h = refl

-- ---- the other commands
module _ (t : Shape) (b : Bridge) where
  stays : (q : ℕ) → rises t b b q ≡ true → ⊥
  stays q h = stays_test (is_extended t q) (b.present q) h

  pub up_else : (c : Command) → ((p : ℕ) → c ≡ command.Up p → ⊥) → None ≡ goes_up t b (after c b)
  up_else (command.Vlan v s u) other = none_rises t b (after (command.Vlan v s u) b) stays
  up_else (command.Member v p k) other = none_rises t b (after (command.Member v p k) b) stays
  up_else (command.Unmember v p) other = none_rises t b (after (command.Unmember v p) b) stays
  up_else (command.Pvid p v) other = none_rises t b (after (command.Pvid p v) b) stays
  up_else (command.Accept p types) other = none_rises t b (after (command.Accept p types) b) stays
  up_else (command.Filter p on) other = none_rises t b (after (command.Filter p on) b) stays
  up_else (command.Isolate p on) other = none_rises t b (after (command.Isolate p on) b) stays
  up_else (command.Static v m ports) other = none_rises t b (after (command.Static v m ports) b) stays
  up_else (command.Unstatic v m) other = none_rises t b (after (command.Unstatic v m) b) stays
  up_else (command.Up p) other = absurd (other p refl)
  up_else (command.Down p) other = none_rises t b (after (command.Down p) b) (λ q h. sinks_test (is_extended t q) (b.present q) (q == p) h)

  pub down_else : (c : Command) → ((p : ℕ) → c ≡ command.Down p → ⊥) → None ≡ goes_down t b (after c b)
  down_else (command.Vlan v s u) other = none_rises t (after (command.Vlan v s u) b) b stays
  down_else (command.Member v p k) other = none_rises t (after (command.Member v p k) b) b stays
  down_else (command.Unmember v p) other = none_rises t (after (command.Unmember v p) b) b stays
  down_else (command.Pvid p v) other = none_rises t (after (command.Pvid p v) b) b stays
  down_else (command.Accept p types) other = none_rises t (after (command.Accept p types) b) b stays
  down_else (command.Filter p on) other = none_rises t (after (command.Filter p on) b) b stays
  down_else (command.Isolate p on) other = none_rises t (after (command.Isolate p on) b) b stays
  down_else (command.Static v m ports) other = none_rises t (after (command.Static v m ports) b) b stays
  down_else (command.Unstatic v m) other = none_rises t (after (command.Unstatic v m) b) b stays
  down_else (command.Up p) other = none_rises t (after (command.Up p) b) b (λ q h. lifts_test (is_extended t q) (b.present q) (q == p) h)
  down_else (command.Down p) other = absurd (other p refl)

-- Plans for what commands make of a configuration.
use Rattle.std.proofs.Common.{◌≡◌, ℕ, ◌==◌, ◌&&◌, ◌||◌, not, Bool, true, false, cond, Option, Some, None, refl, ◌∙◌, ap, arith, inl, inr, eq-eqb}
use Rattle.std.proofs.lemmas.Bool.{cases_eq, ne_eqb}
use Rattle.exb_model.specs.declared.command.Command.{Command}
use Rattle.exb_model.specs.declared.command.Command.TheVariants as command
use Rattle.exb_model.specs.Ports.{below}
use Rattle.exb_model.specs.Tree.{Shape, IsTree, device, trunk, is_extended}
use Rattle.exb_model.specs.Configuration.{Bridge, after}
use Rattle.exb_model.specs.Refusals.{refusal, channel_at, channels_short, groups_short, first_cause}
use Rattle.exb_control_spec.specs.Plans.Differences.{rises, goes_up, trunk_of, refusal_between}
use Rattle.exb_control_spec.specs.Plans.Laws.{RefusedAsCommanded}
use Rattle.exb_control_spec.proofs.Plans.Ranges.{find_first, find_none}
use Rattle.exb_control_spec.proofs.Plans.Trunks.{extended_below}
use Rattle.exb_control_spec.proofs.Plans.Bools.{and_false}

module _ (t : Shape) (old : Bridge) where
  none_rises : (new : Bridge) → ((q : ℕ) → (not (old.present q) && new.present q) ≡ false) → goes_up t old new ≡ None
  unfolding goes_up below
  none_rises new none = find_none (rises t old new) 0 4160 (λ c l h. ap (λ b. is_extended t c && b) (none c) ∙ and_false (is_extended t c))

  same : (b : Bool) → (not b && b) ≡ false
  same true = refl
  same false = refl

  fewer : (a b : Bool) → (not b && (a && b)) ≡ false
  fewer true true = refl
  fewer false true = refl
  fewer true false = refl
  fewer false false = refl

  module _ (valid : IsTree t) (p : ℕ) where
    up : Bridge
    up = after (command.Up p) old

    risen : (e a : Bool) → is_extended t p ≡ e → old.present p ≡ a → trunk_of t (goes_up t old up) ≡ cond (e && not a) (Some (trunk t (device p))) None
    unfolding up goes_up below
    risen true false e a =
        let here : rises t old up p ≡ true = rw (e, a, eq-eqb p p refl) refl in
        ap (trunk_of t) (find_first (rises t old up) 0 4160 p (omega arith) (let l = extended_below t valid p e in omega (arith, l)) here (λ c l h. rw (ne_eqb c p (omega arith)) (last (is_extended t c) (old.present c))))
      where
        last : (x b : Bool) → (x && (not b && (false || b))) ≡ false
        last true true = refl
        last true false = refl
        last false b = refl
    risen true true e a = ap (trunk_of t) (find_none (rises t old up) 0 4160 (λ c l h. elim (cases_eq c p) [
      | inl s ↦ rw (s, a) (and_false (is_extended t p))
      | inr s ↦ rw (ne_eqb c p s) (last (is_extended t c) (old.present c))
    ]))
      where
        last : (x b : Bool) → (x && (not b && (false || b))) ≡ false
        last true true = refl
        last true false = refl
        last false b = refl
    risen false a e f = ap (trunk_of t) (find_none (rises t old up) 0 4160 (λ c l h. elim (cases_eq c p) [
      | inl s ↦ rw (s, e) refl
      | inr s ↦ rw (ne_eqb c p s) (last (is_extended t c) (old.present c))
    ]))
      where
        last : (x b : Bool) → (x && (not b && (false || b))) ≡ false
        last true true = refl
        last true false = refl
        last false b = refl

  channel_is : IsTree t → (c : Command) → trunk_of t (goes_up t old (after c old)) ≡ channel_at t old c
  unfolding up
  channel_is valid (command.Up p) = risen valid p (is_extended t p) (old.present p) refl refl
  channel_is valid (command.Down p) = ap (trunk_of t) (none_rises (after (command.Down p) old) (λ q. fewer (not (q == p)) (old.present q)))
  channel_is valid (command.Vlan v tagged untagged) = ap (trunk_of t) (none_rises (after (command.Vlan v tagged untagged) old) (λ q. same (old.present q)))
  channel_is valid (command.Member v p kind) = ap (trunk_of t) (none_rises (after (command.Member v p kind) old) (λ q. same (old.present q)))
  channel_is valid (command.Unmember v p) = ap (trunk_of t) (none_rises (after (command.Unmember v p) old) (λ q. same (old.present q)))
  channel_is valid (command.Pvid p v) = ap (trunk_of t) (none_rises (after (command.Pvid p v) old) (λ q. same (old.present q)))
  channel_is valid (command.Accept p types) = ap (trunk_of t) (none_rises (after (command.Accept p types) old) (λ q. same (old.present q)))
  channel_is valid (command.Filter p on) = ap (trunk_of t) (none_rises (after (command.Filter p on) old) (λ q. same (old.present q)))
  channel_is valid (command.Isolate p on) = ap (trunk_of t) (none_rises (after (command.Isolate p on) old) (λ q. same (old.present q)))
  channel_is valid (command.Static v m ports) = ap (trunk_of t) (none_rises (after (command.Static v m ports) old) (λ q. same (old.present q)))
  channel_is valid (command.Unstatic v m) = ap (trunk_of t) (none_rises (after (command.Unstatic v m) old) (λ q. same (old.present q)))

pub refused_as_commanded : RefusedAsCommanded
unfolding refusal_between refusal
refused_as_commanded t l old c valid = ap (λ (o : Option ℕ). first_cause (channels_short t l old o) (groups_short t l old (after c old))) (channel_is t old valid c)

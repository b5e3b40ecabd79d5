-- What a command makes of a configuration of which a plan is made.
use Rattle.std.proofs.Common.{◌≡◌, ◌≢◌, ℕ, ◌==◌, ◌&&◌, not, Bool, true, false, List, [], ◌∷◌, refl, sym, ◌∙◌, ap, inl, inr}
use Rattle.std.specs.Prelude.{fold, nat_lt, All}
use Rattle.std.proofs.lemmas.Bool.{cases_eq, and_parts, ne_eqb, le-ltb}
use Rattle.std.proofs.lemmas.List.Elements.{All-head, All-tail}
use Rattle.exb_model.specs.declared.command.Command.{Command}
use Rattle.exb_model.specs.declared.command.Command.TheVariants as command
use Rattle.exb_model.specs.Tree.{Shape, is_external, is_extended}
use Rattle.exb_model.specs.declared.setup.Setup.{Setup}
use Rattle.exb_model.specs.Setup.{NamesExternal, IsStart, IsValid, shape_of, start_of}
use Rattle.exb_model.specs.Configuration.{Bridge, after, empty_bridge}
use Rattle.exb_control_spec.specs.Plans.Laws.{IsStep}
use Rattle.exb_control_spec.proofs.Plans.Trunks.{extended_high}
use Rattle.exb_control_spec.specs.JobsOfTree.{HasExternals}

-- ---- which ports are present
-- a port's presence changes by a command for it alone
same_elsewhere : (b : Bridge) (p q : ℕ) → q ≢ p → ((after (command.Up p) b).present q ≡ b.present q) × ((after (command.Down p) b).present q ≡ b.present q)
same_elsewhere b p q n = (rw (ne_eqb q p n) refl, rw (ne_eqb q p n) refl)

changed_is : (b : Bridge) (p q : ℕ) (now : Bool) → (q ≢ p → now ≡ b.present q) → b.present q ≢ now → q ≡ p
changed_is b p q now same d =
    elim (cases_eq q p) [
      | inl e ↦ e
      | inr n ↦ absurd (d (sym (same n)))
    ]

one_changed : (b : Bridge) (c : Command) (p q : ℕ) → b.present p ≢ (after c b).present p → b.present q ≢ (after c b).present q → p ≡ q
one_changed b (command.Up r) p q d e =
    changed_is b r p ((after (command.Up r) b).present p) (λ n. (same_elsewhere b r p n).0) d
    ∙ sym (changed_is b r q ((after (command.Up r) b).present q) (λ n. (same_elsewhere b r q n).0) e)
one_changed b (command.Down r) p q d e =
    changed_is b r p ((after (command.Down r) b).present p) (λ n. (same_elsewhere b r p n).1) d
    ∙ sym (changed_is b r q ((after (command.Down r) b).present q) (λ n. (same_elsewhere b r q n).1) e)
one_changed b (command.Vlan v tagged untagged) p q d e = absurd (d refl)
one_changed b (command.Member v r kind) p q d e = absurd (d refl)
one_changed b (command.Unmember v r) p q d e = absurd (d refl)
one_changed b (command.Pvid r v) p q d e = absurd (d refl)
one_changed b (command.Accept r types) p q d e = absurd (d refl)
one_changed b (command.Filter r on) p q d e = absurd (d refl)
one_changed b (command.Isolate r on) p q d e = absurd (d refl)
one_changed b (command.Static v m ports) p q d e = absurd (d refl)
one_changed b (command.Unstatic v m) p q d e = absurd (d refl)

pub external_after : (t : Shape) (b : Bridge) (c : Command) → NamesExternal t c → HasExternals t b → HasExternals t (after c b)
external_after t b (command.Up p) names external q e =
    elim (cases_eq q p) [
      | inl s ↦ ap (is_external t) s ∙ names
      | inr n ↦ external q (sym (same_elsewhere b p q n).0 ∙ e)
    ]
external_after t b (command.Down p) names external q e = external q (and_parts (not (q == p)) (b.present q) e).1
external_after t b (command.Vlan v tagged untagged) names external q e = external q e
external_after t b (command.Member v r kind) names external q e = external q e
external_after t b (command.Unmember v r) names external q e = external q e
external_after t b (command.Pvid r v) names external q e = external q e
external_after t b (command.Accept r types) names external q e = external q e
external_after t b (command.Filter r on) names external q e = external q e
external_after t b (command.Isolate r on) names external q e = external q e
external_after t b (command.Static v m ports) names external q e = external q e
external_after t b (command.Unstatic v m) names external q e = external q e

pub step_of : (t : Shape) (b : Bridge) (c : Command) → NamesExternal t c → HasExternals t b → IsStep t b (after c b)
step_of t b c names external = record {
  one = one_changed b c;
  external_old = external;
  external_new = external_after t b c names external;
}

-- ---- the start
start_present : (t : Shape) (cs : List Command) (b : Bridge) → All (IsStart t) cs → (fold (λ k c. after c k) b cs).present ≡ b.present
start_present t [] b all = refl
start_present t (c ∷ cs) b all = start_present t cs (after c b) (All-tail (IsStart t) c cs all) ∙ one c (All-head (IsStart t) c cs all)
  where
    one : (d : Command) → IsStart t d → (after d b).present ≡ b.present
    one (command.Vlan v tagged untagged) is = refl
    one (command.Member v p kind) is = refl
    one (command.Unmember v p) is = refl
    one (command.Pvid p v) is = refl
    one (command.Accept p types) is = refl
    one (command.Filter p on) is = refl
    one (command.Isolate p on) is = refl
    one (command.Static v m ports) is = refl
    one (command.Unstatic v m) is = refl
    one (command.Up p) is = absurd is
    one (command.Down p) is = absurd is

-- just the bridge's own external ports are present
present_at_start : (s : Setup) → IsValid s → (q : ℕ) → (start_of s).present q ≡ (nat_lt q 64 && is_external (shape_of s) q)
unfolding start_of
present_at_start s valid q =
    ap (λ (f : ℕ → Bool). f q) (start_present (shape_of s) s.start (empty_bridge (λ p. nat_lt p 64 && is_external (shape_of s) p)) valid.start)

pub start_external : (s : Setup) → IsValid s → HasExternals (shape_of s) (start_of s)
start_external s valid q e = (and_parts (nat_lt q 64) (is_external (shape_of s) q) (sym (present_at_start s valid q) ∙ e)).1

pub start_absent : (s : Setup) → IsValid s → (q : ℕ) → is_extended (shape_of s) q ≡ true → (start_of s).present q ≡ false
start_absent s valid q ext =
    let high = extended_high (shape_of s) q ext in
    present_at_start s valid q ∙ rw (le-ltb q 64 high) refl

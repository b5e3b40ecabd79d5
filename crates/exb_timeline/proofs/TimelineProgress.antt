-- One programme goes on: what is left is of later moments, where its captures stand then, and which command a number is.
use Rattle.std.proofs.Common.{◌≡◌, ◌≢◌, ℕ, suc, ◌*◌, ◌≤◌, ◌==◌, Bool, true, false, List, [], ◌∷◌, map, refl, ap, sym, subst, ◌∙◌, arith, inl, inr, eq-eqb, eqb-true}
use Rattle.std.specs.Prelude.{Option, Some, None, IfSome, if◌then◌else◌, option_map, slice_get}
use Rattle.std.specs.List.{AllByRecursion}
use Rattle.std.proofs.lemmas.Bool.{ne_eqb}
use Rattle.std.proofs.lemmas.Option.{slice_get-map}
use Rattle.exb_model.specs.declared.setup.Timed.{Timed}
use Rattle.exb_model.specs.History.{command_of}
use Rattle.exb_model.specs.Input.{Input, Given, basis_of, given_by, second_of}
use Rattle.exb_timeline.specs.MergeOrder.{commands_left, first_moment}
use Rattle.exb_timeline.specs.declared.bridge_timeline.Next.{Next}
use Rattle.exb_timeline.specs.declared.bridge_timeline.Next.TheVariants as next
use Rattle.exb_timeline.specs.declared.bridge_timeline.Timeline.{Timeline}
use Rattle.exb_timeline.specs.declared.capture_merge.CaptureSource.{CaptureSource}
use Rattle.exb_timeline.specs.Timelines.{IsFrom, IsOf, played_with}
use Rattle.exb_timeline.specs.CaptureMerges.{HasPort, Standing, gone_on, number_of, standings}

-- ---- moments
none_earlier : (m k : ℕ) (xs : List CaptureSource) → m ≤ k → AllByRecursion (λ (s : CaptureSource). IfSome s.next (λ j. k ≤ j)) xs → AllByRecursion (λ (s : CaptureSource). IfSome s.next (λ j. m ≤ j)) xs
none_earlier m k [] low all = tt
none_earlier m k (x ∷ xs) low all = (by_next x.next all.0, none_earlier m k xs low all.1)
  where
    by_next : (o : Option ℕ) → IfSome o (λ j. k ≤ j) → IfSome o (λ j. m ≤ j)
    by_next None is = tt
    by_next (Some j) is = omega (arith, low, is)

-- from an earlier moment on
pub from_earlier : (m k : ℕ) (p : Timeline) → m ≤ k → IsFrom k p → IsFrom m p
from_earlier m k p low from = record {
  commands = by_first (first_moment (commands_left (played_with [] p))) from.commands;
  captures = none_earlier m k p.captures.sources.items low from.captures;
}
  where
    by_first : (o : Option ℕ) → IfSome o (λ j. k ≤ j) → IfSome o (λ j. m ≤ j)
    by_first None is = tt
    by_first (Some j) is = omega (arith, low, is)

pub second_low : (m s : ℕ) → second_of m ≡ s → s * 1_000_000_000 ≤ m
second_low m s is = omega (arith, is)

pub second_high : (m l : ℕ) → l * 1_000_000_000 ≤ m → l ≤ second_of m
second_high m l low = omega (arith, low)

-- ---- where captures stand when a record came
pub number_own : (p m : ℕ) (ss : List Standing) → HasPort p ss → number_of (gone_on p m ss) p ≡ suc (number_of ss p)
number_own p m [] has = absurd has
number_own p m (s ∷ ss) has = by_test (s.port == p) refl (number_own p m ss) has
  where
    after : Standing
    after = record { port = s.port; index = suc s.index; least = m }

    by_test : (b : Bool) → (s.port == p) ≡ b → (HasPort p ss → number_of (gone_on p m ss) p ≡ suc (number_of ss p)) → HasPort p (s ∷ ss) →
        number_of (if s.port == p then after ∷ ss else s ∷ gone_on p m ss) p ≡ suc (if s.port == p then s.index else number_of ss p)
    by_test true e rest h = rw e (rw e refl)
    by_test false e rest (inl same) = absurd (let differ : true ≡ false = sym (eq-eqb s.port p same) ∙ e in cc)
    by_test false e rest (inr later) = rw e (rw e (rest later))

pub number_other : (p m q : ℕ) (ss : List Standing) → p ≢ q → number_of (gone_on p m ss) q ≡ number_of ss q
number_other p m q [] differ = refl
number_other p m q (s ∷ ss) differ = by_test (s.port == p) refl (number_other p m q ss differ)
  where
    after : Standing
    after = record { port = s.port; index = suc s.index; least = m }

    by_test : (b : Bool) → (s.port == p) ≡ b → number_of (gone_on p m ss) q ≡ number_of ss q → number_of (if b then after ∷ ss else s ∷ gone_on p m ss) q ≡ (if s.port == q then s.index else number_of ss q)
    by_test true e rest =
        let other : (s.port == q) ≡ false = ne_eqb s.port q (λ same. differ (sym (eqb-true s.port p e) ∙ same)) in
        ap (λ (b : Bool). if b then suc s.index else number_of ss q) other ∙ sym (ap (λ (b : Bool). if b then s.index else number_of ss q) other)
    by_test false e rest = ap (λ (n : ℕ). if s.port == q then s.index else n) rest

pub has_before : (p m q : ℕ) (ss : List Standing) → HasPort q (gone_on p m ss) → HasPort q ss
has_before p m q [] has = absurd has
has_before p m q (s ∷ ss) has = by_test (s.port == p) (has_before p m q ss) has
  where
    after : Standing
    after = record { port = s.port; index = suc s.index; least = m }

    by_test : (b : Bool) → (HasPort q (gone_on p m ss) → HasPort q ss) → HasPort q (if b then after ∷ ss else s ∷ gone_on p m ss) → HasPort q (s ∷ ss)
    by_test true rest (inl same) = inl same
    by_test true rest (inr later) = inr later
    by_test false rest (inl same) = inl same
    by_test false rest (inr later) = inr (rest later)

-- what came leaves the ports that have a capture
pub ports_before : (a : Timeline) (d : Next) (b : Timeline) → IsOf a d b → (q : ℕ) → HasPort q (standings b.captures) → HasPort q (standings a.captures)
ports_before a (next.Command number moment) b (numbered, within, more, same) q has = subst (HasPort q) same has
ports_before a (next.Record c) b is q has = has_before c.port c.moment q (standings a.captures) (subst (HasPort q) is.0.gone has)

-- ---- the command of a number
pub command_is : (i : Input) (cs : List Timed) (k : ℕ) (c : Timed) → i.commands ≡ map given_by cs → slice_get cs k ≡ Some c → command_of (basis_of i) (suc k) ≡ Some c.command
command_is i cs k c given is =
    ap (λ (gs : List Given). slice_get (map (λ (g : Given). g.command) gs) k) given
    ∙ (slice_get-map (λ (g : Given). g.command) (map given_by cs) k ∙ ap (option_map (λ (g : Given). g.command)) (slice_get-map given_by cs k ∙ ap (option_map given_by) is))

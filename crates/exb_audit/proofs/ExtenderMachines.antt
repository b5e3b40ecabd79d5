-- All extenders: machines by number, and the loops that ask each of them.
use Rattle.std.proofs.Common.{◌≡◌, ℕ, zero, suc, ◌<◌, ◌≤◌, ◌&&◌, ◌||◌, nat_lt, not, Bool, true, false, List, [], ◌∷◌, length, refl, sym, ap, ◌∙◌, subst, arith, inl, inr}
use Rattle.std.specs.Prelude.{slice_index}
use Rattle.std.specs.Bool.{Decides}
use Rattle.std.proofs.lemmas.Bool.{cases_lt, and_parts, and_from, false≢true, ltb-true, lt-ltb}
use Rattle.exb_model.specs.Traces.{TraceLine}
use Rattle.exb_model.specs.Tree.{Shape, is_extender, on}
use Rattle.exb_trace_spec.specs.CheckerLaws.{Rule2IsDecided, Rule3IsDecided}
use Rattle.exb_trace_spec.specs.TraceChecker.{through, for_each, all_below, all_extenders, is_done, is_used_up, watch_line, start_2, step_2, verdict_2, link_line, Links, links_line, start_3, step_3, verdict_3}
use Rattle.exb_trace_spec.specs.Rules.{KeepsLinks}
use Rattle.exb_trace_spec.specs.Rule2Extenders.{FollowMachines}
use Rattle.exb_trace_spec.specs.Rule3Links.{place_of, upstream_of}
use Rattle.exb_audit.specs.Rule2Extenders.{done_at}
use Rattle.exb_audit.specs.Rule3Links.{used_up, both_used_up}

pub at_each : {S : Type 0} (step : ℕ → S → TraceLine → S) (s : ℕ → S) (lines : List TraceLine) (n : ℕ) → through (for_each step) s lines n ≡ through (step n) (s n) lines
at_each step s [] n = refl
at_each step s (l ∷ ls) n = at_each step (for_each step s l) ls n

-- ---- all below a number
below_all : (test : ℕ → Bool) (n : ℕ) → ((k : ℕ) → k < n → test k ≡ true) → all_below test n ≡ true
unfolding all_below
below_all test zero each = refl
below_all test (suc n) each = and_from (test n) (all_below test n) (each n (omega arith)) (below_all test n (λ k l. each k (omega arith)))

below_one : (test : ℕ → Bool) (n k : ℕ) → k < n → all_below test n ≡ true → test k ≡ true
unfolding all_below
below_one test zero k l e = absurd (omega arith)
below_one test (suc n) k l e =
    let p = and_parts (test n) (all_below test n) e in
    elim (cases_lt k n) [
      | inl low ↦ below_one test n k low p.1
      | inr high ↦ (let same : n ≡ k = omega arith in subst (λ m. test m ≡ true) same p.0)
    ]

not_or : (a b : Bool) → (a ≡ true → b ≡ true) → (not a || b) ≡ true
not_or true b h = h refl
not_or false b h = refl

or_not : (a b : Bool) → (not a || b) ≡ true → a ≡ true → b ≡ true
or_not true b h e = h
or_not false b h e = absurd (false≢true e)

all_pass : (t : Shape) (test : ℕ → Bool) → ((n : ℕ) → n < 65 → is_extender t n ≡ true → test n ≡ true) → all_extenders t test ≡ true
all_pass t test each = below_all (λ n. not (is_extender t n) || test n) 65 (λ n l. not_or (is_extender t n) (test n) (each n l))

one_passes : (t : Shape) (test : ℕ → Bool) (n : ℕ) → n < 65 → is_extender t n ≡ true → all_extenders t test ≡ true → test n ≡ true
one_passes t test n l there e = or_not (is_extender t n) (test n) (below_one (λ n. not (is_extender t n) || test n) 65 n l e) there

pub is_there : (t : Shape) (ports : List ℕ) (n : ℕ) → t.ports ≡ ports → 1 ≤ n → 0 < slice_index ports n → is_extender t n ≡ true
is_there t ports n e low some = and_from (nat_lt 0 n) (nat_lt 0 (slice_index t.ports n)) (lt-ltb 0 n low) (lt-ltb 0 (slice_index t.ports n) (subst (λ ps. 0 < slice_index ps n) (sym e) some))

there_has : (t : Shape) (n : ℕ) → is_extender t n ≡ true → (1 ≤ n) × (0 < slice_index t.ports n)
there_has t n e = (let p = and_parts (nat_lt 0 n) (nat_lt 0 (slice_index t.ports n)) e in (ltb-true 0 n p.0, ltb-true 0 (slice_index t.ports n) p.1))

-- ---- rule 2
-- those below a number that are there did what they should
abbrev pub AreDone : List ℕ → List TraceLine → ℕ → Type 0
AreDone ports lines m = (n : ℕ) → 1 ≤ n → n < m → 0 < slice_index ports n → done_at n (slice_index ports n) lines ≡ true

module _ (t : Shape) (ports : List ℕ) (e : t.ports ≡ ports) (lines : List TraceLine) (sized : length ports ≡ 65) (decided : Rule2IsDecided) where
  abbrev verdict : Bool
  verdict = verdict_2 t (through step_2 (start_2 t) lines)

  tells : Decides verdict (FollowMachines t lines)
  tells = decided t lines (ap length e ∙ sized)

  at_one : (n : ℕ) → is_done (through step_2 (start_2 t) lines n) ≡ done_at n (slice_index ports n) lines
  at_one n = ap is_done (at_each watch_line (start_2 t) lines n) ∙ ap (λ ps. done_at n (slice_index ps n) lines) e

  pub all_done : AreDone ports lines 65 → FollowMachines t lines
  all_done each =
      tells.0 (all_pass t (λ n. is_done (through step_2 (start_2 t) lines n)) (λ n l there. (let h = there_has t n there in at_one n ∙ each n h.0 l (subst (λ ps. 0 < slice_index ps n) e h.1))))

  pub not_done : (n : ℕ) → 1 ≤ n → n < 65 → 0 < slice_index ports n → done_at n (slice_index ports n) lines ≡ false → FollowMachines t lines → ⊥
  not_done n low l some bad follow =
      false≢true (sym bad ∙ sym (at_one n) ∙ one_passes t (λ n. is_done (through step_2 (start_2 t) lines n)) n l (is_there t ports n e low some) (tells.1 follow))

-- ---- rule 3
up_is : (t : Shape) (n : ℕ) (x : Links) (lines : List TraceLine) → (through (links_line t n) x lines).up ≡ through (link_line (upstream_of n) (place_of (on t n))) x.up lines
up_is t n x [] = refl
up_is t n x (l ∷ ls) = up_is t n (links_line t n x l) ls

down_is : (t : Shape) (n : ℕ) (x : Links) (lines : List TraceLine) → (through (links_line t n) x lines).down ≡ through (link_line (place_of (on t n)) (upstream_of n)) x.down lines
down_is t n x [] = refl
down_is t n x (l ∷ ls) = down_is t n (links_line t n x l) ls

abbrev pub AreCarried : List ℕ → List ℕ → List TraceLine → ℕ → Type 0
AreCarried ports hanging lines m = (n : ℕ) → 1 ≤ n → n < m → 0 < slice_index ports n → both_used_up n (slice_index hanging n) lines ≡ true

module _ (t : Shape) (ports hanging : List ℕ) (e : t.ports ≡ ports) (h : t.on ≡ hanging) (lines : List TraceLine) (sized : length ports ≡ 65) (decided : Rule3IsDecided) where
  abbrev verdict_of : Bool
  verdict_of = verdict_3 t (through (step_3 t) start_3 lines)

  tells_links : Decides verdict_of (KeepsLinks t lines)
  tells_links = decided t lines (ap length e ∙ sized)

  abbrev both_at : ℕ → Bool
  both_at n = is_used_up (through (step_3 t) start_3 lines n).up.waiting && is_used_up (through (step_3 t) start_3 lines n).down.waiting

  at_link : (n : ℕ) → both_at n ≡ both_used_up n (slice_index hanging n) lines
  at_link n =
      ap (λ x. is_used_up x.up.waiting && is_used_up x.down.waiting) (at_each (links_line t) start_3 lines n)
      ∙ ap (λ x. is_used_up x.waiting && is_used_up (through (links_line t n) (start_3 n) lines).down.waiting) (up_is t n (start_3 n) lines)
      ∙ ap (λ x. used_up (upstream_of n) (place_of (on t n)) lines && is_used_up x.waiting) (down_is t n (start_3 n) lines)
      ∙ ap (λ ps. both_used_up n (slice_index ps n) lines) h

  pub all_carried : AreCarried ports hanging lines 65 → KeepsLinks t lines
  all_carried each =
      tells_links.0 (all_pass t both_at (λ n l there. (let k = there_has t n there in at_link n ∙ each n k.0 l (subst (λ ps. 0 < slice_index ps n) e k.1))))

  pub not_carried : (n : ℕ) → 1 ≤ n → n < 65 → 0 < slice_index ports n → both_used_up n (slice_index hanging n) lines ≡ false → KeepsLinks t lines → ⊥
  not_carried n low l some bad keeps =
      false≢true (sym bad ∙ sym (at_link n) ∙ one_passes t both_at n l (is_there t ports n e low some) (tells_links.1 keeps))

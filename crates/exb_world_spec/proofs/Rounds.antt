-- Rounds are made of steps; and the test of a settled world.
use Rattle.std.proofs.Common.{◌≡◌, ℕ, zero, suc, ◌+◌, ◌<◌, ◌≤◌, ◌&&◌, ◌++◌, Bool, true, false, cond, List, [], ◌∷◌, Option, Some, None, append_assoc, append-nil, refl, ap, sym, ◌∙◌, subst, arith, inl, inr}
use Rattle.std.specs.List.{range_with_len}
use Rattle.std.specs.Prelude.{is_none}
use Rattle.std.proofs.lemmas.Bool.{cases_Bool, cases_eq, and_parts, and_from, ltb-true, false≢true}
use Rattle.exb_model.specs.declared.event.Event.{Event}
use Rattle.exb_model.specs.declared.setup.Verdict.{Verdict}
use Rattle.exb_model.specs.declared.setup.Verdict.TheVariants as verdict
use Rattle.exb_model.specs.Tree.{Shape, is_extender}
use Rattle.exb_model.specs.Setup.{Limits}
use Rattle.exb_model.proofs.TreeTrunks.{extender-low}
use Rattle.exb_link.specs.declared.link_frame.LinkFrame.{LinkFrame}
use Rattle.exb_link.specs.LinkFrames.{is_control}
use Rattle.exb_world_spec.specs.Worlds.{World, Way, Step, Carry, Beat, Left, Line}
use Rattle.exb_world_spec.specs.Steps.{Stepped, stepped, words_on, all_extenders}
use Rattle.exb_world_spec.specs.AllowedSteps.{IsSettled}
use Rattle.exb_world_spec.specs.Settling.{first_verdict, after_first, steps_for, next_place, before, gone_through, is_empty, are_all, is_idle, is_idle_at, is_settled, nothing, followed_by, run, Direction, directions, goes_through, through_all, round, settled_within}
use Rattle.exb_world_spec.specs.Runs.SessionLaws.{IsMove, IsRun, RoundsAreSteps, SettledExactly}
use Rattle.exb_world_spec.specs.Runs.Sessions.{Each}
use Rattle.exb_world_spec.proofs.LinkFrames.{each_append}

-- ---- runs one after another
then_nothing : (a : Stepped) → followed_by a (nothing a.world) ≡ a
then_nothing a =
    ap (λ (x : List Event). record { world = a.world; events = x; passed = a.passed ++ []; left = a.left ++ []; lines = a.lines ++ [] }) (append-nil a.events)
    ∙ ap (λ (x : List Bool). record { world = a.world; events = a.events; passed = x; left = a.left ++ []; lines = a.lines ++ [] }) (append-nil a.passed)
    ∙ ap (λ (x : List Left). record { world = a.world; events = a.events; passed = a.passed; left = x; lines = a.lines ++ [] }) (append-nil a.left)
    ∙ ap (λ (x : List Line). record { world = a.world; events = a.events; passed = a.passed; left = a.left; lines = x }) (append-nil a.lines)

then_then : (a b c : Stepped) → followed_by (followed_by a b) c ≡ followed_by a (followed_by b c)
then_then a b c = simp append_assoc

-- the steps of a round in one direction
for_moves : (n : ℕ) (way : Way) (k : ℕ) (v : Verdict) → Each IsMove (steps_for n way k v)
for_moves n way k verdict.Pass = (tt, tt)
for_moves n way k verdict.Lose = (tt, tt)
for_moves n way k verdict.Twice = (tt, tt)
for_moves n way k verdict.Later = tt

gone_moves : (n : ℕ) (way : Way) (k : ℕ) (xs : List LinkFrame) (vs : List Verdict) → Each IsMove (gone_through n way k xs vs).steps
unfolding gone_through
gone_moves n way k [] vs = tt
gone_moves n way k (x ∷ xs) vs =
    by_flag (is_control x) (gone_moves n way (next_place k (first_verdict vs)) xs (after_first vs)) (gone_moves n way k xs vs)
  where
    by_flag : (b : Bool) → Each IsMove (gone_through n way (next_place k (first_verdict vs)) xs (after_first vs)).steps → Each IsMove (gone_through n way k xs vs).steps →
        Each IsMove (cond b (before (steps_for n way k (first_verdict vs)) (gone_through n way (next_place k (first_verdict vs)) xs (after_first vs))) (before (Carry n way ∷ []) (gone_through n way k xs vs))).steps
    by_flag true a b = each_append IsMove (steps_for n way k (first_verdict vs)) (gone_through n way (next_place k (first_verdict vs)) xs (after_first vs)).steps (for_moves n way k (first_verdict vs)) a
    by_flag false a b = (tt, b)

module _ (t : Shape) (l : Limits) where
  one_step : (step : Step) (w : World) → run t l (step ∷ []) w ≡ stepped t l step w
  unfolding run
  one_step step w = then_nothing (stepped t l step w)

  pub run_then : (xs ys : List Step) (w : World) → run t l (xs ++ ys) w ≡ followed_by (run t l xs w) (run t l ys (run t l xs w).world)
  unfolding run
  run_then [] ys w = refl
  run_then (x ∷ xs) ys w =
      let v : World = (stepped t l x w).world in
      ap (λ (z : Stepped). followed_by (stepped t l x w) z) (run_then xs ys v)
      ∙ sym (then_then (stepped t l x w) (run t l xs v) (run t l ys (run t l xs v).world))

  joined : (w : World) (a b : Stepped) → IsRun t l w a → IsRun t l a.world b → IsRun t l w (followed_by a b)
  joined w a b x y =
      let R : Stepped → Type 0 = λ z. IsRun t l z.world b → IsRun t l w (followed_by z b) in
      subst R (sym x.is) (λ k. record { steps = x.steps ++ k.steps; is = ap (followed_by (run t l x.steps w)) k.is ∙ sym (run_then x.steps k.steps w); moves = each_append IsMove x.steps k.steps x.moves k.moves }) y

  none_run : (w : World) → IsRun t l w (nothing w)
  unfolding run
  none_run w = record { steps = []; is = refl; moves = tt }

  through_run : (ds : List Direction) (w : World) (vs : List Verdict) → IsRun t l w (through_all t l ds w vs).done
  unfolding through_all
  through_run [] w vs = none_run w
  through_run (d ∷ ds) w vs =
      let a : Stepped = run t l (goes_through d w vs).steps w in
      joined w a (through_all t l ds a.world (goes_through d w vs).verdicts).done (record { steps = (goes_through d w vs).steps; is = refl; moves = gone_moves d.link d.way 0 (words_on d.link d.way w) vs }) (through_run ds a.world (goes_through d w vs).verdicts)

  round_run : (w : World) (vs : List Verdict) → IsRun t l w (round t l w vs).done
  unfolding round
  round_run w vs =
      let a : Stepped = (through_all t l (directions t) w vs).done in
      joined w a (stepped t l Beat a.world) (through_run (directions t) w vs) (record { steps = Beat ∷ []; is = sym (one_step Beat a.world); moves = (tt, tt) })

  settles_run : (n : ℕ) (w : World) (vs : List Verdict) → IsRun t l w (settled_within t l n w vs).done
  unfolding settled_within
  settles_run zero w vs = none_run w
  settles_run (suc n) w vs =
      let a : Stepped = (round t l w vs).done in
      elim (cases_Bool (is_settled t w)) [
        | inl e ↦ rw e (none_run w)
        | inr e ↦ rw e (joined w a (settled_within t l n a.world (round t l w vs).verdicts).done (round_run w vs) (settles_run n a.world (round t l w vs).verdicts))
      ]

pub rounds_are_steps : RoundsAreSteps
rounds_are_steps t l w vs = (round_run t l w vs, λ n. settles_run t l n w vs)

-- ---- the test
empty_is : {A : Type 0} (xs : List A) → is_empty xs ≡ true → xs ≡ []
empty_is [] e = refl
empty_is (x ∷ xs) e = absurd (false≢true e)

empty_from : {A : Type 0} (xs : List A) → xs ≡ [] → is_empty xs ≡ true
empty_from xs e = ap is_empty e

none_is : {A : Type 0} (o : Option A) → is_none o ≡ true → o ≡ None
none_is None e = refl
none_is (Some x) e = absurd (false≢true e)

all_from : (test : ℕ → Bool) (a n : ℕ) → ((k : ℕ) → a ≤ k → k < a + n → test k ≡ true) → are_all test (range_with_len a n) ≡ true
all_from test a zero each = refl
all_from test a (suc n) each = and_from (test a) (are_all test (range_with_len (a + 1) n)) (each a (omega arith) (omega arith)) (all_from test (a + 1) n (λ k low high. each k (omega arith) (omega arith)))

all_are : (test : ℕ → Bool) (a n k : ℕ) → are_all test (range_with_len a n) ≡ true → a ≤ k → k < a + n → test k ≡ true
all_are test a zero k all low high = absurd (omega arith)
all_are test a (suc n) k all low high =
    let p = and_parts (test a) (are_all test (range_with_len (a + 1) n)) all in
    elim (cases_eq k a) [ inl e ↦ ap test e ∙ p.0 | inr ne ↦ all_are test (a + 1) n k p.1 (omega arith) (omega arith) ]

pub settled_exactly : SettledExactly
unfolding is_settled
settled_exactly t w tree = (there, back)
  where
    idle_of : is_settled t w ≡ true → (n : ℕ) → is_extender t n ≡ true → is_idle w n ≡ true
    idle_of e n k =
        let p = and_parts (is_empty w.control.queue) (is_none w.control.work && are_all (is_idle_at t w) all_extenders) e in
        let q = and_parts (is_none w.control.work) (are_all (is_idle_at t w) all_extenders) p.1 in
        let low : n < 65 = extender-low t tree n k in
        let some = and_parts _ _ k in
        let mine : is_idle_at t w n ≡ true = all_are (is_idle_at t w) 1 64 n q.1 (ltb-true 0 n some.0) (omega arith) in
        rw k at mine

    there : is_settled t w ≡ true → IsSettled t w
    there e =
        let p = and_parts (is_empty w.control.queue) (is_none w.control.work && are_all (is_idle_at t w) all_extenders) e in
        let q = and_parts (is_none w.control.work) (are_all (is_idle_at t w) all_extenders) p.1 in
        record {
          queue = empty_is w.control.queue p.0;
          work = none_is w.control.work q.0;
          near = λ n k. none_is (w.near n).sending (and_parts (is_none (w.near n).sending) _ (idle_of e n k)).0;
          far = λ n k. none_is (w.far n).ecp.sending (and_parts (is_none (w.far n).ecp.sending) _ (and_parts (is_none (w.near n).sending) _ (idle_of e n k)).1).0;
          down = λ n k. empty_is (w.down n) (and_parts (is_empty (w.down n)) (is_empty (w.up n)) (and_parts (is_none (w.far n).ecp.sending) _ (and_parts (is_none (w.near n).sending) _ (idle_of e n k)).1).1).0;
          up = λ n k. empty_is (w.up n) (and_parts (is_empty (w.down n)) (is_empty (w.up n)) (and_parts (is_none (w.far n).ecp.sending) _ (and_parts (is_none (w.near n).sending) _ (idle_of e n k)).1).1).1;
        }

    back : IsSettled t w → is_settled t w ≡ true
    back s =
        and_from (is_empty w.control.queue) _ (empty_from w.control.queue s.queue)
        (and_from (is_none w.control.work) _ (ap is_none s.work) (all_from (is_idle_at t w) 1 64 (λ k low high. idle_at k)))
      where
        idle_at : (n : ℕ) → is_idle_at t w n ≡ true
        idle_at n =
            elim (cases_Bool (is_extender t n)) [
              | inr e ↦ rw e refl
              | inl e ↦ rw e (
                  and_from (is_none (w.near n).sending) _ (ap is_none (s.near n e))
                  (and_from (is_none (w.far n).ecp.sending) _ (ap is_none (s.far n e)) (and_from (is_empty (w.down n)) (is_empty (w.up n)) (empty_from (w.down n) (s.down n e)) (empty_from (w.up n) (s.up n e)))))
            ]

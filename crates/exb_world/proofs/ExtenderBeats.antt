-- A beat at all extenders: it may pass at those that rest at once, before it passes at the others by number.
use Rattle.std.proofs.Common.{◌≡◌, ◌≢◌, ℕ, zero, suc, ◌+◌, ◌<◌, ◌≤◌, ◌&&◌, Bool, true, false, not, List, [], ◌∷◌, None, refl, ap, sym, ◌∙◌, arith, inl, inr, eq-eqb, nat_lt}
use Rattle.std.specs.Prelude.{if◌then◌else◌, Option, Some}
use Rattle.std.specs.List.{range_with_len}
use Rattle.std.proofs.lemmas.Bool.{cases_eq, cases_lt, cases_Bool, ne_eqb, lt-ltb, le-ltb, ltb-true, and_parts}
use mathlib.Core.Path.{fun_ext}
use Rattle.exb_model.specs.Tree.{Shape, IsTree, is_extender}
use Rattle.exb_model.proofs.TreeTrunks.{extender-low}
use Rattle.exb_csp.specs.AllTables.{port_of}
use Rattle.exb_extender.specs.declared.sends.Side.{Side}
use Rattle.exb_extender.specs.declared.sends.Side.TheVariants as side
use Rattle.exb_extender.specs.Forwarding.{Sent}
use Rattle.exb_extender.specs.Machine.{ExtenderState, Beats, beats}
use Rattle.exb_extender.specs.IdleExtender.{rests}
use Rattle.exb_extender.proofs.IdleLemmas.{beat_silent}
use Rattle.exb_link.specs.declared.link_frame.Stamp.{Stamp}
use Rattle.exb_world_spec.specs.Effects.{Effect, only, joined, then_do, each}
use Rattle.exb_world_spec.specs.ExtenderSteps.{hung_on, reacts, sends, sent_at, sent_to}
use Rattle.exb_world_spec.specs.Steps.{all_extenders, if_there}
use Rattle.exb_world_spec.specs.Worlds.{World, with_far}
use Rattle.exb_model.specs.Tables.{at}
use Rattle.exb_extender.specs.Extenders.{if_rests}

-- a beat at an extender, where there is one of that number
abbrev pub beats_at : Shape → ℕ → World → Effect
beats_at t = if_there t (λ n. reacts t n None Beats)

-- the same, unless it is one that rests
abbrev pub wakes_at : Shape → (ℕ → Bool) → ℕ → World → Effect
wakes_at t resting n w = if resting n then only w else beats_at t n w

-- ---- extenders at which nothing is done have another state
module _ (t : Shape) (others : ℕ → Bool) (v : ℕ → ExtenderState) where
  abbrev changed : World → World
  changed w = record w { far = λ k. if others k then v k else w.far k }

  abbrev changes : Effect → Effect
  changes e = record e { world = changed e.world }

  sent_past : (n k : ℕ) (hung : Option ℕ) (stamp : Option Stamp) (bytes : List ℕ) (w : World) → sent_at n k hung stamp bytes (changed w) ≡ changes (sent_at n k hung stamp bytes w)
  sent_past n k None stamp bytes w = refl
  sent_past n k (Some m) stamp bytes w = refl

  side_past : (n : ℕ) (stamp : Option Stamp) (to : Side) (bytes : List ℕ) (w : World) → sent_to t n stamp to bytes (changed w) ≡ changes (sent_to t n stamp to bytes w)
  side_past n stamp side.Up bytes w = refl
  side_past n stamp (side.Port k) bytes w = sent_past n k (hung_on t (port_of n k)) stamp bytes w

  all_past : (n : ℕ) (stamp : Option Stamp) (xs : List Sent) (w : World) → each (sends t n stamp) xs (changed w) ≡ changes (each (sends t n stamp) xs w)
  all_past n stamp [] w = refl
  all_past n stamp (x ∷ xs) w =
      ap (λ (e : Effect). then_do e (each (sends t n stamp) xs)) (side_past n stamp x.side x.bytes w)
      ∙ ap (joined (changes (sends t n stamp x w))) (all_past n stamp xs (sends t n stamp x w).world)

  far_past : (n : ℕ) (s : ExtenderState) (w : World) → others n ≡ false → with_far n s (changed w) ≡ changed (with_far n s w)
  far_past n s w this = ap (λ (f : ℕ → ExtenderState). record w { far = f }) (fun_ext (λ k. by_place k))
    where
      by_place : (k : ℕ) → at n s (λ m. if others m then v m else w.far m) k ≡ (if others k then v k else at n s w.far k)
      by_place k =
          elim (cases_eq k n) [
            | inl e ↦ rw (e, eq-eqb n n refl, this) refl
            | inr ne ↦ rw (ne_eqb k n ne) refl
          ]

  react_past : (n : ℕ) (w : World) → others n ≡ false → reacts t n None Beats (changed w) ≡ changes (reacts t n None Beats w)
  react_past n w this =
      let here : (if others n then v n else w.far n) ≡ w.far n = rw this refl in
      let s = w.far n in
      ap (λ (x : ExtenderState). each (sends t n None) (beats x).1 (with_far n (beats x).0 (changed w))) here
      ∙ ap (each (sends t n None) (beats s).1) (far_past n (beats s).0 w this)
      ∙ all_past n None (beats s).1 (with_far n (beats s).0 w)

  beat_past : (n : ℕ) (w : World) → others n ≡ false → beats_at t n (changed w) ≡ changes (beats_at t n w)
  beat_past n w this = by_test (is_extender t n)
    where
      by_test : (b : Bool) → (if b then reacts t n None Beats (changed w) else only (changed w)) ≡ changes (if b then reacts t n None Beats w else only w)
      by_test true = react_past n w this
      by_test false = refl

-- ---- a beat at one changes the state of no other
module _ (t : Shape) where
  sent_far : (n k : ℕ) (hung : Option ℕ) (stamp : Option Stamp) (bytes : List ℕ) (w : World) → (sent_at n k hung stamp bytes w).world.far ≡ w.far
  sent_far n k None stamp bytes w = refl
  sent_far n k (Some m) stamp bytes w = refl

  side_far : (n : ℕ) (stamp : Option Stamp) (to : Side) (bytes : List ℕ) (w : World) → (sent_to t n stamp to bytes w).world.far ≡ w.far
  side_far n stamp side.Up bytes w = refl
  side_far n stamp (side.Port k) bytes w = sent_far n k (hung_on t (port_of n k)) stamp bytes w

  all_far : (n : ℕ) (stamp : Option Stamp) (xs : List Sent) (w : World) → (each (sends t n stamp) xs w).world.far ≡ w.far
  all_far n stamp [] w = refl
  all_far n stamp (x ∷ xs) w = all_far n stamp xs (sends t n stamp x w).world ∙ side_far n stamp x.side x.bytes w

  other_far : (n k : ℕ) (w : World) → k ≢ n → (beats_at t n w).world.far k ≡ w.far k
  other_far n k w other = by_test (is_extender t n)
    where
      by_test : (b : Bool) → (if b then reacts t n None Beats w else only w).world.far k ≡ w.far k
      by_test true =
          ap (λ (f : ℕ → ExtenderState). f k) (all_far n None (beats (w.far n)).1 (with_far n (beats (w.far n)).0 w))
          ∙ rw (ne_eqb k n other) refl
      by_test false = refl

-- ---- those that rest go first
module _ (t : Shape) (resting : ℕ → Bool) (v : ℕ → ExtenderState) (there : (k : ℕ) → resting k ≡ true → is_extender t k ≡ true) where
  -- of those from a number on that rest: what a beat makes of each, which sends nothing
  abbrev AreQuiet : ℕ → World → Type 0
  AreQuiet a w = (k : ℕ) → resting k ≡ true → a ≤ k → ((beats (w.far k)).0 ≡ v k) × ((beats (w.far k)).1 ≡ [])

  abbrev from_on : ℕ → ℕ → Bool
  from_on a k = resting k && not (nat_lt k a)

  abbrev ahead : ℕ → World → World
  ahead a w = changed t (from_on a) v w

  -- one that rests has its beat
  rest_beats : (a : ℕ) (w : World) → resting a ≡ true → AreQuiet a w → beats_at t a w ≡ only (with_far a (v a) w)
  rest_beats a w rest quiet =
      let q = quiet a rest (omega arith) in
      rw (there a rest, q.0, q.1) refl

  same_side : (a k : ℕ) → k ≢ a → nat_lt k (a + 1) ≡ nat_lt k a
  same_side a k ne =
      elim (cases_lt k a) [
        | inl l ↦ lt-ltb k (a + 1) (omega arith) ∙ sym (lt-ltb k a l)
        | inr g ↦ le-ltb k (a + 1) (omega (arith, g, ne)) ∙ sym (le-ltb k a g)
      ]

  beaten_ahead : (a : ℕ) (w : World) → resting a ≡ true → ahead (a + 1) (with_far a (v a) w) ≡ ahead a w
  beaten_ahead a w rest = ap (λ (f : ℕ → ExtenderState). record w { far = f }) (fun_ext (λ k. by_place k))
    where
      by_place : (k : ℕ) → (if from_on (a + 1) k then v k else at a (v a) w.far k) ≡ (if from_on a k then v k else w.far k)
      by_place k =
          elim (cases_eq k a) [
            | inl e ↦ rw (e, eq-eqb a a refl, rest, lt-ltb a (a + 1) (omega arith), le-ltb a a (omega arith)) refl
            | inr ne ↦ rw (ne_eqb k a ne, same_side a k ne) refl
          ]

  woken_ahead : (a : ℕ) (w : World) → resting a ≡ false → ahead a w ≡ ahead (a + 1) w
  woken_ahead a w awake = ap (λ (f : ℕ → ExtenderState). record w { far = f }) (fun_ext (λ k. by_place k))
    where
      by_place : (k : ℕ) → (if from_on a k then v k else w.far k) ≡ (if from_on (a + 1) k then v k else w.far k)
      by_place k =
          elim (cases_eq k a) [
            | inl e ↦ rw (e, awake) refl
            | inr ne ↦ rw (same_side a k ne) refl
          ]

  none_ahead : (a : ℕ) (w : World) → ((k : ℕ) → resting k ≡ true → k < a) → ahead a w ≡ w
  none_ahead a w low = ap (λ (f : ℕ → ExtenderState). record w { far = f }) (fun_ext (λ k. by_test k))
    where
      by_test : (k : ℕ) → (if from_on a k then v k else w.far k) ≡ w.far k
      by_test k =
          elim (cases_Bool (resting k)) [
            | inl e ↦ rw (e, lt-ltb k a (low k e)) refl
            | inr e ↦ rw e refl
          ]

  pub all_ahead : (d a : ℕ) (w : World) → AreQuiet a w → ((k : ℕ) → resting k ≡ true → k < a + d) →
      each (wakes_at t resting) (range_with_len a d) (ahead a w) ≡ each (beats_at t) (range_with_len a d) w
  all_ahead zero a w quiet low = ap only (none_ahead a w (λ k rest. let l = low k rest in omega (arith, l)))
  all_ahead (suc d) a w quiet low =
      elim (cases_Bool (resting a)) [
        | inl rest ↦
            let next = with_far a (v a) w in
            let behind = all_ahead d (a + 1) next (λ k r high. rw (ne_eqb k a (λ e. absurd (omega (arith, e, high)))) (quiet k r (omega (arith, high)))) (λ k r. let l = low k r in omega (arith, l)) in
            ap (λ (b : Bool). then_do (if b then only (ahead a w) else beats_at t a (ahead a w)) (each (wakes_at t resting) (range_with_len (a + 1) d))) rest
            ∙ ap (each (wakes_at t resting) (range_with_len (a + 1) d)) (sym (beaten_ahead a w rest))
            ∙ behind
            ∙ ap (λ (e : Effect). then_do e (each (beats_at t) (range_with_len (a + 1) d))) (sym (rest_beats a w rest quiet))
        | inr awake ↦
            let e = beats_at t a w in
            let past : beats_at t a (ahead a w) ≡ changes t (from_on (a + 1)) v e =
            ap (beats_at t a) (woken_ahead a w awake) ∙ beat_past t (from_on (a + 1)) v a w (rw awake refl) in
            let behind = all_ahead d (a + 1) e.world (still a w quiet awake) (λ k r. let l = low k r in omega (arith, l)) in
            ap (λ (b : Bool). then_do (if b then only (ahead a w) else beats_at t a (ahead a w)) (each (wakes_at t resting) (range_with_len (a + 1) d))) awake
            ∙ ap (λ (x : Effect). then_do x (each (wakes_at t resting) (range_with_len (a + 1) d))) past
            ∙ ap (joined e) behind
      ]
    where
      still : (a : ℕ) (w : World) → AreQuiet a w → resting a ≡ false → AreQuiet (a + 1) (beats_at t a w).world
      still a w quiet awake = λ k r high.
          rw (other_far t a k w (λ e. absurd (omega (arith, e, high)))) (quiet k r (omega (arith, high)))

-- ---- all extenders
abbrev pub resting_in : World → ℕ → Bool
resting_in w k = rests (w.far k)

-- a beat has passed at those that rest
abbrev pub rested_world : World → World
rested_world w = record w { far = λ k. if_rests (w.far k) }

pub rest_first : (t : Shape) (w : World) → IsTree t → ((k : ℕ) → resting_in w k ≡ true → is_extender t k ≡ true) →
    each (wakes_at t (resting_in w)) all_extenders (rested_world w) ≡ each (beats_at t) all_extenders w
rest_first t w tree there =
    let v : ℕ → ExtenderState = λ k. (beats (w.far k)).0 in
    ap (each (wakes_at t (resting_in w)) all_extenders) (ap (λ (f : ℕ → ExtenderState). record w { far = f }) (fun_ext (λ k. all_first k)))
    ∙ all_ahead t (resting_in w) v there 64 1 w (λ k rest high. (refl, beat_silent (w.far k) rest)) (λ k rest. let low = extender-low t tree k (there k rest) in omega (arith, low))
  where
    all_first : (k : ℕ) → if_rests (w.far k) ≡ (if resting_in w k && not (nat_lt k 1) then (beats (w.far k)).0 else w.far k)
    all_first k =
        elim (cases_Bool (resting_in w k)) [
          | inl e ↦ let some = ltb-true 0 k (and_parts (nat_lt 0 k) _ (there k e)).0 in rw (e, le-ltb k 1 (omega (arith, some))) refl
          | inr e ↦ rw e refl
        ]

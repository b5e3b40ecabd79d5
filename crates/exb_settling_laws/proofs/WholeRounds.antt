-- So it is for a round: all directions are gone through, and a beat passes.
use Rattle.std.proofs.Common.{◌≡◌, ℕ, zero, suc, ◌==◌, Bool, true, false, List, [], ◌∷◌, ◌++◌, append-nil, map, Option, Some, None, refl, ap, sym, ◌∙◌, subst, arith, inl, inr}
use Rattle.std.specs.Prelude.{⊤}
use Rattle.std.proofs.lemmas.Bool.{eqb-true, or_cases, or_left, or_right}
use Rattle.std.proofs.lemmas.List.Folds.{list_any-append}
use Rattle.exb_model.specs.declared.event.Event.{Event}
use Rattle.exb_model.specs.declared.setup.Verdict.{Verdict}
use Rattle.exb_model.specs.Setup.{Limits}
use Rattle.exb_model.specs.Tree.{Shape, IsTree, HangsOn, on, is_extender, level, levels, by_depth}
use Rattle.exb_model.proofs.TreeOrder.{listed, listed_levels}
use Rattle.exb_model.proofs.TreeWays.{number_at_most}
use Rattle.exb_ecp.specs.declared.stop_and_wait.Beat.{Beat as Due}
use Rattle.exb_ecp.specs.declared.stop_and_wait.Beat.TheVariants as due
use Rattle.exb_ecp.specs.StopAndWait.{Sending, beaten, beat_of}
use Rattle.exb_extender.specs.Machine.{Beats}
use Rattle.exb_link.specs.declared.link_frame.LinkFrame.{LinkFrame}
use Rattle.exb_control_spec.specs.Machine.{beats}
use Rattle.exb_world_spec.specs.Effects.{Effect, only, then_do, each}
use Rattle.exb_world_spec.specs.ExtenderSteps.{reacts}
use Rattle.exb_world_spec.specs.ControlFrames.{bridge_request, sends_again, beats_near, beats_control}
use Rattle.exb_world_spec.specs.Settling.{Direction, direction, directions, deepest_first, followed_by, nothing, run, round, through_all}
use Rattle.exb_world_spec.specs.Steps.{Stepped, stepped, words_on, if_there, all_extenders, beats_all}
use Rattle.exb_world_spec.specs.Worlds.{World, Way, Up, Down, Beat, Left, Line, with_near, next_beat}
use Rattle.exb_world_spec.specs.Runs.Sessions.{Each}
use Rattle.exb_world_spec.proofs.Rounds.{run_then}
use Rattle.exb_world_spec.proofs.Trunks.{hangs_there}
use Rattle.exb_settling_laws.specs.Rounds.{IsWhole, RoundsAreWhole}
use Rattle.exb_settling_laws.proofs.LinkGrowth.{Grows, Any, none_grows, grows_then, each_grows, same_links, to_extender_grows, moves_grows, reacts_grows, either}
use Rattle.exb_settling_laws.proofs.RoundSteps.{AllControl}
use Rattle.exb_settling_laws.proofs.SessionRounds.{depth_few}
use Rattle.exb_settling_laws.proofs.AgeingAndBeats.{beat_is_counted}
use Rattle.exb_settling_laws.proofs.Streams.{depth_some}
use Rattle.exb_settling_laws.proofs.WholeDirections.{AreGone, HasIn, all_gone, goes_same, goes_then, lost_then, moves_before}

-- ---- a beat puts words behind those that stand
module _ (t : Shape) (l : Limits) where
  any_word : (m : ℕ) (x : LinkFrame) → Any m x
  any_word m x = tt

  near_grows : (n : ℕ) (w : World) → Grows t l Any Any w (beats_near t n w).world
  near_grows n w = by_due (beat_of (w.near n).sending) (w.near n).sending
    where
      by_due : (d : Due) (o : Option Sending) → Grows t l Any Any w (sends_again t n d o (with_near n (beaten (w.near n)) w)).world
      by_due due.SendAgain (Some x) =
          grows_then t l Any Any w (with_near n (beaten (w.near n)) w) (sends_again t n due.SendAgain (Some x) (with_near n (beaten (w.near n)) w)).world (same_links t l Any Any w (with_near n (beaten (w.near n)) w) refl refl)
          (to_extender_grows t l Any Any any_word n (bridge_request x.sequence x.payload) (with_near n (beaten (w.near n)) w))
      by_due due.SendAgain None = same_links t l Any Any w (with_near n (beaten (w.near n)) w) refl refl
      by_due due.Nothing o = same_links t l Any Any w (with_near n (beaten (w.near n)) w) refl refl
      by_due due.GaveUp o = same_links t l Any Any w (with_near n (beaten (w.near n)) w) refl refl

  every : (ns : List ℕ) → Each (λ (n : ℕ). ⊤) ns
  every [] = tt
  every (n ∷ ns) = (tt, every ns)

  there_grows : (f : ℕ → World → Effect) → ((n : ℕ) (v : World) → Grows t l Any Any v (f n v).world) → (ns : List ℕ) (w : World) → Grows t l Any Any w (each (if_there t f) ns w).world
  there_grows f all ns w =
      each_grows t l Any Any (λ (n : ℕ). ⊤) (if_there t f) ns w (λ n v h. either t l Any Any any_word (is_extender t n) (f n v) (only v) v (all n v) (none_grows t l Any Any v)) (every ns)

  all_grows : (w : World) → Grows t l Any Any w (beats_all t w).world
  unfolding beats_all
  all_grows w =
      let w0 : World = record w { beats = next_beat w.beats } in
      let nears : Effect = each (if_there t (beats_near t)) all_extenders w0 in
      let mid : Effect = then_do nears (beats_control t) in
      grows_then t l Any Any w w0 (beats_all t w).world (same_links t l Any Any w w0 refl refl)
      (grows_then t l Any Any w0 mid.world (beats_all t w).world
      (grows_then t l Any Any w0 nears.world mid.world (there_grows (beats_near t) near_grows all_extenders w0) (moves_grows t l Any Any any_word (beats nears.world.control) nears.world))
      (there_grows (λ n. reacts t n None Beats) (λ n v. reacts_grows t l n None Beats v) all_extenders mid.world))

  beat_grows : (w : World) → Grows t l Any Any w (stepped t l Beat w).world
  unfolding stepped
  beat_grows w = all_grows w

-- ---- each extender's directions are gone through
listed_back : (n : ℕ) (xs ys : List ℕ) → listed n (xs ++ ys) ≡ true → listed n (ys ++ xs) ≡ true
listed_back n xs ys h =
    list_any-append (λ (x : ℕ). x == n) ys xs
    ∙ (elim (or_cases (listed n xs) (listed n ys) (sym (list_any-append (λ (x : ℕ). x == n) xs ys) ∙ h)) [ inl e ↦ or_right (listed n ys) (listed n xs) e | inr e ↦ or_left (listed n ys) (listed n xs) e ])

listed_deepest : (t : Shape) (n d : ℕ) → listed n (levels t d) ≡ true → listed n (deepest_first t d) ≡ true
unfolding levels deepest_first
listed_deepest t n zero h = h
listed_deepest t n (suc d) h =
    let split = listed_back n (levels t d) (level t (suc d) 64) h in
    let parts = sym (list_any-append (λ (x : ℕ). x == n) (level t (suc d) 64) (levels t d)) ∙ split in
    list_any-append (λ (x : ℕ). x == n) (level t (suc d) 64) (deepest_first t d)
    ∙ (elim (or_cases (listed n (level t (suc d) 64)) (listed n (levels t d)) parts) [
      | inl e ↦ or_left (listed n (level t (suc d) 64)) (listed n (deepest_first t d)) e
      | inr e ↦ or_right (listed n (level t (suc d) 64)) (listed n (deepest_first t d)) (listed_deepest t n d e)
    ])

each_left : {A : Type 0} (P : A → Type 0) (xs ys : List A) → Each P (xs ++ ys) → Each P xs × Each P ys
each_left P [] ys all = (tt, all)
each_left P (x ∷ xs) ys all = (let r = each_left P xs ys all.1 in ((all.0, r.0), r.1))

at_listed : (P : Direction → Type 0) (way : Way) (n : ℕ) (ns : List ℕ) → Each P (map (direction way) ns) → listed n ns ≡ true → P (direction way n)
at_listed P way n [] all h = absurd (no h)
  where
    no : false ≡ true → ⊥
    no z = cc
at_listed P way n (m ∷ ns) all h =
    elim (or_cases (m == n) (listed n ns) h) [
      | inl e ↦ subst (λ (k : ℕ). P (direction way k)) (eqb-true m n e) all.0
      | inr e ↦ at_listed P way n ns all.1 e
    ]

in_levels : (t : Shape) → IsTree t → (n : ℕ) → is_extender t n ≡ true → listed n (levels t 64) ≡ true
in_levels t tree n there =
    let h : HangsOn t n (on t n) = hangs_there t n there in
    listed_levels t 64 n h.extender (number_at_most t tree n (on t n) h) (depth_some t n) (depth_few t tree n there) h.there

at_direction : (t : Shape) → IsTree t → (P : Direction → Type 0) → Each P (directions t) → (n : ℕ) (way : Way) → is_extender t n ≡ true → P (direction way n)
unfolding directions by_depth
at_direction t tree P all n way there = by_way way
  where
    parts : Each P (map (direction Up) (deepest_first t 64)) × Each P (map (direction Down) (levels t 64))
    parts = each_left P (map (direction Up) (deepest_first t 64)) (map (direction Down) (levels t 64)) all

    by_way : (w : Way) → P (direction w n)
    by_way Up = at_listed P Up n (deepest_first t 64) parts.0 (listed_deepest t n 64 (in_levels t tree n there))
    by_way Down = at_listed P Down n (levels t 64) parts.1 (in_levels t tree n there)

-- ---- a round
then_none : (a : Stepped) → followed_by a (nothing a.world) ≡ a
then_none a =
    ap (λ (x : List Event). record { world = a.world; events = x; passed = a.passed ++ []; left = a.left ++ []; lines = a.lines ++ [] }) (append-nil a.events)
    ∙ ap (λ (x : List Bool). record { world = a.world; events = a.events; passed = x; left = a.left ++ []; lines = a.lines ++ [] }) (append-nil a.passed)
    ∙ ap (λ (x : List Left). record { world = a.world; events = a.events; passed = a.passed; left = x; lines = a.lines ++ [] }) (append-nil a.left)
    ∙ ap (λ (x : List Line). record { world = a.world; events = a.events; passed = a.passed; left = a.left; lines = x }) (append-nil a.lines)

module _ (t : Shape) (l : Limits) where
  one_beat : (w : World) → run t l (Beat ∷ []) w ≡ stepped t l Beat w
  unfolding run
  one_beat w = then_none (stepped t l Beat w)

  itself : (w : World) → HasIn w w
  itself w n way = goes_same (words_on n way w) (words_on n way w) refl

  beat_in : (a w : World) → HasIn a w → HasIn a (stepped t l Beat w).world
  beat_in a w has n Up = goes_then (a.up n) (w.up n) ((stepped t l Beat w).world.up n) (has n Up) ((beat_grows t l w).ups n)
  beat_in a w has n Down = goes_then (a.down n) (w.down n) ((stepped t l Beat w).world.down n) (has n Down) ((beat_grows t l w).downs n)

  pub whole : IsTree t → (w : World) (vs : List Verdict) → IsWhole t l w vs
  unfolding round
  whole tree w vs =
      let r : AreGone t l (directions t) w w vs = all_gone t l (directions t) w w vs (itself w) in
      let v : World = (through_all t l (directions t) w vs).done.world in
      let last : World = (stepped t l Beat v).world in
      let lost = lost_then r.steps (Beat ∷ []) in
      let few = r.few in
      record {
        steps = r.steps ++ Beat ∷ [];
        moves = moves_before r.steps (Beat ∷ []) r.moves (tt, tt);
        is =
            ap (λ (z : Stepped). followed_by z (stepped t l Beat z.world)) r.is
            ∙ (ap (λ (z : Stepped). followed_by (run t l r.steps w) z) (sym (one_beat (run t l r.steps w).world)) ∙ sym (run_then t l r.steps (Beat ∷ []) w));
        beats = beat_is_counted t l v ∙ ap next_beat r.still.beats;
        stood = λ way n. words_on n way r.stood;
        gone = λ n way there.
            let b = beat_in r.stood v r.has n way in
            record {
              sent = b.more;
              is = b.is;
              part = r.part n way;
              control = at_direction t tree (λ (d : Direction). AllControl (words_on d.link d.way r.stood)) r.control n way there;
            };
        few = omega (arith, lost, few);
      }

pub rounds_are_whole : RoundsAreWhole
rounds_are_whole t l tree w vs = whole t l tree w vs

-- A round is made of steps each of which may be made; so what each such step keeps a round keeps.
use Rattle.std.proofs.Common.{◌≡◌, inl, inr, ℕ, zero, suc, ◌+◌, ◌-◌, ◌<◌, ◌==◌, nat_lt, Bool, true, false, cond, List, [], ◌∷◌, ◌++◌, append_assoc, append-nil, length, Option, Some, filter, map, slice_index, refl, ap, sym, ◌∙◌, subst, arith}
use Rattle.std.proofs.lemmas.Bool.{cases_Bool, and_parts, and_from, lt-ltb, ne_eqb}
use Rattle.exb_model.specs.declared.setup.Verdict.{Verdict}
use Rattle.exb_model.specs.declared.setup.Verdict.TheVariants as verdict
use Rattle.exb_model.specs.Tree.{Shape, is_extender, hangs_at_depth, depth, level, levels, by_depth}
use Rattle.exb_model.specs.Setup.{Limits}
use Rattle.exb_link.specs.declared.link_frame.LinkFrame.{LinkFrame}
use Rattle.exb_link.specs.LinkFrames.{is_control, is_data, leading, without_data, without_control}
use Rattle.exb_world_spec.specs.Worlds.{World, Way, Up, Down, Step, Carry, Control, Lose}
use Rattle.exb_world_spec.specs.AllowedSteps.{Can}
use Rattle.exb_world_spec.specs.Steps.{stepped, takes, takes_any, words_on, with_words, first_data, control_at, rest_of}
use Rattle.exb_world_spec.specs.Settling.{before, steps_for, next_place, first_verdict, after_first, gone_through, goes_through, Direction, direction, directions, deepest_first, run, through_all, round}
use Rattle.exb_world_spec.specs.Runs.Sessions.{Each}
use Rattle.exb_world_spec.proofs.LinkFrames.{each_append, at_here}
use Rattle.exb_settling_laws.specs.SettlingFacts.{OnLink, carries, delivers, loses, Moves, IsInvariant}
use Rattle.exb_settling_laws.proofs.LinkGrowth.{Longer, Any, takes_grows, way_grows}

-- ---- lists of words: some control words that stay, those that are still to be looked at, and what was sent meanwhile
abbrev pub AllControl : List LinkFrame → Type 0
AllControl kept = Each (λ (x : LinkFrame). is_control x ≡ true) kept

data_in : (kept : List LinkFrame) (x : LinkFrame) (xs : List LinkFrame) → AllControl kept → is_control x ≡ false → 0 < length (filter is_data (kept ++ x ∷ xs))
data_in [] x xs all e = rw e (omega arith)
data_in (k ∷ kept) x xs all e = rw all.0 (data_in kept x xs all.1 e)

leading_in : (kept : List LinkFrame) (x : LinkFrame) (xs : List LinkFrame) → AllControl kept → is_control x ≡ true → length kept < leading (kept ++ x ∷ xs)
leading_in [] x xs all e = rw e (omega arith)
leading_in (k ∷ kept) x xs all e = rw all.0 (let h = leading_in kept x xs all.1 e in omega arith)

control_in : (kept : List LinkFrame) (x : LinkFrame) (xs : List LinkFrame) → AllControl kept → is_control x ≡ true → length kept < length (filter is_control (kept ++ x ∷ xs))
control_in [] x xs all e = rw e (omega arith)
control_in (k ∷ kept) x xs all e = rw all.0 (let h = control_in kept x xs all.1 e in omega arith)

pub data_out : (kept : List LinkFrame) (x : LinkFrame) (xs : List LinkFrame) → AllControl kept → is_control x ≡ false → without_data (kept ++ x ∷ xs) ≡ kept ++ xs
data_out [] x xs all e = rw e refl
data_out (k ∷ kept) x xs all e = rw all.0 (ap (λ (ys : List LinkFrame). k ∷ ys) (data_out kept x xs all.1 e))

pub control_out : (kept : List LinkFrame) (x : LinkFrame) (xs : List LinkFrame) → AllControl kept → is_control x ≡ true → without_control (kept ++ x ∷ xs) (length kept) ≡ kept ++ xs
control_out [] x xs all e = rw e refl
control_out (k ∷ kept) x xs all e =
    let off : suc (length kept) - 1 ≡ length kept = omega arith in
    rw (all.0, ne_eqb (suc (length kept)) 0 (λ z. omega arith), off) (ap (λ (ys : List LinkFrame). k ∷ ys) (control_out kept x xs all.1 e))

pub data_at : (kept : List LinkFrame) (x : LinkFrame) (xs : List LinkFrame) → AllControl kept → is_control x ≡ false → first_data (kept ++ x ∷ xs) ≡ Some x
data_at [] x xs all e = rw e refl
data_at (k ∷ kept) x xs all e = rw all.0 (data_at kept x xs all.1 e)

pub control_there : (kept : List LinkFrame) (x : LinkFrame) (xs : List LinkFrame) → AllControl kept → is_control x ≡ true → control_at (kept ++ x ∷ xs) (length kept) ≡ Some x
control_there [] x xs all e = rw e refl
control_there (k ∷ kept) x xs all e = rw all.0 (control_there kept x xs all.1 e)

-- ---- the words of a direction
words_set : (n : ℕ) (way : Way) (ws : List LinkFrame) (w : World) → words_on n way (with_words n way ws w) ≡ ws
words_set n Up ws w = at_here n ws w.up
words_set n Down ws w = at_here n ws w.down

-- in this direction stand these control words, which were looked at, then the rest, then what was sent meanwhile
pub record StandsAt (n : ℕ) (way : Way) (kept rest : List LinkFrame) (w : World) : Type 0 where
  pub more : List LinkFrame
  pub is : words_on n way w ≡ kept ++ (rest ++ more)

last_out : (kept : List LinkFrame) (x : LinkFrame) (rest more : List LinkFrame) → kept ++ ((x ∷ rest) ++ more) ≡ (kept ++ x ∷ []) ++ (rest ++ more)
last_out [] x rest more = refl
last_out (k ∷ kept) x rest more = ap (λ (ys : List LinkFrame). k ∷ ys) (last_out kept x rest more)

length_last : (kept : List LinkFrame) (x : LinkFrame) → length (kept ++ x ∷ []) ≡ length kept + 1
length_last [] x = refl
length_last (k ∷ kept) x = let h = length_last kept x in omega arith

module _ (t : Shape) (l : Limits) (I : World → Type 0) (inv : Moves t l I) (n : ℕ) (way : Way) (there : is_extender t n ≡ true) where
  -- after a word was taken, with these words left on the link
  stands_taken : (kept rest more : List LinkFrame) (x : LinkFrame) (w : World) → StandsAt n way kept rest (takes t l n way x (with_words n way (kept ++ (rest ++ more)) w)).world
  stands_taken kept rest more x w =
      let v : World = with_words n way (kept ++ (rest ++ more)) w in
      let g : Longer (Any n) (words_on n way (with_words n way (kept ++ (rest ++ more)) w)) (words_on n way (takes t l n way x (with_words n way (kept ++ (rest ++ more)) w)).world) =
      way_grows t l n way _ _ (takes_grows t l n way x (with_words n way (kept ++ (rest ++ more)) w)) in
      record {
        more = more ++ g.more;
        is = g.is ∙ ap (λ (ys : List LinkFrame). ys ++ g.more) (words_set n way (kept ++ (rest ++ more)) w) ∙ append_assoc kept (rest ++ more) g.more ∙ ap (λ (ys : List LinkFrame). kept ++ ys) (append_assoc rest more g.more);
      }

  -- a step that takes a word, where these stay
  pub taken_stands : (o : Option LinkFrame) (left : List LinkFrame) (kept rest more : List LinkFrame) (x : LinkFrame) (w : World) → o ≡ Some x → left ≡ kept ++ (rest ++ more) →
      StandsAt n way kept rest (takes_any t l n way o left w).world
  taken_stands o left kept rest more x w e f =
      let P : Option LinkFrame → List LinkFrame → Type 0 = λ a b. StandsAt n way kept rest (takes_any t l n way a b w).world in
      let one : P (Some x) (kept ++ (rest ++ more)) = stands_taken kept rest more x w in
      let two : P (Some x) left = subst (P (Some x)) (sym f) one in
      subst (λ (a : Option LinkFrame). P a left) (sym e) two

  pub step_is : (step : Step) (w : World) → (stepped t l step w).world ≡ (Rattle.exb_world_spec.specs.Steps.done_by t l step w).world
  unfolding stepped
  step_is step w = refl

  -- what is kept by the rest of a direction from here
  abbrev Onward : List LinkFrame → List Verdict → Type 0
  Onward rest vs = (kept : List LinkFrame) (w : World) → AllControl kept → StandsAt n way kept rest w → I w → I (run t l (gone_through n way (length kept) rest vs).steps w).world

  run_one : (step : Step) (steps : List Step) (w : World) → OnLink step → Can t w step → I w → ((v : World) → v ≡ (stepped t l step w).world → I v → I (run t l steps v).world) → I (run t l (step ∷ steps) w).world
  unfolding run
  run_one step steps w r c i go = go (stepped t l step w).world refl (inv.steps step w r c i)

  carry : (x : LinkFrame) (rest : List LinkFrame) (vs : List Verdict) → is_control x ≡ false → Onward rest vs → (kept : List LinkFrame) (w : World) → AllControl kept → StandsAt n way kept (x ∷ rest) w → I w →
      I (run t l (Carry n way ∷ (gone_through n way (length kept) rest vs).steps) w).world
  carry x rest vs e go kept w all s i =
      let there_is : 0 < length (filter is_data (words_on n way w)) =
      (let P : List LinkFrame → Type 0 = λ ws. 0 < length (filter is_data ws) in subst P (sym s.is) (data_in kept x (rest ++ s.more) all e)) in
      run_one (Carry n way) (gone_through n way (length kept) rest vs).steps w (carries n way) (there, there_is) i
      (λ v same j.
      let F : Option LinkFrame = first_data (words_on n way w) in
      let found : first_data (words_on n way w) ≡ Some x = ap first_data s.is ∙ data_at kept x (rest ++ s.more) all e in
      let left : without_data (words_on n way w) ≡ kept ++ (rest ++ s.more) = ap without_data s.is ∙ data_out kept x (rest ++ s.more) all e in
      let z : StandsAt n way kept rest (takes_any t l n way (first_data (words_on n way w)) (without_data (words_on n way w)) w).world =
      taken_stands (first_data (words_on n way w)) (without_data (words_on n way w)) kept rest s.more x w found left in
      go kept v all (subst (StandsAt n way kept rest) (sym (same ∙ step_is (Carry n way) w)) z) j)

  is_leading : (x : LinkFrame) (rest : List LinkFrame) → is_control x ≡ true → (kept : List LinkFrame) (w : World) → AllControl kept → StandsAt n way kept (x ∷ rest) w → length kept < leading (words_on n way w)
  is_leading x rest e kept w all s =
      let P : List LinkFrame → Type 0 = λ ws. length kept < leading ws in subst P (sym s.is) (leading_in kept x (rest ++ s.more) all e)

  pass : (x : LinkFrame) (rest : List LinkFrame) (vs : List Verdict) → is_control x ≡ true → Onward rest vs → (kept : List LinkFrame) (w : World) → AllControl kept → StandsAt n way kept (x ∷ rest) w → I w →
      I (run t l (Control n way (length kept) false ∷ (gone_through n way (length kept) rest vs).steps) w).world
  pass x rest vs e go kept w all s i =
      run_one (Control n way (length kept) false) (gone_through n way (length kept) rest vs).steps w (delivers n way (length kept) false) (there, is_leading x rest e kept w all s) i
      (λ v same j.
      let found : control_at (words_on n way w) (length kept) ≡ Some x = ap (λ (ws : List LinkFrame). control_at ws (length kept)) s.is ∙ control_there kept x (rest ++ s.more) all e in
      let left : without_control (words_on n way w) (length kept) ≡ kept ++ (rest ++ s.more) = ap (λ (ws : List LinkFrame). without_control ws (length kept)) s.is ∙ control_out kept x (rest ++ s.more) all e in
      let z : StandsAt n way kept rest (takes_any t l n way (control_at (words_on n way w) (length kept)) (rest_of false (words_on n way w) (length kept)) w).world =
      taken_stands (control_at (words_on n way w) (length kept)) (rest_of false (words_on n way w) (length kept)) kept rest s.more x w found left in
      go kept v all (subst (StandsAt n way kept rest) (sym (same ∙ step_is (Control n way (length kept) false) w)) z) j)

  lose : (x : LinkFrame) (rest : List LinkFrame) (vs : List Verdict) → is_control x ≡ true → Onward rest vs → (kept : List LinkFrame) (w : World) → AllControl kept → StandsAt n way kept (x ∷ rest) w → I w →
      I (run t l (Lose n way (length kept) ∷ (gone_through n way (length kept) rest vs).steps) w).world
  lose x rest vs e go kept w all s i =
      let there_is : length kept < length (filter is_control (words_on n way w)) =
      (let P : List LinkFrame → Type 0 = λ ws. length kept < length (filter is_control ws) in subst P (sym s.is) (control_in kept x (rest ++ s.more) all e)) in
      run_one (Lose n way (length kept)) (gone_through n way (length kept) rest vs).steps w (loses n way (length kept)) (there, there_is) i
      (λ v same j.
      let left : without_control (words_on n way w) (length kept) ≡ kept ++ (rest ++ s.more) = ap (λ (ws : List LinkFrame). without_control ws (length kept)) s.is ∙ control_out kept x (rest ++ s.more) all e in
      let z : StandsAt n way kept rest (with_words n way (without_control (words_on n way w) (length kept)) w) =
      record { more = s.more; is = words_set n way (without_control (words_on n way w) (length kept)) w ∙ left } in
      go kept v all (subst (StandsAt n way kept rest) (sym (same ∙ step_is (Lose n way (length kept)) w)) z) j)

  all_last : (kept : List LinkFrame) (x : LinkFrame) → AllControl kept → is_control x ≡ true → AllControl (kept ++ x ∷ [])
  all_last kept x all e = each_append (λ (y : LinkFrame). is_control y ≡ true) kept (x ∷ []) all (e, tt)

  onward_last : (x : LinkFrame) (rest : List LinkFrame) (vs : List Verdict) → is_control x ≡ true → Onward rest vs → (kept : List LinkFrame) (w : World) → AllControl kept → StandsAt n way (kept ++ x ∷ []) rest w → I w →
      I (run t l (gone_through n way (length kept + 1) rest vs).steps w).world
  onward_last x rest vs e go kept w all s i =
      let P : ℕ → Type 0 = λ k. I (run t l (gone_through n way k rest vs).steps w).world in
      subst P (length_last kept x) (go (kept ++ x ∷ []) w (all_last kept x all e) s i)

  twice : (x : LinkFrame) (rest : List LinkFrame) (vs : List Verdict) → is_control x ≡ true → Onward rest vs → (kept : List LinkFrame) (w : World) → AllControl kept → StandsAt n way kept (x ∷ rest) w → I w →
      I (run t l (Control n way (length kept) true ∷ (gone_through n way (length kept + 1) rest vs).steps) w).world
  twice x rest vs e go kept w all s i =
      run_one (Control n way (length kept) true) (gone_through n way (length kept + 1) rest vs).steps w (delivers n way (length kept) true) (there, is_leading x rest e kept w all s) i
      (λ v same j.
      let found : control_at (words_on n way w) (length kept) ≡ Some x = ap (λ (ws : List LinkFrame). control_at ws (length kept)) s.is ∙ control_there kept x (rest ++ s.more) all e in
      let left : words_on n way w ≡ (kept ++ x ∷ []) ++ (rest ++ s.more) = s.is ∙ last_out kept x rest s.more in
      let z : StandsAt n way (kept ++ x ∷ []) rest (takes_any t l n way (control_at (words_on n way w) (length kept)) (rest_of true (words_on n way w) (length kept)) w).world =
      taken_stands (control_at (words_on n way w) (length kept)) (words_on n way w) (kept ++ x ∷ []) rest s.more x w found left in
      onward_last x rest vs e go kept v all (subst (StandsAt n way (kept ++ x ∷ []) rest) (sym (same ∙ step_is (Control n way (length kept) true) w)) z) j)

  later : (x : LinkFrame) (rest : List LinkFrame) (vs : List Verdict) → is_control x ≡ true → Onward rest vs → (kept : List LinkFrame) (w : World) → AllControl kept → StandsAt n way kept (x ∷ rest) w → I w →
      I (run t l (gone_through n way (length kept + 1) rest vs).steps w).world
  later x rest vs e go kept w all s i = onward_last x rest vs e go kept w all (record { more = s.more; is = s.is ∙ last_out kept x rest s.more }) i

  by_verdict : (v : Verdict) (x : LinkFrame) (rest : List LinkFrame) (vs : List Verdict) → is_control x ≡ true → Onward rest vs → (kept : List LinkFrame) (w : World) → AllControl kept → StandsAt n way kept (x ∷ rest) w → I w →
      I (run t l (before (steps_for n way (length kept) v) (gone_through n way (next_place (length kept) v) rest vs)).steps w).world
  by_verdict verdict.Pass x rest vs e go kept w all s i = pass x rest vs e go kept w all s i
  by_verdict verdict.Lose x rest vs e go kept w all s i = lose x rest vs e go kept w all s i
  by_verdict verdict.Twice x rest vs e go kept w all s i = twice x rest vs e go kept w all s i
  by_verdict verdict.Later x rest vs e go kept w all s i = later x rest vs e go kept w all s i

  goes_on : (rest : List LinkFrame) (vs : List Verdict) → Onward rest vs
  unfolding gone_through run
  goes_on [] vs kept w all s i = i
  goes_on (x ∷ rest) vs kept w all s i =
      elim (cases_Bool (is_control x)) [
        | inl e ↦ rw e (by_verdict (first_verdict vs) x rest (after_first vs) e (goes_on rest (after_first vs)) kept w all s i)
        | inr e ↦ rw e (carry x rest vs e (goes_on rest vs) kept w all s i)
      ]

  -- a whole direction
  pub direction_keeps : (w : World) (vs : List Verdict) → I w → I (run t l (gone_through n way 0 (words_on n way w) vs).steps w).world
  direction_keeps w vs i = goes_on (words_on n way w) vs [] w tt (record { more = []; is = sym (append-nil (words_on n way w)) }) i

-- ---- the directions are those of extenders
abbrev pub OfExtender : Shape → Direction → Type 0
OfExtender t d = is_extender t d.link ≡ true

abbrev pub Extenders : Shape → List ℕ → Type 0
Extenders t ns = Each (λ (n : ℕ). is_extender t n ≡ true) ns

level_there : (t : Shape) (d k : ℕ) → Extenders t (level t d k)
unfolding level
level_there t d zero = tt
level_there t d (suc k) = each_append (λ (n : ℕ). is_extender t n ≡ true) (level t d k) _ (level_there t d k) (by_test (hangs_at_depth t (suc k) d) refl)
  where
    by_test : (b : Bool) → hangs_at_depth t (suc k) d ≡ b → Extenders t (cond b (suc k ∷ []) [])
    by_test true e =
        let p = and_parts (nat_lt 0 (slice_index t.ports (suc k))) (depth t (suc k) == d) e in
        (and_from (nat_lt 0 (suc k)) (nat_lt 0 (slice_index t.ports (suc k))) (lt-ltb 0 (suc k) (omega arith)) p.0, tt)
    by_test false e = tt

levels_there : (t : Shape) (d : ℕ) → Extenders t (levels t d)
unfolding levels
levels_there t zero = tt
levels_there t (suc d) = each_append (λ (n : ℕ). is_extender t n ≡ true) (levels t d) (level t (suc d) 64) (levels_there t d) (level_there t (suc d) 64)

deepest_there : (t : Shape) (d : ℕ) → Extenders t (deepest_first t d)
unfolding deepest_first
deepest_there t zero = tt
deepest_there t (suc d) = each_append (λ (n : ℕ). is_extender t n ≡ true) (level t (suc d) 64) (deepest_first t d) (level_there t (suc d) 64) (deepest_there t d)

mapped : (t : Shape) (way : Way) (ns : List ℕ) → Extenders t ns → Each (OfExtender t) (map (direction way) ns)
mapped t way [] all = tt
mapped t way (n ∷ ns) all = (all.0, mapped t way ns all.1)

pub directions_there : (t : Shape) → Each (OfExtender t) (directions t)
unfolding directions by_depth
directions_there t =
    each_append (OfExtender t) (map (direction Up) (deepest_first t 64)) (map (direction Down) (by_depth t))
    (mapped t Up (deepest_first t 64) (deepest_there t 64)) (mapped t Down (by_depth t) (levels_there t 64))

-- ---- a round
module _ (t : Shape) (l : Limits) (I : World → Type 0) (moves : Moves t l I) where
  pub all_keep : (ds : List Direction) → Each (OfExtender t) ds → (w : World) (vs : List Verdict) → I w → I (through_all t l ds w vs).done.world
  unfolding through_all
  all_keep [] there w vs i = i
  all_keep (d ∷ ds) there w vs i =
      all_keep ds there.1 (run t l (goes_through d w vs).steps w).world (goes_through d w vs).verdicts (direction_keeps t l I moves d.link d.way there.0 w vs i)

pub round_keeps : (t : Shape) (l : Limits) (I : World → Type 0) → IsInvariant t l I → (w : World) (vs : List Verdict) → I w → I (round t l w vs).done.world
unfolding round
round_keeps t l I inv w vs i = inv.beats (through_all t l (directions t) w vs).done.world (all_keep t l I inv.moves (directions t) (directions_there t) w vs i)

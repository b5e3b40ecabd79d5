-- One word is looked at, and the next ones stand.
use Rattle.std.proofs.Common.{◌≡◌, ℕ, ◌+◌, ◌<◌, ◌≤◌, inl, inr, true, false, List, [], ◌∷◌, ◌++◌, append-nil, length, filter, Some, refl, ap, sym, ◌∙◌, subst, arith}
use Rattle.std.proofs.lemmas.Bool.{cases_Bool}
use Rattle.exb_model.specs.declared.setup.Verdict.{Verdict}
use Rattle.exb_model.specs.declared.setup.Verdict.TheVariants as verdict
use Rattle.exb_model.specs.Setup.{Limits}
use Rattle.exb_model.specs.Tree.{Shape, is_extender}
use Rattle.exb_link.specs.declared.link_frame.LinkFrame.{LinkFrame}
use Rattle.exb_link.specs.LinkFrames.{is_control, is_data, leading, without_data, without_control}
use Rattle.exb_world_spec.specs.Settling.{direction, next_place, played_before, run, steps_for}
use Rattle.exb_world_spec.specs.Steps.{Stepped, words_on, with_words, first_data, control_at, rest_of}
use Rattle.exb_world_spec.specs.Worlds.{World, Way, Up, Down, Step, Carry, Control, Lose}
use Rattle.exb_world_spec.specs.Runs.SessionLaws.{IsMove}
use Rattle.exb_world_spec.specs.Runs.Sessions.{Each}
use Rattle.exb_world_spec.proofs.LinkFrames.{each_append, at_here}
use Rattle.exb_world.specs.WorldContracts.{Network, world_of, tree_of, bounds_of}
use Rattle.exb_bridge.specs.TreeIndexes.{Site, limits_in}
use Rattle.exb_settling_laws.specs.SettlingBound.{costs}
use Rattle.exb_settling_laws.specs.SettlingFacts.{Moves}
use Rattle.exb_settling_laws.proofs.RoundSteps.{data_at, data_out, control_there, control_out, StandsAt, taken_stands, step_is}
use Rattle.exb_schedule.specs.declared.round_progress.RoundProgress.{RoundProgress}
use Rattle.exb_schedule.specs.StepSequences.{HasGone, HasRun}
use Rattle.exb_schedule.specs.Rounds.{goes_along, goes_on, AreNext, GoesThrough, HasAsked, HasTaken, Leads}
use Rattle.exb_schedule.proofs.StepSequences.{Play, leads_begin, leads_end, leads_on}
use Rattle.exb_schedule.proofs.Rounds.{next_control, next_data, next_none}
use Rattle.exb_schedule.proofs.Runs.{one_step}

abbrev AllControl : List LinkFrame → Type 0
AllControl kept = Each (λ (x : LinkFrame). is_control x ≡ true) kept

-- ---- the words
words_set : (n : ℕ) (way : Way) (ws : List LinkFrame) (w : World) → words_on n way (with_words n way ws w) ≡ ws
words_set n Up ws w = at_here n ws w.up
words_set n Down ws w = at_here n ws w.down

last_out : (kept : List LinkFrame) (x : LinkFrame) (rest more : List LinkFrame) → kept ++ ((x ∷ rest) ++ more) ≡ (kept ++ x ∷ []) ++ (rest ++ more)
last_out [] x rest more = refl
last_out (k ∷ kept) x rest more = ap (λ (ys : List LinkFrame). k ∷ ys) (last_out kept x rest more)

length_last : (kept : List LinkFrame) (x : LinkFrame) → length (kept ++ x ∷ []) ≡ length kept + 1
length_last [] x = refl
length_last (k ∷ kept) x = (let h = length_last kept x in omega (arith, h))

module _ (t : Shape) (l : Limits) (n : ℕ) (way : Way) (there : is_extender t n ≡ true) where
  anything : Moves t l (λ w. Unit {0})
  anything = record { steps = λ step w r c i. tt }

  -- the world after a step that takes a word, where these stay
  stands_after : (step : Step) (kept rest : List LinkFrame) (w : World) → StandsAt n way kept rest (Rattle.exb_world_spec.specs.Steps.done_by t l step w).world → StandsAt n way kept rest (run t l (step ∷ []) w).world
  stands_after step kept rest w k =
      subst (StandsAt n way kept rest) (sym (ap (λ (z : Stepped). z.world) (one_step t l step w) ∙ step_is t l _ anything n way there step w)) k

  after_data : (kept : List LinkFrame) (x : LinkFrame) (rest more : List LinkFrame) (w : World) → AllControl kept → is_control x ≡ false → words_on n way w ≡ kept ++ ((x ∷ rest) ++ more) →
      StandsAt n way kept rest (run t l (Carry n way ∷ []) w).world
  after_data kept x rest more w all e is =
      let found : first_data (words_on n way w) ≡ Some x = ap first_data is ∙ data_at kept x (rest ++ more) all e in
      let left : without_data (words_on n way w) ≡ kept ++ (rest ++ more) = ap without_data is ∙ data_out kept x (rest ++ more) all e in
      stands_after (Carry n way) kept rest w (taken_stands t l _ anything n way there (first_data (words_on n way w)) (without_data (words_on n way w)) kept rest more x w found left)

  -- what stays before the next word, by the verdict on this one
  abbrev pub kept_by : Verdict → List LinkFrame → LinkFrame → List LinkFrame
  kept_by verdict.Pass kept x = kept
  kept_by verdict.Lose kept x = kept
  kept_by verdict.Twice kept x = kept ++ x ∷ []
  kept_by verdict.Later kept x = kept ++ x ∷ []

  kept_control : (v : Verdict) (kept : List LinkFrame) (x : LinkFrame) → AllControl kept → is_control x ≡ true → AllControl (kept_by v kept x)
  kept_control verdict.Pass kept x all e = all
  kept_control verdict.Lose kept x all e = all
  kept_control verdict.Twice kept x all e = each_append (λ (y : LinkFrame). is_control y ≡ true) kept (x ∷ []) all (e, tt)
  kept_control verdict.Later kept x all e = each_append (λ (y : LinkFrame). is_control y ≡ true) kept (x ∷ []) all (e, tt)

  kept_place : (v : Verdict) (kept : List LinkFrame) (x : LinkFrame) → next_place (length kept) v ≡ length (kept_by v kept x)
  kept_place verdict.Pass kept x = refl
  kept_place verdict.Lose kept x = refl
  kept_place verdict.Twice kept x = sym (length_last kept x)
  kept_place verdict.Later kept x = sym (length_last kept x)

  run_none : (w : World) → (run t l [] w).world ≡ w
  unfolding run
  run_none w = refl

  after_control : (v : Verdict) (kept : List LinkFrame) (x : LinkFrame) (rest more : List LinkFrame) (w : World) → AllControl kept → is_control x ≡ true → words_on n way w ≡ kept ++ ((x ∷ rest) ++ more) →
      StandsAt n way (kept_by v kept x) rest (run t l (steps_for n way (length kept) v) w).world
  after_control verdict.Pass kept x rest more w all e is =
      let found : control_at (words_on n way w) (length kept) ≡ Some x = ap (λ (ws : List LinkFrame). control_at ws (length kept)) is ∙ control_there kept x (rest ++ more) all e in
      let left : without_control (words_on n way w) (length kept) ≡ kept ++ (rest ++ more) = ap (λ (ws : List LinkFrame). without_control ws (length kept)) is ∙ control_out kept x (rest ++ more) all e in
      stands_after (Control n way (length kept) false) kept rest w
      (taken_stands t l _ anything n way there (control_at (words_on n way w) (length kept)) (rest_of false (words_on n way w) (length kept)) kept rest more x w found left)
  after_control verdict.Lose kept x rest more w all e is =
      let left : without_control (words_on n way w) (length kept) ≡ kept ++ (rest ++ more) = ap (λ (ws : List LinkFrame). without_control ws (length kept)) is ∙ control_out kept x (rest ++ more) all e in
      stands_after (Lose n way (length kept)) kept rest w (record { more = more; is = words_set n way (without_control (words_on n way w) (length kept)) w ∙ left })
  after_control verdict.Twice kept x rest more w all e is =
      let found : control_at (words_on n way w) (length kept) ≡ Some x = ap (λ (ws : List LinkFrame). control_at ws (length kept)) is ∙ control_there kept x (rest ++ more) all e in
      stands_after (Control n way (length kept) true) (kept ++ x ∷ []) rest w
      (taken_stands t l _ anything n way there (control_at (words_on n way w) (length kept)) (rest_of true (words_on n way w) (length kept)) (kept ++ x ∷ []) rest more x w found (is ∙ last_out kept x rest more))
  after_control verdict.Later kept x rest more w all e is =
      subst (StandsAt n way (kept ++ x ∷ []) rest) (sym (run_none w)) (record { more = more; is = is ∙ last_out kept x rest more })

-- ---- which word is next
past_kept : (kept xs : List LinkFrame) → AllControl kept → (length kept < leading (kept ++ xs)) → 0 < leading xs
past_kept [] xs all low = low
past_kept (k ∷ kept) xs all low = past_kept kept xs all.1 (let h = rw all.0 at low in omega (arith, h))

before_kept : (kept xs : List LinkFrame) → AllControl kept → 0 < leading xs → length kept < leading (kept ++ xs)
before_kept [] xs all low = low
before_kept (k ∷ kept) xs all low = rw all.0 (let h = before_kept kept xs all.1 low in omega (arith, h))

leads_control : (x : LinkFrame) (rest : List LinkFrame) → 0 < leading (x ∷ rest) → is_control x ≡ true
leads_control x rest some = elim (cases_Bool (is_control x)) [ inl e ↦ e | inr e ↦ absurd (let h = rw e at some in omega (arith, h)) ]

leads_data : (x : LinkFrame) (rest : List LinkFrame) → (0 < leading (x ∷ rest) → ⊥) → is_control x ≡ false
leads_data x rest none = elim (cases_Bool (is_control x)) [ inl e ↦ absurd (none (rw e (omega arith))) | inr e ↦ e ]

first_is : (kept : List LinkFrame) (x : LinkFrame) (rest more words : List LinkFrame) → AllControl kept → words ≡ kept ++ ((x ∷ rest) ++ more) → length kept < leading words → is_control x ≡ true
first_is kept x rest more words all is free = leads_control x (rest ++ more) (past_kept kept ((x ∷ rest) ++ more) all (subst (λ (ws : List LinkFrame). length kept < leading ws) is free))

first_not : (kept : List LinkFrame) (x : LinkFrame) (rest more words : List LinkFrame) → AllControl kept → words ≡ kept ++ ((x ∷ rest) ++ more) → (length kept < leading words → ⊥) → is_control x ≡ false
first_not kept x rest more words all is none =
    leads_data x (rest ++ more) (λ h. none (subst (λ (ws : List LinkFrame). length kept < leading ws) (sym is) (before_kept kept ((x ∷ rest) ++ more) all h)))

data_behind : (kept xs : List LinkFrame) → AllControl kept → 0 < length (filter is_data xs) → 0 < length (filter is_data (kept ++ xs))
data_behind [] xs all some = some
data_behind (k ∷ kept) xs all some = rw all.0 (data_behind kept xs all.1 some)

-- ---- what is left
control_of : (kept rest more words : List LinkFrame) → AllControl kept → words ≡ kept ++ (rest ++ more) → 0 < length (filter is_data rest) + length (filter is_control rest) → length kept < leading words →
    0 < length (filter is_control rest)
control_of kept [] more words all is some free = absurd (omega (arith, some))
control_of kept (x ∷ rest) more words all is some free = rw (first_is kept x rest more words all is free) (omega arith)

data_of : (kept rest more words : List LinkFrame) → AllControl kept → words ≡ kept ++ (rest ++ more) → 0 < length (filter is_data rest) + length (filter is_control rest) → (length kept < leading words → ⊥) →
    (0 < length (filter is_data rest)) × (0 < length (filter is_data words))
data_of kept [] more words all is some none = absurd (omega (arith, some))
data_of kept (x ∷ rest) more words all is some none =
    let e : is_control x ≡ false = first_not kept x rest more words all is none in
    let here : 0 < length (filter is_data ((x ∷ rest) ++ more)) = rw e (omega arith) in
    (rw e (omega arith), subst (λ (ws : List LinkFrame). 0 < length (filter is_data ws)) (sym is) (data_behind kept ((x ∷ rest) ++ more) all here))

module _ (n : ℕ) (way : Way) (w : World) (left : RoundProgress) (k : AreNext n way w left) (some : 0 < left.frames + left.control) where
  some_rest : 0 < length (filter is_data k.rest) + length (filter is_control k.rest)
  some_rest = (let f = k.frames in let c = k.control in omega (arith, f, c, some))

  pub left_control : left.place < leading (words_on n way w) → 1 ≤ left.control
  left_control free =
      let c = k.control in
      let h = control_of k.kept k.rest k.more (words_on n way w) k.control_alone k.is some_rest (subst (λ (i : ℕ). i < leading (words_on n way w)) k.place free) in
      omega (arith, c, h)

  pub left_data : (left.place < leading (words_on n way w) → ⊥) → (1 ≤ left.frames) × (0 < length (filter is_data (words_on n way w)))
  left_data none =
      let f = k.frames in
      let h = data_of k.kept k.rest k.more (words_on n way w) k.control_alone k.is some_rest (λ low. none (subst (λ (i : ℕ). i < leading (words_on n way w)) (sym k.place) low)) in
      let g = h.0 in
      (omega (arith, f, g), h.1)

none_left : (rest : List LinkFrame) → length (filter is_data rest) ≡ 0 → length (filter is_control rest) ≡ 0 → rest ≡ []
none_left [] f c = refl
none_left (x ∷ rest) f c = elim (cases_Bool (is_control x)) [ inl e ↦ absurd (let h = rw e at c in omega (arith, h)) | inr e ↦ absurd (let h = rw e at f in omega (arith, h)) ]

-- ---- a direction
pub through_first : (n : ℕ) (way : Way) (budget : ℕ) (now : Network) (frames control : ℕ) → frames ≡ length (filter is_data (words_on n way (world_of now))) →
    control ≡ length (filter is_control (words_on n way (world_of now))) →
    GoesThrough n way (goes_along (tree_of now) (bounds_of now) (direction way n) (world_of now)) budget budget now now (record { frames = frames; control = control; place = 0 })
through_first n way budget now frames control few some =
    record {
      next = record {
        kept = [];
        rest = words_on n way (world_of now);
        more = [];
        control_alone = tt;
        place = refl;
        is = sym (append-nil (words_on n way (world_of now)));
        frames = few;
        control = some;
      };
      leads = leads_begin (goes_along (tree_of now) (bounds_of now) (direction way n) (world_of now)) budget now;
    }

pub through_last : (n : ℕ) (way : Way) (whole : Play) (before budget : ℕ) (old now : Network) (left : RoundProgress) → GoesThrough n way whole before budget old now left → left.frames ≡ 0 → left.control ≡ 0 →
    HasAsked whole before budget old now
through_last n way whole before budget old now left k frames control =
    let e : k.next.rest ≡ [] = none_left k.next.rest (sym k.next.frames ∙ frames) (sym k.next.control ∙ control) in
    let t : Shape = tree_of now in
    let l : Limits = bounds_of now in
    leads_end whole (goes_on t l n way left.place k.next.rest (world_of now)) before budget old now k.leads
    (λ vs. ap (λ (ws : List LinkFrame). goes_on t l n way left.place ws (world_of now) vs) e ∙ next_none t l n way left.place (world_of now) vs)

pub there_still : (n : ℕ) (way : Way) (whole : Play) (before budget : ℕ) (old now : Network) (left : RoundProgress) → GoesThrough n way whole before budget old now left → is_extender (tree_of old) n ≡ true →
    is_extender (tree_of now) n ≡ true
there_still n way whole before budget old now left k there = (let Q : Site → Type 0 = λ s. is_extender s.tree n ≡ true in subst Q (sym k.leads.gone.made.moved.same.site) there)

-- ---- a word is looked at
moves_for : (n : ℕ) (way : Way) (k : ℕ) (v : Verdict) → Each IsMove (steps_for n way k v)
moves_for n way k verdict.Pass = (tt, tt)
moves_for n way k verdict.Lose = (tt, tt)
moves_for n way k verdict.Twice = (tt, tt)
moves_for n way k verdict.Later = tt

-- moves that were made
pub gone_by : (steps : List Step) (old new : Network) → Each IsMove steps → HasRun steps old new → HasGone (run (tree_of old) (bounds_of old) steps (world_of old)) old new
gone_by steps old new moves made = record { steps = steps; moves = moves; is = refl; made = made }

module _ (n : ℕ) (way : Way) (whole : Play) (before budget less : ℕ) (old now new : Network) where
  -- steps that leave these words, with the verdicts that the fate gave
  looked : (steps : List Step) (given : List Verdict) (kept rest : List LinkFrame) (was : Play) (left : RoundProgress) → Each IsMove steps → HasRun steps now new → costs given + less ≤ budget →
      AllControl kept → left.place ≡ length kept → left.frames ≡ length (filter is_data rest) → left.control ≡ length (filter is_control rest) →
      StandsAt n way kept rest (run (tree_of now) (bounds_of now) steps (world_of now)).world →
      ((vs : List Verdict) → was (given ++ vs) ≡ played_before (run (tree_of now) (bounds_of now) steps (world_of now))
      (goes_on (tree_of now) (bounds_of now) n way left.place rest (run (tree_of now) (bounds_of now) steps (world_of now)).world vs)) →
      Leads whole was before budget old now → GoesThrough n way whole before less old new left
  looked steps given kept rest was left moves made paid all place frames control stands split leads =
      let t : Shape = tree_of now in
      let l : Limits = bounds_of now in
      let a : Stepped = run t l steps (world_of now) in
      let here : world_of new ≡ a.world = made.moved.world in
      let on : Leads whole (goes_on t l n way left.place rest a.world) before less old new =
      leads_on whole was (goes_on t l n way left.place rest a.world) given a before budget less old now new leads split paid (gone_by steps now new moves made) in
      let same : Leads whole (goes_on t l n way left.place rest (world_of new)) before less old new = subst (λ (w : World). Leads whole (goes_on t l n way left.place rest w) before less old new) (sym here) on in
      record {
        next = record {
          kept = kept;
          rest = rest;
          more = stands.more;
          control_alone = all;
          place = place;
          is = ap (words_on n way) here ∙ stands.is;
          frames = frames;
          control = control;
        };
        leads = subst (λ (s : Site). Leads whole (goes_on s.tree (limits_in s) n way left.place rest (world_of new)) before less old new) (sym made.moved.same.site) same;
      }

  at_kept : (i k : ℕ) (v : Verdict) → i ≡ k → HasRun (steps_for n way i v) now new → HasRun (steps_for n way k v) now new
  at_kept i k v e made = subst (λ (j : ℕ). HasRun (steps_for n way j v) now new) e made

  pub control_by : (was left : RoundProgress) (kept rest more : List LinkFrame) → is_extender (tree_of now) n ≡ true → AllControl kept → was.place ≡ length kept → words_on n way (world_of now) ≡ kept ++ (rest ++ more) →
      was.frames ≡ length (filter is_data rest) → was.control ≡ length (filter is_control rest) → 0 < was.frames + was.control → was.place < leading (words_on n way (world_of now)) →
      HasTaken n way was.place left.place budget less now new → left.frames ≡ was.frames → left.control + 1 ≡ was.control →
      Leads whole (goes_on (tree_of now) (bounds_of now) n way was.place rest (world_of now)) before budget old now → GoesThrough n way whole before less old new left
  control_by was left kept [] more there all place is frames control some free taken same fewer leads = absurd (omega (arith, frames, control, some))
  control_by was left kept (x ∷ rest) more there all place is frames control some free taken same fewer leads =
      let t : Shape = tree_of now in
      let l : Limits = bounds_of now in
      let v : Verdict = taken.verdict in
      let e : is_control x ≡ true = first_is kept x rest more (words_on n way (world_of now)) all is (subst (λ (i : ℕ). i < leading (words_on n way (world_of now))) place free) in
      let f = rw e at frames in
      let c = rw e at control in
      let next : left.place ≡ next_place (length kept) taken.verdict = taken.next_is ∙ ap (λ (i : ℕ). next_place i taken.verdict) place in
      let paid : costs (taken.verdict ∷ []) + less ≤ budget = (let p = taken.paid in omega (arith, p)) in
      let was_here : Leads whole (goes_on t l n way (length kept) (x ∷ rest) (world_of now)) before budget old now =
      subst (λ (i : ℕ). Leads whole (goes_on t l n way i (x ∷ rest) (world_of now)) before budget old now) place leads in
      looked (steps_for n way (length kept) v) (v ∷ []) (kept_by t l n way there v kept x) rest (goes_on t l n way (length kept) (x ∷ rest) (world_of now)) left (moves_for n way (length kept) v)
      (at_kept was.place (length kept) v place taken.made) paid (kept_control t l n way there v kept x all e) (next ∙ kept_place t l n way there v kept x) (same ∙ f) (omega (arith, fewer, c))
      (after_control t l n way there v kept x rest more (world_of now) all e is)
      (λ vs.
      next_control t l n way (length kept) x rest v (world_of now) vs e
      ∙ ap (λ (i : ℕ). played_before (run t l (steps_for n way (length kept) v) (world_of now)) (goes_on t l n way i rest (run t l (steps_for n way (length kept) v) (world_of now)).world vs)) (sym next))
      was_here

  pub data_by : (was left : RoundProgress) (kept rest more : List LinkFrame) → is_extender (tree_of now) n ≡ true → AllControl kept → was.place ≡ length kept → words_on n way (world_of now) ≡ kept ++ (rest ++ more) →
      was.frames ≡ length (filter is_data rest) → was.control ≡ length (filter is_control rest) → 0 < was.frames + was.control → (was.place < leading (words_on n way (world_of now)) → ⊥) →
      HasRun (Carry n way ∷ []) now new → left.place ≡ was.place → left.frames + 1 ≡ was.frames → left.control ≡ was.control → less ≤ budget →
      Leads whole (goes_on (tree_of now) (bounds_of now) n way was.place rest (world_of now)) before budget old now → GoesThrough n way whole before less old new left
  data_by was left kept [] more there all place is frames control some none made stays fewer same low leads = absurd (omega (arith, frames, control, some))
  data_by was left kept (x ∷ rest) more there all place is frames control some none made stays fewer same low leads =
      let t : Shape = tree_of now in
      let l : Limits = bounds_of now in
      let e : is_control x ≡ false = first_not kept x rest more (words_on n way (world_of now)) all is (λ h. none (subst (λ (i : ℕ). i < leading (words_on n way (world_of now))) (sym place) h)) in
      let f = rw e at frames in
      let c = rw e at control in
      looked (Carry n way ∷ []) [] kept rest (goes_on t l n way was.place (x ∷ rest) (world_of now)) left (tt, tt) made (omega (arith, low)) all (stays ∙ place) (omega (arith, fewer, f)) (same ∙ c)
      (after_data t l n way there kept x rest more (world_of now) all e is)
      (λ vs.
      next_data t l n way was.place x rest (world_of now) vs e
      ∙ ap (λ (i : ℕ). played_before (run t l (Carry n way ∷ []) (world_of now)) (goes_on t l n way i rest (run t l (Carry n way ∷ []) (world_of now)).world vs)) (sym stays))
      leads

-- A round goes through each direction once: of what stood there control words alone are left, each by a verdict that isn't Pass.
use Rattle.std.proofs.Common.{◌≡◌, ◌≢◌, inl, inr, ℕ, ◌+◌, ◌≤◌, true, false, cond, List, [], ◌∷◌, ◌++◌, append_assoc, append-nil, length, filter, Option, Some, refl, ap, sym, ◌∙◌, subst, arith}
use Rattle.std.specs.Prelude.{sum_by, ⊤}
use Rattle.std.proofs.lemmas.Bool.{cases_Bool, cases_eq}
use Rattle.std.proofs.lemmas.List.{length-append}
use Rattle.std.proofs.lemmas.List.Elements.{filter-append}
use Rattle.std.proofs.lemmas.List.Sums.{sum_by-cons}
use Rattle.exb_model.specs.declared.setup.Verdict.{Verdict}
use Rattle.exb_model.specs.declared.setup.Verdict.TheVariants as verdict
use Rattle.exb_model.specs.Setup.{Limits}
use Rattle.exb_model.specs.Tree.{Shape}
use Rattle.exb_link.specs.declared.link_frame.LinkFrame.{LinkFrame}
use Rattle.exb_link.specs.LinkFrames.{is_control, without_data, without_control}
use Rattle.exb_world_spec.specs.Settling.{Direction, before, first_verdict, after_first, followed_by, gone_through, goes_through, next_place, run, steps_for, through_all}
use Rattle.exb_world_spec.specs.Steps.{Stepped, stepped, takes, takes_any, words_on, with_words, first_data, control_at, rest_of}
use Rattle.exb_world_spec.specs.Worlds.{World, Way, Up, Down, Step, Carry, Control, Lose}
use Rattle.exb_world_spec.specs.Runs.SessionLaws.{IsMove}
use Rattle.exb_world_spec.specs.Runs.Sessions.{Each}
use Rattle.exb_world_spec.proofs.Rounds.{run_then}
use Rattle.exb_world_spec.proofs.LinkFrames.{each_append, at_here, at_other}
use Rattle.exb_settling_laws.specs.SettlingBound.{cost_of, costs}
use Rattle.exb_settling_laws.specs.Rounds.{IsPart, is_lost}
use Rattle.exb_settling_laws.proofs.LinkGrowth.{Longer, same_list, longer_then, takes_grows, way_grows}
use Rattle.exb_settling_laws.proofs.RoundSteps.{AllControl, control_out, control_there, data_at, data_out}
use Rattle.exb_settling_laws.proofs.AgeingAndBeats.{Stays, IsStill, none_stays, stays_then, step_stays}

-- ---- parts of a list
part_all : {A : Type 0} (xs : List A) → IsPart xs xs
part_all [] = tt
part_all (x ∷ xs) = inl (refl, part_all xs)

part_behind : {A : Type 0} (xs : List A) (y : A) (ys : List A) → IsPart xs ys → IsPart xs (y ∷ ys)
part_behind [] y ys p = tt
part_behind (x ∷ xs) y ys p = inr p

part_then : {A : Type 0} (xs ys zs : List A) → IsPart xs ys → IsPart ys zs → IsPart xs zs
part_then [] ys zs p q = tt
part_then (x ∷ xs) [] zs p q = absurd p
part_then (x ∷ xs) (y ∷ ys) [] p q = absurd q
part_then (x ∷ xs) (y ∷ ys) (z ∷ zs) (inl p) (inl q) = inl (p.0 ∙ q.0, part_then xs ys zs p.1 q.1)
part_then (x ∷ xs) (y ∷ ys) (z ∷ zs) (inr p) (inl q) = inr (part_then (x ∷ xs) ys zs p q.1)
part_then (x ∷ xs) (y ∷ ys) (z ∷ zs) p (inr q) = inr (part_then (x ∷ xs) (y ∷ ys) zs p q)

part_short : {A : Type 0} (xs ys : List A) → IsPart xs ys → length xs ≤ length ys
part_short [] ys p = omega arith
part_short (x ∷ xs) [] p = absurd p
part_short (x ∷ xs) (y ∷ ys) (inl p) = (let h = part_short xs ys p.1 in omega (arith, h))
part_short (x ∷ xs) (y ∷ ys) (inr p) = (let h = part_short (x ∷ xs) ys p in omega (arith, h))

part_each : {A : Type 0} (P : A → Type 0) (xs ys : List A) → IsPart xs ys → Each P ys → Each P xs
part_each P [] ys p all = tt
part_each P (x ∷ xs) [] p all = absurd p
part_each P (x ∷ xs) (y ∷ ys) (inl p) all = (subst P (sym p.0) all.0, part_each P xs ys p.1 all.1)
part_each P (x ∷ xs) (y ∷ ys) (inr p) all = part_each P (x ∷ xs) ys p all.1

-- ---- what stays of the words of a direction
abbrev stays_by : Verdict → LinkFrame → List LinkFrame → List LinkFrame
stays_by verdict.Pass x rest = rest
stays_by verdict.Lose x rest = rest
stays_by verdict.Twice x rest = x ∷ rest
stays_by verdict.Later x rest = x ∷ rest

abbrev staying : List LinkFrame → List Verdict → List LinkFrame
staying [] vs = []
staying (x ∷ xs) vs = cond (is_control x) (stays_by (first_verdict vs) x (staying xs (after_first vs))) (staying xs vs)

-- what verdicts are left
abbrev left_after : List LinkFrame → List Verdict → List Verdict
left_after [] vs = vs
left_after (x ∷ xs) vs = cond (is_control x) (left_after xs (after_first vs)) (left_after xs vs)

stays_part : (v : Verdict) (x : LinkFrame) (rest xs : List LinkFrame) → IsPart rest xs → IsPart (stays_by v x rest) (x ∷ xs)
stays_part verdict.Pass x rest xs p = part_behind rest x xs p
stays_part verdict.Lose x rest xs p = part_behind rest x xs p
stays_part verdict.Twice x rest xs p = inl (refl, p)
stays_part verdict.Later x rest xs p = inl (refl, p)

staying_part : (xs : List LinkFrame) (vs : List Verdict) → IsPart (staying xs vs) xs
staying_part [] vs = tt
staying_part (x ∷ xs) vs =
    elim (cases_Bool (is_control x)) [
      | inl e ↦ rw e (stays_part (first_verdict vs) x (staying xs (after_first vs)) xs (staying_part xs (after_first vs)))
      | inr e ↦ rw e (part_behind (staying xs vs) x xs (staying_part xs vs))
    ]

stays_control : (v : Verdict) (x : LinkFrame) (rest : List LinkFrame) → is_control x ≡ true → AllControl rest → AllControl (stays_by v x rest)
stays_control verdict.Pass x rest e all = all
stays_control verdict.Lose x rest e all = all
stays_control verdict.Twice x rest e all = (e, all)
stays_control verdict.Later x rest e all = (e, all)

staying_control : (xs : List LinkFrame) (vs : List Verdict) → AllControl (staying xs vs)
staying_control [] vs = tt
staying_control (x ∷ xs) vs =
    elim (cases_Bool (is_control x)) [
      | inl e ↦ rw e (stays_control (first_verdict vs) x (staying xs (after_first vs)) e (staying_control xs (after_first vs)))
      | inr e ↦ rw e (staying_control xs vs)
    ]

stays_append : (v : Verdict) (x : LinkFrame) (ys zs : List LinkFrame) → stays_by v x (ys ++ zs) ≡ stays_by v x ys ++ zs
stays_append verdict.Pass x ys zs = refl
stays_append verdict.Lose x ys zs = refl
stays_append verdict.Twice x ys zs = refl
stays_append verdict.Later x ys zs = refl

staying_append : (xs ys : List LinkFrame) (vs : List Verdict) → staying (xs ++ ys) vs ≡ staying xs vs ++ staying ys (left_after xs vs)
staying_append [] ys vs = refl
staying_append (x ∷ xs) ys vs =
    elim (cases_Bool (is_control x)) [
      | inl e ↦ rw e (ap (stays_by (first_verdict vs) x) (staying_append xs ys (after_first vs)) ∙ stays_append (first_verdict vs) x (staying xs (after_first vs)) (staying ys (left_after xs (after_first vs))))
      | inr e ↦ rw e (staying_append xs ys vs)
    ]

-- ---- what it costs
first_cost : (vs : List Verdict) → cost_of (first_verdict vs) + costs (after_first vs) ≡ costs vs
first_cost [] = refl
first_cost (v ∷ vs) = refl

pub lost_then : (xs ys : List Step) → length (filter is_lost (xs ++ ys)) ≡ length (filter is_lost xs) + length (filter is_lost ys)
lost_then xs ys = ap (λ (zs : List Step). length zs) (filter-append is_lost xs ys) ∙ length-append (filter is_lost xs) (filter is_lost ys)

one_cost : (n : ℕ) (way : Way) (k : ℕ) (v : Verdict) (x : LinkFrame) (rest : List LinkFrame) (steps : List Step) →
    length (stays_by v x rest) + length (filter is_lost (steps_for n way k v ++ steps)) ≡ cost_of v + (length rest + length (filter is_lost steps))
one_cost n way k verdict.Pass x rest steps = omega arith
one_cost n way k verdict.Lose x rest steps = omega arith
one_cost n way k verdict.Twice x rest steps = omega arith
one_cost n way k verdict.Later x rest steps = omega arith

through_cost : (n : ℕ) (way : Way) (k : ℕ) (xs : List LinkFrame) (vs : List Verdict) →
    length (staying xs vs) + length (filter is_lost (gone_through n way k xs vs).steps) + costs (gone_through n way k xs vs).verdicts ≡ costs vs
unfolding gone_through
through_cost n way k [] vs = omega arith
through_cost n way k (x ∷ xs) vs =
    elim (cases_Bool (is_control x)) [
      | inl e ↦
          let rest = through_cost n way (next_place k (first_verdict vs)) xs (after_first vs) in
          let one = one_cost n way k (first_verdict vs) x (staying xs (after_first vs)) (gone_through n way (next_place k (first_verdict vs)) xs (after_first vs)).steps in
          let first = first_cost vs in
          rw e (omega (arith, rest, one, first))
      | inr e ↦ rw e (through_cost n way k xs vs)
    ]

steps_moves : (n : ℕ) (way : Way) (k : ℕ) (v : Verdict) → Each IsMove (steps_for n way k v)
steps_moves n way k verdict.Pass = (tt, tt)
steps_moves n way k verdict.Lose = (tt, tt)
steps_moves n way k verdict.Twice = (tt, tt)
steps_moves n way k verdict.Later = tt

pub moves_before : (xs : List Step) (ys : List Step) → Each IsMove xs → Each IsMove ys → Each IsMove (xs ++ ys)
moves_before [] ys a b = b
moves_before (x ∷ xs) ys a b = (a.0, moves_before xs ys a.1 b)

through_moves : (n : ℕ) (way : Way) (k : ℕ) (xs : List LinkFrame) (vs : List Verdict) → Each IsMove (gone_through n way k xs vs).steps
unfolding gone_through
through_moves n way k [] vs = tt
through_moves n way k (x ∷ xs) vs =
    elim (cases_Bool (is_control x)) [
      | inl e ↦ rw e (moves_before (steps_for n way k (first_verdict vs)) (gone_through n way (next_place k (first_verdict vs)) xs (after_first vs)).steps (steps_moves n way k (first_verdict vs)) (through_moves n way (next_place k (first_verdict vs)) xs (after_first vs)))
      | inr e ↦ rw e (tt, through_moves n way k xs vs)
    ]

-- ---- directions
abbrev pub IsOther : ℕ → Way → ℕ → Way → Type 0
IsOther n Up m Up = n ≢ m
IsOther n Down m Down = n ≢ m
IsOther n _ m _ = Unit {0}

same_words : (n : ℕ) (way : Way) (ws : List LinkFrame) (w : World) → words_on n way (with_words n way ws w) ≡ ws
same_words n Up ws w = at_here n ws w.up
same_words n Down ws w = at_here n ws w.down

other_words : (n : ℕ) (way : Way) (m : ℕ) (its : Way) (ws : List LinkFrame) (w : World) → IsOther n way m its → words_on n way (with_words m its ws w) ≡ words_on n way w
other_words n Up m Up ws w ne = at_other m n ws w.up ne
other_words n Down m Down ws w ne = at_other m n ws w.down ne
other_words n Up m Down ws w ne = refl
other_words n Down m Up ws w ne = refl

by_direction : (P : ℕ → Way → Type 0) (n : ℕ) (way : Way) (m : ℕ) (its : Way) → P m its → (IsOther n way m its → P n way) → P n way
by_direction P n Up m Up here there = elim (cases_eq n m) [ inl e ↦ subst (λ (i : ℕ). P i Up) (sym e) here | inr ne ↦ there ne ]
by_direction P n Down m Down here there = elim (cases_eq n m) [ inl e ↦ subst (λ (i : ℕ). P i Down) (sym e) here | inr ne ↦ there ne ]
by_direction P n Up m Down here there = there tt
by_direction P n Down m Up here there = there tt

abbrev pub Goes : List LinkFrame → List LinkFrame → Type 0
Goes xs ys = Longer (λ (x : LinkFrame). ⊤) xs ys

-- In a direction these words stand now, and what was sent; in each other one what stood there, and what was sent.
pub record After (n : ℕ) (way : Way) (ws : List LinkFrame) (w v : World) : Type 0 where
  pub here : Goes ws (words_on n way v)
  pub others : (m : ℕ) (its : Way) → IsOther m its n way → Goes (words_on m its w) (words_on m its v)

pub goes_same : (xs ys : List LinkFrame) → ys ≡ xs → Goes xs ys
goes_same xs ys e = subst (λ (zs : List LinkFrame). Goes xs zs) (sym e) (same_list (λ (x : LinkFrame). ⊤) xs)

pub goes_then : (xs ys zs : List LinkFrame) → Goes xs ys → Goes ys zs → Goes xs zs
goes_then xs ys zs a b = longer_then (λ (x : LinkFrame). ⊤) xs ys zs a b

goes_front : (xs more zs : List LinkFrame) → Goes (xs ++ more) zs → Goes xs zs
goes_front xs more zs a = record { more = more ++ a.more; is = a.is ∙ append_assoc xs more a.more; each_is = any_words (more ++ a.more) }
  where
    any_words : (ys : List LinkFrame) → Each (λ (x : LinkFrame). ⊤) ys
    any_words [] = tt
    any_words (y ∷ ys) = (tt, any_words ys)

module _ (t : Shape) (l : Limits) (n : ℕ) (way : Way) where
  -- a word was taken, and these were left
  taken : (ws : List LinkFrame) (x : LinkFrame) (w : World) → After n way ws w (takes t l n way x (with_words n way ws w)).world
  taken ws x w =
      let u : World = with_words n way ws w in
      let g = takes_grows t l n way x u in
      record {
        here = subst (λ (zs : List LinkFrame). Goes zs (words_on n way (takes t l n way x u).world)) (same_words n way ws w) (way_grows t l n way u (takes t l n way x u).world g);
        others = λ m its other. subst (λ (zs : List LinkFrame). Goes zs (words_on m its (takes t l n way x u).world)) (other_words m its n way ws w other) (way_grows t l m its u (takes t l n way x u).world g);
      }

  taken_any : (o : Option LinkFrame) (left ws : List LinkFrame) (x : LinkFrame) (w : World) → o ≡ Some x → left ≡ ws → After n way ws w (takes_any t l n way o left w).world
  taken_any o left ws x w e f =
      let P : Option LinkFrame → List LinkFrame → Type 0 = λ a b. After n way ws w (takes_any t l n way a b w).world in
      subst (λ (a : Option LinkFrame). P a left) (sym e) (subst (P (Some x)) (sym f) (taken ws x w))

  left_so : (ws : List LinkFrame) (w : World) → After n way ws w (with_words n way ws w)
  left_so ws w = record {
    here = goes_same ws (words_on n way (with_words n way ws w)) (same_words n way ws w);
    others = λ m its other. goes_same (words_on m its w) (words_on m its (with_words n way ws w)) (other_words m its n way ws w other);
  }

  after_then : (ws zs : List LinkFrame) (u v w : World) → After n way ws u v → After n way zs v w → After n way zs u w
  after_then ws zs u v w a b = record { here = b.here; others = λ m its other. goes_then (words_on m its u) (words_on m its v) (words_on m its w) (a.others m its other) (b.others m its other) }

  step_is : (step : Step) (w : World) → (stepped t l step w).world ≡ (Rattle.exb_world_spec.specs.Steps.done_by t l step w).world
  unfolding stepped
  step_is step w = refl

  -- the rest of a direction, behind what stays of it
  abbrev Onward : List LinkFrame → List Verdict → Type 0
  Onward rest vs =
      (kept more : List LinkFrame) (w : World) → AllControl kept → words_on n way w ≡ kept ++ (rest ++ more) →
      After n way ((kept ++ staying rest vs) ++ more) w (run t l (gone_through n way (length kept) rest vs).steps w).world

  next_one : (step : Step) (steps : List Step) (kept rest more stay : List LinkFrame) (w : World) → After n way (kept ++ (rest ++ more)) w (stepped t l step w).world →
      ((more : List LinkFrame) (v : World) → words_on n way v ≡ kept ++ (rest ++ more) → After n way ((kept ++ stay) ++ more) v (run t l steps v).world) → After n way ((kept ++ stay) ++ more) w (run t l (step ∷ steps) w).world
  unfolding run
  next_one step steps kept rest more stay w a go =
      let v : World = (stepped t l step w).world in
      let is : words_on n way v ≡ kept ++ (rest ++ (more ++ a.here.more)) =
      a.here.is ∙ append_assoc kept (rest ++ more) a.here.more ∙ ap (λ (zs : List LinkFrame). kept ++ zs) (append_assoc rest more a.here.more) in
      let b = go (more ++ a.here.more) v is in
      after_then (kept ++ (rest ++ more)) ((kept ++ stay) ++ more) w v (run t l steps v).world a (record {
        here = goes_front ((kept ++ stay) ++ more) a.here.more (words_on n way (run t l steps v).world)
            (subst (λ (zs : List LinkFrame). Goes zs (words_on n way (run t l steps v).world)) (sym (append_assoc (kept ++ stay) more a.here.more)) b.here);
        others = b.others;
      })

  last_out : (kept : List LinkFrame) (x : LinkFrame) (rest : List LinkFrame) → kept ++ x ∷ rest ≡ (kept ++ x ∷ []) ++ rest
  last_out [] x rest = refl
  last_out (y ∷ kept) x rest = ap (λ (zs : List LinkFrame). y ∷ zs) (last_out kept x rest)

  length_last : (kept : List LinkFrame) (x : LinkFrame) → length (kept ++ x ∷ []) ≡ length kept + 1
  length_last [] x = refl
  length_last (y ∷ kept) x = (let h = length_last kept x in omega (arith, h))

  all_last : (kept : List LinkFrame) (x : LinkFrame) → AllControl kept → is_control x ≡ true → AllControl (kept ++ x ∷ [])
  all_last kept x all e = each_append (λ (y : LinkFrame). is_control y ≡ true) kept (x ∷ []) all (e, tt)

  -- a word that stays is one of those that were looked at
  stays_on : (x : LinkFrame) (rest : List LinkFrame) (vs : List Verdict) → is_control x ≡ true → Onward rest vs → (kept more : List LinkFrame) (v : World) → AllControl kept → words_on n way v ≡ (kept ++ x ∷ []) ++ (rest ++ more) →
      After n way ((kept ++ x ∷ staying rest vs) ++ more) v (run t l (gone_through n way (length kept + 1) rest vs).steps v).world
  stays_on x rest vs e go kept more v all is =
      let P : ℕ → List LinkFrame → Type 0 = λ k zs. After n way (zs ++ more) v (run t l (gone_through n way k rest vs).steps v).world in
      subst (λ (k : ℕ). P k (kept ++ x ∷ staying rest vs)) (length_last kept x) (subst (P (length (kept ++ x ∷ []))) (sym (last_out kept x (staying rest vs))) (go (kept ++ x ∷ []) more v (all_last kept x all e) is))

  by_verdict : (v : Verdict) (x : LinkFrame) (rest : List LinkFrame) (vs : List Verdict) → is_control x ≡ true → Onward rest vs → (kept more : List LinkFrame) (w : World) → AllControl kept → words_on n way w ≡ kept ++ ((x ∷ rest) ++ more) →
      After n way ((kept ++ stays_by v x (staying rest vs)) ++ more) w (run t l (before (steps_for n way (length kept) v) (gone_through n way (next_place (length kept) v) rest vs)).steps w).world
  by_verdict verdict.Pass x rest vs e go kept more w all is =
      let found : control_at (words_on n way w) (length kept) ≡ Some x = ap (λ (ws : List LinkFrame). control_at ws (length kept)) is ∙ control_there kept x (rest ++ more) all e in
      let left : without_control (words_on n way w) (length kept) ≡ kept ++ (rest ++ more) = ap (λ (ws : List LinkFrame). without_control ws (length kept)) is ∙ control_out kept x (rest ++ more) all e in
      next_one (Control n way (length kept) false) (gone_through n way (length kept) rest vs).steps kept rest more (staying rest vs) w
      (subst (After n way (kept ++ (rest ++ more)) w) (sym (step_is (Control n way (length kept) false) w))
      (taken_any (control_at (words_on n way w) (length kept)) (rest_of false (words_on n way w) (length kept)) (kept ++ (rest ++ more)) x w found left))
      (λ m v same. go kept m v all same)
  by_verdict verdict.Lose x rest vs e go kept more w all is =
      let left : without_control (words_on n way w) (length kept) ≡ kept ++ (rest ++ more) = ap (λ (ws : List LinkFrame). without_control ws (length kept)) is ∙ control_out kept x (rest ++ more) all e in
      next_one (Lose n way (length kept)) (gone_through n way (length kept) rest vs).steps kept rest more (staying rest vs) w
      (subst (After n way (kept ++ (rest ++ more)) w) (sym (step_is (Lose n way (length kept)) w))
      (subst (λ (zs : List LinkFrame). After n way zs w (with_words n way (without_control (words_on n way w) (length kept)) w)) left (left_so (without_control (words_on n way w) (length kept)) w)))
      (λ m v same. go kept m v all same)
  by_verdict verdict.Twice x rest vs e go kept more w all is =
      let found : control_at (words_on n way w) (length kept) ≡ Some x = ap (λ (ws : List LinkFrame). control_at ws (length kept)) is ∙ control_there kept x (rest ++ more) all e in
      let one : After n way (words_on n way w) w (stepped t l (Control n way (length kept) true) w).world =
      subst (After n way (words_on n way w) w) (sym (step_is (Control n way (length kept) true) w)) (taken_any (control_at (words_on n way w) (length kept)) (rest_of true (words_on n way w) (length kept)) (words_on n way w) x w found refl) in
      let whole : kept ++ ((x ∷ rest) ++ more) ≡ (kept ++ x ∷ []) ++ (rest ++ more) = last_out kept x (rest ++ more) in
      let v : World = (stepped t l (Control n way (length kept) true) w).world in
      let P : List LinkFrame → Type 0 = λ zs. After n way (zs ++ more) w (run t l (Control n way (length kept) true ∷ (gone_through n way (length kept + 1) rest vs).steps) w).world in
      subst P (sym (last_out kept x (staying rest vs)))
      (next_one (Control n way (length kept) true) (gone_through n way (length kept + 1) rest vs).steps (kept ++ x ∷ []) rest more (staying rest vs) w
      (subst (λ (zs : List LinkFrame). After n way zs w v) (is ∙ whole) one)
      (λ m u same. subst (λ (zs : List LinkFrame). After n way (zs ++ m) u (run t l (gone_through n way (length kept + 1) rest vs).steps u).world) (last_out kept x (staying rest vs)) (stays_on x rest vs e go kept m u all same)))
  by_verdict verdict.Later x rest vs e go kept more w all is = stays_on x rest vs e go kept more w all (is ∙ last_out kept x (rest ++ more))

  carried : (x : LinkFrame) (rest : List LinkFrame) (vs : List Verdict) → is_control x ≡ false → Onward rest vs → (kept more : List LinkFrame) (w : World) → AllControl kept → words_on n way w ≡ kept ++ ((x ∷ rest) ++ more) →
      After n way ((kept ++ staying rest vs) ++ more) w (run t l (Carry n way ∷ (gone_through n way (length kept) rest vs).steps) w).world
  carried x rest vs e go kept more w all is =
      let found : first_data (words_on n way w) ≡ Some x = ap first_data is ∙ data_at kept x (rest ++ more) all e in
      let left : without_data (words_on n way w) ≡ kept ++ (rest ++ more) = ap without_data is ∙ data_out kept x (rest ++ more) all e in
      next_one (Carry n way) (gone_through n way (length kept) rest vs).steps kept rest more (staying rest vs) w
      (subst (After n way (kept ++ (rest ++ more)) w) (sym (step_is (Carry n way) w)) (taken_any (first_data (words_on n way w)) (without_data (words_on n way w)) (kept ++ (rest ++ more)) x w found left))
      (λ m v same. go kept m v all same)

  goes_on : (rest : List LinkFrame) (vs : List Verdict) → Onward rest vs
  unfolding gone_through run
  goes_on [] vs kept more w all is = record {
    here = goes_same ((kept ++ []) ++ more) (words_on n way w) (is ∙ ap (λ (zs : List LinkFrame). zs ++ more) (sym (append-nil kept)));
    others = λ m its other. same_list (λ (x : LinkFrame). ⊤) (words_on m its w);
  }
  goes_on (x ∷ rest) vs kept more w all is =
      elim (cases_Bool (is_control x)) [
        | inl e ↦ rw e (by_verdict (first_verdict vs) x rest (after_first vs) e (goes_on rest (after_first vs)) kept more w all is)
        | inr e ↦ rw e (carried x rest vs e (goes_on rest vs) kept more w all is)
      ]

  -- a whole direction
  gone_along : (w : World) (vs : List Verdict) → After n way (staying (words_on n way w) vs) w (run t l (gone_through n way 0 (words_on n way w) vs).steps w).world
  gone_along w vs =
      subst (λ (zs : List LinkFrame). After n way zs w (run t l (gone_through n way 0 (words_on n way w) vs).steps w).world) (append-nil (staying (words_on n way w) vs))
      (goes_on (words_on n way w) vs [] [] w tt (sym (append-nil (words_on n way w))))

-- ---- all directions
-- in each direction stand these words, and behind them what was sent
abbrev pub HasIn : World → World → Type 0
HasIn a w = (n : ℕ) (way : Way) → Goes (words_on n way a) (words_on n way w)

abbrev pub total_of : World → List Direction → ℕ
total_of b ds = sum_by (λ (d : Direction). length (words_on d.link d.way b)) ds

-- Of what stood in each direction, `a`, this is left, `b`: control words alone in those that were gone through, and few.
pub record AreGone (t : Shape) (l : Limits) (ds : List Direction) (a w : World) (vs : List Verdict) : Type 0 where
  pub steps : List Step
  pub moves : Each IsMove steps
  pub is : (through_all t l ds w vs).done ≡ run t l steps w
  pub stood : World
  pub still : Stays w (through_all t l ds w vs).done.world
  pub has : HasIn stood (through_all t l ds w vs).done.world
  pub part : (n : ℕ) (way : Way) → IsPart (words_on n way stood) (words_on n way a)
  pub control : Each (λ (d : Direction). AllControl (words_on d.link d.way stood)) ds
  pub few : total_of stood ds + length (filter is_lost steps) + costs (through_all t l ds w vs).verdicts ≤ costs vs

module _ (t : Shape) (l : Limits) where
  one_gone : (n : ℕ) (way : Way) (a w : World) (vs : List Verdict) → HasIn a w → HasIn (with_words n way (staying (words_on n way a) vs) a) (run t l (gone_through n way 0 (words_on n way w) vs).steps w).world
  one_gone n way a w vs has m its =
      let v : World = (run t l (gone_through n way 0 (words_on n way w) vs).steps w).world in
      let b : World = with_words n way (staying (words_on n way a) vs) a in
      let g = gone_along t l n way w vs in
      let own = has n way in
      let split : staying (words_on n way w) vs ≡ staying (words_on n way a) vs ++ staying own.more (left_after (words_on n way a) vs) =
      ap (λ (zs : List LinkFrame). staying zs vs) own.is ∙ staying_append (words_on n way a) own.more vs in
      by_direction (λ i d. Goes (words_on i d b) (words_on i d v)) m its n way
      (subst (λ (zs : List LinkFrame). Goes zs (words_on n way v)) (sym (same_words n way (staying (words_on n way a) vs) a))
      (goes_front (staying (words_on n way a) vs) (staying own.more (left_after (words_on n way a) vs)) (words_on n way v) (subst (λ (zs : List LinkFrame). Goes zs (words_on n way v)) split g.here)))
      (λ other. subst (λ (zs : List LinkFrame). Goes zs (words_on m its v)) (sym (other_words m its n way (staying (words_on n way a) vs) a other))
      (goes_then (words_on m its a) (words_on m its w) (words_on m its v) (has m its) (g.others m its other)))

  run_stays : (step : Step) (steps : List Step) (w : World) → IsStill step → ((v : World) → Stays v (run t l steps v).world) → Stays w (run t l (step ∷ steps) w).world
  unfolding run
  run_stays step steps w still rest = stays_then w (stepped t l step w).world (run t l steps (stepped t l step w).world).world (step_stays t l step w still) (rest (stepped t l step w).world)

  for_stays : (n : ℕ) (way : Way) (k : ℕ) (v : Verdict) (steps : List Step) (w : World) → ((u : World) → Stays u (run t l steps u).world) → Stays w (run t l (steps_for n way k v ++ steps) w).world
  for_stays n way k verdict.Pass steps w rest = run_stays (Control n way k false) steps w tt rest
  for_stays n way k verdict.Lose steps w rest = run_stays (Lose n way k) steps w tt rest
  for_stays n way k verdict.Twice steps w rest = run_stays (Control n way k true) steps w tt rest
  for_stays n way k verdict.Later steps w rest = rest w

  through_stays : (n : ℕ) (way : Way) (k : ℕ) (xs : List LinkFrame) (vs : List Verdict) (w : World) → Stays w (run t l (gone_through n way k xs vs).steps w).world
  unfolding gone_through run
  through_stays n way k [] vs w = none_stays w
  through_stays n way k (x ∷ xs) vs w =
      elim (cases_Bool (is_control x)) [
        | inl e ↦ rw e (for_stays n way k (first_verdict vs) (gone_through n way (next_place k (first_verdict vs)) xs (after_first vs)).steps w (through_stays n way (next_place k (first_verdict vs)) xs (after_first vs)))
        | inr e ↦ rw e (run_stays (Carry n way) (gone_through n way k xs vs).steps w tt (through_stays n way k xs vs))
      ]

  one_part : (n : ℕ) (way : Way) (a : World) (vs : List Verdict) (m : ℕ) (its : Way) → IsPart (words_on m its (with_words n way (staying (words_on n way a) vs) a)) (words_on m its a)
  one_part n way a vs m its =
      let b : World = with_words n way (staying (words_on n way a) vs) a in
      by_direction (λ i d. IsPart (words_on i d b) (words_on i d a)) m its n way
      (subst (λ (zs : List LinkFrame). IsPart zs (words_on n way a)) (sym (same_words n way (staying (words_on n way a) vs) a)) (staying_part (words_on n way a) vs))
      (λ other. subst (λ (zs : List LinkFrame). IsPart zs (words_on m its a)) (sym (other_words m its n way (staying (words_on n way a) vs) a other)) (part_all (words_on m its a)))

  pub all_gone : (ds : List Direction) (a w : World) (vs : List Verdict) → HasIn a w → AreGone t l ds a w vs
  unfolding through_all run
  all_gone [] a w vs has = record { steps = []; moves = tt; is = refl; stood = a; still = none_stays w; has = has; part = λ n way. part_all (words_on n way a); control = tt; few = omega arith }
  all_gone (d ∷ ds) a w vs has =
      let n : ℕ = d.link in
      let way : Way = d.way in
      let mine : List Step = (goes_through d w vs).steps in
      let v : World = (run t l mine w).world in
      let vs1 : List Verdict = (goes_through d w vs).verdicts in
      let b : World = with_words n way (staying (words_on n way a) vs) a in
      let r : AreGone t l ds b v vs1 = all_gone ds b v vs1 (one_gone n way a w vs has) in
      let own = has n way in
      let here : IsPart (words_on n way r.stood) (staying (words_on n way a) vs) =
      subst (λ (zs : List LinkFrame). IsPart (words_on n way r.stood) zs) (same_words n way (staying (words_on n way a) vs) a) (r.part n way) in
      let short = part_short (words_on n way r.stood) (staying (words_on n way a) vs) here in
      let cost = through_cost n way 0 (words_on n way w) vs in
      let split = ap (λ (zs : List LinkFrame). length zs) (ap (λ (zs : List LinkFrame). staying zs vs) own.is ∙ staying_append (words_on n way a) own.more vs) in
      let both = length-append (staying (words_on n way a) vs) (staying own.more (left_after (words_on n way a) vs)) in
      let lost = lost_then mine r.steps in
      let sum = sum_by-cons (λ (e : Direction). length (words_on e.link e.way r.stood)) d ds in
      let rest = r.few in
      record {
        steps = mine ++ r.steps;
        moves = moves_before mine r.steps (through_moves n way 0 (words_on n way w) vs) r.moves;
        is = ap (λ (z : Stepped). followed_by (run t l mine w) z) r.is ∙ sym (run_then t l mine r.steps w);
        stood = r.stood;
        still = stays_then w v (through_all t l ds v vs1).done.world (through_stays n way 0 (words_on n way w) vs w) r.still;
        has = r.has;
        part = λ m its. part_then (words_on m its r.stood) (words_on m its b) (words_on m its a) (r.part m its) (one_part n way a vs m its);
        control = (part_each (λ (x : LinkFrame). is_control x ≡ true) (words_on n way r.stood) (staying (words_on n way a) vs) here (staying_control (words_on n way a) vs), r.control);
        few = omega (arith, short, cost, split, both, lost, sum, rest);
      }

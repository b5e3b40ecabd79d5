-- The steps of a segment give it.
use Rattle.std.proofs.Common.{◌≡◌, ◌≢◌, ℕ, ◌+◌, ◌<◌, ◌≤◌, ◌++◌, ◌==◌, inl, inr, List, [], ◌∷◌, map, take, drop, length, get_or, append_assoc, refl, ap, sym, ◌∙◌, subst}
use Rattle.std.specs.Prelude.{IsPermutation, if◌then◌else◌, Result, Ok, Err, OnOk, IfOk}
use Rattle.std.proofs.lemmas.Bool.{cases_Bool, ne_eqb}
use Rattle.std.proofs.lemmas.List.{drop_more, take_more, take_all}
use Rattle.std.proofs.lemmas.List.Sorted.{IsPermutation-refl}
use Rattle.std.proofs.lemmas.List.Sums.{sum_by-cons}
use Rattle.exb_model.specs.declared.command.Command.{Command}
use Rattle.exb_model.specs.declared.setup.Timed.{Timed}
use Rattle.exb_model.specs.Input.{Input, Segment, Mode, Eager, Seeded, basis_of}
use Rattle.exb_model.specs.declared.arrival.Arrival.{Arrival}
use Rattle.exb_model.specs.Setup.{Limits}
use Rattle.exb_model.specs.Tree.{Shape}
use Rattle.exb_world_spec.specs.AllowedSteps.{Can}
use Rattle.exb_world_spec.specs.Settling.{run}
use Rattle.exb_world_spec.specs.Steps.{stepped}
use Rattle.exb_world_spec.specs.Worlds.{World, Step, Tick}
use Rattle.exb_world_spec.specs.Runs.SessionLaws.{IsMove}
use Rattle.exb_world_spec.specs.Runs.Sessions as machine
use Rattle.exb_flight.specs.Items.{Each}
use Rattle.exb_world_laws.specs.WorldInput.{arrivals_of, commands_of}
use Rattle.exb_world_laws.specs.WorldInvariant.{given_in}
use Rattle.exb_world_laws.specs.SegmentRuns.{seconds_in, IsUnmarked, Gives, IsEager, nothing_given}
use Rattle.exb_world.specs.WorldContracts.{Network, world_of, tree_of, bounds_of, IsStepped}
use Rattle.exb_bridge.specs.TreeIndexes.{Site, limits_in}
use Rattle.exb_world_spec.specs.Runs.ReachedWorlds.{MayTake}
use Rattle.exb_schedule.specs.StepSequences.{HasRun}
use Rattle.exb_schedule.specs.SegmentRuns.{arrive, gives, letters_in, orders, tick, CanAll, CanFrom, IsSegment}
use Rattle.exb_schedule.proofs.StepSequences.{run_nothing, run_step, run_steps}
use Rattle.exb_schedule.proofs.SegmentRuns.{IsOrdered, moves_give_nothing}

-- ---- what may be made
pub can_first : (t : Shape) (l : Limits) (xs ys : List Step) (w : World) → CanFrom t l w (xs ++ ys) → CanFrom t l w xs
can_first t l [] ys w can = tt
can_first t l (x ∷ xs) ys w can = (can.0, can_first t l xs ys (stepped t l x w).world can.1)

can_then : (t : Shape) (l : Limits) (xs ys : List Step) (w : World) → CanFrom t l w (xs ++ ys) → CanFrom t l (run t l xs w).world ys
unfolding run
can_then t l [] ys w can = can
can_then t l (x ∷ xs) ys w can = can_then t l xs ys (stepped t l x w).world can.1

pub can_after : (xs ys : List Step) (old mid : Network) → CanAll old (xs ++ ys) → HasRun xs old mid → CanAll mid ys
can_after xs ys old mid can run =
    let Q : Site → Type 0 = λ s. CanFrom s.tree (limits_in s) (world_of mid) ys in
    let here = can_then (tree_of old) (bounds_of old) xs ys (world_of old) can in
    subst Q (sym run.moved.same.site) (subst (λ (w : World). CanFrom (tree_of old) (bounds_of old) w ys) (sym run.moved.world) here)

-- ---- seconds
pub tick_none : (n : ℕ) → n ≡ 0 → tick n ≡ []
tick_none n e = ap tick e

pub tick_some : (n : ℕ) → n ≢ 0 → tick n ≡ Tick n ∷ []
tick_some n ne = rw (ne_eqb n 0 ne) refl

-- ---- what is given
-- These steps let these seconds pass and give these commands and arrivals; none of them marks.
record GiveJust (xs : List Step) (seconds : List ℕ) (cs : List Command) (frames : List Arrival) : Type 0 where
  time : seconds_in xs ≡ seconds
  commands : commands_of (given_in xs) ≡ cs
  arrivals : arrivals_of (given_in xs) ≡ frames
  unmarked : Each IsUnmarked xs

of_moves : (xs : List Step) → machine.Each IsMove xs → GiveJust xs [] [] []
of_moves xs moves =
    let k = moves_give_nothing xs moves in
    record { time = k.0; commands = ap commands_of k.1; arrivals = ap arrivals_of k.1; unmarked = k.2 }

then_frames : (frames : List Arrival) (xs : List Step) (cs : List Command) → GiveJust xs [] cs [] → GiveJust (arrive frames ++ xs) [] cs frames
then_frames [] xs cs k = k
then_frames (a ∷ frames) xs cs k =
    let r = then_frames frames xs cs k in
    record { time = r.time; commands = r.commands; arrivals = ap (λ (zs : List Arrival). a ∷ zs) r.arrivals; unmarked = (tt, r.unmarked) }

then_orders : (timed : List Timed) (xs : List Step) (frames : List Arrival) → GiveJust xs [] [] frames → GiveJust (orders timed ++ xs) [] (map (λ (c : Timed). c.command) timed) frames
then_orders [] xs frames k = k
then_orders (c ∷ timed) xs frames k =
    let r = then_orders timed xs frames k in
    record { time = r.time; commands = ap (λ (zs : List Command). c.command ∷ zs) r.commands; arrivals = r.arrivals; unmarked = (tt, r.unmarked) }

then_tick : (seconds : ℕ) (xs : List Step) (cs : List Command) (frames : List Arrival) → GiveJust xs [] cs frames → GiveJust (tick seconds ++ xs) (if seconds == 0 then [] else seconds ∷ []) cs frames
then_tick seconds xs cs frames k =
    elim (cases_Bool (seconds == 0)) [
      | inl e ↦ rw e k
      | inr e ↦ rw e (record { time = ap (λ (ns : List ℕ). seconds ∷ ns) k.time; commands = k.commands; arrivals = k.arrivals; unmarked = (tt, k.unmarked) })
    ]

-- ---- a segment
split_gives : (seconds : ℕ) (cs : List Timed) (frames : List Arrival) (moves : List Step) → gives seconds cs frames ++ moves ≡ tick seconds ++ (orders cs ++ (arrive frames ++ moves))
split_gives seconds cs frames moves =
    append_assoc (tick seconds) (orders cs ++ arrive frames) moves ∙ ap (λ (zs : List Step). tick seconds ++ zs) (append_assoc (orders cs) (arrive frames) moves)

pub gives_segment : (i : Input) (s : Segment) (seconds : ℕ) (cs : List Timed) (frames : List Arrival) (moves : List Step) → IsSegment i s seconds cs frames → machine.Each IsMove moves →
    Gives (basis_of i) s (gives seconds cs frames ++ moves)
gives_segment i s seconds cs frames moves is only =
    subst (Gives (basis_of i) s) (sym (split_gives seconds cs frames moves)) given
  where
    k : GiveJust (tick seconds ++ (orders cs ++ (arrive frames ++ moves))) (if seconds == 0 then [] else seconds ∷ []) (map (λ (c : Timed). c.command) cs) frames
    k = then_tick seconds (orders cs ++ (arrive frames ++ moves)) _ _ (then_orders cs (arrive frames ++ moves) _ (then_frames frames moves [] (of_moves moves only)))

    given : Gives (basis_of i) s (tick seconds ++ (orders cs ++ (arrive frames ++ moves)))
    given =
        record {
          seconds = k.time ∙ ap (λ (n : ℕ). if n == 0 then [] else n ∷ []) (sym is.seconds_are);
          commands = k.commands ∙ sym is.commands;
          arrivals = subst (λ (zs : List Arrival). IsPermutation zs s.arrivals) (is.arrivals_are ∙ sym k.arrivals) (IsPermutation-refl s.arrivals);
          unmarked = k.unmarked;
        }

pub gives_eagerly : (i : Input) (s : Segment) (seconds : ℕ) (cs : List Timed) (frames : List Arrival) (moves : List Step) → IsSegment i s seconds cs frames → IsEager s (gives seconds cs frames ++ moves)
gives_eagerly i s seconds cs frames moves is =
    record {
      rest = orders cs ++ (arrive frames ++ moves);
      is = split_gives seconds cs frames moves ∙ ap (λ (n : ℕ). (if n == 0 then [] else Tick n ∷ []) ++ (orders cs ++ (arrive frames ++ moves))) (sym is.seconds_are);
    }

pub gives_nothing : (i : Input) (moves : List Step) → machine.Each IsMove moves → Gives (basis_of i) nothing_given moves
gives_nothing i moves only =
    let k = of_moves moves only in
    record { seconds = k.time; commands = k.commands; arrivals = subst (λ (zs : List Arrival). IsPermutation zs []) (sym k.arrivals) (IsPermutation-refl []); unmarked = k.unmarked }

-- ---- given one by one
-- Steps for so many of these were made, and those for the others may be made.
pub record HasGiven {A : Type 0} (f : A → Step) (xs : List A) (i : ℕ) (old now : Network) : Type 0 where
  pub made : HasRun (map f (take i xs)) old now
  pub can : CanAll now (map f (drop i xs))

pub given_first : {A : Type 0} (f : A → Step) (xs : List A) (n : Network) → CanAll n (map f xs) → HasGiven f xs 0 n n
given_first f xs n can = record { made = run_nothing n; can = can }

next_one : {A : Type 0} (f : A → Step) (xs : List A) (i : ℕ) (x : A) (old now : Network) → i < length xs → x ≡ get_or xs i x → HasGiven f xs i old now → CanAll now (f x ∷ map f (drop (i + 1) xs))
next_one f xs i x old now few is k =
    subst (λ (ys : List _). CanAll now (map f ys)) (drop_more xs i x few ∙ ap (λ y. y ∷ drop (i + 1) xs) (sym is)) k.can

pub given_can : {A : Type 0} (f : A → Step) (xs : List A) (i : ℕ) (x : A) (old now : Network) → i < length xs → x ≡ get_or xs i x → HasGiven f xs i old now → Can (tree_of now) (world_of now) (f x)
given_can f xs i x old now few is k = (next_one f xs i x old now few is k).0

maps_last : {A : Type 0} (f : A → Step) (xs : List A) (x : A) → map f (xs ++ x ∷ []) ≡ map f xs ++ f x ∷ []
maps_last f [] x = refl
maps_last f (y ∷ xs) x = ap (λ (zs : List Step). f y ∷ zs) (maps_last f xs x)

pub given_on : {A : Type 0} (f : A → Step) (xs : List A) (i : ℕ) (x : A) (old now new : Network) → i < length xs → x ≡ get_or xs i x → HasGiven f xs i old now → IsStepped (f x) now new →
    MayTake (tree_of now) (world_of now) (f x) → HasGiven f xs (i + 1) old new
given_on f xs i x old now new few is k stepped may =
    let rest : List Step = map f (drop (i + 1) xs) in
    let Q : Site → Type 0 = λ s. CanFrom s.tree (limits_in s) (world_of new) rest in
    let ahead : CanFrom (tree_of now) (bounds_of now) (world_of new) rest = subst (λ (w : World). CanFrom (tree_of now) (bounds_of now) w rest) (sym stepped.world) (next_one f xs i x old now few is k).1 in
    let longer : map f (take (i + 1) xs) ≡ map f (take i xs) ++ f x ∷ [] = ap (map f) (take_more xs i x few ∙ ap (λ y. take i xs ++ y ∷ []) (sym is)) ∙ maps_last f (take i xs) x in
    record {
      made = subst (λ (zs : List Step). HasRun zs old new) (sym longer) (run_steps (map f (take i xs)) (f x ∷ []) old now new k.made (run_step (f x) now new stepped may));
      can = subst Q (sym stepped.same.site) ahead;
    }

-- the plan of the next command, and those of the others
pub letters_next : (cs : List Timed) (i : ℕ) (c : Timed) → i < length cs → c ≡ get_or cs i c → letters_in (drop i cs) ≡ length c.fate + letters_in (drop (i + 1) cs)
letters_next cs i c few is =
    ap letters_in (drop_more cs i c few ∙ ap (λ (y : Timed). y ∷ drop (i + 1) cs) (sym is)) ∙ sum_by-cons (λ (x : Timed). length x.fate) c (drop (i + 1) cs)

pub given_all : {A : Type 0} (f : A → Step) (xs : List A) (i : ℕ) (old now : Network) → length xs ≤ i → HasGiven f xs i old now → HasRun (map f xs) old now
given_all f xs i old now all k = subst (λ ys. HasRun (map f ys) old now) (take_all i xs all) k.made

pub run_gives : (seconds : ℕ) (cs : List Timed) (frames : List Arrival) (old ticked told came : Network) → HasRun (tick seconds) old ticked → HasRun (orders cs) ticked told → HasRun (arrive frames) told came →
    HasRun (gives seconds cs frames) old came
run_gives seconds cs frames old ticked told came x y z = run_steps (tick seconds) (orders cs ++ arrive frames) old ticked came x (run_steps (orders cs) (arrive frames) ticked told came y z)

-- given in that order, in either mode
pub gives_in_order : (m : Mode) (i : Input) (s : Segment) (seconds : ℕ) (cs : List Timed) (frames : List Arrival) → IsSegment i s seconds cs frames → (moves : List Step) → IsOrdered m s (gives seconds cs frames ++ moves)
gives_in_order Eager i s seconds cs frames is moves = gives_eagerly i s seconds cs frames moves is
gives_in_order Seeded i s seconds cs frames is moves = tt

-- ---- results
pub on_ok_any : {A E P Q : Type 0} (r : Result A E) → (P → Q) → OnOk r P → OnOk r Q
on_ok_any (Ok x) f p = f p
on_ok_any (Err e) f p = tt

pub if_ok_any : {A E : Type 0} {P Q : A → Type 0} (r : Result A E) → ((x : A) → P x → Q x) → IfOk r P → IfOk r Q
if_ok_any (Ok x) f p = f x p
if_ok_any (Err e) f p = tt

pub on_ok_all : {A E P : Type 0} (r : Result A E) → P → OnOk r P
on_ok_all (Ok x) p = p
on_ok_all (Err e) p = tt

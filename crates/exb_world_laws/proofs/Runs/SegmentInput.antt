-- What plays give: the commands, the arrivals and the seconds of their segments.
use Rattle.std.proofs.Common.{◌≡◌, ℕ, ◌+◌, ◌==◌, ◌++◌, Bool, cond, List, [], ◌∷◌, length, filter, refl, ap, sym, ◌∙◌, subst, arith, inl, inr, append_assoc}
use Rattle.std.specs.Prelude.{filter_map, flat_map, sum_by, IsPermutation}
use Rattle.std.proofs.lemmas.Bool.{cases_Bool, eqb-true}
use Rattle.std.proofs.lemmas.List.{append-nil}
use Rattle.std.proofs.lemmas.List.Elements.{filter_map-append}
use Rattle.std.proofs.lemmas.List.Sorted.{sum_by-IsPermutation, IsPermutation-refl, IsPermutation-append}
use Rattle.std.proofs.lemmas.List.Sums.{length-filter, sum_by-append, sum_by-cons}
use Rattle.exb_model.specs.declared.command.Command.{Command}
use Rattle.exb_model.specs.History.{Basis, command_of}
use Rattle.exb_model.specs.declared.arrival.Arrival.{Arrival}
use Rattle.exb_model.specs.Input.{Segment}
use Rattle.exb_model.specs.Setup.{Limits}
use Rattle.exb_model.specs.Tree.{Shape}
use Rattle.exb_world_spec.specs.AllowedSteps.{IsSettled}
use Rattle.exb_world_spec.specs.Settling.{run}
use Rattle.exb_world_spec.specs.Steps.{Stepped, stepped}
use Rattle.exb_world_spec.specs.Worlds.{World, Step, Mark}
use Rattle.exb_world_spec.proofs.Rounds.{run_then}
use Rattle.exb_world_laws.specs.WorldInput.{Given, Came, Told, given_by, arrivals_of, arrivals_at, commands_of}
use Rattle.exb_world_laws.specs.WorldInvariant.{given_in}
use Rattle.exb_world_laws.specs.SegmentRuns.{seconds_by, seconds_in, marked_each, PlayAll}
use Rattle.exb_world_laws.proofs.InvariantSteps.{commands_append}
use Rattle.exb_world_laws.proofs.Runs.ExternalPorts.{total}

pub given_both : (xs ys : List Step) → given_in (xs ++ ys) ≡ given_in xs ++ given_in ys
given_both [] ys = refl
given_both (x ∷ xs) ys = ap (λ (g : List Given). given_by x ++ g) (given_both xs ys) ∙ sym (append_assoc (given_by x) (given_in xs) (given_in ys))

-- a mark gives nothing
pub given_marked : (xs : List Step) (xss : List (List Step)) → given_in (marked_each (xs ∷ xss)) ≡ given_in xs ++ given_in (marked_each xss)
given_marked xs xss =
    given_both (xs ++ Mark ∷ []) (marked_each xss) ∙ ap (λ (g : List Given). g ++ given_in (marked_each xss)) (given_both xs (Mark ∷ []) ∙ append-nil (given_in xs))

arrivals_both : (g more : List Given) → arrivals_of (g ++ more) ≡ arrivals_of g ++ arrivals_of more
arrivals_both [] more = refl
arrivals_both (Came a ∷ g) more = ap (λ (xs : List Arrival). a ∷ xs) (arrivals_both g more)
arrivals_both (Told c ∷ g) more = arrivals_both g more

-- ---- seconds
pub total_both : (xs ys : List Step) → total (seconds_in (xs ++ ys)) ≡ total (seconds_in xs) + total (seconds_in ys)
total_both xs ys = ap total (seconds_both xs ys) ∙ sum_by-append (λ (n : ℕ). n) (seconds_in xs) (seconds_in ys)
  where
    seconds_both : (xs ys : List Step) → seconds_in (xs ++ ys) ≡ seconds_in xs ++ seconds_in ys
    seconds_both [] ys = refl
    seconds_both (x ∷ xs) ys = ap (λ (ns : List ℕ). seconds_by x ++ ns) (seconds_both xs ys) ∙ sym (append_assoc (seconds_by x) (seconds_in xs) (seconds_in ys))

total_once : (seconds : ℕ) → total (cond (seconds == 0) [] (seconds ∷ [])) ≡ seconds
total_once seconds = elim (cases_Bool (seconds == 0)) [ inl e ↦ rw e (sym (eqb-true seconds 0 e)) | inr e ↦ rw e (omega arith) ]

-- ---- plays
module _ (t : Shape) (l : Limits) where
  -- and changes nothing of the world
  pub marked_world : (xs : List Step) (w : World) → (run t l (xs ++ Mark ∷ []) w).world ≡ (run t l xs w).world
  unfolding run stepped
  marked_world xs w = ap (λ (s : Stepped). s.world) (run_then t l xs (Mark ∷ []) w)

  module _ (b : Basis) where
    pub plays_settled : (ss : List Segment) (xss : List (List Step)) (w : World) → PlayAll t l b w ss xss → IsSettled t w → IsSettled t (run t l (marked_each xss) w).world
    unfolding run
    plays_settled [] [] w plays settled = settled
    plays_settled [] (xs ∷ xss) w plays settled = absurd plays
    plays_settled (s ∷ ss) [] w plays settled = absurd plays
    plays_settled (s ∷ ss) (xs ∷ xss) w plays settled =
        let ys : List Step = xs ++ Mark ∷ [] in
        let rest = plays_settled ss xss (run t l ys w).world plays.1 (subst (IsSettled t) (sym (marked_world xs w)) plays.0.settled) in
        subst (IsSettled t) (sym (ap (λ (s : Stepped). s.world) (run_then t l ys (marked_each xss) w))) rest

    -- the commands that the segments name
    pub plays_commands : (ss : List Segment) (xss : List (List Step)) (w : World) → PlayAll t l b w ss xss → commands_of (given_in (marked_each xss)) ≡ flat_map (λ (s : Segment). filter_map (command_of b) s.commands) ss
    plays_commands [] [] w plays = refl
    plays_commands [] (xs ∷ xss) w plays = absurd plays
    plays_commands (s ∷ ss) [] w plays = absurd plays
    plays_commands (s ∷ ss) (xs ∷ xss) w plays =
        ap commands_of (given_marked xs xss)
        ∙ (commands_append (given_in xs) (given_in (marked_each xss))
        ∙ (ap (λ (cs : List Command). cs ++ commands_of (given_in (marked_each xss))) plays.0.gives.commands
        ∙ ap (λ (cs : List Command). filter_map (command_of b) s.commands ++ cs) (plays_commands ss xss (run t l (xs ++ Mark ∷ []) w).world plays.1)))

    -- the arrivals of the segments
    pub plays_arrivals : (ss : List Segment) (xss : List (List Step)) (w : World) → PlayAll t l b w ss xss → IsPermutation (arrivals_of (given_in (marked_each xss))) (flat_map (λ (s : Segment). s.arrivals) ss)
    plays_arrivals [] [] w plays = IsPermutation-refl []
    plays_arrivals [] (xs ∷ xss) w plays = absurd plays
    plays_arrivals (s ∷ ss) [] w plays = absurd plays
    plays_arrivals (s ∷ ss) (xs ∷ xss) w plays =
        subst (λ (xs : List Arrival). IsPermutation xs (s.arrivals ++ flat_map (λ (z : Segment). z.arrivals) ss)) (sym (ap arrivals_of (given_marked xs xss) ∙ arrivals_both (given_in xs) (given_in (marked_each xss))))
        (IsPermutation-append (arrivals_of (given_in xs)) s.arrivals (arrivals_of (given_in (marked_each xss))) (flat_map (λ (z : Segment). z.arrivals) ss) plays.0.gives.arrivals (plays_arrivals ss xss (run t l (xs ++ Mark ∷ []) w).world plays.1))

    -- and their seconds
    pub plays_seconds : (ss : List Segment) (xss : List (List Step)) (w : World) → PlayAll t l b w ss xss → total (seconds_in (marked_each xss)) ≡ sum_by (λ (s : Segment). s.seconds) ss
    plays_seconds [] [] w plays = refl
    plays_seconds [] (xs ∷ xss) w plays = absurd plays
    plays_seconds (s ∷ ss) [] w plays = absurd plays
    plays_seconds (s ∷ ss) (xs ∷ xss) w plays =
        let whole = total_both (xs ++ Mark ∷ []) (marked_each xss) in
        let first = total_both xs (Mark ∷ []) in
        let none : total (seconds_in (Mark ∷ [])) ≡ 0 = refl in
        let its : total (seconds_in xs) ≡ s.seconds = ap total plays.0.gives.seconds ∙ total_once s.seconds in
        let rest = plays_seconds ss xss (run t l (xs ++ Mark ∷ []) w).world plays.1 in
        let sums = sum_by-cons (λ (z : Segment). z.seconds) s ss in
        omega (arith, whole, first, none, its, rest, sums)

-- their numbers are those of the segments
pub commands_numbered : (b : Basis) (ss : List Segment) → flat_map (λ (s : Segment). filter_map (command_of b) s.commands) ss ≡ filter_map (command_of b) (flat_map (λ (s : Segment). s.commands) ss)
commands_numbered b [] = refl
commands_numbered b (s ∷ ss) =
    ap (λ (cs : List Command). filter_map (command_of b) s.commands ++ cs) (commands_numbered b ss) ∙ sym (filter_map-append (command_of b) s.commands (flat_map (λ (z : Segment). z.commands) ss))

-- ---- arrivals of one port
pub port_arrivals : (p : ℕ) (g : List Given) → arrivals_at p g ≡ filter (λ (a : Arrival). a.port == p) (arrivals_of g)
port_arrivals p [] = refl
port_arrivals p (Told c ∷ g) = port_arrivals p g
port_arrivals p (Came a ∷ g) = elim (cases_Bool (a.port == p)) [ inl e ↦ rw e (ap (λ (xs : List Arrival). a ∷ xs) (port_arrivals p g)) | inr e ↦ rw e (port_arrivals p g) ]

pub filtered_same : {A : Type 0} (test : A → Bool) (xs ys : List A) → IsPermutation xs ys → length (filter test xs) ≡ length (filter test ys)
filtered_same {A} test xs ys perm = length-filter test xs ∙ (sym (sum_by-IsPermutation (λ (x : A). cond (test x) 1 0) xs ys perm) ∙ sym (length-filter test ys))

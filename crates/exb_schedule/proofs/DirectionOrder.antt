-- The directions of one way, in their order.
use Rattle.std.proofs.Common.{◌≡◌, ℕ, zero, suc, ◌+◌, ◌-◌, ◌<◌, ◌≤◌, List, [], ◌∷◌, map, drop, Some, slice_get, refl, ap, sym, ◌∙◌, subst, arith}
use Rattle.std.proofs.lemmas.List.{drop_more, drop-drop}
use Rattle.std.proofs.lemmas.Option.{slice_get_within, get_or_from_slice_get}
use Rattle.exb_model.specs.declared.setup.Verdict.{Verdict}
use Rattle.exb_model.specs.Setup.{Limits}
use Rattle.exb_model.specs.Tree.{Shape}
use Rattle.exb_world_spec.specs.Settling.{direction, nothing, round, through_all}
use Rattle.exb_world_spec.specs.Steps.{Stepped, stepped, words_on}
use Rattle.exb_world_spec.specs.Worlds.{World, Way, Up, Down, Beat}
use Rattle.exb_world.specs.WorldContracts.{Network, world_of, tree_of, bounds_of, IsStepped}
use Rattle.exb_bridge.specs.TreeIndexes.{Site, limits_in}
use Rattle.exb_world.specs.LinkTurns.{order_of}
use Rattle.exb_world_spec.specs.Runs.ReachedWorlds.{MayTake}
use Rattle.exb_schedule.specs.StepSequences.{HasGone}
use Rattle.exb_schedule.specs.Rounds.{goes_along, goes_one_way, HasAsked, Leads}
use Rattle.exb_schedule.proofs.StepSequences.{Play, gone_step, gone_world, leads_begin, leads_by, leads_end, leads_on, leads_same, run_step, then_end}
use Rattle.exb_schedule.proofs.Rounds.{round_is, then_beat, then_down, through_empty, through_next, through_none}

-- ---- without a word
module _ (t : Shape) (l : Limits) (way : Way) where
  abbrev pub through : List ℕ → World → Play
  through ns w vs = through_all t l (map (direction way) ns) w vs

  abbrev AreEmpty : List ℕ → ℕ → World → Type 0
  AreEmpty ns m w = (k n : ℕ) → k < m → slice_get ns k ≡ Some n → words_on n way w ≡ []

  less_one : (n : ℕ) (ns : List ℕ) (m : ℕ) (w : World) → AreEmpty (n ∷ ns) (suc m) w → AreEmpty ns m w
  less_one n ns m w none k j low at = none (suc k) j (omega (arith, low)) at

  -- the first ones contribute nothing
  skip : (ns : List ℕ) (m : ℕ) (w : World) → AreEmpty ns m w → (vs : List Verdict) → through ns w vs ≡ through (drop m ns) w vs
  skip ns zero w none vs = refl
  skip [] (suc m) w none vs = refl
  skip (n ∷ ns) (suc m) w none vs =
      through_empty t l (direction way n) (map (direction way) ns) w vs (none 0 n (omega arith) refl) ∙ skip ns m w (less_one n ns m w none) vs

  skip_all : (ns : List ℕ) (w : World) → ((k n : ℕ) → slice_get ns k ≡ Some n → words_on n way w ≡ []) → (vs : List Verdict) → through ns w vs ≡ record { done = nothing w; verdicts = vs }
  skip_all [] w none vs = through_none t l w vs
  skip_all (n ∷ ns) w none vs = through_empty t l (direction way n) (map (direction way) ns) w vs (none 0 n refl) ∙ skip_all ns w (λ k j at. none (suc k) j at) vs

at_drop : (ns : List ℕ) (m k : ℕ) → slice_get (drop m ns) k ≡ slice_get ns (m + k)
at_drop ns zero k = (let e : k ≡ 0 + k = omega arith in ap (slice_get ns) e)
at_drop [] (suc m) k = refl
at_drop (n ∷ ns) (suc m) k = (let e : suc (m + k) ≡ suc m + k = omega arith in at_drop ns m k ∙ ap (slice_get (n ∷ ns)) e)

drop_at : (ns : List ℕ) (m n : ℕ) → slice_get ns m ≡ Some n → drop m ns ≡ n ∷ drop (m + 1) ns
drop_at ns m n at = drop_more ns m n (slice_get_within ns m n at) ∙ ap (λ (y : ℕ). y ∷ drop (m + 1) ns) (get_or_from_slice_get ns m n n at)

-- ---- the order
module _ (way : Way) (before budget : ℕ) (old now : Network) where
  abbrev whole : Play
  whole = goes_one_way (tree_of old) (bounds_of old) way (world_of old)

  -- Of the whole those from a place on are still to be gone through.
  abbrev pub ThoseFrom : ℕ → Type 0
  ThoseFrom from =
      Leads (goes_one_way (tree_of old) (bounds_of old) way (world_of old)) (through (tree_of now) (bounds_of now) way (drop from (order_of (tree_of now) way)) (world_of now)) before budget old now

  -- Those before the place have no word.
  pub none_between : (from place : ℕ) → from ≤ place → ((k n : ℕ) → from ≤ k → k < place → slice_get (order_of (tree_of now) way) k ≡ Some n → words_on n way (world_of now) ≡ []) →
      ThoseFrom from → ThoseFrom place
  none_between from place low none leads =
      let t : Shape = tree_of now in
      let l : Limits = bounds_of now in
      let w : World = world_of now in
      let ns : List ℕ = order_of (tree_of now) way in
      let empty : (k n : ℕ) → k < place - from → slice_get (drop from ns) k ≡ Some n → words_on n way w ≡ [] =
      λ k n h at. none (from + k) n (omega arith) (omega (arith, h, low)) (sym (at_drop ns from k) ∙ at) in
      let far : drop (place - from) (drop from ns) ≡ drop place ns = (let e : from + (place - from) ≡ place = omega (arith, low) in drop-drop (place - from) from ns ∙ ap (λ (m : ℕ). drop m ns) e) in
      leads_same whole (through t l way (drop from ns) w) (through t l way (drop place ns) w) before budget old now leads
      (λ vs. skip t l way (drop from ns) (place - from) w empty vs ∙ ap (λ (ms : List ℕ). through t l way ms w vs) far)

  pub none_after : (from : ℕ) → ((k n : ℕ) → from ≤ k → slice_get (order_of (tree_of now) way) k ≡ Some n → words_on n way (world_of now) ≡ []) → ThoseFrom from →
      HasAsked (goes_one_way (tree_of old) (bounds_of old) way (world_of old)) before budget old now
  none_after from none leads =
      let t : Shape = tree_of now in
      let l : Limits = bounds_of now in
      let w : World = world_of now in
      let ns : List ℕ = order_of (tree_of now) way in
      let empty : (k n : ℕ) → slice_get (drop from ns) k ≡ Some n → words_on n way w ≡ [] =
      λ k n at. none (from + k) n (omega arith) (sym (at_drop ns from k) ∙ at) in
      leads_end whole (through t l way (drop from ns) w) before budget old now leads (skip_all t l way (drop from ns) w empty)

-- ---- one direction more
pub those_first : (way : Way) (budget : ℕ) (n : Network) → ThoseFrom way budget budget n n 0
those_first way budget n = leads_begin (goes_one_way (tree_of n) (bounds_of n) way (world_of n)) budget n

pub those_next : (way : Way) (before budget less : ℕ) (old now new : Network) (place link : ℕ) → slice_get (order_of (tree_of now) way) place ≡ Some link → ThoseFrom way before budget old now place →
    HasAsked (goes_along (tree_of now) (bounds_of now) (direction way link) (world_of now)) budget less now new → ThoseFrom way before less old new (place + 1)
those_next way before budget less old now new place link at leads one =
    let t : Shape = tree_of now in
    let l : Limits = bounds_of now in
    let ns : List ℕ = order_of (tree_of now) way in
    let rest : List ℕ = drop (place + 1) ns in
    let whole : Play = goes_one_way (tree_of old) (bounds_of old) way (world_of old) in
    let on : Leads whole (through t l way rest (world_of new)) before less old new =
    leads_by whole (through t l way (drop place ns) (world_of now)) (goes_along t l (direction way link) (world_of now)) (λ w. through t l way rest w) before budget less old now new leads
    (λ vs. ap (λ (ms : List ℕ). through t l way ms (world_of now) vs) (drop_at ns place link at) ∙ through_next t l (direction way link) (map (direction way) rest) (world_of now) vs) one in
    let Q : Site → Type 0 = λ s. Leads whole (through s.tree (limits_in s) way (drop (place + 1) (order_of s.tree way)) (world_of new)) before less old new in
    subst Q (sym one.gone.made.moved.same.site) on

-- ---- a round
pub has_round : (before middle less last : ℕ) (old up down new : Network) → HasAsked (goes_one_way (tree_of old) (bounds_of old) Up (world_of old)) before middle old up →
    HasAsked (goes_one_way (tree_of up) (bounds_of up) Down (world_of up)) middle less up down → IsStepped Beat down new → MayTake (tree_of down) (world_of down) Beat → last ≤ less →
    HasAsked (round (tree_of old) (bounds_of old) (world_of old)) before last old new
has_round before middle less last old up down new x y made may low =
    let t : Shape = tree_of old in
    let l : Limits = bounds_of old in
    let whole : Play = round t l (world_of old) in
    let P : Site → Type 0 = λ s. HasAsked (goes_one_way s.tree (limits_in s) Down (world_of up)) middle less up down in
    let Q : Site → Type 0 = λ s. HasGone (stepped s.tree (limits_in s) Beat (world_of down)) down new in
    let one : Leads whole (then_down t l (world_of up)) before middle old up =
    leads_by whole whole (goes_one_way t l Up (world_of old)) (then_down t l) before before middle old old up (leads_begin whole before old) (round_is t l (world_of old)) x in
    let two : Leads whole (then_beat t l (world_of down)) before less old down =
    leads_by whole (then_down t l (world_of up)) (goes_one_way t l Down (world_of up)) (then_beat t l) before middle less old up down one (λ vs. refl) (subst P x.gone.made.moved.same.site y) in
    let beat : HasGone (stepped (tree_of down) (bounds_of down) Beat (world_of down)) down new = gone_step Beat down new tt (run_step Beat down new made may) in
    let beaten : HasGone (stepped t l Beat (world_of down)) down new = subst Q (y.gone.made.moved.same.site ∙ x.gone.made.moved.same.site) beat in
    let b : Stepped = stepped t l Beat (world_of down) in
    let none : Play = λ more. record { done = nothing (world_of new); verdicts = more } in
    let three : Leads whole none before last old new =
    leads_on whole (then_beat t l (world_of down)) none [] b before less last old down new two (λ more. sym (then_end b (world_of new) more (gone_world b down new beaten))) (omega (arith, low)) beaten in
    leads_end whole none before last old new three (λ more. refl)

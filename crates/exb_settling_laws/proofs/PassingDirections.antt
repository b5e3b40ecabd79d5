-- A direction in which each word passes: its words are taken one after another, and it is empty afterwards.
use Rattle.std.proofs.Common.{◌≡◌, inl, inr, ℕ, ◌<◌, true, false, List, [], ◌∷◌, length, Option, Some, filter, refl, ap, sym, ◌∙◌, subst, arith}
use Rattle.std.proofs.lemmas.Bool.{cases_Bool}
use Rattle.exb_model.specs.Tree.{Shape, is_extender}
use Rattle.exb_model.specs.Setup.{Limits}
use Rattle.exb_link.specs.declared.link_frame.LinkFrame.{LinkFrame}
use Rattle.exb_link.specs.LinkFrames.{is_control, is_data, leading, without_data, without_control}
use Rattle.exb_world_spec.specs.Worlds.{World, Way, Step, Carry, Control}
use Rattle.exb_world_spec.specs.AllowedSteps.{Can}
use Rattle.exb_world_spec.specs.Steps.{stepped, done_by, takes, takes_any, words_on, with_words, first_data, control_at}
use Rattle.exb_world_spec.specs.Settling.{gone_through, run, direction, goes_through}
use Rattle.exb_settling_laws.specs.SettlingFacts.{OnLink, carries, delivers, Moves}

module _ (t : Shape) (l : Limits) (I J : World → Type 0) (inv : Moves t l I) (n : ℕ) (way : Way) where
  -- What is to be shown of each word that is taken, in this order; the other words of the direction stay on the link.
  pub record EachTaken : Type 0 where
    pub keeps : (x : LinkFrame) (rest : List LinkFrame) (w : World) → words_on n way w ≡ x ∷ rest → I w → J w → I (takes t l n way x (with_words n way rest w)).world → J (takes t l n way x (with_words n way rest w)).world
    pub stays : (x : LinkFrame) (rest : List LinkFrame) (w : World) → words_on n way w ≡ x ∷ rest → I w → words_on n way (takes t l n way x (with_words n way rest w)).world ≡ rest

  abbrev After : World → Type 0
  After w = I w × J w × (words_on n way w ≡ [])

  module _ (there : is_extender t n ≡ true) (each_taken : EachTaken) where
    step_takes : (step : Step) (o : Option LinkFrame) (left : List LinkFrame) (x : LinkFrame) (rest : List LinkFrame) (w : World) → (stepped t l step w).world ≡ (takes_any t l n way o left w).world → o ≡ Some x → left ≡ rest →
        (stepped t l step w).world ≡ (takes t l n way x (with_words n way rest w)).world
    step_takes step o left x rest w e f g =
        let P : Option LinkFrame → List LinkFrame → Type 0 = λ a b. (takes_any t l n way o left w).world ≡ (takes_any t l n way a b w).world in
        e ∙ subst (λ (b : List LinkFrame). P (Some x) b) g (subst (λ (a : Option LinkFrame). P a left) f refl)

    is_done : (step : Step) (w : World) → (stepped t l step w).world ≡ (done_by t l step w).world
    unfolding stepped
    is_done step w = refl

    abbrev Rest : List LinkFrame → Type 0
    Rest rest = (v : World) → words_on n way v ≡ rest → I v → J v → After (run t l (gone_through n way 0 rest []).steps v).world

    one : (step : Step) (x : LinkFrame) (rest : List LinkFrame) (w : World) → OnLink step → Can t w step → (stepped t l step w).world ≡ (takes t l n way x (with_words n way rest w)).world → words_on n way w ≡ x ∷ rest →
        Rest rest → I w → J w → After (run t l (step ∷ (gone_through n way 0 rest []).steps) w).world
    unfolding run
    one step x rest w r can same e go i j =
        let v : World = (takes t l n way x (with_words n way rest w)).world in
        let i2 : I (takes t l n way x (with_words n way rest w)).world = subst I same (inv.steps step w r can i) in
        let A : World → Type 0 = λ u. After (run t l (gone_through n way 0 rest []).steps u).world in
        subst A (sym same) (go v (each_taken.stays x rest w e i) i2 (each_taken.keeps x rest w e i j i2))

    pub passes_on : (ws : List LinkFrame) → Rest ws
    unfolding gone_through run
    passes_on [] w e i j = (i, j, e)
    passes_on (x ∷ rest) w e i j =
        elim (cases_Bool (is_control x)) [
          | inl c ↦
              let few : 0 < leading (words_on n way w) = (let P : List LinkFrame → Type 0 = λ ws. 0 < leading ws in subst P (sym e) (rw c (omega arith))) in
              let found : control_at (words_on n way w) 0 ≡ Some x = ap (λ (ws : List LinkFrame). control_at ws 0) e ∙ (rw c refl) in
              let left : without_control (words_on n way w) 0 ≡ rest = ap (λ (ws : List LinkFrame). without_control ws 0) e ∙ (rw c refl) in
              rw c (
              one (Control n way 0 false) x rest w (delivers n way 0 false) (there, few)
              (step_takes (Control n way 0 false) (control_at (words_on n way w) 0) (without_control (words_on n way w) 0) x rest w (is_done (Control n way 0 false) w) found left) e (passes_on rest) i j)
          | inr c ↦
              let few : 0 < length (filter is_data (words_on n way w)) = (let P : List LinkFrame → Type 0 = λ ws. 0 < length (filter is_data ws) in subst P (sym e) (rw c (omega arith))) in
              let found : first_data (words_on n way w) ≡ Some x = ap first_data e ∙ (rw c refl) in
              let left : without_data (words_on n way w) ≡ rest = ap without_data e ∙ (rw c refl) in
              rw c (
              one (Carry n way) x rest w (carries n way) (there, few)
              (step_takes (Carry n way) (first_data (words_on n way w)) (without_data (words_on n way w)) x rest w (is_done (Carry n way) w) found left) e (passes_on rest) i j)
        ]

    pub direction_passes : (w : World) → I w → J w → After (run t l (goes_through (direction way n) w []).steps w).world
    direction_passes w i j = passes_on (words_on n way w) w refl i j

-- A round in which each word passes, and in which nothing is done of what is planned, is a round of each session that
-- matters: from what one taken word and one beat do to a session.
use Rattle.std.proofs.Common.{◌≡◌, inl, inr, ⊎_elim, ℕ, zero, suc, ◌≤◌, ◌<◌, true, false, List, [], ◌∷◌, ◌++◌, map, length, Option, Some, None, refl, ap, sym, ◌∙◌, subst, arith}
use Rattle.std.proofs.lemmas.Bool.{cases_lt, lt-ltb, le-ltb}
use Rattle.exb_model.specs.Tree.{Shape, IsTree, device, on, is_extender, depth, path, up, top, by_depth}
use Rattle.exb_model.specs.Setup.{Limits}
use Rattle.exb_link.specs.declared.link_frame.LinkFrame.{LinkFrame}
use Rattle.exb_control_spec.specs.Plans.HeldNumbers.{Held}
use Rattle.exb_control_spec.specs.declared.job.Job.{Job}
use Rattle.exb_control_spec.specs.declared.job.Job.TheVariants as job
use Rattle.exb_control_spec.specs.Machine.{State, Work}
use Rattle.exb_world_spec.specs.Worlds.{World, Up, Down, Beat, with_up, with_down}
use Rattle.exb_world_spec.specs.Steps.{stepped, takes}
use Rattle.exb_world_spec.specs.Settling.{direction, planned_in, deepest_first, directions}
use Rattle.exb_world_spec.specs.Runs.Sessions.{Each}
use Rattle.exb_world_spec.proofs.Trunks.{above_there}
use Rattle.exb_settling_laws.specs.StopAndWait.{Message as Note}
use Rattle.exb_settling_laws.specs.SessionPair.{Near, Far, Pair, near_all, near_beat, near_empty, near_up, far_all, far_beat, far_empty, far_down, pass_round}
use Rattle.exb_settling_laws.specs.Streams.{is_of, words_of, ups_of, downs_of, near_at, far_at, pair_at}
use Rattle.exb_settling_laws.specs.SettlingFacts.{QueueFacts, Matters, IsInvariant}
use Rattle.exb_settling_laws.specs.SettlingBound.{HasHello, IsSwept, SettleEnds}
use Rattle.exb_settling_laws.proofs.VerdictCosts.{passed}
use Rattle.exb_settling_laws.proofs.VerdictCosts.{pass_round as passed_round}
use Rattle.exb_settling_laws.proofs.AnswerStages.{Passing}
use Rattle.exb_settling_laws.proofs.LastRound.{ends}
use Rattle.exb_settling_laws.proofs.ControlTurns.{calm_in, Turned, same_planned, turned_then, turned_less, takes_rest, reacts_ends, until_beat, queue_same, work_same, heard_is_same, round_planned}
use Rattle.exb_settling_laws.proofs.Streams.{depth_some}
use Rattle.exb_settling_laws.proofs.RoundPhases.{passed_append, up_phase, down_phase}

-- the words on the way up are each extender's own
abbrev pub Own : Shape → World → Type 0
Own t w = (m : ℕ) → is_extender t m ≡ true → Each (λ (x : LinkFrame). is_of t w.control.held m m x ≡ true) (w.up m)

-- ---- what is to be shown of one word and of one beat
pub record Micro (t : Shape) (l : Limits) (I : World → Type 0) : Type 0 where
  -- A word is taken from below, and the control stays: the session is as if it had been taken already.
  pub up : (w : World) (n : ℕ) (x : LinkFrame) (rest : List LinkFrame) (j : ℕ) → I w → is_extender t n ≡ true → w.up n ≡ x ∷ rest → I (takes t l n Up x (with_up n rest w)).world →
      (takes t l n Up x (with_up n rest w)).world.control ≡ w.control → Matters t w.control.work w.control.queue j →
      (near_up (pair_at t (takes t l n Up x (with_up n rest w)).world j) ≡ near_up (pair_at t w j)) × (far_empty (far_at t (takes t l n Up x (with_up n rest w)).world j) ≡ far_empty (far_at t w j))
  -- an announcement of an extender that wasn't heard isn't taken then
  pub hello : (w : World) (n : ℕ) (x : LinkFrame) (rest : List LinkFrame) (j : ℕ) → I w → is_extender t n ≡ true → w.up n ≡ x ∷ rest → I (takes t l n Up x (with_up n rest w)).world →
      (takes t l n Up x (with_up n rest w)).world.control ≡ w.control → Matters t w.control.work w.control.queue j → w.control.heard j ≡ false →
      HasHello (far_at t w j).sent → HasHello (far_at t (takes t l n Up x (with_up n rest w)).world j).sent
  -- a word is taken from above
  pub down : (w : World) (n : ℕ) (x : LinkFrame) (rest : List LinkFrame) (j : ℕ) → I w → is_extender t n ≡ true → w.down n ≡ x ∷ rest → I (takes t l n Down x (with_down n rest w)).world →
      Matters t w.control.work w.control.queue j →
      (far_all (far_at t (takes t l n Down x (with_down n rest w)).world j) (near_at t (takes t l n Down x (with_down n rest w)).world j).sent ≡ far_all (far_at t w j) (near_at t w j).sent)
      × (near_empty (near_at t (takes t l n Down x (with_down n rest w)).world j) ≡ near_empty (near_at t w j))
  pub own : (w : World) (n : ℕ) (x : LinkFrame) (rest : List LinkFrame) → I w → is_extender t n ≡ true → w.down n ≡ x ∷ rest → Own t w → Own t (takes t l n Down x (with_down n rest w)).world
  -- a beat
  pub beat : (w : World) (j : ℕ) → I w → I (stepped t l Beat w).world → Matters t w.control.work w.control.queue j →
      pair_at t (stepped t l Beat w).world j ≡ record { near = near_beat (near_at t w j); far = far_beat (far_at t w j) }
  pub rest : (w : World) → I w → w.control.work ≡ None → ((m : ℕ) → is_extender t m ≡ true → w.down m ≡ []) → Own t w → IsSwept t (stepped t l Beat w).world

-- ---- links without words
module _ (t : Shape) (tree : IsTree t) (h : Held) (j : ℕ) (f : ℕ → List LinkFrame) (none : (m : ℕ) → is_extender t m ≡ true → f m ≡ []) where
  pub ups_none : (d k : ℕ) → is_extender t k ≡ true → ups_of t h f j d k ≡ []
  unfolding ups_of
  ups_none zero k there = refl
  ups_none (suc d) k there =
      let own : words_of t h j k (f k) ≡ [] = ap (words_of t h j k) (none k there) in
      elim (cases_lt (on t k) 64) [
        | inl low ↦ rw (lt-ltb (on t k) 64 low) own
        | inr deep ↦ rw (le-ltb (on t k) 64 deep) (ap (λ (v : List Note). v ++ words_of t h j k (f k)) (ups_none d (device (on t k)) (above_there t tree k there deep)) ∙ own)
      ]

  pub downs_none : (d k : ℕ) → is_extender t k ≡ true → downs_of t h f j d k ≡ []
  unfolding downs_of
  downs_none zero k there = refl
  downs_none (suc d) k there =
      let own : words_of t h j k (f k) ≡ [] = ap (words_of t h j k) (none k there) in
      elim (cases_lt (on t k) 64) [
        | inl low ↦ rw (lt-ltb (on t k) 64 low) (ap (λ (v : List Note). v ++ []) own)
        | inr deep ↦ rw (le-ltb (on t k) 64 deep) (ap (λ (v : List Note). v ++ downs_of t h f j d (device (on t k))) own ∙ downs_none d (device (on t k)) (above_there t tree k there deep))
      ]

-- ---- depths
up_few : (on : List ℕ) (d p : ℕ) → top on d p < 64 → length (up on (suc d) p) ≤ suc d
unfolding up top
up_few on zero p low = rw (lt-ltb p 64 low) (omega arith)
up_few on (suc d) p low =
    elim (cases_lt p 64) [
      | inl l ↦ rw (lt-ltb p 64 l) (omega arith)
      | inr g ↦ (let below = rw (le-ltb p 64 g) at low in let k = up_few on d _ below in rw (le-ltb p 64 g) (omega arith))
    ]

pub depth_few : (t : Shape) → IsTree t → (n : ℕ) → is_extender t n ≡ true → depth t n ≤ 64
unfolding path
depth_few t tree n there = let h = Rattle.exb_world_spec.proofs.Trunks.hangs_there t n there in up_few t.on 63 (on t n) (tree.rooted n h.extender h.there)

module _ (t : Shape) (l : Limits) (tree : IsTree t) (I : World → Type 0) (inv : IsInvariant t l I) (micro : Micro t l I) where
  -- ---- the upward phase
  -- the sessions that matter are as if all that stood on the way up had been taken
  pub record Same (w v : World) : Type 0 where
    pub near : (j : ℕ) → Matters t w.control.work w.control.queue j → near_up (pair_at t v j) ≡ near_up (pair_at t w j)
    pub far : (j : ℕ) → Matters t w.control.work w.control.queue j → far_empty (far_at t v j) ≡ far_empty (far_at t w j)
    pub hello : (j : ℕ) → Matters t w.control.work w.control.queue j → w.control.heard j ≡ false → HasHello (far_at t w j).sent → HasHello (far_at t v j).sent

  abbrev Risen : World → World → Type 0
  Risen w v = Turned t l tree w v × (v.control ≡ w.control → Same w v)

  matters_too : (w v : World) (j : ℕ) → v.control ≡ w.control → Matters t w.control.work w.control.queue j → Matters t v.control.work v.control.queue j
  matters_too w v j e m = let P : State → Type 0 = λ s. Matters t s.work s.queue j in subst P (sym e) m

  rises : (w : World) (n : ℕ) (x : LinkFrame) (rest : List LinkFrame) (v : World) → is_extender t n ≡ true → v.up n ≡ x ∷ rest → I v → Risen w v → I (takes t l n Up x (with_up n rest v)).world → Risen w (takes t l n Up x (with_up n rest v)).world
  rises w n x rest v there e i r i2 =
      let u : World = (takes t l n Up x (with_up n rest v)).world in
      let turn : Turned t l tree v (takes t l n Up x (with_up n rest v)).world = takes_rest t l tree n Up x rest v (calm_in t l v (inv.facts v i)) there in (
        turned_then t l tree w v (takes t l n Up x (with_up n rest v)).world r.0 turn,
        λ same.
            let before : v.control ≡ w.control = ⊎_elim (λ (z : v.control ≡ w.control). z) (λ (less : planned_in t l v < planned_in t l w).
            absurd (let a = turned_less t l tree v (takes t l n Up x (with_up n rest v)).world turn in let b = same_planned t l tree w (takes t l n Up x (with_up n rest v)).world same in omega arith)) r.0 in
            let now : (takes t l n Up x (with_up n rest v)).world.control ≡ v.control = same ∙ sym before in
            let s : Same w v = r.1 before in
            record {
              near = (λ j m. (micro.up v n x rest j i there e i2 now (matters_too w v j before m)).0 ∙ s.near j m);
              far = (λ j m. (micro.up v n x rest j i there e i2 now (matters_too w v j before m)).1 ∙ s.far j m);
              hello = (λ j m unheard h. micro.hello v n x rest j i there e i2 now (matters_too w v j before m) (ap (λ (z : State). z.heard j) before ∙ unheard) (s.hello j m unheard h));
            },
      )

  abbrev pub risen : World → World
  risen w = passed t l (map (direction Up) (deepest_first t 64)) w

  pub rose : (w : World) → I w → I (risen w) × Risen w (risen w) × ((m : ℕ) → is_extender t m ≡ true → (risen w).up m ≡ [])
  rose w i = up_phase t l tree (depth_few t tree) I (Risen w) inv (rises w) (depth_some t) w i (inl refl, λ e. record { near = λ j m. refl; far = λ j m. refl; hello = λ j m u h. h })

  -- ---- the downward phase
  pub record Sunk (w v : World) : Type 0 where
    pub control : v.control ≡ w.control
    pub near : (j : ℕ) → Matters t w.control.work w.control.queue j → near_empty (near_at t v j) ≡ near_empty (near_at t w j)
    pub far : (j : ℕ) → Matters t w.control.work w.control.queue j → far_all (far_at t v j) (near_at t v j).sent ≡ far_all (far_at t w j) (near_at t w j).sent
    pub own : Own t w → Own t v

  sinks : (w : World) (n : ℕ) (x : LinkFrame) (rest : List LinkFrame) (v : World) → is_extender t n ≡ true → v.down n ≡ x ∷ rest → I v → Sunk w v → I (takes t l n Down x (with_down n rest v)).world → Sunk w (takes t l n Down x (with_down n rest v)).world
  sinks w n x rest v there e i s i2 =
      let now : (takes t l n Down x (with_down n rest v)).world.control ≡ v.control = (reacts_ends t n x.stamp (Rattle.exb_extender.specs.Machine.Arrives Rattle.exb_extender.specs.declared.sends.Side.TheVariants.Up x.bytes) (with_down n rest v)).control in
      record {
        control = now ∙ s.control;
        near = λ j m. (micro.down v n x rest j i there e i2 (matters_too w v j s.control m)).1 ∙ s.near j m;
        far = λ j m. (micro.down v n x rest j i there e i2 (matters_too w v j s.control m)).0 ∙ s.far j m;
        own = λ o. micro.own v n x rest i there e (s.own o);
      }

  abbrev pub sunk : World → World
  sunk w = passed t l (map (direction Down) (by_depth t)) w

  pub sank : (w : World) → I w → I (sunk w) × Sunk w (sunk w) × ((m : ℕ) → is_extender t m ≡ true → (sunk w).down m ≡ [])
  sank w i = down_phase t l tree (depth_few t tree) I (Sunk w) inv (λ v n there j. ((inv.facts v j).far n there).extender) (sinks w) (depth_some t) w i
      (record { control = refl; near = λ j m. refl; far = λ j m. refl; own = λ o. o })

  -- ---- the round
  matters_there : (w : World) (o : Option Work) (js : List Job) (j : ℕ) → QueueFacts t w o js → Matters t o js j → is_extender t j ≡ true
  matters_there w (Some k) js j q m = let P : ℕ → Type 0 = λ n. is_extender t n ≡ true in subst P (sym m) q.0
  matters_there w None [] j q m = m
  matters_there w None (job.Opening n ∷ js) j q m = let P : ℕ → Type 0 = λ n. is_extender t n ≡ true in subst P (sym m) q.0
  matters_there w None (job.AutomaticUp p ∷ js) j q m = absurd m
  matters_there w None (job.Ordered n c ∷ js) j q m = absurd m

  -- where all directions lead
  abbrev pub ended : World → World
  ended w = sunk (risen w)

  pub ended_is : (w : World) → passed t l (directions t) w ≡ sunk (risen w)
  unfolding directions
  ended_is w = passed_append t l (map (direction Up) (deepest_first t 64)) (map (direction Down) (by_depth t)) w

  round_is : (w : World) → passed_round t l w ≡ (stepped t l Beat (sunk (risen w))).world
  round_is w = ap (λ (v : World). (stepped t l Beat v).world) (ended_is w)

  -- what stands before the beat
  pub record Ended (w : World) : Type 0 where
    pub rose_to : Same w (risen w)
    pub risen_control : (risen w).control ≡ w.control
    pub control : (sunk (risen w)).control ≡ w.control
    pub still : I (risen w)
    pub there : I (sunk (risen w))
    pub ups : (m : ℕ) → is_extender t m ≡ true → (risen w).up m ≡ []
    pub downs : (m : ℕ) → is_extender t m ≡ true → (sunk (risen w)).down m ≡ []
    pub down : Sunk (risen w) (sunk (risen w))

  pub ended_so : (w : World) → I w → planned_in t l (passed_round t l w) ≡ planned_in t l w → Ended w
  ended_so w i same =
      let a = rose w i in
      let b = sank (risen w) a.0 in
      let whole : (sunk (risen w)).control ≡ w.control = ap (λ (v : World). v.control) (sym (ended_is w)) ∙ until_beat t l tree I inv w i same in
      let first : (risen w).control ≡ w.control = sym b.1.control ∙ whole in
      record { rose_to = a.1.1 first; risen_control = first; control = whole; still = a.0; there = b.0; ups = a.2; downs = b.2; down = b.1 }

  pub pairs : (w : World) (j : ℕ) → I w → planned_in t l (passed_round t l w) ≡ planned_in t l w → Matters t w.control.work w.control.queue j → pair_at t (passed_round t l w) j ≡ pass_round (pair_at t w j)
  pairs w j i same m =
      let e : Ended w = ended_so w i same in
      let there : is_extender t j ≡ true = matters_there w w.control.work w.control.queue j (inv.facts w i).queue m in
      let v : World = risen w in
      let u : World = sunk (risen w) in
      let m1 : Matters t (risen w).control.work (risen w).control.queue j = matters_too w (risen w) j e.risen_control m in
      let m2 : Matters t (sunk (risen w)).control.work (sunk (risen w)).control.queue j = matters_too w (sunk (risen w)) j e.control m in
      let no_ups : (far_at t (risen w) j).sent ≡ [] = ups_none t tree (risen w).control.held j (risen w).up e.ups 64 j there in
      let no_downs : (near_at t (sunk (risen w)) j).sent ≡ [] = downs_none t tree (sunk (risen w)).control.held j (sunk (risen w)).down e.downs 64 j there in
      let near1 : near_at t (risen w) j ≡ near_up (pair_at t w j) = sym (ap (near_all (near_at t (risen w) j)) no_ups) ∙ e.rose_to.near j m in
      let far1 : far_at t (risen w) j ≡ far_empty (far_at t w j) = sym (emptied (far_at t (risen w) j) no_ups) ∙ e.rose_to.far j m in
      let near2 : near_at t (sunk (risen w)) j ≡ near_empty (near_up (pair_at t w j)) = sym (near_emptied (near_at t (sunk (risen w)) j) no_downs) ∙ e.down.near j m1 ∙ ap near_empty near1 in
      let far2 : far_at t (sunk (risen w)) j ≡ far_down (pair_at t w j) =
      sym (ap (far_all (far_at t (sunk (risen w)) j)) no_downs) ∙ e.down.far j m1 ∙ ap (λ (f : Far). far_all f (near_at t (risen w) j).sent) far1 ∙ ap (λ (n : Near). far_all (far_empty (far_at t w j)) n.sent) near1 in
      let beat : pair_at t (stepped t l Beat (sunk (risen w))).world j ≡ record { near = near_beat (near_at t (sunk (risen w)) j); far = far_beat (far_at t (sunk (risen w)) j) } =
      micro.beat (sunk (risen w)) j e.there (inv.beats (sunk (risen w)) e.there) m2 in
      let joined : (a c : Near) (x z : Far) → a ≡ c → x ≡ z → ◌≡◌ {A = Pair} (record { near = near_beat a; far = far_beat x }) (record { near = near_beat c; far = far_beat z }) =
      λ a c x z r s. cc in
      ap (λ (z : World). pair_at t z j) (round_is w) ∙ beat ∙ joined (near_at t (sunk (risen w)) j) (near_empty (near_up (pair_at t w j))) (far_at t (sunk (risen w)) j) (far_down (pair_at t w j)) near2 far2
    where
      emptied : (f : Far) → f.sent ≡ [] → far_empty f ≡ f
      emptied f e = ap (λ (ms : List Note). record f { sent = ms }) (sym e)

      near_emptied : (n : Near) → n.sent ≡ [] → near_empty n ≡ n
      near_emptied n e = ap (λ (ms : List Note). record n { sent = ms }) (sym e)

  pub passing : Passing t l I
  passing =
      record {
        queue = λ w i same. queue_same t l tree I inv w i same;
        work = λ w i same. work_same t l tree I inv w i same;
        heard = λ w i same. heard_is_same t l tree I inv w i same;
        pairs = pairs;
        hello = λ w j i same m unheard h. no_hello w j i same m unheard h;
        swept = λ w i same none. rests w i same none;
      }
    where
      no_hello : (w : World) (j : ℕ) → I w → planned_in t l (passed_round t l w) ≡ planned_in t l w → Matters t w.control.work w.control.queue j → w.control.heard j ≡ false → HasHello (far_at t w j).sent → ⊥
      no_hello w j i same m unheard h =
          let e : Ended w = ended_so w i same in
          let there : is_extender t j ≡ true = matters_there w w.control.work w.control.queue j (inv.facts w i).queue m in
          let no_ups : (far_at t (risen w) j).sent ≡ [] = ups_none t tree (risen w).control.held j (risen w).up e.ups 64 j there in
          subst HasHello no_ups (e.rose_to.hello j m unheard h)

      rests : (w : World) → I w → planned_in t l (passed_round t l w) ≡ planned_in t l w → w.control.work ≡ None → IsSwept t (passed_round t l w)
      rests w i same none =
          let e : Ended w = ended_so w i same in
          let own : Own t (risen w) = λ k there. (let P : List LinkFrame → Type 0 = λ ws. Each (λ (x : LinkFrame). is_of t (risen w).control.held k k x ≡ true) ws in subst P (sym (e.ups k there)) tt) in
          subst (IsSwept t) (sym (round_is w)) (micro.rest (sunk (risen w)) e.there (ap (λ (s : State). s.work) e.control ∙ none) e.downs (e.down.own own))

  -- ---- the bound on settling
  pub settling_ends : SettleEnds t l I
  settling_ends = ends t l tree I inv passing (round_planned t l tree I inv)

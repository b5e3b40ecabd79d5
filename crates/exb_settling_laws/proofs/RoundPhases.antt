-- The two phases of a round in which each word passes: what each taken word keeps is kept, and the links are empty afterwards.
use Rattle.std.proofs.Common.{◌≡◌, ◌≢◌, inl, inr, ℕ, zero, suc, ◌≤◌, ◌<◌, ◌==◌, nat_lt, Bool, true, false, cond, List, [], ◌∷◌, ◌++◌, map, slice_index, refl, ap, sym, ◌∙◌, subst, arith}
use Rattle.std.proofs.lemmas.Bool.{cases_eq, and_parts, and_from, eqb-true, eq-eqb, lt-ltb, false≢true}
use Rattle.exb_model.specs.declared.setup.Verdict.{Verdict}
use Rattle.exb_model.specs.Tree.{Shape, IsTree, device, on, is_extender, depth, hangs_at_depth, level, levels, by_depth}
use Rattle.exb_model.specs.Setup.{Limits}
use Rattle.exb_model.proofs.TreeTrunks.{extender-low}
use Rattle.exb_model.proofs.TreeOrder.{less_deep}
use Rattle.exb_extender.specs.Machine.{IsExtender}
use Rattle.exb_link.specs.declared.link_frame.LinkFrame.{LinkFrame}
use Rattle.exb_world_spec.specs.Worlds.{World, Way, Up, Down, with_up, with_down}
use Rattle.exb_world_spec.specs.Steps.{takes, words_on}
use Rattle.exb_world_spec.specs.Settling.{Direction, direction, run, goes_through, through_all, deepest_first}
use Rattle.exb_world_spec.proofs.Trunks.{hangs_there}
use Rattle.exb_world_spec.proofs.LinkFrames.{at_here, at_other}
use Rattle.exb_settling_laws.specs.SettlingFacts.{IsInvariant}
use Rattle.exb_settling_laws.proofs.LinkGrowth.{Longer, Grows, Any, never_longer}
use Rattle.exb_settling_laws.proofs.EmptiedLinks.{OntoAbove, OntoOwn, OntoBelow, up_links, down_links}
use Rattle.exb_settling_laws.proofs.VerdictCosts.{passed, none_left}
use Rattle.exb_settling_laws.proofs.PassingDirections.{EachTaken, direction_passes}

-- nothing is added where what may be added can't be
pub impossible : (P : LinkFrame → Type 0) (xs ys : List LinkFrame) → ((x : LinkFrame) → P x → ⊥) → Longer P xs ys → ys ≡ xs
impossible P xs ys never a = never_longer xs ys (record { more = a.more; is = a.is; each_is = Rattle.exb_world_spec.proofs.LinkFrames.each_weaker P (λ x. ⊥) a.more never a.each_is })

module _ (t : Shape) (l : Limits) where
  pub passed_first : (d : Direction) (ds : List Direction) (w : World) → passed t l (d ∷ ds) w ≡ passed t l ds (run t l (goes_through d w []).steps w).world
  unfolding through_all
  passed_first d ds w = ap (λ (us : List Verdict). (through_all t l ds (run t l (goes_through d w []).steps w).world us).done.world) (none_left d.link d.way 0 (words_on d.link d.way w))

  pub passed_none : (w : World) → passed t l [] w ≡ w
  unfolding through_all
  passed_none w = refl

  pub passed_append : (ds es : List Direction) (w : World) → passed t l (ds ++ es) w ≡ passed t l es (passed t l ds w)
  passed_append [] es w = ap (passed t l es) (sym (passed_none w))
  passed_append (d ∷ ds) es w =
      passed_first d (ds ++ es) w ∙ passed_append ds es (run t l (goes_through d w []).steps w).world ∙ ap (passed t l es) (sym (passed_first d ds w))

map_append : (way : Way) (ms ns : List ℕ) → map (direction way) (ms ++ ns) ≡ map (direction way) ms ++ map (direction way) ns
map_append way [] ns = refl
map_append way (m ∷ ms) ns = ap (λ (ds : List Direction). direction way m ∷ ds) (map_append way ms ns)

at_depth : (t : Shape) (d k : ℕ) → hangs_at_depth t (suc k) d ≡ true → (is_extender t (suc k) ≡ true) × (depth t (suc k) ≡ d)
at_depth t d k e =
    let p = and_parts (nat_lt 0 (slice_index t.ports (suc k))) (depth t (suc k) == d) e in
    (and_from (nat_lt 0 (suc k)) (nat_lt 0 (slice_index t.ports (suc k))) (lt-ltb 0 (suc k) (omega arith)) p.0, eqb-true _ _ p.1)

not_at_depth : (t : Shape) (d k : ℕ) → hangs_at_depth t (suc k) d ≡ false → is_extender t (suc k) ≡ true → depth t (suc k) ≡ d → ⊥
not_at_depth t d k e there deep =
    let p = and_parts (nat_lt 0 (suc k)) (nat_lt 0 (slice_index t.ports (suc k))) there in
    let y : hangs_at_depth t (suc k) d ≡ true = and_from (nat_lt 0 (slice_index t.ports (suc k))) (depth t (suc k) == d) p.1 (eq-eqb _ _ deep) in
    false≢true (sym e ∙ y)

no_zero : (t : Shape) → is_extender t 0 ≡ true → ⊥
no_zero t e = false≢true e

module _ (t : Shape) (l : Limits) (tree : IsTree t) (deepest : (n : ℕ) → is_extender t n ≡ true → depth t n ≤ 64) (I K : World → Type 0) (inv : IsInvariant t l I) where
  less : (n : ℕ) → is_extender t n ≡ true → 64 ≤ on t n → depth t (device (on t n)) < depth t n
  less n there deep = less_deep t tree n (on t n) (hangs_there t n there) deep

  -- ---- upwards
  module _ (keep : (n : ℕ) (x : LinkFrame) (rest : List LinkFrame) (w : World) → is_extender t n ≡ true → w.up n ≡ x ∷ rest → I w → K w → I (takes t l n Up x (with_up n rest w)).world → K (takes t l n Up x (with_up n rest w)).world) where
    -- the links deeper than d are empty, and those at depth d up to number k
    pub record UpClear (d k : ℕ) (w : World) : Type 0 where
      pub deeper : (m : ℕ) → is_extender t m ≡ true → d < depth t m → w.up m ≡ []
      pub same : (m : ℕ) → is_extender t m ≡ true → depth t m ≡ d → m ≤ k → w.up m ≡ []

    abbrev pub Risen : ℕ → ℕ → World → Type 0
    Risen d k w = I w × K w × UpClear d k w

    -- a taken word adds to no link that isn't the one above
    up_other : (n m : ℕ) (x : LinkFrame) (rest : List LinkFrame) (w : World) → m ≢ n → (64 ≤ on t n → m ≢ device (on t n)) → (takes t l n Up x (with_up n rest w)).world.up m ≡ w.up m
    up_other n m x rest w other above =
        let g : Grows t l Any (OntoAbove t l tree n) (with_up n rest w) (takes t l n Up x (with_up n rest w)).world = up_links t l tree n x (with_up n rest w) in
        impossible (OntoAbove t l tree n m) ((with_up n rest w).up m) ((takes t l n Up x (with_up n rest w)).world.up m) (λ y p. above p.0 p.1) (g.ups m) ∙ at_other n m rest w.up other

    up_stays : (n : ℕ) (x : LinkFrame) (rest : List LinkFrame) (w : World) → is_extender t n ≡ true → (takes t l n Up x (with_up n rest w)).world.up n ≡ rest
    up_stays n x rest w there =
        let g : Grows t l Any (OntoAbove t l tree n) (with_up n rest w) (takes t l n Up x (with_up n rest w)).world = up_links t l tree n x (with_up n rest w) in
        impossible (OntoAbove t l tree n n) ((with_up n rest w).up n) ((takes t l n Up x (with_up n rest w)).world.up n)
        (λ y p. (let q = less n there p.0 in let z : depth t n ≡ depth t (device (on t n)) = ap (depth t) p.1 in omega arith)) (g.ups n) ∙ at_here n rest w.up

    rise_one : (d k : ℕ) (w : World) → is_extender t (suc k) ≡ true → depth t (suc k) ≡ d → Risen d k w → Risen d (suc k) (run t l (goes_through (direction Up (suc k)) w []).steps w).world
    rise_one d k w there deep r =
        let n : ℕ = suc k in
        let J : World → Type 0 = λ v. K v × UpClear d k v in
        let taken : EachTaken t l I J inv.moves (suc k) Up = record {
          keeps = λ x rest v e i j i2. (
            keep (suc k) x rest v there e i j.0 i2,
            record {
              deeper = (λ m m_there low. up_other (suc k) m x rest v (λ z. (let y : depth t m ≡ depth t (suc k) = ap (depth t) z in omega arith)) (λ high z. (let q = less (suc k) there high in let y : depth t m ≡ depth t (device (on t (suc k))) = ap (depth t) z in omega arith)) ∙ j.1.deeper m m_there low);
              same = (λ m m_there eq few. up_other (suc k) m x rest v (λ z. omega arith) (λ high z. (let q = less (suc k) there high in let y : depth t m ≡ depth t (device (on t (suc k))) = ap (depth t) z in omega arith)) ∙ j.1.same m m_there eq few);
            },
          );
          stays = λ x rest v e i. up_stays (suc k) x rest v there;
        } in
        let a = direction_passes t l I J inv.moves (suc k) Up there taken w r.0 (r.1, r.2) in (
          a.0,
          a.1.0,
          record {
            deeper = a.1.1.deeper;
            same = λ m m_there eq few. elim (cases_eq m (suc k)) [
              | inl e ↦ (let P : ℕ → Type 0 = λ z. (run t l (goes_through (direction Up (suc k)) w []).steps w).world.up z ≡ [] in subst P (sym e) a.2)
              | inr e ↦ a.1.1.same m m_there eq (omega arith)
            ];
          },
        )

    rise_test : (d k : ℕ) (b : Bool) (v : World) → hangs_at_depth t (suc k) d ≡ b → Risen d k v → Risen d (suc k) (passed t l (map (direction Up) (cond b (suc k ∷ []) [])) v)
    rise_test d k true v e r =
        let p = at_depth t d k e in
        let same : passed t l (direction Up (suc k) ∷ []) v ≡ (run t l (goes_through (direction Up (suc k)) v []).steps v).world =
        passed_first t l (direction Up (suc k)) [] v ∙ passed_none t l (run t l (goes_through (direction Up (suc k)) v []).steps v).world in
        let P : World → Type 0 = Risen d (suc k) in
        subst P (sym same) (rise_one d k v p.0 p.1 r)
    rise_test d k false v e r =
        let P : World → Type 0 = Risen d (suc k) in
        subst P (sym (passed_none t l v)) (
          r.0,
          r.1,
          record {
            deeper = r.2.deeper;
            same = λ m m_there eq few. elim (cases_eq m (suc k)) [
              | inl z ↦ absurd (not_at_depth t d k e (let Q : ℕ → Type 0 = λ i. is_extender t i ≡ true in subst Q z m_there) (ap (depth t) (sym z) ∙ eq))
              | inr z ↦ r.2.same m m_there eq (omega arith)
            ];
          },
        )

    rise_level : (d k : ℕ) (w : World) → Risen d 0 w → Risen d k (passed t l (map (direction Up) (level t d k)) w)
    unfolding level
    rise_level d zero w r = let P : World → Type 0 = Risen d 0 in subst P (sym (passed_none t l w)) r
    rise_level d (suc k) w r =
        let b : Bool = hangs_at_depth t (suc k) d in
        let v : World = passed t l (map (direction Up) (level t d k)) w in
        let same : passed t l (map (direction Up) (level t d k ++ cond (hangs_at_depth t (suc k) d) (suc k ∷ []) [])) w ≡ passed t l (map (direction Up) (cond (hangs_at_depth t (suc k) d) (suc k ∷ []) [])) (passed t l (map (direction Up) (level t d k)) w) =
        ap (λ (ds : List Direction). passed t l ds w) (map_append Up (level t d k) (cond (hangs_at_depth t (suc k) d) (suc k ∷ []) [])) ∙ passed_append t l (map (direction Up) (level t d k)) (map (direction Up) (cond (hangs_at_depth t (suc k) d) (suc k ∷ []) [])) w in
        let P : World → Type 0 = Risen d (suc k) in
        subst P (sym same) (rise_test d k (hangs_at_depth t (suc k) d) v refl (rise_level d k w r))

    -- from one depth to the next
    rise_on : (d : ℕ) (w : World) → Risen (suc d) 64 w → Risen d 0 w
    rise_on d w r = (
      r.0,
      r.1,
      record {
        deeper = λ m there low. elim (cases_eq (depth t m) (suc d)) [
          | inl e ↦ (let few : m < 65 = extender-low t tree m there in r.2.same m there e (omega arith))
          | inr e ↦ r.2.deeper m there (omega arith)
        ];
        same = λ m there eq few. absurd (no_zero t (let Q : ℕ → Type 0 = λ i. is_extender t i ≡ true in let z : m ≡ 0 = omega arith in subst Q z there));
      },
    )

    rise_all : (d : ℕ) (w : World) → Risen d 0 w → Risen 0 0 (passed t l (map (direction Up) (deepest_first t d)) w)
    unfolding deepest_first
    rise_all zero w r = let P : World → Type 0 = Risen 0 0 in subst P (sym (passed_none t l w)) r
    rise_all (suc d) w r =
        let v : World = passed t l (map (direction Up) (level t (suc d) 64)) w in
        let same : passed t l (map (direction Up) (level t (suc d) 64 ++ deepest_first t d)) w ≡ passed t l (map (direction Up) (deepest_first t d)) (passed t l (map (direction Up) (level t (suc d) 64)) w) =
        ap (λ (ds : List Direction). passed t l ds w) (map_append Up (level t (suc d) 64) (deepest_first t d)) ∙ passed_append t l (map (direction Up) (level t (suc d) 64)) (map (direction Up) (deepest_first t d)) w in
        let P : World → Type 0 = Risen 0 0 in
        subst P (sym same) (rise_all d v (rise_on d v (rise_level (suc d) 64 w r)))

    -- after the upward directions nothing stands on the way up
    pub up_phase : (depth_some : (n : ℕ) → 0 < depth t n) (w : World) → I w → K w → I (passed t l (map (direction Up) (deepest_first t 64)) w) × K (passed t l (map (direction Up) (deepest_first t 64)) w)
        × ((m : ℕ) → is_extender t m ≡ true → (passed t l (map (direction Up) (deepest_first t 64)) w).up m ≡ [])
    up_phase depth_some w i k =
        let start : Risen 64 0 w = (
          i,
          k,
          record {
            deeper = λ m there low. absurd (let h = deepest m there in omega arith);
            same = λ m there eq few. absurd (no_zero t (let Q : ℕ → Type 0 = λ i. is_extender t i ≡ true in let z : m ≡ 0 = omega arith in subst Q z there));
          },
        ) in
        let r = rise_all 64 w start in
        (r.0, r.1, λ m there. r.2.deeper m there (depth_some m))

  -- ---- downwards
  module _ (facts_far : (w : World) (n : ℕ) → is_extender t n ≡ true → I w → IsExtender (w.far n))
      (keep : (n : ℕ) (x : LinkFrame) (rest : List LinkFrame) (w : World) → is_extender t n ≡ true → w.down n ≡ x ∷ rest → I w → K w → I (takes t l n Down x (with_down n rest w)).world → K (takes t l n Down x (with_down n rest w)).world) where
    -- the links above depth d are empty, and those at depth d up to number k
    pub record DownClear (d k : ℕ) (w : World) : Type 0 where
      pub above : (m : ℕ) → is_extender t m ≡ true → depth t m < d → w.down m ≡ []
      pub same : (m : ℕ) → is_extender t m ≡ true → depth t m ≡ d → m ≤ k → w.down m ≡ []

    abbrev pub Sunk : ℕ → ℕ → World → Type 0
    Sunk d k w = I w × K w × DownClear d k w

    down_other : (n m : ℕ) (x : LinkFrame) (rest : List LinkFrame) (w : World) → is_extender t n ≡ true → I w → m ≢ n → (64 ≤ on t m → device (on t m) ≢ n) → (takes t l n Down x (with_down n rest w)).world.down m ≡ w.down m
    down_other n m x rest w there i other below =
        let g : Grows t l (OntoBelow t l tree n) (OntoOwn t l tree n) (with_down n rest w) (takes t l n Down x (with_down n rest w)).world = down_links t l tree n x (with_down n rest w) there (facts_far w n there i) in
        impossible (OntoBelow t l tree n m) ((with_down n rest w).down m) ((takes t l n Down x (with_down n rest w)).world.down m) (λ y p. below p.0 p.1) (g.downs m) ∙ at_other n m rest w.down other

    down_stays : (n : ℕ) (x : LinkFrame) (rest : List LinkFrame) (w : World) → is_extender t n ≡ true → I w → (takes t l n Down x (with_down n rest w)).world.down n ≡ rest
    down_stays n x rest w there i =
        let g : Grows t l (OntoBelow t l tree n) (OntoOwn t l tree n) (with_down n rest w) (takes t l n Down x (with_down n rest w)).world = down_links t l tree n x (with_down n rest w) there (facts_far w n there i) in
        impossible (OntoBelow t l tree n n) ((with_down n rest w).down n) ((takes t l n Down x (with_down n rest w)).world.down n)
        (λ y p. (let q = less n there p.0 in let z : depth t (device (on t n)) ≡ depth t n = ap (depth t) p.1 in omega arith)) (g.downs n) ∙ at_here n rest w.down

    sink_one : (d k : ℕ) (w : World) → is_extender t (suc k) ≡ true → depth t (suc k) ≡ d → Sunk d k w → Sunk d (suc k) (run t l (goes_through (direction Down (suc k)) w []).steps w).world
    sink_one d k w there deep r =
        let J : World → Type 0 = λ v. K v × DownClear d k v in
        let taken : EachTaken t l I J inv.moves (suc k) Down = record {
          keeps = λ x rest v e i j i2. (
            keep (suc k) x rest v there e i j.0 i2,
            record {
              above = (λ m m_there low. down_other (suc k) m x rest v there i (λ z. (let y : depth t m ≡ depth t (suc k) = ap (depth t) z in omega arith)) (λ high z. (let q = less m m_there high in let y : depth t (device (on t m)) ≡ depth t (suc k) = ap (depth t) z in omega arith)) ∙ j.1.above m m_there low);
              same = (λ m m_there eq few. down_other (suc k) m x rest v there i (λ z. omega arith) (λ high z. (let q = less m m_there high in let y : depth t (device (on t m)) ≡ depth t (suc k) = ap (depth t) z in omega arith)) ∙ j.1.same m m_there eq few);
            },
          );
          stays = λ x rest v e i. down_stays (suc k) x rest v there i;
        } in
        let a = direction_passes t l I J inv.moves (suc k) Down there taken w r.0 (r.1, r.2) in (
          a.0,
          a.1.0,
          record {
            above = a.1.1.above;
            same = λ m m_there eq few. elim (cases_eq m (suc k)) [
              | inl e ↦ (let P : ℕ → Type 0 = λ z. (run t l (goes_through (direction Down (suc k)) w []).steps w).world.down z ≡ [] in subst P (sym e) a.2)
              | inr e ↦ a.1.1.same m m_there eq (omega arith)
            ];
          },
        )

    sink_test : (d k : ℕ) (b : Bool) (v : World) → hangs_at_depth t (suc k) d ≡ b → Sunk d k v → Sunk d (suc k) (passed t l (map (direction Down) (cond b (suc k ∷ []) [])) v)
    sink_test d k true v e r =
        let p = at_depth t d k e in
        let same : passed t l (direction Down (suc k) ∷ []) v ≡ (run t l (goes_through (direction Down (suc k)) v []).steps v).world =
        passed_first t l (direction Down (suc k)) [] v ∙ passed_none t l (run t l (goes_through (direction Down (suc k)) v []).steps v).world in
        let P : World → Type 0 = Sunk d (suc k) in
        subst P (sym same) (sink_one d k v p.0 p.1 r)
    sink_test d k false v e r =
        let P : World → Type 0 = Sunk d (suc k) in
        subst P (sym (passed_none t l v)) (
          r.0,
          r.1,
          record {
            above = r.2.above;
            same = λ m m_there eq few. elim (cases_eq m (suc k)) [
              | inl z ↦ absurd (not_at_depth t d k e (let Q : ℕ → Type 0 = λ i. is_extender t i ≡ true in subst Q z m_there) (ap (depth t) (sym z) ∙ eq))
              | inr z ↦ r.2.same m m_there eq (omega arith)
            ];
          },
        )

    sink_level : (d k : ℕ) (w : World) → Sunk d 0 w → Sunk d k (passed t l (map (direction Down) (level t d k)) w)
    unfolding level
    sink_level d zero w r = let P : World → Type 0 = Sunk d 0 in subst P (sym (passed_none t l w)) r
    sink_level d (suc k) w r =
        let v : World = passed t l (map (direction Down) (level t d k)) w in
        let same : passed t l (map (direction Down) (level t d k ++ cond (hangs_at_depth t (suc k) d) (suc k ∷ []) [])) w ≡ passed t l (map (direction Down) (cond (hangs_at_depth t (suc k) d) (suc k ∷ []) [])) (passed t l (map (direction Down) (level t d k)) w) =
        ap (λ (ds : List Direction). passed t l ds w) (map_append Down (level t d k) (cond (hangs_at_depth t (suc k) d) (suc k ∷ []) [])) ∙ passed_append t l (map (direction Down) (level t d k)) (map (direction Down) (cond (hangs_at_depth t (suc k) d) (suc k ∷ []) [])) w in
        let P : World → Type 0 = Sunk d (suc k) in
        subst P (sym same) (sink_test d k (hangs_at_depth t (suc k) d) v refl (sink_level d k w r))

    sink_on : (d : ℕ) (w : World) → Sunk d 64 w → Sunk (suc d) 0 w
    sink_on d w r = (
      r.0,
      r.1,
      record {
        above = λ m there low. elim (cases_eq (depth t m) d) [
          | inl e ↦ (let few : m < 65 = extender-low t tree m there in r.2.same m there e (omega arith))
          | inr e ↦ r.2.above m there (omega arith)
        ];
        same = λ m there eq few. absurd (no_zero t (let Q : ℕ → Type 0 = λ i. is_extender t i ≡ true in let z : m ≡ 0 = omega arith in subst Q z there));
      },
    )

    sink_all : (d : ℕ) (w : World) → Sunk 1 0 w → Sunk (suc d) 0 (passed t l (map (direction Down) (levels t d)) w)
    unfolding levels
    sink_all zero w r = let P : World → Type 0 = Sunk 1 0 in subst P (sym (passed_none t l w)) r
    sink_all (suc d) w r =
        let v : World = passed t l (map (direction Down) (levels t d)) w in
        let same : passed t l (map (direction Down) (levels t d ++ level t (suc d) 64)) w ≡ passed t l (map (direction Down) (level t (suc d) 64)) (passed t l (map (direction Down) (levels t d)) w) =
        ap (λ (ds : List Direction). passed t l ds w) (map_append Down (levels t d) (level t (suc d) 64)) ∙ passed_append t l (map (direction Down) (levels t d)) (map (direction Down) (level t (suc d) 64)) w in
        let P : World → Type 0 = Sunk (suc (suc d)) 0 in
        subst P (sym same) (sink_on (suc d) (passed t l (map (direction Down) (level t (suc d) 64)) v) (sink_level (suc d) 64 v (sink_all d w r)))

    -- after the downward directions nothing stands on the way down
    pub down_phase : (depth_some : (n : ℕ) → 0 < depth t n) (w : World) → I w → K w → I (passed t l (map (direction Down) (by_depth t)) w) × K (passed t l (map (direction Down) (by_depth t)) w)
        × ((m : ℕ) → is_extender t m ≡ true → (passed t l (map (direction Down) (by_depth t)) w).down m ≡ [])
    unfolding by_depth
    down_phase depth_some w i k =
        let start : Sunk 1 0 w = (
          i,
          k,
          record {
            above = λ m there low. absurd (let h = depth_some m in omega arith);
            same = λ m there eq few. absurd (no_zero t (let Q : ℕ → Type 0 = λ i. is_extender t i ≡ true in let z : m ≡ 0 = omega arith in subst Q z there));
          },
        ) in
        let r = sink_all 64 w start in
        (r.0, r.1, λ m there. r.2.above m there (let h = deepest m there in omega arith))

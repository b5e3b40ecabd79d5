-- One bridge of a net as it does more.
use Rattle.std.proofs.Common.{◌≡◌, ◌≢◌, ℕ, ◌<◌, ◌++◌, Bool, List, [], ◌∷◌, set, refl, ap, sym, ◌∙◌, subst, inl, inr}
use Rattle.std.specs.Prelude.{Some, slice_get}
use Rattle.std.proofs.lemmas.Bool.{cases_eq, eq-eqb}
use Rattle.std.proofs.lemmas.List.{append-nil, append_assoc, length-set}
use Rattle.std.proofs.lemmas.Option.{same_Some, slice_get_within}
use Rattle.exb_model.specs.declared.event.Event.{Event}
use Rattle.exb_model.specs.Setup.{Limits}
use Rattle.exb_model.specs.Tree.{Shape, external_ports}
use Rattle.exb_world_spec.specs.AllowedSteps.{IsSettled}
use Rattle.exb_world_spec.specs.Settling.{run, followed_by}
use Rattle.exb_world_spec.specs.Steps.{Stepped, stepped}
use Rattle.exb_world_spec.specs.TraceLines.{all_told}
use Rattle.exb_world_spec.specs.Worlds.{World, Step, Mark, Left, Line}
use Rattle.exb_world_spec.proofs.Rounds.{run_then}
use Rattle.exb_world.specs.WorldContracts.{Network, IsStepped, bounds_of, tree_of, world_of}
use Rattle.exb_bridge.specs.TreeIndexes.{Site}
use Rattle.exb_bridge.specs.TreeIndexes.{limits_in as limits_at}
use Rattle.exb_bridge.specs.BridgeWorlds.{all_left}
use Rattle.exb_world_laws.specs.OneBridgeSteps.{IsGiving}
use Rattle.exb_world_spec.specs.Runs.ReachedWorlds.{MayTakeAll}
use Rattle.exb_schedule.specs.StepSequences.{IsMoved}
use Rattle.exb_schedule.specs.PlayedSegments.{IsPlayedOut}
use Rattle.exb_net_spec.specs.Nets.{Net}
use Rattle.exb_net_spec.specs.NetHistory.{Crossing}
use Rattle.exb_net_laws.specs.NetRuns.{Between, Dones, Handles, crossed, does, goes_on, limits_in, tree_in}
use Rattle.exb_net.specs.declared.crossing.Crossing.{Crossing as Queued}
use Rattle.exb_net.specs.declared.wired_ports.WiredPort.{WiredPort}
use Rattle.exb_net.specs.declared.node.Node.{Node}
use Rattle.exb_net.specs.Crossings.{all_crossing}
use Rattle.exb_net.specs.WiredPorts.{ends_over, sent_over}
use Rattle.exb_net.specs.NodeViews.{Holds, IsAt}
use Rattle.exb_net.proofs.ListPlaces.{set_here, set_there}
use Rattle.exb_net.proofs.WiredPorts.{sent_all}

-- ---- steps
pub may_front : (t : Shape) (l : Limits) (xs ys : List Step) (w : World) → MayTakeAll t l w (xs ++ ys) → MayTakeAll t l w xs
may_front t l [] ys w a = tt
may_front t l (x ∷ xs) ys w a = (a.0, may_front t l xs ys (stepped t l x w).world a.1)

-- nothing leaves for a mark
left_marked : (t : Shape) (l : Limits) (xs : List Step) (w : World) → (run t l (xs ++ Mark ∷ []) w).left ≡ (run t l xs w).left
unfolding run stepped
left_marked t l xs w = ap (λ (z : Stepped). z.left) (run_then t l xs (Mark ∷ []) w) ∙ append-nil (run t l xs w).left

-- one step is a run
pub by_step : (step : Step) (old new : Network) → IsStepped step old new → IsMoved (run (tree_of old) (bounds_of old) (step ∷ []) (world_of old)) old new
unfolding run
by_step step old new m =
    let d : Stepped = stepped (tree_of old) (bounds_of old) step (world_of old) in
    record {
      world = m.world;
      events = m.events ∙ ap (λ (zs : List Event). old.log.events ++ zs) (sym (append-nil d.events));
      passed = m.passed ∙ ap (λ (zs : List Bool). old.log.passed ++ zs) (sym (append-nil d.passed));
      left = m.left ∙ ap (λ (zs : List Left). all_left old.log.left ++ zs) (sym (append-nil d.left));
      lines = λ tracing. m.lines tracing ∙ ap (λ (zs : List Line). old.log.lines ++ all_told zs) (sym (append-nil d.lines));
      silent = m.silent;
      same = m.same;
    }

-- ---- texts that go on
behind : {A : Type 0} (all told old more new : List A) → all ≡ told ++ old → new ≡ old ++ more → all ++ more ≡ told ++ new
behind all told old more new e f = ap (λ (zs : List _). zs ++ more) e ∙ (append_assoc told old more ∙ ap (λ (zs : List _). told ++ zs) (sym f))

-- ---- one bridge
module _ (n : Net) (b : ℕ) where
  module _ (s told : Stepped) (old : Network) (wired : List WiredPort) (at : IsAt n b s told old wired) where
    -- what is said of its network is said of what it did
    pub here : (P : Shape → Limits → World → Type 0) → P (tree_of old) (bounds_of old) (world_of old) → P (tree_in n b) (limits_in n b) s.world
    here P p =
        subst (λ (w : World). P (tree_in n b) (limits_in n b) w) at.world
        (subst (λ (l : Limits). P (tree_in n b) l (world_of old)) at.limits (subst (λ (t : Shape). P t (bounds_of old) (world_of old)) at.tree p))

    pub there : (P : Shape → Limits → World → Type 0) → P (tree_in n b) (limits_in n b) s.world → P (tree_of old) (bounds_of old) (world_of old)
    there P p =
        subst (λ (w : World). P (tree_of old) (bounds_of old) w) (sym at.world)
        (subst (λ (l : Limits). P (tree_of old) l s.world) (sym at.limits) (subst (λ (t : Shape). P t (limits_in n b) s.world) (sym at.tree) p))

    pub run_here : (steps : List Step) → run (tree_of old) (bounds_of old) steps (world_of old) ≡ run (tree_in n b) (limits_in n b) steps s.world
    run_here steps = here (λ t l w. run (tree_of old) (bounds_of old) steps (world_of old) ≡ run t l steps w) refl

    -- so much more was done
    pub gone_on : (d : Stepped) (new : Network) (after : List WiredPort) → IsMoved d old new → after ≡ ends_over n.wires b d.world.next (external_ports (tree_in n b)) → IsAt n b (followed_by s d) told new after
    gone_on d new after m e =
        record {
          tree = ap (λ (x : Site). x.tree) m.same.site ∙ at.tree;
          limits = ap limits_at m.same.site ∙ at.limits;
          world = m.world;
          events = behind s.events told.events old.log.events d.events new.log.events at.events m.events;
          passed = behind s.passed told.passed old.log.passed d.passed new.log.passed at.passed m.passed;
          left = behind s.left told.left (all_left old.log.left) d.left (all_left new.log.left) at.left m.left;
          ends = e;
          awake = m.same.failed ∙ at.awake;
        }

  -- ---- it is given something
  module _ (s : Dones) (told : Stepped) (old new : Network) (wired : List WiredPort) (at : IsAt n b (s b) told old wired) (step : Step) (queue : List Crossing) (p : IsPlayedOut (step ∷ []) old new) where
    -- what all did then, and what is between bridges
    abbrev pub given : Between
    given = record { dones = goes_on n b ((step ∷ p.moves) ++ Mark ∷ []) s; queue = queue ++ crossed n b (does n b (step ∷ p.moves) s).left }

    pub handled : IsGiving step → Handles n b step (record { dones = s; queue = queue }) given
    handled gives =
        record {
          moves = p.moves;
          gives = gives;
          may = may_front (tree_in n b) (limits_in n b) (step ∷ p.moves) (Mark ∷ []) (s b).world (here (s b) told old wired at (λ t l w. MayTakeAll t l w ((step ∷ p.moves) ++ Mark ∷ [])) p.made.may);
          moves_alone = p.only;
          settled = here (s b) told old wired at (λ t l w. IsSettled t (run t l (step ∷ p.moves) w).world) p.settled;
          done = refl;
          queue = refl;
        }

    dones_here : goes_on n b ((step ∷ p.moves) ++ Mark ∷ []) s b ≡ followed_by (s b) (run (tree_of old) (bounds_of old) ((step ∷ p.moves) ++ Mark ∷ []) (world_of old))
    dones_here = by_test ∙ ap (λ (z : Stepped). followed_by (s b) z) (sym (run_here (s b) told old wired at ((step ∷ p.moves) ++ Mark ∷ [])))
      where
        by_test : goes_on n b ((step ∷ p.moves) ++ Mark ∷ []) s b ≡ followed_by (s b) (does n b ((step ∷ p.moves) ++ Mark ∷ []) s)
        by_test = rw (eq-eqb b b refl) refl

    pub at_after : (after : List WiredPort) → after ≡ ends_over n.wires b (goes_on n b ((step ∷ p.moves) ++ Mark ∷ []) s b).world.next (external_ports (tree_in n b)) → IsAt n b (goes_on n b ((step ∷ p.moves) ++ Mark ∷ []) s b) told new after
    at_after after e =
        subst (λ (z : Stepped). IsAt n b z told new after) (sym dones_here)
        (gone_on (s b) told old wired at (run (tree_of old) (bounds_of old) ((step ∷ p.moves) ++ Mark ∷ []) (world_of old)) new after p.made.moved
        (e ∙ ap (λ (z : Stepped). ends_over n.wires b z.world.next (external_ports (tree_in n b))) dones_here))

    -- what left its wired ports
    pub sent_here : (before after : List Queued) → ((gone : List Left) → all_left new.log.left ≡ all_left old.log.left ++ gone → all_crossing after ≡ all_crossing before ++ sent_over gone wired) → all_crossing before ≡ queue →
        queue ++ crossed n b (does n b (step ∷ p.moves) s).left ≡ all_crossing after
    sent_here before after sent is =
        let gone : Stepped = run (tree_of old) (bounds_of old) ((step ∷ p.moves) ++ Mark ∷ []) (world_of old) in
        let same : gone.left ≡ (does n b (step ∷ p.moves) s).left =
        ap (λ (z : Stepped). z.left) (run_here (s b) told old wired at ((step ∷ p.moves) ++ Mark ∷ [])) ∙ left_marked (tree_in n b) (limits_in n b) (step ∷ p.moves) (s b).world in
        sym
        (sent gone.left p.made.moved.left
        ∙ (ap (λ (zs : List Crossing). zs ++ sent_over gone.left wired) is
        ∙ ap (λ (zs : List Crossing). queue ++ zs)
        (ap (λ (zs : List Left). sent_over zs wired) same
        ∙ (ap (sent_over (does n b (step ∷ p.moves) s).left) at.ends ∙ sent_all n.wires b (does n b (step ∷ p.moves) s).left (s b).world.next (external_ports (tree_in n b))))))

-- ---- all bridges
pub holds_on : {V : Type 0} {X : V → Type 0} (n : Net) (b : ℕ) (s told e : Dones) (nodes : List (Node V X)) (y : Node V X) → Holds n s told nodes → ((c : ℕ) → c ≢ b → e c ≡ s c) → IsAt n b (e b) (told b) y.world y.ends.items →
    Holds n e told (set nodes b y)
holds_on n b s told e nodes y h others at =
    record {
      count = length-set nodes b y ∙ h.count;
      at = λ c x is. elim (cases_eq c b) [
        | inl same ↦
            let here : slice_get (set nodes b y) b ≡ Some x = subst (λ (z : ℕ). slice_get (set nodes b y) z ≡ Some x) same is in
            let low = slice_get_within (set nodes b y) b x here in
            let now : y ≡ x = same_Some y x (sym (set_here nodes b y (subst (λ (z : ℕ). b < z) (length-set nodes b y) low)) ∙ here) in
            subst (λ (z : ℕ). IsAt n z (e z) (told z) x.world x.ends.items) (sym same) (subst (λ (z : Node _ _). IsAt n b (e b) (told b) z.world z.ends.items) now at)
        | inr ne ↦ subst (λ (z : Stepped). IsAt n c z (told c) x.world x.ends.items) (sym (others c ne)) (h.at c x (sym (set_there nodes b c y ne) ∙ is))
      ];
    }

-- Plans run.
use Rattle.std.proofs.Common.{◌≡◌, ◌≢◌, ◌⊎◌, ℕ, ◌<◌, ◌≤◌, ◌==◌, ◌&&◌, ◌||◌, cond, Bool, true, false, not, List, [], Option, Some, None, refl, sym, ◌∙◌, ap, subst, inl, inr, eq-eqb}
use Rattle.std.proofs.lemmas.Bool.{cases_eq, cases_Bool, ne_eqb, and_from, and_left, or_left, or_right, false≢true}
use Rattle.exb_model.specs.Tree.{Shape, device, trunk, is_port, is_cascade, is_extended, is_under}
use Rattle.exb_model.specs.Setup.{Limits}
use Rattle.exb_model.specs.Configuration.{Bridge}
use Rattle.exb_model.specs.Refusals.{is_empty_set, channels_short}
use Rattle.exb_control_spec.specs.Plans.Sets.{sets_of}
use Rattle.exb_control_spec.proofs.Plans.TreeWays.{from_extended}
use Rattle.exb_control_spec.specs.declared.plan.row_action.RowAction.TheVariants.{Lay, Clear}
use Rattle.exb_control_spec.specs.Plans.HeldNumbers.{Held, HoldsNeeded, group_used, channel_used, needs_channel, or_zero, give_all, numbered, free_where}
use Rattle.exb_control_spec.specs.Plans.Differences.{has_set, goes_up, goes_down, trunk_of, is_gone, fresh_sets, gone_groups}
use Rattle.exb_control_spec.specs.Plans.ChangeRequests.{create_asks, delete_asks, group_asks}
use Rattle.exb_control_spec.specs.Plans.Plans.{new_channel, own_channel, with_channel, without_channel, with_up, up_asks, down_asks, fresh_groups, prepare_of, cleanup_of, claimed, freed}
use Rattle.exb_control_spec.proofs.Plans.UsedNumbers.{IsLowest}
use Rattle.exb_control_spec.proofs.Plans.EachElement.{Each, each_map, each_filter}
use Rattle.exb_control_spec.proofs.Plans.Trunks.{port_extender, under_home}
use Rattle.exb_control_spec.proofs.Plans.Channels.{Rises, rises_is, goes_up_rises, never_rises, no_cascade_under, free_there}
use Rattle.exb_control_spec.proofs.Plans.ChannelOwners.{Gives, gives_from, gives_port}
use Rattle.exb_control_spec.proofs.Plans.HeldAfterPlan.{held_goes_on}
use Rattle.exb_control_spec.proofs.Plans.Sufficiency.{none_short}
use Rattle.exb_control_spec.specs.Decisions.{channel_of}
use Rattle.exb_control_spec.proofs.FreshGroups.{given_port, with_set, fresh_now, fresh_placed}
use Rattle.exb_control_spec.proofs.ReleasedNumbers.{channel_by, none_up, own_stays, same_gone, owned}
use Rattle.exb_control_spec.specs.Runs.LaidTables.{by_extender, is_shown, laid_by, laid}
use Rattle.exb_csp.specs.AllTables.{RunsAt}
use Rattle.exb_control_spec.specs.Runs.Requests.{AreOpened, IsReady, PrepareRuns, CleanupRuns, PlansRun}
use Rattle.exb_control_spec.proofs.Plans.OptionalNumbers.{none_some, is_none_at}
use Rattle.exb_control_spec.proofs.Runs.EqualTables.{runs_append, runs_to, runs_from}
use Rattle.exb_control_spec.proofs.Runs.ChannelRuns.{IsHeld, channel_laid, channel_taken}
use Rattle.exb_control_spec.proofs.Runs.FreeGroups.{AreFreeGroups, are_free, held_stays, given_low}
use Rattle.exb_control_spec.proofs.Runs.Members.{LiesBelow, sets_lie, set_lies}
use Rattle.exb_control_spec.proofs.Runs.GroupRows.{CanReach, groups_laid}
use Rattle.exb_control_spec.proofs.Runs.GroupClears.{ComesOf, groups_cleared}
use Rattle.exb_control_spec.proofs.Runs.UnlaidChannels.{but_shown, IsMore, hidden_same}
use Rattle.exb_control_spec.proofs.Runs.ReachedSets.{groups_reached}
use Rattle.exb_control_spec.proofs.Runs.NeededChannels.{Stands, HasChannel, home_low, home_cascade, stands_from, has_channel, is_held}

-- an extended port
pub record IsExtended (t : Shape) (p : ℕ) : Type 0 where
  pub deep : 64 ≤ p
  pub known : is_port t p ≡ true
  pub external : is_cascade t p ≡ false

extended_is : (t : Shape) (p : ℕ) → is_extended t p ≡ true → IsExtended t p
extended_is t p e = (let f = from_extended t p e in record { deep = f.0; known = f.1; external = f.2 })

-- a port that isn't present needs no channel
no_need : (t : Shape) (b : Bridge) (k p : ℕ) → is_extended t p ≡ true → b.present p ≡ false → needs_channel t b k p ≡ false
no_need t b k p extended absent = rw (absent, no_cascade_under t k p extended) (none (is_under t k p))
  where
    none : (b : Bool) → (b && false || false) ≡ false
    none true = refl
    none false = refl

-- the port of a change that is shown but for its channel, and then is
shown_again : (t : Shape) (opened : ℕ → Bool) (p : ℕ) → is_cascade t p ≡ false → is_shown t opened p ≡ true
shown_again t opened p external = or_left (not (is_cascade t p)) _ (ap not external)

module _ (t : Shape) (l : Limits) (old new : Bridge) (h : Held) (opened : ℕ → Bool) (r : IsReady t l old new h opened) where
  -- at the end just what the new configuration needs is held
  later : HoldsNeeded t new (freed t old new (claimed t l old new h))
  later = held_goes_on t l old new h r.planned.tree r.planned.channels r.planned.groups r.planned.step r.planned.needed r.planned.fits

  -- no port goes down where one goes up
  none_down : (p : ℕ) → goes_up t old new ≡ Some p → (o : Option ℕ) → goes_down t old new ≡ o → o ≡ None
  none_down p up None down = refl
  none_down p up (Some q) down = absurd (none_some p (sym (none_up t l old new h r.planned q down (goes_up t old new) refl) ∙ up))

  -- extenders are opened for the new configuration too
  opened_new : (p : ℕ) → goes_up t old new ≡ Some p → AreOpened t opened new
  opened_new p up = record { above = r.order.above; present = λ q extended now. at q extended now (cases_eq q p) (cases_Bool (old.present q)) }
    where
      rise : Rises t old new p
      rise = rises_is t old new p (goes_up_rises t old new p up)

      at : (q : ℕ) → is_extended t q ≡ true → new.present q ≡ true → (q ≡ p) ⊎ (q ≢ p) → (old.present q ≡ true) ⊎ (old.present q ≡ false) → opened (device q) ≡ true
      at q extended now (inl e) had = ap (λ (x : ℕ). opened (device x)) e ∙ r.up p up
      at q extended now (inr d) (inl had) = r.order.present q extended had
      at q extended now (inr d) (inr had) =
          absurd (d (sym (r.planned.step.one p q (λ e. false≢true (sym rise.absent ∙ (e ∙ rise.present))) (λ e. false≢true (sym had ∙ (e ∙ now))))))

  -- ---- the port that goes up
  -- the configuration whose ports have channels in the middle of the change
  pub middle : Option ℕ → Bridge
  middle None = old
  middle (Some p) = new

  -- what is held then
  raised : Option ℕ → Held
  raised o = with_channel t (new_channel t l h o) o h

  raised_port : (p : ℕ) → goes_up t old new ≡ Some p → (freed t old new (claimed t l old new h)).port ≡ (raised (Some p)).port
  unfolding raised freed claimed fresh_groups
  raised_port p up =
      let g : Held = claimed t l old new h in
      ap (λ (o : Option ℕ). (without_channel t (own_channel t g o) o (free_where (is_gone (sets_of t new) g) g)).port) (none_down p up (goes_down t old new) refl)
      ∙ (given_port (numbered l.groups (with_up t l old new h) (fresh_sets t old new)) (with_up t l old new h)
      ∙ ap (λ (o : Option ℕ). (with_channel t (new_channel t l h o) o h).port) up)

  stands_old : Stands t opened old h
  stands_old = stands_from t opened old h r.planned.tree r.planned.needed r.order

  stands_up : (o : Option ℕ) → goes_up t old new ≡ o → Stands t opened (middle o) (raised o)
  unfolding middle raised
  stands_up None up = stands_old
  stands_up (Some p) up =
      let g = stands_old in
      record {
        tree = r.planned.tree;
        gives = λ k low c.
            gives_port (freed t old new (claimed t l old new h)) (raised (Some p)) k (needs_channel t new k) (λ e. ap (λ (f : ℕ → ℕ → Option ℕ). f k e) (sym (raised_port p up)))
            (gives_from (freed t old new (claimed t l old new h)) k (needs_channel t new k) (λ q. later.channels k q low c) (λ q e is. later.one_channel k q e low c is));
        low = g.low;
        order = opened_new p up;
      }

  up_is_more : (p : ℕ) → goes_up t old new ≡ Some p → IsMore t p (new_channel t l h (Some p)) h (raised (Some p))
  unfolding raised middle
  up_is_more p up =
      let rise : Rises t old new p = rises_is t old new p (goes_up_rises t old new p up) in
      let there : (m : ℕ) × IsLowest (channel_used h (trunk t (device p))) 1 l.channels m =
      free_there t r.planned.tree old h r.planned.needed l p rise.extended
      (subst (λ (o : Option ℕ). channels_short t l old (trunk_of t o) ≡ None) up (none_short t r.planned.tree l old new r.planned.fits).0) in
      let number : new_channel t l h (Some p) ≡ there.0 = ap or_zero there.1.is in
      let c = new_channel t l h (Some p) in
      let k0 = trunk t (device p) in
      record {
        tree = r.planned.tree;
        external = (let x = extended_is t p rise.extended in x.external);
        here = given_here k0 c;
        free = ap (h.port k0) number ∙ is_none_at (h.port k0 there.0) there.1.free;
        absent = λ k e low cascade is. (let g = stands_old in let gk = g.gives k low cascade in false≢true (sym (no_need t old k p rise.extended rise.absent) ∙ gk.sound e p is));
        others = λ k e apart. others_at k0 c k e apart (cases_eq k k0) (cases_eq e c);
        sets = λ k g. refl;
        needs_less = needs_channel t old;
        needs_more = needs_channel t new;
        gives_less = (let g = stands_old in g.gives);
        gives_more = (let g = stands_up (Some p) up in g.gives);
      }
    where
      given_here : (k c : ℕ) → cond (k == k && c == c) (Some p) (h.port k c) ≡ Some p
      given_here k c = rw (eq-eqb k k refl, eq-eqb c c refl) refl

      others_at : (k0 c k e : ℕ) → (k ≡ k0 → e ≢ c) → (k ≡ k0) ⊎ (k ≢ k0) → (e ≡ c) ⊎ (e ≢ c) → cond (k == k0 && e == c) (Some p) (h.port k e) ≡ h.port k e
      others_at k0 c k e apart (inr d) number = rw (ne_eqb k k0 d) refl
      others_at k0 c k e apart (inl at) (inr d) = rw (ne_eqb e c d, eq-eqb k k0 at) refl
      others_at k0 c k e apart (inl at) (inl same) = absurd (apart at same)

  -- ---- a port with its channel that is laid but for it, and then is
  module _ (b : Bridge) (g : Held) (s : Stands t opened b g) (p : ℕ) (extended : is_extended t p ≡ true) (present : b.present p ≡ true) where
    held_port : IsHeld t (but_shown p (is_shown t opened)) (is_shown t opened) g p (channel_of t g p)
    held_port =
        let x = extended_is t p extended in
        is_held t opened b g s p x.deep x.known (or_left _ _ (and_from _ _ (under_home t p extended) present))
        (λ high. s.order.above (device p) (port_extender t p x.deep x.known) (s.order.present p extended present) high)
        (but_shown p (is_shown t opened)) (is_shown t opened)
        (and_left (not (p == p)) _ (ap not (eq-eqb p p refl))) (shown_again t opened p x.external)
        (λ q d. ap (λ b. not b && is_shown t opened q) (ne_eqb q p d))
        (λ q c o d. and_from (not (q == p)) _ (ap not (ne_eqb q p d)) (or_right (not (is_cascade t q)) (opened (device q)) o))

    has_home : HasChannel t g p
    has_home = (let x = extended_is t p extended in has_channel t opened b g s p x.deep x.known (or_left _ _ (and_from _ _ (under_home t p extended) present)))

  up_runs : (o : Option ℕ) → goes_up t old new ≡ o → RunsAt (laid t opened h) (up_asks t (new_channel t l h o) o) (laid t opened (raised o))
  unfolding raised middle
  up_runs None up = refl
  up_runs (Some p) up =
      let rise : Rises t old new p = rises_is t old new p (goes_up_rises t old new p up) in
      let x = extended_is t p rise.extended in
      let w : Held = raised (Some p) in
      let more = up_is_more p up in
      let s : Stands t opened new w = stands_up (Some p) up in
      let gk = s.gives (trunk t (device p)) (home_low t r.planned.tree p x.deep x.known) (home_cascade t r.planned.tree p x.deep x.known) in
      let mine = has_home new w s p rise.extended rise.present in
      let number : channel_of t w p ≡ new_channel t l h (Some p) = gk.one (channel_of t w p) (new_channel t l h (Some p)) p mine.port more.here in
      runs_from (laid t opened h) (by_extender t (laid_by t (but_shown p (is_shown t opened)) w)) (laid t opened w) (create_asks t p false (new_channel t l h (Some p))) (hidden_same t p (new_channel t l h (Some p)) h w more (is_shown t opened))
      (subst (λ (c : ℕ). RunsAt (by_extender t (laid_by t (but_shown p (is_shown t opened)) w)) (create_asks t p false c) (laid t opened w)) number
      (subst (λ (kind : Bool). RunsAt (by_extender t (laid_by t (but_shown p (is_shown t opened)) w)) (create_asks t p kind (channel_of t w p)) (laid t opened w)) x.external
      (channel_laid t r.planned.tree (but_shown p (is_shown t opened)) (is_shown t opened) w p (channel_of t w p) (held_port new w s p rise.extended rise.present))))

  -- ---- fresh groups
  -- a port that is present in one of the two configurations has a channel in the middle
  pub within : (o : Option ℕ) → goes_up t old new ≡ o → (q : ℕ) → is_extended t q ≡ true → new.present q ≡ true → (middle o).present q ≡ true
  unfolding middle
  within None up q extended now = was (old.present q) (new.present q) (never_rises t r.planned.tree old new q extended up) now
    where
      was : (a b : Bool) → (not a && b) ≡ false → b ≡ true → a ≡ true
      was true b e f = refl
      was false b e f = absurd (false≢true (sym e ∙ f))
  within (Some p) up q extended now = now

  pub within_old : (o : Option ℕ) → goes_up t old new ≡ o → (q : ℕ) → is_extended t q ≡ true → old.present q ≡ true → (middle o).present q ≡ true
  unfolding middle
  within_old None up q extended had = had
  within_old (Some p) up q extended had = elim (cases_Bool (new.present q)) [
    | inl now ↦ now
    | inr gone ↦
        let rise : Rises t old new p = rises_is t old new p (goes_up_rises t old new p up) in
        let same : p ≡ q = r.planned.step.one p q (λ e. false≢true (sym rise.absent ∙ (e ∙ rise.present))) (λ e. false≢true (sym gone ∙ (sym e ∙ had))) in
        absurd (false≢true (sym rise.absent ∙ (ap old.present same ∙ had)))
  ]

  pub fresh_lie : Each (LiesBelow t new) (fresh_sets t old new)
  unfolding fresh_sets
  fresh_lie =
      each_map (λ x. LiesBelow t new x × (not (has_set (sets_of t old) x) ≡ true)) (LiesBelow t new) (fresh_sets t old new) (λ x a. a.0)
      (each_filter (LiesBelow t new) (λ x. not (has_set (sets_of t old) x)) (sets_of t new) (sets_lie t new))

  stands_raised : Stands t opened (middle (goes_up t old new)) (with_up t l old new h)
  unfolding raised
  stands_raised = stands_up (goes_up t old new) refl

  free_groups : AreFreeGroups (with_up t l old new h) (fresh_groups t l old new h)
  unfolding fresh_groups
  free_groups =
      are_free l.groups r.planned.groups (with_up t l old new h) (fresh_sets t old new) (fresh_now t l old new h r.planned) (fresh_placed t l old new h r.planned)

  reached : Each (CanReach t (is_shown t opened) (with_up t l old new h)) (fresh_groups t l old new h)
  unfolding fresh_groups
  reached =
      groups_reached t opened (middle (goes_up t old new)) (with_up t l old new h) stands_raised new (within (goes_up t old new) refl) l.groups (with_up t l old new h) (fresh_sets t old new)
      fresh_lie (fresh_placed t l old new h r.planned)

  groups_run : RunsAt (laid t opened (with_up t l old new h)) (group_asks Lay t (fresh_groups t l old new h)) (laid t opened (claimed t l old new h))
  unfolding claimed
  groups_run = groups_laid t opened (middle (goes_up t old new)) (with_up t l old new h) stands_raised (fresh_groups t l old new h) free_groups reached

  pub prepare_runs : PrepareRuns t l old new h opened
  unfolding prepare_of raised
  prepare_runs =
      runs_append (laid t opened h) (laid t opened (with_up t l old new h)) (laid t opened (claimed t l old new h))
      (up_asks t (new_channel t l h (goes_up t old new)) (goes_up t old new)) (group_asks Lay t (fresh_groups t l old new h)) (up_runs (goes_up t old new) refl) groups_run

  -- ---- groups that are gone
  pub stands_claimed : Stands t opened (middle (goes_up t old new)) (claimed t l old new h)
  unfolding claimed
  stands_claimed =
      let w : Held = with_up t l old new h in
      let s = stands_raised in
      record {
        tree = s.tree;
        gives = λ k low c. gives_port w (give_all (fresh_groups t l old new h) w) k (needs_channel t (middle (goes_up t old new)) k) (λ e. ap (λ (f : ℕ → ℕ → Option ℕ). f k e) (given_port (fresh_groups t l old new h) w)) (s.gives k low c);
        low = λ k g low c used. given_low w (fresh_groups t l old new h) free_groups k (λ g u. s.low k g low c u) g used;
        order = s.order;
      }

  -- what was held is held
  stays : (k g : ℕ) → group_used h k g ≡ true → (claimed t l old new h).set k g ≡ h.set k g
  unfolding claimed
  stays k g used =
      let same : (with_up t l old new h).set k g ≡ h.set k g = ap (λ (set : ℕ → ℕ → List ℕ). set k g) (with_set t (new_channel t l h (goes_up t old new)) (goes_up t old new) h) in
      held_stays (with_up t l old new h) (fresh_groups t l old new h) free_groups k g (ap (λ x. not (is_empty_set x)) same ∙ used) ∙ same

  comes_of : ComesOf t old h (claimed t l old new h)
  comes_of = record {
    low = λ k g low c used. (let o = owned t l old new h r.planned k low c in o.low g used);
    high = λ k g low c used. (let o = owned t l old new h r.planned k low c in o.high g used);
    lies = λ k g low c used. (let o = owned t l old new h r.planned k low c in set_lies t old k (h.set k g) low (o.sound g used));
    same = stays;
  }

  -- what is held without them
  emptied : Held
  emptied = free_where (is_gone (sets_of t new) (claimed t l old new h)) (claimed t l old new h)

  clears_run : RunsAt (laid t opened (claimed t l old new h)) (group_asks Clear t (gone_groups t (sets_of t new) h)) (laid t opened emptied)
  unfolding emptied
  clears_run =
      groups_cleared t opened (middle (goes_up t old new)) old (claimed t l old new h) h stands_claimed comes_of (sets_of t new) (same_gone t l old new h r.planned)

  -- ---- the port that goes down
  -- what is held without its channel
  lowered : Option ℕ → Held
  lowered o = without_channel t (own_channel t (claimed t l old new h) o) o emptied

  freed_is : freed t old new (claimed t l old new h) ≡ lowered (goes_down t old new)
  unfolding freed lowered emptied
  freed_is = refl

  lowered_port : (o : Option ℕ) → goes_down t old new ≡ o → (freed t old new (claimed t l old new h)).port ≡ (lowered o).port
  lowered_port o down = ap (λ (g : Held). g.port) freed_is ∙ ap (λ (x : Option ℕ). (lowered x).port) down

  gives_end : (o : Option ℕ) → goes_down t old new ≡ o → (k : ℕ) → k < 64 → is_cascade t k ≡ true → Gives (lowered o) k (needs_channel t new k)
  gives_end o down k low c =
      gives_port (freed t old new (claimed t l old new h)) (lowered o) k (needs_channel t new k) (λ e. ap (λ (f : ℕ → ℕ → Option ℕ). f k e) (sym (lowered_port o down)))
      (gives_from (freed t old new (claimed t l old new h)) k (needs_channel t new k) (λ q. later.channels k q low c) (λ q e is. later.one_channel k q e low c is))

  stands_emptied : (q : ℕ) → goes_down t old new ≡ Some q → Stands t opened old emptied
  unfolding emptied middle
  stands_emptied q down =
      let s : Stands t opened old (claimed t l old new h) =
      subst (λ (o : Option ℕ). Stands t opened (middle o) (claimed t l old new h)) (none_up t l old new h r.planned q down (goes_up t old new) refl) stands_claimed in
      record {
        tree = s.tree;
        gives = λ k low c. gives_port (claimed t l old new h) (free_where (is_gone (sets_of t new) (claimed t l old new h)) (claimed t l old new h)) k (needs_channel t old k) (λ e. refl) (s.gives k low c);
        low = λ k g low c used. s.low k g low c (by_gone (is_gone (sets_of t new) (claimed t l old new h) k g) ((claimed t l old new h).set k g) used);
        order = s.order;
      }
    where
      by_gone : (b : Bool) (set : List ℕ) → not (is_empty_set (cond b [] set)) ≡ true → not (is_empty_set set) ≡ true
      by_gone true set e = absurd (false≢true e)
      by_gone false set e = e

  emptied_channel : (q : ℕ) → channel_of t emptied q ≡ own_channel t (claimed t l old new h) (Some q)
  unfolding emptied
  emptied_channel q = ap or_zero (channel_by (free_where (is_gone (sets_of t new) (claimed t l old new h)) (claimed t l old new h)) (claimed t l old new h) (trunk t (device q)) q (λ e. refl))

  down_is_more : (q : ℕ) → goes_down t old new ≡ Some q → IsMore t q (own_channel t (claimed t l old new h) (Some q)) (lowered (Some q)) emptied
  unfolding lowered emptied
  down_is_more q down =
      let s : Rises t new old q = rises_is t new old q (goes_up_rises t new old q down) in
      let k0 = trunk t (device q) in
      let c = own_channel t (claimed t l old new h) (Some q) in
      let same : channel_of t emptied q ≡ c = emptied_channel q in
      let mine = has_home old emptied (stands_emptied q down) q s.extended s.present in
      record {
        tree = r.planned.tree;
        external = (let x = extended_is t q s.extended in x.external);
        here = ap (emptied.port k0) (sym same) ∙ mine.port;
        free = freed_here k0 c;
        absent = λ k e low cascade is.
            let gk : Gives (lowered (Some q)) k (needs_channel t new k) = gives_end (Some q) down k low cascade in
            false≢true (sym (no_need t new k q s.extended s.absent) ∙ gk.sound e q is);
        others = λ k e apart. others_at k0 c k e apart (cases_eq k k0) (cases_eq e c);
        sets = λ k g. refl;
        needs_less = needs_channel t new;
        needs_more = needs_channel t old;
        gives_less = gives_end (Some q) down;
        gives_more = (let g = stands_emptied q down in g.gives);
      }
    where
      freed_here : (k c : ℕ) → cond (k == k && c == c) None (emptied.port k c) ≡ None
      freed_here k c = rw (eq-eqb k k refl, eq-eqb c c refl) refl

      others_at : (k0 c k e : ℕ) → (k ≡ k0 → e ≢ c) → (k ≡ k0) ⊎ (k ≢ k0) → (e ≡ c) ⊎ (e ≢ c) → emptied.port k e ≡ cond (k == k0 && e == c) None (emptied.port k e)
      others_at k0 c k e apart (inr d) number = rw (ne_eqb k k0 d) refl
      others_at k0 c k e apart (inl at) (inr d) = rw (ne_eqb e c d, eq-eqb k k0 at) refl
      others_at k0 c k e apart (inl at) (inl same) = absurd (apart at same)

  down_runs : (o : Option ℕ) → goes_down t old new ≡ o → RunsAt (laid t opened emptied) (down_asks t (own_channel t h o) o) (laid t opened (lowered o))
  unfolding lowered
  down_runs None down = refl
  down_runs (Some q) down =
      let s : Rises t new old q = rises_is t new old q (goes_up_rises t new old q down) in
      let x = extended_is t q s.extended in
      let g : Held = emptied in
      let shown = is_shown t opened in
      let c = own_channel t (claimed t l old new h) (Some q) in
      let number : channel_of t g q ≡ own_channel t h (Some q) = emptied_channel q ∙ sym (own_stays t l old new h r.planned (Some q) down) in
      subst (λ (n : ℕ). RunsAt (laid t opened g) (delete_asks t q n) (laid t opened (lowered (Some q)))) number
      (runs_to (laid t opened g) (by_extender t (laid_by t (but_shown q (is_shown t opened)) g)) (laid t opened (lowered (Some q))) (delete_asks t q (channel_of t g q))
      (channel_taken t r.planned.tree (but_shown q (is_shown t opened)) (is_shown t opened) g q (channel_of t g q) (held_port old g (stands_emptied q down) q s.extended s.present) x.external)
      (sym (hidden_same t q (own_channel t (claimed t l old new h) (Some q)) (lowered (Some q)) g (down_is_more q down) (is_shown t opened))))

  pub cleanup_runs : CleanupRuns t l old new h opened
  unfolding cleanup_of
  cleanup_runs =
      runs_append (laid t opened (claimed t l old new h)) (laid t opened emptied) (laid t opened (freed t old new (claimed t l old new h)))
      (group_asks Clear t (gone_groups t (sets_of t new) h)) (down_asks t (own_channel t h (goes_down t old new)) (goes_down t old new)) clears_run
      (runs_to (laid t opened emptied) (laid t opened (lowered (goes_down t old new))) (laid t opened (freed t old new (claimed t l old new h))) (down_asks t (own_channel t h (goes_down t old new)) (goes_down t old new))
      (down_runs (goes_down t old new) refl) (ap (laid t opened) (sym freed_is)))

pub plans_run : PlansRun
plans_run t l old new h opened r = (prepare_runs t l old new h opened r, cleanup_runs t l old new h opened r)

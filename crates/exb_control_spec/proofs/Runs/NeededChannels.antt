-- Each port that needs a channel has one, and each port above it too.
use Rattle.std.proofs.Common.{◌≡◌, ◌≢◌, ℕ, ◌<◌, ◌≤◌, ◌==◌, Bool, true, false, Some, refl, ◌∙◌, ap, subst, arith, eq-eqb}
use Rattle.std.specs.Prelude.{bytes_eq}
use Rattle.std.specs.List.{list_any}
use Rattle.std.proofs.lemmas.Bool.{eqb-true, and_from, or_right, lt-ltb, le-leb}
use Rattle.exb_model.specs.Tree.{Shape, IsTree, IsCascade, device, on, top, path, trunk, is_port, is_cascade}
use Rattle.exb_model.specs.TreeSets.{covers}
use Rattle.exb_model.specs.Configuration.{Bridge}
use Rattle.exb_model.specs.Refusals.{sets_at}
use Rattle.exb_model.proofs.TreeWays.{among, top_high, top_hangs, top_below, covers-true}
use Rattle.exb_control_spec.specs.Plans.HeldNumbers.{Held, HoldsNeeded, needs_channel, group_used, or_zero}
use Rattle.exb_control_spec.proofs.Plans.Trunks.{hung_cascade}
use Rattle.exb_control_spec.proofs.Plans.ChannelOwners.{Gives, gives_from, gives_one}
use Rattle.exb_control_spec.proofs.Plans.GroupOwners.{owns_from}
use Rattle.exb_control_spec.specs.Decisions.{channel_of}
use Rattle.exb_control_spec.specs.Runs.Requests.{AreOpened}
use Rattle.exb_control_spec.proofs.Runs.Bools.{none_there}
use Rattle.exb_control_spec.proofs.Runs.PortsAbove.{ways}
use Rattle.exb_control_spec.proofs.Runs.ChannelRuns.{IsHeld}

-- the bridge port above a port of an extender is a cascade port
module _ (t : Shape) (valid : IsTree t) (q : ℕ) (deep : 64 ≤ q) (known : is_port t q ≡ true) where
  pub home_low : trunk t (device q) < 64
  unfolding trunk
  home_low = subst (λ (x : ℕ). x < 64) (top_high t 63 q deep) (top_below t valid q deep known)

  pub home_cascade : is_cascade t (trunk t (device q)) ≡ true
  unfolding trunk
  home_cascade =
      let c : IsCascade t (top t.on 64 q) = top_hangs t valid 64 q deep known (top_below t valid q deep known) in
      subst (λ (x : ℕ). is_cascade t x ≡ true) (top_high t 63 q deep) (hung_cascade t valid c.0 (top t.on 64 q) c.1)

-- Just the ports that need one in a configuration have channels, the numbers of groups are above those of channels,
-- and extenders are opened for the configuration.
pub record Stands (t : Shape) (opened : ℕ → Bool) (b : Bridge) (h : Held) : Type 0 where
  pub tree : IsTree t
  pub gives : (k : ℕ) → k < 64 → is_cascade t k ≡ true → Gives h k (needs_channel t b k)
  pub low : (k g : ℕ) → k < 64 → is_cascade t k ≡ true → group_used h k g ≡ true → 4096 ≤ g
  pub order : AreOpened t opened b

pub stands_from : (t : Shape) (opened : ℕ → Bool) (b : Bridge) (h : Held) → IsTree t → HoldsNeeded t b h → AreOpened t opened b → Stands t opened b h
stands_from t opened b h valid needed order = record {
  tree = valid;
  gives = λ k low c. gives_from h k (needs_channel t b k) (λ p. needed.channels k p low c) (λ p m e. needed.one_channel k p m low c e);
  low = λ k g low c used. (let o = owns_from h k (λ set. list_any (bytes_eq set) (sets_at t k b)) (λ set. needed.groups k set low c) (λ g u. needed.one_group k g low c u) in o.low g used);
  order = order;
}

-- ---- channels
-- the channel of a port at its trunk
pub record HasChannel (t : Shape) (h : Held) (p : ℕ) : Type 0 where
  pub from1 : 1 ≤ channel_of t h p
  pub below : channel_of t h p < 4095
  pub port : h.port (trunk t (device p)) (channel_of t h p) ≡ Some p

module _ (t : Shape) (opened : ℕ → Bool) (b : Bridge) (h : Held) (s : Stands t opened b h) where
  module _ (p : ℕ) (deep : 64 ≤ p) (known : is_port t p ≡ true) where
    at_home : Gives h (trunk t (device p)) (needs_channel t b (trunk t (device p)))
    at_home = s.gives (trunk t (device p)) (home_low t s.tree p deep known) (home_cascade t s.tree p deep known)

    pub has_channel : needs_channel t b (trunk t (device p)) p ≡ true → HasChannel t h p
    has_channel needs =
        let g = at_home in
        let c : (c : ℕ) × (h.port (trunk t (device p)) c ≡ Some p) = g.full p needs in
        let is : channel_of t h p ≡ c.0 = ap or_zero (gives_one h (trunk t (device p)) (needs_channel t b (trunk t (device p))) g p c.0 c.1) in
        record {
          from1 = (let l = g.low c.0 p c.1 in omega (arith, l, is));
          below = (let l = g.high c.0 p c.1 in omega (arith, l, is));
          port = ap (h.port (trunk t (device p))) is ∙ c.1;
        }

    pub cascade_needs : is_cascade t p ≡ true → needs_channel t b (trunk t (device p)) p ≡ true
    cascade_needs c = or_right _ _ (and_from _ _ (and_from _ _ (and_from _ _ (le-leb 64 p deep) known) c) (eq-eqb (trunk t (device p)) (trunk t (device p)) refl))

  -- a cascade port of an extender has one
  pub cascade_channel : (q : ℕ) → 64 ≤ q → is_port t q ≡ true → is_cascade t q ≡ true → channel_of t h q ≢ 0
  cascade_channel q deep known c none =
      let mine = has_channel q deep known (cascade_needs q deep known c) in
      let low : 1 ≤ channel_of t h q = mine.from1 in
      absurd (omega (arith, low, none))

  module _ (p : ℕ) (deep : 64 ≤ p) (known : is_port t p ≡ true) where
    pub is_held : needs_channel t b (trunk t (device p)) p ≡ true → (64 ≤ on t (device p) → opened (device (on t (device p))) ≡ true) → (before after : ℕ → Bool) →
        before p ≡ false → after p ≡ true → ((q : ℕ) → q ≢ p → before q ≡ after q) → ((q : ℕ) → is_cascade t q ≡ true → opened (device q) ≡ true → q ≢ p → before q ≡ true) →
        IsHeld t before after h p (channel_of t h p)
    is_held needs parent before after hidden shown same all =
        let c = has_channel p deep known needs in
        let low : 1 ≤ channel_of t h p = c.from1 in
        let high : channel_of t h p < 4095 = c.below in
        let g = at_home p deep known in
        record {
          deep = deep;
          known = known;
          channel = and_from _ _ (lt-ltb 0 (channel_of t h p) (omega arith)) (lt-ltb (channel_of t h p) 4095 high);
          own = refl;
          port = c.port;
          only = λ e is. g.one e (channel_of t h p) p is c.port;
          no_group = none_there (h.set (trunk t (device p)) (channel_of t h p)) (λ used. let l = s.low (trunk t (device p)) (channel_of t h p) (home_low t s.tree p deep known) (home_cascade t s.tree p deep known) used in absurd (omega (arith, l, high)));
          above = λ q far other covered. above_is q far other covered;
          hidden = hidden;
          shown = shown;
          same = same;
        }
      where
        above_is : (q : ℕ) → 64 ≤ q → q ≢ p → covers t (λ x. x == p) q ≡ true → (is_port t q ≡ true) × (before q ≡ true) × (channel_of t h q ≢ 0)
        above_is q far other covered =
            let c = covers-true t (λ x. x == p) q covered in
            let m = eqb-true c.member p c.chosen in
            let way : among q (path t.on p) ≡ true = subst (λ (x : ℕ). among q (path t.on x) ≡ true) m c.below in
            let a = ways t s.tree opened s.order.above p q deep known parent far other way in
            (a.known, all q a.cascade a.there other, cascade_channel q far a.known a.cascade)

-- At the beginning nothing is laid.
use Rattle.std.proofs.Common.{◌≡◌, ℕ, ◌≤◌, ◌==◌, ◌&&◌, ◌||◌, cond, Bool, true, false, not, Option, Some, None, slice_index, refl, sym, ◌∙◌, ap}
use Rattle.std.specs.Prelude.{is_some, nat_le}
use Rattle.std.proofs.lemmas.Bool.{and_left, and_right, or_from, false≢true}
use Rattle.exb_model.specs.Tree.{Shape, IsTree, device, trunk, is_port, is_cascade, is_cascade_under}
use Rattle.exb_model.specs.Configuration.{Bridge}
use Rattle.exb_model.specs.ExtenderForwarding.{Tables}
use Rattle.exb_csp.specs.PortMasks.{powered_on}
use Rattle.exb_control_spec.proofs.Plans.TreeWays.{from_cascade}
use Rattle.exb_control_spec.specs.Plans.HeldNumbers.{Held, channel_in, or_zero}
use Rattle.exb_control_spec.specs.Plans.Laws.{IsBeginning}
use Rattle.exb_control_spec.specs.Decisions.{channel_of}
use Rattle.exb_control_spec.proofs.Plans.Bools.{and_false}
use Rattle.exb_control_spec.specs.Runs.LaidTables.{has_port, by_extender, is_shown, channel_pair, group_pair, laid_by}
use Rattle.exb_control_spec.specs.Runs.Requests.{NothingIsLaid}
use Rattle.exb_control_spec.proofs.Runs.EqualTables.{like_tables, same_extender}
use Rattle.exb_control_spec.proofs.Runs.ChannelRuns.{covers_none}
use Rattle.exb_control_spec.proofs.Runs.NeededChannels.{home_low, home_cascade}

nothing : Tables
nothing = record { own = λ q. 0; cascade = λ q. false; pair = λ e q. false }

nothing_on : (t : Shape) (n : ℕ) → by_extender t nothing n ≡ powered_on (slice_index t.ports n)
unfolding nothing powered_on
nothing_on t n = same_extender _ _ refl (λ k. zero_by (has_port t n k)) (λ k. and_false (has_port t n k)) (λ e k. and_false (has_port t n k))
  where
    zero_by : (b : Bool) → ◌≡◌ {A = ℕ} (cond b 0 0) 0
    zero_by true = refl
    zero_by false = refl

module _ (t : Shape) (valid : IsTree t) (b : Bridge) (h : Held) (begins : IsBeginning t b h) (q : ℕ) (deep : 64 ≤ q) (known : is_port t q ≡ true) where
  closed : ℕ → Bool
  closed n = false

  -- no channel is laid
  hidden : (p e : ℕ) → h.port (trunk t (device q)) e ≡ Some p → is_shown t closed p ≡ false
  unfolding closed
  hidden p e is =
      let k = trunk t (device q) in
      let low = home_low t valid q deep known in
      let c = home_cascade t valid q deep known in
      let under : is_cascade_under t k p ≡ true = sym (begins.held.channels k p low c) ∙ ap is_some (begins.held.one_channel k p e low c is) in
      or_from _ _ (ap not (from_cascade t k p under).1) refl

  pair_is : (e : ℕ) → (laid_by t (is_shown t closed) h).pair e q ≡ false
  pair_is e =
      or_from _ _ (by_port (h.port (trunk t (device q)) e) refl)
      (ap (group_pair t q) (begins.held.groups (trunk t (device q)) e (home_low t valid q deep known) (home_cascade t valid q deep known)) ∙ covers_none t q)
    where
      by_port : (o : Option ℕ) → h.port (trunk t (device q)) e ≡ o → channel_pair t (is_shown t closed) q o ≡ false
      by_port None is = refl
      by_port (Some p) is = and_left (is_shown t closed p) _ (hidden p e is)

  own_is : (laid_by t (is_shown t closed) h).own q ≡ 0
  unfolding closed
  own_is = by_cascade (is_cascade t q) refl
    where
      no_channel : (o : Option ℕ) → is_some o ≡ false → or_zero o ≡ 0
      no_channel None e = refl
      no_channel (Some x) e = absurd (false≢true (sym e))

      by_cascade : (c : Bool) → is_cascade t q ≡ c → cond (not c || false) (channel_of t h q) 0 ≡ 0
      by_cascade true is = refl
      by_cascade false is =
          let k = trunk t (device q) in
          no_channel (channel_in h k q) (begins.held.channels k q (home_low t valid q deep known) (home_cascade t valid q deep known)
          ∙ and_left _ (trunk t (device q) == k) (and_right (nat_le 64 q && is_port t q) _ is))

  kind_is : (laid_by t (is_shown t closed) h).cascade q ≡ false
  unfolding closed
  kind_is = by_cascade (is_cascade t q)
    where
      by_cascade : (c : Bool) → (c && (not c || false)) ≡ false
      by_cascade true = refl
      by_cascade false = refl

pub nothing_is_laid : NothingIsLaid
unfolding closed nothing
nothing_is_laid t b h valid begins =
    like_tables t (laid_by t (is_shown t (λ n. false)) h) nothing (record {
      own = λ q deep known. own_is t valid b h begins q deep known;
      cascade = λ q deep known. kind_is t valid b h begins q deep known;
      pair = λ e q deep known. pair_is t valid b h begins q deep known e;
    })
    ∙ (λ i n. nothing_on t n i)

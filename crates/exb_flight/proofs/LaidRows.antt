-- Rows that are laid: each port of them has its channel, and a word with their number is one for its set.
use Rattle.std.proofs.Common.{◌≡◌, ◌≢◌, ℕ, ◌<◌, Bool, true, false, Some, sym, ◌∙◌, ap, subst, inl, inr}
use Rattle.std.proofs.lemmas.Bool.{cases_Bool, false≢true}
use Rattle.exb_model.specs.ETags.{Tag, read_etag}
use Rattle.exb_model.specs.Tree.{Shape, device, on, is_extended, is_under, trunk, HangsOn, IsCascade, IsTree}
use Rattle.exb_model.specs.TreeSets.{covers}
use Rattle.exb_model.specs.ExtenderForwarding.{Tables}
use Rattle.exb_model.proofs.TreeWays.{top_low}
use Rattle.exb_model.proofs.TreeLoops.{trunk_is}
use Rattle.exb_control_spec.specs.Plans.LaidRows.{IsLaid, SendsOn}
use Rattle.exb_control_spec.proofs.Plans.TreeWays.{Under, under_test, cascade_test, from_extended, hung_cascade, covered_cascade}
use Rattle.exb_control_spec.proofs.Plans.Trunks.{under_extended}
use Rattle.exb_flight.specs.Items.{Word}
use Rattle.exb_flight.specs.Tree.{Over, IsDeep}
use Rattle.exb_flight.specs.DownwardFrames.{IsWord}
use Rattle.exb_flight.proofs.ExtendersAbove.{home_link, row_below, trunk_over}

module _ (s : Shape) (valid : IsTree s) (t : Tables) (k : ℕ) (set : ℕ → Bool) (number : ℕ) (laid : IsLaid s t k set number) (p : ℕ) (deep : IsDeep s p) (home : trunk s (device p) ≡ k) (covered : covers s set p ≡ true) where
  under : Under s k p
  under = record { deep = deep.deep; known = deep.known; at = home }

  -- a port on the way to one of the set
  on_the_way : set p ≡ false → SendsOn t number p
  on_the_way e = laid.ways p (cascade_test s k p under (covered_cascade s valid set p covered e)) covered e

  pub laid_owns : 0 < t.own p
  laid_owns =
      elim (cases_Bool (set p)) [
        | inl e ↦ laid.channels p e
        | inr e ↦ (on_the_way e).channel
      ]

  pub laid_ways : ((q : ℕ) → set q ≡ true → is_extended s q ≡ true) → IsCascade s p → (t.cascade p ≡ true) × (t.own p ≢ number)
  laid_ways outer c =
      elim (cases_Bool (set p)) [
        | inl e ↦ absurd (false≢true (sym (from_extended s p (outer p e)).2 ∙ hung_cascade s valid c.0 p c.1))
        | inr e ↦ (let w = on_the_way e in (w.kind, w.other))
      ]

-- the trunk of an extender on the bridge
pub trunk_low : (s : Shape) (n : ℕ) → on s n < 64 → trunk s n ≡ on s n
trunk_low s n low = trunk_is s n ∙ top_low s 63 (on s n) low

-- a word with the number of rows that are laid below bridge port k, on the link of the extender there
pub laid_word : (s : Shape) → IsTree s → (t : Tables) (k n : ℕ) (set : ℕ → Bool) (number : ℕ) → k < 64 → HangsOn s n k → ((q : ℕ) → set q ≡ true → is_under s k q ≡ true) →
    covers s set k ≡ true → IsLaid s t k set number → (f : Word) (tag : Tag) → read_etag f.bytes ≡ Some tag → tag.ecid ≡ number → IsWord s t n f
laid_word s valid t k n set number low hung inside some laid f tag read same =
    record {
      tag = tag;
      read = read;
      set = set;
      under = λ q e. subst (λ (j : ℕ). is_under s j q ≡ true) (sym top) (inside q e);
      row = row_below s valid set k n outer hung some;
      rows = λ p deep o r. ap (λ (e : ℕ). t.pair e p) same ∙ laid.rows p (under_test s k p (record { deep = deep.deep; known = deep.known; at = home p deep o }));
      owns = λ p deep o c. laid_owns s valid t k set number laid p deep (home p deep o) c;
      ways = λ p deep o c hung.
          let w = laid_ways s valid t k set number laid p deep (home p deep o) c outer hung in
          (w.0, subst (λ (e : ℕ). t.own p ≢ e) (sym same) w.1);
    }
  where
    outer : (q : ℕ) → set q ≡ true → is_extended s q ≡ true
    outer q e = under_extended s k q (inside q e)

    top : trunk s n ≡ k
    top = trunk_low s n (subst (λ (x : ℕ). x < 64) (sym hung.at) low) ∙ hung.at

    home : (p : ℕ) → IsDeep s p → Over s n (device p) → trunk s (device p) ≡ k
    home p deep o = sym (trunk_over s valid n (device p) (home_link s p deep) o) ∙ top

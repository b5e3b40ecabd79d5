-- What is laid for a configuration carries its words.
use Rattle.std.proofs.Common.{◌≡◌, ℕ, ◌+◌, ◌-◌, ◌<◌, ◌==◌, true, sym, ◌∙◌, subst, arith}
use Rattle.exb_model.specs.Tree.{Shape, IsTree, is_under}
use Rattle.exb_model.specs.ExtenderForwarding.{Tables}
use Rattle.exb_model.specs.Configuration.{Bridge}
use Rattle.exb_control_spec.specs.Plans.LaidRows.{IsLaid}
use Rattle.exb_control_spec.proofs.Plans.CarriedFrames.{group_words, channel_words}
use Rattle.exb_csp.specs.AllTables.{tables_at}
use Rattle.exb_model.specs.Lists.{is_listed}
use Rattle.exb_model.specs.Carriage.{Carries}
use Rattle.exb_control_spec.specs.Plans.HeldNumbers.{Held, numbers_in}
use Rattle.exb_control_spec.proofs.Plans.GroupOwners.{IsGroupOf, group_found}
use Rattle.exb_control_spec.proofs.Plans.ChannelOwners.{IsChannelOf, channel_found}
use Rattle.exb_control_spec.proofs.Runs.Members.{set_lies}
use Rattle.exb_control_spec.specs.Runs.TablesMidChange.{IsLaidFor, CarriesMidway}
use Rattle.exb_control_spec.proofs.Runs.TablesMidChange.{laid_midway}

carries_for : (t : Shape) → IsTree t → (b : Bridge) (h : Held) (u : Tables) → IsLaidFor t b h u → Carries t u b (numbers_in h)
carries_for t valid b h u laid =
    record {
      own = laid.own;
      groups = λ k n g set low hung e found f tag read number q ext.
          let is : IsGroupOf h k set g = group_found h k set g found in
          let lies = set_lies t b k set low e in
          let same : k + 1 - 1 ≡ k = omega arith in
          group_words t u k n (is_listed set) g valid low hung (λ p m. subst (λ (j : ℕ). is_under t j p ≡ true) same (lies.under p m)) is.low (laid.groups k g set low e found) f tag read number q ext;
      channels = λ k n r c low hung under there found f tag read number q ext.
          let is : IsChannelOf h k r c = channel_found h k r c found in
          let own : u.own r ≡ c = laid.own k r c under there found in
          let small : u.own r < 4096 = (let l = is.high in omega (arith, l, own)) in
          channel_words t u k n r valid low hung under small (subst (IsLaid t u k (λ x. x == r)) (sym own) (laid.channels k r c under there found)) f tag read (number ∙ sym own) q ext;
    }

pub carries_midway : CarriesMidway
carries_midway t y valid stands = carries_for t valid y.state.bridge y.state.held (tables_at y.tables) (laid_midway t y valid stands)

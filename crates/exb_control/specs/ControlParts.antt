-- The value of a control by its parts, and what they keep.
use Rattle.std.specs.Prelude.{◌≡◌, ℕ, Bool, false, List}
use Rattle.exb_control_spec.specs.declared.job.Job.{Job}
use Rattle.exb_control.specs.declared.change_execution.ChangeExecutor.{ChangeExecutor}
use Rattle.exb_control.specs.Controls.{Parts}
use Rattle.exb_control.specs.Soundness.{IsSound}

abbrev pub parts_of : ChangeExecutor → List Job → List Bool → ℕ → Bool → Parts
parts_of c queue heard given failed =
    record {
      active = c.active;
      place = c.place;
      queue = queue;
      heard = heard;
      askers = c.sessions;
      given = given;
      failed = failed;
    }

pub record IsKept (c : ChangeExecutor) (queue : List Job) (given : ℕ) (failed : Bool) : Type 0 where
  pub sound : failed ≡ false → IsSound c queue given

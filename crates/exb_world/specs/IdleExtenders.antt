-- An extender that leaves nothing to be done.
use Rattle.std.specs.Prelude.{◌≡◌, ℕ, [], None}
use Rattle.exb_world_spec.specs.Worlds.{World}

-- nothing is on its link, and both ends of its transport are idle
pub record IsIdle (w : World) (n : ℕ) : Type 0 where
  pub near : (w.near n).sending ≡ None
  pub far : (w.far n).ecp.sending ≡ None
  pub down : w.down n ≡ []
  pub up : w.up n ≡ []

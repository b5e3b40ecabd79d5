-- Where a frame comes to an extender.
use Rattle.std.specs.Prelude.{◌≡◌, ℕ, true}
use Rattle.exb_model.specs.Tree.{Shape, device, is_port, is_extender}

-- it is a port of an extender
pub record IsPortAt (t : Shape) (p : ℕ) : Type 0 where
  pub extender : is_extender t (device p) ≡ true
  pub port : is_port t p ≡ true

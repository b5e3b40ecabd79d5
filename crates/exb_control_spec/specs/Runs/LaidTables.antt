-- The tables of all extenders where just what is held is laid.
use Rattle.std.specs.Prelude.{ℕ, ◌==◌, ◌&&◌, ◌||◌, Bool, false, not, List, Option, Some, None, nat_lt, nat_le, slice_index, if◌then◌else◌}
use Rattle.exb_model.specs.Tree.{Shape, device, trunk, is_cascade}
use Rattle.exb_model.specs.TreeSets.{covers}
use Rattle.exb_model.specs.ExtenderForwarding.{Tables}
use Rattle.exb_csp.specs.Execution.{ExtenderTables}
use Rattle.exb_csp.specs.AllTables.{port_of}
use Rattle.exb_model.specs.Lists.{is_listed}
use Rattle.exb_control_spec.specs.Plans.HeldNumbers.{Held}
use Rattle.exb_control_spec.specs.Decisions.{channel_of}

-- extender n is of the tree, and has a port of that number, from 1
abbrev pub has_port : Shape → ℕ → ℕ → Bool
has_port t n port = nat_lt 0 n && (nat_lt 0 port && (nat_le port 64 && nat_le port (slice_index t.ports n)))

-- the tables of each extender that say of its ports what is said of all ports; ports that it doesn't have
-- have nothing
abbrev pub by_extender : Shape → Tables → ℕ → ExtenderTables
by_extender t x n =
    record {
      ports = slice_index t.ports n;
      own = λ port. if has_port t n port then x.own (port_of n port) else 0;
      cascade = λ port. has_port t n port && x.cascade (port_of n port);
      pair = λ e port. has_port t n port && x.pair e (port_of n port);
    }

-- the port was created: a cascade port is when its extender is opened
abbrev pub is_shown : Shape → (ℕ → Bool) → ℕ → Bool
is_shown t opened q = not (is_cascade t q) || opened (device q)

-- a channel's rows are those of its port, once it was created
abbrev pub channel_pair : Shape → (ℕ → Bool) → ℕ → Option ℕ → Bool
channel_pair t shown q None = false
channel_pair t shown q (Some p) = shown p && covers t (λ x. x == p) q

-- a group's rows are those of its set
abbrev pub group_pair : Shape → ℕ → List ℕ → Bool
group_pair t q set = covers t (is_listed set) q

-- Of each port: the channel that it holds, and its kind, once it was created; and its pair with each number that
-- is held at its trunk and whose rows have it.
abbrev pub laid_by : Shape → (ℕ → Bool) → Held → Tables
laid_by t shown h =
    record {
      own = λ q. if shown q then channel_of t h q else 0;
      cascade = λ q. is_cascade t q && shown q;
      pair = λ e q. channel_pair t shown q (h.port (trunk t (device q)) e) || group_pair t q
          (h.set (trunk t (device q)) e);
    }

-- the tables of all extenders where these are opened, and just what is held is laid
abbrev pub laid : Shape → (ℕ → Bool) → Held → ℕ → ExtenderTables
laid t opened h = by_extender t (laid_by t (is_shown t opened) h)

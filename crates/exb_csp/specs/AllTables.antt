-- The tables of all extenders as one, by port, and what a request to one of them does there.
use Rattle.std.specs.Prelude.{◌≡◌, ℕ, ◌+◌, ◌-◌, ◌*◌, ◌%◌, ◌==◌, ◌&&◌, ◌||◌, not, Bool, nat_lt, if◌then◌else◌, List, [], ◌∷◌, map}
use Rattle.std.specs.List.{list_any}
use Rattle.std.specs.Int.{bit_at}
use Rattle.exb_model.specs.Tree.{device}
use Rattle.exb_model.specs.ExtenderForwarding.{Tables}
use Rattle.exb_csp.specs.declared.group_rows.GroupRow.{GroupRow}
use Rattle.exb_csp.specs.declared.message.Request.{Request}
use Rattle.exb_csp.specs.declared.message.Request.TheVariants.{Open, PortCreate, PortDelete, Register, Unregister, RegisterMany, UnregisterMany}
use Rattle.exb_csp.specs.declared.ask_at.AskAt.{AskAt}
use Rattle.exb_csp.specs.Execution.{ExtenderTables, is_listed, code_of, executed}

-- of tables by extender: port q is port q % 64 + 1 of extender q / 64
abbrev pub tables_at : (ℕ → ExtenderTables) → Tables
tables_at all =
    record {
      own = λ q. (all (device q)).own (q % 64 + 1);
      cascade = λ q. (all (device q)).cascade (q % 64 + 1);
      pair = λ e q. (all (device q)).pair e (q % 64 + 1);
    }

-- the number among all ports of a port of extender n, from 1
abbrev pub port_of : ℕ → ℕ → ℕ
port_of n port = 64 * n + (port - 1)

-- the tables after extender n executes a request
abbrev pub executes_at : ℕ → Request → (ℕ → ExtenderTables) → ℕ → ExtenderTables
executes_at n asked all m = if m == n then executed (all m) asked else all m

-- q is a port of extender n that is in the mask
abbrev pub has_bit : ℕ → ℕ → ℕ → Bool
has_bit n mask q = device q == n && bit_at mask (q % 64) == 1

-- q is a port of extender n that is in the mask of a row of the E-CID
abbrev pub has_row : ℕ → List GroupRow → ℕ → ℕ → Bool
has_row n rows e q = list_any (λ row. (row.ecid == e) && has_bit n row.mask q) rows

-- what each port's channel, kind and pairs are once extender n has done a request
abbrev pub done_at : ℕ → Request → Tables → Tables
done_at n Open t = t
done_at n (PortCreate port kind channel) t =
    record {
      own = λ q. if q == port_of n port then channel else t.own q;
      cascade = λ q. if q == port_of n port then kind else t.cascade q;
      pair = λ e q. t.pair e q || ((e == channel) && (q == port_of n port));
    }
done_at n (PortDelete port) t =
    record t {
      own = λ q. if q == port_of n port then 0 else t.own q;
      pair = λ e q. t.pair e q && not (nat_lt 0 (t.own q) && ((e == t.own q) && (q == port_of n port)));
    }
done_at n (Register ecid mask) t = record t { pair = λ e q. t.pair e q || ((ecid == e) && has_bit n mask q) }
done_at n (Unregister ecid) t = record t { pair = λ e q. t.pair e q && not ((device q == n) && (ecid == e)) }
done_at n (RegisterMany rows) t = record t { pair = λ e q. t.pair e q || has_row n rows e q }
done_at n (UnregisterMany ecids) t = record t { pair = λ e q. t.pair e q && not ((device q == n) && is_listed ecids e) }

-- executing the requests in order gives code 0 each time, and these tables at the end
abbrev pub RunsAt : (ℕ → ExtenderTables) → List AskAt → (ℕ → ExtenderTables) → Type 0
RunsAt all [] end = all ≡ end
RunsAt all (a ∷ more) end = (code_of (all a.extender) a.request ≡ 0)
    × RunsAt (executes_at a.extender a.request all) more end

-- ports of one extender, bit k - 1 being port k
pub record MaskAt : Type 0 where
  pub extender : ℕ
  pub mask : ℕ

-- a Register of the number for each mask
abbrev pub registers : ℕ → List MaskAt → List AskAt
registers number masks = map (λ m. record { extender = m.extender; request = Register number m.mask }) masks

-- q is in one of the masks
abbrev pub in_masks : List MaskAt → ℕ → Bool
in_masks masks q = list_any (λ m. has_bit m.extender m.mask q) masks

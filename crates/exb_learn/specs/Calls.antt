-- The learned entries as a machine of calls.
use Rattle.std.specs.Prelude.{ℕ, ◌+◌, ◌-◌, ◌==◌, nat_lt, ◌&&◌, if◌then◌else◌, List, [], ◌∷◌, Option, Some, None, bytes_eq}
use Rattle.exb_model.specs.Learning.{Look, kept_unless}

-- what changes the table
pub data Call : Type 0 where
  -- in a VLAN an address was seen at a port
  See : ℕ → List ℕ → ℕ → Call
  -- so many seconds went by
  Tick : ℕ → Call
  -- a port was forgotten
  Forget : ℕ → Call

-- the clock, and where and when an address was seen last in a VLAN, where that is live and not forgotten
pub record Table : Type 0 where
  pub ageing : ℕ
  pub clock : ℕ
  pub seen : ℕ → List ℕ → Option (ℕ × ℕ)

abbrev pub empty_table : ℕ → Table
empty_table ageing = record { ageing = ageing; clock = 0; seen = λ v m. None }

-- where and when, if that was less than the ageing time ago
abbrev pub if_live : ℕ → ℕ → Option (ℕ × ℕ) → Option (ℕ × ℕ)
if_live now ageing None = None
if_live now ageing (Some (p, at)) = if nat_lt (now - at) ageing then Some (p, at) else None

-- with ageing time 0 nothing is kept; a tick takes out what dies, and a port that is forgotten what was seen there
abbrev pub after_call : Call → Table → Table
after_call (See v m p) t = record t {
  seen = λ w n. if nat_lt 0 t.ageing && (v == w && bytes_eq m n) then Some (
    p,
    t.clock,
  ) else t.seen w n;
}
after_call (Tick seconds) t = record t {
  clock = t.clock + seconds;
  seen = λ w n.
      if_live (t.clock + seconds) t.ageing (t.seen w n);
}
after_call (Forget p) t = record t { seen = λ w n. kept_unless (λ q. q == p) (t.seen w n) }

-- the table after these calls, the newest first
abbrev pub run : ℕ → List Call → Table
run ageing [] = empty_table ageing
run ageing (c ∷ cs) = after_call c (run ageing cs)

abbrev pub port_of : Option (ℕ × ℕ) → Option ℕ
port_of None = None
port_of (Some (p, at)) = Some p

-- what a look-up answers
abbrev pub look_in : Table → Look
look_in t v m = port_of (t.seen v m)

-- Which frames pass, and what they teach (IEEE 802.1Q-2011, clauses 8.6.2, 8.7 and 8.8.3).
use Rattle.std.specs.Prelude.{ℕ, ◌-◌, Bool, true, false, ◌==◌, nat_lt, not, ◌&&◌, ◌||◌, if◌then◌else◌, List, [], ◌∷◌, Option, Some, None, is_some, bytes_eq}
use Rattle.std.specs.List.{list_any}
use Rattle.exb_model.specs.declared.frame_kind.Seen.{Seen}
use Rattle.exb_model.specs.declared.frame_kind.Seen.TheVariants as seen
use Rattle.exb_model.specs.declared.rules.Accept.{Accept}
use Rattle.exb_model.specs.declared.rules.Accept.TheVariants as accept
use Rattle.exb_model.specs.declared.command.Command.{Command}
use Rattle.exb_model.specs.declared.command.Command.TheVariants as command
use Rattle.exb_model.specs.declared.event.Event.{Event}
use Rattle.exb_model.specs.declared.event.Event.TheVariants as event
use Rattle.exb_model.specs.Frames.{kind_of, source, is_group}
use Rattle.exb_model.specs.Configuration.{Bridge, is_known}
use Rattle.exb_model.specs.History.{Basis, History, command_of, bridge_after, now_after}

-- ---- which frames pass
abbrev pub accepts_tagged : Accept → Bool
accepts_tagged accept.UntaggedOnly = false
accepts_tagged _ = true

-- frames without a VLAN tag, and priority-tagged ones
abbrev pub accepts_untagged : Accept → Bool
accepts_untagged accept.TaggedOnly = false
accepts_untagged _ = true

-- the VLAN, where the port accepts the kind, the VLAN is in the table, and the port's filter lets it in
abbrev pub admitted : Bridge → ℕ → Bool → ℕ → Option ℕ
admitted b p accepted v =
    if accepted && is_known b v && (not (b.rule p).filter || is_some (b.member v p)) then Some v else None

abbrev pub passes_as : Bridge → ℕ → Seen → Option ℕ
passes_as b p seen.Plain = admitted b p (accepts_untagged (b.rule p).accept) (b.rule p).pvid
passes_as b p (seen.Priority pcp dei) = admitted b p (accepts_untagged (b.rule p).accept) (b.rule p).pvid
passes_as b p (seen.Tagged pcp dei v) = admitted b p (accepts_tagged (b.rule p).accept) v
passes_as b p _ = None

-- Passes(K, p, f): the VLAN of a frame that passes at port p
abbrev pub passes : Bridge → ℕ → List ℕ → Option ℕ
passes b p f = passes_as b p (kind_of f)

-- ---- what they teach
abbrev pub teaches_in : Option ℕ → List ℕ → ℕ → List ℕ → Bool
teaches_in None f v m = false
teaches_in (Some w) f v m = w == v && bytes_eq (source f) m && not (is_group (source f))

-- the frame passes in VLAN v, and its source is the individual address m
abbrev pub teaches : Bridge → ℕ → List ℕ → ℕ → List ℕ → Bool
teaches b p f v m = teaches_in (passes b p f) f v m

-- a Relay: its port, the clock before it, and the events after it, the newest first
pub record Sighting : Type 0 where
  pub port : ℕ
  pub at : ℕ
  pub since : History

abbrev pub followed : Event → Option Sighting → Option Sighting
followed e None = None
followed e (Some s) = Some (record s { since = e ∷ s.since })

-- the last Relay that teaches VLAN v and address m
unfoldable pub last_sighting : Basis → History → ℕ → List ℕ → Option Sighting
last_sighting i [] v m = None
last_sighting i (event.Relay p n t f ∷ h) v m =
    if teaches (bridge_after i h) p f v m then Some (record { port = p; at = now_after h; since = [] })
    else followed (event.Relay p n t f) (last_sighting i h v m)
last_sighting i (e ∷ h) v m = followed e (last_sighting i h v m)

abbrev pub is_down_of : ℕ → Option Command → Bool
is_down_of p (Some (command.Down q)) = p == q
is_down_of p _ = false

-- the event is the Commit of a Down of port p
abbrev pub takes_down : Basis → ℕ → Event → Bool
takes_down i p (event.Commit n) = is_down_of p (command_of i n)
takes_down i p _ = false

-- what is left of a port and a time where these ports are forgotten
abbrev pub kept_unless : (ℕ → Bool) → Option (ℕ × ℕ) → Option (ℕ × ℕ)
kept_unless gone None = None
kept_unless gone (Some (p, at)) = if gone p then None else Some (p, at)

abbrev pub unless_down : Basis → Option Sighting → Option (ℕ × ℕ)
unless_down i None = None
unless_down i (Some s) = kept_unless (λ p. list_any (takes_down i p) s.since) (Some (s.port, s.at))

-- where and when VLAN v and address m were seen last, if that port wasn't taken down since
unfoldable pub remembered : Basis → History → ℕ → List ℕ → Option (ℕ × ℕ)
remembered i h v m = unless_down i (last_sighting i h v m)

-- the port, if it was seen less than the ageing time ago
abbrev pub live_port : ℕ → ℕ → Option (ℕ × ℕ) → Option ℕ
live_port now ageing None = None
live_port now ageing (Some (p, at)) = if nat_lt (now - at) ageing then Some p else None

-- what a bridge has learned: the port of a VLAN and an address
abbrev pub Look : Type 0
Look = ℕ → List ℕ → Option ℕ

-- Learned(H, v, m)
unfoldable pub learned : Basis → History → Look
learned i h v m = live_port (now_after h) i.ageing (remembered i h v m)

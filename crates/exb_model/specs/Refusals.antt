-- When a command is refused: where the numbers of a space run out. Number spaces are this project's own.
use Rattle.std.specs.Prelude.{ℕ, ◌+◌, Bool, true, false, nat_lt, not, ◌&&◌, ◌||◌, if◌then◌else◌, List, [], ◌∷◌, ◌++◌, Option, Some, None, filter, flat_map, find, length, count_by, fold, bytes_eq}
use Rattle.std.specs.List.{list_any, range_with_len}
use Rattle.exb_model.specs.declared.vlan.Kind.{Kind}
use Rattle.exb_model.specs.declared.vlan.Kind.TheVariants.{Tagged, Untagged}
use Rattle.exb_model.specs.declared.rules.StaticAt.{StaticAt}
use Rattle.exb_model.specs.declared.command.Command.{Command}
use Rattle.exb_model.specs.declared.command.Command.TheVariants as command
use Rattle.exb_model.specs.declared.event.Cause.{Cause}
use Rattle.exb_model.specs.declared.event.Cause.TheVariants as cause
use Rattle.exb_model.specs.Ports.{port_in, below, all_ports}
use Rattle.exb_model.specs.Tree.{Shape, device, is_extended, is_under, trunk, cascades_under}
use Rattle.exb_model.specs.Setup.{Limits}
use Rattle.exb_model.specs.Configuration.{Bridge, after}

-- ---- Sets(K, k)
abbrev pub is_kind : Kind → Option Kind → Bool
is_kind Tagged (Some Tagged) = true
is_kind Untagged (Some Untagged) = true
is_kind _ _ = false

-- of which ports a part is: the members of a VLAN in a kind, among some ports
pub record Source : Type 0 where
  pub vid : ℕ
  pub kind : Kind
  pub among : ℕ → Bool

abbrev pub both_kinds : ℕ → (ℕ → Bool) → List Source
both_kinds v among = record { vid = v; kind = Tagged; among = among } ∷ record {
  vid = v;
  kind = Untagged;
  among = among;
} ∷ []

unfoldable pub all_vids : List ℕ
all_vids = range_with_len 1 4094

-- the VLANs in order, then the static entries in theirs, of each the tagged before the untagged
unfoldable pub sources : Bridge → List Source
sources b =
    flat_map (λ v. both_kinds v (λ q. true)) all_vids ++ flat_map (λ (e : StaticAt). both_kinds e.vid (port_in e.ports))
    b.statics

-- a part: its present ports in U(k), in order
unfoldable pub part : Shape → ℕ → Bridge → Source → List ℕ
part t k b x = filter (λ q. is_under t k q && b.present q && x.among q && is_kind x.kind (b.member x.vid q)) all_ports

abbrev pub without_isolated : Bridge → List ℕ → List ℕ
without_isolated b set = filter (λ q. not (b.rule q).isolated) set

-- each part, followed by the part without its isolated ports
unfoldable pub parts : Shape → ℕ → Bridge → List (List ℕ)
parts t k b = flat_map (λ x. part t k b x ∷ without_isolated b (part t k b x) ∷ []) (sources b)

abbrev pub is_empty_set : List ℕ → Bool
is_empty_set [] = true
is_empty_set (x ∷ xs) = false

-- one set more, if it isn't empty and isn't there yet
abbrev pub with_set : List (List ℕ) → List ℕ → List (List ℕ)
with_set sets set = if is_empty_set set || list_any (bytes_eq set) sets then sets else sets ++ set ∷ []

-- Sets(K, k): those that aren't empty, each once, where it comes first
unfoldable pub sets_at : Shape → ℕ → Bridge → List (List ℕ)
sets_at t k b = fold with_set [] (parts t k b)

-- the size of Sets(K, k) united with Sets(K', k)
unfoldable pub groups_needed : Shape → ℕ → Bridge → Bridge → ℕ
groups_needed t k b b' = length (fold with_set (sets_at t k b) (sets_at t k b'))

-- ---- Refusal(K, command)
unfoldable pub present_under : Shape → ℕ → Bridge → ℕ
present_under t k b = count_by (λ q. is_under t k q && b.present q) all_ports

-- the channels below bridge port k, with one port more
abbrev pub channels_needed : Shape → ℕ → Bridge → ℕ
channels_needed t k b = cascades_under t k + present_under t k b + 1

-- the bridge port that needs a channel more: that above an absent extended port that goes up
abbrev pub channel_at : Shape → Bridge → Command → Option ℕ
channel_at t b (command.Up p) = if is_extended t p && not (b.present p) then Some (trunk t (device p)) else None
channel_at t b _ = None

abbrev pub channels_short : Shape → Limits → Bridge → Option ℕ → Option Cause
channels_short t l b None = None
channels_short t l b (Some k) =
    if nat_lt l.channels (channels_needed t k b) then Some (cause.Channels (channels_needed t k b) l.channels) else None

abbrev pub bridge_ports : List ℕ
bridge_ports = below 64

-- the lowest bridge port whose groups don't suffice
unfoldable pub groups_short_at : Shape → Limits → Bridge → Bridge → Option ℕ
groups_short_at t l b b' = find (λ k. nat_lt l.groups (groups_needed t k b b')) bridge_ports

abbrev pub groups_cause : Shape → Limits → Bridge → Bridge → Option ℕ → Option Cause
groups_cause t l b b' None = None
groups_cause t l b b' (Some k) = Some (cause.Groups (groups_needed t k b b') l.groups)

abbrev pub groups_short : Shape → Limits → Bridge → Bridge → Option Cause
groups_short t l b b' = groups_cause t l b b' (groups_short_at t l b b')

abbrev pub first_cause : Option Cause → Option Cause → Option Cause
first_cause (Some x) second = Some x
first_cause None second = second

-- channels first, then groups
unfoldable pub refusal : Shape → Limits → Bridge → Command → Option Cause
refusal t l b c = first_cause (channels_short t l b (channel_at t b c)) (groups_short t l b (after c b))

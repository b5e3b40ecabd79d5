-- Sends by where their frame comes from.
use Rattle.std.specs.Prelude.{◌≡◌, ℕ, ◌+◌, Bool, ◌==◌, ◌&&◌, ◌||◌, not, is_some, if◌then◌else◌, List, [], ◌∷◌, ◌++◌, Option, Some, None, filter, flat_map, nat_lt}
use Rattle.exb_model.specs.declared.vlan.Kind.{Kind}
use Rattle.exb_model.specs.declared.vlan.Kind.TheVariants.{Tagged, Untagged}
use Rattle.exb_model.specs.declared.frame_kind.Seen.{Seen}
use Rattle.exb_model.specs.declared.frame_kind.Seen.TheVariants as seen
use Rattle.exb_model.specs.Ports.{port_in, all_ports}
use Rattle.exb_model.specs.Frames.{kind_of}
use Rattle.exb_model.specs.Tree.{Shape, device, trunk, is_under}
use Rattle.exb_model.specs.Refusals.{is_kind, is_empty_set, bridge_ports}
use Rattle.exb_model.specs.Configuration.{Bridge, kind_in, is_known}
use Rattle.exb_model.specs.Learning.{accepts_tagged, accepts_untagged}
use Rattle.exb_model.specs.Targets.{both_isolated}
use Rattle.exb_config.specs.declared.members.Members.{Members}
use Rattle.exb_config.specs.Tables.{bridge_of}
use Rattle.exb_frame.specs.declared.etag.ETag.{ETag}
use Rattle.exb_relay.specs.declared.hearers.Hearers.{Hearers}
use Rattle.exb_relay.specs.declared.send.SendTo.{SendTo}
use Rattle.exb_relay.specs.declared.source.Source.{Source}
use Rattle.exb_relay.specs.declared.source.Uplink.{Uplink}
use Rattle.exb_model.specs.Numbers.{Numbers}
use Rattle.exb_relay.specs.Sends.{pcp_of, dei_of, ingress_at, word_to, local_send}

-- the ingress number of words that go down at bridge port k
abbrev pub ingress_for : Option Uplink → ℕ → ℕ
ingress_for None k = 0
ingress_for (Some up) k = if up.trunk == k + 1 then up.channel else 0

abbrev pub tag_for : Source → ℕ → ℕ → ETag
tag_for s k number = record { pcp = s.pcp; dei = s.dei; ingress = ingress_for s.uplink k; ecid = number }

abbrev pub words_for : Source → ℕ → Kind → Option ℕ → List SendTo
words_for s k kind None = []
words_for s k kind (Some number) = word_to k (tag_for s k number) kind ∷ []

-- a source is that of frame f of port p
pub record IsSource (t : Shape) (m : Numbers) (p : ℕ) (f : List ℕ) (s : Source) : Type 0 where
  pub port : s.port ≡ p
  pub pcp : s.pcp ≡ pcp_of (kind_of f)
  pub dei : s.dei ≡ dei_of (kind_of f)
  pub ingress : (k : ℕ) → ingress_for s.uplink k ≡ ingress_at t m p k

-- ---- ingress
-- the VLAN of a frame of that kind at port p, where the port accepts the kind
abbrev pub claimed : Bridge → ℕ → Seen → Option ℕ
claimed b p seen.Plain = if accepts_untagged (b.rule p).accept then Some (b.rule p).pvid else None
claimed b p (seen.Priority pcp dei) = if accepts_untagged (b.rule p).accept then Some (b.rule p).pvid else None
claimed b p (seen.Tagged pcp dei v) = if accepts_tagged (b.rule p).accept then Some v else None
claimed b p _ = None

-- VLAN v is in the table, and the filter of port p lets it in
abbrev pub is_let_in : Bridge → ℕ → ℕ → Bool
is_let_in b p v = is_known b v && (not (b.rule p).filter || is_some (b.member v p))

-- ---- members
-- these are the members of VLAN v
abbrev pub AreMembers : Bridge → ℕ → Members → Type 0
AreMembers b v m = (q : ℕ) → kind_in m.tagged m.untagged q ≡ b.member v q

-- a port is one of the hearers of a kind
abbrev pub is_hearer : Hearers → Kind → ℕ → Bool
is_hearer h kind q =
    ((bridge_of h.config.now).present q && port_in h.chosen.now q && is_kind kind
    (kind_in h.members.now.tagged h.members.now.untagged q))
    && not (h.isolated && ((bridge_of h.config.now).rule q).isolated)

-- the kind of a port that is in one of two sets
abbrev pub kind_among : (ℕ → Bool) → (ℕ → Bool) → ℕ → Option Kind
kind_among tagged untagged q = if tagged q then Some Tagged else (if untagged q then Some Untagged else None)

-- how a chosen port q gets a frame of port p in VLAN v, if it does
abbrev pub kind_at : Bridge → ℕ → ℕ → ℕ → Option Kind
kind_at b p v q = if b.present q && not (q == p) && not (both_isolated b p q) then b.member v q else None

-- a present member of VLAN v in a kind, among some ports, that hears a source p
abbrev pub member_in : Bridge → ℕ → ℕ → (ℕ → Bool) → Kind → ℕ → Bool
member_in b p v among kind q = (b.present q && among q && is_kind kind (b.member v q)) && not (both_isolated b p q)

-- the ports of a set below bridge port k, in order
abbrev pub set_below : Shape → ℕ → (ℕ → Bool) → List ℕ
set_below t k test = filter (λ q. test q && is_under t k q) all_ports

-- one word to the group of a set that isn't empty
abbrev pub set_word : Numbers → Source → ℕ → Kind → List ℕ → List SendTo
set_word m s k kind set = if is_empty_set set then [] else words_for s k kind (m.group k set)

-- at bridge port k, for the tagged and the untagged ones of some members
abbrev pub member_sends : Shape → Numbers → Source → (ℕ → Bool) → (ℕ → Bool) → ℕ → List SendTo
member_sends t m s tagged untagged k =
    local_send k (if k == s.port then None else kind_among tagged untagged k)
    ++ (set_word m s k Tagged (set_below t k tagged) ++ set_word m s k Untagged (set_below t k untagged))

-- at all bridge ports
unfoldable pub member_list : Shape → Numbers → Source → (ℕ → Bool) → (ℕ → Bool) → List SendTo
member_list t m s tagged untagged = flat_map (member_sends t m s tagged untagged) bridge_ports

-- ---- a learned port
-- port r gets the frame in a kind: at once where it is the bridge's, else by its channel
abbrev pub port_sends : Shape → Numbers → Source → ℕ → Kind → List SendTo
port_sends t m s r kind =
    if nat_lt r 64 then local_send r (Some kind)
    else words_for s (trunk t (device r)) kind (m.channel (trunk t (device r)) r)

-- if it gets it
abbrev pub learned_sends : Shape → Numbers → Source → ℕ → Option Kind → List SendTo
learned_sends t m s r None = []
learned_sends t m s r (Some kind) = port_sends t m s r kind

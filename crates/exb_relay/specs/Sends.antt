-- What the controlling bridge sends for a frame (after IEEE 802.1BR-2012; number spaces and isolation are
-- this project's own). Bridge ports go from 0 to 63 here, as ports do everywhere, and `bridge_port` of a
-- send is one more.
use Rattle.std.specs.Prelude.{ℕ, ◌+◌, Bool, true, false, if◌then◌else◌, List, [], ◌∷◌, ◌++◌, Option, Some, None, flat_map}
use Rattle.exb_model.specs.declared.frame_kind.Seen.{Seen}
use Rattle.exb_model.specs.declared.frame_kind.Seen.TheVariants as seen
use Rattle.exb_model.specs.declared.vlan.Kind.{Kind}
use Rattle.exb_model.specs.declared.vlan.Kind.TheVariants.{Tagged, Untagged}
use Rattle.exb_model.specs.Ports.{port_in}
use Rattle.exb_model.specs.Frames.{kind_of, destination}
use Rattle.exb_model.specs.Tree.{Shape, is_under}
use Rattle.exb_model.specs.Configuration.{Bridge}
use Rattle.exb_model.specs.Learning.{Look, passes}
use Rattle.exb_model.specs.Targets.{target}
use Rattle.exb_model.specs.Refusals.{part, without_isolated, is_empty_set, bridge_ports}
use Rattle.exb_frame.specs.declared.etag.ETag.{ETag}
use Rattle.exb_relay.specs.declared.choice.EgressChoice.{EgressChoice}
use Rattle.exb_relay.specs.declared.choice.EgressChoice.TheVariants.{All, Listed, Learned}
use Rattle.exb_relay.specs.declared.send.Ingress.{Ingress}
use Rattle.exb_relay.specs.declared.send.Ingress.TheVariants as ingress
use Rattle.exb_relay.specs.declared.send.SendTo.{SendTo}
use Rattle.exb_model.specs.Numbers.{Numbers}
use Rattle.exb_relay.specs.Choices.{choice}

-- ---- priority
abbrev pub pcp_of : Seen → ℕ
pcp_of (seen.Priority pcp dei) = pcp
pcp_of (seen.Tagged pcp dei vid) = pcp
pcp_of _ = 0

abbrev pub dei_of : Seen → Bool
dei_of (seen.Priority pcp dei) = dei
dei_of (seen.Tagged pcp dei vid) = dei
dei_of _ = false

abbrev pub ingress_by : Seen → Option ℕ → Ingress
ingress_by s None = ingress.Dropped
ingress_by s (Some v) = ingress.Passed v (pcp_of s) (dei_of s)

-- a frame is dropped, or passes in its VLAN with its priority
abbrev pub ingress_of : Bridge → ℕ → List ℕ → Ingress
ingress_of b p f = ingress_by (kind_of f) (passes b p f)

-- ---- words
abbrev pub or_zero : Option ℕ → ℕ
or_zero None = 0
or_zero (Some n) = n

-- the channel of the source, where it is a port in U(k). In another space it would mean another port.
abbrev pub ingress_at : Shape → Numbers → ℕ → ℕ → ℕ
ingress_at t m p k = if is_under t k p then or_zero (m.channel k p) else 0

-- the E-TAG to a number of bridge port k, for frame f of port p
abbrev pub etag_to : Shape → Numbers → ℕ → List ℕ → ℕ → ℕ → ETag
etag_to t m p f k number =
    record { pcp = pcp_of (kind_of f); dei = dei_of (kind_of f); ingress = ingress_at t m p k; ecid = number }

abbrev pub word_to : ℕ → ETag → Kind → SendTo
word_to k tag kind = record { bridge_port = k + 1; tag = Some tag; kind = kind }

abbrev pub words_to : Shape → Numbers → ℕ → List ℕ → ℕ → Kind → Option ℕ → List SendTo
words_to t m p f k kind None = []
words_to t m p f k kind (Some number) = word_to k (etag_to t m p f k number) kind ∷ []

-- ---- sets
-- The present members of VLAN v in a kind in U(k), among some ports. An isolated source isn't heard by
-- isolated ports.
unfoldable pub set_for : Shape → Bridge → ℕ → ℕ → (ℕ → Bool) → ℕ → Kind → List ℕ
set_for t b p v among k kind =
    if (b.rule p).isolated then without_isolated b (part t k b (record { vid = v; kind = kind; among = among }))
    else part t k b (record { vid = v; kind = kind; among = among })

-- one word to the group of a set that isn't empty
abbrev pub group_word : Shape → Numbers → ℕ → List ℕ → ℕ → Kind → List ℕ → List SendTo
group_word t m p f k kind set = if is_empty_set set then [] else words_to t m p f k kind (m.group k set)

-- the tagged group's word comes first
abbrev pub group_words : Shape → Bridge → Numbers → ℕ → List ℕ → ℕ → (ℕ → Bool) → ℕ → List SendTo
group_words t b m p f v among k =
    group_word t m p f k Tagged (set_for t b p v among k Tagged) ++ group_word t m p f k Untagged
    (set_for t b p v among k Untagged)

-- ---- a learned port
-- one word to the channel of port r, if r is a target and so has a kind
abbrev pub channel_word : Shape → Numbers → ℕ → List ℕ → ℕ → ℕ → Option Kind → List SendTo
channel_word t m p f k r None = []
channel_word t m p f k r (Some kind) = words_to t m p f k kind (m.channel k r)

-- the words that go down at bridge port k
abbrev pub words_down : Shape → Bridge → Look → Numbers → ℕ → List ℕ → ℕ → EgressChoice → ℕ → List SendTo
words_down t b look m p f v All k = group_words t b m p f v (λ q. true) k
words_down t b look m p f v (Listed ports) k = group_words t b m p f v (port_in ports) k
words_down t b look m p f v (Learned r) k = if is_under t k r then channel_word t m p f k r (target b look p f r)
    else []

-- ---- all of them
abbrev pub local_send : ℕ → Option Kind → List SendTo
local_send k None = []
local_send k (Some kind) = record { bridge_port = k + 1; tag = None; kind = kind } ∷ []

-- at one bridge port: a target there gets the frame at once, and words go to targets below it
abbrev pub sends_at : Shape → Bridge → Look → Numbers → ℕ → List ℕ → ℕ → ℕ → List SendTo
sends_at t b look m p f v k =
    local_send k (target b look p f k) ++ words_down t b look m p f v (choice b look v (destination f)) k

abbrev pub sends_in : Shape → Bridge → Look → Numbers → ℕ → List ℕ → Option ℕ → List SendTo
sends_in t b look m p f None = []
sends_in t b look m p f (Some v) = flat_map (sends_at t b look m p f v) bridge_ports

-- what is sent for frame f of port p, in the order of bridge ports
unfoldable pub sends_of : Shape → Bridge → Look → Numbers → ℕ → List ℕ → List SendTo
sends_of t b look m p f = sends_in t b look m p f (passes b p f)

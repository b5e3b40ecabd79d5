-- What is true of all sends.
use Rattle.std.specs.Prelude.{◌≡◌, ℕ, ◌+◌, ◌<◌, ◌≤◌, ◌==◌, ◌≢◌, Bool, true, false, if◌then◌else◌, List, [], ◌∷◌, Option, Some, None, map, filter, flat_map, count_by, ◌⊎◌}
use Rattle.std.specs.List.{All}
use Rattle.exb_model.specs.declared.vlan.Kind.{Kind}
use Rattle.exb_model.specs.declared.event.Event.TheVariants as event
use Rattle.exb_model.specs.ETags.{TagFits}
use Rattle.exb_model.specs.Frames.{destination, kind_of, IsBytes}
use Rattle.exb_model.specs.Tree.{Shape, IsTree, is_under, is_external, is_cascade}
use Rattle.exb_model.specs.ExtenderForwarding.{Tables}
use Rattle.exb_model.specs.Configuration.{Bridge}
use Rattle.exb_model.specs.Learning.{Look, passes}
use Rattle.exb_model.specs.Targets.{target, is_chosen}
use Rattle.exb_model.specs.FlatBridge.{sent_by}
use Rattle.exb_config.specs.Pvids.{HasPvids}
use Rattle.exb_frame.specs.declared.etag.ETag.{ETag}
use Rattle.exb_frame.specs.TagValues.{tag_of}
use Rattle.exb_relay.specs.declared.choice.EgressChoice.TheVariants.{Learned}
use Rattle.exb_relay.specs.declared.send.SendTo.{SendTo}
use Rattle.exb_model.specs.Numbers.{Numbers, IsReady, IsNumbering, has_set}
use Rattle.exb_relay.specs.Choices.{choice, is_chosen_in}
use Rattle.exb_relay.specs.Sends.{ingress_at, channel_word, sends_of, pcp_of, dei_of}
use Rattle.exb_model.specs.Carriage.{Carries}
use Rattle.exb_relay.specs.TreeEgress.{all_leaving}

-- ---- the choice is that of the one bridge
abbrev pub ChoiceIsTheBridges : Type 0
ChoiceIsTheBridges = (b : Bridge) (look : Look) (v : ℕ) (m : List ℕ) (q : ℕ) → is_chosen_in (choice b look v m) q
    ≡ is_chosen b look v m q

-- ---- local targets
abbrev pub listed_kind : Option Kind → List Kind
listed_kind None = []
listed_kind (Some kind) = kind ∷ []

-- the kind of a send without an E-TAG at port q of the bridge
abbrev pub local_kind : ℕ → Option ETag → ℕ → Kind → List Kind
local_kind q None bridge_port kind = if q + 1 == bridge_port then kind ∷ [] else []
local_kind q (Some tag) bridge_port kind = []

abbrev pub local_kinds : ℕ → List SendTo → List Kind
local_kinds q sends = flat_map (λ (x : SendTo). local_kind q x.tag x.bridge_port x.kind) sends

-- a port of the bridge has a send without an E-TAG exactly where it is a target, once and in its kind
abbrev pub LocalSendsAreTargets : Type 0
LocalSendsAreTargets =
    (t : Shape) (b : Bridge) (look : Look) (m : Numbers) (p : ℕ) (f : List ℕ) → b.present p ≡ true → (q : ℕ) → q < 64 →
    local_kinds q (sends_of t b look m p f) ≡ listed_kind (target b look p f q)

-- ---- words
abbrev pub has_tag : Option ETag → Bool
has_tag None = false
has_tag (Some tag) = true

abbrev pub words_of : List SendTo → List SendTo
words_of sends = filter (λ (x : SendTo). has_tag x.tag) sends

-- For a learned port there is no word but one, with its channel at its trunk, where it is a target.
abbrev pub LearnedSendIsTarget : Type 0
LearnedSendIsTarget =
    (t : Shape) (b : Bridge) (look : Look) (m : Numbers) (p : ℕ) (f : List ℕ) (v k r : ℕ) → IsTree t →
    passes b p f ≡ Some v → choice b look v (destination f) ≡ Learned r → is_under t k r ≡ true →
    words_of (sends_of t b look m p f) ≡ channel_word t m p f k r (target b look p f r)

-- The word's number is the group of one of the configuration's sets, or the channel of a present port that
-- isn't the source.
pub record IsWord (t : Shape) (b : Bridge) (m : Numbers) (p : ℕ) (f : List ℕ) (k : ℕ) (tag : ETag) : Type 0 where
  pub pcp : tag.pcp ≡ pcp_of (kind_of f)
  pub dei : tag.dei ≡ dei_of (kind_of f)
  pub ingress : tag.ingress ≡ ingress_at t m p k
  pub number : ((set : List ℕ) × (m.group k set ≡ Some tag.ecid) × (has_set t k b set ≡ true))
      ⊎ ((r : ℕ) × (m.channel k r ≡ Some tag.ecid) × (is_under t k r ≡ true) × (b.present r ≡ true) × (r ≢ p))
  pub fits : TagFits (tag_of tag)

abbrev pub IsSent : Shape → Bridge → Numbers → ℕ → List ℕ → ℕ → Option ETag → Type 0
IsSent t b m p f k None = is_external t k ≡ true
IsSent t b m p f k (Some tag) = (is_cascade t k ≡ true) × IsWord t b m p f k tag

-- Each send is at a port of the bridge; a word is at a cascade port, and fits.
pub record IsAt (t : Shape) (b : Bridge) (m : Numbers) (p : ℕ) (f : List ℕ) (x : SendTo) : Type 0 where
  pub port : ℕ
  pub low : port < 64
  pub at : x.bridge_port ≡ port + 1
  pub sent : IsSent t b m p f port x.tag

abbrev pub SendsAreWords : Type 0
SendsAreWords =
    (t : Shape) (b : Bridge) (look : Look) (m : Numbers) (p : ℕ) (f : List ℕ) → IsTree t → IsReady t b m
    → IsNumbering m →
    HasPvids b → IsBytes f → b.present p ≡ true → All (IsAt t b m p f) (sends_of t b look m p f)

-- at most two at one bridge port
abbrev pub AtMostTwo : Type 0
AtMostTwo =
    (t : Shape) (b : Bridge) (look : Look) (m : Numbers) (p : ℕ) (f : List ℕ) → IsTree t → IsReady t b m
    → b.present p ≡ true → (k : ℕ) →
    count_by (λ (x : SendTo). x.bridge_port == k) (sends_of t b look m p f) ≤ 2

-- ---- what leaves
abbrev pub left_by : Shape → Tables → List ℕ → Option ℕ → List SendTo → ℕ → List (List ℕ)
left_by t u f None sends q = []
left_by t u f (Some v) sends q = all_leaving t u f v sends q

-- Over tables that carry, what leaves each external port is what the one VLAN bridge sends there.
abbrev pub SendsLeaveAsFlat : Type 0
SendsLeaveAsFlat =
    (t : Shape) (u : Tables) (b : Bridge) (look : Look) (m : Numbers) (p : ℕ) (f : List ℕ) → IsTree t → IsReady t b m
    → IsNumbering m →
    Carries t u b m → HasPvids b → IsBytes f → b.present p ≡ true → (q index moment : ℕ) → is_external t q ≡ true →
    map (λ (bytes : List ℕ). (moment, bytes)) (left_by t u f (passes b p f) (sends_of t b look m p f) q)
    ≡ sent_by b look (event.Relay p index moment f) q

-- What the bridge does with data: a frame that comes to it is relayed or ignored, and what it sends goes out.
use Rattle.std.specs.Prelude.{ℕ, ◌-◌, Bool, if◌then◌else◌, List, [], ◌∷◌, Option, Some, None, is_some}
use Rattle.exb_model.specs.Tree.{Shape, is_external}
use Rattle.exb_model.specs.Setup.{Limits}
use Rattle.exb_model.specs.Frames.{egress}
use Rattle.exb_model.specs.ETags.{Tag, read_etag, tagged, stripped}
use Rattle.exb_model.specs.Learning.{passes}
use Rattle.exb_model.specs.declared.arrival.Arrival.{Arrival}
use Rattle.exb_model.specs.EagerHistory.{is_relayed, arrival_event}
use Rattle.exb_frame.specs.declared.etag.ETag.{ETag}
use Rattle.exb_frame.specs.TagValues.{tag_of}
use Rattle.exb_extender.specs.Forwarding.{has_etag_type}
use Rattle.exb_link.specs.declared.link_frame.Stamp.{Stamp}
use Rattle.exb_link.specs.declared.link_frame.LinkFrame.{LinkFrame}
use Rattle.exb_link.specs.LinkFrames.{is_control}
use Rattle.exb_learn.specs.Calls.{look_in}
use Rattle.exb_relay.specs.declared.send.SendTo.{SendTo}
use Rattle.exb_relay.specs.Sends.{sends_of}
use Rattle.exb_world_spec.specs.Worlds.{World, BridgeOut, with_table, push_down}
use Rattle.exb_world_spec.specs.Effects.{Effect, only, sending, leaving, then_do, each}
use Rattle.exb_world_spec.specs.ExtenderSteps.{hung_on, stamp_of}
use Rattle.exb_control_spec.specs.Plans.HeldNumbers.{numbers_in}
use Rattle.exb_world_spec.specs.BridgeLearning.{taught}
use Rattle.exb_world_spec.specs.ControlFrames.{hears}

-- ---- what is sent
-- a word goes onto the link of the extender that hangs on the bridge port
abbrev pub puts_word : ℕ → Option ℕ → LinkFrame → World → Effect
puts_word port None x w = only w
puts_word port (Some m) x w = sending (BridgeOut port x.bytes) (push_down m x w)

-- a frame leaves at a bridge port as it goes out, or goes down there with an E-TAG
abbrev pub sent_by : Shape → Arrival → List ℕ → ℕ → Option ETag → World → Effect
sent_by t a bytes port None w = leaving (BridgeOut port bytes) (record {
  port = port - 1;
  moment = a.moment;
  bytes = bytes;
}) w
sent_by t a bytes port (Some tag) w = puts_word port (hung_on t (port - 1))
    (record { bytes = tagged bytes (tag_of tag); stamp = Some (stamp_of a) }) w

abbrev pub sends_in : Shape → Arrival → ℕ → SendTo → World → Effect
sends_in t a vid x w = sent_by t a (egress a.bytes x.kind vid) x.bridge_port x.tag w

abbrev pub sends_all : Shape → Arrival → List SendTo → Option ℕ → World → Effect
sends_all t a xs None w = only w
sends_all t a xs (Some vid) w = each (sends_in t a vid) xs w

-- ---- a frame at the bridge
abbrev pub passed_by : Bool → Option ℕ → List Bool
passed_by relayed vid = if relayed then is_some vid ∷ [] else []

abbrev pub sends_for : Shape → World → Arrival → List SendTo
sends_for t w a =
    if is_relayed w.control.bridge a.port a.bytes
    then sends_of t w.control.bridge (look_in w.table) (numbers_in w.control.held) a.port a.bytes
    else []

-- It is relayed or ignored by the configuration in force. It goes where what was learned before it says, and teaches.
abbrev pub comes : Shape → Arrival → World → Effect
comes t a w =
    then_do (
    record (only (with_table (taught w.control.bridge a w.table) w)) {
      events = arrival_event w.control.bridge a ∷ [];
      passed = passed_by (is_relayed w.control.bridge a.port a.bytes) (passes w.control.bridge a.port a.bytes);
    }
    )
    (sends_all t a (sends_for t w a) (passes w.control.bridge a.port a.bytes))

-- ---- words that come up to the bridge
-- the record of which it is a word, at the port whose channel it has
abbrev pub arrival_by : ℕ → Stamp → List ℕ → Arrival
arrival_by p s bytes = record { port = p; index = s.index; moment = s.moment; bytes = bytes }

abbrev pub comes_from : Shape → Option ℕ → Option Stamp → List ℕ → World → Effect
comes_from t (Some p) (Some s) bytes w = if is_external t p then comes t (arrival_by p s bytes) w else only w
comes_from t (Some p) None bytes w = only w
comes_from t None stamp bytes w = only w

-- the port that holds a channel of bridge port k, by the E-TAG of a frame
abbrev pub holder_by : World → ℕ → Option Tag → Option ℕ
holder_by w k None = None
holder_by w k (Some tag) = w.control.held.port k tag.ecid

-- the extender that hangs on a port, if that is one
abbrev pub hung_at : Shape → Option ℕ → Option ℕ
hung_at t None = None
hung_at t (Some p) = hung_on t p

abbrev pub hears_from : Shape → Limits → Option ℕ → List ℕ → World → Effect
hears_from t l None f w = only w
hears_from t l (Some n) f w = hears t l n f w

-- a control frame from extender m or one below it, on bridge port k
abbrev pub takes_control : Shape → Limits → ℕ → ℕ → List ℕ → World → Effect
takes_control t l k m f w =
    if has_etag_type f then hears_from t l (hung_at t (holder_by w k (read_etag f))) (stripped f) w
    else hears t l m f w

-- the bridge takes a word at port k, counted from 0, on which extender m hangs
abbrev pub bridge_takes : Shape → Limits → ℕ → ℕ → LinkFrame → World → Effect
bridge_takes t l k m x w =
    if is_control x then takes_control t l k m x.bytes w
    else comes_from t (holder_by w k (read_etag x.bytes)) x.stamp (stripped x.bytes) w

-- What the definitions give for one extender with two ports that hangs on the bridge's only port: the first lines of the
-- trace, until it was opened.
use Rattle.std.proofs.Common.{◌≡◌, ℕ, false, List, [], ◌∷◌, refl}
use Rattle.std.specs.Prelude.{replicate}
use Rattle.exb_model.specs.Tree.{Shape}
use Rattle.exb_model.specs.Setup.{Limits}
use Rattle.exb_model.specs.Configuration.{Bridge}
use Rattle.exb_model.specs.Frames.{is_control_frame}
use Rattle.exb_lldp.specs.Announcements.{announced}
use Rattle.exb_lldp.specs.Encoding.{spelling}
use Rattle.exb_lldp.specs.Tlvs.{tlv_in, tlvs_from, tlvs_within}
use Rattle.exb_ecp.specs.StopAndWait.{after}
use Rattle.exb_csp.specs.Execution.{code_of, executed, done, response_to}
use Rattle.exb_csp.specs.PortMasks.{powered_on}
use Rattle.exb_csp.specs.Decoding.{form_at, serial_at, read_message}
use Rattle.exb_csp.specs.Encoding.{message_bytes, request_bytes}
use Rattle.exb_extender.specs.Forwarding.{is_bare_control}
use Rattle.exb_extender.specs.declared.sends.Side.TheVariants as side
use Rattle.exb_extender.specs.Machine.{beats, hears}
use Rattle.exb_control_spec.specs.declared.job.Job.TheVariants as job
use Rattle.exb_control_spec.specs.Decisions.{decide, opening_asks}
use Rattle.exb_control_spec.specs.Machine.{goes_on}
use Rattle.exb_world_spec.specs.Worlds.{World, Beat, Control, In, Out, BridgeIn, BridgeOut, BeatLine, Up, Down, first_world}
use Rattle.exb_world_spec.specs.ControlFrames.{hears as bridge_hears}
use Rattle.exb_world_spec.specs.Steps.{beats_all, stepped}
use Rattle.exb_world_spec.specs.Settling.{run}

tree : Shape
tree = record { ports = 1 ∷ 2 ∷ replicate 63 0; on = replicate 65 0 }

-- with its opening as the only job
first : Limits → Bridge → World
first l b = record (first_world tree l b 300) { control = record (first_world tree l b 300).control { queue = job.Opening 1 ∷ [] } }

announcement : List ℕ
announcement = 1 ∷ 128 ∷ 194 ∷ 0 ∷ 0 ∷ 14 ∷ 2 ∷ 69 ∷ 66 ∷ 1 ∷ 0 ∷ 1 ∷ 136 ∷ 204 ∷ 2 ∷ 7 ∷ 4 ∷ 2 ∷ 69 ∷ 66 ∷ 1 ∷ 0 ∷ 1 ∷ 4 ∷ 3 ∷ 7 ∷ 117 ∷ 112 ∷ 6 ∷ 2 ∷ 0 ∷ 120 ∷ 254 ∷ 5 ∷ 2 ∷ 69 ∷ 66 ∷ 1 ∷ 2 ∷ 0 ∷ 0 ∷ []

request : List ℕ
request = 1 ∷ 128 ∷ 194 ∷ 0 ∷ 0 ∷ 14 ∷ 2 ∷ 69 ∷ 66 ∷ 0 ∷ 0 ∷ 0 ∷ 137 ∷ 64 ∷ 16 ∷ 2 ∷ 0 ∷ 1 ∷ 1 ∷ 0 ∷ 0 ∷ 0 ∷ 0 ∷ 0 ∷ 0 ∷ 0 ∷ 1 ∷ 0 ∷ 0 ∷ []

acknowledgement : List ℕ
acknowledgement = 1 ∷ 128 ∷ 194 ∷ 0 ∷ 0 ∷ 14 ∷ 2 ∷ 69 ∷ 66 ∷ 1 ∷ 0 ∷ 1 ∷ 137 ∷ 64 ∷ 20 ∷ 2 ∷ 0 ∷ 1 ∷ []

answer : List ℕ
answer = 1 ∷ 128 ∷ 194 ∷ 0 ∷ 0 ∷ 14 ∷ 2 ∷ 69 ∷ 66 ∷ 1 ∷ 0 ∷ 1 ∷ 137 ∷ 64 ∷ 16 ∷ 2 ∷ 0 ∷ 1 ∷ 129 ∷ 0 ∷ 0 ∷ 0 ∷ 0 ∷ 0 ∷ 0 ∷ 0 ∷ 1 ∷ 0 ∷ 2 ∷ 0 ∷ 2 ∷ []

-- It announces itself at the first beat; the bridge hears it and asks it to open; it acknowledges and answers.
opens : (l : Limits) (b : Bridge) →
    (run tree l (Beat ∷ Control 1 Up 0 false ∷ Control 1 Down 0 false ∷ []) (first l b)).lines
    ≡ BeatLine ∷ Out 1 side.Up announcement ∷ BridgeIn 1 announcement ∷ BridgeOut 1 request ∷ In 1 side.Up request ∷ Out 1 side.Up acknowledgement ∷ Out 1 side.Up answer ∷ []
unfolding tree first announcement request acknowledgement answer run stepped beats_all beats hears spelling powered_on is_control_frame announced tlv_in tlvs_from tlvs_within after code_of executed done response_to form_at serial_at read_message message_bytes request_bytes is_bare_control decide opening_asks goes_on bridge_hears
opens l b = refl

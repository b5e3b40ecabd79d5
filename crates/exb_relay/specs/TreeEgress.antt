-- What a frame's sends make leave, where the tables of the extenders carry words to the ports that their
-- numbers stand for.
use Rattle.std.specs.Prelude.{ℕ, ◌+◌, ◌==◌, ◌&&◌, if◌then◌else◌, List, [], ◌∷◌, Option, Some, None, find, flat_map}
use Rattle.exb_model.specs.declared.vlan.Kind.{Kind}
use Rattle.exb_model.specs.Ports.{below}
use Rattle.exb_model.specs.Frames.{egress}
use Rattle.exb_model.specs.ETags.{tagged}
use Rattle.exb_model.specs.Tree.{Shape, on, is_extender}
use Rattle.exb_model.specs.ExtenderForwarding.{Tables}
use Rattle.exb_model.specs.Carriage.{carried}
use Rattle.exb_frame.specs.declared.etag.ETag.{ETag}
use Rattle.exb_frame.specs.TagValues.{tag_of}
use Rattle.exb_relay.specs.declared.send.SendTo.{SendTo}

-- the extender that hangs on a port of the bridge, b1 to b64 as 1 to 64
unfoldable pub extender_on : Shape → ℕ → Option ℕ
extender_on t bridge_port = find (λ n. is_extender t n && on t n + 1 == bridge_port) (below 65)

-- what comes out at port q of a frame that enters an extender
abbrev pub coming_out : Shape → Tables → Option ℕ → List ℕ → ℕ → List (List ℕ)
coming_out t u None f q = []
coming_out t u (Some n) f q = carried t u n f q

-- what a send makes leave at port q, by the bytes with which the frame goes out in each kind
abbrev pub leaving_by : Shape → Tables → (Kind → List ℕ) → ℕ → ℕ → Option ETag → Kind → List (List ℕ)
leaving_by t u out q bridge_port None kind = if q + 1 == bridge_port then out kind ∷ [] else []
leaving_by t u out q bridge_port (Some tag) kind = coming_out t u (extender_on t bridge_port)
    (tagged (out kind) (tag_of tag)) q

abbrev pub leaving : Shape → Tables → (Kind → List ℕ) → ℕ → SendTo → List (List ℕ)
leaving t u out q x = leaving_by t u out q x.bridge_port x.tag x.kind

-- what all sends of a frame in VLAN v make leave at port q
abbrev pub all_leaving : Shape → Tables → List ℕ → ℕ → List SendTo → ℕ → List (List ℕ)
all_leaving t u f v sends q = flat_map (leaving t u (λ kind. egress f kind v) q) sends

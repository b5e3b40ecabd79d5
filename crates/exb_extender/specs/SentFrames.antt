-- What a list of sides and forms says is sent.
use Rattle.std.specs.Prelude.{◌≡◌, ℕ, ◌==◌, ◌≤◌, ◌++◌, Bool, if◌then◌else◌, List, [], ◌∷◌, length, map, Option, Some, None, ⊤}
use Rattle.std.specs.List.{flat_map, range_with_len}
use Rattle.exb_model.specs.ETags.{Tag, TagFits, tagged, stripped}
use Rattle.exb_model.specs.ExtenderForwarding.{left_out, bare}
use Rattle.exb_csp.specs.Execution.{ExtenderTables}
use Rattle.exb_extender.specs.declared.sends.Form.{Form}
use Rattle.exb_extender.specs.declared.sends.Form.TheVariants.{AsIs, Stripped, Tagged}
use Rattle.exb_extender.specs.declared.sends.Out.{Out}
use Rattle.exb_extender.specs.declared.sends.Sends.{Sends}
use Rattle.exb_extender.specs.declared.sends.Side.TheVariants.{Port}
use Rattle.exb_extender.specs.Forwarding.{Sent, forwarding_of, up, channel_tag}

-- the bytes that a frame has in a form
abbrev pub bytes_in : List ℕ → Form → List ℕ
bytes_in f AsIs = f
bytes_in f Stripped = stripped f
bytes_in f (Tagged channel) = tagged f (channel_tag channel)

abbrev pub out_sent : List ℕ → Out → Sent
out_sent f out = record { side = out.to; bytes = bytes_in f out.form }

-- a control frame of the extender's own; an empty one isn't sent
abbrev pub own_sent : List ℕ → List Sent
own_sent [] = []
own_sent (b ∷ bs) = up (b ∷ bs) ∷ []

-- all that is sent where this frame came: it in its forms, then the extender's own frames
abbrev pub sent_by : List ℕ → Sends → List Sent
sent_by f s = map (out_sent f) s.frames.items ++ (own_sent s.first.items ++ own_sent s.second.items)

-- nothing is sent
pub record IsNothing (s : Sends) : Type 0 where
  pub frames : s.frames.items ≡ []
  pub first : s.first.items ≡ []
  pub second : s.second.items ≡ []

-- the frame can be given this form: it has an E-TAG that can be taken out, or one can be put in
abbrev pub CanBeGiven : List ℕ → Form → Type 0
CanBeGiven f AsIs = ⊤
CanBeGiven f Stripped = 20 ≤ length f
CanBeGiven f (Tagged channel) = (12 ≤ length f) × TagFits (channel_tag channel)

-- a frame that goes up in a form, or doesn't
abbrev pub form_sent : List ℕ → Option Form → List Sent
form_sent f None = []
form_sent f (Some form) = up (bytes_in f form) ∷ []

-- the form in which a frame with this E-TAG goes out at a port that has the pair
abbrev pub form_at : ExtenderTables → Tag → ℕ → Option Form
form_at t tag q =
    if t.own q == 0 then None else
    (if left_out (forwarding_of t) q tag then None else
    (if bare (forwarding_of t) q tag then Some Stripped else Some AsIs))

abbrev pub listed_at : ℕ → Option Form → List Out
listed_at q None = []
listed_at q (Some form) = record { to = Port q; form = form } ∷ []

abbrev pub outs_at : ExtenderTables → Tag → ℕ → List Out
outs_at t tag q = listed_at q (form_at t tag q)

-- where a frame with this E-TAG goes out at the ports that pass a test, in rising order
unfoldable pub outs_where : (ℕ → Bool) → ExtenderTables → Tag → List Out
outs_where p t tag = flat_map (λ q. if p q then outs_at t tag q else []) (range_with_len 1 64)

-- The kinds of requests, their numbers on the wire, and how long their bodies are.
use Rattle.std.specs.Prelude.{ℕ, ◌+◌, ◌-◌, ◌%◌, ◌==◌, ◌&&◌, nat_lt, nat_le, Bool, if◌then◌else◌, Option, Some, None}
use Rattle.std.specs.Option.{option_map}
use Rattle.exb_csp.specs.declared.message.Request.{Request}
use Rattle.exb_csp.specs.declared.message.Request.TheVariants as request
use Rattle.exb_csp.specs.declared.message.RequestKind.{RequestKind}
use Rattle.exb_csp.specs.declared.message.RequestKind.TheVariants as kind
use Rattle.exb_csp.specs.declared.message_kind.MessageKind.{MessageKind}
use Rattle.exb_csp.specs.declared.message_kind.MessageKind.TheVariants.{Ask, Answer}

abbrev pub kind_of : Request → RequestKind
kind_of request.Open = kind.Open
kind_of (request.PortCreate port cascade channel) = kind.PortCreate
kind_of (request.PortDelete port) = kind.PortDelete
kind_of (request.Register ecid mask) = kind.Register
kind_of (request.Unregister ecid) = kind.Unregister
kind_of (request.RegisterMany rows) = kind.RegisterMany
kind_of (request.UnregisterMany ecids) = kind.UnregisterMany

abbrev pub number_of : RequestKind → ℕ
number_of kind.Open = 1
number_of kind.PortCreate = 2
number_of kind.PortDelete = 3
number_of kind.Register = 4
number_of kind.Unregister = 5
number_of kind.RegisterMany = 6
number_of kind.UnregisterMany = 7

-- the kind of that number
abbrev pub kind_numbered : ℕ → Option RequestKind
kind_numbered number =
    if number == 1 then Some kind.Open else
    (if number == 2 then Some kind.PortCreate else
    (if number == 3 then Some kind.PortDelete else
    (if number == 4 then Some kind.Register else
    (if number == 5 then Some kind.Unregister else
    (if number == 6 then Some kind.RegisterMany else
    (if number == 7 then Some kind.UnregisterMany else None))))))

-- the answer's type is the request's and 0x80
abbrev pub type_of : MessageKind → ℕ
type_of (Ask k) = number_of k
type_of (Answer k) = 128 + number_of k

-- what a type names
abbrev pub form_of : ℕ → Option MessageKind
form_of number = if nat_lt number 128 then option_map Ask (kind_numbered number) else option_map Answer
    (kind_numbered (number - 128))

-- the lengths that a body may have
abbrev pub is_length : MessageKind → ℕ → Bool
is_length (Ask kind.Open) length = length == 0
is_length (Ask kind.PortCreate) length = length == 4
is_length (Ask kind.PortDelete) length = length == 1
is_length (Ask kind.Register) length = length == 10
is_length (Ask kind.Unregister) length = length == 2
is_length (Ask kind.RegisterMany) length = nat_le 20 length && nat_le length 640 && length % 10 == 0
is_length (Ask kind.UnregisterMany) length = nat_le 4 length && nat_le length 128 && length % 2 == 0
is_length (Answer kind.Open) length = length == 2
is_length (Answer _) length = length == 1

-- the kinds are the same
abbrev pub same_kind : RequestKind → RequestKind → Bool
same_kind a b = number_of a == number_of b

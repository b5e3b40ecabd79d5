-- What a bridge of a net is given is of its topology: a port without a capture has no records.
use Rattle.std.proofs.Common.{◌≡◌, ◌==◌, ◌||◌, ◌∙◌, ℕ, Bool, true, false, List, [], ◌∷◌, Option, Some, refl, ap, if◌then◌else◌}
use Rattle.std.specs.Prelude.{is_some}
use Rattle.std.specs.List.{list_any}
use Rattle.exb_capture.specs.Captures.{capture_records, records_or_none}
use Rattle.exb_shelf.specs.Files.{Files}
use Rattle.exb_topology_tables.specs.declared.elements.Named.{Named}
use Rattle.exb_net_file.specs.declared.members.NetMember.{NetMember}
use Rattle.exb_net_file.specs.Soundness.{IsInputOf}
use Rattle.exb_inputs.specs.Inputs.{bytes_at, input_of, is_named, name_of}

-- a port has a capture where one is named for it
named_any : (names : List Named) (p : ℕ) → is_named names p ≡ list_any (λ capture. capture.port == p) names
named_any [] p = refl
named_any (x ∷ names) p = by_port (x.port == p) (named_any names p)
  where
    by_port : (b : Bool) → is_named names p ≡ list_any (λ capture. capture.port == p) names → is_some (if◌then◌else◌ {A = Option (List ℕ)} b (Some x.name) (name_of names p)) ≡ (b || list_any (λ capture. capture.port == p) names)
    by_port true rest = refl
    by_port false rest = rest

pub input_is_of : (m : NetMember) (file : Files) → IsInputOf m (input_of m.topology file)
input_is_of m file = record {
  setup = refl;
  commands = refl;
  free = λ p none. ap (λ (b : Bool). if b then records_or_none (capture_records (bytes_at m.topology.captures file p)) else []) (named_any m.topology.captures p ∙ none);
}

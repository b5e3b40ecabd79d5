-- The sources that a command touches, by VLAN and by static entry.
use Rattle.std.specs.Prelude.{ℕ, ◌==◌, Bool, true, if◌then◌else◌, List, [], filter, flat_map}
use Rattle.exb_model.specs.declared.rules.StaticAt.{StaticAt}
use Rattle.exb_model.specs.declared.command.Command.{Command}
use Rattle.exb_model.specs.declared.command.Command.TheVariants as command
use Rattle.exb_model.specs.Configuration.{Bridge, is_for}
use Rattle.exb_model.specs.Refusals.{Source, all_vids, both_kinds}
use Rattle.exb_control_spec.specs.Plans.TouchedParts.{has_port, sources_of_entry}

-- ---- touched sources of a command that neither puts nor removes an entry, or of the entry that it removes
unfoldable pub sources_of_vlans : List Source
sources_of_vlans = flat_map (λ v. both_kinds v (λ q. true)) all_vids

abbrev pub is_of : ℕ → Source → Bool
is_of v x = x.vid == v

abbrev pub vlans_touched : Command → Bridge → List Source
vlans_touched (command.Vlan v tagged untagged) b = filter (is_of v) sources_of_vlans
vlans_touched (command.Member v p kind) b = filter (is_of v) sources_of_vlans
vlans_touched (command.Unmember v p) b = filter (is_of v) sources_of_vlans
vlans_touched (command.Isolate p on) b = filter (has_port b p) sources_of_vlans
vlans_touched (command.Up p) b = filter (has_port b p) sources_of_vlans
vlans_touched (command.Down p) b = filter (has_port b p) sources_of_vlans
vlans_touched c b = []

abbrev pub entry_touched : Command → Bridge → StaticAt → List Source
entry_touched (command.Vlan v tagged untagged) b e = filter (is_of v) (sources_of_entry e)
entry_touched (command.Member v p kind) b e = filter (is_of v) (sources_of_entry e)
entry_touched (command.Unmember v p) b e = filter (is_of v) (sources_of_entry e)
entry_touched (command.Unstatic v m) b e = if is_for v m.0 e then sources_of_entry e else []
entry_touched (command.Isolate p on) b e = filter (has_port b p) (sources_of_entry e)
entry_touched (command.Up p) b e = filter (has_port b p) (sources_of_entry e)
entry_touched (command.Down p) b e = filter (has_port b p) (sources_of_entry e)
entry_touched c b e = []

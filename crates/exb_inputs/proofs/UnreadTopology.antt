-- What is known of a topology file that is not read.
use Rattle.std.proofs.Common.{◌≡◌, ◌<◌, ℕ, List, Err, length, refl}
use Rattle.std.proofs.lemmas.Bool.{lt-ltb}
use Rattle.exb_toml_keys.specs.Faults.{large}
use Rattle.exb_toml_keys.specs.Documents.{document}
use Rattle.exb_topology_tables.specs.Tables.{tables_of}
use Rattle.exb_topology.specs.Topologies.{topology_of}

pub large_refused : (bytes : List ℕ) → 16_777_216 < length bytes → topology_of bytes ≡ Err large
unfolding topology_of tables_of document
large_refused bytes more = rw (lt-ltb 16_777_216 (length bytes) more) refl

-- The ids that a shelf has given, as a table.
use Rattle.std.specs.Prelude.{ℕ, zero, suc, true, List, [], ◌∷◌, string_bytes}
use Rattle.exb_shelf.specs.Shelf.{Id, no_id}
use Rattle.exb_shelf.specs.declared.open_files.OpenFile.{OpenFile}

-- what an entry's id stands for
abbrev pub id_of : OpenFile → Id
id_of e = record { given = true; reads = e.reads; name = string_bytes e.name; place = e.place }

-- ids are given in order, from 0
abbrev pub id_at : List OpenFile → ℕ → Id
id_at [] j = no_id
id_at (e ∷ es) zero = id_of e
id_at (e ∷ es) (suc j) = id_at es j

-- What a shelf's ids stand for, and how its faults are counted.
use Rattle.std.specs.Prelude.{◌≡◌, ◌<◌, ◌≤◌, ◌+◌, ◌^◌, [], ℕ, Bool, true, false, List}

-- what an id stands for: whether it was given, whether it was given by `open` rather than `create`,
-- the name of its file, and where reading stands
pub record Id : Type 0 where
  pub given : Bool
  pub reads : Bool
  pub name : List ℕ
  pub place : ℕ

-- an id that wasn't given
abbrev pub no_id : Id
no_id = record { given = false; reads = false; name = []; place = 0 }

-- an id to read the file of this name from this place on
abbrev pub reading : List ℕ → ℕ → Id
reading name place = record { given = true; reads = true; name = name; place = place }

-- an id to write to the file of this name
abbrev pub writing : List ℕ → Id
writing name = record { given = true; reads = false; name = name; place = 0 }

-- the same id, n bytes further on
abbrev pub moved : Id → ℕ → Id
moved i n = record i { place = i.place + n }

-- the id was given by `open`
pub record IsReading (i : Id) : Type 0 where
  pub given : i.given ≡ true
  pub reads : i.reads ≡ true

-- the id was given by `create`
pub record IsWriting (i : Id) : Type 0 where
  pub given : i.given ≡ true
  pub writes : i.reads ≡ false

-- the id was given by `open`, for the file of this name
pub record IsReadingOf (name : List ℕ) (i : Id) : Type 0 where
  pub given : i.given ≡ true
  pub reads : i.reads ≡ true
  pub named : i.name ≡ name

-- whatever id is given now, and wasn't before, is such a one
abbrev pub NewIds : (Id → Type 0) → (ℕ → Id) → (ℕ → Id) → Type 0
NewIds P old new = (j : ℕ) → (old j).given ≡ false → (new j).given ≡ true → P (new j)

-- whatever id is given now, and wasn't before, is above each that was
abbrev pub IdsRise : (ℕ → Id) → (ℕ → Id) → Type 0
IdsRise old new = (i j : ℕ) → (old i).given ≡ true → (old j).given ≡ false → (new j).given ≡ true → i < j

-- whatever was opened is such, with an id above all that were given, and each of these stays as it was
pub record Opens (P : Id → Type 0) (before after : ℕ → Id) : Type 0 where
  pub fresh : NewIds P before after
  pub rises : IdsRise before after
  pub kept : (j : ℕ) → (before j).given ≡ true → after j ≡ before j

-- how often a shelf has answered that a file is missing, has failed to read, and has failed to write
pub record Faults : Type 0 where
  pub missing : ℕ
  pub reads : ℕ
  pub writes : ℕ

-- the count rose; one that stands at its last value counts as risen
abbrev pub Rose : ℕ → ℕ → Type 0
Rose old new = old + 1 < 2 ^ 64 → old < new

-- no count has fallen
pub record NoFewer (old new : Faults) : Type 0 where
  pub missing : old.missing ≤ new.missing
  pub reads : old.reads ≤ new.reads
  pub writes : old.writes ≤ new.writes

-- What a shelf and a sink count: each fault that they answer, once.
use Rattle.std.specs.Prelude.{◌≡◌, ◌+◌, ◌-◌, ◌^◌, ℕ, Result, Ok, Err, min}
use Rattle.exb_shelf.specs.Shelf.{Faults}
use Rattle.exb_shelf.specs.declared.shelf.OpenFault.{OpenFault}
use Rattle.exb_shelf.specs.declared.shelf.OpenFault.TheVariants as open_fault
use Rattle.exb_shelf.specs.declared.shelf.ShelfFault.{ShelfFault}
use Rattle.exb_shelf.specs.declared.shelf.ShelfFault.TheVariants as shelf_fault
use Rattle.exb_shelf.specs.declared.whole_files.ReadFault.{ReadFault}
use Rattle.exb_shelf.specs.declared.whole_files.ReadFault.TheVariants as read_fault

-- one more, up to the last value
abbrev pub one_more : ℕ → ℕ
one_more n = min (n + 1) (2 ^ 64 - 1)

-- one more answer that a file is missing, one more failure to read, one more failure to write
abbrev pub missing_more : Faults → Faults
missing_more f = record f { missing = one_more f.missing }

abbrev pub reads_more : Faults → Faults
reads_more f = record f { reads = one_more f.reads }

abbrev pub writes_more : Faults → Faults
writes_more f = record f { writes = one_more f.writes }

-- ---- the counts after a call, by its answer
-- to open
abbrev pub after_open : {X : Type 0} → Result X OpenFault → Faults → Faults
after_open (Ok x) f = f
after_open (Err open_fault.Missing) f = missing_more f
after_open (Err open_fault.Failed) f = reads_more f
after_open (Err open_fault.Memory) f = f

-- to read
abbrev pub after_read : {X : Type 0} → Result X ShelfFault → Faults → Faults
after_read (Ok x) f = f
after_read (Err shelf_fault.Failed) f = reads_more f
after_read (Err shelf_fault.Memory) f = f

-- to make or to write
abbrev pub after_write : {X : Type 0} → Result X ShelfFault → Faults → Faults
after_write (Ok x) f = f
after_write (Err shelf_fault.Failed) f = writes_more f
after_write (Err shelf_fault.Memory) f = f

-- to read a whole file
abbrev pub after_reading : {X : Type 0} → Result X ReadFault → Faults → Faults
after_reading (Ok x) f = f
after_reading (Err read_fault.Missing) f = missing_more f
after_reading (Err read_fault.Failed) f = reads_more f
after_reading (Err read_fault.Large) f = f
after_reading (Err read_fault.Memory) f = f

-- to print, by the one count of a sink
abbrev pub after_print : {X : Type 0} → Result X ShelfFault → ℕ → ℕ
after_print (Ok x) n = n
after_print (Err shelf_fault.Failed) n = one_more n
after_print (Err shelf_fault.Memory) n = n

-- Why a whole file can't be read.
use Rattle.exb_shelf.specs.declared.shelf.OpenFault.{OpenFault}
use Rattle.exb_shelf.specs.declared.shelf.OpenFault.TheVariants as open_fault
use Rattle.exb_shelf.specs.declared.shelf.ShelfFault.{ShelfFault}
use Rattle.exb_shelf.specs.declared.shelf.ShelfFault.TheVariants as shelf_fault
use Rattle.exb_shelf.specs.declared.whole_files.ReadFault.{ReadFault}
use Rattle.exb_shelf.specs.declared.whole_files.ReadFault.TheVariants.{Missing, Failed, Memory}

-- since it can't be opened
abbrev pub unopened : OpenFault → ReadFault
unopened open_fault.Missing = Missing
unopened open_fault.Failed = Failed
unopened open_fault.Memory = Memory

-- since reading fails
abbrev pub unread : ShelfFault → ReadFault
unread shelf_fault.Failed = Failed
unread shelf_fault.Memory = Memory

-- The worked cases by computation.
use Rattle.std.proofs.Common.{refl}
use Rattle.exb_capture.specs.Formats.{reading_from, reading_within}
use Rattle.exb_capture.specs.Blocks.{ng_records, block_front, block_at, resolution_from, resolution_within}
use Rattle.exb_capture.specs.WorkedCases.{TheRowIsRead, AnotherInterface, TheLastByteCut, NothingIsEmpty, TheTable}

pub the_row : TheRowIsRead
unfolding ng_records reading_from reading_within block_front block_at resolution_from resolution_within
the_row = refl

pub another_interface : AnotherInterface
unfolding ng_records reading_from reading_within block_front block_at resolution_from resolution_within
another_interface = refl

pub last_byte_cut : TheLastByteCut
unfolding ng_records reading_from reading_within block_front block_at resolution_from resolution_within
last_byte_cut = refl

pub nothing_is_empty : NothingIsEmpty
unfolding ng_records reading_from reading_within block_front block_at resolution_from resolution_within
nothing_is_empty = refl

pub the_table : TheTable
unfolding ng_records reading_from reading_within block_front block_at resolution_from resolution_within
the_table = record {
  no_magic = refl;
  short_head = refl;
  no_multiple = refl;
  skipped = refl;
  skipped_cut = refl;
  other_end = refl;
  short_interface = refl;
  option_past = refl;
  option_end = refl;
  past_first = refl;
  no_power = refl;
  in_nanos = refl;
  in_micros = refl;
  no_interface = refl;
  snapped = refl;
  too_long = refl;
  new_section = refl;
}

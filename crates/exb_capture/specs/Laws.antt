-- What the laws say of classic pcap, of pcapng, and of captures, which are the two behind the first bytes of a file.
use Rattle.std.specs.Prelude.{◌≡◌, List, Ok, All, map}
use Rattle.exb_model.specs.FlatBridge.{Sent}
use Rattle.exb_model.specs.Texts.{capture_text}
use Rattle.exb_capture.specs.declared.classic.ClassicFormat.TheVariants.{Start}
use Rattle.exb_capture.specs.declared.format.AnyFormat.TheVariants.{Unknown}
use Rattle.exb_capture.specs.Blocks.{block_front, no_section, most_held}
use Rattle.exb_capture.specs.Captures.{capture_front, capture_records}
use Rattle.exb_capture.specs.Classic.{classic_front, pcap_records}
use Rattle.exb_capture.specs.PieceFeeds.{PiecesAreRead, PiecesGiveTheRecords, MoreIsOpen, AnswersAreFirst, MoreHasRoom}
use Rattle.exb_capture.specs.ReaderMachine.{IsFormat}
use Rattle.exb_capture.specs.WorkedCases.{TheRowIsRead, AnotherInterface, TheLastByteCut, NothingIsEmpty, TheTable}
use Rattle.exb_capture.specs.OutputCaptures.{CanBeWritten, in_microseconds}

-- the worked cases come out as they must
pub record RowsAreRead : Type 0 where
  pub row : TheRowIsRead
  pub interface : AnotherInterface
  pub cut : TheLastByteCut
  pub empty : NothingIsEmpty
  pub table : TheTable

-- what stands at a front stands whatever follows
pub record AreFormats : Type 0 where
  pub classic : IsFormat most_held classic_front
  pub blocks : IsFormat most_held block_front
  pub captures : IsFormat most_held capture_front

-- what is answered in pieces is what is read of the whole file
pub record ReadAsTheWhole : Type 0 where
  pub classic : PiecesAreRead most_held classic_front Start
  pub blocks : PiecesAreRead most_held block_front no_section
  pub captures : PiecesAreRead most_held capture_front Unknown
  pub records : PiecesGiveTheRecords most_held capture_front Unknown

-- before the end is told, More is answered exactly where nothing stands whatever follows
pub record MoreStaysOpen : Type 0 where
  pub classic : MoreIsOpen most_held classic_front Start
  pub blocks : MoreIsOpen most_held block_front no_section
  pub captures : MoreIsOpen most_held capture_front Unknown

-- an answer comes first of what is still to come
pub record AnswersComeFirst : Type 0 where
  pub first : AnswersAreFirst most_held capture_front
  pub more : MoreHasRoom most_held capture_front

-- what is written is read again, at the same moments cut down to whole microseconds
pub record WrittenIsRead : Type 0 where
  pub classic : (sent : List Sent) → All CanBeWritten sent → pcap_records (capture_text sent)
      ≡ Ok (map in_microseconds sent)
  pub either : (sent : List Sent) → All CanBeWritten sent → capture_records (capture_text sent)
      ≡ Ok (map in_microseconds sent)

-- What was counted, by the status of a call.
use Rattle.std.specs.Prelude.{◌≡◌, ◌≢◌, ◌⊎◌, ℕ}
use Rattle.exb_shelf.specs.FaultCounts.{missing_more, reads_more, writes_more}
use Rattle.exb_shelf.specs.Shelf.{Faults, Rose}

-- By the status of what ended it: one missing file, one failure to read, or one failure to write, and no other. At 1
-- and 10 a file may have been missing, since memory may run out while that is told, and a capture that is missing when
-- it is opened again is another one.
pub record CountedAt (own : ℕ) (counted counts : Faults) : Type 0 where
  pub five : own ≡ 5 → counts ≡ missing_more counted
  pub six : own ≡ 6 → counts ≡ reads_more counted
  pub seven : own ≡ 7 → counts ≡ writes_more counted
  pub either : (own ≡ 1) ⊎ (own ≡ 10) → (counts ≡ counted) ⊎ (counts ≡ missing_more counted)
  pub others : own ≢ 1 → own ≢ 5 → own ≢ 6 → own ≢ 7 → own ≢ 10 → counts ≡ counted

-- What ended the call has a status of its own, which is the status but for 1 and 7, where a sink wanted memory or has
-- failed. Each fault of the shelf is counted by it, once. So at all statuses but 1, 6 and 7 no failure to read or to
-- write was counted, and none is hidden by trying again.
pub record CountedBy (status : ℕ) (counted counts : Faults) (failed fails : ℕ) : Type 0 where
  pub own : ℕ
  pub late : status ≢ own → (status ≡ 1) ⊎ ((status ≡ 7) × Rose failed fails)
  pub at : CountedAt own counted counts
  pub none_hidden : status ≢ 1 → status ≢ 6 → status ≢ 7 → (counts.reads ≡ counted.reads)
      × (counts.writes ≡ counted.writes)

-- How long a frame is that may be relayed.
use Rattle.std.proofs.Common.{◌≡◌, ◌≢◌, ◌≤◌, ◌++◌, List, arith, inl, inr, length, refl, true, ℕ}
use Rattle.std.proofs.lemmas.List.{take-append-le}
use Rattle.std.proofs.lemmas.Bool.{cases_lt, false≢true, le-ltb, lt-ltb}
use Rattle.exb_model.specs.declared.frame_kind.Seen.{Seen}
use Rattle.exb_model.specs.declared.frame_kind.Seen.TheVariants as seen
use Rattle.exb_model.specs.Frames.{is_control_frame, kind_of}
use Rattle.exb_model.specs.EagerHistory.{is_relayed_kind}

relayed_kinds : (s : Seen) → is_relayed_kind s ≡ true → (s ≢ seen.Short) × (s ≢ seen.Long)
relayed_kinds seen.Plain e = (λ d. cc, λ d. cc)
relayed_kinds seen.BadTag e = (λ d. cc, λ d. cc)
relayed_kinds (seen.Priority pcp dei) e = (λ d. cc, λ d. cc)
relayed_kinds (seen.Tagged pcp dei v) e = (λ d. cc, λ d. cc)
relayed_kinds seen.Short e = absurd (false≢true e)
relayed_kinds seen.Long e = absurd (false≢true e)
relayed_kinds seen.Reserved e = absurd (false≢true e)

pub relayed_long : (f : List ℕ) → is_relayed_kind (kind_of f) ≡ true → 14 ≤ length f
unfolding kind_of
relayed_long f h =
    elim (cases_lt (length f) 14) [
      | inl low ↦ absurd ((relayed_kinds (kind_of f) h).0 (rw (lt-ltb (length f) 14 low) refl))
      | inr high ↦ high
    ]

pub relayed_fits : (f : List ℕ) → is_relayed_kind (kind_of f) ≡ true → length f ≤ 9216
unfolding kind_of
relayed_fits f h =
    elim (cases_lt 9216 (length f)) [
      | inl high ↦ absurd ((relayed_kinds (kind_of f) h).1 (rw (le-ltb (length f) 14 (omega arith), lt-ltb 9216 (length f) high) refl))
      | inr low ↦ low
    ]

-- more bytes behind a destination don't change whether it is that of control frames
pub control_longer : (f more : List ℕ) → 6 ≤ length f → is_control_frame (f ++ more) ≡ is_control_frame f
unfolding is_control_frame
control_longer f more long = rw (take-append-le 6 f more long) refl

-- What the one bridge sends can be written.
use Rattle.std.proofs.Common.{◌≡◌, ◌⊎◌, ℕ, ◌*◌, ◌<◌, ◌≤◌, List, [], ◌∷◌, length, take, refl, ap, arith, length-append, inl, inr}
use Rattle.std.specs.Prelude.{◌^◌, Option, Some, None, All}
use Rattle.std.proofs.lemmas.Bool.{cases_lt, lt-ltb, le-ltb}
use Rattle.std.proofs.lemmas.List.{length-take, length-drop}
use Rattle.std.proofs.lemmas.List.Elements.{All-nil, All-cons, All-append}
use Rattle.exb_model.specs.declared.frame_kind.Seen.{Seen}
use Rattle.exb_model.specs.declared.frame_kind.Seen.TheVariants as seen
use Rattle.exb_model.specs.declared.vlan.Kind.{Kind}
use Rattle.exb_model.specs.declared.vlan.Kind.TheVariants.{Tagged, Untagged}
use Rattle.exb_model.specs.declared.event.Event.{Event}
use Rattle.exb_model.specs.declared.event.Event.TheVariants as event
use Rattle.exb_model.specs.Frames.{kind_of, body_after, egress}
use Rattle.exb_model.specs.Configuration.{Bridge}
use Rattle.exb_model.specs.History.{Basis, History, bridge_after}
use Rattle.exb_model.specs.Learning.{passes, passes_as, learned}
use Rattle.exb_model.specs.Targets.{target}
use Rattle.exb_model.specs.FlatBridge.{flat, sent_as, sent_by}
use Rattle.exb_model.specs.LegalHistory.{EachEvent}
use Rattle.exb_capture.specs.OutputCaptures.{CanBeWritten}
use Rattle.exb_trace_spec.specs.InputFrames.{RelayFits}
use Rattle.exb_audit.specs.FlatCaptures.{FlatCanBeWritten}

-- a frame that passes is no longer than 9,216 bytes
long_kind : (f : List ℕ) → 9216 < length f → kind_of f ≡ seen.Long
unfolding kind_of
long_kind f h = rw (le-ltb (length f) 14 (omega arith), lt-ltb 9216 (length f) h) refl

passes_short : (k : Bridge) (p : ℕ) (f : List ℕ) (v : ℕ) → passes k p f ≡ Some v → length f ≤ 9216
passes_short k p f v is = by_size (cases_lt 9216 (length f))
  where
    by_size : (9216 < length f) ⊎ (length f ≤ 9216) → length f ≤ 9216
    by_size (inl h) = let none : passes k p f ≡ None = ap (passes_as k p) (long_kind f h) in absurd (cc (none, is))
    by_size (inr h) = h

body_short : (f : List ℕ) (s : Seen) → length (body_after f s) ≤ length f
body_short f (seen.Priority pcp dei) = omega (arith, length-drop 16 f)
body_short f (seen.Tagged pcp dei v) = omega (arith, length-drop 16 f)
body_short f seen.Short = omega (arith, length-drop 12 f)
body_short f seen.Long = omega (arith, length-drop 12 f)
body_short f seen.Reserved = omega (arith, length-drop 12 f)
body_short f seen.BadTag = omega (arith, length-drop 12 f)
body_short f seen.Plain = omega (arith, length-drop 12 f)

egress_short : (f : List ℕ) (kind : Kind) (v : ℕ) → length f ≤ 9216 → length (egress f kind v) ≤ 262_144
unfolding egress
egress_short f Untagged v h = omega (arith, length-append (take 12 f) (body_after f (kind_of f)), length-take 12 f, body_short f (kind_of f))
egress_short f Tagged v h = simp (length-append) (omega (arith, length-take 12 f, body_short f (kind_of f)))

module _ (b : Basis) where
  sent_written : (t : ℕ) (f : List ℕ) (o : Option ℕ) (k : Option Kind) → t < 2 ^ 32 * 1_000_000_000 → ((v : ℕ) → o ≡ Some v → length f ≤ 9216) → All CanBeWritten (sent_as t f o k)
  sent_written t f (Some v) (Some kind) h short = All-cons CanBeWritten (t, egress f kind v) [] (record { moment = h; bytes = egress_short f kind v (short v refl) }) (All-nil CanBeWritten)
  sent_written t f (Some v) None h short = All-nil CanBeWritten
  sent_written t f None k h short = All-nil CanBeWritten

  by_written : (h : History) (e : Event) (q : ℕ) → RelayFits h e → All CanBeWritten (sent_by (bridge_after b h) (learned b h) e q)
  by_written h (event.Relay p n t f) q fit =
      sent_written t f (passes (bridge_after b h) p f) (target (bridge_after b h) (learned b h) p f q) fit (λ v is. passes_short (bridge_after b h) p f v is)
  by_written h (event.Ignored p n) q fit = All-nil CanBeWritten
  by_written h (event.Tick s) q fit = All-nil CanBeWritten
  by_written h (event.Commit n) q fit = All-nil CanBeWritten
  by_written h (event.Refuse n x) q fit = All-nil CanBeWritten
  by_written h (event.Up p) q fit = All-nil CanBeWritten
  by_written h (event.NoUp p x) q fit = All-nil CanBeWritten
  by_written h event.Settled q fit = All-nil CanBeWritten

  flat_written : (h : History) (q : ℕ) → EachEvent RelayFits h → All CanBeWritten (flat b h q)
  unfolding flat
  flat_written [] q all = All-nil CanBeWritten
  flat_written (e ∷ h) q all = All-append CanBeWritten (flat b h q) (sent_by (bridge_after b h) (learned b h) e q) (flat_written h q all.0) (by_written h e q all.1)

pub flat_can_be_written : FlatCanBeWritten
flat_can_be_written b h q fits = flat_written b h q fits

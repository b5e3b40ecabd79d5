-- Where a fault lies that a reader answers: within what it was fed.
use Rattle.std.proofs.Common.{◌≡◌, ◌≤◌, ◌+◌, ◌-◌, ℕ, zero, suc, Bool, true, false, List, length, drop, cond, refl, arith, length-drop}
use Rattle.std.specs.Prelude.{nat_lt}
use Rattle.std.proofs.lemmas.Bool.{ltb-false, ltb-true}
use Rattle.exb_capture.specs.declared.fault.Flaw.TheVariants.{Cut}
use Rattle.exb_capture.specs.Formats.{Front, Nothing, Short, Bad, Over, Holds, fault}
use Rattle.exb_capture.specs.ReaderMachine.{IsFormat, Stage, At, Failed, Reading, Step, Answer, Found, More, End, Faulty, Turn, Answers, GoesOn, gone, at_last, turn_at, turn, settled, asked_within, asked}
use Rattle.exb_capture.specs.CaptureFiles.{FailsBy}
use Rattle.exb_capture.proofs.TurnLemmas.{reading}

-- What a reader holds, what it read last and the fault that it met lie within so many bytes.
pub record IsBy {S : Type 0} (most : ℕ) (r : Reading S) : Type 0 where
  pub fits : r.place + length r.held ≤ most + r.owing
  pub begun : r.begun ≤ most
  pub fails : FailsBy most r.stage

abbrev pub AnswersBy : ℕ → Answer → Type 0
AnswersBy most (Found x) = Unit {0}
AnswersBy most More = Unit {0}
AnswersBy most End = Unit {0}
AnswersBy most (Faulty f) = f.at ≤ most

abbrev TurnsBy : {S : Type 0} → ℕ → Turn S → Type 0
TurnsBy k (Answers a r) = AnswersBy k a × IsBy k r
TurnsBy k (GoesOn r) = IsBy k r

abbrev pub IsAskedBy : {S : Type 0} → ℕ → Step S → Type 0
IsAskedBy k step = AnswersBy k step.answer × IsBy k step.left

-- more bytes
pub fails_on : {S : Type 0} (k most : ℕ) (s : Stage S) → k ≤ most → FailsBy k s → FailsBy most s
fails_on k most (At s) less h = tt
fails_on k most (Failed f) less h = omega (arith, less, h)

module _ {S : Type 0} (most : ℕ) (front : S → List ℕ → Front S) (ok : IsFormat most front) where
  front_by : (ended : Bool) (s : S) (p : ℕ) (h : List ℕ) (b m k : ℕ) (x : Front S) → front s h ≡ x → p + length h ≤ k → b ≤ k → TurnsBy k (turn_at most ended x (reading (At s) p h 0 b m))
  front_by true s p h b m k Nothing e fits begun = (tt, record { fits = omega (arith, fits); begun = begun; fails = tt })
  front_by false s p h b m k Nothing e fits begun = (tt, record { fits = omega (arith, fits); begun = begun; fails = tt })
  front_by true s p h b m k (Short f) e fits begun =
      let there = ok.short_there s h f e in (omega (arith, there, fits), record { fits = omega (arith, fits); begun = begun; fails = omega (arith, there, fits) })
  front_by false s p h b m k (Short f) e fits begun = (tt, record { fits = omega (arith, fits); begun = begun; fails = tt })
  front_by ended s p h b m k (Bad f) e fits begun =
      let there = ok.bad_there s h f e in (omega (arith, there, fits), record { fits = omega (arith, fits); begun = begun; fails = omega (arith, there, fits) })
  front_by ended s p h b m k (Over n u) e fits begun = record { fits = omega (arith, fits); begun = omega (arith, fits); fails = tt }
  front_by ended s p h b m k (Holds x n u) e fits begun = (tt, record { fits = omega (arith, fits); begun = omega (arith, fits); fails = tt })

  last_by : (ended : Bool) (k : ℕ) (g : Reading S) → IsBy k g → TurnsBy k (at_last most ended (fault Cut g.begun) g)
  last_by true k g by = (by.begun, record { fits = by.fits; begun = by.begun; fails = by.begun })
  last_by false k g by = (tt, record { fits = by.fits; begun = by.begun; fails = by.fails })

  turn_by : (ended : Bool) (s : Stage S) (p : ℕ) (h : List ℕ) (o b m k : ℕ) → IsBy k (reading s p h o b m) → TurnsBy k (turn most front ended (reading s p h o b m))
  turn_by ended (Failed f) p h o b m k by = (by.fails, by)
  turn_by ended (At s) p h o b m k by = by_owing (nat_lt 0 (o - length h)) refl
    where
      g : Reading S
      g = gone (reading (At s) p h o b m)

      by_none : (j : ℕ) → o - length h ≡ j → j ≡ 0 → TurnsBy k (turn_at most ended (front s (drop o h)) (reading (At s) p (drop o h) j b m))
      by_none zero e none = let fits = by.fits in front_by ended s p (drop o h) b m k (front s (drop o h)) refl (omega (arith, fits, e, length-drop o h)) by.begun
      by_none (suc j) e none = absurd (omega (arith, none))

      by_owing : (t : Bool) → nat_lt 0 (o - length h) ≡ t → TurnsBy k (cond t (at_last most ended (fault Cut b) g) (turn_at most ended (front s g.held) g))
      by_owing true t =
          let some = ltb-true 0 (o - length h) t in
          let fits = by.fits in
          last_by ended k g (record { fits = omega (arith, fits, some, length-drop o h); begun = by.begun; fails = tt })
      by_owing false t = let none = ltb-false 0 (o - length h) t in by_none (o - length h) refl (omega (arith, none))

  settled_by : (k : ℕ) (t : Turn S) (rest : Reading S → Step S) → TurnsBy k t → ((x : Reading S) → t ≡ GoesOn x → IsBy k x → IsAskedBy k (rest x)) → IsAskedBy k (settled t rest)
  settled_by k (Answers a x) rest now later = now
  settled_by k (GoesOn x) rest now later = later x refl now

  by_within : (n : ℕ) (ended : Bool) (k : ℕ) (r : Reading S) → IsBy k r → IsAskedBy k (asked_within most front n ended r)
  unfolding asked_within
  by_within zero ended k r by = (tt, record { fits = by.fits; begun = by.begun; fails = by.fails })
  by_within (suc n) ended k r by =
      settled_by k (turn most front ended r) (asked_within most front n ended) (turn_by ended r.stage r.place r.held r.owing r.begun r.room k by) (λ x e on. by_within n ended k x on)

  pub asked_by : (ended : Bool) (k : ℕ) (r : Reading S) → IsBy k r → IsAskedBy k (asked most front ended r)
  unfolding asked
  asked_by ended k r by = by_within (suc (suc (length r.held))) ended k r by

-- The trace of a run that plays an input is legal, of its captures and of what the one bridge sends.
use Rattle.std.proofs.Common.{◌≡◌, ◌⊎◌, inl, inr, ℕ, suc, zero, ◌<◌, ◌==◌, true, List, [], ◌∷◌, map, Some, refl, ap, sym, ◌∙◌, subst}
use Rattle.std.specs.Prelude.{max}
use Rattle.std.proofs.lemmas.Bool.{cases_lt, cases_eq, ne_eqb, cases_Bool, false≢true}
use Rattle.exb_model.specs.FlatBridge.{Sent}
use Rattle.exb_model.specs.History.{History, ◌then◌}
use Rattle.exb_model.specs.declared.arrival.Arrival.{Arrival}
use Rattle.exb_model.specs.Input.{Input, Record, tree_of, bounds_of, arrivals_from, arrivals_at, segments}
use Rattle.exb_model.specs.Lists.{numbered}
use Rattle.exb_model.specs.Setup.{Limits}
use Rattle.exb_model.specs.Tree.{Shape, is_external}
use Rattle.exb_model.proofs.Validity.{no_port_past}
use Rattle.exb_frame.specs.TagValues.{TagRoundTrip}
use Rattle.exb_relay.specs.Laws.{SendsAreWords, SendsLeaveAsFlat}
use Rattle.exb_control_spec.specs.Runs.Journal.{StepsTell}
use Rattle.exb_world_spec.specs.AllowedSteps.{IsSettled}
use Rattle.exb_world_spec.specs.Steps.{Stepped, stepped}
use Rattle.exb_world_spec.specs.Worlds.{World, Step, Arrive, Carry, Control, Lose, Beat, Tick, Order, Mark, Left, left_at}
use Rattle.exb_world_spec.specs.Runs.Sessions.{Each}
use Rattle.exb_world_spec.specs.Runs.FrameBytes.{StepsStayWritten}
use Rattle.exb_world_laws.specs.WorldInput.{arrivals_of}
use Rattle.exb_world_laws.specs.WorldInvariant.{given_in as given_of}
use Rattle.exb_world_laws.specs.SettledHistories.{SettledIsOrderly}
use Rattle.exb_world_laws.specs.SegmentRuns.{marked_each}
use Rattle.exb_world_laws.specs.Runs.SegmentRuns.{begin_of}
use Rattle.exb_world_spec.specs.Runs.ReachedWorlds.{MayTakeAll}
use Rattle.exb_world_laws.proofs.Runs.SegmentRuns.{start, settled, runs_write_legally}
use Rattle.exb_world_laws.proofs.Runs.PartialRuns.{all_given}
use Rattle.exb_trace_spec.specs.Rule5Relays.{NamesRecord, Enters, IsStep, AreSteps}
use Rattle.exb_trace_laws.specs.TraceLaws.{given_in}
use Rattle.exb_trace_spec.specs.LegalTrace.{LegalTrace}
use Rattle.exb_model.specs.Traces.{TraceLine, In, Out, Journal}
use Rattle.exb_world_spec.specs.TraceLines.{all_told}
use Rattle.exb_model.specs.Traces as line
use Rattle.exb_trace_spec.specs.Traversals.{EachStep, until_next}
use Rattle.exb_trace_spec.specs.InputFrames.{frames_in, frames_out}
use Rattle.exb_trace_laws.specs.RunTraces.{SetupsTellLegally, RunsTellLegally}
use Rattle.exb_trace_spec.specs.JournalLines.{journal_of}
use Rattle.exb_trace_laws.specs.TraceRelation.{captures_of, outputs_of}

-- ---- the same captures and outputs
each_step : (P Q : TraceLine → List TraceLine → Type 0) (ls : List TraceLine) → ((l : TraceLine) (rest : List TraceLine) → P l rest → Q l rest) → EachStep P ls → EachStep Q ls
each_step P Q [] f k = tt
each_step P Q (l ∷ ls) f k = (λ first. f l (until_next ls) (k.0 first), each_step P Q ls f k.1)

module _ (t : Shape) (captures files : ℕ → List (List ℕ)) (same : (p : ℕ) → is_external t p ≡ true → captures p ≡ files p) (only : (p n : ℕ) (frame : List ℕ) → numbered (captures p) n ≡ Some frame → is_external t p ≡ true) where
  names : (l frame : List ℕ) → NamesRecord captures l frame → NamesRecord files l frame
  names l frame k = record { port = k.port; index = k.index; is = ap (λ (fs : List (List ℕ)). numbered fs k.index) (sym (same k.port (only k.port k.index frame k.is))) ∙ k.is; text = k.text }

  enters : (l : TraceLine) (said : List (List ℕ)) → Enters t captures l said → Enters t files l said
  unfolding names
  enters (In n j f) said k = record { line = k.line; once = k.once; frame = k.frame; names = names k.line k.frame k.names; here = k.here; holds = k.holds }
  enters (Out n j f) said k = tt
  enters line.Beat said k = tt
  enters (Journal text) said k = tt

  steps : (ls : List TraceLine) → AreSteps t captures ls → AreSteps t files ls
  steps ls k =
      record {
        none_before = k.none_before;
        quiet_before = k.quiet_before;
        each = each_step (IsStep t captures) (IsStep t files) ls (λ l rest s. record { entered = λ comes. enters l _ (s.entered comes); relayed = s.relayed; by_relay = s.by_relay; few = s.few }) k.each;
      }

  of_files : (journal : List (List ℕ)) (outputs sent : ℕ → List (List ℕ)) (ls : List TraceLine) → ((q : ℕ) → is_external t q ≡ true → outputs q ≡ sent q) → LegalTrace t journal captures outputs ls → LegalTrace t journal files sent ls
  of_files journal outputs sent ls leave k =
      record {
        so_far = record {
          rule_1 = k.so_far.rule_1;
          rule_2 = k.so_far.rule_2;
          rule_3 = k.so_far.rule_3;
          rule_4 = record { arrived = λ p ext. k.so_far.rule_4.arrived p ext ∙ same p ext; left = λ q ext. k.so_far.rule_4.left q ext ∙ leave q ext };
          rule_5 = steps ls k.so_far.rule_5;
        };
        empty = k.empty;
      }

-- ---- what was given
pub given_is : (xs : List Step) → given_in xs ≡ arrivals_of (given_of xs)
given_is [] = refl
given_is (Arrive a ∷ xs) = ap (λ (came : List Arrival). a ∷ came) (given_is xs)
given_is (Carry n way ∷ xs) = given_is xs
given_is (Control n way k keep ∷ xs) = given_is xs
given_is (Lose n way k ∷ xs) = given_is xs
given_is (Beat ∷ xs) = given_is xs
given_is (Tick seconds ∷ xs) = given_is xs
given_is (Order c ∷ xs) = given_is xs
given_is (Mark ∷ xs) = given_is xs

module _ (t : Shape) (l : Limits) where
  -- arrivals are at external ports
  outside : (xs : List Step) (w : World) → MayTakeAll t l w xs → Each (λ (a : Arrival). is_external t a.port ≡ true) (given_in xs)
  outside [] w may = tt
  outside (Arrive a ∷ xs) w may = (may.0.can.external, outside xs (stepped t l (Arrive a) w).world may.1)
  outside (Carry n way ∷ xs) w may = outside xs (stepped t l (Carry n way) w).world may.1
  outside (Control n way k keep ∷ xs) w may = outside xs (stepped t l (Control n way k keep) w).world may.1
  outside (Lose n way k ∷ xs) w may = outside xs (stepped t l (Lose n way k) w).world may.1
  outside (Beat ∷ xs) w may = outside xs (stepped t l Beat w).world may.1
  outside (Tick seconds ∷ xs) w may = outside xs (stepped t l (Tick seconds) w).world may.1
  outside (Order c ∷ xs) w may = outside xs (stepped t l (Order c) w).world may.1
  outside (Mark ∷ xs) w may = outside xs (stepped t l Mark w).world may.1

  captured_outside : (xs : List Arrival) (p : ℕ) → Each (λ (a : Arrival). is_external t a.port ≡ true) xs → (captures_of xs p ≡ []) ⊎ (is_external t p ≡ true)
  captured_outside [] p all = inl refl
  captured_outside (a ∷ xs) p all =
      elim (cases_eq a.port p) [
        | inl e ↦ inr (subst (λ (q : ℕ). is_external t q ≡ true) e all.0)
        | inr e ↦ rw (ne_eqb a.port p e) (captured_outside xs p all.1)
      ]

-- a capture that has a record is of an external port
only_outside : (t : Shape) (frames : List (List ℕ)) (p n : ℕ) (frame : List ℕ) → (frames ≡ []) ⊎ (is_external t p ≡ true) → numbered frames n ≡ Some frame → is_external t p ≡ true
only_outside t frames p n frame (inr ext) found = ext
only_outside t frames p n frame (inl none) found = absurd (nothing n (ap (λ (fs : List (List ℕ)). numbered fs n) (sym none) ∙ found))
  where
    nothing : (n : ℕ) → numbered [] n ≡ Some frame → ⊥
    nothing zero e = cc
    nothing (suc n) e = cc

-- ---- the input's records
bytes_from : (p n least : ℕ) (rs : List Record) → map (λ (a : Arrival). a.bytes) (arrivals_from p n least rs) ≡ map (λ (r : Record). r.bytes) rs
bytes_from p n least [] = refl
bytes_from p n least (r ∷ rs) = ap (λ (fs : List (List ℕ)). r.bytes ∷ fs) (bytes_from p (suc n) (max least r.time) rs)

pub bytes_at : (i : Input) (p : ℕ) → map (λ (a : Arrival). a.bytes) (arrivals_at i p) ≡ frames_in i p
unfolding arrivals_at
bytes_at i p = bytes_from p 1 0 (i.records p)

-- ---- what has left
pub outputs_are : (q : ℕ) (xs : List Left) → outputs_of xs q ≡ map (λ (x : Sent). x.1) (left_at q xs)
outputs_are q [] = refl
outputs_are q (x ∷ xs) = elim (cases_Bool (x.port == q)) [ inl e ↦ rw e (ap (λ (fs : List (List ℕ)). x.bytes ∷ fs) (outputs_are q xs)) | inr e ↦ rw e (outputs_are q xs) ]

module _ (round : TagRoundTrip) (words : SendsAreWords) (leave : SendsLeaveAsFlat) (law : StepsTell) (stay : StepsStayWritten) (orderly : SettledIsOrderly) (tells : SetupsTellLegally) where
  pub runs_tell_legally : RunsTellLegally
  runs_tell_legally m i done timely k =
      let t : Shape = tree_of i in
      let xs : List Step = marked_each (k.first ∷ k.plays) in
      let h : History = [] then done.events in
      let its : LegalTrace t (journal_of h) (captures_of (given_in xs)) (outputs_of done.left) (all_told done.lines) =
      subst (λ (z : Stepped). LegalTrace t (journal_of ([] then z.events)) (captures_of (given_in xs)) (outputs_of z.left) (all_told z.lines)) (sym k.is)
      ((tells i.setup xs k.valid k.vids k.may).whole (subst (λ (z : Stepped). IsSettled t z.world) k.is (settled round words leave law stay m i (segments m i) done k))) in
      of_files t (captures_of (given_in xs)) (frames_in i) same only (journal_of h) (outputs_of done.left) (frames_out i h) (all_told done.lines)
      (λ q ext. outputs_are q done.left ∙ ap (λ (fs : List Sent). map (λ (x : Sent). x.1) fs) ((runs_write_legally round words leave law stay orderly m i done timely k).captures q ext))
      its
    where
      low : (p : ℕ) → is_external (tree_of i) p ≡ true → p < 4160
      low p ext =
          elim (cases_lt p 4160) [
            | inl below ↦ below
            | inr past ↦ absurd (false≢true (sym (no_port_past (tree_of i) p (start round words leave law stay m i (segments m i) done k).setting.tree.sized past) ∙ ext))
          ]

      same : (p : ℕ) → is_external (tree_of i) p ≡ true → captures_of (given_in (marked_each (k.first ∷ k.plays))) p ≡ frames_in i p
      same p ext =
          ap (λ (came : List Arrival). captures_of came p) (given_is (marked_each (k.first ∷ k.plays)))
          ∙ (ap (λ (came : List Arrival). map (λ (a : Arrival). a.bytes) came) (all_given round words leave law stay m i done k p (low p ext)) ∙ bytes_at i p)

      only : (p n : ℕ) (frame : List ℕ) → numbered (captures_of (given_in (marked_each (k.first ∷ k.plays))) p) n ≡ Some frame → is_external (tree_of i) p ≡ true
      only p n frame found =
          only_outside (tree_of i) (captures_of (given_in (marked_each (k.first ∷ k.plays))) p) p n frame
          (captured_outside (tree_of i) (bounds_of i) (given_in (marked_each (k.first ∷ k.plays))) p (outside (tree_of i) (bounds_of i) (marked_each (k.first ∷ k.plays)) (begin_of i) k.may)) found

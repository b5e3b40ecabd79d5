-- The lines of a step: what comes in, then the journal, then what goes out.
use Rattle.std.proofs.Common.{◌≡◌, ℕ, ◌+◌, ◌/◌, ◌%◌, ◌<◌, ◌≤◌, ◌^◌, Bool, true, false, List, [], ◌∷◌, ◌++◌, length, get_or, map, take, drop, refl, ap, sym, subst, ◌∙◌, inl, inr, arith}
use Rattle.std.proofs.lemmas.Bool.{cases_lt, false≢true, lt-ltb, le-ltb}
use Rattle.std.proofs.lemmas.List.{append-nil, append_assoc, length-append, map-append, take_more}
use Rattle.exb_model.specs.declared.event.Event.{Event}
use Rattle.exb_model.specs.Traces.{TraceLine, In}
use Rattle.exb_world_spec.specs.AllowedSteps.{Can}
use Rattle.exb_world_spec.specs.Effects.{Effect}
use Rattle.exb_world_spec.specs.Runs.SessionLaws.{HasBytes}
use Rattle.exb_world_spec.specs.Steps.{done_by, line_at, lines_in, stepped}
use Rattle.exb_world_spec.specs.TraceLines.{all_told, told}
use Rattle.exb_world_spec.specs.Worlds.{Line, Journal, Step}
use Rattle.exb_outbox.specs.declared.log.Log.{Log}
use Rattle.exb_world.specs.declared.parts.WorldParts.{WorldParts}
use Rattle.exb_world.specs.StepLines.{IsBegun, IsTold}
use Rattle.exb_world.specs.LiveSteps.{Makes, StaysLive}
use Rattle.exb_world.specs.WorldContracts.{IsStepped, network_of}
use Rattle.exb_bridge.specs.TreeIndexes.{Site, limits_in}
use Rattle.exb_outbox.specs.Logs.{if_tracing}
use Rattle.exb_bridge.specs.BridgeWorlds.{all_left}
use Rattle.exb_world_spec.specs.Runs.ReachedWorlds.{HasVidIn, MayTake}
use Rattle.exb_world.specs.MachineWorlds.{world_in, Does}

-- ---- where a trace is kept, and where it isn't
pub all_kept : (xs : List TraceLine) → if_tracing true xs ≡ xs
all_kept [] = refl
all_kept (x ∷ xs) = ap (λ ys. x ∷ ys) (all_kept xs)

pub none_kept : (xs : List TraceLine) → if_tracing false xs ≡ []
none_kept [] = refl
none_kept (x ∷ xs) = none_kept xs

pub kept_on : (b : Bool) (to old xs : List TraceLine) → b ≡ true → to ≡ old ++ xs → to ≡ old ++ if_tracing b xs
kept_on b to old xs on is = is ∙ ap (λ ys. old ++ ys) (sym (all_kept xs)) ∙ ap (λ (c : Bool). old ++ if_tracing c xs) (sym on)

pub kept_off : (b : Bool) (old xs : List TraceLine) → b ≡ false → old ≡ old ++ if_tracing b xs
kept_off b old xs off = sym (append-nil old) ∙ ap (λ ys. old ++ ys) (sym (none_kept xs)) ∙ ap (λ (c : Bool). old ++ if_tracing c xs) (sym off)

-- ---- what comes in
pub came_at : (p : ℕ) (f : List ℕ) → In (p / 64) (p % 64 + 1) f ≡ told (line_at p f)
came_at p f =
    elim (cases_lt p 64) [
      | inl low ↦
          let device : p / 64 ≡ 0 = omega (arith, low) in
          let place : p % 64 ≡ p = omega (arith, low) in
          rw (lt-ltb p 64 low, device, place) refl
      | inr high ↦ rw (le-ltb p 64 high) refl
    ]

-- ---- the journal
pub journal_more : (events : List Event) (i : ℕ) (x : Event) (old to new : List TraceLine) → i < length events → x ≡ get_or events i x → to ≡ old ++ all_told (map Journal (take i events)) →
    new ≡ to ++ told (Journal x) ∷ [] → new ≡ old ++ all_told (map Journal (take (i + 1) events))
journal_more events i x old to new few is before after =
    let more : take (i + 1) events ≡ take i events ++ x ∷ [] = take_more events i x few ∙ ap (λ y. take i events ++ y ∷ []) (sym is) in
    let lines : all_told (map Journal (take (i + 1) events)) ≡ all_told (map Journal (take i events)) ++ told (Journal x) ∷ [] =
    ap (λ (es : List Event). all_told (map Journal es)) more ∙ ap all_told (map-append Journal (take i events) (x ∷ [])) ∙ map-append told (map Journal (take i events)) (Journal x ∷ []) in
    after
    ∙ ap (λ xs. xs ++ told (Journal x) ∷ []) before
    ∙ append_assoc old (all_told (map Journal (take i events))) (told (Journal x) ∷ [])
    ∙ ap (λ xs. old ++ xs) (sym lines)

-- ---- a step
lines_on : (old ins journal outs begun done new sent : List TraceLine) (a b c : Bool) → a ≡ true → b ≡ true → c ≡ true → begun ≡ old ++ if_tracing a ins → done ≡ begun → sent ≡ if_tracing b outs →
    new ≡ done ++ if_tracing c (journal ++ sent) → new ≡ old ++ (ins ++ (journal ++ outs))
lines_on old ins journal outs begun done new sent a b c on_a on_b on_c first same goes last =
    let began : begun ≡ old ++ ins = first ∙ ap (λ (t : Bool). old ++ if_tracing t ins) on_a ∙ ap (λ xs. old ++ xs) (all_kept ins) in
    let went : sent ≡ outs = goes ∙ ap (λ (t : Bool). if_tracing t outs) on_b ∙ all_kept outs in
    last
    ∙ ap (λ (t : Bool). done ++ if_tracing t (journal ++ sent)) on_c
    ∙ ap (λ xs. done ++ xs) (all_kept (journal ++ sent))
    ∙ ap (λ xs. xs ++ (journal ++ sent)) (same ∙ began)
    ∙ ap (λ xs. (old ++ ins) ++ (journal ++ xs)) went
    ∙ append_assoc old ins (journal ++ outs)

lines_off : (old ins journal begun done new : List TraceLine) (a c : Bool) → a ≡ false → c ≡ false → begun ≡ old ++ if_tracing a ins → done ≡ begun → new ≡ done ++ if_tracing c journal → new ≡ old
lines_off old ins journal begun done new a c off_a off_c first same last =
    last ∙ sym (kept_off c done journal off_c) ∙ same ∙ first ∙ sym (kept_off a old ins off_a)

-- what was told in the step
all_behind : (xs ys : List Event) → drop (length xs) (xs ++ ys) ≡ ys
all_behind [] ys = refl
all_behind (x ∷ xs) ys = all_behind xs ys

told_in : (old events more : List Event) → events ≡ old ++ more → drop (length old) events ≡ more
told_in old events more is = ap (drop (length old)) is ∙ all_behind old more

parts_told : (ins : List Line) (events : List Event) (outs : List Line) → all_told (ins ++ map Journal events ++ outs) ≡ all_told ins ++ (all_told (map Journal events) ++ all_told outs)
parts_told ins events outs =
    map-append told (ins ++ map Journal events) outs
    ∙ ap (λ xs. xs ++ all_told outs) (map-append told ins (map Journal events))
    ∙ append_assoc (all_told ins) (all_told (map Journal events)) (all_told outs)

pub stepped_is : (s : Site) (c d : WorldParts) (step : Step) (old begun done new : Log) (f : Bool) (from : ℕ) → IsBegun (all_told (lines_in s.tree step (world_in c))) from old begun →
    Does (done_by s.tree (limits_in s) step (world_in c)) s d begun done → IsTold (drop from done.events) done new → IsStepped step (network_of s c old f) (network_of s d new f)
unfolding stepped
stepped_is s c d step old begun done new f from first does last =
    let e : Effect = done_by s.tree (limits_in s) step (world_in c) in
    let happened : done.events ≡ old.events ++ e.events = does.events ∙ ap (λ xs. xs ++ e.events) first.events in
    record {
      world = does.world;
      events = last.events ∙ happened;
      passed = last.passed ∙ does.passed ∙ ap (λ xs. xs ++ e.passed) first.passed;
      left = ap all_left last.left ∙ does.left ∙ ap (λ xs. all_left xs ++ e.left) first.left;
      lines = λ on.
          let these : drop from done.events ≡ e.events = ap (λ (n : ℕ). drop n done.events) (first.before on) ∙ told_in old.events done.events e.events happened in
          let sent : done.outs.items ≡ if_tracing begun.tracing (all_told e.outs) = does.outs ∙ ap (λ xs. xs ++ if_tracing begun.tracing (all_told e.outs)) (first.outs on) in
          let ended : new.lines ≡ done.lines ++ if_tracing done.tracing (all_told (map Journal e.events) ++ done.outs.items) =
          last.lines ∙ ap (λ (es : List Event). done.lines ++ if_tracing done.tracing (all_told (map Journal es) ++ done.outs.items)) these in
          lines_on old.lines (all_told (lines_in s.tree step (world_in c))) (all_told (map Journal e.events)) (all_told e.outs) begun.lines done.lines new.lines done.outs.items old.tracing begun.tracing
          done.tracing on (first.tracing ∙ on) (does.tracing ∙ first.tracing ∙ on) first.lines does.lines sent ended
          ∙ ap (λ xs. old.lines ++ xs) (sym (parts_told (lines_in s.tree step (world_in c)) e.events e.outs));
      silent = λ off.
          lines_off old.lines (all_told (lines_in s.tree step (world_in c))) (all_told (map Journal (drop from done.events)) ++ done.outs.items) begun.lines done.lines new.lines old.tracing done.tracing off
          (does.tracing ∙ first.tracing ∙ off) first.lines does.lines last.lines;
      same = record { site = refl; failed = refl; tracing = last.tracing ∙ does.tracing ∙ first.tracing };
    }

-- there are as many events at its end
enough_with : (from : ℕ) (old es more : List Event) → from ≤ length old → es ≡ old ++ more → from ≤ length es
enough_with from old es more few is = subst (λ (xs : List Event). from ≤ length xs) (sym is) (subst (λ n. from ≤ n) (sym (length-append old more)) (omega (arith, few)))

pub enough : (s : Site) (c d : WorldParts) (e : Effect) (ins : List TraceLine) (from : ℕ) (old begun done : Log) → IsBegun ins from old begun → Does e s d begun done → from ≤ length done.events
enough s c d e ins from old begun done first does = enough_with from old.events done.events e.events first.few (does.events ∙ ap (λ xs. xs ++ e.events) first.events)

-- and it is live behind it
pub makes : (s : Site) (c d : WorldParts) (step : Step) (old begun done new : Log) (from : ℕ) → StaysLive s c → Can s.tree (world_in c) step → HasBytes step → HasVidIn step →
    (d.bridge.control.failed ≡ false → (n : ℕ) → ((world_in d).control.askers n).serial < 2 ^ 40) → IsBegun (all_told (lines_in s.tree step (world_in c))) from old begun →
    Does (done_by s.tree (limits_in s) step (world_in c)) s d begun done → IsTold (drop from done.events) done new → Makes step s c d old new
makes s c d step old begun done new from stays can bytes vid low first does last =
    record { may = record { can = can; has = bytes; vid = vid }; live = stays step d begun done can bytes vid (low does.at.awake) does; made = λ failed. stepped_is s c d step old begun done new failed from first does last }

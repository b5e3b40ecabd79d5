-- Counts by port: with what was told more, and at the end.
use Rattle.std.proofs.Common.{◌≡◌, ℕ, zero, suc, ◌+◌, ◌*◌, ◌^◌, ◌<◌, ◌≤◌, ◌==◌, ◌&&◌, not, Bool, true, false, cond, List, [], ◌∷◌, ◌++◌, length, get_or, filter, Option, Some, None, IfSome, refl, ap, sym, subst, ◌∙◌, arith, append_assoc}
use Rattle.std.specs.Prelude.{sum_by, if◌then◌else◌}
use Rattle.std.specs.List.{AllByRecursion, range_with_len}
use Rattle.std.proofs.lemmas.List.Sums.{sum_by-append, sum_by-cons}
use Rattle.exb_model.specs.declared.event.Event.{Event}
use Rattle.exb_model.specs.declared.event.Event.TheVariants as event
use Rattle.exb_model.specs.Configuration.{Bridge}
use Rattle.exb_model.specs.FlatBridge.{Sent, flat}
use Rattle.exb_model.specs.History.{Basis, ◌then◌}
use Rattle.exb_model.specs.Ports.{below}
use Rattle.exb_model.specs.Setup.{Limits}
use Rattle.exb_model.specs.Texts.{Counts, counted, with_left as frames_more_in_all}
use Rattle.exb_model.specs.Tree.{Shape, external_ports, is_external}
use Rattle.exb_counters.specs.declared.counters.Counters.{Counters}
use Rattle.exb_counters.specs.declared.counters.Counts5.{Counts5}
use Rattle.exb_counters.specs.Counters.{count_line, count_lines, count_text, dropped_at, ignored_at, ignored_by, octets_of, port_counts, relayed_at, relayed_by}
use Rattle.exb_counters.specs.CounterUpdates.{HasPort, FitsCounts, counts_at, drops_in, first_or_true, nothing, plus_events, rest_after}
use Rattle.exb_world_spec.specs.Runs.PassedFrames.{StepsTellPassed, passed_by, passed_in, passed_over}
use Rattle.exb_world_spec.specs.Settling.{run}
use Rattle.exb_world_spec.specs.Steps.{stepped}
use Rattle.exb_world_spec.specs.Worlds.{World, Step, Left as Leaving, left_at}
use Rattle.exb_outbox.specs.declared.log.Left.{Left}
use Rattle.exb_bridge.specs.BridgeWorlds.{all_left}
use Rattle.exb_journal.specs.Tallies.{counts_of, nothing_counted}
use Rattle.exb_net_laws.specs.CountersGoOn.{CountsGoOn}
use Rattle.exb_outputs.specs.declared.run_counts.RunCounts.{RunCounts}
use Rattle.exb_outputs.specs.Counts.{counts_with, AreCounted, AreCountsOf, CanCountAt, CountsOn, GoTogether, IsCounted, port_counts_so_far}
use Rattle.exb_outputs.specs.declared.outputs.Outputs.{Outputs}
use Rattle.exb_outputs.specs.Manifests.{Listed}
use Rattle.exb_outputs.specs.CaptureSizes.{HasSent, capture_size, SameCaptures}
use Rattle.exb_outputs.proofs.HistoryCounts.{count_events}
use Rattle.exb_outputs.proofs.TextUpdates.{counts-more}

-- ---- counts of a port
pub fives : (c d : Counts5) → c.relayed ≡ d.relayed → c.dropped ≡ d.dropped → c.ignored ≡ d.ignored → c.left ≡ d.left → c.octets ≡ d.octets → c ≡ d
fives c d r p g l o = λ i. record { relayed = r i; dropped = p i; ignored = g i; left = l i; octets = o i }

pub counts_same : (manifest : Listed) (old new : Outputs) (c : Counters) (q : ℕ) → q < 4160 → is_external manifest.tree q ≡ true → SameCaptures manifest old new → counts_with manifest new c q ≡ counts_with manifest old c q
counts_same manifest old new c q low out same =
    let s = same.each q low out in
    let frames = s.0 in
    let size = s.1 in
    fives (counts_with manifest new c q) (counts_with manifest old c q) refl refl refl frames (omega (arith, frames, size))

-- ---- what was said goes with what was told
pub none_together : GoTogether [] []
unfolding drops_in
none_together more said q = omega arith

one_together : (b : Bridge) (e : Event) (es : List Event) (bs : List Bool) → GoTogether es bs → GoTogether (e ∷ es) (passed_by b e ++ bs)
unfolding drops_in
one_together b (event.Relay p n t f) es bs rest more said q = (let r = rest more said q in omega (arith, r))
one_together b (event.Ignored p n) es bs rest more said q = (let r = rest more said q in omega (arith, r))
one_together b (event.Tick s) es bs rest more said q = (let r = rest more said q in omega (arith, r))
one_together b (event.Commit n) es bs rest more said q = (let r = rest more said q in omega (arith, r))
one_together b (event.Refuse n x) es bs rest more said q = (let r = rest more said q in omega (arith, r))
one_together b (event.Up p) es bs rest more said q = (let r = rest more said q in omega (arith, r))
one_together b (event.NoUp p x) es bs rest more said q = (let r = rest more said q in omega (arith, r))
one_together b event.Settled es bs rest more said q = (let r = rest more said q in omega (arith, r))

step_together : (b : Bridge) (es : List Event) → GoTogether es (passed_in b es)
step_together b [] = none_together
step_together b (e ∷ es) = one_together b e es (passed_in b es) (step_together b es)

then_together : (es fs : List Event) (bs cs : List Bool) → GoTogether es bs → GoTogether fs cs → GoTogether (es ++ fs) (bs ++ cs)
then_together es fs bs cs a b more said q =
    let whole : drops_in ((es ++ fs) ++ more) ((bs ++ cs) ++ said) q ≡ drops_in (es ++ (fs ++ more)) (bs ++ (cs ++ said)) q =
    ap (λ (xs : List Event). drops_in xs ((bs ++ cs) ++ said) q) (append_assoc es fs more) ∙ ap (λ (ps : List Bool). drops_in (es ++ (fs ++ more)) ps q) (append_assoc bs cs said) in
    let first = a (fs ++ more) (cs ++ said) q in
    let second = b more said q in
    let front = a fs cs q in
    omega (arith, whole, first, second, front)

pub run_together : StepsTellPassed → (t : Shape) (l : Limits) (steps : List Step) (w : World) → GoTogether (run t l steps w).events (run t l steps w).passed
unfolding run
run_together law t l [] w = none_together
run_together law t l (step ∷ steps) w =
    then_together (stepped t l step w).events (run t l steps (stepped t l step w).world).events (stepped t l step w).passed (run t l steps (stepped t l step w).world).passed
    (subst (GoTogether (stepped t l step w).events) (sym (law t l w step)) (step_together w.control.bridge (stepped t l step w).events))
    (run_together law t l steps (stepped t l step w).world)

-- ---- a segment more
pub port_more : (told more : List Event) (passed said : List Bool) (q : ℕ) → GoTogether told passed →
    plus_events more said q (plus_events told passed q nothing) ≡ plus_events (told ++ more) (passed ++ said) q nothing
port_more told more passed said q together =
    fives (plus_events more said q (plus_events told passed q nothing)) (plus_events (told ++ more) (passed ++ said) q nothing)
    (let s = sum_by-append (λ (e : Event). relayed_by e q) told more in omega (arith, s))
    (let s = together more said q in omega (arith, s))
    (let s = sum_by-append (λ (e : Event). ignored_by e q) told more in omega (arith, s))
    refl refl

pub port_none : (q : ℕ) → plus_events [] [] q nothing ≡ nothing
unfolding drops_in
port_none q = fives (plus_events [] [] q nothing) nothing refl refl refl refl refl

-- ---- how much
at_most : (b : Bool) → cond b 1 0 ≤ 1
at_most true = omega arith
at_most false = omega arith

pub relayed_few : (es : List Event) (q : ℕ) (c : Counts) → sum_by (λ (e : Event). relayed_by e q) es + c.relayed ≤ (count_events c es).relayed
relayed_few [] q c = omega arith
relayed_few (event.Relay p n t f ∷ es) q c = (let rest = relayed_few es q (counted (event.Relay p n t f) c) in let s = sum_by-cons (λ (e : Event). relayed_by e q) (event.Relay p n t f) es in let one = at_most (p == q) in omega (arith, rest, s, one))
relayed_few (event.Ignored p n ∷ es) q c = (let rest = relayed_few es q (counted (event.Ignored p n) c) in let s = sum_by-cons (λ (e : Event). relayed_by e q) (event.Ignored p n) es in omega (arith, rest, s))
relayed_few (event.Tick x ∷ es) q c = (let rest = relayed_few es q c in let s = sum_by-cons (λ (e : Event). relayed_by e q) (event.Tick x) es in omega (arith, rest, s))
relayed_few (event.Commit n ∷ es) q c = (let rest = relayed_few es q (counted (event.Commit n) c) in let s = sum_by-cons (λ (e : Event). relayed_by e q) (event.Commit n) es in omega (arith, rest, s))
relayed_few (event.Refuse n x ∷ es) q c = (let rest = relayed_few es q (counted (event.Refuse n x) c) in let s = sum_by-cons (λ (e : Event). relayed_by e q) (event.Refuse n x) es in omega (arith, rest, s))
relayed_few (event.Up p ∷ es) q c = (let rest = relayed_few es q c in let s = sum_by-cons (λ (e : Event). relayed_by e q) (event.Up p) es in omega (arith, rest, s))
relayed_few (event.NoUp p x ∷ es) q c = (let rest = relayed_few es q c in let s = sum_by-cons (λ (e : Event). relayed_by e q) (event.NoUp p x) es in omega (arith, rest, s))
relayed_few (event.Settled ∷ es) q c = (let rest = relayed_few es q c in let s = sum_by-cons (λ (e : Event). relayed_by e q) event.Settled es in omega (arith, rest, s))

pub ignored_few : (es : List Event) (q : ℕ) (c : Counts) → sum_by (λ (e : Event). ignored_by e q) es + c.ignored ≤ (count_events c es).ignored
ignored_few [] q c = omega arith
ignored_few (event.Relay p n t f ∷ es) q c = (let rest = ignored_few es q (counted (event.Relay p n t f) c) in let s = sum_by-cons (λ (e : Event). ignored_by e q) (event.Relay p n t f) es in omega (arith, rest, s))
ignored_few (event.Ignored p n ∷ es) q c = (let rest = ignored_few es q (counted (event.Ignored p n) c) in let s = sum_by-cons (λ (e : Event). ignored_by e q) (event.Ignored p n) es in let one = at_most (p == q) in omega (arith, rest, s, one))
ignored_few (event.Tick x ∷ es) q c = (let rest = ignored_few es q c in let s = sum_by-cons (λ (e : Event). ignored_by e q) (event.Tick x) es in omega (arith, rest, s))
ignored_few (event.Commit n ∷ es) q c = (let rest = ignored_few es q (counted (event.Commit n) c) in let s = sum_by-cons (λ (e : Event). ignored_by e q) (event.Commit n) es in omega (arith, rest, s))
ignored_few (event.Refuse n x ∷ es) q c = (let rest = ignored_few es q (counted (event.Refuse n x) c) in let s = sum_by-cons (λ (e : Event). ignored_by e q) (event.Refuse n x) es in omega (arith, rest, s))
ignored_few (event.Up p ∷ es) q c = (let rest = ignored_few es q c in let s = sum_by-cons (λ (e : Event). ignored_by e q) (event.Up p) es in omega (arith, rest, s))
ignored_few (event.NoUp p x ∷ es) q c = (let rest = ignored_few es q c in let s = sum_by-cons (λ (e : Event). ignored_by e q) (event.NoUp p x) es in omega (arith, rest, s))
ignored_few (event.Settled ∷ es) q c = (let rest = ignored_few es q c in let s = sum_by-cons (λ (e : Event). ignored_by e q) event.Settled es in omega (arith, rest, s))

and_most : (b c : Bool) → cond (b && c) 1 0 ≤ cond b 1 0
and_most true true = omega arith
and_most true false = omega arith
and_most false c = omega arith

pub drops_few : (es : List Event) (said : List Bool) (q : ℕ) → drops_in es said q ≤ sum_by (λ (e : Event). relayed_by e q) es
unfolding drops_in
drops_few [] said q = omega arith
drops_few (event.Relay p n t f ∷ es) said q =
    (let rest = drops_few es (rest_after (event.Relay p n t f) said) q in let s = sum_by-cons (λ (e : Event). relayed_by e q) (event.Relay p n t f) es in
    let one = and_most (p == q) (not (first_or_true said)) in omega (arith, rest, s, one))
drops_few (event.Ignored p n ∷ es) said q = (let rest = drops_few es said q in let s = sum_by-cons (λ (e : Event). relayed_by e q) (event.Ignored p n) es in omega (arith, rest, s))
drops_few (event.Tick x ∷ es) said q = (let rest = drops_few es said q in let s = sum_by-cons (λ (e : Event). relayed_by e q) (event.Tick x) es in omega (arith, rest, s))
drops_few (event.Commit n ∷ es) said q = (let rest = drops_few es said q in let s = sum_by-cons (λ (e : Event). relayed_by e q) (event.Commit n) es in omega (arith, rest, s))
drops_few (event.Refuse n x ∷ es) said q = (let rest = drops_few es said q in let s = sum_by-cons (λ (e : Event). relayed_by e q) (event.Refuse n x) es in omega (arith, rest, s))
drops_few (event.Up p ∷ es) said q = (let rest = drops_few es said q in let s = sum_by-cons (λ (e : Event). relayed_by e q) (event.Up p) es in omega (arith, rest, s))
drops_few (event.NoUp p x ∷ es) said q = (let rest = drops_few es said q in let s = sum_by-cons (λ (e : Event). relayed_by e q) (event.NoUp p x) es in omega (arith, rest, s))
drops_few (event.Settled ∷ es) said q = (let rest = drops_few es said q in let s = sum_by-cons (λ (e : Event). relayed_by e q) event.Settled es in omega (arith, rest, s))

-- each frame is short, and so are those of a port together
pub octets_few : (q : ℕ) (xs : List Leaving) → ((k : ℕ) (d : Leaving) → k < length xs → length (get_or xs k d).bytes ≤ 9220) → octets_of (left_at q xs) ≤ 9220 * length (left_at q xs)
octets_few q [] short = omega arith
octets_few q (x ∷ xs) short = by_port (x.port == q) (octets_few q xs (λ k d low. short (suc k) d (omega (arith, low))))
  where
    by_port : (b : Bool) → octets_of (left_at q xs) ≤ 9220 * length (left_at q xs) →
        octets_of (if b then (x.moment, x.bytes) ∷ left_at q xs else left_at q xs) ≤ 9220 * length (if b then (x.moment, x.bytes) ∷ left_at q xs else left_at q xs)
    by_port true r = (let s = sum_by-cons (λ (y : Sent). length y.1) (x.moment, x.bytes) (left_at q xs) in let own = short 0 x (omega arith) in omega (arith, s, own, r))
    by_port false r = r

-- ---- at the end
module _ (t : Shape) (b : Basis) (told : List Event) (passed : List Bool) (gone : List Leaving) (law : CountsGoOn) (said : passed ≡ passed_over b [] told)
    (sent : (q : ℕ) → is_external t q ≡ true → left_at q gone ≡ flat b ([] then told) q) where
  port_end : (q : ℕ) → is_external t q ≡ true → port_counts_so_far told passed gone q ≡ port_counts b ([] then told) q
  unfolding relayed_at dropped_at ignored_at
  port_end q out =
      let on = law b [] told q in
      let relayed = on.relayed in
      let dropped = on.dropped in
      let ignored = on.ignored in
      let drops = ap (λ (bs : List Bool). drops_in told bs q) said in
      let at = sent q out in
      let size = ap (λ (xs : List Sent). length xs) at in
      let bytes = ap octets_of at in
      fives (port_counts_so_far told passed gone q) (port_counts b ([] then told) q) (omega (arith, relayed)) (omega (arith, dropped, drops)) (omega (arith, ignored)) (omega (arith, size)) (omega (arith, bytes))

  same_lines : (f g : ℕ → Counts5) (qs : List ℕ) → AllByRecursion (λ q. f q ≡ g q) qs → count_lines f qs ≡ count_lines g qs
  same_lines f g [] all = refl
  same_lines f g (q ∷ qs) all = ap (λ (c : Counts5). count_line q c ++ count_lines f qs) all.0 ∙ ap (λ (ls : List ℕ). count_line q (g q) ++ ls) (same_lines f g qs all.1)

  in_range : (P : ℕ → Type 0) (test : ℕ → Bool) (a n : ℕ) → ((q : ℕ) → q < a + n → test q ≡ true → P q) → AllByRecursion P (filter test (range_with_len a n))
  in_range P test a zero each = tt
  in_range P test a (suc n) each = by_test (test a) refl (in_range P test (a + 1) n (λ q low passes. each q (omega (arith, low)) passes))
    where
      by_test : (c : Bool) → test a ≡ c → AllByRecursion P (filter test (range_with_len (a + 1) n)) → AllByRecursion P (cond (test a) (a ∷ filter test (range_with_len (a + 1) n)) (filter test (range_with_len (a + 1) n)))
      by_test true e rest = rw e ((each a (omega arith) e, rest))
      by_test false e rest = rw e rest

  pub counts_end : (tree : Shape) → tree ≡ t → (ports : ℕ → Counts5) → ((q : ℕ) → q < 4160 → is_external tree q ≡ true → ports q ≡ port_counts_so_far told passed gone q) →
      count_lines ports (external_ports tree) ≡ count_text t b ([] then told)
  unfolding count_text external_ports below
  counts_end tree same ports are =
      same_lines ports (port_counts b ([] then told)) (filter (is_external tree) (below 4160))
      (in_range (λ q. ports q ≡ port_counts b ([] then told) q) (is_external tree) 0 4160 (λ q low out. are q low out ∙ port_end q (ap (λ (s : Shape). is_external s q) (sym same) ∙ out)))
      ∙ ap (λ (s : Shape). count_lines (port_counts b ([] then told)) (filter (is_external s) (below 4160))) same

-- a port of which counters and captures have counted all
pub port_whole : (manifest : Listed) (o : Outputs) (c : Counters) (told : List Event) (passed : List Bool) (gone : List Leaving) (q : ℕ) → q < 4160 → is_external manifest.tree q ≡ true → counts_at c q ≡ plus_events told passed q nothing
    → HasSent manifest o (λ p. left_at p gone) → capture_size (left_at q gone) < 2 ^ 64 → counts_with manifest o c q ≡ port_counts_so_far told passed gone q
port_whole manifest o c told passed gone q low out came sent room =
    let own = sent.each q low out room in
    let frames = own.0 in
    let size = own.1 in
    fives (counts_with manifest o c q) (port_counts_so_far told passed gone q) (ap (λ (k : Counts5). k.relayed) came) (ap (λ (k : Counts5). k.dropped) came) (ap (λ (k : Counts5). k.ignored) came)
    (omega (arith, frames)) (omega (arith, frames, size))

-- ---- what a run tells can be counted, and is
pub ports-can : (manifest : Listed) (ports : Option Counters) (told more : List Event) (passed said : List Bool) → AreCounted manifest ports told passed → GoTogether told passed →
    ((q : ℕ) → FitsCounts (plus_events (told ++ more) (passed ++ said) q nothing)) → IfSome ports (CanCountAt more said)
ports-can manifest None told more passed said are together fits = tt
ports-can manifest (Some c) told more passed said are together fits =
    λ q there. subst FitsCounts (sym (ap (plus_events more said q) (are.2 q there) ∙ port_more told more passed said q together)) (fits q)

ports-on : (manifest : Listed) (old new : Option Counters) (told more : List Event) (passed said : List Bool) → CountsOn old new more said → GoTogether told passed →
    AreCounted manifest old told passed → AreCounted manifest new (told ++ more) (passed ++ said)
ports-on manifest None None told more passed said on together are = are
ports-on manifest None (Some d) told more passed said on together are = absurd on
ports-on manifest (Some c) None told more passed said on together are = absurd on
ports-on manifest (Some c) (Some d) told more passed said on together are =
    let same = on.0 in (
      are.0,
      (λ q low out. (let h = are.1 q low out in omega (arith, h, same))),
      (λ q there.
          let was : HasPort c q = omega (arith, there, same) in
          on.1 q was ∙ ap (plus_events more said q) (are.2 q was) ∙ port_more told more passed said q together),
    )

pub counted-on : (manifest : Listed) (c d : RunCounts) (told more : List Event) (passed said : List Bool) (gone : List Leaving) (xs : List Left) →
    counts_of d.tally ≡ frames_more_in_all (length (all_left xs)) (count_events (counts_of c.tally) more) → CountsOn c.ports d.ports more said → GoTogether told passed →
    IsCounted manifest c told passed gone → IsCounted manifest d (told ++ more) (passed ++ said) (gone ++ all_left xs)
counted-on manifest c d told more passed said gone xs tally ports together are = record {
  tally = tally ∙ ap (λ (b : Counts). frames_more_in_all (length (all_left xs)) (count_events b more)) are.tally ∙ counts-more told more gone xs;
  ports = ports-on manifest c.ports d.ports told more passed said ports together are.ports;
}

-- before anything is told
pub counted-none : (manifest : Listed) (c : RunCounts) → counts_of c.tally ≡ nothing_counted → AreCounted manifest c.ports [] [] → IsCounted manifest c [] [] []
counted-none manifest c tally ports = record { tally = tally; ports = ports }

pub asked_for : (b : Bool) → not b ≡ false → b ≡ true
asked_for true e = refl
asked_for false e = sym e

pub unasked : (b : Bool) → not b ≡ true → b ≡ false
unasked true e = sym e
unasked false e = refl

pub counts-of : (manifest : Listed) (ports : Option Counters) (told : List Event) (passed : List Bool) → AreCounted manifest ports told passed → AreCountsOf manifest ports
counts-of manifest None told passed are = are
counts-of manifest (Some c) told passed are = (are.0, are.1)

pub ports-new : (manifest : Listed) (made : Counters) → manifest.options.counters ≡ true → ((q : ℕ) → q < 4160 → is_external manifest.tree q ≡ true → HasPort made q) → ((q : ℕ) → counts_at made q ≡ nothing) →
    AreCounted manifest (Some made) [] []
ports-new manifest made asked ports none = (asked, ports, λ q there. none q ∙ sym (port_none q))

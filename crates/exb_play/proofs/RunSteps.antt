-- A run that goes on by what was gathered.
use Rattle.std.proofs.Common.{◌≡◌, ℕ, ◌+◌, ◌-◌, ◌≤◌, ◌<◌, ◌^◌, List, ◌∷◌, [], ◌++◌, Ok, drop, take, refl, ap, sym, subst, ◌∙◌, arith, append_assoc}
use Rattle.std.specs.Prelude.{Option, None, Some, All}
use Rattle.std.proofs.lemmas.List.{append-nil}
use Rattle.exb_model.specs.declared.setup.Setup.{Setup}
use Rattle.exb_model.specs.declared.setup.Timed.{Timed}
use Rattle.exb_model.specs.declared.arrival.Arrival.{Arrival}
use Rattle.exb_model.specs.Input.{Coming, Input, Segment, segment_of, seconds_after, segments, segments_after}
use Rattle.exb_model.specs.Setup.{shape_of}
use Rattle.exb_model.specs.Texts.{Counts}
use Rattle.exb_trace_spec.specs.WritableLines.{HasBytes}
use Rattle.exb_trace_spec.specs.RoundTrips.{IsOfNumbers}
use Rattle.exb_world_spec.specs.Worlds.{left_at}
use Rattle.exb_timeline.specs.MergeOrder.{still_to_come}
use Rattle.exb_timeline.specs.declared.bridge_timeline.Timeline.{Timeline}
use Rattle.exb_timeline.specs.Timelines.{IsProgramme, played_with}
use Rattle.exb_timeline.specs.CaptureMerges.{ids_in}
use Rattle.exb_world_laws.specs.Runs.SegmentRuns.{RunsAreFew, RunsAreUnderWay}
use Rattle.exb_world.specs.WorldContracts.{Network}
use Rattle.exb_schedule.specs.SegmentRuns.{IsSegment, letters_in}
use Rattle.exb_shelf.specs.Files.{Files}
use Rattle.exb_outputs.specs.declared.outputs.Outputs.{Outputs}
use Rattle.exb_outputs.specs.InputsApart.{AreApart}
use Rattle.exb_outputs.specs.CaptureSizes.{capture_size}
use Rattle.exb_outputs.specs.WrittenTexts.{first_text, pieces_of}
use Rattle.exb_outputs.proofs.UntouchedInputs.{apart-read, ready-read}
use Rattle.exb_outputs.proofs.WrittenTexts.{kinds_same}
use Rattle.exb_outputs.proofs.CaptureSizes.{counted_of}
use Rattle.exb_outputs.specs.declared.run_counts.RunCounts.{RunCounts}
use Rattle.exb_outputs.specs.Counts.{IsCounted}
use Rattle.exb_outputs.specs.KindTexts.{text_so_far}
use Rattle.exb_outputs.proofs.PortCounts.{counted-on, counts-of, none_together}
use Rattle.exb_outputs.proofs.TextUpdates.{text-first, text-more}
use Rattle.exb_play.specs.Disks.{Disk, Plays, Reads}
use Rattle.exb_play.specs.declared.feed.Feed.{Feed}
use Rattle.exb_play.specs.BridgeRuns.{CanBeKept, HasTold, IsCutOff, IsTold, Player, Run, untold, ◌with◌}
use Rattle.exb_play.specs.RunInvariants.{CanBegin, CanBePlayed, CanGoOn, CountsLog, HasPlayedAll, IsCleared, IsCutWithin, IsGathered, IsOneMore, IsOpened, LeadsOn, NothingIsLeft, Stands, WritesLog}
use Rattle.exb_play.proofs.EarlyEnds.{cut_before}
use Rattle.exb_play.proofs.SegmentOrder.{can-play, commands-are, follows, going-on, is-segment, leading-on, letters-are, taken}
use Rattle.exb_play.proofs.UntouchedFiles.{apart-written, files-read, leads-written, programme-written, told-read}
use Rattle.exb_play.proofs.PortCounts.{sizes-fit}
use Rattle.exb_play.proofs.SegmentLemmas.{segments_after-end}
use Rattle.exb_play.proofs.TakenEvents.{HasCommands, came_by, comes-ids}
use Rattle.exb_play.proofs.ToldSegments.{arrivals-low, cleared-played}

module _ (tells : Type 0) (r : Run) (p : Player) (last : Option ℕ) (second from : ℕ) (f : Feed) (k : CanGoOn tells r p last second from f) where
  -- so many seconds pass before it
  abbrev Pass : ℕ → Type 0
  Pass seconds = seconds ≡ seconds_after last second

  -- the segment that comes next
  abbrev pub the_next : Segment
  the_next = segment_of (seconds_after last second) (came_by (k.got.first ∷ k.got.more))

  abbrev has : HasCommands r.input k.old f.programme (k.got.first ∷ k.got.more)
  has = taken tells r p last second from f k

  -- the commands that were taken with it
  abbrev AreTaken : List Timed → Type 0
  AreTaken cs = cs ≡ take (f.programme.taken - from) (drop from f.programme.commands.now)

  -- so many commands were taken before
  pub from-low : from ≤ f.programme.taken
  from-low = let same = k.from_is in let more = has.many in omega (arith, same, more)

  commands : (cs : List Timed) → AreTaken cs → cs ≡ has.given
  commands cs is = is ∙ ap (λ n. take (f.programme.taken - n) (drop n f.programme.commands.now)) k.from_is ∙ commands-are tells r p last second from f k

  segment-is : (cs : List Timed) → AreTaken cs → (frames : List Arrival) → frames ≡ f.gathered.items → IsSegment r.input the_next (seconds_after last second) cs frames
  segment-is cs is frames are = is-segment tells r p last second from f k cs (commands cs is) frames are

  -- it can be played
  pub playable : RunsAreUnderWay → (seconds : ℕ) → Pass seconds → (cs : List Timed) → AreTaken cs → (frames : List Arrival) → frames ≡ f.gathered.items → CanBePlayed tells r p seconds cs frames
  playable law seconds pass cs is frames are =
      subst (λ (k : ℕ). CanBePlayed tells r p k cs frames) (sym pass)
      (record {
        so_far = k.so_far;
        is = k.is;
        ready = k.ready;
        next = the_next;
        segment = segment-is cs is frames are;
        can = can-play tells r p last second from f k law cs (commands cs is) frames are;
        follows = follows tells r p last second from f k;
      })

  next-leads : tells → LeadsOn p.mode r.input (k.so_far ++ the_next ∷ []) (Some second) p.disk f.programme
  next-leads t = leading-on tells r p last second from f k t (k.leads t)

  -- and then the programme goes on
  pub goes-on : (seconds : ℕ) → Pass seconds → (cs : List Timed) → AreTaken cs → (frames : List Arrival) → frames ≡ f.gathered.items → (n : Network) (c : RunCounts) (o : Outputs) (d : Disk) → Plays tells p.manifest [] p.disk d →
      IsOneMore tells r p (record p { world = n; counted = c; outputs = o; disk = d }) seconds cs frames → Stands tells r (record p { world = n; counted = c; outputs = o; disk = d }) (Some second) f.programme
  goes-on seconds pass cs is frames are n c o d writes more = record {
    so_far = k.so_far ++ the_next ∷ [];
    is = more.told k.so_far the_next (subst (λ (k : ℕ). IsSegment r.input the_next k cs frames) (sym pass) (segment-is cs is frames are)) k.is;
    next = going-on tells r p last second from f k;
    ready = more.ready;
    programme = programme-written tells p.manifest p.disk d f.programme writes k.programme;
    apart = apart-written tells p.manifest p.disk d (ids_in f.programme.captures) writes k.apart;
    leads = λ t. leads-written tells p.mode r.input (k.so_far ++ the_next ∷ []) (Some second) p.manifest p.disk d f.programme t writes k.apart (next-leads t);
  }

  -- or it was cut off
  pub cut-on : tells → (seconds : ℕ) → Pass seconds → (cs : List Timed) → AreTaken cs → (frames : List Arrival) → frames ≡ f.gathered.items → (now : Files) → IsCutWithin tells r p seconds cs frames now → IsCutOff p.mode r p.manifest now
  cut-on t seconds pass cs is frames are now cut =
      let led = next-leads t in
      let rest : List Segment = segments_after p.mode (Some second) (still_to_come (played_with led.streams f.programme)) in
      cut k.so_far rest the_next (led.rest ∙ append_assoc k.so_far (the_next ∷ []) rest) (subst (λ (k : ℕ). IsSegment r.input the_next k cs frames) (sym pass) (segment-is cs is frames are)) k.is

  -- the letters of the commands that are left
  pub letters : (cs : List Timed) → AreTaken cs → letters_in (drop from f.programme.commands.now) ≡ letters_in cs + letters_in (drop f.programme.taken f.programme.commands.now)
  letters cs is =
      ap (λ n. letters_in (drop n f.programme.commands.now)) k.from_is ∙ letters-are tells r p last second from f k
      ∙ ap (λ (xs : List Timed). letters_in xs + letters_in (drop f.programme.taken f.programme.commands.now)) (sym (commands cs is))

-- A run that is opened goes on once what the opening told is written and counted.
pub opened-playing : (tells : Type 0) (r : Run) (p : Player) (q : Timeline) → IsOpened tells r p q → (n : Network) (c : RunCounts) (o : Outputs) (d : Disk) → IsCleared p.world n → CountsLog p.counted c p.world.log →
    WritesLog {X = Unit {0}} tells p.manifest p.disk d p.outputs o p.world.log (Ok tt) → All IsOfNumbers p.world.log.events → All HasBytes p.world.log.lines →
    Stands tells r (record p { world = n; counted = c; outputs = o; disk = d }) None q
opened-playing tells r p q is n c o d cleared counts writes numbers bytes =
    let log = p.world.log in
    let none : List ℕ = [] in
    record {
      so_far = [];
      is = record {
        tree = is.tree;
        told = untold with p.world.log;
        played = cleared-played p.mode r.input [] p.world n (untold with p.world.log) cleared.world cleared.same is.played;
        tracing = cleared.same.tracing ∙ is.tracing;
        numbers = numbers;
        bytes = bytes;
        counted = counted-on p.manifest p.counted c [] p.world.log.events [] p.world.log.passed [] p.world.log.left counts.tally counts.ports none_together is.counted;
        texts = λ t.
            kinds_same p.manifest r.before d.files (pieces_of o) _ (text_so_far log.events (untold with p.world.log).left log.lines []) (text-more [] log.events [] log.left [] log.lines)
            (writes.texts t r.before (text_so_far [] [] [] [])
            (kinds_same p.manifest r.before p.disk.files (pieces_of p.outputs) first_text (text_so_far [] [] [] []) text-first (is.begins.texts t)));
        sent = writes.sent (λ k. []) is.begins.sent;
        quiet = cleared.quiet;
      };
      next = is.begins.next;
      ready = writes.ready;
      programme = programme-written tells p.manifest p.disk d q writes.writes.plays is.begins.programme;
      apart = apart-written tells p.manifest p.disk d (ids_in q.captures) writes.writes.plays is.begins.apart;
      leads = λ t. leads-written tells p.mode r.input [] None p.manifest p.disk d q t writes.writes.plays is.begins.apart (is.begins.leads t);
    }

-- So a world is opened for a run that can begin.
pub begins-opened : (tells : Type 0) (r : Run) (s : Setup) (p : Player) (q : Timeline) → CanBegin tells p.mode r s p.manifest p.disk p.outputs q → p.manifest.tree ≡ shape_of s →
    ((i : Input) → i.setup ≡ s → HasTold p.mode i [] p.world (untold with p.world.log)) → p.world.log.tracing ≡ p.manifest.options.trace → IsCounted p.manifest p.counted [] [] [] → IsOpened tells r p q
begins-opened tells r s p q b tree plays tracing none = record {
  tree = tree ∙ sym (ap shape_of b.setup);
  played = plays r.input b.setup;
  tracing = tracing;
  counted = none;
  begins = record {
    setup = refl;
    texts = b.texts;
    sent = b.sent;
    timely = b.timely;
    next = b.next;
    ready = b.ready;
    programme = b.programme;
    apart = b.apart;
    leads = b.leads;
  };
}

module _ (tells : Type 0) (r : Run) (p : Player) (last : Option ℕ) (q : Timeline) (s : Stands tells r p last q) (d : Disk) (reads : Reads (ids_in q.captures) p.disk d) where
  -- what was gathered behind a run can be played
  pub can-go-on : (second from : ℕ) (f : Feed) → IsGathered tells p.mode p.disk d second q f → IsProgramme d.ids f.programme → from ≡ q.taken → CanGoOn tells r (record p { disk = d }) last second from f
  can-go-on second from f got fine from_is = record {
    so_far = s.so_far;
    old = q;
    given = p.disk;
    is = told-read tells r p s.so_far (ids_in q.captures) d reads s.is;
    next = s.next;
    leads = s.leads;
    got = got;
    ready = ready-read p.manifest p.disk.ids d.ids p.outputs q.captures.sources.items s.ready s.programme.opened.each reads.ids;
    programme = fine;
    apart =
        subst (AreApart p.manifest d.ids) (sym (comes-ids q f.programme (got.first ∷ got.more) got.comes))
        (apart-read p.manifest p.disk.ids d.ids (ids_in q.captures) (ids_in q.captures) reads.ids s.apart);
    from_is = from_is;
  }

  -- before what comes next was read, it was cut off
  pub cut-reading : tells → IsCutOff p.mode r p.manifest d.files
  cut-reading t = subst (IsCutOff p.mode r p.manifest) (sym (files-read (ids_in q.captures) p.disk d reads)) (cut_before tells r p s.so_far _ t s.is (s.leads t).rest)

  -- nothing is left, so these segments are all
  all-segments : tells → NothingIsLeft p.disk q → segments p.mode r.input ≡ s.so_far
  all-segments t none =
      let led = s.leads t in
      led.rest ∙ ap (λ (xs : List Coming). s.so_far ++ segments_after p.mode last xs) (none led.streams led.replays) ∙ ap (λ (ss : List Segment). s.so_far ++ ss) (segments_after-end p.mode last)
      ∙ append-nil s.so_far

  -- the run stands after these segments, and the bytes of each capture are few
  abbrev ToldWithin : List Segment → Type 0
  ToldWithin so_far = (is : IsTold tells r (record p { disk = d }) so_far) × ((k : ℕ) → capture_size (left_at k is.told.left) < 2 ^ 64)

  -- so all was played
  pub all-played : (tells → NothingIsLeft p.disk q) → RunsAreFew → RunsAreUnderWay → HasPlayedAll tells r (record p { disk = d })
  all-played none few way =
      let is = s.is in
      let room = sizes-fit p.mode r.input s.so_far p.world is.told few way (let most = s.next.few_bytes in omega (arith, most)) is.played in
      record {
        ready = ready-read p.manifest p.disk.ids d.ids p.outputs q.captures.sources.items s.ready s.programme.opened.each reads.ids;
        few =
            (let low = arrivals-low p.mode r.input s.so_far p.world is.told few (let most = s.next.few_bytes in omega (arith, most)) is.played in
            let relayed = ap (λ (x : Counts). x.relayed) is.counted.tally in
            let ignored = ap (λ (x : Counts). x.ignored) is.counted.tally in
            omega (arith, low, relayed, ignored));
        counted = counts-of p.manifest p.counted.ports is.told.events is.told.passed is.counted.ports;
        sent = counted_of p.manifest p.outputs (λ k. left_at k is.told.left) room is.sent;
        told = λ t.
            (let all : ToldWithin (segments p.mode r.input) = subst ToldWithin (sym (all-segments t (none t))) (told-read tells r p s.so_far (ids_in q.captures) d reads is, room) in
            record { is = all.0; room = all.1 });
        kept = λ t. subst (λ (ss : List Segment). CanBeKept ss) (sym (all-segments t (none t))) s.next.kept;
      }

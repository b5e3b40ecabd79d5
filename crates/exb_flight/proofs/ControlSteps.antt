-- The steps of the system of changes, but for executing, keep all facts.
use Rattle.std.proofs.Common.{◌≡◌, ℕ, ◌+◌, ◌<◌, ◌≤◌, ◌==◌, ◌||◌, ◌++◌, cond, Bool, true, false, List, [], ◌∷◌, Option, Some, None, refl, sym, ◌∙◌, ap, subst, inl, inr, arith, eq-eqb}
use Rattle.std.proofs.lemmas.Bool.{cases_eq, ne_eqb, false≢true}
use Rattle.exb_model.specs.declared.command.Command.{Command}
use Rattle.exb_model.specs.declared.event.Event.{Event}
use Rattle.exb_model.specs.Tree.{Shape, device, on, trunk}
use Rattle.exb_model.specs.Setup.{Limits}
use Rattle.exb_model.specs.History.{Basis, ◌then◌, bridge_after}
use Rattle.exb_model.specs.FlatBridge.{flat}
use Rattle.exb_csp.specs.declared.message.Response.{Response}
use Rattle.exb_csp.specs.declared.message.Message.{Message}
use Rattle.exb_csp.specs.Execution.{ExtenderTables}
use Rattle.exb_csp.specs.declared.session.asker.Taken.{Taken}
use Rattle.exb_csp.specs.Sessions.AskingEnd.{AskerState, beaten}
use Rattle.exb_csp.specs.AllTables.{tables_at}
use Rattle.exb_control_spec.specs.declared.job.Job.TheVariants as job
use Rattle.exb_control_spec.specs.Decisions.{channel_of, decide}
use Rattle.exb_control_spec.specs.Machine.{Work, State, Moved, still, with_asker, goes_on, wakes_by, answered, answered_in, answered_where, beats_in}
use Rattle.exb_model.specs.ETags.{Tag, read_etag}
use Rattle.exb_model.specs.Lists.{is_listed}
use Rattle.exb_control_spec.specs.Plans.HeldNumbers.{Held}
use Rattle.exb_flight.proofs.GroupSets.{goes_on_set, answered_set}
use Rattle.exb_control_spec.specs.Runs.MachineInvariant.{Stands, StandsBy, Works, Rests}
use Rattle.exb_control_spec.specs.Runs.PlannedChanges.{IsSetting, planning}
use Rattle.exb_control_spec.specs.Runs.RequestTargets.{Knows}
use Rattle.exb_control_spec.proofs.Runs.RequestTargets.{steps_know}
use Rattle.exb_control_spec.specs.Runs.Systems.{System, IsStray, answer_message, takes_answer}
use Rattle.exb_control_spec.specs.Runs.Systems as systems
use Rattle.exb_control_spec.proofs.Runs.MachineInvariant.{opened_more, fits_more}
use Rattle.exb_control_spec.proofs.Runs.PlannedChanges.{planned_steps_stand}
use Rattle.exb_control_spec.proofs.Runs.AskerAnswers.{takes, stray_is_still, beat_serial}
use Rattle.exb_flight.specs.Items.{Word, Key, Item, Each, NotFrom, UpTo, words_of, has, leads}
use Rattle.exb_flight.specs.Tree.{Over, itself, IsLink, IsDeep, HasRow}
use Rattle.exb_flight.specs.DownwardFrames.{IsWord}
use Rattle.exb_flight.specs.ChannelPaths.{HasChannels, WaysAreLaid, TopsAreLaid}
use Rattle.exb_flight.specs.ClearedNumbers.{IsCleared, Clears, Deletes}
use Rattle.exb_flight.specs.Flight.{Flight, bridge_of, held_of, work_of, serial_of, key_of, owes, moves}
use Rattle.exb_flight.specs.AllowedSteps.{CanMove}
use Rattle.exb_flight.specs.FlightFacts.{IsOf, AreOf, WorkGood, IsFrom, IsDeleting, IsUp, Words, Even, Facts}
use Rattle.exb_flight.proofs.ItemLists.{each_weaker, each_at, each_two, each_append, up_to_more, has_fresh, leads_has}
use Rattle.exb_flight.proofs.Downward.{clears_none}
use Rattle.exb_flight.proofs.Upward.{deleted}
use Rattle.exb_flight.proofs.ControlMachine.{Goes, goes_on_goes, answered_goes}

some_same : {A : Type 0} (x y : A) → Some x ≡ Some y → x ≡ y
some_same x y e = cc

some_none : {A : Type 0} (x : A) → Some x ≡ None → ⊥
some_none x e = cc

-- ---- the outstanding request stays
pub record Kept (y z : System) : Type 0 where
  pub work : z.state.work ≡ y.state.work
  pub answer : z.answer ≡ y.answer
  pub tables : z.tables ≡ y.tables
  pub held : z.state.held ≡ y.state.held
  pub serials : (n : ℕ) → serial_of z.state n ≡ serial_of y.state n

-- it is answered, or nothing was outstanding: one that is outstanding now has a new serial
pub record Fresh (y z : System) : Type 0 where
  pub answer : z.answer ≡ None
  pub tables : z.tables ≡ y.tables
  pub serials : (n : ℕ) → serial_of y.state n ≤ serial_of z.state n
  pub fresh : (v : Work) → z.state.work ≡ Some v → serial_of y.state v.first.extender < serial_of z.state v.first.extender

module _ (s : Shape) (i : Basis) (w : Flight) (h : Facts s i w) (z : System) (events : List Event) (stands : Stands (planning s) z) (knows : Knows s z.state) (work : WorkGood i z.state.work) (queue : AreOf i z.state.queue)
    (force : bridge_after i (w.history then events) ≡ z.state.bridge) (quiet : (q : ℕ) → flat i (w.history then events) q ≡ flat i w.history q) where
  abbrev next : Flight
  next = record w { system = z; history = w.history then events }

  even_next : z.tables ≡ w.system.tables → Even s i next
  even_next tables q ext =
      ap (λ (all : ℕ → ExtenderTables). w.left q ++ owes s (tables_at all) w.down q) tables ∙ (h.even q ext ∙ sym (quiet q))

  words_next : z.tables ≡ w.system.tables → Words s next
  words_next tables n link = subst (λ (all : ℕ → ExtenderTables). Each (IsWord s (tables_at all) n) (words_of (w.down n))) (sym tables) (h.words n link)

  module _ (k : Kept w.system z) where
    is_kept : Kept w.system z
    is_kept = k

    key_is : (v : Work) → key_of z.state v ≡ key_of w.system.state v
    key_is v = ap (λ (n : ℕ). record { extender = v.first.extender; serial = n }) (k.serials v.first.extender)

    was_deleting : (q : ℕ) → IsDeleting z q → IsDeleting w.system q
    was_deleting q d = record { work = d.work; at_work = sym k.work ∙ d.at_work; response = d.response; answer = sym k.answer ∙ d.answer; port = d.port; request = d.request; here = d.here; place = d.place }

    is_deleting : (q : ℕ) → IsDeleting w.system q → IsDeleting z q
    is_deleting q d = record { work = d.work; at_work = k.work ∙ d.at_work; response = d.response; answer = k.answer ∙ d.answer; port = d.port; request = d.request; here = d.here; place = d.place }

    up_kept : (n : ℕ) (f : Word) → IsUp s w.system n f → IsUp s z n f
    up_kept n f u =
        record {
          tag = u.tag;
          read = u.read;
          outer = u.outer;
          below = u.below;
          some = u.some;
          number =
              elim u.number [
                | inl own ↦ inl (ap (λ (all : ℕ → ExtenderTables). (tables_at all).own f.port) k.tables ∙ own)
                | inr d ↦ inr (is_deleting f.port d.0, ap (λ (g : Held). channel_of s g f.port) k.held ∙ d.1)
              ];
          way = λ m o g. subst (λ (all : ℕ → ExtenderTables). 0 < (tables_at all).own (on s m)) (sym k.tables) (u.way m o g);
        }

    from_kept : (n : ℕ) (f : Word) → IsFrom s w.system n f → IsFrom s z n f
    from_kept n f k =
        let kept : Kept w.system z = is_kept in
        record {
          members = λ tag read high q listed.
              subst (λ (all : ℕ → ExtenderTables). 0 < (tables_at all).own q) (sym kept.tables)
              (k.members tag read high q (subst (λ (g : Held). is_listed (g.set (trunk s n) tag.ecid) q ≡ true) kept.held listed));
          source = k.source;
          others = λ tag read high some q listed own.
              k.others tag read high some q (subst (λ (g : Held). is_listed (g.set (trunk s n) tag.ecid) q ≡ true) kept.held listed)
              (ap (λ (all : ℕ → ExtenderTables). (tables_at all).own q) (sym kept.tables) ∙ own);
        }

    pub facts_kept : Facts s i (record w { system = z; history = w.history then events })
    unfolding was_deleting
    facts_kept =
        record {
          stands = stands;
          knows = knows;
          work = work;
          queue = queue;
          force = force;
          channels = subst (HasChannels s) (sym k.tables) h.channels;
          ways = subst (WaysAreLaid s) (sym k.tables) h.ways;
          tops = subst (TopsAreLaid s) (sym k.tables) h.tops;
          words = words_next k.tables;
          sources = λ n link. each_weaker (IsFrom s w.system n) (IsFrom s z n) (words_of (w.down n)) (λ f u. from_kept n f u) (h.sources n link);
          asked = λ v e none x c.
              subst (λ (y : Key). Clears s w.down y v.first.extender x) (sym (key_is v))
              (h.asked v (sym k.work ∙ e) (sym k.answer ∙ none) x (subst (λ (all : ℕ → ExtenderTables). IsCleared s all v.first x) k.tables c));
          ups = λ n link. each_weaker (IsUp s w.system n) (IsUp s z n) (words_of (w.up n)) (λ f u. up_kept n f u) (h.ups n link);
          answered = λ q d.
              let old = h.answered q (was_deleting q d) in (
                ap (λ (all : ℕ → ExtenderTables). (tables_at all).own q) k.tables ∙ old.0,
                subst (λ (y : Key). Deletes s w.up y d.work.first.extender q) (sym (key_is d.work)) old.1,
              );
          serials = record {
            downward = λ n. up_to_more (serial_of w.system.state) (serial_of z.state) (w.down n) (λ m. let e = k.serials m in omega (arith, e)) (h.serials.downward n);
            upward = λ n. up_to_more (serial_of w.system.state) (serial_of z.state) (w.up n) (λ m. let e = k.serials m in omega (arith, e)) (h.serials.upward n);
            answered = λ v e n there.
                let old = h.serials.answered v (sym k.work ∙ e) n (subst (λ (y : Key). has y (w.up n) ≡ true) (key_is v) there) in
                ((λ none. old.0 (sym k.answer ∙ none)), old.1);
          };
          even = even_next k.tables;
        }

  module _ (k : Fresh w.system z) (stays : (e q : ℕ) → IsDeep s q → 4096 ≤ e → (tables_at w.system.tables).pair e q ≡ true → z.state.held.set (trunk s (device q)) e ≡ w.system.state.held.set (trunk s (device q)) e) (gone : (n : ℕ) → IsLink s n → Each (λ f. IsDeleting w.system f.port → ⊥) (words_of (w.up n))) where
    no_key : (v : Work) → z.state.work ≡ Some v → (items : List Item) → UpTo (serial_of w.system.state) items → has (key_of z.state v) items ≡ false
    no_key v e items up = has_fresh (serial_of w.system.state) (key_of z.state v) items (k.fresh v e) up

    up_fresh : (n : ℕ) (f : Word) → IsUp s w.system n f → (IsDeleting w.system f.port → ⊥) → IsUp s z n f
    up_fresh n f u none =
        record {
          tag = u.tag;
          read = u.read;
          outer = u.outer;
          below = u.below;
          some = u.some;
          number =
              elim u.number [
                | inl own ↦ inl (ap (λ (all : ℕ → ExtenderTables). (tables_at all).own f.port) k.tables ∙ own)
                | inr d ↦ absurd (none d.0)
              ];
          way = λ m o g. subst (λ (all : ℕ → ExtenderTables). 0 < (tables_at all).own (on s m)) (sym k.tables) (u.way m o g);
        }

    from_fresh : (n : ℕ) (f : Word) → IsWord s (tables_at w.system.tables) n f → IsFrom s w.system n f → IsFrom s z n f
    from_fresh n f word old =
        record {
          members = λ tag read high q listed.
              subst (λ (all : ℕ → ExtenderTables). 0 < (tables_at all).own q) (sym k.tables) (old.members tag read high q (back tag read high q listed));
          source = old.source;
          others = λ tag read high some q listed own.
              old.others tag read high some q (back tag read high q listed) (ap (λ (all : ℕ → ExtenderTables). (tables_at all).own q) (sym k.tables) ∙ own);
        }
      where
        back : (tag : Tag) → read_etag f.bytes ≡ Some tag → 4096 ≤ tag.ecid → (q : ℕ) → is_listed (z.state.held.set (trunk s n) tag.ecid) q ≡ true → is_listed (w.system.state.held.set (trunk s n) tag.ecid) q ≡ true
        back tag read high q listed =
            let same : word.tag ≡ tag = some_same word.tag tag (sym word.read ∙ read) in
            let p = word.row.port in
            let there : (tables_at w.system.tables).pair word.tag.ecid p ≡ true = word.rows p word.row.deep (itself word.row.here) (subst (HasRow s word.set) (sym word.row.here) word.row) ∙ word.row.covered in
            let set = stays tag.ecid p word.row.deep high (subst (λ (x : Tag). (tables_at w.system.tables).pair x.ecid p ≡ true) same there) in
            subst (λ (xs : List ℕ). is_listed xs q ≡ true) (subst (λ (m : ℕ). z.state.held.set (trunk s m) tag.ecid ≡ w.system.state.held.set (trunk s m) tag.ecid) word.row.here set) listed

    pub facts_fresh : Facts s i (record w { system = z; history = w.history then events })
    facts_fresh =
        record {
          stands = stands;
          knows = knows;
          work = work;
          queue = queue;
          force = force;
          channels = subst (HasChannels s) (sym k.tables) h.channels;
          ways = subst (WaysAreLaid s) (sym k.tables) h.ways;
          tops = subst (TopsAreLaid s) (sym k.tables) h.tops;
          words = words_next k.tables;
          sources = λ n link. each_two (IsWord s (tables_at w.system.tables) n) (IsFrom s w.system n) (IsFrom s z n) (words_of (w.down n)) (λ f a b. from_fresh n f a b) (h.words n link) (h.sources n link);
          asked = λ v e none x c. clears_none s w.down (key_of z.state v) v.first.extender x (λ n. no_key v e (w.down n) (h.serials.downward n));
          ups = λ n link. each_at (IsUp s w.system n) (IsUp s z n) (words_of (w.up n)) (h.ups n link) (λ f u member. up_fresh n f u (member (λ g. IsDeleting w.system g.port → ⊥) (gone n link)));
          answered = λ q d. absurd (some_none d.response (sym d.answer ∙ k.answer));
          serials = record {
            downward = λ n. up_to_more (serial_of w.system.state) (serial_of z.state) (w.down n) k.serials (h.serials.downward n);
            upward = λ n. up_to_more (serial_of w.system.state) (serial_of z.state) (w.up n) k.serials (h.serials.upward n);
            answered = λ v e n there. absurd (false≢true (sym (no_key v e (w.up n) (h.serials.upward n)) ∙ there));
          };
          even = even_next k.tables;
        }

-- ---- each step
-- an asker with the same serial
with_serial : (n : ℕ) (a : AskerState) (s : State) → a.serial ≡ serial_of s n → (m : ℕ) → serial_of (with_asker n a s) m ≡ serial_of s m
with_serial n a s e m =
    elim (cases_eq m n) [
      | inl f ↦ ap (λ (b : Bool). (cond b a (s.askers m)).serial) (eq-eqb m n f) ∙ (e ∙ ap (serial_of s) (sym f))
      | inr f ↦ ap (λ (b : Bool). (cond b a (s.askers m)).serial) (ne_eqb m n f)
    ]

module _ (s : Shape) (l : Limits) (i : Basis) (setting : IsSetting s l) (w : Flight) (h : Facts s i w) where
  abbrev With : (ℕ → ExtenderTables) → Option Response → Moved → Flight
  With tables answer m = record w { system = record { state = m.state; tables = tables; answer = answer }; history = w.history then m.events }

  -- nothing is outstanding, so nothing is answered
  idle_answer : work_of w ≡ None → w.system.answer ≡ None
  idle_answer e = (subst (λ (o : Option Work). StandsBy (planning s) o w.system.state w.system.state.queue w.system.tables w.system.answer) e h.stands.stands).1

  -- then just what is held is laid
  rests_at : work_of w ≡ None → Rests (planning s) w.system.state w.system.state.queue w.system.tables
  rests_at e = (subst (λ (o : Option Work). StandsBy (planning s) o w.system.state w.system.state.queue w.system.tables w.system.answer) e h.stands.stands).0

  -- a step that leaves the system, but for its queue, what is heard, and askers' beats
  still_facts : (state : State) (answer : Option Response) → Stands (planning s) (record { state = state; tables = w.system.tables; answer = answer }) → Knows s state → AreOf i state.queue →
      state.work ≡ work_of w → answer ≡ w.system.answer → state.held ≡ held_of w → state.bridge ≡ bridge_of w → ((n : ℕ) → serial_of state n ≡ serial_of w.system.state n) →
      Facts s i (With w.system.tables answer (still state))
  still_facts state answer stands knows queue work same held bridge serials =
      facts_kept s i w h (record { state = state; tables = w.system.tables; answer = answer }) [] stands knows (subst (WorkGood i) (sym work) h.work) queue (h.force ∙ sym bridge) (λ q. refl)
      (record { work = work; answer = same; tables = refl; held = held; serials = serials })

  -- a step after which what is outstanding is new
  fresh_facts : (c : State) (m : Moved) → Stands (planning s) (record { state = m.state; tables = w.system.tables; answer = None }) → Knows s m.state → Goes i c m → c.bridge ≡ bridge_of w →
      ((n : ℕ) → serial_of c n ≡ serial_of w.system.state n) →
      ((e q : ℕ) → IsDeep s q → 4096 ≤ e → (tables_at w.system.tables).pair e q ≡ true → m.state.held.set (trunk s (device q)) e ≡ w.system.state.held.set (trunk s (device q)) e) →
      ((n : ℕ) → IsLink s n → Each (λ f. IsDeleting w.system f.port → ⊥) (words_of (w.up n))) → Facts s i (With w.system.tables None m)
  fresh_facts c m stands knows g bridge serials stays gone =
      facts_fresh s i w h (record { state = m.state; tables = w.system.tables; answer = None }) m.events stands knows g.work g.queue (g.force w.history (h.force ∙ sym bridge)) (g.quiet w.history)
      (record {
        answer = refl;
        tables = refl;
        serials = λ n. subst (λ (k : ℕ). k ≤ serial_of m.state n) (serials n) (g.serials n);
        fresh = λ v e. subst (λ (k : ℕ). k < serial_of m.state v.first.extender) (serials v.first.extender) (g.fresh v e);
      }) stays gone

  none_deleting : work_of w ≡ None → (n : ℕ) → IsLink s n → Each (λ f. IsDeleting w.system f.port → ⊥) (words_of (w.up n))
  none_deleting e n link =
      each_weaker (IsUp s w.system n) (λ f. IsDeleting w.system f.port → ⊥) (words_of (w.up n)) (λ f u d. some_none d.work (sym d.at_work ∙ e)) (h.ups n link)

  -- the queue is longer, or an extender is heard
  woken : (c : State) → c.work ≡ work_of w → c.held ≡ held_of w → c.bridge ≡ bridge_of w → ((n : ℕ) → serial_of c n ≡ serial_of w.system.state n) → AreOf i c.queue → (work_of w ≡ None → Rests (planning s) c c.queue w.system.tables) → (o : Option Work) → work_of w ≡ o →
      Stands (planning s) (record { state = (wakes_by (decide s l) o c).state; tables = w.system.tables; answer = w.system.answer }) → Knows s (wakes_by (decide s l) o c).state →
      Facts s i (With w.system.tables w.system.answer (wakes_by (decide s l) o c))
  woken c work held bridge serials queue rests None e stands knows =
      let none = idle_answer e in
      let m = goes_on (decide s l) c.queue c in
      subst (λ (a : Option Response). Facts s i (With w.system.tables a m)) (sym none)
      (fresh_facts c m (subst (λ (a : Option Response). Stands (planning s) (record { state = m.state; tables = w.system.tables; answer = a })) none stands) knows
      (goes_on_goes i s l c.queue c (work ∙ e) queue queue) bridge serials
      (λ n q at high there. goes_on_set s l setting w.system.tables n q at high there c.queue c (work ∙ e) (rests e) ∙ ap (λ (g : Held). g.set (trunk s (device q)) n) held) (none_deleting e))
  woken c work held bridge serials queue rests (Some v) e stands knows = still_facts c w.system.answer stands knows queue work refl held bridge serials

  pub facts_order : (c : Command) → CanMove s i w (systems.Order c) → Facts s i (moves s l w (systems.Order c))
  facts_order c may =
      let y = w.system.state in
      let more : State = record y { queue = y.queue ++ job.Ordered (y.given + 1) c ∷ []; given = y.given + 1 } in
      woken more refl refl refl (λ n. refl) (each_append (IsOf i) y.queue (job.Ordered (y.given + 1) c ∷ []) h.queue (may.1, tt)) (λ e. rests_more e) (work_of w) refl
      (planned_steps_stand s l setting w.system (systems.Order c) h.stands may.0).0 (steps_know s l w.system (systems.Order c) h.knows may.0).0
    where
      rests_more : work_of w ≡ None →
          Rests (planning s) (record w.system.state { queue = w.system.state.queue ++ job.Ordered (w.system.state.given + 1) c ∷ []; given = w.system.state.given + 1 })
          (w.system.state.queue ++ job.Ordered (w.system.state.given + 1) c ∷ []) w.system.tables
      rests_more e =
          let r = rests_at e in
          let y = w.system.state in
          let same = opened_more (planning s).there (y.given + 1) c y.queue in
          record {
            laid = r.laid ∙ ap (λ (o : ℕ → Bool). (planning s).laid o y.held) (sym same);
            exact = subst (λ (o : ℕ → Bool). (planning s).Exact o y.bridge y.held) (sym same) r.exact;
            fits = fits_more (planning s) (y.given + 1) c y.queue may.0 r.fits;
          }

  pub facts_hear : (n : ℕ) → Facts s i (moves s l w (systems.Hear n))
  facts_hear n =
      let y = w.system.state in
      woken (record y { heard = λ m. m == n || y.heard m }) refl refl refl (λ n. refl) h.queue (λ e. let r = rests_at e in record { laid = r.laid; exact = r.exact; fits = r.fits }) (work_of w) refl
      (planned_steps_stand s l setting w.system (systems.Hear n) h.stands tt).0 (steps_know s l w.system (systems.Hear n) h.knows tt).0

  pub facts_stray : (n : ℕ) (m : Message) → IsStray w.system.state n m → Facts s i (moves s l w (systems.Stray n m))
  facts_stray n m stray =
      let same : answered (decide s l) n m w.system.state ≡ still w.system.state = stray_is_still (decide s l) n m w.system.state stray in
      subst (λ (z : Moved). Facts s i (With w.system.tables w.system.answer z)) (sym same)
      (still_facts w.system.state w.system.answer h.stands h.knows h.queue refl refl refl refl (λ n. refl))

  beats : (o : Option Work) → work_of w ≡ o → Stands (planning s) (record { state = (beats_in o w.system.state).state; tables = w.system.tables; answer = w.system.answer }) → Knows s (beats_in o w.system.state).state →
      Facts s i (With w.system.tables w.system.answer (beats_in o w.system.state))
  beats None e stands knows = still_facts w.system.state w.system.answer stands knows h.queue refl refl refl refl (λ n. refl)
  beats (Some v) e stands knows =
      let a = (beaten (w.system.state.askers v.first.extender)).0 in
      still_facts (with_asker v.first.extender a w.system.state) w.system.answer stands knows h.queue refl refl refl refl
      (with_serial v.first.extender a w.system.state (beat_serial (w.system.state.askers v.first.extender)))

  pub facts_beat : Facts s i (moves s l w systems.Beat)
  facts_beat = beats (work_of w) refl (planned_steps_stand s l setting w.system systems.Beat h.stands tt).0 (steps_know s l w.system systems.Beat h.knows tt).0

  -- ---- the answer is taken
  -- no word of a port that is deleted is left
  all_gone : (v : Work) → work_of w ≡ Some v → (x : ℕ) → on s x < 64 → leads (key_of w.system.state v) (w.up x) ≡ true → (n : ℕ) → IsLink s n → Each (λ f. IsDeleting w.system f.port → ⊥) (words_of (w.up n))
  all_gone v e x low first n link =
      each_at (IsUp s w.system n) (λ f. IsDeleting w.system f.port → ⊥) (words_of (w.up n)) (h.ups n link)
      (λ f u member d.
      let same : d.work ≡ v = some_same d.work v (sym d.at_work ∙ e) in
      let lead : leads (key_of w.system.state d.work) (w.up x) ≡ true = subst (λ (z : Work). leads (key_of w.system.state z) (w.up x) ≡ true) (sym same) first in
      let way : Over s x d.work.first.extender = (h.serials.answered d.work d.at_work x (leads_has (key_of w.system.state d.work) (w.up x) lead)).1 in
      let here : Over s n d.work.first.extender = subst (Over s n) d.here u.below in
      member (NotFrom f.port) (deleted s w.up (key_of w.system.state d.work) d.work.first.extender f.port x low lead way (h.answered f.port d).1 n here) refl)

  takes_by : (o : Option Work) (a : Option Response) → work_of w ≡ o → w.system.answer ≡ a → ((v : Work) → o ≡ Some v → (n : ℕ) × (on s n < 64) × (leads (key_of w.system.state v) (w.up n) ≡ true)) →
      Stands (planning s) (record { state = (takes_answer (decide s l) o a w.system.state).state; tables = w.system.tables; answer = None }) → Knows s (takes_answer (decide s l) o a w.system.state).state →
      Facts s i (With w.system.tables None (takes_answer (decide s l) o a w.system.state))
  takes_by None a e f may stands knows = still_facts w.system.state None stands knows h.queue refl (sym (idle_answer e)) refl refl (λ n. refl)
  takes_by (Some v) None e f may stands knows = still_facts w.system.state None stands knows h.queue refl (sym f) refl refl (λ n. refl)
  takes_by (Some v) (Some response) e f may stands knows =
      let y = w.system.state in
      let n = v.first.extender in
      let asker = y.askers n in
      let works : Works (planning s) v y y.queue w.system.tables (Some response) =
      subst (λ (r : Option Response). Works (planning s) v y y.queue w.system.tables r) f (subst (λ (o : Option Work). StandsBy (planning s) o y y.queue w.system.tables w.system.answer) e h.stands.stands) in
      let waiting : asker.waiting ≡ Some v.first.request = rw (e, eq-eqb n n refl) at (h.stands.waits n) in
      let free : AskerState = record { serial = asker.serial; waiting = None; beats = 0 } in
      let taken_is = takes asker v.first.request response waiting (works.answers).0 in
      let c : State = with_asker n free y in
      let same : answered (decide s l) n (answer_message asker.serial response) y ≡ answered_in (decide s l) (Some v) c =
      ap (λ (t : AskerState × Taken). answered_where (decide s l) t.1 (with_asker n t.0 y)) taken_is ∙ ap (λ (o : Option Work). answered_in (decide s l) o c) e in
      let m = answered_in (decide s l) (Some v) c in
      let place = may v refl in
      subst (λ (z : Moved). Facts s i (With w.system.tables None z)) (sym same)
      (fresh_facts c m (subst (λ (z : Moved). Stands (planning s) (record { state = z.state; tables = w.system.tables; answer = None })) same stands) (subst (λ (z : Moved). Knows s z.state) same knows)
      (answered_goes i s l v c h.queue (subst (WorkGood i) e h.work)) refl (with_serial n free y refl)
      (λ x q at high there. answered_set s l setting w.system.tables x q at high there v c response (works_as works)) (all_gone v e place.0 place.1 place.2))
    where
      works_as : Works (planning s) v w.system.state w.system.state.queue w.system.tables (Some response) →
          Works (planning s) v (with_asker v.first.extender (record { serial = (w.system.state.askers v.first.extender).serial; waiting = None; beats = 0 }) w.system.state) w.system.state.queue w.system.tables (Some response)
      works_as k =
          record {
            left = k.left;
            old = k.old;
            bridge = k.bridge;
            during = k.during;
            exact = k.exact;
            fits = k.fits;
            answers = k.answers;
            before = k.before;
            were = k.were;
            had = k.had;
            kept = k.kept;
            since = k.since;
            kinds = k.kinds;
            now = k.now;
            asks = k.asks;
            last_asks = k.last_asks;
          }

  pub facts_answer : CanMove s i w systems.Answer → Facts s i (moves s l w systems.Answer)
  facts_answer may = takes_by (work_of w) w.system.answer refl refl may (planned_steps_stand s l setting w.system systems.Answer h.stands tt).0 (steps_know s l w.system systems.Answer h.knows tt).0

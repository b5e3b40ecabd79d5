-- More commands change nothing of what was so far: a history reads the same where each command that it names was given.
use Rattle.std.specs.Prelude.{IsSomeAnd, slice_get}
use Rattle.std.proofs.Common.{◌≡◌, ℕ, zero, suc, ◌==◌, ◌++◌, false, List, [], ◌∷◌, Option, Some, None, refl, sym, ◌∙◌, ap, subst, inl, inr}
use Rattle.std.proofs.lemmas.Bool.{cases_Bool}
use mathlib.Core.Path.{fun_ext}
use Rattle.exb_model.specs.declared.command.Command.{Command}
use Rattle.exb_model.specs.declared.event.Cause.{Cause}
use Rattle.exb_model.specs.declared.event.Event.{Event}
use Rattle.exb_model.specs.declared.event.Event.TheVariants as event
use Rattle.exb_model.specs.declared.command.Command.TheVariants as command
use Rattle.exb_model.specs.Configuration.{Bridge, after}
use Rattle.exb_model.specs.EagerHistory.{is_relayed, risen, up_event, with_ups, opening}
use Rattle.exb_model.specs.Lists.{numbered}
use Rattle.exb_model.specs.declared.arrival.Arrival.{Arrival}
use Rattle.exb_model.specs.Learning.{Look, passes, learned}
use Rattle.exb_model.specs.FlatBridge.{Sent, sent_by, flat}
use Rattle.exb_model.specs.History.{Basis, History, command_of, after_any, bridge_after}
use Rattle.exb_model.specs.LegalHistory.{EachEvent, IsDecided, IsEntered}
use Rattle.exb_model.specs.Refusals.{refusal}
use Rattle.exb_model.specs.Setup.{Limits}
use Rattle.exb_model.specs.Tree.{Shape, opening_ports}
use Rattle.exb_learn.specs.Calls.{Tick, Table, look_in}
use Rattle.exb_learn.specs.Calls.{after_call as after_one}
use Rattle.exb_learn.specs.Histories.{relay_call, command_call, table_after}
use Rattle.exb_learn.specs.Histories.{after_any as after_call}
use Rattle.exb_learn.proofs.HistoryTables.{looks_learned}
use Rattle.exb_config.specs.Pvids.{HasPvids}
use Rattle.exb_flight.specs.Items.{Each}
use Rattle.exb_flight.proofs.IndexLists.{numbered_more}
use Rattle.exb_world_laws.specs.WorldInvariant.{IsSurely}
use Rattle.exb_world_spec.specs.Runs.ReachedWorlds.{HasVid}

-- the command of an event was given
abbrev pub HasCommand : Basis → Event → Type 0
HasCommand i (event.Commit n) = (c : Command) × (command_of i n ≡ Some c)
HasCommand i (event.Refuse n x) = (c : Command) × (command_of i n ≡ Some c)
HasCommand i _ = Unit {0}

abbrev pub HasCommands : Basis → History → Type 0
HasCommands i h = EachEvent (λ (g : History) (e : Event). HasCommand i e) h

-- more commands
abbrev pub longer : Basis → List Command → Basis
longer i cs = record i { commands = i.commands ++ cs }

module _ (i : Basis) (cs : List Command) where
  pub command_stays : (n : ℕ) (c : Command) → command_of i n ≡ Some c → command_of (longer i cs) n ≡ command_of i n
  command_stays n c e = numbered_more i.commands cs n c e ∙ sym e

  bridge_step : (e : Event) (h : History) → HasCommand i e → bridge_after (longer i cs) h ≡ bridge_after i h → bridge_after (longer i cs) (e ∷ h) ≡ bridge_after i (e ∷ h)
  unfolding bridge_after
  bridge_step (event.Relay p n t f) h has same = same
  bridge_step (event.Ignored p n) h has same = same
  bridge_step (event.Tick seconds) h has same = same
  bridge_step (event.Commit n) h has same = ap (λ (o : Option Command). after_any o (bridge_after (longer i cs) h)) (command_stays n has.0 has.1) ∙ ap (after_any (command_of i n)) same
  bridge_step (event.Refuse n x) h has same = same
  bridge_step (event.Up p) h has same = ap (after (command.Up p)) same
  bridge_step (event.NoUp p x) h has same = same
  bridge_step event.Settled h has same = same

  bridge_none : bridge_after (longer i cs) [] ≡ bridge_after i []
  unfolding bridge_after
  bridge_none = refl

  table_none : table_after (longer i cs) [] ≡ table_after i []
  unfolding table_after
  table_none = refl

  pub bridge_stays : (h : History) → HasCommands i h → bridge_after (longer i cs) h ≡ bridge_after i h
  bridge_stays [] has = bridge_none
  bridge_stays (e ∷ h) has = bridge_step e h has.1 (bridge_stays h has.0)

  table_step : (e : Event) (h : History) → HasCommand i e → bridge_after (longer i cs) h ≡ bridge_after i h → table_after (longer i cs) h ≡ table_after i h → table_after (longer i cs) (e ∷ h) ≡ table_after i (e ∷ h)
  unfolding table_after
  table_step (event.Relay p n t f) h has bridge same =
      ap (λ (b : Bridge). after_call (relay_call p f (passes b p f)) (table_after (longer i cs) h)) bridge ∙ ap (after_call (relay_call p f (passes (bridge_after i h) p f))) same
  table_step (event.Ignored p n) h has bridge same = same
  table_step (event.Tick seconds) h has bridge same = ap (after_one (Tick seconds)) same
  table_step (event.Commit n) h has bridge same =
      ap (λ (o : Option Command). after_call (command_call o) (table_after (longer i cs) h)) (command_stays n has.0 has.1) ∙ ap (after_call (command_call (command_of i n))) same
  table_step (event.Refuse n x) h has bridge same = same
  table_step (event.Up p) h has bridge same = same
  table_step (event.NoUp p x) h has bridge same = same
  table_step event.Settled h has bridge same = same

  pub table_stays : (h : History) → HasCommands i h → table_after (longer i cs) h ≡ table_after i h
  table_stays [] has = table_none
  table_stays (e ∷ h) has = table_step e h has.1 (bridge_stays h has.0) (table_stays h has.0)

  pub learned_stays : (h : History) → HasCommands i h → learned (longer i cs) h ≡ learned i h
  learned_stays h has =
      fun_ext (λ v. fun_ext (λ m. sym (looks_learned (longer i cs) h v m) ∙ (ap (λ (u : Table). look_in u v m) (table_stays h has) ∙ looks_learned i h v m)))

  pub flat_stays : (h : History) (q : ℕ) → HasCommands i h → flat (longer i cs) h q ≡ flat i h q
  unfolding flat
  flat_stays [] q has = refl
  flat_stays (e ∷ h) q has =
      ap (λ (xs : List Sent). xs ++ sent_by (bridge_after (longer i cs) h) (learned (longer i cs) h) e q) (flat_stays h q has.0)
      ∙ (ap (λ (b : Bridge). flat i h q ++ sent_by b (learned (longer i cs) h) e q) (bridge_stays h has.0)
      ∙ ap (λ (look : Look). flat i h q ++ sent_by (bridge_after i h) look e q) (learned_stays h has.0))

  -- ---- where arrivals stand
  surely_step : (arrivals more : ℕ → List Arrival) → ((p n : ℕ) (a : Arrival) → numbered (arrivals p) n ≡ Some a → numbered (more p) n ≡ Some a) → (h : History) (e : Event) →
      bridge_after (longer i cs) h ≡ bridge_after i h → IsSurely i arrivals h e → IsSurely (longer i cs) more h e
  surely_step arrivals more goes h (event.Relay p n t f) same k = ap (λ (b : Bridge). is_relayed b p f) same ∙ k
  surely_step arrivals more goes h (event.Ignored p n) same k = (k.0, goes p n k.0 k.1, ap (λ (b : Bridge). is_relayed b p k.0.bytes) same ∙ k.2)
  surely_step arrivals more goes h (event.Tick seconds) same k = tt
  surely_step arrivals more goes h (event.Commit n) same k = tt
  surely_step arrivals more goes h (event.Refuse n x) same k = tt
  surely_step arrivals more goes h (event.Up p) same k = tt
  surely_step arrivals more goes h (event.NoUp p x) same k = tt
  surely_step arrivals more goes h event.Settled same k = tt

  -- with more arrivals
  pub surely_stays : (arrivals more : ℕ → List Arrival) → ((p n : ℕ) (a : Arrival) → numbered (arrivals p) n ≡ Some a → numbered (more p) n ≡ Some a) → (h : History) → HasCommands i h →
      EachEvent (IsSurely i arrivals) h → EachEvent (IsSurely (longer i cs) more) h
  surely_stays arrivals more goes [] has k = tt
  surely_stays arrivals more goes (e ∷ h) has k = (surely_stays arrivals more goes h has.0 k.0, surely_step arrivals more goes h e (bridge_stays h has.0) k.1)

  -- ---- what is refused, relayed and opened
  decided_step : (t : Shape) (l : Limits) (h : History) (e : Event) → HasCommand i e → bridge_after (longer i cs) h ≡ bridge_after i h → IsDecided t l i h e → IsDecided t l (longer i cs) h e
  decided_step t l h (event.Commit n) has same k =
      subst (λ (o : Option Command). IsSomeAnd o (λ c. refusal t l (bridge_after (longer i cs) h) c ≡ None)) (sym (command_stays n has.0 has.1))
      (subst (λ (b : Bridge). IsSomeAnd (command_of i n) (λ c. refusal t l b c ≡ None)) (sym same) k)
  decided_step t l h (event.Refuse n x) has same k =
      subst (λ (o : Option Command). IsSomeAnd o (λ c. refusal t l (bridge_after (longer i cs) h) c ≡ Some x)) (sym (command_stays n has.0 has.1))
      (subst (λ (b : Bridge). IsSomeAnd (command_of i n) (λ c. refusal t l b c ≡ Some x)) (sym same) k)
  decided_step t l h (event.Relay p n m f) has same k = tt
  decided_step t l h (event.Ignored p n) has same k = tt
  decided_step t l h (event.Tick seconds) has same k = tt
  decided_step t l h (event.Up p) has same k = tt
  decided_step t l h (event.NoUp p x) has same k = tt
  decided_step t l h event.Settled has same k = tt

  pub decided_stays : (t : Shape) (l : Limits) (h : History) → HasCommands i h → EachEvent (IsDecided t l i) h → EachEvent (IsDecided t l (longer i cs)) h
  decided_stays t l [] has k = tt
  decided_stays t l (e ∷ h) has k = (decided_stays t l h has.0 k.0, decided_step t l h e has.1 (bridge_stays h has.0) k.1)

  entered_step : (arrivals : ℕ → List Arrival) (h : History) (e : Event) → bridge_after (longer i cs) h ≡ bridge_after i h → IsEntered i arrivals h e → IsEntered (longer i cs) arrivals h e
  entered_step arrivals h (event.Relay p n m f) same k = ap (λ (b : Bridge). is_relayed b p f) same ∙ k
  entered_step arrivals h (event.Ignored p n) same k = subst (λ (b : Bridge). IsSomeAnd (numbered (arrivals p) n) (λ a. is_relayed b p a.bytes ≡ false)) (sym same) k
  entered_step arrivals h (event.Tick seconds) same k = tt
  entered_step arrivals h (event.Commit n) same k = tt
  entered_step arrivals h (event.Refuse n x) same k = tt
  entered_step arrivals h (event.Up p) same k = tt
  entered_step arrivals h (event.NoUp p x) same k = tt
  entered_step arrivals h event.Settled same k = tt

  pub entered_stays : (arrivals : ℕ → List Arrival) (h : History) → HasCommands i h → EachEvent (IsEntered i arrivals) h → EachEvent (IsEntered (longer i cs) arrivals) h
  entered_stays arrivals [] has k = tt
  entered_stays arrivals (e ∷ h) has k = (entered_stays arrivals h has.0 k.0, entered_step arrivals h e (bridge_stays h has.0) k.1)

  risen_names_none : (p : ℕ) (o : Option Cause) → HasCommand i (risen p o)
  risen_names_none p None = tt
  risen_names_none p (Some x) = tt

  ups_stay : (t : Shape) (l : Limits) (ps : List ℕ) (h : History) → HasCommands i h → with_ups t l (longer i cs) h ps ≡ with_ups t l i h ps
  ups_stay t l [] h has = refl
  ups_stay t l (p ∷ ps) h has =
      ap (λ (b : Bridge). with_ups t l (longer i cs) (up_event t l b p ∷ h) ps) (bridge_stays h has)
      ∙ ups_stay t l ps (up_event t l (bridge_after i h) p ∷ h) (has, risen_names_none p (refusal t l (bridge_after i h) (command.Up p)))

  pub opening_stays : (t : Shape) (l : Limits) → opening t l (longer i cs) ≡ opening t l i
  opening_stays t l = ap (λ (h : History). event.Settled ∷ h) (ups_stay t l (opening_ports t) [] tt)

-- ---- VLANs of ports
-- Those of the start and of all commands are 1 to 4094, and so are all that are in force.
pub pvids_command : (c : Command) (b : Bridge) → HasVid c → HasPvids b → HasPvids (after c b)
pvids_command (command.Vlan v tagged untagged) b vid k = k
pvids_command (command.Member v p kind) b vid k = k
pvids_command (command.Unmember v p) b vid k = k
pvids_command (command.Pvid p v) b vid k = λ q. elim (cases_Bool (q == p)) [ inl e ↦ rw e vid | inr e ↦ rw e (k q) ]
pvids_command (command.Accept p types) b vid k = λ q. elim (cases_Bool (q == p)) [ inl e ↦ rw e (k q) | inr e ↦ rw e (k q) ]
pvids_command (command.Filter p on) b vid k = λ q. elim (cases_Bool (q == p)) [ inl e ↦ rw e (k q) | inr e ↦ rw e (k q) ]
pvids_command (command.Isolate p on) b vid k = λ q. elim (cases_Bool (q == p)) [ inl e ↦ rw e (k q) | inr e ↦ rw e (k q) ]
pvids_command (command.Static v m ports) b vid k = k
pvids_command (command.Unstatic v m) b vid k = k
pvids_command (command.Up p) b vid k = k
pvids_command (command.Down p) b vid k = k

vid_of : (cs : List Command) (n : ℕ) (c : Command) → Each HasVid cs → slice_get cs n ≡ Some c → HasVid c
vid_of [] n c all e = absurd (let z : None ≡ Some c = e in cc)
vid_of (x ∷ xs) zero c all e = subst HasVid (let z : Some x ≡ Some c = e in some_same z) all.0
  where
    some_same : Some x ≡ Some c → x ≡ c
    some_same z = cc
vid_of (x ∷ xs) (suc n) c all e = vid_of xs n c all.1 e

pub pvids_after : (i : Basis) → HasPvids i.start → Each HasVid i.commands → (h : History) → HasPvids (bridge_after i h)
unfolding bridge_after
pvids_after i start all [] = start
pvids_after i start all (event.Relay p n t f ∷ h) = pvids_after i start all h
pvids_after i start all (event.Ignored p n ∷ h) = pvids_after i start all h
pvids_after i start all (event.Tick seconds ∷ h) = pvids_after i start all h
pvids_after i start all (event.Refuse n x ∷ h) = pvids_after i start all h
pvids_after i start all (event.Up p ∷ h) = pvids_after i start all h
pvids_after i start all (event.NoUp p x ∷ h) = pvids_after i start all h
pvids_after i start all (event.Settled ∷ h) = pvids_after i start all h
pvids_after i start all (event.Commit n ∷ h) = by_number n (pvids_after i start all h)
  where
    by_command : (o : Option Command) → ((c : Command) → o ≡ Some c → HasVid c) → HasPvids (bridge_after i h) → HasPvids (after_any o (bridge_after i h))
    by_command None vid k = k
    by_command (Some c) vid k = pvids_command c (bridge_after i h) (vid c refl) k

    by_number : (m : ℕ) → HasPvids (bridge_after i h) → HasPvids (after_any (command_of i m) (bridge_after i h))
    by_number zero k = k
    by_number (suc m) k = by_command (slice_get i.commands m) (λ c e. vid_of i.commands m c all e) k

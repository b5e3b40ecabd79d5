-- Each command and each automatic up is decided once, in order, or waits.
use Rattle.std.proofs.Common.{◌≡◌, ℕ, ◌+◌, ◌++◌, List, [], ◌∷◌, length, reverse, Option, Some, None, refl, sym, ◌∙◌, ap, subst, arith, length-append}
use Rattle.std.specs.Prelude.{filter_map, map}
use Rattle.std.specs.List.{flat_map, range_with_len}
use Rattle.std.proofs.lemmas.List.{append-nil, append_assoc}
use Rattle.std.proofs.lemmas.List.Elements.{filter_map-append}
use Rattle.std.proofs.lemmas.Grind.{reverse_onto}
use Rattle.exb_model.specs.declared.command.Command.{Command}
use Rattle.exb_model.specs.declared.event.Cause.{Cause}
use Rattle.exb_model.specs.declared.event.Event.{Event}
use Rattle.exb_model.specs.declared.event.Event.TheVariants as event
use Rattle.exb_model.specs.Tree.{Shape, by_depth, externals_of, opening_ports}
use Rattle.exb_model.specs.Setup.{Limits}
use Rattle.exb_model.specs.Configuration.{Bridge}
use Rattle.exb_model.specs.History.{Basis, History, ◌then◌}
use Rattle.exb_model.specs.Lists.{numbered}
use Rattle.exb_model.specs.LegalHistory.{number_of}
use Rattle.exb_control_spec.specs.declared.job.Job.{Job}
use Rattle.exb_control_spec.specs.declared.job.Job.TheVariants as job
use Rattle.exb_control_spec.specs.InitialState.{jobs_of, first_jobs}
use Rattle.exb_control_spec.specs.Runs.Journal.{cause_of, told_by, kept_by, told, pending, Tells}
use Rattle.exb_world_spec.specs.Worlds.{World}
use Rattle.exb_world_spec.specs.Runs.Simulation.{jobs_in, jobs_after}
use Rattle.exb_flight.specs.FlightFacts.{IsOf, AreOf}
use Rattle.exb_flight.proofs.IndexLists.{numbered_more, numbered_last, each_front, each_back, each_join}
use Rattle.exb_world_laws.specs.WorldInput.{Given, commands_of, basis_with}
use Rattle.exb_world_laws.specs.OneBridge.{command_number, automatic_port, up_port, AreDecided}

-- ---- the journal, oldest first
pub reverse_then : (h : History) (es : List Event) → reverse (h then es) ≡ reverse h ++ es
reverse_then h [] = sym (append-nil (reverse h))
reverse_then h (e ∷ es) =
    reverse_then (e ∷ h) es
    ∙ (ap (λ (xs : List Event). xs ++ es) (reverse_onto h e []) ∙ append_assoc (reverse h) (e ∷ []) es)

-- what is of jobs stands among the events of jobs
pub numbers_of_jobs : (es : List Event) → filter_map number_of es ≡ filter_map number_of (jobs_in es)
numbers_of_jobs [] = refl
numbers_of_jobs (event.Relay p n t f ∷ es) = numbers_of_jobs es
numbers_of_jobs (event.Ignored p n ∷ es) = numbers_of_jobs es
numbers_of_jobs (event.Tick seconds ∷ es) = numbers_of_jobs es
numbers_of_jobs (event.Commit n ∷ es) = ap (λ (xs : List ℕ). n ∷ xs) (numbers_of_jobs es)
numbers_of_jobs (event.Refuse n x ∷ es) = ap (λ (xs : List ℕ). n ∷ xs) (numbers_of_jobs es)
numbers_of_jobs (event.Up p ∷ es) = numbers_of_jobs es
numbers_of_jobs (event.NoUp p x ∷ es) = numbers_of_jobs es
numbers_of_jobs (event.Settled ∷ es) = numbers_of_jobs es

pub ups_of_jobs : (es : List Event) → filter_map up_port es ≡ filter_map up_port (jobs_in es)
ups_of_jobs [] = refl
ups_of_jobs (event.Relay p n t f ∷ es) = ups_of_jobs es
ups_of_jobs (event.Ignored p n ∷ es) = ups_of_jobs es
ups_of_jobs (event.Tick seconds ∷ es) = ups_of_jobs es
ups_of_jobs (event.Commit n ∷ es) = ups_of_jobs es
ups_of_jobs (event.Refuse n x ∷ es) = ups_of_jobs es
ups_of_jobs (event.Up p ∷ es) = ap (λ (xs : List ℕ). p ∷ xs) (ups_of_jobs es)
ups_of_jobs (event.NoUp p x ∷ es) = ap (λ (xs : List ℕ). p ∷ xs) (ups_of_jobs es)
ups_of_jobs (event.Settled ∷ es) = ups_of_jobs es

-- ---- what decided jobs tell
module _ (t : Shape) (l : Limits) where
  pub told_numbers : (ds : List Job) (b : Bridge) → filter_map number_of (told t l b ds) ≡ filter_map command_number ds
  told_numbers [] b = refl
  told_numbers (job.Opening n ∷ ds) b = told_numbers ds b
  told_numbers (job.AutomaticUp p ∷ ds) b = by_cause (cause_of t l b (job.AutomaticUp p)) (λ k. told_numbers ds k)
    where
      by_cause : (o : Option Cause) → ((k : Bridge) → filter_map number_of (told t l k ds) ≡ filter_map command_number ds) → filter_map number_of (told_by (job.AutomaticUp p) o ++ told t l (kept_by (job.AutomaticUp p) b o) ds) ≡ filter_map command_number ds
      by_cause None rest = rest _
      by_cause (Some x) rest = rest _
  told_numbers (job.Ordered n c ∷ ds) b = by_cause (cause_of t l b (job.Ordered n c)) (λ k. told_numbers ds k)
    where
      by_cause : (o : Option Cause) → ((k : Bridge) → filter_map number_of (told t l k ds) ≡ filter_map command_number ds) → filter_map number_of (told_by (job.Ordered n c) o ++ told t l (kept_by (job.Ordered n c) b o) ds) ≡ n ∷ filter_map command_number ds
      by_cause None rest = ap (λ (xs : List ℕ). n ∷ xs) (rest _)
      by_cause (Some x) rest = ap (λ (xs : List ℕ). n ∷ xs) (rest _)

  pub told_ups : (ds : List Job) (b : Bridge) → filter_map up_port (told t l b ds) ≡ filter_map automatic_port ds
  told_ups [] b = refl
  told_ups (job.Opening n ∷ ds) b = told_ups ds b
  told_ups (job.AutomaticUp p ∷ ds) b = by_cause (cause_of t l b (job.AutomaticUp p)) (λ k. told_ups ds k)
    where
      by_cause : (o : Option Cause) → ((k : Bridge) → filter_map up_port (told t l k ds) ≡ filter_map automatic_port ds) → filter_map up_port (told_by (job.AutomaticUp p) o ++ told t l (kept_by (job.AutomaticUp p) b o) ds) ≡ p ∷ filter_map automatic_port ds
      by_cause None rest = ap (λ (xs : List ℕ). p ∷ xs) (rest _)
      by_cause (Some x) rest = ap (λ (xs : List ℕ). p ∷ xs) (rest _)
  told_ups (job.Ordered n c ∷ ds) b = by_cause (cause_of t l b (job.Ordered n c)) (λ k. told_ups ds k)
    where
      by_cause : (o : Option Cause) → ((k : Bridge) → filter_map up_port (told t l k ds) ≡ filter_map automatic_port ds) → filter_map up_port (told_by (job.Ordered n c) o ++ told t l (kept_by (job.Ordered n c) b o) ds) ≡ filter_map automatic_port ds
      by_cause None rest = rest _
      by_cause (Some x) rest = rest _

-- ---- all jobs that were ever queued
no_number : (ps : List ℕ) → filter_map command_number (map job.AutomaticUp ps) ≡ []
no_number [] = refl
no_number (p ∷ ps) = no_number ps

all_ports : (ps : List ℕ) → filter_map automatic_port (map job.AutomaticUp ps) ≡ ps
all_ports [] = refl
all_ports (p ∷ ps) = ap (λ (xs : List ℕ). p ∷ xs) (all_ports ps)

opening_numbers : (t : Shape) (ns : List ℕ) → filter_map command_number (flat_map (jobs_of t) ns) ≡ []
opening_numbers t [] = refl
opening_numbers t (n ∷ ns) =
    filter_map-append command_number (jobs_of t n) (flat_map (jobs_of t) ns)
    ∙ (ap (λ (xs : List ℕ). xs ++ filter_map command_number (flat_map (jobs_of t) ns)) (no_number (externals_of t n)) ∙ opening_numbers t ns)

opening_ups : (t : Shape) (ns : List ℕ) → filter_map automatic_port (flat_map (jobs_of t) ns) ≡ flat_map (externals_of t) ns
opening_ups t [] = refl
opening_ups t (n ∷ ns) =
    filter_map-append automatic_port (jobs_of t n) (flat_map (jobs_of t) ns)
    ∙ (ap (λ (xs : List ℕ). xs ++ filter_map automatic_port (flat_map (jobs_of t) ns)) (all_ports (externals_of t n)) ∙ ap (λ (xs : List ℕ). externals_of t n ++ xs) (opening_ups t ns))

first_numbers : (t : Shape) → filter_map command_number (first_jobs t) ≡ []
unfolding first_jobs
first_numbers t = opening_numbers t (by_depth t)

first_ups : (t : Shape) → filter_map automatic_port (first_jobs t) ≡ opening_ports t
unfolding first_jobs
first_ups t = opening_ups t (by_depth t)

pub after_numbers : (n : ℕ) (cs : List Command) → filter_map command_number (jobs_after n cs) ≡ range_with_len (n + 1) (length cs)
after_numbers n [] = refl
after_numbers n (c ∷ cs) = ap (λ (xs : List ℕ). (n + 1) ∷ xs) (after_numbers (n + 1) cs)

pub after_ups : (n : ℕ) (cs : List Command) → filter_map automatic_port (jobs_after n cs) ≡ []
after_ups n [] = refl
after_ups n (c ∷ cs) = after_ups (n + 1) cs

-- the commands are those of the basis
automatic_of : (i : Basis) (ps : List ℕ) → AreOf i (map job.AutomaticUp ps)
automatic_of i [] = tt
automatic_of i (p ∷ ps) = (tt, automatic_of i ps)

opening_of : (i : Basis) (t : Shape) (ns : List ℕ) → AreOf i (flat_map (jobs_of t) ns)
opening_of i t [] = tt
opening_of i t (n ∷ ns) = each_join (IsOf i) (jobs_of t n) (flat_map (jobs_of t) ns) (tt, automatic_of i (externals_of t n)) (opening_of i t ns)

first_of : (i : Basis) (t : Shape) → AreOf i (first_jobs t)
unfolding first_jobs
first_of i t = opening_of i t (by_depth t)

after_of : (i : Basis) (before cs : List Command) (n : ℕ) → n ≡ length before → i.commands ≡ before ++ cs → AreOf i (jobs_after n cs)
after_of i before [] n e all = tt
after_of i before (c ∷ cs) n e all =
    let longer : i.commands ≡ (before ++ c ∷ []) ++ cs = all ∙ sym (append_assoc before (c ∷ []) cs) in
    let here : numbered ((before ++ c ∷ []) ++ cs) (length before + 1) ≡ Some c = numbered_more (before ++ c ∷ []) cs (length before + 1) c (numbered_last before c) in
    let size = length-append before (c ∷ []) in (
      ap (λ (m : ℕ). numbered i.commands (m + 1)) e ∙ (ap (λ (xs : List Command). numbered xs (length before + 1)) longer ∙ here),
      after_of i (before ++ c ∷ []) cs (n + 1) (omega (arith, e, size)) longer,
    )

pub all_of : (i : Basis) (t : Shape) → AreOf i (first_jobs t ++ jobs_after 0 i.commands)
all_of i t = each_join (IsOf i) (first_jobs t) (jobs_after 0 i.commands) (first_of i t) (after_of i [] i.commands 0 refl refl)

-- ---- rule 4
pub are_decided : (t : Shape) (l : Limits) (i : Basis) (w : World) (g : List Given) (journal : List Event) (downs : List ℕ) →
    Tells t l i.start (first_jobs t ++ jobs_after 0 (commands_of g)) (jobs_in journal) downs w.control → AreDecided t (basis_with i g) w g ([] then journal)
are_decided t l i w g journal downs k =
    let ds : List Job = k.decided in
    let ps : List Job = pending w.control in
    let js : List Job = first_jobs t ++ jobs_after 0 (commands_of g) in
    let es : reverse ([] then journal) ≡ journal = reverse_then [] journal in
    let numbers : filter_map number_of (reverse ([] then journal)) ≡ filter_map command_number ds =
    ap (filter_map number_of) es ∙ (numbers_of_jobs journal ∙ (ap (filter_map number_of) k.lines ∙ told_numbers t l ds i.start)) in
    let ups : filter_map up_port (reverse ([] then journal)) ≡ filter_map automatic_port ds =
    ap (filter_map up_port) es ∙ (ups_of_jobs journal ∙ (ap (filter_map up_port) k.lines ∙ told_ups t l ds i.start)) in
    record {
      commands =
          ap (λ (xs : List ℕ). xs ++ filter_map command_number ps) numbers
          ∙ (sym (filter_map-append command_number ds ps)
          ∙ (ap (filter_map command_number) k.order
          ∙ (filter_map-append command_number (first_jobs t) (jobs_after 0 (commands_of g))
          ∙ (ap (λ (xs : List ℕ). xs ++ filter_map command_number (jobs_after 0 (commands_of g))) (first_numbers t) ∙ after_numbers 0 (commands_of g)))));
      waiting = each_back (IsOf (basis_with i g)) ds ps (subst (AreOf (basis_with i g)) (sym k.order) (all_of (basis_with i g) t));
      automatic =
          ap (λ (xs : List ℕ). xs ++ filter_map automatic_port ps) ups
          ∙ (sym (filter_map-append automatic_port ds ps)
          ∙ (ap (filter_map automatic_port) k.order
          ∙ (filter_map-append automatic_port (first_jobs t) (jobs_after 0 (commands_of g))
          ∙ (ap (λ (xs : List ℕ). xs ++ filter_map automatic_port (jobs_after 0 (commands_of g))) (first_ups t)
          ∙ (ap (λ (xs : List ℕ). opening_ports t ++ xs) (after_ups 0 (commands_of g)) ∙ append-nil (opening_ports t))))));
    }

pub decided_of : (t : Shape) (l : Limits) (i : Basis) (w : World) (g : List Given) (es : List Event) (downs : List ℕ) →
    (k : Tells t l i.start (first_jobs t ++ jobs_after 0 (commands_of g)) es downs w.control) → AreOf (basis_with i g) k.decided
decided_of t l i w g es downs k = each_front (IsOf (basis_with i g)) k.decided (pending w.control) (subst (AreOf (basis_with i g)) (sym k.order) (all_of (basis_with i g) t))

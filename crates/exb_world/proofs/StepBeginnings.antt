-- How steps begin: a word is taken off its link, a record is counted, the clock goes on.
use Rattle.std.proofs.Common.{◌≡◌, ℕ, zero, suc, ◌-◌, ◌%◌, ◌<◌, ◌≤◌, ◌==◌, ◌++◌, if◌then◌else◌, not, nat_lt, Bool, true, false, List, [], ◌∷◌, Option, Some, None, slice_index, refl, sym, ap, subst, ◌∙◌, inl, inr, eq-eqb, arith}
use Rattle.std.specs.List.{filter, slice_get}
use Rattle.std.proofs.lemmas.Bool.{cases_eq, ne_eqb, and_parts, and_from, ltb-true, lt-ltb, le-ltb}
use Rattle.std.proofs.lemmas.List.{append-nil}
use mathlib.Core.Path.{fun_ext}
use Rattle.exb_model.specs.declared.event.Event.TheVariants as event
use Rattle.exb_model.specs.declared.arrival.Arrival.{Arrival}
use Rattle.exb_model.specs.Setup.{Limits}
use Rattle.exb_model.specs.Tree.{Shape, IsTree, HangsOn, device, on, is_port, is_cascade, is_extender, is_external, port_number}
use Rattle.exb_link.specs.declared.link_frame.LinkFrame.{LinkFrame}
use Rattle.exb_link.specs.LinkFrames.{is_control, is_data, without_control, without_data}
use Rattle.exb_world_spec.specs.Worlds.{World, Way, Up, Down}
use Rattle.exb_model.specs.Tables.{at}
use Rattle.exb_world_spec.specs.Worlds.{Mark, Lose}
use Rattle.exb_world_spec.specs.ExtenderSteps.{arrives_at, takes_from_below}
use Rattle.exb_world_spec.specs.DataFrames.{bridge_takes, comes}
use Rattle.exb_world_spec.specs.Steps.{arrives, control_at, counted, done_by, first_data, rest_of, takes, takes_any, takes_up, with_words, words_on}
use Rattle.exb_world_spec.specs.Runs.Requests.{AsksWell}
use Rattle.exb_world_spec.proofs.Trunks.{above_there}
use Rattle.exb_outbox.specs.declared.log.Log.{Log}
use Rattle.exb_bridge.specs.BridgeWorlds.{Whole}
use Rattle.exb_world.specs.ArrivalPorts.{IsPortAt}
use Rattle.exb_link.specs.Links.{words_of}
use Rattle.exb_bridge.specs.Indices.{next_of}
use Rattle.exb_bridge.specs.TreeIndexes.{Site}
use Rattle.exb_bridge.specs.BridgeWorlds.{world_in, all_left, IsAt, Does, KeepsTrace}
use Rattle.exb_bridge.proofs.PartChanges.{tells_nothing}

-- ---- fields
pub up_is : (c : Whole) (links : List (List LinkFrame)) (f : ℕ → List LinkFrame) → words_of links ≡ f → world_in (record c { up = links }) ≡ record (world_in c) { up = f }
up_is c links f is = ap (λ (g : ℕ → List LinkFrame). record (world_in c) { up = g }) is

pub next_is : (c : Whole) (xs : List ℕ) (f : ℕ → ℕ) → next_of xs ≡ f → world_in (record c { next = xs }) ≡ record (world_in c) { next = f }
next_is c xs f is = ap (λ (g : ℕ → ℕ). record (world_in c) { next = g }) is

-- ---- words that aren't there
not_there : {X A : Type 0} {x : X} → Some x ≡ None → A
not_there is = absurd (cc)

data_none : (ws : List LinkFrame) → first_data ws ≡ None → without_data ws ≡ ws
data_none [] none = refl
data_none (w ∷ ws) none = by_sort (is_control w) none (data_none ws)
  where
    by_sort : (e : Bool) → slice_get (if not e then w ∷ filter is_data ws else filter is_data ws) 0 ≡ None → (first_data ws ≡ None → without_data ws ≡ ws) →
        (if e then w ∷ without_data ws else ws) ≡ w ∷ ws
    by_sort true absent rest = ap (λ (xs : List LinkFrame). w ∷ xs) (rest absent)
    by_sort false absent rest = not_there absent

control_none : (ws : List LinkFrame) (k : ℕ) → control_at ws k ≡ None → without_control ws k ≡ ws
control_none [] k none = refl
control_none (w ∷ ws) zero none = by_sort (is_control w) none (control_none ws 0)
  where
    by_sort : (e : Bool) → slice_get (if e then w ∷ filter is_control ws else filter is_control ws) 0 ≡ None → (control_at ws 0 ≡ None → without_control ws 0 ≡ ws) →
        (if e then ws else w ∷ without_control ws 0) ≡ w ∷ ws
    by_sort true absent rest = not_there absent
    by_sort false absent rest = ap (λ (xs : List LinkFrame). w ∷ xs) (rest absent)
control_none (w ∷ ws) (suc k) none = by_sort (is_control w) none (control_none ws k) (control_none ws (suc k))
  where
    by_sort : (e : Bool) → slice_get (if e then w ∷ filter is_control ws else filter is_control ws) (suc k) ≡ None → (control_at ws k ≡ None → without_control ws k ≡ ws) →
        (control_at ws (suc k) ≡ None → without_control ws (suc k) ≡ ws) →
        (if e then (if suc k == 0 then ws else w ∷ without_control ws (suc k - 1)) else w ∷ without_control ws (suc k)) ≡ w ∷ ws
    by_sort true absent rest other =
        let same : suc k - 1 ≡ k = omega arith in
        rw (ne_eqb (suc k) 0 (λ e. omega (arith, e)), same) (ap (λ (xs : List LinkFrame). w ∷ xs) (rest absent))
    by_sort false absent rest other = ap (λ (xs : List LinkFrame). w ∷ xs) (other absent)

rest_none : (keep : Bool) (ws : List LinkFrame) (k : ℕ) → control_at ws k ≡ None → rest_of keep ws k ≡ ws
rest_none true ws k none = refl
rest_none false ws k none = control_none ws k none

-- what is put in its own place changes nothing
at_same : (n : ℕ) (f : ℕ → List LinkFrame) → at n (f n) f ≡ f
at_same n f = fun_ext (λ m. by_place m)
  where
    by_place : (m : ℕ) → at n (f n) f m ≡ f m
    by_place m = elim (cases_eq m n) [ inl is ↦ rw (is, eq-eqb n n refl) refl | inr ne ↦ rw (ne_eqb m n ne) refl ]

pub words_same : (n : ℕ) (way : Way) (w : World) → with_words n way (words_on n way w) w ≡ w
words_same n Up w = ap (λ (u : ℕ → List LinkFrame). record w { up = u }) (at_same n w.up)
words_same n Down w = ap (λ (u : ℕ → List LinkFrame). record w { down = u }) (at_same n w.down)

-- ---- a direction has other words
module _ (s : Site) (c : Whole) (ws : List (List LinkFrame)) (at : IsAt s c) where
  pub at_up : IsAt s (record c { up = ws })
  at_up = record { shape = at.shape; limits = at.limits; awake = at.awake; there = at.there; only = at.only; ports = at.ports }

  pub at_down : IsAt s (record c { down = ws })
  at_down = record { shape = at.shape; limits = at.limits; awake = at.awake; there = at.there; only = at.only; ports = at.ports }

-- ---- a word that may be there
module _ (s : Site) (l : Limits) (c d : Whole) (n : ℕ) (way : Way) (rest : List LinkFrame) (world : world_in d ≡ with_words n way rest (world_in c)) where
  nobody : (o : Option LinkFrame) (log : Log) → o ≡ None → rest ≡ words_on n way (world_in c) → IsAt s d → Does (takes_any s.tree l n way o rest (world_in c)) s d log log
  nobody o log none same is_at =
      subst (λ (m : Option LinkFrame). Does (takes_any s.tree l n way m rest (world_in c)) s d log log) (sym none) (
      record {
        world = world ∙ ap (λ (ws : List LinkFrame). with_words n way ws (world_in c)) same ∙ words_same n way (world_in c);
        events = sym (append-nil log.events);
        passed = sym (append-nil log.passed);
        left = sym (append-nil (all_left log.left));
        outs = sym (append-nil log.outs.items);
        lines = refl;
        tracing = refl;
        at = is_at;
      })

  pub somebody : (o : Option LinkFrame) (x : LinkFrame) (e : Whole) (old new : Log) → o ≡ Some x → Does (takes s.tree l n way x (world_in d)) s e old new → Does (takes_any s.tree l n way o rest (world_in c)) s e old new
  somebody o x e old new some done =
      subst (λ (m : Option LinkFrame). Does (takes_any s.tree l n way m rest (world_in c)) s e old new) (sym some) (
      subst (λ (w : World). Does (takes s.tree l n way x w) s e old new) world done)

  pub asks_on : (t : Shape) (m : Limits) → AsksWell t m (world_in c).control → AsksWell t m (world_in d).control
  asks_on t m asks = subst (λ (w : World). AsksWell t m w.control) (sym world) (by_way way)
    where
      by_way : (v : Way) → AsksWell t m (with_words n v rest (world_in c)).control
      by_way Up = asks
      by_way Down = asks

pub no_data : (s : Site) (l : Limits) (c d : Whole) (n : ℕ) (way : Way) (log : Log) → first_data (words_on n way (world_in c)) ≡ None →
    world_in d ≡ with_words n way (without_data (words_on n way (world_in c))) (world_in c) → IsAt s d →
    Does (takes_any s.tree l n way (first_data (words_on n way (world_in c))) (without_data (words_on n way (world_in c))) (world_in c)) s d log log
no_data s l c d n way log none world is_at =
    nobody s l c d n way (without_data (words_on n way (world_in c))) world _ log none (data_none (words_on n way (world_in c)) none) is_at

pub no_control : (s : Site) (l : Limits) (c d : Whole) (n : ℕ) (way : Way) (k : ℕ) (keep : Bool) (log : Log) → control_at (words_on n way (world_in c)) k ≡ None →
    world_in d ≡ with_words n way (rest_of keep (words_on n way (world_in c)) k) (world_in c) → IsAt s d →
    Does (takes_any s.tree l n way (control_at (words_on n way (world_in c)) k) (rest_of keep (words_on n way (world_in c)) k) (world_in c)) s d log log
no_control s l c d n way k keep log none world is_at =
    nobody s l c d n way (rest_of keep (words_on n way (world_in c)) k) world _ log none (rest_none keep (words_on n way (world_in c)) k none) is_at

-- ---- steps that tell nothing, or one thing
pub lost : (s : Site) (l : Limits) (c d : Whole) (n : ℕ) (way : Way) (k : ℕ) (log : Log) → world_in d ≡ (done_by s.tree l (Lose n way k) (world_in c)).world → IsAt s d →
    Does (done_by s.tree l (Lose n way k) (world_in c)) s d log log
lost s l c d n way k log world is_at =
    tells_nothing (done_by s.tree l (Lose n way k) (world_in c)) s d log world refl refl refl refl is_at

pub marked : (s : Site) (l : Limits) (c : Whole) (old new : Log) → IsAt s c → new.events ≡ old.events ++ event.Settled ∷ [] → new.passed ≡ old.passed → new.left ≡ old.left → KeepsTrace old new →
    Does (done_by s.tree l Mark (world_in c)) s c old new
marked s l c old new is_at events passed left trace =
    record {
      world = refl;
      events = events;
      passed = passed ∙ sym (append-nil old.passed);
      left = ap all_left left ∙ sym (append-nil (all_left old.left));
      outs = trace.outs ∙ sym (append-nil old.outs.items);
      lines = trace.lines;
      tracing = trace.tracing;
      at = is_at;
    }

-- ---- who takes a word that comes up
module _ (t : Shape) (tree : IsTree t) (n : ℕ) (there : is_extender t n ≡ true) where
  pub hung : HangsOn t n (on t n)
  hung =
      let both = and_parts (nat_lt 0 n) (nat_lt 0 (slice_index t.ports n)) there in
      record { extender = ltb-true 0 n both.0; there = ltb-true 0 (slice_index t.ports n) both.1; at = refl }

  pub port_above : 64 ≤ on t n → IsPortAt t (on t n)
  port_above deep = record { extender = above_there t tree n there deep; port = tree.on_port n hung.extender hung.there }

pub at_bridge : (s : Site) (l : Limits) (c d : Whole) (n k : ℕ) (x : LinkFrame) (old new : Log) → on s.tree n < 64 → k ≡ on s.tree n → Does (bridge_takes s.tree l k n x (world_in c)) s d old new →
    Does (takes_up s.tree l n x (world_in c)) s d old new
at_bridge s l c d n k x old new low is done =
    rw (lt-ltb (on s.tree n) 64 low) (subst (λ j. Does (bridge_takes s.tree l j n x (world_in c)) s d old new) is done)

pub at_extender : (s : Site) (l : Limits) (c d : Whole) (n p : ℕ) (x : LinkFrame) (old new : Log) → 64 ≤ on s.tree n → p ≡ on s.tree n →
    Does (takes_from_below s.tree (device p) (port_number p) x (world_in c)) s d old new → Does (takes_up s.tree l n x (world_in c)) s d old new
at_extender s l c d n p x old new deep is done =
    rw (le-ltb (on s.tree n) 64 deep) (subst (λ j. Does (takes_from_below s.tree (device j) (port_number j) x (world_in c)) s d old new) is done)

-- ---- arrivals
-- an external port beyond those of the bridge is one of an extender
pub external_at : (t : Shape) (p : ℕ) → is_external t p ≡ true → 64 ≤ p → IsPortAt t p
external_at t p external deep =
    let known : is_port t p ≡ true = (and_parts (is_port t p) (not (is_cascade t p)) external).0 in
    let within = ltb-true (p % 64) (slice_index t.ports (device p)) known in
    record { extender = and_from _ _ (lt-ltb 0 (device p) (omega (arith, deep))) (lt-ltb 0 (slice_index t.ports (device p)) (omega (arith, within))); port = known }

module _ (s : Site) (c d e : Whole) (a : Arrival) (old new : Log) (world : world_in d ≡ counted a (world_in c)) where
  pub arrives_below : a.port < 64 → Does (comes s.tree a (world_in d)) s e old new → Does (arrives s.tree a (world_in c)) s e old new
  arrives_below low done = rw (lt-ltb a.port 64 low) (subst (λ (w : World). Does (comes s.tree a w) s e old new) world done)

  pub arrives_deeper : 64 ≤ a.port → Does (arrives_at s.tree a (world_in d)) s e old new → Does (arrives s.tree a (world_in c)) s e old new
  arrives_deeper deep done = rw (le-ltb a.port 64 deep) (subst (λ (w : World). Does (arrives_at s.tree a w) s e old new) world done)

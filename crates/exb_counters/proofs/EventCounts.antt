-- Counts, event by event.
use Rattle.std.proofs.Common.{◌≡◌, ℕ, ◌+◌, ◌<◌, ◌≤◌, Bool, List, [], ◌∷◌, length, drop, get_or, refl, ap, sym, subst, ◌∙◌, arith}
use Rattle.std.proofs.lemmas.List.{drop_more, drop_all}
use Rattle.std.proofs.lemmas.List.Sums.{sum_by-cons}
use Rattle.exb_model.specs.declared.event.Event.{Event}
use Rattle.exb_counters.specs.declared.counters.Counts5.{Counts5}
use Rattle.exb_counters.specs.declared.counters.Counters.{Counters as Table}
use Rattle.exb_counters.specs.Counters.{relayed_by, ignored_by}
use Rattle.exb_counters.specs.CounterUpdates.{HasPort, counts_at, FitsCounts, rest_after, drops_in, plus_event, plus_events}

fives : (c d : Counts5) → c.relayed ≡ d.relayed → c.dropped ≡ d.dropped → c.ignored ≡ d.ignored → c.left ≡ d.left → c.octets ≡ d.octets → c ≡ d
fives c d r p g l o = λ i. record { relayed = r i; dropped = p i; ignored = g i; left = l i; octets = o i }

-- one event, and then the others
pub one_more : (e : Event) (es : List Event) (said : List Bool) (q : ℕ) (c : Counts5) → plus_events (e ∷ es) said q c ≡ plus_events es (rest_after e said) q (plus_event e said q c)
unfolding drops_in
one_more e es said q c =
    fives (plus_events (e ∷ es) said q c) (plus_events es (rest_after e said) q (plus_event e said q c))
    (let s = sum_by-cons (λ (x : Event). relayed_by x q) e es in omega (arith, s)) (omega arith) (let s = sum_by-cons (λ (x : Event). ignored_by x q) e es in omega (arith, s)) refl refl

pub none_more : (said : List Bool) (q : ℕ) (c : Counts5) → plus_events [] said q c ≡ c
unfolding drops_in
none_more said q c = fives (plus_events [] said q c) c (omega arith) (omega arith) (omega arith) refl refl

-- where the counts fit after events, they did before
pub fits_before : (es : List Event) (said : List Bool) (q : ℕ) (c : Counts5) → FitsCounts (plus_events es said q c) → FitsCounts c
fits_before es said q c f =
    record {
      relayed = (let n = f.relayed in omega (arith, n));
      dropped = (let n = f.dropped in omega (arith, n));
      ignored = (let n = f.ignored in omega (arith, n));
      left = f.left;
      octets = f.octets;
    }

-- the events that are left lead from what is counted so far to the whole, at each port that has counts
pub record LeadsOn (start now : Table) (events : List Event) (k : ℕ) (said rest : List Bool) : Type 0 where
  pub ports : length now.counts.items ≡ length start.counts.items
  pub counts : (q : ℕ) → HasPort start q → plus_events (drop k events) rest q (counts_at now q) ≡ plus_events events said q (counts_at start q)

pub leads_first : (start : Table) (events : List Event) (said : List Bool) → LeadsOn start start events 0 said said
leads_first start events said = record { ports = refl; counts = λ q h. refl }

next_event : (events : List Event) (k : ℕ) (e : Event) → k < length events → e ≡ get_or events k e → drop k events ≡ e ∷ drop (k + 1) events
next_event events k e low is = drop_more events k e low ∙ ap (λ (x : Event). x ∷ drop (k + 1) events) (sym is)

module _ (start now : Table) (events : List Event) (k : ℕ) (said rest : List Bool) (e : Event) (low : k < length events) (is : e ≡ get_or events k e)
    (on : LeadsOn start now events k said rest) where
  after_one : (q : ℕ) → plus_events (drop k events) rest q (counts_at now q) ≡ plus_events (drop (k + 1) events) (rest_after e rest) q (plus_event e rest q (counts_at now q))
  after_one q = ap (λ (es : List Event). plus_events es rest q (counts_at now q)) (next_event events k e low is) ∙ one_more e (drop (k + 1) events) rest q (counts_at now q)

  pub leads_more : (next : Table) (behind : List Bool) → behind ≡ rest_after e rest → length next.counts.items ≡ length now.counts.items →
      ((q : ℕ) → HasPort now q → counts_at next q ≡ plus_event e rest q (counts_at now q)) → LeadsOn start next events (k + 1) said behind
  leads_more next behind left ports counts =
      record {
        ports = ports ∙ on.ports;
        counts = λ q h. ap (λ (bs : List Bool). plus_events (drop (k + 1) events) bs q (counts_at next q)) left
            ∙ ap (plus_events (drop (k + 1) events) (rest_after e rest) q) (counts q (let same = on.ports in omega (arith, same, h)))
            ∙ sym (after_one q)
            ∙ on.counts q h;
      }

  -- the event that comes fits
  pub fits_one : ((q : ℕ) → HasPort start q → FitsCounts (plus_events events said q (counts_at start q))) → (q : ℕ) → HasPort now q → FitsCounts (plus_event e rest q (counts_at now q))
  fits_one fits q h =
      let there : HasPort start q = (let same = on.ports in omega (arith, same, h)) in
      fits_before (drop (k + 1) events) (rest_after e rest) q (plus_event e rest q (counts_at now q))
      (subst FitsCounts (sym (on.counts q there) ∙ after_one q) (fits q there))

pub leads_last : (start now : Table) (events : List Event) (k : ℕ) (said rest : List Bool) → length events ≤ k → LeadsOn start now events k said rest →
    (q : ℕ) → HasPort start q → counts_at now q ≡ plus_events events said q (counts_at start q)
leads_last start now events k said rest end on q h =
    sym (none_more rest q (counts_at now q)) ∙ ap (λ (es : List Event). plus_events es rest q (counts_at now q)) (sym (drop_all k events end)) ∙ on.counts q h

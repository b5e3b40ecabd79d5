-- What a summary counts, as lengths of lists.
use Rattle.std.proofs.Common.{◌≡◌, ℕ, suc, ◌+◌, List, [], ◌∷◌, ◌++◌, length, length-append, reverse, refl, sym, ap, ◌∙◌, arith}
use Rattle.std.specs.Prelude.{Option, Some, None, filter_map, sum_by}
use Rattle.std.specs.List.{cons_option}
use Rattle.std.proofs.lemmas.Grind.{reverse_onto}
use Rattle.std.proofs.lemmas.List.FromFn.{length-range_with_len, length-map-range_with_len}
use Rattle.std.proofs.lemmas.List.Concat.{length-flat_map}
use Rattle.std.proofs.lemmas.List.Elements.{filter_map-append}
use Rattle.std.proofs.lemmas.List.Sums.{sum_by-cons}
use Rattle.std.proofs.lemmas.List.Sorted.{length_permutation}
use Rattle.exb_model.specs.Ports.{all_ports}
use Rattle.exb_model.specs.declared.event.Event.{Event}
use Rattle.exb_model.specs.declared.event.Event.TheVariants as event
use Rattle.exb_model.specs.Tree.{Shape}
use Rattle.exb_model.specs.History.{Basis, History}
use Rattle.exb_model.specs.Input.{Input, basis_of, tree_of}
use Rattle.exb_model.specs.LegalHistory.{number_of, place_of}
use Rattle.exb_model.specs.Texts.{counts}
use Rattle.exb_model_laws.specs.PlayedHistories.{records_at, all_records, record_count, all_numbers, SummaryAddsUp, PlaysInput}
use Rattle.exb_model_laws.proofs.PlayedHistories.{legal_plays_input}

module _ {Y : Type 0} (g : Event → Option Y) where
  length_more : (o : Option Y) (ys : List Y) → length (ys ++ cons_option o []) ≡ length (cons_option o ys)
  length_more None ys = let e = length-append ys [] in omega (arith, e)
  length_more (Some y) ys = let e = length-append ys (y ∷ []) in omega (arith, e)

  same_either_way : (h : History) → length (filter_map g (reverse h)) ≡ length (filter_map g h)
  same_either_way [] = refl
  same_either_way (e ∷ h) =
      ap (λ (es : List Event). length (filter_map g es)) (reverse_onto h e [])
      ∙ ap (λ (ys : List Y). length ys) (filter_map-append g (reverse h) (e ∷ []))
      ∙ length_more (g e) (filter_map g (reverse h))
      ∙ by_value (g e) (same_either_way h)
    where
      by_value : (o : Option Y) → length (filter_map g (reverse h)) ≡ length (filter_map g h) → length (cons_option o (filter_map g (reverse h))) ≡ length (cons_option o (filter_map g h))
      by_value None rest = rest
      by_value (Some y) rest = ap suc rest

module _ (t : Shape) (b : Basis) where
  arrivals_counted : (h : History) → (counts t b h).relayed + (counts t b h).ignored ≡ length (filter_map place_of h)
  unfolding counts
  arrivals_counted [] = refl
  arrivals_counted (event.Relay p n m f ∷ h) = let e = arrivals_counted h in omega (arith, e)
  arrivals_counted (event.Ignored p n ∷ h) = let e = arrivals_counted h in omega (arith, e)
  arrivals_counted (event.Tick s ∷ h) = arrivals_counted h
  arrivals_counted (event.Commit n ∷ h) = arrivals_counted h
  arrivals_counted (event.Refuse n x ∷ h) = arrivals_counted h
  arrivals_counted (event.Up p ∷ h) = arrivals_counted h
  arrivals_counted (event.NoUp p x ∷ h) = arrivals_counted h
  arrivals_counted (event.Settled ∷ h) = arrivals_counted h

  commands_counted : (h : History) → (counts t b h).commits + (counts t b h).refusals ≡ length (filter_map number_of h)
  unfolding counts
  commands_counted [] = refl
  commands_counted (event.Relay p n m f ∷ h) = commands_counted h
  commands_counted (event.Ignored p n ∷ h) = commands_counted h
  commands_counted (event.Tick s ∷ h) = commands_counted h
  commands_counted (event.Commit n ∷ h) = let e = commands_counted h in omega (arith, e)
  commands_counted (event.Refuse n x ∷ h) = let e = commands_counted h in omega (arith, e)
  commands_counted (event.Up p ∷ h) = commands_counted h
  commands_counted (event.NoUp p x ∷ h) = commands_counted h
  commands_counted (event.Settled ∷ h) = commands_counted h

-- ---- how many there are
sum_same : (f g : ℕ → ℕ) → ((p : ℕ) → f p ≡ g p) → (ps : List ℕ) → sum_by f ps ≡ sum_by g ps
sum_same f g same [] = refl
sum_same f g same (p ∷ ps) = sum_by-cons f p ps ∙ ap (λ n. n + sum_by f ps) (same p) ∙ ap (λ n. g p + n) (sum_same f g same ps) ∙ sym (sum_by-cons g p ps)

length_at : (i : Input) (p : ℕ) → length (records_at i p) ≡ length (i.records p)
length_at i p = length-map-range_with_len (λ n. (p, n)) 1 (length (i.records p))

all_counted : (i : Input) → length (all_records i) ≡ record_count i
unfolding all_records record_count
all_counted i = length-flat_map (records_at i) all_ports ∙ sum_same (λ p. length (records_at i p)) (λ p. length (i.records p)) (length_at i) all_ports

pub summary_adds_up : SummaryAddsUp
summary_adds_up m i h legal =
    let plays : PlaysInput i h = legal_plays_input m i h legal in
    let records = length_permutation (filter_map place_of (reverse h)) (all_records i) plays.records in
    let commands = length_permutation (filter_map number_of (reverse h)) (all_numbers i) plays.commands in
    let arrivals = arrivals_counted (tree_of i) (basis_of i) h in
    let orders = commands_counted (tree_of i) (basis_of i) h in
    let first = same_either_way place_of h in
    let second = same_either_way number_of h in
    let there = all_counted i in
    let given : length (all_numbers i) ≡ length i.commands = length-range_with_len 1 (length i.commands) in
    record { records = omega (arith, records, arrivals, first, there); commands = omega (arith, commands, orders, second, given) }

-- As many groups are in use as the configuration has sets.
use Rattle.std.proofs.Common.{◌≡◌, ℕ, ◌+◌, ◌<◌, ◌≤◌, true, not, List, Option, Some, None, length, map, filter, refl, ◌∙◌, ap, arith}
use Rattle.std.specs.Prelude.{count_by, is_some, bytes_eq}
use Rattle.std.specs.List.{list_any, range_with_len}
use Rattle.std.proofs.lemmas.Bool.{false≢true}
use Rattle.std.proofs.lemmas.List.{length-map}
use Rattle.std.proofs.lemmas.List.Sums.{length-filter}
use Rattle.exb_model.specs.Tree.{Shape, is_cascade}
use Rattle.exb_model.specs.Configuration.{Bridge}
use Rattle.exb_model.specs.Refusals.{is_empty_set, sets_at}
use Rattle.exb_control_spec.specs.Plans.HeldNumbers.{Held, HoldsNeeded, group_in, group_used}
use Rattle.exb_control_spec.specs.Plans.FreshSets.{how_many}
use Rattle.exb_control_spec.proofs.Plans.UsedNumbers.{few_used}
use Rattle.exb_control_spec.proofs.Plans.SetFacts.{bytes_is, bytes_itself, space_sets_apart, count_at}
use Rattle.exb_control_spec.proofs.Plans.GroupOwners.{Owns, owns_from, IsGroupOf, group_found}
use Rattle.exb_control_spec.specs.Plans.TouchedPartLaws.{UsedAreSets}
use Rattle.exb_control_spec.proofs.Plans.ListCovers.{few_covered, each_there, image_there}

some_there : {X : Type 0} (o : Option X) → is_some o ≡ true → (x : X) × (o ≡ Some x)
some_there None e = absurd (false≢true e)
some_there (Some x) e = (x, refl)

module _ (t : Shape) (b : Bridge) (h : Held) (k : ℕ) (needed : HoldsNeeded t b h) (low : k < 64) (cascade : is_cascade t k ≡ true) where
  -- the groups of the place own its sets
  owns : Owns h k (λ set. list_any (bytes_eq set) (sets_at t k b))
  owns = owns_from h k (λ set. list_any (bytes_eq set) (sets_at t k b)) (λ set. needed.groups k set low cascade) (λ g u. needed.one_group k g low cascade u)

  -- each group in use is of another set
  no_more : (a n : ℕ) → how_many (group_used h k) (range_with_len a n) ≤ length (sets_at t k b)
  no_more a n = few_used bytes_eq bytes_is (h.set k) (group_used h k) (λ g m u w e. owns.one g m u e) a n (sets_at t k b) (λ g l u. owns.sound g u)

  -- each set has a group in use
  has_group : (a n : ℕ) → a ≡ 4096 → a + n ≡ 16384 → (set : List ℕ) → list_any (bytes_eq set) (sets_at t k b) ≡ true →
      list_any (bytes_eq set) (map (h.set k) (filter (group_used h k) (range_with_len a n))) ≡ true
  has_group a n first end set e =
      let f : (g : ℕ) × (group_in h k set ≡ Some g) = some_there (group_in h k set) (needed.groups k set low cascade ∙ e) in
      let r : IsGroupOf h k set f.0 = group_found h k set f.0 f.1 in
      let above = r.low in
      let under = r.high in
      image_there (bytes_eq set) (h.set k) (group_used h k) a n f.0 (omega (arith, above, first)) (omega (arith, under, end))
      (ap (λ s. not (is_empty_set s)) r.is ∙ ap not r.some) (ap (bytes_eq set) r.is ∙ bytes_itself set)

  no_fewer : (a n : ℕ) → a ≡ 4096 → a + n ≡ 16384 → length (sets_at t k b) ≤ how_many (group_used h k) (range_with_len a n)
  no_fewer a n first end =
      let held = map (h.set k) (filter (group_used h k) (range_with_len a n)) in
      let few : length (sets_at t k b) ≤ length held =
      few_covered is_empty_set bytes_eq bytes_is bytes_itself (sets_at t k b) held (space_sets_apart t b k)
      (each_there is_empty_set bytes_eq bytes_is bytes_itself (λ set. list_any (bytes_eq set) held ≡ true) (sets_at t k b) (sets_at t k b) (λ set e. e) (has_group a n first end)) in
      let long : length held ≡ how_many (group_used h k) (range_with_len a n) = length-map (filter (group_used h k) (range_with_len a n)) (h.set k) in
      omega (arith, few, long)

  in_use : (a n : ℕ) → a ≡ 4096 → a + n ≡ 16384 → count_by (group_used h k) (range_with_len a n) ≡ length (sets_at t k b)
  in_use a n first end =
      let count : how_many (group_used h k) (range_with_len a n) ≡ count_by (group_used h k) (range_with_len a n) = length-filter (group_used h k) (range_with_len a n) in
      let more = no_more a n in
      let fewer = no_fewer a n first end in
      omega (arith, count, more, fewer)

pub used_are_sets : UsedAreSets
used_are_sets t b h k needed low cascade = in_use t b h k needed low cascade 4096 12288 refl refl ∙ count_at t b k low

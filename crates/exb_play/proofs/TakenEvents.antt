-- What is taken from a programme, one after another.
use Rattle.std.proofs.Common.{◌≡◌, inl, inr, ℕ, true, false, zero, suc, ◌+◌, ◌*◌, ◌^◌, ◌<◌, ◌≤◌, ◌==◌, Bool, List, [], ◌∷◌, ◌++◌, length, map, drop, take, filter, refl, ap, sym, subst, ◌∙◌, arith, eq-eqb, append_assoc, length-append}
use Rattle.std.specs.Prelude.{Some, if◌then◌else◌, filter_map, slice_get}
use Rattle.std.specs.List.{AllByRecursion}
use Rattle.std.proofs.lemmas.Bool.{cases_eq, ne_eqb}
use Rattle.std.proofs.lemmas.List.{append-nil}
use Rattle.std.proofs.lemmas.List.Elements.{filter-append}
use Rattle.exb_model.specs.declared.setup.Timed.{Timed}
use Rattle.exb_model.specs.declared.command.Command.{Command}
use Rattle.exb_model.specs.History.{command_of}
use Rattle.exb_model.specs.declared.arrival.Arrival.{Arrival}
use Rattle.exb_model.specs.Input.{Input, Coming, Ordered, Captured, Mode, Eager, Seeded, alone, arrival_in, basis_of, given_by, groups_in, moment_of, number_in, second_of, tree_of}
use Rattle.exb_model.specs.Tree.{is_external}
use Rattle.exb_timeline.specs.MergeOrder.{begins_in}
use Rattle.exb_timeline.specs.declared.bridge_timeline.Next.{Next}
use Rattle.exb_timeline.specs.declared.bridge_timeline.Next.TheVariants as next
use Rattle.exb_timeline.specs.declared.bridge_timeline.Timeline.{Timeline}
use Rattle.exb_timeline.specs.Timelines.{IsComing, IsFrom, left_of, what}
use Rattle.exb_timeline.specs.CaptureMerges.{HasCome, HasPort, Standing, gone_on, ids_in, left_in, number_of, standings}
use Rattle.exb_timeline.proofs.TimelineProgress.{command_is, from_earlier, has_before, number_other, number_own, second_high, second_low}
use Rattle.exb_play.specs.RunInvariants.{ComeAll, second_by}
use Rattle.exb_play.proofs.SegmentLemmas.{together}

-- what came, without where it lies in memory
abbrev pub came_by : List Next → List Coming
came_by ds = map what ds

-- and its arrivals
abbrev pub arrivals_by : List Next → List Arrival
arrivals_by ds = filter_map arrival_in (came_by ds)

-- ---- lists
pub arrivals-append : (xs ys : List Coming) → filter_map arrival_in (xs ++ ys) ≡ filter_map arrival_in xs ++ filter_map arrival_in ys
arrivals-append [] ys = refl
arrivals-append (Ordered moment n ∷ xs) ys = arrivals-append xs ys
arrivals-append (Captured a ∷ xs) ys = ap (λ (came : List Arrival). a ∷ came) (arrivals-append xs ys)

drop-got : {X : Type 0} (xs : List X) (k : ℕ) (x : X) → slice_get xs k ≡ Some x → drop k xs ≡ x ∷ drop (suc k) xs
drop-got [] k x is = absurd (cc)
drop-got (y ∷ xs) zero x is = ap (λ z. z ∷ xs) (own is)
  where
    own : Some y ≡ Some x → y ≡ x
    own e = cc
drop-got (y ∷ xs) (suc k) x is = drop-got xs k x is

got-within : {X : Type 0} (xs : List X) (k : ℕ) → k < length xs → (x : X) × (slice_get xs k ≡ Some x)
got-within [] k low = absurd (omega (arith, low))
got-within (y ∷ xs) zero low = (y, refl)
got-within (y ∷ xs) (suc k) low = got-within xs k (omega (arith, low))

pub take-front : {X : Type 0} (xs ys : List X) → take (length xs) (xs ++ ys) ≡ xs
take-front [] ys = refl
take-front (x ∷ xs) ys = ap (λ zs. x ∷ zs) (take-front xs ys)

-- ---- one after another
pub comes-commands : (a b : Timeline) (ds : List Next) → ComeAll a ds b → b.commands.now ≡ a.commands.now
comes-commands a b [] is = ap (λ (x : Timeline). x.commands.now) (sym is)
comes-commands a b (d ∷ ds) (n, one, rest) = comes-commands n b ds rest ∙ one.commands

pub comes-start : (a b : Timeline) (ds : List Next) → ComeAll a ds b → b.start ≡ a.start
comes-start a b [] is = ap (λ (x : Timeline). x.start) (sym is)
comes-start a b (d ∷ ds) (n, one, rest) = comes-start n b ds rest ∙ one.start

pub comes-ids : (a b : Timeline) (ds : List Next) → ComeAll a ds b → ids_in b.captures ≡ ids_in a.captures
comes-ids a b [] is = ap (λ (x : Timeline). ids_in x.captures) (sym is)
comes-ids a b (d ∷ ds) (n, one, rest) = comes-ids n b ds rest ∙ one.ids

-- 16 bytes for each arrival
pub comes-size : (a b : Timeline) (ds : List Next) → ComeAll a ds b → 16 * length (arrivals_by ds) + left_in b.captures ≤ left_in a.captures
comes-size a b [] is = let same = ap (λ (x : Timeline). left_in x.captures) is in omega (arith, same)
comes-size a b (next.Command number moment ∷ ds) (n, one, rest) = let own = one.size in let later = comes-size n b ds rest in omega (arith, own, later)
comes-size a b (next.Record c ∷ ds) (n, one, rest) = let own = one.size in let later = comes-size n b ds rest in omega (arith, own, later)

-- less is left
comes-most : (a b : Timeline) (ds : List Next) → ComeAll a ds b → left_of b ≤ left_of a
comes-most a b [] is = let same = ap left_of is in omega (arith, same)
comes-most a b (d ∷ ds) (n, one, rest) = let own = one.left in let later = comes-most n b ds rest in omega (arith, own, later)

pub comes-fewer : (a b : Timeline) (d : Next) (ds : List Next) → ComeAll a (d ∷ ds) b → left_of b < left_of a
comes-fewer a b d ds (n, one, rest) = let own = one.left in let later = comes-most n b ds rest in omega (arith, own, later)

-- ---- moments
-- nothing that is left comes before the second of what was taken
pub comes-from : (a b : Timeline) (d : Next) (ds : List Next) (second : ℕ) → ComeAll a (d ∷ ds) b → second_by d ≡ second → AllByRecursion (λ x. second_by x ≡ second) ds →
    IsFrom (second * 1_000_000_000) b
comes-from a b d [] second (n, one, is) own all =
    from_earlier (second * 1_000_000_000) (moment_of (what d)) b (second_low (moment_of (what d)) second own)
    (subst (IsFrom (moment_of (what d))) is one.rises)
comes-from a b d (e ∷ ds) second (n, one, rest) own all = comes-from n b e ds second rest all.0 all.1

-- what comes is of no earlier second than this
pub comes-later : (a n : Timeline) (d : Next) (last : ℕ) → IsComing a d n → IsFrom (last * 1_000_000_000) a → last ≤ second_by d
comes-later a n d last one from = second_high (moment_of (what d)) last (one.fell (last * 1_000_000_000) from)

-- ---- the commands of what was taken
numbered-command : (i : Input) (a : Timeline) (number : ℕ) (c : Timed) → i.commands ≡ map given_by a.commands.now → number ≡ a.taken + 1 → slice_get a.commands.now a.taken ≡ Some c →
    command_of (basis_of i) number ≡ Some c.command
numbered-command i a number c given next is =
    let own : number ≡ suc a.taken = omega (arith, next) in
    ap (command_of (basis_of i)) own ∙ command_is i a.commands.now a.taken c given is

-- they stand in a row, and are those of their numbers
pub record HasCommands (i : Input) (a b : Timeline) (ds : List Next) : Type 0 where
  pub given : List Timed
  pub row : drop a.taken a.commands.now ≡ given ++ drop b.taken b.commands.now
  pub many : b.taken ≡ a.taken + length given
  pub numbers : filter_map (command_of (basis_of i)) (filter_map number_in (came_by ds)) ≡ map (λ c. c.command) given

pub has-commands : (i : Input) (a b : Timeline) (ds : List Next) → i.commands ≡ map given_by a.commands.now → ComeAll a ds b → HasCommands i a b ds
has-commands i a b [] given is = record {
  given = [];
  row = ap (λ (x : Timeline). drop x.taken x.commands.now) is;
  many = (let same = ap (λ (x : Timeline). x.taken) is in omega (arith, same));
  numbers = refl;
}
has-commands i a b (next.Record r ∷ ds) given (n, one, rest) =
    let later = has-commands i n b ds (given ∙ ap (map given_by) (sym one.commands)) rest in
    let same : n.taken ≡ a.taken = one.is.1 in
    record {
      given = later.given;
      row = ap (λ k. drop k a.commands.now) (sym same) ∙ ap (drop n.taken) (sym one.commands) ∙ later.row;
      many = later.many ∙ ap (λ k. k + length later.given) same;
      numbers = later.numbers;
    }
has-commands i a b (next.Command number moment ∷ ds) given (n, one, rest) =
    let later = has-commands i n b ds (given ∙ ap (map given_by) (sym one.commands)) rest in
    let (numbered, within, more, still) = one.is in
    let (c, found) = got-within a.commands.now a.taken within in
    let next : n.taken ≡ suc a.taken = omega (arith, more) in
    let own = numbered-command i a number c given numbered found in
    record {
      given = c ∷ later.given;
      row =
          drop-got a.commands.now a.taken c found ∙ ap (λ k. c ∷ drop k a.commands.now) (sym next) ∙ ap (λ (cs : List Timed). c ∷ drop n.taken cs) (sym one.commands)
          ∙ ap (λ (cs : List Timed). c ∷ cs) later.row;
      many = (let all = later.many in omega (arith, all, next));
      numbers = here number (filter_map number_in (came_by ds)) c own ∙ ap (λ (cs : List Command). c.command ∷ cs) later.numbers;
    }
  where
    here : (k : ℕ) (ks : List ℕ) (c : Timed) → command_of (basis_of i) k ≡ Some c.command →
        filter_map (command_of (basis_of i)) (k ∷ ks) ≡ c.command ∷ filter_map (command_of (basis_of i)) ks
    here k ks c e = rw e refl

-- ---- the arrivals of what was taken
-- within the limits of a record
pub record IsFit (a : Arrival) : Type 0 where
  pub moment : a.moment < 2 ^ 32 * 1_000_000_000
  pub few : a.index < 2 ^ 63
  pub short : length a.bytes ≤ 262144

pub arrivals-fit : (a b : Timeline) (ds : List Next) → ComeAll a ds b → AllByRecursion IsFit (arrivals_by ds)
arrivals-fit a b [] is = tt
arrivals-fit a b (next.Command number moment ∷ ds) (n, one, rest) = arrivals-fit n b ds rest
arrivals-fit a b (next.Record c ∷ ds) (n, one, rest) = (record { moment = one.is.0.moment; few = one.is.0.numbers; short = one.is.0.bytes }, arrivals-fit n b ds rest)

-- ---- the places of arrivals among those of their ports
abbrev pub at_port : ℕ → List Arrival → List Arrival
at_port p came = filter (λ a. a.port == p) came

-- one arrival more
pub at-more : (q : ℕ) (before : List Arrival) (a : Arrival) (own : Bool) → (a.port == q) ≡ own → length (at_port q (before ++ a ∷ [])) ≡ length (at_port q before) + (if own then 1 else 0)
at-more q before a own is =
    ap (λ (xs : List Arrival). length xs) (filter-append (λ (b : Arrival). b.port == q) before (a ∷ [])) ∙ length-append (at_port q before) (at_port q (a ∷ []))
    ∙ ap (λ n. length (at_port q before) + n) (one (a.port == q) ∙ ap (λ (b : Bool). if b then 1 else 0) is)
  where
    one : (b : Bool) → length (if b then a ∷ [] else []) ≡ (if b then 1 else 0)
    one true = refl
    one false = refl

-- the next record of each port has the number behind the arrivals so far
abbrev pub AreCounted : List Arrival → Timeline → Type 0
AreCounted before p = (q : ℕ) → length (at_port q before) + 1 ≡ number_of (standings p.captures) q

-- its index follows those of its port before it, and its port is external
pub record HasPlace (i : Input) (before : List Arrival) (a : Arrival) : Type 0 where
  pub index : a.index ≡ length (at_port a.port before) + 1
  pub external : is_external (tree_of i) a.port ≡ true

-- each of some arrivals, behind those before it
abbrev pub HavePlaces : Input → List Arrival → List Arrival → Type 0
HavePlaces i before [] = Unit {0}
HavePlaces i before (a ∷ came) = HasPlace i before a × HavePlaces i (before ++ a ∷ []) came

abbrev pub AreExternal : Input → Timeline → Type 0
AreExternal i p = (q : ℕ) → HasPort q (standings p.captures) → is_external (tree_of i) q ≡ true

-- what was taken has its places, and what is left goes on behind it
pub record GoesOnBehind (i : Input) (before came : List Arrival) (b : Timeline) : Type 0 where
  pub places : HavePlaces i before came
  pub counted : AreCounted (before ++ came) b
  pub external : AreExternal i b

counted-more : (before : List Arrival) (c : Arrival) (a n : Timeline) → AreCounted before a → HasCome (standings a.captures) c (standings n.captures) → AreCounted (before ++ c ∷ []) n
counted-more before c a n counted come q = elim (cases_eq c.port q) [
  | inl same ↦
      let own : number_of (standings n.captures) q ≡ suc (number_of (standings a.captures) q) =
      ap (λ (ss : List Standing). number_of ss q) come.gone
      ∙ subst (λ (r : ℕ). number_of (gone_on c.port c.moment (standings a.captures)) r ≡ suc (number_of (standings a.captures) r)) same (number_own c.port c.moment (standings a.captures) come.port) in
      let more = at-more q before c true (eq-eqb c.port q same) in
      let was = counted q in
      omega (arith, own, more, was)
  | inr other ↦
      let own : number_of (standings n.captures) q ≡ number_of (standings a.captures) q = ap (λ (ss : List Standing). number_of ss q) come.gone ∙ number_other c.port c.moment q (standings a.captures) other in
      let more = at-more q before c false (ne_eqb c.port q other) in
      let was = counted q in
      omega (arith, own, more, was)
]

external-more : (i : Input) (c : Arrival) (a n : Timeline) → AreExternal i a → HasCome (standings a.captures) c (standings n.captures) → AreExternal i n
external-more i c a n external come q has = external q (has_before c.port c.moment q (standings a.captures) (subst (HasPort q) come.gone has))

pub goes-behind : (i : Input) (before : List Arrival) (a b : Timeline) (ds : List Next) → ComeAll a ds b → AreCounted before a → AreExternal i a → GoesOnBehind i before (arrivals_by ds) b
goes-behind i before a b [] is counted external = record {
  places = tt;
  counted = subst (λ (xs : List Arrival). AreCounted xs b) (sym (append-nil before)) (subst (AreCounted before) is counted);
  external = subst (AreExternal i) is external;
}
goes-behind i before a b (next.Command number moment ∷ ds) (n, one, rest) counted external =
    let (numbered, within, more, same) = one.is in
    goes-behind i before n b ds rest (λ q. counted q ∙ ap (λ (ss : List Standing). number_of ss q) (sym same)) (λ q has. external q (subst (HasPort q) same has))
goes-behind i before a b (next.Record c ∷ ds) (n, one, rest) counted external =
    let come = one.is.0 in
    let later = goes-behind i (before ++ c ∷ []) n b ds rest (counted-more before c a n counted come) (external-more i c a n external come) in
    record {
      places = (record { index = (let own = come.number in let was = counted c.port in omega (arith, own, was)); external = external c.port come.port }, later.places);
      counted = subst (λ (xs : List Arrival). AreCounted xs b) (append_assoc before (c ∷ []) (arrivals_by ds)) later.counted;
      external = later.external;
    }

-- ---- the group of what was taken
within-came : (second : ℕ) (ds : List Next) → AllByRecursion (λ d. second_by d ≡ second) ds → AllByRecursion (λ x. second_of (moment_of x) ≡ second) (came_by ds)
within-came second [] all = tt
within-came second (d ∷ ds) all = (all.0, within-came second ds all.1)

pub group-is : (m : Mode) (first : Next) (more : List Next) (ys : List Coming) → (m ≡ Eager → more ≡ []) → AllByRecursion (λ d. second_by d ≡ second_by first) more →
    (m ≡ Seeded → begins_in (second_by first) ys ≡ false) →
    groups_in m (came_by (first ∷ more) ++ ys) ≡ record { second = second_by first; comings = came_by (first ∷ more) } ∷ groups_in m ys
group-is Eager first [] ys alone within whole = refl
group-is Eager first (d ∷ ds) ys alone within whole = absurd (let none = alone refl in cc)
group-is Seeded first more ys alone within whole = together (second_by first) (what first) (came_by more) ys refl (within-came (second_by first) more within) (whole refl)

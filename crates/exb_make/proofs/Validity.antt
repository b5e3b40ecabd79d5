-- The setup of each input that is made is valid.
use Rattle.std.proofs.Common.{◌≡◌, ◌≢◌, ℕ, ◌+◌, ◌<◌, ◌≤◌, ◌==◌, Bool, true, false, if◌then◌else◌, List, [], ◌∷◌, get_or, All, AllPairs, sym, subst, arith, inr}
use Rattle.std.proofs.lemmas.List.Elements.{All-append, All-nil, All-cons, filter_passes}
use Rattle.std.proofs.lemmas.List.Kept.{AllPairs-cons}
use Rattle.exb_model.specs.declared.command.Command.{Command}
use Rattle.exb_model.specs.declared.command.Command.TheVariants as command
use Rattle.exb_model.specs.declared.setup.Place.{Place}
use Rattle.exb_model.specs.declared.setup.Place.TheVariants as place
use Rattle.exb_model.specs.declared.setup.ExtenderSetup.{ExtenderSetup}
use Rattle.exb_model.specs.declared.vlan.Kind.TheVariants as kind
use Rattle.exb_model.specs.Ports.{all_ports}
use Rattle.exb_model.specs.Tree.{Shape, IsTree, is_external, external_ports, cascades_under}
use Rattle.exb_model.specs.Setup.{IsValid, IsStart, InRange, IsPlace}
use Rattle.rand_pcg.specs.Lcg.{Lcg}
use Rattle.exb_make.specs.Draws.{drawn, generator_of}
use Rattle.exb_make.specs.GeneratedTree.{site, site_ports, setup_with, extenders, hung}
use Rattle.exb_make.specs.DrawOrder.{member_of, membership, members, memberships, pvid, pvids}
use Rattle.exb_make.specs.GeneratedInputs.{all_drawn, made, MadeIsValid}
use Rattle.exb_make.proofs.GeneratedTree.{site_tree, shape-is, few_cascades}
use Rattle.exb_make.proofs.DrawLoops.{each-all}

-- ---- its ports are external
pub all_external : All (λ p. is_external site p ≡ true) site_ports
unfolding site_ports external_ports
all_external = filter_passes (is_external site) all_ports

-- ---- the start
abbrev CanStart : Command → Type 0
CanStart = IsStart site

member-starts : (v p r : ℕ) → is_external site p ≡ true → All CanStart (member_of v p r)
member-starts v p r is = by_tests (r == 0) (r == 1)
  where
    by_tests : (a b : Bool) → All CanStart (if a then [] else (if b then command.Member v p kind.Tagged ∷ [] else command.Member v p kind.Untagged ∷ []))
    by_tests true b = All-nil CanStart
    by_tests false true = All-cons CanStart (command.Member v p kind.Tagged) [] is (All-nil CanStart)
    by_tests false false = All-cons CanStart (command.Member v p kind.Untagged) [] is (All-nil CanStart)

membership-starts : (v p : ℕ) (g : Lcg) → is_external site p ≡ true → All CanStart (membership v p g).0
unfolding membership
membership-starts v p g is = member-starts v p (drawn 3 g).0 is

members-start : (v : ℕ) (g : Lcg) → Unit {0} → All CanStart (members v g).0
unfolding members
members-start v g _ = each-all (membership v) CanStart (λ p. is_external site p ≡ true) (membership-starts v) site_ports all_external g

memberships-start : (g : Lcg) → All CanStart (memberships g).0
unfolding memberships
memberships-start g = each-all members CanStart (λ v. Unit {0}) members-start (1 ∷ 2 ∷ 3 ∷ 4 ∷ []) (λ k d l. tt) g

pvid-starts : (p : ℕ) (g : Lcg) → is_external site p ≡ true → All CanStart (pvid p g).0
unfolding pvid
pvid-starts p g is = All-cons CanStart (command.Pvid p (1 + (drawn 4 g).0)) [] is (All-nil CanStart)

pvids-start : (g : Lcg) → All CanStart (pvids g).0
unfolding pvids
pvids-start g = each-all pvid CanStart (λ p. is_external site p ≡ true) pvid-starts site_ports all_external g

start-starts : (g : Lcg) → All CanStart (all_drawn g).start
unfolding all_drawn
start-starts g = All-append CanStart (memberships g).0 (pvids (memberships g).1).0 (memberships-start g) (pvids-start (memberships g).1)

-- ---- the extenders
in_range : (n : ℕ) (on : Place) → 1 ≤ n → n ≤ 64 → IsPlace on → InRange (hung n on)
in_range n on low high at = record { numbered = low; number = high; some = omega arith; ports = omega arith; place = at }

-- the last ones, from x6 up
abbrev last1 : List ExtenderSetup
last1 = hung 6 (place.Extender 5 8) ∷ []

abbrev last2 : List ExtenderSetup
last2 = hung 5 (place.Extender 2 8) ∷ last1

abbrev last3 : List ExtenderSetup
last3 = hung 4 (place.Extender 3 8) ∷ last2

abbrev last4 : List ExtenderSetup
last4 = hung 3 (place.Extender 1 8) ∷ last3

abbrev last5 : List ExtenderSetup
last5 = hung 2 (place.Bridge 2) ∷ last4

ranged : All InRange extenders
ranged =
    All-cons InRange (hung 1 (place.Bridge 1)) last5 (in_range 1 (place.Bridge 1) (omega arith) (omega arith) (omega arith, omega arith))
    (All-cons InRange (hung 2 (place.Bridge 2)) last4 (in_range 2 (place.Bridge 2) (omega arith) (omega arith) (omega arith, omega arith))
    (All-cons InRange (hung 3 (place.Extender 1 8)) last3 (in_range 3 (place.Extender 1 8) (omega arith) (omega arith) (omega arith, omega arith, omega arith, omega arith))
    (All-cons InRange (hung 4 (place.Extender 3 8)) last2 (in_range 4 (place.Extender 3 8) (omega arith) (omega arith) (omega arith, omega arith, omega arith, omega arith))
    (All-cons InRange (hung 5 (place.Extender 2 8)) last1 (in_range 5 (place.Extender 2 8) (omega arith) (omega arith) (omega arith, omega arith, omega arith, omega arith))
    (All-cons InRange (hung 6 (place.Extender 5 8)) [] (in_range 6 (place.Extender 5 8) (omega arith) (omega arith) (omega arith, omega arith, omega arith, omega arith)) (All-nil InRange))))))

abbrev Apart : ExtenderSetup → ExtenderSetup → Type 0
Apart a b = a.number ≢ b.number

-- each number is above those before it
above : (n : ℕ) (es : List ExtenderSetup) → All (λ e. n < e.number) es → (on : Place) → All (Apart (hung n on)) es
above n es all on = λ k d l. let h : n < (get_or es k d).number = all k d l in λ e. absurd (omega (arith, h, e))

rising : (n : ℕ) (on : Place) (es : List ExtenderSetup) → All (λ e. n < e.number) es → AllPairs Apart es → AllPairs Apart (hung n on ∷ es)
rising n on es all rest = AllPairs-cons Apart (hung n on) es (above n es all on) rest

lower : (m n : ℕ) (on : Place) (es : List ExtenderSetup) → m < n → All (λ e. n < e.number) es → All (λ e. m < e.number) (hung n on ∷ es)
lower m n on es l all = All-cons (λ e. m < e.number) (hung n on) es l (λ k d h. let b : n < (get_or es k d).number = all k d h in omega (arith, b))

apart : AllPairs Apart extenders
apart =
    let six : All (λ (e : ExtenderSetup). 6 < e.number) [] = All-nil (λ (e : ExtenderSetup). 6 < e.number) in
    let five = lower 5 6 (place.Extender 5 8) [] (omega arith) six in
    let four = lower 4 5 (place.Extender 2 8) last1 (omega arith) five in
    let three = lower 3 4 (place.Extender 3 8) last2 (omega arith) four in
    let two = lower 2 3 (place.Extender 1 8) last3 (omega arith) three in
    let first = lower 1 2 (place.Bridge 2) last4 (omega arith) two in
    rising 1 (place.Bridge 1) last5 first
    (rising 2 (place.Bridge 2) last4 two
    (rising 3 (place.Extender 1 8) last3 three
    (rising 4 (place.Extender 3 8) last2 four
    (rising 5 (place.Extender 2 8) last1 five
    (rising 6 (place.Extender 5 8) [] six (λ i j d l h. absurd (omega arith)))))))

valid : (start : List Command) → All CanStart start → IsValid (setup_with start)
valid start all = record {
  some_ports = omega arith;
  ports = omega arith;
  some_channels = omega arith;
  channels = omega arith;
  some_groups = omega arith;
  groups = omega arith;
  ageing = inr (omega arith, omega arith);
  ranges = ranged;
  distinct = apart;
  tree = subst IsTree (sym (shape-is start)) site_tree;
  enough_channels = λ k l. subst (λ (t : Shape). cascades_under t k ≤ 4094) (sym (shape-is start)) (few_cascades k);
  start = subst (λ (t : Shape). All (IsStart t) start) (sym (shape-is start)) all;
}

pub made_valid : MadeIsValid
unfolding made
made_valid number = valid (all_drawn (generator_of number)).start (start-starts (generator_of number))

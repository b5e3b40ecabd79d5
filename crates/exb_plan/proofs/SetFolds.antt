-- Sets that are put one after another.
use Rattle.std.proofs.Common.{◌≡◌, ℕ, zero, suc, ◌+◌, ◌-◌, ◌<◌, ◌≤◌, length, get_or, take, arith, ◌&&◌, ◌||◌, Bool, true, false, cond, List, [], ◌∷◌, ◌++◌, Option, Some, None, filter, map, fold, refl, sym, ◌∙◌, ap}
use Rattle.std.specs.List.{list_any, flat_map, range_with_len}
use Rattle.std.specs.Prelude.{is_some}
use Rattle.std.proofs.lemmas.Bool.{false≢true, false_from_ne_true}
use Rattle.std.proofs.lemmas.List.{append-nil}
use Rattle.std.proofs.lemmas.List.Concat.{flat_map-append}
use Rattle.std.proofs.lemmas.List.Sums.{fold-append}
use Rattle.exb_model.specs.declared.vlan.Kind.{Kind}
use Rattle.exb_model.specs.declared.vlan.Kind.TheVariants.{Tagged, Untagged}
use Rattle.exb_model.specs.Ports.{port_in}
use Rattle.exb_model.specs.Tree.{Shape, is_under}
use Rattle.exb_model.specs.Configuration.{Bridge, is_known}
use Rattle.exb_model.specs.declared.rules.StaticAt.{StaticAt}
use Rattle.exb_model.specs.Refusals.{Source, sources, all_vids, both_kinds, part, is_kind, is_empty_set, bridge_ports}
use Rattle.exb_model.proofs.PortLemmas.{range-more, any_below-true, filter_below-agree, filter_below-none}
use Rattle.exb_control_spec.specs.declared.plan.set_at.SetAt.{SetAt}
use Rattle.exb_plan.specs.Parts.{has_ports, some_parts, Adds}
use Rattle.exb_control_spec.specs.Plans.Sets.{PortsAt, parts_of, parts_below, is_same_set, with_set_at, sets_of, seen}
use Rattle.exb_control_spec.specs.Plans.TouchedParts.{parts_where}
use Rattle.exb_control_spec.proofs.Plans.ListTests.{flat_map-same}
use Rattle.exb_control_spec.proofs.Plans.Commands.{where_all}
use Rattle.exb_control_spec.proofs.Plans.DistinctLists.{any-append}
use Rattle.exb_control_spec.proofs.Plans.GroupClaims.{set_itself}
use Rattle.exb_plan.proofs.Lists.{image_next}
use Rattle.exb_plan.proofs.PartLists.{part_is}

-- ---- one set
pub with_set-none : (sets : List PortsAt) (s : PortsAt) → (is_empty_set s.ports || list_any (is_same_set s) sets) ≡ true → with_set_at sets s ≡ sets
with_set-none sets s h = rw h refl

-- put once more it changes nothing
pub put_again : (sets : List PortsAt) (s : PortsAt) → with_set_at (with_set_at sets s) s ≡ with_set_at sets s
put_again sets s = by_test (is_empty_set s.ports || list_any (is_same_set s) sets) refl
  where
    there : (is_empty_set s.ports || list_any (is_same_set s) (sets ++ s ∷ [])) ≡ true
    there = rw (any-append (is_same_set s) sets (s ∷ []), set_itself s) (last (is_empty_set s.ports) (list_any (is_same_set s) sets))
      where
        last : (e a : Bool) → (e || (a || true)) ≡ true
        last true a = refl
        last false true = refl
        last false false = refl

    by_test : (e : Bool) → (is_empty_set s.ports || list_any (is_same_set s) sets) ≡ e → with_set_at (with_set_at sets s) s ≡ with_set_at sets s
    by_test true h = ap (λ (l : List PortsAt). with_set_at l s) (with_set-none sets s h)
    by_test false h = rw h (with_set-none (sets ++ s ∷ []) s there)

-- one that is the same as the one before it is there already
pub put_repeated : (old : List PortsAt) (xs : List SetAt) (i : ℕ) (x y : SetAt) → 1 ≤ i → i < length xs → x ≡ get_or xs i x → y ≡ get_or xs (i - 1) y → seen x ≡ seen y →
    fold with_set_at old (map seen (take i xs)) ≡ fold with_set_at old (map seen (take (i + 1) xs))
put_repeated old xs zero x y some within x_is y_is same = absurd (omega arith)
put_repeated old xs (suc j) x y some within x_is y_is same =
    let now : List PortsAt = fold with_set_at old (map seen (take j xs)) in
    let next : suc j ≡ j + 1 = omega arith in
    let place : suc j - 1 ≡ j = omega arith in
    let first : fold with_set_at old (map seen (take (suc j) xs)) ≡ with_set_at now (seen y) =
    ap (λ (n : ℕ). fold with_set_at old (map seen (take n xs))) next
    ∙ (ap (fold with_set_at old) (image_next seen xs j y (omega (arith, within)) (y_is ∙ ap (λ (n : ℕ). get_or xs n y) place))
    ∙ fold-append with_set_at old (map seen (take j xs)) (seen y ∷ [])) in
    sym (ap (fold with_set_at old) (image_next seen xs (suc j) x within x_is)
    ∙ (fold-append with_set_at old (map seen (take (suc j) xs)) (seen x ∷ [])
    ∙ (ap (λ (s : PortsAt). with_set_at (fold with_set_at old (map seen (take (suc j) xs))) s) same
    ∙ (ap (λ (l : List PortsAt). with_set_at l (seen y)) first ∙ (put_again now (seen y) ∙ sym first)))))

-- ---- several sets
put_some : (sets : List PortsAt) (x : PortsAt) → is_empty_set x.ports ≡ false → with_set_at sets x ≡ cond (list_any (is_same_set x) sets) sets (sets ++ x ∷ [])
put_some sets x h = rw h refl

-- those without a port are left out anyway
fold_some : (sets xs : List PortsAt) → fold with_set_at sets (filter has_ports xs) ≡ fold with_set_at sets xs
fold_some sets [] = refl
fold_some sets (x ∷ xs) = by_test (is_empty_set x.ports) refl (λ l. fold_some l xs)
  where
    by_test : (e : Bool) → is_empty_set x.ports ≡ e → ((l : List PortsAt) → fold with_set_at l (filter has_ports xs) ≡ fold with_set_at l xs) →
        fold with_set_at sets (filter has_ports (x ∷ xs)) ≡ fold with_set_at (with_set_at sets x) xs
    by_test true h rest = rw h (rest sets)
    by_test false h rest = rw h (rest (with_set_at sets x) ∙ ap (λ (l : List PortsAt). fold with_set_at l xs) (put_some sets x h))

-- the parts of sources, gathered first
pub gathered : (t : Shape) (b : Bridge) (xs : List Source) (none parts : List SetAt) (old : List PortsAt) → none ≡ [] → Adds t b (λ k. true) xs none parts →
    fold with_set_at old (map seen parts) ≡ fold with_set_at old (flat_map (parts_below t b) xs)
unfolding some_parts
gathered t b xs none parts old empty adds =
    ap (fold with_set_at old) (adds ∙ ap (λ (l : List SetAt). map seen l ++ some_parts t b (λ k. true) xs) empty)
    ∙ (fold_some old (flat_map (parts_where t b (λ k. true)) xs)
    ∙ ap (fold with_set_at old) (flat_map-same (parts_where t b (λ k. true)) (parts_below t b) xs (where_all t b)))

-- ---- the two kinds of a VLAN
pub both_put : (t : Shape) (b : Bridge) (vid : ℕ) (test : ℕ → Bool) (old first second : List PortsAt) →
    first ≡ fold with_set_at old (parts_below t b (record { vid = vid; kind = Tagged; among = test })) →
    second ≡ fold with_set_at first (parts_below t b (record { vid = vid; kind = Untagged; among = test })) →
    second ≡ fold with_set_at old (flat_map (parts_below t b) (both_kinds vid test))
both_put t b vid test old first second one two =
    let x : Source = record { vid = vid; kind = Tagged; among = test } in
    let y : Source = record { vid = vid; kind = Untagged; among = test } in
    two ∙ (ap (λ (l : List PortsAt). fold with_set_at l (parts_below t b y)) one ∙ (
    sym (fold-append with_set_at old (parts_below t b x) (parts_below t b y)) ∙
    ap (λ (l : List PortsAt). fold with_set_at old (parts_below t b x ++ l)) (sym (append-nil (parts_below t b y)))))

-- ---- one VLAN or entry more
pub source_more : {X : Type 0} (t : Shape) (b : Bridge) (f : X → List Source) (xs : List X) (x : X) (old now after : List PortsAt) →
    now ≡ fold with_set_at old (flat_map (parts_below t b) (flat_map f xs)) → after ≡ fold with_set_at now (flat_map (parts_below t b) (f x)) →
    after ≡ fold with_set_at old (flat_map (parts_below t b) (flat_map f (xs ++ x ∷ [])))
source_more t b f xs x old now after before one =
    let whole : flat_map (parts_below t b) (flat_map f (xs ++ x ∷ [])) ≡ flat_map (parts_below t b) (flat_map f xs) ++ flat_map (parts_below t b) (f x) =
    rw (flat_map-append f xs (x ∷ []), append-nil) (flat_map-append (parts_below t b) (flat_map f xs) (f x)) in
    one ∙ (ap (λ (l : List PortsAt). fold with_set_at l (flat_map (parts_below t b) (f x))) before ∙ (
    sym (fold-append with_set_at old (flat_map (parts_below t b) (flat_map f xs)) (flat_map (parts_below t b) (f x)))
    ∙ ap (fold with_set_at old) (sym whole)))

pub vlan_more : (t : Shape) (b : Bridge) (f : ℕ → List Source) (n v : ℕ) (old now after : List PortsAt) → v ≡ 1 + n →
    now ≡ fold with_set_at old (flat_map (parts_below t b) (flat_map f (range_with_len 1 n))) → after ≡ fold with_set_at now (flat_map (parts_below t b) (f v)) →
    after ≡ fold with_set_at old (flat_map (parts_below t b) (flat_map f (range_with_len 1 (suc n))))
vlan_more t b f n v old now after is before one =
    source_more t b f (range_with_len 1 n) (1 + n) old now after before (one ∙ ap (λ (u : ℕ). fold with_set_at now (flat_map (parts_below t b) (f u))) is)
    ∙ ap (λ (l : List ℕ). fold with_set_at old (flat_map (parts_below t b) (flat_map f l))) (sym (range-more 1 n))

-- ---- a VLAN without members
none_member : (o : Option Kind) (kind : Kind) → is_some o ≡ false → is_kind kind o ≡ false
none_member None Tagged h = refl
none_member None Untagged h = refl
none_member (Some k) kind h = absurd (false≢true (sym h))

none_known : (b : Bridge) (v q : ℕ) → is_known b v ≡ false → q < 4160 → is_some (b.member v q) ≡ false
unfolding is_known
none_known b v q h l =
    false_from_ne_true (is_some (b.member v q)) (λ e. false≢true (sym h ∙ any_below-true (λ x. is_some (b.member v x)) 4160 q l e))

empty_part : (t : Shape) (k : ℕ) (b : Bridge) (x : Source) → is_known b x.vid ≡ false → part t k b x ≡ []
empty_part t k b x h =
    part_is t k b x
    ∙ (filter_below-agree (λ q. is_under t k q && b.present q && x.among q && is_kind x.kind (b.member x.vid q)) (λ q. false) 4160
    (λ q l. rw (none_member (b.member x.vid q) x.kind (none_known b x.vid q h l)) (last (is_under t k q && b.present q && x.among q)))
    ∙ filter_below-none (λ q. false) 4160 (λ q. refl))
  where
    last : (c : Bool) → (c && false) ≡ false
    last true = refl
    last false = refl

empties : (t : Shape) (b : Bridge) (x : Source) (sets : List PortsAt) (ks : List ℕ) → ((k : ℕ) → part t k b x ≡ []) → fold with_set_at sets (flat_map (parts_of t b x) ks) ≡ sets
empties t b x sets [] none = refl
empties t b x sets (k ∷ ks) none = rw (none k) (empties t b x sets ks none)

empty_below : (t : Shape) (b : Bridge) (x : Source) (sets : List PortsAt) → is_known b x.vid ≡ false → fold with_set_at sets (parts_below t b x) ≡ sets
unfolding parts_below
empty_below t b x sets h = empties t b x sets bridge_ports (λ k. empty_part t k b x h)

pub unknown_put : (t : Shape) (b : Bridge) (vid : ℕ) (test : ℕ → Bool) (sets : List PortsAt) → is_known b vid ≡ false →
    sets ≡ fold with_set_at sets (flat_map (parts_below t b) (both_kinds vid test))
unknown_put t b vid test sets h =
    both_put t b vid test sets sets sets
    (sym (empty_below t b (record { vid = vid; kind = Tagged; among = test }) sets h))
    (sym (empty_below t b (record { vid = vid; kind = Untagged; among = test }) sets h))

pub vids_are : range_with_len 1 4094 ≡ all_vids
unfolding all_vids
vids_are = refl

pub all_put : (t : Shape) (b : Bridge) (vlans all : List PortsAt) →
    vlans ≡ fold with_set_at [] (flat_map (parts_below t b) (flat_map (λ v. both_kinds v (λ q. true)) all_vids)) →
    all ≡ fold with_set_at vlans (flat_map (parts_below t b) (flat_map (λ (e : StaticAt). both_kinds e.vid (port_in e.ports)) b.statics)) →
    all ≡ sets_of t b
unfolding sets_of sources
all_put t b vlans all one two =
    let first : List Source = flat_map (λ v. both_kinds v (λ q. true)) all_vids in
    let second : List Source = flat_map (λ (e : StaticAt). both_kinds e.vid (port_in e.ports)) b.statics in
    two ∙ (ap (λ (l : List PortsAt). fold with_set_at l (flat_map (parts_below t b) second)) one ∙ (
    sym (fold-append with_set_at [] (flat_map (parts_below t b) first) (flat_map (parts_below t b) second))
    ∙ ap (fold with_set_at []) (sym (flat_map-append (parts_below t b) first second))))

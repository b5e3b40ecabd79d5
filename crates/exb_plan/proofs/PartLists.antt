-- The parts of a source below all bridge ports, and what is put of sources.
use Rattle.std.proofs.Common.{◌≡◌, ◌≢◌, ℕ, zero, suc, ◌+◌, ◌-◌, ◌/◌, ◌%◌, ◌<◌, ◌≤◌, ◌==◌, ◌&&◌, Bool, true, false, not, cond, List, [], ◌∷◌, ◌++◌, slice_index, length, filter, map, refl, sym, ◌∙◌, ap, inl, inr, arith}
use Rattle.std.specs.List.{flat_map, range_with_len}
use Rattle.std.proofs.lemmas.Bool.{cases_lt, false≢true, lt-ltb, le-ltb, le-leb, lt-leb}
use Rattle.std.specs.Prelude.{nat_le}
use Rattle.std.proofs.lemmas.List.{append-nil, append_assoc, get_or_past}
use Rattle.std.specs.Int.{bit_at}
use Rattle.std.proofs.lemmas.Nat.Bits.{bit_at-zero}
use Rattle.exb_model.specs.PortBits.{has_port}
use Rattle.std.proofs.lemmas.List.Concat.{flat_map-append}
use Rattle.std.proofs.lemmas.List.Elements.{filter-append}
use Rattle.exb_model.specs.declared.vlan.Kind.{Kind}
use Rattle.exb_model.specs.declared.port_set.PortSet.{PortSet}
use Rattle.exb_model.specs.Ports.{port_in, ports_of, below, all_ports}
use Rattle.exb_model.specs.Tree.{Shape, is_extended, is_under}
use Rattle.exb_model.specs.Configuration.{Bridge}
use Rattle.exb_model.specs.Refusals.{Source, part, without_isolated, is_kind, is_empty_set}
use Rattle.exb_model.proofs.PortLemmas.{below-more}
use Rattle.exb_plan.specs.declared.branches.Branches.{Branches}
use Rattle.exb_plan.specs.declared.places.Places.{Places}
use Rattle.exb_control_spec.specs.declared.plan.set_at.SetAt.{SetAt}
use Rattle.exb_plan.specs.Branches.{ArePlaces, AreBranches, IsPart, IsAmong}
use Rattle.exb_plan.specs.Parts.{has_ports, some_parts, Adds}
use Rattle.exb_control_spec.specs.Plans.Sets.{PortsAt, parts_of, seen}
use Rattle.exb_control_spec.specs.Plans.TouchedParts.{parts_where}
use Rattle.exb_plan.proofs.SetPorts.{ports_are, ports_by}
use Rattle.exb_plan.proofs.BranchLemmas.{under_is}
use Rattle.exb_plan.proofs.Lists.{filter_next}

-- ---- one set
pub none_more : (xs : List PortsAt) (s : PortsAt) → is_empty_set s.ports ≡ true → xs ≡ xs ++ filter has_ports (s ∷ [])
none_more xs s h = rw h (sym (append-nil xs))

pub one_more : (xs : List PortsAt) (s : PortsAt) → is_empty_set s.ports ≡ false → xs ++ s ∷ [] ≡ xs ++ filter has_ports (s ∷ [])
one_more xs s h = rw h refl

-- ---- the ports of a part
pub part_is : (t : Shape) (k : ℕ) (b : Bridge) (x : Source) →
    part t k b x ≡ filter (λ q. is_under t k q && b.present q && x.among q && is_kind x.kind (b.member x.vid q)) all_ports
unfolding part
part_is t k b x = refl

and_turned : (u p a c : Bool) → (u && (p && a && c)) ≡ (u && p && a && c)
and_turned true p a c = refl
and_turned false p a c = refl

cut_is : (t : Shape) (b : Bridge) {here : ℕ → Bool} (x : Source) (g : Branches) (whole : PortSet) → AreBranches t b here g → IsPart t b x whole → (k : ℕ) (set : PortSet) →
    ((q : ℕ) → port_in set q ≡ (slice_index g.trunks (q / 64) == k + 1 && port_in whole q)) → ports_of set ≡ part t k b x
cut_is t b x g whole branches is_part k set is =
    ports_by set (λ q. is_under t k q && b.present q && x.among q && is_kind x.kind (b.member x.vid q))
    (λ q l.
    is q ∙ (ap (λ c. slice_index g.trunks (q / 64) == k + 1 && c) (is_part q) ∙ (
    under_is t k q (slice_index g.trunks (q / 64)) (b.present q && x.among q && is_kind x.kind (b.member x.vid q)) (branches.trunks (q / 64) (omega arith))
    ∙ and_turned (is_under t k q) (b.present q) (x.among q) (is_kind x.kind (b.member x.vid q)))))
    ∙ sym (part_is t k b x)

filter_filter : (p r : ℕ → Bool) (xs : List ℕ) → filter p (filter r xs) ≡ filter (λ q. r q && p q) xs
filter_filter p r [] = refl
filter_filter p r (x ∷ xs) = by_test (filter_filter p r xs) (r x) refl
  where
    by_test : filter p (filter r xs) ≡ filter (λ q. r q && p q) xs → (c : Bool) → r x ≡ c →
        filter p (cond (r x) (x ∷ filter r xs) (filter r xs)) ≡ cond (r x && p x) (x ∷ filter (λ q. r q && p q) xs) (filter (λ q. r q && p q) xs)
    by_test rest true h = rw h (ap (λ ys. cond (p x) (x ∷ ys) ys) rest)
    by_test rest false h = rw h rest

pub rest_is : (b : Bridge) (isolated set rest : PortSet) (xs : List ℕ) → ((q : ℕ) → port_in isolated q ≡ (b.rule q).isolated) → ports_of set ≡ xs →
    ((q : ℕ) → port_in rest q ≡ (port_in set q && not (port_in isolated q))) → ports_of rest ≡ without_isolated b xs
rest_is b isolated set rest xs lone is left =
    ports_by rest (λ q. port_in set q && not (b.rule q).isolated) (λ q l. left q ∙ ap (λ c. port_in set q && not c) (lone q))
    ∙ (sym (filter_filter (λ q. not (b.rule q).isolated) (port_in set) all_ports)
    ∙ (ap (filter (λ q. not (b.rule q).isolated)) (sym (ports_are set)) ∙ ap (filter (λ q. not (b.rule q).isolated)) is))

pub place_is : (p q : ℕ) (xs ys : List ℕ) → p ≡ q → xs ≡ ys → ◌≡◌ {A = PortsAt} (record { bridge_port = p; ports = xs }) (record { bridge_port = q; ports = ys })
place_is p q xs ys e f = rw (e, f) refl

-- ---- below one bridge port
-- two elements, of which those with ports are put
two_more : (now first second : List PortsAt) (r s : PortsAt) → first ≡ now ++ filter has_ports (r ∷ []) → second ≡ first ++ filter has_ports (s ∷ []) →
    second ≡ now ++ filter has_ports (r ∷ s ∷ [])
two_more now first second r s one two =
    let f : List PortsAt → List PortsAt = filter has_ports in
    two ∙ (ap (λ (l : List PortsAt). l ++ f (s ∷ [])) one
    ∙ (append_assoc now (f (r ∷ [])) (f (s ∷ [])) ∙ ap (λ (l : List PortsAt). now ++ l) (sym (filter-append has_ports (r ∷ []) (s ∷ [])))))

-- the part of a source and the part without its isolated ports are put; bridge ports are numbered from 1
pub parts_put : (t : Shape) (b : Bridge) {here : ℕ → Bool} (x : Source) (g : Branches) (whole cut left : PortSet) (p : ℕ) (now first second : List PortsAt) →
    AreBranches t b here g → IsPart t b x whole → 1 ≤ p → ((q : ℕ) → port_in cut q ≡ (slice_index g.trunks (q / 64) == p && port_in whole q)) →
    ((q : ℕ) → port_in left q ≡ (port_in cut q && not (port_in g.isolated q))) →
    first ≡ now ++ filter has_ports (record { bridge_port = p; ports = ports_of cut } ∷ []) →
    second ≡ first ++ filter has_ports (record { bridge_port = p; ports = ports_of left } ∷ []) →
    second ≡ now ++ filter has_ports (parts_of t b x (p - 1))
parts_put t b x g whole cut left zero now first second branches is_part some is_cut is_left one two = absurd (omega arith)
parts_put t b x g whole cut left (suc k) now first second branches is_part some is_cut is_left one two =
    let place : suc k ≡ k + 1 = omega arith in
    let done : k ≡ suc k - 1 = omega arith in
    let cut_part : ports_of cut ≡ part t k b x =
    cut_is t b x g whole branches is_part k cut (λ q. is_cut q ∙ ap (λ (n : ℕ). slice_index g.trunks (q / 64) == n && port_in whole q) place) in
    let left_part : ports_of left ≡ without_isolated b (part t k b x) = rest_is b g.isolated cut left (part t k b x) branches.isolated cut_part is_left in
    let is_r = place_is (suc k) (k + 1) (ports_of cut) (part t k b x) place cut_part in
    let is_s = place_is (suc k) (k + 1) (ports_of left) (without_isolated b (part t k b x)) place left_part in
    two_more now first second _ _ one two
    ∙ (ap (λ (r : PortsAt). now ++ filter has_ports (r ∷ record { bridge_port = suc k; ports = ports_of left } ∷ [])) is_r
    ∙ (ap (λ (s : PortsAt). now ++ filter has_ports (record { bridge_port = k + 1; ports = part t k b x } ∷ s ∷ [])) is_s
    ∙ ap (λ (n : ℕ). now ++ filter has_ports (parts_of t b x n)) done))

none_pass : (test : ℕ → Bool) (a n : ℕ) → ((q : ℕ) → q < a + n → test q ≡ false) → filter test (range_with_len a n) ≡ []
none_pass test a zero none = refl
none_pass test a (suc n) none = rw (none a (omega arith)) (none_pass test (a + 1) n (λ q low. none q (omega (arith, low))))

none_below : (test : ℕ → Bool) (n : ℕ) → ((q : ℕ) → q < n → test q ≡ false) → filter test (below n) ≡ []
unfolding below
none_below test n none = none_pass test 0 n (λ q low. none q (omega (arith, low)))

-- no port of a set is below a bridge port that it doesn't reach
part_none : (t : Shape) (b : Bridge) {here : ℕ → Bool} (x : Source) (g : Branches) (whole : PortSet) → AreBranches t b here g → IsPart t b x whole → (k : ℕ) →
    ((q : ℕ) → (slice_index g.trunks (q / 64) == k + 1 && port_in whole q) ≡ false) → part t k b x ≡ []
part_none t b x g whole branches is_part k none =
    part_is t k b x
    ∙ none_below (λ q. is_under t k q && b.present q && x.among q && is_kind x.kind (b.member x.vid q)) 4160
    (λ q l.
    sym (ap (λ c. slice_index g.trunks (q / 64) == k + 1 && c) (is_part q) ∙ (
    under_is t k q (slice_index g.trunks (q / 64)) (b.present q && x.among q && is_kind x.kind (b.member x.vid q)) (branches.trunks (q / 64) (omega (arith, l)))
    ∙ and_turned (is_under t k q) (b.present q) (x.among q) (is_kind x.kind (b.member x.vid q))))
    ∙ none q)

-- so nothing is put there
pub parts_left_out : (t : Shape) (b : Bridge) {here : ℕ → Bool} (x : Source) (g : Branches) (whole : PortSet) (p : ℕ) (now : List PortsAt) → AreBranches t b here g → IsPart t b x whole → 1 ≤ p →
    ((q : ℕ) → (slice_index g.trunks (q / 64) == p && port_in whole q) ≡ false) → now ≡ now ++ filter has_ports (parts_of t b x (p - 1))
parts_left_out t b x g whole zero now branches is_part some none = absurd (omega arith)
parts_left_out t b x g whole (suc k) now branches is_part some none =
    let place : suc k ≡ k + 1 = omega arith in
    let done : suc k - 1 ≡ k = omega arith in
    let empty : part t k b x ≡ [] = part_none t b x g whole branches is_part k (λ q. ap (λ (n : ℕ). slice_index g.trunks (q / 64) == n && port_in whole q) (sym place) ∙ none q) in
    sym (append-nil now)
    ∙ ap (λ (l : List PortsAt). now ++ l) (sym (ap (λ (n : ℕ). filter has_ports (parts_of t b x n)) done
    ∙ ap (λ (set : List ℕ). let r : PortsAt = record { bridge_port = k + 1; ports = set } in let s : PortsAt = record { bridge_port = k + 1; ports = without_isolated b set } in filter has_ports (r ∷ s ∷ [])) empty))

-- ---- one bridge port more
-- those past a place don't pass
filter_past : (test : ℕ → Bool) (m j : ℕ) → ((k : ℕ) → m ≤ k → k < m + j → test k ≡ false) → filter test (below (m + j)) ≡ filter test (below m)
filter_past test m zero none = ap (λ (n : ℕ). filter test (below n)) (omega arith)
filter_past test m (suc j) none =
    let more : m + suc j ≡ m + j + 1 = omega arith in
    let last : test (m + j) ≡ false = none (m + j) (omega arith) (omega arith) in
    ap (λ (n : ℕ). filter test (below n)) more
    ∙ (ap (filter test) (below-more (m + j))
    ∙ (filter-append test (below (m + j)) ((m + j) ∷ [])
    ∙ (ap (λ (c : Bool). filter test (below (m + j)) ++ cond c ((m + j) ∷ []) []) last
    ∙ (append-nil (filter test (below (m + j))) ∙ filter_past test m j (λ k low high. none k low (omega (arith, high)))))))

module _ (here : ℕ → Bool) (p : Places) (are : ArePlaces here p) where
  not_before : (k : ℕ) → k < p.first - 1 → here k ≡ false
  not_before k low =
      let high = p.low in
      let order = p.in_order in
      are k (omega (arith, low, high, order)) ∙ rw (lt-leb p.first (k + 1) (omega (arith, low))) refl

  not_past : (k : ℕ) → p.past - 1 ≤ k → k < 64 → here k ≡ false
  not_past k low high = are k high ∙ (rw (le-ltb (k + 1) p.past (omega (arith, low))) (and_no (nat_le p.first (k + 1))))
    where
      and_no : (c : Bool) → (c && false) ≡ false
      and_no true = refl
      and_no false = refl

  is_here : (n : ℕ) → p.first ≤ n → n < p.past → here (n - 1) ≡ true
  is_here n low high =
      let first = p.from1 in
      let past = p.low in
      are (n - 1) (omega (arith, first, past, low, high)) ∙ rw (le-leb p.first (n - 1 + 1) (omega (arith, first, low)), lt-ltb (n - 1 + 1) p.past (omega (arith, first, low, high))) refl

  module _ (t : Shape) (b : Bridge) (x : Source) where
    pub parts_none : (old : List PortsAt) → old ≡ old ++ filter has_ports (flat_map (parts_of t b x) (filter here (below (p.first - 1))))
    parts_none old = sym (append-nil old) ∙ ap (λ (ks : List ℕ). old ++ filter has_ports (flat_map (parts_of t b x) ks)) (sym (none_below here (p.first - 1) not_before))

    pub parts_all : filter has_ports (flat_map (parts_of t b x) (filter here (below (p.past - 1)))) ≡ some_parts t b here (x ∷ [])
    unfolding parts_where some_parts
    parts_all =
        let high = p.low in
        let first = p.from1 in
        let order = p.in_order in
        let whole : 64 ≡ p.past - 1 + (65 - p.past) = omega (arith, high, first, order) in
        let all : filter here (below 64) ≡ filter here (below (p.past - 1)) =
        ap (λ (n : ℕ). filter here (below n)) whole
        ∙ filter_past here (p.past - 1) (65 - p.past) (λ k low past. not_past k low (omega (arith, past, high, first, order))) in
        ap (λ (ks : List ℕ). filter has_ports (flat_map (parts_of t b x) ks)) (sym all) ∙ ap (filter has_ports) (sym (append-nil (flat_map (parts_of t b x) (filter here (below 64)))))

    pub parts_next : (n : ℕ) (old now next : List PortsAt) → p.first ≤ n → n < p.past →
        now ≡ old ++ filter has_ports (flat_map (parts_of t b x) (filter here (below (n - 1)))) → next ≡ now ++ filter has_ports (parts_of t b x (n - 1)) →
        next ≡ old ++ filter has_ports (flat_map (parts_of t b x) (filter here (below (n + 1 - 1))))
    parts_next n old now next low high before one =
        let f : List PortsAt → List PortsAt = filter has_ports in
        let parts = parts_of t b x in
        let first = p.from1 in
        let after : n - 1 + 1 ≡ n + 1 - 1 = omega (arith, first, low) in
        let so_far : List PortsAt = flat_map parts (filter here (below (n - 1))) in
        let more : so_far ++ parts (n - 1) ≡ flat_map parts (filter here (below (n - 1 + 1))) =
        sym (filter_next parts here (n - 1) ∙ ap (λ (c : Bool). so_far ++ cond c (parts (n - 1)) []) (is_here n low high)) in
        one ∙ (ap (λ (l : List PortsAt). l ++ f (parts (n - 1))) before
        ∙ (append_assoc old (f so_far) (f (parts (n - 1)))
        ∙ (ap (λ (l : List PortsAt). old ++ l) (sym (filter-append has_ports so_far (parts (n - 1))))
        ∙ (ap (λ (l : List PortsAt). old ++ f l) more ∙ ap (λ (m : ℕ). old ++ f (flat_map parts (filter here (below m)))) after))))

    -- a single one
    pub parts_one : (old next : List PortsAt) → p.past - p.first ≡ 1 → next ≡ old ++ filter has_ports (parts_of t b x (p.first - 1)) → next ≡ old ++ some_parts t b here (x ∷ [])
    parts_one old next one put =
        let last : p.first + 1 - 1 ≡ p.past - 1 = omega (arith, one) in
        parts_next p.first old old next (omega arith) (omega (arith, one)) (parts_none old) put
        ∙ (ap (λ (n : ℕ). old ++ filter has_ports (flat_map (parts_of t b x) (filter here (below n)))) last ∙ ap (λ (l : List PortsAt). old ++ l) parts_all)

-- ---- which bridge ports a set reaches
pub word_some : (words : List ℕ) (q : ℕ) → has_port words q ≡ true → slice_index words (q / 64) ≢ 0
unfolding has_port
word_some words q e none_there =
    let none : (bit_at (slice_index words (q / 64)) (q % 64) == 1) ≡ false = rw (none_there, bit_at-zero (q % 64)) refl in
    false≢true (sym none ∙ e)

pub word_within : (words : List ℕ) (q : ℕ) → length words ≡ 65 → has_port words q ≡ true → q / 64 < 65
word_within words q sized e =
    elim (cases_lt (q / 64) 65) [
      | inl low ↦ low
      | inr high ↦ absurd (word_some words q e (get_or_past words (q / 64) 0 (omega (arith, sized, high))))
    ]

-- ---- the part of a source
pub kind_part : (t : Shape) (b : Bridge) (vid : ℕ) (kind : Kind) (test : ℕ → Bool) (among set : PortSet) → IsAmong t test among →
    ((q : ℕ) → port_in set q ≡ (b.present q && port_in among q && is_kind kind (b.member vid q))) →
    IsPart t b (record { vid = vid; kind = kind; among = test }) set
kind_part t b vid kind test among set is_among is q =
    is q ∙ (ap (λ c. b.present q && c && is_kind kind (b.member vid q)) (is_among q) ∙ moved (b.present q) (is_extended t q) (test q) (is_kind kind (b.member vid q)))
  where
    moved : (p e a c : Bool) → (p && (e && a) && c) ≡ (e && (p && a && c))
    moved true true a c = refl
    moved true false a c = refl
    moved false true a c = refl
    moved false false a c = refl

-- all of the extended ports
pub all_among : (t : Shape) (b : Bridge) {here : ℕ → Bool} (g : Branches) → AreBranches t b here g → IsAmong t (λ q. true) g.extended
all_among t b g branches q = branches.extended q ∙ and_true (is_extended t q)
  where
    and_true : (c : Bool) → c ≡ (c && true)
    and_true true = refl
    and_true false = refl

-- ---- one source after another
some-append : (t : Shape) (b : Bridge) (here : ℕ → Bool) (xs ys : List Source) → some_parts t b here (xs ++ ys) ≡ some_parts t b here xs ++ some_parts t b here ys
unfolding some_parts
some-append t b here xs ys =
    ap (filter has_ports) (flat_map-append (parts_where t b here) xs ys) ∙ filter-append has_ports (flat_map (parts_where t b here) xs) (flat_map (parts_where t b here) ys)

pub adds_none : (t : Shape) (b : Bridge) (here : ℕ → Bool) (items : List SetAt) → Adds t b here [] items items
unfolding some_parts
adds_none t b here items = sym (append-nil (map seen items))

pub adds_more : (t : Shape) (b : Bridge) (here : ℕ → Bool) (xs ys : List Source) (old now new : List SetAt) → Adds t b here xs old now → Adds t b here ys now new →
    Adds t b here (xs ++ ys) old new
adds_more t b here xs ys old now new one two =
    two ∙ (ap (λ (l : List PortsAt). l ++ some_parts t b here ys) one
    ∙ (append_assoc (map seen old) (some_parts t b here xs) (some_parts t b here ys) ∙ ap (λ (l : List PortsAt). map seen old ++ l) (sym (some-append t b here xs ys))))

-- the same sources by another name
pub adds_same : (t : Shape) (b : Bridge) (here : ℕ → Bool) (xs ys : List Source) (old new : List SetAt) → xs ≡ ys → Adds t b here xs old new → Adds t b here ys old new
adds_same t b here xs ys old new same adds = adds ∙ ap (λ (l : List Source). map seen old ++ some_parts t b here l) same

-- One send of the bridge: the word that it is on a link, and what it makes leave.
use Rattle.std.proofs.Common.{◌≡◌, ◌≢◌, ◌⊎◌, ℕ, zero, suc, ◌+◌, ◌-◌, ◌*◌, ◌<◌, ◌≤◌, ◌==◌, ◌&&◌, ◌++◌, Bool, true, false, List, [], ◌∷◌, length, take, Option, Some, None, nat_lt, slice_index, refl, sym, ◌∙◌, ap, subst, arith, inl, inr, eq-eqb, length-append}
use Rattle.std.specs.Prelude.{find, bytes_eq}
use Rattle.std.specs.List.{list_any, range_with_len, All}
use Rattle.std.proofs.lemmas.List.{length-take}
use Rattle.std.proofs.lemmas.Bool.{cases_eq, cases_lt, cases_Bool, eqb-true, ltb-true, lt-ltb, and_from, and_parts, or_left, false≢true}
use Rattle.exb_model.specs.declared.vlan.Kind.{Kind}
use Rattle.exb_model.specs.declared.vlan.Kind.TheVariants.{Tagged, Untagged}
use Rattle.exb_model.specs.Frames.{two_bytes, kind_of, body_after, priority_of, egress}
use Rattle.exb_model.specs.Ports.{below}
use Rattle.exb_model.specs.Tree.{Shape, IsTree, HangsOn, on, up, is_extender, is_under}
use Rattle.exb_model.specs.TreeSets.{covers}
use Rattle.exb_model.specs.ExtenderForwarding.{Tables}
use Rattle.exb_model.specs.Configuration.{Bridge}
use Rattle.exb_model.specs.Refusals.{is_empty_set, sets_at}
use Rattle.exb_model.specs.Learning.{passes}
use Rattle.exb_model.proofs.TreeWays.{covers-from, among, among_top, path_is, port_below, number_at_most}
use Rattle.exb_control_spec.specs.Plans.LaidRows.{IsLaid}
use Rattle.exb_control_spec.proofs.Plans.TreeWays.{from_under, trunk_top}
use Rattle.exb_model.specs.Lists.{is_listed}
use Rattle.exb_control_spec.specs.Plans.HeldNumbers.{Held, numbers_in}
use Rattle.exb_control_spec.proofs.Plans.GroupOwners.{group_found}
use Rattle.exb_control_spec.proofs.Runs.Members.{set_lies}
use Rattle.exb_relay.specs.TreeEgress.{extender_on}
use Rattle.exb_control_spec.specs.Runs.TablesMidChange.{IsLaidFor}
use Rattle.exb_flight.specs.Items.{Each}

-- ---- lists
pub each_of_all : {X : Type 0} (P : X → Type 0) (xs : List X) → All P xs → Each P xs
each_of_all P [] all = tt
each_of_all P (x ∷ xs) all = (all 0 x (omega arith), each_of_all P xs (λ k d l. all (suc k) d (omega (arith, l))))

find_passes : (test : ℕ → Bool) (xs : List ℕ) (e : ℕ) → find test xs ≡ Some e → test e ≡ true
find_passes test [] e h = absurd (let z : ◌≡◌ {A = Option ℕ} None (Some e) = h in cc)
find_passes test (x ∷ xs) e h =
    elim (cases_Bool (test x)) [
      | inl t ↦ (let z : ◌≡◌ {A = Option ℕ} (Some x) (Some e) = rw t at h in let y : x ≡ e = cc in subst (λ (w : ℕ). test w ≡ true) y t)
      | inr t ↦ find_passes test xs e (rw t at h)
    ]

find_none : (test : ℕ → Bool) (a len n : ℕ) → find test (range_with_len a len) ≡ None → a ≤ n → n < a + len → test n ≡ false
find_none test a zero n h l g = absurd (omega (arith, l, g))
find_none test a (suc len) n h l g =
    elim (cases_Bool (test a)) [
      | inl t ↦ absurd (let z : ◌≡◌ {A = Option ℕ} (Some a) None = rw t at h in cc)
      | inr t ↦ elim (cases_eq n a) [
        | inl e ↦ rw e t
        | inr e ↦ find_none test (a + 1) len n (rw t at h) (omega (arith, l, e)) (omega (arith, g))
      ]
    ]

-- ---- frames
-- a frame that passes has its addresses, and so have its bytes when it leaves
pub passes_long : (b : Bridge) (p : ℕ) (f : List ℕ) (v : ℕ) → passes b p f ≡ Some v → 14 ≤ length f
unfolding kind_of
passes_long b p f v e =
    elim (cases_lt (length f) 14) [
      | inl l ↦ absurd (let z : ◌≡◌ {A = Option ℕ} None (Some v) = rw (lt-ltb (length f) 14 l) at e in cc)
      | inr g ↦ g
    ]

pub egress_long : (f : List ℕ) (kind : Kind) (v : ℕ) → 12 ≤ length f → 12 ≤ length (egress f kind v)
unfolding egress
egress_long f Untagged v l =
    let e = length-append (take 12 f) (body_after f (kind_of f)) in let d = length-take 12 f in omega (arith, e, d, l)
egress_long f Tagged v l =
    let a = (take 12 f ++ two_bytes 0x8100) ++ two_bytes (priority_of (kind_of f) * 4096 + v) in
    let x = length-append a (body_after f (kind_of f)) in
    let y = length-append (take 12 f ++ two_bytes 0x8100) (two_bytes (priority_of (kind_of f) * 4096 + v)) in
    let z = length-append (take 12 f) (two_bytes 0x8100) in
    let d = length-take 12 f in
    omega (arith, x, y, z, d, l)

-- ---- the extender on a bridge port
-- the test of `extender_on`
is_there : Shape → ℕ → ℕ → Bool
is_there s bridge_port n = is_extender s n && on s n + 1 == bridge_port

pub hangs_there : (s : Shape) (port n : ℕ) → (is_extender s n && on s n + 1 == port + 1) ≡ true → HangsOn s n port
hangs_there s port n e =
    let both = and_parts (is_extender s n) (on s n + 1 == port + 1) e in
    let there = and_parts (nat_lt 0 n) (nat_lt 0 (slice_index s.ports n)) both.0 in
    let same : on s n + 1 ≡ port + 1 = eqb-true _ _ both.1 in
    record { extender = ltb-true 0 n there.0; there = ltb-true 0 _ there.1; at = omega (arith, same) }

-- by what is found on the port of a send: nothing, or an extender that hangs there
abbrev pub Found : Shape → ℕ → Option ℕ → Type 0
Found s port None = (n : ℕ) → HangsOn s n port → ⊥
Found s port (Some n) = HangsOn s n port

pub found_on : (s : Shape) → IsTree s → (port : ℕ) (o : Option ℕ) → extender_on s (port + 1) ≡ o → Found s port o
unfolding extender_on below
found_on s valid port None e = λ n hung.
    let most : n ≤ 64 = number_at_most s valid n port hung in
    let none = find_none (λ n. is_extender s n && on s n + 1 == port + 1) 0 65 n e (omega arith) (omega (arith, most)) in
    false≢true (sym none ∙ and_from _ _ (and_from (nat_lt 0 n) (nat_lt 0 (slice_index s.ports n)) (lt-ltb 0 n hung.extender) (lt-ltb 0 _ hung.there)) (eq-eqb _ _ (ap (λ (x : ℕ). x + 1) hung.at)))
found_on s valid port (Some n) e = hangs_there s port n (find_passes (λ n. is_extender s n && on s n + 1 == port + 1) (range_with_len 0 65) n e)

-- ---- the set that a word's number stands for
-- the number of a word: the group of one of the configuration's sets, or the channel of a present port
abbrev pub Number : Shape → Bridge → Held → ℕ → ℕ → ℕ → Type 0
Number s b h p k e =
    ((set : List ℕ) × ((numbers_in h).group k set ≡ Some e) × (list_any (bytes_eq set) (sets_at s k b) ≡ true))
    ⊎ ((r : ℕ) × ((numbers_in h).channel k r ≡ Some e) × (is_under s k r ≡ true) × (b.present r ≡ true) × (r ≢ p))

abbrev pub set_of : (s : Shape) (b : Bridge) (h : Held) (p k e : ℕ) → Number s b h p k e → ℕ → Bool
set_of s b h p k e (inl g) = is_listed g.0
set_of s b h p k e (inr c) = λ x. x == c.0

module _ (s : Shape) (valid : IsTree s) (b : Bridge) (h : Held) (p k e : ℕ) (low : k < 64) where
  -- a set that has a port below k is covered there
  covered_top : (set : ℕ → Bool) (q : ℕ) → is_under s k q ≡ true → set q ≡ true → covers s set k ≡ true
  covered_top set q under has =
      let u = from_under s k q under in
      covers-from s set k (record {
        member = q;
        within = port_below s valid q u.0.deep u.0.known;
        chosen = has;
        known = u.0.known;
        below = rw (path_is s q) (subst (λ (x : ℕ). among x (up s.on 64 q) ≡ true) (sym (trunk_top s q u.0.deep) ∙ u.0.at) (among_top s 64 q));
      })

  pub number_under : (n : Number s b h p k e) (q : ℕ) → set_of s b h p k e n q ≡ true → is_under s k q ≡ true
  number_under (inl g) q m =
      let back : k + 1 - 1 ≡ k = omega arith in
      subst (λ (j : ℕ). is_under s j q ≡ true) back ((set_lies s b k g.0 low g.2).under q m)
  number_under (inr c) q m = subst (λ (x : ℕ). is_under s k x ≡ true) (sym (eqb-true q c.0 m)) c.2

  pub number_covered : (n : Number s b h p k e) → covers s (set_of s b h p k e n) k ≡ true
  number_covered (inl g) = by_set g.0 (λ q m. number_under (inl g) q m) (group_found h k g.0 e g.1).some
    where
      by_set : (set : List ℕ) → ((q : ℕ) → is_listed set q ≡ true → is_under s k q ≡ true) → is_empty_set set ≡ false → covers s (is_listed set) k ≡ true
      by_set [] inside some = absurd (false≢true (sym some))
      by_set (x ∷ xs) inside some = (let first : is_listed (x ∷ xs) x ≡ true = or_left (x == x) (is_listed xs x) (eq-eqb x x refl) in covered_top (is_listed (x ∷ xs)) x (inside x first) first)
  number_covered (inr c) = covered_top (λ x. x == c.0) c.0 c.2 (eq-eqb c.0 c.0 refl)

  -- its rows are laid
  pub number_laid : (t : Tables) → IsLaidFor s b h t → (n : Number s b h p k e) → IsLaid s t k (set_of s b h p k e n) e
  number_laid t laid (inl g) = laid.groups k e g.0 low g.2 g.1
  number_laid t laid (inr c) = laid.channels k c.0 e c.2 c.3 c.1

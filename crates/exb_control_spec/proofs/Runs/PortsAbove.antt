-- The ports above a port, and the rows that have them.
use Rattle.std.proofs.Common.{◌≡◌, ◌≢◌, ℕ, zero, suc, ◌+◌, ◌-◌, ◌*◌, ◌<◌, ◌≤◌, ◌==◌, ◌&&◌, Bool, true, not, [], nat_lt, nat_le, refl, sym, ◌∙◌, ap, subst, arith, inl, inr, eq-eqb}
use Rattle.std.specs.Int.{bit_at}
use Rattle.std.proofs.lemmas.Bool.{cases_lt, eqb-true, ne_eqb, lt-ltb, ltb-true, le-leb, leb-true, and_parts, false≢true}
use Rattle.exb_model.specs.Tree.{Shape, IsTree, device, on, up, path, trunk, depth, is_port, is_extender, is_cascade}
use Rattle.exb_model.specs.TreeSets.{covers, mask_of}
use Rattle.exb_model.proofs.MaskLemmas.{bits_of-lt, bit_at-bits_of, bit_is_one}
use Rattle.exb_model.proofs.TreeWays.{up_high, up_low, up_none, among, among_cases, among_none, path_is, up_itself, port_above, port_below, cascade_above, covers-true, covers-from}
use Rattle.exb_csp.specs.Execution.{in_mask, some_port}
use Rattle.exb_csp.proofs.ExecutionLaws.{find_port, some_bit, mask_empty}
use Rattle.exb_control_spec.proofs.Plans.TreeWays.{trunk_along, less_above}
use Rattle.exb_csp.specs.AllTables.{port_of}
use Rattle.exb_control_spec.proofs.Plans.Trunks.{port_extender, hung_cascade}

-- ---- masks
pub mask_bit : (t : Shape) (set : ℕ → Bool) (n k : ℕ) → 0 < k → k ≤ 64 → in_mask (mask_of t set n) k ≡ covers t set (port_of n k)
unfolding in_mask
mask_bit t set n k low high =
    let some : nat_lt 0 k ≡ true = lt-ltb 0 k low in
    let few : nat_le k 64 ≡ true = le-leb k 64 high in
    rw (some, few, bit_at-bits_of (λ j. covers t set (64 * n + j)) 64 (k - 1) (omega arith)) (bit_is_one (covers t set (64 * n + (k - 1))))

in_range : (mask k : ℕ) → in_mask mask k ≡ true → (0 < k) × (k ≤ 64)
unfolding in_mask
in_range mask k e =
    let one = and_parts (nat_lt 0 k && nat_le k 64) (bit_at mask (k - 1) == 1) e in
    let two = and_parts (nat_lt 0 k) (nat_le k 64) one.0 in
    (ltb-true 0 k two.0, leb-true k 64 two.1)

-- a port of the mask
pub record InMask (t : Shape) (set : ℕ → Bool) (n k : ℕ) : Type 0 where
  pub low : 0 < k
  pub high : k ≤ 64
  pub covered : covers t set (port_of n k) ≡ true

pub bit_covered : (t : Shape) (set : ℕ → Bool) (n k : ℕ) → in_mask (mask_of t set n) k ≡ true → InMask t set n k
bit_covered t set n k e =
    let r = in_range (mask_of t set n) k e in
    record { low = r.0; high = r.1; covered = sym (mask_bit t set n k r.0 r.1) ∙ e }

-- a mask that isn't empty has a port
pub mask_some : (t : Shape) (set : ℕ → Bool) (n : ℕ) → mask_of t set n ≢ 0 → (k : ℕ) × InMask t set n k
mask_some t set n some =
    let there : some_port (in_mask (mask_of t set n)) ≡ true = some_bit (mask_of t set n) (bits_of-lt (λ j. covers t set (64 * n + j)) 64) ∙ ap not (ne_eqb (mask_of t set n) 0 some) in
    let f = find_port (in_mask (mask_of t set n)) there in
    (f.0, bit_covered t set n f.0 f.3)

-- one that has a port isn't empty
pub some_mask : (t : Shape) (set : ℕ → Bool) (n k : ℕ) → 0 < k → k ≤ 64 → covers t set (port_of n k) ≡ true → mask_of t set n ≢ 0
some_mask t set n k low high c none = false≢true (sym (mask_empty k) ∙ (ap (λ (m : ℕ). in_mask m k) (sym none) ∙ (mask_bit t set n k low high ∙ c)))

-- ---- a port alone
module _ (t : Shape) (valid : IsTree t) where
  module _ (p : ℕ) (deep : 64 ≤ p) (known : is_port t p ≡ true) where
    -- no other port of its extender stands above it
    alone_above : (q : ℕ) → among q (path t.on p) ≡ true → 64 ≤ q → device q ≡ device p → q ≡ p
    alone_above q h high same =
        elim (among_cases q p _ (rw (path_is t p, up_high t 63 p deep) at h)) [
          | inl e ↦ e
          | inr e ↦
              let less : depth t (device q) < depth t (device p) = less_above t valid 63 p q deep known high e in
              let equal : depth t (device q) ≡ depth t (device p) = ap (depth t) same in
              absurd (omega (arith, less, equal))
        ]

    pub only_itself : (q : ℕ) → covers t (λ x. x == p) q ≡ true → 64 ≤ q → device q ≡ device p → q ≡ p
    only_itself q h high same =
        let c = covers-true t (λ x. x == p) q h in
        let m = eqb-true c.member p c.chosen in
        alone_above q (subst (λ (x : ℕ). among q (path t.on x) ≡ true) m c.below) high same

    pub covers_itself : covers t (λ x. x == p) p ≡ true
    covers_itself =
        covers-from t (λ x. x == p) p
        (record { member = p; within = port_below t valid p deep known; chosen = eq-eqb p p refl; known = known; below = rw (path_is t p) (up_itself t 64 p) })

    -- what covers it has its trunk
    pub covered_trunk : (q : ℕ) → covers t (λ x. x == p) q ≡ true → 64 ≤ q → trunk t (device q) ≡ trunk t (device p)
    covered_trunk q h high =
        let c = covers-true t (λ x. x == p) q h in
        let m = eqb-true c.member p c.chosen in
        trunk_along t valid 64 p q deep known high (rw (path_is t p) at (subst (λ (x : ℕ). among q (path t.on x) ≡ true) m c.below))

  -- ---- where extenders are opened from the bridge down
  module _ (opened : ℕ → Bool) (above : (n : ℕ) → is_extender t n ≡ true → opened n ≡ true → 64 ≤ on t n → opened (device (on t n)) ≡ true) where
    low_only : (d p q : ℕ) → p < 64 → 64 ≤ q → among q (up t.on d p) ≡ true → ⊥
    low_only d p q l g a = elim (among_cases q p [] (rw (up_low t d p l) at a)) [ inl e ↦ absurd (omega arith) | inr e ↦ among_none q e ]

    pub opened_along : (d p q : ℕ) → 64 ≤ p → is_port t p ≡ true → opened (device p) ≡ true → 64 ≤ q → among q (up t.on d p) ≡ true → opened (device q) ≡ true
    opened_along zero p q deep known o high h =
        elim (among_cases q p [] (rw (up_none t p) at h)) [ inl e ↦ ap (λ (x : ℕ). opened (device x)) e ∙ o | inr e ↦ absurd (among_none q e) ]
    opened_along (suc d) p q deep known o high h =
        elim (among_cases q p _ (rw (up_high t d p deep) at h)) [
          | inl e ↦ ap (λ (x : ℕ). opened (device x)) e ∙ o
          | inr e ↦ elim (cases_lt (on t (device p)) 64) [
            | inl l ↦ absurd (low_only d (on t (device p)) q l high e)
            | inr g ↦ opened_along d (on t (device p)) q g (port_above t valid p deep known) (above (device p) (port_extender t p deep known) o g) high e
          ]
        ]

    -- what stands above a port
    pub record Above (k q : ℕ) : Type 0 where
      pub known : is_port t q ≡ true
      pub cascade : is_cascade t q ≡ true
      pub at : trunk t (device q) ≡ k
      pub there : opened (device q) ≡ true

    -- where the extender on which its extender hangs is opened, each is a cascade port of an opened extender
    pub ways : (p q : ℕ) → 64 ≤ p → is_port t p ≡ true → (64 ≤ on t (device p) → opened (device (on t (device p))) ≡ true) → 64 ≤ q → q ≢ p → among q (path t.on p) ≡ true → Above (trunk t (device p)) q
    ways p q deep known parent high other h =
        let along : among q (up t.on 64 p) ≡ true = rw (path_is t p) at h in
        let c = cascade_above t valid 64 p q known other along in
        record {
          known = c.1;
          cascade = hung_cascade t valid c.0.0 q c.0.1;
          at = trunk_along t valid 64 p q deep known high along;
          there = elim (among_cases q p _ (rw (up_high t 63 p deep) at along)) [
            | inl e ↦ absurd (other e)
            | inr e ↦ elim (cases_lt (on t (device p)) 64) [
              | inl l ↦ absurd (low_only 63 (on t (device p)) q l high e)
              | inr g ↦ opened_along 63 (on t (device p)) q g (port_above t valid p deep known) (parent g) high e
            ]
          ];
        }

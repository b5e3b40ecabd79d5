-- Fresh groups: their rows may be put, and then just what is held is laid.
use Rattle.std.proofs.Common.{◌≡◌, ◌≢◌, ◌⊎◌, ℕ, ◌+◌, ◌-◌, ◌%◌, ◌<◌, ◌≤◌, ◌==◌, ◌&&◌, ◌||◌, cond, Bool, true, false, not, List, [], ◌∷◌, Option, Some, None, refl, sym, ◌∙◌, ap, arith, inl, inr, eq-eqb}
use Rattle.std.specs.List.{list_any, cons_option}
use Rattle.std.proofs.lemmas.Bool.{cases_eq, ne_eqb, and_from, and_left, and_right, or_from, or_right, le-leb, lt-ltb, false≢true, false_from_ne_true}
use Rattle.exb_model.specs.Tree.{Shape, device, trunk, is_port}
use Rattle.exb_model.specs.TreeSets.{covers, mask_of}
use Rattle.exb_model.specs.Refusals.{is_empty_set}
use Rattle.exb_model.specs.Configuration.{Bridge}
use Rattle.exb_csp.specs.declared.group_rows.GroupRow.{GroupRow}
use Rattle.exb_csp.specs.Execution.{is_channel, in_mask, in_rows, is_named}
use Rattle.exb_csp.proofs.ExecutionLaws.{or_false, or_assoc, mask_empty}
use Rattle.exb_csp.specs.AllTables.{port_of, RunsAt}
use Rattle.exb_control_spec.specs.declared.plan.row_action.RowAction.TheVariants.{Lay}
use Rattle.exb_control_spec.specs.Plans.HeldNumbers.{Held, Group, group_used, or_zero, give, give_all}
use Rattle.exb_model.specs.Lists.{is_listed}
use Rattle.exb_control_spec.specs.Plans.ChangeRequests.{rows_at, group_asks}
use Rattle.exb_control_spec.proofs.Plans.EachElement.{Each}
use Rattle.exb_control_spec.proofs.Plans.GroupClaims.{given_here, given_else}
use Rattle.exb_control_spec.specs.Decisions.{channel_of}
use Rattle.exb_control_spec.proofs.FreshGroups.{given_port}
use Rattle.exb_control_spec.proofs.ReleasedNumbers.{channel_by}
use Rattle.exb_control_spec.specs.Runs.LaidTables.{has_port, is_shown, channel_pair, group_pair, laid_by, laid}
use Rattle.exb_control_spec.proofs.Runs.EqualTables.{port_at, port_from, port_back}
use Rattle.exb_control_spec.proofs.Runs.ExtenderOrder.{listed_hangs}
use Rattle.exb_control_spec.proofs.Runs.RowMessages.{CanPut, AllPut, AreApart}
use Rattle.exb_control_spec.proofs.Runs.RowRuns.{lay_runs}
use Rattle.exb_control_spec.proofs.Runs.PortsAbove.{mask_bit, InMask, bit_covered, mask_some}
use Rattle.exb_control_spec.proofs.Runs.ChannelRuns.{covers_none}
use Rattle.exb_control_spec.proofs.Runs.FreeGroups.{IsFreeGroup, AreFreeGroups, free_each}
use Rattle.exb_control_spec.proofs.Runs.NeededChannels.{Stands, home_low, home_cascade}

-- ---- the rows of groups at an extender
module _ (t : Shape) (n : ℕ) where
  abbrev pub group_mask : Group → ℕ
  group_mask x = mask_of t (is_listed x.ports) n

  abbrev pub group_row : Group → GroupRow
  group_row x = record { ecid = x.number; mask = group_mask x }

  pub rows_any : (p : GroupRow → Bool) (xs : List Group) → list_any p (rows_at t xs n) ≡ list_any (λ x. not (group_mask x == 0) && p (group_row x)) xs
  rows_any p [] = refl
  rows_any p (x ∷ xs) = by_mask (group_mask x == 0) ∙ ap (λ b. (not (group_mask x == 0) && p (group_row x)) || b) (rows_any p xs)
    where
      by_mask : (b : Bool) → list_any p (cons_option (cond b None (Some (group_row x))) (rows_at t xs n)) ≡ ((not b && p (group_row x)) || list_any p (rows_at t xs n))
      by_mask true = refl
      by_mask false = refl

  pub has_row : (x : Group) (e k : ℕ) → 0 < k → k ≤ 64 → (not (group_mask x == 0) && ((x.number == e) && in_mask (group_mask x) k)) ≡ ((x.number == e) && covers t (is_listed x.ports) (port_of n k))
  has_row x e k low high = elim (cases_eq (group_mask x) 0) [
    | inl z ↦
        let off : covers t (is_listed x.ports) (port_of n k) ≡ false = sym (mask_bit t (is_listed x.ports) n k low high) ∙ (ap (λ (m : ℕ). in_mask m k) z ∙ mask_empty k) in
        and_left (not (group_mask x == 0)) _ (ap not (eq-eqb (group_mask x) 0 z)) ∙ sym (and_right (x.number == e) _ off)
    | inr z ↦ ap (λ b. not b && ((x.number == e) && in_mask (group_mask x) k)) (ne_eqb (group_mask x) 0 z) ∙ ap (λ b. (x.number == e) && b) (mask_bit t (is_listed x.ports) n k low high)
  ]

abbrev pub has_group_pair : Shape → ℕ → ℕ → Group → Bool
has_group_pair t e q x = (x.number == e) && covers t (is_listed x.ports) q

pub rows_have : (t : Shape) (n : ℕ) (xs : List Group) (e k : ℕ) → 0 < k → k ≤ 64 → in_rows (rows_at t xs n) e k ≡ list_any (has_group_pair t e (port_of n k)) xs
rows_have t n xs e k low high = rows_any t n (λ row. (row.ecid == e) && in_mask row.mask k) xs ∙ each xs
  where
    each : (xs : List Group) → list_any (λ x. not (group_mask t n x == 0) && ((x.number == e) && in_mask (group_mask t n x) k)) xs ≡ list_any (has_group_pair t e (port_of n k)) xs
    each [] = refl
    each (x ∷ xs) =
        ap (λ b. b || list_any (λ x. not (group_mask t n x == 0) && ((x.number == e) && in_mask (group_mask t n x) k)) xs) (has_row t n x e k low high)
        ∙ ap (λ b. has_group_pair t e (port_of n k) x || b) (each xs)

-- what covers a set of a group
pub record IsReached (t : Shape) (shown : ℕ → Bool) (h : Held) (bridge_port q : ℕ) : Type 0 where
  pub known : is_port t q ≡ true
  pub at : trunk t (device q) + 1 ≡ bridge_port
  pub laid : shown q ≡ true
  pub channel : channel_of t h q ≢ 0

pub record CanReach (t : Shape) (shown : ℕ → Bool) (h : Held) (x : Group) : Type 0 where
  pub each : (q : ℕ) → 64 ≤ q → covers t (is_listed x.ports) q ≡ true → IsReached t shown h x.bridge_port q

module _ (t : Shape) (opened : ℕ → Bool) (b : Bridge) (h : Held) (s : Stands t opened b h) where
  -- no channel has the number of a group
  pub no_channel : (q e : ℕ) → 64 ≤ q → is_port t q ≡ true → 4096 ≤ e → h.port (trunk t (device q)) e ≡ None
  no_channel q e deep known low = by_port (h.port (trunk t (device q)) e) refl
    where
      by_port : (o : Option ℕ) → h.port (trunk t (device q)) e ≡ o → o ≡ None
      by_port None is = refl
      by_port (Some p) is =
          let g = s.gives (trunk t (device q)) (home_low t s.tree q deep known) (home_cascade t s.tree q deep known) in
          let high : e < 4095 = g.high e p is in
          absurd (omega arith)

  -- ---- codes
  -- a row of a group stands at an extender of its space
  row_space : (n : ℕ) (x : Group) → 0 < n → CanReach t (is_shown t opened) h x → group_mask t n x ≢ 0 → trunk t n + 1 ≡ x.bridge_port
  row_space n x deep reach some =
      let f : (k : ℕ) × InMask t (is_listed x.ports) n k = mask_some t (is_listed x.ports) n some in
      let low : 0 < f.0 = f.1.low in
      let high : f.0 ≤ 64 = f.1.high in
      let home : device (port_of n f.0) ≡ n = omega arith in
      let r = reach.each (port_of n f.0) (omega arith) f.1.covered in
      ap (λ (m : ℕ). trunk t m + 1) (sym home) ∙ r.at

  row_can : (n : ℕ) (x : Group) → 0 < n → IsFreeGroup h x → CanReach t (is_shown t opened) h x → group_mask t n x ≢ 0 → CanPut t (laid_by t (is_shown t opened) h) n (group_row t n x)
  row_can n x deep f reach some = record {
    known = or_right (is_channel x.number) _ (and_from _ _ (le-leb 4096 x.number f.low) (lt-ltb x.number 16384 f.high));
    placed = placed;
    alone = alone;
  }
    where
      placed : (k : ℕ) → in_mask (group_mask t n x) k ≡ true → (has_port t n k ≡ true) × ((laid_by t (is_shown t opened) h).own (port_of n k) ≢ 0)
      placed k bit =
          let m : InMask t (is_listed x.ports) n k = bit_covered t (is_listed x.ports) n k bit in
          let low : 0 < k = m.low in
          let high : k ≤ 64 = m.high in
          let r = reach.each (port_of n k) (omega arith) m.covered in
          (port_from t n k deep low high r.known, λ z. r.channel (sym (ap (λ b. cond b (channel_of t h (port_of n k)) 0) r.laid) ∙ z))

      alone : (k : ℕ) → has_port t n k ≡ true → (laid_by t (is_shown t opened) h).pair x.number (port_of n k) ≡ false
      alone k e =
          let at = port_at t n k e in
          let place : trunk t (device (port_of n k)) ≡ x.bridge_port - 1 = (let r = row_space n x deep reach some in ap (trunk t) at.home ∙ omega (arith, r)) in
          or_from _ _ (ap (channel_pair t (is_shown t opened) (port_of n k)) (no_channel (port_of n k) x.number at.deep at.known f.low))
          (ap (group_pair t (port_of n k)) (ap (λ (m : ℕ). h.set m x.number) place ∙ f.free) ∙ covers_none t (port_of n k))

  rows_can : (n : ℕ) (xs : List Group) → 0 < n → Each (IsFreeGroup h) xs → Each (CanReach t (is_shown t opened) h) xs → AllPut t n (laid_by t (is_shown t opened) h) (rows_at t xs n)
  rows_can n [] deep free reach = tt
  rows_can n (x ∷ xs) deep free reach = by_mask (cases_eq (group_mask t n x) 0) (rows_can n xs deep free.1 reach.1)
    where
      by_mask : (group_mask t n x ≡ 0) ⊎ (group_mask t n x ≢ 0) → AllPut t n (laid_by t (is_shown t opened) h) (rows_at t xs n) →
          AllPut t n (laid_by t (is_shown t opened) h) (cons_option (cond (group_mask t n x == 0) None (Some (group_row t n x))) (rows_at t xs n))
      by_mask (inl z) rest = rw (eq-eqb (group_mask t n x) 0 z) rest
      by_mask (inr z) rest = rw (ne_eqb (group_mask t n x) 0 z) (row_can n x deep free.0 reach.0 z, rest)

  -- a number that is held is none of free groups
  not_named : (n : ℕ) (g : Held) (xs : List Group) (e : ℕ) → 0 < n → Each (IsFreeGroup g) xs → Each (CanReach t (is_shown t opened) h) xs → group_used g (trunk t n) e ≡ true → is_named (rows_at t xs n) e ≡ false
  not_named n g [] e deep free reach used = refl
  not_named n g (x ∷ xs) e deep free reach used = by_mask (cases_eq (group_mask t n x) 0) (not_named n g xs e deep free.1 reach.1 used)
    where
      other : group_mask t n x ≢ 0 → x.number ≢ e
      other some same =
          let place : x.bridge_port - 1 ≡ trunk t n = (let r = row_space n x deep reach.0 some in omega (arith, r)) in
          let none : g.set (trunk t n) e ≡ [] = ap (λ (m : ℕ). g.set m e) (sym place) ∙ (ap (g.set (x.bridge_port - 1)) (sym same) ∙ free.0.free) in
          false≢true (sym (ap (λ s. not (is_empty_set s)) none) ∙ used)

      by_mask : (group_mask t n x ≡ 0) ⊎ (group_mask t n x ≢ 0) → is_named (rows_at t xs n) e ≡ false →
          is_named (cons_option (cond (group_mask t n x == 0) None (Some (group_row t n x))) (rows_at t xs n)) e ≡ false
      by_mask (inl z) rest = rw (eq-eqb (group_mask t n x) 0 z) rest
      by_mask (inr z) rest = rw (ne_eqb (group_mask t n x) 0 z) (or_from _ _ (ne_eqb x.number e (other z)) rest)

  rows_apart : (n : ℕ) (g : Held) (xs : List Group) → 0 < n → AreFreeGroups g xs → Each (CanReach t (is_shown t opened) h) xs → AreApart (rows_at t xs n)
  rows_apart n g [] deep free reach = tt
  rows_apart n g (x ∷ xs) deep free reach = by_mask (cases_eq (group_mask t n x) 0) (rows_apart n (give x g) xs deep free.1 reach.1)
    where
      mine : group_mask t n x ≢ 0 → group_used (give x g) (trunk t n) x.number ≡ true
      mine some = ap (λ s. not (is_empty_set s)) (given_here x g (trunk t n) x.number (row_space n x deep reach.0 some) refl) ∙ ap not free.0.some

      by_mask : (group_mask t n x ≡ 0) ⊎ (group_mask t n x ≢ 0) → AreApart (rows_at t xs n) → AreApart (cons_option (cond (group_mask t n x == 0) None (Some (group_row t n x))) (rows_at t xs n))
      by_mask (inl z) rest = rw (eq-eqb (group_mask t n x) 0 z) rest
      by_mask (inr z) rest = rw (ne_eqb (group_mask t n x) 0 z) (not_named n (give x g) xs x.number deep (free_each (give x g) xs free.1) reach.1 (mine z), rest)

  -- ---- what is laid then
  pair_more : (g : Held) (xs : List Group) (e q : ℕ) → 64 ≤ q → AreFreeGroups g xs → Each (CanReach t (is_shown t opened) h) xs →
      (group_pair t q (g.set (trunk t (device q)) e) || list_any (has_group_pair t e q) xs) ≡ group_pair t q ((give_all xs g).set (trunk t (device q)) e)
  unfolding give_all
  pair_more g [] e q deep free reach = or_false (group_pair t q (g.set (trunk t (device q)) e))
  pair_more g (x ∷ xs) e q deep free reach =
      sym (or_assoc (group_pair t q (g.set (trunk t (device q)) e)) (has_group_pair t e q x) (list_any (has_group_pair t e q) xs))
      ∙ (ap (λ b. b || list_any (has_group_pair t e q) xs) (one (cases_eq x.number e) (cases_eq (trunk t (device q) + 1) x.bridge_port)) ∙ pair_more (give x g) xs e q deep free.1 reach.1)
    where
      one : (x.number ≡ e) ⊎ (x.number ≢ e) → (trunk t (device q) + 1 ≡ x.bridge_port) ⊎ (trunk t (device q) + 1 ≢ x.bridge_port) →
          (group_pair t q (g.set (trunk t (device q)) e) || has_group_pair t e q x) ≡ group_pair t q ((give x g).set (trunk t (device q)) e)
      one (inr d) at =
          ap (λ b. group_pair t q (g.set (trunk t (device q)) e) || b) (and_left (x.number == e) _ (ne_eqb x.number e d))
          ∙ (or_false (group_pair t q (g.set (trunk t (device q)) e)) ∙ ap (group_pair t q) (sym (given_else x g (trunk t (device q)) e (λ _ f. d (sym f)))))
      one (inl same) (inr d) =
          let none : covers t (is_listed x.ports) q ≡ false = false_from_ne_true _ (λ c. let r = reach.0.each q deep c in d r.at) in
          ap (λ b. group_pair t q (g.set (trunk t (device q)) e) || b) (and_right (x.number == e) _ none)
          ∙ (or_false (group_pair t q (g.set (trunk t (device q)) e)) ∙ ap (group_pair t q) (sym (given_else x g (trunk t (device q)) e (λ f. absurd (d f)))))
      one (inl same) (inl at) =
          let place : trunk t (device q) ≡ x.bridge_port - 1 = omega (arith, at) in
          let empty : g.set (trunk t (device q)) e ≡ [] = ap (λ (m : ℕ). g.set m e) place ∙ (ap (g.set (x.bridge_port - 1)) (sym same) ∙ free.0.free) in
          ap (λ b. b || has_group_pair t e q x) (ap (group_pair t q) empty ∙ covers_none t q)
          ∙ (ap (λ b. b && covers t (is_listed x.ports) q) (eq-eqb x.number e same) ∙ ap (group_pair t q) (sym (given_here x g (trunk t (device q)) e at (sym same))))

  -- The rows of fresh groups are put, each answer is 0, and then what is held is laid.
  pub groups_laid : (xs : List Group) → AreFreeGroups h xs → Each (CanReach t (is_shown t opened) h) xs → RunsAt (laid t opened h) (group_asks Lay t xs) (laid t opened (give_all xs h))
  unfolding group_asks
  groups_laid xs free reach =
      lay_runs t s.tree (rows_at t xs) (laid_by t (is_shown t opened) h) (laid_by t (is_shown t opened) (give_all xs h))
      (λ n there. (let hangs = listed_hangs t n there in (rows_can n xs hangs.extender (free_each h xs free) reach, rows_apart n h xs hangs.extender free reach)))
      (record {
        own = λ q deep known. ap (λ (c : ℕ). cond (is_shown t opened q) c 0) (same_channel q);
        cascade = λ q deep known. refl;
        pair = λ e q deep known. pair_is e q deep;
      })
    where
      port_is : (k c : ℕ) → h.port k c ≡ (give_all xs h).port k c
      port_is k c = ap (λ (f : ℕ → ℕ → Option ℕ). f k c) (sym (given_port xs h))

      same_channel : (q : ℕ) → channel_of t h q ≡ channel_of t (give_all xs h) q
      same_channel q = ap or_zero (channel_by h (give_all xs h) (trunk t (device q)) q (port_is (trunk t (device q))))

      pair_is : (e q : ℕ) → 64 ≤ q → ((laid_by t (is_shown t opened) h).pair e q || in_rows (rows_at t xs (device q)) e (q % 64 + 1)) ≡ (laid_by t (is_shown t opened) (give_all xs h)).pair e q
      pair_is e q deep =
          let rows : in_rows (rows_at t xs (device q)) e (q % 64 + 1) ≡ list_any (has_group_pair t e q) xs =
          rows_have t (device q) xs e (q % 64 + 1) (omega arith) (omega arith) ∙ ap (λ (x : ℕ). list_any (has_group_pair t e x) xs) (port_back q) in
          ap (λ b. (laid_by t (is_shown t opened) h).pair e q || b) rows
          ∙ (or_assoc (channel_pair t (is_shown t opened) q (h.port (trunk t (device q)) e)) (group_pair t q (h.set (trunk t (device q)) e)) (list_any (has_group_pair t e q) xs)
          ∙ (ap (λ b. channel_pair t (is_shown t opened) q (h.port (trunk t (device q)) e) || b) (pair_more h xs e q deep free reach)
          ∙ ap (λ (o : Option ℕ). channel_pair t (is_shown t opened) q o || group_pair t q ((give_all xs h).set (trunk t (device q)) e)) (port_is (trunk t (device q)) e)))

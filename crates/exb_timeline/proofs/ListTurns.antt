-- The turns of what stands in a list, by the moment that each has next.
use Rattle.std.proofs.Common.{◌≡◌, ℕ, zero, suc, ◌<◌, ◌≤◌, List, [], ◌∷◌, ◌++◌, length, map, get_or, set, sym, ap, subst, ◌∙◌, arith}
use Rattle.std.specs.Prelude.{Option, Some, None, IfSome}
use Rattle.std.specs.List.{AllByRecursion}
use Rattle.std.proofs.lemmas.List.{length-map, map-append, map-set}
use Rattle.exb_timeline.specs.declared.tournament.Tournament.{Tournament}
use Rattle.exb_timeline.specs.Tournaments.{AreTurns, IsFirst, moment_at}
use Rattle.exb_timeline.proofs.ListMembers.{all-right}
use Rattle.exb_timeline.proofs.ListPlaces.{HasAt, has_at}

module _ {X : Type 0} (next : X → Option ℕ) where
  -- it stands there, and that is its next moment
  pub record IsNext (xs : List X) (m place : ℕ) (x : X) : Type 0 where
    pub at : HasAt xs place x
    pub next_is : next x ≡ Some m

  -- none has its next moment before this one
  abbrev pub AreFrom : ℕ → List X → Type 0
  AreFrom m = AllByRecursion (λ x. IfSome (next x) (λ k. m ≤ k))

  next_at : (xs : List X) (k : ℕ) (x : X) → k < length xs → x ≡ get_or xs k x → moment_at (map next xs) k ≡ next x
  next_at [] k x low is = absurd (omega (arith, low))
  next_at (y ∷ xs) zero x low is = ap next (sym is)
  next_at (y ∷ xs) (suc k) x low is = next_at xs k x (omega (arith, low)) is

  each : (P : Option ℕ → Type 0) (xs : List X) → ((q : ℕ) → q < length xs → P (moment_at (map next xs) q)) → AllByRecursion (λ x. P (next x)) xs
  each P [] all = tt
  each P (x ∷ xs) all = (all 0 (omega arith), each P xs (λ q low. all (suc q) (omega (arith, low))))

  each_before : (P : Option ℕ → Type 0) (before after : List X) → ((q : ℕ) → q < length before → P (moment_at (map next (before ++ after)) q)) → AllByRecursion (λ x. P (next x)) before
  each_before P [] after all = tt
  each_before P (x ∷ before) after all = (all 0 (omega arith), each_before P before after (λ q low. all (suc q) (omega (arith, low))))

  -- the first turn
  module _ (xs : List X) (m place : ℕ) (h : IsFirst (map next xs) m place) where
    pub is_there : place < length xs
    is_there = omega (arith, h.within, length-map xs next)

    pub whose_turn : (x : X) → x ≡ get_or xs place x → IsNext xs m place x
    whose_turn x is = record { at = has_at xs place x is_there is; next_is = sym (next_at xs place x is_there is) ∙ h.own }

    -- none comes before it: those before its place have later ones, and those behind it no earlier ones
    pub all_from : AreFrom m xs
    all_from = each (λ o. IfSome o (λ k. m ≤ k)) xs (λ q low. h.all q (omega (arith, low, length-map xs next)))

    pub ahead_of : (x : X) (a : HasAt xs place x) → AreFrom (suc m) a.before
    ahead_of x a = each_before (λ o. IfSome o (λ k. suc m ≤ k)) a.before (x ∷ a.after) (λ q low. by_moment (moment_at (map next (a.before ++ x ∷ a.after)) q) (ahead q low))
      where
        ahead : (q : ℕ) → q < length a.before → IfSome (moment_at (map next (a.before ++ x ∷ a.after)) q) (λ k. m < k)
        ahead q low = subst (λ ys. IfSome (moment_at (map next ys) q) (λ k. m < k)) a.split (h.ahead q (omega (arith, low, a.at)))

        by_moment : (o : Option ℕ) → IfSome o (λ k. m < k) → IfSome o (λ k. suc m ≤ k)
        by_moment None later = tt
        by_moment (Some k) later = omega (arith, later)

    pub behind_of : (x : X) (a : HasAt xs place x) → AreFrom m a.after
    behind_of x a = (all-right (λ y. IfSome (next y) (λ k. m ≤ k)) a.before (x ∷ a.after) (subst (AreFrom m) a.split all_from)).1

  -- no turn is left
  pub none_left : (xs : List X) → AllByRecursion (λ m. m ≡ None) (map next xs) → AllByRecursion (λ x. next x ≡ None) xs
  none_left [] none = tt
  none_left (x ∷ xs) none = (none.0, none_left xs none.1)

  -- ---- once one has gone on, and with one more
  pub turns_next : (xs : List X) (place : ℕ) (x : X) (t : Tournament) → AreTurns (set (map next xs) place (next x)) t → AreTurns (map next (set xs place x)) t
  turns_next xs place x t are = subst (λ ms. AreTurns ms t) (sym (map-set next xs place x)) are

  pub turns_more : (xs : List X) (x : X) (t : Tournament) → AreTurns (map next xs ++ next x ∷ []) t → AreTurns (map next (xs ++ x ∷ [])) t
  turns_more xs x t are = subst (λ ms. AreTurns ms t) (sym (map-append next xs (x ∷ []))) are

-- The segments of what is still to come, one after another.
use Rattle.std.proofs.Common.{◌≡◌, ◌≢◌, ℕ, Bool, true, false, ◌==◌, List, [], ◌∷◌, ◌++◌, refl, ap, sym, subst, ◌∙◌, ◌-◌, arith, eq-eqb}
use Rattle.std.specs.Prelude.{Option, Some, None, if◌then◌else◌}
use Rattle.std.specs.List.{AllByRecursion}
use Rattle.std.proofs.lemmas.Bool.{eqb-true, ne_eqb}
use Rattle.exb_model.specs.Input.{Input, Coming, Group, Mode, Eager, Seeded, alone, groups_in, joined, merge, moment_of, second_of, segment_of, segments, segments_in, segments_since, seconds_after, segments_after}
use Rattle.exb_timeline.specs.MergeOrder.{begins_in}

-- the second of what comes
abbrev second_at : Coming → ℕ
second_at x = second_of (moment_of x)

-- ---- all of one second are one group
-- the first group is of this second
record BeginsWith (second : ℕ) (gs : List Group) : Type 0 where
  first : Group
  rest : List Group
  is : gs ≡ first ∷ rest
  second_is : first.second ≡ second

joined-first : (x : Coming) (gs : List Group) → BeginsWith (second_at x) (joined x gs)
joined-first x [] = record { first = alone x; rest = []; is = refl; second_is = refl }
joined-first x (g ∷ gs) = by_test (second_at x == g.second) refl
  where
    by_test : (b : Bool) → (second_at x == g.second) ≡ b → BeginsWith (second_at x) (if second_at x == g.second then record g { comings = x ∷ g.comings } ∷ gs else alone x ∷ g ∷ gs)
    by_test true e = rw e (record { first = record g { comings = x ∷ g.comings }; rest = gs; is = refl; second_is = sym (eqb-true (second_at x) g.second e) })
    by_test false e = rw e (record { first = alone x; rest = g ∷ gs; is = refl; second_is = refl })

joined-other : (x : Coming) (g : Group) (gs : List Group) → second_at x ≢ g.second → joined x (g ∷ gs) ≡ alone x ∷ g ∷ gs
joined-other x g gs other = rw (ne_eqb (second_at x) g.second other) refl

joined-same : (x : Coming) (g : Group) (gs : List Group) → second_at x ≡ g.second → joined x (g ∷ gs) ≡ record g { comings = x ∷ g.comings } ∷ gs
joined-same x g gs same = rw (eq-eqb (second_at x) g.second same) refl

joined-last : (x : Coming) (ys : List Coming) → begins_in (second_at x) ys ≡ false → joined x (groups_in Seeded ys) ≡ alone x ∷ groups_in Seeded ys
joined-last x [] e = refl
joined-last x (y ∷ ys) e =
    let f = joined-first y (groups_in Seeded ys) in
    let apart : second_at x ≢ f.first.second = λ same. (let is : true ≡ false = sym (eq-eqb (second_at y) (second_at x) (sym f.second_is ∙ sym same)) ∙ e in cc) in
    subst (λ (gs : List Group). joined x gs ≡ alone x ∷ gs) (sym f.is) (joined-other x f.first f.rest apart)

pub together : (second : ℕ) (x : Coming) (xs ys : List Coming) → second_at x ≡ second → AllByRecursion (λ y. second_of (moment_of y) ≡ second) xs → begins_in second ys ≡ false →
    groups_in Seeded (x ∷ (xs ++ ys)) ≡ record { second = second; comings = x ∷ xs } ∷ groups_in Seeded ys
together second x [] ys is all apart =
    joined-last x ys (ap (λ s. begins_in s ys) is ∙ apart)
    ∙ ap (λ (g : Group). g ∷ groups_in Seeded ys) (group-of second is)
  where
    of : ℕ → Group
    of n = record { second = n; comings = x ∷ [] }

    group-of : (s : ℕ) → second_at x ≡ s → alone x ≡ of s
    group-of s e = ap of e
together second x (z ∷ xs) ys is all apart =
    ap (joined x) (together second z xs ys all.0 all.1 apart)
    ∙ joined-same x (record { second = second; comings = z ∷ xs }) (groups_in Seeded ys) is

-- ---- segments
self_minus : (n : ℕ) → n - n ≡ 0
self_minus n = omega arith

-- the first of them
pub segments_after-next : (m : Mode) (last : Option ℕ) (g : Group) (xs ys : List Coming) → groups_in m xs ≡ g ∷ groups_in m ys →
    segments_after m last xs ≡ segment_of (seconds_after last g.second) g.comings ∷ segments_after m (Some g.second) ys
segments_after-next m None g xs ys is =
    ap segments_in is ∙ ap (λ n. segment_of n g.comings ∷ segments_since g.second (groups_in m ys)) (self_minus g.second)
segments_after-next m (Some last) g xs ys is = ap (segments_since last) is

pub segments_after-end : (m : Mode) (last : Option ℕ) → segments_after m last [] ≡ []
segments_after-end Eager None = refl
segments_after-end Eager (Some last) = refl
segments_after-end Seeded None = refl
segments_after-end Seeded (Some last) = refl

-- before the first
pub segments-begin : (m : Mode) (i : Input) → segments m i ≡ segments_after m None (merge i)
unfolding segments
segments-begin m i = refl

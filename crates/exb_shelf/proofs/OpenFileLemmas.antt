-- What a table of ids gives after a change.
use Rattle.std.proofs.Common.{◌≡◌, ◌≢◌, ◌<◌, ℕ, zero, suc, true, List, [], ◌∷◌, ◌++◌, length, get_or, refl, arith, ap}
use Rattle.std.proofs.Math.ListN.{set}
use Rattle.exb_shelf.specs.Shelf.{no_id}
use Rattle.exb_shelf.specs.OpenFiles.{id_of, id_at}
use Rattle.exb_shelf.specs.declared.open_files.OpenFile.{OpenFile}

-- the new id is the last
pub id_at-end : (es : List OpenFile) (e : OpenFile) → id_at (es ++ e ∷ []) (length es) ≡ id_of e
id_at-end [] e = refl
id_at-end (x ∷ es) e = id_at-end es e

-- the next id is not given yet
pub id_at-free : (es : List OpenFile) → id_at es (length es) ≡ no_id
id_at-free [] = refl
id_at-free (x ∷ es) = id_at-free es

-- a new id changes none that was given
pub id_at-kept : (es : List OpenFile) (e : OpenFile) (j : ℕ) → (id_at es j).given ≡ true → id_at (es ++ e ∷ []) j ≡ id_at es j
id_at-kept [] e j h = cc
id_at-kept (x ∷ es) e zero h = refl
id_at-kept (x ∷ es) e (suc j) h = id_at-kept es e j h

-- nor any other id
pub id_at-others : (es : List OpenFile) (e : OpenFile) (j : ℕ) → j ≢ length es → id_at (es ++ e ∷ []) j ≡ id_at es j
id_at-others [] e zero h = absurd (h refl)
id_at-others [] e (suc j) h = refl
id_at-others (x ∷ es) e zero h = refl
id_at-others (x ∷ es) e (suc j) h = id_at-others es e j (λ q. h (ap suc q))

-- a given id has an entry
pub id_at-within : (es : List OpenFile) (j : ℕ) → (id_at es j).given ≡ true → j < length es
id_at-within [] j h = cc
id_at-within (x ∷ es) zero h = omega arith
id_at-within (x ∷ es) (suc j) h = let r : j < length es = id_at-within es j h in omega arith

-- an id stands for what its entry says
pub id_at-get : (es : List OpenFile) (j : ℕ) (d : OpenFile) → j < length es → id_at es j ≡ id_of (get_or es j d)
id_at-get [] j d h = absurd (omega arith)
id_at-get (x ∷ es) zero d h = refl
id_at-get (x ∷ es) (suc j) d h = id_at-get es j d (omega arith)

-- a changed entry changes its id
pub id_at-set_same : (es : List OpenFile) (j : ℕ) (e : OpenFile) → j < length es → id_at (set es j e) j ≡ id_of e
id_at-set_same [] j e h = absurd (omega arith)
id_at-set_same (x ∷ es) zero e h = refl
id_at-set_same (x ∷ es) (suc j) e h = id_at-set_same es j e (omega arith)

-- and no other id
pub id_at-set_other : (es : List OpenFile) (i j : ℕ) (e : OpenFile) → j ≢ i → id_at (set es i e) j ≡ id_at es j
id_at-set_other [] i j e h = refl
id_at-set_other (x ∷ es) zero zero e h = absurd (h refl)
id_at-set_other (x ∷ es) zero (suc j) e h = refl
id_at-set_other (x ∷ es) (suc i) zero e h = refl
id_at-set_other (x ∷ es) (suc i) (suc j) e h = id_at-set_other es i j e (λ q. h (ap suc q))

pub ruleset entries = (id_at-end, id_at-free, id_at-kept, id_at-others, id_at-within, id_at-get, id_at-set_same, id_at-set_other)

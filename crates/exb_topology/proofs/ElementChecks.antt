-- Elements that are looked at one after the other, as a loop does.
use Rattle.std.proofs.Common.{◌≡◌, ℕ, zero, suc, ◌+◌, ◌<◌, ◌≤◌, Bool, true, false, not, OnOk, List, [], ◌∷◌, Result, Ok, Err, length, get_or, take, drop, refl, sym, ap, subst, ◌∙◌, is_ok, add-zero, zero-add, arith}
use Rattle.std.proofs.lemmas.Bool.{false≢true}
use Rattle.std.proofs.lemmas.List.{drop_all, drop_more}
use Rattle.exb_toml_keys.specs.declared.faults.TopoFault.{TopoFault}
use Rattle.exb_toml_keys.specs.Faults.{Refusal, at, ◌>>=◌, Fails, Gives}
use Rattle.exb_toml_keys.proofs.ItemLoops.{fails_along}
use Rattle.exb_toml_keys.specs.declared.faults.KeyFault.{KeyFault}
use Rattle.exb_topology.specs.ElementChecks.{each_ok, refuse}

abbrev pub refused : Refusal → Result (Unit {0}) Refusal
refused e = Err e

abbrev pub passed : Result (Unit {0}) Refusal
passed = Ok tt

-- a refusal passes nothing
pub err_is_no_ok : (e : Refusal) → refused e ≡ passed → ⊥
err_is_no_ok e same = false≢true (ap is_ok same)

module _ {X : Type 0} (test : List X → ℕ → X → Result (Unit {0}) Refusal) where
  -- what is left to look at from index i on gives the whole
  abbrev pub So : List X → ℕ → Type 0
  So xs i = each_ok test xs i (drop i xs) ≡ each_ok test xs 0 xs

  pub goes_on : (xs : List X) (i : ℕ) (x : X) → i < length xs → get_or xs i x ≡ x → test (take i xs) i x ≡ Ok tt → So xs i → So xs (i + 1)
  unfolding each_ok
  goes_on xs i x lt is ok so_far =
      let one : each_ok test xs i (drop i xs) ≡ each_ok test xs (i + 1) (drop (i + 1) xs) = rw (drop_more xs i x lt, is, ok) refl in
      sym one ∙ so_far

  pub ends : (e : TopoFault) (xs : List X) (i : ℕ) (x : X) → i < length xs → get_or xs i x ≡ x → Fails e (test (take i xs) i x) → So xs i → Fails e (each_ok test xs 0 xs)
  unfolding each_ok
  ends e xs i x lt is h so_far =
      fails_along e (test (take i xs) i x) (each_ok test xs 0 xs) (λ r f.
      let one : each_ok test xs i (drop i xs) ≡ Err r = rw (drop_more xs i x lt, is, f) refl in
      sym so_far ∙ one) h

  pub is_done : (xs : List X) (i : ℕ) → length xs ≤ i → So xs i → each_ok test xs 0 xs ≡ Ok tt
  unfolding each_ok
  is_done xs i le so_far =
      let one : each_ok test xs i (drop i xs) ≡ Ok tt = rw (drop_all i xs le) refl in
      sym so_far ∙ one

bind_ok : (r next : Result (Unit {0}) Refusal) → (r >>= λ _. next) ≡ Ok tt → (r ≡ Ok tt) × (next ≡ Ok tt)
bind_ok (Ok u) next h = (refl, h)
bind_ok (Err e) next h = absurd (err_is_no_ok e h)

-- what passed, passed at each element
ok_from : {X : Type 0} (test : List X → ℕ → X → Result (Unit {0}) Refusal) (all : List X) (i : ℕ) (xs : List X) → each_ok test all i xs ≡ Ok tt → (k : ℕ) (d : X) → k < length xs → test (take (i + k) all) (i + k) (get_or xs k d) ≡ Ok tt
unfolding each_ok
ok_from test all i [] ok k d lt = absurd (omega arith)
ok_from test all i (x ∷ xs) ok zero d lt = rw (add-zero i) (bind_ok (test (take i all) i x) (each_ok test all (i + 1) xs) ok).0
ok_from test all i (x ∷ xs) ok (suc k) d lt =
    let same : i + suc k ≡ i + 1 + k = omega arith in
    rw same (ok_from test all (i + 1) xs (bind_ok (test (take i all) i x) (each_ok test all (i + 1) xs) ok).1 k d (omega arith))

pub ok_at : {X : Type 0} (test : List X → ℕ → X → Result (Unit {0}) Refusal) (all : List X) → each_ok test all 0 all ≡ Ok tt → (k : ℕ) (d : X) → k < length all → test (take k all) k (get_or all k d) ≡ Ok tt
ok_at test all ok k d lt = subst (λ (m : ℕ). test (take m all) m (get_or all k d) ≡ Ok tt) (zero-add k) (ok_from test all 0 all ok k d lt)

-- a test that isn't refused
pub refuse_ok : (b : Bool) (f : KeyFault) (key : List ℕ) → refuse b f key ≡ Ok tt → b ≡ false
refuse_ok true f key ok = absurd (err_is_no_ok (at f key) ok)
refuse_ok false f key ok = refl

pub both_ok : (r next : Result (Unit {0}) Refusal) → (r >>= λ _. next) ≡ Ok tt → (r ≡ Ok tt) × (next ≡ Ok tt)
both_ok = bind_ok

-- what holds where a call that refuses it passed
pub when_passed : (V : Type 0) (r : Result (Unit {0}) TopoFault) (b : Bool) (f : KeyFault) (key : List ℕ) → Gives r (refuse (not b) f key) → (b ≡ true → V) → OnOk r V
when_passed V (Ok u) true f key gives so = so refl
when_passed V (Ok u) false f key gives so = absurd (err_is_no_ok (at f key) gives)
when_passed V (Err e) b f key gives so = tt

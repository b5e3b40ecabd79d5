-- What is live, as time goes by and ports are forgotten.
use Rattle.std.proofs.Common.{◌≡◌, ℕ, ◌+◌, ◌-◌, ◌≤◌, Bool, true, false, cond, ◌&&◌, nat_lt, refl, sym, ap, ◌∙◌, arith}
use Rattle.std.specs.Prelude.{Option, Some, None}
use Rattle.std.proofs.lemmas.Bool.{le-ltb, ltb-false}
use Rattle.exb_model.specs.Learning.{kept_unless, live_port}
use Rattle.exb_learn.specs.Calls.{if_live, port_of}

-- with ageing time 0 nothing is live
pub none_live : (now ageing : ℕ) (o : Option (ℕ × ℕ)) → nat_lt 0 ageing ≡ false → if_live now ageing o ≡ None
none_live now ageing None none = refl
none_live now ageing (Some (p, at)) none =
    let zero : ageing ≤ 0 = ltb-false 0 ageing none in
    ap (λ b. cond b (Some (p, at)) None) (le-ltb (now - at) ageing (omega (arith, zero)))

pub see_live : (now ageing p : ℕ) (b : Bool) (o : Option (ℕ × ℕ)) → cond (nat_lt 0 ageing && b) (Some (p, now)) (if_live now ageing o) ≡ if_live now ageing (cond b (Some (p, now)) o)
see_live now ageing p false o = by_ageing (nat_lt 0 ageing)
  where
    by_ageing : (a : Bool) → cond (a && false) (Some (p, now)) (if_live now ageing o) ≡ if_live now ageing o
    by_ageing true = refl
    by_ageing false = refl
see_live now ageing p true o = by_ageing (nat_lt 0 ageing) refl
  where
    now_is : now - now ≡ 0
    now_is = omega arith

    by_ageing : (a : Bool) → nat_lt 0 ageing ≡ a → cond (a && true) (Some (p, now)) (if_live now ageing o) ≡ cond (nat_lt (now - now) ageing) (Some (p, now)) None
    by_ageing true h = sym (ap (λ b. cond b (Some (p, now)) None) (ap (λ x. nat_lt x ageing) now_is ∙ h))
    by_ageing false h = none_live now ageing o h ∙ sym (ap (λ b. cond b (Some (p, now)) None) (ap (λ x. nat_lt x ageing) now_is ∙ h))

-- what was dead is dead later
pub later_live : (now seconds ageing : ℕ) (o : Option (ℕ × ℕ)) → if_live (now + seconds) ageing (if_live now ageing o) ≡ if_live (now + seconds) ageing o
later_live now seconds ageing None = refl
later_live now seconds ageing (Some (p, at)) = by_now (nat_lt (now - at) ageing) refl
  where
    by_now : (b : Bool) → nat_lt (now - at) ageing ≡ b → if_live (now + seconds) ageing (cond b (Some (p, at)) None) ≡ cond (nat_lt (now + seconds - at) ageing) (Some (p, at)) None
    by_now true h = refl
    by_now false h =
        let old : ageing ≤ now - at = ltb-false (now - at) ageing h in
        sym (ap (λ b. cond b (Some (p, at)) None) (le-ltb (now + seconds - at) ageing (omega (arith, old))))

pub still_live : (now ageing : ℕ) (o : Option (ℕ × ℕ)) → if_live (now + 0) ageing o ≡ if_live now ageing o
still_live now ageing o = ap (λ (x : ℕ). if_live x ageing o) (omega arith)

pub forget_live : (gone : ℕ → Bool) (now ageing : ℕ) (o : Option (ℕ × ℕ)) → kept_unless gone (if_live now ageing o) ≡ if_live now ageing (kept_unless gone o)
forget_live gone now ageing None = refl
forget_live gone now ageing (Some (p, at)) = by_tests (gone p) (nat_lt (now - at) ageing) refl refl
  where
    by_tests : (g l : Bool) → gone p ≡ g → nat_lt (now - at) ageing ≡ l → kept_unless gone (cond l (Some (p, at)) None) ≡ if_live now ageing (cond g None (Some (p, at)))
    by_tests true true h k = rw h refl
    by_tests false true h k = rw (h, k) refl
    by_tests true false h k = refl
    by_tests false false h k = rw k refl

pub port_of_live : (now ageing : ℕ) (o : Option (ℕ × ℕ)) → port_of (if_live now ageing o) ≡ live_port now ageing o
port_of_live now ageing None = refl
port_of_live now ageing (Some (p, at)) = by_test (nat_lt (now - at) ageing)
  where
    by_test : (b : Bool) → port_of (cond b (Some (p, at)) None) ≡ cond b (Some p) None
    by_test true = refl
    by_test false = refl

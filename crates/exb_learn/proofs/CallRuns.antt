-- A run of calls, and the last sighting in it.
use Rattle.std.proofs.Common.{◌≡◌, ℕ, Bool, true, false, cond, ◌&&◌, ◌||◌, ◌==◌, nat_lt, List, [], ◌∷◌, refl, sym, ap, ◌∙◌, ◌+◌, arith}
use Rattle.std.specs.Prelude.{Option, Some, None, bytes_eq}
use Rattle.std.specs.List.{list_any}
use Rattle.exb_model.specs.Learning.{kept_unless}
use Rattle.exb_learn.specs.Calls.{Call, See, Tick, Forget, if_live, port_of, run, look_in}
use Rattle.exb_learn.specs.Sightings.{Sighting, followed, last_see, unless_forgotten, clock_after, is_forget_of, look_after}
use Rattle.exb_learn.proofs.AgeingLemmas.{see_live, later_live, still_live, forget_live, port_of_live}

kept_all : (o : Option (ℕ × ℕ)) → kept_unless (λ p. false) o ≡ o
kept_all None = refl
kept_all (Some (p, at)) = refl

kept_both : (first then : ℕ → Bool) (p at : ℕ) → kept_unless (λ q. then q || first q) (Some (p, at)) ≡ kept_unless then (kept_unless first (Some (p, at)))
kept_both first then p at = by_tests (then p) (first p) refl
  where
    by_tests : (t f : Bool) → then p ≡ t → cond (t || f) None (Some (p, at)) ≡ kept_unless then (cond f None (Some (p, at)))
    by_tests true true h = refl
    by_tests true false h = rw h refl
    by_tests false true h = refl
    by_tests false false h = rw h refl

unless-followed : (c : Call) (o : Option Sighting) → unless_forgotten (followed c o) ≡ kept_unless (λ p. is_forget_of p c) (unless_forgotten o)
unless-followed c None = refl
unless-followed c (Some s) = kept_both (λ p. list_any (is_forget_of p) s.since) (λ p. is_forget_of p c) s.port s.at

pub record AreSame (ageing : ℕ) (cs : List Call) : Type 0 where
  pub ageing_is : (run ageing cs).ageing ≡ ageing
  pub clock_is : (run ageing cs).clock ≡ clock_after cs
  pub seen_is : (v : ℕ) (m : List ℕ) → (run ageing cs).seen v m ≡ if_live (clock_after cs) ageing (unless_forgotten (last_see cs v m))

pub same : (ageing : ℕ) (cs : List Call) → AreSame ageing cs
same ageing [] = record { ageing_is = refl; clock_is = refl; seen_is = λ v m. refl }
same ageing (See w n p ∷ cs) =
    let s = same ageing cs in
    record {
      ageing_is = s.ageing_is;
      clock_is = omega (arith, s.clock_is);
      seen_is = λ v m.
          seen_now (run ageing cs).ageing (run ageing cs).clock v m s.ageing_is s.clock_is (s.seen_is v m)
          ∙ ap (if_live (clock_after cs) ageing) (by_test v m (w == v && bytes_eq n m))
          ∙ sym (still_live (clock_after cs) ageing (unless_forgotten (last_see (See w n p ∷ cs) v m)));
    }
  where
    seen_now : (a now v : ℕ) (m : List ℕ) → a ≡ ageing → now ≡ clock_after cs → (run ageing cs).seen v m ≡ if_live (clock_after cs) ageing (unless_forgotten (last_see cs v m)) →
        cond (nat_lt 0 a && (w == v && bytes_eq n m)) (Some (p, now)) ((run ageing cs).seen v m)
        ≡ if_live (clock_after cs) ageing (cond (w == v && bytes_eq n m) (Some (p, clock_after cs)) (unless_forgotten (last_see cs v m)))
    seen_now a now v m e f is =
        ap (λ (x : ℕ). cond (nat_lt 0 x && (w == v && bytes_eq n m)) (Some (p, now)) ((run ageing cs).seen v m)) e
        ∙ ap (λ (x : ℕ). cond (nat_lt 0 ageing && (w == v && bytes_eq n m)) (Some (p, x)) ((run ageing cs).seen v m)) f
        ∙ ap (λ (o : Option (ℕ × ℕ)). cond (nat_lt 0 ageing && (w == v && bytes_eq n m)) (Some (p, clock_after cs)) o) is
        ∙ see_live (clock_after cs) ageing p (w == v && bytes_eq n m) (unless_forgotten (last_see cs v m))

    by_test : (v : ℕ) (m : List ℕ) → (b : Bool) →
        cond b (Some (p, clock_after cs)) (unless_forgotten (last_see cs v m))
        ≡ unless_forgotten (cond b (Some (record { port = p; at = clock_after cs; since = [] })) (followed (See w n p) (last_see cs v m)))
    by_test v m true = refl
    by_test v m false = sym (unless-followed (See w n p) (last_see cs v m) ∙ kept_all (unless_forgotten (last_see cs v m)))
same ageing (Tick seconds ∷ cs) =
    let s = same ageing cs in
    record {
      ageing_is = s.ageing_is;
      clock_is = ap (λ (x : ℕ). x + seconds) s.clock_is;
      seen_is = λ v m.
          ap (λ (x : ℕ). if_live (x + seconds) (run ageing cs).ageing ((run ageing cs).seen v m)) s.clock_is
          ∙ ap (λ (x : ℕ). if_live (clock_after cs + seconds) x ((run ageing cs).seen v m)) s.ageing_is
          ∙ ap (if_live (clock_after cs + seconds) ageing) (s.seen_is v m)
          ∙ later_live (clock_after cs) seconds ageing (unless_forgotten (last_see cs v m))
          ∙ ap (if_live (clock_after cs + seconds) ageing) (sym (unless-followed (Tick seconds) (last_see cs v m) ∙ kept_all (unless_forgotten (last_see cs v m))));
    }
same ageing (Forget p ∷ cs) =
    let s = same ageing cs in
    record {
      ageing_is = s.ageing_is;
      clock_is = omega (arith, s.clock_is);
      seen_is = λ v m.
          ap (kept_unless (λ q. q == p)) (s.seen_is v m)
          ∙ forget_live (λ q. q == p) (clock_after cs) ageing (unless_forgotten (last_see cs v m))
          ∙ ap (if_live (clock_after cs) ageing) (sym (unless-followed (Forget p) (last_see cs v m)))
          ∙ sym (still_live (clock_after cs) ageing (unless_forgotten (last_see (Forget p ∷ cs) v m)));
    }

pub looks : (ageing : ℕ) (cs : List Call) (v : ℕ) (m : List ℕ) → look_in (run ageing cs) v m ≡ look_after ageing cs v m
looks ageing cs v m = ap port_of ((same ageing cs).seen_is v m) ∙ port_of_live (clock_after cs) ageing (unless_forgotten (last_see cs v m))

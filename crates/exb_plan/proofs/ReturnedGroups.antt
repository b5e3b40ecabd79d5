-- Groups that were given, the last one taken back.
use Rattle.std.proofs.Common.{◌≡◌, ℕ, ◌+◌, ◌-◌, ◌≤◌, ◌==◌, ◌&&◌, ◌++◌, cond, Bool, true, false, List, [], ◌∷◌, refl, sym, ◌∙◌, ap, subst, arith, eq-eqb}
use Rattle.std.proofs.lemmas.Bool.{and_parts, eqb-true}
use mathlib.Core.Path.{fun_ext}
use Rattle.exb_model.specs.Refusals.{is_empty_set}
use Rattle.exb_control_spec.specs.Plans.HeldNumbers.{Held, Group, group_used, give, take_back, give_all}
use Rattle.exb_numbers.specs.Spaces.{Spaces, has_space}
use Rattle.exb_plan.specs.PlanValues.{IsGiven, AreGiven, IsLaterBy}

pub give_last : (xs : List Group) (x : Group) (h : Held) → give_all (xs ++ x ∷ []) h ≡ give x (give_all xs h)
unfolding give_all
give_last [] x h = refl
give_last (y ∷ ys) x h = give_last ys x (give y h)

pub given_front : (v : Spaces) (xs : List Group) (x : Group) (h : Held) → AreGiven v h (xs ++ x ∷ []) → AreGiven v h xs × IsGiven v (give_all xs h) x
unfolding give_all
given_front v [] x h are = (tt, are.0)
given_front v (y ∷ ys) x h are = (let r = given_front v ys x (give y h) are.1 in ((are.0, r.0), r.1))

-- a group that was free is free again
pub taken_back : (x : Group) (h : Held) → h.set (x.bridge_port - 1) x.number ≡ [] → 1 ≤ x.bridge_port → take_back x (give x h) ≡ h
taken_back x h free low =
    ap (λ (set : ℕ → ℕ → List ℕ). let n : Held = record { port = h.port; set = set } in n)
    (fun_ext (λ k. fun_ext (λ g. by_test k g (k + 1 == x.bridge_port && g == x.number) refl)))
  where
    by_test : (k g : ℕ) (b : Bool) → (k + 1 == x.bridge_port && g == x.number) ≡ b → cond b [] (cond b x.ports (h.set k g)) ≡ h.set k g
    by_test k g false e = refl
    by_test k g true e =
        let parts = and_parts (k + 1 == x.bridge_port) (g == x.number) e in
        let p : k ≡ x.bridge_port - 1 = (let q = eqb-true _ _ parts.0 in omega (arith, q)) in
        let n : g ≡ x.number = eqb-true _ _ parts.1 in
        sym (rw (p, n) free)

-- the last group has its ports
pub last_used : (x : Group) (h : Held) → 1 ≤ x.bridge_port → is_empty_set x.ports ≡ false → group_used (give x h) (x.bridge_port - 1) x.number ≡ true
last_used x h low some =
    let p : x.bridge_port - 1 + 1 ≡ x.bridge_port = omega arith in
    rw (eq-eqb (x.bridge_port - 1 + 1) x.bridge_port p, eq-eqb x.number x.number refl, some) refl

-- the last of the groups that were given
pub record IsLast (v : Spaces) (h : Held) (xs : List Group) (x : Group) (now : Held) : Type 0 where
  pub from1 : 1 ≤ x.bridge_port
  pub cascade : has_space v (x.bridge_port - 1) ≡ true
  pub used : group_used now (x.bridge_port - 1) x.number ≡ true
  pub back : IsLaterBy v h xs (take_back x now)

pub last_given : (v : Spaces) (h : Held) (xs : List Group) (x : Group) (now : Held) → IsLaterBy v h (xs ++ x ∷ []) now → IsLast v h xs x now
last_given v h xs x now later =
    let parts : AreGiven v h xs × IsGiven v (give_all xs h) x = given_front v xs x h later.given_are in
    let is : now ≡ give x (give_all xs h) = later.held_is ∙ give_last xs x h in
    record {
      from1 = parts.1.from1;
      cascade = parts.1.cascade;
      used = subst (λ (k : Held). group_used k (x.bridge_port - 1) x.number ≡ true) (sym is) (last_used x (give_all xs h) parts.1.from1 parts.1.some);
      back = record { given_are = parts.0; held_is = ap (take_back x) is ∙ taken_back x (give_all xs h) parts.1.free parts.1.from1 };
    }

pub none_given : (v : Spaces) (h now : Held) → IsLaterBy v h [] now → now ≡ h
unfolding give_all
none_given v h now later = later.held_is

-- What is asked to open an extender, port by port.
use Rattle.std.proofs.Common.{◌≡◌, ℕ, ◌+◌, ◌*◌, ◌/◌, ◌<◌, ◌≤◌, ◌&&◌, cond, Bool, true, false, List, [], ◌∷◌, ◌++◌, filter, refl, sym, ◌∙◌, ap, arith, add-one, nat_lt}
use Rattle.std.specs.List.{flat_map, range_with_len}
use Rattle.std.proofs.lemmas.Bool.{and_parts, ltb-true}
use Rattle.exb_model.specs.Tree.{Shape, is_port, is_cascade, is_extender}
use Rattle.exb_model.proofs.PortLemmas.{range-more}
use Rattle.exb_csp.specs.declared.message.Request.TheVariants.{Open}
use Rattle.exb_csp.specs.declared.ask_at.AskAt.{AskAt}
use Rattle.exb_control_spec.specs.Plans.ChangeRequests.{ask, create_asks}
use Rattle.exb_control_spec.specs.Plans.HeldNumbers.{Held}
use Rattle.exb_plan.proofs.Lists.{flat_more}
use Rattle.exb_control_spec.specs.Decisions.{cascade_asks, cascades_of, channel_of, opening_asks}

flat_filter : {X Y : Type 0} (f : X → List Y) (test : X → Bool) (xs : List X) → flat_map (λ x. cond (test x) (f x) []) xs ≡ flat_map f (filter test xs)
flat_filter f test [] = refl
flat_filter f test (x ∷ xs) = by_test (test x) (flat_filter f test xs)
  where
    by_test : (b : Bool) → flat_map (λ x. cond (test x) (f x) []) xs ≡ flat_map f (filter test xs) → (cond b (f x) [] ++ flat_map (λ x. cond (test x) (f x) []) xs) ≡ flat_map f (cond b (x ∷ filter test xs) (filter test xs))
    by_test true e = ap (λ l. f x ++ l) e
    by_test false e = e

pub opening_is : (t : Shape) (n : ℕ) (h : Held) (asks : List AskAt) (place : ℕ) → place ≡ 64 → asks ≡ ask n Open ∷ flat_map (cascade_asks t h) (range_with_len (64 * n) place) →
    asks ≡ opening_asks t n h
unfolding opening_asks cascades_of
opening_is t n h asks place end is =
    is ∙ (ap (λ (m : ℕ). ask n Open ∷ flat_map (cascade_asks t h) (range_with_len (64 * n) m)) end
    ∙ ap (λ (l : List AskAt). ask n Open ∷ l) (flat_filter (λ q. create_asks t q true (channel_of t h q)) (λ q. is_port t q && is_cascade t q) (range_with_len (64 * n) 64)))

pub cascade_more : (t : Shape) (n : ℕ) (h : Held) (before now : List AskAt) (place port : ℕ) → port ≡ 64 * n + place → before ≡ ask n Open ∷ flat_map (cascade_asks t h) (range_with_len (64 * n) place) →
    now ≡ before ++ cascade_asks t h port → now ≡ ask n Open ∷ flat_map (cascade_asks t h) (range_with_len (64 * n) (place + 1))
cascade_more t n h before now place port at is more =
    flat_more (cascade_asks t h) (range_with_len (64 * n) place) port (ask n Open ∷ []) before now is more
    ∙ ap (λ (xs : List ℕ). ask n Open ∷ flat_map (cascade_asks t h) xs)
    (ap (λ (q : ℕ). range_with_len (64 * n) place ++ q ∷ []) at ∙ (sym (range-more (64 * n) place) ∙ ap (range_with_len (64 * n)) (sym (add-one place))))

-- a port of extender n is a port of an extender
pub extender_of : (t : Shape) (n place port : ℕ) → place < 64 → port ≡ 64 * n + place → is_extender t n ≡ true → is_extender t (port / 64) ≡ true
extender_of t n place port low at is = let same : port / 64 ≡ n = omega (arith, at, low) in ap (is_extender t) same ∙ is

pub extender_high : (t : Shape) (port : ℕ) → is_extender t (port / 64) ≡ true → 64 ≤ port
extender_high t port e = let l = ltb-true 0 (port / 64) (and_parts (nat_lt 0 (port / 64)) _ e).0 in omega (arith, l)

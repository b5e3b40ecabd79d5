-- Rule 2: lines that belong to one extender, and lines that don't.
use Rattle.std.proofs.Common.{◌≡◌, ◌≢◌, ℕ, List, [], ◌∷◌, ◌++◌, map, refl, ap, sym, ◌∙◌, subst}
use Rattle.std.proofs.lemmas.Bool.{eq-eqb, ne_eqb}
use Rattle.exb_model.specs.declared.event.Event.{Event}
use Rattle.exb_extender.specs.declared.sends.Side.{Side}
use Rattle.exb_extender.specs.Forwarding.{Sent}
use Rattle.exb_extender.specs.Machine.{ExtenderState, Arrives, Beats, react}
use Rattle.exb_world_spec.specs.Worlds as world
use Rattle.exb_world_spec.specs.Runs.Sessions.{Each}
use Rattle.exb_model.specs.Traces.{TraceLine, In, Out, Beat, Journal}
use Rattle.exb_world_spec.specs.TraceLines.{side_number, all_told}
use Rattle.exb_trace_spec.specs.Rule2Extenders.{Watch, side_of, watched, MayStand, watched_all, MayFollow}
use Rattle.exb_trace_laws.proofs.ExtenderLines.{sent_line}
use Rattle.exb_trace_laws.proofs.LinePredicates.{same_number}

abbrev pub quiet : ExtenderState → Watch
quiet s = record { state = s; owed = [] }

pub record Follows (n : ℕ) (x : Watch) (ls : List TraceLine) (y : Watch) : Type 0 where
  pub may : MayFollow n x ls
  pub is : watched_all n x ls ≡ y

watched_append : (n : ℕ) (x : Watch) (xs ys : List TraceLine) → watched_all n x (xs ++ ys) ≡ watched_all n (watched_all n x xs) ys
unfolding watched_all
watched_append n x [] ys = refl
watched_append n x (l ∷ xs) ys = watched_append n (watched n x l) xs ys

may_append : (n : ℕ) (x : Watch) (xs ys : List TraceLine) → MayFollow n x xs → MayFollow n (watched_all n x xs) ys → MayFollow n x (xs ++ ys)
unfolding watched_all MayFollow
may_append n x [] ys a b = b
may_append n x (l ∷ xs) ys a b = (a.0, may_append n (watched n x l) xs ys a.1 b)

pub follows_then : (n : ℕ) (x y z : Watch) (xs ys : List TraceLine) → Follows n x xs y → Follows n y ys z → Follows n x (xs ++ ys) z
follows_then n x y z xs ys k l =
    record {
      may = may_append n x xs ys k.may (subst (λ u. MayFollow n u ys) (sym k.is) l.may);
      is = watched_append n x xs ys ∙ ap (λ u. watched_all n u ys) k.is ∙ l.is;
    }

pub follows_none : (n : ℕ) (x : Watch) → Follows n x [] x
unfolding watched_all MayFollow
follows_none n x = record { may = tt; is = refl }

-- one more line, which takes the watch from x to z
follows_one : (n : ℕ) (x z y : Watch) (l : TraceLine) (ls : List TraceLine) → MayStand n x l → watched n x l ≡ z → Follows n z ls y → Follows n x (l ∷ ls) y
unfolding watched_all MayFollow
follows_one n x z y l ls may is k =
    let c = subst (λ u. MayFollow n u ls × (watched_all n u ls ≡ y)) (sym is) (k.may, k.is) in
    record { may = (may, c.0); is = c.1 }

-- ---- lines of others
abbrev pub IsOfOther : ℕ → TraceLine → Type 0
IsOfOther n (In m k f) = m ≢ n
IsOfOther n (Out m k f) = m ≢ n
IsOfOther n Beat = ⊥
IsOfOther n (Journal text) = Unit {0}

pub follows_others : (n : ℕ) (x : Watch) (ls : List TraceLine) → Each (IsOfOther n) ls → Follows n x ls x
follows_others n x [] all = follows_none n x
follows_others n x (In m k f ∷ ls) all = follows_one n x x x (In m k f) ls (λ e. absurd (all.0 e)) (rw (ne_eqb m n all.0) refl) (follows_others n x ls all.1)
follows_others n x (Out m k f ∷ ls) all = follows_one n x x x (Out m k f) ls (λ e. absurd (all.0 e)) (rw (ne_eqb m n all.0) refl) (follows_others n x ls all.1)
follows_others n x (Beat ∷ ls) all = absurd all.0
follows_others n x (Journal text ∷ ls) all = follows_one n x x x (Journal text) ls tt refl (follows_others n x ls all.1)

pub journal_of_others : (n : ℕ) (es : List Event) → Each (IsOfOther n) (all_told (map world.Journal es))
journal_of_others n [] = tt
journal_of_others n (e ∷ es) = (tt, journal_of_others n es)

pub sends_of_others : (n m : ℕ) (ss : List Sent) → m ≢ n → Each (IsOfOther n) (all_told (map (sent_line m) ss))
sends_of_others n m [] ne = tt
sends_of_others n m (s ∷ ss) ne = (ne, sends_of_others n m ss ne)

-- ---- its own lines
pub follows_in : (n k : ℕ) (s : Side) (f : List ℕ) (x : ExtenderState) → side_of k ≡ s → Follows n (quiet x) (In n k f ∷ []) (record { state = (react (Arrives s f) x).0; owed = (react (Arrives s f) x).1 })
follows_in n k s f x e =
    let y : Watch = record { state = (react (Arrives s f) x).0; owed = (react (Arrives s f) x).1 } in
    let is : watched n (quiet x) (In n k f) ≡ y = rw (eq-eqb n n refl) (ap (λ (z : Side). record { state = (react (Arrives z f) x).0; owed = (react (Arrives z f) x).1 }) e) in
    follows_one n (quiet x) y y (In n k f) [] (λ z. refl) is (follows_none n y)

pub follows_beat : (n : ℕ) (x : ExtenderState) → Follows n (quiet x) (Beat ∷ []) (record { state = (react Beats x).0; owed = (react Beats x).1 })
follows_beat n x =
    let y : Watch = record { state = (react Beats x).0; owed = (react Beats x).1 } in
    follows_one n (quiet x) y y Beat [] refl refl (follows_none n y)

pub follows_sends : (n : ℕ) (x : ExtenderState) (ss : List Sent) → Follows n (record { state = x; owed = ss }) (all_told (map (sent_line n) ss)) (quiet x)
follows_sends n x [] = follows_none n (quiet x)
follows_sends n x (s ∷ ss) =
    follows_one n (record { state = x; owed = s ∷ ss }) (record { state = x; owed = ss }) (quiet x) (Out n (side_number s.side) s.bytes) (all_told (map (sent_line n) ss)) (λ e. (same_number s.side, refl))
    (rw (eq-eqb n n refl) refl) (follows_sends n x ss)

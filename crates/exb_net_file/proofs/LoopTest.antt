-- The test of loops: it joins exactly what wires join, and labels compute it.
use Rattle.std.proofs.Common.{◌≡◌, ◌↔◌, ℕ, ◌<◌, ◌==◌, ◌&&◌, ◌||◌, ◌++◌, Bool, true, false, cond, List, [], ◌∷◌, length, slice_index, refl, ap, sym, ◌∙◌, subst, inl, inr}
use Rattle.std.specs.List.{list_any}
use Rattle.std.proofs.lemmas.Bool.{cases_eq, eq-eqb, ne_eqb, eqb-true, and_parts, and_from, or_cases, or_left, or_right}
use Rattle.std.proofs.lemmas.List.{append_assoc, append-nil}
use Rattle.exb_net_spec.specs.declared.wires.Wire.{Wire}
use Rattle.exb_net_spec.specs.Nets.{is_between, AreJoined, Leads}
use Rattle.exb_net_spec.proofs.Forest.{joined_more, joined_then, joined_on, joined_back}
use Rattle.exb_net_file.specs.Wires.{with_wire, joined_over, are_joined}

abbrev pub Test : Type 0
Test = ℕ → ℕ → Bool

abbrev equal : Test
equal b c = b == c

-- ---- one wire more, at the end
pub joined_push : (r : Test) (xs : List Wire) (x : Wire) → joined_over r (xs ++ x ∷ []) ≡ with_wire (joined_over r xs) x
unfolding joined_over
joined_push r [] x = refl
joined_push r (y ∷ xs) x = joined_push (with_wire r y) xs x

-- ---- how a wire joins two bridges
data Over (r : Test) (p q b c : ℕ) : Type 0 where
  near : r b c ≡ true → Over r p q b c
  on : r b p ≡ true → r q c ≡ true → Over r p q b c
  back : r b q ≡ true → r p c ≡ true → Over r p q b c

over_of : (r : Test) (x : Wire) (b c : ℕ) → with_wire r x b c ≡ true → Over r x.a.bridge x.b.bridge b c
over_of r x b c e =
    let p : ℕ = x.a.bridge in
    let q : ℕ = x.b.bridge in
    elim (or_cases (r b c) ((r b p && r q c) || (r b q && r p c)) e) [
      | inl k ↦ near k
      | inr k ↦ elim (or_cases (r b p && r q c) (r b q && r p c) k) [
        | inl h ↦ (let z = and_parts (r b p) (r q c) h in on z.0 z.1)
        | inr h ↦ (let z = and_parts (r b q) (r p c) h in back z.0 z.1)
      ]
    ]

of_over : (r : Test) (x : Wire) (b c : ℕ) → Over r x.a.bridge x.b.bridge b c → with_wire r x b c ≡ true
of_over r x b c (near k) = or_left (r b c) ((r b x.a.bridge && r x.b.bridge c) || (r b x.b.bridge && r x.a.bridge c)) k
of_over r x b c (on h k) =
    or_right (r b c) ((r b x.a.bridge && r x.b.bridge c) || (r b x.b.bridge && r x.a.bridge c)) (or_left (r b x.a.bridge && r x.b.bridge c) (r b x.b.bridge && r x.a.bridge c) (and_from (r b x.a.bridge) (r x.b.bridge c) h k))
of_over r x b c (back h k) =
    or_right (r b c) ((r b x.a.bridge && r x.b.bridge c) || (r b x.b.bridge && r x.a.bridge c)) (or_right (r b x.a.bridge && r x.b.bridge c) (r b x.b.bridge && r x.a.bridge c) (and_from (r b x.b.bridge) (r x.a.bridge c) h k))

-- ---- what it joins, wires join
sound_step : (r : Test) (before : List Wire) (x : Wire) → ((b c : ℕ) → r b c ≡ true → AreJoined before b c) → (b c : ℕ) → Over r x.a.bridge x.b.bridge b c → AreJoined (before ++ x ∷ []) b c
sound_step r before x so b c (near k) = joined_more before (x ∷ []) b c (so b c k)
sound_step r before x so b c (on h k) =
    let all : List Wire = before ++ x ∷ [] in
    joined_then all b x.a.bridge c (joined_more before (x ∷ []) b x.a.bridge (so b x.a.bridge h)) (joined_then all x.a.bridge x.b.bridge c (joined_on before x) (joined_more before (x ∷ []) x.b.bridge c (so x.b.bridge c k)))
sound_step r before x so b c (back h k) =
    let all : List Wire = before ++ x ∷ [] in
    joined_then all b x.b.bridge c (joined_more before (x ∷ []) b x.b.bridge (so b x.b.bridge h)) (joined_then all x.b.bridge x.a.bridge c (joined_back before x) (joined_more before (x ∷ []) x.a.bridge c (so x.a.bridge c k)))

sound_over : (r : Test) (before xs : List Wire) → ((b c : ℕ) → r b c ≡ true → AreJoined before b c) → (b c : ℕ) → joined_over r xs b c ≡ true → AreJoined (before ++ xs) b c
unfolding joined_over
sound_over r before [] so b c e = subst (λ (ws : List Wire). AreJoined ws b c) (sym (append-nil before)) (so b c e)
sound_over r before (x ∷ xs) so b c e =
    subst (λ (ws : List Wire). AreJoined ws b c) (append_assoc before (x ∷ []) xs) (sound_over (with_wire r x) (before ++ x ∷ []) xs (λ d f k. sound_step r before x so d f (over_of r x d f k)) b c e)

pub wires_join : (xs : List Wire) (b c : ℕ) → are_joined xs b c ≡ true → AreJoined xs b c
wires_join xs b c e = sound_over equal [] xs (λ d f k. ([], eqb-true d f k)) b c e

-- ---- what wires join, it joins
record Joins (r : Test) : Type 0 where
  same : (b : ℕ) → r b b ≡ true
  turned : (b c : ℕ) → r b c ≡ true → r c b ≡ true
  through : (b c d : ℕ) → r b c ≡ true → r c d ≡ true → r b d ≡ true

turn : (r : Test) (p q b c : ℕ) → Joins r → Over r p q b c → Over r p q c b
turn r p q b c j (near k) = near (j.turned b c k)
turn r p q b c j (on h k) = back (j.turned q c k) (j.turned b p h)
turn r p q b c j (back h k) = on (j.turned p c k) (j.turned b q h)

go : (r : Test) (p q b c d : ℕ) → Joins r → Over r p q b c → Over r p q c d → Over r p q b d
go r p q b c d j (near k) (near l) = near (j.through b c d k l)
go r p q b c d j (near k) (on l m) = on (j.through b c p k l) m
go r p q b c d j (near k) (back l m) = back (j.through b c q k l) m
go r p q b c d j (on h k) (near l) = on h (j.through q c d k l)
go r p q b c d j (on h k) (on l m) = on h m
go r p q b c d j (on h k) (back l m) = near (j.through b p d h m)
go r p q b c d j (back h k) (near l) = back h (j.through p c d k l)
go r p q b c d j (back h k) (on l m) = near (j.through b q d h m)
go r p q b c d j (back h k) (back l m) = back h m

joins_step : (r : Test) (x : Wire) → Joins r → Joins (with_wire r x)
joins_step r x j =
    let p : ℕ = x.a.bridge in
    let q : ℕ = x.b.bridge in
    record {
      same = λ b. of_over r x b b (near (j.same b));
      turned = λ b c k. of_over r x c b (turn r p q b c j (over_of r x b c k));
      through = λ b c d k l. of_over r x b d (go r p q b c d j (over_of r x b c k) (over_of r x c d l));
    }

joins_over : (r : Test) (xs : List Wire) → Joins r → Joins (joined_over r xs)
unfolding joined_over
joins_over r [] j = j
joins_over r (x ∷ xs) j = joins_over (with_wire r x) xs (joins_step r x j)

stays : (r : Test) (xs : List Wire) (b c : ℕ) → r b c ≡ true → joined_over r xs b c ≡ true
unfolding joined_over
stays r [] b c k = k
stays r (x ∷ xs) b c k = stays (with_wire r x) xs b c (of_over r x b c (near k))

between_step : (r : Test) (x : Wire) (b c : ℕ) → Joins r → is_between b c x ≡ true → Over r x.a.bridge x.b.bridge b c
between_step r x b c j e =
    elim (or_cases (x.a.bridge == b && x.b.bridge == c) (x.b.bridge == b && x.a.bridge == c) e) [
      | inl k ↦ (let z = and_parts (x.a.bridge == b) (x.b.bridge == c) k in on (subst (λ (d : ℕ). r d x.a.bridge ≡ true) (eqb-true x.a.bridge b z.0) (j.same x.a.bridge)) (subst (λ (d : ℕ). r x.b.bridge d ≡ true) (eqb-true x.b.bridge c z.1) (j.same x.b.bridge)))
      | inr k ↦ (let z = and_parts (x.b.bridge == b) (x.a.bridge == c) k in back (subst (λ (d : ℕ). r d x.b.bridge ≡ true) (eqb-true x.b.bridge b z.0) (j.same x.b.bridge)) (subst (λ (d : ℕ). r x.a.bridge d ≡ true) (eqb-true x.a.bridge c z.1) (j.same x.a.bridge)))
    ]

between : (r : Test) (xs : List Wire) (b c : ℕ) → Joins r → list_any (is_between b c) xs ≡ true → joined_over r xs b c ≡ true
unfolding joined_over
between r [] b c j e = absurd (let z : false ≡ true = e in cc)
between r (x ∷ xs) b c j e =
    elim (or_cases (is_between b c x) (list_any (is_between b c) xs) e) [
      | inl k ↦ stays (with_wire r x) xs b c (of_over r x b c (between_step r x b c j k))
      | inr k ↦ between (with_wire r x) xs b c (joins_step r x j) k
    ]

equal_joins : Joins equal
equal_joins =
    record {
      same = λ b. eq-eqb b b refl;
      turned = λ b c k. eq-eqb c b (sym (eqb-true b c k));
      through = λ b c d k l. eq-eqb b d (eqb-true b c k ∙ eqb-true c d l);
    }

leads_joined : (xs : List Wire) (b c : ℕ) (by : List ℕ) → Leads xs b by c → are_joined xs b c ≡ true
leads_joined xs b c [] k = subst (λ (d : ℕ). are_joined xs b d ≡ true) k ((joins_over equal xs equal_joins).same b)
leads_joined xs b c (d ∷ by) k = (joins_over equal xs equal_joins).through b d c (between equal xs b d equal_joins k.0) (leads_joined xs d c by k.1)

pub joined_tells : (xs : List Wire) (b c : ℕ) → AreJoined xs b c → are_joined xs b c ≡ true
joined_tells xs b c j = leads_joined xs b c j.0 j.1

pub joined_is_exact : (xs : List Wire) (b c : ℕ) → (are_joined xs b c ≡ true) ↔ AreJoined xs b c
joined_is_exact xs b c = (wires_join xs b c, joined_tells xs b c)

-- ---- labels
pub record AreLabels (labels : List ℕ) (r : Test) : Type 0 where
  pub sized : length labels ≡ 256
  pub tell : (b c : ℕ) → b < 256 → c < 256 → (slice_index labels b == slice_index labels c) ≡ r b c

abbrev pub other_label : ℕ → ℕ → ℕ → ℕ
other_label from to l = cond (l == from) to l

renamed : (p q from to : ℕ) → (other_label from to p == other_label from to q) ≡ ((p == q) || ((p == to && from == q) || (p == from && to == q)))
renamed p q from to =
    elim (cases_eq p from) [
      | inl i ↦ elim (cases_eq q from) [
        | inl j ↦ rw (eq-eqb p from i, eq-eqb q from j, eq-eqb to to refl, eq-eqb p q (i ∙ sym j)) refl
        | inr j ↦ rw (eq-eqb p from i, ne_eqb q from j, ne_eqb p q (λ e. j (sym e ∙ i)), ne_eqb from q (λ e. j (sym e))) (no_and (p == to) (to == q))
      ]
      | inr i ↦ elim (cases_eq q from) [
        | inl j ↦ rw (ne_eqb p from i, eq-eqb q from j, ne_eqb p q (λ e. i (e ∙ j)), eq-eqb from q (sym j)) (and_or (p == to))
        | inr j ↦ rw (ne_eqb p from i, ne_eqb q from j, ne_eqb from q (λ e. j (sym e))) (nothing (p == q) (p == to))
      ]
    ]
  where
    no_and : (a b : Bool) → b ≡ (false || ((a && false) || (true && b)))
    no_and true b = refl
    no_and false b = refl

    and_or : (a : Bool) → a ≡ (false || ((a && true) || (false && (to == q))))
    and_or true = refl
    and_or false = refl

    nothing : (a b : Bool) → a ≡ (a || ((b && false) || (false && (to == q))))
    nothing true b = refl
    nothing false true = refl
    nothing false false = refl

pub labels_begin : (labels : List ℕ) → length labels ≡ 256 → ((b : ℕ) → b < 256 → slice_index labels b ≡ b) → AreLabels labels (are_joined [])
unfolding joined_over
labels_begin labels sized own = record { sized = sized; tell = λ b c lb lc. rw (own b lb, own c lc) refl }

-- after a wire: all that had the label of one end have that of the other
module _ (labels new : List ℕ) (r : Test) (x : Wire) (l : AreLabels labels r) (low_a : x.a.bridge < 256) (low_b : x.b.bridge < 256)
    (at : (b : ℕ) → b < 256 → slice_index new b ≡ other_label (slice_index labels x.b.bridge) (slice_index labels x.a.bridge) (slice_index labels b)) where
  new_tell : (b c : ℕ) → b < 256 → c < 256 → (slice_index new b == slice_index new c) ≡ with_wire r x b c
  new_tell b c lb lc =
      (λ i. at b lb i == at c lc i)
      ∙ renamed (slice_index labels b) (slice_index labels c) (slice_index labels x.b.bridge) (slice_index labels x.a.bridge)
      ∙ (λ i. l.tell b c lb lc i || ((l.tell b x.a.bridge lb low_a i && l.tell x.b.bridge c low_b lc i) || (l.tell b x.b.bridge lb low_b i && l.tell x.a.bridge c low_a lc i)))

  pub labels_step : (xs : List Wire) → r ≡ are_joined xs → length new ≡ 256 → AreLabels new (are_joined (xs ++ x ∷ []))
  labels_step xs is sized =
      subst (AreLabels new) (ap (λ (t : Test). with_wire t x) is ∙ sym (joined_push equal xs x)) (record { sized = sized; tell = new_tell })

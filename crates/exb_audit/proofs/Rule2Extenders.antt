-- Rule 2: what a watcher keeps, and what the machine has.
use Rattle.std.proofs.Common.{◌≡◌, ◌≢◌, ℕ, zero, suc, ◌+◌, ◌-◌, ◌<◌, ◌≤◌, ◌&&◌, ◌==◌, nat_le, nat_lt, cond, Bool, true, false, List, [], ◌∷◌, ◌++◌, length, map, take, drop, Option, Some, None, refl, sym, ap, ◌∙◌, subst, arith, inl, inr, add-one, append_assoc}
use Rattle.std.specs.Prelude.{All, MatchOption, slice_get, slice_index}
use Rattle.std.specs.Str.{bytes_eq}
use Rattle.std.proofs.lemmas.Bool.{cases_Bool, cases_eq, cases_lt, false≢true, eq-eqb, ne_eqb, and_parts, leb-true, le-leb}
use Rattle.std.proofs.lemmas.List.Elements.{All-nil, All-cons}
use Rattle.std.proofs.lemmas.List.{drop_all, length-map}
use denote.Ref.{Bor}
use Rattle.exb_model.specs.ETags.{Tag, etag_bytes, tagged}
use Rattle.exb_model.specs.Traces.{TraceLine, In, Out, Beat, Journal}
use Rattle.exb_model.specs.Tree.{Shape, is_extender}
use Rattle.exb_extender.specs.Forwarding.{Sent}
use Rattle.exb_extender.specs.declared.sends.Out.{Out as Sending}
use Rattle.exb_extender.specs.SentFrames.{bytes_in, out_sent, own_sent}
use Rattle.std.proofs.lemmas.Option.{none-some, same_Some}
use Rattle.exb_trace_spec.specs.TraceChecker.{through, owes_none, is_first, may_stand, is_done, watch_line}
use Rattle.exb_trace_spec.specs.Rule1Places.{is_place, NamesPlace}
use Rattle.exb_trace_spec.specs.Traversals.{Each}
use Rattle.exb_trace_spec.specs.Rule2Extenders.{Watch, side_number, without_first, watched}
use Rattle.exb_audit.specs.Rule2Extenders.{is_rest, IsSideOf}

-- ---- bytes that begin with others
same_test : (x y : ℕ) → (x == y) ≡ (y == x)
same_test x y =
    elim (cases_eq x y) [
      | inl e ↦ eq-eqb x y e ∙ sym (eq-eqb y x (sym e))
      | inr ne ↦ ne_eqb x y ne ∙ sym (ne_eqb y x (λ e. ne (sym e)))
    ]

and_both : (a b c : Bool) → (a && (b && c)) ≡ ((a && b) && c)
and_both true b c = refl
and_both false b c = refl

pub parted_eq : (p more s : List ℕ) → bytes_eq (p ++ more) s ≡ (bytes_eq (take (length p) s) p && bytes_eq more (drop (length p) s))
parted_eq [] more s = refl
parted_eq (x ∷ p) more [] = refl
parted_eq (x ∷ p) more (y ∷ s) =
    ap (λ b. (x == y) && b) (parted_eq p more s)
    ∙ ap (λ b. b && (bytes_eq (take (length p) s) p && bytes_eq more (drop (length p) s))) (same_test x y)
    ∙ and_both (y == x) (bytes_eq (take (length p) s) p) (bytes_eq more (drop (length p) s))

pub rest_is : (p s : List ℕ) (r : Option (Bor (List ℕ))) (more : List ℕ) →
    MatchOption r (bytes_eq (take (length p) s) p ≡ false) (λ x. (bytes_eq (take (length p) s) p ≡ true) × (x.now ≡ drop (length p) s) × (length x.now + length p ≡ length s)) →
    bytes_eq (p ++ more) s ≡ is_rest more r
rest_is p s None more m = parted_eq p more s ∙ ap (λ b. b && bytes_eq more (drop (length p) s)) m
rest_is p s (Some x) more m = parted_eq p more s ∙ ap (λ b. b && bytes_eq more (drop (length p) s)) m.0 ∙ ap (bytes_eq more) (sym m.1)

-- ---- what is owed
not_none : (us : List Sent) (m : ℕ) → m < length us → drop m us ≡ [] → ⊥
not_none [] m low e = absurd (omega arith)
not_none (u ∷ us) zero low e = none_some e
  where
    none_some : u ∷ us ≡ [] → ⊥
    none_some h = cc
not_none (u ∷ us) (suc m) low e = not_none us m (omega arith) e

pub owes_by : (ss : List Sent) (n : ℕ) (r : Bool) → ((length ss ≤ n → r ≡ true) × (n < length ss → r ≡ false)) → r ≡ owes_none (drop n ss)
owes_by ss n r by = by_rest (drop n ss) refl
  where
    none_some : {u : Sent} {us : List Sent} → [] ≡ u ∷ us → ⊥
    none_some h = cc

    by_rest : (rest : List Sent) → drop n ss ≡ rest → r ≡ owes_none (drop n ss)
    by_rest [] e = elim (cases_lt n (length ss)) [
      | inr high ↦ by.0 high ∙ sym (ap owes_none e)
      | inl low ↦ absurd (some_left low)
    ]
      where
        some_left : n < length ss → ⊥
        some_left low = not_none ss n low e
    by_rest (u ∷ us) e = elim (cases_lt n (length ss)) [
      | inl low ↦ by.1 low ∙ sym (ap owes_none e)
      | inr high ↦ absurd (none_some (sym (drop_all n ss high) ∙ e))
    ]

pub one_less : (ss : List Sent) (n : ℕ) → drop (n + 1) ss ≡ without_first (drop n ss)
one_less ss n = ap (λ m. drop m ss) (add-one n) ∙ by_list ss n
  where
    by_list : (us : List Sent) (m : ℕ) → drop (suc m) us ≡ without_first (drop m us)
    by_list [] zero = refl
    by_list [] (suc m) = refl
    by_list (u ∷ us) zero = refl
    by_list (u ∷ us) (suc m) = by_list us m

-- ---- lines
pub stuck : (n : ℕ) (lines : List TraceLine) → through (watch_line n) None lines ≡ None
stuck n [] = refl
stuck n (l ∷ ls) = stuck n ls

module _ (n : ℕ) (x : Watch) (l : TraceLine) (rest lines : List TraceLine) (parts : lines ≡ l ∷ rest) where
  pub watched_on : (y : Watch) → may_stand n x l ≡ true → y ≡ watched n x l → through (watch_line n) (Some y) rest ≡ through (watch_line n) (Some x) lines
  watched_on y e is = ap (λ z. through (watch_line n) (Some z) rest) is ∙ sym (ap (through (watch_line n) (Some x)) parts ∙ ap (λ b. through (watch_line n) (cond b (Some (watched n x l)) None) rest) e)

  pub watched_wrong : may_stand n x l ≡ false → is_done (through (watch_line n) (Some x) lines) ≡ false
  watched_wrong e = ap is_done (ap (through (watch_line n) (Some x)) parts ∙ ap (λ b. through (watch_line n) (cond b (Some (watched n x l)) None) rest) e ∙ stuck n rest)

-- ---- sides
at_side : (t : Shape) (ports : List ℕ) (n k : ℕ) → t.ports ≡ ports → 1 ≤ n → is_place t n k ≡ true → k ≤ slice_index ports n
at_side t ports n k e low h =
    let other : (n == 0) ≡ false = ne_eqb n 0 (λ z. omega (arith, z, low)) in
    let both : (is_extender t n && nat_le k (slice_index t.ports n)) ≡ true = sym (ap (λ (b : Bool). cond b (nat_lt 0 k && nat_le k (slice_index t.ports 0)) (is_extender t n && nat_le k (slice_index t.ports n))) other) ∙ h in
    subst (λ ps. k ≤ slice_index ps n) e (leb-true k (slice_index t.ports n) (and_parts (is_extender t n) (nat_le k (slice_index t.ports n)) both).1)

side_of_one : (t : Shape) (ports : List ℕ) (n : ℕ) (l : TraceLine) → t.ports ≡ ports → 1 ≤ n → NamesPlace t l → IsSideOf n (slice_index ports n) l
side_of_one t ports n (In m k f) e low place = λ same. subst (λ z. k ≤ slice_index ports z) same (at_side t ports m k e (subst (λ z. 1 ≤ z) (sym same) low) place)
side_of_one t ports n (Out m k f) e low place = tt
side_of_one t ports n Beat e low place = tt
side_of_one t ports n (Journal text) e low place = tt

pub sides : (t : Shape) (ports : List ℕ) (n : ℕ) (lines : List TraceLine) → t.ports ≡ ports → 1 ≤ n → Each (NamesPlace t) lines → All (IsSideOf n (slice_index ports n)) lines
sides t ports n [] e low each = All-nil (IsSideOf n (slice_index ports n))
sides t ports n (l ∷ ls) e low each = All-cons (IsSideOf n (slice_index ports n)) l ls (side_of_one t ports n l e low each.0) (sides t ports n ls e low each.1)

-- ---- what went out
pub count_by : (ss : List Sent) (gone n : ℕ) → n ≡ length ss → nat_le n gone ≡ owes_none (drop gone ss)
count_by ss gone n e = owes_by ss gone (nat_le n gone) (λ high. le-leb n gone (omega (arith, e, high)), λ low. not_le low)
  where
    not_le : gone < length ss → nat_le n gone ≡ false
    not_le low = elim (cases_Bool (nat_le n gone)) [ inr over ↦ over | inl under ↦ (let k = leb-true n gone under in absurd (omega (arith, k, e, low))) ]

-- the extender's own frames go up
abbrev GoUp : List Sent → Type 0
GoUp [] = Unit {0}
GoUp (s ∷ ss) = (side_number s.side ≡ 0) × GoUp ss

none_first : (side place : ℕ) (bytes : List ℕ) (ss : List Sent) → side ≢ 0 → GoUp ss → false ≡ is_first side bytes (drop place ss)
none_first side zero bytes [] ne up = refl
none_first side (suc place) bytes [] ne up = refl
none_first side zero bytes (s ∷ ss) ne up = sym (ap (λ z. z && bytes_eq s.bytes bytes) (ne_eqb (side_number s.side) side (λ h. ne (sym h ∙ up.0))))
none_first side (suc place) bytes (s ∷ ss) ne up = none_first side place bytes ss ne up.1

own_up : (f : List ℕ) (ss : List Sent) → GoUp ss → GoUp (own_sent f ++ ss)
own_up [] ss up = up
own_up (b ∷ bs) ss up = (refl, up)

own_up_alone : (f : List ℕ) → GoUp (own_sent f)
own_up_alone [] = tt
own_up_alone (b ∷ bs) = (refl, tt)

pub own_upstream : (side place : ℕ) (bytes first second : List ℕ) → side ≢ 0 → false ≡ is_first side bytes (drop place (own_sent first ++ own_sent second))
own_upstream side place bytes first second ne = none_first side place bytes (own_sent first ++ own_sent second) ne (own_up first (own_sent second) (own_up_alone second))

-- what an extender sends of the frame that came stands before its own
pub drop_past : {A : Type 0} (xs ys : List A) (n : ℕ) → length xs ≤ n → drop n (xs ++ ys) ≡ drop (n - length xs) ys
drop_past {A = A} [] ys n l = ap (λ m. drop m ys) less
  where
    less : n ≡ n - 0
    less = omega arith
drop_past (x ∷ xs) ys zero l = absurd (omega arith)
drop_past {A = A} (x ∷ xs) ys (suc n) l = drop_past xs ys n (omega arith) ∙ ap (λ m. drop m ys) less
  where
    less : n - length xs ≡ suc n - suc (length xs)
    less = omega arith

pub own_behind : (f bytes : List ℕ) (side place : ℕ) (frames : List Sending) (own : List Sent) → length frames ≤ place → is_first side bytes (drop (place - length frames) own) ≡ is_first side bytes (drop place (map (out_sent f) frames ++ own))
own_behind f bytes side place frames own l =
    let many : length (map (out_sent f) frames) ≡ length frames = length-map frames (out_sent f) in
    ap (λ n. is_first side bytes (drop (place - n) own)) (sym many) ∙ sym (ap (is_first side bytes) (drop_past (map (out_sent f) frames) own place (omega (arith, many))))

pub sent_here : (f bytes : List ℕ) (side place : ℕ) (frames : List Sending) (own : List Sent) (out : Sending) → slice_get frames place ≡ Some out →
    is_first side bytes (drop place (map (out_sent f) frames ++ own)) ≡ ((side_number out.to == side) && bytes_eq (bytes_in f out.form) bytes)
sent_here f bytes side place [] own out e = absurd (none-some out e)
sent_here f bytes side zero (o ∷ os) own out e = ap (λ (p : Sending). (side_number p.to == side) && bytes_eq (bytes_in f p.form) bytes) (same_Some o out e)
sent_here f bytes side (suc place) (o ∷ os) own out e = sent_here f bytes side place os own out e

pub tagged_none : (f bytes head tag rest : List ℕ) (ct : Tag) → head ≡ take 12 f → tag ≡ etag_bytes ct → ((more : List ℕ) → bytes_eq (head ++ more) bytes ≡ bytes_eq more rest) →
    ((more : List ℕ) → bytes_eq (tag ++ more) rest ≡ false) → false ≡ bytes_eq (tagged f ct) bytes
tagged_none f bytes head tag rest ct h t first second =
    sym (ap (λ z. bytes_eq z bytes) (append_assoc (take 12 f) (etag_bytes ct) (drop 12 f))
    ∙ ap (λ z. bytes_eq (z ++ (etag_bytes ct ++ drop 12 f)) bytes) (sym h) ∙ first (etag_bytes ct ++ drop 12 f)
    ∙ ap (λ z. bytes_eq (z ++ drop 12 f) rest) (sym t) ∙ second (drop 12 f))

pub and_first : (a b : Bool) → a ≡ true → (a && b) ≡ b
and_first true b e = refl
and_first false b e = absurd (false≢true e)

pub and_none : (a b : Bool) → a ≡ false → (a && b) ≡ false
and_none false b e = refl
and_none true b e = absurd (false≢true (sym e))

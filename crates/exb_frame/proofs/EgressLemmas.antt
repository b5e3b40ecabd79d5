-- Frames that may leave, what follows their addresses, and the bytes with which they leave.
use Rattle.std.proofs.Common.{◌≡◌, ℕ, ◌+◌, ◌*◌, ◌-◌, ◌<◌, ◌≤◌, ◌++◌, ◌==◌, ◌/◌, ◌%◌, if◌then◌else◌, Bool, true, false, List, [], length, take, drop, nat_lt, refl, ap, sym, ◌∙◌, arith, inl, inr, append_assoc}
use Rattle.std.proofs.lemmas.Bool.{cases_lt, false≢true, lt-ltb, le-ltb}
use Rattle.std.proofs.lemmas.List.{length-drop, length-take, length-take-le, length-append, append-nil, take-append-drop, take_at, drop_at}
use Rattle.exb_model.specs.declared.frame_kind.Seen.{Seen}
use Rattle.exb_model.specs.declared.frame_kind.Seen.TheVariants as seen
use Rattle.exb_model.specs.declared.vlan.Kind.{Kind}
use Rattle.exb_model.specs.declared.vlan.Kind.TheVariants.{Tagged, Untagged}
use Rattle.exb_model.specs.Frames.{kind_of, kind_of_tag, is_reserved, number_at, egress, body_after, two_bytes, priority_of}
use Rattle.exb_frame.specs.Egress.{can_leave, egress_with, put_in}

-- ---- a frame that may leave is neither short nor long
pub leaves_long : (f : List ℕ) → can_leave (kind_of f) ≡ true → 14 ≤ length f
unfolding kind_of
leaves_long f h =
    elim (cases_lt (length f) 14) [
      | inl low ↦ absurd (let none : can_leave (kind_of f) ≡ false = rw (lt-ltb (length f) 14 low) refl in cc)
      | inr high ↦ high
    ]

pub leaves_fit : (f : List ℕ) → can_leave (kind_of f) ≡ true → length f ≤ 9216
unfolding kind_of
leaves_fit f h =
    elim (cases_lt 9216 (length f)) [
      | inl high ↦ absurd (let none : can_leave (kind_of f) ≡ false = long high in cc)
      | inr low ↦ low
    ]
  where
    long : 9216 < length f → can_leave (kind_of f) ≡ false
    long high = rw (le-ltb (length f) 14 (omega arith), lt-ltb 9216 (length f) high) refl

-- ---- what follows its addresses, by the tests of its kind
plain_by : (f : List ℕ) (a b c d : Bool) (s : Seen) → can_leave (if a then seen.Short else (if b then seen.Long else (if c then seen.Reserved else (if d then s else seen.Plain)))) ≡ true → d ≡ false →
    body_after f (if a then seen.Short else (if b then seen.Long else (if c then seen.Reserved else (if d then s else seen.Plain)))) ≡ drop 12 f
plain_by f true b c d s leaves none = absurd (false≢true leaves)
plain_by f false true c d s leaves none = absurd (false≢true leaves)
plain_by f false false true d s leaves none = absurd (false≢true leaves)
plain_by f false false false true s leaves none = absurd (false≢true (sym none))
plain_by f false false false false s leaves none = refl

pub plain_body : (f : List ℕ) → can_leave (kind_of f) ≡ true → (number_at f 12 == 0x8100) ≡ false → body_after f (kind_of f) ≡ drop 12 f
unfolding kind_of
plain_body f leaves none =
    plain_by f (nat_lt (length f) 14) (nat_lt 9216 (length f)) (is_reserved f) (number_at f 12 == 0x8100) (if nat_lt (length f) 18 then seen.BadTag else kind_of_tag (number_at f 14)) leaves none

tag_by : (f : List ℕ) (bad none : Bool) (pcp : ℕ) (dei : Bool) (v : ℕ) → can_leave (if bad then seen.BadTag else (if none then seen.Priority pcp dei else seen.Tagged pcp dei v)) ≡ true →
    body_after f (if bad then seen.BadTag else (if none then seen.Priority pcp dei else seen.Tagged pcp dei v)) ≡ drop 16 f
tag_by f true none pcp dei v leaves = absurd (false≢true leaves)
tag_by f false true pcp dei v leaves = refl
tag_by f false false pcp dei v leaves = refl

tagged_by : (f : List ℕ) (a b c d e : Bool) (n : ℕ) →
    can_leave (if a then seen.Short else (if b then seen.Long else (if c then seen.Reserved else (if d then (if e then seen.BadTag else kind_of_tag n) else seen.Plain)))) ≡ true → d ≡ true →
    (e ≡ false) × (body_after f (if a then seen.Short else (if b then seen.Long else (if c then seen.Reserved else (if d then (if e then seen.BadTag else kind_of_tag n) else seen.Plain)))) ≡ drop 16 f)
tagged_by f true b c d e n leaves is = absurd (false≢true leaves)
tagged_by f false true c d e n leaves is = absurd (false≢true leaves)
tagged_by f false false true d e n leaves is = absurd (false≢true leaves)
tagged_by f false false false false e n leaves is = absurd (false≢true is)
tagged_by f false false false true true n leaves is = absurd (false≢true leaves)
tagged_by f false false false true false n leaves is = (refl, tag_by f (n % 4096 == 4095) (n % 4096 == 0) (n / 8192) (n / 4096 % 2 == 1) (n % 4096) leaves)

has_tag : (f : List ℕ) → can_leave (kind_of f) ≡ true → (number_at f 12 == 0x8100) ≡ true → (nat_lt (length f) 18 ≡ false) × (body_after f (kind_of f) ≡ drop 16 f)
unfolding kind_of
has_tag f leaves is =
    tagged_by f (nat_lt (length f) 14) (nat_lt 9216 (length f)) (is_reserved f) (number_at f 12 == 0x8100) (nat_lt (length f) 18) (number_at f 14) leaves is

pub tag_body : (f : List ℕ) → can_leave (kind_of f) ≡ true → (number_at f 12 == 0x8100) ≡ true → body_after f (kind_of f) ≡ drop 16 f
tag_body f leaves is = (has_tag f leaves is).1

pub tag_long : (f : List ℕ) → can_leave (kind_of f) ≡ true → (number_at f 12 == 0x8100) ≡ true → 16 ≤ length f
tag_long f leaves is =
    elim (cases_lt (length f) 18) [
      | inl low ↦ absurd (false≢true (sym (has_tag f leaves is).0 ∙ lt-ltb (length f) 18 low))
      | inr high ↦ omega (arith, high)
    ]

-- ---- the bytes with which it leaves
pub tagged_is : (f : List ℕ) (prio v : ℕ) →
    (take 12 f ++ (two_bytes 0x8100 ++ two_bytes (prio * 4096 + v))) ++ body_after f (kind_of f) ≡ egress_with prio f Tagged v
unfolding egress_with
tagged_is f prio v = ap (λ xs. xs ++ body_after f (kind_of f)) (sym (append_assoc (take 12 f) (two_bytes 0x8100) (two_bytes (prio * 4096 + v))))

pub untagged_is : (f : List ℕ) (prio v : ℕ) → take 12 f ++ body_after f (kind_of f) ≡ egress_with prio f Untagged v
unfolding egress_with
untagged_is f prio v = refl

-- with the frame's own priority
-- one without a VLAN tag leaves untagged as it is
pub whole_is : (f body : List ℕ) → body ≡ drop 12 f → f ≡ take 12 f ++ body
whole_is f body is = sym (take-append-drop 12 f) ∙ ap (λ xs. take 12 f ++ xs) (sym is)

pub own_is : (f : List ℕ) (kind : Kind) (prio v : ℕ) → prio ≡ priority_of (kind_of f) → egress_with prio f kind v ≡ egress f kind v
unfolding egress_with egress
own_is f Untagged prio v e = refl
own_is f Tagged prio v e = ap (λ p. take 12 f ++ two_bytes 0x8100 ++ two_bytes (p * 4096 + v) ++ body_after f (kind_of f)) e

-- ---- how long that is
body_short : (f : List ℕ) (s : Seen) → length (body_after f s) ≤ length f - 12
body_short f (seen.Priority pcp dei) = omega (arith, length-drop 16 f)
body_short f (seen.Tagged pcp dei v) = omega (arith, length-drop 16 f)
body_short f seen.Plain = omega (arith, length-drop 12 f)
body_short f seen.Short = omega (arith, length-drop 12 f)
body_short f seen.Long = omega (arith, length-drop 12 f)
body_short f seen.Reserved = omega (arith, length-drop 12 f)
body_short f seen.BadTag = omega (arith, length-drop 12 f)

pub untagged_short : (f : List ℕ) → can_leave (kind_of f) ≡ true → length (take 12 f ++ body_after f (kind_of f)) ≤ 9220
untagged_short f leaves = omega (arith, leaves_fit f leaves, leaves_long f leaves, length-append (take 12 f) (body_after f (kind_of f)), length-take 12 f, body_short f (kind_of f))

pub parts_short : (f between tag : List ℕ) → can_leave (kind_of f) ≡ true → length tag ≤ 4 → length (take 12 f ++ between ++ tag ++ body_after f (kind_of f)) ≤ 9220 + length between
parts_short f between tag leaves few =
    omega (arith, few, leaves_fit f leaves, leaves_long f leaves, length-append (take 12 f ++ between ++ tag) (body_after f (kind_of f)), length-append (take 12 f ++ between) tag, length-append (take 12 f) between, length-take 12 f, body_short f (kind_of f))

-- ---- with bytes put in behind its addresses
pub parts_are : (f between tag body : List ℕ) → 12 ≤ length f → take 12 f ++ between ++ tag ++ body ≡ put_in between (take 12 f ++ tag ++ body)
parts_are f between tag body long =
    append_assoc (take 12 f ++ between) tag body
    ∙ sym
    (ap (λ (xs : List ℕ). xs ++ between ++ drop 12 (take 12 f ++ (tag ++ body))) (take_at (take 12 f) (tag ++ body) 12 (length-take-le 12 f long))
    ∙ ap (λ (xs : List ℕ). take 12 f ++ between ++ xs) (drop_at (take 12 f) (tag ++ body) 12 (length-take-le 12 f long)))
    ∙ ap (put_in between) (sym (append_assoc (take 12 f) tag body))

pub put_in_nothing : (f : List ℕ) → put_in [] f ≡ f
put_in_nothing f = ap (λ (xs : List ℕ). xs ++ drop 12 f) (append-nil (take 12 f)) ∙ take-append-drop 12 f

-- A tag that is written anew.
use Rattle.std.proofs.Common.{◌≡◌, ℕ, ◌+◌, ◌*◌, ◌/◌, ◌%◌, ◌<◌, ◌≤◌, Bool, true, false, cond, ◌==◌, List, [], ◌∷◌, ◌++◌, length, take, drop, inl, inr, refl, sym, ap, subst, ◌∙◌, append_assoc, arith}
use Rattle.std.specs.Prelude.{nat_lt, if◌then◌else◌}
use Rattle.std.proofs.lemmas.Bool.{ne_eqb, ltb-false, le-ltb}
use Rattle.std.proofs.lemmas.List.{take-append-drop, length-take-le, length-append, length-drop}
use Rattle.exb_model.specs.declared.frame_kind.Seen.{Seen}
use Rattle.exb_model.specs.declared.frame_kind.Seen.TheVariants as seen
use Rattle.exb_model.specs.declared.vlan.Kind.TheVariants as kind
use Rattle.exb_model.specs.Frames.{number_at, two_bytes, is_reserved, kind_of_tag, kind_of, priority_of, body_after, egress, destination, source}
use Rattle.exb_model_laws.specs.TagPreservation.{KeepsTag, TagKeepsPriority}

-- a frame with a VLAN tag or a priority tag
abbrev Carries : Seen → Type 0
Carries (seen.Tagged pcp dei w) = Unit {0}
Carries (seen.Priority pcp dei) = Unit {0}
Carries _ = ⊥

record HasTag (f : List ℕ) (s : Seen) : Type 0 where
  long : 18 ≤ length f
  few : length f ≤ 9216
  free : is_reserved f ≡ false
  tag : kind_of_tag (number_at f 14) ≡ s

parts : (f : List ℕ) (s : Seen) (short long reserved typed cut : Bool) → nat_lt (length f) 14 ≡ short → nat_lt 9216 (length f) ≡ long → is_reserved f ≡ reserved → nat_lt (length f) 18 ≡ cut
    → cond short seen.Short (cond long seen.Long (cond reserved seen.Reserved (cond typed (cond cut seen.BadTag (kind_of_tag (number_at f 14))) seen.Plain))) ≡ s → Carries s → HasTag f s
parts f s true b r t u hs hl hr hc e c = absurd (subst Carries (sym e) c)
parts f s false true r t u hs hl hr hc e c = absurd (subst Carries (sym e) c)
parts f s false false true t u hs hl hr hc e c = absurd (subst Carries (sym e) c)
parts f s false false false false u hs hl hr hc e c = absurd (subst Carries (sym e) c)
parts f s false false false true true hs hl hr hc e c = absurd (subst Carries (sym e) c)
parts f s false false false true false hs hl hr hc e c = record { long = ltb-false (length f) 18 hc; few = ltb-false 9216 (length f) hl; free = hr; tag = e }

has_tag : (f : List ℕ) (s : Seen) → kind_of f ≡ s → Carries s → HasTag f s
unfolding kind_of
has_tag f s e c = parts f s (nat_lt (length f) 14) (nat_lt 9216 (length f)) (is_reserved f) (number_at f 12 == 0x8100) (nat_lt (length f) 18) refl refl refl refl e c

-- ---- twelve bytes, with one tail or another
record AreAlike (xs ys zs : List ℕ) : Type 0 where
  reserved : is_reserved (xs ++ ys) ≡ is_reserved (xs ++ zs)
  destination : destination (xs ++ ys) ≡ destination (xs ++ zs)
  source : source (xs ++ ys) ≡ source (xs ++ zs)

record BeginsWithTag (xs ys : List ℕ) (n : ℕ) : Type 0 where
  typed : number_at (xs ++ two_bytes 0x8100 ++ two_bytes n ++ ys) 12 ≡ 0x8100
  tagged : number_at (xs ++ two_bytes 0x8100 ++ two_bytes n ++ ys) 14 ≡ n / 256 * 256 + n % 256

record AreAddresses (xs : List ℕ) : Type 0 where
  alike : (ys zs : List ℕ) → AreAlike xs ys zs
  tag : (ys : List ℕ) (n : ℕ) → BeginsWithTag xs ys n

twelve : (xs : List ℕ) → length xs ≡ 12 → AreAddresses xs
twelve [] h = absurd (omega arith)
twelve (a ∷ []) h = absurd (omega arith)
twelve (a ∷ b ∷ []) h = absurd (omega arith)
twelve (a ∷ b ∷ c ∷ []) h = absurd (omega arith)
twelve (a ∷ b ∷ c ∷ d ∷ []) h = absurd (omega arith)
twelve (a ∷ b ∷ c ∷ d ∷ e ∷ []) h = absurd (omega arith)
twelve (a ∷ b ∷ c ∷ d ∷ e ∷ f ∷ []) h = absurd (omega arith)
twelve (a ∷ b ∷ c ∷ d ∷ e ∷ f ∷ g ∷ []) h = absurd (omega arith)
twelve (a ∷ b ∷ c ∷ d ∷ e ∷ f ∷ g ∷ i ∷ []) h = absurd (omega arith)
twelve (a ∷ b ∷ c ∷ d ∷ e ∷ f ∷ g ∷ i ∷ j ∷ []) h = absurd (omega arith)
twelve (a ∷ b ∷ c ∷ d ∷ e ∷ f ∷ g ∷ i ∷ j ∷ k ∷ []) h = absurd (omega arith)
twelve (a ∷ b ∷ c ∷ d ∷ e ∷ f ∷ g ∷ i ∷ j ∷ k ∷ l ∷ []) h = absurd (omega arith)
twelve (a ∷ b ∷ c ∷ d ∷ e ∷ f ∷ g ∷ i ∷ j ∷ k ∷ l ∷ m ∷ []) h = record {
  alike = λ ys zs. record { reserved = refl; destination = refl; source = refl };
  tag = λ ys n. record { typed = refl; tagged = refl };
}
twelve (a ∷ b ∷ c ∷ d ∷ e ∷ f ∷ g ∷ i ∷ j ∷ k ∷ l ∷ m ∷ n ∷ xs) h = absurd (omega arith)

-- ---- the tag that is written
tag_back : (pcp v : ℕ) (dei : Bool) → 0 < v → v < 4095 → kind_of_tag ((2 * pcp + (if dei then 1 else 0)) * 4096 + v) ≡ seen.Tagged pcp dei v
tag_back pcp v true some few =
    let vid : ((2 * pcp + 1) * 4096 + v) % 4096 ≡ v = omega arith in
    let priority : ((2 * pcp + 1) * 4096 + v) / 8192 ≡ pcp = omega arith in
    let eligible : ((2 * pcp + 1) * 4096 + v) / 4096 % 2 ≡ 1 = omega arith in
    rw (vid, priority, eligible, ne_eqb v 4095 (λ e. omega arith), ne_eqb v 0 (λ e. omega arith)) refl
tag_back pcp v false some few =
    let vid : ((2 * pcp + 0) * 4096 + v) % 4096 ≡ v = omega arith in
    let priority : ((2 * pcp + 0) * 4096 + v) / 8192 ≡ pcp = omega arith in
    let eligible : ((2 * pcp + 0) * 4096 + v) / 4096 % 2 ≡ 0 = omega arith in
    rw (vid, priority, eligible, ne_eqb v 4095 (λ e. omega arith), ne_eqb v 0 (λ e. omega arith)) refl

kind_by : (g : List ℕ) (n : ℕ) → 18 ≤ length g → length g ≤ 9216 → is_reserved g ≡ false → number_at g 12 ≡ 0x8100 → number_at g 14 ≡ n → kind_of g ≡ kind_of_tag n
unfolding kind_of
kind_by g n long few free typed tagged =
    let short : nat_lt (length g) 14 ≡ false = le-ltb (length g) 14 (omega arith) in
    let high : nat_lt 9216 (length g) ≡ false = le-ltb 9216 (length g) few in
    let cut : nat_lt (length g) 18 ≡ false = le-ltb (length g) 18 long in
    rw (short, high, free, typed, cut, tagged) refl

-- the frame with another tag
abbrev retagged : List ℕ → ℕ → List ℕ
retagged f n = take 12 f ++ two_bytes 0x8100 ++ two_bytes n ++ drop 16 f

egress_is : (f : List ℕ) (v : ℕ) (s : Seen) → kind_of f ≡ s → egress f kind.Tagged v ≡ take 12 f ++ two_bytes 0x8100 ++ two_bytes (priority_of s * 4096 + v) ++ body_after f s
unfolding egress
egress_is f v s e = ap (λ (k : Seen). take 12 f ++ two_bytes 0x8100 ++ two_bytes (priority_of k * 4096 + v) ++ body_after f k) e

retagged_keeps : (f : List ℕ) (v pcp : ℕ) (dei : Bool) (s : Seen) → 0 < v → v < 4095 → HasTag f s → egress f kind.Tagged v ≡ retagged f ((2 * pcp + (if dei then 1 else 0)) * 4096 + v) → KeepsTag f v pcp dei
retagged_keeps f v pcp dei s some few has is =
    let n : ℕ = (2 * pcp + (if dei then 1 else 0)) * 4096 + v in
    let long : 18 ≤ length f = has.long in
    let most : length f ≤ 9216 = has.few in
    let first : length (take 12 f) ≡ 12 = length-take-le 12 f (omega arith) in
    let addresses : AreAddresses (take 12 f) = twelve (take 12 f) first in
    let tail : List ℕ = two_bytes 0x8100 ++ two_bytes n ++ drop 16 f in
    let same : AreAlike (take 12 f) tail (drop 12 f) = addresses.alike tail (drop 12 f) in
    let tag : BeginsWithTag (take 12 f) (drop 16 f) n = addresses.tag (drop 16 f) n in
    let whole : take 12 f ++ drop 12 f ≡ f = take-append-drop 12 f in
    let assoc : retagged f n ≡ take 12 f ++ tail = ap (λ (xs : List ℕ). xs ++ drop 16 f) (append_assoc (take 12 f) (two_bytes 0x8100) (two_bytes n)) ∙ append_assoc (take 12 f) (two_bytes 0x8100 ++ two_bytes n) (drop 16 f) in
    let size : length (retagged f n) ≡ length f = omega (arith, ap length assoc, first, length-append (take 12 f) tail, length-drop 16 f) in
    let back : n / 256 * 256 + n % 256 ≡ n = omega arith in
    let free : is_reserved (retagged f n) ≡ false = ap is_reserved assoc ∙ same.reserved ∙ ap is_reserved whole ∙ has.free in
    record {
      tag = ap kind_of is ∙ kind_by (retagged f n) n (omega (arith, size)) (omega (arith, size)) free tag.typed (tag.tagged ∙ back) ∙ tag_back pcp v dei some few;
      destination = ap destination (is ∙ assoc) ∙ same.destination ∙ ap destination whole;
      source = ap source (is ∙ assoc) ∙ same.source ∙ ap source whole;
    }

pub tag_keeps_priority : TagKeepsPriority
tag_keeps_priority f v w pcp dei some few (inl e) = retagged_keeps f v pcp dei (seen.Tagged pcp dei w) some few (has_tag f (seen.Tagged pcp dei w) e tt) (egress_is f v (seen.Tagged pcp dei w) e)
tag_keeps_priority f v w pcp dei some few (inr e) = retagged_keeps f v pcp dei (seen.Priority pcp dei) some few (has_tag f (seen.Priority pcp dei) e tt) (egress_is f v (seen.Priority pcp dei) e)

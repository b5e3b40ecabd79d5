-- The keys of sets.
use Rattle.std.proofs.Common.{◌≡◌, ℕ, ◌+◌, ◌<◌, zero, suc, true, false, List, [], ◌∷◌, ◌++◌, length, get_or, set, map, replicate, refl, sym, ap, ◌∙◌, inl, inr, arith, fold, take, drop}
use Rattle.std.specs.Prelude.{Option, Some, None, slice_get}
use Rattle.std.proofs.lemmas.List.{length-replicate, length-map, length-drop, get_or-drop, map-append}
use Rattle.std.proofs.lemmas.Bool.{cases_lt, cases_Bool, lt-ltb, le-ltb}
use Rattle.std.proofs.lemmas.Option.{slice_get-map, get_or_from_slice_get}
use Rattle.std.proofs.lemmas.Grind.{same_number_lists}
use Rattle.exb_model.specs.declared.port_set.PortSet.{PortSet}
use Rattle.exb_model.specs.Ports.{port_in, ports_of}
use Rattle.exb_model.specs.Refusals.{is_empty_set}
use Rattle.exb_model.proofs.PortBits.{same_word, get_or-same, has_port-empty}
use Rattle.exb_numbers.specs.Groups.{sets_of}
use Rattle.exb_numbers.specs.GroupOrder.{mixed, joined, key_of, is_held, put_at, put_key_at, HaveKeys}
use Rattle.exb_numbers.proofs.GroupPlaces.{put_within, put_past, any_port, held_by}

-- ---- a word more of a piece
next_digit : (ws : List ℕ) (n key : ℕ) → n < length ws → fold mixed key (take (suc n) ws) ≡ mixed (fold mixed key (take n ws)) (get_or ws n 0)
next_digit [] n key low = absurd (omega (arith, low))
next_digit (w ∷ ws) zero key low = refl
next_digit (w ∷ ws) (suc n) key low = next_digit ws n (mixed key w) (omega (arith, low))

pub first_more : (ws : List ℕ) (n : ℕ) → n < length ws → fold mixed 0 (take (n + 1) ws) ≡ mixed (fold mixed 0 (take n ws)) (get_or ws n 0)
first_more ws n low =
    let next : n + 1 ≡ suc n = omega arith in
    ap (λ (m : ℕ). fold mixed 0 (take m ws)) next ∙ next_digit ws n 0 low

pub piece_more : (ws : List ℕ) (a n : ℕ) → a + n < length ws → fold mixed 0 (take (n + 1) (drop a ws)) ≡ mixed (fold mixed 0 (take n (drop a ws))) (get_or ws (a + n) 0)
piece_more ws a n low =
    first_more (drop a ws) n (let long = length-drop a ws in omega (arith, long, low)) ∙ ap (mixed (fold mixed 0 (take n (drop a ws)))) (get_or-drop a ws n 0)

-- ---- that of no port
key_none : key_of (replicate 65 0) ≡ 0
unfolding key_of joined mixed
key_none = refl

no_words : (s : PortSet) → ((q : ℕ) → port_in s q ≡ false) → s.words ≡ replicate 65 0
no_words s none =
    same_number_lists s.words (replicate 65 0) (s.sized ∙ sym (length-replicate {A = ℕ} 65 0))
    (λ k h. same_word s.words (replicate 65 0) 65 k (let z = s.sized in omega arith) (s.fits k) (let z = get_or-same {X = ℕ} 65 k 0 in omega (arith, z))
    (λ q low. none q ∙ sym (has_port-empty 65 q)))

pub none_key : (s : PortSet) → ((q : ℕ) → port_in s q ≡ false) → key_of s.words ≡ 0
none_key s none = ap key_of (no_words s none) ∙ key_none

-- ---- the keys beside the sets
abbrev key : PortSet → ℕ
key s = key_of s.words

pub as_long : (sets : List PortSet) (keys : List ℕ) → HaveKeys sets keys → length keys ≡ length sets
as_long sets keys have = ap length have ∙ length-map sets key

pub key_at : (sets : List PortSet) (keys : List ℕ) (n : ℕ) (s : PortSet) → HaveKeys sets keys → slice_get sets n ≡ Some s → slice_get keys n ≡ Some (key_of s.words)
key_at sets keys n s have at = ap (λ ks. slice_get ks n) have ∙ slice_get-map key sets n ∙ rw at refl

get_or_from_no_get : (keys : List ℕ) (n : ℕ) → slice_get keys n ≡ None → get_or keys n 0 ≡ 0
get_or_from_no_get [] n e = refl
get_or_from_no_get (x ∷ xs) zero e = absurd (let z : None ≡ Some x = sym e in cc)
get_or_from_no_get (x ∷ xs) (suc n) e = get_or_from_no_get xs n e

-- a set whose key isn't 0 has a port
pub held_by_key : (sets : List PortSet) (keys : List ℕ) (n : ℕ) → HaveKeys sets keys → (get_or keys n 0 ≡ 0 → ⊥) → is_held (sets_of sets) n ≡ true
held_by_key sets keys n have other = by_set (slice_get sets n) refl
  where
    by_set : (o : Option PortSet) → slice_get sets n ≡ o → is_held (sets_of sets) n ≡ true
    by_set None e = absurd (other (get_or_from_no_get keys n (ap (λ ks. slice_get ks n) have ∙ slice_get-map key sets n ∙ rw e refl)))
    by_set (Some s) e = elim (cases_Bool (is_empty_set (ports_of s))) [
      | inl empty ↦ absurd (other (get_or_from_slice_get keys n (key_of s.words) 0 (key_at sets keys n s have e) ∙ none_key s (any_port s empty)))
      | inr some ↦ held_by sets n s e some
    ]

map_set : (sets : List PortSet) (n : ℕ) (s : PortSet) → map key (set sets n s) ≡ set (map key sets) n (key s)
map_set [] n s = refl
map_set (x ∷ xs) zero s = refl
map_set (x ∷ xs) (suc n) s = ap (λ ks. key x ∷ ks) (map_set xs n s)

pub set_keys : (sets : List PortSet) (keys : List ℕ) (n : ℕ) (s : PortSet) (k : ℕ) → HaveKeys sets keys → key_of s.words ≡ k → HaveKeys (set sets n s) (set keys n k)
set_keys sets keys n s k have is = ap (λ ks. set ks n k) have ∙ ap (λ (j : ℕ). set (map key sets) n j) (sym is) ∙ sym (map_set sets n s)

pub put_keys : (sets : List PortSet) (keys : List ℕ) (n : ℕ) (s : PortSet) → HaveKeys sets keys → HaveKeys (put_at sets n s) (put_key_at keys n (key_of s.words))
put_keys sets keys n s have =
    elim (cases_lt n (length sets)) [
      | inl l ↦ rw (put_within sets n s l, lt-ltb n (length keys) (let e = as_long sets keys have in omega (arith, l, e))) (set_keys sets keys n s (key_of s.words) have refl)
      | inr l ↦ rw (put_past sets n s l, le-ltb n (length keys) (let e = as_long sets keys have in omega (arith, l, e))) (ap (λ ks. ks ++ key_of s.words ∷ []) have ∙ sym (map-append key sets (s ∷ [])))
    ]

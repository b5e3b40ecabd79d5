-- What a step does to the words of links.
use Rattle.std.proofs.Common.{◌≡◌, ℕ, ◌<◌, ◌≤◌, ◌==◌, true, List, [], ◌∷◌, refl, sym, ◌∙◌, ap, subst, arith, inl, inr, ◌⊎◌, eq-eqb, nat_lt}
use Rattle.std.proofs.lemmas.Bool.{cases_eq, cases_Bool, ne_eqb, eqb-true, ltb-true, and_parts}
use Rattle.exb_model.specs.Tree.{Shape, device, on}
use Rattle.exb_model.specs.ExtenderForwarding.{Tables, emits}
use Rattle.exb_flight.specs.Items.{Key, is_key, Word, Item, Data, Token, words_of, copy, copies, data_of, without_data, without_token, has, behind, Each, UpTo}
use Rattle.exb_flight.specs.Flight.{add, change, hangs_under, moved_down}
use Rattle.exb_flight.proofs.ItemLists.{words_append, words_without_token, each_append, each_rest, each_data, has_more_data, has_one, has_token, has_without_data, has_without_token, words_token, words_one, behind_append, behind_one, behind_token, behind_data, behind_without_data, behind_without_token, up_to_append, up_to_data, up_to_without_data, up_to_without_token}

-- ---- an extender takes a word
-- A predicate of words on links is kept where the new words have it.
pub each_moved : (s : Shape) (t : Tables) (n : ℕ) (f : Word) (down : ℕ → List Item) (P : Word → Type 0) (k : ℕ) →
    Each P (words_of (down k)) → (hangs_under s n k ≡ true → Each (λ g. P (copy f g)) (emits t (on s k) f.bytes)) →
    Each P (words_of (moved_down s t n f down k))
each_moved s t n f down P k old more =
    elim (cases_eq k n) [
      | inl e ↦ rw (eq-eqb k n e) (each_rest P (down k) old)
      | inr e ↦ rw (ne_eqb k n e) (
          elim (cases_Bool (hangs_under s n k)) [
            | inl c ↦ rw c (rw (words_append (down k) (data_of (copies f (emits t (on s k) f.bytes))))
                (each_append P (words_of (down k)) _ old (each_data P f (emits t (on s k) f.bytes) (more c))))
            | inr c ↦ rw c old
          ])
    ]

pub behind_moved : (s : Shape) (t : Tables) (n : ℕ) (f : Word) (down : ℕ → List Item) (P : Word → Type 0) (j : Key) (k : ℕ) →
    Each P (behind j (down k)) → (has j (down k) ≡ true → hangs_under s n k ≡ true → Each (λ g. P (copy f g)) (emits t (on s k) f.bytes)) →
    Each P (behind j (moved_down s t n f down k))
behind_moved s t n f down P j k old more =
    elim (cases_eq k n) [
      | inl e ↦ rw (eq-eqb k n e) (behind_without_data P j (down k) old)
      | inr e ↦ rw (ne_eqb k n e) (
          elim (cases_Bool (hangs_under s n k)) [
            | inl c ↦ rw c (behind_append P j (down k) (data_of (copies f (emits t (on s k) f.bytes))) old
                (λ z. each_data P f (emits t (on s k) f.bytes) (more z c)) (behind_data P j (copies f (emits t (on s k) f.bytes))))
            | inr c ↦ rw c old
          ])
    ]

pub has_moved : (s : Shape) (t : Tables) (n : ℕ) (f : Word) (down : ℕ → List Item) (j : Key) (k : ℕ) → has j (moved_down s t n f down k) ≡ has j (down k)
has_moved s t n f down j k =
    elim (cases_eq k n) [
      | inl e ↦ rw (eq-eqb k n e) (has_without_data j (down k))
      | inr e ↦ rw (ne_eqb k n e) (
          elim (cases_Bool (hangs_under s n k)) [
            | inl c ↦ rw c (has_more_data j (down k) (copies f (emits t (on s k) f.bytes)))
            | inr c ↦ rw c refl
          ])
    ]

pub under : (s : Shape) (n k : ℕ) → hangs_under s n k ≡ true → (64 ≤ on s k) × (device (on s k) ≡ n)
under s n k h =
    let b = and_parts (nat_lt 63 (on s k)) (device (on s k) == n) h in
    let l : 63 < on s k = ltb-true 63 (on s k) b.0 in (omega (arith, l), eqb-true (device (on s k)) n b.1)

-- ---- control words
pub words_add : (links : ℕ → List Item) (n : ℕ) (j : Key) (k : ℕ) → words_of (add links n (Token j) k) ≡ words_of (links k)
words_add links n j k =
    elim (cases_eq k n) [
      | inl e ↦ rw (eq-eqb k n e) (words_token (links k) j)
      | inr e ↦ rw (ne_eqb k n e) refl
    ]

pub behind_add : (P : Word → Type 0) (i : Key) (links : ℕ → List Item) (n : ℕ) (j : Key) (k : ℕ) → Each P (behind i (links k)) → Each P (behind i (add links n (Token j) k))
behind_add P i links n j k h =
    elim (cases_eq k n) [
      | inl e ↦ rw (eq-eqb k n e) (behind_token P i (links k) j h)
      | inr e ↦ rw (ne_eqb k n e) h
    ]

pub has_add : (i : Key) (links : ℕ → List Item) (n : ℕ) (j : Key) (k : ℕ) → has i (add links n (Token j) k) ≡ true → (has i (links k) ≡ true) ⊎ ((k ≡ n) × (is_key j i ≡ true))
has_add i links n j k h =
    elim (cases_eq k n) [
      | inl e ↦ elim (has_token i (links k) j (rw (eq-eqb k n e) at h)) [ inl z ↦ inl z | inr z ↦ inr (e, z) ]
      | inr e ↦ inl (rw (ne_eqb k n e) at h)
    ]

pub words_lose : (links : ℕ → List Item) (n i k : ℕ) → words_of (change links n (without_token (links n) i) k) ≡ words_of (links k)
words_lose links n i k =
    elim (cases_eq k n) [
      | inl e ↦ rw (eq-eqb k n e) (words_without_token (links n) i ∙ ap (λ (x : ℕ). words_of (links x)) (sym e))
      | inr e ↦ rw (ne_eqb k n e) refl
    ]

pub behind_lose : (P : Word → Type 0) (j : Key) (links : ℕ → List Item) (n i k : ℕ) → Each P (behind j (links k)) → Each P (behind j (change links n (without_token (links n) i) k))
behind_lose P j links n i k h =
    elim (cases_eq k n) [
      | inl e ↦ rw (eq-eqb k n e) (behind_without_token P j (links n) i (subst (λ (x : ℕ). Each P (behind j (links x))) e h))
      | inr e ↦ rw (ne_eqb k n e) h
    ]

pub has_lose : (j : Key) (links : ℕ → List Item) (n i k : ℕ) → has j (change links n (without_token (links n) i) k) ≡ true → has j (links k) ≡ true
has_lose j links n i k h =
    elim (cases_eq k n) [
      | inl e ↦ rw e (has_without_token j (links n) i (rw (eq-eqb k n e) at h))
      | inr e ↦ rw (ne_eqb k n e) at h
    ]

-- ---- a word more on a link
pub each_more : (links : ℕ → List Item) (n : ℕ) (f : Word) (P : Word → Type 0) (k : ℕ) → Each P (words_of (links k)) → (k ≡ n → P f) → Each P (words_of (add links n (Data f) k))
each_more links n f P k old new =
    elim (cases_eq k n) [
      | inl e ↦ rw (eq-eqb k n e) (words_one P (links k) f old (new e))
      | inr e ↦ rw (ne_eqb k n e) old
    ]

pub behind_more : (links : ℕ → List Item) (n : ℕ) (f : Word) (P : Word → Type 0) (j : Key) (k : ℕ) → Each P (behind j (links k)) → (has j (links k) ≡ true → k ≡ n → P f) →
    Each P (behind j (add links n (Data f) k))
behind_more links n f P j k old new =
    elim (cases_eq k n) [
      | inl e ↦ rw (eq-eqb k n e) (behind_one P j (links k) f old (λ z. new z e))
      | inr e ↦ rw (ne_eqb k n e) old
    ]

pub has_more : (links : ℕ → List Item) (n : ℕ) (f : Word) (j : Key) (k : ℕ) → has j (add links n (Data f) k) ≡ has j (links k)
has_more links n f j k =
    elim (cases_eq k n) [
      | inl e ↦ rw (eq-eqb k n e) (has_one j (links k) f)
      | inr e ↦ rw (ne_eqb k n e) refl
    ]

-- ---- a word less
pub each_less : (links : ℕ → List Item) (n : ℕ) (P : Word → Type 0) (k : ℕ) → Each P (words_of (links k)) → Each P (words_of (change links n (without_data (links n)) k))
each_less links n P k old =
    elim (cases_eq k n) [
      | inl e ↦ rw (eq-eqb k n e) (each_rest P (links n) (subst (λ (x : ℕ). Each P (words_of (links x))) e old))
      | inr e ↦ rw (ne_eqb k n e) old
    ]

pub behind_less : (links : ℕ → List Item) (n : ℕ) (P : Word → Type 0) (j : Key) (k : ℕ) → Each P (behind j (links k)) → Each P (behind j (change links n (without_data (links n)) k))
behind_less links n P j k old =
    elim (cases_eq k n) [
      | inl e ↦ rw (eq-eqb k n e) (behind_without_data P j (links n) (subst (λ (x : ℕ). Each P (behind j (links x))) e old))
      | inr e ↦ rw (ne_eqb k n e) old
    ]

pub has_less : (links : ℕ → List Item) (n : ℕ) (j : Key) (k : ℕ) → has j (change links n (without_data (links n)) k) ≡ has j (links k)
has_less links n j k =
    elim (cases_eq k n) [
      | inl e ↦ rw (eq-eqb k n e) (has_without_data j (links n) ∙ ap (λ (x : ℕ). has j (links x)) (sym e))
      | inr e ↦ rw (ne_eqb k n e) refl
    ]

-- ---- no serial above
pub up_to_moved : (s : Shape) (t : Tables) (n : ℕ) (f : Word) (down : ℕ → List Item) (k : ℕ → ℕ) (m : ℕ) → UpTo k (down m) → UpTo k (moved_down s t n f down m)
up_to_moved s t n f down k m h =
    elim (cases_eq m n) [
      | inl e ↦ rw (eq-eqb m n e) (up_to_without_data k (down m) h)
      | inr e ↦ rw (ne_eqb m n e) (
          elim (cases_Bool (hangs_under s n m)) [
            | inl c ↦ rw c (up_to_append k (down m) (data_of (copies f (emits t (on s m) f.bytes))) h (up_to_data k (copies f (emits t (on s m) f.bytes))))
            | inr c ↦ rw c h
          ])
    ]

pub up_to_word : (links : ℕ → List Item) (n : ℕ) (f : Word) (k : ℕ → ℕ) (m : ℕ) → UpTo k (links m) → UpTo k (add links n (Data f) m)
up_to_word links n f k m h =
    elim (cases_eq m n) [
      | inl e ↦ rw (eq-eqb m n e) (up_to_append k (links m) (Data f ∷ []) h tt)
      | inr e ↦ rw (ne_eqb m n e) h
    ]

pub up_to_token : (links : ℕ → List Item) (n : ℕ) (j : Key) (k : ℕ → ℕ) (m : ℕ) → j.serial ≤ k j.extender → UpTo k (links m) → UpTo k (add links n (Token j) m)
up_to_token links n j k m l h =
    elim (cases_eq m n) [
      | inl e ↦ rw (eq-eqb m n e) (up_to_append k (links m) (Token j ∷ []) h (l, tt))
      | inr e ↦ rw (ne_eqb m n e) h
    ]

pub up_to_less : (links : ℕ → List Item) (n : ℕ) (k : ℕ → ℕ) (m : ℕ) → UpTo k (links m) → UpTo k (change links n (without_data (links n)) m)
up_to_less links n k m h =
    elim (cases_eq m n) [
      | inl e ↦ rw (eq-eqb m n e) (up_to_without_data k (links n) (subst (λ (x : ℕ). UpTo k (links x)) e h))
      | inr e ↦ rw (ne_eqb m n e) h
    ]

pub up_to_lost : (links : ℕ → List Item) (n i : ℕ) (k : ℕ → ℕ) (m : ℕ) → UpTo k (links m) → UpTo k (change links n (without_token (links n) i) m)
up_to_lost links n i k m h =
    elim (cases_eq m n) [
      | inl e ↦ rw (eq-eqb m n e) (up_to_without_token k (links n) i (subst (λ (x : ℕ). UpTo k (links x)) e h))
      | inr e ↦ rw (ne_eqb m n e) h
    ]

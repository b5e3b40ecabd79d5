-- What is drawn for each of a list, one after another.
use Rattle.std.proofs.Common.{◌≡◌, ◌∙◌, ℕ, suc, ◌+◌, ◌<◌, ◌≤◌, add-one, List, [], ◌∷◌, ◌++◌, length, take, get_or, append-nil, append_assoc, length-append, refl, sym, ap, subst, arith, All}
use Rattle.std.specs.List.{range_with_len}
use Rattle.std.proofs.lemmas.List.{take_more, take_all}
use Rattle.std.proofs.lemmas.List.Elements.{All-append, All-nil}
use Rattle.exb_model.proofs.PortLemmas.{range-more}
use Rattle.rand_pcg.specs.Lcg.{Lcg}
use Rattle.exb_make.specs.Draws.{Drawing, Adds, for_each}

module _ {A B : Type 0} (f : A → Drawing B) where
  each-append : (xs ys : List A) (g : Lcg) → ((for_each f (xs ++ ys) g).0 ≡ (for_each f xs g).0 ++ (for_each f ys (for_each f xs g).1).0) × ((for_each f (xs ++ ys) g).1 ≡ (for_each f ys (for_each f xs g).1).1)
  unfolding for_each
  each-append [] ys g = (refl, refl)
  each-append (x ∷ xs) ys g =
      let rest = each-append xs ys (f x g).1 in
      (ap (λ zs. (f x g).0 ++ zs) rest.0 ∙ sym (append_assoc (f x g).0 (for_each f xs (f x g).1).0 (for_each f ys (for_each f xs (f x g).1).1).0), rest.1)

  one : (x : A) (g : Lcg) → ((for_each f (x ∷ []) g).0 ≡ (f x g).0) × ((for_each f (x ∷ []) g).1 ≡ (f x g).1)
  unfolding for_each
  one x g = (append-nil (f x g).0, refl)

  -- nothing yet
  pub adds-none : (old : List B) (g : Lcg) → Adds (for_each f []) old old g g
  unfolding for_each
  adds-none old g = record { more = sym (append-nil old); gone_on = refl }

  -- one more
  pub adds-more : (xs : List A) (x : A) (old mid new : List B) (g h k : Lcg) → Adds (for_each f xs) old mid g h → Adds (f x) mid new h k → Adds (for_each f (xs ++ x ∷ [])) old new g k
  adds-more xs x old mid new g h k before step =
      let both = each-append xs (x ∷ []) g in
      let last = one x (for_each f xs g).1 in
      record {
        more =
            step.more
            ∙ (ap (λ zs. zs ++ (f x h).0) before.more
            ∙ (append_assoc old (for_each f xs g).0 (f x h).0
            ∙ ap (λ zs. old ++ zs) (ap (λ (j : Lcg). (for_each f xs g).0 ++ (f x j).0) before.gone_on ∙ (ap (λ zs. (for_each f xs g).0 ++ zs) (sym last.0) ∙ sym both.0))));
        gone_on = step.gone_on ∙ (ap (λ (j : Lcg). (f x j).1) before.gone_on ∙ (sym last.1 ∙ sym both.1));
      }

  -- one more of a list
  pub adds-item : (xs : List A) (i : ℕ) (x : A) (old mid new : List B) (g h k : Lcg) → i < length xs → get_or xs i x ≡ x → Adds (for_each f (take i xs)) old mid g h → Adds (f x) mid new h k →
      Adds (for_each f (take (i + 1) xs)) old new g k
  adds-item xs i x old mid new g h k l is before step =
      let whole : take (i + 1) xs ≡ take i xs ++ x ∷ [] = take_more xs i x l ∙ ap (λ y. take i xs ++ y ∷ []) is in
      rw whole (adds-more (take i xs) x old mid new g h k before step)

  -- what is drawn passes
  pub each-all : (P : B → Type 0) (Q : A → Type 0) → ((x : A) (g : Lcg) → Q x → All P (f x g).0) → (xs : List A) → All Q xs → (g : Lcg) → All P (for_each f xs g).0
  unfolding for_each
  each-all P Q step [] all g = All-nil P
  each-all P Q step (x ∷ xs) all g =
      All-append P (f x g).0 (for_each f xs (f x g).1).0 (step x g (all 0 x (omega arith))) (each-all P Q step xs (λ k d l. all (suc k) d (omega arith)) (f x g).1)

-- one more of a range
pub adds-number : {B : Type 0} (f : ℕ → Drawing B) (a n : ℕ) (old mid new : List B) (g h k : Lcg) → Adds (for_each f (range_with_len a n)) old mid g h → Adds (f (a + n)) mid new h k →
    Adds (for_each f (range_with_len a (n + 1))) old new g k
adds-number f a n old mid new g h k before step =
    let whole : range_with_len a (n + 1) ≡ range_with_len a n ++ (a + n) ∷ [] = rw add-one (range-more a n) in
    rw whole (adds-more f (range_with_len a n) (a + n) old mid new g h k before step)

-- one more of a range, at the number that comes next
pub adds-at : {B : Type 0} (f : ℕ → Drawing B) (a n m k : ℕ) (old mid new : List B) (g h j : Lcg) → m ≡ a + n → k ≡ n + 1 → Adds (for_each f (range_with_len a n)) old mid g h → Adds (f m) mid new h j →
    Adds (for_each f (range_with_len a k)) old new g j
adds-at f a n m k old mid new g h j e d before step =
    rw d (adds-number f a n old mid new g h j before (subst (λ (x : ℕ). Adds (f x) mid new h j) e step))

-- all of a list
pub adds-all : {A B : Type 0} (f : A → Drawing B) (xs ys : List A) (i : ℕ) (old new : List B) (g h : Lcg) → length xs ≤ i → xs ≡ ys → Adds (for_each f (take i xs)) old new g h → Adds (for_each f ys) old new g h
adds-all f xs ys i old new g h end same before =
    subst (λ zs. Adds (for_each f zs) old new g h) (take_all i xs end ∙ same) before

-- all of a range
pub adds-range : {B : Type 0} (f : ℕ → Drawing B) (a n m : ℕ) (old new : List B) (g h : Lcg) → n ≡ m → Adds (for_each f (range_with_len a n)) old new g h → Adds (for_each f (range_with_len a m)) old new g h
adds-range f a n m old new g h e before = subst (λ (k : ℕ). Adds (for_each f (range_with_len a k)) old new g h) e before

-- one for each
pub length-each : {A B : Type 0} (f : A → Drawing B) → ((x : A) (g : Lcg) → length (f x g).0 ≡ 1) → (xs : List A) (g : Lcg) → length (for_each f xs g).0 ≡ length xs
unfolding for_each
length-each f one [] g = refl
length-each f one (x ∷ xs) g =
    let e = length-append (f x g).0 (for_each f xs (f x g).1).0 in
    let h = one x g in
    let rest = length-each f one xs (f x g).1 in
    omega (arith, e, h, rest)

-- Lists of items that are thinner than others, and the items of words.
use Rattle.std.proofs.Common.{◌≡◌, ℕ, zero, suc, ◌==◌, ◌<◌, true, false, List, [], ◌∷◌, ◌++◌, Option, Some, None, filter, slice_get, refl, sym, ◌∙◌, ap, subst, arith, inl, inr}
use Rattle.std.proofs.lemmas.Bool.{cases_Bool, and_from, eq-eqb, ne_eqb}
use Rattle.exb_link.specs.declared.link_frame.LinkFrame.{LinkFrame}
use Rattle.exb_link.specs.LinkFrames.{is_control, leading, without_data, without_control}
use Rattle.exb_flight.specs.Items.{Word as Datum, Key, is_key, Item, Data, Token, words_of, leads}
use Rattle.exb_flight.specs.Items as items
use Rattle.exb_flight.specs.Tokens.{datum, data_words, token_of, items_by, Thins, none, same, more}

-- ---- thinner lists
pub thins_itself : (xs : List Item) → Thins xs xs
thins_itself [] = none
thins_itself (x ∷ xs) = same x (thins_itself xs)

pub thins_through : (xs ys zs : List Item) → Thins xs ys → Thins ys zs → Thins xs zs
thins_through xs ys zs a none = a
thins_through xs ys zs a (more k b) = more k (thins_through xs ys _ a b)
thins_through xs ys zs (same x a) (same y b) = same x (thins_through _ _ _ a b)
thins_through xs ys zs (more k a) (same y b) = more k (thins_through xs _ _ a b)

pub thins_token : (o : Option Key) (xs ys : List Item) → Thins xs ys → Thins (token_of o xs) (token_of o ys)
thins_token None xs ys a = a
thins_token (Some k) xs ys a = same (Token k) a

pub thins_before : (o : Option Key) (xs : List Item) → Thins xs (token_of o xs)
thins_before None xs = thins_itself xs
thins_before (Some k) xs = more k (thins_itself xs)

pub thins_append : (xs ys zs : List Item) → Thins xs ys → Thins (xs ++ zs) (ys ++ zs)
thins_append xs ys zs none = thins_itself zs
thins_append xs ys zs (same x a) = same x (thins_append _ _ zs a)
thins_append xs ys zs (more k a) = more k (thins_append xs _ zs a)

pub thins_words : (xs ys : List Item) → Thins xs ys → words_of xs ≡ words_of ys
thins_words xs ys none = refl
thins_words xs ys (same (Data f) a) = ap (λ (fs : List Datum). f ∷ fs) (thins_words _ _ a)
thins_words xs ys (same (Token k) a) = thins_words _ _ a
thins_words xs ys (more k a) = thins_words xs _ a

-- a token that leads still does
pub thins_leads : (k : Key) (xs ys : List Item) → Thins xs ys → leads k xs ≡ true → leads k ys ≡ true
thins_leads k xs ys none e = e
thins_leads k xs ys (same (Data f) a) e = e
thins_leads k xs ys (same (Token j) a) e = elim (cases_Bool (is_key j k)) [ inl z ↦ rw z refl | inr z ↦ rw z (thins_leads k _ _ a (rw z at e)) ]
thins_leads k xs ys (more j a) e = elim (cases_Bool (is_key j k)) [ inl z ↦ rw z refl | inr z ↦ rw z (thins_leads k xs _ a e) ]

pub thins_without_data : (xs ys : List Item) → Thins xs ys → Thins (items.without_data xs) (items.without_data ys)
thins_without_data xs ys none = none
thins_without_data xs ys (same (Data f) a) = a
thins_without_data xs ys (same (Token k) a) = same (Token k) (thins_without_data _ _ a)
thins_without_data xs ys (more k a) = more k (thins_without_data xs _ a)

-- ---- the items of words
module _ (key : LinkFrame → Option Key) where
  pub items_control : (x : LinkFrame) (xs : List LinkFrame) → is_control x ≡ true → items_by key (x ∷ xs) ≡ token_of (key x) (items_by key xs)
  items_control x xs e = rw e refl

  pub items_data : (x : LinkFrame) (xs : List LinkFrame) → is_control x ≡ false → items_by key (x ∷ xs) ≡ Data (datum x) ∷ items_by key xs
  items_data x xs e = rw e refl

  pub items_words : (ws : List LinkFrame) → words_of (items_by key ws) ≡ data_words ws
  items_words [] = refl
  items_words (x ∷ xs) = elim (cases_Bool (is_control x)) [ inl e ↦ rw (e, words_token (key x) (items_by key xs)) (items_words xs) | inr e ↦ rw e (ap (λ (fs : List Datum). datum x ∷ fs) (items_words xs)) ]
    where
      words_token : (o : Option Key) (ys : List Item) → words_of (token_of o ys) ≡ words_of ys
      words_token None ys = refl
      words_token (Some k) ys = refl

  pub items_append : (xs ys : List LinkFrame) → items_by key (xs ++ ys) ≡ items_by key xs ++ items_by key ys
  items_append [] ys = refl
  items_append (x ∷ xs) ys = elim (cases_Bool (is_control x)) [
    | inl e ↦ rw e (ap (token_of (key x)) (items_append xs ys) ∙ token_append (key x) (items_by key xs) (items_by key ys))
    | inr e ↦ rw e (ap (λ (zs : List Item). Data (datum x) ∷ zs) (items_append xs ys))
  ]
    where
      token_append : (o : Option Key) (us vs : List Item) → token_of o (us ++ vs) ≡ token_of o us ++ vs
      token_append None us vs = refl
      token_append (Some k) us vs = refl

  -- a control word that is gone leaves a thinner list
  pub items_lost : (ws : List LinkFrame) (k : ℕ) → Thins (items_by key (without_control ws k)) (items_by key ws)
  items_lost [] k = none
  items_lost (x ∷ xs) k =
      elim (cases_Bool (is_control x)) [
        | inr e ↦
            let goes : without_control (x ∷ xs) k ≡ x ∷ without_control xs k = stays k e in
            subst (λ zs. Thins (items_by key zs) (items_by key (x ∷ xs))) (sym goes) (subst (λ us. Thins us (items_by key (x ∷ xs))) (sym (items_data x (without_control xs k) e))
            (subst (λ vs. Thins (Data (datum x) ∷ items_by key (without_control xs k)) vs) (sym (items_data x xs e)) (same (Data (datum x)) (items_lost xs k))))
        | inl e ↦ by_place k e (λ j. items_lost xs j)
      ]
    where
      stays : (k : ℕ) → is_control x ≡ false → without_control (x ∷ xs) k ≡ x ∷ without_control xs k
      stays k e = rw e refl

      without_later : (j : ℕ) → is_control x ≡ true → without_control (x ∷ xs) (suc j) ≡ x ∷ without_control xs j
      without_later j e = rw (e, suc_not j) (ap (λ i. x ∷ without_control xs i) (omega arith))
        where
          suc_not : (j : ℕ) → (suc j == 0) ≡ false
          suc_not j = ne_eqb (suc j) 0 (λ z. omega (arith, z))

      by_place : (k : ℕ) → is_control x ≡ true → ((j : ℕ) → Thins (items_by key (without_control xs j)) (items_by key xs)) → Thins (items_by key (without_control (x ∷ xs) k)) (items_by key (x ∷ xs))
      by_place zero e rest =
          let goes : without_control (x ∷ xs) zero ≡ xs = rw e refl in
          subst (λ zs. Thins (items_by key zs) (items_by key (x ∷ xs))) (sym goes) (subst (λ vs. Thins (items_by key xs) vs) (sym (items_control x xs e)) (thins_before (key x) (items_by key xs)))
      by_place (suc j) e rest =
          let goes : without_control (x ∷ xs) (suc j) ≡ x ∷ without_control xs j = without_later j e in
          subst (λ zs. Thins (items_by key zs) (items_by key (x ∷ xs))) (sym goes) (subst (λ us. Thins us (items_by key (x ∷ xs))) (sym (items_control x (without_control xs j) e))
          (subst (λ vs. Thins (token_of (key x) (items_by key (without_control xs j))) vs) (sym (items_control x xs e)) (thins_token (key x) (items_by key (without_control xs j)) (items_by key xs) (rest j))))

  -- and so does the first data word, taken from both
  pub items_taken : (ws : List LinkFrame) → items_by key (without_data ws) ≡ items.without_data (items_by key ws)
  items_taken [] = refl
  items_taken (x ∷ xs) =
      elim (cases_Bool (is_control x)) [
        | inr e ↦ let goes : without_data (x ∷ xs) ≡ xs = rw e refl in ap (items_by key) goes ∙ sym (ap items.without_data (items_data x xs e))
        | inl e ↦
            let goes : without_data (x ∷ xs) ≡ x ∷ without_data xs = rw e refl in
            ap (items_by key) goes ∙ (items_control x (without_data xs) e ∙ (ap (token_of (key x)) (items_taken xs) ∙ (taken_token (key x) (items_by key xs) ∙ sym (ap items.without_data (items_control x xs e)))))
      ]
    where
      taken_token : (o : Option Key) (ys : List Item) → token_of o (items.without_data ys) ≡ items.without_data (token_of o ys)
      taken_token None ys = refl
      taken_token (Some k) ys = refl

  -- the token of a control word that stands before all data words leads
  pub items_lead : (ws : List LinkFrame) (k : ℕ) (x : LinkFrame) (j : Key) → k < leading ws → slice_get (filter is_control ws) k ≡ Some x → key x ≡ Some j → leads j (items_by key ws) ≡ true
  items_lead [] k x j low at e = absurd (none_some at)
    where
      none_some : slice_get (filter is_control []) k ≡ Some x → ⊥
      none_some f = cc
  items_lead (y ∷ ys) k x j low at e =
      elim (cases_Bool (is_control y)) [
        | inr z ↦ absurd (omega (arith, (rw z at low)))
        | inl z ↦ subst (λ us. leads j us ≡ true) (sym (items_control y ys z)) (by_place k (rw z at low) (rw z at at) (λ i lower there. items_lead ys i x j lower there e))
      ]
    where
      some_same : Some y ≡ Some x → y ≡ x
      some_same f = cc

      token_first : (o : Option Key) (us : List Item) → o ≡ Some j → leads j (token_of o us) ≡ true
      token_first None us f = absurd (no f)
        where
          no : None ≡ Some j → ⊥
          no g = cc
      token_first (Some i) us f = rw (same_key i f) refl
        where
          same_some : (i : Key) → Some i ≡ Some j → i ≡ j
          same_some i g = cc

          same_key : (i : Key) → Some i ≡ Some j → is_key i j ≡ true
          same_key i g = subst (λ (u : Key). is_key i u ≡ true) (same_some i g) (and_from (i.extender == i.extender) (i.serial == i.serial) (eq-eqb i.extender i.extender refl) (eq-eqb i.serial i.serial refl))

      token_later : (o : Option Key) (us : List Item) → leads j us ≡ true → leads j (token_of o us) ≡ true
      token_later None us f = f
      token_later (Some i) us f = elim (cases_Bool (is_key i j)) [ inl z ↦ rw z refl | inr z ↦ rw z f ]

      by_place : (k : ℕ) → k < suc (leading ys) → slice_get (y ∷ filter is_control ys) k ≡ Some x → ((i : ℕ) → i < leading ys → slice_get (filter is_control ys) i ≡ Some x → leads j (items_by key ys) ≡ true) →
          leads j (token_of (key y) (items_by key ys)) ≡ true
      by_place zero lower there rest = token_first (key y) (items_by key ys) (ap key (some_same there) ∙ e)
      by_place (suc i) lower there rest = token_later (key y) (items_by key ys) (rest i (omega (arith, lower)) there)

-- That a control word comes in time is told by counts.
use Rattle.std.proofs.Common.{◌≡◌, ℕ, ◌+◌, ◌≤◌, true, List, [], ◌∷◌, ◌++◌, length, Option, Some, None, refl, ap, sym, ◌∙◌, subst, arith, inl, inr}
use Rattle.std.specs.Prelude.{option_map}
use Rattle.std.specs.Str.{bytes_eq}
use Rattle.std.proofs.lemmas.Bool.{cases_Bool, false≢true, leb-true, le-leb}
use Rattle.std.proofs.lemmas.List.{length-append}
use Rattle.exb_trace_spec.specs.CheckerLaws.{TimeIsDecided}
use Rattle.exb_trace_spec.specs.TraceChecker.{data_before, some_within, is_in_time}
use Rattle.exb_trace_spec.specs.Rule3Links.{data_of, IsFront, WasSent}
use Rattle.exb_trace_spec.proofs.Prefixes.{data_append}
use Rattle.exb_trace_spec.proofs.EqualBytes.{bytes_is, bytes_itself}

-- ---- fronts of one list
pub shorter : {A : Type 0} (xs us ys vs : List A) → xs ++ us ≡ ys ++ vs → length xs ≤ length ys → IsFront xs ys
shorter [] us ys vs e low = record { rest = ys; is = refl }
shorter (x ∷ xs) us [] vs e low = absurd (omega (arith, low))
shorter (x ∷ xs) us (y ∷ ys) vs e low =
    let k : IsFront xs ys = shorter xs us ys vs (tails e) (omega (arith, low)) in
    record { rest = k.rest; is = ap (λ zs. y ∷ zs) k.is ∙ ap (λ z. z ∷ (xs ++ k.rest)) (sym (heads e)) }
  where
    tails : x ∷ (xs ++ us) ≡ y ∷ (ys ++ vs) → xs ++ us ≡ ys ++ vs
    tails k = cc

    heads : x ∷ (xs ++ us) ≡ y ∷ (ys ++ vs) → x ≡ y
    heads k = cc

pub front_short : {A : Type 0} (xs ys : List A) → IsFront xs ys → length xs ≤ length ys
front_short xs ys k = let n : length ys ≡ length xs + length k.rest = ap length k.is ∙ length-append xs k.rest in omega arith

-- ---- data before the first such word
more_data : (x : List ℕ) (xs : List (List ℕ)) → length (data_of (x ∷ xs)) ≡ length (data_of (x ∷ [])) + length (data_of xs)
more_data x xs = ap length (data_append (x ∷ []) xs) ∙ length-append (data_of (x ∷ [])) (data_of xs)

record Found (f : List ℕ) (sent : List (List ℕ)) (n : ℕ) : Type 0 where
  before : List (List ℕ)
  after : List (List ℕ)
  is : sent ≡ before ++ f ∷ after
  count : length (data_of before) ≡ n

some_same : {n m : ℕ} → Some n ≡ Some m → n ≡ m
some_same e = cc

none_some : {n : ℕ} → None ≡ Some n → ⊥
none_some e = cc

found_more : (f x : List ℕ) (xs : List (List ℕ)) (n : ℕ) → ((m : ℕ) → data_before f xs ≡ Some m → Found f xs m) → (o : Option ℕ) → data_before f xs ≡ o → option_map (λ n. length (data_of (x ∷ [])) + n) o ≡ Some n → Found f (x ∷ xs) n
found_more f x xs n more None e h = absurd (none_some h)
found_more f x xs n more (Some m) e h =
    let k : Found f xs m = more m e in
    record {
      before = x ∷ k.before;
      after = k.after;
      is = ap (λ zs. x ∷ zs) k.is;
      count = more_data x k.before ∙ ap (λ c. length (data_of (x ∷ [])) + c) k.count ∙ some_same h;
    }

found : (f : List ℕ) (sent : List (List ℕ)) (n : ℕ) → data_before f sent ≡ Some n → Found f sent n
found f [] n e = absurd (none_some e)
found f (x ∷ xs) n e =
    elim (cases_Bool (bytes_eq x f)) [
      | inl k ↦ (let zero_is : Some 0 ≡ Some n = rw k at e in record { before = []; after = xs; is = ap (λ (z : List ℕ). z ∷ xs) (bytes_is x f k); count = some_same zero_is })
      | inr k ↦ (let rest : option_map (λ n. length (data_of (x ∷ [])) + n) (data_before f xs) ≡ Some n = rw k at e in found_more f x xs n (found f xs) (data_before f xs) refl rest)
    ]

record First (f : List ℕ) (sent : List (List ℕ)) (most : ℕ) : Type 0 where
  n : ℕ
  is : data_before f sent ≡ Some n
  low : n ≤ most

first : (f : List ℕ) (before after : List (List ℕ)) → First f (before ++ f ∷ after) (length (data_of before))
first f [] after = record { n = 0; is = rw (bytes_itself f) refl; low = omega arith }
first f (x ∷ xs) after =
    elim (cases_Bool (bytes_eq x f)) [
      | inl k ↦ record { n = 0; is = rw k refl; low = omega arith }
      | inr k ↦ (
          let j : First f (xs ++ f ∷ after) (length (data_of xs)) = first f xs after in
          let m = more_data x xs in
          let low = j.low in
          record { n = length (data_of (x ∷ [])) + j.n; is = rw k (ap (option_map (λ n. length (data_of (x ∷ [])) + n)) j.is); low = omega (arith, m, low) }
          )
    ]

-- ---- the law
record Within (most : ℕ) (o : Option ℕ) : Type 0 where
  n : ℕ
  is : o ≡ Some n
  low : n ≤ most

within : (most : ℕ) (o : Option ℕ) → some_within most o ≡ true → Within most o
within most None e = absurd (false≢true e)
within most (Some n) e = record { n = n; is = refl; low = leb-true n most e }

pub time_is_decided : TimeIsDecided
time_is_decided sent came f front = (sooner, later)
  where
    sooner : is_in_time sent (length came) f ≡ true → WasSent sent came f
    sooner h =
        let w : Within (length came) (data_before f sent) = within (length came) (data_before f sent) h in
        let k : Found f sent w.n = found f sent w.n w.is in
        let low : length (data_of k.before) ≤ length came = subst (λ c. c ≤ length came) (sym k.count) w.low in
        let both : data_of k.before ++ data_of (f ∷ k.after) ≡ came ++ front.rest = sym (data_append k.before (f ∷ k.after)) ∙ ap data_of (sym k.is) ∙ front.is in
        record { before = k.before; after = k.after; is = k.is; all_in = shorter (data_of k.before) (data_of (f ∷ k.after)) came front.rest both low }

    later : WasSent sent came f → is_in_time sent (length came) f ≡ true
    later k =
        let j : First f (k.before ++ f ∷ k.after) (length (data_of k.before)) = first f k.before k.after in
        let short : length (data_of k.before) ≤ length came = front_short (data_of k.before) came k.all_in in
        let low = j.low in
        ap (λ us. some_within (length came) (data_before f us)) k.is ∙ ap (some_within (length came)) j.is ∙ le-leb j.n (length came) (omega (arith, low, short))

-- Bytes are read two digits at a time.
use Rattle.std.proofs.Common.{◌≡◌, ℕ, ◌+◌, ◌*◌, ◌<◌, ◌%◌, ◌/◌, ◌==◌, List, [], ◌∷◌, ◌++◌, length, get_or, drop, Option, Some, None, refl, sym, ap, ◌∙◌, subst, arith, append_assoc, append-nil, inl, inr}
use Rattle.std.specs.Prelude.{option_map, option_and_then}
use Rattle.std.proofs.lemmas.Bool.{cases_eq, eq-eqb, ne_eqb}
use Rattle.std.proofs.lemmas.List.{drop_more, drop_all}
use Rattle.exb_trace_spec.specs.TraceTexts.{byte_in, bytes_in}
use Rattle.exb_audit.specs.LineWords.{HasRead}

-- the rest of two digits
pub more : (hex : List ℕ) (i : ℕ) → i < length hex / 2 →
    bytes_in (drop (2 * i) hex) ≡ option_and_then (λ b. option_map (λ bs. b ∷ bs) (bytes_in (drop (2 * (i + 1)) hex))) (byte_in (get_or hex (2 * i) 0) (get_or hex (2 * i + 1) 0))
unfolding bytes_in
more hex i l =
    ap bytes_in (drop_more hex (2 * i) 0 (omega arith) ∙ ap (λ zs. get_or hex (2 * i) 0 ∷ zs) (drop_more hex (2 * i + 1) 0 (omega arith)))
    ∙ ap (λ k. option_and_then (λ b. option_map (λ bs. b ∷ bs) (bytes_in (drop k hex))) (byte_in (get_or hex (2 * i) 0) (get_or hex (2 * i + 1) 0))) step
  where
    step : 2 * i + 1 + 1 ≡ 2 * (i + 1)
    step = omega arith

one_more : (done : List ℕ) (b : ℕ) (o : Option (List ℕ)) → option_map (λ (bs : List ℕ). (done ++ b ∷ []) ++ bs) o ≡ option_map (λ (bs : List ℕ). done ++ bs) (option_map (λ (bs : List ℕ). b ∷ bs) o)
one_more done b None = refl
one_more done b (Some bs) = ap (λ (zs : List ℕ). Some zs) (append_assoc done (b ∷ []) bs)

-- a byte more was read
pub goes_on : (hex done : List ℕ) (i b : ℕ) → i < length hex / 2 → byte_in (get_or hex (2 * i) 0) (get_or hex (2 * i + 1) 0) ≡ Some b →
    option_map (λ (bs : List ℕ). done ++ bs) (bytes_in (drop (2 * i) hex)) ≡ bytes_in hex →
    option_map (λ (bs : List ℕ). (done ++ b ∷ []) ++ bs) (bytes_in (drop (2 * (i + 1)) hex)) ≡ bytes_in hex
goes_on hex done i b l e h =
    one_more done b (bytes_in (drop (2 * (i + 1)) hex))
    ∙ ap (option_map (λ (bs : List ℕ). done ++ bs)) (ap (option_and_then (λ c. option_map (λ (bs : List ℕ). c ∷ bs) (bytes_in (drop (2 * (i + 1)) hex)))) (sym e) ∙ sym (more hex i l))
    ∙ h

-- two characters are no byte
pub stops : (hex done : List ℕ) (i : ℕ) → i < length hex / 2 → byte_in (get_or hex (2 * i) 0) (get_or hex (2 * i + 1) 0) ≡ None →
    option_map (λ (bs : List ℕ). done ++ bs) (bytes_in (drop (2 * i) hex)) ≡ bytes_in hex → bytes_in hex ≡ None
stops hex done i l e h =
    sym h ∙ ap (option_map (λ (bs : List ℕ). done ++ bs)) (more hex i l ∙ ap (option_and_then (λ c. option_map (λ (bs : List ℕ). c ∷ bs) (bytes_in (drop (2 * (i + 1)) hex)))) e)

none_left : (hex : List ℕ) (i : ℕ) → i ≡ length hex / 2 → length hex % 2 ≡ 0 → bytes_in (drop (2 * i) hex) ≡ Some []
unfolding bytes_in
none_left hex i e even = ap bytes_in (drop_all (2 * i) hex (omega arith))

one_left : (hex : List ℕ) (i : ℕ) → i ≡ length hex / 2 → length hex % 2 ≡ 1 → bytes_in (drop (2 * i) hex) ≡ None
unfolding bytes_in
one_left hex i e odd = ap bytes_in (drop_more hex (2 * i) 0 (omega arith) ∙ ap (λ zs. get_or hex (2 * i) 0 ∷ zs) (drop_all (2 * i + 1) hex (omega arith)))

-- nothing is left but a last character, if their number is odd
pub ends : (hex done : List ℕ) (i : ℕ) → i ≡ length hex / 2 → option_map (λ (bs : List ℕ). done ++ bs) (bytes_in (drop (2 * i) hex)) ≡ bytes_in hex → HasRead hex done (length hex % 2 == 0)
ends hex done i e h =
    elim (cases_eq (length hex % 2) 0) [
      | inl even ↦ subst (HasRead hex done) (sym (eq-eqb (length hex % 2) 0 even)) (sym h ∙ ap (option_map (λ (bs : List ℕ). done ++ bs)) (none_left hex i e even) ∙ ap (λ (zs : List ℕ). Some zs) (append-nil done))
      | inr odd ↦ subst (HasRead hex done) (sym (ne_eqb (length hex % 2) 0 odd)) (sym h ∙ ap (option_map (λ (bs : List ℕ). done ++ bs)) (one_left hex i e (omega arith)))
    ]

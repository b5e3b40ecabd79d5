-- Lists in messages.
use Rattle.std.proofs.Common.{◌≡◌, ℕ, zero, suc, ◌<◌, ◌≤◌, List, [], ◌∷◌, length, take, drop, min, inl, inr, refl, sym, ◌∙◌, ap, arith, length-drop}
use Rattle.std.proofs.lemmas.Bool.{cases_lt}
use Rattle.std.proofs.lemmas.List.{take_all, drop_all}
use Rattle.exb_control_spec.specs.Plans.ChangeRequests.{pieces, in_messages}

enough : {X : Type 0} (n m : ℕ) (xs : List X) → length xs ≤ n → length xs ≤ m → pieces n xs ≡ pieces m xs
unfolding pieces
enough zero zero xs h l = refl
enough zero (suc m) [] h l = refl
enough zero (suc m) (x ∷ xs) h l = absurd (omega arith)
enough (suc n) zero [] h l = refl
enough (suc n) zero (x ∷ xs) h l = absurd (omega arith)
enough (suc n) (suc m) [] h l = refl
enough (suc n) (suc m) (x ∷ xs) h l =
    ap (λ ys. take 64 (x ∷ xs) ∷ ys) (enough n m (drop 64 (x ∷ xs)) (omega (arith, length-drop 64 (x ∷ xs))) (omega (arith, length-drop 64 (x ∷ xs))))

-- the first message, and those of what is left
pub first_message : {X : Type 0} (xs : List X) → 0 < length xs → in_messages xs ≡ take 64 xs ∷ in_messages (drop 64 xs)
unfolding in_messages pieces
first_message [] h = absurd (omega arith)
first_message (x ∷ xs) h =
    ap (λ ys. take 64 (x ∷ xs) ∷ ys) (enough (length xs) (length (drop 64 (x ∷ xs))) (drop 64 (x ∷ xs)) (omega (arith, length-drop 64 (x ∷ xs))) (omega arith))

-- so it is where the first piece is no longer than all
pub cut_message : {X : Type 0} (n : ℕ) (xs : List X) → 0 < length xs → n ≡ min (length xs) 64 → in_messages xs ≡ take n xs ∷ in_messages (drop n xs)
cut_message n xs some is =
    elim (cases_lt (length xs) 64) [
      | inl l ↦
          let whole : n ≡ length xs = omega arith in
          first_message xs some
          ∙ (ap (λ ys. ys ∷ in_messages (drop 64 xs)) (take_all 64 xs (omega arith) ∙ sym (take_all n xs (omega arith)))
          ∙ ap (λ ys. take n xs ∷ in_messages ys) (drop_all 64 xs (omega arith) ∙ sym (drop_all n xs (omega arith))))
      | inr g ↦
          let whole : 64 ≡ n = omega arith in
          first_message xs some ∙ ap (λ m. take m xs ∷ in_messages (drop m xs)) whole
    ]

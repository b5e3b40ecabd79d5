-- Fronts of lists, and the data frames of a list.
use Rattle.std.proofs.Common.{◌≡◌, ℕ, Bool, true, false, List, [], ◌∷◌, ◌++◌, filter, append_assoc, append-nil, refl, ap, sym, ◌∙◌, subst, inl, inr}
use Rattle.std.proofs.lemmas.Bool.{cases_Bool}
use Rattle.exb_model.specs.Frames.{is_control_frame}
use Rattle.exb_trace_spec.specs.Rule3Links.{is_data_frame, data_of, IsFront, WasSent}

pub filter_append : {A : Type 0} (p : A → Bool) (xs ys : List A) → filter p (xs ++ ys) ≡ filter p xs ++ filter p ys
filter_append p [] ys = refl
filter_append p (x ∷ xs) ys = elim (cases_Bool (p x)) [ inl e ↦ rw e (ap (λ zs. x ∷ zs) (filter_append p xs ys)) | inr e ↦ rw e (filter_append p xs ys) ]

pub data_append : (xs ys : List (List ℕ)) → data_of (xs ++ ys) ≡ data_of xs ++ data_of ys
data_append xs ys = filter_append is_data_frame xs ys

pub data_more : (xs : List (List ℕ)) (f : List ℕ) → is_control_frame f ≡ false → data_of (xs ++ f ∷ []) ≡ data_of xs ++ f ∷ []
data_more xs f e = data_append xs (f ∷ []) ∙ (rw e refl)

pub control_more : (xs : List (List ℕ)) (f : List ℕ) → is_control_frame f ≡ true → data_of (xs ++ f ∷ []) ≡ data_of xs
control_more xs f e = data_append xs (f ∷ []) ∙ (rw e (append-nil (data_of xs)))

pub front_itself : {A : Type 0} (xs : List A) → IsFront xs xs
front_itself xs = record { rest = []; is = sym (append-nil xs) }

pub front_more : {A : Type 0} (xs ys zs : List A) → IsFront xs ys → IsFront xs (ys ++ zs)
front_more xs ys zs k = record { rest = k.rest ++ zs; is = ap (λ us. us ++ zs) k.is ∙ append_assoc xs k.rest zs }

pub front_of_data : (xs ys zs : List (List ℕ)) → IsFront (data_of xs) (data_of ys) → IsFront (data_of xs) (data_of (ys ++ zs))
front_of_data xs ys zs k = subst (λ us. IsFront (data_of xs) us) (sym (data_append ys zs)) (front_more (data_of xs) (data_of ys) (data_of zs) k)

pub sent_more : (sent more d : List (List ℕ)) (f : List ℕ) → WasSent sent d f → WasSent (sent ++ more) d f
sent_more sent more d f k =
    record { before = k.before; after = k.after ++ more; is = ap (λ us. us ++ more) k.is ∙ append_assoc k.before (f ∷ k.after) more; all_in = k.all_in }

pub taken_more : (sent d more : List (List ℕ)) (f : List ℕ) → WasSent sent d f → WasSent sent (d ++ more) f
taken_more sent d more f k = record { before = k.before; after = k.after; is = k.is; all_in = front_more (data_of k.before) d more k.all_in }

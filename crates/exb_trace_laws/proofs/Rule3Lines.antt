-- Rule 3 over a trace to which the lines of a step are put.
use Rattle.std.proofs.Common.{◌≡◌, ℕ, List, [], ◌∷◌, ◌++◌, append_assoc, append-nil, refl, ap, sym, ◌∙◌, subst}
use Rattle.std.proofs.lemmas.List.Concat.{flat_map-append}
use Rattle.exb_world_spec.specs.Runs.Sessions.{Each}
use Rattle.exb_model.specs.Traces.{TraceLine, In, Out, Beat, Journal}
use Rattle.exb_trace_spec.specs.Traversals.{EachSince}
use Rattle.exb_trace_spec.specs.Rule3Links.{Place, in_at, out_at, ins, outs, data_of, IsFront, DataInOrder, ControlWasSent, GoesInOrder}
use Rattle.exb_trace_spec.proofs.Prefixes.{front_of_data}

-- ---- each line
pub each_since : (P : List TraceLine → TraceLine → Type 0) (before xs ys : List TraceLine) → EachSince P before xs → EachSince P (before ++ xs) ys → EachSince P before (xs ++ ys)
each_since P before [] ys a b = subst (λ zs. EachSince P zs ys) (append-nil before) b
each_since P before (x ∷ xs) ys a b = (a.0, each_since P (before ++ x ∷ []) xs ys a.1 (subst (λ zs. EachSince P zs ys) (sym (append_assoc before (x ∷ []) xs)) b))

-- lines of a step after its first
abbrev pub IsAfter : TraceLine → Type 0
IsAfter (In n k f) = ⊥
IsAfter (Out n k f) = Unit {0}
IsAfter Beat = ⊥
IsAfter (Journal text) = Unit {0}

pub ins_append : (p : Place) (xs ys : List TraceLine) → ins p (xs ++ ys) ≡ ins p xs ++ ins p ys
ins_append p xs ys = flat_map-append (in_at p) xs ys

pub outs_append : (p : Place) (xs ys : List TraceLine) → outs p (xs ++ ys) ≡ outs p xs ++ outs p ys
outs_append p xs ys = flat_map-append (out_at p) xs ys

none_in : (p : Place) (l : TraceLine) → IsAfter l → in_at p l ≡ []
none_in p (In n k f) a = absurd a
none_in p (Out n k f) a = refl
none_in p Beat a = refl
none_in p (Journal text) a = refl

pub ins_after : (p : Place) (ls : List TraceLine) → Each IsAfter ls → ins p ls ≡ []
ins_after p [] all = refl
ins_after p (l ∷ ls) all = ap (λ zs. zs ++ ins p ls) (none_in p l all.0) ∙ ins_after p ls all.1

module _ (from to : Place) where
  goes_on : (before : List TraceLine) (l : TraceLine) → IsAfter l → DataInOrder from to before → DataInOrder from to (before ++ l ∷ [])
  goes_on before l a k =
      let i : ins to (before ++ l ∷ []) ≡ ins to before = ins_append to before (l ∷ []) ∙ ap (λ zs. ins to before ++ zs) (ins_after to (l ∷ []) (a, tt)) ∙ append-nil (ins to before) in
      let o : outs from (before ++ l ∷ []) ≡ outs from before ++ outs from (l ∷ []) = outs_append from before (l ∷ []) in
      let m : IsFront (data_of (ins to before)) (data_of (outs from before ++ outs from (l ∷ []))) = front_of_data (ins to before) (outs from before) (outs from (l ∷ [])) k in
      subst (λ zs. IsFront (data_of zs) (data_of (outs from (before ++ l ∷ [])))) (sym i) (subst (λ zs. IsFront (data_of (ins to before)) (data_of zs)) (sym o) m)

  data_after : (before ls : List TraceLine) → Each IsAfter ls → DataInOrder from to before → EachSince (λ b l. DataInOrder from to (b ++ l ∷ [])) before ls
  data_after before [] all k = tt
  data_after before (l ∷ ls) all k = let n = goes_on before l all.0 k in (n, data_after (before ++ l ∷ []) ls all.1 n)

  control_after : (before ls : List TraceLine) → Each IsAfter ls → EachSince (ControlWasSent from to) before ls
  control_after before [] all = tt
  control_after before (l ∷ ls) all = (λ f e c. absurd (none_one f (sym (none_in to l all.0) ∙ e)), control_after (before ++ l ∷ []) ls all.1)
    where
      none_one : (f : List ℕ) → [] ≡ f ∷ [] → ⊥
      none_one f e = cc

  pub order_rest : (lines ls : List TraceLine) → Each IsAfter ls → DataInOrder from to lines → GoesInOrder from to lines → GoesInOrder from to (lines ++ ls)
  order_rest lines ls all k g =
      record {
        data_in_order = (g.data_in_order.0, each_since (λ b l. DataInOrder from to (b ++ l ∷ [])) [] lines ls g.data_in_order.1 (data_after lines ls all k));
        control_in_order = each_since (ControlWasSent from to) [] lines ls g.control_in_order (control_after lines ls all);
      }

  pub order_first : (lines : List TraceLine) (l : TraceLine) (ls : List TraceLine) → Each IsAfter ls → DataInOrder from to (lines ++ l ∷ []) → ControlWasSent from to lines l → GoesInOrder from to lines → GoesInOrder from to (lines ++ l ∷ ls)
  order_first lines l ls all k c g =
      record {
        data_in_order = (g.data_in_order.0, each_since (λ b m. DataInOrder from to (b ++ m ∷ [])) [] lines (l ∷ ls) g.data_in_order.1 (k, data_after (lines ++ l ∷ []) ls all k));
        control_in_order = each_since (ControlWasSent from to) [] lines (l ∷ ls) g.control_in_order (c, control_after (lines ++ l ∷ []) ls all);
      }

-- What some lines have is compared with what they are to have: rules 1 and 4.
use Rattle.std.proofs.Common.{◌≡◌, ℕ, ◌&&◌, true, List, [], ◌∷◌, ◌++◌, Option, Some, None, refl, ap, sym, ◌∙◌, subst, inl, inr}
use Rattle.std.specs.Prelude.{flat_map}
use Rattle.std.specs.Bool.{Decides}
use Rattle.std.specs.Str.{bytes_eq}
use Rattle.std.proofs.lemmas.Bool.{cases_Bool, and_parts, and_from, false≢true}
use Rattle.std.proofs.lemmas.Bool.Decides.{Decides-like, Decides-and}
use Rattle.exb_model.specs.Traces.{TraceLine, In, Out, Beat, Journal}
use Rattle.exb_model.specs.Tree.{Shape}
use Rattle.exb_trace_spec.specs.CheckerLaws.{Rule1IsDecided, Rule4IsDecided}
use Rattle.exb_trace_spec.specs.TraceChecker.{through, without_front, match_line, is_used_up, Told, names_place, step_1, start_1, Left, left_line, start_4, verdict_1, verdict_4}
use Rattle.exb_trace_spec.specs.Rule1Places.{journal_at, journal_in, NamesPlace}
use Rattle.exb_trace_spec.specs.Traversals.{Each}
use Rattle.exb_trace_spec.specs.Rule3Links.{place_of, in_at, out_at, ins, outs}
use Rattle.exb_trace_spec.proofs.NumberedMachines.{at_each, external_decided}
use Rattle.exb_trace_spec.proofs.EqualBytes.{bytes_is, bytes_itself}

-- ---- fronts
pub front_is : (xs ys zs : List (List ℕ)) → without_front xs ys ≡ Some zs → ys ≡ xs ++ zs
front_is [] ys zs e = some_same e
  where
    some_same : Some ys ≡ Some zs → ys ≡ zs
    some_same k = cc
front_is (x ∷ xs) [] zs e = absurd (cc)
front_is (x ∷ xs) (y ∷ ys) zs e =
    elim (cases_Bool (bytes_eq x y)) [
      | inl k ↦ (let more : without_front xs ys ≡ Some zs = rw k at e in ap (λ (z : List ℕ). z ∷ ys) (sym (bytes_is x y k)) ∙ ap (λ zs. x ∷ zs) (front_is xs ys zs more))
      | inr k ↦ (let none : None ≡ Some zs = rw k at e in absurd (cc))
    ]

pub front_back : (xs zs : List (List ℕ)) → without_front xs (xs ++ zs) ≡ Some zs
front_back [] zs = refl
front_back (x ∷ xs) zs = rw (bytes_itself x) (front_back xs zs)

-- ---- all lines
module _ (pick : TraceLine → List (List ℕ)) where
  stuck : (lines : List TraceLine) → through (match_line pick) None lines ≡ None
  stuck [] = refl
  stuck (l ∷ ls) = stuck ls

  pub matched : (left : List (List ℕ)) (lines : List TraceLine) → Decides (is_used_up (through (match_line pick) (Some left) lines)) (flat_map pick lines ≡ left)
  matched [] [] = (λ h. refl, λ h. refl)
  matched (x ∷ left) [] = (λ h. absurd (false≢true h), λ (h : [] ≡ x ∷ left). absurd (cc))
  matched left (l ∷ ls) = by_rest (λ zs. matched zs ls) (without_front (pick l) left) refl
    where
      by_rest : ((zs : List (List ℕ)) → Decides (is_used_up (through (match_line pick) (Some zs) ls)) (flat_map pick ls ≡ zs)) → (o : Option (List (List ℕ))) → without_front (pick l) left ≡ o → Decides (is_used_up (through (match_line pick) (without_front (pick l) left) ls)) (pick l ++ flat_map pick ls ≡ left)
      by_rest more None e = (
        λ h. absurd (false≢true (sym (ap is_used_up (ap (λ o. through (match_line pick) o ls) e ∙ stuck ls)) ∙ h)),
        λ h. absurd (none_some (sym e ∙ ap (without_front (pick l)) (sym h) ∙ front_back (pick l) (flat_map pick ls))),
      )
        where
          none_some : {zs : List (List ℕ)} → None ≡ Some zs → ⊥
          none_some k = cc
      by_rest more (Some zs) e =
          let d : Decides (is_used_up (through (match_line pick) (Some zs) ls)) (flat_map pick ls ≡ zs) = more zs in
          let is : is_used_up (through (match_line pick) (without_front (pick l) left) ls) ≡ is_used_up (through (match_line pick) (Some zs) ls) = ap (λ o. is_used_up (through (match_line pick) o ls)) e in (
            λ h. ap (λ us. pick l ++ us) (d.0 (sym is ∙ h)) ∙ sym (front_is (pick l) left zs e),
            λ h. is ∙ d.1 (some_same (sym (ap (without_front (pick l)) (sym h) ∙ front_back (pick l) (flat_map pick ls)) ∙ e)),
          )
        where
          some_same : {us vs : List (List ℕ)} → Some us ≡ Some vs → us ≡ vs
          some_same k = cc

-- ---- rule 1
module _ (t : Shape) where
  told_left : (s : Told) (lines : List TraceLine) → (through (step_1 t) s lines).left ≡ through (match_line journal_at) s.left lines
  told_left s [] = refl
  told_left s (l ∷ ls) = told_left (step_1 t s l) ls

  names : (l : TraceLine) → Decides (names_place t l) (NamesPlace t l)
  names (In n k f) = (λ h. h, λ h. h)
  names (Out n k f) = (λ h. h, λ h. h)
  names Beat = (λ h. tt, λ h. refl)
  names (Journal text) = (λ h. tt, λ h. refl)

  placed : (s : Told) (lines : List TraceLine) → Decides (through (step_1 t) s lines).places ((s.places ≡ true) × Each (NamesPlace t) lines)
  placed s [] = (λ h. (h, tt), λ h. h.0)
  placed s (l ∷ ls) =
      let d = placed (step_1 t s l) ls in (
        λ h. (let k = d.0 h in let p = and_parts s.places (names_place t l) k.0 in (p.0, ((names l).0 p.1, k.1))),
        λ h. d.1 (and_from s.places (names_place t l) h.0 ((names l).1 h.1.0), h.1.1),
      )

pub rule_1_is_decided : Rule1IsDecided
rule_1_is_decided t journal lines =
    let s : Told = through (step_1 t) (start_1 journal) lines in
    let left : Decides (is_used_up s.left) (journal_in lines ≡ journal) =
    subst (λ o. Decides (is_used_up o) (journal_in lines ≡ journal)) (sym (told_left t (start_1 journal) lines)) (matched journal_at journal lines) in
    Decides-like (verdict_1 s) (λ k. record { told = k.0; places = k.1.1 }) (λ k. (k.told, (refl, k.places)))
    (Decides-and (is_used_up s.left) s.places left (placed t (start_1 journal) lines))

-- ---- rule 4
module _ (p : ℕ) where
  left_arriving : (x : Left) (lines : List TraceLine) → (through (left_line p) x lines).arriving ≡ through (match_line (in_at (place_of p))) x.arriving lines
  left_arriving x [] = refl
  left_arriving x (l ∷ ls) = left_arriving (left_line p x l) ls

  left_leaving : (x : Left) (lines : List TraceLine) → (through (left_line p) x lines).leaving ≡ through (match_line (out_at (place_of p))) x.leaving lines
  left_leaving x [] = refl
  left_leaving x (l ∷ ls) = left_leaving (left_line p x l) ls

abbrev AreAt : (ℕ → List (List ℕ)) → (ℕ → List (List ℕ)) → List TraceLine → ℕ → Type 0
AreAt captures outputs lines p = (ins (place_of p) lines ≡ captures p) × (outs (place_of p) lines ≡ outputs p)

port_decided : (captures outputs : ℕ → List (List ℕ)) (lines : List TraceLine) (p : ℕ) (x : Left) → x ≡ through (left_line p) (start_4 captures outputs p) lines →
    Decides (is_used_up x.arriving && is_used_up x.leaving) (AreAt captures outputs lines p)
port_decided captures outputs lines p x e =
    Decides-and (is_used_up x.arriving) (is_used_up x.leaving)
    (subst (λ o. Decides (is_used_up o) (ins (place_of p) lines ≡ captures p)) (sym (ap (λ (y : Left). y.arriving) e ∙ left_arriving p (start_4 captures outputs p) lines)) (matched (in_at (place_of p)) (captures p) lines))
    (subst (λ o. Decides (is_used_up o) (outs (place_of p) lines ≡ outputs p)) (sym (ap (λ (y : Left). y.leaving) e ∙ left_leaving p (start_4 captures outputs p) lines)) (matched (out_at (place_of p)) (outputs p) lines))

pub rule_4_is_decided : Rule4IsDecided
rule_4_is_decided t captures outputs lines sized =
    let s : ℕ → Left = through (Rattle.exb_trace_spec.specs.TraceChecker.step_4) (start_4 captures outputs) lines in
    Decides-like (verdict_4 t s) (λ k. record { arrived = λ p out. (k p out).0; left = λ p out. (k p out).1 }) (λ k p out. (k.arrived p out, k.left p out))
    (external_decided t (λ p. is_used_up (s p).arriving && is_used_up (s p).leaving) (AreAt captures outputs lines) sized (λ p. port_decided captures outputs lines p (s p) (at_each left_line (start_4 captures outputs) lines p)))

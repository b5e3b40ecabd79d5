-- Frames are put at the end of the queue, one after another.
use Rattle.std.proofs.Common.{◌≡◌, ℕ, zero, suc, ◌+◌, ◌-◌, ◌<◌, ◌≤◌, ◌==◌, ◌++◌, List, [], ◌∷◌, length, drop, get_or, Some, append_assoc, append-nil, refl, ap, sym, ◌∙◌, arith, inl, inr}
use Rattle.std.proofs.lemmas.Bool.{cases_Bool}
use Rattle.std.proofs.lemmas.List.{drop_all}
use Rattle.exb_model.specs.FlatBridge.{Sent}
use Rattle.exb_world_spec.specs.Worlds.{Left, left_at}
use Rattle.exb_outbox.specs.declared.log.Left.{Left as Leaving}
use Rattle.exb_bridge.specs.BridgeWorlds.{all_left, copies_at, copies_of}
use Rattle.exb_net_spec.specs.declared.wires.End.{End}
use Rattle.exb_net_spec.specs.NetHistory.{Crossing, crosses}
use Rattle.exb_net.specs.declared.wired_ports.WiredPort.{WiredPort}
use Rattle.exb_net.specs.WiredPorts.{sent_over}
use Rattle.exb_net.proofs.WiredPorts.{next_item}

-- what is left of it leads to the whole
abbrev pub LeadsTo : List Crossing → List Crossing → List Crossing → List Crossing → Type 0
LeadsTo now rest old whole = now ++ rest ≡ old ++ whole

crosses_cons : (e : End) (x : Sent) (xs : List Sent) → crosses (Some e) (x ∷ xs) ≡ crosses (Some e) (x ∷ []) ++ crosses (Some e) xs
crosses_cons e x xs = refl

left_cons : (e : End) (q : ℕ) (x : Left) (xs : List Left) → crosses (Some e) (left_at q (x ∷ xs)) ≡ crosses (Some e) (left_at q (x ∷ [])) ++ crosses (Some e) (left_at q xs)
left_cons e q x xs = elim (cases_Bool (x.port == q)) [
  | inl k ↦ rw k refl
  | inr k ↦ rw k refl
]

-- ---- but for the first so many
module _ {A : Type 0} where
  none_dropped : (k : ℕ) (xs : List A) → drop k [] ++ xs ≡ xs
  none_dropped zero xs = refl
  none_dropped (suc k) xs = refl

  one_dropped : (k : ℕ) (x : A) (xs : List A) → drop k (x ∷ []) ++ drop (k - 1) xs ≡ drop k (x ∷ xs)
  one_dropped zero x xs = refl
  one_dropped (suc k) x xs = let e : suc k - 1 ≡ k = omega arith in none_dropped k (drop (suc k - 1) xs) ∙ ap (λ (j : ℕ). drop j xs) e

  parts_dropped : (k : ℕ) (xs ys : List A) → drop k xs ++ drop (k - length xs) ys ≡ drop k (xs ++ ys)
  parts_dropped k [] ys = let e : k - 0 ≡ k = omega arith in none_dropped k (drop (k - 0) ys) ∙ ap (λ (j : ℕ). drop j ys) e
  parts_dropped zero (x ∷ xs) ys = let e : 0 - length (x ∷ xs) ≡ 0 = omega arith in ap (λ (j : ℕ). (x ∷ xs) ++ drop j ys) e
  parts_dropped (suc k) (x ∷ xs) ys = let e : suc k - length (x ∷ xs) ≡ k - length xs = omega arith in ap (λ (j : ℕ). drop k xs ++ drop j ys) e ∙ parts_dropped k xs ys

over_parts : (e : End) (q : ℕ) (xs ys : List Left) → crosses (Some e) (left_at q (xs ++ ys)) ≡ crosses (Some e) (left_at q xs) ++ crosses (Some e) (left_at q ys)
over_parts e q [] ys = refl
over_parts e q (x ∷ xs) ys =
    left_cons e q x (xs ++ ys)
    ∙ ap (λ (zs : List Crossing). crosses (Some e) (left_at q (x ∷ [])) ++ zs) (over_parts e q xs ys)
    ∙ sym (append_assoc (crosses (Some e) (left_at q (x ∷ []))) (crosses (Some e) (left_at q xs)) (crosses (Some e) (left_at q ys)))
    ∙ ap (λ (zs : List Crossing). zs ++ crosses (Some e) (left_at q ys)) (sym (left_cons e q x xs))

module _ (old now next : List Crossing) (e : End) (q : ℕ) (whole : List Crossing) where
  -- one part more
  goes_over : (xs ys : List Left) → LeadsTo now (crosses (Some e) (left_at q (xs ++ ys))) old whole → next ≡ now ++ crosses (Some e) (left_at q xs) → LeadsTo next (crosses (Some e) (left_at q ys)) old whole
  goes_over xs ys leads put =
      ap (λ (zs : List Crossing). zs ++ crosses (Some e) (left_at q ys)) put
      ∙ append_assoc now (crosses (Some e) (left_at q xs)) (crosses (Some e) (left_at q ys))
      ∙ ap (λ (zs : List Crossing). now ++ zs) (sym (over_parts e q xs ys))
      ∙ leads

  -- one port more of a row
  pub one_port : (moment : ℕ) (bytes : List ℕ) (k j port : ℕ) (ports rest : List ℕ) → ports ≡ port ∷ rest → j ≡ k - 1 → LeadsTo now (crosses (Some e) (left_at q (drop k (copies_at moment bytes ports)))) old whole →
      next ≡ now ++ crosses (Some e) (left_at q (drop k (copies_at moment bytes (port ∷ [])))) → LeadsTo next (crosses (Some e) (left_at q (drop j (copies_at moment bytes rest)))) old whole
  one_port moment bytes k j port ports rest is less leads put =
      let copy : Left = record { port = port; moment = moment; bytes = bytes } in
      let split : drop k (copies_at moment bytes ports) ≡ drop k (copy ∷ []) ++ drop j (copies_at moment bytes rest) =
      ap (λ (qs : List ℕ). drop k (copies_at moment bytes qs)) is ∙ sym (one_dropped k copy (copies_at moment bytes rest)) ∙ ap (λ (i : ℕ). drop k (copy ∷ []) ++ drop i (copies_at moment bytes rest)) (sym less) in
      goes_over (drop k (copy ∷ [])) (drop j (copies_at moment bytes rest))
      (ap (λ (xs : List Left). now ++ crosses (Some e) (left_at q xs)) (sym split) ∙ leads) put

  -- one row more
  pub one_row : (left : List Leaving) (i k j : ℕ) (x : Leaving) → i < length left → x ≡ get_or left i x → j ≡ k - length (copies_of x) → LeadsTo now (crosses (Some e) (left_at q (drop k (all_left (drop i left))))) old whole →
      next ≡ now ++ crosses (Some e) (left_at q (drop k (copies_of x))) → LeadsTo next (crosses (Some e) (left_at q (drop j (all_left (drop (i + 1) left))))) old whole
  one_row left i k j x low is less leads put =
      let split : drop k (all_left (drop i left)) ≡ drop k (copies_of x) ++ drop j (all_left (drop (i + 1) left)) =
      ap (λ (xs : List Leaving). drop k (all_left xs)) (next_item left i x low is)
      ∙ sym (parts_dropped k (copies_of x) (all_left (drop (i + 1) left)))
      ∙ ap (λ (n : ℕ). drop k (copies_of x) ++ drop n (all_left (drop (i + 1) left))) (sym less) in
      goes_over (drop k (copies_of x)) (drop j (all_left (drop (i + 1) left)))
      (ap (λ (xs : List Left). now ++ crosses (Some e) (left_at q xs)) (sym split) ∙ leads) put

-- so many less are to be skipped
pub one_skipped : (moment : ℕ) (bytes : List ℕ) (k j port : ℕ) (ports rest : List ℕ) → ports ≡ port ∷ rest → j ≡ k - 1 → j - length (copies_at moment bytes rest) ≡ k - length (copies_at moment bytes ports)
one_skipped moment bytes k j port ports rest is less =
    let more : length (copies_at moment bytes ports) ≡ suc (length (copies_at moment bytes rest)) = ap (λ (qs : List ℕ). length (copies_at moment bytes qs)) is in
    omega (arith, more, less)

-- all are done
pub no_more : (now old whole : List Crossing) (e : End) (q k : ℕ) (xs : List Left) → xs ≡ [] → LeadsTo now (crosses (Some e) (left_at q (drop k xs))) old whole → now ≡ old ++ whole
no_more now old whole e q k xs none leads =
    sym (append-nil now) ∙ ap (λ (ys : List Crossing). now ++ ys) (sym (ap (λ (zs : List Left). crosses (Some e) (left_at q (drop k zs))) none ∙ nothing k)) ∙ leads
  where
    nothing : (j : ℕ) → crosses (Some e) (left_at q (drop j [])) ≡ []
    nothing zero = refl
    nothing (suc j) = refl

module _ (old now next : List Crossing) (left : List Left) (ends : List WiredPort) (k : ℕ) where
  pub one_end : (x : WiredPort) → k < length ends → x ≡ get_or ends k x → LeadsTo now (sent_over left (drop k ends)) old (sent_over left ends) → next ≡ now ++ crosses (Some x.far) (left_at x.port left) →
      LeadsTo next (sent_over left (drop (k + 1) ends)) old (sent_over left ends)
  one_end x low is leads put =
      ap (λ (zs : List Crossing). zs ++ sent_over left (drop (k + 1) ends)) put
      ∙ (append_assoc now (crosses (Some x.far) (left_at x.port left)) (sent_over left (drop (k + 1) ends))
      ∙ (ap (λ (zs : List WiredPort). now ++ sent_over left zs) (sym (next_item ends k x low is)) ∙ leads))

  pub all_ends : length ends ≤ k → LeadsTo now (sent_over left (drop k ends)) old (sent_over left ends) → now ≡ old ++ sent_over left ends
  all_ends end leads = sym (append-nil now) ∙ (ap (λ (zs : List WiredPort). now ++ sent_over left zs) (sym (drop_all k ends end)) ∙ leads)

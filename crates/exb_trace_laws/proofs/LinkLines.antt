-- The words on a direction of a link, beside the frames that went out and came in there.
use Rattle.std.proofs.Common.{◌≡◌, ℕ, zero, suc, ◌-◌, ◌<◌, ◌==◌, Bool, true, false, List, [], ◌∷◌, ◌++◌, append_assoc, append-nil, Some, None, refl, ap, sym, ◌∙◌, subst, arith, inl, inr}
use Rattle.std.proofs.lemmas.Bool.{cases_Bool}
use Rattle.exb_link.specs.declared.link_frame.LinkFrame.{LinkFrame}
use Rattle.exb_link.specs.LinkFrames.{is_control, leading, without_data, without_control}
use Rattle.exb_world_spec.specs.Steps.{first_data, control_at, rest_of}
use Rattle.exb_trace_spec.specs.Rule3Links.{data_of, WasSent}
use Rattle.exb_trace_laws.specs.TraceRelation.{bytes_of, EachControl, IsOnLink}
use Rattle.exb_trace_spec.proofs.Prefixes.{data_append, data_more, control_more, front_itself, sent_more, taken_more}

none_some : {x : LinkFrame} → None ≡ Some x → ⊥
none_some e = cc

some_same : {x y : LinkFrame} → Some x ≡ Some y → x ≡ y
some_same e = cc

both_ways : (b : Bool) → b ≡ true → b ≡ false → ⊥
both_ways b x y = cc

-- ---- each control word
pub each_weaker : (P Q : List (List ℕ) → List ℕ → Type 0) (d : List (List ℕ)) (ws : List LinkFrame) → ((e : List (List ℕ)) (f : List ℕ) → P e f → Q e f) → EachControl P d ws → EachControl Q d ws
each_weaker P Q d [] weaker all = tt
each_weaker P Q d (x ∷ xs) weaker all = (λ c. weaker d x.bytes (all.0 c), each_weaker P Q (d ++ data_of (x.bytes ∷ [])) xs weaker all.1)

bytes_append : (xs ys : List LinkFrame) → bytes_of (xs ++ ys) ≡ bytes_of xs ++ bytes_of ys
bytes_append [] ys = refl
bytes_append (x ∷ xs) ys = ap (λ zs. x.bytes ∷ zs) (bytes_append xs ys)

each_append : (P : List (List ℕ) → List ℕ → Type 0) (d : List (List ℕ)) (xs ys : List LinkFrame) → EachControl P d xs → EachControl P (d ++ data_of (bytes_of xs)) ys → EachControl P d (xs ++ ys)
each_append P d [] ys all more = subst (λ e. EachControl P e ys) (append-nil d) more
each_append P d (x ∷ xs) ys all more =
    let same : d ++ data_of (bytes_of (x ∷ xs)) ≡ (d ++ data_of (x.bytes ∷ [])) ++ data_of (bytes_of xs) =
    ap (λ zs. d ++ zs) (data_append (x.bytes ∷ []) (bytes_of xs)) ∙ sym (append_assoc d (data_of (x.bytes ∷ [])) (data_of (bytes_of xs)))
    in
    (all.0, each_append P (d ++ data_of (x.bytes ∷ [])) xs ys all.1 (subst (λ e. EachControl P e ys) same more))

-- words that are put behind all others
pushed : (sent : List (List ℕ)) (ys : List LinkFrame) → EachControl (WasSent (sent ++ bytes_of ys)) (data_of sent) ys
pushed sent [] = tt
pushed sent (y ∷ ys) =
    let next : List (List ℕ) = sent ++ y.bytes ∷ [] in
    let same : next ++ bytes_of ys ≡ sent ++ y.bytes ∷ bytes_of ys = append_assoc sent (y.bytes ∷ []) (bytes_of ys) in
    let more : EachControl (WasSent (sent ++ y.bytes ∷ bytes_of ys)) (data_of next) ys = subst (λ all. EachControl (WasSent all) (data_of next) ys) same (pushed next ys) in (
      λ c. record { before = sent; after = bytes_of ys; is = refl; all_in = front_itself (data_of sent) },
      subst (λ e. EachControl (WasSent (sent ++ y.bytes ∷ bytes_of ys)) e ys) (data_append sent (y.bytes ∷ [])) more,
    )

pub on_push : (sent taken : List (List ℕ)) (ws ys : List LinkFrame) → IsOnLink sent taken ws → IsOnLink (sent ++ bytes_of ys) taken (ws ++ ys)
on_push sent taken ws ys k =
    let all : List (List ℕ) = sent ++ bytes_of ys in
    record {
      frames =
          data_append sent (bytes_of ys) ∙ ap (λ zs. zs ++ data_of (bytes_of ys)) k.frames ∙ append_assoc (data_of taken) (data_of (bytes_of ws)) (data_of (bytes_of ys))
          ∙ ap (λ zs. data_of taken ++ zs) (sym (data_append (bytes_of ws) (bytes_of ys)) ∙ ap data_of (sym (bytes_append ws ys)));
      controls =
          each_append (WasSent all) (data_of taken) ws ys (each_weaker (WasSent sent) (WasSent all) (data_of taken) ws (λ e f. sent_more sent (bytes_of ys) e f) k.controls)
          (subst (λ e. EachControl (WasSent all) e ys) k.frames (pushed sent ys));
    }

-- ---- the first data word is taken
pub first_is_data : (ws : List LinkFrame) (x : LinkFrame) → first_data ws ≡ Some x → is_control x ≡ false
first_is_data [] x e = absurd (none_some e)
first_is_data (w ∷ ws) x e =
    elim (cases_Bool (is_control w)) [
      | inl c ↦ first_is_data ws x (rw c at e)
      | inr c ↦ let same : w ≡ x = some_same (rw c at e) in subst (λ (y : LinkFrame). is_control y ≡ false) same c
    ]

without_first : (ws : List LinkFrame) (x : LinkFrame) → first_data ws ≡ Some x → data_of (bytes_of ws) ≡ x.bytes ∷ data_of (bytes_of (without_data ws))
without_first [] x e = absurd (none_some e)
without_first (w ∷ ws) x e =
    elim (cases_Bool (is_control w)) [
      | inl c ↦ let f : first_data ws ≡ Some x = rw c at e in rw (c, c) (without_first ws x f)
      | inr c ↦ let same : w ≡ x = some_same (rw c at e) in rw c (ap (λ (y : LinkFrame). y.bytes ∷ data_of (bytes_of ws)) same)
    ]

same_after : (P : List (List ℕ) → List ℕ → Type 0) (d : List (List ℕ)) (w : LinkFrame) (ws : List LinkFrame) → is_control w ≡ true → EachControl P (d ++ data_of (w.bytes ∷ [])) ws → EachControl P d ws
same_after P d w ws c all = subst (λ e. EachControl P e ws) (append-nil d) (rw c at all)

more_after : (P : List (List ℕ) → List ℕ → Type 0) (d : List (List ℕ)) (w : LinkFrame) (ws : List LinkFrame) → is_control w ≡ true → EachControl P d ws → EachControl P (d ++ data_of (w.bytes ∷ [])) ws
more_after P d w ws c all = rw c (subst (λ e. EachControl P e ws) (sym (append-nil d)) all)

controls_without : (P : List (List ℕ) → List ℕ → Type 0) → ((d more : List (List ℕ)) (f : List ℕ) → P d f → P (d ++ more) f) → (d : List (List ℕ)) (ws : List LinkFrame) (x : LinkFrame) → first_data ws ≡ Some x →
    EachControl P d ws → EachControl P (d ++ x.bytes ∷ []) (without_data ws)
controls_without P wider d [] x e all = absurd (none_some e)
controls_without P wider d (w ∷ ws) x e all =
    elim (cases_Bool (is_control w)) [
      | inl c ↦
          let f : first_data ws ≡ Some x = rw c at e in
          let rest : EachControl P (d ++ x.bytes ∷ []) (without_data ws) = controls_without P wider d ws x f (same_after P d w ws c all.1) in
          let mine : EachControl P (d ++ x.bytes ∷ []) (w ∷ without_data ws) = (λ k. wider d (x.bytes ∷ []) w.bytes (all.0 k), more_after P (d ++ x.bytes ∷ []) w (without_data ws) c rest) in
          rw c mine
      | inr c ↦
          let same : w ≡ x = some_same (rw c at e) in
          let mine : EachControl P (d ++ w.bytes ∷ []) ws = rw c at all.1 in
          rw c (subst (λ (y : LinkFrame). EachControl P (d ++ y.bytes ∷ []) ws) same mine)
    ]

pub on_take : (sent taken : List (List ℕ)) (ws : List LinkFrame) (x : LinkFrame) → first_data ws ≡ Some x → IsOnLink sent taken ws → IsOnLink sent (taken ++ x.bytes ∷ []) (without_data ws)
on_take sent taken ws x e k =
    let more : data_of (taken ++ x.bytes ∷ []) ≡ data_of taken ++ x.bytes ∷ [] = data_more taken x.bytes (first_is_data ws x e) in
    record {
      frames =
          k.frames ∙ ap (λ zs. data_of taken ++ zs) (without_first ws x e) ∙ sym (append_assoc (data_of taken) (x.bytes ∷ []) (data_of (bytes_of (without_data ws)))) ∙ ap (λ zs. zs ++ data_of (bytes_of (without_data ws))) (sym more);
      controls =
          subst (λ d. EachControl (WasSent sent) d (without_data ws)) (sym more)
          (controls_without (WasSent sent) (λ d m f. taken_more sent d m f) (data_of taken) ws x e k.controls);
    }

-- ---- control words
pub at_is_control : (ws : List LinkFrame) (k : ℕ) (x : LinkFrame) → control_at ws k ≡ Some x → is_control x ≡ true
at_is_control [] k x e = absurd (none_some e)
at_is_control (w ∷ ws) zero x e =
    elim (cases_Bool (is_control w)) [
      | inl c ↦ let same : w ≡ x = some_same (rw c at e) in subst (λ (y : LinkFrame). is_control y ≡ true) same c
      | inr c ↦ at_is_control ws zero x (rw c at e)
    ]
at_is_control (w ∷ ws) (suc k) x e =
    elim (cases_Bool (is_control w)) [
      | inl c ↦ at_is_control ws k x (rw c at e)
      | inr c ↦ at_is_control ws (suc k) x (rw c at e)
    ]

data_without : (ws : List LinkFrame) (k : ℕ) → data_of (bytes_of (without_control ws k)) ≡ data_of (bytes_of ws)
data_without [] k = refl
data_without (w ∷ ws) k =
    elim (cases_Bool (is_control w)) [
      | inl c ↦ elim (cases_Bool (k == 0)) [ inl z ↦ rw (c, z) refl | inr z ↦ rw (c, z, c) (data_without ws (k - 1)) ]
      | inr c ↦ rw (c, c) (ap (λ zs. w.bytes ∷ zs) (data_without ws k))
    ]

each_without : (P : List (List ℕ) → List ℕ → Type 0) (d : List (List ℕ)) (ws : List LinkFrame) (k : ℕ) → EachControl P d ws → EachControl P d (without_control ws k)
each_without P d [] k all = tt
each_without P d (w ∷ ws) k all =
    elim (cases_Bool (is_control w)) [
      | inl c ↦ elim (cases_Bool (k == 0)) [
        | inl z ↦ rw (c, z) (same_after P d w ws c all.1)
        | inr z ↦
            let mine : EachControl P d (w ∷ without_control ws (k - 1)) = (all.0, each_without P (d ++ data_of (w.bytes ∷ [])) ws (k - 1) all.1) in
            rw (c, z) mine
      ]
      | inr c ↦
          let mine : EachControl P d (w ∷ without_control ws k) = (all.0, each_without P (d ++ data_of (w.bytes ∷ [])) ws k all.1) in
          rw c mine
    ]

pub on_lose : (sent taken : List (List ℕ)) (ws : List LinkFrame) (k : ℕ) → IsOnLink sent taken ws → IsOnLink sent taken (without_control ws k)
on_lose sent taken ws k l =
    record { frames = l.frames ∙ ap (λ zs. data_of taken ++ zs) (sym (data_without ws k)); controls = each_without (WasSent sent) (data_of taken) ws k l.controls }

-- it is delivered, and kept or not
pub on_control : (sent taken : List (List ℕ)) (ws : List LinkFrame) (k : ℕ) (keep : Bool) (x : LinkFrame) → control_at ws k ≡ Some x → IsOnLink sent taken ws → IsOnLink sent (taken ++ x.bytes ∷ []) (rest_of keep ws k)
on_control sent taken ws k keep x e l =
    let same : data_of (taken ++ x.bytes ∷ []) ≡ data_of taken = control_more taken x.bytes (at_is_control ws k x e) in
    let rest : IsOnLink sent taken (rest_of keep ws k) = by_keep keep in
    record {
      frames = rest.frames ∙ ap (λ zs. zs ++ data_of (bytes_of (rest_of keep ws k))) (sym same);
      controls = subst (λ d. EachControl (WasSent sent) d (rest_of keep ws k)) (sym same) rest.controls;
    }
  where
    by_keep : (b : Bool) → IsOnLink sent taken (rest_of b ws k)
    by_keep true = l
    by_keep false = on_lose sent taken ws k l

-- one with no data word before it was sent when all data words before it had come in
controls_at : (P : List (List ℕ) → List ℕ → Type 0) (d : List (List ℕ)) (ws : List LinkFrame) (k : ℕ) (x : LinkFrame) → k < leading ws → control_at ws k ≡ Some x → EachControl P d ws → P d x.bytes
controls_at P d [] k x l e all = absurd (none_some e)
controls_at P d (w ∷ ws) zero x l e all =
    elim (cases_Bool (is_control w)) [
      | inl c ↦ let same : w ≡ x = some_same (rw c at e) in subst (λ (y : LinkFrame). P d y.bytes) same (all.0 c)
      | inr c ↦ absurd (let z : 0 < 0 = rw c at l in omega (arith, z))
    ]
controls_at P d (w ∷ ws) (suc k) x l e all =
    elim (cases_Bool (is_control w)) [
      | inl c ↦
          let f : control_at ws k ≡ Some x = rw c at e in
          let m : suc k < suc (leading ws) = rw c at l in
          controls_at P d ws k x (omega arith) f (same_after P d w ws c all.1)
      | inr c ↦ absurd (let z : suc k < 0 = rw c at l in omega (arith, z))
    ]

pub was_sent : (sent taken : List (List ℕ)) (ws : List LinkFrame) (k : ℕ) (x : LinkFrame) → k < leading ws → control_at ws k ≡ Some x → IsOnLink sent taken ws → WasSent sent (data_of taken) x.bytes
was_sent sent taken ws k x l e on = controls_at (WasSent sent) (data_of taken) ws k x l e on.controls

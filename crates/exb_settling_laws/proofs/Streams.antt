-- How the words of one extender change on their way: what is moved from one link to the next keeps its place in the order.
use Rattle.std.proofs.Common.{◌≡◌, ◌≢◌, ◌⊎◌, inl, inr, ℕ, zero, suc, ◌≤◌, ◌<◌, true, List, [], ◌∷◌, ◌++◌, append_assoc, append-nil, length, refl, ap, sym, ◌∙◌, subst, arith}
use Rattle.std.proofs.lemmas.Bool.{cases_eq, cases_lt, lt-ltb, le-ltb}
use Rattle.exb_model.specs.Tree.{Shape, IsTree, device, on, is_extender, depth, path, up}
use Rattle.exb_model.proofs.TreeOrder.{less_deep}
use Rattle.exb_link.specs.declared.link_frame.LinkFrame.{LinkFrame}
use Rattle.exb_control_spec.specs.Plans.HeldNumbers.{Held}
use Rattle.exb_world_spec.proofs.Trunks.{hangs_there, above_there}
use Rattle.exb_settling_laws.specs.StopAndWait.{Message as Note}
use Rattle.exb_settling_laws.specs.Streams.{note_of, plain, is_of, notes_if, words_of, ups_of, downs_of}
use Rattle.exb_settling_laws.specs.SettlingFacts.{IsAbove}

up_some : (on : List ℕ) (d p : ℕ) → 0 < length (up on d p)
unfolding up
up_some on zero p = omega arith
up_some on (suc d) p = omega arith

pub depth_some : (t : Shape) (n : ℕ) → 0 < depth t n
unfolding path
depth_some t n = up_some t.on 64 (on t n)

module _ (t : Shape) (h : Held) (j : ℕ) where
  -- what a word is in the stream of extender j, on the link of m
  abbrev pub noted : ℕ → LinkFrame → List Note
  noted m x = notes_if (is_of t h j m x) (note_of (plain x.bytes))

  pub words_append : (m : ℕ) (xs ys : List LinkFrame) → words_of t h j m (xs ++ ys) ≡ words_of t h j m xs ++ words_of t h j m ys
  words_append m [] ys = refl
  words_append m (x ∷ xs) ys = ap (λ (v : List Note). noted m x ++ v) (words_append m xs ys) ∙ sym (append_assoc (noted m x) (words_of t h j m xs) (words_of t h j m ys))

  pub words_last : (m : ℕ) (xs : List LinkFrame) (x : LinkFrame) → words_of t h j m (xs ++ x ∷ []) ≡ words_of t h j m xs ++ noted m x
  words_last m xs x = words_append m xs (x ∷ []) ∙ ap (λ (v : List Note). words_of t h j m xs ++ v) (append-nil (noted m x))

  module _ (tree : IsTree t) where
    less : (m : ℕ) → is_extender t m ≡ true → 64 ≤ on t m → depth t (device (on t m)) < depth t m
    less m there deep = less_deep t tree m (on t m) (hangs_there t m there) deep

    pub above_depth : (d m k : ℕ) → is_extender t k ≡ true → IsAbove t d m k → depth t m ≤ depth t k
    above_depth zero m k there a = absurd a
    above_depth (suc d) m k there (inl e) = (let P : ℕ → Type 0 = λ z. depth t m ≤ depth t z in subst P e (omega arith))
    above_depth (suc d) m k there (inr a) = let p = above_depth d m (device (on t k)) (above_there t tree k there a.0) a.1 in let q = less k there a.0 in omega arith

    -- two ways of links agree where they agree on all links that aren't deeper
    module _ (f g : ℕ → List LinkFrame) where
      pub ups_same : (d k : ℕ) → is_extender t k ≡ true → ((m : ℕ) → depth t m ≤ depth t k → words_of t h j m (f m) ≡ words_of t h j m (g m)) → ups_of t h f j d k ≡ ups_of t h g j d k
      unfolding ups_of
      ups_same zero k there same = refl
      ups_same (suc d) k there same =
          elim (cases_lt (on t k) 64) [
            | inl low ↦ rw (lt-ltb (on t k) 64 low) (same k (omega arith))
            | inr deep ↦
                let q = less k there deep in
                let a : ups_of t h f j d (device (on t k)) ≡ ups_of t h g j d (device (on t k)) = ups_same d (device (on t k)) (above_there t tree k there deep) (λ m low. same m (omega arith)) in
                rw (le-ltb (on t k) 64 deep) (ap (λ (v : List Note). v ++ words_of t h j k (f k)) a ∙ ap (λ (v : List Note). ups_of t h g j d (device (on t k)) ++ v) (same k (omega arith)))
          ]

      pub downs_same : (d k : ℕ) → is_extender t k ≡ true → ((m : ℕ) → depth t m ≤ depth t k → words_of t h j m (f m) ≡ words_of t h j m (g m)) → downs_of t h f j d k ≡ downs_of t h g j d k
      unfolding downs_of
      downs_same zero k there same = refl
      downs_same (suc d) k there same =
          elim (cases_lt (on t k) 64) [
            | inl low ↦ rw (lt-ltb (on t k) 64 low) (ap (λ (v : List Note). v ++ []) (same k (omega arith)))
            | inr deep ↦
                let q = less k there deep in
                let a : downs_of t h f j d (device (on t k)) ≡ downs_of t h g j d (device (on t k)) = downs_same d (device (on t k)) (above_there t tree k there deep) (λ m low. same m (omega arith)) in
                rw (le-ltb (on t k) 64 deep) (ap (λ (v : List Note). v ++ downs_of t h f j d (device (on t k))) (same k (omega arith)) ∙ ap (λ (v : List Note). words_of t h j k (g k) ++ v) a)
          ]

    -- ---- a word is moved up
    -- from the link of m to that of the extender above it, where no other link changes in this stream
    pub record MovedUp (m : ℕ) (f g : ℕ → List LinkFrame) : Type 0 where
      pub there : is_extender t m ≡ true
      pub deep : 64 ≤ on t m
      pub note : List Note
      pub from : words_of t h j m (f m) ≡ note ++ words_of t h j m (g m)
      pub onto : words_of t h j (device (on t m)) (g (device (on t m))) ≡ words_of t h j (device (on t m)) (f (device (on t m))) ++ note
      pub others : (k : ℕ) → k ≢ m → k ≢ device (on t m) → words_of t h j k (g k) ≡ words_of t h j k (f k)

    shifted : (a b c d e x y : List Note) → y ≡ b ++ c → d ≡ c ++ e → (a ++ b) ++ d ≡ (a ++ y) ++ e
    shifted a b c d e x y p q =
        ap (λ (v : List Note). (a ++ b) ++ v) q ∙ sym (append_assoc (a ++ b) c e) ∙ ap (λ (v : List Note). v ++ e) (append_assoc a b c) ∙ ap (λ (v : List Note). (a ++ v) ++ e) (sym p)

    -- at the link itself, with fuel for the one above
    moved_here : (d m : ℕ) (f g : ℕ → List LinkFrame) → MovedUp m f g → ups_of t h f j (suc (suc d)) m ≡ ups_of t h g j (suc (suc d)) m
    unfolding ups_of
    moved_here d m f g s =
        let p : ℕ = device (on t m) in
        let p_there : is_extender t (device (on t m)) ≡ true = above_there t tree m s.there s.deep in
        let q = less m s.there s.deep in
        rw (le-ltb (on t m) 64 s.deep) (
        elim (cases_lt (on t (device (on t m))) 64) [
          | inl low ↦ rw (lt-ltb (on t (device (on t m))) 64 low) (shifted [] (words_of t h j p (f p)) s.note (words_of t h j m (f m)) (words_of t h j m (g m)) [] (words_of t h j p (g p)) s.onto s.from)
          | inr high ↦
              let r = less (device (on t m)) p_there high in
              let above : ups_of t h f j d (device (on t (device (on t m)))) ≡ ups_of t h g j d (device (on t (device (on t m)))) =
              ups_same f g d (device (on t (device (on t m)))) (above_there t tree (device (on t m)) p_there high)
              (λ k low. sym (s.others k (λ e. (let z : depth t k ≡ depth t m = ap (depth t) e in omega arith)) (λ e. (let z : depth t k ≡ depth t (device (on t m)) = ap (depth t) e in omega arith)))) in
              rw (le-ltb (on t (device (on t m))) 64 high) (
              ap (λ (v : List Note). (v ++ words_of t h j p (f p)) ++ words_of t h j m (f m)) above
              ∙ shifted (ups_of t h g j d (device (on t (device (on t m))))) (words_of t h j p (f p)) s.note (words_of t h j m (f m)) (words_of t h j m (g m)) [] (words_of t h j p (g p)) s.onto s.from)
        ])

    -- where the link is, or above
    moved_above : (d k m : ℕ) (f g : ℕ → List LinkFrame) → ((i : ℕ) → is_extender t i ≡ true → depth t i ≤ d → IsAbove t d m i → ups_of t h f j d i ≡ ups_of t h g j d i) →
        is_extender t k ≡ true → depth t k ≤ suc d → (m ≡ k) ⊎ ((64 ≤ on t k) × IsAbove t d m (device (on t k))) → (m ≡ k → ⊥) → MovedUp m f g → ups_of t h f j (suc d) k ≡ ups_of t h g j (suc d) k
    unfolding ups_of
    moved_above d k m f g ih there few (inl e) n s = absurd (n e)
    moved_above d k m f g ih there few (inr b) n s =
        let q = less k there b.0 in
        let r = less m s.there s.deep in
        let k_there : is_extender t (device (on t k)) ≡ true = above_there t tree k there b.0 in
        let low : depth t m ≤ depth t (device (on t k)) = above_depth d m (device (on t k)) k_there b.1 in
        let rest : ups_of t h f j d (device (on t k)) ≡ ups_of t h g j d (device (on t k)) = ih (device (on t k)) k_there (omega arith) b.1 in
        let own : words_of t h j k (g k) ≡ words_of t h j k (f k) = s.others k (λ e. n (sym e)) (λ e. (let z : depth t k ≡ depth t (device (on t m)) = ap (depth t) e in omega arith)) in
        rw (le-ltb (on t k) 64 b.0) (ap (λ (v : List Note). v ++ words_of t h j k (f k)) rest ∙ ap (λ (v : List Note). ups_of t h g j d (device (on t k)) ++ v) (sym own))

    moved_at : (d m : ℕ) (f g : ℕ → List LinkFrame) → MovedUp m f g → 1 ≤ d → ups_of t h f j (suc d) m ≡ ups_of t h g j (suc d) m
    moved_at zero m f g s l = absurd (omega arith)
    moved_at (suc d) m f g s l = moved_here d m f g s

    pub moved_up : (d k m : ℕ) (f g : ℕ → List LinkFrame) → is_extender t k ≡ true → depth t k ≤ d → IsAbove t d m k → MovedUp m f g → ups_of t h f j d k ≡ ups_of t h g j d k
    moved_up zero k m f g there few a s = absurd a
    moved_up (suc d) k m f g there few a s =
        elim (cases_eq m k) [
          | inl e ↦
              let z : depth t m ≡ depth t k = ap (depth t) e in
              let q = less m s.there s.deep in
              let o = depth_some t (device (on t m)) in
              let P : ℕ → Type 0 = λ i. ups_of t h f j (suc d) i ≡ ups_of t h g j (suc d) i in
              subst P e (moved_at d m f g s (omega arith))
          | inr e ↦ moved_above d k m f g (λ i i_there i_few i_above. moved_up d i m f g i_there i_few i_above s) there few a e s
        ]

    -- ---- a word comes to the bridge
    pub record TakenUp (m : ℕ) (f g : ℕ → List LinkFrame) : Type 0 where
      pub there : is_extender t m ≡ true
      pub low : on t m < 64
      pub note : List Note
      pub from : words_of t h j m (f m) ≡ note ++ words_of t h j m (g m)
      pub others : (k : ℕ) → k ≢ m → words_of t h j k (g k) ≡ words_of t h j k (f k)

    taken_at : (d m : ℕ) (f g : ℕ → List LinkFrame) → (s : TakenUp m f g) → ups_of t h f j (suc d) m ≡ s.note ++ ups_of t h g j (suc d) m
    unfolding ups_of
    taken_at d m f g s = rw (lt-ltb (on t m) 64 s.low) s.from

    taken_above : (d k m : ℕ) (f g : ℕ → List LinkFrame) (s : TakenUp m f g) → ((i : ℕ) → is_extender t i ≡ true → IsAbove t d m i → ups_of t h f j d i ≡ s.note ++ ups_of t h g j d i) →
        is_extender t k ≡ true → (m ≡ k) ⊎ ((64 ≤ on t k) × IsAbove t d m (device (on t k))) → (m ≡ k → ⊥) → ups_of t h f j (suc d) k ≡ s.note ++ ups_of t h g j (suc d) k
    unfolding ups_of
    taken_above d k m f g s ih there (inl e) n = absurd (n e)
    taken_above d k m f g s ih there (inr b) n =
        let k_there : is_extender t (device (on t k)) ≡ true = above_there t tree k there b.0 in
        let rest : ups_of t h f j d (device (on t k)) ≡ s.note ++ ups_of t h g j d (device (on t k)) = ih (device (on t k)) k_there b.1 in
        let own : words_of t h j k (g k) ≡ words_of t h j k (f k) = s.others k (λ e. n (sym e)) in
        rw (le-ltb (on t k) 64 b.0) (
        ap (λ (v : List Note). v ++ words_of t h j k (f k)) rest ∙ append_assoc s.note (ups_of t h g j d (device (on t k))) (words_of t h j k (f k))
        ∙ ap (λ (v : List Note). s.note ++ (ups_of t h g j d (device (on t k)) ++ v)) (sym own))

    pub taken_up : (d k m : ℕ) (f g : ℕ → List LinkFrame) → is_extender t k ≡ true → IsAbove t d m k → (s : TakenUp m f g) → ups_of t h f j d k ≡ s.note ++ ups_of t h g j d k
    taken_up zero k m f g there a s = absurd a
    taken_up (suc d) k m f g there a s =
        elim (cases_eq m k) [
          | inl e ↦ (let P : ℕ → Type 0 = λ i. ups_of t h f j (suc d) i ≡ s.note ++ ups_of t h g j (suc d) i in subst P e (taken_at d m f g s))
          | inr e ↦ taken_above d k m f g s (λ i i_there i_above. taken_up d i m f g i_there i_above s) there a e
        ]

    -- ---- a word goes down from the bridge: it is the last of its stream
    pub record PutDown (m : ℕ) (f g : ℕ → List LinkFrame) : Type 0 where
      pub there : is_extender t m ≡ true
      pub low : on t m < 64
      pub note : List Note
      pub onto : words_of t h j m (g m) ≡ words_of t h j m (f m) ++ note
      pub others : (k : ℕ) → k ≢ m → words_of t h j k (g k) ≡ words_of t h j k (f k)

    put_at : (d m : ℕ) (f g : ℕ → List LinkFrame) → (s : PutDown m f g) → downs_of t h g j (suc d) m ≡ downs_of t h f j (suc d) m ++ s.note
    unfolding downs_of
    put_at d m f g s = rw (lt-ltb (on t m) 64 s.low) (append-nil (words_of t h j m (g m)) ∙ s.onto ∙ ap (λ (v : List Note). v ++ s.note) (sym (append-nil (words_of t h j m (f m)))))

    put_above : (d k m : ℕ) (f g : ℕ → List LinkFrame) (s : PutDown m f g) → ((i : ℕ) → is_extender t i ≡ true → IsAbove t d m i → downs_of t h g j d i ≡ downs_of t h f j d i ++ s.note) →
        is_extender t k ≡ true → (m ≡ k) ⊎ ((64 ≤ on t k) × IsAbove t d m (device (on t k))) → (m ≡ k → ⊥) → downs_of t h g j (suc d) k ≡ downs_of t h f j (suc d) k ++ s.note
    unfolding downs_of
    put_above d k m f g s ih there (inl e) n = absurd (n e)
    put_above d k m f g s ih there (inr b) n =
        let k_there : is_extender t (device (on t k)) ≡ true = above_there t tree k there b.0 in
        let rest : downs_of t h g j d (device (on t k)) ≡ downs_of t h f j d (device (on t k)) ++ s.note = ih (device (on t k)) k_there b.1 in
        let own : words_of t h j k (g k) ≡ words_of t h j k (f k) = s.others k (λ e. n (sym e)) in
        rw (le-ltb (on t k) 64 b.0) (
        ap (λ (v : List Note). v ++ downs_of t h g j d (device (on t k))) own ∙ ap (λ (v : List Note). words_of t h j k (f k) ++ v) rest
        ∙ sym (append_assoc (words_of t h j k (f k)) (downs_of t h f j d (device (on t k))) s.note))

    pub put_down : (d k m : ℕ) (f g : ℕ → List LinkFrame) → is_extender t k ≡ true → IsAbove t d m k → (s : PutDown m f g) → downs_of t h g j d k ≡ downs_of t h f j d k ++ s.note
    put_down zero k m f g there a s = absurd a
    put_down (suc d) k m f g there a s =
        elim (cases_eq m k) [
          | inl e ↦ (let P : ℕ → Type 0 = λ i. downs_of t h g j (suc d) i ≡ downs_of t h f j (suc d) i ++ s.note in subst P e (put_at d m f g s))
          | inr e ↦ put_above d k m f g s (λ i i_there i_above. put_down d i m f g i_there i_above s) there a e
        ]

    -- ---- a word is moved down
    -- from the link of the extender above c to that of c
    pub record MovedDown (c : ℕ) (f g : ℕ → List LinkFrame) : Type 0 where
      pub there : is_extender t c ≡ true
      pub deep : 64 ≤ on t c
      pub note : List Note
      pub from : words_of t h j (device (on t c)) (f (device (on t c))) ≡ note ++ words_of t h j (device (on t c)) (g (device (on t c)))
      pub onto : words_of t h j c (g c) ≡ words_of t h j c (f c) ++ note
      pub others : (k : ℕ) → k ≢ c → k ≢ device (on t c) → words_of t h j k (g k) ≡ words_of t h j k (f k)

    sunk_here : (d c : ℕ) (f g : ℕ → List LinkFrame) → MovedDown c f g → downs_of t h f j (suc (suc d)) c ≡ downs_of t h g j (suc (suc d)) c
    unfolding downs_of
    sunk_here d c f g s =
        let p : ℕ = device (on t c) in
        let p_there : is_extender t (device (on t c)) ≡ true = above_there t tree c s.there s.deep in
        let q = less c s.there s.deep in
        rw (le-ltb (on t c) 64 s.deep) (
        elim (cases_lt (on t (device (on t c))) 64) [
          | inl low ↦ rw (lt-ltb (on t (device (on t c))) 64 low) (joined (words_of t h j c (f c)) s.note (words_of t h j p (g p)) [] (words_of t h j p (f p)) (words_of t h j c (g c)) s.from s.onto)
          | inr high ↦
              let r = less (device (on t c)) p_there high in
              let above : downs_of t h f j d (device (on t (device (on t c)))) ≡ downs_of t h g j d (device (on t (device (on t c)))) =
              downs_same f g d (device (on t (device (on t c)))) (above_there t tree (device (on t c)) p_there high)
              (λ k low. sym (s.others k (λ e. (let z : depth t k ≡ depth t c = ap (depth t) e in omega arith)) (λ e. (let z : depth t k ≡ depth t (device (on t c)) = ap (depth t) e in omega arith)))) in
              rw (le-ltb (on t (device (on t c))) 64 high) (
              ap (λ (v : List Note). words_of t h j c (f c) ++ (words_of t h j p (f p) ++ v)) above
              ∙ joined (words_of t h j c (f c)) s.note (words_of t h j p (g p)) (downs_of t h g j d (device (on t (device (on t c))))) (words_of t h j p (f p)) (words_of t h j c (g c)) s.from s.onto)
        ])
      where
        joined : (a n b e x y : List Note) → x ≡ n ++ b → y ≡ a ++ n → a ++ (x ++ e) ≡ y ++ (b ++ e)
        joined a n b e x y u v =
            ap (λ (z : List Note). a ++ (z ++ e)) u ∙ ap (λ (z : List Note). a ++ z) (append_assoc n b e) ∙ sym (append_assoc a n (b ++ e)) ∙ ap (λ (z : List Note). z ++ (b ++ e)) (sym v)

    sunk_above : (d k c : ℕ) (f g : ℕ → List LinkFrame) → ((i : ℕ) → is_extender t i ≡ true → depth t i ≤ d → IsAbove t d c i → downs_of t h f j d i ≡ downs_of t h g j d i) →
        is_extender t k ≡ true → depth t k ≤ suc d → (c ≡ k) ⊎ ((64 ≤ on t k) × IsAbove t d c (device (on t k))) → (c ≡ k → ⊥) → MovedDown c f g → downs_of t h f j (suc d) k ≡ downs_of t h g j (suc d) k
    unfolding downs_of
    sunk_above d k c f g ih there few (inl e) n s = absurd (n e)
    sunk_above d k c f g ih there few (inr b) n s =
        let q = less k there b.0 in
        let r = less c s.there s.deep in
        let k_there : is_extender t (device (on t k)) ≡ true = above_there t tree k there b.0 in
        let low : depth t c ≤ depth t (device (on t k)) = above_depth d c (device (on t k)) k_there b.1 in
        let rest : downs_of t h f j d (device (on t k)) ≡ downs_of t h g j d (device (on t k)) = ih (device (on t k)) k_there (omega arith) b.1 in
        let own : words_of t h j k (g k) ≡ words_of t h j k (f k) = s.others k (λ e. n (sym e)) (λ e. (let z : depth t k ≡ depth t (device (on t c)) = ap (depth t) e in omega arith)) in
        rw (le-ltb (on t k) 64 b.0) (ap (λ (v : List Note). words_of t h j k (f k) ++ v) rest ∙ ap (λ (v : List Note). v ++ downs_of t h g j d (device (on t k))) (sym own))

    sunk_at : (d c : ℕ) (f g : ℕ → List LinkFrame) → MovedDown c f g → 1 ≤ d → downs_of t h f j (suc d) c ≡ downs_of t h g j (suc d) c
    sunk_at zero c f g s l = absurd (omega arith)
    sunk_at (suc d) c f g s l = sunk_here d c f g s

    pub moved_down : (d k c : ℕ) (f g : ℕ → List LinkFrame) → is_extender t k ≡ true → depth t k ≤ d → IsAbove t d c k → MovedDown c f g → downs_of t h f j d k ≡ downs_of t h g j d k
    moved_down zero k c f g there few a s = absurd a
    moved_down (suc d) k c f g there few a s =
        elim (cases_eq c k) [
          | inl e ↦
              let z : depth t c ≡ depth t k = ap (depth t) e in
              let q = less c s.there s.deep in
              let o = depth_some t (device (on t c)) in
              let P : ℕ → Type 0 = λ i. downs_of t h f j (suc d) i ≡ downs_of t h g j (suc d) i in
              subst P e (sunk_at d c f g s (omega arith))
          | inr e ↦ sunk_above d k c f g (λ i i_there i_few i_above. moved_down d i c f g i_there i_few i_above s) there few a e s
        ]

    -- ---- a word comes to its extender
    pub record TakenDown (f g : ℕ → List LinkFrame) : Type 0 where
      pub note : List Note
      pub from : words_of t h j j (f j) ≡ note ++ words_of t h j j (g j)
      pub others : (k : ℕ) → k ≢ j → words_of t h j k (g k) ≡ words_of t h j k (f k)

    pub taken_down : (d : ℕ) (f g : ℕ → List LinkFrame) → is_extender t j ≡ true → (s : TakenDown f g) → downs_of t h f j (suc d) j ≡ s.note ++ downs_of t h g j (suc d) j
    unfolding downs_of
    taken_down d f g there s =
        elim (cases_lt (on t j) 64) [
          | inl low ↦ rw (lt-ltb (on t j) 64 low) (ap (λ (v : List Note). v ++ []) s.from ∙ append_assoc s.note (words_of t h j j (g j)) [])
          | inr deep ↦
              let q = less j there deep in
              let above : downs_of t h f j d (device (on t j)) ≡ downs_of t h g j d (device (on t j)) =
              downs_same f g d (device (on t j)) (above_there t tree j there deep) (λ k low. sym (s.others k (λ e. (let z : depth t k ≡ depth t j = ap (depth t) e in omega arith)))) in
              rw (le-ltb (on t j) 64 deep) (
              ap (λ (v : List Note). v ++ downs_of t h f j d (device (on t j))) s.from ∙ append_assoc s.note (words_of t h j j (g j)) (downs_of t h f j d (device (on t j)))
              ∙ ap (λ (v : List Note). s.note ++ (words_of t h j j (g j) ++ v)) above)
        ]

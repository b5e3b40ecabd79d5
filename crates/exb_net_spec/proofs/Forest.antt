-- Wires without a loop: from each bridge on, each other bridge has a depth, and at most one wire to a lesser one.
use Rattle.std.proofs.Common.{◌≡◌, ◌≢◌, ◌⊎◌, ℕ, suc, ◌+◌, ◌≤◌, ◌==◌, ◌&&◌, ◌||◌, ◌++◌, Bool, true, false, cond, List, [], ◌∷◌, Option, Some, None, refl, ap, sym, ◌∙◌, subst, arith, inl, inr}
use Rattle.std.specs.List.{list_any}
use Rattle.std.proofs.lemmas.Bool.{cases_Bool, cases_eq, eq-eqb, ne_eqb, eqb-true, and_parts}
use Rattle.std.proofs.lemmas.List.{append_assoc, append-nil}
use Rattle.exb_net_spec.specs.declared.wires.End.{End}
use Rattle.exb_net_spec.specs.declared.wires.Wire.{Wire}
use Rattle.exb_net_spec.specs.Nets.{across, far_end, first_or, is_at, is_between, AreJoined, HaveNoLoop, Leads}

-- ---- walks
pub any_more : (p : Wire → Bool) (xs ys : List Wire) → list_any p xs ≡ true → list_any p (xs ++ ys) ≡ true
any_more p [] ys e = absurd (let z : false ≡ true = e in cc)
any_more p (x ∷ xs) ys e =
    elim (cases_Bool (p x)) [
      | inl k ↦ rw k refl
      | inr k ↦ rw k (any_more p xs ys (rw k at e))
    ]

pub any_last : (p : Wire → Bool) (xs : List Wire) (x : Wire) → p x ≡ true → list_any p (xs ++ x ∷ []) ≡ true
any_last p [] x e = rw e refl
any_last p (y ∷ xs) x e =
    elim (cases_Bool (p y)) [
      | inl k ↦ rw k refl
      | inr k ↦ rw k (any_last p xs x e)
    ]

leads_more : (xs ys : List Wire) (by : List ℕ) (b c : ℕ) → Leads xs b by c → Leads (xs ++ ys) b by c
leads_more xs ys [] b c k = k
leads_more xs ys (d ∷ by) b c k = (any_more (is_between b d) xs ys k.0, leads_more xs ys by d c k.1)

pub joined_more : (xs ys : List Wire) (b c : ℕ) → AreJoined xs b c → AreJoined (xs ++ ys) b c
joined_more xs ys b c k = (k.0, leads_more xs ys k.0 b c k.1)

leads_then : (xs : List Wire) (by : List ℕ) (b c e : ℕ) → Leads xs b by c → AreJoined xs c e → AreJoined xs b e
leads_then xs [] b c e k j = subst (λ (z : ℕ). AreJoined xs z e) (sym k) j
leads_then xs (d ∷ by) b c e k j = (let r = leads_then xs by d c e k.1 j in (d ∷ r.0, (k.0, r.1)))

pub joined_then : (xs : List Wire) (b c e : ℕ) → AreJoined xs b c → AreJoined xs c e → AreJoined xs b e
joined_then xs b c e k j = leads_then xs k.0 b c e k.1 j

pub joined_on : (xs : List Wire) (x : Wire) → AreJoined (xs ++ x ∷ []) x.a.bridge x.b.bridge
joined_on xs x = (x.b.bridge ∷ [], (any_last (is_between x.a.bridge x.b.bridge) xs x (rw (eq-eqb x.a.bridge x.a.bridge refl, eq-eqb x.b.bridge x.b.bridge refl) refl), refl))

or_true : (c : Bool) → (c || true) ≡ true
or_true true = refl
or_true false = refl

pub joined_back : (xs : List Wire) (x : Wire) → AreJoined (xs ++ x ∷ []) x.b.bridge x.a.bridge
joined_back xs x = (
  x.a.bridge ∷ [],
  (any_last (is_between x.b.bridge x.a.bridge) xs x (rw (eq-eqb x.a.bridge x.a.bridge refl, eq-eqb x.b.bridge x.b.bridge refl) (or_true (x.a.bridge == x.b.bridge && x.b.bridge == x.a.bridge))), refl),
)

-- ---- the last wire
pub some_same : {A : Type 0} {x y : A} → Some x ≡ Some y → x ≡ y
some_same e = cc

pub none_some : {A : Type 0} {x : A} → None ≡ Some x → ⊥
none_some e = cc

-- it leads from an end to the other
abbrev pub IsOn : End → End → ℕ → ℕ → End → Type 0
IsOn x y b q e = (b ≡ x.bridge) × (q ≡ x.port) × (e ≡ y)

pub at_is : (x : End) (b q : ℕ) → is_at x b q ≡ true → (x.bridge ≡ b) × (x.port ≡ q)
at_is x b q e = (let k = and_parts (x.bridge == b) (x.port == q) e in (eqb-true x.bridge b k.0, eqb-true x.port q k.1))

pub across_on : (x : Wire) (b q : ℕ) (e : End) → across x b q ≡ Some e → IsOn x.a x.b b q e ⊎ IsOn x.b x.a b q e
across_on x b q e k =
    elim (cases_Bool (is_at x.a b q)) [
      | inl z ↦ (let i = at_is x.a b q z in inl (sym i.0, sym i.1, sym (some_same (rw z at k))))
      | inr z ↦ elim (cases_Bool (is_at x.b b q)) [
        | inl y ↦ (let i = at_is x.b b q y in inr (sym i.0, sym i.1, sym (some_same (rw (z, y) at k))))
        | inr y ↦ absurd (none_some (rw (z, y) at k))
      ]
    ]

over_last : (ws : List Wire) (x : Wire) (b q : ℕ) (e : End) → far_end (ws ++ x ∷ []) b q ≡ Some e → (far_end ws b q ≡ Some e) ⊎ (IsOn x.a x.b b q e ⊎ IsOn x.b x.a b q e)
unfolding far_end
over_last [] x b q e k = inr (across_on x b q e (by_option (across x b q) k))
  where
    by_option : (o : Option End) → first_or o None ≡ Some e → o ≡ Some e
    by_option (Some y) z = z
    by_option None z = z
over_last (w ∷ ws) x b q e k = by_option (across w b q) k (λ z. over_last ws x b q e z)
  where
    by_option : (o : Option End) → first_or o (far_end (ws ++ x ∷ []) b q) ≡ Some e → (far_end (ws ++ x ∷ []) b q ≡ Some e → (far_end ws b q ≡ Some e) ⊎ (IsOn x.a x.b b q e ⊎ IsOn x.b x.a b q e)) →
        (first_or o (far_end ws b q) ≡ Some e) ⊎ (IsOn x.a x.b b q e ⊎ IsOn x.b x.a b q e)
    by_option (Some y) z rest = inl z
    by_option None z rest = rest z

-- ---- labels and depths
-- Wires join bridges with the same label, and only such are joined.
pub record AreLabelled (ws : List Wire) : Type 0 where
  pub label : ℕ → ℕ
  pub same : (b q : ℕ) (e : End) → far_end ws b q ≡ Some e → label b ≡ label e.bridge
  pub joins : (b c : ℕ) → label b ≡ label c → AreJoined ws b c

-- From r on a wire leads one deeper or one less deep; and whoever comes deeper over a wire comes to the one port that leads less deep.
pub record IsRooted (ws : List Wire) (r : ℕ) : Type 0 where
  pub depth : ℕ → ℕ
  pub most : ℕ
  pub low : (b : ℕ) → depth b ≤ most
  pub root : depth r ≡ 0
  pub step : (b q : ℕ) (e : End) → far_end ws b q ≡ Some e → (depth e.bridge ≡ suc (depth b)) ⊎ (depth b ≡ suc (depth e.bridge))
  pub back : (c q : ℕ) (e : End) → far_end ws c q ≡ Some e → depth e.bridge ≡ suc (depth c) → (p : ℕ) (f : End) → far_end ws e.bridge p ≡ Some f → depth e.bridge ≡ suc (depth f.bridge) → p ≡ e.port

pub record IsForest (ws : List Wire) : Type 0 where
  pub labelled : AreLabelled ws
  pub rooted : (r : ℕ) → IsRooted ws r

-- ---- one wire more: what hangs at its low end goes below its top
module _ (ws : List Wire) (x : Wire) (L : AreLabelled ws) (top low : End) (on : (b q : ℕ) (e : End) → (IsOn x.a x.b b q e ⊎ IsOn x.b x.a b q e) → IsOn top low b q e ⊎ IsOn low top b q e)
    (apart : L.label top.bridge ≢ L.label low.bridge) (r : ℕ) (away : L.label r ≢ L.label low.bridge) (R : IsRooted ws r) (S : IsRooted ws low.bridge) where
  deep : ℕ → ℕ
  deep b = cond (L.label b == L.label low.bridge) (suc (R.depth top.bridge) + S.depth b) (R.depth b)

  inside : (b : ℕ) → L.label b ≡ L.label low.bridge → deep b ≡ suc (R.depth top.bridge) + S.depth b
  unfolding deep
  inside b e = ap (λ (c : Bool). cond c (suc (R.depth top.bridge) + S.depth b) (R.depth b)) (eq-eqb (L.label b) (L.label low.bridge) e)

  outside : (b : ℕ) → L.label b ≢ L.label low.bridge → deep b ≡ R.depth b
  unfolding deep
  outside b e = ap (λ (c : Bool). cond c (suc (R.depth top.bridge) + S.depth b) (R.depth b)) (ne_eqb (L.label b) (L.label low.bridge) e)

  at_low : deep low.bridge ≡ suc (deep top.bridge)
  at_low = let a = inside low.bridge refl in let b = outside top.bridge apart in let z = S.root in omega (arith, a, b, z)

  -- over a wire that was there
  old_step : (b q : ℕ) (e : End) → far_end ws b q ≡ Some e → (deep e.bridge ≡ suc (deep b)) ⊎ (deep b ≡ suc (deep e.bridge))
  old_step b q e k =
      elim (cases_eq (L.label b) (L.label low.bridge)) [
        | inl same ↦
            let i = inside b same in
            let j = inside e.bridge (sym (L.same b q e k) ∙ same) in
            elim (S.step b q e k) [ inl d ↦ inl (omega (arith, i, j, d)) | inr d ↦ inr (omega (arith, i, j, d)) ]
        | inr other ↦
            let i = outside b other in
            let j = outside e.bridge (λ z. other (L.same b q e k ∙ z)) in
            elim (R.step b q e k) [ inl d ↦ inl (omega (arith, i, j, d)) | inr d ↦ inr (omega (arith, i, j, d)) ]
      ]

  -- no wire that was there leads up from the low end
  low_root : (b q : ℕ) (e : End) → far_end ws b q ≡ Some e → b ≡ low.bridge → deep b ≡ suc (deep e.bridge) → ⊥
  low_root b q e k is up =
      let same : L.label b ≡ L.label low.bridge = ap L.label is in
      let i = inside b same in
      let j = inside e.bridge (sym (L.same b q e k) ∙ same) in
      let z : S.depth b ≡ 0 = ap S.depth is ∙ S.root in
      omega (arith, i, j, z, up)

  hung : IsRooted (ws ++ x ∷ []) r
  hung =
      record {
        depth = deep;
        most = suc (R.most + S.most);
        low = λ b. elim (cases_eq (L.label b) (L.label low.bridge)) [
          | inl same ↦ (let i = inside b same in let j = R.low top.bridge in let k = S.low b in omega (arith, i, j, k))
          | inr other ↦ (let i = outside b other in let j = R.low b in omega (arith, i, j))
        ];
        root = outside r away ∙ R.root;
        step = λ b q e k. elim (over_last ws x b q e k) [
          | inl old ↦ old_step b q e old
          | inr z ↦ elim (on b q e z) [
            | inl y ↦ inl (ap (λ (f : End). deep f.bridge) y.2 ∙ (at_low ∙ ap (λ (m : ℕ). suc (deep m)) (sym y.0)))
            | inr y ↦ inr (ap deep y.0 ∙ (at_low ∙ ap (λ (f : End). suc (deep f.bridge)) (sym y.2)))
          ]
        ];
        back = λ c q e k down p f m up. elim (over_last ws x c q e k) [
          | inl old ↦ elim (over_last ws x e.bridge p f m) [
            | inl older ↦ both_old c q e old down p f older up
            | inr z ↦ elim (on e.bridge p f z) [
              | inl y ↦ absurd (above e.bridge f y.0 y.2 up)
              | inr y ↦ absurd (old_root c q e old y.0 down)
            ]
          ]
          | inr z ↦ elim (on c q e z) [
            | inr y ↦ absurd (let a = at_low in let i = ap deep y.0 in let j = ap (λ (g : End). deep g.bridge) y.2 in omega (arith, a, i, j, down))
            | inl y ↦ elim (over_last ws x e.bridge p f m) [
              | inl older ↦ absurd (low_root e.bridge p f older (ap (λ (g : End). g.bridge) y.2) up)
              | inr v ↦ elim (on e.bridge p f v) [
                | inl u ↦ absurd (above e.bridge f u.0 u.2 up)
                | inr u ↦ u.1 ∙ ap (λ (g : End). g.port) (sym y.2)
              ]
            ]
          ]
        ];
      }
    where
      above : (b : ℕ) (f : End) → b ≡ top.bridge → f ≡ low → deep b ≡ suc (deep f.bridge) → ⊥
      above b f is it up = let a = at_low in let i = ap deep is in let j = ap (λ (g : End). deep g.bridge) it in omega (arith, a, i, j, up)

      -- nothing that was there leads deeper to the low end
      old_root : (c q : ℕ) (e : End) → far_end ws c q ≡ Some e → e.bridge ≡ low.bridge → deep e.bridge ≡ suc (deep c) → ⊥
      old_root c q e old is down =
          let same : L.label e.bridge ≡ L.label low.bridge = ap L.label is in
          let i = inside e.bridge same in
          let j = inside c (L.same c q e old ∙ same) in
          let z : S.depth e.bridge ≡ 0 = ap S.depth is ∙ S.root in
          omega (arith, i, j, z, down)

      both_old : (c q : ℕ) (e : End) → far_end ws c q ≡ Some e → deep e.bridge ≡ suc (deep c) → (p : ℕ) (f : End) → far_end ws e.bridge p ≡ Some f → deep e.bridge ≡ suc (deep f.bridge) → p ≡ e.port
      both_old c q e old down p f older up =
          elim (cases_eq (L.label e.bridge) (L.label low.bridge)) [
            | inl same ↦
                let i = inside e.bridge same in
                let j = inside c (L.same c q e old ∙ same) in
                let h = inside f.bridge (sym (L.same e.bridge p f older) ∙ same) in
                S.back c q e old (omega (arith, i, j, down)) p f older (omega (arith, i, h, up))
            | inr other ↦
                let i = outside e.bridge other in
                let j = outside c (λ z. other (sym (L.same c q e old) ∙ z)) in
                let h = outside f.bridge (λ z. other (L.same e.bridge p f older ∙ z)) in
                R.back c q e old (omega (arith, i, j, down)) p f older (omega (arith, i, h, up))
          ]

swap : {A B : Type 0} → A ⊎ B → B ⊎ A
swap (inl a) = inr a
swap (inr b) = inl b

-- ---- the labels with one wire more
module _ (ws : List Wire) (x : Wire) (L : AreLabelled ws) where
  name : ℕ → ℕ
  name b = cond (L.label b == L.label x.b.bridge) (L.label x.a.bridge) (L.label b)

  name_in : (b : ℕ) → L.label b ≡ L.label x.b.bridge → name b ≡ L.label x.a.bridge
  unfolding name
  name_in b e = ap (λ (c : Bool). cond c (L.label x.a.bridge) (L.label b)) (eq-eqb (L.label b) (L.label x.b.bridge) e)

  name_out : (b : ℕ) → L.label b ≢ L.label x.b.bridge → name b ≡ L.label b
  unfolding name
  name_out b e = ap (λ (c : Bool). cond c (L.label x.a.bridge) (L.label b)) (ne_eqb (L.label b) (L.label x.b.bridge) e)

  name_like : (b c : ℕ) → L.label b ≡ L.label c → name b ≡ name c
  unfolding name
  name_like b c e = ap (λ (l : ℕ). cond (l == L.label x.b.bridge) (L.label x.a.bridge) l) e

  name_a : name x.a.bridge ≡ L.label x.a.bridge
  name_a = elim (cases_eq (L.label x.a.bridge) (L.label x.b.bridge)) [ inl e ↦ name_in x.a.bridge e | inr e ↦ name_out x.a.bridge e ]

  over_x : name x.a.bridge ≡ name x.b.bridge
  over_x = name_a ∙ sym (name_in x.b.bridge refl)

  more : (b c : ℕ) → L.label b ≡ L.label c → AreJoined (ws ++ x ∷ []) b c
  more b c e = joined_more ws (x ∷ []) b c (L.joins b c e)

  joins_all : (b c : ℕ) → name b ≡ name c → AreJoined (ws ++ x ∷ []) b c
  joins_all b c e =
      let all : List Wire = ws ++ x ∷ [] in
      elim (cases_eq (L.label b) (L.label x.b.bridge)) [
        | inl i ↦ elim (cases_eq (L.label c) (L.label x.b.bridge)) [
          | inl j ↦ more b c (i ∙ sym j)
          | inr j ↦
              let is : L.label x.a.bridge ≡ L.label c = sym (name_in b i) ∙ (e ∙ name_out c j) in
              joined_then all b x.b.bridge c (more b x.b.bridge i) (joined_then all x.b.bridge x.a.bridge c (joined_back ws x) (more x.a.bridge c is))
        ]
        | inr i ↦ elim (cases_eq (L.label c) (L.label x.b.bridge)) [
          | inl j ↦
              let is : L.label b ≡ L.label x.a.bridge = sym (name_out b i) ∙ (e ∙ name_in c j) in
              joined_then all b x.a.bridge c (more b x.a.bridge is) (joined_then all x.a.bridge x.b.bridge c (joined_on ws x) (more x.b.bridge c (sym j)))
          | inr j ↦ more b c (sym (name_out b i) ∙ (e ∙ name_out c j))
        ]
      ]

  labelled : AreLabelled (ws ++ x ∷ [])
  labelled =
      record {
        label = name;
        same = λ b q e k. elim (over_last ws x b q e k) [
          | inl old ↦ name_like b e.bridge (L.same b q e old)
          | inr (inl y) ↦ ap name y.0 ∙ (over_x ∙ ap (λ (f : End). name f.bridge) (sym y.2))
          | inr (inr y) ↦ ap name y.0 ∙ (sym over_x ∙ ap (λ (f : End). name f.bridge) (sym y.2))
        ];
        joins = joins_all;
      }

grows : (ws : List Wire) (x : Wire) → IsForest ws → (AreJoined ws x.a.bridge x.b.bridge → ⊥) → IsForest (ws ++ x ∷ [])
grows ws x F not =
    let L = F.labelled in
    let apart : L.label x.a.bridge ≢ L.label x.b.bridge = λ e. not (L.joins x.a.bridge x.b.bridge e) in
    record {
      labelled = labelled ws x L;
      rooted = λ r. elim (cases_eq (L.label r) (L.label x.b.bridge)) [
        | inr other ↦ hung ws x L x.a x.b (λ b q e z. z) apart r other (F.rooted r) (F.rooted x.b.bridge)
        | inl same ↦ hung ws x L x.b x.a (λ b q e z. swap z) (λ e. apart (sym e)) r (λ e. apart (sym e ∙ same)) (F.rooted r) (F.rooted x.a.bridge)
      ];
    }

none_wired : IsForest []
unfolding far_end
none_wired =
    record {
      labelled = record { label = λ b. b; same = λ b q e k. absurd (none_some k); joins = λ b c e. ([], e) };
      rooted = λ r. record { depth = λ b. 0; most = 0; low = λ b. omega arith; root = refl; step = λ b q e k. absurd (none_some k); back = λ c q e k down p f m up. absurd (none_some k) };
    }

all_grow : (before ws : List Wire) → IsForest before → HaveNoLoop before ws → IsForest (before ++ ws)
all_grow before [] F none = subst IsForest (sym (append-nil before)) F
all_grow before (x ∷ ws) F none = subst IsForest (append_assoc before (x ∷ []) ws) (all_grow (before ++ x ∷ []) ws (grows before x F none.0) none.1)

pub forest : (ws : List Wire) → HaveNoLoop [] ws → IsForest ws
forest ws none = all_grow [] ws none_wired none

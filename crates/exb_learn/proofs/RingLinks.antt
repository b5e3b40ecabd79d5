-- Rings, as nodes are put and taken.
use Rattle.std.proofs.Common.{◌≡◌, ◌≢◌, ◌≤◌, ◌<◌, ℕ, suc, ◌+◌, cond, eq-eqb, refl, sym, ap, subst, ◌∙◌, arith, inl, inr, zero, ◌⊎◌}
use Rattle.std.proofs.lemmas.Bool.{ne_eqb}
use Rattle.std.proofs.lemmas.Bool.Decides.{eqb_tells, leb_tells}
use Rattle.exb_learn.specs.RingLinks.{put, Links, taken, placed, IsRings, IsRinged}

pub put_here : (f : ℕ → ℕ) (i v x : ℕ) → x ≡ i → put f i v x ≡ v
put_here f i v x e = ap (λ b. cond b v (f x)) (eq-eqb x i e)

pub put_other : (f : ℕ → ℕ) (i v x : ℕ) → x ≢ i → put f i v x ≡ f x
put_other f i v x e = ap (λ b. cond b v (f x)) (ne_eqb x i e)

-- ---- a node is taken out
module _ (inside : ℕ → Type 0) (heads : ℕ) (l : Links) (home key rank : ℕ → ℕ) (r : IsRings inside heads l home key rank) where
  -- no node but a head stands behind itself
  pub not_itself : (x : ℕ) → inside x → heads ≤ x → l.prev x ≢ x
  not_itself x h slot e =
      let up = r.rises x h slot (subst (λ y. heads ≤ y) (sym e) slot) in
      let less : rank x < rank x = subst (λ y. rank y < rank x) e up.0 in
      omega (arith, less)

  pub not_next : (x : ℕ) → inside x → heads ≤ x → l.next x ≢ x
  not_next x h slot e = not_itself x h slot (sym (ap l.prev e) ∙ r.forth x h)

  pub take_out : (x : ℕ) → inside x → heads ≤ x → IsRings (λ y. inside y × (y ≢ x)) heads (taken l x) home key rank
  take_out x h slot = record {
    head = λ y below. (((r.head y below).0, (λ (e : y ≡ x). omega (arith, e, slot, below))), (r.head y below).1);
    next_in = λ y i. elim (eqb_tells y p) [
      | inl e ↦ subst (λ z. inside z × (z ≢ x)) (sym (put_here l.next p q y e.1)) (r.next_in x h, not_next x h slot)
      | inr n ↦ subst (λ z. inside z × (z ≢ x)) (sym (put_other l.next p q y n.1)) (r.next_in y i.0, (λ (e : l.next y ≡ x). n.1 (sym (r.forth y i.0) ∙ ap l.prev e)))
    ];
    prev_in = λ y i. elim (eqb_tells y q) [
      | inl e ↦ subst (λ z. inside z × (z ≢ x)) (sym (put_here l.prev q p y e.1)) (r.prev_in x h, not_itself x h slot)
      | inr n ↦ subst (λ z. inside z × (z ≢ x)) (sym (put_other l.prev q p y n.1)) (r.prev_in y i.0, (λ (e : l.prev y ≡ x). n.1 (sym (r.back y i.0) ∙ ap l.next e)))
    ];
    forth = λ y i. elim (eqb_tells y p) [
      | inl e ↦ ap (put l.prev q p) (put_here l.next p q y e.1) ∙ put_here l.prev q p q refl ∙ sym e.1
      | inr n ↦ ap (put l.prev q p) (put_other l.next p q y n.1)
          ∙ put_other l.prev q p (l.next y) (λ (e : l.next y ≡ q). i.1 (sym (r.forth y i.0) ∙ ap l.prev e ∙ r.forth x h)) ∙ r.forth y i.0
    ];
    back = λ y i. elim (eqb_tells y q) [
      | inl e ↦ ap (put l.next p q) (put_here l.prev q p y e.1) ∙ put_here l.next p q p refl ∙ sym e.1
      | inr n ↦ ap (put l.next p q) (put_other l.prev q p y n.1)
          ∙ put_other l.next p q (l.prev y) (λ (e : l.prev y ≡ p). i.1 (sym (r.back y i.0) ∙ ap l.next e ∙ r.back x h)) ∙ r.back y i.0
    ];
    one_home = λ y i. elim (eqb_tells y q) [
      | inl e ↦ ap home (put_here l.prev q p y e.1) ∙ r.one_home x h ∙ sym (ap home (r.forth x h)) ∙ r.one_home q (r.next_in x h) ∙ ap home (sym e.1)
      | inr n ↦ ap home (put_other l.prev q p y n.1) ∙ r.one_home y i.0
    ];
    rises = λ y i a b. elim (eqb_tells y q) [
      | inl e ↦ subst (λ z. (rank z < rank y) × (key z ≤ key y)) (sym (put_here l.prev q p y e.1))
          (let under = r.rises x h slot (subst (λ z. heads ≤ z) (put_here l.prev q p y e.1) b) in
          let over = subst (λ z. (rank z < rank q) × (key z ≤ key q)) (r.forth x h) (r.rises q (r.next_in x h) (subst (λ z. heads ≤ z) e.1 a) (subst (λ z. heads ≤ z) (sym (r.forth x h)) slot)) in
          subst (λ z. (rank p < rank z) × (key p ≤ key z)) (sym e.1) (omega (arith, under, over), omega (arith, under, over)))
      | inr n ↦ subst (λ z. (rank z < rank y) × (key z ≤ key y)) (sym (put_other l.prev q p y n.1)) (r.rises y i.0 a (subst (λ z. heads ≤ z) (put_other l.prev q p y n.1) b))
    ];
  }
    where
      p : ℕ
      p = l.prev x

      q : ℕ
      q = l.next x

-- ---- a node is put in before another
-- what is new: node x goes before b, and all others stay as they are
pub record IsPlaced (inside within : ℕ → Type 0) (heads : ℕ) (l : Links) (home key rank new_home new_key new_rank : ℕ → ℕ) (b x : ℕ) : Type 0 where
  pub slot : heads ≤ x
  pub fresh : (y : ℕ) → inside y → y ≢ x
  pub ahead : inside b
  pub ways : (y : ℕ) → within y → inside y ⊎ (y ≡ x)
  pub kept : (y : ℕ) → inside y → within y
  pub this : within x
  pub same_home : (y : ℕ) → inside y → new_home y ≡ home y
  pub same_key : (y : ℕ) → inside y → new_key y ≡ key y
  pub same_rank : (y : ℕ) → inside y → new_rank y ≡ rank y
  pub home_is : new_home x ≡ home b
  pub above : heads ≤ l.prev b → (rank (l.prev b) < new_rank x) × (key (l.prev b) ≤ new_key x)
  pub below : heads ≤ b → (new_rank x < rank b) × (new_key x ≤ key b)

pub put_before : (inside within : ℕ → Type 0) (heads : ℕ) (l : Links) (home key rank new_home new_key new_rank : ℕ → ℕ) (b x : ℕ) →
    IsRings inside heads l home key rank → IsPlaced inside within heads l home key rank new_home new_key new_rank b x →
    IsRings within heads (placed l b x) new_home new_key new_rank
put_before inside within heads l home key rank new_home new_key new_rank b x r w = record {
  head = λ y under. (w.kept y (r.head y under).0, w.same_home y (r.head y under).0 ∙ (r.head y under).1);
  next_in = λ y i. elim (w.ways y i) [
    | inl old ↦ elim (eqb_tells y p) [
      | inl e ↦ subst within (sym (next_p y e.1)) w.this
      | inr n ↦ subst within (sym (next_old y old n.1)) (w.kept (l.next y) (r.next_in y old))
    ]
    | inr e ↦ subst within (sym (next_x y e)) (w.kept b w.ahead)
  ];
  prev_in = λ y i. elim (w.ways y i) [
    | inl old ↦ elim (eqb_tells y b) [
      | inl e ↦ subst within (sym (prev_b y e.1)) w.this
      | inr n ↦ subst within (sym (prev_old y old n.1)) (w.kept (l.prev y) (r.prev_in y old))
    ]
    | inr e ↦ subst within (sym (prev_x y e)) (w.kept p p_in)
  ];
  forth = λ y i. elim (w.ways y i) [
    | inl old ↦ elim (eqb_tells y p) [
      | inl e ↦ ap prev (next_p y e.1) ∙ prev_x x refl ∙ sym e.1
      | inr n ↦ ap prev (next_old y old n.1)
          ∙ prev_old (l.next y) (r.next_in y old) (λ (e : l.next y ≡ b). n.1 (sym (r.forth y old) ∙ ap l.prev e)) ∙ r.forth y old
    ]
    | inr e ↦ ap prev (next_x y e) ∙ prev_b b refl ∙ sym e
  ];
  back = λ y i. elim (w.ways y i) [
    | inl old ↦ elim (eqb_tells y b) [
      | inl e ↦ ap next (prev_b y e.1) ∙ next_x x refl ∙ sym e.1
      | inr n ↦ ap next (prev_old y old n.1)
          ∙ next_old (l.prev y) (r.prev_in y old) (λ (e : l.prev y ≡ p). n.1 (sym (r.back y old) ∙ ap l.next e ∙ r.back b w.ahead)) ∙ r.back y old
    ]
    | inr e ↦ ap next (prev_x y e) ∙ next_p p refl ∙ sym e
  ];
  one_home = λ y i. elim (w.ways y i) [
    | inl old ↦ elim (eqb_tells y b) [
      | inl e ↦ ap new_home (prev_b y e.1) ∙ w.home_is ∙ sym (w.same_home b w.ahead) ∙ ap new_home (sym e.1)
      | inr n ↦ ap new_home (prev_old y old n.1) ∙ w.same_home (l.prev y) (r.prev_in y old) ∙ r.one_home y old ∙ sym (w.same_home y old)
    ]
    | inr e ↦ ap new_home (prev_x y e) ∙ w.same_home p p_in ∙ r.one_home b w.ahead ∙ sym w.home_is ∙ ap new_home (sym e)
  ];
  rises = λ y i slot over. elim (w.ways y i) [
    | inl old ↦ elim (eqb_tells y b) [
      | inl e ↦
          let gap = w.below (subst (λ z. heads ≤ z) e.1 slot) in
          let same_rank = w.same_rank b w.ahead in
          let same_key = w.same_key b w.ahead in
          let both : (new_rank x < new_rank b) × (new_key x ≤ new_key b) = (omega (arith, gap, same_rank), omega (arith, gap, same_key)) in
          subst (λ z. (new_rank z < new_rank y) × (new_key z ≤ new_key y)) (sym (prev_b y e.1))
          (subst (λ z. (new_rank x < new_rank z) × (new_key x ≤ new_key z)) (sym e.1) both)
      | inr n ↦
          let before = l.prev y in
          let gap = r.rises y old slot (subst (λ z. heads ≤ z) (prev_old y old n.1) over) in
          let ra = w.same_rank y old in
          let rb = w.same_rank before (r.prev_in y old) in
          let ka = w.same_key y old in
          let kb = w.same_key before (r.prev_in y old) in
          let both : (new_rank before < new_rank y) × (new_key before ≤ new_key y) = (omega (arith, gap, ra, rb), omega (arith, gap, ka, kb)) in
          subst (λ z. (new_rank z < new_rank y) × (new_key z ≤ new_key y)) (sym (prev_old y old n.1)) both
    ]
    | inr e ↦
        let gap = w.above (subst (λ z. heads ≤ z) (prev_x y e) over) in
        let rb = w.same_rank p p_in in
        let kb = w.same_key p p_in in
        let both : (new_rank p < new_rank x) × (new_key p ≤ new_key x) = (omega (arith, gap, rb), omega (arith, gap, kb)) in
        subst (λ z. (new_rank z < new_rank y) × (new_key z ≤ new_key y)) (sym (prev_x y e))
        (subst (λ z. (new_rank p < new_rank z) × (new_key p ≤ new_key z)) (sym e) both)
  ];
}
  where
    p : ℕ
    p = l.prev b

    p_in : inside p
    p_in = r.prev_in b w.ahead

    next : ℕ → ℕ
    next = (placed l b x).next

    prev : ℕ → ℕ
    prev = (placed l b x).prev

    next_x : (y : ℕ) → y ≡ x → next y ≡ b
    next_x y e = put_here (put l.next p x) x b y e

    next_p : (y : ℕ) → y ≡ p → next y ≡ x
    next_p y e = put_other (put l.next p x) x b y (subst (λ z. z ≢ x) (sym e) (w.fresh p p_in)) ∙ put_here l.next p x y e

    next_old : (y : ℕ) → inside y → y ≢ p → next y ≡ l.next y
    next_old y i n = put_other (put l.next p x) x b y (w.fresh y i) ∙ put_other l.next p x y n

    prev_x : (y : ℕ) → y ≡ x → prev y ≡ p
    prev_x y e = put_other (put l.prev x p) b x y (λ (f : y ≡ b). w.fresh b w.ahead (sym f ∙ e)) ∙ put_here l.prev x p y e

    prev_b : (y : ℕ) → y ≡ b → prev y ≡ x
    prev_b y e = put_here (put l.prev x p) b x y e

    prev_old : (y : ℕ) → inside y → y ≢ b → prev y ≡ l.prev y
    prev_old y i n = put_other (put l.prev x p) b x y n ∙ put_other l.prev x p y (w.fresh y i)

-- ---- the first of a ring
pub record IsFirst (heads : ℕ) (l : Links) (home key : ℕ → ℕ) (h x : ℕ) : Type 0 where
  pub not_head : l.next h ≢ h
  pub least : key (l.next h) ≤ key x

-- a ring with a slot has a first slot, whose key is the least
pub has_first : (inside : ℕ → Type 0) (heads : ℕ) (l : Links) (home key rank : ℕ → ℕ) → IsRings inside heads l home key rank →
    (x : ℕ) → inside x → heads ≤ x → IsFirst heads l home key (home x) x
has_first inside heads l home key rank r x i slot = reach (suc (rank x)) x i slot (omega arith)
  where
    reach : (n x : ℕ) → inside x → heads ≤ x → rank x < n → IsFirst heads l home key (home x) x
    reach zero x i slot less = absurd (omega (arith, less))
    reach (suc n) x i slot less = elim (leb_tells heads (l.prev x)) [
      | inl h ↦
          let gap = r.rises x i slot h.1 in
          let p_in = r.prev_in x i in
          let first = reach n (l.prev x) p_in h.1 (omega (arith, gap, less)) in
          let least = first.least in
          let more : key (l.next (home (l.prev x))) ≤ key x = omega (arith, gap, least) in
          subst (λ h. IsFirst heads l home key h x) (r.one_home x i) (record { not_head = first.not_head; least = more })
      | inr h ↦
          let under : l.prev x < heads = omega (arith, h.1) in
          let here : home x ≡ l.prev x = sym (r.one_home x i) ∙ (r.head (l.prev x) under).1 in
          let this : l.next (l.prev x) ≡ x = r.back x i in
          subst (λ h. IsFirst heads l home key h x) (sym here) (record {
            not_head = λ (e : l.next (l.prev x) ≡ l.prev x). (let same : x ≡ l.prev x = sym this ∙ e in omega (arith, same, under, slot));
            least = subst (λ y. key y ≤ key x) (sym this) (omega arith);
          })
    ]

-- what stands behind a head, and isn't that head, is a slot of its ring
pub first_is : (inside : ℕ → Type 0) (heads : ℕ) (l : Links) (home key rank : ℕ → ℕ) → IsRings inside heads l home key rank →
    (h : ℕ) → h < heads → l.next h ≢ h → inside (l.next h) × (heads ≤ l.next h) × (home (l.next h) ≡ h)
first_is inside heads l home key rank r h under other =
    let i = (r.head h under).0 in
    let its : home (l.next h) ≡ h = sym (r.one_home (l.next h) (r.next_in h i)) ∙ ap home (r.forth h i) ∙ (r.head h under).1 in (
      r.next_in h i,
      elim (leb_tells heads (l.next h)) [
        | inl e ↦ e.1
        | inr e ↦ absurd (other (sym (r.head (l.next h) (omega (arith, e.1))).1 ∙ its))
      ],
      its,
    )

-- ---- rings with the slots 0 to n - 1
pub nothing_ringed : (heads : ℕ) (home key : ℕ → ℕ) → ((x : ℕ) → x < heads → home x ≡ x) → IsRinged heads 0 (record { next = λ x. x; prev = λ x. x }) home key
nothing_ringed heads home key own = record {
  rank = λ x. 0;
  top = 1;
  below = λ x h. omega arith;
  rings = record {
    head = λ x h. (omega (arith, h), own x h);
    next_in = λ x h. h;
    prev_in = λ x h. h;
    forth = λ x h. refl;
    back = λ x h. refl;
    one_home = λ x h. refl;
    rises = λ x h a b. absurd (omega (arith, h, a));
  };
}

-- the same rings, where home and key are the same at all nodes
pub ringed_alike : (heads n : ℕ) (l : Links) (home key new_home new_key : ℕ → ℕ) → IsRinged heads n l home key →
    ((x : ℕ) → x < heads + n → new_home x ≡ home x) → ((x : ℕ) → x < heads + n → new_key x ≡ key x) → IsRinged heads n l new_home new_key
ringed_alike heads n l home key new_home new_key r homes keys = record {
  rank = r.rank;
  top = r.top;
  below = r.below;
  rings = record {
    head = λ x h. ((r.rings.head x h).0, homes x (omega (arith, h)) ∙ (r.rings.head x h).1);
    next_in = r.rings.next_in;
    prev_in = r.rings.prev_in;
    forth = r.rings.forth;
    back = r.rings.back;
    one_home = λ x h. homes (l.prev x) (r.rings.prev_in x h) ∙ r.rings.one_home x h ∙ sym (homes x h);
    rises = λ x h a b.
        let gap = r.rings.rises x h a b in
        let over = keys x h in
        let under = keys (l.prev x) (r.rings.prev_in x h) in
        (gap.0, omega (arith, gap, over, under));
  };
}

-- slot n is put behind all others of ring h
pub ringed_more : (heads n : ℕ) (l : Links) (home key new_home new_key : ℕ → ℕ) (h : ℕ) → IsRinged heads n l home key → h < heads →
    ((x : ℕ) → x < heads + n → new_home x ≡ home x) → ((x : ℕ) → x < heads + n → new_key x ≡ key x) →
    new_home (heads + n) ≡ h → ((x : ℕ) → x < heads + n → heads ≤ x → key x ≤ new_key (heads + n)) →
    IsRinged heads (suc n) (placed l h (heads + n)) new_home new_key
ringed_more heads n l home key new_home new_key h r under homes keys its most = record {
  rank = put r.rank (heads + n) r.top;
  top = suc r.top;
  below = λ x less. elim (eqb_tells x (heads + n)) [
    | inl e ↦ let is = put_here r.rank (heads + n) r.top x e.1 in omega (arith, is)
    | inr e ↦ let is = put_other r.rank (heads + n) r.top x e.1 in let old = r.below x (omega (arith, less, e.1)) in omega (arith, is, old)
  ];
  rings = put_before (λ x. x < heads + n) (λ x. x < heads + suc n) heads l home key r.rank new_home new_key (put r.rank (heads + n) r.top) h (heads + n) r.rings (record {
    slot = omega arith;
    fresh = λ y i. (λ (e : y ≡ heads + n). omega (arith, i, e));
    ahead = omega (arith, under);
    ways = λ y i. elim (eqb_tells y (heads + n)) [ inl e ↦ inr e.1 | inr e ↦ inl (omega (arith, i, e.1)) ];
    kept = λ y i. omega (arith, i);
    this = omega arith;
    same_home = homes;
    same_key = keys;
    same_rank = λ y i. put_other r.rank (heads + n) r.top y (λ (e : y ≡ heads + n). omega (arith, i, e));
    home_is = its ∙ sym (r.rings.head h under).1;
    above = λ slot.
        let p_in = r.rings.prev_in h (omega (arith, under)) in
        let is = put_here r.rank (heads + n) r.top (heads + n) refl in
        let low = r.below (l.prev h) p_in in
        (omega (arith, is, low), most (l.prev h) p_in slot);
    below = λ over. absurd (omega (arith, over, under));
  });
}

-- a slot goes behind all others of ring h
pub ringed_moved : (heads n : ℕ) (l : Links) (home key new_home new_key : ℕ → ℕ) (h x : ℕ) → IsRinged heads n l home key → h < heads → heads ≤ x → x < heads + n →
    ((y : ℕ) → y < heads + n → y ≢ x → new_home y ≡ home y) → ((y : ℕ) → y < heads + n → y ≢ x → new_key y ≡ key y) →
    new_home x ≡ h → ((y : ℕ) → y < heads + n → heads ≤ y → key y ≤ new_key x) →
    IsRinged heads n (placed (taken l x) h x) new_home new_key
ringed_moved heads n l home key new_home new_key h x r under slot there homes keys its most = record {
  rank = put r.rank x r.top;
  top = suc r.top;
  below = λ y less. elim (eqb_tells y x) [
    | inl e ↦ let is = put_here r.rank x r.top y e.1 in omega (arith, is)
    | inr e ↦ let is = put_other r.rank x r.top y e.1 in let old = r.below y less in omega (arith, is, old)
  ];
  rings = put_before (λ y. (y < heads + n) × (y ≢ x)) (λ y. y < heads + n) heads (taken l x) home key r.rank new_home new_key (put r.rank x r.top) h x out (record {
    slot = slot;
    fresh = λ y i. i.1;
    ahead = (out.head h under).0;
    ways = λ y i. elim (eqb_tells y x) [ inl e ↦ inr e.1 | inr e ↦ inl (i, e.1) ];
    kept = λ y i. i.0;
    this = there;
    same_home = λ y i. homes y i.0 i.1;
    same_key = λ y i. keys y i.0 i.1;
    same_rank = λ y i. put_other r.rank x r.top y i.1;
    home_is = its ∙ sym (r.rings.head h under).1;
    above = λ slot.
        let p_in = (out.prev_in h (out.head h under).0).0 in
        let is = put_here r.rank x r.top x refl in
        let low = r.below ((taken l x).prev h) p_in in
        (omega (arith, is, low), most ((taken l x).prev h) p_in slot);
    below = λ over. absurd (omega (arith, over, under));
  });
}
  where
    out : IsRings (λ y. (y < heads + n) × (y ≢ x)) heads (taken l x) home key r.rank
    out = take_out (λ y. y < heads + n) heads l home key r.rank r.rings x there slot

-- the last slot is taken out
pub ringed_less : (heads n : ℕ) (l : Links) (home key new_home new_key : ℕ → ℕ) → IsRinged heads (suc n) l home key →
    ((x : ℕ) → x < heads + n → new_home x ≡ home x) → ((x : ℕ) → x < heads + n → new_key x ≡ key x) →
    IsRinged heads n (taken l (heads + n)) new_home new_key
ringed_less heads n l home key new_home new_key r homes keys =
    ringed_alike heads n (taken l (heads + n)) home key new_home new_key (record {
      rank = r.rank;
      top = r.top;
      below = λ x h. r.below x (omega (arith, h));
      rings = record {
        head = λ x h. (omega (arith, h), (out.head x h).1);
        next_in = λ x h. inward ((taken l (heads + n)).next x) (out.next_in x (outward x h));
        prev_in = λ x h. inward ((taken l (heads + n)).prev x) (out.prev_in x (outward x h));
        forth = λ x h. out.forth x (outward x h);
        back = λ x h. out.back x (outward x h);
        one_home = λ x h. out.one_home x (outward x h);
        rises = λ x h. out.rises x (outward x h);
      };
    }) homes keys
  where
    out : IsRings (λ y. (y < heads + suc n) × (y ≢ heads + n)) heads (taken l (heads + n)) home key r.rank
    out = take_out (λ y. y < heads + suc n) heads l home key r.rank r.rings (heads + n) (omega arith) (omega arith)

    outward : (x : ℕ) → x < heads + n → (x < heads + suc n) × (x ≢ heads + n)
    outward x h = (omega (arith, h), (λ (e : x ≡ heads + n). omega (arith, h, e)))

    inward : (x : ℕ) → (x < heads + suc n) × (x ≢ heads + n) → x < heads + n
    inward x h = let less = h.0 in let other = h.1 in omega (arith, less, other)

-- another slot is taken out, and the last one gets its number
pub ringed_swapped : (heads n : ℕ) (l : Links) (home key new_home new_key : ℕ → ℕ) (x : ℕ) → IsRinged heads (suc n) l home key → heads ≤ x → x < heads + n →
    ((z : ℕ) → z < heads + n → z ≢ x → new_home z ≡ home z) → ((z : ℕ) → z < heads + n → z ≢ x → new_key z ≡ key z) →
    new_home x ≡ home (heads + n) → new_key x ≡ key (heads + n) →
    IsRinged heads n (placed (taken (taken l x) (heads + n)) ((taken l x).next (heads + n)) x) new_home new_key
ringed_swapped heads n l home key new_home new_key x r slot there homes keys its_home its_key = record {
  rank = put r.rank x (r.rank y);
  top = r.top;
  below = λ z less. elim (eqb_tells z x) [
    | inl e ↦ let is = put_here r.rank x (r.rank y) z e.1 in let old = r.below y (omega arith) in omega (arith, is, old)
    | inr e ↦ let is = put_other r.rank x (r.rank y) z e.1 in let old = r.below z (omega (arith, less)) in omega (arith, is, old)
  ];
  rings = put_before (λ z. ((z < heads + suc n) × (z ≢ x)) × (z ≢ y)) (λ z. z < heads + n) heads (taken one y) home key r.rank new_home new_key (put r.rank x (r.rank y)) b x both (record {
    slot = slot;
    fresh = λ z i. i.0.1;
    ahead = (b_in, not_next (λ z. (z < heads + suc n) × (z ≢ x)) heads one home key r.rank first y y_in (omega arith));
    ways = λ z i. elim (eqb_tells z x) [ inl e ↦ inr e.1 | inr e ↦ inl ((omega (arith, i), e.1), (λ (f : z ≡ y). omega (arith, i, f))) ];
    kept = λ z i. (let less = i.0.0 in let other = i.1 in omega (arith, less, other));
    this = there;
    same_home = λ z i. homes z (let less = i.0.0 in let other = i.1 in omega (arith, less, other)) i.0.1;
    same_key = λ z i. keys z (let less = i.0.0 in let other = i.1 in omega (arith, less, other)) i.0.1;
    same_rank = λ z i. put_other r.rank x (r.rank y) z i.0.1;
    home_is = its_home ∙ sym (ap home (first.forth y y_in)) ∙ first.one_home b b_in;
    above = λ over.
        let is = put_here one.prev b (one.prev y) b refl in
        let gap = first.rises y y_in (omega arith) (subst (λ z. heads ≤ z) is over) in
        let mine = put_here r.rank x (r.rank y) x refl in
        subst (λ z. (r.rank z < put r.rank x (r.rank y) x) × (key z ≤ new_key x)) (sym is) (omega (arith, gap, mine), omega (arith, gap, its_key));
    below = λ over.
        let is = first.forth y y_in in
        let gap = subst (λ z. (r.rank z < r.rank b) × (key z ≤ key b)) is (first.rises b b_in over (subst (λ z. heads ≤ z) (sym is) (omega arith))) in
        let mine = put_here r.rank x (r.rank y) x refl in
        (omega (arith, gap, mine), omega (arith, gap, its_key));
  });
}
  where
    y : ℕ
    y = heads + n

    one : Links
    one = taken l x

    b : ℕ
    b = one.next y

    first : IsRings (λ z. (z < heads + suc n) × (z ≢ x)) heads one home key r.rank
    first = take_out (λ z. z < heads + suc n) heads l home key r.rank r.rings x (omega (arith, there)) slot

    y_in : (y < heads + suc n) × (y ≢ x)
    y_in = (omega arith, (λ (e : y ≡ x). omega (arith, e, there)))

    b_in : (b < heads + suc n) × (b ≢ x)
    b_in = first.next_in y y_in

    both : IsRings (λ z. ((z < heads + suc n) × (z ≢ x)) × (z ≢ y)) heads (taken one y) home key r.rank
    both = take_out (λ z. (z < heads + suc n) × (z ≢ x)) heads one home key r.rank first y y_in (omega arith)

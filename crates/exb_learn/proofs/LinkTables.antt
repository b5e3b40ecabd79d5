-- Links in a table, as it is written and grows.
use Rattle.std.proofs.Common.{◌≡◌, ◌≤◌, ◌<◌, ℕ, suc, sym, ap, subst, ◌∙◌, arith, inl, inr, List, [], ◌∷◌, ◌++◌, length, length-append, get_or, slice_get, Option}
use Rattle.std.specs.Option.{option_map_or}
use Rattle.std.proofs.lemmas.Bool.Decides.{eqb_tells, leb_tells}
use Rattle.std.proofs.lemmas.Option.{slice_get_past, slice_get-get_or}
use Rattle.exb_learn.specs.declared.rings.RingLink.{RingLink}
use Rattle.exb_learn.specs.RingLinks.{put, Links, next_in, prev_in, in_table, taken, placed, IsClosed}
use Rattle.exb_learn.proofs.RingLinks.{put_here, put_other}
use Rattle.exb_learn.proofs.SlotRings.{entry_before, entry_last}

pub read_next : (links : List RingLink) (x : ℕ) (d : RingLink) → x < length links → (get_or links x d).next ≡ next_in links x
read_next links x d less = sym (ap (λ (o : Option RingLink). option_map_or (λ k. k.next) o x) (slice_get-get_or links x d less))

pub read_prev : (links : List RingLink) (x : ℕ) (d : RingLink) → x < length links → (get_or links x d).prev ≡ prev_in links x
read_prev links x d less = sym (ap (λ (o : Option RingLink). option_map_or (λ k. k.prev) o x) (slice_get-get_or links x d less))

-- ---- one more
module _ (f : RingLink → ℕ) where
  abbrev read : List RingLink → ℕ → ℕ
  read links x = option_map_or f (slice_get links x) x

  grown : (links : List RingLink) (k : RingLink) → f k ≡ length links → (x : ℕ) → read (links ++ k ∷ []) x ≡ read links x
  grown links k alone x = elim (leb_tells (suc x) (length links)) [
    | inl h ↦ ap (λ (o : Option RingLink). option_map_or f o x) (entry_before links (k ∷ []) x (omega (arith, h.1)))
    | inr h ↦ elim (eqb_tells x (length links)) [
      | inl e ↦
          ap (λ y. read (links ++ k ∷ []) y) e.1 ∙ ap (λ (o : Option RingLink). option_map_or f o (length links)) (entry_last links k) ∙ alone ∙ sym e.1
          ∙ sym (ap (λ (o : Option RingLink). option_map_or f o x) (slice_get_past links x (omega (arith, h.1))))
      | inr e ↦
          ap (λ (o : Option RingLink). option_map_or f o x)
          (slice_get_past (links ++ k ∷ []) x (let long = length-append links (k ∷ []) in let past = h.1 in let other = e.1 in omega (arith, long, past, other))
          ∙ sym (slice_get_past links x (omega (arith, h.1))))
    ]
  ]

pub grew : (links : List RingLink) (k : RingLink) → k.next ≡ length links → k.prev ≡ length links → in_table (links ++ k ∷ []) ≡ in_table links
grew links k next prev = λ i. record { next = λ x. grown (λ l. l.next) links k next x i; prev = λ x. grown (λ l. l.prev) links k prev x i }

pub took : (old mid new : List RingLink) (node p q : ℕ) → p ≡ prev_in old node → q ≡ next_in old node →
    in_table mid ≡ record { next = put (next_in old) p q; prev = prev_in old } → in_table new ≡ record { next = next_in mid; prev = put (prev_in mid) q p } →
    in_table new ≡ taken (in_table old) node
took old mid new node p q p_is q_is first second =
    second ∙ ap (λ (m : Links). record { next = m.next; prev = put m.prev q p }) first
    ∙ (λ i. record { next = put (next_in old) (p_is i) (q_is i); prev = put (prev_in old) (q_is i) (p_is i) })

pub laid_in : (old one two three new : List RingLink) (b node last : ℕ) → last ≡ prev_in old b →
    in_table one ≡ record { next = put (next_in old) last node; prev = prev_in old } → in_table two ≡ record { next = put (next_in one) node b; prev = prev_in one } →
    in_table three ≡ record { next = next_in two; prev = put (prev_in two) node last } → in_table new ≡ record { next = next_in three; prev = put (prev_in three) b node } →
    in_table new ≡ placed (in_table old) b node
laid_in old one two three new b node last last_is first second third fourth =
    fourth ∙ ap (λ (m : Links). record { next = m.next; prev = put m.prev b node }) third
    ∙ ap (λ (m : Links). record { next = m.next; prev = put (put m.prev node last) b node }) second
    ∙ ap (λ (m : Links). record { next = put m.next node b; prev = put (put m.prev node last) b node }) first
    ∙ (λ i. record { next = put (put (next_in old) (last_is i) node) node b; prev = put (put (prev_in old) node (last_is i)) b node })

-- ---- no link leads out
put_within : (f : ℕ → ℕ) (i v n : ℕ) → v < n → ((x : ℕ) → x < n → f x < n) → (x : ℕ) → x < n → put f i v x < n
put_within f i v n to within x less = elim (eqb_tells x i) [
  | inl h ↦ subst (λ y. y < n) (sym (put_here f i v x h.1)) to
  | inr h ↦ subst (λ y. y < n) (sym (put_other f i v x h.1)) (within x less)
]

closed_by : (old new : List RingLink) (l : Links) → in_table new ≡ l → length new ≡ length old → ((x : ℕ) → x < length old → l.next x < length old) →
    ((x : ℕ) → x < length old → l.prev x < length old) → IsClosed new
closed_by old new l is long next prev = record {
  next = λ x less. (let low = next x (omega (arith, less, long)) in let at : next_in new x ≡ l.next x = ap (λ (m : Links). m.next x) is in omega (arith, low, at, long));
  prev = λ x less. (let low = prev x (omega (arith, less, long)) in let at : prev_in new x ≡ l.prev x = ap (λ (m : Links). m.prev x) is in omega (arith, low, at, long));
}

pub closed_taken : (old new : List RingLink) (node : ℕ) → IsClosed old → node < length old → length new ≡ length old → in_table new ≡ taken (in_table old) node → IsClosed new
closed_taken old new node closed less long is =
    closed_by old new (taken (in_table old) node) is long
    (put_within (next_in old) (prev_in old node) (next_in old node) (length old) (closed.next node less) closed.next)
    (put_within (prev_in old) (next_in old node) (prev_in old node) (length old) (closed.prev node less) closed.prev)

pub closed_placed : (old new : List RingLink) (b node : ℕ) → IsClosed old → b < length old → node < length old → length new ≡ length old →
    in_table new ≡ placed (in_table old) b node → IsClosed new
closed_placed old new b node closed before less long is =
    closed_by old new (placed (in_table old) b node) is long
    (put_within (put (next_in old) (prev_in old b) node) node b (length old) before (put_within (next_in old) (prev_in old b) node (length old) less closed.next))
    (put_within (put (prev_in old) node (prev_in old b)) b node (length old) less (put_within (prev_in old) node (prev_in old b) (length old) (closed.prev b before) closed.prev))

pub closed_grown : (links : List RingLink) (k : RingLink) → IsClosed links → k.next ≡ length links → k.prev ≡ length links → IsClosed (links ++ k ∷ [])
closed_grown links k closed next prev = record {
  next = λ x less. bound (next_in links) (next_in (links ++ k ∷ [])) (λ y. ap (λ (m : Links). m.next y) (grew links k next prev)) closed.next (past next_in (λ y far. ap (λ (o : Option RingLink). option_map_or (λ l. l.next) o y) (slice_get_past links y far))) x less;
  prev = λ x less. bound (prev_in links) (prev_in (links ++ k ∷ [])) (λ y. ap (λ (m : Links). m.prev y) (grew links k next prev)) closed.prev (past prev_in (λ y far. ap (λ (o : Option RingLink). option_map_or (λ l. l.prev) o y) (slice_get_past links y far))) x less;
}
  where
    long : length (links ++ k ∷ []) ≡ suc (length links)
    long = length-append links (k ∷ []) ∙ (omega arith)

    past : (f : List RingLink → ℕ → ℕ) → ((y : ℕ) → length links ≤ y → f links y ≡ y) → (y : ℕ) → length links ≤ y → f links y ≡ y
    past f h = h

    bound : (f g : ℕ → ℕ) → ((y : ℕ) → g y ≡ f y) → ((y : ℕ) → y < length links → f y < length links) → ((y : ℕ) → length links ≤ y → f y ≡ y) →
        (x : ℕ) → x < length (links ++ k ∷ []) → g x < length (links ++ k ∷ [])
    bound f g same within alone x less = elim (leb_tells (suc x) (length links)) [
      | inl h ↦ (let low = within x (omega (arith, h.1)) in let is = same x in omega (arith, low, is, long))
      | inr h ↦ (let it = alone x (omega (arith, h.1)) in let is = same x in omega (arith, it, is, less))
    ]

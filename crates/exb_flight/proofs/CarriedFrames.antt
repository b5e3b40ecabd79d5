-- What is carried over tables of which a part changes.
use Rattle.std.proofs.Common.{◌≡◌, ◌≢◌, ℕ, zero, suc, ◌<◌, ◌≤◌, true, false, List, [], ◌∷◌, Some, refl, sym, ◌∙◌, ap, subst, arith, inl, inr, ◌⊎◌}
use Rattle.std.proofs.lemmas.Bool.{cases_eq, cases_lt, cases_Bool, and_right}
use Rattle.std.proofs.lemmas.List.{append-nil}
use Rattle.exb_model.specs.ETags.{Tag, read_etag}
use Rattle.exb_model.specs.Tree.{Shape, device, on, is_port, is_under, is_extended, trunk, HangsOn, IsCascade, IsTree}
use Rattle.exb_model.specs.TreeSets.{covers}
use Rattle.exb_model.specs.ExtenderForwarding.{Tables, takes, emits}
use Rattle.exb_model.specs.Carriage.{carried_in, carried}
use Rattle.exb_model.proofs.TreeWays.{extender_of, port_above}
use Rattle.exb_control_spec.proofs.Plans.PortOutput.{emits_none, emits_on, carried_here, carried_past, carried_low, carried_end}
use Rattle.exb_control_spec.proofs.Plans.Trunks.{under_extended}
use Rattle.exb_flight.specs.Items.{Word}
use Rattle.exb_flight.specs.Tree.{Over, itself, further, IsDeep, HasRow}
use Rattle.exb_flight.specs.DownwardFrames.{IsWord}
use Rattle.exb_flight.proofs.ExtendersAbove.{row_below, over_child}

-- the word goes from extender m down: at each cascade port once or not at all, by old and new tables alike
record Same (s : Shape) (t u : Tables) (Reached : ℕ → Type 0) (d m : ℕ) (f : List ℕ) (p : ℕ) : Type 0 where
  old : carried_in s t d m f p ≡ f ∷ []
  new : carried_in s u d m f p ≡ f ∷ []
  deep : 64 ≤ p
  next : (k : ℕ) → HangsOn s k p → Reached k

-- A cascade port of an extender that the word reaches sends it on as it is, to an extender that it reaches, or sends nothing.
pub record Goes (s : Shape) (t : Tables) (Reached : ℕ → Type 0) (f : List ℕ) (p : ℕ) : Type 0 where
  pub one : emits t p f ≡ f ∷ []
  pub next : (k : ℕ) → HangsOn s k p → Reached k

module _ (s : Shape) (t u : Tables) (valid : IsTree s) (m : ℕ) (some : 0 < m) (f : List ℕ) (Reached : ℕ → Type 0) (begin : Reached m)
    (ways : (p : ℕ) → IsDeep s p → IsCascade s p → Reached (device p) → Goes s t Reached f p ⊎ (emits t p f ≡ []))
    (same : (p : ℕ) → IsDeep s p → Reached (device p) → emits t p f ≡ emits u p f) where
  here : (d p : ℕ) → IsDeep s p → IsCascade s p → carried_in s t d m f p ≡ emits t p f → carried_in s u d m f p ≡ emits u p f → Reached (device p) →
      ((carried_in s t d m f p ≡ []) × (carried_in s u d m f p ≡ [])) ⊎ Same s t u Reached d m f p
  here d p h c a b o =
      elim (ways p h c o) [
        | inr none ↦ inl (a ∙ none, b ∙ (sym (same p h o) ∙ none))
        | inl w ↦ inr (record { old = a ∙ w.one; new = b ∙ (sym (same p h o) ∙ w.one); deep = h.deep; next = w.next })
      ]

  comes : (d p : ℕ) → is_port s p ≡ true → IsCascade s p → ((carried_in s t d m f p ≡ []) × (carried_in s u d m f p ≡ [])) ⊎ Same s t u Reached d m f p
  comes zero p k c =
      elim (cases_eq (device p) m) [
        | inl e ↦ here zero p (record { deep = omega arith; known = k }) c (carried_here s t zero m f p e) (carried_here s u zero m f p e) (subst Reached (sym e) begin)
        | inr e ↦ inl (carried_end s t m f p e, carried_end s u m f p e)
      ]
  comes (suc d) p k c =
      elim (cases_eq (device p) m) [
        | inl e ↦ here (suc d) p (record { deep = omega arith; known = k }) c (carried_here s t (suc d) m f p e) (carried_here s u (suc d) m f p e) (subst Reached (sym e) begin)
        | inr e ↦ elim (cases_lt p 64) [
          | inl l ↦ inl (carried_low s t (suc d) m f p l some, carried_low s u (suc d) m f p l some)
          | inr h ↦
              let next = on s (device p) in
              elim (comes d next (port_above s valid p h k) (device p, extender_of s p h k)) [
                | inl none ↦ inl (carried_past s t d m f p e h ∙ (rw none.0 refl), carried_past s u d m f p e h ∙ (rw none.1 refl))
                | inr one ↦ here (suc d) p (record { deep = h; known = k }) c
                    (carried_past s t d m f p e h ∙ (rw (one.old, append-nil) refl))
                    (carried_past s u d m f p e h ∙ (rw (one.new, append-nil) refl))
                    (one.next (device p) (extender_of s p h k))
              ]
        ]
      ]

  same_in : (d q : ℕ) → IsDeep s q → carried_in s t d m f q ≡ carried_in s u d m f q
  same_in zero q h =
      elim (cases_eq (device q) m) [
        | inl e ↦ carried_here s t zero m f q e ∙ (same q h (subst Reached (sym e) begin) ∙ sym (carried_here s u zero m f q e))
        | inr e ↦ carried_end s t m f q e ∙ sym (carried_end s u m f q e)
      ]
  same_in (suc d) q h =
      elim (cases_eq (device q) m) [
        | inl e ↦ carried_here s t (suc d) m f q e ∙ (same q h (subst Reached (sym e) begin) ∙ sym (carried_here s u (suc d) m f q e))
        | inr e ↦
            elim (comes d (on s (device q)) (port_above s valid q h.deep h.known) (device q, extender_of s q h.deep h.known)) [
              | inl none ↦ carried_past s t d m f q e h.deep ∙ (rw none.0 (sym (carried_past s u d m f q e h.deep ∙ (rw none.1 refl))))
              | inr one ↦
                  carried_past s t d m f q e h.deep ∙ (rw (one.old, append-nil)
                  (same q h (one.next (device q) (extender_of s q h.deep h.known)) ∙ sym (carried_past s u d m f q e h.deep ∙ (rw (one.new, append-nil) refl))))
            ]
      ]

  -- a word is carried as before where each port that it may come to sends it as before
  pub carried_same : (q : ℕ) → IsDeep s q → carried s t m f q ≡ carried s u m f q
  unfolding carried
  carried_same q h = same_in 64 q h

-- the port's pair, own channel and kind stay, or it has no pair before and after
pub emits_same : (t u : Tables) (q : ℕ) (f : List ℕ) (tag : Tag) → read_etag f ≡ Some tag → u.pair tag.ecid q ≡ t.pair tag.ecid q →
    ((u.own q ≡ t.own q) × (u.cascade q ≡ t.cascade q)) ⊎ (t.pair tag.ecid q ≡ false) → emits t q f ≡ emits u q f
unfolding emits
emits_same t u q f tag read p (inl o) = rw (read, o.1, p, o.0) refl
emits_same t u q f tag read p (inr none) =
    let old : takes t q tag ≡ false = and_right _ _ none in
    let new : takes u q tag ≡ false = and_right _ _ (p ∙ none) in
    rw (read, old, new) refl

-- ---- a word whose rows stay
-- Where a word has a row its number's pairs are as before, and each port of the row has its channel and its kind as before.
pub record Stays (s : Shape) (t u : Tables) (n : ℕ) (f : Word) (w : IsWord s t n f) : Type 0 where
  pub pairs : (p : ℕ) → IsDeep s p → Over s n (device p) → HasRow s w.set (device p) → u.pair w.tag.ecid p ≡ t.pair w.tag.ecid p
  pub owns : (p : ℕ) → IsDeep s p → Over s n (device p) → covers s w.set p ≡ true → u.own p ≡ t.own p
  pub kinds : (p : ℕ) → IsDeep s p → Over s n (device p) → covers s w.set p ≡ true → u.cascade p ≡ t.cascade p

module _ (s : Shape) (valid : IsTree s) (t : Tables) (n : ℕ) (f : Word) (w : IsWord s t n f) where
  abbrev Comes : ℕ → Type 0
  Comes k = Over s n k × HasRow s w.set k

  outer : (q : ℕ) → w.set q ≡ true → is_extended s q ≡ true
  outer q e = under_extended s (trunk s n) q (w.under q e)

  -- the extender on a covered port is reached
  pub goes_below : (p k : ℕ) → IsDeep s p → Over s n (device p) → covers s w.set p ≡ true → HangsOn s k p → Over s n k × HasRow s w.set k
  goes_below p k deep o c hung =
      (further (subst (λ (x : ℕ). 64 ≤ x) (sym hung.at) deep.deep) (subst (λ (x : ℕ). Over s n (device x)) (sym hung.at) o), row_below s valid w.set p k outer hung c)

  pub word_ways : (p : ℕ) → IsDeep s p → IsCascade s p → Comes (device p) → Goes s t Comes f.bytes p ⊎ (emits t p f.bytes ≡ [])
  word_ways p deep c r =
      elim (cases_Bool (covers s w.set p)) [
        | inr e ↦ inr (emits_none t p f.bytes w.tag w.read (w.rows p deep r.0 r.1 ∙ e))
        | inl e ↦
            let on_it = w.ways p deep r.0 e c in
            inl (record {
              one = emits_on t p f.bytes w.tag w.read on_it.0 on_it.1 (w.owns p deep r.0 e) (w.rows p deep r.0 r.1 ∙ e);
              next = λ k hung. goes_below p k deep r.0 e hung;
            })
      ]

  module _ (u : Tables) (k : Stays s t u n f w) where
    -- the word is as good for the new tables
    pub word_stays : IsWord s u n f
    word_stays =
        record {
          tag = w.tag;
          read = w.read;
          set = w.set;
          under = w.under;
          row = w.row;
          rows = λ p deep o r. k.pairs p deep o r ∙ w.rows p deep o r;
          owns = λ p deep o c. subst (λ (x : ℕ). 0 < x) (sym (k.owns p deep o c)) (w.owns p deep o c);
          ways = λ p deep o c hung. (k.kinds p deep o c ∙ (w.ways p deep o c hung).0, subst (λ (x : ℕ). x ≢ w.tag.ecid) (sym (k.owns p deep o c)) (w.ways p deep o c hung).1);
        }

    port_same : (p : ℕ) → IsDeep s p → Comes (device p) → emits t p f.bytes ≡ emits u p f.bytes
    port_same p deep r =
        emits_same t u p f.bytes w.tag w.read (k.pairs p deep r.0 r.1)
        (elim (cases_Bool (covers s w.set p)) [
          | inl e ↦ inl (k.owns p deep r.0 e, k.kinds p deep r.0 e)
          | inr e ↦ inr (w.rows p deep r.0 r.1 ∙ e)
        ])

    -- and is carried as before
    pub word_carried : 0 < n → (q : ℕ) → IsDeep s q → carried s t n f.bytes q ≡ carried s u n f.bytes q
    word_carried some q deep =
        carried_same s t u valid n some f.bytes Comes (itself refl, w.row) word_ways port_same q deep

  -- ---- an extender takes the word
  -- What it sends at the cascade port on which extender k hangs is a word there.
  pub word_below : (k p : ℕ) → HangsOn s k p → IsDeep s p → device p ≡ n → covers s w.set p ≡ true → trunk s k ≡ trunk s n → IsWord s t k f
  word_below k p hung deep at c same =
      let below = goes_below p k deep (itself at) c hung in
      record {
        tag = w.tag;
        read = w.read;
        set = w.set;
        under = λ q e. subst (λ (x : ℕ). is_under s x q ≡ true) (sym same) (w.under q e);
        row = below.1;
        rows = λ x d o r. w.rows x d (lower x o) r;
        owns = λ x d o e. w.owns x d (lower x o) e;
        ways = λ x d o e h. w.ways x d (lower x o) e h;
      }
    where
      lower : (x : ℕ) → Over s k (device x) → Over s n (device x)
      lower x o = over_child s n k (device x) (subst (λ (y : ℕ). 64 ≤ y) (sym hung.at) deep.deep) (ap device hung.at ∙ at) o

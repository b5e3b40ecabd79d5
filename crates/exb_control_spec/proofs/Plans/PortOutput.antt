-- What one port sends of a frame, and one extender of the way.
use Rattle.std.proofs.Common.{◌≡◌, ◌≢◌, ℕ, zero, suc, ◌<◌, ◌≤◌, true, false, cond, List, [], ◌∷◌, Some, None, refl, sym, ◌∙◌, arith, inl, inr, eq-eqb}
use Rattle.std.specs.List.{flat_map}
use Rattle.std.proofs.lemmas.Bool.{cases_eq, cases_lt, ne_eqb, lt-ltb, le-ltb, lt-leb, or_right, and_from, and_left, and_right, not_from_true}
use Rattle.exb_model.specs.ETags.{Tag, read_etag, stripped}
use Rattle.exb_model.specs.Tree.{Shape, device, on, HangsOn, top, IsTree}
use Rattle.exb_model.specs.ExtenderForwarding.{Tables, takes, left_out, bare, emits_tagged, emits}
use Rattle.exb_model.specs.Carriage.{carried_in}
use Rattle.exb_model.proofs.TreeWays.{top_high, top_low, top_none}

-- ---- one port, at a frame whose E-TAG is known
module _ (t : Tables) (q : ℕ) (f : List ℕ) (tag : Tag) (read : read_etag f ≡ Some tag) where
  pub emits_is : emits t q f ≡ emits_tagged t q f (Some tag)
  unfolding emits
  emits_is = rw read refl

  -- no pair, nothing
  pub emits_none : t.pair tag.ecid q ≡ false → emits t q f ≡ []
  emits_none h = emits_is ∙ (let e : takes t q tag ≡ false = and_right _ _ h in rw e refl)

  -- a cascade port sends it on, or nothing
  pub emits_on : t.cascade q ≡ true → t.own q ≢ tag.ecid → 0 < t.own q → t.pair tag.ecid q ≡ true → emits t q f ≡ f ∷ []
  emits_on c n o p =
      emits_is ∙ (
      let e : takes t q tag ≡ true = and_from _ _ (lt-ltb 0 (t.own q) o) p in
      let left : left_out t q tag ≡ false = and_left _ _ (not_from_true _ c) in
      let out : bare t q tag ≡ false = rw (c, ne_eqb (t.own q) tag.ecid n) refl in
      rw (e, left, out) refl)

  -- an external port sends it without its E-TAG, or leaves it out
  pub emits_out : t.cascade q ≡ false → 0 < t.own q → t.pair tag.ecid q ≡ true → emits t q f ≡ (cond (left_out t q tag) [] (stripped f ∷ []))
  emits_out c o p =
      emits_is ∙ (
      let e : takes t q tag ≡ true = and_from _ _ (lt-ltb 0 (t.own q) o) p in
      rw (e, c) refl)

  -- the port that the E-CID names sends it without its E-TAG
  pub emits_own : tag.ecid < 4096 → t.own q ≡ tag.ecid → 0 < t.own q → t.pair tag.ecid q ≡ true → emits t q f ≡ stripped f ∷ []
  emits_own g n o p =
      emits_is ∙ (
      let e : takes t q tag ≡ true = and_from _ _ (lt-ltb 0 (t.own q) o) p in
      let left : left_out t q tag ≡ false = and_right _ _ (and_left _ _ (lt-leb 4096 tag.ecid g)) in
      let out : bare t q tag ≡ true = or_right _ _ (eq-eqb _ _ n) in
      rw (e, left, out) refl)

-- a frame without an E-TAG goes nowhere
pub emits_untagged : (t : Tables) (q : ℕ) (f : List ℕ) → read_etag f ≡ None → emits t q f ≡ []
unfolding emits
emits_untagged t q f read = rw read refl

-- ---- one extender of the way
pub carried_here : (s : Shape) (t : Tables) (d n : ℕ) (f : List ℕ) (q : ℕ) → device q ≡ n → carried_in s t d n f q ≡ emits t q f
unfolding carried_in
carried_here s t zero n f q e = rw (eq-eqb (device q) n e) refl
carried_here s t (suc d) n f q e = rw (eq-eqb (device q) n e) refl

pub carried_past : (s : Shape) (t : Tables) (d n : ℕ) (f : List ℕ) (q : ℕ) → device q ≢ n → 64 ≤ q →
    carried_in s t (suc d) n f q ≡ flat_map (emits t q) (carried_in s t d n f (on s (device q)))
unfolding carried_in
carried_past s t d n f q e h = rw (ne_eqb (device q) n e, le-ltb q 64 h) refl

pub carried_low : (s : Shape) (t : Tables) (d n : ℕ) (f : List ℕ) (q : ℕ) → q < 64 → 0 < n → carried_in s t d n f q ≡ []
unfolding carried_in
carried_low s t zero n f q l h = rw (ne_eqb (device q) n (λ e. absurd (omega arith))) refl
carried_low s t (suc d) n f q l h = rw (ne_eqb (device q) n (λ e. absurd (omega arith)), lt-ltb q 64 l) refl

pub carried_end : (s : Shape) (t : Tables) (n : ℕ) (f : List ℕ) (q : ℕ) → device q ≢ n → carried_in s t zero n f q ≡ []
unfolding carried_in
carried_end s t n f q e = rw (ne_eqb (device q) n e) refl

-- ---- any tables: a word enters at the end of the way, or is not carried
module _ (s : Shape) (t : Tables) (valid : IsTree s) (f : List ℕ) where
  -- entering at another port of the bridge
  pub astray : (d n q b : ℕ) → HangsOn s n b → b < 64 → b ≢ top s.on d q → top s.on d q < 64 → carried_in s t d n f q ≡ []
  astray zero n q b at low ne below =
      let e : top s.on zero q ≡ q = top_none s q in carried_low s t zero n f q (omega arith) at.extender
  astray (suc d) n q b at low ne below =
      elim (cases_lt q 64) [
        | inl l ↦ carried_low s t (suc d) n f q l at.extender
        | inr h ↦ elim (cases_eq (device q) n) [
          | inl e ↦
              let hop : top s.on (suc d) q ≡ b = top_high s d q h ∙ (rw (e, at.at) (top_low s d b low)) in
              absurd (ne (sym hop))
          | inr e ↦
              let rest : carried_in s t d n f (on s (device q)) ≡ [] =
              astray d n (on s (device q)) b at low (rw (top_high s d q h) at ne) (rw (top_high s d q h) at below) in
              carried_past s t d n f q e h ∙ rw rest refl
        ]
      ]

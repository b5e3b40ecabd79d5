-- The channels of one bridge port are those of just some ports.
use Rattle.std.proofs.Common.{◌≡◌, ◌≢◌, ℕ, ◌<◌, ◌≤◌, ◌==◌, ◌&&◌, ◌||◌, Bool, true, false, not, Option, Some, None, refl, sym, ◌∙◌, ap, arith, inl, inr, eq-eqb}
use Rattle.std.specs.Prelude.{is_some}
use Rattle.std.proofs.lemmas.Bool.{cases_eq, or_cases, or_left, or_right, and_parts, and_from, ne_eqb, eqb-true, false≢true, false_from_ne_true}
use Rattle.exb_model.specs.Tree.{Shape, device, trunk}
use Rattle.exb_model.specs.LowestFree.{is_port}
use Rattle.exb_control_spec.specs.Plans.HeldNumbers.{Held, channel_in, give_channel, free_port_of}
use Rattle.exb_control_spec.proofs.Plans.Ranges.{IsFound, found, none_passes}
use Rattle.exb_control_spec.proofs.Plans.OptionalNumbers.{none_some, of_some, some_is}

pub record Gives (h : Held) (k : ℕ) (needs : ℕ → Bool) : Type 0 where
  pub low : (c p : ℕ) → h.port k c ≡ Some p → 1 ≤ c
  pub high : (c p : ℕ) → h.port k c ≡ Some p → c < 4095
  pub one : (c d p : ℕ) → h.port k c ≡ Some p → h.port k d ≡ Some p → c ≡ d
  pub sound : (c p : ℕ) → h.port k c ≡ Some p → needs p ≡ true
  pub full : (p : ℕ) → needs p ≡ true → (c : ℕ) × (h.port k c ≡ Some p)

is_of : (p : ℕ) (o : Option ℕ) → is_port p o ≡ true → o ≡ Some p
is_of p None e = absurd (false≢true e)
is_of p (Some q) e = ap (λ (x : ℕ). Some x) (eqb-true q p e)

pub record IsChannelOf (h : Held) (k p c : ℕ) : Type 0 where
  pub low : 1 ≤ c
  pub high : c < 4095
  pub is : h.port k c ≡ Some p

module _ (h : Held) (k p : ℕ) where
  pub channel_found : (c : ℕ) → channel_in h k p ≡ Some c → IsChannelOf h k p c
  unfolding channel_in
  channel_found c e =
      let f : IsFound (λ c. is_port p (h.port k c)) 1 4094 c = found (λ c. is_port p (h.port k c)) 1 4094 c e in
      record { low = f.low; high = (let x = f.high in omega (arith, x)); is = is_of p (h.port k c) f.passes }

  by_option : (o : Option ℕ) → channel_in h k p ≡ o → (c : ℕ) → 1 ≤ c → c < 4095 → h.port k c ≡ Some p → (m : ℕ) × (channel_in h k p ≡ Some m)
  unfolding channel_in
  by_option None e c low high is =
      absurd (false≢true (sym (none_passes (λ c. is_port p (h.port k c)) 1 4094 e c low (omega (arith, high))) ∙ (ap (is_port p) is ∙ eq-eqb p p refl)))
  by_option (Some m) e c low high is = (m, e)

  pub channel_there : (c : ℕ) → 1 ≤ c → c < 4095 → h.port k c ≡ Some p → (m : ℕ) × (channel_in h k p ≡ Some m)
  channel_there = by_option (channel_in h k p) refl

-- ---- against the channels of ports
pub gives_from : (h : Held) (k : ℕ) (needs : ℕ → Bool) → ((p : ℕ) → is_some (channel_in h k p) ≡ needs p) → ((p c : ℕ) → h.port k c ≡ Some p → channel_in h k p ≡ Some c) → Gives h k needs
gives_from h k needs channels one = record {
  low = λ c p e. (let r = channel_found h k p c (one p c e) in r.low);
  high = λ c p e. (let r = channel_found h k p c (one p c e) in r.high);
  one = λ c d p e f. some_is c d (sym (one p c e) ∙ one p d f);
  sound = λ c p e. sym (channels p) ∙ ap is_some (one p c e);
  full = λ p e. (let f = of_some (channel_in h k p) (channels p ∙ e) in (f.0, (let r = channel_found h k p f.0 f.1 in r.is)));
}

pub gives_channels : (h : Held) (k : ℕ) (needs : ℕ → Bool) → Gives h k needs → (p : ℕ) → is_some (channel_in h k p) ≡ needs p
gives_channels h k needs gives p = by_option (channel_in h k p) refl
  where
    by_option : (o : Option ℕ) → channel_in h k p ≡ o → is_some o ≡ needs p
    by_option None e = sym (false_from_ne_true (needs p) (λ y.
        let f = gives.full p y in
        let m : (m : ℕ) × (channel_in h k p ≡ Some m) = channel_there h k p f.0 (gives.low f.0 p f.1) (gives.high f.0 p f.1) f.1 in
        none_some m.0 (sym e ∙ m.1)))
    by_option (Some c) e = (let r = channel_found h k p c e in sym (gives.sound c p r.is))

pub gives_one : (h : Held) (k : ℕ) (needs : ℕ → Bool) → Gives h k needs → (p c : ℕ) → h.port k c ≡ Some p → channel_in h k p ≡ Some c
gives_one h k needs gives p c e =
    let m : (m : ℕ) × (channel_in h k p ≡ Some m) = channel_there h k p c (gives.low c p e) (gives.high c p e) e in
    let r = channel_found h k p m.0 m.1 in
    m.1 ∙ ap (λ (x : ℕ). Some x) (gives.one m.0 c p r.is e)

pub gives_same : (h : Held) (k : ℕ) (needs other : ℕ → Bool) → ((p : ℕ) → needs p ≡ other p) → Gives h k needs → Gives h k other
gives_same h k needs other same gives = record {
  low = gives.low;
  high = gives.high;
  one = gives.one;
  sound = λ c p e. sym (same p) ∙ gives.sound c p e;
  full = λ p e. gives.full p (same p ∙ e);
}

-- what is said of ports alone
pub gives_port : (h g : Held) (k : ℕ) (needs : ℕ → Bool) → ((c : ℕ) → g.port k c ≡ h.port k c) → Gives h k needs → Gives g k needs
gives_port h g k needs same gives = record {
  low = λ c p e. gives.low c p (sym (same c) ∙ e);
  high = λ c p e. gives.high c p (sym (same c) ∙ e);
  one = λ c d p e f. gives.one c d p (sym (same c) ∙ e) (sym (same d) ∙ f);
  sound = λ c p e. gives.sound c p (sym (same c) ∙ e);
  full = λ p e. (let f = gives.full p e in (f.0, same f.0 ∙ f.1));
}

-- ---- a port more, and a port less
module _ (t : Shape) (h : Held) (k p c : ℕ) (needs : ℕ → Bool) (gives : Gives h k needs) where
  more_elsewhere : k ≢ trunk t (device p) → (e : ℕ) → (give_channel t p c h).port k e ≡ h.port k e
  more_elsewhere n e = rw (ne_eqb k (trunk t (device p)) n) refl

  pub gives_elsewhere : k ≢ trunk t (device p) → Gives (give_channel t p c h) k needs
  gives_elsewhere n = gives_port h (give_channel t p c h) k needs (more_elsewhere n) gives

  pub freed_elsewhere : k ≢ trunk t (device p) → Gives (free_port_of t p c h) k needs
  freed_elsewhere n = gives_port h (free_port_of t p c h) k needs (λ e. rw (ne_eqb k (trunk t (device p)) n) refl) gives

  module _ (here : k ≡ trunk t (device p)) where
    mine : (give_channel t p c h).port k c ≡ Some p
    mine = rw (eq-eqb k (trunk t (device p)) here, eq-eqb c c refl) refl

    others : (e : ℕ) → e ≢ c → (give_channel t p c h).port k e ≡ h.port k e
    others e n = rw (eq-eqb k (trunk t (device p)) here, ne_eqb e c n) refl

    at : (e : ℕ) → e ≡ c → (give_channel t p c h).port k e ≡ Some p
    at e s = ap ((give_channel t p c h).port k) s ∙ mine

    pub gives_more : 1 ≤ c → c < 4095 → needs p ≡ false → h.port k c ≡ None → Gives (give_channel t p c h) k (λ q. needs q || q == p)
    gives_more low high new free = record {
      low = λ e q f. elim (cases_eq e c) [ inl s ↦ (let a = low in omega (arith, a, s)) | inr n ↦ gives.low e q (sym (others e n) ∙ f) ];
      high = λ e q f. elim (cases_eq e c) [ inl s ↦ (let a = high in omega (arith, a, s)) | inr n ↦ gives.high e q (sym (others e n) ∙ f) ];
      one = λ e d q f g. elim (cases_eq e c) [
        | inl s ↦ elim (cases_eq d c) [
          | inl r ↦ s ∙ sym r
          | inr n ↦
              let is : p ≡ q = some_is p q (sym (at e s) ∙ f) in
              absurd (false≢true (sym new ∙ (ap needs is ∙ gives.sound d q (sym (others d n) ∙ g))))
        ]
        | inr n ↦ elim (cases_eq d c) [
          | inl r ↦
              let is : p ≡ q = some_is p q (sym (at d r) ∙ g) in
              absurd (false≢true (sym new ∙ (ap needs is ∙ gives.sound e q (sym (others e n) ∙ f))))
          | inr m ↦ gives.one e d q (sym (others e n) ∙ f) (sym (others d m) ∙ g)
        ]
      ];
      sound = λ e q f. elim (cases_eq e c) [
        | inl s ↦ or_right (needs q) _ (eq-eqb q p (sym (some_is p q (sym (at e s) ∙ f))))
        | inr n ↦ or_left _ (q == p) (gives.sound e q (sym (others e n) ∙ f))
      ];
      full = λ q f. elim (or_cases (needs q) (q == p) f) [
        | inl a ↦ (let g = gives.full q a in (g.0, others g.0 (λ z. none_some q (sym free ∙ (ap (h.port k) (sym z) ∙ g.1))) ∙ g.1))
        | inr b ↦ (c, mine ∙ ap (λ (x : ℕ). Some x) (sym (eqb-true q p b)))
      ];
    }

    none_here : (free_port_of t p c h).port k c ≡ None
    none_here = rw (eq-eqb k (trunk t (device p)) here, eq-eqb c c refl) refl

    stays : (e : ℕ) → e ≢ c → (free_port_of t p c h).port k e ≡ h.port k e
    stays e n = rw (eq-eqb k (trunk t (device p)) here, ne_eqb e c n) refl

    not_freed : (e q : ℕ) → (free_port_of t p c h).port k e ≡ Some q → e ≢ c
    not_freed e q f s = none_some q (sym none_here ∙ (ap ((free_port_of t p c h).port k) (sym s) ∙ f))

    pub gives_less : h.port k c ≡ Some p → Gives (free_port_of t p c h) k (λ q. needs q && not (q == p))
    gives_less is = record {
      low = λ e q f. gives.low e q (sym (stays e (not_freed e q f)) ∙ f);
      high = λ e q f. gives.high e q (sym (stays e (not_freed e q f)) ∙ f);
      one = λ e d q f g. gives.one e d q (sym (stays e (not_freed e q f)) ∙ f) (sym (stays d (not_freed d q g)) ∙ g);
      sound = λ e q f.
          let before = sym (stays e (not_freed e q f)) ∙ f in
          and_from (needs q) (not (q == p)) (gives.sound e q before) (ap not (ne_eqb q p (λ s. not_freed e q f (gives.one e c q before (is ∙ ap (λ (x : ℕ). Some x) (sym s))))));
      full = λ q f.
          let both = and_parts (needs q) (not (q == p)) f in
          let g = gives.full q both.0 in
          (g.0, stays g.0 (λ s. other q both.1 (some_is q p (sym g.1 ∙ (ap (h.port k) s ∙ is)))) ∙ g.1);
    }
      where
        other : (q : ℕ) → not (q == p) ≡ true → q ≡ p → ⊥
        other q e s = false≢true (sym (ap not (eq-eqb q p s)) ∙ e)

-- A port that holds a channel which isn't laid.
use Rattle.std.proofs.Common.{◌≡◌, ◌≢◌, ◌⊎◌, ℕ, ◌<◌, ◌≤◌, ◌==◌, ◌&&◌, ◌||◌, cond, Bool, true, false, not, List, Option, Some, None, refl, sym, ◌∙◌, ap, inl, inr, eq-eqb}
use Rattle.std.proofs.lemmas.Bool.{cases_eq, ne_eqb, and_left}
use Rattle.exb_model.specs.Tree.{Shape, IsTree, device, trunk, is_port, is_cascade}
use Rattle.exb_model.specs.TreeSets.{covers}
use Rattle.exb_control_spec.specs.Plans.HeldNumbers.{Held, channel_in, or_zero}
use Rattle.exb_control_spec.proofs.Plans.ChannelOwners.{Gives, channel_found, gives_one}
use Rattle.exb_control_spec.specs.Decisions.{channel_of}
use Rattle.exb_control_spec.specs.Runs.LaidTables.{by_extender, channel_pair, group_pair, laid_by}
use Rattle.exb_control_spec.proofs.Plans.OptionalNumbers.{some_is, none_some}
use Rattle.exb_control_spec.proofs.Runs.EqualTables.{Like, like_tables}
use Rattle.exb_control_spec.proofs.Runs.NeededChannels.{home_low, home_cascade}

-- all but this one
abbrev pub but_shown : ℕ → (ℕ → Bool) → ℕ → Bool
but_shown p shown q = not (q == p) && shown q

-- More is held by a channel of an external port, which has none otherwise.
pub record IsMore (t : Shape) (p c : ℕ) (less more : Held) : Type 0 where
  pub tree : IsTree t
  pub external : is_cascade t p ≡ false
  pub here : more.port (trunk t (device p)) c ≡ Some p
  pub free : less.port (trunk t (device p)) c ≡ None
  pub absent : (k e : ℕ) → k < 64 → is_cascade t k ≡ true → less.port k e ≢ Some p
  pub others : (k e : ℕ) → (k ≡ trunk t (device p) → e ≢ c) → more.port k e ≡ less.port k e
  pub sets : (k g : ℕ) → more.set k g ≡ less.set k g
  pub needs_less : ℕ → ℕ → Bool
  pub needs_more : ℕ → ℕ → Bool
  pub gives_less : (k : ℕ) → k < 64 → is_cascade t k ≡ true → Gives less k (needs_less k)
  pub gives_more : (k : ℕ) → k < 64 → is_cascade t k ≡ true → Gives more k (needs_more k)

module _ (t : Shape) (p c : ℕ) (less more : Held) (m : IsMore t p c less more) where
  -- the port has none
  none_there : (k : ℕ) → k < 64 → is_cascade t k ≡ true → channel_in less k p ≡ None
  none_there k low cascade = by_option (channel_in less k p) refl
    where
      by_option : (o : Option ℕ) → channel_in less k p ≡ o → o ≡ None
      by_option None e = refl
      by_option (Some d) e = absurd (m.absent k d low cascade (let f = channel_found less k p d e in f.is))

  -- every other port has the same
  same_channel : (k q : ℕ) → k < 64 → is_cascade t k ≡ true → q ≢ p → channel_in less k q ≡ channel_in more k q
  same_channel k q low cascade other = by_less (channel_in less k q) refl
    where
      by_less : (o : Option ℕ) → channel_in less k q ≡ o → o ≡ channel_in more k q
      by_less (Some d) e =
          let f : less.port k d ≡ Some q = (let g = channel_found less k q d e in g.is) in
          let apart : k ≡ trunk t (device p) → d ≢ c = λ x y. none_some q (sym m.free ∙ (ap (less.port (trunk t (device p))) (sym y) ∙ (ap (λ (j : ℕ). less.port j d) (sym x) ∙ f))) in
          sym (gives_one more k (m.needs_more k) (m.gives_more k low cascade) q d (m.others k d apart ∙ f))
      by_less None e = by_more (channel_in more k q) refl
        where
          by_more : (o : Option ℕ) → channel_in more k q ≡ o → None ≡ o
          by_more None f = refl
          by_more (Some d) f =
              let g : more.port k d ≡ Some q = (let x = channel_found more k q d f in x.is) in
              let apart : k ≡ trunk t (device p) → d ≢ c =
              λ x y. other (some_is q p (sym g ∙ (ap (λ (j : ℕ). more.port j d) x ∙ (ap (more.port (trunk t (device p))) y ∙ m.here)))) in
              absurd (none_some d (sym e ∙ gives_one less k (m.needs_less k) (m.gives_less k low cascade) q d (sym (m.others k d apart) ∙ g)))

  -- so where it isn't laid the tables are those without it
  pub hidden_like : (shown : ℕ → Bool) → Like t (laid_by t shown less) (laid_by t (but_shown p shown) more)
  hidden_like shown = record { own = λ q deep known. own_is q deep known (cases_eq q p); cascade = λ q deep known. kind_is q (cases_eq q p); pair = λ e q deep known. pair_is e q deep known }
    where
      own_is : (q : ℕ) → 64 ≤ q → is_port t q ≡ true → (q ≡ p) ⊎ (q ≢ p) → cond (shown q) (channel_of t less q) 0 ≡ cond (not (q == p) && shown q) (channel_of t more q) 0
      own_is q deep known (inl e) =
          let none : channel_of t less q ≡ 0 =
          ap or_zero (ap (channel_in less (trunk t (device q))) e ∙ none_there (trunk t (device q)) (home_low t m.tree q deep known) (home_cascade t m.tree q deep known)) in
          let off : (not (q == p) && shown q) ≡ false = and_left _ _ (ap not (eq-eqb q p e)) in
          rw (none, off) (same_zero (shown q))
        where
          same_zero : (b : Bool) → ◌≡◌ {A = ℕ} (cond b 0 0) 0
          same_zero true = refl
          same_zero false = refl
      own_is q deep known (inr d) =
          ap (λ (x : ℕ). cond (shown q) x 0) (ap or_zero (same_channel (trunk t (device q)) q (home_low t m.tree q deep known) (home_cascade t m.tree q deep known) d))
          ∙ sym (ap (λ b. cond (not b && shown q) (channel_of t more q) 0) (ne_eqb q p d))

      kind_is : (q : ℕ) → (q ≡ p) ⊎ (q ≢ p) → (is_cascade t q && shown q) ≡ (is_cascade t q && (not (q == p) && shown q))
      kind_is q (inl e) = (let off : is_cascade t q ≡ false = ap (is_cascade t) e ∙ m.external in and_left _ _ off ∙ sym (and_left _ _ off))
      kind_is q (inr d) = sym (ap (λ b. is_cascade t q && (not b && shown q)) (ne_eqb q p d))

      pair_is : (e q : ℕ) → 64 ≤ q → is_port t q ≡ true →
          (channel_pair t shown q (less.port (trunk t (device q)) e) || group_pair t q (less.set (trunk t (device q)) e))
          ≡ (channel_pair t (but_shown p shown) q (more.port (trunk t (device q)) e) || group_pair t q (more.set (trunk t (device q)) e))
      pair_is e q deep known =
          ap (λ b. b || group_pair t q (less.set (trunk t (device q)) e)) (by_place (cases_eq (trunk t (device q)) (trunk t (device p))) (cases_eq e c))
          ∙ ap (λ (set : List ℕ). channel_pair t (but_shown p shown) q (more.port (trunk t (device q)) e) || group_pair t q set) (sym (m.sets (trunk t (device q)) e))
        where
          by_port : (o : Option ℕ) → less.port (trunk t (device q)) e ≡ o → channel_pair t shown q o ≡ channel_pair t (but_shown p shown) q o
          by_port None is = refl
          by_port (Some x) is =
              let other : x ≢ p = λ f. m.absent (trunk t (device q)) e (home_low t m.tree q deep known) (home_cascade t m.tree q deep known) (is ∙ ap (λ (y : ℕ). Some y) f) in
              sym (ap (λ b. (not b && shown x) && covers t (λ y. y == x) q) (ne_eqb x p other))

          elsewhere : (trunk t (device q) ≡ trunk t (device p) → e ≢ c) → channel_pair t shown q (less.port (trunk t (device q)) e) ≡ channel_pair t (but_shown p shown) q (more.port (trunk t (device q)) e)
          elsewhere apart = by_port (less.port (trunk t (device q)) e) refl ∙ ap (channel_pair t (but_shown p shown) q) (sym (m.others (trunk t (device q)) e apart))

          by_place : (trunk t (device q) ≡ trunk t (device p)) ⊎ (trunk t (device q) ≢ trunk t (device p)) → (e ≡ c) ⊎ (e ≢ c) →
              channel_pair t shown q (less.port (trunk t (device q)) e) ≡ channel_pair t (but_shown p shown) q (more.port (trunk t (device q)) e)
          by_place (inr d) number = elsewhere (λ f. absurd (d f))
          by_place (inl at) (inr d) = elsewhere (λ _. d)
          by_place (inl at) (inl same) = rw (at, same, m.free, m.here, eq-eqb p p refl) refl

  pub hidden_same : (shown : ℕ → Bool) → by_extender t (laid_by t shown less) ≡ by_extender t (laid_by t (but_shown p shown) more)
  hidden_same shown = like_tables t (laid_by t shown less) (laid_by t (but_shown p shown) more) (hidden_like shown)

-- The parts of the relay's code.
use Rattle.std.proofs.Common.{◌≡◌, ℕ, ◌+◌, ◌-◌, ◌<◌, ◌≤◌, ◌==◌, ◌&&◌, ◌++◌, cond, Bool, true, false, [], Some, None, refl, sym, ◌∙◌, subst, arith, inl, inr, eq-eqb}
use Rattle.std.proofs.lemmas.List.{append-nil}
use Rattle.std.proofs.lemmas.Bool.{cases_eq, ne_eqb, false≢true, false_from_ne_true}
use Rattle.exb_model.specs.declared.vlan.Kind.TheVariants.{Tagged, Untagged}
use Rattle.exb_model.specs.declared.port_set.PortSet.{PortSet}
use Rattle.exb_model.specs.Ports.{port_in, ports_of}
use Rattle.exb_model.specs.Tree.{Shape, IsTree, IsCascade, device, trunk, is_port, is_cascade, is_external, is_under}
use Rattle.exb_model.proofs.PortLemmas.{filter_below-agree, filter_below-none}
use Rattle.exb_numbers.specs.Spaces.{Spaces, has_space}
use Rattle.exb_relay.specs.declared.source.Source.{Source}
use Rattle.exb_model.specs.Numbers.{Numbers}
use Rattle.exb_relay.specs.Spaces.{HasSpaces}
use Rattle.exb_relay.specs.Sends.{or_zero, ingress_at, local_send}
use Rattle.exb_relay.specs.SendsBySource.{ingress_for, kind_among, set_below, set_word, member_sends}
use Rattle.exb_relay.proofs.PortsBelow.{under_home, under_trunk, none_low, none_under, under_cascade, hangs, home_low, extended_from, external_port, external_free}

module _ (t : Shape) (valid : IsTree t) where
  -- ---- the trunk above a port has a space
  pub home_space : (s : Spaces) (p n : ℕ) → HasSpaces t s → is_external t p ≡ true → 64 ≤ p → n ≡ trunk t (device p) + 1 → has_space s (n - 1) ≡ true
  home_space s p n has ext high is =
      let deep = extended_from t p high ext in
      let k = trunk t (device p) in
      let e : k ≡ n - 1 = omega (arith, is) in
      subst (λ (x : ℕ). has_space s x ≡ true) e (has k (home_low t valid p deep) (under_cascade t valid k p (under_home t p deep)))

  -- ---- the way up
  pub uplink_is : (m : Numbers) (p trunk_port channel : ℕ) → is_external t p ≡ true → 64 ≤ p → trunk_port ≡ trunk t (device p) + 1 →
      channel ≡ or_zero (m.channel (trunk t (device p)) p) → (k : ℕ) → ingress_for (Some (record { trunk = trunk_port; channel = channel })) k ≡ ingress_at t m p k
  uplink_is m p trunk_port channel ext high is ch k =
      let deep = extended_from t p high ext in
      elim (cases_eq (trunk t (device p)) k) [
        | inl e ↦
            let u : is_under t k p ≡ true = subst (λ (x : ℕ). is_under t x p ≡ true) e (under_home t p deep) in
            let c : channel ≡ or_zero (m.channel k p) = subst (λ (x : ℕ). channel ≡ or_zero (m.channel x p)) e ch in
            rw (eq-eqb trunk_port (k + 1) (omega (arith, is, e)), u) c
        | inr n ↦
            let u : is_under t k p ≡ false = false_from_ne_true _ (λ z. n (under_trunk t k p z)) in
            rw (ne_eqb trunk_port (k + 1) (λ e. n (omega (arith, is, e))), u) refl
      ]

  pub no_uplink : (m : Numbers) (p k : ℕ) → p < 64 → ingress_for None k ≡ ingress_at t m p k
  no_uplink m p k low = rw (none_low t k p low) refl

  -- ---- a set below a bridge port
  pub ports_below : (set : PortSet) (test : ℕ → Bool) (k : ℕ) → ((q : ℕ) → port_in set q ≡ (test q && is_under t k q)) → ports_of set ≡ set_below t k test
  unfolding ports_of
  ports_below set test k is = filter_below-agree _ _ 4160 (λ q l. is q)

  pub no_set_below : (test : ℕ → Bool) (k : ℕ) → is_cascade t k ≡ false → set_below t k test ≡ []
  no_set_below test k n = filter_below-none _ 4160 (λ q. rw (none_under t valid k n q) (and_false (test q)))
    where
      and_false : (c : Bool) → (c && false) ≡ false
      and_false true = refl
      and_false false = refl

  -- ---- at one bridge port
  module _ (m : Numbers) (s : Source) (tagged untagged : ℕ → Bool) (k : ℕ) where
    pub at_external : is_cascade t k ≡ false → member_sends t m s tagged untagged k ≡ local_send k (cond (k == s.port) None (kind_among tagged untagged k))
    at_external n = rw (no_set_below tagged k n, no_set_below untagged k n) (append-nil _)

    pub none_here : ((q : ℕ) → tagged q ≡ true → is_external t q ≡ true) → ((q : ℕ) → untagged q ≡ true → is_external t q ≡ true) → is_external t k ≡ false →
        local_send k (cond (k == s.port) None (kind_among tagged untagged k)) ≡ []
    none_here te ue n =
        let tf : tagged k ≡ false = false_from_ne_true _ (λ z. false≢true (sym n ∙ te k z)) in
        let uf : untagged k ≡ false = false_from_ne_true _ (λ z. false≢true (sym n ∙ ue k z)) in
        rw (tf, uf) (either (k == s.port))
      where
        either : (c : Bool) → local_send k (cond c None None) ≡ []
        either true = refl
        either false = refl

    pub at_cascade : ((q : ℕ) → tagged q ≡ true → is_external t q ≡ true) → ((q : ℕ) → untagged q ≡ true → is_external t q ≡ true) → is_cascade t k ≡ true →
        member_sends t m s tagged untagged k ≡ set_word m s k Tagged (set_below t k tagged) ++ set_word m s k Untagged (set_below t k untagged)
    at_cascade te ue c =
        rw (none_here te ue (false_from_ne_true _ (λ z. false≢true (sym (external_free t k z) ∙ c)))) refl

    pub at_unknown : ((q : ℕ) → tagged q ≡ true → is_external t q ≡ true) → ((q : ℕ) → untagged q ≡ true → is_external t q ≡ true) → is_port t k ≡ false →
        member_sends t m s tagged untagged k ≡ []
    at_unknown te ue n =
        let free : is_cascade t k ≡ false = false_from_ne_true _ (λ z. no_port (hangs t valid k z)) in
        let out : is_external t k ≡ false = false_from_ne_true _ (λ z. false≢true (sym n ∙ external_port t k z)) in
        at_external free ∙ none_here te ue out
      where
        no_port : IsCascade t k → ⊥
        no_port c =
            let h = c.1 in
            false≢true (sym n ∙ subst (λ (x : ℕ). is_port t x ≡ true) h.at (valid.on_port c.0 h.extender h.there))

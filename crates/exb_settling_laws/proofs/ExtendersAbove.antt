-- What stands above what: by ports, by any number of links, and one link higher.
use Rattle.std.proofs.Common.{◌≡◌, ◌≢◌, ◌⊎◌, inl, inr, ℕ, zero, suc, ◌≤◌, ◌<◌, true, List, [], ◌∷◌, ap, sym, ◌∙◌, subst, arith}
use Rattle.std.proofs.lemmas.Bool.{cases_lt}
use Rattle.exb_model.specs.Tree.{Shape, IsTree, HangsOn, device, on, is_extender, depth, up, above}
use Rattle.exb_model.proofs.TreeOrder.{less_deep}
use Rattle.exb_model.proofs.TreeWays.{up_none, up_high, up_low, among, among_cases, among_none, among_above, path_is}
use Rattle.exb_world_spec.proofs.Trunks.{hangs_there, above_there}
use Rattle.exb_settling_laws.specs.SettlingFacts.{IsAbove}
use Rattle.exb_settling_laws.proofs.Streams.{depth_some}
use Rattle.exb_settling_laws.proofs.SessionRounds.{depth_few}

module _ (t : Shape) (tree : IsTree t) where
  less : (m : ℕ) → is_extender t m ≡ true → 64 ≤ on t m → depth t (device (on t m)) < depth t m
  less m there deep = less_deep t tree m (on t m) (hangs_there t m there) deep

  -- what is above by any number of links is so by as many as the depth
  by_depth : (d e m k : ℕ) → is_extender t k ≡ true → depth t k ≤ e → IsAbove t d m k → IsAbove t e m k
  by_depth zero e m k there few a = absurd a
  by_depth (suc d) zero m k there few a = absurd (let some = depth_some t k in omega arith)
  by_depth (suc d) (suc e) m k there few (inl is) = inl is
  by_depth (suc d) (suc e) m k there few (inr a) = inr (a.0, by_depth d e m (device (on t k)) (above_there t tree k there a.0) (let q = less k there a.0 in omega arith) a.1)

  pub by_any : (d m k : ℕ) → is_extender t k ≡ true → IsAbove t d m k → IsAbove t 64 m k
  by_any d m k there a = by_depth d 64 m k there (depth_few t tree k there) a

  -- one link higher
  higher : (d m k : ℕ) → 64 ≤ on t m → IsAbove t d m k → IsAbove t (suc d) (device (on t m)) k
  higher zero m k deep a = absurd a
  higher (suc d) m k deep (inl is) = inr ((let P : ℕ → Type 0 = λ z. 64 ≤ on t z in subst P is deep), inl (ap (λ (z : ℕ). device (on t z)) is))
  higher (suc d) m k deep (inr a) = inr (a.0, higher d m (device (on t k)) deep a.1)

  pub one_higher : (m k : ℕ) → is_extender t k ≡ true → 64 ≤ on t m → IsAbove t 64 m k → IsAbove t 64 (device (on t m)) k
  one_higher m k there deep a = by_any 65 (device (on t m)) k there (higher 64 m k deep a)

  depth_above : (d m k : ℕ) → is_extender t k ≡ true → IsAbove t d m k → depth t m ≤ depth t k
  depth_above zero m k there a = absurd a
  depth_above (suc d) m k there (inl e) = (let P : ℕ → Type 0 = λ z. depth t m ≤ depth t z in subst P e (omega arith))
  depth_above (suc d) m k there (inr a) = let p = depth_above d m (device (on t k)) (above_there t tree k there a.0) a.1 in let q = less k there a.0 in omega arith

  -- the extender above one isn't below it
  pub apart_above : (m k : ℕ) → is_extender t m ≡ true → is_extender t k ≡ true → 64 ≤ on t m → IsAbove t 64 m k → device (on t m) ≢ k
  apart_above m k m_there there deep a e =
      let q : depth t (device (on t m)) < depth t m = less m m_there deep in
      let p : depth t m ≤ depth t k = depth_above 64 m k there a in
      let same : depth t (device (on t m)) ≡ depth t k = ap (depth t) e in
      omega arith

  same_port : (c k : ℕ) → is_extender t c ≡ true → is_extender t k ≡ true → on t c ≡ on t k → c ≡ k
  same_port c k c_there there same = tree.alone c k (on t k) (let g = hangs_there t c c_there in record { extender = g.extender; there = g.there; at = g.at ∙ same }) (hangs_there t k there)

  here_or : (P : Type 0) (c k : ℕ) (ys : List ℕ) → is_extender t c ≡ true → is_extender t k ≡ true → among (on t c) (on t k ∷ ys) ≡ true → (among (on t c) ys ≡ true → P) → (c ≡ k) ⊎ P
  here_or P c k ys c_there there e more = elim (among_cases (on t c) (on t k) ys e) [ inl same ↦ inl (same_port c k c_there there same) | inr rest ↦ inr (more rest) ]

  -- an extender whose port lies on the way of another's port
  by_ports : (d c k : ℕ) → is_extender t c ≡ true → is_extender t k ≡ true → among (on t c) (up t.on d (on t k)) ≡ true → IsAbove t (suc d) c k
  by_ports zero c k c_there there e = here_or _ c k [] c_there there (rw (up_none t (on t k)) at e) (λ no. absurd (among_none (on t c) no))
  by_ports (suc d) c k c_there there e =
      elim (cases_lt (on t k) 64) [
        | inl low ↦ here_or _ c k [] c_there there (rw (up_low t (suc d) (on t k) low) at e) (λ no. absurd (among_none (on t c) no))
        | inr deep ↦
            here_or _ c k (up t.on d (on t (device (on t k)))) c_there there (rw (up_high t d (on t k) deep) at e)
            (λ rest. (deep, by_ports d c (device (on t k)) c_there (above_there t tree k there deep) rest))
      ]

  pub above_by_port : (c k p : ℕ) → HangsOn t c p → is_extender t c ≡ true → is_extender t k ≡ true → above t p (on t k) ≡ true → IsAbove t 64 c k
  above_by_port c k p hangs c_there there e =
      let at_port : above t (on t c) (on t k) ≡ true = (let P : ℕ → Type 0 = λ z. above t z (on t k) ≡ true in subst P (sym hangs.at) e) in
      by_any 65 c k there (by_ports 64 c k c_there there (ap (among (on t c)) (sym (path_is t (on t k))) ∙ sym (among_above t (on t c) (on t k)) ∙ at_port))

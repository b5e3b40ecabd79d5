-- Sources whose parts stay where a configuration changes.
use Rattle.std.proofs.Common.{◌≡◌, ◌≢◌, ℕ, ◌+◌, ◌&&◌, Bool, true, false, not, List, [], ◌∷◌, refl, sym, ◌∙◌, ap}
use Rattle.std.proofs.lemmas.Bool.{false≢true}
use Rattle.std.proofs.lemmas.List.Elements.{filter_agree}
use Rattle.exb_model.specs.Ports.{all_ports}
use Rattle.exb_model.specs.Tree.{Shape, is_under}
use Rattle.exb_model.specs.Configuration.{Bridge}
use Rattle.exb_model.specs.Refusals.{Source, part, without_isolated, is_kind, bridge_ports}
use Rattle.exb_control_spec.specs.Plans.Sets.{PortsAt, parts_of, parts_below}
use Rattle.exb_control_spec.proofs.Plans.ListTests.{filter_within, flat_map-same}

-- the port is present and one of the source's members
abbrev pub is_mine : Bridge → Source → ℕ → Bool
is_mine b x q = b.present q && x.among q && is_kind x.kind (b.member x.vid q)

module _ (t : Shape) (b d : Bridge) (x : Source) where
  both_at : ℕ → List ℕ → List ℕ → List PortsAt
  both_at p whole rest = record { bridge_port = p; ports = whole } ∷ record { bridge_port = p; ports = rest } ∷ []

  part_same : (k : ℕ) → ((q : ℕ) → is_under t k q ≡ true → is_mine b x q ≡ is_mine d x q) → part t k b x ≡ part t k d x
  unfolding part
  part_same k same =
      filter_agree (λ q. is_under t k q && b.present q && x.among q && is_kind x.kind (b.member x.vid q)) (λ q. is_under t k q && d.present q && x.among q && is_kind x.kind (d.member x.vid q))
      (λ q. under (is_under t k q) (b.present q) (x.among q) (is_kind x.kind (b.member x.vid q)) (d.present q) (is_kind x.kind (d.member x.vid q)) (same q)) all_ports
    where
      under : (u p a c r e : Bool) → (u ≡ true → (p && a && c) ≡ (r && a && e)) → (u && p && a && c) ≡ (u && r && a && e)
      under true p a c r e h = h refl
      under false p a c r e h = refl

  -- what isn't a member makes no difference to the part without its isolated ports
  rest_same : (k : ℕ) → ((q : ℕ) → is_under t k q ≡ true → is_mine b x q ≡ true → (b.rule q).isolated ≡ (d.rule q).isolated) →
      without_isolated b (part t k b x) ≡ without_isolated d (part t k b x)
  unfolding part
  rest_same k same =
      filter_within (λ q. is_under t k q && b.present q && x.among q && is_kind x.kind (b.member x.vid q)) (λ q. not (b.rule q).isolated) (λ q. not (d.rule q).isolated) all_ports
      (λ q e.
      let its = mine (is_under t k q) (b.present q) (x.among q) (is_kind x.kind (b.member x.vid q)) e in
      ap not (same q its.0 its.1))
    where
      mine : (u p a c : Bool) → (u && p && a && c) ≡ true → (u ≡ true) × ((p && a && c) ≡ true)
      mine true p a c e = (refl, e)
      mine false p a c e = absurd (cc)

  -- below one bridge port
  pub untouched_at : (k : ℕ) → ((q : ℕ) → is_under t k q ≡ true → is_mine b x q ≡ is_mine d x q) →
      ((q : ℕ) → is_under t k q ≡ true → is_mine b x q ≡ true → (b.rule q).isolated ≡ (d.rule q).isolated) → parts_of t b x k ≡ parts_of t d x k
  unfolding both_at
  untouched_at k same rest =
      ap (λ l. both_at (k + 1) l (without_isolated b (part t k b x))) (part_same k same)
      ∙ ap (both_at (k + 1) (part t k d x)) (rest_same k rest ∙ ap (without_isolated d) (part_same k same))

  -- below all
  pub untouched : ((q : ℕ) → is_mine b x q ≡ is_mine d x q) → ((q : ℕ) → is_mine b x q ≡ true → (b.rule q).isolated ≡ (d.rule q).isolated) → parts_below t b x ≡ parts_below t d x
  unfolding parts_below
  untouched same rest = flat_map-same (parts_of t b x) (parts_of t d x) bridge_ports (λ k. untouched_at k (λ q u. same q) (λ q u. rest q))

  -- below one where a port isn't, where nothing changes at any other port
  pub untouched_elsewhere : (p k : ℕ) → is_under t k p ≡ false → ((q : ℕ) → q ≢ p → is_mine b x q ≡ is_mine d x q) →
      ((q : ℕ) → q ≢ p → (b.rule q).isolated ≡ (d.rule q).isolated) → parts_of t b x k ≡ parts_of t d x k
  untouched_elsewhere p k away same rest = untouched_at k (λ q u. same q (other q u)) (λ q u m. rest q (other q u))
    where
      other : (q : ℕ) → is_under t k q ≡ true → q ≢ p
      other q u e = false≢true (sym away ∙ (ap (is_under t k) (sym e) ∙ u))

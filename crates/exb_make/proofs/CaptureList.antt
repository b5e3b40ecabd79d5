-- What the captures of an input are, one by one.
use Rattle.std.proofs.Common.{◌≡◌, ◌∙◌, ℕ, ◌<◌, List, map, length, get_or, All, Ok, IsOk, Result, refl, sym, ap, subst, arith}
use Rattle.std.proofs.lemmas.List.{get_or-map, length-map}
use Rattle.std.proofs.lemmas.List.Elements.{filter_passes}
use Rattle.exb_model.specs.Input.{Record}
use Rattle.exb_model.specs.Ports.{all_ports}
use Rattle.exb_model.specs.Tree.{Shape, is_external, external_ports}
use Rattle.exb_capture.specs.declared.fault.FormatFault.{FormatFault}
use Rattle.exb_capture.specs.Captures.{capture_records}
use Rattle.exb_make.specs.declared.captures.GeneratedCapture.{GeneratedCapture}
use Rattle.exb_make.specs.GeneratedParts.{read_of, IsAtExternal, IsWhole}

module _ (t : Shape) (records : ℕ → List Record) (cs : List GeneratedCapture) (are : map read_of cs ≡ map (λ q. (q, Ok (records q))) (external_ports t)) where
  abbrev at_port : ℕ → ℕ × Result (List Record) FormatFault
  at_port q = (q, Ok (records q))

  -- the capture at a place is that of the port at the place
  here : (k : ℕ) (d : GeneratedCapture) → k < length cs → (k < length (external_ports t)) × (read_of (get_or cs k d) ≡ at_port (get_or (external_ports t) k 0))
  here k d l =
      let n = ap length are in
      let m = length-map cs read_of in
      let p = length-map (external_ports t) at_port in
      let low : k < length (external_ports t) = omega (arith, n, m, p, l) in
      (low, sym (get_or-map read_of cs k d (read_of d) l) ∙ (ap (λ xs. get_or xs k (read_of d)) are ∙ get_or-map at_port (external_ports t) k 0 (read_of d) low))

  pub all_external_ports : All (IsAtExternal t) cs
  unfolding external_ports
  all_external_ports k d l =
      let at = here k d l in
      ap (λ x. is_external t x.0) at.1 ∙ filter_passes (is_external t) all_ports k 0 at.0

  pub all_whole : All IsWhole cs
  all_whole k d l =
      let at = here k d l in
      let is : capture_records (get_or cs k d).file.items ≡ Ok (records (get_or (external_ports t) k 0)) = ap (λ x. x.1) at.1 in
      subst IsOk (sym is) refl

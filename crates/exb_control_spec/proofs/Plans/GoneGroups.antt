-- Which groups are gone.
use Rattle.std.proofs.Common.{◌≡◌, ℕ, ◌<◌, ◌≤◌, Bool, true, List, sym, ◌∙◌, arith}
use Rattle.std.specs.Prelude.{filter}
use Rattle.std.specs.List.{list_any, range_with_len}
use Rattle.exb_model.specs.Ports.{below}
use Rattle.exb_model.specs.Tree.{Shape, is_cascade}
use Rattle.exb_control_spec.specs.Plans.Sets.{PortsAt}
use Rattle.exb_control_spec.proofs.Plans.EachElement.{list_any-map}
use Rattle.exb_control_spec.specs.Plans.HeldNumbers.{Held, Group}
use Rattle.exb_control_spec.specs.Plans.Differences.{is_gone, group_at, gone_at, gone_groups}
use Rattle.exb_control_spec.proofs.Plans.Bools.{any_flat, PassesIn, any_found, any_there}

-- a group that is gone, and passes a test
pub record IsGoneAt (t : Shape) (kept : List PortsAt) (h : Held) (p : Group → Bool) : Type 0 where
  pub port : ℕ
  pub group : ℕ
  pub low_port : port < 64
  pub cascade : is_cascade t port ≡ true
  pub low : 4096 ≤ group
  pub high : group < 16384
  pub gone : is_gone kept h port group ≡ true
  pub passes : p (group_at h port group) ≡ true

module _ (t : Shape) (kept : List PortsAt) (h : Held) (p : Group → Bool) where
  abbrev passes_at : ℕ → ℕ → Bool
  passes_at k g = p (group_at h k g)

  any_at : (k : ℕ) → list_any p (gone_at kept h k) ≡ list_any (passes_at k) (filter (is_gone kept h k) (range_with_len 4096 12288))
  unfolding gone_at
  any_at k = list_any-map p (group_at h k) (filter (is_gone kept h k) (range_with_len 4096 12288))

  any_gone : list_any p (gone_groups t kept h) ≡ list_any (λ k. list_any p (gone_at kept h k)) (filter (is_cascade t) (range_with_len 0 64))
  unfolding gone_groups below
  any_gone = any_flat p (gone_at kept h) (filter (is_cascade t) (range_with_len 0 64))

  pub gone_found : list_any p (gone_groups t kept h) ≡ true → IsGoneAt t kept h p
  gone_found e =
      let k : PassesIn (is_cascade t) (λ k. list_any p (gone_at kept h k)) 0 64 = any_found (is_cascade t) (λ k. list_any p (gone_at kept h k)) 0 64 (sym any_gone ∙ e) in
      let g : PassesIn (is_gone kept h k.at) (passes_at k.at) 4096 12288 = any_found (is_gone kept h k.at) (passes_at k.at) 4096 12288 (sym (any_at k.at) ∙ k.passes) in
      record {
        port = k.at;
        group = g.at;
        low_port = (let l = k.high in omega (arith, l));
        cascade = k.kept;
        low = g.low;
        high = (let l = g.high in omega (arith, l));
        gone = g.kept;
        passes = g.passes;
      }

  pub gone_there : IsGoneAt t kept h p → list_any p (gone_groups t kept h) ≡ true
  gone_there r =
      let at : list_any p (gone_at kept h r.port) ≡ true =
      any_at r.port ∙ any_there (is_gone kept h r.port) (passes_at r.port) 4096 12288 r.group r.low (let l = r.high in omega (arith, l)) r.gone r.passes in
      any_gone ∙ any_there (is_cascade t) (λ k. list_any p (gone_at kept h k)) 0 64 r.port (omega arith) (let l = r.low_port in omega (arith, l)) r.cascade at

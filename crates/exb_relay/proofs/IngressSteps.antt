-- Which frames pass, in the steps in which code asks.
use Rattle.std.proofs.Common.{◌≡◌, ℕ, cond, Bool, true, false, not, ◌||◌, Option, Some, None, refl, sym, ap, ◌∙◌}
use Rattle.std.specs.Prelude.{is_some}
use Rattle.exb_model.specs.declared.frame_kind.Seen.{Seen}
use Rattle.exb_model.specs.declared.frame_kind.Seen.TheVariants as seen
use Rattle.exb_model.specs.declared.vlan.Kind.{Kind}
use Rattle.exb_model.specs.Configuration.{Bridge, kind_in, is_known}
use Rattle.exb_model.specs.Learning.{accepts_tagged, accepts_untagged, admitted, passes_as}
use Rattle.exb_config.specs.declared.members.Members.{Members}
use Rattle.exb_relay.specs.SendsBySource.{claimed, is_let_in, AreMembers}

-- the VLAN that a frame claims, where it is let in
abbrev pub let_in : Bridge → ℕ → Option ℕ → Option ℕ
let_in b p None = None
let_in b p (Some v) = cond (is_let_in b p v) (Some v) None

module _ (b : Bridge) (p : ℕ) where
  by_kind : (accepted : Bool) (v : ℕ) → admitted b p accepted v ≡ let_in b p (cond accepted (Some v) None)
  by_kind true v = refl
  by_kind false v = refl

  pub passes_claimed : (s : Seen) → passes_as b p s ≡ let_in b p (claimed b p s)
  passes_claimed seen.Short = refl
  passes_claimed seen.Long = refl
  passes_claimed seen.Reserved = refl
  passes_claimed seen.BadTag = refl
  passes_claimed seen.Plain = by_kind (accepts_untagged (b.rule p).accept) (b.rule p).pvid
  passes_claimed (seen.Priority pcp dei) = by_kind (accepts_untagged (b.rule p).accept) (b.rule p).pvid
  passes_claimed (seen.Tagged pcp dei v) = by_kind (accepts_tagged (b.rule p).accept) v

  -- whether it passes, by whether it is let in
  pub passes_by : (s : Seen) (v : ℕ) (c : Bool) → claimed b p s ≡ Some v → is_let_in b p v ≡ c → passes_as b p s ≡ cond c (Some v) None
  passes_by s v c is allowed = passes_claimed s ∙ ap (let_in b p) is ∙ ap (λ (c : Bool). cond c (Some v) None) allowed

  pub passes_none : (s : Seen) → claimed b p s ≡ None → passes_as b p s ≡ None
  passes_none s is = passes_claimed s ∙ ap (let_in b p) is

  -- a VLAN of the table is let in as the filter says by its members
  pub let_in_by : (v : ℕ) (m : Members) (c : Bool) → is_known b v ≡ true → AreMembers b v m → c ≡ (not (b.rule p).filter || is_some (kind_in m.tagged m.untagged p)) →
      c ≡ is_let_in b p v
  let_in_by v m c known members is = is ∙ (ap (λ (o : Option Kind). not (b.rule p).filter || is_some o) (members p) ∙ sym (rw known refl))

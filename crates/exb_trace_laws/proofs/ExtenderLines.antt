-- What extenders do is told: each word and each frame that they send has its line.
use Rattle.std.proofs.Common.{◌≡◌, ℕ, ◌%◌, ◌<◌, ◌≤◌, nat_lt, true, List, [], ◌∷◌, ◌++◌, map, slice_index, Option, Some, None, refl, ap, sym, ◌∙◌, subst, arith}
use Rattle.std.proofs.lemmas.Bool.{and_parts, ltb-true, lt-ltb}
use Rattle.exb_model.specs.declared.event.Event.{Event}
use Rattle.exb_model.specs.Tree.{Shape, HangsOn, IsTree, device, on, is_extender, is_port, port_number}
use Rattle.exb_extender.specs.declared.sends.Side.{Side}
use Rattle.exb_extender.specs.declared.sends.Side.TheVariants as side
use Rattle.exb_csp.specs.AllTables.{port_of}
use Rattle.exb_extender.specs.Forwarding.{Sent}
use Rattle.exb_extender.specs.Machine.{Reaction}
use Rattle.exb_link.specs.declared.link_frame.Stamp.{Stamp}
use Rattle.exb_world_spec.specs.Worlds.{World, Out, Line, with_far, moment_of}
use Rattle.exb_world_spec.specs.Effects.{each}
use Rattle.exb_world_spec.specs.ExtenderSteps.{hung_on, sent_at, sent_to, sends, does}
use Rattle.exb_world_spec.proofs.Trunks.{hung_is, extender_there}
use Rattle.exb_model.specs.Traces.{TraceLine}
use Rattle.exb_world_spec.specs.TraceLines.{side_number}
use Rattle.exb_model.specs.Traces as line
use Rattle.exb_trace_laws.proofs.ExtenderSides.{FitsSide, AllFit}
use Rattle.exb_trace_laws.proofs.EffectLines.{Tells, tells_each, put_down, put_up, let_out, nobody_hangs}

-- the line of what extender n sends
abbrev pub sent_line : ℕ → Sent → Line
sent_line n s = Out n s.side s.bytes

module _ (t : Shape) (tree : IsTree t) (C : TraceLine → Type 0) (D : Event → Type 0) (n : ℕ) (there : is_extender t n ≡ true) (few : slice_index t.ports n ≤ 64) where
  -- ---- ports of extender n
  some : 0 < n
  some = ltb-true 0 n (and_parts (nat_lt 0 n) (nat_lt 0 (slice_index t.ports n)) there).0

  has_port : (k : ℕ) → 0 < k → k ≤ slice_index t.ports n → is_port t (port_of n k) ≡ true
  has_port k low high =
      let d : device (port_of n k) ≡ n = omega (arith, few, high, low) in
      let m : port_of n k % 64 < slice_index t.ports n = omega (arith, few, high, low) in
      lt-ltb (port_of n k % 64) (slice_index t.ports (device (port_of n k))) (subst (λ (i : ℕ). port_of n k % 64 < slice_index t.ports i) (sym d) m)

  same_line : (k : ℕ) (f : List ℕ) → 0 < k → k ≤ slice_index t.ports n → line.Out n k f ≡ line.Out (device (port_of n k)) (port_number (port_of n k)) f
  same_line k f low high =
      let d : n ≡ device (port_of n k) = omega (arith, few, high, low) in
      let m : k ≡ port_number (port_of n k) = omega (arith, few, high, low) in
      ap (λ (i : ℕ). line.Out i k f) d ∙ ap (λ (j : ℕ). line.Out (device (port_of n k)) j f) m

  -- ---- sends
  at_tells : (k : ℕ) (o : Option ℕ) (stamp : Option Stamp) (f : List ℕ) (w : World) → hung_on t (port_of n k) ≡ o → 0 < k → k ≤ slice_index t.ports n → C (line.Out n k f) → Tells t C D w (sent_at n k o stamp f w)
  at_tells k None stamp f w e low high holds =
      let_out t C D tree (record { port = port_of n k; moment = moment_of stamp; bytes = f }) (Out n (side.Port k) f) w (nobody_hangs t (port_of n k) e (has_port k low high)) (same_line k f low high) holds
  at_tells k (Some m) stamp f w e low high holds =
      let h : HangsOn t m (port_of n k) = hung_is t (port_of n k) m e in
      let is : line.Out n k f ≡ line.Out (device (on t m)) (port_number (on t m)) f = same_line k f low high ∙ ap (λ (p : ℕ). line.Out (device p) (port_number p) f) (sym h.at) in
      put_down t C D tree m (record { bytes = f; stamp = stamp }) (Out n (side.Port k) f) w (extender_there t m (port_of n k) h) is holds

  to_tells : (s : Side) (stamp : Option Stamp) (f : List ℕ) (w : World) → FitsSide (slice_index t.ports n) s → C (line.Out n (side_number s) f) → Tells t C D w (sent_to t n stamp s f w)
  to_tells side.Up stamp f w fits holds = put_up t C D tree n (record { bytes = f; stamp = stamp }) (Out n side.Up f) w refl holds
  to_tells (side.Port k) stamp f w fits holds = at_tells k (hung_on t (port_of n k)) stamp f w refl fits.0 fits.1 holds

  -- what it sends, in order
  pub does_tells : (stamp : Option Stamp) (r : Reaction) (w : World) → AllFit (slice_index t.ports n) r.1 → ((s : Sent) → FitsSide (slice_index t.ports n) s.side → C (line.Out n (side_number s.side) s.bytes)) →
      Tells t C D (with_far n r.0 w) (does t n stamp r w)
  does_tells stamp r w fit holds =
      tells_each t C D (λ (s : Sent). FitsSide (slice_index t.ports n) s.side) (λ v. Unit {0}) (sends t n stamp) r.1 (with_far n r.0 w)
      (λ s v fits u. (to_tells s.side stamp s.bytes v fits (holds s fits), tt)) tt fit

-- ---- the lines
one_out : (t : Shape) (n : ℕ) (stamp : Option Stamp) (s : Side) (f : List ℕ) (w : World) → (sent_to t n stamp s f w).outs ≡ Out n s f ∷ []
one_out t n stamp side.Up f w = refl
one_out t n stamp (side.Port k) f w = by_hung (hung_on t (port_of n k))
  where
    by_hung : (o : Option ℕ) → (sent_at n k o stamp f w).outs ≡ Out n (side.Port k) f ∷ []
    by_hung None = refl
    by_hung (Some m) = refl

pub each_out : (t : Shape) (n : ℕ) (stamp : Option Stamp) (ss : List Sent) (w : World) → (each (sends t n stamp) ss w).outs ≡ map (sent_line n) ss
each_out t n stamp [] w = refl
each_out t n stamp (s ∷ ss) w =
    ap (λ zs. zs ++ (each (sends t n stamp) ss (sends t n stamp s w).world).outs) (one_out t n stamp s.side s.bytes w)
    ∙ ap (λ zs. sent_line n s ∷ zs) (each_out t n stamp ss (sends t n stamp s w).world)

-- and no event
pub none_happen : (t : Shape) (n : ℕ) (stamp : Option Stamp) (ss : List Sent) (w : World) → (each (sends t n stamp) ss w).events ≡ []
none_happen t n stamp [] w = refl
none_happen t n stamp (s ∷ ss) w = ap (λ zs. zs ++ (each (sends t n stamp) ss (sends t n stamp s w).world).events) (one s.side w) ∙ none_happen t n stamp ss (sends t n stamp s w).world
  where
    by_hung : (k : ℕ) (o : Option ℕ) (v : World) → (sent_at n k o stamp s.bytes v).events ≡ []
    by_hung k None v = refl
    by_hung k (Some m) v = refl

    one : (x : Side) (v : World) → (sent_to t n stamp x s.bytes v).events ≡ []
    one side.Up v = refl
    one (side.Port k) v = by_hung k (hung_on t (port_of n k)) v

-- the extenders stay as they are
pub each_far : (t : Shape) (n : ℕ) (stamp : Option Stamp) (ss : List Sent) (w : World) → (each (sends t n stamp) ss w).world.far ≡ w.far
each_far t n stamp [] w = refl
each_far t n stamp (s ∷ ss) w = each_far t n stamp ss (sends t n stamp s w).world ∙ one s.side w
  where
    by_hung : (k : ℕ) (o : Option ℕ) (v : World) → (sent_at n k o stamp s.bytes v).world.far ≡ v.far
    by_hung k None v = refl
    by_hung k (Some m) v = refl

    one : (x : Side) (v : World) → (sent_to t n stamp x s.bytes v).world.far ≡ v.far
    one side.Up v = refl
    one (side.Port k) v = by_hung k (hung_on t (port_of n k)) v

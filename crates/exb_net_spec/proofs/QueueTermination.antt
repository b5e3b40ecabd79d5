-- Queues end: what crosses a wire goes deeper and deeper.
use Rattle.std.proofs.Common.{◌≡◌, ℕ, zero, suc, ◌+◌, ◌-◌, ◌<◌, ◌++◌, List, [], ◌∷◌, length, Option, Some, None, refl, ap, sym, ◌∙◌, subst, arith, inl, inr}
use Rattle.std.specs.Prelude.{flat_map}
use Rattle.std.proofs.lemmas.List.{append_assoc, append-nil}
use Rattle.exb_model.specs.declared.event.Event.{Event}
use Rattle.exb_model.specs.declared.event.Event.TheVariants as event
use Rattle.exb_model.specs.EagerHistory.{arrival_event}
use Rattle.exb_model.specs.FlatBridge.{Sent, sent_by}
use Rattle.exb_model.specs.History.{History, bridge_after}
use Rattle.exb_model.specs.declared.arrival.Arrival.{Arrival}
use Rattle.exb_model.specs.Learning.{learned}
use Rattle.exb_model.specs.Tree.{external_ports}
use Rattle.exb_model.specs.Input.{tree_of}
use Rattle.exb_net_spec.specs.declared.wires.End.{End}
use Rattle.exb_net_spec.specs.Nets.{Net, far_end}
use Rattle.exb_net_spec.specs.NetHistory.{Crossing, Due, Histories, IsDrained, arrival_of, basis_in, crosses, delivered_times, due_second, dues, event_of, grown_by, openings, ticked, with_history, Goes, GoesSince}
use Rattle.exb_net_spec.specs.QueueTermination.{QueuesEnd, NetsHaveHistories}
use Rattle.exb_net_spec.proofs.NothingSentBack.{nothing_goes_back}
use Rattle.exb_net_spec.proofs.Forest.{IsRooted, forest}
use Rattle.exb_net_spec.proofs.EmptyQueues.{twice}

module _ (n : Net) (r : ℕ) (R : IsRooted n.wires r) where
  -- it came deeper over a wire
  record IsDown (x : Crossing) : Type 0 where
    from : ℕ
    port : ℕ
    over : far_end n.wires from port ≡ Some (record { bridge = x.bridge; port = x.port })
    down : R.depth x.bridge ≡ suc (R.depth from)

  -- with fewer than k depths to go
  abbrev IsLow : ℕ → Crossing → Type 0
  IsLow k x = IsDown x × (R.most < R.depth x.bridge + k)

  abbrev AllLow : ℕ → List Crossing → Type 0
  AllLow k [] = Unit {0}
  AllLow k (x ∷ xs) = IsLow k x × AllLow k xs

  low_both : (k : ℕ) (xs ys : List Crossing) → AllLow k xs → AllLow k ys → AllLow k (xs ++ ys)
  low_both k [] ys a b = b
  low_both k (x ∷ xs) ys a b = (a.0, low_both k xs ys a.1 b)

  low_flat : (k : ℕ) (f : ℕ → List Crossing) → ((q : ℕ) → AllLow k (f q)) → (qs : List ℕ) → AllLow k (flat_map f qs)
  low_flat k f all [] = tt
  low_flat k f all (q ∷ qs) = low_both k (f q) (flat_map f qs) (all q) (low_flat k f all qs)

  crosses_low : (k b q : ℕ) (e : End) (xs : List Sent) → far_end n.wires b q ≡ Some e → R.depth e.bridge ≡ suc (R.depth b) → R.most < R.depth b + suc k → AllLow k (crosses (Some e) xs)
  crosses_low k b q e [] over down room = tt
  crosses_low k b q e (x ∷ xs) over down room = ((record { from = b; port = q; over = over; down = down }, omega (arith, down, room)), crosses_low k b q e xs over down room)

  -- at a port that leads up nothing is sent
  port_low : (k b q : ℕ) (xs : List Sent) → R.most < R.depth b + suc k → ((e : End) → far_end n.wires b q ≡ Some e → R.depth b ≡ suc (R.depth e.bridge) → xs ≡ []) → AllLow k (crosses (far_end n.wires b q) xs)
  port_low k b q xs room none = by_option (far_end n.wires b q) refl
    where
      by_option : (o : Option End) → far_end n.wires b q ≡ o → AllLow k (crosses o xs)
      by_option None is = tt
      by_option (Some e) is =
          elim (R.step b q e is) [
            | inl down ↦ crosses_low k b q e xs is down room
            | inr up ↦ subst (λ (zs : List Sent). AllLow k (crosses (Some e) zs)) (sym (none e is up)) tt
          ]

  grown_low : (k b : ℕ) (h : History) (a : Arrival) → R.most < R.depth b + suc k → ((q : ℕ) (e : End) → far_end n.wires b q ≡ Some e → R.depth b ≡ suc (R.depth e.bridge) → q ≡ a.port) →
      AllLow k (grown_by n b h (arrival_event (bridge_after (basis_in n b) h) a))
  unfolding grown_by
  grown_low k b h a room only =
      let ev : Event = arrival_event (bridge_after (basis_in n b) h) a in
      low_flat k (λ q. crosses (far_end n.wires b q) (sent_by (bridge_after (basis_in n b) h) (learned (basis_in n b) h) ev q))
      (λ q. port_low k b q (sent_by (bridge_after (basis_in n b) h) (learned (basis_in n b) h) ev q) room
      (λ e is up. ap (sent_by (bridge_after (basis_in n b) h) (learned (basis_in n b) h) ev) (only q e is up) ∙ nothing_goes_back (bridge_after (basis_in n b) h) (learned (basis_in n b) h) a)) (external_ports (tree_of (n.input b)))

  no_up : (x : ℕ) → 0 ≡ suc x → ⊥
  no_up x e = omega (arith, e)

  first_low : (h : History) (e : Event) → AllLow (suc R.most) (grown_by n r h e)
  unfolding grown_by
  first_low h e =
      low_flat (suc R.most) (λ q. crosses (far_end n.wires r q) (sent_by (bridge_after (basis_in n r) h) (learned (basis_in n r) h) e q))
      (λ q. port_low (suc R.most) r q (sent_by (bridge_after (basis_in n r) h) (learned (basis_in n r) h) e q) (omega arith) (λ f is up. absurd (no_up (R.depth f.bridge) (sym R.root ∙ up)))) (external_ports (tree_of (n.input r)))

  -- all that is in the queue arrives
  record IsThrough (k : ℕ) (xs ys : List Crossing) (hs : Histories) : Type 0 where
    next : Histories
    queue : List Crossing
    is : delivered_times n (length xs) (record { histories = hs; queue = xs ++ ys }) ≡ record { histories = next; queue = queue }
    low : AllLow k queue

  through : (k : ℕ) (xs ys : List Crossing) (hs : Histories) → AllLow (suc k) xs → AllLow k ys → IsThrough k xs ys hs
  unfolding delivered_times
  through k [] ys hs a b = record { next = hs; queue = ys; is = refl; low = b }
  through k (x ∷ xs) ys hs a b =
      let h : History = hs x.bridge in
      let ev : Event = arrival_event (bridge_after (basis_in n x.bridge) h) (arrival_of x h) in
      let hs1 : Histories = with_history x.bridge (event.Settled ∷ ev ∷ h) hs in
      let g : List Crossing = grown_by n x.bridge h ev in
      let d : IsDown x = a.0.0 in
      let g_low : AllLow k g = grown_low k x.bridge h (arrival_of x h) a.0.1 (λ q e is up. R.back d.from d.port (record { bridge = x.bridge; port = x.port }) d.over d.down q e is up) in
      let rest = through k xs (ys ++ g) hs1 a.1 (low_both k ys g b g_low) in
      record {
        next = rest.next;
        queue = rest.queue;
        is = ap (λ (q : List Crossing). delivered_times n (length xs) (record { histories = hs1; queue = q })) (append_assoc xs ys g) ∙ rest.is;
        low = rest.low;
      }

  drains : (k : ℕ) (xs : List Crossing) (hs : Histories) → AllLow k xs → (next : Histories) × IsDrained n (record { histories = hs; queue = xs }) next
  unfolding delivered_times
  drains zero [] hs all = (hs, record { times = 0; is = refl })
  drains zero (x ∷ xs) hs all = absurd (let a = all.0.1 in let b = R.low x.bridge in omega (arith, a, b))
  drains (suc k) xs hs all =
      let t = through k xs [] hs all tt in
      let rest = drains k t.queue t.next t.low in
      let first : delivered_times n (length xs) (record { histories = hs; queue = xs }) ≡ record { histories = t.next; queue = t.queue } =
      ap (λ (q : List Crossing). delivered_times n (length xs) (record { histories = hs; queue = q })) (sym (append-nil xs)) ∙ t.is in
      (rest.0, record { times = length xs + rest.1.times; is = sym (twice n rest.1.times (length xs) (record { histories = hs; queue = xs })) ∙ (ap (delivered_times n rest.1.times) first ∙ rest.1.is) })

pub queues_end : QueuesEnd
queues_end n net d hs =
    let R : IsRooted n.wires d.bridge = (forest n.wires net.loops).rooted d.bridge in
    let ev : Event = event_of n d.bridge (hs d.bridge) d.coming in
    drains n d.bridge R (suc R.most) (grown_by n d.bridge (hs d.bridge) ev) (with_history d.bridge (event.Settled ∷ ev ∷ hs d.bridge) hs) (first_low n d.bridge R (hs d.bridge) ev)

pub nets_have_histories : NetsHaveHistories
nets_have_histories n net = (let g = goes (dues n) in (g.0, record { goes = g.1 }))
  where
    since : (ds : List Due) (second : ℕ) (hs : Histories) → (next : Histories) × GoesSince n second ds hs next
    since [] second hs = (hs, refl)
    since (d ∷ ds) second hs =
        let one = queues_end n net d (ticked (due_second d - second) hs) in
        let rest = since ds (due_second d) one.0 in
        (rest.0, (one.0, one.1, rest.1))

    goes : (ds : List Due) → (next : Histories) × Goes n ds (openings n) next
    goes [] = (openings n, refl)
    goes (d ∷ ds) = since (d ∷ ds) (due_second d) (openings n)

-- A frame that leaves at each port of a row.
use Rattle.std.proofs.Common.{◌≡◌, ℕ, ◌+◌, ◌-◌, ◌*◌, ◌<◌, ◌≤◌, false, List, [], ◌∷◌, ◌++◌, length, map, drop, take, get_or, refl, ap, sym, subst, ◌∙◌, arith, append_assoc, append-nil}
use Rattle.std.specs.Prelude.{Option, Some, None}
use Rattle.std.proofs.lemmas.Bool.{both_ways}
use Rattle.std.proofs.lemmas.List.{drop_all, drop_more, length-append, length-map, map-append, take_more}
use Rattle.exb_csp.specs.AllTables.{port_of}
use Rattle.exb_extender.specs.declared.sends.Out.{Out}
use Rattle.exb_extender.specs.declared.sends.Side.TheVariants.{Port}
use Rattle.exb_extender.specs.Forwarding.{Sent}
use Rattle.exb_extender.specs.SentFrames.{out_sent}
use Rattle.exb_link.specs.declared.link_frame.Stamp.{Stamp}
use Rattle.exb_world_spec.specs.Effects.{Effect, only, each, joined, then_do}
use Rattle.exb_world_spec.specs.ExtenderSteps.{hung_on, sends, sent_at}
use Rattle.exb_model.specs.Tree.{port_number, Shape, IsTree, device, is_cascade}
use Rattle.exb_world_spec.specs.TraceLines.{all_told, told}
use Rattle.exb_world_spec.specs.Worlds.{World, Line, moment_of}
use Rattle.exb_world_spec.specs.Worlds.{Left as Leaving, Out as LineOut}
use Rattle.exb_world_spec.proofs.Trunks.{hung_is}
use Rattle.exb_model.specs.ETags.{stripped}
use Rattle.exb_model.specs.Traces.{TraceLine}
use Rattle.exb_model.proofs.TreeTrunks.{hung_cascade}
use Rattle.exb_outbox.specs.declared.log.Left.{Left}
use Rattle.exb_outbox.specs.declared.log.Log.{Log}
use Rattle.exb_bridge.specs.BridgeWorlds.{Whole}
use Rattle.exb_extender.specs.Forms.{CanGo}
use Rattle.exb_bridge.specs.RemainingEffects.{Leads}
use Rattle.exb_world.specs.ExtenderEgress.{row_sent, AreOuter, GoesBehind, IsOuter, Joins}
use Rattle.exb_outbox.specs.PortMaps.{Row, ports_in, HasSome}
use Rattle.exb_bridge.specs.TreeIndexes.{Site}
use Rattle.exb_outbox.specs.Logs.{if_tracing, row_outs}
use Rattle.exb_bridge.specs.BridgeWorlds.{world_in, all_left, copies_of, IsAt, Does}
use Rattle.exb_bridge.proofs.PartChanges.{left_more}
use Rattle.exb_bridge.proofs.RemainingEffects.{each_parts, leads_end, leads_on}

-- ---- what has left
-- how many, with one row more
pub counted_more : (left : List Left) (i : ℕ) (x : Left) → i < length left → x ≡ get_or left i x → (n m : ℕ) → n ≡ length (all_left (take i left)) → m ≡ length (ports_in x.row) →
    n + m ≡ length (all_left (take (i + 1) left))
counted_more left i x inside is n m before this =
    let all : length (all_left (take (i + 1) left)) ≡ length (all_left (take i left) ++ copies_of x) =
    ap (λ (ys : List Left). length (all_left ys)) (take_more left i x inside ∙ ap (λ (y : Left). take i left ++ y ∷ []) (sym is)) ∙ ap (λ (zs : List Leaving). length zs) (left_more (take i left) x) in
    let both = length-append (all_left (take i left)) (copies_of x) in
    let copy : ℕ → Leaving = λ (q : ℕ). record { port = q; moment = x.moment; bytes = x.bytes } in
    let ports : length (copies_of x) ≡ length (ports_in x.row) = length-map (ports_in x.row) copy in
    omega (arith, all, both, ports, before, this)

-- ---- at ports on which no extender hangs
outer_none : (t : Shape) → IsTree t → (p : ℕ) → is_cascade t p ≡ false → hung_on t p ≡ None
outer_none t tree p bare = by_hung (hung_on t p) refl
  where
    by_hung : (x : Option ℕ) → hung_on t p ≡ x → x ≡ None
    by_hung None e = refl
    by_hung (Some n) e = absurd (both_ways (is_cascade t p) bare (hung_cascade t tree n p (hung_is t p n e)))

pub bare_port : (t : Shape) → IsTree t → (n k p : ℕ) → p ≡ 64 * n + (k - 1) → is_cascade t p ≡ false → hung_on t (port_of n k) ≡ None
bare_port t tree n k p is bare = outer_none t tree (port_of n k) (subst (λ (q : ℕ). is_cascade t q ≡ false) is bare)

-- what leaves
abbrev left_at_ports : Option Stamp → List ℕ → List ℕ → List Leaving
left_at_ports stamp bytes ports = map (λ (q : ℕ). record { port = q; moment = moment_of stamp; bytes = bytes }) ports

abbrev lines_at_ports : ℕ → List ℕ → List ℕ → List Line
lines_at_ports n bytes ports = map (λ (q : ℕ). LineOut n (Port (port_number q)) bytes) ports

port_is : (n q : ℕ) → device q ≡ n → port_of n (port_number q) ≡ q
port_is n q is = omega (arith, is)

module _ (t : Shape) (n : ℕ) (stamp : Option Stamp) (f : List ℕ) where
  abbrev left_by : List ℕ → World → Effect
  left_by ports w = record { world = w; events = []; passed = []; left = left_at_ports stamp (stripped f) ports; outs = lines_at_ports n (stripped f) ports }

  leaves_one : (q : ℕ) (w : World) → IsOuter t n f q →
      sends t n stamp (record { side = Port (port_number q); bytes = stripped f }) w ≡ left_by (q ∷ []) w
  leaves_one q w o =
      let same = port_is n q o.device in
      ap (λ (p : ℕ). sent_at n (port_number q) (hung_on t p) stamp (stripped f) w) same
      ∙ ap (λ (h : Option ℕ). sent_at n (port_number q) h stamp (stripped f) w) o.bare
      ∙ ap (λ (p : ℕ). record (left_by (q ∷ []) w) { left = record { port = p; moment = moment_of stamp; bytes = stripped f } ∷ [] }) same

  leaves_all : (ports : List ℕ) (w : World) → AreOuter t n f ports → each (sends t n stamp) (row_sent f ports) w ≡ left_by ports w
  leaves_all [] w outer = refl
  leaves_all (q ∷ qs) w outer =
      ap (λ (e : Effect). then_do e (each (sends t n stamp) (row_sent f qs))) (leaves_one q w outer.0)
      ∙ ap (λ (e : Effect). joined (left_by (q ∷ []) w) e) (leaves_all qs w outer.1)

  lines_told : (ports : List ℕ) → AreOuter t n f ports → all_told (lines_at_ports n (stripped f) ports) ≡ row_outs (stripped f) ports
  lines_told [] outer = refl
  lines_told (q ∷ qs) outer =
      ap (λ (ls : List TraceLine). told (LineOut n (Port (port_number q)) (stripped f)) ∷ ls) (lines_told qs outer.1)
      ∙ ap (λ (d : ℕ). told (LineOut d (Port (port_number q)) (stripped f)) ∷ row_outs (stripped f) qs) (sym outer.0.device)

  -- it leaves at all of them
  pub row_leaves : (s : Site) (c : Whole) (r : Row) (old new : Log) (bytes : List ℕ) → IsAt s c → AreOuter t n f (ports_in r) → bytes ≡ stripped f →
      new.left ≡ old.left ++ record { row = r; moment = moment_of stamp; bytes = bytes } ∷ [] →
      new.outs.items ≡ old.outs.items ++ if_tracing old.tracing (row_outs bytes (ports_in r)) →
      new.events ≡ old.events → new.passed ≡ old.passed → new.lines ≡ old.lines → new.tracing ≡ old.tracing →
      Does (each (sends t n stamp) (row_sent f (ports_in r)) (world_in c)) s c old new
  row_leaves s c r old new bytes is outer same left outs events passed lines tracing =
      subst (λ (e : Effect). Does e s c old new) (sym (leaves_all (ports_in r) (world_in c) outer))
      (record {
        world = refl;
        events = events ∙ sym (append-nil old.events);
        passed = passed ∙ sym (append-nil old.passed);
        left =
            ap all_left left
            ∙ left_more old.left (record { row = r; moment = moment_of stamp; bytes = bytes })
            ∙ ap (λ (b : List ℕ). all_left old.left ++ left_at_ports stamp b (ports_in r)) same;
        outs =
            outs
            ∙ ap (λ (b : List ℕ). old.outs.items ++ if_tracing old.tracing (row_outs b (ports_in r))) same
            ∙ ap (λ (ls : List TraceLine). old.outs.items ++ if_tracing old.tracing ls) (sym (lines_told (ports_in r) outer));
        lines = lines;
        tracing = tracing;
        at = is;
      })

  -- at none
  pub none_leave : (s : Site) (c : Whole) (ports : List ℕ) (log : Log) → IsAt s c → ports ≡ [] → Does (only (world_in c)) s c log log → Does (each (sends t n stamp) (row_sent f ports) (world_in c)) s c log log
  none_leave s c ports log is none nothing = subst (λ (qs : List ℕ). Does (each (sends t n stamp) (row_sent f qs) (world_in c)) s c log log) (sym none) nothing

-- the frame is long enough, where there is a port
pub row_long : (t : Shape) (n : ℕ) (f ports : List ℕ) → HasSome ports → AreOuter t n f ports → 20 ≤ length f
row_long t n f ports some outer = let all : AreOuter t n f (some.first ∷ some.rest) = subst (AreOuter t n f) some.is outer in all.0.long

-- ---- one after another
outer_more : (t : Shape) (n : ℕ) (f ports : List ℕ) (q : ℕ) → AreOuter t n f ports → IsOuter t n f q → AreOuter t n f (ports ++ q ∷ [])
outer_more t n f [] q all one = (one, tt)
outer_more t n f (p ∷ ps) q all one = (all.0, outer_more t n f ps q all.1 one)

module _ (s : Site) (n : ℕ) (stamp : Option Stamp) (f : List ℕ) (out : Out) (old new : Row) (joins : Joins s.tree n out old new) where
  long : CanGo f out → 20 ≤ length f
  long can = (subst (CanGo f) joins.is can).form

  device_there : (k : ℕ) → 0 < k → k ≤ 64 → device (port_of n k) ≡ n
  device_there k some low = omega (arith, some, low)

  number_there : (k : ℕ) → 0 < k → k ≤ 64 → port_number (port_of n k) ≡ k
  number_there k some low = omega (arith, some, low)

  pub joined_outer : CanGo f out → AreOuter s.tree n f (ports_in old) → AreOuter s.tree n f (ports_in new)
  joined_outer can outer =
      subst (AreOuter s.tree n f) (sym joins.at.ports)
      (outer_more s.tree n f (ports_in old) (port_of n joins.port) outer
      (record { device = device_there joins.port joins.some joins.low; bare = joins.at.bare; long = long can }))

  out_is : out_sent f out ≡ record { side = Port (port_number (port_of n joins.port)); bytes = stripped f }
  out_is =
      ap (out_sent f) joins.is
      ∙ ap (λ (k : ℕ). record { side = Port k; bytes = stripped f }) (sym (number_there joins.port joins.some joins.low))

  row_is : (rest : List Sent) → row_sent f (ports_in old) ++ out_sent f out ∷ rest ≡ row_sent f (ports_in new) ++ rest
  row_is rest =
      let q : ℕ = port_of n joins.port in
      let one : Sent = record { side = Port (port_number q); bytes = stripped f } in
      ap (λ (x : Sent). row_sent f (ports_in old) ++ x ∷ rest) out_is
      ∙ sym (append_assoc (row_sent f (ports_in old)) (one ∷ []) rest)
      ∙ ap (λ (xs : List Sent). xs ++ rest) (sym (map-append (λ (p : ℕ). record { side = Port (port_number p); bytes = stripped f }) (ports_in old) (q ∷ [])))
      ∙ ap (λ (qs : List ℕ). row_sent f qs ++ rest) (sym joins.at.ports)

  pub joined_behind : (c : Whole) (log : Log) → IsAt s c → old.device ≡ n → GoesBehind s stamp f out old new c c log log
  joined_behind c log is there =
      record {
        at = is;
        leads = λ whole first rest leads.
            subst (λ (xs : List Sent). Leads whole (each (sends s.tree old.device stamp) xs (world_in c)) first log) (row_is rest) leads;
      }

-- it leaves at the ports of the row, and then goes out
pub went_behind : (s : Site) (stamp : Option Stamp) (f : List ℕ) (out : Out) (old new : Row) (b c d : Whole) (before told after : Log) → ports_in new ≡ [] →
    Does (each (sends s.tree old.device stamp) (row_sent f (ports_in old)) (world_in b)) s c before told →
    Does (sends s.tree old.device stamp (out_sent f out) (world_in c)) s d told after → GoesBehind s stamp f out old new b d before after
went_behind s stamp f out old new b c d before told after none first second =
    let g = sends s.tree old.device stamp in
    record {
      at = second.at;
      leads = λ whole start rest leads.
          let row = row_sent f (ports_in old) in
          let parts : Leads whole (then_do (each g row (world_in b)) (each g (out_sent f out ∷ rest))) start before =
          subst (λ (e : Effect). Leads whole e start before) (each_parts g row (out_sent f out ∷ rest) (world_in b)) leads in
          let one : Leads whole (then_do (g (out_sent f out) (world_in c)) (each g rest)) start told = leads_on whole (each g row (world_in b)) (each g (out_sent f out ∷ rest)) s c start before told parts first in
          let two : Leads whole (each g rest (world_in d)) start after = leads_on whole (g (out_sent f out) (world_in c)) (each g rest) s d start told after one second in
          subst (λ (qs : List ℕ). Leads whole (each g (row_sent f qs ++ rest) (world_in d)) start after) (sym none) two;
    }

-- ---- one out after another
pub behind_next : (s : Site) (n : ℕ) (stamp : Option Stamp) (f : List ℕ) (outs : List Out) (i : ℕ) (d : Out) (old new : Row) (b c : Whole) (whole : Effect) (first before after : Log) → i < length outs → old.device ≡ n →
    GoesBehind s stamp f (get_or outs i d) old new b c before after →
    Leads whole (each (sends s.tree n stamp) (row_sent f (ports_in old) ++ map (out_sent f) (drop i outs)) (world_in b)) first before →
    Leads whole (each (sends s.tree n stamp) (row_sent f (ports_in new) ++ map (out_sent f) (drop (i + 1) outs)) (world_in c)) first after
behind_next s n stamp f outs i d old new b c whole first before after inside own behind leads =
    let rest : List Sent = map (out_sent f) (drop (i + 1) outs) in
    let cons : map (out_sent f) (drop i outs) ≡ out_sent f (get_or outs i d) ∷ rest = ap (map (out_sent f)) (drop_more outs i d inside) in
    let one : Leads whole (each (sends s.tree n stamp) (row_sent f (ports_in old) ++ out_sent f (get_or outs i d) ∷ rest) (world_in b)) first before =
    subst (λ (xs : List Sent). Leads whole (each (sends s.tree n stamp) (row_sent f (ports_in old) ++ xs) (world_in b)) first before) cons leads in
    let two : Leads whole (each (sends s.tree old.device stamp) (row_sent f (ports_in old) ++ out_sent f (get_or outs i d) ∷ rest) (world_in b)) first before =
    subst (λ (m : ℕ). Leads whole (each (sends s.tree m stamp) (row_sent f (ports_in old) ++ out_sent f (get_or outs i d) ∷ rest) (world_in b)) first before) (sym own) one in
    subst (λ (m : ℕ). Leads whole (each (sends s.tree m stamp) (row_sent f (ports_in new) ++ rest) (world_in c)) first after) own (behind.leads whole first rest two)

pub behind_last : (s : Site) (n : ℕ) (stamp : Option Stamp) (f : List ℕ) (outs : List Out) (i : ℕ) (row : Row) (c : Whole) (whole : Effect) (first before after : Log) → length outs ≤ i →
    Leads whole (each (sends s.tree n stamp) (row_sent f (ports_in row) ++ map (out_sent f) (drop i outs)) (world_in c)) first before →
    Does (each (sends s.tree n stamp) (row_sent f (ports_in row)) (world_in c)) s c before after → Does whole s c first after
behind_last s n stamp f outs i row c whole first before after end leads last =
    let none : row_sent f (ports_in row) ++ map (out_sent f) (drop i outs) ≡ row_sent f (ports_in row) =
    ap (λ (xs : List Out). row_sent f (ports_in row) ++ map (out_sent f) xs) (drop_all i outs end) ∙ append-nil (row_sent f (ports_in row)) in
    leads_end whole (each (sends s.tree n stamp) (row_sent f (ports_in row)) (world_in c)) s c first before after
    (subst (λ (xs : List Sent). Leads whole (each (sends s.tree n stamp) xs (world_in c)) first before) none leads) last

-- The tables have just the rows of what is held.
use Rattle.std.proofs.Common.{◌≡◌, ◌≢◌, ℕ, ◌+◌, ◌-◌, ◌%◌, ◌<◌, ◌≤◌, ◌==◌, ◌&&◌, ◌||◌, cond, Bool, true, false, not, List, [], Option, Some, None, sym, ◌∙◌, ap, subst, arith, inl, inr, eq-eqb}
use Rattle.std.specs.Prelude.{bytes_eq}
use Rattle.std.specs.List.{list_any}
use Rattle.std.proofs.lemmas.Bool.{eqb-true, and_from, and_parts, and_left, or_right, or_cases, or_from, false≢true}
use Rattle.exb_model.specs.Tree.{Shape, device, path, trunk, is_port, is_cascade, is_under, is_cascade_under}
use Rattle.exb_model.specs.TreeSets.{covers}
use Rattle.exb_model.specs.ExtenderForwarding.{Tables}
use Rattle.exb_model.specs.Configuration.{Bridge}
use Rattle.exb_model.specs.Refusals.{sets_at}
use Rattle.exb_model.proofs.TreeWays.{among, covers-true}
use Rattle.exb_csp.proofs.ExecutionLaws.{or_false, and_true}
use Rattle.exb_control_spec.specs.Plans.LaidRows.{IsLaid, IsFree, SendsOn, is_port_under}
use Rattle.exb_control_spec.proofs.Plans.TreeWays.{from_test, from_under, from_cascade}
use Rattle.exb_csp.specs.AllTables.{tables_at, port_of}
use Rattle.exb_control_spec.specs.Plans.HeldNumbers.{Held, group_used, needs_channel}
use Rattle.exb_model.specs.Lists.{is_listed}
use Rattle.exb_control_spec.proofs.Plans.Trunks.{port_extender, under_extended}
use Rattle.exb_control_spec.proofs.Plans.GroupOwners.{owns_from}
use Rattle.exb_control_spec.specs.Decisions.{channel_of}
use Rattle.exb_control_spec.specs.Runs.LaidTables.{by_extender, is_shown, channel_pair, group_pair, laid_by, laid}
use Rattle.exb_control_spec.specs.Runs.Requests.{IsLaidOut, RestIsLaidOut}
use Rattle.exb_control_spec.proofs.Runs.Bools.{none_there}
use Rattle.exb_control_spec.proofs.Plans.OptionalNumbers.{some_is}
use Rattle.exb_control_spec.proofs.Runs.EqualTables.{port_there, port_back}
use Rattle.exb_control_spec.proofs.Runs.PortsAbove.{ways}
use Rattle.exb_control_spec.proofs.Runs.ChannelRuns.{covers_none}
use Rattle.exb_control_spec.proofs.Runs.Members.{LiesBelow, set_lies}
use Rattle.exb_control_spec.proofs.Runs.GroupRows.{no_channel}
use Rattle.exb_control_spec.proofs.Runs.ReachedSets.{member_reached}
use Rattle.exb_control_spec.proofs.Runs.NeededChannels.{Stands, HasChannel, stands_from, has_channel, cascade_needs}

-- ---- the tables of all extenders, port by port
module _ (t : Shape) (x : Tables) (q : ℕ) (deep : 64 ≤ q) (known : is_port t q ≡ true) where
  own_at : (tables_at (by_extender t x)).own q ≡ x.own q
  own_at = ap (λ b. cond b (x.own (port_of (device q) (q % 64 + 1))) 0) (port_there t q deep known) ∙ ap x.own (port_back q)

  kind_at : (tables_at (by_extender t x)).cascade q ≡ x.cascade q
  kind_at = ap (λ b. b && x.cascade (port_of (device q) (q % 64 + 1))) (port_there t q deep known) ∙ ap x.cascade (port_back q)

  pair_at : (e : ℕ) → (tables_at (by_extender t x)).pair e q ≡ x.pair e q
  pair_at e = ap (λ b. b && x.pair e (port_of (device q) (q % 64 + 1))) (port_there t q deep known) ∙ ap (x.pair e) (port_back q)

module _ (t : Shape) (opened : ℕ → Bool) (b : Bridge) (h : Held) (s : Stands t opened b h) where
  -- a cascade port of an opened extender sends on
  sends_on : (number q : ℕ) → 64 ≤ q → is_port t q ≡ true → is_cascade t q ≡ true → opened (device q) ≡ true → channel_of t h q ≢ number → SendsOn (tables_at (laid t opened h)) number q
  sends_on number q deep known cascade there other =
      let shown : is_shown t opened q ≡ true = or_right (not (is_cascade t q)) (opened (device q)) there in
      let own : (tables_at (laid t opened h)).own q ≡ channel_of t h q =
      own_at t (laid_by t (is_shown t opened) h) q deep known ∙ ap (λ b. cond b (channel_of t h q) 0) shown in
      let c = has_channel t opened b h s q deep known (cascade_needs t opened b h s q deep known cascade) in
      let low : 1 ≤ channel_of t h q = c.from1 in
      record {
        kind = kind_at t (laid_by t (is_shown t opened) h) q deep known ∙ and_from (is_cascade t q) (is_shown t opened q) cascade shown;
        channel = omega (arith, own, low);
        other = λ e. other (sym own ∙ e);
      }

  -- a number that isn't held
  pub none_laid : (k e : ℕ) → h.port k e ≡ None → h.set k e ≡ [] → IsFree t (tables_at (laid t opened h)) k e
  none_laid k e none empty q under =
      let u = from_test t k q under in
      pair_at t (laid_by t (is_shown t opened) h) q u.deep u.known e
      ∙ or_from _ _ (ap (channel_pair t (is_shown t opened) q) (ap (λ (m : ℕ). h.port m e) u.at ∙ none))
      (ap (group_pair t q) (ap (λ (m : ℕ). h.set m e) u.at ∙ empty) ∙ covers_none t q)

  -- ---- groups
  pub group_laid : (k g : ℕ) → k < 64 → is_cascade t k ≡ true → group_used h k g ≡ true → LiesBelow t b (record { bridge_port = k + 1; ports = h.set k g }) →
      IsLaid t (tables_at (laid t opened h)) k (is_listed (h.set k g)) g
  group_laid k g low cascade used lies = record { rows = rows; ways = sends; kinds = kinds; channels = channels }
    where
      number : 4096 ≤ g
      number = s.low k g low cascade used

      back : k + 1 - 1 ≡ k
      back = omega arith

      under_is : (q : ℕ) → is_listed (h.set k g) q ≡ true → is_under t k q ≡ true
      under_is q e = subst (λ (m : ℕ). is_under t m q ≡ true) back (lies.under q e)

      rows : (q : ℕ) → is_port_under t k q ≡ true → (tables_at (laid t opened h)).pair g q ≡ covers t (is_listed (h.set k g)) q
      rows q under =
          let u = from_test t k q under in
          pair_at t (laid_by t (is_shown t opened) h) q u.deep u.known g
          ∙ (ap (λ (o : Option ℕ). channel_pair t (is_shown t opened) q o || group_pair t q (h.set (trunk t (device q)) g)) (no_channel t opened b h s q g u.deep u.known number)
          ∙ ap (λ (m : ℕ). group_pair t q (h.set m g)) u.at)

      sends : (q : ℕ) → is_cascade_under t k q ≡ true → covers t (is_listed (h.set k g)) q ≡ true → is_listed (h.set k g) q ≡ false → SendsOn (tables_at (laid t opened h)) g q
      sends q under covered out =
          let u = from_cascade t k q under in
          let c = covers-true t (is_listed (h.set k g)) q covered in
          let m = from_under t k c.member (under_is c.member c.chosen) in
          let other : q ≢ c.member = λ e. false≢true (sym out ∙ (ap (is_listed (h.set k g)) e ∙ c.chosen)) in
          let a = ways t s.tree opened s.order.above c.member q m.0.deep m.0.known
          (λ high. s.order.above (device c.member) (port_extender t c.member m.0.deep m.0.known) (s.order.present c.member (under_extended t k c.member (under_is c.member c.chosen)) (lies.present c.member c.chosen)) high)
          u.0.deep other c.below in
          let mine = has_channel t opened b h s q u.0.deep u.0.known (cascade_needs t opened b h s q u.0.deep u.0.known u.1) in
          let high : channel_of t h q < 4095 = mine.below in
          let large : 4096 ≤ g = number in
          sends_on g q u.0.deep u.0.known u.1 a.there (λ e. absurd (omega (arith, high, large, e)))

      kinds : (q : ℕ) → is_listed (h.set k g) q ≡ true → (tables_at (laid t opened h)).cascade q ≡ is_cascade t q
      kinds q e =
          let u = from_under t k q (under_is q e) in
          kind_at t (laid_by t (is_shown t opened) h) q u.0.deep u.0.known ∙ (and_left (is_cascade t q) (is_shown t opened q) u.1 ∙ sym u.1)

      channels : (q : ℕ) → is_listed (h.set k g) q ≡ true → 0 < (tables_at (laid t opened h)).own q
      channels q e =
          let u = from_under t k q (under_is q e) in
          let r = member_reached t opened b h s b (λ q x y. y) k q (under_is q e) (lies.present q e) in
          let own : (tables_at (laid t opened h)).own q ≡ channel_of t h q =
          own_at t (laid_by t (is_shown t opened) h) q u.0.deep u.0.known ∙ ap (λ b. cond b (channel_of t h q) 0) r.laid in
          positive ((tables_at (laid t opened h)).own q) (λ z. r.channel (sym own ∙ z))
        where
          positive : (n : ℕ) → n ≢ 0 → 0 < n
          positive n some = omega arith

  -- ---- channels
  -- a port that needs a channel
  record Needs (k p : ℕ) : Type 0 where
    deep : 64 ≤ p
    known : is_port t p ≡ true
    at : trunk t (device p) ≡ k
    there : is_shown t opened p ≡ true → opened (device p) ≡ true

  needs_is : (k p : ℕ) → needs_channel t b k p ≡ true → Needs k p
  needs_is k p e = elim (or_cases (is_under t k p && b.present p) (is_cascade_under t k p) e) [
    | inl f ↦
        let both = and_parts (is_under t k p) (b.present p) f in
        let u = from_under t k p both.0 in
        record { deep = u.0.deep; known = u.0.known; at = u.0.at; there = λ shown. s.order.present p (under_extended t k p both.0) both.1 }
    | inr f ↦
        let u = from_cascade t k p f in
        record { deep = u.0.deep; known = u.0.known; at = u.0.at; there = λ shown. was (is_cascade t p) (opened (device p)) u.1 shown }
  ]
    where
      was : (c o : Bool) → c ≡ true → (not c || o) ≡ true → o ≡ true
      was true o x e = e
      was false o x e = absurd (false≢true x)

  module _ (k p : ℕ) (needs : needs_channel t b k p ≡ true) (shown : is_shown t opened p ≡ true) where
    port_is : Needs k p
    port_is = needs_is k p needs

    mine : HasChannel t h p
    mine = (let n = port_is in has_channel t opened b h s p n.deep n.known (subst (λ (m : ℕ). needs_channel t b m p ≡ true) (sym n.at) needs))

    pub own_laid : (tables_at (laid t opened h)).own p ≡ channel_of t h p
    own_laid = (let n = port_is in own_at t (laid_by t (is_shown t opened) h) p n.deep n.known ∙ ap (λ b. cond b (channel_of t h p) 0) shown)

    held_at : h.port k (channel_of t h p) ≡ Some p
    held_at = (let n = port_is in let m = mine in ap (λ (j : ℕ). h.port j (channel_of t h p)) (sym n.at) ∙ m.port)

    pub channel_laid_out : k < 64 → is_cascade t k ≡ true → IsLaid t (tables_at (laid t opened h)) k (λ x. x == p) (channel_of t h p)
    channel_laid_out low cascade = record { rows = rows; ways = sends; kinds = kinds; channels = channels }
      where
        no_group : h.set k (channel_of t h p) ≡ []
        no_group = none_there (h.set k (channel_of t h p)) (λ used. let l = s.low k (channel_of t h p) low cascade used in let m = mine in let high : channel_of t h p < 4095 = m.below in absurd (omega (arith, l, high)))

        rows : (q : ℕ) → is_port_under t k q ≡ true → (tables_at (laid t opened h)).pair (channel_of t h p) q ≡ covers t (λ x. x == p) q
        rows q under =
            let u = from_test t k q under in
            let c = channel_of t h p in
            pair_at t (laid_by t (is_shown t opened) h) q u.deep u.known c
            ∙ (ap (λ (m : ℕ). channel_pair t (is_shown t opened) q (h.port m (channel_of t h p)) || group_pair t q (h.set m (channel_of t h p))) u.at
            ∙ (ap (λ (o : Option ℕ). channel_pair t (is_shown t opened) q o || group_pair t q (h.set k (channel_of t h p))) held_at
            ∙ (ap (λ b. (b && covers t (λ x. x == p) q) || group_pair t q (h.set k (channel_of t h p))) shown
            ∙ (ap (λ (set : List ℕ). covers t (λ x. x == p) q || group_pair t q set) no_group
            ∙ (ap (λ b. covers t (λ x. x == p) q || b) (covers_none t q) ∙ or_false (covers t (λ x. x == p) q))))))

        sends : (q : ℕ) → is_cascade_under t k q ≡ true → covers t (λ x. x == p) q ≡ true → (q == p) ≡ false → SendsOn (tables_at (laid t opened h)) (channel_of t h p) q
        sends q under covered out =
            let u = from_cascade t k q under in
            let n = port_is in
            let c = covers-true t (λ x. x == p) q covered in
            let other : q ≢ p = λ e. false≢true (sym out ∙ eq-eqb q p e) in
            let way = subst (λ (x : ℕ). among q (path t.on x) ≡ true) (eqb-true c.member p c.chosen) c.below in
            let a = ways t s.tree opened s.order.above p q n.deep n.known (λ high. s.order.above (device p) (port_extender t p n.deep n.known) (n.there shown) high) u.0.deep other way in
            let its = has_channel t opened b h s q u.0.deep u.0.known (cascade_needs t opened b h s q u.0.deep u.0.known u.1) in
            sends_on (channel_of t h p) q u.0.deep u.0.known u.1 a.there
            (λ e. other (some_is q p (sym its.port ∙ (ap (λ (j : ℕ). h.port j (channel_of t h q)) u.0.at ∙ (ap (h.port k) e ∙ held_at)))))

        kinds : (q : ℕ) → (q == p) ≡ true → (tables_at (laid t opened h)).cascade q ≡ is_cascade t q
        kinds q e =
            let same = eqb-true q p e in
            let n = port_is in
            subst (λ (x : ℕ). (tables_at (laid t opened h)).cascade x ≡ is_cascade t x) (sym same)
            (kind_at t (laid_by t (is_shown t opened) h) p n.deep n.known ∙ (ap (λ b. is_cascade t p && b) shown ∙ and_true (is_cascade t p)))

        channels : (q : ℕ) → (q == p) ≡ true → 0 < (tables_at (laid t opened h)).own q
        channels q e =
            let same = eqb-true q p e in
            let m = mine in
            let l : 1 ≤ channel_of t h p = m.from1 in
            let own = own_laid in
            subst (λ (x : ℕ). 0 < (tables_at (laid t opened h)).own x) (sym same) (omega (arith, own, l))

  pub laid_out : ((k g : ℕ) → k < 64 → is_cascade t k ≡ true → group_used h k g ≡ true → LiesBelow t b (record { bridge_port = k + 1; ports = h.set k g })) → IsLaidOut t opened b h
  laid_out lies = record {
    groups = λ k g low c used. group_laid k g low c used (lies k g low c used);
    own = λ k p low c needs shown. own_laid k p needs shown;
    channels = λ k p low c needs shown. channel_laid_out k p needs shown low c;
    free = none_laid;
  }

pub rest_is_laid_out : RestIsLaidOut
rest_is_laid_out t b h opened valid needed order =
    laid_out t opened b h (stands_from t opened b h valid needed order)
    (λ k g low c used. (let o = owns_from h k (λ set. list_any (bytes_eq set) (sets_at t k b)) (λ set. needed.groups k set low c) (λ g u. needed.one_group k g low c u) in set_lies t b k (h.set k g) low (o.sound g used)))

-- Control frames that an extender sends on, up from below or down from above.
use Rattle.std.proofs.Common.{◌≡◌, ◌⊎◌, ℕ, ◌&&◌, ◌<◌, ◌≤◌, nat_lt, Bool, true, false, if◌then◌else◌, List, [], ◌∷◌, Option, Some, None, refl, sym, ◌∙◌, ap, subst, arith, inl, inr}
use Rattle.std.proofs.lemmas.Bool.{cases_Bool, and_parts, ltb-true}
use Rattle.exb_model.specs.ETags.{Tag, read_etag, stripped, tagged}
use Rattle.exb_model.specs.Tree.{Shape, IsTree, HangsOn, device, on, trunk, is_extender, port_number}
use Rattle.exb_model.specs.Setup.{Limits}
use Rattle.exb_model.specs.History.{Basis, History, ◌then◌}
use Rattle.exb_frame.specs.TagValues.{TagRoundTrip}
use Rattle.exb_extender.specs.declared.sends.Side.{Side}
use Rattle.exb_extender.specs.declared.sends.Side.TheVariants as side
use Rattle.exb_csp.specs.AllTables.{port_of}
use Rattle.exb_extender.specs.Forwarding.{Sent, up, has_etag_type, is_bare_control, channel_tag, names_channel, emitted, sent_from_cascade}
use Rattle.exb_extender.specs.Machine.{ExtenderState, IsExtender}
use Rattle.exb_link.specs.declared.link_frame.LinkFrame.{LinkFrame}
use Rattle.exb_link.specs.LinkFrames.{is_control}
use Rattle.exb_model.specs.Frames.{is_control_frame}
use Rattle.exb_control_spec.specs.Plans.HeldNumbers.{Held}
use Rattle.exb_control_spec.specs.Machine.{State}
use Rattle.exb_control_spec.specs.Runs.PlannedChanges.{IsSetting}
use Rattle.exb_world_spec.specs.Worlds.{World, Way, Up, Down, Out, Left, with_far, push_up, push_down}
use Rattle.exb_model.specs.Tables.{at}
use Rattle.exb_world_spec.specs.Effects.{Effect, sending, then_do, each}
use Rattle.exb_world_spec.specs.ExtenderSteps.{sent_at, sent_to, sends, takes_from_below}
use Rattle.exb_world_spec.specs.DataFrames.{hung_at}
use Rattle.exb_world_spec.specs.Runs.Sessions.{Each, WordFits, AskedOf, StoredAt, ArePaired, IsFrameOn, IsOnWay, Hands, Routes}
use Rattle.exb_world_spec.specs.Runs.Simulation.{system_of, IsSound}
use Rattle.exb_world_spec.specs.Runs.SessionLaws.{IsHop}
use Rattle.exb_world_spec.proofs.CascadeChannels.{forget, fixed_now}
use Rattle.exb_world_spec.proofs.Forwarding.{sent_from_below}
use Rattle.exb_world_spec.proofs.Frames.{bare_is, read_typed, tag_fits}
use Rattle.exb_world_spec.proofs.ControlFrames.{seen_as}
use Rattle.exb_world_spec.proofs.Links.{SendFits}
use Rattle.exb_world_spec.proofs.ExtenderSteps.{as_it_is}
use Rattle.exb_world_spec.proofs.Routing.{stands_route}
use Rattle.exb_world_spec.proofs.Trunks.{trunk_above, hangs_there, extender_there, above_there, hung_found, port_there}
use Rattle.exb_world_spec.proofs.LinkFrames.{at_itself}
use Rattle.exb_flight.specs.Items.{Key, leads}
use Rattle.exb_flight.specs.Flight.{Flight}
use Rattle.exb_flight.specs.Tokens.{addressee, content, holder_in, key_for, key_on}
use Rattle.exb_flight.specs.SimulationRelation.{Shows}
use Rattle.exb_flight.specs.Simulation.{Flown}
use Rattle.exb_flight.proofs.TokenKeys.{on_way}
use Rattle.exb_flight.proofs.PushedTokens.{Pushed, pushed_none, pushed_then, pushed_up, pushed_down}
use Rattle.exb_flight.proofs.SimulatedRequests.{control_tagged, control_untagged}

some_number : (a b : ℕ) → Some a ≡ Some b → a ≡ b
some_number a b e = cc

module _ (t : Shape) (l : Limits) (i : Basis) (tree : IsTree t) (setting : IsSetting t l) (round : TagRoundTrip) where
  -- the same extender and content make the same key
  key_same : (h : Held) (way : Way) (m d : ℕ) (x y : LinkFrame) → addressee t h m x.bytes ≡ addressee t h d y.bytes → content x.bytes ≡ content y.bytes → key_on t h way m x ≡ key_on t h way d y
  unfolding key_on
  key_same h way m d x y a c = ap (λ (o : Option ℕ). key_for way o (content x.bytes)) a ∙ ap (λ (g : List ℕ). key_for way (addressee t h d y.bytes) g) c

  own_addressee : (h : Held) (m : ℕ) (g : List ℕ) → has_etag_type g ≡ false → addressee t h m g ≡ Some m
  own_addressee h m g untyped = rw untyped refl

  own_content : (g : List ℕ) → has_etag_type g ≡ false → content g ≡ g
  own_content g untyped = rw untyped refl

  -- where it has an E-TAG, by the trunk alone
  same_addressee : (h : Held) (m d : ℕ) (g : List ℕ) → has_etag_type g ≡ true → trunk t m ≡ trunk t d → addressee t h m g ≡ addressee t h d g
  same_addressee h m d g typed e =
      ap (λ (b : Bool). if b then hung_at t (holder_in h (trunk t m) (read_etag g)) else Some m) typed
      ∙ (ap (λ (k : ℕ). hung_at t (holder_in h k (read_etag g))) e ∙ sym (ap (λ (b : Bool). if b then hung_at t (holder_in h (trunk t d) (read_etag g)) else Some d) typed))

  -- ---- up
  module _ (v : World) (sound : IsSound t l v) (h : History) (gone : List Left) (f : Flight) (s : Shows t i v h gone f) (n : ℕ) (there : is_extender t n ≡ true) (deep : 64 ≤ on t n) (x : LinkFrame) (control : is_control x ≡ true)
      (fits : WordFits t v.control.held (StoredAt v.far) n x) (first : (j : Key) → key_on t v.control.held Up n x ≡ Some j → leads j (f.up n) ≡ true) where
    above : is_extender t (device (on t n)) ≡ true
    above = above_there t tree n there deep

    routes : Routes t v.control.held v.far
    routes = stands_route t tree (system_of v) (forget t l (system_of v) sound.stands) (fixed_now t l (system_of v) sound.stands).high v.far (λ k. refl)

    -- what goes up is of the same extender, with the same content
    up_one : (u : World) → Shows t i u h gone f → u.control ≡ v.control → u.far ≡ v.far → (g : List ℕ) → is_control_frame g ≡ true → WordFits t u.control.held (StoredAt u.far) (device (on t n)) (record { bytes = g; stamp = x.stamp }) →
        key_on t v.control.held Up (device (on t n)) (record { bytes = g; stamp = x.stamp }) ≡ key_on t v.control.held Up n x → Pushed t l i h gone f (each (sends t (device (on t n)) x.stamp) (up g ∷ []) u)
    up_one u su ec ef g gc fit same =
        let p : ℕ = device (on t n) in
        let word : LinkFrame = record { bytes = g; stamp = x.stamp } in
        let e : Effect = sending (Out p side.Up g) (push_up p word u) in
        let paired : (m : ℕ) → ArePaired (u.control.askers m) (u.far m).session =
        subst (λ (c : State). (m : ℕ) → ArePaired (c.askers m) (u.far m).session) (sym ec)
        (subst (λ (y : ℕ → ExtenderState). (m : ℕ) → ArePaired (v.control.askers m) (y m).session) (sym ef) sound.fits.ends.paired) in
        let one : Pushed t l i h gone f e =
        pushed_up t l i tree round u h gone f su (Out p side.Up g) p word gc fit paired
        (λ j k. inr (n, deep, refl, first j (sym same ∙ subst (λ (c : State). key_on t c.held Up p word ≡ Some j) ec k))) in
        pushed_then t l i h gone f e (each (sends t p x.stamp) []) one (pushed_none t l i (push_up p word u) _ _ _ one.flown.shows)

    -- the list of what is sent up of it
    cascade_pushed : (own : ℕ) → (0 < own → v.control.held.port (trunk t (device (on t n))) own ≡ Some (on t n)) → own < 4095 → (u : World) → Shows t i u h gone f → u.control ≡ v.control → u.far ≡ v.far →
        Each (SendFits t u.control.held (AskedOf u.control.askers) (StoredAt u.far) (device (on t n))) (sent_from_cascade own x.bytes) → Pushed t l i h gone f (each (sends t (device (on t n)) x.stamp) (sent_from_cascade own x.bytes) u)
    cascade_pushed own holds small u su ec ef all =
        elim (cases_Bool (names_channel (read_etag x.bytes))) [
          | inl named ↦
              let k = rw named at all in
              rw named (up_one u su ec ef x.bytes control (k.0.rises refl)
              (key_same v.control.held Up (device (on t n)) n (record { bytes = x.bytes; stamp = x.stamp }) x (same_addressee v.control.held (device (on t n)) n x.bytes (typed (read_etag x.bytes) refl named) (trunk_above t tree n there deep)) refl))
          | inr other ↦ elim (cases_Bool (is_bare_control x.bytes && nat_lt 0 own)) [
            | inr none ↦ rw (other, none) (pushed_none t l i u h gone f su)
            | inl some ↦
                let k = rw (other, some) at all in
                let p = and_parts (is_bare_control x.bytes) (nat_lt 0 own) some in
                let b = bare_is x.bytes p.0 in
                let r = round x.bytes (channel_tag own) (omega (arith, b.long)) (tag_fits own small) in
                let g : List ℕ = tagged x.bytes (channel_tag own) in
                let typed_g : has_etag_type g ≡ true = read_typed g (channel_tag own) r.0 in
                let a : addressee t v.control.held (device (on t n)) g ≡ Some n =
                ap (λ (z : Bool). if z then hung_at t (holder_in v.control.held (trunk t (device (on t n))) (read_etag g)) else Some (device (on t n))) typed_g
                ∙ (ap (λ (o : Option Tag). hung_at t (holder_in v.control.held (trunk t (device (on t n))) o)) r.0 ∙ (ap (hung_at t) (holds (ltb-true 0 own p.1)) ∙ hung_found t tree n (on t n) (hangs_there t n there))) in
                let c : content g ≡ x.bytes = ap (λ (z : Bool). if z then stripped g else g) typed_g ∙ r.1 in
                rw (other, some) (up_one u su ec ef g (control_tagged x.bytes (channel_tag own) (omega (arith, b.long)) control) (k.0.rises refl)
                (key_same v.control.held Up (device (on t n)) n (record { bytes = g; stamp = x.stamp }) x (a ∙ sym (own_addressee v.control.held n x.bytes b.untyped)) (c ∙ sym (own_content x.bytes b.untyped))))
          ]
        ]
      where
        false_true : false ≡ true → ⊥
        false_true e = cc

        typed : (o : Option Tag) → read_etag x.bytes ≡ o → names_channel o ≡ true → has_etag_type x.bytes ≡ true
        typed None e z = absurd (false_true z)
        typed (Some tag) e z = read_typed x.bytes tag e

    emitted_up : (y : ExtenderState) (q : ℕ) → y.tables.cascade q ≡ true → emitted y.tables (side.Port q) x.bytes ≡ sent_from_cascade (y.tables.own q) x.bytes
    unfolding emitted
    emitted_up y q cascade = rw cascade refl

    pub up_flown : Flown t l i h gone f (takes_from_below t (device (on t n)) (port_number (on t n)) x v)
    up_flown =
        let p : ℕ = device (on t n) in
        let q : ℕ = port_number (on t n) in
        let is : IsExtender (v.far p) = sound.fits.ends.extenders p above in
        elim (cases_Bool ((v.far p).tables.cascade q)) [
          | inr other ↦ rw other (pushed_none t l i v h gone f s).flown
          | inl cascade ↦
              let xs : List Sent = emitted (v.far p).tables (side.Port q) x.bytes in
              let own : ℕ = (v.far p).tables.own q in
              let all : Each (SendFits t v.control.held (AskedOf v.control.askers) (StoredAt v.far) p) xs =
              sent_from_below t tree v.control.held round (AskedOf v.control.askers) (StoredAt v.far) v.far routes n there deep x.bytes fits is cascade in
              let u : World = with_far p (v.far p) v in
              let su : Shows t i u h gone f = record { system = s.system ∙ sym (ap (λ (y : ℕ → ExtenderState). seen_as v.control y) (at_itself p v.far)); down = s.down; up = s.up; history = s.history; left = s.left; learned = s.learned } in
              let here : port_of p q ≡ on t n = port_there (on t n) in
              let holds : 0 < own → v.control.held.port (trunk t p) own ≡ Some (on t n) = λ some.
              subst (λ (z : ℕ). v.control.held.port (trunk t p) own ≡ Some z) here (routes.up p q n above (subst (HangsOn t n) (sym here) (hangs_there t n there)) (omega arith) (omega arith) some) in
              let emits : xs ≡ sent_from_cascade own x.bytes = emitted_up (v.far p) q cascade in
              let R : List Sent → Type 0 = λ zs. Each (SendFits t v.control.held (AskedOf v.control.askers) (StoredAt (at p (v.far p) v.far)) p) zs in
              let fit : R (sent_from_cascade own x.bytes) = subst R emits (as_it_is t l tree setting round v p xs all) in
              let done : Pushed t l i h gone f (each (sends t p x.stamp) (sent_from_cascade own x.bytes) u) = cascade_pushed own holds (is.channels q) u su refl (at_itself p v.far) fit in
              rw cascade (subst (λ (zs : List Sent). Flown t l i h gone f (each (sends t p x.stamp) zs u)) (sym emits) done.flown)
        ]

  -- ---- down
  module _ (v : World) (sound : IsSound t l v) (n : ℕ) (there : is_extender t n ≡ true) (x : LinkFrame) (control : is_control x ≡ true) (k : IsOnWay t v.control.held n x.bytes (λ m c. Hands c (AskedOf v.control.askers m))) (typed : has_etag_type x.bytes ≡ true) where
    -- the extender to which it is sent on
    record IsNext (y : Sent) (port d : ℕ) : Type 0 where
      hangs : HangsOn t d (port_of n port)
      address : is_control_frame y.bytes ≡ true
      key : key_on t v.control.held Down n x ≡ key_on t v.control.held Down d (record { bytes = y.bytes; stamp = x.stamp })

    at_device : (port : ℕ) → 0 < port → port ≤ 64 → device (port_of n port) ≡ n
    at_device port first last = omega (arith, first, last)

    deep_port : (port : ℕ) → 0 < port → 64 ≤ port_of n port
    deep_port port first = (let some : 0 < n = ltb-true 0 n (and_parts (nat_lt 0 n) _ there).0 in omega (arith, first, some))

    next : (y : Sent) (hop : IsHop t n k.of x.bytes k.frame y) → (d : ℕ) × IsNext y hop.port d
    next y hop = by_hop hop.hop
      where
        own_way : (way : IsFrameOn t v.control.held n x.bytes k.of k.frame) → is_control_frame k.frame ≡ true
        own_way (inl e) = subst (λ (g : List ℕ). is_control_frame g ≡ true) e.1 control
        own_way (inr tag) = (let b = bare_is k.frame k.bare in control_untagged k.frame (channel_tag tag.channel) (omega (arith, b.long)) (subst (λ (g : List ℕ). is_control_frame g ≡ true) tag.frame control))

        by_hop : ((port_of n hop.port ≡ on t k.of) × (y.bytes ≡ k.frame)) ⊎ ((y.bytes ≡ x.bytes) × ((d : ℕ) × HangsOn t d (port_of n hop.port))) → (d : ℕ) × IsNext y hop.port d
        by_hop (inl e) =
            let a = on_way t tree round v.control.held n x.bytes (λ m c. Hands c (AskedOf v.control.askers m)) k in
            let untyped : has_etag_type y.bytes ≡ false = ap has_etag_type e.1 ∙ (bare_is k.frame k.bare).untyped in (
              k.of,
              record {
                hangs = subst (HangsOn t k.of) (sym e.0) (hangs_there t k.of k.there);
                address = subst (λ (g : List ℕ). is_control_frame g ≡ true) (sym e.1) (own_way k.way);
                key = key_same v.control.held Down n k.of x (record { bytes = y.bytes; stamp = x.stamp }) (a.0 ∙ sym (own_addressee v.control.held k.of y.bytes untyped)) (a.1 ∙ (sym e.1 ∙ sym (own_content y.bytes untyped)));
              },
            )
        by_hop (inr e) =
            let d : ℕ = e.1.0 in
            let hangs : HangsOn t d (port_of n hop.port) = e.1.1 in
            let deep : 64 ≤ on t d = subst (λ (p : ℕ). 64 ≤ p) (sym hangs.at) (deep_port hop.port hop.first) in
            let at_n : device (on t d) ≡ n = ap device hangs.at ∙ at_device hop.port hop.first hop.last in
            let trunks : trunk t n ≡ trunk t d = ap (trunk t) (sym at_n) ∙ trunk_above t tree d (extender_there t d (port_of n hop.port) hangs) deep in (
              d,
              record {
                hangs = hangs;
                address = subst (λ (g : List ℕ). is_control_frame g ≡ true) (sym e.0) control;
                key = key_same v.control.held Down n d x (record { bytes = y.bytes; stamp = x.stamp }) (same_addressee v.control.held n d x.bytes typed trunks ∙ ap (addressee t v.control.held d) (sym e.0)) (ap content (sym e.0));
              },
            )

    pub hops_pushed : (xs : List Sent) (u : World) → u.control ≡ v.control → (h : History) (gone : List Left) (f : Flight) → Shows t i u h gone f → ((j : Key) → key_on t v.control.held Down n x ≡ Some j → leads j (f.down n) ≡ true) →
        (Q : ℕ → ℕ → Rattle.exb_csp.specs.declared.message.Body.Body → Type 0) → Each (SendFits t v.control.held (AskedOf v.control.askers) Q n) xs → Each (IsHop t n k.of x.bytes k.frame) xs → Pushed t l i h gone f (each (sends t n x.stamp) xs u)
    hops_pushed [] u ec h gone f s first Q fits hops = pushed_none t l i u h gone f s
    hops_pushed (y ∷ ys) u ec h gone f s first Q fits hops =
        let hop = hops.0 in
        let found = next y hop in
        let d : ℕ = found.0 in
        let its : IsNext y hop.port d = found.1 in
        let word : LinkFrame = record { bytes = y.bytes; stamp = x.stamp } in
        let e : Effect = sending (Out n (side.Port hop.port) y.bytes) (push_down d word u) in
        let is : sends t n x.stamp y u ≡ e =
        ap (λ (z : Side). sent_to t n x.stamp z y.bytes u) hop.side ∙ ap (λ (o : Option ℕ). sent_at n hop.port o x.stamp y.bytes u) (hung_found t tree d (port_of n hop.port) its.hangs) in
        let at_n : device (on t d) ≡ n = ap device its.hangs.at ∙ at_device hop.port hop.first hop.last in
        let fit : WordFits t u.control.held (AskedOf u.control.askers) d word =
        subst (λ (c : State). WordFits t c.held (AskedOf c.askers) d word) (sym ec) (fits.0.sinks hop.port d hop.side its.hangs) in
        let one : Pushed t l i h gone f e =
        pushed_down t l i tree round u h gone f s (Out n (side.Port hop.port) y.bytes) d word its.address fit
        (λ j key. inr (subst (λ (m : ℕ). leads j (f.down m) ≡ true) (sym at_n) (first j (its.key ∙ subst (λ (c : State). key_on t c.held Down d word ≡ Some j) ec key)))) in
        subst (λ (z : Effect). Pushed t l i h gone f (then_do z (each (sends t n x.stamp) ys))) (sym is)
        (pushed_then t l i h gone f e (each (sends t n x.stamp) ys) one
        (hops_pushed ys (push_down d word u) ec _ _ _ one.flown.shows (λ j key. one.grows.down j n (first j key)) Q fits.1 hops.1))

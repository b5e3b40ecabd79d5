-- A control frame for a deeper extender goes on towards it, as it is or without its E-TAG, and nowhere else; and what a
-- settled world is.
use Rattle.std.proofs.Common.{◌≡◌, ℕ, ◌<◌, ◌≤◌, nat_lt, Bool, true, false, cond, List, [], ◌∷◌, map, Option, Some, None, refl, subst, arith, inl, inr, ◌++◌, zero, suc, append-nil, length, ◌⊎◌, ◌∙◌, ap, sym, ◌+◌}
use Rattle.std.specs.List.{flat_map, range_with_len}
use Rattle.std.proofs.lemmas.Bool.{cases_Bool, cases_eq, cases_lt, and_parts, ltb-true}
use Rattle.exb_model.specs.Tree.{Shape, IsTree, device, on, above, depth, up, is_port, is_extender}
use Rattle.exb_model.proofs.TreeWays.{among, among_cases, among_none, among_above, path_is, up_high, up_low, up_none, cascade_above}
use Rattle.exb_model.specs.Setup.{Limits}
use Rattle.exb_model.specs.ETags.{Tag, read_etag, stripped}
use Rattle.exb_model.specs.ExtenderForwarding.{emits, emits_tagged, takes, left_out, bare}
use Rattle.exb_frame.specs.TagValues.{TagRoundTrip}
use Rattle.exb_csp.specs.declared.message.Response.{Response}
use Rattle.exb_csp.specs.Execution.{ExtenderTables}
use Rattle.exb_extender.specs.declared.sends.Side.TheVariants as side
use Rattle.exb_extender.specs.Forwarding.{forwarding_of, sent_at, emitted, channel_tag, is_bare_control, Sent}
use Rattle.exb_extender.specs.Machine.{IsExtender}
use Rattle.exb_control_spec.specs.declared.job.Job.{Job}
use Rattle.exb_control_spec.specs.InitialState.{first_held}
use Rattle.exb_control_spec.specs.Machine.{Work, State}
use Rattle.exb_control_spec.specs.Runs.MachineInvariant.{StandsBy, opened_by}
use Rattle.exb_control_spec.specs.Runs.PlannedChanges.{IsSetting}
use Rattle.exb_control_spec.specs.Runs.LaidTables.{laid}
use Rattle.exb_control_spec.proofs.Plans.TreeWays.{less_above}
use Rattle.exb_csp.specs.AllTables.{port_of}
use Rattle.exb_world_spec.proofs.Trunks.{hangs_there}
use Rattle.exb_world_spec.specs.Worlds.{World}
use Rattle.exb_world_spec.specs.Runs.CascadeChannels.{fixing, IsExactly}
use Rattle.exb_world_spec.specs.Runs.Sessions.{Each, AskedOf, StoredAt, IsTagged, Routes, IsNextHop}
use Rattle.exb_world_spec.specs.Runs.Simulation.{system_of, IsSound}
use Rattle.exb_world_spec.specs.Runs.SessionLaws.{IsHop, IsSentOn, ControlGoesOn, SettledIsAtRest}
use Rattle.exb_world_spec.proofs.Frames.{read_typed, typed_not_bare}
use Rattle.exb_world_spec.proofs.Forwarding.{read_way, bare_there, plain_there}
use Rattle.exb_world_spec.proofs.CascadeChannels.{forget, fixed_now}
use Rattle.exb_world_spec.proofs.Routing.{stands_route}
use Rattle.exb_world_spec.proofs.LinkFrames.{each_range}

same_tag : (o : Option Tag) (x y : Tag) → o ≡ Some x → o ≡ Some y → x ≡ y
same_tag o x y e f = cc

both_ways : (b : Bool) → b ≡ true → b ≡ false → ⊥
both_ways b x y = cc

same_port : (q p : ℕ) → side.Port q ≡ side.Port p → q ≡ p
same_port q p e = cc

-- ---- one port at most
-- two ports on one way: they are one, or one lies above the extender of the other
apart : (t : Shape) (d p x y : ℕ) → among x (up t.on d p) ≡ true → among y (up t.on d p) ≡ true →
    (x ≡ y) ⊎ (((e : ℕ) × (among y (up t.on e (on t (device x))) ≡ true)) ⊎ ((e : ℕ) × (among x (up t.on e (on t (device y))) ≡ true)))
apart t zero p x y a b =
    elim (among_cases x p [] (rw (up_none t p) at a)) [
      | inr e ↦ absurd (among_none x e)
      | inl e ↦ elim (among_cases y p [] (rw (up_none t p) at b)) [ inr f ↦ absurd (among_none y f) | inl f ↦ inl (e ∙ sym f) ]
    ]
apart t (suc d) p x y a b =
    elim (cases_lt p 64) [
      | inl l ↦ elim (among_cases x p [] (rw (up_low t (suc d) p l) at a)) [
        | inr e ↦ absurd (among_none x e)
        | inl e ↦ elim (among_cases y p [] (rw (up_low t (suc d) p l) at b)) [ inr f ↦ absurd (among_none y f) | inl f ↦ inl (e ∙ sym f) ]
      ]
      | inr h ↦ elim (among_cases x p (up t.on d (on t (device p))) (rw (up_high t d p h) at a)) [
        | inl e ↦ elim (among_cases y p (up t.on d (on t (device p))) (rw (up_high t d p h) at b)) [
          | inl f ↦ inl (e ∙ sym f)
          | inr f ↦ inr (inl (d, subst (λ (z : ℕ). among y (up t.on d (on t (device z))) ≡ true) (sym e) f))
        ]
        | inr e ↦ elim (among_cases y p (up t.on d (on t (device p))) (rw (up_high t d p h) at b)) [
          | inl f ↦ inr (inr (d, subst (λ (z : ℕ). among x (up t.on d (on t (device z))) ≡ true) (sym f) e))
          | inr f ↦ apart t d (on t (device p)) x y e f
        ]
      ]
    ]

-- a way has one port of each extender at most
pub alone_on_way : (t : Shape) → IsTree t → (q x y : ℕ) → is_port t q ≡ true → 64 ≤ x → 64 ≤ y → device x ≡ device y → above t x q ≡ true → above t y q ≡ true → x ≡ y
alone_on_way t tree q x y known hx hy same a b =
    let ax : among x (up t.on 64 q) ≡ true = ap (among x) (sym (path_is t q)) ∙ sym (among_above t x q) ∙ a in
    let by : among y (up t.on 64 q) ≡ true = ap (among y) (sym (path_is t q)) ∙ sym (among_above t y q) ∙ b in
    let depths : depth t (device x) ≡ depth t (device y) = ap (depth t) same in
    elim (apart t 64 q x y ax by) [
      | inl e ↦ e
      | inr k ↦ elim k [
        | inl u ↦ absurd (let less = less_above t tree u.0 x y hx (port_on_way x ax) hy u.1 in omega (arith, less, depths))
        | inr u ↦ absurd (let less = less_above t tree u.0 y x hy (port_on_way y by) hx u.1 in omega (arith, less, depths))
      ]
    ]
  where
    port_on_way : (z : ℕ) → among z (up t.on 64 q) ≡ true → is_port t z ≡ true
    port_on_way z e = elim (cases_eq z q) [ inl f ↦ ap (is_port t) f ∙ known | inr ne ↦ (cascade_above t tree 64 q z known ne e).1 ]

-- what a port emits is one frame at most
few_emits : (x : ExtenderTables) (q : ℕ) (f : List ℕ) (o : Option Tag) → length {A = Sent} (map (λ bytes. record { side = side.Port q; bytes = bytes }) (emits_tagged (forwarding_of x) q f o)) ≤ 1
few_emits x q f None = omega arith
few_emits x q f (Some tag) = by_tests (takes (forwarding_of x) q tag) (left_out (forwarding_of x) q tag) (bare (forwarding_of x) q tag)
  where
    by_tests : (a b d : Bool) → length {A = Sent} (map (λ bytes. record { side = side.Port q; bytes = bytes }) (cond a (cond b [] (cond d (stripped f ∷ []) (f ∷ []))) [])) ≤ 1
    by_tests false b d = omega arith
    by_tests true true d = omega arith
    by_tests true false true = omega arith
    by_tests true false false = omega arith

none_range : (F : ℕ → List Sent) (a n : ℕ) → ((q : ℕ) → a ≤ q → q < a + n → F q ≡ []) → flat_map F (range_with_len a n) ≡ []
none_range F a zero none = refl
none_range F a (suc n) none = rw (none a (omega arith) (omega arith)) (none_range F (a + 1) n (λ q low high. none q (omega arith) (omega arith)))

few_range : (F : ℕ → List Sent) → ((q : ℕ) → length (F q) ≤ 1) → (a n : ℕ) →
    ((p q : ℕ) → a ≤ p → p < a + n → a ≤ q → q < a + n → (F p ≡ [] → ⊥) → (F q ≡ [] → ⊥) → p ≡ q) → length (flat_map F (range_with_len a n)) ≤ 1
few_range F few a zero alone = omega arith
few_range F few a (suc n) alone = by_first (few_range F few (a + 1) n (λ p q pl ph ql qh u v. alone p q (omega arith) (omega arith) (omega arith) (omega arith) u v)) (F a) refl
  where
    not_empty : {x : Sent} {xs : List Sent} → x ∷ xs ≡ [] → ⊥
    not_empty e = cc

    by_first : length (flat_map F (range_with_len (a + 1) n)) ≤ 1 → (xs : List Sent) → F a ≡ xs → length (F a ++ flat_map F (range_with_len (a + 1) n)) ≤ 1
    by_first less [] e = rw e less
    by_first less (x ∷ xs) e =
        let rest : flat_map F (range_with_len (a + 1) n) ≡ [] = none_range F (a + 1) n (λ q low high. by_list q (omega arith) (omega arith) (F q) refl) in
        rw (rest, append-nil (F a)) (few a)
      where
        by_list : (q : ℕ) → a < q → q < a + suc n → (ys : List Sent) → F q ≡ ys → F q ≡ []
        by_list q low high [] k = k
        by_list q low high (y ∷ ys) k =
            let same : a ≡ q = alone a q (omega arith) (omega arith) (omega arith) high (λ z. not_empty (sym e ∙ z)) (λ z. not_empty (sym k ∙ z)) in
            absurd (omega arith)

module _ (round : TagRoundTrip) where
  module _ (t : Shape) (l : Limits) (setting : IsSetting t l) (w : World) (sound : IsSound t l w) (m n : ℕ) (f c : List ℕ) (there : is_extender t m ≡ true) (goal : is_extender t n ≡ true) (bare_c : is_bare_control c ≡ true)
      (k : IsTagged t w.control.held m f n c) where
    routes : Routes t w.control.held w.far
    routes = stands_route t setting.tree (system_of w) (forget t l (system_of w) sound.stands) (fixed_now t l (system_of w) sound.stands).high w.far (λ i. refl)

    is : IsExtender (w.far m)
    is = sound.fits.ends.extenders m there

    read : (read_etag f ≡ Some (channel_tag k.channel)) × (stripped f ≡ c)
    read = read_way t setting.tree w.control.held round (AskedOf w.control.askers) (StoredAt w.far) w.far routes m f n c bare_c k

    hop_at : (q : ℕ) → 0 < q → q ≤ 64 → 0 < (w.far m).tables.own q → (w.far m).tables.pair k.channel q ≡ true →
        Each (IsHop t m n f c) (map (λ bytes. record { side = side.Port q; bytes = bytes }) (cond (left_out (forwarding_of (w.far m).tables) q (channel_tag k.channel)) [] (cond (bare (forwarding_of (w.far m).tables) q (channel_tag k.channel)) (stripped f ∷ []) (f ∷ []))))
    hop_at q first few own pair =
        elim (cases_Bool (left_out (forwarding_of (w.far m).tables) q (channel_tag k.channel))) [
          | inl out ↦ rw out tt
          | inr kept ↦ elim next.hop [
            | inl here ↦
                let strips : bare (forwarding_of (w.far m).tables) q (channel_tag k.channel) ≡ true = bare_there (w.far m).tables q (channel_tag k.channel) here.1 in
                rw (kept, strips) (record { port = q; first = first; last = few; side = refl; way = next.way; hop = inl (here.0, read.1) }, tt)
            | inr on_way ↦
                let plain : bare (forwarding_of (w.far m).tables) q (channel_tag k.channel) ≡ false = plain_there (w.far m).tables q (channel_tag k.channel) on_way.0 on_way.1 in
                rw (kept, plain) (record { port = q; first = first; last = few; side = refl; way = next.way; hop = inr (refl, on_way.2) }, tt)
          ]
        ]
      where
        next : IsNextHop t (w.far m) m q k.channel n
        next = routes.down m q k.channel n there goal k.deep k.holds k.some k.small first few own pair

    hops_tagged : (q : ℕ) → 0 < q → q ≤ 64 → (o : Option Tag) → read_etag f ≡ o → Each (IsHop t m n f c) (map (λ bytes. record { side = side.Port q; bytes = bytes }) (emits_tagged (forwarding_of (w.far m).tables) q f o))
    hops_tagged q first few None e = tt
    hops_tagged q first few (Some tag) e =
        let same : channel_tag k.channel ≡ tag = same_tag (read_etag f) (channel_tag k.channel) tag read.0 e in
        let R : Tag → Type 0 = λ x. Each (IsHop t m n f c) (map (λ bytes. record { side = side.Port q; bytes = bytes }) (emits_tagged (forwarding_of (w.far m).tables) q f (Some x))) in
        subst R same (
        elim (cases_Bool (takes (forwarding_of (w.far m).tables) q (channel_tag k.channel))) [
          | inr idle ↦ rw idle tt
          | inl takes_it ↦
              let p = and_parts (nat_lt 0 ((w.far m).tables.own q)) ((w.far m).tables.pair k.channel q) takes_it in
              rw takes_it (hop_at q first few (ltb-true 0 ((w.far m).tables.own q) p.0) p.1)
        ])

    hops_all : Each (IsHop t m n f c) (emitted (w.far m).tables side.Up f)
    unfolding emitted emits
    hops_all = each_range (IsHop t m n f c) (sent_at (w.far m).tables f) 1 (w.far m).tables.ports (λ q low high. hops_tagged q (omega arith) (omega (arith, is.ports.1)) (read_etag f) refl)

    -- a port at which something is sent lies on the way
    on_the_way : (q : ℕ) (xs : List (List ℕ)) → Each (IsHop t m n f c) (map (λ bytes. record { side = side.Port q; bytes = bytes }) xs) → (xs ≡ []) ⊎ (above t (port_of m q) (on t n) ≡ true)
    on_the_way q [] all = inl refl
    on_the_way q (x ∷ xs) all = inr (let same : q ≡ (all.0).port = same_port q (all.0).port (all.0).side in subst (λ (p : ℕ). above t (port_of m p) (on t n) ≡ true) (sym same) (all.0).way)

    known : is_port t (on t n) ≡ true
    known = let top = hangs_there t n goal in setting.tree.on_port n top.extender top.there

    low : 1 ≤ m
    low = let p = and_parts (nat_lt 0 m) (nat_lt 0 _) there in ltb-true 0 m p.0

    one_port : (p q : ℕ) → 0 < p → p ≤ 64 → 0 < q → q ≤ 64 → above t (port_of m p) (on t n) ≡ true → above t (port_of m q) (on t n) ≡ true → p ≡ q
    one_port p q p1 p64 q1 q64 a b =
        let dp : device (port_of m p) ≡ m = omega (arith, low) in
        let dq : device (port_of m q) ≡ m = omega (arith, low) in
        let same : port_of m p ≡ port_of m q = alone_on_way t setting.tree (on t n) (port_of m p) (port_of m q) known (omega (arith, low)) (omega (arith, low)) (dp ∙ sym dq) a b in
        omega (arith, same)

    few_hops : length (emitted (w.far m).tables side.Up f) ≤ 1
    unfolding emitted emits
    few_hops =
        few_range (sent_at (w.far m).tables f) (λ q. few_emits (w.far m).tables q f (read_etag f)) 1 (w.far m).tables.ports
        (λ p q pl ph ql qh a b. one_port p q (omega arith) (omega (arith, is.ports.1)) (omega arith) (omega (arith, is.ports.1)) (way_at p (omega arith) (omega (arith, is.ports.1)) a) (way_at q (omega arith) (omega (arith, is.ports.1)) b))
      where
        way_at : (q : ℕ) → 0 < q → q ≤ 64 → (map {B = Sent} (λ bytes. record { side = side.Port q; bytes = bytes }) (emits_tagged (forwarding_of (w.far m).tables) q f (read_etag f)) ≡ [] → ⊥) → above t (port_of m q) (on t n) ≡ true
        way_at q first few some =
            elim (on_the_way q (emits_tagged (forwarding_of (w.far m).tables) q f (read_etag f)) (hops_tagged q first few (read_etag f) refl)) [
              | inl e ↦ absurd (some (ap (map {B = Sent} (λ bytes. record { side = side.Port q; bytes = bytes })) e))
              | inr e ↦ e
            ]

    sent_on : IsSentOn t w m n f c
    sent_on =
        let plain : is_bare_control f ≡ false = typed_not_bare f (read_typed f (channel_tag k.channel) read.0) in
        record { sent = rw plain hops_all; few = rw plain few_hops; stays = rw plain refl }

  pub control_goes_on : ControlGoesOn
  control_goes_on t l setting w sound m n f c there goal bare_c k = sent_on t l setting w sound m n f c there goal bare_c k

-- ---- a settled world
at_rest : (t : Shape) (l : Limits) (s : State) (js : List Job) (o : Option Work) (all : ℕ → ExtenderTables) (answer : Option Response) → o ≡ None → js ≡ [] → StandsBy (fixing t l) o s js all answer →
    (all ≡ laid t (opened_by (is_extender t) []) s.held) × IsExactly t (first_held t l) (opened_by (is_extender t) []) s.bridge s.held
at_rest t l s js o all answer e f h =
    let R : Option Work → Type 0 = λ z. StandsBy (fixing t l) z s js all answer in
    let a : StandsBy (fixing t l) None s js all answer = subst R e h in
    let S : List Job → Type 0 = λ z. StandsBy (fixing t l) None s z all answer in
    let b : StandsBy (fixing t l) None s [] all answer = subst S f a in
    ((b.0).laid, (b.0).exact)

pub settled_is_at_rest : SettledIsAtRest
settled_is_at_rest t l w sound settled =
    let k = at_rest t l w.control w.control.queue w.control.work (λ n. (w.far n).tables) (system_of w).answer settled.work settled.queue sound.stands.stands in
    record { laid = k.0; exact = k.1.exact }

-- What comes out of the tree where the rows of a set are laid.
use Rattle.std.proofs.Common.{◌≡◌, ◌≢◌, ℕ, zero, suc, ◌<◌, ◌≤◌, ◌==◌, ◌&&◌, Bool, true, false, not, cond, List, [], ◌∷◌, Some, None, refl, sym, ◌∙◌, ap, subst, arith, inl, inr, ◌⊎◌, eq-eqb, eqb-true, nat_lt, nat_le}
use Rattle.std.proofs.lemmas.Bool.{cases_eq, cases_lt, cases_Bool, ne_eqb, le-leb, false≢true, false_from_ne_true}
use Rattle.std.proofs.lemmas.List.{append-nil}
use Rattle.exb_model.specs.ETags.{Tag, read_etag, stripped}
use Rattle.exb_model.specs.Tree.{Shape, device, on, is_port, is_cascade, is_under, HangsOn, up, top, trunk, IsTree, depth}
use Rattle.exb_model.specs.TreeSets.{covers}
use Rattle.exb_model.specs.ExtenderForwarding.{Tables, takes, left_out, bare, emits}
use Rattle.exb_model.specs.Carriage.{carried_in, carried}
use Rattle.exb_model.proofs.TreeWays.{up_high, top_high, top_low, top_none, among, among_rest, path_is, extender_of, up_itself, port_below, cascade_above, covers-true, covers-from}
use Rattle.exb_control_spec.specs.Plans.LaidRows.{IsLaid}
use Rattle.exb_control_spec.specs.Plans.CarriedFrames.{GroupWordsCarry, ChannelWordsCarry, ControlWordsCarry}
use Rattle.exb_control_spec.proofs.Plans.PortOutput.{emits_is, emits_none, emits_on, emits_out, emits_own, emits_untagged, carried_here, carried_past, carried_low, carried_end, astray}
use Rattle.exb_control_spec.proofs.Plans.TreeWays.{Under, under_test, cascade_test, from_extended, from_under, from_cascade, hung_cascade, trunk_top, under_above, trunk_along, not_deeper, less_above, among_trans, top_low_all, covers_above, covered_cascade}

-- what a port sends of a frame: it as it is, nothing, or it without its E-TAG
three_ways : (a b c : Bool) (x y : List ℕ) → (cond a (cond b [] (cond c (y ∷ []) (x ∷ []))) [] ≡ x ∷ [])
    ⊎ ((cond a (cond b [] (cond c (y ∷ []) (x ∷ []))) [] ≡ []) ⊎ (cond a (cond b [] (cond c (y ∷ []) (x ∷ []))) [] ≡ y ∷ []))
three_ways true true c x y = inr (inl refl)
three_ways true false true x y = inr (inr refl)
three_ways true false false x y = inl refl
three_ways false b c x y = inr (inl refl)

-- The rows of a set are laid under bridge port k, on which extender n hangs, and a frame has their number.
-- No port of the set lies above another, and where one is a cascade port the frame has no E-TAG inside.
module _ (s : Shape) (t : Tables) (k n : ℕ) (set : ℕ → Bool) (number : ℕ) (valid : IsTree s) (bridge : k < 64) (hung : HangsOn s n k)
    (inside : (q : ℕ) → set q ≡ true → Under s k q) (spread : (p q : ℕ) → set p ≡ true → set q ≡ true → among p (up s.on 64 q) ≡ true → p ≡ q)
    (laid : IsLaid s t k set number) (f : List ℕ) (tag : Tag) (read : read_etag f ≡ Some tag) (same : tag.ecid ≡ number)
    (plain : (q : ℕ) → set q ≡ true → is_cascade s q ≡ true → read_etag (stripped f) ≡ None) where
  pair_is : (p : ℕ) → Under s k p → t.pair tag.ecid p ≡ covers s set p
  pair_is p u = rw same (laid.rows p (under_test s k p u))

  -- a port on the way to one of the set sends the frame on as it is
  goes_on : (p : ℕ) → Under s k p → covers s set p ≡ true → set p ≡ false → emits t p f ≡ f ∷ []
  goes_on p u v out =
      let w = laid.ways p (cascade_test s k p u (covered_cascade s valid set p v out)) v out in
      emits_on t p f tag read w.kind (rw same w.other) w.channel (pair_is p u ∙ v)

  -- what leaves a cascade port: the frame as it is, nothing, or one without an E-TAG
  Low : List (List ℕ) → Type 0
  Low xs = (xs ≡ f ∷ []) ⊎ ((xs ≡ []) ⊎ ((xs ≡ stripped f ∷ []) × (read_etag (stripped f) ≡ None)))

  sends : (p : ℕ) → Under s k p → is_cascade s p ≡ true → Low (emits t p f)
  unfolding Low
  sends p u c =
      elim (cases_Bool (covers s set p)) [
        | inr v ↦ inr (inl (emits_none t p f tag read (pair_is p u ∙ v)))
        | inl v ↦ elim (cases_Bool (set p)) [
          | inr out ↦ inl (goes_on p u v out)
          | inl h ↦
              rw (emits_is t p f tag read) (
              elim (three_ways (takes t p tag) (left_out t p tag) (bare t p tag) f (stripped f)) [
                | inl e ↦ inl e
                | inr e ↦ elim e [ inl g ↦ inr (inl g) | inr g ↦ inr (inr (g, plain p h c)) ]
              ])
        ]
      ]

  comes : (d p : ℕ) → Under s k p → is_cascade s p ≡ true → Low (carried_in s t d n f p)
  unfolding Low
  comes zero p u c =
      elim (cases_eq (device p) n) [
        | inl e ↦ rw (carried_here s t zero n f p e) (sends p u c)
        | inr e ↦ inr (inl (carried_end s t n f p e))
      ]
  comes (suc d) p u c =
      elim (cases_eq (device p) n) [
        | inl e ↦ rw (carried_here s t (suc d) n f p e) (sends p u c)
        | inr e ↦ rw (carried_past s t d n f p e u.deep) (
            elim (cases_lt (on s (device p)) 64) [
              | inl l ↦ rw (carried_low s t d n f (on s (device p)) l hung.extender) (inr (inl refl))
              | inr g ↦
                  elim (comes d (on s (device p)) (under_above s valid k p u g) (hung_cascade s valid (device p) (on s (device p)) (extender_of s p u.deep u.known))) [
                    | inl one ↦ rw (one, append-nil) (sends p u c)
                    | inr other ↦ elim other [
                      | inl none ↦ rw none (inr (inl refl))
                      | inr last ↦ rw (last.0, emits_untagged t p (stripped f) last.1) (inr (inl refl))
                    ]
                  ]
            ])
      ]

  -- a port that isn't covered gets nothing
  spared : (d q : ℕ) → Under s k q → covers s set q ≡ false → carried_in s t d n f q ≡ []
  unfolding Low
  spared d q u v =
      let none : emits t q f ≡ [] = emits_none t q f tag read (pair_is q u ∙ v) in
      elim (cases_eq (device q) n) [
        | inl e ↦ carried_here s t d n f q e ∙ none
        | inr e ↦ past d e none
      ]
    where
      past : (d : ℕ) → device q ≢ n → emits t q f ≡ [] → carried_in s t d n f q ≡ []
      past zero e none = carried_end s t n f q e
      past (suc d) e none =
          carried_past s t d n f q e u.deep ∙ (
          elim (cases_lt (on s (device q)) 64) [
            | inl l ↦ rw (carried_low s t d n f (on s (device q)) l hung.extender) refl
            | inr g ↦
                elim (comes d (on s (device q)) (under_above s valid k q u g) (hung_cascade s valid (device q) (on s (device q)) (extender_of s q u.deep u.known))) [
                  | inl one ↦ rw (one, none) refl
                  | inr other ↦ elim other [ inl empty ↦ rw empty refl | inr last ↦ rw (last.0, emits_untagged t q (stripped f) last.1) refl ]
                ]
          ])

  -- a port to which all ports above it lead gets the frame
  given : (d q : ℕ) → Under s k q → top s.on d q ≡ k →
      ((x : ℕ) → 64 ≤ x → among x (up s.on d (on s (device q))) ≡ true → (covers s set x ≡ true) × (set x ≡ false)) → carried_in s t d n f q ≡ emits t q f
  given zero q u at ahead = let e : top s.on zero q ≡ q = top_none s q in absurd (omega (arith, u.deep))
  given (suc d) q u at ahead =
      let next = on s (device q) in
      let there = extender_of s q u.deep u.known in
      elim (cases_eq (device q) n) [
        | inl e ↦ carried_here s t (suc d) n f q e
        | inr e ↦ elim (cases_lt next 64) [
          | inl l ↦
              let is_k : next ≡ k = sym (top_low s d next l) ∙ (sym (top_high s d q u.deep) ∙ at) in
              absurd (e (valid.alone (device q) n k (subst (λ (x : ℕ). HangsOn s (device q) x) is_k there) hung))
          | inr g ↦
              let above_it = under_above s valid k q u g in
              let first = ahead next g (up_itself s (suc d) next) in
              let rest : carried_in s t d n f next ≡ emits t next f =
              given d next above_it (sym (top_high s d q u.deep) ∙ at) (λ x h a. ahead x h (rw (up_high s d next g) (among_rest x next _ a))) in
              carried_past s t d n f q e u.deep ∙ (rw (rest, goes_on next above_it first.0 first.1, append-nil) refl)
        ]
      ]

  -- above a covered port all is covered, and nothing is of the set
  ahead_of : (q : ℕ) → Under s k q → covers s set q ≡ true → (x : ℕ) → 64 ≤ x → among x (up s.on 64 (on s (device q))) ≡ true → (covers s set x ≡ true) × (set x ≡ false)
  ahead_of q u v x h a =
      let beyond : among x (up s.on (suc 64) q) ≡ true = rw (up_high s 64 q u.deep) (among_rest x q _ a) in (
        covers_above s valid set (suc 64) q x v beyond,
        false_from_ne_true (set x) (λ chosen.
            let c = covers-true s set q v in
            let on_it : among q (up s.on 64 c.member) ≡ true = rw (path_is s c.member) at c.below in
            let member = inside c.member c.chosen in
            let is_member : x ≡ c.member =
            spread x c.member chosen c.chosen (among_trans s valid c.member (top_low_all s valid c.member c.known) (suc 64) q x on_it beyond) in
            let less = less_above s valid 64 q x u.deep u.known h a in
            let more = not_deeper s valid 64 c.member q member.deep member.known u.deep on_it in
            let one : depth s (device x) ≡ depth s (device c.member) = ap (λ y. depth s (device y)) is_member in
            omega (arith, less, more, one)),
      )

  pub reached : (q : ℕ) → Under s k q → covers s set q ≡ true → carried s t n f q ≡ emits t q f
  unfolding carried
  reached q u v = given 64 q u (sym (trunk_top s q u.deep) ∙ u.at) (ahead_of q u v)

  pub passed : (q : ℕ) → Under s k q → covers s set q ≡ true → set q ≡ false → carried s t n f q ≡ f ∷ []
  passed q u v out = reached q u v ∙ goes_on q u v out

  pub missed : (q : ℕ) → Under s k q → covers s set q ≡ false → carried s t n f q ≡ []
  unfolding carried
  missed q u v = spared 64 q u v

  -- under another bridge port nothing comes
  pub elsewhere : (q : ℕ) → 64 ≤ q → is_port s q ≡ true → trunk s (device q) ≢ k → carried s t n f q ≡ []
  unfolding carried
  elsewhere q h known other =
      astray s t valid f 64 n q k hung bridge (λ e. other (trunk_top s q h ∙ sym e)) (top_low_all s valid q known)

  pub self_covers : (q : ℕ) → set q ≡ true → covers s set q ≡ true
  self_covers q h =
      let u = inside q h in
      covers-from s set q (record { member = q; within = port_below s valid q u.deep u.known; chosen = h; known = u.known; below = rw (path_is s q) (up_itself s 64 q) })

  pub own_pair : (q : ℕ) → set q ≡ true → t.pair tag.ecid q ≡ true
  own_pair q h = pair_is q (inside q h) ∙ self_covers q h

  -- an external port that isn't of the set is not covered
  pub external_missed : (q : ℕ) → 64 ≤ q → is_port s q ≡ true → is_cascade s q ≡ false → set q ≡ false → carried s t n f q ≡ []
  external_missed q h known external out =
      elim (cases_eq (trunk s (device q)) k) [
        | inl e ↦ missed q (record { deep = h; known = known; at = e })
            (false_from_ne_true (covers s set q) (λ v. false≢true (sym external ∙ covered_cascade s valid set q v out)))
        | inr e ↦ elsewhere q h known e
      ]

turned : {A : Type 0} (b : Bool) (xs : List A) → cond b [] xs ≡ cond (not b) xs []
turned true xs = refl
turned false xs = refl

-- external ports don't lie above others
external_spread : (s : Shape) (k : ℕ) (set : ℕ → Bool) → IsTree s → ((q : ℕ) → set q ≡ true → is_under s k q ≡ true) →
    (p q : ℕ) → set p ≡ true → set q ≡ true → among p (up s.on 64 q) ≡ true → p ≡ q
external_spread s k set valid under p q h g a =
    elim (cases_eq p q) [
      | inl e ↦ e
      | inr e ↦
          let found = (cascade_above s valid 64 q p (from_under s k q (under q g)).0.known e a).0 in
          absurd (false≢true (sym (from_under s k p (under p h)).1 ∙ hung_cascade s valid found.0 p found.1))
    ]

pub group_words : GroupWordsCarry
group_words s t k n set number valid bridge hung under group laid f tag read same q ex =
    let inside : (x : ℕ) → set x ≡ true → Under s k x = λ x h. (from_under s k x (under x h)).0 in
    let spread = external_spread s k set valid under in
    let plain : (x : ℕ) → set x ≡ true → is_cascade s x ≡ true → read_etag (stripped f) ≡ None =
    λ x h c. absurd (false≢true (sym (from_under s k x (under x h)).1 ∙ c)) in
    elim (cases_Bool (set q)) [
      | inl h ↦
          let external : t.cascade q ≡ false = laid.kinds q h ∙ (from_under s k q (under q h)).1 in
          let out = emits_out t q f tag read external (laid.channels q h) (own_pair s t k n set number valid bridge hung inside spread laid f tag read same plain q h) in
          let high : nat_le 4096 tag.ecid ≡ true = le-leb 4096 tag.ecid (omega arith) in
          reached s t k n set number valid bridge hung inside spread laid f tag read same plain q (inside q h)
          (self_covers s t k n set number valid bridge hung inside spread laid f tag read same plain q h) ∙ (out ∙ (
          rw (h, external, high) (turned (nat_lt 0 tag.ingress && t.own q == tag.ingress) (stripped f ∷ []))))
      | inr h ↦
          let parts = from_extended s q ex in
          external_missed s t k n set number valid bridge hung inside spread laid f tag read same plain q parts.0 parts.1 parts.2 h ∙ (rw h refl)
    ]

pub channel_words : ChannelWordsCarry
channel_words s t k n p valid bridge hung outer small laid f tag read same q ex =
    let set : ℕ → Bool = λ x. x == p in
    let under : (x : ℕ) → set x ≡ true → is_under s k x ≡ true = λ x h. subst (λ (y : ℕ). is_under s k y ≡ true) (sym (eqb-true x p h)) outer in
    let inside : (x : ℕ) → set x ≡ true → Under s k x = λ x h. (from_under s k x (under x h)).0 in
    let spread = external_spread s k set valid under in
    let plain : (x : ℕ) → set x ≡ true → is_cascade s x ≡ true → read_etag (stripped f) ≡ None =
    λ x h c. absurd (false≢true (sym (from_under s k x (under x h)).1 ∙ c)) in
    elim (cases_eq q p) [
      | inl e ↦
          let h : set q ≡ true = eq-eqb q p e in
          let own : t.own q ≡ tag.ecid = ap t.own e ∙ sym same in
          reached s t k n set (t.own p) valid bridge hung inside spread laid f tag read same plain q (inside q h)
          (self_covers s t k n set (t.own p) valid bridge hung inside spread laid f tag read same plain q h) ∙ (
          emits_own t q f tag read (omega arith) own (laid.channels q h) (own_pair s t k n set (t.own p) valid bridge hung inside spread laid f tag read same plain q h) ∙ (rw h refl))
      | inr e ↦
          let h : set q ≡ false = ne_eqb q p e in
          let parts = from_extended s q ex in
          external_missed s t k n set (t.own p) valid bridge hung inside spread laid f tag read same plain q parts.0 parts.1 parts.2 h ∙ (rw h refl)
    ]

pub control_words : ControlWordsCarry
control_words s t k n c valid bridge hung cascade small laid f tag read same no_tag q deep known =
    let set : ℕ → Bool = λ x. x == c in
    let here = (from_cascade s k c cascade).0 in
    let inside : (x : ℕ) → set x ≡ true → Under s k x = λ x h. subst (λ (y : ℕ). Under s k y) (sym (eqb-true x c h)) here in
    let spread : (x y : ℕ) → set x ≡ true → set y ≡ true → among x (up s.on 64 y) ≡ true → x ≡ y = λ x y h g a. eqb-true x c h ∙ sym (eqb-true y c g) in
    let plain : (x : ℕ) → set x ≡ true → is_cascade s x ≡ true → read_etag (stripped f) ≡ None = λ x h e. no_tag in
    elim (cases_eq q c) [
      | inl e ↦
          let h : set q ≡ true = eq-eqb q c e in
          let own : t.own q ≡ tag.ecid = ap t.own e ∙ sym same in
          reached s t k n set (t.own c) valid bridge hung inside spread laid f tag read same plain q (inside q h)
          (self_covers s t k n set (t.own c) valid bridge hung inside spread laid f tag read same plain q h) ∙ (
          emits_own t q f tag read (omega arith) own (laid.channels q h) (own_pair s t k n set (t.own c) valid bridge hung inside spread laid f tag read same plain q h) ∙ (rw h refl))
      | inr e ↦
          let out : set q ≡ false = ne_eqb q c e in
          rw out (
          elim (cases_Bool (covers s set q)) [
            | inl v ↦
                let found = covers-true s set q v in
                let same_trunk : trunk s (device q) ≡ trunk s (device found.member) =
                trunk_along s valid 64 found.member q (inside found.member found.chosen).deep found.known deep (rw (path_is s found.member) at found.below) in
                let u : Under s k q = record { deep = deep; known = known; at = same_trunk ∙ (inside found.member found.chosen).at } in
                passed s t k n set (t.own c) valid bridge hung inside spread laid f tag read same plain q u v out ∙ (rw v refl)
            | inr v ↦ rw v (
                elim (cases_eq (trunk s (device q)) k) [
                  | inl at ↦ missed s t k n set (t.own c) valid bridge hung inside spread laid f tag read same plain q (record { deep = deep; known = known; at = at }) v
                  | inr other ↦ elsewhere s t k n set (t.own c) valid bridge hung inside spread laid f tag read same plain q deep known other
                ])
          ])
    ]

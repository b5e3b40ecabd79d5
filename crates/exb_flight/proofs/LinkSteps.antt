-- The steps of links keep all facts.
use Rattle.std.proofs.Common.{◌≡◌, ◌≢◌, ◌⊎◌, ℕ, ◌<◌, ◌≤◌, ◌==◌, ◌++◌, cond, true, List, [], ◌∷◌, Option, Some, None, nat_lt, slice_index, refl, sym, ◌∙◌, ap, subst, arith, inl, inr, eq-eqb}
use Rattle.std.proofs.lemmas.List.{append-nil}
use Rattle.std.proofs.lemmas.Bool.{cases_Bool, ltb-true, and_parts, and_from, false≢true}
use mathlib.Core.Path.{fun_ext}
use Rattle.exb_model.specs.declared.event.Event.{Event}
use Rattle.exb_model.specs.declared.event.Event.TheVariants as event
use Rattle.exb_model.specs.ETags.{Tag, read_etag}
use Rattle.exb_model.specs.Tree.{Shape, device, on, trunk, is_extender, is_under}
use Rattle.exb_model.specs.Setup.{Limits}
use Rattle.exb_model.specs.History.{Basis, History, bridge_after}
use Rattle.exb_model.specs.FlatBridge.{Sent, flat}
use Rattle.exb_frame.specs.TagValues.{TagRoundTrip}
use Rattle.exb_csp.specs.declared.message.Response.{Response}
use Rattle.exb_model.specs.Lists.{is_listed}
use Rattle.exb_relay.specs.Laws.{SendsAreWords, SendsLeaveAsFlat}
use Rattle.exb_control_spec.specs.Machine.{Work}
use Rattle.exb_control_spec.specs.Runs.RequestTargets.{KnowsWork}
use Rattle.exb_control_spec.specs.Runs.PlannedChanges.{IsSetting}
use Rattle.exb_control_spec.specs.Runs.Systems as systems
use Rattle.exb_flight.specs.Items.{Word, Key, is_key, Item, Data, Token, Each, UpTo, words_of, without_data, without_token, has, leads}
use Rattle.exb_flight.specs.Tree.{Over, itself, further, IsLink}
use Rattle.exb_flight.specs.DownwardFrames.{IsWord, owed}
use Rattle.exb_flight.specs.ClearedNumbers.{Clears, Deletes}
use Rattle.exb_flight.specs.Flight.{Flight, Stamp, Step, Arrive, CarryUp, CarryIn, Relay, CarryDown, SendDown, SendUp, LoseDown, LoseUp, Move, Note, tables_of, work_of, serial_of, key_of, hangs_under, add, change, moved_down, arrive, carry_up, carry_in, carry_down, stepped}
use Rattle.exb_flight.specs.AllowedSteps.{IsFirst, CanArrive, IsOld, IsAsked, IsAnswered, CanMove, IsQuiet, Can}
use Rattle.exb_flight.specs.FlightFacts.{IsFrom, IsDeleting, IsUp, Words, Sources, Asked, Ups, Answered, Even, Facts, StepsKeep}
use Rattle.exb_flight.proofs.ItemLists.{each_first, leads_has}
use Rattle.exb_flight.proofs.ExtendersAbove.{over_child, over_trans, link_over, trunk_child}
use Rattle.exb_flight.proofs.LinkItems.{under, each_moved, words_add, has_add, words_lose, has_lose, each_more, has_more, each_less, has_less, up_to_moved, up_to_word, up_to_token, up_to_less, up_to_lost}
use Rattle.exb_flight.proofs.Downward.{each_goes, words_down, clears_down, owes_down, clears_add, clears_other, clears_lose}
use Rattle.exb_flight.proofs.Upward.{deletes_carry_in, deletes_carry_up, deletes_arrive, deletes_add, deletes_other, deletes_lose}
use Rattle.exb_flight.proofs.Execution.{facts_after}
use Rattle.exb_flight.proofs.ControlSteps.{facts_order, facts_hear, facts_stray, facts_beat, facts_answer}
use Rattle.exb_flight.proofs.RelaySteps.{facts_relay}

some_same : {A : Type 0} (x y : A) → Some x ≡ Some y → x ≡ y
some_same x y e = cc

some_none : {A : Type 0} (x : A) → Some x ≡ None → ⊥
some_none x e = cc

same_key : (k : Key) → is_key k k ≡ true
same_key k = and_from (k.extender == k.extender) (k.serial == k.serial) (eq-eqb k.extender k.extender refl) (eq-eqb k.serial k.serial refl)

-- ---- what happens besides
quiet_flat : (i : Basis) (e : Event) (h : History) (q : ℕ) → IsQuiet e → flat i (e ∷ h) q ≡ flat i h q
unfolding flat
quiet_flat i (event.Relay p n t f) h q k = absurd k
quiet_flat i (event.Ignored p n) h q k = append-nil (flat i h q)
quiet_flat i (event.Tick seconds) h q k = append-nil (flat i h q)
quiet_flat i (event.Commit n) h q k = absurd k
quiet_flat i (event.Refuse n cause) h q k = append-nil (flat i h q)
quiet_flat i (event.Up p) h q k = absurd k
quiet_flat i (event.NoUp p cause) h q k = append-nil (flat i h q)
quiet_flat i event.Settled h q k = append-nil (flat i h q)

quiet_bridge : (i : Basis) (e : Event) (h : History) → IsQuiet e → bridge_after i (e ∷ h) ≡ bridge_after i h
unfolding bridge_after
quiet_bridge i (event.Relay p n t f) h k = absurd k
quiet_bridge i (event.Ignored p n) h k = refl
quiet_bridge i (event.Tick seconds) h k = refl
quiet_bridge i (event.Commit n) h k = absurd k
quiet_bridge i (event.Refuse n cause) h k = refl
quiet_bridge i (event.Up p) h k = absurd k
quiet_bridge i (event.NoUp p cause) h k = refl
quiet_bridge i event.Settled h k = refl

module _ (s : Shape) (l : Limits) (i : Basis) (setting : IsSetting s l) (w : Flight) (h : Facts s i w) where
  -- ---- other words upwards
  with_up : (up : ℕ → List Item) → Ups s (record w { up = up }) → Answered s (record w { up = up }) → ((n : ℕ) → UpTo (serial_of w.system.state) (up n)) →
      ((v : Work) → work_of w ≡ Some v → (n : ℕ) → has (key_of w.system.state v) (up n) ≡ true → (w.system.answer ≢ None) × Over s n v.first.extender) → Facts s i (record w { up = up })
  with_up up ups answered tokens who =
      record {
        stands = h.stands;
        knows = h.knows;
        work = h.work;
        queue = h.queue;
        force = h.force;
        channels = h.channels;
        ways = h.ways;
        tops = h.tops;
        words = h.words;
        sources = h.sources;
        asked = h.asked;
        ups = ups;
        answered = answered;
        serials = record { downward = h.serials.downward; upward = tokens; answered = who };
        even = h.even;
      }

  -- ---- other words downwards, and what has left
  with_down : (down : ℕ → List Item) (left : ℕ → List Sent) → Words s (record w { down = down; left = left }) → Sources s (record w { down = down; left = left }) → Asked s (record w { down = down; left = left }) →
      ((n : ℕ) → UpTo (serial_of w.system.state) (down n)) → Even s i (record w { down = down; left = left }) → Facts s i (record w { down = down; left = left })
  with_down down left words sources asked tokens even =
      record {
        stands = h.stands;
        knows = h.knows;
        work = h.work;
        queue = h.queue;
        force = h.force;
        channels = h.channels;
        ways = h.ways;
        tops = h.tops;
        words = words;
        sources = sources;
        asked = asked;
        ups = h.ups;
        answered = h.answered;
        serials = record { downward = tokens; upward = h.serials.upward; answered = h.serials.answered };
        even = even;
      }

  -- the extender of the outstanding request is one of the tree
  asked_link : (v : Work) → work_of w ≡ Some v → IsLink s v.first.extender
  asked_link v e =
      let k : is_extender s v.first.extender ≡ true = (subst (KnowsWork s) e h.knows.work).first in
      let both = and_parts (nat_lt 0 v.first.extender) (nat_lt 0 (slice_index s.ports v.first.extender)) k in
      record { extender = ltb-true 0 _ both.0; there = ltb-true 0 _ both.1; at = refl }

  -- ---- a frame arrives
  facts_arrive : (p : Stamp) (g : List ℕ) → CanArrive s w p g → Facts s i (arrive w p g)
  facts_arrive p g c =
      elim (cases_Bool (nat_lt 0 ((tables_of w).own p.port))) [
        | inr e ↦ rw e h
        | inl e ↦
            let some : 0 < (tables_of w).own p.port = ltb-true 0 _ e in
            let f : Word = record { bytes = g; port = p.port; index = p.index; moment = p.moment } in
            let positive : 0 < c.tag.ecid = subst (λ (n : ℕ). 0 < n) (sym c.own) some in
            rw e (with_up (add w.up (device p.port) (Data f))
            (λ n link. each_more w.up (device p.port) f (IsUp s w.system n) n (h.ups n link)
            (λ z. record { tag = c.tag; read = c.read; outer = c.outer; below = itself (sym z); some = positive; number = inl (sym c.own); way = λ m o g. h.tops p.port c.outer some m (subst (Over s m) z o) g }))
            (λ q d.
            let old = h.answered q d in (
              old.0,
              deletes_arrive s w.up (device p.port) f (key_of w.system.state d.work) d.work.first.extender q (λ z. none (p.port) q some z old.0) old.1,
            ))
            (λ n. up_to_word w.up (device p.port) f (serial_of w.system.state) n (h.serials.upward n))
            (λ v z n there. h.serials.answered v z n (sym (has_more w.up (device p.port) f (key_of w.system.state v) n) ∙ there)))
      ]
    where
      none : (r q : ℕ) → 0 < (tables_of w).own r → r ≡ q → (tables_of w).own q ≡ 0 → ⊥
      none r q some same zero_own = (let z : (tables_of w).own r ≡ 0 = ap (λ (x : ℕ). (tables_of w).own x) same ∙ zero_own in absurd (omega (arith, some, z)))

  -- ---- an upward word goes on
  facts_carry_up : (n : ℕ) (f : Word) → IsFirst s w.up n f → 64 ≤ on s n → Facts s i (carry_up s w n f)
  facts_carry_up n f c high =
      let gone = change w.up n (without_data (w.up n)) in
      let its : IsUp s w.system n f = each_first (IsUp s w.system n) (w.up n) f c.rest c.first (h.ups n c.link) in
      with_up (add gone (device (on s n)) (Data f))
      (λ k link. each_more gone (device (on s n)) f (IsUp s w.system k) k (each_less w.up n (IsUp s w.system k) k (h.ups k link))
      (λ z. record { tag = its.tag; read = its.read; outer = its.outer; below = over_child s k n (device f.port) high (sym z) its.below; some = its.some; number = its.number; way = λ m o g. its.way m (over_trans s m k n o (further high (itself (sym z)))) g }))
      (λ q d.
      let old = h.answered q d in (
        old.0,
        deletes_carry_up s w.up n high f c.rest c.first (key_of w.system.state d.work) d.work.first.extender q
            (λ same. subst (Over s n) d.here (subst (λ (x : ℕ). Over s n (device x)) same its.below)) old.1,
      ))
      (λ k. up_to_word gone (device (on s n)) f (serial_of w.system.state) k (up_to_less w.up n (serial_of w.system.state) k (h.serials.upward k)))
      (λ v e k there. h.serials.answered v e k (sym (has_more gone (device (on s n)) f (key_of w.system.state v) k ∙ has_less w.up n (key_of w.system.state v) k) ∙ there))

  facts_carry_in : (n : ℕ) → Facts s i (carry_in w n)
  facts_carry_in n =
      with_up (change w.up n (without_data (w.up n)))
      (λ k link. each_less w.up n (IsUp s w.system k) k (h.ups k link))
      (λ q d. let old = h.answered q d in (old.0, deletes_carry_in s w.up n (key_of w.system.state d.work) d.work.first.extender q old.1))
      (λ k. up_to_less w.up n (serial_of w.system.state) k (h.serials.upward k))
      (λ v e k there. h.serials.answered v e k (sym (has_less w.up n (key_of w.system.state v) k) ∙ there))

  -- ---- an extender takes a word
  facts_carry_down : (n : ℕ) (f : Word) → IsFirst s w.down n f → Facts s i (carry_down s w n f)
  facts_carry_down n f c =
      let t = tables_of w in
      let its : IsWord s t n f = each_first (IsWord s t n) (w.down n) f c.rest c.first (h.words n c.link) in
      with_down (moved_down s t n f w.down) (carry_down s w n f).left
      (λ k link. words_down s setting.tree t n c.link f w.down c.rest c.first its k link (h.words k link))
      (λ k link. each_moved s t n f w.down (IsFrom s w.system k) k (h.sources k link) (λ d. each_goes s setting.tree t n c.link f w.down c.rest c.first its (IsFrom s w.system k) k link d (λ z. from_below n k link d (each_first (IsFrom s w.system n) (w.down n) f c.rest c.first (h.sources n c.link)))))
      (λ v e none x cleared.
      clears_down s setting.tree t n c.link f w.down c.rest c.first its (key_of w.system.state v) v.first.extender x (λ k o. link_over s setting.tree k v.first.extender (asked_link v e) o) (h.asked v e none x cleared))
      (λ k. up_to_moved s t n f w.down (serial_of w.system.state) k (h.serials.downward k))
      (λ q ext. owes_down s setting.tree t n c.link f w.down c.rest c.first its q ext (w.left q) ∙ h.even q ext)
    where
      from_below : (n k : ℕ) → IsLink s k → hangs_under s n k ≡ true → IsFrom s w.system n f → IsFrom s w.system k f
      from_below n k link d old =
          let u = under s n k d in
          let same : trunk s k ≡ trunk s n = trunk_child s setting.tree k link u.0 ∙ ap (trunk s) u.1 in
          record {
            members = subst (λ (j : ℕ). (tag : Tag) → read_etag f.bytes ≡ Some tag → 4096 ≤ tag.ecid → (q : ℕ) → is_listed (w.system.state.held.set j tag.ecid) q ≡ true → 0 < (tables_of w).own q) (sym same) old.members;
            source = subst (λ (j : ℕ). (tag : Tag) → read_etag f.bytes ≡ Some tag → 4096 ≤ tag.ecid → 0 < tag.ingress → is_under s j f.port ≡ true) (sym same) old.source;
            others = subst (λ (j : ℕ). (tag : Tag) → read_etag f.bytes ≡ Some tag → 4096 ≤ tag.ecid → 0 < tag.ingress → (q : ℕ) → is_listed (w.system.state.held.set j tag.ecid) q ≡ true →
                (tables_of w).own q ≡ tag.ingress → q ≡ f.port) (sym same) old.others;
          }

  -- ---- control words
  -- the same data words
  even_as : (down : ℕ → List Item) → ((n : ℕ) → words_of (down n) ≡ words_of (w.down n)) → Even s i (record w { down = down })
  even_as down same q ext =
      ap (λ (ws : ℕ → List Word). w.left q ++ cond (nat_lt q 64) [] (owed s (tables_of w) ws q)) (fun_ext same) ∙ h.even q ext

  words_as : (down : ℕ → List Item) → ((n : ℕ) → words_of (down n) ≡ words_of (w.down n)) → Words s (record w { down = down })
  words_as down same n link = subst (λ (ws : List Word). Each (IsWord s (tables_of w) n) ws) (sym (same n)) (h.words n link)

  sources_as : (down : ℕ → List Item) → ((n : ℕ) → words_of (down n) ≡ words_of (w.down n)) → Sources s (record w { down = down })
  sources_as down same n link = subst (λ (ws : List Word). Each (IsFrom s w.system n) ws) (sym (same n)) (h.sources n link)

  ups_as : (up : ℕ → List Item) → ((n : ℕ) → words_of (up n) ≡ words_of (w.up n)) → Ups s (record w { up = up })
  ups_as up same n link = subst (λ (ws : List Word). Each (IsUp s w.system n) ws) (sym (same n)) (h.ups n link)

  facts_send_down : (n : ℕ) (k : Key) → IsOld w k ⊎ IsAsked s w n k → Facts s i (record w { down = add w.down n (Token k) })
  facts_send_down n k c =
      let down = add w.down n (Token k) in
      with_down down w.left (words_as down (words_add w.down n k)) (sources_as down (words_add w.down n k)) (λ v e none x cleared. asked v e (h.asked v e none x cleared) c)
      (λ m. up_to_token w.down n k (serial_of w.system.state) m (up_to c) (h.serials.downward m)) (even_as down (words_add w.down n k))
    where
      up_to : IsOld w k ⊎ IsAsked s w n k → k.serial ≤ serial_of w.system.state k.extender
      up_to (inl old) = old.asked
      up_to (inr now) = (let e = now.key in subst (λ (j : Key). j.serial ≤ serial_of w.system.state j.extender) (sym now.key) (itself_le (serial_of w.system.state now.work.first.extender)))
        where
          itself_le : (a : ℕ) → a ≤ a
          itself_le a = omega arith

      asked : (v : Work) → work_of w ≡ Some v → {e : ℕ} → Clears s w.down (key_of w.system.state v) v.first.extender e → IsOld w k ⊎ IsAsked s w n k →
          Clears s (add w.down n (Token k)) (key_of w.system.state v) v.first.extender e
      asked v at_work {e} cl (inl old) = clears_other s w.down (key_of w.system.state v) v.first.extender e n k (old.over v at_work) cl
      asked v at_work {e} cl (inr now) =
          let same : now.work ≡ v = some_same now.work v (sym now.at_work ∙ at_work) in
          let key : k ≡ key_of w.system.state v = now.key ∙ ap (key_of w.system.state) same in
          subst (λ (j : Key). Clears s (add w.down n (Token j)) (key_of w.system.state v) v.first.extender e) (sym key)
          (clears_add s w.down (key_of w.system.state v) v.first.extender e n (subst (λ (j : Key). (on s n < 64) ⊎ (leads j (w.down (device (on s n))) ≡ true)) key now.from) cl)

  facts_send_up : (n : ℕ) (k : Key) → IsOld w k ⊎ IsAnswered s w n k → Facts s i (record w { up = add w.up n (Token k) })
  facts_send_up n k c =
      let up = add w.up n (Token k) in
      with_up up (ups_as up (words_add w.up n k)) (λ q d. let old = h.answered q d in (old.0, answered q d old.1 c))
      (λ m. up_to_token w.up n k (serial_of w.system.state) m (up_to c) (h.serials.upward m))
      (λ v e m there. elim (has_add (key_of w.system.state v) w.up n k m there) [
        | inl old ↦ h.serials.answered v e m old
        | inr new ↦ way v e m new.0 new.1 c
      ])
    where
      up_to : IsOld w k ⊎ IsAnswered s w n k → k.serial ≤ serial_of w.system.state k.extender
      up_to (inl old) = old.asked
      up_to (inr now) = subst (λ (j : Key). j.serial ≤ serial_of w.system.state j.extender) (sym now.key) (itself_le (serial_of w.system.state now.work.first.extender))
        where
          itself_le : (a : ℕ) → a ≤ a
          itself_le a = omega arith

      -- where an answer is on the way from
      from_way : (v : Work) → work_of w ≡ Some v → (now : IsAnswered s w n k) → (k ≡ key_of w.system.state v) × ((n ≡ v.first.extender) ⊎ ((x : ℕ) × (64 ≤ on s x) × (device (on s x) ≡ n) × (leads (key_of w.system.state v) (w.up x) ≡ true)))
      from_way v e now =
          let same : now.work ≡ v = some_same now.work v (sym now.at_work ∙ e) in
          let key : k ≡ key_of w.system.state v = now.key ∙ ap (key_of w.system.state) same in (
            key,
            elim now.from [
              | inl own ↦ inl (own ∙ ap (λ (z : Work). z.first.extender) same)
              | inr below ↦ inr (below.0, below.1, below.2, subst (λ (j : Key). leads j (w.up below.0) ≡ true) key below.3)
            ],
          )

      way : (v : Work) → work_of w ≡ Some v → (m : ℕ) → m ≡ n → is_key k (key_of w.system.state v) ≡ true → IsOld w k ⊎ IsAnswered s w n k → (w.system.answer ≢ None) × Over s m v.first.extender
      way v e m at same (inl old) = absurd (false≢true (sym (old.over v e) ∙ same))
      way v e m at same (inr now) = (
        (λ none. some_none now.response (sym now.answer ∙ none)),
        subst (λ (x : ℕ). Over s x v.first.extender) (sym at) (elim (from_way v e now).1 [
          | inl own ↦ itself (sym own)
          | inr below ↦ over_trans s n below.0 v.first.extender (further below.1 (itself below.2)) (h.serials.answered v e below.0 (leads_has (key_of w.system.state v) (w.up below.0) below.3)).1
        ]),
      )

      answered : (q : ℕ) (d : IsDeleting w.system q) → Deletes s w.up (key_of w.system.state d.work) d.work.first.extender q → IsOld w k ⊎ IsAnswered s w n k →
          Deletes s (add w.up n (Token k)) (key_of w.system.state d.work) d.work.first.extender q
      answered q d old (inl c) = deletes_other s w.up (key_of w.system.state d.work) d.work.first.extender q n k (c.over d.work d.at_work) old
      answered q d old (inr now) =
          let f = from_way d.work d.at_work now in
          subst (λ (j : Key). Deletes s (add w.up n (Token j)) (key_of w.system.state d.work) d.work.first.extender q) (sym f.0)
          (deletes_add s setting.tree w.up (key_of w.system.state d.work) d.work.first.extender q n (asked_link d.work d.at_work) f.1
          (λ x there. (h.serials.answered d.work d.at_work x there).1) old)

  facts_lose_down : (n at : ℕ) → Facts s i (record w { down = change w.down n (without_token (w.down n) at) })
  facts_lose_down n at =
      let down = change w.down n (without_token (w.down n) at) in
      with_down down w.left (words_as down (words_lose w.down n at)) (sources_as down (words_lose w.down n at))
      (λ v e none x cleared. clears_lose s w.down (key_of w.system.state v) v.first.extender x n at (h.asked v e none x cleared))
      (λ m. up_to_lost w.down n at (serial_of w.system.state) m (h.serials.downward m)) (even_as down (words_lose w.down n at))

  facts_lose_up : (n at : ℕ) → Facts s i (record w { up = change w.up n (without_token (w.up n) at) })
  facts_lose_up n at =
      let up = change w.up n (without_token (w.up n) at) in
      with_up up (ups_as up (words_lose w.up n at))
      (λ q d. let old = h.answered q d in (old.0, deletes_lose s w.up (key_of w.system.state d.work) d.work.first.extender q n at old.1))
      (λ m. up_to_lost w.up n at (serial_of w.system.state) m (h.serials.upward m))
      (λ v e m there. h.serials.answered v e m (has_lose (key_of w.system.state v) w.up n at m there))

  facts_note : (e : Event) → IsQuiet e → Facts s i (record w { history = e ∷ w.history })
  facts_note e k =
      record {
        stands = h.stands;
        knows = h.knows;
        work = h.work;
        queue = h.queue;
        force = quiet_bridge i e w.history k ∙ h.force;
        channels = h.channels;
        ways = h.ways;
        tops = h.tops;
        words = h.words;
        sources = h.sources;
        asked = h.asked;
        ups = h.ups;
        answered = h.answered;
        serials = record { downward = h.serials.downward; upward = h.serials.upward; answered = h.serials.answered };
        even = λ q ext. h.even q ext ∙ sym (quiet_flat i e w.history q k);
      }

  -- ---- the outstanding request is executed
  execute_by : (o : Option Work) (a : Option Response) → work_of w ≡ o → w.system.answer ≡ a →
      ((v : Work) → o ≡ Some v → leads (key_of w.system.state v) (w.down v.first.extender) ≡ true) →
      Facts s i (record w { system = record { state = w.system.state; tables = systems.executes o a w.system.tables; answer = systems.answer_of o a w.system.tables } })
  execute_by None a e f may = subst (λ (r : Option Response). Facts s i (record w { system = record { state = w.system.state; tables = w.system.tables; answer = r } })) f h
  execute_by (Some v) None e f may = facts_after s l i setting w h v e f (may v refl)
  execute_by (Some v) (Some response) e f may = subst (λ (r : Option Response). Facts s i (record w { system = record { state = w.system.state; tables = w.system.tables; answer = r } })) f h

  facts_move : (step : systems.Step) → CanMove s i w step → Facts s i (stepped s l i w (Move step))
  facts_move (systems.Order c) may = facts_order s l i setting w h c may
  facts_move (systems.Hear n) may = facts_hear s l i setting w h n
  facts_move systems.Execute may = execute_by (work_of w) w.system.answer refl refl may
  facts_move systems.Answer may = facts_answer s l i setting w h may
  facts_move (systems.Stray n m) may = facts_stray s l i setting w h n m may
  facts_move systems.Beat may = facts_beat s l i setting w h

  pub facts_step : TagRoundTrip → SendsAreWords → SendsLeaveAsFlat → (x : Step) → Can s i w x → Facts s i (stepped s l i w x)
  facts_step round words leave (Arrive p g) c = facts_arrive p g c
  facts_step round words leave (CarryUp n f) c = facts_carry_up n f c.0 c.1
  facts_step round words leave (CarryIn n f) c = facts_carry_in n
  facts_step round words leave (Relay p f) c = facts_relay s l i setting round words leave w h p f c
  facts_step round words leave (CarryDown n f) c = facts_carry_down n f c
  facts_step round words leave (SendDown n k) c = facts_send_down n k c
  facts_step round words leave (SendUp n k) c = facts_send_up n k c
  facts_step round words leave (LoseDown n at) c = facts_lose_down n at
  facts_step round words leave (LoseUp n at) c = facts_lose_up n at
  facts_step round words leave (Move step) c = facts_move step c
  facts_step round words leave (Note e) c = facts_note e c

pub steps_keep : TagRoundTrip → SendsAreWords → SendsLeaveAsFlat → StepsKeep
steps_keep round words leave s l i setting w x h c = facts_step s l i setting w h round words leave x c

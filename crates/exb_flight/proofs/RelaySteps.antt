-- Relaying a frame keeps all facts.
use Rattle.std.proofs.Common.{◌≡◌, ◌≢◌, ℕ, ◌+◌, ◌<◌, ◌≤◌, ◌==◌, ◌&&◌, ◌++◌, cond, Bool, true, false, List, [], ◌∷◌, length, map, Option, Some, None, refl, sym, ◌∙◌, ap, subst, arith, inl, inr, eq-eqb}
use Rattle.std.specs.Prelude.{is_some}
use Rattle.std.specs.List.{flat_map}
use Rattle.std.proofs.lemmas.List.{append-nil, append_assoc}
use Rattle.std.proofs.lemmas.Grind.{flat_map-append}
use Rattle.std.proofs.lemmas.Bool.{cases_lt, cases_Bool, ne_eqb, lt-ltb, le-ltb, and_from, false≢true}
use mathlib.Core.Path.{fun_ext}
use Rattle.exb_model.specs.declared.event.Event.TheVariants as event
use Rattle.exb_model.specs.declared.vlan.Kind.{Kind}
use Rattle.exb_model.specs.ETags.{Tag, read_etag, tagged}
use Rattle.exb_model.specs.Frames.{egress}
use Rattle.exb_model.specs.Tree.{Shape, IsTree, HangsOn, device, on, top, trunk, is_extender, is_external, is_under}
use Rattle.exb_model.specs.TreeSets.{covers}
use Rattle.exb_model.specs.ExtenderForwarding.{Tables}
use Rattle.exb_model.specs.Carriage.{carried, Carries}
use Rattle.exb_model.specs.Configuration.{Bridge}
use Rattle.exb_model.specs.Setup.{Limits}
use Rattle.exb_model.specs.History.{Basis, bridge_after}
use Rattle.exb_model.specs.Learning.{passes, learned}
use Rattle.exb_model.specs.FlatBridge.{Sent, sent_by, flat}
use Rattle.exb_model.proofs.TreeWays.{top_below, top_hangs}
use Rattle.exb_control_spec.specs.Plans.LaidRows.{is_port_under}
use Rattle.exb_control_spec.proofs.Plans.TreeWays.{under_test}
use Rattle.exb_control_spec.proofs.Plans.PortOutput.{astray, carried_low}
use Rattle.exb_frame.specs.declared.etag.ETag.{ETag}
use Rattle.exb_frame.specs.TagValues.{tag_of, TagRoundTrip}
use Rattle.exb_csp.specs.Execution.{ExtenderTables}
use Rattle.exb_csp.specs.AllTables.{tables_at, executes_at}
use Rattle.exb_csp.specs.declared.ask_at.AskAt.{AskAt}
use Rattle.exb_model.specs.Lists.{is_listed}
use Rattle.exb_control_spec.specs.Plans.HeldNumbers.{Held, numbers_in}
use Rattle.exb_control_spec.proofs.Plans.GroupOwners.{group_found}
use Rattle.exb_control_spec.proofs.Runs.Members.{set_lies}
use Rattle.exb_relay.specs.declared.send.SendTo.{SendTo}
use Rattle.exb_model.specs.Numbers.{Numbers, IsReady, IsNumbering}
use Rattle.exb_relay.specs.Sends.{or_zero, ingress_at}
use Rattle.exb_relay.specs.TreeEgress.{extender_on, coming_out, leaving_by, all_leaving}
use Rattle.exb_relay.specs.Laws.{IsAt, IsSent, SendsAreWords, SendsLeaveAsFlat, left_by}
use Rattle.exb_control_spec.specs.Decisions.{decide}
use Rattle.exb_control_spec.specs.Machine.{Work}
use Rattle.exb_control_spec.specs.Runs.TablesMidChange.{IsLaidFor}
use Rattle.exb_control_spec.specs.Runs.MachineInvariant.{Stands}
use Rattle.exb_control_spec.specs.Runs.PlannedChanges.{IsSetting, planning}
use Rattle.exb_control_spec.specs.Runs.Systems.{System}
use Rattle.exb_control_spec.specs.Runs.Systems as systems
use Rattle.exb_control_spec.proofs.Runs.NumbersInForce.{ready_midway, held_are_numbers}
use Rattle.exb_control_spec.proofs.Runs.TablesMidChange.{laid_midway}
use Rattle.exb_control_spec.proofs.Runs.LaidCarriage.{carries_midway}
use Rattle.exb_control_spec.proofs.Runs.PlannedChanges.{planned_steps_stand}
use Rattle.exb_flight.specs.Items.{Word, Key, Item, Each, NotOf, words_of, stamped, data_of}
use Rattle.exb_flight.specs.Tree.{Over, further}
use Rattle.exb_flight.specs.DownwardFrames.{IsWord, owed}
use Rattle.exb_flight.specs.ClearedNumbers.{IsCleared, Clears}
use Rattle.exb_flight.specs.Flight.{Flight, Stamp, tables_of, bridge_of, held_of, work_of, serial_of, key_of, words_at, word_by, words_in, local_by, local_in, words_sent, local_sent, sends_for, relay}
use Rattle.exb_flight.specs.AllowedSteps.{CanRelay}
use Rattle.exb_flight.specs.FlightFacts.{IsFrom, Even, Facts}
use Rattle.exb_flight.proofs.ItemLists.{words_append, words_data, each_append, behind_append, behind_data, has_more_data, up_to_append, up_to_data}
use Rattle.exb_flight.proofs.ExtendersAbove.{home_link, trunk_over, over_trans}
use Rattle.exb_flight.proofs.LaidRows.{laid_word, trunk_low}
use Rattle.exb_flight.proofs.OwedFrames.{push_owes}
use Rattle.exb_flight.proofs.OwedUnchanged.{external_deep}
use Rattle.exb_flight.proofs.Execution.{executed_is}
use Rattle.exb_flight.proofs.BridgeSends.{each_of_all, passes_long, egress_long, found_on, hangs_there, Number, set_of, number_under, number_covered, number_laid}

-- ---- lists
-- what leaves at a moment
abbrev pub timed : ℕ → List (List ℕ) → List Sent
timed t xs = map (λ (bytes : List ℕ). (t, bytes)) xs

stamps : (t : ℕ) (f : Word) (xs : List (List ℕ)) → f.moment ≡ t → stamped f xs ≡ timed t xs
stamps t f [] e = refl
stamps t f (x ∷ xs) e = rw (e, stamps t f xs e) refl

map_append : (t : ℕ) (xs ys : List (List ℕ)) → timed t (xs ++ ys) ≡ timed t xs ++ timed t ys
map_append t [] ys = refl
map_append t (x ∷ xs) ys = ap (λ (z : List Sent). (t, x) ∷ z) (map_append t xs ys)

each_flat : {X : Type 0} (P : Word → Type 0) (f : X → List Word) (xs : List X) → Each (λ x. Each P (f x)) xs → Each P (flat_map f xs)
each_flat P f [] h = tt
each_flat P f (x ∷ xs) h = each_append P (f x) (flat_map f xs) h.0 (each_flat P f xs h.1)

each_change : {X : Type 0} (P Q : X → Type 0) (xs : List X) → ((x : X) → P x → Q x) → Each P xs → Each Q xs
each_change P Q [] k h = tt
each_change P Q (x ∷ xs) k h = (k x h.0, each_change P Q xs k h.1)

-- ---- where nothing goes
module _ (s : Shape) (valid : IsTree s) (t : Tables) (port : ℕ) (bytes : List ℕ) (q : ℕ) where
  low_by : q < 64 → (o : Option ℕ) → extender_on s (port + 1) ≡ o → coming_out s t o bytes q ≡ []
  unfolding carried
  low_by low None e = refl
  low_by low (Some n) e = carried_low s t 64 n bytes q low (found_on s valid port (Some n) e).extender

  -- nothing comes out at the bridge
  none_low : q < 64 → coming_out s t (extender_on s (port + 1)) bytes q ≡ []
  none_low low = low_by low (extender_on s (port + 1)) refl

  -- what enters below the bridge port of a port of an extender is carried there, and what enters elsewhere isn't
  module _ (n : ℕ) (hung : HangsOn s n (top s.on 64 q)) (low : top s.on 64 q < 64) (low_port : port < 64) where
    here_by : port ≡ top s.on 64 q → (o : Option ℕ) → extender_on s (port + 1) ≡ o → coming_out s t o bytes q ≡ carried s t n bytes q
    here_by same None e = absurd (found_on s valid port None e n (subst (HangsOn s n) (sym same) hung))
    here_by same (Some m) e =
        let k : HangsOn s m port = found_on s valid port (Some m) e in
        let is : m ≡ n = valid.alone m n (top s.on 64 q) (subst (HangsOn s m) same k) hung in
        ap (λ (x : ℕ). carried s t x bytes q) is

    far_by : port ≢ top s.on 64 q → (o : Option ℕ) → extender_on s (port + 1) ≡ o → coming_out s t o bytes q ≡ []
    unfolding carried
    far_by other None e = refl
    far_by other (Some m) e = astray s t valid bytes 64 m q port (found_on s valid port (Some m) e) low_port other low

-- an ingress number that isn't 0 is the channel of its source, which is below that bridge port
ingress_is : (s : Shape) (m : Numbers) (p k : ℕ) → 0 < ingress_at s m p k → (is_under s k p ≡ true) × (m.channel k p ≡ Some (ingress_at s m p k))
ingress_is s m p k some =
    elim (cases_Bool (is_under s k p)) [
      | inl e ↦ (e, by_channel (m.channel k p) refl (rw e at some) ∙ ap (λ (b : Bool). Some (cond b (or_zero (m.channel k p)) 0)) (sym e))
      | inr e ↦ absurd (let z : 0 < 0 = rw e at some in omega (arith, z))
    ]
  where
    by_channel : (o : Option ℕ) → m.channel k p ≡ o → 0 < or_zero o → o ≡ Some (or_zero o)
    by_channel None e z = absurd (omega (arith, z))
    by_channel (Some c) e z = refl

-- ---- each send
module _ (s : Shape) (valid : IsTree s) (b : Bridge) (h : Held) (p : Stamp) (f : List ℕ) (v : ℕ) (round : TagRoundTrip) (long : 12 ≤ length f) (t : Tables) (laid : IsLaidFor s b h t) where
  out : Kind → List ℕ
  out kind = egress f kind v

  -- the word that a send is on a link
  abbrev pub word_of : ETag → Kind → Word
  word_of tag kind = record { bytes = tagged (egress f kind v) (tag_of tag); port = p.port; index = p.index; moment = p.moment }

  -- what a send's words are, where it is one on this link
  each_word : (P : Word → Type 0) (k port : ℕ) (o : Option ETag) (kind : Kind) →
      ((tag : ETag) → o ≡ Some tag → HangsOn s k port → P (word_of tag kind)) → Each P (word_by s p (λ kind. egress f kind v) k (port + 1) o kind)
  each_word P k port None kind good = tt
  each_word P k port (Some tag) kind good =
      elim (cases_Bool (is_extender s k && on s k + 1 == port + 1)) [
        | inr e ↦ rw e tt
        | inl e ↦ rw e (good tag refl (hangs_there s port k e), tt)
      ]

  reads : (k : ℕ) (tag : ETag) (kind : Kind) → IsSent s b (numbers_in h) p.port f k (Some tag) → read_etag (tagged (egress f kind v) (tag_of tag)) ≡ Some (tag_of tag)
  reads k tag kind sent = (round (egress f kind v) (tag_of tag) (egress_long f kind v long) (sent.1).fits).0

  -- it is a word for its set
  sent_word : (k port : ℕ) (tag : ETag) (kind : Kind) → port < 64 → IsSent s b (numbers_in h) p.port f port (Some tag) → HangsOn s k port → IsWord s t k (word_of tag kind)
  sent_word k port tag kind low sent hung =
      let n : Number s b h p.port port tag.ecid = (sent.1).number in
      laid_word s valid t port k (set_of s b h p.port port tag.ecid n) tag.ecid low hung (number_under s valid b h p.port port tag.ecid low n) (number_covered s valid b h p.port port tag.ecid low n)
      (number_laid s valid b h p.port port tag.ecid low t laid n) (record { bytes = tagged (egress f kind v) (tag_of tag); port = p.port; index = p.index; moment = p.moment }) (tag_of tag) (reads port tag kind sent) refl

  -- and its ingress number is the channel of its source
  sent_from : (y : System) → y.state.held ≡ h → tables_at y.tables ≡ t → IsNumbering (numbers_in h) → ((k q : ℕ) → is_under s k q ≡ true → b.present q ≡ true → (c : ℕ) × ((numbers_in h).channel k q ≡ Some c)) →
      (k port : ℕ) (tag : ETag) (kind : Kind) → port < 64 → IsSent s b (numbers_in h) p.port f port (Some tag) → HangsOn s k port → IsFrom s y k (word_of tag kind)
  sent_from y same_held same_tables numbering found k port tag kind low sent hung =
      record {
        members = λ other read high q listed.
            let same = is_tag other read in
            subst (λ (u : Tables). 0 < u.own q) (sym same_tables)
            (member (sent.1).number (subst (λ (x : Tag). 4096 ≤ x.ecid) (sym same) high) q (listed_in other same q listed));
        source = λ other read high some. subst (λ (m : ℕ). is_under s m p.port ≡ true) (sym top_is) (ingress_is s (numbers_in h) p.port port (above_none other (is_tag other read) some)).0;
        others = λ other read high some q listed own.
            let same = is_tag other read in
            let ingress : tag.ingress ≡ ingress_at s (numbers_in h) p.port port = (sent.1).ingress in
            let its = ingress_is s (numbers_in h) p.port port (above_none other same some) in
            only (sent.1).number (subst (λ (x : Tag). 4096 ≤ x.ecid) (sym same) high) q (listed_in other same q listed) (ingress_at s (numbers_in h) p.port port) its.1
            (ap (λ (u : Tables). u.own q) (sym same_tables) ∙ (own ∙ (ap (λ (x : Tag). x.ingress) (sym same) ∙ ingress)));
      }
    where
      some_is : {A : Type 0} (x y : A) → Some x ≡ Some y → x ≡ y
      some_is x y e = cc

      is_tag : (other : Tag) → read_etag (tagged (egress f kind v) (tag_of tag)) ≡ Some other → tag_of tag ≡ other
      is_tag other read = some_is (tag_of tag) other (sym (reads port tag kind sent) ∙ read)

      top_is : trunk s k ≡ port
      top_is = trunk_low s k (subst (λ (x : ℕ). x < 64) (sym hung.at) low) ∙ hung.at

      listed_in : (other : Tag) → tag_of tag ≡ other → (q : ℕ) → is_listed (y.state.held.set (trunk s k) other.ecid) q ≡ true → is_listed (h.set port tag.ecid) q ≡ true
      listed_in other same q listed =
          subst (λ (g : Held). is_listed (g.set port tag.ecid) q ≡ true) same_held
          (subst (λ (m : ℕ). is_listed (y.state.held.set m tag.ecid) q ≡ true) top_is (subst (λ (x : Tag). is_listed (y.state.held.set (trunk s k) x.ecid) q ≡ true) (sym same) listed))

      above_none : (other : Tag) → tag_of tag ≡ other → 0 < other.ingress → 0 < ingress_at s (numbers_in h) p.port port
      above_none other same some = subst (λ (n : ℕ). 0 < n) ((sent.1).ingress) (subst (λ (x : Tag). 0 < x.ingress) (sym same) some)

      not_small : (c : ℕ) → (numbers_in h).channel port c ≡ Some tag.ecid → 4096 ≤ tag.ecid → ⊥
      not_small c is high = (let small = numbering.small port c tag.ecid is in absurd (omega (arith, small, high)))

      member : (n : Number s b h p.port port tag.ecid) → 4096 ≤ tag.ecid → (q : ℕ) → is_listed (h.set port tag.ecid) q ≡ true → 0 < t.own q
      member (inl g) high q listed =
          (number_laid s valid b h p.port port tag.ecid low t laid (inl g)).channels q
          (subst (λ (set : List ℕ). is_listed set q ≡ true) ((group_found h port g.0 tag.ecid g.1).is) listed)
      member (inr c) high q listed = absurd (not_small c.0 c.1 high)

      only : (n : Number s b h p.port port tag.ecid) → 4096 ≤ tag.ecid → (q : ℕ) → is_listed (h.set port tag.ecid) q ≡ true → (d : ℕ) → (numbers_in h).channel port p.port ≡ Some d → t.own q ≡ d → q ≡ p.port
      only (inr c) high q listed d its own = absurd (not_small c.0 c.1 high)
      only (inl g) high q listed d its own =
          let inside : is_listed g.0 q ≡ true = subst (λ (set : List ℕ). is_listed set q ≡ true) ((group_found h port g.0 tag.ecid g.1).is) listed in
          let lies = set_lies s b port g.0 low g.2 in
          let under = number_under s valid b h p.port port tag.ecid low (inl g) q inside in
          let there : b.present q ≡ true = lies.present q inside in
          let c = found port q under there in
          let same : c.0 ≡ d = sym (laid.own port q c.0 under there c.1) ∙ own in
          numbering.alone port q p.port c.0 c.1 (its ∙ ap (λ (x : ℕ). Some x) (sym same))

  -- its number is none that a request clears, where the rows are laid afterwards too
  sent_other : (all : ℕ → ExtenderTables) (a : AskAt) (e : ℕ) → t ≡ tables_at all → IsLaidFor s b h (tables_at (executes_at a.extender a.request all)) → IsCleared s all a e →
      (k port : ℕ) (tag : ETag) (kind : Kind) → port < 64 → IsSent s b (numbers_in h) p.port f port (Some tag) → HangsOn s k port → Over s k a.extender → NotOf e (word_of tag kind)
  sent_other all a e is later c k port tag kind low sent hung over other read same =
      let n : Number s b h p.port port tag.ecid = (sent.1).number in
      let set = set_of s b h p.port port tag.ecid n in
      let number : tag.ecid ≡ e = ap (λ (x : Tag). x.ecid) (some_is (tag_of tag) other (sym (reads port tag kind sent) ∙ read)) ∙ same in
      let home : trunk s (device c.port) ≡ port =
      sym (trunk_over s valid k (device c.port) (home_link s c.port c.deep) (subst (Over s k) (sym c.here) over)) ∙ (trunk_low s k (subst (λ (x : ℕ). x < 64) (sym hung.at) low) ∙ hung.at) in
      let under : is_port_under s port c.port ≡ true = under_test s port c.port (record { deep = c.deep.deep; known = c.deep.known; at = home }) in
      let now : (tables_at all).pair tag.ecid c.port ≡ covers s set c.port =
      ap (λ (u : Tables). u.pair tag.ecid c.port) (sym is) ∙ (number_laid s valid b h p.port port tag.ecid low t laid n).rows c.port under in
      let then_ : (tables_at (executes_at a.extender a.request all)).pair tag.ecid c.port ≡ covers s set c.port =
      (number_laid s valid b h p.port port tag.ecid low (tables_at (executes_at a.extender a.request all)) later n).rows c.port under in
      let gone : (tables_at (executes_at a.extender a.request all)).pair tag.ecid c.port ≡ false =
      ap (λ (x : ℕ). (tables_at (executes_at a.extender a.request all)).pair x c.port) number ∙ c.gone in
      let there : (tables_at all).pair tag.ecid c.port ≡ true = ap (λ (x : ℕ). (tables_at all).pair x c.port) number ∙ c.now in
      false≢true (sym gone ∙ (then_ ∙ (sym now ∙ there)))
    where
      some_is : (x y : Tag) → Some x ≡ Some y → x ≡ y
      some_is x y e = cc

  -- ---- what it makes leave
  -- at port q of the bridge
  local_leaves : (port q : ℕ) (o : Option ETag) (kind : Kind) → q < 64 →
      local_by p (λ kind. egress f kind v) q (port + 1) o kind ≡ timed p.moment (leaving_by s t (λ kind. egress f kind v) q (port + 1) o kind)
  local_leaves port q None kind low =
      elim (cases_Bool (q + 1 == port + 1)) [
        | inl e ↦ rw e refl
        | inr e ↦ rw e refl
      ]
  local_leaves port q (Some tag) kind low = rw (none_low s valid t port (tagged (egress f kind v) (tag_of tag)) q low) refl

  -- at a port of an extender nothing at once, and then what its word leaves
  no_local : (port q : ℕ) (o : Option ETag) (kind : Kind) → port < 64 → 64 ≤ q → local_by p (λ kind. egress f kind v) q (port + 1) o kind ≡ []
  no_local port q None kind low deep = rw (ne_eqb (q + 1) (port + 1) (λ e. absurd (omega (arith, low, deep, e)))) refl
  no_local port q (Some tag) kind low deep = refl

  word_leaves : (n port q : ℕ) (o : Option ETag) (kind : Kind) → port < 64 → 64 ≤ q → HangsOn s n (top s.on 64 q) → top s.on 64 q < 64 →
      flat_map (λ (x : Word). stamped x (carried s t n x.bytes q)) (word_by s p (λ kind. egress f kind v) n (port + 1) o kind)
      ≡ timed p.moment (leaving_by s t (λ kind. egress f kind v) q (port + 1) o kind)
  word_leaves n port q None kind low deep hung below = rw (ne_eqb (q + 1) (port + 1) (λ e. absurd (omega (arith, low, deep, e)))) refl
  word_leaves n port q (Some tag) kind low deep hung below =
      let bytes = tagged (egress f kind v) (tag_of tag) in
      let x : Word = record { bytes = bytes; port = p.port; index = p.index; moment = p.moment } in
      elim (cases_Bool (is_extender s n && on s n + 1 == port + 1)) [
        | inl e ↦
            let k : HangsOn s n port = hangs_there s port n e in
            let same : port ≡ top s.on 64 q = sym k.at ∙ hung.at in
            rw (e, here_by s valid t port bytes q n hung below low same (extender_on s (port + 1)) refl) (append-nil (stamped x (carried s t n bytes q)) ∙ stamps p.moment x (carried s t n bytes q) refl)
        | inr e ↦
            let other : port ≢ top s.on 64 q = λ z. false≢true (sym e ∙ there z) in
            rw (e, far_by s valid t port bytes q n hung below low other (extender_on s (port + 1)) refl) refl
      ]
    where
      there : port ≡ top s.on 64 q → (is_extender s n && on s n + 1 == port + 1) ≡ true
      there z = and_from _ _ (and_from _ _ (lt-ltb 0 n hung.extender) (lt-ltb 0 _ hung.there)) (eq-eqb (on s n + 1) (port + 1) (ap (λ (x : ℕ). x + 1) (hung.at ∙ sym z)))

  -- ---- all sends
  abbrev At : SendTo → Type 0
  At x = IsAt s b (numbers_in h) p.port f x

  by_port : (P : Word → Type 0) (k : ℕ) (x : SendTo) (at : At x) → ((port : ℕ) (tag : ETag) (kind : Kind) → port < 64 → IsSent s b (numbers_in h) p.port f port (Some tag) → HangsOn s k port → P (word_of tag kind)) →
      Each P (word_by s p (λ kind. egress f kind v) k x.bridge_port x.tag x.kind)
  by_port P k x at good =
      subst (λ (y : ℕ). Each P (word_by s p (λ kind. egress f kind v) k y x.tag x.kind)) (sym at.at)
      (each_word P k at.port x.tag x.kind (λ tag e hung. good at.port tag x.kind at.low (subst (IsSent s b (numbers_in h) p.port f at.port) e at.sent) hung))

  pub each_sent : (P : Word → Type 0) (k : ℕ) (xs : List SendTo) → Each At xs →
      ((port : ℕ) (tag : ETag) (kind : Kind) → port < 64 → IsSent s b (numbers_in h) p.port f port (Some tag) → HangsOn s k port → P (word_of tag kind)) →
      Each P (words_in s p (λ kind. egress f kind v) xs k)
  each_sent P k xs all good =
      each_flat P (λ (x : SendTo). word_by s p (λ kind. egress f kind v) k x.bridge_port x.tag x.kind) xs
      (each_change At (λ x. Each P (word_by s p (λ kind. egress f kind v) k x.bridge_port x.tag x.kind)) xs (λ x at. by_port P k x at good) all)

  pub sends_local : (q : ℕ) → q < 64 → (xs : List SendTo) → Each At xs → local_in p (λ kind. egress f kind v) xs q ≡ timed p.moment (all_leaving s t f v xs q)
  sends_local q low [] all = refl
  sends_local q low (x ∷ xs) all =
      let at = all.0 in
      let one : local_by p (λ kind. egress f kind v) q x.bridge_port x.tag x.kind ≡ timed p.moment (leaving_by s t (λ kind. egress f kind v) q x.bridge_port x.tag x.kind) =
      subst (λ (y : ℕ). local_by p (λ kind. egress f kind v) q y x.tag x.kind ≡ timed p.moment (leaving_by s t (λ kind. egress f kind v) q y x.tag x.kind)) (sym at.at) (local_leaves at.port q x.tag x.kind low) in
      ap (λ (z : List Sent). z ++ local_in p (λ kind. egress f kind v) xs q) one
      ∙ (ap (λ (z : List Sent). timed p.moment (leaving_by s t (λ kind. egress f kind v) q x.bridge_port x.tag x.kind) ++ z) (sends_local q low xs all.1)
      ∙ sym (map_append p.moment (leaving_by s t (λ kind. egress f kind v) q x.bridge_port x.tag x.kind) (all_leaving s t f v xs q)))

  pub none_local : (q : ℕ) → 64 ≤ q → (xs : List SendTo) → Each At xs → local_in p (λ kind. egress f kind v) xs q ≡ []
  none_local q deep [] all = refl
  none_local q deep (x ∷ xs) all =
      let at = all.0 in
      let one : local_by p (λ kind. egress f kind v) q x.bridge_port x.tag x.kind ≡ [] =
      subst (λ (y : ℕ). local_by p (λ kind. egress f kind v) q y x.tag x.kind ≡ []) (sym at.at) (no_local at.port q x.tag x.kind at.low deep) in
      ap (λ (z : List Sent). z ++ local_in p (λ kind. egress f kind v) xs q) one ∙ none_local q deep xs all.1

  pub sends_leave : (n q : ℕ) → 64 ≤ q → HangsOn s n (top s.on 64 q) → top s.on 64 q < 64 → (xs : List SendTo) → Each At xs →
      flat_map (λ (x : Word). stamped x (carried s t n x.bytes q)) (words_in s p (λ kind. egress f kind v) xs n) ≡ timed p.moment (all_leaving s t f v xs q)
  sends_leave n q deep hung below [] all = refl
  sends_leave n q deep hung below (x ∷ xs) all =
      let at = all.0 in
      let F : Word → List Sent = λ x. stamped x (carried s t n x.bytes q) in
      let words = word_by s p (λ kind. egress f kind v) n x.bridge_port x.tag x.kind in
      let one : flat_map F words ≡ timed p.moment (leaving_by s t (λ kind. egress f kind v) q x.bridge_port x.tag x.kind) =
      subst (λ (y : ℕ). flat_map F (word_by s p (λ kind. egress f kind v) n y x.tag x.kind) ≡ timed p.moment (leaving_by s t (λ kind. egress f kind v) q y x.tag x.kind)) (sym at.at)
      (word_leaves n at.port q x.tag x.kind at.low deep hung below) in
      flat_map-append F words (words_in s p (λ kind. egress f kind v) xs n)
      ∙ (ap (λ (z : List Sent). z ++ flat_map F (words_in s p (λ kind. egress f kind v) xs n)) one
      ∙ (ap (λ (z : List Sent). timed p.moment (leaving_by s t (λ kind. egress f kind v) q x.bridge_port x.tag x.kind) ++ z) (sends_leave n q deep hung below xs all.1)
      ∙ sym (map_append p.moment (leaving_by s t (λ kind. egress f kind v) q x.bridge_port x.tag x.kind) (all_leaving s t f v xs q))))

-- ---- the step
no_members : (xs : List Word) → Each (λ x. ⊥) xs → xs ≡ []
no_members [] h = refl
no_members (x ∷ xs) h = absurd h.0

module _ (s : Shape) (l : Limits) (i : Basis) (setting : IsSetting s l) (round : TagRoundTrip) (sends_words : SendsAreWords) (leave : SendsLeaveAsFlat)
    (w : Flight) (h : Facts s i w) (p : Stamp) (f : List ℕ) (c : CanRelay w p f) where
  laid : IsLaidFor s (bridge_of w) (held_of w) (tables_of w)
  laid = laid_midway s w.system setting.tree h.stands

  ready : IsReady s (bridge_of w) (numbers_in (held_of w))
  ready = ready_midway s w.system setting.tree h.stands

  numbering : IsNumbering (numbers_in (held_of w))
  numbering = held_are_numbers (held_of w)

  carries : Carries s (tables_of w) (bridge_of w) (numbers_in (held_of w))
  carries = carries_midway s w.system setting.tree h.stands

  abbrev sends : List SendTo
  sends = sends_for s i w p f

  pub all_at : Each (IsAt s (bridge_of w) (numbers_in (held_of w)) p.port f) sends
  all_at =
      each_of_all (IsAt s (bridge_of w) (numbers_in (held_of w)) p.port f) sends
      (sends_words s (bridge_of w) (learned i w.history) (numbers_in (held_of w)) p.port f setting.tree ready numbering c.pvids c.bytes c.present)

  -- the tables once the outstanding request is executed lay the same
  laid_later : (v : Work) → work_of w ≡ Some v → w.system.answer ≡ None → IsLaidFor s (bridge_of w) (held_of w) (tables_at (executes_at v.first.extender v.first.request w.system.tables))
  laid_later v e none =
      let next : System = systems.stepped (decide s l) w.system systems.Execute in
      let stands : Stands (planning s) next = (planned_steps_stand s l setting w.system systems.Execute h.stands tt).0 in
      let is = executed_is (decide s l) w.system (Some v) None e none in
      subst (λ (z : System). IsLaidFor s z.state.bridge z.state.held (tables_at z.tables)) is (laid_midway s next setting.tree stands)

  -- ---- by the VLAN in which it passes
  long_enough : (v : ℕ) → passes (bridge_of w) p.port f ≡ Some v → 12 ≤ length f
  long_enough v e = let k = passes_long (bridge_of w) p.port f v e in omega (arith, k)

  new_words : (o : Option ℕ) → passes (bridge_of w) p.port f ≡ o → (k : ℕ) → Each (IsWord s (tables_of w) k) (words_sent s p f o sends k)
  new_words None e k = tt
  new_words (Some v) e k =
      each_sent s setting.tree (bridge_of w) (held_of w) p f v round (long_enough v e) (tables_of w) laid (IsWord s (tables_of w) k) k sends all_at
      (λ port tag kind low sent hung. sent_word s setting.tree (bridge_of w) (held_of w) p f v round (long_enough v e) (tables_of w) laid k port tag kind low sent hung)

  new_others : (v : Work) → work_of w ≡ Some v → w.system.answer ≡ None → (e : ℕ) → IsCleared s w.system.tables v.first e → (o : Option ℕ) → passes (bridge_of w) p.port f ≡ o → (k : ℕ) →
      Over s k v.first.extender → Each (NotOf e) (words_sent s p f o sends k)
  new_others v at_work none e cleared None is k over = tt
  new_others v at_work none e cleared (Some vid) is k over =
      each_sent s setting.tree (bridge_of w) (held_of w) p f vid round (long_enough vid is) (tables_of w) laid (NotOf e) k sends all_at
      (λ port tag kind low sent hung.
      sent_other s setting.tree (bridge_of w) (held_of w) p f vid round (long_enough vid is) (tables_of w) laid w.system.tables v.first e refl (laid_later v at_work none) cleared k port tag kind low sent hung over)

  channel_there : (k q : ℕ) → is_under s k q ≡ true → (bridge_of w).present q ≡ true → (c : ℕ) × ((numbers_in (held_of w)).channel k q ≡ Some c)
  channel_there k q u there = some_of ((numbers_in (held_of w)).channel k q) (ready.channels k q u there)
    where
      some_of : (o : Option ℕ) → is_some o ≡ true → (c : ℕ) × (o ≡ Some c)
      some_of None e = absurd (false≢true e)
      some_of (Some c) e = (c, refl)

  new_sources : (o : Option ℕ) → passes (bridge_of w) p.port f ≡ o → (k : ℕ) → Each (IsFrom s w.system k) (words_sent s p f o sends k)
  new_sources None e k = tt
  new_sources (Some v) e k =
      each_sent s setting.tree (bridge_of w) (held_of w) p f v round (long_enough v e) (tables_of w) laid (IsFrom s w.system k) k sends all_at
      (λ port tag kind low sent hung.
      sent_from s setting.tree (bridge_of w) (held_of w) p f v round (long_enough v e) (tables_of w) laid w.system refl refl numbering channel_there k port tag kind low sent hung)

  only_low : (o : Option ℕ) → passes (bridge_of w) p.port f ≡ o → (k : ℕ) → 64 ≤ on s k → words_sent s p f o sends k ≡ []
  only_low None e k high = refl
  only_low (Some v) e k high =
      no_members (words_sent s p f (Some v) sends k)
      (each_sent s setting.tree (bridge_of w) (held_of w) p f v round (long_enough v e) (tables_of w) laid (λ x. ⊥) k sends all_at
      (λ port tag kind low sent hung. let at = hung.at in absurd (omega (arith, low, high, at))))

  at_once : (o : Option ℕ) → passes (bridge_of w) p.port f ≡ o → (q : ℕ) → q < 64 → local_sent p f o sends q ≡ timed p.moment (left_by s (tables_of w) f o sends q)
  at_once None e q low = refl
  at_once (Some v) e q low = sends_local s setting.tree (bridge_of w) (held_of w) p f v round (long_enough v e) (tables_of w) laid q low sends all_at

  nothing_at_once : (o : Option ℕ) → passes (bridge_of w) p.port f ≡ o → (q : ℕ) → 64 ≤ q → local_sent p f o sends q ≡ []
  nothing_at_once None e q deep = refl
  nothing_at_once (Some v) e q deep = none_local s setting.tree (bridge_of w) (held_of w) p f v round (long_enough v e) (tables_of w) laid q deep sends all_at

  later : (o : Option ℕ) → passes (bridge_of w) p.port f ≡ o → (n q : ℕ) → 64 ≤ q → HangsOn s n (top s.on 64 q) → top s.on 64 q < 64 →
      flat_map (λ (x : Word). stamped x (carried s (tables_of w) n x.bytes q)) (words_sent s p f o sends n) ≡ timed p.moment (left_by s (tables_of w) f o sends q)
  later None e n q deep hung below = refl
  later (Some v) e n q deep hung below = sends_leave s setting.tree (bridge_of w) (held_of w) p f v round (long_enough v e) (tables_of w) laid n q deep hung below sends all_at

  -- ---- the links
  abbrev more : ℕ → List Word
  more k = words_sent s p f (passes (bridge_of w) p.port f) sends k

  abbrev down : ℕ → List Item
  down k = w.down k ++ data_of (more k)

  words_more : (k : ℕ) → words_of (down k) ≡ words_of (w.down k) ++ more k
  words_more k = words_append (w.down k) (data_of (more k)) ∙ ap (λ (z : List Word). words_of (w.down k) ++ z) (words_data (more k))

  each_more : (P : Word → Type 0) (k : ℕ) → Each P (words_of (w.down k)) → Each P (more k) → Each P (words_of (down k))
  each_more P k a b = subst (λ (z : List Word). Each P z) (sym (words_more k)) (each_append P (words_of (w.down k)) (more k) a b)

  clears_more : (key : Key) (x e : ℕ) → ((k : ℕ) → Over s k x → Each (NotOf e) (more k)) → ((m k : ℕ) → Over s k x → Over s m k → Over s m x) → Clears s w.down key x e → Clears s down key x e
  clears_more key x e none way cl =
      record {
        after = λ k o. behind_append (NotOf e) key (w.down k) (data_of (more k)) (cl.after k o)
            (λ z. subst (λ (ws : List Word). Each (NotOf e) ws) (sym (words_data (more k))) (none k o)) (behind_data (NotOf e) key (more k));
        above = λ k m o z a.
            each_more (NotOf e) m (cl.above k m o (sym (has_more_data key (w.down k) (more k)) ∙ z) a) (none m (way m k o (further a.0 a.1)));
      }

  -- ---- what has left and is owed
  flat_more : (q : ℕ) → is_external s q ≡ true → flat i (event.Relay p.port p.index p.moment f ∷ w.history) q ≡ flat i w.history q ++ timed p.moment (left_by s (tables_of w) f (passes (bridge_of w) p.port f) sends q)
  unfolding flat
  flat_more q ext =
      ap (λ (b : Bridge). flat i w.history q ++ sent_by b (learned i w.history) (event.Relay p.port p.index p.moment f) q) h.force
      ∙ ap (λ (z : List Sent). flat i w.history q ++ z)
      (sym (leave s (tables_of w) (bridge_of w) (learned i w.history) (numbers_in (held_of w)) p.port f setting.tree ready numbering carries c.pvids c.bytes c.present q p.index p.moment ext))

  even_more : Even s i (relay s i w p f)
  even_more q ext =
      elim (cases_lt q 64) [
        | inl low ↦
            let old : w.left q ++ [] ≡ flat i w.history q = rw (lt-ltb q 64 low) at (h.even q ext) in
            rw (lt-ltb q 64 low) (
            append-nil (w.left q ++ local_sent p f (passes (bridge_of w) p.port f) sends q)
            ∙ (ap (λ (z : List Sent). w.left q ++ z) (at_once (passes (bridge_of w) p.port f) refl q low)
            ∙ (ap (λ (z : List Sent). z ++ timed p.moment (left_by s (tables_of w) f (passes (bridge_of w) p.port f) sends q)) (sym (append-nil (w.left q)) ∙ old)
            ∙ sym (flat_more q ext))))
        | inr deep ↦
            let at = external_deep s q ext deep in
            let below = top_below s setting.tree q deep at.known in
            let hung = top_hangs s setting.tree 64 q deep at.known below in
            let old : w.left q ++ owed s (tables_of w) (words_at w.down) q ≡ flat i w.history q = rw (le-ltb q 64 deep) at (h.even q ext) in
            let pushed = push_owes s (tables_of w) (words_at w.down) more q setting.tree (λ k high. only_low (passes (bridge_of w) p.port f) refl k high) hung.0 at hung.1 in
            rw (le-ltb q 64 deep, nothing_at_once (passes (bridge_of w) p.port f) refl q deep, append-nil (w.left q)) (
            ap (λ (ws : ℕ → List Word). w.left q ++ owed s (tables_of w) ws q) (fun_ext words_more)
            ∙ (ap (λ (z : List Sent). w.left q ++ z) (pushed ∙ ap (λ (z : List Sent). owed s (tables_of w) (words_at w.down) q ++ z) (later (passes (bridge_of w) p.port f) refl hung.0 q deep hung.1 below))
            ∙ (sym (append_assoc (w.left q) (owed s (tables_of w) (words_at w.down) q) (timed p.moment (left_by s (tables_of w) f (passes (bridge_of w) p.port f) sends q)))
            ∙ (ap (λ (z : List Sent). z ++ timed p.moment (left_by s (tables_of w) f (passes (bridge_of w) p.port f) sends q)) old
            ∙ sym (flat_more q ext)))))
      ]

  force_more : bridge_after i (event.Relay p.port p.index p.moment f ∷ w.history) ≡ bridge_of w
  unfolding bridge_after
  force_more = h.force

  pub facts_relay : Facts s i (relay s i w p f)
  facts_relay =
      record {
        stands = h.stands;
        knows = h.knows;
        work = h.work;
        queue = h.queue;
        force = force_more;
        channels = h.channels;
        ways = h.ways;
        tops = h.tops;
        sources = λ n link. each_more (IsFrom s w.system n) n (h.sources n link) (new_sources (passes (bridge_of w) p.port f) refl n);
        words = λ n link. each_more (IsWord s (tables_of w) n) n (h.words n link) (new_words (passes (bridge_of w) p.port f) refl n);
        asked = λ v e none x cleared.
            clears_more (key_of w.system.state v) v.first.extender x (λ k o. new_others v e none x cleared (passes (bridge_of w) p.port f) refl k o)
            (λ m k o up. over_trans s m k v.first.extender up o) (h.asked v e none x cleared);
        ups = h.ups;
        answered = h.answered;
        serials = record {
          downward = λ n. up_to_append (serial_of w.system.state) (w.down n) (data_of (more n)) (h.serials.downward n) (up_to_data (serial_of w.system.state) (more n));
          upward = h.serials.upward;
          answered = h.serials.answered;
        };
        even = even_more;
      }

-- A frame that comes to the bridge is flown: it is relayed with all that is sent, or ignored.
use Rattle.std.proofs.Common.{◌≡◌, ℕ, ◌+◌, ◌-◌, ◌==◌, ◌&&◌, ◌≤◌, ◌++◌, Bool, true, false, if◌then◌else◌, List, [], ◌∷◌, length, Option, Some, None, refl, sym, ◌∙◌, ap, subst, arith, inl, inr}
use Rattle.std.proofs.lemmas.Bool.{cases_Bool, cases_eq, and_parts, and_from, eq-eqb, ne_eqb, eqb-true}
use Rattle.std.proofs.lemmas.List.{append-nil, append_assoc}
use mathlib.Core.Path.{fun_ext}
use Rattle.exb_model.specs.declared.event.Event.{Event}
use Rattle.exb_model.specs.declared.event.Event.TheVariants as event
use Rattle.exb_model.specs.declared.vlan.Kind.{Kind}
use Rattle.exb_model.specs.Tree.{Shape, IsTree, HangsOn, on, is_cascade, is_extender}
use Rattle.exb_model.specs.Setup.{Limits}
use Rattle.exb_model.specs.Configuration.{Bridge}
use Rattle.exb_model.specs.ETags.{tagged}
use Rattle.exb_model.specs.Frames.{egress, kind_of, is_control_frame, IsBytes}
use Rattle.exb_model.specs.FlatBridge.{Sent}
use Rattle.exb_model.specs.declared.arrival.Arrival.{Arrival}
use Rattle.exb_model.specs.EagerHistory.{is_relayed, is_relayed_kind}
use Rattle.exb_model.specs.Learning.{Look, passes, learned}
use Rattle.exb_model.specs.History.{Basis, History, ◌then◌, bridge_after}
use Rattle.exb_model.proofs.TreeTrunks.{cascade_hangs}
use Rattle.exb_frame.specs.declared.etag.ETag.{ETag}
use Rattle.exb_frame.specs.TagValues.{TagRoundTrip, tag_of}
use Rattle.exb_learn.specs.Calls.{Table, look_in}
use Rattle.exb_learn.specs.Histories.{relay_call, after_any, table_after}
use Rattle.exb_learn.proofs.HistoryTables.{looks_learned}
use Rattle.exb_link.specs.declared.link_frame.LinkFrame.{LinkFrame}
use Rattle.exb_link.specs.LinkFrames.{is_control}
use Rattle.exb_relay.specs.declared.send.SendTo.{SendTo}
use Rattle.exb_model.specs.Numbers.{Numbers}
use Rattle.exb_relay.specs.Laws.{IsAt, IsSent, SendsAreWords, SendsLeaveAsFlat}
use Rattle.exb_config.specs.Pvids.{HasPvids}
use Rattle.exb_relay.specs.Sends.{sends_of}
use Rattle.exb_control_spec.specs.Runs.Systems.{System}
use Rattle.exb_control_spec.specs.Runs.PlannedChanges.{IsSetting}
use Rattle.exb_world_spec.specs.Worlds.{World, Down, Left, with_table, left_at}
use Rattle.exb_world_spec.specs.Effects.{Effect, only, then_do, each}
use Rattle.exb_world_spec.specs.ExtenderSteps.{hung_on, stamp_of}
use Rattle.exb_control_spec.specs.Plans.HeldNumbers.{numbers_in}
use Rattle.exb_world_spec.specs.DataFrames.{puts_word, sent_by, sends_in, sends_all, comes}
use Rattle.exb_world_spec.specs.Runs.Simulation.{system_of}
use Rattle.exb_world_spec.proofs.Frames.{tagged_to_control, egress_to_control, egress_long, control_refused, relayed_long}
use Rattle.exb_world_spec.proofs.Trunks.{hangs_there, extender_there, hung_found}
use Rattle.exb_flight.specs.Items.{Word as Datum, Item, Data, data_of, Each}
use Rattle.exb_flight.specs.Flight.{Flight, Relay, Note, words_in, word_by, local_in, local_by, words_sent, local_sent, bridge_of, held_of}
use Rattle.exb_flight.specs.Flight as flights
use Rattle.exb_flight.specs.AllowedSteps.{CanRelay}
use Rattle.exb_flight.specs.FlightFacts.{Facts}
use Rattle.exb_flight.proofs.RelaySteps.{all_at}
use Rattle.exb_flight.specs.Tokens.{Thins, datum, items_on, key_on}
use Rattle.exb_flight.specs.SimulationRelation.{Shows}
use Rattle.exb_flight.specs.Simulation.{Flown}
use Rattle.exb_flight.proofs.Items.{thins_append, items_append, items_data}
use Rattle.exb_flight.proofs.SimulatedTicks.{none_left}

-- ---- lists
data_append : (xs ys : List Datum) → data_of (xs ++ ys) ≡ data_of xs ++ data_of ys
data_append [] ys = refl
data_append (x ∷ xs) ys = ap (λ (zs : List Item). Data x ∷ zs) (data_append xs ys)

pub left_append : (q : ℕ) (xs ys : List Left) → left_at q (xs ++ ys) ≡ left_at q xs ++ left_at q ys
left_append q [] ys = refl
left_append q (x ∷ xs) ys = elim (cases_Bool (x.port == q)) [ inl e ↦ rw e (ap (λ (zs : List Sent). (x.moment, x.bytes) ∷ zs) (left_append q xs ys)) | inr e ↦ rw e (left_append q xs ys) ]

-- ---- what is sent shows in the words of the flight
-- the words that were sent are on the links, and what leaves has left
abbrev pub grown : Flight → (ℕ → List Datum) → (ℕ → List Sent) → Flight
grown g words lefts = record g { down = λ k. g.down k ++ data_of (words k); left = λ q. g.left q ++ lefts q }

-- one thing is done to a world that shows, without an event
pub record IsGrown (t : Shape) (i : Basis) (h : History) (gone : List Left) (g : Flight) (words : ℕ → List Datum) (lefts : ℕ → List Sent) (e : Effect) : Type 0 where
  pub silent : e.events ≡ []
  pub shows : Shows t i e.world h (gone ++ e.left) (grown g words lefts)

module _ (t : Shape) (i : Basis) (tree : IsTree t) (h : History) where
  -- nothing is sent
  pub grown_none : (w : World) (gone : List Left) (g : Flight) → Shows t i w h gone g → IsGrown t i h gone g (λ k. []) (λ q. []) (only w)
  grown_none w gone g s =
      record {
        silent = refl;
        shows = none_left t i w h gone _ (record {
          system = s.system;
          down = λ n. subst (λ (xs : List Item). Thins (items_on t w.control.held Down n (w.down n)) xs) (sym (append-nil (g.down n))) (s.down n);
          up = s.up;
          history = s.history;
          left = λ q ext. append-nil (g.left q) ∙ s.left q ext;
          learned = s.learned;
        });
      }

  -- one thing after another
  pub grown_then : (gone : List Left) (g : Flight) (words more : ℕ → List Datum) (lefts others : ℕ → List Sent) (e : Effect) (f : World → Effect) → IsGrown t i h gone g words lefts e →
      IsGrown t i h (gone ++ e.left) (grown g words lefts) more others (f e.world) → IsGrown t i h gone g (λ k. words k ++ more k) (λ q. lefts q ++ others q) (then_do e f)
  grown_then gone g words more lefts others e f a b =
      let down : (k : ℕ) → (g.down k ++ data_of (words k)) ++ data_of (more k) ≡ g.down k ++ data_of (words k ++ more k) = λ k.
      append_assoc (g.down k) (data_of (words k)) (data_of (more k)) ∙ ap (λ (zs : List Item). g.down k ++ zs) (sym (data_append (words k) (more k))) in
      record {
        silent = ap (λ (es : List Event). es ++ (f e.world).events) a.silent ∙ b.silent;
        shows = record {
          system = b.shows.system;
          down = λ n. subst (λ (xs : List Item). Thins (items_on t (f e.world).world.control.held Down n ((f e.world).world.down n)) xs) (down n) (b.shows.down n);
          up = b.shows.up;
          history = b.shows.history;
          left = λ q ext. sym (append_assoc (g.left q) (lefts q) (others q)) ∙ (b.shows.left q ext ∙ ap (left_at q) (append_assoc gone e.left (f e.world).left));
          learned = b.shows.learned;
        };
      }

  module _ (a : Arrival) (long : 12 ≤ length a.bytes) (plain : is_control_frame a.bytes ≡ false) (vid : ℕ) where
    stamp : flights.Stamp
    stamp = record { port = a.port; index = a.index; moment = a.moment }

    abbrev out : Kind → List ℕ
    out kind = egress a.bytes kind vid

    -- one send: that of a bridge port
    one_grown : (x : SendTo) (p : ℕ) → x.bridge_port ≡ p + 1 → (tagged_at : (tag : ETag) → x.tag ≡ Some tag → is_cascade t p ≡ true) → (w : World) (gone : List Left) (g : Flight) → Shows t i w h gone g →
        IsGrown t i h gone g (λ k. word_by t (record { port = a.port; index = a.index; moment = a.moment }) out k x.bridge_port x.tag x.kind) (λ q. local_by (record { port = a.port; index = a.index; moment = a.moment }) out q x.bridge_port x.tag x.kind) (sends_in t a vid x w)
    one_grown x p is tagged_at w gone g s = by_tag x.tag refl
      where
        both : (b : Bool) → b ≡ true → b ≡ false → ⊥
        both b y z = cc

        by_tag : (o : Option ETag) → x.tag ≡ o →
            IsGrown t i h gone g (λ k. word_by t (record { port = a.port; index = a.index; moment = a.moment }) out k x.bridge_port o x.kind) (λ q. local_by (record { port = a.port; index = a.index; moment = a.moment }) out q x.bridge_port o x.kind) (sent_by t a (egress a.bytes x.kind vid) x.bridge_port o w)
        by_tag None e =
            record {
              silent = refl;
              shows = record {
                system = s.system;
                down = λ n. subst (λ (xs : List Item). Thins (items_on t w.control.held Down n (w.down n)) xs) (sym (append-nil (g.down n))) (s.down n);
                up = s.up;
                history = s.history;
                left = λ q ext.
                    let one : Left = record { port = x.bridge_port - 1; moment = a.moment; bytes = egress a.bytes x.kind vid } in
                    let same : (if q + 1 == x.bridge_port then (a.moment, egress a.bytes x.kind vid) ∷ [] else []) ≡ left_at q (one ∷ []) =
                    elim (cases_eq q p) [
                      | inl z ↦ rw (eq-eqb (q + 1) x.bridge_port (omega (arith, z, is)), eq-eqb (x.bridge_port - 1) q (omega (arith, z, is))) refl
                      | inr z ↦ rw (ne_eqb (q + 1) x.bridge_port (λ y. z (omega (arith, y, is))), ne_eqb (x.bridge_port - 1) q (λ y. z (omega (arith, y, is)))) refl
                    ] in
                    ap (λ (zs : List Sent). zs ++ (if q + 1 == x.bridge_port then (a.moment, egress a.bytes x.kind vid) ∷ [] else [])) (s.left q ext) ∙ (ap (λ (zs : List Sent). left_at q gone ++ zs) same ∙ sym (left_append q gone (one ∷ [])));
                learned = s.learned;
              };
            }
        by_tag (Some tag) e =
            let found = cascade_hangs t p (tagged_at tag e) in
            let m : ℕ = found.0 in
            let hangs : HangsOn t m p = found.1 in
            let there : is_extender t m ≡ true = extender_there t m p hangs in
            let bytes : List ℕ = tagged (egress a.bytes x.kind vid) (tag_of tag) in
            let word : LinkFrame = record { bytes = bytes; stamp = Some (stamp_of a) } in
            let hung : hung_on t (x.bridge_port - 1) ≡ Some m = ap (hung_on t) (omega (arith, is)) ∙ hung_found t tree m p hangs in
            let plain_word : is_control word ≡ false = elim (cases_Bool (is_control_frame bytes)) [
              | inr z ↦ z
              | inl z ↦ absurd (both (is_control_frame bytes) (z) (tagged_to_control (egress a.bytes x.kind vid) (tag_of tag) (egress_long a.bytes x.kind vid long) ∙ (egress_to_control a.bytes x.kind vid long ∙ plain)))
            ] in
            let here : (is_extender t m && on t m + 1 == x.bridge_port) ≡ true = and_from (is_extender t m) (on t m + 1 == x.bridge_port) there (eq-eqb (on t m + 1) x.bridge_port (omega (arith, hangs.at, is))) in
            let other : (n : ℕ) → (n ≡ m → ⊥) → (is_extender t n && on t n + 1 == x.bridge_port) ≡ false = λ n ne.
            elim (cases_Bool (is_extender t n && on t n + 1 == x.bridge_port)) [
              | inr z ↦ z
              | inl z ↦
                  let q = and_parts (is_extender t n) (on t n + 1 == x.bridge_port) z in
                  let on_p : on t n ≡ p = (let y : on t n + 1 ≡ x.bridge_port = eqb-true (on t n + 1) x.bridge_port q.1 in omega (arith, y, is)) in
                  absurd (ne (tree.alone n m p (subst (HangsOn t n) on_p (hangs_there t n q.0)) hangs))
            ] in
            let d : Datum = datum word in
            let R : Option ℕ → Type 0 = λ o. IsGrown t i h gone g (λ k. if is_extender t k && on t k + 1 == x.bridge_port then d ∷ [] else []) (λ q. []) (puts_word x.bridge_port o word w) in
            subst R (sym hung) (record {
              silent = refl;
              shows = none_left t i _ h gone _ (record {
                system = s.system;
                down = λ n. elim (cases_eq n m) [
                  | inl z ↦
                      let items : items_on t w.control.held Down n (w.down n ++ word ∷ []) ≡ items_on t w.control.held Down n (w.down n) ++ Data d ∷ [] =
                      items_append (key_on t w.control.held Down n) (w.down n) (word ∷ []) ∙ ap (λ (zs : List Item). items_on t w.control.held Down n (w.down n) ++ zs) (items_data (key_on t w.control.held Down n) word [] plain_word) in
                      let done : Thins (items_on t w.control.held Down n (w.down n ++ word ∷ [])) (g.down n ++ Data d ∷ []) =
                      subst (λ (zs : List Item). Thins zs (g.down n ++ Data d ∷ [])) (sym items) (thins_append (items_on t w.control.held Down n (w.down n)) (g.down n) (Data d ∷ []) (s.down n)) in
                      let there_too : (is_extender t n && on t n + 1 == x.bridge_port) ≡ true = ap (λ (k : ℕ). is_extender t k && on t k + 1 == x.bridge_port) z ∙ here in
                      let S : ℕ → Type 0 = λ k. Thins (items_on t w.control.held Down n (w.down k ++ word ∷ [])) (g.down n ++ data_of (if is_extender t n && on t n + 1 == x.bridge_port then d ∷ [] else [])) in
                      let last : S n = ap_test n (is_extender t n && on t n + 1 == x.bridge_port) there_too d done in
                      rw (eq-eqb n m z) (subst S z last)
                  | inr z ↦
                      rw (ne_eqb n m z, other n z) (subst (λ (xs : List Item). Thins (items_on t w.control.held Down n (w.down n)) xs) (sym (append-nil (g.down n))) (s.down n))
                ];
                up = s.up;
                history = s.history;
                left = λ q ext. append-nil (g.left q) ∙ s.left q ext;
                learned = s.learned;
              });
            })
          where
            ap_test : (n : ℕ) (b : Bool) → b ≡ true → (d : Datum) → {xs : List Item} → Thins xs (g.down n ++ Data d ∷ []) → Thins xs (g.down n ++ data_of (if b then d ∷ [] else []))
            ap_test n true e d k = k
            ap_test n false e d k = absurd (no e)
              where
                no : false ≡ true → ⊥
                no z = cc

    -- all sends
    all_grown : (xs : List SendTo) → ((x : SendTo) → Unit {0}) → (w : World) (gone : List Left) (g : Flight) → Shows t i w h gone g → (b : Bridge) (m : Numbers) → Each (IsAt t b m a.port a.bytes) xs →
        IsGrown t i h gone g (λ k. words_in t (record { port = a.port; index = a.index; moment = a.moment }) out xs k) (λ q. local_in (record { port = a.port; index = a.index; moment = a.moment }) out xs q) (each (sends_in t a vid) xs w)
    all_grown [] none w gone g s b m all = grown_none w gone g s
    all_grown (x ∷ xs) none w gone g s b m all =
        let st : flights.Stamp = record { port = a.port; index = a.index; moment = a.moment } in
        let one = one_grown x all.0.port all.0.at (λ tag e. (subst (IsSent t b m a.port a.bytes all.0.port) e all.0.sent).0) w gone g s in
        grown_then gone g (λ k. word_by t st out k x.bridge_port x.tag x.kind) (λ k. words_in t st out xs k) (λ q. local_by st out q x.bridge_port x.tag x.kind) (λ q. local_in st out xs q) (sends_in t a vid x w) (each (sends_in t a vid) xs) one
        (all_grown xs none (sends_in t a vid x w).world (gone ++ (sends_in t a vid x w).left) _ one.shows b m all.1)

-- ---- a frame at the bridge
module _ (t : Shape) (l : Limits) (i : Basis) (setting : IsSetting t l) (round : TagRoundTrip) (words : SendsAreWords) (leave : SendsLeaveAsFlat) (w : World) (h : History) (gone : List Left) (a : Arrival) (bytes : IsBytes a.bytes) (pvids : HasPvids w.control.bridge) where
  abbrev st : flights.Stamp
  st = record { port = a.port; index = a.index; moment = a.moment }

  -- it is relayed
  relayed_flown : (f : Flight) → f.system ≡ system_of w → Facts t i f → Shows t i w h gone f → is_relayed w.control.bridge a.port a.bytes ≡ true → Flown t l i h gone f (comes t a w)
  unfolding table_after
  relayed_flown f is facts s relayed =
      let b : Bridge = w.control.bridge in
      let ev : Event = event.Relay a.port a.index a.moment a.bytes in
      let bridge_is : bridge_after i h ≡ w.control.bridge = ap (bridge_after i) (sym s.history) ∙ (facts.force ∙ ap (λ (y : System). y.state.bridge) s.system) in
      let v : World = with_table (after_any (relay_call a.port a.bytes (passes w.control.bridge a.port a.bytes)) w.table) w in
      let p = and_parts (w.control.bridge.present a.port) (is_relayed_kind (kind_of a.bytes)) relayed in
      let f1 : Flight = record f { history = ev ∷ f.history } in
      let learned_now : after_any (relay_call a.port a.bytes (passes w.control.bridge a.port a.bytes)) w.table ≡ table_after i (ev ∷ h) =
      ap (λ (k : Bridge). after_any (relay_call a.port a.bytes (passes k a.port a.bytes)) w.table) (sym bridge_is)
      ∙ ap (after_any (relay_call a.port a.bytes (passes (bridge_after i h) a.port a.bytes))) s.learned in
      let s1 : Shows t i v (ev ∷ h) gone f1 = record { system = s.system; down = s.down; up = s.up; history = ap (λ (g : History). ev ∷ g) s.history; left = s.left; learned = learned_now } in
      let ss : List SendTo = sends_of t w.control.bridge (look_in w.table) (numbers_in w.control.held) a.port a.bytes in
      let can : CanRelay f st a.bytes = record {
        present = subst (λ (y : System). y.state.bridge.present a.port ≡ true) (sym s.system) p.0;
        bytes = bytes;
        pvids = subst (λ (y : System). HasPvids y.state.bridge) (sym s.system) pvids;
      } in
      let look : look_in w.table ≡ learned i h = fun_ext (λ vid. fun_ext (λ m. ap (λ (u : Table). look_in u vid m) s.learned ∙ looks_learned i h vid m)) in
      let G : System → Look → List SendTo = λ y k. sends_of t y.state.bridge k (numbers_in y.state.held) a.port a.bytes in
      let same : ss ≡ G f.system (learned i f.history) = ap (G (system_of w)) (look ∙ ap (learned i) (sym s.history)) ∙ ap (λ (y : System). G y (learned i f.history)) (sym s.system) in
      let all = subst (λ (xs : List SendTo). Each (IsAt t (bridge_of f) (numbers_in (held_of f)) a.port a.bytes) xs) (sym same) (all_at t l i setting round words leave f facts st a.bytes can) in
      let passes_is : passes (bridge_of f) a.port a.bytes ≡ passes w.control.bridge a.port a.bytes = ap (λ (y : System). passes y.state.bridge a.port a.bytes) s.system in
      let long : 14 ≤ length a.bytes = relayed_long a.bytes p.1 in
      let grow = by_vid v f1 s1 ss (omega (arith, long)) (not_control p.1) (bridge_of f) (numbers_in (held_of f)) all (passes w.control.bridge a.port a.bytes) in
      let H : Option ℕ → List SendTo → Flight = λ o xs. record f { down = λ k. f.down k ++ data_of (words_sent t st a.bytes o xs k); history = ev ∷ f.history; left = λ q. f.left q ++ local_sent st a.bytes o xs q } in
      let e : Effect = sends_all t a ss (passes w.control.bridge a.port a.bytes) v in
      let flights_same : H (passes w.control.bridge a.port a.bytes) ss ≡ H (passes (bridge_of f) a.port a.bytes) (G f.system (learned i f.history)) =
      ap (H (passes w.control.bridge a.port a.bytes)) same ∙ ap (λ (o : Option ℕ). H o (G f.system (learned i f.history))) (sym passes_is) in
      let shows : Shows t i e.world ((ev ∷ h) then e.events) (gone ++ e.left) (H (passes w.control.bridge a.port a.bytes) ss) =
      subst (λ (es : List Event). Shows t i e.world ((ev ∷ h) then es) (gone ++ e.left) (H (passes w.control.bridge a.port a.bytes) ss)) (sym grow.silent) grow.shows in
      rw relayed (record {
        steps = Relay st a.bytes ∷ [];
        runs = (can, tt);
        shows = subst (Shows t i e.world ((ev ∷ h) then e.events) (gone ++ e.left)) flights_same shows;
      })
    where
      both : (z : Bool) → z ≡ true → z ≡ false → ⊥
      both z x y = cc

      not_control : is_relayed_kind (kind_of a.bytes) ≡ true → is_control_frame a.bytes ≡ false
      not_control kind = elim (cases_Bool (is_control_frame a.bytes)) [ inr e ↦ e | inl e ↦ absurd (both (is_relayed_kind (kind_of a.bytes)) kind (control_refused a.bytes bytes e).1) ]

      by_vid : (v : World) (f1 : Flight) → Shows t i v (event.Relay a.port a.index a.moment a.bytes ∷ h) gone f1 → (ss : List SendTo) → 12 ≤ length a.bytes → is_control_frame a.bytes ≡ false → (b : Bridge) (m : Numbers) → Each (IsAt t b m a.port a.bytes) ss → (o : Option ℕ) →
          IsGrown t i (event.Relay a.port a.index a.moment a.bytes ∷ h) gone f1 (λ k. words_sent t (record { port = a.port; index = a.index; moment = a.moment }) a.bytes o ss k) (λ q. local_sent (record { port = a.port; index = a.index; moment = a.moment }) a.bytes o ss q) (sends_all t a ss o v)
      by_vid v f1 s1 ss long plain b m all None = grown_none t i setting.tree (event.Relay a.port a.index a.moment a.bytes ∷ h) v gone f1 s1
      by_vid v f1 s1 ss long plain b m all (Some vid) = all_grown t i setting.tree (event.Relay a.port a.index a.moment a.bytes ∷ h) a long plain vid ss (λ x. tt) v gone f1 s1 b m all

  ignored_flown : (f : Flight) → Shows t i w h gone f → is_relayed w.control.bridge a.port a.bytes ≡ false → Flown t l i h gone f (comes t a w)
  unfolding table_after
  ignored_flown f s other = rw other (by_vid (passes w.control.bridge a.port a.bytes))
    where
      by_vid : (o : Option ℕ) → Flown t l i h gone f (then_do (record (only (with_table w.table w)) { events = event.Ignored a.port a.index ∷ []; passed = [] }) (sends_all t a [] o))
      by_vid None =
          record { steps = Note (event.Ignored a.port a.index) ∷ []; runs = (tt, tt); shows = none_left t i _ _ gone _ (record { system = s.system; down = s.down; up = s.up; history = ap (λ (g : History). event.Ignored a.port a.index ∷ g) s.history; left = s.left; learned = s.learned }) }
      by_vid (Some v) =
          record { steps = Note (event.Ignored a.port a.index) ∷ []; runs = (tt, tt); shows = none_left t i _ _ gone _ (record { system = s.system; down = s.down; up = s.up; history = ap (λ (g : History). event.Ignored a.port a.index ∷ g) s.history; left = s.left; learned = s.learned }) }

  pub comes_flown : (f : Flight) → Facts t i f → Shows t i w h gone f → Flown t l i h gone f (comes t a w)
  comes_flown f facts s = elim (cases_Bool (is_relayed w.control.bridge a.port a.bytes)) [ inl e ↦ relayed_flown f s.system facts s e | inr e ↦ ignored_flown f s e ]

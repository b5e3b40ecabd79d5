-- A data word that an extender takes from upstream is one step of the flight.
use Rattle.std.proofs.Common.{◌≡◌, ℕ, ◌+◌, ◌%◌, ◌==◌, ◌&&◌, ◌<◌, ◌≤◌, ◌++◌, nat_lt, nat_le, Bool, true, false, if◌then◌else◌, List, [], ◌∷◌, map, length, take, Option, Some, None, refl, sym, ◌∙◌, ap, subst, arith, inl, inr}
use Rattle.std.specs.List.{flat_map, range_with_len}
use Rattle.std.proofs.lemmas.Bool.{cases_Bool, cases_eq, cases_lt, and_parts, and_from, ltb-true, leb-true, eq-eqb, ne_eqb, eqb-true, lt-ltb}
use Rattle.std.proofs.lemmas.List.{append-nil}
use Rattle.exb_model.specs.ETags.{Tag, has_etag, read_etag, stripped}
use Rattle.exb_model.specs.ExtenderForwarding.{Tables, emits, emits_tagged, takes, left_out, bare}
use Rattle.exb_model.specs.FlatBridge.{Sent as SentOut}
use Rattle.exb_model.specs.Tree.{Shape, device, on, is_extender}
use Rattle.exb_model.specs.Setup.{Limits}
use Rattle.exb_model.specs.History.{Basis, History, ◌then◌}
use Rattle.exb_csp.specs.Execution.{ExtenderTables}
use Rattle.exb_extender.specs.declared.sends.Side.TheVariants as side
use Rattle.exb_csp.specs.AllTables.{port_of, tables_at}
use Rattle.exb_extender.specs.Forwarding.{Sent, forwarding_of, emitted, is_bare_control}
use Rattle.exb_extender.specs.Machine.{ExtenderState, IsExtender}
use Rattle.exb_link.specs.declared.link_frame.LinkFrame.{LinkFrame}
use Rattle.exb_link.specs.LinkFrames.{is_control, without_data}
use Rattle.exb_model.specs.Frames.{is_control_frame}
use Rattle.exb_control_spec.specs.Runs.Systems.{System}
use Rattle.exb_control_spec.specs.Runs.PlannedChanges.{IsSetting}
use Rattle.exb_world_spec.specs.Worlds.{World, Down, Left, with_down, with_far}
use Rattle.exb_model.specs.Tables.{at}
use Rattle.exb_world_spec.specs.Effects.{Effect, each}
use Rattle.exb_world_spec.specs.ExtenderSteps.{sends, takes_from_above}
use Rattle.exb_world_spec.specs.Runs.Sessions.{Each}
use Rattle.exb_world_spec.specs.Runs.Simulation.{IsSound}
use Rattle.exb_world_spec.specs.Steps.{first_data, takes_any}
use Rattle.exb_world_spec.proofs.Frames.{read_typed, typed_not_bare}
use Rattle.exb_world_spec.proofs.ControlFrames.{seen_as}
use Rattle.exb_world_spec.proofs.LinkFrames.{at_itself}
use Rattle.exb_flight.specs.Items.{Word as Datum, Item, copies, stamped, data_of}
use Rattle.exb_flight.specs.Items as items
use Rattle.exb_flight.specs.Tree.{itself}
use Rattle.exb_flight.specs.DownwardFrames.{IsWord}
use Rattle.exb_flight.specs.Flight.{Flight, CarryDown, change, moved_down, hangs_under, tables_of}
use Rattle.exb_flight.specs.AllowedSteps.{IsFirst, run}
use Rattle.exb_flight.specs.FlightFacts.{Facts}
use Rattle.exb_flight.proofs.ItemLists.{each_first}
use Rattle.exb_flight.proofs.ExtendersAbove.{no_circle}
use Rattle.exb_flight.specs.Tokens.{Thins, datum, data_words, items_on, key_on}
use Rattle.exb_flight.specs.SimulationRelation.{Shows}
use Rattle.exb_flight.specs.Simulation.{Flown, DescentsFly}
use Rattle.exb_flight.proofs.PushedTokens.{pushed_none}
use Rattle.exb_flight.proofs.Items.{thins_words, thins_without_data, items_words, items_taken}
use Rattle.exb_flight.proofs.SimulatedAscents.{data_first, datum_bytes, link_there}
use Rattle.exb_flight.proofs.DownwardCopies.{when, range_sent, picked_one, picked_none, emits_there}

-- ---- copies are data words too
first_stripped : (f : List ℕ) → 12 ≤ length f → take 6 (stripped f) ≡ take 6 f
first_stripped [] long = absurd (omega (arith, long))
first_stripped (a ∷ []) long = absurd (omega (arith, long))
first_stripped (a ∷ b ∷ []) long = absurd (omega (arith, long))
first_stripped (a ∷ b ∷ c ∷ []) long = absurd (omega (arith, long))
first_stripped (a ∷ b ∷ c ∷ d ∷ []) long = absurd (omega (arith, long))
first_stripped (a ∷ b ∷ c ∷ d ∷ e ∷ []) long = absurd (omega (arith, long))
first_stripped (a ∷ b ∷ c ∷ d ∷ e ∷ g ∷ more) long = refl

stripped_plain : (f : List ℕ) → 12 ≤ length f → is_control_frame f ≡ false → is_control_frame (stripped f) ≡ false
unfolding is_control_frame
stripped_plain f long e = ap (lib.Pointwise.pointwise Rattle.std.specs.Prelude.nat_eq Rattle.exb_model.specs.Frames.control_address) (first_stripped f long) ∙ e

tag_long : (f : List ℕ) (tag : Tag) → read_etag f ≡ Some tag → 12 ≤ length f
tag_long f tag e =
    elim (cases_Bool (has_etag f)) [
      | inl z ↦ (let k = leb-true 20 (length f) (and_parts (nat_le 20 (length f)) _ z).0 in omega (arith, k))
      | inr z ↦ absurd (none_some (rw z at e))
    ]
  where
    none_some : None ≡ Some tag → ⊥
    none_some k = cc

emits_plain : (t : Tables) (q : ℕ) (f : List ℕ) → is_control_frame f ≡ false → Each (λ (z : List ℕ). is_control_frame z ≡ false) (emits t q f)
unfolding emits
emits_plain t q f plain = by_tag (read_etag f) refl
  where
    by_tag : (o : Option Tag) → read_etag f ≡ o → Each (λ (z : List ℕ). is_control_frame z ≡ false) (emits_tagged t q f o)
    by_tag None e = tt
    by_tag (Some tag) e =
        elim (cases_Bool (takes t q tag)) [
          | inr z ↦ rw z tt
          | inl z ↦ elim (cases_Bool (left_out t q tag)) [
            | inl y ↦ rw (z, y) tt
            | inr y ↦ elim (cases_Bool (bare t q tag)) [
              | inl b ↦ rw (z, y, b) (stripped_plain f (tag_long f tag e) plain, tt)
              | inr b ↦ rw (z, y, b) (plain, tt)
            ]
          ]
        ]

-- a port without a channel emits nothing
emits_none : (t : Tables) (q : ℕ) (f : List ℕ) → t.own q ≡ 0 → emits t q f ≡ []
unfolding emits
emits_none t q f none = by_tag (read_etag f)
  where
    idle : nat_lt 0 (t.own q) ≡ false
    idle = ap (nat_lt 0) none

    by_tag : (o : Option Tag) → emits_tagged t q f o ≡ []
    by_tag None = refl
    by_tag (Some tag) = rw idle refl

module _ (t : Shape) (l : Limits) (i : Basis) (setting : IsSetting t l) (absent : (k : ℕ) → is_extender t k ≡ false → on t k < 64) (w : World) (sound : IsSound t l w) (h : History) (gone : List Left) (f : Flight) (facts : Facts t i f) (s : Shows t i w h gone f)
    (n : ℕ) (there : is_extender t n ≡ true) (x : LinkFrame) (found : first_data (w.down n) ≡ Some x) where
  abbrev first_down : IsFirst t f.down n (datum x)
  first_down =
      record {
        link = link_there t n there;
        rest = data_words (without_data (w.down n));
        first = sym (thins_words _ _ (s.down n)) ∙ (items_words (key_on t w.control.held Down n) (w.down n) ∙ (data_first (w.down n) x found).1);
      }

  taken_down : (m : ℕ) → Thins (items_on t w.control.held Down m (at n (without_data (w.down n)) w.down m)) (change f.down n (items.without_data (f.down n)) m)
  taken_down m =
      elim (cases_eq m n) [
        | inl z ↦
            let here : Thins (items_on t w.control.held Down n (without_data (w.down n))) (items.without_data (f.down n)) =
            subst (λ (xs : List Item). Thins xs (items.without_data (f.down n))) (sym (items_taken (key_on t w.control.held Down n) (w.down n))) (thins_without_data _ _ (s.down n)) in
            rw (eq-eqb m n z) (subst (λ (k : ℕ). Thins (items_on t w.control.held Down k (without_data (w.down n))) (items.without_data (f.down n))) (sym z) here)
        | inr z ↦ rw (ne_eqb m n z) (s.down m)
      ]

  abbrev far_tables : ExtenderTables
  far_tables = (w.far n).tables

  -- what is emitted at the port of a number
  emits_here : (p : ℕ) → device p ≡ n → emits (forwarding_of (w.far n).tables) (p % 64 + 1) x.bytes ≡ emits (tables_of f) p (datum x).bytes
  emits_here p e =
      ap (λ (m : ℕ). emits (forwarding_of (w.far m).tables) (p % 64 + 1) x.bytes) (sym e)
      ∙ (emits_there (λ (m : ℕ). (w.far m).tables) p x.bytes
      ∙ (ap (λ (y : System). emits (tables_at y.tables) p x.bytes) (sym s.system) ∙ ap (emits (tables_of f) p) (sym (datum_bytes x.bytes x.stamp))))

  -- one port of all
  picks : {A : Type 0} (T : ℕ → Bool) (P : List (List ℕ) → List A) → P [] ≡ [] → (p : ℕ) → device p ≡ n → T (p % 64 + 1) ≡ true → ((q : ℕ) → 1 ≤ q → q < 65 → (q ≡ p % 64 + 1 → ⊥) → T q ≡ false) →
      flat_map (λ q. when (T q) (P (emits (forwarding_of (w.far n).tables) q x.bytes))) (range_with_len 1 (w.far n).tables.ports) ≡ P (emits (tables_of f) p (datum x).bytes)
  picks T P empty p here on off =
      let is : IsExtender (w.far n) = sound.fits.ends.extenders n there in
      let few = is.ports.1 in
      elim (cases_lt (w.far n).tables.ports (p % 64 + 1)) [
        | inl out ↦
            picked_none T (λ q. P (emits (forwarding_of (w.far n).tables) q x.bytes)) 1 (w.far n).tables.ports (λ q low high. off q low (omega (arith, high, few)) (λ z. omega (arith, z, high, out)))
            ∙ (sym empty ∙ ap P (sym (emits_none (forwarding_of (w.far n).tables) (p % 64 + 1) x.bytes (is.outside (p % 64 + 1) out)) ∙ emits_here p here))
        | inr in_range ↦
            picked_one T (λ q. P (emits (forwarding_of (w.far n).tables) q x.bytes)) (p % 64 + 1) on 1 (w.far n).tables.ports (omega arith) (omega (arith, in_range)) (λ q low high ne. off q low (omega (arith, high, few)) ne)
            ∙ ap P (emits_here p here)
      ]

  both : (b : Bool) → b ≡ true → b ≡ false → ⊥
  both b y z = cc

  abbrev hangs : ℕ → ℕ → Bool
  hangs k q = is_extender t k && on t k == port_of n q

  abbrev fallen : ℕ → List Datum
  fallen k = flat_map (λ q. when (is_extender t k && on t k == port_of n q) (copies (datum x) (emits (forwarding_of (w.far n).tables) q x.bytes))) (range_with_len 1 (w.far n).tables.ports)

  -- what hangs at a port of extender n hangs under it
  some_number : 0 < n
  some_number = ltb-true 0 n (and_parts (nat_lt 0 n) _ there).0

  at_number : (k q : ℕ) → 1 ≤ q → q < 65 → (is_extender t k && on t k == port_of n q) ≡ true → (device (on t k) ≡ n) × (63 < on t k)
  at_number k q low high z =
      let e : on t k ≡ port_of n q = eqb-true (on t k) (port_of n q) (and_parts (is_extender t k) (on t k == port_of n q) z).1 in
      let some = some_number in
      (omega (arith, e, low, high), omega (arith, e, low, some))

  none_hangs : (k : ℕ) → ((device (on t k) ≡ n) → 63 < on t k → ⊥) → fallen k ≡ []
  none_hangs k never =
      let is : IsExtender (w.far n) = sound.fits.ends.extenders n there in
      let few = is.ports.1 in
      picked_none (λ q. is_extender t k && on t k == port_of n q) (λ q. copies (datum x) (emits (forwarding_of (w.far n).tables) q x.bytes)) 1 (w.far n).tables.ports
      (λ q low high. elim (cases_Bool (is_extender t k && on t k == port_of n q)) [
        | inr z ↦ z
        | inl z ↦ (let a = at_number k q low (omega (arith, high, few)) z in absurd (never a.0 a.1))
      ])

  words_are : (k : ℕ) → change f.down n (items.without_data (f.down n)) k ++ data_of (fallen k) ≡ moved_down t (tables_of f) n (datum x) f.down k
  words_are k =
      elim (cases_eq k n) [
        | inl z ↦
            let none : fallen k ≡ [] = none_hangs k (λ here high.
            let at_n : on t k ≡ on t n = ap (on t) z in
            no_circle t setting.tree n (link_there t n there) (omega (arith, high, at_n)) (itself (ap device (sym at_n) ∙ here))) in
            ap (λ (fs : List Datum). change f.down n (items.without_data (f.down n)) k ++ data_of fs) none
            ∙ (append-nil (change f.down n (items.without_data (f.down n)) k) ∙ (rw (eq-eqb k n z) (ap (λ (m : ℕ). items.without_data (f.down m)) (sym z))))
        | inr z ↦ elim (cases_Bool (hangs_under t n k)) [
          | inr c ↦
              let none : fallen k ≡ [] = none_hangs k (λ here high. both (hangs_under t n k) (and_from (nat_lt 63 (on t k)) (device (on t k) == n) (lt-ltb 63 (on t k) high) (eq-eqb (device (on t k)) n here)) c) in
              ap (λ (fs : List Datum). change f.down n (items.without_data (f.down n)) k ++ data_of fs) none
              ∙ (append-nil (change f.down n (items.without_data (f.down n)) k) ∙ (rw (ne_eqb k n z, c) refl))
          | inl c ↦
              let p = and_parts (nat_lt 63 (on t k)) (device (on t k) == n) c in
              let high : 63 < on t k = ltb-true 63 (on t k) p.0 in
              let here : device (on t k) ≡ n = eqb-true (device (on t k)) n p.1 in
              let is : is_extender t k ≡ true = elim (cases_Bool (is_extender t k)) [ inl y ↦ y | inr y ↦ (let low = absent k y in absurd (omega (arith, high, low))) ] in
              let picked : fallen k ≡ copies (datum x) (emits (tables_of f) (on t k) (datum x).bytes) =
              picks (λ q. is_extender t k && on t k == port_of n q) (copies (datum x)) refl (on t k) here
              (and_from (is_extender t k) (on t k == port_of n (on t k % 64 + 1)) is (eq-eqb (on t k) (port_of n (on t k % 64 + 1)) (omega (arith, here))))
              (λ q low below ne. elim (cases_Bool (is_extender t k && on t k == port_of n q)) [
                | inr y ↦ y
                | inl y ↦ (let e : on t k ≡ port_of n q = eqb-true (on t k) (port_of n q) (and_parts (is_extender t k) (on t k == port_of n q) y).1 in absurd (ne (omega (arith, e, low, below))))
              ]) in
              ap (λ (fs : List Datum). change f.down n (items.without_data (f.down n)) k ++ data_of fs) picked ∙ (rw (ne_eqb k n z, c) refl)
        ]
      ]

  abbrev leaves : ℕ → List SentOut
  leaves p = flat_map (λ q. when (p == port_of n q) (stamped (datum x) (emits (forwarding_of (w.far n).tables) q x.bytes))) (range_with_len 1 (w.far n).tables.ports)

  leaves_are : (p : ℕ) → leaves p ≡ (if device p == n then stamped (datum x) (emits (tables_of f) p (datum x).bytes) else [])
  leaves_are p =
      let is : IsExtender (w.far n) = sound.fits.ends.extenders n there in
      let few = is.ports.1 in
      elim (cases_eq (device p) n) [
        | inl here ↦ rw (eq-eqb (device p) n here) (
            picks (λ q. p == port_of n q) (stamped (datum x)) refl p here (eq-eqb p (port_of n (p % 64 + 1)) (omega (arith, here)))
            (λ q low below ne. ne_eqb p (port_of n q) (λ e. ne (omega (arith, e, low, below)))))
        | inr other ↦ rw (ne_eqb (device p) n other) (
            picked_none (λ q. p == port_of n q) (λ q. stamped (datum x) (emits (forwarding_of (w.far n).tables) q x.bytes)) 1 (w.far n).tables.ports
            (λ q low high. ne_eqb p (port_of n q) (λ e. other (omega (arith, e, low, high, few)))))
      ]

  emitted_down : (y : ExtenderState) → emitted y.tables side.Up x.bytes ≡ flat_map (λ q. map (λ z. record { side = side.Port q; bytes = z }) (emits (forwarding_of y.tables) q x.bytes)) (range_with_len 1 y.tables.ports)
  unfolding emitted
  emitted_down y = refl

  pub down_taken : Flown t l i h gone f (takes_from_above t n x (with_down n (without_data (w.down n)) w))
  down_taken =
      let v : World = with_down n (without_data (w.down n)) w in
      let u : World = with_far n (w.far n) v in
      let plain : is_control x ≡ false = (data_first (w.down n) x found).0 in
      let k : IsWord t (tables_of f) n (datum x) = each_first (IsWord t (tables_of f) n) (f.down n) (datum x) (data_words (without_data (w.down n))) first_down.first (facts.words n (link_there t n there)) in
      let read : read_etag x.bytes ≡ Some k.tag = ap read_etag (sym (datum_bytes x.bytes x.stamp)) ∙ k.read in
      let other : is_bare_control x.bytes ≡ false = typed_not_bare x.bytes (read_typed x.bytes k.tag read) in
      let g0 : Flight = record f { down = change f.down n (items.without_data (f.down n)) } in
      let s0 : Shows t i u h gone g0 = record { system = s.system ∙ sym (ap (λ (y : ℕ → ExtenderState). seen_as w.control y) (at_itself n w.far)); down = taken_down; up = s.up; history = s.history; left = s.left; learned = s.learned } in
      let xs : List Sent = flat_map (λ q. map (λ z. record { side = side.Port q; bytes = z }) (emits (forwarding_of (w.far n).tables) q x.bytes)) (range_with_len 1 (w.far n).tables.ports) in
      let e : Effect = each (sends t n x.stamp) xs u in
      let g = range_sent t i setting.tree h n x (λ q. emits (forwarding_of (w.far n).tables) q x.bytes) (λ q. emits_plain (forwarding_of (w.far n).tables) q x.bytes plain) 1 (w.far n).tables.ports u gone g0 s0 in
      let after : Flight = run t l i f (CarryDown n (datum x) ∷ []) in
      let shows : Shows t i e.world h (gone ++ e.left) after = record {
        system = g.shows.system;
        down = λ m. subst (λ (ys : List Item). Thins (items_on t e.world.control.held Down m (e.world.down m)) ys) (words_are m) (g.shows.down m);
        up = g.shows.up;
        history = g.shows.history;
        left = λ p ext. ap (λ (ys : List SentOut). f.left p ++ ys) (sym (leaves_are p)) ∙ g.shows.left p ext;
        learned = g.shows.learned;
      } in
      let done : Flown t l i h gone f e = record { steps = CarryDown n (datum x) ∷ []; runs = (first_down, tt); shows = subst (λ es. Shows t i e.world (h then es) (gone ++ e.left) after) (sym g.silent) shows } in
      rw other (subst (λ (ys : List Sent). Flown t l i h gone f (each (sends t n x.stamp) ys u)) (sym (emitted_down (w.far n))) done)

pub descents_fly : DescentsFly
descents_fly n t l i setting w h gone f sound facts s may = by_word (first_data (w.down n)) refl
  where
    by_word : (o : Option LinkFrame) → first_data (w.down n) ≡ o → Flown t l i h gone f (takes_any t l n Down o (without_data (w.down n)) w)
    by_word None e = (pushed_none t l i w h gone f s).flown
    by_word (Some x) e = down_taken t l i setting may.absent w sound h gone f facts s n may.may.can.0 x e

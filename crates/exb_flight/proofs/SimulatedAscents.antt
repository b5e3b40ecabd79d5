-- A data word that is taken from an upward link is flown: into the bridge, or on to the next link.
use Rattle.std.proofs.Common.{◌≡◌, ℕ, ◌+◌, ◌%◌, ◌<◌, ◌≤◌, ◌++◌, nat_lt, nat_le, true, false, List, [], ◌∷◌, Option, Some, None, filter, slice_index, refl, sym, ◌∙◌, ap, subst, arith, inl, inr}
use Rattle.std.proofs.lemmas.Bool.{cases_Bool, cases_eq, cases_lt, lt-ltb, le-ltb, and_parts, and_from, ltb-true, eq-eqb, ne_eqb}
use Rattle.exb_model.specs.ETags.{read_etag, stripped}
use Rattle.exb_model.specs.Tree.{Shape, device, on, is_extender, is_external, trunk, port_number}
use Rattle.exb_model.specs.Setup.{Limits}
use Rattle.exb_model.specs.History.{Basis, History}
use Rattle.exb_frame.specs.TagValues.{TagRoundTrip}
use Rattle.exb_model.specs.Frames.{IsBytes}
use Rattle.exb_link.specs.declared.link_frame.Stamp.{Stamp}
use Rattle.exb_link.specs.declared.link_frame.LinkFrame.{LinkFrame}
use Rattle.exb_link.specs.LinkFrames.{is_control, is_data, without_data}
use Rattle.exb_relay.specs.Laws.{SendsAreWords, SendsLeaveAsFlat}
use Rattle.exb_config.specs.Pvids.{HasPvids}
use Rattle.exb_control_spec.specs.Runs.PlannedChanges.{IsSetting}
use Rattle.exb_control_spec.proofs.Plans.TreeWays.{from_extended}
use Rattle.exb_extender.specs.declared.sends.Side.TheVariants as side
use Rattle.exb_csp.specs.AllTables.{tables_at}
use Rattle.exb_extender.specs.Forwarding.{Sent, up, names_channel, emitted}
use Rattle.exb_extender.specs.Machine.{ExtenderState, IsExtender}
use Rattle.exb_control_spec.specs.Plans.HeldNumbers.{Held, channel_in}
use Rattle.exb_relay.specs.Sends.{or_zero}
use Rattle.exb_control_spec.specs.Runs.Systems.{System}
use Rattle.exb_control_spec.proofs.Runs.NumbersInForce.{held_are_numbers}
use Rattle.exb_world_spec.specs.Worlds.{World, Way, Up, Left, with_up, with_far, push_up}
use Rattle.exb_model.specs.Tables.{at}
use Rattle.exb_world_spec.specs.ExtenderSteps.{does, takes_from_below}
use Rattle.exb_world_spec.specs.Steps.{takes_any}
use Rattle.exb_world_spec.proofs.ControlFrames.{seen_as}
use Rattle.exb_world_spec.proofs.Steps.{home}
use Rattle.exb_world_spec.proofs.LinkFrames.{at_itself}
use Rattle.exb_flight.specs.Flight.{CarryUp, add}
use Rattle.exb_flight.specs.FlightFacts.{IsUp}
use Rattle.exb_flight.proofs.ItemLists.{each_first}
use Rattle.exb_flight.specs.Tokens.{datum_by}
use Rattle.exb_flight.proofs.Cascades.{cascades_are_laid}
use Rattle.exb_flight.specs.Simulation.{AscentsFly}
use Rattle.exb_flight.proofs.SimulatedTicks.{none_left}
use Rattle.exb_flight.proofs.Items.{thins_append, items_append, items_data}
use Rattle.exb_world_spec.specs.DataFrames.{arrival_by, holder_by, comes_from, bridge_takes}
use Rattle.exb_world_spec.specs.Steps.{first_data}
use Rattle.exb_world_spec.specs.Runs.Simulation.{IsSound}
use Rattle.exb_world_spec.proofs.Bytes.{stripped_bytes}
use Rattle.exb_world_spec.proofs.LinkFrames.{each_filter, each_get}
use Rattle.exb_flight.specs.Items.{Word as Datum, Item, Data}
use Rattle.exb_flight.specs.Items as items
use Rattle.exb_flight.specs.Tree.{IsLink}
use Rattle.exb_flight.specs.Flight.{Flight, CarryIn, change}
use Rattle.exb_flight.specs.AllowedSteps.{IsFirst, run}
use Rattle.exb_flight.specs.FlightFacts.{Facts}
use Rattle.exb_flight.proofs.Runs.{facts_run}
use Rattle.exb_flight.specs.Tokens.{Thins, datum, data_words, items_on, key_on}
use Rattle.exb_flight.specs.SimulationRelation.{Shows}
use Rattle.exb_flight.specs.Simulation.{Flown}
use Rattle.exb_flight.proofs.Items.{thins_words, thins_without_data, items_words, items_taken}
use Rattle.exb_flight.proofs.PushedTokens.{pushed_none}
use Rattle.exb_flight.proofs.SimulatedRelay.{comes_flown}

-- ---- the first data word
pub data_first : (ws : List LinkFrame) (x : LinkFrame) → first_data ws ≡ Some x → (is_control x ≡ false) × (data_words ws ≡ datum x ∷ data_words (without_data ws))
data_first [] x e = absurd (none_some e)
  where
    none_some : None ≡ Some x → ⊥
    none_some z = cc
data_first (y ∷ ys) x e =
    elim (cases_Bool (is_control y)) [
      | inl c ↦ let rest = data_first ys x (rw c at e) in (rest.0, data_words_step c rest.1)
      | inr d ↦ let same : y ≡ x = some_same (rw d at e) in (subst (λ (z : LinkFrame). is_control z ≡ false) same d, data_words_here d same)
    ]
  where
    some_same : Some y ≡ Some x → y ≡ x
    some_same z = cc

    data_words_step : is_control y ≡ true → data_words ys ≡ datum x ∷ data_words (without_data ys) → data_words (y ∷ ys) ≡ datum x ∷ data_words (without_data (y ∷ ys))
    data_words_step c rest =
        let goes : without_data (y ∷ ys) ≡ y ∷ without_data ys = rw c refl in
        let after : data_words (y ∷ without_data ys) ≡ data_words (without_data ys) = rw c refl in
        let before : data_words (y ∷ ys) ≡ data_words ys = rw c refl in
        before ∙ (rest ∙ ap (λ (fs : List Datum). datum x ∷ fs) (sym (ap data_words goes ∙ after)))

    data_words_here : is_control y ≡ false → y ≡ x → data_words (y ∷ ys) ≡ datum x ∷ data_words (without_data (y ∷ ys))
    data_words_here d same =
        let goes : without_data (y ∷ ys) ≡ ys = rw d refl in
        let before : data_words (y ∷ ys) ≡ datum y ∷ data_words ys = rw d refl in
        before ∙ (ap (λ (z : LinkFrame). datum z ∷ data_words ys) same ∙ ap (λ (fs : List Datum). datum x ∷ fs) (sym (ap data_words goes)))

pub datum_bytes : (bytes : List ℕ) (o : Option Stamp) → (datum_by bytes o).bytes ≡ bytes
datum_bytes bytes None = refl
datum_bytes bytes (Some st) = refl

-- a data word more on a link
pub thin_datum : (t : Shape) (h : Held) (way : Way) (words : ℕ → List LinkFrame) (links : ℕ → List Item) (p : ℕ) (word : LinkFrame) → is_control word ≡ false → ((m : ℕ) → Thins (items_on t h way m (words m)) (links m)) →
    (m : ℕ) → Thins (items_on t h way m (at p (words p ++ word ∷ []) words m)) (add links p (Data (datum word)) m)
thin_datum t h way words links p word plain all m =
    elim (cases_eq m p) [
      | inl z ↦
          let more : items_on t h way m (words p ++ word ∷ []) ≡ items_on t h way m (words p) ++ Data (datum word) ∷ [] =
          items_append (key_on t h way m) (words p) (word ∷ []) ∙ ap (λ (zs : List Item). items_on t h way m (words p) ++ zs) (items_data (key_on t h way m) word [] plain) in
          let mine : Thins (items_on t h way m (words p)) (links m) = subst (λ (k : ℕ). Thins (items_on t h way m (words k)) (links m)) z (all m) in
          rw (eq-eqb m p z) (subst (λ (zs : List Item). Thins zs (links m ++ Data (datum word) ∷ [])) (sym more) (thins_append (items_on t h way m (words p)) (links m) (Data (datum word) ∷ []) mine))
      | inr z ↦ rw (ne_eqb m p z) (all m)
    ]

pub link_there : (t : Shape) (n : ℕ) → is_extender t n ≡ true → IsLink t n
link_there t n there =
    let p = and_parts (nat_lt 0 n) (nat_lt 0 (slice_index t.ports n)) there in
    record { extender = ltb-true 0 n p.0; there = ltb-true 0 (slice_index t.ports n) p.1; at = refl }

module _ (t : Shape) (l : Limits) (i : Basis) (setting : IsSetting t l) (round : TagRoundTrip) (words : SendsAreWords) (leave : SendsLeaveAsFlat) (w : World) (h : History) (gone : List Left) (f : Flight) (facts : Facts t i f) (s : Shows t i w h gone f)
    (n : ℕ) (there : is_extender t n ≡ true) (x : LinkFrame) (found : first_data (w.up n) ≡ Some x) (bytes : IsBytes x.bytes) (pvids : HasPvids w.control.bridge) where
  abbrev first_up : IsFirst t f.up n (datum x)
  first_up =
      record {
        link = link_there t n there;
        rest = data_words (without_data (w.up n));
        first = sym (thins_words _ _ (s.up n)) ∙ (items_words (key_on t w.control.held Up n) (w.up n) ∙ (data_first (w.up n) x found).1);
      }

  taken_up : (m : ℕ) → Thins (items_on t w.control.held Up m (at n (without_data (w.up n)) w.up m)) (change f.up n (items.without_data (f.up n)) m)
  taken_up m =
      elim (cases_eq m n) [
        | inl z ↦
            let here : Thins (items_on t w.control.held Up n (without_data (w.up n))) (items.without_data (f.up n)) =
            subst (λ (xs : List Item). Thins xs (items.without_data (f.up n))) (sym (items_taken (key_on t w.control.held Up n) (w.up n))) (thins_without_data _ _ (s.up n)) in
            rw (eq-eqb m n z) (subst (λ (k : ℕ). Thins (items_on t w.control.held Up k (without_data (w.up n))) (items.without_data (f.up n))) (sym z) here)
        | inr z ↦ rw (ne_eqb m n z) (s.up m)
      ]

  -- into the bridge
  pub in_flown : on t n < 64 → Flown t l i h gone f (bridge_takes t l (on t n) n x (with_up n (without_data (w.up n)) w))
  in_flown low =
      let v : World = with_up n (without_data (w.up n)) w in
      let g : Flight = run t l i f (CarryIn n (datum x) ∷ []) in
      let sv : Shows t i v h gone g = record { system = s.system; down = s.down; up = taken_up; history = s.history; left = s.left; learned = s.learned } in
      let facts' : Facts t i g = facts_run round words leave t l i setting (CarryIn n (datum x) ∷ []) f facts ((first_up, low), tt) in
      let rest : Flown t l i h gone g (comes_from t (holder_by v (on t n) (read_etag x.bytes)) x.stamp (stripped x.bytes) v) = by_options v g sv facts' (holder_by v (on t n) (read_etag x.bytes)) x.stamp pvids in
      let all : Flown t l i h gone f (comes_from t (holder_by v (on t n) (read_etag x.bytes)) x.stamp (stripped x.bytes) v) = record { steps = CarryIn n (datum x) ∷ rest.steps; runs = ((first_up, low), rest.runs); shows = rest.shows } in
      rw (data_first (w.up n) x found).0 all
    where
      by_options : (v : World) (g : Flight) → Shows t i v h gone g → Facts t i g → (o : Option ℕ) (stamp : Option Stamp) → HasPvids v.control.bridge → Flown t l i h gone g (comes_from t o stamp (stripped x.bytes) v)
      by_options v g sv facts' None stamp pvids' = (pushed_none t l i v h gone g sv).flown
      by_options v g sv facts' (Some p) None pvids' = (pushed_none t l i v h gone g sv).flown
      by_options v g sv facts' (Some p) (Some st) pvids' =
          elim (cases_Bool (is_external t p)) [
            | inl e ↦ rw e (comes_flown t l i setting round words leave v h gone (arrival_by p st (stripped x.bytes)) (stripped_bytes x.bytes bytes) pvids' g facts' sv)
            | inr e ↦ rw e (pushed_none t l i v h gone g sv).flown
          ]

  -- on to the next link
  emitted_on : (y : ExtenderState) (q : ℕ) → y.tables.cascade q ≡ true → names_channel (read_etag x.bytes) ≡ true → emitted y.tables (side.Port q) x.bytes ≡ up x.bytes ∷ []
  unfolding emitted
  emitted_on y q cascade named = rw (cascade, named) refl

  -- what is sent there
  pub on_sent : IsSound t l w → 64 ≤ on t n → (v : World) → v.far ≡ w.far →
      takes_from_below t (device (on t n)) (port_number (on t n)) x v ≡ does t (device (on t n)) x.stamp (v.far (device (on t n)), up x.bytes ∷ []) v
  on_sent sound deep v far =
      let p : ℕ = device (on t n) in
      let q : ℕ = port_number (on t n) in
      let link : IsLink t n = link_there t n there in
      let cascade : (w.far p).tables.cascade q ≡ true =
      subst (λ (y : System). (tables_at y.tables).cascade (on t n) ≡ true) s.system (cascades_are_laid t i f setting.tree facts n link deep (datum x) (data_words (without_data (w.up n))) first_up.first) in
      let its : IsUp t f.system n (datum x) = each_first (IsUp t f.system n) (f.up n) (datum x) (data_words (without_data (w.up n))) first_up.first (facts.ups n link) in
      let read : read_etag x.bytes ≡ Some its.tag = ap read_etag (sym (datum_bytes x.bytes x.stamp)) ∙ its.read in
      let named : names_channel (read_etag x.bytes) ≡ true = ap names_channel read ∙ and_from (nat_lt 0 its.tag.ecid) (nat_lt its.tag.ecid 4095) (lt-ltb 0 its.tag.ecid its.some) (lt-ltb its.tag.ecid 4095 (small sound its)) in
      let here : (v.far p).tables.cascade q ≡ true = ap (λ (y : ℕ → ExtenderState). (y p).tables.cascade q) far ∙ cascade in
      rw here (ap (λ (zs : List Sent). does t p x.stamp (v.far p, zs) v) (emitted_on (v.far p) q here named))
    where
      small_number : (o : Option ℕ) → ((c : ℕ) → o ≡ Some c → c < 4095) → or_zero o < 4095
      small_number None k = omega arith
      small_number (Some c) k = k c refl

      small : IsSound t l w → (its : IsUp t f.system n (datum x)) → its.tag.ecid < 4095
      small sound its =
          elim its.number [
            | inl own ↦
                let d = from_extended t (datum x).port its.outer in
                let ext : is_external t (datum x).port ≡ true = (and_parts (nat_le 64 (datum x).port) (is_external t (datum x).port) its.outer).1 in
                let k : IsExtender (w.far (device (datum x).port)) = sound.fits.ends.extenders (device (datum x).port) (home t l setting.tree setting round (datum x).port d.0 ext) in
                let own_w : (w.far (device (datum x).port)).tables.own ((datum x).port % 64 + 1) ≡ its.tag.ecid = subst (λ (y : System). (tables_at y.tables).own (datum x).port ≡ its.tag.ecid) s.system own in
                (let c = k.channels ((datum x).port % 64 + 1) in omega (arith, c, own_w))
            | inr gone ↦
                let held = f.system.state.held in
                let c : or_zero (channel_in held (trunk t (device (datum x).port)) (datum x).port) < 4095 =
                small_number (channel_in held (trunk t (device (datum x).port)) (datum x).port) (λ z e. (held_are_numbers held).small (trunk t (device (datum x).port)) (datum x).port z e) in
                omega (arith, c, gone.1)
          ]

  pub on_flown : IsSound t l w → 64 ≤ on t n → Flown t l i h gone f (takes_from_below t (device (on t n)) (port_number (on t n)) x (with_up n (without_data (w.up n)) w))
  on_flown sound deep =
      let v : World = with_up n (without_data (w.up n)) w in
      let p : ℕ = device (on t n) in
      let plain : is_control x ≡ false = (data_first (w.up n) x found).0 in
      let word : LinkFrame = record { bytes = x.bytes; stamp = x.stamp } in
      let u : World = push_up p word (with_far p (v.far p) v) in
      let shows : Shows t i u h gone (run t l i f (CarryUp n (datum x) ∷ [])) = record {
        system = s.system ∙ sym (ap (λ (y : ℕ → ExtenderState). seen_as w.control y) (at_itself p w.far));
        down = s.down;
        up = thin_datum t w.control.held Up v.up (change f.up n (items.without_data (f.up n))) p word plain taken_up;
        history = s.history;
        left = s.left;
        learned = s.learned;
      } in
      let done : Flown t l i h gone f (does t p x.stamp (w.far p, up x.bytes ∷ []) v) = record { steps = CarryUp n (datum x) ∷ []; runs = ((first_up, deep), tt); shows = none_left t i u h gone _ shows } in
      subst (Flown t l i h gone f) (sym (on_sent sound deep v refl)) done

pub ascents_fly : TagRoundTrip → SendsAreWords → SendsLeaveAsFlat → AscentsFly
ascents_fly round words leave n t l i setting w h gone f sound facts s may = by_word (first_data (w.up n)) refl
  where
    by_word : (o : Option LinkFrame) → first_data (w.up n) ≡ o → Flown t l i h gone f (takes_any t l n Up o (without_data (w.up n)) w)
    by_word None e = (pushed_none t l i w h gone f s).flown
    by_word (Some x) e =
        let bytes : IsBytes x.bytes = each_get (λ y. IsBytes y.bytes) (filter is_data (w.up n)) 0 x (each_filter (λ y. IsBytes y.bytes) is_data (w.up n) (may.may.bytes.ups n)) e in
        elim (cases_lt (on t n) 64) [
          | inl low ↦ rw (lt-ltb (on t n) 64 low) (in_flown t l i setting round words leave w h gone f facts s n may.may.can.0 x e bytes may.pvids low)
          | inr deep ↦ rw (le-ltb (on t n) 64 deep) (on_flown t l i setting round words leave w h gone f facts s n may.may.can.0 x e bytes may.pvids sound deep)
        ]

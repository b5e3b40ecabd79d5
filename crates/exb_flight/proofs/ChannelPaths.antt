-- Executing the outstanding request keeps that pairs are at ports with channels, and that the ways to cascade ports are laid.
use Rattle.std.proofs.Common.{◌≡◌, ◌≢◌, ◌⊎◌, ℕ, ◌+◌, ◌%◌, ◌<◌, ◌≤◌, ◌==◌, ◌&&◌, ◌||◌, not, cond, Bool, true, false, List, [], ◌∷◌, ◌++◌, refl, sym, ◌∙◌, ap, subst, arith, inl, inr, eq-eqb, nat_lt}
use Rattle.std.proofs.lemmas.Bool.{cases_eq, cases_Bool, ne_eqb, eqb-true, ltb-true, and_parts, or_cases, or_right, false≢true, false_from_ne_true}
use Rattle.exb_model.specs.Tree.{Shape, IsTree, device, is_cascade, is_cascade_under}
use Rattle.exb_model.specs.TreeSets.{covers}
use Rattle.exb_model.specs.Configuration.{Bridge}
use Rattle.exb_csp.specs.declared.group_rows.GroupRow.{GroupRow}
use Rattle.exb_csp.specs.declared.message.Request.{Request}
use Rattle.exb_csp.specs.declared.message.Request.TheVariants.{Open, PortCreate, PortDelete, Register, Unregister, RegisterMany, UnregisterMany}
use Rattle.exb_csp.specs.Execution.{ExtenderTables, in_mask, in_rows, is_named, is_port, is_channel, has_pair, has_stray, create_code, rows_code, row_code, code_of, done, executed}
use Rattle.exb_csp.proofs.ExecutionLaws.{no_port, free_from, head_done}
use Rattle.exb_control_spec.specs.Plans.LaidRows.{IsLaid, SendsOn, is_port_under}
use Rattle.exb_control_spec.proofs.Plans.TreeWays.{under_test, from_cascade}
use Rattle.exb_csp.specs.AllTables.{tables_at, executes_at}
use Rattle.exb_csp.specs.declared.ask_at.AskAt.{AskAt}
use Rattle.exb_control_spec.specs.Plans.HeldNumbers.{Held}
use Rattle.exb_csp.specs.AllTables.{RunsAt}
use Rattle.exb_control_spec.specs.Runs.LaidTables.{laid, is_shown}
use Rattle.exb_control_spec.specs.Runs.Requests.{IsLaidOut}
use Rattle.exb_control_spec.proofs.Runs.LaidTables.{rest_is_laid_out}
use Rattle.exb_control_spec.proofs.Runs.NeededChannels.{home_cascade}
use Rattle.exb_control_spec.specs.Decisions.{channel_of}
use Rattle.exb_control_spec.specs.Runs.MonotoneRequests.{IsAdding, AreWithin, AllAdd, AllClear}
use Rattle.exb_control_spec.specs.Runs.PlannedChanges.{IsExact}
use Rattle.exb_control_spec.proofs.Runs.MonotoneRequests.{request_adds, request_clears, runs_add, runs_clear}
use Rattle.exb_flight.specs.RequestOrder.{lays, NoneLays, Completes}
use Rattle.exb_flight.specs.Tree.{IsDeep}
use Rattle.exb_flight.specs.ChannelPaths.{HasChannels, WaysAreLaid}
use Rattle.exb_flight.proofs.TableBounds.{own_at, laid_channel}

-- ---- a pair that is laid is at a port with a channel
pub positive : (n : ℕ) → n ≢ 0 → 0 < n
positive n some = omega arith

-- the ports of a mask with none astray have channels
placed_owned : (x : ExtenderTables) (mask q : ℕ) → 0 < q → q ≤ 64 → has_stray x mask ≡ false → in_mask mask q ≡ true → 0 < x.own q
placed_owned x mask q low high placed inside =
    positive (x.own q) (λ z.
    false≢true (sym (no_port (λ port. in_mask mask port && (nat_lt x.ports port || (x.own port == 0))) q low high placed)
    ∙ both (in_mask mask q) (nat_lt x.ports q) (x.own q == 0) inside (eq-eqb (x.own q) 0 z)))
  where
    both : (a b c : Bool) → a ≡ true → c ≡ true → (a && (b || c)) ≡ true
    both true true true e f = refl
    both true false true e f = refl
    both false b c e f = absurd (false≢true e)
    both true b false e f = absurd (false≢true f)

rows_owned : (x : ExtenderTables) (seen rows : List GroupRow) (e q : ℕ) → 0 < q → q ≤ 64 → rows_code x seen rows ≡ 0 → in_rows rows e q ≡ true → 0 < x.own q
unfolding rows_code
rows_owned x seen [] e q low high z inside = absurd (false≢true inside)
rows_owned x seen (row ∷ rows) e q low high z inside =
    let k = head_done (row_code x seen row.ecid row.mask) (rows_code x (seen ++ row ∷ []) rows) z in
    elim (or_cases ((row.ecid == e) && in_mask row.mask q) (in_rows rows e q) inside) [
      | inl here ↦ placed_owned x row.mask q low high (free_from x seen row.ecid row.mask k.0).placed (and_parts (row.ecid == e) (in_mask row.mask q) here).1
      | inr later ↦ rows_owned x (seen ++ row ∷ []) rows e q low high k.1 later
    ]

created_channel : (x : ExtenderTables) (port channel : ℕ) → create_code x port channel ≡ 0 → 0 < channel
created_channel x port channel z =
    ltb-true 0 channel (and_parts (nat_lt 0 channel) (nat_lt channel 4095) (by_tests (is_port x port) (is_channel channel) (nat_lt 0 (x.own port) || has_pair x channel) z)).0
  where
    by_tests : (a b c : Bool) → ◌≡◌ {A = ℕ} (cond (not a) 1 (cond (not b) 2 (cond c 3 0))) 0 → b ≡ true
    by_tests a true c e = refl
    by_tests false false c e = absurd (omega (arith, e))
    by_tests true false c e = absurd (omega (arith, e))

laid_owned : (x : ExtenderTables) (r : Request) (e q : ℕ) → 0 < q → q ≤ 64 → code_of x r ≡ 0 → IsAdding r → (done x r).pair e q ≡ true → (x.pair e q ≡ true) ⊎ (0 < (done x r).own q)
unfolding code_of done
laid_owned x Open e q low high z a there = inl there
laid_owned x (PortCreate port cascade channel) e q low high z a there =
    elim (or_cases (x.pair e q) ((e == channel) && (q == port)) there) [
      | inl old ↦ inl old
      | inr new ↦ (let at = (and_parts (e == channel) (q == port) new).1 in inr (rw at (created_channel x port channel z)))
    ]
laid_owned x (PortDelete port) e q low high z a there = absurd a
laid_owned x (Register ecid mask) e q low high z a there =
    elim (or_cases (x.pair e q) ((ecid == e) && in_mask mask q) there) [
      | inl old ↦ inl old
      | inr new ↦ inr (placed_owned x mask q low high (free_from x [] ecid mask z).placed (and_parts (ecid == e) (in_mask mask q) new).1)
    ]
laid_owned x (Unregister ecid) e q low high z a there = absurd a
laid_owned x (RegisterMany rows) e q low high z a there =
    elim (or_cases (x.pair e q) (in_rows rows e q) there) [
      | inl old ↦ inl old
      | inr new ↦ inr (rows_owned x [] rows e q low high z new)
    ]
laid_owned x (UnregisterMany ecids) e q low high z a there = absurd a

-- ---- a number for which nothing is laid keeps its pairs
unnamed_rows : (rows : List GroupRow) (e q : ℕ) → is_named rows e ≡ false → in_rows rows e q ≡ false
unnamed_rows [] e q n = refl
unnamed_rows (row ∷ rows) e q n =
    elim (cases_Bool (row.ecid == e)) [
      | inl f ↦ absurd (false≢true (sym n ∙ rw f refl))
      | inr f ↦ rw f (unnamed_rows rows e q (rw f at n))
    ]

or_false : (b : Bool) → (b || false) ≡ b
or_false true = refl
or_false false = refl

unlaid_pair : (x : ExtenderTables) (r : Request) (e q : ℕ) → IsAdding r → lays r e ≡ false → (done x r).pair e q ≡ x.pair e q
unfolding done
unlaid_pair x Open e q a n = refl
unlaid_pair x (PortCreate port cascade channel) e q a n =
    let other : e ≢ channel = λ f. false≢true (sym n ∙ eq-eqb channel e (sym f)) in
    rw (ne_eqb e channel other) (or_false (x.pair e q))
unlaid_pair x (PortDelete port) e q a n = absurd a
unlaid_pair x (Register ecid mask) e q a n = rw n (or_false (x.pair e q))
unlaid_pair x (Unregister ecid) e q a n = absurd a
unlaid_pair x (RegisterMany rows) e q a n = rw (unnamed_rows rows e q n) (or_false (x.pair e q))
unlaid_pair x (UnregisterMany ecids) e q a n = absurd a

-- ---- one extender executes a request
module _ (all : ℕ → ExtenderTables) (a : AskAt) (good : code_of (all a.extender) a.request ≡ 0) where
  pub executed_here : (p : ℕ) → device p ≡ a.extender → executes_at a.extender a.request all (device p) ≡ done (all (device p)) a.request
  unfolding executed
  executed_here p e = rw (eq-eqb (device p) a.extender e, e, good) refl

  pub executed_far : (p : ℕ) → device p ≢ a.extender → executes_at a.extender a.request all (device p) ≡ all (device p)
  executed_far p e = rw (ne_eqb (device p) a.extender e) refl

  pub channels_added : (s : Shape) → IsAdding a.request → HasChannels s all → HasChannels s (executes_at a.extender a.request all)
  channels_added s adding has e p deep there =
      elim (cases_eq (device p) a.extender) [
        | inr far ↦
            let same = executed_far p far in
            subst (λ (x : ExtenderTables). 0 < x.own (p % 64 + 1)) (sym same) (has e p deep (ap (λ (x : ExtenderTables). x.pair e (p % 64 + 1)) (sym same) ∙ there))
        | inl at ↦
            let same = executed_here p at in
            let code : code_of (all (device p)) a.request ≡ 0 = subst (λ (d : ℕ). code_of (all d) a.request ≡ 0) (sym at) good in
            elim (laid_owned (all (device p)) a.request e (p % 64 + 1) (omega arith) (omega arith) code adding (ap (λ (x : ExtenderTables). x.pair e (p % 64 + 1)) (sym same) ∙ there)) [
              | inr some ↦ subst (λ (x : ExtenderTables). 0 < x.own (p % 64 + 1)) (sym same) some
              | inl old ↦
                  let some = has e p deep old in
                  subst (λ (n : ℕ). 0 < n) (sym ((request_adds all a good adding (device p)).own (p % 64 + 1) some)) some
            ]
      ]

  unlaid_at : (e p : ℕ) → IsAdding a.request → lays a.request e ≡ false → (tables_at (executes_at a.extender a.request all)).pair e p ≡ (tables_at all).pair e p
  unlaid_at e p adding none =
      elim (cases_eq (device p) a.extender) [
        | inr far ↦ ap (λ (x : ExtenderTables). x.pair e (p % 64 + 1)) (executed_far p far)
        | inl at ↦ ap (λ (x : ExtenderTables). x.pair e (p % 64 + 1)) (executed_here p at) ∙ unlaid_pair (all (device p)) a.request e (p % 64 + 1) adding none
      ]

unlaid_runs : (xs : List AskAt) (all end : ℕ → ExtenderTables) (e p : ℕ) → RunsAt all xs end → AllAdd xs → NoneLays e xs → (tables_at end).pair e p ≡ (tables_at all).pair e p
unlaid_runs [] all end e p r a n = ap (λ (x : ℕ → ExtenderTables). (tables_at x).pair e p) (sym r)
unlaid_runs (x ∷ xs) all end e p r a n =
    unlaid_runs xs (executes_at x.extender x.request all) end e p r.1 a.1 n.1 ∙ unlaid_at all x r.0 e p a.0 n.0

-- ---- ways
module _ (s : Shape) (valid : IsTree s) (k c : ℕ) (under : is_cascade_under s k c ≡ true) where
  pub at_c : IsDeep s c
  at_c = (let u = from_cascade s k c under in record { deep = u.0.deep; known = u.0.known })

  top_cascade : is_cascade s k ≡ true
  top_cascade = (let u = from_cascade s k c under in subst (λ (m : ℕ). is_cascade s m ≡ true) u.0.at (home_cascade s valid c u.0.deep u.0.known))

  -- a cascade port that has a channel where what is held is laid was created
  pub shown_c : (opened : ℕ → Bool) (h : Held) → 0 < (tables_at (laid s opened h)).own c → is_shown s opened c ≡ true
  shown_c opened h some =
      elim (cases_Bool (is_shown s opened c)) [
        | inl e ↦ e
        | inr e ↦
            let none : (tables_at (laid s opened h)).own c ≡ 0 = own_at s opened h c at_c ∙ ap (λ x. cond x (channel_of s h c) 0) e in
            absurd (omega (arith, none, some))
      ]

  module _ (low : k < 64) (opened : ℕ → Bool) (b : Bridge) (h : Held) (out : IsLaidOut s opened b h) where
    -- and the way to it is laid
    way_laid : 0 < (tables_at (laid s opened h)).own c → IsLaid s (tables_at (laid s opened h)) k (λ x. x == c) ((tables_at (laid s opened h)).own c)
    way_laid some =
        subst (IsLaid s (tables_at (laid s opened h)) k (λ x. x == c)) (laid_channel s opened h c at_c some)
        (out.channels k c low top_cascade (or_right _ _ under) (shown_c opened h some))

    created_owned : is_shown s opened c ≡ true → 0 < (tables_at (laid s opened h)).own c
    created_owned shown = (out.channels k c low top_cascade (or_right _ _ under) shown).channels c (eq-eqb c c refl)

-- what a request that adds does to a port without a channel: it creates it
pub record Creating (x : ExtenderTables) (r : Request) (q : ℕ) : Type 0 where
  pub kind : Bool
  pub channel : ℕ
  pub request : r ≡ PortCreate q kind channel
  pub own : (done x r).own q ≡ channel
  pub cascade : (done x r).cascade q ≡ kind

pub creating : (x : ExtenderTables) (r : Request) (q : ℕ) → IsAdding r → x.own q ≡ 0 → 0 < (done x r).own q → Creating x r q
unfolding done
creating x Open q a none some = absurd (omega (arith, none, some))
creating x (PortCreate port kind channel) q a none some =
    elim (cases_eq q port) [
      | inl e ↦ record { kind = kind; channel = channel; request = ap (λ (z : ℕ). PortCreate z kind channel) (sym e); own = rw (eq-eqb q port e) refl; cascade = rw (eq-eqb q port e) refl }
      | inr e ↦ absurd (let z = rw (ne_eqb q port e) at some in omega (arith, none, z))
    ]
creating x (PortDelete port) q a none some = absurd a
creating x (Register ecid mask) q a none some = absurd (omega (arith, none, some))
creating x (Unregister ecid) q a none some = absurd a
creating x (RegisterMany rows) q a none some = absurd (omega (arith, none, some))
creating x (UnregisterMany ecids) q a none some = absurd a

completed : (r : Request) (q channel : ℕ) (kind : Bool) (more : List AskAt) → r ≡ PortCreate q kind channel → kind ≡ true → 0 < channel → Completes r more → NoneLays channel more
completed r q channel kind more e f some c =
    (subst (λ (b : Bool). Completes (PortCreate q b channel) more) f (subst (λ (z : Request). Completes z more) e c)) some

-- ---- a request that adds
module _ (s : Shape) (valid : IsTree s) (all : ℕ → ExtenderTables) (a : AskAt) (rest : List AskAt) (opened : ℕ → Bool) (b : Bridge) (h : Held) (out : IsLaidOut s opened b h)
    (runs : RunsAt all (a ∷ rest) (laid s opened h)) (adds : AllAdd (a ∷ rest)) (completes : Completes a.request rest) (channels : HasChannels s all) (ways : WaysAreLaid s all) where
  abbrev new : ℕ → ExtenderTables
  new = executes_at a.extender a.request all

  abbrev high : ℕ → ExtenderTables
  high = laid s opened h

  under_high : AreWithin new high
  under_high = runs_add rest new high runs.1 adds.1

  over_all : AreWithin all new
  over_all = request_adds all a runs.0 adds.0

  module _ (k c : ℕ) (low : k < 64) (under : is_cascade_under s k c ≡ true) (some : 0 < (tables_at new).own c) where
    same_high : (tables_at high).own c ≡ (tables_at new).own c
    same_high = (under_high (device c)).own (c % 64 + 1) some

    top_laid : IsLaid s (tables_at high) k (λ x. x == c) ((tables_at new).own c)
    top_laid = subst (IsLaid s (tables_at high) k (λ x. x == c)) same_high (way_laid s valid k c under low opened b h out (subst (λ (n : ℕ). 0 < n) (sym same_high) some))

    -- the rows of a port that is just created are all there: nothing more is laid for its channel
    new_rows : (tables_at all).own c ≡ 0 → (p : ℕ) → is_port_under s k p ≡ true → (tables_at new).pair ((tables_at new).own c) p ≡ covers s (λ x. x == c) p
    new_rows none p u =
        elim (cases_eq (device c) a.extender) [
          | inr far ↦ absurd (let z : (tables_at new).own c ≡ (tables_at all).own c = ap (λ (x : ExtenderTables). x.own (c % 64 + 1)) (executed_far all a runs.0 c far) in omega (arith, z, none, some))
          | inl at ↦
              let same = executed_here all a runs.0 c at in
              let is = creating (all (device c)) a.request (c % 64 + 1) adds.0 none (subst (λ (x : ExtenderTables). 0 < x.own (c % 64 + 1)) same some) in
              let own : (tables_at new).own c ≡ is.channel = ap (λ (x : ExtenderTables). x.own (c % 64 + 1)) same ∙ is.own in
              let kind : is.kind ≡ true =
              sym (ap (λ (x : ExtenderTables). x.cascade (c % 64 + 1)) same ∙ is.cascade)
              ∙ (sym ((under_high (device c)).kinds (c % 64 + 1) some) ∙ (top_laid.kinds c (eq-eqb c c refl) ∙ (from_cascade s k c under).1)) in
              let none_more : NoneLays ((tables_at new).own c) rest =
              subst (λ (n : ℕ). NoneLays n rest) (sym own) (completed a.request (c % 64 + 1) is.channel is.kind rest is.request kind (subst (λ (n : ℕ). 0 < n) own some) completes) in
              sym (unlaid_runs rest new high ((tables_at new).own c) p runs.1 adds.1 none_more) ∙ top_laid.rows p u
        ]

    old_rows : 0 < (tables_at all).own c → (p : ℕ) → is_port_under s k p ≡ true → (v : Bool) → covers s (λ x. x == c) p ≡ v → (tables_at new).pair ((tables_at new).own c) p ≡ covers s (λ x. x == c) p
    old_rows was p u true e =
        let same : (tables_at new).own c ≡ (tables_at all).own c = (over_all (device c)).own (c % 64 + 1) was in
        let there : (tables_at all).pair ((tables_at all).own c) p ≡ true = (ways k c low under was).rows p u ∙ e in
        ap (λ (n : ℕ). (tables_at new).pair n p) same ∙ ((over_all (device p)).pairs ((tables_at all).own c) (p % 64 + 1) there ∙ sym e)
    old_rows was p u false e =
        false_from_ne_true ((tables_at new).pair ((tables_at new).own c) p)
        (λ f. false≢true (sym (top_laid.rows p u ∙ e) ∙ (under_high (device p)).pairs ((tables_at new).own c) (p % 64 + 1) f)) ∙ sym e

    rows_are : (p : ℕ) → is_port_under s k p ≡ true → (tables_at new).pair ((tables_at new).own c) p ≡ covers s (λ x. x == c) p
    rows_are p u =
        elim (cases_eq ((tables_at all).own c) 0) [
          | inl none ↦ new_rows none p u
          | inr was ↦ old_rows (positive ((tables_at all).own c) was) p u (covers s (λ x. x == c) p) refl
        ]

    pub way_added : IsLaid s (tables_at (executes_at a.extender a.request all)) k (λ x. x == c) ((tables_at (executes_at a.extender a.request all)).own c)
    way_added =
        record {
          rows = rows_are;
          ways = λ p u covered other.
              let w : SendsOn (tables_at high) ((tables_at new).own c) p = top_laid.ways p u covered other in
              let d = from_cascade s k p u in
              let port : is_port_under s k p ≡ true = under_test s k p d.0 in
              let has : 0 < (tables_at new).own p = channels_added all a runs.0 s adds.0 channels ((tables_at new).own c) p (record { deep = d.0.deep; known = d.0.known }) (rows_are p port ∙ covered) in
              record {
                kind = sym ((under_high (device p)).kinds (p % 64 + 1) has) ∙ w.kind;
                channel = has;
                other = subst (λ (n : ℕ). n ≢ (tables_at new).own c) ((under_high (device p)).own (p % 64 + 1) has) w.other;
              };
          kinds = λ q e.
              let same : c ≡ q = sym (eqb-true q c e) in
              subst (λ (x : ℕ). (tables_at new).cascade x ≡ is_cascade s x) same (sym ((under_high (device c)).kinds (c % 64 + 1) some) ∙ top_laid.kinds c (eq-eqb c c refl));
          channels = λ q e. subst (λ (x : ℕ). 0 < (tables_at new).own x) (sym (eqb-true q c e)) some;
        }

-- ---- a request that clears
module _ (s : Shape) (valid : IsTree s) (all : ℕ → ExtenderTables) (a : AskAt) (rest : List AskAt) (opened : ℕ → Bool) (b : Bridge) (h less : Held) (exact : IsExact s opened b less)
    (runs : RunsAt all (a ∷ rest) (laid s opened less)) (clears : AllClear (a ∷ rest)) (bound : AreWithin all (laid s opened h)) (ways : WaysAreLaid s all) where
  abbrev fewer : ℕ → ExtenderTables
  fewer = executes_at a.extender a.request all

  abbrev end : ℕ → ExtenderTables
  end = laid s opened less

  over_end : AreWithin end fewer
  over_end = runs_clear rest fewer end runs.1 clears.1

  under_all : AreWithin fewer all
  under_all = request_clears all a runs.0 clears.0

  module _ (k c : ℕ) (low : k < 64) (under : is_cascade_under s k c ≡ true) (some : 0 < (tables_at fewer).own c) where
    out : IsLaidOut s opened b less
    out = rest_is_laid_out s b less opened valid exact.needed exact.order

    in_all : (tables_at all).own c ≡ (tables_at fewer).own c
    in_all = (under_all (device c)).own (c % 64 + 1) some

    was : 0 < (tables_at all).own c
    was = subst (λ (n : ℕ). 0 < n) (sym in_all) some

    shown : is_shown s opened c ≡ true
    shown = shown_c s valid k c under opened h (subst (λ (n : ℕ). 0 < n) (sym ((bound (device c)).own (c % 64 + 1) was)) was)

    end_owned : 0 < (tables_at end).own c
    end_owned = created_owned s valid k c under low opened b less out shown

    in_end : (tables_at fewer).own c ≡ (tables_at end).own c
    in_end = (over_end (device c)).own (c % 64 + 1) end_owned

    end_laid : IsLaid s (tables_at end) k (λ x. x == c) ((tables_at fewer).own c)
    end_laid = subst (IsLaid s (tables_at end) k (λ x. x == c)) (sym in_end) (way_laid s valid k c under low opened b less out end_owned)

    all_laid : IsLaid s (tables_at all) k (λ x. x == c) ((tables_at fewer).own c)
    all_laid = subst (IsLaid s (tables_at all) k (λ x. x == c)) in_all (ways k c low under was)

    rows_between : (p : ℕ) → is_port_under s k p ≡ true → (v : Bool) → covers s (λ x. x == c) p ≡ v → (tables_at fewer).pair ((tables_at fewer).own c) p ≡ covers s (λ x. x == c) p
    rows_between p u true e = (over_end (device p)).pairs ((tables_at fewer).own c) (p % 64 + 1) (end_laid.rows p u ∙ e) ∙ sym e
    rows_between p u false e =
        false_from_ne_true ((tables_at fewer).pair ((tables_at fewer).own c) p)
        (λ f. false≢true (sym (all_laid.rows p u ∙ e) ∙ (under_all (device p)).pairs ((tables_at fewer).own c) (p % 64 + 1) f)) ∙ sym e

    pub way_cleared : IsLaid s (tables_at (executes_at a.extender a.request all)) k (λ x. x == c) ((tables_at (executes_at a.extender a.request all)).own c)
    way_cleared =
        record {
          rows = λ p u. rows_between p u (covers s (λ x. x == c) p) refl;
          ways = λ p u covered other.
              let w : SendsOn (tables_at end) ((tables_at fewer).own c) p = end_laid.ways p u covered other in
              let same : (tables_at fewer).own p ≡ (tables_at end).own p = (over_end (device p)).own (p % 64 + 1) w.channel in
              record {
                kind = (over_end (device p)).kinds (p % 64 + 1) w.channel ∙ w.kind;
                channel = subst (λ (n : ℕ). 0 < n) (sym same) w.channel;
                other = subst (λ (n : ℕ). n ≢ (tables_at fewer).own c) (sym same) w.other;
              };
          kinds = λ q e. (over_end (device q)).kinds (q % 64 + 1) (end_laid.channels q e) ∙ end_laid.kinds q e;
          channels = λ q e. subst (λ (x : ℕ). 0 < (tables_at fewer).own x) (sym (eqb-true q c e)) some;
        }

  -- the channel of a cascade port isn't taken
  pub channel_cleared : (k c : ℕ) → k < 64 → is_cascade_under s k c ≡ true → 0 < (tables_at all).own c → (tables_at (executes_at a.extender a.request all)).own c ≡ (tables_at all).own c
  channel_cleared k c low under some =
      let shown = shown_c s valid k c under opened h (subst (λ (n : ℕ). 0 < n) (sym ((bound (device c)).own (c % 64 + 1) some)) some) in
      let at_end = created_owned s valid k c under low opened b less (rest_is_laid_out s b less opened valid exact.needed exact.order) shown in
      let has : 0 < (tables_at fewer).own c = subst (λ (n : ℕ). 0 < n) (sym ((over_end (device c)).own (c % 64 + 1) at_end)) at_end in
      sym ((under_all (device c)).own (c % 64 + 1) has)

-- What executing a request does to the rows of a word.
use Rattle.std.proofs.Common.{◌≡◌, ◌≢◌, ℕ, ◌+◌, ◌%◌, ◌<◌, ◌||◌, not, cond, Bool, true, false, List, [], ◌∷◌, ◌++◌, refl, sym, ◌∙◌, ap, subst, arith, inl, inr, eq-eqb, nat_lt}
use Rattle.std.proofs.lemmas.Bool.{cases_eq, cases_Bool, ne_eqb, false≢true}
use Rattle.exb_model.specs.Tree.{Shape, device}
use Rattle.exb_model.specs.TreeSets.{covers}
use Rattle.exb_csp.specs.declared.group_rows.GroupRow.{GroupRow}
use Rattle.exb_csp.specs.declared.message.Request.{Request}
use Rattle.exb_csp.specs.declared.message.Request.TheVariants.{Open, PortCreate, PortDelete, Register, Unregister, RegisterMany, UnregisterMany}
use Rattle.exb_csp.specs.Execution.{ExtenderTables, in_rows, is_port, is_channel, has_pair, create_code, rows_code, row_code, code_of, done, executed}
use Rattle.exb_csp.proofs.ExecutionLaws.{some_port-true, free_from, head_done}
use Rattle.exb_csp.specs.AllTables.{tables_at, executes_at}
use Rattle.exb_csp.specs.declared.ask_at.AskAt.{AskAt}
use Rattle.exb_control_spec.specs.Runs.MonotoneRequests.{IsAdding, IsClearing, AreWithin}
use Rattle.exb_control_spec.proofs.Runs.MonotoneRequests.{request_adds, request_clears}
use Rattle.exb_flight.specs.Items.{Word}
use Rattle.exb_flight.specs.Tree.{Over, IsDeep, HasRow}
use Rattle.exb_flight.specs.DownwardFrames.{IsWord}
use Rattle.exb_flight.specs.ClearedNumbers.{IsCleared}
use Rattle.exb_flight.proofs.CarriedFrames.{Stays}

-- ---- the pairs of a number that has one
created_alone : (x : ExtenderTables) (port channel : ℕ) → create_code x port channel ≡ 0 → has_pair x channel ≡ false
created_alone x port channel z = by_tests (is_port x port) (is_channel channel) (nat_lt 0 (x.own port)) (has_pair x channel) z
  where
    by_tests : (a b c d : Bool) → ◌≡◌ {A = ℕ} (cond (not a) 1 (cond (not b) 2 (cond (c || d) 3 0))) 0 → d ≡ false
    by_tests a b c false e = refl
    by_tests false b c true e = absurd (omega (arith, e))
    by_tests true false c true e = absurd (omega (arith, e))
    by_tests true true true true e = absurd (omega (arith, e))
    by_tests true true false true e = absurd (omega (arith, e))

-- a number that has a pair is another one than a number without
other_number : (x : ExtenderTables) (e number : ℕ) → has_pair x e ≡ true → has_pair x number ≡ false → number ≢ e
other_number x e number some none same = false≢true (sym none ∙ (ap (has_pair x) same ∙ some))

no_rows : (x : ExtenderTables) (e q : ℕ) (seen rows : List GroupRow) → has_pair x e ≡ true → rows_code x seen rows ≡ 0 → in_rows rows e q ≡ false
unfolding rows_code
no_rows x e q seen [] some z = refl
no_rows x e q seen (row ∷ rows) some z =
    let k = head_done (row_code x seen row.ecid row.mask) (rows_code x (seen ++ row ∷ []) rows) z in
    let other : row.ecid ≢ e = other_number x e row.ecid some (free_from x seen row.ecid row.mask k.0).alone in
    rw (ne_eqb row.ecid e other) (no_rows x e q (seen ++ row ∷ []) rows some k.1)

-- a request that adds leaves the pairs of a number that has one
pairs_stay : (x : ExtenderTables) (r : Request) (e q : ℕ) → code_of x r ≡ 0 → IsAdding r → has_pair x e ≡ true → (done x r).pair e q ≡ x.pair e q
unfolding code_of done
pairs_stay x Open e q z a some = refl
pairs_stay x (PortCreate port cascade channel) e q z a some =
    let other : e ≢ channel = λ f. other_number x e channel some (created_alone x port channel z) (sym f) in
    rw (ne_eqb e channel other) (or_false (x.pair e q))
  where
    or_false : (b : Bool) → (b || false) ≡ b
    or_false true = refl
    or_false false = refl
pairs_stay x (PortDelete port) e q z a some = absurd a
pairs_stay x (Register ecid mask) e q z a some =
    let other : ecid ≢ e = other_number x e ecid some (free_from x [] ecid mask z).alone in
    rw (ne_eqb ecid e other) (or_false (x.pair e q))
  where
    or_false : (b : Bool) → (b || false) ≡ b
    or_false true = refl
    or_false false = refl
pairs_stay x (Unregister ecid) e q z a some = absurd a
pairs_stay x (RegisterMany rows) e q z a some = rw (no_rows x e q [] rows some z) (or_false (x.pair e q))
  where
    or_false : (b : Bool) → (b || false) ≡ b
    or_false true = refl
    or_false false = refl
pairs_stay x (UnregisterMany ecids) e q z a some = absurd a

-- ---- all extenders
module _ (all : ℕ → ExtenderTables) (a : AskAt) (good : code_of (all a.extender) a.request ≡ 0) where
  abbrev pub new : ℕ → ExtenderTables
  new = executes_at a.extender a.request all

  pub here : (p : ℕ) → device p ≡ a.extender → new (device p) ≡ done (all (device p)) a.request
  unfolding executed
  here p e = rw (eq-eqb (device p) a.extender e, e, good) refl

  pub elsewhere : (p : ℕ) → device p ≢ a.extender → new (device p) ≡ all (device p)
  elsewhere p e = rw (ne_eqb (device p) a.extender e) refl

  module _ (s : Shape) (n : ℕ) (f : Word) (w : IsWord s (tables_at all) n f) where
    -- ---- a request that adds
    row_some : (p : ℕ) → IsDeep s p → Over s n (device p) → HasRow s w.set (device p) → has_pair (all (device p)) w.tag.ecid ≡ true
    row_some p deep o r =
        let c : (tables_at all).pair w.tag.ecid r.port ≡ true = w.rows r.port r.deep (subst (Over s n) (sym r.here) o) (subst (HasRow s w.set) (sym r.here) r) ∙ r.covered in
        let at : (all (device p)).pair w.tag.ecid (r.port % 64 + 1) ≡ true = subst (λ (d : ℕ). (all d).pair w.tag.ecid (r.port % 64 + 1) ≡ true) r.here c in
        some_port-true ((all (device p)).pair w.tag.ecid) (r.port % 64 + 1) (omega arith) (omega arith) at

    pub adds_stay : IsAdding a.request → Stays s (tables_at all) (tables_at (executes_at a.extender a.request all)) n f w
    adds_stay adding =
        let within : AreWithin all (executes_at a.extender a.request all) = request_adds all a good adding in
        record {
          pairs = λ p deep o r.
              elim (cases_eq (device p) a.extender) [
                | inr e ↦ ap (λ (x : ExtenderTables). x.pair w.tag.ecid (p % 64 + 1)) (elsewhere p e)
                | inl e ↦ ap (λ (x : ExtenderTables). x.pair w.tag.ecid (p % 64 + 1)) (here p e)
                    ∙ pairs_stay (all (device p)) a.request w.tag.ecid (p % 64 + 1) (subst (λ (d : ℕ). code_of (all d) a.request ≡ 0) (sym e) good) adding (row_some p deep o r)
              ];
          owns = λ p deep o c. (within (device p)).own (p % 64 + 1) (w.owns p deep o c);
          kinds = λ p deep o c. (within (device p)).kinds (p % 64 + 1) (w.owns p deep o c);
        }

    -- ---- a request that clears
    -- no pair of the word's number goes below it, and pairs of it are of ports with channels afterwards
    pub clears_stay : IsClearing a.request → ((x : IsCleared s all a w.tag.ecid) → Over s n a.extender → ⊥) →
        ((p : ℕ) → IsDeep s p → 0 < (tables_at all).own p → (tables_at (executes_at a.extender a.request all)).pair w.tag.ecid p ≡ true → 0 < (tables_at (executes_at a.extender a.request all)).own p) →
        Stays s (tables_at all) (tables_at (executes_at a.extender a.request all)) n f w
    clears_stay clearing none owned =
        record {
          pairs = λ p deep o r. pairs p deep o;
          owns = λ p deep o c. sym ((within (device p)).own (p % 64 + 1) (has p deep o c));
          kinds = λ p deep o c. sym ((within (device p)).kinds (p % 64 + 1) (has p deep o c));
        }
      where
        within : AreWithin (executes_at a.extender a.request all) all
        within = request_clears all a good clearing

        pairs : (p : ℕ) → IsDeep s p → Over s n (device p) → (tables_at (executes_at a.extender a.request all)).pair w.tag.ecid p ≡ (tables_at all).pair w.tag.ecid p
        pairs p deep o =
            elim (cases_Bool ((tables_at (executes_at a.extender a.request all)).pair w.tag.ecid p)) [
              | inl e ↦ e ∙ sym ((within (device p)).pairs w.tag.ecid (p % 64 + 1) e)
              | inr e ↦ elim (cases_Bool ((tables_at all).pair w.tag.ecid p)) [
                | inr d ↦ e ∙ sym d
                | inl d ↦ elim (cases_eq (device p) a.extender) [
                  | inr far ↦ absurd (false≢true (sym e ∙ (ap (λ (x : ExtenderTables). x.pair w.tag.ecid (p % 64 + 1)) (elsewhere p far) ∙ d)))
                  | inl at ↦ absurd (none (record { port = p; deep = deep; here = at; now = d; gone = e }) (subst (Over s n) at o))
                ]
              ]
            ]

        has : (p : ℕ) → IsDeep s p → Over s n (device p) → covers s w.set p ≡ true → 0 < (tables_at (executes_at a.extender a.request all)).own p
        has p deep o c =
            let r : HasRow s w.set (device p) = record { port = p; deep = deep; here = refl; covered = c } in
            owned p deep (w.owns p deep o c) (pairs p deep o ∙ (w.rows p deep o r ∙ c))

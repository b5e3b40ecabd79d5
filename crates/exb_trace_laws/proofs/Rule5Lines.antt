-- Rule 5 over a trace to which the lines of a step are put.
use Rattle.std.proofs.Common.{◌≡◌, ◌⊎◌, ℕ, zero, suc, ◌+◌, ◌≤◌, ◌||◌, false, List, [], ◌∷◌, ◌++◌, filter, length, slice_get, append-nil, Some, None, refl, ap, sym, ◌∙◌, subst, arith, inl, inr}
use Rattle.std.proofs.lemmas.Bool.{cases_Bool, false≢true}
use Rattle.std.proofs.lemmas.List.Concat.{flat_map-append}
use Rattle.exb_model.specs.Lists.{numbered}
use Rattle.exb_model.specs.Tree.{Shape}
use Rattle.exb_world_spec.specs.Runs.Sessions.{Each}
use Rattle.exb_model.specs.Traces.{TraceLine, In, Out, Beat, Journal}
use Rattle.exb_trace_spec.specs.Traversals.{begins, until_next, EachStep}
use Rattle.exb_trace_spec.specs.Rule1Places.{journal_at, journal_in}
use Rattle.exb_trace_spec.specs.Rule5Relays.{is_relay, is_ignore, entries, relays, sent_at, sent, IsEntered, Enters, SendsByRelay, IsStep, AreSteps}
use Rattle.exb_trace_spec.proofs.Prefixes.{filter_append}
use Rattle.exb_trace_laws.proofs.Rule3Lines.{IsAfter}

-- ---- lines of the journal and data frames
journal_append : (xs ys : List TraceLine) → journal_in (xs ++ ys) ≡ journal_in xs ++ journal_in ys
journal_append xs ys = flat_map-append journal_at xs ys

entries_append : (xs ys : List TraceLine) → entries (xs ++ ys) ≡ entries xs ++ entries ys
entries_append xs ys = ap (filter (λ text. is_relay text || is_ignore text)) (journal_append xs ys) ∙ filter_append (λ text. is_relay text || is_ignore text) (journal_in xs) (journal_in ys)

relays_append : (xs ys : List TraceLine) → relays (xs ++ ys) ≡ relays xs ++ relays ys
relays_append xs ys = ap (filter is_relay) (journal_append xs ys) ∙ filter_append is_relay (journal_in xs) (journal_in ys)

sent_append : (t : Shape) (k : ℕ) (xs ys : List TraceLine) → sent t k (xs ++ ys) ≡ sent t k xs ++ sent t k ys
sent_append t k xs ys = flat_map-append (sent_at t k) xs ys

-- lines that say nothing of records, and in which the bridge sends no data
pub record IsSilent (t : Shape) (ls : List TraceLine) : Type 0 where
  pub none : entries ls ≡ []
  pub relayed : relays ls ≡ []
  pub unsent : (k : ℕ) → sent t k ls ≡ []

-- ---- until the next step
pub until_append : (xs ys : List TraceLine) → (until_next (xs ++ ys) ≡ until_next xs) ⊎ (until_next (xs ++ ys) ≡ until_next xs ++ until_next ys)
until_append [] ys = inr refl
until_append (x ∷ xs) ys =
    elim (cases_Bool (begins x)) [
      | inl e ↦ inl (rw e refl)
      | inr e ↦ elim (until_append xs ys) [
        | inl k ↦ inl (rw e (ap (λ zs. x ∷ zs) k))
        | inr k ↦ inr (rw e (ap (λ zs. x ∷ zs) k))
      ]
    ]

after_not_begins : (l : TraceLine) → IsAfter l → begins l ≡ false
after_not_begins (In n k f) a = absurd a
after_not_begins (Out n k f) a = refl
after_not_begins Beat a = absurd a
after_not_begins (Journal x) a = refl

pub until_after : (ls : List TraceLine) → Each IsAfter ls → until_next ls ≡ ls
until_after [] all = refl
until_after (l ∷ ls) all = rw (after_not_begins l all.0) (ap (λ zs. l ∷ zs) (until_after ls all.1))

pub after_no_step : (P : TraceLine → List TraceLine → Type 0) (ls : List TraceLine) → Each IsAfter ls → EachStep P ls
after_no_step P [] all = tt
after_no_step P (l ∷ ls) all = (λ e. absurd (false≢true (sym (after_not_begins l all.0) ∙ e)), after_no_step P ls all.1)

-- ---- steps
module _ (t : Shape) (captures : ℕ → List (List ℕ)) where
  -- silent lines may follow a step
  enters_more : (l : TraceLine) (xs ys : List (List ℕ)) → xs ≡ ys → Enters t captures l xs → Enters t captures l ys
  enters_more l xs ys e k = subst (λ zs. Enters t captures l zs) e k

  step_more : (l : TraceLine) (xs ys : List TraceLine) → IsSilent t ys → IsStep t captures l xs → IsStep t captures l (xs ++ ys)
  step_more l xs ys silent k =
      let said : entries xs ≡ entries (xs ++ ys) = sym (entries_append xs ys ∙ ap (λ zs. entries xs ++ zs) silent.none ∙ append-nil (entries xs)) in
      let relay : relays (xs ++ ys) ≡ relays xs = relays_append xs ys ∙ ap (λ zs. relays xs ++ zs) silent.relayed ∙ append-nil (relays xs) in
      let all : (j : ℕ) → sent t j (xs ++ ys) ≡ sent t j xs = λ j. sent_append t j xs ys ∙ ap (λ zs. sent t j xs ++ zs) (silent.unsent j) ∙ append-nil (sent t j xs) in
      record {
        entered = λ e. enters_more l (entries xs) (entries (xs ++ ys)) said (k.entered e);
        relayed = λ e. relay ∙ k.relayed e;
        by_relay = λ none j. all j ∙ k.by_relay (sym relay ∙ none) j;
        few = λ j. subst (λ zs. length zs ≤ 2) (sym (all j)) (k.few j);
      }

  quiet_more : (xs ys : List TraceLine) → IsSilent t ys → relays xs ≡ [] → SendsByRelay t xs → (relays (xs ++ ys) ≡ []) × SendsByRelay t (xs ++ ys)
  quiet_more xs ys silent none by =
      let relay : relays (xs ++ ys) ≡ [] = relays_append xs ys ∙ ap (λ zs. zs ++ relays ys) none ∙ silent.relayed in
      (relay, λ r j. sent_append t j xs ys ∙ ap (λ zs. zs ++ sent t j ys) (by none j) ∙ silent.unsent j)

  each_more : (xs ys : List TraceLine) → IsSilent t (until_next ys) → EachStep (IsStep t captures) xs → EachStep (IsStep t captures) ys → EachStep (IsStep t captures) (xs ++ ys)
  each_more [] ys silent all more = more
  each_more (x ∷ xs) ys silent all more = (
    λ e. elim (until_append xs ys) [
      | inl k ↦ subst (λ zs. IsStep t captures x zs) (sym k) (all.0 e)
      | inr k ↦ subst (λ zs. IsStep t captures x zs) (sym k) (step_more x (until_next xs) (until_next ys) silent (all.0 e))
    ],
    each_more xs ys silent all.1 more,
  )

  pub steps_more : (xs ys : List TraceLine) → IsSilent t (until_next ys) → EachStep (IsStep t captures) ys → AreSteps t captures xs → AreSteps t captures (xs ++ ys)
  steps_more xs ys silent more k =
      let each = each_more xs ys silent k.each more in
      elim (until_append xs ys) [
        | inl e ↦ record {
          none_before = ap relays e ∙ k.none_before;
          quiet_before = subst (λ zs. SendsByRelay t zs) (sym e) k.quiet_before;
          each = each;
        }
        | inr e ↦ (
            let q = quiet_more (until_next xs) (until_next ys) silent k.none_before k.quiet_before in
            record {
              none_before = ap relays e ∙ q.0;
              quiet_before = subst (λ zs. SendsByRelay t zs) (sym e) q.1;
              each = each;
            }
            )
      ]

-- ---- more captures
-- what is numbered stays so
pub numbered_more : (xs ys : List (List ℕ)) (n : ℕ) (x : List ℕ) → numbered xs n ≡ Some x → numbered (xs ++ ys) n ≡ Some x
numbered_more xs ys zero x e = absurd (none_some e)
  where
    none_some : None ≡ Some x → ⊥
    none_some f = cc
numbered_more xs ys (suc n) x e = get_more xs n e
  where
    none_some : None ≡ Some x → ⊥
    none_some f = cc

    get_more : (zs : List (List ℕ)) (k : ℕ) → slice_get zs k ≡ Some x → slice_get (zs ++ ys) k ≡ Some x
    get_more [] k f = absurd (none_some f)
    get_more (z ∷ zs) zero f = f
    get_more (z ∷ zs) (suc k) f = get_more zs k f

-- the last one has the number of all
pub numbered_last : (xs : List (List ℕ)) (x : List ℕ) → numbered (xs ++ x ∷ []) (length xs + 1) ≡ Some x
numbered_last xs x = let e : length xs + 1 ≡ suc (length xs) = omega arith in rw e (at_end xs)
  where
    at_end : (zs : List (List ℕ)) → slice_get (zs ++ x ∷ []) (length zs) ≡ Some x
    at_end [] = refl
    at_end (z ∷ zs) = at_end zs

module _ (t : Shape) (old new : ℕ → List (List ℕ)) (more : (p n : ℕ) (f : List ℕ) → numbered (old p) n ≡ Some f → numbered (new p) n ≡ Some f) where
  entered_more : (k : ℕ) (f : List ℕ) (said : List (List ℕ)) → IsEntered t old k f said → IsEntered t new k f said
  entered_more k f said e =
      record {
        line = e.line;
        once = e.once;
        frame = e.frame;
        names = record { port = e.names.port; index = e.names.index; is = more e.names.port e.names.index e.frame e.names.is; text = e.names.text };
        here = e.here;
        holds = e.holds;
      }

  line_enters : (l : TraceLine) (said : List (List ℕ)) → Enters t old l said → Enters t new l said
  line_enters (In n k f) said e = entered_more k f said e
  line_enters (Out n k f) said e = tt
  line_enters Beat said e = tt
  line_enters (Journal x) said e = tt

  each_captured : (ls : List TraceLine) → EachStep (IsStep t old) ls → EachStep (IsStep t new) ls
  each_captured [] all = tt
  each_captured (l ∷ ls) all = (
    λ b. record {
      entered = λ a. line_enters l (entries (until_next ls)) ((all.0 b).entered a);
      relayed = (all.0 b).relayed;
      by_relay = (all.0 b).by_relay;
      few = (all.0 b).few;
    },
    each_captured ls all.1,
  )

  pub steps_captured : (ls : List TraceLine) → AreSteps t old ls → AreSteps t new ls
  steps_captured ls k = record { none_before = k.none_before; quiet_before = k.quiet_before; each = each_captured ls k.each }

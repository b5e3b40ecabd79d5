-- What requests add and take away.
use Rattle.std.proofs.Common.{◌≡◌, ℕ, ◌<◌, ◌==◌, ◌&&◌, ◌||◌, cond, not, Bool, true, false, List, [], ◌∷◌, refl, sym, ◌∙◌, subst, arith, inl, inr, eq-eqb}
use Rattle.std.proofs.lemmas.Bool.{cases_eq, ne_eqb, lt-ltb, and_parts, or_left}
use Rattle.exb_csp.specs.declared.message.Request.{Request}
use Rattle.exb_csp.specs.declared.message.Request.TheVariants.{Open, PortCreate, PortDelete, Register, Unregister, RegisterMany, UnregisterMany}
use Rattle.exb_csp.specs.Execution.{ExtenderTables, is_port, is_channel, has_pair, create_code, code_of, done, executed}
use Rattle.exb_csp.specs.AllTables.{executes_at, RunsAt}
use Rattle.exb_csp.specs.declared.ask_at.AskAt.{AskAt}
use Rattle.exb_control_spec.specs.Runs.MonotoneRequests.{IsWithin, AreWithin, IsAdding, IsClearing, AllAdd, AllClear}

within_itself : (x : ExtenderTables) → IsWithin x x
within_itself x = record { pairs = λ e q h. h; own = λ q h. refl; kinds = λ q h. refl }

pub are_within : (all : ℕ → ExtenderTables) → AreWithin all all
are_within all n = within_itself (all n)

pub within_on : (x y z : ℕ → ExtenderTables) → AreWithin x y → AreWithin y z → AreWithin x z
within_on x y z a b n =
    record {
      pairs = λ e q h. (b n).pairs e q ((a n).pairs e q h);
      own = λ q h. (b n).own q (subst (λ (k : ℕ). 0 < k) (sym ((a n).own q h)) h) ∙ (a n).own q h;
      kinds = λ q h. (b n).kinds q (subst (λ (k : ℕ). 0 < k) (sym ((a n).own q h)) h) ∙ (a n).kinds q h;
    }

-- ---- one request
-- a port is created where it has no channel
not_created : (t : ExtenderTables) (port channel : ℕ) → create_code t port channel ≡ 0 → 0 < t.own port → ⊥
not_created t port channel z some = by_tests (is_port t port) (is_channel channel) (has_pair t channel) (rw (lt-ltb 0 (t.own port) some) at z)
  where
    by_tests : (a b c : Bool) → ◌≡◌ {A = ℕ} (cond (not a) 1 (cond (not b) 2 (cond (true || c) 3 0))) 0 → ⊥
    by_tests false b c e = absurd (omega (arith, e))
    by_tests true false c e = absurd (omega (arith, e))
    by_tests true true c e = absurd (omega (arith, e))

adds : (t : ExtenderTables) (r : Request) → code_of t r ≡ 0 → IsAdding r → IsWithin t (done t r)
unfolding code_of done
adds t Open z a = within_itself t
adds t (PortCreate port cascade channel) z a =
    record {
      pairs = λ e q h. or_left (t.pair e q) (e == channel && q == port) h;
      own = λ q h. elim (cases_eq q port) [
        | inl f ↦ absurd (not_created t port channel z (subst (λ (k : ℕ). 0 < t.own k) f h))
        | inr f ↦ rw (ne_eqb q port f) refl
      ];
      kinds = λ q h. elim (cases_eq q port) [
        | inl f ↦ absurd (not_created t port channel z (subst (λ (k : ℕ). 0 < t.own k) f h))
        | inr f ↦ rw (ne_eqb q port f) refl
      ];
    }
adds t (PortDelete port) z a = absurd a
adds t (Register ecid mask) z a = record { pairs = λ e q h. or_left (t.pair e q) _ h; own = λ q h. refl; kinds = λ q h. refl }
adds t (Unregister ecid) z a = absurd a
adds t (RegisterMany rows) z a = record { pairs = λ e q h. or_left (t.pair e q) _ h; own = λ q h. refl; kinds = λ q h. refl }
adds t (UnregisterMany ecids) z a = absurd a

clears : (t : ExtenderTables) (r : Request) → IsClearing r → IsWithin (done t r) t
unfolding done
clears t Open a = absurd a
clears t (PortCreate port cascade channel) a = absurd a
clears t (PortDelete port) a =
    record {
      pairs = λ e q h. (and_parts (t.pair e q) _ h).0;
      own = λ q h. elim (cases_eq q port) [
        | inl f ↦ absurd (let k : 0 < 0 = rw (eq-eqb q port f) at h in omega (arith, k))
        | inr f ↦ rw (ne_eqb q port f) refl
      ];
      kinds = λ q h. refl;
    }
clears t (Register ecid mask) a = absurd a
clears t (Unregister ecid) a = record { pairs = λ e q h. (and_parts (t.pair e q) _ h).0; own = λ q h. refl; kinds = λ q h. refl }
clears t (RegisterMany rows) a = absurd a
clears t (UnregisterMany ecids) a = record { pairs = λ e q h. (and_parts (t.pair e q) _ h).0; own = λ q h. refl; kinds = λ q h. refl }

pub request_adds : (all : ℕ → ExtenderTables) (a : AskAt) → code_of (all a.extender) a.request ≡ 0 → IsAdding a.request → AreWithin all (executes_at a.extender a.request all)
unfolding executed
request_adds all a z h m =
    elim (cases_eq m a.extender) [
      | inl e ↦ subst (λ (k : ℕ). IsWithin (all k) (executes_at a.extender a.request all k)) (sym e) (rw (eq-eqb a.extender a.extender refl, z) (adds (all a.extender) a.request z h))
      | inr e ↦ rw (ne_eqb m a.extender e) (within_itself (all m))
    ]

pub request_clears : (all : ℕ → ExtenderTables) (a : AskAt) → code_of (all a.extender) a.request ≡ 0 → IsClearing a.request → AreWithin (executes_at a.extender a.request all) all
unfolding executed
request_clears all a z h m =
    elim (cases_eq m a.extender) [
      | inl e ↦ subst (λ (k : ℕ). IsWithin (executes_at a.extender a.request all k) (all k)) (sym e) (rw (eq-eqb a.extender a.extender refl, z) (clears (all a.extender) a.request h))
      | inr e ↦ rw (ne_eqb m a.extender e) (within_itself (all m))
    ]

-- ---- requests in order
pub runs_add : (xs : List AskAt) (all end : ℕ → ExtenderTables) → RunsAt all xs end → AllAdd xs → AreWithin all end
runs_add [] all end e a = subst (AreWithin all) e (are_within all)
runs_add (x ∷ xs) all end r a = within_on all (executes_at x.extender x.request all) end (request_adds all x r.0 a.0) (runs_add xs (executes_at x.extender x.request all) end r.1 a.1)

pub runs_clear : (xs : List AskAt) (all end : ℕ → ExtenderTables) → RunsAt all xs end → AllClear xs → AreWithin end all
runs_clear [] all end e a = subst (λ (x : ℕ → ExtenderTables). AreWithin x all) e (are_within all)
runs_clear (x ∷ xs) all end r a = within_on end (executes_at x.extender x.request all) all (runs_clear xs (executes_at x.extender x.request all) end r.1 a.1) (request_clears all x r.0 a.0)

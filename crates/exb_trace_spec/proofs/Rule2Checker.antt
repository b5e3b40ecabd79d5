-- Rule 2 is decided by watches.
use Rattle.std.proofs.Common.{◌≡◌, ℕ, ◌==◌, cond, Bool, true, false, List, [], ◌∷◌, Some, None, refl, ap, sym, ◌∙◌, subst}
use Rattle.std.specs.Bool.{Decides}
use Rattle.std.specs.Str.{bytes_eq}
use Rattle.std.proofs.lemmas.Bool.{false≢true}
use Rattle.std.proofs.lemmas.Bool.Decides.{Decides-eqb, Decides-like, Decides-and}
use Rattle.std.proofs.lemmas.Slice.Eq.{bytes_eq-Decides}
use Rattle.exb_extender.specs.Forwarding.{Sent}
use Rattle.exb_model.specs.Traces.{TraceLine, In, Out, Beat, Journal}
use Rattle.exb_trace_spec.specs.CheckerLaws.{Rule2IsDecided}
use Rattle.exb_trace_spec.specs.TraceChecker.{through, owes_none, is_first, may_stand, watch_line, is_done, start_2, step_2}
use Rattle.exb_trace_spec.specs.Rule2Extenders.{Watch, side_number, IsFirst, MayStand, watched, watched_all, MayFollow, from_power_on, FollowsMachine}
use Rattle.exb_trace_spec.proofs.NumberedMachines.{at_each, if_equal, extenders_decided}

owes : (ss : List Sent) → Decides (owes_none ss) (ss ≡ [])
owes [] = (λ h. refl, λ h. refl)
owes (s ∷ ss) = (λ h. absurd (false≢true h), λ (h : s ∷ ss ≡ []). absurd (cc))

first : (k : ℕ) (f : List ℕ) (ss : List Sent) → Decides (is_first k f ss) (IsFirst k f ss)
first k f [] = (λ h. absurd (false≢true h), λ h. absurd h)
first k f (s ∷ ss) = Decides-and (side_number s.side == k) (bytes_eq s.bytes f) (Decides-eqb (side_number s.side) k) (bytes_eq-Decides s.bytes f)

stands : (n : ℕ) (x : Watch) (l : TraceLine) → Decides (may_stand n x l) (MayStand n x l)
stands n x (In m k f) = if_equal m n (owes_none x.owed) (x.owed ≡ []) (owes x.owed)
stands n x (Out m k f) = if_equal m n (is_first k f x.owed) (IsFirst k f x.owed) (first k f x.owed)
stands n x Beat = owes x.owed
stands n x (Journal text) = (λ h. tt, λ h. refl)

module _ (n : ℕ) where
  stuck : (lines : List TraceLine) → through (watch_line n) None lines ≡ None
  stuck [] = refl
  stuck (l ∷ ls) = stuck ls

  abbrev Follows : Watch → List TraceLine → Type 0
  Follows x lines = MayFollow n x lines × ((watched_all n x lines).owed ≡ [])

  followed : (x : Watch) (lines : List TraceLine) → Decides (is_done (through (watch_line n) (Some x) lines)) (Follows x lines)
  unfolding watched_all MayFollow
  followed x [] = Decides-like (owes_none x.owed) (λ e. (tt, e)) (λ k. k.1) (owes x.owed)
  followed x (l ∷ ls) = at_line (followed (watched n x l) ls) (may_stand n x l) refl
    where
      at_line : Decides (is_done (through (watch_line n) (Some (watched n x l)) ls)) (Follows (watched n x l) ls) → (b : Bool) → may_stand n x l ≡ b → Decides (is_done (through (watch_line n) (cond (may_stand n x l) (Some (watched n x l)) None) ls)) (Follows x (l ∷ ls))
      at_line more true e =
          let d : Decides (is_done (through (watch_line n) (Some (watched n x l)) ls)) (Follows (watched n x l) ls) = more in
          let is : is_done (through (watch_line n) (cond (may_stand n x l) (Some (watched n x l)) None) ls) ≡ is_done (through (watch_line n) (Some (watched n x l)) ls) = ap (λ b. is_done (through (watch_line n) (cond b (Some (watched n x l)) None) ls)) e in
          (λ h. (let k = d.0 (sym is ∙ h) in (((stands n x l).0 e, k.0), k.1)), λ k. is ∙ d.1 (k.0.1, k.1))
      at_line more false e =
          let is : is_done (through (watch_line n) (cond (may_stand n x l) (Some (watched n x l)) None) ls) ≡ false = ap (λ b. is_done (through (watch_line n) (cond b (Some (watched n x l)) None) ls)) e ∙ ap is_done (stuck ls) in
          (λ h. absurd (false≢true (sym is ∙ h)), λ k. absurd (false≢true (sym e ∙ (stands n x l).1 k.0.0)))

pub rule_2_is_decided : Rule2IsDecided
rule_2_is_decided t lines sized =
    extenders_decided t (λ n. is_done (through step_2 (start_2 t) lines n)) (λ n. FollowsMachine t n lines) sized
    (λ n. subst (λ o. Decides (is_done o) (FollowsMachine t n lines)) (sym (at_each watch_line (start_2 t) lines n))
    (Decides-like (is_done (through (watch_line n) (start_2 t n) lines)) (λ k. record { each = k.0; all_sent = k.1 }) (λ k. (k.each, k.all_sent)) (followed n (from_power_on t n) lines)))

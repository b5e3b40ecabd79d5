-- What can be learned, and what a refused command leaves.
use Rattle.std.proofs.Common.{◌≡◌, ℕ, ◌+◌, ◌-◌, Bool, true, false, not, cond, ◌&&◌, ◌==◌, List, [], ◌∷◌, ◌++◌, refl, sym, ap, ◌∙◌, add-zero, arith}
use Rattle.std.specs.Prelude.{Option, Some, None, bytes_eq}
use Rattle.std.proofs.lemmas.Slice.Eq.{bytes_eq-Decides}
use Rattle.std.proofs.lemmas.Bool.{le-ltb}
use Rattle.std.proofs.lemmas.List.{append-nil}
use Rattle.exb_model.specs.declared.event.Event.{Event}
use Rattle.exb_model.specs.declared.event.Event.TheVariants as event
use Rattle.exb_model.specs.declared.event.Cause.{Cause}
use Rattle.exb_model.specs.Frames.{source, is_group}
use Rattle.exb_model.specs.Configuration.{Bridge}
use Rattle.exb_model.specs.History.{Basis, History, ◌then◌, changed, bridge_after, now_after, seconds_of}
use Rattle.exb_model.specs.Learning.{Look, passes, teaches_in, live_port, remembered, learned}
use Rattle.exb_model.specs.FlatBridge.{Sent, flat, sent_by}
use Rattle.exb_model.proofs.LearningSteps.{remembered-none, remembered-relay, remembered-other, kept}
use Rattle.exb_model_laws.specs.Laws.{NoGroupIsLearned, GroupSourceTeachesNothing, AgeingZeroLearnsNothing, RefusedChangesNothing}
use Rattle.exb_model_laws.proofs.HistoryLemmas.{bridge_after-more, now_after-more, flat-more}
use Rattle.exb_model_laws.proofs.LearningLemmas.{remembered-more, remembered-follows}

learned-is : (i : Basis) (h : History) (v : ℕ) (m : List ℕ) → learned i h v m ≡ live_port (now_after h) i.ageing (remembered i h v m)
unfolding learned
learned-is i h v m = refl

-- ---- ageing 0
live_port-zero : (now : ℕ) (o : Option (ℕ × ℕ)) → live_port now 0 o ≡ None
live_port-zero now None = refl
live_port-zero now (Some (p, at)) = rw (le-ltb (now - at) 0 (omega arith)) refl

pub ageing_zero_learns_nothing : AgeingZeroLearnsNothing
ageing_zero_learns_nothing i h v m none =
    learned-is i h v m ∙ ap (λ (a : ℕ). live_port (now_after h) a (remembered i h v m)) none ∙ live_port-zero (now_after h) (remembered i h v m)

-- ---- groups
no_group_in : (o : Option ℕ) (f : List ℕ) (v : ℕ) (m : List ℕ) → is_group (source f) ≡ true → teaches_in o f v m ≡ false
no_group_in None f v m group = refl
no_group_in (Some w) f v m group = rw group (both (w == v) (bytes_eq (source f) m))
  where
    both : (a b : Bool) → (a && b && false) ≡ false
    both true true = refl
    both true false = refl
    both false b = refl

group_in : (o : Option ℕ) (f : List ℕ) (v : ℕ) (m : List ℕ) → is_group m ≡ true → teaches_in o f v m ≡ false
group_in o f v m group = by_source (bytes_eq (source f) m) refl o
  where
    by_source : (b : Bool) → bytes_eq (source f) m ≡ b → (o : Option ℕ) → teaches_in o f v m ≡ false
    by_source b is None = refl
    by_source true is (Some w) = no_group_in (Some w) f v m (ap (λ (x : List ℕ). is_group x) ((bytes_eq-Decides (source f) m).0 is) ∙ group)
    by_source false is (Some w) = rw is (other (w == v))
      where
        other : (a : Bool) → (a && false && not (is_group (source f))) ≡ false
        other true = refl
        other false = refl

pub group_source_teaches_nothing : GroupSourceTeachesNothing
group_source_teaches_nothing i h p n t f v m group =
    learned-is i (event.Relay p n t f ∷ h) v m
    ∙ ap (λ (o : Option (ℕ × ℕ)). live_port (now_after (event.Relay p n t f ∷ h)) i.ageing o)
    (remembered-relay i h p n t f v m ∙ ap (λ b. cond b (Some (p, now_after h)) (remembered i h v m)) (no_group_in (passes (bridge_after i h) p f) f v m group))
    ∙ ap (λ (now : ℕ). live_port now i.ageing (remembered i h v m)) (now_after-more (event.Relay p n t f) h ∙ add-zero (now_after h))
    ∙ sym (learned-is i h v m)

group_unseen : (i : Basis) (h : History) (v : ℕ) (m : List ℕ) → is_group m ≡ true → remembered i h v m ≡ None
group_unseen i [] v m group = remembered-none i v m
group_unseen i (event.Relay p n t f ∷ h) v m group =
    remembered-relay i h p n t f v m
    ∙ ap (λ b. cond b (Some (p, now_after h)) (remembered i h v m)) (group_in (passes (bridge_after i h) p f) f v m group) ∙ group_unseen i h v m group
group_unseen i (event.Commit n ∷ h) v m group = remembered-other i h (event.Commit n) v m tt ∙ ap (kept i (event.Commit n)) (group_unseen i h v m group)
group_unseen i (e ∷ h) v m group = remembered-other i h e v m tt ∙ ap (kept i e) (group_unseen i h v m group)

pub no_group_is_learned : NoGroupIsLearned
no_group_is_learned i h v m group = learned-is i h v m ∙ ap (live_port (now_after h) i.ageing) (group_unseen i h v m group)

-- ---- histories that leave the same
record IsAlike (i : Basis) (h h' : History) : Type 0 where
  bridge : bridge_after i h ≡ bridge_after i h'
  clock : now_after h ≡ now_after h'
  seen : (v : ℕ) (m : List ℕ) → remembered i h v m ≡ remembered i h' v m
  left : (q : ℕ) → flat i h q ≡ flat i h' q

learned-alike : (i : Basis) (h h' : History) → IsAlike i h h' → (v : ℕ) (m : List ℕ) → learned i h v m ≡ learned i h' v m
learned-alike i h h' is v m =
    learned-is i h v m ∙ ap (λ (n : ℕ). live_port n i.ageing (remembered i h v m)) is.clock
    ∙ ap (live_port (now_after h') i.ageing) (is.seen v m) ∙ sym (learned-is i h' v m)

alike-more : (i : Basis) (h h' : History) (e : Event) → IsAlike i h h' → IsAlike i (e ∷ h) (e ∷ h')
alike-more i h h' e is = record {
  bridge = bridge_after-more i e h ∙ ap (changed i e) is.bridge ∙ sym (bridge_after-more i e h');
  clock = now_after-more e h ∙ ap (λ (n : ℕ). n + seconds_of e) is.clock ∙ sym (now_after-more e h');
  seen = λ v m. remembered-more i h e v m ∙ remembered-follows i h' e v m (bridge_after i h) (now_after h) (remembered i h v m) is.bridge is.clock (is.seen v m);
  left = λ q.
      flat-more i e h q
      ∙ ap (λ (xs : List Sent). xs ++ sent_by (bridge_after i h) (learned i h) e q) (is.left q)
      ∙ ap (λ (k : Bridge). flat i h' q ++ sent_by k (learned i h) e q) is.bridge
      ∙ ap (λ (look : Look). flat i h' q ++ sent_by (bridge_after i h') look e q) (λ j v m. learned-alike i h h' is v m j)
      ∙ sym (flat-more i e h' q);
}

alike-then : (i : Basis) (h h' : History) (es : List Event) → IsAlike i h h' → IsAlike i (h then es) (h' then es)
alike-then i h h' [] is = is
alike-then i h h' (e ∷ es) is = alike-then i (e ∷ h) (e ∷ h') es (alike-more i h h' e is)

refused-alike : (i : Basis) (h : History) (n : ℕ) (x : Cause) → IsAlike i (event.Refuse n x ∷ h) h
refused-alike i h n x = record {
  bridge = bridge_after-more i (event.Refuse n x) h;
  clock = now_after-more (event.Refuse n x) h ∙ add-zero (now_after h);
  seen = λ v m. remembered-more i h (event.Refuse n x) v m;
  left = λ q. flat-more i (event.Refuse n x) h q ∙ append-nil (flat i h q);
}

pub refused_changes_nothing : RefusedChangesNothing
refused_changes_nothing i h n x es =
    let alike = alike-then i (event.Refuse n x ∷ h) h es (refused-alike i h n x) in
    record { bridge = alike.bridge; learned = learned-alike i ((event.Refuse n x ∷ h) then es) (h then es) alike; left = alike.left }

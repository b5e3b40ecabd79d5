-- What is learned, event by event.
use Rattle.std.proofs.Common.{◌≡◌, ℕ, ◌+◌, ◌-◌, ◌<◌, ◌≤◌, Bool, true, false, cond, ◌==◌, List, [], ◌∷◌, refl, ap, subst, ◌∙◌, eq-eqb, inl, inr, arith}
use Rattle.std.specs.Prelude.{Option, Some, sum_by, bytes_eq, nat_lt}
use Rattle.std.proofs.lemmas.Bool.{lt-ltb, cases_Bool}
use Rattle.std.proofs.lemmas.List.Sums.{sum_by-cons}
use Rattle.std.proofs.lemmas.Slice.Eq.{bytes_eq-Decides}
use Rattle.exb_model.specs.declared.event.Event.{Event}
use Rattle.exb_model.specs.declared.event.Event.TheVariants as event
use Rattle.exb_model.specs.Frames.{source}
use Rattle.exb_model.specs.History.{Basis, History, ◌then◌, bridge_after, now_after, seconds_of}
use Rattle.exb_model.specs.Learning.{teaches, teaches_in, takes_down, live_port, remembered, learned}
use Rattle.exb_model.proofs.LearningSteps.{kept, remembered-relay, remembered-other, TeachesNothing}
use Rattle.exb_model_laws.specs.EntryLifetime.{Teaches, SourceIsLearned, Leaves, AllLeave, LearnedStays}

now_more : (e : Event) (h : History) → now_after (e ∷ h) ≡ now_after h + seconds_of e
unfolding now_after
now_more e h = refl

-- a port that was seen less than the ageing time ago is learned
learned_of : (i : Basis) (h : History) (v : ℕ) (m : List ℕ) (p at : ℕ) → remembered i h v m ≡ Some (p, at) → now_after h < at + i.ageing → at ≤ now_after h → learned i h v m ≡ Some p
unfolding learned
learned_of i h v m p at is late early =
    let live : nat_lt (now_after h - at) i.ageing ≡ true = lt-ltb (now_after h - at) i.ageing (omega arith) in
    ap (live_port (now_after h) i.ageing) is ∙ (rw live refl)

teaches_it : (i : Basis) (h : History) (p : ℕ) (f : List ℕ) (v : ℕ) → Teaches i h p f v → teaches (bridge_after i h) p f v (source f) ≡ true
teaches_it i h p f v is =
    let here : (v == v) ≡ true = eq-eqb v v refl in
    let own : bytes_eq (source f) (source f) ≡ true = (bytes_eq-Decides (source f) (source f)).1 refl in
    ap (λ (o : Option ℕ). teaches_in o f v (source f)) is.passed ∙ (rw (here, own, is.individual) refl)

seen_now : (i : Basis) (h : History) (p n t : ℕ) (f : List ℕ) (v : ℕ) → Teaches i h p f v → remembered i (event.Relay p n t f ∷ h) v (source f) ≡ Some (p, now_after h)
seen_now i h p n t f v is =
    remembered-relay i h p n t f v (source f) ∙ ap (λ (b : Bool). cond b (Some (p, now_after h)) (remembered i h v (source f))) (teaches_it i h p f v is)

pub source_is_learned : SourceIsLearned
source_is_learned i h p n t f v is some =
    let now : now_after (event.Relay p n t f ∷ h) ≡ now_after h + 0 = now_more (event.Relay p n t f) h in
    learned_of i (event.Relay p n t f ∷ h) v (source f) p (now_after h) (seen_now i h p n t f v is) (omega arith) (omega arith)

-- seen at this port, at some time that isn't too long ago for what still comes
record IsSeen (i : Basis) (h : History) (v : ℕ) (m : List ℕ) (p more : ℕ) : Type 0 where
  at : ℕ
  there : remembered i h v m ≡ Some (p, at)
  early : at ≤ now_after h
  late : now_after h + more < at + i.ageing

-- an event that only takes away
still_seen : (i : Basis) (h : History) (e : Event) (v : ℕ) (m : List ℕ) (p more : ℕ) → TeachesNothing e → takes_down i p e ≡ false → IsSeen i h v m p (seconds_of e + more) → IsSeen i (e ∷ h) v m p more
still_seen i h e v m p more none stays s =
    let now : now_after (e ∷ h) ≡ now_after h + seconds_of e = now_more e h in
    let early : s.at ≤ now_after h = s.early in
    let late : now_after h + (seconds_of e + more) < s.at + i.ageing = s.late in
    record {
      at = s.at;
      there = remembered-other i h e v m none ∙ ap (kept i e) s.there ∙ (rw stays refl);
      early = omega arith;
      late = omega arith;
    }

seen_after : (i : Basis) (h : History) (e : Event) (v : ℕ) (m : List ℕ) (p more : ℕ) → Leaves i h p v m e → IsSeen i h v m p (seconds_of e + more) → IsSeen i (e ∷ h) v m p more
seen_after i h (event.Relay q n t f) v m p more same s =
    let now : now_after (event.Relay q n t f ∷ h) ≡ now_after h + 0 = now_more (event.Relay q n t f) h in
    let early : s.at ≤ now_after h = s.early in
    let late : now_after h + (0 + more) < s.at + i.ageing = s.late in
    let next : (b : Bool) → teaches (bridge_after i h) q f v m ≡ b → remembered i (event.Relay q n t f ∷ h) v m ≡ cond b (Some (q, now_after h)) (remembered i h v m) =
    λ b e. remembered-relay i h q n t f v m ∙ ap (λ (x : Bool). cond x (Some (q, now_after h)) (remembered i h v m)) e in
    elim (cases_Bool (teaches (bridge_after i h) q f v m)) [
      | inl shown ↦ record { at = now_after h; there = next true shown ∙ ap (λ (x : ℕ). Some (x, now_after h)) (same shown); early = omega arith; late = omega arith }
      | inr silent ↦ record { at = s.at; there = next false silent ∙ s.there; early = omega arith; late = omega arith }
    ]
seen_after i h e v m p more leaves s = still_seen i h e v m p more tt leaves s

stays : (i : Basis) (h : History) (es : List Event) (v : ℕ) (m : List ℕ) (p : ℕ) → AllLeave i h p v m es → IsSeen i h v m p (sum_by seconds_of es) → learned i (h then es) v m ≡ Some p
stays i h [] v m p leave s = let late : now_after h + 0 < s.at + i.ageing = s.late in learned_of i h v m p s.at s.there (omega arith) s.early
stays i h (e ∷ es) v m p leave s = stays i (e ∷ h) es v m p leave.1 (seen_after i h e v m p (sum_by seconds_of es) leave.0 (subst (IsSeen i h v m p) (sum_by-cons seconds_of e es) s))

pub learned_stays : LearnedStays
learned_stays i h p n t f v es is leave short =
    let now : now_after (event.Relay p n t f ∷ h) ≡ now_after h + 0 = now_more (event.Relay p n t f) h in
    stays i (event.Relay p n t f ∷ h) es v (source f) p leave (record { at = now_after h; there = seen_now i h p n t f v is; early = omega arith; late = omega arith })

-- Rule 4: what a line has at each port.
use Rattle.std.proofs.Common.{◌≡◌, ℕ, ◌+◌, ◌%◌, ◌<◌, not, Bool, true, false, List, [], ◌∷◌, ◌++◌, length, set, refl, sym, ap, ◌∙◌, subst, arith, inl, inr}
use Rattle.std.specs.Prelude.{slice_index}
use Rattle.std.specs.Bool.{Decides}
use Rattle.std.proofs.lemmas.Bool.{cases_lt, cases_eq, and_parts, ltb-true, ne_eqb}
use Rattle.std.proofs.lemmas.List.{get_or-set_same, get_or-set_other, get_or_past}
use Rattle.exb_model.specs.declared.trace.TraceWay.{TraceWay}
use Rattle.exb_model.specs.declared.trace.TraceWay.TheVariants as way
use Rattle.exb_model.specs.Traces.{TraceLine, In, Out, line_by}
use Rattle.exb_model.specs.Tree.{Shape, device, is_port, is_cascade, is_external}
use Rattle.exb_audit.specs.Rule4Captures.{frame_of, passing_at, IsAtPort, IsNowhere, AreAll, AreSoFar, AreCounted}
use Rattle.exb_audit.specs.FrameCounts.{IsSoFar}
use Rattle.exb_audit.specs.declared.frames.PortFrames.{PortFrames}
use Rattle.exb_audit.specs.Frames.{frames_by, is_next}
use Rattle.exb_audit.proofs.FrameCounts.{none_more, one_more, wrong, whole, counted, none_yet}

-- an external port is one of 65 devices
external_device : (t : Shape) (q : ℕ) → length t.ports ≡ 65 → is_external t q ≡ true → device q < 65
external_device t q sized out =
    elim (cases_lt (device q) 65) [
      | inl l ↦ l
      | inr g ↦ (
          let port : is_port t q ≡ true = (and_parts (is_port t q) (not (is_cascade t q)) out).0 in
          let some : q % 64 < slice_index t.ports (device q) = ltb-true (q % 64) (slice_index t.ports (device q)) port in
          let none : slice_index t.ports (device q) ≡ 0 = get_or_past t.ports (device q) 0 (omega (arith, sized)) in
          absurd (omega arith)
          )
    ]

pub external_below : (t : Shape) (q : ℕ) → length t.ports ≡ 65 → is_external t q ≡ true → q < 4160
external_below t q sized out = (let low : device q < 65 = external_device t q sized out in omega arith)

-- ---- a line of code
abbrev pub side_of_line : TraceLine → ℕ
side_of_line (In n k f) = k
side_of_line (Out n k f) = k
side_of_line _ = 0

none_one : {f : List ℕ} → [] ≡ f ∷ [] → ⊥
none_one e = cc

frame_by : (b : Bool) (p : ℕ) (w : TraceWay) (who side : ℕ) (bytes : List ℕ) → passing_at b p (line_by w who side bytes) ≡ frame_of (line_by w who side bytes) ∷ [] → bytes ≡ frame_of (line_by w who side bytes)
frame_by b p way.In who side bytes e = refl
frame_by b p way.Out who side bytes e = refl
frame_by true p way.Beat who side bytes e = absurd (none_one e)
frame_by false p way.Beat who side bytes e = absurd (none_one e)
frame_by b p way.Journal who side bytes e = refl

pub frame_is : (b : Bool) (p : ℕ) (w : TraceWay) (who side : ℕ) (bytes : List ℕ) (l : TraceLine) → line_by w who side bytes ≡ l → passing_at b p l ≡ frame_of l ∷ [] → bytes ≡ frame_of l
frame_is b p w who side bytes l is e = frame_by b p w who side bytes (subst (λ m. passing_at b p m ≡ frame_of m ∷ []) (sym is) e) ∙ ap frame_of is

pub next_moved : (r b : Bool) (frames all : List (List ℕ)) (n m : ℕ) (f g : List ℕ) → r ≡ is_next frames n f → r ≡ b → frames ≡ all → n ≡ m → f ≡ g → is_next all m g ≡ b
next_moved r b frames all n m f g e is x y z = ap (λ us. is_next us m g) (sym x) ∙ ap (λ k. is_next frames k g) (sym y) ∙ ap (is_next frames n) (sym z) ∙ sym e ∙ is

-- ---- counts
module _ (t : Shape) (b : Bool) (all : List PortFrames) (before : List TraceLine) (l : TraceLine) (counts : List ℕ) where
  pub stays : IsNowhere t b l → AreSoFar b t all before counts → AreSoFar b t all (before ++ l ∷ []) counts
  stays nowhere s q out = none_more (passing_at b q) (frames_by all q) before l (slice_index counts q) (nowhere q out) (s q out)

  pub moves : (p : ℕ) → p < length counts → IsAtPort t b l p → is_next (frames_by all p) (slice_index counts p) (frame_of l) ≡ true → AreSoFar b t all before counts →
      AreSoFar b t all (before ++ l ∷ []) (set counts p (slice_index counts p + 1))
  moves p within at next s q out =
      elim (cases_eq q p) [
        | inl is ↦ subst (λ z. IsSoFar (passing_at b z) (before ++ l ∷ []) (frames_by all z) (slice_index (set counts p (slice_index counts p + 1)) z)) (sym is)
            (subst (λ n. IsSoFar (passing_at b p) (before ++ l ∷ []) (frames_by all p) n) (sym (get_or-set_same counts p (slice_index counts p + 1) 0 within))
            (one_more (passing_at b p) (frames_by all p) before l (slice_index counts p) (frame_of l) at.here next (s p at.external)))
        | inr ne ↦ subst (λ n. IsSoFar (passing_at b q) (before ++ l ∷ []) (frames_by all q) n) (sym (get_or-set_other counts p q (slice_index counts p + 1) 0 ne))
            (none_more (passing_at b q) (frames_by all q) before l (slice_index counts q) (at.others q out (ne_eqb q p ne)) (s q out))
      ]

  pub refused : (after : List TraceLine) (p : ℕ) → IsAtPort t b l p → is_next (frames_by all p) (slice_index counts p) (frame_of l) ≡ false → AreSoFar b t all before counts → AreAll b t all (before ++ l ∷ after) → ⊥
  refused after p at next s are = wrong (passing_at b p) (frames_by all p) before after l (slice_index counts p) (frame_of l) at.here next (s p at.external) (are p at.external)

pub none_counted : (t : Shape) (b : Bool) (all : List PortFrames) (counts : List ℕ) → ((p : ℕ) → slice_index counts p ≡ 0) → AreSoFar b t all [] counts
none_counted t b all counts none p out = subst (λ n. IsSoFar (passing_at b p) [] (frames_by all p) n) (sym (none p)) (none_yet (passing_at b p) (frames_by all p))

pub all_counted : (t : Shape) (b : Bool) (all : List PortFrames) (lines : List TraceLine) (counts : List ℕ) (r : Bool) → AreSoFar b t all lines counts → Decides r (AreCounted t all counts) → Decides r (AreAll b t all lines)
all_counted t b all lines counts r s d = (
  λ e p out. whole (passing_at b p) (frames_by all p) lines (slice_index counts p) (d.0 e p out) (s p out),
  λ are. d.1 (λ p out. counted (passing_at b p) (frames_by all p) lines (slice_index counts p) (are p out) (s p out)),
)

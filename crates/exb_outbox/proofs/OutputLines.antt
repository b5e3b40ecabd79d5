-- The lines of what goes out by the ports of a row, and where a trace is kept.
use Rattle.std.proofs.Common.{◌≡◌, ℕ, ◌+◌, ◌%◌, Bool, true, false, List, [], ◌∷◌, ◌++◌, refl, ap, sym, ◌∙◌, append_assoc, append-nil}
use Rattle.exb_model.specs.Traces.{TraceLine}
use Rattle.exb_model.specs.Traces.{Out as LineText}
use Rattle.exb_model.specs.Tree.{device}
use Rattle.exb_outbox.specs.Logs.{if_tracing, row_outs}

-- ---- a row
pub outs_next : (frame ports rest : List ℕ) (port who side : ℕ) (so_far now whole : List TraceLine) → ports ≡ port ∷ rest → who ≡ device port → side ≡ port % 64 + 1 → now ≡ so_far ++ LineText who side frame ∷ [] →
    so_far ++ row_outs frame ports ≡ whole → now ++ row_outs frame rest ≡ whole
outs_next frame ports rest port who side so_far now whole is who_is side_is put all =
    ap (λ (ls : List TraceLine). ls ++ row_outs frame rest) put
    ∙ append_assoc so_far (LineText who side frame ∷ []) (row_outs frame rest)
    ∙ ap (λ (d : ℕ). so_far ++ LineText d side frame ∷ row_outs frame rest) who_is
    ∙ ap (λ (k : ℕ). so_far ++ LineText (device port) k frame ∷ row_outs frame rest) side_is
    ∙ ap (λ (qs : List ℕ). so_far ++ row_outs frame qs) (sym is)
    ∙ all

pub outs_end : (frame ports : List ℕ) (now whole : List TraceLine) → ports ≡ [] → now ++ row_outs frame ports ≡ whole → now ≡ whole
outs_end frame ports now whole none all = sym (append-nil now) ∙ ap (λ (qs : List ℕ). now ++ row_outs frame qs) (sym none) ∙ all

-- ---- a trace
pub not_traced : (lines xs : List TraceLine) (tracing : Bool) → tracing ≡ false → lines ≡ lines ++ if_tracing tracing xs
not_traced lines xs tracing off = sym (append-nil lines) ∙ ap (λ (ls : List TraceLine). lines ++ ls) (sym (ap (λ (b : Bool). if_tracing b xs) off ∙ none xs))
  where
    none : (ys : List TraceLine) → if_tracing false ys ≡ []
    none [] = refl
    none (y ∷ ys) = none ys

pub all_traced : (lines xs now : List TraceLine) (tracing : Bool) → tracing ≡ true → now ≡ lines ++ xs → now ≡ lines ++ if_tracing tracing xs
all_traced lines xs now tracing on put = put ∙ ap (λ (ls : List TraceLine). lines ++ ls) (sym (ap (λ (b : Bool). if_tracing b xs) on ∙ all xs))
  where
    all : (ys : List TraceLine) → if_tracing true ys ≡ ys
    all [] = refl
    all (y ∷ ys) = ap (λ (zs : List TraceLine). y ∷ zs) (all ys)

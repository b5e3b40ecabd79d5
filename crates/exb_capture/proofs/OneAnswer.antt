-- What is answered of a file is one.
use Rattle.std.proofs.Common.{◌≡◌, ℕ, List, Option, Some, None, Result, Ok, Err, ap, sym, subst, inl, inr, ◌∙◌, arith}
use Rattle.std.specs.Prelude.{◌⊎◌}
use Rattle.exb_capture.specs.declared.scans.Scanned.{Scanned}
use Rattle.exb_capture.specs.declared.scans.ScanFault.{ScanFault}
use Rattle.exb_capture.specs.declared.scans.ScanFault.TheVariants.{Memory, Missing, Read, Fault, Large}
use Rattle.exb_capture.specs.Scans.{IsScanOf, IsScan, IsOfFile, scanned_of}

one_of : (limit : ℕ) (bytes : List ℕ) (a b : Result Scanned ScanFault) → IsScanOf limit bytes a → IsScanOf limit bytes b → IsOfFile a → IsOfFile b → a ≡ b
one_of limit bytes (Ok s) (Ok t) p q m n =
    let both : Ok p.records ≡ Ok q.records = sym p.read ∙ q.read in
    let same : p.records ≡ q.records = cc in
    ap Ok (p.tells ∙ ap (scanned_of bytes) same ∙ sym q.tells)
one_of limit bytes (Ok s) (Err (Fault fault)) p q m n = let no = sym p.read ∙ q.0 in absurd (cc)
one_of limit bytes (Ok s) (Err (Large most)) p q m n = absurd (omega (arith, p.small, q.1))
one_of limit bytes (Ok s) (Err Missing) p q m n = absurd q
one_of limit bytes (Ok s) (Err Read) p q m n = absurd n
one_of limit bytes (Ok s) (Err Memory) p q m n = absurd n
one_of limit bytes (Err (Fault fault)) (Ok t) p q m n = let no = sym q.read ∙ p.0 in absurd (cc)
one_of limit bytes (Err (Fault fault)) (Err (Fault other)) p q m n =
    let both = sym p.0 ∙ q.0 in
    let same : fault ≡ other = cc in
    ap (λ f. Err (Fault f)) same
one_of limit bytes (Err (Fault fault)) (Err (Large most)) p q m n = absurd (q.2 fault (p.1 q.1))
one_of limit bytes (Err (Fault fault)) (Err Missing) p q m n = absurd q
one_of limit bytes (Err (Fault fault)) (Err Read) p q m n = absurd n
one_of limit bytes (Err (Fault fault)) (Err Memory) p q m n = absurd n
one_of limit bytes (Err (Large most)) (Ok t) p q m n = absurd (omega (arith, q.small, p.1))
one_of limit bytes (Err (Large most)) (Err (Fault fault)) p q m n = absurd (p.2 fault (q.1 p.1))
one_of limit bytes (Err (Large most)) (Err (Large other)) p q m n = ap (λ k. Err (Large k)) (p.0 ∙ sym q.0)
one_of limit bytes (Err (Large most)) (Err Missing) p q m n = absurd q
one_of limit bytes (Err (Large most)) (Err Read) p q m n = absurd n
one_of limit bytes (Err (Large most)) (Err Memory) p q m n = absurd n
one_of limit bytes (Err Missing) b p q m n = absurd p
one_of limit bytes (Err Read) b p q m n = absurd m
one_of limit bytes (Err Memory) b p q m n = absurd m

missing : (a : Result Scanned ScanFault) → (a ≡ Err Missing) ⊎ (a ≡ Err Read) ⊎ (a ≡ Err Memory) → IsOfFile a → a ≡ Err Missing
missing a (inl e) m = e
missing a (inr (inl e)) m = absurd (subst IsOfFile e m)
missing a (inr (inr e)) m = absurd (subst IsOfFile e m)

pub one_of_all : (limit : ℕ) (file : Option (List ℕ)) (a b : Result Scanned ScanFault) → IsScan limit file a → IsScan limit file b → IsOfFile a → IsOfFile b → a ≡ b
one_of_all limit (Some bytes) a b p q m n = one_of limit bytes a b p q m n
one_of_all limit None a b p q m n = missing a p m ∙ sym (missing b q n)

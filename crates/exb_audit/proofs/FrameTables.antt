-- The places of frames by port are noted one after another.
use Rattle.std.proofs.Common.{◌≡◌, ℕ, zero, suc, ◌+◌, ◌-◌, ◌<◌, ◌≤◌, ◌^◌, ◌==◌, cond, true, false, List, [], ◌∷◌, ◌++◌, length, set, take, Some, refl, sym, ap, ◌∙◌, subst, arith, inl, inr, add-one}
use Rattle.std.specs.Prelude.{All, slice_get, slice_index}
use Rattle.std.proofs.lemmas.Bool.{cases_Bool, cases_eq, eq-eqb, ne_eqb}
use Rattle.std.proofs.lemmas.List.{take-append-le, take_at, length-set, get_or-set_same, get_or-set_other}
use Rattle.std.proofs.lemmas.List.Elements.{All-push, All-head, All-tail, All-nil}
use Rattle.std.proofs.lemmas.Option.{slice_get_within, none-some}
use Rattle.exb_trace_spec.specs.CheckerLaws.{AreFrames}
use Rattle.exb_audit.specs.declared.frames.PortFrames.{PortFrames}
use Rattle.exb_audit.specs.Frames.{frames_by, Lack, StandsAt, IsNoted, IsTable, IsFramed}
use Rattle.exb_audit.proofs.FrameCounts.{get_at}

pub get_first : {A : Type 0} (xs ys : List A) (n : ℕ) (y : A) → slice_get xs n ≡ Some y → slice_get (xs ++ ys) n ≡ Some y
get_first [] ys n y e = absurd (none-some y e)
get_first (x ∷ xs) ys zero y e = e
get_first (x ∷ xs) ys (suc n) y e = get_first xs ys n y e

-- ---- one more
stays_there : (xs : List PortFrames) (x : PortFrames) (p k : ℕ) → StandsAt xs p k → StandsAt (xs ++ x ∷ []) p k
stays_there xs x p k s =
    let within = slice_get_within xs k s.one s.is in
    record {
      one = s.one;
      is = get_first xs (x ∷ []) k s.one s.is;
      port = s.port;
      before = subst (Lack p) (sym (take-append-le k xs (x ∷ []) (omega (arith, within)))) s.before;
    }

new_there : (xs : List PortFrames) (x : PortFrames) (p : ℕ) → (x.port == p) ≡ true → Lack p xs → StandsAt (xs ++ x ∷ []) p (length xs)
new_there xs x p e lack = record { one = x; is = get_at xs [] x (length xs) refl; port = e; before = subst (Lack p) (sym (take_at xs (x ∷ []) (length xs) refl)) lack }

-- what is noted once one more was looked at
pub noted_other : (xs : List PortFrames) (x : PortFrames) (p n : ℕ) → (x.port == p) ≡ false → IsNoted xs p n → IsNoted (xs ++ x ∷ []) p n
noted_other xs x p zero e lack = All-push (λ y. (y.port == p) ≡ false) xs x lack e
noted_other xs x p (suc k) e s = stays_there xs x p k s

pub noted_again : (xs : List PortFrames) (x : PortFrames) (p n : ℕ) → (n ≡ 0 → ⊥) → IsNoted xs p n → IsNoted (xs ++ x ∷ []) p n
noted_again xs x p zero e lack = absurd (e refl)
noted_again xs x p (suc k) e s = stays_there xs x p k s

pub noted_new : (xs : List PortFrames) (x : PortFrames) (p n : ℕ) → (x.port == p) ≡ true → n ≡ 0 → IsNoted xs p n → IsNoted (xs ++ x ∷ []) p (length xs + 1)
noted_new xs x p zero e none lack = subst (IsNoted (xs ++ x ∷ []) p) (sym (add-one (length xs))) (new_there xs x p e lack)
noted_new xs x p (suc k) e none s = absurd (omega (arith, none))

pub table_more : (xs : List PortFrames) (x : PortFrames) (table : List ℕ) (i : ℕ) → length xs ≡ i → x.port < 4160 → IsTable xs table →
    IsTable (xs ++ x ∷ []) (cond (slice_index table x.port == 0) (set table x.port (i + 1)) table)
table_more xs x table i at low s =
    elim (cases_eq (slice_index table x.port) 0) [
      | inl none ↦ subst (IsTable (xs ++ x ∷ [])) (sym (ap (λ b. cond b (set table x.port (i + 1)) table) (eq-eqb (slice_index table x.port) 0 none))) (record {
        sized = length-set table x.port (i + 1) ∙ s.sized;
        noted = λ p l. by_port none p l;
      })
      | inr some ↦ subst (IsTable (xs ++ x ∷ [])) (sym (ap (λ b. cond b (set table x.port (i + 1)) table) (ne_eqb (slice_index table x.port) 0 some))) (record {
        sized = s.sized;
        noted = λ p l. by_other some p l;
      })
    ]
  where
    by_port : slice_index table x.port ≡ 0 → (p : ℕ) → p < 4160 → IsNoted (xs ++ x ∷ []) p (slice_index (set table x.port (i + 1)) p)
    by_port none p l =
        elim (cases_eq p x.port) [
          | inl is ↦ subst (λ q. IsNoted (xs ++ x ∷ []) q (slice_index (set table x.port (i + 1)) q)) (sym is)
              (subst (IsNoted (xs ++ x ∷ []) x.port) (ap (λ n. n + 1) at ∙ sym (get_or-set_same table x.port (i + 1) 0 (omega (arith, s.sized))))
              (noted_new xs x x.port (slice_index table x.port) (eq-eqb x.port x.port refl) none (s.noted x.port low)))
          | inr ne ↦ subst (IsNoted (xs ++ x ∷ []) p) (sym (get_or-set_other table x.port p (i + 1) 0 ne)) (noted_other xs x p (slice_index table p) (ne_eqb x.port p (λ e. ne (sym e))) (s.noted p l))
        ]

    by_other : (slice_index table x.port ≡ 0 → ⊥) → (p : ℕ) → p < 4160 → IsNoted (xs ++ x ∷ []) p (slice_index table p)
    by_other some p l =
        elim (cases_eq p x.port) [
          | inl is ↦ noted_again xs x p (slice_index table p) (λ e. some (ap (slice_index table) (sym is) ∙ e)) (s.noted p l)
          | inr ne ↦ noted_other xs x p (slice_index table p) (ne_eqb x.port p (λ e. ne (sym e))) (s.noted p l)
        ]

pub table_none : (table : List ℕ) → length table ≡ 4160 → ((p : ℕ) → slice_index table p ≡ 0) → IsTable [] table
table_none table sized none = record { sized = sized; noted = λ p l. subst (IsNoted [] p) (sym (none p)) (All-nil (λ y. (y.port == p) ≡ false)) }

-- ---- what is found
pub found_none : (xs : List PortFrames) (p : ℕ) → Lack p xs → frames_by xs p ≡ []
found_none [] p lack = refl
found_none (x ∷ xs) p lack = rw (All-head (λ y. (y.port == p) ≡ false) x xs lack) (found_none xs p (All-tail (λ y. (y.port == p) ≡ false) x xs lack))

found_at : (xs : List PortFrames) (p k : ℕ) (one : PortFrames) → slice_get xs k ≡ Some one → (one.port == p) ≡ true → Lack p (take k xs) → frames_by xs p ≡ one.frames.items
found_at [] p k one e here lack = absurd (none-some one e)
found_at (x ∷ xs) p zero one e here lack = by_first
  where
    same : x ≡ one
    same = some_same e
      where
        some_same : Some x ≡ Some one → x ≡ one
        some_same h = cc

    by_first : frames_by (x ∷ xs) p ≡ one.frames.items
    by_first = ap (λ y. frames_by (y ∷ xs) p) same ∙ ap (λ b. cond b one.frames.items (frames_by xs p)) here
found_at (x ∷ xs) p (suc k) one e here lack =
    rw (All-head (λ y. (y.port == p) ≡ false) x (take k xs) lack) (found_at xs p k one e here (All-tail (λ y. (y.port == p) ≡ false) x (take k xs) lack))

pub found : (xs : List PortFrames) (p k : ℕ) (one : PortFrames) → IsNoted xs p (suc k) → slice_get xs k ≡ Some one → frames_by xs p ≡ one.frames.items
found xs p k one s e = found_at xs p k s.one s.is s.port s.before ∙ ap (λ y. y.frames.items) (some_same (sym s.is ∙ e))
  where
    some_same : Some s.one ≡ Some one → s.one ≡ one
    some_same h = cc

pub noted_within : (xs : List PortFrames) (p n : ℕ) → IsNoted xs p n → (n ≡ 0 → ⊥) → n - 1 < length xs
noted_within xs p zero s e = absurd (e refl)
noted_within xs p (suc k) s e = let within = slice_get_within xs k s.one s.is in omega (arith, within)

pub found_noted : (xs : List PortFrames) (p n : ℕ) (one : PortFrames) → IsNoted xs p n → (n ≡ 0 → ⊥) → slice_get xs (n - 1) ≡ Some one → frames_by xs p ≡ one.frames.items
found_noted xs p zero one s e at = absurd (e refl)
found_noted xs p (suc k) one s e at = found xs p k one s (subst (λ m. slice_get xs m ≡ Some one) less at)
  where
    less : suc k - 1 ≡ k
    less = omega arith

pub none_noted : (xs : List PortFrames) (p n : ℕ) → n ≡ 0 → IsNoted xs p n → frames_by xs p ≡ []
none_noted xs p zero e lack = found_none xs p lack
none_noted xs p (suc k) e s = absurd (omega (arith, e))

-- ---- frames of ports
framed_ports : (xs : List PortFrames) → All IsFramed xs → (p : ℕ) → 4160 ≤ p → frames_by xs p ≡ []
framed_ports [] all p high = refl
framed_ports (x ∷ xs) all p high =
    let f : IsFramed x = All-head IsFramed x xs all in
    let low = f.0 in
    rw (ne_eqb x.port p (λ e. absurd (omega (arith, low, high, e)))) (framed_ports xs (All-tail IsFramed x xs all) p high)

framed_few : (xs : List PortFrames) → All IsFramed xs → (p : ℕ) → length (frames_by xs p) < 2 ^ 64
framed_few [] all p = omega arith
framed_few (x ∷ xs) all p =
    elim (cases_Bool (x.port == p)) [
      | inl e ↦ rw e ((All-head IsFramed x xs all).1)
      | inr e ↦ rw e (framed_few xs (All-tail IsFramed x xs all) p)
    ]

pub frames_fit : (xs : List PortFrames) → All IsFramed xs → AreFrames (frames_by xs)
frames_fit xs all = record { ports = λ p high. framed_ports xs all p high; few = λ p. framed_few xs all p }

-- The parts of an end round its colon.
use Rattle.std.proofs.Common.{◌≡◌, ◌≢◌, ℕ, suc, ◌<◌, ◌++◌, List, [], ◌∷◌, Option, Some, None, Result, Ok, Err, length, get_or, refl, ap, sym, ◌∙◌, arith}
use Rattle.std.specs.Prelude.{IfOk, option_and_then}
use Rattle.std.proofs.lemmas.Bool.{eq-eqb, ne_eqb}
use Rattle.exb_model.specs.declared.memory.NoMemory.{NoMemory}
use Rattle.exb_toml_keys.specs.TextValues.{cut}
use Rattle.exb_net_file.specs.declared.end_names.EndName.{EndName}
use Rattle.exb_net_file.specs.EndNames.{end_between, end_of}

pub cut_free : (c : ℕ) (s : List ℕ) → ((i : ℕ) → i < length s → get_or s i 0 ≢ c) → cut c s ≡ None
unfolding cut
cut_free c [] free = refl
cut_free c (x ∷ s) free = rw (ne_eqb x c (free 0 (omega arith)), cut_free c s (λ i lt. free (suc i) (omega arith))) refl

pub cut_parts : (c : ℕ) (a b : List ℕ) → ((i : ℕ) → i < length a → get_or a i 0 ≢ c) → cut c (a ++ c ∷ b) ≡ Some (a, b)
unfolding cut
cut_parts c [] b free = rw (eq-eqb c c refl) refl
cut_parts c (x ∷ a) b free = rw (ne_eqb x c (free 0 (omega arith)), cut_parts c a b (λ i lt. free (suc i) (omega arith))) refl

pub end_free : (s : List ℕ) → ((i : ℕ) → i < length s → get_or s i 0 ≢ 58) → end_of s ≡ None
unfolding end_of
end_free s free = ap (option_and_then end_between) (cut_free 58 s free)

pub end_parts : (s a b : List ℕ) → s ≡ a ++ 58 ∷ b → ((i : ℕ) → i < length a → get_or a i 0 ≢ 58) → end_between (a, b) ≡ end_of s
unfolding end_of
end_parts s a b is free = sym (ap (λ (t : List ℕ). option_and_then end_between (cut 58 t)) is ∙ ap (option_and_then end_between) (cut_parts 58 a b free))

-- the clause of what an end gives, for another text
pub if_same : (r : Result (Option EndName) NoMemory) (x y : Option EndName) → x ≡ y → IfOk r (λ e. e ≡ x) → IfOk r (λ e. e ≡ y)
if_same (Ok e) x y same h = h ∙ same
if_same (Err e) x y same h = tt

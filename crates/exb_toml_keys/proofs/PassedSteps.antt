-- What a definition went through, where it comes to an answer.
use Rattle.std.proofs.Common.{◌≡◌, ℕ, ◌+◌, ◌≤◌, Bool, true, false, List, [], length, Option, Some, None, Result, Ok, Err, refl, ap, subst, arith}
use Rattle.std.specs.Prelude.{ℤ, pos, negsuc, ◌&&◌, nat_le, if◌then◌else◌, option_and_then}
use Rattle.std.proofs.lemmas.Bool.{leb-true, and_parts}
use Rattle.toml.specs.Data.{Data, string, integer, boolean, array, table, Items, no_items, item, Members, get_member}
use Rattle.exb_model.specs.declared.setup.Verdict.{Verdict}
use Rattle.exb_toml_keys.specs.declared.faults.KeyFault.{KeyFault}
use Rattle.exb_toml_keys.specs.declared.faults.KeyFault.TheVariants as fault
use Rattle.exb_toml_keys.specs.Faults.{Refusal, at, ◌>>=◌}
use Rattle.exb_toml_keys.specs.TextValues.{fate_of}
use Rattle.exb_toml_keys.specs.Keys.{number, number_in, seconds, fate, counted, placed, keyed, key_at, each}

pub record Went {A B : Type 0} (r : Result A Refusal) (f : A → Result B Refusal) (y : B) : Type 0 where
  pub passed : A
  pub first : r ≡ Ok passed
  pub rest : f passed ≡ Ok y

pub went : {A B : Type 0} (r : Result A Refusal) (f : A → Result B Refusal) (y : B) → (r >>= f) ≡ Ok y → Went r f y
went (Ok x) f y e = record { passed = x; first = refl; rest = e }
went (Err x) f y e = absurd (cc)

-- what is refused where a test holds, and went on, failed the test
pub unless : (test : Bool) (x : Refusal) (u : Unit {0}) → ◌≡◌ {A = Result (Unit {0}) Refusal} (if test then Err x else Ok tt) (Ok u) → test ≡ false
unless true x u e = absurd (cc)
unless false x u e = refl

-- ---- keys
pub placed_ok : {X : Type 0} (key : List ℕ) (r : Result X KeyFault) (x : X) → placed key r ≡ Ok x → r ≡ Ok x
placed_ok key (Ok y) x e = let is : y ≡ x = cc in ap (λ z. Ok z) is
placed_ok key (Err f) x e = absurd (cc)

in_range : (low high : ℕ) (z : ℤ) (n : ℕ) → number_in low high z ≡ Ok n → low ≤ n
in_range low high (pos m) n e =
    elim (nat_le low m && nat_le m high) as (λ b. (nat_le low m && nat_le m high) ≡ b → ◌≡◌ {A = Result ℕ KeyFault} (if b then Ok m else Err fault.Range) (Ok n) → low ≤ n) [
      | true ↦ λ is h. (let same : m ≡ n = cc in subst (λ (k : ℕ). low ≤ k) same (leb-true low m (and_parts _ _ is).0))
      | false ↦ λ is h. absurd (cc)
    ] refl e
in_range low high (negsuc m) n e = absurd (cc)

number_low : (low high : ℕ) (d : Data) (n : ℕ) → number low high d ≡ Ok n → low ≤ n
unfolding number
number_low low high (integer z) n e = in_range low high z n e
number_low low high (string s) n e = absurd (cc)
number_low low high (boolean b) n e = absurd (cc)
number_low low high (array ds) n e = absurd (cc)
number_low low high (table ms) n e = absurd (cc)
number_low low high _ n e = absurd (cc)

seconds_of : (before n : ℕ) (key : List ℕ) (o : Option Data) → keyed (seconds before) None key o ≡ Ok n → before ≤ n
unfolding seconds
seconds_of before n key None e = absurd (cc)
seconds_of before n key (Some d) e = number_low before 4294967295 d n (placed_ok key (number before 4294967295 d) n e)

-- seconds that were read aren't below those before
pub seconds_rise : (before n : ℕ) (here key : List ℕ) (t : Members) → key_at (seconds before) None here key t ≡ Ok n → before ≤ n
seconds_rise before n here key t e = seconds_of before n _ (get_member key t) e

counted_few : (letters : ℕ) (o : Option (List Verdict)) (vs : List Verdict) → counted letters o ≡ Ok vs → letters + length vs ≤ 60000
counted_few letters None vs e = absurd (cc)
counted_few letters (Some ws) vs e =
    elim (nat_le (letters + length ws) 60000) as (λ b. nat_le (letters + length ws) 60000 ≡ b → ◌≡◌ {A = Result (List Verdict) KeyFault} (if b then Ok ws else Err fault.Range) (Ok vs) → letters + length vs ≤ 60000) [
      | true ↦ λ is h. (let same : ws ≡ vs = cc in subst (λ (x : List Verdict). letters + length x ≤ 60000) same (leb-true _ _ is))
      | false ↦ λ is h. absurd (cc)
    ] refl e

fate_few : (letters : ℕ) (d : Data) (vs : List Verdict) → fate letters d ≡ Ok vs → letters + length vs ≤ 60000
unfolding fate
fate_few letters (string s) vs e = counted_few letters (fate_of s) vs e
fate_few letters _ vs e = absurd (cc)

few_of : (letters : ℕ) (vs : List Verdict) (key : List ℕ) (o : Option Data) → letters ≤ 60000 → keyed (fate letters) (Some []) key o ≡ Ok vs → letters + length vs ≤ 60000
few_of letters vs key None low e = let same : [] ≡ vs = cc in subst (λ (x : List Verdict). letters + length x ≤ 60000) same (omega (arith, low))
few_of letters vs key (Some d) low e = fate_few letters d vs (placed_ok key (fate letters d) vs e)

-- the letters of a fate that was read, with those before, are few
pub letters_few : (letters : ℕ) (vs : List Verdict) (here key : List ℕ) (t : Members) → letters ≤ 60000 → key_at (fate letters) (Some []) here key t ≡ Ok vs → letters + length vs ≤ 60000
letters_few letters vs here key t low e = few_of letters vs _ (get_member key t) low e

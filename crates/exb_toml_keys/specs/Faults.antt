-- Why a file of keys is refused, and where.
use Rattle.std.specs.Prelude.{◌≡◌, ℕ, List, [], ◌++◌, Result, Ok, Err, codes, decimal}
use Rattle.exb_toml_keys.specs.declared.faults.KeyFault.{KeyFault}
use Rattle.exb_toml_keys.specs.declared.faults.TopoFault.{TopoFault}
use Rattle.exb_toml_keys.specs.declared.faults.TopoFault.TheVariants as errors
use Rattle.exb_toml_keys.specs.declared.key_path.KeyPath.{KeyPath}
use Rattle.exb_toml_keys.specs.declared.key_path.KeyPath.TheVariants as places

-- What a definition answers where it refuses a file. Want of memory is none of these.
pub data Refusal : Type 0 where
  not_toml : Refusal
  large : Refusal
  at : KeyFault → List ℕ → Refusal

infixl 10 ◌>>=◌
abbrev pub ◌>>=◌ : {A B : Type 0} → Result A Refusal → (A → Result B Refusal) → Result B Refusal
(Ok x) >>= f = f x
(Err e) >>= f = Err e

-- the code's error is what the definition answers, unless memory ran out
abbrev pub Fails : {Y : Type 0} → TopoFault → Result Y Refusal → Type 0
Fails errors.Memory read = Unit {0}
Fails errors.NotToml read = read ≡ Err not_toml
Fails errors.Large read = read ≡ Err large
Fails (errors.At fault key) read = read ≡ Err (at fault key)

-- what a function returned, seen by `view`, is what the definition answers, unless memory ran out
abbrev pub GivesSeen : {X Y : Type 0} → (X → Y) → Result X TopoFault → Result Y Refusal → Type 0
GivesSeen view (Ok x) read = read ≡ Ok (view x)
GivesSeen view (Err e) read = Fails e read

-- the same where nothing needs to be seen otherwise
abbrev pub Gives : {X : Type 0} → Result X TopoFault → Result X Refusal → Type 0
Gives (Ok x) read = read ≡ Ok x
Gives (Err e) read = Fails e read

-- the error is this fault at this key, unless memory ran out
abbrev pub IsFault : TopoFault → KeyFault → List ℕ → Type 0
IsFault errors.Memory f key = Unit {0}
IsFault errors.NotToml f key = ⊥
IsFault errors.Large f key = ⊥
IsFault (errors.At g text) f key = (g ≡ f) × (text ≡ key)

-- ---- what stands before a key: nothing at the top, `bridge.` in a table, `vlan[2].` in an element, from 0
abbrev pub in_table : List ℕ → List ℕ
in_table table = table ++ codes "."

abbrev pub in_element : List ℕ → ℕ → List ℕ
in_element table i = table ++ (codes "[" ++ (decimal i ++ codes "]."))

abbrev pub place_text : KeyPath → List ℕ
place_text places.Top = []
place_text (places.Table t) = in_table t.now
place_text (places.Element t i) = in_element t.now i

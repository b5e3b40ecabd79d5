-- What holds of the words, said in other words.
use Rattle.std.specs.Prelude.{◌≡◌, ℕ, ◌<◌, ◌^◌, Bool, if◌then◌else◌, List, [], ◌∷◌, ◌++◌, Option, Some, None, IfSome, codes, decimal, sum_by}
use Rattle.exb_cli.specs.CommandLines.{Ask, Run, Check, Make, Audit, Net, Item, items_of, words_of}

-- ---- options may stand in any order around the name
-- each item is said as often
abbrev pub SaySame : List Item → List Item → Type 0
SaySame is js = (f : Item → ℕ) → sum_by f is ≡ sum_by f js

abbrev pub OrderIsFree : Type 0
OrderIsFree =
    (first : List ℕ) (ws vs : List (List ℕ)) (is js : List Item) → items_of ws ≡ Some is → items_of vs ≡ Some js
    → SaySame is js → words_of (first ∷ ws) ≡ words_of (first ∷ vs)

-- ---- behind `--` each word is a name, whatever it is
abbrev pub DashesEndOptions : Type 0
DashesEndOptions = (word : List ℕ) → words_of (codes "check" ∷ codes "--" ∷ word ∷ []) ≡ Some (Check word)

-- ---- what is asked for can be written, and is read again
abbrev pub written_trace : Bool → List (List ℕ)
written_trace trace = if trace then codes "--trace" ∷ [] else []

abbrev pub written_counters : Bool → List (List ℕ)
written_counters counters = if counters then codes "--counters" ∷ [] else []

abbrev pub written_seed : Option ℕ → List (List ℕ)
written_seed None = []
written_seed (Some n) = codes "--seed" ∷ decimal n ∷ []

abbrev pub written : Ask → List (List ℕ)
written (Run topology options) = codes "run" ∷ written_trace options.trace ++ written_counters options.counters ++ written_seed options.seed ++ codes "--" ∷ topology ∷ []
written (Check topology) = codes "check" ∷ codes "--" ∷ topology ∷ []
written (Make number) = codes "make" ∷ decimal number ∷ []
written (Audit topology) = codes "audit" ∷ codes "--" ∷ topology ∷ []
written (Net file counters) = codes "net" ∷ written_counters counters ++ codes "--" ∷ file ∷ []

-- its numbers have 64 bits
abbrev pub IsShort : Ask → Type 0
IsShort (Run topology options) = IfSome options.seed (λ n. n < 2 ^ 64)
IsShort (Check topology) = Unit {0}
IsShort (Make number) = number < 2 ^ 64
IsShort (Audit topology) = Unit {0}
IsShort (Net file counters) = Unit {0}

abbrev pub WrittenIsRead : Type 0
WrittenIsRead = (a : Ask) → IsShort a → words_of (written a) ≡ Some a

-- The words of the command line, without the program's name, and what they ask for.
use Rattle.std.specs.Prelude.{ℕ, ◌^◌, nat_lt, nat_le, Bool, false, ◌==◌, ◌&&◌, if◌then◌else◌, List, [], ◌∷◌, map, length, take, drop, Option, Some, None, is_some, option_map, option_and_then, codes}
use Rattle.std.specs.Str.{bytes_eq, all_ascii_digits}
use Rattle.std.specs.Str.Parse.{digits_value}
use Rattle.exb_cli.specs.declared.invocations.Options.{Options}

infixl 10 ◌>>=◌
abbrev ◌>>=◌ : {A B : Type 0} → Option A → (A → Option B) → Option B
o >>= f = option_and_then f o

-- ---- what is asked for
pub data Ask : Type 0 where
  Run : (topology : List ℕ) (options : Options) → Ask
  Check : (topology : List ℕ) → Ask
  Make : (number : ℕ) → Ask
  Audit : (topology : List ℕ) → Ask
  Net : (file : List ℕ) (counters : Bool) → Ask

-- ---- what a word says
pub data Item : Type 0 where
  Name : (word : List ℕ) → Item
  Trace : Item
  Counters : Item
  Seed : (number : ℕ) → Item

-- where 64 bits hold it
abbrev pub if_short : ℕ → Option ℕ
if_short n = if nat_lt n (2 ^ 64) then Some n else None

-- 1 to 20 decimal digits
abbrev pub is_numeral : List ℕ → Bool
is_numeral word = nat_lt 0 (length word) && (nat_le (length word) 20 && all_ascii_digits word)

-- with a value below 2^64
unfoldable pub number_in : List ℕ → Option ℕ
number_in word = if is_numeral word then if_short (digits_value 10 word) else None

-- it begins with `-`, and isn't `-` alone
abbrev pub is_dashed : List ℕ → Bool
is_dashed [] = false
is_dashed (c ∷ []) = false
is_dashed (c ∷ d ∷ rest) = c == 45

-- a word by itself, where options are still read: an option, or a name
unfoldable pub item_of : List ℕ → Option Item
item_of word =
    if bytes_eq word (codes "--trace") then Some Trace
    else (if bytes_eq word (codes "--counters") then Some Counters
    else (if bytes_eq (take 7 word) (codes "--seed=") then option_map Seed (number_in (drop 7 word))
    else (if is_dashed word then None else Some (Name word))))

abbrev pub with_item : Option Item → Option (List Item) → Option (List Item)
with_item i is = do
  x ← i
  xs ← is
  Some (x ∷ xs)

-- what words say, in order. Behind `--` each word is a name, and `--seed` takes the next word as its number, whatever
-- it is
unfoldable pub items_of : List (List ℕ) → Option (List Item)
items_of [] = Some []
items_of (w ∷ []) = if bytes_eq w (codes "--") then Some [] else with_item (item_of w) (Some [])
items_of (w ∷ v ∷ ws) =
    if bytes_eq w (codes "--") then Some (map Name (v ∷ ws))
    else (if bytes_eq w (codes "--seed") then with_item (option_map Seed (number_in v)) (items_of ws)
    else with_item (item_of w) (items_of (v ∷ ws)))

-- ---- what the words behind the first ask for
unfoldable pub names_in : List Item → List (List ℕ)
names_in [] = []
names_in (Name w ∷ is) = w ∷ names_in is
names_in (Trace ∷ is) = names_in is
names_in (Counters ∷ is) = names_in is
names_in (Seed n ∷ is) = names_in is

-- how often
unfoldable pub traces_in : List Item → List (Unit {0})
traces_in [] = []
traces_in (Name w ∷ is) = traces_in is
traces_in (Trace ∷ is) = tt ∷ traces_in is
traces_in (Counters ∷ is) = traces_in is
traces_in (Seed n ∷ is) = traces_in is

unfoldable pub counters_in : List Item → List (Unit {0})
counters_in [] = []
counters_in (Name w ∷ is) = counters_in is
counters_in (Trace ∷ is) = counters_in is
counters_in (Counters ∷ is) = tt ∷ counters_in is
counters_in (Seed n ∷ is) = counters_in is

unfoldable pub seeds_in : List Item → List ℕ
seeds_in [] = []
seeds_in (Name w ∷ is) = seeds_in is
seeds_in (Trace ∷ is) = seeds_in is
seeds_in (Counters ∷ is) = seeds_in is
seeds_in (Seed n ∷ is) = n ∷ seeds_in is

abbrev pub the_only : {A : Type 0} → List A → Option A
the_only [] = None
the_only (x ∷ []) = Some x
the_only (x ∷ y ∷ rest) = None

-- none, or one
abbrev pub at_most_one : {A : Type 0} → List A → Option (Option A)
at_most_one [] = Some None
at_most_one (x ∷ []) = Some (Some x)
at_most_one (x ∷ y ∷ rest) = None

abbrev pub none_of : {A : Type 0} → List A → Option (Unit {0})
none_of [] = Some tt
none_of (x ∷ rest) = None

-- one name, and each option once at most, in any order
unfoldable pub run_of : List Item → Option Ask
run_of items = do
  topology ← the_only (names_in items)
  trace ← at_most_one (traces_in items)
  counters ← at_most_one (counters_in items)
  seed ← at_most_one (seeds_in items)
  Some (Run topology (record { trace = is_some trace; counters = is_some counters; seed = seed }))

-- one name alone
unfoldable pub name_alone : List Item → Option (List ℕ)
name_alone (Name w ∷ []) = Some w
name_alone _ = None

unfoldable pub check_of : List Item → Option Ask
check_of items = option_map Check (name_alone items)

unfoldable pub make_of : List Item → Option Ask
make_of items = option_map Make (name_alone items >>= number_in)

unfoldable pub audit_of : List Item → Option Ask
audit_of items = option_map Audit (name_alone items)

-- one name, counters once at most, in any order, and no other option
unfoldable pub net_of : List Item → Option Ask
net_of items = do
  file ← the_only (names_in items)
  trace ← none_of (traces_in items)
  counters ← at_most_one (counters_in items)
  seed ← none_of (seeds_in items)
  Some (Net file (is_some counters))

-- ---- all words
-- what the words ask for, where they are accepted
unfoldable pub words_of : List (List ℕ) → Option Ask
words_of [] = None
words_of (w ∷ ws) =
    if bytes_eq w (codes "run") then items_of ws >>= run_of
    else (if bytes_eq w (codes "check") then items_of ws >>= check_of
    else (if bytes_eq w (codes "make") then items_of ws >>= make_of
    else (if bytes_eq w (codes "audit") then items_of ws >>= audit_of
    else (if bytes_eq w (codes "net") then items_of ws >>= net_of else None))))

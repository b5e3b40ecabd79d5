-- Reading the keys of a table.
use Rattle.std.specs.Prelude.{ℕ, ◌+◌, ℤ, pos, negsuc, Bool, true, false, ◌&&◌, ◌||◌, ◌==◌, nat_le, if◌then◌else◌, List, [], ◌∷◌, ◌++◌, length, Option, Some, None, Result, Ok, Err, option_and_then}
use Rattle.std.specs.Str.{bytes_eq}
use Rattle.std.specs.List.{list_any}
use Rattle.toml.specs.Data.{Data, string, integer, boolean, array, table, Items, no_items, item, Members, no_members, member, get_member}
use Rattle.exb_model.specs.declared.address.Mac.{Mac}
use Rattle.exb_model.specs.declared.rules.Accept.{Accept}
use Rattle.exb_model.specs.declared.vlan.Kind.{Kind}
use Rattle.exb_model.specs.declared.setup.Verdict.{Verdict}
use Rattle.exb_toml_keys.specs.declared.faults.KeyFault.{KeyFault}
use Rattle.exb_toml_keys.specs.declared.faults.KeyFault.TheVariants as fault
use Rattle.exb_toml_keys.specs.declared.text_values.PortPattern.{PortPattern}
use Rattle.exb_toml_keys.specs.Faults.{Refusal, at, ◌>>=◌}
use Rattle.exb_toml_keys.specs.TextValues.{port_of, word_of, address_of, accept_of, kind_of, fate_of}

-- ---- one value: Kind where its type is another, Range where its number is out of its range, Name where
-- ---- its text is none of the words or forms

-- a whole number from low to high
abbrev pub number_in : ℕ → ℕ → ℤ → Result ℕ KeyFault
number_in low high (pos n) = if nat_le low n && nat_le n high then Ok n else Err fault.Range
number_in low high (negsuc n) = Err fault.Range

unfoldable pub number : ℕ → ℕ → Data → Result ℕ KeyFault
number low high (integer z) = number_in low high z
number low high _ = Err fault.Kind

unfoldable pub flag : Data → Result Bool KeyFault
flag (boolean b) = Ok b
flag _ = Err fault.Kind

unfoldable pub text : Data → Result (List ℕ) KeyFault
text (string s) = Ok s
text _ = Err fault.Kind

-- a text that this reading of words knows
abbrev pub named : {X : Type 0} → Option X → Result X KeyFault
named None = Err fault.Name
named (Some x) = Ok x

abbrev pub worded : {X : Type 0} → (List ℕ → Option X) → Data → Result X KeyFault
worded read (string s) = named (read s)
worded read _ = Err fault.Kind

unfoldable pub port : Data → Result ℕ KeyFault
port d = worded port_of d

unfoldable pub address : Data → Result Mac KeyFault
address d = worded address_of d

unfoldable pub accept : Data → Result Accept KeyFault
accept d = worded accept_of d

unfoldable pub kind : Data → Result Kind KeyFault
kind d = worded kind_of d

-- 0, or 10 to 1000000
abbrev pub old_enough : Result ℕ KeyFault → Result ℕ KeyFault
old_enough (Err f) = Err f
old_enough (Ok n) = if n == 0 || nat_le 10 n then Ok n else Err fault.Range

unfoldable pub ageing : Data → Result ℕ KeyFault
ageing d = old_enough (number 0 1000000 d)

-- seconds up to 4294967295 that aren't below these
unfoldable pub seconds : ℕ → Data → Result ℕ KeyFault
seconds before d = number before 4294967295 d

-- a fate after this many letters: all letters together are at most 60,000
abbrev pub counted : ℕ → Option (List Verdict) → Result (List Verdict) KeyFault
counted letters None = Err fault.Name
counted letters (Some vs) = if nat_le (letters + length vs) 60000 then Ok vs else Err fault.Range

unfoldable pub fate : ℕ → Data → Result (List Verdict) KeyFault
fate letters (string s) = counted letters (fate_of s)
fate letters _ = Err fault.Kind

-- a list of texts, each of which is a word for ports
abbrev pub are_texts : Items → Bool
are_texts no_items = true
are_texts (item (string s) ds) = are_texts ds
are_texts (item _ ds) = false

abbrev pub word_in : Data → Option PortPattern
word_in (string s) = word_of s
word_in _ = None

unfoldable pub words_of : Items → Option (List PortPattern)
words_of no_items = Some []
words_of (item d ds) = option_and_then (λ w. option_and_then (λ ws. Some (w ∷ ws)) (words_of ds)) (word_in d)

unfoldable pub words : Data → Result (List PortPattern) KeyFault
words (array ds) = if are_texts ds then named (words_of ds) else Err fault.Kind
words _ = Err fault.Kind

-- ---- one key

-- what was read, or the fault at this key
abbrev pub placed : {X : Type 0} → List ℕ → Result X KeyFault → Result X Refusal
placed key (Ok x) = Ok x
placed key (Err f) = Err (at f key)

-- the value of a key, with or without a default: Missing where it is absent and has none
abbrev pub keyed : {X : Type 0} → (Data → Result X KeyFault) → Option X → List ℕ → Option Data → Result X Refusal
keyed read default key (Some d) = placed key (read d)
keyed read (Some x) key None = Ok x
keyed read None key None = Err (at fault.Missing key)

-- the value of a key of a table, behind what stands before its keys
abbrev pub key_at : {X : Type 0} → (Data → Result X KeyFault) → Option X → List ℕ → List ℕ → Members → Result X Refusal
key_at read default here key t = keyed read default (here ++ key) (get_member key t)

-- ---- keys that a table doesn't define

abbrev pub is_among : List (List ℕ) → List ℕ → Bool
is_among keys k = list_any (λ w. bytes_eq k w) keys

-- the first key that isn't known; members stand in the byte order of their keys
unfoldable pub unknown : (List ℕ → Bool) → Members → Option (List ℕ)
unknown known no_members = None
unknown known (member k d ms) = if known k then unknown known ms else Some k

abbrev pub refused : List ℕ → Option (List ℕ) → Result (Unit {0}) Refusal
refused here None = Ok tt
refused here (Some k) = Err (at fault.Unknown (here ++ k))

-- only keys that the table defines
unfoldable pub only : (List ℕ → Bool) → List ℕ → Members → Result (Unit {0}) Refusal
only known here ms = refused here (unknown known ms)

-- ---- tables and lists of tables

-- the value is a table
abbrev pub table_of : List ℕ → Data → Result Members Refusal
table_of name (table ms) = Ok ms
table_of name _ = Err (at fault.Kind name)

abbrev pub are_tables : Items → Bool
are_tables no_items = true
are_tables (item (table ms) ds) = are_tables ds
are_tables (item _ ds) = false

-- the elements of a list of tables; none where the key is absent
unfoldable pub elements : List ℕ → Option Data → Result Items Refusal
elements name None = Ok no_items
elements name (Some (array ds)) = if are_tables ds then Ok ds else Err (at fault.Kind name)
elements name (Some _) = Err (at fault.Kind name)

-- what each item is, one after the other from index i, with a state that an item may change
unfoldable pub each : {S X : Type 0} → (S → ℕ → Data → Result X Refusal) → (S → X → S) → S → ℕ → Items
    → Result (List X) Refusal
each read next s i no_items = Ok []
each read next s i (item d ds) = read s i d >>= (λ x. each read next (next s x) (i + 1) ds >>= (λ xs. Ok (x ∷ xs)))

abbrev pub same_state : {S X : Type 0} → S → X → S
same_state s x = s

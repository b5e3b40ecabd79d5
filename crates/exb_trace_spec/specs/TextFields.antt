-- What a text is cut into, and the numbers and ports that its words are read as.
use Rattle.std.specs.Prelude.{ℕ, ◌+◌, ◌-◌, ◌*◌, ◌==◌, ◌&&◌, ◌||◌, Bool, false, nat_le, nat_lt, if◌then◌else◌, List, [], ◌∷◌, length, Option, Some, None, option_map, option_and_then}
use Rattle.std.specs.List.{slice_split}
use Rattle.std.specs.Str.{all_ascii_digits}
use Rattle.std.specs.Str.Parse.{digits_value}

-- ---- lines and words
-- the lines of a text that ends with a newline, or is empty
abbrev pub each_ended : List (List ℕ) → Option (List (List ℕ))
each_ended [] = None
each_ended (last ∷ []) = if length last == 0 then Some [] else None
each_ended (line ∷ next ∷ rest) = option_map (λ (lines : List (List ℕ)). line ∷ lines) (each_ended (next ∷ rest))

unfoldable pub lines_in : List ℕ → Option (List (List ℕ))
lines_in text = each_ended (slice_split (λ c. c == 10) text)

-- the words of a line, between its spaces
unfoldable pub words_in : List ℕ → List (List ℕ)
words_in line = slice_split (λ c. c == 32) line

-- what each of them is read as, where all can be read
abbrev pub all_read : {A : Type 0} → (List ℕ → Option A) → List (List ℕ) → Option (List A)
all_read read [] = Some []
all_read read (text ∷ texts) = option_and_then (λ x. option_map (λ xs. x ∷ xs) (all_read read texts)) (read text)

-- ---- numbers
-- decimal digits, with no 0 in front of others
abbrev pub is_number : List ℕ → Bool
is_number [] = false
is_number (c ∷ cs) = all_ascii_digits (c ∷ cs) && (nat_lt 48 c || length cs == 0)

unfoldable pub number_in : List ℕ → Option ℕ
number_in text = if is_number text then Some (digits_value 10 text) else None

-- the number of an extender or of a port of a device: 1 to 64
abbrev pub if_small : ℕ → Option ℕ
if_small n = if nat_lt 0 n && nat_le n 64 then Some n else None

unfoldable pub small_in : List ℕ → Option ℕ
small_in text = option_and_then if_small (number_in text)

-- ---- ports
-- port k of device n, whose number 0 is the bridge
abbrev pub port_at : ℕ → ℕ → ℕ
port_at n k = 64 * n + (k - 1)

-- N.K
abbrev pub extended_in : List (List ℕ) → Option ℕ
extended_in (n ∷ k ∷ []) = option_and_then (λ device. option_map (port_at device) (small_in k)) (small_in n)
extended_in _ = None

-- bK or xN.K
unfoldable pub port_in : List ℕ → Option ℕ
port_in [] = None
port_in (c ∷ rest) =
    if c == 98 then option_map (port_at 0) (small_in rest)
    else if c == 120 then extended_in (slice_split (λ b. b == 46) rest)
    else None

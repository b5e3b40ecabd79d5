-- The words of a file: ports, lists of ports, addresses and fates.
use Rattle.std.specs.Prelude.{ℕ, ◌+◌, ◌-◌, ◌*◌, ◌==◌, ◌&&◌, ◌||◌, Bool, false, nat_le, nat_lt, if◌then◌else◌, List, [], ◌∷◌, length, slice_index, Option, Some, None, option_map, option_and_then, codes}
use Rattle.std.specs.Str.{bytes_eq}
use Rattle.exb_model.specs.declared.address.Mac.{Mac}
use Rattle.exb_model.specs.declared.rules.Accept.{Accept}
use Rattle.exb_model.specs.declared.rules.Accept.TheVariants as accepts
use Rattle.exb_model.specs.declared.vlan.Kind.{Kind}
use Rattle.exb_model.specs.declared.vlan.Kind.TheVariants as kinds
use Rattle.exb_model.specs.declared.setup.Verdict.{Verdict}
use Rattle.exb_model.specs.declared.setup.Verdict.TheVariants as verdicts
use Rattle.exb_toml_keys.specs.declared.text_values.PortPattern.{PortPattern}
use Rattle.exb_toml_keys.specs.declared.text_values.PortPattern.TheVariants as word

infixl 10 ◌>>=◌
abbrev ◌>>=◌ : {A B : Type 0} → Option A → (A → Option B) → Option B
o >>= f = option_and_then f o

-- ---- ports
abbrev pub is_digit : ℕ → Bool
is_digit c = nat_le 48 c && nat_le c 57

-- a number from 1 to 64, without leading zeros
unfoldable pub small : List ℕ → Option ℕ
small [] = None
small (a ∷ []) = if is_digit a && nat_lt 48 a then Some (a - 48) else None
small (a ∷ b ∷ []) =
    if (is_digit a && nat_lt 48 a) && is_digit b
    then (let n = 10 * (a - 48) + (b - 48) in if nat_le n 64 then Some n else None)
    else None
small (a ∷ b ∷ c ∷ more) = None

-- what stands before and after the first byte c
unfoldable pub cut : ℕ → List ℕ → Option (List ℕ × List ℕ)
cut c [] = None
cut c (x ∷ xs) = if x == c then Some ([], xs) else option_map (λ p. (x ∷ p.0, p.1)) (cut c xs)

-- the number of port k of device n, 0 for the bridge
abbrev pub port_number : ℕ → ℕ → ℕ
port_number n k = 64 * n + (k - 1)

-- N.K
unfoldable pub extended_port : List ℕ → Option ℕ
extended_port text = do
  p ← cut 46 text
  n ← small p.0
  k ← small p.1
  Some (port_number n k)

-- bK or xN.K
unfoldable pub port_of : List ℕ → Option ℕ
port_of [] = None
port_of (c ∷ rest) =
    if c == 98 then option_map (λ k. port_number 0 k) (small rest)
    else if c == 120 then extended_port rest
    else None

-- ---- words of a list of ports: *, bK, bA-B, xN.K, xN.A-B or xN.*

-- K, or A-B with A not above B
abbrev pub span_of : List ℕ → Option (List ℕ × List ℕ) → Option (ℕ × ℕ)
span_of text None = option_map (λ k. (k, k)) (small text)
span_of text (Some p) = do
  a ← small p.0
  b ← small p.1
  if nat_le a b then Some (a, b) else None

unfoldable pub span : List ℕ → Option (ℕ × ℕ)
span text = span_of text (cut 45 text)

abbrev pub is_star : List ℕ → Bool
is_star [] = false
is_star (c ∷ rest) = c == 42 && length rest == 0

-- N.K, N.A-B or N.*
unfoldable pub extended_word : List ℕ → Option PortPattern
extended_word text = do
  p ← cut 46 text
  n ← small p.0
  if is_star p.1 then Some (word.Whole n) else (span p.1 >>= λ s.
      Some (word.Ports (port_number n s.0) (port_number n s.1)))

unfoldable pub word_of : List ℕ → Option PortPattern
word_of [] = None
word_of (c ∷ rest) =
    if c == 42 && length rest == 0 then Some word.All
    else if c == 98 then (span rest >>= λ s. Some (word.Ports (port_number 0 s.0) (port_number 0 s.1)))
    else if c == 120 then extended_word rest
    else None

-- ---- addresses

-- the value of a hexadecimal digit, of either case
abbrev pub hex : ℕ → Option ℕ
hex c =
    if nat_le 48 c && nat_le c 57 then Some (c - 48)
    else if nat_le 97 c && nat_le c 102 then Some (c - 87)
    else if nat_le 65 c && nat_le c 70 then Some (c - 55)
    else None

-- the pair that begins at byte i
abbrev pub octet_at : List ℕ → ℕ → Option ℕ
octet_at text i = do
  high ← hex (slice_index text i)
  low ← hex (slice_index text (i + 1))
  Some (16 * high + low)

-- the pairs are joined by this byte
abbrev pub is_joined : ℕ → List ℕ → Bool
is_joined c text =
    (slice_index text 2 == c && slice_index text 5 == c) && ((slice_index text 8 == c && slice_index text 11 == c)
    && slice_index text 14 == c)

-- six pairs of hexadecimal digits, joined by - throughout or by : throughout
unfoldable pub address_of : List ℕ → Option Mac
address_of text =
    if length text == 17 && (is_joined 45 text || is_joined 58 text)
    then (octet_at text 0 >>= λ a. octet_at text 3 >>= λ b. octet_at text 6 >>= λ c. octet_at text 9 >>= λ d.
    octet_at text 12 >>= λ e. octet_at text 15 >>= λ f.
    Some (record { 0 = a ∷ b ∷ c ∷ d ∷ e ∷ f ∷ [] }))
    else None

-- ---- frame types and memberships
abbrev pub accept_of : List ℕ → Option Accept
accept_of s =
    if bytes_eq s (codes "all") then Some accepts.All
    else if bytes_eq s (codes "tagged") then Some accepts.TaggedOnly
    else if bytes_eq s (codes "untagged") then Some accepts.UntaggedOnly
    else None

abbrev pub kind_of : List ℕ → Option Kind
kind_of s =
    if bytes_eq s (codes "tagged") then Some kinds.Tagged
    else if bytes_eq s (codes "untagged") then Some kinds.Untagged
    else None

-- ---- fates: P passes, L loses, T is twice, D is later
abbrev pub verdict_of : ℕ → Option Verdict
verdict_of c =
    if c == 80 then Some verdicts.Pass
    else if c == 76 then Some verdicts.Lose
    else if c == 84 then Some verdicts.Twice
    else if c == 68 then Some verdicts.Later
    else None

unfoldable pub fate_of : List ℕ → Option (List Verdict)
fate_of [] = Some []
fate_of (c ∷ cs) = do
  v ← verdict_of c
  vs ← fate_of cs
  Some (v ∷ vs)

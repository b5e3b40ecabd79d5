-- The groups in use, in the order of their sets' keys and words, by which a set is found.
use Rattle.std.specs.Prelude.{◌≡◌, ℕ, ◌+◌, ◌*◌, ◌%◌, ◌^◌, ◌<◌, ◌≤◌, fold, map, Bool, true, false, not, List, [], Option, Some, None, length, slice_get, slice_range, slice_index, slice_index_or, sum_by, slice_set, nat_lt, ◌++◌, ◌∷◌, insert, remove, if◌then◌else◌}
use Rattle.std.specs.Ordering.{nat_cmp}
use Rattle.std.specs.declared.cmp.Ordering.{Ordering}
use Rattle.std.specs.declared.cmp.Ordering.TheVariants.{Less, Greater}
use Rattle.std.specs.Cmp.Lexicographic.{slice_cmp}
use Rattle.exb_model.specs.declared.port_set.PortSet.{PortSet}
use Rattle.exb_model.specs.Refusals.{is_empty_set}
use Rattle.exb_numbers.specs.Groups.{sets_of}

-- ---- keys
-- the key with a word more
unfoldable pub mixed : ℕ → ℕ → ℕ
mixed key word = (key * 11400714819323198485 % 2 ^ 64 + word) % 2 ^ 64

-- the words as digits of one number
abbrev pub digits : List ℕ → ℕ
digits words = fold mixed 0 words

-- the number of a piece behind that of the pieces before it
unfoldable pub joined : ℕ → ℕ → ℕ
joined key piece = (key * 13787848793156543929 % 2 ^ 64 + piece) % 2 ^ 64

-- a number of a set's words, by which most sets are told apart, of four pieces; that of no port is 0
unfoldable pub key_of : List ℕ → ℕ
key_of words =
    joined (joined (joined (digits (slice_range words 0 16)) (digits (slice_range words 16 32)))
    (digits (slice_range words 32 48))) (digits (slice_range words 48 65))

-- the keys are those of the sets
abbrev pub HaveKeys : List PortSet → List ℕ → Type 0
HaveKeys sets keys = keys ≡ map (λ (s : PortSet). key_of s.words) sets

-- ---- the order
-- the words of a set behind their key, which decides first
abbrev pub rank_of : PortSet → List ℕ
rank_of s = key_of s.words ∷ s.words

abbrev pub ranks_of : Option PortSet → List ℕ
ranks_of None = []
ranks_of (Some s) = rank_of s

-- those of the set at a place
abbrev pub ranks_at : List PortSet → ℕ → List ℕ
ranks_at sets n = ranks_of (slice_get sets n)

abbrev pub compared : List ℕ → List ℕ → Ordering
compared a b = slice_cmp nat_cmp a b

-- the place holds a set
abbrev pub is_held : List (List ℕ) → ℕ → Bool
is_held sets n = not (is_empty_set (slice_index_or sets n []))

-- the words rise along the places
abbrev pub IsRising : (ℕ → List ℕ) → List ℕ → Type 0
IsRising words order = (i j : ℕ) → i < j → j < length order
    → compared (words (slice_index order i)) (words (slice_index order j)) ≡ Less

-- the words are less than w before the index, and greater from it on
pub record SplitsAt (words : ℕ → List ℕ) (order w : List ℕ) (i : ℕ) : Type 0 where
  pub within : i ≤ length order
  pub before : (k : ℕ) → k < i → compared (words (slice_index order k)) w ≡ Less
  pub after : (k : ℕ) → i ≤ k → k < length order → compared (words (slice_index order k)) w ≡ Greater

-- the words at the index are w
pub record IsAt (words : ℕ → List ℕ) (order w : List ℕ) (i : ℕ) : Type 0 where
  pub within : i < length order
  pub same : words (slice_index order i) ≡ w

-- the index at which a place stands
pub record StandsAt (order : List ℕ) (n : ℕ) : Type 0 where
  pub index : ℕ
  pub within : index < length order
  pub is : slice_index order index ≡ n

abbrev pub weight : List ℕ → ℕ
weight set = if is_empty_set set then 0 else 1

-- what the type keeps
pub record AreOrdered (limit : ℕ) (sets : List PortSet) (order : List ℕ) (free : ℕ) : Type 0 where
  pub few : length sets ≤ limit
  pub short : limit ≤ 12288
  pub rising : IsRising (ranks_at sets) order
  pub there : (n : ℕ) → is_held (sets_of sets) n ≡ true → StandsAt order n
  pub held : (i : ℕ) → i < length order → is_held (sets_of sets) (slice_index order i) ≡ true
  pub counted : length order ≡ sum_by weight (sets_of sets)
  pub high : free ≤ length sets
  pub below : (n : ℕ) → n < free → is_held (sets_of sets) n ≡ true
  pub at : is_held (sets_of sets) free ≡ false

-- the list with a new member at a place, or at its end
abbrev pub put_at : List PortSet → ℕ → PortSet → List PortSet
put_at sets n s = if nat_lt n (length sets) then slice_set sets n s else sets ++ s ∷ []

abbrev pub put_key_at : List ℕ → ℕ → ℕ → List ℕ
put_key_at keys n key = if nat_lt n (length keys) then slice_set keys n key else keys ++ key ∷ []

-- a place was put in where the words w belong
pub record IsEntered (words : ℕ → List ℕ) (old w : List ℕ) (n : ℕ) (new : List ℕ) : Type 0 where
  pub index : ℕ
  pub splits : SplitsAt words old w index
  pub is : new ≡ insert old index n

-- the place with the words w was taken out
pub record IsLeft (words : ℕ → List ℕ) (old w new : List ℕ) : Type 0 where
  pub index : ℕ
  pub at : IsAt words old w index
  pub is : new ≡ remove old index

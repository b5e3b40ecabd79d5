-- How a frame is carried down the tree of extenders (after IEEE 802.1BR-2012).
use Rattle.std.specs.Prelude.{◌≡◌, ℕ, zero, suc, ◌<◌, ◌==◌, ◌&&◌, true, not, List, [], ◌∷◌, Some, nat_lt, flat_map, if◌then◌else◌}
use Rattle.exb_model.specs.Lists.{is_listed}
use Rattle.exb_model.specs.Tree.{Shape, HangsOn, device, is_extended, is_under, on}
use Rattle.exb_model.specs.Configuration.{Bridge}
use Rattle.exb_model.specs.ETags.{Tag, read_etag, stripped}
use Rattle.exb_model.specs.Numbers.{Numbers, has_set}
use Rattle.exb_model.specs.ExtenderForwarding.{Tables, emits}

-- What leaves at port q when f enters extender n from upstream: what is sent at q where q is of n, else
-- what is sent at q of all that is carried to q's extender, from at most d extenders above it.
unfoldable pub carried_in : Shape → Tables → ℕ → ℕ → List ℕ → ℕ → List (List ℕ)
carried_in s t zero n f q = if device q == n then emits t q f else []
carried_in s t (suc d) n f q =
    if device q == n then emits t q f
    else (if nat_lt q 64 then [] else flat_map (emits t q) (carried_in s t d n f (on s (device q))))

-- There are at most 64 extenders. The tables are those of all of them.
unfoldable pub carried : Shape → Tables → ℕ → List ℕ → ℕ → List (List ℕ)
carried s t n f q = carried_in s t 64 n f q

-- The tables carry what is in use: a word that enters at bridge port k with the group of a set comes out
-- once at each port of the set, without its E-TAG, but for the port whose own channel is the non-zero
-- ingress number, and a word with a channel comes out at its port. They come out at no other external port.
pub record Carries (t : Shape) (u : Tables) (b : Bridge) (m : Numbers) : Type 0 where
  pub own : (k q c : ℕ) → is_under t k q ≡ true → b.present q ≡ true → m.channel k q ≡ Some c → u.own q ≡ c
  pub groups : (k n g : ℕ) (set : List ℕ) → k < 64 → HangsOn t n k → has_set t k b set ≡ true → m.group k set ≡ Some g →
      (f : List ℕ) (tag : Tag) → read_etag f ≡ Some tag → tag.ecid ≡ g → (q : ℕ) → is_extended t q ≡ true →
      carried t u n f q ≡ (if is_listed set q && not (nat_lt 0 tag.ingress && u.own q == tag.ingress) then stripped f
      ∷ [] else [])
  pub channels : (k n r c : ℕ) → k < 64 → HangsOn t n k → is_under t k r ≡ true → b.present r ≡ true
      → m.channel k r ≡ Some c →
      (f : List ℕ) (tag : Tag) → read_etag f ≡ Some tag → tag.ecid ≡ c → (q : ℕ) → is_extended t q ≡ true →
      carried t u n f q ≡ (if q == r then stripped f ∷ [] else [])

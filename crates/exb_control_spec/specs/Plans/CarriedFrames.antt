-- What comes out of the tree below bridge port k, where extender n hangs on it.
use Rattle.std.specs.Prelude.{◌≡◌, ◌≢◌, ℕ, ◌<◌, ◌≤◌, ◌==◌, ◌&&◌, Bool, true, not, List, [], ◌∷◌, Some, None, nat_lt, find, flat_map, if◌then◌else◌}
use Rattle.exb_model.specs.ETags.{Tag, read_etag, stripped}
use Rattle.exb_model.specs.Tree.{Shape, IsTree, HangsOn, device, path, is_port, is_extended, is_under, is_cascade_under}
use Rattle.exb_model.specs.TreeSets.{covers}
use Rattle.exb_model.specs.ExtenderForwarding.{Tables, emits}
use Rattle.exb_model.specs.Carriage.{carried}
use Rattle.exb_control_spec.specs.Plans.LaidRows.{IsLaid}

-- What is carried, from the top: at a port that isn't of extender n, what leaves is what n sends at its
-- port c towards it, carried into the extender m that hangs there.
abbrev pub CarriedFromTheTop : Type 0
CarriedFromTheTop =
    (s : Shape) (t : Tables) (n m c : ℕ) (f : List ℕ) (q : ℕ) → IsTree s → 64 ≤ q → is_port s q ≡ true → device q ≢ n →
    find (λ x. device x == n) (path s.on q) ≡ Some c → HangsOn s m c →
    carried s t n f q ≡ flat_map (λ g. carried s t m g q) (emits t c f)

-- A word with a group's number that enters at bridge port k comes out once at each port of the set,
-- without its E-TAG, but for the port whose own channel is the non-zero ingress number. It comes out at
-- no other external port of any extender.
abbrev pub GroupWordsCarry : Type 0
GroupWordsCarry =
    (s : Shape) (t : Tables) (k n : ℕ) (set : ℕ → Bool) (number : ℕ) → IsTree s → k < 64 → HangsOn s n k →
    ((p : ℕ) → set p ≡ true → is_under s k p ≡ true) → 4096 ≤ number → IsLaid s t k set number →
    (f : List ℕ) (tag : Tag) → read_etag f ≡ Some tag → tag.ecid ≡ number → (q : ℕ) → is_extended s q ≡ true →
    carried s t n f q ≡ (if set q && not (nat_lt 0 tag.ingress && t.own q == tag.ingress) then stripped f ∷ [] else [])

-- A word with the channel of an external port comes out once at that port, without its E-TAG, whatever
-- its ingress number, and at no other external port of any extender.
abbrev pub ChannelWordsCarry : Type 0
ChannelWordsCarry =
    (s : Shape) (t : Tables) (k n p : ℕ) → IsTree s → k < 64 → HangsOn s n k → is_under s k p ≡ true → t.own p < 4096 →
    IsLaid s t k (λ x. x == p) (t.own p) →
    (f : List ℕ) (tag : Tag) → read_etag f ≡ Some tag → tag.ecid ≡ t.own p → (q : ℕ) → is_extended s q ≡ true →
    carried s t n f q ≡ (if q == p then stripped f ∷ [] else [])

-- A word with the channel of cascade port c, with no E-TAG inside, comes out at c without its E-TAG. It
-- passes the ports above c as it is, and comes out at no other port of any extender.
abbrev pub ControlWordsCarry : Type 0
ControlWordsCarry =
    (s : Shape) (t : Tables) (k n c : ℕ) → IsTree s → k < 64 → HangsOn s n k → is_cascade_under s k c ≡ true
    → t.own c < 4096 →
    IsLaid s t k (λ x. x == c) (t.own c) →
    (f : List ℕ) (tag : Tag) → read_etag f ≡ Some tag → tag.ecid ≡ t.own c → read_etag (stripped f) ≡ None →
    (q : ℕ) → 64 ≤ q → is_port s q ≡ true →
    carried s t n f q ≡ (if q == c then stripped f ∷ [] else (if covers s (λ x. x == c) q then f ∷ [] else []))

-- What is gathered, word by word.
use Rattle.std.proofs.Common.{◌≡◌, ℕ, ◌+◌, ◌<◌, ◌≤◌, Bool, true, false, if◌then◌else◌, List, [], ◌∷◌, map, length, drop, get_or, Option, Some, None, option_map, option_and_then, codes, refl, sym, ap, ◌∙◌, arith}
use Rattle.std.specs.Str.{bytes_eq}
use Rattle.std.proofs.lemmas.List.{at_drop_more, at_drop_all}
use Rattle.std.proofs.lemmas.Slice.Eq.{bytes_eq-Decides}
use Rattle.exb_cli.specs.CommandLines.{Item, Name, Seed, number_in, item_of, items_of, with_item}
use Rattle.exb_cli.specs.ParserSteps.{Gathered, with_one, with_all, gathered}

-- ---- names alone
pub names-more : {X : Type 0} (f : X → List ℕ) (ws : List X) (i : ℕ) (w : X) (g : Gathered) → i < length ws → w ≡ get_or ws i w →
    with_all (map Name (map f (drop i ws))) g ≡ option_and_then (with_all (map Name (map f (drop (i + 1) ws)))) (with_one (Name (f w)) g)
unfolding with_all
names-more f ws i w g l is =
    at_drop_more (λ xs. with_all (map Name (map f xs)) g) ws i w l ∙ ap (λ x. with_all (Name (f x) ∷ map Name (map f (drop (i + 1) ws))) g) (sym is)

pub names-end : {X : Type 0} (f : X → List ℕ) (ws : List X) (i : ℕ) (g : Gathered) → length ws ≤ i → with_all (map Name (map f (drop i ws))) g ≡ Some g
unfolding with_all
names-end f ws i g end = at_drop_all (λ xs. with_all (map Name (map f xs)) g) ws i end

-- ---- all words
pub gathered-end : (g : Gathered) → gathered [] g ≡ Some g
unfolding gathered items_of with_all
gathered-end g = refl

abbrev after_items : Option (List Item) → Gathered → Option Gathered
after_items is g = option_and_then (λ xs. with_all xs g) is

none_of : (o : Option Gathered) → option_and_then {T = Gathered} {U = Gathered} (λ s. None) o ≡ None
none_of None = refl
none_of (Some s) = refl

-- with one item more
with_item-all : (i : Option Item) (is : Option (List Item)) (g : Gathered) →
    after_items (with_item i is) g ≡ option_and_then (after_items is) (option_and_then (λ x. with_one x g) i)
unfolding with_all
with_item-all None is g = refl
with_item-all (Some i) None g = sym (none_of (with_one i g))
with_item-all (Some i) (Some is) g = refl

pub gathered-dashes : (w : List ℕ) (ws : List (List ℕ)) (g : Gathered) → bytes_eq w (codes "--") ≡ true → gathered (w ∷ ws) g ≡ with_all (map Name ws) g
unfolding gathered items_of
gathered-dashes w [] g is = ap (λ (b : Bool). after_items (if b then Some [] else with_item (item_of w) (Some [])) g) is
gathered-dashes w (v ∷ ws) g is =
    ap (λ (b : Bool). after_items (if b then Some (map Name (v ∷ ws)) else (if bytes_eq w (codes "--seed") then with_item (option_map Seed (number_in v)) (items_of ws) else with_item (item_of w) (items_of (v ∷ ws)))) g) is

by_number : (f : Gathered → Option Gathered) (g : Gathered) (o : Option ℕ) →
    option_and_then f (option_and_then (λ x. with_one x g) (option_map Seed o)) ≡ option_and_then f (option_and_then (λ n. with_one (Seed n) g) o)
by_number f g None = refl
by_number f g (Some n) = refl

pub gathered-seed : (w v : List ℕ) (ws : List (List ℕ)) (g : Gathered) → bytes_eq w (codes "--") ≡ false → bytes_eq w (codes "--seed") ≡ true →
    gathered (w ∷ v ∷ ws) g ≡ option_and_then (gathered ws) (option_and_then (λ n. with_one (Seed n) g) (number_in v))
unfolding gathered items_of
gathered-seed w v ws g other is =
    ap (λ (b : Bool). after_items (if b then Some (map Name (v ∷ ws)) else (if bytes_eq w (codes "--seed") then with_item (option_map Seed (number_in v)) (items_of ws) else with_item (item_of w) (items_of (v ∷ ws)))) g) other
    ∙ (ap (λ (b : Bool). after_items (if b then with_item (option_map Seed (number_in v)) (items_of ws) else with_item (item_of w) (items_of (v ∷ ws))) g) is
    ∙ (with_item-all (option_map Seed (number_in v)) (items_of ws) g ∙ by_number (after_items (items_of ws)) g (number_in v)))

pub gathered-word : (w : List ℕ) (ws : List (List ℕ)) (g : Gathered) → bytes_eq w (codes "--") ≡ false → bytes_eq w (codes "--seed") ≡ false →
    gathered (w ∷ ws) g ≡ option_and_then (gathered ws) (option_and_then (λ i. with_one i g) (item_of w))
unfolding gathered items_of
gathered-word w [] g other third =
    ap (λ (b : Bool). after_items (if b then Some [] else with_item (item_of w) (Some [])) g) other ∙ with_item-all (item_of w) (Some []) g
gathered-word w (v ∷ ws) g other third =
    ap (λ (b : Bool). after_items (if b then Some (map Name (v ∷ ws)) else (if bytes_eq w (codes "--seed") then with_item (option_map Seed (number_in v)) (items_of ws) else with_item (item_of w) (items_of (v ∷ ws)))) g) other
    ∙ (ap (λ (b : Bool). after_items (if b then with_item (option_map Seed (number_in v)) (items_of ws) else with_item (item_of w) (items_of (v ∷ ws))) g) third
    ∙ with_item-all (item_of w) (items_of (v ∷ ws)) g)

-- `--seed` wants a word behind it
pub gathered-seed_last : (w : List ℕ) (g : Gathered) → bytes_eq w (codes "--") ≡ false → bytes_eq w (codes "--seed") ≡ true → gathered (w ∷ []) g ≡ None
unfolding gathered items_of item_of
gathered-seed_last w g other is =
    ap (λ (b : Bool). after_items (if b then Some [] else with_item (item_of w) (Some [])) g) other
    ∙ ap (λ (x : List ℕ). after_items (with_item (item_of x) (Some [])) g) ((bytes_eq-Decides w (codes "--seed")).0 is)

-- ---- one step more
pub names-stop : {X : Type 0} (f : X → List ℕ) (ws : List X) (i : ℕ) (w : X) (g : Gathered) (b : List ℕ) (whole : Option Gathered) → i < length ws → w ≡ get_or ws i w →
    b ≡ f w → None ≡ with_one (Name b) g → with_all (map Name (map f (drop i ws))) g ≡ whole → None ≡ whole
names-stop f ws i w g b whole l is bytes none left =
    ap (option_and_then (with_all (map Name (map f (drop (i + 1) ws))))) (none ∙ ap (λ x. with_one (Name x) g) bytes)
    ∙ (sym (names-more f ws i w g l is) ∙ left)

pub names-go : {X : Type 0} (f : X → List ℕ) (ws : List X) (i : ℕ) (w : X) (g h : Gathered) (b : List ℕ) (whole : Option Gathered) → i < length ws → w ≡ get_or ws i w →
    b ≡ f w → Some h ≡ with_one (Name b) g → with_all (map Name (map f (drop i ws))) g ≡ whole → with_all (map Name (map f (drop (i + 1) ws))) h ≡ whole
names-go f ws i w g h b whole l is bytes some left =
    ap (option_and_then (with_all (map Name (map f (drop (i + 1) ws))))) (some ∙ ap (λ x. with_one (Name x) g) bytes)
    ∙ (sym (names-more f ws i w g l is) ∙ left)

same_rest : (rest ws : List (List ℕ)) (g : Gathered) (whole : Option Gathered) → rest ≡ ws → gathered rest g ≡ whole → gathered ws g ≡ whole
same_rest rest ws g whole e left = ap (λ xs. gathered xs g) (sym e) ∙ left

pub read-dashes : (rest ws : List (List ℕ)) (w : List ℕ) (g : Gathered) (whole : Option Gathered) → rest ≡ w ∷ ws → bytes_eq w (codes "--") ≡ true →
    gathered rest g ≡ whole → with_all (map Name ws) g ≡ whole
read-dashes rest ws w g whole e is left = sym (gathered-dashes w ws g is) ∙ same_rest rest (w ∷ ws) g whole e left

pub read-seed : (rest ws : List (List ℕ)) (w v : List ℕ) (g : Gathered) (o whole : Option Gathered) → rest ≡ w ∷ v ∷ ws → bytes_eq w (codes "--") ≡ false → bytes_eq w (codes "--seed") ≡ true →
    o ≡ option_and_then (λ n. with_one (Seed n) g) (number_in v) → gathered rest g ≡ whole → option_and_then (gathered ws) o ≡ whole
read-seed rest ws w v g o whole e other is one left =
    ap (option_and_then (gathered ws)) one ∙ (sym (gathered-seed w v ws g other is) ∙ same_rest rest (w ∷ v ∷ ws) g whole e left)

pub read-seed_last : (rest : List (List ℕ)) (w : List ℕ) (g : Gathered) (whole : Option Gathered) → rest ≡ w ∷ [] → bytes_eq w (codes "--") ≡ false → bytes_eq w (codes "--seed") ≡ true →
    gathered rest g ≡ whole → None ≡ whole
read-seed_last rest w g whole e other is left = sym (gathered-seed_last w g other is) ∙ same_rest rest (w ∷ []) g whole e left

pub read-word : (rest ws : List (List ℕ)) (w : List ℕ) (g : Gathered) (o whole : Option Gathered) → rest ≡ w ∷ ws → bytes_eq w (codes "--") ≡ false → bytes_eq w (codes "--seed") ≡ false →
    o ≡ option_and_then (λ i. with_one i g) (item_of w) → gathered rest g ≡ whole → option_and_then (gathered ws) o ≡ whole
read-word rest ws w g o whole e other third one left =
    ap (option_and_then (gathered ws)) one ∙ (sym (gathered-word w ws g other third) ∙ same_rest rest (w ∷ ws) g whole e left)

pub read-end : (rest : List (List ℕ)) (g : Gathered) (whole : Option Gathered) → rest ≡ [] → gathered rest g ≡ whole → Some g ≡ whole
read-end rest g whole e left = sym (gathered-end g) ∙ same_rest rest [] g whole e left

-- a slice of texts by its first and its rest
pub texts-first : {X : Type 0} (f : X → List ℕ) (xs rest : List X) (x : X) (b : List ℕ) → xs ≡ x ∷ rest → b ≡ f x → map f xs ≡ b ∷ map f rest
texts-first f xs rest x b e bytes = ap (map f) e ∙ ap (λ w. w ∷ map f rest) (sym bytes)

pub texts-two : {X : Type 0} (f : X → List ℕ) (xs ys rest : List X) (x y : X) (b c : List ℕ) → xs ≡ x ∷ ys → b ≡ f x → ys ≡ y ∷ rest → c ≡ f y → map f xs ≡ b ∷ c ∷ map f rest
texts-two f xs ys rest x y b c e bytes d more = texts-first f xs ys x b e bytes ∙ ap (λ ws. b ∷ ws) (texts-first f ys rest y c d more)

pub texts-none : {X : Type 0} (f : X → List ℕ) (xs : List X) → length xs ≡ 0 → map f xs ≡ []
texts-none f [] e = refl
texts-none f (x ∷ xs) e = absurd (omega (arith, e))

-- A fate for each bridge, one after another.
use Rattle.std.proofs.Common.{◌≡◌, ℕ, zero, suc, ◌+◌, ◌-◌, ◌<◌, ◌≤◌, ◌^◌, ◌++◌, List, [], ◌∷◌, length, get_or, drop, take, map, length-append, length-drop, refl, ap, sym, ◌∙◌, subst, arith, inl, inr}
use Rattle.std.specs.Prelude.{All, Some, remove, slice_get}
use Rattle.std.proofs.lemmas.Bool.{cases_eq}
use Rattle.std.proofs.lemmas.List.{drop_more, get_or-drop, take_all, take_more}
use Rattle.std.proofs.lemmas.Option.{none-some, same_Some, slice_get_within}
use Rattle.exb_topology.specs.Soundness.{IsSound}
use Rattle.exb_net_file.specs.declared.net_parts.BridgeInputs.{BridgeInputs}
use Rattle.exb_net_file.specs.declared.members.NetMember.{NetMember}
use Rattle.exb_net_file.specs.SetupParts.{rest_of}
use Rattle.exb_net.specs.PairedLists.{AreEach}
use Rattle.exb_net.proofs.ListPlaces.{all_by, is_there, of_all, put_here, put_there}

-- ---- two lists that grow together
module _ {A B : Type 0} (R : ℕ → A → B → Type 0) where
  pub no_pairs : (ys : List B) → ys ≡ [] → AreEach R [] ys
  no_pairs ys e = record { long = ap (λ (zs : List B). length zs) e; each = λ k x y x_is. absurd (none-some x x_is) }

  pub one_pair : (xs : List A) (ys : List B) (x : A) (y : B) → R (length ys) x y → AreEach R xs ys → AreEach R (xs ++ x ∷ []) (ys ++ y ∷ [])
  one_pair xs ys x y r a =
      record {
        long = length-append ys (y ∷ []) ∙ (ap (λ (n : ℕ). n + 1) a.long ∙ sym (length-append xs (x ∷ [])));
        each = λ k u v u_is v_is. elim (cases_eq k (length ys)) [
          | inl e ↦
              let u_at : slice_get (xs ++ x ∷ []) (length xs) ≡ Some u = subst (λ (z : ℕ). slice_get (xs ++ x ∷ []) z ≡ Some u) (e ∙ a.long) u_is in
              let v_at : slice_get (ys ++ y ∷ []) (length ys) ≡ Some v = subst (λ (z : ℕ). slice_get (ys ++ y ∷ []) z ≡ Some v) e v_is in
              let u_same : x ≡ u = same_Some x u (sym (put_here xs x) ∙ u_at) in
              let v_same : y ≡ v = same_Some y v (sym (put_here ys y) ∙ v_at) in
              subst (λ (z : ℕ). R z u v) (sym e) (subst (λ (z : B). R (length ys) u z) v_same (subst (λ (z : A). R (length ys) z y) u_same r))
          | inr ne ↦
              let low = slice_get_within (ys ++ y ∷ []) k v v_is in
              let long = length-append ys (y ∷ []) in
              let same = a.long in
              let below : k < length ys = omega (arith, low, long, ne) in
              let below_x : k < length xs = omega (arith, below, same) in
              a.each k u v (sym (put_there xs x k below_x) ∙ u_is) (sym (put_there ys y k below) ∙ v_is)
        ];
      }

-- ---- what is taken from the front, one after another
module _ {A : Type 0} (xs : List A) (i : ℕ) (low : i < length xs) where
  pub next_is : (ys : List A) (x : A) → ys ≡ drop i xs → x ≡ get_or ys 0 x → x ≡ get_or xs i x
  next_is ys x e is = is ∙ (ap (λ (zs : List A). get_or zs 0 x) e ∙ (get_or-drop i xs 0 x ∙ ap (λ (k : ℕ). get_or xs k x) (same i)))
    where
      same : (k : ℕ) → k + 0 ≡ k
      same k = omega arith

  pub rest_is : (ys zs : List A) (x : A) → ys ≡ drop i xs → zs ≡ remove ys 0 → zs ≡ drop (i + 1) xs
  rest_is ys zs x e r = r ∙ ap (λ (ws : List A). remove ws 0) (e ∙ drop_more xs i x low)

  -- it is one of which P holds
  pub next_holds : (P : A → Type 0) (x : A) → All P xs → x ≡ get_or xs i x → P x
  next_holds P x all is = subst P (sym is) (all i x low)

  pub front_is : (x : A) → x ≡ get_or xs i x → take (i + 1) xs ≡ take i xs ++ x ∷ []
  front_is x is = take_more xs i x low ∙ ap (λ (z : A). take i xs ++ z ∷ []) (sym is)

-- the first is the front of one
none_taken : {A : Type 0} (xs : List A) → take 0 xs ≡ []
none_taken [] = refl
none_taken (x ∷ xs) = refl

pub first_taken : {A : Type 0} (xs : List A) (x : A) → 1 ≤ length xs → x ≡ get_or xs 0 x → x ∷ [] ≡ take 1 xs
first_taken [] x low is = absurd (omega (arith, low))
first_taken {A} (y ∷ ys) x low is = ap (λ (z : A). z ∷ []) is ∙ ap (λ (zs : List A). y ∷ zs) (sym (none_taken ys))

-- the others
others_are : {A : Type 0} (xs : List A) → take (length xs - 1) (drop 1 xs) ≡ drop 1 xs
others_are xs = take_all (length xs - 1) (drop 1 xs) (let size = length-drop 1 xs in omega (arith, size))

pub other_is : {A : Type 0} (xs : List A) (i : ℕ) (x : A) → x ≡ get_or (take (length xs - 1) (drop 1 xs)) i x → x ≡ get_or xs (i + 1) x
other_is xs i x is = is ∙ (ap (λ (ys : List _). get_or ys i x) (others_are xs) ∙ (get_or-drop 1 xs i x ∙ ap (λ (k : ℕ). get_or xs k x) (same i)))
  where
    same : (k : ℕ) → 1 + k ≡ k + 1
    same k = omega arith

pub other_low : {A : Type 0} (xs : List A) (i : ℕ) → i < length (take (length xs - 1) (drop 1 xs)) → i + 1 < length xs
other_low xs i low = let size = length-drop 1 xs in let same = ap (λ (ys : List _). length ys) (others_are xs) in omega (arith, low, size, same)

-- all were taken
pub all_taken : {A : Type 0} (xs : List A) (i : ℕ) → length (take (length xs - 1) (drop 1 xs)) ≤ i → take (i + 1) xs ≡ xs
all_taken xs i high = take_all (i + 1) xs (let size = length-drop 1 xs in let same = ap (λ (ys : List _). length ys) (others_are xs) in omega (arith, high, size, same))

-- ---- letters of fates
-- a sound topology has few
pub rests_few : (ms : List NetMember) → All (λ (m : NetMember). IsSound m.topology) ms → All (λ (r : BridgeInputs). length r.fate ≤ 60000) (map rest_of ms)
rests_few [] sound k d low = absurd (omega (arith, low))
rests_few (m ∷ ms) sound zero d low = (let letters = (sound 0 m (omega arith)).few_letters in omega (arith, letters))
rests_few (m ∷ ms) sound (suc k) d low = rests_few ms (λ j e under. sound (suc j) e (omega (arith, under))) k d (omega (arith, low))

-- fates that are armed for their opening are within what a world takes
pub armed_few : {F : Type 0} (left : F → ℕ) (rests : List BridgeInputs) (fates : List F) → All (λ (r : BridgeInputs). length r.fate ≤ 60000) rests → AreEach (λ b (r : BridgeInputs) f. left f < 2 ^ 56 + length r.fate) rests fates → All (λ f. left f < 2 ^ 57) fates
armed_few left rests fates few armed = all_by (λ f. left f < 2 ^ 57) fates λ b f is.
    (let low = slice_get_within fates b f is in
    let long = armed.long in
    let there = is_there rests b (omega (arith, low, long)) in
    let letters = of_all (λ (r : BridgeInputs). length r.fate ≤ 60000) rests b there.0 few there.1 in
    let left_is = armed.each b there.0 f there.1 is in
    omega (arith, letters, left_is))

-- The spaces, bridge port by bridge port.
use Rattle.std.proofs.Common.{◌≡◌, ℕ, ◌+◌, ◌<◌, Bool, true, false, cond, ◌&&◌, List, [], ◌∷◌, ◌++◌, length, get_or, replicate, refl, sym, ap, ◌∙◌, inl, inr, arith, length-append}
use Rattle.std.specs.Prelude.{Option, None, nat_lt}
use Rattle.std.proofs.lemmas.Bool.{cases_eq, cases_lt, false≢true, and_parts, lt-ltb, le-ltb}
use Rattle.exb_model.specs.Tree.{Shape, is_cascade}
use Rattle.std.proofs.lemmas.List.{get_or_push, get_or_append_left}
use Rattle.exb_numbers.specs.Groups.{Groups, set_of}
use Rattle.exb_numbers.specs.Spaces.{Spaces, has_space, channels_at, groups_at, no_groups, IsAdded}

-- ---- one list more
read_new : {X : Type 0} (xs : List X) (y d : X) → get_or (xs ++ y ∷ []) (length xs) d ≡ y
read_new xs y d = get_or_push xs y d (length xs) refl

read_old : {X : Type 0} (xs : List X) (y d : X) (k : ℕ) → k < length xs → get_or (xs ++ y ∷ []) k d ≡ get_or xs k d
read_old xs y d k h = get_or_append_left xs (y ∷ []) d k h

longer : {X : Type 0} (xs : List X) (y : X) (n : ℕ) → length xs ≡ n → length (xs ++ y ∷ []) ≡ n + 1
longer xs y n e = let l = length-append xs (y ∷ []) in omega (arith, l, e)

-- the spaces of the first n bridge ports are there
pub record AreBuilt (t : Shape) (channels groups : ℕ) (v : Spaces) (n : ℕ) : Type 0 where
  pub cascades_len : length v.cascades ≡ n
  pub channels_len : length v.channels ≡ n
  pub groups_len : length v.groups ≡ n
  pub cascade : (k : ℕ) → k < n → get_or v.cascades k false ≡ is_cascade t k
  pub channels_free : (k : ℕ) → k < n → get_or v.cascades k false ≡ true → channels_at v k ≡ replicate (channels + 1) None
  pub groups_free : (k : ℕ) → k < n → get_or v.cascades k false ≡ true → (g : ℕ) → set_of (groups_at v k) g ≡ []
  pub limit : (k : ℕ) → k < n → get_or v.cascades k false ≡ true → (groups_at v k).limit ≡ groups

pub built_none : (t : Shape) (channels groups : ℕ) (v : Spaces) → v.cascades ≡ [] → v.channels ≡ [] → v.groups ≡ [] → AreBuilt t channels groups v 0
built_none t channels groups v a b c = record {
  cascades_len = ap length a;
  channels_len = ap length b;
  groups_len = ap length c;
  cascade = λ k h. absurd (omega arith);
  channels_free = λ k h. absurd (omega arith);
  groups_free = λ k h. absurd (omega arith);
  limit = λ k h. absurd (omega arith);
}

pub built_more : (t : Shape) (channels groups : ℕ) (old new : Spaces) (n : ℕ) (is : Bool) → AreBuilt t channels groups old n → is ≡ is_cascade t n →
    IsAdded old is channels groups new → AreBuilt t channels groups new (n + 1)
built_more t channels groups old new n is b told a = record {
  cascades_len = ap length a.cascades ∙ longer old.cascades is n b.cascades_len;
  channels_len = ap length a.channels_are ∙ longer old.channels _ n b.channels_len;
  groups_len = ap length a.groups_are ∙ longer old.groups a.group n b.groups_len;
  cascade = λ k h. elim (cases_eq k n) [
    | inl e ↦ cascade_new k e ∙ told ∙ ap (is_cascade t) (sym e)
    | inr e ↦ cascade_old k (omega arith) ∙ b.cascade k (omega arith)
  ];
  channels_free = λ k h yes'. elim (cases_eq k n) [
    | inl e ↦ channels_new k e ∙ ap (λ (c : Bool). replicate (cond c channels 0 + 1) None) (sym (cascade_new k e) ∙ yes')
    | inr e ↦ channels_old k (omega arith) ∙ b.channels_free k (omega arith) (sym (cascade_old k (omega arith)) ∙ yes')
  ];
  groups_free = λ k h yes' g. elim (cases_eq k n) [
    | inl e ↦ ap (λ (x : Groups). set_of x g) (groups_new k e) ∙ a.free g
    | inr e ↦ ap (λ (x : Groups). set_of x g) (groups_old k (omega arith)) ∙ b.groups_free k (omega arith) (sym (cascade_old k (omega arith)) ∙ yes') g
  ];
  limit = λ k h yes'. elim (cases_eq k n) [
    | inl e ↦ ap (λ (x : Groups). x.limit) (groups_new k e) ∙ a.limit ∙ ap (λ (c : Bool). cond c groups 0) (sym (cascade_new k e) ∙ yes')
    | inr e ↦ ap (λ (x : Groups). x.limit) (groups_old k (omega arith)) ∙ b.limit k (omega arith) (sym (cascade_old k (omega arith)) ∙ yes')
  ];
}
  where
    cascade_new : (k : ℕ) → k ≡ n → get_or new.cascades k false ≡ is
    cascade_new k e = ap (λ (xs : List Bool). get_or xs k false) a.cascades ∙ ap (λ (j : ℕ). get_or (old.cascades ++ is ∷ []) j false) (e ∙ sym b.cascades_len) ∙ read_new old.cascades is false

    cascade_old : (k : ℕ) → k < n → get_or new.cascades k false ≡ get_or old.cascades k false
    cascade_old k h = ap (λ (xs : List Bool). get_or xs k false) a.cascades ∙ read_old old.cascades is false k (let z = b.cascades_len in omega (arith, h, z))

    channels_new : (k : ℕ) → k ≡ n → channels_at new k ≡ replicate (cond is channels 0 + 1) None
    channels_new k e =
        ap (λ (xs : List (List (Option ℕ))). get_or xs k []) a.channels_are
        ∙ ap (λ (j : ℕ). get_or (old.channels ++ replicate (cond is channels 0 + 1) None ∷ []) j []) (e ∙ sym b.channels_len) ∙ read_new old.channels (replicate (cond is channels 0 + 1) None) []

    channels_old : (k : ℕ) → k < n → channels_at new k ≡ channels_at old k
    channels_old k h =
        ap (λ (xs : List (List (Option ℕ))). get_or xs k []) a.channels_are
        ∙ read_old old.channels (replicate (cond is channels 0 + 1) None) [] k (let z = b.channels_len in omega (arith, h, z))

    groups_new : (k : ℕ) → k ≡ n → groups_at new k ≡ a.group
    groups_new k e =
        ap (λ (xs : List Groups). get_or xs k no_groups) a.groups_are
        ∙ ap (λ (j : ℕ). get_or (old.groups ++ a.group ∷ []) j no_groups) (e ∙ sym b.groups_len) ∙ read_new old.groups a.group no_groups

    groups_old : (k : ℕ) → k < n → groups_at new k ≡ groups_at old k
    groups_old k h = ap (λ (xs : List Groups). get_or xs k no_groups) a.groups_are ∙ read_old old.groups a.group no_groups k (let z = b.groups_len in omega (arith, h, z))

-- ---- all of them
pub all_spaces : (t : Shape) (channels groups : ℕ) (v : Spaces) (n : ℕ) → AreBuilt t channels groups v n → n ≡ 64 → (k : ℕ) → has_space v k ≡ (nat_lt k 64 && is_cascade t k)
all_spaces t channels groups v n b end k =
    elim (cases_lt k n) [
      | inl l ↦
          rw (lt-ltb k (length v.channels) (let z = b.channels_len in omega (arith, l, z)), lt-ltb k (length v.groups) (let z = b.groups_len in omega (arith, l, z)), lt-ltb k 64 (omega arith))
          (b.cascade k l)
      | inr l ↦
          rw (le-ltb k (length v.channels) (let z = b.channels_len in omega (arith, l, z)), le-ltb k 64 (omega arith)) refl
    ]

pub spaced : (v : Spaces) (k : ℕ) → has_space v k ≡ true → (k < length v.channels) × (get_or v.cascades k false ≡ true)
spaced v k h =
    let last = and_parts (nat_lt k (length v.channels) && nat_lt k (length v.groups)) (get_or v.cascades k false) h in
    let first = and_parts (nat_lt k (length v.channels)) (nat_lt k (length v.groups)) last.0 in
    (elim (cases_lt k (length v.channels)) [ inl l ↦ l | inr l ↦ absurd (false≢true (sym (le-ltb k (length v.channels) l) ∙ first.0)) ], last.1)

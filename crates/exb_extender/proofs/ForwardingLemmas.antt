-- Replicating a frame: the ports of a word, lowest first.
use Rattle.std.proofs.Common.{◌≡◌, ◌≢◌, ◌⊎◌, ℕ, zero, suc, ◌+◌, ◌-◌, ◌*◌, ◌%◌, ◌^◌, ◌<◌, ◌≤◌, ◌==◌, ◌&&◌, not, Bool, true, false, cond, nat_lt, nat_le, List, [], ◌∷◌, ◌++◌, length, map, refl, ap, sym, ◌∙◌, subst, arith, inl, inr, append_assoc, length-append}
use Rattle.std.specs.Prelude.{Option, Some, None}
use Rattle.std.specs.Prelude.{All}
use Rattle.std.specs.List.{flat_map, range_with_len, AllByRecursion}
use Rattle.std.proofs.lemmas.List.Elements.{All-from_recursion}
use Rattle.exb_model.specs.Frames.{number_at}
use Rattle.std.specs.Int.{w64, bit_at, bit_not, trailing_zeros}
use Rattle.std.proofs.lemmas.Bool.{and_parts, leb-true, cases_eq, cases_Bool, le-ltb, and_right, and_from, ne_eqb, eq-eqb, lt-ltb, le-leb, both_ways}
use Rattle.std.proofs.lemmas.Nat.{and_le_l}
use Rattle.std.proofs.lemmas.Nat.Bits.{bit_at-trailing_zeros, bit_at_clear_same}
use Rattle.std.proofs.lemmas.List.{map-append, append-nil}
use Rattle.exb_model.specs.ETags.{Tag, has_etag, read_etag, stripped}
use Rattle.exb_model.specs.ExtenderForwarding.{emits, emits_tagged, left_out, bare}
use Rattle.exb_csp.specs.Execution.{ExtenderTables, in_mask}
use Rattle.exb_csp.proofs.ExecutionLaws.{mask_empty, and_true}
use Rattle.exb_csp.proofs.ExecutionLoops.{without}
use Rattle.exb_extender.specs.declared.sends.Form.TheVariants.{AsIs, Stripped}
use Rattle.exb_extender.specs.declared.sends.Out.{Out}
use Rattle.exb_extender.specs.declared.sends.Side.TheVariants.{Up, Port}
use Rattle.exb_extender.specs.Forwarding.{Sent, forwarding_of, sent_at, sent_from_cascade, sent_from_external, emitted}
use Rattle.exb_extender.specs.SentFrames.{CanBeGiven, out_sent, form_at, listed_at, outs_at, outs_where}
use Rattle.exb_extender.proofs.TableLemmas.{in_mask-without}

-- ---- lists made of the numbers of a range

module _ {X : Type 0} (f g : ℕ → List X) where
  pub flat_map-agree : (a n : ℕ) → ((q : ℕ) → a ≤ q → q < a + n → f q ≡ g q) → flat_map f (range_with_len a n) ≡ flat_map g (range_with_len a n)
  flat_map-agree a zero same = refl
  flat_map-agree a (suc n) same =
      ap (λ xs. xs ++ flat_map f (range_with_len (a + 1) n)) (same a (omega arith) (omega arith))
      ∙ ap (λ xs. g a ++ xs) (flat_map-agree (a + 1) n (λ q low high. same q (omega arith) (omega arith)))

  -- where the first number that gives something gives it no more
  pub flat_map-first : (a n k : ℕ) → a ≤ k → k < a + n
      → ((q : ℕ) → q < k → f q ≡ []) → ((q : ℕ) → q ≤ k → g q ≡ []) → ((q : ℕ) → k < q → f q ≡ g q)
      → flat_map f (range_with_len a n) ≡ f k ++ flat_map g (range_with_len a n)
  flat_map-first a zero k low high before none after = absurd (omega arith)
  flat_map-first a (suc n) k low high before none after =
      elim (cases_eq a k) [
        | inl here ↦
            ap (λ q. f q ++ flat_map f (range_with_len (a + 1) n)) here
            ∙ ap (λ xs. f k ++ xs) (flat_map-agree (a + 1) n (λ q above under. after q (omega arith)))
            ∙ ap (λ xs. f k ++ (xs ++ flat_map g (range_with_len (a + 1) n))) (sym (none a (omega arith)))
        | inr later ↦
            ap (λ xs. xs ++ flat_map f (range_with_len (a + 1) n)) (before a (omega arith))
            ∙ flat_map-first (a + 1) n k (omega arith) (omega arith) before none after
            ∙ ap (λ xs. f k ++ (xs ++ flat_map g (range_with_len (a + 1) n))) (sym (none a (omega arith)))
      ]

module _ {X : Type 0} (f : ℕ → List X) where
  pub flat_map-none : (a n : ℕ) → ((q : ℕ) → a ≤ q → f q ≡ []) → flat_map f (range_with_len a n) ≡ []
  flat_map-none a zero none = refl
  flat_map-none a (suc n) none = ap (λ xs. xs ++ flat_map f (range_with_len (a + 1) n)) (none a (omega arith)) ∙ flat_map-none (a + 1) n (λ q low. none q (omega arith))

  -- what numbers from the count on give nothing
  pub flat_map-shorter : (a n m : ℕ) → n ≤ m → ((q : ℕ) → a + n ≤ q → f q ≡ []) → flat_map f (range_with_len a m) ≡ flat_map f (range_with_len a n)
  flat_map-shorter a zero m few none = flat_map-none a m (λ q low. none q (omega arith))
  flat_map-shorter a (suc n) zero few none = absurd (omega arith)
  flat_map-shorter a (suc n) (suc m) few none = ap (λ xs. f a ++ xs) (flat_map-shorter (a + 1) n m (omega arith) (λ q low. none q (omega arith)))

  pub flat_map-few : ((q : ℕ) → length (f q) ≤ 1) → (a n : ℕ) → length (flat_map f (range_with_len a n)) ≤ n
  flat_map-few few a zero = omega arith
  flat_map-few few a (suc n) =
      let rest = flat_map-few few (a + 1) n in
      let first = few a in
      omega (arith, length-append (f a) (flat_map f (range_with_len (a + 1) n)))

  -- a list that is made of each
  pub map-flat_map : {Y : Type 0} (h : X → Y) (xs : List ℕ) → map h (flat_map f xs) ≡ flat_map (λ q. map h (f q)) xs
  map-flat_map h [] = refl
  map-flat_map h (x ∷ xs) = map-append h (f x) (flat_map f xs) ∙ ap (λ ys. map h (f x) ++ ys) (map-flat_map h xs)

-- ---- words

-- the lowest bit of a word that isn't 0
pub record IsLowest (word at : ℕ) : Type 0 where
  pub few : at < 64
  pub bit : bit_at word at ≡ 1
  pub set : in_mask word (at + 1) ≡ true
  pub below : (q : ℕ) → q < at + 1 → in_mask word q ≡ false

pub lowest : (word : ℕ) → word ≢ 0 → word < 2 ^ 64 → IsLowest word (trailing_zeros w64 word)
unfolding in_mask
lowest word some small =
    let bits = bit_at-trailing_zeros w64 word (omega arith) small in
    let at = trailing_zeros w64 word in
    let back : at + 1 - 1 ≡ at = omega arith in
    record {
      few = bits.0;
      bit = bits.1;
      set = and_from _ _ (and_from _ _ (lt-ltb 0 (at + 1) (omega arith)) (le-leb (at + 1) 64 (omega (arith, bits.0)))) (eq-eqb _ _ (ap (bit_at word) back ∙ bits.1));
      below = λ q under. elim (cases_eq q 0) [
        | inl none ↦ rw none refl
        | inr port ↦ and_right (nat_lt 0 q && nat_le q 64) (bit_at word (q - 1) == 1) (ne_eqb _ _ (λ z. not_both (bits.2 (q - 1) (omega arith)) z))
      ];
    }
  where
    not_both : {b : ℕ} → b ≡ 0 → b ≡ 1 → ⊥
    not_both none one = omega arith

pub cleared_lower : (word at : ℕ) → at < 64 → bit_at word at ≡ 1 → without word at < word
cleared_lower word at few set =
    elim (cases_eq (without word at) word) [
      | inl same ↦ absurd (not_both (bit_at_clear_same w64 word at few) (ap (λ n. bit_at n at) same ∙ set))
      | inr other ↦ omega (arith, and_le_l word (bit_not w64 (1 * 2 ^ at % 2 ^ 64)))
    ]
  where
    not_both : {b : ℕ} → b ≡ 0 → b ≡ 1 → ⊥
    not_both none one = omega arith

-- ---- the ports of a word

module _ (t : ExtenderTables) (tag : Tag) where
  outs_agree : (p r : ℕ → Bool) → ((q : ℕ) → p q ≡ r q) → outs_where p t tag ≡ outs_where r t tag
  unfolding outs_where
  outs_agree p r same = flat_map-agree (λ q. cond (p q) (outs_at t tag q) []) (λ q. cond (r q) (outs_at t tag q) []) 1 64 (λ q low high. ap (λ b. cond b (outs_at t tag q) []) (same q))

  outs_none : outs_where (in_mask 0) t tag ≡ []
  unfolding outs_where
  outs_none = flat_map-none (λ q. cond (in_mask 0 q) (outs_at t tag q) []) 1 64 (λ q low. ap (λ b. cond b (outs_at t tag q) []) (mask_empty q))

  outs_few : (p : ℕ → Bool) → length (outs_where p t tag) ≤ 64
  unfolding outs_where
  outs_few p = flat_map-few (λ q. cond (p q) (outs_at t tag q) []) (λ q. one_at q (p q) (form_at t tag q)) 1 64
    where
      one_at : (q : ℕ) (b : Bool) (form : Option _) → length (cond b (listed_at q form) []) ≤ 1
      one_at q true None = omega arith
      one_at q true (Some form) = omega arith
      one_at q false form = omega arith

  outs_first : (word at : ℕ) → IsLowest word at → outs_where (in_mask word) t tag ≡ outs_at t tag (at + 1) ++ outs_where (in_mask (without word at)) t tag
  unfolding outs_where
  outs_first word at low =
      flat_map-first (λ q. cond (in_mask word q) (outs_at t tag q) []) (λ q. cond (in_mask (without word at) q) (outs_at t tag q) []) 1 64 (at + 1) (omega arith) (omega (arith, low.few))
      (λ q under. ap (λ b. cond b (outs_at t tag q) []) (low.below q under))
      (λ q under. ap (λ b. cond b (outs_at t tag q) []) (gone q (cases_eq q (at + 1)) under))
      (λ q above. ap (λ b. cond b (outs_at t tag q) []) (stays q above))
      ∙ ap (λ b. cond b (outs_at t tag (at + 1)) [] ++ flat_map (λ q. cond (in_mask (without word at) q) (outs_at t tag q) []) (range_with_len 1 64)) low.set
    where
      gone : (q : ℕ) → (q ≡ at + 1) ⊎ (q ≢ at + 1) → q ≤ at + 1 → in_mask (without word at) q ≡ false
      gone q (inl same) under = in_mask-without word at q low.few ∙ ap (λ b. in_mask word q && not b) (eq-eqb q (at + 1) same) ∙ and_right (in_mask word q) false refl
      gone q (inr other) under = in_mask-without word at q low.few ∙ ap (λ b. b && not (q == at + 1)) (low.below q (omega arith))

      stays : (q : ℕ) → at + 1 < q → in_mask word q ≡ in_mask (without word at) q
      stays q above = sym (in_mask-without word at q low.few ∙ ap (λ b. in_mask word q && not b) (ne_eqb q (at + 1) (λ z. omega arith)) ∙ and_true (in_mask word q))

  pub begins : (word : ℕ) (p : ℕ → Bool) (frames : List Out) → frames ≡ [] → ((q : ℕ) → in_mask word q ≡ p q)
      → frames ++ outs_where (in_mask word) t tag ≡ outs_where p t tag
  begins word p frames none same = ap (λ xs. xs ++ outs_where (in_mask word) t tag) none ∙ outs_agree (in_mask word) p same

  pub goes_on : (word at : ℕ) (p : ℕ → Bool) (frames frames' : List Out) → IsLowest word at
      → frames ++ outs_where (in_mask word) t tag ≡ outs_where p t tag → frames' ≡ frames ++ outs_at t tag (at + 1)
      → frames' ++ outs_where (in_mask (without word at)) t tag ≡ outs_where p t tag
  goes_on word at p frames frames' low so_far more =
      ap (λ xs. xs ++ outs_where (in_mask (without word at)) t tag) more
      ∙ append_assoc frames (outs_at t tag (at + 1)) (outs_where (in_mask (without word at)) t tag)
      ∙ ap (λ xs. frames ++ xs) (sym (outs_first word at low))
      ∙ so_far

  pub has_room : (word : ℕ) (p : ℕ → Bool) (frames : List Out) → frames ++ outs_where (in_mask word) t tag ≡ outs_where p t tag → length frames < 65
  has_room word p frames so_far =
      omega (arith, ap length so_far, length-append frames (outs_where (in_mask word) t tag), outs_few p)

  pub ends : (word : ℕ) (p : ℕ → Bool) (frames : List Out) → word ≡ 0 → frames ++ outs_where (in_mask word) t tag ≡ outs_where p t tag → frames ≡ outs_where p t tag
  ends word p frames none so_far =
      sym (append-nil frames) ∙ ap (λ xs. frames ++ xs) (sym (ap (λ w. outs_where (in_mask w) t tag) none ∙ outs_none)) ∙ so_far

-- ---- what is sent

positive : (n : ℕ) → nat_lt 0 n ≡ not (n == 0)
positive n =
    elim (cases_eq n 0) [
      | inl none ↦ rw none refl
      | inr some ↦ lt-ltb 0 n (omega arith) ∙ ap not (sym (ne_eqb n 0 some))
    ]

module _ (t : ExtenderTables) (f : List ℕ) where
  abbrev at_port : ℕ → List ℕ → Sent
  at_port q bytes = record { side = Port q; bytes = bytes }

  by_tests : (q : ℕ) (none pair out strip : Bool)
      → map (out_sent f) (cond pair (listed_at q (cond none None (cond out None (cond strip (Some Stripped) (Some AsIs))))) [])
      ≡ map (at_port q) (cond (not none && pair) (cond out [] (cond strip (stripped f ∷ []) (f ∷ []))) [])
  by_tests q true true out strip = refl
  by_tests q true false out strip = refl
  by_tests q false true true strip = refl
  by_tests q false true false true = refl
  by_tests q false true false false = refl
  by_tests q false false out strip = refl

  port_sent : (tag : Tag) (q : ℕ) → read_etag f ≡ Some tag → map (out_sent f) (cond (t.pair tag.ecid q) (outs_at t tag q) []) ≡ sent_at t f q
  unfolding emits
  port_sent tag q is =
      by_tests q (t.own q == 0) (t.pair tag.ecid q) (left_out (forwarding_of t) q tag) (bare (forwarding_of t) q tag)
      ∙ ap (λ b. map (at_port q) (cond (b && t.pair tag.ecid q) (cond (left_out (forwarding_of t) q tag) [] (cond (bare (forwarding_of t) q tag) (stripped f ∷ []) (f ∷ []))) [])) (sym (positive (t.own q)))
      ∙ ap (λ o. map (at_port q) (emits_tagged (forwarding_of t) q f o)) (sym is)

  idle_tagged : (q : ℕ) (o : Option Tag) → t.own q ≡ 0 → emits_tagged (forwarding_of t) q f o ≡ []
  idle_tagged q None idle = refl
  idle_tagged q (Some tag) idle = let off : nat_lt 0 (t.own q) ≡ false = le-ltb 0 (t.own q) (omega arith) in rw off refl

  nothing_at : (q : ℕ) → t.own q ≡ 0 → sent_at t f q ≡ []
  unfolding emits
  nothing_at q idle = ap (map (at_port q)) (idle_tagged q (read_etag f) idle)

  -- a frame whose E-TAG can be read
  pub all_sent : (tag : Tag) → t.ports ≤ 64 → ((q : ℕ) → t.ports < q → t.own q ≡ 0) → read_etag f ≡ Some tag
      → map (out_sent f) (outs_where (t.pair tag.ecid) t tag) ≡ emitted t Up f
  unfolding outs_where emitted
  all_sent tag few outside is =
      map-flat_map (λ q. cond (t.pair tag.ecid q) (outs_at t tag q) []) (out_sent f) (range_with_len 1 64)
      ∙ flat_map-agree (λ q. map (out_sent f) (cond (t.pair tag.ecid q) (outs_at t tag q) [])) (sent_at t f) 1 64 (λ q low high. port_sent tag q is)
      ∙ flat_map-shorter (sent_at t f) 1 t.ports 64 few (λ q above. nothing_at q (outside q (omega arith)))

  -- one that has none
  pub none_sent : read_etag f ≡ None → [] ≡ emitted t Up f
  unfolding emitted emits
  none_sent is = sym (flat_map-none (sent_at t f) 1 t.ports (λ q low. ap (λ o. map (at_port q) (emits_tagged (forwarding_of t) q f o)) is))

-- ---- forms that the frame can be given

all_at : (f : List ℕ) (q : ℕ) (b none out strip : Bool) → 20 ≤ length f
    → AllByRecursion (λ (o : Out). CanBeGiven f o.form) (cond b (listed_at q (cond none None (cond out None (cond strip (Some Stripped) (Some AsIs))))) [])
all_at f q false none out strip long = tt
all_at f q true true out strip long = tt
all_at f q true false true strip long = tt
all_at f q true false false true long = (long, tt)
all_at f q true false false false long = (tt, tt)

all_append : {X : Type 0} (P : X → Type 0) (xs ys : List X) → AllByRecursion P xs → AllByRecursion P ys → AllByRecursion P (xs ++ ys)
all_append P [] ys first rest = rest
all_append P (x ∷ xs) ys first rest = (first.0, all_append P xs ys first.1 rest)

all_flat_map : {X : Type 0} (P : X → Type 0) (g : ℕ → List X) → ((q : ℕ) → AllByRecursion P (g q)) → (a n : ℕ) → AllByRecursion P (flat_map g (range_with_len a n))
all_flat_map P g each a zero = tt
all_flat_map P g each a (suc n) = all_append P (g a) (flat_map g (range_with_len (a + 1) n)) (each a) (all_flat_map P g each (a + 1) n)

pub outs_given : (f : List ℕ) (p : ℕ → Bool) (t : ExtenderTables) (tag : Tag) (frames : List Out) → 20 ≤ length f → frames ≡ outs_where p t tag → All (λ (o : Out). CanBeGiven f o.form) frames
unfolding outs_where
outs_given f p t tag frames long is =
    subst (λ (xs : List Out). All (λ (o : Out). CanBeGiven f o.form) xs) (sym is)
    (All-from_recursion (λ (o : Out). CanBeGiven f o.form) (flat_map (λ q. cond (p q) (outs_at t tag q) []) (range_with_len 1 64))
    (all_flat_map (λ (o : Out). CanBeGiven f o.form) (λ q. cond (p q) (outs_at t tag q) [])
    (λ q. all_at f q (p q) (t.own q == 0) (left_out (forwarding_of t) q tag) (bare (forwarding_of t) q tag) long) 1 64))

-- a frame whose E-TAG can be read has 20 bytes
pub tagged_long : (f : List ℕ) (tag : Tag) → Some tag ≡ read_etag f → 20 ≤ length f
tagged_long f tag is =
    elim (cases_Bool (has_etag f)) [
      | inl has ↦ leb-true 20 (length f) (and_parts (nat_le 20 (length f)) (number_at f 12 == 0x893F && number_at f 18 == 0) has).0
      | inr out ↦ absurd (some_none (rw out at is))
    ]
  where
    some_none : Some tag ≡ None → ⊥
    some_none e = cc

-- ---- frames from ports

module _ (t : ExtenderTables) (port : ℕ) (f : List ℕ) where
  pub from_cascade : t.cascade port ≡ true → sent_from_cascade (t.own port) f ≡ emitted t (Port port) f
  unfolding emitted
  from_cascade kind = rw kind refl

  pub from_external : t.cascade port ≡ false → sent_from_external (t.own port) f ≡ emitted t (Port port) f
  unfolding emitted
  from_external kind = rw kind refl

  -- an external port without a channel
  pub from_idle : t.cascade port ≡ false → (t.cascade port ≡ true) ⊎ (t.own port ≡ 0) → [] ≡ emitted t (Port port) f
  from_idle external (inl cascade) = absurd (both_ways (t.cascade port) external cascade)
  from_idle external (inr idle) = let e : (t.own port == 0) ≡ true = eq-eqb _ _ idle in sym (sym (from_external external) ∙ rw e refl)

-- Numbers are in their ranges, and a number has one port or one set.
use Rattle.std.proofs.Common.{◌≡◌, ℕ, zero, suc, ◌+◌, ◌<◌, ◌≤◌, Bool, true, false, cond, not, List, refl, sym, ap, ◌∙◌, arith}
use Rattle.std.specs.Prelude.{Option, Some, None, find, bytes_eq, is_some}
use Rattle.std.specs.List.{range_with_len}
use Rattle.std.proofs.lemmas.Slice.Eq.{bytes_eq-Decides}
use Rattle.exb_model.specs.Refusals.{is_empty_set}
use Rattle.exb_numbers.specs.Channels.{holder, is_used, channel_of}
use Rattle.exb_model.specs.LowestFree.{is_port}
use Rattle.exb_numbers.specs.Groups.{Groups, set_of, is_used as group_in_use, group_of}
use Rattle.exb_numbers.proofs.ChannelTables.{none_some, is_port-is}

-- what is found passes the test, and is in the range
record Found (test : ℕ → Bool) (a n k : ℕ) : Type 0 where
  passes : test k ≡ true
  low : a ≤ k
  high : k < a + n

found_in : (test : ℕ → Bool) (a n k : ℕ) → find test (range_with_len a n) ≡ Some k → Found test a n k
found_in test a zero k h = absurd (none_some k h)
found_in test a (suc n) k h = by_test (test a) refl (λ e. found_in test (a + 1) n k (rw e at h)) (λ e. rw e at h)
  where
    by_test : (b : Bool) → test a ≡ b → (test a ≡ false → Found test (a + 1) n k) → (test a ≡ true → Some a ≡ Some k) → Found test a (suc n) k
    by_test true e rest here =
        let both : Some a ≡ Some k = here e in
        let is : a ≡ k = cc in
        record { passes = ap test (sym is) ∙ e; low = omega (arith, is); high = omega (arith, is) }
    by_test false e rest here =
        let r = rest e in
        let low = r.low in
        let high = r.high in
        record { passes = r.passes; low = omega arith; high = omega arith }

pub channel_range : (v : List (Option ℕ)) (p c : ℕ) → channel_of v p ≡ Some c → (1 ≤ c) × (c ≤ 4094)
unfolding channel_of
channel_range v p c h = let f = found_in (λ c. is_port p (holder v c)) 1 4094 c h in let low = f.low in let high = f.high in (low, omega arith)

pub channel_holder : (v : List (Option ℕ)) (p c : ℕ) → channel_of v p ≡ Some c → holder v c ≡ Some p
unfolding channel_of
channel_holder v p c h = is_port-is p (holder v c) (found_in (λ c. is_port p (holder v c)) 1 4094 c h).passes

pub channel_used : (v : List (Option ℕ)) (p c : ℕ) → channel_of v p ≡ Some c → is_used v c ≡ true
channel_used v p c h = ap is_some (channel_holder v p c h)

pub one_channel : (v : List (Option ℕ)) (p q c : ℕ) → channel_of v p ≡ Some c → channel_of v q ≡ Some c → p ≡ q
one_channel v p q c h k =
    let both : Some p ≡ Some q = sym (channel_holder v p c h) ∙ channel_holder v q c k in
    let same : p ≡ q = cc in same

pub group_range : (v : Groups) (set : List ℕ) (g : ℕ) → group_of v set ≡ Some g → (4096 ≤ g) × (g < 16384)
unfolding group_of
group_range v set g h = by_empty (is_empty_set set) h
  where
    by_empty : (b : Bool) → cond b None (find (λ g. bytes_eq set (set_of v g)) (range_with_len 4096 12288)) ≡ Some g → (4096 ≤ g) × (g < 16384)
    by_empty true e = absurd (none_some g e)
    by_empty false e = let f = found_in (λ g. bytes_eq set (set_of v g)) 4096 12288 g e in let low = f.low in let high = f.high in (low, omega arith)

pub group_set : (v : Groups) (set : List ℕ) (g : ℕ) → group_of v set ≡ Some g → set_of v g ≡ set
unfolding group_of
group_set v set g h = by_empty (is_empty_set set) h
  where
    by_empty : (b : Bool) → cond b None (find (λ g. bytes_eq set (set_of v g)) (range_with_len 4096 12288)) ≡ Some g → set_of v g ≡ set
    by_empty true e = absurd (none_some g e)
    by_empty false e = sym ((bytes_eq-Decides set (set_of v g)).0 (found_in (λ g. bytes_eq set (set_of v g)) 4096 12288 g e).passes)

pub group_used : (v : Groups) (set : List ℕ) (g : ℕ) → group_of v set ≡ Some g → group_in_use v g ≡ true
unfolding group_of
group_used v set g h = ap (λ (xs : List ℕ). not (is_empty_set xs)) (group_set v set g h) ∙ by_empty (is_empty_set set) h
  where
    by_empty : (b : Bool) → cond b None (find (λ g. bytes_eq set (set_of v g)) (range_with_len 4096 12288)) ≡ Some g → not b ≡ true
    by_empty true e = absurd (none_some g e)
    by_empty false e = refl

use Rattle.std.proofs.Common.{◌≡◌, ◌∙◌, ◌+◌, ℕ, take, drop, get_or, ap, sym, arith}
use Rattle.exb_numbers.specs.GroupOrder.{mixed, joined, digits, key_of}
use Rattle.exb_numbers.proofs.SetKeys.{first_more, piece_more}
use Rattle.exb_numbers.proofs.groups.key_of.Goals as goal

pub loop-place-preserved : goal.loop-place-preserved
loop-place-preserved c =
    let ws = c.args.set.now.words in
    let sized = c.args.set.now.sized in
    let p = c.loop-place.place in
    let so_far = c.loop-place.invariant in
    record {
      first = c.mixed-first.ensures ∙ ap (λ (k : ℕ). mixed k (get_or ws p 0)) so_far.first ∙ sym (first_more ws p (omega (arith, sized, c.loop-place-test.true)));
      second = c.mixed-second.ensures ∙ ap (λ (k : ℕ). mixed k (get_or ws (16 + p) 0)) so_far.second ∙ sym (piece_more ws 16 p (omega (arith, sized, c.loop-place-test.true)));
      third = c.mixed-third.ensures ∙ ap (λ (k : ℕ). mixed k (get_or ws (32 + p) 0)) so_far.third ∙ sym (piece_more ws 32 p (omega (arith, sized, c.loop-place-test.true)));
      fourth = c.mixed-fourth.ensures ∙ ap (λ (k : ℕ). mixed k (get_or ws (48 + p) 0)) so_far.fourth ∙ sym (piece_more ws 48 p (omega (arith, sized, c.loop-place-test.true)));
    }

pub returns : goal.returns
unfolding key_of
returns c =
    let ws = c.args.set.now.words in
    let sized = c.args.set.now.sized in
    let whole : c.loop-place.place ≡ 16 = omega (arith, c.loop-place.auto.place-end, c.loop-place-test.false) in
    let so_far = c.loop-place.invariant in
    let first : c.loop-place.first ≡ digits (take 16 ws) = so_far.first ∙ ap (λ (n : ℕ). digits (take n ws)) whole in
    let second : c.loop-place.second ≡ digits (take 16 (drop 16 ws)) = so_far.second ∙ ap (λ (n : ℕ). digits (take n (drop 16 ws))) whole in
    let third : c.loop-place.third ≡ digits (take 16 (drop 32 ws)) = so_far.third ∙ ap (λ (n : ℕ). digits (take n (drop 32 ws))) whole in
    let fourth : c.loop-place.fourth ≡ digits (take 16 (drop 48 ws)) = so_far.fourth ∙ ap (λ (n : ℕ). digits (take n (drop 48 ws))) whole in
    let last : c.mixed.result ≡ digits (take 17 (drop 48 ws)) =
    c.mixed.ensures ∙ ap (λ (k : ℕ). mixed k (get_or ws 64 0)) fourth ∙ sym (piece_more ws 48 16 (omega (arith, sized))) in
    let front : c.joined.result ≡ joined (digits (take 16 ws)) (digits (take 16 (drop 16 ws))) =
    c.joined.ensures ∙ ap (λ (k : ℕ). joined k c.loop-place.second) first ∙ ap (joined (digits (take 16 ws))) second in
    let key = c.joined-key.ensures ∙ ap (λ (k : ℕ). joined k c.loop-place.third) front
    ∙ ap (joined (joined (digits (take 16 ws)) (digits (take 16 (drop 16 ws))))) third in
    c.joined-2.ensures ∙ ap (λ (k : ℕ). joined k c.mixed.result) key
    ∙ ap (joined (joined (joined (digits (take 16 ws)) (digits (take 16 (drop 16 ws)))) (digits (take 16 (drop 32 ws))))) last

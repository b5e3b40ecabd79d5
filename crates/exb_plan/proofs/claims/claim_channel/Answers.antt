use Rattle.std.proofs.Common.{◌≡◌, ℕ, ◌+◌, ◌-◌, ◌/◌, ◌==◌, true, cond, List, Option, Some, None, ap, sym, subst, ◌∙◌, arith}
use Rattle.std.specs.Prelude.{is_some, MatchResult}
use Rattle.exb_model.specs.Tree.{trunk}
use Rattle.exb_numbers.specs.Channels.{holder, channel_of, lowest_channel}
use Rattle.exb_numbers.specs.Spaces.{has_space, channels_at}
use Rattle.exb_plan.proofs.SpaceContents.{channel_in_is, met, of_ok, channel_given, claimed_free}
use Rattle.exb_plan.proofs.claims.claim_channel.Goals as goal

pub claim-requires : goal.claim-requires
claim-requires c =
    let t = c.args.tree.now in
    let v = c.args.spaces.now in
    let p = c.args.port in
    let is : c.trunk-trunk.result ≡ trunk t (p / 64) + 1 = subst (λ (x : ℕ). c.trunk-trunk.result ≡ trunk t x + 1) c.device.ensures.value c.trunk-trunk.ensures.value in
    let place : c.trunk-trunk.result - 1 ≡ trunk t (p / 64) = omega (arith, is) in
    ap (λ (x : List (Option ℕ)). channel_of x p) (c.channels_mut.ensures.value ∙ ap (channels_at v) place)
    ∙ (sym (channel_in_is v (trunk t (p / 64)) p) ∙ c.requires.absent)

pub unwrap-requires : goal.unwrap-requires
unwrap-requires c =
    let t = c.args.tree.now in
    let v = c.args.spaces.now in
    let p = c.args.port in
    let is : c.trunk-trunk.result ≡ trunk t (p / 64) + 1 = subst (λ (x : ℕ). c.trunk-trunk.result ≡ trunk t x + 1) c.device.ensures.value c.trunk-trunk.ensures.value in
    let place : c.trunk-trunk.result - 1 ≡ trunk t (p / 64) = omega (arith, is) in
    met c.claim.result (lowest_channel c.channels_mut.result.now)
    (ap (λ (x : List (Option ℕ)). is_some (lowest_channel x)) (c.channels_mut.ensures.value ∙ ap (channels_at v) place) ∙ c.requires.free)
    c.claim.ensures.lowest

pub returns-clause-held : goal.returns-clause-held
returns-clause-held c =
    let t = c.args.tree.now in
    let v = c.args.spaces.now in
    let p = c.args.port in
    let k = c.trunk-trunk.result - 1 in
    let is : c.trunk-trunk.result ≡ trunk t (p / 64) + 1 = subst (λ (x : ℕ). c.trunk-trunk.result ≡ trunk t x + 1) c.device.ensures.value c.trunk-trunk.ensures.value in
    let place : k ≡ trunk t (p / 64) = omega (arith, is) in
    channel_given t v p c.unwrap.result k c.claim.new.self (subst (λ (x : ℕ). has_space v x ≡ true) (sym place) c.requires.cascade) place
    (λ e. of_ok c.claim.result c.unwrap.result (λ m. (e : ℕ) → holder c.claim.new.self e ≡ cond (e == m) (Some p) (holder c.channels_mut.result.now e)) c.unwrap.ensures c.claim.ensures.holders e
    ∙ ap (λ (x : List (Option ℕ)). cond (e == c.unwrap.result) (Some p) (holder x e)) c.channels_mut.ensures.value)

pub returns-clause-free : goal.returns-clause-free
returns-clause-free c =
    let t = c.args.tree.now in
    let v = c.args.spaces.now in
    let p = c.args.port in
    let is : c.trunk-trunk.result ≡ trunk t (p / 64) + 1 = subst (λ (x : ℕ). c.trunk-trunk.result ≡ trunk t x + 1) c.device.ensures.value c.trunk-trunk.ensures.value in
    let place : c.trunk-trunk.result - 1 ≡ trunk t (p / 64) = omega (arith, is) in
    claimed_free v (trunk t (p / 64)) c.claim.result c.unwrap.result c.unwrap.ensures
    (subst (λ (x : List (Option ℕ)). MatchResult c.claim.result (λ m. lowest_channel x ≡ Some m) (λ e. lowest_channel x ≡ None)) (c.channels_mut.ensures.value ∙ ap (channels_at v) place) c.claim.ensures.lowest)

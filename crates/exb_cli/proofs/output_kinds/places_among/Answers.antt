use Rattle.std.proofs.Common.{◌≡◌, ◌<◌, ◌+◌, ◌∙◌, ℕ, length-set, set, slice_index, subst, sym, arith}
use Rattle.exb_cli.specs.Kinds.{place_among}
use Rattle.exb_cli.proofs.KindLemmas.{place_low, place_put}
use Rattle.exb_cli.proofs.output_kinds.places_among.Goals as goal

pub overflow_cast-places : goal.overflow_cast-places
overflow_cast-places c =
    let low = place_low c.loop-number.number c.args.kinds.now in
    let is = c.place_among.ensures in
    let few = c.requires in
    omega (arith, low, is, few)

pub loop-number-preserved : goal.loop-number-preserved
loop-number-preserved c =
    let kinds = c.args.kinds.now in
    let places = c.loop-number.places in
    let i = c.loop-number.number in
    record {
      sized = length-set places i c.place_among.result ∙ c.loop-number.invariant.sized;
      each = subst (λ (k : ℕ). (n : ℕ) → n < i + 1 → slice_index (set places i k) n ≡ place_among n kinds) (sym c.place_among.ensures)
          (place_put kinds places i (omega (arith, c.loop-number.invariant.sized, c.loop-number-test.true)) c.loop-number.invariant.each);
    }

pub returns : goal.returns
returns c = record { each = λ n low. c.loop-number.invariant.each n (omega (arith, low, c.loop-number-test.false)) }

-- Zeros after a number, up to the limit.
use Rattle.std.proofs.Common.{◌≡◌, ◌*◌, ◌^◌, min, ap, ◌∙◌, arith}
use Rattle.fixed_milli.specs.declared.digits.TheConstants.{LIMIT}
use Rattle.fixed_milli.proofs.Decimals.{zeros_more, zeros_all}
use Rattle.fixed_milli.proofs.digits.with_zeros.Goals as goal

pub loop-preserved : goal.loop-preserved
loop-preserved c = rw c.min-value.ensures (zeros_more c.args.value c.loop.counter c.loop.value c.loop.invariant)

pub returns : goal.returns
returns c =
    let all : c.loop.counter ≡ min c.args.zeros 16 = omega arith in
    c.loop.invariant ∙ ap (λ n. min (c.args.value * 10 ^ n) LIMIT) all ∙ zeros_all c.args.value c.args.zeros

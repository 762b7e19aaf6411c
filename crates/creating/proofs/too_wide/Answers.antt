-- `too_wide` compares the distance of the bounds, which is one less than the values between them. A sum too large for it is wide anyhow.
use mir.Syntax.{w32}
use mir.Val.{SFits}
use mir.Facts.{to_z-of_z}
use lib.IntN.{neg_ℤ, ◌-ℤ◌}
use borrow.Author.Tests.{leb-true}
use Rattle.integers.proofs.Order.{integers, abs=, add=, neg=}
use Rattle.integers.specs.Distance.{distance}
use borrow.Author.Rules.{rules}
use Rattle.creating.proofs.too_wide.Goals as goal

pub returns : goal.returns
unfolding distance
returns c = λ e.
    let b = c.args.span in
    let lower : SFits w32 b.lower = search rules in
    let upper : SFits w32 b.upper = search rules in
    let last = simp (to_z-of_z lower, to_z-of_z upper) at c.abs_diff-last.ensures in
    omega (integers, c.requires, last, leb-true _ _ e, c.saturating_add.ensures, c.abs_diff-last.type_inv, abs= (b.upper -ℤ b.lower), add= b.upper (neg_ℤ b.lower), neg= b.lower)

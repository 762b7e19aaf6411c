-- `pruned` sums the two distances; where they are 0, a not-equal counts one.
use Rattle.std.proofs.Common.{rules}
use Prim.Native.Nat.{◌+◌}
use mathlib.Core.Path.{◌≡◌, ◌∙◌, sym}
use mir.Syntax.{w32}
use mir.Val.{SFits}
use mir.Facts.{to_z-of_z}
use native.Mathlib.Omega.{arith}
use Rattle.integers.specs.Distance.{distance}
use Rattle.domains.proofs.Tests.{clash}
use Rattle.domains.proofs.Counting.{moved, counts_one, counts_moved}
use Rattle.domains.proofs.pruned.Goals as goal
use Rattle.domains.proofs.pruned.Goals.{After-from-above, else-moved-eq0-via-then-moved-eq0+else-is_not_equal_predicate, else-moved-eq0-via-else-moved-eq0}

-- the sum is that of the distances
sum : (c : After-from-above) → c.from-below.result + c.from-above.result ≡ moved c.args.kind c.args.from c.args.to
sum c =
    let from = c.args.from in
    let to = c.args.to in
    let fl : SFits w32 from.lower = search rules in
    let fu : SFits w32 from.upper = search rules in
    let tl : SFits w32 to.lower = search rules in
    let tu : SFits w32 to.upper = search rules in
    let below : c.from-below.result ≡ distance from.lower to.lower = c.from-below.ensures ∙ (simp (to_z-of_z fl, to_z-of_z tl) at c.abs_diff.ensures) in
    let above : c.from-above.result ≡ distance from.upper to.upper = c.from-above.ensures ∙ (simp (to_z-of_z fu, to_z-of_z tu) at c.abs_diff-2.ensures) in
    omega arith

pub returns-then-is_not_equal_predicate : goal.returns-then-is_not_equal_predicate
returns-then-is_not_equal_predicate c =
    counts_one c.args.kind c.args.from c.args.to (sym (sum (goal.at.returns-then-is_not_equal_predicate c).After-from-above) ∙ c.if-moved-eq0.true) (sym c.is_not_equal_predicate.ensures ∙ c.if-is_not_equal_predicate.true)

pub returns : goal.returns
returns c =
    let total = sum (goal.at.returns c).After-from-above in
    total
    ∙ counts_moved c.args.kind c.args.from c.args.to
    (λ n z.
    elim c.else-moved-eq0.branch [
      | else-moved-eq0-via-then-moved-eq0+else-is_not_equal_predicate w ↦ clash n (sym w.is_not_equal_predicate.ensures ∙ w.if-is_not_equal_predicate.false)
      | else-moved-eq0-via-else-moved-eq0 w ↦ w.if-moved-eq0.false (total ∙ z)
    ])

-- `put_pairs` writes the pairs: at every turn those passed were written, and they and those that are left are all.
use mathlib.Core.Path.{◌≡◌, sym, ap, ◌∙◌}
use mathlib.Core.List.{List, [], ◌++◌, append_assoc, append-nil}
use mathlib.Core.Logic.{inl, inr, ⊎_elim}
use Prim.Native.Nat.{ℕ}
use native.Mathlib.Omega.{arith}
use lib.ListN.{length, length-append}
use mir.Syntax.{w32}
use mir.Val.{SFits}
use mir.Facts.{to_z-of_z}
use borrow.Author.Rules.{rules}
use Rattle.std.specs.Slice.Iter.{iter_rest}
use Rattle.lines.proofs.WritingLaws.{wrote_more}
use Rattle.replies.specs.Text.{pair_text, pairs_text}
use Rattle.replies.proofs.PairLaws.{pairs_first, pairs_left}
use Rattle.replies.proofs.writing.put_pairs.Goals as goal

pub loop-variable-preserved : goal.loop-variable-preserved
loop-variable-preserved c =
    let turn = c.loop-variable.invariant in
    let step = c.in-Some.ensures.steps in
    let fits : SFits w32 c.in-Some.lower.now = search rules in
    let pair = simp (to_z-of_z fits) at c.put_pair.ensures in
    let first = pairs_first c.next.new.self.n step.0.0 step.0.1 step.1 in
    let text = pair_text c.in-Some.variable.now c.in-Some.lower.now in
    (turn.0 ++ text, wrote_more turn.1 pair.0, append_assoc turn.0 _ _ ∙ ap (λ (t : List ℕ). turn.0 ++ t) (sym first) ∙ turn.2, omega (arith, length-append turn.0 text, pair.1, turn.3, ap length step.0.0))

pub returns : goal.returns
returns c =
    let turn = c.loop-variable.invariant in
    let left = c.loop-variable.variable-iterator in
    let none : pairs_text left.n (iter_rest left.iter.a) (iter_rest left.iter.b) ≡ [] =
    pairs_left left.n (iter_rest left.iter.a) (iter_rest left.iter.b) (λ some. ⊎_elim (λ e. inl e.1.0) (λ e. inr e.1.0) (c.in-None.ensures.steps some)) in
    let whole : turn.0 ≡ pairs_text c.args.count c.args.variables.now c.args.lowers.now = sym (append-nil turn.0) ∙ ap (λ (t : List ℕ). turn.0 ++ t) (sym none) ∙ turn.2 in
    rw (← whole) (turn.1, omega (arith, turn.3))

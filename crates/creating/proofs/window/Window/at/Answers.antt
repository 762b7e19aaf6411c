-- `at` marks the listed values: each turn passes one value of the list, and sets the mark of its place, if it has one.
use Prim.Native.Nat.{suc}
use mathlib.Core.Path.{◌∙◌}
use mathlib.Core.Bool.{true, false, or-false}
use lib.IntN.{pos}
use lib.ListN.{get_or, drop, length-replicate, get_or-replicate, length-set}
use lib.Seq.{drop-cons}
use mir.Syntax.{w32}
use mir.Val.{SFits, to_z, of_z}
use mir.Facts.{to_z-of_z}
use native.Mathlib.Numerals.{add-one}
use native.Mathlib.Omega.{arith}
use borrow.Author.Rules.{rules}
use Rattle.integers.specs.Distance.{distance}
use Rattle.creating.specs.Windows.{marks_more, passes_more}
use Rattle.creating.proofs.window.Window.at.Goals as goal
use Rattle.creating.proofs.window.Window.at.Goals.{in-Some, in_default}

pub loop-value-init : goal.loop-value-init
loop-value-init c =
    (length-replicate 8192 false, λ v h. rw (get_or-replicate 8192 (distance (to_z w32 (of_z w32 c.args.from)) v) false false (omega (arith, h.1))) (or-false _))

pub loop-value-preserved : goal.loop-value-preserved
loop-value-preserved c =
    let values = c.args.values.now in
    let here = c.loop-value.value-index in
    let from = to_z w32 (of_z w32 c.args.from) in
    let value : SFits w32 (get_or values here (pos 0)) = search rules in
    let next = drop-cons values here (pos 0) (omega arith) in
    elim c.match-ahead.branch [
      | in-Some w ↦
          let place = simp (to_z-of_z value) at w.in-Some.ensures in (
            rw w.marks-is (length-set c.loop-value.marks w.in-Some.place true ∙ c.loop-value.invariant.0),
            λ v h.
                rw (add-one, w.marks-is, place.1)
                (marks_more from (get_or values here (pos 0)) v c.loop-value.marks (drop (suc here) values) h place.0 c.loop-value.invariant.0
                ∙ (rw next at (c.loop-value.invariant.1 v h))),
          )
      | in_default w ↦
          let outside = simp (to_z-of_z value) at w.in_default.ensures in (
            rw w.marks-is c.loop-value.invariant.0,
            λ v h.
                rw (add-one, w.marks-is)
                (passes_more from (get_or values here (pos 0)) v c.loop-value.marks (drop (suc here) values) h outside
                ∙ (rw next at (c.loop-value.invariant.1 v h))),
          )
    ]

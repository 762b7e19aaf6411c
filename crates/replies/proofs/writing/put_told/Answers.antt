-- `put_told` writes the fields, by cases on the reply as `told_text`.
use native.Mathlib.Omega.{arith}
use mir.Syntax.{w32}
use mir.Val.{SFits}
use mir.Facts.{to_z-of_z}
use borrow.Author.Rules.{rules}
use Rattle.replies.proofs.writing.put_told.Goals as goal

pub returns-in-Number : goal.returns-in-Number
returns-in-Number c =
    let number = c.put_number.ensures in
    rw c.in-Number.is (number.0, omega (arith, number.1))

pub returns-in-Pairs : goal.returns-in-Pairs
returns-in-Pairs c =
    let pairs = c.put_pairs.ensures in
    rw c.in-Pairs.is (pairs.0, omega (arith, pairs.1))

pub returns-in-Shown : goal.returns-in-Shown
returns-in-Shown c =
    let lower : SFits w32 c.in-Shown.lower = search rules in
    let upper : SFits w32 c.in-Shown.upper = search rules in
    let wrote = simp (to_z-of_z lower, to_z-of_z upper) at c.put_shown.ensures in
    rw c.in-Shown.is (wrote.0, omega (arith, wrote.1))

-- `lists` reads the mark of the value's place, be it in this window or the first of the next.
use mir.Syntax.{w32}
use mir.Val.{SFits}
use mir.Facts.{to_z-of_z}
use borrow.Author.Rules.{rules}
use Rattle.creating.specs.Windows.{first_told}
use Rattle.creating.proofs.window.Window.lists.Goals as goal

pub returns-in-Some-clause-lists : goal.returns-in-Some-clause-lists
returns-in-Some-clause-lists c =
    let window = c.args.self.now in
    let from : SFits w32 window.from = search rules in
    let place = simp (to_z-of_z from, to_z-of_z c.ranges.value) at c.in-Some.ensures in
    rw place.1 (window.told.tells c.args.value place.0)

pub returns-clause-lists : goal.returns-clause-lists
returns-clause-lists c =
    rw (← c.at.ensures.values)
    (first_told _ _ _ (rw (c.at.ensures.from, to_z-of_z c.ranges.value) at c.at.result.told))

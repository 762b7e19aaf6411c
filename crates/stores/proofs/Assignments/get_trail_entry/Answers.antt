-- `get_trail_entry` tests the position against the length, and reads there.
use native.Mathlib.Omega.{arith}
use borrow.Author.Tests.{le-leb, lt-leb}
use Rattle.stores.specs.Calls.{entry_answer}
use Rattle.stores.proofs.Straight.{tidy}
use Rattle.stores.proofs.History.{straight}
use Rattle.stores.proofs.Assignments.get_trail_entry.Goals as goal

pub returns-then-trail-at : goal.returns-then-trail-at
unfolding entry_answer
returns-then-trail-at c = simp (le-leb _ _ c.if-trail-at.true)

pub bounds-trail-at : goal.bounds-trail-at
bounds-trail-at c = omega (arith, (tidy (straight c.requires)).long_trail, (tidy (straight c.requires)).entries, c.if-trail-at.false)

pub returns : goal.returns
unfolding entry_answer
returns c = simp (lt-leb _ _ c.if-trail-at.false)

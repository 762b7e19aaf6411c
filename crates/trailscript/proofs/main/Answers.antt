-- `main` keeps the store made, and the line's number far below the largest: each turn adds no more to it than the buffer has bytes.
use Rattle.std.proofs.Common.{sym, subst, arith}
use Rattle.stores.specs.Made.{Made}
use Rattle.stores.specs.Made.Made.{fresh}
use Rattle.driver.proofs.RunLaws.{ran_inside, ran_number}
use Rattle.trailscript.proofs.main.Goals as goal

pub loop-turn-init : goal.loop-turn-init
loop-turn-init c = (subst Made (sym c.default-store.ensures) fresh, omega arith)

pub answer_lines-done-requires : goal.answer_lines-done-requires
answer_lines-done-requires c = (c.loop-turn.invariant.0, omega (arith, c.unread.ensures.length))

pub pass-requires : goal.pass-requires
pass-requires c = omega (arith, ran_inside c.answer_lines-done.ensures, c.unread.ensures.length)

pub loop-turn-preserved : goal.loop-turn-preserved
loop-turn-preserved c =
    (c.answer_lines-done.ensures.made, omega (arith, ran_number c.answer_lines-done.ensures, ran_inside c.answer_lines-done.ensures, c.unread.ensures.length))

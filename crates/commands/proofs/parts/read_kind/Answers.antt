-- A text of another length than two is the word of no kind.
use mathlib.Core.Path.{sym}
use native.Mathlib.Omega.{arith}
use Rattle.commands.proofs.WordLaws.{unknown_kind}
use Rattle.commands.proofs.parts.read_kind.Goals as goal

pub returns-in_default : goal.returns-in_default
returns-in_default c = sym (unknown_kind c.args.field.now (λ two. omega (arith, two, c.in_default.len_below)))

pub returns-in_default-7 : goal.returns-in_default-7
returns-in_default-7 c = sym (unknown_kind c.args.field.now (λ two. omega (arith, two, c.in_default.len_at_least)))

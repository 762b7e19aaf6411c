-- The fields are one more than the tabs.
use Prim.Native.Nat.{ℕ}
use mathlib.Core.Path.{◌≡◌}
use native.Mathlib.Omega.{arith}
use lib.Dec.{eqb}
use Rattle.std.proofs.Common.{rules}
use Rattle.std.specs.List.{count_by}
use Rattle.std.proofs.iter.runs.Made.{chains}
use Rattle.lines.proofs.FieldLaws.{fields_counted}
use Rattle.lines.proofs.fields.field_count.Goals as goal

pub returns : goal.returns
returns c =
    let tabs : c.count.result ≡ count_by (λ (b : ℕ). eqb b 9) c.args.line.now = search (rules, chains) in
    omega (arith, tabs, fields_counted c.args.line.now)

-- `digits` reads the number: at every place what is left, read after the number so far, makes what the whole text makes.
use mathlib.Core.Path.{◌≡◌}
use lib.ListN.{drop}
use Rattle.lines.specs.Reading.{read_digits}
use Rattle.lines.proofs.numbers.digits.Given as goal

abbrev pub invariant-loop-byte : goal.invariant-loop-byte
invariant-loop-byte l =
    read_digits l.value (drop l.byte-index l.field) ≡ read_digits 0 l.field

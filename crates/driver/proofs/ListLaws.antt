-- The values of a list line are i32, as each was read from its spelling.
use Prim.Native.Nat.{ℕ, zero, suc}
use mathlib.Core.Path.{◌≡◌, refl}
use mathlib.Core.List.{List, [], ◌∷◌}
use native.Mathlib.Omega.{arith}
use lib.IntN.{ℤ, pos}
use lib.ListN.{get_or}
use mir.Syntax.{w32}
use mir.Val.{SFits}
use Rattle.std.specs.Prelude.{Option, Some, None}
use Rattle.lines.specs.Fields.{later_fields}
use Rattle.lines.specs.Reading.{read_integer}
use Rattle.lines.proofs.IntegerLaws.{spelled_of_integer}
use Rattle.commands.specs.Values.{value_and, spelt, values_of}

zero_fits : SFits w32 (pos 0)
zero_fits = record { sfits = omega arith }

one_fits : (text : List ℕ) (read : Option ℤ) → read_integer text ≡ read → (values : List ℤ) → ((i : ℕ) → SFits w32 (get_or values i (pos 0))) → (i : ℕ) → SFits w32 (get_or (value_and read values) i (pos 0))
one_fits text None e values others i = zero_fits
one_fits text (Some value) e values others zero = (spelled_of_integer text value e).1
one_fits text (Some value) e values others (suc i) = others i

spelt_fits : (texts : List (List ℕ)) (i : ℕ) → SFits w32 (get_or (spelt texts) i (pos 0))
spelt_fits [] i = zero_fits
spelt_fits (text ∷ texts) i = one_fits text (read_integer text) refl (spelt texts) (spelt_fits texts) i

pub values_fit : (line : List ℕ) (i : ℕ) → SFits w32 (get_or (values_of line) i (pos 0))
values_fit line = spelt_fits (later_fields line)

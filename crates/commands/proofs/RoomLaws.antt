-- A line has room for few values (RULES.md, D8), since each of them takes a tab and a byte: with four bytes for the word, 200 bytes have room for 98.
use Prim.Native.Nat.{ℕ, suc, ◌+◌, ◌*◌, ◌≤◌}
use mathlib.Core.Path.{◌≡◌}
use mathlib.Core.List.{List, [], ◌∷◌}
use mathlib.Core.Logic.{⊎_elim}
use native.Mathlib.Omega.{arith}
use lib.IntN.{ℤ}
use lib.ListN.{length, take, length-append}
use lib.Dec.{leb}
use borrow.Author.Tests.{leb-true}
use Rattle.std.specs.Prelude.{Option, Some, None}
use Rattle.lines.specs.Fields.{first_field, later_fields, joined}
use Rattle.lines.specs.Reading.{read_integer}
use Rattle.lines.proofs.Cases.{true_or_false}
use Rattle.lines.proofs.FieldLaws.{joined_fields}
use Rattle.lines.proofs.NaturalLaws.{no_number}
use Rattle.commands.specs.declared.command.Command.TheVariants as command
use Rattle.commands.specs.Values.{value_and, spelt, values_of, Copied}
use Rattle.commands.specs.Commands.{command_of}
use Rattle.commands.proofs.ValueLaws.{copied_whole}

-- a text gives one value at most
one_more : (read : Option ℤ) (values : List ℤ) → length (value_and read values) ≤ suc (length values)
one_more None values = omega arith
one_more (Some value) values = omega arith

-- a text and others after it, each after a tab, take two bytes for each value of the others
joined_room : (text : List ℕ) (others : List (List ℕ)) → length text + 2 * length (spelt others) ≤ length (joined text others)
joined_room text [] = omega arith
joined_room text ([] ∷ others) = omega (arith, length-append text (9 ∷ joined [] others))
joined_room text ((b ∷ l) ∷ others) =
    omega (arith, length-append text (9 ∷ joined (b ∷ l) others), joined_room (b ∷ l) others, one_more (read_integer (b ∷ l)) (spelt others))

-- so does a line
values_room : (line : List ℕ) → length (first_field line) + 2 * length (values_of line) ≤ length line
values_room line = rw (joined_fields line) at (joined_room (first_field line) (later_fields line))

-- so 100 places have room for the values of every list line
list_room : (line : List ℕ) → command_of line ≡ Some command.List → length (values_of line) ≤ 100
list_room line e =
    ⊎_elim
    (λ short. omega (arith, values_room line, leb-true (length line) 200 short))
    (λ long. absurd (no_number (rw long at e)))
    (true_or_false (leb (length line) 200))

-- and whoever lends that many has the values whole
pub list_whole : (line : List ℕ) {before after : List ℤ} {next : ℕ} → command_of line ≡ Some command.List → 100 ≤ length before → Copied (values_of line) 0 before after next → take next after ≡ values_of line
list_whole line e places copied = copied_whole copied (omega (arith, list_room line e))

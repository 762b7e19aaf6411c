-- The values of a list line (RULES.md, D8). Assumes nothing.
use Rattle.std.specs.Prelude.{ℕ, ◌+◌, ◌-◌, min, Bool, true, ◌&&◌, ◌≡◌, List, [], ◌∷◌, length, ℤ, Option, Some, None, is_some}
use Rattle.std.proofs.lemmas.List.Edits.{sets}
use Rattle.lines.specs.Fields.{later_fields}
use Rattle.lines.specs.Reading.{read_integer}

-- whether each text is a value
abbrev pub all_values : List (List ℕ) → Bool
all_values [] = true
all_values (text ∷ texts) = is_some (read_integer text) && all_values texts

-- the value that was read and others after it; none of them where it could not be read
abbrev pub value_and : Option ℤ → List ℤ → List ℤ
value_and None values = []
value_and (Some value) values = value ∷ values

-- the values that texts spell, up to the first text that is no value
abbrev pub spelt : List (List ℕ) → List ℤ
spelt [] = []
spelt (text ∷ texts) = value_and (read_integer text) (spelt texts)

-- the values of a line: those of the fields after the first
abbrev pub values_of : List ℕ → List ℤ
values_of line = spelt (later_fields line)

-- the values stand in the buffer from the place `at` on, as many of them as it has room for, and all else is as before; `next` is the place after them
pub record Copied (values : List ℤ) (at : ℕ) (before after : List ℤ) (next : ℕ) : Type 0 where
  pub written : after ≡ sets before at values
  pub past : next ≡ at + min (length values) (length before - at)

-- Worked examples, which antt computes: fields, spellings, and texts that are the spelling of no number.
use mathlib.Core.Path.{◌≡◌, refl}
use mathlib.Core.List.{[], ◌∷◌}
use lib.IntN.{negsuc}
use Rattle.std.specs.Prelude.{None}
use Rattle.lines.specs.Fields.{fields}
use Rattle.lines.specs.Spelling.{spelled_within, spelled, spelled_integer}
use Rattle.lines.specs.Reading.{read_natural, read_integer}

-- two tabs together and one at the end make empty fields
empty_fields : fields (97 ∷ 9 ∷ 9 ∷ 98 ∷ 9 ∷ []) ≡ (97 ∷ []) ∷ [] ∷ (98 ∷ []) ∷ [] ∷ []
empty_fields = refl

-- 4294967295 is a u32, 4294967296 is none, and neither is 01
largest : spelled 4294967295 ≡ 52 ∷ 50 ∷ 57 ∷ 52 ∷ 57 ∷ 54 ∷ 55 ∷ 50 ∷ 57 ∷ 53 ∷ []
unfolding spelled spelled_within
largest = refl

too_large : read_natural (52 ∷ 50 ∷ 57 ∷ 52 ∷ 57 ∷ 54 ∷ 55 ∷ 50 ∷ 57 ∷ 54 ∷ []) ≡ None
too_large = refl

leading_zero : read_natural (48 ∷ 49 ∷ []) ≡ None
leading_zero = refl

-- -10 is an i32, and -0 is none
minus_ten : spelled_integer (negsuc 9) ≡ 45 ∷ 49 ∷ 48 ∷ []
unfolding spelled spelled_within
minus_ten = refl

minus_zero : read_integer (45 ∷ 48 ∷ []) ≡ None
minus_zero = refl

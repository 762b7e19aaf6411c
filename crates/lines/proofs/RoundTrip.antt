-- What was written as a number's text is read back as that number: the text that stands in the buffer is the number's spelling, and a spelling is read as its number.
use Prim.Native.Nat.{ℕ, ◌+◌, ◌-◌, ◌≤◌}
use mathlib.Core.Path.{◌≡◌, ap, ◌∙◌}
use mathlib.Core.List.{List}
use lib.ListN.{length, take, drop}
use lib.IntN.{ℤ}
use mir.Syntax.{w32}
use mir.Val.{SFits}
use Rattle.std.specs.Prelude.{Some}
use Rattle.lines.specs.Spelling.{spelled, spelled_integer}
use Rattle.lines.specs.Reading.{read_natural, read_integer}
use Rattle.lines.specs.Writing.{Put}
use Rattle.lines.proofs.NaturalLaws.{natural_of_spelled}
use Rattle.lines.proofs.IntegerLaws.{integer_of_spelled}
use Rattle.lines.proofs.WritingLaws.{put_part}

module _ {before after : List ℕ} {at next : ℕ} where
  pub natural_back : (n : ℕ) → n ≤ 4294967295 → Put before at (spelled n) after next → at + length (spelled n) ≤ length before → read_natural (take (next - at) (drop at after)) ≡ Some n
  natural_back n fits put room = ap read_natural (put_part put room) ∙ natural_of_spelled n fits

  pub integer_back : (z : ℤ) → SFits w32 z → Put before at (spelled_integer z) after next → at + length (spelled_integer z) ≤ length before → read_integer (take (next - at) (drop at after)) ≡ Some z
  integer_back z fits put room = ap read_integer (put_part put room) ∙ integer_of_spelled z fits

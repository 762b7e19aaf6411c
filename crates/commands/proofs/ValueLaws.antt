-- The values of a list are read and copied one after the other: what is left at a place is the value there and what is left at the next.
use Prim.Native.Nat.{ℕ, ◌+◌, ◌<◌, ◌≤◌}
use mathlib.Core.Path.{◌≡◌, refl, sym, ap}
use mathlib.Core.Bool.{Bool, true, false, ◌&&◌, cond}
use mathlib.Core.List.{List, [], ◌∷◌}
use native.Mathlib.Numerals.{add-one}
use native.Mathlib.Omega.{arith}
use lib.IntN.{ℤ}
use lib.Signed.{mag}
use lib.ListN.{length, get_or, take, drop, set, length-set}
use lib.Seq.{drop-cons, sets-eq, take-append_seam}
use mir.Syntax.{w32}
use mir.Val.{to_z, of_z}
use mir.Facts.{to_z-of_z}
use Rattle.lines.proofs.WritingLaws.{stores_past}
use Rattle.std.specs.Prelude.{Some, None, is_some}
use Rattle.std.specs.Bool.{then_some}
use Rattle.std.specs.List.{list_all}
use Rattle.lines.specs.Reading.{read_integer}
use Rattle.commands.specs.declared.command.Command.TheVariants as command
use Rattle.commands.specs.Values.{all_values, Copied}

-- an i32 that is passed on is the same number, since 32 bits hold it
pub kept : (z : ℤ) → mag z < 2147483648 → to_z w32 (of_z w32 z) ≡ z
kept z fits = to_z-of_z {w = w32} (record { sfits = fits })

-- what is left of the texts at i is the text there and what is left at i + 1
pub texts_at : (texts : List (List ℕ)) (i : ℕ) → i < length texts → drop i texts ≡ get_or texts i [] ∷ drop (i + 1) texts
texts_at texts i within = rw (add-one, drop-cons texts i [])

-- no value is copied where none is left
pub copied_none : (at : ℕ) (buffer : List ℤ) → Copied [] at buffer buffer at
copied_none at buffer = record { written = refl; past = omega arith }

-- and none past the buffer's end
pub copied_full : (values : List ℤ) (at : ℕ) (buffer : List ℤ) → length buffer ≤ at → Copied values at buffer buffer at
copied_full values at buffer full = record { written = sym (stores_past values buffer at full); past = omega arith }

-- a value is stored, and the others after it
pub copied_more : {values before after : List ℤ} {at next : ℕ} (value : ℤ) → at < length before → Copied values (at + 1) (set before at value) after next → Copied (value ∷ values) at before after next
copied_more {values} {before} {after} {at} {next} value within rest = record {
  written = rw add-one at rest.written;
  past = omega (arith, rest.past, length-set before at value);
}

-- and where there is room for all, they stand in the buffer whole
pub copied_whole : {values before after : List ℤ} {next : ℕ} → Copied values 0 before after next → length values ≤ length before → take next after ≡ values
copied_whole {values} {before} {after} {next} copied room =
    let all : next ≡ length values = omega (arith, copied.past) in
    rw (all, copied.written, sets-eq values before 0 (omega arith)) (take-append_seam values _)

-- every text is a value, as `all` tells it
pub all_told : (texts : List (List ℕ)) → list_all (λ (text : List ℕ). is_some (read_integer text)) texts ≡ all_values texts
all_told [] = refl
all_told (text ∷ texts) = ap (λ (rest : Bool). is_some (read_integer text) && rest) (all_told texts)

pub list_told : (t : Bool) → then_some t command.List ≡ cond t (Some command.List) None
list_told true = refl
list_told false = refl

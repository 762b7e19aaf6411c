-- Worked examples, which antt computes: the lines of the reference session, and lines that are none of any command. Byte 9 is a tab, and bytes 48 to 57 are the digits.
use Prim.Native.Nat.{ℕ, zero, suc}
use mathlib.Core.Path.{◌≡◌, refl}
use mathlib.Core.List.{List, [], ◌∷◌, ◌++◌}
use lib.IntN.{pos, negsuc}
use Rattle.predicates.specs.declared.PredicateType.TheVariants.{LowerBound, NotEqual, Equal, UpperBound}
use Rattle.predicates.specs.declared.Reason.TheVariants as reason
use Rattle.std.specs.Prelude.{Some, None}
use Rattle.commands.specs.declared.command.Command.TheVariants as command
use Rattle.commands.specs.Words.{word_of, dash, var_word, list_word, post_word, open_word, back_word, ask_word, at_word, show_word, count_word}
use Rattle.commands.specs.Values.{values_of}
use Rattle.commands.specs.Commands.{command_of}

-- `var 1 5`
var_line : command_of (var_word ++ 9 ∷ 49 ∷ 9 ∷ 53 ∷ []) ≡ Some (command.Var (pos 1) (pos 5))
var_line = refl

-- `list 8 2 -6`, its values, and `list` alone
list_line : command_of (list_word ++ 9 ∷ 56 ∷ 9 ∷ 50 ∷ 9 ∷ 45 ∷ 54 ∷ []) ≡ Some command.List
list_line = refl

list_line_values : values_of (list_word ++ 9 ∷ 56 ∷ 9 ∷ 50 ∷ 9 ∷ 45 ∷ 54 ∷ []) ≡ pos 8 ∷ pos 2 ∷ negsuc 5 ∷ []
list_line_values = refl

list_alone : command_of list_word ≡ Some command.List
list_alone = refl

-- `post 1 ne 3 -` and `post 2 ge 7 40`
post_line : command_of (post_word ++ 9 ∷ 49 ∷ 9 ∷ word_of NotEqual ++ 9 ∷ 51 ∷ 9 ∷ dash) ≡ Some (command.Post (record { id = 1; kind = NotEqual; value = pos 3 }) reason.None)
post_line = refl

post_with_reason : command_of (post_word ++ 9 ∷ 50 ∷ 9 ∷ word_of LowerBound ++ 9 ∷ 55 ∷ 9 ∷ 52 ∷ 48 ∷ []) ≡ Some (command.Post (record { id = 2; kind = LowerBound; value = pos 7 }) (reason.Given 40))
post_with_reason = refl

-- `open`
open_line : command_of open_word ≡ Some command.Open
open_line = refl

-- `back 0`
back_line : command_of (back_word ++ 9 ∷ 48 ∷ []) ≡ Some (command.Back 0)
back_line = refl

-- `ask 2 le 7`
ask_line : command_of (ask_word ++ 9 ∷ 50 ∷ 9 ∷ word_of UpperBound ++ 9 ∷ 55 ∷ []) ≡ Some (command.Ask (record { id = 2; kind = UpperBound; value = pos 7 }))
ask_line = refl

-- `at 4 1 eq 3`
at_line : command_of (at_word ++ 9 ∷ 52 ∷ 9 ∷ 49 ∷ 9 ∷ word_of Equal ++ 9 ∷ 51 ∷ []) ≡ Some (command.At 4 (record { id = 1; kind = Equal; value = pos 3 }))
at_line = refl

-- `show 4294967295`, the largest u32
show_line : command_of (show_word ++ 9 ∷ 52 ∷ 50 ∷ 57 ∷ 52 ∷ 57 ∷ 54 ∷ 55 ∷ 50 ∷ 57 ∷ 53 ∷ []) ≡ Some (command.Show 4294967295)
show_line = refl

-- `count`
count_line : command_of count_word ≡ Some command.Count
count_line = refl

-- 98 values of one byte fill a line of 200 bytes, and a byte more is too many
abbrev ones : ℕ → List ℕ
ones zero = []
ones (suc n) = 9 ∷ 49 ∷ ones n

full_line : command_of (list_word ++ ones 98) ≡ Some command.List
full_line = refl

long_line : command_of (list_word ++ ones 98 ++ 49 ∷ []) ≡ None
long_line = refl

-- no bytes at all; `list` and a tab; `open` and a tab
empty_line : command_of [] ≡ None
empty_line = refl

list_tab : command_of (list_word ++ 9 ∷ []) ≡ None
list_tab = refl

open_tab : command_of (open_word ++ 9 ∷ []) ≡ None
open_tab = refl

-- `show 01`, `var -0 5`, `var +1 5`
leading_zero : command_of (show_word ++ 9 ∷ 48 ∷ 49 ∷ []) ≡ None
leading_zero = refl

minus_zero : command_of (var_word ++ 9 ∷ 45 ∷ 48 ∷ 9 ∷ 53 ∷ []) ≡ None
minus_zero = refl

plus_one : command_of (var_word ++ 9 ∷ 43 ∷ 49 ∷ 9 ∷ 53 ∷ []) ≡ None
plus_one = refl

-- `var 1 2147483648` and `back 4294967296`, one past the largest i32 and u32
above_values : command_of (var_word ++ 9 ∷ 49 ∷ 9 ∷ 50 ∷ 49 ∷ 52 ∷ 55 ∷ 52 ∷ 56 ∷ 51 ∷ 54 ∷ 52 ∷ 56 ∷ []) ≡ None
above_values = refl

above_numbers : command_of (back_word ++ 9 ∷ 52 ∷ 50 ∷ 57 ∷ 52 ∷ 57 ∷ 54 ∷ 55 ∷ 50 ∷ 57 ∷ 54 ∷ []) ≡ None
above_numbers = refl

-- `Open`; a space for the tab of `back 0`; `count` and a carriage return
upper_case : command_of (79 ∷ 112 ∷ 101 ∷ 110 ∷ []) ≡ None
upper_case = refl

space_for_tab : command_of (back_word ++ 32 ∷ 48 ∷ []) ≡ None
space_for_tab = refl

carriage_return : command_of (count_word ++ 13 ∷ []) ≡ None
carriage_return = refl

-- `back 0 0`, and `post 1 ne 3` with no reason
field_too_many : command_of (back_word ++ 9 ∷ 48 ∷ 9 ∷ 48 ∷ []) ≡ None
field_too_many = refl

field_too_few : command_of (post_word ++ 9 ∷ 49 ∷ 9 ∷ word_of NotEqual ++ 9 ∷ 51 ∷ []) ≡ None
field_too_few = refl

-- Which line is which command (RULES.md, D2, D6, D7 and D8). Assumes nothing.
use Rattle.std.specs.Prelude.{ℕ, Bool, ◌&&◌, cond, List, length, drop, leb, eqb, ℤ, Option, Some, None, option_map}
use Rattle.predicates.specs.declared.Reason.{Reason}
use Rattle.lines.specs.Fields.{fields, same_bytes}
use Rattle.lines.specs.Reading.{read_natural, read_integer}
use Rattle.commands.specs.declared.parts.Claim.{Claim}
use Rattle.commands.specs.declared.command.Command.{Command}
use Rattle.commands.specs.declared.command.Command.TheVariants as command
use Rattle.commands.specs.Words.{var_word, list_word, post_word, open_word, back_word, ask_word, at_word, show_word, count_word}
use Rattle.commands.specs.Parts.{read_reason, text_at, claim_at}
use Rattle.commands.specs.Values.{all_values}

-- a `var` of two bounds, if both could be read
abbrev pub var_with : Option ℤ → Option ℤ → Option Command
var_with None upper = None
var_with (Some lower) None = None
var_with (Some lower) (Some upper) = Some (command.Var lower upper)

-- a `post` of a predicate and a reason, if both could be read
abbrev pub post_with : Option Claim → Option Reason → Option Command
post_with None reason = None
post_with (Some claim) None = None
post_with (Some claim) (Some reason) = Some (command.Post claim reason)

-- a `back` to a checkpoint, if it could be read
abbrev pub back_with : Option ℕ → Option Command
back_with checkpoint = option_map command.Back checkpoint

-- an `ask` for a predicate, if it could be read
abbrev pub ask_with : Option Claim → Option Command
ask_with claim = option_map command.Ask claim

-- an `at` of a position and a predicate, if both could be read
abbrev pub at_with : Option ℕ → Option Claim → Option Command
at_with None claim = None
at_with (Some position) None = None
at_with (Some position) (Some claim) = Some (command.At position claim)

-- a `show` of a variable, if it could be read
abbrev pub show_with : Option ℕ → Option Command
show_with id = option_map command.Show id

-- `var lo hi`
abbrev pub var_of : List (List ℕ) → Option Command
var_of texts = var_with (read_integer (text_at texts 1)) (read_integer (text_at texts 2))

-- `list v..`
abbrev pub list_of : List (List ℕ) → Option Command
list_of texts = cond (all_values (drop 1 texts)) (Some command.List) None

-- `post id op value reason`
abbrev pub post_of : List (List ℕ) → Option Command
post_of texts = post_with (claim_at texts 1 2 3) (read_reason (text_at texts 4))

-- `back k`
abbrev pub back_of : List (List ℕ) → Option Command
back_of texts = back_with (read_natural (text_at texts 1))

-- `ask id op value`
abbrev pub ask_of : List (List ℕ) → Option Command
ask_of texts = ask_with (claim_at texts 1 2 3)

-- `at p id op value`
abbrev pub at_of : List (List ℕ) → Option Command
at_of texts = at_with (read_natural (text_at texts 1)) (claim_at texts 2 3 4)

-- `show id`
abbrev pub show_of : List (List ℕ) → Option Command
show_of texts = show_with (read_natural (text_at texts 1))

-- whether the first text is the word
abbrev pub begins_with : List ℕ → List (List ℕ) → Bool
begins_with word texts = same_bytes (text_at texts 0) word

-- whether there are so many texts, of which the first is the word
abbrev pub says : List ℕ → ℕ → List (List ℕ) → Bool
says word count texts = eqb (length texts) count && begins_with word texts

-- the questions: a word, how many fields its line has, and the command
abbrev pub question_of : List (List ℕ) → Option Command
question_of texts =
    cond (says ask_word 4 texts) (ask_of texts)
    (cond (says at_word 5 texts) (at_of texts)
    (cond (says show_word 2 texts) (show_of texts)
    (cond (says count_word 1 texts) (Some command.Count)
    None)))

-- the commands that change the store, and after them the questions; a list line has any number of fields
abbrev pub change_of : List (List ℕ) → Option Command
change_of texts =
    cond (says var_word 3 texts) (var_of texts)
    (cond (begins_with list_word texts) (list_of texts)
    (cond (says post_word 5 texts) (post_of texts)
    (cond (says open_word 1 texts) (Some command.Open)
    (cond (says back_word 2 texts) (back_of texts)
    (question_of texts)))))

-- a line's command; a line has at most 200 bytes
abbrev pub command_of : List ℕ → Option Command
command_of line = cond (leb (length line) 200) (change_of (fields line)) None

-- What the driver does with a line: the store after it, and the text that is printed (RULES.md, D6, D7, D9 and D10). Assumes nothing.
use Rattle.std.specs.Prelude.{ℕ, ◌≡◌, List, [], ℤ, Option, Some, None, Result, Ok, Err}
use Rattle.predicates.specs.Counts.{counted}
use Rattle.domains.specs.Domain.{Domain}
use Rattle.stores.specs.declared.Assignments.{Assignments}
use Rattle.stores.specs.Made.{Made}
use Rattle.stores.specs.Calls.{grow_answer, grow_store, list_answer, list_store, post_answer, post_store, open_answer, open_store, synchronise_answer, synchronise_store, pairs_of}
use Rattle.stories.specs.Story.{Pair}
use Rattle.stories.specs.Calls.{variables_in, lowers_in}
use Rattle.creating.specs.Parts.{between}
use Rattle.questions.specs.Answers.{ask_now, ask_at}
use Rattle.stories.specs.Questions.{truth, left_of}
use Rattle.stories.specs.declared.Refusal.{Refusal}
use Rattle.commands.specs.declared.command.Command.{Command}
use Rattle.commands.specs.declared.command.Command.TheVariants as command
use Rattle.commands.specs.Commands.{command_of}
use Rattle.commands.specs.Parts.{predicate_of}
use Rattle.commands.specs.Values as values
use Rattle.replies.specs.declared.answers.Reply.{Reply}
use Rattle.replies.specs.declared.answers.Reply.TheVariants as reply
use Rattle.replies.specs.declared.answers.LineRefusal.{LineRefusal}
use Rattle.replies.specs.declared.answers.LineRefusal.TheVariants.{BadLine}
use Rattle.replies.specs.Replies.{answered, grow_reply, post_reply, open_reply, synchronise_reply, truth_reply}
use Rattle.replies.specs.Text.{reply_text}

-- `show` prints a domain's bounds and how many values are left
abbrev pub shown : Domain → Reply
shown d = reply.Shown d.lower d.upper (left_of d)

-- a `show` by these, or by its refusal
abbrev pub show_reply : Result Reply Refusal → Result Reply LineRefusal
show_reply answer = answered (λ (told : Reply). told) answer

-- the store after a command, or after a line that is none; `values` are those of a list, and 1,024 is the room that is lent for pairs
unfoldable pub command_store : Assignments → List ℤ → Option Command → Assignments
command_store s values (Some (command.Var lower upper)) = grow_store s (between lower upper)
command_store s values (Some command.List) = list_store s values
command_store s values (Some (command.Post claim reason)) = post_store s (predicate_of claim) reason
command_store s values (Some command.Open) = open_store s
command_store s values (Some (command.Back k)) = synchronise_store s (counted k) 1024
command_store s values (Some (command.Ask claim)) = s
command_store s values (Some (command.At position claim)) = s
command_store s values (Some (command.Show id)) = s
command_store s values (Some command.Count) = s
command_store s values None = s

-- what is answered
unfoldable pub command_reply : Assignments → List ℤ → Option Command → Result Reply LineRefusal
command_reply s values (Some (command.Var lower upper)) = grow_reply (grow_answer s (between lower upper))
command_reply s values (Some command.List) = grow_reply (list_answer s values)
command_reply s values (Some (command.Post claim reason)) = post_reply (post_answer s (predicate_of claim))
command_reply s values (Some command.Open) = open_reply (open_answer s)
command_reply s values (Some (command.Back k)) = synchronise_reply (synchronise_answer s (counted k) 1024)
command_reply s values (Some (command.Ask claim)) = truth_reply (ask_now (truth claim.kind claim.value) s (counted claim.id))
command_reply s values (Some (command.At position claim)) = truth_reply (ask_at (truth claim.kind claim.value) s (counted claim.id) (counted position))
command_reply s values (Some (command.Show id)) = show_reply (ask_now shown s (counted id))
command_reply s values (Some command.Count) = Ok (reply.Number s.pruned)
command_reply s values None = Err BadLine

-- the pairs that only a `back` has
unfoldable pub command_pairs : Assignments → Option Command → List Pair
command_pairs s (Some (command.Var lower upper)) = []
command_pairs s (Some command.List) = []
command_pairs s (Some (command.Post claim reason)) = []
command_pairs s (Some command.Open) = []
command_pairs s (Some (command.Back k)) = pairs_of s (counted k) 1024
command_pairs s (Some (command.Ask claim)) = []
command_pairs s (Some (command.At position claim)) = []
command_pairs s (Some (command.Show id)) = []
command_pairs s (Some command.Count) = []
command_pairs s None = []

-- what is printed for a command
unfoldable pub command_text : ℕ → Assignments → List ℤ → Option Command → List ℕ
command_text number s values c = reply_text number (command_reply s values c) (variables_in (command_pairs s c)) (lowers_in (command_pairs s c))

-- the store after a line
unfoldable pub line_store : Assignments → List ℕ → Assignments
line_store s line = command_store s (values.values_of line) (command_of line)

-- what is printed for a line
unfoldable pub line_text : ℕ → Assignments → List ℕ → List ℕ
line_text number s line = command_text number s (values.values_of line) (command_of line)

-- a line was answered: the store is the one after it, and the answer, with the pairs of the two slices, prints its text. The last follows
-- from the first, and is said for the caller.
pub record Did (s : Assignments) (line : List ℕ) (after : Assignments) (answer : Result Reply LineRefusal) (variables : List ℕ) (lowers : List ℤ) : Type 0 where
  pub store : after ≡ line_store s line
  pub text : (number : ℕ) → reply_text number answer variables lowers ≡ line_text number s line
  pub made : Made after

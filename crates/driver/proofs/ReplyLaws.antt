-- Only a `back` prints pairs, and of the lent slices it prints those that it wrote: every other answer has the same text whatever the slices hold.
use Prim.Native.Nat.{ℕ}
use mathlib.Core.Bool.{Bool, true, false}
use mathlib.Core.Path.{◌≡◌, refl, sym, ap, subst, ◌∙◌}
use mathlib.Core.List.{List, [], ◌∷◌, ◌++◌}
use lib.IntN.{ℤ}
use lib.ListN.{length}
use lib.Dec.{leb, ltb}
use Rattle.std.specs.Prelude.{Option, Some, None, Result, Ok, Err, is_ok}
use Rattle.domains.specs.Choice.{pick}
use Rattle.stores.specs.declared.Assignments.{Assignments}
use Rattle.stories.specs.declared.Refusal.{Refusal}
use Rattle.stories.specs.declared.Refusal.TheVariants.{NoVariable, NotLower, NoRoom}
use Rattle.stories.specs.Story.{Pair}
use Rattle.stores.specs.Calls.{entries_above, unfixed, synchronise_answer, pairs_of}
use Rattle.stories.specs.Calls.{written, variables_in, lowers_in}
use Rattle.stores.specs.Made.{Made}
use Rattle.stores.specs.Store.{domain_of}
use Rattle.questions.specs.Answers.{ask_now}
use Rattle.lines.specs.Spelling.{spelled}
use Rattle.commands.specs.declared.command.Command.{Command}
use Rattle.commands.specs.Commands.{command_of}
use Rattle.commands.specs.Values.{values_of}
use Rattle.replies.specs.declared.answers.Reply.{Reply}
use Rattle.replies.specs.declared.answers.Reply.TheVariants as reply
use Rattle.replies.specs.declared.answers.LineRefusal.{LineRefusal}
use Rattle.replies.specs.Replies.{answered, synchronise_reply}
use Rattle.replies.specs.Text.{field, ok_word, pair_text, pairs_text, reply_text}
use Rattle.replies.proofs.PairLaws.{pairs_none}
use Rattle.driver.specs.Lines.{command_store, command_text, line_store, line_text, shown, show_reply, Did}

-- an answer whose text does not hang on the slices
abbrev pub Plain : Result Reply LineRefusal → Type 0
Plain r = (number : ℕ) (variables : List ℕ) (lowers : List ℤ) → reply_text number r variables lowers ≡ reply_text number r [] []

-- a call is answered so, if what it gives is
pub answered_plain : {A : Type 0} (told : A → Reply) → ((given : A) → Plain (Ok (told given))) → (a : Result A Refusal) → Plain (answered told a)
answered_plain told plain (Ok given) number variables lowers = plain given number variables lowers
answered_plain told plain (Err r) number variables lowers = refl

pub truth_plain : (t : Option Bool) → Plain (Ok (reply.Truth t))
truth_plain (Some true) number variables lowers = refl
truth_plain (Some false) number variables lowers = refl
truth_plain None number variables lowers = refl

-- so is a variable's bounds, or that there is no such variable
pub shown_plain : (s : Assignments) (x : ℕ) → Plain (show_reply (ask_now shown s x))
shown_plain s x = go (leb s.domains x)
  where
    go : (none : Bool) → Plain (show_reply (pick none (Err NoVariable) (Ok (shown (domain_of s x)))))
    go true number variables lowers = refl
    go false number variables lowers = refl

pairs_before : (pairs : List Pair) (variables : List ℕ) (lowers : List ℤ) → pairs_text (length pairs) (variables_in pairs ++ variables) (lowers_in pairs ++ lowers) ≡ pairs_text (length pairs) (variables_in pairs) (lowers_in pairs)
unfolding pairs_text
pairs_before [] variables lowers = pairs_none variables lowers
pairs_before (p ∷ pairs) variables lowers = ap (λ (t : List ℕ). pair_text p.variable p.lower ++ t) (pairs_before pairs variables lowers)

-- a `back` prints the pairs that it wrote to the slices
abbrev Shows : Result ℕ Refusal → List Pair → Type 0
Shows a pairs = (number : ℕ) (variables : List ℕ) (lowers : List ℤ) → reply_text number (synchronise_reply a) (written (variables_in pairs) variables) (written (lowers_in pairs) lowers) ≡ reply_text number (synchronise_reply a) (variables_in pairs) (lowers_in pairs)

abbrev answer_of : Bool → Bool → List Pair → Result ℕ Refusal
answer_of high full pairs = pick high (Err NotLower) (pick full (Err NoRoom) (Ok (length pairs)))

either_shows : (high full : Bool) (pairs : List Pair) → Shows (answer_of high full pairs) (pick (is_ok (answer_of high full pairs)) pairs [])
either_shows true full pairs number variables lowers = refl
either_shows false true pairs number variables lowers = refl
either_shows false false pairs number variables lowers = ap (λ (t : List ℕ). spelled number ++ ((field ok_word ++ t) ++ (10 ∷ []))) (pairs_before pairs _ _)

pub back_shows : (s : Assignments) (k : ℕ) → Shows (synchronise_answer s k 1024) (pairs_of s k 1024)
unfolding synchronise_answer pairs_of
back_shows s k = either_shows (leb s.checkpoint k) (ltb 1024 (entries_above s k)) (unfixed (entries_above s k) s)

-- what was done for a command was done for each line that says it
module _ {s : Assignments} {line : List ℕ} {after : Assignments} {answer : Result Reply LineRefusal} {variables : List ℕ} {lowers : List ℤ} (c : Option Command) (said : command_of line ≡ c) (stored : after ≡ command_store s (values_of line) c) (made : Made (command_store s (values_of line) c)) where
  pub did : ((number : ℕ) → reply_text number answer variables lowers ≡ command_text number s (values_of line) c) → Did s line after answer variables lowers
  unfolding line_store line_text
  did text = record {
    store = stored ∙ ap (command_store s (values_of line)) (sym said);
    text = λ number. text number ∙ ap (command_text number s (values_of line)) (sym said);
    made = subst Made (sym stored) made;
  }

  pub did_plain : {plainly : Result Reply LineRefusal} → answer ≡ plainly → Plain plainly → ((number : ℕ) → reply_text number plainly [] [] ≡ command_text number s (values_of line) c) → Did s line after answer variables lowers
  did_plain answered plain text = did (λ number. ap (λ (a : Result Reply LineRefusal). reply_text number a variables lowers) answered ∙ plain number variables lowers ∙ text number)

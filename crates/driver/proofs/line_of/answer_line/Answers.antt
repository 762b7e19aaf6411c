-- `answer_line` does in each arm what the command asks for, and prints what its call answers.
use mathlib.Core.Path.{◌≡◌, refl, ap, ◌∙◌}
use Rattle.std.proofs.Common.{rules, Some, None, Err}
use mir.Syntax.{w32}
use mir.Val.{SFits}
use mir.Facts.{to_z-of_z}
use Rattle.predicates.specs.declared.Predicate.{Predicate}
use Rattle.stories.specs.Questions.{truth}
use Rattle.stores.specs.Calls.{grow_answer, grow_store, post_answer, post_store, synchronise_answer, synchronise_store, pairs_of}
use Rattle.stories.specs.Calls.{written, variables_in, lowers_in}
use Rattle.stores.specs.Made.Made.{grow as made-grow, list as Made-List, post as made-post, open_next as made-open, synchronise as made-back}
use Rattle.creating.specs.Parts.{between}
use Rattle.questions.specs.Answers.{ask_now, ask_at}
use Rattle.commands.specs.Commands.{command_of}
use Rattle.commands.specs.declared.command.Command.TheVariants as command
use Rattle.replies.specs.declared.answers.LineRefusal.TheVariants.{BadLine}
use Rattle.replies.specs.Replies.{grow_reply, post_reply, open_reply, synchronise_reply, truth_reply}
use Rattle.replies.specs.Text.{reply_text}
use Rattle.driver.specs.Lines.{command_store, command_reply, command_pairs, command_text, shown, show_reply}
use Rattle.driver.proofs.ListLaws.{values_fit}
use Rattle.driver.proofs.ReplyLaws.{answered_plain, truth_plain, shown_plain, back_shows, did, did_plain}
use Rattle.driver.proofs.line_of.answer_line.Goals as goal

pub returns-in_err-command : goal.returns-in_err-command
unfolding command_store command_reply command_pairs command_text
returns-in_err-command c =
    let said : command_of c.args.line.now ≡ None = search rules in
    let told : c.from_residual.result ≡ Err BadLine = search rules in
    did_plain None said refl c.requires told (λ number variables lowers. refl) (λ number. refl)

pub returns-in-Var : goal.returns-in-Var
unfolding command_store command_reply command_pairs command_text
returns-in-Var c =
    let s = c.args.store.now in
    let asked = c.in-Var in
    let lower : SFits w32 asked.lower = search rules in
    let upper : SFits w32 asked.upper = search rules in
    let said : command_of c.args.line.now ≡ Some (command.Var asked.lower asked.upper) = search rules in
    did_plain (Some (command.Var asked.lower asked.upper)) said
    (c.grow.ensures.store ∙ (λ i. grow_store s (between (to_z-of_z lower i) (to_z-of_z upper i))))
    (made-grow c.requires _ (record { lower = lower; upper = upper }))
    (c.of_grow.ensures ∙ ap grow_reply (c.grow.ensures.answer ∙ (λ i. grow_answer s (between (to_z-of_z lower i) (to_z-of_z upper i)))))
    (answered_plain _ (λ x number variables lowers. refl) _)
    (λ number. refl)

pub returns-in-List : goal.returns-in-List
unfolding command_store command_reply command_pairs command_text
returns-in-List c =
    let said : command_of c.args.line.now ≡ Some command.List = search rules in
    did_plain (Some command.List) said
    c.list.ensures.store
    (Made-List c.requires _ (values_fit c.args.line.now))
    (c.of_grow-in-List.ensures ∙ ap grow_reply c.list.ensures.answer)
    (answered_plain _ (λ x number variables lowers. refl) _)
    (λ number. refl)

pub returns-in-Post : goal.returns-in-Post
unfolding command_store command_reply command_pairs command_text
returns-in-Post c =
    let s = c.args.store.now in
    let asked = c.in-Post in
    let value : SFits w32 asked.claim.value = search rules in
    let said : command_of c.args.line.now ≡ Some (command.Post asked.claim asked.reason) = search rules in
    did_plain (Some (command.Post asked.claim asked.reason)) said
    (c.post.ensures.store ∙ ap (λ (p : Predicate). post_store s p asked.reason) c.from.ensures)
    (made-post c.requires _ _ value)
    (c.of_post.ensures ∙ ap post_reply (c.post.ensures.answer ∙ ap (post_answer s) c.from.ensures))
    (answered_plain _ (λ changed number variables lowers. refl) _)
    (λ number. refl)

pub returns-in-Open : goal.returns-in-Open
unfolding command_store command_reply command_pairs command_text
returns-in-Open c =
    let said : command_of c.args.line.now ≡ Some command.Open = search rules in
    did_plain (Some command.Open) said
    c.open.ensures.store
    (made-open c.requires)
    (c.of_open.ensures ∙ ap open_reply c.open.ensures.answer)
    (answered_plain _ (λ k number variables lowers. refl) _)
    (λ number. refl)

pub returns-in-Back : goal.returns-in-Back
unfolding command_store command_reply command_pairs command_text
returns-in-Back c =
    let s = c.args.store.now in
    let k = c.in-Back.checkpoint in
    let said : command_of c.args.line.now ≡ Some (command.Back k) = search rules in
    let gone = c.back.ensures in
    let before = c.args.pairs.now in
    did (Some (command.Back k)) said
    (gone.store ∙ (λ i. synchronise_store s (c.new.ensures i) 1024))
    (made-back c.requires _ 1024)
    (λ number.
    (λ i. reply_text number ((c.of_synchronise.ensures ∙ ap synchronise_reply (gone.answer ∙ (λ j. synchronise_answer s (c.new.ensures j) 1024))) i)
    ((gone.variables ∙ (λ j. written (variables_in (pairs_of s (c.new.ensures j) 1024)) before.variables)) i)
    ((gone.lowers ∙ (λ j. written (lowers_in (pairs_of s (c.new.ensures j) 1024)) before.lowers)) i))
    ∙ back_shows s _ number _ _)

pub returns-in-Ask : goal.returns-in-Ask
unfolding command_store command_reply command_pairs command_text
returns-in-Ask c =
    let s = c.args.store.now in
    let claim = c.in-Ask.claim in
    let said : command_of c.args.line.now ≡ Some (command.Ask claim) = search rules in
    did_plain (Some (command.Ask claim)) said
    refl
    c.requires
    (c.of_truth.ensures ∙ ap truth_reply (c.ask.ensures ∙ ap (λ (p : Predicate). ask_now (truth p.kind p.value) s p.domain.0) c.from-in-Ask.ensures))
    (answered_plain _ truth_plain _)
    (λ number. refl)

pub returns-in-At : goal.returns-in-At
unfolding command_store command_reply command_pairs command_text
returns-in-At c =
    let s = c.args.store.now in
    let asked = c.in-At in
    let said : command_of c.args.line.now ≡ Some (command.At asked.position asked.claim) = search rules in
    did_plain (Some (command.At asked.position asked.claim)) said
    refl
    c.requires
    (c.of_truth-in-At.ensures ∙ ap truth_reply (c.ask_at.ensures ∙ (λ i. let p : Predicate = c.from-in-At.ensures i in ask_at (truth p.kind p.value) s p.domain.0 (c.new-at.ensures i))))
    (answered_plain _ truth_plain _)
    (λ number. refl)

pub returns-in-Show : goal.returns-in-Show
unfolding command_store command_reply command_pairs command_text
returns-in-Show c =
    let s = c.args.store.now in
    let id = c.in-Show.id in
    let said : command_of c.args.line.now ≡ Some (command.Show id) = search rules in
    did_plain (Some (command.Show id)) said
    refl
    c.requires
    (c.show.ensures ∙ (λ i. show_reply (ask_now shown s (c.new-in-Show.ensures i))))
    (shown_plain s _)
    (λ number. refl)

pub returns-in-Count : goal.returns-in-Count
unfolding command_store command_reply command_pairs command_text
returns-in-Count c =
    let said : command_of c.args.line.now ≡ Some command.Count = search rules in
    did_plain (Some command.Count) said refl c.requires refl (λ number variables lowers. refl) (λ number. refl)

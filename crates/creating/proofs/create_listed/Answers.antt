-- A list is refused where the dense variable is, or where there is no room; else what is missing is removed, and the mark is set.
use mathlib.Core.Path.{◌≡◌, sym, ap, ◌∙◌}
use mathlib.Core.List.{List}
use lib.IntN.{ℤ}
use native.Mathlib.Omega.{arith}
use borrow.Author.Rules.{rules}
use Rattle.std.proofs.lemmas.Result.{err_from_is_err_and}
use Rattle.domains.specs.declared.Bounds.{Bounds}
use Rattle.stores.specs.declared.Assignments.{Assignments}
use Rattle.stories.specs.Calls.{span_of}
use Rattle.stores.specs.Calls.{grow_answer, grow_store}
use Rattle.stores.proofs.History.{straight}
use Rattle.creating.specs.Spans.{Spanned, spanned}
use Rattle.creating.specs.Sparse.{nothing_alike, refused_alike, walk_start, full_alike, mark_there, taken_alike}
use Rattle.creating.proofs.create_listed.Goals as goal
use Rattle.creating.proofs.create_listed.Goals.{After-create_dense-2}

-- what the dense variable comes to
module _ (c : After-create_dense-2) where
  abbrev store : Assignments
  store = c.args.store.now

  abbrev values : List ℤ
  values = c.args.values.now

  some : Spanned values
  some = spanned values c.in-Some.ensures.0

  answer : c.create_dense-2.result ≡ grow_answer store (span_of values)
  answer = c.create_dense-2.ensures.answer ∙ ap (grow_answer store) c.in-Some.ensures.1

  grown : c.create_dense-2.new.store ≡ grow_store store (span_of values)
  grown = c.create_dense-2.ensures.store ∙ ap (grow_store store) c.in-Some.ensures.1

pub returns-in_default-clause-answer : goal.returns-in_default-clause-answer
returns-in_default-clause-answer c =
    c.create_dense.ensures.answer ∙ (nothing_alike c.args.store.now c.args.values.now c.in_default.ensures).0

pub returns-in_default-clause-taken : goal.returns-in_default-clause-taken
returns-in_default-clause-taken c =
    let stored = c.create_dense.ensures.store ∙ (nothing_alike c.args.store.now c.args.values.now c.in_default.ensures).1 in
    search rules

pub returns-in_err-id-clause-answer : goal.returns-in_err-id-clause-answer
returns-in_err-id-clause-answer c =
    let g = (goal.at.returns-in_err-id-clause-answer c).After-create_dense-2 in
    let p = err_from_is_err_and c.from_residual.result c.from_residual.ensures.1 in
    let made = sym (answer g) ∙ c.in_err-id.was in
    rw (p.1, p.2) (sym made ∙ (refused_alike (store g) (values g) (some g) _ made).0)

pub remove_missing-requires : goal.remove_missing-requires
remove_missing-requires c =
    let g = (goal.at.remove_missing-requires c).After-create_dense-2 in
    let span = c.in-Some.ensures.1 in
    record {
      span = span;
      walk =
          rw (ap (λ (b : Bounds). b.lower) span)
          (walk_start (store g) (values g) (some g) _ _ (sym (answer g) ∙ c.in_ok-id.was) (grown g) (straight c.requires));
    }

pub returns-in_err-remove_missing-clause-answer : goal.returns-in_err-remove_missing-clause-answer
returns-in_err-remove_missing-clause-answer c =
    let g = (goal.at.returns-in_err-remove_missing-clause-answer c).After-create_dense-2 in
    let p = err_from_is_err_and c.from_residual-in_err-remove_missing.result c.from_residual-in_err-remove_missing.ensures.1 in
    let full = c.in_err-remove_missing.ensures.full in
    rw (p.1, p.2, full.0) (full_alike (store g) (values g) (some g) _ _ (sym (answer g) ∙ c.in_ok-id.was) (grown g) full.1).0

pub set_mark-requires : goal.set_mark-requires
set_mark-requires c =
    let g = (goal.at.set_mark-requires c).After-create_dense-2 in
    let there = mark_there (store g) (values g) (some g) _ _ (sym (answer g) ∙ c.in_ok-id.was) (grown g) _ c.in_ok-remove_missing.ensures.taken in
    record { number = there.0; some = there.1; short = omega (arith, there.2) }

pub returns-clause-answer : goal.returns-clause-answer
returns-clause-answer c =
    let g = (goal.at.returns-clause-answer c).After-create_dense-2 in
    (taken_alike (store g) (values g) (some g) _ _ (sym (answer g) ∙ c.in_ok-id.was) (grown g) _ c.in_ok-remove_missing.ensures.taken).0

pub returns-clause-taken : goal.returns-clause-taken
returns-clause-taken c =
    let g = (goal.at.returns-clause-taken c).After-create_dense-2 in
    c.set_mark.ensures ∙ (taken_alike (store g) (values g) (some g) _ _ (sym (answer g) ∙ c.in_ok-id.was) (grown g) _ c.in_ok-remove_missing.ensures.taken).1

-- What is promised of the questions: statements alone, the first half of demand 3 first. The proofs are in Kept.antt. Believe the
-- definitions that these cite (Answers; Replay, Refusals and Made of stores; Domain and Truth of domains) and nothing else. Assumes nothing.
use Rattle.std.specs.Prelude.{ℕ, suc, ◌≤◌, ◌<◌, min, ◌≡◌, ◌↔◌, Bool, true, false, Option, Some, None, Result, Ok, Err, ℤ, ◌≤ℤ◌}
use Rattle.std.specs.Int.Signed.{le_z}
use Rattle.predicates.specs.declared.PredicateType.{PredicateType}
use Rattle.predicates.specs.declared.PredicateType.TheVariants.{LowerBound, NotEqual, Equal, UpperBound}
use Rattle.domains.specs.Domain.{satisfies}
use Rattle.stores.specs.declared.Assignments.{Assignments}
use Rattle.stories.specs.declared.Refusal.{Refusal}
use Rattle.stories.specs.declared.Refusal.TheVariants.{NoVariable}
use Rattle.stores.specs.Store.{variable_of}
use Rattle.stores.specs.Made.{Made}
use Rattle.stories.specs.Story.{remains}
use Rattle.stories.specs.Questions.{lowest, highest, contains, is_one, assigned_value, truth}
use Rattle.questions.specs.Answers.{asked, ask_now, ask_at}

-- ---- Demand 3: the answers about a position

-- v remains of variable x at position p: it is in the starting interval, and satisfies every predicate on x in the entries up to and with p
abbrev pub remains_at : Assignments → ℕ → ℕ → ℤ → Bool
remains_at s x p v = remains s.trail.entries x (variable_of s x).initial v (min (suc p) s.trail.length)

-- it remains now: it satisfies those of all entries
abbrev pub remains_now : Assignments → ℕ → ℤ → Bool
remains_now s x v = remains s.trail.entries x (variable_of s x).initial v s.trail.length

-- some value remains; none does; v alone does; all that remain answer the predicate so
abbrev pub SomeLeft : (ℤ → Bool) → Type 0
SomeLeft remain = (v : ℤ) × (remain v ≡ true)

abbrev pub NoneLeft : (ℤ → Bool) → Type 0
NoneLeft remain = (v : ℤ) → remain v ≡ false

abbrev pub Only : (ℤ → Bool) → ℤ → Type 0
Only remain v = (remain v ≡ true) × ((x : ℤ) → remain x ≡ true → x ≡ v)

abbrev pub All : (ℤ → Bool) → PredicateType → ℤ → Bool → Type 0
All remain k v answer = (x : ℤ) → remain x ≡ true → satisfies k v x ≡ answer

-- what the questions say of one variable
pub record Said : Type 0 where
  pub lower : Result ℤ Refusal
  pub upper : Result ℤ Refusal
  pub inside : ℤ → Result Bool Refusal
  pub fixed : Result Bool Refusal
  pub value : Result (Option ℤ) Refusal
  pub evaluated : PredicateType → ℤ → Result (Option Bool) Refusal

-- of variable x now
abbrev pub said_now : Assignments → ℕ → Said
said_now s x = record {
  lower = ask_now lowest s x;
  upper = ask_now highest s x;
  inside = λ v. ask_now (contains v) s x;
  fixed = ask_now is_one s x;
  value = ask_now assigned_value s x;
  evaluated = λ k v. ask_now (truth k v) s x;
}

-- and at position p
abbrev pub said_at : Assignments → ℕ → ℕ → Said
said_at s x p = record {
  lower = ask_at lowest s x p;
  upper = ask_at highest s x p;
  inside = λ v. ask_at (contains v) s x p;
  fixed = ask_at is_one s x p;
  value = ask_at assigned_value s x p;
  evaluated = λ k v. ask_at (truth k v) s x p;
}

-- what is said is about the values that remain: those are the members, lower and upper are the least and the greatest, a predicate is
-- true exactly when all satisfy it, false exactly when none does, and open otherwise (Q18). Where none remains the order of tests
-- decides: "not v" is true, "equal v" is false, and "at least" and "at most" are true from the bound on and else false (Q7)
pub record About (remain : ℤ → Bool) (said : Said) : Type 0 where
  pub member : (v : ℤ) → said.inside v ≡ Ok (remain v)
  pub least : SomeLeft remain → (l : ℤ) × (said.lower ≡ Ok l) × (remain l ≡ true) × ((v : ℤ) → remain v ≡ true → l ≤ℤ v)
  pub greatest : SomeLeft remain → (u : ℤ) × (said.upper ≡ Ok u) × (remain u ≡ true) × ((v : ℤ) → remain v ≡ true → v ≤ℤ u)
  pub fixed : (said.fixed ≡ Ok true) ↔ ((v : ℤ) × Only remain v)
  pub value : (v : ℤ) → (said.value ≡ Ok (Some v)) ↔ Only remain v
  pub holds : SomeLeft remain → (k : PredicateType) (v : ℤ) → (said.evaluated k v ≡ Ok (Some true)) ↔ All remain k v true
  pub fails : SomeLeft remain → (k : PredicateType) (v : ℤ) → (said.evaluated k v ≡ Ok (Some false)) ↔ All remain k v false
  pub open' : SomeLeft remain → (k : PredicateType) (v : ℤ) → (said.evaluated k v ≡ Ok None) ↔ ((All remain k v true → ⊥) × (All remain k v false → ⊥))
  pub none_not : NoneLeft remain → (v : ℤ) → said.evaluated NotEqual v ≡ Ok (Some true)
  pub none_equal : NoneLeft remain → (v : ℤ) → said.evaluated Equal v ≡ Ok (Some false)
  pub none_at_least : NoneLeft remain → (v l : ℤ) → said.lower ≡ Ok l → said.evaluated LowerBound v ≡ Ok (Some (le_z v l))
  pub none_at_most : NoneLeft remain → (v u : ℤ) → said.upper ≡ Ok u → said.evaluated UpperBound v ≡ Ok (Some (le_z u v))

-- at every position, those before the variable's creation included: there the whole starting interval remains
abbrev pub PositionLaw : Type 0
PositionLaw = (s : Assignments) → Made s → (x p : ℕ) → x < s.domains → About (remains_at s x p) (said_at s x p)

-- and now
abbrev pub NowLaw : Type 0
NowLaw = (s : Assignments) → Made s → (x : ℕ) → x < s.domains → About (remains_now s x) (said_now s x)

-- a position at the last entry or past it means now (Q1)
abbrev pub PastLaw : Type 0
PastLaw = (s : Assignments) → Made s → (x p : ℕ) → s.trail.length ≤ suc p → said_at s x p ≡ said_now s x

-- ---- Demand 1: refusals. Each question's statement is one equation, so two conforming answers are equal by SameLaw of stores

-- a question is refused with 1 where there is no such variable, and else answered
abbrev pub RefusalLaw : Type 1
RefusalLaw =
    (A : Type 0) (s : Assignments) (x : ℕ) (answer : A) →
    (s.domains ≤ x → asked s x answer ≡ Err NoVariable) × (x < s.domains → asked s x answer ≡ Ok answer)

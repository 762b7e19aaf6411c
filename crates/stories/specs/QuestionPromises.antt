-- What is promised of the questions: statements alone, the first half of demand 3 first. Nothing proves them of stories
-- yet; what is proved of the questions to a store is in Promises.antt of questions. Believe the definitions that these cite (Questions, Story and Refusals; Domain and Truth of domains) and nothing else. Assumes nothing.
use Rattle.std.specs.Prelude.{ℕ, suc, ◌≤◌, ◌<◌, min, ◌≡◌, ◌↔◌, Bool, true, false, Option, Some, None, Result, Ok, Err, ℤ, length, ◌≤ℤ◌}
use Rattle.std.specs.Int.Signed.{le_z}
use Rattle.predicates.specs.declared.PredicateType.{PredicateType}
use Rattle.predicates.specs.declared.PredicateType.TheVariants.{LowerBound, NotEqual, Equal, UpperBound}
use Rattle.domains.specs.Domain.{satisfies}
use Rattle.stories.specs.declared.Refusal.{Refusal}
use Rattle.stories.specs.declared.Refusal.TheVariants.{NoVariable}
use Rattle.stories.specs.Story.{Story, start_of, remains}
use Rattle.stories.specs.Questions.{lowest, highest, contains, is_one, assigned_value, truth, asked, ask_now, ask_at}

-- ---- Demand 3: the answers about a position

-- v remains of variable x at position p: it is in the starting interval, and satisfies every predicate on x in the entries up to and with p
abbrev pub remains_at : Story → ℕ → ℕ → ℤ → Bool
remains_at t x p v = remains t.entries x (start_of t x) v (min (suc p) (length t.entries))

-- it remains now: it satisfies those of all entries
abbrev pub remains_now : Story → ℕ → ℤ → Bool
remains_now t x v = remains t.entries x (start_of t x) v (length t.entries)

-- some value remains; none does; v alone does; all that remain answer the predicate so
abbrev pub SomeLeft : (ℤ → Bool) → Type 0
SomeLeft remain = (v : ℤ) × (remain v ≡ true)

abbrev pub NoneLeft : (ℤ → Bool) → Type 0
NoneLeft remain = (v : ℤ) → remain v ≡ false

abbrev pub Only : (ℤ → Bool) → ℤ → Type 0
Only remain v = (remain v ≡ true) × ((x : ℤ) → remain x ≡ true → x ≡ v)

abbrev pub All : (ℤ → Bool) → PredicateType → ℤ → Bool → Type 0
All remain k v answer = (x : ℤ) → remain x ≡ true → satisfies k v x ≡ answer

-- what the questions say of one variable
pub record Said : Type 0 where
  pub lower : Result ℤ Refusal
  pub upper : Result ℤ Refusal
  pub inside : ℤ → Result Bool Refusal
  pub fixed : Result Bool Refusal
  pub value : Result (Option ℤ) Refusal
  pub evaluated : PredicateType → ℤ → Result (Option Bool) Refusal

-- of variable x now
abbrev pub said_now : Story → ℕ → Said
said_now t x = record {
  lower = ask_now lowest t x;
  upper = ask_now highest t x;
  inside = λ v. ask_now (contains v) t x;
  fixed = ask_now is_one t x;
  value = ask_now assigned_value t x;
  evaluated = λ k v. ask_now (truth k v) t x;
}

-- and at position p
abbrev pub said_at : Story → ℕ → ℕ → Said
said_at t x p = record {
  lower = ask_at lowest t x p;
  upper = ask_at highest t x p;
  inside = λ v. ask_at (contains v) t x p;
  fixed = ask_at is_one t x p;
  value = ask_at assigned_value t x p;
  evaluated = λ k v. ask_at (truth k v) t x p;
}

-- what is said is about the values that remain: those are the members, lower and upper are the least and the greatest, a predicate is
-- true exactly when all satisfy it, false exactly when none does, and open otherwise (Q18). Where none remains the order of tests
-- decides: "not v" is true, "equal v" is false, and "at least" and "at most" are true from the bound on and else false (Q7)
pub record About (remain : ℤ → Bool) (said : Said) : Type 0 where
  pub member : (v : ℤ) → said.inside v ≡ Ok (remain v)
  pub least : SomeLeft remain → (l : ℤ) × (said.lower ≡ Ok l) × (remain l ≡ true) × ((v : ℤ) → remain v ≡ true → l ≤ℤ v)
  pub greatest : SomeLeft remain → (u : ℤ) × (said.upper ≡ Ok u) × (remain u ≡ true) × ((v : ℤ) → remain v ≡ true → v ≤ℤ u)
  pub fixed : (said.fixed ≡ Ok true) ↔ ((v : ℤ) × Only remain v)
  pub value : (v : ℤ) → (said.value ≡ Ok (Some v)) ↔ Only remain v
  pub holds : SomeLeft remain → (k : PredicateType) (v : ℤ) → (said.evaluated k v ≡ Ok (Some true)) ↔ All remain k v true
  pub fails : SomeLeft remain → (k : PredicateType) (v : ℤ) → (said.evaluated k v ≡ Ok (Some false)) ↔ All remain k v false
  pub open' : SomeLeft remain → (k : PredicateType) (v : ℤ) → (said.evaluated k v ≡ Ok None) ↔ ((All remain k v true → ⊥) × (All remain k v false → ⊥))
  pub none_not : NoneLeft remain → (v : ℤ) → said.evaluated NotEqual v ≡ Ok (Some true)
  pub none_equal : NoneLeft remain → (v : ℤ) → said.evaluated Equal v ≡ Ok (Some false)
  pub none_at_least : NoneLeft remain → (v l : ℤ) → said.lower ≡ Ok l → said.evaluated LowerBound v ≡ Ok (Some (le_z v l))
  pub none_at_most : NoneLeft remain → (v u : ℤ) → said.upper ≡ Ok u → said.evaluated UpperBound v ≡ Ok (Some (le_z u v))

-- at every position, those before the variable's creation included: there the whole starting interval remains
abbrev pub PositionLaw : Type 0
PositionLaw = (t : Story) → (x p : ℕ) → x < length t.variables → About (remains_at t x p) (said_at t x p)

-- and now
abbrev pub NowLaw : Type 0
NowLaw = (t : Story) → (x : ℕ) → x < length t.variables → About (remains_now t x) (said_now t x)

-- a position at the last entry or past it means now (Q1)
abbrev pub PastLaw : Type 0
PastLaw = (t : Story) → (x p : ℕ) → length t.entries ≤ suc p → said_at t x p ≡ said_now t x

-- ---- Demand 1: refusals. Each question's statement is one equation, so two conforming answers are equal

-- a question is refused with 1 where there is no such variable, and else answered
abbrev pub RefusalLaw : Type 1
RefusalLaw =
    (A : Type 0) (t : Story) (x : ℕ) (answer : A) →
    (length t.variables ≤ x → asked t x answer ≡ Err NoVariable) × (x < length t.variables → asked t x answer ≡ Ok answer)

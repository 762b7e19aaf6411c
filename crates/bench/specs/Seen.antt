-- What a check of RULES.md, "Bench checks", does to a store and looks at: how it begins, its posts, and what is seen after each.
-- Assumes nothing.
use Rattle.stories.specs.declared.Refusal.{Refusal}
use Rattle.predicates.specs.declared.DomainId.{DomainId}
use Rattle.std.specs.Prelude.{ℕ, Bool, List, [], ◌∷◌, ℤ, Result, Ok}
use Rattle.predicates.specs.declared.Predicate.{Predicate}
use Rattle.predicates.specs.declared.PredicateType.{PredicateType}
use Rattle.predicates.specs.declared.Reason.TheVariants.{None}
use Rattle.domains.specs.declared.Bounds.{Bounds}
use Rattle.domains.specs.Domain.{Domain}
use Rattle.stores.specs.declared.Assignments.{Assignments}
use Rattle.stories.specs.Words.{Told, told_of}
use Rattle.stores.specs.Store.{variable_of, domain_of}
use Rattle.stores.specs.Calls as Calls

-- ---- what is seen

-- the number of variables, the current checkpoint, one variable's domain and mark, the number of entries, and the count
pub record Seen : Type 0 where
  pub variables : ℕ
  pub checkpoint : ℕ
  pub domain : Domain
  pub mark : ℕ
  pub entries : ℕ
  pub count : ℕ

-- what is seen of variable x in a store
unfoldable pub shown : Assignments → ℕ → Seen
shown s x = record {
  variables = s.domains;
  checkpoint = s.checkpoint;
  domain = domain_of s x;
  mark = (variable_of s x).mark.0;
  entries = s.trail.length;
  count = s.pruned;
}

-- ---- how a check begins

-- with a fresh store, and then with nothing more, with a dense variable, or with one from a list
pub data Start : Type 0 where
  fresh : Start
  dense : Bounds → Start
  list : List ℤ → Start

-- the store then
abbrev pub begun : Start → Assignments
begun Start.fresh = Calls.fresh
begun (Start.dense b) = Calls.grow_store Calls.fresh b
begun (Start.list vs) = Calls.list_store Calls.fresh vs

-- the variable that is looked at
abbrev pub looked : Start → ℕ
looked Start.fresh = 0
looked (Start.dense b) = 1
looked (Start.list vs) = 1

-- what its creation answered; variable 0 is there from the start
abbrev pub created : Start → Result DomainId Refusal
created Start.fresh = Ok (record { 0 = 0 })
created (Start.dense b) = Calls.grow_answer Calls.fresh b
created (Start.list vs) = Calls.list_answer Calls.fresh vs

-- ---- its posts

-- a kind and a value
pub record Post : Type 0 where
  pub kind : PredicateType
  pub value : ℤ

-- the predicate of a post to variable x
abbrev pub on : ℕ → Post → Predicate
on x p = record { domain = record { 0 = x }; kind = p.kind; value = p.value }

-- a post's two answers that are no refusal
abbrev pub changed : Told
changed = Told.ok 1

abbrev pub unchanged : Told
unchanged = Told.ok 0

-- a post, its answer, and what is seen then
pub record Line : Type 0 where
  pub post : Post
  pub answer : Told
  pub sight : Seen

-- a post with the store's answer
abbrev pub line : Post → Result Bool Refusal → Seen → Line
line p a w = record { post = p; answer = told_of a; sight = w }

-- posts to variable x one after another, without a reason
unfoldable pub ran : Assignments → ℕ → List Post → List Line
ran s x [] = []
ran s x (p ∷ ps) =
    let t : Assignments = Calls.post_store s (on x p) None in
    line p (Calls.post_answer s (on x p)) (shown t x) ∷ ran t x ps
